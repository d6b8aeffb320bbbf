use Rattle.hera_sessions.proofs.Ways.{reader_closes, conflict_closes, commit_closes}
use Rattle.hera_sessions.proofs.sessions_close_as_their_runs.Goals as goal

pub returns-clause-readers : goal.returns-clause-readers
returns-clause-readers c = reader_closes

pub returns-clause-conflicts : goal.returns-clause-conflicts
returns-clause-conflicts c = conflict_closes

pub returns-clause-commits : goal.returns-clause-commits
returns-clause-commits c = commit_closes
