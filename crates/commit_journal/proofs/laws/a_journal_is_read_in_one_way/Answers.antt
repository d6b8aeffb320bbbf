use Rattle.commit_journal.proofs.Once.{read_whole, read_once}
use Rattle.commit_journal.proofs.laws.a_journal_is_read_in_one_way.Goals as goal

pub returns-clause-whole : goal.returns-clause-whole
returns-clause-whole c = λ rels bytes first deltas end at journal. read_whole rels bytes first deltas end at journal

pub returns-clause-once : goal.returns-clause-once
returns-clause-once c = λ rels bytes first deltas end others place journal other. read_once rels bytes first deltas others end place journal other
