use Rattle.hera_sessions.proofs.Closing.{are_closed}
use Rattle.hera_sessions.proofs.Growing.{weave_stays, weave_grows, are_once}
use Rattle.hera_sessions.proofs.open_sessions_are_silent.Goals as goal

pub returns-clause-silent : goal.returns-clause-silent
returns-clause-silent c = weave_stays

pub returns-clause-closing : goal.returns-clause-closing
returns-clause-closing c = weave_grows

pub returns-clause-closed : goal.returns-clause-closed
returns-clause-closed c = are_closed

pub returns-clause-once : goal.returns-clause-once
returns-clause-once c = are_once
