use Rattle.std.proofs.Common.{◌∙◌}
use Rattle.hera_sessions.specs.Weaving.{woven}
use Rattle.hera_sessions.proofs.Serially.{right}
use Rattle.hera_sessions.proofs.Growing.{events_deltas}
use Rattle.hera_sessions.proofs.commits_are_what_is_stored.Goals as goal

pub returns-clause-stored : goal.returns-clause-stored
returns-clause-stored c = λ tasks rels s hosts schedule are valid.
    events_deltas s (woven tasks s hosts schedule).closings ∙ (right tasks rels s hosts are valid schedule).stored

pub returns-clause-proper : goal.returns-clause-proper
returns-clause-proper c = λ tasks rels s hosts schedule are valid. (right tasks rels s hosts are valid schedule).good
