use Rattle.std.proofs.Common.{ap, ◌∙◌, is_some}
use Rattle.hera_sets.specs.Rows.{is_same}
use Rattle.join_exec.proofs.PairLemmas.{is_some-position}
use Rattle.join_exec.proofs.pairing.has_name.Goals as goal

pub returns : goal.returns
returns c = c.is_some.ensures ∙ ap is_some c.position.ensures.place ∙ is_some-position (λ a. is_same c.args.name.now a.name) 0 c.args.schema.now
