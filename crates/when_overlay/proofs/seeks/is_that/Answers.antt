use Rattle.std.proofs.Common.{◌∙◌, ap, sym, Some}
use Rattle.std.specs.Option.{option_copied}
use Rattle.hera_sets.proofs.Order.{same_true}
use Rattle.when_overlay.proofs.seeks.is_that.Goals as goal

pub returns-in-Some : goal.returns-in-Some
returns-in-Some c = λ h. ap option_copied c.in-Some.is ∙ ap Some (same_true c.in-Some.one.now c.args.row.now (sym c.is_same.ensures ∙ h))
