use Rattle.std.proofs.Common.{sym, ap, ◌∙◌}
use Rattle.hera_effects.specs.Operations.{flat_agrees}
use Rattle.hera_effects.proofs.Operating.{agrees_is}
use Rattle.hera_effects.proofs.moves.agrees.Goals as goal

pub returns-in-Known-clause-plain : goal.returns-in-Known-clause-plain
returns-in-Known-clause-plain c s f seen form =
    c.same_form.ensures.flat ∙ ap (λ x. flat_agrees x c.args.form) (sym c.in-Known.is) ∙ (λ i. flat_agrees (seen i) (form i)) ∙ agrees_is s f
