use Rattle.std.proofs.Common.{ap, ◌∙◌}
use Rattle.hera_row.specs.Numbers.{number_named}
use Rattle.hera_row.proofs.EntryLemmas.{key_place}
use Rattle.hera_row.proofs.catalogue.Catalogue.find.Goals as goal

pub returns-in_err-number-clause-number : goal.returns-in_err-number-clause-number
returns-in_err-number-clause-number c =
    rw c.from_residual.ensures (c.in_err-number.ensures.index ∙ key_place c.args.name.now c.self.inside.decls.entries c.self.invariant.named ∙ ap (number_named c.args.name.now) c.self.view_is)

pub returns-clause-number : goal.returns-clause-number
returns-clause-number c = c.in_ok-number.ensures.index ∙ key_place c.args.name.now c.self.inside.decls.entries c.self.invariant.named ∙ ap (number_named c.args.name.now) c.self.view_is
