use Rattle.std.proofs.Common.{sym, ap, ◌∙◌}
use Rattle.hera_meaning.specs.Values.{operand, same_value}
use Rattle.delta_atoms.specs.Plain.{value_of}
use Rattle.hera_fits.proofs.Operands.{operand_some}
use Rattle.hera_prims.proofs.compare.are_same.Goals as goal

pub returns-in-Some-get : goal.returns-in-Some-get
returns-in-Some-get c =
    c.same_value.ensures
    ∙ ap (λ v. same_value v (value_of c.in-Some-get.b.now)) (sym (operand_some c.args.args.now 0 (value_of c.in-Some.a.now) c.in-Some.ensures))
    ∙ ap (λ v. same_value (operand c.args.args.now 0) v) (sym (operand_some c.args.args.now 1 (value_of c.in-Some-get.b.now) c.in-Some-get.ensures))
