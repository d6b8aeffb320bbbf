use Rattle.std.proofs.Common.{sym, subst}
use Rattle.hera_meaning.specs.Deltas.{plus_atoms}
use Rattle.hera_meaning.specs.Values.{Value, delta_in}
use Rattle.hera_meaning.specs.Primitives.{read_delta}
use Rattle.delta_atoms.specs.Plain.{value_of}
use Rattle.hera_prims.specs.Answered.{IsAnswer}
use Rattle.hera_fits.proofs.Operands.{operand_some}
use Rattle.hera_prims.proofs.sets.ins.Goals as goal

pub returns-in-Some : goal.returns-in-Some
returns-in-Some c =
    subst (λ (v : Value). IsAnswer c.part_of.result (read_delta plus_atoms c.args.rel.0 (delta_in v))) (sym (operand_some c.args.args.now 0 (value_of c.in-Some.v.now) c.in-Some.ensures)) c.part_of.ensures
