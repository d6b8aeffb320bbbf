use Rattle.std.proofs.Common.{arith, ap}
use Rattle.std.proofs.lemmas.List.{drop_all}
use Rattle.delta_atoms.proofs.Sides.{total, length-atoms_of}
use Rattle.delta_atoms.proofs.parts.count.Goals as goal

pub returns : goal.returns
returns c = omega (arith, c.loop-part.invariant.counted, ap total (drop_all c.loop-part.part-index c.args.parts.now (omega arith)), length-atoms_of c.args.parts.now)
