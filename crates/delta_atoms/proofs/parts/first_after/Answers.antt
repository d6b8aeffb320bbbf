use Rattle.std.proofs.Common.{◌∙◌}
use Rattle.delta_atoms.specs.Atoms.{is_after}
use Rattle.delta_atoms.specs.Refs.{atom_in, bound_of}
use Rattle.delta_atoms.proofs.Nexts.{packed_at, this_part, next_part}
use Rattle.delta_atoms.proofs.parts.first_after.Goals as goal

pub above-requires : goal.above-requires
above-requires c = packed_at c.args.parts.now c.loop-part.part-index c.part-item.result c.requires c.loop-part-test.true c.part-item.is

pub returns-in-Some : goal.returns-in-Some
returns-in-Some c =
    this_part (is_after (bound_of c.args.bound)) c.args.parts.now c.loop-part.part-index c.part-item.result (atom_in c.in-Some.atom) c.loop-part-test.true c.part-item.is c.in-Some.ensures
    ∙ c.loop-part.invariant

pub loop-part-preserved : goal.loop-part-preserved
loop-part-preserved c =
    next_part (is_after (bound_of c.args.bound)) c.args.parts.now c.loop-part.part-index c.part-item.result c.loop-part-test.true c.part-item.is c.in_default.ensures
    ∙ c.loop-part.invariant
