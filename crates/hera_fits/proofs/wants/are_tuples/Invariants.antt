use Rattle.std.proofs.Common.{◌≡◌, drop}
use Rattle.std.specs.Prelude.{replicate}
use Rattle.hera_meaning.specs.Fits.{a_tuple, all_meet}
use Rattle.hera_fits.proofs.wants.are_tuples.Given as goal

abbrev pub invariant-loop-i : goal.invariant-loop-i
invariant-loop-i l = all_meet (drop l.i (replicate l.n a_tuple)) (drop l.i l.args) ≡ all_meet (replicate l.n a_tuple) l.args
