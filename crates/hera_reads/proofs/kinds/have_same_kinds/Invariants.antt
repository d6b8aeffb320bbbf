use Rattle.std.proofs.Common.{◌≡◌, drop}
use Rattle.hera_reads.specs.Kinds.{have_same_kinds}
use Rattle.hera_reads.proofs.kinds.have_same_kinds.Given as goal

abbrev pub invariant-loop-i : goal.invariant-loop-i
invariant-loop-i l = have_same_kinds (drop l.i l.a) (drop l.i l.b) ≡ have_same_kinds l.a l.b
