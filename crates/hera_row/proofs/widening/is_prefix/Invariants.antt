use Rattle.std.proofs.Common.{◌≡◌, drop}
use Rattle.hera_meaning.specs.Wider.{is_prefix}
use Rattle.hera_row.proofs.widening.is_prefix.Given as goal

-- what is left decides
abbrev pub invariant-loop-i : goal.invariant-loop-i
invariant-loop-i l = is_prefix l.old l.new ≡ is_prefix (drop l.i l.old) (drop l.i l.new)
