use Rattle.std.proofs.Common.{◌≡◌, take}
use Rattle.hera_rows.proofs.stacks.equal.Given as goal

-- the blocks up to this place are the same
abbrev pub invariant-loop-k : goal.invariant-loop-k
invariant-loop-k l = take l.k l.blocks ≡ take l.k l.others
