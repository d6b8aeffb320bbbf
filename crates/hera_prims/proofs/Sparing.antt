-- Which operations end for want of memory.
use Rattle.std.proofs.Common.{◌≡◌, true, Result, Ok, Err}
use Rattle.hera_meaning.specs.declared.trees.Op.{Op}
use Rattle.delta_atoms.specs.declared.value.Value.{Value}
use Rattle.hera_prims.specs.declared.end.PrimEnd.{PrimEnd}
use Rattle.hera_prims.specs.declared.end.PrimEnd.TheVariants.{Trap, Memory}
use Rattle.hera_prims.specs.Answered.{IsSparing}
use Rattle.hera_fits.specs.Tables.{takes_memory}

-- one that takes memory may
pub may_want : (op : Op) (end : Result Value PrimEnd) → takes_memory op ≡ true → IsSparing op end
may_want op (Ok v) h = tt
may_want op (Err (Trap name)) h = tt
may_want op (Err Memory) h = h

pub ruleset sparing = (may_want)
