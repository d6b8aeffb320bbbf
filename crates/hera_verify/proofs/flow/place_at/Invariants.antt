use Rattle.std.proofs.Common.{◌-◌, length}
use Rattle.hera_verify.specs.Tables.{IsPlaced}
use Rattle.hera_verify.proofs.flow.place_at.Given as goal

abbrev pub invariant-loop-own : goal.invariant-loop-own
invariant-loop-own l = IsPlaced l.code l.a l.own

abbrev pub decreases-loop-own : goal.decreases-loop-own
decreases-loop-own l = length l.code.bodies - l.own.body
