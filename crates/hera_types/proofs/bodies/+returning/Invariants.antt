use Rattle.std.proofs.Common.{◌≡◌, take, drop}
use Rattle.hera_meaning.specs.Plain.{block_in, arms_in}
use Rattle.hera_meaning.specs.Sound.{returns, arms_return}
use Rattle.hera_types.proofs.bodies.+returning.Given as goal

abbrev pub invariant-arms_return-loop-arm : goal.invariant-arms_return-loop-arm
invariant-arms_return-loop-arm l = arms_return (arms_in l.arms) ≡ arms_return (arms_in (drop l.arm-index l.arms))

abbrev pub invariant-block_returns-loop-stmt : goal.invariant-block_returns-loop-stmt
invariant-block_returns-loop-stmt l = l.ends ≡ returns (block_in (take l.stmt-index l.stmts))
