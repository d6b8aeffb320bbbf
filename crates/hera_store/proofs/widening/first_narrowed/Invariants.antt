use Rattle.std.proofs.Common.{◌≡◌, drop}
use Rattle.hera_meaning.specs.Wider.{first_narrowed}
use Rattle.hera_store.proofs.widening.first_narrowed.Given as goal

-- what is left decides
abbrev pub invariant-loop-number : goal.invariant-loop-number
invariant-loop-number l = first_narrowed l.old l.new ≡ first_narrowed (drop l.number l.old) l.new
