use Rattle.std.proofs.Common.{◌≡◌, ◌++◌, ◌-◌}
use Rattle.hera_code.specs.Scheme.{leaves}
use Rattle.hera_codegen.proofs.patches.put_leaves.Given as goal

abbrev pub invariant-loop-i : goal.invariant-loop-i
invariant-loop-i l = l.code.items ++ leaves (l.n - l._i) ≡ l.initial.code.items ++ leaves l.n
