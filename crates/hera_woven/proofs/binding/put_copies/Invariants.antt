use Rattle.std.proofs.Common.{◌≡◌, ◌++◌, take}
use Rattle.hera_woven.proofs.binding.put_copies.Given as goal

abbrev pub invariant-loop-decl : goal.invariant-loop-decl
invariant-loop-decl l = l.decls.items ≡ l.initial.decls.items ++ take l.decl-index l.more
