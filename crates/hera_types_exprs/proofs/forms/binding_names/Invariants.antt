use Rattle.std.proofs.Common.{◌≡◌, ◌++◌, map, take}
use Rattle.hera_rules.specs.Read.{binding_word}
use Rattle.hera_types_exprs.proofs.forms.binding_names.Given as goal

abbrev pub invariant-loop-binding : goal.invariant-loop-binding
invariant-loop-binding l = l.all.items ≡ l.initial.all.items ++ map binding_word (take l.binding-index l.binding-items)
