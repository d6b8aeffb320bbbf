use Rattle.std.proofs.Common.{◌≡◌, ◌++◌, drop}
use Rattle.hera_meaning.specs.Printed.{attr_text, attrs_text}
use Rattle.hera_print.proofs.Joined.{parts_from}
use Rattle.hera_print.proofs.decls.put_attrs.Given as goal

-- with the attributes to come, the text is whole
abbrev pub invariant-loop-i : goal.invariant-loop-i
invariant-loop-i l = l.out.items ++ parts_from attr_text l.i (drop l.i l.schema) ≡ l.initial.out.items ++ attrs_text l.schema
