use Rattle.std.proofs.Common.{◌≡◌, ◌++◌, drop}
use Rattle.hera_meaning.specs.Rows.{fields_of}
use Rattle.hera_meaning.specs.Printed.{inner_text, fields_text}
use Rattle.hera_print.proofs.Joined.{parts_from}
use Rattle.hera_print.proofs.tuples.put_fields.Given as goal

-- with the fields to come, the text is whole
abbrev pub invariant-loop-i : goal.invariant-loop-i
invariant-loop-i l = l.out.items ++ parts_from inner_text l.i (drop l.i (fields_of l.schema l.row)) ≡ l.initial.out.items ++ fields_text (fields_of l.schema l.row)
