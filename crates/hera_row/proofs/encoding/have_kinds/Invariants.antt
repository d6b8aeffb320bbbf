use Rattle.std.proofs.Common.{◌≡◌, drop}
use Rattle.hera_row.specs.Fields.{have_kinds}
use Rattle.hera_row.proofs.encoding.have_kinds.Given as goal

-- it is left to look at the others
abbrev pub invariant-loop-i : goal.invariant-loop-i
invariant-loop-i l = have_kinds (drop l.i l.schema) (drop l.i l.fields) ≡ have_kinds l.schema l.fields
