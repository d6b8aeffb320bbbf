use Rattle.std.proofs.Common.{◌≡◌, ◌++◌, take}
use Rattle.hera_meaning.specs.Printed.{quoted}
use Rattle.hera_meaning.proofs.writing.put_quoted_bytes.Given as goal

abbrev pub invariant-loop-byte : goal.invariant-loop-byte
invariant-loop-byte l = l.out.items ≡ l.initial.out.items ++ quoted (take l.byte-index l.text)
