use Rattle.std.proofs.Common.{◌≡◌, drop, false}
use Rattle.hera_lexer.specs.Scan.{quoted_len, farther}
use Rattle.hera_lexer.proofs.scan.quoted_len.Given as goal

-- what is left gives the answer
abbrev pub invariant-loop-i : goal.invariant-loop-i
invariant-loop-i l = farther l.i (quoted_len l.escaped (drop l.i l.bytes)) ≡ quoted_len false l.bytes
