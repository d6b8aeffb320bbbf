use Rattle.std.proofs.Common.{◌≡◌, drop, false}
use Rattle.hera_lexer.specs.Scan.{comment_len, farther}
use Rattle.hera_lexer.proofs.scan.comment_len.Given as goal

-- what is left gives the answer
abbrev pub invariant-loop-i : goal.invariant-loop-i
invariant-loop-i l = farther l.i (comment_len l.star (drop l.i l.bytes)) ≡ comment_len false l.bytes
