use Rattle.std.proofs.Common.{◌≡◌, ◌+◌, IsUtf8, length}
use Rattle.hera_lexer.specs.Scan.{word_len}
use Rattle.hera_lexer.proofs.scan.word_len.Given as goal

abbrev pub invariant-loop-c : goal.invariant-loop-c
invariant-loop-c l =
    (goal.iterator-loop-c).can_next l.rest × (goal.iterator-loop-c).is_finite l.rest
    × (l.len + word_len l.rest.rest.now ≡ word_len l.text) × IsUtf8 l.rest.rest.now × (l.len + length l.rest.rest.now ≡ length l.text)
