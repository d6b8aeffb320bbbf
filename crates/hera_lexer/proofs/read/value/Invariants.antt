use Rattle.std.proofs.Common.{◌≡◌, ◌++◌, ◌≤◌, drop, length, false}
use Rattle.hera_meaning.specs.Texts.{text_limit}
use Rattle.hera_lexer.specs.Read.{value_of}
use Rattle.hera_lexer.proofs.read.value.Given as goal

-- the value so far, and that of what is left
abbrev pub invariant-loop-b : goal.invariant-loop-b
invariant-loop-b l = record {
  whole : l.value.items ++ value_of l.escaped (drop l.b-index l.body) ≡ value_of false l.body;
  short : length l.value.items ≤ text_limit;
}
