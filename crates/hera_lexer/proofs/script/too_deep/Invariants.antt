use Rattle.std.proofs.Common.{◌≡◌, ◌≤◌, drop}
use Rattle.hera_syntax.specs.Tokens.{deep_at}
use Rattle.hera_lexer.proofs.script.too_deep.Given as goal

abbrev pub invariant-loop-token : goal.invariant-loop-token
invariant-loop-token l = record {
  rest : deep_at l.depth (drop l.token-index l.tokens) ≡ deep_at 0 l.tokens;
  low : l.depth ≤ 64;
}
