use Rattle.hera_lexer.proofs.Verdict.{one_verdict}
use Rattle.hera_lexer.proofs.script.one_answer.Goals as goal

pub returns : goal.returns
returns c = one_verdict
