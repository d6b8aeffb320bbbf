use Rattle.hera_parser.proofs.Whole.{one_text}
use Rattle.hera_parser.proofs.laws.one_tree.Goals as goal

pub returns : goal.returns
returns c = one_text
