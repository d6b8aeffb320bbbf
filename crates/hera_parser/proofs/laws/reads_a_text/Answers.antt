use Rattle.hera_parser.proofs.Whole.{text_of}
use Rattle.hera_parser.proofs.laws.reads_a_text.Goals as goal

pub returns : goal.returns
returns c = text_of
