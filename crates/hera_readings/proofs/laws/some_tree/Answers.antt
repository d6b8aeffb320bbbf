use Rattle.hera_readings.proofs.Texts.{text_or_fault}
use Rattle.hera_readings.proofs.laws.some_tree.Goals as goal

pub returns : goal.returns
returns c = text_or_fault c.reads_a_text.ensures c.stops_at_the_fault.ensures
