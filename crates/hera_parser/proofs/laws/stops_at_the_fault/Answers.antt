use Rattle.hera_parser.proofs.Whole.{fault_at}
use Rattle.hera_parser.proofs.laws.stops_at_the_fault.Goals as goal

pub returns : goal.returns
returns c = fault_at
