use Rattle.hera_parser.proofs.OneFault.{one_place}
use Rattle.hera_parser.proofs.laws.one_fault.Goals as goal

pub returns : goal.returns
returns c = one_place
