use Rattle.hera_parser.proofs.Beginnings.{by_cases, from_cases}
use Rattle.hera_parser.proofs.laws.beginnings_by_cases.Goals as goal

pub returns : goal.returns
returns c = λ s ts. (by_cases s ts, from_cases s ts)
