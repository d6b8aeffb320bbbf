use Rattle.half_laws.proofs.Halves.{is_format}
use Rattle.half_laws.proofs.laws.each_version_is_a_format.Goals as goal

pub returns : goal.returns
returns c = λ v. is_format v
