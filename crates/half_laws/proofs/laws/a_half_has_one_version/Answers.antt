use Rattle.half_laws.proofs.Halves.{half_version}
use Rattle.half_laws.proofs.laws.a_half_has_one_version.Goals as goal

pub returns : goal.returns
returns c = λ v bytes rels state h. half_version v bytes rels state h
