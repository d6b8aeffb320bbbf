use Rattle.std.proofs.Common.{[], ◌∙◌, ap}
use Rattle.hera_sets.specs.Sets.{union_of}
use Rattle.hera_sets.proofs.Members.{normal_ascending}
use Rattle.hera_csv.proofs.Back.{good_back, same_back}
use Rattle.hera_csv.proofs.laws.what_is_written_is_read_back.Goals as goal

pub returns-clause-good : goal.returns-clause-good
returns-clause-good c = good_back

pub returns-clause-rows : goal.returns-clause-rows
returns-clause-rows c = same_back

pub returns-clause-into_empty : goal.returns-clause-into_empty
returns-clause-into_empty c = λ schema rows is names all up. ap (union_of []) (same_back schema rows is names all up) ∙ normal_ascending rows up
