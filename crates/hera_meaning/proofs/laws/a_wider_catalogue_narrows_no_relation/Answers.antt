use Rattle.hera_meaning.proofs.WiderLaws.{none_narrowed, wider_narrows_none}
use Rattle.hera_meaning.proofs.laws.a_wider_catalogue_narrows_no_relation.Goals as goal

pub returns : goal.returns
returns c = λ old new. (wider_narrows_none old new, none_narrowed old new)
