use Rattle.hera_store.proofs.Founds.{found_one}
use Rattle.hera_store.proofs.laws.one_thing_is_found.Goals as goal

pub returns : goal.returns
returns c = λ files found other. found_one files found other
