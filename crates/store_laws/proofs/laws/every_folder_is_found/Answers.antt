use Rattle.store_laws.proofs.Founds.{every_found}
use Rattle.store_laws.proofs.laws.every_folder_is_found.Goals as goal

pub returns : goal.returns
returns c = λ files bytes. every_found files bytes
