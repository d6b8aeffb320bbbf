use Rattle.hera_rules.specs.ReadActs.{script_of}
use Rattle.hera_sound.proofs.Read_acts.{script_made}
use Rattle.hera_sound.proofs.Scripts.{script_shaped}
use Rattle.hera_sound.proofs.laws.typed_programs_are_shaped.Goals as goal

pub returns : goal.returns
returns c = λ tree tokens hosts p text few values hosts_are typed. script_shaped hosts (script_of tree) p hosts_are (script_made tree tokens text few values) typed
