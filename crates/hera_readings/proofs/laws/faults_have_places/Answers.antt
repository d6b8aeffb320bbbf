use Rattle.hera_readings.proofs.Faults.{no_want}
use Rattle.hera_readings.proofs.laws.faults_have_places.Goals as goal

pub returns : goal.returns
returns c = no_want
