use Rattle.hera_sound.proofs.Fixed_acts.{one_script}
use Rattle.hera_sound.proofs.laws.outlines_tell_scripts.Goals as goal

pub returns : goal.returns
returns c = one_script
