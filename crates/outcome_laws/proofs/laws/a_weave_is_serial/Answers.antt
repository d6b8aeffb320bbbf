use Rattle.hera_host.specs.Tables.{specs_of}
use Rattle.hera_woven.specs.Weaving.{all_bound, tasks_of}
use Rattle.outcome_laws.proofs.Serial.{sessions_sound}
use Rattle.outcome_laws.proofs.laws.a_weave_is_serial.Goals as goal

pub returns-clause-sessions : goal.returns-clause-sessions
returns-clause-sessions c = sessions_sound c.accepted_programs_are_sound.ensures

pub returns-clause-serial : goal.returns-clause-serial
returns-clause-serial c = λ hosts turns before now ps files db schedule are accepting holds has.
    let sound = sessions_sound c.accepted_programs_are_sound.ensures hosts turns before now ps files db are accepting holds has in
    c.sessions_that_commit_are_serial.ensures (tasks_of turns (all_bound db.catalogue ps)) db.catalogue db.state (specs_of hosts) schedule sound.0 sound.1
