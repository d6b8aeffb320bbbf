use Rattle.hera_rules.specs.ReadActs.{script_of}
use Rattle.hera_types.proofs.Decided.{typed_script, first_fault, sound_script}
use Rattle.hera_types.proofs.scripts.elaborate.Goals as goal

pub returns-clause-typed : goal.returns-clause-typed
returns-clause-typed g c = typed_script c.args.hosts.now.names (script_of c.args.tree.now) _ c.checked.ensures

pub returns-clause-sound : goal.returns-clause-sound
returns-clause-sound g c =
    sound_script c.args.hosts.now.names (script_of c.args.tree.now) _
    (λ p e. c.typed_programs_are_sound.ensures c.args.tree.now c.requires.0 c.args.hosts.now.names p c.requires.1 c.requires.2 c.requires.3 c.len-count.ensures.valid e)
    (typed_script c.args.hosts.now.names (script_of c.args.tree.now) _ c.checked.ensures)

pub returns-clause-fault : goal.returns-clause-fault
returns-clause-fault g c = first_fault c.args.hosts.now.names (script_of c.args.tree.now) _ c.checked.ensures
