use Rattle.std.proofs.lemmas.Result.{IfOk-weaker}
use Rattle.hera_host.specs.Tables.{specs_of}
use Rattle.hera_typed.specs.Notes.{notes_of}
use Rattle.hera_verify.specs.Calls.{call_of, making_of}
use Rattle.hera_verify.proofs.Calling.{left_grow, call_replaces}
use Rattle.hera_verify.proofs.calls.call_once.Goals as goal

pub returns-clause-effect : goal.returns-clause-effect
returns-clause-effect g c p spot = c.once.ensures.effect call_of 0 p c.requires.call spot c.requires.calls.left

pub returns-clause-kept : goal.returns-clause-kept
returns-clause-kept g c p spot =
    let code = c.args.around.now.code.now in
    let rels = c.args.around.now.relations.now in
    let hosts = specs_of c.args.around.now.hosts.now.names in
    let notes = notes_of c.args.around.now.notes.now in
    IfOk-weaker c.once.result _ _ (λ r own. record {
      left = own;
      made = left_grow code rels hosts notes c.args.stacks.now c.once.new.stacks making_of c.args.calls.now.made c.once.ensures.grows c.requires.calls.made;
    }) (c.once.ensures.kept call_of 0 p c.requires.call (call_replaces code rels hosts notes c.args.j) spot c.requires.calls.left)
