use Rattle.std.proofs.lemmas.Result.{IfOk-weaker}
use Rattle.hera_host.specs.Tables.{specs_of}
use Rattle.hera_typed.specs.Notes.{notes_of}
use Rattle.hera_verify.specs.Calls.{call_of, making_of}
use Rattle.hera_verify.proofs.Calling.{left_grow, make_replaces}
use Rattle.hera_verify.proofs.calls.make_once.Goals as goal

pub returns-clause-effect : goal.returns-clause-effect
returns-clause-effect g c p spot = c.once.ensures.effect making_of c.requires.making.0 p c.requires.making.1 spot c.requires.calls.made

pub returns-clause-kept : goal.returns-clause-kept
returns-clause-kept g c p spot =
    let code = c.args.around.now.code.now in
    let rels = c.args.around.now.relations.now in
    let hosts = specs_of c.args.around.now.hosts.now.names in
    let notes = notes_of c.args.around.now.notes.now in
    IfOk-weaker c.once.result _ _ (λ r own. record {
      left = left_grow code rels hosts notes c.args.stacks.now c.once.new.stacks call_of c.args.calls.now.left c.once.ensures.grows c.requires.calls.left;
      made = own;
    }) (c.once.ensures.kept making_of c.requires.making.0 p c.requires.making.1 (make_replaces code rels hosts notes c.args.count) spot c.requires.calls.made)
