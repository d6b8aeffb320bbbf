use Rattle.std.proofs.lemmas.Result.{IfOk-weaker}
use Rattle.hera_host.specs.Tables.{specs_of}
use Rattle.hera_typed.specs.Notes.{notes_of}
use Rattle.hera_verify.proofs.Calling.{calls_grow}
use Rattle.hera_verify.proofs.calls.effect_once.Goals as goal

pub returns-in-None-clause-kept : goal.returns-in-None-clause-kept
returns-in-None-clause-kept g c p spot =
    let around = c.args.around.now in
    IfOk-weaker c.effect.result _ _ (λ r own. calls_grow around.code.now around.relations.now (specs_of around.hosts.now.names) (notes_of around.notes.now) c.args.stacks.now c.effect.new.stacks c.args.calls.now c.effect.ensures.grows c.requires.calls) (c.effect.ensures.effect p spot)
