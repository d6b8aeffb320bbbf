use Rattle.std.proofs.Common.{◌∙◌, ap, [], arith}
use Rattle.hera_meaning.specs.Plain.{body_of}
use Rattle.hera_rules.specs.CheckedActs.{check_acts}
use Rattle.hera_rules.specs.Environments.{env_of}
use Rattle.hera_rules.specs.ReadActs.{block_acts}
use Rattle.hera_types_parts.proofs.Giving.{gives_err}
use Rattle.hera_types.proofs.Block_lemmas.{block_of_commands}
use Rattle.hera_types.proofs.Made.{body_done, body_breaks}
use Rattle.hera_types.proofs.bodies.body_of_block.Goals as goal

pub returns-in_err-stmts : goal.returns-in_err-stmts
returns-in_err-stmts c =
    gives_err body_of _ c.from_residual-in_err-stmts.ensures.1
    (λ ne. body_breaks (env_of c.args.globals.now) c.args.returned.now c.args.params.now _ _ (block_acts c.args.e.now) c.in_ok-scope.ensures.locals c.in_ok-scope.ensures.next (c.in_err-stmts.ensures.checks ne))

pub returns : goal.returns
returns c =
    let g = env_of c.args.globals.now in
    let acts = block_acts c.args.e.now in
    let begun = c.in_ok-scope.scope in
    body_done g c.args.returned.now c.args.params.now begun.locals.items c.next_slot-count.result _ _ _ acts c.in_ok-scope.ensures.locals
    (c.next_slot-count.ensures ∙ c.in_ok-scope.ensures.next)
    (ap (λ n. check_acts g c.args.returned.now begun.locals.items n [] acts) c.next_slot-count.ensures ∙ c.in_ok-stmts.ensures.checks)
    (omega (arith, c.next_slot-slots.ensures, c.in_ok-stmts.ensures.keeps.next, c.next_slot-count.ensures)) c.is_some.ensures (block_of_commands _)
