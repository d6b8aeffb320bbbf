use Rattle.std.proofs.Common.{◌∙◌, sym, ap}
use Rattle.std.specs.Prelude.{Some}
use Rattle.hera_meaning.specs.Plain.{body_of, block_in}
use Rattle.hera_meaning.specs.Sound.{returns as last_returns}
use Rattle.hera_rules.specs.Environments.{env_of}
use Rattle.hera_rules.specs.ReadActs.{func_phrase, block_acts}
use Rattle.hera_types_parts.proofs.Giving.{gives_err}
use Rattle.hera_types.specs.Passes.{body_row}
use Rattle.hera_types.proofs.Made.{func_done, func_no_return, func_breaks}
use Rattle.hera_types.proofs.bodies.func_body.Goals as goal

pub returns-in_err-body : goal.returns-in_err-body
returns-in_err-body c =
    gives_err body_of _ c.from_residual-in_err-body.ensures.1
    (λ ne. func_breaks (env_of c.args.globals.now) c.args.sig.now (func_phrase c.args.tree.now)
    (ap (λ t. body_row (env_of c.args.globals.now) (Some t) c.args.sig.now.params (block_acts c.args.tree.now.block)) (sym c.in_ok-copy.ensures)
    ∙ ap (λ ps. body_row (env_of c.args.globals.now) (Some c.in_ok-copy.field-0) ps (block_acts c.args.tree.now.block)) (sym c.items.ensures) ∙ c.in_err-body.ensures ne))

pub returns-then-not-block_returns : goal.returns-then-not-block_returns
returns-then-not-block_returns c = λ ne.
    func_no_return (env_of c.args.globals.now) c.args.sig.now (func_phrase c.args.tree.now) (body_of c.in_ok-body.body)
    (ap (λ t. body_row (env_of c.args.globals.now) (Some t) c.args.sig.now.params (block_acts c.args.tree.now.block)) (sym c.in_ok-copy.ensures)
    ∙ ap (λ ps. body_row (env_of c.args.globals.now) (Some c.in_ok-copy.field-0) ps (block_acts c.args.tree.now.block)) (sym c.items.ensures) ∙ c.in_ok-body.ensures)
    (ap (λ ss. last_returns (block_in ss)) (sym c.deref.ensures.value) ∙ sym c.block_returns.ensures ∙ c.if-not-block_returns.true)

pub returns : goal.returns
returns c =
    func_done (env_of c.args.globals.now) c.args.sig.now (func_phrase c.args.tree.now) (body_of c.in_ok-body.body)
    (ap (λ t. body_row (env_of c.args.globals.now) (Some t) c.args.sig.now.params (block_acts c.args.tree.now.block)) (sym c.in_ok-copy.ensures)
    ∙ ap (λ ps. body_row (env_of c.args.globals.now) (Some c.in_ok-copy.field-0) ps (block_acts c.args.tree.now.block)) (sym c.items.ensures) ∙ c.in_ok-body.ensures)
    (ap (λ ss. last_returns (block_in ss)) (sym c.deref.ensures.value) ∙ sym c.block_returns.ensures ∙ c.if-not-block_returns.false)
