use Rattle.std.proofs.Common.{sym, ap, ◌∙◌, Some}
use Rattle.std.proofs.lemmas.Result.{IfOk-weaker}
use Rattle.hera_stacks.specs.declared.forms.FlatSeen.TheVariants as flat_seens
use Rattle.hera_stacks.proofs.Flattened.{kinds_are}
use Rattle.hera_effects.proofs.Stepping.{pushed_so}
use Rattle.hera_effects.proofs.moves.push_if.Goals as goal

pub returns-in-Some-clause-pushed : goal.returns-in-Some-clause-pushed
returns-in-Some-clause-pushed c ss f h e =
    pushed_so c.args.stacks.now c.with.new.self c.args.operands c.in-Some.form f ss c.with.result c.with.ensures.grows h (sym c.in-Some.is ∙ e)
    (IfOk-weaker c.with.result _ _ (λ list n. n ∙ ap (λ x. Some (record { seen = flat_seens.Known c.in-Some.form; gathers = x; below = c.args.operands })) (kinds_are c.no_kinds.result 0 c.no_kinds.ensures)) c.with.ensures.number)
