use Rattle.std.proofs.Common.{sym, ap, ◌∙◌, map}
use Rattle.std.proofs.lemmas.Result.{IfOk-weaker}
use Rattle.hera_meaning.specs.Forms.{project_kinds, agg_kind}
use Rattle.hera_stacks.specs.Flat.{numbered}
use Rattle.hera_stacks.proofs.Flattened.{kinds_are, numbered_append}
use Rattle.hera_stacks.proofs.forms.group_kinds.Goals as goal

pub returns : goal.returns
returns c =
    let s = c.args.schema.now in
    let by = project_kinds s c.args.by.now in
    let aggs = map (agg_kind s) c.args.aggs.now in
    IfOk-weaker c.and_aggs.result _ _ (λ x h. kinds_are x _ (h ∙ ap (λ n. numbered n aggs) (c.in_ok-keys.ensures ∙ ap (λ n. numbered n by) c.no_kinds.ensures) ∙ sym (numbered_append 0 by aggs))) c.and_aggs.ensures
