use Rattle.std.proofs.Common.{◌∙◌, sym, ap, ◌++◌, cond, [], ◌∷◌}
use Rattle.hera_sets.specs.Rows.{holds}
use Rattle.hera_rules.specs.Rules.{old_names}
use Rattle.hera_types_algebra.proofs.Attributes.{kept_more}
use Rattle.hera_types_algebra.proofs.renames.kept_of.Goals as goal

pub loop-i-preserved : goal.loop-i-preserved
loop-i-preserved c =
    let a = c.attr.result.now in
    c.in_ok-keep.ensures ∙ ap (λ r. r ++ cond (holds (old_names c.args.renamed.now) a.name) [] (a.name ∷ [])) c.loop-i.invariant
    ∙ sym (kept_more c.args.schema.now (old_names c.args.renamed.now) c.loop-i.i a c.attr.ensures.attr)
