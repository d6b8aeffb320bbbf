use Rattle.std.proofs.Common.{sym, ap, ◌∙◌}
use Rattle.hera_meaning.specs.Schemas.{names_of}
use Rattle.hera_meaning.specs.Forms.{of_table, kinds_of, join_kinds}
use Rattle.hera_typed.specs.Points.{when}
use Rattle.hera_stacks.specs.declared.forms.FlatForm.TheVariants as flat
use Rattle.hera_stacks.specs.Flat.{flat_form}
use Rattle.hera_effects.specs.Operations.{flat_two}
use Rattle.hera_effects.proofs.Declared.{apart_so}
use Rattle.hera_effects.proofs.prims.joins.Goals as goal

pub returns : goal.returns
returns c =
    let l = c.args.left.now in
    let r = c.args.right.now in
    c.takes_two.ensures ∙ (λ i. flat_two (flat.Table (c.in_ok-a.ensures i)) (flat.Table (c.in_ok-b.ensures i)) (flat.Table (c.in_ok-both.ensures i)) c.args.args.now)
    ∙ ap (λ v. when v (flat_two (flat_form (of_table (kinds_of l))) (flat_form (of_table (kinds_of r))) (flat_form (of_table (join_kinds l r))) c.args.args.now)) (sym (apart_so (names_of r) c.len-count.ensures.valid.distinct))
