use Rattle.std.proofs.Common.{sym, ap, ◌∙◌, refl, length}
use Rattle.std.proofs.lemmas.Option.{slice_get_read}
use Rattle.std.proofs.lemmas.Bool.{ltb-true}
use Rattle.hera_meaning.specs.Forms.{of_table, kinds_of}
use Rattle.hera_stacks.specs.declared.forms.FlatForm.TheVariants as flat
use Rattle.hera_stacks.specs.Flat.{flat_form}
use Rattle.hera_effects.proofs.Declared.{declared}
use Rattle.hera_effects.specs.Operations.{flat_one}
use Rattle.hera_effects.proofs.prims.changed.Goals as goal

pub returns-in_ok-kinds_of-in-Some : goal.returns-in_ok-kinds_of-in-Some
returns-in_ok-kinds_of-in-Some c =
    let at = slice_get_read c.args.relations.now (length c.args.relations.now) c.args.rel.0 c.in-Some.decl.now refl (ltb-true _ _ (sym c.in-Some.ensures.lookup.0)) c.in-Some.ensures.lookup.1 in
    c.takes_one.ensures ∙ ap (λ k. flat_one flat.Delta (flat.Table k) c.args.args.now) c.in_ok-kinds_of-in-Some.ensures ∙ declared (λ s. flat_one flat.Delta (flat_form (of_table (kinds_of s))) c.args.args.now) c.args.relations.now c.args.rel.0 c.in-Some.decl.now at
