use Rattle.std.proofs.Common.{sym, ◌∙◌, refl, length}
use Rattle.std.proofs.lemmas.Option.{slice_get_read}
use Rattle.std.proofs.lemmas.Bool.{ltb-true}
use Rattle.std.proofs.lemmas.Result.{IfOk-weaker}
use Rattle.hera_meaning.specs.Forms.{of_tuple, kinds_of}
use Rattle.hera_stacks.specs.declared.forms.FlatForm.TheVariants as flat
use Rattle.hera_stacks.specs.Flat.{flat_form}
use Rattle.hera_effects.proofs.Declared.{declared}
use Rattle.hera_effects.specs.Operations.{flat_one}
use Rattle.hera_effects.proofs.prims.atom.Goals as goal

pub returns-in-Some : goal.returns-in-Some
returns-in-Some c =
    let at = slice_get_read c.args.relations.now (length c.args.relations.now) c.args.rel.0 c.in-Some.decl.now refl (ltb-true _ _ (sym c.in-Some.ensures.lookup.0)) c.in-Some.ensures.lookup.1 in
    IfOk-weaker c.takes_tuple.result _ _ (λ x h. h ∙ declared (λ s. flat_one (flat_form (of_tuple (kinds_of s))) flat.Delta c.args.args.now) c.args.relations.now c.args.rel.0 c.in-Some.decl.now at) c.takes_tuple.ensures
