use Rattle.std.proofs.Common.{sym, ap, ◌∙◌, refl, length, subst, Some, ◌+◌}
use Rattle.std.proofs.lemmas.Option.{slice_get_read}
use Rattle.std.proofs.lemmas.Bool.{ltb-true}
use Rattle.hera_meaning.specs.Forms.{of_table, kinds_of}
use Rattle.hera_stacks.specs.declared.forms.FlatForm.TheVariants as flat
use Rattle.hera_effects.proofs.Declared.{declared}
use Rattle.hera_effects.specs.Ways.{Both}
use Rattle.hera_effects.specs.Plain.{IsPlain, gives_on}
use Rattle.hera_effects.proofs.plain.rel.Goals as goal

pub returns : goal.returns
returns c code hosts notes k =
    let at = slice_get_read c.args.relations.now (length c.args.relations.now) c.args.rel.0 c.in-Some.decl.now refl (ltb-true _ _ (sym c.in-Some.ensures.lookup.0)) c.in-Some.ensures.lookup.1 in
    subst (λ o. Both IsPlain (Some c.gives.result) o) (declared (λ s. Some (gives_on (of_table (kinds_of s)) (c.args.a + 1))) c.args.relations.now c.args.rel.0 c.in-Some.decl.now at)
    (record { takes = c.gives.ensures.takes; gives = c.gives.ensures.gives ∙ ap (λ k. Some (flat.Table k)) c.in_ok-kinds_of.ensures; ways = c.gives.ensures.ways })
