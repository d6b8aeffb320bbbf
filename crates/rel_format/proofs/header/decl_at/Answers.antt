use Rattle.std.proofs.Common.{refl}
use Rattle.std.proofs.lemmas.Result.{err_from_is_err_and}
use Rattle.std.specs.Prelude.{Vec, suc, ◌++◌, ◌∷◌, []}
use Rattle.std.specs.Global.{Global}
use Rattle.hera_meaning.specs.declared.schemas.Attr.{Attr}
use Rattle.hera_meaning.specs.declared.schemas.RelDecl.{RelDecl}
use Rattle.rel_format.specs.Table.{at_rels, behind_attr, with_attrs}
use Rattle.rel_format.proofs.Steps.{to_name, no_rel, to_width, no_name, to_attrs, no_width, opened, fault_on}
use Rattle.rel_format.proofs.header.decl_at.Goals as goal

pub returns-in_default-clause-read : goal.returns-in_default-clause-read
returns-in_default-clause-read c = rw c.damaged.ensures (λ f left r. no_rel f _ _ _ left r c.in_default.ensures.value)

pub returns-in_default-rel_name_at-clause-read : goal.returns-in_default-rel_name_at-clause-read
returns-in_default-rel_name_at-clause-read c =
    rw c.damaged-in_default-rel_name_at.ensures
    (λ f left r. no_name f _ _ _ left _ (to_name f _ _ _ left _ r c.in-Some.ensures.value) c.in_default-rel_name_at.ensures.name)

pub returns-in_default-width_at-clause-read : goal.returns-in_default-width_at-clause-read
returns-in_default-width_at-clause-read c =
    rw c.damaged-in_default-width_at.ensures
    (λ f left r. no_width f _ _ _ left _ (to_width f _ _ _ left _ _ _ c.in-Some-rel_name_at.ensures.length (to_name f _ _ _ left _ r c.in-Some.ensures.value) c.in-Some-rel_name_at.ensures.name) c.in_default-width_at.ensures.value)

pub returns-in_err-attrs-clause-read : goal.returns-in_err-attrs-clause-read
returns-in_err-attrs-clause-read c =
    let p = err_from_is_err_and c.from_residual-in_err-attrs.result c.from_residual-in_err-attrs.ensures.1 in
    rw (p.1, p.2)
    (λ f left. fault_on {A = Vec Attr Global} {B = RelDecl} f c.args.bytes.now c.args.at _ (at_rels c.args.rels.now (suc left)) (behind_attr (opened c.args.rels.now left c.in-Some-rel_name_at.name.now) c.in-Some-width_at.width)
    (λ attrs. behind_attr (with_attrs (opened c.args.rels.now left c.in-Some-rel_name_at.name.now) attrs.items) 0) (λ d. at_rels (c.args.rels.now ++ d ∷ []) left) c.in_err-attrs.field-0.0
    (λ r. to_attrs f _ _ c.args.rels.now left _ _ (to_width f _ _ _ left _ _ _ c.in-Some-rel_name_at.ensures.length (to_name f _ _ _ left _ r c.in-Some.ensures.value) c.in-Some-rel_name_at.ensures.name) c.in-Some-width_at.ensures.value)
    (c.in_err-attrs.ensures.read f (opened c.args.rels.now left c.in-Some-rel_name_at.name.now) refl))

pub returns-clause-read : goal.returns-clause-read
returns-clause-read c = λ f left r.
    rw (c.in_ok-name.ensures.ok, c.schema_of-schema.ensures)
    (c.in_ok-attrs.ensures.read f (opened c.args.rels.now left c.in-Some-rel_name_at.name.now) refl
    (to_attrs f _ _ c.args.rels.now left _ _ (to_width f _ _ _ left _ _ _ c.in-Some-rel_name_at.ensures.length (to_name f _ _ _ left _ r c.in-Some.ensures.value) c.in-Some-rel_name_at.ensures.name) c.in-Some-width_at.ensures.value))
