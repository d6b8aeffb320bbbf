use Rattle.std.proofs.Common.{sym, ap, ◌∙◌}
use Rattle.std.proofs.lemmas.Option.{slice_get_within}
use Rattle.hera_rules.specs.Environments.{relation_named}
use Rattle.hera_bind.proofs.Found.{is_named, has_found, found_same, lacks_none, has_lacks}
use Rattle.hera_bind.proofs.binding.has.Goals as goal

pub decl-requires : goal.decl-requires
decl-requires c =
    let n = is_named c.args.decl.now.name c.args.catalogue.now c.in-Some.number.0 (ap (λ z. relation_named z c.args.catalogue.now) (sym c.bytes.ensures.bytes) ∙ sym c.in-Some.ensures.number) in slice_get_within c.args.catalogue.now c.in-Some.number.0 n.decl n.here

pub returns-in-Some : goal.returns-in-Some
returns-in-Some c = (
  λ t. has_found c.args.catalogue.now c.args.decl.now c.decl.result.now c.in-Some.number.0 c.find.ensures.valid (ap (λ z. relation_named z c.args.catalogue.now) (sym c.bytes.ensures.bytes) ∙ sym c.in-Some.ensures.number) c.decl.ensures.decl (c.same.ensures.0 t),
  λ h. c.same.ensures.1 (found_same c.args.catalogue.now c.args.decl.now c.decl.result.now c.in-Some.number.0 c.find.ensures.valid (ap (λ z. relation_named z c.args.catalogue.now) (sym c.bytes.ensures.bytes) ∙ sym c.in-Some.ensures.number) c.decl.ensures.decl h),
)

pub returns-in-None : goal.returns-in-None
returns-in-None c =
    (λ t. absurd cc, λ h. absurd (has_lacks c.args.catalogue.now c.args.decl.now h (lacks_none c.args.catalogue.now c.args.decl.now c.find.ensures.valid (ap (λ z. relation_named z c.args.catalogue.now) (sym c.bytes.ensures.bytes) ∙ sym c.in-None.ensures.number))))
