use Rattle.std.proofs.Common.{◌≡◌, ◌∙◌, Some, None, sym, ap}
use Rattle.std.proofs.lemmas.Option.{slice_get_within}
use Rattle.hera_row.specs.Numbers.{number_named}
use Rattle.hera_row.proofs.Widened.{kept_found, none_kept}
use Rattle.hera_store.proofs.Widenings.{is_named}
use Rattle.hera_store.proofs.widening.is_kept.Goals as goal

pub decl-requires : goal.decl-requires
decl-requires c =
    let rels = c.args.catalogue.now in
    let found : number_named c.args.decl.now.name rels ≡ Some c.in-Some.rel.0 = ap (λ z. number_named z rels) (sym c.bytes.ensures.bytes) ∙ sym c.in-Some.ensures.number in
    let n = is_named c.args.decl.now.name rels c.in-Some.rel.0 found in
    slice_get_within rels c.in-Some.rel.0 n.decl n.here

pub returns-in-Some : goal.returns-in-Some
returns-in-Some c =
    let rels = c.args.catalogue.now in
    let found : number_named c.args.decl.now.name rels ≡ Some c.in-Some.rel.0 = ap (λ z. number_named z rels) (sym c.bytes.ensures.bytes) ∙ sym c.in-Some.ensures.number in
    c.is_prefix.ensures ∙ sym (kept_found rels c.args.decl.now c.in-Some.rel.0 c.decl.result.now found c.decl.ensures.decl)

pub returns-in-None : goal.returns-in-None
returns-in-None c =
    let rels = c.args.catalogue.now in
    let found : number_named c.args.decl.now.name rels ≡ None = ap (λ z. number_named z rels) (sym c.bytes.ensures.bytes) ∙ sym c.in-None.ensures.number in
    sym (none_kept rels c.args.decl.now found)
