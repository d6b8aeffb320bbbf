-- The half of a database without rows.
use Rattle.std.proofs.Common.{◌≡◌, ◌≤◌, ℕ, ◌+◌, ◌*◌, List, [], ◌∷◌, ◌++◌, length, refl, sym, ap, subst, ◌∙◌, append_assoc, arith}
use Rattle.std.specs.Prelude.{All, replicate}
use Rattle.std.specs.Int.{to_be_bytes, w16}
use Rattle.std.specs.List.{flat_map}
use Rattle.std.proofs.lemmas.List.{length-append}
use Rattle.std.proofs.lemmas.List.Elements.{All-head, All-tail}
use Rattle.hera_meaning.specs.declared.schemas.Attr.{Attr}
use Rattle.hera_meaning.specs.declared.schemas.RelDecl.{RelDecl}
use Rattle.hera_meaning.specs.Identifiers.{IsIdentifier}
use Rattle.hera_meaning.specs.Schemas.{names_of}
use Rattle.hera_meaning.specs.Catalogues.{IsCatalogue, IsDecl}
use Rattle.rel_format.specs.Pages.{format_two, kind_byte, attr_bytes, decl_bytes, header_of, half_of}
use Rattle.rel_format.specs.Journal.{half_limit}
use Rattle.rel_format.specs.Versions.{IsHalfOf}
use Rattle.rel_format.specs.declared.version.Version.TheVariants.{Two}
use Rattle.half_laws.proofs.Halves.{half_of_is}
use Rattle.rel_pages.specs.declared.parts.RelationPages.{RelationPages}
use Rattle.rel_pages.specs.Stored.{empty_state}
use Rattle.rel_pages.proofs.States.{empty_is_state}
use Rattle.rel_pages.proofs.Bases.{empty_is}

-- ---- it is short

attrs_length : (attrs : List Attr) → All IsIdentifier (names_of attrs) → length (flat_map attr_bytes attrs) ≤ 257 * length attrs
attrs_length [] names = omega arith
attrs_length (a ∷ attrs) names =
    let one = (All-head IsIdentifier a.name (names_of attrs) names).short in
    let more = attrs_length attrs (All-tail IsIdentifier a.name (names_of attrs) names) in
    omega (arith, one, more, length-append (attr_bytes a) (flat_map attr_bytes attrs), length-append a.name (kind_byte a.kind ∷ []))

decl_length : (d : RelDecl) → IsDecl d → length (decl_bytes d) ≤ 4369
decl_length d valid =
    let attrs = attrs_length d.schema valid.attrs in
    omega (arith, valid.name.short, valid.schema.few, attrs, length-append d.name (length d.schema ∷ flat_map attr_bytes d.schema))

decls_length : (rels : List RelDecl) → All IsDecl rels → length (flat_map decl_bytes rels) ≤ 4369 * length rels
decls_length [] all = omega arith
decls_length (d ∷ rels) all =
    let one = decl_length d (All-head IsDecl d rels all) in
    let more = decls_length rels (All-tail IsDecl d rels all) in
    omega (arith, one, more, length-append (decl_bytes d) (flat_map decl_bytes rels))

length_two : (n : ℕ) → length (to_be_bytes w16 n) ≡ 2
length_two n = refl

header_length : (rels : List RelDecl) → IsCatalogue rels → length (header_of format_two rels) ≤ 1118474
header_length rels valid =
    let decls = decls_length rels valid.decls in
    let front = format_two.magic ++ to_be_bytes w16 (length rels) in
    omega (arith, decls, valid.few, length_two (length rels), length-append front (flat_map decl_bytes rels), length-append format_two.magic (to_be_bytes w16 (length rels)))

pub empty_half_is : (rels : List RelDecl) (header bytes : List ℕ) → IsCatalogue rels → header ≡ header_of format_two rels → bytes ≡ header ++ 0 ∷ 0 ∷ 0 ∷ 0 ∷ 0 ∷ [] → bytes ≡ half_of format_two rels (empty_state rels)
empty_half_is rels header bytes valid head is =
    let front : List ℕ = header ++ 0 ∷ 0 ∷ 0 ∷ 0 ∷ [] in
    let none : RelationPages = record { at = length front; len = 0 } in
    (empty_is rels (replicate (length rels) none) header front bytes (length front) (length rels) valid head refl refl (is ∙ sym (append_assoc header (0 ∷ 0 ∷ 0 ∷ 0 ∷ []) (0 ∷ []))) refl refl).printed

pub empty_half_valid : (rels : List RelDecl) (header bytes : List ℕ) → IsCatalogue rels → header ≡ header_of format_two rels → bytes ≡ header ++ 0 ∷ 0 ∷ 0 ∷ 0 ∷ 0 ∷ [] → IsHalfOf bytes rels (empty_state rels)
empty_half_valid rels header bytes valid head is =
    let printed : bytes ≡ half_of format_two rels (empty_state rels) = empty_half_is rels header bytes valid head is in
    let size : length bytes ≡ length header + 5 = ap length is ∙ length-append header (0 ∷ 0 ∷ 0 ∷ 0 ∷ 0 ∷ []) in
    let long : length (header_of format_two rels) ≤ 1118474 = header_length rels valid in
    let short : length (half_of format_two rels (empty_state rels)) ≤ half_limit = omega (arith, size, long, ap length head, ap length printed) in
    subst (λ (l : List ℕ). IsHalfOf l rels (empty_state rels)) (sym printed) (Two, (half_of_is rels (empty_state rels) valid (empty_is_state rels) short).half)
