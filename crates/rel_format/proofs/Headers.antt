-- A header that is printed is walked to its end.
use Rattle.std.proofs.Common.{◌≡◌, ℕ, suc, ◌+◌, false, List, [], ◌∷◌, ◌++◌, length, drop, map, refl, sym, ap, subst, ◌∙◌, append_assoc, arith}
use Rattle.std.specs.Prelude.{All}
use Rattle.std.specs.List.{flat_map}
use Rattle.std.specs.Int.{w16, to_be_bytes}
use Rattle.std.proofs.lemmas.List.{length-append, append-nil, drop_at, map-append}
use Rattle.std.proofs.lemmas.List.Elements.{All-head, All-tail}
use Rattle.hera_sets.specs.Rows.{Row, is_same, holds}
use Rattle.hera_sets.proofs.Members.{holds-append}
use Rattle.hera_meaning.specs.declared.schemas.Attr.{Attr}
use Rattle.hera_meaning.specs.declared.schemas.RelDecl.{RelDecl}
use Rattle.hera_meaning.specs.Identifiers.{IsIdentifier}
use Rattle.hera_meaning.specs.Schemas.{AreDistinct, names_of, attr_name}
use Rattle.hera_meaning.specs.Catalogues.{decl_name, IsDecl, IsCatalogue}
use Rattle.hera_meaning.proofs.Names.{same_swap}
use Rattle.rel_format.specs.Pages.{Format, kind_byte, attr_bytes, decl_bytes, header_of}
use Rattle.rel_format.specs.Fields.{length_field, width_field, kind_field, count_field, magic_field, new_name}
use Rattle.rel_format.specs.Table.{RelationSoFar, at_attr, at_rels, behind_attr, with_attr, with_attrs}
use Rattle.rel_format.specs.Places.{Reaches}
use Rattle.rel_format.proofs.Names.{or_false, or_parts_false}
use Rattle.rel_format.proofs.Steps.{to_attr_name, to_kind, behind_kind, to_name, to_width, to_attrs, opened, to_count, to_rels}
use Rattle.rel_format.proofs.Printing.{behind, magic_printed, count_printed, length_printed, width_printed, name_printed, kind_printed, name_some}

-- ---- distinct names

-- a name is none of those before it
pub apart : (xs : List Row) (y : Row) (ys : List Row) → AreDistinct (xs ++ y ∷ ys) → holds xs y ≡ false
apart [] y ys h = refl
apart (x ∷ xs) y ys h =
    let both = or_parts_false (holds xs x) (holds (y ∷ ys) x) (sym (holds-append xs (y ∷ ys) x) ∙ h.0) in
    let other = or_parts_false (is_same x y) (holds ys x) both.1 in
    or_false (is_same y x) (holds xs y) (same_swap y x ∙ other.0) (apart xs y ys h.1)

new_attr : (xs : List Attr) (y : Attr) (ys : List Attr) → AreDistinct (names_of (xs ++ y ∷ ys)) → holds (names_of xs) y.name ≡ false
new_attr xs y ys h = apart (names_of xs) y.name (names_of ys) (subst AreDistinct (map-append attr_name xs (y ∷ ys)) h)

new_decl : (xs : List RelDecl) (y : RelDecl) (ys : List RelDecl) → AreDistinct (map decl_name (xs ++ y ∷ ys)) → holds (map decl_name xs) y.name ≡ false
new_decl xs y ys h = apart (map decl_name xs) y.name (map decl_name ys) (subst AreDistinct (map-append decl_name xs (y ∷ ys)) h)

-- ---- the walk

module _ (f : Format) (bytes : List ℕ) where
  attr_read : (at : ℕ) (p : RelationSoFar) (more : ℕ) (a : Attr) (tail : List ℕ) → IsIdentifier a.name → holds (names_of p.attrs) a.name ≡ false → drop at bytes ≡ attr_bytes a ++ tail →
      Reaches f bytes at (at_attr p more) → Reaches f bytes (at + length (attr_bytes a)) (behind_attr (with_attr p a) more)
  attr_read at p more a tail word new e r =
      let name = a.name in
      let rest = kind_byte a.kind ∷ tail in
      let first : drop at bytes ≡ length name ∷ (name ++ rest) = e ∙ ap (λ (l : List ℕ). length name ∷ l) (append_assoc name (kind_byte a.kind ∷ []) tail) in
      let second : drop (at + 1) bytes ≡ name ++ rest = behind bytes at 1 (length name ∷ []) (name ++ rest) refl first in
      let third : drop (at + 1 + length name) bytes ≡ rest = behind bytes (at + 1) (length name) name rest refl second in
      let one = to_attr_name f bytes at p more (length name) r (sym (ap length_field first ∙ length_printed (length name) (name ++ rest) (name_some name word))) in
      let two = to_kind f bytes (at + 1) p more (length name) (length name) p.attrs name refl refl one (sym (ap (new_name (names_of p.attrs) (length name)) second ∙ name_printed (names_of p.attrs) name rest word new)) in
      let three = behind_kind f bytes (at + 1 + length name) p more name a.kind two (sym (ap kind_field third ∙ kind_printed a.kind tail)) in
      let place : at + 1 + length name + 1 ≡ at + length (attr_bytes a) = omega (arith, length-append name (kind_byte a.kind ∷ [])) in
      subst (λ (n : ℕ). Reaches f bytes n (behind_attr (with_attr p a) more)) place three

  attrs_read : (at : ℕ) (q : RelationSoFar) (xs ys : List Attr) (tail : List ℕ) → All IsIdentifier (names_of ys) → AreDistinct (names_of (xs ++ ys)) → drop at bytes ≡ flat_map attr_bytes ys ++ tail →
      Reaches f bytes at (behind_attr (with_attrs q xs) (length ys)) → Reaches f bytes (at + length (flat_map attr_bytes ys)) (behind_attr (with_attrs q (xs ++ ys)) 0)
  attrs_read at q xs [] tail words apart e r =
      let place : at ≡ at + 0 = omega arith in
      subst (λ (n : ℕ). Reaches f bytes n (behind_attr (with_attrs q (xs ++ [])) 0)) place
      (subst (λ (l : List Attr). Reaches f bytes at (behind_attr (with_attrs q l) 0)) (sym (append-nil xs)) r)
  attrs_read at q xs (y ∷ ys) tail words apart e r =
      let rest = flat_map attr_bytes ys ++ tail in
      let same : (xs ++ y ∷ []) ++ ys ≡ xs ++ y ∷ ys = append_assoc xs (y ∷ []) ys in
      let here : drop at bytes ≡ attr_bytes y ++ rest = e ∙ append_assoc (attr_bytes y) (flat_map attr_bytes ys) tail in
      let one = attr_read at (with_attrs q xs) (length ys) y rest (All-head IsIdentifier y.name (names_of ys) words) (new_attr xs y ys apart) here r in
      let more = attrs_read (at + length (attr_bytes y)) q (xs ++ y ∷ []) ys tail (All-tail IsIdentifier y.name (names_of ys) words) (subst (λ (l : List Attr). AreDistinct (names_of l)) (sym same) apart) (behind bytes at (length (attr_bytes y)) (attr_bytes y) rest refl here) one in
      let place : at + length (attr_bytes y) + length (flat_map attr_bytes ys) ≡ at + length (attr_bytes y ++ flat_map attr_bytes ys) = omega (arith, length-append (attr_bytes y) (flat_map attr_bytes ys)) in
      subst (λ (n : ℕ). Reaches f bytes n (behind_attr (with_attrs q (xs ++ y ∷ ys)) 0)) place
      (subst (λ (l : List Attr). Reaches f bytes (at + length (attr_bytes y) + length (flat_map attr_bytes ys)) (behind_attr (with_attrs q l) 0)) same more)

  decl_read : (at : ℕ) (rels : List RelDecl) (left : ℕ) (d : RelDecl) (tail : List ℕ) → IsDecl d → holds (map decl_name rels) d.name ≡ false → drop at bytes ≡ decl_bytes d ++ tail →
      Reaches f bytes at (at_rels rels (suc left)) → Reaches f bytes (at + length (decl_bytes d)) (at_rels (rels ++ d ∷ []) left)
  decl_read at rels left d tail valid new e r =
      let name = d.name in
      let attrs = flat_map attr_bytes d.schema in
      let n = length name in
      let rest = attrs ++ tail in
      let first : drop at bytes ≡ n ∷ (name ++ length d.schema ∷ rest) = e ∙ ap (λ (l : List ℕ). n ∷ l) (append_assoc name (length d.schema ∷ attrs) tail) in
      let second : drop (at + 1) bytes ≡ name ++ length d.schema ∷ rest = behind bytes at 1 (n ∷ []) (name ++ length d.schema ∷ rest) refl first in
      let third : drop (at + 1 + n) bytes ≡ length d.schema ∷ rest = behind bytes (at + 1) n name (length d.schema ∷ rest) refl second in
      let fourth : drop (at + 1 + n + 1) bytes ≡ rest = behind bytes (at + 1 + n) 1 (length d.schema ∷ []) rest refl third in
      let one = to_name f bytes at rels left n r (sym (ap length_field first ∙ length_printed n (name ++ length d.schema ∷ rest) (name_some name valid.name))) in
      let two = to_width f bytes (at + 1) rels left n n name refl one (sym (ap (new_name (map decl_name rels) n) second ∙ name_printed (map decl_name rels) name (length d.schema ∷ rest) valid.name new)) in
      let three = to_attrs f bytes (at + 1 + n) rels left name (length d.schema) two (sym (ap width_field third ∙ width_printed (length d.schema) rest valid.schema.some valid.schema.few)) in
      let four = attrs_read (at + 1 + n + 1) (opened rels left name) [] d.schema tail valid.attrs valid.schema.distinct fourth three in
      let place : at + 1 + n + 1 + length attrs ≡ at + length (decl_bytes d) = omega (arith, length-append name (length d.schema ∷ attrs)) in
      subst (λ (m : ℕ). Reaches f bytes m (at_rels (rels ++ d ∷ []) left)) place four

  decls_read : (at : ℕ) (xs ys : List RelDecl) (tail : List ℕ) → All IsDecl ys → AreDistinct (map decl_name (xs ++ ys)) → drop at bytes ≡ flat_map decl_bytes ys ++ tail →
      Reaches f bytes at (at_rels xs (length ys)) → Reaches f bytes (at + length (flat_map decl_bytes ys)) (at_rels (xs ++ ys) 0)
  decls_read at xs [] tail valid apart e r =
      let place : at ≡ at + 0 = omega arith in
      subst (λ (n : ℕ). Reaches f bytes n (at_rels (xs ++ []) 0)) place
      (subst (λ (l : List RelDecl). Reaches f bytes at (at_rels l 0)) (sym (append-nil xs)) r)
  decls_read at xs (y ∷ ys) tail valid apart e r =
      let rest = flat_map decl_bytes ys ++ tail in
      let same : (xs ++ y ∷ []) ++ ys ≡ xs ++ y ∷ ys = append_assoc xs (y ∷ []) ys in
      let here : drop at bytes ≡ decl_bytes y ++ rest = e ∙ append_assoc (decl_bytes y) (flat_map decl_bytes ys) tail in
      let one = decl_read at xs (length ys) y rest (All-head IsDecl y ys valid) (new_decl xs y ys apart) here r in
      let more = decls_read (at + length (decl_bytes y)) (xs ++ y ∷ []) ys tail (All-tail IsDecl y ys valid) (subst (λ (l : List RelDecl). AreDistinct (map decl_name l)) (sym same) apart) (behind bytes at (length (decl_bytes y)) (decl_bytes y) rest refl here) one in
      let place : at + length (decl_bytes y) + length (flat_map decl_bytes ys) ≡ at + length (decl_bytes y ++ flat_map decl_bytes ys) = omega (arith, length-append (decl_bytes y) (flat_map decl_bytes ys)) in
      subst (λ (n : ℕ). Reaches f bytes n (at_rels (xs ++ y ∷ ys) 0)) place
      (subst (λ (l : List RelDecl). Reaches f bytes (at + length (decl_bytes y) + length (flat_map decl_bytes ys)) (at_rels l 0)) same more)

  regroup : (a b c t : List ℕ) → ((a ++ b) ++ c) ++ t ≡ a ++ (b ++ (c ++ t))
  regroup a b c t = simp append_assoc

  -- the header of a catalogue is walked to its end
  pub header_read : (rels : List RelDecl) (tail : List ℕ) → length f.magic ≡ 8 → IsCatalogue rels → bytes ≡ header_of f rels ++ tail → Reaches f bytes (length (header_of f rels)) (at_rels rels 0)
  header_read rels tail size valid e =
      let count = to_be_bytes w16 (length rels) in
      let decls = flat_map decl_bytes rels in
      let first : bytes ≡ f.magic ++ (count ++ (decls ++ tail)) = e ∙ regroup f.magic count decls tail in
      let second : drop 8 bytes ≡ count ++ (decls ++ tail) = ap (λ (l : List ℕ). drop 8 l) first ∙ drop_at f.magic (count ++ (decls ++ tail)) 8 size in
      let third : drop (8 + 2) bytes ≡ decls ++ tail = behind bytes 8 2 count (decls ++ tail) refl second in
      let one = to_count f bytes f.magic f.magic refl (sym (ap (magic_field f.magic) first ∙ magic_printed f.magic (count ++ (decls ++ tail)) size)) in
      let two = to_rels f bytes 8 (length rels) one (sym (ap count_field second ∙ count_printed (length rels) (decls ++ tail) valid.few)) in
      let three = decls_read (8 + 2) [] rels tail valid.decls valid.distinct third two in
      let place : 8 + 2 + length decls ≡ length (header_of f rels) = omega (arith, size, length-append (f.magic ++ count) decls, length-append f.magic count) in
      subst (λ (n : ℕ). Reaches f bytes n (at_rels rels 0)) place three
