-- The base without rows, and what a base tells.
use Rattle.std.proofs.Common.{◌≡◌, ◌≤◌, ◌<◌, true, false, ℕ, suc, List, [], ◌∷◌, ◌++◌, length, take, Some, Err, refl, sym, ap, subst, ◌∙◌, arith, inr}
use Rattle.std.specs.Prelude.{replicate, slice_get, get_or, nat_lt}
use Rattle.std.proofs.lemmas.Bool.{ltb-true, lt-ltb, both_ways}
use Rattle.std.proofs.lemmas.Option.{slice_get_read}
use Rattle.std.specs.Int.{w32, to_be_bytes}
use Rattle.std.proofs.lemmas.List.{length-append, take_at, append-nil}
use Rattle.std.proofs.lemmas.List.Elements.{All-nil}
use Rattle.hera_meaning.specs.declared.schemas.Attr.{Attr}
use Rattle.hera_meaning.specs.declared.schemas.RelDecl.{RelDecl}
use Rattle.hera_meaning.specs.Catalogues.{IsCatalogue}
use Rattle.hera_meaning.specs.Rows.{IsRow}
use Rattle.hera_meaning.specs.Deltas.{State}
use Rattle.rel_format.specs.Pages.{Format, FitsIn, Fit, format_two, header_of, pages_of, half_of, rels_bytes, page_count}
use Rattle.rel_format.specs.Journal.{half_limit}
use Rattle.rel_format.specs.Places.{IsDamage}
use Rattle.rel_format.specs.declared.version.Version.{Version}
use Rattle.rel_format.specs.Versions.{format_of, version_in}
use Rattle.rel_format.specs.declared.header.PageFault.{PageFault}
use Rattle.rel_format.specs.declared.header.PageFault.TheVariants.{Damaged, Memory}
use Rattle.rel_format.proofs.Good.{IsFew}
use Rattle.rel_pages.specs.declared.parts.RelationPages.{RelationPages}
use Rattle.rel_pages.specs.Stored.{empty_state}
use Rattle.rel_pages.specs.Parts.{AreParts, state_of, IsBase}
use Rattle.rel_pages.specs.Halves.{HalfParts, HalfIs, IsPages, EndsAt}
use Rattle.rel_pages.proofs.Prints.{GroupPaged, group_paged}
use Rattle.rel_pages.proofs.Halves.{PartHere, part_here, parts_length, state_is}

abbrev no_bytes : ℕ → RelationPages
no_bytes at = record { at = at; len = 0 }

no_group : (schema : List Attr) (page : ℕ) → 1 ≤ page → GroupPaged schema page [] []
no_group schema page some = group_paged schema page 0 [] some (record { pages = tt; ascending = tt; rows = All-nil (IsRow schema) }) (All-nil IsFew)

record NoParts (page : ℕ) (rels : List RelDecl) (at : ℕ) (bytes : List ℕ) : Type 0 where
  are : AreParts page rels (replicate (length rels) (no_bytes at)) bytes
  state : state_of page rels (replicate (length rels) (no_bytes at)) bytes ≡ empty_state rels

no_parts : (page : ℕ) (rels : List RelDecl) (at : ℕ) (bytes : List ℕ) → 1 ≤ page → at ≤ length bytes → NoParts page rels at bytes
no_parts page [] at bytes some within = record { are = tt; state = refl }
no_parts page (d ∷ rels) at bytes some within =
    let one = no_group d.schema page some in
    let more = no_parts page rels at bytes some within in
    record {
      are = (omega arith, one.paged, more.are);
      state = ap (λ (rows : List (List ℕ)). rows ∷ state_of page rels (replicate (length rels) (no_bytes at)) bytes) one.rows_are ∙ ap (λ (s : State). [] ∷ s) more.state;
    }

no_rels_bytes : (page n : ℕ) (rels : List RelDecl) → rels_bytes page n (empty_state rels) ≡ []
no_rels_bytes page n [] = refl
no_rels_bytes page n (d ∷ rels) = no_rels_bytes page (suc n) rels

no_page_count : (page : ℕ) (rels : List RelDecl) → page_count page (empty_state rels) ≡ 0
no_page_count page [] = refl
no_page_count page (d ∷ rels) = let more = no_page_count page rels in omega (arith, more)

pages_of_none : (f : Format) (rels : List RelDecl) → pages_of f rels (empty_state rels) ≡ header_of f rels ++ 0 ∷ 0 ∷ 0 ∷ 0 ∷ []
pages_of_none f rels =
    ap (λ (t : List ℕ). header_of f rels ++ to_be_bytes w32 (page_count f.page (empty_state rels)) ++ t) (no_rels_bytes f.page 0 rels)
    ∙ append-nil (header_of f rels ++ to_be_bytes w32 (page_count f.page (empty_state rels)))
    ∙ ap (λ (n : ℕ). header_of f rels ++ to_be_bytes w32 n) (no_page_count f.page rels)

none_fit : (page : ℕ) (rels : List RelDecl) → Fit page (empty_state rels)
none_fit page [] = tt
none_fit page (d ∷ rels) = (All-nil (FitsIn page), none_fit page rels)

pub record EmptyIs (rels : List RelDecl) (parts : List RelationPages) (bytes : List ℕ) (at : ℕ) : Type 0 where
  pub base : IsBase format_two rels parts bytes at
  pub state : state_of format_two.page rels parts bytes ≡ empty_state rels
  pub printed : bytes ≡ half_of format_two rels (empty_state rels)
  pub place : at ≡ length (pages_of format_two rels (empty_state rels))

pub empty_is : (rels : List RelDecl) (parts : List RelationPages) (header front bytes : List ℕ) (at n : ℕ) → IsCatalogue rels → header ≡ header_of format_two rels → front ≡ header ++ 0 ∷ 0 ∷ 0 ∷ 0 ∷ [] → at ≡ length front → bytes ≡ front ++ 0 ∷ [] → parts ≡ replicate n (no_bytes at) → n ≡ length rels → EmptyIs rels parts bytes at
empty_is rels parts header front bytes at n catalogue h f a b p count =
    let page : ℕ = format_two.page in
    let pages : front ≡ pages_of format_two rels (empty_state rels) = f ∙ ap (λ (t : List ℕ). t ++ 0 ∷ 0 ∷ 0 ∷ 0 ∷ []) h ∙ sym (pages_of_none format_two rels) in
    let within : at ≤ length bytes = let size = ap (λ (t : List ℕ). length t) b in omega (arith, size, length-append front (0 ∷ []), a) in
    let none = no_parts page rels at bytes (omega arith) within in
    let same : replicate (length rels) (no_bytes at) ≡ parts = ap (λ (k : ℕ). replicate k (no_bytes at)) (sym count) ∙ sym p in
    let state : state_of page rels parts bytes ≡ empty_state rels = ap (λ (ps : List RelationPages). state_of page rels ps bytes) (sym same) ∙ none.state in
    record {
      base = record {
        catalogue = catalogue;
        parts_are = subst (λ (ps : List RelationPages). AreParts page rels ps bytes) same none.are;
        within = within;
        fit = subst (Fit page) (sym state) (none_fit page rels);
        printed = ap (take at) b ∙ take_at front (0 ∷ []) at (sym a) ∙ pages ∙ ap (pages_of format_two rels) (sym state);
      };
      state = state;
      printed = b ∙ ap (λ (t : List ℕ). t ++ 0 ∷ []) pages;
      place = a ∙ ap (λ (t : List ℕ). length t) pages;
    }

-- ---- what was read

pub read_is : (version : Version) (rels : List RelDecl) (parts : List RelationPages) (bytes : List ℕ) (at : ℕ) → version ≡ version_in bytes → length bytes ≤ half_limit → IsBase (format_of version) rels parts bytes at → EndsAt (format_of version) bytes rels at →
    IsPages bytes (record { version = version; catalogue = rels; state = state_of (format_of version).page rels parts bytes; bytes = bytes; journal = at })
read_is version rels parts bytes at own short base ends = record {
  version = own;
  short = short;
  catalogue = base.catalogue;
  state = state_is (format_of version).page rels parts bytes base.parts_are;
  fit = base.fit;
  own = refl;
  within = base.within;
  printed = base.printed;
  ends = ends;
}

pub fault_is : (version : Version) (bytes : List ℕ) (e : PageFault) → version ≡ version_in bytes → length bytes ≤ half_limit → HalfParts (format_of version) bytes (Err e) → HalfIs bytes (Err e)
fault_is version bytes (Damaged at) own short h = inr (short, subst (λ (v : Version). IsDamage (format_of v) bytes at) own h)
fault_is version bytes Memory own short h = tt

-- ---- a relation of a base

pub rel_part : (f : Format) (rels : List RelDecl) (parts ps : List RelationPages) (bytes : List ℕ) (at : ℕ) (rel : ℕ) (d : RelDecl) (p : RelationPages) → IsBase f rels parts bytes at → slice_get rels rel ≡ Some d → ps ≡ parts → true ≡ nat_lt rel (length ps) → p ≡ get_or ps rel p → PartHere f.page rels parts bytes rel d p
rel_part f rels parts ps bytes at rel d p base e same lt here =
    part_here f.page rels parts bytes rel d p base.parts_are e
    (subst (λ (xs : List RelationPages). slice_get xs rel ≡ Some p) same (slice_get_read ps (length ps) rel p refl (ltb-true rel (length ps) (sym lt)) here))

pub no_rel : (f : Format) (rels rs : List RelDecl) (parts ps : List RelationPages) (bytes : List ℕ) (at : ℕ) (rel : ℕ) → IsBase f rels parts bytes at → rel < length rs → rels ≡ rs → ps ≡ parts → false ≡ nat_lt rel (length ps) → ⊥
no_rel f rels rs parts ps bytes at rel base lt own same none =
    let count = parts_length f.page rels parts bytes base.parts_are in
    let size = ap (λ (xs : List RelationPages). length xs) same in
    let same_rels = ap (λ (xs : List RelDecl). length xs) own in
    let within : rel < length ps = omega (arith, lt, count, size, same_rels) in
    both_ways _ (sym none) (lt-ltb rel (length ps) within)
