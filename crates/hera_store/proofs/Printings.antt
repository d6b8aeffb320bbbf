-- The half of a database, printed relation after relation.
use Rattle.std.proofs.Common.{◌≡◌, ◌≤◌, ◌⊎◌, inl, inr, ℕ, zero, suc, ◌+◌, ◌*◌, List, [], ◌∷◌, ◌++◌, None, Some, length, take, refl, sym, ap, subst, ◌∙◌, arith, append-nil}
use Rattle.std.specs.Prelude.{All, slice_get}
use Rattle.std.specs.List.{flat_map}
use Rattle.std.specs.Int.{to_be_bytes, w32}
use Rattle.std.proofs.lemmas.List.{length-append, take_all}
use Rattle.std.proofs.lemmas.List.Elements.{All-head, All-tail}
use Rattle.hera_meaning.specs.Commits.{after_all}
use Rattle.hera_sets.specs.Rows.{Row}
use Rattle.hera_meaning.specs.declared.schemas.RelDecl.{RelDecl}
use Rattle.hera_meaning.specs.Catalogues.{IsDecl}
use Rattle.hera_meaning.specs.Deltas.{Delta, State, IsState, apply_of}
use Rattle.rel_format.specs.declared.version.TheConstants.{PAGE_TWO}
use Rattle.rel_format.specs.Pages.{format_two, Fit, joined, page_head, paged, page_bytes, rel_bytes, rels_bytes, page_count, header_of}
use Rattle.rel_format.specs.Greedy.{Follow, ArePages}
use Rattle.rel_pages.proofs.Prints.{page_size}
use Rattle.half_writer.specs.declared.pages.HalfFault.{HalfFault}
use Rattle.half_writer.specs.declared.pages.HalfFault.TheVariants.{Full, Memory}
use Rattle.half_writer.specs.Written.{Written, AreRows, IsFullAt, IsFirstFull, written_of, with_rel, need_of, pages_size}
use Rattle.half_writer.proofs.Wholes.{one_more_written}
use Rattle.half_laws.proofs.Pagings.{paged_pages}
use Rattle.half_laws.proofs.Halves.{fit_of}
use Rattle.when_overlay.specs.Changed.{after_all as seen_after}
use Rattle.hera_store.specs.Databases.{Database}
use Rattle.hera_store.specs.Faults.{IsPrintRefusal, check_fault, half_with}

-- ---- the rows of one relation

none_is_not : {A : Type 0} (x : A) → None ≡ Some x → ⊥
none_is_not x e = cc

pub rows_are : (rels : List RelDecl) (s : State) (i : ℕ) (rows : List Row) → All IsDecl rels → IsState rels s → slice_get s i ≡ Some rows → AreRows rows
rows_are [] [] i rows all valid e = absurd (none_is_not rows e)
rows_are [] (x ∷ s) i rows all valid e = absurd valid
rows_are (d ∷ rels) [] i rows all valid e = absurd valid
rows_are (d ∷ rels) (x ∷ s) zero rows all valid e =
    let same : x ≡ rows = cc in
    subst AreRows same (record { schema = d.schema; valid = (All-head IsDecl d rels all).schema; each = valid.0.1 })
rows_are (d ∷ rels) (x ∷ s) (suc i) rows all valid e = rows_are rels s i rows (All-tail IsDecl d rels all) valid.1 e

pub take_one : (s : State) (i : ℕ) (rows : List Row) → slice_get s i ≡ Some rows → take (i + 1) s ≡ take i s ++ rows ∷ []
take_one [] i rows e = absurd (none_is_not rows e)
take_one (x ∷ s) zero rows e =
    let same : x ≡ rows = cc in
    ap (λ (r : List Row). r ∷ []) same
take_one (x ∷ s) (suc i) rows e =
    let next : suc i + 1 ≡ suc (i + 1) = omega arith in
    ap (λ (k : ℕ). take k (x ∷ s)) next ∙ ap (λ (t : State). x ∷ t) (take_one s i rows e)

same_after : (s : State) (ds : List Delta) → seen_after s ds ≡ after_all s ds
same_after s [] = refl
same_after s (d ∷ ds) = same_after (apply_of s d) ds

-- a view without layers
pub seen : (s : State) (ds : List Delta) (i : ℕ) (rows : List Row) → slice_get (seen_after s (ds ++ [])) i ≡ Some rows → slice_get (after_all s ds) i ≡ Some rows
seen s ds i rows e = subst (λ (t : State). slice_get t i ≡ Some rows) (ap (seen_after s) (append-nil ds) ∙ same_after s ds) e

pub one_more : (rels : List RelDecl) (limit i : ℕ) (s : State) (rows : List Row) (old new : Written) → old ≡ written_of format_two rels limit (take i s) → slice_get s i ≡ Some rows → new ≡ with_rel PAGE_TWO old rows → new ≡ written_of format_two rels limit (take (i + 1) s)
one_more rels limit i s rows old new is e next =
    next ∙ ap (λ (w : Written). with_rel PAGE_TWO w rows) is ∙ one_more_written format_two rels limit (take i s) rows ∙ ap (written_of format_two rels limit) (sym (take_one s i rows e))

-- ---- how many bytes there are

fit_take : (i : ℕ) (s : State) → Fit PAGE_TWO s → Fit PAGE_TWO (take i s)
fit_take zero s fit = tt
fit_take (suc i) [] fit = tt
fit_take (suc i) (rows ∷ s) fit = (fit.0, fit_take i s fit.1)

follow_length : (rel used : ℕ) (pages : List (List Row)) → Follow PAGE_TWO used pages → length (flat_map (page_bytes PAGE_TWO rel) pages) ≡ PAGE_TWO * length pages
follow_length rel used [] follow = refl
follow_length rel used ([] ∷ pages) follow = absurd follow
follow_length rel used ((r ∷ rows) ∷ pages) follow =
    omega (arith, page_size PAGE_TWO rel (r ∷ rows) follow.1, follow_length rel (page_head + length (joined (r ∷ rows))) pages follow.2, length-append (page_bytes PAGE_TWO rel (r ∷ rows)) (flat_map (page_bytes PAGE_TWO rel) pages))

pages_length : (rel : ℕ) (pages : List (List Row)) → ArePages PAGE_TWO pages → length (flat_map (page_bytes PAGE_TWO rel) pages) ≡ PAGE_TWO * length pages
pages_length rel [] are = refl
pages_length rel ([] ∷ pages) are = absurd are
pages_length rel ((r ∷ rows) ∷ pages) are =
    omega (arith, page_size PAGE_TWO rel (r ∷ rows) are.0, follow_length rel (page_head + length (joined (r ∷ rows))) pages are.1, length-append (page_bytes PAGE_TWO rel (r ∷ rows)) (flat_map (page_bytes PAGE_TWO rel) pages))

state_bytes : (n : ℕ) (s : State) → Fit PAGE_TWO s → length (rels_bytes PAGE_TWO n s) ≡ PAGE_TWO * page_count PAGE_TWO s
state_bytes n [] fit = refl
state_bytes n (rows ∷ s) fit =
    omega (arith, pages_length n (paged PAGE_TWO rows) (paged_pages PAGE_TWO rows fit.0), state_bytes (suc n) s fit.1, length-append (rel_bytes PAGE_TWO n rows) (rels_bytes PAGE_TWO (suc n) s))

count_take : (s : State) (i : ℕ) (rows : List Row) → slice_get s i ≡ Some rows → page_count PAGE_TWO (take i s) + length (paged PAGE_TWO rows) ≤ page_count PAGE_TWO s
count_take [] i rows e = absurd (none_is_not rows e)
count_take (x ∷ s) zero rows e =
    let same : x ≡ rows = cc in
    let size = ap (λ (r : List Row). length (paged PAGE_TWO r)) same in
    omega (arith, size)
count_take (x ∷ s) (suc i) rows e = omega (arith, count_take s i rows e)

size_of_pages : (k : ℕ) → pages_size PAGE_TWO k ≡ PAGE_TWO * k
size_of_pages zero = refl
size_of_pages (suc k) = let more = size_of_pages k in omega (arith, more)

length_four : (n : ℕ) → length (to_be_bytes w32 n) ≡ 4
length_four n = refl

module _ (rels : List RelDecl) (s : State) (limit : ℕ) (decls : All IsDecl rels) (valid : IsState rels s) where
  abbrev pub db : Database
  db = record { catalogue = rels; state = s }

  abbrev pub head : ℕ
  head = length (header_of format_two rels)

  need_is : (i : ℕ) → need_of (written_of format_two rels limit (take i s)) ≡ head + 5 + PAGE_TWO * page_count PAGE_TWO (take i s)
  need_is i = ap (λ (n : ℕ). head + 5 + n) (state_bytes 0 (take i s) (fit_take i s (fit_of rels s decls valid)))

  half_length : length (half_with db) ≡ head + 5 + PAGE_TWO * page_count PAGE_TWO s
  half_length =
      let pages = rels_bytes PAGE_TWO 0 s in
      let number = to_be_bytes w32 (page_count PAGE_TWO s) in
      let header = header_of format_two rels in
      omega (arith, length_four (page_count PAGE_TWO s), state_bytes 0 s (fit_of rels s decls valid), length-append ((header ++ number) ++ pages) (0 ∷ []), length-append (header ++ number) pages, length-append header number)

  -- while the pages of a relation are added
  pub full_adding : (i : ℕ) (rows : List Row) (w : Written) (fault : HalfFault) → w ≡ written_of format_two rels limit (take i s) → slice_get s i ≡ Some rows → (i ≡ 0) ⊎ (need_of w ≤ limit)
      → IsFirstFull PAGE_TWO (need_of w) (length (paged PAGE_TWO rows)) limit fault → IsPrintRefusal db limit (check_fault fault)
  full_adding i rows w Memory is e room full = tt
  full_adding i rows w (Full need most) is e room full =
      let from : need_of w ≡ head + 5 + PAGE_TWO * page_count PAGE_TWO (take i s) = ap need_of is ∙ need_is i in
      let count = count_take s i rows e in
      let pages = size_of_pages full.0.added in (
        record {
          pages = page_count PAGE_TWO (take i s) + full.0.added;
          few = omega (arith, full.0.few, count);
          sum = omega (arith, full.0.sum, from, pages);
          past = full.0.past;
          first = by room full.0.first;
        },
        full.1,
        omega (arith, half_length, full.0.past, full.0.sum, from, pages, full.0.few, count),
      )
    where
      by : (i ≡ 0) ⊎ (need_of w ≤ limit) → (full.0.added ≡ 0) ⊎ (need ≤ limit + PAGE_TWO) → (page_count PAGE_TWO (take i s) + full.0.added ≡ 0) ⊎ (need ≤ limit + PAGE_TWO)
      by r (inr near) = inr near
      by (inl first) (inl none) =
          let empty : page_count PAGE_TWO (take i s) ≡ 0 = ap (λ (k : ℕ). page_count PAGE_TWO (take k s)) first in
          inl (omega (arith, empty, none))
      by (inr fits) (inl none) = absurd (omega (arith, full.0.past, full.0.sum, fits, ap (pages_size PAGE_TWO) none))

  -- once all are added
  pub full_finished : (i : ℕ) (w : Written) (fault : HalfFault) → length s ≤ i → w ≡ written_of format_two rels limit (take i s) → (i ≡ 0) ⊎ (need_of w ≤ limit) → IsFullAt (need_of w) limit fault → IsPrintRefusal db limit (check_fault fault)
  full_finished i w Memory all is room full = tt
  full_finished i w (Full need most) all is (inr fits) full = absurd (omega (arith, full.0, full.2, fits))
  full_finished i w (Full need most) all is (inl first) full =
      let none : page_count PAGE_TWO s ≡ 0 = ap (page_count PAGE_TWO) (sym (take_all i s all)) ∙ ap (λ (k : ℕ). page_count PAGE_TWO (take k s)) first in
      let from : need_of w ≡ head + 5 + PAGE_TWO * page_count PAGE_TWO (take i s) = ap need_of is ∙ need_is i in
      let same : page_count PAGE_TWO (take i s) ≡ 0 = ap (λ (k : ℕ). page_count PAGE_TWO (take k s)) first in (
        record {
          pages = 0;
          few = omega arith;
          sum = omega (arith, full.0, from, same);
          past = omega (arith, full.0, full.2);
          first = inl refl;
        },
        full.1,
        omega (arith, half_length, none, full.0, full.2, from, same),
      )

  -- what is finished is within the limit
  pub finished_fits : (i : ℕ) (w : Written) → length s ≤ i → w ≡ written_of format_two rels limit (take i s) → need_of w ≤ limit → length (half_with db) ≤ limit
  finished_fits i w all is fits =
      let whole : take i s ≡ s = take_all i s all in
      omega (arith, half_length, need_is i, ap need_of is, fits, ap (page_count PAGE_TWO) whole)
