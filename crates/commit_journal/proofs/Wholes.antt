-- The fields before the first gate and those of the journal are the fields of the half.
use Rattle.std.proofs.Common.{◌≡◌, ◌≤◌, ℕ, zero, suc, Bool, true, false, cond, List, [], drop, Some, None, refl, sym, ap, subst, ◌∙◌}
use Rattle.std.proofs.lemmas.Option.{none-some}
use Rattle.hera_meaning.specs.declared.schemas.RelDecl.{RelDecl}
use Rattle.rel_format.specs.Pages.{Format}
use Rattle.rel_format.specs.Table.{Stand, Book, at_magic, at_count, at_rels, at_name, at_width, at_attr, at_attr_name, at_kind, at_page, at_row_count, at_row, at_fill, is_whole as are_pages_whole, next as next_in_pages}
use Rattle.rel_format.specs.Places.{Reaches as ReachesInPages, Stops as StopsInPages}
use Rattle.rel_format.proofs.Walks.{step_by, longest_by, kept_by}
use Rattle.commit_journal.specs.Table.{JournalStand, at_gate, next as next_in_journal}
use Rattle.commit_journal.specs.Places.{Reaches, Stops}
use Rattle.commit_journal.specs.Halves.{HalfStand, in_pages, in_journal, rels_of, entered, onto, next_in_half, is_half_whole, ReachesInHalf, IsDamageOfHalf}

-- behind the last page no page comes
whole_ends : (f : Format) (s : Stand) (bytes : List ℕ) → are_pages_whole s ≡ true → next_in_pages f s bytes ≡ None
whole_ends f at_magic bytes h = cc
whole_ends f at_count bytes h = cc
whole_ends f (at_rels rels left) bytes h = cc
whole_ends f (at_name rels left n) bytes h = cc
whole_ends f (at_width rels left name) bytes h = cc
whole_ends f (at_attr p more) bytes h = cc
whole_ends f (at_attr_name p more n) bytes h = cc
whole_ends f (at_kind p more name) bytes h = cc
whole_ends f (at_page b zero) bytes h = refl
whole_ends f (at_page b (suc left)) bytes h = cc
whole_ends f (at_row_count b left rel) bytes h = cc
whole_ends f (at_row b left p more) bytes h = cc
whole_ends f (at_fill b left p) bytes h = cc

-- before it the stand is one of the pages
still_in_pages : (s : Stand) → are_pages_whole s ≡ false → entered s ≡ in_pages s
still_in_pages s h = ap (λ (b : Bool). cond b (in_journal (rels_of s) (at_gate [])) (in_pages s)) h

goes_on : (f : Format) (s : Stand) (bytes : List ℕ) (n : ℕ) (t : Stand) → next_in_pages f s bytes ≡ Some (n, t) → are_pages_whole s ≡ false
goes_on f s bytes n t e = by (are_pages_whole s) refl
  where
    by : (b : Bool) → are_pages_whole s ≡ b → b ≡ false
    by true h = absurd (none-some (n, t) (sym (whole_ends f s bytes h) ∙ e))
    by false h = refl

pub pages_in_half : (f : Format) (bytes : List ℕ) (at : ℕ) (s : Stand) → ReachesInPages f bytes at s → ReachesInHalf f bytes at (entered s)
pages_in_half f bytes at s reached =
    kept_by (next_in_pages f) bytes (0, at_magic) (λ (place : ℕ) (t : Stand). ReachesInHalf f bytes place (entered t)) (0, refl)
    (λ place t n u h e.
    let here = subst (ReachesInHalf f bytes place) (still_in_pages t (goes_on f t (drop place bytes) n u e)) h in
    step_by (next_in_half f) bytes (0, in_pages at_magic) place (in_pages t) n (entered u) here (ap (onto entered) e))
    reached.0 at s reached.1

pub journal_in_half : (f : Format) (rels : List RelDecl) (bytes : List ℕ) (start at : ℕ) (s : JournalStand) → ReachesInHalf f bytes start (in_journal rels (at_gate [])) → Reaches rels bytes start at s → ReachesInHalf f bytes at (in_journal rels s)
journal_in_half f rels bytes start at s first reached =
    kept_by (next_in_journal rels) bytes (start, at_gate []) (λ (place : ℕ) (t : JournalStand). ReachesInHalf f bytes place (in_journal rels t)) first
    (λ place t n u h e. step_by (next_in_half f) bytes (0, in_pages at_magic) place (in_journal rels t) n (in_journal rels u) h (ap (onto (in_journal rels)) e))
    reached.0 at s reached.1

damage : (f : Format) (bytes : List ℕ) (at : ℕ) (s : HalfStand) → ReachesInHalf f bytes at s → next_in_half f s (drop at bytes) ≡ None → is_half_whole s ≡ false → IsDamageOfHalf f bytes at
damage f bytes at s reached none open_end = record {
  good = (s, reached);
  longest = λ n good. longest_by (next_in_half f) bytes (0, in_pages at_magic) at n s good.0 reached none good.1;
  stops = (s, reached, none, open_end);
}

-- a damage before the first gate is one of the half
pub pages_damaged : (f : Format) (bytes : List ℕ) (at : ℕ) → StopsInPages f bytes at → IsDamageOfHalf f bytes at
pages_damaged f bytes at stops =
    damage f bytes at (in_pages stops.0) (subst (ReachesInHalf f bytes at) (still_in_pages stops.0 stops.3) (pages_in_half f bytes at stops.0 stops.1)) (ap (onto entered) stops.2) refl

-- the journal begins behind the last page
pub journal_begins : (f : Format) (rels : List RelDecl) (bytes : List ℕ) (start : ℕ) → (b : Book) × (b.rels ≡ rels) × ReachesInPages f bytes start (at_page b 0) → ReachesInHalf f bytes start (in_journal rels (at_gate []))
journal_begins f rels bytes start ends =
    subst (λ (ds : List RelDecl). ReachesInHalf f bytes start (in_journal ds (at_gate []))) ends.1 (pages_in_half f bytes start (at_page ends.0 0) ends.2)

-- and a damage of the journal is one of the half
pub journal_damaged : (f : Format) (rels : List RelDecl) (bytes : List ℕ) (start at : ℕ) → (b : Book) × (b.rels ≡ rels) × ReachesInPages f bytes start (at_page b 0) → Stops rels bytes start at → IsDamageOfHalf f bytes at
journal_damaged f rels bytes start at ends stops =
    damage f bytes at (in_journal rels stops.0) (journal_in_half f rels bytes start at stops.0 (journal_begins f rels bytes start ends) stops.1) (ap (onto (in_journal rels)) stops.2) stops.3
