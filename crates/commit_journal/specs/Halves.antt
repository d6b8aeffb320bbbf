-- The fields of a whole half, those before its first gate and then those of its journal, and what stands in it.
use Rattle.std.specs.Prelude.{◌≡◌, ◌≤◌, ◌<◌, ℕ, ◌+◌, Bool, false, cond, List, [], ◌++◌, Option, None, Some, length, take}
use Rattle.std.specs.List.{flat_map}
use Rattle.hera_meaning.specs.declared.schemas.RelDecl.{RelDecl}
use Rattle.hera_meaning.specs.Catalogues.{IsCatalogue}
use Rattle.hera_meaning.specs.Deltas.{State, IsState}
use Rattle.rel_format.specs.Pages.{Format, Fit, pages_of}
use Rattle.rel_format.specs.Journal.{IsHalf, half_limit, sealed}
use Rattle.rel_format.specs.Walk.{ReachesBy, StopsBy}
use Rattle.rel_format.specs.Table.{Stand, Book, at_magic, at_page, is_whole as are_pages_whole, next as next_in_pages}
use Rattle.rel_format.specs.Places.{Reaches as ReachesInPages}
use Rattle.commit_journal.specs.Table.{JournalStand, at_gate, is_whole as is_journal_whole, next as next_in_journal}

-- ---- the fields of the whole

pub data HalfStand : Type 0 where
  in_pages : Stand → HalfStand
  in_journal : List RelDecl → JournalStand → HalfStand

-- the relations whose pages were read
abbrev pub rels_of : Stand → List RelDecl
rels_of (at_page b left) = b.rels
rels_of _ = []

-- where the pages are whole the journal begins
abbrev pub entered : Stand → HalfStand
entered s = cond (are_pages_whole s) (in_journal (rels_of s) (at_gate [])) (in_pages s)

abbrev pub onto : {A : Type 0} → (A → HalfStand) → Option (ℕ × A) → Option (ℕ × HalfStand)
onto behind None = None
onto behind (Some y) = Some (y.0, behind y.1)

-- the field with which the bytes begin, where it keeps its rule and lies wholly in them
abbrev pub next_in_half : Format → HalfStand → List ℕ → Option (ℕ × HalfStand)
next_in_half f (in_pages s) bytes = onto entered (next_in_pages f s bytes)
next_in_half f (in_journal rels s) bytes = onto (in_journal rels) (next_in_journal rels s bytes)

-- the half is whole behind a gate that is not open
abbrev pub is_half_whole : HalfStand → Bool
is_half_whole (in_pages s) = false
is_half_whole (in_journal rels s) = is_journal_whole s

-- whole fields, each keeping its rule after those before it, end at this place
abbrev pub ReachesInHalf : Format → List ℕ → ℕ → HalfStand → Type 0
ReachesInHalf f bytes at s = ReachesBy (next_in_half f) bytes (0, in_pages at_magic) at s

abbrev pub IsGoodPrefixOfHalf : Format → List ℕ → ℕ → Type 0
IsGoodPrefixOfHalf f bytes n = (s : HalfStand) × ReachesInHalf f bytes n s

-- a field that breaks its rule, or does not lie wholly in the bytes, begins at this place, where the longest good prefix ends
pub record IsDamageOfHalf (f : Format) (bytes : List ℕ) (at : ℕ) : Type 0 where
  pub good : IsGoodPrefixOfHalf f bytes at
  pub longest : (n : ℕ) → IsGoodPrefixOfHalf f bytes n → n ≤ at
  pub stops : StopsBy (next_in_half f) is_half_whole bytes (0, in_pages at_magic) at

-- ---- what stands in it

-- the pages of this catalogue and state end at this place, before the first gate
pub record HasPages (f : Format) (bytes : List ℕ) (rels : List RelDecl) (state : State) (at : ℕ) : Type 0 where
  pub short : length bytes ≤ half_limit
  pub catalogue : IsCatalogue rels
  pub valid : IsState rels state
  pub fit : Fit f.page state
  pub within : at ≤ length bytes
  pub printed : take at bytes ≡ pages_of f rels state
  pub ends : (b : Book) × (b.rels ≡ rels) × ReachesInPages f bytes at (at_page b 0)

-- the bytes are a half with this catalogue and state, whose first gate that is not open stands at `end`
pub record IsHalfTo (f : Format) (bytes : List ℕ) (rels : List RelDecl) (state : State) (end : ℕ) : Type 0 where
  pub half : IsHalf f bytes rels state
  pub place : end ≡ length (pages_of f rels half.paged ++ flat_map sealed half.deltas)
