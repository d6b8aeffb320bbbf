-- What is walked to a last gate is a half, and what stops before it is damaged.
use Rattle.std.proofs.Common.{◌≡◌, ◌≤◌, ◌⊎◌, inl, inr, ℕ, zero, suc, ◌+◌, ◌-◌, List, [], ◌++◌, length, take, drop, map, Some, None, refl, sym, ap, subst, ◌∙◌, append_assoc, arith}
use Rattle.std.specs.Prelude.{false}
use Rattle.std.specs.Int.{w32, to_be_bytes}
use Rattle.std.proofs.lemmas.List.{length-append, length-take, take_at, take-append-drop}
use Rattle.hera_meaning.specs.declared.schemas.RelDecl.{RelDecl}
use Rattle.hera_meaning.specs.Deltas.{State, Atom, atoms}
use Rattle.hera_row.proofs.FieldLemmas.{AreBytes}
use Rattle.rel_format.specs.Pages.{Format, header_of, pages_of, page_count, rels_bytes}
use Rattle.rel_format.specs.Journal.{IsHalf, half_limit}
use Rattle.rel_format.specs.Table.{Stand, Book, at_magic, at_count, at_rels, at_name, at_width, at_attr, at_attr_name, at_kind, at_page, at_row_count, at_row, at_fill, next as next_in_pages}
use Rattle.rel_format.specs.Places.{Reaches as ReachesInPages}
use Rattle.rel_format.specs.SoFar.{groups_bytes, pages_counted}
use Rattle.rel_format.proofs.Walks.{step_by, longest_by, kept_by}
use Rattle.rel_format.proofs.Printed.{read_well}
use Rattle.rel_pages.specs.Reading.{pages_len}
use Rattle.rel_pages.specs.Parts.{state_of, parts_from}
use Rattle.rel_pages.proofs.Halves.{all_read_is, state_is}
use Rattle.commit_journal.specs.Table.{JournalStand, at_gate, at_atom_count, at_sign, at_rel, at_end, next as next_in_journal}
use Rattle.commit_journal.specs.Table as journal
use Rattle.commit_journal.specs.Places.{Reaches}
use Rattle.commit_journal.specs.Halves.{HalfStand, in_pages, in_journal, entered, next_in_half, is_half_whole, ReachesInHalf, IsDamageOfHalf, HasPages}
use Rattle.commit_journal.proofs.Printed.{whole_journal}
use Rattle.commit_journal.proofs.Halves.{half_read}
use Rattle.store_laws.proofs.Ends.{within_bytes, not_before}
use Rattle.store_laws.proofs.Moves.{weight, all_pages_move, half_weight, all_move, part_is}
use Rattle.store_laws.proofs.Catalogues.{catalogue_read}

-- ---- a walk of a half is one of its pages, and then one of its journal

record Behind (f : Format) (bytes : List ℕ) (rels : List RelDecl) (at : ℕ) (s : JournalStand) : Type 0 where
  start : ℕ
  book : Book
  own : book.rels ≡ rels
  pages : ReachesInPages f bytes start (at_page book 0)
  journal : Reaches rels bytes start at s

abbrev Parts : Format → List ℕ → ℕ → HalfStand → Type 0
Parts f bytes at (in_pages s) = ReachesInPages f bytes at s
Parts f bytes at (in_journal rels s) = Behind f bytes rels at s

parts_entered : (f : Format) (bytes : List ℕ) (at : ℕ) (s : Stand) → ReachesInPages f bytes at s → Parts f bytes at (entered s)
parts_entered f bytes at at_magic r = r
parts_entered f bytes at at_count r = r
parts_entered f bytes at (at_rels rels left) r = r
parts_entered f bytes at (at_name rels left n) r = r
parts_entered f bytes at (at_width rels left name) r = r
parts_entered f bytes at (at_attr p more) r = r
parts_entered f bytes at (at_attr_name p more n) r = r
parts_entered f bytes at (at_kind p more name) r = r
parts_entered f bytes at (at_page b zero) r = record { start = at; book = b; own = refl; pages = r; journal = (0, refl) }
parts_entered f bytes at (at_page b (suc left)) r = r
parts_entered f bytes at (at_row_count b left rel) r = r
parts_entered f bytes at (at_row b left p more) r = r
parts_entered f bytes at (at_fill b left p) r = r

parts_step : (f : Format) (bytes : List ℕ) (at : ℕ) (s : HalfStand) (n : ℕ) (t : HalfStand) → Parts f bytes at s → next_in_half f s (drop at bytes) ≡ Some (n, t) → Parts f bytes (at + n) t
parts_step f bytes at (in_pages s) n t h e =
    let p = part_is entered (next_in_pages f s (drop at bytes)) n t e in
    subst (Parts f bytes (at + n)) p.next (parts_entered f bytes (at + n) p.stand (step_by (next_in_pages f) bytes (0, at_magic) at s n p.stand h p.read))
parts_step f bytes at (in_journal rels s) n t h e =
    let p = part_is (in_journal rels) (next_in_journal rels s (drop at bytes)) n t e in
    subst (Parts f bytes (at + n)) p.next (record {
      start = h.start;
      book = h.book;
      own = h.own;
      pages = h.pages;
      journal = step_by (next_in_journal rels) bytes (h.start, at_gate []) at s n p.stand h.journal p.read;
    })

parts_of : (f : Format) (bytes : List ℕ) (at : ℕ) (s : HalfStand) → ReachesInHalf f bytes at s → Parts f bytes at s
parts_of f bytes at s reached = kept_by (next_in_half f) bytes (0, in_pages at_magic) (Parts f bytes) (0, refl) (parts_step f bytes) reached.0 at s reached.1

-- ---- whole pages

regroup : (a b c d : List ℕ) → ((a ++ b) ++ c) ++ d ≡ a ++ (b ++ (c ++ d))
regroup a b c d = simp append_assoc

pages_there : (f : Format) (bytes : List ℕ) (start : ℕ) (b : Book) → AreBytes bytes → 1 ≤ f.page → length bytes ≤ half_limit → ReachesInPages f bytes start (at_page b 0) → (state : State) × HasPages f bytes b.rels state start
pages_there f bytes start b all some short reached =
    let header = header_of f b.rels in
    let count = to_be_bytes w32 (pages_counted b.pages + 0) in
    let groups = groups_bytes f.page 0 b.pages in
    let front : take start bytes ≡ (header ++ count) ++ groups = (read_well f bytes start (at_page b 0) all reached).printed in
    let size = ap (λ (l : List ℕ). length l) front in
    let within = within_bytes (next_in_pages f) weight bytes (0, at_magic) (all_pages_move f) (omega arith) start (at_page b 0) reached in
    let whole : bytes ≡ header ++ (count ++ (groups ++ drop start bytes)) =
    sym (take-append-drop start bytes) ∙ ap (λ (l : List ℕ). l ++ drop start bytes) front ∙ regroup header count groups (drop start bytes) in
    let printed : take (length header) bytes ≡ header = ap (λ (l : List ℕ). take (length header) l) whole ∙ take_at header (count ++ (groups ++ drop start bytes)) (length header) refl in
    let here : length header ≤ length bytes = omega (arith, size, length-take start bytes, length-append (header ++ count) groups, length-append header count, within) in
    let lens = map (pages_len f.page) b.pages in
    let read = all_read_is f bytes (length header) start b.rels lens b all some (catalogue_read f bytes start 0 b reached) here within printed refl refl reached in
    let parts = parts_from (length header + 4) lens in (
      state_of f.page b.rels parts bytes,
      record {
        short = short;
        catalogue = read.base.catalogue;
        valid = state_is f.page b.rels parts bytes read.base.parts_are;
        fit = read.base.fit;
        within = within;
        printed = read.base.printed;
        ends = (b, refl, reached);
      },
    )

length-four : (n : ℕ) → length (to_be_bytes w32 n) ≡ 4
length-four n = refl

some_pages : (f : Format) (rels : List RelDecl) (state : State) → 1 ≤ length (pages_of f rels state)
some_pages f rels state =
    let count = to_be_bytes w32 (page_count f.page state) in
    omega (arith, length-append (header_of f rels ++ count) (rels_bytes f.page 0 state), length-append (header_of f rels) count, length-four (page_count f.page state))

-- ---- a whole half

half_there : (f : Format) (bytes : List ℕ) (at : ℕ) (rels : List RelDecl) (records : List (List Atom)) (gate : ℕ) → AreBytes bytes → 1 ≤ f.page → length bytes ≤ half_limit → ReachesInHalf f bytes at (in_journal rels (at_end records gate)) →
    (state : State) × IsHalf f bytes rels state
half_there f bytes at rels records gate all some short reached =
    let parts = parts_of f bytes at (in_journal rels (at_end records gate)) reached in
    let found = pages_there f bytes parts.start parts.book all some short parts.pages in
    let state = found.0 in
    let pages = subst (λ (ds : List RelDecl). HasPages f bytes ds state parts.start) parts.own found.1 in
    let size = ap (λ (l : List ℕ). length l) pages.printed in
    let later = not_before (next_in_journal rels) bytes (parts.start, at_gate []) at (at_end records gate) parts.journal in
    let within = within_bytes (next_in_half f) half_weight bytes (0, in_pages at_magic) (all_move f) (omega arith) at (in_journal rels (at_end records gate)) reached in
    let place : at ≡ (at - 1) + 1 = omega (arith, later, size, some_pages f rels state, length-take parts.start bytes) in
    let scanned = whole_journal rels bytes parts.start (at - 1) (map atoms records) records gate all pages.within (omega (arith, place, within)) refl
    (subst (λ (n : ℕ). Reaches rels bytes parts.start n (at_end records gate)) place parts.journal) in
    let half = half_read f bytes rels state parts.start (map atoms records) (at - 1) pages scanned in
    (_, half.half)

damage : (f : Format) (bytes : List ℕ) (at : ℕ) (s : HalfStand) → ReachesInHalf f bytes at s → next_in_half f s (drop at bytes) ≡ None → is_half_whole s ≡ false → IsDamageOfHalf f bytes at
damage f bytes at s reached last open_end = record {
  good = (s, reached);
  longest = λ n good. longest_by (next_in_half f) bytes (0, in_pages at_magic) at n s good.0 reached last good.1;
  stops = (s, reached, last, open_end);
}

abbrev pub HalfOrDamage : Format → List ℕ → Type 0
HalfOrDamage f bytes = ((rels : List RelDecl) × (state : State) × IsHalf f bytes rels state) ⊎ ((at : ℕ) × IsDamageOfHalf f bytes at)

pub half_or_damage : (f : Format) (bytes : List ℕ) (at : ℕ) (s : HalfStand) → AreBytes bytes → 1 ≤ f.page → length bytes ≤ half_limit → ReachesInHalf f bytes at s → next_in_half f s (drop at bytes) ≡ None → HalfOrDamage f bytes
half_or_damage f bytes at (in_pages s) all some short reached last = inr (at, damage f bytes at (in_pages s) reached last refl)
half_or_damage f bytes at (in_journal rels (at_gate records)) all some short reached last = inr (at, damage f bytes at (in_journal rels (at_gate records)) reached last refl)
half_or_damage f bytes at (in_journal rels (at_atom_count records)) all some short reached last = inr (at, damage f bytes at (in_journal rels (at_atom_count records)) reached last refl)
half_or_damage f bytes at (in_journal rels (at_sign o more)) all some short reached last = inr (at, damage f bytes at (in_journal rels (at_sign o more)) reached last refl)
half_or_damage f bytes at (in_journal rels (at_rel o more s)) all some short reached last = inr (at, damage f bytes at (in_journal rels (at_rel o more s)) reached last refl)
half_or_damage f bytes at (in_journal rels (journal.at_row o more s rel)) all some short reached last = inr (at, damage f bytes at (in_journal rels (journal.at_row o more s rel)) reached last refl)
half_or_damage f bytes at (in_journal rels (at_end records gate)) all some short reached last =
    let half = half_there f bytes at rels records gate all some short reached in
    inl (rels, half.0, half.1)
