-- A half is walked to its last gate, so its bytes are those of one catalogue and state.
use Rattle.std.specs.Prelude.{All}
use Rattle.std.proofs.Common.{subst, ◌≡◌, ◌≤◌, inl, inr, ℕ, ◌+◌, List, [], ◌∷◌, ◌++◌, length, drop, map, Option, refl, sym, ap, ◌∙◌, append_assoc, arith}
use Rattle.std.specs.List.{flat_map}
use Rattle.std.proofs.lemmas.Bool.{both_ways}
use Rattle.std.proofs.lemmas.List.{length-append, append-nil, drop_at}
use Rattle.std.proofs.lemmas.List.Elements.{All-nil, All-head, All-tail, All-weaker}
use Rattle.hera_meaning.specs.Commits.{after_all}
use Rattle.hera_sets.specs.Rows.{Row, is_same}
use Rattle.hera_meaning.specs.declared.schemas.RelDecl.{RelDecl}
use Rattle.hera_meaning.specs.Catalogues.{IsCatalogue, IsDecl}
use Rattle.hera_meaning.specs.Deltas.{State, IsState, Atom, atoms}
use Rattle.hera_meaning.specs.declared.schemas.Attr.{Attr}
use Rattle.hera_meaning.specs.Schemas.{IsSchema}
use Rattle.hera_meaning.specs.Rows.{IsRow}
use Rattle.half_writer.proofs.RowSizes.{fits_page}
use Rattle.rel_format.specs.declared.version.Version.{Version}
use Rattle.rel_format.specs.declared.version.Version.TheVariants.{One, Two}
use Rattle.rel_format.specs.Versions.{format_of, version_in, IsHalfOf}
use Rattle.rel_format.specs.Pages.{Format, FitsIn, Fit, format_two, paged, pages_of, half_of}
use Rattle.rel_format.specs.Fields.{PageEnd}
use Rattle.rel_format.specs.Greedy.{all_rows}
use Rattle.rel_format.specs.Journal.{IsHalf, IsRecordOf, half_limit, sealed}
use Rattle.rel_format.specs.Table.{Stand, Book, at_magic, at_page, next}
use Rattle.rel_format.specs.Places.{Reaches}
use Rattle.commit_journal.specs.Table.{at_end}
use Rattle.commit_journal.specs.Halves.{HalfStand, in_pages, in_journal, next_in_half, is_half_whole, ReachesInHalf, IsDamageOfHalf, IsHalfTo}
use Rattle.commit_journal.proofs.Complete.{journal_printed}
use Rattle.commit_journal.proofs.Wholes.{journal_in_half, journal_begins, pages_damaged}
use Rattle.rel_pages.specs.Halves.{IsDamagedAt}
use Rattle.half_laws.specs.Formats.{IsFormat}
use Rattle.half_laws.proofs.Ends.{one_end}
use Rattle.half_laws.proofs.Pagings.{paged_rows}
use Rattle.half_laws.proofs.Pages.{pages_walked}

-- the rows of each page of each relation, at the end of the pages
abbrev groups_at : Stand → List (List (List Row))
groups_at (at_page b left) = b.pages
groups_at _ = []

rows_back : (page : ℕ) (s : State) → map all_rows (map (paged page) s) ≡ s
rows_back page [] = refl
rows_back page (rows ∷ s) = ap (λ (r : List Row). r ∷ map all_rows (map (paged page) s)) (paged_rows page rows) ∙ ap (λ (t : State). rows ∷ t) (rows_back page s)

-- the relations and the records, at the end of the journal
abbrev rels_at : HalfStand → List RelDecl
rels_at (in_journal rels s) = rels
rels_at _ = []

abbrev records_at : HalfStand → List (List Atom)
records_at (in_journal rels (at_end records gate)) = records
records_at _ = []

abbrev book_of : Format → List RelDecl → State → Option PageEnd → Book
book_of f rels paged_state last = record { rels = rels; pages = map (paged f.page) paged_state; last = last }

behind_pages : (f : Format) (bytes : List ℕ) (rels : List RelDecl) (state : State) (h : IsHalf f bytes rels state) → bytes ≡ pages_of f rels h.paged ++ (flat_map sealed h.deltas ++ h.gate ∷ h.rest)
behind_pages f bytes rels state h = h.printed ∙ append_assoc (pages_of f rels h.paged) (flat_map sealed h.deltas) (h.gate ∷ h.rest)

-- the pages are walked to their end
to_gate : (f : Format) → IsFormat f → (bytes : List ℕ) (rels : List RelDecl) (state : State) (h : IsHalf f bytes rels state) → (e : Option PageEnd) × Reaches f bytes (length (pages_of f rels h.paged)) (at_page (book_of f rels h.paged e) 0)
to_gate f format bytes rels state h = pages_walked f bytes rels format h.catalogue.few h.paged (flat_map sealed h.deltas ++ h.gate ∷ h.rest) h.catalogue h.valid h.fit h.short (behind_pages f bytes rels state h)

-- and the journal to its last gate
to_end : (f : Format) → IsFormat f → (bytes : List ℕ) (rels : List RelDecl) (state : State) (h : IsHalf f bytes rels state) → ReachesInHalf f bytes (length (pages_of f rels h.paged) + length (flat_map sealed h.deltas) + 1) (in_journal rels (at_end h.deltas h.gate))
to_end f format bytes rels state h =
    let start = length (pages_of f rels h.paged) in
    let few : length rels ≤ 65536 = omega (arith, h.catalogue.few) in
    let here : drop start bytes ≡ flat_map sealed h.deltas ++ h.gate ∷ h.rest = ap (λ (l : List ℕ). drop start l) (behind_pages f bytes rels state h) ∙ drop_at (pages_of f rels h.paged) (flat_map sealed h.deltas ++ h.gate ∷ h.rest) start refl in
    let gate = to_gate f format bytes rels state h in
    let first = journal_begins f rels bytes start (book_of f rels h.paged gate.0, refl, gate.1) in
    journal_in_half f rels bytes start (start + length (flat_map sealed h.deltas) + 1) (at_end h.deltas h.gate) first
    (journal_printed rels few bytes start h.deltas h.gate h.rest h.records h.closed here)

-- what is damaged is no half
pub damaged_is_none : (f : Format) → IsFormat f → (bytes : List ℕ) (rels : List RelDecl) (state : State) (at : ℕ) → IsDamageOfHalf f bytes at → IsHalf f bytes rels state → ⊥
damaged_is_none f format bytes rels state at damage h =
    let stops = damage.stops in
    let same = one_end (next_in_half f) bytes (0, in_pages at_magic) at (length (pages_of f rels h.paged) + length (flat_map sealed h.deltas) + 1) stops.0 (in_journal rels (at_end h.deltas h.gate)) stops.1 stops.2 (to_end f format bytes rels state h) refl in
    both_ways _ stops.3 (ap (λ (z : ℕ × HalfStand). is_half_whole z.1) same)

-- ---- at most one catalogue and state

pub record SameHalf (rels rels2 : List RelDecl) (state state2 : State) (end end2 : ℕ) : Type 0 where
  pub rels_same : rels ≡ rels2
  pub state_same : state ≡ state2
  pub place_same : end ≡ end2

abbrev end_in : (f : Format) (bytes : List ℕ) (rels : List RelDecl) (state : State) → IsHalf f bytes rels state → ℕ
end_in f bytes rels state h = length (pages_of f rels h.paged ++ flat_map sealed h.deltas)

one_half : (f : Format) → IsFormat f → (bytes : List ℕ) (rels rels2 : List RelDecl) (state state2 : State) (h : IsHalf f bytes rels state) (g : IsHalf f bytes rels2 state2) → SameHalf rels rels2 state state2 (end_in f bytes rels state h) (end_in f bytes rels2 state2 g)
one_half f format bytes rels rels2 state state2 h g =
    let gate = to_gate f format bytes rels state h in
    let gate2 = to_gate f format bytes rels2 state2 g in
    let pages = one_end (next f) bytes (0, at_magic) (length (pages_of f rels h.paged)) (length (pages_of f rels2 g.paged)) (at_page (book_of f rels h.paged gate.0) 0) (at_page (book_of f rels2 g.paged gate2.0) 0) gate.1 refl gate2.1 refl in
    let groups : map (paged f.page) h.paged ≡ map (paged f.page) g.paged = ap (λ (z : ℕ × Stand). groups_at z.1) pages in
    let same_paged : h.paged ≡ g.paged = sym (rows_back f.page h.paged) ∙ ap (map all_rows) groups ∙ rows_back f.page g.paged in
    let whole = one_end (next_in_half f) bytes (0, in_pages at_magic) (length (pages_of f rels h.paged) + length (flat_map sealed h.deltas) + 1) (length (pages_of f rels2 g.paged) + length (flat_map sealed g.deltas) + 1)
    (in_journal rels (at_end h.deltas h.gate)) (in_journal rels2 (at_end g.deltas g.gate)) (to_end f format bytes rels state h) refl (to_end f format bytes rels2 state2 g) refl in
    let same_deltas : h.deltas ≡ g.deltas = ap (λ (z : ℕ × HalfStand). records_at z.1) whole in
    let same_place : length (pages_of f rels h.paged) + length (flat_map sealed h.deltas) + 1 ≡ length (pages_of f rels2 g.paged) + length (flat_map sealed g.deltas) + 1 = ap (λ (z : ℕ × HalfStand). z.0) whole in
    record {
      rels_same = ap (λ (z : ℕ × HalfStand). rels_at z.1) whole;
      state_same = h.behind ∙ ap (λ (s : State). after_all s (map atoms h.deltas)) same_paged ∙ ap (λ (ds : List (List Atom)). after_all g.paged (map atoms ds)) same_deltas ∙ sym g.behind;
      place_same = omega (arith, same_place, length-append (pages_of f rels h.paged) (flat_map sealed h.deltas), length-append (pages_of f rels2 g.paged) (flat_map sealed g.deltas));
    }

pub one_content : (f : Format) → IsFormat f → (bytes : List ℕ) (rels rels2 : List RelDecl) (state state2 : State) → IsHalf f bytes rels state → IsHalf f bytes rels2 state2 → (rels ≡ rels2) × (state ≡ state2)
one_content f format bytes rels rels2 state state2 h g = let same = one_half f format bytes rels rels2 state state2 h g in (same.rels_same, same.state_same)

pub one_place : (f : Format) → IsFormat f → (bytes : List ℕ) (rels rels2 : List RelDecl) (state state2 : State) (end end2 : ℕ) → IsHalfTo f bytes rels state end → IsHalfTo f bytes rels2 state2 end2 → end ≡ end2
one_place f format bytes rels rels2 state state2 end end2 h g = h.place ∙ (one_half f format bytes rels rels2 state state2 h.half g.half).place_same ∙ sym g.place

-- ---- the two formats

pub is_format : (v : Version) → IsFormat (format_of v)
is_format One = record { magic = refl; roomy = omega arith; counted = omega arith }
is_format Two = record { magic = refl; roomy = omega arith; counted = omega arith }

-- the magic tells the format
pub half_version : (v : Version) (bytes : List ℕ) (rels : List RelDecl) (state : State) → IsHalf (format_of v) bytes rels state → version_in bytes ≡ v
unfolding is_same
half_version One bytes rels state h = ap version_in h.printed
half_version Two bytes rels state h = ap version_in h.printed

-- the format of a half, told by its bytes
pub half_in : (bytes : List ℕ) (rels : List RelDecl) (state : State) → IsHalfOf bytes rels state → IsHalf (format_of (version_in bytes)) bytes rels state
half_in bytes rels state h = subst (λ (v : Version). IsHalf (format_of v) bytes rels state) (sym (half_version h.0 bytes rels state h.1)) h.1

pub one_content_of : (bytes : List ℕ) (rels rels2 : List RelDecl) (state state2 : State) → IsHalfOf bytes rels state → IsHalfOf bytes rels2 state2 → (rels ≡ rels2) × (state ≡ state2)
one_content_of bytes rels rels2 state state2 h g =
    let v = version_in bytes in
    one_content (format_of v) (is_format v) bytes rels rels2 state state2 (half_in bytes rels state h) (half_in bytes rels2 state2 g)

-- a half in one of the formats, with its last gate at this place
pub half_to_in : (v : Version) (bytes : List ℕ) (rels : List RelDecl) (state : State) (end : ℕ) → IsHalfTo (format_of v) bytes rels state end → IsHalfTo (format_of (version_in bytes)) bytes rels state end
half_to_in v bytes rels state end h = subst (λ (w : Version). IsHalfTo (format_of w) bytes rels state end) (sym (half_version v bytes rels state h.half)) h

pub one_place_of : (v w : Version) (bytes : List ℕ) (rels rels2 : List RelDecl) (state state2 : State) (end end2 : ℕ) → IsHalfTo (format_of v) bytes rels state end → IsHalfTo (format_of w) bytes rels2 state2 end2 → end ≡ end2
one_place_of v w bytes rels rels2 state state2 end end2 h g =
    let x = version_in bytes in
    one_place (format_of x) (is_format x) bytes rels rels2 state state2 end end2 (half_to_in v bytes rels state end h) (half_to_in w bytes rels2 state2 end2 g)

-- ---- damage

pub damaged_is_none_of : (bytes : List ℕ) (rels : List RelDecl) (state : State) (at : ℕ) → IsDamageOfHalf (format_of (version_in bytes)) bytes at → IsHalfOf bytes rels state → ⊥
damaged_is_none_of bytes rels state at damage h =
    let v = version_in bytes in
    damaged_is_none (format_of v) (is_format v) bytes rels state at damage (half_in bytes rels state h)

-- nor is what is damaged before the first gate, or is too long
pub damaged_at_is_none : (bytes : List ℕ) (rels : List RelDecl) (state : State) (at : ℕ) → IsDamagedAt bytes at → IsHalfOf bytes rels state → ⊥
damaged_at_is_none bytes rels state at damaged h = elim damaged [
  | inl long ↦ omega (arith, long.0, h.1.short)
  | inr damage ↦ damaged_is_none_of bytes rels state at (pages_damaged (format_of (version_in bytes)) bytes at damage.1.stops) h
]

-- ---- the half of a state

-- pages of the second format have room for each row of a schema
pub fit_of : (rels : List RelDecl) (s : State) → All IsDecl rels → IsState rels s → Fit format_two.page s
fit_of [] [] all valid = tt
fit_of [] (x ∷ s) all valid = absurd valid
fit_of (d ∷ rels) [] all valid = absurd valid
fit_of (d ∷ rels) (rows ∷ s) all valid =
    let schema = (All-head IsDecl d rels all).schema in
    (All-weaker (IsRow d.schema) (FitsIn format_two.page) (λ row h. row_fits d.schema row schema h) rows valid.0.1, fit_of rels s (All-tail IsDecl d rels all) valid.1)
  where
    row_fits : (schema : List Attr) (row : Row) → IsSchema schema → IsRow schema row → FitsIn format_two.page row
    row_fits schema row valid h = let size = fits_page schema row valid h in omega (arith, size.few)

pub half_of_is : (rels : List RelDecl) (state : State) → IsCatalogue rels → IsState rels state → length (half_of format_two rels state) ≤ half_limit → IsHalfTo format_two (half_of format_two rels state) rels state (length (pages_of format_two rels state))
half_of_is rels state catalogue valid short =
    let pages = pages_of format_two rels state in
    record {
      half = record {
        short = short;
        catalogue = catalogue;
        paged = state;
        valid = valid;
        fit = fit_of rels state catalogue.decls valid;
        deltas = [];
        records = All-nil (IsRecordOf rels);
        gate = 0;
        closed = λ (e : 0 ≡ 1). absurd (omega (arith, e));
        rest = [];
        printed = ap (λ (l : List ℕ). l ++ 0 ∷ []) (sym (append-nil pages));
        behind = refl;
      };
      place = ap (λ (l : List ℕ). length l) (sym (append-nil pages));
    }
