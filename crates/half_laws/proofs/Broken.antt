-- Bytes that break a rule behind a printed front are no half.
use Rattle.std.proofs.Common.{◌≡◌, ℕ, List, ◌++◌, length, map, refl, sym, ap, subst}
use Rattle.hera_sets.specs.Rows.{is_same}
use Rattle.hera_meaning.specs.declared.schemas.RelDecl.{RelDecl}
use Rattle.hera_meaning.specs.Catalogues.{IsCatalogue}
use Rattle.hera_meaning.specs.Deltas.{State, IsState}
use Rattle.rel_format.specs.declared.version.Version.{Version}
use Rattle.rel_format.specs.declared.version.Version.TheVariants.{One, Two}
use Rattle.rel_format.specs.Versions.{format_of, version_in, IsHalfOf}
use Rattle.rel_format.specs.Pages.{Format, Fit, header_of, paged, pages_of}
use Rattle.rel_format.specs.Table.{Stand, Book, at_magic, at_rels, next}
use Rattle.rel_format.specs.Places.{Reaches, Stops as StopsInPages}
use Rattle.rel_format.proofs.Walks.{step_by, kept_by}
use Rattle.commit_journal.specs.Places.{Stops}
use Rattle.commit_journal.specs.Halves.{IsDamageOfHalf}
use Rattle.commit_journal.proofs.Wholes.{pages_damaged, journal_damaged}
use Rattle.half_laws.specs.Behind.{StopsBehindHeader}
use Rattle.rel_format.proofs.Headers.{header_read}
use Rattle.half_laws.proofs.Pages.{pages_walked}
use Rattle.half_laws.proofs.Halves.{is_format, damaged_is_none_of}

-- the magic in front tells the format
header_version : (v : Version) (bytes : List ℕ) (front : List RelDecl) (rest : List ℕ) → bytes ≡ header_of (format_of v) front ++ rest → version_in bytes ≡ v
unfolding is_same
header_version One bytes front rest e = ap version_in e
header_version Two bytes front rest e = ap version_in e

pages_version : (v : Version) (bytes : List ℕ) (front : List RelDecl) (held : State) (rest : List ℕ) → bytes ≡ pages_of (format_of v) front held ++ rest → version_in bytes ≡ v
unfolding is_same
pages_version One bytes front held rest e = ap version_in e
pages_version Two bytes front held rest e = ap version_in e

-- a walk that goes on behind the header is one from the start
stops_from_start : (f : Format) (bytes : List ℕ) (front : List RelDecl) (at : ℕ) → Reaches f bytes (length (header_of f front)) (at_rels front 0) → StopsBehindHeader f bytes front at → StopsInPages f bytes at
stops_from_start f bytes front at first (s, reached, none, open_end) = (
  s,
  kept_by (next f) bytes (length (header_of f front), at_rels front 0) (λ (place : ℕ) (t : Stand). Reaches f bytes place t) first
      (λ place t n u h e. step_by (next f) bytes (0, at_magic) place t n u h e) reached.0 at s reached.1,
  none,
  open_end,
)

damage_in : (v : Version) (bytes : List ℕ) (at : ℕ) → version_in bytes ≡ v → IsDamageOfHalf (format_of v) bytes at → IsDamageOfHalf (format_of (version_in bytes)) bytes at
damage_in v bytes at is damage = subst (λ (w : Version). IsDamageOfHalf (format_of w) bytes at) (sym is) damage

pub broken_header : (v : Version) (bytes : List ℕ) (front : List RelDecl) (rest : List ℕ) (at : ℕ) (rels : List RelDecl) (state : State)
    → IsCatalogue front → bytes ≡ header_of (format_of v) front ++ rest → StopsBehindHeader (format_of v) bytes front at → IsHalfOf bytes rels state → ⊥
broken_header v bytes front rest at rels state catalogue e stops h =
    let f = format_of v in
    let first = header_read f bytes front rest (is_format v).magic catalogue e in
    damaged_is_none_of bytes rels state at (damage_in v bytes at (header_version v bytes front rest e) (pages_damaged f bytes at (stops_from_start f bytes front at first stops))) h

pub broken_pages : (v : Version) (bytes : List ℕ) (front : List RelDecl) (held : State) (rest : List ℕ) (at : ℕ) (rels : List RelDecl) (state : State)
    → IsCatalogue front → IsState front held → Fit (format_of v).page held → bytes ≡ pages_of (format_of v) front held ++ rest
    → Stops front bytes (length (pages_of (format_of v) front held)) at → IsHalfOf bytes rels state → ⊥
broken_pages v bytes front held rest at rels state catalogue valid fit e stops h =
    let f = format_of v in
    let walked = pages_walked f bytes front (is_format v) catalogue.few held rest catalogue valid fit h.1.short e in
    let book : Book = record { rels = front; pages = map (paged f.page) held; last = walked.0 } in
    damaged_is_none_of bytes rels state at
    (damage_in v bytes at (pages_version v bytes front held rest e) (journal_damaged f front bytes (length (pages_of f front held)) at (book, refl, walked.1) stops)) h
