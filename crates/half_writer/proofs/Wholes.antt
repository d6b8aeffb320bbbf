-- The relations of a state, added one after another.
use Rattle.std.proofs.Common.{◌≡◌, ℕ, suc, ◌+◌, List, [], ◌∷◌, ◌++◌, length, sym, ap, refl, ◌∙◌, append_assoc, arith}
use Rattle.std.proofs.lemmas.List.{length-append, append-nil}
use Rattle.hera_sets.specs.Rows.{Row}
use Rattle.hera_meaning.specs.declared.schemas.RelDecl.{RelDecl}
use Rattle.hera_meaning.specs.Deltas.{State}
use Rattle.rel_format.specs.Pages.{Format, paged, rel_bytes, rels_bytes, page_count, header_of, half_of}
use Rattle.half_writer.specs.Written.{Written, written_of, with_rel, finished}

counted_more : (page : ℕ) (s : State) (rows : List Row) → page_count page s + length (paged page rows) ≡ page_count page (s ++ rows ∷ [])
counted_more page [] rows = omega arith
counted_more page (r ∷ s) rows = let more = counted_more page s rows in omega (arith, more)

printed_more : (page n : ℕ) (s : State) (rows : List Row) → rels_bytes page n s ++ rel_bytes page (n + length s) rows ≡ rels_bytes page n (s ++ rows ∷ [])
printed_more page n [] rows =
    let same : n + 0 ≡ n = omega arith in
    ap (λ (m : ℕ). rel_bytes page m rows) same ∙ sym (append-nil (rel_bytes page n rows))
printed_more page n (r ∷ s) rows =
    let same : n + suc (length s) ≡ suc n + length s = omega arith in
    append_assoc (rel_bytes page n r) (rels_bytes page (suc n) s) (rel_bytes page (n + suc (length s)) rows)
    ∙ ap (λ (m : ℕ). rel_bytes page n r ++ (rels_bytes page (suc n) s ++ rel_bytes page m rows)) same
    ∙ ap (λ (t : List ℕ). rel_bytes page n r ++ t) (printed_more page (suc n) s rows)

-- a relation more
pub one_more_written : (f : Format) (rels : List RelDecl) (limit : ℕ) (s : State) (rows : List Row) → with_rel f.page (written_of f rels limit s) rows ≡ written_of f rels limit (s ++ rows ∷ [])
one_more_written f rels limit s rows =
    let header = header_of f rels in
    let from_zero : 0 + length s ≡ length s = omega arith in
    let added : length s + 1 ≡ length (s ++ rows ∷ []) = omega (arith, length-append s (rows ∷ [])) in
    let count = counted_more f.page s rows in
    let pages = ap (λ (m : ℕ). rels_bytes f.page 0 s ++ rel_bytes f.page m rows) (sym from_zero) ∙ printed_more f.page 0 s rows in
    let first : ℕ → Written = λ n. record { header = header; added = n; count = page_count f.page s + length (paged f.page rows); pages = rels_bytes f.page 0 s ++ rel_bytes f.page (length s) rows; limit = limit } in
    let second : ℕ → Written = λ n. record { header = header; added = length (s ++ rows ∷ []); count = n; pages = rels_bytes f.page 0 s ++ rel_bytes f.page (length s) rows; limit = limit } in
    let third : List ℕ → Written = λ p. record { header = header; added = length (s ++ rows ∷ []); count = page_count f.page (s ++ rows ∷ []); pages = p; limit = limit } in
    ap first added ∙ ap second count ∙ ap third pages

-- the half of the catalogue and the state
pub half_written : (f : Format) (rels : List RelDecl) (limit : ℕ) (s : State) → finished (written_of f rels limit s) ≡ half_of f rels s
half_written f rels limit s = refl
