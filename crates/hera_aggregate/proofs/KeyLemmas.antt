-- Rows behind their keys: no key begins another, and the rows behind a key are those of the key.
use Rattle.std.proofs.Common.{◌≡◌, ℕ, zero, suc, Bool, true, false, ◌&&◌, ◌||◌, List, [], ◌∷◌, ◌++◌, length, drop, map, All, refl, sym, ap, ◌∙◌, inl, inr, append_assoc}
use Rattle.std.specs.List.{flat_map}
use Rattle.std.proofs.lemmas.Bool.{both_ways, and_parts, and_from, false≢true, false_from_ne_true, or_cases}
use Rattle.std.proofs.lemmas.List.{drop_at}
use Rattle.std.proofs.lemmas.List.Elements.{All-head, All-tail}
use Rattle.hera_sets.specs.Rows.{Row, is_same, IsAscending, holds, normal}
use Rattle.hera_sets.proofs.Order.{same_true, same_itself}
use Rattle.hera_sets.proofs.Lists.{ascending_filter}
use Rattle.hera_sets.proofs.Members.{same_rows, ascending_normal, holds-normal, holds-filter}
use Rattle.hera_meaning.specs.declared.scalars.Scalar.{Scalar}
use Rattle.hera_meaning.specs.declared.schemas.Attr.{Attr}
use Rattle.hera_meaning.specs.Scalars.{is_tuple}
use Rattle.hera_meaning.specs.Rows.{field_bytes, row_of, IsRow, first_piece, pieces}
use Rattle.hera_meaning.specs.Relations.{piece_at, at_places, project_of}
use Rattle.hera_meaning.specs.Aggregates.{rows_of_key}
use Rattle.hera_row.proofs.FieldLemmas.{first_piece-field_bytes}
use Rattle.hera_row.proofs.RowLemmas.{first_field}
use Rattle.rel_algebra.specs.Fronts.{begun_of, rows_behind}
use Rattle.rel_algebra.proofs.FrontLemmas.{ascending_behind, holds-behind}
use Rattle.hera_aggregate.specs.Groups.{keyed_row}

-- ---- no key begins another

pieces-row_of : (schema : List Attr) (tuple : List Scalar) → is_tuple schema tuple ≡ true → pieces schema (row_of tuple) ≡ map field_bytes tuple
pieces-row_of [] [] h = refl
pieces-row_of [] (s ∷ ss) h = absurd (false≢true h)
pieces-row_of (a ∷ attrs) [] h = absurd (false≢true h)
pieces-row_of (a ∷ attrs) (s ∷ ss) h =
    let p = first_field a attrs s ss h in
    rw (first_piece-field_bytes a.kind s (row_of ss) p.kind p.valid, drop_at (field_bytes s) (row_of ss) (length (field_bytes s)) refl)
    (ap (λ t. field_bytes s ∷ t) (pieces-row_of attrs ss p.others))

one_piece : (schema : List Attr) (ss ts : List Scalar) (i : ℕ) (u v : List ℕ) → is_tuple schema ss ≡ true → is_tuple schema ts ≡ true → piece_at (map field_bytes ss) i ++ u ≡ piece_at (map field_bytes ts) i ++ v → piece_at (map field_bytes ss) i ≡ piece_at (map field_bytes ts) i
one_piece [] [] [] i u v h g e = refl
one_piece [] [] (t ∷ ts) i u v h g e = absurd (false≢true g)
one_piece [] (s ∷ ss) ts i u v h g e = absurd (false≢true h)
one_piece (a ∷ attrs) [] ts i u v h g e = absurd (false≢true h)
one_piece (a ∷ attrs) (s ∷ ss) [] i u v h g e = absurd (false≢true g)
one_piece (a ∷ attrs) (s ∷ ss) (t ∷ ts) zero u v h g e =
    let p = first_field a attrs s ss h in
    let q = first_field a attrs t ts g in
    sym (first_piece-field_bytes a.kind s u p.kind p.valid) ∙ ap (first_piece a.kind) e ∙ first_piece-field_bytes a.kind t v q.kind q.valid
one_piece (a ∷ attrs) (s ∷ ss) (t ∷ ts) (suc i) u v h g e =
    one_piece attrs ss ts i u v (first_field a attrs s ss h).others (first_field a attrs t ts g).others e

-- equal fronts leave equal rests
rest_left : (p q u v : List ℕ) → p ≡ q → p ++ u ≡ q ++ v → u ≡ v
rest_left p q u v e h = sym (drop_at p u (length p) refl) ∙ (λ i. drop (length (e i)) (h i)) ∙ drop_at q v (length q) refl

keys_apart : (schema : List Attr) (ss ts : List Scalar) (by : List ℕ) (u v : List ℕ) → is_tuple schema ss ≡ true → is_tuple schema ts ≡ true → flat_map (piece_at (map field_bytes ss)) by ++ u ≡ flat_map (piece_at (map field_bytes ts)) by ++ v → flat_map (piece_at (map field_bytes ss)) by ≡ flat_map (piece_at (map field_bytes ts)) by
keys_apart schema ss ts [] u v h g e = refl
keys_apart schema ss ts (i ∷ by) u v h g e =
    let turned : piece_at (map field_bytes ss) i ++ (flat_map (piece_at (map field_bytes ss)) by ++ u) ≡ piece_at (map field_bytes ts) i ++ (flat_map (piece_at (map field_bytes ts)) by ++ v) =
    sym (append_assoc (piece_at (map field_bytes ss) i) (flat_map (piece_at (map field_bytes ss)) by) u) ∙ e ∙ append_assoc (piece_at (map field_bytes ts) i) (flat_map (piece_at (map field_bytes ts)) by) v
    in
    let here = one_piece schema ss ts i (flat_map (piece_at (map field_bytes ss)) by ++ u) (flat_map (piece_at (map field_bytes ts)) by ++ v) h g turned in
    let others = keys_apart schema ss ts by u v h g (rest_left _ _ _ _ here turned) in
    λ k. here k ++ others k

-- the key of a row, by the row's tuple
key_of-row : (schema : List Attr) (by : List ℕ) (tuple : List Scalar) (row : Row) → is_tuple schema tuple ≡ true → row_of tuple ≡ row → at_places schema by row ≡ flat_map (piece_at (map field_bytes tuple)) by
key_of-row schema by tuple row h e = ap (λ ps. flat_map (piece_at ps) by) (ap (pieces schema) (sym e) ∙ pieces-row_of schema tuple h)

pub no_key_begins_another : (schema : List Attr) (by : List ℕ) (x y : Row) (u v : List ℕ) → IsRow schema x → IsRow schema y → at_places schema by x ++ u ≡ at_places schema by y ++ v → at_places schema by x ≡ at_places schema by y
no_key_begins_another schema by x y u v (ss, h, e) (ts, g, f) w =
    let xs = key_of-row schema by ss x h e in
    let ys = key_of-row schema by ts y g f in
    xs ∙ keys_apart schema ss ts by u v h g (ap (λ t. t ++ u) (sym xs) ∙ w ∙ ap (λ t. t ++ v) ys) ∙ sym ys

-- ---- the rows behind a key are the rows of the key

-- k is the key of a row of the schema
pub record IsKey (schema : List Attr) (by : List ℕ) (k : Row) : Type 0 where
  pub row : Row
  pub valid : IsRow schema row
  pub is : at_places schema by row ≡ k

same_keyed : (schema : List Attr) (by : List ℕ) (k x r : Row) → IsKey schema by k → IsRow schema r → is_same (k ++ x) (keyed_row schema by r) ≡ (is_same (at_places schema by x) k && is_same x r)
same_keyed schema by k x r key row = cases (is_same (k ++ x) (keyed_row schema by r)) refl
  where
    cases : (v : Bool) → is_same (k ++ x) (keyed_row schema by r) ≡ v → v ≡ (is_same (at_places schema by x) k && is_same x r)
    cases true s =
        let e : k ++ x ≡ at_places schema by r ++ r = same_true _ _ s in
        let keys : k ≡ at_places schema by r = sym key.is ∙ no_key_begins_another schema by key.row r x r key.valid row (ap (λ t. t ++ x) key.is ∙ e) in
        let rows : x ≡ r = rest_left k (at_places schema by r) x r keys e in
        sym (and_from _ _ (ap (λ t. is_same t k) (ap (at_places schema by) rows ∙ sym keys) ∙ same_itself k) (ap (is_same x) (sym rows) ∙ same_itself x))
    cases false s = sym (false_from_ne_true _ (λ h.
        let p = and_parts (is_same (at_places schema by x) k) (is_same x r) h in
        let keys : at_places schema by x ≡ k = same_true _ _ p.0 in
        let rows : x ≡ r = same_true _ _ p.1 in
        let e : k ++ x ≡ keyed_row schema by r = (λ i. (sym keys ∙ ap (at_places schema by) rows) i ++ rows i) in
        both_ways _ s (ap (is_same (k ++ x)) (sym e) ∙ same_itself (k ++ x))))

and_or : (a b c : Bool) → ((a && b) || (a && c)) ≡ (a && (b || c))
and_or true b c = refl
and_or false b c = refl

and_none : (a : Bool) → false ≡ (a && false)
and_none true = refl
and_none false = refl

holds-keyed : (schema : List Attr) (by : List ℕ) (rows : List Row) (k x : Row) → IsKey schema by k → All (IsRow schema) rows → holds (map (keyed_row schema by) rows) (k ++ x) ≡ (is_same (at_places schema by x) k && holds rows x)
holds-keyed schema by [] k x key all = and_none (is_same (at_places schema by x) k)
holds-keyed schema by (r ∷ rows) k x key all =
    (λ i. same_keyed schema by k x r key (All-head (IsRow schema) r rows all) i || holds-keyed schema by rows k x key (All-tail (IsRow schema) r rows all) i)
    ∙ and_or (is_same (at_places schema by x) k) (is_same x r) (holds rows x)

pub rows_behind-key : (schema : List Attr) (by : List ℕ) (rows : List Row) (k : Row) → IsKey schema by k → All (IsRow schema) rows → IsAscending rows → rows_behind (length k) (begun_of k (normal (map (keyed_row schema by) rows))) ≡ rows_of_key schema by k rows
rows_behind-key schema by rows k key all up =
    same_rows _ _ (ascending_behind k (normal (map (keyed_row schema by) rows)) (ascending_normal (map (keyed_row schema by) rows))) (ascending_filter (λ x. is_same (at_places schema by x) k) rows up) (λ x.
    holds-behind k x (normal (map (keyed_row schema by) rows))
    ∙ holds-normal (map (keyed_row schema by) rows) (k ++ x)
    ∙ holds-keyed schema by rows k x key all
    ∙ sym (holds-filter (λ z. is_same (at_places schema by z) k) rows x))

key_among : (schema : List Attr) (by : List ℕ) (rows : List Row) (k : Row) → All (IsRow schema) rows → holds (map (at_places schema by) rows) k ≡ true → IsKey schema by k
key_among schema by [] k all h = absurd (false≢true h)
key_among schema by (r ∷ rows) k all h =
    elim (or_cases (is_same k (at_places schema by r)) (holds (map (at_places schema by) rows) k) h) [
      | inl s ↦ record { row = r; valid = All-head (IsRow schema) r rows all; is = sym (same_true _ _ s) }
      | inr g ↦ key_among schema by rows k (All-tail (IsRow schema) r rows all) g
    ]

-- each key that was projected is the key of a row
pub key_found : (schema : List Attr) (by : List ℕ) (rows : List Row) (k : Row) → All (IsRow schema) rows → holds (project_of schema by rows) k ≡ true → IsKey schema by k
key_found schema by rows k all h = key_among schema by rows k all (sym (holds-normal (map (at_places schema by) rows) k) ∙ h)
