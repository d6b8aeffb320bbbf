-- A row reads as its tuple, and the test of rows is right.
use Rattle.std.proofs.Common.{◌≡◌, ℕ, zero, suc, ◌+◌, ◌-◌, ◌*◌, ◌%◌, ◌^◌, ◌<◌, ◌&&◌, ℤ, pos, negsuc, ◌-ℤ◌, true, false, List, [], ◌∷◌, ◌++◌, length, take, drop, nat_lt, refl, sym, ap, ◌∙◌, arith, append_assoc, length-append}
use Rattle.std.proofs.Math.Nat.{add-mul, add_assoc, mul_assoc, mod-eq_of_lt, pow-succ'}
use Rattle.std.specs.Int.{w64, to_be_bytes, byte_at, bytes_high_first}
use Rattle.std.specs.List.{list_all}
use Rattle.std.proofs.lemmas.List.{append-nil, drop_at, take_at}
use Rattle.std.proofs.lemmas.Bool.{ltb-true, and_parts, and_from, false≢true}
use Rattle.std.proofs.lemmas.Int.{ints}
use Rattle.hera_sets.specs.Rows.{Row, is_same}
use Rattle.hera_sets.proofs.Order.{same_itself, same_true}
use Rattle.hera_meaning.specs.declared.scalars.Kind.{Kind}
use Rattle.hera_meaning.specs.declared.scalars.Kind.TheVariants.{Int as int_kind, Bool as bool_kind, Text as text_kind}
use Rattle.hera_meaning.specs.declared.scalars.Scalar.{Scalar}
use Rattle.hera_meaning.specs.declared.scalars.Scalar.TheVariants.{Int as int_scalar, Bool as bool_scalar, Text as text_scalar}
use Rattle.hera_meaning.specs.declared.schemas.Attr.{Attr}
use Rattle.hera_meaning.specs.Scalars.{fits_int, is_kind, is_scalar, is_tuple}
use Rattle.hera_meaning.specs.Rows.{shifted, field_bytes, row_of, IsRow, through_zero, first_piece, pieces, number_from, scalar_of, scalars_of, fields_of, is_row}
use Rattle.hera_meaning.proofs.ByteOrder.{mod-split, byte_at-pow, pow_pos256}
use Rattle.hera_meaning.proofs.RowOrder.{has_no_zero, no_zero, shifted_fits, headed}

-- ---- numbers

number_from-bytes : (k x n : ℕ) → number_from n (bytes_high_first k x) ≡ n * 256 ^ k + x % 256 ^ k
number_from-bytes zero x n = omega arith
number_from-bytes (suc k) x n =
    let split = mod-split x {m = 256} {c = 256 ^ k} (omega arith) (pow_pos256 k) in
    number_from-bytes k x (n * 256 + byte_at k x)
    ∙ ap (λ (z : ℕ). z + x % 256 ^ k) (add-mul (n * 256) (byte_at k x) (256 ^ k) ∙ ap (λ (z : ℕ). z + byte_at k x * 256 ^ k) (mul_assoc n 256 (256 ^ k)))
    ∙ add_assoc (n * (256 * 256 ^ k)) (byte_at k x * 256 ^ k) (x % 256 ^ k)
    ∙ rw (byte_at-pow k x, pow-succ' 256 k, split) refl

read_number : (x : ℕ) → x < 256 ^ 8 → number_from 0 (to_be_bytes w64 x) ≡ x
read_number x h = let whole : x % 256 ^ 8 ≡ x = mod-eq_of_lt h in number_from-bytes 8 x 0 ∙ omega (arith, whole)

shifted_back : (v : ℤ) → fits_int v ≡ true → pos (shifted v) -ℤ pos (2 ^ 63) ≡ v
shifted_back (pos n) h = omega (arith, ints, ltb-true n (2 ^ 63) h)
shifted_back (negsuc n) h = omega (arith, ints, ltb-true n (2 ^ 63) h)

-- ---- fields

through_zero-text : (t rest : List ℕ) → has_no_zero t ≡ true → through_zero ((t ++ 0 ∷ []) ++ rest) ≡ t ++ 0 ∷ []
through_zero-text [] rest h = refl
through_zero-text (zero ∷ t) rest h = absurd (false≢true h)
through_zero-text (suc b ∷ t) rest h = ap (λ (bytes : List ℕ). suc b ∷ bytes) (through_zero-text t rest (and_parts (nat_lt 0 (suc b)) (has_no_zero t) h).1)

pub first_piece-field : (k : Kind) (s : Scalar) (rest : List ℕ) → is_kind k s ≡ true → is_scalar s ≡ true → first_piece k (field_bytes s ++ rest) ≡ field_bytes s
first_piece-field int_kind (int_scalar v) rest p h = refl
first_piece-field bool_kind (bool_scalar b) rest p h = refl
first_piece-field text_kind (text_scalar t) rest p h = through_zero-text t rest (no_zero t h)
first_piece-field int_kind (bool_scalar b) rest p h = absurd (false≢true p)
first_piece-field int_kind (text_scalar t) rest p h = absurd (false≢true p)
first_piece-field bool_kind (int_scalar v) rest p h = absurd (false≢true p)
first_piece-field bool_kind (text_scalar t) rest p h = absurd (false≢true p)
first_piece-field text_kind (int_scalar v) rest p h = absurd (false≢true p)
first_piece-field text_kind (bool_scalar b) rest p h = absurd (false≢true p)

front_of : (t : List ℕ) → take (length (t ++ 0 ∷ []) - 1) (t ++ 0 ∷ []) ≡ t
front_of t =
    let one_less : length (t ++ 0 ∷ []) - 1 ≡ length t = omega (arith, length-append t (0 ∷ [])) in
    ap (λ (n : ℕ). take n (t ++ 0 ∷ [])) one_less ∙ take_at t (0 ∷ []) (length t) refl

pub scalar_of-field : (k : Kind) (s : Scalar) → is_kind k s ≡ true → is_scalar s ≡ true → scalar_of k (field_bytes s) ≡ s
scalar_of-field int_kind (int_scalar v) p h = ap (λ (n : ℕ). int_scalar (pos n -ℤ pos (2 ^ 63))) (read_number (shifted v) (shifted_fits v h)) ∙ ap int_scalar (shifted_back v h)
scalar_of-field bool_kind (bool_scalar true) p h = refl
scalar_of-field bool_kind (bool_scalar false) p h = refl
scalar_of-field text_kind (text_scalar t) p h = ap text_scalar (front_of t)
scalar_of-field int_kind (bool_scalar b) p h = absurd (false≢true p)
scalar_of-field int_kind (text_scalar t) p h = absurd (false≢true p)
scalar_of-field bool_kind (int_scalar v) p h = absurd (false≢true p)
scalar_of-field bool_kind (text_scalar t) p h = absurd (false≢true p)
scalar_of-field text_kind (int_scalar v) p h = absurd (false≢true p)
scalar_of-field text_kind (bool_scalar b) p h = absurd (false≢true p)

-- ---- rows

-- the pieces of a row are the bytes of its fields
pub pieces-row_of : (a : Attr) (attrs : List Attr) (s : Scalar) (rest : List Scalar) (more : List ℕ) → is_tuple (a ∷ attrs) (s ∷ rest) ≡ true
    → pieces (a ∷ attrs) (row_of (s ∷ rest) ++ more) ≡ field_bytes s ∷ pieces attrs (row_of rest ++ more)
pieces-row_of a attrs s rest more h =
    let p = headed a attrs s rest h in
    let apart : row_of (s ∷ rest) ++ more ≡ field_bytes s ++ (row_of rest ++ more) = append_assoc (field_bytes s) (row_of rest) more in
    let first : first_piece a.kind (field_bytes s ++ (row_of rest ++ more)) ≡ field_bytes s = first_piece-field a.kind s (row_of rest ++ more) p.kind p.valid in
    ap (pieces (a ∷ attrs)) apart
    ∙ ap (λ (piece : List ℕ). piece ∷ pieces attrs (drop (length piece) (field_bytes s ++ (row_of rest ++ more)))) first
    ∙ ap (λ (bytes : List ℕ). field_bytes s ∷ pieces attrs bytes) (drop_at (field_bytes s) (row_of rest ++ more) (length (field_bytes s)) refl)

-- a row reads as its tuple, whatever stands behind it
pub fields_of-row_of : (schema : List Attr) (xs : List Scalar) (more : List ℕ) → is_tuple schema xs ≡ true → fields_of schema (row_of xs ++ more) ≡ xs
fields_of-row_of [] [] more h = refl
fields_of-row_of [] (x ∷ xs) more h = absurd (false≢true h)
fields_of-row_of (a ∷ attrs) [] more h = absurd (false≢true h)
fields_of-row_of (a ∷ attrs) (x ∷ xs) more h =
    let p = headed a attrs x xs h in
    ap (scalars_of (a ∷ attrs)) (pieces-row_of a attrs x xs more h)
    ∙ (λ i. scalar_of-field a.kind x p.kind p.valid i ∷ fields_of-row_of attrs xs more p.tail i)

all_scalars : (schema : List Attr) (xs : List Scalar) → is_tuple schema xs ≡ true → list_all is_scalar xs ≡ true
all_scalars [] [] h = refl
all_scalars [] (x ∷ xs) h = absurd (false≢true h)
all_scalars (a ∷ attrs) [] h = absurd (false≢true h)
all_scalars (a ∷ attrs) (x ∷ xs) h = let p = headed a attrs x xs h in and_from (is_scalar x) (list_all is_scalar xs) p.valid (all_scalars attrs xs p.tail)

kind_read : (k : Kind) (bytes : List ℕ) → is_kind k (scalar_of k bytes) ≡ true
kind_read int_kind bytes = refl
kind_read bool_kind bytes = refl
kind_read text_kind bytes = refl

tuple_read : (schema : List Attr) (bytes : Row) → list_all is_scalar (fields_of schema bytes) ≡ true → is_tuple schema (fields_of schema bytes) ≡ true
tuple_read [] bytes h = refl
tuple_read (a ∷ attrs) bytes h =
    let piece = first_piece a.kind bytes in
    let rest = drop (length (first_piece a.kind bytes)) bytes in
    let p = and_parts (is_scalar (scalar_of a.kind piece)) (list_all is_scalar (fields_of attrs rest)) h in
    and_from (is_kind a.kind (scalar_of a.kind piece) && is_scalar (scalar_of a.kind piece)) (is_tuple attrs (fields_of attrs rest))
    (and_from (is_kind a.kind (scalar_of a.kind piece)) (is_scalar (scalar_of a.kind piece)) (kind_read a.kind piece) p.0)
    (tuple_read attrs rest p.1)

-- bytes that pass the test are a row
pub is_row-true : (schema : List Attr) (bytes : Row) → is_row schema bytes ≡ true → IsRow schema bytes
is_row-true schema bytes h =
    let p = and_parts (list_all is_scalar (fields_of schema bytes)) (is_same (row_of (fields_of schema bytes)) bytes) h in
    (fields_of schema bytes, tuple_read schema bytes p.0, same_true (row_of (fields_of schema bytes)) bytes p.1)

-- a row passes the test
pub is_row-from_IsRow : (schema : List Attr) (bytes : Row) → IsRow schema bytes → is_row schema bytes ≡ true
is_row-from_IsRow schema bytes h =
    let read : fields_of schema bytes ≡ h.0 =
    ap (fields_of schema) (sym h.2 ∙ sym (append-nil (row_of h.0))) ∙ fields_of-row_of schema h.0 [] h.1 in
    and_from (list_all is_scalar (fields_of schema bytes)) (is_same (row_of (fields_of schema bytes)) bytes)
    (ap (list_all is_scalar) read ∙ all_scalars schema h.0 h.1)
    (ap (λ (xs : List Scalar). is_same (row_of xs) bytes) read ∙ ap (λ (b : Row). is_same b bytes) h.2 ∙ same_itself bytes)
