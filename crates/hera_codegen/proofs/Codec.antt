-- The row of a tuple reads back as that tuple.
use Rattle.std.proofs.Common.{◌≡◌, ℕ, zero, suc, ◌-◌, ◌^◌, ◌<◌, ◌&&◌, Bool, true, false, List, [], ◌∷◌, ◌++◌, map, length, take, drop, refl, sym, ap, ◌∙◌, subst, arith, append_assoc, length-append, append-nil, nat_lt, nat_le, pos, negsuc, ◌-ℤ◌, ℤ}
use Rattle.std.specs.List.{list_all}
use Rattle.std.specs.Str.{is_utf8}
use Rattle.std.specs.Int.{to_be_bytes, w64}
use Rattle.std.proofs.lemmas.Int.{ints}
use Rattle.std.proofs.lemmas.Bool.{false≢true, and_parts, and_from, ltb-true}
use Rattle.std.proofs.lemmas.Nat.{from_be_bytes-to_be_bytes_8}
use Rattle.hera_sets.specs.Rows.{Row, is_same}
use Rattle.hera_sets.proofs.Order.{same_itself}
use Rattle.hera_meaning.specs.declared.scalars.Kind.{Kind}
use Rattle.hera_meaning.specs.declared.scalars.Kind.TheVariants.{Int as int_kind, Bool as bool_kind, Text as text_kind}
use Rattle.hera_meaning.specs.declared.scalars.Scalar.{Scalar}
use Rattle.hera_meaning.specs.declared.scalars.Scalar.TheVariants.{Int as int_scalar, Bool as bool_scalar, Text as text_scalar}
use Rattle.hera_meaning.specs.declared.schemas.Attr.{Attr}
use Rattle.hera_meaning.specs.Scalars.{fits_int, is_kind, is_scalar}
use Rattle.hera_meaning.specs.Texts.{is_text, text_limit}
use Rattle.hera_meaning.specs.Rows.{shifted, field_bytes, row_of, through_zero, first_piece, pieces, number_from, scalar_of, scalars_of, fields_of, is_row}
use Rattle.hera_meaning.specs.Forms.{kinds_of}

-- a scalar of a kind, in range
abbrev pub IsOfKind : Kind → Scalar → Type 0
IsOfKind k s = (is_kind k s ≡ true) × (is_scalar s ≡ true)

-- one scalar for each kind
abbrev pub IsTupleOf : List Kind → List Scalar → Type 0
IsTupleOf [] [] = Unit {0}
IsTupleOf [] (s ∷ ss) = ⊥
IsTupleOf (k ∷ ks) [] = ⊥
IsTupleOf (k ∷ ks) (s ∷ ss) = IsOfKind k s × IsTupleOf ks ss

-- the bytes are the row of a tuple of these kinds
pub record IsRowOf (ks : List Kind) (r : Row) : Type 0 where
  pub fields : List Scalar
  pub fields_are : IsTupleOf ks fields
  pub row_is : row_of fields ≡ r

-- ---- one field

shifted_below : (v : ℤ) → fits_int v ≡ true → shifted v < 2 ^ 64
shifted_below (pos n) h = let lt : n < 2 ^ 63 = ltb-true n (2 ^ 63) h in omega (arith, lt)
shifted_below (negsuc n) h = omega arith

shifted_back : (v : ℤ) → fits_int v ≡ true → pos (shifted v) -ℤ pos (2 ^ 63) ≡ v
shifted_back (pos n) h = omega (arith, ints)
shifted_back (negsuc n) h = let lt : n < 2 ^ 63 = ltb-true n (2 ^ 63) h in omega (arith, ints, lt)

number_read : (n : ℕ) → n < 2 ^ 64 → number_from 0 (to_be_bytes w64 n) ≡ n
number_read n lt = omega (arith, from_be_bytes-to_be_bytes_8 n lt)

through_text : (t rest : List ℕ) → list_all (λ b. nat_lt 0 b) t ≡ true → through_zero ((t ++ 0 ∷ []) ++ rest) ≡ t ++ 0 ∷ []
through_text [] rest h = refl
through_text (zero ∷ t) rest h = absurd (false≢true h)
through_text (suc b ∷ t) rest h = ap (λ bs. suc b ∷ bs) (through_text t rest (and_parts (nat_lt 0 (suc b)) _ h).1)

nonzero_text : (t : List ℕ) → is_text t ≡ true → list_all (λ b. nat_lt 0 b) t ≡ true
nonzero_text t h =
    let front : Bool = nat_le (length t) text_limit && list_all (λ b. nat_lt 0 b) t in
    (and_parts (nat_le (length t) text_limit) (list_all (λ b. nat_lt 0 b) t) (and_parts front (is_utf8 t) h).0).1

first_field : (k : Kind) (s : Scalar) (rest : List ℕ) → IsOfKind k s → first_piece k (field_bytes s ++ rest) ≡ field_bytes s
first_field int_kind (int_scalar v) rest h = refl
first_field int_kind (bool_scalar b) rest h = cc
first_field int_kind (text_scalar t) rest h = cc
first_field bool_kind (int_scalar v) rest h = cc
first_field bool_kind (bool_scalar b) rest h = refl
first_field bool_kind (text_scalar t) rest h = cc
first_field text_kind (int_scalar v) rest h = cc
first_field text_kind (bool_scalar b) rest h = cc
first_field text_kind (text_scalar t) rest h = through_text t rest (nonzero_text t h.1)

take_front : (xs ys : List ℕ) → take (length xs) (xs ++ ys) ≡ xs
take_front [] ys = refl
take_front (x ∷ xs) ys = ap (λ l. x ∷ l) (take_front xs ys)

drop_front : (xs ys : List ℕ) → drop (length xs) (xs ++ ys) ≡ ys
drop_front [] ys = refl
drop_front (x ∷ xs) ys = drop_front xs ys

text_read : (t : List ℕ) → take (length (t ++ 0 ∷ []) - 1) (t ++ 0 ∷ []) ≡ t
text_read t = let e : length (t ++ 0 ∷ []) - 1 ≡ length t = omega (arith, length-append t (0 ∷ [])) in ap (λ n. take n (t ++ 0 ∷ [])) e ∙ take_front t (0 ∷ [])

pub field_read : (k : Kind) (s : Scalar) → IsOfKind k s → scalar_of k (field_bytes s) ≡ s
field_read int_kind (int_scalar v) h = ap (λ n. int_scalar (pos n -ℤ pos (2 ^ 63))) (number_read (shifted v) (shifted_below v h.1)) ∙ ap int_scalar (shifted_back v h.1)
field_read int_kind (bool_scalar b) h = cc
field_read int_kind (text_scalar t) h = cc
field_read bool_kind (int_scalar v) h = cc
field_read bool_kind (bool_scalar true) h = refl
field_read bool_kind (bool_scalar false) h = refl
field_read bool_kind (text_scalar t) h = cc
field_read text_kind (int_scalar v) h = cc
field_read text_kind (bool_scalar b) h = cc
field_read text_kind (text_scalar t) h = ap text_scalar (text_read t)

-- ---- a row

pieces_from : (schema : List Attr) (ss : List Scalar) (rest : List ℕ) → IsTupleOf (kinds_of schema) ss → pieces schema (row_of ss ++ rest) ≡ map field_bytes ss
pieces_from [] [] rest h = refl
pieces_from [] (s ∷ ss) rest h = absurd h
pieces_from (a ∷ attrs) [] rest h = absurd h
pieces_from (a ∷ attrs) (s ∷ ss) rest h =
    let e : first_piece a.kind (row_of (s ∷ ss) ++ rest) ≡ field_bytes s = ap (first_piece a.kind) (append_assoc (field_bytes s) (row_of ss) rest) ∙ first_field a.kind s (row_of ss ++ rest) h.0 in
    let d : drop (length (first_piece a.kind (row_of (s ∷ ss) ++ rest))) (row_of (s ∷ ss) ++ rest) ≡ row_of ss ++ rest =
    ap (λ p. drop (length p) (row_of (s ∷ ss) ++ rest)) e ∙ ap (drop (length (field_bytes s))) (append_assoc (field_bytes s) (row_of ss) rest) ∙ drop_front (field_bytes s) (row_of ss ++ rest) in
    ap (λ p. p ∷ pieces attrs (drop (length (first_piece a.kind (row_of (s ∷ ss) ++ rest))) (row_of (s ∷ ss) ++ rest))) e
    ∙ ap (λ r. field_bytes s ∷ pieces attrs r) d ∙ ap (λ ps. field_bytes s ∷ ps) (pieces_from attrs ss rest h.1)

pub pieces_row : (schema : List Attr) (ss : List Scalar) → IsTupleOf (kinds_of schema) ss → pieces schema (row_of ss) ≡ map field_bytes ss
pieces_row schema ss h = ap (pieces schema) (sym (append-nil (row_of ss))) ∙ pieces_from schema ss [] h

scalars_read : (schema : List Attr) (ss : List Scalar) → IsTupleOf (kinds_of schema) ss → scalars_of schema (map field_bytes ss) ≡ ss
scalars_read [] [] h = refl
scalars_read [] (s ∷ ss) h = absurd h
scalars_read (a ∷ attrs) [] h = absurd h
scalars_read (a ∷ attrs) (s ∷ ss) h = ap (λ x. x ∷ scalars_of attrs (map field_bytes ss)) (field_read a.kind s h.0) ∙ ap (λ xs. s ∷ xs) (scalars_read attrs ss h.1)

pub fields_read : (schema : List Attr) (ss : List Scalar) → IsTupleOf (kinds_of schema) ss → fields_of schema (row_of ss) ≡ ss
fields_read schema ss h = ap (scalars_of schema) (pieces_row schema ss h) ∙ scalars_read schema ss h

all_scalars : (ks : List Kind) (ss : List Scalar) → IsTupleOf ks ss → list_all is_scalar ss ≡ true
all_scalars [] [] h = refl
all_scalars [] (s ∷ ss) h = absurd h
all_scalars (k ∷ ks) [] h = absurd h
all_scalars (k ∷ ks) (s ∷ ss) h = and_from _ _ h.0.1 (all_scalars ks ss h.1)

-- a row of these kinds passes the test of a schema of these kinds
pub row_reads : (schema : List Attr) (r : Row) → IsRowOf (kinds_of schema) r → is_row schema r ≡ true
row_reads schema r h =
    subst (λ q. is_row schema q ≡ true) h.row_is
    (and_from _ _ (ap (λ xs. list_all is_scalar xs) (fields_read schema h.fields h.fields_are) ∙ all_scalars _ h.fields h.fields_are)
    (ap (λ xs. is_same (row_of xs) (row_of h.fields)) (fields_read schema h.fields h.fields_are) ∙ same_itself (row_of h.fields)))
