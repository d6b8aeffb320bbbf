-- Rows, operands and hosts, computed.
use Rattle.std.proofs.Common.{◌≡◌, ℕ, ◌-◌, ◌^◌, true, false, List, [], ◌∷◌, ◌++◌, replicate, refl, ℤ, pos, negsuc, codes}
use Rattle.std.specs.Str.{is_utf8, chars}
use lib.Utf8.{encode}
use Rattle.hera_sets.specs.Rows.{is_below, is_same}
use Rattle.hera_meaning.specs.declared.scalars.Kind.TheVariants.{Int as int_kind, Bool as bool_kind, Text as text_kind}
use Rattle.hera_meaning.specs.declared.scalars.Scalar.TheVariants.{Int as int_scalar, Bool as bool_scalar, Text as text_scalar}
use Rattle.hera_meaning.specs.declared.scalars.Sign.TheVariants.{Plus, Minus}
use Rattle.hera_meaning.specs.declared.schemas.Attr.{Attr}
use Rattle.hera_meaning.specs.declared.schemas.Agg.TheVariants.{Sum as sum_agg}
use Rattle.hera_meaning.specs.declared.hosts.HostSpec.TheVariants.{Band, Bucket, Prefix, Clamp}
use Rattle.hera_meaning.specs.declared.hosts.HostAnswer.TheVariants.{Int as int_answer, Bool as bool_answer}
use Rattle.hera_meaning.specs.declared.trees.TrapName.TheVariants.{DivZero, Overflow}
use Rattle.hera_meaning.specs.declared.trees.Op.TheVariants.{Neg, Div, Rem, Eq, Lt, Field, MakeRow, Join, Group, Sum}
use Rattle.hera_meaning.specs.Rows.{row_of, field_bytes, is_row}
use Rattle.hera_meaning.specs.Deltas.{Atom, fail, atoms, smash_of, merge_of, apply_to}
use Rattle.hera_meaning.specs.Relations.{join_of}
use Rattle.hera_meaning.specs.Values.{Value, scalar, tuple, table, int_value, bool_value}
use Rattle.hera_meaning.specs.Hosts.{host_of}
use Rattle.hera_meaning.specs.Fits.{fits_of}
use Rattle.hera_meaning.specs.Primitives.{gives, refuses, prim_of}

abbrev int_attr : List ℕ → Attr
int_attr name = record { name = name; kind = int_kind }

abbrev text_attr : List ℕ → Attr
text_attr name = record { name = name; kind = text_kind }

abbrev a_int : Attr
a_int = int_attr (codes "a")

abbrev a_text : Attr
a_text = text_attr (codes "a")

abbrev z : ℕ → Value
z n = int_value (pos n)

abbrev least : ℤ
least = negsuc (2 ^ 63 - 1)

-- ---- rows

two_fields : row_of (int_scalar (pos 1) ∷ text_scalar (codes "ab") ∷ bool_scalar true ∷ []) ≡ 128 ∷ 0 ∷ 0 ∷ 0 ∷ 0 ∷ 0 ∷ 0 ∷ 1 ∷ 97 ∷ 98 ∷ 0 ∷ 1 ∷ []
two_fields = refl

least_is_zeros : field_bytes (int_scalar least) ≡ replicate 8 0
least_is_zeros = refl

text_of_1023_bytes : is_row (a_text ∷ []) (replicate 1023 65 ++ 0 ∷ []) ≡ true
unfolding is_same is_utf8 chars encode
text_of_1023_bytes = refl

text_of_1024_bytes : is_row (a_text ∷ []) (replicate 1024 65 ++ 0 ∷ []) ≡ false
unfolding is_same is_utf8 chars encode
text_of_1024_bytes = refl

text_not_utf8 : is_row (a_text ∷ []) (255 ∷ 0 ∷ []) ≡ false
unfolding is_same is_utf8 chars encode
text_not_utf8 = refl

text_without_end : is_row (a_text ∷ []) (codes "a") ≡ false
unfolding is_same is_utf8 chars encode
text_without_end = refl

byte_too_many : is_row (a_text ∷ []) (codes "a" ++ 0 ∷ 0 ∷ []) ≡ false
unfolding is_same is_utf8 chars encode
byte_too_many = refl

bool_of_two : is_row (record { name = codes "b"; kind = bool_kind } ∷ []) (2 ∷ []) ≡ false
unfolding is_same
bool_of_two = refl

no_bytes : is_row (a_int ∷ []) [] ≡ false
unfolding is_same
no_bytes = refl

-- ---- operands

zero_is_not_false : fits_of Eq (z 0 ∷ bool_value false ∷ []) ≡ false
zero_is_not_false = refl

other_operands_give_zero : prim_of Eq (z 0 ∷ bool_value false ∷ []) ≡ gives (z 0)
other_operands_give_zero = refl

texts_by_bytes : prim_of Lt (scalar (text_scalar (codes "a")) ∷ scalar (text_scalar (codes "ab")) ∷ []) ≡ gives (bool_value true)
unfolding is_below
texts_by_bytes = refl

bools_have_no_order : fits_of Lt (bool_value true ∷ bool_value true ∷ []) ≡ false
bools_have_no_order = refl

row_of_another_schema : fits_of (Field (a_int ∷ []) 0) (tuple (1 ∷ []) ∷ []) ≡ false
unfolding is_same
row_of_another_schema = refl

sum_of_texts : fits_of (Sum (a_text ∷ []) 0) (table [] ∷ []) ≡ false
sum_of_texts = refl

kinds_differ : fits_of (Join (a_int ∷ []) (a_text ∷ [])) (table [] ∷ table [] ∷ []) ≡ false
unfolding is_same
kinds_differ = refl

tuple_is_no_int : fits_of (MakeRow (a_int ∷ [])) (tuple [] ∷ []) ≡ false
tuple_is_no_int = refl

-- ---- operations

least_negated : prim_of Neg (int_value least ∷ []) ≡ refuses Overflow
least_negated = refl

remainder_of_least : prim_of Rem (int_value least ∷ int_value (negsuc 0) ∷ []) ≡ refuses Overflow
remainder_of_least = refl

remainder_by_zero : prim_of Rem (int_value least ∷ z 0 ∷ []) ≡ refuses DivZero
remainder_by_zero = refl

quotient_by_minus_one : prim_of Div (z 7 ∷ int_value (negsuc 1) ∷ []) ≡ gives (int_value (negsuc 2))
quotient_by_minus_one = refl

-- two values of one key whose sum is out of range
group_overflows : prim_of (Group (a_int ∷ int_attr (codes "v") ∷ []) (0 ∷ []) (sum_agg 1 ∷ []))
    (table (row_of (int_scalar (pos 0) ∷ int_scalar (pos 1) ∷ []) ∷ row_of (int_scalar (pos 0) ∷ int_scalar (pos (2 ^ 63 - 1)) ∷ []) ∷ []) ∷ [])
    ≡ refuses Overflow
unfolding is_below is_same
group_overflows = refl

abbrev left : List Attr
left = a_int ∷ text_attr (codes "b") ∷ []

abbrev right : List Attr
right = int_attr (codes "c") ∷ a_int ∷ text_attr (codes "b") ∷ []

abbrev x : ℕ → List ℕ
x n = row_of (int_scalar (pos n) ∷ text_scalar (codes "t") ∷ [])

abbrev y : ℕ → List ℕ
y n = row_of (int_scalar (pos 5) ∷ int_scalar (pos n) ∷ text_scalar (codes "t") ∷ [])

join_on_common : join_of left right (x 1 ∷ x 2 ∷ []) (y 2 ∷ y 3 ∷ []) ≡ (x 2 ++ row_of (int_scalar (pos 5) ∷ [])) ∷ []
unfolding is_below is_same
join_on_common = refl

-- ---- deltas

abbrev p : ℕ → Atom
p n = record { sign = Plus; rel = 0; row = n ∷ [] }

abbrev m : ℕ → Atom
m n = record { sign = Minus; rel = 0; row = n ∷ [] }

smashed : smash_of (atoms (p 0 ∷ p 1 ∷ [])) (atoms (m 0 ∷ p 2 ∷ [])) ≡ atoms (m 0 ∷ p 1 ∷ p 2 ∷ [])
unfolding is_below is_same
smashed = refl

merged : merge_of (atoms (p 0 ∷ p 2 ∷ [])) (atoms (m 1 ∷ p 2 ∷ [])) ≡ atoms (p 0 ∷ m 1 ∷ p 2 ∷ [])
unfolding is_below is_same
merged = refl

clashing : merge_of (atoms (p 0 ∷ [])) (atoms (m 0 ∷ [])) ≡ fail
unfolding is_same
clashing = refl

taken_away : apply_to 0 ((7 ∷ []) ∷ (8 ∷ []) ∷ []) (p 1 ∷ m 7 ∷ []) ≡ (1 ∷ []) ∷ (8 ∷ []) ∷ []
unfolding is_below is_same
taken_away = refl

-- ---- hosts

bucket_below_zero : host_of (Bucket 10) (int_scalar (negsuc 0)) ≡ int_answer (negsuc 0)
bucket_below_zero = refl

bucket_of_least : host_of (Bucket 10) (int_scalar least) ≡ int_answer (negsuc 922337203685477580)
bucket_of_least = refl

clamped : host_of (Clamp (pos 0) (pos 100)) (int_scalar (pos 250)) ≡ int_answer (pos 100)
clamped = refl

prefixed : host_of (Prefix (codes "SKU-")) (text_scalar (codes "SKU-7")) ≡ bool_answer true
unfolding is_same
prefixed = refl

too_short_for_prefix : host_of (Prefix (codes "SKU-")) (text_scalar (codes "SK")) ≡ bool_answer false
unfolding is_same
too_short_for_prefix = refl

outside_band : host_of (Band (pos 0) (pos 100)) (int_scalar (pos 101)) ≡ bool_answer false
outside_band = refl
