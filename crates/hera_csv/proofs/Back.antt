-- What is written is read back: records, their fields, and rows.
use Rattle.std.proofs.Common.{◌≡◌, ◌<◌, ◌^◌, ℕ, suc, ◌==◌, ◌&&◌, Bool, true, false, cond, List, [], ◌∷◌, ◌++◌, map, length, Option, Some, None, refl, sym, ap, ◌∙◌, arith, inl, inr, append_assoc, append-nil}
use Rattle.std.specs.Prelude.{All, pos, negsuc, nat_lt}
use Rattle.std.specs.List.{list_all, list_any}
use Rattle.std.specs.Option.{option_map}
use Rattle.std.specs.Char.{is_ascii_digit}
use Rattle.std.specs.Fmt.{decimal}
use Rattle.std.specs.Str.{chars}
use Rattle.std.specs.Str.Parse.{digits_value, starts_with_minus}
use Rattle.std.proofs.lemmas.Bool.{cases_Bool, false≢true, and_from, ltb-true, lt-ltb, ne_eqb}
use Rattle.std.proofs.lemmas.Bool.Decides.{nat_tests}
use Rattle.std.proofs.lemmas.Fmt.{digits_decimal, digits_value-decimal, decimal_nonempty}
use Rattle.std.proofs.lemmas.List.Elements.{All-head, All-tail}
use Rattle.unicode_ident.proofs.Computing.{unicode_ident}
use Rattle.csv.specs.Machine.{next_record}
use Rattle.csv.specs.Reading.{records, default_config, strip_bom, is_bom, Reached}
use Rattle.csv.specs.Writing.{default_writer, row_text, field_text, fields_text, is_blank, needs_byte, escaped, read_back}
use Rattle.csv.specs.declared.parser.State.TheVariants as st
use Rattle.csv.proofs.RoundTrip.{read-write}
use Rattle.hera_sets.specs.Rows.{Row, is_same, IsAscending, normal}
use Rattle.hera_sets.proofs.Order.{same_itself}
use Rattle.hera_sets.proofs.Members.{normal_ascending}
use Rattle.hera_meaning.specs.declared.scalars.Kind.{Kind}
use Rattle.hera_meaning.specs.declared.scalars.Kind.TheVariants.{Int as int_kind, Bool as bool_kind, Text as text_kind}
use Rattle.hera_meaning.specs.declared.scalars.Scalar.{Scalar}
use Rattle.hera_meaning.specs.declared.scalars.Scalar.TheVariants.{Int as int_scalar, Bool as bool_scalar, Text as text_scalar}
use Rattle.hera_meaning.specs.declared.schemas.Attr.{Attr}
use Rattle.hera_meaning.specs.Identifiers.{IsIdentifier, is_word}
use Rattle.hera_meaning.specs.Schemas.{IsSchema, names_of}
use Rattle.hera_meaning.specs.Scalars.{fits_int, is_kind, is_scalar, is_tuple}
use Rattle.hera_meaning.specs.Printed.{scalar_text}
use Rattle.hera_meaning.specs.Rows.{IsRow, row_of, fields_of}
use Rattle.hera_row.proofs.RowLemmas.{fields_of-row_of}
use Rattle.hera_row.proofs.Words.{identifier_word}
use Rattle.hera_csv.specs.Fields.{are_digits, int_read, scalar_read, then_tuple, tuple_read, row_read, is_head}
use Rattle.hera_csv.specs.Records.{Fields, records_of, is_good, bad_from, bad_in, then_row, rows_read, rows_of}
use Rattle.hera_csv.specs.Writers.{records_text, tuple_fields, csv_of}
use Rattle.hera_csv.proofs.Consumed.{records_all}
use Rattle.hera_csv.proofs.Scalars.{own}

-- ---- records

reached_rows : (rows : List Fields) → Reached default_config st.StartRecord (records_text rows) (map read_back rows) st.StartRecord []
unfolding Reached
reached_rows [] = (refl, refl)
reached_rows (row ∷ rows) = ((read_back row, st.StartRecord, records_text rows), read-write row (records_text rows), refl, reached_rows rows)

records_written : (rows : List Fields) → records default_config (records_text rows) ≡ map read_back rows
unfolding next_record
records_written rows = records_all default_config (records_text rows) (map read_back rows) st.StartRecord [] (reached_rows rows) refl

rows_back : (a : Attr) (attrs : List Attr) (rows : List Row) → map read_back (map (tuple_fields (a ∷ attrs)) rows) ≡ map (tuple_fields (a ∷ attrs)) rows
rows_back a attrs [] = refl
rows_back a attrs (r ∷ rows) = ap (λ (l : List Fields). tuple_fields (a ∷ attrs) r ∷ l) (rows_back a attrs rows)

-- ---- no byte order mark in front

-- a name does not begin with U+FEFF
no_mark : (rest : List ℕ) → is_word (chars (0xEF ∷ 0xBB ∷ 0xBF ∷ rest)) ≡ false
unfolding chars unicode_ident
no_mark [] = refl
no_mark (b ∷ rest) = refl

mark_at : (a b c : ℕ) → is_bom a b c ≡ true → (a ≡ 0xEF) × (b ≡ 0xBB) × (c ≡ 0xBF)
mark_at a b c h = grind (arith, nat_tests)

first_other : (a : ℕ) (xs : List ℕ) → (a == 0xEF) ≡ false → strip_bom (a ∷ xs) ≡ a ∷ xs
unfolding strip_bom
first_other a [] n = refl
first_other a (b ∷ []) n = refl
first_other a (b ∷ c ∷ xs) n = rw n refl

not_mark_2 : (a b c : ℕ) → (b == 0xBB) ≡ false → is_bom a b c ≡ false
not_mark_2 a b c n = rw n (by (a == 0xEF))
  where
    by : (x : Bool) → (x && false && (c == 0xBF)) ≡ false
    by true = refl
    by false = refl

not_mark_3 : (a b c : ℕ) → (c == 0xBF) ≡ false → is_bom a b c ≡ false
not_mark_3 a b c n = rw n (by (a == 0xEF) (b == 0xBB))
  where
    by : (x y : Bool) → (x && y && false) ≡ false
    by true true = refl
    by true false = refl
    by false y = refl

name_mark : (a b c : ℕ) (rest : List ℕ) → is_word (chars (a ∷ b ∷ c ∷ rest)) ≡ true → is_bom a b c ≡ false
name_mark a b c rest word = elim (cases_Bool (is_bom a b c)) [
  | inr none ↦ none
  | inl mark ↦
      let m = mark_at a b c mark in
      let bytes : a ∷ b ∷ c ∷ rest ≡ 0xEF ∷ 0xBB ∷ 0xBF ∷ rest = λ i. m.0 i ∷ m.1 i ∷ m.2 i ∷ rest in
      absurd (false≢true (sym (ap (λ (l : List ℕ). is_word (chars l)) bytes ∙ no_mark rest) ∙ word))
]

-- a name and a byte behind it
name_kept : (name : List ℕ) (c : ℕ) (tail : List ℕ) → is_word (chars name) ≡ true → (c == 0xBB) ≡ false → (c == 0xBF) ≡ false → strip_bom (name ++ (c ∷ tail)) ≡ name ++ (c ∷ tail)
unfolding strip_bom chars
name_kept [] c tail word n m = absurd (false≢true word)
name_kept (x ∷ []) c [] word n m = refl
name_kept (x ∷ []) c (t ∷ tail) word n m = rw (not_mark_2 x c t n) refl
name_kept (x ∷ y ∷ []) c tail word n m = rw (not_mark_3 x y c m) refl
name_kept (x ∷ y ∷ z ∷ rest) c tail word n m = rw (name_mark x y z rest word) refl

-- the text behind the first field of a record begins with a comma or a line feed
record Behind (fields : List (List ℕ)) (rest : List ℕ) : Type 0 where
  byte : ℕ
  tail : List ℕ
  not_2 : (byte == 0xBB) ≡ false
  not_3 : (byte == 0xBF) ≡ false
  is : fields_text default_writer fields ++ (10 ∷ rest) ≡ byte ∷ tail

behind_first : (fields : List (List ℕ)) (rest : List ℕ) → Behind fields rest
unfolding fields_text
behind_first [] rest = record { byte = 10; tail = rest; not_2 = refl; not_3 = refl; is = refl }
behind_first (f ∷ fields) rest = record { byte = 44; tail = (field_text default_writer f ++ fields_text default_writer fields) ++ (10 ∷ rest); not_2 = refl; not_3 = refl; is = refl }

not_zero : (x : ℕ) (xs : List ℕ) → (length (x ∷ xs) == 0) ≡ false
not_zero x xs = ne_eqb (suc (length xs)) 0 (λ e. cc)

not_blank : (name : List ℕ) (fields : List (List ℕ)) → is_word (chars name) ≡ true → is_blank default_writer (name ∷ fields) ≡ false
unfolding is_blank chars
not_blank [] [] word = absurd (false≢true word)
not_blank (b ∷ name) [] word = elim (cases_Bool (list_any (needs_byte default_writer) (b ∷ name))) [
  | inl quotes ↦ rw quotes (not_zero 34 (escaped default_writer (b ∷ name) ++ (34 ∷ [])))
  | inr plain ↦ rw plain (not_zero b name)
]
not_blank name (f ∷ fields) word = refl

head_split : (name : List ℕ) (fields : List (List ℕ)) (rest : List ℕ) → is_blank default_writer (name ∷ fields) ≡ false
    → row_text default_writer (name ∷ fields) ++ rest ≡ field_text default_writer name ++ (fields_text default_writer fields ++ (10 ∷ rest))
head_split name fields rest shown = rw shown (append_assoc (field_text default_writer name ++ fields_text default_writer fields) (10 ∷ []) rest
    ∙ append_assoc (field_text default_writer name) (fields_text default_writer fields) (10 ∷ rest))

field_kept : (name : List ℕ) (c : ℕ) (tail : List ℕ) → is_word (chars name) ≡ true → (c == 0xBB) ≡ false → (c == 0xBF) ≡ false
    → strip_bom (field_text default_writer name ++ (c ∷ tail)) ≡ field_text default_writer name ++ (c ∷ tail)
field_kept name c tail word n m = elim (cases_Bool (list_any (needs_byte default_writer) name)) [
  | inl quotes ↦ rw quotes (first_other 34 ((escaped default_writer name ++ (34 ∷ [])) ++ (c ∷ tail)) refl)
  | inr plain ↦ rw plain (name_kept name c tail word n m)
]

-- nothing is taken off the text of an export
text_kept : (name : List ℕ) (fields : List (List ℕ)) (rest : List ℕ) → is_word (chars name) ≡ true → strip_bom (row_text default_writer (name ∷ fields) ++ rest) ≡ row_text default_writer (name ∷ fields) ++ rest
text_kept name fields rest word =
    let b = behind_first fields rest in
    let is : row_text default_writer (name ∷ fields) ++ rest ≡ field_text default_writer name ++ (b.byte ∷ b.tail) =
    head_split name fields rest (not_blank name fields word) ∙ ap (λ (t : List ℕ). field_text default_writer name ++ t) b.is in
    ap strip_bom is ∙ field_kept name b.byte b.tail word b.not_2 b.not_3 ∙ sym is

-- ---- fields

first_digit : (ds : List ℕ) → list_all is_ascii_digit ds ≡ true → starts_with_minus ds ≡ false
first_digit [] h = refl
first_digit (d ∷ ds) h = ne_eqb d 45 (λ e. grind (arith, nat_tests))

are_so : (ds : List ℕ) → list_all is_ascii_digit ds ≡ true → 0 < length ds → are_digits ds ≡ true
are_so ds h some = and_from (nat_lt 0 (length ds)) (list_all is_ascii_digit ds) (lt-ltb 0 (length ds) some) h

plain_back : (n : ℕ) (ds : List ℕ) → list_all is_ascii_digit ds ≡ true → 0 < length ds → digits_value 10 ds ≡ n → fits_int (pos n) ≡ true → int_read ds ≡ Some (int_scalar (pos n))
plain_back n ds all some value fits = rw (first_digit ds all, are_so ds all some, value, fits) refl

minus_back : (n : ℕ) (ds : List ℕ) → list_all is_ascii_digit ds ≡ true → 0 < length ds → digits_value 10 ds ≡ suc n → fits_int (negsuc n) ≡ true → int_read (45 ∷ ds) ≡ Some (int_scalar (negsuc n))
minus_back n ds all some value fits = rw (are_so ds all some, value, fits) refl

scalar_back : (k : Kind) (s : Scalar) → is_kind k s ≡ true → is_scalar s ≡ true → scalar_read k (scalar_text s) ≡ Some s
unfolding is_same
scalar_back int_kind (int_scalar (pos n)) kind h =
    let few : n < 2 ^ 64 = (let lt = ltb-true n (2 ^ 63) h in omega (arith, lt)) in
    plain_back n (decimal n) (digits_decimal own n few) (decimal_nonempty n few) (digits_value-decimal own n few) h
scalar_back int_kind (int_scalar (negsuc n)) kind h =
    let few : suc n < 2 ^ 64 = (let lt = ltb-true n (2 ^ 63) h in omega (arith, lt)) in
    minus_back n (decimal (suc n)) (digits_decimal own (suc n) few) (decimal_nonempty (suc n) few) (digits_value-decimal own (suc n) few) h
scalar_back int_kind (bool_scalar b) kind h = absurd (false≢true kind)
scalar_back int_kind (text_scalar t) kind h = absurd (false≢true kind)
scalar_back bool_kind (int_scalar v) kind h = absurd (false≢true kind)
scalar_back bool_kind (bool_scalar true) kind h = refl
scalar_back bool_kind (bool_scalar false) kind h = refl
scalar_back bool_kind (text_scalar t) kind h = absurd (false≢true kind)
scalar_back text_kind (int_scalar v) kind h = absurd (false≢true kind)
scalar_back text_kind (bool_scalar b) kind h = absurd (false≢true kind)
scalar_back text_kind (text_scalar t) kind h = ap (λ (b : Bool). cond b (Some (text_scalar t)) None) h

tuple_back : (schema : List Attr) (tuple : List Scalar) → is_tuple schema tuple ≡ true → tuple_read schema (map scalar_text tuple) ≡ Some tuple
tuple_back [] [] h = refl
tuple_back [] (s ∷ tuple) h = absurd (false≢true h)
tuple_back (a ∷ attrs) [] h = absurd (false≢true h)
tuple_back (a ∷ attrs) (s ∷ tuple) h =
    let p = parts (is_kind a.kind s) (is_scalar s) (is_tuple attrs tuple) h in
    ap (λ (o : Option Scalar). then_tuple o (tuple_read attrs (map scalar_text tuple))) (scalar_back a.kind s p.0 p.1)
    ∙ ap (then_tuple (Some s)) (tuple_back attrs tuple p.2)
  where
    parts : (x y z : Bool) → (x && y && z) ≡ true → (x ≡ true) × (y ≡ true) × (z ≡ true)
    parts true true true h = (refl, refl, refl)
    parts true true false h = absurd (false≢true h)
    parts true false z h = absurd (false≢true h)
    parts false y z h = absurd (false≢true h)

row_back : (schema : List Attr) (r : Row) → IsRow schema r → row_read schema (tuple_fields schema r) ≡ Some r
row_back schema r h =
    let same : fields_of schema r ≡ h.0 = ap (fields_of schema) (sym (append-nil (row_of h.0) ∙ h.2)) ∙ fields_of-row_of schema h.0 [] h.1 in
    ap (λ (t : List Scalar). row_read schema (map scalar_text t)) same ∙ ap (option_map row_of) (tuple_back schema h.0 h.1) ∙ ap Some h.2

head_back : (schema : List Attr) → is_head schema (names_of schema) ≡ true
head_back [] = refl
head_back (a ∷ attrs) = and_from (is_same a.name a.name) (is_head attrs (names_of attrs)) (same_itself a.name) (head_back attrs)

-- ---- whole files

all_good : (schema : List Attr) (n : ℕ) (rows : List Row) → 1 < n → All (IsRow schema) rows → bad_from (is_good schema) n (map (tuple_fields schema) rows) ≡ None
all_good schema n [] later all = refl
all_good schema n (r ∷ rows) later all =
    let other : (n == 1) ≡ false = ne_eqb n 1 (λ e. omega (arith, later, e)) in
    let row = row_back schema r (All-head (IsRow schema) r rows all) in
    rw (other, row) (all_good schema (suc n) rows (omega (arith, later)) (All-tail (IsRow schema) r rows all))

all_back : (schema : List Attr) (rows : List Row) → All (IsRow schema) rows → rows_read schema (map (tuple_fields schema) rows) ≡ rows
all_back schema [] all = refl
all_back schema (r ∷ rows) all =
    ap (λ (o : Option Row). then_row o (rows_read schema (map (tuple_fields schema) rows))) (row_back schema r (All-head (IsRow schema) r rows all))
    ∙ ap (λ (l : List Row). r ∷ l) (all_back schema rows (All-tail (IsRow schema) r rows all))

records_back : (a : Attr) (attrs : List Attr) (rows : List Row) → is_word (chars a.name) ≡ true → records_of (csv_of (a ∷ attrs) rows) ≡ names_of (a ∷ attrs) ∷ map (tuple_fields (a ∷ attrs)) rows
records_back a attrs rows word =
    let all : List Fields = names_of (a ∷ attrs) ∷ map (tuple_fields (a ∷ attrs)) rows in
    ap (records default_config) (text_kept a.name (names_of attrs) (records_text (map (tuple_fields (a ∷ attrs)) rows)) word)
    ∙ records_written all ∙ ap (λ (l : List Fields). names_of (a ∷ attrs) ∷ l) (rows_back a attrs rows)

pub good_back : (schema : List Attr) (rows : List Row) → IsSchema schema → All IsIdentifier (names_of schema) → All (IsRow schema) rows → bad_in schema (records_of (csv_of schema rows)) ≡ None
good_back [] rows is names all = absurd (let some = is.some in omega (arith, some))
good_back (a ∷ attrs) rows is names all =
    ap (bad_in (a ∷ attrs)) (records_back a attrs rows (identifier_word a.name (All-head IsIdentifier a.name (names_of attrs) names)))
    ∙ ap (λ (b : Bool). cond b (bad_from (is_good (a ∷ attrs)) 2 (map (tuple_fields (a ∷ attrs)) rows)) (Some 1)) (head_back (a ∷ attrs))
    ∙ all_good (a ∷ attrs) 2 rows (omega arith) all

pub same_back : (schema : List Attr) (rows : List Row) → IsSchema schema → All IsIdentifier (names_of schema) → All (IsRow schema) rows → IsAscending rows → rows_of schema (records_of (csv_of schema rows)) ≡ rows
same_back [] rows is names all up = absurd (let some = is.some in omega (arith, some))
same_back (a ∷ attrs) rows is names all up =
    ap (rows_of (a ∷ attrs)) (records_back a attrs rows (identifier_word a.name (All-head IsIdentifier a.name (names_of attrs) names)))
    ∙ ap normal (all_back (a ∷ attrs) rows all) ∙ normal_ascending rows up
