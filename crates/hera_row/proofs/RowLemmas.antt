-- Rows: which bytes are a row, and what a row is read as.
use Rattle.std.proofs.Common.{◌≡◌, ℕ, zero, suc, ◌+◌, ◌-◌, ◌<◌, ◌≤◌, get_or, is_some, nat_eq, Bool, true, false, ◌&&◌, List, [], ◌∷◌, ◌++◌, Option, Some, None, length, take, drop, refl, sym, ap, subst, ◌∙◌, arith, append_assoc, length-append, length-drop, cond, inl, inr}
use Rattle.std.specs.List.{slice_get, list_all}
use Rattle.std.specs.Option.{option_and_then, option_eq, IfSome, IfNone}
use Rattle.std.proofs.lemmas.Bool.{and_parts, and_from, false≢true, eqb-true, eq-eqb, ne_eqb, cases_lt}
use Rattle.std.proofs.lemmas.Option.{none-some, same_Some, option_and_then_some}
use Rattle.std.proofs.lemmas.List.{append-nil, drop_at, drop_more, take_all, take_more, take-append-drop}
use Rattle.std.proofs.lemmas.List.Folds.{list_all-append}
use Rattle.hera_meaning.specs.declared.scalars.Kind.{Kind}
use Rattle.hera_meaning.specs.declared.scalars.Scalar.{Scalar}
use Rattle.hera_meaning.specs.declared.schemas.Attr.{Attr}
use Rattle.hera_meaning.specs.Scalars.{is_kind, is_scalar, is_tuple}
use Rattle.hera_meaning.specs.Rows.{field_bytes, row_of, IsRow, first_piece, scalar_of, fields_of, scalar_at, field_at}
use Rattle.hera_row.specs.Fields.{have_kinds}
use Rattle.hera_row.specs.Reading.{field_len, row_len_of, BeginsField}
use Rattle.hera_row.proofs.FieldLemmas.{AreBytes, AreBytes-drop, Begins, field_len_begins, field_len_piece, field_len-field_bytes, first_piece-field_bytes, scalar_of-field_bytes}

-- the first field of a tuple, and the others
pub record FirstField (a : Attr) (attrs : List Attr) (s : Scalar) (rest : List Scalar) : Type 0 where
  pub kind : is_kind a.kind s ≡ true
  pub valid : is_scalar s ≡ true
  pub others : is_tuple attrs rest ≡ true

pub first_field : (a : Attr) (attrs : List Attr) (s : Scalar) (rest : List Scalar) → is_tuple (a ∷ attrs) (s ∷ rest) ≡ true → FirstField a attrs s rest
first_field a attrs s rest h =
    let p = and_parts (is_kind a.kind s && is_scalar s) (is_tuple attrs rest) h in
    let q = and_parts (is_kind a.kind s) (is_scalar s) p.0 in
    record { kind = q.0; valid = q.1; others = p.1 }

-- ---- what is written is read

pub row_len_of-row_of : (schema : List Attr) (tuple : List Scalar) (rest : List ℕ) → is_tuple schema tuple ≡ true → row_len_of schema (row_of tuple ++ rest) ≡ Some (length (row_of tuple))
row_len_of-row_of [] [] rest h = refl
row_len_of-row_of [] (s ∷ ss) rest h = absurd (false≢true h)
row_len_of-row_of (a ∷ attrs) [] rest h = absurd (false≢true h)
row_len_of-row_of (a ∷ attrs) (s ∷ ss) rest h =
    let p = first_field a attrs s ss h in
    ap (row_len_of (a ∷ attrs)) (append_assoc (field_bytes s) (row_of ss) rest)
    ∙ rw (field_len-field_bytes a.kind s (row_of ss ++ rest) p.kind p.valid, drop_at (field_bytes s) (row_of ss ++ rest) (length (field_bytes s)) refl, row_len_of-row_of attrs ss rest p.others)
    (ap Some (sym (length-append (field_bytes s) (row_of ss))))

pub fields_of-row_of : (schema : List Attr) (tuple : List Scalar) (rest : List ℕ) → is_tuple schema tuple ≡ true → fields_of schema (row_of tuple ++ rest) ≡ tuple
fields_of-row_of [] [] rest h = refl
fields_of-row_of [] (s ∷ ss) rest h = absurd (false≢true h)
fields_of-row_of (a ∷ attrs) [] rest h = absurd (false≢true h)
fields_of-row_of (a ∷ attrs) (s ∷ ss) rest h =
    let p = first_field a attrs s ss h in
    ap (fields_of (a ∷ attrs)) (append_assoc (field_bytes s) (row_of ss) rest)
    ∙ rw (first_piece-field_bytes a.kind s (row_of ss ++ rest) p.kind p.valid, drop_at (field_bytes s) (row_of ss ++ rest) (length (field_bytes s)) refl, scalar_of-field_bytes a.kind s p.kind p.valid)
    (ap (λ t. s ∷ t) (fields_of-row_of attrs ss rest p.others))

-- ---- what is read was written

-- the first n bytes are a row
pub record BeginsRow (schema : List Attr) (bytes : List ℕ) (n : ℕ) : Type 0 where
  pub row : IsRow schema (take n bytes)
  pub within : n ≤ length bytes

begins_more : (a : Attr) (attrs : List Attr) (bytes : List ℕ) (n m : ℕ) → Begins a.kind bytes n → BeginsRow attrs (drop n bytes) m → BeginsRow (a ∷ attrs) bytes (n + m)
begins_more a attrs bytes n m b r =
    record {
      row = (
        b.scalar ∷ r.row.0,
        and_from _ _ (and_from _ _ b.kind b.valid) r.row.1,
        (λ i. b.spelled i ++ r.row.2 i) ∙ sym (Rattle.std.proofs.Math.Seq.take-add n m bytes),
      );
      within = omega (arith, b.within, r.within, length-drop n bytes);
    }

pub row_len_begins : (schema : List Attr) (bytes : List ℕ) (n : ℕ) → AreBytes bytes → row_len_of schema bytes ≡ Some n → BeginsRow schema bytes n
row_len_begins [] bytes n all h =
    let none : 0 ≡ n = same_Some 0 n h in
    subst (BeginsRow [] bytes) none (record { row = ([], refl, refl); within = omega arith })
row_len_begins (a ∷ attrs) bytes n all h =
    option_and_then_some (λ m. option_and_then (λ k. Some (m + k)) (row_len_of attrs (drop m bytes))) (field_len a.kind bytes) n h (λ m at g.
    option_and_then_some (λ k. Some (m + k)) (row_len_of attrs (drop m bytes)) n g (λ k rest e.
    subst (BeginsRow (a ∷ attrs) bytes) (same_Some (m + k) n e)
    (begins_more a attrs bytes m k (field_len_begins a.kind bytes m all at) (row_len_begins attrs (drop m bytes) k (AreBytes-drop m bytes all) rest))))

-- ---- the exact answers

pub row_whole : (schema : List Attr) (bytes : List ℕ) → AreBytes bytes → row_len_of schema bytes ≡ Some (length bytes) → IsRow schema bytes
row_whole schema bytes all h = subst (IsRow schema) (take_all (length bytes) bytes (omega arith)) (row_len_begins schema bytes (length bytes) all h).row

pub row_len_whole : (schema : List Attr) (bytes : List ℕ) → IsRow schema bytes → row_len_of schema bytes ≡ Some (length bytes)
row_len_whole schema bytes (tuple, valid, spelled) =
    ap (row_len_of schema) (sym spelled ∙ sym (append-nil (row_of tuple))) ∙ row_len_of-row_of schema tuple [] valid ∙ ap (λ t. Some (length t)) spelled

pub row_len_none : (schema : List Attr) (bytes : List ℕ) → row_len_of schema bytes ≡ None → (n : ℕ) → IsRow schema (take n bytes) → ⊥
row_len_none schema bytes h n (tuple, valid, spelled) =
    none-some (length (row_of tuple))
    (sym h ∙ ap (row_len_of schema) (sym (take-append-drop n bytes) ∙ ap (λ t. t ++ drop n bytes) (sym spelled)) ∙ row_len_of-row_of schema tuple (drop n bytes) valid)

-- ---- field by field

pub drop_attr : (schema : List Attr) (i : ℕ) (a : Attr) → slice_get schema i ≡ Some a → drop i schema ≡ a ∷ drop (i + 1) schema
drop_attr schema i a h = at schema i h ∙ ap (λ n. a ∷ drop n schema) (sym (Rattle.std.proofs.Common.add-one i))
  where
    at : (schema : List Attr) (i : ℕ) → slice_get schema i ≡ Some a → drop i schema ≡ a ∷ drop (suc i) schema
    at [] i g = absurd (none-some a g)
    at (b ∷ bs) zero g = ap (λ x. x ∷ bs) (same_Some b a g)
    at (b ∷ bs) (suc i) g = at bs i g

-- the length so far, and that of what is left
abbrev pub length_from : ℕ → List Attr → List ℕ → Option ℕ
length_from done attrs rest = option_and_then (λ m. Some (done + m)) (row_len_of attrs rest)

further : (o : Option ℕ) (n m k : ℕ) → k ≡ n + m → option_and_then (λ x. Some (k + x)) o ≡ option_and_then (λ x. Some (n + x)) (option_and_then (λ x. Some (m + x)) o)
further None n m k h = refl
further (Some x) n m k h = ap Some (omega (arith, h))

pub length_from-step : (schema : List Attr) (i n done more : ℕ) (a : Attr) (rest : List ℕ) → slice_get schema i ≡ Some a → field_len a.kind rest ≡ Some n → more ≡ done + n → length_from more (drop (i + 1) schema) (drop n rest) ≡ length_from done (drop i schema) rest
length_from-step schema i n done more a rest at here h =
    further (row_len_of (drop (i + 1) schema) (drop n rest)) done n more h
    ∙ sym (ap (λ attrs. length_from done attrs rest) (drop_attr schema i a at) ∙ rw here refl)

pub length_from-stop : (schema : List Attr) (i done : ℕ) (a : Attr) (rest : List ℕ) → slice_get schema i ≡ Some a → field_len a.kind rest ≡ None → length_from done (drop i schema) rest ≡ None
length_from-stop schema i done a rest at here = ap (λ attrs. length_from done attrs rest) (drop_attr schema i a at) ∙ rw here refl

-- what is left of a row is the row of the fields from this place on, with field i among them
pub record IsAt (schema : List Attr) (row : List ℕ) (i place : ℕ) (rest : List ℕ) : Type 0 where
  pub fields : List Scalar
  pub tuple : is_tuple (drop place schema) fields ≡ true
  pub left : row_of fields ≡ rest
  pub same : scalar_at fields (i - place) ≡ field_at schema row i

pub at_start : (schema : List Attr) (row : List ℕ) (i : ℕ) → IsRow schema row → IsAt schema row i 0 row
at_start schema row i (tuple, valid, spelled) =
    record {
      fields = tuple;
      tuple = valid;
      left = spelled;
      same = ap (scalar_at tuple) whole ∙ sym (ap (λ fields. scalar_at fields i) (ap (fields_of schema) (sym spelled ∙ sym (append-nil (row_of tuple))) ∙ fields_of-row_of schema tuple [] valid));
    }
  where
    whole : i - 0 ≡ i
    whole = omega arith

pub at_step : (schema : List Attr) (row : List ℕ) (i place : ℕ) (a : Attr) (rest after : List ℕ) (n : ℕ) → slice_get schema place ≡ Some a → place < i → n ≡ length (first_piece a.kind rest) → after ≡ drop n rest → IsAt schema row i place rest → IsAt schema row i (place + 1) after
at_step schema row i place a rest after n at h size moved l =
    by l.fields (subst (λ attrs. is_tuple attrs l.fields ≡ true) (drop_attr schema place a at) l.tuple) l.left l.same
  where
    by : (fields : List Scalar) → is_tuple (a ∷ drop (place + 1) schema) fields ≡ true → row_of fields ≡ rest → scalar_at fields (i - place) ≡ field_at schema row i → IsAt schema row i (place + 1) after
    by [] t left same = absurd (false≢true t)
    by (s ∷ ss) t left same =
        let p = first_field a (drop (place + 1) schema) s ss t in
        let piece : first_piece a.kind rest ≡ field_bytes s = ap (first_piece a.kind) (sym left) ∙ first_piece-field_bytes a.kind s (row_of ss) p.kind p.valid in
        let turn : suc (i - (place + 1)) ≡ i - place = omega arith in
        record {
          fields = ss;
          tuple = p.others;
          left = sym (moved ∙ ap (λ k. drop k rest) (size ∙ ap length piece) ∙ ap (drop (length (field_bytes s))) (sym left) ∙ drop_at (field_bytes s) (row_of ss) (length (field_bytes s)) refl);
          same = ap (scalar_at (s ∷ ss)) turn ∙ same;
        }

-- and field i stands first in the end
pub record IsFirst (schema : List Attr) (row : List ℕ) (i : ℕ) (kind : Kind) (rest : List ℕ) : Type 0 where
  pub begins : BeginsField kind rest
  pub same : scalar_of kind (first_piece kind rest) ≡ field_at schema row i

pub at_end : (schema : List Attr) (row : List ℕ) (i place : ℕ) (a : Attr) (rest : List ℕ) → slice_get schema i ≡ Some a → place ≡ i → IsAt schema row i place rest → IsFirst schema row i a.kind rest
at_end schema row i place a rest at here l =
    by l.fields (subst (λ attrs. is_tuple attrs l.fields ≡ true) (ap (λ n. drop n schema) here ∙ drop_attr schema i a at) l.tuple) l.left l.same
  where
    by : (fields : List Scalar) → is_tuple (a ∷ drop (i + 1) schema) fields ≡ true → row_of fields ≡ rest → scalar_at fields (i - place) ≡ field_at schema row i → IsFirst schema row i a.kind rest
    by [] t left same = absurd (false≢true t)
    by (s ∷ ss) t left same =
        let p = first_field a (drop (i + 1) schema) s ss t in
        let piece : first_piece a.kind rest ≡ field_bytes s = ap (first_piece a.kind) (sym left) ∙ first_piece-field_bytes a.kind s (row_of ss) p.kind p.valid in
        let none : 0 ≡ i - place = omega (arith, here) in
        record {
          begins = ap (λ bytes. is_some (field_len a.kind bytes)) (sym left) ∙ ap is_some (field_len-field_bytes a.kind s (row_of ss) p.kind p.valid);
          same = ap (scalar_of a.kind) piece ∙ scalar_of-field_bytes a.kind s p.kind p.valid ∙ ap (scalar_at (s ∷ ss)) none ∙ same;
        }

-- ---- a field of bytes that may be a row

-- bytes that begin with no row are none
pub none_read : {A : Type 0} → (schema : List Attr) (bytes : List ℕ) (i : ℕ) (o : Option A) → row_len_of schema bytes ≡ None → IfNone o (i < length schema → ¬ (IsRow schema bytes))
none_read schema bytes i None h = λ _ row. none-some (length bytes) (sym h ∙ row_len_whole schema bytes row)
none_read schema bytes i (Some x) h = tt

-- all fields are gone through
pub all_through : (schema : List Attr) (bytes rest : List ℕ) (place : ℕ) → length schema ≤ place → length_from (length bytes - length rest) (drop place schema) rest ≡ row_len_of schema bytes → row_len_of schema bytes ≡ Some (length bytes - length rest)
all_through schema bytes rest place h e = sym e ∙ ap (λ attrs. length_from (length bytes - length rest) attrs rest) (drop_past schema place h) ∙ ap Some (omega arith)
  where
    drop_past : (attrs : List Attr) (n : ℕ) → length attrs ≤ n → drop n attrs ≡ []
    drop_past [] zero g = refl
    drop_past [] (suc n) g = refl
    drop_past (a ∷ attrs) zero g = absurd (omega (arith, g))
    drop_past (a ∷ attrs) (suc n) g = drop_past attrs n (omega (arith, g))

pub all_there : (schema : List Attr) (bytes rest : List ℕ) → AreBytes bytes → row_len_of schema bytes ≡ Some (length bytes - length rest) → length rest ≡ 0 → IsRow schema bytes
all_there schema bytes rest all h none = row_whole schema bytes all (h ∙ ap Some (omega (arith, none)))

pub more_there : (schema : List Attr) (bytes rest : List ℕ) → length rest ≤ length bytes → row_len_of schema bytes ≡ Some (length bytes - length rest) → (length rest ≡ 0 → ⊥) → IsRow schema bytes → ⊥
more_there schema bytes rest within h some row = some (omega (arith, within, same_Some (length bytes - length rest) (length bytes) (sym h ∙ row_len_whole schema bytes row)))

-- gone through up to a place, field i is the same one of what is left up to its place, and from there on first in a piece
-- that was kept
pub record IsHeld (schema : List Attr) (bytes : List ℕ) (i place : ℕ) (at rest : List ℕ) : Type 0 where
  pub before : place ≤ i → field_at (drop place schema) rest (i - place) ≡ field_at schema bytes i
  pub behind : (a : Attr) → i < place → slice_get schema i ≡ Some a → IsFirst schema bytes i a.kind at

pub held_start : (schema : List Attr) (bytes : List ℕ) (i : ℕ) (at : List ℕ) → IsHeld schema bytes i 0 at bytes
held_start schema bytes i at = record { before = λ _. ap (field_at schema bytes) whole; behind = λ a h _. absurd (omega (arith, h)) }
  where
    whole : i - 0 ≡ i
    whole = omega arith

pub held_step : (schema : List Attr) (bytes : List ℕ) (i place n : ℕ) (a : Attr) (at rest next after : List ℕ) (here : Bool) → slice_get schema place ≡ Some a → field_len a.kind rest ≡ Some n →
    here ≡ nat_eq place i → next ≡ cond here rest at → after ≡ drop n rest → IsHeld schema bytes i place at rest → IsHeld schema bytes i (place + 1) next after
held_step schema bytes i place n a at rest next after here get len test chosen moved l =
    record {
      before = λ h. on h (i - (place + 1)) (omega (arith, h)) (l.before (omega (arith, h)));
      behind = λ b h g. elim (cases_lt i place) [ inl p ↦ kept b p g | inr p ↦ found b (omega (arith, h, p)) g ];
    }
  where
    piece : n ≡ length (first_piece a.kind rest)
    piece = field_len_piece a.kind rest n len

    on : place + 1 ≤ i → (j : ℕ) → i - place ≡ suc j → field_at (drop place schema) rest (i - place) ≡ field_at schema bytes i → field_at (drop (place + 1) schema) after j ≡ field_at schema bytes i
    on h j turn same =
        ap (λ t. field_at (drop (place + 1) schema) t j) (moved ∙ ap (λ k. drop k rest) piece)
        ∙ sym (ap (λ attrs. field_at attrs rest (suc j)) (drop_attr schema place a get))
        ∙ ap (field_at (drop place schema) rest) (sym turn) ∙ same

    other : i < place → here ≡ false
    other p = test ∙ ne_eqb place i (λ e. omega (arith, p, e))

    kept : (b : Attr) → i < place → slice_get schema i ≡ Some b → IsFirst schema bytes i b.kind next
    kept b p g = subst (IsFirst schema bytes i b.kind) (sym (chosen ∙ ap (λ v. cond v rest at) (other p))) (l.behind b p g)

    first : (k : ℕ) → k ≡ 0 → field_at (drop place schema) rest k ≡ field_at schema bytes i → scalar_of a.kind (first_piece a.kind rest) ≡ field_at schema bytes i
    first k none same = sym (ap (λ attrs. field_at attrs rest 0) (drop_attr schema place a get)) ∙ ap (field_at (drop place schema) rest) (sym none) ∙ same

    found : (b : Attr) → place ≡ i → slice_get schema i ≡ Some b → IsFirst schema bytes i b.kind next
    found b e g =
        subst (λ (c : Attr). IsFirst schema bytes i c.kind next) (same_Some a b (sym get ∙ ap (slice_get schema) e ∙ g))
        (subst (IsFirst schema bytes i a.kind) (sym (chosen ∙ ap (λ v. cond v rest at) (test ∙ eq-eqb place i e)))
        (record { begins = ap is_some len; same = first (i - place) (omega (arith, e)) (l.before (omega (arith, e))) }))

-- ---- the row of a tuple, field by field

pub row_of-push : (fields : List Scalar) (s : Scalar) → row_of (fields ++ s ∷ []) ≡ row_of fields ++ field_bytes s
row_of-push [] s = append-nil (field_bytes s)
row_of-push (f ∷ fs) s = ap (λ t. field_bytes f ++ t) (row_of-push fs s) ∙ sym (append_assoc (field_bytes f) (row_of fs) (field_bytes s))

pub length_have_kinds : (schema : List Attr) (fields : List Scalar) → have_kinds schema fields ≡ true → length schema ≡ length fields
length_have_kinds [] [] h = refl
length_have_kinds [] (s ∷ ss) h = absurd (false≢true h)
length_have_kinds (a ∷ attrs) [] h = absurd (false≢true h)
length_have_kinds (a ∷ attrs) (s ∷ ss) h = ap suc (length_have_kinds attrs ss (and_parts (is_kind a.kind s) (have_kinds attrs ss) h).1)

pub is_tuple_from_kinds : (schema : List Attr) (fields : List Scalar) → have_kinds schema fields ≡ true → list_all is_scalar fields ≡ true → is_tuple schema fields ≡ true
is_tuple_from_kinds [] [] h g = refl
is_tuple_from_kinds [] (s ∷ ss) h g = absurd (false≢true h)
is_tuple_from_kinds (a ∷ attrs) [] h g = absurd (false≢true h)
is_tuple_from_kinds (a ∷ attrs) (s ∷ ss) h g =
    let p = and_parts (is_kind a.kind s) (have_kinds attrs ss) h in
    let q = and_parts (is_scalar s) (list_all is_scalar ss) g in
    and_from _ _ (and_from _ _ p.0 q.0) (is_tuple_from_kinds attrs ss p.1 q.1)

-- one field more
pub row_of-more : (fields : List Scalar) (i : ℕ) (s : Scalar) (row after : List ℕ) → i < length fields → s ≡ get_or fields i s → row ≡ row_of (take i fields) → after ≡ row ++ field_bytes s → after ≡ row_of (take (i + 1) fields)
row_of-more fields i s row after h at e g =
    g ∙ ap (λ t. t ++ field_bytes s) e ∙ sym (row_of-push (take i fields) s)
    ∙ ap row_of (ap (λ x. take i fields ++ x ∷ []) at ∙ sym (take_more fields i s h))

pub valid-more : (fields : List Scalar) (i : ℕ) (s : Scalar) → i < length fields → s ≡ get_or fields i s → list_all is_scalar (take i fields) ≡ true → is_scalar s ≡ true → list_all is_scalar (take (i + 1) fields) ≡ true
valid-more fields i s h at all v =
    ap (list_all is_scalar) (take_more fields i s h ∙ sym (ap (λ x. take i fields ++ x ∷ []) at))
    ∙ list_all-append is_scalar (take i fields) (s ∷ [])
    ∙ and_from _ _ all (and_from _ _ v refl)

-- two answers compared
pub same_number : (o : Option ℕ) (n : ℕ) → option_eq nat_eq o (Some n) ≡ true → o ≡ Some n
same_number None n h = absurd (false≢true h)
same_number (Some m) n h = ap Some (eqb-true m n h)

pub number_same : (o : Option ℕ) (n : ℕ) → o ≡ Some n → option_eq nat_eq o (Some n) ≡ true
number_same None n h = absurd (none-some n h)
number_same (Some m) n h = eq-eqb m n (same_Some m n h)

pub row_len_some : (schema : List Attr) (bytes : List ℕ) (o : Option ℕ) → AreBytes bytes → o ≡ row_len_of schema bytes → IfSome o (λ n. (n ≤ length bytes) × IsRow schema (take n bytes))
row_len_some schema bytes None all h = tt
row_len_some schema bytes (Some n) all h = let b = row_len_begins schema bytes n all (sym h) in (b.within, b.row)

pub row_len_nothing : (schema : List Attr) (bytes : List ℕ) (o : Option ℕ) → o ≡ row_len_of schema bytes → IfNone o ((n : ℕ) → n ≤ length bytes → ¬ (IsRow schema (take n bytes)))
row_len_nothing schema bytes None h = λ n _ row. row_len_none schema bytes (sym h) n row
row_len_nothing schema bytes (Some n) h = tt

-- the kinds, one by one
pub have_kinds-length : (schema : List Attr) (fields : List Scalar) → (length schema ≡ length fields → ⊥) → have_kinds schema fields ≡ false
have_kinds-length schema fields h = Rattle.std.proofs.lemmas.Bool.false_from_ne_true (have_kinds schema fields) (λ g. h (length_have_kinds schema fields g))

pub have_kinds-at : (schema : List Attr) (fields : List Scalar) (i : ℕ) (a : Attr) (s : Scalar) → slice_get schema i ≡ Some a → i < length fields → s ≡ get_or fields i s → have_kinds (drop i schema) (drop i fields) ≡ (is_kind a.kind s && have_kinds (drop (i + 1) schema) (drop (i + 1) fields))
have_kinds-at schema fields i a s at h is =
    let fields_at : drop i fields ≡ s ∷ drop (i + 1) fields = drop_more fields i s h ∙ ap (λ x. x ∷ drop (i + 1) fields) (sym is) in
    (λ k. have_kinds (drop_attr schema i a at k) (fields_at k))
