-- A left row and a right row, attribute by attribute of the right schema.
use Rattle.std.proofs.Common.{◌≡◌, ℕ, zero, suc, Option, ◌+◌, ◌≤◌, Bool, true, false, cond, not, ◌||◌, ◌&&◌, List, [], ◌∷◌, ◌++◌, Some, None, is_some, length, take, drop, refl, sym, ap, ◌∙◌, subst, arith, append_assoc, length-append}
use Rattle.std.specs.List.{filter, list_any, list_all, flat_map, position_from, slice_get}
use Rattle.std.proofs.Math.Seq.{take-add}
use Rattle.std.proofs.lemmas.Bool.{both_ways, and_parts, or_parts, false≢true}
use Rattle.std.proofs.lemmas.Option.{none-some, same_Some}
use Rattle.std.proofs.lemmas.List.{append-nil, drop_all}
use Rattle.hera_sets.specs.Rows.{Row, is_same, holds}
use Rattle.hera_sets.proofs.Order.{same_true, same_itself, before, level, behind, stands}
use Rattle.hera_meaning.specs.declared.schemas.Attr.{Attr}
use Rattle.hera_meaning.specs.Schemas.{AreDistinct, names_of, place_named}
use Rattle.hera_meaning.specs.Rows.{first_piece, pieces}
use Rattle.hera_meaning.specs.Relations.{piece_at, has_name, piece_named, common, agree}
use Rattle.hera_row.proofs.RowLemmas.{drop_attr}
use Rattle.rel_algebra.specs.Fronts.{begins}
use Rattle.rel_algebra.proofs.PieceLemmas.{first_piece_front}
use Rattle.rel_algebra.proofs.FrontLemmas.{begins_from}
use Rattle.join_exec.specs.Leading.{places_in, ArePlaces, leading_of, shared_of}

-- ---- a name's place

pub is_some-position : (p : Attr → Bool) (i : ℕ) (attrs : List Attr) → is_some (position_from p i attrs) ≡ list_any p attrs
is_some-position p i [] = refl
is_some-position p i (a ∷ attrs) =
    elim (p a) as (λ v. is_some (cond v (Some i) (position_from p (i + 1) attrs)) ≡ (v || list_any p attrs)) [
      | true ↦ refl
      | false ↦ is_some-position p (i + 1) attrs
    ]

placed : (name : List ℕ) (attrs : List Attr) (row : List ℕ) (i n : ℕ) → position_from (λ a. is_same name a.name) i attrs ≡ Some n → (m : ℕ) × (n ≡ i + m) × (piece_named name attrs (pieces attrs row) ≡ piece_at (pieces attrs row) m)
placed name [] row i n h = absurd (none-some n h)
placed name (a ∷ attrs) row i n h = by (placed name attrs (drop (length (first_piece a.kind row)) row) (i + 1) n) (is_same name a.name) refl h
  where
    rest : List ℕ
    rest = drop (length (first_piece a.kind row)) row

    by : (position_from (λ a. is_same name a.name) (i + 1) attrs ≡ Some n → (m : ℕ) × (n ≡ i + 1 + m) × (piece_named name attrs (pieces attrs rest) ≡ piece_at (pieces attrs rest) m)) → (v : Bool) → is_same name a.name ≡ v → cond v (Some i) (position_from (λ a. is_same name a.name) (i + 1) attrs) ≡ Some n → (m : ℕ) × (n ≡ i + m) × (piece_named name (a ∷ attrs) (pieces (a ∷ attrs) row) ≡ piece_at (pieces (a ∷ attrs) row) m)
    by more true e g = (0, omega (arith, same_Some i n g), rw e refl)
    by more false e g =
        let r = more g in
        (suc r.0, omega (arith, r.1), rw e r.2)

-- the field of a name is the field at its place
pub piece_named-place : (name : List ℕ) (attrs : List Attr) (bytes : List ℕ) (n : ℕ) → position_from (λ a. is_same name a.name) 0 attrs ≡ Some n → piece_at (pieces attrs bytes) n ≡ piece_named name attrs (pieces attrs bytes)
piece_named-place name attrs bytes n h =
    let r = placed name attrs bytes 0 n h in
    let same : n ≡ r.0 = omega (arith, r.1) in
    ap (piece_at (pieces attrs bytes)) same ∙ sym r.2

pub piece_named-nowhere : (name : List ℕ) (attrs : List Attr) (row : List ℕ) (i : ℕ) → position_from (λ a. is_same name a.name) i attrs ≡ None → [] ≡ piece_named name attrs (pieces attrs row)
piece_named-nowhere name [] row i h = refl
piece_named-nowhere name (a ∷ attrs) row i h = by (piece_named-nowhere name attrs (drop (length (first_piece a.kind row)) row) (i + 1)) (is_same name a.name) refl h
  where
    rest : List ℕ
    rest = drop (length (first_piece a.kind row)) row

    by : (position_from (λ a. is_same name a.name) (i + 1) attrs ≡ None → [] ≡ piece_named name attrs (pieces attrs rest)) → (v : Bool) → is_same name a.name ≡ v → cond v (Some i) (position_from (λ a. is_same name a.name) (i + 1) attrs) ≡ None → [] ≡ piece_named name (a ∷ attrs) (pieces (a ∷ attrs) row)
    by more true e g = absurd (none-some i (sym g))
    by more false e g = rw e (more g)

-- ---- places found once

-- a place found is that of an attribute of the right schema
found_of : (left right : List Attr) (place : ℕ) (o : Option ℕ) → slice_get (places_in left right) place ≡ Some o → (a : Attr) × (slice_get right place ≡ Some a) × (place_named a.name left ≡ o)
found_of left [] place o h = absurd (none-some o h)
found_of left (a ∷ attrs) zero o h = (a, refl, same_Some (place_named a.name left) o h)
found_of left (a ∷ attrs) (suc n) o h = found_of left attrs n o h

found_at : (left right : List Attr) (places : List (Option ℕ)) (place : ℕ) (o : Option ℕ) → ArePlaces left right places → slice_get places place ≡ Some o → (a : Attr) × (slice_get right place ≡ Some a) × (place_named a.name left ≡ o)
found_at left right places place o p h = found_of left right place o (ap (λ t. slice_get t place) (sym p.each) ∙ h)

name_found : (left : List Attr) (name : List ℕ) (n : ℕ) → place_named name left ≡ Some n → true ≡ has_name left name
name_found left name n h = sym (sym (is_some-position (λ a. is_same name a.name) 0 left) ∙ ap is_some h)

name_missing : (left : List Attr) (name : List ℕ) → place_named name left ≡ None → false ≡ has_name left name
name_missing left name h = sym (sym (is_some-position (λ a. is_same name a.name) 0 left) ∙ ap is_some h)

length_places : (left right : List Attr) → length (places_in left right) ≡ length right
length_places left [] = refl
length_places left (a ∷ attrs) = omega (arith, length_places left attrs)

-- behind the last place no attribute is left
pub none_left : (left right : List Attr) (places : List (Option ℕ)) (place : ℕ) → ArePlaces left right places → length places ≤ place → drop place right ≡ []
none_left left right places place p h = drop_all place right (omega (arith, h, ap length p.each, length_places left right))

-- one place more
pub place_push : (left right : List Attr) (done after : List (Option ℕ)) (place : ℕ) (a : Attr) (name : List ℕ) (o : Option ℕ) → slice_get right place ≡ Some a → name ≡ a.name → o ≡ place_named name left → after ≡ done ++ o ∷ [] → after ++ places_in left (drop (place + 1) right) ≡ done ++ places_in left (drop place right)
place_push left right done after place a name o at e h g =
    ap (λ t. t ++ places_in left (drop (place + 1) right)) (g ∙ ap (λ v. done ++ v ∷ []) (h ∙ ap (λ n. place_named n left) e))
    ∙ append_assoc done (place_named a.name left ∷ []) (places_in left (drop (place + 1) right))
    ∙ ap (λ attrs. done ++ places_in left attrs) (sym (drop_attr right place a at))

-- an attribute at a place has another name than one whose name is not among them
other_name : (b a : Attr) (attrs : List Attr) (n : ℕ) → holds (names_of attrs) b.name ≡ false → slice_get attrs n ≡ Some a → is_same b.name a.name ≡ false
other_name b a [] n h g = absurd (none-some a g)
other_name b a (c ∷ attrs) zero h g = subst (λ z. is_same b.name z.name ≡ false) (same_Some c a g) (or_parts (is_same b.name c.name) (holds (names_of attrs) b.name) h).0
other_name b a (c ∷ attrs) (suc n) h g = other_name b a attrs n (or_parts (is_same b.name c.name) (holds (names_of attrs) b.name) h).1 g

-- ---- whether the rows agree, from an attribute on

-- the rows are equal in those of these attributes that the left schema has
abbrev pub agree_on : List Attr → List Attr → Row → Row → List Attr → Bool
agree_on left right x y attrs =
    list_all (λ a. is_same (piece_named a.name left (pieces left x)) (piece_named a.name right (pieces right y))) (filter (λ a. has_name left a.name) attrs)

pub agree_on-skip : (left right : List Attr) (x y : Row) (place : ℕ) (a : Attr) (name : List ℕ) → slice_get right place ≡ Some a → name ≡ a.name → false ≡ has_name left name → agree_on left right x y (drop (place + 1) right) ≡ agree_on left right x y (drop place right)
agree_on-skip left right x y place a name at e h =
    let lacks : has_name left a.name ≡ false = ap (has_name left) (sym e) ∙ sym h in
    sym (ap (agree_on left right x y) (drop_attr right place a at) ∙ rw lacks refl)

pub agree_on-same : (left right : List Attr) (x y : Row) (place : ℕ) (a : Attr) (name ours theirs : List ℕ) → slice_get right place ≡ Some a → name ≡ a.name → true ≡ has_name left name → ours ≡ piece_named name left (pieces left x) → theirs ≡ piece_named name right (pieces right y) → true ≡ is_same ours theirs → agree_on left right x y (drop (place + 1) right) ≡ agree_on left right x y (drop place right)
agree_on-same left right x y place a name ours theirs at e h o t s =
    let has : has_name left a.name ≡ true = ap (has_name left) (sym e) ∙ sym h in
    let same : is_same (piece_named a.name left (pieces left x)) (piece_named a.name right (pieces right y)) ≡ true =
    sym (s ∙ (λ i. is_same ((o ∙ ap (λ n. piece_named n left (pieces left x)) e) i) ((t ∙ ap (λ n. piece_named n right (pieces right y)) e) i)))
    in
    sym (ap (agree_on left right x y) (drop_attr right place a at) ∙ rw (has, same) refl)

pub agree_on-differ : (left right : List Attr) (x y : Row) (place : ℕ) (a : Attr) (name ours theirs : List ℕ) → slice_get right place ≡ Some a → name ≡ a.name → true ≡ has_name left name → ours ≡ piece_named name left (pieces left x) → theirs ≡ piece_named name right (pieces right y) → false ≡ is_same ours theirs → false ≡ agree_on left right x y (drop place right)
agree_on-differ left right x y place a name ours theirs at e h o t s =
    let has : has_name left a.name ≡ true = ap (has_name left) (sym e) ∙ sym h in
    let other : is_same (piece_named a.name left (pieces left x)) (piece_named a.name right (pieces right y)) ≡ false =
    sym (s ∙ (λ i. is_same ((o ∙ ap (λ n. piece_named n left (pieces left x)) e) i) ((t ∙ ap (λ n. piece_named n right (pieces right y)) e) i)))
    in
    sym (ap (agree_on left right x y) (drop_attr right place a at) ∙ rw (has, other) refl)

-- ---- the right row's rest, from an attribute on

-- the fields of the right row at those of these attributes that the left schema lacks
abbrev pub rest_at : List Attr → List Attr → Row → List Attr → Row
rest_at left right y attrs = flat_map (λ a. piece_named a.name right (pieces right y)) (filter (λ a. not (has_name left a.name)) attrs)

pub rest_at-skip : (left right : List Attr) (y done : Row) (place : ℕ) (a : Attr) (name : List ℕ) → slice_get right place ≡ Some a → name ≡ a.name → true ≡ has_name left name → done ++ rest_at left right y (drop (place + 1) right) ≡ done ++ rest_at left right y (drop place right)
rest_at-skip left right y done place a name at e h =
    let has : has_name left a.name ≡ true = ap (has_name left) (sym e) ∙ sym h in
    ap (λ t. done ++ t) (sym (ap (rest_at left right y) (drop_attr right place a at) ∙ rw has refl))

pub rest_at-take : (left right : List Attr) (y done piece after : Row) (place : ℕ) (a : Attr) (name : List ℕ) → slice_get right place ≡ Some a → name ≡ a.name → false ≡ has_name left name → piece ≡ piece_named name right (pieces right y) → after ≡ done ++ piece → after ++ rest_at left right y (drop (place + 1) right) ≡ done ++ rest_at left right y (drop place right)
rest_at-take left right y done piece after place a name at e h p g =
    let lacks : has_name left a.name ≡ false = ap (has_name left) (sym e) ∙ sym h in
    let here : piece ≡ piece_named a.name right (pieces right y) = p ∙ ap (λ n. piece_named n right (pieces right y)) e in
    ap (λ t. t ++ rest_at left right y (drop (place + 1) right)) (g ∙ ap (λ t. done ++ t) here)
    ∙ append_assoc done (piece_named a.name right (pieces right y)) (rest_at left right y (drop (place + 1) right))
    ∙ ap (λ t. done ++ t) (sym (ap (rest_at left right y) (drop_attr right place a at) ∙ rw lacks refl))

-- ---- the leading fields, from an attribute on

pub leading_of-take : (left : List Attr) (x : Row) (right : List Attr) (done piece after : Row) (place : ℕ) (a : Attr) (name : List ℕ) → slice_get right place ≡ Some a → name ≡ a.name → true ≡ has_name left name → piece ≡ piece_named name left (pieces left x) → after ≡ done ++ piece → after ++ leading_of left x (drop (place + 1) right) ≡ done ++ leading_of left x (drop place right)
leading_of-take left x right done piece after place a name at e h p g =
    let has : has_name left a.name ≡ true = ap (has_name left) (sym e) ∙ sym h in
    let here : piece ≡ piece_named a.name left (pieces left x) = p ∙ ap (λ n. piece_named n left (pieces left x)) e in
    ap (λ t. t ++ leading_of left x (drop (place + 1) right)) (g ∙ ap (λ t. done ++ t) here)
    ∙ append_assoc done (piece_named a.name left (pieces left x)) (leading_of left x (drop (place + 1) right))
    ∙ ap (λ t. done ++ t) (sym (ap (leading_of left x) (drop_attr right place a at) ∙ rw has refl))

pub leading_of-stop : (left : List Attr) (x : Row) (right : List Attr) (done : Row) (place : ℕ) (a : Attr) (name : List ℕ) → slice_get right place ≡ Some a → name ≡ a.name → false ≡ has_name left name → done ≡ done ++ leading_of left x (drop place right)
leading_of-stop left x right done place a name at e h =
    let lacks : has_name left a.name ≡ false = ap (has_name left) (sym e) ∙ sym h in
    sym (ap (λ t. done ++ t) (ap (leading_of left x) (drop_attr right place a at) ∙ rw lacks refl) ∙ append-nil done)

pub leading_of-end : (left : List Attr) (x : Row) (right : List Attr) (done : Row) (place : ℕ) → length right ≤ place → done ≡ done ++ leading_of left x (drop place right)
leading_of-end left x right done place h = sym (ap (λ attrs. done ++ leading_of left x attrs) (drop_all place right h) ∙ append-nil done)

-- ---- a right row that agrees begins with the leading fields

same_turned : (a b : Row) → is_same a b ≡ false → is_same b a ≡ false
same_turned a b h = elim (stands b a) [
  | before _ _ s ↦ s
  | level e _ _ _ ↦ absurd (both_ways _ h (subst (λ z. is_same a z ≡ true) (sym e) (same_itself a)))
  | behind _ _ s ↦ s
]

-- the field at an attribute's own place is the field of its name
own_place : (attrs : List Attr) (row : Row) (place : ℕ) (a : Attr) → AreDistinct (names_of attrs) → slice_get attrs place ≡ Some a → piece_at (pieces attrs row) place ≡ piece_named a.name attrs (pieces attrs row)
own_place [] row place a apart h = absurd (none-some a h)
own_place (b ∷ attrs) row zero a apart h =
    let same : is_same a.name b.name ≡ true = ap (λ z. is_same a.name z.name) (same_Some b a h) ∙ same_itself a.name in
    rw same refl
own_place (b ∷ attrs) row (suc n) a apart h =
    let other : is_same a.name b.name ≡ false = same_turned b.name a.name (other_name b a attrs n apart.0 h) in
    rw other (own_place attrs (drop (length (first_piece b.kind row)) row) n a apart.1 h)

-- attributes of other names are equal in what is behind the first field too
agree_on-behind : (left : List Attr) (x : Row) (a : Attr) (attrs : List Attr) (y : Row) (rest : List Attr) → holds (names_of rest) a.name ≡ false → agree_on left (a ∷ attrs) x y rest ≡ agree_on left attrs x (drop (length (first_piece a.kind y)) y) rest
agree_on-behind left x a attrs y [] h = refl
agree_on-behind left x a attrs y (b ∷ rest) h =
    let p = or_parts (is_same a.name b.name) (holds (names_of rest) a.name) h in
    let other = same_turned a.name b.name p.0 in
    let more = agree_on-behind left x a attrs y rest p.1 in
    elim (has_name left b.name) as (λ v. list_all (λ c. is_same (piece_named c.name left (pieces left x)) (piece_named c.name (a ∷ attrs) (pieces (a ∷ attrs) y))) (cond v (b ∷ filter (λ c. has_name left c.name) rest) (filter (λ c. has_name left c.name) rest)) ≡ list_all (λ c. is_same (piece_named c.name left (pieces left x)) (piece_named c.name attrs (pieces attrs (drop (length (first_piece a.kind y)) y)))) (cond v (b ∷ filter (λ c. has_name left c.name) rest) (filter (λ c. has_name left c.name) rest))) [
      | true ↦ rw other (ap (λ v. is_same (piece_named b.name left (pieces left x)) (piece_named b.name attrs (pieces attrs (drop (length (first_piece a.kind y)) y))) && v) more)
      | false ↦ more
    ]

goes : (left : List Attr) (x : Row) (attrs : List Attr) (y : Row) → AreDistinct (names_of attrs) → agree_on left attrs x y attrs ≡ true → take (length (leading_of left x attrs)) y ≡ leading_of left x attrs
goes left x [] y apart h = refl
goes left x (a ∷ attrs) y apart h = by (goes left x attrs (drop (length (first_piece a.kind y)) y) apart.1) (has_name left a.name) refl
  where
    piece : Row
    piece = first_piece a.kind y

    more : Row
    more = leading_of left x attrs

    whole : piece_named a.name left (pieces left x) ≡ piece → take (length more) (drop (length piece) y) ≡ more → take (length (piece_named a.name left (pieces left x) ++ more)) y ≡ piece_named a.name left (pieces left x) ++ more
    whole e g =
        let P : Row → Type 0 = λ z. take (length (z ++ more)) y ≡ z ++ more in
        subst P (sym e) (ap (λ n. take n y) (length-append piece more) ∙ take-add (length piece) (length more) y ∙ (λ i. first_piece_front a.kind y i ++ g i))

    by : (agree_on left attrs x (drop (length piece) y) attrs ≡ true → take (length more) (drop (length piece) y) ≡ more) → (v : Bool) → has_name left a.name ≡ v → take (length (leading_of left x (a ∷ attrs))) y ≡ leading_of left x (a ∷ attrs)
    by others false e = rw e refl
    by others true e =
        let q = and_parts (is_same (piece_named a.name left (pieces left x)) (piece_named a.name (a ∷ attrs) (pieces (a ∷ attrs) y))) (agree_on left (a ∷ attrs) x y attrs) (rw e at h) in
        let first : piece_named a.name (a ∷ attrs) (pieces (a ∷ attrs) y) ≡ piece = rw (same_itself a.name) refl in
        rw e (whole (same_true _ _ q.0 ∙ first) (others (sym (agree_on-behind left x a attrs y attrs apart.0) ∙ q.1)))

pub agree_begins : (left right : List Attr) (x y : Row) → AreDistinct (names_of right) → agree left right (x, y) ≡ true → begins (leading_of left x right) y ≡ true
agree_begins left right x y apart h = begins_from (leading_of left x right) y (goes left x right y apart h)

-- ---- the common fields, from an attribute on

abbrev pub shared_at : List Attr → List Attr → Row → List Attr → Row
shared_at left schema row attrs = flat_map (λ a. piece_named a.name schema (pieces schema row)) (filter (λ a. has_name left a.name) attrs)

pub shared_at-skip : (left schema right : List Attr) (row done : Row) (place : ℕ) (a : Attr) (name : List ℕ) → slice_get right place ≡ Some a → name ≡ a.name → false ≡ has_name left name → done ++ shared_at left schema row (drop (place + 1) right) ≡ done ++ shared_at left schema row (drop place right)
shared_at-skip left schema right row done place a name at e h =
    let lacks : has_name left a.name ≡ false = ap (has_name left) (sym e) ∙ sym h in
    ap (λ t. done ++ t) (sym (ap (shared_at left schema row) (drop_attr right place a at) ∙ rw lacks refl))

pub shared_at-take : (left schema right : List Attr) (row done piece after : Row) (place : ℕ) (a : Attr) (name : List ℕ) → slice_get right place ≡ Some a → name ≡ a.name → true ≡ has_name left name → piece ≡ piece_named name schema (pieces schema row) → after ≡ done ++ piece → after ++ shared_at left schema row (drop (place + 1) right) ≡ done ++ shared_at left schema row (drop place right)
shared_at-take left schema right row done piece after place a name at e h p g =
    let has : has_name left a.name ≡ true = ap (has_name left) (sym e) ∙ sym h in
    let here : piece ≡ piece_named a.name schema (pieces schema row) = p ∙ ap (λ n. piece_named n schema (pieces schema row)) e in
    ap (λ t. t ++ shared_at left schema row (drop (place + 1) right)) (g ∙ ap (λ t. done ++ t) here)
    ∙ append_assoc done (piece_named a.name schema (pieces schema row)) (shared_at left schema row (drop (place + 1) right))
    ∙ ap (λ t. done ++ t) (sym (ap (shared_at left schema row) (drop_attr right place a at) ∙ rw has refl))

-- two rows that agree have the same common fields
same_fields : (p q : Attr → Row) (attrs : List Attr) → list_all (λ a. is_same (p a) (q a)) attrs ≡ true → flat_map p attrs ≡ flat_map q attrs
same_fields p q [] h = refl
same_fields p q (a ∷ attrs) h =
    let both = and_parts (is_same (p a) (q a)) (list_all (λ b. is_same (p b) (q b)) attrs) h in
    λ i. same_true (p a) (q a) both.0 i ++ same_fields p q attrs both.1 i

pub agree_shared : (left right : List Attr) (x y : Row) → agree left right (x, y) ≡ true → shared_of left right left x ≡ shared_of left right right y
agree_shared left right x y h = same_fields (λ a. piece_named a.name left (pieces left x)) (λ a. piece_named a.name right (pieces right y)) (common left right) h

-- ---- the same, by the places found

none_at : (o : Option ℕ) → is_some o ≡ false → o ≡ None
none_at None h = refl
none_at (Some n) h = absurd (false≢true (sym h))

some_at : (o : Option ℕ) → is_some o ≡ true → (n : ℕ) × (o ≡ Some n)
some_at None h = absurd (false≢true h)
some_at (Some n) h = (n, refl)

pub leading_more : (left right : List Attr) (places : List (Option ℕ)) (x done piece after : Row) (place n : ℕ) → ArePlaces left right places → slice_get places place ≡ Some (Some n) → piece ≡ piece_at (pieces left x) n → after ≡ done ++ piece → after ++ leading_of left x (drop (place + 1) right) ≡ done ++ leading_of left x (drop place right)
leading_more left right places x done piece after place n p h e g =
    let r = found_at left right places place (Some n) p h in
    leading_of-take left x right done piece after place r.0 r.0.name r.1 refl (name_found left r.0.name n r.2) (e ∙ piece_named-place r.0.name left x n r.2) g

pub leading_stops : (left right : List Attr) (places : List (Option ℕ)) (x done : Row) (place : ℕ) → ArePlaces left right places → slice_get places place ≡ Some None → done ≡ done ++ leading_of left x (drop place right)
leading_stops left right places x done place p h =
    let r = found_at left right places place None p h in
    leading_of-stop left x right done place r.0 r.0.name r.1 refl (name_missing left r.0.name r.2)

pub leading_ends : (left right : List Attr) (places : List (Option ℕ)) (x done : Row) (place : ℕ) → ArePlaces left right places → length places ≤ place → done ≡ done ++ leading_of left x (drop place right)
leading_ends left right places x done place p h = sym (ap (λ attrs. done ++ leading_of left x attrs) (none_left left right places place p h) ∙ append-nil done)

-- where one attribute alone leads, its field is all that leads
pub leading_alone : (left right : List Attr) (places : List (Option ℕ)) (x : Row) (n : ℕ) → ArePlaces left right places → slice_get places 0 ≡ Some (Some n) → leading_of left x (drop 1 right) ≡ [] → piece_at (pieces left x) n ≡ leading_of left x right
leading_alone left right places x n p h alone =
    sym (append-nil (piece_at (pieces left x) n))
    ∙ ap (λ t. piece_at (pieces left x) n ++ t) (sym alone)
    ∙ leading_more left right places x [] (piece_at (pieces left x) n) (piece_at (pieces left x) n) 0 n p h refl refl

pub leading_short : (left right : List Attr) (places : List (Option ℕ)) (x : Row) → ArePlaces left right places → length places ≤ 1 → leading_of left x (drop 1 right) ≡ []
leading_short left right places x p h = sym (leading_ends left right places x [] 1 p h)

pub leading_stopped : (left right : List Attr) (places : List (Option ℕ)) (x : Row) (o : Option ℕ) → ArePlaces left right places → slice_get places 1 ≡ Some o → is_some o ≡ false → leading_of left x (drop 1 right) ≡ []
leading_stopped left right places x o p h n = sym (leading_stops left right places x [] 1 p (h ∙ ap Some (none_at o n)))

pub agree_skips : (left right : List Attr) (places : List (Option ℕ)) (x y : Row) (place : ℕ) → ArePlaces left right places → slice_get places place ≡ Some None → agree_on left right x y (drop (place + 1) right) ≡ agree_on left right x y (drop place right)
agree_skips left right places x y place p h =
    let r = found_at left right places place None p h in
    agree_on-skip left right x y place r.0 r.0.name r.1 refl (name_missing left r.0.name r.2)

pub agree_goes_on : (left right : List Attr) (places : List (Option ℕ)) (x y ours theirs : Row) (place n : ℕ) → ArePlaces left right places → slice_get places place ≡ Some (Some n) → ours ≡ piece_at (pieces left x) n → theirs ≡ piece_at (pieces right y) place → true ≡ is_same ours theirs → agree_on left right x y (drop (place + 1) right) ≡ agree_on left right x y (drop place right)
agree_goes_on left right places x y ours theirs place n p h o t s =
    let r = found_at left right places place (Some n) p h in
    agree_on-same left right x y place r.0 r.0.name ours theirs r.1 refl (name_found left r.0.name n r.2) (o ∙ piece_named-place r.0.name left x n r.2) (t ∙ own_place right y place r.0 p.distinct r.1) s

pub agree_fails : (left right : List Attr) (places : List (Option ℕ)) (x y ours theirs : Row) (place n : ℕ) → ArePlaces left right places → slice_get places place ≡ Some (Some n) → ours ≡ piece_at (pieces left x) n → theirs ≡ piece_at (pieces right y) place → false ≡ is_same ours theirs → false ≡ agree_on left right x y (drop place right)
agree_fails left right places x y ours theirs place n p h o t s =
    let r = found_at left right places place (Some n) p h in
    agree_on-differ left right x y place r.0 r.0.name ours theirs r.1 refl (name_found left r.0.name n r.2) (o ∙ piece_named-place r.0.name left x n r.2) (t ∙ own_place right y place r.0 p.distinct r.1) s

pub agree_ends : (left right : List Attr) (places : List (Option ℕ)) (x y : Row) (place : ℕ) → ArePlaces left right places → length places ≤ place → true ≡ agree_on left right x y (drop place right)
agree_ends left right places x y place p h = sym (ap (agree_on left right x y) (none_left left right places place p h))

pub rest_more : (left right : List Attr) (places : List (Option ℕ)) (y done piece after : Row) (place : ℕ) (o : Option ℕ) → ArePlaces left right places → slice_get places place ≡ Some o → is_some o ≡ false → piece ≡ piece_at (pieces right y) place → after ≡ done ++ piece → after ++ rest_at left right y (drop (place + 1) right) ≡ done ++ rest_at left right y (drop place right)
rest_more left right places y done piece after place o p h n e g =
    let r = found_at left right places place None p (h ∙ ap Some (none_at o n)) in
    rest_at-take left right y done piece after place r.0 r.0.name r.1 refl (name_missing left r.0.name r.2) (e ∙ own_place right y place r.0 p.distinct r.1) g

pub rest_skips : (left right : List Attr) (places : List (Option ℕ)) (y done : Row) (place : ℕ) (o : Option ℕ) → ArePlaces left right places → slice_get places place ≡ Some o → is_some o ≡ true → done ++ rest_at left right y (drop (place + 1) right) ≡ done ++ rest_at left right y (drop place right)
rest_skips left right places y done place o p h n =
    let at = some_at o n in
    let r = found_at left right places place (Some at.0) p (h ∙ ap Some at.1) in
    rest_at-skip left right y done place r.0 r.0.name r.1 refl (name_found left r.0.name at.0 r.2)

pub rest_ends : (left right : List Attr) (places : List (Option ℕ)) (y done : Row) (place : ℕ) → ArePlaces left right places → length places ≤ place → done ≡ done ++ rest_at left right y (drop place right)
rest_ends left right places y done place p h = sym (ap (λ attrs. done ++ rest_at left right y attrs) (none_left left right places place p h) ∙ append-nil done)
