-- Rows made of parts of rows: projections, joins and groups.
use Rattle.std.proofs.Common.{◌≡◌, ℕ, zero, suc, ◌^◌, ◌<◌, ◌≤◌, Bool, true, false, cond, List, [], ◌∷◌, ◌++◌, map, length, refl, sym, ap, ◌∙◌, subst, arith, append_assoc, append-nil, filter}
use Rattle.std.specs.List.{list_all, flat_map}
use Rattle.std.proofs.lemmas.Bool.{and_parts, ltb-true, or_parts}
use Rattle.hera_sets.specs.Rows.{Row, is_below, is_same, holds, put, normal}
use Rattle.hera_sets.proofs.Order.{same_itself}
use Rattle.hera_meaning.proofs.Names.{same_swap}
use Rattle.hera_meaning.specs.declared.scalars.Kind.{Kind}
use Rattle.hera_meaning.specs.declared.scalars.Scalar.{Scalar}
use Rattle.hera_meaning.specs.declared.schemas.Attr.{Attr}
use Rattle.hera_meaning.specs.declared.schemas.Agg.{Agg}
use Rattle.hera_meaning.specs.declared.schemas.Agg.TheVariants.{Count as count_agg, Sum as sum_agg, Min as min_agg, Max as max_agg}
use Rattle.hera_meaning.specs.Scalars.{scalar_less}
use Rattle.hera_meaning.specs.Schemas.{AreDistinct, names_of}
use Rattle.hera_meaning.specs.Rows.{field_bytes, row_of, pieces, fields_of, scalar_at, field_at}
use Rattle.hera_meaning.specs.Relations.{piece_at, at_places, project_of, piece_named, lacking, pairs, joined, agree}
use Rattle.hera_meaning.specs.Aggregates.{is_few, column, least_from, greatest_from, least_scalar, greatest_scalar, agg_of, rows_of_key, group_row, is_agg_in_range, are_sums_in_range}
use Rattle.hera_meaning.specs.Fits.{is_place, is_good_agg}
use Rattle.hera_meaning.specs.Forms.{kinds_of, kind_at, agg_kind, project_kinds, group_kinds, join_kinds}
use Rattle.hera_codegen.proofs.Codec.{IsOfKind, IsTupleOf, IsRowOf, pieces_row, fields_read}
use Rattle.hera_codegen.proofs.HasForm.{AreRowsOf}
use Rattle.hera_codegen.proofs.Ints.{fits_pos}

-- ---- rows behind each other

tuple_append : (ks ms : List Kind) (ss us : List Scalar) → IsTupleOf ks ss → IsTupleOf ms us → IsTupleOf (ks ++ ms) (ss ++ us)
tuple_append [] ms [] us h g = g
tuple_append [] ms (s ∷ ss) us h g = absurd h
tuple_append (k ∷ ks) ms [] us h g = absurd h
tuple_append (k ∷ ks) ms (s ∷ ss) us h g = (h.0, tuple_append ks ms ss us h.1 g)

row-append : (ss us : List Scalar) → row_of (ss ++ us) ≡ row_of ss ++ row_of us
row-append [] us = refl
row-append (s ∷ ss) us = ap (λ r. field_bytes s ++ r) (row-append ss us) ∙ sym (append_assoc (field_bytes s) (row_of ss) (row_of us))

pub join_rows : (ks ms : List Kind) (r q : Row) → IsRowOf ks r → IsRowOf ms q → IsRowOf (ks ++ ms) (r ++ q)
join_rows ks ms r q h g = record {
  fields = h.fields ++ g.fields;
  fields_are = tuple_append ks ms h.fields g.fields h.fields_are g.fields_are;
  row_is = row-append h.fields g.fields ∙ ap (λ r. r ++ row_of g.fields) h.row_is ∙ ap (λ q. r ++ q) g.row_is;
}

empty_row : IsRowOf [] []
empty_row = record { fields = []; fields_are = tt; row_is = refl }

one_field : (k : Kind) (s : Scalar) → IsOfKind k s → IsRowOf (k ∷ []) (field_bytes s)
one_field k s h = record { fields = s ∷ []; fields_are = (h, tt); row_is = append-nil (field_bytes s) }

-- ---- fields

field_of_tuple : (schema : List Attr) (ss : List Scalar) (i : ℕ) → IsTupleOf (kinds_of schema) ss → i < length schema → IsOfKind (kind_at schema i) (scalar_at ss i)
field_of_tuple [] ss i h lt = absurd (omega (arith, lt))
field_of_tuple (a ∷ attrs) [] i h lt = absurd h
field_of_tuple (a ∷ attrs) (s ∷ ss) zero h lt = h.0
field_of_tuple (a ∷ attrs) (s ∷ ss) (suc i) h lt = field_of_tuple attrs ss i h.1 (omega (arith, lt))

piece_of_tuple : (schema : List Attr) (ss : List Scalar) (i : ℕ) → IsTupleOf (kinds_of schema) ss → i < length schema → piece_at (map field_bytes ss) i ≡ field_bytes (scalar_at ss i)
piece_of_tuple [] ss i h lt = absurd (omega (arith, lt))
piece_of_tuple (a ∷ attrs) [] i h lt = absurd h
piece_of_tuple (a ∷ attrs) (s ∷ ss) zero h lt = refl
piece_of_tuple (a ∷ attrs) (s ∷ ss) (suc i) h lt = piece_of_tuple attrs ss i h.1 (omega (arith, lt))

pub field_has : (schema : List Attr) (r : Row) (i : ℕ) → IsRowOf (kinds_of schema) r → i < length schema → IsOfKind (kind_at schema i) (field_at schema r i)
field_has schema r i h lt =
    subst (λ ss. IsOfKind (kind_at schema i) (scalar_at ss i)) (sym (ap (fields_of schema) (sym h.row_is) ∙ fields_read schema h.fields h.fields_are)) (field_of_tuple schema h.fields i h.fields_are lt)

-- ---- projections

places_row : (schema : List Attr) (ss : List Scalar) (places : List ℕ) → IsTupleOf (kinds_of schema) ss → list_all (is_place schema) places ≡ true →
    IsRowOf (project_kinds schema places) (flat_map (λ i. piece_at (map field_bytes ss) i) places)
places_row schema ss [] h good = empty_row
places_row schema ss (i ∷ places) h good =
    let k = and_parts (is_place schema i) (list_all (is_place schema) places) good in
    let lt : i < length schema = ltb-true i (length schema) k.0 in
    let rest = flat_map (λ i. piece_at (map field_bytes ss) i) places in
    subst (λ p. IsRowOf (project_kinds schema (i ∷ places)) (p ++ rest)) (sym (piece_of_tuple schema ss i h lt))
    (join_rows (kind_at schema i ∷ []) (project_kinds schema places) (field_bytes (scalar_at ss i)) rest (one_field (kind_at schema i) (scalar_at ss i) (field_of_tuple schema ss i h lt)) (places_row schema ss places h k.1))

pub projected_row : (schema : List Attr) (places : List ℕ) (r : Row) → list_all (is_place schema) places ≡ true → IsRowOf (kinds_of schema) r → IsRowOf (project_kinds schema places) (at_places schema places r)
projected_row schema places r good h =
    subst (λ r. IsRowOf (project_kinds schema places) (at_places schema places r)) h.row_is
    (subst (λ ps. IsRowOf (project_kinds schema places) (flat_map (λ i. piece_at ps i) places)) (sym (pieces_row schema h.fields h.fields_are)) (places_row schema h.fields places h.fields_are good))

pub projected_rows : (schema : List Attr) (places : List ℕ) (rows : List Row) → list_all (is_place schema) places ≡ true → AreRowsOf (kinds_of schema) rows → AreRowsOf (project_kinds schema places) (map (at_places schema places) rows)
projected_rows schema places [] good h = tt
projected_rows schema places (r ∷ rows) good h = (projected_row schema places r good h.0, projected_rows schema places rows good h.1)

-- ---- joins

-- each attribute's field is found by its name
abbrev EachNamed : List Attr → List (List ℕ) → List Attr → Type 0
EachNamed right ps [] = Unit {0}
EachNamed right ps (a ∷ attrs) = ((s : Scalar) × IsOfKind a.kind s × (piece_named a.name right ps ≡ field_bytes s)) × EachNamed right ps attrs

named_behind : (b : Attr) (p : List ℕ) (right : List Attr) (ps : List (List ℕ)) (attrs : List Attr) → holds (names_of attrs) b.name ≡ false → EachNamed right ps attrs → EachNamed (b ∷ right) (p ∷ ps) attrs
named_behind b p right ps [] apart h = tt
named_behind b p right ps (a ∷ attrs) apart h =
    let k = or_parts (is_same b.name a.name) (holds (names_of attrs) b.name) apart in
    ((h.0.0, h.0.1, ap (λ c. cond c p (piece_named a.name right ps)) (same_swap a.name b.name ∙ k.0) ∙ h.0.2), named_behind b p right ps attrs k.1 h.1)

all_named : (right : List Attr) (ss : List Scalar) → IsTupleOf (kinds_of right) ss → AreDistinct (names_of right) → EachNamed right (map field_bytes ss) right
all_named [] ss h d = tt
all_named (a ∷ attrs) [] h d = absurd h
all_named (a ∷ attrs) (s ∷ ss) h d =
    ((s, h.0, ap (λ c. cond c (field_bytes s) (piece_named a.name attrs (map field_bytes ss))) (same_itself a.name)), named_behind a (field_bytes s) attrs (map field_bytes ss) attrs d.0 (all_named attrs ss h.1 d.1))

named_filter : (test : Attr → Bool) (right : List Attr) (ps : List (List ℕ)) (attrs : List Attr) → EachNamed right ps attrs → EachNamed right ps (filter test attrs)
named_filter test right ps [] h = tt
named_filter test right ps (a ∷ attrs) h = by (test a) (named_filter test right ps attrs h.1)
  where
    by : (b : Bool) → EachNamed right ps (filter test attrs) → EachNamed right ps (cond b (a ∷ filter test attrs) (filter test attrs))
    by true ih = (h.0, ih)
    by false ih = ih

named_row : (right : List Attr) (ps : List (List ℕ)) (attrs : List Attr) → EachNamed right ps attrs → IsRowOf (kinds_of attrs) (flat_map (λ (a : Attr). piece_named a.name right ps) attrs)
named_row right ps [] h = empty_row
named_row right ps (a ∷ attrs) h =
    let rest = flat_map (λ (a : Attr). piece_named a.name right ps) attrs in
    subst (λ p. IsRowOf (kinds_of (a ∷ attrs)) (p ++ rest)) (sym h.0.2)
    (join_rows (a.kind ∷ []) (kinds_of attrs) (field_bytes h.0.0) rest (one_field a.kind h.0.0 h.0.1) (named_row right ps attrs h.1))

joined_row : (left right : List Attr) (p : Row × Row) → AreDistinct (names_of right) → IsRowOf (kinds_of left) p.0 → IsRowOf (kinds_of right) p.1 → IsRowOf (join_kinds left right) (joined left right p)
joined_row left right p d h g =
    let lack = lacking left right in
    join_rows (kinds_of left) (kinds_of lack) p.0 (flat_map (λ (a : Attr). piece_named a.name right (pieces right p.1)) lack) h
    (subst (λ r. IsRowOf (kinds_of lack) (flat_map (λ (a : Attr). piece_named a.name right (pieces right r)) lack)) g.row_is
    (subst (λ ps. IsRowOf (kinds_of lack) (flat_map (λ (a : Attr). piece_named a.name right ps) lack)) (sym (pieces_row right g.fields g.fields_are))
    (named_row right (map field_bytes g.fields) lack (named_filter _ right (map field_bytes g.fields) right (all_named right g.fields g.fields_are d)))))

abbrev ArePairs : List Kind → List Kind → List (Row × Row) → Type 0
ArePairs ks ms [] = Unit {0}
ArePairs ks ms (p ∷ ps) = (IsRowOf ks p.0 × IsRowOf ms p.1) × ArePairs ks ms ps

pairs_append : (ks ms : List Kind) (ps qs : List (Row × Row)) → ArePairs ks ms ps → ArePairs ks ms qs → ArePairs ks ms (ps ++ qs)
pairs_append ks ms [] qs h g = g
pairs_append ks ms (p ∷ ps) qs h g = (h.0, pairs_append ks ms ps qs h.1 g)

pairs_of : (ks ms : List Kind) (x : Row) (ys : List Row) → IsRowOf ks x → AreRowsOf ms ys → ArePairs ks ms (map (λ y. (x, y)) ys)
pairs_of ks ms x [] h g = tt
pairs_of ks ms x (y ∷ ys) h g = ((h, g.0), pairs_of ks ms x ys h g.1)

all_pairs : (ks ms : List Kind) (xs ys : List Row) → AreRowsOf ks xs → AreRowsOf ms ys → ArePairs ks ms (pairs xs ys)
all_pairs ks ms [] ys h g = tt
all_pairs ks ms (x ∷ xs) ys h g = pairs_append ks ms (map (λ y. (x, y)) ys) (pairs xs ys) (pairs_of ks ms x ys h.0 g) (all_pairs ks ms xs ys h.1 g)

pairs_filter : (ks ms : List Kind) (test : Row × Row → Bool) (ps : List (Row × Row)) → ArePairs ks ms ps → ArePairs ks ms (filter test ps)
pairs_filter ks ms test [] h = tt
pairs_filter ks ms test (p ∷ ps) h = by (test p) (pairs_filter ks ms test ps h.1)
  where
    by : (b : Bool) → ArePairs ks ms (filter test ps) → ArePairs ks ms (cond b (p ∷ filter test ps) (filter test ps))
    by true ih = (h.0, ih)
    by false ih = ih

pairs_joined : (left right : List Attr) (ps : List (Row × Row)) → AreDistinct (names_of right) → ArePairs (kinds_of left) (kinds_of right) ps → AreRowsOf (join_kinds left right) (map (joined left right) ps)
pairs_joined left right [] d h = tt
pairs_joined left right (p ∷ ps) d h = (joined_row left right p d h.0.0 h.0.1, pairs_joined left right ps d h.1)

pub joined_rows : (left right : List Attr) (xs ys : List Row) → AreDistinct (names_of right) → AreRowsOf (kinds_of left) xs → AreRowsOf (kinds_of right) ys →
    AreRowsOf (join_kinds left right) (map (joined left right) (filter (agree left right) (pairs xs ys)))
joined_rows left right xs ys d h g =
    pairs_joined left right (filter (agree left right) (pairs xs ys)) d (pairs_filter (kinds_of left) (kinds_of right) (agree left right) (pairs xs ys) (all_pairs (kinds_of left) (kinds_of right) xs ys h g))

-- ---- groups

abbrev pub AreOfKind : Kind → List Scalar → Type 0
AreOfKind k [] = Unit {0}
AreOfKind k (s ∷ ss) = IsOfKind k s × AreOfKind k ss

column_has : (schema : List Attr) (i : ℕ) (rows : List Row) → i < length schema → AreRowsOf (kinds_of schema) rows → AreOfKind (kind_at schema i) (column schema i rows)
column_has schema i [] lt h = tt
column_has schema i (r ∷ rows) lt h = (field_has schema r i h.0 lt, column_has schema i rows lt h.1)

kind_cond : (k : Kind) (b : Bool) (s t : Scalar) → IsOfKind k s → IsOfKind k t → IsOfKind k (cond b s t)
kind_cond k true s t h g = h
kind_cond k false s t h g = g

least_has : (k : Kind) (s : Scalar) (ss : List Scalar) → IsOfKind k s → AreOfKind k ss → IsOfKind k (least_from s ss)
least_has k s [] h g = h
least_has k s (t ∷ ss) h g = least_has k (cond (scalar_less t s) t s) ss (kind_cond k (scalar_less t s) t s g.0 h) g.1

greatest_has : (k : Kind) (s : Scalar) (ss : List Scalar) → IsOfKind k s → AreOfKind k ss → IsOfKind k (greatest_from s ss)
greatest_has k s [] h g = h
greatest_has k s (t ∷ ss) h g = greatest_has k (cond (scalar_less s t) t s) ss (kind_cond k (scalar_less s t) t s g.0 h) g.1

pub least_of_kind : (k : Kind) (ss : List Scalar) → 0 < length ss → AreOfKind k ss → IsOfKind k (least_scalar ss)
least_of_kind k [] lt h = absurd (omega (arith, lt))
least_of_kind k (s ∷ ss) lt h = least_has k s ss h.0 h.1

pub greatest_of_kind : (k : Kind) (ss : List Scalar) → 0 < length ss → AreOfKind k ss → IsOfKind k (greatest_scalar ss)
greatest_of_kind k [] lt h = absurd (omega (arith, lt))
greatest_of_kind k (s ∷ ss) lt h = greatest_has k s ss h.0 h.1

pub column_kinds : (schema : List Attr) (i : ℕ) (rows : List Row) → is_place schema i ≡ true → AreRowsOf (kinds_of schema) rows → AreOfKind (kind_at schema i) (column schema i rows)
column_kinds schema i rows good h = column_has schema i rows (ltb-true i (length schema) good) h

column_long : (schema : List Attr) (i : ℕ) (rows : List Row) → length (column schema i rows) ≡ length rows
column_long schema i [] = refl
column_long schema i (r ∷ rows) = ap suc (column_long schema i rows)

-- an aggregate of some rows, few enough, whose sums are in range
agg_has : (schema : List Attr) (rows : List Row) (g : Agg) → AreRowsOf (kinds_of schema) rows → 0 < length rows → length rows < 2 ^ 63 → is_good_agg schema g ≡ true → is_agg_in_range schema rows g ≡ true → IsOfKind (agg_kind schema g) (agg_of schema rows g)
agg_has schema rows count_agg h some_there few good ok = (refl, fits_pos (length rows) few)
agg_has schema rows (sum_agg i) h some_there few good ok = (refl, ok)
agg_has schema rows (min_agg i) h some_there few good ok = least_of_kind (kind_at schema i) (column schema i rows) (omega (arith, some_there, column_long schema i rows)) (column_kinds schema i rows good h)
agg_has schema rows (max_agg i) h some_there few good ok = greatest_of_kind (kind_at schema i) (column schema i rows) (omega (arith, some_there, column_long schema i rows)) (column_kinds schema i rows good h)

aggs_row : (schema : List Attr) (rows : List Row) (aggs : List Agg) → AreRowsOf (kinds_of schema) rows → 0 < length rows → length rows < 2 ^ 63 → list_all (is_good_agg schema) aggs ≡ true → list_all (is_agg_in_range schema rows) aggs ≡ true →
    IsRowOf (map (agg_kind schema) aggs) (flat_map (λ g. field_bytes (agg_of schema rows g)) aggs)
aggs_row schema rows [] h some_there few good ok = empty_row
aggs_row schema rows (g ∷ aggs) h some_there few good ok =
    let k = and_parts (is_good_agg schema g) (list_all (is_good_agg schema) aggs) good in
    let q = and_parts (is_agg_in_range schema rows g) (list_all (is_agg_in_range schema rows) aggs) ok in
    join_rows (agg_kind schema g ∷ []) (map (agg_kind schema) aggs) (field_bytes (agg_of schema rows g)) (flat_map (λ g. field_bytes (agg_of schema rows g)) aggs)
    (one_field (agg_kind schema g) (agg_of schema rows g) (agg_has schema rows g h some_there few k.0 q.0)) (aggs_row schema rows aggs h some_there few k.1 q.1)

filter_rows : (ks : List Kind) (test : Row → Bool) (rows : List Row) → AreRowsOf ks rows → AreRowsOf ks (filter test rows)
filter_rows ks test [] h = tt
filter_rows ks test (r ∷ rows) h = by (test r) (filter_rows ks test rows h.1)
  where
    by : (b : Bool) → AreRowsOf ks (filter test rows) → AreRowsOf ks (cond b (r ∷ filter test rows) (filter test rows))
    by true ih = (h.0, ih)
    by false ih = ih

filter_few : (test : Row → Bool) (rows : List Row) → length (filter test rows) ≤ length rows
filter_few test [] = omega arith
filter_few test (r ∷ rows) = by (test r) (filter_few test rows)
  where
    by : (b : Bool) → length (filter test rows) ≤ length rows → length (cond b (r ∷ filter test rows) (filter test rows)) ≤ suc (length rows)
    by true ih = omega (arith, ih)
    by false ih = omega (arith, ih)

-- each key has a row
abbrev EachSome : (Row → List Row) → List Row → Type 0
EachSome f [] = Unit {0}
EachSome f (x ∷ xs) = (0 < length (f x)) × EachSome f xs

some_put : (f : Row → List Row) (x : Row) (xs : List Row) → 0 < length (f x) → EachSome f xs → EachSome f (put x xs)
some_put f x [] h hs = (h, tt)
some_put f x (y ∷ ys) h hs = by (is_below x y) (is_below y x) (some_put f x ys h hs.1)
  where
    inner : (c : Bool) → EachSome f (put x ys) → EachSome f (cond c (put x ys) ys)
    inner true ih = ih
    inner false ih = hs.1

    by : (b c : Bool) → EachSome f (put x ys) → EachSome f (cond b (x ∷ y ∷ ys) (y ∷ cond c (put x ys) ys))
    by true c ih = (h, hs)
    by false c ih = (hs.0, inner c ih)

some_normal : (f : Row → List Row) (xs : List Row) → EachSome f xs → EachSome f (normal xs)
some_normal f [] h = tt
some_normal f (x ∷ xs) h = some_put f x (normal xs) h.0 (some_normal f xs h.1)

filter_here : (test : Row → Bool) (r : Row) (rows : List Row) → test r ≡ true → 0 < length (filter test (r ∷ rows))
filter_here test r rows e = subst (λ b. 0 < length (cond b (r ∷ filter test rows) (filter test rows))) (sym e) (let lt : 0 < length (r ∷ filter test rows) = omega arith in lt)

filter_later : (test : Row → Bool) (r : Row) (rows : List Row) → 0 < length (filter test rows) → 0 < length (filter test (r ∷ rows))
filter_later test r rows h = by (test r)
  where
    by : (b : Bool) → 0 < length (cond b (r ∷ filter test rows) (filter test rows))
    by true = omega arith
    by false = h

keys_some : (schema : List Attr) (by : List ℕ) (rows part : List Row) → ((test : Row → Bool) → 0 < length (filter test part) → 0 < length (filter test rows)) → EachSome (λ key. rows_of_key schema by key rows) (map (at_places schema by) part)
keys_some schema by rows [] f = tt
keys_some schema by rows (r ∷ part) f = (
  f (λ x. is_same (at_places schema by x) (at_places schema by r)) (filter_here (λ x. is_same (at_places schema by x) (at_places schema by r)) r part (same_itself (at_places schema by r))),
  keys_some schema by rows part (λ test h. f test (filter_later test r part h)),
)

groups_of : (schema : List Attr) (by : List ℕ) (aggs : List Agg) (rows keys : List Row) → AreRowsOf (kinds_of schema) rows → length rows < 2 ^ 63 → list_all (is_good_agg schema) aggs ≡ true →
    AreRowsOf (project_kinds schema by) keys → EachSome (λ key. rows_of_key schema by key rows) keys → list_all (λ key. list_all (is_agg_in_range schema (rows_of_key schema by key rows)) aggs) keys ≡ true →
    AreRowsOf (group_kinds schema by aggs) (map (group_row schema by aggs rows) keys)
groups_of schema by aggs rows [] h few good are some_there ok = tt
groups_of schema by aggs rows (key ∷ keys) h few good are some_there ok =
    let part = rows_of_key schema by key rows in
    let q = and_parts (list_all (is_agg_in_range schema part) aggs) (list_all (λ key. list_all (is_agg_in_range schema (rows_of_key schema by key rows)) aggs) keys) ok in (
      join_rows (project_kinds schema by) (map (agg_kind schema) aggs) key (flat_map (λ g. field_bytes (agg_of schema part g)) aggs) are.0
          (aggs_row schema part aggs (filter_rows (kinds_of schema) (λ x. is_same (at_places schema by x) key) rows h) some_there.0
          (omega (arith, few, filter_few (λ x. is_same (at_places schema by x) key) rows)) good q.0),
      groups_of schema by aggs rows keys h few good are.1 some_there.1 q.1,
    )

pub group_rows : (schema : List Attr) (by : List ℕ) (aggs : List Agg) (rows : List Row) → AreRowsOf (kinds_of schema) rows → is_few rows ≡ true → list_all (is_place schema) by ≡ true → list_all (is_good_agg schema) aggs ≡ true →
    are_sums_in_range schema by aggs rows ≡ true → AreRowsOf (project_kinds schema by) (project_of schema by rows) → AreRowsOf (group_kinds schema by aggs) (map (group_row schema by aggs rows) (project_of schema by rows))
group_rows schema by aggs rows h few good_by good ok are =
    groups_of schema by aggs rows (project_of schema by rows) h (ltb-true (length rows) (2 ^ 63) few) good are
    (some_normal (λ key. rows_of_key schema by key rows) (map (at_places schema by) rows) (keys_some schema by rows rows (λ test h. h))) ok
