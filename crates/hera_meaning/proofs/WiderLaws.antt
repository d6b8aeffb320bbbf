-- Widened rows are rows of the wider schema, in the same order, and a widened state is one of the wider catalogue.
use Rattle.std.proofs.Common.{◌≡◌, ℕ, Bool, true, false, cond, not, ◌&&◌, ◌||◌, List, [], ◌∷◌, ◌++◌, Some, None, map, refl, sym, ap, ◌∙◌, append_assoc}
use Rattle.std.specs.Prelude.{All}
use Rattle.std.proofs.lemmas.List.Elements.{All-nil, All-cons, All-head, All-tail}
use Rattle.std.proofs.lemmas.Bool.{and_parts, and_from, or_parts, false≢true}
use Rattle.std.specs.Str.{is_utf8, chars}
use Rattle.hera_sets.specs.Rows.{Row, is_below, is_same, IsBelowAll, IsAscending, holds}
use Rattle.hera_sets.proofs.Order.{same_true, same_itself}
use Rattle.hera_meaning.specs.declared.scalars.Kind.{Kind}
use Rattle.hera_meaning.specs.declared.scalars.Kind.TheVariants.{Int as int_kind, Bool as bool_kind, Text as text_kind}
use Rattle.hera_meaning.specs.declared.scalars.Scalar.{Scalar}
use Rattle.hera_meaning.specs.declared.schemas.Attr.{Attr}
use Rattle.hera_meaning.specs.Scalars.{is_same_kind, kind_of, is_kind, is_scalar, scalar_less, tuple_less, is_tuple}
use Rattle.hera_meaning.specs.Rows.{IsRow, row_of, field_bytes}
use Rattle.hera_meaning.specs.Wider.{same_attr, is_prefix, blank, blanks, added, widened_row, schema_named, begins_some, keeps, Wider, first_narrowed, widened_rows, widen_of}
use Rattle.hera_meaning.specs.declared.schemas.RelDecl.{RelDecl}
use Rattle.hera_meaning.specs.Schemas.{AreDistinct}
use Rattle.hera_meaning.specs.Catalogues.{decl_name}
use Rattle.hera_meaning.specs.Deltas.{State, IsState}
use Rattle.hera_meaning.proofs.Names.{same_swap}
use Rattle.hera_meaning.proofs.RowOrder.{row_order, headed}

-- ---- prefixes

same_kind_is : (k l : Kind) → is_same_kind k l ≡ true → k ≡ l
same_kind_is int_kind int_kind h = refl
same_kind_is bool_kind bool_kind h = refl
same_kind_is text_kind text_kind h = refl
same_kind_is int_kind bool_kind h = absurd (false≢true h)
same_kind_is int_kind text_kind h = absurd (false≢true h)
same_kind_is bool_kind int_kind h = absurd (false≢true h)
same_kind_is bool_kind text_kind h = absurd (false≢true h)
same_kind_is text_kind int_kind h = absurd (false≢true h)
same_kind_is text_kind bool_kind h = absurd (false≢true h)

kind_itself : (k : Kind) → is_same_kind k k ≡ true
kind_itself int_kind = refl
kind_itself bool_kind = refl
kind_itself text_kind = refl

same_attr_is : (a b : Attr) → same_attr a b ≡ true → a ≡ b
same_attr_is a b h =
    let p = and_parts (is_same a.name b.name) (is_same_kind a.kind b.kind) h in
    let name : a.name ≡ b.name = same_true a.name b.name p.0 in
    let kind : a.kind ≡ b.kind = same_kind_is a.kind b.kind p.1 in
    λ i. record { name = name i; kind = kind i }

pub prefix_more : (old new : List Attr) → is_prefix old new ≡ true → (rest : List Attr) × (new ≡ old ++ rest)
prefix_more [] new h = (new, refl)
prefix_more (a ∷ old) [] h = absurd (false≢true h)
prefix_more (a ∷ old) (b ∷ new) h =
    let p = and_parts (same_attr a b) (is_prefix old new) h in
    let same : b ≡ a = sym (same_attr_is a b p.0) in
    let more = prefix_more old new p.1 in
    let rest : new ≡ old ++ more.0 = more.1 in
    (more.0, λ i. same i ∷ rest i)

pub is_prefix-append : (old rest : List Attr) → is_prefix old (old ++ rest) ≡ true
is_prefix-append [] rest = refl
is_prefix-append (a ∷ old) rest = and_from _ _ (and_from _ _ (same_itself a.name) (kind_itself a.kind)) (is_prefix-append old rest)

-- ---- rows

kept : (k m l : Kind) → is_same_kind k m ≡ true → is_same_kind k l ≡ true → is_same_kind m l ≡ true
kept int_kind int_kind l p h = h
kept bool_kind bool_kind l p h = h
kept text_kind text_kind l p h = h
kept int_kind bool_kind l p h = absurd (false≢true p)
kept int_kind text_kind l p h = absurd (false≢true p)
kept bool_kind int_kind l p h = absurd (false≢true p)
kept bool_kind text_kind l p h = absurd (false≢true p)
kept text_kind int_kind l p h = absurd (false≢true p)
kept text_kind bool_kind l p h = absurd (false≢true p)

blank_is : (k : Kind) → (is_kind k (blank k) ≡ true) × (is_scalar (blank k) ≡ true) × (scalar_less (blank k) (blank k) ≡ false)
unfolding is_utf8 chars is_below
blank_is int_kind = (refl, refl, refl)
blank_is bool_kind = (refl, refl, refl)
blank_is text_kind = (refl, refl, refl)

blanks_are : (attrs : List Attr) → is_tuple attrs (blanks attrs) ≡ true
blanks_are [] = refl
blanks_are (a ∷ attrs) = and_from _ _ (and_from _ _ (blank_is a.kind).0 (blank_is a.kind).1) (blanks_are attrs)

pub wide_tuple : (old new : List Attr) (t : List Scalar) → is_prefix old new ≡ true → is_tuple old t ≡ true → is_tuple new (t ++ added old new) ≡ true
wide_tuple [] new [] p h = blanks_are new
wide_tuple [] new (s ∷ t) p h = absurd (false≢true h)
wide_tuple (a ∷ old) [] t p h = absurd (false≢true p)
wide_tuple (a ∷ old) (b ∷ new) [] p h = absurd (false≢true h)
wide_tuple (a ∷ old) (b ∷ new) (s ∷ t) p h =
    let q = and_parts (same_attr a b) (is_prefix old new) p in
    let k = and_parts (is_same a.name b.name) (is_same_kind a.kind b.kind) q.0 in
    let f = headed a old s t h in
    and_from _ _ (and_from _ _ (kept a.kind b.kind (kind_of s) k.1 f.kind) f.valid) (wide_tuple old new t q.1 f.tail)

pub row_of-append : (t u : List Scalar) → row_of (t ++ u) ≡ row_of t ++ row_of u
row_of-append [] u = refl
row_of-append (s ∷ t) u = ap (λ bytes. field_bytes s ++ bytes) (row_of-append t u) ∙ sym (append_assoc (field_bytes s) (row_of t) (row_of u))

pub wide_row : (old new : List Attr) (row : Row) → is_prefix old new ≡ true → IsRow old row → IsRow new (widened_row old new row)
wide_row old new row p h = (h.0 ++ added old new, wide_tuple old new h.0 p h.1, row_of-append h.0 (added old new) ∙ ap (λ bytes. bytes ++ row_of (added old new)) h.2)

level : (attrs : List Attr) → tuple_less attrs (blanks attrs) (blanks attrs) ≡ false
level [] = refl
level (a ∷ attrs) = rw ((blank_is a.kind).2) (level attrs)

same_order : (old new : List Attr) (t u : List Scalar) → is_prefix old new ≡ true → is_tuple old t ≡ true → is_tuple old u ≡ true → tuple_less new (t ++ added old new) (u ++ added old new) ≡ tuple_less old t u
same_order [] new [] [] p h g = level new
same_order [] new (s ∷ t) u p h g = absurd (false≢true h)
same_order [] new [] (s ∷ u) p h g = absurd (false≢true g)
same_order (a ∷ old) [] t u p h g = absurd (false≢true p)
same_order (a ∷ old) (b ∷ new) [] u p h g = absurd (false≢true h)
same_order (a ∷ old) (b ∷ new) (s ∷ t) [] p h g = absurd (false≢true g)
same_order (a ∷ old) (b ∷ new) (s ∷ t) (r ∷ u) p h g =
    let q = and_parts (same_attr a b) (is_prefix old new) p in
    ap (λ (v : Bool). scalar_less s r || (not (scalar_less r s) && v)) (same_order old new t u q.1 (headed a old s t h).tail (headed a old r u g).tail)

-- widening keeps the order of rows
pub wide_order : (old new : List Attr) (t u : List Scalar) → is_prefix old new ≡ true → is_tuple old t ≡ true → is_tuple old u ≡ true → is_below (widened_row old new (row_of t)) (widened_row old new (row_of u)) ≡ is_below (row_of t) (row_of u)
wide_order old new t u p h g =
    sym (λ i. is_below (row_of-append t (added old new) i) (row_of-append u (added old new) i))
    ∙ row_order new (t ++ added old new) (u ++ added old new) (wide_tuple old new t p h) (wide_tuple old new u p g)
    ∙ same_order old new t u p h g
    ∙ sym (row_order old t u h g)

-- ---- states

pub wide_below : (old new : List Attr) (r q : Row) → is_prefix old new ≡ true → IsRow old r → IsRow old q → is_below (widened_row old new r) (widened_row old new q) ≡ is_below r q
wide_below old new r q p h g =
    (λ i. is_below (widened_row old new (sym h.2 i)) (widened_row old new (sym g.2 i)))
    ∙ wide_order old new h.0 g.0 p h.1 g.1
    ∙ (λ i. is_below (h.2 i) (g.2 i))

wide_all : (old new : List Attr) (rows : List Row) → is_prefix old new ≡ true → All (IsRow old) rows → All (IsRow new) (map (widened_row old new) rows)
wide_all old new [] p all = All-nil (IsRow new)
wide_all old new (r ∷ rows) p all =
    All-cons (IsRow new) (widened_row old new r) (map (widened_row old new) rows) (wide_row old new r p (All-head (IsRow old) r rows all)) (wide_all old new rows p (All-tail (IsRow old) r rows all))

wide_above : (old new : List Attr) (r : Row) (rows : List Row) → is_prefix old new ≡ true → IsRow old r → All (IsRow old) rows → IsBelowAll r rows → IsBelowAll (widened_row old new r) (map (widened_row old new) rows)
wide_above old new r [] p h all below = tt
wide_above old new r (q ∷ rows) p h all below =
    (wide_below old new r q p h (All-head (IsRow old) q rows all) ∙ below.0, wide_above old new r rows p h (All-tail (IsRow old) q rows all) below.1)

-- widened rows ascend as they did
pub wide_ascending : (old new : List Attr) (rows : List Row) → is_prefix old new ≡ true → All (IsRow old) rows → IsAscending rows → IsAscending (map (widened_row old new) rows)
wide_ascending old new [] p all up = tt
wide_ascending old new (r ∷ rows) p all up =
    let more : All (IsRow old) rows = All-tail (IsRow old) r rows all in
    (wide_above old new r rows p (All-head (IsRow old) r rows all) more up.0, wide_ascending old new rows p more up.1)

abbrev Named : List RelDecl → RelDecl → Type 0
Named rels d = schema_named d.name rels ≡ Some d.schema

named_behind : (d : RelDecl) (rels part : List RelDecl) → holds (map decl_name part) d.name ≡ false → All (Named rels) part → All (Named (d ∷ rels)) part
named_behind d rels [] new all = All-nil (Named (d ∷ rels))
named_behind d rels (e ∷ part) new all =
    let parts = or_parts (is_same d.name e.name) (holds (map decl_name part) d.name) new in
    let other : is_same e.name d.name ≡ false = same_swap e.name d.name ∙ parts.0 in
    let found : schema_named e.name rels ≡ Some e.schema = All-head (Named rels) e part all in
    All-cons (Named (d ∷ rels)) e part (ap (λ b. cond b (Some d.schema) (schema_named e.name rels)) other ∙ found) (named_behind d rels part parts.1 (All-tail (Named rels) e part all))

-- a relation of a catalogue has its own schema under its name
named_all : (rels : List RelDecl) → AreDistinct (map decl_name rels) → All (Named rels) rels
named_all [] distinct = All-nil (Named [])
named_all (d ∷ rels) distinct =
    All-cons (Named (d ∷ rels)) d rels (ap (λ b. cond b (Some d.schema) (schema_named d.name rels)) (same_itself d.name)) (named_behind d rels rels distinct.0 (named_all rels distinct.1))

module _ (new : List RelDecl) where
  -- the rows under the name of a relation of the new catalogue are rows of its schema
  wide_rows : (name : List ℕ) (schema : List Attr) (old : List RelDecl) (s : State) → schema_named name new ≡ Some schema → Wider old new → IsState old s → IsAscending (widened_rows name schema old s) × All (IsRow schema) (widened_rows name schema old s)
  wide_rows name schema [] [] named wider valid = (tt, All-nil (IsRow schema))
  wide_rows name schema [] (rows ∷ s) named wider valid = absurd valid
  wide_rows name schema (d ∷ old) [] named wider valid = absurd valid
  wide_rows name schema (d ∷ old) (rows ∷ s) named wider valid =
      by (is_same name d.name) refl (wide_rows name schema old s named (All-tail (λ d. keeps new d ≡ true) d old wider) valid.1)
    where
      by : (b : Bool) → is_same name d.name ≡ b → IsAscending (widened_rows name schema old s) × All (IsRow schema) (widened_rows name schema old s)
          → IsAscending (cond b (map (widened_row d.schema schema) rows) (widened_rows name schema old s)) × All (IsRow schema) (cond b (map (widened_row d.schema schema) rows) (widened_rows name schema old s))
      by true e more =
          let found : schema_named d.name new ≡ Some schema = ap (λ n. schema_named n new) (sym (same_true name d.name e)) ∙ named in
          let prefix : is_prefix d.schema schema ≡ true = sym (ap (begins_some d.schema) found) ∙ All-head (λ d. keeps new d ≡ true) d old wider in
          (wide_ascending d.schema schema rows prefix valid.0.1 valid.0.0, wide_all d.schema schema rows prefix valid.0.1)
      by false e more = more

  wide_part : (part old : List RelDecl) (s : State) → All (Named new) part → Wider old new → IsState old s → IsState part (widen_of old s part)
  wide_part [] old s named wider valid = tt
  wide_part (d ∷ part) old s named wider valid =
      (wide_rows d.name d.schema old s (All-head (Named new) d part named) wider valid, wide_part part old s (All-tail (Named new) d part named) wider valid)

-- the widened state is one of the new catalogue
pub wide_state : (old new : List RelDecl) (s : State) → AreDistinct (map decl_name new) → Wider old new → IsState old s → IsState new (widen_of old s new)
wide_state old new s distinct wider valid = wide_part new new old s (named_all new distinct) wider valid

-- the catalogue is wider exactly where no relation is narrowed
pub none_narrowed : (old new : List RelDecl) → first_narrowed old new ≡ None → Wider old new
none_narrowed [] new e = All-nil (λ d. keeps new d ≡ true)
none_narrowed (d ∷ old) new e = by (keeps new d) refl e (none_narrowed old new)
  where
    by : (b : Bool) → keeps new d ≡ b → cond b (first_narrowed old new) (Some d.name) ≡ None → (first_narrowed old new ≡ None → Wider old new) → Wider (d ∷ old) new
    by true k e more = All-cons (λ d. keeps new d ≡ true) d old k (more e)
    by false k e more = cc

pub wider_narrows_none : (old new : List RelDecl) → Wider old new → first_narrowed old new ≡ None
wider_narrows_none [] new wider = refl
wider_narrows_none (d ∷ old) new wider =
    ap (λ b. cond b (first_narrowed old new) (Some d.name)) (All-head (λ d. keeps new d ≡ true) d old wider) ∙ wider_narrows_none old new (All-tail (λ d. keeps new d ≡ true) d old wider)
