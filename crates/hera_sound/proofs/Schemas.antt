-- The schemas that the rows of typing make are schemas, and their places are in range.
use Rattle.std.proofs.Common.{◌≡◌, ℕ, zero, suc, ◌<◌, ◌≤◌, ◌+◌, List, [], ◌∷◌, ◌++◌, length, refl, sym, ap, ◌∙◌, subst, arith, Bool, true, false, length-append, append-nil, append_assoc}
use Rattle.std.specs.Prelude.{Ok, Err, Option, Some, None, ◌&&◌, ◌||◌, not, cond, is_some, map, filter, nat_lt}
use Rattle.std.specs.List.{list_all}
use Rattle.std.proofs.lemmas.Bool.{lt-ltb, ltb-true, ltb-false}
use Rattle.hera_sets.specs.Rows.{Row, is_same, holds}
use Rattle.hera_sets.proofs.Order.{same_true}
use Rattle.hera_sets.proofs.Members.{holds-filter}
use Rattle.hera_meaning.specs.declared.scalars.Kind.TheVariants.{Int as int_kind}
use Rattle.hera_meaning.specs.declared.schemas.Attr.{Attr}
use Rattle.hera_meaning.specs.Schemas.{AreDistinct, IsSchema, names_of, place_named}
use Rattle.hera_meaning.specs.Scalars.{is_same_kind}
use Rattle.hera_meaning.specs.Relations.{has_name, lacking}
use Rattle.hera_meaning.specs.Fits.{is_place, is_int_at, is_good_agg}
use Rattle.hera_meaning.specs.Forms.{kinds_of, kind_at, agg_kind, project_kinds, group_kinds, IsWidth}
use Rattle.hera_meaning.proofs.Names.{some-place_named, distinct_push}
use Rattle.hera_rules.specs.declared.words.Word.{Word}
use Rattle.hera_rules.specs.declared.words.Fold.TheVariants.{Sum as sum_of, Least, Greatest}
use Rattle.hera_rules.specs.declared.words.Field.{Field}
use Rattle.hera_rules.specs.declared.words.Renamed.{Renamed}
use Rattle.hera_rules.specs.declared.words.Measured.{Measured}
use Rattle.hera_rules.specs.declared.words.Measured.TheVariants.{Count as counted, Of as folded}
use Rattle.hera_rules.specs.declared.words.Aggregate.{Aggregate}
use Rattle.hera_rules.specs.declared.fault.TypeFault.{TypeFault}
use Rattle.hera_rules.specs.declared.fault.TypeFault.TheVariants.{Unknown as unknown, Repeated as repeated, TooMany as too_many}
use Rattle.hera_rules.specs.Commands.{field_row, fields_row}
use Rattle.hera_rules.specs.Rules.{Typing, repeat_in, word_names, attrs_of, stranger_in, place_or, place_in, places_in, attrs_in, kept_names, old_names, rename_repeat, new_name, renamed_attr, agg_words, measured_word, measured_words, agg_in, aggs_in, sums_int, agg_attr, group_attrs, result_fault, either}
use Rattle.hera_sound.proofs.Tests.{and_true, both_true, some_is, either_none, then_ok, cond_second, cond_first, found_within}
use Rattle.hera_sound.proofs.Names.{distinct_append, distinct_filter, few_in, repeat_none, new_names, rename_none, distinct_renamed}

-- ---- places of names

place_below : (name : Row) (s : List Attr) → is_some (place_named name s) ≡ true → place_in s name < length s
place_below name s e =
    let h = some_is (place_named name s) e in
    let k = found_within (λ (a : Attr). is_same name a.name) s h.0 h.1 in
    subst (λ (o : Option ℕ). place_or o < length s) (sym h.1) k

pub is_place-below : (s : List Attr) (i : ℕ) → i < length s → is_place s i ≡ true
is_place-below s i h = lt-ltb i (length s) h

-- the words are attributes
abbrev pub AreIn : List Attr → List Word → Type 0
AreIn s [] = Unit {0}
AreIn s (w ∷ ws) = (is_some (place_named w.name s) ≡ true) × AreIn s ws

pub stranger_none : (s : List Attr) (ws : List Word) → stranger_in s ws ≡ None → AreIn s ws
stranger_none s [] e = tt
stranger_none s (w ∷ ws) e = by (is_some (place_named w.name s)) refl e (λ h. stranger_none s ws h)
  where
    by : (b : Bool) → is_some (place_named w.name s) ≡ b → cond b (stranger_in s ws) (Some (unknown w.at)) ≡ None → (stranger_in s ws ≡ None → AreIn s ws) → AreIn s (w ∷ ws)
    by true h e ih = (h, ih e)
    by false h e ih = absurd cc

pub places_good : (s : List Attr) (ws : List Word) → AreIn s ws → list_all (is_place s) (places_in s ws) ≡ true
places_good s [] h = refl
places_good s (w ∷ ws) h = both_true (is_place s (place_in s w.name)) (list_all (is_place s) (places_in s ws)) (is_place-below s (place_in s w.name) (place_below w.name s h.0)) (places_good s ws h.1)

in_names : (s : List Attr) (ws : List Word) → AreIn s ws → (z : Row) → holds (word_names ws) z ≡ true → holds (names_of s) z ≡ true
in_names s [] h z e = absurd cc
in_names s (w ∷ ws) h z e = by (is_same z w.name) refl e (λ k. in_names s ws h.1 z k)
  where
    by : (b : Bool) → is_same z w.name ≡ b → (b || holds (word_names ws) z) ≡ true → (holds (word_names ws) z ≡ true → holds (names_of s) z ≡ true) → holds (names_of s) z ≡ true
    by true k e ih = ap (λ x. holds (names_of s) x) (same_true z w.name k) ∙ (sym (some-place_named w.name s) ∙ h.0)
    by false k e ih = ih e

length-names : (s : List Attr) → length (names_of s) ≡ length s
length-names [] = refl
length-names (a ∷ s) = ap (λ n. suc n) (length-names s)

length-words : (ws : List Word) → length (word_names ws) ≡ length ws
length-words [] = refl
length-words (w ∷ ws) = ap (λ n. suc n) (length-words ws)

-- ---- project

names_of-attrs_in : (s : List Attr) (ws : List Word) → names_of (attrs_in s ws) ≡ word_names ws
names_of-attrs_in s [] = refl
names_of-attrs_in s (w ∷ ws) = ap (λ xs. w.name ∷ xs) (names_of-attrs_in s ws)

length-attrs_in : (s : List Attr) (ws : List Word) → length (attrs_in s ws) ≡ length ws
length-attrs_in s [] = refl
length-attrs_in s (w ∷ ws) = ap (λ n. suc n) (length-attrs_in s ws)

pub kinds_of-attrs_in : (s : List Attr) (ws : List Word) → kinds_of (attrs_in s ws) ≡ project_kinds s (places_in s ws)
kinds_of-attrs_in s [] = refl
kinds_of-attrs_in s (w ∷ ws) = ap (λ ks. kind_at s (place_in s w.name) ∷ ks) (kinds_of-attrs_in s ws)

pub length-kinds : (s : List Attr) → length (kinds_of s) ≡ length s
length-kinds [] = refl
length-kinds (a ∷ s) = ap (λ n. suc n) (length-kinds s)

pub width_schema : (s : List Attr) → IsSchema s → IsWidth (kinds_of s)
width_schema s h = let some = h.some in let few = h.few in let n = length-kinds s in (omega (arith, some, n), omega (arith, few, n))

pub project_schema : (s : List Attr) (ws : List Word) → IsSchema s → 1 ≤ length ws → AreIn s ws → repeat_in [] ws ≡ None → IsSchema (attrs_in s ws)
project_schema s ws h n i r =
    let d : AreDistinct (word_names ws) = repeat_none [] ws tt r in
    let few = few_in (word_names ws) (names_of s) d (in_names s ws i) in
    let a = length-attrs_in s ws in
    let b = length-words ws in
    let c = length-names s in
    let f = h.few in
    record { some = omega (arith, a, n); few = omega (arith, a, b, c, few, f); distinct = subst (λ (xs : List Row). AreDistinct xs) (sym (names_of-attrs_in s ws)) d }

-- ---- rename

names_of-renamed : (rs : List Renamed) (s : List Attr) → names_of (map (renamed_attr rs) s) ≡ map (new_name rs) (names_of s)
names_of-renamed rs [] = refl
names_of-renamed rs (a ∷ s) = ap (λ xs. new_name rs a.name ∷ xs) (names_of-renamed rs s)

pub kinds_of-renamed : (rs : List Renamed) (s : List Attr) → kinds_of (map (renamed_attr rs) s) ≡ kinds_of s
kinds_of-renamed rs [] = refl
kinds_of-renamed rs (a ∷ s) = ap (λ ks. a.kind ∷ ks) (kinds_of-renamed rs s)

length-renamed : (rs : List Renamed) (s : List Attr) → length (map (renamed_attr rs) s) ≡ length s
length-renamed rs [] = refl
length-renamed rs (a ∷ s) = ap (λ n. suc n) (length-renamed rs s)

pub rename_schema : (s : List Attr) (rs : List Renamed) → IsSchema s → rename_repeat (kept_names s (old_names rs)) [] rs ≡ None → IsSchema (map (renamed_attr rs) s)
rename_schema s rs h e =
    let kept : List Row = kept_names s (old_names rs) in
    let d : AreDistinct (kept ++ new_names rs) = rename_none kept [] rs (distinct_filter (λ name. not (holds (old_names rs) name)) (names_of s) h.distinct) e in
    let n = length-renamed rs s in
    let some = h.some in
    let few = h.few in
    record {
      some = omega (arith, n, some);
      few = omega (arith, n, few);
      distinct = subst (λ (xs : List Row). AreDistinct xs) (sym (names_of-renamed rs s)) (distinct_renamed kept rs (names_of s) d
          (λ z k o. holds-filter (λ name. not (holds (old_names rs) name)) (names_of s) z ∙ both_true (not (holds (old_names rs) z)) (holds (names_of s) z) (ap not o) k) h.distinct);
    }

-- ---- group

names_of-group : (s : List Attr) (by : List Word) (aggs : List Aggregate) → names_of (group_attrs s by aggs) ≡ word_names by ++ word_names (agg_words aggs)
names_of-group s [] aggs = aggs_names aggs
  where
    aggs_names : (aggs : List Aggregate) → names_of (map (agg_attr s) aggs) ≡ word_names (agg_words aggs)
    aggs_names [] = refl
    aggs_names (a ∷ aggs) = ap (λ xs. a.name.name ∷ xs) (aggs_names aggs)
names_of-group s (w ∷ by) aggs = ap (λ xs. w.name ∷ xs) (names_of-group s by aggs)

length-group : (s : List Attr) (by : List Word) (aggs : List Aggregate) → length (group_attrs s by aggs) ≡ length by + length aggs
length-group s [] aggs = aggs_length aggs
  where
    aggs_length : (aggs : List Aggregate) → length (map (agg_attr s) aggs) ≡ 0 + length aggs
    aggs_length [] = refl
    aggs_length (a ∷ aggs) = let h = aggs_length aggs in omega (arith, h)
length-group s (w ∷ by) aggs = let h = length-group s by aggs in omega (arith, h)

pub kinds_of-group : (s : List Attr) (by : List Word) (aggs : List Aggregate) → kinds_of (group_attrs s by aggs) ≡ group_kinds s (places_in s by) (aggs_in s aggs)
kinds_of-group s [] aggs = aggs_kinds aggs
  where
    aggs_kinds : (aggs : List Aggregate) → kinds_of (map (agg_attr s) aggs) ≡ map (agg_kind s) (aggs_in s aggs)
    aggs_kinds [] = refl
    aggs_kinds (a ∷ aggs) = ap (λ ks. agg_kind s (agg_in s a.of) ∷ ks) (aggs_kinds aggs)
kinds_of-group s (w ∷ by) aggs = ap (λ ks. kind_at s (place_in s w.name) ∷ ks) (kinds_of-group s by aggs)

cond_none : (b : Bool) (f : TypeFault) → cond b (Some f) None ≡ None → b ≡ false
cond_none true f e = absurd cc
cond_none false f e = refl

pub not_above : (m n : ℕ) → nat_lt m n ≡ false → n ≤ m
not_above m n e = ltb-false m n e

pub group_schema : (at : ℕ) (s : List Attr) (by : List Word) (aggs : List Aggregate) → 1 ≤ length by → result_fault at by aggs ≡ None → IsSchema (group_attrs s by aggs)
group_schema at s by aggs n e =
    let a = either_none (repeat_in [] by) (either (repeat_in (word_names by) (agg_words aggs)) (cond (nat_lt 16 (length by + length aggs)) (Some (too_many at)) None)) e in
    let b = either_none (repeat_in (word_names by) (agg_words aggs)) (cond (nat_lt 16 (length by + length aggs)) (Some (too_many at)) None) a.1 in
    let d : AreDistinct (word_names by ++ word_names (agg_words aggs)) = repeat_none (word_names by) (agg_words aggs) (repeat_none [] by tt a.0) b.0 in
    let few = not_above 16 (length by + length aggs) (cond_none (nat_lt 16 (length by + length aggs)) (too_many at) b.1) in
    let l = length-group s by aggs in
    record { some = omega (arith, l, n); few = omega (arith, l, few); distinct = subst (λ (xs : List Row). AreDistinct xs) (sym (names_of-group s by aggs)) d }

int_place : (s : List Attr) (i : ℕ) → i < length s → is_same_kind (kind_at s i) int_kind ≡ true → is_int_at s i ≡ true
int_place [] i h e = absurd (omega arith)
int_place (a ∷ s) zero h e = e
int_place (a ∷ s) (suc i) h e = int_place s i (omega arith) e

pub int_at : (s : List Attr) (i : ℕ) → i < length s → is_same_kind (kind_at s i) int_kind ≡ true → is_int_at s i ≡ true
int_at = int_place

good_agg : (s : List Attr) (m : Measured) → AreIn s (measured_word m) → sums_int s m ≡ true → is_good_agg s (agg_in s m) ≡ true
good_agg s counted h e = refl
good_agg s (folded sum_of w) h e = int_place s (place_in s w.name) (place_below w.name s h.0) e
good_agg s (folded Least w) h e = is_place-below s (place_in s w.name) (place_below w.name s h.0)
good_agg s (folded Greatest w) h e = is_place-below s (place_in s w.name) (place_below w.name s h.0)

in_front : (s : List Attr) (ws vs : List Word) → AreIn s (ws ++ vs) → AreIn s ws × AreIn s vs
in_front s [] vs h = (tt, h)
in_front s (w ∷ ws) vs h = let k = in_front s ws vs h.1 in ((h.0, k.0), k.1)

pub good_aggs : (s : List Attr) (aggs : List Aggregate) → AreIn s (measured_words aggs) → list_all (λ (a : Aggregate). sums_int s a.of) aggs ≡ true → list_all (is_good_agg s) (aggs_in s aggs) ≡ true
good_aggs s [] h e = refl
good_aggs s (a ∷ aggs) h e =
    let k = in_front s (measured_word a.of) (measured_words aggs) h in
    let j = and_true (sums_int s a.of) (list_all (λ (a : Aggregate). sums_int s a.of) aggs) e in
    both_true (is_good_agg s (agg_in s a.of)) (list_all (is_good_agg s) (aggs_in s aggs)) (good_agg s a.of k.0 j.0) (good_aggs s aggs k.1 j.1)

-- ---- join

has_name-names : (s : List Attr) (name : Row) → has_name s name ≡ holds (names_of s) name
has_name-names [] name = refl
has_name-names (a ∷ s) name = ap (λ b. is_same name a.name || b) (has_name-names s name)

names_of-lacking : (s t : List Attr) → names_of (lacking s t) ≡ filter (λ name. not (holds (names_of s) name)) (names_of t)
names_of-lacking s [] = refl
names_of-lacking s (a ∷ t) = by (has_name s a.name) refl (names_of-lacking s t)
  where
    by : (b : Bool) → has_name s a.name ≡ b → names_of (lacking s t) ≡ filter (λ name. not (holds (names_of s) name)) (names_of t) →
        names_of (lacking s (a ∷ t)) ≡ filter (λ name. not (holds (names_of s) name)) (names_of (a ∷ t))
    by true h ih = let k : holds (names_of s) a.name ≡ true = sym (has_name-names s a.name) ∙ h in rw (h, k) ih
    by false h ih = let k : holds (names_of s) a.name ≡ false = sym (has_name-names s a.name) ∙ h in rw (h, k) (ap (λ xs. a.name ∷ xs) ih)

names_of-append : (s t : List Attr) → names_of (s ++ t) ≡ names_of s ++ names_of t
names_of-append [] t = refl
names_of-append (a ∷ s) t = ap (λ xs. a.name ∷ xs) (names_of-append s t)

pub kinds_of-append : (s t : List Attr) → kinds_of (s ++ t) ≡ kinds_of s ++ kinds_of t
kinds_of-append [] t = refl
kinds_of-append (a ∷ s) t = ap (λ ks. a.kind ∷ ks) (kinds_of-append s t)

pub join_schema : (s t : List Attr) → IsSchema s → IsSchema t → length s + length (lacking s t) < 17 → IsSchema (s ++ lacking s t)
join_schema s t h k few =
    let p : Row → Bool = λ name. not (holds (names_of s) name) in
    let d : AreDistinct (names_of s ++ filter p (names_of t)) = distinct_append (names_of s) (filter p (names_of t)) h.distinct (distinct_filter p (names_of t) k.distinct)
    (λ z e. lacks (holds (names_of s) z) (holds (names_of t) z) (sym (holds-filter p (names_of t) z) ∙ e)) in
    let n = length-append s (lacking s t) in
    let some = h.some in
    record {
      some = omega (arith, n, some);
      few = omega (arith, n, few);
      distinct = subst (λ (xs : List Row). AreDistinct xs) (sym (names_of-append s (lacking s t) ∙ ap (λ xs. names_of s ++ xs) (names_of-lacking s t))) d;
    }
  where
    lacks : (b c : Bool) → (not b && c) ≡ true → b ≡ false
    lacks true c e = absurd cc
    lacks false c e = refl

-- ---- rows, and schemas as written

names_of-attrs_of : (ws : List Word) (vs : List Typing) → length ws ≡ length vs → names_of (attrs_of ws vs) ≡ word_names ws
names_of-attrs_of [] [] e = refl
names_of-attrs_of [] (v ∷ vs) e = absurd (omega arith)
names_of-attrs_of (w ∷ ws) [] e = absurd (omega arith)
names_of-attrs_of (w ∷ ws) (v ∷ vs) e = ap (λ xs. w.name ∷ xs) (names_of-attrs_of ws vs (omega arith))

length-attrs_of : (ws : List Word) (vs : List Typing) → length ws ≡ length vs → length (attrs_of ws vs) ≡ length ws
length-attrs_of [] [] e = refl
length-attrs_of [] (v ∷ vs) e = absurd (omega arith)
length-attrs_of (w ∷ ws) [] e = absurd (omega arith)
length-attrs_of (w ∷ ws) (v ∷ vs) e = ap (λ n. suc n) (length-attrs_of ws vs (omega arith))

pub row_schema : (ws : List Word) (vs : List Typing) → length ws ≡ length vs → 1 ≤ length ws → length ws ≤ 16 → repeat_in [] ws ≡ None → IsSchema (attrs_of ws vs)
row_schema ws vs e some few r =
    let n = length-attrs_of ws vs e in
    record { some = omega (arith, n, some); few = omega (arith, n, few); distinct = subst (λ (xs : List Row). AreDistinct xs) (sym (names_of-attrs_of ws vs e)) (repeat_none [] ws tt r) }

abbrev pub field_names : List Field → List Row
field_names fs = map (λ f. f.name.name) fs

length-fields : (fs : List Field) → length (field_names fs) ≡ length fs
length-fields [] = refl
length-fields (f ∷ fs) = ap (λ n. suc n) (length-fields fs)

-- attributes behind others
pub record IsBehind (seen s : List Attr) (fs : List Field) : Type 0 where
  pub few : length s ≤ 16
  pub distinct : AreDistinct (names_of s)
  pub names : names_of s ≡ names_of seen ++ field_names fs

field_new : (seen : List Attr) (f : Field) (a : Attr) → field_row seen f ≡ Ok a → (holds (names_of seen) f.name.name ≡ false) × (length seen < 16) × (record { name = f.name.name; kind = f.kind } ≡ a)
field_new seen f a e =
    let h = cond_second (holds (names_of seen) f.name.name) (repeated f.name.at) (cond (nat_lt (length seen) 16) (Ok (record { name = f.name.name; kind = f.kind })) (Err (too_many f.name.at))) a e in
    let k = cond_first (nat_lt (length seen) 16) (too_many f.name.at) (Ok (record { name = f.name.name; kind = f.kind })) a h.1 in
    (h.0, ltb-true (length seen) 16 k.0, let same : record { name = f.name.name; kind = f.kind } ≡ a = cc in same)

pub fields_behind : (seen : List Attr) (fs : List Field) (s : List Attr) → length seen ≤ 16 → AreDistinct (names_of seen) → fields_row seen fs ≡ Ok s → IsBehind seen s fs
fields_behind seen [] s few d e =
    let h : seen ≡ s = cc in subst (λ (t : List Attr). IsBehind seen t []) h (record { few = few; distinct = d; names = sym (append-nil (names_of seen)) })
fields_behind seen (f ∷ fs) s few d e =
    let h = then_ok (field_row seen f) (λ a. fields_row (seen ++ a ∷ []) fs) s e in
    let k = field_new seen f h.0 h.1 in
    let name_is : f.name.name ≡ h.0.name = ap (λ (a : Attr). a.name) k.2 in
    let n = length-append seen (h.0 ∷ []) in
    let few = k.1 in
    let d' : AreDistinct (names_of (seen ++ h.0 ∷ [])) = subst (λ (xs : List Row). AreDistinct xs) (sym (names_of-append seen (h.0 ∷ []))) (distinct_push (names_of seen) h.0.name d (ap (λ z. holds (names_of seen) z) (sym name_is) ∙ k.0)) in
    let r = fields_behind (seen ++ h.0 ∷ []) fs s (omega (arith, n, few)) d' h.2 in
    record {
      few = r.few;
      distinct = r.distinct;
      names = r.names ∙ ap (λ xs. xs ++ field_names fs) (names_of-append seen (h.0 ∷ [])) ∙ append_assoc (names_of seen) (h.0.name ∷ []) (field_names fs) ∙ ap (λ z. names_of seen ++ z ∷ field_names fs) (sym name_is);
    }

-- a schema as written, of some attributes
pub fields_schema : (fs : List Field) (s : List Attr) → 1 ≤ length fs → fields_row [] fs ≡ Ok s → IsSchema s
fields_schema fs s some e =
    let h = fields_behind [] fs s (omega arith) tt e in
    let n = ap length h.names in
    let m = length-names s in
    let k = length-fields fs in
    record { some = omega (arith, n, m, k, some); few = h.few; distinct = h.distinct }
