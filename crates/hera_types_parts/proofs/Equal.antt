-- Tests of types, and places in schemas.
use Rattle.std.proofs.Common.{◌≡◌, ℕ, zero, suc, ◌+◌, ◌<◌, ◌≤◌, List, [], ◌∷◌, length, drop, refl, sym, ap, ◌∙◌, arith, add-one, get_or, take, ◌++◌, inl, inr, Bool, true, false}
use Rattle.std.specs.Prelude.{Option, Some, None, slice_get, IsTrue, ◌↔◌, ◌&&◌, ◌||◌, map, cond, IfSome, is_some, ◌⊎◌}
use Rattle.std.specs.List.{position_from, list_any, list_all}
use Rattle.hera_sets.specs.Rows.{is_same}
use Rattle.hera_sets.proofs.Order.{same_true, same_itself}
use Rattle.hera_meaning.specs.declared.scalars.Kind.{Kind}
use Rattle.hera_meaning.specs.declared.scalars.Kind.TheVariants.{Int as int_kind, Bool as bool_kind, Text as text_kind}
use Rattle.hera_meaning.specs.declared.schemas.Attr.{Attr}
use Rattle.hera_meaning.specs.Forms.{kind_at, kinds_of}
use Rattle.hera_meaning.specs.Scalars.{is_same_kind}
use Rattle.hera_meaning.specs.Schemas.{place_named}
use Rattle.hera_meaning.specs.Relations.{has_name}
use Rattle.hera_meaning.specs.declared.trees.Shape.{Shape}
use Rattle.hera_meaning.proofs.Names.{some-place_named}
use Rattle.hera_rules.specs.declared.words.Word.{Word}
use Rattle.hera_rules.specs.declared.env.Typed.{Typed}
use Rattle.hera_rules.specs.Agrees.{typings_of}
use Rattle.hera_rules.specs.Rules.{types_of, attrs_of, scalar_kind}
use Rattle.hera_rules.specs.Same.{same_attr, same_schema, same_kinds, same_shape, same_shapes}

pub kind_true : (k l : Kind) → is_same_kind k l ≡ true → k ≡ l
kind_true int_kind int_kind e = refl
kind_true bool_kind bool_kind e = refl
kind_true text_kind text_kind e = refl
kind_true int_kind bool_kind e = absurd cc
kind_true int_kind text_kind e = absurd cc
kind_true bool_kind int_kind e = absurd cc
kind_true bool_kind text_kind e = absurd cc
kind_true text_kind int_kind e = absurd cc
kind_true text_kind bool_kind e = absurd cc

pub kind_itself : (k : Kind) → is_same_kind k k ≡ true
kind_itself int_kind = refl
kind_itself bool_kind = refl
kind_itself text_kind = refl

pub and_left : (a b : Bool) → (a && b) ≡ true → a ≡ true
and_left true b e = refl
and_left false b e = e

pub and_right : (a b : Bool) → (a && b) ≡ true → b ≡ true
and_right true b e = e
and_right false b e = absurd cc

pub both_true : (a b : Bool) → a ≡ true → b ≡ true → (a && b) ≡ true
both_true a b e f = rw (e, f) refl

attr_true : (a b : Attr) → same_attr a b ≡ true → a ≡ b
attr_true a b e =
    let n = same_true _ _ (and_left _ _ e) in
    let k = kind_true _ _ (and_right _ _ e) in
    ap (λ n. record { name = n; kind = a.kind }) n ∙ ap (λ k. record { name = b.name; kind = k }) k

attr_itself : (a : Attr) → same_attr a a ≡ true
attr_itself a = both_true _ _ (same_itself a.name) (kind_itself a.kind)

pub schema_true : (s t : List Attr) → same_schema s t ≡ true → s ≡ t
schema_true [] [] e = refl
schema_true [] (b ∷ t) e = absurd cc
schema_true (a ∷ s) [] e = absurd cc
schema_true (a ∷ s) (b ∷ t) e =
    ap (λ a. a ∷ s) (attr_true a b (and_left _ _ e)) ∙ ap (λ s. b ∷ s) (schema_true s t (and_right _ _ e))

pub schema_itself : (s : List Attr) → same_schema s s ≡ true
schema_itself [] = refl
schema_itself (a ∷ s) = both_true _ _ (attr_itself a) (schema_itself s)

not_so : (r : Bool) (s t : List Attr) → (IsTrue r ↔ (s ≡ t)) → same_schema s t ≡ false → r ≡ false
not_so false s t h e = refl
not_so true s t h e = let f = h.0 refl in let g = ap (same_schema s) (sym f) in let k = schema_itself s in absurd cc

-- a call that decides whether two schemas are equal answers the test
pub decides : (r : Bool) (s t : List Attr) → (IsTrue r ↔ (s ≡ t)) → r ≡ same_schema s t
decides r s t h = elim (same_schema s t) as (λ v. same_schema s t ≡ v → r ≡ v) [
  | true ↦ λ e. h.1 (schema_true s t e)
  | false ↦ λ e. not_so r s t h e
] refl

pub kind_at_is : (s : List Attr) (i : ℕ) (a : Attr) → slice_get s i ≡ Some a → a.kind ≡ kind_at s i
kind_at_is [] i a e = absurd cc
kind_at_is (x ∷ s) zero a e = let k : x ≡ a = cc in ap (λ (a : Attr). a.kind) (sym k)
kind_at_is (x ∷ s) (suc i) a e = kind_at_is s i a e

pub drop_map_get : {A B : Type 0} (f : A → B) (xs : List A) (i : ℕ) (a : A) → slice_get xs i ≡ Some a → drop i (map f xs) ≡ f a ∷ drop (suc i) (map f xs)
drop_map_get f [] i a e = absurd cc
drop_map_get f (x ∷ xs) zero a e = let k : x ≡ a = cc in ap (λ a. f a ∷ map f xs) k
drop_map_get f (x ∷ xs) (suc i) a e = drop_map_get f xs i a e

pub position_within : {A : Type 0} (t : A → Bool) (k : ℕ) (xs : List A) (i : ℕ) → position_from t k xs ≡ Some i → i < k + length xs
position_within t k [] i e = absurd cc
position_within t k (x ∷ xs) i e = elim (t x) as (λ b. cond b (Some k) (position_from t (k + 1) xs) ≡ Some i → i < k + length (x ∷ xs)) [
  | true ↦ λ e. let h : k ≡ i = cc in omega arith
  | false ↦ λ e. let h = position_within t (k + 1) xs i e in omega arith
] e

pub place_within : (name : List ℕ) (s : List Attr) (o : Option ℕ) → o ≡ place_named name s → IfSome o (λ i. i < length s)
place_within name s None e = tt
place_within name s (Some i) e = let h = position_within (λ (a : Attr). is_same name a.name) 0 s i (sym e) in omega arith

-- lists of kinds
pub kinds_lengths : (k l : List Kind) → same_kinds k l ≡ true → length k ≡ length l
kinds_lengths [] [] e = refl
kinds_lengths [] (b ∷ l) e = absurd cc
kinds_lengths (a ∷ k) [] e = absurd cc
kinds_lengths (a ∷ k) (b ∷ l) e = ap suc (kinds_lengths k l (and_right _ _ e))

pub kinds_of-length : (s : List Attr) → length (kinds_of s) ≡ length s
kinds_of-length [] = refl
kinds_of-length (a ∷ s) = ap suc (kinds_of-length s)

false_unless : (b : Bool) → (b ≡ true → ⊥) → false ≡ b
false_unless true h = absurd (h refl)
false_unless false h = refl

pub kinds_differ : (s t : List Attr) → (length s ≡ length t → ⊥) → false ≡ same_kinds (kinds_of s) (kinds_of t)
kinds_differ s t h = false_unless _ (λ e. h (sym (kinds_of-length s) ∙ kinds_lengths _ _ e ∙ kinds_of-length t))

kinds_here : (s t : List Attr) (i : ℕ) (a b : Attr) → slice_get s i ≡ Some a → slice_get t i ≡ Some b →
    same_kinds (drop i (kinds_of s)) (drop i (kinds_of t)) ≡ (is_same_kind a.kind b.kind && same_kinds (drop (i + 1) (kinds_of s)) (drop (i + 1) (kinds_of t)))
kinds_here s t i a b e f = rw (add-one, drop_map_get (λ (a : Attr). a.kind) s i a e, drop_map_get (λ (a : Attr). a.kind) t i b f) refl

pub kinds_turn : (s t : List Attr) (i : ℕ) (a b : Attr) → slice_get s i ≡ Some a → slice_get t i ≡ Some b → is_same_kind a.kind b.kind ≡ true →
    same_kinds (kinds_of s) (kinds_of t) ≡ same_kinds (drop i (kinds_of s)) (drop i (kinds_of t)) →
    same_kinds (kinds_of s) (kinds_of t) ≡ same_kinds (drop (i + 1) (kinds_of s)) (drop (i + 1) (kinds_of t))
kinds_turn s t i a b e f k h = h ∙ kinds_here s t i a b e f ∙ ap (λ v. v && same_kinds (drop (i + 1) (kinds_of s)) (drop (i + 1) (kinds_of t))) k

pub kinds_stop : (s t : List Attr) (i : ℕ) (a b : Attr) → slice_get s i ≡ Some a → slice_get t i ≡ Some b → is_same_kind a.kind b.kind ≡ false →
    same_kinds (kinds_of s) (kinds_of t) ≡ same_kinds (drop i (kinds_of s)) (drop i (kinds_of t)) → false ≡ same_kinds (kinds_of s) (kinds_of t)
kinds_stop s t i a b e f k h = sym (h ∙ kinds_here s t i a b e f ∙ ap (λ v. v && same_kinds (drop (i + 1) (kinds_of s)) (drop (i + 1) (kinds_of t))) k)

-- tests over the names of things
pub any_map : {A B : Type 0} (f : A → B) (t : B → Bool) (xs : List A) → list_any t (map f xs) ≡ list_any (λ x. t (f x)) xs
any_map f t [] = refl
any_map f t (x ∷ xs) = ap (λ b. t (f x) || b) (any_map f t xs)

pub all_map : {A B : Type 0} (f : A → B) (t : B → Bool) (xs : List A) → list_all t (map f xs) ≡ list_all (λ x. t (f x)) xs
all_map f t [] = refl
all_map f t (x ∷ xs) = ap (λ b. t (f x) && b) (all_map f t xs)

pub some_has : (name : List ℕ) (s : List Attr) → is_some (place_named name s) ≡ has_name s name
some_has name s = some-place_named name s ∙ any_map (λ (a : Attr). a.name) (is_same name) s

pub drop_map_at : {A B : Type 0} (f : A → B) (xs : List A) (i : ℕ) (a : A) → i < length xs → a ≡ get_or xs i a → drop i (map f xs) ≡ f a ∷ drop (suc i) (map f xs)
drop_map_at f [] i a h e = absurd (omega arith)
drop_map_at f (x ∷ xs) zero a h e = ap (λ a. f a ∷ map f xs) (sym e)
drop_map_at f (x ∷ xs) (suc i) a h e = drop_map_at f xs i a (omega arith) e

drop_get : (s : List Attr) (i : ℕ) (a : Attr) → slice_get s i ≡ Some a → drop i s ≡ a ∷ drop (suc i) s
drop_get [] i a e = absurd cc
drop_get (x ∷ s) zero a e = let k : x ≡ a = cc in ap (λ a. a ∷ s) k
drop_get (x ∷ s) (suc i) a e = drop_get s i a e

-- two lists of types, one by one
pub shapes_lengths : (s t : List Shape) → same_shapes s t ≡ true → length s ≡ length t
shapes_lengths [] [] e = refl
shapes_lengths [] (b ∷ t) e = absurd cc
shapes_lengths (a ∷ s) [] e = absurd cc
shapes_lengths (a ∷ s) (b ∷ t) e = ap suc (shapes_lengths s t (and_right _ _ e))

pub map-length : {A B : Type 0} (f : A → B) (xs : List A) → length (map f xs) ≡ length xs
map-length f [] = refl
map-length f (x ∷ xs) = ap suc (map-length f xs)

types_length : (vs : List Typed) → length (types_of (typings_of vs)) ≡ length vs
types_length [] = refl
types_length (v ∷ vs) = ap suc (types_length vs)

drop_types_at : (vs : List Typed) (i : ℕ) (v : Typed) → i < length vs → v ≡ get_or vs i v → drop i (types_of (typings_of vs)) ≡ v.shape ∷ drop (suc i) (types_of (typings_of vs))
drop_types_at [] i v h e = absurd (omega arith)
drop_types_at (x ∷ vs) zero v h e = ap (λ (v : Typed). v.shape ∷ types_of (typings_of vs)) (sym e)
drop_types_at (x ∷ vs) (suc i) v h e = drop_types_at vs i v (omega arith) e

module _ {A : Type 0} (f : A → Shape) (s : List A) (t : List Typed) where
  pub shapes_differ : (length s ≡ length t → ⊥) → false ≡ same_shapes (map f s) (types_of (typings_of t))
  shapes_differ h = false_unless _ (λ e. h (sym (map-length f s) ∙ shapes_lengths (map f s) (types_of (typings_of t)) e ∙ types_length t))

  shapes_here : (i : ℕ) (a : A) (b : Typed) → i < length s → a ≡ get_or s i a → i < length t → b ≡ get_or t i b →
      same_shapes (drop i (map f s)) (drop i (types_of (typings_of t))) ≡ (same_shape (f a) b.shape && same_shapes (drop (i + 1) (map f s)) (drop (i + 1) (types_of (typings_of t))))
  shapes_here i a b h e k d = rw (add-one, drop_map_at f s i a h e, drop_types_at t i b k d) refl

  pub shapes_turn : (i : ℕ) (a : A) (b : Typed) → i < length s → a ≡ get_or s i a → i < length t → b ≡ get_or t i b → same_shape (f a) b.shape ≡ true →
      same_shapes (map f s) (types_of (typings_of t)) ≡ same_shapes (drop i (map f s)) (drop i (types_of (typings_of t))) →
      same_shapes (map f s) (types_of (typings_of t)) ≡ same_shapes (drop (i + 1) (map f s)) (drop (i + 1) (types_of (typings_of t)))
  shapes_turn i a b h e k d x y = y ∙ shapes_here i a b h e k d ∙ ap (λ v. v && same_shapes (drop (i + 1) (map f s)) (drop (i + 1) (types_of (typings_of t)))) x

  pub shapes_stop : (i : ℕ) (a : A) (b : Typed) → i < length s → a ≡ get_or s i a → i < length t → b ≡ get_or t i b → same_shape (f a) b.shape ≡ false →
      same_shapes (map f s) (types_of (typings_of t)) ≡ same_shapes (drop i (map f s)) (drop i (types_of (typings_of t))) → false ≡ same_shapes (map f s) (types_of (typings_of t))
  shapes_stop i a b h e k d x y = sym (y ∙ shapes_here i a b h e k d ∙ ap (λ v. v && same_shapes (drop (i + 1) (map f s)) (drop (i + 1) (types_of (typings_of t)))) x)

-- the attributes of names and values, one by one
pub attrs_more : (ws : List Word) (vs : List Typed) (i : ℕ) (w : Word) (v : Typed) → i < length ws → w ≡ get_or ws i w → i < length vs → v ≡ get_or vs i v →
    attrs_of (take (suc i) ws) (take (suc i) (typings_of vs)) ≡ attrs_of (take i ws) (take i (typings_of vs)) ++ (record { name = w.name; kind = scalar_kind v.shape } ∷ [])
attrs_more [] vs i w v h e k d = absurd (omega arith)
attrs_more (x ∷ ws) [] i w v h e k d = absurd (omega arith)
attrs_more (x ∷ ws) (y ∷ vs) zero w v h e k d =
    ap (λ (w : Word). record { name = w.name; kind = scalar_kind y.shape } ∷ []) (sym e) ∙ ap (λ (v : Typed). record { name = w.name; kind = scalar_kind v.shape } ∷ []) (sym d)
attrs_more (x ∷ ws) (y ∷ vs) (suc i) w v h e k d = ap (λ r. record { name = x.name; kind = scalar_kind y.shape } ∷ r) (attrs_more ws vs i w v (omega arith) e (omega arith) d)

pub attrs_whole : (ws : List Word) (vs : List Typed) (n : ℕ) → (length ws ≤ n ⊎ length vs ≤ n) → attrs_of (take n ws) (take n (typings_of vs)) ≡ attrs_of ws (typings_of vs)
attrs_whole [] vs zero h = refl
attrs_whole [] vs (suc n) h = refl
attrs_whole (x ∷ ws) [] zero h = refl
attrs_whole (x ∷ ws) [] (suc n) h = refl
attrs_whole (x ∷ ws) (y ∷ vs) zero (inl h) = absurd (omega arith)
attrs_whole (x ∷ ws) (y ∷ vs) zero (inr h) = absurd (omega arith)
attrs_whole (x ∷ ws) (y ∷ vs) (suc n) (inl h) = ap (λ r. record { name = x.name; kind = scalar_kind y.shape } ∷ r) (attrs_whole ws vs n (inl (omega arith)))
attrs_whole (x ∷ ws) (y ∷ vs) (suc n) (inr h) = ap (λ r. record { name = x.name; kind = scalar_kind y.shape } ∷ r) (attrs_whole ws vs n (inr (omega arith)))

-- a test of each attribute, one by one
pub all_turn : (t : Attr → Bool) (s : List Attr) (i : ℕ) (a : Attr) → slice_get s i ≡ Some a → t a ≡ true → list_all t s ≡ list_all t (drop i s) → list_all t s ≡ list_all t (drop (i + 1) s)
all_turn t s i a e k h = h ∙ all_here t s i a e ∙ ap (λ v. v && list_all t (drop (i + 1) s)) k
  where
    all_here : (t : Attr → Bool) (s : List Attr) (i : ℕ) (a : Attr) → slice_get s i ≡ Some a → list_all t (drop i s) ≡ (t a && list_all t (drop (i + 1) s))
    all_here t s i a e = rw (add-one, drop_get s i a e) refl

pub all_stop : (t : Attr → Bool) (s : List Attr) (i : ℕ) (a : Attr) → slice_get s i ≡ Some a → t a ≡ false → list_all t s ≡ list_all t (drop i s) → false ≡ list_all t s
all_stop t s i a e k h = sym (h ∙ rw (drop_get s i a e) (ap (λ v. v && list_all t (drop (suc i) s)) k))

pub get_from : (s : List Attr) (i : ℕ) (a : Attr) → slice_get s i ≡ Some a → (i < length s) × (a ≡ get_or s i a)
get_from [] i a e = absurd cc
get_from (x ∷ s) zero a e = let k : x ≡ a = cc in (omega arith, sym k)
get_from (x ∷ s) (suc i) a e = let k = get_from s i a e in (omega (arith, k.0), k.1)
