-- The names that a set of keys has.
use Rattle.std.proofs.Common.{◌≡◌, ℕ, ◌+◌, ◌≤◌, Bool, true, false, cond, not, List, [], ◌∷◌, ◌++◌, length, map, nat_eq, ◌||◌, refl, ap, sym, ◌∙◌, Vec}
use Rattle.std.specs.Prelude.{Some, None, find, slice_get, nat_lt}
use Rattle.std.specs.Cmp.Lexicographic.{pointwise, texts_ties}
use Rattle.std.specs.Global.{Global}
use Rattle.std.specs.List.{list_any, position, position_or_len}
use Rattle.std.proofs.lemmas.Bool.{cond-false, ltb-false}
use Rattle.std.proofs.lemmas.List.{map_push, length-map}
use Rattle.std.proofs.lemmas.List.Folds.{find_at}
use Rattle.std.proofs.lemmas.Option.{slice_get_past}
use Rattle.hera_sets.specs.Rows.{is_same, holds}
use Rattle.hera_types_parts.specs.NameSets.{at_place, bytes_of, names_in}
use Rattle.indexmap.specs.IndexSet.{insert_key}

-- the two tests of sameness agree
pointwise-is_same : (a b : List ℕ) → pointwise nat_eq a b ≡ is_same a b
unfolding is_same
pointwise-is_same a b = texts_ties a b

pub keys_hold : (name : List ℕ) (keys : List (Vec ℕ Global)) → list_any (λ (k : Vec ℕ Global). pointwise nat_eq name k.items) keys ≡ holds (names_in keys) name
keys_hold name [] = refl
keys_hold name (k ∷ keys) =
    ap (λ b. b || list_any (λ (k : Vec ℕ Global). pointwise nat_eq name k.items) keys) (pointwise-is_same name k.items)
    ∙ ap (λ b. is_same name k.items || b) (keys_hold name keys)

-- the test of two keys
abbrev pub same_key : Vec ℕ Global → Vec ℕ Global → Bool
same_key a b = pointwise nat_eq a.items b.items

-- a new name goes behind the others
pub key_added : (keys : List (Vec ℕ Global)) (key : Vec ℕ Global) → holds (names_in keys) key.items ≡ false → names_in (insert_key same_key keys key) ≡ names_in keys ++ key.items ∷ []
key_added keys key new = ap names_in (cond-false (list_any (same_key key) keys) keys (keys ++ key ∷ []) (keys_hold key.items keys ∙ new)) ∙ map_push bytes_of keys key

-- ---- places

-- the first place at which a test passes is that at which it passes what the items are made into
pub first_mapped : {A B : Type 0} (f : A → B) (t : B → Bool) (u : A → Bool) → ((x : A) → u x ≡ t (f x)) → (xs : List A) → position_or_len u xs ≡ position_or_len t (map f xs)
first_mapped f t u h [] = refl
first_mapped f t u h (x ∷ xs) = ap (λ b. cond (not b) (1 + position_or_len u xs) 0) (h x) ∙ ap (λ n. cond (not (t (f x))) (1 + n) 0) (first_mapped f t u h xs)

place_mapped : {A B : Type 0} (f : A → B) (t : B → Bool) (u : A → Bool) → ((x : A) → u x ≡ t (f x)) → (xs : List A) → position u xs ≡ position t (map f xs)
place_mapped f t u h xs =
    ap (λ n. cond (nat_lt n (length xs)) (Some n) None) (first_mapped f t u h xs)
    ∙ ap (λ m. cond (nat_lt (position_or_len t (map f xs)) m) (Some (position_or_len t (map f xs))) None) (sym (length-map xs f))

-- the place of a key is that of its name
pub key_placed : (name : List ℕ) (keys : List (Vec ℕ Global)) → position (λ (k : Vec ℕ Global). pointwise nat_eq name k.items) keys ≡ position (is_same name) (names_in keys)
key_placed name keys = place_mapped bytes_of (is_same name) (λ (k : Vec ℕ Global). pointwise nat_eq name k.items) (λ k. pointwise-is_same name k.items) keys

placed : {A : Type 0} (xs : List A) (i : ℕ) (b : Bool) → (b ≡ false → slice_get xs i ≡ None) → at_place xs (cond b (Some i) None) ≡ slice_get xs i
placed xs i true h = refl
placed xs i false h = sym (h refl)

past : {A : Type 0} (xs : List A) (i : ℕ) → nat_lt i (length xs) ≡ false → slice_get xs i ≡ None
past xs i h = slice_get_past xs i (ltb-false i (length xs) h)

-- the item of a name is what stands at the place of the name among the names of the items
pub named_at : {A : Type 0} (f : A → List ℕ) (name : List ℕ) (xs : List A) → at_place xs (position (is_same name) (map f xs)) ≡ find (λ x. is_same name (f x)) xs
named_at f name xs =
    ap (at_place xs) (sym (place_mapped f (is_same name) (λ x. is_same name (f x)) (λ x. refl) xs))
    ∙ placed xs (position_or_len (λ x. is_same name (f x)) xs) (nat_lt (position_or_len (λ x. is_same name (f x)) xs) (length xs)) (past xs _)
    ∙ sym (find_at (λ x. is_same name (f x)) xs)
