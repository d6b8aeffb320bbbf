-- Parts behind one another, with commas between them.
use Rattle.std.proofs.Common.{◌≡◌, ℕ, zero, suc, ◌+◌, ◌<◌, ◌≤◌, List, [], ◌∷◌, ◌++◌, Some, length, drop, refl, sym, ap, ◌∙◌, subst, add-one, arith, append_assoc}
use Rattle.std.specs.Prelude.{codes}
use Rattle.std.specs.List.{slice_get, flat_map}
use Rattle.std.proofs.lemmas.Option.{none-some, same_Some}
use Rattle.std.proofs.lemmas.List.{append-nil}
use Rattle.hera_meaning.specs.declared.scalars.Scalar.{Scalar}
use Rattle.hera_meaning.specs.declared.schemas.Attr.{Attr}
use Rattle.hera_meaning.specs.Rows.{fields_of, scalar_at, field_at}
use Rattle.hera_meaning.specs.Printed.{inner_text, fields_text, attr_text, attrs_text}
use Rattle.hera_print.specs.Commas.{comma_before}

-- the parts from place i on
abbrev pub parts_from : {A : Type 0} → (A → List ℕ) → ℕ → List A → List ℕ
parts_from f i [] = []
parts_from f i (x ∷ xs) = comma_before i ++ f x ++ parts_from f (suc i) xs

-- ---- a list from a place on

pub drop_item : {A : Type 0} (xs : List A) (i : ℕ) (x : A) → slice_get xs i ≡ Some x → drop i xs ≡ x ∷ drop (i + 1) xs
drop_item {A} xs i x h = at xs i h ∙ ap (λ n. x ∷ drop n xs) (sym (add-one i))
  where
    at : (xs : List A) (i : ℕ) → slice_get xs i ≡ Some x → drop i xs ≡ x ∷ drop (suc i) xs
    at [] i g = absurd (none-some x g)
    at (y ∷ ys) zero g = ap (λ z. z ∷ ys) (same_Some y x g)
    at (y ∷ ys) (suc i) g = at ys i g

pub drop_scalar : (xs : List Scalar) (i : ℕ) → i < length xs → drop i xs ≡ scalar_at xs i ∷ drop (i + 1) xs
drop_scalar xs i h = at xs i h ∙ ap (λ n. scalar_at xs i ∷ drop n xs) (sym (add-one i))
  where
    at : (xs : List Scalar) (i : ℕ) → i < length xs → drop i xs ≡ scalar_at xs i ∷ drop (suc i) xs
    at [] i g = absurd (omega (arith, g))
    at (y ∷ ys) zero g = refl
    at (y ∷ ys) (suc i) g = at ys i (omega (arith, g))

-- a field for each attribute
pub length-fields_of : (schema : List Attr) (row : List ℕ) → length (fields_of schema row) ≡ length schema
length-fields_of [] row = refl
length-fields_of (a ∷ attrs) row = ap suc (length-fields_of attrs _)

pub drop_field : (schema : List Attr) (row : List ℕ) (i : ℕ) → i < length schema → drop i (fields_of schema row) ≡ field_at schema row i ∷ drop (i + 1) (fields_of schema row)
drop_field schema row i h = drop_scalar (fields_of schema row) i (subst (λ n. i < n) (sym (length-fields_of schema row)) h)

-- ---- texts with commas

-- a function on lists that puts commas between the texts of the parts
pub record PutsCommas {A : Type 0} (f : A → List ℕ) (joined : List A → List ℕ) : Type 0 where
  pub none : joined [] ≡ []
  pub one : (x : A) → joined (x ∷ []) ≡ f x
  pub more : (x y : A) (rest : List A) → joined (x ∷ y ∷ rest) ≡ f x ++ codes ", " ++ joined (y ∷ rest)

pub joined_parts : {A : Type 0} (f : A → List ℕ) (joined : List A → List ℕ) → PutsCommas f joined → (xs : List A) → joined xs ≡ parts_from f 0 xs
joined_parts {A} f joined p [] = p.none
joined_parts {A} f joined p (x ∷ []) = p.one x ∙ sym (append-nil (f x))
joined_parts {A} f joined p (x ∷ y ∷ rest) = p.more x y rest ∙ append_assoc (f x) (codes ", ") (joined (y ∷ rest)) ∙ ap (λ t. f x ++ t) (later 0 y rest)
  where
    later : (i : ℕ) (y : A) (rest : List A) → codes ", " ++ joined (y ∷ rest) ≡ parts_from f (suc i) (y ∷ rest)
    later i y [] = ap (λ t. codes ", " ++ t) (p.one y) ∙ sym (append-nil (codes ", " ++ f y))
    later i y (z ∷ rest) =
        ap (λ t. codes ", " ++ t) (p.more y z rest ∙ append_assoc (f y) (codes ", ") (joined (z ∷ rest)))
        ∙ sym (append_assoc (codes ", ") (f y) (codes ", " ++ joined (z ∷ rest)))
        ∙ ap (λ t. (codes ", " ++ f y) ++ t) (later (suc i) z rest)

pub fields_parts : (xs : List Scalar) → fields_text xs ≡ parts_from inner_text 0 xs
fields_parts xs = joined_parts inner_text fields_text (record { none = refl; one = λ x. refl; more = λ x y rest. refl }) xs

pub attrs_parts : (xs : List Attr) → attrs_text xs ≡ parts_from attr_text 0 xs
attrs_parts xs = joined_parts attr_text attrs_text (record { none = refl; one = λ x. refl; more = λ x y rest. refl }) xs

-- a part more
pub parts_step : {A : Type 0} (f : A → List ℕ) (done goal : List ℕ) (i : ℕ) (xs : List A) (x : A) → drop i xs ≡ x ∷ drop (i + 1) xs → done ++ parts_from f i (drop i xs) ≡ goal → (done ++ comma_before i ++ f x) ++ parts_from f (i + 1) (drop (i + 1) xs) ≡ goal
parts_step f done goal i xs x h e =
    ap (λ n. (done ++ comma_before i ++ f x) ++ parts_from f n (drop (i + 1) xs)) (add-one i)
    ∙ append_assoc (done ++ comma_before i) (f x) (parts_from f (suc i) (drop (i + 1) xs))
    ∙ append_assoc done (comma_before i) (f x ++ parts_from f (suc i) (drop (i + 1) xs))
    ∙ ap (λ t. done ++ t) (sym (append_assoc (comma_before i) (f x) (parts_from f (suc i) (drop (i + 1) xs))))
    ∙ ap (λ t. done ++ parts_from f i t) (sym h)
    ∙ e

-- past the last part
pub drop_past : {A : Type 0} (xs : List A) (n : ℕ) → length xs ≤ n → drop n xs ≡ []
drop_past [] zero h = refl
drop_past [] (suc n) h = refl
drop_past (x ∷ xs) zero h = absurd (omega (arith, h))
drop_past (x ∷ xs) (suc n) h = drop_past xs n (omega (arith, h))

pub parts_end : {A : Type 0} (f : A → List ℕ) (done goal : List ℕ) (n : ℕ) (xs : List A) → length xs ≤ n → done ++ parts_from f n (drop n xs) ≡ goal → done ≡ goal
parts_end f done goal n xs h e = sym (append-nil done) ∙ ap (λ t. done ++ parts_from f n t) (sym (drop_past xs n h)) ∙ e

-- ---- texts behind one another

pub texts_step : {A : Type 0} (f : A → List ℕ) (done goal : List ℕ) (xs ys : List A) (x : A) → xs ≡ x ∷ ys → done ++ flat_map f xs ≡ goal → (done ++ f x) ++ flat_map f ys ≡ goal
texts_step f done goal xs ys x h e = append_assoc done (f x) (flat_map f ys) ∙ ap (λ t. done ++ flat_map f t) (sym h) ∙ e

pub texts_end : {A : Type 0} (f : A → List ℕ) (done goal : List ℕ) (xs : List A) → xs ≡ [] → done ++ flat_map f xs ≡ goal → done ≡ goal
texts_end f done goal xs h e = sym (append-nil done) ∙ ap (λ t. done ++ flat_map f t) (sym h) ∙ e
