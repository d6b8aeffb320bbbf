-- The first of a list, and lists without elements.
use Rattle.std.proofs.Common.{◌≡◌, suc, List, [], ◌∷◌, ◌++◌, Some, None, refl, sym, ap, length, arith}
use Rattle.std.proofs.lemmas.Option.{none-some}
use Rattle.hera_guard.specs.Guards.{first}

pub front_empty : {A : Type 0} (xs ys : List A) → xs ++ ys ≡ [] → xs ≡ []
front_empty [] ys e = refl
front_empty (x ∷ xs) ys e = absurd (let h : suc (length (xs ++ ys)) ≡ 0 = ap length e in omega (arith, h))

pub rest_empty : {A : Type 0} (xs ys : List A) → xs ++ ys ≡ [] → ys ≡ []
rest_empty [] ys e = e
rest_empty (x ∷ xs) ys e = absurd (let h : suc (length (xs ++ ys)) ≡ 0 = ap length e in omega (arith, h))

-- the first of the second list, where the first has none
pub first_behind : {A : Type 0} (xs ys : List A) → first xs ≡ None → first (xs ++ ys) ≡ first ys
first_behind [] ys e = refl
first_behind (x ∷ xs) ys e = absurd (none-some x (sym e))

pub first_in_front : {A : Type 0} (xs ys : List A) (x : A) → first xs ≡ Some x → first (xs ++ ys) ≡ Some x
first_in_front [] ys x e = absurd (none-some x e)
first_in_front (y ∷ xs) ys x e = e
