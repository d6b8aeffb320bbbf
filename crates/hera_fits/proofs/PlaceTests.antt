-- Places at which ints stand.
use Rattle.std.proofs.Common.{◌≡◌, ℕ, zero, suc, ◌+◌, ◌≤◌, Bool, true, false, cond, not, ◌||◌, List, [], ◌∷◌, length, drop, is_some, Some, refl, sym, ap, ◌∙◌, subst, arith, add-one}
use Rattle.std.specs.Prelude.{slice_get}
use Rattle.std.specs.List.{filter, position_from}
use Rattle.hera_sets.specs.Rows.{is_same}
use Rattle.hera_meaning.specs.Schemas.{place_named}
use Rattle.hera_meaning.specs.Relations.{has_name, lacking}
use Rattle.std.proofs.lemmas.List.{drop_all}
use Rattle.std.proofs.lemmas.Option.{none-some, same_Some}
use Rattle.hera_meaning.specs.declared.scalars.Kind.TheVariants.{Int as int_kind}
use Rattle.hera_meaning.specs.declared.schemas.Attr.{Attr}
use Rattle.hera_meaning.specs.Scalars.{is_same_kind}
use Rattle.hera_meaning.specs.Fits.{is_int_at}

pub int_within : (schema : List Attr) (i : ℕ) (a : Attr) → slice_get schema i ≡ Some a → is_same_kind a.kind int_kind ≡ is_int_at schema i
int_within [] i a h = absurd (none-some a h)
int_within (x ∷ schema) zero a h = ap (λ (y : Attr). is_same_kind y.kind int_kind) (sym (same_Some x a h))
int_within (x ∷ schema) (suc i) a h = int_within schema i a h

pub int_past : (schema : List Attr) (i : ℕ) → length schema ≤ i → false ≡ is_int_at schema i
int_past [] i h = refl
int_past (x ∷ schema) zero h = absurd (omega (arith, h))
int_past (x ∷ schema) (suc i) h = int_past schema i (omega (arith, h))

-- ---- names

pub lacks_tested : (b : Bool) (name : List ℕ) (schema : List Attr) → b ≡ not (is_some (place_named name schema)) → b ≡ not (has_name schema name)
lacks_tested b name schema e = e ∙ by schema 0
  where
    by : (xs : List Attr) (i : ℕ) → not (is_some (position_from (λ a. is_same name a.name) i xs)) ≡ not (has_name xs name)
    by [] i = refl
    by (x ∷ xs) i =
        elim (is_same name x.name) as (λ t. not (is_some (cond t (Some i) (position_from (λ a. is_same name a.name) (i + 1) xs))) ≡ not (t || has_name xs name)) [
          | true ↦ refl
          | false ↦ by xs (i + 1)
        ]

-- ---- how many attributes pass a test

pub count_step : (p : Attr → Bool) (xs : List Attr) (n i j : ℕ) (x : Attr) → slice_get xs i ≡ Some x → j ≡ suc i → (n + cond (p x) 1 0) + length (filter p (drop j xs)) ≡ n + length (filter p (drop i xs))
count_step p [] n i j x e f = absurd (none-some x e)
count_step p (y ∷ ys) n zero j x e f =
    subst (λ k. (n + cond (p x) 1 0) + length (filter p (drop k (y ∷ ys))) ≡ n + length (filter p (y ∷ ys))) (sym f)
    (subst (λ (z : Attr). (n + cond (p z) 1 0) + length (filter p ys) ≡ n + length (filter p (y ∷ ys))) (same_Some y x e)
    (elim (p y) as (λ b. (n + cond b 1 0) + length (filter p ys) ≡ n + length (cond b (y ∷ filter p ys) (filter p ys))) [
      | true ↦ omega arith
      | false ↦ omega arith
    ]))
count_step p (y ∷ ys) n (suc i) j x e f =
    subst (λ k. (n + cond (p x) 1 0) + length (filter p (drop k (y ∷ ys))) ≡ n + length (filter p (drop i ys))) (sym f) (count_step p ys n i (suc i) x e refl)

pub few_pass : (p : Attr → Bool) (xs : List Attr) → length (filter p xs) ≤ length xs
few_pass p [] = omega arith
few_pass p (x ∷ xs) =
    let ih : length (filter p xs) ≤ length xs = few_pass p xs in
    elim (p x) as (λ b. length (cond b (x ∷ filter p xs) (filter p xs)) ≤ suc (length xs)) [
      | true ↦ omega (arith, ih)
      | false ↦ omega (arith, ih)
    ]

pub counted : (left right : List Attr) (n i : ℕ) (a : Attr) (name : List ℕ) (lacks : Bool) (one : ℕ) → slice_get right i ≡ Some a → name ≡ a.name → lacks ≡ not (has_name left name) → one ≡ cond lacks 1 0 →
    n + length (lacking left (drop i right)) ≡ length (lacking left right) → (n + one) + length (lacking left (drop (i + 1) right)) ≡ length (lacking left right)
counted left right n i a name lacks one g e l o h =
    ap (λ k. (n + k) + length (lacking left (drop (i + 1) right))) (o ∙ ap (λ b. cond b 1 0) (l ∙ ap (λ s. not (has_name left s)) e))
    ∙ count_step (λ (a : Attr). not (has_name left a.name)) right n i (i + 1) a g (add-one i) ∙ h

pub counted_few : (left right : List Attr) (n i : ℕ) → n + length (lacking left (drop i right)) ≡ length (lacking left right) → length right ≤ 16 → n ≤ 16
counted_few left right n i h few =
    let pass : length (lacking left right) ≤ length right = few_pass (λ (a : Attr). not (has_name left a.name)) right in
    omega (arith, h, few, pass)

pub counted_all : (left right : List Attr) (n i : ℕ) → length right ≤ i → n + length (lacking left (drop i right)) ≡ length (lacking left right) → n ≡ length (lacking left right)
counted_all left right n i le h =
    let none : length (lacking left (drop i right)) ≡ 0 = ap (λ xs. length (lacking left xs)) (drop_all i right le) in
    omega (arith, none, h)
