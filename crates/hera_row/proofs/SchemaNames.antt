-- The names of a schema, one by one.
use Rattle.std.proofs.Common.{◌≡◌, ℕ, zero, suc, ◌+◌, List, [], ◌∷◌, ◌++◌, Some, take, sym, ap, subst, ◌∙◌, add-one, All}
use Rattle.std.specs.List.{slice_get}
use Rattle.std.proofs.lemmas.Option.{none-some, same_Some}
use Rattle.std.proofs.lemmas.List.{map_push}
use Rattle.std.proofs.lemmas.List.Elements.{All-push, All-head, All-tail}
use Rattle.hera_meaning.specs.declared.schemas.Attr.{Attr}
use Rattle.hera_meaning.specs.Schemas.{names_of, attr_name}

take_attr : (schema : List Attr) (i : ℕ) (a : Attr) → slice_get schema i ≡ Some a → take (i + 1) schema ≡ take i schema ++ a ∷ []
take_attr schema i a h = ap (λ n. take n schema) (add-one i) ∙ at schema i h
  where
    at : (schema : List Attr) (i : ℕ) → slice_get schema i ≡ Some a → take (suc i) schema ≡ take i schema ++ a ∷ []
    at [] i g = absurd (none-some a g)
    at (b ∷ bs) zero g = ap (λ x. x ∷ []) (same_Some b a g)
    at (b ∷ bs) (suc i) g = ap (λ t. b ∷ t) (at bs i g)

-- a name more
pub names_more : (P : List ℕ → Type 0) (schema : List Attr) (i : ℕ) (a : Attr) → slice_get schema i ≡ Some a → All P (names_of (take i schema)) → P a.name → All P (names_of (take (i + 1) schema))
names_more P schema i a h all here =
    subst (All P) (sym (ap names_of (take_attr schema i a h) ∙ map_push attr_name (take i schema) a)) (All-push P (names_of (take i schema)) a.name all here)

-- a name of them
pub name_of_all : (P : List ℕ → Type 0) (schema : List Attr) (i : ℕ) (a : Attr) → slice_get schema i ≡ Some a → All P (names_of schema) → P a.name
name_of_all P [] i a h all = absurd (none-some a h)
name_of_all P (b ∷ bs) zero a h all = subst (λ x. P x.name) (same_Some b a h) (All-head P b.name (names_of bs) all)
name_of_all P (b ∷ bs) (suc i) a h all = name_of_all P bs i a h (All-tail P b.name (names_of bs) all)
