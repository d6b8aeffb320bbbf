-- The rows that break a guard after a delta are among those that it puts in.
use Rattle.std.proofs.Common.{◌≡◌, ℕ, suc, not, Bool, true, false, cond, ◌&&◌, ◌||◌, List, [], ◌∷◌, ◌++◌, Option, Some, None, filter, refl, sym, ap, ◌∙◌, inl, inr}
use Rattle.std.specs.List.{flat_map}
use Rattle.std.proofs.lemmas.Bool.{false≢true, or_cases}
use Rattle.hera_sets.specs.Rows.{Row, is_same, holds, normal, IsAscending}
use Rattle.hera_sets.proofs.Order.{same_true}
use Rattle.hera_sets.proofs.Lists.{ascending_filter}
use Rattle.hera_sets.proofs.Members.{holds-append, holds-filter, holds-normal, same_rows}
use Rattle.hera_meaning.specs.declared.scalars.Sign.{Sign}
use Rattle.hera_meaning.specs.declared.scalars.Sign.TheVariants.{Plus, Minus}
use Rattle.hera_meaning.specs.declared.schemas.RelDecl.{RelDecl}
use Rattle.hera_meaning.specs.Hosts.{Hosts}
use Rattle.hera_meaning.specs.Deltas.{Atom, Delta, fail, atoms, State, IsState, IsDelta, keys_of, plus_atoms, minus_atoms, rows_named, apply_to, apply_from, apply_of}
use Rattle.hera_meaning.proofs.DeltaLaws.{ascending_apply_to}
use Rattle.delta_atoms.specs.Atoms.{sign_at}
use Rattle.delta_atoms.specs.Edits.{gives}
use Rattle.delta_atoms.proofs.Sides.{holds-part_of, ascending_part_of}
use Rattle.hera_guard.specs.declared.table.Guard.{Guard}
use Rattle.hera_guard.specs.Guards.{row_breaks, rows_breaks, breaks_from, breaks, added_from, added_of}
use Rattle.hera_guard.proofs.Firsts.{front_empty, rest_empty}

-- ---- the rows of which there is something

abbrev has : {A : Type 0} → List A → Bool
has [] = false
has (x ∷ xs) = true

-- only the rows of which there is something count
flat_map-filter : {A : Type 0} (f : Row → List A) (rows : List Row) → flat_map f rows ≡ flat_map f (filter (λ x. has (f x)) rows)
flat_map-filter f [] = refl
flat_map-filter {A} f (x ∷ rows) = by (f x) refl (flat_map-filter f rows)
  where
    by : (ys : List A) → f x ≡ ys → flat_map f rows ≡ flat_map f (filter (λ x. has (f x)) rows) →
        f x ++ flat_map f rows ≡ flat_map f (cond (has ys) (x ∷ filter (λ x. has (f x)) rows) (filter (λ x. has (f x)) rows))
    by [] e more = ap (λ t. t ++ flat_map f rows) e ∙ more
    by (y ∷ ys) e more = ap (λ t. f x ++ t) more

-- where there is nothing of all rows, there is nothing of each
none_of : {A : Type 0} (f : Row → List A) (rows : List Row) (q : Row) → flat_map f rows ≡ [] → holds rows q ≡ true → has (f q) ≡ false
none_of f [] q e h = absurd (false≢true h)
none_of f (x ∷ rows) q e h =
    elim (or_cases (is_same q x) (holds rows q) h) as (λ _. has (f q) ≡ false) [
      | inl same ↦ ap has (ap f (same_true q x same) ∙ front_empty (f x) (flat_map f rows) e)
      | inr later ↦ none_of f rows q (rest_empty (f x) (flat_map f rows) e) later
    ]

-- ---- one relation

-- something of it; in the rows; plus; minus
counted : (t h p m : Bool) → (h ≡ true → t ≡ false) → (p ≡ true → m ≡ false) → (t && (not m && (h || p))) ≡ (t && p)
counted false h p m a b = refl
counted true true p m a b = absurd (false≢true (sym (a refl)))
counted true false true true a b = absurd (false≢true (sym (b refl)))
counted true false true false a b = refl
counted true false false true a b = refl
counted true false false false a b = refl

-- no row is both put in and taken out
apart : (o : Option Sign) → gives o Plus ≡ true → gives o Minus ≡ false
apart None h = refl
apart (Some Plus) h = refl
apart (Some Minus) h = absurd (false≢true h)

rows_apart : (r : ℕ) (xs : List Atom) (q : Row) → IsAscending (keys_of xs) → holds (rows_named r (plus_atoms xs)) q ≡ true → holds (rows_named r (minus_atoms xs)) q ≡ false
rows_apart r xs q up h = holds-part_of xs r Minus q up ∙ apart (sign_at xs (r ∷ q)) (sym (holds-part_of xs r Plus q up) ∙ h)

rows_added : {A : Type 0} (f : Row → List A) (r : ℕ) (rows : List Row) (xs : List Atom) → IsAscending (keys_of xs) → flat_map f rows ≡ [] → flat_map f (apply_to r rows xs) ≡ flat_map f (rows_named r (plus_atoms xs))
rows_added f r rows xs up none =
    let t : Row → Bool = λ x. has (f x) in
    let plus = rows_named r (plus_atoms xs) in
    let minus = rows_named r (minus_atoms xs) in
    let found : (q : Row) → holds (apply_to r rows xs) q ≡ (not (holds minus q) && (holds rows q || holds plus q)) = λ q.
    holds-filter (λ x. not (holds minus x)) (normal (rows ++ plus)) q ∙ ap (λ b. not (holds minus q) && b) (holds-normal (rows ++ plus) q ∙ holds-append rows plus q) in
    let same : filter t (apply_to r rows xs) ≡ filter t plus =
    same_rows (filter t (apply_to r rows xs)) (filter t plus) (ascending_filter t (apply_to r rows xs) (ascending_apply_to r rows xs)) (ascending_filter t plus (ascending_part_of xs r Plus up))
    (λ q. holds-filter t (apply_to r rows xs) q ∙ ap (λ b. t q && b) (found q)
    ∙ counted (t q) (holds rows q) (holds plus q) (holds minus q) (none_of f rows q none) (rows_apart r xs q up)
    ∙ sym (holds-filter t plus q)) in
    flat_map-filter f (apply_to r rows xs) ∙ ap (flat_map f) same ∙ sym (flat_map-filter f plus)

-- ---- all relations

module _ (hosts : Hosts) (guards : List Guard) where
  breaks_added : (r : ℕ) (rels : List RelDecl) (s : State) (xs : List Atom) → IsState rels s → IsAscending (keys_of xs) → breaks_from hosts guards r rels s ≡ [] →
      breaks_from hosts guards r rels (apply_from r s xs) ≡ breaks_from hosts guards r rels (added_from r rels xs)
  breaks_added r [] [] xs valid up none = refl
  breaks_added r [] (rows ∷ s) xs valid up none = absurd valid
  breaks_added r (d ∷ rels) [] xs valid up none = absurd valid
  breaks_added r (d ∷ rels) (rows ∷ s) xs valid up none =
      let here = rows_breaks hosts guards d.schema r rows in
      let later = breaks_from hosts guards (suc r) rels s in
      let one = rows_added (λ row. row_breaks hosts d.schema r row 0 guards) r rows xs up (front_empty here later none) in
      let others = breaks_added (suc r) rels s xs valid.1 up (rest_empty here later none) in
      λ i. one i ++ others i

  none_added : (r : ℕ) (rels : List RelDecl) → breaks_from hosts guards r rels (added_from r rels []) ≡ []
  none_added r [] = refl
  none_added r (d ∷ rels) = none_added (suc r) rels

  pub added_suffice : (rels : List RelDecl) (s : State) (d : Delta) → IsState rels s → IsDelta d → breaks hosts guards rels s ≡ [] → breaks hosts guards rels (apply_of s d) ≡ breaks hosts guards rels (added_of rels d)
  added_suffice rels s fail valid up none = none ∙ sym (none_added 0 rels)
  added_suffice rels s (atoms xs) valid up none = breaks_added 0 rels s xs valid up none
