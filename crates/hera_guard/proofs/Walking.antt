-- Steps of the walk through rows.
use Rattle.std.proofs.Common.{◌≡◌, ℕ, zero, suc, ◌+◌, ◌≤◌, Bool, true, false, cond, ◌&&◌, ◌||◌, List, [], ◌∷◌, ◌++◌, Option, Some, None, filter, map, refl, sym, ap, ◌∙◌, subst, length, drop, arith, add-one, slice_get}
use Rattle.std.specs.Prelude.{nat_eq, All}
use Rattle.std.specs.List.{find, list_any}
use Rattle.std.proofs.Math.ListN.{drop_of_length-le}
use Rattle.std.proofs.lemmas.Bool.{false≢true, eqb-true}
use Rattle.std.proofs.lemmas.Option.{none-some, same_Some}
use Rattle.std.proofs.lemmas.List.Elements.{All-nil, All-cons, All-head, All-tail, All-filter}
use Rattle.hera_sets.specs.Rows.{Row, is_past, IsAscending}
use Rattle.hera_sets.proofs.Lists.{filter_past_step, filter_none_found}
use Rattle.hera_meaning.specs.declared.schemas.Attr.{Attr}
use Rattle.hera_meaning.specs.declared.schemas.RelDecl.{RelDecl}
use Rattle.hera_meaning.specs.Rows.{IsRow, field_at}
use Rattle.hera_meaning.specs.Printed.{name_of}
use Rattle.hera_meaning.specs.Hosts.{Hosts, host_at}
use Rattle.hera_meaning.specs.Deltas.{Atom, Delta, fail, atoms, State, IsState, IsAtomOf, IsDeltaOf, schema_of, plus_atoms, rows_named}
use Rattle.delta_atoms.specs.Atoms.{atoms_in}
use Rattle.hera_host.specs.Tables.{Host}
use Rattle.hera_guard.specs.declared.table.Guard.{Guard}
use Rattle.hera_guard.specs.declared.table.Break.{Break}
use Rattle.hera_guard.specs.Guards.{Suits, IsGuard, AreGuards, refuses, is_broken, broken, row_breaks, rows_breaks, breaks_from, first, added_from}
use Rattle.hera_guard.specs.Suiting.{SuitsIn, SuitRelation}
use Rattle.hera_guard.proofs.Firsts.{first_behind, first_in_front}

-- ---- lists by their places

pub drop_item : {A : Type 0} (xs : List A) (i : ℕ) (x : A) → slice_get xs i ≡ Some x → drop i xs ≡ x ∷ drop (suc i) xs
drop_item [] i x h = absurd (none-some x h)
drop_item (y ∷ xs) zero x h = ap (λ z. z ∷ xs) (same_Some y x h)
drop_item (y ∷ xs) (suc i) x h = drop_item xs i x h

-- ---- guards of one row

module _ (hosts : Hosts) (schema : List Attr) (r : ℕ) (row : Row) (guards : List Guard) where
  abbrev from : ℕ → Option Break
  from i = first (row_breaks hosts schema r row i (drop i guards))

  here : (i : ℕ) (g : Guard) → slice_get guards i ≡ Some g → from i ≡ first (row_breaks hosts schema r row i (g ∷ drop (suc i) guards))
  here i g at = ap (λ gs. first (row_breaks hosts schema r row i gs)) (drop_item guards i g at)

  pub guard_passes : (i j : ℕ) (g : Guard) → j ≡ i + 1 → slice_get guards i ≡ Some g → is_broken hosts schema r row g ≡ false → first (row_breaks hosts schema r row j (drop j guards)) ≡ first (row_breaks hosts schema r row i (drop i guards))
  guard_passes i j g next at passes =
      let rest = row_breaks hosts schema r row (suc i) (drop (suc i) guards) in
      ap from (next ∙ add-one i) ∙ sym (here i g at ∙ ap (λ b. first (cond b (broken i r row ∷ rest) rest)) passes)

  pub guard_broken : (i : ℕ) (g : Guard) → slice_get guards i ≡ Some g → is_broken hosts schema r row g ≡ true → Some (broken i r row) ≡ first (row_breaks hosts schema r row i (drop i guards))
  guard_broken i g at breaks =
      let rest = row_breaks hosts schema r row (suc i) (drop (suc i) guards) in
      sym (here i g at ∙ ap (λ b. first (cond b (broken i r row ∷ rest) rest)) breaks)

  pub guards_end : (i : ℕ) → length guards ≤ i → first (row_breaks hosts schema r row i (drop i guards)) ≡ None
  guards_end i h = ap (λ gs. first (row_breaks hosts schema r row i gs)) (drop_of_length-le guards h)

-- ---- rows of one relation

module _ (hosts : Hosts) (guards : List Guard) (schema : List Attr) (r : ℕ) where
  abbrev of_row : Row → List Break
  of_row row = row_breaks hosts schema r row 0 guards

  pub row_passes : (b : Option Row) (xs : List Row) (row : Row) → IsAscending xs → find (is_past b) xs ≡ Some row → first (row_breaks hosts schema r row 0 guards) ≡ None →
      first (rows_breaks hosts guards schema r (filter (is_past (Some row)) xs)) ≡ first (rows_breaks hosts guards schema r (filter (is_past b) xs))
  row_passes b xs row up found none =
      sym (ap (λ rows. first (rows_breaks hosts guards schema r rows)) (filter_past_step b xs row up found) ∙ first_behind (of_row row) (rows_breaks hosts guards schema r (filter (is_past (Some row)) xs)) none)

  pub row_breaks_first : (b : Option Row) (xs : List Row) (row : Row) (x : Break) → IsAscending xs → find (is_past b) xs ≡ Some row → first (row_breaks hosts schema r row 0 guards) ≡ Some x →
      Some x ≡ first (rows_breaks hosts guards schema r (filter (is_past b) xs))
  row_breaks_first b xs row x up found some =
      sym (ap (λ rows. first (rows_breaks hosts guards schema r rows)) (filter_past_step b xs row up found) ∙ first_in_front (of_row row) (rows_breaks hosts guards schema r (filter (is_past (Some row)) xs)) x some)

  pub rows_end : (b : Option Row) (xs : List Row) → find (is_past b) xs ≡ None → first (rows_breaks hosts guards schema r (filter (is_past b) xs)) ≡ None
  rows_end b xs none = ap (λ rows. first (rows_breaks hosts guards schema r rows)) (filter_none_found (is_past b) xs none)

  -- without a guard of the relation
  no_guard : (row : Row) (n : ℕ) (gs : List Guard) → list_any (λ g. nat_eq g.rel.0 r) gs ≡ false → row_breaks hosts schema r row n gs ≡ []
  no_guard row n [] none = refl
  no_guard row n (g ∷ gs) none = by (nat_eq g.rel.0 r) refl none (no_guard row (suc n) gs)
    where
      by : (v : Bool) → nat_eq g.rel.0 r ≡ v → (v || list_any (λ g. nat_eq g.rel.0 r) gs) ≡ false → (list_any (λ g. nat_eq g.rel.0 r) gs ≡ false → row_breaks hosts schema r row (suc n) gs ≡ []) → row_breaks hosts schema r row n (g ∷ gs) ≡ []
      by true e f more = absurd (false≢true (sym f))
      by false e f more =
          let rest = row_breaks hosts schema r row (suc n) gs in
          ap (λ b. cond (b && refuses (host_at hosts g.host) (field_at schema row g.place)) (broken n r row ∷ rest) rest) e ∙ more f

  pub rows_unguarded : (rows : List Row) → list_any (λ g. nat_eq g.rel.0 r) guards ≡ false → rows_breaks hosts guards schema r rows ≡ []
  rows_unguarded [] none = refl
  rows_unguarded (row ∷ rows) none = λ i. no_guard row 0 guards none i ++ rows_unguarded rows none i

-- ---- relation after relation

module _ (hosts : Hosts) (guards : List Guard) (rels : List RelDecl) (s : State) where
  abbrev after : ℕ → Option Break
  after i = first (breaks_from hosts guards i (drop i rels) (drop i s))

  at : (i : ℕ) (d : RelDecl) (rows : List Row) → slice_get rels i ≡ Some d → slice_get s i ≡ Some rows →
      after i ≡ first (rows_breaks hosts guards d.schema i rows ++ breaks_from hosts guards (suc i) (drop (suc i) rels) (drop (suc i) s))
  at i d rows there held = λ k. first (breaks_from hosts guards i (drop_item rels i d there k) (drop_item s i rows held k))

  pub relation_passes : (i j : ℕ) (d : RelDecl) (rows : List Row) → j ≡ i + 1 → slice_get rels i ≡ Some d → slice_get s i ≡ Some rows → first (rows_breaks hosts guards d.schema i rows) ≡ None →
      first (breaks_from hosts guards j (drop j rels) (drop j s)) ≡ first (breaks_from hosts guards i (drop i rels) (drop i s))
  relation_passes i j d rows next there held none =
      ap after (next ∙ add-one i) ∙ sym (at i d rows there held ∙ first_behind (rows_breaks hosts guards d.schema i rows) (breaks_from hosts guards (suc i) (drop (suc i) rels) (drop (suc i) s)) none)

  pub relation_breaks : (i : ℕ) (d : RelDecl) (rows : List Row) (x : Break) → slice_get rels i ≡ Some d → slice_get s i ≡ Some rows → first (rows_breaks hosts guards d.schema i rows) ≡ Some x →
      Some x ≡ first (breaks_from hosts guards i (drop i rels) (drop i s))
  relation_breaks i d rows x there held some =
      sym (at i d rows there held ∙ first_in_front (rows_breaks hosts guards d.schema i rows) (breaks_from hosts guards (suc i) (drop (suc i) rels) (drop (suc i) s)) x some)

  pub relations_end : (i : ℕ) → length rels ≤ i → first (breaks_from hosts guards i (drop i rels) (drop i s)) ≡ None
  relations_end i h = ap (λ ds. first (breaks_from hosts guards i ds (drop i s))) (drop_of_length-le rels h)

-- ---- what the walk may ask

pub schema_found : (rels : List RelDecl) (r : ℕ) (d : RelDecl) → slice_get rels r ≡ Some d → schema_of rels r ≡ d.schema
schema_found [] r d e = absurd (none-some d e)
schema_found (x ∷ rels) zero d e = ap (λ (y : RelDecl). y.schema) (same_Some x d e)
schema_found (x ∷ rels) (suc r) d e = schema_found rels r d e

-- each guard of a relation suits its schema
pub suit_relation : (rels : List RelDecl) (hosts : List Host) (guards : List Guard) (r : ℕ) (d : RelDecl) → AreGuards rels hosts guards → slice_get rels r ≡ Some d → SuitRelation d.schema r hosts guards
suit_relation rels hosts [] r d are there = All-nil (SuitsIn d.schema r hosts)
suit_relation rels hosts (g ∷ guards) r d are there =
    All-cons (SuitsIn d.schema r hosts) g guards
    (λ same. subst (λ schema. Suits schema hosts g) (ap (schema_of rels) same ∙ schema_found rels r d there) (All-head (IsGuard rels hosts) g guards are).suits)
    (suit_relation rels hosts guards r d (All-tail (IsGuard rels hosts) g guards are) there)

-- the rows of a relation of a state are of its schema
pub rows_of_state : (rels : List RelDecl) (s : State) (r : ℕ) (d : RelDecl) (rows : List Row) → IsState rels s → slice_get rels r ≡ Some d → slice_get s r ≡ Some rows → All (IsRow d.schema) rows
rows_of_state [] s r d rows valid there held = absurd (none-some d there)
rows_of_state (x ∷ rels) [] r d rows valid there held = absurd valid
rows_of_state (x ∷ rels) (xs ∷ s) zero d rows valid there held =
    subst (λ (ys : List Row). All (IsRow d.schema) ys) (same_Some xs rows held) (subst (λ (y : RelDecl). All (IsRow y.schema) xs) (same_Some x d there) valid.0.1)
rows_of_state (x ∷ rels) (xs ∷ s) (suc r) d rows valid there held = rows_of_state rels s r d rows valid.1 there held

-- the rows that a delta puts into a relation
added_at : (k : ℕ) (rels : List RelDecl) (xs : List Atom) (i : ℕ) (d : RelDecl) → slice_get rels i ≡ Some d → slice_get (added_from k rels xs) i ≡ Some (rows_named (k + i) (plus_atoms xs))
added_at k [] xs i d there = absurd (none-some d there)
added_at k (x ∷ rels) xs zero d there = ap (λ n. Some (rows_named n (plus_atoms xs))) (let e : k ≡ k + 0 = omega arith in e)
added_at k (x ∷ rels) xs (suc i) d there = added_at (suc k) rels xs i d there ∙ ap (λ n. Some (rows_named n (plus_atoms xs))) (let e : suc k + i ≡ k + suc i = omega arith in e)

pub added_rows_at : (rels : List RelDecl) (xs : List Atom) (r : ℕ) (d : RelDecl) → slice_get rels r ≡ Some d → slice_get (added_from 0 rels xs) r ≡ Some (rows_named r (plus_atoms xs))
added_rows_at rels xs r d there = added_at 0 rels xs r d there ∙ ap (λ n. Some (rows_named n (plus_atoms xs))) (let e : 0 + r ≡ r = omega arith in e)

-- they are of its schema
pub named_rows : (rels : List RelDecl) (r : ℕ) (xs : List Atom) → All (IsAtomOf rels) xs → All (IsRow (schema_of rels r)) (rows_named r xs)
named_rows rels r [] all = All-nil (IsRow (schema_of rels r))
named_rows rels r (a ∷ xs) all = by (nat_eq a.rel r) refl (named_rows rels r xs (All-tail (IsAtomOf rels) a xs all))
  where
    by : (b : Bool) → nat_eq a.rel r ≡ b → All (IsRow (schema_of rels r)) (rows_named r xs) → All (IsRow (schema_of rels r)) (map (λ (a : Atom). a.row) (cond b (a ∷ filter (λ (a : Atom). nat_eq a.rel r) xs) (filter (λ (a : Atom). nat_eq a.rel r) xs)))
    by true e more = All-cons (IsRow (schema_of rels r)) a.row (rows_named r xs) (subst (λ (k : ℕ). IsRow (schema_of rels k) a.row) (eqb-true a.rel r e) (All-head (IsAtomOf rels) a xs all).row) more
    by false e more = more

pub added_rows_known : (rels : List RelDecl) (delta : Delta) (r : ℕ) (d : RelDecl) → IsDeltaOf rels delta → slice_get rels r ≡ Some d → All (IsRow d.schema) (rows_named r (plus_atoms (atoms_in delta)))
added_rows_known rels fail r d known there = All-nil (IsRow d.schema)
added_rows_known rels (atoms xs) r d known there =
    subst (λ schema. All (IsRow schema) (rows_named r (plus_atoms xs))) (schema_found rels r d there) (named_rows rels r (plus_atoms xs) (All-filter _ (IsAtomOf rels) xs known))

-- the name of a declared relation
pub name_found : (rels : List RelDecl) (r : ℕ) (d : RelDecl) → slice_get rels r ≡ Some d → name_of rels r ≡ d.name
name_found [] r d e = absurd (none-some d e)
name_found (x ∷ rels) zero d e = ap (λ (y : RelDecl). y.name) (same_Some x d e)
name_found (x ∷ rels) (suc r) d e = name_found rels r d e

-- an item of a list has what all have
pub all_at : {A : Type 0} (P : A → Type 0) (xs : List A) (i : ℕ) (x : A) → All P xs → slice_get xs i ≡ Some x → P x
all_at P [] i x all e = absurd (none-some x e)
all_at P (y ∷ xs) zero x all e = subst P (same_Some y x e) (All-head P y xs all)
all_at P (y ∷ xs) (suc i) x all e = all_at P xs i x (All-tail P y xs all) e

-- and one that is found
pub all_found : {A : Type 0} (P : A → Type 0) (p : A → Bool) (xs : List A) (x : A) → All P xs → find p xs ≡ Some x → P x
all_found P p [] x all e = absurd (none-some x e)
all_found P p (y ∷ xs) x all e =
    elim (p y) as (λ v. cond v (Some y) (find p xs) ≡ Some x → P x) [
      | true ↦ λ h. subst P (same_Some y x h) (All-head P y xs all)
      | false ↦ λ h. all_found P p xs x (All-tail P y xs all) h
    ] e
