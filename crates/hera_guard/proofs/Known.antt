-- Breaks are of relations, rows and guards that are there.
use Rattle.std.proofs.Common.{◌≡◌, ℕ, suc, ◌+◌, ◌<◌, true, false, cond, List, [], ◌∷◌, Option, sym, ap, ◌∙◌, subst, length, arith, zero-add}
use Rattle.std.specs.Prelude.{All, IfSome}
use Rattle.std.proofs.lemmas.List.Elements.{All-nil, All-cons, All-head, All-tail, All-append, All-filter}
use Rattle.hera_sets.specs.Rows.{Row}
use Rattle.hera_meaning.specs.declared.scalars.Sign.TheVariants.{Plus}
use Rattle.hera_meaning.specs.declared.schemas.Attr.{Attr}
use Rattle.hera_meaning.specs.declared.schemas.RelDecl.{RelDecl}
use Rattle.hera_meaning.specs.Rows.{IsRow}
use Rattle.hera_meaning.specs.Hosts.{Hosts}
use Rattle.hera_meaning.specs.Deltas.{Atom, Delta, fail, atoms, State, IsState, IsDelta, IsDeltaOf, IsAtomOf, schema_of, plus_atoms, rows_named}
use Rattle.delta_atoms.proofs.Sides.{ascending_part_of}
use Rattle.hera_guard.specs.declared.table.Guard.{Guard}
use Rattle.hera_guard.specs.declared.table.Break.{Break}
use Rattle.hera_guard.specs.Guards.{is_broken, broken, row_breaks, rows_breaks, breaks_from, breaks, first, IsBreakOf, added_from, added_of}
use Rattle.hera_guard.proofs.Walking.{named_rows}

module _ (hosts : Hosts) (P : Break → Type 0) (r : ℕ) (schema : List Attr) where
  -- of one row
  row_known : (row : Row) (n : ℕ) (guards : List Guard) → ((k : ℕ) → k < n + length guards → P (broken k r row)) → All P (row_breaks hosts schema r row n guards)
  row_known row n [] f = All-nil P
  row_known row n (g ∷ guards) f =
      let rest = row_breaks hosts schema r row (suc n) guards in
      let more : All P rest = row_known row (suc n) guards (λ k h. f k (omega (arith, h))) in
      elim (is_broken hosts schema r row g) as (λ v. All P (cond v (broken n r row ∷ rest) rest)) [
        | true ↦ All-cons P (broken n r row) rest (f n (omega arith)) more
        | false ↦ more
      ]

  -- of one relation
  rows_known : (guards : List Guard) (rows : List Row) → All (λ row. (k : ℕ) → k < length guards → P (broken k r row)) rows → All P (rows_breaks hosts guards schema r rows)
  rows_known guards [] all = All-nil P
  rows_known guards (row ∷ rows) all =
      let Q : Row → Type 0 = λ row. (k : ℕ) → k < length guards → P (broken k r row) in
      All-append P (row_breaks hosts schema r row 0 guards) (rows_breaks hosts guards schema r rows)
      (row_known row 0 guards (λ k h. All-head Q row rows all k (omega (arith, h))))
      (rows_known guards rows (All-tail Q row rows all))

module _ (hosts : Hosts) (guards : List Guard) (rels : List RelDecl) where
  of_rows : (r : ℕ) → r < length rels → (rows : List Row) → All (IsRow (schema_of rels r)) rows → All (λ row. (k : ℕ) → k < length guards → IsBreakOf rels guards (broken k r row)) rows
  of_rows r there [] all = All-nil (λ row. (k : ℕ) → k < length guards → IsBreakOf rels guards (broken k r row))
  of_rows r there (row ∷ rows) all =
      All-cons (λ row. (k : ℕ) → k < length guards → IsBreakOf rels guards (broken k r row)) row rows
      (λ k h. record { relation = there; row = All-head (IsRow (schema_of rels r)) row rows all; guard = h })
      (of_rows r there rows (All-tail (IsRow (schema_of rels r)) row rows all))

  -- of the relations from number r on
  from_known : (r : ℕ) (part : List RelDecl) (s : State) → ((k : ℕ) → schema_of rels (r + k) ≡ schema_of part k) → r + length part ≡ length rels → IsState part s → All (IsBreakOf rels guards) (breaks_from hosts guards r part s)
  from_known r [] s same long valid = All-nil (IsBreakOf rels guards)
  from_known r (d ∷ part) [] same long valid = absurd valid
  from_known r (d ∷ part) (rows ∷ s) same long valid =
      let none : r + 0 ≡ r = omega arith in
      let schema : schema_of rels r ≡ d.schema = ap (schema_of rels) (sym none) ∙ same 0 in
      let are : All (IsRow (schema_of rels r)) rows = subst (λ schema. All (IsRow schema) rows) (sym schema) valid.0.1 in
      All-append (IsBreakOf rels guards) (rows_breaks hosts guards d.schema r rows) (breaks_from hosts guards (suc r) part s)
      (rows_known hosts (IsBreakOf rels guards) r d.schema guards rows (of_rows r (omega (arith, long)) rows are))
      (from_known (suc r) part s (λ k. (let next : suc r + k ≡ r + suc k = omega arith in ap (schema_of rels) next) ∙ same (suc k)) (omega (arith, long)) valid.1)

  first_of_all : (P : Break → Type 0) (xs : List Break) (o : Option Break) → o ≡ first xs → All P xs → IfSome o P
  first_of_all P [] o e all = subst (λ o. IfSome o P) (sym e) tt
  first_of_all P (x ∷ xs) o e all = subst (λ o. IfSome o P) (sym e) (All-head P x xs all)

  pub first_known : (s : State) (o : Option Break) → IsState rels s → o ≡ first (breaks hosts guards rels s) → IfSome o (IsBreakOf rels guards)
  first_known s o valid e =
      first_of_all (IsBreakOf rels guards) (breaks hosts guards rels s) o e (from_known 0 rels s (λ k. ap (schema_of rels) (zero-add k)) (zero-add (length rels)) valid)

-- the rows that a delta puts in are a state
added_state_from : (rels : List RelDecl) (r : ℕ) (part : List RelDecl) (xs : List Atom) → ((k : ℕ) → schema_of rels (r + k) ≡ schema_of part k) → IsDelta (atoms xs) → All (IsAtomOf rels) (plus_atoms xs) → IsState part (added_from r part xs)
added_state_from rels r [] xs same up known = tt
added_state_from rels r (d ∷ part) xs same up known =
    let none : r + 0 ≡ r = omega arith in
    let schema : schema_of rels r ≡ d.schema = ap (schema_of rels) (sym none) ∙ same 0 in
    let rows = rows_named r (plus_atoms xs) in (
      (ascending_part_of xs r Plus up, subst (λ schema. All (IsRow schema) rows) schema (named_rows rels r (plus_atoms xs) known)),
      added_state_from rels (suc r) part xs (λ k. (let next : suc r + k ≡ r + suc k = omega arith in ap (schema_of rels) next) ∙ same (suc k)) up known,
    )

pub added_is_state : (rels : List RelDecl) (d : Delta) → IsDelta d → IsDeltaOf rels d → IsState rels (added_of rels d)
added_is_state rels fail up known = added_state_from rels 0 rels [] (λ k. ap (schema_of rels) (zero-add k)) tt (All-nil (IsAtomOf rels))
added_is_state rels (atoms xs) up known = added_state_from rels 0 rels xs (λ k. ap (schema_of rels) (zero-add k)) up (All-filter _ (IsAtomOf rels) xs known)
