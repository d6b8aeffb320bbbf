-- Deltas and states of a program's relations.
use Rattle.std.proofs.Common.{◌≡◌, ℕ, suc, ◌+◌, ◌<◌, not, Bool, true, false, cond, List, [], ◌∷◌, ◌++◌, map, length, refl, sym, ap, ◌∙◌, subst, arith, append-nil, zero-add, filter}
use Rattle.std.specs.Prelude.{nat_eq, nat_lt}
use Rattle.std.specs.List.{list_all}
use Rattle.std.proofs.lemmas.Bool.{and_from, lt-ltb, eqb-true}
use Rattle.hera_sets.specs.Rows.{Row, is_below, IsBelowAll, IsAscending, holds, normal}
use Rattle.hera_sets.proofs.Members.{normal_ascending}
use Rattle.hera_sets.proofs.Order.{below_cons_same}
use Rattle.hera_meaning.proofs.DeltaLaws.{ascending_apply_to, smash_is_delta}
use Rattle.hera_meaning.specs.declared.scalars.Sign.{Sign}
use Rattle.hera_meaning.specs.declared.schemas.RelDecl.{RelDecl}
use Rattle.hera_meaning.specs.Rows.{is_row}
use Rattle.hera_meaning.specs.Deltas.{Atom, Delta, fail, atoms, State, key_of, keys_of, schema_of, plus_atoms, put_atom, in_order, unnamed, joint_atoms, smash_of, clash, merge_of, rows_named, apply_to, apply_from, apply_of}
use Rattle.hera_meaning.specs.Primitives.{atoms_of_rows}
use Rattle.hera_meaning.specs.Fits.{is_atom_of, is_delta_of}
use Rattle.hera_meaning.specs.Forms.{kinds_of}
use Rattle.hera_codegen.proofs.Codec.{IsRowOf, row_reads}
use Rattle.hera_codegen.proofs.HasForm.{AreRowsOf, IsTableOf, IsAtomIn, AreAtomsIn, IsChangeIn, IsDeltaIn, IsStateIn}
use Rattle.hera_codegen.proofs.Tables.{rows_normal, rows_filter, rows_append}

module _ (rels : List RelDecl) where
  atoms_filter : (test : Atom → Bool) (xs : List Atom) → AreAtomsIn rels xs → AreAtomsIn rels (filter test xs)
  atoms_filter test [] h = tt
  atoms_filter test (a ∷ xs) h = by (test a) (atoms_filter test xs h.1)
    where
      by : (b : Bool) → AreAtomsIn rels (filter test xs) → AreAtomsIn rels (cond b (a ∷ filter test xs) (filter test xs))
      by true ih = (h.0, ih)
      by false ih = ih

  atoms_append : (xs ys : List Atom) → AreAtomsIn rels xs → AreAtomsIn rels ys → AreAtomsIn rels (xs ++ ys)
  atoms_append [] ys h g = g
  atoms_append (a ∷ xs) ys h g = (h.0, atoms_append xs ys h.1 g)

  atoms_put : (a : Atom) (xs : List Atom) → IsAtomIn rels a → AreAtomsIn rels xs → AreAtomsIn rels (put_atom a xs)
  atoms_put a [] h g = (h, tt)
  atoms_put a (b ∷ xs) h g = by (is_below (key_of b) (key_of a)) (atoms_put a xs h g.1)
    where
      by : (c : Bool) → AreAtomsIn rels (put_atom a xs) → AreAtomsIn rels (cond c (b ∷ put_atom a xs) (a ∷ b ∷ xs))
      by true ih = (g.0, ih)
      by false ih = (h, g)

  atoms_in_order : (xs : List Atom) → AreAtomsIn rels xs → AreAtomsIn rels (in_order xs)
  atoms_in_order [] h = tt
  atoms_in_order (a ∷ xs) h = atoms_put a (in_order xs) h.0 (atoms_in_order xs h.1)

  joint_in : (xs ys : List Atom) → IsChangeIn rels xs → IsChangeIn rels ys → IsChangeIn rels (joint_atoms xs ys)
  joint_in xs ys h g = record {
    ascending = smash_is_delta (atoms xs) (atoms ys) h.ascending g.ascending;
    atoms_are = atoms_in_order (ys ++ unnamed xs ys) (atoms_append ys (unnamed xs ys) g.atoms_are (atoms_filter _ xs h.atoms_are));
  }

  pub smash_in : (d e : Delta) → IsDeltaIn rels d → IsDeltaIn rels e → IsDeltaIn rels (smash_of d e)
  smash_in fail fail h g = tt
  smash_in fail (atoms ys) h g = tt
  smash_in (atoms xs) fail h g = tt
  smash_in (atoms xs) (atoms ys) h g = joint_in xs ys h g

  pub merge_in : (d e : Delta) → IsDeltaIn rels d → IsDeltaIn rels e → IsDeltaIn rels (merge_of d e)
  merge_in fail fail h g = tt
  merge_in fail (atoms ys) h g = tt
  merge_in (atoms xs) fail h g = tt
  merge_in (atoms xs) (atoms ys) h g = by (clash xs ys)
    where
      by : (b : Bool) → IsDeltaIn rels (cond b fail (atoms (joint_atoms xs ys)))
      by true = tt
      by false = joint_in xs ys h g

  -- rows of one relation
  named_in : (r : ℕ) (xs : List Atom) → AreAtomsIn rels xs → AreRowsOf (kinds_of (schema_of rels r)) (rows_named r xs)
  named_in r [] h = tt
  named_in r (a ∷ xs) h = by (nat_eq a.rel r) refl (named_in r xs h.1)
    where
      by : (b : Bool) → nat_eq a.rel r ≡ b → AreRowsOf (kinds_of (schema_of rels r)) (rows_named r xs) → AreRowsOf (kinds_of (schema_of rels r)) (map (λ (a : Atom). a.row) (cond b (a ∷ filter (λ (a : Atom). nat_eq a.rel r) xs) (filter (λ (a : Atom). nat_eq a.rel r) xs)))
      by true e ih = (subst (λ k. IsRowOf (kinds_of (schema_of rels k)) a.row) (eqb-true a.rel r e) h.0.row_is, ih)
      by false e ih = ih

  named_below : (k : ℕ) (row : Row) (xs : List Atom) → IsBelowAll (k ∷ row) (keys_of xs) → IsBelowAll row (rows_named k xs)
  named_below k row [] h = tt
  named_below k row (a ∷ xs) h = by (nat_eq a.rel k) refl (named_below k row xs h.1)
    where
      by : (b : Bool) → nat_eq a.rel k ≡ b → IsBelowAll row (rows_named k xs) → IsBelowAll row (map (λ (a : Atom). a.row) (cond b (a ∷ filter (λ (a : Atom). nat_eq a.rel k) xs) (filter (λ (a : Atom). nat_eq a.rel k) xs)))
      by true e ih = (sym (below_cons_same k row a.row) ∙ subst (λ j. is_below (k ∷ row) (j ∷ a.row) ≡ true) (eqb-true a.rel k e) h.0, ih)
      by false e ih = ih

  named_ascending : (r : ℕ) (xs : List Atom) → IsAscending (keys_of xs) → IsAscending (rows_named r xs)
  named_ascending r [] h = tt
  named_ascending r (a ∷ xs) h = by (nat_eq a.rel r) refl (named_ascending r xs h.1)
    where
      by : (b : Bool) → nat_eq a.rel r ≡ b → IsAscending (rows_named r xs) → IsAscending (map (λ (a : Atom). a.row) (cond b (a ∷ filter (λ (a : Atom). nat_eq a.rel r) xs) (filter (λ (a : Atom). nat_eq a.rel r) xs)))
      by true e ih = (named_below r a.row xs (subst (λ k. IsBelowAll (k ∷ a.row) (keys_of xs)) (eqb-true a.rel r e) h.0), ih)
      by false e ih = ih

  below_filter : (test : Atom → Bool) (k : Row) (xs : List Atom) → IsBelowAll k (keys_of xs) → IsBelowAll k (keys_of (filter test xs))
  below_filter test k [] h = tt
  below_filter test k (a ∷ xs) h = by (test a) (below_filter test k xs h.1)
    where
      by : (b : Bool) → IsBelowAll k (keys_of (filter test xs)) → IsBelowAll k (keys_of (cond b (a ∷ filter test xs) (filter test xs)))
      by true ih = (h.0, ih)
      by false ih = ih

  keys_filter : (test : Atom → Bool) (xs : List Atom) → IsAscending (keys_of xs) → IsAscending (keys_of (filter test xs))
  keys_filter test [] h = tt
  keys_filter test (a ∷ xs) h = by (test a) (keys_filter test xs h.1)
    where
      by : (b : Bool) → IsAscending (keys_of (filter test xs)) → IsAscending (keys_of (cond b (a ∷ filter test xs) (filter test xs)))
      by true ih = (below_filter test (key_of a) xs h.0, ih)
      by false ih = ih

  -- the tuples of a relation with plus or minus
  pub named_table : (r : ℕ) (test : Atom → Bool) (xs : List Atom) → IsChangeIn rels xs → IsTableOf (kinds_of (schema_of rels r)) (rows_named r (filter test xs))
  named_table r test xs h = record { ascending = named_ascending r (filter test xs) (keys_filter test xs h.ascending); rows_are = named_in r (filter test xs) (atoms_filter test xs h.atoms_are) }

  -- a bulk
  bulk_below : (sign : Sign) (r : ℕ) (x : Row) (rows : List Row) → IsBelowAll x rows → IsBelowAll (r ∷ x) (keys_of (atoms_of_rows sign r rows))
  bulk_below sign r x [] h = tt
  bulk_below sign r x (y ∷ rows) h = (below_cons_same r x y ∙ h.0, bulk_below sign r x rows h.1)

  bulk_ascending : (sign : Sign) (r : ℕ) (rows : List Row) → IsAscending rows → IsAscending (keys_of (atoms_of_rows sign r rows))
  bulk_ascending sign r [] h = tt
  bulk_ascending sign r (x ∷ rows) h = (bulk_below sign r x rows h.0, bulk_ascending sign r rows h.1)

  bulk_atoms : (sign : Sign) (r : ℕ) (rows : List Row) → r < length rels → AreRowsOf (kinds_of (schema_of rels r)) rows → AreAtomsIn rels (atoms_of_rows sign r rows)
  bulk_atoms sign r [] lt h = tt
  bulk_atoms sign r (x ∷ rows) lt h = (record { known = lt; row_is = h.0 }, bulk_atoms sign r rows lt h.1)

  pub bulk_in : (sign : Sign) (r : ℕ) (rows : List Row) → r < length rels → IsTableOf (kinds_of (schema_of rels r)) rows → IsChangeIn rels (atoms_of_rows sign r rows)
  bulk_in sign r rows lt h = record { ascending = bulk_ascending sign r rows h.ascending; atoms_are = bulk_atoms sign r rows lt h.rows_are }

  -- the test of deltas
  atoms_test : (xs : List Atom) → AreAtomsIn rels xs → list_all (is_atom_of rels) xs ≡ true
  atoms_test [] h = refl
  atoms_test (a ∷ xs) h =
      and_from (is_atom_of rels a) (list_all (is_atom_of rels) xs) (and_from (nat_lt a.rel (length rels)) (is_row (schema_of rels a.rel) a.row) (lt-ltb a.rel (length rels) h.0.known) (row_reads (schema_of rels a.rel) a.row h.0.row_is)) (atoms_test xs h.1)

  pub delta_test : (d : Delta) → IsDeltaIn rels d → is_delta_of rels d ≡ true
  delta_test fail h = refl
  delta_test (atoms xs) h = atoms_test xs h.atoms_are

  -- a state stays one
  table_from : (r : ℕ) (rows : List Row) (xs : List Atom) → IsTableOf (kinds_of (schema_of rels r)) rows → AreAtomsIn rels xs → IsTableOf (kinds_of (schema_of rels r)) (apply_to r rows xs)
  table_from r rows xs h g = record {
    ascending = ascending_apply_to r rows xs;
    rows_are = rows_filter (kinds_of (schema_of rels r)) _ (normal (rows ++ rows_named r (plus_atoms xs)))
        (rows_normal (kinds_of (schema_of rels r)) (rows ++ rows_named r (plus_atoms xs)) (rows_append (kinds_of (schema_of rels r)) rows (rows_named r (plus_atoms xs)) h.rows_are (named_in r (plus_atoms xs) (atoms_filter _ xs g))));
  }

  state_from : (r : ℕ) (part : List RelDecl) (s : State) (xs : List Atom) → ((k : ℕ) → schema_of rels (r + k) ≡ schema_of part k) → IsStateIn part s → AreAtomsIn rels xs → IsStateIn part (apply_from r s xs)
  state_from r [] [] xs f h g = tt
  state_from r [] (rows ∷ s) xs f h g = absurd h
  state_from r (d ∷ part) [] xs f h g = absurd h
  state_from r (d ∷ part) (rows ∷ s) xs f h g =
      let e0 : r + 0 ≡ r = omega arith in
      let e : schema_of rels r ≡ d.schema = ap (schema_of rels) (sym e0) ∙ f 0 in (
        subst (λ schema. IsTableOf (kinds_of schema) (apply_to r rows xs)) e (table_from r rows xs (subst (λ schema. IsTableOf (kinds_of schema) rows) (sym e) h.0) g),
        state_from (suc r) part s xs (λ k. (let ek : suc r + k ≡ r + suc k = omega arith in ap (schema_of rels) ek) ∙ f (suc k)) h.1 g,
      )

  pub state_in : (s : State) (xs : List Atom) → IsStateIn rels s → IsChangeIn rels xs → IsStateIn rels (apply_of s (atoms xs))
  state_in s xs h g = state_from 0 rels s xs (λ k. ap (schema_of rels) (zero-add k)) h g.atoms_are

filter_all : (xs : List Row) → filter (λ x. not (holds [] x)) xs ≡ xs
filter_all [] = refl
filter_all (x ∷ xs) = ap (λ l. x ∷ l) (filter_all xs)

nothing_from : (r : ℕ) (rels : List RelDecl) (s : State) → IsStateIn rels s → apply_from r s [] ≡ s
nothing_from r [] [] h = refl
nothing_from r [] (rows ∷ s) h = absurd h
nothing_from r (d ∷ rels) [] h = absurd h
nothing_from r (d ∷ rels) (rows ∷ s) h =
    let e : apply_to r rows [] ≡ rows = filter_all (normal (rows ++ [])) ∙ ap normal (append-nil rows) ∙ normal_ascending rows h.0.ascending in
    ap (λ x. x ∷ apply_from (suc r) s []) e ∙ ap (λ s. rows ∷ s) (nothing_from (suc r) rels s h.1)

pub nothing_in : (rels : List RelDecl) (s : State) → IsStateIn rels s → apply_of s (atoms []) ≡ s
nothing_in rels s h = nothing_from 0 rels s h
