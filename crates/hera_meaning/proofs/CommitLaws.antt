-- States after commits, and smashes of commits.
use Rattle.std.proofs.Common.{◌≡◌, ℕ, suc, ◌+◌, not, Bool, true, false, cond, List, [], ◌∷◌, ◌++◌, map, filter, refl, sym, ap, ◌∙◌, subst, arith, append-nil, zero-add}
use Rattle.std.specs.Prelude.{nat_eq, All}
use Rattle.std.proofs.lemmas.Bool.{eqb-true}
use Rattle.std.proofs.lemmas.List.Elements.{All-nil, All-cons, All-head, All-tail, All-append, All-filter}
use Rattle.hera_sets.specs.Rows.{Row, is_below, holds, put, normal}
use Rattle.hera_sets.proofs.Members.{normal_ascending}
use Rattle.hera_meaning.proofs.DeltaLaws.{ascending_apply_to, apply_of-smash_of}
use Rattle.hera_meaning.specs.declared.schemas.RelDecl.{RelDecl}
use Rattle.hera_meaning.specs.Rows.{IsRow}
use Rattle.hera_meaning.specs.Deltas.{Atom, Delta, fail, atoms, State, IsState, IsAtomOf, IsDeltaOf, key_of, schema_of, plus_atoms, minus_atoms, put_atom, in_order, unnamed, smash_of, rows_named, apply_to, apply_from, apply_of}
use Rattle.hera_meaning.specs.Commits.{after_all, smashed, smash_all, IsCommitOf, IsSmashOf}

-- ---- a state stays one

all_put : (P : Row → Type 0) (x : Row) (xs : List Row) → P x → All P xs → All P (put x xs)
all_put P x [] p all = All-cons P x [] p (All-nil P)
all_put P x (y ∷ ys) p all = by (is_below x y) (is_below y x) (all_put P x ys p (All-tail P y ys all))
  where
    by : (v w : Bool) → All P (put x ys) → All P (cond v (x ∷ y ∷ ys) (y ∷ cond w (put x ys) ys))
    by true w more = All-cons P x (y ∷ ys) p all
    by false true more = All-cons P y (put x ys) (All-head P y ys all) more
    by false false more = all

all_normal : (P : Row → Type 0) (xs : List Row) → All P xs → All P (normal xs)
all_normal P [] all = all
all_normal P (x ∷ xs) all = all_put P x (normal xs) (All-head P x xs all) (all_normal P xs (All-tail P x xs all))

module _ (rels : List RelDecl) where
  named_rows : (r : ℕ) (xs : List Atom) → All (IsAtomOf rels) xs → All (IsRow (schema_of rels r)) (rows_named r xs)
  named_rows r [] all = All-nil (IsRow (schema_of rels r))
  named_rows r (a ∷ xs) all = by (nat_eq a.rel r) refl (named_rows r xs (All-tail (IsAtomOf rels) a xs all))
    where
      by : (b : Bool) → nat_eq a.rel r ≡ b → All (IsRow (schema_of rels r)) (rows_named r xs) → All (IsRow (schema_of rels r)) (map (λ (a : Atom). a.row) (cond b (a ∷ filter (λ (a : Atom). nat_eq a.rel r) xs) (filter (λ (a : Atom). nat_eq a.rel r) xs)))
      by true e more = All-cons (IsRow (schema_of rels r)) a.row (rows_named r xs) (subst (λ (k : ℕ). IsRow (schema_of rels k) a.row) (eqb-true a.rel r e) (All-head (IsAtomOf rels) a xs all).row) more
      by false e more = more

  rows_after : (r : ℕ) (rows : List Row) (xs : List Atom) → All (IsRow (schema_of rels r)) rows → All (IsAtomOf rels) xs → All (IsRow (schema_of rels r)) (apply_to r rows xs)
  rows_after r rows xs all known =
      let P = IsRow (schema_of rels r) in
      let plus = rows_named r (plus_atoms xs) in
      let named = named_rows r (plus_atoms xs) (All-filter _ (IsAtomOf rels) xs known) in
      All-filter (λ x. not (holds (rows_named r (minus_atoms xs)) x)) P (normal (rows ++ plus)) (all_normal P (rows ++ plus) (All-append P rows plus all named))

  state_from : (r : ℕ) (part : List RelDecl) (s : State) (xs : List Atom) → ((k : ℕ) → schema_of rels (r + k) ≡ schema_of part k) → IsState part s → All (IsAtomOf rels) xs → IsState part (apply_from r s xs)
  state_from r [] [] xs same valid known = tt
  state_from r [] (rows ∷ s) xs same valid known = absurd valid
  state_from r (d ∷ part) [] xs same valid known = absurd valid
  state_from r (d ∷ part) (rows ∷ s) xs same valid known =
      let here : r + 0 ≡ r = omega arith in
      let schema : schema_of rels r ≡ d.schema = ap (schema_of rels) (sym here) ∙ same 0 in
      let old : All (IsRow (schema_of rels r)) rows = subst (λ schema. All (IsRow schema) rows) (sym schema) valid.0.1 in
      let new : All (IsRow d.schema) (apply_to r rows xs) = subst (λ schema. All (IsRow schema) (apply_to r rows xs)) schema (rows_after r rows xs old known) in
      ((ascending_apply_to r rows xs, new), state_from (suc r) part s xs (λ k. (let next : suc r + k ≡ r + suc k = omega arith in ap (schema_of rels) next) ∙ same (suc k)) valid.1 known)

  pub state_after_one : (s : State) (d : Delta) → IsState rels s → IsDeltaOf rels d → IsState rels (apply_of s d)
  state_after_one s fail valid known = valid
  state_after_one s (atoms xs) valid known = state_from 0 rels s xs (λ k. ap (schema_of rels) (zero-add k)) valid known

  pub state_after_all : (s : State) (ds : List Delta) → IsState rels s → All (IsCommitOf rels) ds → IsState rels (after_all s ds)
  state_after_all s [] valid all = valid
  state_after_all s (d ∷ ds) valid all = state_after_all (apply_of s d) ds (state_after_one s d valid (All-head (IsCommitOf rels) d ds all).known) (All-tail (IsCommitOf rels) d ds all)

-- ---- deltas in order

pub state_push : (s : State) (ds : List Delta) (d : Delta) → after_all s (ds ++ d ∷ []) ≡ apply_of (after_all s ds) d
state_push s [] d = refl
state_push s (e ∷ ds) d = state_push (apply_of s e) ds d

filter_all : (xs : List Row) → filter (λ x. not (holds [] x)) xs ≡ xs
filter_all [] = refl
filter_all (x ∷ xs) = ap (λ (l : List Row). x ∷ l) (filter_all xs)

nothing_from : (r : ℕ) (rels : List RelDecl) (s : State) → IsState rels s → apply_from r s [] ≡ s
nothing_from r [] [] valid = refl
nothing_from r [] (rows ∷ s) valid = absurd valid
nothing_from r (d ∷ rels) [] valid = absurd valid
nothing_from r (d ∷ rels) (rows ∷ s) valid =
    let e : apply_to r rows [] ≡ rows = filter_all (normal (rows ++ [])) ∙ ap normal (append-nil rows) ∙ normal_ascending rows valid.0.0 in
    ap (λ (x : List Row). x ∷ apply_from (suc r) s []) e ∙ ap (λ (s : State). rows ∷ s) (nothing_from (suc r) rels s valid.1)

pub nothing_applied : (rels : List RelDecl) (s : State) → IsState rels s → apply_of s (atoms []) ≡ s
nothing_applied rels s valid = nothing_from 0 rels s valid

-- ---- a smash of commits is one

all_put_atom : (P : Atom → Type 0) (a : Atom) (xs : List Atom) → P a → All P xs → All P (put_atom a xs)
all_put_atom P a [] p all = All-cons P a [] p (All-nil P)
all_put_atom P a (b ∷ xs) p all = by (is_below (key_of b) (key_of a)) (all_put_atom P a xs p (All-tail P b xs all))
  where
    by : (c : Bool) → All P (put_atom a xs) → All P (cond c (b ∷ put_atom a xs) (a ∷ b ∷ xs))
    by true more = All-cons P b (put_atom a xs) (All-head P b xs all) more
    by false more = All-cons P a (b ∷ xs) p all

all_in_order : (P : Atom → Type 0) (xs : List Atom) → All P xs → All P (in_order xs)
all_in_order P [] all = all
all_in_order P (a ∷ xs) all = all_put_atom P a (in_order xs) (All-head P a xs all) (all_in_order P xs (All-tail P a xs all))

pub smash_is_commit : (rels : List RelDecl) (d e : Delta) → IsCommitOf rels d → IsCommitOf rels e → IsCommitOf rels (smash_of d e)
smash_is_commit rels fail e h g = cc
smash_is_commit rels (atoms xs) fail h g = cc
smash_is_commit rels (atoms xs) (atoms ys) h g = record {
  proper = refl;
  known = all_in_order (IsAtomOf rels) (ys ++ unnamed xs ys) (All-append (IsAtomOf rels) ys (unnamed xs ys) g.known (All-filter _ (IsAtomOf rels) xs h.known));
}

pub smashed_is_commit : (rels : List RelDecl) (d : Delta) (ds : List Delta) → IsCommitOf rels d → All (IsCommitOf rels) ds → IsCommitOf rels (smashed d ds)
smashed_is_commit rels d [] one all = one
smashed_is_commit rels d (e ∷ ds) one all = smashed_is_commit rels (smash_of d e) ds (smash_is_commit rels d e one (All-head (IsCommitOf rels) e ds all)) (All-tail (IsCommitOf rels) e ds all)

-- to apply the smash is to apply one after another
pub smashed_applied : (rels : List RelDecl) (s : State) (d : Delta) (ds : List Delta) → IsCommitOf rels d → All (IsCommitOf rels) ds → apply_of s (smashed d ds) ≡ after_all (apply_of s d) ds
smashed_applied rels s d [] one all = refl
smashed_applied rels s d (e ∷ ds) one all =
    let next : IsCommitOf rels e = All-head (IsCommitOf rels) e ds all in
    smashed_applied rels s (smash_of d e) ds (smash_is_commit rels d e one next) (All-tail (IsCommitOf rels) e ds all)
    ∙ ap (λ (t : State). after_all t ds) (apply_of-smash_of s d e one.proper next.proper)

-- the smash of none
pub smash_none : (rels : List RelDecl) → IsSmashOf rels [] (atoms [])
smash_none rels = record {
  proper = record { proper = refl; known = All-nil _ };
  same = λ s valid. nothing_applied rels s valid;
}

-- the smash with one delta more
pub smash_on : (rels : List RelDecl) (done more : List Delta) (all d : Delta) → IsSmashOf rels done all → IsCommitOf rels d → more ≡ done ++ d ∷ [] → IsSmashOf rels more (smash_of all d)
smash_on rels done more all d so_far one is = record {
  proper = smash_is_commit rels all d so_far.proper one;
  same = λ s valid. apply_of-smash_of s all d so_far.proper.proper one.proper ∙ ap (λ (t : State). apply_of t d) (so_far.same s valid) ∙ sym (state_push s done d) ∙ ap (after_all s) (sym is);
}

-- the smash of commits does what they do, one after another
pub smash_all_is : (rels : List RelDecl) (ds : List Delta) → All (IsCommitOf rels) ds → IsSmashOf rels ds (smash_all ds)
smash_all_is rels [] all = smash_none rels
smash_all_is rels (d ∷ ds) all =
    let first : IsCommitOf rels d = All-head (IsCommitOf rels) d ds all in
    let more : All (IsCommitOf rels) ds = All-tail (IsCommitOf rels) d ds all in record {
      proper = smashed_is_commit rels d ds first more;
      same = λ s valid. smashed_applied rels s d ds first more;
    }
