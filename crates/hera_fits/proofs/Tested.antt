-- Tests of rows and atoms.
use Rattle.std.proofs.Common.{◌≡◌, ℕ, zero, suc, ◌≤◌, Bool, true, false, ◌&&◌, ◌↔◌, List, [], ◌∷◌, length, drop, None, Some, refl, sym, ap, ◌∙◌, arith}
use Rattle.std.specs.Prelude.{slice_get, nat_lt, IsTrue}
use Rattle.std.specs.List.{list_all}
use Rattle.std.proofs.lemmas.Option.{none-some, same_Some, slice_get_within}
use Rattle.std.proofs.lemmas.Bool.{lt-ltb, le-ltb}
use Rattle.hera_sets.specs.Rows.{Row}
use Rattle.hera_meaning.specs.declared.schemas.Attr.{Attr}
use Rattle.hera_meaning.specs.declared.schemas.RelDecl.{RelDecl}
use Rattle.hera_meaning.specs.Rows.{IsRow, is_row}
use Rattle.hera_meaning.specs.Deltas.{Atom, Delta, fail, atoms, schema_of}
use Rattle.hera_meaning.specs.Fits.{is_atom_of, is_delta_of}
use Rattle.hera_meaning.proofs.Bools.{same_truth}
use Rattle.hera_meaning.proofs.RowsRead.{is_row-true, is_row-from_IsRow}
use Rattle.delta_atoms.specs.Atoms.{atoms_in}

pub row_tested : (b : Bool) (schema : List Attr) (bytes : Row) → (IsTrue b ↔ IsRow schema bytes) → b ≡ is_row schema bytes
row_tested b schema bytes h = same_truth b (is_row schema bytes) (λ t. is_row-from_IsRow schema bytes (h.0 t)) (λ t. h.1 (is_row-true schema bytes t))

pub schema_found : (rels : List RelDecl) (r : ℕ) (d : RelDecl) → slice_get rels r ≡ Some d → d.schema ≡ schema_of rels r
schema_found [] r d h = absurd (none-some d h)
schema_found (e ∷ rels) zero d h = ap (λ (x : RelDecl). x.schema) (sym (same_Some e d h))
schema_found (e ∷ rels) (suc r) d h = schema_found rels r d h

pub atom_known : (rels : List RelDecl) (a : Atom) (d : RelDecl) → Some d ≡ slice_get rels a.rel → is_row d.schema a.row ≡ is_atom_of rels a
atom_known rels a d h =
    let within : nat_lt a.rel (length rels) ≡ true = lt-ltb a.rel (length rels) (slice_get_within rels a.rel d (sym h)) in
    ap (λ schema. is_row schema a.row) (schema_found rels a.rel d (sym h)) ∙ ap (λ b. b && is_row (schema_of rels a.rel) a.row) (sym within)

none_past : (rels : List RelDecl) (r : ℕ) → None ≡ slice_get rels r → length rels ≤ r
none_past [] r h = omega arith
none_past (d ∷ rels) zero h = absurd (none-some d h)
none_past (d ∷ rels) (suc r) h = let ih : length rels ≤ r = none_past rels r h in omega (arith, ih)

pub atom_unknown : (rels : List RelDecl) (a : Atom) → None ≡ slice_get rels a.rel → false ≡ is_atom_of rels a
atom_unknown rels a h = ap (λ b. b && is_row (schema_of rels a.rel) a.row) (sym (le-ltb a.rel (length rels) (none_past rels a.rel h)))

pub ruleset of_catalogue = (atom_known, atom_unknown)

-- ---- all of a list

pub all_next : {A : Type 0} (p : A → Bool) (xs ys : List A) (x : A) → xs ≡ x ∷ ys → p x ≡ true → list_all p ys ≡ list_all p xs
all_next p xs ys x e h = sym (ap (list_all p) e ∙ ap (λ b. b && list_all p ys) h)

pub all_fails : {A : Type 0} (p : A → Bool) (xs ys : List A) (x : A) → xs ≡ x ∷ ys → p x ≡ false → false ≡ list_all p xs
all_fails p xs ys x e h = sym (ap (list_all p) e ∙ ap (λ b. b && list_all p ys) h)

pub all_over : {A : Type 0} (p : A → Bool) (xs : List A) → xs ≡ [] → true ≡ list_all p xs
all_over p xs e = sym (ap (list_all p) e)

pub drop_item : {A : Type 0} (xs : List A) (i : ℕ) (x : A) → slice_get xs i ≡ Some x → drop i xs ≡ x ∷ drop (suc i) xs
drop_item [] i x e = absurd (none-some x e)
drop_item (y ∷ ys) zero x e = ap (λ z. z ∷ ys) (same_Some y x e)
drop_item (y ∷ ys) (suc i) x e = drop_item ys i x e

-- a test of a whole list, item by item
pub all_step : {A : Type 0} (p : A → Bool) (xs : List A) (i j : ℕ) (x : A) → slice_get xs i ≡ Some x → j ≡ suc i → p x ≡ true → list_all p (drop j xs) ≡ list_all p (drop i xs)
all_step p xs i j x e n h = ap (λ k. list_all p (drop k xs)) n ∙ all_next p (drop i xs) (drop (suc i) xs) x (drop_item xs i x e) h

pub all_stop : {A : Type 0} (p : A → Bool) (xs : List A) (i : ℕ) (x : A) → slice_get xs i ≡ Some x → p x ≡ false → false ≡ list_all p (drop i xs)
all_stop p xs i x e h = all_fails p (drop i xs) (drop (suc i) xs) x (drop_item xs i x e) h

pub atoms_tested : (rels : List RelDecl) (d : Delta) → list_all (is_atom_of rels) (atoms_in d) ≡ is_delta_of rels d
atoms_tested rels fail = refl
atoms_tested rels (atoms xs) = refl
