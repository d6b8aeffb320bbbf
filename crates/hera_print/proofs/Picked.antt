-- Parts of lists that pass a test, and relations of the catalogue.
use Rattle.std.proofs.Common.{◌≡◌, ℕ, Bool, true, false, cond, zero, suc, List, [], ◌∷◌, Some, refl, sym, ap, subst}
use Rattle.std.specs.List.{slice_get, list_all, find}
use Rattle.std.proofs.lemmas.Option.{none-some, same_Some}
use Rattle.std.proofs.lemmas.Bool.{and_parts}
use Rattle.hera_meaning.specs.declared.schemas.RelDecl.{RelDecl}
use Rattle.hera_meaning.specs.Deltas.{Delta, fail, atoms, schema_of}
use Rattle.hera_meaning.specs.Fits.{is_atom_of, is_delta_of}
use Rattle.hera_meaning.specs.Printed.{name_of}
use Rattle.delta_atoms.specs.Atoms.{atoms_in}

pub all_at : {A : Type 0} (p : A → Bool) (xs : List A) (i : ℕ) (x : A) → list_all p xs ≡ true → slice_get xs i ≡ Some x → p x ≡ true
all_at p [] i x all h = absurd (none-some x h)
all_at p (y ∷ ys) zero x all h = subst (λ z. p z ≡ true) (same_Some y x h) (and_parts (p y) (list_all p ys) all).0
all_at p (y ∷ ys) (suc i) x all h = all_at p ys i x (and_parts (p y) (list_all p ys) all).1 h

pub all_found : {A : Type 0} (p q : A → Bool) (xs : List A) (x : A) → list_all p xs ≡ true → find q xs ≡ Some x → p x ≡ true
all_found p q [] x all h = absurd (none-some x h)
all_found {A} p q (y ∷ ys) x all h =
    elim (q y) as (λ b. cond b (Some y) (find q ys) ≡ Some x → p x ≡ true) [
      | true ↦ λ g. subst (λ (z : A). p z ≡ true) (same_Some y x g) (and_parts (p y) (list_all p ys) all).0
      | false ↦ λ g. all_found p q ys x (and_parts (p y) (list_all p ys) all).1 g
    ] h

pub atoms_pass : (rels : List RelDecl) (d : Delta) → is_delta_of rels d ≡ true → list_all (is_atom_of rels) (atoms_in d) ≡ true
atoms_pass rels fail h = refl
atoms_pass rels (atoms xs) h = h

-- ---- a relation of the catalogue

pub name_at : (rels : List RelDecl) (r : ℕ) (d : RelDecl) → slice_get rels r ≡ Some d → d.name ≡ name_of rels r
name_at [] r d h = absurd (none-some d h)
name_at (e ∷ rels) zero d h = ap (λ (x : RelDecl). x.name) (sym (same_Some e d h))
name_at (e ∷ rels) (suc r) d h = name_at rels r d h

pub schema_at : (rels : List RelDecl) (r : ℕ) (d : RelDecl) → slice_get rels r ≡ Some d → d.schema ≡ schema_of rels r
schema_at [] r d h = absurd (none-some d h)
schema_at (e ∷ rels) zero d h = ap (λ (x : RelDecl). x.schema) (sym (same_Some e d h))
schema_at (e ∷ rels) (suc r) d h = schema_at rels r d h
