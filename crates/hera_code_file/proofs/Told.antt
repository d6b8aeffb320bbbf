-- What single fields tell.
use Rattle.std.proofs.Common.{◌≡◌, ◌<◌, ℕ, true, false, cond, not, ◌||◌, List, [], ◌∷◌, map, Option, Some, None, refl, sym, ap, ◌∙◌, inl, inr, arith}
use Rattle.std.specs.Prelude.{Contains, slice_index_or, nat_lt}
use Rattle.std.specs.List.{list_all, list_any}
use Rattle.std.proofs.lemmas.Bool.{cases_Bool, ltb-true}
use Rattle.std.proofs.lemmas.Option.{none-some}
use Rattle.std.proofs.lemmas.Str.{IsUtf8-from_is_utf8}
use Rattle.std.proofs.lemmas.List.Sums.{AllPass-from_list_all}
use Rattle.hera_sets.specs.Rows.{is_same, holds}
use Rattle.hera_meaning.specs.declared.schemas.RelDecl.{RelDecl}
use Rattle.hera_meaning.specs.declared.scalars.TextFault.{TextFault}
use Rattle.hera_meaning.specs.declared.scalars.TextFault.TheVariants.{BadUtf8, HasZero, TooLong, Memory}
use Rattle.hera_meaning.specs.Texts.{is_text}
use Rattle.hera_meaning.specs.TextFaults.{IsTextFault}
use Rattle.hera_meaning.specs.Catalogues.{decl_name}
use Rattle.hera_row.proofs.FieldLemmas.{TextTests, text_tests}
use Rattle.rel_format.specs.Fields.{kept, name_field, new_name}
use Rattle.rel_format.proofs.Printed.{kept_is}

-- ---- texts

nonzero : (t : List ℕ) → list_all (λ b. nat_lt 0 b) t ≡ true → Contains t 0 → ⊥
nonzero t h c =
    let lt : 0 < slice_index_or t c.0 0 = ltb-true 0 (slice_index_or t c.0 0) (AllPass-from_list_all (λ b. nat_lt 0 b) t h c.0 0 c.1) in
    omega (arith, lt, c.2)

pub no_text : (t : List ℕ) (e : TextFault) → (e ≡ Memory → ⊥) → IsTextFault t e → is_text t ≡ false
no_text t e other h = elim (cases_Bool (is_text t)) [
  | inr other_way ↦ other_way
  | inl is ↦ absurd (by e other h (text_tests t is))
]
  where
    by : (e : TextFault) → (e ≡ Memory → ⊥) → IsTextFault t e → TextTests t → ⊥
    by BadUtf8 other h tests = h (IsUtf8-from_is_utf8 t tests.utf8)
    by HasZero other h tests = nonzero t tests.nonzero h.1
    by TooLong other h tests = omega (arith, h.2, tests.short)
    by Memory other h tests = other refl

-- ---- names of relations

pub any_named : (decls : List RelDecl) (name : List ℕ) → list_any (λ (d : RelDecl). is_same name d.name) decls ≡ holds (map decl_name decls) name
any_named [] name = refl
any_named (d ∷ decls) name = ap (λ b. is_same name d.name || b) (any_named decls name)

field_of_new : (len : ℕ) (bytes name : List ℕ) → new_name [] len bytes ≡ Some name → name_field len bytes ≡ Some name
field_of_new len bytes name h = (kept_is (λ x. not (holds [] x)) (name_field len bytes) name h).0

none_of_new : (o : Option (List ℕ)) → kept (λ x. not (holds [] x)) o ≡ None → o ≡ None
none_of_new None h = refl
none_of_new (Some x) h = absurd (none-some x (sym h))

pub name_stands : (names : List (List ℕ)) (len : ℕ) (bytes name : List ℕ) → Some name ≡ new_name [] len bytes → holds names name ≡ false → Some name ≡ new_name names len bytes
name_stands names len bytes name h new =
    sym (ap (kept (λ x. not (holds names x))) (field_of_new len bytes name (sym h)) ∙ ap (λ b. cond (not b) (Some name) None) new)

pub name_taken : (names : List (List ℕ)) (len : ℕ) (bytes name : List ℕ) → Some name ≡ new_name [] len bytes → holds names name ≡ true → None ≡ new_name names len bytes
name_taken names len bytes name h new =
    sym (ap (kept (λ x. not (holds names x))) (field_of_new len bytes name (sym h)) ∙ ap (λ b. cond (not b) (Some name) None) new)

pub no_name : (names : List (List ℕ)) (len : ℕ) (bytes : List ℕ) → None ≡ new_name [] len bytes → None ≡ new_name names len bytes
no_name names len bytes h = sym (ap (kept (λ x. not (holds names x))) (none_of_new (name_field len bytes) (sym h)))
