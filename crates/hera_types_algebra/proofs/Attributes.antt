-- Lists of attributes and of names, one item more.
use Rattle.std.proofs.Common.{◌≡◌, ℕ, ◌+◌, List, [], ◌∷◌, ◌++◌, take, map, filter, not, cond, Bool, true, false, refl, sym, ap, ◌∙◌, append_assoc}
use Rattle.std.specs.Prelude.{Some, slice_get}
use Rattle.std.proofs.lemmas.List.Elements.{filter-append}
use Rattle.hera_sets.specs.Rows.{holds}
use Rattle.hera_meaning.specs.declared.schemas.Attr.{Attr}
use Rattle.hera_meaning.specs.Relations.{has_name, lacking}
use Rattle.hera_rules.specs.declared.words.Renamed.{Renamed}
use Rattle.hera_rules.specs.Rules.{kept_names, new_name, renamed_attr}
use Rattle.hera_types_parts.proofs.Equal.{get_from}
use Rattle.hera_types_parts.proofs.Before.{take_at, mapped_at}

unless_so : {A : Type 0} (b : Bool) (x : A) → cond (not b) (x ∷ []) [] ≡ cond b [] (x ∷ [])
unless_so true x = refl
unless_so false x = refl

pub kept_more : (s : List Attr) (olds : List (List ℕ)) (i : ℕ) (a : Attr) → slice_get s i ≡ Some a →
    kept_names (take (i + 1) s) olds ≡ kept_names (take i s) olds ++ cond (holds olds a.name) [] (a.name ∷ [])
kept_more s olds i a e =
    let g = get_from s i a e in
    ap (filter (λ name. not (holds olds name))) (mapped_at (λ (a : Attr). a.name) s i a g.0 g.1)
    ∙ filter-append (λ name. not (holds olds name)) (map (λ (a : Attr). a.name) (take i s)) (a.name ∷ [])
    ∙ ap (λ r. kept_names (take i s) olds ++ r) (unless_so (holds olds a.name) a.name)

pub lacking_more : (left right : List Attr) (i : ℕ) (a : Attr) → slice_get right i ≡ Some a →
    lacking left (take (i + 1) right) ≡ lacking left (take i right) ++ cond (has_name left a.name) [] (a ∷ [])
lacking_more left right i a e =
    let g = get_from right i a e in
    ap (lacking left) (take_at right i a g.0 g.1)
    ∙ filter-append (λ (a : Attr). not (has_name left a.name)) (take i right) (a ∷ [])
    ∙ ap (λ r. lacking left (take i right) ++ r) (unless_so (has_name left a.name) a)

pub joined_more : (left right : List Attr) (i : ℕ) (a : Attr) {attrs attrs' : List Attr} → slice_get right i ≡ Some a → attrs' ≡ attrs ++ cond (has_name left a.name) [] (a ∷ []) →
    attrs ≡ left ++ lacking left (take i right) → attrs' ≡ left ++ lacking left (take (i + 1) right)
joined_more left right i a e k h =
    k ∙ ap (λ r. r ++ cond (has_name left a.name) [] (a ∷ [])) h ∙ append_assoc left (lacking left (take i right)) (cond (has_name left a.name) [] (a ∷ []))
    ∙ ap (λ r. left ++ r) (sym (lacking_more left right i a e))

pub copied_more : (s : List Attr) (i : ℕ) (a : Attr) {b : Attr} {attrs attrs' : List Attr} → slice_get s i ≡ Some a → b ≡ a → attrs' ≡ attrs ++ b ∷ [] → attrs ≡ take i s → attrs' ≡ take (i + 1) s
copied_more s i a {attrs = attrs} e j k h =
    let g = get_from s i a e in
    k ∙ ap (λ b. attrs ++ b ∷ []) j ∙ ap (λ r. r ++ a ∷ []) h ∙ sym (take_at s i a g.0 g.1)

pub renamed_more : (rs : List Renamed) (s : List Attr) (i : ℕ) (a : Attr) {n : List ℕ} {attrs attrs' : List Attr} → slice_get s i ≡ Some a → n ≡ new_name rs a.name →
    attrs' ≡ attrs ++ (record { name = n; kind = a.kind }) ∷ [] → attrs ≡ map (renamed_attr rs) (take i s) → attrs' ≡ map (renamed_attr rs) (take (i + 1) s)
renamed_more rs s i a {attrs = attrs} e j k h =
    let g = get_from s i a e in
    k ∙ ap (λ n. attrs ++ (record { name = n; kind = a.kind }) ∷ []) j ∙ ap (λ r. r ++ renamed_attr rs a ∷ []) h ∙ sym (mapped_at (renamed_attr rs) s i a g.0 g.1)
