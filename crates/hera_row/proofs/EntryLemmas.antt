-- Declarations under their names: numbers, and one declaration more.
use Rattle.std.proofs.Common.{◌≡◌, ℕ, ◌+◌, ◌<◌, Bool, true, false, cond, ◌||◌, List, [], ◌∷◌, ◌++◌, Option, Some, None, is_some, length, map, All, position, nat_eq, refl, sym, ap, subst, ◌∙◌, arith, Vec}
use Rattle.std.specs.Cmp.Lexicographic.{pointwise, texts_ties}
use Rattle.std.specs.Global.{Global}
use Rattle.std.specs.Map.{keys_of}
use Rattle.indexmap.specs.IndexMap.{insert_entry}
use Rattle.std.specs.List.{position_from}
use Rattle.std.specs.Option.{option_map}
use Rattle.std.proofs.lemmas.Bool.{or_parts, or_from, both_ways}
use Rattle.std.proofs.lemmas.List.{map_push, length_push}
use Rattle.std.proofs.lemmas.List.Elements.{All-head, All-tail, All-push}
use Rattle.std.proofs.lemmas.Iterator.Adapters.{position_from-zero}
use Rattle.hera_sets.specs.Rows.{Row, is_same, holds}
use Rattle.hera_sets.proofs.Order.{before, level, behind, stands, same_true, same_itself}
use Rattle.hera_sets.proofs.Members.{holds-append}
use Rattle.hera_meaning.specs.declared.scalars.RelId.{RelId}
use Rattle.hera_meaning.specs.declared.schemas.RelDecl.{RelDecl}
use Rattle.hera_meaning.specs.declared.schemas.TheConstants.{RELATIONS_LIMIT}
use Rattle.hera_meaning.specs.Schemas.{AreDistinct}
use Rattle.hera_meaning.specs.Catalogues.{IsCatalogue, IsDecl, decl_name}
use Rattle.hera_row.specs.Numbers.{number_named}
use Rattle.hera_row.specs.Entries.{Entry, decl_in, decls_of, IsNumbered}

-- the two tests of sameness agree
pointwise-is_same : (a b : List ℕ) → pointwise nat_eq a b ≡ is_same a b
unfolding is_same
pointwise-is_same a b = texts_ties a b

-- the key is this name
abbrev pub is_key : List ℕ → Vec ℕ Global → Bool
is_key name k = pointwise nat_eq name k.items

abbrev pub Named : Entry → Type 0
Named e = e.0.items ≡ e.1.name

place_from : (name : List ℕ) (i : ℕ) (es : List Entry) → All Named es → position_from (is_key name) i (keys_of es) ≡ position_from (λ d. is_same name d.name) i (decls_of es)
place_from name i [] h = refl
place_from name i (e ∷ es) h =
    let here : is_key name e.0 ≡ is_same name e.1.name = pointwise-is_same name e.0.items ∙ ap (is_same name) (All-head Named e es h) in
    (λ k. cond (here k) (Some i) (place_from name (i + 1) es (All-tail Named e es h) k))

pub key_place : (name : List ℕ) (es : List Entry) → All Named es → position (is_key name) (keys_of es) ≡ number_named name (decls_of es)
key_place name es h = position_from-zero (is_key name) (keys_of es) ∙ place_from name 0 es h

-- a name has a number exactly where it is one of the names
some_from : (name : List ℕ) (i : ℕ) (rels : List RelDecl) → is_some (position_from (λ d. is_same name d.name) i rels) ≡ holds (map decl_name rels) name
some_from name i [] = refl
some_from name i (d ∷ rels) =
    elim (is_same name d.name) as (λ v. is_some (cond v (Some i) (position_from (λ d. is_same name d.name) (i + 1) rels)) ≡ (v || holds (map decl_name rels) name)) [
      | true ↦ refl
      | false ↦ some_from name (i + 1) rels
    ]

pub number-held : (name : List ℕ) (rels : List RelDecl) → is_some (number_named name rels) ≡ holds (map decl_name rels) name
number-held name rels = some_from name 0 rels

pub is_some-option_map : {A B : Type 0} (f : A → B) (o : Option A) → is_some (option_map f o) ≡ is_some o
is_some-option_map f None = refl
is_some-option_map f (Some x) = refl

-- ---- one name more

not_same : (a b : Row) → is_same a b ≡ false → is_same b a ≡ false
not_same a b h =
    elim (stands a b) [
      | before p q s ↦ other
      | level e p q s ↦ other
      | behind p q s ↦ other
    ]
  where
    other : is_same b a ≡ false
    other = Rattle.std.proofs.lemmas.Bool.false_from_ne_true (is_same b a) (λ g. both_ways _ h (ap (is_same a) (same_true b a g) ∙ same_itself a))

pub distinct-push : (names : List (List ℕ)) (name : List ℕ) → AreDistinct names → holds names name ≡ false → AreDistinct (names ++ name ∷ [])
distinct-push [] name d h = (refl, tt)
distinct-push (x ∷ xs) name d h =
    let p = or_parts (is_same name x) (holds xs name) h in (
      holds-append xs (name ∷ []) x ∙ or_from _ _ d.0 (or_from _ _ (not_same name x p.0) refl),
      distinct-push xs name d.1 p.1,
    )

pub numbered_push : (es : List Entry) (key : Vec ℕ Global) (d : RelDecl) → IsNumbered es → key.items ≡ d.name → IsDecl d → holds (map decl_name (decls_of es)) d.name ≡ false → length (decls_of es) < RELATIONS_LIMIT → IsNumbered (es ++ (key, d) ∷ [])
numbered_push es key d h name decl new few =
    let more : decls_of (es ++ (key, d) ∷ []) ≡ decls_of es ++ d ∷ [] = map_push decl_in es (key, d) in
    record {
      named = All-push Named es (key, d) h.named name;
      catalogue = subst IsCatalogue (sym more) (record {
        few = omega (arith, length_push (decls_of es) d, few);
        distinct = subst AreDistinct (sym (map_push decl_name (decls_of es) d)) (distinct-push (map decl_name (decls_of es)) d.name h.catalogue.distinct new);
        decls = All-push IsDecl (decls_of es) d h.catalogue.decls decl;
      });
    }

-- the test of two keys
abbrev pub same_key : Vec ℕ Global → Vec ℕ Global → Bool
same_key a b = pointwise nat_eq a.items b.items

-- a declaration of a new name goes behind the others
pub insert_entry-new_name : (es : List Entry) (key : Vec ℕ Global) (d : RelDecl) → All Named es → key.items ≡ d.name → holds (map decl_name (decls_of es)) d.name ≡ false → insert_entry same_key es key d ≡ es ++ (key, d) ∷ []
insert_entry-new_name [] key d h name new = refl
insert_entry-new_name (e ∷ es) key d h name new =
    let p = or_parts (is_same d.name e.1.name) (holds (map decl_name (decls_of es)) d.name) new in
    let other : same_key key e.0 ≡ false = pointwise-is_same key.items e.0.items ∙ (λ i. is_same (name i) (All-head Named e es h i)) ∙ p.0 in
    rw other (ap (λ t. e ∷ t) (insert_entry-new_name es key d (All-tail Named e es h) name p.1))

-- what a look-up tells of the names
pub held-found : (o : Option RelId) (name asked : List ℕ) (rels : List RelDecl) → asked ≡ name → option_map (λ id. id.0) o ≡ number_named asked rels → holds (map decl_name rels) name ≡ is_some o
held-found o name asked rels same h =
    sym (number-held name rels) ∙ ap (λ n. is_some (number_named n rels)) (sym same) ∙ ap is_some (sym h) ∙ is_some-option_map (λ id. id.0) o
