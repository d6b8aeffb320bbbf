-- Names: the test of an identifier, and lists of names.
use Rattle.std.proofs.Common.{◌≡◌, ℕ, zero, suc, Bool, true, false, ◌&&◌, ◌||◌, List, [], ◌∷◌, length, take, Some, refl, sym, ap, ◌∙◌, arith}
use Rattle.std.specs.Prelude.{nat_le}
use Rattle.std.specs.List.{list_any, slice_get}
use Rattle.std.specs.Str.{chars, is_utf8}
use Rattle.std.proofs.lemmas.Bool.{and_parts, and_from, le-leb, leb-true}
use Rattle.std.proofs.lemmas.Option.{none-some, same_Some}
use Rattle.std.proofs.lemmas.Str.{IsUtf8-from_is_utf8, is_utf8-from_IsUtf8}
use Rattle.hera_sets.specs.Rows.{Row, is_same, holds}
use Rattle.hera_meaning.specs.declared.schemas.Attr.{Attr}
use Rattle.hera_meaning.specs.Identifiers.{IsIdentifier, is_word, identifier_limit}
use Rattle.hera_meaning.specs.Schemas.{AreDistinct, IsSchema, names_of}
use Rattle.hera_meaning.specs.SchemaFaults.{IsFirstRepeat, IsSchemaFault}
use Rattle.hera_meaning.specs.declared.schemas.SchemaFault.{SchemaFault}
use Rattle.hera_meaning.specs.declared.schemas.SchemaFault.TheVariants.{Empty, TooMany, Repeated}
use Rattle.hera_meaning.proofs.Names.{same_swap}
use Rattle.hera_row.proofs.Words.{identifier_from, identifier_utf8, identifier_word}
use Rattle.rel_format.specs.Fields.{is_identifier}

pub identifier_true : (name : List ℕ) → is_identifier name ≡ true → IsIdentifier name
identifier_true name h =
    let p = and_parts (nat_le (length name) identifier_limit) (is_utf8 name && is_word (chars name)) h in
    let q = and_parts (is_utf8 name) (is_word (chars name)) p.1 in
    identifier_from name (IsUtf8-from_is_utf8 name q.0) (leb-true _ _ p.0) q.1

pub identifier_passes : (name : List ℕ) → IsIdentifier name → is_identifier name ≡ true
identifier_passes name h =
    and_from _ _ (le-leb (length name) identifier_limit h.short) (and_from _ _ (is_utf8-from_IsUtf8 name (identifier_utf8 name h)) (identifier_word name h))

pub test_is : (b c : Bool) → (b ≡ true → c ≡ true) → (c ≡ true → b ≡ true) → b ≡ c
test_is true true f g = refl
test_is true false f g = sym (f refl)
test_is false true f g = g refl
test_is false false f g = refl

pub any_named : (attrs : List Attr) (name : Row) → list_any (λ (a : Attr). is_same name a.name) attrs ≡ holds (names_of attrs) name
any_named [] name = refl
any_named (a ∷ attrs) name = ap (λ b. is_same name a.name || b) (any_named attrs name)

pub or_false : (a b : Bool) → a ≡ false → b ≡ false → (a || b) ≡ false
or_false a b h g = rw (h, g) refl

pub or_parts_false : (a b : Bool) → (a || b) ≡ false → (a ≡ false) × (b ≡ false)
or_parts_false true b h = absurd cc
or_parts_false false b h = (refl, h)

not_at : (xs : List Row) (i : ℕ) (x y : Row) → holds xs y ≡ false → slice_get xs i ≡ Some x → is_same y x ≡ false
not_at [] i x y h g = absurd (none-some x g)
not_at (z ∷ zs) zero x y h g = rw (sym (same_Some z x g)) ((or_parts_false (is_same y z) (holds zs y) h).0)
not_at (z ∷ zs) (suc i) x y h g = not_at zs i x y ((or_parts_false (is_same y z) (holds zs y) h).1) g

apart_at : (xs : List Row) (i : ℕ) (x : Row) → AreDistinct xs → slice_get xs i ≡ Some x → holds (take i xs) x ≡ false
apart_at [] i x h g = absurd (none-some x g)
apart_at (y ∷ ys) zero x h g = refl
apart_at (y ∷ ys) (suc i) x h g = or_false (is_same x y) (holds (take i ys) x) (same_swap x y ∙ not_at ys i x y h.0 g) (apart_at ys i x h.1 g)

pub no_repeat : (names : List Row) (i : ℕ) → AreDistinct names → IsFirstRepeat names i → ⊥
no_repeat names i h r = let both : true ≡ false = sym r.before ∙ apart_at names i r.name h r.here in absurd cc

pub no_schema_fault : (attrs : List Attr) (e : SchemaFault) → IsSchema attrs → IsSchemaFault attrs e → ⊥
no_schema_fault attrs Empty h f = omega (arith, h.some, ap length f)
no_schema_fault attrs TooMany h f = omega (arith, h.few, f)
no_schema_fault attrs (Repeated second) h f = no_repeat (names_of attrs) second h.distinct f.2
