-- What stands at a place of a table.
use Rattle.std.proofs.Common.{◌≡◌, ◌<◌, ◌≤◌, ℕ, zero, suc, ◌+◌, ◌-◌, true, not, List, [], ◌∷◌, length, Option, None, Some, refl, sym, ap, ◌∙◌, arith}
use Rattle.std.specs.Prelude.{slice_get, nat_lt}
use Rattle.std.proofs.lemmas.Bool.{and_from, lt-ltb}
use Rattle.std.proofs.lemmas.Option.{none-some, same_Some}
use Rattle.hera_sets.specs.Rows.{Row, holds}
use Rattle.hera_meaning.specs.declared.schemas.Attr.{Attr}
use Rattle.hera_meaning.specs.declared.schemas.RelDecl.{RelDecl}
use Rattle.hera_meaning.specs.Schemas.{AreDistinct}
use Rattle.hera_meaning.specs.Deltas.{schema_of}
use Rattle.hera_meaning.specs.Hosts.{host_at, host_takes, host_gives}
use Rattle.hera_meaning.specs.Forms.{of_scalar}
use Rattle.hera_host.specs.Tables.{Host, specs_of, takes_at, gives_at}
use Rattle.hera_typed.specs.Points.{Point, with, when}
use Rattle.hera_typed.specs.Effects.{goes, left_layer, is_apart}
use Rattle.hera_stacks.specs.declared.forms.FlatForm.TheVariants as flat
use Rattle.hera_effects.specs.declared.plain.Plain.{Plain}
use Rattle.hera_stacks.specs.declared.stacks.Node.{Node}
use Rattle.hera_effects.specs.declared.spots.Spot.{Spot}
use Rattle.hera_effects.specs.declared.spots.Ways.{Ways}
use Rattle.hera_effects.specs.Spots.{IsSpot}
use Rattle.hera_effects.specs.Ways.{Both, AreWays, listed}
use Rattle.hera_effects.specs.Plain.{IsPlain}
use Rattle.hera_effects.proofs.Walking.{one_way}

-- a relation that is there
within : (rels : List RelDecl) (r : ℕ) (d : RelDecl) → slice_get rels r ≡ Some d → r < length rels
within [] r d h = absurd (none-some d h)
within (x ∷ rels) zero d h = omega arith
within (x ∷ rels) (suc r) d h = let more = within rels r d h in omega (arith, more)

schema_is : (rels : List RelDecl) (r : ℕ) (d : RelDecl) → slice_get rels r ≡ Some d → schema_of rels r ≡ d.schema
schema_is [] r d h = absurd (none-some d h)
schema_is (x ∷ rels) zero d h = ap (λ (y : RelDecl). y.schema) (same_Some x d h)
schema_is (x ∷ rels) (suc r) d h = schema_is rels r d h

pub declared : {X : Type 0} (G : List Attr → Option X) (rels : List RelDecl) (r : ℕ) (d : RelDecl) → slice_get rels r ≡ Some d → G d.schema ≡ when (nat_lt r (length rels)) (G (schema_of rels r))
declared G rels r d h = sym (ap (λ v. when v (G (schema_of rels r))) (lt-ltb r (length rels) (within rels r d h)) ∙ ap G (schema_is rels r d h))

pub apart_so : (xs : List Row) → AreDistinct xs → is_apart xs ≡ true
apart_so [] h = refl
apart_so (x ∷ xs) h = and_from (not (holds xs x)) (is_apart xs) (ap not h.0) (apart_so xs h.1)

-- ---- hosts

pub host_past : (table : List Host) (h a : ℕ) → length table ≤ h
    → Both IsPlain None (with (host_at (specs_of table) h) (λ spec. Some (record { takes = Some (of_scalar (host_takes spec)); gives = Some (of_scalar (host_gives spec)); ways = (a + 1) ∷ [] })))
host_past [] h a le = tt
host_past (x ∷ table) zero a le = absurd (omega (arith, le))
host_past (x ∷ table) (suc h) a le = host_past table h a (omega (arith, le))

pub host_there : (table : List Host) (h a : ℕ) (r : Plain) → h < length table → r.takes ≡ Some (flat.Scalar (takes_at table h)) → r.gives ≡ Some (flat.Scalar (gives_at table h)) → listed r.first r.second ≡ (a + 1) ∷ []
    → Both IsPlain (Some r) (with (host_at (specs_of table) h) (λ spec. Some (record { takes = Some (of_scalar (host_takes spec)); gives = Some (of_scalar (host_gives spec)); ways = (a + 1) ∷ [] })))
host_there [] h a r lt takes gives ways = absurd (omega (arith, lt))
host_there (x ∷ table) zero a r lt takes gives ways = record { takes = takes; gives = gives; ways = ways }
host_there (x ∷ table) (suc h) a r lt takes gives ways = host_there table h a r (omega (arith, lt)) takes gives ways

-- ---- a layer less

pub leaves : (nodes : List Node) (w : Ways) (spot : Spot) (next a : ℕ) (p : Point) → w.first ≡ Some next → w.second ≡ None → w.point ≡ Some (record { operands = spot.operands; walks = spot.walks; layers = spot.layers - 1 })
    → (spot.layers ≡ 0 → ⊥) → next ≡ a + 1 → IsSpot nodes spot p → Both (AreWays nodes) (Some w) (left_layer p.layers p (λ p. goes (a + 1) p))
leaves nodes w spot next a p first-is second-is point-is some is h = by p.layers refl
  where
    by : (m : ℕ) → p.layers ≡ m → Both (AreWays nodes) (Some w) (left_layer m p (λ p. goes (a + 1) p))
    by zero e = absurd (some (h.layers ∙ e))
    by (suc n) e =
        one_way nodes w (record { operands = spot.operands; walks = spot.walks; layers = spot.layers - 1 }) (a + 1) (record p { layers = n }) (first-is ∙ ap (λ (x : ℕ). Some x) is) second-is point-is
        (record { operands = h.operands; walks = h.walks; layers = let own = h.layers in omega (arith, own, e) })
