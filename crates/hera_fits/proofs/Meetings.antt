-- Operands that are as wanted.
use Rattle.std.proofs.Common.{◌≡◌, ℕ, zero, suc, true, false, ◌&&◌, ◌<◌, List, [], ◌∷◌, length, drop, map, None, Some, refl, sym, ap, ◌∙◌, arith}
use Rattle.std.specs.Prelude.{slice_get, replicate}
use Rattle.std.proofs.lemmas.Bool.{and_parts, false_from_ne_true}
use Rattle.std.proofs.lemmas.Option.{none-some, same_Some}
use Rattle.hera_meaning.specs.Values.{Value, operand}
use Rattle.hera_meaning.specs.declared.schemas.Attr.{Attr}
use Rattle.hera_meaning.specs.Fits.{Want, a_scalar, a_tuple, meets, all_meet}
use Rattle.hera_meaning.proofs.Bools.{and_true, and_false}

pub one_met : (w : Want) (vs : List Value) (v : Value) → Some v ≡ slice_get vs 0 → None ≡ slice_get vs 1 → meets w v ≡ all_meet (w ∷ []) vs
one_met w (x ∷ []) v e f = ap (meets w) (same_Some v x e) ∙ sym (and_true (meets w x))
one_met w vs v e f = cc

pub one_none : (w : Want) (vs : List Value) → None ≡ slice_get vs 0 → false ≡ all_meet (w ∷ []) vs
one_none w [] e = refl
one_none w (x ∷ vs) e = absurd (none-some x e)

pub one_more : (w : Want) (vs : List Value) (v : Value) → Some v ≡ slice_get vs 1 → false ≡ all_meet (w ∷ []) vs
one_more w (x ∷ y ∷ vs) v e = sym (and_false (meets w x))
one_more w vs v e = cc

pub ruleset one = (one_met, one_none, one_more)

pub two_met : (w u : Want) (vs : List Value) (v x : Value) → Some v ≡ slice_get vs 0 → Some x ≡ slice_get vs 1 → None ≡ slice_get vs 2 → (meets w v && meets u x) ≡ all_meet (w ∷ u ∷ []) vs
two_met w u (a ∷ b ∷ []) v x e f g = ap (λ y. meets w y && meets u x) (same_Some v a e) ∙ ap (λ y. meets w a && y) (ap (meets u) (same_Some x b f) ∙ sym (and_true (meets u b)))
two_met w u vs v x e f g = cc

pub two_none : (w u : Want) (vs : List Value) → None ≡ slice_get vs 0 → false ≡ all_meet (w ∷ u ∷ []) vs
two_none w u [] e = refl
two_none w u (x ∷ vs) e = absurd (none-some x e)

pub two_few : (w u : Want) (vs : List Value) → None ≡ slice_get vs 1 → false ≡ all_meet (w ∷ u ∷ []) vs
two_few w u (x ∷ []) e = sym (and_false (meets w x))
two_few w u vs e = cc

pub two_more : (w u : Want) (vs : List Value) (v : Value) → Some v ≡ slice_get vs 2 → false ≡ all_meet (w ∷ u ∷ []) vs
two_more w u (x ∷ y ∷ z ∷ vs) v e = sym (ap (λ b. meets w x && b) (and_false (meets u y)) ∙ and_false (meets w x))
two_more w u vs v e = cc

pub ruleset two = (two_met, two_none, two_few, two_more)

-- ---- one for each want, by places

pub meet_lengths : (ws : List Want) (vs : List Value) → all_meet ws vs ≡ true → length vs ≡ length ws
meet_lengths [] [] h = refl
meet_lengths (w ∷ ws) (v ∷ vs) h = ap suc (meet_lengths ws vs (and_parts (meets w v) _ h).1)
meet_lengths ws vs h = cc

pub meet_unequal : (ws : List Want) (vs : List Value) → (length vs ≡ length ws → ⊥) → false ≡ all_meet ws vs
meet_unequal ws vs h = sym (false_from_ne_true (all_meet ws vs) (λ e. h (meet_lengths ws vs e)))

-- the wants and the operands from a place on, both of which are there
pub meet_at : (ws : List Want) (vs : List Value) (i : ℕ) (w : Want) → slice_get ws i ≡ Some w → i < length vs →
    all_meet (drop i ws) (drop i vs) ≡ (meets w (operand vs i) && all_meet (drop (suc i) ws) (drop (suc i) vs))
meet_at [] vs i w e h = absurd (none-some w e)
meet_at (x ∷ ws) [] i w e h = absurd (omega (arith, h))
meet_at (x ∷ ws) (v ∷ vs) zero w e h = ap (λ y. meets y v && all_meet ws vs) (same_Some x w e)
meet_at (x ∷ ws) (v ∷ vs) (suc i) w e h = meet_at ws vs i w e (omega (arith, h))

pub meet_step : (ws : List Want) (vs : List Value) (i j : ℕ) (w : Want) → slice_get ws i ≡ Some w → i < length vs → j ≡ suc i → meets w (operand vs i) ≡ true →
    all_meet (drop j ws) (drop j vs) ≡ all_meet (drop i ws) (drop i vs)
meet_step ws vs i j w e h n m =
    ap (λ k. all_meet (drop k ws) (drop k vs)) n ∙ sym (meet_at ws vs i w e h ∙ ap (λ b. b && all_meet (drop (suc i) ws) (drop (suc i) vs)) m)

pub meet_stop : (ws : List Want) (vs : List Value) (i : ℕ) (w : Want) → slice_get ws i ≡ Some w → i < length vs → meets w (operand vs i) ≡ false →
    false ≡ all_meet (drop i ws) (drop i vs)
meet_stop ws vs i w e h m = sym (meet_at ws vs i w e h ∙ ap (λ b. b && all_meet (drop (suc i) ws) (drop (suc i) vs)) m)

pub meet_end : (ws : List Want) (vs : List Value) (i : ℕ) → length ws ≡ i → length vs ≡ i → true ≡ all_meet (drop i ws) (drop i vs)
meet_end [] [] zero e f = refl
meet_end (w ∷ ws) (v ∷ vs) (suc i) e f = meet_end ws vs i (omega (arith, e)) (omega (arith, f))
meet_end ws vs i e f = absurd (omega (arith, e, f))

-- ---- the wants of MakeRow and MakeRel

pub fields_long : (schema : List Attr) → length (map (λ (a : Attr). a_scalar a.kind) schema) ≡ length schema
fields_long [] = refl
fields_long (a ∷ schema) = ap suc (fields_long schema)

pub field_at_place : (schema : List Attr) (i : ℕ) (a : Attr) → slice_get schema i ≡ Some a → slice_get (map (λ (a : Attr). a_scalar a.kind) schema) i ≡ Some (a_scalar a.kind)
field_at_place [] i a e = absurd (none-some a e)
field_at_place (x ∷ schema) zero a e = ap (λ (y : Attr). Some (a_scalar y.kind)) (same_Some x a e)
field_at_place (x ∷ schema) (suc i) a e = field_at_place schema i a e

pub tuples_long : (n : ℕ) → length (replicate n a_tuple) ≡ n
tuples_long zero = refl
tuples_long (suc n) = ap suc (tuples_long n)

pub tuple_at : (n i : ℕ) → i < n → slice_get (replicate n a_tuple) i ≡ Some a_tuple
tuple_at zero i h = absurd (omega (arith, h))
tuple_at (suc n) zero h = refl
tuple_at (suc n) (suc i) h = tuple_at n i (omega (arith, h))
