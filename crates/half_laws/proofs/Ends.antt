-- A walk by any table has one end.
use Rattle.std.proofs.Common.{◌≡◌, ◌<◌, ℕ, zero, suc, ◌+◌, ◌-◌, List, drop, Some, None, sym, ap, ◌∙◌, arith, inl, inr}
use Rattle.std.proofs.lemmas.Bool.{cases_order}
use Rattle.std.proofs.lemmas.Option.{none-some, same_Some}
use Rattle.rel_format.specs.Walk.{Table, forward, onward, walk_by, ReachesBy}

abbrev pub spot : {S : Type 0} → ℕ → S → ℕ × S
spot n t = (n, t)

-- behind its end the walk goes nowhere
ended : {S : Type 0} (next : Table S) (bytes : List ℕ) (start : ℕ × S) (k : ℕ) (s : S) (at j : ℕ) → walk_by next bytes start k ≡ Some (at, s) → next s (drop at bytes) ≡ None → walk_by next bytes start (suc (j + k)) ≡ None
ended next bytes start k s at zero e h = let same : 0 + k ≡ k = omega arith in ap (λ (m : ℕ). forward next bytes (walk_by next bytes start m)) same ∙ ap (forward next bytes) e ∙ ap (onward at) h
ended next bytes start k s at (suc j) e h = let same : suc j + k ≡ suc (j + k) = omega arith in ap (λ (m : ℕ). forward next bytes (walk_by next bytes start m)) same ∙ ap (forward next bytes) (ended next bytes start k s at j e h)

no_farther : {S : Type 0} (next : Table S) (bytes : List ℕ) (start : ℕ × S) (k j : ℕ) (s t : S) (at place : ℕ) → k < j → walk_by next bytes start k ≡ Some (at, s) → next s (drop at bytes) ≡ None → walk_by next bytes start j ≡ Some (place, t) → ⊥
no_farther next bytes start k j s t at place lt e h g =
    let same : suc ((j - (k + 1)) + k) ≡ j = omega (arith, lt) in
    none-some (place, t) (sym (ap (walk_by next bytes start) (sym same) ∙ ended next bytes start k s at (j - (k + 1)) e h) ∙ g)

pub one_end : {S : Type 0} (next : Table S) (bytes : List ℕ) (start : ℕ × S) (at place : ℕ) (s t : S) → ReachesBy next bytes start at s → next s (drop at bytes) ≡ None → ReachesBy next bytes start place t → next t (drop place bytes) ≡ None → spot at s ≡ spot place t
one_end next bytes start at place s t r h q g = elim (cases_order r.0 q.0) [
  | inl e ↦ same_Some (spot at s) (spot place t) (sym r.1 ∙ ap (walk_by next bytes start) e ∙ q.1)
  | inr (inl lt) ↦ absurd (no_farther next bytes start r.0 q.0 s t at place lt r.1 h q.1)
  | inr (inr gt) ↦ absurd (no_farther next bytes start q.0 r.0 t s place at gt q.1 g r.1)
]
