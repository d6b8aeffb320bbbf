-- A walk by any table has one end, and no good prefix is longer than the place where it stops.
use Rattle.std.proofs.Common.{◌≡◌, ◌≤◌, ℕ, zero, suc, ◌+◌, ◌-◌, List, drop, Option, Some, None, refl, sym, ap, subst, ◌∙◌, inl, inr, arith}
use Rattle.std.proofs.lemmas.Bool.{cases_lt}
use Rattle.std.proofs.lemmas.Option.{none-some, same_Some}
use Rattle.rel_format.specs.Walk.{Table, onward, forward, walk_by, ReachesBy}

abbrev spot : {S : Type 0} → ℕ → S → ℕ × S
spot n t = (n, t)

pub step_by : {S : Type 0} (next : Table S) (bytes : List ℕ) (start : ℕ × S) (at : ℕ) (s : S) (n : ℕ) (t : S) → ReachesBy next bytes start at s → next s (drop at bytes) ≡ Some (n, t) → ReachesBy next bytes start (at + n) t
step_by next bytes start at s n t r h = (suc r.0, ap (forward next bytes) r.1 ∙ ap (onward at) h)

-- behind its end the walk goes nowhere
ended_by : {S : Type 0} (next : Table S) (bytes : List ℕ) (start : ℕ × S) (k : ℕ) (s : S) (at j : ℕ) → walk_by next bytes start k ≡ Some (at, s) → next s (drop at bytes) ≡ None → walk_by next bytes start (suc (j + k)) ≡ None
ended_by next bytes start k s at zero e h = let same : 0 + k ≡ k = omega arith in ap (λ (m : ℕ). forward next bytes (walk_by next bytes start m)) same ∙ ap (forward next bytes) e ∙ ap (onward at) h
ended_by next bytes start k s at (suc j) e h = let same : suc j + k ≡ suc (j + k) = omega arith in ap (λ (m : ℕ). forward next bytes (walk_by next bytes start m)) same ∙ ap (forward next bytes) (ended_by next bytes start k s at j e h)

-- a field further is no place before
behind_by : {S : Type 0} (next : Table S) (bytes : List ℕ) (o : Option (ℕ × S)) (n : ℕ) (t : S) → forward next bytes o ≡ Some (n, t) → (x : ℕ × S) × (o ≡ Some x) × (x.0 ≤ n)
behind_by next bytes None n t e = absurd (none-some (n, t) e)
behind_by {S} next bytes (Some x) n t e = (x, refl, by (next x.1 (drop x.0 bytes)) e)
  where
    by : (o : Option (ℕ × S)) → onward x.0 o ≡ Some (n, t) → x.0 ≤ n
    by None h = absurd (none-some (n, t) h)
    by (Some y) h = let same : x.0 + y.0 ≡ n = ap (λ (z : ℕ × S). z.0) (same_Some (x.0 + y.0, y.1) (n, t) h) in omega (arith, same)

-- more fields end no place before
farther_by : {S : Type 0} (next : Table S) (bytes : List ℕ) (start : ℕ × S) (k j n : ℕ) (t : S) → walk_by next bytes start (j + k) ≡ Some (n, t) → (x : ℕ × S) × (walk_by next bytes start k ≡ Some x) × (x.0 ≤ n)
farther_by next bytes start k zero n t e = let same : k ≡ 0 + k = omega arith in ((n, t), ap (walk_by next bytes start) same ∙ e, omega arith)
farther_by next bytes start k (suc j) n t e =
    let same : suc (j + k) ≡ suc j + k = omega arith in
    let one = behind_by next bytes (walk_by next bytes start (j + k)) n t (ap (walk_by next bytes start) same ∙ e) in
    let rest = farther_by next bytes start k j one.0.0 one.0.1 one.1 in
    (rest.0, rest.1, omega (arith, rest.2, one.2))

pub longest_by : {S : Type 0} (next : Table S) (bytes : List ℕ) (start : ℕ × S) (at n : ℕ) (s t : S) → ReachesBy next bytes start at s → next s (drop at bytes) ≡ None → ReachesBy next bytes start n t → n ≤ at
longest_by {S} next bytes start at n s t reached stops good =
    let k = reached.0 in
    let j = good.0 in
    elim (cases_lt k j) [
      | inl lt ↦
          let e : suc ((j - (k + 1)) + k) ≡ j = omega (arith, lt) in
          let none = ap (walk_by next bytes start) (sym e) ∙ ended_by next bytes start k s at (j - (k + 1)) reached.1 stops in
          absurd (none-some (n, t) (sym none ∙ good.1))
      | inr le ↦
          let e : (k - j) + j ≡ k = omega (arith, le) in
          let far = farther_by next bytes start j (k - j) at s (ap (walk_by next bytes start) e ∙ reached.1) in
          let same : far.0.0 ≡ n = ap (λ (z : ℕ × S). z.0) (same_Some far.0 (n, t) (sym far.1 ∙ good.1)) in
          omega (arith, same, far.2)
    ]

-- the field before, where a walk went on by one
pub record Forward {S : Type 0} (next : Table S) (bytes : List ℕ) (o : Option (ℕ × S)) (n : ℕ) (t : S) : Type 0 where
  pub from : ℕ × S
  pub was : o ≡ Some from
  pub by : ℕ × S
  pub read : next from.1 (drop from.0 bytes) ≡ Some by
  pub place : from.0 + by.0 ≡ n
  pub stand : by.1 ≡ t

pub forward_is : {S : Type 0} (next : Table S) (bytes : List ℕ) (o : Option (ℕ × S)) (n : ℕ) (t : S) → forward next bytes o ≡ Some (n, t) → Forward next bytes o n t
forward_is next bytes None n t e = absurd (none-some (n, t) e)
forward_is {S} next bytes (Some x) n t e =
    let y = step_is (next x.1 (drop x.0 bytes)) e in
    record { from = x; was = refl; by = y.0; read = y.1; place = y.2; stand = y.3 }
  where
    step_is : (o : Option (ℕ × S)) → onward x.0 o ≡ Some (n, t) → (y : ℕ × S) × (o ≡ Some y) × (x.0 + y.0 ≡ n) × (y.1 ≡ t)
    step_is None h = absurd (none-some (n, t) h)
    step_is (Some y) h =
        let same = same_Some (spot (x.0 + y.0) y.1) (spot n t) h in
        (y, refl, ap (λ (z : ℕ × S). z.0) same, ap (λ (z : ℕ × S). z.1) same)

-- a property that each field keeps holds wherever a walk comes
pub kept_by : {S : Type 0} (next : Table S) (bytes : List ℕ) (start : ℕ × S) (P : ℕ → S → Type 0) →
    P start.0 start.1 → ((at : ℕ) (s : S) (n : ℕ) (t : S) → P at s → next s (drop at bytes) ≡ Some (n, t) → P (at + n) t) →
    (k at : ℕ) (s : S) → walk_by next bytes start k ≡ Some (at, s) → P at s
kept_by {S} next bytes start P first more zero at s e = subst (λ (z : ℕ × S). P z.0 z.1) (same_Some start (spot at s) e) first
kept_by {S} next bytes start P first more (suc k) at s e =
    let w = forward_is next bytes (walk_by next bytes start k) at s e in
    let one = more w.from.0 w.from.1 w.by.0 w.by.1 (kept_by next bytes start P first more k w.from.0 w.from.1 w.was) w.read in
    subst (λ (n : ℕ). P n s) w.place (subst (λ (t : S). P (w.from.0 + w.by.0) t) w.stand one)
