-- A walk by a table comes to an end, where each field takes a byte or makes its stand lighter.
use Rattle.std.proofs.Common.{◌≡◌, ◌≤◌, ◌<◌, ◌⊎◌, inl, inr, ℕ, zero, suc, ◌+◌, ◌-◌, List, length, drop, Option, Some, None, refl, arith}
use Rattle.std.proofs.lemmas.List.{length-drop}
use Rattle.rel_format.specs.Walk.{Table, ReachesBy}
use Rattle.rel_format.proofs.Walks.{step_by, kept_by}

-- the field lies in the bytes, and takes one of them or makes its stand lighter
pub record Moves (n size after before : ℕ) : Type 0 where
  pub within : n ≤ size
  pub onward : (1 ≤ n) ⊎ (after < before)

abbrev pub AllMove : {S : Type 0} → Table S → (S → ℕ) → Type 0
AllMove {S} next weight = (s : S) (rest : List ℕ) (n : ℕ) (t : S) → next s rest ≡ Some (n, t) → Moves n (length rest) (weight t) (weight s)

-- the place where no field comes, and what was read before it
pub record Ended {S : Type 0} (next : Table S) (bytes : List ℕ) (start : ℕ × S) : Type 0 where
  pub at : ℕ
  pub stand : S
  pub reached : ReachesBy next bytes start at stand
  pub last : next stand (drop at bytes) ≡ None

lighter : {S : Type 0} (next : Table S) (weight : S → ℕ) (bytes : List ℕ) (start : ℕ × S) → AllMove next weight → (left : ℕ) →
    ((at : ℕ) (s : S) → length bytes - at < left → ReachesBy next bytes start at s → Ended next bytes start) →
    (w at : ℕ) (s : S) → length bytes - at ≤ left → weight s < w → ReachesBy next bytes start at s → Ended next bytes start
lighter next weight bytes start moves left shorter zero at s small light reached = absurd (omega (arith, light))
lighter {S} next weight bytes start moves left shorter (suc w) at s small light reached =
    by (λ place t near less r. lighter next weight bytes start moves left shorter w place t near less r) (next s (drop at bytes)) refl
  where
    by : ((place : ℕ) (t : S) → length bytes - place ≤ left → weight t < w → ReachesBy next bytes start place t → Ended next bytes start) → (o : Option (ℕ × S)) → next s (drop at bytes) ≡ o → Ended next bytes start
    by more None e = record { at = at; stand = s; reached = reached; last = e }
    by more (Some y) e =
        let m = moves s (drop at bytes) y.0 y.1 e in
        let size = length-drop at bytes in
        let behind = step_by next bytes start at s y.0 y.1 reached e in
        elim m.onward [
          | inl some ↦ shorter (at + y.0) y.1 (omega (arith, m.within, size, some, small)) behind
          | inr less ↦ more (at + y.0) y.1 (omega (arith, small)) (omega (arith, less, light)) behind
        ]

ends_from : {S : Type 0} (next : Table S) (weight : S → ℕ) (bytes : List ℕ) (start : ℕ × S) → AllMove next weight → (left at : ℕ) (s : S) → length bytes - at < left → ReachesBy next bytes start at s → Ended next bytes start
ends_from next weight bytes start moves zero at s small reached = absurd (omega (arith, small))
ends_from next weight bytes start moves (suc left) at s small reached =
    lighter next weight bytes start moves left (ends_from next weight bytes start moves left) (suc (weight s)) at s (omega (arith, small)) (omega arith) reached

pub ends : {S : Type 0} (next : Table S) (weight : S → ℕ) (bytes : List ℕ) (start : ℕ × S) → AllMove next weight → Ended next bytes start
ends next weight bytes start moves = ends_from next weight bytes start moves (suc (length bytes)) start.0 start.1 (omega arith) (0, refl)

-- no field goes past the bytes
pub within_bytes : {S : Type 0} (next : Table S) (weight : S → ℕ) (bytes : List ℕ) (start : ℕ × S) → AllMove next weight → start.0 ≤ length bytes → (at : ℕ) (s : S) → ReachesBy next bytes start at s → at ≤ length bytes
within_bytes {S} next weight bytes start moves first at s reached =
    kept_by next bytes start (λ (place : ℕ) (t : S). place ≤ length bytes) first
    (λ place t n u h e.
    let m = moves t (drop place bytes) n u e in
    let size = length-drop place bytes in
    omega (arith, m.within, size, h))
    reached.0 at s reached.1

-- nor back
pub not_before : {S : Type 0} (next : Table S) (bytes : List ℕ) (start : ℕ × S) (at : ℕ) (s : S) → ReachesBy next bytes start at s → start.0 ≤ at
not_before {S} next bytes start at s reached =
    kept_by next bytes start (λ (place : ℕ) (t : S). start.0 ≤ place) (omega arith) (λ place t n u h e. omega (arith, h)) reached.0 at s reached.1
