-- Fields one after another, for any table of fields.
use Rattle.std.specs.Prelude.{◌≡◌, ℕ, zero, suc, ◌+◌, Bool, false, List, Option, None, Some, drop}

-- how many bytes the field has with which the bytes begin, and what comes behind it
abbrev pub Table : Type 0 → Type 0
Table S = S → List ℕ → Option (ℕ × S)

-- a field behind a place
abbrev pub onward : {S : Type 0} → ℕ → Option (ℕ × S) → Option (ℕ × S)
onward at None = None
onward at (Some y) = Some (at + y.0, y.1)

-- a place, and what was read before it
abbrev pub forward : {S : Type 0} → Table S → List ℕ → Option (ℕ × S) → Option (ℕ × S)
forward next bytes None = None
forward next bytes (Some x) = onward x.0 (next x.1 (drop x.0 bytes))

-- where the first k fields from a place on end
abbrev pub walk_by : {S : Type 0} → Table S → List ℕ → ℕ × S → ℕ → Option (ℕ × S)
walk_by next bytes start zero = Some start
walk_by next bytes start (suc k) = forward next bytes (walk_by next bytes start k)

-- whole fields, each keeping its rule after those before it, end at this place
abbrev pub ReachesBy : {S : Type 0} → Table S → List ℕ → ℕ × S → ℕ → S → Type 0
ReachesBy next bytes start at s = (k : ℕ) × (walk_by next bytes start k ≡ Some (at, s))

-- a field that breaks its rule, or does not lie wholly in the bytes, begins at this place
abbrev pub StopsBy : {S : Type 0} → Table S → (S → Bool) → List ℕ → ℕ × S → ℕ → Type 0
StopsBy {S} next is_whole bytes start at = (s : S) × ReachesBy next bytes start at s × (next s (drop at bytes) ≡ None) × (is_whole s ≡ false)
