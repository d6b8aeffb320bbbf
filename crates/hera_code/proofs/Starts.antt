-- The starts of bodies.
use Rattle.std.proofs.Common.{◌≡◌, ◌<◌, ◌≤◌, ℕ, zero, suc, List, [], ◌∷◌, refl, length, drop, Some, None, slice_get, get_or, arith}
use Rattle.hera_code.specs.declared.instrs.BodyInfo.{BodyInfo}
use Rattle.hera_code.specs.Listing.{next_start, StartsFrom}

pub next_start_at : (bodies : List BodyInfo) (k end : ℕ) (b : BodyInfo) → slice_get bodies k ≡ Some b → next_start (drop k bodies) end ≡ b.at
next_start_at [] k end b h = cc
next_start_at (c ∷ bodies) zero end b h = cc
next_start_at (c ∷ bodies) (suc k) end b h = next_start_at bodies k end b h

pub next_start_past : (bodies : List BodyInfo) (k end : ℕ) → slice_get bodies k ≡ None → next_start (drop k bodies) end ≡ end
next_start_past [] zero end h = refl
next_start_past [] (suc k) end h = refl
next_start_past (c ∷ bodies) zero end h = cc
next_start_past (c ∷ bodies) (suc k) end h = next_start_past bodies k end h

-- the start of each body lies below the next one, and that in the code or at its end
pub next_start_within : (a end : ℕ) (bodies : List BodyInfo) → a ≤ end → StartsFrom a bodies end → (a ≤ next_start bodies end) × (next_start bodies end ≤ end)
next_start_within a end [] h s = (h, omega arith)
next_start_within a end (b ∷ bodies) h s = (s.0, omega (arith, s.1))

pub start_below_next : (a end : ℕ) (bodies : List BodyInfo) (k : ℕ) (d : BodyInfo) → StartsFrom a bodies end → k < length bodies → (get_or bodies k d).at ≤ next_start (drop (suc k) bodies) end
start_below_next a end [] k d s h = absurd (omega arith)
start_below_next a end (b ∷ bodies) zero d s h = let w = next_start_within (suc b.at) end bodies (omega (arith, s.1)) s.2 in omega (arith, w.0)
start_below_next a end (b ∷ bodies) (suc k) d s h = start_below_next (suc b.at) end bodies k d s.2 (omega arith)

pub next_start_in_code : (a end : ℕ) (bodies : List BodyInfo) (k : ℕ) → StartsFrom a bodies end → a ≤ end → next_start (drop k bodies) end ≤ end
next_start_in_code a end bodies zero s h = (next_start_within a end bodies h s).1
next_start_in_code a end [] (suc k) s h = omega arith
next_start_in_code a end (b ∷ bodies) (suc k) s h = next_start_in_code (suc b.at) end bodies k s.2 (omega (arith, s.1))
