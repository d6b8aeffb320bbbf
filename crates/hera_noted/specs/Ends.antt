-- How far a range goes that begins at a place of a body, of which these are the sources of the ways to each place.
use Rattle.std.specs.Prelude.{◌≡◌, ◌<◌, ◌≤◌, ℕ, ◌+◌, List, Some, length, slice_get}
use Rattle.hera_noted.specs.declared.ways.Sources.{Sources}
use Rattle.hera_noted.specs.declared.ends.Gate.{Gate}

-- each number is at most the ones before it
abbrev pub Fall : List ℕ → Type 0
Fall ps = (i j p q : ℕ) → i ≤ j → slice_get ps i ≡ Some p → slice_get ps j ≡ Some q → q ≤ p

module _ (all : List Sources) where
  -- ways to the places of the range come from its places alone
  abbrev pub IsApart : (from to : ℕ) → Type 0
  IsApart from to = (k : ℕ) (s : Sources) → slice_get all k ≡ Some s → from ≤ k → k < to → (from ≤ s.first) × (s.last < to)

  -- the farthest end of a range that begins here
  pub record IsFarthestIn (from to : ℕ) : Type 0 where
    pub up : from ≤ to
    pub within : to ≤ length all
    pub apart : IsApart from to
    pub farthest : (z : ℕ) → z ≤ length all → IsApart from z → z ≤ to

  -- no way leads into the range from behind it
  abbrev pub IsUnentered : (from to : ℕ) → Type 0
  IsUnentered from to = (k : ℕ) (s : Sources) → slice_get all k ≡ Some s → from ≤ k → k < to → s.last < to

  -- all ends of ranges that begin here into which no way leads from behind, the farthest first
  pub record AreStops (from : ℕ) (stops : List ℕ) : Type 0 where
    pub fall : Fall stops
    pub each : (i p : ℕ) → slice_get stops i ≡ Some p → (from ≤ p) × (p ≤ length all) × IsUnentered from p
    pub complete : (z : ℕ) → from ≤ z → z ≤ length all → IsUnentered from z → (i : ℕ) × (slice_get stops i ≡ Some z)

  -- places from here on, the farthest first, among them all to which ways lead from before; the last is one of these
  pub record AreGates (from : ℕ) (gates : List Gate) : Type 0 where
    pub fall : (i j : ℕ) (g h : Gate) → i ≤ j → slice_get gates i ≡ Some g → slice_get gates j ≡ Some h → h.place ≤ g.place
    pub each : (i : ℕ) (g : Gate) → slice_get gates i ≡ Some g → (from ≤ g.place) × ((s : Sources) × (slice_get all g.place ≡ Some s) × (s.first ≡ g.first))
    pub complete : (k : ℕ) (s : Sources) → slice_get all k ≡ Some s → from ≤ k → s.first < from → (i : ℕ) × (slice_get gates i ≡ Some (record { place = k; first = s.first }))
    pub passed : (i : ℕ) (g : Gate) → i + 1 ≡ length gates → slice_get gates i ≡ Some g → g.first < from

  -- the farthest end of a range that begins here, into which no way leads from before
  pub record IsLimit (from to : ℕ) : Type 0 where
    pub up : from ≤ to
    pub within : to ≤ length all
    pub ahead : (k : ℕ) (s : Sources) → slice_get all k ≡ Some s → from ≤ k → k < to → from ≤ s.first
    pub most : (z : ℕ) → z ≤ length all → IsApart from z → z ≤ to
