-- The sources of the FILE words.
use Rattle.std.specs.Prelude.{◌≡◌, ◌≤◌, ◌<◌, ◌⊎◌, ℕ, List, ◌∷◌, Option, length, map}
use Rattle.std.specs.List.{AllZip}
use Rattle.std.specs.Io.KnownBytes.{Consumes, IsAtEnd}
use Rattle.hera_causes.specs.Causes.{Rose}

-- what is seen of a source: the bytes still to come, where that is told, and how often it has failed
pub record Seen : Type 0 where
  pub left : Option (List ℕ)
  pub faults : ℕ

abbrev pub seen : {S : Type 0} → (S → Option (List ℕ)) → (S → ℕ) → S → Seen
seen left faults source = record { left = left source; faults = faults source }

-- and of each of several
abbrev pub seen_of : {S : Type 0} → (S → Option (List ℕ)) → (S → ℕ) → List S → List Seen
seen_of left faults sources = map (seen left faults) sources

-- ---- one source

-- these bytes came from it: all that was left, or more than the limit; and it did not fail
pub record IsRead (limit : ℕ) (before now : Seen) (bytes : List ℕ) : Type 0 where
  pub consumed : Consumes before.left now.left bytes
  pub ended : IsAtEnd now.left ⊎ (limit < length bytes)
  pub still : now.faults ≡ before.faults

-- the same, and no more than the limit
pub record IsWhole (limit : ℕ) (before now : Seen) (bytes : List ℕ) : Type 0 where
  pub read : IsRead limit before now bytes
  pub short : length bytes ≤ limit

-- it failed before more than the limit came
pub record IsUnread (limit : ℕ) (before now : Seen) : Type 0 where
  pub bytes : List ℕ
  pub consumed : Consumes before.left now.left bytes
  pub short : length bytes ≤ limit
  pub rose : Rose before.faults now.faults

-- ---- all sources

-- none has failed
abbrev pub AreStill : (before now : List Seen) → Type 0
AreStill before now = AllZip (λ (b : Seen) (n : Seen). n.faults ≡ b.faults) before now

-- none has failed less often
abbrev pub AreLater : (before now : List Seen) → Type 0
AreLater before now = AllZip (λ (b : Seen) (n : Seen). b.faults ≤ n.faults) before now

-- one has failed
pub data OneFailed : (before now : List Seen) → Type 0 where
  this_failed : {b n : Seen} {before now : List Seen} → Rose b.faults n.faults → OneFailed (b ∷ before) (n ∷ now)
  later_failed : {b n : Seen} {before now : List Seen} → OneFailed before now → OneFailed (b ∷ before) (n ∷ now)
