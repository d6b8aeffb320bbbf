-- How far the fields of a half before its journal go.
use Rattle.std.specs.Prelude.{◌≡◌, ◌≤◌, ℕ, List, take, Result, Ok, Err}
use Rattle.rel_format.specs.declared.header.PageFault.{PageFault}
use Rattle.rel_format.specs.declared.header.PageFault.TheVariants.{Damaged, Memory}
use Rattle.hera_meaning.specs.declared.schemas.RelDecl.{RelDecl}
use Rattle.hera_meaning.specs.Catalogues.{IsCatalogue}
use Rattle.rel_format.specs.Pages.{Format, header_of}
use Rattle.rel_format.specs.Walk.{ReachesBy, StopsBy}
use Rattle.rel_format.specs.Table.{Stand, at_magic, at_rels, is_whole, next}

-- whole fields, each keeping its rule after those before it, end at this place
abbrev pub Reaches : Format → List ℕ → ℕ → Stand → Type 0
Reaches f bytes at s = ReachesBy (next f) bytes (0, at_magic) at s

abbrev pub IsGoodPrefix : Format → List ℕ → ℕ → Type 0
IsGoodPrefix f bytes n = (s : Stand) × Reaches f bytes n s

-- a field that breaks its rule, or does not lie wholly in the bytes, begins at this place
abbrev pub Stops : Format → List ℕ → ℕ → Type 0
Stops f bytes at = StopsBy (next f) is_whole bytes (0, at_magic) at

-- what reading on gives: the value and the place behind it, or the place of the damage
abbrev pub Reads : {A : Type 0} → Format → List ℕ → ℕ → Stand → (A → Stand) → Result (A × ℕ) PageFault → Type 0
Reads f bytes at s behind (Ok x) = Reaches f bytes at s → Reaches f bytes x.1 (behind x.0)
Reads f bytes at s behind (Err (Damaged place)) = Reaches f bytes at s → Stops f bytes place
Reads f bytes at s behind (Err Memory) = Unit {0}

-- the same where the value leaves open which stand comes behind it
abbrev pub Finds : {A : Type 0} → Format → List ℕ → ℕ → Stand → (A → Stand → Type 0) → Result (A × ℕ) PageFault → Type 0
Finds f bytes at s Behind (Ok x) = Reaches f bytes at s → (t : Stand) × Behind x.0 t × Reaches f bytes x.1 t
Finds f bytes at s Behind (Err (Damaged place)) = Reaches f bytes at s → Stops f bytes place
Finds f bytes at s Behind (Err Memory) = Unit {0}

-- the damage is where the longest good prefix ends
pub record IsDamage (f : Format) (bytes : List ℕ) (at : ℕ) : Type 0 where
  pub good : IsGoodPrefix f bytes at
  pub longest : (n : ℕ) → IsGoodPrefix f bytes n → n ≤ at
  pub stops : Stops f bytes at

-- the bytes begin with the header of these relations
pub record IsHeader (f : Format) (bytes : List ℕ) (rels : List RelDecl) (at : ℕ) : Type 0 where
  pub catalogue : IsCatalogue rels
  pub printed : take at bytes ≡ header_of f rels
  pub reached : Reaches f bytes at (at_rels rels 0)

abbrev pub HeaderIs : Format → List ℕ → Result (List RelDecl × ℕ) PageFault → Type 0
HeaderIs f bytes (Ok x) = IsHeader f bytes x.0 x.1
HeaderIs f bytes (Err (Damaged at)) = Stops f bytes at
HeaderIs f bytes (Err Memory) = Unit {0}
