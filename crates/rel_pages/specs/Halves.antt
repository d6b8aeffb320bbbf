-- What reading a half to its first gate gives.
use Rattle.std.specs.Prelude.{◌≡◌, ◌≤◌, ◌<◌, ◌⊎◌, ℕ, List, Result, Ok, Err, length, take, Vec}
use Rattle.std.specs.Global.{Global}
use Rattle.hera_meaning.specs.declared.schemas.RelDecl.{RelDecl}
use Rattle.rel_format.specs.declared.header.PageFault.{PageFault}
use Rattle.rel_format.specs.declared.header.PageFault.TheVariants.{Damaged, Memory}
use Rattle.hera_meaning.specs.Catalogues.{IsCatalogue}
use Rattle.hera_meaning.specs.Deltas.{IsState}
use Rattle.rel_format.specs.Pages.{Format, Fit, pages_of}
use Rattle.rel_format.specs.Journal.{half_limit}
use Rattle.rel_format.specs.Versions.{format_of, version_in}
use Rattle.rel_format.specs.Table.{Book, at_page}
use Rattle.rel_format.specs.Places.{Reaches, IsDamage}
use Rattle.rel_pages.specs.declared.parts.RelationPages.{RelationPages}
use Rattle.rel_pages.specs.Parts.{IsBase}
use Rattle.rel_pages.specs.Stored.{Stored}

-- the fields before the first gate end at this place
abbrev pub EndsAt : Format → List ℕ → List RelDecl → ℕ → Type 0
EndsAt f bytes rels at = (b : Book) × (b.rels ≡ rels) × Reaches f bytes at (at_page b 0)

abbrev pub HalfParts : Format → List ℕ → Result ((List RelDecl × Vec RelationPages Global) × ℕ) PageFault → Type 0
HalfParts f bytes (Ok x) = IsBase f x.0.0 x.0.1.items bytes x.1 × EndsAt f bytes x.0.0 x.1
HalfParts f bytes (Err (Damaged at)) = IsDamage f bytes at
HalfParts f bytes (Err Memory) = Unit {0}

-- the bytes begin with the pages of this base, in its format, and it ends at their first gate
pub record IsPages (bytes : List ℕ) (base : Stored) : Type 0 where
  pub version : base.version ≡ version_in bytes
  pub short : length bytes ≤ half_limit
  pub catalogue : IsCatalogue base.catalogue
  pub state : IsState base.catalogue base.state
  pub fit : Fit (format_of base.version).page base.state
  pub own : base.bytes ≡ bytes
  pub within : base.journal ≤ length bytes
  pub printed : take base.journal bytes ≡ pages_of (format_of base.version) base.catalogue base.state
  pub ends : EndsAt (format_of base.version) bytes base.catalogue base.journal

-- more bytes than a half may have are damaged at the limit, and others where their longest good prefix ends,
-- in the format that they have
abbrev pub IsDamagedAt : List ℕ → ℕ → Type 0
IsDamagedAt bytes at = ((half_limit < length bytes) × (at ≡ half_limit)) ⊎ ((length bytes ≤ half_limit) × IsDamage (format_of (version_in bytes)) bytes at)

-- what reading a half gives
abbrev pub HalfIs : List ℕ → Result Stored PageFault → Type 0
HalfIs bytes (Ok base) = IsPages bytes base
HalfIs bytes (Err (Damaged at)) = IsDamagedAt bytes at
HalfIs bytes (Err Memory) = Unit {0}
