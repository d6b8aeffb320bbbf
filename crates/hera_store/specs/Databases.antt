-- What the files of a folder hold.
use Rattle.std.specs.Prelude.{◌≡◌, ◌≤◌, ◌<◌, ◌⊎◌, ◌==◌, ℕ, cond, List, [], ◌∷◌, length}
use Rattle.hera_meaning.specs.declared.schemas.RelDecl.{RelDecl}
use Rattle.hera_meaning.specs.Deltas.{State}
use Rattle.hera_volume.specs.declared.file_id.FileId.{FileId}
use Rattle.hera_volume.specs.declared.file_id.FileId.TheVariants.{Select, Left, Right}
use Rattle.rel_format.specs.Journal.{half_limit}
use Rattle.rel_format.specs.Versions.{format_of, version_in, IsHalfOf}
use Rattle.rel_pages.specs.Stored.{empty_state}
use Rattle.commit_journal.specs.Halves.{IsDamageOfHalf}

-- a catalogue, and the rows of each of its relations
pub record Database : Type 0 where
  pub catalogue : List RelDecl
  pub state : State

-- no relation of the catalogue has a row
abbrev pub empty_database : List RelDecl → Database
empty_database rels = record { catalogue = rels; state = empty_state rels }

-- right for the byte 1, left for every other
abbrev pub half_named : ℕ → FileId
half_named byte = cond (byte == 1) Right Left

-- `select` is one byte, and names this half
abbrev pub Names : List ℕ → FileId → Type 0
Names bytes half = (byte : ℕ) × (bytes ≡ byte ∷ []) × (half_named byte ≡ half)

-- `select` is one byte, and the half that it names has this catalogue and state
pub record Holds (files : FileId → List ℕ) (db : Database) : Type 0 where
  pub byte : ℕ
  pub selects : files Select ≡ byte ∷ []
  pub half : IsHalfOf (files (half_named byte)) db.catalogue db.state

-- ---- what is damaged

-- a half is damaged at the limit where it has more bytes than that, and else where its longest good prefix ends, in
-- the format that its first bytes tell
abbrev pub IsDamagedHalf : List ℕ → ℕ → Type 0
IsDamagedHalf bytes at = ((half_limit < length bytes) × (at ≡ half_limit)) ⊎ ((length bytes ≤ half_limit) × IsDamageOfHalf (format_of (version_in bytes)) bytes at)

-- `select` is damaged at 1 where it has more than one byte; else the half that it names may be damaged
abbrev pub IsDamaged : (FileId → List ℕ) → FileId → ℕ → Type 0
IsDamaged files file at = ((1 < length (files Select)) × (file ≡ Select) × (at ≡ 1)) ⊎ (Names (files Select) file × IsDamagedHalf (files file) at)

-- ---- what an opening finds

pub data FilesFound : Type 0 where
  absent : FilesFound
  spoilt : FileId → ℕ → FilesFound
  held : Database → FilesFound

-- no database, where `select` is empty; damage at a place of a file; or a database
abbrev pub IsFound : (FileId → List ℕ) → FilesFound → Type 0
IsFound files absent = files Select ≡ []
IsFound files (spoilt file at) = IsDamaged files file at
IsFound files (held db) = Holds files db
