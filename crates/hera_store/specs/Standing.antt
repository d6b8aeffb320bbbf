-- What contracts see of a store, and when it stands for the files.
use Rattle.std.specs.Prelude.{◌≡◌, ◌+◌, ℕ, Bool, List, [], ◌∷◌, ◌++◌, length, All}
use Rattle.hera_meaning.specs.Commits.{after_all, IsCommitOf}
use Rattle.hera_meaning.specs.declared.schemas.RelDecl.{RelDecl}
use Rattle.hera_meaning.specs.Deltas.{Delta, State, IsState}
use Rattle.delta_atoms.specs.Atoms.{atoms_in}
use Rattle.hera_volume.specs.Disk.{Disk, IsSettled}
use Rattle.hera_volume.specs.declared.file_id.FileId.{FileId}
use Rattle.hera_volume.specs.declared.file_id.FileId.TheVariants.{Select, Left, Right}
use Rattle.rel_format.specs.Versions.{format_of}
use Rattle.rel_format.specs.Journal.{record_of}
use Rattle.rel_pages.specs.Stored.{Stored}
use Rattle.commit_journal.specs.Halves.{IsHalfTo}
use Rattle.hera_store.specs.Databases.{Database, Names}

-- the base, the commits since, the half in which both are stored, the place of its first gate that is not open, and
-- whether a commit found the device at fault
pub record Standing : Type 0 where
  pub base : Stored
  pub commits : List Delta
  pub half : FileId
  pub end : ℕ
  pub closed : Bool

-- the base's catalogue, with its state after commits in order
abbrev pub database_over : Stored → List Delta → Database
database_over base commits = record { catalogue = base.catalogue; state = after_all base.state commits }

-- the database for which it stands
abbrev pub database_of : Standing → Database
database_of store = database_over store.base store.commits

-- the same with one commit more
abbrev pub database_after : Standing → Delta → Database
database_after store delta = database_over store.base (store.commits ++ delta ∷ [])

-- the base's state is one of its catalogue, and each commit is one of it
pub record AreOver (base : Stored) (commits : List Delta) : Type 0 where
  pub state : IsState base.catalogue base.state
  pub proper : All (IsCommitOf base.catalogue) commits

-- what some commits do to a state, these deltas do
pub record AreAsGood (rels : List RelDecl) (deltas commits : List Delta) : Type 0 where
  pub proper : All (IsCommitOf rels) commits
  pub same : (s : State) → IsState rels s → after_all s commits ≡ after_all s deltas

-- A crash leaves of each file what a read gives; the half that `select` names is the store's, it holds the store's
-- database in the format of the store's base, and its journal ends where the store keeps its end.
pub record StandsFor (disks : FileId → Disk) (store : Standing) : Type 0 where
  pub settled : (f : FileId) → IsSettled (disks f)
  pub named : Names (disks Select).bytes store.half
  pub half : IsHalfTo (format_of store.base.version) (disks store.half).bytes store.base.catalogue (after_all store.base.state store.commits) store.end

-- the other of two halves
abbrev pub other_half : FileId → FileId
other_half Left = Right
other_half Right = Left
other_half Select = Select

-- the byte that names a half
abbrev pub select_byte : FileId → ℕ
select_byte Right = 1
select_byte Left = 0
select_byte Select = 0

-- where the next gate of a journal stands, once the delta's record is behind the gate at its end
abbrev pub end_with : Standing → Delta → ℕ
end_with store delta = store.end + length (record_of (atoms_in delta)) + 1
