-- What is found after a stop at any moment of a run.
use Rattle.std.specs.Prelude.{◌≡◌, ◌⊎◌, ℕ, List, [], ◌∷◌, ◌++◌, take, Option, Some}
use Rattle.std.specs.Io.KnownBytes.{Appends}
use Rattle.hera_meaning.specs.Deltas.{State}
use Rattle.hera_meaning.specs.Worlds.{Event, out, store}
use Rattle.hera_meaning.specs.Run.{printed, state_after}
use Rattle.hera_volume.specs.Time.{Image}
use Rattle.hera_volume.specs.declared.file_id.FileId.{FileId}
use Rattle.hera_store.specs.Databases.{Database, Holds}

-- what the first of these events prints
abbrev pub text_of_next : List Event → List ℕ
text_of_next [] = []
text_of_next (out bytes ∷ events) = bytes
text_of_next (store s d ∷ events) = []

-- the first of these events stores this state
abbrev pub StoresNext : List Event → State → Type 0
StoresNext [] s = ⊥
StoresNext (out bytes ∷ events) s = ⊥
StoresNext (store t d ∷ events) s = s ≡ t

-- the database with another state
abbrev pub with_state : Database → State → Database
with_state db s = record { catalogue = db.catalogue; state = s }

-- Some of the events were carried out, and of the next at most a part: what they print was emitted since
-- the start, and then a prefix of what the next one prints; and a state is found in the files: that after these
-- events, from the one in which the run began, or that which the next one stores.
pub record IsCutWith (finds : (FileId → List ℕ) → State → Type 0) (events : List Event) (from : State) (start : Option (List ℕ)) (c : Image) : Type 0 where
  pub done : List Event
  pub rest : List Event
  pub split : done ++ rest ≡ events
  pub front : ℕ
  pub bytes : Appends start (Some c.emitted) (printed done ++ take front (text_of_next rest))
  pub state : State
  pub found : finds c.files state
  pub stored : (state ≡ state_after from done) ⊎ StoresNext rest state

-- the same of a database: the files hold it with that state
abbrev pub HoldsWith : Database → (FileId → List ℕ) → State → Type 0
HoldsWith db files s = Holds files (with_state db s)

abbrev pub IsCut : List Event → Database → Option (List ℕ) → Image → Type 0
IsCut events db start c = IsCutWith (HoldsWith db) events db.state start c
