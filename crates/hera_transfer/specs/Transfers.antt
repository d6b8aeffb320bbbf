-- What an export and an import of a relation come to.
use Rattle.std.specs.Prelude.{◌≡◌, ℕ, List, [], ◌∷◌, ◌++◌, length, codes, None, Some}
use Rattle.hera_sets.specs.Rows.{Row}
use Rattle.hera_meaning.specs.declared.scalars.Sign.TheVariants.{Plus}
use Rattle.hera_meaning.specs.Deltas.{State, Delta, atoms, schema_of, rows_at, apply_of}
use Rattle.hera_meaning.specs.Printed.{number_text}
use Rattle.hera_meaning.specs.Run.{Report, finished}
use Rattle.hera_meaning.specs.Worlds.{out, store}
use Rattle.hera_row.specs.Numbers.{number_named}
use Rattle.delta_atoms.specs.Atoms.{bulk_of}
use Rattle.hera_csv.specs.Records.{records_of, bad_in, rows_of}
use Rattle.hera_csv.specs.Writers.{csv_of}
use Rattle.hera_store.specs.Databases.{Database, held}
use Rattle.hera_outcome.specs.declared.refusal.Refusal.{Refusal}
use Rattle.hera_outcome.specs.declared.refusal.Refusal.TheVariants.{NoRelation, Record as bad_record}
use Rattle.hera_outcome.specs.Outcomes.{Outcome, refused, prints, too_long}
use Rattle.hera_outcome.specs.Passages.{Start}
use Rattle.hera_transfer.specs.declared.adding.TheConstants.{DATA_LIMIT}
use Rattle.hera_run.specs.Folder.{IsThere, IsClosed, IsStarting, IsOverfull, outcome_from}

-- ---- out

-- the folder is refused, then the name; and else the names of the relation's attributes are printed, and then its rows
pub data ExportsTo (name : List ℕ) (v : Start) : Outcome → Type 0 where
  shut : {refusal : Refusal} → IsClosed v refusal → ExportsTo name v (refused refusal)
  unknown : {db : Database} → IsThere v (held db) → number_named name db.catalogue ≡ None → ExportsTo name v (refused NoRelation)
  writes : {db : Database} {rel : ℕ} → IsThere v (held db) → number_named name db.catalogue ≡ Some rel → ExportsTo name v (prints (csv_of (schema_of db.catalogue rel) (rows_at db.state rel)))

-- ---- in

-- the most bytes of a file
abbrev pub data_limit : ℕ
data_limit = DATA_LIMIT

-- the delta that has +R of each of these rows, and no other atom
abbrev pub addition : (rel : ℕ) → List Row → Delta
addition rel rows = atoms (bulk_of Plus rel rows)

-- the line that tells how many they were
unfoldable pub imported_text : ℕ → List ℕ
imported_text n = codes "imported " ++ number_text n ++ codes "\n"

-- one store, and then a line
abbrev pub stored_and_told : State → Delta → (line : List ℕ) → Report
stored_and_told s delta line = record { events = store (apply_of s delta) delta ∷ out line ∷ []; finish = finished }

-- the rows of a file for the relation of this number
abbrev pub rows_in : Database → (rel : ℕ) → (file : List ℕ) → List Row
rows_in db rel file = rows_of (schema_of db.catalogue rel) (records_of file)

-- the relation has this number, and each record of the file is good for it
pub record IsGood (db : Database) (name file : List ℕ) (rel : ℕ) : Type 0 where
  pub named : number_named name db.catalogue ≡ Some rel
  pub good : bad_in (schema_of db.catalogue rel) (records_of file) ≡ None

-- the rows of the file are stored, and their number is told
abbrev pub import_of : Database → (rel : ℕ) → (file : List ℕ) → Report
import_of db rel file = stored_and_told db.state (addition rel (rows_in db rel file)) (imported_text (length (rows_in db rel file)))

-- The folder is refused, then the name, then the first record that is not good; or a half of format 1 has no room in format
-- 2; and else both events of the import are carried out, or none where the store does not fit.
pub data ImportsTo (name file : List ℕ) (v : Start) : Outcome → Type 0 where
  closed : {refusal : Refusal} → IsClosed v refusal → ImportsTo name file v (refused refusal)
  lacks : {db : Database} → IsThere v (held db) → number_named name db.catalogue ≡ None → ImportsTo name file v (refused NoRelation)
  refuses : {db : Database} {rel number : ℕ} → IsThere v (held db) → number_named name db.catalogue ≡ Some rel → bad_in (schema_of db.catalogue rel) (records_of file) ≡ Some number
      → ImportsTo name file v (refused (bad_record number))
  overflows : {db : Database} {rel : ℕ} → IsThere v (held db) → IsGood db name file rel → IsOverfull v db → ImportsTo name file v (too_long db)
  imports : {db : Database} {rel gate : ℕ} → IsThere v (held db) → IsGood db name file rel → IsStarting v db gate → ImportsTo name file v (outcome_from db gate (import_of db rel file))
