-- Databases widened to a catalogue.
use Rattle.std.specs.Prelude.{◌≡◌, ℕ, true, List, slice_get, Some}
use Rattle.hera_sets.specs.Rows.{Row}
use Rattle.hera_meaning.specs.declared.schemas.RelDecl.{RelDecl}
use Rattle.hera_meaning.specs.Commits.{after_all}
use Rattle.hera_meaning.specs.Deltas.{Delta}
use Rattle.hera_meaning.specs.Wider.{is_prefix, widened_rows, widen_of}
use Rattle.hera_row.specs.Numbers.{number_named}
use Rattle.rel_pages.specs.Stored.{Stored}
use Rattle.hera_store.specs.Databases.{Database}

-- the relations of the catalogue, each with the rows that the database has under its name and the added fields behind them
abbrev pub widened : Database → List RelDecl → Database
widened db rels = record { catalogue = rels; state = widen_of db.catalogue db.state rels }

-- of one relation, the rows that the base has after the commits
abbrev pub rows_under : Stored → List Delta → RelDecl → List Row
rows_under base commits decl = widened_rows decl.name decl.schema base.catalogue (after_all base.state commits)

-- where the catalogue has a relation of this name, the schema begins as that one's does
abbrev pub BeginsAs : List RelDecl → RelDecl → Type 0
BeginsAs old decl = (number : ℕ) (d : RelDecl) → number_named decl.name old ≡ Some number → slice_get old number ≡ Some d → is_prefix d.schema decl.schema ≡ true
