-- A key that was found among the projected ones.
use Rattle.std.proofs.Common.{◌≡◌, ℕ, List, Option, Some, length, map, All, ap, ◌∙◌}
use Rattle.std.specs.List.{find}
use Rattle.hera_sets.specs.Rows.{Row, is_past, IsAscending, normal}
use Rattle.hera_meaning.specs.declared.schemas.Attr.{Attr}
use Rattle.hera_meaning.specs.Rows.{IsRow}
use Rattle.hera_meaning.specs.Relations.{project_of}
use Rattle.hera_meaning.specs.Aggregates.{rows_of_key}
use Rattle.rel_algebra.specs.Fronts.{begun_of}
use Rattle.rel_algebra.specs.Fronts.{rows_behind}
use Rattle.hera_aggregate.specs.Groups.{keyed_row}
use Rattle.hera_aggregate.proofs.KeyLemmas.{rows_behind-key, key_found}
use Rattle.hera_aggregate.proofs.GroupLemmas.{found_held}

-- the rows behind it are its rows
pub behind_found : (schema : List Attr) (by : List ℕ) (rows keyed : List Row) (last : Option Row) (key : Row) → keyed ≡ normal (map (keyed_row schema by) rows) → All (IsRow schema) rows → IsAscending rows → find (is_past last) (project_of schema by rows) ≡ Some key → rows_behind (length key) (begun_of key keyed) ≡ rows_of_key schema by key rows
behind_found schema by rows keyed last key e all up h =
    ap (λ ts. rows_behind (length key) (begun_of key ts)) e
    ∙ rows_behind-key schema by rows key (key_found schema by rows key all (found_held (is_past last) (project_of schema by rows) key h)) all up
