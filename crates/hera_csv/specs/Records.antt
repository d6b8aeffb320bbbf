-- The records of a text of CSV, the first of them that is not good, and the rows that they write.
use Rattle.std.specs.Prelude.{◌≡◌, ℕ, suc, Bool, cond, ◌==◌, is_some, List, [], ◌∷◌, ◌++◌, Option, None, Some, drop}
use Rattle.csv.specs.Reading.{records, default_config, strip_bom}
use Rattle.hera_sets.specs.Rows.{Row, normal}
use Rattle.hera_meaning.specs.declared.schemas.Attr.{Attr}
use Rattle.hera_csv.specs.declared.reading.CsvFault.{CsvFault}
use Rattle.hera_csv.specs.declared.reading.CsvFault.TheVariants.{Record as record_fault, Memory}
use Rattle.hera_csv.specs.Fields.{row_read, is_head}

-- a record is its fields
abbrev pub Fields : Type 0
Fields = List (List ℕ)

-- what the reader gives of the bytes, with its defaults: commas, double quotes, records that end at a carriage
-- return, a line feed or both, and no byte order mark
abbrev pub records_of : List ℕ → List Fields
records_of bytes = records default_config (strip_bom bytes)

-- the first record is the names of the attributes, and each other one writes a row
abbrev pub is_good : List Attr → ℕ → Fields → Bool
is_good schema number fields = cond (number == 1) (is_head schema fields) (is_some (row_read schema fields))

-- the number of the first that is not good, of these from number n on
abbrev pub bad_from : (ℕ → Fields → Bool) → ℕ → List Fields → Option ℕ
bad_from good n [] = None
bad_from good n (r ∷ rest) = cond (good n r) (bad_from good (suc n) rest) (Some n)

-- the same of all records: 1 where there is none
abbrev pub first_bad : (ℕ → Fields → Bool) → List Fields → Option ℕ
first_bad good [] = Some 1
first_bad good (r ∷ rest) = bad_from good 1 (r ∷ rest)

abbrev pub bad_in : List Attr → List Fields → Option ℕ
bad_in schema all = first_bad (is_good schema) all

abbrev pub then_row : Option Row → List Row → List Row
then_row None rows = rows
then_row (Some row) rows = row ∷ rows

-- the rows that records write, in their order
abbrev pub rows_read : List Attr → List Fields → List Row
rows_read schema [] = []
rows_read schema (r ∷ rest) = then_row (row_read schema r) (rows_read schema rest)

-- those of the records behind the first
abbrev pub rows_behind : List Attr → List Fields → List Row
rows_behind schema all = rows_read schema (drop 1 all)

-- the same as a set
abbrev pub rows_of : List Attr → List Fields → List Row
rows_of schema all = normal (rows_behind schema all)

-- the rows with the one that the record of this number writes
abbrev pub with_row : Option Row → List Row → List Row
with_row None rows = rows
with_row (Some row) rows = rows ++ row ∷ []

abbrev pub rows_with : List Attr → ℕ → Fields → List Row → List Row
rows_with schema number fields rows = cond (number == 1) rows (with_row (row_read schema fields) rows)

-- a refusal tells the first that is not good
abbrev pub IsRefusal : Option ℕ → CsvFault → Type 0
IsRefusal bad (record_fault number) = bad ≡ Some number
IsRefusal bad Memory = Unit {0}
