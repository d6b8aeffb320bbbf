-- What is exported comes back as it was.
use Rattle.std.proofs.Common.{◌≡◌, ◌<◌, ◌∙◌, ℕ, zero, suc, List, [], ◌∷◌, length, None, Some, sym, ap, subst, arith}
use Rattle.std.specs.Prelude.{All}
use Rattle.std.proofs.lemmas.List.Elements.{All-head, All-tail, All-nil}
use Rattle.hera_sets.specs.Rows.{Row, IsAscending}
use Rattle.hera_sets.specs.Sets.{union_of}
use Rattle.hera_meaning.specs.declared.schemas.Attr.{Attr}
use Rattle.hera_meaning.specs.declared.schemas.RelDecl.{RelDecl}
use Rattle.hera_meaning.specs.Catalogues.{IsCatalogue, IsDecl}
use Rattle.hera_meaning.specs.Deltas.{State, IsState, schema_of, rows_at, apply_of}
use Rattle.hera_meaning.specs.Identifiers.{IsIdentifier}
use Rattle.hera_meaning.specs.Rows.{IsRow}
use Rattle.hera_meaning.specs.Schemas.{IsSchema, names_of}
use Rattle.hera_row.specs.Numbers.{number_named}
use Rattle.hera_csv.specs.Records.{records_of, bad_in, rows_of}
use Rattle.hera_csv.specs.Writers.{csv_of}
use Rattle.hera_store.specs.Databases.{Database}
use Rattle.hera_transfer.specs.Transfers.{addition, IsGood, rows_in}
use Rattle.hera_transfer.proofs.Named.{named_within}
use Rattle.hera_transfer.proofs.Uniting.{united}

abbrev pub WrittenIsGood : Type 0
WrittenIsGood = (schema : List Attr) → (rows : List Row) → IsSchema schema → All IsIdentifier (names_of schema) → All (IsRow schema) rows → bad_in schema (records_of (csv_of schema rows)) ≡ None

abbrev pub WrittenIsRead : Type 0
WrittenIsRead = (schema : List Attr) → (rows : List Row) → IsSchema schema → All IsIdentifier (names_of schema) → All (IsRow schema) rows → IsAscending rows → rows_of schema (records_of (csv_of schema rows)) ≡ rows

abbrev pub WrittenUnites : Type 0
WrittenUnites = (schema : List Attr) → (rows : List Row) → IsSchema schema → All IsIdentifier (names_of schema) → All (IsRow schema) rows → IsAscending rows → union_of [] (rows_of schema (records_of (csv_of schema rows))) ≡ rows

schema_there : (rels : List RelDecl) (r : ℕ) → All IsDecl rels → r < length rels → IsSchema (schema_of rels r)
schema_there [] r decls lt = absurd (omega (arith, lt))
schema_there (d ∷ rels) zero decls lt = (All-head IsDecl d rels decls).schema
schema_there (d ∷ rels) (suc r) decls lt = schema_there rels r (All-tail IsDecl d rels decls) (omega (arith, lt))

names_there : (rels : List RelDecl) (r : ℕ) → All IsDecl rels → r < length rels → All IsIdentifier (names_of (schema_of rels r))
names_there [] r decls lt = absurd (omega (arith, lt))
names_there (d ∷ rels) zero decls lt = (All-head IsDecl d rels decls).attrs
names_there (d ∷ rels) (suc r) decls lt = names_there rels r (All-tail IsDecl d rels decls) (omega (arith, lt))

valid_rows : (rels : List RelDecl) (s : State) (r : ℕ) → IsState rels s → All (IsRow (schema_of rels r)) (rows_at s r)
valid_rows rels [] r valid = All-nil (IsRow (schema_of rels r))
valid_rows [] (xs ∷ s) r valid = absurd valid
valid_rows (d ∷ rels) (xs ∷ s) zero valid = valid.0.1
valid_rows (d ∷ rels) (xs ∷ s) (suc r) valid = valid_rows rels s r valid.1

ascending_rows : (rels : List RelDecl) (s : State) (r : ℕ) → IsState rels s → IsAscending (rows_at s r)
ascending_rows rels [] r valid = tt
ascending_rows [] (xs ∷ s) r valid = absurd valid
ascending_rows (d ∷ rels) (xs ∷ s) zero valid = valid.0.0
ascending_rows (d ∷ rels) (xs ∷ s) (suc r) valid = ascending_rows rels s r valid.1

module _ (from into : Database) (name : List ℕ) (rel number : ℕ) (known : IsCatalogue from.catalogue) (valid : IsState from.catalogue from.state) (named : number_named name from.catalogue ≡ Some rel) (also : number_named name into.catalogue ≡ Some number)
    (same : schema_of into.catalogue number ≡ schema_of from.catalogue rel) where
  abbrev schema : List Attr
  schema = schema_of from.catalogue rel

  abbrev rows : List Row
  rows = rows_at from.state rel

  abbrev file : List ℕ
  file = csv_of schema rows

  there : rel < length from.catalogue
  there = named_within name from.catalogue rel named

  pub comes_back_good : WrittenIsGood → IsGood into name file number
  comes_back_good good = record {
    named = also;
    good = subst (λ (x : List Attr). bad_in x (records_of file) ≡ None) (sym same) (good schema rows (schema_there from.catalogue rel known.decls there) (names_there from.catalogue rel known.decls there) (valid_rows from.catalogue from.state rel valid));
  }

  pub comes_back : WrittenIsRead → rows_in into number file ≡ rows
  comes_back read =
      ap (λ (x : List Attr). rows_of x (records_of file)) same
      ∙ read schema rows (schema_there from.catalogue rel known.decls there) (names_there from.catalogue rel known.decls there) (valid_rows from.catalogue from.state rel valid) (ascending_rows from.catalogue from.state rel valid)

  pub comes_back_alone : WrittenUnites → rows_at into.state number ≡ [] → number < length into.state → rows_at (apply_of into.state (addition number (rows_in into number file))) number ≡ rows
  comes_back_alone unites empty lt =
      united into.state number (rows_in into number file) lt
      ∙ ap (λ (xs : List Row). union_of xs (rows_in into number file)) empty
      ∙ ap (λ (x : List Attr). union_of [] (rows_of x (records_of file))) same
      ∙ unites schema rows (schema_there from.catalogue rel known.decls there) (names_there from.catalogue rel known.decls there) (valid_rows from.catalogue from.state rel valid) (ascending_rows from.catalogue from.state rel valid)
