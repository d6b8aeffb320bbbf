-- The steps of an import.
use Rattle.std.specs.Prelude.{◌≡◌, ℕ, true, false, List, length, None, Some}
use Rattle.hera_sets.specs.Rows.{Row}
use Rattle.hera_meaning.specs.declared.schemas.Attr.{Attr}
use Rattle.hera_meaning.specs.declared.schemas.RelDecl.{RelDecl}
use Rattle.hera_meaning.specs.Deltas.{Delta, schema_of}
use Rattle.hera_row.specs.Numbers.{number_named}
use Rattle.rel_format.specs.Versions.{is_old}
use Rattle.hera_csv.specs.Records.{records_of, bad_in, rows_of}
use Rattle.hera_store.specs.Standing.{Standing}
use Rattle.hera_outcome.specs.declared.answer.Stop.{Stop}
use Rattle.hera_outcome.specs.declared.answer.Stop.TheVariants.{Refused, Memory}
use Rattle.hera_outcome.specs.declared.refusal.Refusal.TheVariants.{NoRelation, Record as bad_record}
use Rattle.hera_outcome.specs.Passages.{Passage}
use Rattle.hera_run.specs.Opening.{IsRewritten}
use Rattle.hera_transfer.specs.Transfers.{addition, imported_text}

-- the rows of a file for the relation of this name, and its schema
pub record IsReadFor (rels : List RelDecl) (name file : List ℕ) (schema : List Attr) (rows : List Row) : Type 0 where
  pub rel : ℕ
  pub named : number_named name rels ≡ Some rel
  pub schema_is : schema_of rels rel ≡ schema
  pub good : bad_in schema (records_of file) ≡ None
  pub rows_are : rows ≡ rows_of schema (records_of file)

-- why none were read
pub data IsUnread (rels : List RelDecl) (name file : List ℕ) : Stop → Type 0 where
  has_none : number_named name rels ≡ None → IsUnread rels name file (Refused NoRelation)
  has_bad : {rel number : ℕ} → number_named name rels ≡ Some rel → bad_in (schema_of rels rel) (records_of file) ≡ Some number → IsUnread rels name file (Refused (bad_record number))
  lacks_memory : IsUnread rels name file Memory

-- the store's half has format 2: it had, and nothing was done; or it was rewritten
pub data IsMadeNew (s next : Standing) (v : Passage) : Type 0 where
  is_new : is_old s.base.version ≡ false → next ≡ s → v.idle → IsMadeNew s next v
  is_rewritten : is_old s.base.version ≡ true → IsRewritten s next v → IsMadeNew s next v

-- what stores rows in the relation of this name and schema, and tells it
pub record IsAdding (rels : List RelDecl) (name : List ℕ) (schema : List Attr) (rows : List Row) (delta : Delta) (line : List ℕ) : Type 0 where
  pub rel : ℕ
  pub named : number_named name rels ≡ Some rel
  pub schema_is : schema_of rels rel ≡ schema
  pub delta_is : delta ≡ addition rel rows
  pub line_is : line ≡ imported_text (length rows)

-- why nothing is added: there is no such relation, or no memory
pub data IsUnadded (rels : List RelDecl) (name : List ℕ) (schema : List Attr) : Stop → Type 0 where
  is_gone : ((rel : ℕ) → number_named name rels ≡ Some rel → schema_of rels rel ≡ schema → ⊥) → IsUnadded rels name schema (Refused NoRelation)
  is_short : IsUnadded rels name schema Memory
