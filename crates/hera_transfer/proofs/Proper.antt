-- The delta of an import is one of the catalogue.
use Rattle.std.proofs.Common.{◌≡◌, ◌<◌, ℕ, List, [], ◌∷◌, length, refl, sym, subst}
use Rattle.std.specs.Prelude.{All}
use Rattle.std.proofs.lemmas.List.Elements.{All-head, All-tail, All-cons, All-nil}
use Rattle.hera_sets.specs.Rows.{Row}
use Rattle.hera_meaning.specs.declared.scalars.Sign.TheVariants.{Plus}
use Rattle.hera_meaning.specs.declared.schemas.Attr.{Attr}
use Rattle.hera_meaning.specs.declared.schemas.RelDecl.{RelDecl}
use Rattle.hera_meaning.specs.Deltas.{Delta, schema_of, IsAtomOf}
use Rattle.hera_meaning.specs.Rows.{IsRow}
use Rattle.delta_atoms.specs.Atoms.{atom_of, bulk_of}
use Rattle.hera_run.specs.Action.{IsProper}
use Rattle.hera_run.specs.declared.carry.Action.TheVariants.{Store}
use Rattle.hera_transfer.specs.Transfers.{addition}

bulk_atoms : (rels : List RelDecl) (rel : ℕ) (rows : List Row) → rel < length rels → All (IsRow (schema_of rels rel)) rows → All (IsAtomOf rels) (bulk_of Plus rel rows)
bulk_atoms rels rel [] known valid = All-nil (IsAtomOf rels)
bulk_atoms rels rel (x ∷ rows) known valid =
    All-cons (IsAtomOf rels) (atom_of Plus rel x) (bulk_of Plus rel rows) (record { known = known; row = All-head (IsRow (schema_of rels rel)) x rows valid })
    (bulk_atoms rels rel rows known (All-tail (IsRow (schema_of rels rel)) x rows valid))

pub addition_proper : (rels : List RelDecl) (rel : ℕ) (schema : List Attr) (rows : List Row) (delta : Delta) → rel < length rels → schema_of rels rel ≡ schema → All (IsRow schema) rows → delta ≡ addition rel rows → IsProper rels (Store delta)
addition_proper rels rel schema rows delta known same valid is =
    subst (λ (d : Delta). IsProper rels (Store d)) (sym is)
    (refl, bulk_atoms rels rel rows known (subst (λ (s : List Attr). All (IsRow s) rows) (sym same) valid))
