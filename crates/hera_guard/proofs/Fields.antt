-- The kind of a field of a row.
use Rattle.std.proofs.Common.{◌≡◌, ℕ, zero, suc, ◌<◌, true, List, [], ◌∷◌, Option, Some, None, sym, ap, ◌∙◌, subst, length, arith, append-nil}
use Rattle.std.proofs.lemmas.Bool.{false≢true}
use Rattle.hera_meaning.specs.declared.schemas.Attr.{Attr}
use Rattle.hera_meaning.specs.declared.scalars.Scalar.{Scalar}
use Rattle.hera_meaning.specs.Scalars.{is_kind, is_tuple}
use Rattle.hera_meaning.specs.Rows.{IsRow, row_of, fields_of, scalar_at, field_at}
use Rattle.hera_meaning.specs.Forms.{kind_at}
use Rattle.std.specs.Prelude.{IsSomeAnd}
use Rattle.hera_meaning.specs.declared.hosts.HostSpec.{HostSpec}
use Rattle.hera_meaning.specs.declared.hosts.HostAnswer.{HostAnswer}
use Rattle.hera_meaning.specs.Hosts.{host_of}
use Rattle.hera_guard.specs.Guards.{is_no, refuses}
use Rattle.hera_row.proofs.RowLemmas.{first_field, fields_of-row_of}

scalar_kind : (schema : List Attr) (tuple : List Scalar) (i : ℕ) → is_tuple schema tuple ≡ true → i < length schema → is_kind (kind_at schema i) (scalar_at tuple i) ≡ true
scalar_kind [] tuple i is h = absurd (omega (arith, h))
scalar_kind (a ∷ attrs) [] i is h = absurd (false≢true is)
scalar_kind (a ∷ attrs) (s ∷ ss) zero is h = (first_field a attrs s ss is).kind
scalar_kind (a ∷ attrs) (s ∷ ss) (suc i) is h = scalar_kind attrs ss i (first_field a attrs s ss is).others (omega (arith, h))

-- a field of a row is of the kind of its attribute
pub field_kind : (schema : List Attr) (row : List ℕ) (i : ℕ) → IsRow schema row → i < length schema → is_kind (kind_at schema i) (field_at schema row i) ≡ true
field_kind schema row i is h =
    let tuple = is.0 in
    let read : fields_of schema row ≡ tuple = ap (fields_of schema) (sym is.2 ∙ sym (append-nil (row_of tuple))) ∙ fields_of-row_of schema tuple [] is.1 in
    subst (λ (fields : List Scalar). is_kind (kind_at schema i) (scalar_at fields i) ≡ true) (sym read) (scalar_kind schema tuple i is.1 h)

-- what a host answers for the field tells whether it refuses it
pub answered : (o : Option HostSpec) (a : HostAnswer) (s t : Scalar) → s ≡ t → IsSomeAnd o (λ spec. a ≡ host_of spec s) → is_no a ≡ refuses o t
answered None a s t e h = absurd h
answered (Some spec) a s t e h = ap is_no (h ∙ ap (host_of spec) e)
