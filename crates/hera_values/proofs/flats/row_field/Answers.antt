use Rattle.hera_row.specs.Fields.{told}
use Rattle.hera_values.proofs.FieldsGiven.{field_given_some}
use Rattle.hera_values.proofs.flats.row_field.Goals as goal

pub returns-in-Some : goal.returns-in-Some
returns-in-Some c =
    field_given_some c.args.schema.now c.args.i c.args.row.now c.flat_scalar.result (told c.in-Some.field) c.in-Some.ensures.there.0 c.in-Some.ensures.there.1 c.in-Some.ensures.there.2 c.flat_scalar.ensures
