use Rattle.std.proofs.Common.{arith}
use Rattle.hera_row.proofs.FieldLemmas.{AreBytes}
use Rattle.hera_code_file.proofs.Schema_law.{attrs_taken, width_behind}
use Rattle.hera_code_file.proofs.schemas.schema.Goals as goal

pub schema_of-schema-requires : goal.schema_of-schema-requires
schema_of-schema-requires c =
    let are : AreBytes c.args.bytes.now = λ i. omega (arith, c.type_inv.bytes i) in
    (attrs_taken c.args.bytes.now c.in_ok-count.rest.now c.in_ok-count.count c.in_ok-attrs.attrs.items c.in_ok-attrs.rest.now (width_behind c.args.bytes.now c.in_ok-count.count c.in_ok-count.rest.now are c.in_ok-count.ensures) c.in_ok-count.ensures c.in_ok-attrs.ensures).2.schema_is
