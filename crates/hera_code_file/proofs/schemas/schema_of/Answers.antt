use Rattle.rel_format.proofs.Names.{no_schema_fault}
use Rattle.hera_code_file.proofs.schemas.schema_of.Goals as goal

pub unreachable-requires : goal.unreachable-requires
unreachable-requires c = no_schema_fault c.args.attrs.items c.in-Err.field-0 c.requires c.in-Err.ensures.refused
