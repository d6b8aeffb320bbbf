use Rattle.rel_format.proofs.Names.{no_schema_fault}
use Rattle.rel_format.proofs.header.schema_of.Goals as goal

pub unreachable-requires : goal.unreachable-requires
unreachable-requires c = no_schema_fault c.args.attrs.items c.in-Err.field-0 (record { some = c.requires.some; few = c.requires.few; distinct = c.requires.distinct }) c.in-Err.ensures.refused
