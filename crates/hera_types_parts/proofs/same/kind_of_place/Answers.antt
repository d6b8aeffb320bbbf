use Rattle.hera_types_parts.proofs.Equal.{kind_at_is}
use Rattle.hera_types_parts.proofs.same.kind_of_place.Goals as goal

pub returns : goal.returns
returns c = kind_at_is c.args.schema.now c.args.place _ c.attr.ensures.attr
