use Rattle.hera_types_parts.proofs.Equal.{decides}
use Rattle.hera_types_parts.proofs.same.same_schema.Goals as goal

pub returns : goal.returns
returns c = decides _ _ _ c.same.ensures
