use Rattle.hera_types_parts.proofs.Equal.{place_within}
use Rattle.hera_types_parts.proofs.same.place_of_name.Goals as goal

pub returns-clause-within : goal.returns-clause-within
returns-clause-within c = place_within _ _ _ c.position.ensures.place
