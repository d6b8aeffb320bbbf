use Rattle.std.proofs.Common.{◌∙◌, ap}
use Rattle.std.specs.Prelude.{is_some}
use Rattle.hera_types_parts.proofs.Equal.{some_has}
use Rattle.hera_types_algebra.proofs.set_operators.has_attr.Goals as goal

pub returns : goal.returns
returns c = c.is_some.ensures ∙ ap is_some c.place_of_name.ensures.place ∙ some_has _ _
