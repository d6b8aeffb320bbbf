use Rattle.std.proofs.Common.{◌∙◌}
use Rattle.hera_fits.proofs.PlaceTests.{int_within}
use Rattle.hera_fits.proofs.places.is_int_at.Goals as goal

pub returns-then-i-len : goal.returns-then-i-len
returns-then-i-len c = c.is_int.ensures ∙ int_within c.args.schema.now c.args.i c.attr.result.now c.attr.ensures.attr
