use Rattle.std.proofs.Common.{sym, ap, ◌∙◌, not, is_some}
use Rattle.std.proofs.Math.Bool.{not-not}
use Rattle.hera_fits.proofs.PlaceTests.{lacks_tested}
use Rattle.hera_fits.proofs.places.lacks.Goals as goal

pub returns : goal.returns
returns c = sym (ap not c.is_none.ensures ∙ not-not c.is_none.result) ∙ lacks_tested (not (is_some c.position.result)) c.args.name.now c.args.schema.now (ap (λ o. not (is_some o)) c.position.ensures.place)
