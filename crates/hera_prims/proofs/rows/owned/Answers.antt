use Rattle.std.proofs.Common.{◌∙◌, sym, ap}
use Rattle.hera_meaning.specs.Scalars.{is_scalar}
use Rattle.hera_row.specs.Fields.{told}
use Rattle.hera_prims.proofs.Fitted.{text_stands}
use Rattle.hera_prims.proofs.rows.owned.Goals as goal

pub text_of-requires : goal.text_of-requires
text_of-requires c = text_stands c.in-Text.bytes.now (ap (λ s. is_scalar (told s)) (sym c.in-Text.is) ∙ c.requires)
