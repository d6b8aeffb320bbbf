use Rattle.hera_row.proofs.FieldLemmas.{is_text-from_IsText}
use Rattle.hera_effects.proofs.plain.scalar_form.Goals as goal

pub returns-in-Text-clause-good : goal.returns-in-Text-clause-good
returns-in-Text-clause-good c = rw c.in-Text.is (is_text-from_IsText c.in-Text.text c.bytes-bytes.ensures.valid)
