use Rattle.hera_row.proofs.FieldLemmas.{is_text-from_IsText}
use Rattle.hera_row.proofs.encoding.push_field.Goals as goal

pub returns-in_ok-push-in-Text-clause-valid : goal.returns-in_ok-push-in-Text-clause-valid
returns-in_ok-push-in-Text-clause-valid c = rw c.in-Text.is (is_text-from_IsText c.in-Text.text c.bytes.ensures.valid)
