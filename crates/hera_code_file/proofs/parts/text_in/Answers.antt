use Rattle.std.proofs.Common.{refl}
use Rattle.hera_row.proofs.FieldLemmas.{is_text-from_IsText}
use Rattle.hera_code_file.proofs.Told.{no_text}
use Rattle.hera_code_file.proofs.parts.text_in.Goals as goal

pub returns-in-Ok-clause-some : goal.returns-in-Ok-clause-some
returns-in-Ok-clause-some c = rw (c.in-Ok.ensures.bytes, is_text-from_IsText c.args.bytes.now c.in-Ok.ensures.valid) refl

pub returns-in_default-clause-some : goal.returns-in_default-clause-some
returns-in_default-clause-some c = rw (no_text c.args.bytes.now c.in-Err.fault c.in_default.not-Memory c.in-Err.ensures.refused) refl
