use Rattle.hera_row.proofs.FieldLemmas.{is_text-from_IsText}
use Rattle.hera_code_writer.proofs.writing.put_text.Goals as goal

pub returns-clause-fits : goal.returns-clause-fits
returns-clause-fits c = is_text-from_IsText c.args.text.now c.bytes.ensures.valid
