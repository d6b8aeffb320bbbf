use Rattle.hera_host.proofs.Texts.{is_text-from_IsText}
use Rattle.hera_host.proofs.host.is_known.Goals as goal

pub returns-in-Text : goal.returns-in-Text
returns-in-Text c = rw c.in-Text.is (is_text-from_IsText c.in-Text.text c.bytes-bytes.ensures.valid)
