use Rattle.hera_host.proofs.Texts.{is_text-from_IsText}
use Rattle.hera_host.proofs.host.is_valid.Goals as goal

pub returns-in-Prefix : goal.returns-in-Prefix
returns-in-Prefix c = rw c.in-Prefix.is (is_text-from_IsText c.in-Prefix.text c.bytes-bytes.ensures.valid)
