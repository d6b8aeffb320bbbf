use Rattle.rel_format.proofs.Texts.{no_text_fault}
use Rattle.hera_code_file.proofs.schemas.text_of.Goals as goal

pub unreachable-requires : goal.unreachable-requires
unreachable-requires c = c.in_default.not-Memory (no_text_fault c.args.name.now c.in-Err.fault c.requires c.in-Err.ensures.refused)
