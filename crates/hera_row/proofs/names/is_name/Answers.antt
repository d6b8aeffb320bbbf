use Rattle.std.proofs.Common.{sym, ap, ◌∙◌}
use Rattle.std.specs.Str.{chars}
use Rattle.hera_meaning.specs.Identifiers.{is_word}
use Rattle.hera_row.proofs.Words.{identifier_from, identifier_word}
use Rattle.hera_row.proofs.names.is_name.Goals as goal

pub returns-in-Ok : goal.returns-in-Ok
returns-in-Ok c = (
  λ h. identifier_from c.args.bytes.now c.in-Ok.ensures.cases.1 c.if-bytes-gt-NAME_LIMIT.false (ap (λ bytes. is_word (chars bytes)) (sym c.in-Ok.ensures.cases.0) ∙ sym c.is_word.ensures ∙ h),
  λ h. c.is_word.ensures ∙ ap (λ bytes. is_word (chars bytes)) c.in-Ok.ensures.cases.0 ∙ identifier_word c.args.bytes.now h,
)
