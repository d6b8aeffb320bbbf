use Rattle.std.proofs.Common.{sym, ap, ◌∙◌, ◌-◌, length, take}
use Rattle.hera_row.proofs.Zeros.{before_zero-found, through_zero-missing}
use Rattle.hera_row.proofs.reading.text.Goals as goal

pub returns-in-Some : goal.returns-in-Some
returns-in-Some c = sym (before_zero-found c.args.bytes.now c.in-Some.n (sym c.in-Some.ensures))

pub returns-in-None : goal.returns-in-None
returns-in-None c =
    ap (λ n. take n c.args.bytes.now) c.saturating_sub.ensures
    ∙ sym (ap (λ bytes. take (length bytes - 1) bytes) (through_zero-missing c.args.bytes.now (sym c.in-None.ensures)))
