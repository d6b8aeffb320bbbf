use Rattle.std.proofs.Common.{◌≤◌, ◌∙◌, ap, Err, sym, inl, inr, subst, List, ℕ, length}
use Rattle.hera_causes.specs.declared.fails.ReadFail.{ReadFail}
use Rattle.hera_causes.specs.Causes.{EndsBy}
use Rattle.hera_top.specs.Sources.{Seen, seen, IsRead}
use Rattle.hera_top.specs.Stopping.{is_unread, is_too_long, has_no_memory}
use Rattle.hera_top.proofs.sources.read_source.Goals as goal

pub returns-in-Ok-clause-whole : goal.returns-in-Ok-clause-whole
returns-in-Ok-clause-whole g c =
    let before : Seen = seen g.S.Source.left g.S.Source.faults c.args.source.now in
    let now : Seen = seen g.S.Source.left g.S.Source.faults c.read_all.new.src in
    let (bytes, came) = c.in-Ok.ensures.came in
    let read : IsRead c.args.limit before now bytes = record { consumed = came.consumed; ended = inl came.ended.2; still = c.in-Ok.ensures.still (λ h. cc (h)) } in
    record { read = subst (λ (l : List ℕ). IsRead c.args.limit before now l) (sym came.ended.0) read; short = subst (λ (l : List ℕ). length l ≤ c.args.limit) (sym came.ended.0) came.ended.1 }

pub returns-in-Err-Fault-clause-missing : goal.returns-in-Err-Fault-clause-missing
returns-in-Err-Fault-clause-missing g c =
    let (bytes, came) = c.in-Err-Fault.ensures.came in
    is_unread
    (record { bytes = bytes; consumed = came.consumed; short = subst (λ (f : ReadFail). EndsBy f c.args.limit bytes) c.in-Err-Fault.field-0-is came.ended; rose = c.in-Err-Fault.ensures.fault (ap Err c.in-Err-Fault.field-0-is) })

pub returns-in-Err-TooLong-clause-missing : goal.returns-in-Err-TooLong-clause-missing
returns-in-Err-TooLong-clause-missing g c =
    let (bytes, came) = c.in-Err-TooLong.ensures.came in
    let long = subst (λ (f : ReadFail). EndsBy f c.args.limit bytes) c.in-Err-TooLong.field-0-is came.ended in
    is_too_long bytes (record { consumed = came.consumed; ended = inr long; still = c.in-Err-TooLong.ensures.still (λ h. cc (sym (ap Err c.in-Err-TooLong.field-0-is) ∙ h)) }) long

pub returns-in-Err-Memory-clause-missing : goal.returns-in-Err-Memory-clause-missing
returns-in-Err-Memory-clause-missing g c = has_no_memory (c.in-Err-Memory.ensures.still (λ h. cc (sym (ap Err c.in-Err-Memory.field-0-is) ∙ h)))
