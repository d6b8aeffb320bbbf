use Rattle.std.proofs.Common.{◌≡◌, ℕ, sym, subst}
use Rattle.rel_format.specs.Versions.{format_of}
use Rattle.commit_journal.specs.Halves.{IsDamageOfHalf}
use Rattle.commit_journal.proofs.Wholes.{journal_damaged}
use Rattle.hera_store.proofs.Smashes.{journal_proper, journal_held}
use Rattle.hera_store.proofs.opening.journal_of.Goals as goal

pub returns-in_ok-commits-in-Ok-clause-held : goal.returns-in_ok-commits-in-Ok-clause-held
returns-in_ok-commits-in-Ok-clause-held c = λ pages.
    let base = c.args.base.now in
    let journal = rw (c.bytes.ensures, c.journal_at.ensures.place, c.catalogue.ensures.catalogue) at c.in-Ok.ensures in
    journal_held (format_of base.version) base.catalogue base.bytes base.journal c.in-Ok.journal.end c.in-Ok.journal.deltas.items c.in_ok-commits-in-Ok.commits.items journal
    (rw c.deref.ensures.value at (c.in_ok-commits-in-Ok.ensures.good base.catalogue)) base.state pages

pub returns-in_ok-commits-in-Ok-clause-proper : goal.returns-in_ok-commits-in-Ok-clause-proper
returns-in_ok-commits-in-Ok-clause-proper c =
    let base = c.args.base.now in
    let journal = rw (c.bytes.ensures, c.journal_at.ensures.place, c.catalogue.ensures.catalogue) at c.in-Ok.ensures in
    journal_proper (format_of base.version) base.catalogue base.bytes base.journal c.in-Ok.journal.end c.in-Ok.journal.deltas.items c.in_ok-commits-in-Ok.commits.items journal
    (rw c.deref.ensures.value at (c.in_ok-commits-in-Ok.ensures.good base.catalogue))

pub returns-in-Err-Damaged-clause-damaged : goal.returns-in-Err-Damaged-clause-damaged
returns-in-Err-Damaged-clause-damaged c = λ file at e.
    let base = c.args.base.now in
    let known = c.in-Err-Damaged.at-is in
    let half : c.args.half ≡ file = cc in
    let place : c.in-Err-Damaged.at ≡ at = cc in
    let stops = rw (c.in-Err-Damaged.field-0-is, c.bytes.ensures, c.journal_at.ensures.place, c.catalogue.ensures.catalogue) at c.in-Err-Damaged.ensures in
    (sym half, λ pages. subst (λ (n : ℕ). IsDamageOfHalf (format_of base.version) base.bytes n) place (journal_damaged (format_of base.version) base.catalogue base.bytes base.journal c.in-Err-Damaged.at pages.ends stops))
