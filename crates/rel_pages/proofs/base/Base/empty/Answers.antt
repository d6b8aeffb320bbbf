use Rattle.std.proofs.Common.{sym, ap, length}
use Rattle.rel_format.specs.Pages.{format_two}
use Rattle.rel_pages.proofs.Bases.{empty_is}
use Rattle.rel_pages.proofs.Beginnings.{no_lists}
use Rattle.rel_pages.proofs.base.Base.empty.Goals as goal

pub invariant_of-result : goal.invariant_of-result
invariant_of-result c = (
  (empty_is c.args.catalogue c.in_ok-parts.parts.items c.in_ok-bytes.bytes.items _ c.push.new.self.items (length c.as_slice-journal.result.now) c.len.result c.len.ensures.valid (c.in_ok-bytes.ensures format_two (sym c.magic.ensures)) c.in_ok-extend_from_slice.ensures.items (ap length c.as_slice-journal.ensures.value) c.in_ok-push.ensures.items c.in_ok-parts.ensures c.len.ensures.count).base,
  no_lists format_two.page c.args.catalogue c.in_ok-parts.parts.items c.push.new.self.items c.new.result.items c.new.ensures.items,
)

pub returns-clause-state : goal.returns-clause-state
returns-clause-state c =
    (empty_is c.args.catalogue c.in_ok-parts.parts.items c.in_ok-bytes.bytes.items _ c.push.new.self.items (length c.as_slice-journal.result.now) c.len.result c.len.ensures.valid (c.in_ok-bytes.ensures format_two (sym c.magic.ensures)) c.in_ok-extend_from_slice.ensures.items (ap length c.as_slice-journal.ensures.value) c.in_ok-push.ensures.items c.in_ok-parts.ensures c.len.ensures.count).state

pub returns-clause-bytes : goal.returns-clause-bytes
returns-clause-bytes c =
    (empty_is c.args.catalogue c.in_ok-parts.parts.items c.in_ok-bytes.bytes.items _ c.push.new.self.items (length c.as_slice-journal.result.now) c.len.result c.len.ensures.valid (c.in_ok-bytes.ensures format_two (sym c.magic.ensures)) c.in_ok-extend_from_slice.ensures.items (ap length c.as_slice-journal.ensures.value) c.in_ok-push.ensures.items c.in_ok-parts.ensures c.len.ensures.count).printed

pub returns-clause-journal : goal.returns-clause-journal
returns-clause-journal c =
    (empty_is c.args.catalogue c.in_ok-parts.parts.items c.in_ok-bytes.bytes.items _ c.push.new.self.items (length c.as_slice-journal.result.now) c.len.result c.len.ensures.valid (c.in_ok-bytes.ensures format_two (sym c.magic.ensures)) c.in_ok-extend_from_slice.ensures.items (ap length c.as_slice-journal.ensures.value) c.in_ok-push.ensures.items c.in_ok-parts.ensures c.len.ensures.count).place
