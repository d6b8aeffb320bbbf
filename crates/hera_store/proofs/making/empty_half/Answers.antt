use Rattle.rel_format.specs.Pages.{format_two}
use Rattle.std.proofs.Common.{sym}
use Rattle.hera_store.proofs.EmptyHalves.{empty_half_is, empty_half_valid}
use Rattle.hera_store.proofs.making.empty_half.Goals as goal

pub returns-clause-half : goal.returns-clause-half
returns-clause-half c =
    empty_half_is c.args.catalogue.now c.in_ok-bytes.bytes.items c.extend_from_slice.new.self.items c.len-count.ensures.valid (c.in_ok-bytes.ensures format_two (sym c.magic.ensures)) c.in_ok-extend_from_slice.ensures.items

pub returns-clause-valid : goal.returns-clause-valid
returns-clause-valid c =
    empty_half_valid c.args.catalogue.now c.in_ok-bytes.bytes.items c.extend_from_slice.new.self.items c.len-count.ensures.valid (c.in_ok-bytes.ensures format_two (sym c.magic.ensures)) c.in_ok-extend_from_slice.ensures.items
