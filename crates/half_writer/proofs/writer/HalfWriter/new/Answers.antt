use Rattle.std.proofs.Common.{◌≡◌, ℕ, List, sym, ap, ◌∙◌}
use Rattle.rel_format.specs.Pages.{format_two, header_of}
use Rattle.half_writer.specs.Written.{Written}
use Rattle.half_writer.proofs.writer.HalfWriter.new.Goals as goal

pub returns : goal.returns
returns c =
    let limit = c.args.limit in
    let header : c.in_ok-header.header.items ≡ header_of format_two c.args.catalogue.now = c.in_ok-header.ensures format_two (sym c.magic.ensures) in
    let with_header : List ℕ → Written = λ h. record { header = h; added = 0; count = 0; pages = c.new.result.items; limit = limit } in
    let with_pages : List ℕ → Written = λ p. record { header = header_of format_two c.args.catalogue.now; added = 0; count = 0; pages = p; limit = limit } in
    ap with_header header ∙ ap with_pages c.new.ensures.items
