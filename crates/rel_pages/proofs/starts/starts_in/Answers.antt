use Rattle.rel_pages.specs.Parts.{part_bytes}
use Rattle.rel_pages.specs.Starts.{IsStart}
use Rattle.rel_pages.proofs.Gathered.{keep_found}
use Rattle.rel_pages.proofs.starts.starts_in.Goals as goal

pub loop-index-preserved : goal.loop-index-preserved
loop-index-preserved c =
    keep_found (IsStart c.args.schema.now c.args.page (part_bytes c.args.bytes.now c.args.part)) c.loop-index.starts.items c.keep_start.new.starts.items c.start_in-found.result c.in_ok-keep_start.ensures c.start_in-found.ensures c.loop-index.invariant
