use Rattle.std.proofs.Common.{[], ◌∙◌}
use Rattle.hera_volume.specs.declared.file_id.FileId.TheVariants.{Select, Left}
use Rattle.hera_store.proofs.Fillings.{settled_still, bytes_still, left_written, right_written, made_selected}
use Rattle.hera_store.proofs.making.fill_files.Goals as goal

pub returns-clause-any_moment : goal.returns-clause-any_moment
returns-clause-any_moment g c = λ told db half.
    let disk = g.W.Outside.disk in
    let a = c.args.outside.now in
    let b = c.rewrite_and_sync.new.outside in
    let d = c.rewrite_and_sync-2.new.outside in
    let select = c.rewrite_and_sync.ensures.others told Select (λ e. cc) in
    let still = c.rewrite_and_sync-2.ensures.others told Select (λ e. cc) in
    let left = c.rewrite_and_sync-2.ensures.others told Left (λ e. cc) in
    let written = c.in_ok-rewrite_and_sync.ensures.done told in
    let written_too = c.in_ok-rewrite_and_sync-2.ensures.done told in
    let settled = settled_still (disk a) (disk b) Select select (c.requires.settled told) in
    let vacant = bytes_still (disk a) (disk b) Select [] select (c.requires.vacant told) in
    let first = left_written disk g.W.Output.emitted g.W.Outside.moment g.W.Outside.left_since db a b (c.requires.settled told) (c.requires.vacant told) (c.rewrite_and_sync.ensures.any_moment told) in
    let second = right_written disk g.W.Output.emitted g.W.Outside.moment g.W.Outside.left_since db a b d first c.rewrite_and_sync.ensures.emitted settled vacant (c.rewrite_and_sync-2.ensures.any_moment told) in
    made_selected disk g.W.Output.emitted g.W.Outside.moment g.W.Outside.left_since db a d c.select_half.new.outside 0 c.args.bytes.now half second (c.rewrite_and_sync-2.ensures.emitted ∙ c.rewrite_and_sync.ensures.emitted)
    (settled_still (disk b) (disk d) Select still settled) (bytes_still (disk b) (disk d) Select [] still vacant)
    (settled_still (disk b) (disk d) Left left written.0) written_too.0 (bytes_still (disk b) (disk d) Left c.args.bytes.now left written.1) written_too.1
    (c.select_half.ensures.any_moment told)
