use Rattle.std.proofs.Common.{[]}
use Rattle.hera_frames.specs.Items.{item_of}
use Rattle.hera_reads.specs.Seeing.{rows_seen}
use Rattle.hera_steps.proofs.Sights.{the_view}
use Rattle.hera_steps.proofs.Relating.{related_one, related_two}
use Rattle.hera_steps.proofs.running.Running.related.Goals as goal

pub returns-then-arity-eq1 : goal.returns-then-arity-eq1
returns-then-arity-eq1 c =
    related_one c.args.stored.now.state c.args.op.now (the_view c.self.inside) c.args.self.now c.in_ok-found_of.field-0 c.self.view_is c.arity.result c.arity.ensures
    (item_of c.in-Some.newest.now) (rows_seen c.in-Some-seen.right) [] c.if-arity-eq1.true c.in-Some.ensures c.in-Some-seen.ensures c.in_ok-found_of.ensures.found

pub returns : goal.returns
returns c =
    related_two c.args.stored.now.state c.args.op.now (the_view c.self.inside) c.args.self.now c.in_ok-found_of-2.field-0 c.self.view_is c.arity-2.result c.arity-2.ensures
    (item_of c.in-Some.newest.now) (item_of c.in-Some-newest.before.now) (rows_seen c.in-Some-seen.right) (rows_seen c.in-Some-seen-2.left) c.if-arity-ne2.false
    c.in-Some.ensures c.in-Some-newest.ensures c.in-Some-seen.ensures c.in-Some-seen-2.ensures c.in_ok-found_of-2.ensures.found
