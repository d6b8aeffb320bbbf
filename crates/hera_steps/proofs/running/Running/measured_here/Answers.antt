use Rattle.hera_frames.specs.Items.{item_of}
use Rattle.hera_reads.specs.Seeing.{rows_seen}
use Rattle.hera_steps.proofs.Sights.{the_view}
use Rattle.hera_steps.proofs.Relating.{measured_one, measured_other}
use Rattle.hera_steps.proofs.running.Running.measured_here.Goals as goal

pub returns-in_default-seen-clause-found : goal.returns-in_default-seen-clause-found
returns-in_default-seen-clause-found c =
    measured_other c.args.stored.now.state c.args.op.now (the_view c.self.inside) c.args.self.now c.self.view_is
    (item_of c.in-Some.newest.now) c.requires c.in-Some.ensures c.in_default-seen.ensures

pub returns-clause-found : goal.returns-clause-found
returns-clause-found c =
    measured_one c.args.stored.now.state c.args.op.now (the_view c.self.inside) c.args.self.now c.self.view_is c.in_ok-measured.field-0
    (item_of c.in-Some.newest.now) (rows_seen c.in-Some-seen.rows) c.in-Some.ensures c.in-Some-seen.ensures c.in_ok-measured.ensures.found
