use Rattle.hera_store.proofs.Untouched.{untouched-on, settled-three}
use Rattle.hera_store.proofs.Synced.{synced-three}
use Rattle.hera_store.proofs.files.sync_files.Goals as goal

pub returns-in_err-sync_file-2-clause-untouched : goal.returns-in_err-sync_file-2-clause-untouched
returns-in_err-sync_file-2-clause-untouched g c = λ told.
    untouched-on g.W.Outside.disk g.W.Output.emitted g.W.Outside.moment g.W.Outside.left_since c.args.outside.now c.sync_file.new.outside c.sync_file-2.new.outside
    (c.sync_file.ensures.untouched told) (c.sync_file-2.ensures.untouched told)

pub returns-clause-settled : goal.returns-clause-settled
returns-clause-settled g c = λ told.
    settled-three (g.W.Outside.disk c.sync_file.new.outside) (g.W.Outside.disk c.sync_file-2.new.outside) (g.W.Outside.disk c.sync_file-3.new.outside) c.sync_file-3.result
    (c.in_ok-sync_file.ensures.settled told) (c.in_ok-sync_file-2.ensures.settled told) (c.sync_file-3.ensures.settled told) (c.sync_file-2.ensures.others told) (c.sync_file-3.ensures.others told)

pub returns-clause-moments : goal.returns-clause-moments
returns-clause-moments g c = λ told.
    synced-three g.W.Outside.disk g.W.Output.emitted g.W.Outside.moment g.W.Outside.left_since g.W.Outside.synced_at c.sync_file-3.result c.args.outside.now c.sync_file.new.outside c.sync_file-2.new.outside c.sync_file-3.new.outside (λ i. g.met.W.Outside.only_now c.sync_file-3.new.outside i told)
    (c.sync_file.ensures.untouched told).any_moment.later (c.sync_file-2.ensures.untouched told).any_moment.later (c.sync_file-3.ensures.untouched told).any_moment.later
    (c.in_ok-sync_file.ensures.synced_now told) (c.in_ok-sync_file-2.ensures.synced_now told) (c.sync_file-2.ensures.other_syncs told)
    (c.sync_file-3.ensures.synced_now told) (c.sync_file-3.ensures.other_syncs told)
