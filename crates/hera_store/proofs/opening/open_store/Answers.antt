use Rattle.std.proofs.Common.{inl, inr}
use Rattle.hera_volume.specs.declared.file_id.FileId.TheVariants.{Right}
use Rattle.hera_store.proofs.Synced.{synced-still}
use Rattle.hera_store.proofs.opening.open_store.Goals as goal

pub returns-in_err-sync_files-clause-failing : goal.returns-in_err-sync_files-clause-failing
returns-in_err-sync_files-clause-failing g c = λ told fails. inr (Right, c.in_err-sync_files.ensures.not_synced told)

pub returns-in_err-half-clause-moments : goal.returns-in_err-half-clause-moments
returns-in_err-half-clause-moments g c = λ told sound.
    synced-still g.W.Outside.disk g.W.Output.emitted g.W.Outside.moment g.W.Outside.left_since g.W.Outside.synced_at c.args.outside.now c.sync_files.new.outside c.find_half.new.outside (c.find_half.ensures.files told) c.find_half.ensures.emitted (c.find_half.ensures.syncs told) (c.find_half.ensures.any_moment told)
    (c.in_ok-sync_files.ensures.moments told)

pub returns-in_err-half-clause-failing : goal.returns-in_err-half-clause-failing
returns-in_err-half-clause-failing g c = λ told fails. inl (
    synced-still g.W.Outside.disk g.W.Output.emitted g.W.Outside.moment g.W.Outside.left_since g.W.Outside.synced_at c.args.outside.now c.sync_files.new.outside c.find_half.new.outside (c.find_half.ensures.files told) c.find_half.ensures.emitted (c.find_half.ensures.syncs told) (c.find_half.ensures.any_moment told)
    (c.in_ok-sync_files.ensures.moments told))

pub returns-in_err-bytes-clause-moments : goal.returns-in_err-bytes-clause-moments
returns-in_err-bytes-clause-moments g c = λ told sound.
    synced-still g.W.Outside.disk g.W.Output.emitted g.W.Outside.moment g.W.Outside.left_since g.W.Outside.synced_at c.args.outside.now c.find_half.new.outside c.read_file.new.outside (c.read_file.ensures.files told) c.read_file.ensures.emitted (c.read_file.ensures.syncs told) (c.read_file.ensures.any_moment told)
    (synced-still g.W.Outside.disk g.W.Output.emitted g.W.Outside.moment g.W.Outside.left_since g.W.Outside.synced_at c.args.outside.now c.sync_files.new.outside c.find_half.new.outside (c.find_half.ensures.files told) c.find_half.ensures.emitted (c.find_half.ensures.syncs told) (c.find_half.ensures.any_moment told)
    (c.in_ok-sync_files.ensures.moments told))

pub returns-in_err-bytes-clause-failing : goal.returns-in_err-bytes-clause-failing
returns-in_err-bytes-clause-failing g c = λ told fails. inl (
    synced-still g.W.Outside.disk g.W.Output.emitted g.W.Outside.moment g.W.Outside.left_since g.W.Outside.synced_at c.args.outside.now c.find_half.new.outside c.read_file.new.outside (c.read_file.ensures.files told) c.read_file.ensures.emitted (c.read_file.ensures.syncs told) (c.read_file.ensures.any_moment told)
    (synced-still g.W.Outside.disk g.W.Output.emitted g.W.Outside.moment g.W.Outside.left_since g.W.Outside.synced_at c.args.outside.now c.sync_files.new.outside c.find_half.new.outside (c.find_half.ensures.files told) c.find_half.ensures.emitted (c.find_half.ensures.syncs told) (c.find_half.ensures.any_moment told)
    (c.in_ok-sync_files.ensures.moments told)))

pub returns-clause-moments : goal.returns-clause-moments
returns-clause-moments g c = λ told sound.
    synced-still g.W.Outside.disk g.W.Output.emitted g.W.Outside.moment g.W.Outside.left_since g.W.Outside.synced_at c.args.outside.now c.find_half.new.outside c.read_file.new.outside (c.read_file.ensures.files told) c.read_file.ensures.emitted (c.read_file.ensures.syncs told) (c.read_file.ensures.any_moment told)
    (synced-still g.W.Outside.disk g.W.Output.emitted g.W.Outside.moment g.W.Outside.left_since g.W.Outside.synced_at c.args.outside.now c.sync_files.new.outside c.find_half.new.outside (c.find_half.ensures.files told) c.find_half.ensures.emitted (c.find_half.ensures.syncs told) (c.find_half.ensures.any_moment told)
    (c.in_ok-sync_files.ensures.moments told))

pub returns-clause-failing : goal.returns-clause-failing
returns-clause-failing g c = λ told fails. inl (
    synced-still g.W.Outside.disk g.W.Output.emitted g.W.Outside.moment g.W.Outside.left_since g.W.Outside.synced_at c.args.outside.now c.find_half.new.outside c.read_file.new.outside (c.read_file.ensures.files told) c.read_file.ensures.emitted (c.read_file.ensures.syncs told) (c.read_file.ensures.any_moment told)
    (synced-still g.W.Outside.disk g.W.Output.emitted g.W.Outside.moment g.W.Outside.left_since g.W.Outside.synced_at c.args.outside.now c.sync_files.new.outside c.find_half.new.outside (c.find_half.ensures.files told) c.find_half.ensures.emitted (c.find_half.ensures.syncs told) (c.find_half.ensures.any_moment told)
    (c.in_ok-sync_files.ensures.moments told)))
