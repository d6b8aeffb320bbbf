use Rattle.std.proofs.Common.{[], ◌∷◌, subst}
use Rattle.hera_volume.specs.Disk.{Disk, IsImage, after_write}
use Rattle.hera_volume.proofs.Moments.{leaves-on, leaves-weaker, image_in-in}
use Rattle.commit_journal.proofs.Gates.{behind, opening}
use Rattle.commit_journal.proofs.sealing.seal.Goals as goal

pub returns-in_err-write_and_sync-clause-any_moment : goal.returns-in_err-write_and_sync-clause-any_moment
returns-in_err-write_and_sync-clause-any_moment g c = λ told.
    let d = g.W.Outside.disk c.args.outside.now c.args.file in
    let staging = rw (c.bytes.ensures, c.end-end.ensures.at) at (c.write_and_sync.ensures.any_moment told) in
    leaves-weaker _ _ staging (λ i image. record {
      file = behind d c.args.prepared.end c.args.prepared.body (c.requires told) (i.files c.args.file) image.file;
      others = image.others;
      emitted = image.emitted;
    })

pub returns-clause-any_moment : goal.returns-clause-any_moment
returns-clause-any_moment g c = λ told.
    let end = c.args.prepared.end in
    let body = c.args.prepared.body in
    let d = g.W.Outside.disk c.args.outside.now c.args.file in
    let ready = c.requires told in
    let staging = rw (c.bytes.ensures, c.end-end.ensures.at) at (c.write_and_sync.ensures.any_moment told) in
    let staged = rw (c.bytes.ensures, c.end-end.ensures.at) at (c.in_ok-write_and_sync.ensures.done told) in
    let gate_opens = rw c.end-end.ensures.at at (c.write_and_sync-2.ensures.any_moment told) in
    let first = leaves-weaker _ _ staging (λ i image. record {
      file = behind d end body ready (i.files c.args.file) image.file;
      others = image.others;
      emitted = image.emitted;
    }) in
    leaves-on _ _ first gate_opens (λ i image.
    let same = image_in-in (g.W.Outside.disk c.args.outside.now) (g.W.Outside.disk c.write_and_sync.new.outside) _ _ c.args.file (c.write_and_sync.ensures.others told) c.write_and_sync.ensures.emitted _ i image in
    record {
      file = opening d end body ready (i.files c.args.file) (subst (λ (x : Disk). IsImage (after_write x end (1 ∷ [])) (i.files c.args.file)) staged same.file);
      others = same.others;
      emitted = same.emitted;
    })
