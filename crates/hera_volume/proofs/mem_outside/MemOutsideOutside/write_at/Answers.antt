use Rattle.hera_volume.specs.Disk.{after_write}
use Rattle.hera_volume.specs.MemOutside.{mem_disk}
use Rattle.hera_volume.proofs.MemMoments.{at-error, step-in, step-reads, step-within, mem_sound}
use Rattle.hera_volume.proofs.Images.{image-reads, write-keeps, sound-write}
use Rattle.hera_volume.proofs.mem_outside.MemOutsideOutside.write_at.Goals as goal

pub returns-in-Goes-clause-any_moment : goal.returns-in-Goes-clause-any_moment
returns-in-Goes-clause-any_moment c = λ told. step-in c.args.self.now _ c.args.file (after_write (mem_disk c.args.self.now c.args.file) c.args.at c.args.bytes.now) c.write_now.result (sound-write (mem_disk c.args.self.now c.args.file) c.args.at c.args.bytes.now (c.requires told) (mem_sound c.args.self.now c.args.file)) c.write_now.ensures.ok c.write_now.ensures.err

pub returns-in-Stops-clause-any_moment : goal.returns-in-Stops-clause-any_moment
returns-in-Stops-clause-any_moment c = λ told. step-in c.args.self.now (record c.write_now-in-Stops.new.self { device_faults = c.failed-in-Stops.new.count }) c.args.file (after_write (mem_disk c.args.self.now c.args.file) c.args.at c.args.bytes.now) c.write_now-in-Stops.result (sound-write (mem_disk c.args.self.now c.args.file) c.args.at c.args.bytes.now (c.requires told) (mem_sound c.args.self.now c.args.file)) c.write_now-in-Stops.ensures.ok c.write_now-in-Stops.ensures.err

pub returns-in-Fails-clause-failed : goal.returns-in-Fails-clause-failed
returns-in-Fails-clause-failed c = λ told. write-keeps (mem_disk c.args.self.now c.args.file) c.args.at c.args.bytes.now (c.requires told)

pub returns-in-Stops-clause-failed : goal.returns-in-Stops-clause-failed
returns-in-Stops-clause-failed c = λ told.
    step-within c.args.self.now (record c.write_now-in-Stops.new.self { device_faults = c.failed-in-Stops.new.count }) c.args.file (after_write (mem_disk c.args.self.now c.args.file) c.args.at c.args.bytes.now) c.write_now-in-Stops.result
    (sound-write (mem_disk c.args.self.now c.args.file) c.args.at c.args.bytes.now (c.requires told) (mem_sound c.args.self.now c.args.file))
    c.write_now-in-Stops.ensures.ok c.write_now-in-Stops.ensures.err (write-keeps (mem_disk c.args.self.now c.args.file) c.args.at c.args.bytes.now (c.requires told))

pub returns-in-Stops-clause-reads : goal.returns-in-Stops-clause-reads
returns-in-Stops-clause-reads c = λ told.
    let d = mem_disk c.args.self.now c.args.file in
    step-reads c.args.self.now (record c.write_now-in-Stops.new.self { device_faults = c.failed-in-Stops.new.count }) c.args.file (after_write d c.args.at c.args.bytes.now) c.write_now-in-Stops.result
    (sound-write (mem_disk c.args.self.now c.args.file) c.args.at c.args.bytes.now (c.requires told) (mem_sound c.args.self.now c.args.file))
    c.write_now-in-Stops.ensures.ok c.write_now-in-Stops.ensures.err
    (write-keeps d c.args.at c.args.bytes.now (c.requires told))

pub returns-in-Goes-clause-failed : goal.returns-in-Goes-clause-failed
returns-in-Goes-clause-failed c = λ told.
    let d = mem_disk c.args.self.now c.args.file in
    at-error c.write_now.result (step-within c.args.self.now c.write_now.new.self c.args.file (after_write d c.args.at c.args.bytes.now) c.write_now.result
    (sound-write (mem_disk c.args.self.now c.args.file) c.args.at c.args.bytes.now (c.requires told) (mem_sound c.args.self.now c.args.file))
    c.write_now.ensures.ok c.write_now.ensures.err (write-keeps d c.args.at c.args.bytes.now (c.requires told)))

pub returns-in-Goes-clause-reads : goal.returns-in-Goes-clause-reads
returns-in-Goes-clause-reads c = λ told.
    let d = mem_disk c.args.self.now c.args.file in
    at-error c.write_now.result (step-reads c.args.self.now c.write_now.new.self c.args.file (after_write d c.args.at c.args.bytes.now) c.write_now.result
    (sound-write (mem_disk c.args.self.now c.args.file) c.args.at c.args.bytes.now (c.requires told) (mem_sound c.args.self.now c.args.file))
    c.write_now.ensures.ok c.write_now.ensures.err
    (write-keeps d c.args.at c.args.bytes.now (c.requires told)))

pub returns-in-Fails-clause-reads : goal.returns-in-Fails-clause-reads
returns-in-Fails-clause-reads c = λ told.
    let d = mem_disk c.args.self.now c.args.file in
    write-keeps d c.args.at c.args.bytes.now (c.requires told) d.bytes (image-reads d (mem_sound c.args.self.now c.args.file))
