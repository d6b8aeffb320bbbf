use Rattle.std.proofs.Common.{refl, arith}
use Rattle.hera_volume.proofs.MemMoments.{emitted-amid, emitted-leaves, emitted-on}
use Rattle.hera_volume.proofs.mem_outside.MemOutsideOutput.emit.Goals as goal

pub returns-in-Ok-clause-moments : goal.returns-in-Ok-clause-moments
returns-in-Ok-clause-moments c =
    let now = record c.args.self.now { bytes = c.keep.new.bytes; past = c.keep.new.past; pieces = c.take_next-piece.new.self } in
    record {
      bytes = c.in-Ok.ensures.ok;
      files = λ told f. refl;
      any_moment = λ told. emitted-leaves c.args.self.now now c.args.bytes.now c.in-Some.n (refl, c.in-Ok.ensures.past, c.in-Ok.ensures.ok);
      since = λ told. emitted-on c.args.self.now now c.args.bytes.now c.in-Some.n (refl, c.in-Ok.ensures.past, c.in-Ok.ensures.ok);
      syncs = λ told f. refl;
      device = omega arith;
      output = omega arith;
    }

pub returns-in-Ok-clause-amid : goal.returns-in-Ok-clause-amid
returns-in-Ok-clause-amid c =
    let now = record c.args.self.now { bytes = c.keep.new.bytes; past = c.keep.new.past; pieces = c.take_next-piece.new.self } in
    emitted-amid c.args.self.now now c.args.bytes.now c.in-Some.n (refl, c.in-Ok.ensures.past, c.in-Ok.ensures.ok)
