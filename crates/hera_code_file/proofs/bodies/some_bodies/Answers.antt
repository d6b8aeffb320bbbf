use Rattle.std.proofs.Common.{[]}
use Rattle.std.proofs.lemmas.Result.{err_from_is_err_and}
use Rattle.hera_code_file.specs.Reading.{many, body_at}
use Rattle.hera_code_file.specs.Files.{file_body, file_bodies}
use Rattle.hera_code_file.proofs.Loops.{goes_on, stops_at, is_done}
use Rattle.hera_code_file.proofs.Noted.{noted_push, bodies_push}
use Rattle.hera_code_file.proofs.bodies.some_bodies.Goals as goal

pub returns-in_err-info-clause-reads : goal.returns-in_err-info-clause-reads
returns-in_err-info-clause-reads c =
    let p = err_from_is_err_and c.from_residual.result c.from_residual.ensures.1 in
    rw (p.1, p.2) (stops_at c.in_err-info.field-0.0 (λ before. body_at) c.args.count c.loop.counter (file_bodies c.loop.infos.items c.loop.notes.items) c.loop.rest.now (many (λ before. body_at) c.args.count [] c.args.bytes.now) c.loop-test.true c.in_err-info.ensures.reads c.loop.invariant.so_far)

pub loop-preserved : goal.loop-preserved
loop-preserved c =
    let info = c.in_ok-info.info in
    let note = c.in_ok-info.note in
    rw (c.in_ok-push.ensures.items, c.in_ok-push-2.ensures.items) (record {
      so_far = rw (bodies_push c.loop.infos.items c.loop.notes.items info note c.loop.invariant.noted) (goes_on (λ before. body_at) c.args.count c.loop.counter (file_bodies c.loop.infos.items c.loop.notes.items) c.loop.rest.now (file_body info note) c.in_ok-info.behind.now (many (λ before. body_at) c.args.count [] c.args.bytes.now) c.loop-test.true c.in_ok-info.ensures.reads c.loop.invariant.so_far);
      noted = noted_push c.loop.infos.items c.loop.notes.items info note c.loop.invariant.noted c.in_ok-info.ensures.count;
    })

pub returns-clause-reads : goal.returns-clause-reads
returns-clause-reads c = is_done (λ before. body_at) c.args.count c.loop.counter (file_bodies c.loop.infos.items c.loop.notes.items) c.loop.rest.now (many (λ before. body_at) c.args.count [] c.args.bytes.now) c.loop-test.false c.loop.invariant.so_far
