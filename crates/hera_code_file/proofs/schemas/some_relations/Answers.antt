use Rattle.std.proofs.Common.{[]}
use Rattle.std.proofs.lemmas.Result.{err_from_is_err_and}
use Rattle.hera_code_file.specs.Reading.{many, relation_at}
use Rattle.hera_code_file.proofs.Loops.{goes_on, stops_at, is_done}
use Rattle.hera_code_file.proofs.schemas.some_relations.Goals as goal

pub returns-in_err-decl : goal.returns-in_err-decl
returns-in_err-decl c =
    let p = err_from_is_err_and c.from_residual.result c.from_residual.ensures.1 in
    rw (p.1, p.2) (stops_at c.in_err-decl.field-0.0 relation_at c.args.count c.loop.counter c.loop.relations.items c.loop.rest.now (many relation_at c.args.count [] c.args.bytes.now) c.loop-test.true (rw c.deref.ensures.value at c.in_err-decl.ensures) c.loop.invariant)

pub loop-preserved : goal.loop-preserved
loop-preserved c = rw c.in_ok-push.ensures.items (goes_on relation_at c.args.count c.loop.counter c.loop.relations.items c.loop.rest.now c.in_ok-decl.decl c.in_ok-decl.behind.now (many relation_at c.args.count [] c.args.bytes.now) c.loop-test.true (rw c.deref.ensures.value at c.in_ok-decl.ensures) c.loop.invariant)

pub returns : goal.returns
returns c = is_done relation_at c.args.count c.loop.counter c.loop.relations.items c.loop.rest.now (many relation_at c.args.count [] c.args.bytes.now) c.loop-test.false c.loop.invariant
