use Rattle.std.proofs.Common.{sym, subst, ap, ◌∙◌, arith}
use Rattle.hera_host.specs.Tables.{specs_of}
use Rattle.hera_typed.specs.Notes.{notes_of}
use Rattle.hera_typed.specs.Pass.{begun_with}
use Rattle.hera_verify.specs.Tables.{IsWalked, if_behind}
use Rattle.hera_verify.proofs.Flowing.{finds_stopped, finds_end, passed_so, passed_not}
use Rattle.hera_verify.proofs.flow.look.Goals as goal

pub loop-a-init : goal.loop-a-init
loop-a-init g c =
    let f = begun_with c.args.around.now.code.now c.args.around.now.relations.now (specs_of c.args.around.now.hosts.now.names) (notes_of c.args.around.now.notes.now) in
    (f, subst (λ n. IsWalked c.args.around.now.code.now c.args.around.now.relations.now (specs_of c.args.around.now.hosts.now.names) (notes_of c.args.around.now.notes.now) n c.in_ok-walker.walker 0 f) (sym c.in_ok-stacks.ensures) c.in_ok-walker.ensures)

pub pass_one-requires-clause-walked : goal.pass_one-requires-clause-walked
pass_one-requires-clause-walked g c = c.loop-a.invariant

pub returns-then-not-on : goal.returns-then-not-on
returns-then-not-on g c = finds_stopped c.args.around.now.code.now c.args.around.now.relations.now (specs_of c.args.around.now.hosts.now.names) (notes_of c.args.around.now.notes.now) c.loop-a.a (c.pass_is_exact.ensures c.args.around.now.code.now c.args.around.now.relations.now (specs_of c.args.around.now.hosts.now.names) (notes_of c.args.around.now.notes.now)) (passed_not c.args.around.now.code.now c.args.around.now.relations.now (specs_of c.args.around.now.hosts.now.names) (notes_of c.args.around.now.notes.now) c.pass_one.new.stacks c.pass_one.new.walker c.loop-a.a c.in_ok-on.on c.if-not-on.true c.in_ok-on.ensures)

pub loop-a-preserved : goal.loop-a-preserved
loop-a-preserved g c = passed_so c.args.around.now.code.now c.args.around.now.relations.now (specs_of c.args.around.now.hosts.now.names) (notes_of c.args.around.now.notes.now) c.pass_one.new.stacks c.pass_one.new.walker c.loop-a.a c.in_ok-on.on c.if-not-on.false c.in_ok-on.ensures

pub returns : goal.returns
returns g c =
    let walked = c.loop-a.invariant in
    finds_end c.args.around.now.code.now c.args.around.now.relations.now (specs_of c.args.around.now.hosts.now.names) (notes_of c.args.around.now.notes.now) c.loop-a.stacks c.loop-a.walker c.loop-a.a walked.0 c.broken_behind.result (c.pass_is_exact.ensures c.args.around.now.code.now c.args.around.now.relations.now (specs_of c.args.around.now.hosts.now.names) (notes_of c.args.around.now.notes.now)) (omega (arith, c.loop-a.auto.a-end, c.loop-a-test.false, c.len-count.ensures)) walked.1
    (c.broken_behind.ensures ∙ ap (λ n. if_behind c.loop-a.walker.behind n c.loop-a.walker.table.far) c.len-count.ensures)
