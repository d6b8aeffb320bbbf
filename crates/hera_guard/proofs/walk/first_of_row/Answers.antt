use Rattle.std.proofs.Common.{◌+◌, refl, sym, ◌∙◌}
use Rattle.hera_host.specs.Tables.{specs_of}
use Rattle.hera_guard.specs.Suiting.{SuitsIn}
use Rattle.hera_guard.proofs.Walking.{guard_passes, guard_broken, guards_end, all_at}
use Rattle.hera_guard.proofs.walk.first_of_row.Goals as goal

pub loop-i-init : goal.loop-i-init
loop-i-init g c = refl

pub is_broken-requires-clause-suits : goal.is_broken-requires-clause-suits
is_broken-requires-clause-suits g c = all_at (SuitsIn c.args.schema.now c.args.rel.0 c.args.hosts.now.names) c.args.guards.now c.loop-i.i c.guard_at.result.now c.requires.suit c.guard_at.ensures

pub returns-then-broken : goal.returns-then-broken
returns-then-broken g c =
    guard_broken (specs_of c.args.hosts.now.names) c.args.schema.now c.args.rel.0 c.args.row.now c.args.guards.now c.loop-i.i c.guard_at.result.now c.guard_at.ensures (sym c.in_ok-broken.ensures ∙ c.if-broken.true)
    ∙ c.loop-i.invariant

pub loop-i-preserved : goal.loop-i-preserved
loop-i-preserved g c =
    guard_passes (specs_of c.args.hosts.now.names) c.args.schema.now c.args.rel.0 c.args.row.now c.args.guards.now c.loop-i.i (c.loop-i.i + 1) c.guard_at.result.now refl c.guard_at.ensures (sym c.in_ok-broken.ensures ∙ c.if-broken.false)
    ∙ c.loop-i.invariant

pub returns : goal.returns
returns g c =
    sym (guards_end (specs_of c.args.hosts.now.names) c.args.schema.now c.args.rel.0 c.args.row.now c.args.guards.now c.loop-i.i c.loop-i-test.false) ∙ c.loop-i.invariant
