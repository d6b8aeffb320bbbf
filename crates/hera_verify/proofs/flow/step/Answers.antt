use Rattle.std.proofs.Common.{true, sym, ap, subst, ◌∙◌, not, ◌&&◌, Some, length}
use Rattle.hera_host.specs.Tables.{specs_of}
use Rattle.hera_typed.specs.Notes.{notes_of}
use Rattle.std.specs.Prelude.{IfOk}
use Rattle.hera_typed.specs.Effects.{is_placed}
use Rattle.hera_verify.specs.Tables.{Keeps}
use Rattle.hera_verify.specs.Calls.{AreCalls}
use Rattle.hera_verify.proofs.Flowing.{step_stops, step_goes, refused, goes_unknown, goes_known, keeps_known}
use Rattle.hera_verify.proofs.flow.step.Goals as goal

pub returns-then-not-may_go-clause-steps : goal.returns-then-not-may_go-clause-steps
returns-then-not-may_go-clause-steps g c f is =
    let may = c.may_go.ensures ∙ (λ i. (not (is.broken c.args.a c.is_broken-broken.result c.is_broken-broken.ensures i) && c.requires.behind i) && (c.is_placed-placed.ensures ∙ ap (λ k. is_placed c.args.around.now.code.now (notes_of c.args.around.now.notes.now) k c.args.a c.args.instr.now) (sym c.requires.home)) i) in
    refused c.args.around.now.code.now c.args.around.now.relations.now (specs_of c.args.around.now.hosts.now.names) (notes_of c.args.around.now.notes.now) c.args.stacks.now c.args.table.now _ (step_stops c.args.around.now.code.now c.args.around.now.relations.now (specs_of c.args.around.now.hosts.now.names) (notes_of c.args.around.now.notes.now) c.args.a c.args.instr.now f c.may_go.result may c.if-not-may_go.true)

pub returns-in-Some-clause-steps : goal.returns-in-Some-clause-steps
returns-in-Some-clause-steps g c f is =
    let may = c.may_go.ensures ∙ (λ i. (not (is.broken c.args.a c.is_broken-broken.result c.is_broken-broken.ensures i) && c.requires.behind i) && (c.is_placed-placed.ensures ∙ ap (λ k. is_placed c.args.around.now.code.now (notes_of c.args.around.now.notes.now) k c.args.a c.args.instr.now) (sym c.requires.home)) i) in
    let own = step_goes c.args.around.now.code.now c.args.around.now.relations.now (specs_of c.args.around.now.hosts.now.names) (notes_of c.args.around.now.notes.now) c.args.a c.args.instr.now f c.may_go.result may c.if-not-may_go.false in
    subst (λ o. IfOk c.from_spot.result (λ ok. Keeps c.from_spot.new.stacks (length c.args.around.now.code.now.instrs) c.from_spot.new.table ok o)) (sym own)
    (goes_known c.args.around.now.code.now c.args.around.now.relations.now (specs_of c.args.around.now.hosts.now.names) (notes_of c.args.around.now.notes.now) c.from_spot.new.stacks c.from_spot.result c.args.stacks.now c.args.table.now c.from_spot.new.table c.in-Some.spot c.args.a c.args.instr.now f (c.spot_at.ensures ∙ ap (λ o. Some o) c.in-Some.is) is
    (λ p k. c.from_spot.ensures.follows f p is k))

pub returns-in-None-clause-steps : goal.returns-in-None-clause-steps
returns-in-None-clause-steps g c f is =
    let may = c.may_go.ensures ∙ (λ i. (not (is.broken c.args.a c.is_broken-broken.result c.is_broken-broken.ensures i) && c.requires.behind i) && (c.is_placed-placed.ensures ∙ ap (λ k. is_placed c.args.around.now.code.now (notes_of c.args.around.now.notes.now) k c.args.a c.args.instr.now) (sym c.requires.home)) i) in
    let own = step_goes c.args.around.now.code.now c.args.around.now.relations.now (specs_of c.args.around.now.hosts.now.names) (notes_of c.args.around.now.notes.now) c.args.a c.args.instr.now f c.may_go.result may c.if-not-may_go.false in
    subst (λ o. Keeps c.args.stacks.now (length c.args.around.now.code.now.instrs) c.args.table.now true o) (sym own)
    (goes_unknown c.args.around.now.code.now c.args.around.now.relations.now (specs_of c.args.around.now.hosts.now.names) (notes_of c.args.around.now.notes.now) c.args.stacks.now c.args.table.now c.args.a c.args.instr.now f (c.spot_at.ensures ∙ ap (λ o. Some o) c.in-None.is) is)

pub returns-in-Some-clause-kept : goal.returns-in-Some-clause-kept
returns-in-Some-clause-kept g c f is =
    keeps_known c.args.around.now.code.now c.args.around.now.relations.now (specs_of c.args.around.now.hosts.now.names) (notes_of c.args.around.now.notes.now) c.from_spot.new.stacks c.from_spot.result c.args.stacks.now c.args.table.now c.in-Some.spot c.args.a f
    (AreCalls c.args.around.now.code.now c.args.around.now.relations.now (specs_of c.args.around.now.hosts.now.names) (notes_of c.args.around.now.notes.now) c.from_spot.new.stacks c.from_spot.new.calls) (c.spot_at.ensures ∙ ap (λ o. Some o) c.in-Some.is) is (λ p k. c.from_spot.ensures.kept p k)
