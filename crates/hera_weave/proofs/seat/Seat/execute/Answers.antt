use Rattle.std.proofs.Common.{◌≡◌, sym, ap, ◌∙◌, subst, List, length}
use Rattle.std.specs.List.{list_all}
use Rattle.hera_meaning.specs.Deltas.{Delta}
use Rattle.hera_meaning.specs.Fits.{is_delta_of}
use Rattle.hera_host.specs.Tables.{specs_of}
use Rattle.hera_code.specs.Forward.{Forward}
use Rattle.hera_code.specs.declared.instrs.Code.{Code}
use Rattle.hera_machine.specs.Standing.{Standing, machine_over}
use Rattle.hera_weave.specs.Seats.{Sitting}
use Rattle.hera_weave.specs.Standing.{given_by, given_of}
use Rattle.hera_weave.proofs.Sitting.{executed, executed_less}
use Rattle.hera_weave.proofs.seat.Seat.execute.Goals as goal

pub returns-clause-moved : goal.returns-clause-moved
returns-clause-moved g c = λ works.
    let a : Sitting = c.args.self.now in
    let inside : Sitting = record { code = c.self.inside.code.now; machine = c.self.inside.machine; begun = c.self.inside.begun; own = c.self.inside.own.items; levels = c.self.inside.levels; text = c.self.inside.text.items } in
    let b : Sitting = record inside { machine = c.step.new.self } in
    let is : inside ≡ a = c.self.view_is in
    let mine : c.self.inside.machine ≡ a.machine = ap (λ (s : Sitting). s.machine) is in
    let given : c.given-given.result.now ≡ given_of c.args.prefix.now a =
    c.given-given.ensures ∙ ap (λ (l : List Delta). given_by c.args.prefix.now l c.deltas.result.now) c.deref.ensures.value ∙ ap (λ (l : List Delta). given_by c.args.prefix.now c.self.inside.own.items l) c.deltas.ensures.deltas ∙ ap (given_of c.args.prefix.now) is in
    let rest : b ≡ record a { machine = c.step.new.self } = ap (λ (s : Sitting). record s { machine = c.step.new.self }) is in
    executed (specs_of c.args.hosts.now.names) c.args.base.now.state c.args.prefix.now c.given-given.result.now a b c.reserve.new.self c.step.result given
    (λ u. c.in_ok-reserve.ensures.over u ∙ ap (λ (m : Standing). machine_over u m) mine) (c.in_ok-reserve.ensures.status ∙ ap (λ (m : Standing). m.status) mine) (c.in_ok-reserve.ensures.code ∙ ap (λ (m : Standing). m.code) mine)
    (c.in_ok-reserve.ensures.relations ∙ ap (λ (m : Standing). m.relations) mine) rest c.step.ensures.steps c.step.ensures.status c.step.ensures.waits c.step.ensures.code c.step.ensures.relations works

pub returns-clause-less : goal.returns-clause-less
returns-clause-less g c = λ forward.
    let inside : Sitting = record { code = c.self.inside.code.now; machine = c.self.inside.machine; begun = c.self.inside.begun; own = c.self.inside.own.items; levels = c.self.inside.levels; text = c.self.inside.text.items } in
    let mine : c.self.inside.machine ≡ c.args.self.now.machine = ap (λ (s : Sitting). s.machine) (let is : inside ≡ c.args.self.now = c.self.view_is in is) in
    let code : c.reserve.new.self.code ≡ c.args.self.now.machine.code = c.in_ok-reserve.ensures.code ∙ ap (λ (m : Standing). m.code) mine in
    executed_less (length c.reserve.new.self.code.instrs) (length c.args.self.now.machine.code.instrs) c.args.self.now.machine.state c.reserve.new.self.state c.step.new.self.state c.step.result
    (ap (λ (k : Code). length k.instrs) code) (c.in_ok-reserve.ensures.state ∙ ap (λ (m : Standing). m.state) mine)
    (c.step.ensures.nearer (subst (λ (k : Code). Forward k) (sym code) forward))

pub step-requires-clause-commits : goal.step-requires-clause-commits
step-requires-clause-commits g c =
    let inside : Sitting = record { code = c.self.inside.code.now; machine = c.self.inside.machine; begun = c.self.inside.begun; own = c.self.inside.own.items; levels = c.self.inside.levels; text = c.self.inside.text.items } in
    let is : inside ≡ c.args.self.now = c.self.view_is in
    let given : c.given-given.result.now ≡ given_of c.args.prefix.now c.args.self.now =
    c.given-given.ensures ∙ ap (λ (l : List Delta). given_by c.args.prefix.now l c.deltas.result.now) c.deref.ensures.value ∙ ap (λ (l : List Delta). given_by c.args.prefix.now c.self.inside.own.items l) c.deltas.ensures.deltas ∙ ap (given_of c.args.prefix.now) is in
    ap (list_all (is_delta_of c.args.base.now.catalogue)) given ∙ c.requires.known
