use Rattle.std.proofs.Common.{◌≡◌, ◌≤◌, ◌<◌, ◌+◌, ◌-◌, ◌^◌, ℕ, List, length, sym, ap, subst, ◌∙◌, arith}
use Rattle.hera_meaning.specs.Deltas.{Delta}
use Rattle.hera_host.specs.Tables.{specs_of}
use Rattle.hera_machine.specs.Over.{state_over}
use Rattle.hera_weave.specs.Standing.{Stepped}
use Rattle.hera_weave.proofs.Known.{rest_proper}
use Rattle.hera_weave.proofs.Moving.{Begun, began_within, may_step, told_quiet, stands_quiet, less_quiet, told_closing, stands_closing, less_closing}
use Rattle.hera_weave.proofs.weave.Weave.move_on.Goals as goal

pub front-requires : goal.front-requires
front-requires g c =
    let sc = c.requires.stands in
    (began_within sc.tasks (specs_of c.args.hosts.now.names) c.args.base.now.state c.args.commits.now sc.schedule c.args.self.now sc.stands c.args.session c.take-seat.result c.take-seat.ensures.seat c.begin-begun.result c.begin-begun.ensures.first c.begin-begun.ensures.later).1

pub rest-requires : goal.rest-requires
rest-requires g c =
    let sc = c.requires.stands in
    (began_within sc.tasks (specs_of c.args.hosts.now.names) c.args.base.now.state c.args.commits.now sc.schedule c.args.self.now sc.stands c.args.session c.take-seat.result c.take-seat.ensures.seat c.begin-begun.result c.begin-begun.ensures.first c.begin-begun.ensures.later).1

pub number-requires-clause-began : goal.number-requires-clause-began
number-requires-clause-began g c =
    let sc = c.requires.stands in
    (began_within sc.tasks (specs_of c.args.hosts.now.names) c.args.base.now.state c.args.commits.now sc.schedule c.args.self.now sc.stands c.args.session c.take-seat.result c.take-seat.ensures.seat c.begin-begun.result c.begin-begun.ensures.first c.begin-begun.ensures.later).1

pub number-requires-clause-started : goal.number-requires-clause-started
number-requires-clause-started g c =
    let sc = c.requires.stands in
    let same : c.start-start.result ≡ c.args.self.now.start = c.start-start.ensures in
    let le : c.args.self.now.start ≤ c.begin-begun.result = (began_within sc.tasks (specs_of c.args.hosts.now.names) c.args.base.now.state c.args.commits.now sc.schedule c.args.self.now sc.stands c.args.session c.take-seat.result c.take-seat.ensures.seat c.begin-begun.result c.begin-begun.ensures.first c.begin-begun.ensures.later).0 in
    omega (arith, same, le)

pub step-requires-clause-taken : goal.step-requires-clause-taken
step-requires-clause-taken g c =
    let sc = c.requires.stands in
    let begun : Begun c.args.commits.now c.take-seat.result c.begin-begun.new.self c.begin-begun.result c.front.result.now =
    record { first = c.begin-begun.ensures.first; later = c.begin-begun.ensures.later; is = c.begin-begun.ensures.begun; fronted = c.front.ensures } in
    (may_step sc.tasks (specs_of c.args.hosts.now.names) c.args.base.now.state c.args.commits.now sc.schedule c.args.self.now sc.stands c.args.session c.take-seat.result c.take-seat.ensures.seat c.begin-begun.new.self c.begin-begun.result c.front.result.now begun c.args.base.now.catalogue sc.are c.requires.proper).0

pub step-requires-clause-relations : goal.step-requires-clause-relations
step-requires-clause-relations g c =
    let sc = c.requires.stands in
    let begun : Begun c.args.commits.now c.take-seat.result c.begin-begun.new.self c.begin-begun.result c.front.result.now =
    record { first = c.begin-begun.ensures.first; later = c.begin-begun.ensures.later; is = c.begin-begun.ensures.begun; fronted = c.front.ensures } in
    (may_step sc.tasks (specs_of c.args.hosts.now.names) c.args.base.now.state c.args.commits.now sc.schedule c.args.self.now sc.stands c.args.session c.take-seat.result c.take-seat.ensures.seat c.begin-begun.new.self c.begin-begun.result c.front.result.now begun c.args.base.now.catalogue sc.are c.requires.proper).1

pub step-requires-clause-known : goal.step-requires-clause-known
step-requires-clause-known g c =
    let sc = c.requires.stands in
    let begun : Begun c.args.commits.now c.take-seat.result c.begin-begun.new.self c.begin-begun.result c.front.result.now =
    record { first = c.begin-begun.ensures.first; later = c.begin-begun.ensures.later; is = c.begin-begun.ensures.begun; fronted = c.front.ensures } in
    (may_step sc.tasks (specs_of c.args.hosts.now.names) c.args.base.now.state c.args.commits.now sc.schedule c.args.self.now sc.stands c.args.session c.take-seat.result c.take-seat.ensures.seat c.begin-begun.new.self c.begin-begun.result c.front.result.now begun c.args.base.now.catalogue sc.are c.requires.proper).2

pub close-requires-clause-proper : goal.close-requires-clause-proper
close-requires-clause-proper g c =
    rest_proper c.args.base.now.catalogue c.begin-begun.result c.args.commits.now c.rest.result.now c.requires.proper c.rest.ensures

pub close-requires-clause-short : goal.close-requires-clause-short
close-requires-clause-short g c =
    subst (λ (l : List Delta). c.number.result + length l < 2 ^ 64) (sym c.rest.ensures) c.number.ensures.short

pub returns-in-Ok-None-clause-told : goal.returns-in-Ok-None-clause-told
returns-in-Ok-None-clause-told g c = λ tasks schedule st.
    let begun : Begun c.args.commits.now c.take-seat.result c.begin-begun.new.self c.begin-begun.result c.front.result.now =
    record { first = c.begin-begun.ensures.first; later = c.begin-begun.ensures.later; is = c.begin-begun.ensures.begun; fronted = c.front.ensures } in
    told_quiet tasks (specs_of c.args.hosts.now.names) c.args.base.now.state c.args.commits.now schedule c.args.self.now st c.args.session c.take-seat.result c.take-seat.ensures.seat c.begin-begun.new.self c.begin-begun.result c.front.result.now begun c.step.new.self
    (λ t k at. subst (λ e. Stepped t (specs_of c.args.hosts.now.names) c.args.base.now.state (state_over c.args.base.now.state c.front.result.now) k c.step.new.self e) c.in-Ok-None.field-0-is (c.in-Ok-None.ensures.steps t k at))

pub returns-in-Ok-None-clause-stands : goal.returns-in-Ok-None-clause-stands
returns-in-Ok-None-clause-stands g c = λ tasks schedule st.
    let begun : Begun c.args.commits.now c.take-seat.result c.begin-begun.new.self c.begin-begun.result c.front.result.now =
    record { first = c.begin-begun.ensures.first; later = c.begin-begun.ensures.later; is = c.begin-begun.ensures.begun; fronted = c.front.ensures } in
    stands_quiet tasks (specs_of c.args.hosts.now.names) c.args.base.now.state c.args.commits.now schedule c.args.self.now st c.args.session c.take-seat.result c.take-seat.ensures.seat c.begin-begun.new.self c.begin-begun.result c.front.result.now begun c.step.new.self
    (λ t k at. subst (λ e. Stepped t (specs_of c.args.hosts.now.names) c.args.base.now.state (state_over c.args.base.now.state c.front.result.now) k c.step.new.self e) c.in-Ok-None.field-0-is (c.in-Ok-None.ensures.steps t k at))
    c.take-seat.new.self c.put_back.new.self c.step.ensures.begun c.take-seat.ensures.taken c.put_back.ensures

pub returns-in-Ok-None-clause-less : goal.returns-in-Ok-None-clause-less
returns-in-Ok-None-clause-less g c =
    let sc = c.requires.stands in
    let begun : Begun c.args.commits.now c.take-seat.result c.begin-begun.new.self c.begin-begun.result c.front.result.now =
    record { first = c.begin-begun.ensures.first; later = c.begin-begun.ensures.later; is = c.begin-begun.ensures.begun; fronted = c.front.ensures } in
    less_quiet sc.tasks (specs_of c.args.hosts.now.names) c.args.base.now.state c.args.commits.now sc.schedule c.args.self.now sc.stands c.args.session c.take-seat.result c.take-seat.ensures.seat c.begin-begun.new.self c.begin-begun.result c.front.result.now begun c.step.new.self
    (λ t k at. subst (λ e. Stepped t (specs_of c.args.hosts.now.names) c.args.base.now.state (state_over c.args.base.now.state c.front.result.now) k c.step.new.self e) c.in-Ok-None.field-0-is (c.in-Ok-None.ensures.steps t k at))
    c.take-seat.new.self c.put_back.new.self c.take-seat.ensures.taken c.put_back.ensures (λ forward. c.in-Ok-None.ensures.less forward c.in-Ok-None.field-0-is)

pub returns-in-Ok-Some-clause-told : goal.returns-in-Ok-Some-clause-told
returns-in-Ok-Some-clause-told g c = λ tasks schedule st.
    let begun : Begun c.args.commits.now c.take-seat.result c.begin-begun.new.self c.begin-begun.result c.front.result.now =
    record { first = c.begin-begun.ensures.first; later = c.begin-begun.ensures.later; is = c.begin-begun.ensures.begun; fronted = c.front.ensures } in
    told_closing tasks (specs_of c.args.hosts.now.names) c.args.base.now.state c.args.commits.now schedule c.args.self.now st c.args.session c.take-seat.result c.take-seat.ensures.seat c.begin-begun.new.self c.begin-begun.result c.front.result.now begun c.step.new.self c.in-Ok-Some.field-0 _ c.in-Ok-Some.field-0-is (λ t k at. c.in-Ok-Some.ensures.steps t k at)
    c.number.result c.rest.result.now c.close.result (c.number.ensures.number ∙ ap (λ (k : ℕ). c.begin-begun.result - k + 1) c.start-start.ensures) c.rest.ensures c.close.ensures.told

pub returns-in-Ok-Some-clause-stands : goal.returns-in-Ok-Some-clause-stands
returns-in-Ok-Some-clause-stands g c = λ tasks schedule st.
    let begun : Begun c.args.commits.now c.take-seat.result c.begin-begun.new.self c.begin-begun.result c.front.result.now =
    record { first = c.begin-begun.ensures.first; later = c.begin-begun.ensures.later; is = c.begin-begun.ensures.begun; fronted = c.front.ensures } in
    stands_closing tasks (specs_of c.args.hosts.now.names) c.args.base.now.state c.args.commits.now schedule c.args.self.now st c.args.session c.take-seat.result c.take-seat.ensures.seat c.begin-begun.new.self c.begin-begun.result c.front.result.now begun c.step.new.self c.in-Ok-Some.field-0 _ c.in-Ok-Some.field-0-is (λ t k at. c.in-Ok-Some.ensures.steps t k at)
    c.number.result c.rest.result.now c.close.result (c.number.ensures.number ∙ ap (λ (k : ℕ). c.begin-begun.result - k + 1) c.start-start.ensures) c.rest.ensures c.close.ensures.told
    c.take-seat.new.self c.take-seat.ensures.taken

pub returns-in-Ok-Some-clause-less : goal.returns-in-Ok-Some-clause-less
returns-in-Ok-Some-clause-less g c =
    less_closing c.close.result c.args.self.now c.take-seat.new.self c.args.session c.take-seat.result c.take-seat.ensures.seat c.take-seat.ensures.taken
