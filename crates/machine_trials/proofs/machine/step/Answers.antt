use Rattle.std.proofs.Common.{◌≡◌, ◌∙◌, Result, Ok, IfOk, ap, subst}
use Rattle.hera_machine.specs.Standing.{status_by, WaitsBy}
use Rattle.hera_machine.proofs.Counted.{counted_quiet, counted_out}
use Rattle.machine_trials.proofs.machine.step.Goals as goal

-- what holds of the value of a good answer
of_value : {T E : Type 0} (P : T → Type 0) (r : Result T E) (x : T) → r ≡ Ok x → IfOk r P → P x
of_value {T} {E} P r x is h = subst (λ (q : Result T E). IfOk q P) is h

pub returns-in-Quiet-clause-waits : goal.returns-in-Quiet-clause-waits
returns-in-Quiet-clause-waits g c = λ on. subst (λ e. WaitsBy c.advance.new.self.waits e) c.in-Quiet.is (of_value _ c.advance.result c.in_ok-moved.field-0 c.in_ok-moved.ensures c.advance.ensures.waits)

pub returns-in-Quiet-clause-works : goal.returns-in-Quiet-clause-works
returns-in-Quiet-clause-works g c = λ on. of_value _ c.advance.result c.in_ok-moved.field-0 c.in_ok-moved.ensures c.advance.ensures.status ∙ ap (λ e. status_by e) c.in-Quiet.is

pub returns-in-Quiet-clause-counted : goal.returns-in-Quiet-clause-counted
returns-in-Quiet-clause-counted g c = λ on. counted_quiet _ _ c.advance.new.self c.in_ok-moved.field-0 (of_value _ c.advance.result c.in_ok-moved.field-0 c.in_ok-moved.ensures (c.advance.ensures.counted c.requires.works)) c.in-Quiet.is

pub returns-in_ok-extend_from_slice-in-Out-clause-waits : goal.returns-in_ok-extend_from_slice-in-Out-clause-waits
returns-in_ok-extend_from_slice-in-Out-clause-waits g c = λ on. subst (λ e. WaitsBy c.advance.new.self.waits e) c.in-Out.is (of_value _ c.advance.result c.in_ok-moved.field-0 c.in_ok-moved.ensures c.advance.ensures.waits)

pub returns-in_ok-extend_from_slice-in-Out-clause-works : goal.returns-in_ok-extend_from_slice-in-Out-clause-works
returns-in_ok-extend_from_slice-in-Out-clause-works g c = λ on. of_value _ c.advance.result c.in_ok-moved.field-0 c.in_ok-moved.ensures c.advance.ensures.status ∙ ap (λ e. status_by e) c.in-Out.is

pub returns-in_ok-extend_from_slice-in-Out-clause-counted : goal.returns-in_ok-extend_from_slice-in-Out-clause-counted
returns-in_ok-extend_from_slice-in-Out-clause-counted g c = λ on. counted_out _ _ c.advance.new.self c.in_ok-moved.field-0 (of_value _ c.advance.result c.in_ok-moved.field-0 c.in_ok-moved.ensures (c.advance.ensures.counted c.requires.works)) c.in-Out.line c.in-Out.is
