-- Runs that were stopped, and machines at their start.
use Rattle.std.proofs.Common.{◌≡◌, ℕ, List, [], Option, None, Result, Ok, Err, IfErr, OnErr, sym, ap, ◌∙◌}
use Rattle.hera_meaning.specs.Deltas.{State}
use Rattle.hera_code.specs.declared.instrs.Code.{Code}
use Rattle.hera_code.specs.Machine.{Machine}
use Rattle.hera_code.specs.Reached.{start_of}
use Rattle.hera_machine.specs.Standing.{Standing, machine_over}
use Rattle.hera_machine.specs.declared.events.Status.TheVariants.{Working}
use Rattle.hera_store.specs.Databases.{Database}
use Rattle.hera_outcome.specs.declared.answer.Stop.{Stop}
use Rattle.hera_outcome.specs.declared.answer.Stop.TheVariants.{Memory, Full}
use Rattle.hera_outcome.specs.Answers.{IsSpoken}
use Rattle.hera_run.specs.Running.{Job, IsPartDone, IsDoneUpToFull, IsStopped, turns_of, IsAtStart}
use Rattle.hera_run.proofs.Results.{ok_is_no_err, same_error}

module _ (j : Job) (apart : Type 0) (before now : Option (List ℕ)) (left : Database) (stands : Type 0) where
  -- there was no memory
  pub stopped_for_memory : IsPartDone j before now → IsStopped j apart before now left stands Memory
  stopped_for_memory part = record { part = part; full = λ is. cc (is); spoken = λ _. tt }

  module _ {T : Type 0} where
    pub part_of : (r : Result T Stop) → IfErr r (λ stop. IsStopped j apart before now left stands stop) → OnErr r (IsPartDone j before now)
    part_of (Ok x) none = tt
    part_of (Err stop) stopped = stopped.part

    pub full_of : (r : Result T Stop) → IfErr r (λ stop. IsStopped j apart before now left stands stop) → ◌≡◌ {A = Result T Stop} r (Err Full) → IsDoneUpToFull j before now left × stands
    full_of (Ok x) none is = absurd (ok_is_no_err x Full is)
    full_of (Err stop) stopped is = stopped.full (same_error {A = T} stop Full is)

    pub spoken_of : (r : Result T Stop) → IfErr r (λ stop. IsStopped j apart before now left stands stop) → apart → IfErr r IsSpoken
    spoken_of (Ok x) none apart = tt
    spoken_of (Err stop) stopped apart = stopped.spoken apart

-- a machine that was made anew
module _ (m : Standing) (code : Code) (turns : ℕ) (starts : (s : State) → machine_over s m ≡ start_of code turns) where
  pub turns_are : turns_of m ≡ turns
  turns_are = ap (λ (x : Machine). x.turns) (starts [])

  pub fresh : m.code ≡ code → m.status ≡ Working → m.waits ≡ None → IsAtStart m
  fresh same works taken = record {
    starts = λ s. starts s ∙ ap (λ (c : Code). start_of c turns) (sym same) ∙ ap (λ (n : ℕ). start_of m.code n) (sym turns_are);
    works = works;
    taken = taken;
  }
