-- The schedule of a number.
use Rattle.std.specs.Prelude.{◌≡◌, ℕ, suc, ◌/◌, ◌%◌, cond, nat_eq, List, [], ◌∷◌, length, Some, slice_get}
use Rattle.hera_meaning.specs.Deltas.{State}
use Rattle.hera_meaning.specs.Hosts.{Hosts}
use Rattle.hera_sessions.specs.Sessions.{Task}
use Rattle.hera_sessions.specs.Weaving.{Stage, waiting, running, closed, Woven, step_of, woven_start}

-- the numbers of the sessions that have not closed, of which the first is number i
abbrev pub open_from : (i : ℕ) → List Stage → List ℕ
open_from i [] = []
open_from i (waiting ∷ stages) = i ∷ open_from (suc i) stages
open_from i (running begun steps ∷ stages) = i ∷ open_from (suc i) stages
open_from i (closed ∷ stages) = open_from (suc i) stages

-- what stands for the number at the next turn, if so many sessions are open: its quotient, and the number again where that is 0
abbrev pub next_number : (order x c : ℕ) → ℕ
next_number order x c = cond (nat_eq (x / c) 0) order (x / c)

module _ (tasks : List Task) (s0 : State) (hosts : Hosts) (order : ℕ) where
  -- each step is that of the open session at the place that the number's remainder gives
  abbrev pub IsOrderedFrom : (x : ℕ) → Woven → (schedule : List ℕ) → Type 0
  IsOrderedFrom x w [] = Unit {0}
  IsOrderedFrom x w (i ∷ rest) =
      let open_ones = open_from 0 w.stages in
      (slice_get open_ones (x % length open_ones) ≡ Some i) × IsOrderedFrom (next_number order x (length open_ones)) (step_of tasks s0 hosts i w) rest

  abbrev pub IsOrdered : (schedule : List ℕ) → Type 0
  IsOrdered schedule = IsOrderedFrom order (woven_start tasks s0 hosts) schedule
