-- The order of steps that a number tells.
use Rattle.std.specs.Prelude.{◌≡◌, ℕ, List, ◌++◌}
use Rattle.hera_meaning.specs.Deltas.{State}
use Rattle.hera_meaning.specs.Hosts.{Hosts}
use Rattle.hera_sessions.specs.Sessions.{Task}
use Rattle.hera_sessions.specs.Weaving.{woven}
use Rattle.hera_sessions.specs.Turns.{open_from, IsOrderedFrom, IsOrdered}

-- the number, what stands for it at the next step, and the sessions that have not closed
pub record Turn : Type 0 where
  pub order : ℕ
  pub number : ℕ
  pub opens : List ℕ

-- Behind the steps of this schedule: the sessions are those that have not closed, and whatever is in order from here on
-- is in order behind them.
pub record IsDue (tasks : List Task) (s0 : State) (hosts : Hosts) (schedule : List ℕ) (r : Turn) : Type 0 where
  pub opens : r.opens ≡ open_from 0 (woven tasks s0 hosts schedule).stages
  pub ordered : (rest : List ℕ) → IsOrderedFrom tasks s0 hosts r.order r.number (woven tasks s0 hosts schedule) rest → IsOrdered tasks s0 hosts r.order (schedule ++ rest)
