-- Where sessions begin, and how each closes once.
use Rattle.std.specs.Prelude.{◌≡◌, ℕ, Bool, false, cond, List, [], ◌∷◌, length, take, drop, nat_eq}
use Rattle.std.specs.List.{list_any}
use Rattle.hera_meaning.specs.Deltas.{Delta, State}
use Rattle.hera_meaning.specs.Hosts.{Hosts}
use Rattle.hera_meaning.specs.Run.{Report}
use Rattle.hera_meaning.specs.Commits.{after_all}
use Rattle.hera_sessions.specs.Sessions.{Task, run_task}
use Rattle.hera_sessions.specs.Weaving.{Woven, Closing, woven_start, step_of, woven}

module _ (tasks : List Task) (s0 : State) (hosts : Hosts) where
  abbrev pub begun_from : ℕ → Woven → (schedule : List ℕ) → ℕ
  begun_from i w [] = length w.commits
  begun_from i w (j ∷ rest) = cond (nat_eq i j) (length w.commits) (begun_from i (step_of tasks s0 hosts j w) rest)

  -- how many commits there were when the session made its first step; all of them, if it made none yet
  abbrev pub begun_of : ℕ → (schedule : List ℕ) → ℕ
  begun_of i schedule = begun_from i (woven_start tasks s0 hosts) schedule

  -- the run of a task as that session: on the state committed at its first step
  abbrev pub run_at : Task → ℕ → (schedule : List ℕ) → Report
  run_at t i schedule = run_task hosts t (after_all s0 (take (begun_of i schedule) (woven tasks s0 hosts schedule).commits))

  -- the commits since its first step
  abbrev pub since : ℕ → (schedule : List ℕ) → List Delta
  since i schedule = drop (begun_of i schedule) (woven tasks s0 hosts schedule).commits

-- the session is one of those that closed
abbrev pub has_closed : ℕ → List Closing → Bool
has_closed i cs = list_any (λ c. nat_eq i c.session) cs

-- no session closed twice
abbrev pub AreOnce : List Closing → Type 0
AreOnce [] = Unit {0}
AreOnce (c ∷ cs) = (has_closed c.session cs ≡ false) × AreOnce cs
