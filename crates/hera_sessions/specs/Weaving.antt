-- Sessions over one base, an instruction at a time.
use Rattle.std.specs.Prelude.{◌≡◌, ℕ, zero, suc, Bool, true, false, cond, List, [], ◌∷◌, ◌++◌, length, take, drop, replicate, Option, Some, None, slice_get, codes}
use Rattle.hera_meaning.specs.declared.schemas.RelDecl.{RelDecl}
use Rattle.hera_meaning.specs.Deltas.{Delta, State, apply_of}
use Rattle.hera_meaning.specs.Hosts.{Hosts}
use Rattle.hera_meaning.specs.Printed.{number_text}
use Rattle.hera_meaning.specs.Worlds.{Event, out, store}
use Rattle.hera_meaning.specs.Run.{printed}
use Rattle.hera_meaning.specs.Sound.{Sound}
use Rattle.hera_code.specs.Reached.{Reached, still, over, code_at}
use Rattle.hera_code.specs.Scheme.{code_of}
use Rattle.hera_sessions.specs.Reads.{reads_of, touches}
use Rattle.hera_sessions.specs.Agreeing.{deltas_of}
use Rattle.hera_meaning.specs.Commits.{smashed, after_all}
use Rattle.hera_sessions.specs.Sessions.{Task}

-- how a session closes: with one commit, having stored nothing, or because a commit touched what it read
pub data Outcome : Type 0 where
  committed : (text : List ℕ) (delta : Delta) → Outcome
  read : (text : List ℕ) → Outcome
  conflicted : (number : ℕ) → Outcome

-- a session that closed
pub record Closing : Type 0 where
  pub session : ℕ
  pub outcome : Outcome

-- where a session stands: it made no step yet; it began behind so many commits and made so many steps; it closed
pub data Stage : Type 0 where
  waiting : Stage
  running : (begun steps : ℕ) → Stage
  closed : Stage

-- the sessions' stages, the commits and the closings so far
pub record Woven : Type 0 where
  pub stages : List Stage
  pub commits : List Delta
  pub closings : List Closing

abbrev pub set_stage : List Stage → ℕ → Stage → List Stage
set_stage [] i g = []
set_stage (h ∷ stages) zero g = g ∷ stages
set_stage (h ∷ stages) (suc i) g = h ∷ set_stage stages i g

-- the number of the first of these deltas that touches one of the relations
abbrev pub first_touch : (rs : List ℕ) (number : ℕ) → List Delta → Option ℕ
first_touch rs k [] = None
first_touch rs k (d ∷ ds) = cond (touches rs d) (Some k) (first_touch rs (suc k) ds)

-- how a run with these deltas and this text closes, where a commit since touched what it read or none did
abbrev pub outcome_by : List Delta → (text : List ℕ) → Option ℕ → Outcome
outcome_by [] text hit = read text
outcome_by (d ∷ ds) text None = committed text (smashed d ds)
outcome_by (d ∷ ds) text (Some k) = conflicted k

abbrev pub delta_stored : Outcome → List Delta
delta_stored (committed text d) = d ∷ []
delta_stored (read text) = []
delta_stored (conflicted k) = []

-- where a session stands that made so many steps, unless it closed
abbrev pub stage_by : (begun steps : ℕ) → Option Outcome → Stage
stage_by begun steps None = running begun steps
stage_by begun steps (Some o) = closed

abbrev pub commits_by : List Delta → Option Outcome → List Delta
commits_by commits None = commits
commits_by commits (Some o) = commits ++ delta_stored o

abbrev pub closings_by : List Closing → ℕ → Option Outcome → List Closing
closings_by closings i None = closings
closings_by closings i (Some o) = closings ++ record { session = i; outcome = o } ∷ []

-- a session that began behind so many commits made its so manieth step, at which it closed so or did not
abbrev pub after_told : ℕ → (begun steps : ℕ) → Option Outcome → Woven → Woven
after_told i begun steps o w = record {
  stages = set_stage w.stages i (stage_by begun steps o);
  commits = commits_by w.commits o;
  closings = closings_by w.closings i o;
}

-- a program and its number of turns that began behind so many commits closes so with these events
abbrev pub outcome_of : Task → List Delta → (begun : ℕ) → List Event → Outcome
outcome_of t commits begun es = outcome_by (deltas_of es) (printed es) (first_touch (reads_of t.program) (suc begun) (drop begun commits))

abbrev pub told_by : Task → List Delta → (begun : ℕ) → Reached → Option Outcome
told_by t commits begun (still s m es) = None
told_by t commits begun (over es stop) = Some (outcome_of t commits begun es)

module _ (tasks : List Task) (s0 : State) (hosts : Hosts) where
  -- what the code of a task comes to that began behind so many commits
  abbrev pub reach : Task → List Delta → (begun steps : ℕ) → Reached
  reach t commits begun steps = code_at (code_of t.program) t.program.relations (after_all s0 (take begun commits)) hosts t.turns steps

  -- how a session that made so many steps closes at the next one, if it does
  abbrev pub told_next : Task → List Delta → (begun steps : ℕ) → Option Outcome
  told_next t commits begun steps = told_by t commits begun (reach t commits begun (suc steps))

  abbrev pub steps_on : ℕ → Task → (begun steps : ℕ) → Woven → Woven
  steps_on i t begun steps w = after_told i begun (suc steps) (told_next t w.commits begun steps) w

  -- a session begins at its first step, on the state committed then
  abbrev pub step_by : ℕ → Option Task → Option Stage → Woven → Woven
  step_by i None stage w = w
  step_by i (Some t) None w = w
  step_by i (Some t) (Some waiting) w = steps_on i t (length w.commits) 0 w
  step_by i (Some t) (Some (running begun steps)) w = steps_on i t begun steps w
  step_by i (Some t) (Some closed) w = w

  abbrev pub step_of : ℕ → Woven → Woven
  step_of i w = step_by i (slice_get tasks i) (slice_get w.stages i) w

  -- how the session closes at that step, if it does
  abbrev pub closes_by : Option Task → Option Stage → Woven → Option Outcome
  closes_by None stage w = None
  closes_by (Some t) None w = None
  closes_by (Some t) (Some waiting) w = told_next t w.commits (length w.commits) 0
  closes_by (Some t) (Some (running begun steps)) w = told_next t w.commits begun steps
  closes_by (Some t) (Some closed) w = None

  abbrev pub closes_next : ℕ → Woven → Option Outcome
  closes_next i w = closes_by (slice_get tasks i) (slice_get w.stages i) w

  abbrev pub woven_start : Woven
  woven_start = record { stages = replicate (length tasks) waiting; commits = []; closings = [] }

  abbrev pub woven_from : Woven → (schedule : List ℕ) → Woven
  woven_from w [] = w
  woven_from w (i ∷ rest) = woven_from (step_of i w) rest

  -- after the steps of a schedule, which names the session of each step
  abbrev pub woven : (schedule : List ℕ) → Woven
  woven schedule = woven_from woven_start schedule

-- ---- events

abbrev pub session_line : ℕ → List ℕ
session_line i = codes "session " ++ number_text i ++ codes "\n"

abbrev pub conflict_text : ℕ → List ℕ
conflict_text k = codes "conflict with commit " ++ number_text k ++ codes "\n"

-- a commit is stored, and then its session's line and text are printed
abbrev pub closing_events : State → ℕ → Outcome → List Event
closing_events s i (committed text d) = store (apply_of s d) d ∷ out (session_line i ++ text) ∷ []
closing_events s i (read text) = out (session_line i ++ text) ∷ []
closing_events s i (conflicted k) = out (session_line i ++ conflict_text k) ∷ []

abbrev pub closings_events : State → List Closing → List Event
closings_events s [] = []
closings_events s (c ∷ cs) = closing_events s c.session c.outcome ++ closings_events (after_all s (delta_stored c.outcome)) cs

-- the events of a schedule
abbrev pub weave_of : List Task → State → (schedule : List ℕ) → Hosts → List Event
weave_of tasks s0 schedule hosts = closings_events s0 (woven tasks s0 hosts schedule).closings

-- ---- the sessions that closed with a commit

abbrev pub with_commit : Option Task → Outcome → List Task
with_commit None o = []
with_commit (Some t) (committed text d) = t ∷ []
with_commit (Some t) (read text) = []
with_commit (Some t) (conflicted k) = []

abbrev pub text_with_commit : Outcome → List (List ℕ)
text_with_commit (committed text d) = text ∷ []
text_with_commit (read text) = []
text_with_commit (conflicted k) = []

-- their tasks, and their texts, in commit order
abbrev pub committers : List Task → List Closing → List Task
committers tasks [] = []
committers tasks (c ∷ cs) = with_commit (slice_get tasks c.session) c.outcome ++ committers tasks cs

abbrev pub commit_texts : List Closing → List (List ℕ)
commit_texts [] = []
commit_texts (c ∷ cs) = text_with_commit c.outcome ++ commit_texts cs

-- each program is sound for the hosts and has these relations
pub record AreTasks (hosts : Hosts) (rels : List RelDecl) (tasks : List Task) : Type 0 where
  pub sound : (i : ℕ) (t : Task) → slice_get tasks i ≡ Some t → Sound t.program hosts
  pub relations : (i : ℕ) (t : Task) → slice_get tasks i ≡ Some t → t.program.relations ≡ rels

-- the session did not close
abbrev pub is_open : Option Stage → Bool
is_open None = false
is_open (Some waiting) = true
is_open (Some (running begun steps)) = true
is_open (Some closed) = false

-- each session that closed is at that stage
abbrev pub AreClosed : List Stage → List Closing → Type 0
AreClosed stages [] = Unit {0}
AreClosed stages (c ∷ cs) = (slice_get stages c.session ≡ Some closed) × AreClosed stages cs
