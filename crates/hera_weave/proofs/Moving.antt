-- What a step of a weave comes to, of the calls that it makes.
use Rattle.std.proofs.Common.{◌≡◌, ℕ, suc, ◌+◌, ◌-◌, ◌≤◌, ◌<◌, true, List, [], ◌∷◌, ◌++◌, take, drop, length, set, Option, Some, None, sym, ap, subst, ◌∙◌, arith}
use Rattle.std.specs.Prelude.{slice_get, Result, Ok, Err, IfOk, OnOk, All}
use Rattle.std.specs.List.{list_all}
use Rattle.std.specs.declared.alloc.AllocError.{AllocError}
use Rattle.hera_meaning.specs.declared.schemas.RelDecl.{RelDecl}
use Rattle.hera_meaning.specs.Deltas.{Delta, State, IsState}
use Rattle.hera_meaning.specs.Commits.{IsCommitOf}
use Rattle.hera_meaning.specs.Fits.{is_delta_of}
use Rattle.hera_meaning.specs.Hosts.{Hosts}
use Rattle.hera_code.specs.Forward.{Forward}
use Rattle.hera_code.specs.declared.instrs.Code.{Code}
use Rattle.hera_codegen.proofs.Forwards.{code_forward}
use Rattle.hera_steps.specs.declared.events.End.{End}
use Rattle.hera_steps.specs.Descends.{left}
use Rattle.hera_machine.specs.Over.{state_over}
use Rattle.hera_sessions.specs.Scanning.{scanned}
use Rattle.hera_sessions.specs.Sessions.{Task}
use Rattle.hera_sessions.specs.Weaving.{outcome_by, first_touch, closes_next, woven, AreTasks}
use Rattle.hera_weave.specs.declared.weave.WeaveEvent.{WeaveEvent}
use Rattle.hera_weave.specs.Seats.{Sitting}
use Rattle.hera_weave.specs.Standing.{IsAt, Stepped, given_of, outcome_in, commits_in}
use Rattle.hera_weave.specs.Looms.{Loom, state_behind, StandsFor, StandsForSome, seats_left}
use Rattle.hera_weave.proofs.Known.{front_known}
use Rattle.hera_weave.proofs.Sitting.{reads_known}
use Rattle.hera_weave.proofs.Looming.{Opened, opened, begun_is, at_begun, closes_none, stands_none, less_none, closes_some, stands_some, less_some, step_proper}

-- behind how many commits a session began is found, and what it reads of them
pub record Begun (all : List Delta) (a s : Sitting) (n : ℕ) (front : List Delta) : Type 0 where
  pub first : a.begun ≡ None → n ≡ length all
  pub later : (m : ℕ) → a.begun ≡ Some m → n ≡ m
  pub is : s ≡ record a { begun = Some n }
  pub fronted : front ≡ take n all

module _ (tasks : List Task) (hosts : Hosts) (base : State) (all : List Delta) (schedule : List ℕ) (w : Loom) (st : StandsFor tasks hosts base all schedule w) (i : ℕ) (a : Sitting) (there : slice_get w.seats i ≡ Some (Some a)) where
  abbrev op : Opened tasks hosts base all schedule w st i a
  op = opened tasks hosts base all schedule w st i a there

  pub began : (n : ℕ) → (a.begun ≡ None → n ≡ length all) → ((m : ℕ) → a.begun ≡ Some m → n ≡ m) → n ≡ w.start + op.begun
  began n first later = begun_is tasks hosts base all schedule w st i a op n first later

  pub began_within : (n : ℕ) → (a.begun ≡ None → n ≡ length all) → ((m : ℕ) → a.begun ≡ Some m → n ≡ m) → (w.start ≤ n) × (n ≤ length all)
  began_within n first later = let same : n ≡ w.start + op.begun = began n first later in (omega (arith, same), omega (arith, same, op.within))

  module _ (s : Sitting) (n : ℕ) (front : List Delta) (h : Begun all a s n front) where
    same_begun : n ≡ w.start + op.begun
    same_begun = began n h.first h.later

    pub stood : IsAt op.task hosts base (state_over base front) op.steps s
    stood = at_begun tasks hosts base all schedule w st i a op s n front h.is same_begun h.fronted

    -- what the step of the session asks
    pub may_step : (rels : List RelDecl) → AreTasks hosts rels tasks → All (IsCommitOf rels) all → (s.machine.waits ≡ None) × (s.machine.relations ≡ rels) × (list_all (is_delta_of rels) (given_of front s) ≡ true)
    may_step rels are proper =
        let mine : s.machine.relations ≡ rels = stood.rels_are ∙ are.relations i op.task op.there in
        (stood.taken, mine, reads_known op.task hosts base (state_over base front) op.steps s front rels stood mine (front_known rels n all front proper h.fronted))

    module _ (b : Sitting) (goes : (t : Task) (k : ℕ) → IsAt t hosts base (state_over base front) k s → IsAt t hosts base (state_over base front) (suc k) b) where
      pub told_quiet : None ≡ closes_next tasks (state_behind base all w.start) hosts i (woven tasks (state_behind base all w.start) hosts schedule)
      told_quiet = closes_none tasks hosts base all schedule w st i a op b n front same_begun h.fronted (goes op.task op.steps stood)

      pub stands_quiet : (m v : Loom) → b.begun ≡ s.begun → m ≡ record w { seats = set w.seats i None } → v ≡ record m { seats = set m.seats i (Some b) } → StandsFor tasks hosts base (all ++ []) (schedule ++ i ∷ []) v
      stands_quiet m v begun taken put =
          stands_none tasks hosts base all schedule w st i a op b n front v same_begun h.fronted (goes op.task op.steps stood) (begun ∙ ap (λ (x : Sitting). x.begun) h.is) there
          (ap (λ (x : Loom). x.start) put ∙ ap (λ (x : Loom). x.start) taken) (ap (λ (x : Loom). x.seats) put ∙ ap (λ (x : Loom). set x.seats i (Some b)) taken)

      pub less_quiet : (m v : Loom) → m ≡ record w { seats = set w.seats i None } → v ≡ record m { seats = set m.seats i (Some b) }
          → (Forward s.machine.code → left (length s.machine.code.instrs) b.machine.state < left (length s.machine.code.instrs) s.machine.state) → seats_left v.seats < seats_left w.seats
      less_quiet m v taken put less =
          let forward : Forward s.machine.code = subst (λ (c : Code). Forward c) (sym stood.code_is) (code_forward op.task.program) in
          less_none tasks hosts base all schedule w st i a op b (state_over base front) (suc op.steps) v (goes op.task op.steps stood) there (ap (λ (x : Loom). x.seats) put ∙ ap (λ (x : Loom). set x.seats i (Some b)) taken)
          (subst (λ (x : Sitting). left (length x.machine.code.instrs) b.machine.state < left (length x.machine.code.instrs) x.machine.state) h.is (less forward))

    module _ (b : Sitting) (e : Option End) (end : End) (some : e ≡ Some end) (goes : (t : Task) (k : ℕ) → IsAt t hosts base (state_over base front) k s → Stepped t hosts base (state_over base front) k b e)
        (number : ℕ) (since : List Delta) (r : Result WeaveEvent AllocError) (counted : number ≡ n - w.start + 1) (rest : since ≡ drop n all)
        (told : IfOk r (λ e. outcome_in e ≡ Some (outcome_by b.own b.text (first_touch (scanned b.code.instrs) number since)))) where
      pub told_closing : IfOk r (λ e. outcome_in e ≡ closes_next tasks (state_behind base all w.start) hosts i (woven tasks (state_behind base all w.start) hosts schedule))
      told_closing =
          let same : n ≡ w.start + op.begun = same_begun in
          let is : number ≡ suc op.begun = omega (arith, same, counted) in
          closes_some tasks hosts base all schedule w st i a op b n number front since end r same_begun h.fronted is rest
          (subst (λ (o : Option End). Stepped op.task hosts base (state_over base front) op.steps b o) some (goes op.task op.steps stood)) told

      pub stands_closing : (v : Loom) → v ≡ record w { seats = set w.seats i None } → IfOk r (λ e. StandsFor tasks hosts base (all ++ commits_in e) (schedule ++ i ∷ []) v)
      stands_closing v taken =
          stands_some tasks hosts base all schedule w st i a op r (outcome_by b.own b.text (first_touch (scanned b.code.instrs) number since)) v told told_closing there (ap (λ (x : Loom). x.start) taken) (ap (λ (x : Loom). x.seats) taken)

-- one session fewer is at work
pub less_closing : (r : Result WeaveEvent AllocError) (w v : Loom) (i : ℕ) (a : Sitting) → slice_get w.seats i ≡ Some (Some a) → v ≡ record w { seats = set w.seats i None } → OnOk r (seats_left v.seats < seats_left w.seats)
less_closing (Err x) w v i a there taken = tt
less_closing (Ok e) w v i a there taken = less_some w v i a there (ap (λ (x : Loom). x.seats) taken)

-- the commit of a step is one of the relations
pub proper_in : (hosts : Hosts) (rels : List RelDecl) (base : State) (all more : List Delta) (w v : Loom) (i : ℕ) (some : StandsForSome hosts rels base all w) → IsState rels base → All (IsCommitOf rels) all → v.start ≡ w.start
    → StandsFor some.tasks hosts base (all ++ more) (some.schedule ++ i ∷ []) v → All (IsCommitOf rels) more
proper_in hosts rels base all more w v i some valid proper start st =
    step_proper some.tasks hosts rels base all more (some.schedule ++ i ∷ []) w.start v some.are valid proper some.stands.long start st
