-- A weave with one step more, and what was carried out.
use Rattle.std.proofs.Common.{◌≡◌, ⊎_elim, ℕ, ◌+◌, ◌≤◌, ◌<◌, ◌%◌, Bool, true, false, ◌&&◌, not, List, [], ◌∷◌, ◌++◌, take, length, Option, None, Some, Result, Ok, Err, refl, sym, ap, ◌∙◌, subst, arith, append-nil}
use Rattle.std.specs.Prelude.{slice_get, get_or, All}
use Rattle.std.proofs.Math.Seq.{take-append-add}
use Rattle.std.specs.Io.KnownBytes.{Appends}
use Rattle.std.proofs.KnownBytes.{Appends-trans}
use Rattle.std.proofs.lemmas.List.{take_all, take-append-le}
use Rattle.std.proofs.lemmas.List.Elements.{All-append}
use Rattle.std.proofs.lemmas.Nat.{mod_below}
use Rattle.std.proofs.lemmas.Option.{none-some, slice_get-get_or}
use Rattle.hera_causes.specs.declared.traits.Output as output
use Rattle.hera_meaning.specs.Commits.{IsCommitOf}
use Rattle.hera_meaning.specs.Deltas.{Delta, State}
use Rattle.hera_meaning.specs.Hosts.{Hosts}
use Rattle.hera_meaning.specs.Worlds.{Event}
use Rattle.hera_meaning.specs.Run.{printed, state_after}
use Rattle.hera_machine.specs.Over.{state_over}
use Rattle.hera_machine.proofs.Along.{printed-append, state_after-append}
use Rattle.hera_sessions.specs.Sessions.{Task}
use Rattle.hera_sessions.specs.Weaving.{Outcome, committed, read, conflicted, is_open, woven, closes_next}
use Rattle.hera_sessions.specs.Turns.{open_from, IsOrdered}
use Rattle.rel_pages.specs.Stored.{Stored}
use Rattle.hera_volume.specs.Time.{Image, LeavesOnly}
use Rattle.hera_volume.specs.declared.outside.Outside as files
use Rattle.hera_volume.proofs.Moments.{leaves-weaker, leaves-on}
use Rattle.hera_store.specs.Databases.{Database}
use Rattle.hera_store.specs.Standing.{Standing, StandsFor as store_stands, database_of}
use Rattle.hera_outcome.specs.declared.answer.Stop.{Stop}
use Rattle.hera_outcome.specs.declared.answer.Stop.TheVariants.{Full}
use Rattle.hera_outcome.specs.Cut.{IsCut, HoldsWith, with_state}
use Rattle.hera_outcome.specs.Passages.{Passage, passage}
use Rattle.hera_outcome.specs.Told.{StopFaults}
use Rattle.hera_outcome.proofs.Passing.{faults_by}
use Rattle.hera_run.specs.Fitting.{fits, all_fit, gate_after, overfills}
use Rattle.hera_run.proofs.Cuts.{cut-longer, cut-behind}
use Rattle.hera_run.proofs.Fittings.{no_truth, gate_after-append, all_fit-append, true_or_false}
use Rattle.hera_weave.specs.Looms.{Loom, StandsFor, state_behind, is_none_in}
use Rattle.hera_weave.specs.Rotas.{Turn, IsDue}
use Rattle.hera_weave.proofs.Looming.{open_there}
use Rattle.hera_weave.proofs.Turning.{due_is_open, due_ordered}
use Rattle.hera_woven.specs.declared.keeping.Folder.{Folder}
use Rattle.hera_woven.specs.Going.{Carries, Plan, closing, events_of, events_next, IsBehind, IsCarriedOut, IsWoven, IsHeldUp}
use Rattle.hera_woven.proofs.Schedules.{weave_next}

empty_by : (xs : List ℕ) (n : ℕ) → slice_get xs (n % length xs) ≡ None → xs ≡ []
empty_by [] n h = refl
empty_by (x ∷ xs) n h =
    let some : 0 < length (x ∷ xs) = omega arith in
    absurd (none-some (get_or (x ∷ xs) (n % length (x ∷ xs)) 0) (sym h ∙ slice_get-get_or (x ∷ xs) (n % length (x ∷ xs)) 0 (mod_below n (length (x ∷ xs)) some)))

-- what a session does as it closes fits, where it does not begin with a store that does not
not_over_fits : (b : Bool) → not b ≡ false → (b && true) ≡ true
not_over_fits true is = refl
not_over_fits false is = absurd (no_truth (sym is))

closing_fits : (gate : Option ℕ) (s : State) (i : ℕ) (o : Option Outcome) → overfills gate (closing s i o) ≡ false → all_fit gate (closing s i o) ≡ true
closing_fits gate s i None h = refl
closing_fits gate s i (Some (committed text d)) h = not_over_fits (fits gate d) h
closing_fits gate s i (Some (read text)) h = refl
closing_fits gate s i (Some (conflicted k)) h = refl

abbrev err_of : (T : Type 0) → Stop → Result T Stop
err_of T stop = Err stop

full_is : (T : Type 0) (stop : Stop) → stop ≡ Full → err_of T stop ≡ err_of T Full
full_is T stop is = ap (λ (e : Stop). err_of T e) is

behind_same : (base : State) (all more : List Delta) (n : ℕ) → n ≤ length all → state_behind base (all ++ more) n ≡ state_behind base all n
behind_same base all more n le = ap (state_over base) (take-append-le n all more le)

module _ (hosts : Hosts) (plan : Plan) where
  abbrev tasks : List Task
  tasks = plan.tasks

  abbrev s0 : State
  s0 = plan.from.state

  abbrev done : List ℕ → List Event
  done schedule = events_of hosts plan schedule

  -- the events of one step more
  events_more : (schedule : List ℕ) (i : ℕ) → done (schedule ++ i ∷ []) ≡ done schedule ++ events_next hosts plan schedule i
  events_more schedule i = weave_next tasks s0 hosts schedule i

  module _ (schedule : List ℕ) (w : Loom) (r : Turn) (f : Folder) (b : IsBehind hosts plan schedule w r f) where
    abbrev commits : List Delta
    commits = f.commits.items

    abbrev own_start : State
    own_start = state_behind plan.base.state commits w.start

    -- ---- before the step

    pub seat_there : (i : ℕ) → slice_get r.opens (r.number % length r.opens) ≡ Some i → (i < length w.seats) × (is_none_in (slice_get w.seats i) ≡ false)
    seat_there i next =
        let ones = open_from 0 (woven tasks s0 hosts schedule).stages in
        let place : slice_get ones (r.number % length ones) ≡ Some i = subst (λ (l : List ℕ). slice_get l (r.number % length l) ≡ Some i) b.due.opens next in
        let opens = due_is_open (woven tasks s0 hosts schedule).stages (r.number % length ones) i place in
        open_there tasks hosts plan.base.state commits schedule w i b.weaves (subst (λ (s : State). is_open (slice_get (woven tasks s hosts schedule).stages i) ≡ true) (sym b.begins) opens)

    -- ---- the step

    -- what it tells
    pub told_here : (base : Stored) (ds : List Delta) → base ≡ f.store.base → ds ≡ commits → (i : ℕ) (o : Option Outcome)
        → ((ts : List Task) (sch : List ℕ) → StandsFor ts hosts base.state ds sch w → o ≡ closes_next ts (state_behind base.state ds w.start) hosts i (woven ts (state_behind base.state ds w.start) hosts sch)) → o ≡ closes_next tasks s0 hosts i (woven tasks s0 hosts schedule)
    told_here base ds same given i o told =
        let own : base ≡ plan.base = same ∙ b.base in
        let begins : state_behind base.state ds w.start ≡ s0 = ap (λ (x : Stored). state_behind x.state ds w.start) own ∙ ap (λ (l : List Delta). state_behind plan.base.state l w.start) given ∙ b.begins in
        told tasks schedule (subst (λ (x : Stored). StandsFor tasks hosts x.state ds schedule w) (sym own) (subst (λ (l : List Delta). StandsFor tasks hosts plan.base.state l schedule w) (sym given) b.weaves))
        ∙ ap (λ (s : State). closes_next tasks s hosts i (woven tasks s hosts schedule)) begins

    -- what the weave then stands for
    pub stands_on : (base : Stored) (ds more : List Delta) → base ≡ f.store.base → ds ≡ commits → (i : ℕ) (v : Loom)
        → ((ts : List Task) (sch : List ℕ) → StandsFor ts hosts base.state ds sch w → StandsFor ts hosts base.state (ds ++ more) (sch ++ i ∷ []) v) → StandsFor tasks hosts plan.base.state (commits ++ more) (schedule ++ i ∷ []) v
    stands_on base ds more same given i v stands =
        let own : base ≡ plan.base = same ∙ b.base in
        let first = stands tasks schedule (subst (λ (x : Stored). StandsFor tasks hosts x.state ds schedule w) (sym own) (subst (λ (l : List Delta). StandsFor tasks hosts plan.base.state l schedule w) (sym given) b.weaves)) in
        subst (λ (x : Stored). StandsFor tasks hosts x.state (commits ++ more) (schedule ++ i ∷ []) v) own (subst (λ (l : List Delta). StandsFor tasks hosts base.state (l ++ more) (schedule ++ i ∷ []) v) given first)

    pub proper_on : (base : Stored) (more : List Delta) → base ≡ f.store.base → All (IsCommitOf base.catalogue) more → All (IsCommitOf plan.base.catalogue) more
    proper_on base more same proper = subst (λ (x : Stored). All (IsCommitOf x.catalogue) more) (same ∙ b.base) proper

    -- and what is then done
    pub closing_is : (i : ℕ) (o : Option Outcome) → o ≡ closes_next tasks s0 hosts i (woven tasks s0 hosts schedule) → closing (database_of f.store).state i o ≡ events_next hosts plan schedule i
    closing_is i o told = ap (λ (db : Database). closing db.state i o) b.stored ∙ ap (closing (state_after s0 (done schedule)) i) told

    -- the step is in order
    step_ordered : (i : ℕ) → slice_get r.opens (r.number % length r.opens) ≡ Some i → IsOrdered tasks s0 hosts plan.order (schedule ++ i ∷ [])
    step_ordered i next =
        let w = woven tasks s0 hosts schedule in
        let ones = open_from 0 w.stages in
        let place : slice_get ones (r.number % length ones) ≡ Some i = subst (λ (l : List ℕ). slice_get l (r.number % length l) ≡ Some i) b.due.opens next in
        subst (λ (n : ℕ). IsOrdered tasks s0 hosts n (schedule ++ i ∷ [])) b.order (b.due.ordered (i ∷ []) (place, tt))

    -- ---- behind the step

    pub behind_next : {T : Type 0} (i : ℕ) (more : List Delta) (v : Loom) (t : Turn) (g : Folder) (x : T) (p : Passage)
        → StandsFor tasks hosts plan.base.state (commits ++ more) (schedule ++ i ∷ []) v → v.start ≡ w.start → v.failed ≡ false → All (IsCommitOf plan.base.catalogue) more → g.commits.items ≡ commits ++ more
        → IsDue tasks s0 hosts (schedule ++ i ∷ []) t → t.order ≡ r.order → Carries {T = T} (events_next hosts plan schedule i) f.store g.store (Ok x) p → IsBehind hosts plan (schedule ++ i ∷ []) v t g
    behind_next i more v t g x p weaves start works proper longer due order carried =
        let es = done schedule in
        let ns = events_next hosts plan schedule i in
        let gate : Some f.store.end ≡ gate_after (Some plan.gate) es = b.ends in
        record {
          are = b.are;
          base = carried.base ∙ b.base;
          unclosed = carried.unclosed;
          works = works;
          weaves = subst (λ (ds : List Delta). StandsFor tasks hosts plan.base.state ds (schedule ++ i ∷ []) v) (sym longer) weaves;
          begins = ap (λ (ds : List Delta). state_behind plan.base.state ds v.start) longer ∙ ap (state_behind plan.base.state (commits ++ more)) start ∙ behind_same plan.base.state commits more w.start b.weaves.long ∙ b.begins;
          proper = subst (λ (ds : List Delta). All (IsCommitOf plan.base.catalogue) ds) (sym longer) (All-append (IsCommitOf plan.base.catalogue) commits more b.proper proper);
          due = due;
          order = order ∙ b.order;
          stored = carried.kept ∙ ap (λ (db : Database). with_state db (state_after db.state ns)) b.stored ∙ ap (λ (s : State). with_state plan.from s) (sym (state_after-append s0 es ns) ∙ ap (state_after s0) (sym (events_more schedule i)));
          fit = ap (all_fit (Some plan.gate)) (events_more schedule i) ∙ all_fit-append (Some plan.gate) es ns b.fit ∙ ap (λ (o : Option ℕ). all_fit o ns) (sym gate) ∙ carried.fit;
          ends = carried.ends ∙ ap (λ (o : Option ℕ). gate_after o ns) gate ∙ sym (gate_after-append (Some plan.gate) es ns) ∙ ap (gate_after (Some plan.gate)) (sym (events_more schedule i));
        }

    module _ {D : Type 0} (q : output.Ghosts D) (k : files.Ghosts D) (a m c : D) (i : ℕ) (so_far : IsCarriedOut hosts plan schedule f.store (passage q k a m)) where
      abbrev es : List Event
      es = done schedule

      abbrev ns : List Event
      ns = events_next hosts plan schedule i

      abbrev all : List Event
      all = done (schedule ++ i ∷ [])

      -- a cut of the step is one of all
      step_cut : (image : Image) → IsCut ns (database_of f.store) (q.emitted m) image → IsCut all plan.from (q.emitted a) image
      step_cut image cut =
          let here : IsCut ns (with_state plan.from (state_after s0 es)) (q.emitted m) image = subst (λ (db : Database). IsCut ns db (q.emitted m) image) b.stored cut in
          subst (λ (l : List Event). IsCut l plan.from (q.emitted a) image) (sym (events_more schedule i)) (cut-behind (HoldsWith plan.from) es ns s0 (state_after s0 es) (q.emitted a) (q.emitted m) image so_far.said refl here)

      step_moments : (k.told → LeavesOnly k.moment k.left_since m c (IsCut ns (database_of f.store) (q.emitted m))) → k.told → LeavesOnly k.moment k.left_since a c (IsCut all plan.from (q.emitted a))
      step_moments only t =
          leaves-on k.moment k.left_since
          (leaves-weaker k.moment k.left_since (so_far.moments t) (λ image cut. cut-longer (HoldsWith plan.from) es ns all s0 (q.emitted a) image (sym (events_more schedule i)) cut))
          (only t) step_cut

      said_more : (l : List ℕ) → Appends (q.emitted m) (q.emitted c) l → Appends (q.emitted a) (q.emitted c) (printed es ++ l)
      said_more l said = Appends-trans _ _ _ _ _ so_far.said said

      pub carried_next : {T : Type 0} (x : T) (now : Standing) → Carries {T = T} ns f.store now (Ok x) (passage q k m c) → IsCarriedOut hosts plan (schedule ++ i ∷ []) now (passage q k a c)
      carried_next x now carried = record {
        said = subst (λ (l : List ℕ). Appends (q.emitted a) (q.emitted c) l) (sym (ap printed (events_more schedule i) ∙ printed-append es ns)) (said_more (printed ns) carried.whole);
        stands = carried.stands;
        moments = step_moments carried.moments;
        output = carried.faults.0 ∙ so_far.output;
        device = carried.faults.1 ∙ so_far.device;
      }

      pub held_up : {T : Type 0} (stop : Stop) (now : Standing) → slice_get r.opens (r.number % length r.opens) ≡ Some i → Carries {T = T} ns f.store now (Err stop) (passage q k m c) → IsHeldUp hosts plan now (passage q k a c) stop
      held_up {T} stop now next carried =
          let gate : Some f.store.end ≡ gate_after (Some plan.gate) es = b.ends in
          let faults : StopFaults stop (passage q k a c) = faults_by q k a m so_far.device so_far.output (err_of T stop) c carried.faults in
          ⊎_elim
          (λ (past : overfills (Some f.store.end) ns ≡ true).
          let still : c ≡ m = carried.idle past in
          let said : Appends (q.emitted a) (q.emitted c) (printed es) = subst (λ (d : D). Appends (q.emitted a) (q.emitted d) (printed es)) (sym still) so_far.said in
          record {
            schedule = schedule ++ i ∷ [];
            events = es;
            next = ns;
            ordered = step_ordered i next;
            reaches = sym (events_more schedule i);
            fit = b.fit;
            part = (length (printed es), subst (λ (l : List ℕ). Appends (q.emitted a) (q.emitted c) l) (sym (take_all (length (printed es)) (printed es) (omega arith))) said);
            moments = λ t. subst (λ (d : D). LeavesOnly k.moment k.left_since a d (IsCut es plan.from (q.emitted a))) (sym still) (so_far.moments t);
            faults = faults;
            full = λ is. record {
              past = ap (λ (o : Option ℕ). overfills o ns) (sym gate) ∙ past;
              said = said;
              stored = ap database_of (carried.unchanged (full_is T stop is)) ∙ b.stored;
              stands = λ t. subst (λ (s : Standing). store_stands (k.disk c) s) (sym (carried.unchanged (full_is T stop is))) (subst (λ (d : D). store_stands (k.disk d) f.store) (sym still) (so_far.stands t));
            };
          })
          (λ (within : overfills (Some f.store.end) ns ≡ false).
          let fit : all_fit (Some f.store.end) ns ≡ true = closing_fits (Some f.store.end) (state_after s0 es) i (closes_next tasks s0 hosts i (woven tasks s0 hosts schedule)) within in
          record {
            schedule = schedule ++ i ∷ [];
            events = all;
            next = [];
            ordered = step_ordered i next;
            reaches = append-nil all;
            fit = ap (all_fit (Some plan.gate)) (events_more schedule i) ∙ all_fit-append (Some plan.gate) es ns b.fit ∙ ap (λ (o : Option ℕ). all_fit o ns) (sym gate) ∙ fit;
            part = part_more carried.part;
            moments = step_moments carried.moments;
            faults = faults;
            full = λ is. absurd (no_truth (sym within ∙ carried.past (full_is T stop is)));
          })
          (true_or_false (overfills (Some f.store.end) ns))
        where
          part_more : ((n : ℕ) × Appends (q.emitted m) (q.emitted c) (take n (printed ns))) → (n : ℕ) × Appends (q.emitted a) (q.emitted c) (take n (printed all))
          part_more (n, said) = (
            length (printed es) + n,
            subst (λ (l : List ℕ). Appends (q.emitted a) (q.emitted c) l)
                (sym (ap (take (length (printed es) + n)) (ap printed (events_more schedule i) ∙ printed-append es ns) ∙ take-append-add (printed es) (printed ns) n))
                (said_more (take n (printed ns)) said),
          )

  -- none is due: all is done
  pub all_woven : (schedule : List ℕ) (w : Loom) (r : Turn) (f : Folder) (v : Passage) → IsBehind hosts plan schedule w r f → IsCarriedOut hosts plan schedule f.store v → slice_get r.opens (r.number % length r.opens) ≡ None → IsWoven hosts plan f.store v
  all_woven schedule w r f v b so_far none = record {
    schedule = schedule;
    whole = record {
      ordered = subst (λ (n : ℕ). IsOrdered tasks s0 hosts n schedule) b.order (due_ordered tasks s0 hosts schedule r b.due);
      closed = sym b.due.opens ∙ empty_by r.opens r.number none;
    };
    stored = b.stored;
    fit = b.fit;
    done = so_far;
  }
