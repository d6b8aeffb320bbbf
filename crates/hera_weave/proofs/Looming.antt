-- A weave that makes a step stands for the schedule with that step behind it.
use Rattle.std.proofs.Common.{◌≡◌, ◌↔◌, ◌⊎◌, inl, inr, ℕ, zero, suc, ◌+◌, ◌-◌, ◌≤◌, ◌<◌, true, false, List, [], ◌∷◌, ◌++◌, take, drop, length, map, set, replicate, Option, Some, None, refl, sym, ap, subst, ◌∙◌, arith, append-nil, length-drop, length-append}
use Rattle.std.specs.Prelude.{slice_get, nat_eq, Result, Ok, Err, IfOk, get_or, All}
use Rattle.std.proofs.lemmas.Bool.{cases_Bool, false≢true, eqb-true, eq-eqb}
use Rattle.std.proofs.lemmas.List.{take-append-le, drop-append-le, drop_at, drop_all, take_more}
use Rattle.std.proofs.lemmas.List.Elements.{All-take, All-drop}
use Rattle.std.proofs.lemmas.Option.{slice_get_read, slice_get_within, none-some}
use Rattle.std.specs.declared.alloc.AllocError.{AllocError}
use Rattle.hera_meaning.specs.declared.schemas.RelDecl.{RelDecl}
use Rattle.hera_meaning.specs.Deltas.{Delta, State, IsState, apply_of}
use Rattle.hera_meaning.specs.Commits.{IsCommitOf, after_all}
use Rattle.hera_meaning.proofs.CommitLaws.{state_after_all}
use Rattle.hera_meaning.specs.Hosts.{Hosts}
use Rattle.hera_code.specs.Reached.{code_at, start_of}
use Rattle.hera_code.specs.Scheme.{code_of}
use Rattle.hera_code.specs.declared.instrs.Code.{Code}
use Rattle.hera_steps.specs.declared.events.End.{End}
use Rattle.hera_steps.specs.Descends.{left}
use Rattle.hera_machine.specs.Over.{state_over}
use Rattle.hera_machine.specs.Standing.{machine_over}
use Rattle.hera_machine.specs.declared.events.Status.TheVariants.{Working}
use Rattle.hera_sessions.specs.Reads.{reads_of}
use Rattle.hera_sessions.specs.Scanning.{scanned}
use Rattle.hera_sessions.specs.Sessions.{Task}
use Rattle.hera_sessions.specs.Weaving.{Outcome, committed, read, conflicted, outcome_by, first_touch, stage_by, commits_by, after_told, told_by, told_next, steps_on, step_of, step_by, closes_by, closes_next, Stage, waiting, running, closed, set_stage, Woven, woven, AreTasks, is_open}
use Rattle.hera_sessions.proofs.Growing.{woven-push}
use Rattle.hera_sessions.proofs.Serially.{right}
use Rattle.hera_sessions.proofs.Scanned.{scanned_program}
use Rattle.hera_weave.specs.declared.weave.Session.{Session}
use Rattle.hera_weave.specs.declared.weave.WeaveEvent.{WeaveEvent}
use Rattle.hera_weave.specs.declared.weave.WeaveEvent.TheVariants.{Quiet, Commit, Read, Conflict}
use Rattle.hera_weave.specs.Seats.{Sitting}
use Rattle.hera_weave.specs.Standing.{IsAt, IsEnded, outcome_in, commits_in}
use Rattle.hera_weave.specs.Tasks.{HasCode, task_of}
use Rattle.hera_weave.proofs.Sitting.{at_start}
use Rattle.hera_weave.specs.Looms.{Loom, state_behind, SeatIs, StandsFor, IsFresh, AreFresh, is_none_in, seat_left, seats_left}

-- ---- states behind commits

over_after : (s : State) (ds : List Delta) → state_over s ds ≡ after_all s ds
over_after s [] = refl
over_after s (d ∷ ds) = over_after (apply_of s d) ds

over-append : (s : State) (ds es : List Delta) → state_over s (ds ++ es) ≡ state_over (state_over s ds) es
over-append s [] es = refl
over-append s (d ∷ ds) es = over-append (apply_of s d) ds es

abbrev nothing : List Delta
nothing = []

take_nil : (n : ℕ) → take n nothing ≡ []
take_nil zero = refl
take_nil (suc n) = refl

drop_nil : (n : ℕ) → drop n nothing ≡ []
drop_nil zero = refl
drop_nil (suc n) = refl

take_on : (m n : ℕ) (xs : List Delta) → take (m + n) xs ≡ take m xs ++ take n (drop m xs)
take_on zero n xs = let e : 0 + n ≡ n = omega arith in ap (λ (k : ℕ). take k xs) e
take_on (suc m) n [] = let e : suc m + n ≡ suc (m + n) = omega arith in ap (λ (k : ℕ). take k nothing) e ∙ sym (take_nil n)
take_on (suc m) n (x ∷ xs) = let e : suc m + n ≡ suc (m + n) = omega arith in ap (λ (k : ℕ). take k (x ∷ xs)) e ∙ ap (λ (l : List Delta). x ∷ l) (take_on m n xs)

drop_on : (m n : ℕ) (xs : List Delta) → drop n (drop m xs) ≡ drop (m + n) xs
drop_on zero n xs = let e : n ≡ 0 + n = omega arith in ap (λ (k : ℕ). drop k xs) e
drop_on (suc m) n [] = let e : suc (m + n) ≡ suc m + n = omega arith in drop_nil n ∙ ap (λ (k : ℕ). drop k nothing) e
drop_on (suc m) n (x ∷ xs) = let e : suc (m + n) ≡ suc m + n = omega arith in drop_on m n xs ∙ ap (λ (k : ℕ). drop k (x ∷ xs)) e

-- the state on which a session began
behind_is : (base : State) (all since : List Delta) (start begun : ℕ) → drop start all ≡ since → after_all (state_behind base all start) (take begun since) ≡ state_behind base all (start + begun)
behind_is base all since start begun is =
    ap (λ (l : List Delta). after_all (state_behind base all start) (take begun l)) (sym is)
    ∙ sym (over_after (state_behind base all start) (take begun (drop start all)))
    ∙ sym (over-append base (take start all) (take begun (drop start all)))
    ∙ ap (state_over base) (sym (take_on start begun all))

-- commits behind it change nothing
pub behind_more : (base : State) (all more : List Delta) (n : ℕ) → n ≤ length all → state_behind base (all ++ more) n ≡ state_behind base all n
behind_more base all more n within = ap (state_over base) (take-append-le n all more within)

-- ---- lists by place

set_there : {A : Type 0} (xs : List A) (i : ℕ) (x y : A) → slice_get xs i ≡ Some x → slice_get (set xs i y) i ≡ Some y
set_there [] i x y at = absurd (none-some x at)
set_there (z ∷ xs) zero x y at = refl
set_there (z ∷ xs) (suc i) x y at = set_there xs i x y at

set_elsewhere : {A : Type 0} (xs : List A) (i j : ℕ) (y : A) → (j ≡ i → ⊥) → slice_get (set xs i y) j ≡ slice_get xs j
set_elsewhere [] i j y other = refl
set_elsewhere (z ∷ xs) zero zero y other = absurd (other refl)
set_elsewhere (z ∷ xs) zero (suc j) y other = refl
set_elsewhere (z ∷ xs) (suc i) zero y other = refl
set_elsewhere (z ∷ xs) (suc i) (suc j) y other = set_elsewhere xs i j y (λ e. other (ap suc e))

set_again : {A : Type 0} (xs : List A) (i : ℕ) (y z : A) → set (set xs i y) i z ≡ set xs i z
set_again [] i y z = refl
set_again (x ∷ xs) zero y z = refl
set_again (x ∷ xs) (suc i) y z = ap (λ l. x ∷ l) (set_again xs i y z)

stage_set : (stages : List Stage) (i : ℕ) (g : Stage) → set_stage stages i g ≡ set stages i g
stage_set [] i g = refl
stage_set (h ∷ stages) zero g = refl
stage_set (h ∷ stages) (suc i) g = ap (λ (l : List Stage). h ∷ l) (stage_set stages i g)

-- ---- what is left

below_suc : (m n : ℕ) → m < n → suc m < suc n
below_suc m n h = omega (arith, h)

above_none : (n : ℕ) → 0 < suc n
above_none n = omega arith

below_left : (k m n : ℕ) → m < n → k + m < k + n
below_left k m n h = omega (arith, h)

below_right : (k m n : ℕ) → m < n → m + k < n + k
below_right k m n h = omega (arith, h)

abbrev or_none : Option (Option Sitting) → Option Sitting
or_none None = None
or_none (Some x) = x

left_set : (xs : List (Option Sitting)) (i : ℕ) (x y : Option Sitting) → slice_get xs i ≡ Some x → seat_left y < seat_left x → seats_left (set xs i y) < seats_left xs
left_set [] i x y at less = absurd (none-some x at)
left_set (z ∷ xs) zero x y at less =
    let same : z ≡ x = ap or_none at in
    below_right (seats_left xs) (seat_left y) (seat_left z) (subst (λ (o : Option Sitting). seat_left y < seat_left o) (sym same) less)
left_set (z ∷ xs) (suc i) x y at less = below_left (seat_left z) (seats_left (set xs i y)) (seats_left xs) (left_set xs i x y at less)

pub seat_there : (xs : List (Option Sitting)) (i : ℕ) (x y : Option Sitting) (a : Sitting) → i < length xs → x ≡ get_or xs i x → y ≡ x → y ≡ Some a → slice_get xs i ≡ Some (Some a)
seat_there xs i x y a lt h k r = slice_get_read xs (length xs) i x refl lt h ∙ ap (λ (o : Option Sitting). Some o) (sym k ∙ r)

-- ---- a step

module _ (tasks : List Task) (hosts : Hosts) (base : State) (all : List Delta) (schedule : List ℕ) (w : Loom) (st : StandsFor tasks hosts base all schedule w) (i : ℕ) (a : Sitting) where
  abbrev first : State
  first = state_behind base all w.start

  abbrev now : Woven
  now = woven tasks first hosts schedule

  -- an open session, behind how many commits it began and how many steps it made
  pub record Opened : Type 0 where
    pub task : Task
    pub there : slice_get tasks i ≡ Some task
    pub stage : Stage
    pub staged : slice_get now.stages i ≡ Some stage
    pub begun : ℕ
    pub steps : ℕ
    pub within : w.start + begun ≤ length all
    pub at : IsAt task hosts base (state_behind base all (w.start + begun)) steps a
    pub begins : ((a.begun ≡ None) × (w.start + begun ≡ length all)) ⊎ (a.begun ≡ Some (w.start + begun))
    pub closes : closes_next tasks first hosts i now ≡ told_next tasks first hosts task now.commits begun steps
    pub moves : step_of tasks first hosts i now ≡ steps_on tasks first hosts i task begun steps now

  opened_by : (o : Option Task) (g : Option Stage) (x : Option (Option Sitting)) → slice_get tasks i ≡ o → slice_get now.stages i ≡ g → SeatIs hosts base all w.start o g x → x ≡ Some (Some a) → Opened
  opened_by None None None e f is at = absurd cc
  opened_by (Some t) (Some closed) (Some None) e f is at = absurd (let no : None ≡ Some a = cc in cc)
  opened_by (Some t) (Some waiting) (Some (Some b)) e f is at =
      let same : b ≡ a = cc in
      let long : length now.commits ≡ length all - w.start = ap (λ (l : List Delta). length l) (sym st.commits) ∙ length-drop w.start all in
      let full : w.start + length now.commits ≡ length all = omega (arith, long, st.long) in
      record {
        task = t;
        there = e;
        stage = waiting;
        staged = f;
        begun = length now.commits;
        steps = 0;
        within = omega (arith, full);
        at = subst (λ (c : Sitting). IsAt t hosts base (state_behind base all (w.start + length now.commits)) 0 c) same (is.0 _);
        begins = inl (ap (λ (c : Sitting). c.begun) (sym same) ∙ is.1, full);
        closes = (λ j. closes_by tasks first hosts (e j) (f j) now);
        moves = (λ j. step_by tasks first hosts i (e j) (f j) now);
      }
  opened_by (Some t) (Some (running begun steps)) (Some (Some b)) e f is at =
      let same : b ≡ a = cc in
      record {
        task = t;
        there = e;
        stage = running begun steps;
        staged = f;
        begun = begun;
        steps = steps;
        within = is.2;
        at = subst (λ (c : Sitting). IsAt t hosts base (state_behind base all (w.start + begun)) steps c) same is.0;
        begins = inr (ap (λ (c : Sitting). c.begun) (sym same) ∙ is.1);
        closes = (λ j. closes_by tasks first hosts (e j) (f j) now);
        moves = (λ j. step_by tasks first hosts i (e j) (f j) now);
      }
  opened_by _ _ _ e f is at = absurd is

  pub opened : slice_get w.seats i ≡ Some (Some a) → Opened
  opened at = opened_by (slice_get tasks i) (slice_get now.stages i) (slice_get w.seats i) refl refl (st.seats i) at

  -- it began behind the number that is found
  pub begun_is : (o : Opened) (n : ℕ) → (a.begun ≡ None → n ≡ length all) → ((m : ℕ) → a.begun ≡ Some m → n ≡ m) → n ≡ w.start + o.begun
  begun_is o n first later = by o.begins
    where
      by : ((a.begun ≡ None) × (w.start + o.begun ≡ length all)) ⊎ (a.begun ≡ Some (w.start + o.begun)) → n ≡ w.start + o.begun
      by (inl h) = first h.0 ∙ sym h.1
      by (inr h) = later (w.start + o.begun) h

  -- as it begins, it stands where it stood
  pub at_begun : (o : Opened) (b : Sitting) (n : ℕ) (front : List Delta) → b ≡ record a { begun = Some n } → n ≡ w.start + o.begun → front ≡ take n all → IsAt o.task hosts base (state_over base front) o.steps b
  at_begun o b n front is same taken =
      subst (λ (b : Sitting). IsAt o.task hosts base (state_over base front) o.steps b) (sym is)
      (subst (λ (l : List Delta). IsAt o.task hosts base (state_over base l) o.steps (record a { begun = Some n })) (sym taken)
      (subst (λ (k : ℕ). IsAt o.task hosts base (state_over base (take k all)) o.steps (record a { begun = Some n })) (sym same) (record {
        events = o.at.events;
        works = o.at.works;
        taken = o.at.taken;
        own_code = o.at.own_code;
        code_is = o.at.code_is;
        rels_are = o.at.rels_are;
        goes_on = o.at.goes_on;
        said = o.at.said;
        stored = o.at.stored;
        reads = o.at.reads;
        known = o.at.known;
      })))

  began_at : (o : Opened) (n k : ℕ) (front : List Delta) (b : Sitting) → n ≡ w.start + o.begun → front ≡ take n all → IsAt o.task hosts base (state_over base front) k b → IsAt o.task hosts base (state_behind base all (w.start + o.begun)) k b
  began_at o n k front b same taken at =
      subst (λ (j : ℕ). IsAt o.task hosts base (state_over base (take j all)) k b) same (subst (λ (l : List Delta). IsAt o.task hosts base (state_over base l) k b) taken at)

  -- a step that does not end the code closes nothing
  told_none : (o : Opened) (b : Sitting) → IsAt o.task hosts base (state_behind base all (w.start + o.begun)) (suc o.steps) b → closes_next tasks first hosts i now ≡ None
  told_none o b at =
      let one : suc o.steps ≡ suc o.steps + 0 = omega arith in
      o.closes ∙ ap (told_by o.task now.commits o.begun)
      (ap (λ (s : State). code_at (code_of o.task.program) o.task.program.relations s hosts o.task.turns (suc o.steps)) (behind_is base all now.commits w.start o.begun st.commits)
      ∙ ap (λ (k : ℕ). code_at (code_of o.task.program) o.task.program.relations (state_behind base all (w.start + o.begun)) hosts o.task.turns k) one ∙ at.goes_on 0)

  -- one that ends it closes the session so
  told_some : (o : Opened) (b : Sitting) (end : End) → IsEnded o.task hosts (state_behind base all (w.start + o.begun)) (suc o.steps) end b
      → closes_next tasks first hosts i now ≡ Some (outcome_by b.own b.text (first_touch (scanned b.code.instrs) (suc o.begun) (drop (w.start + o.begun) all)))
  told_some o b end is =
      o.closes ∙ ap (told_by o.task now.commits o.begun)
      (ap (λ (s : State). code_at (code_of o.task.program) o.task.program.relations s hosts o.task.turns (suc o.steps)) (behind_is base all now.commits w.start o.begun st.commits) ∙ is.ends)
      ∙ (λ j. Some (outcome_by (is.stored j) (is.said j) (first_touch (reads_of o.task.program) (suc o.begun) (drop o.begun (sym st.commits j)))))
      ∙ ap (λ (l : List Delta). Some (outcome_by b.own b.text (first_touch (reads_of o.task.program) (suc o.begun) l))) (drop_on w.start o.begun all)
      ∙ ap (λ (rs : List ℕ). Some (outcome_by b.own b.text (first_touch rs (suc o.begun) (drop (w.start + o.begun) all)))) (sym (scanned_program o.task.program) ∙ ap (λ (c : Code). scanned c.instrs) (sym is.own_code))

  -- ---- the weave behind it

  -- the seats of the others are as they were
  seat_on : (more : List Delta) (o : Option Task) (g : Option Stage) (x : Option (Option Sitting)) → SeatIs hosts base all w.start o g x → SeatIs hosts base (all ++ more) w.start o g x
  seat_on more None None None is = tt
  seat_on more (Some t) (Some closed) (Some None) is = tt
  seat_on more (Some t) (Some waiting) (Some (Some b)) is = is
  seat_on more (Some t) (Some (running begun steps)) (Some (Some b)) is =
      let long : length (all ++ more) ≡ length all + length more = length-append all more in (
        subst (λ (s : State). IsAt t hosts base s steps b) (sym (behind_more base all more (w.start + begun) is.2)) is.0,
        is.1,
        omega (arith, long, is.2),
      )
  seat_on more _ _ _ is = absurd is

  -- behind a step at which the session closes so or does not, and which adds these commits
  on_step : (o : Opened) (closing : Option Outcome) (more : List Delta) (x : Option Sitting) (v : Loom) → closes_next tasks first hosts i now ≡ closing → commits_by [] closing ≡ more
      → SeatIs hosts base (all ++ more) w.start (Some o.task) (Some (stage_by o.begun (suc o.steps) closing)) (Some x) → v.start ≡ w.start → v.seats ≡ set w.seats i x → slice_get w.seats i ≡ Some (Some a)
      → StandsFor tasks hosts base (all ++ more) (schedule ++ i ∷ []) v
  on_step o closing more x v closes adds is start seats taken =
      let long : length (all ++ more) ≡ length all + length more = length-append all more in
      let from : state_behind base (all ++ more) v.start ≡ first = ap (state_behind base (all ++ more)) start ∙ behind_more base all more w.start st.long in
      let next : Woven = after_told i o.begun (suc o.steps) closing now in
      let told : told_next tasks first hosts o.task now.commits o.begun o.steps ≡ closing = sym o.closes ∙ closes in
      let goes : woven tasks (state_behind base (all ++ more) v.start) hosts (schedule ++ i ∷ []) ≡ next =
      ap (λ (s : State). woven tasks s hosts (schedule ++ i ∷ [])) from ∙ woven-push tasks first hosts schedule i ∙ o.moves ∙ ap (λ (c : Option Outcome). after_told i o.begun (suc o.steps) c now) told in
      record {
        long = omega (arith, long, start, st.long);
        commits = ap (λ (n : ℕ). drop n (all ++ more)) start ∙ drop-append-le w.start all more st.long ∙ ap (λ (l : List Delta). l ++ more) st.commits ∙ added closing more adds ∙ ap (λ (u : Woven). u.commits) (sym goes);
        seats = λ j. subst (λ (u : Woven). SeatIs hosts base (all ++ more) v.start (slice_get tasks j) (slice_get u.stages j) (slice_get v.seats j)) (sym goes)
            (subst (λ (n : ℕ). SeatIs hosts base (all ++ more) n (slice_get tasks j) (slice_get next.stages j) (slice_get v.seats j)) (sym start)
            (subst (λ (l : List (Option Sitting)). SeatIs hosts base (all ++ more) w.start (slice_get tasks j) (slice_get next.stages j) (slice_get l j)) (sym seats) (seat_at j)));
      }
    where
      added : (c : Option Outcome) (ds : List Delta) → commits_by [] c ≡ ds → now.commits ++ ds ≡ commits_by now.commits c
      added None ds e = ap (λ (l : List Delta). now.commits ++ l) (sym e) ∙ append-nil now.commits
      added (Some c) ds e = ap (λ (l : List Delta). now.commits ++ l) (sym e)

      by : (j : ℕ) → (nat_eq j i ≡ true) ⊎ (nat_eq j i ≡ false) → SeatIs hosts base (all ++ more) w.start (slice_get tasks j) (slice_get (set now.stages i (stage_by o.begun (suc o.steps) closing)) j) (slice_get (set w.seats i x) j)
      by j (inl same) =
          let g : Stage = stage_by o.begun (suc o.steps) closing in
          let e : j ≡ i = eqb-true j i same in
          subst (λ (n : ℕ). SeatIs hosts base (all ++ more) w.start (slice_get tasks n) (slice_get (set now.stages i g) n) (slice_get (set w.seats i x) n)) (sym e)
          (subst (λ (t : Option Task). SeatIs hosts base (all ++ more) w.start t (slice_get (set now.stages i g) i) (slice_get (set w.seats i x) i)) (sym o.there)
          (subst (λ (h : Option Stage). SeatIs hosts base (all ++ more) w.start (Some o.task) h (slice_get (set w.seats i x) i)) (sym (set_there now.stages i o.stage g o.staged))
          (subst (λ (y : Option (Option Sitting)). SeatIs hosts base (all ++ more) w.start (Some o.task) (Some g) y) (sym (set_there w.seats i (Some a) x taken)) is)))
      by j (inr differ) =
          let g : Stage = stage_by o.begun (suc o.steps) closing in
          let other : j ≡ i → ⊥ = λ e. false≢true (sym differ ∙ eq-eqb j i e) in
          subst (λ (h : Option Stage). SeatIs hosts base (all ++ more) w.start (slice_get tasks j) h (slice_get (set w.seats i x) j)) (sym (set_elsewhere now.stages i j g other))
          (subst (λ (y : Option (Option Sitting)). SeatIs hosts base (all ++ more) w.start (slice_get tasks j) (slice_get now.stages j) y) (sym (set_elsewhere w.seats i j x other))
          (seat_on more (slice_get tasks j) (slice_get now.stages j) (slice_get w.seats j) (st.seats j)))

      seat_at : (j : ℕ) → SeatIs hosts base (all ++ more) w.start (slice_get tasks j) (slice_get (set_stage now.stages i (stage_by o.begun (suc o.steps) closing)) j) (slice_get (set w.seats i x) j)
      seat_at j =
          subst (λ (l : List Stage). SeatIs hosts base (all ++ more) w.start (slice_get tasks j) (slice_get l j) (slice_get (set w.seats i x) j)) (sym (stage_set now.stages i (stage_by o.begun (suc o.steps) closing))) (by j (cases_Bool (nat_eq j i)))

  -- ---- a session that goes on, and one that closes

  pub closes_none : (o : Opened) (b : Sitting) (n : ℕ) (front : List Delta) → n ≡ w.start + o.begun → front ≡ take n all → IsAt o.task hosts base (state_over base front) (suc o.steps) b → None ≡ closes_next tasks first hosts i now
  closes_none o b n front same taken at = sym (told_none o b (began_at o n (suc o.steps) front b same taken at))

  pub stands_none : (o : Opened) (b : Sitting) (n : ℕ) (front : List Delta) (v : Loom) → n ≡ w.start + o.begun → front ≡ take n all → IsAt o.task hosts base (state_over base front) (suc o.steps) b → b.begun ≡ Some n
      → slice_get w.seats i ≡ Some (Some a) → v.start ≡ w.start → v.seats ≡ set (set w.seats i None) i (Some b) → StandsFor tasks hosts base (all ++ []) (schedule ++ i ∷ []) v
  stands_none o b n front v same taken at begun there start seats =
      let here = began_at o n (suc o.steps) front b same taken at in
      let long : length (all ++ nothing) ≡ length all = ap (λ (l : List Delta). length l) (append-nil all) in
      on_step o None nothing (Some b) v (told_none o b here) refl (
        subst (λ (l : List Delta). IsAt o.task hosts base (state_behind base l (w.start + o.begun)) (suc o.steps) b) (sym (append-nil all)) here,
        begun ∙ ap (λ (k : ℕ). Some k) same,
        omega (arith, long, o.within),
      ) start (seats ∙ set_again w.seats i None (Some b)) there

  pub less_none : (o : Opened) (b : Sitting) (s : State) (k : ℕ) (v : Loom) → IsAt o.task hosts base s k b → slice_get w.seats i ≡ Some (Some a) → v.seats ≡ set (set w.seats i None) i (Some b)
      → left (length a.machine.code.instrs) b.machine.state < left (length a.machine.code.instrs) a.machine.state → seats_left v.seats < seats_left w.seats
  less_none o b s k v at there seats less =
      let code : b.machine.code ≡ a.machine.code = at.code_is ∙ sym o.at.code_is in
      let own : seat_left (Some b) < seat_left (Some a) =
      (let mine : left (length b.machine.code.instrs) b.machine.state < left (length a.machine.code.instrs) a.machine.state =
      subst (λ (c : Code). left (length c.instrs) b.machine.state < left (length a.machine.code.instrs) a.machine.state) (sym code) less in
      below_suc (left (length b.machine.code.instrs) b.machine.state) (left (length a.machine.code.instrs) a.machine.state) mine) in
      subst (λ (l : List (Option Sitting)). seats_left l < seats_left w.seats) (sym (seats ∙ set_again w.seats i None (Some b))) (left_set w.seats i (Some a) (Some b) there own)

  pub closes_some : (o : Opened) (b : Sitting) (n number : ℕ) (front since : List Delta) (end : End) (r : Result WeaveEvent AllocError) → n ≡ w.start + o.begun → front ≡ take n all → number ≡ suc o.begun → since ≡ drop n all
      → IsEnded o.task hosts (state_over base front) (suc o.steps) end b
      → IfOk r (λ e. outcome_in e ≡ Some (outcome_by b.own b.text (first_touch (scanned b.code.instrs) number since))) → IfOk r (λ e. outcome_in e ≡ closes_next tasks first hosts i now)
  closes_some o b n number front since end (Err x) same taken is rest ended told = tt
  closes_some o b n number front since end (Ok e) same taken is rest ended told =
      told
      ∙ ap (λ (k : ℕ). Some (outcome_by b.own b.text (first_touch (scanned b.code.instrs) k since))) is
      ∙ ap (λ (ds : List Delta). Some (outcome_by b.own b.text (first_touch (scanned b.code.instrs) (suc o.begun) ds))) (rest ∙ ap (λ (k : ℕ). drop k all) same)
      ∙ sym (told_some o b end
      (subst (λ (k : ℕ). IsEnded o.task hosts (state_over base (take k all)) (suc o.steps) end b) same (subst (λ (l : List Delta). IsEnded o.task hosts (state_over base l) (suc o.steps) end b) taken ended)))

  stands_by : (o : Opened) (e : WeaveEvent) (c : Outcome) (v : Loom) → outcome_in e ≡ closes_next tasks first hosts i now → outcome_in e ≡ Some c → slice_get w.seats i ≡ Some (Some a) → v.start ≡ w.start → v.seats ≡ set w.seats i None
      → StandsFor tasks hosts base (all ++ commits_in e) (schedule ++ i ∷ []) v
  stands_by o Quiet c v told some there start seats = absurd (none-some c some)
  stands_by o (Commit d text) c v told some there start seats = on_step o (Some (committed text d)) (d ∷ []) None v (sym told) refl tt start seats there
  stands_by o (Read text) c v told some there start seats = on_step o (Some (read text)) nothing None v (sym told) refl tt start seats there
  stands_by o (Conflict k text) c v told some there start seats = on_step o (Some (conflicted k)) nothing None v (sym told) refl tt start seats there

  pub stands_some : (o : Opened) (r : Result WeaveEvent AllocError) (c : Outcome) (v : Loom) → IfOk r (λ e. outcome_in e ≡ Some c) → IfOk r (λ e. outcome_in e ≡ closes_next tasks first hosts i now) → slice_get w.seats i ≡ Some (Some a)
      → v.start ≡ w.start → v.seats ≡ set w.seats i None → IfOk r (λ e. StandsFor tasks hosts base (all ++ commits_in e) (schedule ++ i ∷ []) v)
  stands_some o (Err x) c v some told there start seats = tt
  stands_some o (Ok e) c v some told there start seats = stands_by o e c v told some there start seats

pub less_some : (w v : Loom) (i : ℕ) (a : Sitting) → slice_get w.seats i ≡ Some (Some a) → v.seats ≡ set w.seats i None → seats_left v.seats < seats_left w.seats
less_some w v i a there seats =
    let own : seat_left None < seat_left (Some a) = above_none (left (length a.machine.code.instrs) a.machine.state) in
    subst (λ (l : List (Option Sitting)). seats_left l < seats_left w.seats) (sym seats) (left_set w.seats i (Some a) None there own)

-- ---- the commits of a step

pub step_proper : (tasks : List Task) (hosts : Hosts) (rels : List RelDecl) (base : State) (all more : List Delta) (schedule : List ℕ) (start : ℕ) (v : Loom) → AreTasks hosts rels tasks → IsState rels base → All (IsCommitOf rels) all
    → start ≤ length all → v.start ≡ start → StandsFor tasks hosts base (all ++ more) schedule v → All (IsCommitOf rels) more
step_proper tasks hosts rels base all more schedule start v are valid proper within same st =
    let s : State = state_behind base (all ++ more) v.start in
    let s_is : s ≡ after_all base (take start all) = ap (state_behind base (all ++ more)) same ∙ behind_more base all more start within ∙ over_after base (take start all) in
    let s_valid : IsState rels s = subst (λ (u : State). IsState rels u) (sym s_is) (state_after_all rels base (take start all) valid (All-take (IsCommitOf rels) start all proper)) in
    let good : All (IsCommitOf rels) (drop v.start (all ++ more)) = subst (λ (l : List Delta). All (IsCommitOf rels) l) (sym st.commits) (right tasks rels s hosts are s_valid schedule).good in
    let rest : length all - start + v.start ≡ length all = omega (arith, within, same) in
    let at : v.start + (length all - start) ≡ length all = omega (arith, rest) in
    let is : drop (length all - start) (drop v.start (all ++ more)) ≡ more = drop_on v.start (length all - start) (all ++ more) ∙ ap (λ (n : ℕ). drop n (all ++ more)) at ∙ drop_at all more (length all) refl in
    subst (λ (l : List Delta). All (IsCommitOf rels) l) is (All-drop (IsCommitOf rels) (length all - start) (drop v.start (all ++ more)) good)

-- ---- a new weave

pub fresh_by : (x : Session) (r : Result Sitting AllocError) (rels : List RelDecl) → HasCode x → rels ≡ (task_of x).program.relations → IfOk r (λ s. s.code ≡ x.code.now) → IfOk r (λ s. s.machine.code ≡ x.code.now) → IfOk r (λ s. s.machine.relations ≡ rels)
    → IfOk r (λ s. (u : State) → machine_over u s.machine ≡ start_of x.code.now x.turns) → IfOk r (λ s. s.machine.status ≡ Working) → IfOk r (λ s. s.machine.waits ≡ None) → IfOk r (λ s. s.begun ≡ None)
    → IfOk r (λ s. s.own ≡ []) → IfOk r (λ s. s.levels ≡ []) → IfOk r (λ s. s.text ≡ []) → IfOk r (IsFresh x)
fresh_by x (Err e) rels has are code mcode relations start works waits begun own levels text = tt
fresh_by x (Ok s) rels has are code mcode relations start works waits begun own levels text = record {
  at = λ hosts base u. at_start (task_of x) hosts base u s (code ∙ has) (mcode ∙ has) (relations ∙ are) (λ v. start v ∙ ap (λ (k : Code). start_of k x.turns) has) works waits own levels text;
  begun = begun;
}

fresh_push : (xs : List Session) (ys : List (Option Sitting)) (x : Session) (a : Sitting) → AreFresh xs ys → IsFresh x a → AreFresh (xs ++ x ∷ []) (ys ++ Some a ∷ [])
fresh_push [] [] x a h is = (is, tt)
fresh_push [] (y ∷ ys) x a h is = absurd h
fresh_push (z ∷ xs) [] x a h is = absurd h
fresh_push (z ∷ xs) (None ∷ ys) x a h is = absurd h
fresh_push (z ∷ xs) (Some b ∷ ys) x a h is = (h.0, fresh_push xs ys x a h.1 is)

pub fresh_more : (xs : List Session) (k : ℕ) (x : Session) (ys : List (Option Sitting)) (a : Sitting) → k < length xs → x ≡ get_or xs k x → AreFresh (take k xs) ys → IsFresh x a → AreFresh (take (k + 1) xs) (ys ++ Some a ∷ [])
fresh_more xs k x ys a lt at h is =
    subst (λ (l : List Session). AreFresh l (ys ++ Some a ∷ [])) (sym (take_more xs k x lt ∙ ap (λ (y : Session). take k xs ++ y ∷ []) (sym at))) (fresh_push (take k xs) ys x a h is)

pub fresh_long : (xs : List Session) (ys : List (Option Sitting)) → AreFresh xs ys → length ys ≡ length xs
fresh_long [] [] h = refl
fresh_long [] (y ∷ ys) h = absurd h
fresh_long (x ∷ xs) [] h = absurd h
fresh_long (x ∷ xs) (None ∷ ys) h = absurd h
fresh_long (x ∷ xs) (Some b ∷ ys) h = ap suc (fresh_long xs ys h.1)

fresh_seats : (hosts : Hosts) (base : State) (all : List Delta) (start : ℕ) (xs : List Session) (ys : List (Option Sitting)) (i : ℕ) → AreFresh xs ys
    → SeatIs hosts base all start (slice_get (map task_of xs) i) (slice_get (replicate (length (map task_of xs)) waiting) i) (slice_get ys i)
fresh_seats hosts base all start [] [] i h = tt
fresh_seats hosts base all start [] (y ∷ ys) i h = absurd h
fresh_seats hosts base all start (x ∷ xs) [] i h = absurd h
fresh_seats hosts base all start (x ∷ xs) (None ∷ ys) i h = absurd h
fresh_seats hosts base all start (x ∷ xs) (Some b ∷ ys) zero h = (λ s. h.0.at hosts base s, h.0.begun)
fresh_seats hosts base all start (x ∷ xs) (Some b ∷ ys) (suc i) h = fresh_seats hosts base all start xs ys i h.1

pub stands_new : (hosts : Hosts) (base : State) (all : List Delta) (xs : List Session) (w : Loom) → AreFresh xs w.seats → length all ≡ w.start → StandsFor (map task_of xs) hosts base all [] w
stands_new hosts base all xs w h long =
    let within : length all ≤ w.start = omega (arith, long) in
    record {
      long = omega (arith, long);
      commits = drop_all w.start all within;
      seats = λ i. fresh_seats hosts base all w.start xs w.seats i h;
    }

-- ---- whether a session has closed

abbrev ClosedIff : Option (Option Sitting) → Option Stage → Type 0
ClosedIff x g = (is_none_in x ≡ true) ↔ (g ≡ Some closed)

closed_by : (hosts : Hosts) (base : State) (all : List Delta) (start : ℕ) (o : Option Task) (g : Option Stage) (x : Option (Option Sitting)) → SeatIs hosts base all start o g x → ClosedIff x g
closed_by hosts base all start None None None is = ((λ e. absurd (false≢true e)), (λ e. absurd (none-some closed e)))
closed_by hosts base all start (Some t) (Some closed) (Some None) is = ((λ e. refl), (λ e. refl))
closed_by hosts base all start (Some t) (Some waiting) (Some (Some a)) is = ((λ e. absurd (false≢true e)), (λ e. absurd (false≢true (sym (ap is_open e)))))
closed_by hosts base all start (Some t) (Some (running begun steps)) (Some (Some a)) is = ((λ e. absurd (false≢true e)), (λ e. absurd (false≢true (sym (ap is_open e)))))
closed_by hosts base all start _ _ _ is = absurd is

pub closed_there : (tasks : List Task) (hosts : Hosts) (base : State) (all : List Delta) (schedule : List ℕ) (w : Loom) (i : ℕ) → StandsFor tasks hosts base all schedule w
    → (is_none_in (slice_get w.seats i) ≡ true) ↔ (slice_get (woven tasks (state_behind base all w.start) hosts schedule).stages i ≡ Some closed)
closed_there tasks hosts base all schedule w i st =
    closed_by hosts base all w.start (slice_get tasks i) (slice_get (woven tasks (state_behind base all w.start) hosts schedule).stages i) (slice_get w.seats i) (st.seats i)

-- an open session has its seat
pub open_seat : (hosts : Hosts) (base : State) (all : List Delta) (start : ℕ) (o : Option Task) (g : Option Stage) (x : Option (Option Sitting)) → SeatIs hosts base all start o g x → is_open g ≡ true → (a : Sitting) × (x ≡ Some (Some a))
open_seat hosts base all start (Some t) (Some waiting) (Some (Some a)) is h = (a, refl)
open_seat hosts base all start (Some t) (Some (running begun steps)) (Some (Some a)) is h = (a, refl)
open_seat hosts base all start (Some t) (Some closed) (Some None) is h = absurd (false≢true h)
open_seat hosts base all start None None None is h = absurd (false≢true h)
open_seat hosts base all start _ _ _ is h = absurd is

pub open_there : (tasks : List Task) (hosts : Hosts) (base : State) (all : List Delta) (schedule : List ℕ) (w : Loom) (i : ℕ) → StandsFor tasks hosts base all schedule w
    → is_open (slice_get (woven tasks (state_behind base all w.start) hosts schedule).stages i) ≡ true → (i < length w.seats) × (is_none_in (slice_get w.seats i) ≡ false)
open_there tasks hosts base all schedule w i st h =
    let seat = open_seat hosts base all w.start (slice_get tasks i) (slice_get (woven tasks (state_behind base all w.start) hosts schedule).stages i) (slice_get w.seats i) (st.seats i) h in
    (slice_get_within w.seats i (Some seat.0) seat.1, ap is_none_in seat.1)
