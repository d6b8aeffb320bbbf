-- Where the code stands, as a machine is moved over a store.
use Rattle.std.proofs.Common.{◌≡◌, ℕ, suc, ◌+◌, true, false, List, [], ◌∷◌, ◌++◌, take, length, Option, None, Some, refl, sym, ap, ◌∙◌, subst, arith, append-nil, zero-add}
use Rattle.std.proofs.Math.Seq.{take-append-add}
use Rattle.std.specs.Io.KnownBytes.{Appends}
use Rattle.std.proofs.KnownBytes.{Appends-nil, Appends-trans}
use Rattle.hera_meaning.specs.declared.schemas.RelDecl.{RelDecl}
use Rattle.hera_meaning.specs.Deltas.{Delta, State, apply_of, is_fail, IsDeltaOf}
use Rattle.hera_meaning.specs.Hosts.{Hosts}
use Rattle.hera_meaning.specs.Printed.{commit_text}
use Rattle.hera_meaning.specs.Worlds.{Event, out, store}
use Rattle.hera_meaning.specs.Run.{printed, state_after, finished, stopped, out_of_turns}
use Rattle.hera_code.specs.declared.instrs.Code.{Code}
use Rattle.hera_code.specs.Machine.{Machine, Step, quiet, says, commits, ends, Stop, ended, stuck, code_step}
use Rattle.hera_code.specs.Reached.{still, after_step, stores, with_line, exec_code, code_at, start_of}
use Rattle.hera_guard.specs.Guarded.{guarded, passes}
use Rattle.hera_code.specs.Forward.{Forward}
use Rattle.hera_codegen.specs.Correct.{events_in, AreStoresOf}
use Rattle.hera_machine.specs.Ends.{last_text}
use Rattle.hera_machine.specs.Standing.{Standing, machine_over, commit_over, status_by, GoesQuietly, Tells, IsLess}
use Rattle.hera_steps.specs.Telling.{stop_of}
use Rattle.hera_steps.specs.declared.events.End.{End}
use Rattle.hera_steps.specs.declared.events.End.TheVariants.{Done, Trap, Spent, Stuck}
use Rattle.hera_machine.specs.declared.events.Event as machine_event
use Rattle.hera_machine.specs.declared.events.Event.TheVariants.{Quiet, Out, Commit, Ended}
use Rattle.hera_machine.specs.declared.events.Status.TheVariants.{Working}
use Rattle.hera_machine.proofs.Along.{printed-append, state_after-append, stores-append}
use Rattle.hera_volume.specs.Time.{Image}
use Rattle.hera_volume.specs.declared.file_id.FileId.{FileId}
use Rattle.hera_store.specs.Databases.{Database}
use Rattle.hera_outcome.specs.Cut.{IsCutWith, with_state}
use Rattle.hera_run.specs.Fitting.{fits, gate_behind, all_fit, gate_after, overfills}
use Rattle.hera_run.specs.declared.keeper.Keeper as keeper
use Rattle.hera_run.specs.Running.{Job, job, at_step, first_events, ending_of, IsAllDone, IsRefusedAt, IsDoneUpToFull, IsPartDone, IsCodeCut}
use Rattle.hera_run.proofs.Allowed.{passes-append, guarded-append, passes-one, guarded-one, passes-none, guarded-none, ending_passes, ending_guarded}
use Rattle.hera_run.proofs.Cuts.{cut-behind, cut-found}
use Rattle.hera_run.proofs.Fittings.{gate_after-append, all_fit-append, fit-store}

-- these events were carried out: what is kept then, from a database whose next commit went behind the gate, and none that
-- is refused
pub record IsCarried (db : Database) (gate : Option ℕ) (refusal : State → Option (List ℕ)) (events : List Event) (now : Database) (left : Option ℕ) (refusal_now : State → Option (List ℕ)) : Type 0 where
  pub kept : now ≡ with_state db (state_after db.state events)
  pub fit : all_fit gate events ≡ true
  pub ends : left ≡ gate_after gate events
  pub pass : passes refusal events ≡ true
  pub same : refusal_now ≡ refusal

module _ (db : Database) (gate : Option ℕ) (refusal : State → Option (List ℕ)) (events : List Event) (old now : Database) (left left_now : Option ℕ) (r r_now : State → Option (List ℕ)) (carried : IsCarried db gate refusal events old left r) where
  pub carried_out : (line : List ℕ) → now ≡ with_state old old.state → left_now ≡ left → r_now ≡ r → IsCarried db gate refusal (events ++ out line ∷ []) now left_now r_now
  carried_out line same end unmoved = record {
    kept = same ∙ carried.kept ∙ ap (λ (s : State). with_state db s) (sym (state_after-append db.state events (out line ∷ [])));
    fit = all_fit-append gate events (out line ∷ []) carried.fit;
    ends = end ∙ carried.ends ∙ sym (gate_after-append gate events (out line ∷ []));
    pass = passes-append refusal events (out line ∷ []) carried.pass;
    same = unmoved ∙ carried.same;
  }

  pub carried_commit : (d : Delta) (line : List ℕ) → now ≡ with_state old (apply_of old.state d) → left_now ≡ gate_behind left d → fits left d ≡ true → refusal (apply_of (state_after db.state events) d) ≡ None → r_now ≡ r
      → IsCarried db gate refusal (events ++ store (apply_of (state_after db.state events) d) d ∷ out line ∷ []) now left_now r_now
  carried_commit d line longer end fit allowed unmoved =
      let more = store (apply_of (state_after db.state events) d) d ∷ out line ∷ [] in
      record {
        kept = longer ∙ ap (λ (x : Database). with_state x (apply_of x.state d)) carried.kept ∙ ap (λ (s : State). with_state db s) (sym (state_after-append db.state events more));
        fit = all_fit-append gate events more carried.fit ∙ fit-store (fits (gate_after gate events) d) (ap (λ (g : Option ℕ). fits g d) (sym carried.ends) ∙ fit);
        ends = end ∙ ap (λ (g : Option ℕ). gate_behind g d) carried.ends ∙ sym (gate_after-append gate events more);
        pass = passes-append refusal events more carried.pass ∙ passes-one refusal (apply_of (state_after db.state events) d) d (out line ∷ []) allowed;
        same = unmoved ∙ carried.same;
      }

-- how many of them are stores
pub stores_out : (events : List Event) (line : List ℕ) (n : ℕ) → n ≡ stores events → n ≡ stores (events ++ out line ∷ [])
stores_out events line n is = let more : stores (events ++ out line ∷ []) ≡ stores events + 0 = stores-append events (out line ∷ []) in omega (arith, more, is)

pub stores_commit : (events : List Event) (s : State) (d : Delta) (line : List ℕ) (n next : ℕ) → n ≡ stores events → next ≡ n + 1 → next ≡ stores (events ++ store s d ∷ out line ∷ [])
stores_commit events s d line n next is one = let more : stores (events ++ store s d ∷ out line ∷ []) ≡ stores events + 1 = stores-append events (store s d ∷ out line ∷ []) in omega (arith, more, is, one)

-- the last of some stores is one of the relations
stores_behind : (rels : List RelDecl) (done more : List Event) → AreStoresOf rels (done ++ more) → AreStoresOf rels more
stores_behind rels [] more are = are
stores_behind rels (out bytes ∷ done) more are = stores_behind rels done more are
stores_behind rels (store s d ∷ done) more are = stores_behind rels done more are.1

line_behind : (es : List Event) (stop : Stop) → with_line es stop ≡ es ++ with_line [] stop
line_behind es (ended finished) = sym (append-nil es)
line_behind es (ended (stopped name at)) = refl
line_behind es (ended out_of_turns) = refl
line_behind es stuck = sym (append-nil es)

pub ending_fits : (gate : Option ℕ) (end : End) → all_fit gate (ending_of end) ≡ true
ending_fits gate Done = refl
ending_fits gate (Trap name at) = refl
ending_fits gate Spent = refl
ending_fits gate Stuck = refl

ending_keeps : (s : State) (end : End) → state_after s (ending_of end) ≡ s
ending_keeps s Done = refl
ending_keeps s (Trap name at) = refl
ending_keeps s Spent = refl
ending_keeps s Stuck = refl

-- what a step lowers, of this code
pub comes_nearer : (code : Code) (m n : Standing) (e told : machine_event.Event) → m.code ≡ code → Forward code → (Forward m.code → IsLess (length m.code.instrs) m.state n.state e) → e ≡ told
    → IsLess (length code.instrs) m.state n.state told
comes_nearer code m n e told same forward nearer event =
    subst (λ (own : Code). IsLess (length own.instrs) m.state n.state told) same
    (subst (λ (x : machine_event.Event). IsLess (length m.code.instrs) m.state n.state x) event (nearer (subst Forward (sym same) forward)))

pub job_is : {K : Type 0} (k : keeper.Ghosts K) (kept : K) (code own : Code) (rels own_rels : List RelDecl) (hosts : Hosts) (turns own_turns : ℕ) → code ≡ own → rels ≡ own_rels → turns ≡ own_turns
    → job k kept code rels hosts turns ≡ job k kept own own_rels hosts own_turns
job_is k kept code own rels own_rels hosts turns own_turns a b n =
    ap (λ (x : Code). job k kept x rels hosts turns) a ∙ ap (λ (x : List RelDecl). job k kept own x hosts turns) b ∙ ap (λ (x : ℕ). job k kept own own_rels hosts x) n

module _ (work : Job) where
  abbrev code : Code
  code = work.code

  abbrev rels : List RelDecl
  rels = work.relations

  abbrev hosts : Hosts
  hosts = work.hosts

  abbrev db : Database
  db = work.from

  abbrev turns : ℕ
  turns = work.turns

  abbrev gate : Option ℕ
  gate = work.gate

  abbrev refusal : State → Option (List ℕ)
  refusal = work.refusal

  -- a machine at work stands where the code stands after some steps, with these events so far
  pub record IsAt (events : List Event) (m : Standing) : Type 0 where
    pub steps : ℕ
    pub works : m.status ≡ Working
    pub code_is : m.code ≡ code
    pub rels_are : m.relations ≡ rels
    pub goes_on : (j : ℕ) → code_at code rels db.state hosts turns (steps + j) ≡ exec_code code rels hosts j (state_after db.state events) (machine_over (state_after db.state events) m) events

  -- from there it made a step, and told this
  pub record Steps (events : List Event) (m new : Standing) (told : machine_event.Event) : Type 0 where
    pub at : IsAt events m
    pub step : Tells m.code m.relations hosts (state_after db.state events) told m new
    pub status : new.status ≡ status_by told
    pub code_kept : new.code ≡ m.code
    pub rels_kept : new.relations ≡ m.relations

  pub at_start : (m : Standing) → ((t : State) → machine_over t m ≡ start_of code turns) → m.status ≡ Working → m.code ≡ code → m.relations ≡ rels → IsAt [] m
  at_start m start works code_is rels_are = record {
    steps = 0;
    works = works;
    code_is = code_is;
    rels_are = rels_are;
    goes_on = λ j. ap (λ (k : ℕ). code_at code rels db.state hosts turns k) (zero-add j) ∙ ap (λ (x : Machine). exec_code code rels hosts j db.state x []) (sym (start db.state));
  }

  pub stepped : (events : List Event) (m new : Standing) (given : State) (e told : machine_event.Event) → IsAt events m → given ≡ state_after db.state events → e ≡ told
      → Tells m.code m.relations hosts given e m new
      → new.status ≡ status_by e → new.code ≡ m.code → new.relations ≡ m.relations → Steps events m new told
  stepped events m new given e told at same event is status code_kept rels_kept =
      let first : Tells m.code m.relations hosts given told m new = subst (λ (x : machine_event.Event). Tells m.code m.relations hosts given x m new) event is in
      record {
        at = at;
        step = subst (λ (s : State). Tells m.code m.relations hosts s told m new) same first;
        status = status ∙ ap status_by event;
        code_kept = code_kept;
        rels_kept = rels_kept;
      }

  -- where the code stands behind some quiet steps and one more
  further : (events : List Event) (m : Standing) (at : IsAt events m) (mid : Machine) (quietly : GoesQuietly m.code m.relations hosts (state_after db.state events) (machine_over (state_after db.state events) m) mid)
      (t : Step) → t ≡ code_step m.code m.relations hosts (state_after db.state events) mid
      → (j : ℕ) → code_at code rels db.state hosts turns ((at.steps + quietly.0 + 1) + j) ≡ after_step t (state_after db.state events) events (λ s m es. exec_code code rels hosts j s m es)
  further events m at mid (k, go) t is j =
      let more : (at.steps + k + 1) + j ≡ at.steps + (k + suc j) = omega arith in
      let here = state_after db.state events in
      let own : code_step code rels hosts here mid ≡ t =
      ap (λ (c : Code). code_step c rels hosts here mid) (sym at.code_is) ∙ ap (λ (r : List RelDecl). code_step m.code r hosts here mid) (sym at.rels_are) ∙ sym is in
      let gone : exec_code code rels hosts (k + suc j) here (machine_over here m) events ≡ exec_code code rels hosts (suc j) here mid events =
      subst (λ (c : Code). exec_code c rels hosts (k + suc j) here (machine_over here m) events ≡ exec_code c rels hosts (suc j) here mid events) at.code_is
      (subst (λ (r : List RelDecl). exec_code m.code r hosts (k + suc j) here (machine_over here m) events ≡ exec_code m.code r hosts (suc j) here mid events) at.rels_are (go (suc j) events)) in
      ap (λ (n : ℕ). code_at code rels db.state hosts turns n) more ∙ at.goes_on (k + suc j) ∙ gone
      ∙ ap (λ (t : Step). after_step t here events (λ s m es. exec_code code rels hosts j s m es)) own

  pub at_quiet : (events : List Event) (m new : Standing) → Steps events m new Quiet → IsAt events new
  at_quiet events m new to = record {
    steps = to.at.steps + to.step.1.0 + 1;
    works = to.status;
    code_is = to.code_kept ∙ to.at.code_is;
    rels_are = to.rels_kept ∙ to.at.rels_are;
    goes_on = further events m to.at to.step.0 to.step.1 (quiet (machine_over (state_after db.state events) new)) to.step.2;
  }

  pub at_out : (events : List Event) (m new : Standing) (line : List ℕ) → Steps events m new (Out line) → IsAt (events ++ out line ∷ []) new
  at_out events m new line to = record {
    steps = to.at.steps + to.step.1.0 + 1;
    works = to.status;
    code_is = to.code_kept ∙ to.at.code_is;
    rels_are = to.rels_kept ∙ to.at.rels_are;
    goes_on = λ j. further events m to.at to.step.0 to.step.1 (says line (machine_over (state_after db.state events) new)) to.step.2 j
        ∙ ap (λ (s : State). exec_code code rels hosts j s (machine_over s new) (events ++ out line ∷ [])) (sym (state_after-append db.state events (out line ∷ [])));
  }

  -- the events of a commit
  abbrev pub committing : (events : List Event) → Delta → List Event
  committing events d = store (apply_of (state_after db.state events) d) d ∷ out (commit_text (suc (stores events))) ∷ []

  pub at_commit : (events : List Event) (m new taken : Standing) (d : Delta) → Steps events m new Commit → commit_over (state_after db.state events) new.waits new ≡ commits d (machine_over (apply_of (state_after db.state events) d) new) → taken ≡ record new { waits = None }
      → IsAt (events ++ committing events d) taken
  at_commit events m new taken d to waits is =
      subst (λ (x : Standing). IsAt (events ++ committing events d) x) (sym is) (record {
        steps = to.at.steps + to.step.1.0 + 1;
        works = to.status;
        code_is = to.code_kept ∙ to.at.code_is;
        rels_are = to.rels_kept ∙ to.at.rels_are;
        goes_on = λ j. further events m to.at to.step.0 to.step.1 (commits d (machine_over (apply_of (state_after db.state events) d) new)) (sym waits ∙ to.step.2) j
            ∙ ap (λ (s : State). exec_code code rels hosts j s (machine_over s new) (events ++ committing events d)) (sym (state_after-append db.state events (committing events d)));
      })

  -- ---- what a step adds

  events_next : (events : List Event) (m : Standing) (at : IsAt events m) (mid : Machine) (quietly : GoesQuietly m.code m.relations hosts (state_after db.state events) (machine_over (state_after db.state events) m) mid)
      (t : Step) → t ≡ code_step m.code m.relations hosts (state_after db.state events) mid
      → events_in (at_step work (at.steps + quietly.0 + 1)) ≡ events_in (after_step t (state_after db.state events) events (λ s m es. still s m es))
  events_next events m at mid quietly t is =
      let none : at.steps + quietly.0 + 1 ≡ (at.steps + quietly.0 + 1) + 0 = omega arith in
      ap (λ (k : ℕ). events_in (at_step work k)) none ∙ ap events_in (further events m at mid quietly t is 0)

  -- what is refused of a commit, as what keeps the commits tells it
  pub refusal_here : (events : List Event) (d : Delta) (old : Database) (r : State → Option (List ℕ)) (o : Option (List ℕ)) → old ≡ with_state db (state_after db.state events) → r ≡ refusal → o ≡ r (apply_of old.state d)
      → refusal (apply_of (state_after db.state events) d) ≡ o
  refusal_here events d old r o kept same is = ap (λ (x : Database). refusal (apply_of x.state d)) (sym kept) ∙ ap (λ (f : State → Option (List ℕ)). f (apply_of old.state d)) (sym same) ∙ sym is

  -- a step that adds these events
  pub record Adds (events more : List Event) (m : Standing) : Type 0 where
    pub at : IsAt events m
    pub after : ℕ
    pub now : first_events work after ≡ events ++ more

  pub adds_out : (events : List Event) (m new : Standing) (line : List ℕ) → Steps events m new (Out line) → passes refusal events ≡ true → Adds events (out line ∷ []) m
  adds_out events m new line to pass = record {
    at = to.at;
    after = to.at.steps + to.step.1.0 + 1;
    now = ap (guarded refusal) (events_next events m to.at to.step.0 to.step.1 (says line (machine_over (state_after db.state events) new)) to.step.2) ∙ guarded-append refusal events (out line ∷ []) pass;
  }

  -- a commit, whether it is refused or not
  pub record Commits (events : List Event) (m : Standing) (d : Delta) : Type 0 where
    pub at : IsAt events m
    pub after : ℕ
    pub now : events_in (at_step work after) ≡ events ++ committing events d

  pub commits_next : (events : List Event) (m new : Standing) (d : Delta) → Steps events m new Commit → commit_over (state_after db.state events) new.waits new ≡ commits d (machine_over (apply_of (state_after db.state events) d) new) → Commits events m d
  commits_next events m new d to waits = record { at = to.at; after = to.at.steps + to.step.1.0 + 1; now = events_next events m to.at to.step.0 to.step.1 (commits d (machine_over (apply_of (state_after db.state events) d) new)) (sym waits ∙ to.step.2) }

  pub adds_commit : (events : List Event) (m : Standing) (d : Delta) → Commits events m d → passes refusal events ≡ true → refusal (apply_of (state_after db.state events) d) ≡ None → Adds events (committing events d) m
  adds_commit events m d next pass allowed = record {
    at = next.at;
    after = next.after;
    now = ap (guarded refusal) next.now ∙ guarded-append refusal events (committing events d) pass
        ∙ ap (λ (es : List Event). events ++ es) (guarded-one refusal (apply_of (state_after db.state events) d) d (out (commit_text (suc (stores events))) ∷ []) allowed);
  }

  pub adds_refused : (events : List Event) (m : Standing) (d : Delta) (line : List ℕ) → Commits events m d → passes refusal events ≡ true → refusal (apply_of (state_after db.state events) d) ≡ Some line → Adds events (out line ∷ []) m
  adds_refused events m d line next pass refused = record {
    at = next.at;
    after = next.after;
    now = ap (guarded refusal) next.now ∙ guarded-append refusal events (committing events d) pass
        ∙ ap (λ (es : List Event). events ++ es) (guarded-none refusal (apply_of (state_after db.state events) d) d (out (commit_text (suc (stores events))) ∷ []) line refused);
  }

  pub adds_end : (events : List Event) (m new : Standing) (end : End) → Steps events m new (Ended end) → passes refusal events ≡ true → Adds events (ending_of end) m
  adds_end events m new end to pass = record {
    at = to.at;
    after = to.at.steps + to.step.1.0 + 1;
    now = ap (guarded refusal) (events_next events m to.at to.step.0 to.step.1 (ends (stop_of end)) to.step.2 ∙ line_behind events (stop_of end))
        ∙ guarded-append refusal events (ending_of end) pass ∙ ap (λ (es : List Event). events ++ es) (ending_guarded refusal end);
  }

  -- ---- and what it comes to

  fit_next : (events more : List Event) (m : Standing) (adds : Adds events more m) → all_fit gate events ≡ true → all_fit (gate_after gate events) more ≡ true
      → all_fit gate (first_events work adds.after) ≡ true
  fit_next events more m adds fit next = ap (all_fit gate) adds.now ∙ all_fit-append gate events more fit ∙ next

  -- a cut of the events that a step adds is one of the code's events, where what is found then was found from the start
  pub cut_next : (first second : (FileId → List ℕ) → State → Type 0) (events more : List Event) (m : Standing) (now : Database) (start mid : Option (List ℕ)) (c : Image) → Adds events more m → all_fit gate events ≡ true → all_fit (gate_after gate events) more ≡ true
      → now ≡ with_state db (state_after db.state events) → Appends start mid (printed events) → ((files : FileId → List ℕ) (s : State) → second files s → first files s)
      → IsCutWith second more now.state mid c → IsCodeCut first work start c
  cut_next first second events more m now start mid c adds fit next is said weaker cut = record {
    steps = adds.after;
    fit = fit_next events more m adds fit next;
    cut = subst (λ (es : List Event). IsCutWith first es db.state start c) (sym adds.now)
        (cut-behind first events more db.state now.state start mid c said (ap (λ (x : Database). x.state) is) (cut-found first second more now.state mid c weaker cut));
  }

  pub cut_commit : (first second : (FileId → List ℕ) → State → Type 0) (events : List Event) (m : Standing) (d : Delta) (number : ℕ) (now : Database) (start mid : Option (List ℕ)) (c : Image) → Adds events (committing events d) m → all_fit gate events ≡ true → fits (gate_after gate events) d ≡ true
      → now ≡ with_state db (state_after db.state events) → number ≡ suc (stores events) → Appends start mid (printed events) → ((files : FileId → List ℕ) (s : State) → second files s → first files s)
      → IsCutWith second (store (apply_of now.state d) d ∷ out (commit_text number) ∷ []) now.state mid c → IsCodeCut first work start c
  cut_commit first second events m d number now start mid c adds fit next is count said weaker cut =
      cut_next first second events (committing events d) m now start mid c adds fit (fit-store (fits (gate_after gate events) d) next) is said weaker
      (subst (λ (n : ℕ). IsCutWith second (store (apply_of (state_after db.state events) d) d ∷ out (commit_text n) ∷ []) now.state mid c) count
      (subst (λ (s : State). IsCutWith second (store (apply_of s d) d ∷ out (commit_text number) ∷ []) now.state mid c) (ap (λ (x : Database). x.state) is) cut))

  -- a front of what is printed by the events that a step adds was said
  pub part_next : (events more : List Event) (m : Standing) (start mid now : Option (List ℕ)) → Adds events more m → all_fit gate events ≡ true → all_fit (gate_after gate events) more ≡ true
      → Appends start mid (printed events) → ((n : ℕ) × Appends mid now (take n (printed more))) → IsPartDone work start now
  part_next events more m start mid now adds fit next said (n, then) =
      let front : take (length (printed events) + n) (printed (first_events work adds.after)) ≡ printed events ++ take n (printed more) =
      ap (λ (es : List Event). take (length (printed events) + n) (printed es)) adds.now ∙ ap (λ (l : List ℕ). take (length (printed events) + n) l) (printed-append events more) ∙ take-append-add (printed events) (printed more) n in
      record {
        steps = adds.after;
        fit = fit_next events more m adds fit next;
        front = length (printed events) + n;
        said = subst (λ (l : List ℕ). Appends start now l) (sym front) (Appends-trans _ _ _ _ _ said then);
      }

  pub part_out : (events : List Event) (m : Standing) (line : List ℕ) (start mid now : Option (List ℕ)) → Adds events (out line ∷ []) m → all_fit gate events ≡ true
      → Appends start mid (printed events) → ((n : ℕ) × Appends mid now (take n line)) → IsPartDone work start now
  part_out events m line start mid now adds fit said (n, then) =
      part_next events (out line ∷ []) m start mid now adds fit refl said (n, subst (λ (l : List ℕ). Appends mid now (take n l)) (sym (append-nil line)) then)

  pub part_commit : (events : List Event) (m : Standing) (d : Delta) (number : ℕ) (start mid now : Option (List ℕ)) → Adds events (committing events d) m → all_fit gate events ≡ true → fits (gate_after gate events) d ≡ true
      → number ≡ suc (stores events) → Appends start mid (printed events) → ((n : ℕ) × Appends mid now (take n (commit_text number))) → IsPartDone work start now
  part_commit events m d number start mid now adds fit next count said (n, then) =
      let text : commit_text number ≡ commit_text (suc (stores events)) ++ [] = ap commit_text count ∙ sym (append-nil (commit_text (suc (stores events)))) in
      part_next events (committing events d) m start mid now adds fit (fit-store (fits (gate_after gate events) d) next) said (n, subst (λ (l : List ℕ). Appends mid now (take n l)) text then)

  -- all that is printed by the events so far was said
  pub part_here : (events : List Event) (m : Standing) (start now : Option (List ℕ)) → IsAt events m → passes refusal events ≡ true → all_fit gate events ≡ true → Appends start now (printed events) → IsPartDone work start now
  part_here events m start now at pass fit said =
      let none : at.steps ≡ at.steps + 0 = omega arith in
      let here : first_events work at.steps ≡ events = ap (λ (k : ℕ). guarded refusal (events_in (at_step work k))) none ∙ ap (λ r. guarded refusal (events_in r)) (at.goes_on 0)
      ∙ ap (guarded refusal) (sym (append-nil events)) ∙ guarded-append refusal events [] pass ∙ append-nil events in
      let front : take (length (printed events) + 0) (printed (first_events work at.steps)) ≡ printed events =
      ap (λ (es : List Event). take (length (printed events) + 0) (printed es)) here ∙ ap (λ (l : List ℕ). take (length (printed events) + 0) l) (sym (append-nil (printed events)))
      ∙ take-append-add (printed events) [] 0 ∙ append-nil (printed events) in
      record {
        steps = at.steps;
        fit = ap (all_fit gate) here ∙ fit;
        front = length (printed events) + 0;
        said = subst (λ (l : List ℕ). Appends start now l) (sym front) said;
      }

  pub said_out : (events : List Event) (line : List ℕ) (start mid now : Option (List ℕ)) → Appends start mid (printed events) → Appends mid now line → Appends start now (printed (events ++ out line ∷ []))
  said_out events line start mid now said then =
      subst (λ (l : List ℕ). Appends start now l) (ap (λ (l : List ℕ). printed events ++ l) (sym (append-nil line)) ∙ sym (printed-append events (out line ∷ []))) (Appends-trans _ _ _ _ _ said then)

  pub said_commit : (events : List Event) (d : Delta) (number : ℕ) (start mid now : Option (List ℕ)) → number ≡ suc (stores events) → Appends start mid (printed events) → Appends mid now (commit_text number)
      → Appends start now (printed (events ++ committing events d))
  said_commit events d number start mid now count said then =
      subst (λ (l : List ℕ). Appends start now l)
      (ap (λ (n : ℕ). printed events ++ commit_text n) count ∙ ap (λ (l : List ℕ). printed events ++ l) (sym (append-nil (commit_text (suc (stores events))))) ∙ sym (printed-append events (committing events d)))
      (Appends-trans _ _ _ _ _ said then)

  pub all_done : (events : List Event) (m new : Standing) (end : End) (left : Database) (start mid now : Option (List ℕ)) → Steps events m new (Ended end) → passes refusal events ≡ true → all_fit gate events ≡ true
      → left ≡ with_state db (state_after db.state events) → Appends start mid (printed events) → Appends mid now (last_text end) → IsAllDone work start now left end
  all_done events m new end left start mid now to pass fit is said then =
      let behind = line_behind events (stop_of end) in
      record {
        steps = (to.at.steps + to.step.1.0 + 1) + 0;
        events = with_line events (stop_of end);
        ends = further events m to.at to.step.0 to.step.1 (ends (stop_of end)) to.step.2 0;
        pass = ap (passes refusal) behind ∙ passes-append refusal events (ending_of end) pass ∙ ending_passes refusal end;
        fit = ap (all_fit gate) behind ∙ all_fit-append gate events (ending_of end) fit ∙ ending_fits (gate_after gate events) end;
        said = subst (λ (l : List ℕ). Appends start now l) (sym (ap printed behind ∙ printed-append events (ending_of end))) (Appends-trans _ _ _ _ _ said then);
        stored = is ∙ ap (λ (s : State). with_state db s) (sym (ap (λ (es : List Event). state_after db.state es) behind ∙ state_after-append db.state events (ending_of end) ∙ ending_keeps (state_after db.state events) end));
      }

  pub done_up_to : (events more : List Event) (m : Standing) (left : Database) (start now : Option (List ℕ)) → Adds events more m → all_fit gate events ≡ true → overfills (gate_after gate events) more ≡ true
      → left ≡ with_state db (state_after db.state events) → Appends start now (printed events) → IsDoneUpToFull work start now left
  done_up_to events more m left start now adds fit full is said = record {
    steps = adds.after;
    events = events;
    next = more;
    reaches = adds.now;
    fit = fit;
    full = full;
    said = said;
    stored = is;
  }

  -- a run that ends at a commit that is refused
  pub refused_at : (events : List Event) (m : Standing) (d : Delta) (line : List ℕ) (left : Database) (start mid now : Option (List ℕ)) → Commits events m d → passes refusal events ≡ true → refusal (apply_of (state_after db.state events) d) ≡ Some line
      → all_fit gate events ≡ true → left ≡ with_state db (state_after db.state events) → Appends start mid (printed events) → Appends mid now line → IsRefusedAt work start now left
  unfolding adds_refused
  refused_at events m d line left start mid now next pass refused fit is said then =
      let s = apply_of (state_after db.state events) d in
      let adds = adds_refused events m d line next pass refused in
      let its : first_events work next.after ≡ events ++ out line ∷ [] = adds.now in
      record {
        steps = next.after;
        refused = ap (passes refusal) next.now ∙ passes-append refusal events (committing events d) pass ∙ passes-none refusal s d (out (commit_text (suc (stores events))) ∷ []) line refused;
        fit = ap (all_fit gate) its ∙ all_fit-append gate events (out line ∷ []) fit;
        said = subst (λ (es : List Event). Appends start now (printed es)) (sym its) (said_out events line start mid now said then);
        stored = is ∙ ap (λ (t : State). with_state db t) (sym (ap (state_after db.state) its ∙ state_after-append db.state events (out line ∷ [])));
      }

  -- the delta of a commit is of the relations
  pub proper_commit : (events : List Event) (m : Standing) (d : Delta) (own : List RelDecl) → Commits events m d → own ≡ db.catalogue
      → ((k : ℕ) → AreStoresOf db.catalogue (events_in (at_step work k))) → (is_fail d ≡ false) × IsDeltaOf own d
  proper_commit events m d own next same are =
      let of = stores_behind db.catalogue events (committing events d) (subst (λ (es : List Event). AreStoresOf db.catalogue es) next.now (are next.after)) in
      (of.0.3, subst (λ (r : List RelDecl). IsDeltaOf r d) (sym same) of.0.2)

  -- nothing was done yet
  pub part_none : (start : Option (List ℕ)) → IsPartDone work start start
  part_none start = record { steps = 0; fit = refl; front = 0; said = Appends-nil start }
