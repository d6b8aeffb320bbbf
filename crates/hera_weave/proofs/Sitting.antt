-- A session that makes steps stands where its code stands.
use Rattle.std.proofs.Common.{◌≡◌, ℕ, suc, ◌+◌, true, List, [], ◌∷◌, ◌++◌, length, Option, Some, None, refl, sym, ap, subst, ◌∙◌, arith, append_assoc, append-nil, length-append}
use Rattle.std.specs.Prelude.{Result, Ok, Err, IfOk, OnOk, nat_eq}
use Rattle.std.proofs.lemmas.Bool.{eqb-true}
use Rattle.std.specs.List.{list_all}
use Rattle.std.specs.declared.alloc.AllocError.{AllocError}
use Rattle.hera_meaning.specs.declared.schemas.RelDecl.{RelDecl}
use Rattle.hera_meaning.specs.Deltas.{Delta, fail, State, apply_of}
use Rattle.hera_meaning.specs.Fits.{is_delta_of}
use Rattle.hera_meaning.specs.Hosts.{Hosts}
use Rattle.hera_meaning.specs.Printed.{commit_text}
use Rattle.hera_meaning.specs.Worlds.{Event, out, store}
use Rattle.hera_meaning.specs.Run.{printed, state_after, finished, stopped, out_of_turns}
use Rattle.hera_code.specs.declared.instrs.Code.{Code}
use Rattle.hera_code.specs.Machine.{Machine, Step, quiet, says, commits, ends, Stop, ended, stuck, code_step}
use Rattle.hera_code.specs.Reached.{with_line, stores, after_step, exec_code, code_at, start_of}
use Rattle.hera_code.specs.Scheme.{code_of}
use Rattle.hera_steps.specs.declared.events.End.{End}
use Rattle.hera_machine.specs.declared.events.Event as told_event
use Rattle.hera_machine.specs.declared.events.Event.TheVariants.{Quiet, Out, Commit, Ended}
use Rattle.hera_machine.specs.declared.events.Status.TheVariants.{Working}
use Rattle.hera_machine.specs.Ends.{last_text}
use Rattle.hera_machine.specs.Over.{state_over}
use Rattle.hera_machine.specs.Standing.{Standing, machine_over, event_over, commit_over, status_after, WaitsBy, IsNearer, IsLess}
use Rattle.hera_steps.specs.Telling.{stop_of}
use Rattle.hera_sessions.specs.Agreeing.{deltas_of}
use Rattle.hera_sessions.specs.Sessions.{Task}
use Rattle.hera_weave.specs.Seats.{Sitting}
use Rattle.hera_weave.specs.Standing.{given_by, given_of, read_state, Executed, Commits, IsAt, IsEnded}

-- ---- events

printed-append : (es fs : List Event) → printed (es ++ fs) ≡ printed es ++ printed fs
printed-append [] fs = refl
printed-append (out bs ∷ es) fs = ap (λ xs. bs ++ xs) (printed-append es fs) ∙ sym (append_assoc bs (printed es) (printed fs))
printed-append (store s d ∷ es) fs = printed-append es fs

state_after-append : (s : State) (es fs : List Event) → state_after s (es ++ fs) ≡ state_after (state_after s es) fs
state_after-append s [] fs = refl
state_after-append s (out bs ∷ es) fs = state_after-append s es fs
state_after-append s (store t d ∷ es) fs = state_after-append t es fs

deltas-append : (es fs : List Event) → deltas_of (es ++ fs) ≡ deltas_of es ++ deltas_of fs
deltas-append [] fs = refl
deltas-append (out bs ∷ es) fs = deltas-append es fs
deltas-append (store t d ∷ es) fs = ap (λ (l : List Delta). d ∷ l) (deltas-append es fs)

stores-deltas : (es : List Event) → stores es ≡ length (deltas_of es)
stores-deltas [] = refl
stores-deltas (out bs ∷ es) = stores-deltas es
stores-deltas (store t d ∷ es) = let ih : stores es ≡ length (deltas_of es) = stores-deltas es in omega (arith, ih)

printed_line : (es : List Event) (stop : Stop) → printed (with_line es stop) ≡ printed es ++ printed (with_line [] stop)
printed_line es (ended finished) = sym (append-nil (printed es))
printed_line es (ended (stopped name at)) = printed-append es _
printed_line es (ended out_of_turns) = printed-append es _
printed_line es stuck = sym (append-nil (printed es))

deltas_line : (es : List Event) (stop : Stop) → deltas_of (with_line es stop) ≡ deltas_of es
deltas_line es (ended finished) = refl
deltas_line es (ended (stopped name at)) = deltas-append es _ ∙ append-nil (deltas_of es)
deltas_line es (ended out_of_turns) = deltas-append es _ ∙ append-nil (deltas_of es)
deltas_line es stuck = refl

-- ---- the deltas under which an instruction reads

given_more : (prefix own levels : List Delta) (d : Delta) → given_by prefix (own ++ d ∷ []) levels ≡ levels
given_more prefix [] levels d = refl
given_more prefix (e ∷ own) levels d = refl

pub given_when : (prefix own levels : List Delta) → nat_eq (length own) 0 ≡ true → given_by prefix own levels ≡ prefix
given_when prefix [] levels h = refl
given_when prefix (d ∷ own) levels h = let e : suc (length own) ≡ 0 = eqb-true (suc (length own)) 0 h in absurd (omega (arith, e))

known_by : (rels : List RelDecl) (prefix own levels : List Delta) → list_all (is_delta_of rels) prefix ≡ true → list_all (is_delta_of rels) levels ≡ true → list_all (is_delta_of rels) (given_by prefix own levels) ≡ true
known_by rels prefix [] levels h g = h
known_by rels prefix (d ∷ own) levels h g = g

-- ---- one instruction

pub some_waits : (w : Option Delta) → (w ≡ None → ⊥) → (d : Delta) × (w ≡ Some d)
some_waits None h = absurd (h refl)
some_waits (Some d) h = (d, refl)

abbrev or_fail : Option Delta → Delta
or_fail None = fail
or_fail (Some d) = d

pub commits_from : (r : Result (Unit {0}) AllocError) (prefix : List Delta) (d e : Delta) (a i n : Sitting) (own : List Delta) (number : ℕ) → i ≡ a → a.machine.waits ≡ Some d → i.machine.waits ≡ Some e → is_delta_of i.machine.relations e ≡ true
    → n.machine ≡ record i.machine { waits = None } → n.own ≡ i.own ++ e ∷ [] → own ≡ i.own → ((s : State) → state_over s n.levels ≡ apply_of (state_over s (given_by prefix own i.levels)) e)
    → ((rels : List RelDecl) → list_all (is_delta_of rels) (given_by prefix own i.levels) ≡ true → is_delta_of rels e ≡ true → list_all (is_delta_of rels) n.levels ≡ true)
    → number ≡ length n.own → OnOk r (n.text ≡ i.text ++ commit_text number) → n.code ≡ i.code → n.begun ≡ i.begun → OnOk r (Commits prefix d a n)
commits_from (Err x) prefix d e a i n own number is waits wait known machine mine same does all long text code begun = tt
commits_from (Ok u) prefix d e a i n own number is waits wait known machine mine same does all long text code begun =
    let one : e ≡ d = ap or_fail (sym wait ∙ ap (λ (s : Sitting). s.machine.waits) is ∙ waits) in
    let given : given_by prefix own i.levels ≡ given_of prefix a = ap (λ (l : List Delta). given_by prefix l i.levels) same ∙ ap (given_of prefix) is in
    let rels : i.machine.relations ≡ a.machine.relations = ap (λ (s : Sitting). s.machine.relations) is in
    record {
      machine = machine ∙ ap (λ (s : Sitting). record s.machine { waits = None }) is;
      own = mine ∙ ap (λ (s : Sitting). s.own ++ e ∷ []) is ∙ ap (λ (x : Delta). a.own ++ x ∷ []) one;
      does = λ s. does s ∙ ap (λ (l : List Delta). apply_of (state_over s l) e) given ∙ ap (λ (x : Delta). apply_of (read_state s prefix a) x) one;
      known = λ h. all a.machine.relations (ap (list_all (is_delta_of a.machine.relations)) given ∙ h) (ap (λ (r : List RelDecl). is_delta_of r e) (sym rels) ∙ known);
      text = text ∙ ap (λ (s : Sitting). s.text ++ commit_text number) is ∙ ap (λ (k : ℕ). a.text ++ commit_text k) long;
      code = code ∙ ap (λ (s : Sitting). s.code) is;
      begun = begun ∙ ap (λ (s : Sitting). s.begun) is;
    }

pub executed : (hosts : Hosts) (base : State) (prefix given : List Delta) (a b : Sitting) (mid : Standing) (r : Result told_event.Event AllocError) → given ≡ given_of prefix a
    → ((u : State) → machine_over u mid ≡ machine_over u a.machine) → mid.status ≡ a.machine.status → mid.code ≡ a.machine.code → mid.relations ≡ a.machine.relations → b ≡ record a { machine = b.machine }
    → (mid.status ≡ Working → IfOk r (λ e. event_over (state_over base given) e b.machine ≡ code_step mid.code mid.relations hosts (state_over base given) (machine_over (state_over base given) mid)))
    → b.machine.status ≡ status_after r → IfOk r (WaitsBy b.machine.waits) → b.machine.code ≡ mid.code → b.machine.relations ≡ mid.relations → a.machine.status ≡ Working → IfOk r (Executed hosts base prefix a b)
executed hosts base prefix given a b mid (Err x) is moves same code rels rest steps status waits own_code own_rels works = tt
executed hosts base prefix given a b mid (Ok e) is moves same code rels rest steps status waits own_code own_rels works =
    let read : State = read_state base prefix a in
    let there : state_over base given ≡ read = ap (state_over base) is in
    record {
      steps = subst (λ (u : State). event_over u e b.machine ≡ code_step mid.code mid.relations hosts u (machine_over u mid)) there (steps (same ∙ works))
          ∙ ap (λ (m : Machine). code_step mid.code mid.relations hosts read m) (moves read)
          ∙ ap (λ (c : Code). code_step c mid.relations hosts read (machine_over read a.machine)) code
          ∙ ap (λ (l : List RelDecl). code_step a.machine.code l hosts read (machine_over read a.machine)) rels;
      rest = rest;
      status = status;
      waits = waits;
      code = own_code ∙ code;
      relations = own_rels ∙ rels;
    }

less_by : (l : ℕ) (old new : Machine) (e : told_event.Event) → IsNearer l old new e → IsLess l old new e
less_by l old new Quiet h = h.less_left
less_by l old new (Out line) h = h.less_left
less_by l old new Commit h = h.less_left
less_by l old new (Ended end) h = tt

pub executed_less : (l n : ℕ) (old mid new : Machine) (r : Result told_event.Event AllocError) → l ≡ n → mid ≡ old → IfOk r (IsNearer l mid new) → IfOk r (IsLess n old new)
executed_less l n old mid new (Err x) long same h = tt
executed_less l n old mid new (Ok e) long same h =
    subst (λ (k : ℕ). IsLess k old new e) long (subst (λ (m : Machine). IsLess l m new e) same (less_by l mid new e h))

-- ---- steps

pub at_start : (t : Task) (hosts : Hosts) (base s : State) (a : Sitting) → a.code ≡ code_of t.program → a.machine.code ≡ code_of t.program → a.machine.relations ≡ t.program.relations
    → ((u : State) → machine_over u a.machine ≡ start_of (code_of t.program) t.turns) → a.machine.status ≡ Working → a.machine.waits ≡ None → a.own ≡ [] → a.levels ≡ [] → a.text ≡ [] → IsAt t hosts base s 0 a
at_start t hosts base s a own_code code_is rels_are start works taken own levels text = record {
  events = [];
  works = works;
  taken = taken;
  own_code = own_code;
  code_is = code_is;
  rels_are = rels_are;
  goes_on = λ j.
      let more : 0 + j ≡ j = omega arith in
      ap (λ (k : ℕ). code_at (code_of t.program) t.program.relations s hosts t.turns k) more
      ∙ ap (λ (m : Machine). exec_code (code_of t.program) t.program.relations hosts j s m []) (sym (start s));
  said = sym text;
  stored = sym own;
  reads = λ prefix same. ap (λ (l : List Delta). state_over base (given_by prefix l a.levels)) own ∙ same;
  known = ap (list_all (is_delta_of a.machine.relations)) levels;
}

module _ (t : Task) (hosts : Hosts) (base : State) where
  abbrev Tells : (s : State) (k : ℕ) (a : Sitting) → IsAt t hosts base s k a → Step → Type 0
  Tells s k a at x = x ≡ code_step a.machine.code a.machine.relations hosts (state_after s at.events) (machine_over (state_after s at.events) a.machine)

  further : (s : State) (k : ℕ) (a : Sitting) (at : IsAt t hosts base s k a) (x : Step) → Tells s k a at x
      → (j : ℕ) → code_at (code_of t.program) t.program.relations s hosts t.turns (suc k + j) ≡ after_step x (state_after s at.events) at.events (λ s m es. exec_code (code_of t.program) t.program.relations hosts j s m es)
  further s k a at x is j =
      let more : suc k + j ≡ k + suc j = omega arith in
      let here : State = state_after s at.events in
      let mine : Machine = machine_over here a.machine in
      let own : code_step (code_of t.program) t.program.relations hosts here mine ≡ x =
      ap (λ (c : Code). code_step c t.program.relations hosts here mine) (sym at.code_is) ∙ ap (λ (r : List RelDecl). code_step a.machine.code r hosts here mine) (sym at.rels_are) ∙ sym is in
      ap (λ (n : ℕ). code_at (code_of t.program) t.program.relations s hosts t.turns n) more ∙ at.goes_on (suc j)
      ∙ ap (λ (x : Step). after_step x here at.events (λ s m es. exec_code (code_of t.program) t.program.relations hosts j s m es)) own

  -- what a step of the machine keeps
  pub record Keeps (a b : Sitting) : Type 0 where
    pub works : b.machine.status ≡ Working
    pub taken : b.machine.waits ≡ None
    pub code : b.code ≡ a.code
    pub own_code : b.machine.code ≡ a.machine.code
    pub relations : b.machine.relations ≡ a.machine.relations

  known_kept : (a b : Sitting) → Keeps a b → b.levels ≡ a.levels → list_all (is_delta_of a.machine.relations) a.levels ≡ true → list_all (is_delta_of b.machine.relations) b.levels ≡ true
  known_kept a b keeps levels h = ap (λ (r : List RelDecl). list_all (is_delta_of r) b.levels) keeps.relations ∙ ap (list_all (is_delta_of a.machine.relations)) levels ∙ h

  reads_kept : (u : State) (prefix : List Delta) (a b : Sitting) → b.own ≡ a.own → b.levels ≡ a.levels → read_state base prefix a ≡ u → read_state base prefix b ≡ u
  reads_kept u prefix a b own levels h =
      ap (λ (l : List Delta). state_over base (given_by prefix l b.levels)) own ∙ ap (λ (l : List Delta). state_over base (given_by prefix a.own l)) levels ∙ h

  pub at_quiet : (s : State) (k : ℕ) (a b : Sitting) (at : IsAt t hosts base s k a) → Tells s k a at (quiet (machine_over (state_after s at.events) b.machine)) → Keeps a b → b.own ≡ a.own → b.levels ≡ a.levels → b.text ≡ a.text → IsAt t hosts base s (suc k) b
  at_quiet s k a b at x keeps own levels text = record {
    events = at.events;
    works = keeps.works;
    taken = keeps.taken;
    own_code = keeps.code ∙ at.own_code;
    code_is = keeps.own_code ∙ at.code_is;
    rels_are = keeps.relations ∙ at.rels_are;
    goes_on = further s k a at (quiet (machine_over (state_after s at.events) b.machine)) x;
    said = at.said ∙ sym text;
    stored = at.stored ∙ sym own;
    reads = λ prefix same. reads_kept (state_after s at.events) prefix a b own levels (at.reads prefix same);
    known = known_kept a b keeps levels at.known;
  }

  pub at_out : (s : State) (k : ℕ) (a b : Sitting) (at : IsAt t hosts base s k a) (line : List ℕ) → Tells s k a at (says line (machine_over (state_after s at.events) b.machine)) → Keeps a b → b.own ≡ a.own → b.levels ≡ a.levels → b.text ≡ a.text ++ line → IsAt t hosts base s (suc k) b
  at_out s k a b at line x keeps own levels text =
      let fs : List Event = out line ∷ [] in
      let here : state_after s at.events ≡ state_after s (at.events ++ fs) = sym (state_after-append s at.events fs) in
      record {
        events = at.events ++ fs;
        works = keeps.works;
        taken = keeps.taken;
        own_code = keeps.code ∙ at.own_code;
        code_is = keeps.own_code ∙ at.code_is;
        rels_are = keeps.relations ∙ at.rels_are;
        goes_on = λ j. further s k a at (says line (machine_over (state_after s at.events) b.machine)) x j
            ∙ ap (λ (u : State). exec_code (code_of t.program) t.program.relations hosts j u (machine_over u b.machine) (at.events ++ fs)) here;
        said = printed-append at.events fs ∙ (λ i. at.said i ++ append-nil line i) ∙ sym text;
        stored = deltas-append at.events fs ∙ append-nil (deltas_of at.events) ∙ at.stored ∙ sym own;
        reads = λ prefix same. reads_kept (state_after s at.events) prefix a b own levels (at.reads prefix same) ∙ here;
        known = known_kept a b keeps levels at.known;
      }

  pub at_commit : (s : State) (k : ℕ) (a b : Sitting) (at : IsAt t hosts base s k a) (prefix : List Delta) (d : Delta) → Tells s k a at (commits d (machine_over (apply_of (state_after s at.events) d) b.machine)) → Keeps a b
      → b.own ≡ a.own ++ d ∷ [] → ((u : State) → state_over u b.levels ≡ apply_of (read_state u prefix a) d) → list_all (is_delta_of b.machine.relations) b.levels ≡ true → b.text ≡ a.text ++ commit_text (length b.own)
      → state_over base prefix ≡ s → IsAt t hosts base s (suc k) b
  at_commit s k a b at prefix d x keeps own does known text same =
      let before : State = state_after s at.events in
      let fs : List Event = store (apply_of before d) d ∷ out (commit_text (suc (stores at.events))) ∷ [] in
      let here : apply_of before d ≡ state_after s (at.events ++ fs) = sym (state_after-append s at.events fs) in
      let number : suc (stores at.events) ≡ length b.own =
      (let one : stores at.events ≡ length a.own = stores-deltas at.events ∙ ap (λ (l : List Delta). length l) at.stored in
      let two : length b.own ≡ length a.own + 1 = ap (λ (l : List Delta). length l) own ∙ length-append a.own (d ∷ []) in
      omega (arith, one, two)) in
      let now : state_over base b.levels ≡ apply_of before d = does base ∙ ap (λ (u : State). apply_of u d) (at.reads prefix same) in
      record {
        events = at.events ++ fs;
        works = keeps.works;
        taken = keeps.taken;
        own_code = keeps.code ∙ at.own_code;
        code_is = keeps.own_code ∙ at.code_is;
        rels_are = keeps.relations ∙ at.rels_are;
        goes_on = λ j. further s k a at (commits d (machine_over (apply_of before d) b.machine)) x j
            ∙ ap (λ (u : State). exec_code (code_of t.program) t.program.relations hosts j u (machine_over u b.machine) (at.events ++ fs)) here;
        said = printed-append at.events fs ∙ (λ i. at.said i ++ append-nil (commit_text (number i)) i) ∙ sym text;
        stored = deltas-append at.events fs ∙ ap (λ (l : List Delta). l ++ d ∷ []) at.stored ∙ sym own;
        reads = λ other those. ap (λ (l : List Delta). state_over base (given_by other l b.levels)) own ∙ ap (state_over base) (given_more other a.own b.levels d) ∙ now ∙ here;
        known = known;
      }

  pub at_end : (s : State) (k : ℕ) (a b : Sitting) (at : IsAt t hosts base s k a) (end : End) → Tells s k a at (ends (stop_of end)) → b.code ≡ a.code → b.own ≡ a.own → b.text ≡ a.text ++ last_text end → IsEnded t hosts s (suc k) end b
  at_end s k a b at end x code own text =
      let none : suc k ≡ suc k + 0 = omega arith in
      record {
        events = with_line at.events (stop_of end);
        ends = ap (λ (n : ℕ). code_at (code_of t.program) t.program.relations s hosts t.turns n) none ∙ further s k a at (ends (stop_of end)) x 0;
        own_code = code ∙ at.own_code;
        said = printed_line at.events (stop_of end) ∙ ap (λ (l : List ℕ). l ++ last_text end) at.said ∙ sym text;
        stored = deltas_line at.events (stop_of end) ∙ at.stored ∙ sym own;
      }

  -- the deltas under which it reads are of the catalogue
  pub reads_known : (s : State) (k : ℕ) (a : Sitting) (prefix : List Delta) (rels : List RelDecl) → IsAt t hosts base s k a → a.machine.relations ≡ rels → list_all (is_delta_of rels) prefix ≡ true → list_all (is_delta_of rels) (given_of prefix a) ≡ true
  reads_known s k a prefix rels at are h = known_by rels prefix a.own a.levels h (subst (λ (r : List RelDecl). list_all (is_delta_of r) a.levels ≡ true) are at.known)

  -- ---- what an instruction told

  module _ (s : State) (k : ℕ) (prefix : List Delta) (a n : Sitting) (at : IsAt t hosts base s k a) (same : state_over base prefix ≡ s) where
    told : (e : told_event.Event) → Executed hosts base prefix a n e → event_over (state_after s at.events) e n.machine ≡ code_step a.machine.code a.machine.relations hosts (state_after s at.events) (machine_over (state_after s at.events) a.machine)
    told e x = subst (λ (u : State). event_over u e n.machine ≡ code_step a.machine.code a.machine.relations hosts u (machine_over u a.machine)) (at.reads prefix same) x.steps

    pub on_quiet : Executed hosts base prefix a n Quiet → IsAt t hosts base s (suc k) n
    on_quiet x =
        at_quiet s k a n at (told Quiet x) (record { works = x.status; taken = x.waits; code = ap (λ (b : Sitting). b.code) x.rest; own_code = x.code; relations = x.relations })
        (ap (λ (b : Sitting). b.own) x.rest) (ap (λ (b : Sitting). b.levels) x.rest) (ap (λ (b : Sitting). b.text) x.rest)

    pub on_out : (line : List ℕ) (b : Sitting) → Executed hosts base prefix a n (Out line) → b ≡ record n { text = n.text ++ line } → IsAt t hosts base s (suc k) b
    on_out line b x is =
        subst (λ (b : Sitting). IsAt t hosts base s (suc k) b) (sym is)
        (at_out s k a (record n { text = n.text ++ line }) at line (told (Out line) x) (record { works = x.status; taken = x.waits; code = ap (λ (b : Sitting). b.code) x.rest; own_code = x.code; relations = x.relations })
        (ap (λ (b : Sitting). b.own) x.rest) (ap (λ (b : Sitting). b.levels) x.rest) (ap (λ (b : Sitting). b.text ++ line) x.rest))

    commits_so : (w : Option Delta) (d : Delta) (u : State) (x : Step) → w ≡ Some d → commit_over u w n.machine ≡ x → commits d (machine_over (apply_of u d) n.machine) ≡ x
    commits_so w d u x e h = subst (λ (w : Option Delta). commit_over u w n.machine ≡ x) e h

    pub on_commit : (d : Delta) (b : Sitting) → Executed hosts base prefix a n Commit → n.machine.waits ≡ Some d → Commits prefix d n b → list_all (is_delta_of a.machine.relations) (given_of prefix a) ≡ true → IsAt t hosts base s (suc k) b
    on_commit d b x waits is given_known =
        let own : n.own ≡ a.own = ap (λ (b : Sitting). b.own) x.rest in
        let given : given_of prefix n ≡ given_of prefix a = ap (λ (b : Sitting). given_of prefix b) x.rest in
        let keeps : Keeps a b = record {
          works = ap (λ (m : Standing). m.status) is.machine ∙ x.status;
          taken = ap (λ (m : Standing). m.waits) is.machine;
          code = is.code ∙ ap (λ (b : Sitting). b.code) x.rest;
          own_code = ap (λ (m : Standing). m.code) is.machine ∙ x.code;
          relations = ap (λ (m : Standing). m.relations) is.machine ∙ x.relations;
        } in
        let here : State = state_after s at.events in
        let tells : commits d (machine_over (apply_of here d) b.machine) ≡ code_step a.machine.code a.machine.relations hosts here (machine_over here a.machine) =
        ap (λ (m : Standing). commits d (machine_over (apply_of here d) m)) is.machine ∙ commits_so n.machine.waits d here _ waits (told Commit x) in
        let before : list_all (is_delta_of n.machine.relations) (given_of prefix n) ≡ true =
        ap (λ (r : List RelDecl). list_all (is_delta_of r) (given_of prefix n)) x.relations ∙ ap (list_all (is_delta_of a.machine.relations)) given ∙ given_known in
        let known : list_all (is_delta_of b.machine.relations) b.levels ≡ true = ap (λ (m : Standing). list_all (is_delta_of m.relations) b.levels) is.machine ∙ is.known before in
        at_commit s k a b at prefix d tells keeps (is.own ∙ ap (λ (l : List Delta). l ++ d ∷ []) own)
        (λ u. is.does u ∙ ap (λ (l : List Delta). apply_of (state_over u l) d) given) known
        (is.text ∙ ap (λ (l : List ℕ). l ++ commit_text (length b.own)) (ap (λ (b : Sitting). b.text) x.rest)) same

    pub on_end : (end : End) (b : Sitting) → Executed hosts base prefix a n (Ended end) → b ≡ record n { text = n.text ++ last_text end } → IsEnded t hosts s (suc k) end b
    on_end end b x is =
        at_end s k a b at end (told (Ended end) x) (ap (λ (b : Sitting). b.code) is ∙ ap (λ (b : Sitting). b.code) x.rest) (ap (λ (b : Sitting). b.own) is ∙ ap (λ (b : Sitting). b.own) x.rest)
        (ap (λ (b : Sitting). b.text) is ∙ ap (λ (b : Sitting). b.text ++ last_text end) x.rest)
