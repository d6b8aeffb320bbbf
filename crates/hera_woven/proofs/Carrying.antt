-- Events carried out over a store.
use Rattle.std.proofs.Common.{◌≡◌, ℕ, Bool, true, false, not, List, [], ◌∷◌, ◌++◌, take, Option, Some, Result, Ok, Err, IfErr, OnOk, OnErr, IsErrAnd, refl, sym, ap, ◌∙◌, subst, append-nil}
use Rattle.std.specs.Io.KnownBytes.{Appends}
use Rattle.std.proofs.KnownBytes.{Appends-nil}
use Rattle.hera_causes.specs.declared.traits.Output as output
use Rattle.hera_meaning.specs.Deltas.{Delta, State, apply_of}
use Rattle.hera_meaning.specs.Worlds.{Event, out, store}
use Rattle.hera_meaning.specs.Run.{printed}
use Rattle.hera_volume.specs.Time.{Image, LeavesOnly}
use Rattle.hera_volume.specs.declared.file_id.FileId.{FileId}
use Rattle.hera_volume.specs.declared.outside.Outside as files
use Rattle.hera_volume.proofs.Moments.{leaves-none, leaves-weaker, leaves-on}
use Rattle.hera_store.specs.Databases.{Database}
use Rattle.hera_store.specs.Standing.{Standing, StandsFor, database_of}
use Rattle.hera_store.proofs.Commits.{stands_still}
use Rattle.hera_outcome.specs.declared.answer.Stop.{Stop}
use Rattle.hera_outcome.specs.declared.answer.Stop.TheVariants.{Output, Memory, Full}
use Rattle.hera_outcome.specs.Cut.{IsCut, HoldsWith, with_state}
use Rattle.hera_outcome.specs.Passages.{Passage, passage}
use Rattle.hera_outcome.specs.Told.{StopFaults, Says}
use Rattle.hera_outcome.proofs.Passing.{whole_said, part_said, faults_said, memory_faults, stop_faults, faults_by}
use Rattle.hera_run.specs.Fitting.{fits, gate_behind, overfills}
use Rattle.hera_run.specs.Keeping.{AreLeft, finds_settled}
use Rattle.hera_run.proofs.Cuts.{cut-longer, cut-behind}
use Rattle.hera_run.proofs.Fittings.{no_truth, fit-store}
use Rattle.hera_run.proofs.Images.{cut-said, database_more}
use Rattle.hera_run.proofs.Results.{ok_always, ok_is_no_err, same_error, memory_not_full}
use Rattle.hera_woven.specs.Going.{Carries}

output_not_full : Output ≡ Full → ⊥
output_not_full is = cc (is)

-- a failed output is no full half
said_not_full : {T : Type 0} (r : Result T Stop) → IfErr r (λ stop. stop ≡ Output) → ◌≡◌ {A = Result T Stop} r (Err Full) → ⊥
said_not_full {T} (Ok x) fault is = ok_is_no_err x Full is
said_not_full {T} (Err stop) fault is = output_not_full (sym fault ∙ same_error {A = T} stop Full is)

on_text : {T : Type 0} (r : Result T Stop) (a b : Option (List ℕ)) (l m : List ℕ) → l ≡ m → OnOk r (Appends a b l) → OnOk r (Appends a b m)
on_text (Ok x) a b l m is said = subst (λ (t : List ℕ). Appends a b t) is said
on_text (Err stop) a b l m is said = tt

on_front : {T : Type 0} (r : Result T Stop) (a b : Option (List ℕ)) (l m : List ℕ) → l ≡ m → OnErr r ((n : ℕ) × Appends a b (take n l)) → OnErr r ((n : ℕ) × Appends a b (take n m))
on_front (Ok x) a b l m is said = tt
on_front (Err stop) a b l m is said = (said.0, subst (λ (t : List ℕ). Appends a b (take said.0 t)) is said.1)

module _ {D : Type 0} (q : output.Ghosts D) (w : files.Ghosts D) where
  abbrev over : D → D → Passage
  over a b = passage q w a b

  -- no memory before anything was done
  pub carries_none : {T : Type 0} (events : List Event) (s : Standing) (a : D) (r : Result T Stop) → IsErrAnd r (λ e. e ≡ Memory) → Carries events s s r (over a a)
  carries_none events s a (Ok x) none = absurd none
  carries_none {T} events s a (Err stop) is = record {
    base = refl;
    unclosed = tt;
    stands = λ t. tt;
    kept = tt;
    ends = tt;
    fit = tt;
    whole = tt;
    part = (0, Appends-nil (q.emitted a));
    moments = λ t. leaves-none w.moment w.left_since a _;
    faults = memory_faults {T = T} (Err stop) (over a a) is refl refl;
    past = λ full. absurd (memory_not_full {T = T} (Err stop) is full);
    unchanged = λ full. refl;
    idle = λ past. refl;
  }

  -- nothing was to be done
  pub carries_nothing : {T : Type 0} (s : Standing) (a : D) (x : T) → s.closed ≡ false → (w.told → StandsFor (w.disk a) s) → Carries {T = T} [] s s (Ok x) (over a a)
  carries_nothing s a x opens stands = record {
    base = refl;
    unclosed = opens;
    stands = stands;
    kept = refl;
    ends = refl;
    fit = refl;
    whole = Appends-nil (q.emitted a);
    part = tt;
    moments = λ t. leaves-none w.moment w.left_since a _;
    faults = (refl, refl);
    past = λ full. absurd (ok_is_no_err x Full full);
    unchanged = λ full. refl;
    idle = λ past. refl;
  }

  -- a line was said
  module _ (s : Standing) (line : List ℕ) (a b : D) (opens : s.closed ≡ false) (stands : w.told → StandsFor (w.disk a) s) where
    found : w.told → (f : FileId → List ℕ) → AreLeft (w.disk a) f → HoldsWith (database_of s) f (database_of s).state
    found t f left = finds_settled (w.disk a) s f (stands t) left

    pub carries_said : {T : Type 0} (r : Result T Stop) → Says line r (over a b) → Carries (out line ∷ []) s s r (over a b)
    carries_said {T} r says = record {
      base = refl;
      unclosed = ok_always r opens;
      stands = λ t. ok_always r (stands_still (w.disk a) (w.disk b) s (says.keeps.files t) (stands t));
      kept = ok_always r refl;
      ends = ok_always r refl;
      fit = ok_always r refl;
      whole = on_text r (q.emitted a) (q.emitted b) line (printed (out line ∷ [])) (sym (append-nil line)) (whole_said line r (over a b) says);
      part = on_front r (q.emitted a) (q.emitted b) line (printed (out line ∷ [])) (sym (append-nil line)) (part_said line r (over a b) says);
      moments = λ t. leaves-weaker w.moment w.left_since (says.moments t)
          (λ image amid. cut-said (HoldsWith (database_of s)) (w.disk a) (database_of s).state (found t) (q.emitted a) image line amid);
      faults = faults_said line r (over a b) says;
      past = λ full. absurd (said_not_full r says.fault full);
      unchanged = λ full. refl;
      idle = λ past. absurd (no_truth past);
    }

  -- ---- a commit, and then a line

  module _ (s now : Standing) (d : Delta) (line : List ℕ) (a b : D) (base : now.base ≡ s.base) (silent : q.emitted b ≡ q.emitted a)
      (only : w.told → LeavesOnly w.moment w.left_since a b (IsCut (store (apply_of (database_of s).state d) d ∷ []) (database_of s) (q.emitted a)))
      (nothing : fits (Some s.end) d ≡ false → b ≡ a) where
    abbrev db : Database
    db = database_of s

    abbrev here : State
    here = apply_of db.state d

    abbrev first : List Event
    first = store here d ∷ []

    abbrev both : List Event
    both = store here d ∷ out line ∷ []

    first_moments : w.told → LeavesOnly w.moment w.left_since a b (IsCut both db (q.emitted a))
    first_moments t = leaves-weaker w.moment w.left_since (only t) (λ image cut. cut-longer (HoldsWith db) first (out line ∷ []) both db.state (q.emitted a) image refl cut)

    unsaid : Appends (q.emitted a) (q.emitted b) []
    unsaid = subst (λ (e : Option (List ℕ)). Appends (q.emitted a) e []) (sym silent) (Appends-nil (q.emitted a))

    no_fit : overfills (Some s.end) both ≡ true → fits (Some s.end) d ≡ false
    no_fit past = by (fits (Some s.end) d) past
      where
        by : (f : Bool) → not f ≡ true → f ≡ false
        by true is = absurd (no_truth is)
        by false is = refl

    -- it was not stored
    pub carries_unstored : {T : Type 0} (r : Result T Stop) (stop : Stop) → IsErrAnd r (λ e. e ≡ stop) → StopFaults stop (over a b) → (stop ≡ Full → fits (Some s.end) d ≡ false) → (stop ≡ Full → now ≡ s) → Carries both s now r (over a b)
    carries_unstored (Ok x) stop none faults past same = absurd none
    carries_unstored {T} (Err e) stop is faults past same = record {
      base = base;
      unclosed = tt;
      stands = λ t. tt;
      kept = tt;
      ends = tt;
      fit = tt;
      whole = tt;
      part = (0, unsaid);
      moments = first_moments;
      faults = stop_faults {T = T} (Err e) stop (over a b) is faults;
      past = λ full. ap not (past (sym is ∙ same_error {A = T} e Full full));
      unchanged = λ full. same (sym is ∙ same_error {A = T} e Full full);
      idle = λ past. nothing (no_fit past);
    }

    -- it was stored, and then the line was said
    module _ (opens : now.closed ≡ false) (there : w.told → StandsFor (w.disk b) now) (commits : now.commits ≡ s.commits ++ d ∷ []) (gate : Some now.end ≡ gate_behind (Some s.end) d) (fit : fits (Some s.end) d ≡ true)
        (quiet : (q.output_faults b ≡ q.output_faults a) × (w.device_faults b ≡ w.device_faults a)) (c : D) where
      more : database_of now ≡ with_state db here
      more = database_more s now d db base commits refl

      pub carries_stored : {T : Type 0} (r : Result T Stop) → Carries (out line ∷ []) now now r (over b c) → Carries both s now r (over a c)
      carries_stored r said = record {
        base = base;
        unclosed = ok_always r opens;
        stands = said.stands;
        kept = ok_always r more;
        ends = ok_always r gate;
        fit = ok_always r (fit-store (fits (Some s.end) d) fit);
        whole = on_start r said.whole;
        part = on_start_part r said.part;
        moments = λ t. leaves-on w.moment w.left_since (first_moments t) (said.moments t) (λ image cut. behind image cut);
        faults = faults_by q w a b quiet.1 quiet.0 r c said.faults;
        past = λ full. absurd (no_truth (said.past full));
        unchanged = λ full. absurd (no_truth (said.past full));
        idle = λ past. absurd (no_truth (sym (no_fit past) ∙ fit));
      }
        where
          on_start : {T : Type 0} (r : Result T Stop) → OnOk r (Appends (q.emitted b) (q.emitted c) (printed (out line ∷ []))) → OnOk r (Appends (q.emitted a) (q.emitted c) (printed both))
          on_start (Ok x) appends = subst (λ (e : Option (List ℕ)). Appends e (q.emitted c) (printed both)) silent appends
          on_start (Err stop) none = tt

          on_start_part : {T : Type 0} (r : Result T Stop) → OnErr r ((n : ℕ) × Appends (q.emitted b) (q.emitted c) (take n (printed (out line ∷ [])))) → OnErr r ((n : ℕ) × Appends (q.emitted a) (q.emitted c) (take n (printed both)))
          on_start_part (Ok x) none = tt
          on_start_part (Err stop) p = (p.0, subst (λ (e : Option (List ℕ)). Appends e (q.emitted c) (take p.0 (printed both))) silent p.1)

          behind : (image : Image) → IsCut (out line ∷ []) (database_of now) (q.emitted b) image → IsCut both db (q.emitted a) image
          behind image cut =
              cut-behind (HoldsWith db) first (out line ∷ []) db.state here (q.emitted a) (q.emitted b) image unsaid refl
              (subst (λ (x : Database). IsCut (out line ∷ []) x (q.emitted b) image) more cut)
