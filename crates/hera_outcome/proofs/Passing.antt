-- What was told over parts of a call, and over the whole.
use Rattle.std.proofs.Common.{◌≡◌, ◌⊎◌, ⊎_elim, inl, inr, ℕ, List, [], take, length, Option, Some, Result, Ok, Err, OnOk, OnErr, IfOk, IfErr, IsErrAnd, refl, sym, ap, ◌∙◌, subst, arith}
use Rattle.std.specs.Io.KnownBytes.{Appends, Keeps}
use Rattle.std.proofs.lemmas.List.{take_all}
use Rattle.std.proofs.KnownBytes.{Appends-nil, Appends-kept}
use Rattle.hera_volume.specs.Disk.{Disk}
use Rattle.hera_volume.specs.Time.{Image, IsImageOf, IsImageAmid, LeavesOnly}
use Rattle.hera_volume.specs.declared.outside.Outside as files
use Rattle.hera_causes.specs.declared.traits.Output as output
use Rattle.hera_volume.proofs.Moments.{leaves-none, leaves-weaker, leaves-on}
use Rattle.hera_store.specs.Moments.{IsUntouched}
use Rattle.hera_outcome.specs.declared.answer.Ending.{Ending}
use Rattle.hera_outcome.specs.declared.answer.Ending.TheVariants.{Done, Trapped, Spent, Broken}
use Rattle.hera_outcome.specs.declared.answer.Stop.{Stop}
use Rattle.hera_outcome.specs.declared.answer.Stop.TheVariants.{Refused, Device, Output, Memory, Full}
use Rattle.hera_outcome.specs.declared.refusal.Refusal.{Refusal}
use Rattle.hera_outcome.specs.Answers.{number_of_ending, number_of_stop, number_of, IsFault, IsSpoken}
use Rattle.hera_outcome.specs.Passages.{Passage, passage, ReadsAsBefore, KeepsFiles, IsUnseen, HasSynced, does_nothing}
use Rattle.hera_outcome.specs.Outcomes.{Outcome, refused, prints, ran, made, renewed, widened, too_long, carried, text_of_outcome, status_of_outcome, FilesAfter, FilesMidway, MomentsOf}
use Rattle.hera_outcome.specs.Told.{HasRisen, StopFaults, FaultsBy, Says, IsCause, IsDone, IsCutShort, IsTold, IsGivenUp, IsPending, Tells, Answered}

-- ---- outcomes that leave the files alone

abbrev pub LeavesAlone : Outcome → Type 0
LeavesAlone (refused refusal) = Unit {0}
LeavesAlone (prints text) = Unit {0}
LeavesAlone (ran report) = Unit {0}
LeavesAlone (made rels) = ⊥
LeavesAlone (renewed db) = ⊥
LeavesAlone (widened old new) = ⊥
LeavesAlone (too_long db) = ⊥
LeavesAlone (carried db events ended) = ⊥

pub files_alone : (o : Outcome) (v : Passage) → LeavesAlone o → ReadsAsBefore v → FilesAfter o v
files_alone (refused refusal) v alone reads = reads
files_alone (prints text) v alone reads = reads
files_alone (ran report) v alone reads = reads
files_alone (made rels) v alone reads = absurd alone
files_alone (renewed db) v alone reads = absurd alone
files_alone (widened old new) v alone reads = absurd alone
files_alone (too_long db) v alone reads = absurd alone
files_alone (carried db events ended) v alone reads = absurd alone

pub midway_alone : (o : Outcome) (status : ℕ) (v : Passage) → LeavesAlone o → ReadsAsBefore v → FilesMidway o status v
midway_alone (refused refusal) status v alone reads = reads
midway_alone (prints text) status v alone reads = reads
midway_alone (ran report) status v alone reads = reads
midway_alone (made rels) status v alone reads = absurd alone
midway_alone (renewed db) status v alone reads = absurd alone
midway_alone (widened old new) status v alone reads = absurd alone
midway_alone (too_long db) status v alone reads = absurd alone
midway_alone (carried db events ended) status v alone reads = absurd alone

pub moments_alone : (o : Outcome) (v : Passage) → LeavesAlone o → v.leaves_only (IsImageAmid v.disks_before v.emitted_before (text_of_outcome o)) → MomentsOf o v
moments_alone (refused refusal) v alone amid = amid
moments_alone (prints text) v alone amid = amid
moments_alone (ran report) v alone amid = amid
moments_alone (made rels) v alone amid = absurd alone
moments_alone (renewed db) v alone amid = absurd alone
moments_alone (widened old new) v alone amid = absurd alone
moments_alone (too_long db) v alone amid = absurd alone
moments_alone (carried db events ended) v alone amid = absurd alone

amid_alone : (o : Outcome) (v : Passage) → LeavesAlone o → MomentsOf o v → v.leaves_only (IsImageAmid v.disks_before v.emitted_before (text_of_outcome o))
amid_alone (refused refusal) v alone amid = amid
amid_alone (prints text) v alone amid = amid
amid_alone (ran report) v alone amid = amid
amid_alone (made rels) v alone amid = absurd alone
amid_alone (renewed db) v alone amid = absurd alone
amid_alone (widened old new) v alone amid = absurd alone
amid_alone (too_long db) v alone amid = absurd alone
amid_alone (carried db events ended) v alone amid = absurd alone

pub reads_kept : (v : Passage) → KeepsFiles v → v.told → ReadsAsBefore v
reads_kept v keeps t = λ f. ap (λ (d : Disk). d.bytes) (keeps.files t f)

-- the whole text was said
pub told_whole : (o : Outcome) (v : Passage) (text : List ℕ) (status : ℕ) → LeavesAlone o → text_of_outcome o ≡ text → status ≡ status_of_outcome o → Appends v.emitted_before v.emitted_now text
    → v.output_now ≡ v.output_before → KeepsFiles v → (v.told → v.leaves_only (IsImageAmid v.disks_before v.emitted_before text)) → IsTold o status v
told_whole o v text status alone is own said fine keeps moments = record {
  ending = inl (record { own_status = own; whole_text = subst (λ (l : List ℕ). Appends v.emitted_before v.emitted_now l) (sym is) said; files = λ t. files_alone o v alone (reads_kept v keeps t); output = fine; device = keeps.device });
  moments = λ t. moments_alone o v alone (subst (λ (l : List ℕ). v.leaves_only (IsImageAmid v.disks_before v.emitted_before l)) (sym is) (moments t));
}

-- a prefix of it was said before the output failed
pub told_part : (o : Outcome) (v : Passage) (text : List ℕ) → LeavesAlone o → text_of_outcome o ≡ text → ((n : ℕ) × Appends v.emitted_before v.emitted_now (take n text))
    → HasRisen v.output_before v.output_now → KeepsFiles v → (v.told → v.leaves_only (IsImageAmid v.disks_before v.emitted_before text)) → IsTold o 8 v
told_part o v text alone is (n, said) rose keeps moments = record {
  ending = inr (record {
    cause = inr (inl (refl, rose, keeps.device));
    front = (n, subst (λ (l : List ℕ). Appends v.emitted_before v.emitted_now (take n l)) (sym is) said);
    files = λ t. midway_alone o 8 v alone (reads_kept v keeps t);
  });
  moments = λ t. moments_alone o v alone (subst (λ (l : List ℕ). v.leaves_only (IsImageAmid v.disks_before v.emitted_before l)) (sym is) (moments t));
}

-- ---- a text that was said

pub says_whole : {T : Type 0} (x : T) (v : Passage) (text : List ℕ) (n : ℕ) → n ≡ length text → Appends v.emitted_before v.emitted_now (take n text) → v.output_now ≡ v.output_before
    → KeepsFiles v → (v.told → v.leaves_only (IsImageAmid v.disks_before v.emitted_before text)) → Says text (Ok x) v
says_whole x v text n all said fine keeps moments = record {
  whole = (subst (λ (l : List ℕ). Appends v.emitted_before v.emitted_now l) (take_all n text (omega (arith, all))) said, fine);
  part = tt;
  fault = tt;
  keeps = keeps;
  moments = moments;
}

pub says_part : {T : Type 0} (v : Passage) (text : List ℕ) (n : ℕ) → Appends v.emitted_before v.emitted_now (take n text) → HasRisen v.output_before v.output_now
    → KeepsFiles v → (v.told → v.leaves_only (IsImageAmid v.disks_before v.emitted_before text)) → Says {T = T} text (Err Output) v
says_part v text n said rose keeps moments = record { whole = tt; part = ((n, said), rose); fault = refl; keeps = keeps; moments = moments }

-- the same with another value
pub says_as : {T U : Type 0} (text : List ℕ) (v : Passage) (x : T) (y : U) → Says {T = T} text (Ok x) v → Says {T = U} text (Ok y) v
says_as text v x y says = record { whole = says.whole; part = tt; fault = tt; keeps = says.keeps; moments = says.moments }

pub says_so : {T U : Type 0} (text : List ℕ) (v : Passage) (stop : Stop) → Says {T = T} text (Err stop) v → Says {T = U} text (Err stop) v
says_so text v stop says = record { whole = tt; part = says.part; fault = says.fault; keeps = says.keeps; moments = says.moments }

-- an error that is handed on
pub handed_on : {T : Type 0} (P : Result T Stop → Type 0) (r : Result T Stop) (stop : Stop) → IsErrAnd r (λ e. e ≡ stop) → P (Err stop) → P r
handed_on P (Ok x) stop none p = absurd none
handed_on P (Err e) stop same p = subst (λ (s : Stop). P (Err s)) (sym same) p

-- an outcome that leaves the files alone, by its text that was said
pub told_by : {T : Type 0} (o : Outcome) (v : Passage) (text : List ℕ) (r : Result T Stop) (status : ℕ) → LeavesAlone o → text_of_outcome o ≡ text → Says text r v
    → OnOk r (status ≡ status_of_outcome o) → IfErr r (λ stop. status ≡ number_of_stop stop) → IsTold o status v
told_by o v text (Ok x) status alone is says own fault = told_whole o v text status alone is own says.whole.0 says.whole.1 says.keeps says.moments
told_by o v text (Err stop) status alone is says own fault =
    subst (λ (n : ℕ). IsTold o n v) (sym (fault ∙ ap number_of_stop says.fault)) (told_part o v text alone is says.part.0 says.part.1 says.keeps says.moments)

pub whole_said : {T : Type 0} (text : List ℕ) (r : Result T Stop) (v : Passage) → Says text r v → OnOk r (Appends v.emitted_before v.emitted_now text)
whole_said text (Ok x) v says = says.whole.0
whole_said text (Err stop) v says = tt

pub part_said : {T : Type 0} (text : List ℕ) (r : Result T Stop) (v : Passage) → Says text r v → OnErr r ((n : ℕ) × Appends v.emitted_before v.emitted_now (take n text))
part_said text (Ok x) v says = tt
part_said text (Err stop) v says = says.part.0

pub faults_said : {T : Type 0} (text : List ℕ) (r : Result T Stop) (v : Passage) → Says text r v → FaultsBy r v
faults_said text (Ok x) v says = (says.whole.1, says.keeps.device)
faults_said {T} text (Err stop) v says = subst (λ (s : Stop). StopFaults s v) (sym says.fault) (says.part.1, says.keeps.device)

-- ---- faults

pub memory_faults : {T : Type 0} (r : Result T Stop) (v : Passage) → IsErrAnd r (λ stop. stop ≡ Memory) → v.output_now ≡ v.output_before → v.device_now ≡ v.device_before → FaultsBy r v
memory_faults (Ok x) v none fine sound = absurd none
memory_faults {T} (Err stop) v is fine sound = subst (λ (s : Stop). StopFaults s v) (sym is) (fine, sound)

-- an error that is handed on
pub stop_faults : {T : Type 0} (r : Result T Stop) (stop : Stop) (v : Passage) → IsErrAnd r (λ e. e ≡ stop) → StopFaults stop v → FaultsBy r v
stop_faults (Ok x) stop v none faults = absurd none
stop_faults (Err e) stop v is faults = subst (λ (s : Stop). StopFaults s v) (sym is) faults

pub memory_spoken : {T : Type 0} (r : Result T Stop) → IsErrAnd r (λ e. e ≡ Memory) → IfErr r IsSpoken
memory_spoken (Ok x) none = absurd none
memory_spoken (Err stop) is = subst IsSpoken (sym is) tt

pub output_spoken : {T : Type 0} (r : Result T Stop) (stop : Stop) → IsErrAnd r (λ e. e ≡ stop) → stop ≡ Output → IfErr r IsSpoken
output_spoken (Ok x) stop none is = absurd none
output_spoken (Err e) stop same is = subst IsSpoken (sym (same ∙ is)) tt

pub spoken_no_device : (r : Result Ending Stop) → IfErr r IsSpoken → r ≡ Err Device → ⊥
spoken_no_device r spoken is = subst (λ (x : Result Ending Stop). IfErr x IsSpoken) is spoken

pub says_no_device : (text : List ℕ) (r : Result Ending Stop) (v : Passage) → Says text r v → r ≡ Err Device → ⊥
says_no_device text r v says is =
    let fault : Device ≡ Output = (subst (λ (x : Result Ending Stop). Says text x v) is says).fault in
    cc (fault)

pub spoken_fault : (r : Result Ending Stop) → IfErr r IsSpoken → IfErr r IsFault
spoken_fault (Ok ending) spoken = tt
spoken_fault (Err (Refused refusal)) spoken = absurd spoken
spoken_fault (Err Device) spoken = absurd spoken
spoken_fault (Err Output) spoken = tt
spoken_fault (Err Memory) spoken = tt
spoken_fault (Err Full) spoken = absurd spoken

-- ---- answers

pub ok_no_err : (ending : Ending) (stop : Stop) → ◌≡◌ {A = Result Ending Stop} (Ok ending) (Err stop) → ⊥
ok_no_err ending stop is = cc (is)

pub same_refused : (a b : Refusal) → ◌≡◌ {A = Result Ending Stop} (Err (Refused a)) (Err (Refused b)) → a ≡ b
same_refused a b is = cc (is)

pub ending_not_six : (ending : Ending) → number_of_ending ending ≡ 6 → ⊥
ending_not_six Done is = cc (is)
ending_not_six Trapped is = cc (is)
ending_not_six Spent is = cc (is)
ending_not_six Broken is = cc (is)

tells_weaker : (A B : Outcome → Type 0) (status : ℕ) (v : Passage) → ((o : Outcome) → A o → B o) → Tells A status v → Tells B status v
tells_weaker A B status v weaker told = ⊎_elim (λ (o, comes, one). inl (o, weaker o comes, one)) (λ up. inr up) told

pub answered_by : (Comes : Outcome → Type 0) (answer : Result Ending Stop) (v : Passage) → IfErr answer IsFault → Tells Comes (number_of answer) v → Answered Comes answer v
answered_by Comes (Ok ending) v fault tells = tells
answered_by Comes (Err (Refused refusal)) v fault tells = absurd fault
answered_by Comes (Err Device) v fault tells = tells
answered_by Comes (Err Output) v fault tells = tells
answered_by Comes (Err Memory) v fault tells = tells
answered_by Comes (Err Full) v fault tells = tells

pub answered_weaker : (A B : Outcome → Type 0) (answer : Result Ending Stop) (v : Passage) → ((o : Outcome) → A o → B o) → Answered A answer v → Answered B answer v
answered_weaker A B (Ok ending) v weaker told = tells_weaker A B (number_of_ending ending) v weaker told
answered_weaker A B (Err (Refused refusal)) v weaker told = (weaker (refused refusal) told.0, told.1)
answered_weaker A B (Err Device) v weaker told = tells_weaker A B 6 v weaker told
answered_weaker A B (Err Output) v weaker told = tells_weaker A B 8 v weaker told
answered_weaker A B (Err Memory) v weaker told = tells_weaker A B 9 v weaker told
answered_weaker A B (Err Full) v weaker told = tells_weaker A B 10 v weaker told

-- ---- moments

module _ {D : Type 0} (q : output.Ghosts D) (w : files.Ghosts D) where
  abbrev pub over : D → D → Passage
  over a b = passage q w a b

  pub keeps_none : (a : D) → KeepsFiles (over a a)
  keeps_none a = record { files = λ t f. refl; device = refl }

  -- nothing was done
  pub unseen_none : (a : D) → IsUnseen (over a a)
  unseen_none a = record { emitted = refl; output = refl; reads = λ t f. refl; within = λ t f c image. image; moments = λ t. leaves-none w.moment w.left_since a _ }

  pub pending_none : (a : D) → IsPending (over a a)
  pending_none a = record { device = refl; unseen = unseen_none a }

  pub given_up_none : (a : D) → IsGivenUp 9 (over a a)
  given_up_none a = record { cause = inr (refl, refl); unseen = unseen_none a; syncs = λ t. does_nothing refl }

  -- want of memory before anything was done
  pub no_memory_answered : (a : D) (Comes : Outcome → Type 0) (r : Result Ending Stop) → IsErrAnd r (λ e. e ≡ Memory) → Answered Comes r (over a a)
  no_memory_answered a Comes r is = handed_on (λ x. Answered Comes x (over a a)) r Memory is (inr (given_up_none a))

  -- there was no memory before anything was said
  pub told_none : (o : Outcome) (a : D) → LeavesAlone o → IsTold o 9 (over a a)
  told_none o a alone = record {
    ending = inr (record { cause = inr (inr (refl, refl, refl)); front = (0, Appends-nil (q.emitted a)); files = λ t. midway_alone o 9 (over a a) alone (λ f. refl) });
    moments = λ t. moments_alone o (over a a) alone (leaves-none w.moment w.left_since a _);
  }

  pub rest_amid : (a : D) (text : List ℕ) (c : Image) → IsImageOf (w.disk a) (q.emitted a) c → IsImageAmid (w.disk a) (q.emitted a) text c
  rest_amid a text c image = record { files = image.files; emitted = (0, Appends-kept (q.emitted a) (q.emitted a) (Some c.emitted) [] (Appends-nil (q.emitted a)) image.emitted) }

  -- ---- behind what is not seen

  module _ (a b : D) (u : IsUnseen (over a b)) where
    amid_behind : (t : w.told) (text : List ℕ) (c : Image) → IsImageAmid (w.disk b) (q.emitted b) text c → IsImageAmid (w.disk a) (q.emitted a) text c
    amid_behind t text c image = record {
      files = λ f. u.within t f (c.files f) (image.files f);
      emitted = (let (n, said) = image.emitted in (n, subst (λ (e : Option (List ℕ)). Appends e (Some c.emitted) (take n text)) u.emitted said));
    }

    rest_behind : (t : w.told) (c : Image) → IsImageOf (w.disk b) (q.emitted b) c → IsImageOf (w.disk a) (q.emitted a) c
    rest_behind t c image = record { files = λ f. u.within t f (c.files f) (image.files f); emitted = subst (λ (e : Option (List ℕ)). Keeps e (Some c.emitted)) u.emitted image.emitted }

    pub moments_amid : (t : w.told) (c : D) (text : List ℕ) → LeavesOnly w.moment w.left_since b c (IsImageAmid (w.disk b) (q.emitted b) text) → LeavesOnly w.moment w.left_since a c (IsImageAmid (w.disk a) (q.emitted a) text)
    moments_amid t c text said = leaves-on w.moment w.left_since (leaves-weaker w.moment w.left_since (u.moments t) (λ i image. rest_amid a text i image)) said (λ i image. amid_behind t text i image)

    pub unseen_on : (c : D) → IsUnseen (over b c) → IsUnseen (over a c)
    unseen_on c v = record {
      emitted = v.emitted ∙ u.emitted;
      output = v.output ∙ u.output;
      reads = λ t f. v.reads t f ∙ u.reads t f;
      within = λ t f i image. u.within t f i (v.within t f i image);
      moments = λ t. leaves-on w.moment w.left_since (u.moments t) (v.moments t) (λ i image. rest_behind t i image);
    }

    -- `pub` for what is settled behind an opening
    pub untouched_by : w.told → IsUntouched w.disk q.emitted w.moment w.left_since a b
    untouched_by t = record { reads = u.reads t; within = u.within t; same = u.emitted; any_moment = u.moments t }

  -- faults of a call behind one without any
  pub faults_by : {T : Type 0} (a b : D) → w.device_faults b ≡ w.device_faults a → q.output_faults b ≡ q.output_faults a → (r : Result T Stop) (c : D) → FaultsBy r (over b c) → FaultsBy r (over a c)
  faults_by a b sound fine (Ok x) c faults = (faults.0 ∙ fine, faults.1 ∙ sound)
  faults_by a b sound fine (Err (Refused refusal)) c faults = absurd faults
  faults_by a b sound fine (Err Device) c faults = (subst (λ (n : ℕ). HasRisen n (w.device_faults c)) sound faults.0, faults.1 ∙ fine)
  faults_by a b sound fine (Err Output) c faults = (subst (λ (n : ℕ). HasRisen n (q.output_faults c)) fine faults.0, faults.1 ∙ sound)
  faults_by a b sound fine (Err Memory) c faults = (faults.0 ∙ fine, faults.1 ∙ sound)
  faults_by a b sound fine (Err Full) c faults = (faults.0 ∙ fine, faults.1 ∙ sound)

  pub cause_by : (a b : D) → w.device_faults b ≡ w.device_faults a → q.output_faults b ≡ q.output_faults a → (status : ℕ) (c : D) → IsCause status (over b c) → IsCause status (over a c)
  cause_by a b sound fine status c cause =
      ⊎_elim (λ (six, risen, still). inl (six, subst (λ (n : ℕ). HasRisen n (w.device_faults c)) sound risen, still ∙ fine))
      (λ later. ⊎_elim (λ (eight, risen, still). inr (inl (eight, subst (λ (n : ℕ). HasRisen n (q.output_faults c)) fine risen, still ∙ sound))) (λ (nine, still, kept). inr (inr (nine, still ∙ fine, kept ∙ sound))) later) cause

  module _ (a b : D) (p : IsPending (over a b)) where
    pub pending_on : (c : D) → IsPending (over b c) → IsPending (over a c)
    pending_on c v = record { device = v.device ∙ p.device; unseen = unseen_on a b p.unseen c v.unseen }

    pub risen_device : (c : D) → HasRisen (w.device_faults b) (w.device_faults c) → HasRisen (w.device_faults a) (w.device_faults c)
    risen_device c risen = subst (λ (n : ℕ). HasRisen n (w.device_faults c)) p.device risen

    -- there was no memory behind it
    pub given_up_there : (w.told → HasSynced (over a b)) → IsGivenUp 9 (over a b)
    given_up_there syncs = record { cause = inr (refl, p.device); unseen = p.unseen; syncs = syncs }

    pub cause_on : (status : ℕ) (c : D) → IsCause status (over b c) → IsCause status (over a c)
    cause_on status c cause = cause_by a b p.device p.unseen.output status c cause

    pub front_on : (text : List ℕ) (c : D) → Appends (q.emitted b) (q.emitted c) text → Appends (q.emitted a) (q.emitted c) text
    front_on text c said = subst (λ (e : Option (List ℕ)). Appends e (q.emitted c) text) p.unseen.emitted said

    -- an outcome that was told behind it, with these files
    pub ending_on : (o : Outcome) (status : ℕ) (c : D) → (w.told → FilesAfter o (over b c) → FilesAfter o (over a c)) → (w.told → FilesMidway o status (over b c) → FilesMidway o status (over a c))
        → IsDone o status (over b c) ⊎ IsCutShort o status (over b c) → IsDone o status (over a c) ⊎ IsCutShort o status (over a c)
    ending_on o status c after midway ending =
        ⊎_elim
        (λ done. inl (record {
          own_status = done.own_status;
          whole_text = front_on (text_of_outcome o) c done.whole_text;
          files = λ t. after t (done.files t);
          output = done.output ∙ p.unseen.output;
          device = done.device ∙ p.device;
        }))
        (λ short. inr (record {
          cause = cause_on status c short.cause;
          front = (let (n, said) = short.front in (n, front_on (take n (text_of_outcome o)) c said));
          files = λ t. midway t (short.files t);
        }))
        ending

    reads_on : (c : D) → w.told → ReadsAsBefore (over b c) → ReadsAsBefore (over a c)
    reads_on c t reads = λ f. reads f ∙ p.unseen.reads t f

    after_alone : (o : Outcome) (c : D) → LeavesAlone o → w.told → FilesAfter o (over b c) → FilesAfter o (over a c)
    after_alone (refused refusal) c alone t files = reads_on c t files
    after_alone (prints text) c alone t files = reads_on c t files
    after_alone (ran report) c alone t files = reads_on c t files
    after_alone (made rels) c alone t files = absurd alone
    after_alone (renewed db) c alone t files = absurd alone
    after_alone (widened old new) c alone t files = absurd alone
    after_alone (too_long db) c alone t files = absurd alone
    after_alone (carried db events ended) c alone t files = absurd alone

    midway_on : (o : Outcome) (status : ℕ) (c : D) → LeavesAlone o → w.told → FilesMidway o status (over b c) → FilesMidway o status (over a c)
    midway_on (refused refusal) status c alone t files = reads_on c t files
    midway_on (prints text) status c alone t files = reads_on c t files
    midway_on (ran report) status c alone t files = reads_on c t files
    midway_on (made rels) status c alone t files = absurd alone
    midway_on (renewed db) status c alone t files = absurd alone
    midway_on (widened old new) status c alone t files = absurd alone
    midway_on (too_long db) status c alone t files = absurd alone
    midway_on (carried db events ended) status c alone t files = absurd alone

    -- an outcome that leaves the files alone
    pub told_on : (o : Outcome) (status : ℕ) (c : D) → LeavesAlone o → IsTold o status (over b c) → IsTold o status (over a c)
    told_on o status c alone told = record {
      ending = ending_on o status c (after_alone o c alone) (midway_on o status c alone) told.ending;
      moments = λ t. moments_alone o (over a c) alone (moments_amid a b p.unseen t c (text_of_outcome o) (amid_alone o (over b c) alone (told.moments t)));
    }

    -- a call on a file failed before a refusal was told, or there was no memory for it
    pub cut_there : (o : Outcome) (status : ℕ) → LeavesAlone o → IsCause status (over a b) → IsTold o status (over a b)
    cut_there o status alone cause = record {
      ending = inr (record {
        cause = cause;
        front = (0, subst (λ (e : Option (List ℕ)). Appends (q.emitted a) e []) (sym p.unseen.emitted) (Appends-nil (q.emitted a)));
        files = λ t. midway_alone o status (over a b) alone (p.unseen.reads t);
      });
      moments = λ t. moments_alone o (over a b) alone (leaves-weaker w.moment w.left_since (p.unseen.moments t) (λ c image. rest_amid a (text_of_outcome o) c image));
    }

    -- a text that was said behind it, and that is all that is printed
    pub tell_answered : (Comes : Outcome → Type 0) (o : Outcome) (c : D) (text : List ℕ) (r : Result Ending Stop) → LeavesAlone o → text_of_outcome o ≡ text → status_of_outcome o ≡ 0 → Comes o → Says text r (over b c)
        → IfOk r (λ ending. ending ≡ Done) → Answered Comes r (over a c)
    tell_answered Comes o c text (Ok ending) alone is own comes says done =
        inl (o, comes, told_on o (number_of_ending ending) c alone (told_by o (over b c) text (Ok ending) (number_of_ending ending) alone is says (ap number_of_ending done ∙ sym own) tt))
    tell_answered Comes o c text (Err stop) alone is own comes says done =
        subst (λ (s : Stop). Answered Comes (Err s) (over a c)) (sym says.fault)
        (inl (o, comes, told_on o 8 c alone (told_part o (over b c) text alone is says.part.0 says.part.1 says.keeps says.moments)))
