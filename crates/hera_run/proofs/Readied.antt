-- A folder opened, its half rewritten, and made ready for a run.
use Rattle.std.proofs.Common.{◌≡◌, ◌≤◌, ◌<◌, ◌⊎◌, ⊎_elim, ℕ, zero, suc, true, false, inl, inr, List, [], ◌∷◌, length, take, Option, Some, Result, Ok, Err, IfOk, IfErr, refl, sym, ap, ◌∙◌, subst, arith}
use Rattle.std.specs.Io.KnownBytes.{Appends, Keeps}
use Rattle.std.proofs.KnownBytes.{Appends-nil}
use Rattle.std.proofs.lemmas.List.{length-append}
use Rattle.hera_sets.specs.Rows.{is_same}
use Rattle.hera_causes.specs.declared.traits.Output as output
use Rattle.hera_meaning.specs.declared.schemas.RelDecl.{RelDecl}
use Rattle.hera_meaning.specs.Run.{Report, run_of}
use Rattle.hera_meaning.specs.Trees.{Program_tree}
use Rattle.hera_meaning.specs.Worlds.{Event}
use Rattle.hera_host.specs.Tables.{Host, specs_of}
use Rattle.hera_rules.specs.Bound.{bound, Differs}
use Rattle.hera_bind.specs.Having.{AllHas, IsFirstMissing}
use Rattle.hera_bind.proofs.Found.{all_no_difference}
use Rattle.hera_volume.specs.Disk.{IsSettled, Within}
use Rattle.hera_volume.specs.Time.{Image, IsImageOf, LeavesOnly}
use Rattle.hera_volume.specs.declared.file_id.FileId.{FileId}
use Rattle.hera_volume.specs.declared.file_id.FileId.TheVariants.{Select}
use Rattle.hera_volume.specs.declared.outside.Outside as files
use Rattle.hera_volume.proofs.Moments.{leaves-none, leaves-weaker, leaves-on}
use Rattle.rel_format.specs.declared.version.Version.{Version}
use Rattle.rel_format.specs.declared.version.Version.TheVariants.{One, Two}
use Rattle.rel_format.specs.Pages.{format_one, format_two, pages_of}
use Rattle.rel_format.specs.Journal.{IsHalf, half_limit}
use Rattle.rel_format.specs.Versions.{format_of, version_in, is_old}
use Rattle.commit_journal.specs.Halves.{IsHalfTo}
use Rattle.half_laws.proofs.Halves.{half_version, half_of_is, one_place_of}
use Rattle.hera_store.specs.Databases.{Database, Holds, Names, half_named, IsFound, FilesFound, absent, spoilt, held}
use Rattle.hera_store.specs.Faults.{half_with}
use Rattle.hera_store.specs.Moments.{IsStill, IsUnsynced, LeavesOnceSynced}
use Rattle.hera_store.specs.Standing.{Standing, database_of, other_half, select_byte}
use Rattle.hera_store.proofs.Commits.{stands_holds}
use Rattle.hera_store.proofs.Founds.{found_one}
use Rattle.hera_store.proofs.Renewals.{other_selected}
use Rattle.hera_outcome.specs.declared.answer.Ending.{Ending}
use Rattle.hera_outcome.specs.declared.answer.Stop.{Stop}
use Rattle.hera_outcome.specs.declared.answer.Stop.TheVariants.{Refused, Device, Output, Memory, Full}
use Rattle.hera_outcome.specs.declared.refusal.Refusal.{Refusal}
use Rattle.hera_outcome.specs.declared.refusal.Refusal.TheVariants.{Differing}
use Rattle.hera_outcome.specs.Answers.{number_of, IsFault}
use Rattle.hera_outcome.specs.Cut.{IsCut}
use Rattle.hera_outcome.specs.Outcomes.{Outcome, too_long, text_of_outcome}
use Rattle.hera_outcome.specs.Passages.{Passage, passage, Start, start, LeavesOnceOpened, ReadsAmong, syncs_all, fails_at}
use Rattle.hera_outcome.specs.Told.{HasRisen, IsCause, IsDone, IsCutShort, IsToldBehind, IsGivenUp, IsPending, Tells, Answered}
use Rattle.hera_outcome.proofs.Passing.{pending_on, given_up_there, untouched_by, cause_by, cause_on, answered_by}
use Rattle.hera_run.specs.Fitting.{fitting}
use Rattle.hera_run.specs.Folder.{IsThere, IsClosed, finds_none, finds_damage, StartsAt, outcome_from, RunsTo, closed, differs, overflows, runs}
use Rattle.hera_run.specs.Opening.{IsOpen, IsOpened, IsUnopened, IsRewritten, IsHalted, IsUnwritten, IsFoundFor, IsReady, IsUnready}
use Rattle.hera_run.proofs.Images.{found-settled, holds-settled, nothing-appended}

-- ---- relations and formats

-- a catalogue that lacks one has not all
pub missing_lacks : (catalogue own : List RelDecl) (i : ℕ) → IsFirstMissing catalogue own i → AllHas catalogue own → ⊥
missing_lacks catalogue [] i missing has = missing
missing_lacks catalogue (d ∷ own) zero lacks has = let here = has.0 in lacks here.0 here.1 here.2 here.3 here.4
missing_lacks catalogue (d ∷ own) (suc i) missing has = missing_lacks catalogue own i missing.1 has.1

new_is_two : (v : Version) → is_old v ≡ false → v ≡ Two
new_is_two One e = absurd (cc (e))
new_is_two Two e = refl

old_is_one : (v : Version) → is_old v ≡ true → v ≡ One
old_is_one One e = refl
old_is_one Two e = absurd (cc (e))

two_is_new : (v : Version) → v ≡ Two → is_old v ≡ false
two_is_new v e = ap is_old e

-- what is written has format 2
written_is_two : (db : Database) → version_in (half_with db) ≡ Two
unfolding is_same
written_is_two db = refl

names_one : (bytes : List ℕ) (a b : FileId) → Names bytes a → Names bytes b → a ≡ b
names_one bytes a b first second =
    let same : first.0 ≡ second.0 = let e = sym first.1 ∙ second.1 in cc in
    sym first.2 ∙ ap half_named same ∙ second.2

module _ {D : Type 0} (q : output.Ghosts D) (w : files.Ghosts D) where
  abbrev over : D → D → Passage
  over a b = passage q w a b

  abbrev bytes_at : D → FileId → List ℕ
  bytes_at a f = (w.disk a f).bytes

  -- ---- opened

  pub opened_pending : (a b : D) → (w.told → (f : FileId) → (w.disk b f).bytes ≡ (w.disk a f).bytes) → (w.told → (f : FileId) → Within (w.disk b f) (w.disk a f)) → q.emitted b ≡ q.emitted a
      → q.output_faults b ≡ q.output_faults a → w.device_faults b ≡ w.device_faults a → (w.told → LeavesOnly w.moment w.left_since a b (IsImageOf (w.disk a) (q.emitted a))) → IsPending (over a b)
  opened_pending a b reads within same fine sound moments = record { device = sound; unseen = record { emitted = same; output = fine; reads = reads; within = within; moments = moments } }

  pub given_up_device : (a b : D) → (w.told → (f : FileId) → (w.disk b f).bytes ≡ (w.disk a f).bytes) → (w.told → (f : FileId) → Within (w.disk b f) (w.disk a f)) → q.emitted b ≡ q.emitted a
      → q.output_faults b ≡ q.output_faults a → HasRisen (w.device_faults a) (w.device_faults b) → (w.told → LeavesOnly w.moment w.left_since a b (IsImageOf (w.disk a) (q.emitted a)))
      → (w.told → LeavesOnceSynced w.disk q.emitted w.moment w.left_since w.synced_at a b ⊎ ((f : FileId) × IsUnsynced w.synced_at a b f)) → IsGivenUp 6 (over a b)
  given_up_device a b reads within same fine risen moments failing = record {
    cause = inl (refl, risen);
    unseen = record { emitted = same; output = fine; reads = reads; within = within; moments = moments };
    syncs = λ t. ⊎_elim (λ all. syncs_all all) (λ (f, none). fails_at f none) (failing t);
  }

  pub given_up_memory : (a b : D) → (w.told → (f : FileId) → (w.disk b f).bytes ≡ (w.disk a f).bytes) → (w.told → (f : FileId) → Within (w.disk b f) (w.disk a f)) → q.emitted b ≡ q.emitted a
      → q.output_faults b ≡ q.output_faults a → w.device_faults b ≡ w.device_faults a → (w.told → LeavesOnly w.moment w.left_since a b (IsImageOf (w.disk a) (q.emitted a)))
      → (w.told → LeavesOnceSynced w.disk q.emitted w.moment w.left_since w.synced_at a b) → IsGivenUp 9 (over a b)
  given_up_memory a b reads within same fine sound moments synced = record { cause = inr (refl, sound); unseen = record { emitted = same; output = fine; reads = reads; within = within; moments = moments }; syncs = λ t. syncs_all (synced t) }

  pub still_here : (a b : D) (db : Database) → q.emitted b ≡ q.emitted a → (c : Image) → IsStill db (q.emitted b) c → IsStill db (q.emitted a) c
  still_here a b db same c still = record { found = still.found; emitted = subst (λ (e : Option (List ℕ)). Keeps e (Some c.emitted)) same still.emitted }

  abbrev at_start : D → Start
  at_start a = start w a

  -- what is found in a folder that is opened again it had before
  there_before : (a b : D) (x : FilesFound) → IsPending (over a b) → IsThere (at_start b) x → IsThere (at_start a) x
  there_before a b x p there t =
      let same : bytes_at b ≡ bytes_at a = λ i f. p.unseen.reads t f i in
      subst (λ (files : FileId → List ℕ). IsFound files x) same (there t)

  pub closed_before : (a b : D) (r : Refusal) → IsPending (over a b) → IsClosed (at_start b) r → IsClosed (at_start a) r
  closed_before a b _ p (finds_none x) = finds_none (there_before a b absent p x)
  closed_before a b _ p (finds_damage {file = file} {at = at} x) = finds_damage (there_before a b (spoilt file at) p x)

  closed_never : (a b : D) (r : Refusal) → (w.told → ⊥) → IsClosed (at_start b) r → IsClosed (at_start a) r
  closed_never a b _ never (finds_none x) = finds_none (λ t. absurd (never t))
  closed_never a b _ never (finds_damage {file = file} {at = at} x) = finds_damage (λ t. absurd (never t))

  never_closed : (b : D) (r : Refusal) (db : Database) (t : w.told) → Holds (bytes_at b) db → IsClosed (at_start b) r → ⊥
  never_closed b _ db t holds (finds_none x) = let is = found_one (bytes_at b) absent (held db) (x t) holds in cc (is)
  never_closed b _ db t holds (finds_damage {file = file} {at = at} x) = let is = found_one (bytes_at b) (spoilt file at) (held db) (x t) holds in cc (is)

  -- nothing shows where nothing is told
  pub pending_never : (a b : D) → (w.told → ⊥) → q.emitted b ≡ q.emitted a → q.output_faults b ≡ q.output_faults a → w.device_faults b ≡ w.device_faults a → IsPending (over a b)
  pending_never a b never same fine sound = record {
    device = sound;
    unseen = record { emitted = same; output = fine; reads = λ t. absurd (never t); within = λ t. absurd (never t); moments = λ t. absurd (never t) };
  }

  -- ---- rewritten

  module _ (a b : D) (s : Standing) (opens : IsOpen s (over a a)) (fits : length (half_with (database_of s)) ≤ half_limit) (same : q.emitted b ≡ q.emitted a) (fine : q.output_faults b ≡ q.output_faults a) (sound : w.device_faults b ≡ w.device_faults a)
      (settled : w.told → (f : FileId) → IsSettled (w.disk b f)) (holds : w.told → Holds (bytes_at b) (database_of s)) (selects : w.told → bytes_at b Select ≡ select_byte (other_half s.half) ∷ [])
      (renewed : w.told → bytes_at b (other_half s.half) ≡ half_with (database_of s)) (still : w.told → LeavesOnly w.moment w.left_since a b (IsStill (database_of s) (q.emitted a))) where
    abbrev db : Database
    db = database_of s

    -- the selected half is the one written
    selected_is : (t : w.told) (half : FileId) → Names (bytes_at b Select) half → bytes_at b half ≡ half_with db
    selected_is t half named =
        let ours = other_selected s (bytes_at a Select) (bytes_at b Select) (opens.stands t).named (selects t) in
        ap (bytes_at b) (names_one (bytes_at b Select) half (other_half s.half) named ours) ∙ renewed t

    still_there : (t : w.told) (c : Image) → IsImageOf (w.disk b) (q.emitted b) c → IsStill db (q.emitted a) c
    still_there t c image = record {
      found = holds-settled (w.disk b) db c (settled t) (holds t) image.files;
      emitted = subst (λ (e : Option (List ℕ)). Keeps e (Some c.emitted)) same image.emitted;
    }

    halted : (status : ℕ) (c : D) → IsGivenUp status (over b c) → IsCause status (over a c) → IsHalted db status (over a c)
    halted status c up cause = record {
      cause = cause;
      emitted = up.unseen.emitted ∙ same;
      moments = λ t. leaves-on w.moment w.left_since (still t) (up.unseen.moments t) (λ i image. still_there t i image);
    }

    -- opened again
    module _ (c : D) (next : Standing) (opened : IsOpened next (over b c)) where
      next_bytes : (t : w.told) → (w.disk c next.half).bytes ≡ half_with db
      next_bytes t =
          opened.pending.unseen.reads t next.half ∙ selected_is t next.half (subst (λ (l : List ℕ). Names l next.half) (opened.pending.unseen.reads t Select) (opened.opens.stands t).named)

      next_half : (t : w.told) → IsHalfTo (format_of next.base.version) (half_with db) next.base.catalogue (database_of next).state next.end
      next_half t = subst (λ (l : List ℕ). IsHalfTo (format_of next.base.version) l next.base.catalogue (database_of next).state next.end) (next_bytes t) (opened.opens.stands t).half

      version_is : (t : w.told) → next.base.version ≡ Two
      version_is t = sym (half_version next.base.version (half_with db) next.base.catalogue (database_of next).state (next_half t).half) ∙ written_is_two db

      database_is : (t : w.told) → database_of next ≡ db
      database_is t = let is = found_one (bytes_at b) (held (database_of next)) (held db) (opened.there t) (holds t) in cc (is)

      catalogue_is : (t : w.told) → next.base.catalogue ≡ db.catalogue
      catalogue_is t = ap (λ (x : Database). x.catalogue) (database_is t)

      gate_is : (t : w.told) → suc next.end ≡ length (half_with db)
      gate_is t =
          let two : IsHalfTo (format_of next.base.version) (half_with db) next.base.catalogue (database_of next).state next.end = next_half t in
          let first = length (pages_of format_two db.catalogue db.state) in
          let known = subst (λ (x : Database). IsHalfTo (format_of next.base.version) (half_with db) x.catalogue x.state next.end) (database_is t) two in
          let valid = half_of_is db.catalogue db.state known.half.catalogue opens.state fits in
          let place : next.end ≡ first = one_place_of next.base.version Two (half_with db) db.catalogue db.catalogue db.state db.state next.end first known valid in
          ap suc place ∙ omega (arith, length-append (pages_of format_two db.catalogue db.state) (0 ∷ []))

      rewritten : IsRewritten s next (over a c)
      rewritten = record {
        same = database_is;
        two = λ t. two_is_new next.base.version (version_is t);
        gate = gate_is;
        fits = fits;
        opens = record { stands = opened.opens.stands; unclosed = opened.opens.unclosed; state = opened.opens.state };
        quiet = record { emitted = opened.pending.unseen.emitted ∙ same; output = opened.pending.unseen.output ∙ fine; device = opened.pending.device ∙ sound };
        moments = λ t. leaves-on w.moment w.left_since (still t) (opened.pending.unseen.moments t) (λ i image. still_there t i image);
      }

    six_not_nine : ◌≡◌ {A = ℕ} 6 9 → ⊥
    six_not_nine is = cc (is)

    nine_not_six : ◌≡◌ {A = ℕ} 9 6 → ⊥
    nine_not_six is = cc (is)

    unopened_again : (c : D) (stop : Stop) → IsUnopened stop (over b c) → IsUnwritten s stop (over a c)
    unopened_again c (Refused r) (shut, p) =
        let never : w.told → ⊥ = λ t. never_closed b r db t (holds t) shut in
        (closed_never a b r never shut, pending_never a c never (p.unseen.emitted ∙ same) (p.unseen.output ∙ fine) (p.device ∙ sound))
    unopened_again c Device up =
        let risen = ⊎_elim (λ (six, rose). rose) (λ (nine, quiet). absurd (six_not_nine nine)) up.cause in
        (fits, halted 6 c up (inl (refl, subst (λ (n : ℕ). HasRisen n (w.device_faults c)) sound risen, up.unseen.output ∙ fine)))
    unopened_again c Output none = absurd none
    unopened_again c Memory up =
        let quiet = ⊎_elim (λ (six, rose). absurd (nine_not_six six)) (λ (nine, quiet). quiet) up.cause in
        inr (fits, halted 9 c up (inr (inr (refl, up.unseen.output ∙ fine, quiet ∙ sound))))
    unopened_again c Full none = absurd none

    pub again_rewritten : (c : D) (r : Result Standing Stop) → IfOk r (λ next. IsOpened next (over b c)) → IfOk r (λ next. IsRewritten s next (over a c))
    again_rewritten c (Ok next) opened = rewritten c next opened
    again_rewritten c (Err stop) none = tt

    pub again_unwritten : (c : D) (r : Result Standing Stop) → IfErr r (λ stop. IsUnopened stop (over b c)) → IfErr r (λ stop. IsUnwritten s stop (over a c))
    again_unwritten c (Ok next) none = tt
    again_unwritten c (Err stop) unopened = unopened_again c stop unopened

  -- a call on a file failed while the half was written
  pub written_short : (a b : D) (s : Standing) → length (half_with (database_of s)) ≤ half_limit → HasRisen (w.device_faults a) (w.device_faults b) → q.emitted b ≡ q.emitted a → q.output_faults b ≡ q.output_faults a
      → (w.told → LeavesOnly w.moment w.left_since a b (IsStill (database_of s) (q.emitted a))) → IsUnwritten s Device (over a b)
  written_short a b s fits risen same fine still = (fits, record { cause = inl (refl, risen, fine); emitted = same; moments = still })

  pub full_unwritten : (a b : D) (s : Standing) → half_limit < length (half_with (database_of s)) → b ≡ a → IsUnwritten s Full (over a b)
  full_unwritten a b s past is = subst (λ (x : D). IsUnwritten s Full (over a x)) (sym is) (past, refl)

  pub memory_unwritten : (a b : D) (s : Standing) → b ≡ a → IsUnwritten s Memory (over a b)
  memory_unwritten a b s is = subst (λ (x : D). IsUnwritten s Memory (over a x)) (sym is) (inl refl)

  -- ---- ready

  module _ (a b : D) (s : Standing) (opened : IsOpened s (over a b)) (own : List RelDecl) where
    abbrev found_db : Database
    found_db = database_of s

    still_at : (t : w.told) (c : Image) → IsImageOf (w.disk b) (q.emitted b) c → IsStill found_db (q.emitted a) c
    still_at t c image = record {
      found = found-settled (w.disk b) s c (opened.opens.stands t) image.files;
      emitted = subst (λ (e : Option (List ℕ)). Keeps e (Some c.emitted)) opened.pending.unseen.emitted image.emitted;
    }

    -- what a stop leaves behind the opening
    pub once : (c : D) (P : Image → Type 0) (t : w.told) → ((i : Image) → IsStill found_db (q.emitted a) i → P i) → LeavesOnly w.moment w.left_since b c P → LeavesOnceOpened w.disk q.emitted w.moment w.left_since w.synced_at a c P
    once c P t weaker behind = record {
      between = b;
      before = untouched_by q w a b opened.pending.unseen t;
      settled = (opened.opens.stands t).settled;
      synced = opened.synced t;
      there = λ i image. weaker i (still_at t i image);
      behind = behind;
    }

    pub named_before : (t : w.told) → Names (bytes_at a Select) s.half
    named_before t = subst (λ (l : List ℕ). Names l s.half) (opened.pending.unseen.reads t Select) (opened.opens.stands t).named

    half_before : (t : w.told) → IsHalfTo (format_of s.base.version) (bytes_at a s.half) s.base.catalogue found_db.state s.end
    half_before t = subst (λ (l : List ℕ). IsHalfTo (format_of s.base.version) l s.base.catalogue found_db.state s.end) (opened.pending.unseen.reads t s.half) (opened.opens.stands t).half

    pub ready_as_opened : (AllHas s.base.catalogue own → is_old s.base.version ≡ false) → IsReady own s (over a b)
    ready_as_opened new = record {
      there = opened.there;
      starts = λ has t. record {
        half = s.half;
        named = named_before t;
        starts = inl (subst (λ (v : Version). IsHalfTo (format_of v) (bytes_at a s.half) found_db.catalogue found_db.state s.end) (new_is_two s.base.version (new has)) (half_before t));
      };
      opens = opened.opens;
      quiet = record { emitted = opened.pending.unseen.emitted; output = opened.pending.unseen.output; device = opened.pending.device };
      moments = λ t. once b _ t (λ i still. still) (leaves-none w.moment w.left_since b _);
      lacks = λ no. opened.pending;
      so_far = inl (opened.pending, opened.synced);
    }

    module _ (old : is_old s.base.version ≡ true) (has : AllHas s.base.catalogue own) where
      pub old_half : (t : w.told) → IsHalf format_one (bytes_at a s.half) found_db.catalogue found_db.state
      old_half t = subst (λ (v : Version). IsHalf (format_of v) (bytes_at a s.half) found_db.catalogue found_db.state) (old_is_one s.base.version old) (half_before t).half

      pub starts_at : (t : w.told) (gate : ℕ) → suc gate ≡ length (half_with found_db) → length (half_with found_db) ≤ half_limit → StartsAt (bytes_at a) found_db gate
      starts_at t gate place fits = record { half = s.half; named = named_before t; starts = inr (record { old = old_half t; place = place; fits = fits }) }

      unfoldable pub found_for : (c : D) → length (half_with found_db) ≤ half_limit → (w.told → LeavesOnly w.moment w.left_since b c (IsStill found_db (q.emitted b))) → IsFoundFor own (over a c)
      found_for c fits still = record {
        db = found_db;
        gate = length (pages_of format_two found_db.catalogue found_db.state);
        there = opened.there;
        starts = λ t. starts_at t _ (omega (arith, length-append (pages_of format_two found_db.catalogue found_db.state) (0 ∷ []))) fits;
        has = has;
        moments = λ t. once c _ t (λ i here. here) (leaves-weaker w.moment w.left_since (still t) (still_here a b found_db opened.pending.unseen.emitted));
      }

      pub ready_rewritten : (c : D) (next : Standing) → IsRewritten s next (over b c) → IsReady own next (over a c)
      ready_rewritten c next done =
          let quiet_emitted = done.quiet.emitted ∙ opened.pending.unseen.emitted in
          let quiet_output = done.quiet.output ∙ opened.pending.unseen.output in
          let quiet_device = done.quiet.device ∙ opened.pending.device in
          let has_next : w.told → AllHas next.base.catalogue own = λ t. subst (λ (x : Database). AllHas x.catalogue own) (sym (done.same t)) has in
          record {
            there = λ t. subst (λ (x : Database). IsFound (bytes_at a) (held x)) (sym (done.same t)) (opened.there t);
            starts = λ had t. subst (λ (x : Database). StartsAt (bytes_at a) x next.end) (sym (done.same t)) (starts_at t next.end (done.gate t) done.fits);
            opens = record { stands = done.opens.stands; unclosed = done.opens.unclosed; state = done.opens.state };
            quiet = record { emitted = quiet_emitted; output = quiet_output; device = quiet_device };
            moments = λ t. subst (λ (x : Database). LeavesOnceOpened w.disk q.emitted w.moment w.left_since w.synced_at a c (IsStill x (q.emitted a))) (sym (done.same t))
                (once c _ t (λ i here. here) (leaves-weaker w.moment w.left_since (done.moments t) (still_here a b found_db opened.pending.unseen.emitted)));
            lacks = λ no. pending_never a c (λ t. no (has_next t)) quiet_emitted quiet_output quiet_device;
            so_far = inr (found_for c done.fits done.moments);
          }

      pub cause_before : (status : ℕ) (c : D) → IsCause status (over b c) → IsCause status (over a c)
      cause_before status c cause = cause_on q w a b opened.pending status c cause

      unready_unwritten : (c : D) (stop : Stop) → IsUnwritten s stop (over b c) → IsUnready own stop (over a c)
      unready_unwritten c (Refused r) (shut, p) = (closed_before a b r opened.pending shut, pending_on q w a b opened.pending c p)
      unready_unwritten c Device (fits, halt) = inr (found_for c fits halt.moments, cause_before 6 c halt.cause, halt.emitted ∙ opened.pending.unseen.emitted)
      unready_unwritten c Output none = absurd none
      unready_unwritten c Memory (inl is) = inl (subst (λ (x : D). IsGivenUp 9 (over a x)) (sym is) (given_up_there q w a b opened.pending (λ t. syncs_all (opened.synced t))))
      unready_unwritten c Memory (inr (fits, halt)) = inr (found_for c fits halt.moments, cause_before 9 c halt.cause, halt.emitted ∙ opened.pending.unseen.emitted)
      unready_unwritten c Full (past, is) = subst (λ (x : D). IsUnready own Full (over a x)) (sym is) (
        found_db,
        opened.there,
        (λ t. record { half = s.half; named = named_before t; old = old_half t; past = past }),
        has,
        opened.pending,
        (λ t. record { settled = (opened.opens.stands t).settled; holds = stands_holds (w.disk b) s (opened.opens.stands t) }),
        (λ t. once b _ t (λ i here. here) (leaves-none w.moment w.left_since b _)),
      )

      pub rewritten_ready : (c : D) (r : Result Standing Stop) → IfOk r (λ next. IsRewritten s next (over b c)) → IfOk r (λ next. IsReady own next (over a c))
      rewritten_ready c (Ok next) done = ready_rewritten c next done
      rewritten_ready c (Err stop) none = tt

      pub unwritten_unready : (c : D) (r : Result Standing Stop) → IfErr r (λ stop. IsUnwritten s stop (over b c)) → IfErr r (λ stop. IsUnready own stop (over a c))
      unwritten_unready c (Ok next) none = tt
      unwritten_unready c (Err stop) unwritten = unready_unwritten c stop unwritten

  pub unready_unopened : (a b : D) (own : List RelDecl) (stop : Stop) → IsUnopened stop (over a b) → IsUnready own stop (over a b)
  unready_unopened a b own (Refused r) shut = shut
  unready_unopened a b own Device up = inl up
  unready_unopened a b own Output none = absurd none
  unready_unopened a b own Memory up = inl up
  unready_unopened a b own Full none = absurd none

  -- ---- a run

  -- a cut at the start
  pub cut_still : (db : Database) (events : List Event) (start : Option (List ℕ)) (c : Image) → IsStill db start c → IsCut events db start c
  cut_still db events start c still = record {
    done = [];
    rest = events;
    split = refl;
    front = 0;
    bytes = nothing-appended start (Some c.emitted) still.emitted;
    state = db.state;
    found = still.found;
    stored = inl refl;
  }

  pub once_weaker : (a c : D) (P Q : Image → Type 0) → ((i : Image) → P i → Q i) → LeavesOnceOpened w.disk q.emitted w.moment w.left_since w.synced_at a c P → LeavesOnceOpened w.disk q.emitted w.moment w.left_since w.synced_at a c Q
  once_weaker a c P Q weaker opens = record {
    between = opens.between;
    before = opens.before;
    settled = opens.settled;
    synced = opens.synced;
    there = λ i image. weaker i (opens.there i image);
    behind = leaves-weaker w.moment w.left_since opens.behind weaker;
  }

  pub once_longer : (a b c : D) (P Q : Image → Type 0) → ((i : Image) → P i → Q i) → LeavesOnceOpened w.disk q.emitted w.moment w.left_since w.synced_at a b P → LeavesOnly w.moment w.left_since b c Q
      → LeavesOnceOpened w.disk q.emitted w.moment w.left_since w.synced_at a c Q
  once_longer a b c P Q weaker opens more = record {
    between = opens.between;
    before = opens.before;
    settled = opens.settled;
    synced = opens.synced;
    there = λ i image. weaker i (opens.there i image);
    behind = leaves-on w.moment w.left_since (leaves-weaker w.moment w.left_since opens.behind weaker) more (λ i p. p);
  }

  module _ (read : (a c : D) (P : Image → Type 0) → w.told → LeavesOnceOpened w.disk q.emitted w.moment w.left_since w.synced_at a c P → ReadsAmong P (over a c)) (hosts : List Host) (turns : ℕ) (p : Program_tree) where
    abbrev report_of : Database → Report
    report_of db = run_of (bound p db.catalogue) db.state (specs_of hosts) turns

    -- it was cut short before the first event
    cut_before : (a c : D) (status : ℕ) → IsFoundFor p.relations (over a c) → IsCause status (over a c) → q.emitted c ≡ q.emitted a → Tells (RunsTo hosts turns p (at_start a)) status (over a c)
    cut_before a c status found cause same = inl (
      outcome_from found.db found.gate (report_of found.db),
      runs found.there found.starts found.has,
      record {
        ending = inr (record { cause = cause; front = (0, subst (λ (e : Option (List ℕ)). Appends (q.emitted a) e []) (sym same) (Appends-nil (q.emitted a))); files = λ t. read a c _ t (once_weaker a c _ _ (λ i still. cut_still found.db _ (q.emitted a) i still) (found.moments t)) });
        moments = λ t. once_weaker a c _ _ (λ i still. cut_still found.db _ (q.emitted a) i still) (found.moments t);
      },
    )

    pub unready_answered : (a c : D) (stop : Stop) → IsUnready p.relations stop (over a c) → Answered (RunsTo hosts turns p (at_start a)) (Err stop) (over a c)
    unready_answered a c (Refused r) (shut, pend) = (closed shut, pend)
    unready_answered a c Device (inl up) = inr up
    unready_answered a c Device (inr (found, cause, same)) = cut_before a c 6 found cause same
    unready_answered a c Output none = absurd none
    unready_answered a c Memory (inl up) = inr up
    unready_answered a c Memory (inr (found, cause, same)) = cut_before a c 9 found cause same
    unready_answered a c Full (db, there, over_full, has, pend, stored, still) = inl (
      too_long db,
      overflows there over_full has,
      record {
        ending = inl (record {
          own_status = refl;
          whole_text = subst (λ (e : Option (List ℕ)). Appends (q.emitted a) e []) (sym pend.unseen.emitted) (Appends-nil (q.emitted a));
          files = pend.unseen.reads;
          output = pend.unseen.output;
          device = pend.device;
        });
        moments = still;
      },
    )

    module _ (a b : D) (s : Standing) (ready : IsReady p.relations s (over a b)) where
      pub memory_answered : Answered (RunsTo hosts turns p (at_start a)) (Err Memory) (over a b)
      memory_answered = ⊎_elim (λ (pend, synced). inr (given_up_there q w a b pend (λ t. syncs_all (synced t)))) (λ found. cut_before a b 9 found (inr (inr (refl, ready.quiet.output, ready.quiet.device))) ready.quiet.emitted) ready.so_far

      pub differs_answered : (name : List ℕ) → Differs s.base.catalogue p.relations name → Answered (RunsTo hosts turns p (at_start a)) (Err (Refused (Differing name))) (over a b)
      differs_answered name lacks = (differs ready.there lacks, ready.lacks (λ has. all_no_difference s.base.catalogue p.relations name has lacks))

      abbrev our_events : List Event
      our_events = fitting (Some s.end) (report_of (database_of s)).events

      abbrev ours : Outcome
      ours = outcome_from (database_of s) s.end (report_of (database_of s))

      said_before : (text : List ℕ) (c : D) → Appends (q.emitted b) (q.emitted c) text → Appends (q.emitted a) (q.emitted c) text
      said_before text c said = subst (λ (e : Option (List ℕ)). Appends e (q.emitted c) text) ready.quiet.emitted said

      ending_quiet : (c : D) (status : ℕ) → (w.told → ReadsAmong (IsCut our_events (database_of s) (q.emitted a)) (over a c)) → IsDone ours status (over b c) ⊎ IsCutShort ours status (over b c) → IsDone ours status (over a c) ⊎ IsCutShort ours status (over a c)
      ending_quiet c status reads ending =
          ⊎_elim
          (λ done. inl (record {
            own_status = done.own_status;
            whole_text = said_before (text_of_outcome ours) c done.whole_text;
            files = λ t. record { settled = (done.files t).settled; holds = (done.files t).holds };
            output = done.output ∙ ready.quiet.output;
            device = done.device ∙ ready.quiet.device;
          }))
          (λ short. inr (record {
            cause = cause_by q w a b ready.quiet.device ready.quiet.output status c short.cause;
            front = (let (n, said) = short.front in (n, said_before (take n (text_of_outcome ours)) c said));
            files = reads;
          }))
          ending

      pub run_answered : (c : D) (answer : Result Ending Stop) → AllHas s.base.catalogue p.relations → IfErr answer IsFault → IsToldBehind ours (number_of answer) (over b c)
          → Answered (RunsTo hosts turns p (at_start a)) answer (over a c)
      run_answered c answer has fault told =
          let moments : w.told → LeavesOnceOpened w.disk q.emitted w.moment w.left_since w.synced_at a c (IsCut our_events (database_of s) (q.emitted a)) = λ t.
          once_longer a b c _ _ (λ i still. cut_still (database_of s) our_events (q.emitted a) i still) (ready.moments t)
          (subst (λ (e : Option (List ℕ)). LeavesOnly w.moment w.left_since b c (IsCut our_events (database_of s) e)) ready.quiet.emitted (told.moments t)) in
          answered_by (RunsTo hosts turns p (at_start a)) answer (over a c) fault
          (inl (
            ours,
            runs ready.there (ready.starts has) has,
            record { ending = ending_quiet c (number_of answer) (λ t. read a c _ t (moments t)) told.ending; moments = moments },
          ))
