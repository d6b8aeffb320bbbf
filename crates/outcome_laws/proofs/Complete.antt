-- A call does the whole of what it comes to, but where a call fails or there is no memory.
use Rattle.std.proofs.Common.{◌≡◌, ◌≢◌, ◌≤◌, ◌⊎◌, inl, inr, ⊎_elim, ℕ, Bool, true, cond, List, [], ◌∷◌, length, Some, refl, sym, ap, ◌∙◌, subst, append-nil}
use Rattle.hera_causes.specs.Causes.{Rose}
use Rattle.hera_meaning.specs.Run.{Report, run_of}
use Rattle.hera_meaning.specs.Trees.{Program_tree}
use Rattle.hera_meaning.specs.Worlds.{Event}
use Rattle.hera_host.specs.Tables.{Host, specs_of}
use Rattle.hera_rules.specs.Accepted.{Accepted}
use Rattle.hera_rules.specs.Bound.{bound}
use Rattle.hera_bind.specs.Having.{AllHas}
use Rattle.hera_syntax.specs.Tokens.{script_limit}
use Rattle.hera_volume.specs.declared.file_id.FileId.{FileId}
use Rattle.hera_store.specs.Databases.{Database, Holds, held, IsFound}
use Rattle.hera_outcome.specs.Outcomes.{Outcome, ends, full, refused, carried, status_of_outcome}
use Rattle.hera_outcome.specs.Passages.{Passage, Start, start_of}
use Rattle.hera_outcome.specs.Told.{IsDone, IsTold, IsGivenUp}
use Rattle.hera_outcome.specs.declared.refusal.Refusal.TheVariants.{Unread}
use Rattle.hera_run.specs.Fitting.{all_fit}
use Rattle.hera_run.specs.Folder.{outcome_from, StartsAt, runs as comes_to_run}
use Rattle.hera_run.proofs.Fittings.{fitting-all}
use Rattle.hera_words.specs.declared.command.Command.{Command}
use Rattle.hera_words.specs.declared.command.Command.TheVariants.{Pack, Run}
use Rattle.hera_top.specs.Commands.{ComesTo, reads, performs, runs, Answers, tells, fails}
use Rattle.hera_top.specs.Sources.{Seen, OneFailed}
use Rattle.hera_top.specs.Told.{HaveLeft, BeginsWith, full_sources}
use Rattle.outcome_laws.proofs.OneComes.{one_comes}
use Rattle.outcome_laws.proofs.OneGuarded.{OneRules, OneLines, NeverRules}
use Rattle.outcome_laws.proofs.OneWoven.{OneSchedule}
use Rattle.outcome_laws.proofs.OneCoded.{OneExecuted}
use Rattle.outcome_laws.proofs.OneOutcome.{OneRefusal, NeverBoth, OneProgram, OneFound, OneEnd, OneVersion}
use Rattle.hera_top.proofs.Statuses.{comes_odd}

-- ---- nothing failed

pub told_done : (outcome : Outcome) (status : ℕ) (v : Passage) → ¬ Rose v.device_before v.device_now → ¬ Rose v.output_before v.output_now → IsTold outcome status v → (status ≡ 9) ⊎ IsDone outcome status v
told_done outcome status v device output told =
    ⊎_elim (λ done. inr done)
    (λ cut. ⊎_elim (λ six. absurd (device six.1.rose)) (λ later. ⊎_elim (λ eight. absurd (output eight.1.rose)) (λ nine. inl nine.0) later) cut.cause) told.ending

up_done : (outcome : Outcome) (status : ℕ) (v : Passage) → ¬ Rose v.device_before v.device_now → IsGivenUp status v → (status ≡ 9) ⊎ IsDone outcome status v
up_done outcome status v device up = ⊎_elim (λ six. absurd (device six.1.rose)) (λ nine. inl nine.0) up.cause

-- no source failed
not_unread : (hosts : List Host) (name : List ℕ) (before now : List Seen) (s : Start) (command : Command) (outcome : Outcome) → ¬ OneFailed before now → ComesTo hosts name before now s command outcome → outcome ≢ refused Unread
not_unread hosts name before now s command outcome fine came = λ is. fine (comes_odd hosts name before now s command outcome came (inr (inr (inl (ap status_of_outcome is))))).1

-- full sources have their texts left
full_have : (texts : List (List ℕ)) → HaveLeft texts (full_sources texts)
full_have [] = tt
full_have (text ∷ texts) = (refl, full_have texts)

module _ (one : OneRefusal) (never : NeverBoth) (program : OneProgram) (found : OneFound) (end : OneEnd) (version : OneVersion) (rules : OneRules) (line_lists : OneLines) (both : NeverRules) (schedules : OneSchedule) (executed : OneExecuted) (hosts : List Host) (name : List ℕ) (command : Command) (texts : List (List ℕ)) (files : FileId → List ℕ) (packs_none : command ≢ Pack) where
  -- what came is what was to come
  same_outcome : (before now after : List Seen) (s : Start) (came outcome : Outcome) → BeginsWith texts files before s → ¬ OneFailed before now → ComesTo hosts name before now s command came
      → ComesTo hosts name (full_sources texts) after s command outcome → outcome ≢ refused Unread → came ≡ outcome
  same_outcome before now after s came outcome begins fine did wanted other =
      one_comes one never program found end version rules line_lists both schedules executed hosts name texts files before now (full_sources texts) after s s begins
      (record { texts_told = full_have texts; files_told = begins.files_told; reads = begins.reads }) came outcome (not_unread hosts name before now s command came fine did) other command packs_none did wanted

  pub a_call_is_complete : (before now after : List Seen) (v : Passage) (status : ℕ) (outcome : Outcome) → BeginsWith texts files before (start_of v) → ¬ OneFailed before now
      → ¬ Rose v.device_before v.device_now → ¬ Rose v.output_before v.output_now → ComesTo hosts name (full_sources texts) after (start_of v) command outcome → outcome ≢ refused Unread
      → Answers hosts name command before now status v → (status ≡ 9) ⊎ IsDone outcome status v
  a_call_is_complete before now after v status outcome begins fine device output wanted other (tells {outcome = came} did told) =
      subst (λ (o : Outcome). (status ≡ 9) ⊎ IsDone o status v) (same_outcome before now after (start_of v) came outcome begins fine did wanted other) (told_done came status v device output told)
  a_call_is_complete before now after v status outcome begins fine device output wanted other (fails still up) = up_done outcome status v device up

-- ---- runs

abbrev IsCutOrDone : Outcome → ℕ → Passage → Type 0
IsCutOrDone outcome status v = (status ≡ 6) ⊎ (status ≡ 8) ⊎ (status ≡ 9) ⊎ IsDone outcome status v

cut_or_done : (outcome : Outcome) (status : ℕ) (v : Passage) → IsTold outcome status v → IsCutOrDone outcome status v
cut_or_done outcome status v told =
    ⊎_elim (λ done. inr (inr (inr done)))
    (λ cut. ⊎_elim (λ six. inl six.0) (λ later. ⊎_elim (λ eight. inr (inl eight.0)) (λ nine. inr (inr (inl nine.0))) later) cut.cause) told.ending

up_or_done : (outcome : Outcome) (status : ℕ) (v : Passage) → IsGivenUp status v → IsCutOrDone outcome status v
up_or_done outcome status v up = ⊎_elim (λ six. inl six.0) (λ nine. inr (inr (inl nine.0))) up.cause

-- a source that has nothing left
abbrev drained : List Seen
drained = record { left = Some []; faults = 0 } ∷ []

fit_whole : (db : Database) (gate : ℕ) (report : Report) → all_fit (Some gate) report.events ≡ true → outcome_from db gate report ≡ carried db report.events (ends report.finish)
fit_whole db gate report fit =
    ap (λ (es : List Event). carried db es (cond (all_fit (Some gate) report.events) (ends report.finish) full)) (fitting-all (Some gate) report.events fit)
    ∙ ap (λ (b : Bool). carried db report.events (cond b (ends report.finish) full)) fit

module _ (hosts : List Host) (name : List ℕ) (turns : ℕ) (script : List ℕ) (files : FileId → List ℕ) (p : Program_tree) (db : Database) (gate : ℕ) (s : Start)
    (reads_so : (f : FileId) → (s.disks f).bytes ≡ files f) (short : length script ≤ script_limit) (accepted : Accepted script hosts p)
    (holds : Holds files db) (ends_so : StartsAt files db gate) (has : AllHas db.catalogue p.relations) where
  abbrev same_files : files ≡ (λ (f : FileId). (s.disks f).bytes)
  same_files = λ i f. sym (reads_so f) i

  comes : ComesTo hosts name (full_sources (script ∷ [])) drained s (Run turns) (outcome_from db gate (run_of (bound p db.catalogue) db.state (specs_of hosts) turns))
  comes =
      reads script (record { consumed = sym (append-nil script); ended = inl refl; still = refl })
      (performs short accepted
      (runs
      (comes_to_run (λ told. subst (λ (g : FileId → List ℕ). IsFound g (held db)) same_files holds) (λ told. subst (λ (g : FileId → List ℕ). StartsAt g db gate) same_files ends_so) has)))

pub a_run_is_complete : OneRefusal → NeverBoth → OneProgram → OneFound → OneEnd → OneVersion → OneRules → OneLines → NeverRules → OneSchedule → OneExecuted
    → (hosts : List Host) (name : List ℕ) (turns : ℕ) (script : List ℕ) (files : FileId → List ℕ) (p : Program_tree) (db : Database) (gate : ℕ) (before now : List Seen) (v : Passage) (status : ℕ)
    → BeginsWith (script ∷ []) files before (start_of v) → ¬ OneFailed before now → length script ≤ script_limit → Accepted script hosts p
    → Holds files db → StartsAt files db gate → AllHas db.catalogue p.relations → all_fit (Some gate) (run_of (bound p db.catalogue) db.state (specs_of hosts) turns).events ≡ true
    → Answers hosts name (Run turns) before now status v
    → (status ≡ 6) ⊎ (status ≡ 8) ⊎ (status ≡ 9)
    ⊎ IsDone (carried db (run_of (bound p db.catalogue) db.state (specs_of hosts) turns).events (ends (run_of (bound p db.catalogue) db.state (specs_of hosts) turns).finish)) status v
a_run_is_complete one never program found end version rules line_lists both schedules executed hosts name turns script files p db gate before now v status begins fine short accepted holds ends_so has fit (tells {outcome} did told) =
    let report = run_of (bound p db.catalogue) db.state (specs_of hosts) turns in
    let same : outcome ≡ outcome_from db gate report =
    same_outcome one never program found end version rules line_lists both schedules executed hosts name (Run turns) (script ∷ []) files (λ is. cc (is)) before now drained (start_of v) outcome (outcome_from db gate report) begins fine did
    (comes hosts name turns script files p db gate (start_of v) begins.reads short accepted holds ends_so has) (λ is. cc (is)) in
    let whole = same ∙ fit_whole db gate report fit in
    cut_or_done (carried db report.events (ends report.finish)) status v (subst (λ (o : Outcome). IsTold o status v) whole told)
a_run_is_complete one never program found end version rules line_lists both schedules executed hosts name turns script files p db gate before now v status begins fine short accepted holds ends_so has fit (fails still up) =
    up_or_done (carried db (run_of (bound p db.catalogue) db.state (specs_of hosts) turns).events (ends (run_of (bound p db.catalogue) db.state (specs_of hosts) turns).finish)) status v up
