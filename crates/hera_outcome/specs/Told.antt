-- How an outcome is told, and how a call answers.
use Rattle.std.specs.Prelude.{◌≡◌, ◌≤◌, ◌⊎◌, ℕ, List, take, Result, Ok, Err, OnOk, OnErr, IfErr}
use Rattle.std.specs.Io.KnownBytes.{Appends}
use Rattle.hera_volume.specs.Time.{IsImageAmid}
use Rattle.hera_causes.specs.Causes.{Rose}
use Rattle.hera_outcome.specs.declared.answer.Ending.{Ending}
use Rattle.hera_outcome.specs.declared.answer.Stop.{Stop}
use Rattle.hera_outcome.specs.declared.answer.Stop.TheVariants.{Refused, Device, Output, Memory, Full}
use Rattle.hera_outcome.specs.Answers.{number_of_ending}
use Rattle.hera_outcome.specs.Outcomes.{Outcome, refused, text_of_outcome, status_of_outcome, FilesAfter, FilesMidway, MomentsOf, MomentsBehind}
use Rattle.hera_outcome.specs.Passages.{Passage, KeepsFiles, IsUnseen, HasSynced}

-- ---- faults

-- a count of faults has not fallen, and it rose
pub record HasRisen (before now : ℕ) : Type 0 where
  pub later : before ≤ now
  pub rose : Rose before now

-- The one clause for faults: a call on a file failed (6), or the output did (8), or there was no memory (9), and nothing
-- else failed. Only such a status comes of a fault.
abbrev pub IsCause : ℕ → Passage → Type 0
IsCause status v =
    ((status ≡ 6) × HasRisen v.device_before v.device_now × (v.output_now ≡ v.output_before))
    ⊎ ((status ≡ 8) × HasRisen v.output_before v.output_now × (v.device_now ≡ v.device_before))
    ⊎ ((status ≡ 9) × (v.output_now ≡ v.output_before) × (v.device_now ≡ v.device_before))

-- the faults of a call that stops so: those that it tells, and no other
abbrev pub StopFaults : Stop → Passage → Type 0
StopFaults (Refused refusal) v = ⊥
StopFaults Device v = HasRisen v.device_before v.device_now × (v.output_now ≡ v.output_before)
StopFaults Output v = HasRisen v.output_before v.output_now × (v.device_now ≡ v.device_before)
StopFaults Memory v = (v.output_now ≡ v.output_before) × (v.device_now ≡ v.device_before)
StopFaults Full v = (v.output_now ≡ v.output_before) × (v.device_now ≡ v.device_before)

-- the same of a call that gives this result
abbrev pub FaultsBy : {T : Type 0} → Result T Stop → Passage → Type 0
FaultsBy (Ok x) v = (v.output_now ≡ v.output_before) × (v.device_now ≡ v.device_before)
FaultsBy (Err stop) v = StopFaults stop v

-- ---- outcomes told

-- the whole text, its status and its files; no call failed
pub record IsDone (outcome : Outcome) (status : ℕ) (v : Passage) : Type 0 where
  pub own_status : status ≡ status_of_outcome outcome
  pub whole_text : Appends v.emitted_before v.emitted_now (text_of_outcome outcome)
  pub files : v.told → FilesAfter outcome v
  pub output : v.output_now ≡ v.output_before
  pub device : v.device_now ≡ v.device_before

-- a prefix of the text
pub record IsCutShort (outcome : Outcome) (status : ℕ) (v : Passage) : Type 0 where
  pub cause : IsCause status v
  pub front : (n : ℕ) × Appends v.emitted_before v.emitted_now (take n (text_of_outcome outcome))
  pub files : v.told → FilesMidway outcome status v

-- the outcome was told whole or cut short, and this is what a stop at any moment leaves
pub record IsTold (outcome : Outcome) (status : ℕ) (v : Passage) : Type 0 where
  pub ending : IsDone outcome status v ⊎ IsCutShort outcome status v
  pub moments : v.told → MomentsOf outcome v

-- the same of a call that begins over an open folder
pub record IsToldBehind (outcome : Outcome) (status : ℕ) (v : Passage) : Type 0 where
  pub ending : IsDone outcome status v ⊎ IsCutShort outcome status v
  pub moments : v.told → MomentsBehind outcome v

-- A call on a file failed or there was no memory, and nothing was done that shows. Behind the syncs a stop leaves only what
-- it may leave at the end.
pub record IsGivenUp (status : ℕ) (v : Passage) : Type 0 where
  pub cause : ((status ≡ 6) × HasRisen v.device_before v.device_now) ⊎ ((status ≡ 9) × (v.device_now ≡ v.device_before))
  pub unseen : IsUnseen v
  pub syncs : v.told → HasSynced v

-- ---- a text

-- A text was said whole; or the output failed behind a prefix of it. The files were left alone, and a stop leaves them as
-- it would have, and a prefix of the text.
pub record Says {T : Type 0} (text : List ℕ) (result : Result T Stop) (v : Passage) : Type 0 where
  pub whole : OnOk result (Appends v.emitted_before v.emitted_now text × (v.output_now ≡ v.output_before))
  pub part : OnErr result (((n : ℕ) × Appends v.emitted_before v.emitted_now (take n text)) × HasRisen v.output_before v.output_now)
  pub fault : IfErr result (λ stop. stop ≡ Output)
  pub keeps : KeepsFiles v
  pub moments : v.told → v.leaves_only (IsImageAmid v.disks_before v.emitted_before text)

-- ---- answers

-- one of these outcomes was told; or before it was known the call gave up
abbrev pub Tells : (Outcome → Type 0) → ℕ → Passage → Type 0
Tells Comes status v = ((outcome : Outcome) × Comes outcome × IsTold outcome status v) ⊎ IsGivenUp status v

abbrev pub TellsBehind : (Outcome → Type 0) → ℕ → Passage → Type 0
TellsBehind Comes status v = ((outcome : Outcome) × Comes outcome × IsToldBehind outcome status v) ⊎ IsGivenUp status v

-- nothing was done that shows, and nothing failed
pub record IsPending (v : Passage) : Type 0 where
  pub device : v.device_now ≡ v.device_before
  pub unseen : IsUnseen v

-- How a call answers that comes to one of these outcomes: it was told, with this status; or it is a refusal, which is
-- still to be told.
abbrev pub Answered : (Outcome → Type 0) → Result Ending Stop → Passage → Type 0
Answered Comes (Ok ending) v = Tells Comes (number_of_ending ending) v
Answered Comes (Err (Refused refusal)) v = Comes (refused refusal) × IsPending v
Answered Comes (Err Device) v = Tells Comes 6 v
Answered Comes (Err Output) v = Tells Comes 8 v
Answered Comes (Err Memory) v = Tells Comes 9 v
Answered Comes (Err Full) v = Tells Comes 10 v
