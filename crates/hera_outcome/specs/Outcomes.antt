-- What a command comes to, and what is seen of it.
use Rattle.std.specs.Prelude.{◌≡◌, ◌⊎◌, ℕ, List, [], Option, Some, take, codes}
use Rattle.std.specs.Io.KnownBytes.{Appends}
use Rattle.hera_meaning.specs.declared.schemas.RelDecl.{RelDecl}
use Rattle.hera_meaning.specs.Worlds.{Event}
use Rattle.hera_meaning.specs.Run.{Report, Finish, finished, stopped, out_of_turns, printed, output_of, state_after}
use Rattle.hera_volume.specs.Time.{Image, IsImageAmid}
use Rattle.hera_volume.specs.declared.file_id.FileId.{FileId}
use Rattle.hera_volume.specs.declared.file_id.FileId.TheVariants.{Select}
use Rattle.hera_store.specs.Databases.{Database, empty_database, Holds, Names}
use Rattle.hera_store.specs.Standing.{other_half}
use Rattle.hera_store.specs.Faults.{half_with}
use Rattle.hera_store.specs.Moments.{IsStill, IsEither, IsNoneOr}
use Rattle.hera_outcome.specs.declared.refusal.Refusal.{Refusal}
use Rattle.hera_outcome.specs.Cut.{IsCut, with_state}
use Rattle.hera_outcome.specs.Passages.{Passage, ReadsAsBefore, ReadsAs, ReadsAmong, Stores}
use Rattle.hera_outcome.specs.Refusals.{line_of, status_of_refusal}

-- ---- outcomes

-- how a list of events came to its end: as the meaning ends, before a store for which the half is too full, or with the line
-- of a row that breaks a guard
pub data Ended : Type 0 where
  ends : Finish → Ended
  full : Ended
  broken : Ended

-- a refusal; a text, printed; a run over no folder; the database of these relations, made without rows; this database,
-- printed anew into the other half; a database that is widened to another; a database too long for one of these; or
-- events that are carried out over a database
pub data Outcome : Type 0 where
  refused : Refusal → Outcome
  prints : List ℕ → Outcome
  ran : Report → Outcome
  made : List RelDecl → Outcome
  renewed : Database → Outcome
  widened : Database → Database → Outcome
  too_long : Database → Outcome
  carried : Database → List Event → Ended → Outcome

-- all that is printed
abbrev pub text_of_outcome : Outcome → List ℕ
text_of_outcome (refused refusal) = line_of refusal
text_of_outcome (prints text) = text
text_of_outcome (ran report) = output_of report
text_of_outcome (made rels) = codes "created\n"
text_of_outcome (renewed db) = codes "checkpointed\n"
text_of_outcome (widened old new) = codes "widened\n"
text_of_outcome (too_long db) = []
text_of_outcome (carried db events ended) = printed events

abbrev pub status_of_finish : Finish → ℕ
status_of_finish finished = 0
status_of_finish (stopped name at) = 1
status_of_finish out_of_turns = 4

abbrev pub status_of_ended : Ended → ℕ
status_of_ended (ends finish) = status_of_finish finish
status_of_ended full = 10
status_of_ended broken = 11

abbrev pub status_of_outcome : Outcome → ℕ
status_of_outcome (refused refusal) = status_of_refusal refusal
status_of_outcome (prints text) = 0
status_of_outcome (ran report) = status_of_finish report.finish
status_of_outcome (made rels) = 0
status_of_outcome (renewed db) = 0
status_of_outcome (widened old new) = 0
status_of_outcome (too_long db) = 10
status_of_outcome (carried db events ended) = status_of_ended ended

-- ---- the files

-- `select` names the other half than before, and that half is this database in its pages
pub record IsRenewed (db : Database) (before now : FileId → List ℕ) : Type 0 where
  pub half : FileId
  pub was : Names (before Select) half
  pub is : Names (now Select) (other_half half)
  pub printed : now (other_half half) ≡ half_with db

-- the files after the whole of it
abbrev pub FilesAfter : Outcome → Passage → Type 0
FilesAfter (refused refusal) v = ReadsAsBefore v
FilesAfter (prints text) v = ReadsAsBefore v
FilesAfter (ran report) v = ReadsAsBefore v
FilesAfter (made rels) v = Stores (empty_database rels) v
FilesAfter (renewed db) v = Stores db v × IsRenewed db (λ f. (v.disks_before f).bytes) (λ f. (v.disks_now f).bytes)
FilesAfter (widened old new) v = Stores new v
FilesAfter (too_long db) v = ReadsAsBefore v
FilesAfter (carried db events ended) v = Stores (with_state db (state_after db.state events)) v

-- The files where it was cut short: where the output failed (8), all is done but the printing; where there was no memory
-- (9), nothing; and where a call on a file failed (6), no database is read or the new one, or the same as before, or that
-- or the widened one. Of events that were carried out a cut is read, as a stop might have left it.
abbrev pub FilesMidway : Outcome → ℕ → Passage → Type 0
FilesMidway (refused refusal) status v = ReadsAsBefore v
FilesMidway (prints text) status v = ReadsAsBefore v
FilesMidway (ran report) status v = ReadsAsBefore v
FilesMidway (made rels) status v = (status ≡ 8 → Stores (empty_database rels) v) × (status ≡ 9 → ReadsAsBefore v) × (status ≡ 6 → ((v.disks_now Select).bytes ≡ []) ⊎ ReadsAs (empty_database rels) v)
FilesMidway (renewed db) status v = (status ≡ 8 → FilesAfter (renewed db) v) × (status ≡ 9 → ReadsAsBefore v) × (status ≡ 6 → ReadsAs db v)
FilesMidway (widened old new) status v = (status ≡ 8 → Stores new v) × (status ≡ 9 → ReadsAsBefore v) × (status ≡ 6 → ReadsAs old v ⊎ ReadsAs new v)
FilesMidway (too_long db) status v = ReadsAsBefore v
FilesMidway (carried db events ended) status v = ReadsAmong (IsCut events db v.emitted_before) v

-- ---- what a stop leaves

-- no database or this one, and nothing printed; or this one, and some first bytes of the line
abbrev pub IsMaking : Database → Option (List ℕ) → Image → Type 0
IsMaking db start c = IsNoneOr db start c ⊎ (Holds c.files db × ((n : ℕ) × Appends start (Some c.emitted) (take n (codes "created\n"))))

-- the database, and nothing printed; or the database renewed, and some first bytes of the line
abbrev pub IsRenewing : Database → (FileId → List ℕ) → Option (List ℕ) → Image → Type 0
IsRenewing db before start c = IsStill db start c ⊎ (Holds c.files db × IsRenewed db before c.files × ((n : ℕ) × Appends start (Some c.emitted) (take n (codes "checkpointed\n"))))

-- one of both databases, and nothing printed; or the widened one, and some first bytes of the line
abbrev pub IsWidening : Database → Database → Option (List ℕ) → Image → Type 0
IsWidening old new start c = IsEither old new start c ⊎ (Holds c.files new × ((n : ℕ) × Appends start (Some c.emitted) (take n (codes "widened\n"))))

-- At any moment a stop leaves the files as it would have left them at the start, and some first bytes of the text. An
-- outcome that changes files leaves whole ones: no database or the new one; the same, in either half; the one before or
-- the widened one; a cut of the events.
abbrev pub MomentsOf : Outcome → Passage → Type 0
MomentsOf (refused refusal) v = v.leaves_only (IsImageAmid v.disks_before v.emitted_before (line_of refusal))
MomentsOf (prints text) v = v.leaves_only (IsImageAmid v.disks_before v.emitted_before text)
MomentsOf (ran report) v = v.leaves_only (IsImageAmid v.disks_before v.emitted_before (output_of report))
MomentsOf (made rels) v = v.once_settled (IsMaking (empty_database rels) v.emitted_before)
MomentsOf (renewed db) v = v.once_opened (IsRenewing db (λ f. (v.disks_before f).bytes) v.emitted_before)
MomentsOf (widened old new) v = v.once_opened (IsWidening old new v.emitted_before)
MomentsOf (too_long db) v = v.once_opened (IsStill db v.emitted_before)
MomentsOf (carried db events ended) v = v.once_opened (IsCut events db v.emitted_before)

-- the same of a call that begins over an open folder
abbrev pub MomentsBehind : Outcome → Passage → Type 0
MomentsBehind (refused refusal) v = v.leaves_only (IsImageAmid v.disks_before v.emitted_before (line_of refusal))
MomentsBehind (prints text) v = v.leaves_only (IsImageAmid v.disks_before v.emitted_before text)
MomentsBehind (ran report) v = v.leaves_only (IsImageAmid v.disks_before v.emitted_before (output_of report))
MomentsBehind (made rels) v = ⊥
MomentsBehind (renewed db) v = v.leaves_only (IsRenewing db (λ f. (v.disks_before f).bytes) v.emitted_before)
MomentsBehind (widened old new) v = v.leaves_only (IsWidening old new v.emitted_before)
MomentsBehind (too_long db) v = v.leaves_only (IsStill db v.emitted_before)
MomentsBehind (carried db events ended) v = v.leaves_only (IsCut events db v.emitted_before)
