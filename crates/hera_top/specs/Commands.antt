-- What a command comes to, and how it answers.
use Rattle.std.specs.Prelude.{◌≡◌, ◌≢◌, ◌≤◌, ◌<◌, ◌⊎◌, ◌++◌, ℕ, List, [], ◌∷◌, length, codes, Some, Result, Err}
use Rattle.hera_meaning.specs.declared.schemas.RelDecl.{RelDecl}
use Rattle.hera_meaning.specs.Deltas.{State}
use Rattle.hera_meaning.specs.Wider.{Wider, first_narrowed}
use Rattle.hera_meaning.specs.Printed.{decl_text, table_text}
use Rattle.hera_meaning.specs.Run.{run_of}
use Rattle.hera_meaning.specs.Trees.{Program_tree}
use Rattle.hera_code.specs.Scheme.{code_of}
use Rattle.hera_code.specs.Listing.{listing_of}
use Rattle.hera_host.specs.Tables.{Host, specs_of}
use Rattle.hera_rules.specs.Accepted.{Accepted}
use Rattle.rel_format.specs.Journal.{half_limit}
use Rattle.rel_pages.specs.Stored.{empty_state}
use Rattle.hera_script.specs.declared.cause.Cause.{Cause}
use Rattle.hera_script.specs.declared.cause.Cause.TheVariants.{TooLong}
use Rattle.hera_script.specs.Refusing.{IsRefused}
use Rattle.hera_syntax.specs.Tokens.{script_limit}
use Rattle.hera_store.specs.Databases.{Database, held}
use Rattle.hera_store.specs.Faults.{half_with}
use Rattle.hera_store.specs.Widened.{widened as widened_to}
use Rattle.hera_volume.specs.declared.file_id.FileId.TheVariants.{Select}
use Rattle.hera_outcome.specs.declared.answer.Ending.{Ending}
use Rattle.hera_outcome.specs.declared.answer.Stop.{Stop}
use Rattle.hera_outcome.specs.declared.answer.Stop.TheVariants.{Refused, Device}
use Rattle.hera_outcome.specs.declared.refusal.Refusal.{Refusal}
use Rattle.hera_outcome.specs.declared.refusal.Refusal.TheVariants.{Unread, Script, Exists, Narrows}
use Rattle.hera_outcome.specs.Outcomes.{Outcome, refused, prints, ran, made, renewed, widened, too_long}
use Rattle.hera_outcome.specs.Passages.{Passage, Start, start_of, KeepsFiles}
use Rattle.hera_outcome.specs.Told.{IsTold, IsGivenUp, Answered}
use Rattle.hera_run.specs.Folder.{IsThere, IsClosed, RunsTo}
use Rattle.hera_transfer.specs.Transfers.{data_limit, ExportsTo, ImportsTo}
use Rattle.hera_woven.specs.Weaving.{WeavesTo}
use Rattle.hera_words.specs.declared.command.Command.{Command}
use Rattle.hera_words.specs.declared.command.Command.TheVariants.{Check, List as list_command, Eval, Pack, Exec, Drill, Init, Run, Dump, Checkpoint, Widen, Import, Export, Guard, Weave}
use Rattle.hera_top.specs.Coding.{OfPack, OfCode}
use Rattle.hera_top.specs.Drill.{drill_text, drill_turns}
use Rattle.hera_top.specs.Guarding.{OfRules}
use Rattle.hera_top.specs.Scripts.{AreAccepting, AreRefused}
use Rattle.hera_top.specs.Sources.{Seen, IsRead, IsUnread, AreStill, AreLater, OneFailed}

-- ---- with a program

-- `select` was empty, or was not
abbrev pub IsVacant : Start → Type 0
IsVacant v = v.told → (v.disks Select).bytes ≡ []

abbrev pub IsTaken : Start → Type 0
IsTaken v = v.told → (v.disks Select).bytes ≢ []

-- the database of these relations is made where there was none
pub data IsMade (rels : List RelDecl) (v : Start) : Outcome → Type 0 where
  is_made : IsVacant v → IsMade rels v (made rels)
  is_taken : IsTaken v → IsMade rels v (refused Exists)

-- the database of a folder is widened to these relations, where they narrow none of its own
pub data IsWidened (rels : List RelDecl) (v : Start) : Outcome → Type 0 where
  is_shut : {refusal : Refusal} → IsClosed v refusal → IsWidened rels v (refused refusal)
  is_narrowed : {db : Database} {relation : List ℕ} → IsThere v (held db) → first_narrowed db.catalogue rels ≡ Some relation → IsWidened rels v (refused (Narrows relation))
  is_wide : {db : Database} → IsThere v (held db) → Wider db.catalogue rels → length (half_with (widened_to db rels)) ≤ half_limit → IsWidened rels v (widened db (widened_to db rels))
  is_too_wide : {db : Database} → IsThere v (held db) → Wider db.catalogue rels → half_limit < length (half_with (widened_to db rels)) → IsWidened rels v (too_long db)

-- what a command does with an accepted script's program: `check` says that it is accepted, `list` lists its code, `eval`
-- runs it on its relations without rows, `init` makes its database, `widen` widens the database in a folder to its
-- relations, and `run` runs it on that database
pub data Performs (hosts : List Host) (p : Program_tree) (v : Start) : Command → Outcome → Type 0 where
  checks : Performs hosts p v Check (prints (codes "accepted\n"))
  lists : Performs hosts p v list_command (prints (listing_of (code_of p)))
  evaluates : {turns : ℕ} → Performs hosts p v (Eval turns) (ran (run_of p (empty_state p.relations) (specs_of hosts) turns))
  makes : {outcome : Outcome} → IsMade p.relations v outcome → Performs hosts p v Init outcome
  widens : {outcome : Outcome} → IsWidened p.relations v outcome → Performs hosts p v Widen outcome
  runs : {turns : ℕ} {outcome : Outcome} → RunsTo hosts turns p v outcome → Performs hosts p v (Run turns) outcome

-- the outcome of a command for a script that may call these hosts
pub data ComesToFor (hosts : List Host) (script : List ℕ) (v : Start) (command : Command) : Outcome → Type 0 where
  refuses : {cause : Cause} {at : ℕ} → IsRefused hosts script cause at → ComesToFor hosts script v command (refused (Script cause at))
  performs : {p : Program_tree} {outcome : Outcome} → length script ≤ script_limit → Accepted script hosts p → Performs hosts p v command outcome → ComesToFor hosts script v command outcome

-- ---- without

-- for each relation its declaration and its rows
abbrev pub tables_text : List RelDecl → State → List ℕ
tables_text [] s = []
tables_text (d ∷ rels) [] = []
tables_text (d ∷ rels) (rows ∷ s) = decl_text d ++ table_text d.schema rows ++ tables_text rels s

-- what a command comes to that looks at a folder alone
pub data Finds (v : Start) : Command → Outcome → Type 0 where
  closed : {command : Command} {refusal : Refusal} → IsClosed v refusal → Finds v command (refused refusal)
  dumps : {db : Database} → IsThere v (held db) → Finds v Dump (prints (tables_text db.catalogue db.state))
  renews : {db : Database} → IsThere v (held db) → length (half_with db) ≤ half_limit → Finds v Checkpoint (renewed db)
  overflows : {db : Database} → IsThere v (held db) → half_limit < length (half_with db) → Finds v Checkpoint (too_long db)

-- ---- with sources

-- a command that does something with the program of one script
abbrev pub ReadsScript : Command → Type 0
ReadsScript Check = Unit {0}
ReadsScript list_command = Unit {0}
ReadsScript (Eval turns) = Unit {0}
ReadsScript Pack = ⊥
ReadsScript (Exec turns) = ⊥
ReadsScript (Drill rows) = ⊥
ReadsScript Init = Unit {0}
ReadsScript (Run turns) = Unit {0}
ReadsScript Dump = ⊥
ReadsScript Checkpoint = ⊥
ReadsScript Widen = Unit {0}
ReadsScript Import = ⊥
ReadsScript Export = ⊥
ReadsScript (Guard turns) = ⊥
ReadsScript (Weave turns order files) = ⊥

-- what it comes to: its source fails, or it goes on with the script that came
pub data OfScript (hosts : List Host) (command : Command) (v : Start) : (before now : List Seen) → Outcome → Type 0 where
  unread : {b n : Seen} → IsUnread script_limit b n → OfScript hosts command v (b ∷ []) (n ∷ []) (refused Unread)
  reads : {b n : Seen} {outcome : Outcome} (script : List ℕ) → IsRead script_limit b n script → ComesToFor hosts script v command outcome → OfScript hosts command v (b ∷ []) (n ∷ []) outcome

-- what an import comes to: its source fails, the file that came is too long, or its rows go to the relation of this name
pub data OfFile (name : List ℕ) (v : Start) : (before now : List Seen) → Outcome → Type 0 where
  misses : {b n : Seen} → IsUnread data_limit b n → OfFile name v (b ∷ []) (n ∷ []) (refused Unread)
  is_too_much : {b n : Seen} (file : List ℕ) → IsRead data_limit b n file → data_limit < length file → OfFile name v (b ∷ []) (n ∷ []) (refused (Script TooLong data_limit))
  takes : {b n : Seen} {outcome : Outcome} (file : List ℕ) → IsRead data_limit b n file → length file ≤ data_limit → ImportsTo name file v outcome → OfFile name v (b ∷ []) (n ∷ []) outcome

-- what a weave comes to: the first of its scripts that is refused ends it; else their programs, in the order of the sources,
-- are woven over the folder
pub data OfScripts (hosts : List Host) (turns order : ℕ) (v : Start) (before now : List Seen) : Outcome → Type 0 where
  are_refused : {refusal : Refusal} → AreRefused hosts before now refusal → OfScripts hosts turns order v before now (refused refusal)
  are_woven : {ps : List Program_tree} {outcome : Outcome} → AreAccepting hosts before now ps → WeavesTo hosts turns order ps v outcome → OfScripts hosts turns order v before now outcome

-- what each command comes to, its sources before the folder; the drill's script is its own. The name is that of a relation,
-- among the words.
abbrev pub ComesTo : (hosts : List Host) (name : List ℕ) (before now : List Seen) (v : Start) → Command → Outcome → Type 0
ComesTo hosts name before now v Check = OfScript hosts Check v before now
ComesTo hosts name before now v list_command = OfScript hosts list_command v before now
ComesTo hosts name before now v (Eval turns) = OfScript hosts (Eval turns) v before now
ComesTo hosts name before now v Pack = OfPack hosts before now
ComesTo hosts name before now v (Exec turns) = OfCode hosts turns before now
ComesTo hosts name before now v (Drill rows) = ComesToFor hosts (drill_text rows) v (Eval drill_turns)
ComesTo hosts name before now v Init = OfScript hosts Init v before now
ComesTo hosts name before now v (Run turns) = OfScript hosts (Run turns) v before now
ComesTo hosts name before now v Dump = Finds v Dump
ComesTo hosts name before now v Checkpoint = Finds v Checkpoint
ComesTo hosts name before now v Widen = OfScript hosts Widen v before now
ComesTo hosts name before now v Import = OfFile name v before now
ComesTo hosts name before now v Export = ExportsTo name v
ComesTo hosts name before now v (Guard turns) = OfRules hosts turns v before now
ComesTo hosts name before now v (Weave turns order files) = OfScripts hosts turns order v before now

-- How a command answers: its outcome was told; or before it was known a call on a file failed, or there was no memory, and
-- nothing was done that shows.
pub data Answers (hosts : List Host) (name : List ℕ) (command : Command) (before now : List Seen) (status : ℕ) (v : Passage) : Type 0 where
  tells : {outcome : Outcome} → ComesTo hosts name before now (start_of v) command outcome → IsTold outcome status v → Answers hosts name command before now status v
  fails : AreStill before now → IsGivenUp status v → Answers hosts name command before now status v

-- the same of an answer whose refusal is still to be told; no source failed but at the refusal that says so
pub record IsAnswered (hosts : List Host) (name : List ℕ) (command : Command) (before now : List Seen) (answer : Result Ending Stop) (v : Passage) : Type 0 where
  pub answered : Answered (ComesTo hosts name before now (start_of v) command) answer v
  pub still : AreStill before now ⊎ ((answer ≡ Err (Refused Unread)) × OneFailed before now)
  pub later : AreLater before now

-- a command without a folder: no call on a file was made that shows, and none is told
pub record IsApart (answer : Result Ending Stop) (v : Passage) : Type 0 where
  pub keeps : KeepsFiles v
  pub no_device : answer ≢ Err Device
