-- What a command answers, of what was answered on the way.
use Rattle.std.proofs.Common.{◌≡◌, ◌+◌, arith, ◌∙◌, ℕ, zero, suc, ⊎_elim, inl, inr, ◌⊎◌, List, [], ◌∷◌, length, true, false, Option, Some, None, Result, Ok, Err, refl, sym, ap, subst}
use Rattle.std.specs.Prelude.{get_or, slice_set}
use Rattle.std.proofs.lemmas.Bool.Decides.{nat_tests}
use Rattle.hera_causes.specs.declared.traits.Output as output
use Rattle.hera_meaning.specs.declared.schemas.RelDecl.{RelDecl}
use Rattle.hera_meaning.specs.Trees.{Program_tree}
use Rattle.hera_host.specs.Tables.{Host}
use Rattle.hera_volume.specs.declared.outside.Outside as files
use Rattle.hera_outcome.specs.declared.answer.Ending.{Ending}
use Rattle.hera_outcome.specs.declared.answer.Stop.{Stop}
use Rattle.hera_outcome.specs.declared.answer.Stop.TheVariants.{Refused, Device, Output, Memory, Full}
use Rattle.hera_outcome.specs.declared.refusal.Refusal.{Refusal}
use Rattle.hera_outcome.specs.declared.refusal.Refusal.TheVariants.{Unread}
use Rattle.hera_outcome.specs.Answers.{number_of, number_of_ending, IsConcluded}
use Rattle.hera_outcome.specs.Outcomes.{Outcome, refused}
use Rattle.hera_outcome.specs.Passages.{Passage, Start, passage, start, start_of, KeepsFiles}
use Rattle.hera_outcome.specs.Told.{IsTold, Tells, Answered}
use Rattle.hera_outcome.proofs.Passing.{answered_weaker, told_on}
use Rattle.hera_run.specs.Folder.{RunsTo}
use Rattle.hera_words.specs.declared.command.Command.{Command}
use Rattle.hera_words.specs.declared.command.Command.TheVariants.{Check, List as list_command, Eval, Pack, Exec, Drill, Init, Run, Dump, Checkpoint, Widen, Import, Export, Guard, Weave}
use Rattle.hera_words.specs.Words.{form_of, files_in, folder_in}
use Rattle.hera_top.specs.Commands.{Performs, makes, widens, runs, IsMade, IsWidened, ReadsScript, OfScript, ComesTo, Answers, tells, fails, IsAnswered}
use Rattle.hera_top.specs.Sources.{Seen, seen, seen_of, AreStill, AreLater, OneFailed}

-- ---- commands

pub ran_answered : (hosts : List Host) (p : Program_tree) (command : Command) (turns : ℕ) (v : Passage) (r : Result Ending Stop) → command ≡ Run turns → Answered (RunsTo hosts turns p (start_of v)) r v → Answered (Performs hosts p (start_of v) command) r v
ran_answered hosts p command turns v r is answered =
    subst (λ (x : Command). Answered (Performs hosts p (start_of v) x) r v) (sym is) (answered_weaker _ _ r v (λ o comes. runs comes) answered)

pub made_answers : (hosts : List Host) (p : Program_tree) (rels : List RelDecl) (r : Result Ending Stop) (v : Passage) → rels ≡ p.relations → Answered (IsMade rels (start_of v)) r v → Answered (Performs hosts p (start_of v) Init) r v
made_answers hosts p rels r v is answered = answered_weaker _ _ r v (λ o comes. makes (subst (λ (x : List RelDecl). IsMade x (start_of v) o) is comes)) answered

pub widened_answers : (hosts : List Host) (p : Program_tree) (rels : List RelDecl) (r : Result Ending Stop) (v : Passage) → rels ≡ p.relations → Answered (IsWidened rels (start_of v)) r v → Answered (Performs hosts p (start_of v) Widen) r v
widened_answers hosts p rels r v is answered = answered_weaker _ _ r v (λ o comes. widens (subst (λ (x : List RelDecl). IsWidened x (start_of v) o) is comes)) answered

pub same_performed : (hosts : List Host) (p : Program_tree) (done command : Command) (r : Result Ending Stop) (v : Passage) → done ≡ command → Answered (Performs hosts p (start_of v) done) r v → Answered (Performs hosts p (start_of v) command) r v
same_performed hosts p done command r v is answered = subst (λ (x : Command). Answered (Performs hosts p (start_of v) x) r v) is answered

pub has_folder : (done command : Command) → done ≡ command → (form_of done).folder ≡ true → (form_of command).folder ≡ false → ⊥
has_folder done command is there none = (let bad : true ≡ false = sym there ∙ ap (λ (x : Command). (form_of x).folder) is ∙ none in cc (bad))

-- ---- sources

-- a command that reads a script has one source
pub one_source : (command : Command) (n : ℕ) → ReadsScript command → n + (files_in (Some command)).0 ≡ (files_in (Some command)).1 → n ≡ 1
one_source Check n given is = omega (arith, is)
one_source list_command n given is = omega (arith, is)
one_source (Eval turns) n given is = omega (arith, is)
one_source Pack n given is = absurd given
one_source (Exec turns) n given is = absurd given
one_source (Drill rows) n given is = absurd given
one_source Init n given is = omega (arith, is)
one_source (Run turns) n given is = omega (arith, is)
one_source Dump n given is = absurd given
one_source Checkpoint n given is = absurd given
one_source Widen n given is = omega (arith, is)
one_source Import n given is = absurd given
one_source Export n given is = absurd given
one_source (Guard turns) n given is = absurd given
one_source (Weave turns order files) n given is = absurd given

pub reads_files : (command : Command) → ReadsScript command → (form_of command).files ≡ 0 → ⊥
reads_files Check given none = cc (none)
reads_files list_command given none = cc (none)
reads_files (Eval turns) given none = cc (none)
reads_files Pack given none = given
reads_files (Exec turns) given none = given
reads_files (Drill rows) given none = given
reads_files Init given none = cc (none)
reads_files (Run turns) given none = cc (none)
reads_files Dump given none = given
reads_files Checkpoint given none = given
reads_files Widen given none = cc (none)
reads_files Import given none = given
reads_files Export given none = given
reads_files (Guard turns) given none = given
reads_files (Weave turns order files) given none = given

pub from_script : (hosts : List Host) (name : List ℕ) (before now : List Seen) (s : Start) (command : Command) (o : Outcome) → ReadsScript command → OfScript hosts command s before now o → ComesTo hosts name before now s command o
from_script hosts name before now s Check o given came = came
from_script hosts name before now s list_command o given came = came
from_script hosts name before now s (Eval turns) o given came = came
from_script hosts name before now s Pack o given came = absurd given
from_script hosts name before now s (Exec turns) o given came = absurd given
from_script hosts name before now s (Drill rows) o given came = absurd given
from_script hosts name before now s Init o given came = came
from_script hosts name before now s (Run turns) o given came = came
from_script hosts name before now s Dump o given came = absurd given
from_script hosts name before now s Checkpoint o given came = absurd given
from_script hosts name before now s Widen o given came = came
from_script hosts name before now s Import o given came = absurd given
from_script hosts name before now s Export o given came = absurd given
from_script hosts name before now s (Guard turns) o given came = absurd given
from_script hosts name before now s (Weave turns order files) o given came = absurd given

pub still_itself : (sources : List Seen) → AreStill sources sources
still_itself [] = tt
still_itself (one ∷ more) = (refl, still_itself more)

pub later_itself : (sources : List Seen) → AreLater sources sources
later_itself [] = tt
later_itself (one ∷ more) = (omega arith, later_itself more)

pub one_file : (command : Command) (n : ℕ) → Import ≡ command → n + (files_in (Some command)).0 ≡ (files_in (Some command)).1 → n ≡ 1
one_file command n is given =
    let here : n + (files_in (Some Import)).0 ≡ (files_in (Some Import)).1 = subst (λ (x : Command). n + (files_in (Some x)).0 ≡ (files_in (Some x)).1) (sym is) given in
    omega (arith, here)

pub import_reads_files : (command : Command) → Import ≡ command → (form_of command).files ≡ 0 → ⊥
import_reads_files command is none = (let bad : 1 ≡ 0 = ap (λ (x : Command). (form_of x).files) is ∙ none in cc (bad))

pub one_pack : (command : Command) (n : ℕ) → Pack ≡ command → n + (files_in (Some command)).0 ≡ (files_in (Some command)).1 → n ≡ 1
one_pack command n is given =
    let here : n + (files_in (Some Pack)).0 ≡ (files_in (Some Pack)).1 = subst (λ (x : Command). n + (files_in (Some x)).0 ≡ (files_in (Some x)).1) (sym is) given in
    omega (arith, here)

pub one_exec : (turns : ℕ) (command : Command) (n : ℕ) → Exec turns ≡ command → n + (files_in (Some command)).0 ≡ (files_in (Some command)).1 → n ≡ 1
one_exec turns command n is given =
    let here : n + (files_in (Some (Exec turns))).0 ≡ (files_in (Some (Exec turns))).1 = subst (λ (x : Command). n + (files_in (Some x)).0 ≡ (files_in (Some x)).1) (sym is) given in
    omega (arith, here)

pub reads_some : (done command : Command) → done ≡ command → (form_of done).files ≡ 1 → (form_of command).files ≡ 0 → ⊥
reads_some done command is some none = (let bad : 1 ≡ 0 = sym some ∙ ap (λ (x : Command). (form_of x).files) is ∙ none in cc (bad))

-- no source was read
pub unread_answered : (hosts : List Host) (name : List ℕ) (done command : Command) (sources : List Seen) (r : Result Ending Stop) (v : Passage) → done ≡ command → Answered (ComesTo hosts name sources sources (start_of v) done) r v
    → IsAnswered hosts name command sources sources r v
unread_answered hosts name done command sources r v is answered =
    subst (λ (x : Command). IsAnswered hosts name x sources sources r v) is (record { answered = answered; still = inl (still_itself sources); later = later_itself sources })

-- the only source was
seen_alone : {S : Type 0} (left : S → Option (List ℕ)) (faults : S → ℕ) (items : List S) (source : S) → length items ≡ 1 → source ≡ get_or items 0 source → seen left faults source ∷ [] ≡ seen_of left faults items
seen_alone left faults [] source one is = absurd (omega (arith, one))
seen_alone {S} left faults (first ∷ []) source one is = ap (λ (x : S). seen left faults x ∷ []) is
seen_alone left faults (first ∷ second ∷ more) source one is = absurd (omega (arith, one))

seen_set : {S : Type 0} (left : S → Option (List ℕ)) (faults : S → ℕ) (items : List S) (source : S) → length items ≡ 1 → seen left faults source ∷ [] ≡ seen_of left faults (slice_set items 0 source)
seen_set left faults [] source one = absurd (omega (arith, one))
seen_set left faults (old ∷ []) source one = refl
seen_set left faults (old ∷ second ∷ more) source one = absurd (omega (arith, one))

pub read_answered : {S : Type 0} (left : S → Option (List ℕ)) (faults : S → ℕ) (items : List S) (old new : S) (hosts : List Host) (name : List ℕ) (done command : Command) (r : Result Ending Stop) (v : Passage) → length items ≡ 1 → old ≡ get_or items 0 old
    → done ≡ command → IsAnswered hosts name done (seen left faults old ∷ []) (seen left faults new ∷ []) r v → IsAnswered hosts name command (seen_of left faults items) (seen_of left faults (slice_set items 0 new)) r v
read_answered left faults items old new hosts name done command r v one first is answered =
    subst (λ (x : Command). IsAnswered hosts name x (seen_of left faults items) (seen_of left faults (slice_set items 0 new)) r v) is
    (subst (λ (b : List Seen). IsAnswered hosts name done b (seen_of left faults (slice_set items 0 new)) r v) (seen_alone left faults items old one first)
    (subst (λ (n : List Seen). IsAnswered hosts name done (seen left faults old ∷ []) n r v) (seen_set left faults items new one) answered))

-- ---- words

some_same : (a b : Command) → Some a ≡ Some b → a ≡ b
some_same a b is = cc (is)

pub same_command : (hosts : List Host) (name : List ℕ) (read command : Command) (before now : List Seen) (status : ℕ) (v : Passage) → Some read ≡ Some command → Answers hosts name read before now status v → Answers hosts name command before now status v
same_command hosts name read command before now status v is answers = subst (λ (x : Command). Answers hosts name x before now status v) (some_same read command is) answers

pub no_folder_word : (command : Command) → folder_in (Some command) ≡ None → (form_of command).folder ≡ false
no_folder_word Check is = refl
no_folder_word list_command is = refl
no_folder_word (Eval turns) is = refl
no_folder_word Pack is = refl
no_folder_word (Exec turns) is = refl
no_folder_word (Drill rows) is = refl
no_folder_word Init is = absurd (cc (is))
no_folder_word Widen is = absurd (cc (is))
no_folder_word (Run turns) is = absurd (cc (is))
no_folder_word Dump is = absurd (cc (is))
no_folder_word Checkpoint is = absurd (cc (is))
no_folder_word Import is = absurd (cc (is))
no_folder_word Export is = absurd (cc (is))
no_folder_word (Guard turns) is = absurd (cc (is))
no_folder_word (Weave turns order files) is = absurd (cc (is))

-- behind the words there is a place for a file
some_file : (a b : ℕ) → ◌≡◌ {A = ℕ × ℕ} (suc a, b) (0, 0) → ⊥
some_file a b is =
    let first : suc a ≡ 0 = ap (λ (places : ℕ × ℕ). places.0) is in
    cc (first)

some_files : (turns order files : ℕ) → (files ≡ 0 → ⊥) → files_in (Some (Weave turns order files)) ≡ (4, 4 + files)
some_files turns order files other = grind (arith, nat_tests, other)

pub no_file_word : (command : Command) → files_in (Some command) ≡ (0, 0) → (form_of command).files ≡ 0
no_file_word Check is = absurd (some_file 0 2 is)
no_file_word list_command is = absurd (some_file 0 2 is)
no_file_word (Eval turns) is = absurd (some_file 1 3 is)
no_file_word Pack is = absurd (some_file 0 2 is)
no_file_word (Exec turns) is = absurd (some_file 1 3 is)
no_file_word (Drill rows) is = refl
no_file_word Init is = absurd (some_file 1 3 is)
no_file_word Widen is = absurd (some_file 1 3 is)
no_file_word (Run turns) is = absurd (some_file 2 4 is)
no_file_word Dump is = refl
no_file_word Checkpoint is = refl
no_file_word Import is = absurd (some_file 2 4 is)
no_file_word Export is = refl
no_file_word (Guard turns) is = absurd (some_file 2 5 is)
no_file_word (Weave turns order zero) is = refl
no_file_word (Weave turns order (suc files)) is = absurd (some_file 3 (4 + suc files) (sym (some_files turns order (suc files) (λ e. omega (arith, e))) ∙ is))

-- ---- the whole answer

unread_or_still : (before now : List Seen) (r : Result Ending Stop) → IsConcluded r → AreStill before now ⊎ ((r ≡ Err (Refused Unread)) × OneFailed before now) → AreStill before now
unread_or_still before now r concluded (inl still) = still
unread_or_still before now r concluded (inr (is, failed)) = absurd (subst IsConcluded is concluded)

tells_answers : (hosts : List Host) (name : List ℕ) (command : Command) (before now : List Seen) (status : ℕ) (v : Passage) → AreStill before now → Tells (ComesTo hosts name before now (start_of v) command) status v → Answers hosts name command before now status v
tells_answers hosts name command before now status v still told = ⊎_elim (λ (outcome, comes, one). tells comes one) (λ up. fails still up) told

told_answer : (hosts : List Host) (name : List ℕ) (command : Command) (before now : List Seen) (r : Result Ending Stop) (v : Passage) → IsConcluded r → IsAnswered hosts name command before now r v → Answers hosts name command before now (number_of r) v
told_answer hosts name command before now (Ok ending) v concluded answer = tells_answers hosts name command before now (number_of_ending ending) v (unread_or_still before now (Ok ending) concluded answer.still) answer.answered
told_answer hosts name command before now (Err (Refused refusal)) v concluded answer = absurd concluded
told_answer hosts name command before now (Err Device) v concluded answer = tells_answers hosts name command before now 6 v (unread_or_still before now (Err Device) concluded answer.still) answer.answered
told_answer hosts name command before now (Err Output) v concluded answer = tells_answers hosts name command before now 8 v (unread_or_still before now (Err Output) concluded answer.still) answer.answered
told_answer hosts name command before now (Err Memory) v concluded answer = tells_answers hosts name command before now 9 v (unread_or_still before now (Err Memory) concluded answer.still) answer.answered
told_answer hosts name command before now (Err Full) v concluded answer = tells_answers hosts name command before now 10 v (unread_or_still before now (Err Full) concluded answer.still) answer.answered

concluded_or_refused : (r : Result Ending Stop) → IsConcluded r ⊎ ((refusal : Refusal) × (r ≡ Err (Refused refusal)))
concluded_or_refused (Ok ending) = inl tt
concluded_or_refused (Err (Refused refusal)) = inr (refusal, refl)
concluded_or_refused (Err Device) = inl tt
concluded_or_refused (Err Output) = inl tt
concluded_or_refused (Err Memory) = inl tt
concluded_or_refused (Err Full) = inl tt

module _ {D : Type 0} (q : output.Ghosts D) (w : files.Ghosts D) (a b c : D) (hosts : List Host) (name : List ℕ) (command : Command) (before now : List Seen) (r : Result Ending Stop) (status : ℕ) (answer : IsAnswered hosts name command before now r (passage q w a b)) where
  abbrev over : D → D → Passage
  over x y = passage q w x y

  refusal_answers : (refusal : Refusal) → r ≡ Err (Refused refusal) → IsTold (refused refusal) status (over b c) → Answers hosts name command before now status (over a c)
  refusal_answers refusal is told =
      let (comes, pending) = subst (λ (x : Result Ending Stop). Answered (ComesTo hosts name before now (start w a) command) x (over a b)) is answer.answered in
      tells comes (told_on q w a b pending (refused refusal) status c tt told)

  pub keeps_both : KeepsFiles (over a b) → KeepsFiles (over b c) → KeepsFiles (over a c)
  keeps_both first second = record { files = λ t f. second.files t f ∙ first.files t f; device = second.device ∙ first.device }

  pub concluded : ((refusal : Refusal) → r ≡ Err (Refused refusal) → IsTold (refused refusal) status (over b c)) → (IsConcluded r → status ≡ number_of r) → (IsConcluded r → c ≡ b) → Answers hosts name command before now status (over a c)
  concluded told number same =
      ⊎_elim
      (λ is. subst (λ (x : D). Answers hosts name command before now status (over a x)) (sym (same is))
      (subst (λ (n : ℕ). Answers hosts name command before now n (over a b)) (sym (number is)) (told_answer hosts name command before now r (over a b) is answer)))
      (λ (refusal, is). refusal_answers refusal is (told refusal is))
      (concluded_or_refused r)
