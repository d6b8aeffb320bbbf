-- A command comes to one outcome for its texts and what the files hold.
use Rattle.std.proofs.Common.{◌≡◌, ◌≢◌, ℕ, List, refl}
use Rattle.hera_host.specs.Tables.{Host}
use Rattle.hera_volume.specs.declared.file_id.FileId.{FileId}
use Rattle.hera_outcome.specs.declared.refusal.Refusal.TheVariants.{Unread}
use Rattle.hera_outcome.specs.Outcomes.{Outcome, refused}
use Rattle.hera_outcome.specs.Passages.{Start}
use Rattle.hera_words.specs.declared.command.Command.{Command}
use Rattle.hera_words.specs.declared.command.Command.TheVariants.{Check, List as list_command, Eval, Pack, Exec, Drill, Init, Run, Dump, Checkpoint, Widen, Import, Export, Guard, Weave}
use Rattle.hera_top.specs.Commands.{OfScript, Finds, ComesTo}
use Rattle.hera_top.specs.Drill.{drill_text, drill_turns}
use Rattle.hera_top.specs.Sources.{Seen}
use Rattle.hera_top.specs.Told.{BeginsWith}
use Rattle.outcome_laws.proofs.OneGuarded.{OneRules, OneLines, NeverRules, one_of_rules}
use Rattle.outcome_laws.proofs.OneWoven.{OneSchedule, one_of_scripts}
use Rattle.outcome_laws.proofs.OneCoded.{OneExecuted, one_of_code}
use Rattle.outcome_laws.proofs.OneOutcome.{OneRefusal, NeverBoth, OneProgram, OneFound, OneEnd, OneVersion, one_apart, one_of_script, one_of_file, one_found, one_exported}

module _ (one : OneRefusal) (never : NeverBoth) (program : OneProgram) (found : OneFound) (end : OneEnd) (version : OneVersion) (rules : OneRules) (line_lists : OneLines) (both : NeverRules) (schedules : OneSchedule) (executed : OneExecuted) (hosts : List Host) (name : List ℕ) (texts : List (List ℕ)) (files : FileId → List ℕ) (before now later after : List Seen) (s t : Start)
    (x : BeginsWith texts files before s) (y : BeginsWith texts files later t) (a b : Outcome) (not_a : a ≢ refused Unread) (not_b : b ≢ refused Unread) where
  by_script : (command : Command) → OfScript hosts command s before now a → OfScript hosts command t later after b → a ≡ b
  by_script command came too = one_of_script found end version files s t x.files_told y.files_told x.reads y.reads one never program hosts command texts before now later after a b x.texts_told y.texts_told came too not_a not_b

  by_folder : (command : Command) → Finds s command a → Finds t command b → a ≡ b
  by_folder command came too = one_found found end version files s t x.files_told y.files_told x.reads y.reads command a b came too

  pub one_comes : (command : Command) → command ≢ Pack → ComesTo hosts name before now s command a → ComesTo hosts name later after t command b → a ≡ b
  one_comes Check other came too = by_script Check came too
  one_comes list_command other came too = by_script list_command came too
  one_comes (Eval turns) other came too = by_script (Eval turns) came too
  one_comes Pack other came too = absurd (other refl)
  one_comes (Exec turns) other came too = one_of_code executed hosts turns texts before now later after a b x.texts_told y.texts_told came too not_a not_b
  one_comes (Drill rows) other came too = one_apart one never program hosts (Eval drill_turns) (drill_text rows) s t a b refl came too
  one_comes Init other came too = by_script Init came too
  one_comes (Run turns) other came too = by_script (Run turns) came too
  one_comes Dump other came too = by_folder Dump came too
  one_comes Checkpoint other came too = by_folder Checkpoint came too
  one_comes Widen other came too = by_script Widen came too
  one_comes Import other came too = one_of_file found end version files s t x.files_told y.files_told x.reads y.reads name texts before now later after a b x.texts_told y.texts_told came too not_a not_b
  one_comes Export other came too = one_exported found end version files s t x.files_told y.files_told x.reads y.reads name a b came too
  one_comes (Guard turns) other came too =
      one_of_rules found end version files s t x.files_told y.files_told x.reads y.reads one never program hosts turns rules line_lists both texts before now later after a b x.texts_told y.texts_told came too not_a not_b
  one_comes (Weave turns order scripts) other came too =
      one_of_scripts found end version files s t x.files_told y.files_told x.reads y.reads schedules hosts turns order one never program texts before now later after a b x.texts_told y.texts_told came too not_a not_b
