-- What a call answers where a source, or the script that came of it, gave nothing.
use Rattle.std.proofs.Common.{◌≡◌, ◌⊎◌, ⊎_elim, ◌<◌, ◌≤◌, inl, inr, ℕ, List, [], ◌∷◌, length, Result, Err, IsErrAnd, refl}
use Rattle.hera_causes.specs.Causes.{Rose}
use Rattle.hera_causes.specs.declared.traits.Output as output
use Rattle.hera_host.specs.Tables.{Host}
use Rattle.hera_guarded.specs.Reading.{IsRulesFault, too_long as too_long_rules}
use Rattle.hera_script.specs.declared.cause.Cause.{Cause}
use Rattle.hera_script.specs.declared.cause.Cause.TheVariants.{TooLong}
use Rattle.hera_script.specs.declared.program.ScriptFault.{ScriptFault}
use Rattle.hera_script.specs.declared.program.ScriptFault.TheVariants as script_fault
use Rattle.hera_script.specs.Refusing.{IsRefused, too_long}
use Rattle.hera_syntax.specs.Tokens.{script_limit}
use Rattle.hera_volume.specs.declared.outside.Outside as files
use Rattle.hera_outcome.specs.declared.answer.Ending.{Ending}
use Rattle.hera_outcome.specs.declared.answer.Stop.{Stop}
use Rattle.hera_outcome.specs.declared.answer.Stop.TheVariants.{Refused, Memory}
use Rattle.hera_outcome.specs.declared.refusal.Refusal.TheVariants.{Unread, Script}
use Rattle.hera_outcome.specs.Answers.{stop_of_script}
use Rattle.hera_outcome.specs.Outcomes.{Outcome, refused}
use Rattle.hera_outcome.specs.Passages.{Passage, passage, start, start_of}
use Rattle.hera_outcome.specs.Told.{Answered}
use Rattle.hera_outcome.proofs.Passing.{handed_on, answered_weaker, pending_none, given_up_none, keeps_none}
use Rattle.hera_words.specs.declared.command.Command.{Command}
use Rattle.hera_top.specs.Commands.{ComesTo, IsAnswered, IsApart}
use Rattle.hera_top.specs.Guarding.{GivesNoLines, misses_rules, refuses_rules}
use Rattle.hera_top.specs.Sources.{Seen, IsRead, IsWhole, IsUnread, this_failed}
use Rattle.hera_top.specs.Stopping.{IsMissing, is_unread, is_too_long, has_no_memory, IsStopped, fails, refuses, lacks_memory}

-- ---- memory

pub no_memory_apart : {D : Type 0} (q : output.Ghosts D) (w : files.Ghosts D) (a : D) (r : Result Ending Stop) → IsErrAnd r (λ e. e ≡ Memory) → IsApart r (passage q w a a)
no_memory_apart q w a r is = handed_on (λ x. IsApart x (passage q w a a)) r Memory is (record { keeps = keeps_none q w a; no_device = λ h. cc (h) })

-- ---- sources

module _ (limit : ℕ) (before now : Seen) where
  -- no source failed but at the refusal that says so
  pub missing_still : (r : Result Ending Stop) (stop : Stop) → IsErrAnd r (λ e. e ≡ stop) → IsMissing limit before now stop → (now.faults ≡ before.faults) ⊎ ((r ≡ Err (Refused Unread)) × Rose before.faults now.faults)
  missing_still r _ is (is_unread it) = handed_on (λ x. (now.faults ≡ before.faults) ⊎ ((x ≡ Err (Refused Unread)) × Rose before.faults now.faults)) r (Refused Unread) is (inr (refl, it.rose))
  missing_still r _ is (is_too_long bytes read long) = inl read.still
  missing_still r _ is (has_no_memory still) = inl still

  module _ {D : Type 0} (q : output.Ghosts D) (w : files.Ghosts D) (a : D) where
    pub missing_answered : (Comes : Outcome → Type 0) (r : Result Ending Stop) (stop : Stop) → IsErrAnd r (λ e. e ≡ stop) → IsMissing limit before now stop
        → (IsUnread limit before now → Comes (refused Unread))
        → ((bytes : List ℕ) → IsRead limit before now bytes → limit < length bytes → Comes (refused (Script TooLong limit)))
        → Answered Comes r (passage q w a a)
    missing_answered Comes r _ is (is_unread it) unread long = handed_on (λ x. Answered Comes x (passage q w a a)) r (Refused Unread) is (unread it, pending_none q w a)
    missing_answered Comes r _ is (is_too_long bytes read more) unread long = handed_on (λ x. Answered Comes x (passage q w a a)) r (Refused (Script TooLong limit)) is (long bytes read more, pending_none q w a)
    missing_answered Comes r _ is (has_no_memory still) unread long = handed_on (λ x. Answered Comes x (passage q w a a)) r Memory is (inr (given_up_none q w a))

    pub missing_apart : (r : Result Ending Stop) (stop : Stop) → IsErrAnd r (λ e. e ≡ stop) → IsMissing limit before now stop → IsApart r (passage q w a a)
    missing_apart r _ is (is_unread it) = handed_on (λ x. IsApart x (passage q w a a)) r (Refused Unread) is (record { keeps = keeps_none q w a; no_device = λ h. cc (h) })
    missing_apart r _ is (is_too_long bytes read more) = handed_on (λ x. IsApart x (passage q w a a)) r (Refused (Script TooLong limit)) is (record { keeps = keeps_none q w a; no_device = λ h. cc (h) })
    missing_apart r _ is (has_no_memory still) = handed_on (λ x. IsApart x (passage q w a a)) r Memory is (record { keeps = keeps_none q w a; no_device = λ h. cc (h) })

    -- a command with this source alone
    pub without_bytes : (hosts : List Host) (name : List ℕ) (command : Command) (r : Result Ending Stop) (stop : Stop) → IsErrAnd r (λ e. e ≡ stop) → IsMissing limit before now stop → before.faults ≤ now.faults
        → (IsUnread limit before now → ComesTo hosts name (before ∷ []) (now ∷ []) (start w a) command (refused Unread))
        → ((bytes : List ℕ) → IsRead limit before now bytes → limit < length bytes → ComesTo hosts name (before ∷ []) (now ∷ []) (start w a) command (refused (Script TooLong limit)))
        → IsAnswered hosts name command (before ∷ []) (now ∷ []) r (passage q w a a)
    without_bytes hosts name command r stop is missing later unread long = record {
      answered = missing_answered (ComesTo hosts name (before ∷ []) (now ∷ []) (start w a) command) r stop is missing unread long;
      still = ⊎_elim (λ (still : now.faults ≡ before.faults). inl (still, tt)) (λ (failed : (r ≡ Err (Refused Unread)) × Rose before.faults now.faults). inr (failed.0, this_failed failed.1)) (missing_still r stop is missing);
      later = (later, tt);
    }

  pub with_bytes : (hosts : List Host) (name : List ℕ) (command : Command) (bytes : List ℕ) (Comes : Outcome → Type 0) (r : Result Ending Stop) (v : Passage) → IsWhole limit before now bytes → before.faults ≤ now.faults
      → ((o : Outcome) → Comes o → ComesTo hosts name (before ∷ []) (now ∷ []) (start_of v) command o) → Answered Comes r v → IsAnswered hosts name command (before ∷ []) (now ∷ []) r v
  with_bytes hosts name command bytes Comes r v whole later comes answered = record {
    answered = answered_weaker Comes (ComesTo hosts name (before ∷ []) (now ∷ []) (start_of v) command) r v comes answered;
    still = inl (whole.read.still, tt);
    later = (later, tt);
  }

-- ---- scripts

module _ {D : Type 0} (q : output.Ghosts D) (w : files.Ghosts D) (a : D) where
  pub fault_answered : (Comes : Outcome → Type 0) (r : Result Ending Stop) (fault : ScriptFault) → IsErrAnd r (λ e. e ≡ stop_of_script fault)
      → ((cause : Cause) (at : ℕ) → fault ≡ script_fault.Refused cause at → Comes (refused (Script cause at))) → Answered Comes r (passage q w a a)
  fault_answered Comes r (script_fault.Refused cause at) is comes = handed_on (λ x. Answered Comes x (passage q w a a)) r (Refused (Script cause at)) is (comes cause at refl, pending_none q w a)
  fault_answered Comes r script_fault.Memory is comes = handed_on (λ x. Answered Comes x (passage q w a a)) r Memory is (inr (given_up_none q w a))

  pub fault_apart : (r : Result Ending Stop) (fault : ScriptFault) → IsErrAnd r (λ e. e ≡ stop_of_script fault) → IsApart r (passage q w a a)
  fault_apart r (script_fault.Refused cause at) is = handed_on (λ x. IsApart x (passage q w a a)) r (Refused (Script cause at)) is (record { keeps = keeps_none q w a; no_device = λ h. cc (h) })
  fault_apart r script_fault.Memory is = handed_on (λ x. IsApart x (passage q w a a)) r Memory is (record { keeps = keeps_none q w a; no_device = λ h. cc (h) })

-- ---- sources of scripts

module _ (before now : Seen) where
  pub missing_stopped : (hosts : List Host) (stop : Stop) → IsMissing script_limit before now stop → IsStopped hosts before now stop
  missing_stopped hosts _ (is_unread it) = fails it
  missing_stopped hosts _ (is_too_long bytes read long) = refuses bytes read (too_long long)
  missing_stopped hosts _ (has_no_memory still) = lacks_memory still

  pub fault_stopped : (hosts : List Host) (script : List ℕ) (fault : ScriptFault) → IsRead script_limit before now script → ((cause : Cause) (at : ℕ) → fault ≡ script_fault.Refused cause at → IsRefused hosts script cause at) → IsStopped hosts before now (stop_of_script fault)
  fault_stopped hosts script (script_fault.Refused cause at) read why = refuses script read (why cause at refl)
  fault_stopped hosts script script_fault.Memory read why = lacks_memory read.still

  pub missing_lines : (stop : Stop) → IsMissing script_limit before now stop → GivesNoLines before now stop
  missing_lines _ (is_unread it) = misses_rules it
  missing_lines _ (is_too_long bytes read long) = refuses_rules bytes read (too_long_rules long)
  missing_lines _ (has_no_memory still) = still

  pub fault_lines : (rules : List ℕ) (fault : ScriptFault) → IsRead script_limit before now rules → IsRulesFault rules fault → GivesNoLines before now (stop_of_script fault)
  fault_lines rules (script_fault.Refused cause at) read why = refuses_rules rules read why
  fault_lines rules script_fault.Memory read why = read.still
