-- What `guard` comes to.
use Rattle.std.specs.Prelude.{◌≡◌, ◌⊎◌, ◌≤◌, ℕ, List, [], ◌∷◌, length, Result, Err}
use Rattle.hera_causes.specs.Causes.{Rose}
use Rattle.hera_meaning.specs.Trees.{Program_tree}
use Rattle.hera_host.specs.Tables.{Host}
use Rattle.hera_rules.specs.Accepted.{Accepted}
use Rattle.hera_script.specs.declared.cause.Cause.{Cause}
use Rattle.hera_script.specs.Refusing.{IsRefused}
use Rattle.hera_syntax.specs.Tokens.{script_limit}
use Rattle.hera_guard_lines.specs.declared.lines.GuardLine.{GuardLine}
use Rattle.hera_guarded.specs.Guarding.{GuardsTo}
use Rattle.hera_guarded.specs.Reading.{IsWritten, IsRulesRefused}
use Rattle.hera_outcome.specs.declared.answer.Ending.{Ending}
use Rattle.hera_outcome.specs.declared.answer.Stop.{Stop}
use Rattle.hera_outcome.specs.declared.answer.Stop.TheVariants.{Refused, Device, Output, Memory, Full}
use Rattle.hera_outcome.specs.declared.refusal.Refusal.{Refusal}
use Rattle.hera_outcome.specs.declared.refusal.Refusal.TheVariants.{Unread, Script}
use Rattle.hera_outcome.specs.Outcomes.{Outcome, refused}
use Rattle.hera_outcome.specs.Passages.{Passage, Start, start_of}
use Rattle.hera_outcome.specs.Told.{Answered}
use Rattle.hera_top.specs.Sources.{Seen, IsRead, IsUnread}

-- ---- RULES

-- these lines came from the source
pub record AreLinesOf (before now : Seen) (lines : List GuardLine) : Type 0 where
  pub rules : List ℕ
  pub read : IsRead script_limit before now rules
  pub written : IsWritten rules lines

-- why none came: it failed, or what came is refused
pub data HasNoLines (before now : Seen) : Refusal → Type 0 where
  misses_rules : IsUnread script_limit before now → HasNoLines before now Unread
  refuses_rules : {cause : Cause} {at : ℕ} (rules : List ℕ) → IsRead script_limit before now rules → IsRulesRefused rules cause at → HasNoLines before now (Script cause at)

-- the same of a stop, or there was no memory
abbrev pub GivesNoLines : (before now : Seen) → Stop → Type 0
GivesNoLines before now (Refused refusal) = HasNoLines before now refusal
GivesNoLines before now Device = ⊥
GivesNoLines before now Output = ⊥
GivesNoLines before now Memory = now.faults ≡ before.faults
GivesNoLines before now Full = ⊥

-- ---- FILE under the lines of RULES

-- what a script comes to in a folder, with so many turns, under the guards that these lines mean
pub data GuardsFor (hosts : List Host) (lines : List GuardLine) (turns : ℕ) (script : List ℕ) (v : Start) : Outcome → Type 0 where
  refuses : {cause : Cause} {at : ℕ} → IsRefused hosts script cause at → GuardsFor hosts lines turns script v (refused (Script cause at))
  performs : {p : Program_tree} {outcome : Outcome} → length script ≤ script_limit → Accepted script hosts p → GuardsTo hosts lines turns p v outcome → GuardsFor hosts lines turns script v outcome

-- what its source comes to: it fails, or it goes on with the script that came
pub data OfGuarded (hosts : List Host) (lines : List GuardLine) (turns : ℕ) (v : Start) (before now : Seen) : Outcome → Type 0 where
  misses_script : IsUnread script_limit before now → OfGuarded hosts lines turns v before now (refused Unread)
  reads_script : {outcome : Outcome} (script : List ℕ) → IsRead script_limit before now script → GuardsFor hosts lines turns script v outcome → OfGuarded hosts lines turns v before now outcome

-- the same of an answer whose refusal is still to be told; the source did not fail but at the refusal that says so
pub record IsGuarded (hosts : List Host) (lines : List GuardLine) (turns : ℕ) (before now : Seen) (answer : Result Ending Stop) (v : Passage) : Type 0 where
  pub answered : Answered (OfGuarded hosts lines turns (start_of v) before now) answer v
  pub still : (now.faults ≡ before.faults) ⊎ ((answer ≡ Err (Refused Unread)) × Rose before.faults now.faults)
  pub later : before.faults ≤ now.faults

-- ---- both

-- what `guard` comes to: RULES gives no lines, and FILE is not read; or it goes on with FILE under its lines
pub data OfRules (hosts : List Host) (turns : ℕ) (v : Start) : (before now : List Seen) → Outcome → Type 0 where
  no_lines : {b n file : Seen} {refusal : Refusal} → HasNoLines b n refusal → OfRules hosts turns v (b ∷ file ∷ []) (n ∷ file ∷ []) (refused refusal)
  has_lines : {b n file_before file_now : Seen} {lines : List GuardLine} {outcome : Outcome} → AreLinesOf b n lines → OfGuarded hosts lines turns v file_before file_now outcome
      → OfRules hosts turns v (b ∷ file_before ∷ []) (n ∷ file_now ∷ []) outcome
