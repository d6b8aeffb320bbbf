-- Scripts that come from sources, one each.
use Rattle.std.specs.Prelude.{◌≤◌, ℕ, List, [], ◌∷◌, length}
use Rattle.hera_meaning.specs.Trees.{Program_tree}
use Rattle.hera_host.specs.Tables.{Host}
use Rattle.hera_rules.specs.Accepted.{Accepted}
use Rattle.hera_script.specs.declared.cause.Cause.{Cause}
use Rattle.hera_script.specs.Refusing.{IsRefused}
use Rattle.hera_syntax.specs.Tokens.{script_limit}
use Rattle.hera_outcome.specs.declared.refusal.Refusal.{Refusal}
use Rattle.hera_outcome.specs.declared.refusal.Refusal.TheVariants.{Unread, Script}
use Rattle.hera_top.specs.Sources.{Seen, IsRead, IsUnread}

-- the script that came from a source is accepted with this program
pub record IsAccepting (hosts : List Host) (before now : Seen) (p : Program_tree) : Type 0 where
  pub script : List ℕ
  pub read : IsRead script_limit before now script
  pub short : length script ≤ script_limit
  pub accepted : Accepted script hosts p

-- those of sources, in their order
pub data AreAccepting (hosts : List Host) : (before now : List Seen) → List Program_tree → Type 0 where
  none_left : AreAccepting hosts [] [] []
  one_more : {b n : Seen} {before now : List Seen} {p : Program_tree} {ps : List Program_tree} → IsAccepting hosts b n p → AreAccepting hosts before now ps → AreAccepting hosts (b ∷ before) (n ∷ now) (p ∷ ps)

-- the first source that failed, or whose script is refused; those behind it were not read
pub data AreRefused (hosts : List Host) : (before now : List Seen) → Refusal → Type 0 where
  fails_first : {b n : Seen} {later : List Seen} → IsUnread script_limit b n → AreRefused hosts (b ∷ later) (n ∷ later) Unread
  refuses_first : {b n : Seen} {later : List Seen} {cause : Cause} {at : ℕ} (script : List ℕ) → IsRead script_limit b n script → IsRefused hosts script cause at → AreRefused hosts (b ∷ later) (n ∷ later) (Script cause at)
  refuses_later : {b n : Seen} {before now : List Seen} {p : Program_tree} {refusal : Refusal} → IsAccepting hosts b n p → AreRefused hosts before now refusal → AreRefused hosts (b ∷ before) (n ∷ now) refusal
