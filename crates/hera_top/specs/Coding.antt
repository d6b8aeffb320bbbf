-- Code files: what is printed of a script, and what a run of one comes to.
use Rattle.std.specs.Prelude.{◌≤◌, ◌<◌, ℕ, List, [], ◌∷◌, length}
use Rattle.hera_meaning.specs.Hosts.{Hosts}
use Rattle.hera_meaning.specs.Trees.{Program_tree}
use Rattle.hera_host.specs.Tables.{Host, specs_of}
use Rattle.hera_rules.specs.Accepted.{Accepted}
use Rattle.hera_script.specs.declared.cause.Cause.{Cause}
use Rattle.hera_script.specs.declared.cause.Cause.TheVariants.{TooLong}
use Rattle.hera_script.specs.Refusing.{IsRefused}
use Rattle.hera_syntax.specs.Tokens.{script_limit}
use Rattle.hera_outcome.specs.declared.refusal.Refusal.TheVariants.{Unread, Script}
use Rattle.hera_outcome.specs.Outcomes.{Outcome, refused, prints}
use Rattle.hera_packed.specs.Packed.{IsPackOf}
use Rattle.hera_packed.specs.Executed.{code_limit, ExecutesTo}
use Rattle.hera_top.specs.Sources.{Seen, IsRead, IsUnread}

-- a code file of a program is printed
pub data PrintsPack (hosts : Hosts) (p : Program_tree) : Outcome → Type 0 where
  prints_pack : {text : List ℕ} → IsPackOf hosts p text → PrintsPack hosts p (prints text)

-- what a pack of a script comes to: it is refused, or a code file of its program is printed
pub data PacksTo (hosts : List Host) (script : List ℕ) : Outcome → Type 0 where
  refuses_pack : {cause : Cause} {at : ℕ} → IsRefused hosts script cause at → PacksTo hosts script (refused (Script cause at))
  packs : {p : Program_tree} {outcome : Outcome} → length script ≤ script_limit → Accepted script hosts p → PrintsPack (specs_of hosts) p outcome → PacksTo hosts script outcome

-- the same with its source: it fails, or the script that came is packed
pub data OfPack (hosts : List Host) : (before now : List Seen) → Outcome → Type 0 where
  no_script : {b n : Seen} → IsUnread script_limit b n → OfPack hosts (b ∷ []) (n ∷ []) (refused Unread)
  has_script : {b n : Seen} {outcome : Outcome} (script : List ℕ) → IsRead script_limit b n script → PacksTo hosts script outcome → OfPack hosts (b ∷ []) (n ∷ []) outcome

-- what a run of a code file comes to: its source fails, the file that came is too long, or it is read, verified and run
pub data OfCode (hosts : List Host) (turns : ℕ) : (before now : List Seen) → Outcome → Type 0 where
  no_code : {b n : Seen} → IsUnread code_limit b n → OfCode hosts turns (b ∷ []) (n ∷ []) (refused Unread)
  too_much_code : {b n : Seen} (file : List ℕ) → IsRead code_limit b n file → code_limit < length file → OfCode hosts turns (b ∷ []) (n ∷ []) (refused (Script TooLong code_limit))
  has_code : {b n : Seen} {outcome : Outcome} (file : List ℕ) → IsRead code_limit b n file → length file ≤ code_limit → ExecutesTo (specs_of hosts) turns file outcome → OfCode hosts turns (b ∷ []) (n ∷ []) outcome
