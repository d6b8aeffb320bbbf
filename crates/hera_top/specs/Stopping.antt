-- Why no bytes, no program, or not all programs came of sources.
use Rattle.std.specs.Prelude.{◌≡◌, ◌<◌, ℕ, List, length}
use Rattle.hera_host.specs.Tables.{Host}
use Rattle.hera_script.specs.declared.cause.Cause.{Cause}
use Rattle.hera_script.specs.declared.cause.Cause.TheVariants.{TooLong}
use Rattle.hera_script.specs.Refusing.{IsRefused}
use Rattle.hera_syntax.specs.Tokens.{script_limit}
use Rattle.hera_outcome.specs.declared.answer.Stop.{Stop}
use Rattle.hera_outcome.specs.declared.answer.Stop.TheVariants.{Refused, Device, Output, Memory, Full}
use Rattle.hera_outcome.specs.declared.refusal.Refusal.TheVariants.{Unread, Script}
use Rattle.hera_top.specs.Scripts.{AreRefused}
use Rattle.hera_top.specs.Sources.{Seen, IsRead, IsUnread, AreStill}

-- a source failed, more than the limit came, or there was no memory
pub data IsMissing (limit : ℕ) (before now : Seen) : Stop → Type 0 where
  is_unread : IsUnread limit before now → IsMissing limit before now (Refused Unread)
  is_too_long : (bytes : List ℕ) → IsRead limit before now bytes → limit < length bytes → IsMissing limit before now (Refused (Script TooLong limit))
  has_no_memory : now.faults ≡ before.faults → IsMissing limit before now Memory

-- a source failed, its script is refused, or there was no memory
pub data IsStopped (hosts : List Host) (before now : Seen) : Stop → Type 0 where
  fails : IsUnread script_limit before now → IsStopped hosts before now (Refused Unread)
  refuses : {cause : Cause} {at : ℕ} (script : List ℕ) → IsRead script_limit before now script → IsRefused hosts script cause at → IsStopped hosts before now (Refused (Script cause at))
  lacks_memory : now.faults ≡ before.faults → IsStopped hosts before now Memory

-- one of them is refused, or there was no memory
abbrev pub AreStopped : List Host → (before now : List Seen) → Stop → Type 0
AreStopped hosts before now (Refused refusal) = AreRefused hosts before now refusal
AreStopped hosts before now Device = ⊥
AreStopped hosts before now Output = ⊥
AreStopped hosts before now Memory = AreStill before now
AreStopped hosts before now Full = ⊥
