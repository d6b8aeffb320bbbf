-- The place where the fields of a half stop ends its longest good prefix.
use Rattle.std.proofs.Common.{ℕ, List, Err, refl}
use Rattle.rel_format.specs.declared.header.PageFault.{PageFault}
use Rattle.rel_format.specs.declared.header.PageFault.TheVariants.{Damaged, Memory}
use Rattle.hera_meaning.specs.declared.schemas.RelDecl.{RelDecl}
use Rattle.rel_format.specs.Pages.{Format}
use Rattle.rel_format.specs.Table.{Stand, at_magic, next}
use Rattle.rel_format.specs.Places.{Reads, HeaderIs, IsDamage, Stops}
use Rattle.rel_format.proofs.Walks.{longest_by}

pub damage : (f : Format) (bytes : List ℕ) (at : ℕ) → Stops f bytes at → IsDamage f bytes at
damage f bytes at stops = record { good = (stops.0, stops.1); longest = λ n good. longest_by (next f) bytes (0, at_magic) at n stops.0 good.0 stops.1 stops.2 good.1; stops = stops }

pub fault_is : (f : Format) (bytes : List ℕ) (behind : List RelDecl → Stand) (e : PageFault) → Reads f bytes 0 at_magic behind (Err e) → HeaderIs f bytes (Err e)
fault_is f bytes behind (Damaged at) h = h (0, refl)
fault_is f bytes behind Memory h = tt
