-- What `check` prints is `accepted` exactly for the scripts that are accepted.
use Rattle.std.proofs.Common.{◌≡◌, ◌≤◌, ◌↔◌, ℕ, List, length, refl}
use Rattle.std.specs.Prelude.{codes}
use Rattle.hera_meaning.specs.Trees.{Program_tree}
use Rattle.hera_host.specs.Tables.{Host}
use Rattle.hera_rules.specs.Accepted.{Accepted}
use Rattle.hera_syntax.specs.Tokens.{script_limit}
use Rattle.hera_outcome.specs.Outcomes.{Outcome, prints}
use Rattle.hera_outcome.specs.Passages.{Start}
use Rattle.hera_words.specs.declared.command.Command.TheVariants.{Check}
use Rattle.hera_top.specs.Commands.{checks, ComesToFor, refuses, performs}
use Rattle.outcome_laws.proofs.OneOutcome.{NeverBoth}

abbrev IsAccepted : List Host → List ℕ → Type 0
IsAccepted hosts script = (length script ≤ script_limit) × ((p : Program_tree) × Accepted script hosts p)

told_accepted : (hosts : List Host) (script : List ℕ) (s : Start) (outcome : Outcome) → ComesToFor hosts script s Check outcome → outcome ≡ prints (codes "accepted\n") → IsAccepted hosts script
told_accepted hosts script s _ (refuses x) is = absurd (cc (is))
told_accepted hosts script s _ (performs {p} short acc checks) is = (short, (p, acc))

accepted_told : NeverBoth → (hosts : List Host) (script : List ℕ) (s : Start) (outcome : Outcome) → ComesToFor hosts script s Check outcome → IsAccepted hosts script → outcome ≡ prints (codes "accepted\n")
accepted_told never hosts script s _ (refuses {cause = c} {at = a} x) (short, (p, acc)) = absurd (never hosts script p c a short acc x)
accepted_told never hosts script s _ (performs short acc checks) given = refl

pub accepted_exactly : NeverBoth → (hosts : List Host) (script : List ℕ) (s : Start) (outcome : Outcome) → ComesToFor hosts script s Check outcome → (outcome ≡ prints (codes "accepted\n")) ↔ IsAccepted hosts script
accepted_exactly never hosts script s outcome comes = (told_accepted hosts script s outcome comes, accepted_told never hosts script s outcome comes)
