-- The two newest operands, of which both are deltas.
use Rattle.std.proofs.Common.{◌≡◌, true, List, [], ◌∷◌, Some, refl, subst}
use Rattle.std.specs.Prelude.{slice_get}
use Rattle.std.specs.Option.{is_some}
use Rattle.std.proofs.lemmas.Option.{same_Some}
use Rattle.hera_meaning.specs.Values.{delta}
use Rattle.hera_code.specs.Machine.{as_delta}
use Rattle.hera_frames.specs.Items.{Item, held, value_at, are_deltas}

-- an operand that is a delta under no layers
abbrev IsDelta : Item → Type 0
IsDelta item = is_some (as_delta (value_at [] [] item)) ≡ true

deltas_of : (x y : Item) (items : List Item) → IsDelta x → IsDelta y → are_deltas (y ∷ x ∷ items) ≡ true
deltas_of (held (delta d)) (held (delta c)) items h g = refl
deltas_of x y items h g = cc

pub two_deltas : (items : List Item) (a b : Item) → Some b ≡ slice_get items 0 → Some a ≡ slice_get items 1 → IsDelta a → IsDelta b → are_deltas items ≡ true
two_deltas (y ∷ x ∷ items) a b e f h g = deltas_of x y items (subst IsDelta (same_Some a x f) h) (subst IsDelta (same_Some b y e) g)
two_deltas items a b e f h g = cc
