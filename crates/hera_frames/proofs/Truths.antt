-- What the newest operand is.
use Rattle.std.proofs.Common.{◌≡◌, Bool, List, [], ◌∷◌, drop, Option, None, Some, refl, sym, ap, ◌∙◌}
use Rattle.std.specs.Prelude.{slice_get, IfSome}
use Rattle.std.proofs.lemmas.Option.{same_Some, none-some}
use Rattle.hera_meaning.specs.declared.scalars.Scalar.TheVariants.{Bool as bool_scalar}
use Rattle.hera_meaning.specs.Deltas.{State}
use Rattle.hera_meaning.specs.Values.{Value, scalar, bool_value}
use Rattle.hera_code.specs.Machine.{as_bool}
use Rattle.when_overlay.specs.declared.layers.Layer.{Layer}
use Rattle.hera_frames.specs.Items.{Item, held, relation, value_at, held_of, newest_of}

pub of_none : {A : Type 0} → (f : Value → Option A) (items : List Item) → None ≡ slice_get items 0 → None ≡ newest_of f items
of_none f [] e = refl
of_none f (item ∷ items) e = absurd (none-some item e)

pub of_some : {A : Type 0} → (f : Value → Option A) (items : List Item) (item : Item) (r : Option A) → Some item ≡ slice_get items 0 → r ≡ held_of f item → r ≡ newest_of f items
of_some f [] item r e h = absurd (none-some item (sym e))
of_some f (x ∷ items) item r e h = h ∙ ap (held_of f) (same_Some item x e)

truth_same : (item : Item) → as_bool (value_at [] [] item) ≡ held_of as_bool item
truth_same (held v) = refl
truth_same (relation r k) = refl

-- the bool that it is
pub truth_some : (items : List Item) (item : Item) (b : Option Bool) → Some item ≡ slice_get items 0 → ((s : State) → (ls : List Layer) → b ≡ as_bool (value_at s ls item)) → b ≡ newest_of as_bool items
truth_some items item b e h = of_some as_bool items item b e (h [] [] ∙ truth_same item)

truth_is : (v : Value) (b : Bool) → Some b ≡ as_bool v → v ≡ bool_value b
truth_is (scalar (bool_scalar c)) b e = ap bool_value (sym (same_Some b c e))
truth_is v b e = cc

pub truth_items : (items : List Item) (r : Option Bool) → r ≡ newest_of as_bool items → IfSome r (λ b. items ≡ held (bool_value b) ∷ drop 1 items)
truth_items items None e = tt
truth_items (held v ∷ items) (Some b) e = ap (λ x. held x ∷ items) (truth_is v b e)
truth_items items (Some b) e = cc

pub ruleset truths = (of_none, truth_some, truth_items)

pub ruleset newest_ones = (of_none, of_some)
