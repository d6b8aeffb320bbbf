-- The least row past a bound, told by the members alone.
use Rattle.std.specs.Prelude.{Bool, true, false, ◌≡◌, Option, None, Some}
use Rattle.hera_sets.specs.Rows.{Row, is_below, is_past}

-- o is the least row past b of those that pass m
pub data IsNext (m : Row → Bool) (b : Option Row) : Option Row → Type 0 where
  nothing : ((q : Row) → m q ≡ true → is_past b q ≡ false) → IsNext m b None
  next : (r : Row) → m r ≡ true → is_past b r ≡ true → ((q : Row) → m q ≡ true → is_past b q ≡ true → is_below q r ≡ false) → IsNext m b (Some r)
