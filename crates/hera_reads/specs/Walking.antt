-- Walks: what is left of them, over the state that a machine reads.
use Rattle.std.specs.Prelude.{◌≡◌, ℕ, zero, suc, Bool, true, false, List, [], ◌∷◌, Option, None, Some, ◌++◌, drop, max, slice_get, IsSomeAnd, MatchBool}
use Rattle.std.specs.List.{filter}
use Rattle.hera_sets.specs.Rows.{Row, is_past, put}
use Rattle.hera_meaning.specs.Deltas.{State, rows_at}
use Rattle.hera_code.specs.Machine.{Walk, with_current}
use Rattle.when_overlay.specs.declared.layers.Layer.{Layer}
use Rattle.hera_reads.specs.declared.walks.WalkSource.{WalkSource}
use Rattle.hera_reads.specs.declared.walks.WalkSource.TheVariants.{Rows, Named}
use Rattle.hera_reads.specs.Branched.{seen_at}

-- what contracts see of rows read ahead: the one that was passed last, and those that are left
pub record Front : Type 0 where
  pub passed : Option Row
  pub left : List Row

-- what is left: these rows; or these, which were read ahead, and then what lies past the last of them in a relation,
-- as it is under a layer
pub data Rest : Type 0 where
  given : List Row → Rest
  named : List Row → ℕ → ℕ → Rest

-- what contracts see of a walk
pub record Pace : Type 0 where
  pub rest : Rest
  pub current : Option Row
  pub gathered : List Row

-- what is left behind rows read ahead; where the walk has passed one of its own rows, those are behind
abbrev pub rest_of : Front → WalkSource → Rest
rest_of ahead (Rows rows zero) = given (ahead.left ++ rows)
rest_of ahead (Rows rows (suc i)) = given (drop (suc i) rows)
rest_of ahead (Named rel tip) = named ahead.left rel.0 tip

-- the row before a place
abbrev pub row_before : ℕ → List Row → Option Row
row_before zero rows = None
row_before (suc i) rows = slice_get rows i

abbrev pub current_of : Front → WalkSource → Option Row
current_of ahead (Rows rows zero) = ahead.passed
current_of ahead (Rows rows (suc i)) = slice_get rows i
current_of ahead (Named rel tip) = ahead.passed

-- the last of these rows, or the one before them where there are none
abbrev pub last_or : Option Row → List Row → Option Row
last_or x [] = x
last_or x (y ∷ ys) = last_or (Some y) ys

-- these rows, read ahead behind one, and then what lies past the last of them
abbrev pub onward : Option Row → List Row → List Row → List Row
onward x ahead rows = ahead ++ filter (is_past (last_or x ahead)) rows

abbrev pub to_come : State → List Layer → Option Row → Rest → List Row
to_come s ls x (given rows) = rows
to_come s ls x (named ahead r k) = onward x ahead (rows_at (seen_at s ls k) r)

-- the walk over the committed state and under the layers
abbrev pub walk_at : State → List Layer → Pace → Walk
walk_at s ls w = record { rows = to_come s ls w.current w.rest; current = w.current; gathered = w.gathered }

abbrev pub is_named : Rest → Bool
is_named (given rows) = false
is_named (named ahead r k) = true

-- the walk has its rows
abbrev pub IsGiven : Rest → Type 0
IsGiven (given rows) = Unit {0}
IsGiven (named ahead r k) = ⊥

abbrev pub AreGiven : List Pace → Type 0
AreGiven [] = Unit {0}
AreGiven (w ∷ ws) = IsGiven w.rest × AreGiven ws

-- the walk with the rows that are left of it
abbrev pub settled : State → List Layer → Pace → Pace
settled s ls w = record { rest = given (to_come s ls w.current w.rest); current = w.current; gathered = w.gathered }

-- how many layers have to be there, the oldest ones, for what is named
abbrev pub rest_reach : Rest → ℕ
rest_reach (given rows) = 0
rest_reach (named ahead r k) = suc k

abbrev pub walks_reach : List Pace → ℕ
walks_reach [] = 0
walks_reach (w ∷ ws) = max (rest_reach w.rest) (walks_reach ws)

-- the newest item of a stack is changed
abbrev pub on_newest : {A : Type 0} → (A → A) → List A → List A
on_newest f [] = []
on_newest f (x ∷ xs) = f x ∷ xs

-- the next row, where the walk has it
abbrev pub first_of : Rest → Option Row
first_of (given []) = None
first_of (given (x ∷ xs)) = Some x
first_of (named [] r k) = None
first_of (named (x ∷ xs) r k) = Some x

-- the next row and the current one of the newest walk
abbrev pub coming_in : List Pace → Option Row
coming_in [] = None
coming_in (w ∷ ws) = first_of w.rest

abbrev pub current_in : List Pace → Option Row
current_in [] = None
current_in (w ∷ ws) = w.current

-- the walk past its next row, where it has it
abbrev pub past_row : Rest → Pace → Pace
past_row (given []) w = w
past_row (given (x ∷ xs)) w = record w { rest = given xs; current = Some x }
past_row (named [] r k) w = w
past_row (named (x ∷ xs) r k) w = record w { rest = named xs r k; current = Some x }

abbrev pub past_first : Pace → Pace
past_first w = past_row w.rest w

-- the walk with its current row gathered
abbrev pub with_kept : Pace → Pace
with_kept w = record w { gathered = with_current w.current w.gathered }

-- the walk with a row gathered
abbrev pub with_gathered : Row → Pace → Pace
with_gathered x w = record w { gathered = put x w.gathered }

-- the walk gone on to its next row, or at its end
abbrev pub at_row : List Row → Walk → Walk
at_row [] w = record w { current = None }
at_row (x ∷ xs) w = record w { rows = xs; current = Some x }

abbrev pub gone_on : Walk → Walk
gone_on w = at_row w.rows w

-- past the next one of rows read ahead
abbrev pub past_left : List Row → Front → Front
past_left [] ahead = ahead
past_left (x ∷ xs) ahead = record { passed = Some x; left = xs }

abbrev pub past_front : Front → Front
past_front ahead = past_left ahead.left ahead

-- a row, and rows past it in a relation, of which none is left out
abbrev pub IsAhead : List Row → Row → List Row → Type 0
IsAhead rows first [] = ⊥
IsAhead rows first (x ∷ xs) = (x ≡ first) × (filter (is_past (Some first)) rows ≡ onward (Some first) xs rows)

-- the first of the rows past a bound is passed, if there is one, and those that are left were read ahead behind it
abbrev pub HasRead : List Row → Option Row → Front → Bool → Type 0
HasRead rows bound ahead found = MatchBool found (IsSomeAnd ahead.passed (λ x. filter (is_past bound) rows ≡ x ∷ onward (Some x) ahead.left rows)) (filter (is_past bound) rows ≡ [])

-- whether one of the walk's own rows is passed; its own rows that are left; and past the next of them
abbrev pub has_passed : WalkSource → Bool
has_passed (Rows rows zero) = false
has_passed (Rows rows (suc i)) = true
has_passed (Named rel tip) = false

abbrev pub own_rows : WalkSource → List Row
own_rows (Rows rows i) = drop i rows
own_rows (Named rel tip) = []

abbrev pub past_own : WalkSource → WalkSource
past_own (Rows rows i) = Rows rows (suc i)
past_own (Named rel tip) = Named rel tip
