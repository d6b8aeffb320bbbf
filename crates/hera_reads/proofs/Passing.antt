-- The next row of a walk, which it has, and the walk past it.
use Rattle.std.proofs.Common.{◌≡◌, zero, suc, Bool, true, false, List, [], ◌∷◌, ◌++◌, drop, Option, Some, ℕ, is_some, refl, sym, ap, ◌∙◌}
use Rattle.std.specs.Prelude.{slice_get}
use Rattle.std.proofs.lemmas.Bool.{false≢true}
use Rattle.hera_sets.specs.Rows.{Row}
use Rattle.hera_reads.specs.declared.walks.WalkSource.{WalkSource}
use Rattle.hera_reads.specs.declared.walks.WalkSource.TheVariants.{Rows, Named}
use Rattle.hera_reads.specs.Walking.{Front, Rest, Pace, given, named, rest_of, current_of, first_of, past_row, past_first, has_passed, own_rows, past_own}
use Rattle.hera_reads.proofs.Drops.{drop_some}

abbrev pub pace : Front → WalkSource → List Row → Pace
pace a o g = record { rest = rest_of a o; current = current_of a o; gathered = g }

first_get : (xs : List Row) → slice_get xs 0 ≡ first_of (given xs)
first_get [] = refl
first_get (x ∷ xs) = refl

none_left : (xs : List Row) → is_some (slice_get xs 0) ≡ false → xs ≡ []
none_left [] h = refl
none_left (x ∷ xs) h = absurd (false≢true (sym h))

-- ---- the next row

pub own_first : (a : Front) (o : WalkSource) → has_passed o ≡ true → slice_get (own_rows o) 0 ≡ first_of (rest_of a o)
own_first a (Rows rows (suc i)) h = first_get (drop (suc i) rows)
own_first a o h = cc

pub behind_first : (a : Front) (o : WalkSource) → has_passed o ≡ false → is_some (slice_get a.left 0) ≡ false → slice_get (own_rows o) 0 ≡ first_of (rest_of a o)
behind_first a (Rows rows zero) h e = first_get rows ∙ ap (λ (l : List Row). first_of (given (l ++ rows))) (sym (none_left a.left e))
behind_first a (Rows rows (suc i)) h e = absurd (false≢true (sym h))
behind_first a (Named rel tip) h e = ap (λ (l : List Row). first_of (named l rel.0 tip)) (sym (none_left a.left e))

left_first : (p : Option Row) (left : List Row) (o : WalkSource) → has_passed o ≡ false → is_some (slice_get left 0) ≡ true → slice_get left 0 ≡ first_of (rest_of (record { passed = p; left = left }) o)
left_first p [] o h e = cc
left_first p (x ∷ xs) (Rows rows (suc i)) h e = cc
left_first p (x ∷ xs) o h e = refl

pub ahead_first : (a : Front) (o : WalkSource) → has_passed o ≡ false → is_some (slice_get a.left 0) ≡ true → slice_get a.left 0 ≡ first_of (rest_of a o)
ahead_first a o h e = left_first a.passed a.left o h e

-- ---- past it

row_passed : (rows g : List Row) (i : ℕ) (b : Option Row) → (x : Row) × (slice_get rows i ≡ Some x) × (drop i rows ≡ x ∷ drop (suc i) rows) →
    record { rest = given (drop (suc i) rows); current = slice_get rows i; gathered = g } ≡ past_row (given (drop i rows)) (record { rest = given (drop i rows); current = b; gathered = g })
row_passed rows g i b d =
    ap (λ (o : Option Row). record { rest = given (drop (suc i) rows); current = o; gathered = g }) d.1
    ∙ ap (λ xs. past_row (given xs) (record { rest = given xs; current = b; gathered = g })) (sym d.2)

pub own_passed : (a : Front) (o : WalkSource) (g : List Row) → has_passed o ≡ true → is_some (slice_get (own_rows o) 0) ≡ true → pace a (past_own o) g ≡ past_first (pace a o g)
own_passed a (Rows rows (suc i)) g h e = row_passed rows g (suc i) (slice_get rows i) (drop_some rows (suc i) e)
own_passed a o g h e = cc

-- where it has none
pub none_passed : (r : Rest) (w : Pace) → is_some (first_of r) ≡ false → w ≡ past_row r w
none_passed (given (x ∷ xs)) w h = cc
none_passed (named (x ∷ xs) r k) w h = cc
none_passed r w h = refl

-- ---- where it is tried

pub own_tried : (a : Front) (o n : WalkSource) (g : List Row) (b : Bool) → has_passed o ≡ true → b ≡ is_some (slice_get (own_rows o) 0) → (b ≡ true → n ≡ past_own o) → (b ≡ false → n ≡ o) → pace a n g ≡ past_first (pace a o g)
own_tried a o n g true h f p k = ap (λ z. pace a z g) (p refl) ∙ own_passed a o g h (sym f)
own_tried a o n g false h f p k = ap (λ z. pace a z g) (k refl) ∙ none_passed (rest_of a o) (pace a o g) (ap is_some (sym (own_first a o h)) ∙ sym f)
