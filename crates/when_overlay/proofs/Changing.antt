-- How many rows one delta puts in and takes out.
use Rattle.std.proofs.Common.{◌≡◌, ℕ, zero, suc, ◌+◌, ◌≤◌, Bool, true, false, cond, not, ◌&&◌, List, [], ◌∷◌, take, length, None, Some, refl, sym, ap, ◌∙◌, arith}
use Rattle.std.specs.Prelude.{slice_get}
use Rattle.std.proofs.lemmas.Option.{none-some, same_Some}
use mir.Val.{bool_byte}
use Rattle.std.specs.List.{filter}
use Rattle.std.proofs.lemmas.Bool.{false≢true}
use Rattle.hera_sets.specs.Rows.{Row, holds, IsAscending}
use Rattle.hera_sets.specs.Sets.{is_apart}
use Rattle.hera_sets.proofs.Lists.{ascending_filter}
use Rattle.hera_sets.proofs.Members.{same_rows, holds-filter}
use Rattle.hera_meaning.specs.declared.scalars.Sign.TheVariants.{Plus, Minus}
use Rattle.hera_meaning.specs.Deltas.{Atom, Delta, fail, atoms, IsDelta, is_fail, rows_named, plus_atoms, minus_atoms}
use Rattle.delta_atoms.specs.Atoms.{atoms_in, part_of}
use Rattle.delta_atoms.proofs.Sides.{ascending_part_of}
use Rattle.when_overlay.specs.Changed.{changed}
use Rattle.when_overlay.specs.Counting.{is_change, changes}
use Rattle.when_overlay.specs.Seeking.{stands}
use Rattle.when_overlay.proofs.Signing.{holds-changed, ascending_changed}
use Rattle.when_overlay.proofs.Meeting.{apart_signs}
use Rattle.when_overlay.proofs.Counting.{parts, balance, holds-changes, ascending_changes}

-- a row that is taken out, or put in, or not named, and is there or not
out_row : (m p h : Bool) → (h && not (stands (cond m (Some Minus) (cond p (Some Plus) None)) h)) ≡ (h && m)
out_row true p true = refl
out_row true p false = refl
out_row false true true = refl
out_row false true false = refl
out_row false false true = refl
out_row false false false = refl

in_row : (m p h : Bool) → (p ≡ true → m ≡ false) → (not h && stands (cond m (Some Minus) (cond p (Some Plus) None)) h) ≡ (not h && p)
in_row true true h f = absurd (false≢true (sym (f refl)))
in_row true false h f = refl
in_row false true h f = refl
in_row false false true f = refl
in_row false false false f = refl

-- what a delta takes out is what it names so of what is there
out_list : (r : ℕ) (rows : List Row) (xs : List Atom) → IsAscending rows → IsDelta (atoms xs) → changes Minus rows (changed r rows (atoms xs)) ≡ filter (holds rows) (part_of xs r Minus)
out_list r rows xs up valid =
    same_rows (changes Minus rows (changed r rows (atoms xs))) (filter (holds rows) (part_of xs r Minus)) (ascending_changes Minus rows (changed r rows (atoms xs)) up (ascending_changed r rows (atoms xs) up)) (ascending_filter (holds rows) (part_of xs r Minus) (ascending_part_of xs r Minus valid))
    (λ q. holds-changes Minus rows (changed r rows (atoms xs)) q
    ∙ ap (is_change Minus (holds rows q)) (holds-changed r rows (atoms xs) q)
    ∙ out_row (holds (rows_named r (minus_atoms xs)) q) (holds (rows_named r (plus_atoms xs)) q) (holds rows q)
    ∙ sym (holds-filter (holds rows) (part_of xs r Minus) q))

-- what it puts in is what it names so of what is not there
in_list : (r : ℕ) (rows : List Row) (xs : List Atom) → IsAscending rows → IsDelta (atoms xs) → changes Plus rows (changed r rows (atoms xs)) ≡ filter (is_apart rows) (part_of xs r Plus)
in_list r rows xs up valid =
    same_rows (changes Plus rows (changed r rows (atoms xs))) (filter (is_apart rows) (part_of xs r Plus)) (ascending_changes Plus rows (changed r rows (atoms xs)) up (ascending_changed r rows (atoms xs) up)) (ascending_filter (is_apart rows) (part_of xs r Plus) (ascending_part_of xs r Plus valid))
    (λ q. holds-changes Plus rows (changed r rows (atoms xs)) q
    ∙ ap (is_change Plus (holds rows q)) (holds-changed r rows (atoms xs) q)
    ∙ in_row (holds (rows_named r (minus_atoms xs)) q) (holds (rows_named r (plus_atoms xs)) q) (holds rows q) (apart_signs r xs q valid)
    ∙ sym (holds-filter (is_apart rows) (part_of xs r Plus) q))

-- the rows after a delta, from those before and those of its rows that are among them
pub change_sums : (r : ℕ) (rows : List Row) (d : Delta) → IsAscending rows → IsDelta d → is_fail d ≡ false →
    length (changed r rows d) + length (filter (holds rows) (part_of (atoms_in d) r Minus)) + length (filter (holds rows) (part_of (atoms_in d) r Plus)) ≡ length rows + length (part_of (atoms_in d) r Plus)
change_sums r rows fail up valid proper = absurd (false≢true (sym proper))
change_sums r rows (atoms xs) up valid proper =
    let all = balance rows (changed r rows (atoms xs)) up (ascending_changed r rows (atoms xs) up) in
    let out = ap (λ ys. length ys) (out_list r rows xs up valid) in
    let new = ap (λ ys. length ys) (in_list r rows xs up valid) in
    let plus = parts (holds rows) (part_of xs r Plus) in
    omega (arith, all.sum, out, new, plus)

-- ---- counting by places

pub count_more : (t : Row → Bool) (i : ℕ) (xs : List Row) (x : Row) → slice_get xs i ≡ Some x → length (filter t (take i xs)) + bool_byte (t x) ≡ length (filter t (take (suc i) xs))
count_more t i [] x e = absurd (none-some x e)
count_more t zero (y ∷ ys) x e = rw (sym (same_Some y x e)) (one (t y))
  where
    one : (b : Bool) → 0 + bool_byte b ≡ length (cond b (y ∷ []) [])
    one true = refl
    one false = refl
count_more t (suc i) (y ∷ ys) x e =
    let rest = count_more t i ys x e in
    elim (t y) as (λ b. length (cond b (y ∷ filter t (take i ys)) (filter t (take i ys))) + bool_byte (t x) ≡ length (cond b (y ∷ filter t (take (suc i) ys)) (filter t (take (suc i) ys)))) [
      | true ↦ omega (arith, rest)
      | false ↦ rest
    ]

pub few_up_to : (t : Row → Bool) (i : ℕ) (xs : List Row) → (length (filter t (take i xs)) ≤ i) × (length (filter t (take i xs)) ≤ length xs)
few_up_to t zero xs = (omega arith, omega arith)
few_up_to t (suc i) [] = (omega arith, omega arith)
few_up_to t (suc i) (y ∷ ys) =
    let rest = few_up_to t i ys in
    elim (t y) as (λ b. (length (cond b (y ∷ filter t (take i ys)) (filter t (take i ys))) ≤ suc i) × (length (cond b (y ∷ filter t (take i ys)) (filter t (take i ys))) ≤ suc (length ys))) [
      | true ↦ (omega (arith, rest.0), omega (arith, rest.1))
      | false ↦ (omega (arith, rest.0), omega (arith, rest.1))
    ]

pub byte_few : (b : Bool) → bool_byte b ≤ 1
byte_few true = omega arith
byte_few false = omega arith

pub next_place : (i : ℕ) → suc i ≡ i + 1
next_place i = omega arith
