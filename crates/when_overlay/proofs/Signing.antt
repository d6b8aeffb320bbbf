-- The last delta that says something of a row decides whether it is there.
use Rattle.std.proofs.Common.{◌≡◌, ℕ, zero, suc, ◌+◌, ◌-◌, ◌<◌, ◌≤◌, Bool, true, false, cond, not, ◌&&◌, ◌||◌, List, [], ◌∷◌, ◌++◌, take, get_or, length, Option, None, Some, refl, sym, ap, ◌∙◌, add-one, arith}
use Rattle.std.proofs.lemmas.Option.{none-some}
use Rattle.hera_sets.specs.Rows.{Row, holds, normal, IsAscending}
use Rattle.hera_sets.proofs.Members.{holds-filter, holds-normal, holds-append}
use Rattle.hera_meaning.specs.declared.scalars.Sign.{Sign}
use Rattle.hera_meaning.specs.declared.scalars.Sign.TheVariants.{Plus, Minus}
use Rattle.hera_meaning.specs.Deltas.{Delta, fail, atoms, rows_named, plus_atoms, minus_atoms, apply_to}
use Rattle.hera_meaning.proofs.DeltaLaws.{ascending_apply_to}
use Rattle.when_overlay.specs.Changed.{changed, rows_after}
use Rattle.when_overlay.specs.Seeking.{sign_in, later, sign_over, stands}

-- ---- one delta

said : (m p h : Bool) → (not m && (h || p)) ≡ stands (cond m (Some Minus) (cond p (Some Plus) None)) h
said true p h = refl
said false true true = refl
said false true false = refl
said false false true = refl
said false false false = refl

pub holds-changed : (r : ℕ) (rows : List Row) (d : Delta) (q : Row) → holds (changed r rows d) q ≡ stands (sign_in r d q) (holds rows q)
holds-changed r rows fail q = refl
holds-changed r rows (atoms xs) q =
    holds-filter (λ x. not (holds (rows_named r (minus_atoms xs)) x)) (normal (rows ++ rows_named r (plus_atoms xs))) q
    ∙ ap (λ b. not (holds (rows_named r (minus_atoms xs)) q) && b) (holds-normal (rows ++ rows_named r (plus_atoms xs)) q ∙ holds-append rows (rows_named r (plus_atoms xs)) q)
    ∙ said (holds (rows_named r (minus_atoms xs)) q) (holds (rows_named r (plus_atoms xs)) q) (holds rows q)

pub ascending_changed : (r : ℕ) (rows : List Row) (d : Delta) → IsAscending rows → IsAscending (changed r rows d)
ascending_changed r rows fail up = up
ascending_changed r rows (atoms xs) up = ascending_apply_to r rows xs

-- ---- deltas in order

later_none : (o : Option Sign) → later o None ≡ o
later_none None = refl
later_none (Some s) = refl

later_assoc : (a b c : Option Sign) → later (later a b) c ≡ later a (later b c)
later_assoc None b c = refl
later_assoc (Some s) b c = refl

pub sign_over-append : (r : ℕ) (ds es : List Delta) (q : Row) → sign_over r (ds ++ es) q ≡ later (sign_over r es q) (sign_over r ds q)
sign_over-append r [] es q = sym (later_none (sign_over r es q))
sign_over-append r (d ∷ ds) es q =
    ap (λ o. later o (sign_in r d q)) (sign_over-append r ds es q) ∙ later_assoc (sign_over r es q) (sign_over r ds q) (sign_in r d q)

stands_later : (a b : Option Sign) (h : Bool) → stands a (stands b h) ≡ stands (later a b) h
stands_later None b h = refl
stands_later (Some Plus) b h = refl
stands_later (Some Minus) b h = refl

pub holds-after : (r : ℕ) (rows : List Row) (ds : List Delta) (q : Row) → holds (rows_after r rows ds) q ≡ stands (sign_over r ds q) (holds rows q)
holds-after r rows [] q = refl
holds-after r rows (d ∷ ds) q =
    holds-after r (changed r rows d) ds q
    ∙ ap (stands (sign_over r ds q)) (holds-changed r rows d q)
    ∙ stands_later (sign_over r ds q) (sign_in r d q) (holds rows q)

pub ascending_after : (r : ℕ) (rows : List Row) (ds : List Delta) → IsAscending rows → IsAscending (rows_after r rows ds)
ascending_after r rows [] up = up
ascending_after r rows (d ∷ ds) up = ascending_after r (changed r rows d) ds (ascending_changed r rows d up)

-- where some delta names a row the rows behind it ascend, whatever was there
pub ascending_signed : (r : ℕ) (rows : List Row) (ds : List Delta) (q : Row) (s : Sign) → sign_over r ds q ≡ Some s → IsAscending (rows_after r rows ds)
ascending_signed r rows [] q s e = absurd (none-some s e)
ascending_signed r rows (fail ∷ ds) q s e = ascending_signed r rows ds q s (sym (later_none (sign_over r ds q)) ∙ e)
ascending_signed r rows (atoms xs ∷ ds) q s e = ascending_after r (apply_to r rows xs) ds (ascending_apply_to r rows xs)

-- whether the row is there, where the deltas say something of it and where they say nothing
pub found_signed : (r : ℕ) (rows : List Row) (ds : List Delta) (q : Row) (s : Sign) → sign_over r ds q ≡ Some s → stands (Some s) true ≡ holds (rows_after r rows ds) q
found_signed r rows ds q Plus e = sym (holds-after r rows ds q ∙ ap (λ o. stands o (holds rows q)) e)
found_signed r rows ds q Minus e = sym (holds-after r rows ds q ∙ ap (λ o. stands o (holds rows q)) e)

pub found_below : (r : ℕ) (rows : List Row) (ds : List Delta) (q : Row) → sign_over r ds q ≡ None → holds rows q ≡ holds (rows_after r rows ds) q
found_below r rows ds q e = sym (holds-after r rows ds q ∙ ap (λ o. stands o (holds rows q)) e)

-- ---- the way down from a tip

-- a layer that says nothing of the row leaves it to those below, and one that says something decides
pub sign_lower : (r : ℕ) (ds es : List Delta) (d : Delta) (q : Row) → ds ≡ es ++ d ∷ [] → sign_in r d q ≡ None → sign_over r es q ≡ sign_over r ds q
sign_lower r ds es d q e n = sym (ap (λ xs. sign_over r xs q) e ∙ sign_over-append r es (d ∷ []) q ∙ ap (λ o. later o (sign_over r es q)) n)

pub sign_here : (r : ℕ) (ds es : List Delta) (d : Delta) (q : Row) (s : Sign) → ds ≡ es ++ d ∷ [] → sign_in r d q ≡ Some s → Some s ≡ sign_over r ds q
sign_here r ds es d q s e n = sym (ap (λ xs. sign_over r xs q) e ∙ sign_over-append r es (d ∷ []) q ∙ ap (λ o. later o (sign_over r es q)) n)

-- ---- one delta further

take_suc : (ds : List Delta) (i : ℕ) (x d : Delta) → i < length ds → x ≡ get_or ds i d → take (suc i) ds ≡ take i ds ++ x ∷ []
take_suc [] i x d h e = absurd (omega (arith, h))
take_suc (y ∷ ds) zero x d h e = ap (λ z. z ∷ []) (sym e)
take_suc (y ∷ ds) (suc i) x d h e = ap (λ zs. y ∷ zs) (take_suc ds i x d (omega (arith, h)) e)

pub take_more : (ds : List Delta) (i : ℕ) (x : Delta) → i < length ds → x ≡ get_or ds i x → take (i + 1) ds ≡ take i ds ++ x ∷ []
take_more ds i x h e = ap (λ k. take k ds) (add-one i) ∙ take_suc ds i x x h e

pub take_less : (ds : List Delta) (i : ℕ) (x : Delta) → 0 < i → i ≤ length ds → x ≡ get_or ds (i - 1) x → take i ds ≡ take (i - 1) ds ++ x ∷ []
take_less ds i x some within e =
    let same : suc (i - 1) ≡ i = omega (arith, some) in
    ap (λ k. take k ds) (sym same) ∙ take_suc ds (i - 1) x x (omega (arith, some, within)) e
