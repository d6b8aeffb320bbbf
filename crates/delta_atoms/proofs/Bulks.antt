-- A delta of one side of one relation.
use Rattle.std.proofs.Common.{◌≡◌, ℕ, Bool, true, false, cond, eqb, ◌&&◌, List, [], ◌∷◌, refl, sym, ap, ◌∙◌, length, arith, inl, inr}
use Rattle.std.proofs.lemmas.Bool.{eq-eqb, ne_eqb, cases_eq}
use Rattle.hera_sets.specs.Rows.{Row, IsAscending, holds}
use Rattle.hera_meaning.specs.declared.scalars.Sign.{Sign}
use Rattle.hera_meaning.specs.declared.scalars.Sign.TheVariants.{Plus, Minus}
use Rattle.delta_atoms.specs.Atoms.{bulk_of, sign_at}
use Rattle.delta_atoms.specs.Parts.{atoms_of, rows_at, AreOrdered, AreApart, ArePacked}
use Rattle.delta_atoms.specs.Edits.{one_side}
use Rattle.delta_atoms.proofs.Signs.{sign_at_nil, same_signs}
use Rattle.delta_atoms.proofs.PartSigns.{sign_in, when, sign_at-bulk, sign_at-atoms_of, ascending_bulk, ascending_atoms_of}

one_ordered : (s : Sign) (n : ℕ) (rows : List Row) → IsAscending rows → AreOrdered (one_side s n rows ∷ [])
one_ordered Plus n rows up = ((record { plus = up; minus = tt }, tt), tt)
one_ordered Minus n rows up = ((record { plus = tt; minus = up }, tt), tt)

none_held : (b : Bool) (r : Row) → holds (cond b [] []) r ≡ false
none_held true r = refl
none_held false r = refl

and_false : (b : Bool) → (b && false) ≡ false
and_false true = refl
and_false false = refl

one_apart : (s : Sign) (n : ℕ) (rows : List Row) → AreApart (one_side s n rows ∷ [])
one_apart Plus n rows m r = ap (λ b. holds (cond (eqb n m) rows []) r && b) (none_held (eqb n m) r) ∙ and_false (holds (cond (eqb n m) rows []) r)
one_apart Minus n rows m r = ap (λ b. b && holds (cond (eqb n m) rows []) r) (none_held (eqb n m) r)

pub one_packed : (s : Sign) (n : ℕ) (rows : List Row) → IsAscending rows → ArePacked (one_side s n rows ∷ [])
one_packed s n rows up = record { ordered = one_ordered s n rows up; apart = one_apart s n rows }

one_sign : (s : Sign) (n : ℕ) (rows : List Row) (m : ℕ) (r : Row) → sign_in (holds (rows_at Plus m (one_side s n rows ∷ [])) r) (holds (rows_at Minus m (one_side s n rows ∷ [])) r) ≡ when (eqb m n && holds rows r) s
one_sign Plus n rows m r =
    elim (cases_eq n m) [
      | inl e ↦ rw (eq-eqb n m e, eq-eqb m n (sym e)) refl
      | inr d ↦ rw (ne_eqb n m d, ne_eqb m n (λ e. d (sym e))) refl
    ]
one_sign Minus n rows m r =
    elim (cases_eq n m) [
      | inl e ↦ rw (eq-eqb n m e, eq-eqb m n (sym e)) refl
      | inr d ↦ rw (ne_eqb n m d, ne_eqb m n (λ e. d (sym e))) refl
    ]

pub one_atoms : (s : Sign) (n : ℕ) (rows : List Row) → IsAscending rows → atoms_of (one_side s n rows ∷ []) ≡ bulk_of s n rows
one_atoms s n rows up =
    same_signs (atoms_of (one_side s n rows ∷ [])) (bulk_of s n rows) (ascending_atoms_of (one_side s n rows ∷ []) (one_ordered s n rows up) (one_apart s n rows)) (ascending_bulk s n rows up) at
  where
    at : (q : Row) → sign_at (atoms_of (one_side s n rows ∷ [])) q ≡ sign_at (bulk_of s n rows) q
    at [] = sign_at_nil (atoms_of (one_side s n rows ∷ [])) ∙ sym (sign_at_nil (bulk_of s n rows))
    at (m ∷ r) = sign_at-atoms_of (one_side s n rows ∷ []) m r (one_ordered s n rows up) ∙ one_sign s n rows m r ∙ sym (sign_at-bulk s n rows m r)

-- no rows, no atoms
pub no_atoms : (s : Sign) (n : ℕ) (rows : List Row) → length rows ≡ 0 → [] ≡ bulk_of s n rows
no_atoms s n [] h = refl
no_atoms s n (r ∷ rows) h = absurd (omega (arith, h))
