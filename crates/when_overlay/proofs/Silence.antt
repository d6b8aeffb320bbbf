-- Deltas that say nothing of a relation change none of its rows.
use Rattle.std.proofs.Common.{◌≡◌, ℕ, zero, suc, cond, List, [], ◌∷◌, ◌++◌, length, None, Some, refl, sym, ap, ◌∙◌, arith, append-nil}
use Rattle.hera_sets.specs.Rows.{Row, holds, IsAscending}
use Rattle.hera_sets.proofs.Members.{same_rows}
use Rattle.hera_meaning.specs.declared.scalars.Sign.TheVariants.{Plus, Minus}
use Rattle.hera_meaning.specs.declared.schemas.RelDecl.{RelDecl}
use Rattle.hera_meaning.specs.Deltas.{Delta, fail, atoms, State, IsState, rows_named, plus_atoms}
use Rattle.std.specs.Prelude.{slice_get}
use Rattle.std.proofs.lemmas.Option.{none-some, same_Some}
use Rattle.std.proofs.Common.{subst}
use Rattle.delta_atoms.specs.Atoms.{atoms_in, part_of}
use Rattle.when_overlay.specs.Changed.{rows_after}
use Rattle.when_overlay.specs.Seeking.{sign_in, later, sign_over, stands, named_in, named}
use Rattle.when_overlay.proofs.Signing.{holds-after, ascending_after, sign_over-append}
use Rattle.when_overlay.proofs.Meeting.{named-append, named-push}

pub none_of : (xs : List Row) → length xs ≡ 0 → xs ≡ []
none_of [] e = refl
none_of (x ∷ xs) e = absurd (omega (arith, e))

-- a delta without rows of the relation says nothing of one
pub silent_in : (r : ℕ) (d : Delta) (q : Row) → part_of (atoms_in d) r Plus ≡ [] → part_of (atoms_in d) r Minus ≡ [] → sign_in r d q ≡ None
silent_in r fail q p m = refl
silent_in r (atoms xs) q p m =
    ap (λ (ms : List Row). cond (holds ms q) (Some Minus) (cond (holds (rows_named r (plus_atoms xs)) q) (Some Plus) None)) m
    ∙ ap (λ (ps : List Row). cond (holds ps q) (Some Plus) None) p

-- the deltas below one that puts in nothing put in the same
pub named_lower : (r : ℕ) (ds es : List Delta) (d : Delta) → ds ≡ es ++ d ∷ [] → named_in r Plus d ≡ [] → named r Plus es ≡ named r Plus ds
named_lower r ds es d e n =
    sym (ap (named r Plus) e ∙ named-push r Plus es d ∙ ap (λ xs. named r Plus es ++ xs) n ∙ append-nil (named r Plus es))

-- ---- deltas that say the same

pub same_signs : (r : ℕ) (fs gs ds es : List Delta) → ((q : Row) → sign_over r fs q ≡ sign_over r gs q) → ((q : Row) → sign_over r ds q ≡ sign_over r es q) → (q : Row) → sign_over r (fs ++ ds) q ≡ sign_over r (gs ++ es) q
same_signs r fs gs ds es f g q =
    sign_over-append r fs ds q ∙ (λ i. later (g q i) (f q i)) ∙ sym (sign_over-append r gs es q)

pub same_puts : (r : ℕ) (cs ds es : List Delta) → named r Plus ds ≡ named r Plus es → named r Plus (cs ++ ds) ≡ named r Plus (cs ++ es)
same_puts r cs ds es g = named-append r Plus cs ds ∙ ap (λ xs. named r Plus cs ++ xs) g ∙ sym (named-append r Plus cs es)

-- leave the same rows
pub same_after : (r : ℕ) (rows : List Row) (ds es : List Delta) → IsAscending rows → ((q : Row) → sign_over r ds q ≡ sign_over r es q) → rows_after r rows ds ≡ rows_after r rows es
same_after r rows ds es up f =
    same_rows (rows_after r rows ds) (rows_after r rows es) (ascending_after r rows ds up) (ascending_after r rows es up)
    (λ q. holds-after r rows ds q ∙ ap (λ o. stands o (holds rows q)) (f q) ∙ sym (holds-after r rows es q))

-- ---- the rows of a state ascend

pub rows_ascend : (rels : List RelDecl) (s : State) (r : ℕ) (rows : List Row) → IsState rels s → slice_get s r ≡ Some rows → IsAscending rows
rows_ascend [] [] r rows st e = absurd (none-some rows e)
rows_ascend (d ∷ rels) (x ∷ s) zero rows st e = subst IsAscending (same_Some x rows e) st.0.0
rows_ascend (d ∷ rels) (x ∷ s) (suc r) rows st e = rows_ascend rels s r rows st.1 e
rows_ascend [] (x ∷ s) r rows st e = absurd st
rows_ascend (d ∷ rels) [] r rows st e = absurd st
