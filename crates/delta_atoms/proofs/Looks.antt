-- What a look at the parts of a delta says of its atoms.
use Rattle.std.proofs.Common.{◌≡◌, ℕ, get_or, List, [], sym, ◌∙◌, ap, refl, Bool, true, false, ◌&&◌, nat_eq}
use Rattle.std.proofs.lemmas.Bool.{eq-eqb, eqb-true}
use Rattle.hera_sets.specs.Rows.{IsAscending, is_same}
use Rattle.hera_sets.proofs.Order.{same_true, same_itself}
use Rattle.hera_meaning.specs.declared.scalars.Sign.{Sign}
use Rattle.hera_meaning.specs.declared.scalars.Sign.TheVariants.{Plus, Minus}
use Rattle.hera_meaning.specs.Deltas.{Atom, Delta, fail, atoms, IsDelta, keys_of}
use Rattle.hera_meaning.specs.Values.{same_sign, same_atom}
use Rattle.delta_atoms.specs.Atoms.{atoms_in, part_of}
use Rattle.delta_atoms.specs.declared.parts.DeltaPart.{DeltaPart}
use Rattle.delta_atoms.specs.Parts.{side, atoms_of, ArePacked}
use Rattle.delta_atoms.specs.Edits.{IsAt, IsGap}
use Rattle.delta_atoms.proofs.Places.{at_rows, at_part, gap_none}
use Rattle.delta_atoms.proofs.Sides.{part_is}

pub part_at : (ps : List DeltaPart) (n i : ℕ) (s : Sign) (p : DeltaPart) → ArePacked ps → IsAt ps n i → p ≡ get_or ps i p → side s p ≡ part_of (atoms_of ps) n s
part_at ps n i s p k h e = ap (side s) (at_part ps n i h p e) ∙ sym (at_rows s ps n i h k.ordered) ∙ sym (part_is ps n s k)

pub part_gap : (ps : List DeltaPart) (n i : ℕ) (s : Sign) → ArePacked ps → IsGap ps n i → let none : List (List ℕ) = [] in none ≡ part_of (atoms_of ps) n s
part_gap ps n i s k h = sym (part_is ps n s k ∙ gap_none s ps n i h)

-- a delta's atoms ascend
pub atoms_up : (d : Delta) → IsDelta d → IsAscending (keys_of (atoms_in d))
atoms_up fail h = tt
atoms_up (atoms xs) h = h

-- two atoms that pass the test of sameness are one
same_sign_true : (s t : Sign) → same_sign s t ≡ true → s ≡ t
same_sign_true Plus Plus h = refl
same_sign_true Plus Minus h = cc
same_sign_true Minus Plus h = cc
same_sign_true Minus Minus h = refl

same_sign_itself : (s : Sign) → same_sign s s ≡ true
same_sign_itself Plus = refl
same_sign_itself Minus = refl

and_parts : (a b : Bool) → (a && b) ≡ true → (a ≡ true) × (b ≡ true)
and_parts true true h = (refl, refl)
and_parts true false h = cc
and_parts false b h = cc

pub same_atom_true : (a b : Atom) → same_atom a b ≡ true → a ≡ b
same_atom_true a b h =
    let all = and_parts (same_sign a.sign b.sign && nat_eq a.rel b.rel) (is_same a.row b.row) h in
    let two = and_parts (same_sign a.sign b.sign) (nat_eq a.rel b.rel) all.0 in
    let signs : a.sign ≡ b.sign = same_sign_true a.sign b.sign two.0 in
    let rels : a.rel ≡ b.rel = eqb-true a.rel b.rel two.1 in
    let rows : a.row ≡ b.row = same_true a.row b.row all.1 in
    λ i. record { sign = signs i; rel = rels i; row = rows i }

pub same_atom_itself : (a : Atom) → same_atom a a ≡ true
same_atom_itself a = rw (same_sign_itself a.sign, eq-eqb a.rel a.rel refl, same_itself a.row) refl
