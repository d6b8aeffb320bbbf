-- What one atom does to parts, and what nothing does.
use Rattle.std.proofs.Common.{◌≡◌, Bool, true, false, cond, List, [], ◌∷◌, ◌++◌, length, Option, Some, None, refl, sym, ap, ◌∙◌, subst, arith}
use Rattle.std.specs.Prelude.{IfSome}
use Rattle.std.specs.List.{find}
use Rattle.std.specs.Option.{option_map}
use Rattle.std.proofs.lemmas.Option.{none-some, same_Some}
use Rattle.hera_sets.specs.Rows.{IsAscending}
use Rattle.hera_meaning.specs.declared.scalars.Sign.{Sign}
use Rattle.hera_meaning.specs.Deltas.{Atom, Delta, fail, atoms, IsDelta, key_of, keys_of, joint_atoms, smash_of}
use Rattle.hera_meaning.proofs.Atoms.{ascending_joint}
use Rattle.delta_atoms.specs.Atoms.{atom_of, sign_at, is_after}
use Rattle.delta_atoms.specs.Refs.{atom_in}
use Rattle.delta_atoms.specs.declared.atom.AtomRef.{AtomRef}
use Rattle.delta_atoms.specs.declared.parts.DeltaPart.{DeltaPart}
use Rattle.delta_atoms.specs.Parts.{atoms_of, AreOrdered, ArePacked}
use Rattle.delta_atoms.specs.Edits.{Puts, Takes, gives, turned, PutsAll, TakesAll, news}
use Rattle.delta_atoms.proofs.Signs.{first_of, first_of-none, same_signs}
use Rattle.delta_atoms.proofs.Changed.{keep, puts_step, takes_step, sign_at-joint, news-push, over_packed, over_atoms}

news-one : (xs : List Atom) (a : Atom) (b : Bool) → gives (sign_at xs (key_of a)) a.sign ≡ b → news xs (a ∷ []) ≡ cond b [] (a ∷ [])
news-one xs a b h = news-push xs [] a ∙ ap (λ v. cond v (news xs []) (news xs [] ++ a ∷ [])) h

module _ (a : Atom) (old mid new : List DeltaPart) (k : ArePacked old) (up : AreOrdered new) (fresh : gives (sign_at (atoms_of old) (key_of a)) a.sign ≡ false)
    (put_in : Puts a old mid) (taken : Takes (atom_of (turned true a.sign) a.rel a.row) mid new) where
  one_put : PutsAll (news (atoms_of old) (a ∷ [])) old mid
  one_put = subst (λ t. PutsAll t old mid) (sym (news-one (atoms_of old) a false fresh)) (puts_step [] a old old mid (λ s n r. refl) put_in)

  one_taken : TakesAll true (news (atoms_of old) (a ∷ [])) mid new
  one_taken = subst (λ t. TakesAll true t mid new) (sym (news-one (atoms_of old) a false fresh)) (takes_step true [] a mid mid new (λ s n r. refl) taken)

  pub one_over_packed : ArePacked new
  one_over_packed = over_packed (a ∷ []) old mid new k up (tt, tt) one_put one_taken

  pub one_over_atoms : atoms_of new ≡ joint_atoms (atoms_of old) (a ∷ [])
  one_over_atoms = over_atoms (a ∷ []) old mid new k up (tt, tt) one_put one_taken

-- an atom that is there with its sign changes nothing
pub held_over : (a : Atom) (ps : List DeltaPart) → ArePacked ps → gives (sign_at (atoms_of ps) (key_of a)) a.sign ≡ true → atoms_of ps ≡ joint_atoms (atoms_of ps) (a ∷ [])
held_over a ps k h =
    let none : news (atoms_of ps) (a ∷ []) ≡ [] = news-one (atoms_of ps) a true h in
    over_atoms (a ∷ []) ps ps ps k k.ordered (tt, tt) (subst (λ t. PutsAll t ps ps) (sym none) (λ s n r. refl)) (subst (λ t. TakesAll true t ps ps) (sym none) (λ s n r. refl))

-- a list of one is its first
only : (xs : List Atom) (a : Atom) → length xs ≡ 1 → find (is_after None) xs ≡ Some a → xs ≡ a ∷ []
only [] a one h = absurd (none-some a h)
only (x ∷ []) a one h = ap (λ y. y ∷ []) (same_Some x a h)
only (x ∷ y ∷ xs) a one h = absurd (omega (arith, one))

-- nothing under a delta, and nothing over it
joint-none_under : (ys : List Atom) → IsAscending (keys_of ys) → joint_atoms [] ys ≡ ys
joint-none_under ys up = same_signs (joint_atoms [] ys) ys (ascending_joint [] ys tt up) up (λ k. sign_at-joint [] ys k tt ∙ first_of-none (sign_at ys k))

joint-none_over : (xs : List Atom) → IsAscending (keys_of xs) → joint_atoms xs [] ≡ xs
joint-none_over xs up = same_signs (joint_atoms xs []) xs (ascending_joint xs [] up tt) up (λ k. sign_at-joint xs [] k up ∙ kept (sign_at xs k))
  where
    kept : (o : Option Sign) → first_of None (keep (λ s. true) o) ≡ o
    kept None = refl
    kept (Some s) = refl

-- what is found first of a list of one
pub only_of : (xs : List Atom) (o : Option AtomRef) → length xs ≡ 1 → find (is_after None) xs ≡ option_map atom_in o → IfSome o (λ a. xs ≡ atom_in a ∷ [])
only_of xs None one h = tt
only_of xs (Some a) one h = only xs (atom_in a) one h

pub smash_nothing_under : (d : Delta) → IsDelta d → smash_of (atoms []) d ≡ d
smash_nothing_under fail up = refl
smash_nothing_under (atoms ys) up = ap atoms (joint-none_under ys up)

pub smash_nothing_over : (d : Delta) → IsDelta d → smash_of d (atoms []) ≡ d
smash_nothing_over fail up = refl
smash_nothing_over (atoms xs) up = ap atoms (joint-none_over xs up)
