-- The smash of two lists of atoms from the front, and whether they clash.
use Rattle.std.proofs.Common.{◌≡◌, Bool, true, false, cond, not, ◌||◌, ◌&&◌, List, [], ◌∷◌, ◌++◌, length, ◌<◌, Option, Some, None, refl, sym, ap, ◌∙◌, subst, append_assoc, arith}
use Rattle.std.specs.List.{filter, find, list_any}
use Rattle.std.specs.Option.{is_some}
use Rattle.std.proofs.lemmas.Bool.{both_ways, false≢true}
use Rattle.std.proofs.lemmas.List.{append-nil}
use Rattle.hera_sets.specs.Rows.{Row, is_below, is_same, IsBelowAll, IsAscending, holds}
use Rattle.hera_sets.proofs.Order.{same_true, same_itself, before, level, behind, stands}
use Rattle.hera_sets.proofs.Lists.{all_below_trans}
use Rattle.hera_meaning.specs.declared.scalars.Sign.{Sign}
use Rattle.hera_meaning.specs.declared.scalars.Sign.TheVariants.{Plus, Minus}
use Rattle.hera_meaning.specs.Deltas.{Atom, Delta, fail, atoms, is_fail, key_of, keys_of, is_plus, plus_atoms, minus_atoms, unnamed, joint_atoms, smash_of, have_common, clash, merge_of}
use Rattle.hera_meaning.specs.Values.{same_sign}
use Rattle.hera_meaning.proofs.Atoms.{ascending_joint}
use Rattle.delta_atoms.specs.Atoms.{sign_at, atoms_in, is_after}
use Rattle.delta_atoms.specs.Edits.{gives, turned}
use Rattle.delta_atoms.proofs.Signs.{first_of, none_signed, sign_at-append, sign_at-in_order, same_signs}
use Rattle.delta_atoms.proofs.PartSigns.{holds-keys_of}
use Rattle.delta_atoms.proofs.Sides.{holds-signed, ascending_filter}
use Rattle.delta_atoms.proofs.Changed.{keep, sign_at-filter}
use Rattle.delta_atoms.proofs.Walks.{filter_after_none, filter_after_step, filter_none_found, ascending_front_keys}

-- the sign at a key of a smash
sign_at-joint : (xs ys : List Atom) (k : Row) → IsAscending (keys_of xs) → sign_at (joint_atoms xs ys) k ≡ first_of (sign_at ys k) (sign_at xs k)
sign_at-joint xs ys k up =
    sign_at-in_order (ys ++ unnamed xs ys) k
    ∙ sign_at-append ys (unnamed xs ys) k
    ∙ ap (first_of (sign_at ys k)) (sign_at-filter (λ q s. not (holds (keys_of ys) q)) xs k up ∙ ap (λ b. keep (λ s. not b) (sign_at xs k)) (holds-keys_of ys k))
    ∙ by (sign_at ys k) (sign_at xs k)
  where
    by : (y x : Option Sign) → first_of y (keep (λ s. not (is_some y)) x) ≡ first_of y x
    by None None = refl
    by None (Some s) = refl
    by (Some t) x = refl

-- by members: a row is below all of a list
below_from : (x : Row) (ys : List Row) → ((y : Row) → holds ys y ≡ true → is_below x y ≡ true) → IsBelowAll x ys
below_from x [] f = tt
below_from x (y ∷ ys) f = (f y (ap (λ b. b || holds ys y) (same_itself y)), below_from x ys (λ z h. f z (later (is_same z y) (holds ys z) h)))
  where
    later : (a b : Bool) → b ≡ true → (a || b) ≡ true
    later true b h = refl
    later false b h = h

below_at : (x : Row) (ys : List Row) (q : Row) → IsBelowAll x ys → holds ys q ≡ true → is_below x q ≡ true
below_at x [] q all h = absurd (false≢true h)
below_at x (y ∷ ys) q all h = by (is_same q y) refl h (λ g. below_at x ys q all.1 g)
  where
    by : (v : Bool) → is_same q y ≡ v → (v || holds ys q) ≡ true → (holds ys q ≡ true → is_below x q ≡ true) → is_below x q ≡ true
    by true e g f = subst (λ z. is_below x z ≡ true) (sym (same_true q y e)) all.0
    by false e g f = f g

-- a key below all of both is below all of the smash
below_joint : (k : Row) (xs ys : List Atom) → IsAscending (keys_of xs) → IsBelowAll k (keys_of xs) → IsBelowAll k (keys_of ys) → IsBelowAll k (keys_of (joint_atoms xs ys))
below_joint k xs ys up h g = below_from k (keys_of (joint_atoms xs ys)) (λ q f. by q (sign_at ys q) refl (sign_at xs q) refl (sym (holds-keys_of (joint_atoms xs ys) q ∙ ap is_some (sign_at-joint xs ys q up)) ∙ f))
  where
    by : (q : Row) (y : Option Sign) → sign_at ys q ≡ y → (x : Option Sign) → sign_at xs q ≡ x → is_some (first_of y x) ≡ true → is_below k q ≡ true
    by q (Some s) e x f p = below_at k (keys_of ys) q g (holds-keys_of ys q ∙ ap is_some e)
    by q None e (Some s) f p = below_at k (keys_of xs) q h (holds-keys_of xs q ∙ ap is_some f)
    by q None e None f p = absurd (false≢true p)

-- the first atom of the first list, which stands before all of the second
joint_left : (x : Atom) (xs ys : List Atom) → IsAscending (keys_of (x ∷ xs)) → IsAscending (keys_of ys) → IsBelowAll (key_of x) (keys_of ys) → joint_atoms (x ∷ xs) ys ≡ x ∷ joint_atoms xs ys
joint_left x xs ys up vp b =
    same_signs (joint_atoms (x ∷ xs) ys) (x ∷ joint_atoms xs ys) (ascending_joint (x ∷ xs) ys up vp) (below_joint (key_of x) xs ys up.1 up.0 b, ascending_joint xs ys up.1 vp) (λ k.
    sign_at-joint (x ∷ xs) ys k up
    ∙ by k (is_same k (key_of x)) refl
    ∙ ap (λ (o : Option Sign). cond (is_same k (key_of x)) (Some x.sign) o) (sym (sign_at-joint xs ys k up.1)))
  where
    by : (k : Row) (v : Bool) → is_same k (key_of x) ≡ v → first_of (sign_at ys k) (cond v (Some x.sign) (sign_at xs k)) ≡ cond v (Some x.sign) (first_of (sign_at ys k) (sign_at xs k))
    by k true e = rw (none_signed k ys (subst (λ z. IsBelowAll z (keys_of ys)) (sym (same_true k (key_of x) e)) b)) refl
    by k false e = refl

-- the first atom of the second list, which stands before all of the first
joint_right : (y : Atom) (xs ys : List Atom) → IsAscending (keys_of xs) → IsAscending (keys_of (y ∷ ys)) → IsBelowAll (key_of y) (keys_of xs) → joint_atoms xs (y ∷ ys) ≡ y ∷ joint_atoms xs ys
joint_right y xs ys up vp b =
    same_signs (joint_atoms xs (y ∷ ys)) (y ∷ joint_atoms xs ys) (ascending_joint xs (y ∷ ys) up vp) (below_joint (key_of y) xs ys up b vp.0, ascending_joint xs ys up vp.1) (λ k.
    sign_at-joint xs (y ∷ ys) k up
    ∙ by k (is_same k (key_of y))
    ∙ ap (λ (o : Option Sign). cond (is_same k (key_of y)) (Some y.sign) o) (sym (sign_at-joint xs ys k up)))
  where
    by : (k : Row) (v : Bool) → first_of (cond v (Some y.sign) (sign_at ys k)) (sign_at xs k) ≡ cond v (Some y.sign) (first_of (sign_at ys k) (sign_at xs k))
    by k true = refl
    by k false = refl

-- first atoms of one key
joint_both : (x y : Atom) (xs ys : List Atom) → IsAscending (keys_of (x ∷ xs)) → IsAscending (keys_of (y ∷ ys)) → key_of x ≡ key_of y → joint_atoms (x ∷ xs) (y ∷ ys) ≡ y ∷ joint_atoms xs ys
joint_both x y xs ys up vp e =
    same_signs (joint_atoms (x ∷ xs) (y ∷ ys)) (y ∷ joint_atoms xs ys) (ascending_joint (x ∷ xs) (y ∷ ys) up vp) (below_joint (key_of y) xs ys up.1 (subst (λ z. IsBelowAll z (keys_of xs)) e up.0) vp.0, ascending_joint xs ys up.1 vp.1) (λ k.
    sign_at-joint (x ∷ xs) (y ∷ ys) k up
    ∙ ap (λ z. first_of (cond (is_same k (key_of y)) (Some y.sign) (sign_at ys k)) (cond (is_same k z) (Some x.sign) (sign_at xs k))) e
    ∙ by k (is_same k (key_of y))
    ∙ ap (λ (o : Option Sign). cond (is_same k (key_of y)) (Some y.sign) o) (sym (sign_at-joint xs ys k up.1)))
  where
    by : (k : Row) (v : Bool) → first_of (cond v (Some y.sign) (sign_at ys k)) (cond v (Some x.sign) (sign_at xs k)) ≡ cond v (Some y.sign) (first_of (sign_at ys k) (sign_at xs k))
    by k true = refl
    by k false = refl

-- ---- whether two lists clash, atom by atom of the first

abbrev pub crossed : List Atom → Atom → Bool
crossed ys a = gives (sign_at ys (key_of a)) (turned true a.sign)

abbrev pub any_crossed : List Atom → List Atom → Bool
any_crossed xs ys = list_any (crossed ys) xs

or_assoc : (a b c : Bool) → ((a || b) || c) ≡ (a || (b || c))
or_assoc true b c = refl
or_assoc false b c = refl

or_swap : (a b c : Bool) → (a || (b || c)) ≡ (b || (a || c))
or_swap true true c = refl
or_swap true false c = refl
or_swap false b c = refl

pub clash-crossed : (xs ys : List Atom) → IsAscending (keys_of ys) → clash xs ys ≡ any_crossed xs ys
clash-crossed [] ys up = refl
clash-crossed (a ∷ xs) ys up = by a.sign refl (clash-crossed xs ys up)
  where
    by : (s : Sign) → a.sign ≡ s → clash xs ys ≡ any_crossed xs ys → clash (a ∷ xs) ys ≡ (gives (sign_at ys (key_of a)) (turned true s) || any_crossed xs ys)
    by Plus e h =
        rw (ap is_plus e)
        (or_assoc (holds (keys_of (minus_atoms ys)) (key_of a)) (have_common (plus_atoms xs) (minus_atoms ys)) (have_common (minus_atoms xs) (plus_atoms ys))
        ∙ (λ i. holds-signed Minus ys (key_of a) up i || h i))
    by Minus e h =
        rw (ap is_plus e)
        (or_swap (have_common (plus_atoms xs) (minus_atoms ys)) (holds (keys_of (plus_atoms ys)) (key_of a)) (have_common (minus_atoms xs) (plus_atoms ys))
        ∙ (λ i. holds-signed Plus ys (key_of a) up i || h i))

-- an atom before all of the second list crosses none
crossed_left : (x : Atom) (xs ys : List Atom) → IsBelowAll (key_of x) (keys_of ys) → any_crossed (x ∷ xs) ys ≡ any_crossed xs ys
crossed_left x xs ys b = rw (none_signed (key_of x) ys b) refl

crossed_right : (y : Atom) (xs ys : List Atom) → IsBelowAll (key_of y) (keys_of xs) → any_crossed xs (y ∷ ys) ≡ any_crossed xs ys
crossed_right y [] ys b = refl
crossed_right y (a ∷ xs) ys b =
    (λ i. gives (other i) (turned true a.sign) || crossed_right y xs ys b.1 i)
  where
    other : sign_at (y ∷ ys) (key_of a) ≡ sign_at ys (key_of a)
    other =
        elim (stands (key_of a) (key_of y)) [
          | before p q s ↦ rw s refl
          | level e p q s ↦ absurd (both_ways _ q b.0)
          | behind p q s ↦ rw s refl
        ]

crossed_both : (x y : Atom) (xs ys : List Atom) → IsAscending (keys_of (x ∷ xs)) → key_of x ≡ key_of y → any_crossed (x ∷ xs) (y ∷ ys) ≡ (same_sign (turned true x.sign) y.sign || any_crossed xs ys)
crossed_both x y xs ys up e =
    (λ i. gives (own i) (turned true x.sign) || crossed_right y xs ys (subst (λ z. IsBelowAll z (keys_of xs)) e up.0) i)
  where
    own : sign_at (y ∷ ys) (key_of x) ≡ Some y.sign
    own = rw (ap (λ z. is_same z (key_of y)) e ∙ same_itself (key_of y)) refl

-- ---- the steps of a joint walk, by the atoms past the last ones

-- an atom before the first of the second is before all that is left of it
pub before_none : (k : Row) (rb : Option Row) (ys : List Atom) → find (is_after rb) ys ≡ None → IsBelowAll k (keys_of (filter (is_after rb) ys))
before_none k rb ys h = subst (λ (t : List Atom). IsBelowAll k (keys_of t)) (sym (filter_none_found (is_after rb) ys h)) tt

pub before_some : (k : Row) (rb : Option Row) (ys : List Atom) (y : Atom) → IsAscending (keys_of ys) → find (is_after rb) ys ≡ Some y → is_below k (key_of y) ≡ true → IsBelowAll k (keys_of (filter (is_after rb) ys))
before_some k rb ys y up h b =
    let rest : filter (is_after rb) ys ≡ y ∷ filter (is_after (Some (key_of y))) ys = filter_after_step rb ys y up h in
    let all : IsAscending (keys_of (y ∷ filter (is_after (Some (key_of y))) ys)) = subst (λ (t : List Atom). IsAscending (keys_of t)) rest (ascending_filter (is_after rb) ys up) in
    subst (λ (t : List Atom). IsBelowAll k (keys_of t)) (sym rest) (b, all_below_trans k (key_of y) (keys_of (filter (is_after (Some (key_of y))) ys)) b all.0)

-- neither before the other: one key
pub level_keys : (a b : Row) → is_below a b ≡ false → is_below b a ≡ false → a ≡ b
level_keys a b h g =
    elim (stands a b) [
      | before p q s ↦ absurd (both_ways _ h p)
      | level e p q s ↦ e
      | behind p q s ↦ absurd (both_ways _ g p)
    ]

module _ (ls rs : List Atom) (ua : IsAscending (keys_of ls)) (ub : IsAscending (keys_of rs)) (lb rb : Option Row) where
  left_rest : (x : Atom) → find (is_after lb) ls ≡ Some x → filter (is_after lb) ls ≡ x ∷ filter (is_after (Some (key_of x))) ls
  left_rest x h = filter_after_step lb ls x ua h

  right_rest : (y : Atom) → find (is_after rb) rs ≡ Some y → filter (is_after rb) rs ≡ y ∷ filter (is_after (Some (key_of y))) rs
  right_rest y h = filter_after_step rb rs y ub h

  up_left : (x : Atom) → find (is_after lb) ls ≡ Some x → IsAscending (keys_of (x ∷ filter (is_after (Some (key_of x))) ls))
  up_left x h = subst (λ (t : List Atom). IsAscending (keys_of t)) (left_rest x h) (ascending_filter (is_after lb) ls ua)

  up_right : (y : Atom) → find (is_after rb) rs ≡ Some y → IsAscending (keys_of (y ∷ filter (is_after (Some (key_of y))) rs))
  up_right y h = subst (λ (t : List Atom). IsAscending (keys_of t)) (right_rest y h) (ascending_filter (is_after rb) rs ub)

  pub next_left : (x : Atom) → find (is_after lb) ls ≡ Some x → IsBelowAll (key_of x) (keys_of (filter (is_after rb) rs)) → joint_atoms (filter (is_after lb) ls) (filter (is_after rb) rs) ≡ x ∷ joint_atoms (filter (is_after (Some (key_of x))) ls) (filter (is_after rb) rs)
  next_left x h b = ap (λ t. joint_atoms t (filter (is_after rb) rs)) (left_rest x h) ∙ joint_left x (filter (is_after (Some (key_of x))) ls) (filter (is_after rb) rs) (up_left x h) (ascending_filter (is_after rb) rs ub) b

  pub next_right : (y : Atom) → find (is_after rb) rs ≡ Some y → IsBelowAll (key_of y) (keys_of (filter (is_after lb) ls)) → joint_atoms (filter (is_after lb) ls) (filter (is_after rb) rs) ≡ y ∷ joint_atoms (filter (is_after lb) ls) (filter (is_after (Some (key_of y))) rs)
  next_right y h b = ap (joint_atoms (filter (is_after lb) ls)) (right_rest y h) ∙ joint_right y (filter (is_after lb) ls) (filter (is_after (Some (key_of y))) rs) (ascending_filter (is_after lb) ls ua) (up_right y h) b

  pub next_both : (x y : Atom) → find (is_after lb) ls ≡ Some x → find (is_after rb) rs ≡ Some y → key_of x ≡ key_of y → joint_atoms (filter (is_after lb) ls) (filter (is_after rb) rs) ≡ y ∷ joint_atoms (filter (is_after (Some (key_of x))) ls) (filter (is_after (Some (key_of y))) rs)
  next_both x y h g e =
      (λ i. joint_atoms (left_rest x h i) (right_rest y g i))
      ∙ joint_both x y (filter (is_after (Some (key_of x))) ls) (filter (is_after (Some (key_of y))) rs) (up_left x h) (up_right y g) e

  pub clash_left : (x : Atom) → find (is_after lb) ls ≡ Some x → IsBelowAll (key_of x) (keys_of (filter (is_after rb) rs)) → any_crossed (filter (is_after lb) ls) (filter (is_after rb) rs) ≡ any_crossed (filter (is_after (Some (key_of x))) ls) (filter (is_after rb) rs)
  clash_left x h b = ap (λ t. any_crossed t (filter (is_after rb) rs)) (left_rest x h) ∙ crossed_left x (filter (is_after (Some (key_of x))) ls) (filter (is_after rb) rs) b

  pub clash_right : (y : Atom) → find (is_after rb) rs ≡ Some y → IsBelowAll (key_of y) (keys_of (filter (is_after lb) ls)) → any_crossed (filter (is_after lb) ls) (filter (is_after rb) rs) ≡ any_crossed (filter (is_after lb) ls) (filter (is_after (Some (key_of y))) rs)
  clash_right y h b = ap (any_crossed (filter (is_after lb) ls)) (right_rest y h) ∙ crossed_right y (filter (is_after lb) ls) (filter (is_after (Some (key_of y))) rs) b

  pub clash_both : (x y : Atom) → find (is_after lb) ls ≡ Some x → find (is_after rb) rs ≡ Some y → key_of x ≡ key_of y → any_crossed (filter (is_after lb) ls) (filter (is_after rb) rs) ≡ (same_sign (turned true x.sign) y.sign || any_crossed (filter (is_after (Some (key_of x))) ls) (filter (is_after (Some (key_of y))) rs))
  clash_both x y h g e =
      (λ i. any_crossed (left_rest x h i) (right_rest y g i))
      ∙ crossed_both x y (filter (is_after (Some (key_of x))) ls) (filter (is_after (Some (key_of y))) rs) (up_left x h) e

  -- the atoms done and one more, before the rest
  pub joint_step : (done : List Atom) (x : Atom) (rest : List Atom) → joint_atoms (filter (is_after lb) ls) (filter (is_after rb) rs) ≡ x ∷ rest → done ++ joint_atoms (filter (is_after lb) ls) (filter (is_after rb) rs) ≡ joint_atoms ls rs → (done ++ x ∷ []) ++ rest ≡ joint_atoms ls rs
  joint_step done x rest h e = append_assoc done (x ∷ []) rest ∙ ap (λ t. done ++ t) (sym h) ∙ e

  -- and it may be pushed
  pub joint_push : (done : List Atom) (x : Atom) (rest : List Atom) → joint_atoms (filter (is_after lb) ls) (filter (is_after rb) rs) ≡ x ∷ rest → done ++ joint_atoms (filter (is_after lb) ls) (filter (is_after rb) rs) ≡ joint_atoms ls rs → IsAscending (keys_of (done ++ x ∷ []))
  joint_push done x rest h e = ascending_front_keys (done ++ x ∷ []) rest (subst (λ (t : List Atom). IsAscending (keys_of t)) (sym (joint_step done x rest h e)) (ascending_joint ls rs ua ub))

  pub left_falls : (x : Atom) → find (is_after lb) ls ≡ Some x → length (filter (is_after (Some (key_of x))) ls) < length (filter (is_after lb) ls)
  left_falls x h = rw (left_rest x h) (omega arith)

  pub right_falls : (y : Atom) → find (is_after rb) rs ≡ Some y → length (filter (is_after (Some (key_of y))) rs) < length (filter (is_after rb) rs)
  right_falls y h = rw (right_rest y h) (omega arith)

  -- the end of the walk
  pub joint_end : (done : List Atom) → find (is_after lb) ls ≡ None → find (is_after rb) rs ≡ None → done ++ joint_atoms (filter (is_after lb) ls) (filter (is_after rb) rs) ≡ joint_atoms ls rs → done ≡ joint_atoms ls rs
  joint_end done h g e = sym (append-nil done) ∙ (λ i. done ++ joint_atoms (sym (filter_none_found (is_after lb) ls h) i) (sym (filter_none_found (is_after rb) rs g) i)) ∙ e

  pub clash_end : find (is_after lb) ls ≡ None → any_crossed (filter (is_after lb) ls) (filter (is_after rb) rs) ≡ any_crossed ls rs → clash ls rs ≡ false
  clash_end h e = clash-crossed ls rs ub ∙ sym e ∙ ap (λ t. any_crossed t (filter (is_after rb) rs)) (filter_none_found (is_after lb) ls h)

  pub clash_found : (x y : Atom) → find (is_after lb) ls ≡ Some x → find (is_after rb) rs ≡ Some y → key_of x ≡ key_of y → same_sign x.sign y.sign ≡ false → any_crossed (filter (is_after lb) ls) (filter (is_after rb) rs) ≡ any_crossed ls rs → clash ls rs ≡ true
  clash_found x y h g e d c =
      clash-crossed ls rs ub ∙ sym c ∙ clash_both x y h g e
      ∙ ap (λ b. b || any_crossed (filter (is_after (Some (key_of x))) ls) (filter (is_after (Some (key_of y))) rs)) (by x.sign y.sign d)
    where
      by : (s t : Sign) → same_sign s t ≡ false → same_sign (turned true s) t ≡ true
      by Plus Plus k = cc
      by Plus Minus k = refl
      by Minus Plus k = refl
      by Minus Minus k = cc

  pub clash_none : (x y : Atom) → find (is_after lb) ls ≡ Some x → find (is_after rb) rs ≡ Some y → key_of x ≡ key_of y → same_sign x.sign y.sign ≡ true → any_crossed (filter (is_after lb) ls) (filter (is_after rb) rs) ≡ any_crossed ls rs → any_crossed (filter (is_after (Some (key_of x))) ls) (filter (is_after (Some (key_of y))) rs) ≡ any_crossed ls rs
  clash_none x y h g e d c =
      ap (λ b. b || any_crossed (filter (is_after (Some (key_of x))) ls) (filter (is_after (Some (key_of y))) rs)) (sym (by x.sign y.sign d))
      ∙ sym (clash_both x y h g e) ∙ c
    where
      by : (s t : Sign) → same_sign s t ≡ true → same_sign (turned true s) t ≡ false
      by Plus Plus k = refl
      by Plus Minus k = cc
      by Minus Plus k = cc
      by Minus Minus k = refl

pub joint_start : (ls rs : List Atom) → joint_atoms (filter (is_after None) ls) (filter (is_after None) rs) ≡ joint_atoms ls rs
joint_start ls rs = λ i. joint_atoms (filter_after_none ls i) (filter_after_none rs i)

pub clash_start : (ls rs : List Atom) → any_crossed (filter (is_after None) ls) (filter (is_after None) rs) ≡ any_crossed ls rs
clash_start ls rs = λ i. any_crossed (filter_after_none ls i) (filter_after_none rs i)

-- ---- deltas that are fail or not

pub smash_left_fail : (a b : Delta) → is_fail a ≡ true → smash_of a b ≡ fail
smash_left_fail fail b h = refl
smash_left_fail (atoms xs) b h = absurd (false≢true h)

pub smash_right_fail : (a b : Delta) → is_fail b ≡ true → smash_of a b ≡ fail
smash_right_fail fail fail h = refl
smash_right_fail (atoms xs) fail h = refl
smash_right_fail a (atoms ys) h = absurd (false≢true h)

pub smash_known : (a b : Delta) → is_fail a ≡ false → is_fail b ≡ false → smash_of a b ≡ atoms (joint_atoms (atoms_in a) (atoms_in b))
smash_known fail b h g = absurd (false≢true (sym h))
smash_known (atoms xs) fail h g = absurd (false≢true (sym g))
smash_known (atoms xs) (atoms ys) h g = refl

pub merge_left_fail : (a b : Delta) → is_fail a ≡ true → merge_of a b ≡ fail
merge_left_fail fail b h = refl
merge_left_fail (atoms xs) b h = absurd (false≢true h)

pub merge_right_fail : (a b : Delta) → is_fail b ≡ true → merge_of a b ≡ fail
merge_right_fail fail fail h = refl
merge_right_fail (atoms xs) fail h = refl
merge_right_fail a (atoms ys) h = absurd (false≢true h)

pub merge_known : (a b : Delta) → is_fail a ≡ false → is_fail b ≡ false → merge_of a b ≡ cond (clash (atoms_in a) (atoms_in b)) fail (atoms (joint_atoms (atoms_in a) (atoms_in b)))
merge_known fail b h g = absurd (false≢true (sym h))
merge_known (atoms xs) fail h g = absurd (false≢true (sym g))
merge_known (atoms xs) (atoms ys) h g = refl

-- what a walk answers at its end, and at a clash
pub ends_by : (f k : Bool) (d : Delta) → (f ≡ true → k ≡ false) → d ≡ cond (f && k) fail d
ends_by true true d h = absurd (false≢true (sym (h refl)))
ends_by true false d h = refl
ends_by false k d h = refl

pub fails_by : (f s k : Bool) (d : Delta) → true ≡ (f && not s) → (f ≡ true → s ≡ false → k ≡ true) → fail ≡ cond (f && k) fail d
fails_by true true k d e h = absurd (false≢true (sym e))
fails_by true false k d e h = rw (h refl refl) refl
fails_by false s k d e h = absurd (false≢true (sym e))

pub same_by : (f s : Bool) → false ≡ (f && not s) → f ≡ true → s ≡ true
same_by true true e g = refl
same_by true false e g = absurd (false≢true e)
same_by false s e g = absurd (false≢true g)
