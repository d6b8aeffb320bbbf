-- What the atoms are after a change of parts.
use Rattle.std.proofs.Common.{◌≡◌, ℕ, Bool, true, false, cond, eqb, not, ◌||◌, ◌&&◌, List, [], ◌∷◌, ◌++◌, filter, Option, Some, None, refl, sym, ap, ◌∙◌, subst}
use Rattle.std.specs.Option.{is_some}
use Rattle.std.proofs.lemmas.Bool.{both_ways, or_parts, false≢true}
use Rattle.std.proofs.lemmas.List.{append-nil}
use Rattle.std.proofs.lemmas.List.Elements.{filter-append}
use Rattle.hera_sets.specs.Rows.{Row, is_same, is_below, IsBelowAll, IsAscending, holds, put, without}
use Rattle.hera_sets.proofs.Order.{same_true, same_itself, same_cons, before, level, behind, stands as standing}
use Rattle.hera_sets.proofs.Members.{holds-put, holds-filter}
use Rattle.hera_meaning.specs.declared.scalars.Sign.{Sign}
use Rattle.hera_meaning.specs.declared.scalars.Sign.TheVariants.{Plus, Minus}
use Rattle.hera_meaning.specs.Deltas.{Atom, Delta, atoms, key_of, keys_of, unnamed, joint_atoms}
use Rattle.hera_meaning.specs.Values.{same_sign}
use Rattle.hera_meaning.proofs.Atoms.{ascending_joint}
use Rattle.delta_atoms.specs.Atoms.{atom_of, sign_at, with_last}
use Rattle.delta_atoms.specs.declared.parts.DeltaPart.{DeltaPart}
use Rattle.delta_atoms.specs.Parts.{atoms_of, rows_at, AreOrdered, ArePacked}
use Rattle.delta_atoms.specs.Edits.{HaveSame, Puts, Takes, gives, is_atom, stands, turned, PutsAll, PutsSome, TakesAll, news}
use Rattle.delta_atoms.proofs.Signs.{first_of, sign_at_nil, none_signed, sign_at-append, sign_at-in_order, same_signs}
use Rattle.delta_atoms.proofs.PartSigns.{sign_in, sign_at-atoms_of, holds-keys_of, ascending_atoms_of}
use Rattle.delta_atoms.proofs.Sides.{rows_give, ascending_filter}

same_sym : (a b : Row) → is_same a b ≡ is_same b a
same_sym a b =
    elim (standing a b) [
      | before p q s ↦ s ∙ sym (apart (is_same b a) refl s)
      | level e p q s ↦ s ∙ sym (ap (λ z. is_same z a) (sym e) ∙ same_itself a)
      | behind p q s ↦ s ∙ sym (apart (is_same b a) refl s)
    ]
  where
    apart : (v : Bool) → is_same b a ≡ v → is_same a b ≡ false → v ≡ false
    apart true e f = absurd (both_ways _ f (ap (λ z. is_same z b) (sym (same_true b a e)) ∙ same_itself b))
    apart false e f = refl

-- the members after a row is put in, or taken out
holds-puts : (a : Atom) (old new : List DeltaPart) → Puts a old new → (s : Sign) (n : ℕ) (r : Row) → holds (rows_at s n new) r ≡ (is_atom s n r a || holds (rows_at s n old) r)
holds-puts a old new h s n r =
    ap (λ t. holds t r) (h s n)
    ∙ by (same_sign s a.sign) (eqb n a.rel)
    ∙ ap (λ v. (same_sign s a.sign && v) || holds (rows_at s n old) r) (sym (same_cons n a.rel r a.row))
  where
    by : (u v : Bool) → holds (cond (u && v) (put a.row (rows_at s n old)) (rows_at s n old)) r ≡ ((u && (v && is_same r a.row)) || holds (rows_at s n old) r)
    by true true = holds-put a.row (rows_at s n old) r
    by true false = refl
    by false v = refl

holds-takes : (a : Atom) (old new : List DeltaPart) → Takes a old new → (s : Sign) (n : ℕ) (r : Row) → holds (rows_at s n new) r ≡ (not (is_atom s n r a) && holds (rows_at s n old) r)
holds-takes a old new h s n r =
    ap (λ t. holds t r) (h s n)
    ∙ by (same_sign s a.sign) (eqb n a.rel)
    ∙ ap (λ v. not (same_sign s a.sign && v) && holds (rows_at s n old) r) (sym (same_cons n a.rel r a.row))
  where
    by : (u v : Bool) → holds (cond (u && v) (without a.row (rows_at s n old)) (rows_at s n old)) r ≡ (not (u && (v && is_same r a.row)) && holds (rows_at s n old) r)
    by true true = holds-filter (λ y. not (is_same a.row y)) (rows_at s n old) r ∙ ap (λ v. not v && holds (rows_at s n old) r) (same_sym a.row r)
    by true false = refl
    by false v = refl

or_assoc : (a b c : Bool) → (a || (b || c)) ≡ ((a || b) || c)
or_assoc true b c = refl
or_assoc false b c = refl

pub stands-append : (xs ys : List Atom) (s : Sign) (n : ℕ) (r : Row) → stands (xs ++ ys) s n r ≡ (stands xs s n r || stands ys s n r)
stands-append [] ys s n r = refl
stands-append (a ∷ xs) ys s n r = ap (λ b. is_atom s n r a || b) (stands-append xs ys s n r) ∙ or_assoc (is_atom s n r a) (stands xs s n r) (stands ys s n r)

stands-push : (xs : List Atom) (a : Atom) (s : Sign) (n : ℕ) (r : Row) → stands (xs ++ a ∷ []) s n r ≡ (is_atom s n r a || stands xs s n r)
stands-push xs a s n r = stands-append xs (a ∷ []) s n r ∙ swap (stands xs s n r) (is_atom s n r a)
  where
    swap : (b c : Bool) → (b || (c || false)) ≡ (c || b)
    swap true true = refl
    swap true false = refl
    swap false true = refl
    swap false false = refl

-- atoms put in, one after another
pub puts_step : (xs : List Atom) (a : Atom) (old mid new : List DeltaPart) → PutsAll xs old mid → Puts a mid new → PutsAll (xs ++ a ∷ []) old new
puts_step xs a old mid new h g s n r =
    holds-puts a mid new g s n r
    ∙ ap (λ b. is_atom s n r a || b) (h s n r)
    ∙ or_assoc (is_atom s n r a) (stands xs s n r) (holds (rows_at s n old) r)
    ∙ ap (λ b. b || holds (rows_at s n old) r) (sym (stands-push xs a s n r))

pub puts_some : (xs ys rest : List Atom) (old mid new : List DeltaPart) → PutsAll xs old mid → HaveSame mid new → xs ++ rest ≡ ys → PutsSome ys old new
puts_some xs ys rest old mid new h g e s n r none =
    ap (λ t. holds t r) (g s n)
    ∙ h s n r
    ∙ ap (λ b. b || holds (rows_at s n old) r) (or_parts (stands xs s n r) (stands rest s n r) (sym (stands-append xs rest s n r) ∙ ap (λ t. stands t s n r) e ∙ none)).0

pub puts_whole : (ys : List Atom) (old new : List DeltaPart) → PutsAll ys old new → PutsSome ys old new
puts_whole ys old new h s n r none = h s n r ∙ ap (λ b. b || holds (rows_at s n old) r) none

-- atoms taken out, one after another
turn_other : (t : Bool) (s u : Sign) → same_sign s (turned t u) ≡ same_sign (turned t s) u
turn_other false s u = refl
turn_other true Plus Plus = refl
turn_other true Plus Minus = refl
turn_other true Minus Plus = refl
turn_other true Minus Minus = refl

pub takes_step : (t : Bool) (xs : List Atom) (a : Atom) (old mid new : List DeltaPart) → TakesAll t xs old mid → Takes (atom_of (turned t a.sign) a.rel a.row) mid new → TakesAll t (xs ++ a ∷ []) old new
takes_step t xs a old mid new h g s n r =
    holds-takes (atom_of (turned t a.sign) a.rel a.row) mid new g s n r
    ∙ (λ i. not (turn_other t s a.sign i && is_same (n ∷ r) (key_of a)) && h s n r i)
    ∙ neither (is_atom (turned t s) n r a) (stands xs (turned t s) n r) (holds (rows_at s n old) r)
    ∙ ap (λ b. not b && holds (rows_at s n old) r) (sym (stands-push xs a (turned t s) n r))
  where
    neither : (b c d : Bool) → (not b && (not c && d)) ≡ (not (b || c) && d)
    neither true c d = refl
    neither false c d = refl

-- in order, an atom stands where its key has its sign
pub stands-signs : (xs : List Atom) (s : Sign) (n : ℕ) (r : Row) → IsAscending (keys_of xs) → stands xs s n r ≡ gives (sign_at xs (n ∷ r)) s
stands-signs [] s n r up = refl
stands-signs (a ∷ xs) s n r up = ap (λ b. is_atom s n r a || b) (stands-signs xs s n r up.1) ∙ by (is_same (n ∷ r) (key_of a)) refl
  where
    here : (u : Bool) → ((u && true) || false) ≡ u
    here true = refl
    here false = refl

    there : (u : Bool) (o : Option Sign) → ((u && false) || gives o s) ≡ gives o s
    there true o = refl
    there false o = refl

    by : (v : Bool) → is_same (n ∷ r) (key_of a) ≡ v → ((same_sign s a.sign && v) || gives (sign_at xs (n ∷ r)) s) ≡ gives (cond v (Some a.sign) (sign_at xs (n ∷ r))) s
    by true e = rw (none_signed (n ∷ r) xs (subst (λ z. IsBelowAll z (keys_of xs)) (sym (same_true (n ∷ r) (key_of a) e)) up.0)) (here (same_sign s a.sign))
    by false e = there (same_sign s a.sign) (sign_at xs (n ∷ r))

-- the same members
pub same_packed : (old new : List DeltaPart) → ArePacked old → AreOrdered new → ((s : Sign) (n : ℕ) (r : Row) → holds (rows_at s n new) r ≡ holds (rows_at s n old) r) → ArePacked new
same_packed old new k up h = record { ordered = up; apart = λ n r. (λ i. h Plus n r i && h Minus n r i) ∙ k.apart n r }

pub same_atoms_of : (old new : List DeltaPart) → ArePacked old → AreOrdered new → ((s : Sign) (n : ℕ) (r : Row) → holds (rows_at s n new) r ≡ holds (rows_at s n old) r) → atoms_of new ≡ atoms_of old
same_atoms_of old new k up h =
    same_signs (atoms_of new) (atoms_of old) (ascending_atoms_of new up (same_packed old new k up h).apart) (ascending_atoms_of old k.ordered k.apart) at
  where
    at : (q : Row) → sign_at (atoms_of new) q ≡ sign_at (atoms_of old) q
    at [] = sign_at_nil (atoms_of new) ∙ sym (sign_at_nil (atoms_of old))
    at (n ∷ r) = sign_at-atoms_of new n r up ∙ (λ i. sign_in (h Plus n r i) (h Minus n r i)) ∙ sym (sign_at-atoms_of old n r k.ordered)

pub same_members : (old new : List DeltaPart) → HaveSame old new → (s : Sign) (n : ℕ) (r : Row) → holds (rows_at s n new) r ≡ holds (rows_at s n old) r
same_members old new h s n r = ap (λ t. holds t r) (h s n)

-- ---- one atom behind all others

last_free : (xs : List Atom) (a : Atom) → IsAscending (keys_of (xs ++ a ∷ [])) → sign_at xs (key_of a) ≡ None
last_free [] a up = refl
last_free (x ∷ xs) a up =
    elim (standing (key_of a) (key_of x)) [
      | before p q s ↦ rw s (last_free xs a up.1)
      | level e p q s ↦ absurd (both_ways _ q (last xs up.0))
      | behind p q s ↦ rw s (last_free xs a up.1)
    ]
  where
    last : (xs : List Atom) → IsBelowAll (key_of x) (keys_of (xs ++ a ∷ [])) → is_below (key_of x) (key_of a) ≡ true
    last [] all = all.0
    last (y ∷ ys) all = last ys all.1

push_table : (v : Bool) (t : Sign) (o : Option Sign) → (v ≡ true → o ≡ None) → sign_in ((same_sign Plus t && v) || gives o Plus) ((same_sign Minus t && v) || gives o Minus) ≡ first_of o (cond v (Some t) None)
push_table true Plus o f = rw (f refl) refl
push_table true Minus o f = rw (f refl) refl
push_table false Plus None f = refl
push_table false Plus (Some Plus) f = refl
push_table false Plus (Some Minus) f = refl
push_table false Minus None f = refl
push_table false Minus (Some Plus) f = refl
push_table false Minus (Some Minus) f = refl

push_apart : (v : Bool) (t : Sign) (o : Option Sign) → (v ≡ true → o ≡ None) → (((same_sign Plus t && v) || gives o Plus) && ((same_sign Minus t && v) || gives o Minus)) ≡ false
push_apart true Plus o f = rw (f refl) refl
push_apart true Minus o f = rw (f refl) refl
push_apart false Plus None f = refl
push_apart false Plus (Some Plus) f = refl
push_apart false Plus (Some Minus) f = refl
push_apart false Minus None f = refl
push_apart false Minus (Some Plus) f = refl
push_apart false Minus (Some Minus) f = refl

module _ (a : Atom) (old new : List DeltaPart) (k : ArePacked old) (up : AreOrdered new) (h : Puts a old new) (g : IsAscending (keys_of (atoms_of old ++ a ∷ []))) where
  members : (s : Sign) (n : ℕ) (r : Row) → holds (rows_at s n new) r ≡ (is_atom s n r a || gives (sign_at (atoms_of old) (n ∷ r)) s)
  members s n r = holds-puts a old new h s n r ∙ ap (λ b. is_atom s n r a || b) (rows_give s n old r k)

  free : (q : Row) → is_same q (key_of a) ≡ true → sign_at (atoms_of old) q ≡ None
  free q e = ap (sign_at (atoms_of old)) (same_true q (key_of a) e) ∙ last_free (atoms_of old) a g

  pub pushed_packed : ArePacked new
  pushed_packed = record { ordered = up; apart = λ n r. (λ i. members Plus n r i && members Minus n r i) ∙ push_apart (is_same (n ∷ r) (key_of a)) a.sign (sign_at (atoms_of old) (n ∷ r)) (free (n ∷ r)) }

  pub pushed_atoms : atoms_of new ≡ atoms_of old ++ a ∷ []
  pushed_atoms = same_signs (atoms_of new) (atoms_of old ++ a ∷ []) (ascending_atoms_of new up pushed_packed.apart) g at
    where
      at : (q : Row) → sign_at (atoms_of new) q ≡ sign_at (atoms_of old ++ a ∷ []) q
      at [] = sign_at_nil (atoms_of new) ∙ sym (sign_at_nil (atoms_of old ++ a ∷ []))
      at (n ∷ r) =
          sign_at-atoms_of new n r up
          ∙ (λ i. sign_in (members Plus n r i) (members Minus n r i))
          ∙ push_table (is_same (n ∷ r) (key_of a)) a.sign (sign_at (atoms_of old) (n ∷ r)) (free (n ∷ r))
          ∙ sym (sign_at-append (atoms_of old) (a ∷ []) (n ∷ r))

-- ---- a second delta over the first

abbrev pub keep : (Sign → Bool) → Option Sign → Option Sign
keep t None = None
keep t (Some s) = cond (t s) (Some s) None

pub sign_at-filter : (t : Row → Sign → Bool) (xs : List Atom) (k : Row) → IsAscending (keys_of xs) → sign_at (filter (λ a. t (key_of a) a.sign) xs) k ≡ keep (t k) (sign_at xs k)
sign_at-filter t [] k up = refl
sign_at-filter t (a ∷ xs) k up = by (t (key_of a) a.sign) refl (is_same k (key_of a)) refl (sign_at-filter t xs k up.1)
  where
    by : (b : Bool) → t (key_of a) a.sign ≡ b → (v : Bool) → is_same k (key_of a) ≡ v → sign_at (filter (λ a. t (key_of a) a.sign) xs) k ≡ keep (t k) (sign_at xs k)
        → sign_at (cond b (a ∷ filter (λ a. t (key_of a) a.sign) xs) (filter (λ a. t (key_of a) a.sign) xs)) k ≡ keep (t k) (cond v (Some a.sign) (sign_at xs k))
    by true e true f h = rw (f, ap (λ z. t z a.sign) (same_true k (key_of a) f) ∙ e) refl
    by true e false f h = rw f h
    by false e true f h =
        h ∙ ap (keep (t k)) (none_signed k xs (subst (λ z. IsBelowAll z (keys_of xs)) (sym (same_true k (key_of a) f)) up.0)) ∙ rw (ap (λ z. t z a.sign) (same_true k (key_of a) f) ∙ e) refl
    by false e false f h = h

-- what the news keep of a sign
abbrev new_sign : Option Sign → Option Sign → Option Sign
new_sign o y = keep (λ s. not (gives o s)) y

over_table : (o y : Option Sign) → sign_in (not (gives (new_sign o y) Minus) && (gives (new_sign o y) Plus || gives o Plus)) (not (gives (new_sign o y) Plus) && (gives (new_sign o y) Minus || gives o Minus)) ≡ first_of y (keep (λ s. not (is_some y)) o)
over_table None None = refl
over_table None (Some Plus) = refl
over_table None (Some Minus) = refl
over_table (Some Plus) None = refl
over_table (Some Plus) (Some Plus) = refl
over_table (Some Plus) (Some Minus) = refl
over_table (Some Minus) None = refl
over_table (Some Minus) (Some Plus) = refl
over_table (Some Minus) (Some Minus) = refl

over_apart : (f o : Option Sign) → ((not (gives f Minus) && (gives f Plus || gives o Plus)) && (not (gives f Plus) && (gives f Minus || gives o Minus))) ≡ false
over_apart None None = refl
over_apart None (Some Plus) = refl
over_apart None (Some Minus) = refl
over_apart (Some Plus) None = refl
over_apart (Some Plus) (Some Plus) = refl
over_apart (Some Plus) (Some Minus) = refl
over_apart (Some Minus) None = refl
over_apart (Some Minus) (Some Plus) = refl
over_apart (Some Minus) (Some Minus) = refl

new_table : (o y : Option Sign) (s : Sign) → gives (new_sign o y) s ≡ true → gives o s ≡ false
new_table None y s h = refl
new_table (Some Plus) None s h = cc
new_table (Some Plus) (Some Plus) s h = cc
new_table (Some Plus) (Some Minus) Plus h = cc
new_table (Some Plus) (Some Minus) Minus h = refl
new_table (Some Minus) None s h = cc
new_table (Some Minus) (Some Plus) Plus h = refl
new_table (Some Minus) (Some Plus) Minus h = cc
new_table (Some Minus) (Some Minus) s h = cc

pub ascending_news : (xs ys : List Atom) → IsAscending (keys_of ys) → IsAscending (keys_of (news xs ys))
ascending_news xs ys up = ascending_filter _ ys up

sign_at-news : (xs ys : List Atom) (k : Row) → IsAscending (keys_of ys) → sign_at (news xs ys) k ≡ new_sign (sign_at xs k) (sign_at ys k)
sign_at-news xs ys k up = sign_at-filter (λ q s. not (gives (sign_at xs q) s)) ys k up

pub sign_at-joint : (xs ys : List Atom) (k : Row) → IsAscending (keys_of xs) → sign_at (joint_atoms xs ys) k ≡ first_of (sign_at ys k) (keep (λ s. not (is_some (sign_at ys k))) (sign_at xs k))
sign_at-joint xs ys k up =
    sign_at-in_order (ys ++ unnamed xs ys) k
    ∙ sign_at-append ys (unnamed xs ys) k
    ∙ ap (first_of (sign_at ys k)) (sign_at-filter (λ q s. not (holds (keys_of ys) q)) xs k up ∙ ap (λ b. keep (λ s. not b) (sign_at xs k)) (holds-keys_of ys k))

module _ (ys : List Atom) (old mid new : List DeltaPart) (k : ArePacked old) (up : AreOrdered new) (uy : IsAscending (keys_of ys)) where
  abbrev fresh : List Atom
  fresh = news (atoms_of old) ys

  fresh_stands : (s : Sign) (n : ℕ) (r : Row) → stands fresh s n r ≡ gives (new_sign (sign_at (atoms_of old) (n ∷ r)) (sign_at ys (n ∷ r))) s
  fresh_stands s n r = stands-signs fresh s n r (ascending_news (atoms_of old) ys uy) ∙ ap (λ o. gives o s) (sign_at-news (atoms_of old) ys (n ∷ r) uy)

  -- all put in, and then the other sign taken out
  over_members : PutsAll fresh old mid → TakesAll true fresh mid new → (s : Sign) (n : ℕ) (r : Row) → holds (rows_at s n new) r ≡ (not (gives (new_sign (sign_at (atoms_of old) (n ∷ r)) (sign_at ys (n ∷ r))) (turned true s)) && (gives (new_sign (sign_at (atoms_of old) (n ∷ r)) (sign_at ys (n ∷ r))) s || gives (sign_at (atoms_of old) (n ∷ r)) s))
  over_members h g s n r =
      g s n r
      ∙ ap (λ b. not (stands fresh (turned true s) n r) && b) (h s n r)
      ∙ (λ i. not (fresh_stands (turned true s) n r i) && (fresh_stands s n r i || rows_give s n old r k i))

  pub over_packed : PutsAll fresh old mid → TakesAll true fresh mid new → ArePacked new
  over_packed h g = record {
    ordered = up;
    apart = λ n r. (λ i. over_members h g Plus n r i && over_members h g Minus n r i) ∙ over_apart (new_sign (sign_at (atoms_of old) (n ∷ r)) (sign_at ys (n ∷ r))) (sign_at (atoms_of old) (n ∷ r));
  }

  pub over_atoms : PutsAll fresh old mid → TakesAll true fresh mid new → atoms_of new ≡ joint_atoms (atoms_of old) ys
  over_atoms h g =
      same_signs (atoms_of new) (joint_atoms (atoms_of old) ys) (ascending_atoms_of new up (over_packed h g).apart) (ascending_joint (atoms_of old) ys (ascending_atoms_of old k.ordered k.apart) uy) at
    where
      at : (q : Row) → sign_at (atoms_of new) q ≡ sign_at (joint_atoms (atoms_of old) ys) q
      at [] = sign_at_nil (atoms_of new) ∙ sym (sign_at_nil (joint_atoms (atoms_of old) ys))
      at (n ∷ r) =
          sign_at-atoms_of new n r up
          ∙ (λ i. sign_in (over_members h g Plus n r i) (over_members h g Minus n r i))
          ∙ over_table (sign_at (atoms_of old) (n ∷ r)) (sign_at ys (n ∷ r))
          ∙ sym (sign_at-joint (atoms_of old) ys (n ∷ r) (ascending_atoms_of old k.ordered k.apart))

  -- some put in, and then taken out again
  pub undone : PutsSome fresh old mid → TakesAll false fresh mid new → (s : Sign) (n : ℕ) (r : Row) → holds (rows_at s n new) r ≡ holds (rows_at s n old) r
  undone h g s n r = g s n r ∙ by (stands fresh s n r) refl
    where
      by : (b : Bool) → stands fresh s n r ≡ b → (not b && holds (rows_at s n mid) r) ≡ holds (rows_at s n old) r
      by true e = sym (rows_give s n old r k ∙ new_table (sign_at (atoms_of old) (n ∷ r)) (sign_at ys (n ∷ r)) s (sym (fresh_stands s n r) ∙ e))
      by false e = h s n r e

-- ---- the news, atom by atom

pub news-push : (xs ys : List Atom) (a : Atom) → news xs (ys ++ a ∷ []) ≡ cond (gives (sign_at xs (key_of a)) a.sign) (news xs ys) (news xs ys ++ a ∷ [])
news-push xs [] a = by (gives (sign_at xs (key_of a)) a.sign)
  where
    by : (b : Bool) → cond (not b) (a ∷ []) [] ≡ cond b [] (a ∷ [])
    by true = refl
    by false = refl
news-push xs (y ∷ ys) a = by (gives (sign_at xs (key_of y)) y.sign) (news-push xs ys a)
  where
    out : (v : Bool) (ts : List Atom) → y ∷ cond v ts (ts ++ a ∷ []) ≡ cond v (y ∷ ts) ((y ∷ ts) ++ a ∷ [])
    out true ts = refl
    out false ts = refl

    by : (b : Bool) → news xs (ys ++ a ∷ []) ≡ cond (gives (sign_at xs (key_of a)) a.sign) (news xs ys) (news xs ys ++ a ∷ [])
        → cond (not b) (y ∷ news xs (ys ++ a ∷ [])) (news xs (ys ++ a ∷ [])) ≡ cond (gives (sign_at xs (key_of a)) a.sign) (cond (not b) (y ∷ news xs ys) (news xs ys)) (cond (not b) (y ∷ news xs ys) (news xs ys) ++ a ∷ [])
    by true h = h
    by false h = ap (λ t. y ∷ t) h ∙ out (gives (sign_at xs (key_of a)) a.sign) (news xs ys)

pub ascending_news_last : (xs ys : List Atom) (a : Atom) → IsAscending (keys_of (ys ++ a ∷ [])) → IsAscending (keys_of (news xs ys ++ a ∷ []))
ascending_news_last xs [] a up = up
ascending_news_last xs (y ∷ ys) a up = by (gives (sign_at xs (key_of y)) y.sign) (ascending_news_last xs ys a up.1)
  where
    all : (zs : List Atom) → IsBelowAll (key_of y) (keys_of (zs ++ a ∷ [])) → IsBelowAll (key_of y) (keys_of (news xs zs ++ a ∷ []))
    all [] h = h
    all (z ∷ zs) h = one (gives (sign_at xs (key_of z)) z.sign) (all zs h.1)
      where
        one : (b : Bool) → IsBelowAll (key_of y) (keys_of (news xs zs ++ a ∷ [])) → IsBelowAll (key_of y) (keys_of (cond (not b) (z ∷ news xs zs) (news xs zs) ++ a ∷ []))
        one true g = g
        one false g = (h.0, g)

    by : (b : Bool) → IsAscending (keys_of (news xs ys ++ a ∷ [])) → IsAscending (keys_of (cond (not b) (y ∷ news xs ys) (news xs ys) ++ a ∷ []))
    by true h = h
    by false h = (all ys up.0, h)

pub news_step : (xs done : List Atom) (a : Atom) (d e : Delta) → d ≡ atoms (news xs done) → e ≡ cond (gives (sign_at xs (key_of a)) a.sign) d (with_last d a) → e ≡ atoms (news xs (done ++ a ∷ []))
news_step xs done a d e h g =
    g
    ∙ ap (λ (x : Delta). cond (gives (sign_at xs (key_of a)) a.sign) x (with_last x a)) h
    ∙ by (gives (sign_at xs (key_of a)) a.sign)
    ∙ ap atoms (sym (news-push xs done a))
  where
    by : (b : Bool) → cond b (atoms (news xs done)) (atoms (news xs done ++ a ∷ [])) ≡ atoms (cond b (news xs done) (news xs done ++ a ∷ []))
    by true = refl
    by false = refl

-- ---- a first delta under the second

pub named_plus : (xs : List Atom) (k : Row) → gives (sign_at xs k) Plus ≡ true → true ≡ holds (keys_of xs) k
named_plus xs k h = by (sign_at xs k) h ∙ sym (holds-keys_of xs k)
  where
    by : (o : Option Sign) → gives o Plus ≡ true → true ≡ is_some o
    by None g = absurd (false≢true g)
    by (Some s) g = refl

pub named_minus : (xs : List Atom) (k : Row) → gives (sign_at xs k) Plus ≡ false → gives (sign_at xs k) Minus ≡ holds (keys_of xs) k
named_minus xs k h = by (sign_at xs k) h ∙ sym (holds-keys_of xs k)
  where
    by : (o : Option Sign) → gives o Plus ≡ false → gives o Minus ≡ is_some o
    by None g = refl
    by (Some Plus) g = absurd (false≢true (sym g))
    by (Some Minus) g = refl

-- what is missing of a sign
abbrev miss : Option Sign → Option Sign → Option Sign
miss o x = keep (λ s. not (is_some o)) x

under_table : (o x : Option Sign) → sign_in (gives (miss o x) Plus || gives o Plus) (gives (miss o x) Minus || gives o Minus) ≡ first_of o (miss o x)
under_table None None = refl
under_table None (Some Plus) = refl
under_table None (Some Minus) = refl
under_table (Some Plus) None = refl
under_table (Some Plus) (Some s) = refl
under_table (Some Minus) None = refl
under_table (Some Minus) (Some s) = refl

under_apart : (o x : Option Sign) → ((gives (miss o x) Plus || gives o Plus) && (gives (miss o x) Minus || gives o Minus)) ≡ false
under_apart None None = refl
under_apart None (Some Plus) = refl
under_apart None (Some Minus) = refl
under_apart (Some Plus) None = refl
under_apart (Some Plus) (Some s) = refl
under_apart (Some Minus) None = refl
under_apart (Some Minus) (Some s) = refl

miss_table : (o x : Option Sign) (s : Sign) → gives (miss o x) s ≡ true → gives o s ≡ false
miss_table None x s h = refl
miss_table (Some t) None s h = absurd (false≢true h)
miss_table (Some t) (Some u) s h = absurd (false≢true h)

module _ (xs : List Atom) (old mid : List DeltaPart) (k : ArePacked old) (ux : IsAscending (keys_of xs)) where
  abbrev absent : List Atom
  absent = unnamed xs (atoms_of old)

  absent_stands : (s : Sign) (n : ℕ) (r : Row) → stands absent s n r ≡ gives (miss (sign_at (atoms_of old) (n ∷ r)) (sign_at xs (n ∷ r))) s
  absent_stands s n r =
      stands-signs absent s n r (ascending_filter _ xs ux)
      ∙ ap (λ o. gives o s) (sign_at-filter (λ q t. not (holds (keys_of (atoms_of old)) q)) xs (n ∷ r) ux ∙ ap (λ b. keep (λ t. not b) (sign_at xs (n ∷ r))) (holds-keys_of (atoms_of old) (n ∷ r)))

  under_members : PutsAll absent old mid → (s : Sign) (n : ℕ) (r : Row) → holds (rows_at s n mid) r ≡ (gives (miss (sign_at (atoms_of old) (n ∷ r)) (sign_at xs (n ∷ r))) s || gives (sign_at (atoms_of old) (n ∷ r)) s)
  under_members h s n r = h s n r ∙ (λ i. absent_stands s n r i || rows_give s n old r k i)

  pub under_packed : AreOrdered mid → PutsAll absent old mid → ArePacked mid
  under_packed up h = record {
    ordered = up;
    apart = λ n r. (λ i. under_members h Plus n r i && under_members h Minus n r i) ∙ under_apart (sign_at (atoms_of old) (n ∷ r)) (sign_at xs (n ∷ r));
  }

  pub under_atoms : AreOrdered mid → PutsAll absent old mid → atoms_of mid ≡ joint_atoms xs (atoms_of old)
  under_atoms up h =
      same_signs (atoms_of mid) (joint_atoms xs (atoms_of old)) (ascending_atoms_of mid up (under_packed up h).apart) (ascending_joint xs (atoms_of old) ux (ascending_atoms_of old k.ordered k.apart)) at
    where
      at : (q : Row) → sign_at (atoms_of mid) q ≡ sign_at (joint_atoms xs (atoms_of old)) q
      at [] = sign_at_nil (atoms_of mid) ∙ sym (sign_at_nil (joint_atoms xs (atoms_of old)))
      at (n ∷ r) =
          sign_at-atoms_of mid n r up
          ∙ (λ i. sign_in (under_members h Plus n r i) (under_members h Minus n r i))
          ∙ under_table (sign_at (atoms_of old) (n ∷ r)) (sign_at xs (n ∷ r))
          ∙ sym (sign_at-joint xs (atoms_of old) (n ∷ r) ux)

  -- some put in, and then taken out again
  pub under_undone : (new : List DeltaPart) → PutsSome absent old mid → TakesAll false absent mid new → (s : Sign) (n : ℕ) (r : Row) → holds (rows_at s n new) r ≡ holds (rows_at s n old) r
  under_undone new h g s n r = g s n r ∙ by (stands absent s n r) refl
    where
      by : (b : Bool) → stands absent s n r ≡ b → (not b && holds (rows_at s n mid) r) ≡ holds (rows_at s n old) r
      by true e = sym (rows_give s n old r k ∙ miss_table (sign_at (atoms_of old) (n ∷ r)) (sign_at xs (n ∷ r)) s (sym (absent_stands s n r) ∙ e))
      by false e = h s n r e

-- ---- what is missing, atom by atom

missing-push : (xs ys : List Atom) (a : Atom) → unnamed (xs ++ a ∷ []) ys ≡ cond (holds (keys_of ys) (key_of a)) (unnamed xs ys) (unnamed xs ys ++ a ∷ [])
missing-push xs ys a = filter-append (λ b. not (holds (keys_of ys) (key_of b))) xs (a ∷ []) ∙ by (holds (keys_of ys) (key_of a))
  where
    by : (b : Bool) → unnamed xs ys ++ cond (not b) (a ∷ []) [] ≡ cond b (unnamed xs ys) (unnamed xs ys ++ a ∷ [])
    by true = append-nil (unnamed xs ys)
    by false = refl

pub ascending_kept_last : (t : Atom → Bool) (xs : List Atom) (a : Atom) → IsAscending (keys_of (xs ++ a ∷ [])) → IsAscending (keys_of (filter t xs ++ a ∷ []))
ascending_kept_last t [] a up = up
ascending_kept_last t (y ∷ ys) a up = by (t y) (ascending_kept_last t ys a up.1)
  where
    all : (zs : List Atom) → IsBelowAll (key_of y) (keys_of (zs ++ a ∷ [])) → IsBelowAll (key_of y) (keys_of (filter t zs ++ a ∷ []))
    all [] h = h
    all (z ∷ zs) h = one (t z) (all zs h.1)
      where
        one : (b : Bool) → IsBelowAll (key_of y) (keys_of (filter t zs ++ a ∷ [])) → IsBelowAll (key_of y) (keys_of (cond b (z ∷ filter t zs) (filter t zs) ++ a ∷ []))
        one true g = (h.0, g)
        one false g = g

    by : (b : Bool) → IsAscending (keys_of (filter t ys ++ a ∷ [])) → IsAscending (keys_of (cond b (y ∷ filter t ys) (filter t ys) ++ a ∷ []))
    by true h = (all ys up.0, h)
    by false h = h

pub missing_step : (ys done : List Atom) (a : Atom) (d e : Delta) → d ≡ atoms (unnamed done ys) → e ≡ cond (holds (keys_of ys) (key_of a)) d (with_last d a) → e ≡ atoms (unnamed (done ++ a ∷ []) ys)
missing_step ys done a d e h g =
    g
    ∙ ap (λ (x : Delta). cond (holds (keys_of ys) (key_of a)) x (with_last x a)) h
    ∙ by (holds (keys_of ys) (key_of a))
    ∙ ap atoms (sym (missing-push done ys a))
  where
    by : (b : Bool) → cond b (atoms (unnamed done ys)) (atoms (unnamed done ys ++ a ∷ [])) ≡ atoms (cond b (unnamed done ys) (unnamed done ys ++ a ∷ []))
    by true = refl
    by false = refl
