-- The laws of deltas.
use Rattle.std.proofs.Common.{◌≡◌, ℕ, suc, Bool, true, false, cond, not, ◌&&◌, ◌||◌, List, [], ◌∷◌, ◌++◌, filter, refl, sym, ap, ◌∙◌}
use Rattle.std.proofs.lemmas.Bool.{both_ways, false≢true, or_parts, or_left, or_right, or_cases}
use Rattle.std.proofs.Common.{inl, inr}
use Rattle.hera_sets.specs.Rows.{Row, is_same, holds, normal, IsAscending}
use Rattle.hera_sets.proofs.Order.{same_true, same_itself}
use Rattle.hera_sets.proofs.Lists.{ascending_filter}
use Rattle.hera_sets.proofs.Members.{holds-append, holds-filter, holds-normal, ascending_normal, same_rows}
use Rattle.hera_meaning.specs.Deltas.{Atom, Delta, fail, atoms, State, IsDelta, is_fail, key_of, keys_of, plus_atoms, minus_atoms, joint_atoms, smash_of, have_common, clash, merge_of, rows_named, apply_to, apply_from, apply_of}
use Rattle.hera_meaning.proofs.Bools.{or_false, or_comm, and_true, and_false, same_truth}
use Rattle.hera_meaning.proofs.Atoms.{marks, has_plus, has_minus, keys-filter, marks-joint_atoms, rows_named-key, same_atoms, ascending_joint}

-- ---- apply

-- the rows of a relation after a delta
pub holds-apply_to : (r : ℕ) (rows : List Row) (xs : List Atom) (q : Row) → holds (apply_to r rows xs) q ≡ (not (marks has_minus xs (r ∷ q)) && (holds rows q || marks has_plus xs (r ∷ q)))
holds-apply_to r rows xs q =
    holds-filter (λ x. not (holds (rows_named r (minus_atoms xs)) x)) (normal (rows ++ rows_named r (plus_atoms xs))) q
    ∙ ap (λ b. not b && holds (normal (rows ++ rows_named r (plus_atoms xs))) q) (rows_named-key r (minus_atoms xs) q ∙ keys-filter has_minus xs (r ∷ q))
    ∙ ap (λ b. not (marks has_minus xs (r ∷ q)) && b)
    (holds-normal (rows ++ rows_named r (plus_atoms xs)) q ∙ holds-append rows (rows_named r (plus_atoms xs)) q
    ∙ ap (λ b. holds rows q || b) (rows_named-key r (plus_atoms xs) q ∙ keys-filter has_plus xs (r ∷ q)))

pub ascending_apply_to : (r : ℕ) (rows : List Row) (xs : List Atom) → IsAscending (apply_to r rows xs)
ascending_apply_to r rows xs = ascending_filter (λ x. not (holds (rows_named r (minus_atoms xs)) x)) (normal (rows ++ rows_named r (plus_atoms xs))) (ascending_normal (rows ++ rows_named r (plus_atoms xs)))

-- in the rows; plus and minus of the first; plus and minus of the second
one_after_another : (h p m u v : Bool) → (not (v || (m && not (u || v))) && (h || (u || (p && not (u || v))))) ≡ (not v && ((not m && (h || p)) || u))
one_after_another h p m u true = refl
one_after_another true p true true false = refl
one_after_another true p false true false = refl
one_after_another false p true true false = refl
one_after_another false true false true false = refl
one_after_another false false false true false = refl
one_after_another h p true false false = refl
one_after_another true p false false false = refl
one_after_another false true false false false = refl
one_after_another false false false false false = refl

apply_to-joint : (r : ℕ) (rows : List Row) (xs ys : List Atom) → apply_to r rows (joint_atoms xs ys) ≡ apply_to r (apply_to r rows xs) ys
apply_to-joint r rows xs ys =
    same_rows (apply_to r rows (joint_atoms xs ys)) (apply_to r (apply_to r rows xs) ys) (ascending_apply_to r rows (joint_atoms xs ys)) (ascending_apply_to r (apply_to r rows xs) ys)
    (λ q. holds-apply_to r rows (joint_atoms xs ys) q
    ∙ (λ i. not (marks-joint_atoms has_minus xs ys (r ∷ q) i) && (holds rows q || marks-joint_atoms has_plus xs ys (r ∷ q) i))
    ∙ one_after_another (holds rows q) (marks has_plus xs (r ∷ q)) (marks has_minus xs (r ∷ q)) (marks has_plus ys (r ∷ q)) (marks has_minus ys (r ∷ q))
    ∙ ap (λ b. not (marks has_minus ys (r ∷ q)) && (b || marks has_plus ys (r ∷ q))) (sym (holds-apply_to r rows xs q))
    ∙ sym (holds-apply_to r (apply_to r rows xs) ys q))

apply_from-joint : (r : ℕ) (s : State) (xs ys : List Atom) → apply_from r s (joint_atoms xs ys) ≡ apply_from r (apply_from r s xs) ys
apply_from-joint r [] xs ys = refl
apply_from-joint r (rows ∷ s) xs ys = λ i. apply_to-joint r rows xs ys i ∷ apply_from-joint (suc r) s xs ys i

-- to apply a smash is to apply the first and then the second, whatever the lists of atoms
pub apply_of-smash_of : (s : State) (a b : Delta) → is_fail a ≡ false → is_fail b ≡ false → apply_of s (smash_of a b) ≡ apply_of (apply_of s a) b
apply_of-smash_of s fail b h g = cc
apply_of-smash_of s (atoms xs) fail h g = cc
apply_of-smash_of s (atoms xs) (atoms ys) h g = apply_from-joint 0 s xs ys

apply_to-kept : (r : ℕ) (rows : List Row) (xs : List Atom) → apply_to r (apply_to r rows xs) [] ≡ apply_to r rows xs
apply_to-kept r rows xs =
    same_rows (apply_to r (apply_to r rows xs) []) (apply_to r rows xs) (ascending_apply_to r (apply_to r rows xs) []) (ascending_apply_to r rows xs)
    (λ q. holds-apply_to r (apply_to r rows xs) [] q ∙ or_false (holds (apply_to r rows xs) q))

apply_from-kept : (r : ℕ) (s : State) (xs : List Atom) → apply_from r (apply_from r s xs) [] ≡ apply_from r s xs
apply_from-kept r [] xs = refl
apply_from-kept r (rows ∷ s) xs = λ i. apply_to-kept r rows xs i ∷ apply_from-kept (suc r) s xs i

-- the empty delta changes no state that a delta made
pub apply_of-kept : (s : State) (d : Delta) → is_fail d ≡ false → apply_of (apply_of s d) (atoms []) ≡ apply_of s d
apply_of-kept s fail h = cc
apply_of-kept s (atoms xs) h = apply_from-kept 0 s xs

-- ---- smash

-- a sign in three deltas, the last of which wins; p is the sign looked at, and each n says whether any is there
three : (p q u n m : Bool) → (u || ((q || (p && not n)) && not m)) ≡ ((u || (q && not m)) || (p && not (n || m)))
three p q true n m = refl
three p true false n true = sym (ap (λ b. p && not b) (ors n) ∙ and_false p)
  where
    ors : (b : Bool) → (b || true) ≡ true
    ors true = refl
    ors false = refl
three p true false n false = refl
three p false false n true = and_false (p && not n) ∙ sym (ap (λ b. p && not b) (ors n) ∙ and_false p)
  where
    ors : (b : Bool) → (b || true) ≡ true
    ors true = refl
    ors false = refl
three p false false n false = and_true (p && not n) ∙ ap (λ b. p && not b) (sym (or_false n))

-- what is held at all in a smash
any-joint : (xs ys : List Atom) (k : Row) → (marks has_plus (joint_atoms xs ys) k || marks has_minus (joint_atoms xs ys) k) ≡ ((marks has_plus xs k || marks has_minus xs k) || (marks has_plus ys k || marks has_minus ys k))
any-joint xs ys k =
    (λ i. marks-joint_atoms has_plus xs ys k i || marks-joint_atoms has_minus xs ys k i)
    ∙ by (marks has_plus xs k) (marks has_minus xs k) (marks has_plus ys k) (marks has_minus ys k)
  where
    by : (p m u v : Bool) → ((u || (p && not (u || v))) || (v || (m && not (u || v)))) ≡ ((p || m) || (u || v))
    by true m true v = refl
    by true m false true = refl
    by true m false false = refl
    by false true true v = refl
    by false true false true = refl
    by false true false false = refl
    by false false true v = refl
    by false false false true = refl
    by false false false false = refl

marks-three : (t : Atom → Bool) (xs ys zs : List Atom) (k : Row) → marks t (joint_atoms (joint_atoms xs ys) zs) k ≡ marks t (joint_atoms xs (joint_atoms ys zs)) k
marks-three t xs ys zs k =
    marks-joint_atoms t (joint_atoms xs ys) zs k
    ∙ ap (λ b. marks t zs k || (b && not (marks has_plus zs k || marks has_minus zs k))) (marks-joint_atoms t xs ys k)
    ∙ three (marks t xs k) (marks t ys k) (marks t zs k) (marks has_plus ys k || marks has_minus ys k) (marks has_plus zs k || marks has_minus zs k)
    ∙ sym (marks-joint_atoms t xs (joint_atoms ys zs) k ∙ (λ i. marks-joint_atoms t ys zs k i || (marks t xs k && not (any-joint ys zs k i))))

joint-assoc : (xs ys zs : List Atom) → IsAscending (keys_of xs) → IsAscending (keys_of ys) → IsAscending (keys_of zs) → joint_atoms (joint_atoms xs ys) zs ≡ joint_atoms xs (joint_atoms ys zs)
joint-assoc xs ys zs up vp wp =
    same_atoms (joint_atoms (joint_atoms xs ys) zs) (joint_atoms xs (joint_atoms ys zs))
    (ascending_joint (joint_atoms xs ys) zs (ascending_joint xs ys up vp) wp)
    (ascending_joint xs (joint_atoms ys zs) up (ascending_joint ys zs vp wp))
    (marks-three has_plus xs ys zs)
    (marks-three has_minus xs ys zs)

pub smash_of-assoc : (a b c : Delta) → IsDelta a → IsDelta b → IsDelta c → smash_of (smash_of a b) c ≡ smash_of a (smash_of b c)
smash_of-assoc fail b c d e f = refl
smash_of-assoc (atoms xs) fail c d e f = refl
smash_of-assoc (atoms xs) (atoms ys) fail d e f = refl
smash_of-assoc (atoms xs) (atoms ys) (atoms zs) d e f = ap atoms (joint-assoc xs ys zs d e f)

pub smash_is_delta : (a b : Delta) → IsDelta a → IsDelta b → IsDelta (smash_of a b)
smash_is_delta fail b d e = tt
smash_is_delta (atoms xs) fail d e = tt
smash_is_delta (atoms xs) (atoms ys) d e = ascending_joint xs ys d e

-- ---- merge

-- a relation and row in both lists
common_at : (xs ys : List Atom) → have_common xs ys ≡ true → (k : Row) × (holds (keys_of xs) k ≡ true) × (holds (keys_of ys) k ≡ true)
common_at [] ys h = absurd (false≢true h)
common_at (a ∷ xs) ys h =
    elim (or_cases (holds (keys_of ys) (key_of a)) (have_common xs ys) h) [
      | inl g ↦ (key_of a, or_left (is_same (key_of a) (key_of a)) (holds (keys_of xs) (key_of a)) (same_itself (key_of a)), g)
      | inr g ↦ let more = common_at xs ys g in (more.0, or_right (is_same more.0 (key_of a)) (holds (keys_of xs) more.0) more.1, more.2)
    ]

common_from : (xs ys : List Atom) (k : Row) → holds (keys_of xs) k ≡ true → holds (keys_of ys) k ≡ true → have_common xs ys ≡ true
common_from [] ys k h g = absurd (false≢true h)
common_from (a ∷ xs) ys k h g =
    elim (or_cases (is_same k (key_of a)) (holds (keys_of xs) k) h) [
      | inl s ↦ or_left (holds (keys_of ys) (key_of a)) (have_common xs ys) (ap (holds (keys_of ys)) (sym (same_true k (key_of a) s)) ∙ g)
      | inr r ↦ or_right (holds (keys_of ys) (key_of a)) (have_common xs ys) (common_from xs ys k r g)
    ]

common-swap : (xs ys : List Atom) → have_common xs ys ≡ have_common ys xs
common-swap xs ys =
    same_truth (have_common xs ys) (have_common ys xs)
    (λ h. let at = common_at xs ys h in common_from ys xs at.0 at.2 at.1)
    (λ h. let at = common_at ys xs h in common_from xs ys at.0 at.2 at.1)

clash-swap : (xs ys : List Atom) → clash xs ys ≡ clash ys xs
clash-swap xs ys =
    (λ i. common-swap (plus_atoms xs) (minus_atoms ys) i || common-swap (minus_atoms xs) (plus_atoms ys) i)
    ∙ or_comm (have_common (minus_atoms ys) (plus_atoms xs)) (have_common (plus_atoms ys) (minus_atoms xs))

-- without a clash no relation and row has plus in one and minus in the other
no_clash : (xs ys : List Atom) → clash xs ys ≡ false → (k : Row) → (marks has_plus xs k ≡ true → marks has_minus ys k ≡ true → ⊥) × (marks has_minus xs k ≡ true → marks has_plus ys k ≡ true → ⊥)
no_clash xs ys h k =
    let parts = or_parts (have_common (plus_atoms xs) (minus_atoms ys)) (have_common (minus_atoms xs) (plus_atoms ys)) h in (
      λ p m. both_ways (have_common (plus_atoms xs) (minus_atoms ys)) parts.0 (common_from (plus_atoms xs) (minus_atoms ys) k (keys-filter has_plus xs k ∙ p) (keys-filter has_minus ys k ∙ m)),
      λ m p. both_ways (have_common (minus_atoms xs) (plus_atoms ys)) parts.1 (common_from (minus_atoms xs) (plus_atoms ys) k (keys-filter has_minus xs k ∙ m) (keys-filter has_plus ys k ∙ p)),
    )

-- without a clash a smash holds all that both hold
all_plus : (p m u v : Bool) → (p ≡ true → v ≡ true → ⊥) → (m ≡ true → u ≡ true → ⊥) → (u || (p && not (u || v))) ≡ (p || u)
all_plus true m true v h g = refl
all_plus true m false true h g = absurd (h refl refl)
all_plus true m false false h g = refl
all_plus false m true v h g = refl
all_plus false m false v h g = refl

all_minus : (p m u v : Bool) → (p ≡ true → v ≡ true → ⊥) → (m ≡ true → u ≡ true → ⊥) → (v || (m && not (u || v))) ≡ (m || v)
all_minus p true u true h g = refl
all_minus p true true false h g = absurd (g refl refl)
all_minus p true false false h g = refl
all_minus p false u true h g = refl
all_minus p false u false h g = refl

plus-joint : (xs ys : List Atom) → clash xs ys ≡ false → (k : Row) → marks has_plus (joint_atoms xs ys) k ≡ (marks has_plus xs k || marks has_plus ys k)
plus-joint xs ys h k = marks-joint_atoms has_plus xs ys k ∙ all_plus (marks has_plus xs k) (marks has_minus xs k) (marks has_plus ys k) (marks has_minus ys k) (no_clash xs ys h k).0 (no_clash xs ys h k).1

minus-joint : (xs ys : List Atom) → clash xs ys ≡ false → (k : Row) → marks has_minus (joint_atoms xs ys) k ≡ (marks has_minus xs k || marks has_minus ys k)
minus-joint xs ys h k = marks-joint_atoms has_minus xs ys k ∙ all_minus (marks has_plus xs k) (marks has_minus xs k) (marks has_plus ys k) (marks has_minus ys k) (no_clash xs ys h k).0 (no_clash xs ys h k).1

-- without a clash the order of a smash tells nothing
pub joint-swap : (xs ys : List Atom) → IsAscending (keys_of xs) → IsAscending (keys_of ys) → clash xs ys ≡ false → joint_atoms xs ys ≡ joint_atoms ys xs
joint-swap xs ys up vp h =
    let g : clash ys xs ≡ false = clash-swap ys xs ∙ h in
    same_atoms (joint_atoms xs ys) (joint_atoms ys xs) (ascending_joint xs ys up vp) (ascending_joint ys xs vp up)
    (λ k. plus-joint xs ys h k ∙ or_comm (marks has_plus xs k) (marks has_plus ys k) ∙ sym (plus-joint ys xs g k))
    (λ k. minus-joint xs ys h k ∙ or_comm (marks has_minus xs k) (marks has_minus ys k) ∙ sym (minus-joint ys xs g k))

pub merge_of-comm : (a b : Delta) → IsDelta a → IsDelta b → merge_of a b ≡ merge_of b a
merge_of-comm fail fail d e = refl
merge_of-comm fail (atoms ys) d e = refl
merge_of-comm (atoms xs) fail d e = refl
merge_of-comm (atoms xs) (atoms ys) d e = by (clash xs ys) refl (clash ys xs) refl
  where
    by : (c : Bool) → clash xs ys ≡ c → (c' : Bool) → clash ys xs ≡ c' → cond c fail (atoms (joint_atoms xs ys)) ≡ cond c' fail (atoms (joint_atoms ys xs))
    by true f true g = refl
    by true f false g = absurd (both_ways (clash xs ys) (clash-swap xs ys ∙ g) f)
    by false f true g = absurd (both_ways (clash xs ys) f (clash-swap xs ys ∙ g))
    by false f false g = ap atoms (joint-swap xs ys d e f)

-- where a merge is not fail, both smashes are the merge
pub merge-is-smash : (a b : Delta) → IsDelta a → IsDelta b → is_fail (merge_of a b) ≡ false → (smash_of a b ≡ merge_of a b) × (smash_of b a ≡ merge_of a b)
merge-is-smash fail b d e h = absurd (false≢true (sym h))
merge-is-smash (atoms xs) fail d e h = absurd (false≢true (sym h))
merge-is-smash (atoms xs) (atoms ys) d e h = by (clash xs ys) refl h
  where
    by : (c : Bool) → clash xs ys ≡ c → is_fail (cond c fail (atoms (joint_atoms xs ys))) ≡ false
        → (atoms (joint_atoms xs ys) ≡ cond c fail (atoms (joint_atoms xs ys))) × (atoms (joint_atoms ys xs) ≡ cond c fail (atoms (joint_atoms xs ys)))
    by true f g = absurd (false≢true (sym g))
    by false f g = (refl, ap atoms (sym (joint-swap xs ys d e f)))

-- a relation and row in a joint list and in a third
common-joint : (t : Atom → Bool) (xs ys : List Atom) (zs : List Atom) → ((k : Row) → marks t (joint_atoms xs ys) k ≡ (marks t xs k || marks t ys k)) → have_common (filter t (joint_atoms xs ys)) zs ≡ (have_common (filter t xs) zs || have_common (filter t ys) zs)
common-joint t xs ys zs all = same_truth (have_common (filter t (joint_atoms xs ys)) zs) (have_common (filter t xs) zs || have_common (filter t ys) zs) there back
  where
    there : have_common (filter t (joint_atoms xs ys)) zs ≡ true → (have_common (filter t xs) zs || have_common (filter t ys) zs) ≡ true
    there h =
        let at = common_at (filter t (joint_atoms xs ys)) zs h in
        elim (or_cases (marks t xs at.0) (marks t ys at.0) (sym (all at.0) ∙ sym (keys-filter t (joint_atoms xs ys) at.0) ∙ at.1)) [
          | inl g ↦ or_left (have_common (filter t xs) zs) (have_common (filter t ys) zs) (common_from (filter t xs) zs at.0 (keys-filter t xs at.0 ∙ g) at.2)
          | inr g ↦ or_right (have_common (filter t xs) zs) (have_common (filter t ys) zs) (common_from (filter t ys) zs at.0 (keys-filter t ys at.0 ∙ g) at.2)
        ]

    put_back : (k : Row) → (marks t xs k || marks t ys k) ≡ true → holds (keys_of zs) k ≡ true → have_common (filter t (joint_atoms xs ys)) zs ≡ true
    put_back k h g = common_from (filter t (joint_atoms xs ys)) zs k (keys-filter t (joint_atoms xs ys) k ∙ all k ∙ h) g

    back : (have_common (filter t xs) zs || have_common (filter t ys) zs) ≡ true → have_common (filter t (joint_atoms xs ys)) zs ≡ true
    back h =
        elim (or_cases (have_common (filter t xs) zs) (have_common (filter t ys) zs) h) [
          | inl g ↦ let at = common_at (filter t xs) zs g in put_back at.0 (or_left (marks t xs at.0) (marks t ys at.0) (sym (keys-filter t xs at.0) ∙ at.1)) at.2
          | inr g ↦ let at = common_at (filter t ys) zs g in put_back at.0 (or_right (marks t xs at.0) (marks t ys at.0) (sym (keys-filter t ys at.0) ∙ at.1)) at.2
        ]

-- a joint list clashes with a third exactly where one of the two does
clash-joint : (xs ys zs : List Atom) → clash xs ys ≡ false → clash (joint_atoms xs ys) zs ≡ (clash xs zs || clash ys zs)
clash-joint xs ys zs h =
    (λ i. common-joint has_plus xs ys (minus_atoms zs) (plus-joint xs ys h) i || common-joint has_minus xs ys (plus_atoms zs) (minus-joint xs ys h) i)
    ∙ four (have_common (plus_atoms xs) (minus_atoms zs)) (have_common (plus_atoms ys) (minus_atoms zs)) (have_common (minus_atoms xs) (plus_atoms zs)) (have_common (minus_atoms ys) (plus_atoms zs))
  where
    four : (a b c d : Bool) → ((a || b) || (c || d)) ≡ ((a || c) || (b || d))
    four true b c d = refl
    four false true true d = refl
    four false true false d = refl
    four false false c d = refl

pub merge_of-assoc : (a b c : Delta) → IsDelta a → IsDelta b → IsDelta c → merge_of (merge_of a b) c ≡ merge_of a (merge_of b c)
merge_of-assoc fail b c d e f = refl
merge_of-assoc (atoms xs) fail c d e f = refl
merge_of-assoc (atoms xs) (atoms ys) fail d e f = by (clash xs ys)
  where
    by : (c : Bool) → merge_of (cond c fail (atoms (joint_atoms xs ys))) fail ≡ fail
    by true = refl
    by false = refl
merge_of-assoc (atoms xs) (atoms ys) (atoms zs) d e f = by (clash xs ys) refl (clash ys zs) refl (clash xs zs) refl
  where
    left : (c c' : Bool) → clash (joint_atoms xs ys) zs ≡ c' → c ≡ false → merge_of (cond c fail (atoms (joint_atoms xs ys))) (atoms zs) ≡ cond c' fail (atoms (joint_atoms (joint_atoms xs ys) zs))
    left true c' g h = absurd (false≢true (sym h))
    left false c' g h = ap (λ b. cond b fail (atoms (joint_atoms (joint_atoms xs ys) zs))) g

    right : (c c' : Bool) → clash xs (joint_atoms ys zs) ≡ c' → c ≡ false → merge_of (atoms xs) (cond c fail (atoms (joint_atoms ys zs))) ≡ cond c' fail (atoms (joint_atoms xs (joint_atoms ys zs)))
    right true c' g h = absurd (false≢true (sym h))
    right false c' g h = ap (λ b. cond b fail (atoms (joint_atoms xs (joint_atoms ys zs)))) g

    clash_left : clash xs ys ≡ false → (x y : Bool) → clash xs zs ≡ x → clash ys zs ≡ y → clash (joint_atoms xs ys) zs ≡ (x || y)
    clash_left h x y g k = clash-joint xs ys zs h ∙ (λ i. g i || k i)

    clash_right : clash ys zs ≡ false → (x y : Bool) → clash xs ys ≡ x → clash xs zs ≡ y → clash xs (joint_atoms ys zs) ≡ (x || y)
    clash_right h x y g k = clash-swap xs (joint_atoms ys zs) ∙ clash-joint ys zs xs h ∙ (λ i. (clash-swap ys xs ∙ g) i || (clash-swap zs xs ∙ k) i)

    by : (ab : Bool) → clash xs ys ≡ ab → (bc : Bool) → clash ys zs ≡ bc → (ac : Bool) → clash xs zs ≡ ac → merge_of (cond ab fail (atoms (joint_atoms xs ys))) (atoms zs) ≡ merge_of (atoms xs) (cond bc fail (atoms (joint_atoms ys zs)))
    by true g true h ac k = refl
    by true g false h ac k = sym (right false true (clash_right h true ac g k) refl)
    by false g true h ac k = left false true (clash_left g ac true k h ∙ ors ac) refl
      where
        ors : (b : Bool) → (b || true) ≡ true
        ors true = refl
        ors false = refl
    by false g false h true k = left false true (clash_left g true false k h) refl ∙ sym (right false true (clash_right h false true g k) refl)
    by false g false h false k =
        left false false (clash_left g false false k h) refl ∙ ap atoms (joint-assoc xs ys zs d e f) ∙ sym (right false false (clash_right h false false g k) refl)

pub merge_is_delta : (a b : Delta) → IsDelta a → IsDelta b → IsDelta (merge_of a b)
merge_is_delta fail b d e = tt
merge_is_delta (atoms xs) fail d e = tt
merge_is_delta (atoms xs) (atoms ys) d e = by (clash xs ys)
  where
    by : (c : Bool) → IsDelta (cond c fail (atoms (joint_atoms xs ys)))
    by true = tt
    by false = ascending_joint xs ys d e
