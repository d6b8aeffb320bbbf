-- Names that stand once: in lists of words, behind renaming, and how many there can be.
use Rattle.std.proofs.Common.{◌≡◌, suc, ◌≤◌, List, [], ◌∷◌, ◌++◌, length, refl, sym, ap, ◌∙◌, subst, arith, Bool, true, false, append-nil, append_assoc}
use Rattle.std.specs.Prelude.{Option, Some, None, ◌&&◌, ◌||◌, not, cond, map, filter}
use Rattle.std.specs.List.{find}
use Rattle.hera_sets.specs.Rows.{Row, is_same, holds, without}
use Rattle.hera_sets.proofs.Order.{same_true, same_itself}
use Rattle.hera_sets.proofs.Members.{holds-append, holds-filter}
use Rattle.hera_meaning.proofs.Names.{distinct_push}
use Rattle.hera_meaning.specs.Schemas.{AreDistinct}
use Rattle.hera_rules.specs.declared.words.Word.{Word}
use Rattle.hera_rules.specs.declared.words.Renamed.{Renamed}
use Rattle.hera_rules.specs.declared.fault.TypeFault.TheVariants.{Repeated as repeated}
use Rattle.hera_rules.specs.Rules.{repeat_in, word_names, rename_repeat, renamed_to, new_name, old_names}

-- ---- tests

pub or_false : (b c : Bool) → (b || c) ≡ false → (b ≡ false) × (c ≡ false)
or_false true c e = absurd cc
or_false false c e = (refl, e)

pub or_right : (b c : Bool) → c ≡ true → (b || c) ≡ true
or_right true c e = refl
or_right false c e = e

pub not_both : {A : Type 0} (b : Bool) → b ≡ true → b ≡ false → A
not_both true e h = absurd cc
not_both false e h = absurd cc

and_right : (b c : Bool) → (b && c) ≡ true → c ≡ true
and_right true c e = e
and_right false c e = absurd cc

and_left : (b c : Bool) → (b && c) ≡ true → b ≡ true
and_left true c e = refl
and_left false c e = absurd cc

not_true : (b : Bool) → not b ≡ true → b ≡ false
not_true true e = absurd cc
not_true false e = refl

not_held : (b c : Bool) → c ≡ false → (b && c) ≡ false
not_held true c e = e
not_held false c e = refl

-- ---- lists of names

-- a front and a back that are distinct and have no name in common
pub distinct_append : (xs ys : List Row) → AreDistinct xs → AreDistinct ys → ((z : Row) → holds ys z ≡ true → holds xs z ≡ false) → AreDistinct (xs ++ ys)
distinct_append [] ys d e h = e
distinct_append (x ∷ xs) ys d e h = (holds-append xs ys x ∙ by (holds ys x) refl, distinct_append xs ys d.1 e (λ z k. (or_false (is_same z x) (holds xs z) (h z k)).1))
  where
    by : (b : Bool) → holds ys x ≡ b → (holds xs x || holds ys x) ≡ false
    by true k = not_both (is_same x x) (same_itself x) (or_false (is_same x x) (holds xs x) (h x k)).0
    by false k = rw (d.0, k) refl

pub distinct_back : (xs ys : List Row) → AreDistinct (xs ++ ys) → AreDistinct ys
distinct_back [] ys d = d
distinct_back (x ∷ xs) ys d = distinct_back xs ys d.1

-- a name of the front is none of the back
pub distinct_apart : (xs ys : List Row) (z : Row) → AreDistinct (xs ++ ys) → holds xs z ≡ true → holds ys z ≡ false
distinct_apart [] ys z d h = absurd cc
distinct_apart (x ∷ xs) ys z d h = by (is_same z x) refl (λ k. distinct_apart xs ys z d.1 k)
  where
    by : (b : Bool) → is_same z x ≡ b → (holds xs z ≡ true → holds ys z ≡ false) → holds ys z ≡ false
    by true k ih = ap (λ w. holds ys w) (same_true z x k) ∙ (or_false (holds xs x) (holds ys x) (sym (holds-append xs ys x) ∙ d.0)).1
    by false k ih = ih (sym (ap (λ b. b || holds xs z) k) ∙ h)

pub distinct_filter : (p : Row → Bool) (xs : List Row) → AreDistinct xs → AreDistinct (filter p xs)
distinct_filter p [] d = tt
distinct_filter p (x ∷ xs) d = by (p x) refl (distinct_filter p xs d.1)
  where
    by : (b : Bool) → p x ≡ b → AreDistinct (filter p xs) → AreDistinct (filter p (x ∷ xs))
    by true k ih = rw k (holds-filter p xs x ∙ not_held (p x) (holds xs x) d.0, ih)
    by false k ih = rw k ih

less_filter : (p : Row → Bool) (ys : List Row) → length (filter p ys) ≤ length ys
less_filter p [] = omega arith
less_filter p (y ∷ ys) = by (p y) refl (less_filter p ys)
  where
    by : (b : Bool) → p y ≡ b → length (filter p ys) ≤ length ys → length (filter p (y ∷ ys)) ≤ length (y ∷ ys)
    by true k ih = rw k (omega (arith, ih))
    by false k ih = rw k (omega (arith, ih))

without_less : (x : Row) (ys : List Row) → holds ys x ≡ true → suc (length (without x ys)) ≤ length ys
without_less x [] e = absurd cc
without_less x (y ∷ ys) e = by (is_same x y) refl (λ h. without_less x ys h)
  where
    by : (b : Bool) → is_same x y ≡ b → (holds ys x ≡ true → suc (length (without x ys)) ≤ length ys) → suc (length (without x (y ∷ ys))) ≤ length (y ∷ ys)
    by true k ih = rw k (let l = less_filter (λ z. not (is_same x z)) ys in omega (arith, l))
    by false k ih = rw k (let l = ih (sym (ap (λ b. b || holds ys x) k) ∙ e) in omega (arith, l))

-- distinct names that are all in a list are no more than it has
pub few_in : (xs ys : List Row) → AreDistinct xs → ((z : Row) → holds xs z ≡ true → holds ys z ≡ true) → length xs ≤ length ys
few_in [] ys d h = omega arith
few_in (x ∷ xs) ys d h =
    let here : holds ys x ≡ true = h x (rw (same_itself x) refl) in
    let less = without_less x ys here in
    let rest = few_in xs (without x ys) d.1 (λ z k. still z k) in
    omega (arith, less, rest)
  where
    other : (z : Row) → holds xs z ≡ true → (b : Bool) → is_same x z ≡ b → not (is_same x z) ≡ true
    other z k true e = not_both (holds xs x) (ap (λ w. holds xs w) (same_true x z e) ∙ k) d.0
    other z k false e = ap (λ b. not b) e

    both : (b c : Bool) → b ≡ true → c ≡ true → (b && c) ≡ true
    both true c e f = f
    both false c e f = absurd cc

    still : (z : Row) → holds xs z ≡ true → holds (without x ys) z ≡ true
    still z k = holds-filter (λ y. not (is_same x y)) ys z ∙ both (not (is_same x z)) (holds ys z) (other z k (is_same x z) refl) (h z (or_right (is_same z x) (holds xs z) k))

-- ---- words

-- words of which none repeats a name
pub repeat_none : (seen : List Row) (ws : List Word) → AreDistinct seen → repeat_in seen ws ≡ None → AreDistinct (seen ++ word_names ws)
repeat_none seen [] d e = subst (λ (xs : List Row). AreDistinct xs) (sym (append-nil seen)) d
repeat_none seen (w ∷ ws) d e = by (holds seen w.name) refl e (λ d' e'. repeat_none (seen ++ w.name ∷ []) ws d' e')
  where
    by : (b : Bool) → holds seen w.name ≡ b → cond b (Some (repeated w.at)) (repeat_in (seen ++ w.name ∷ []) ws) ≡ None →
        (AreDistinct (seen ++ w.name ∷ []) → repeat_in (seen ++ w.name ∷ []) ws ≡ None → AreDistinct ((seen ++ w.name ∷ []) ++ word_names ws)) → AreDistinct (seen ++ word_names (w ∷ ws))
    by true h e ih = absurd cc
    by false h e ih = subst (λ (xs : List Row). AreDistinct xs) (append_assoc seen (w.name ∷ []) (word_names ws)) (ih (distinct_push seen w.name d h) e)

-- ---- renaming

abbrev pub new_names : List Renamed → List Row
new_names rs = map (λ r. r.new.name) rs

pub rename_none : (results olds : List Row) (rs : List Renamed) → AreDistinct results → rename_repeat results olds rs ≡ None → AreDistinct (results ++ new_names rs)
rename_none results olds [] d e = subst (λ (xs : List Row). AreDistinct xs) (sym (append-nil results)) d
rename_none results olds (r ∷ rs) d e = by (holds results r.new.name) refl (holds olds r.old.name) e (λ d' e'. rename_none (results ++ r.new.name ∷ []) (olds ++ r.old.name ∷ []) rs d' e')
  where
    by : (b : Bool) → holds results r.new.name ≡ b → (c : Bool) →
        cond b (Some (repeated r.new.at)) (cond c (Some (repeated r.old.at)) (rename_repeat (results ++ r.new.name ∷ []) (olds ++ r.old.name ∷ []) rs)) ≡ None →
        (AreDistinct (results ++ r.new.name ∷ []) → rename_repeat (results ++ r.new.name ∷ []) (olds ++ r.old.name ∷ []) rs ≡ None → AreDistinct ((results ++ r.new.name ∷ []) ++ new_names rs)) →
        AreDistinct (results ++ new_names (r ∷ rs))
    by true h c e ih = absurd cc
    by false h true e ih = absurd cc
    by false h false e ih = subst (λ (xs : List Row). AreDistinct xs) (append_assoc results (r.new.name ∷ []) (new_names rs)) (ih (distinct_push results r.new.name d h) e)

-- what is found for a name has it as its old name, and its new name is one of the new ones
pub record IsFound (x : Row) (rs : List Renamed) (r : Renamed) : Type 0 where
  pub old : x ≡ r.old.name
  pub new : holds (new_names rs) r.new.name ≡ true

found : (x : Row) (rs : List Renamed) (r : Renamed) → find (λ (s : Renamed). is_same x s.old.name) rs ≡ Some r → IsFound x rs r
found x [] r e = absurd cc
found x (s ∷ rs) r e = by (is_same x s.old.name) refl e (λ h. found x rs r h)
  where
    by : (b : Bool) → is_same x s.old.name ≡ b → cond b (Some s) (find (λ (s : Renamed). is_same x s.old.name) rs) ≡ Some r →
        (find (λ (s : Renamed). is_same x s.old.name) rs ≡ Some r → IsFound x rs r) → IsFound x (s ∷ rs) r
    by true k e ih =
        let h : s ≡ r = cc in
        record { old = same_true x s.old.name k ∙ ap (λ (t : Renamed). t.old.name) h; new = ap (λ (t : Renamed). holds (new_names (s ∷ rs)) t.new.name) (sym h) ∙ ap (λ b. b || holds (new_names rs) s.new.name) (same_itself s.new.name) }
    by false k e ih = let h = ih e in record { old = h.old; new = or_right (is_same r.new.name s.new.name) (holds (new_names rs) r.new.name) h.new }

-- a name for which none is found is no old name
not_old : (x : Row) (rs : List Renamed) → find (λ (s : Renamed). is_same x s.old.name) rs ≡ None → holds (old_names rs) x ≡ false
not_old x [] e = refl
not_old x (s ∷ rs) e = by (is_same x s.old.name) refl e (λ h. not_old x rs h)
  where
    by : (b : Bool) → is_same x s.old.name ≡ b → cond b (Some s) (find (λ (s : Renamed). is_same x s.old.name) rs) ≡ None →
        (find (λ (s : Renamed). is_same x s.old.name) rs ≡ None → holds (old_names rs) x ≡ false) → holds (old_names (s ∷ rs)) x ≡ false
    by true k e ih = absurd cc
    by false k e ih = ap (λ b. b || holds (old_names rs) x) k ∙ ih e

-- two names that get one new name, where the new names are distinct
same_old : (x y : Row) (rs : List Renamed) (r q : Renamed) → AreDistinct (new_names rs) → find (λ (s : Renamed). is_same x s.old.name) rs ≡ Some r → find (λ (s : Renamed). is_same y s.old.name) rs ≡ Some q →
    r.new.name ≡ q.new.name → x ≡ y
same_old x y [] r q d e f n = absurd cc
same_old x y (s ∷ rs) r q d e f n = by (is_same x s.old.name) refl e (is_same y s.old.name) refl f (λ e' f'. same_old x y rs r q d.1 e' f' n)
  where
    by : (b : Bool) → is_same x s.old.name ≡ b → cond b (Some s) (find (λ (s : Renamed). is_same x s.old.name) rs) ≡ Some r →
        (c : Bool) → is_same y s.old.name ≡ c → cond c (Some s) (find (λ (s : Renamed). is_same y s.old.name) rs) ≡ Some q →
        (find (λ (s : Renamed). is_same x s.old.name) rs ≡ Some r → find (λ (s : Renamed). is_same y s.old.name) rs ≡ Some q → x ≡ y) → x ≡ y
    by true k e true l f ih = same_true x s.old.name k ∙ sym (same_true y s.old.name l)
    by true k e false l f ih =
        let h : s ≡ r = cc in
        let j = found y rs q f in
        let m : s.new.name ≡ q.new.name = ap (λ (t : Renamed). t.new.name) h ∙ n in
        not_both (holds (new_names rs) s.new.name) (ap (λ z. holds (new_names rs) z) m ∙ j.new) d.0
    by false k e true l f ih =
        let h : s ≡ q = cc in
        let j = found x rs r e in
        let m : s.new.name ≡ r.new.name = ap (λ (t : Renamed). t.new.name) h ∙ sym n in
        not_both (holds (new_names rs) s.new.name) (ap (λ z. holds (new_names rs) z) m ∙ j.new) d.0
    by false k e false l f ih = ih e f

-- two names with one new name are one name, where the new names and those that are kept are distinct
one_new : (kept : List Row) (rs : List Renamed) (x y : Row) → AreDistinct (kept ++ new_names rs) → (holds (old_names rs) x ≡ false → holds kept x ≡ true) → (holds (old_names rs) y ≡ false → holds kept y ≡ true) →
    new_name rs x ≡ new_name rs y → x ≡ y
one_new kept rs x y d kx ky e = by (find (λ (s : Renamed). is_same x s.old.name) rs) refl (find (λ (s : Renamed). is_same y s.old.name) rs) refl e
  where
    by : (o : Option Renamed) → find (λ (s : Renamed). is_same x s.old.name) rs ≡ o → (q : Option Renamed) → find (λ (s : Renamed). is_same y s.old.name) rs ≡ q → renamed_to x o ≡ renamed_to y q → x ≡ y
    by None f None g e = e
    by None f (Some q) g e =
        let h : holds kept x ≡ true = kx (not_old x rs f) in
        not_both (holds (new_names rs) x) (ap (λ z. holds (new_names rs) z) e ∙ (found y rs q g).new) (distinct_apart kept (new_names rs) x d h)
    by (Some r) f None g e =
        let h : holds kept y ≡ true = ky (not_old y rs g) in
        not_both (holds (new_names rs) y) (ap (λ z. holds (new_names rs) z) (sym e) ∙ (found x rs r f).new) (distinct_apart kept (new_names rs) y d h)
    by (Some r) f (Some q) g e = same_old x y rs r q (distinct_back kept (new_names rs) d) f g e

-- a name of a mapped list is that of one of the list
mapped : (f : Row → Row) (xs : List Row) (z : Row) → holds (map f xs) z ≡ true → (y : Row) × (holds xs y ≡ true) × (z ≡ f y)
mapped f [] z e = absurd cc
mapped f (x ∷ xs) z e = by (is_same z (f x)) refl e (λ h. mapped f xs z h)
  where
    by : (b : Bool) → is_same z (f x) ≡ b → (b || holds (map f xs) z) ≡ true → (holds (map f xs) z ≡ true → (y : Row) × (holds xs y ≡ true) × (z ≡ f y)) → (y : Row) × (holds (x ∷ xs) y ≡ true) × (z ≡ f y)
    by true k e ih = (x, ap (λ b. b || holds xs x) (same_itself x), same_true z (f x) k)
    by false k e ih = let h = ih e in (h.0, or_right (is_same h.0 x) (holds xs h.0) h.1, h.2)

-- distinct names are distinct when they are renamed
pub distinct_renamed : (kept : List Row) (rs : List Renamed) (xs : List Row) → AreDistinct (kept ++ new_names rs) →
    ((z : Row) → holds xs z ≡ true → holds (old_names rs) z ≡ false → holds kept z ≡ true) → AreDistinct xs → AreDistinct (map (new_name rs) xs)
distinct_renamed kept rs [] d k e = tt
distinct_renamed kept rs (x ∷ xs) d k e = (by (holds (map (new_name rs) xs) (new_name rs x)) refl, distinct_renamed kept rs xs d (λ z h o. k z (or_right (is_same z x) (holds xs z) h) o) e.1)
  where
    by : (b : Bool) → holds (map (new_name rs) xs) (new_name rs x) ≡ b → b ≡ false
    by false h = refl
    by true h =
        let m = mapped (new_name rs) xs (new_name rs x) h in
        let same : x ≡ m.0 = one_new kept rs x m.0 d (λ o. k x (ap (λ b. b || holds xs x) (same_itself x)) o) (λ o. k m.0 (or_right (is_same m.0 x) (holds xs m.0) m.1) o) m.2 in
        not_both (holds xs x) (ap (λ z. holds xs z) same ∙ m.1) e.0
