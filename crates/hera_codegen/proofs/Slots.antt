-- Slots: which are readable, and that the machine's locals agree with the meaning's on those.
use Rattle.std.proofs.Common.{◌≡◌, ℕ, zero, suc, ◌<◌, ◌||◌, Bool, true, false, List, [], ◌∷◌, ◌++◌, length, Some, refl, sym, ap, ◌∙◌, subst, arith}
use Rattle.std.specs.Prelude.{slice_get, nat_eq}
use Rattle.std.proofs.lemmas.Bool.{false≢true, or_parts, or_from, or_left, or_right, eqb-true, eqb-false, eq-eqb, ne_eqb}
use Rattle.hera_meaning.specs.declared.schemas.RelDecl.{RelDecl}
use Rattle.hera_meaning.specs.Values.{Value, operand}
use Rattle.hera_meaning.specs.Worlds.{set_local}
use Rattle.hera_meaning.specs.Forms.{Form}
use Rattle.hera_meaning.specs.Sound.{has_slot, AreApart}
use Rattle.hera_codegen.proofs.HasForm.{HasForm}

-- ---- lists of slots

pub slot-append : (xs ys : List ℕ) (i : ℕ) → has_slot (xs ++ ys) i ≡ (has_slot xs i || has_slot ys i)
slot-append [] ys i = refl
slot-append (x ∷ xs) ys i = by (nat_eq i x) (slot-append xs ys i)
  where
    by : (b : Bool) → has_slot (xs ++ ys) i ≡ (has_slot xs i || has_slot ys i) → (b || has_slot (xs ++ ys) i) ≡ ((b || has_slot xs i) || has_slot ys i)
    by true ih = refl
    by false ih = ih

eq_swap : (i j : ℕ) → nat_eq i j ≡ false → nat_eq j i ≡ false
eq_swap i j e = ne_eqb j i (λ q. eqb-false i j e (sym q))

not_both : (b : Bool) → b ≡ true → b ≡ false → ⊥
not_both b t f = false≢true (sym f ∙ t)

-- walks that may be opened where these slots are readable
pub record Fresh (rs ws : List ℕ) : Type 0 where
  pub apart : AreApart ws
  pub new : (i : ℕ) → has_slot ws i ≡ true → has_slot rs i ≡ false

apart_front : (xs ys : List ℕ) → AreApart (xs ++ ys) → AreApart xs
apart_front [] ys h = tt
apart_front (x ∷ xs) ys h = ((or_parts (has_slot xs x) (has_slot ys x) (sym (slot-append xs ys x) ∙ h.0)).0, apart_front xs ys h.1)

apart_back : (xs ys : List ℕ) → AreApart (xs ++ ys) → AreApart ys
apart_back [] ys h = h
apart_back (x ∷ xs) ys h = apart_back xs ys h.1

pub fresh_front : (rs xs ys : List ℕ) → Fresh rs (xs ++ ys) → Fresh rs xs
fresh_front rs xs ys h = record { apart = apart_front xs ys h.apart; new = λ i e. h.new i (slot-append xs ys i ∙ or_left (has_slot xs i) (has_slot ys i) e) }

pub fresh_back : (rs xs ys : List ℕ) → Fresh rs (xs ++ ys) → Fresh rs ys
fresh_back rs xs ys h = record { apart = apart_back xs ys h.apart; new = λ i e. h.new i (slot-append xs ys i ∙ or_right (has_slot xs i) (has_slot ys i) e) }

pub fresh_tail : (rs : List ℕ) (i : ℕ) (ws : List ℕ) → Fresh rs (i ∷ ws) → Fresh rs ws
fresh_tail rs i ws h = record { apart = h.apart.1; new = λ j e. h.new j (or_right (nat_eq j i) (has_slot ws j) e) }

pub fresh_head : (rs : List ℕ) (i : ℕ) (ws : List ℕ) → Fresh rs (i ∷ ws) → has_slot rs i ≡ false
fresh_head rs i ws h = h.new i (or_left (nat_eq i i) (has_slot ws i) (eq-eqb i i refl))

-- a slot that is none of the walks becomes readable
pub fresh_more : (rs : List ℕ) (i : ℕ) (ws : List ℕ) → has_slot ws i ≡ false → Fresh rs ws → Fresh (i ∷ rs) ws
fresh_more rs i ws out h = record {
  apart = h.apart;
  new = λ j e. or_from (nat_eq j i) (has_slot rs j) (ne_eqb j i (λ q. not_both (has_slot ws j) e (ap (has_slot ws) q ∙ out))) (h.new j e);
}

-- in the body of a walk its slot is readable
pub fresh_walk : (rs : List ℕ) (i : ℕ) (ws : List ℕ) → Fresh rs (i ∷ ws) → Fresh (i ∷ rs) ws
fresh_walk rs i ws h = fresh_more rs i ws h.apart.0 (fresh_tail rs i ws h)

-- ---- locals

pub length-set_local : (ls : List Value) (i : ℕ) (v : Value) → length (set_local ls i v) ≡ length ls
length-set_local [] i v = refl
length-set_local (l ∷ ls) zero v = refl
length-set_local (l ∷ ls) (suc i) v = ap suc (length-set_local ls i v)

pub set_here : (ls : List Value) (i : ℕ) (v : Value) → i < length ls → slice_get (set_local ls i v) i ≡ Some v
set_here [] i v lt = absurd (omega (arith, lt))
set_here (l ∷ ls) zero v lt = refl
set_here (l ∷ ls) (suc i) v lt = set_here ls i v (omega (arith, lt))

pub set_other : (ls : List Value) (i j : ℕ) (v : Value) → nat_eq j i ≡ false → slice_get (set_local ls i v) j ≡ slice_get ls j
set_other [] i j v ne = refl
set_other (l ∷ ls) zero zero v ne = absurd (false≢true (sym ne ∙ eq-eqb 0 0 refl))
set_other (l ∷ ls) zero (suc j) v ne = refl
set_other (l ∷ ls) (suc i) zero v ne = refl
set_other (l ∷ ls) (suc i) (suc j) v ne = set_other ls i j v (ne_eqb j i (λ q. eqb-false (suc j) (suc i) ne (ap suc q)))

pub operand_there : (ls : List Value) (i : ℕ) (v : Value) → slice_get ls i ≡ Some v → operand ls i ≡ v
operand_there [] i v e = cc
operand_there (l ∷ ls) zero v e = cc
operand_there (l ∷ ls) (suc i) v e = operand_there ls i v e

pub there_within : {A : Type 0} (xs : List A) (i : ℕ) (x : A) → slice_get xs i ≡ Some x → i < length xs
there_within [] i x e = cc
there_within (y ∷ xs) zero x e = omega arith
there_within (y ∷ xs) (suc i) x e = let lt : i < length xs = there_within xs i x e in omega (arith, lt)

pub within_there : {A : Type 0} (xs : List A) (i : ℕ) → i < length xs → (x : A) × (slice_get xs i ≡ Some x)
within_there [] i lt = absurd (omega (arith, lt))
within_there (x ∷ xs) zero lt = (x, refl)
within_there (x ∷ xs) (suc i) lt = within_there xs i (omega (arith, lt))

-- both have this value of the form in the slot
pub record IsHeld (rels : List RelDecl) (f : Form) (i : ℕ) (ls ls' : List Value) : Type 0 where
  pub value : Value
  pub here : slice_get ls i ≡ Some value
  pub there : slice_get ls' i ≡ Some value
  pub has : HasForm rels f value

-- the meaning's locals and the machine's are as many as there are slots, and they agree on the readable ones
pub record Agree (rels : List RelDecl) (slots : List Form) (rs : List ℕ) (ls ls' : List Value) : Type 0 where
  pub long : length ls ≡ length slots
  pub long' : length ls' ≡ length slots
  pub held : (i : ℕ) (f : Form) → has_slot rs i ≡ true → slice_get slots i ≡ Some f → IsHeld rels f i ls ls'

module _ (rels : List RelDecl) (slots : List Form) where
  -- fewer slots are readable
  pub agree_less : (rs : List ℕ) (i : ℕ) (ls ls' : List Value) → Agree rels slots (i ∷ rs) ls ls' → Agree rels slots rs ls ls'
  agree_less rs i ls ls' h = record { long = h.long; long' = h.long'; held = λ j f e g. h.held j f (or_right (nat_eq j i) (has_slot rs j) e) g }

  -- a slot is there
  pub slot_there : (rs : List ℕ) (i : ℕ) (f : Form) (ls ls' : List Value) → slice_get slots i ≡ Some f → Agree rels slots rs ls ls' → i < length ls'
  slot_there rs i f ls ls' e h = let lt : i < length slots = there_within slots i f e in omega (arith, lt, h.long')

  -- both set a slot
  pub agree_set : (rs : List ℕ) (i : ℕ) (f : Form) (v : Value) (ls ls' : List Value) → slice_get slots i ≡ Some f → HasForm rels f v → Agree rels slots rs ls ls' → Agree rels slots (i ∷ rs) (set_local ls i v) (set_local ls' i v)
  agree_set rs i f v ls ls' e has h = record {
    long = length-set_local ls i v ∙ h.long;
    long' = length-set_local ls' i v ∙ h.long';
    held = λ j g r q. by j g q (nat_eq j i) refl r;
  }
    where
      lt : i < length slots
      lt = there_within slots i f e

      in_ls : i < length ls
      in_ls = omega (arith, lt, h.long)

      in_ls' : i < length ls'
      in_ls' = omega (arith, lt, h.long')

      some_is : (g g' : Form) → Some g ≡ Some g' → g ≡ g'
      some_is g g' q = cc

      at_it : (j : ℕ) (g : Form) → slice_get slots j ≡ Some g → j ≡ i → IsHeld rels g j (set_local ls i v) (set_local ls' i v)
      at_it j g q eq = record {
        value = v;
        here = ap (slice_get (set_local ls i v)) eq ∙ set_here ls i v in_ls;
        there = ap (slice_get (set_local ls' i v)) eq ∙ set_here ls' i v in_ls';
        has = subst (λ g. HasForm rels g v) (some_is f g (sym e ∙ ap (slice_get slots) (sym eq) ∙ q)) has;
      }

      off_it : (j : ℕ) (g : Form) → nat_eq j i ≡ false → IsHeld rels g j ls ls' → IsHeld rels g j (set_local ls i v) (set_local ls' i v)
      off_it j g ne k = record { value = k.value; here = set_other ls i j v ne ∙ k.here; there = set_other ls' i j v ne ∙ k.there; has = k.has }

      by : (j : ℕ) (g : Form) → slice_get slots j ≡ Some g → (b : Bool) → nat_eq j i ≡ b → (b || has_slot rs j) ≡ true → IsHeld rels g j (set_local ls i v) (set_local ls' i v)
      by j g q true eq r = at_it j g q (eqb-true j i eq)
      by j g q false ne r = off_it j g ne (h.held j g r q)

  ne_of : (rs : List ℕ) (i j : ℕ) → has_slot rs i ≡ false → has_slot rs j ≡ true → nat_eq j i ≡ false
  ne_of rs i j out r = ne_eqb j i (λ q. not_both (has_slot rs j) r (ap (has_slot rs) q ∙ out))

  -- the machine alone sets a slot that is not readable
  pub agree_aside : (rs : List ℕ) (i : ℕ) (v : Value) (ls ls' : List Value) → has_slot rs i ≡ false → Agree rels slots rs ls ls' → Agree rels slots rs ls (set_local ls' i v)
  agree_aside rs i v ls ls' out h = record {
    long = h.long;
    long' = length-set_local ls' i v ∙ h.long';
    held = λ j f r e. let k = h.held j f r e in record { value = k.value; here = k.here; there = set_other ls' i j v (ne_of rs i j out r) ∙ k.there; has = k.has };
  }

  -- behind the body of a walk the meaning has the locals from before it
  pub agree_back : (rs : List ℕ) (i : ℕ) (v : Value) (ls ls' : List Value) → has_slot rs i ≡ false → Agree rels slots (i ∷ rs) (set_local ls i v) ls' → Agree rels slots rs ls ls'
  agree_back rs i v ls ls' out h = record {
    long = sym (length-set_local ls i v) ∙ h.long;
    long' = h.long';
    held = λ j f r e. let k = h.held j f (or_right (nat_eq j i) (has_slot rs j) r) e in record { value = k.value; here = sym (set_other ls i j v (ne_of rs i j out r)) ∙ k.here; there = k.there; has = k.has };
  }
