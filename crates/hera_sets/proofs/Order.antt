-- The laws of the byte order, and of ascending lists.
use Rattle.std.proofs.Common.{◌≡◌, ℕ, ◌<◌, true, false, eqb, ◌&&◌, [], ◌∷◌, refl, ap, ◌∙◌, inl, inr, arith}
use Rattle.std.specs.Ordering.{nat_cmp, is_lt, is_eq, ordering_reverse}
use Rattle.std.specs.declared.cmp.Ordering.{Ordering}
use Rattle.std.specs.declared.cmp.Ordering.TheVariants.{Less, Equal, Greater}
use Rattle.std.specs.Cmp.Lexicographic.{slice_cmp, nat_list_cmp_total}
use Rattle.std.specs.FinMap.{nat_cmp-IsAntisymmetric, slice_cmp-IsAntisymmetric}
use Rattle.std.proofs.lemmas.Bool.{both_ways, cases_order, lt-ltb, le-ltb, eq-eqb, ne_eqb}
use Rattle.hera_sets.specs.Rows.{Row, is_below, is_same}

less_of : (o : Ordering) → is_lt o ≡ true → o ≡ Less
less_of Less e = refl
less_of Equal e = cc
less_of Greater e = cc

equal_of : (o : Ordering) → is_eq o ≡ true → o ≡ Equal
equal_of Less e = cc
equal_of Equal e = refl
equal_of Greater e = cc

pub below_trans : (a b c : Row) → is_below a b ≡ true → is_below b c ≡ true → is_below a c ≡ true
unfolding is_below
below_trans a b c h g = ap is_lt (nat_list_cmp_total.trans a b c (less_of _ h) (less_of _ g))

-- the same bytes are equal
pub same_true : (a b : Row) → is_same a b ≡ true → a ≡ b
unfolding is_same
same_true a b h = slice_cmp-IsAntisymmetric nat_cmp-IsAntisymmetric a b (equal_of _ h)

itself : (a : Row) → slice_cmp nat_cmp a a ≡ Equal
itself a = self (slice_cmp nat_cmp a a) (nat_list_cmp_total.antisymm a a)
  where
    self : (o : Ordering) → o ≡ ordering_reverse o → o ≡ Equal
    self Less e = cc
    self Equal e = refl
    self Greater e = cc

pub same_itself : (a : Row) → is_same a a ≡ true
unfolding is_same
same_itself a = ap is_eq (itself a)

pub below_itself : (a : Row) → is_below a a ≡ false
unfolding is_below
below_itself a = ap is_lt (itself a)

-- which way two rows stand, with what each test answers there
pub data Stands (a b : Row) : Type 0 where
  before : is_below a b ≡ true → is_below b a ≡ false → is_same a b ≡ false → Stands a b
  level : a ≡ b → is_below a b ≡ false → is_below b a ≡ false → is_same a b ≡ true → Stands a b
  behind : is_below b a ≡ true → is_below a b ≡ false → is_same a b ≡ false → Stands a b

pub stands : (a b : Row) → Stands a b
unfolding is_below is_same
stands a b = by (slice_cmp nat_cmp a b) (slice_cmp nat_cmp b a) refl refl (nat_list_cmp_total.antisymm b a)
  where
    by : (o p : Ordering) → slice_cmp nat_cmp a b ≡ o → slice_cmp nat_cmp b a ≡ p → slice_cmp nat_cmp b a ≡ ordering_reverse (slice_cmp nat_cmp a b) → Stands a b
    by Less p e f q = before (ap is_lt e) (ap is_lt (q ∙ ap ordering_reverse e)) (ap is_eq e)
    by Equal p e f q = level (slice_cmp-IsAntisymmetric nat_cmp-IsAntisymmetric a b e) (ap is_lt e) (ap is_lt (q ∙ ap ordering_reverse e)) (ap is_eq e)
    by Greater p e f q = behind (ap is_lt (q ∙ ap ordering_reverse e)) (ap is_lt e) (ap is_eq e)

-- rows behind a number
pub same_cons : (n m : ℕ) (r s : Row) → is_same (n ∷ r) (m ∷ s) ≡ (eqb n m && is_same r s)
unfolding is_same
same_cons n m r s = elim (cases_order n m) [
  | inl e ↦ rw (le-ltb n m (omega arith), eq-eqb n m e) refl
  | inr (inl lt) ↦ rw (lt-ltb n m lt, ne_eqb n m (omega arith)) refl
  | inr (inr gt) ↦ rw (le-ltb n m (omega arith), ne_eqb n m (omega arith)) refl
]

pub same_nil : (m : ℕ) (s : Row) → is_same [] (m ∷ s) ≡ false
unfolding is_same
same_nil m s = refl

pub below_cons_less : (n m : ℕ) (r s : Row) → n < m → is_below (n ∷ r) (m ∷ s) ≡ true
unfolding is_below
below_cons_less n m r s h = rw lt-ltb refl

pub below_cons_same : (n : ℕ) (r s : Row) → is_below (n ∷ r) (n ∷ s) ≡ is_below r s
unfolding is_below
below_cons_same n r s = rw (le-ltb n n (omega arith), eq-eqb n n refl) refl

-- what a comparison's answer says
pub less_below : (a b : Row) → slice_cmp nat_cmp a b ≡ Less → is_below a b ≡ true
unfolding is_below
less_below a b h = ap is_lt h

pub equal_same : (a b : Row) → slice_cmp nat_cmp a b ≡ Equal → a ≡ b
equal_same a b h = slice_cmp-IsAntisymmetric nat_cmp-IsAntisymmetric a b h

pub greater_below : (a b : Row) → slice_cmp nat_cmp a b ≡ Greater → is_below b a ≡ true
unfolding is_below
greater_below a b h = ap is_lt (nat_list_cmp_total.antisymm b a ∙ ap ordering_reverse h)

pub below_not : (a b : Row) → is_below a b ≡ true → is_below b a ≡ false
below_not a b h = elim (stands a b) [ before p q s ↦ q | level e p q s ↦ q | behind p q s ↦ absurd (both_ways _ q h) ]
