-- The first fault of a class, and of several classes together.
use Rattle.std.proofs.Common.{◌≡◌, ◌⊎◌, inr, refl, sym, subst, arith, Bool, true, false, ⊎_elim}
use Rattle.std.specs.Prelude.{Option, Some, None, Result, Ok, Err}
use Rattle.hera_rules.specs.declared.fault.TypeFault.{TypeFault}
use Rattle.hera_rules.specs.Rules.{given, unless, either}
use Rattle.hera_faults.specs.Least.{IsFirst, TellsTheLeast, typed, refused}

-- the answer is the first fault of the class
pub data First (C : TypeFault → Type 0) : Option TypeFault → Type 0 where
  none : ((g : TypeFault) → C g → ⊥) → First C None
  some : {f : TypeFault} → C f → ((g : TypeFault) → C g → IsFirst f g) → First C (Some f)

-- each fault of the whole is of one of two classes, and those of the first come before those of the second
pub record Splits (B C D : TypeFault → Type 0) : Type 0 where
  pub split : (f : TypeFault) → B f → C f ⊎ D f
  pub left : (f : TypeFault) → C f → B f
  pub right : (f : TypeFault) → D f → B f
  pub before : (f g : TypeFault) → C f → D g → IsFirst f g

pub tells_unless : {A : Type 0} (B C D : TypeFault → Type 0) (o : Option TypeFault) (r : Result A TypeFault) → Splits B C D → First C o → TellsTheLeast D r → TellsTheLeast B (unless o r)
tells_unless B C D None (Ok a) s (none h) (typed k) = typed (λ g b. ⊎_elim (h g) (k g) (s.split g b))
tells_unless B C D None (Err f) s (none h) (refused k least) = refused (s.right f k) (λ g b. ⊎_elim (λ x. absurd (h g x)) (least g) (s.split g b))
tells_unless B C D (Some f) r s (some x least) t = refused (s.left f x) (λ g b. ⊎_elim (least g) (λ y. s.before f g x y) (s.split g b))

pub first_either : (B C D : TypeFault → Type 0) (o p : Option TypeFault) → Splits B C D → First C o → First D p → First B (either o p)
first_either B C D None None s (none h) (none k) = none (λ g b. ⊎_elim (h g) (k g) (s.split g b))
first_either B C D None (Some f) s (none h) (some k least) = some (s.right f k) (λ g b. ⊎_elim (λ x. absurd (h g x)) (least g) (s.split g b))
first_either B C D (Some f) p s (some x least) t = some (s.left f x) (λ g b. ⊎_elim (least g) (λ y. s.before f g x y) (s.split g b))

pub first_itself : (f : TypeFault) → IsFirst f f
first_itself f = inr (refl, omega arith)

-- the test alone, with its fault
pub record FailsTo (b : Bool) (f g : TypeFault) : Type 0 where
  pub fails : b ≡ false
  pub is : g ≡ f

pub tells_given : {A : Type 0} (B : TypeFault → Type 0) (b : Bool) (f : TypeFault) (a : A) → ((g : TypeFault) → B g → FailsTo b f g) → (b ≡ false → B f) → TellsTheLeast B (given b f a)
tells_given B true f a only is = typed (λ g k. absurd (let e = (only g k).fails in cc))
tells_given B false f a only is = refused (is refl) (λ g k. subst (λ (x : TypeFault). IsFirst f x) (sym (only g k).is) (first_itself f))

pub tells_none : {A : Type 0} (B : TypeFault → Type 0) (a : A) → ((g : TypeFault) → B g → ⊥) → TellsTheLeast B (Ok a)
tells_none B a h = typed h

-- one fault alone
pub tells_one : {A : Type 0} (B : TypeFault → Type 0) (f : TypeFault) → B f → ((g : TypeFault) → B g → g ≡ f) → TellsTheLeast {A = A} B (Err f)
tells_one B f k only = refused k (λ g j. subst (λ (x : TypeFault). IsFirst f x) (sym (only g j)) (first_itself f))

pub unless_either : {A : Type 0} (o p : Option TypeFault) (r : Result A TypeFault) → unless o (unless p r) ≡ unless (either o p) r
unless_either None p r = refl
unless_either (Some f) p r = refl

pub either_either : (o p q : Option TypeFault) → either o (either p q) ≡ either (either o p) q
either_either None p q = refl
either_either (Some f) p q = refl
