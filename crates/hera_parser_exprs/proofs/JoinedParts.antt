-- What is known of a part that was read, where it stands behind another.
use Rattle.std.proofs.Common.{◌≡◌, ◌<◌, ◌≤◌, ℕ, List, [], ◌∷◌, Result, Ok, Err, IfOk, OnOk, IsErrOf, sym, subst, arith}
use Rattle.hera_syntax.specs.declared.token.Token.{Token}
use Rattle.hera_syntax.specs.declared.token.Terminal.{Terminal}
use Rattle.hera_syntax.specs.Grammar.{Part, leave}
use Rattle.hera_syntax.specs.Outline.{Entry}
use Rattle.hera_parser_exprs.specs.Parts.{StopsInOrAt, inside, behind}
use Rattle.hera_parser_exprs.specs.Reading.{Gives, Sticks}
use Rattle.hera_parser_exprs.proofs.Steps.{next, stops}

pub got : {A E : Type 0} (f : A → List Entry) (ps : List Part) {a b : List Token} {r : Result A E} {x : A} → r ≡ Ok x → IfOk r (λ t. Gives ps a (f t) [] b) → Gives ps a (f x) [] b
got f ps {a} {b} e h = subst (λ s. IfOk s (λ t. Gives ps a (f t) [] b)) e h

pub shortened : {A E : Type 0} {m n : ℕ} {r : Result A E} {x : A} → r ≡ Ok x → OnOk r (m < n) → m < n
shortened {m = m} {n = n} e h = subst (λ s. OnOk s (m < n)) e h

pub not_longer : {A E : Type 0} {m n : ℕ} {r : Result A E} {x : A} → r ≡ Ok x → OnOk r (m ≤ n) → m ≤ n
not_longer {m = m} {n = n} e h = subst (λ s. OnOk s (m ≤ n)) e h

-- where the reading stopped in the next part, or behind it
pub stops_in : {A E : Type 0} {cause : E} (f : A → List Entry) {P qs : List Part} {p : Part} {end : Terminal} {a b m n : List Token} {ms : List Entry} {read : Result A E} →
    Gives P a ms (p ∷ leave end ∷ qs) b → IfOk read (λ t. Gives (p ∷ []) b (f t) [] m) → (IsErrOf read cause → Sticks (p ∷ []) b m) → StopsInOrAt read cause end m n → Sticks P a n
stops_in f {P = P} {a = a} g h s (inside e same) = subst (Sticks P a) (sym same) (stops g (s e))
stops_in f {p = p} g h s (behind x e k) = stops (next g (got f (p ∷ []) e h)) k

-- nothing was passed over
pub reads_there : {P qs : List Part} {a b c : List Token} {ms : List Entry} → c ≡ b → Gives P a ms qs b → Gives P a ms qs c
reads_there {P} {qs} {a = a} {ms = ms} e g = subst (λ x. Gives P a ms qs x) (sym e) g

-- what is known of an answer that is handed on as it is
pub ok_both : {A E : Type 0} {P Q R : A → Type 0} (r : Result A E) → IfOk r P → IfOk r Q → ((x : A) → P x → Q x → R x) → IfOk r R
ok_both (Ok x) p q f = f x p q
ok_both (Err e) p q f = tt

pub ok_on : {A E : Type 0} {P R : A → Type 0} {Q : Type 0} (r : Result A E) → IfOk r P → OnOk r Q → ((x : A) → P x → Q → R x) → IfOk r R
ok_on (Ok x) p q f = f x p q
ok_on (Err e) p q f = tt

pub ok_two_on : {A E : Type 0} {P Q R : A → Type 0} {S : Type 0} (r : Result A E) → IfOk r P → IfOk r Q → OnOk r S → ((x : A) → P x → Q x → S → R x) → IfOk r R
ok_two_on (Ok x) p q s f = f x p q s
ok_two_on (Err e) p q s f = tt

pub on_less : {A E : Type 0} (r : Result A E) (k m n : ℕ) → OnOk r (m < n) → n < k → OnOk r (m < k)
on_less (Ok x) k m n h g = let less : m < n = h in omega (arith, less, g)
on_less (Err e) k m n h g = tt

-- the same behind a part that was read
pub ok_shorter : {A B E F : Type 0} (r : Result A E) (read : Result B F) (part : A → B) (k m n o : ℕ) → IfOk r (λ x. read ≡ Ok (part x)) → OnOk r (m < n) → OnOk read (n < o) → o < k → OnOk r (m < k)
ok_shorter (Ok x) read part k m n o e h g l = let less : m < n = h in let inner : n < o = shortened e g in omega (arith, less, inner, l)
ok_shorter (Err e) read part k m n o s h g l = tt
