-- What an answer of the code says, and how it is handed on.
use Rattle.std.proofs.Common.{◌≡◌, ◌≢◌, ℕ, ◌+◌, ◌<◌, ◌≤◌, List, [], ◌∷◌, length, get_or, drop, sym, ap, ◌∙◌, add-one, refl, suc}
use Rattle.std.proofs.Math.Seq.{drop-cons}
use Rattle.std.proofs.Math.ListN.{drop_of_length-le}
use Rattle.std.specs.Prelude.{Result, Ok, Err, IsErrAnd, IfOk, IfErr, OnOk}
use Rattle.hera_rules.specs.declared.fault.TypeFault.{TypeFault}
use Rattle.hera_rules.specs.declared.fault.TypeFault.TheVariants.{Memory as memory}
use Rattle.hera_rules.specs.Agrees.{Gives}
use Rattle.hera_rules.specs.Checked.{and_then}

-- an error that is handed on
pub gives_err : {A B : Type 0} (as_b : A → B) (r : Result A TypeFault) {f : TypeFault} {x : Result B TypeFault} → IsErrAnd r (λ e. e ≡ f) → (f ≢ memory → x ≡ Err f) → Gives as_b r x
gives_err as_b (Ok v) h k = elim h [ ]
gives_err as_b (Err e) h k = λ ne. k (λ z. ne (h ∙ z)) ∙ ap (λ f. Err f) (sym h)

-- an answer that is told by two clauses, the second of which says that a refusal is want of memory
pub gives_done : {A B : Type 0} (as_b : A → B) (r : Result A TypeFault) {b : B} {x : Result B TypeFault} → IfOk r (λ v. as_b v ≡ b) → IfErr r (λ f. f ≡ memory) → x ≡ Ok b → Gives as_b r x
gives_done as_b (Ok v) h e k = k ∙ ap (λ b. Ok b) (sym h)
gives_done as_b (Err f) h e k = λ ne. absurd (ne e)

pub on_ok : {A E : Type 0} (r : Result A E) {P : Type 0} → P → OnOk r P
on_ok (Ok v) p = p
on_ok (Err f) p = tt

-- the place of a turn of a loop over a list: one item more is left, or none
pub next_at : {A : Type 0} (xs : List A) (i : ℕ) (x : A) → i < length xs → x ≡ get_or xs i x → drop i xs ≡ x ∷ drop (i + 1) xs
next_at xs i x h e = rw add-one (drop-cons xs i x h ∙ ap (λ y. y ∷ drop (suc i) xs) (sym e))

pub none_at : {A : Type 0} (xs : List A) (i : ℕ) → length xs ≤ i → drop i xs ≡ []
none_at xs i h = drop_of_length-le xs h

-- steps one after the other
pub and_then-assoc : {A B C : Type 0} (r : Result A TypeFault) (f : A → Result B TypeFault) (k : B → Result C TypeFault) → and_then (and_then r f) k ≡ and_then r (λ a. and_then (f a) k)
and_then-assoc (Ok a) f k = refl
and_then-assoc (Err e) f k = refl
