-- The events of guarded runs, and those that they begin with.
use Rattle.std.proofs.Common.{◌≡◌, ℕ, Bool, true, false, cond, List, [], ◌∷◌, ◌++◌, Option, None, Some, refl, sym, ap, ◌∙◌, append-nil}
use Rattle.std.specs.Prelude.{is_some}
use Rattle.hera_meaning.specs.Deltas.{State}
use Rattle.hera_meaning.specs.Worlds.{Event, out, store}
use Rattle.hera_codegen.specs.Correct.{IsPrefix}
use Rattle.hera_guard.specs.Guarded.{or_line, guarded, passes}
use Rattle.hera_run.proofs.Allowed.{guarded-append}

true_is_not_false : true ≡ false → ⊥
true_is_not_false h = cc (h)

module _ (refusal : State → Option (List ℕ)) where
  one_guarded : (o : Option (List ℕ)) (event : Event) (some all : List Event) → ((rest : List Event) × (some ++ rest ≡ all)) → (rest : List Event) × (or_line o (event ∷ some) ++ rest ≡ or_line o (event ∷ all))
  one_guarded None event some all (rest, joined) = (rest, ap (λ (es : List Event). event ∷ es) joined)
  one_guarded (Some line) event some all (rest, joined) = ([], refl)

  -- the first events, guarded, are the first of all
  front_guarded : (front more : List Event) → (rest : List Event) × (guarded refusal front ++ rest ≡ guarded refusal (front ++ more))
  front_guarded [] more = (guarded refusal more, refl)
  front_guarded (out bytes ∷ front) more = let (rest, joined) = front_guarded front more in (rest, ap (λ (es : List Event). out bytes ∷ es) joined)
  front_guarded (store s d ∷ front) more = one_guarded (refusal s) (store s d) (guarded refusal front) (guarded refusal (front ++ more)) (front_guarded front more)

  pub prefix_guarded : (front events : List Event) → IsPrefix front events → IsPrefix (guarded refusal front) (guarded refusal events)
  prefix_guarded front events prefix =
      let (rest, joined) = front_guarded front prefix.rest in
      record { rest = rest; joined = joined ∙ ap (guarded refusal) prefix.joined }

  one_refused : (o : Option (List ℕ)) (event : Event) (some all : List Event) (pass pass_all : Bool) → cond (is_some o) false pass ≡ false → (pass ≡ false → (all ≡ some) × (pass_all ≡ false))
      → (or_line o (event ∷ all) ≡ or_line o (event ∷ some)) × (cond (is_some o) false pass_all ≡ false)
  one_refused None event some all pass pass_all none next = let (same, fails) = next none in (ap (λ (es : List Event). event ∷ es) same, fails)
  one_refused (Some line) event some all pass pass_all none next = (refl, refl)

  -- behind a store that is refused nothing is done
  front_refused : (front more : List Event) → passes refusal front ≡ false → (guarded refusal (front ++ more) ≡ guarded refusal front) × (passes refusal (front ++ more) ≡ false)
  front_refused [] more none = absurd (true_is_not_false none)
  front_refused (out bytes ∷ front) more none = let (same, fails) = front_refused front more none in (ap (λ (es : List Event). out bytes ∷ es) same, fails)
  front_refused (store s d ∷ front) more none = one_refused (refusal s) (store s d) (guarded refusal front) (guarded refusal (front ++ more)) (passes refusal front) (passes refusal (front ++ more)) none (front_refused front more)

  pub prefix_refused : (front events : List Event) → IsPrefix front events → passes refusal front ≡ false → (guarded refusal events ≡ guarded refusal front) × (passes refusal events ≡ false)
  prefix_refused front events prefix none =
      let (same, fails) = front_refused front prefix.rest none in
      (ap (guarded refusal) (sym prefix.joined) ∙ same, ap (passes refusal) (sym prefix.joined) ∙ fails)

  -- none of these is refused
  pub all_guarded : (events : List Event) → passes refusal events ≡ true → guarded refusal events ≡ events
  all_guarded events pass = ap (guarded refusal) (sym (append-nil events)) ∙ guarded-append refusal events [] pass ∙ append-nil events
