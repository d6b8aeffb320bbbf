-- Events none of whose stores is refused, and those up to one that is.
use Rattle.std.proofs.Common.{◌≡◌, ℕ, Bool, true, false, cond, List, [], ◌∷◌, ◌++◌, Option, None, Some, refl, ap}
use Rattle.std.specs.Prelude.{is_some}
use Rattle.hera_meaning.specs.Deltas.{Delta, State}
use Rattle.hera_meaning.specs.Worlds.{Event, out, store}
use Rattle.hera_guard.specs.Guarded.{or_line, guarded, passes}
use Rattle.hera_steps.specs.declared.events.End.{End}
use Rattle.hera_steps.specs.declared.events.End.TheVariants.{Done, Trap, Spent, Stuck}
use Rattle.hera_run.specs.Running.{ending_of}

no_pass : false ≡ true → ⊥
no_pass h = cc (h)

-- nothing is refused
pub unguarded : (events : List Event) → guarded (λ s. None) events ≡ events
unguarded [] = refl
unguarded (out bytes ∷ events) = ap (λ (es : List Event). out bytes ∷ es) (unguarded events)
unguarded (store s d ∷ events) = ap (λ (es : List Event). store s d ∷ es) (unguarded events)

pub all_passed : (events : List Event) → passes (λ s. None) events ≡ true
all_passed [] = refl
all_passed (out bytes ∷ events) = all_passed events
all_passed (store s d ∷ events) = all_passed events

module _ (refusal : State → Option (List ℕ)) where
  by_pass : (o : Option (List ℕ)) (rest : Bool) (A B : Bool) → cond (is_some o) false rest ≡ true → (rest ≡ true → A ≡ B) → cond (is_some o) false A ≡ B
  by_pass None rest A B pass next = next pass
  by_pass (Some line) rest A B pass next = absurd (no_pass pass)

  by_line : (o : Option (List ℕ)) (rest : Bool) (s : State) (d : Delta) (some both all : List Event) → cond (is_some o) false rest ≡ true → (rest ≡ true → both ≡ some ++ all)
      → or_line o (store s d ∷ both) ≡ store s d ∷ (some ++ all)
  by_line None rest s d some both all pass next = ap (λ (es : List Event). store s d ∷ es) (next pass)
  by_line (Some line) rest s d some both all pass next = absurd (no_pass pass)

  pub passes-append : (events more : List Event) → passes refusal events ≡ true → passes refusal (events ++ more) ≡ passes refusal more
  passes-append [] more pass = refl
  passes-append (out bytes ∷ events) more pass = passes-append events more pass
  passes-append (store s d ∷ events) more pass = by_pass (refusal s) (passes refusal events) (passes refusal (events ++ more)) (passes refusal more) pass (passes-append events more)

  pub guarded-append : (events more : List Event) → passes refusal events ≡ true → guarded refusal (events ++ more) ≡ events ++ guarded refusal more
  guarded-append [] more pass = refl
  guarded-append (out bytes ∷ events) more pass = ap (λ (es : List Event). out bytes ∷ es) (guarded-append events more pass)
  guarded-append (store s d ∷ events) more pass = by_line (refusal s) (passes refusal events) s d events (guarded refusal (events ++ more)) (guarded refusal more) pass (guarded-append events more)

  -- a store that is not refused, and one that is
  pub passes-one : (s : State) (d : Delta) (more : List Event) → refusal s ≡ None → passes refusal (store s d ∷ more) ≡ passes refusal more
  passes-one s d more allowed = ap (λ (o : Option (List ℕ)). cond (is_some o) false (passes refusal more)) allowed

  pub guarded-one : (s : State) (d : Delta) (more : List Event) → refusal s ≡ None → guarded refusal (store s d ∷ more) ≡ store s d ∷ guarded refusal more
  guarded-one s d more allowed = ap (λ (o : Option (List ℕ)). or_line o (store s d ∷ guarded refusal more)) allowed

  pub passes-none : (s : State) (d : Delta) (more : List Event) (line : List ℕ) → refusal s ≡ Some line → passes refusal (store s d ∷ more) ≡ false
  passes-none s d more line refused = ap (λ (o : Option (List ℕ)). cond (is_some o) false (passes refusal more)) refused

  pub guarded-none : (s : State) (d : Delta) (more : List Event) (line : List ℕ) → refusal s ≡ Some line → guarded refusal (store s d ∷ more) ≡ out line ∷ []
  guarded-none s d more line refused = ap (λ (o : Option (List ℕ)). or_line o (store s d ∷ guarded refusal more)) refused

  -- the last line of a run is no store
  pub ending_passes : (end : End) → passes refusal (ending_of end) ≡ true
  ending_passes Done = refl
  ending_passes (Trap name at) = refl
  ending_passes Spent = refl
  ending_passes Stuck = refl

  pub ending_guarded : (end : End) → guarded refusal (ending_of end) ≡ ending_of end
  ending_guarded Done = refl
  ending_guarded (Trap name at) = refl
  ending_guarded Spent = refl
  ending_guarded Stuck = refl
