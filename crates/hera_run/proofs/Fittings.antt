-- Stores that fit, and those that follow them.
use Rattle.std.proofs.Common.{◌≡◌, ◌⊎◌, ℕ, Bool, true, false, ◌&&◌, not, cond, inl, inr, Option, List, [], ◌∷◌, ◌++◌, refl, sym, ap, ◌∙◌}
use Rattle.hera_meaning.specs.Worlds.{Event, out, store}
use Rattle.hera_codegen.specs.Correct.{IsPrefix}
use Rattle.hera_run.specs.Fitting.{fits, gate_behind, gate_after, all_fit, fitting, overfills}

pub no_truth : false ≡ true → ⊥
no_truth h = cc (h)

pub gate_after-append : (gate : Option ℕ) (es more : List Event) → gate_after gate (es ++ more) ≡ gate_after (gate_after gate es) more
gate_after-append gate [] more = refl
gate_after-append gate (out bytes ∷ es) more = gate_after-append gate es more
gate_after-append gate (store s d ∷ es) more = gate_after-append (gate_behind gate d) es more

pub all_fit-append : (gate : Option ℕ) (es more : List Event) → all_fit gate es ≡ true → all_fit gate (es ++ more) ≡ all_fit (gate_after gate es) more
all_fit-append gate [] more fit = refl
all_fit-append gate (out bytes ∷ es) more fit = all_fit-append gate es more fit
all_fit-append gate (store s d ∷ es) more fit = by (fits gate d) (all_fit-append (gate_behind gate d) es more) fit
  where
    by : (b : Bool) → (all_fit (gate_behind gate d) es ≡ true → all_fit (gate_behind gate d) (es ++ more) ≡ all_fit (gate_after (gate_behind gate d) es) more)
        → (b && all_fit (gate_behind gate d) es) ≡ true → (b && all_fit (gate_behind gate d) (es ++ more)) ≡ all_fit (gate_after (gate_behind gate d) es) more
    by true go rest = go rest
    by false go none = absurd (no_truth none)

-- the events up to a store that does not fit begin with all those that fit before it
pub fitting-append : (gate : Option ℕ) (es more : List Event) → all_fit gate es ≡ true → fitting gate (es ++ more) ≡ es ++ fitting (gate_after gate es) more
fitting-append gate [] more fit = refl
fitting-append gate (out bytes ∷ es) more fit = ap (λ (l : List Event). out bytes ∷ l) (fitting-append gate es more fit)
fitting-append gate (store s d ∷ es) more fit = by (fits gate d) (fitting-append (gate_behind gate d) es more) fit
  where
    by : (b : Bool) → (all_fit (gate_behind gate d) es ≡ true → fitting (gate_behind gate d) (es ++ more) ≡ es ++ fitting (gate_after (gate_behind gate d) es) more)
        → (b && all_fit (gate_behind gate d) es) ≡ true → cond b (store s d ∷ fitting (gate_behind gate d) (es ++ more)) [] ≡ store s d ∷ (es ++ fitting (gate_after (gate_behind gate d) es) more)
    by true go rest = ap (λ (l : List Event). store s d ∷ l) (go rest)
    by false go none = absurd (no_truth none)

pub fitting-all : (gate : Option ℕ) (es : List Event) → all_fit gate es ≡ true → fitting gate es ≡ es
fitting-all gate [] fit = refl
fitting-all gate (out bytes ∷ es) fit = ap (λ (l : List Event). out bytes ∷ l) (fitting-all gate es fit)
fitting-all gate (store s d ∷ es) fit = by (fits gate d) (fitting-all (gate_behind gate d) es) fit
  where
    by : (b : Bool) → (all_fit (gate_behind gate d) es ≡ true → fitting (gate_behind gate d) es ≡ es) → (b && all_fit (gate_behind gate d) es) ≡ true → cond b (store s d ∷ fitting (gate_behind gate d) es) [] ≡ store s d ∷ es
    by true go rest = ap (λ (l : List Event). store s d ∷ l) (go rest)
    by false go none = absurd (no_truth none)

-- behind a store that does not fit nothing is carried out
pub fitting-none : (gate : Option ℕ) (es more : List Event) → overfills gate es ≡ true → fitting gate (es ++ more) ≡ []
fitting-none gate [] more full = absurd (no_truth full)
fitting-none gate (out bytes ∷ es) more full = absurd (no_truth full)
fitting-none gate (store s d ∷ es) more full = by (fits gate d) full
  where
    by : (b : Bool) → not b ≡ true → cond b (store s d ∷ fitting (gate_behind gate d) (es ++ more)) [] ≡ []
    by true none = absurd (no_truth none)
    by false is = refl

pub all_fit-none : (gate : Option ℕ) (es more : List Event) → overfills gate es ≡ true → all_fit gate (es ++ more) ≡ false
all_fit-none gate [] more full = absurd (no_truth full)
all_fit-none gate (out bytes ∷ es) more full = absurd (no_truth full)
all_fit-none gate (store s d ∷ es) more full = by (fits gate d) full
  where
    by : (b : Bool) → not b ≡ true → (b && all_fit (gate_behind gate d) (es ++ more)) ≡ false
    by true none = absurd (no_truth none)
    by false is = refl

-- first events whose stores fit are first ones of those that are carried out
pub prefix_fitting : (gate : Option ℕ) (es events : List Event) → IsPrefix es events → all_fit gate es ≡ true → IsPrefix es (fitting gate events)
prefix_fitting gate es events prefix fit = record {
  rest = fitting (gate_after gate es) prefix.rest;
  joined = sym (fitting-append gate es prefix.rest fit) ∙ ap (λ (l : List Event). fitting gate l) prefix.joined;
}

-- a store and its line fit as the store does
pub fit-store : (b : Bool) → b ≡ true → (b && true) ≡ true
fit-store true is = refl
fit-store false none = absurd (no_truth none)

pub true_or_false : (b : Bool) → (b ≡ true) ⊎ (b ≡ false)
true_or_false true = inl refl
true_or_false false = inr refl
