-- The turns of the passes over bodies: each list is gone through from the left.
use Rattle.std.proofs.Common.{◌≡◌, ℕ, ◌≤◌, List, [], ◌∷◌, length, drop, map, min, refl, ap, ◌∙◌, inl, inr, arith}
use Rattle.std.specs.Prelude.{Ok, ◌⊎◌}
use Rattle.std.proofs.lemmas.Bool.{cases_lt}
use Rattle.hera_meaning.specs.Trees.{Body_tree}
use Rattle.hera_rules.specs.declared.env.FuncSig.{FuncSig}
use Rattle.hera_rules.specs.declared.env.ProcSig.{ProcSig}
use Rattle.hera_rules.specs.Environments.{Env}
use Rattle.hera_rules.specs.Phrases.{Func_phrase, Proc_phrase}
use Rattle.hera_rules.specs.CheckedScripts.{check_funcs, check_procs}
use Rattle.hera_types_parts.proofs.Giving.{none_at}

func_bodies_no_sig : (g : Env) (bodies : List Body_tree) (ps : List Func_phrase) → check_funcs g bodies [] ps ≡ Ok bodies
func_bodies_no_sig g bodies ps = refl

func_bodies_no_tree : (g : Env) (bodies : List Body_tree) (sigs : List FuncSig) → check_funcs g bodies sigs [] ≡ Ok bodies
func_bodies_no_tree g bodies [] = refl
func_bodies_no_tree g bodies (s ∷ sigs) = refl

pub func_bodies_end : {A : Type 0} (g : Env) (f : A → Func_phrase) (sigs : List FuncSig) (xs : List A) (i : ℕ) (bodies : List Body_tree) → ((length sigs ≤ i) ⊎ (length xs ≤ i)) →
    check_funcs g bodies (drop i sigs) (map f (drop i xs)) ≡ Ok bodies
func_bodies_end g f sigs xs i bodies (inl h) = ap (λ ss. check_funcs g bodies ss (map f (drop i xs))) (none_at sigs i h) ∙ func_bodies_no_sig g bodies (map f (drop i xs))
func_bodies_end g f sigs xs i bodies (inr h) = ap (λ ys. check_funcs g bodies (drop i sigs) (map f ys)) (none_at xs i h) ∙ func_bodies_no_tree g bodies (drop i sigs)

proc_bodies_no_sig : (g : Env) (bodies : List Body_tree) (ps : List Proc_phrase) → check_procs g bodies [] ps ≡ Ok bodies
proc_bodies_no_sig g bodies ps = refl

proc_bodies_no_tree : (g : Env) (bodies : List Body_tree) (sigs : List ProcSig) → check_procs g bodies sigs [] ≡ Ok bodies
proc_bodies_no_tree g bodies [] = refl
proc_bodies_no_tree g bodies (s ∷ sigs) = refl

pub proc_bodies_end : {A : Type 0} (g : Env) (f : A → Proc_phrase) (sigs : List ProcSig) (xs : List A) (i : ℕ) (bodies : List Body_tree) → ((length sigs ≤ i) ⊎ (length xs ≤ i)) →
    check_procs g bodies (drop i sigs) (map f (drop i xs)) ≡ Ok bodies
proc_bodies_end g f sigs xs i bodies (inl h) = ap (λ ss. check_procs g bodies ss (map f (drop i xs))) (none_at sigs i h) ∙ proc_bodies_no_sig g bodies (map f (drop i xs))
proc_bodies_end g f sigs xs i bodies (inr h) = ap (λ ys. check_procs g bodies (drop i sigs) (map f ys)) (none_at xs i h) ∙ proc_bodies_no_tree g bodies (drop i sigs)

-- behind the shorter of two lists
pub past_one : (a b n i : ℕ) → n ≡ min a b → n ≤ i → (b ≤ i) ⊎ (a ≤ i)
past_one a b n i e h = elim (cases_lt a b) [ inl k ↦ inr (omega arith) | inr k ↦ inl (omega arith) ]
