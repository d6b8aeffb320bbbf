-- From the function of typing to the relations.
use Rattle.std.proofs.Common.{◌≡◌, ◌≢◌, List, refl, subst, inl, inr}
use Rattle.std.specs.Prelude.{Result, Ok, Err, IfOk, ◌⊎◌}
use Rattle.hera_host.specs.Tables.{Host}
use Rattle.hera_meaning.specs.declared.trees.Program.{Program}
use Rattle.hera_meaning.specs.Plain.{program_of}
use Rattle.hera_rules.specs.declared.fault.TypeFault.{TypeFault}
use Rattle.hera_rules.specs.declared.fault.TypeFault.TheVariants.{Unknown, Repeated, Mismatch, Impure, NoReturn, TooMany, Memory as memory}
use Rattle.hera_rules.specs.Agrees.{Gives}
use Rattle.hera_rules.specs.Phrases.{Script}
use Rattle.hera_rules.specs.CheckedScripts.{check_script}
use Rattle.hera_rules.specs.Programs.{ElabScript, FirstFault}
use Rattle.hera_host.specs.Tables.{specs_of}
use Rattle.hera_meaning.specs.Trees.{Program_tree}
use Rattle.hera_meaning.specs.Sound.{Sound}
use Rattle.hera_rules.proofs.Decided.{Says}
use Rattle.hera_rules.proofs.DecidedScripts.{decided_script}

is_memory : (f : TypeFault) → (f ≡ memory) ⊎ (f ≢ memory)
is_memory (Unknown at) = inr (λ e. cc)
is_memory (Repeated at) = inr (λ e. cc)
is_memory (Mismatch at) = inr (λ e. cc)
is_memory (Impure at) = inr (λ e. cc)
is_memory (NoReturn at) = inr (λ e. cc)
is_memory (TooMany at) = inr (λ e. cc)
is_memory memory = inl refl

pub typed_script : (hosts : List Host) (s : Script) (r : Result Program TypeFault) → Gives program_of r (check_script hosts s) → IfOk r (λ p. ElabScript hosts s (program_of p))
typed_script hosts s (Ok p) h = subst (λ v. Says v (λ q. ElabScript hosts s q) (λ f. FirstFault hosts s f)) h (decided_script hosts s)
typed_script hosts s (Err f) h = tt

pub first_fault : (hosts : List Host) (s : Script) (r : Result Program TypeFault) → Gives program_of r (check_script hosts s) → (fault : TypeFault) → r ≡ Err fault → (fault ≡ memory) ⊎ FirstFault hosts s fault
first_fault hosts s r h fault e =
    let k = subst (λ r. Gives program_of r (check_script hosts s)) e h in
    elim (is_memory fault) [
      | inl m ↦ inl m
      | inr n ↦ inr (subst (λ v. Says v (λ q. ElabScript hosts s q) (λ f. FirstFault hosts s f)) (k n) (decided_script hosts s))
    ]

pub sound_script : (hosts : List Host) (s : Script) (r : Result Program TypeFault) → ((p : Program_tree) → ElabScript hosts s p → Sound p (specs_of hosts)) →
    IfOk r (λ p. ElabScript hosts s (program_of p)) → IfOk r (λ p. Sound (program_of p) (specs_of hosts))
sound_script hosts s (Ok p) law h = law (program_of p) h
sound_script hosts s (Err f) law h = tt
