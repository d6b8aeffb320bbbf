-- The events of a run are only added to.
use Rattle.std.proofs.Common.{ℕ, zero, suc, ◌≤◌, List, [], ◌∷◌, ◌++◌, refl, sym, ◌∙◌, arith, append_assoc, append-nil}
use Rattle.hera_meaning.specs.declared.schemas.RelDecl.{RelDecl}
use Rattle.hera_meaning.specs.Deltas.{State, apply_of}
use Rattle.hera_meaning.specs.Hosts.{Hosts}
use Rattle.hera_meaning.specs.Printed.{commit_text}
use Rattle.hera_meaning.specs.Worlds.{Event, out, store}
use Rattle.hera_code.specs.declared.instrs.Code.{Code}
use Rattle.hera_code.specs.Machine.{Machine, Step, quiet, says, commits, ends, Stop, ended, stuck, code_step}
use Rattle.hera_meaning.specs.Run.{finished, stopped, out_of_turns}
use Rattle.hera_code.specs.Reached.{Reached, with_line, stores, after_step, exec_code}
use Rattle.hera_codegen.specs.Correct.{events_in, IsPrefix}

prefix_self : (es : List Event) → IsPrefix es es
prefix_self es = record { rest = []; joined = append-nil es }

prefix_more : (es more fs : List Event) → IsPrefix (es ++ more) fs → IsPrefix es fs
prefix_more es more fs h = record { rest = more ++ h.rest; joined = sym (append_assoc es more h.rest) ∙ h.joined }

prefix_line : (es : List Event) (stop : Stop) → IsPrefix es (with_line es stop)
prefix_line es (ended finished) = prefix_self es
prefix_line es (ended (stopped name at)) = record { rest = _; joined = refl }
prefix_line es (ended out_of_turns) = record { rest = _; joined = refl }
prefix_line es stuck = prefix_self es

module _ (code : Code) (rels : List RelDecl) (hosts : Hosts) where
  abbrev run : ℕ → State → Machine → List Event → Reached
  run k s m es = exec_code code rels hosts k s m es

  grows : (k : ℕ) (s : State) (m : Machine) (es : List Event) → IsPrefix es (events_in (exec_code code rels hosts k s m es))
  grows zero s m es = prefix_self es
  grows (suc k) s m es = by (code_step code rels hosts s m) (λ s m es. grows k s m es)
    where
      by : (t : Step) → ((s : State) (m : Machine) (es : List Event) → IsPrefix es (events_in (exec_code code rels hosts k s m es))) → IsPrefix es (events_in (after_step t s es (λ s m es. exec_code code rels hosts k s m es)))
      by (quiet m') ih = ih s m' es
      by (says bs m') ih = prefix_more es _ _ (ih s m' (es ++ out bs ∷ []))
      by (commits d m') ih = prefix_more es _ _ (ih (apply_of s d) m' (es ++ store (apply_of s d) d ∷ out (commit_text (suc (stores es))) ∷ []))
      by (ends stop) ih = prefix_line es stop

  pub fronts : (k j : ℕ) (s : State) (m : Machine) (es : List Event) → k ≤ j → IsPrefix (events_in (exec_code code rels hosts k s m es)) (events_in (exec_code code rels hosts j s m es))
  fronts zero j s m es le = grows j s m es
  fronts (suc k) zero s m es le = absurd (omega (arith, le))
  fronts (suc k) (suc j) s m es le = by (code_step code rels hosts s m) (λ s m es. fronts k j s m es (omega (arith, le)))
    where
      by : (t : Step) → ((s : State) (m : Machine) (es : List Event) → IsPrefix (events_in (exec_code code rels hosts k s m es)) (events_in (exec_code code rels hosts j s m es))) →
          IsPrefix (events_in (after_step t s es (λ s m es. exec_code code rels hosts k s m es))) (events_in (after_step t s es (λ s m es. exec_code code rels hosts j s m es)))
      by (quiet m') ih = ih s m' es
      by (says bs m') ih = ih s m' (es ++ out bs ∷ [])
      by (commits d m') ih = ih (apply_of s d) m' (es ++ store (apply_of s d) d ∷ out (commit_text (suc (stores es))) ∷ [])
      by (ends stop) ih = prefix_self (with_line es stop)
