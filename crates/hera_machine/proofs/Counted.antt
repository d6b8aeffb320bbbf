-- What a step leaves of the pending delta, and of the counts after it.
use Rattle.std.proofs.Common.{◌≡◌, ℕ, ◌+◌, Bool, true, false, List, [], ◌∷◌, length, Option, Some, None, refl, sym, ◌∙◌, subst}
use Rattle.std.specs.Prelude.{slice_get}
use Rattle.hera_meaning.specs.declared.schemas.RelDecl.{RelDecl}
use Rattle.hera_meaning.specs.declared.trees.TrapName.TheVariants.{ApplyFail}
use Rattle.std.proofs.lemmas.Bool.{false≢true}
use Rattle.hera_meaning.proofs.DeltaLaws.{apply_of-smash_of, apply_of-kept}
use Rattle.hera_meaning.specs.Deltas.{State, Delta, atoms, apply_of, smash_of, is_fail}
use Rattle.hera_meaning.specs.Values.{Value}
use Rattle.hera_meaning.specs.Hosts.{Hosts}
use Rattle.hera_meaning.specs.Fits.{is_delta_of}
use Rattle.hera_meaning.specs.Run.{stopped}
use Rattle.hera_code.specs.declared.instrs.Code.{Code}
use Rattle.hera_code.specs.declared.instrs.Instr.{Instr}
use Rattle.hera_code.specs.declared.instrs.Instr.TheVariants.{Apply, Rollback}
use Rattle.hera_code.specs.Machine.{Machine, ended, Step, quiet, says, commits, ends, needs, if_step, needs_that, as_delta, on_top, applies, act}
use Rattle.hera_reads.specs.Counted.{AreCounts}
use Rattle.hera_steps.proofs.Lowered.{Sinks, IsForward, KeepsPending, sinks_act}
use Rattle.hera_machine.specs.declared.events.Event.{Event}
use Rattle.hera_machine.specs.declared.events.Event.TheVariants.{Quiet, Out, Commit as CommitEvent}
use Rattle.hera_machine.specs.Standing.{Standing, commit_over, event_over}
use Rattle.hera_machine.specs.Counted.{AreCountsOver, AreCountsBehind, is_apply, is_rollback}

-- ---- what most instructions leave

keeps_pending : (i : Instr) → is_apply i ≡ false → is_rollback i ≡ false → KeepsPending i
keeps_pending (Apply place) a r = absurd (false≢true (sym a))
keeps_pending Rollback a r = absurd (false≢true (sym r))
keeps_pending i a r = tt

behind_kept : (f k : Type 0) (l : ℕ) (s : State) (ns : List (Option ℕ)) (m : Machine) (t : Step) → k → is_fail m.pending ≡ false → AreCounts (apply_of s m.pending) ns → Sinks f k l m t → AreCountsBehind s ns t
behind_kept f k l s ns m (quiet n) keeps proper h left = subst (λ (d : Delta). AreCounts (apply_of s d) ns) (sym (left.pending keeps)) h
behind_kept f k l s ns m (says bs n) keeps proper h left = subst (λ (d : Delta). AreCounts (apply_of s d) ns) (sym (left.pending keeps)) h
behind_kept f k l s ns m (commits d n) keeps proper h (stored, none, lower) =
    subst (λ (x : State). AreCounts x ns) (sym (apply_of-kept s m.pending proper) ∙ (λ i. apply_of (apply_of s (sym stored i)) (sym none i))) h
behind_kept f k l s ns m (ends stop) keeps proper h left = tt

module _ (code : Code) (rels : List RelDecl) (hosts : Hosts) (s : State) (ns : List (Option ℕ)) (m : Machine) where
  pub behind_other : (i : Instr) → is_apply i ≡ false → is_rollback i ≡ false → is_fail m.pending ≡ false → AreCounts (apply_of s m.pending) ns → AreCountsBehind s ns (act code rels hosts (Some i) s m)
  behind_other i a r proper h = behind_kept (IsForward (length code.instrs) m i) (KeepsPending i) (length code.instrs) s ns m (act code rels hosts (Some i) s m) (keeps_pending i a r) proper h (sinks_act code rels hosts i s m)

  -- whatever the pending delta is then
  pub behind_rollback : (i : Instr) → is_rollback i ≡ true → ((t : State) → AreCounts t ns) → AreCountsBehind s ns (act code rels hosts (Some i) s m)
  behind_rollback Rollback r h = h (apply_of s (atoms []))
  behind_rollback i r h = cc

  applied : (v : Value) (vs : List Value) (place : ℕ) → is_fail m.pending ≡ false → ((d : Delta) → as_delta v ≡ Some d → AreCounts (apply_of (apply_of s m.pending) d) ns) → AreCountsBehind s ns (applies rels place v vs m)
  applied v vs place proper h = by (as_delta v) refl
    where
      proper_by : (d : Delta) (b : Bool) → is_fail d ≡ b → as_delta v ≡ Some d → AreCountsBehind s ns (if_step b (ends (ended (stopped ApplyFail place))) (needs_that (is_delta_of rels d) (quiet (record m { at = m.at + 1; operands = vs; pending = smash_of m.pending d }))))
      proper_by d true f e = tt
      proper_by d false f e = known (is_delta_of rels d)
        where
          known : (b : Bool) → AreCountsBehind s ns (needs_that b (quiet (record m { at = m.at + 1; operands = vs; pending = smash_of m.pending d })))
          known true = subst (λ (x : State). AreCounts x ns) (sym (apply_of-smash_of s m.pending d proper f)) (h d e)
          known false = tt

      by : (o : Option Delta) → as_delta v ≡ o → AreCountsBehind s ns (needs o (λ d. if_step (is_fail d) (ends (ended (stopped ApplyFail place))) (needs_that (is_delta_of rels d) (quiet (record m { at = m.at + 1; operands = vs; pending = smash_of m.pending d })))))
      by None e = tt
      by (Some d) e = proper_by d (is_fail d) refl e

  applied_top : (place : ℕ) (ops : List Value) → is_fail m.pending ≡ false → ((v : Value) (d : Delta) → slice_get ops 0 ≡ Some v → as_delta v ≡ Some d → AreCounts (apply_of (apply_of s m.pending) d) ns)
      → AreCountsBehind s ns (on_top ops (λ v vs. applies rels place v vs m))
  applied_top place [] proper h = tt
  applied_top place (v ∷ vs) proper h = applied v vs place proper (λ d e. h v d refl e)

  pub behind_apply : (i : Instr) → is_apply i ≡ true → is_fail m.pending ≡ false → ((v : Value) (d : Delta) → slice_get m.operands 0 ≡ Some v → as_delta v ≡ Some d → AreCounts (apply_of (apply_of s m.pending) d) ns)
      → AreCountsBehind s ns (act code rels hosts (Some i) s m)
  behind_apply (Apply place) a proper h = applied_top place m.operands proper h
  behind_apply i a proper h = cc

-- ---- by the event

module _ (s : State) (ns : List (Option ℕ)) (m : Standing) (e : Event) (h : AreCountsBehind s ns (event_over s e m)) where
  pub counted_quiet : e ≡ Quiet → AreCountsOver s m ns
  counted_quiet is = subst (λ (x : Event). AreCountsBehind s ns (event_over s x m)) is h

  pub counted_out : (line : List ℕ) → e ≡ Out line → AreCountsOver s m ns
  counted_out line is = subst (λ (x : Event). AreCountsBehind s ns (event_over s x m)) is h

  -- the delta of the commit is taken
  pub counted_commit : (d : Delta) (n : Standing) → e ≡ CommitEvent → m.waits ≡ Some d → n ≡ record m { waits = None } → AreCountsOver (apply_of s d) n ns
  counted_commit d n is waits taken =
      subst (λ (x : Standing). AreCountsOver (apply_of s d) x ns) (sym taken)
      (subst (λ (o : Option Delta). AreCountsBehind s ns (commit_over s o m)) waits (subst (λ (x : Event). AreCountsBehind s ns (event_over s x m)) is h))

pub counted_same : (s t : State) (m : Standing) (ns : List (Option ℕ)) → s ≡ t → AreCountsOver s m ns → AreCountsOver t m ns
counted_same s t m ns same h = subst (λ (x : State). AreCountsOver x m ns) same h
