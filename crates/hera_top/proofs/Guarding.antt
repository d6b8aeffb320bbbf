-- What `guard` answers, of what its two sources gave.
use Rattle.std.proofs.Common.{◌≡◌, ◌≤◌, ◌+◌, arith, ℕ, ⊎_elim, inl, inr, ◌⊎◌, List, [], ◌∷◌, length, Option, Result, Err, refl, sym, ap, ◌∙◌, subst}
use Rattle.std.specs.Prelude.{get_or, slice_set, Some}
use Rattle.hera_causes.specs.Causes.{Rose}
use Rattle.hera_causes.specs.declared.traits.Output as output
use Rattle.hera_host.specs.Tables.{Host}
use Rattle.hera_volume.specs.declared.outside.Outside as files
use Rattle.hera_guard_lines.specs.declared.lines.GuardLine.{GuardLine}
use Rattle.hera_outcome.specs.declared.answer.Ending.{Ending}
use Rattle.hera_outcome.specs.declared.answer.Stop.{Stop}
use Rattle.hera_outcome.specs.declared.answer.Stop.TheVariants.{Refused, Device, Output, Memory, Full}
use Rattle.hera_outcome.specs.declared.refusal.Refusal.{Refusal}
use Rattle.hera_outcome.specs.declared.refusal.Refusal.TheVariants.{Unread}
use Rattle.hera_outcome.specs.Passages.{Passage, passage}
use Rattle.hera_outcome.proofs.Passing.{answered_weaker, pending_none, given_up_none}
use Rattle.hera_words.specs.declared.command.Command.{Command}
use Rattle.hera_words.specs.declared.command.Command.TheVariants.{Guard}
use Rattle.hera_words.specs.Words.{form_of, files_in}
use Rattle.hera_top.specs.Commands.{IsAnswered}
use Rattle.hera_top.specs.Guarding.{AreLinesOf, HasNoLines, misses_rules, refuses_rules, GivesNoLines, IsGuarded, no_lines, has_lines}
use Rattle.hera_top.specs.Sources.{Seen, seen, seen_of, AreStill, OneFailed, this_failed, later_failed}

module _ (hosts : List Host) (name : List ℕ) (turns : ℕ) where
  -- FILE was read under the lines of RULES
  under_lines : (b n f g : Seen) (lines : List GuardLine) (r : Result Ending Stop) (v : Passage) → AreLinesOf b n lines → b.faults ≤ n.faults → IsGuarded hosts lines turns f g r v → IsAnswered hosts name (Guard turns) (b ∷ f ∷ []) (n ∷ g ∷ []) r v
  under_lines b n f g lines r v are later guarded = record {
    answered = answered_weaker _ _ r v (λ o comes. has_lines are comes) guarded.answered;
    still = ⊎_elim (λ (still : g.faults ≡ f.faults). inl (are.read.still, (still, tt))) (λ (failed : (r ≡ Err (Refused Unread)) × Rose f.faults g.faults). inr (failed.0, later_failed (this_failed failed.1))) guarded.still;
    later = (later, (guarded.later, tt));
  }

  -- RULES gave no lines
  refused_still : (b n f : Seen) (refusal : Refusal) → HasNoLines b n refusal → AreStill (b ∷ f ∷ []) (n ∷ f ∷ []) ⊎ ((◌≡◌ {A = Result Ending Stop} (Err (Refused refusal)) (Err (Refused Unread))) × OneFailed (b ∷ f ∷ []) (n ∷ f ∷ []))
  refused_still b n f _ (misses_rules is) = inr (refl, this_failed is.rose)
  refused_still b n f _ (refuses_rules rules read refusal) = inl (read.still, (refl, tt))

  module _ {D : Type 0} (q : output.Ghosts D) (w : files.Ghosts D) (a : D) where
    abbrev none_done : Passage
    none_done = passage q w a a

    without_lines : (b n f : Seen) (stop : Stop) → GivesNoLines b n stop → b.faults ≤ n.faults → IsAnswered hosts name (Guard turns) (b ∷ f ∷ []) (n ∷ f ∷ []) (Err stop) none_done
    without_lines b n f (Refused refusal) none later = record { answered = (no_lines none, pending_none q w a); still = refused_still b n f refusal none; later = (later, (omega arith, tt)) }
    without_lines b n f Device none later = absurd none
    without_lines b n f Output none later = absurd none
    without_lines b n f Memory none later = record { answered = inr (given_up_none q w a); still = inl (none, (refl, tt)); later = (later, (omega arith, tt)) }
    without_lines b n f Full none later = absurd none

  -- ---- two sources

  module _ {S : Type 0} (left : S → Option (List ℕ)) (faults : S → ℕ) where
    pub rules_alone : {D : Type 0} (q : output.Ghosts D) (w : files.Ghosts D) (a : D) (items : List S) (old new : S) (stop : Stop) → length items ≡ 2 → old ≡ get_or items 0 old
        → GivesNoLines (seen left faults old) (seen left faults new) stop → faults old ≤ faults new → IsAnswered hosts name (Guard turns) (seen_of left faults items) (seen_of left faults (slice_set items 0 new)) (Err stop) (passage q w a a)
    rules_alone q w a [] old new stop two first none later = absurd (omega (arith, two))
    rules_alone q w a (x ∷ []) old new stop two first none later = absurd (omega (arith, two))
    rules_alone q w a (x ∷ y ∷ []) old new stop two first none later =
        subst (λ (z : S). IsAnswered hosts name (Guard turns) (seen left faults z ∷ seen left faults y ∷ []) (seen left faults new ∷ seen left faults y ∷ []) (Err stop) (passage q w a a)) first
        (without_lines q w a (seen left faults old) (seen left faults new) (seen left faults y) stop none later)
    rules_alone q w a (x ∷ y ∷ z ∷ more) old new stop two first none later = absurd (omega (arith, two))

    pub both_read : (items : List S) (old new file_old file_new : S) (lines : List GuardLine) (r : Result Ending Stop) (v : Passage) → length items ≡ 2 → old ≡ get_or items 0 old → file_old ≡ get_or (slice_set items 0 new) 1 file_old
        → AreLinesOf (seen left faults old) (seen left faults new) lines → faults old ≤ faults new → IsGuarded hosts lines turns (seen left faults file_old) (seen left faults file_new) r v
        → IsAnswered hosts name (Guard turns) (seen_of left faults items) (seen_of left faults (slice_set (slice_set items 0 new) 1 file_new)) r v
    both_read [] old new file_old file_new lines r v two first second are later guarded = absurd (omega (arith, two))
    both_read (x ∷ []) old new file_old file_new lines r v two first second are later guarded = absurd (omega (arith, two))
    both_read (x ∷ y ∷ []) old new file_old file_new lines r v two first second are later guarded =
        subst (λ (z : S). IsAnswered hosts name (Guard turns) (seen left faults z ∷ seen left faults y ∷ []) (seen left faults new ∷ seen left faults file_new ∷ []) r v) first
        (subst (λ (z : S). IsAnswered hosts name (Guard turns) (seen left faults old ∷ seen left faults z ∷ []) (seen left faults new ∷ seen left faults file_new ∷ []) r v) second
        (under_lines (seen left faults old) (seen left faults new) (seen left faults file_old) (seen left faults file_new) lines r v are later guarded))
    both_read (x ∷ y ∷ z ∷ more) old new file_old file_new lines r v two first second are later guarded = absurd (omega (arith, two))

-- ---- the command

pub two_sources : (command : Command) (turns n : ℕ) → command ≡ Guard turns → n + (files_in (Some command)).0 ≡ (files_in (Some command)).1 → n ≡ 2
two_sources command turns n is given = let here : n + 3 ≡ 5 = subst (λ (x : Command). n + (files_in (Some x)).0 ≡ (files_in (Some x)).1) is given in omega (arith, here)

pub guard_reads_files : (command : Command) (turns : ℕ) → command ≡ Guard turns → (form_of command).files ≡ 0 → ⊥
guard_reads_files command turns is none = (let bad : 2 ≡ 0 = sym (ap (λ (x : Command). (form_of x).files) is) ∙ none in cc (bad))
