-- What is packed of a script.
use Rattle.std.proofs.Common.{◌≡◌, ◌≤◌, ◌<◌, ◌⊎◌, ◌∙◌, inl, inr, ⊎_elim, ℕ, List, [], ◌∷◌, length, refl, sym, ap, subst, arith}
use Rattle.std.proofs.lemmas.Bool.{cases_lt}
use Rattle.hera_causes.specs.Causes.{Rose}
use Rattle.hera_meaning.specs.Hosts.{Hosts}
use Rattle.hera_meaning.specs.Run.{run_of}
use Rattle.hera_meaning.specs.Sound.{Sound}
use Rattle.hera_meaning.specs.Trees.{Program_tree}
use Rattle.rel_pages.specs.Stored.{empty_state}
use Rattle.hera_host.specs.Tables.{Host, AreHosts, specs_of}
use Rattle.hera_rules.specs.Accepted.{Accepted}
use Rattle.hera_syntax.specs.Tokens.{script_limit}
use Rattle.hera_outcome.specs.Outcomes.{Outcome, prints, ran}
use Rattle.hera_outcome.specs.Passages.{Passage, Start}
use Rattle.hera_outcome.specs.Told.{IsDone}
use Rattle.hera_words.specs.declared.command.Command.TheVariants.{Pack, Eval}
use Rattle.hera_packed.specs.Packed.{IsPackOf}
use Rattle.hera_packed.specs.Executed.{ExecutesTo}
use Rattle.hera_top.specs.Coding.{PrintsPack, prints_pack, PacksTo, refuses_pack, packs, OfPack, no_script, has_script}
use Rattle.hera_top.specs.Commands.{ComesToFor, refuses, performs, evaluates, Answers, tells, fails}
use Rattle.hera_top.specs.Sources.{Seen, IsRead, OneFailed, this_failed}
use Rattle.hera_top.specs.Told.{HaveLeft}
use Rattle.outcome_laws.proofs.Complete.{told_done}
use Rattle.outcome_laws.proofs.Evaluated.{AreSound}
use Rattle.outcome_laws.proofs.OneOutcome.{OneRefusal, NeverBoth, OneProgram, same_refusal, told_text}
use Rattle.outcome_laws.proofs.Wholes.{whole_text, long_text}

-- ---- one up to the notes

abbrev AreAlike : List Host → (a b : Outcome) → Type 0
AreAlike hosts a b = (a ≡ b) ⊎ ((p : Program_tree) × PrintsPack (specs_of hosts) p a × PrintsPack (specs_of hosts) p b)

pub alike : OneRefusal → NeverBoth → OneProgram → (hosts : List Host) (script : List ℕ) (a b : Outcome) → PacksTo hosts script a → PacksTo hosts script b → AreAlike hosts a b
alike one never program hosts script _ _ (refuses_pack {cause = c} {at = m} x) (refuses_pack {cause = d} {at = n} y) = inl (same_refusal c d m n (one hosts script c d m n x y))
alike one never program hosts script _ _ (refuses_pack {cause = c} {at = m} x) (packs {p} short acc did) = absurd (never hosts script p c m short acc x)
alike one never program hosts script _ _ (packs {p} short acc did) (refuses_pack {cause = c} {at = m} x) = absurd (never hosts script p c m short acc x)
alike one never program hosts script a b (packs {p} short acc did) (packs {p = q} also other too) =
    inr (p, did, subst (λ (r : Program_tree). PrintsPack (specs_of hosts) r b) (sym (program hosts script p q acc other)) too)

-- ---- completeness

module _ (never : NeverBoth) (program : OneProgram) (hosts : List Host) (script : List ℕ) (p : Program_tree) (short : length script ≤ script_limit) (accepted : Accepted script hosts p) where
  -- what came is the script
  same_text : (came : List ℕ) (b n : Seen) → HaveLeft (script ∷ []) (b ∷ []) → IsRead script_limit b n came → script ≡ came
  same_text came b n left read =
      let told = told_text b (script ∷ []) left in
      ⊎_elim (λ long. let over = long_text script_limit script came b n told read long in absurd (omega (arith, over, short))) (λ fits. whole_text script_limit script came b n told read fits) (cases_lt script_limit (length came))

  printed_so : (o : Outcome) → PacksTo hosts script o → PrintsPack (specs_of hosts) p o
  printed_so _ (refuses_pack {cause = c} {at = m} x) = absurd (never hosts script p c m short accepted x)
  printed_so o (packs {p = q} also other did) = subst (λ (r : Program_tree). PrintsPack (specs_of hosts) r o) (program hosts script q p other accepted) did

  came_so : (before now : List Seen) (o : Outcome) → HaveLeft (script ∷ []) before → ¬ OneFailed before now → OfPack hosts before now o → PrintsPack (specs_of hosts) p o
  came_so _ _ _ left fine (no_script is) = absurd (fine (this_failed is.rose))
  came_so _ _ o left fine (has_script {b = b} {n = n} came read did) = printed_so o (subst (λ (l : List ℕ). PacksTo hosts l o) (sym (same_text came b n left read)) did)

  abbrev IsWhole : ℕ → Passage → Type 0
  IsWhole status v = (status ≡ 9) ⊎ ((outcome : Outcome) × PrintsPack (specs_of hosts) p outcome × IsDone outcome status v)

  pub a_pack_is_complete : (name : List ℕ) (before now : List Seen) (v : Passage) (status : ℕ) → HaveLeft (script ∷ []) before → ¬ OneFailed before now
      → ¬ Rose v.device_before v.device_now → ¬ Rose v.output_before v.output_now → Answers hosts name Pack before now status v → IsWhole status v
  a_pack_is_complete name before now v status left fine device output (tells {outcome = came} did told) =
      ⊎_elim (λ nine. inl nine) (λ done. inr (came, came_so before now came left fine did, done)) (told_done came status v device output told)
  a_pack_is_complete name before now v status left fine device output (fails still up) =
      ⊎_elim (λ six. absurd (device six.1.rose)) (λ nine. inl nine.0) up.cause

-- ---- runs of what is packed

abbrev pub DoesWhatItMeans : Type 0
DoesWhatItMeans = (p : Program_tree) (hosts : Hosts) (turns : ℕ) (bytes : List ℕ) (outcome : Outcome) → Sound p hosts → IsPackOf hosts p bytes → ExecutesTo hosts turns bytes outcome → outcome ≡ ran (run_of p (empty_state p.relations) hosts turns)

module _ (never : NeverBoth) (program : OneProgram) (sound : AreSound) (does : DoesWhatItMeans) (hosts : List Host) (turns : ℕ) (script : List ℕ) (s : Start) (are : AreHosts hosts) where
  abbrev meant : Program_tree → Outcome
  meant p = ran (run_of p (empty_state p.relations) (specs_of hosts) turns)

  evaluated_so : (p : Program_tree) (o : Outcome) → length script ≤ script_limit → Accepted script hosts p → ComesToFor hosts script s (Eval turns) o → o ≡ meant p
  evaluated_so p _ short acc (refuses {cause = c} {at = m} x) = absurd (never hosts script p c m short acc x)
  evaluated_so p _ short acc (performs {p = q} also other evaluates) = ap meant (program hosts script q p other acc)

  executed_so : (text : List ℕ) (o : Outcome) → PacksTo hosts script o → o ≡ prints text → (p : Program_tree) × (length script ≤ script_limit) × Accepted script hosts p × IsPackOf (specs_of hosts) p text
  executed_so text _ (refuses_pack x) is = absurd (cc (is))
  executed_so text _ (packs {p} short acc (prints_pack {text = own} pack)) is = (p, short, acc, subst (λ (l : List ℕ). IsPackOf (specs_of hosts) p l) (same_print own text is) pack)
    where
      same_print : (x y : List ℕ) → prints x ≡ prints y → x ≡ y
      same_print x y e = cc (e)

  pub runs_as_it_evaluates : (text : List ℕ) (outcome evaluated : Outcome) → PacksTo hosts script (prints text) → ExecutesTo (specs_of hosts) turns text outcome → ComesToFor hosts script s (Eval turns) evaluated → outcome ≡ evaluated
  runs_as_it_evaluates text outcome evaluated packed did came =
      let (p, short, acc, pack) = executed_so text (prints text) packed refl in
      does p (specs_of hosts) turns text outcome (sound script hosts p short are acc) pack did ∙ sym (evaluated_so p evaluated short acc came)
