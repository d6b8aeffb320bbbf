-- A code file comes to one outcome.
use Rattle.std.proofs.Common.{◌≡◌, ◌≤◌, ◌<◌, ◌⊎◌, ⊎_elim, ◌∙◌, ℕ, List, length, Result, Err, sym, ap, subst, arith}
use Rattle.std.specs.Prelude.{◌-◌}
use Rattle.std.proofs.lemmas.Bool.{cases_lt}
use Rattle.hera_meaning.specs.declared.schemas.RelDecl.{RelDecl}
use Rattle.hera_meaning.specs.Deltas.{IsState}
use Rattle.hera_meaning.specs.Hosts.{Hosts}
use Rattle.hera_meaning.specs.Run.{Report, Finish, run_of}
use Rattle.hera_meaning.specs.Sound.{Sound}
use Rattle.hera_meaning.specs.Trees.{Program_tree}
use Rattle.hera_meaning.specs.Worlds.{Event}
use Rattle.hera_code.specs.declared.instrs.Code.{Code}
use Rattle.hera_code.specs.Machine.{ended}
use Rattle.hera_code.specs.Reached.{over, code_at}
use Rattle.hera_code.specs.Scheme.{code_of}
use Rattle.hera_codegen.specs.Correct.{step_bound}
use Rattle.rel_pages.specs.Stored.{empty_state}
use Rattle.rel_pages.proofs.States.{empty_is_state}
use Rattle.hera_code_file.specs.Printing.{File}
use Rattle.hera_code_file.specs.Files.{IsBadAt}
use Rattle.hera_code_file.specs.Reading.{file_at}
use Rattle.hera_code_file.proofs.Laws.{ok_is}
use Rattle.hera_code_file.proofs.File_laws.{file_again, never_bad}
use Rattle.hera_typed.specs.Effects.{Body_note}
use Rattle.hera_typed.specs.Typed.{Points, IsTyped}
use Rattle.hera_verify.specs.Rejected.{IsVerified, IsRejectedAt}
use Rattle.hera_outcome.specs.Outcomes.{Outcome, refused, ran}
use Rattle.hera_outcome.specs.declared.refusal.Refusal.TheVariants.{BadCode, Rejected}
use Rattle.hera_packed.specs.Packed.{code_in, notes_in, IsFileOf, IsPackOf}
use Rattle.hera_packed.specs.Executed.{RunsAs, ExecutesTo, is_bad, is_rejected, is_run}

-- typed code is rejected at no address
abbrev pub NeverRejected : Type 0
NeverRejected = (code : Code) → (rels : List RelDecl) → (hosts : Hosts) → (notes : List Body_note) → (points : Points) → IsTyped code rels hosts notes points → (at : ℕ) → IsRejectedAt code rels hosts notes at → ⊥

-- the code of a program ends as that does
abbrev pub Ends : Type 0
Ends = (p : Program_tree) → (hosts : Hosts) → (n : ℕ) → Sound p hosts → IsState p.relations (empty_state p.relations)
    → code_at (code_of p) p.relations (empty_state p.relations) hosts n (step_bound p n) ≡ over (run_of p (empty_state p.relations) hosts n).events (ended (run_of p (empty_state p.relations) hosts n).finish)

-- ---- bytes

one_file : (bytes : List ℕ) (f g : File) → IsFileOf bytes f → IsFileOf bytes g → f ≡ g
one_file bytes f g x y = ok_is f g (sym (file_again f x.fits) ∙ ap file_at (sym x.text ∙ y.text) ∙ file_again g y.fits)

never_both : (bytes : List ℕ) (f : File) (at : ℕ) → IsBadAt bytes at → IsFileOf bytes f → ⊥
never_both bytes f at bad x = never_bad f bad.left (sym (file_again f x.fits) ∙ ap file_at (sym x.text) ∙ bad.breaks)

same_left : (a b : ℕ) → ◌≡◌ {A = Result File ℕ} (Err a) (Err b) → a ≡ b
same_left a b is = cc (is)

one_bad : (bytes : List ℕ) (a b : ℕ) → IsBadAt bytes a → IsBadAt bytes b → a ≡ b
one_bad bytes a b x y = x.here ∙ ap (λ (n : ℕ). length bytes - n) (same_left x.left y.left (sym x.breaks ∙ y.breaks)) ∙ sym y.here

-- ---- code

least_first : (code : Code) (rels : List RelDecl) (hosts : Hosts) (notes : List Body_note) (a b : ℕ) → IsRejectedAt code rels hosts notes a → IsRejectedAt code rels hosts notes b → a < b → ⊥
least_first code rels hosts notes a b x y less = let met = y.met a less in x.breaks met.0 met.1

one_address : (code : Code) (rels : List RelDecl) (hosts : Hosts) (notes : List Body_note) (a b : ℕ) → IsRejectedAt code rels hosts notes a → IsRejectedAt code rels hosts notes b → a ≡ b
one_address code rels hosts notes a b x y =
    ⊎_elim (λ less. absurd (least_first code rels hosts notes a b x y less))
    (λ most. ⊎_elim (λ less. absurd (least_first code rels hosts notes b a y x less)) (λ least. omega (arith, most, least)) (cases_lt b a)) (cases_lt a b)

same_end : (es fs : List Event) (f g : Finish) → over es (ended f) ≡ over fs (ended g) → (es ≡ fs) × (f ≡ g)
same_end es fs f g is = (cc (is), cc (is))

one_report : (code : Code) (rels : List RelDecl) (hosts : Hosts) (turns : ℕ) (a b : Report) → RunsAs code rels hosts turns a → RunsAs code rels hosts turns b → ran a ≡ ran b
one_report code rels hosts turns a b x y =
    let (events, finish) = same_end a.events b.events a.finish b.finish (sym x ∙ y) in
    ap (λ (es : List Event). ran (record { events = es; finish = a.finish })) events ∙ ap (λ (f : Finish). ran (record { events = b.events; finish = f })) finish

-- ---- outcomes

module _ (never : NeverRejected) (hosts : Hosts) (turns : ℕ) (bytes : List ℕ) where
  abbrev Verified : File → Type 0
  Verified f = IsVerified (code_in f) f.relations hosts (notes_in f)

  abbrev RejectedAt : ℕ → File → Type 0
  RejectedAt at f = IsRejectedAt (code_in f) f.relations hosts (notes_in f) at

  abbrev Runs : Report → File → Type 0
  Runs report f = RunsAs (code_in f) f.relations hosts turns report

  rejected_or_verified : (f g : File) (at : ℕ) → f ≡ g → RejectedAt at f → Verified g → ⊥
  rejected_or_verified f g at same bad good = never (code_in g) g.relations hosts (notes_in g) good.0 good.1 at (subst (RejectedAt at) same bad)

  pub one : (a b : Outcome) → ExecutesTo hosts turns bytes a → ExecutesTo hosts turns bytes b → a ≡ b
  one _ _ (is_bad {at = m} x) (is_bad {at = n} y) = ap (λ (at : ℕ). refused (BadCode at)) (one_bad bytes m n x y)
  one _ _ (is_bad {at = m} x) (is_rejected {file = g} y bad) = absurd (never_both bytes g m x y)
  one _ _ (is_bad {at = m} x) (is_run {file = g} y good run) = absurd (never_both bytes g m x y)
  one _ _ (is_rejected {file = f} x bad) (is_bad {at = n} y) = absurd (never_both bytes f n y x)
  one _ _ (is_rejected {file = f} {at = m} x bad) (is_rejected {file = g} {at = n} y worse) =
      ap (λ (at : ℕ). refused (Rejected at)) (one_address (code_in f) f.relations hosts (notes_in f) m n bad (subst (RejectedAt n) (one_file bytes g f y x) worse))
  one _ _ (is_rejected {file = f} {at = m} x bad) (is_run {file = g} y good run) = absurd (rejected_or_verified f g m (one_file bytes f g x y) bad good)
  one _ _ (is_run {file = f} x good run) (is_bad {at = n} y) = absurd (never_both bytes f n y x)
  one _ _ (is_run {file = f} x good run) (is_rejected {file = g} {at = n} y bad) = absurd (rejected_or_verified g f n (one_file bytes g f y x) bad good)
  one _ _ (is_run {file = f} {report = r} x good run) (is_run {file = g} {report = q} y fine too) =
      one_report (code_in f) f.relations hosts turns r q run (subst (Runs q) (one_file bytes g f y x) too)

-- ---- files of programs

pub comes : Ends → (p : Program_tree) (hosts : Hosts) (turns : ℕ) (bytes : List ℕ) → Sound p hosts → IsPackOf hosts p bytes → ExecutesTo hosts turns bytes (ran (run_of p (empty_state p.relations) hosts turns))
comes ends p hosts turns bytes sound pack =
    let report = run_of p (empty_state p.relations) hosts turns in
    let own : RunsAs (code_of p) p.relations hosts turns report = ends p hosts turns sound (empty_is_state p.relations) in
    is_run {file = pack.file} {report = report} pack.is pack.typed
    (subst (λ (rels : List RelDecl). RunsAs (code_in pack.file) rels hosts turns report) (sym pack.relations)
    (subst (λ (code : Code). RunsAs code p.relations hosts turns report) (sym pack.code) own))
