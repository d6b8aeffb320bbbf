-- What an evaluation comes to is what the script means.
use Rattle.std.proofs.Common.{◌≡◌, ◌≤◌, ◌⊎◌, inl, inr, ℕ, List, length, refl, ap}
use Rattle.hera_meaning.specs.Hosts.{Hosts}
use Rattle.hera_meaning.specs.Run.{Report, run_of}
use Rattle.hera_meaning.specs.Sound.{Sound}
use Rattle.hera_meaning.specs.Trees.{Program_tree}
use Rattle.rel_pages.specs.Stored.{empty_state}
use Rattle.hera_host.specs.Tables.{Host, AreHosts, specs_of}
use Rattle.hera_rules.specs.Accepted.{Accepted}
use Rattle.hera_rules.specs.Bound.{bound}
use Rattle.hera_bind.specs.Having.{AllHas}
use Rattle.hera_bind.specs.Meaning.{Means}
use Rattle.hera_syntax.specs.Tokens.{script_limit}
use Rattle.hera_script.specs.declared.cause.Cause.{Cause}
use Rattle.hera_script.specs.Refusing.{IsRefused}
use Rattle.hera_outcome.specs.Outcomes.{Outcome, refused, ran}
use Rattle.hera_outcome.specs.Passages.{Start}
use Rattle.hera_outcome.specs.declared.refusal.Refusal.TheVariants.{Script}
use Rattle.hera_words.specs.declared.command.Command.TheVariants.{Eval}
use Rattle.hera_top.specs.Commands.{ComesToFor, refuses, performs, evaluates}

abbrev pub AreSound : Type 0
AreSound = (bytes : List ℕ) → (hosts : List Host) → (p : Program_tree) → length bytes ≤ script_limit → AreHosts hosts → Accepted bytes hosts p → Sound p (specs_of hosts)

abbrev HaveTheirOwn : Type 0
HaveTheirOwn = (p : Program_tree) → AllHas p.relations p.relations

abbrev AreTheSame : Type 0
AreTheSame = (p : Program_tree) → (hosts : Hosts) → Sound p hosts → bound p p.relations ≡ p

abbrev IsEvaluated : List Host → ℕ → List ℕ → Outcome → Type 0
IsEvaluated hosts turns script outcome =
    ((cause : Cause) × (at : ℕ) × IsRefused hosts script cause at × (outcome ≡ refused (Script cause at)))
    ⊎ ((p : Program_tree) × (report : Report) × Accepted script hosts p × Means script p.relations (empty_state p.relations) hosts turns report × (outcome ≡ ran report))

means : AreSound → HaveTheirOwn → AreTheSame → (hosts : List Host) (turns : ℕ) (script : List ℕ) (p : Program_tree) → AreHosts hosts → length script ≤ script_limit → Accepted script hosts p
    → Means script p.relations (empty_state p.relations) hosts turns (run_of p (empty_state p.relations) (specs_of hosts) turns)
means sound own same hosts turns script p are short accepted =
    let is : Sound p (specs_of hosts) = sound script hosts p short are accepted in
    record {
      program = p;
      accepted = accepted;
      binds = own p;
      runs = ap (λ (q : Program_tree). run_of q (empty_state p.relations) (specs_of hosts) turns) (same p (specs_of hosts) is);
    }

pub evaluated : AreSound → HaveTheirOwn → AreTheSame → (hosts : List Host) (turns : ℕ) (script : List ℕ) (s : Start) (outcome : Outcome) → AreHosts hosts → ComesToFor hosts script s (Eval turns) outcome
    → IsEvaluated hosts turns script outcome
evaluated sound own same hosts turns script s _ are (refuses {cause} {at} is) = inl (cause, at, is, refl)
evaluated sound own same hosts turns script s _ are (performs {p} short accepted evaluates) =
    inr (p, run_of p (empty_state p.relations) (specs_of hosts) turns, accepted, means sound own same hosts turns script p are short accepted, refl)
