-- A commit that is kept under guards.
use Rattle.std.proofs.Common.{◌≡◌, false, List, [], ◌∷◌, Option, None, refl, sym, ap, subst}
use Rattle.std.specs.Option.{option_map}
use Rattle.std.proofs.lemmas.Option.{none-some}
use Rattle.std.specs.Prelude.{ℕ}
use Rattle.hera_meaning.specs.declared.schemas.RelDecl.{RelDecl}
use Rattle.hera_meaning.specs.Deltas.{State, Delta, IsState, IsDelta, IsDeltaOf, apply_of}
use Rattle.hera_meaning.specs.Hosts.{Hosts}
use Rattle.hera_meaning.proofs.CommitLaws.{state_after_one}
use Rattle.hera_host.specs.Tables.{Host, specs_of}
use Rattle.hera_store.specs.Databases.{Database}
use Rattle.hera_store.specs.Standing.{Standing, database_of}
use Rattle.hera_guard.specs.declared.table.Guard.{Guard}
use Rattle.hera_guard.specs.declared.table.Break.{Break}
use Rattle.hera_guard.specs.Guards.{breaks, first, added_of}
use Rattle.hera_guard.specs.Guarded.{break_text, guard_name, refusal_of}
use Rattle.hera_guard_lines.specs.declared.lines.GuardLine.{GuardLine}
use Rattle.hera_outcome.specs.Cut.{with_state}
use Rattle.hera_run.specs.Keeping.{IsLevelled, IsReadyWith}
use Rattle.hera_guarded.specs.Guarding.{AreRules, IsGuardedStore}

-- what the rows that a delta puts in break is what the state behind it breaks
abbrev pub Suffices : Type 0
Suffices = (hosts : Hosts) (guards : List Guard) (rels : List RelDecl) (s : State) (d : Delta) → IsState rels s → IsDelta d → breaks hosts guards rels s ≡ [] → first (breaks hosts guards rels (apply_of s d)) ≡ first (breaks hosts guards rels (added_of rels d))

pub line_added : Suffices → (hosts : List Host) (guards : List Guard) (rels : List RelDecl) (s : State) (d : Delta) → IsState rels s → IsDelta d → breaks (specs_of hosts) guards rels s ≡ []
    → refusal_of hosts guards rels (added_of rels d) ≡ refusal_of hosts guards rels (apply_of s d)
line_added suffices hosts guards rels s d valid delta none = ap (option_map (λ (b : Break). break_text rels (guard_name hosts guards b.guard) b)) (sym (suffices (specs_of hosts) guards rels s d valid delta none))

nothing_first : (line : Break → List ℕ) (xs : List Break) → option_map line (first xs) ≡ None → xs ≡ []
nothing_first line [] none = refl
nothing_first line (x ∷ xs) none = absurd (none-some (line x) (sym none))

-- a state without a line has no break
pub none_broken : (hosts : List Host) (guards : List Guard) (rels : List RelDecl) (s : State) → refusal_of hosts guards rels s ≡ None → breaks (specs_of hosts) guards rels s ≡ []
none_broken hosts guards rels s none = nothing_first (λ (b : Break). break_text rels (guard_name hosts guards b.guard) b) (breaks (specs_of hosts) guards rels s) none

-- one commit more
pub guarded_more : (hosts : List Host) (lines : List GuardLine) (guards : List Guard) (before levels : List Delta) (old now : Standing) (d : Delta) → IsGuardedStore hosts lines guards before old → IsReadyWith levels now
    → database_of now ≡ with_state (database_of old) (apply_of (database_of old).state d) → IsDeltaOf old.base.catalogue d → refusal_of hosts guards old.base.catalogue (apply_of (database_of old).state d) ≡ None
    → IsGuardedStore hosts lines guards levels now
guarded_more hosts lines guards before levels old now d store ready kept known allowed = record {
  ready = ready;
  rules = subst (λ (x : Database). AreRules x.catalogue hosts lines guards) (sym kept) store.rules;
  state = subst (λ (x : Database). IsState x.catalogue x.state) (sym kept) (state_after_one old.base.catalogue (database_of old).state d store.state known);
  unbroken = subst (λ (x : Database). breaks (specs_of hosts) guards x.catalogue x.state ≡ []) (sym kept) (none_broken hosts guards old.base.catalogue (apply_of (database_of old).state d) allowed);
}

pub same_refusals : (hosts : List Host) (guards : List Guard) (old now : Standing) (s : State) → database_of now ≡ with_state (database_of old) s
    → ◌≡◌ {A = State → Option (List ℕ)} (λ t. refusal_of hosts guards now.base.catalogue t) (λ t. refusal_of hosts guards old.base.catalogue t)
same_refusals hosts guards old now s kept = ap (λ (x : Database). λ (t : State). refusal_of hosts guards x.catalogue t) kept

-- a store that takes a commit, without a break
pub ready_under : (hosts : List Host) (lines : List GuardLine) (guards : List Guard) (levels : List Delta) (kept store : Standing) → kept ≡ store → store.closed ≡ false → IsLevelled levels store
    → AreRules store.base.catalogue hosts lines guards → IsState store.base.catalogue (database_of store).state → refusal_of hosts guards store.base.catalogue (database_of store).state ≡ None → IsGuardedStore hosts lines guards levels kept
ready_under hosts lines guards levels kept store is unclosed levelled rules state none =
    subst (λ (x : Standing). IsGuardedStore hosts lines guards levels x) (sym is)
    (record { ready = record { unclosed = unclosed; levelled = levelled }; rules = rules; state = state; unbroken = none_broken hosts guards store.base.catalogue (database_of store).state none })
