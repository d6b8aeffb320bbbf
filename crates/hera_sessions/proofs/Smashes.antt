-- What a run stores, as deltas one after another.
use Rattle.std.proofs.Common.{◌≡◌, List, [], ◌∷◌, ◌++◌, refl, ap, ◌∙◌}
use Rattle.std.specs.Prelude.{All}
use Rattle.std.proofs.lemmas.List.Elements.{All-nil, All-cons}
use Rattle.hera_meaning.specs.declared.schemas.RelDecl.{RelDecl}
use Rattle.hera_meaning.specs.Deltas.{Delta, State, apply_of}
use Rattle.hera_meaning.specs.Commits.{IsCommitOf, after_all}
use Rattle.hera_meaning.specs.Worlds.{Event, out, store}
use Rattle.hera_meaning.specs.Run.{state_after}
use Rattle.hera_codegen.specs.Correct.{AreStoresOf}
use Rattle.hera_sessions.specs.Agreeing.{deltas_of, Follow}

pub after_all-append : (s : State) (ds es : List Delta) → after_all s (ds ++ es) ≡ after_all (after_all s ds) es
after_all-append s [] es = refl
after_all-append s (d ∷ ds) es = after_all-append (apply_of s d) ds es

pub follow_state : (s : State) (es : List Event) → Follow s es → state_after s es ≡ after_all s (deltas_of es)
follow_state s [] h = refl
follow_state s (out bytes ∷ es) h = follow_state s es h
follow_state s (store t d ∷ es) h = follow_state t es h.1 ∙ ap (λ (u : State). after_all u (deltas_of es)) h.0

pub stored_commits : (rels : List RelDecl) (es : List Event) → AreStoresOf rels es → All (IsCommitOf rels) (deltas_of es)
stored_commits rels [] are = All-nil (IsCommitOf rels)
stored_commits rels (out bytes ∷ es) are = stored_commits rels es are
stored_commits rels (store s d ∷ es) are = All-cons (IsCommitOf rels) d (deltas_of es) (record { proper = are.0.3; known = are.0.2 }) (stored_commits rels es are.1)
