-- States of a catalogue, and the state without rows.
use Rattle.std.proofs.Common.{◌≡◌, ℕ, suc, List, [], ◌∷◌, length, refl, ap, ◌∙◌, arith}
use Rattle.std.specs.Prelude.{replicate, All}
use Rattle.hera_meaning.specs.declared.schemas.RelDecl.{RelDecl}
use Rattle.hera_meaning.specs.Rows.{IsRow}
use Rattle.hera_meaning.specs.Deltas.{State, IsState}
use Rattle.rel_pages.specs.Stored.{empty_state}

pub state_length : (rels : List RelDecl) (s : State) → IsState rels s → length s ≡ length rels
state_length [] [] h = refl
state_length [] (rows ∷ s) h = elim h [ ]
state_length (d ∷ rels) [] h = elim h [ ]
state_length (d ∷ rels) (rows ∷ s) h = ap suc (state_length rels s h.1)

all_none : {A : Type 0} (P : A → Type 0) → All P []
all_none P = λ k d h. absurd (omega (arith, h))

pub empty_is_state : (rels : List RelDecl) → IsState rels (empty_state rels)
empty_is_state [] = tt
empty_is_state (d ∷ rels) = ((tt, all_none (IsRow d.schema)), empty_is_state rels)

none_each : (rels : List RelDecl) → replicate (length rels) [] ≡ empty_state rels
none_each [] = refl
none_each (d ∷ rels) = ap (λ xs. [] ∷ xs) (none_each rels)

pub begun_empty : (rels : List RelDecl) (s : State) (n : ℕ) → s ≡ replicate n [] → n ≡ length rels → s ≡ empty_state rels
begun_empty rels s n e h = e ∙ ap (λ k. replicate k []) h ∙ none_each rels
