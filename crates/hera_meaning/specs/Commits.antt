-- Deltas one after another, and which deltas are committed.
use Rattle.std.specs.Prelude.{◌≡◌, false, List, [], ◌∷◌}
use Rattle.hera_meaning.specs.declared.schemas.RelDecl.{RelDecl}
use Rattle.hera_meaning.specs.Deltas.{Delta, atoms, State, IsState, IsDeltaOf, is_fail, apply_of, smash_of}

-- the state after deltas, the first of which stands first
abbrev pub after_all : State → List Delta → State
after_all s [] = s
after_all s (d ∷ ds) = after_all (apply_of s d) ds

-- a delta smashed with more, one after another
abbrev pub smashed : Delta → List Delta → Delta
smashed d [] = d
smashed d (e ∷ es) = smashed (smash_of d e) es

-- the smash of deltas, the first of which stands first; of none it is the empty delta
abbrev pub smash_all : List Delta → Delta
smash_all [] = atoms []
smash_all (d ∷ ds) = smashed d ds

-- it is not `fail`, and names relations and rows of the catalogue
pub record IsCommitOf (rels : List RelDecl) (delta : Delta) : Type 0 where
  pub proper : is_fail delta ≡ false
  pub known : IsDeltaOf rels delta

-- what a delta does to a state, these deltas do one after another
pub record IsSmashOf (rels : List RelDecl) (deltas : List Delta) (all : Delta) : Type 0 where
  pub proper : IsCommitOf rels all
  pub same : (s : State) → IsState rels s → apply_of s all ≡ after_all s deltas
