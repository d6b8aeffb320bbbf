-- A catalogue that has all of some relations.
use Rattle.std.specs.Prelude.{ℕ, zero, suc, List, [], ◌∷◌}
use Rattle.hera_meaning.specs.declared.schemas.RelDecl.{RelDecl}
use Rattle.hera_rules.specs.Bound.{Has, Lacks}

-- each declared relation is in the catalogue with an equal schema
abbrev pub AllHas : List RelDecl → List RelDecl → Type 0
AllHas catalogue [] = Unit {0}
AllHas catalogue (d ∷ rels) = Has catalogue d × AllHas catalogue rels

-- the relation at this place is the first that the catalogue lacks
abbrev pub IsFirstMissing : (catalogue own : List RelDecl) → ℕ → Type 0
IsFirstMissing catalogue [] i = ⊥
IsFirstMissing catalogue (d ∷ rels) zero = Lacks catalogue d
IsFirstMissing catalogue (d ∷ rels) (suc i) = Has catalogue d × IsFirstMissing catalogue rels i
