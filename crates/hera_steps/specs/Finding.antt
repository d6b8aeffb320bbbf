-- What an operation finds of relations that it reads where they stand.
use Rattle.std.specs.Prelude.{◌≡◌, ℕ, ◌∷◌, Bool, true, false, List}
use Rattle.hera_meaning.specs.declared.trees.Op.{Op}
use Rattle.hera_meaning.specs.declared.trees.Op.TheVariants.{Count, Empty}
use Rattle.hera_meaning.specs.Values.{Value}
use Rattle.hera_meaning.specs.Fits.{fits_of}
use Rattle.hera_meaning.specs.Primitives.{gives, refuses, given}
use Rattle.hera_meaning.specs.Run.{stopped}
use Rattle.hera_code.specs.Machine.{Machine, Step, quiet, ends, ended, stuck, on_with}
use Rattle.hera_values.specs.Little.{plain_of}
use Rattle.hera_steps.specs.declared.running.relations.RelationAnswer.{RelationAnswer}
use Rattle.hera_steps.specs.declared.running.relations.RelationAnswer.TheVariants.{Misfit, Trap, Answer}

-- of the operation and its operands
abbrev pub IsFound : Op → List Value → RelationAnswer → Type 0
IsFound op args Misfit = fits_of op args ≡ false
IsFound op args (Trap name) = (fits_of op args ≡ true) × (given op args ≡ refuses name)
IsFound op args (Answer v) = (fits_of op args ≡ true) × (given op args ≡ gives (plain_of v))

-- the step of an operation at this mark, behind which these operands are left
abbrev pub found_step : ℕ → List Value → Machine → RelationAnswer → Step
found_step at vs m Misfit = ends stuck
found_step at vs m (Trap name) = ends (ended (stopped name at))
found_step at vs m (Answer v) = quiet (on_with (plain_of v ∷ vs) m)

-- the operation counts the tuples of a relation, or tells whether there are none
abbrev pub is_measure : Op → Bool
is_measure Count = true
is_measure Empty = true
is_measure _ = false
