-- Programs bound to a catalogue, and their code.
use Rattle.std.specs.Prelude.{◌≡◌, ℕ, List, [], ◌∷◌}
use Rattle.hera_meaning.specs.declared.schemas.RelDecl.{RelDecl}
use Rattle.hera_meaning.specs.Hosts.{Hosts}
use Rattle.hera_meaning.specs.Sound.{Sound}
use Rattle.hera_meaning.specs.Trees.{Program_tree}
use Rattle.hera_code.specs.declared.instrs.Code.{Code}
use Rattle.hera_code.specs.Scheme.{code_of}
use Rattle.hera_rules.specs.Bound.{Differs}
use Rattle.hera_outcome.specs.declared.answer.Stop.{Stop}
use Rattle.hera_outcome.specs.declared.answer.Stop.TheVariants.{Refused, Memory}
use Rattle.hera_outcome.specs.declared.refusal.Refusal.TheVariants.{Differing}

-- each program is sound for the hosts
abbrev pub AreSound : Hosts → List Program_tree → Type 0
AreSound hosts [] = Unit {0}
AreSound hosts (p ∷ ps) = Sound p hosts × AreSound hosts ps

-- each has these relations
abbrev pub HaveRelations : List RelDecl → List Program_tree → Type 0
HaveRelations rels [] = Unit {0}
HaveRelations rels (p ∷ ps) = (p.relations ≡ rels) × HaveRelations rels ps

-- why programs with these relations are not bound: the catalogue has not the first one that it lacks, or there is no memory
pub data IsUnbound (catalogue own : List RelDecl) : Stop → Type 0 where
  lacks : {name : List ℕ} → Differs catalogue own name → IsUnbound catalogue own (Refused (Differing name))
  short : IsUnbound catalogue own Memory

-- the code of each program
abbrev pub codes_of : List Program_tree → List Code
codes_of [] = []
codes_of (p ∷ ps) = code_of p ∷ codes_of ps
