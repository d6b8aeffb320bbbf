use Rattle.hera_bind.proofs.Own.{has_own, bound_to_own}
use Rattle.hera_bind.proofs.laws.a_program_is_bound_to_its_own_relations.Goals as goal

pub returns : goal.returns
returns c = record {
  has = λ p. has_own p.relations;
  same = bound_to_own;
}
