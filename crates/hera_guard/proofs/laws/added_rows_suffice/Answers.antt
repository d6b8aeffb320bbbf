use Rattle.std.proofs.Common.{ap}
use Rattle.hera_guard.specs.Guards.{first}
use Rattle.hera_guard.proofs.Added.{added_suffice}
use Rattle.hera_guard.proofs.laws.added_rows_suffice.Goals as goal

pub returns-clause-all : goal.returns-clause-all
returns-clause-all c = added_suffice

pub returns-clause-first : goal.returns-clause-first
returns-clause-first c = λ hosts guards rels s d valid delta none. ap first (added_suffice hosts guards rels s d valid delta none)
