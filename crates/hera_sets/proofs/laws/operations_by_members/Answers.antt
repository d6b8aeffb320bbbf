use Rattle.std.proofs.Common.{not}
use Rattle.hera_sets.specs.Rows.{is_same}
use Rattle.hera_sets.proofs.Members.{holds-put, holds-filter, holds-union, holds-minus, holds-inter}
use Rattle.hera_sets.proofs.laws.operations_by_members.Goals as goal

pub returns-clause-put_in : goal.returns-clause-put_in
returns-clause-put_in c = holds-put

pub returns-clause-taken_out : goal.returns-clause-taken_out
returns-clause-taken_out c = λ x xs q. holds-filter (λ y. not (is_same x y)) xs q

pub returns-clause-union : goal.returns-clause-union
returns-clause-union c = holds-union

pub returns-clause-minus : goal.returns-clause-minus
returns-clause-minus c = holds-minus

pub returns-clause-inter : goal.returns-clause-inter
returns-clause-inter c = holds-inter
