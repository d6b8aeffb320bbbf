use Rattle.std.proofs.Common.{ℕ, List, Err, ap, ◌∙◌}
use Rattle.hera_woven.specs.Binding.{lacks, short}
use Rattle.hera_woven.proofs.binding.bind_one.Goals as goal

pub returns-in-Err-Differs-clause-unbound : goal.returns-in-Err-Differs-clause-unbound
returns-in-Err-Differs-clause-unbound c =
    let name : List ℕ = c.in-Err-Differs.relation in
    lacks {name = name} ((c.bind.ensures.differs name).0 (c.in-Err-Differs.is ∙ ap Err c.in-Err-Differs.field-0-is))

pub returns-in-Err-Memory-clause-unbound : goal.returns-in-Err-Memory-clause-unbound
returns-in-Err-Memory-clause-unbound c = short
