use Rattle.std.proofs.Common.{ap, Err}
use Rattle.hera_outcome.specs.Passages.{passage}
use Rattle.hera_outcome.proofs.Passing.{answered_weaker}
use Rattle.hera_top.specs.Coding.{refuses_pack, packs}
use Rattle.hera_top.proofs.Reading.{fault_answered, fault_apart}
use Rattle.hera_top.proofs.coding.pack.Goals as goal

pub returns-in_err-tree-clause-answered : goal.returns-in_err-tree-clause-answered
returns-in_err-tree-clause-answered g c =
    fault_answered g.W.Output g.W.Outside c.args.outside.now _ c.from_residual.result c.in_err-tree.field-0.0 c.from_residual.ensures.1 (λ cause at is. refuses_pack (c.in_err-tree.ensures.refused cause at (ap Err is)))

pub returns-in_err-tree-clause-apart : goal.returns-in_err-tree-clause-apart
returns-in_err-tree-clause-apart g c = fault_apart g.W.Output g.W.Outside c.args.outside.now c.from_residual.result c.in_err-tree.field-0.0 c.from_residual.ensures.1

pub returns-clause-answered : goal.returns-clause-answered
returns-clause-answered g c =
    answered_weaker _ _ c.print_pack.result (passage g.W.Output g.W.Outside c.args.outside.now c.print_pack.new.outside) (λ o comes. packs c.requires.short c.in_ok-tree.ensures.accepted comes) c.print_pack.ensures.answered

pub returns-clause-apart : goal.returns-clause-apart
returns-clause-apart g c = c.print_pack.ensures.apart
