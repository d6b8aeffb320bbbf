use Rattle.std.proofs.Common.{ap, Err}
use Rattle.hera_outcome.specs.Passages.{passage}
use Rattle.hera_outcome.proofs.Passing.{answered_weaker}
use Rattle.hera_top.specs.Guarding.{refuses, performs}
use Rattle.hera_top.proofs.Reading.{fault_answered}
use Rattle.hera_top.proofs.guard.guard_script.Goals as goal

pub returns-in_err-program : goal.returns-in_err-program
returns-in_err-program g c = record {
  answered = fault_answered g.W.Output g.W.Outside c.args.outside.now _ c.from_residual.result c.in_err-program.field-0.0 c.from_residual.ensures.1 (λ cause at is. refuses (c.in_err-program.ensures.refused cause at (ap Err is)));
}

pub returns : goal.returns
returns g c = record {
  answered = answered_weaker _ _ c.guard_in_folder.result (passage g.W.Output g.W.Outside c.args.outside.now c.guard_in_folder.new.outside) (λ o comes. performs c.requires.short c.in_ok-program.ensures.accepted comes) c.guard_in_folder.ensures.answered;
}
