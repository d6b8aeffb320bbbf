use Rattle.std.proofs.Common.{◌∙◌, sym, ap}
use Rattle.hera_reads.specs.Walking.{past_first}
use Rattle.hera_reads.proofs.Passing.{own_tried}
use Rattle.hera_reads.proofs.walks.Walk.pass.Goals as goal

pub returns-then-has_passed-clause-past : goal.returns-then-has_passed-clause-past
returns-then-has_passed-clause-past c =
    own_tried c.self.inside.ahead c.self.inside.source c.pass.new.self c.self.inside.gathered c.pass.result (sym c.has_passed.ensures ∙ c.if-has_passed.true) c.pass.ensures.found c.pass.ensures.past c.pass.ensures.kept
    ∙ ap past_first c.self.view_is
