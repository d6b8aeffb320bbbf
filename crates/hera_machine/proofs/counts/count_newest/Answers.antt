use Rattle.std.proofs.Common.{◌∙◌, ap}
use Rattle.hera_code.specs.Machine.{quiet}
use Rattle.hera_machine.proofs.Joined.{quietly_told}
use Rattle.hera_machine.proofs.counts.count_newest.Goals as goal

pub returns-clause-done : goal.returns-clause-done
returns-clause-done c = λ done.
    let s = c.args.stored.now.state in
    ap quiet (quietly_told s c.in-Ok.field-0 c.answer.new.self _ (c.in-Ok.ensures.step s)) ∙ c.in-Some.ensures.found c.args.at
