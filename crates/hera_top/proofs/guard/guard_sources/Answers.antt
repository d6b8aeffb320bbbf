use Rattle.std.proofs.Common.{Result}
use Rattle.std.specs.Prelude.{slice_set}
use Rattle.hera_outcome.specs.declared.answer.Ending.{Ending}
use Rattle.hera_outcome.specs.declared.answer.Stop.{Stop}
use Rattle.hera_outcome.specs.Passages.{passage}
use Rattle.hera_outcome.proofs.Passing.{handed_on}
use Rattle.hera_words.specs.declared.command.Command.TheVariants.{Guard}
use Rattle.hera_top.specs.Commands.{IsAnswered}
use Rattle.hera_top.specs.Sources.{seen_of}
use Rattle.hera_top.proofs.Guarding.{both_read, rules_alone}
use Rattle.hera_top.proofs.guard.guard_sources.Goals as goal

pub returns : goal.returns
returns g c = record {
  answered = λ name. both_read c.args.hosts.now.names name c.args.turns g.S.Source.left g.S.Source.faults c.args.sources.now.items c.index_mut.result.now c.lines_of.new.source c.index_mut-2.result.now c.guard_source.new.source c.in_ok-lines.lines c.guard_source.result (passage g.W.Output g.W.Outside c.args.outside.now c.guard_source.new.outside) c.requires.both c.index_mut.ensures.value c.index_mut-2.ensures.value c.in_ok-lines.ensures.lines c.lines_of.ensures.later c.guard_source.ensures.answered;
}

pub returns-in_err-lines : goal.returns-in_err-lines
returns-in_err-lines g c =
    let a = c.args.outside.now in
    let items = c.args.sources.now.items in
    let new = c.lines_of.new.source in
    let stop = c.in_err-lines.field-0.0 in
    record {
      answered = λ name. handed_on (λ (r : Result Ending Stop). IsAnswered c.args.hosts.now.names name (Guard c.args.turns) (seen_of g.S.Source.left g.S.Source.faults items) (seen_of g.S.Source.left g.S.Source.faults (slice_set items 0 new)) r (passage g.W.Output g.W.Outside a a)) c.from_residual.result stop c.from_residual.ensures.1
          (rules_alone c.args.hosts.now.names name c.args.turns g.S.Source.left g.S.Source.faults g.W.Output g.W.Outside a items c.index_mut.result.now new stop c.requires.both c.index_mut.ensures.value c.in_err-lines.ensures.none c.lines_of.ensures.later);
    }
