use Rattle.std.proofs.Common.{Result, map}
use Rattle.hera_meaning.specs.Plain.{program_of}
use Rattle.hera_outcome.specs.declared.answer.Ending.{Ending}
use Rattle.hera_outcome.specs.declared.answer.Stop.{Stop}
use Rattle.hera_outcome.specs.Passages.{passage}
use Rattle.hera_outcome.proofs.Passing.{handed_on}
use Rattle.hera_words.specs.declared.command.Command.TheVariants.{Weave}
use Rattle.hera_top.specs.Commands.{IsAnswered}
use Rattle.hera_top.specs.Sources.{seen_of}
use Rattle.hera_top.proofs.Weaving.{weave_answered, stop_answered}
use Rattle.hera_top.proofs.weaves.weave_sources.Goals as goal

pub returns : goal.returns
returns g c =
    record {
      answered = λ name files. weave_answered c.args.hosts.now.names name c.args.turns c.args.order files (seen_of g.S.Source.left g.S.Source.faults c.args.sources.now.items) (seen_of g.S.Source.left g.S.Source.faults c.read_scripts.new.sources.items)
          (map program_of c.in_ok-programs.programs.items) c.weave_in_folder.result (passage g.W.Output g.W.Outside c.args.outside.now c.weave_in_folder.new.outside) c.in_ok-programs.ensures.read c.weave_in_folder.ensures.answered;
      unread = c.read_scripts.ensures.unread;
    }

pub returns-in_err-programs : goal.returns-in_err-programs
returns-in_err-programs g c =
    let a = c.args.outside.now in
    let before = seen_of g.S.Source.left g.S.Source.faults c.args.sources.now.items in
    let now = seen_of g.S.Source.left g.S.Source.faults c.read_scripts.new.sources.items in
    let stop = c.in_err-programs.field-0.0 in
    record {
      answered = λ name files. handed_on (λ (r : Result Ending Stop). IsAnswered c.args.hosts.now.names name (Weave c.args.turns c.args.order files) before now r (passage g.W.Output g.W.Outside a a)) c.from_residual.result stop c.from_residual.ensures.1
          (stop_answered c.args.hosts.now.names name c.args.turns c.args.order files before now g.W.Output g.W.Outside a stop c.in_err-programs.ensures.stopped c.read_scripts.ensures.later);
      unread = c.read_scripts.ensures.unread;
    }
