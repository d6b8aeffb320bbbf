use Rattle.hera_outcome.specs.Passages.{passage}
use Rattle.hera_transfer.specs.Transfers.{data_limit}
use Rattle.hera_words.specs.declared.command.Command.TheVariants.{Import}
use Rattle.hera_top.specs.Commands.{misses, is_too_much, takes}
use Rattle.hera_top.specs.Sources.{seen}
use Rattle.hera_top.proofs.Reading.{without_bytes, with_bytes}
use Rattle.hera_top.proofs.transfers.import_source.Goals as goal

pub returns-in_err-file : goal.returns-in_err-file
returns-in_err-file g c =
    let before = seen g.S.Source.left g.S.Source.faults c.args.source.now in
    let now = seen g.S.Source.left g.S.Source.faults c.read_source.new.source in
    record {
      answered = λ hosts. without_bytes data_limit before now g.W.Output g.W.Outside c.args.outside.now hosts c.args.name.now Import c.from_residual.result c.in_err-file.field-0.0 c.from_residual.ensures.1 c.in_err-file.ensures.missing c.read_source.ensures.later
          (λ it. misses it) (λ bytes read long. is_too_much bytes read long);
    }

pub returns : goal.returns
returns g c =
    let before = seen g.S.Source.left g.S.Source.faults c.args.source.now in
    let now = seen g.S.Source.left g.S.Source.faults c.read_source.new.source in
    let whole = c.in_ok-file.ensures.whole in
    record {
      answered = λ hosts. with_bytes data_limit before now hosts c.args.name.now Import c.in_ok-file.file.items _ c.import.result (passage g.W.Output g.W.Outside c.args.outside.now c.import.new.outside) whole c.read_source.ensures.later
          (λ o comes. takes c.in_ok-file.file.items whole.read whole.short comes) c.import.ensures.answered;
    }
