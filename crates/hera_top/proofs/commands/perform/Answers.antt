use Rattle.std.proofs.Common.{sym, refl}
use Rattle.hera_meaning.specs.Plain.{program_of}
use Rattle.hera_outcome.specs.Passages.{passage}
use Rattle.hera_words.specs.declared.command.Command.TheVariants.{Run}
use Rattle.hera_top.proofs.Answering.{ran_answered, has_folder}
use Rattle.hera_top.proofs.commands.perform.Goals as goal

pub returns-in-Run-clause-answered : goal.returns-in-Run-clause-answered
returns-in-Run-clause-answered g c =
    ran_answered c.args.hosts.now.names (program_of c.args.program) c.args.command c.in-Run.turns (passage g.W.Output g.W.Outside c.args.outside.now c.run_in_folder.new.outside) c.run_in_folder.result c.in-Run.is c.run_in_folder.ensures.answered

pub returns-in-Run-clause-apart : goal.returns-in-Run-clause-apart
returns-in-Run-clause-apart g c = λ none. absurd (has_folder (Run c.in-Run.turns) c.args.command (sym c.in-Run.is) refl none)
