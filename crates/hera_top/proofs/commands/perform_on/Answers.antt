use Rattle.std.proofs.Common.{refl, sym, subst}
use Rattle.hera_meaning.specs.Catalogues.{IsCatalogue}
use Rattle.hera_meaning.specs.Plain.{program_of}
use Rattle.hera_outcome.specs.Outcomes.{prints}
use Rattle.hera_outcome.proofs.Passing.{pending_none, tell_answered, says_no_device}
use Rattle.hera_words.specs.declared.command.Command.TheVariants as commands
use Rattle.hera_top.specs.Commands.{checks}
use Rattle.hera_top.proofs.Answering.{same_performed, made_answers, widened_answers, has_folder}
use Rattle.hera_top.proofs.commands.perform_on.Goals as goal

pub returns-in-Check-clause-answered : goal.returns-in-Check-clause-answered
returns-in-Check-clause-answered g c =
    same_performed c.args.hosts.now.names (program_of c.args.program.now) commands.Check c.args.command _ _ (sym c.in-Check.is)
    (tell_answered g.W.Output g.W.Outside c.args.outside.now c.args.outside.now (pending_none g.W.Output g.W.Outside c.args.outside.now) _ (prints _) c.tell.new.outside _ c.tell.result tt refl refl checks c.tell.ensures.said c.tell.ensures.done)

pub returns-in-Check-clause-apart : goal.returns-in-Check-clause-apart
returns-in-Check-clause-apart g c = λ none. record { keeps = c.tell.ensures.said.keeps; no_device = says_no_device _ c.tell.result _ c.tell.ensures.said }

pub returns-in-List-clause-answered : goal.returns-in-List-clause-answered
returns-in-List-clause-answered g c = same_performed c.args.hosts.now.names (program_of c.args.program.now) commands.List c.args.command _ _ (sym c.in-List.is) c.list.ensures.answered

pub returns-in-List-clause-apart : goal.returns-in-List-clause-apart
returns-in-List-clause-apart g c = λ none. c.list.ensures.apart

pub returns-in-Eval-clause-answered : goal.returns-in-Eval-clause-answered
returns-in-Eval-clause-answered g c = same_performed c.args.hosts.now.names (program_of c.args.program.now) (commands.Eval c.in-Eval.turns) c.args.command _ _ (sym c.in-Eval.is) c.eval.ensures.answered

pub returns-in-Eval-clause-apart : goal.returns-in-Eval-clause-apart
returns-in-Eval-clause-apart g c = λ none. c.eval.ensures.apart

pub init-requires : goal.init-requires
init-requires g c = subst IsCatalogue (sym c.deref.ensures.value) c.requires.sound.shaped.relations

pub returns-in-Init-clause-answered : goal.returns-in-Init-clause-answered
returns-in-Init-clause-answered g c =
    same_performed c.args.hosts.now.names (program_of c.args.program.now) commands.Init c.args.command _ _ (sym c.in-Init.is)
    (made_answers c.args.hosts.now.names (program_of c.args.program.now) _ _ _ c.deref.ensures.value c.init.ensures.answered)

pub returns-in-Init-clause-apart : goal.returns-in-Init-clause-apart
returns-in-Init-clause-apart g c = λ none. absurd (has_folder commands.Init c.args.command (sym c.in-Init.is) refl none)

pub widen-requires : goal.widen-requires
widen-requires g c = subst IsCatalogue (sym c.deref-in-Widen.ensures.value) c.requires.sound.shaped.relations

pub returns-in-Widen-clause-answered : goal.returns-in-Widen-clause-answered
returns-in-Widen-clause-answered g c =
    same_performed c.args.hosts.now.names (program_of c.args.program.now) commands.Widen c.args.command _ _ (sym c.in-Widen.is)
    (widened_answers c.args.hosts.now.names (program_of c.args.program.now) _ _ _ c.deref-in-Widen.ensures.value c.widen.ensures.answered)

pub returns-in-Widen-clause-apart : goal.returns-in-Widen-clause-apart
returns-in-Widen-clause-apart g c = λ none. absurd (has_folder commands.Widen c.args.command (sym c.in-Widen.is) refl none)
