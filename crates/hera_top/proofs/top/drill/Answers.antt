use Rattle.std.proofs.Common.{◌≤◌, ◌∙◌, subst, sym, refl, List, ℕ, length}
use Rattle.hera_syntax.specs.Tokens.{script_limit}
use Rattle.hera_outcome.specs.Passages.{passage, start}
use Rattle.hera_outcome.specs.Told.{Answered}
use Rattle.hera_outcome.proofs.Passing.{no_memory_answered}
use Rattle.hera_words.specs.declared.command.Command.TheVariants.{Eval}
use Rattle.hera_top.specs.Commands.{ComesToFor}
use Rattle.hera_top.specs.Drill.{drill_turns}
use Rattle.hera_top.proofs.Reading.{no_memory_apart}
use Rattle.hera_top.proofs.top.drill.Goals as goal

pub returns-in_err-text-clause-answered : goal.returns-in_err-text-clause-answered
returns-in_err-text-clause-answered g c = no_memory_answered g.W.Output g.W.Outside c.args.outside.now _ c.from_residual.result c.from_residual.ensures.1

pub returns-in_err-text-clause-apart : goal.returns-in_err-text-clause-apart
returns-in_err-text-clause-apart g c = no_memory_apart g.W.Output g.W.Outside c.args.outside.now c.from_residual.result c.from_residual.ensures.1

pub answer_script-requires : goal.answer_script-requires
answer_script-requires g c = record { reads = tt; short = subst (λ (l : List ℕ). length l ≤ script_limit) (sym c.deref.ensures.value) c.in_ok-text.ensures.short }

pub returns-clause-answered : goal.returns-clause-answered
returns-clause-answered g c =
    let v = passage g.W.Output g.W.Outside c.args.outside.now c.answer_script.new.outside in
    subst (λ (l : List ℕ). Answered (ComesToFor c.args.hosts.now.names l (start g.W.Outside c.args.outside.now) (Eval drill_turns)) c.answer_script.result v)
    (c.deref.ensures.value ∙ c.in_ok-text.ensures.text) c.answer_script.ensures.answered

pub returns-clause-apart : goal.returns-clause-apart
returns-clause-apart g c = c.answer_script.ensures.apart refl
