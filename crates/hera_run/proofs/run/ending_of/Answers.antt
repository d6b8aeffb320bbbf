use Rattle.std.proofs.Common.{◌≡◌, ap, sym, ◌∙◌}
use Rattle.hera_steps.specs.declared.events.End.{End}
use Rattle.hera_steps.specs.Telling.{stop_of}
use Rattle.hera_run.specs.declared.run.Close.TheVariants.{Ends}
use Rattle.hera_run.proofs.run.ending_of.Goals as goal

same_end : (a b : End) → Ends a ≡ Ends b → a ≡ b
same_end a b is = cc (is)

pub ending_by-requires : goal.ending_by-requires
ending_by-requires c = λ stuck. c.requires.stuck (c.in-Ends.is ∙ ap Ends stuck)

pub unreachable-requires : goal.unreachable-requires
unreachable-requires c = c.requires.refused c.in-Refused.is

pub returns : goal.returns
returns c = λ end finish is stop. c.ending_by.ensures finish (ap stop_of (same_end c.in-Ends.end end (sym c.in-Ends.is ∙ is)) ∙ stop)
