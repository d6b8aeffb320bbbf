use Rattle.std.proofs.Common.{List, subst}
use Rattle.hera_meaning.specs.declared.schemas.RelDecl.{RelDecl}
use Rattle.hera_outcome.specs.Passages.{passage, start}
use Rattle.hera_outcome.specs.Told.{Answered}
use Rattle.hera_outcome.proofs.Passing.{no_memory_answered}
use Rattle.hera_top.specs.Commands.{IsMade}
use Rattle.hera_top.proofs.commands.init.Goals as goal

pub returns-in_err-catalogue : goal.returns-in_err-catalogue
returns-in_err-catalogue g c = record { answered = no_memory_answered g.W.Output g.W.Outside c.args.outside.now _ c.from_residual.result c.from_residual.ensures.1 }

pub returns : goal.returns
returns g c =
    let v = passage g.W.Output g.W.Outside c.args.outside.now c.make_from.new.outside in
    record { answered = subst (λ (rels : List RelDecl). Answered (IsMade rels (start g.W.Outside c.args.outside.now)) c.make_from.result v) c.in_ok-catalogue.ensures c.make_from.ensures.answered }
