use Rattle.std.proofs.Common.{refl, sym}
use Rattle.hera_outcome.specs.Outcomes.{prints}
use Rattle.hera_outcome.proofs.Passing.{pending_none, no_memory_answered, tell_answered, says_no_device}
use Rattle.hera_top.specs.Coding.{prints_pack}
use Rattle.hera_top.proofs.Reading.{no_memory_apart}
use Rattle.hera_top.proofs.coding.print_pack.Goals as goal

pub returns-in_err-text-clause-answered : goal.returns-in_err-text-clause-answered
returns-in_err-text-clause-answered g c = no_memory_answered g.W.Output g.W.Outside c.args.outside.now _ c.from_residual.result c.from_residual.ensures.1

pub returns-in_err-text-clause-apart : goal.returns-in_err-text-clause-apart
returns-in_err-text-clause-apart g c = no_memory_apart g.W.Output g.W.Outside c.args.outside.now c.from_residual.result c.from_residual.ensures.1

pub returns-clause-answered : goal.returns-clause-answered
returns-clause-answered g c =
    tell_answered g.W.Output g.W.Outside c.args.outside.now c.args.outside.now (pending_none g.W.Output g.W.Outside c.args.outside.now) _ (prints c.in_ok-text.text) c.tell.new.outside _ c.tell.result tt
    (sym c.bytes.ensures) refl (prints_pack c.in_ok-text.ensures.packed) c.tell.ensures.said c.tell.ensures.done

pub returns-clause-apart : goal.returns-clause-apart
returns-clause-apart g c = record { keeps = c.tell.ensures.said.keeps; no_device = says_no_device _ c.tell.result _ c.tell.ensures.said }
