use Rattle.std.proofs.Common.{List, [], ◌∷◌, ℕ, sym, subst}
use Rattle.hera_script.specs.Refusing.{too_long}
use Rattle.hera_script.specs.declared.cause.Cause.TheVariants.{TooLong}
use Rattle.hera_syntax.specs.Tokens.{script_limit}
use Rattle.hera_outcome.specs.declared.refusal.Refusal.TheVariants.{Unread, Script}
use Rattle.hera_outcome.specs.Outcomes.{refused}
use Rattle.hera_outcome.specs.Passages.{passage, start}
use Rattle.hera_top.specs.Commands.{unread, reads, refuses}
use Rattle.hera_top.specs.Sources.{seen, IsRead}
use Rattle.hera_top.proofs.Answering.{from_script}
use Rattle.hera_top.proofs.Reading.{missing_apart, without_bytes, with_bytes}
use Rattle.hera_top.proofs.script.answer_source.Goals as goal

pub returns-in_err-script-clause-answered : goal.returns-in_err-script-clause-answered
returns-in_err-script-clause-answered g c = λ name.
    let before = seen g.S.Source.left g.S.Source.faults c.args.source.now in
    let now = seen g.S.Source.left g.S.Source.faults c.read_source.new.source in
    without_bytes script_limit before now g.W.Output g.W.Outside c.args.outside.now c.args.hosts.now.names name c.args.command c.from_residual.result c.in_err-script.field-0.0 c.from_residual.ensures.1 c.in_err-script.ensures.missing c.read_source.ensures.later
    (λ it. from_script c.args.hosts.now.names name (before ∷ []) (now ∷ []) (start g.W.Outside c.args.outside.now) c.args.command (refused Unread) c.requires.reads (unread it))
    (λ bytes read long. from_script c.args.hosts.now.names name (before ∷ []) (now ∷ []) (start g.W.Outside c.args.outside.now) c.args.command (refused (Script TooLong script_limit)) c.requires.reads (reads bytes read (refuses (too_long long))))

pub returns-in_err-script-clause-apart : goal.returns-in_err-script-clause-apart
returns-in_err-script-clause-apart g c = λ none.
    let before = seen g.S.Source.left g.S.Source.faults c.args.source.now in
    let now = seen g.S.Source.left g.S.Source.faults c.read_source.new.source in
    missing_apart script_limit before now g.W.Output g.W.Outside c.args.outside.now c.from_residual.result c.in_err-script.field-0.0 c.from_residual.ensures.1 c.in_err-script.ensures.missing

pub returns-clause-answered : goal.returns-clause-answered
returns-clause-answered g c = λ name.
    let before = seen g.S.Source.left g.S.Source.faults c.args.source.now in
    let now = seen g.S.Source.left g.S.Source.faults c.read_source.new.source in
    let whole = c.in_ok-script.ensures.whole in
    with_bytes script_limit before now c.args.hosts.now.names name c.args.command c.in_ok-script.script.items _ c.answer_script.result (passage g.W.Output g.W.Outside c.args.outside.now c.answer_script.new.outside) whole c.read_source.ensures.later
    (λ o comes. from_script c.args.hosts.now.names name (before ∷ []) (now ∷ []) (start g.W.Outside c.args.outside.now) c.args.command o c.requires.reads
    (reads c.deref.result.now (subst (λ (l : List ℕ). IsRead script_limit before now l) (sym c.deref.ensures.value) whole.read) comes)) c.answer_script.ensures.answered

pub returns-clause-apart : goal.returns-clause-apart
returns-clause-apart g c = c.answer_script.ensures.apart
