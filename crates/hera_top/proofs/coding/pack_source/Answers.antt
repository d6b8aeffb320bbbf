use Rattle.std.proofs.Common.{List, ℕ, sym, subst}
use Rattle.hera_script.specs.Refusing.{too_long}
use Rattle.hera_syntax.specs.Tokens.{script_limit}
use Rattle.hera_outcome.specs.Passages.{passage}
use Rattle.hera_words.specs.declared.command.Command.TheVariants.{Pack}
use Rattle.hera_top.specs.Coding.{no_script, has_script, refuses_pack}
use Rattle.hera_top.specs.Sources.{seen, IsRead}
use Rattle.hera_top.proofs.Reading.{missing_apart, without_bytes, with_bytes}
use Rattle.hera_top.proofs.coding.pack_source.Goals as goal

pub returns-in_err-script-clause-answered : goal.returns-in_err-script-clause-answered
returns-in_err-script-clause-answered g c = λ name.
    let before = seen g.S.Source.left g.S.Source.faults c.args.source.now in
    let now = seen g.S.Source.left g.S.Source.faults c.read_source.new.source in
    without_bytes script_limit before now g.W.Output g.W.Outside c.args.outside.now c.args.hosts.now.names name Pack c.from_residual.result c.in_err-script.field-0.0 c.from_residual.ensures.1 c.in_err-script.ensures.missing c.read_source.ensures.later
    (λ it. no_script it) (λ bytes read long. has_script bytes read (refuses_pack (too_long long)))

pub returns-in_err-script-clause-apart : goal.returns-in_err-script-clause-apart
returns-in_err-script-clause-apart g c =
    let before = seen g.S.Source.left g.S.Source.faults c.args.source.now in
    let now = seen g.S.Source.left g.S.Source.faults c.read_source.new.source in
    missing_apart script_limit before now g.W.Output g.W.Outside c.args.outside.now c.from_residual.result c.in_err-script.field-0.0 c.from_residual.ensures.1 c.in_err-script.ensures.missing

pub returns-clause-answered : goal.returns-clause-answered
returns-clause-answered g c = λ name.
    let before = seen g.S.Source.left g.S.Source.faults c.args.source.now in
    let now = seen g.S.Source.left g.S.Source.faults c.read_source.new.source in
    let whole = c.in_ok-script.ensures.whole in
    with_bytes script_limit before now c.args.hosts.now.names name Pack c.in_ok-script.script.items _ c.pack.result (passage g.W.Output g.W.Outside c.args.outside.now c.pack.new.outside) whole c.read_source.ensures.later
    (λ o comes. has_script c.deref.result.now (subst (λ (l : List ℕ). IsRead script_limit before now l) (sym c.deref.ensures.value) whole.read) comes) c.pack.ensures.answered

pub returns-clause-apart : goal.returns-clause-apart
returns-clause-apart g c = c.pack.ensures.apart
