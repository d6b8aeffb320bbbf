use Rattle.std.proofs.Common.{◌≤◌, List, ℕ, length, sym, subst}
use Rattle.hera_outcome.specs.Passages.{passage}
use Rattle.hera_packed.specs.Executed.{code_limit}
use Rattle.hera_words.specs.declared.command.Command.TheVariants.{Exec}
use Rattle.hera_top.specs.Coding.{no_code, too_much_code, has_code}
use Rattle.hera_top.specs.Sources.{seen, IsRead}
use Rattle.hera_top.proofs.Reading.{missing_apart, without_bytes, with_bytes}
use Rattle.hera_top.proofs.coding.exec_source.Goals as goal

pub returns-in_err-bytes-clause-answered : goal.returns-in_err-bytes-clause-answered
returns-in_err-bytes-clause-answered g c = λ name.
    let before = seen g.S.Source.left g.S.Source.faults c.args.source.now in
    let now = seen g.S.Source.left g.S.Source.faults c.read_source.new.source in
    without_bytes code_limit before now g.W.Output g.W.Outside c.args.outside.now c.args.hosts.now.names name (Exec c.args.turns) c.from_residual.result c.in_err-bytes.field-0.0 c.from_residual.ensures.1 c.in_err-bytes.ensures.missing c.read_source.ensures.later
    (λ it. no_code it) (λ bytes read long. too_much_code bytes read long)

pub returns-in_err-bytes-clause-apart : goal.returns-in_err-bytes-clause-apart
returns-in_err-bytes-clause-apart g c =
    let before = seen g.S.Source.left g.S.Source.faults c.args.source.now in
    let now = seen g.S.Source.left g.S.Source.faults c.read_source.new.source in
    missing_apart code_limit before now g.W.Output g.W.Outside c.args.outside.now c.from_residual.result c.in_err-bytes.field-0.0 c.from_residual.ensures.1 c.in_err-bytes.ensures.missing

pub returns-clause-answered : goal.returns-clause-answered
returns-clause-answered g c = λ name.
    let before = seen g.S.Source.left g.S.Source.faults c.args.source.now in
    let now = seen g.S.Source.left g.S.Source.faults c.read_source.new.source in
    let whole = c.in_ok-bytes.ensures.whole in
    with_bytes code_limit before now c.args.hosts.now.names name (Exec c.args.turns) c.in_ok-bytes.bytes.items _ c.execute.result (passage g.W.Output g.W.Outside c.args.outside.now c.execute.new.outside) whole c.read_source.ensures.later
    (λ o comes. has_code c.deref.result.now (subst (λ (l : List ℕ). IsRead code_limit before now l) (sym c.deref.ensures.value) whole.read) (subst (λ (l : List ℕ). length l ≤ code_limit) (sym c.deref.ensures.value) whole.short) comes) c.execute.ensures.answered

pub returns-clause-apart : goal.returns-clause-apart
returns-clause-apart g c = c.execute.ensures.apart
