use Rattle.std.proofs.Common.{sym, subst, List, ℕ}
use Rattle.hera_syntax.specs.Tokens.{script_limit}
use Rattle.hera_outcome.specs.Answers.{stop_of_script}
use Rattle.hera_run.proofs.Results.{err_is}
use Rattle.hera_top.specs.Guarding.{GivesNoLines}
use Rattle.hera_top.specs.Sources.{Seen, seen, IsRead}
use Rattle.hera_top.proofs.Reading.{missing_lines, fault_lines}
use Rattle.hera_top.proofs.guard.lines_of.Goals as goal

pub returns-in_err-rules-clause-none : goal.returns-in_err-rules-clause-none
returns-in_err-rules-clause-none g c =
    let before : Seen = seen g.S.Source.left g.S.Source.faults c.args.source.now in
    let now : Seen = seen g.S.Source.left g.S.Source.faults c.read_source.new.source in
    err_is (GivesNoLines before now) c.from_residual.result c.in_err-rules.field-0.0 c.from_residual.ensures.1 (missing_lines before now _ c.in_err-rules.ensures.missing)

pub returns-in_err-lines-clause-none : goal.returns-in_err-lines-clause-none
returns-in_err-lines-clause-none g c =
    let before : Seen = seen g.S.Source.left g.S.Source.faults c.args.source.now in
    let now : Seen = seen g.S.Source.left g.S.Source.faults c.read_source.new.source in
    let read : IsRead script_limit before now c.deref.result.now = subst (λ (l : List ℕ). IsRead script_limit before now l) (sym c.deref.ensures.value) c.in_ok-rules.ensures.whole.read in
    err_is (GivesNoLines before now) c.from_residual-in_err-lines.result (stop_of_script c.in_err-lines.field-0.0) c.from_residual-in_err-lines.ensures.1 (fault_lines before now c.deref.result.now c.in_err-lines.field-0.0 read c.in_err-lines.ensures.refused)

pub returns-clause-lines : goal.returns-clause-lines
returns-clause-lines g c =
    let before : Seen = seen g.S.Source.left g.S.Source.faults c.args.source.now in
    let now : Seen = seen g.S.Source.left g.S.Source.faults c.read_source.new.source in
    record { rules = c.deref.result.now; read = subst (λ (l : List ℕ). IsRead script_limit before now l) (sym c.deref.ensures.value) c.in_ok-rules.ensures.whole.read; written = c.in_ok-lines.ensures.lines }
