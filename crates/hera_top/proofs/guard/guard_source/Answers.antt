use Rattle.std.proofs.Common.{inl, sym, subst, List, ℕ}
use Rattle.hera_syntax.specs.Tokens.{script_limit}
use Rattle.hera_script.specs.Refusing.{too_long}
use Rattle.hera_outcome.specs.Passages.{passage}
use Rattle.hera_outcome.proofs.Passing.{answered_weaker}
use Rattle.hera_top.specs.Guarding.{misses_script, reads_script, refuses}
use Rattle.hera_top.specs.Sources.{Seen, seen, IsRead}
use Rattle.hera_top.proofs.Reading.{missing_answered, missing_still}
use Rattle.hera_top.proofs.guard.guard_source.Goals as goal

pub returns-in_err-script : goal.returns-in_err-script
returns-in_err-script g c =
    let before : Seen = seen g.S.Source.left g.S.Source.faults c.args.source.now in
    let now : Seen = seen g.S.Source.left g.S.Source.faults c.read_source.new.source in
    let r = c.from_residual.result in
    let missing = c.in_err-script.ensures.missing in
    record {
      answered = record {
        answered = missing_answered script_limit before now g.W.Output g.W.Outside c.args.outside.now _ r c.in_err-script.field-0.0 c.from_residual.ensures.1 missing
            (λ it. misses_script it) (λ bytes read long. reads_script bytes read (refuses (too_long long)));
        still = missing_still script_limit before now r c.in_err-script.field-0.0 c.from_residual.ensures.1 missing;
        later = c.read_source.ensures.later;
      };
    }

pub returns : goal.returns
returns g c =
    let before : Seen = seen g.S.Source.left g.S.Source.faults c.args.source.now in
    let now : Seen = seen g.S.Source.left g.S.Source.faults c.read_source.new.source in
    let whole = c.in_ok-script.ensures.whole in
    record {
      answered = record {
        answered = answered_weaker _ _ c.guard_script.result (passage g.W.Output g.W.Outside c.args.outside.now c.guard_script.new.outside)
            (λ o comes. reads_script c.deref.result.now (subst (λ (l : List ℕ). IsRead script_limit before now l) (sym c.deref.ensures.value) whole.read) comes) c.guard_script.ensures.answered;
        still = inl whole.read.still;
        later = c.read_source.ensures.later;
      };
    }
