use Rattle.std.proofs.Common.{◌∙◌, sym, not}
use Rattle.std.specs.List.{list_all}
use Rattle.std.specs.Prelude.{◌||◌}
use Rattle.hera_sets.specs.Rows.{is_same}
use Rattle.hera_meaning.specs.Scalars.{is_same_kind}
use Rattle.hera_meaning.specs.declared.schemas.Attr.{Attr}
use Rattle.hera_types_parts.proofs.Equal.{all_stop, all_turn}
use Rattle.hera_types_algebra.proofs.set_operators.agree.Goals as goal

pub returns-then-not-agrees : goal.returns-then-not-agrees
returns-then-not-agrees c =
    all_stop (λ (a : Attr). list_all (λ (b : Attr). not (is_same a.name b.name) || is_same_kind a.kind b.kind) c.args.right.now) c.args.left.now c.loop-i.i _ c.attr.ensures.attr
    (sym c.agrees.ensures ∙ c.if-not-agrees.true) c.loop-i.invariant

pub loop-i-preserved : goal.loop-i-preserved
loop-i-preserved c =
    all_turn (λ (a : Attr). list_all (λ (b : Attr). not (is_same a.name b.name) || is_same_kind a.kind b.kind) c.args.right.now) c.args.left.now c.loop-i.i _ c.attr.ensures.attr
    (sym c.agrees.ensures ∙ c.if-not-agrees.false) c.loop-i.invariant
