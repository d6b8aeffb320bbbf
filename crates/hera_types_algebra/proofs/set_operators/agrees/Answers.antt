use Rattle.std.proofs.Common.{◌∙◌, sym, not}
use Rattle.std.specs.Prelude.{◌||◌}
use Rattle.hera_sets.specs.Rows.{is_same}
use Rattle.hera_meaning.specs.Scalars.{is_same_kind}
use Rattle.hera_meaning.specs.declared.schemas.Attr.{Attr}
use Rattle.hera_types_parts.proofs.Equal.{all_stop, all_turn}
use Rattle.hera_types_algebra.proofs.set_operators.agrees.Goals as goal

pub returns-then-not-attr_agrees : goal.returns-then-not-attr_agrees
returns-then-not-attr_agrees c =
    all_stop (λ (b : Attr). not (is_same c.args.attr.now.name b.name) || is_same_kind c.args.attr.now.kind b.kind) c.args.right.now c.loop-i.i _ c.attr.ensures.attr
    (sym c.attr_agrees.ensures ∙ c.if-not-attr_agrees.true) c.loop-i.invariant

pub loop-i-preserved : goal.loop-i-preserved
loop-i-preserved c =
    all_turn (λ (b : Attr). not (is_same c.args.attr.now.name b.name) || is_same_kind c.args.attr.now.kind b.kind) c.args.right.now c.loop-i.i _ c.attr.ensures.attr
    (sym c.attr_agrees.ensures ∙ c.if-not-attr_agrees.false) c.loop-i.invariant
