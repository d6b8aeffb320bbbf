use Rattle.std.proofs.Common.{◌≡◌, ap, ◌∙◌, sym, ◌<◌, length, arith}
use Rattle.hera_rules.specs.declared.env.Local.{Local}
use Rattle.hera_rules.specs.declared.env.Typed.{Typed}
use Rattle.hera_rules.specs.Same.{same_shape}
use Rattle.hera_types_parts.proofs.Equal.{shapes_differ, shapes_turn, shapes_stop}
use Rattle.hera_types_checks.proofs.calls.take_params.Goals as goal

shapes_read : (a a' : Local) (b b' : Typed) → a ≡ a' → b ≡ b' → same_shape a.shape b.shape ≡ same_shape a'.shape b'.shape
shapes_read a a' b b' e f = ap (λ (x : Local). same_shape x.shape b.shape) e ∙ ap (λ (y : Typed). same_shape a'.shape y.shape) f

pub returns-then-params-values : goal.returns-then-params-values
returns-then-params-values c = shapes_differ (λ (l : Local). l.shape) c.args.params.now c.args.values.now (λ e. c.if-params-values.true e)

pub returns-then-not-same_shape : goal.returns-then-not-same_shape
returns-then-not-same_shape c =
    let long = c.loop-i.invariant.long in
    let left : c.loop-i.i < length c.args.params.now = omega arith in
    let right : c.loop-i.i < length c.args.values.now = omega arith in
    shapes_stop (λ (l : Local). l.shape) c.args.params.now c.args.values.now c.loop-i.i c.index-params-i.result c.index-values-i.result left c.index-params-i.is right c.index-values-i.is
    (shapes_read _ _ _ _ c.index-params-i.is c.index-values-i.is ∙ sym c.same_shape.ensures ∙ c.if-not-same_shape.true) c.loop-i.invariant.equal

pub loop-i-preserved : goal.loop-i-preserved
loop-i-preserved c =
    let long = c.loop-i.invariant.long in
    let left : c.loop-i.i < length c.args.params.now = omega arith in
    let right : c.loop-i.i < length c.args.values.now = omega arith in
    record {
      equal = shapes_turn (λ (l : Local). l.shape) c.args.params.now c.args.values.now c.loop-i.i c.index-params-i.result c.index-values-i.result left c.index-params-i.is right c.index-values-i.is
          (shapes_read _ _ _ _ c.index-params-i.is c.index-values-i.is ∙ sym c.same_shape.ensures ∙ c.if-not-same_shape.false) c.loop-i.invariant.equal;
      long = c.loop-i.invariant.long;
    }
