use Rattle.std.proofs.Common.{◌∙◌, ap, sym, ◌<◌, length, arith}
use Rattle.hera_meaning.specs.declared.schemas.Attr.{Attr}
use Rattle.hera_rules.specs.declared.env.Typed.{Typed}
use Rattle.hera_rules.specs.Rules.{kind_type}
use Rattle.hera_rules.specs.Same.{same_shape}
use Rattle.hera_types_parts.proofs.Equal.{shapes_differ, shapes_turn, shapes_stop, get_from}
use Rattle.hera_types_checks.proofs.calls.take_kinds.Goals as goal

pub returns-then-len-values : goal.returns-then-len-values
returns-then-len-values c = shapes_differ (λ (a : Attr). kind_type a.kind) c.args.schema.now c.args.values.now (λ e. c.if-len-values.true (c.len.ensures.count ∙ e))

pub returns-then-not-same_shape : goal.returns-then-not-same_shape
returns-then-not-same_shape c =
    let long = c.loop-i.invariant.long in
    let a = get_from c.args.schema.now c.loop-i.i c.attr.result.now c.attr.ensures.attr in
    let right : c.loop-i.i < length c.args.values.now = omega (arith, a.0) in
    shapes_stop (λ (a : Attr). kind_type a.kind) c.args.schema.now c.args.values.now c.loop-i.i c.attr.result.now c.index-values-i.result a.0 a.1 right c.index-values-i.is
    (ap (λ t. same_shape t c.index-values-i.result.shape) (sym c.type_of_kind.ensures) ∙ ap (λ (y : Typed). same_shape c.type_of_kind.result y.shape) c.index-values-i.is ∙ sym c.same_shape.ensures ∙ c.if-not-same_shape.true) c.loop-i.invariant.equal

pub loop-i-preserved : goal.loop-i-preserved
loop-i-preserved c =
    let long = c.loop-i.invariant.long in
    let a = get_from c.args.schema.now c.loop-i.i c.attr.result.now c.attr.ensures.attr in
    let right : c.loop-i.i < length c.args.values.now = omega (arith, a.0) in
    record {
      equal = shapes_turn (λ (a : Attr). kind_type a.kind) c.args.schema.now c.args.values.now c.loop-i.i c.attr.result.now c.index-values-i.result a.0 a.1 right c.index-values-i.is
          (ap (λ t. same_shape t c.index-values-i.result.shape) (sym c.type_of_kind.ensures) ∙ ap (λ (y : Typed). same_shape c.type_of_kind.result y.shape) c.index-values-i.is ∙ sym c.same_shape.ensures ∙ c.if-not-same_shape.false) c.loop-i.invariant.equal;
      long = c.loop-i.invariant.long;
    }
