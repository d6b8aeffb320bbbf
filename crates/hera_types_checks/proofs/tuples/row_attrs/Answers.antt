use Rattle.std.proofs.Common.{◌∙◌, sym, ap, ◌<◌, length, arith, inl, inr}
use Rattle.hera_rules.specs.declared.words.Word.{Word}
use Rattle.hera_rules.specs.declared.env.Typed.{Typed}
use Rattle.hera_rules.specs.Rules.{scalar_kind}
use Rattle.hera_types_parts.proofs.Equal.{attrs_whole}
use Rattle.hera_types_checks.proofs.Attributes.{attrs_turn}
use Rattle.hera_types_checks.proofs.tuples.row_attrs.Goals as goal

pub loop-i-preserved : goal.loop-i-preserved
loop-i-preserved c =
    let lw : c.loop-i.i < length c.args.words.now = omega arith in
    let lv : c.loop-i.i < length c.args.values.now = omega arith in
    attrs_turn c.args.words.now c.args.values.now c.loop-i.i c.index-words-i.result c.index-values-i.result lw c.index-words-i.is lv c.index-values-i.is
    (c.in_ok-name.ensures ∙ ap (λ (w : Word). w.name) (sym c.index-words-i.is))
    (c.kind_of_shape-kind.ensures ∙ ap (λ (v : Typed). scalar_kind v.shape) (sym c.index-values-i.is)) c.in_ok-put.ensures c.loop-i.invariant

pub returns-then-i-values : goal.returns-then-i-values
returns-then-i-values c = c.loop-i.invariant ∙ attrs_whole c.args.words.now c.args.values.now c.loop-i.i (inr (omega arith))

pub returns : goal.returns
returns c = c.loop-i.invariant ∙ attrs_whole c.args.words.now c.args.values.now c.loop-i.i (inl (omega arith))
