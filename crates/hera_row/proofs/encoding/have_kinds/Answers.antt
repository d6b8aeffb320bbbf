use Rattle.std.proofs.Common.{◌+◌, ◌&&◌, sym, ap, ◌∙◌, drop}
use Rattle.hera_row.specs.Fields.{have_kinds}
use Rattle.hera_row.proofs.RowLemmas.{have_kinds-length, have_kinds-at}
use Rattle.hera_row.proofs.encoding.have_kinds.Goals as goal

pub returns-then-len-fields : goal.returns-then-len-fields
returns-then-len-fields c = sym (have_kinds-length c.args.schema.now c.args.fields.now (λ e. c.if-len-fields.true (c.len.ensures.count ∙ e)))

pub returns-then-not-is_kind : goal.returns-then-not-is_kind
returns-then-not-is_kind c =
    ap (λ b. b && have_kinds (drop (c.loop-i.i + 1) c.args.schema.now) (drop (c.loop-i.i + 1) c.args.fields.now)) c.if-not-is_kind.ensures
    ∙ sym (have_kinds-at c.args.schema.now c.args.fields.now c.loop-i.i c.attr.result.now c.index-fields-i.result c.attr.ensures.attr c.loop-i-test.true c.index-fields-i.is)
    ∙ c.loop-i.invariant

pub loop-i-preserved : goal.loop-i-preserved
loop-i-preserved c =
    ap (λ b. b && have_kinds (drop (c.loop-i.i + 1) c.args.schema.now) (drop (c.loop-i.i + 1) c.args.fields.now)) c.if-not-is_kind.ensures
    ∙ sym (have_kinds-at c.args.schema.now c.args.fields.now c.loop-i.i c.attr.result.now c.index-fields-i.result c.attr.ensures.attr c.loop-i-test.true c.index-fields-i.is)
    ∙ c.loop-i.invariant
