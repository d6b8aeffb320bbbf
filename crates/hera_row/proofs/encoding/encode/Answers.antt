use Rattle.std.proofs.Common.{◌≡◌, sym, ap, ◌∙◌, take}
use Rattle.std.specs.List.{list_all}
use Rattle.std.proofs.lemmas.List.{take_all}
use Rattle.hera_meaning.specs.Rows.{row_of}
use Rattle.hera_meaning.specs.Scalars.{is_scalar}
use Rattle.hera_row.proofs.RowLemmas.{length_have_kinds, row_of-more, valid-more, is_tuple_from_kinds}
use Rattle.hera_row.proofs.encoding.encode.Goals as goal

pub prove_eq-unreachable-requires : goal.prove_eq-unreachable-requires
prove_eq-unreachable-requires c = c.if-prove_eq.true (c.len.ensures.count ∙ length_have_kinds c.args.schema.now c.args.fields.now c.requires)

pub loop-field-preserved : goal.loop-field-preserved
loop-field-preserved c =
    record {
      row = row_of-more c.args.fields.now c.loop-field.field-index c.field-item.result c.loop-field.row.items c.push_field.new.row.items c.loop-field-test.true c.field-item.is c.loop-field.invariant.row c.in_ok-push_field.ensures.ok;
      valid = valid-more c.args.fields.now c.loop-field.field-index c.field-item.result c.loop-field-test.true c.field-item.is c.loop-field.invariant.valid c.in_ok-push_field.ensures.valid;
    }

pub returns-clause-valid : goal.returns-clause-valid
returns-clause-valid c =
    let whole : take c.loop-field.field-index c.args.fields.now ≡ c.args.fields.now = take_all c.loop-field.field-index c.args.fields.now c.loop-field-test.false in (
      c.args.fields.now,
      is_tuple_from_kinds c.args.schema.now c.args.fields.now c.requires (ap (list_all is_scalar) (sym whole) ∙ c.loop-field.invariant.valid),
      ap row_of (sym whole) ∙ sym c.loop-field.invariant.row ∙ sym c.from_vec.ensures,
    )
