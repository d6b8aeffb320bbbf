use Rattle.std.proofs.Common.{◌-◌, Some, None, refl, arith}
use Rattle.std.specs.Option.{option_map, option_copied}
use Rattle.rel_pages.specs.Reading.{told}
use Rattle.rel_pages.proofs.Gathered.{passed_read, more_none, more_one}
use Rattle.rel_pages.proofs.RowSteps.{first_is, first_row_read, no_first_row, more_row_read, no_more_row, rows_end}
use Rattle.rel_pages.proofs.pages.rows_at.Goals as goal

pub returns-in_default-clause-read : goal.returns-in_default-clause-read
returns-in_default-clause-read c =
    rw c.damaged.ensures
    (λ f b left rel p s e r. no_first_row f c.args.bytes.now c.args.at b left rel c.args.head.count c.args.page c.args.schema.now (option_copied c.first_rule-first.result.before) c.first_rule-first.result.full c.requires.some
    (first_is f b rel c.args.page c.args.schema.now _ _ (option_map told c.args.head.earlier) p s e c.first_rule-first.ensures.before c.first_rule-first.ensures.full)
    (rw (c.first_rule-first.ensures.page, c.first_rule-first.ensures.used) at c.in_default.ensures.row) r)

pub loop-number-init : goal.loop-number-init
loop-number-init c = record {
  within = c.in-Some.ensures.within;
  used = omega (arith, c.in-Some.ensures.fits, c.first_rule-first.ensures.page, c.first_rule-first.ensures.used);
  place = omega arith;
  passed = passed_read c.args.schema.now c.first_rule-first.result.page c.first_rule-first.result.used (option_copied c.first_rule-first.result.before) c.first_rule-first.result.full c.args.bytes.now c.args.at c.args.at 0 c.in-Some.row.now c.in-Some.ensures.row (omega arith);
  more = more_one c.args.schema.now c.args.head.rel c.args.bytes.now c.args.starts.now.items c.args.starts.now.items c.note_row.new.starts.items (record { rel = c.args.head.rel; rows = c.args.at; row = 0; at = 0 }) (more_none c.args.schema.now c.args.head.rel c.args.bytes.now c.args.starts.now.items) c.in_ok-note_row.ensures.ok refl refl;
  read = λ f b left rel p s e r. first_row_read f c.args.bytes.now c.args.at b left rel c.args.head.count c.args.page c.args.schema.now (option_copied c.first_rule-first.result.before) c.first_rule-first.result.full c.in-Some.row.now c.requires.some
      (first_is f b rel c.args.page c.args.schema.now _ _ (option_map told c.args.head.earlier) p s e c.first_rule-first.ensures.before c.first_rule-first.ensures.full)
      (rw (c.first_rule-first.ensures.page, c.first_rule-first.ensures.used) at c.in-Some.ensures.row) r;
}

pub returns-in_default-row_at-clause-read : goal.returns-in_default-row_at-clause-read
returns-in_default-row_at-clause-read c =
    rw c.damaged-in_default-row_at.ensures
    (λ f b left rel p s e r. no_more_row f c.args.bytes.now c.loop-number.at b left rel c.args.head.count c.loop-number.number c.args.page c.args.schema.now c.loop-number.used c.loop-number.last.now p s c.loop-number-test.true c.in_default-row_at.ensures.row (c.loop-number.invariant.read f b left rel p s e r))

pub loop-number-preserved : goal.loop-number-preserved
loop-number-preserved c = record {
  within = c.in-Some-row_at.ensures.within;
  used = c.in-Some-row_at.ensures.fits;
  place = omega arith;
  passed = passed_read c.args.schema.now c.args.page c.loop-number.used (Some c.loop-number.last.now) None c.args.bytes.now c.args.at c.loop-number.at c.loop-number.number c.in-Some-row_at.row.now c.in-Some-row_at.ensures.row c.loop-number.invariant.passed;
  more = more_one c.args.schema.now c.args.head.rel c.args.bytes.now c.args.starts.now.items c.loop-number.starts.items c.note_row-in-loop-number.new.starts.items (record { rel = c.args.head.rel; rows = c.args.at; row = c.loop-number.number; at = c.loop-number.used - 4 }) c.loop-number.invariant.more c.in_ok-note_row-2.ensures.ok refl
      (omega (arith, c.loop-number.invariant.place, c.loop-number.invariant.passed));
  read = λ f b left rel p s e r. more_row_read f c.args.bytes.now c.loop-number.at b left rel c.args.head.count c.loop-number.number c.args.page c.args.schema.now c.loop-number.used c.loop-number.last.now c.in-Some-row_at.row.now p s c.loop-number-test.true c.in-Some-row_at.ensures.row (c.loop-number.invariant.read f b left rel p s e r);
}

pub returns-clause-read : goal.returns-clause-read
returns-clause-read c = λ f b left rel p s e r. rows_end f c.args.bytes.now c.loop-number.at b left rel c.args.head.count c.loop-number.number _ (omega (arith, c.loop-number-test.false)) (c.loop-number.invariant.read f b left rel p s e r)
