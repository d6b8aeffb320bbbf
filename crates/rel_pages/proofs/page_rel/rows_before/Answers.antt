use Rattle.std.proofs.Common.{◌<◌, ◌+◌, ◌-◌, ◌/◌, ◌*◌, sym, ap, subst, ◌∙◌, drop, arith, rules}
use Rattle.hera_sets.specs.Rows.{IsAscending}
use Rattle.rel_pages.specs.Rels.{passes, rows_from, leading}
use Rattle.rel_pages.proofs.Evens.{row_here}
use Rattle.rel_pages.proofs.Searches.{none_before}
use Rattle.rel_pages.proofs.page_rel.rows_before.Goals as goal

pub loop-high-preserved : goal.loop-high-preserved
loop-high-preserved c =
    let middle = c.loop-high.low + (c.loop-high.high - c.loop-high.low) / 2 in
    let within : middle < c.args.count = omega arith in
    let here = row_here c.args.schema.now c.args.width c.args.count middle c.args.bytes.now c.requires.even (λ i. search rules) within c.requires.run in
    record {
      order = omega arith;
      within = c.loop-high.invariant.within;
      none = none_before c.args.bound (rows_from c.args.schema.now middle c.args.bytes.now) (leading c.args.schema.now (drop (middle * c.args.width) c.args.bytes.now)) here.rest
          (subst IsAscending here.rows c.requires.ascending) (ap (passes c.args.bound) (sym c.even_row.ensures) ∙ sym c.passes.ensures ∙ c.if-passes.false);
    }
