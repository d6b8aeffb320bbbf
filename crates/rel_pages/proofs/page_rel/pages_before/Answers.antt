use Rattle.std.proofs.Common.{◌<◌, ◌+◌, ◌-◌, ◌/◌, ◌*◌, sym, ap, subst, ◌∙◌, drop, take, arith}
use Rattle.hera_sets.specs.Rows.{IsAscending}
use Rattle.rel_pages.specs.Rels.{passes, pages_rows, leading}
use Rattle.rel_pages.proofs.Searches.{page_here, none_before}
use Rattle.rel_pages.proofs.page_rel.pages_before.Goals as goal

pub loop-high-preserved : goal.loop-high-preserved
loop-high-preserved c =
    let middle = c.loop-high.low + (c.loop-high.high - c.loop-high.low) / 2 in
    let within : middle < c.args.count = omega arith in
    let here = page_here c.args.schema.now c.args.page c.args.count middle c.args.pages.now within c.requires.pages in
    record {
      order = omega arith;
      within = c.loop-high.invariant.within;
      none = none_before c.args.bound (pages_rows c.args.schema.now c.args.page middle c.args.pages.now) (leading c.args.schema.now (drop 4 (take c.args.page (drop (middle * c.args.page) c.args.pages.now)))) here.rest
          (subst IsAscending here.rows c.requires.ascending) (ap (passes c.args.bound) (sym c.leading_at.ensures) ∙ sym c.passes.ensures ∙ c.if-passes.false);
    }
