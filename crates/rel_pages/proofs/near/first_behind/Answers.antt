use Rattle.std.proofs.Common.{◌<◌, ◌∙◌, sym, arith}
use Rattle.rel_pages.proofs.Nears.{first_of_all}
use Rattle.rel_pages.proofs.near.first_behind.Goals as goal

pub returns : goal.returns
returns c =
    let some : 0 < c.args.count = omega (arith, c.if-count-eq0.false) in
    first_of_all c.args.schema.now c.args.page c.args.count c.args.pages.now c.args.bound c.leading_at-row.result.now some c.requires.pages c.leading_at-row.ensures (sym c.passes.ensures ∙ c.if-not-passes.false)
