use Rattle.std.proofs.Common.{◌≤◌, ◌*◌, ◌∙◌, ℕ, List, sym, ap, subst, length, take, drop, arith, rules}
use Rattle.rel_pages.specs.Rels.{cut}
use Rattle.rel_pages.proofs.Evens.{row_here}
use Rattle.rel_pages.proofs.page_rel.even_row.Goals as goal

pub overflow_mul-number : goal.overflow_mul-number
overflow_mul-number c = let here = row_here c.args.schema.now c.args.width c.args.count c.args.number c.args.bytes.now c.requires.even (λ i. search rules) c.requires.within c.requires.run in omega (arith, here.within)

pub split_at-requires : goal.split_at-requires
split_at-requires c = (row_here c.args.schema.now c.args.width c.args.count c.args.number c.args.bytes.now c.requires.even (λ i. search rules) c.requires.within c.requires.run).within

pub split_at-requires-2 : goal.split_at-requires-2
split_at-requires-2 c =
    subst (λ (x : List ℕ). c.args.width ≤ length x) (sym c.split_at.ensures.back)
    (row_here c.args.schema.now c.args.width c.args.count c.args.number c.args.bytes.now c.requires.even (λ i. search rules) c.requires.within c.requires.run).fits

pub returns : goal.returns
returns c =
    let here = row_here c.args.schema.now c.args.width c.args.count c.args.number c.args.bytes.now c.requires.even (λ i. search rules) c.requires.within c.requires.run in
    c.split_at-2.ensures.front ∙ ap (take c.args.width) c.split_at.ensures.back ∙ sym (ap (λ o. cut o (drop (c.args.number * c.args.width) c.args.bytes.now)) here.len)
