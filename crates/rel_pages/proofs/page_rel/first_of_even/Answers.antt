use Rattle.std.proofs.Common.{◌-◌, ◌*◌, List, ℕ, sym, ap, subst, ◌∙◌, drop, arith, rules}
use Rattle.std.specs.List.{find}
use Rattle.rel_pages.specs.Rels.{passes, rows_from, IsRun}
use Rattle.rel_pages.proofs.Runs.{find_none}
use Rattle.rel_pages.proofs.Evens.{rows_on}
use Rattle.rel_pages.proofs.page_rel.first_of_even.Goals as goal

pub overflow_mul-before : goal.overflow_mul-before
overflow_mul-before c = let from = rows_on c.args.schema.now c.args.width c.args.count c.rows_before-before.result c.args.bytes.now c.requires.even (λ i. search rules) c.rows_before-before.ensures.within c.requires.run in omega (arith, from.within)

pub split_at-requires : goal.split_at-requires
split_at-requires c = (rows_on c.args.schema.now c.args.width c.args.count c.rows_before-before.result c.args.bytes.now c.requires.even (λ i. search rules) c.rows_before-before.ensures.within c.requires.run).within

pub first_of-requires-clause-run : goal.first_of-requires-clause-run
first_of-requires-clause-run c =
    subst (IsRun c.args.schema.now (c.args.count - c.rows_before-before.result)) (sym c.split_at.ensures.back)
    (rows_on c.args.schema.now c.args.width c.args.count c.rows_before-before.result c.args.bytes.now c.requires.even (λ i. search rules) c.rows_before-before.ensures.within c.requires.run).run

pub returns : goal.returns
returns c =
    let before = c.rows_before-before.result in
    let from = rows_on c.args.schema.now c.args.width c.args.count before c.args.bytes.now c.requires.even (λ i. search rules) c.rows_before-before.ensures.within c.requires.run in
    let p = passes c.args.bound in
    c.first_of.ensures ∙ ap (λ (x : List ℕ). find p (rows_from c.args.schema.now (c.args.count - before) x)) c.split_at.ensures.back
    ∙ sym (find_none p (rows_from c.args.schema.now before c.args.bytes.now) (rows_from c.args.schema.now (c.args.count - before) (drop (before * c.args.width) c.args.bytes.now)) c.rows_before-before.ensures.none)
    ∙ ap (find p) (sym from.rows)
