use Rattle.std.proofs.Common.{◌≡◌, ◌<◌, ◌+◌, ◌-◌, ◌*◌, ◌∙◌, ◌++◌, ◌∷◌, List, ℕ, sym, ap, drop, arith, rules}
use Rattle.hera_sets.specs.Rows.{Row}
use Rattle.rel_pages.specs.Rels.{rows_from, leading, passes}
use Rattle.rel_pages.proofs.Nears.{pair_here, tells_found}
use Rattle.rel_pages.proofs.near.look_at.Goals as goal

pub returns : goal.returns
returns c =
    let number = c.min-number.result in
    let before = number - 1 in
    let front : List Row = rows_from c.args.schema.now before c.args.bytes.now in
    let row : Row = leading c.args.schema.now (drop (before * c.args.width) c.args.bytes.now) in
    let same : before + 1 ≡ number = omega (arith, c.if-number-eq0.false) in
    let lt : before + 1 < c.args.count = omega (arith, same, c.min-number.ensures, c.requires.some) in
    let pair = pair_here c.args.schema.now c.args.width c.args.count before c.args.bytes.now c.requires.even (λ i. search rules) lt c.requires.run in
    tells_found c.args.bound (rows_from c.args.schema.now c.args.count c.args.bytes.now) front pair.rest row c.even_row-row.result.now
    (pair.rows ∙ ap (λ (y : Row). front ++ row ∷ y ∷ pair.rest) (ap (λ (n : ℕ). leading c.args.schema.now (drop (n * c.args.width) c.args.bytes.now)) same ∙ sym c.even_row-row.ensures))
    (ap (passes c.args.bound) (sym c.even_row.ensures) ∙ sym c.passes-2.ensures ∙ c.if-passes.false)
    (sym c.passes.ensures ∙ c.if-not-passes.false)
