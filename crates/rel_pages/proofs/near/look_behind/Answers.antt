use Rattle.std.proofs.Common.{◌<◌, ◌+◌, ◌*◌, ◌∙◌, ◌++◌, ◌∷◌, List, sym, ap, drop, arith, rules}
use Rattle.hera_sets.specs.Rows.{Row}
use Rattle.rel_pages.specs.Rels.{rows_from, leading}
use Rattle.rel_pages.proofs.Nears.{last_here, pair_here, tells_behind, tells_found}
use Rattle.rel_pages.proofs.near.look_behind.Goals as goal

pub returns-then-number-count : goal.returns-then-number-count
returns-then-number-count c =
    let number = c.args.number in
    tells_behind c.args.bound (rows_from c.args.schema.now c.args.count c.args.bytes.now) (rows_from c.args.schema.now number c.args.bytes.now) (leading c.args.schema.now (drop (number * c.args.width) c.args.bytes.now))
    (last_here c.args.schema.now c.args.width c.args.count number c.args.bytes.now c.requires.even (λ i. search rules) c.if-number-count.true c.requires.run) c.requires.before

pub returns-then-passes : goal.returns-then-passes
returns-then-passes c =
    let number = c.args.number in
    let front : List Row = rows_from c.args.schema.now number c.args.bytes.now in
    let row : Row = leading c.args.schema.now (drop (number * c.args.width) c.args.bytes.now) in
    let lt : number + 1 < c.args.count = omega (arith, c.requires.within, c.if-number-count.false) in
    let pair = pair_here c.args.schema.now c.args.width c.args.count number c.args.bytes.now c.requires.even (λ i. search rules) lt c.requires.run in
    tells_found c.args.bound (rows_from c.args.schema.now c.args.count c.args.bytes.now) front pair.rest row c.even_row-next.result.now
    (pair.rows ∙ ap (λ (y : Row). front ++ row ∷ y ∷ pair.rest) (sym c.even_row-next.ensures)) c.requires.before (sym c.passes.ensures ∙ c.if-passes.true)
