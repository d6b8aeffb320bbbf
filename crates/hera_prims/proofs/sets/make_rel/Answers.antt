use Rattle.std.proofs.Common.{◌∙◌, sym, ap, arith, map}
use Rattle.hera_sets.specs.Rows.{put, normal}
use Rattle.hera_meaning.specs.Values.{row_in, operand, table}
use Rattle.hera_meaning.specs.Primitives.{gives}
use Rattle.hera_prims.proofs.Tuples.{normal_more, taken_all}
use Rattle.hera_prims.proofs.sets.make_rel.Goals as goal

pub loop-i-preserved : goal.loop-i-preserved
loop-i-preserved c =
    (c.in_ok-_new.ensures).ok ∙ ap (λ r. put r c.loop-i.rows) c.row_at.ensures ∙ ap (λ rows. put (row_in (operand c.args.args.now c.loop-i.i)) rows) c.loop-i.invariant
    ∙ normal_more c.args.args.now c.loop-i.i (omega (arith, c.loop-i-test.true, c.len-i-end.ensures))

pub returns : goal.returns
returns c =
    ap (λ xs. gives (table (normal (map row_in xs)))) (sym (taken_all c.args.args.now c.loop-i.i (omega (arith, c.loop-i-test.false, c.len-i-end.ensures))))
    ∙ ap (λ xs. gives (table xs)) (sym c.loop-i.invariant)
