use Rattle.std.proofs.Common.{ℕ, List, [], ◌∷◌, ◌++◌, sym, ap, ◌∙◌}
use Rattle.std.specs.Option.{option_copied}
use Rattle.hera_sets.specs.Rows.{normal}
use Rattle.hera_sets.proofs.Lists.{filter_past_none, walk_step, walk_end, walk_falls}
use Rattle.join_exec.proofs.Matches.{all_matches, matches_of-keyed, all_matches-push}
use Rattle.join_exec.proofs.joining.join_keyed.Goals as goal

pub loop-row-init : goal.loop-row-init
loop-row-init g c = ([], filter_past_none (g.A.Sorted.rows c.args.a.now), c.new-set.ensures)

pub loop-row-smaller : goal.loop-row-smaller
loop-row-smaller g c = walk_falls (g.A.Sorted.rows c.args.a.now) (option_copied c.loop-row.last) c.in-Some.row.now c.in-Some.ensures.ordered (sym c.in-Some.ensures.next)

pub loop-row-preserved : goal.loop-row-preserved
loop-row-preserved g c =
    let left = c.args.left.now in
    let right = c.args.right.now in
    let row = c.in-Some.row.now in
    let others = g.B.Sorted.rows c.args.b.now in
    let done = c.loop-row.invariant.0 in (
      done ++ row ∷ [],
      walk_step done (g.A.Sorted.rows c.args.a.now) (option_copied c.loop-row.last) row c.in-Some.ensures.ordered (sym c.in-Some.ensures.next) c.loop-row.invariant.1,
      c.in_ok-put_keyed.ensures (all_matches left right done others) c.loop-row.invariant.2
          ∙ ap (λ (t : List (List ℕ)). normal (all_matches left right done others ++ t)) (matches_of-keyed left right row c.bytes-key.result.now others c.in_ok-keyed.keyed c.in_ok-keyed.ensures.ordered (c.bytes-key.ensures ∙ c.in_ok-front.ensures) c.in_ok-keyed.ensures.set)
          ∙ ap normal (sym (all_matches-push left right done others row)),
    )

pub returns : goal.returns
returns g c =
    c.loop-row.invariant.2 ∙ ap (λ (xs : List (List ℕ)). normal (all_matches c.args.left.now c.args.right.now xs (g.B.Sorted.rows c.args.b.now))) (walk_end c.loop-row.invariant.0 (g.A.Sorted.rows c.args.a.now) (option_copied c.loop-row.last) (sym c.in_default.ensures.next) c.loop-row.invariant.1)
