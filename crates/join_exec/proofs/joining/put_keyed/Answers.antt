use Rattle.std.proofs.Common.{[], ◌∷◌, ◌++◌, List, ℕ, sym, ap, ◌∙◌}
use Rattle.std.specs.List.{filter}
use Rattle.std.specs.Option.{option_copied}
use Rattle.std.proofs.lemmas.List.{append-nil}
use Rattle.hera_sets.specs.Rows.{holds, normal}
use Rattle.hera_sets.proofs.Lists.{filter_past_none, walk_step, walk_end, walk_falls}
use Rattle.rel_algebra.specs.Fronts.{rows_behind}
use Rattle.join_exec.proofs.Matches.{matches_of, held_more}
use Rattle.join_exec.proofs.joining.put_keyed.Goals as goal

pub loop-keyed-init : goal.loop-keyed-init
loop-keyed-init g c = ([], filter_past_none (g.C.Sorted.rows c.args.others.now), λ xs e. e ∙ ap normal (sym (append-nil xs)))

pub loop-keyed-smaller : goal.loop-keyed-smaller
loop-keyed-smaller g c = walk_falls (g.C.Sorted.rows c.args.others.now) (option_copied c.loop-keyed.last) c.in-Some.keyed.now c.in-Some.ensures.ordered (sym c.in-Some.ensures.next)

pub loop-keyed-preserved : goal.loop-keyed-preserved
loop-keyed-preserved g c =
    let rows = g.C.Sorted.rows c.args.others.now in
    let done = c.loop-keyed.invariant.0 in (
      done ++ c.in-Some.keyed.now ∷ [],
      walk_step done rows (option_copied c.loop-keyed.last) c.in-Some.keyed.now c.in-Some.ensures.ordered (sym c.in-Some.ensures.next) c.loop-keyed.invariant.1,
      λ xs e. held_more c.args.left.now c.args.right.now c.args.row.now xs (g.B.Sorted.rows c.args.b.now) c.args.skip done c.in-Some.keyed.now c.behind.result.now c.loop-keyed.set c.put_held.new.set c.behind.ensures (c.loop-keyed.invariant.2 xs e) c.in_ok-put_held.ensures,
    )

pub returns : goal.returns
returns g c = λ xs e.
    c.loop-keyed.invariant.2 xs e
    ∙ ap (λ (ys : List (List ℕ)). normal (xs ++ matches_of c.args.left.now c.args.right.now c.args.row.now (filter (holds (g.B.Sorted.rows c.args.b.now)) (rows_behind c.args.skip ys)))) (walk_end c.loop-keyed.invariant.0 (g.C.Sorted.rows c.args.others.now) (option_copied c.loop-keyed.last) (sym c.in_default.ensures.next) c.loop-keyed.invariant.1)
