use Rattle.std.proofs.Common.{[], ◌∷◌, ◌++◌, List, ℕ, sym, ap, ◌∙◌}
use Rattle.std.specs.Option.{option_copied}
use Rattle.std.proofs.lemmas.List.{append-nil}
use Rattle.hera_sets.specs.Rows.{normal}
use Rattle.hera_sets.proofs.Lists.{filter_past_none, walk_step, walk_end, walk_falls}
use Rattle.join_exec.proofs.Matches.{matches_of, pair_more}
use Rattle.join_exec.proofs.joining.put_joined.Goals as goal

pub loop-other-init : goal.loop-other-init
loop-other-init g c = ([], filter_past_none (g.B.Sorted.rows c.args.b.now), λ xs e. e ∙ ap normal (sym (append-nil xs)))

pub loop-other-smaller : goal.loop-other-smaller
loop-other-smaller g c = walk_falls (g.B.Sorted.rows c.args.b.now) (option_copied c.loop-other.last) c.in-Some.other.now c.in-Some.ensures.ordered (sym c.in-Some.ensures.next)

pub loop-other-preserved : goal.loop-other-preserved
loop-other-preserved g c =
    let rows = g.B.Sorted.rows c.args.b.now in
    let done = c.loop-other.invariant.0 in (
      done ++ c.in-Some.other.now ∷ [],
      walk_step done rows (option_copied c.loop-other.last) c.in-Some.other.now c.in-Some.ensures.ordered (sym c.in-Some.ensures.next) c.loop-other.invariant.1,
      λ xs e. pair_more c.args.left.now c.args.right.now c.args.row.now xs done c.in-Some.other.now c.loop-other.set c.put_pair.new.set (c.loop-other.invariant.2 xs e) c.in_ok-put_pair.ensures,
    )

pub returns : goal.returns
returns g c = λ xs e.
    c.loop-other.invariant.2 xs e
    ∙ ap (λ (ys : List (List ℕ)). normal (xs ++ matches_of c.args.left.now c.args.right.now c.args.row.now ys)) (walk_end c.loop-other.invariant.0 (g.B.Sorted.rows c.args.b.now) (option_copied c.loop-other.last) (sym c.in_default.ensures.next) c.loop-other.invariant.1)
