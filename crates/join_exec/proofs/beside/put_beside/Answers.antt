use Rattle.std.proofs.Common.{◌≡◌, [], ◌∷◌, ◌++◌, List, ℕ, Some, None, sym, ap, ◌∙◌}
use Rattle.std.specs.List.{find}
use Rattle.std.specs.Option.{option_copied}
use Rattle.std.proofs.lemmas.List.{append-nil}
use Rattle.hera_sets.specs.Rows.{is_past, normal}
use Rattle.hera_sets.proofs.Lists.{filter_past_none, ascending_filter, walk_step, walk_end, walk_falls}
use Rattle.rel_algebra.specs.Fronts.{begins, begun_of}
use Rattle.join_exec.proofs.GapLemmas.{begun_first, begun_next, front_absent}
use Rattle.join_exec.proofs.Matches.{matches_of, pair_more}
use Rattle.join_exec.proofs.beside.put_beside.Goals as goal

pub loop-other-init : goal.loop-other-init
loop-other-init g c =
    let rows = g.B.Sorted.rows c.args.b.now in
    let front = c.args.front.now in
    let ahead = option_copied c.first_from-ahead.result in (
      [],
      filter_past_none (begun_of front rows),
      λ xs e. e ∙ ap normal (sym (append-nil xs)),
      record {
        ordered = c.first_from-ahead.ensures.ordered;
        next = begun_first front rows ahead c.first_from-ahead.ensures.ordered c.first_from-ahead.ensures.first;
        behind = front_absent front rows ahead c.first_from-ahead.ensures.ordered c.first_from-ahead.ensures.first;
      },
    )

pub loop-other-smaller : goal.loop-other-smaller
loop-other-smaller g c =
    let begun = begun_of c.args.front.now (g.B.Sorted.rows c.args.b.now) in
    let state = c.loop-other.invariant.3 in
    walk_falls begun (option_copied c.loop-other.last) c.in-Some.other.now (ascending_filter (begins c.args.front.now) (g.B.Sorted.rows c.args.b.now) state.ordered) (sym state.next ∙ sym c.in-Some.ensures)

pub loop-other-preserved : goal.loop-other-preserved
loop-other-preserved g c =
    let rows = g.B.Sorted.rows c.args.b.now in
    let front = c.args.front.now in
    let begun = begun_of front rows in
    let other = c.in-Some.other.now in
    let done = c.loop-other.invariant.0 in
    let state = c.loop-other.invariant.3 in (
      done ++ other ∷ [],
      walk_step done begun (option_copied c.loop-other.last) other (ascending_filter (begins front) rows state.ordered) (sym state.next ∙ sym c.in-Some.ensures) c.loop-other.invariant.1,
      λ xs e. pair_more c.args.left.now c.args.right.now c.args.row.now xs done other c.loop-other.set c.put_pair.new.set (c.loop-other.invariant.2 xs e) c.in_ok-put_pair.ensures,
      record {
        ordered = state.ordered;
        next = begun_next front rows (option_copied c.loop-other.ahead) (option_copied c.above_from-ahead.result) other state.ordered (sym c.in-Some.ensures) c.above_from-ahead.ensures.next;
        behind = λ _. c.above_from-ahead.ensures.next;
      },
    )

pub returns-clause-gap : goal.returns-clause-gap
returns-clause-gap g c =
    let state = c.loop-other.invariant.3 in
    record {
      ordered = state.ordered;
      first = state.behind (sym c.in_default.ensures) ∙ ap (λ (z : List ℕ). find (is_past (Some z)) (g.B.Sorted.rows c.args.b.now)) (sym c.last_or.ensures);
    }

pub returns-clause-put : goal.returns-clause-put
returns-clause-put g c = λ xs e.
    let begun = begun_of c.args.front.now (g.B.Sorted.rows c.args.b.now) in
    let none : find (is_past (option_copied c.loop-other.last)) begun ≡ None = sym c.loop-other.invariant.3.next ∙ sym c.in_default.ensures in
    c.loop-other.invariant.2 xs e
    ∙ ap (λ (ys : List (List ℕ)). normal (xs ++ matches_of c.args.left.now c.args.right.now c.args.row.now ys)) (walk_end c.loop-other.invariant.0 begun (option_copied c.loop-other.last) none c.loop-other.invariant.1)
