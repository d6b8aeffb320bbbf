use Rattle.std.proofs.Common.{◌≡◌, ℕ, List, [], ◌∷◌, ◌++◌, sym, ap, ◌∙◌, map}
use Rattle.std.specs.Option.{option_copied}
use Rattle.hera_sets.specs.Rows.{normal}
use Rattle.hera_sets.proofs.Lists.{filter_past_none, walk_step, walk_end, walk_falls}
use Rattle.rel_algebra.proofs.Gathered.{image_more}
use Rattle.join_exec.specs.Leading.{keyed_of}
use Rattle.join_exec.proofs.joining.keyed.Goals as goal

pub loop-row-init : goal.loop-row-init
loop-row-init g c = ([], filter_past_none (g.B.Sorted.rows c.args.b.now), c.new-set.ensures)

pub loop-row-smaller : goal.loop-row-smaller
loop-row-smaller g c = walk_falls (g.B.Sorted.rows c.args.b.now) (option_copied c.loop-row.last) c.in-Some.row.now c.in-Some.ensures.ordered (sym c.in-Some.ensures.next)

pub loop-row-preserved : goal.loop-row-preserved
loop-row-preserved g c =
    let row = c.in-Some.row.now in
    let keyed = keyed_of c.args.left.now c.args.right.now in
    let bytes : c.deref.result.now ≡ keyed row = c.deref.ensures.value ∙ c.in_ok-extend_from_slice.ensures.items ∙ ap (λ t. t ++ row) (c.into_vec-bytes.ensures ∙ c.in_ok-key.ensures) in (
      c.loop-row.invariant.0 ++ row ∷ [],
      walk_step c.loop-row.invariant.0 (g.B.Sorted.rows c.args.b.now) (option_copied c.loop-row.last) row c.in-Some.ensures.ordered (sym c.in-Some.ensures.next) c.loop-row.invariant.1,
      image_more keyed c.loop-row.invariant.0 row c.deref.result.now c.loop-row.set c.insert.new.self bytes c.loop-row.invariant.2 c.in_ok-insert.ensures.ok,
    )

pub returns-clause-set : goal.returns-clause-set
returns-clause-set g c =
    let rows = g.B.Sorted.rows c.args.b.now in
    c.loop-row.invariant.2 ∙ ap (λ (t : List (List ℕ)). normal (map (keyed_of c.args.left.now c.args.right.now) t)) (walk_end c.loop-row.invariant.0 rows (option_copied c.loop-row.last) (sym c.in_default.ensures.next) c.loop-row.invariant.1)
