use Rattle.std.proofs.Common.{ℕ, List, [], ◌∷◌, ◌++◌, sym, ap, ◌∙◌, map}
use Rattle.std.specs.Option.{option_copied}
use Rattle.hera_sets.specs.Rows.{normal}
use Rattle.hera_sets.proofs.Lists.{filter_past_none, walk_step, walk_end, walk_falls}
use Rattle.hera_meaning.specs.Relations.{at_places}
use Rattle.rel_algebra.proofs.Gathered.{image_more}
use Rattle.rel_algebra.proofs.projection.project.Goals as goal

pub loop-row-init : goal.loop-row-init
loop-row-init g c = ([], filter_past_none (g.A.Sorted.rows c.args.a.now), c.new-set.ensures)

pub loop-row-smaller : goal.loop-row-smaller
loop-row-smaller g c = walk_falls (g.A.Sorted.rows c.args.a.now) (option_copied c.loop-row.last) c.in-Some.row.now c.in-Some.ensures.ordered (sym c.in-Some.ensures.next)

pub loop-row-preserved : goal.loop-row-preserved
loop-row-preserved g c =
    let image = at_places c.args.schema.now c.args.places.now in (
      c.loop-row.invariant.0 ++ c.in-Some.row.now ∷ [],
      walk_step c.loop-row.invariant.0 (g.A.Sorted.rows c.args.a.now) (option_copied c.loop-row.last) c.in-Some.row.now c.in-Some.ensures.ordered (sym c.in-Some.ensures.next) c.loop-row.invariant.1,
      image_more image c.loop-row.invariant.0 c.in-Some.row.now c.bytes.result.now c.loop-row.set c.insert.new.self (c.bytes.ensures ∙ c.in_ok-image.ensures) c.loop-row.invariant.2 c.in_ok-insert.ensures.ok,
    )

pub returns : goal.returns
returns g c =
    let rows = g.A.Sorted.rows c.args.a.now in
    let image = at_places c.args.schema.now c.args.places.now in
    c.loop-row.invariant.2 ∙ ap (λ (t : List (List ℕ)). normal (map image t)) (walk_end c.loop-row.invariant.0 rows (option_copied c.loop-row.last) (sym c.in_default.ensures.next) c.loop-row.invariant.1)
