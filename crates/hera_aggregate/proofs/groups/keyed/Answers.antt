use Rattle.std.proofs.Common.{◌≡◌, ℕ, List, [], ◌∷◌, ◌++◌, sym, ap, ◌∙◌, map}
use Rattle.std.specs.Option.{option_copied}
use Rattle.hera_sets.specs.Rows.{normal}
use Rattle.hera_sets.proofs.Lists.{filter_past_none, walk_step, walk_end, walk_falls}
use Rattle.hera_meaning.specs.Relations.{at_places}
use Rattle.rel_algebra.proofs.Gathered.{image_more}
use Rattle.hera_aggregate.specs.Groups.{keyed_row}
use Rattle.hera_aggregate.proofs.groups.keyed.Goals as goal

pub loop-row-init : goal.loop-row-init
loop-row-init g c = ([], filter_past_none (g.A.Sorted.rows c.args.a.now), c.new-set.ensures)

pub loop-row-smaller : goal.loop-row-smaller
loop-row-smaller g c = walk_falls (g.A.Sorted.rows c.args.a.now) (option_copied c.loop-row.last) c.in-Some.row.now c.in-Some.ensures.ordered (sym c.in-Some.ensures.next)

pub loop-row-preserved : goal.loop-row-preserved
loop-row-preserved g c =
    let row = c.in-Some.row.now in
    let keyed = keyed_row c.args.schema.now c.args.by.now in
    let cleared : c.clear.new.self.items ≡ [] = c.clear.ensures.items in
    let key : c.put_places.new.bytes.items ≡ at_places c.args.schema.now c.args.by.now row = c.in_ok-put_places.ensures ∙ ap (λ t. t ++ at_places c.args.schema.now c.args.by.now row) cleared in
    let bytes : c.deref.result.now ≡ keyed row = c.deref.ensures.value ∙ c.in_ok-extend_from_slice.ensures.items ∙ ap (λ t. t ++ row) key in (
      c.loop-row.invariant.0 ++ row ∷ [],
      walk_step c.loop-row.invariant.0 (g.A.Sorted.rows c.args.a.now) (option_copied c.loop-row.last) row c.in-Some.ensures.ordered (sym c.in-Some.ensures.next) c.loop-row.invariant.1,
      image_more keyed c.loop-row.invariant.0 row c.deref.result.now c.loop-row.set c.insert.new.self bytes c.loop-row.invariant.2 c.in_ok-insert.ensures.ok,
    )

pub returns-clause-set : goal.returns-clause-set
returns-clause-set g c =
    let rows = g.A.Sorted.rows c.args.a.now in
    c.loop-row.invariant.2 ∙ ap (λ (t : List (List ℕ)). normal (map (keyed_row c.args.schema.now c.args.by.now) t)) (walk_end c.loop-row.invariant.0 rows (option_copied c.loop-row.last) (sym c.in_default.ensures.next) c.loop-row.invariant.1)
