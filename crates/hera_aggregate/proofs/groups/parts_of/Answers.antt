use Rattle.std.proofs.Common.{◌≡◌, ℕ, List, [], ◌∷◌, ◌++◌, Some, map, get_or, sym, ap, ◌∙◌, subst, arith}
use Rattle.std.specs.List.{slice_get, slice_set}
use Rattle.std.specs.Option.{option_copied}
use Rattle.hera_sets.specs.Rows.{is_past, holds, put, IsAscending}
use Rattle.hera_sets.proofs.Lists.{filter_past_none, walk_step, walk_push, walk_end, walk_falls}
use Rattle.hera_sets.proofs.Members.{ascending_normal}
use Rattle.hera_meaning.specs.Relations.{at_places}
use Rattle.hera_meaning.specs.Aggregates.{rows_of_key}
use Rattle.hera_aggregate.proofs.GroupLemmas.{found_held}
use Rattle.hera_aggregate.proofs.PartLemmas.{part_more, parts_length, within_at, key_held}
use Rattle.hera_aggregate.proofs.groups.parts_of.Goals as goal

pub loop-row-init : goal.loop-row-init
loop-row-init g c = ([], filter_past_none (g.A.Sorted.rows c.args.a.now), c.in_ok-parts.ensures)

pub loop-row-smaller : goal.loop-row-smaller
loop-row-smaller g c = walk_falls (g.A.Sorted.rows c.args.a.now) (option_copied c.loop-row.last) c.in-Some.row.now c.in-Some.ensures.ordered (sym c.in-Some.ensures.next)

pub place_of-requires : goal.place_of-requires
place_of-requires g c =
    let rows = g.A.Sorted.rows c.args.a.now in
    let row = c.in-Some.row.now in
    let image = at_places c.args.schema.now c.args.by.now in
    let cleared : c.clear.new.self.items ≡ [] = c.clear.ensures.items in
    let key : c.deref.result.now ≡ image row = c.deref.ensures.value ∙ c.in_ok-put_places.ensures ∙ ap (λ t. t ++ image row) cleared in
    (λ i. holds (c.requires i) (key i)) ∙ key_held c.args.schema.now c.args.by.now rows row (found_held (is_past (option_copied c.loop-row.last)) rows row (sym c.in-Some.ensures.next))

pub put_part-requires : goal.put_part-requires
put_part-requires g c =
    let f : List ℕ → List (List ℕ) = λ k. rows_of_key c.args.schema.now c.args.by.now k c.loop-row.invariant.0 in
    omega (arith, within_at c.args.keys.now c.place_of.result c.deref.result.now c.place_of.ensures, parts_length f c.args.keys.now c.loop-row.parts.items c.loop-row.invariant.2)

pub loop-row-preserved : goal.loop-row-preserved
loop-row-preserved g c =
    let rows = g.A.Sorted.rows c.args.a.now in
    let schema = c.args.schema.now in
    let by = c.args.by.now in
    let row = c.in-Some.row.now in
    let done = c.loop-row.invariant.0 in
    let last = option_copied c.loop-row.last in
    let place = c.place_of.result in
    let image = at_places schema by in
    let cleared : c.clear.new.self.items ≡ [] = c.clear.ensures.items in
    let key : c.deref.result.now ≡ image row = c.deref.ensures.value ∙ c.in_ok-put_places.ensures ∙ ap (λ t. t ++ image row) cleared in
    let up : IsAscending c.args.keys.now = subst IsAscending (sym c.requires) (ascending_normal (map image rows)) in
    let more : IsAscending (done ++ row ∷ []) = walk_push done rows last row c.in-Some.ensures.ordered (sym c.in-Some.ensures.next) c.loop-row.invariant.1 in
    let at : slice_get c.args.keys.now place ≡ Some (image row) = c.place_of.ensures ∙ ap Some key in (
      done ++ row ∷ [],
      walk_step done rows last row c.in-Some.ensures.ordered (sym c.in-Some.ensures.next) c.loop-row.invariant.1,
      c.in_ok-put_part.ensures
          ∙ ap (λ (t : List (List (List ℕ))). slice_set t place (put row (get_or t place []))) c.loop-row.invariant.2
          ∙ part_more schema by c.args.keys.now done row place up more at,
    )

pub returns : goal.returns
returns g c =
    c.loop-row.invariant.2
    ∙ ap (λ (t : List (List ℕ)). map (λ key. rows_of_key c.args.schema.now c.args.by.now key t) c.args.keys.now) (walk_end c.loop-row.invariant.0 (g.A.Sorted.rows c.args.a.now) (option_copied c.loop-row.last) (sym c.in_default.ensures.next) c.loop-row.invariant.1)
