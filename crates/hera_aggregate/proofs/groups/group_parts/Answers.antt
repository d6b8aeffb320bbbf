use Rattle.std.proofs.Common.{◌≡◌, ℕ, true, List, ◌++◌, ◌&&◌, Some, All, map, take, sym, ap, ◌∙◌, subst}
use Rattle.std.specs.List.{list_all, slice_get}
use Rattle.std.proofs.lemmas.Bool.{and_right}
use Rattle.std.proofs.lemmas.List.Elements.{All-filter}
use Rattle.std.proofs.lemmas.Result.{err_from_is_err_and}
use Rattle.hera_sets.specs.Rows.{is_same, normal}
use Rattle.hera_meaning.specs.Rows.{IsRow}
use Rattle.hera_meaning.specs.Relations.{at_places}
use Rattle.hera_meaning.specs.Aggregates.{is_few, rows_of_key, group_row, are_sums_in_range}
use Rattle.rel_algebra.specs.Fronts.{rows_behind}
use Rattle.rel_algebra.proofs.Gathered.{image_more}
use Rattle.hera_aggregate.specs.Groups.{aggs_bytes, are_aggs_in_range}
use Rattle.hera_aggregate.proofs.Bests.{rows_behind-none}
use Rattle.hera_aggregate.proofs.GroupLemmas.{few_of_key, passes_more, refused_at}
use Rattle.hera_aggregate.proofs.PartLemmas.{part_of, take_next, fails_at}
use Rattle.hera_aggregate.proofs.groups.group_parts.Goals as goal

pub group_row-requires-clause-rows : goal.group_row-requires-clause-rows
group_row-requires-clause-rows g c =
    let schema = c.args.schema.now in
    let by = c.args.by.now in
    let rows = g.A.Sorted.rows c.args.a.now in
    let key = c.row.result.now in
    let place = c.loop-place.place in
    let part = c.part_at.result.now in
    let found : slice_get c.in_ok-parts.parts.items place ≡ Some part = ap (λ (t : List (List (List ℕ))). slice_get t place) (sym c.deref.ensures.value) ∙ c.part_at.ensures in
    let behind : rows_behind 0 part ≡ rows_of_key schema by key rows = rows_behind-none part ∙ part_of (λ k. rows_of_key schema by k rows) c.args.keys.now c.in_ok-parts.parts.items place key part c.in_ok-parts.ensures c.row.ensures found in
    subst (All (IsRow schema)) (sym behind) (All-filter (λ x. is_same (at_places schema by x) key) (IsRow schema) rows c.requires.rows)

pub group_row-requires-clause-few : goal.group_row-requires-clause-few
group_row-requires-clause-few g c =
    let schema = c.args.schema.now in
    let by = c.args.by.now in
    let rows = g.A.Sorted.rows c.args.a.now in
    let key = c.row.result.now in
    let place = c.loop-place.place in
    let part = c.part_at.result.now in
    let found : slice_get c.in_ok-parts.parts.items place ≡ Some part = ap (λ (t : List (List (List ℕ))). slice_get t place) (sym c.deref.ensures.value) ∙ c.part_at.ensures in
    let behind : rows_behind 0 part ≡ rows_of_key schema by key rows = rows_behind-none part ∙ part_of (λ k. rows_of_key schema by k rows) c.args.keys.now c.in_ok-parts.parts.items place key part c.in_ok-parts.ensures c.row.ensures found in
    few_of_key schema by rows key 0 part c.requires.few behind

pub returns-in_err-row-clause-refused : goal.returns-in_err-row-clause-refused
returns-in_err-row-clause-refused g c =
    let schema = c.args.schema.now in
    let by = c.args.by.now in
    let rows = g.A.Sorted.rows c.args.a.now in
    let key = c.row.result.now in
    let place = c.loop-place.place in
    let part = c.part_at.result.now in
    let found : slice_get c.in_ok-parts.parts.items place ≡ Some part = ap (λ (t : List (List (List ℕ))). slice_get t place) (sym c.deref.ensures.value) ∙ c.part_at.ensures in
    let behind : rows_behind 0 part ≡ rows_of_key schema by key rows = rows_behind-none part ∙ part_of (λ k. rows_of_key schema by k rows) c.args.keys.now c.in_ok-parts.parts.items place key part c.in_ok-parts.ensures c.row.ensures found in
    let aggs = c.args.aggs.now in
    let p = err_from_is_err_and c.from_residual-in_err-row.result c.from_residual-in_err-row.ensures.1 in
    rw (p.1, p.2)
    (refused_at (are_aggs_in_range schema (rows_behind 0 part) aggs) (is_few rows && are_sums_in_range schema by aggs rows) c.in_err-row.field-0.0
    (λ out. and_right (is_few rows) (are_sums_in_range schema by aggs rows) (ap (list_all (λ k. are_aggs_in_range schema (rows_of_key schema by k rows) aggs)) (sym c.requires.keys) ∙ fails_at (λ k. are_aggs_in_range schema (rows_of_key schema by k rows) aggs) c.args.keys.now place key (sym (ap (λ rs. are_aggs_in_range schema rs aggs) behind) ∙ out) c.row.ensures))
    c.in_err-row.ensures.refused)

pub loop-place-preserved : goal.loop-place-preserved
loop-place-preserved g c =
    let schema = c.args.schema.now in
    let by = c.args.by.now in
    let rows = g.A.Sorted.rows c.args.a.now in
    let key = c.row.result.now in
    let place = c.loop-place.place in
    let part = c.part_at.result.now in
    let found : slice_get c.in_ok-parts.parts.items place ≡ Some part = ap (λ (t : List (List (List ℕ))). slice_get t place) (sym c.deref.ensures.value) ∙ c.part_at.ensures in
    let behind : rows_behind 0 part ≡ rows_of_key schema by key rows = rows_behind-none part ∙ part_of (λ k. rows_of_key schema by k rows) c.args.keys.now c.in_ok-parts.parts.items place key part c.in_ok-parts.ensures c.row.ensures found in
    let aggs = c.args.aggs.now in
    let keys = c.args.keys.now in
    let row : c.in_ok-row.row ≡ group_row schema by aggs rows key = c.in_ok-row.ensures.row ∙ ap (λ rs. key ++ aggs_bytes schema rs aggs) behind in
    let fits : are_aggs_in_range schema (rows_of_key schema by key rows) aggs ≡ true = sym (ap (λ rs. are_aggs_in_range schema rs aggs) behind) ∙ c.in_ok-row.ensures.fits in
    record {
      groups =
          image_more (group_row schema by aggs rows) (take place keys) key c.bytes.result.now c.loop-place.groups c.insert.new.self (c.bytes.ensures ∙ row) c.loop-place.invariant.groups c.in_ok-insert.ensures.ok
          ∙ ap (λ (ks : List (List ℕ)). normal (map (group_row schema by aggs rows) ks)) (sym (take_next keys place key c.row.ensures));
      fits =
          ap (list_all (λ k. are_aggs_in_range schema (rows_of_key schema by k rows) aggs)) (take_next keys place key c.row.ensures)
          ∙ passes_more (λ k. are_aggs_in_range schema (rows_of_key schema by k rows) aggs) (take place keys) key c.loop-place.invariant.fits fits;
    }
