use Rattle.std.proofs.Common.{◌≡◌, ℕ, true, List, [], ◌∷◌, ◌++◌, ◌&&◌, Some, None, All, length, map, refl, sym, ap, ◌∙◌, subst}
use Rattle.std.specs.List.{find, list_all}
use Rattle.std.specs.Option.{option_copied}
use Rattle.std.proofs.lemmas.Bool.{and_from, and_right}
use Rattle.std.proofs.lemmas.List.Elements.{All-filter}
use Rattle.std.proofs.lemmas.Result.{err_from_is_err_and}
use Rattle.hera_sets.specs.Rows.{is_past, is_same, normal}
use Rattle.hera_sets.proofs.Lists.{filter_past_none, walk_step, walk_end, walk_falls}
use Rattle.hera_sets.proofs.Members.{ascending_normal}
use Rattle.hera_meaning.specs.Rows.{IsRow}
use Rattle.hera_meaning.specs.Relations.{at_places, project_of}
use Rattle.hera_meaning.specs.Aggregates.{is_few, rows_of_key, group_row, are_sums_in_range}
use Rattle.rel_algebra.specs.Fronts.{begun_of, rows_behind}
use Rattle.hera_aggregate.specs.Groups.{aggs_bytes, are_aggs_in_range}
use Rattle.rel_algebra.proofs.Gathered.{image_more}
use Rattle.hera_aggregate.proofs.GroupLemmas.{few_of_key, passes_more, fails_found, refused_at}
use Rattle.hera_aggregate.proofs.KeySteps.{behind_found}
use Rattle.hera_aggregate.proofs.groups.group_keyed.Goals as goal

pub loop-key-init : goal.loop-key-init
loop-key-init g c = ([], filter_past_none (project_of c.args.schema.now c.args.by.now (g.A.Sorted.rows c.args.a.now)), c.new-groups.ensures, refl)

pub group_row-requires-clause-rows : goal.group_row-requires-clause-rows
group_row-requires-clause-rows g c =
    let schema = c.args.schema.now in
    let by = c.args.by.now in
    let rows = g.A.Sorted.rows c.args.a.now in
    let key = c.in-Some.key.now in
    let last = option_copied c.loop-key.last in
    let found : find (is_past last) (project_of schema by rows) ≡ Some key = ap (find (is_past last)) (sym c.requires.keys) ∙ sym c.in-Some.ensures.next in
    let behind : rows_behind (length key) (begun_of key c.in_ok-keyed.keyed) ≡ rows_of_key schema by key rows = behind_found schema by rows c.in_ok-keyed.keyed last key c.in_ok-keyed.ensures.set c.requires.rows c.in_ok-keyed.ensures.ordered found in
    subst (All (IsRow schema)) (sym behind) (All-filter (λ x. is_same (at_places schema by x) key) (IsRow schema) rows c.requires.rows)

pub group_row-requires-clause-few : goal.group_row-requires-clause-few
group_row-requires-clause-few g c =
    let schema = c.args.schema.now in
    let by = c.args.by.now in
    let rows = g.A.Sorted.rows c.args.a.now in
    let key = c.in-Some.key.now in
    let last = option_copied c.loop-key.last in
    let found : find (is_past last) (project_of schema by rows) ≡ Some key = ap (find (is_past last)) (sym c.requires.keys) ∙ sym c.in-Some.ensures.next in
    let behind : rows_behind (length key) (begun_of key c.in_ok-keyed.keyed) ≡ rows_of_key schema by key rows = behind_found schema by rows c.in_ok-keyed.keyed last key c.in_ok-keyed.ensures.set c.requires.rows c.in_ok-keyed.ensures.ordered found in
    few_of_key schema by rows key (length key) (begun_of key c.in_ok-keyed.keyed) c.requires.few behind

pub returns-in_err-row-clause-refused : goal.returns-in_err-row-clause-refused
returns-in_err-row-clause-refused g c =
    let schema = c.args.schema.now in
    let by = c.args.by.now in
    let rows = g.A.Sorted.rows c.args.a.now in
    let key = c.in-Some.key.now in
    let last = option_copied c.loop-key.last in
    let found : find (is_past last) (project_of schema by rows) ≡ Some key = ap (find (is_past last)) (sym c.requires.keys) ∙ sym c.in-Some.ensures.next in
    let behind : rows_behind (length key) (begun_of key c.in_ok-keyed.keyed) ≡ rows_of_key schema by key rows = behind_found schema by rows c.in_ok-keyed.keyed last key c.in_ok-keyed.ensures.set c.requires.rows c.in_ok-keyed.ensures.ordered found in
    let aggs = c.args.aggs.now in
    let p = err_from_is_err_and c.from_residual-in_err-row.result c.from_residual-in_err-row.ensures.1 in
    rw (p.1, p.2)
    (refused_at (are_aggs_in_range schema (rows_behind (length key) (begun_of key c.in_ok-keyed.keyed)) aggs) (is_few rows && are_sums_in_range schema by aggs rows) c.in_err-row.field-0.0
    (λ out. and_right (is_few rows) (are_sums_in_range schema by aggs rows) (fails_found (λ k. are_aggs_in_range schema (rows_of_key schema by k rows) aggs) (is_past last) (project_of schema by rows) key (sym (ap (λ rs. are_aggs_in_range schema rs aggs) behind) ∙ out) found))
    c.in_err-row.ensures.refused)

pub loop-key-smaller : goal.loop-key-smaller
loop-key-smaller g c =
    let schema = c.args.schema.now in
    let by = c.args.by.now in
    let rows = g.A.Sorted.rows c.args.a.now in
    let key = c.in-Some.key.now in
    let last = option_copied c.loop-key.last in
    let found : find (is_past last) (project_of schema by rows) ≡ Some key = ap (find (is_past last)) (sym c.requires.keys) ∙ sym c.in-Some.ensures.next in
    walk_falls (project_of schema by rows) last key (ascending_normal (map (at_places schema by) rows)) found

pub loop-key-preserved : goal.loop-key-preserved
loop-key-preserved g c =
    let schema = c.args.schema.now in
    let by = c.args.by.now in
    let rows = g.A.Sorted.rows c.args.a.now in
    let key = c.in-Some.key.now in
    let last = option_copied c.loop-key.last in
    let found : find (is_past last) (project_of schema by rows) ≡ Some key = ap (find (is_past last)) (sym c.requires.keys) ∙ sym c.in-Some.ensures.next in
    let behind : rows_behind (length key) (begun_of key c.in_ok-keyed.keyed) ≡ rows_of_key schema by key rows = behind_found schema by rows c.in_ok-keyed.keyed last key c.in_ok-keyed.ensures.set c.requires.rows c.in_ok-keyed.ensures.ordered found in
    let aggs = c.args.aggs.now in
    let done = c.loop-key.invariant.0 in
    let row : c.in_ok-row.row ≡ group_row schema by aggs rows key = c.in_ok-row.ensures.row ∙ ap (λ rs. key ++ aggs_bytes schema rs aggs) behind in
    let fits : are_aggs_in_range schema (rows_of_key schema by key rows) aggs ≡ true = sym (ap (λ rs. are_aggs_in_range schema rs aggs) behind) ∙ c.in_ok-row.ensures.fits in (
      done ++ key ∷ [],
      walk_step done (project_of schema by rows) last key (ascending_normal (map (at_places schema by) rows)) found c.loop-key.invariant.1,
      image_more (group_row schema by aggs rows) done key c.bytes.result.now c.loop-key.groups c.insert.new.self (c.bytes.ensures ∙ row) c.loop-key.invariant.2 c.in_ok-insert.ensures.ok,
      passes_more (λ k. are_aggs_in_range schema (rows_of_key schema by k rows) aggs) done key c.loop-key.invariant.3 fits,
    )

pub returns-clause-group : goal.returns-clause-group
returns-clause-group g c =
    let schema = c.args.schema.now in
    let by = c.args.by.now in
    let rows = g.A.Sorted.rows c.args.a.now in
    let last = option_copied c.loop-key.last in
    let none : find (is_past last) (project_of schema by rows) ≡ None = ap (find (is_past last)) (sym c.requires.keys) ∙ sym c.in_default.ensures.next in
    c.loop-key.invariant.2 ∙ ap (λ (ks : List (List ℕ)). normal (map (group_row schema by c.args.aggs.now rows) ks)) (walk_end c.loop-key.invariant.0 (project_of schema by rows) last none c.loop-key.invariant.1)

pub returns-clause-fits : goal.returns-clause-fits
returns-clause-fits g c =
    let schema = c.args.schema.now in
    let by = c.args.by.now in
    let rows = g.A.Sorted.rows c.args.a.now in
    let last = option_copied c.loop-key.last in
    let none : find (is_past last) (project_of schema by rows) ≡ None = ap (find (is_past last)) (sym c.requires.keys) ∙ sym c.in_default.ensures.next in
    let P : List (List ℕ) → Type 0 = λ ks. list_all (λ k. are_aggs_in_range schema (rows_of_key schema by k rows) c.args.aggs.now) ks ≡ true in
    and_from (is_few rows) (are_sums_in_range schema by c.args.aggs.now rows) c.requires.few (subst P (walk_end c.loop-key.invariant.0 (project_of schema by rows) last none c.loop-key.invariant.1) c.loop-key.invariant.3)
