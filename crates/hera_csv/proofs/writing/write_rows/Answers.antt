use Rattle.std.proofs.Common.{◌≡◌, [], ◌++◌, List, map, ap, sym, subst, Some, None, append-nil, ◌∙◌}
use Rattle.std.specs.List.{filter}
use Rattle.std.specs.Option.{option_copied}
use Rattle.csv.specs.Writing.{default_writer, row_text, writer_pending}
use Rattle.hera_meaning.specs.Schemas.{names_of}
use Rattle.hera_sets.specs.Rows.{Row, is_past}
use Rattle.hera_sets.proofs.Lists.{filter_past_none, filter_past_step, filter_none_found, walk_falls}
use Rattle.hera_csv.specs.Writers.{written, csv_of, records_text, tuple_fields}
use Rattle.hera_csv.proofs.Fillings.{found_is, writes_more}
use Rattle.hera_csv.proofs.writing.write_rows.Goals as goal

pub loop-row-init : goal.loop-row-init
loop-row-init g c =
    let schema = c.args.schema.now in
    let rows = g.S.Sorted.rows c.args.rows.now in
    let w = c.from_writer-writer.result in
    let fresh = ap (λ u. u.items ++ writer_pending w) c.from_writer-writer.ensures.wtr ∙ ap (λ p. c.new-2.result.items ++ p) c.from_writer-writer.ensures.empty ∙ ap (λ i. i ++ []) c.new-2.ensures.items in
    let head = c.in_ok-put_head.ensures.text ∙ ap (λ t. t ++ row_text default_writer (names_of schema)) fresh in
    (c.in_ok-put_head.ensures.between, ap (λ t. t ++ records_text (map (tuple_fields schema) (filter (is_past None) rows))) head ∙ ap (λ rs. row_text default_writer (names_of schema) ++ records_text (map (tuple_fields schema) rs)) (filter_past_none rows))

pub fill_row-requires : goal.fill_row-requires
fill_row-requires g c = found_is c.args.schema.now (is_past (option_copied c.loop-row.last)) (g.S.Sorted.rows c.args.rows.now) c.in-Some.row.now c.requires (sym c.in-Some.ensures.next)

pub loop-row-smaller : goal.loop-row-smaller
loop-row-smaller g c = walk_falls (g.S.Sorted.rows c.args.rows.now) (option_copied c.loop-row.last) c.in-Some.row.now c.in-Some.ensures.ordered (sym c.in-Some.ensures.next)

pub loop-row-preserved : goal.loop-row-preserved
loop-row-preserved g c =
    let schema = c.args.schema.now in
    let rows = g.S.Sorted.rows c.args.rows.now in
    let row = c.in-Some.row.now in
    let w = c.loop-row.writer in
    let step = filter_past_step (option_copied c.loop-row.last) rows row c.in-Some.ensures.ordered (sym c.in-Some.ensures.next) in
    let now = subst (λ (rs : List Row). written w ++ records_text (map (tuple_fields schema) rs) ≡ csv_of schema rows) step c.loop-row.invariant.1 in
    let more = c.in_ok-put_record.ensures.text ∙ ap (λ f. written w ++ row_text default_writer f) c.in_ok-fill_row.ensures.fields in
    (c.in_ok-put_record.ensures.between, writes_more (row_text default_writer) (written w) (written c.put_record.new.writer) (csv_of schema rows) (tuple_fields schema row) (map (tuple_fields schema) (filter (is_past (Some row)) rows)) more now)

pub returns-in-Ok : goal.returns-in-Ok
returns-in-Ok g c =
    let schema = c.args.schema.now in
    let rows = g.S.Sorted.rows c.args.rows.now in
    let w = c.loop-row.writer in
    let none = filter_none_found (is_past (option_copied c.loop-row.last)) rows (sym c.in_default.ensures.next) in
    let whole = subst (λ (rs : List Row). written w ++ records_text (map (tuple_fields schema) rs) ≡ csv_of schema rows) none c.loop-row.invariant.1 in
    c.new-in-Ok.ensures ∙ (c.in-Ok.ensures.ok ∙ (sym (append-nil (written w)) ∙ whole))
