use Rattle.std.proofs.Common.{◌≡◌, ◌∙◌, ◌++◌, ap, subst, codes}
use Rattle.std.specs.Prelude.{IfOk}
use Rattle.hera_meaning.specs.Rows.{is_row}
use Rattle.hera_meaning.specs.Printed.{tuple_text, text_of}
use Rattle.hera_meaning.proofs.RowsRead.{is_row-from_IsRow}
use Rattle.hera_guard.proofs.line.tuple_line.Goals as goal

pub value_line-requires : goal.value_line-requires
value_line-requires c =
    ap (λ s. is_row s c.in_ok-row.row) c.in_ok-schema.ensures ∙ ap (is_row c.args.schema.now) c.in_ok-row.ensures ∙ is_row-from_IsRow c.args.schema.now c.args.row.now c.requires

pub returns : goal.returns
unfolding text_of
returns c =
    subst (λ s. IfOk c.value_line.result (λ line. line ≡ tuple_text s c.args.row.now ++ codes "\n")) c.in_ok-schema.ensures
    (subst (λ r. IfOk c.value_line.result (λ line. line ≡ tuple_text c.in_ok-schema.schema r ++ codes "\n")) c.in_ok-row.ensures c.value_line.ensures)
