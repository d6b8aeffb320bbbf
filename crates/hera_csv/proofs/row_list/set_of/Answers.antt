use Rattle.std.proofs.Common.{List, length, sym, ap, subst, ◌∙◌}
use Rattle.std.specs.List.{All}
use Rattle.std.proofs.lemmas.List.Sorted.{All-permutation}
use Rattle.hera_sets.specs.Rows.{normal}
use Rattle.hera_csv.specs.declared.row_list.Span.{Span}
use Rattle.hera_csv.specs.Listed.{IsWithin, rows_at}
use Rattle.hera_csv.proofs.Spans.{normal-sorted, same_set}
use Rattle.hera_csv.proofs.row_list.set_of.Goals as goal

pub in_order-requires : goal.in_order-requires
in_order-requires c =
    let within = IsWithin (length c.args.bytes.now) in
    subst (λ (ss : List Span). All within ss) (sym c.deref.ensures.value) (All-permutation within c.args.spans.items c.sorted-spans.result.items c.sorted-spans.ensures c.requires)

pub returns : goal.returns
returns c =
    let bytes = c.args.bytes.now in
    same_set c.in_order.result (rows_at bytes c.deref.result.now) (rows_at bytes c.args.spans.items)
    (ap (λ (ss : List Span). normal (rows_at bytes ss)) c.deref.ensures.value ∙ normal-sorted bytes c.args.spans.items c.sorted-spans.result.items c.sorted-spans.ensures) c.in_order.ensures
