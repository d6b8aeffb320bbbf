use Rattle.std.proofs.Common.{◌≡◌, ◌∙◌, ap, sym, [], length, true, false, nat_lt, arith}
use Rattle.std.specs.Prelude.{Ok, None}
use Rattle.std.specs.List.{list_all}
use Rattle.std.proofs.lemmas.Bool.{le-ltb}
use Rattle.hera_meaning.specs.declared.trees.Shape.TheVariants.{Tuple as tuple}
use Rattle.hera_rules.specs.Agrees.{typing_of, typings_of}
use Rattle.hera_rules.specs.Rules.{attrs_of, is_scalar, make_row, repeat_in, types_of, typing}
use Rattle.hera_types_parts.proofs.Giving.{gives_done}
use Rattle.hera_types_checks.proofs.Attributes.{row_done}
use Rattle.hera_types_checks.proofs.tuples.check_row.Goals as goal

pub returns : goal.returns
returns c =
    let at = c.args.at in
    let ws = c.args.words.items in
    let vs = typings_of c.args.values.items in
    let once : repeat_in [] ws ≡ None = ap (λ ws. repeat_in [] ws) (sym c.deref.ensures.value) ∙ c.in_ok-distinct_names.ensures.repeat in
    let few : nat_lt 16 (length ws) ≡ false = le-ltb 16 (length ws) (omega (arith, c.len.ensures, c.if-len-gt-ATTRS_LIMIT.false, c.args.words.ok.0)) in
    let scalars : list_all is_scalar (types_of vs) ≡ true = ap (λ vs. list_all is_scalar (types_of (typings_of vs))) (sym c.deref-2.ensures.value) ∙ sym c.all_scalars.ensures ∙ c.if-not-all_scalars.false in
    gives_done typing_of _ c.row_of.ensures.typed c.row_of.ensures.refused
    (row_done at ws vs once few scalars ∙ ap (λ ws. Ok (typing (tuple (attrs_of ws vs)) (make_row (attrs_of ws vs) vs at))) (sym c.deref-3.ensures.value))
