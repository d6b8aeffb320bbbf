use Rattle.std.proofs.Common.{refl, sym, ◌∙◌}
use Rattle.hera_syntax.specs.Grammar as phrases
use Rattle.hera_parser_exprs.proofs.Steps.{}
use Rattle.hera_parser_exprs.proofs.Choices.{told, other}
use Rattle.hera_parser.proofs.decls.type_tree.Goals as goal

pub kind_type-requires : goal.kind_type-requires
kind_type-requires c = (told phrases.type_tree 0 refl (sym c.next_is.ensures ∙ c.if-next_is.true))

pub delta_type-requires : goal.delta_type-requires
delta_type-requires c = (told phrases.type_tree 1 refl (sym c.next_is-2.ensures ∙ c.if-next_is-2.true))

pub rel_type-requires : goal.rel_type-requires
rel_type-requires c = (told phrases.type_tree 2 refl (sym c.next_is-3.ensures ∙ c.if-next_is-3.true))

pub tuple_type-requires : goal.tuple_type-requires
tuple_type-requires c = (other phrases.type_tree (sym c.next_is.ensures ∙ c.if-next_is.false, (sym c.next_is-2.ensures ∙ c.if-next_is-2.false, (sym c.next_is-3.ensures ∙ c.if-next_is-3.false, tt))))
