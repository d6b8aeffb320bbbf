use Rattle.std.proofs.Common.{refl, sym, subst, arith, All}
use Rattle.std.proofs.lemmas.Bool.{both_ways, false≢true}
use Rattle.std.proofs.lemmas.List.{take_all}
use Rattle.hera_meaning.specs.Schemas.{names_of}
use Rattle.hera_meaning.specs.Identifiers.{IsIdentifier}
use Rattle.hera_row.proofs.SchemaNames.{names_more, name_of_all}
use Rattle.hera_row.proofs.names.has_names.Goals as goal

pub returns-then-not-is_name : goal.returns-then-not-is_name
returns-then-not-is_name c = (
  λ e. absurd (false≢true e),
  λ all. absurd (both_ways _ c.if-not-is_name.true (c.is_name.ensures.1 (subst IsIdentifier (sym c.bytes.ensures.bytes) (name_of_all IsIdentifier c.args.schema.now c.loop-i.i c.attr.result.now c.attr.ensures.attr all)))),
)

pub loop-i-preserved : goal.loop-i-preserved
loop-i-preserved c =
    names_more IsIdentifier c.args.schema.now c.loop-i.i c.attr.result.now c.attr.ensures.attr c.loop-i.invariant (subst IsIdentifier c.bytes.ensures.bytes (c.is_name.ensures.0 c.if-not-is_name.false))

pub returns : goal.returns
returns c = (
  λ _. subst (λ attrs. All IsIdentifier (names_of attrs)) (take_all c.loop-i.i c.args.schema.now (omega (arith, c.loop-i-test.false, c.len-i-end.ensures.count))) c.loop-i.invariant,
  λ _. refl,
)
