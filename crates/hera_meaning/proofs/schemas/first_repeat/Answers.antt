use Rattle.std.proofs.Common.{ap, sym, ◌∙◌, take, is_some, List, ℕ}
use Rattle.hera_meaning.specs.Schemas.{place_named, attr_name}
use Rattle.hera_meaning.proofs.Names.{repeat_here, distinct_more}
use Rattle.hera_meaning.proofs.schemas.first_repeat.Goals as goal

pub returns-then-is_some : goal.returns-then-is_some
returns-then-is_some c =
    repeat_here c.args.attrs.now c.loop-i.i c.index-attrs-i.result c.loop-i-test.true c.index-attrs-i.is c.loop-i.invariant
    (ap (λ (name : List ℕ). is_some (place_named name (take c.loop-i.i c.args.attrs.now))) (ap attr_name c.index-attrs-i.is ∙ sym c.bytes.ensures.bytes) ∙ ap is_some (sym c.place_of.ensures) ∙ sym c.is_some.ensures ∙ c.if-is_some.true)

pub loop-i-preserved : goal.loop-i-preserved
loop-i-preserved c =
    distinct_more c.args.attrs.now c.loop-i.i c.index-attrs-i.result c.loop-i-test.true c.index-attrs-i.is c.loop-i.invariant
    (ap (λ (name : List ℕ). is_some (place_named name (take c.loop-i.i c.args.attrs.now))) (ap attr_name c.index-attrs-i.is ∙ sym c.bytes.ensures.bytes) ∙ ap is_some (sym c.place_of.ensures) ∙ sym c.is_some.ensures ∙ c.if-is_some.false)
