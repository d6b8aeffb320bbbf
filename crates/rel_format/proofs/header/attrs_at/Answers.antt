use Rattle.std.proofs.Common.{◌+◌, ◌-◌, ◌∷◌, [], sym, subst, arith}
use Rattle.std.proofs.lemmas.Result.{err_from_is_err_and}
use Rattle.std.proofs.lemmas.List.{length-append}
use Rattle.std.proofs.lemmas.List.Elements.{All-push}
use Rattle.std.specs.Prelude.{Vec}
use Rattle.std.specs.Global.{Global}
use Rattle.hera_meaning.specs.declared.schemas.Attr.{Attr}
use Rattle.hera_meaning.specs.Identifiers.{IsIdentifier}
use Rattle.hera_meaning.specs.Schemas.{AreDistinct, names_of}
use Rattle.hera_meaning.proofs.Names.{distinct_push}
use Rattle.rel_format.specs.Table.{at_attr, behind_attr, with_attr, with_attrs}
use Rattle.rel_format.specs.Places.{Reaches}
use Rattle.rel_format.proofs.Steps.{fault_on, enter, leave, names_push}
use Rattle.rel_format.proofs.header.attrs_at.Goals as goal

pub returns-in_err-attr-clause-read : goal.returns-in_err-attr-clause-read
returns-in_err-attr-clause-read c =
    let p = err_from_is_err_and c.from_residual.result c.from_residual.ensures.1 in
    rw (p.1, p.2)
    (λ f q none.
    fault_on {A = Attr} {B = Vec Attr Global} f c.args.bytes.now c.args.at c.loop.at (behind_attr q c.args.width) (at_attr (with_attrs q c.loop.attrs.items) (c.args.width - (c.loop.counter + 1)))
    (λ a. behind_attr (with_attr (with_attrs q c.loop.attrs.items) a) (c.args.width - (c.loop.counter + 1))) (λ attrs. behind_attr (with_attrs q attrs.items) 0) c.in_err-attr.field-0.0
    (λ r. subst (Reaches f c.args.bytes.now c.loop.at) (enter (with_attrs q c.loop.attrs.items) c.args.width c.loop.counter c.loop-test.true) (c.loop.invariant.read f q none r))
    (c.in_err-attr.ensures.read f (with_attrs q c.loop.attrs.items) (c.args.width - (c.loop.counter + 1)) (sym c.deref.ensures.value)))

pub loop-preserved : goal.loop-preserved
loop-preserved c =
    rw c.in_ok-push.ensures.ok
    (record {
      within = c.in_ok-attr.ensures.within;
      count = omega (arith, length-append c.loop.attrs.items (c.in_ok-attr.attr ∷ []), c.loop.invariant.count);
      distinct = subst AreDistinct (sym (names_push c.loop.attrs.items c.in_ok-attr.attr)) (distinct_push (names_of c.loop.attrs.items) c.in_ok-attr.attr.name c.loop.invariant.distinct (rw c.deref.ensures.value at c.in_ok-attr.ensures.new));
      names = rw (names_push c.loop.attrs.items c.in_ok-attr.attr) (All-push IsIdentifier (names_of c.loop.attrs.items) c.in_ok-attr.attr.name c.loop.invariant.names c.in_ok-attr.ensures.name);
      read = λ f q none r. c.in_ok-attr.ensures.read f (with_attrs q c.loop.attrs.items) (c.args.width - (c.loop.counter + 1)) (sym c.deref.ensures.value)
          (subst (Reaches f c.args.bytes.now c.loop.at) (enter (with_attrs q c.loop.attrs.items) c.args.width c.loop.counter c.loop-test.true) (c.loop.invariant.read f q none r));
    })

pub returns-clause-read : goal.returns-clause-read
returns-clause-read c = λ f q none r.
    subst (Reaches f c.args.bytes.now c.loop.at) (leave (with_attrs q c.loop.attrs.items) c.args.width c.loop.counter (omega (arith, c.loop-test.false))) (c.loop.invariant.read f q none r)
