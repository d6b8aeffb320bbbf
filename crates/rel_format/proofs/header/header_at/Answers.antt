use Rattle.std.proofs.Common.{◌+◌, ◌-◌, ◌++◌, ◌∷◌, [], suc, sym, refl, subst, arith}
use Rattle.std.proofs.lemmas.Result.{err_from_is_err_and}
use Rattle.std.proofs.lemmas.List.{length-append}
use Rattle.hera_meaning.specs.declared.schemas.RelDecl.{RelDecl}
use Rattle.std.specs.Prelude.{List, ℕ}
use Rattle.rel_format.specs.Table.{at_magic, at_rels}
use Rattle.rel_format.specs.Places.{Reaches}
use Rattle.rel_format.proofs.Steps.{no_magic, to_count, no_count, to_rels, fault_on, enter_rels, leave_rels}
use Rattle.rel_format.proofs.header.header_at.Goals as goal

pub returns-then-not-magic_at-clause-read : goal.returns-then-not-magic_at-clause-read
returns-then-not-magic_at-clause-read c = rw c.damaged.ensures (λ f same r. no_magic f _ c.args.magic.now same (sym (c.if-not-magic_at.ensures.other refl)))

pub returns-in_default-clause-read : goal.returns-in_default-clause-read
returns-in_default-clause-read c =
    rw c.damaged-in_default.ensures
    (λ f same r. no_count f _ _ (to_count f _ c.args.magic.now _ same (sym (c.if-not-magic_at.ensures.value refl))) c.in_default.ensures.value)

pub loop-init : goal.loop-init
loop-init c =
    rw c.new-rels.ensures
    (record {
      within = c.in-Some.ensures.within;
      count = refl;
      read = λ f same. subst (λ (n : ℕ). Reaches f c.args.bytes.now 10 (at_rels [] n)) (omega arith)
          (to_rels f _ _ _ (to_count f _ c.args.magic.now _ same (sym (c.if-not-magic_at.ensures.value refl))) c.in-Some.ensures.value);
    })

pub returns-in_err-decl-clause-read : goal.returns-in_err-decl-clause-read
returns-in_err-decl-clause-read c =
    let p = err_from_is_err_and c.from_residual.result c.from_residual.ensures.1 in
    rw (p.1, p.2)
    (λ f same.
    fault_on {A = RelDecl} {B = List RelDecl} f c.args.bytes.now 0 c.loop.at at_magic (at_rels c.loop.rels (suc (c.in-Some.count - (c.loop.counter + 1))))
    (λ d. at_rels (c.loop.rels ++ d ∷ []) (c.in-Some.count - (c.loop.counter + 1))) (λ rels. at_rels rels 0) c.in_err-decl.field-0.0
    (λ r. subst (Reaches f c.args.bytes.now c.loop.at) (enter_rels c.loop.rels c.in-Some.count c.loop.counter c.loop-test.true) (c.loop.invariant.read f same))
    (c.in_err-decl.ensures.read f (c.in-Some.count - (c.loop.counter + 1))))

pub loop-preserved : goal.loop-preserved
loop-preserved c =
    rw c.in_ok-add.ensures.ok
    (record {
      within = c.in_ok-decl.ensures.within;
      count = omega (arith, length-append c.loop.rels (c.in_ok-decl.decl ∷ []), c.loop.invariant.count);
      read = λ f same. c.in_ok-decl.ensures.read f (c.in-Some.count - (c.loop.counter + 1))
          (subst (Reaches f c.args.bytes.now c.loop.at) (enter_rels c.loop.rels c.in-Some.count c.loop.counter c.loop-test.true) (c.loop.invariant.read f same));
    })

pub returns-clause-read : goal.returns-clause-read
returns-clause-read c = λ f same r.
    subst (Reaches f c.args.bytes.now c.loop.at) (leave_rels c.loop.rels c.in-Some.count c.loop.counter (omega (arith, c.loop-test.false))) (c.loop.invariant.read f same)
