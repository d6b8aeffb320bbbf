use Rattle.std.proofs.Common.{◌≡◌, ◌≤◌, ◌∙◌, length, sym, arith}
use Rattle.hera_store.proofs.Widenings.{narrowed_here, kept_here, all_kept}
use Rattle.hera_store.proofs.widening.first_narrowed.Goals as goal

pub returns-then-not-is_kept-clause-some : goal.returns-then-not-is_kept-clause-some
returns-then-not-is_kept-clause-some c =
    narrowed_here c.args.old.now c.args.new.now c.loop-number.number c.loop-number.invariant c.decl-decl.result.now c.decl-decl.ensures.decl (sym c.is_kept.ensures ∙ c.if-not-is_kept.true)

pub loop-number-preserved : goal.loop-number-preserved
loop-number-preserved c =
    kept_here c.args.old.now c.args.new.now c.loop-number.number c.loop-number.invariant c.decl-decl.result.now c.decl-decl.ensures.decl (sym c.is_kept.ensures ∙ c.if-not-is_kept.false)

pub returns-clause-none : goal.returns-clause-none
returns-clause-none c =
    let past : length c.args.old.now ≤ c.loop-number.number = omega (arith, c.loop-number-test.false, c.len-number-end.ensures.count, c.len-number-end.ensures.valid.few) in
    λ none. all_kept c.args.old.now c.args.new.now c.loop-number.number c.loop-number.invariant past
