use Rattle.std.proofs.Common.{◌+◌, ◌-◌, ◌≡◌, ◌∙◌, Option, ap, sym, subst, arith}
use Rattle.std.specs.Prelude.{MatchOption}
use Rattle.std.specs.Vec.{vec_len, vec_capacity}
use Rattle.hera_values.specs.declared.values.Datum.{Datum}
use Rattle.hera_frames.specs.declared.operands.Operand.{Operand}
use Rattle.hera_frames.specs.Items.{item_of, held, collected, reach_of, IsHeld}
use Rattle.hera_values.specs.Little.{plain_of}
use Rattle.hera_frames.proofs.Holding.{IsHolding, holding_put, holding_skip, holding_end, has_value, same_collected}
use Rattle.hera_frames.proofs.operands.hold_from.Goals.{in-Some, in_default}
use Rattle.hera_frames.proofs.operands.hold_from.Goals as goal

pub loop-i-preserved : goal.loop-i-preserved
loop-i-preserved c =
    let s = c.args.stored.now.state in
    let ls = c.args.changes.now.layers in
    let told = λ (o : Option Datum). MatchOption o (collected s ls (item_of c.index.result.now) ≡ item_of c.index.result.now) (λ v. collected s ls (item_of c.index.result.now) ≡ held (plain_of v)) in
    elim c.match-branch-2.branch [
      | in-Some w ↦ record {
        holding = holding_put s ls c.args.items.now.items c.loop-i.items.items c.match-branch-2.items.items c.args.from c.loop-i.i w.replace.new.dest c.index.result.now c.loop-i.invariant.behind (omega (arith, c.loop-i-test.true, c.loop-i.invariant.len, c.len-i-end.ensures)) c.index.ensures
            (subst (λ (o : Operand). IsHeld (item_of o)) (sym w.replace.ensures.after) tt) (ap (λ (o : Operand). reach_of (item_of o)) w.replace.ensures.after) (subst told w.in-Some.is c.in_ok-v.ensures ∙ sym (ap item_of w.replace.ensures.after))
            (ap (λ (o : Operand). collected s ls (item_of o)) w.replace.ensures.after ∙ sym (ap item_of w.replace.ensures.after)) (ap (λ v. v.items) w.items-is) c.loop-i.invariant.holding;
        behind = omega (arith, c.loop-i.invariant.behind);
        len = ap vec_len w.items-is ∙ c.loop-i.invariant.len;
        capacity = ap vec_capacity w.items-is ∙ c.loop-i.invariant.capacity;
      }
      | in_default w ↦ record {
        holding = subst (λ v. IsHolding s ls c.args.items.now.items v.items c.args.from (c.loop-i.i + 1)) (sym w.items-is)
            (holding_skip s ls c.args.items.now.items c.loop-i.items.items c.args.from c.loop-i.i c.index.result.now c.loop-i.invariant.behind (omega (arith, c.loop-i-test.true, c.loop-i.invariant.len, c.len-i-end.ensures)) c.index.ensures (has_value s ls (item_of c.index.result.now) (subst told w.in_default.is c.in_ok-v.ensures)) c.loop-i.invariant.holding);
        behind = omega (arith, c.loop-i.invariant.behind);
        len = ap vec_len w.items-is ∙ c.loop-i.invariant.len;
        capacity = ap vec_capacity w.items-is ∙ c.loop-i.invariant.capacity;
      }
    ]

pub returns-in_err-v-clause-same : goal.returns-in_err-v-clause-same
returns-in_err-v-clause-same c = same_collected c.args.stored.now.state c.args.changes.now.layers c.args.items.now.items c.loop-i.items.items c.loop-i.invariant.holding.same

pub returns-clause-held : goal.returns-clause-held
returns-clause-held c = holding_end c.args.stored.now.state c.args.changes.now.layers c.args.items.now.items c.loop-i.items.items c.args.from (vec_len c.args.items.now - c.args.from) c.loop-i.i
    (omega (arith, c.requires, c.loop-i.invariant.len)) (omega (arith, c.loop-i-test.false, c.loop-i.invariant.len, c.len-i-end.ensures)) c.loop-i.invariant.holding

pub returns-clause-same : goal.returns-clause-same
returns-clause-same c = same_collected c.args.stored.now.state c.args.changes.now.layers c.args.items.now.items c.loop-i.items.items c.loop-i.invariant.holding.same

pub returns-in_err-v-clause-older : goal.returns-in_err-v-clause-older
returns-in_err-v-clause-older c = c.loop-i.invariant.holding.older

pub returns-clause-older : goal.returns-clause-older
returns-clause-older c = c.loop-i.invariant.holding.older
