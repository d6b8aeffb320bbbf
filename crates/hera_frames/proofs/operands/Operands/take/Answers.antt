use Rattle.std.proofs.Common.{◌≡◌, ◌∷◌, [], ◌∙◌, ◌-◌, ◌+◌, Option, sym, ap, subst, arith}
use Rattle.std.specs.Prelude.{MatchOption}
use Rattle.hera_code.specs.Machine.{taken}
use Rattle.hera_values.specs.declared.values.Datum.{Datum}
use Rattle.hera_values.specs.Little.{plain_of}
use Rattle.hera_frames.specs.Items.{operands_at}
use Rattle.hera_frames.proofs.Taking.{taken_next}
use Rattle.hera_frames.proofs.operands.Operands.take.Goals as goal

pub loop-preserved : goal.loop-preserved
loop-preserved c =
    let s = c.args.stored.now.state in
    let ls = c.args.changes.now.layers in
    let rest = operands_at s ls c.pop_value.new.self.items in
    let told = λ (o : Option Datum). MatchOption o (c.loop.self.items ≡ []) (λ v. operands_at s ls c.loop.self.items ≡ plain_of v ∷ rest) in
    record {
      taking =
          ap (λ args. taken (c.args.n - (c.loop.counter + 1)) args rest) (c.in_ok-push_front-in-Some.ensures ∙ ap (λ v. v ∷ c.loop.args) c.in_ok-value-in-Some.ensures)
          ∙ sym (taken_next c.args.n c.loop.counter c.loop.args (plain_of c.in-Some.v) rest (omega arith))
          ∙ ap (λ vs. taken (c.args.n - c.loop.counter) c.loop.args vs) (sym (subst told c.in-Some.is c.in_ok-pop_value.ensures.value))
          ∙ c.loop.invariant.taking;
      within = omega (arith, c.pop_value.ensures.within, c.loop.invariant.within);
      spare = omega (arith, c.pop_value.ensures.spare, c.loop.invariant.spare);
    }
