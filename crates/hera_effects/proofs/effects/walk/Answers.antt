use Rattle.std.proofs.Common.{ℕ, ◌∷◌, [], Some, subst}
use Rattle.hera_typed.specs.Notes.{notes_of}
use Rattle.std.specs.Prelude.{IfOk, slice_get}
use Rattle.hera_typed.specs.Points.{when, first}
use Rattle.hera_typed.specs.Effects.{is_relation, opened_point, gathered_by}
use Rattle.hera_effects.specs.Ways.{Both, AreWays}
use Rattle.hera_effects.proofs.effects.walk.Goals as goal

pub returns-clause-effect : goal.returns-clause-effect
returns-clause-effect g c p is =
    let ks = λ (n : ℕ). gathered_by (notes_of c.args.around.now.notes.now) c.args.k (slice_get c.args.around.now.code.now.instrs n) in
    subst (λ n. IfOk c.open_walk.result (λ r. Both (AreWays c.open_walk.new.stacks) r (first p.operands (λ s ss. when (is_relation s) (Some (record { to = n; point = opened_point s ss p (ks n) } ∷ [])))))) c.requires
    (c.open_walk.ensures.opened p (ks c.args.next) is c.in_ok-gathers.ensures)
