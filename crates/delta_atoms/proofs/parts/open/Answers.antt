use Rattle.std.proofs.Common.{◌≡◌, sym, subst, [], List, ℕ}
use Rattle.hera_sets.specs.Rows.{IsAscending}
use Rattle.hera_meaning.specs.declared.scalars.Sign.{Sign}
use Rattle.hera_meaning.specs.declared.scalars.Sign.TheVariants.{Plus, Minus}
use Rattle.delta_atoms.specs.declared.parts.DeltaPart.{DeltaPart}
use Rattle.delta_atoms.specs.Parts.{side}
use Rattle.delta_atoms.specs.Edits.{IsGap}
use Rattle.delta_atoms.proofs.Places.{gap_ordered, gap_same, gap_at}
use Rattle.delta_atoms.proofs.parts.open.Goals as goal

pub returns-in_ok-insert-in-Err-clause-ordered : goal.returns-in_ok-insert-in-Err-clause-ordered
returns-in_ok-insert-in-Err-clause-ordered c =
    rw c.in_ok-insert-in-Err.ensures.items
    (gap_ordered c.args.parts.now.items (record { rel = c.args.rel; plus = c.new.result; minus = c.new-in-Err.result }) c.in-Err.i (record { plus = subst IsAscending (sym c.new.ensures) tt; minus = subst IsAscending (sym c.new-in-Err.ensures) tt }) (rw c.deref.ensures.value at c.in-Err.ensures) c.requires)

sides : (n : ℕ) (plus minus : List (List ℕ)) → plus ≡ [] → minus ≡ [] → (s : Sign) → let p : DeltaPart = record { rel = record { 0 = n }; plus = plus; minus = minus } in side s p ≡ []
sides n plus minus e f Plus = e
sides n plus minus e f Minus = f

pub returns-in_ok-insert-in-Err-clause-same : goal.returns-in_ok-insert-in-Err-clause-same
returns-in_ok-insert-in-Err-clause-same c =
    rw c.in_ok-insert-in-Err.ensures.items
    (gap_same c.args.parts.now.items (record { rel = c.args.rel; plus = c.new.result; minus = c.new-in-Err.result }) c.in-Err.i (sides c.args.rel.0 c.new.result c.new-in-Err.result c.new.ensures c.new-in-Err.ensures) (rw c.deref.ensures.value at c.in-Err.ensures))

pub returns-in_ok-insert-in-Err-clause-place : goal.returns-in_ok-insert-in-Err-clause-place
returns-in_ok-insert-in-Err-clause-place c =
    let gap : IsGap c.args.parts.now.items c.args.rel.0 c.in-Err.i = rw c.deref.ensures.value at c.in-Err.ensures in
    rw c.in_ok-insert-in-Err.ensures.items
    (gap_at c.args.parts.now.items (record { rel = c.args.rel; plus = c.new.result; minus = c.new-in-Err.result }) c.in-Err.i gap.within)
