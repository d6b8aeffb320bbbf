-- One gate more to which no way leads from before, or the first to which one does.
use Rattle.std.proofs.Common.{◌≡◌, ◌<◌, ◌≤◌, inl, inr, ℕ, ◌-◌, length, Some, sym, ap, ◌∙◌, subst, arith}
use Rattle.std.specs.Prelude.{slice_get, slice_index_or}
use Rattle.std.proofs.lemmas.Bool.{cases_lt}
use Rattle.std.proofs.lemmas.Option.{slice_get-get_or, same_Some}
use Rattle.hera_noted.specs.declared.ends.Gate.{Gate}
use Rattle.hera_noted.proofs.ends.count_kept.Goals as goal

pub returns-then-gates-at-clause-dropped : goal.returns-then-gates-at-clause-dropped
returns-then-gates-at-clause-dropped c i g e le =
    let inv = c.loop-n.invariant in
    inv.1 i g e (omega (arith, le, c.loop-n-test.true, inv.0))

pub returns-then-gates-at-clause-last : goal.returns-then-gates-at-clause-last
returns-then-gates-at-clause-last c i g e last =
    let gates = c.args.gates.now in
    let less = c.loop-n-test.true in
    let at : ℕ = length gates - 1 - c.loop-n.n in
    let gate : Gate = slice_index_or gates at (record { place = 0; first = 0 }) in
    let here : slice_get gates at ≡ Some gate = slice_get-get_or gates at (record { place = 0; first = 0 }) (omega (arith, less)) in
    let same : at ≡ i = omega (arith, last) in
    let g_is : gate ≡ g = same_Some _ _ (sym here ∙ ap (slice_get gates) same ∙ e) in
    subst (λ (u : Gate). u.first < c.args.from) g_is c.if-gates-at.true

pub loop-n-preserved : goal.loop-n-preserved
loop-n-preserved c =
    let gates = c.args.gates.now in
    let inv = c.loop-n.invariant in
    let less = c.loop-n-test.true in
    let at : ℕ = length gates - 1 - c.loop-n.n in
    let gate : Gate = slice_index_or gates at (record { place = 0; first = 0 }) in
    let here : slice_get gates at ≡ Some gate = slice_get-get_or gates at (record { place = 0; first = 0 }) (omega (arith, less)) in
    let late : c.args.from ≤ gate.first = omega (arith, c.if-gates-at.false) in (
      omega (arith, less),
      λ i g e le. elim (cases_lt at i) [
        | inl more ↦ inv.1 i g e (omega (arith, more, inv.0, less))
        | inr off ↦
            let same : at ≡ i = omega (arith, le, off, less) in
            subst (λ (u : Gate). c.args.from ≤ u.first) (same_Some _ _ (sym here ∙ ap (slice_get gates) same ∙ e)) late
      ],
    )
