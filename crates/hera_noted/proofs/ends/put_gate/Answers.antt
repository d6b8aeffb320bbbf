-- The nearest gates are dropped, to which no way leads from before the place.
use Rattle.std.proofs.Common.{◌≡◌, ◌<◌, ◌≤◌, ◌+◌, ℕ, List, length, Some, subst, arith}
use Rattle.std.specs.Prelude.{slice_get, slice_index_or}
use Rattle.std.proofs.lemmas.Option.{slice_get-get_or}
use Rattle.hera_noted.specs.declared.ways.Sources.{Sources}
use Rattle.hera_noted.specs.declared.ends.Gate.{Gate}
use Rattle.hera_noted.proofs.Ending.{gates_same, gates_more}
use Rattle.hera_noted.proofs.ends.put_gate.Goals as goal

pub returns-then-from-first : goal.returns-then-from-first
returns-then-from-first c =
    let all = c.args.all.now in
    let none : Sources = record { first = 0; last = 0 } in
    let s : Sources = slice_index_or all c.args.from none in
    let kept = c.count_kept-kept.result in
    let value = c.as_slice.ensures.value in
    let within = subst (λ (gs : List Gate). kept ≤ length gs) value c.count_kept-kept.ensures.within in
    let dropped = subst (λ (gs : List Gate). (i : ℕ) (g : Gate) → slice_get gs i ≡ Some g → kept ≤ i → c.args.from ≤ g.first) value c.count_kept-kept.ensures.dropped in
    let last = subst (λ (gs : List Gate). (i : ℕ) (g : Gate) → slice_get gs i ≡ Some g → i + 1 ≡ kept → g.first < c.args.from) value c.count_kept-kept.ensures.last in
    rw c.truncate.ensures.items (gates_same all c.args.from kept s c.args.gates.now.items (slice_get-get_or all c.args.from none c.requires.from) (omega (arith, c.if-from-first.true)) within dropped last c.requires.gates)

pub returns : goal.returns
returns c =
    let all = c.args.all.now in
    let none : Sources = record { first = 0; last = 0 } in
    let s : Sources = slice_index_or all c.args.from none in
    let kept = c.count_kept-kept.result in
    let value = c.as_slice.ensures.value in
    let within = subst (λ (gs : List Gate). kept ≤ length gs) value c.count_kept-kept.ensures.within in
    let dropped = subst (λ (gs : List Gate). (i : ℕ) (g : Gate) → slice_get gs i ≡ Some g → kept ≤ i → c.args.from ≤ g.first) value c.count_kept-kept.ensures.dropped in
    let last = subst (λ (gs : List Gate). (i : ℕ) (g : Gate) → slice_get gs i ≡ Some g → i + 1 ≡ kept → g.first < c.args.from) value c.count_kept-kept.ensures.last in
    rw (c.in_ok-push.ensures.items, c.truncate.ensures.items) (gates_more all c.args.from kept s c.args.gates.now.items (slice_get-get_or all c.args.from none c.requires.from) (omega (arith, c.if-from-first.false)) within dropped last c.requires.gates)
