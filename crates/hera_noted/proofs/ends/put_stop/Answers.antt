-- The nearest stops are dropped, up to which a way leads to the place from behind.
use Rattle.std.proofs.Common.{◌≡◌, ◌<◌, ◌≤◌, ℕ, List, Some, sym, subst}
use Rattle.std.specs.Prelude.{slice_get, slice_index_or}
use Rattle.std.proofs.lemmas.Option.{slice_get-get_or}
use Rattle.hera_noted.specs.declared.ways.Sources.{Sources}
use Rattle.hera_noted.specs.Ends.{Fall}
use Rattle.hera_noted.proofs.Ending.{stops_more}
use Rattle.hera_noted.proofs.ends.put_stop.Goals as goal

pub count_above-kept-requires : goal.count_above-kept-requires
count_above-kept-requires c = subst (λ xs. Fall xs) (sym c.as_slice.ensures.value) c.requires.stops.fall

pub returns : goal.returns
returns c =
    let all = c.args.all.now in
    let none : Sources = record { first = 0; last = 0 } in
    let s : Sources = slice_index_or all c.args.from none in
    let kept = c.count_above-kept.result in
    let above = subst (λ (xs : List ℕ). (i p : ℕ) → slice_get xs i ≡ Some p → i < kept → s.last < p) c.as_slice.ensures.value c.count_above-kept.ensures.above in
    let rest = subst (λ (xs : List ℕ). (i p : ℕ) → slice_get xs i ≡ Some p → kept ≤ i → p ≤ s.last) c.as_slice.ensures.value c.count_above-kept.ensures.rest in
    rw (c.in_ok-push.ensures.items, c.truncate.ensures.items) (stops_more all c.args.from kept s c.args.stops.now.items (slice_get-get_or all c.args.from none c.requires.from) above rest c.requires.stops)
