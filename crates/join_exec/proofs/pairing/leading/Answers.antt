use Rattle.std.proofs.Common.{◌≡◌, ℕ, List, true, sym, ◌∙◌, subst}
use Rattle.rel_algebra.specs.Fronts.{begins}
use Rattle.join_exec.proofs.PairLemmas.{leading_more, leading_stops, leading_ends, agree_begins}
use Rattle.join_exec.proofs.pairing.leading.Goals as goal

pub returns-in-None-clause-fields : goal.returns-in-None-clause-fields
returns-in-None-clause-fields c =
    c.from_vec.ensures
    ∙ leading_stops c.args.left.now c.args.right.now c.args.places.now c.args.row.now c.loop-place.front.items c.loop-place.place c.requires.places c.in-None.ensures
    ∙ c.loop-place.invariant

pub returns-in-None-clause-sought : goal.returns-in-None-clause-sought
returns-in-None-clause-sought c = λ other h.
    let P : List ℕ → Type 0 = λ front. begins front other ≡ true in
    subst P (sym (
    c.from_vec.ensures
    ∙ leading_stops c.args.left.now c.args.right.now c.args.places.now c.args.row.now c.loop-place.front.items c.loop-place.place c.requires.places c.in-None.ensures
    ∙ c.loop-place.invariant
    )) (agree_begins c.args.left.now c.args.right.now c.args.row.now other c.requires.places.distinct h)

pub loop-place-preserved : goal.loop-place-preserved
loop-place-preserved c =
    leading_more c.args.left.now c.args.right.now c.args.places.now c.args.row.now c.loop-place.front.items c.piece.result.now c.extend_from_slice.new.self.items c.loop-place.place c.in-Some.ours c.requires.places c.in-Some.ensures c.piece.ensures c.in_ok-extend_from_slice-in-Some.ensures.items
    ∙ c.loop-place.invariant

pub returns-clause-fields : goal.returns-clause-fields
returns-clause-fields c =
    c.from_vec-2.ensures ∙ leading_ends c.args.left.now c.args.right.now c.args.places.now c.args.row.now c.loop-place.front.items c.loop-place.place c.requires.places c.loop-place-test.false ∙ c.loop-place.invariant

pub returns-clause-sought : goal.returns-clause-sought
returns-clause-sought c = λ other h.
    let P : List ℕ → Type 0 = λ front. begins front other ≡ true in
    subst P (sym (c.from_vec-2.ensures ∙ leading_ends c.args.left.now c.args.right.now c.args.places.now c.args.row.now c.loop-place.front.items c.loop-place.place c.requires.places c.loop-place-test.false ∙ c.loop-place.invariant))
    (agree_begins c.args.left.now c.args.right.now c.args.row.now other c.requires.places.distinct h)
