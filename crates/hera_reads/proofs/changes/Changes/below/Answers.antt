use Rattle.std.proofs.Common.{◌≡◌, ◌<◌, ◌∙◌, drop, length, ap, sym, subst}
use Rattle.std.proofs.lemmas.Bool.{ltb-false}
use Rattle.std.proofs.lemmas.Option.{none-some, slice_get_past}
use Rattle.hera_reads.specs.Branched.{Branches, under}
use Rattle.std.proofs.lemmas.Option.{get_or_from_slice_get}
use Rattle.hera_reads.proofs.Branching.{below, parent_found, under_below, below_within}
use Rattle.hera_reads.proofs.changes.Changes.below.Goals as goal

pub returns-in-Some-clause-below : goal.returns-in-Some-clause-below
returns-in-Some-clause-below c =
    let ls = c.self.inside.layers.layers in
    let tip = c.args.i in
    let within = subst (λ (r : Branches). c.args.i < length r.layers) (sym c.self.view_is) c.requires in
    let found = parent_found ls c.oldest_first.result.now tip (sym c.oldest_first.ensures ∙ c.self.invariant.1) within in
    let same = c.in-Some.ensures.lookup.1 ∙ get_or_from_slice_get c.oldest_first.result.now tip (below ls tip) c.in-Some.number.now found in
    subst (λ (r : Branches). under r.layers c.in-Some.number.now ≡ drop 1 (under r.layers c.args.i)) c.self.view_is
    (ap (under ls) same ∙ under_below ls tip c.self.invariant.0 c.len-count.ensures.valid within)

pub returns-in-Some-clause-within : goal.returns-in-Some-clause-within
returns-in-Some-clause-within c =
    let ls = c.self.inside.layers.layers in
    let tip = c.args.i in
    let within = subst (λ (r : Branches). c.args.i < length r.layers) (sym c.self.view_is) c.requires in
    let found = parent_found ls c.oldest_first.result.now tip (sym c.oldest_first.ensures ∙ c.self.invariant.1) within in
    let same = c.in-Some.ensures.lookup.1 ∙ get_or_from_slice_get c.oldest_first.result.now tip (below ls tip) c.in-Some.number.now found in
    subst (λ (r : Branches). c.in-Some.number.now < length r.layers) c.self.view_is
    (subst (λ k. k < length ls) (sym same) (below_within ls tip c.len-count.ensures.valid within))

pub returns-in-None-clause-below : goal.returns-in-None-clause-below
returns-in-None-clause-below c =
    let ls = c.self.inside.layers.layers in
    let tip = c.args.i in
    let within = subst (λ (r : Branches). c.args.i < length r.layers) (sym c.self.view_is) c.requires in
    let found = parent_found ls c.oldest_first.result.now tip (sym c.oldest_first.ensures ∙ c.self.invariant.1) within in
    absurd (none-some (below ls tip) (sym (slice_get_past c.oldest_first.result.now tip (ltb-false tip (length c.oldest_first.result.now) (sym c.in-None.ensures.lookup.0))) ∙ found))
