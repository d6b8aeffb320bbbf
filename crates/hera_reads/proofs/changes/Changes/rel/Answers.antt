use Rattle.std.proofs.Common.{◌<◌, ◌∙◌, ap, sym, subst, length}
use Rattle.std.specs.Prelude.{slice_get}
use Rattle.hera_meaning.specs.Deltas.{State}
use Rattle.when_overlay.specs.Changed.{after_all}
use Rattle.when_overlay.specs.Layered.{AreLayers}
use Rattle.hera_reads.specs.Branched.{Branches, seen_at}
use Rattle.hera_reads.proofs.Branching.{read_state}
use Rattle.hera_reads.proofs.changes.Changes.rel.Goals as goal

pub returns : goal.returns
returns c =
    let s = c.base.result.now.state in
    let commits = c.commits.result.now in
    let ls = c.self.inside.layers.layers in
    let same = c.commits.ensures.state ∙ ap (λ (x : State). after_all x c.args.stored.now.commits) (sym c.base.ensures.state) ∙ ap (after_all s) (sym c.commits.ensures.commits) in
    let valid = subst (λ (r : Branches). AreLayers r.layers) (sym c.self.view_is) c.there.ensures.valid in
    let within = subst (λ (r : Branches). c.there.result < length r.layers) (sym c.self.view_is) c.there.ensures.within in
    ap (λ t. slice_get t c.args.rel.0) (sym (c.there.ensures.seen c.args.stored.now.state))
    ∙ ap (λ (x : State). slice_get (seen_at x c.args.self.now.layers c.there.result) c.args.rel.0) same
    ∙ ap (λ (r : Branches). slice_get (seen_at (after_all s commits) r.layers c.there.result) c.args.rel.0) (sym c.self.view_is)
    ∙ ap (λ t. slice_get t c.args.rel.0) (sym (read_state s commits ls c.there.result c.self.invariant.0 valid within))
    ∙ c.indexed.ensures
