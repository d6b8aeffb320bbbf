use Rattle.std.proofs.Common.{◌<◌, ◌∙◌, ap, sym, subst, length}
use Rattle.std.proofs.lemmas.Option.{same_Some}
use Rattle.hera_meaning.specs.Deltas.{is_fail}
use Rattle.when_overlay.proofs.Layering.{with_delta-length}
use Rattle.hera_reads.specs.Branched.{Branches, IsTree, AreKnown, pending_of, under, parents_of}
use Rattle.hera_reads.proofs.Branching.{tree_with, pending_with, under_with, parents_with, pending_at, pending_known}
use Rattle.hera_meaning.specs.Fits.{is_delta_of}
use Rattle.hera_reads.proofs.Known.{with_known, known_at}
use Rattle.hera_reads.proofs.changes.Changes.replace_pending.Goals as goal

pub invariant_of-self : goal.invariant_of-self
invariant_of-self c =
    let ls = c.self.inside.layers.layers in (
      subst IsTree (sym c.replace.ensures.layers) (tree_with ls c.args.delta c.self.invariant.0),
      c.self.invariant.1 ∙ sym (ap parents_of c.replace.ensures.layers ∙ parents_with ls 0 c.args.delta),
      subst (λ n. c.self.inside.tip < n) (sym (ap length c.replace.ensures.layers ∙ with_delta-length ls 0 c.args.delta)) c.self.invariant.2,
      subst (AreKnown c.self.inside.catalogue.now) (sym c.replace.ensures.layers) (with_known c.self.inside.catalogue.now ls 0 c.args.delta (ap (λ (r : Branches). is_delta_of r.catalogue c.args.delta) c.self.view_is ∙ c.requires.of) c.self.invariant.3),
    )

pub returns-clause-old : goal.returns-clause-old
returns-clause-old c =
    same_Some c.replace.result (pending_of c.self.inside.layers.layers) (sym c.replace.ensures.old ∙ pending_at c.self.inside.layers.layers c.self.invariant.0)
    ∙ ap (λ (r : Branches). pending_of r.layers) c.self.view_is

pub returns-clause-known : goal.returns-clause-known
returns-clause-known c =
    ap is_fail (same_Some c.replace.result (pending_of c.self.inside.layers.layers) (sym c.replace.ensures.old ∙ pending_at c.self.inside.layers.layers c.self.invariant.0))
    ∙ pending_known c.self.inside.layers.layers c.self.invariant.0 c.len-count.ensures.valid

pub returns-clause-pending : goal.returns-clause-pending
returns-clause-pending c = ap pending_of c.replace.ensures.layers ∙ pending_with c.self.inside.layers.layers c.args.delta c.self.invariant.0

pub returns-clause-others : goal.returns-clause-others
returns-clause-others c = λ k.
    ap (λ ls. under ls k) c.replace.ensures.layers ∙ under_with c.self.inside.layers.layers c.args.delta k c.self.invariant.0
    ∙ ap (λ (r : Branches). under r.layers k) c.self.view_is

pub returns-clause-count : goal.returns-clause-count
returns-clause-count c =
    ap length c.replace.ensures.layers ∙ with_delta-length c.self.inside.layers.layers 0 c.args.delta ∙ ap (λ (r : Branches). length r.layers) c.self.view_is

pub returns-clause-of : goal.returns-clause-of
returns-clause-of c =
    ap (λ (r : Branches). is_delta_of r.catalogue c.replace.result) (sym c.self.view_is)
    ∙ known_at c.self.inside.catalogue.now c.self.inside.layers.layers 0 c.replace.result c.self.invariant.3 c.replace.ensures.old
