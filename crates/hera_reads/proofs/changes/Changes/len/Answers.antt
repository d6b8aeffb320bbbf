use Rattle.std.proofs.Common.{◌∙◌, ap, sym}
use Rattle.hera_meaning.specs.Deltas.{is_fail}
use Rattle.hera_reads.specs.Branched.{Branches, pending_of}
use Rattle.hera_meaning.specs.Fits.{is_delta_of}
use Rattle.hera_reads.proofs.Branching.{pending_known}
use Rattle.hera_reads.proofs.Known.{pending_of_known}
use Rattle.hera_reads.proofs.changes.Changes.len.Goals as goal

pub returns-clause-known : goal.returns-clause-known
returns-clause-known c =
    ap (λ (r : Branches). is_fail (pending_of r.layers)) (sym c.self.view_is) ∙ pending_known c.self.inside.layers.layers c.self.invariant.0 c.len.ensures.valid

pub returns-clause-of : goal.returns-clause-of
returns-clause-of c =
    ap (λ (r : Branches). is_delta_of r.catalogue (pending_of r.layers)) (sym c.self.view_is) ∙ pending_of_known c.self.inside.catalogue.now c.self.inside.layers.layers c.self.invariant.3
