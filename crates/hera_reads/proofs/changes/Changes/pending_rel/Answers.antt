use Rattle.std.proofs.Common.{◌∙◌, ap, sym, subst, refl}
use Rattle.std.specs.Prelude.{slice_get}
use Rattle.hera_meaning.specs.Deltas.{State}
use Rattle.hera_reads.specs.Branched.{Branches, IsTree}
use Rattle.hera_reads.proofs.Counting.{seen_root}
use Rattle.hera_reads.proofs.changes.Changes.pending_rel.Goals as goal

pub returns : goal.returns
returns c =
    let tree = subst (λ (r : Branches). IsTree r.layers) c.self.view_is c.self.invariant.0 in
    ap (λ (x : State). slice_get x c.args.rel.0) (sym (seen_root c.args.stored.now.state c.args.self.now.layers 0 tree refl)) ∙ c.rel.ensures
