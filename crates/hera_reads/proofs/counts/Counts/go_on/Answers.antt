use Rattle.std.proofs.Common.{◌∙◌, ap, subst, sym, refl, add-one, length}
use Rattle.hera_meaning.specs.Deltas.{apply_of}
use Rattle.hera_reads.specs.Branched.{pending_of}
use Rattle.std.proofs.lemmas.List.{length-set}
use Rattle.hera_reads.proofs.Counting.{AreBetween, between_start, between_put}
use Rattle.hera_reads.proofs.counts.Counts.go_on.Goals as goal

pub loop-i-init : goal.loop-i-init
loop-i-init c =
    let s = apply_of c.args.stored.now.state (pending_of c.args.changes.now.layers) in
    record { gone = between_start s (apply_of s c.args.delta.now) c.args.self.now c.requires; long = refl }

pub loop-i-preserved : goal.loop-i-preserved
loop-i-preserved c =
    let s = apply_of c.args.stored.now.state (pending_of c.args.changes.now.layers) in
    let t = apply_of s c.args.delta.now in
    let i = c.loop-i.i in
    record {
      gone = subst (λ k. AreBetween s t k c.put.new.self) (sym (add-one i)) (subst (AreBetween s t _) (sym c.put.ensures) (between_put s t c.loop-i.self i c.next-next.result c.loop-i.invariant.gone c.next-next.ensures));
      long = ap length c.put.ensures ∙ length-set c.loop-i.self i c.next-next.result ∙ c.loop-i.invariant.long;
    }
