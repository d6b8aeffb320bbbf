use Rattle.std.proofs.Common.{None, ◌∙◌, ap, subst, sym, refl, add-one, length, arith}
use Rattle.std.proofs.lemmas.List.{length-set}
use Rattle.hera_reads.proofs.Counting.{KnownFrom, none_put}
use Rattle.hera_reads.proofs.counts.Counts.forget.Goals as goal

pub loop-i-init : goal.loop-i-init
loop-i-init c = record { gone = λ r n e. omega arith; long = refl }

pub loop-i-preserved : goal.loop-i-preserved
loop-i-preserved c =
    let i = c.loop-i.i in
    record {
      gone = subst (λ k. KnownFrom k c.put.new.self) (sym (add-one i)) (subst (KnownFrom _) (sym c.put.ensures) (none_put c.loop-i.self i c.loop-i.invariant.gone));
      long = ap length c.put.ensures ∙ length-set c.loop-i.self i None ∙ c.loop-i.invariant.long;
    }
