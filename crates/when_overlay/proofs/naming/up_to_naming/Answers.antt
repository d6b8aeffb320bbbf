use Rattle.std.proofs.Common.{◌≡◌, ◌++◌, ◌∷◌, [], ◌∙◌, refl}
use Rattle.when_overlay.proofs.Signing.{sign_lower}
use Rattle.when_overlay.proofs.Silence.{named_lower}
use Rattle.when_overlay.proofs.naming.up_to_naming.Goals as goal

pub loop-last-preserved : goal.loop-last-preserved
loop-last-preserved c =
    let r = c.args.rel.0 in
    let whole : c.loop-last.rest.now ≡ c.in-Some.below.now ++ c.in-Some.last.now ∷ [] = c.in-Some.ensures.cases.0 in
    record {
      signs = λ q. sign_lower r c.loop-last.rest.now c.in-Some.below.now c.in-Some.last.now q whole (c.if-names.ensures.signs refl q) ∙ c.loop-last.invariant.signs q;
      puts = named_lower r c.loop-last.rest.now c.in-Some.below.now c.in-Some.last.now whole (c.if-names.ensures.puts refl) ∙ c.loop-last.invariant.puts;
    }
