use Rattle.std.proofs.Common.{◌≡◌, ◌++◌, ◌∙◌, Option, Some, IfSome, true, ap, sym, refl, subst}
use Rattle.hera_meaning.specs.declared.scalars.Sign.TheVariants.{Plus}
use Rattle.when_overlay.specs.declared.layers.Layer.{Layer}
use Rattle.when_overlay.specs.Layered.{path}
use Rattle.when_overlay.specs.Seeking.{later, sign_in, sign_over, stands}
use Rattle.when_overlay.proofs.seeks.is_kept_under.Goals as goal

pub returns-then-is_that : goal.returns-then-is_that
returns-then-is_that c = rw c.in-Some.is (ap (λ o. stands o true) (sym (c.requires.put_in c.in-Some.row.now (c.if-is_that.ensures refl))))

pub returns-then-is_that-2 : goal.returns-then-is_that-2
returns-then-is_that-2 c =
    let all = c.args.commits.now ++ path c.args.layers.now.layers (Some c.args.i) in
    let q = c.in-Some.row.now in
    let said = subst (λ (o : Option Layer). IfSome o (λ l. sign_over c.args.rel.0 all q ≡ later (sign_in c.args.rel.0 l.delta q) (Some Plus))) c.layer.ensures.layer (c.requires.below q (c.if-is_that-2.ensures refl)) in
    rw c.in-Some.is (c.is_left.ensures ∙ ap (λ o. stands o true) (sym said))
