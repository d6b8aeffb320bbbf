use Rattle.std.proofs.Common.{refl, sym, subst, arith}
use Rattle.std.proofs.lemmas.Bool.{ltb-true, lt-ltb, leb-true, le-leb}
use Rattle.hera_verify.specs.Slots.{Below}
use Rattle.hera_verify.proofs.Reaching.{reached, is_reached}
use Rattle.hera_verify.proofs.reaches.Reach.has.Goals as goal

pub returns-in-None : goal.returns-in-None
returns-in-None c code k lt reach = (λ t. reached code k c.args.at c.args.self lt reach c.if-self-at.true (subst (λ o. Below o c.args.at) (sym c.in-None.is) tt), λ h. refl)

pub returns-in-Some : goal.returns-in-Some
returns-in-Some c code k lt reach = (
  λ t. reached code k c.args.at c.args.self lt reach c.if-self-at.true (subst (λ o. Below o c.args.at) (sym c.in-Some.is) (ltb-true c.args.at c.in-Some.to t)),
  λ h. lt-ltb c.args.at c.in-Some.to (subst (λ o. Below o c.args.at) c.in-Some.is (is_reached code k c.args.at c.args.self reach h).1),
)

pub returns-else-self-at : goal.returns-else-self-at
returns-else-self-at c code k lt reach = (
  λ t. let low = leb-true c.args.self.from c.args.at t in absurd (omega (arith, low, c.if-self-at.false)),
  λ h. le-leb c.args.self.from c.args.at (is_reached code k c.args.at c.args.self reach h).0,
)
