use Rattle.std.proofs.Common.{ap, sym, refl}
use Rattle.when_overlay.specs.Seeking.{stands}
use Rattle.std.specs.Prelude.{true}
use Rattle.when_overlay.proofs.seeks.is_kept_of.Goals as goal

pub returns-then-is_that : goal.returns-then-is_that
returns-then-is_that c = rw c.in-Some.is (ap (λ o. stands o true) (sym (c.requires.put_in c.in-Some.row.now (c.if-is_that.ensures refl))))
