use Rattle.std.proofs.Common.{◌∙◌, ap, sym}
use Rattle.when_overlay.specs.Layered.{path}
use Rattle.when_overlay.specs.Seeking.{later, sign_over}
use Rattle.when_overlay.proofs.Signing.{sign_over-append}
use Rattle.when_overlay.proofs.signs.sign_of.Goals as goal

pub returns-in-Some : goal.returns-in-Some
returns-in-Some c =
    sym (sign_over-append c.args.rel.0 c.args.commits.now (path c.args.layers.now.layers c.args.tip) c.args.row.now
    ∙ ap (λ o. later o (sign_over c.args.rel.0 c.args.commits.now c.args.row.now)) (sym c.in-Some.ensures))

pub returns-in-None : goal.returns-in-None
returns-in-None c =
    c.sign_over.ensures
    ∙ sym (sign_over-append c.args.rel.0 c.args.commits.now (path c.args.layers.now.layers c.args.tip) c.args.row.now
    ∙ ap (λ o. later o (sign_over c.args.rel.0 c.args.commits.now c.args.row.now)) (sym c.in-None.ensures))
