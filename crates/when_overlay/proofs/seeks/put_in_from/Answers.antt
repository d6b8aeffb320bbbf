use Rattle.std.proofs.Common.{◌++◌, ◌∙◌, ap, sym}
use Rattle.hera_meaning.specs.declared.scalars.Sign.TheVariants.{Plus}
use Rattle.when_overlay.specs.Layered.{path}
use Rattle.when_overlay.specs.Seeking.{named, first_of, sign_over, passes}
use Rattle.when_overlay.proofs.Layering.{path_end}
use Rattle.when_overlay.proofs.seeks.put_in_from.Goals as goal

pub returns-in-None-clause-next : goal.returns-in-None-clause-next
returns-in-None-clause-next c =
    let end = ap (λ t. c.args.commits.now ++ path c.args.layers.now.layers t) c.in-None.is ∙ path_end c.args.layers.now.layers c.args.commits.now in
    c.put_in_by_commits.ensures.next ∙ ap (λ ds. first_of (passes c.args.sought) (named c.args.rel.0 Plus ds)) (sym end)

pub returns-in-None-clause-own : goal.returns-in-None-clause-own
returns-in-None-clause-own c = λ q found.
    let end = ap (λ t. c.args.commits.now ++ path c.args.layers.now.layers t) c.in-None.is ∙ path_end c.args.layers.now.layers c.args.commits.now in
    ap (λ ds. sign_over c.args.rel.0 ds q) end ∙ c.put_in_by_commits.ensures.own q found
