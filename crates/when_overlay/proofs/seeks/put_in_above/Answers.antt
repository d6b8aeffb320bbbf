use Rattle.std.proofs.Common.{◌∙◌, ap, sym, refl}
use Rattle.when_overlay.specs.Layered.{path}
use Rattle.when_overlay.specs.Seeking.{first_of, passes}
use Rattle.when_overlay.proofs.Silence.{same_signs, same_puts}
use Rattle.when_overlay.proofs.seeks.put_in_above.Goals as goal

pub returns-clause-next : goal.returns-clause-next
returns-clause-next c =
    let ls = c.args.layers.now.layers in
    let commits = c.args.commits.now in
    c.put_in_from.ensures.next
    ∙ ap (first_of (passes c.args.sought)) (same_puts c.args.rel.0 commits (path ls c.newest_naming-newest.result) (path ls c.args.tip) c.newest_naming-newest.ensures.puts)

pub returns-clause-own : goal.returns-clause-own
returns-clause-own c = λ q found.
    let ls = c.args.layers.now.layers in
    let commits = c.args.commits.now in
    sym (same_signs c.args.rel.0 commits commits (path ls c.newest_naming-newest.result) (path ls c.args.tip) (λ _. refl) c.newest_naming-newest.ensures.signs q)
    ∙ c.put_in_from.ensures.own q found
