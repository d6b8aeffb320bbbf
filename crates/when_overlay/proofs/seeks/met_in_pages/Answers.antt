use Rattle.std.proofs.Common.{◌≡◌, ◌++◌, ◌∙◌, true, Option, None, Some, IfSome}
use Rattle.when_overlay.specs.Layered.{path}
use Rattle.when_overlay.specs.Seeking.{sign_over, stands, passes}
use Rattle.when_overlay.proofs.Layering.{path_bare}
use Rattle.when_overlay.proofs.Meeting.{met_alone, kept_alone}
use Rattle.when_overlay.proofs.seeks.met_in_pages.Goals as goal

pub returns-clause-next : goal.returns-clause-next
returns-clause-next c =
    let ls = c.args.layers.now.layers in
    let none = path_bare ls c.args.commits.now c.requires in
    c.pages_near-near.ensures.next ∙ met_alone (passes c.args.sought) c.args.rel.0 c.args.pages.now (c.args.commits.now ++ path ls None) c.pages_near-near.ensures.ordered none

some : {X : Type 0} (P : X → Type 0) (o : Option X) → ((x : X) → P x) → IfSome o P
some P None f = tt
some P (Some x) f = f x

pub returns-clause-kept : goal.returns-clause-kept
returns-clause-kept c =
    let ds = c.args.commits.now ++ path c.args.layers.now.layers None in
    some (λ row. true ≡ stands (sign_over c.args.rel.0 ds row.now) true) c.pages_near-near.result.row (λ row. kept_alone c.args.rel.0 ds row.now (path_bare c.args.layers.now.layers c.args.commits.now c.requires))
