use Rattle.std.proofs.Common.{◌≡◌, ◌++◌, ◌∷◌, [], ◌∙◌, ap, sym, subst, Option, Some, IfSome, append_assoc}
use Rattle.hera_meaning.specs.declared.scalars.Sign.TheVariants.{Plus}
use Rattle.when_overlay.specs.declared.layers.Layer.{Layer}
use Rattle.when_overlay.specs.Seeking.{later, sign_in, sign_over, passes}
use Rattle.std.specs.Option.{option_copied}
use Rattle.hera_sets.specs.Sets.{least_of}
use Rattle.when_overlay.specs.Layered.{path}
use Rattle.when_overlay.proofs.Layering.{path_step, parent_tip}
use Rattle.when_overlay.proofs.Meeting.{next_newest, newest_sign, last_sign}
use Rattle.when_overlay.proofs.seeks.met_under.Goals as goal

pub met_near-near-requires : goal.met_near-near-requires
met_near-near-requires c =
    let ls = c.args.layers.now.layers in
    let l = c.layer-newest.result.now in
    parent_tip ls c.args.i l (path_step ls c.args.i l c.layer-newest.ensures.valid c.layer-newest.ensures.layer)

pub is_kept_under-requires-clause-put_in : goal.is_kept_under-requires-clause-put_in
is_kept_under-requires-clause-put_in c = λ q found.
    let ls = c.args.layers.now.layers in
    let l = c.layer-newest.result.now in
    let s = path_step ls c.args.i l c.layer-newest.ensures.valid c.layer-newest.ensures.layer in
    let under = c.args.commits.now ++ path ls l.parent in
    let whole = ap (λ ds. c.args.commits.now ++ ds) s.step ∙ sym (append_assoc c.args.commits.now (path ls l.parent) (l.delta ∷ [])) in
    newest_sign (passes c.args.sought) c.args.rel.0 under (c.args.commits.now ++ path ls (Some c.args.i)) l.delta (option_copied c.put_in_near-own.result.row) q whole c.put_in_near-own.ensures.valid c.put_in_near-own.ensures.next found

pub is_kept_under-requires-clause-below : goal.is_kept_under-requires-clause-below
is_kept_under-requires-clause-below c = λ q found.
    let ls = c.args.layers.now.layers in
    let l = c.layer-newest.result.now in
    let s = path_step ls c.args.i l c.layer-newest.ensures.valid c.layer-newest.ensures.layer in
    let under = c.args.commits.now ++ path ls l.parent in
    let all = c.args.commits.now ++ path ls (Some c.args.i) in
    let whole = ap (λ ds. c.args.commits.now ++ ds) s.step ∙ sym (append_assoc c.args.commits.now (path ls l.parent) (l.delta ∷ [])) in
    subst (λ (o : Option Layer). IfSome o (λ k. sign_over c.args.rel.0 all q ≡ later (sign_in c.args.rel.0 k.delta q) (Some Plus))) (sym c.layer-newest.ensures.layer)
    (last_sign c.args.rel.0 under all l.delta q whole (c.met_near-near.ensures.own q found))

pub returns-clause-next : goal.returns-clause-next
returns-clause-next c =
    let ls = c.args.layers.now.layers in
    let l = c.layer-newest.result.now in
    let s = path_step ls c.args.i l c.layer-newest.ensures.valid c.layer-newest.ensures.layer in
    let under = c.args.commits.now ++ path ls l.parent in
    let whole = ap (λ ds. c.args.commits.now ++ ds) s.step ∙ sym (append_assoc c.args.commits.now (path ls l.parent) (l.delta ∷ [])) in
    c.lesser-row.ensures
    ∙ (λ j. least_of (c.met_near-near.ensures.next j) (c.put_in_near-own.ensures.next j))
    ∙ next_newest (passes c.args.sought) c.args.rel.0 c.args.pages.now under (c.args.commits.now ++ path ls (Some c.args.i)) l.delta whole
