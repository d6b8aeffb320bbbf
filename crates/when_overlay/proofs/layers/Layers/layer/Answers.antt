use Rattle.std.proofs.Common.{◌∙◌, length, ap, sym, arith, Some}
use Rattle.std.proofs.lemmas.Option.{slice_get-get_or}
use Rattle.when_overlay.specs.Layered.{Pile, layer_at}
use Rattle.when_overlay.proofs.Layering.{newest_first-length, layer_at-get}
use Rattle.when_overlay.proofs.layers.Layers.layer.Goals as goal

pub index-requires : goal.index-requires
index-requires c =
    let long = newest_first-length c.self.inside.items.items in
    let seen = ap (λ (p : Pile). length p.layers) c.self.view_is in
    omega (arith, c.requires, long, seen, c.self.inside.items.ok.0)

pub returns-clause-layer : goal.returns-clause-layer
returns-clause-layer c =
    let long = newest_first-length c.self.inside.items.items in
    let seen = ap (λ (p : Pile). length p.layers) c.self.view_is in
    ap (λ (p : Pile). layer_at p.layers c.args.i) (sym c.self.view_is) ∙ layer_at-get c.self.inside.items.items c.args.i
    ∙ slice_get-get_or c.self.inside.items.items c.args.i c.index.result.now (omega (arith, c.requires, long, seen)) ∙ ap Some (sym c.index.ensures)
