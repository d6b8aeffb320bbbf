use Rattle.std.proofs.Common.{◌∙◌, ◌≡◌, length, ap, sym, subst, arith, Some}
use Rattle.std.specs.Prelude.{slice_get, slice_set}
use Rattle.std.specs.Option.{option_map}
use Rattle.std.proofs.lemmas.Option.{slice_get-get_or}
use Rattle.hera_meaning.specs.Deltas.{Delta}
use Rattle.when_overlay.specs.declared.layers.Layer.{Layer}
use Rattle.when_overlay.specs.Layered.{Pile, AreLayers, newest_first, delta_at, with_delta}
use Rattle.when_overlay.proofs.Layering.{newest_first-length, newest_first-set, layer_at-get, with_delta-valid}
use Rattle.when_overlay.proofs.layers.Layers.replace.Goals as goal

pub index_mut-requires : goal.index_mut-requires
index_mut-requires c =
    let long = newest_first-length c.self.inside.items.items in
    let seen = ap (λ (p : Pile). length p.layers) c.self.view_is in
    omega (arith, c.requires.there, long, seen, c.self.inside.items.ok.0)

there : (c : goal.After-self-1) → slice_get c.self.inside.items.items c.args.i ≡ Some c.index_mut.result.now
there c =
    let long = newest_first-length c.self.inside.items.items in
    let seen = ap (λ (p : Pile). length p.layers) c.self.view_is in
    slice_get-get_or c.self.inside.items.items c.args.i c.index_mut.result.now (omega (arith, c.requires.there, long, seen)) ∙ ap Some (sym c.index_mut.ensures.value)

replaced : (c : goal.After-self-1) → newest_first (slice_set c.self.inside.items.items c.args.i (record { parent = c.index_mut.result.now.parent; delta = c.replace.new.dest })) ≡ with_delta (newest_first c.self.inside.items.items) c.args.i c.args.delta
replaced c =
    ap (λ (d : Delta). newest_first (slice_set c.self.inside.items.items c.args.i (record { parent = c.index_mut.result.now.parent; delta = d }))) c.replace.ensures.after
    ∙ newest_first-set c.self.inside.items.items c.args.i c.index_mut.result.now c.args.delta (there c)

pub invariant_of-self : goal.invariant_of-self
invariant_of-self c = subst AreLayers (sym (replaced c)) (with_delta-valid (newest_first c.self.inside.items.items) c.args.i c.args.delta c.requires.known c.self.invariant)

pub returns-clause-old : goal.returns-clause-old
returns-clause-old c =
    ap (λ (p : Pile). delta_at p.layers c.args.i) (sym c.self.view_is)
    ∙ ap (λ o. option_map (λ (l : Layer). l.delta) o) (layer_at-get c.self.inside.items.items c.args.i ∙ there c)
    ∙ ap Some (sym c.replace.ensures.value)

pub returns-clause-layers : goal.returns-clause-layers
returns-clause-layers c = replaced c ∙ ap (λ (p : Pile). with_delta p.layers c.args.i c.args.delta) c.self.view_is
