use Rattle.std.proofs.Common.{◌∙◌, sym, refl}
use Rattle.when_overlay.specs.Changed.{rows_after}
use Rattle.when_overlay.proofs.seeks.put_in_alone.Goals as goal

pub returns-then-is_bare : goal.returns-then-is_bare
returns-then-is_bare c =
    let bare = c.if-is_bare.ensures refl in
    c.in_ok-rows.ensures ∙ sym (λ j. rows_after c.args.rel.0 (bare j) (c.in_ok-delta.ensures j))
