use Rattle.std.proofs.Common.{List, None, sym, subst}
use Rattle.hera_meaning.specs.Deltas.{IsState}
use Rattle.when_overlay.specs.Changed.{after_all}
use Rattle.when_overlay.specs.Layered.{path}
use Rattle.when_overlay.specs.declared.layers.Layer.{Layer}
use Rattle.text_trials.proofs.guard_lines.stored_break.Goals as goal

-- without layers the state is the base's
pub test_all-requires-clause-state : goal.test_all-requires-clause-state
test_all-requires-clause-state g c =
    subst (λ (ls : List Layer). IsState c.args.base.now.catalogue (after_all c.args.base.now.state (path ls None))) (sym c.new-layers.ensures) c.requires.state
