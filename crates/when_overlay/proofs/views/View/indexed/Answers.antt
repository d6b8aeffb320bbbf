use Rattle.std.proofs.Common.{◌++◌, ◌∙◌, ap, sym, Some}
use Rattle.when_overlay.specs.Layered.{path}
use Rattle.when_overlay.proofs.Viewing.{rel_after}
use Rattle.when_overlay.proofs.Silence.{rows_ascend}
use Rattle.when_overlay.proofs.views.View.indexed.Goals as goal

pub new-requires-clause-ordered : goal.new-requires-clause-ordered
new-requires-clause-ordered c = rows_ascend c.args.self.now.base.now.catalogue c.args.self.now.base.now.state c.args.rel.0 c.indexed.result c.catalogue-state.ensures.valid c.indexed.ensures

pub returns : goal.returns
returns c =
    rel_after c.args.rel.0 c.args.self.now.base.now.state (c.args.self.now.commits.now ++ path c.args.self.now.layers.now.layers c.args.self.now.tip) c.indexed.result c.indexed.ensures
    ∙ ap Some (sym c.new.ensures)
