use Rattle.std.proofs.Common.{◌≡◌, ◌∙◌, length, min}
use Rattle.hera_rules.specs.Environments.{env_of}
use Rattle.hera_rules.specs.ReadActs.{func_phrase}
use Rattle.hera_types.specs.Passes.{bodies_of}
use Rattle.hera_types.proofs.Turns.{func_bodies_end, past_one}
use Rattle.hera_types.proofs.bodies.func_bodies.Goals as goal

pub returns : goal.returns
returns c =
    let sigs = c.args.sigs.now in
    let trees = c.args.trees.now in
    let count : c.min-count.result ≡ min (length trees) (length sigs) = c.min-count.ensures in
    c.loop-i.invariant
    ∙ func_bodies_end (env_of c.args.globals.now) func_phrase sigs trees c.loop-i.i (bodies_of c.loop-i.bodies)
    (past_one (length trees) (length sigs) c.min-count.result c.loop-i.i count c.loop-i-test.false)
