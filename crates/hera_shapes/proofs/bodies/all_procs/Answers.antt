use Rattle.std.proofs.Common.{◌≡◌, ◌∙◌, length, map, min}
use Rattle.hera_meaning.specs.Shapes.{body_types}
use Rattle.hera_rules.specs.Environments.{env_of}
use Rattle.hera_rules.specs.ReadActs.{proc_phrase}
use Rattle.hera_types.proofs.Turns.{past_one}
use Rattle.hera_shapes.proofs.Begun.{procs_end}
use Rattle.hera_shapes.proofs.bodies.all_procs.Goals as goal

pub returns : goal.returns
returns c =
    let sigs = c.args.sigs.now in
    let trees = c.args.trees.now in
    let count : c.min-count.result ≡ min (length trees) (length sigs) = c.min-count.ensures in
    procs_end (env_of c.args.globals.now) proc_phrase sigs trees c.loop-i.i (map body_types c.loop-i.all.items) (past_one (length trees) (length sigs) c.min-count.result c.loop-i.i count c.loop-i-test.false)
    ∙ c.loop-i.invariant
