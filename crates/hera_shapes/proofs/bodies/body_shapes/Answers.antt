use Rattle.hera_meaning.specs.Shapes.{body_types}
use Rattle.hera_rules.specs.Environments.{env_of}
use Rattle.hera_rules.specs.ReadActs.{block_acts}
use Rattle.hera_shapes.proofs.Begun.{body_whole}
use Rattle.hera_shapes.proofs.bodies.body_shapes.Goals as goal

pub returns : goal.returns
returns c =
    let begun = c.in_ok-scope.scope in
    body_whole (env_of c.args.globals.now) c.args.params.now c.args.returned (block_acts c.args.e.now) begun.locals.items begun.next (body_types c.in_ok-shapes.shapes) (body_types c.block.new.shapes)
    c.in_ok-shapes.ensures c.in_ok-scope.ensures.locals c.in_ok-scope.ensures.next c.in_ok-block.ensures.found
