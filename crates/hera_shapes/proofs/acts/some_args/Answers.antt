use Rattle.std.proofs.Common.{sym, ap}
use Rattle.hera_meaning.specs.Shapes.{body_types}
use Rattle.hera_rules.specs.Environments.{env_of}
use Rattle.hera_rules.specs.ReadActs.{some_args as args_of}
use Rattle.hera_shapes.proofs.Adding.{all_end}
use Rattle.hera_shapes.proofs.acts.some_args.Goals as goal

pub returns-in-None-clause-found : goal.returns-in-None-clause-found
returns-in-None-clause-found c = sym (all_end (env_of c.args.globals.now) c.args.scope.now.locals.items c.args.scope.now.next (body_types c.args.shapes.now) (ap (λ l. args_of l) c.in-None.is))
