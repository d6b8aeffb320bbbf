use Rattle.std.proofs.Common.{sym, ap}
use Rattle.hera_meaning.specs.Shapes.{body_types}
use Rattle.hera_rules.specs.Environments.{env_of}
use Rattle.hera_rules.specs.ReadActs.{return_act}
use Rattle.hera_shapes.proofs.Adding.{with_none, same_act}
use Rattle.hera_shapes.proofs.acts.returned.Goals as goal

pub returns-in-None-clause-found : goal.returns-in-None-clause-found
returns-in-None-clause-found c =
    let shapes = body_types c.args.shapes.now in
    same_act (env_of c.args.globals.now) c.args.scope.now.locals.items c.args.scope.now.next shapes shapes (ap (λ v. return_act c.args.word.now v) c.in-None.is) (sym (with_none shapes))
