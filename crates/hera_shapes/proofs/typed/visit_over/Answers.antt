use Rattle.hera_rules.specs.Environments.{env_of}
use Rattle.hera_rules.specs.Read.{expr_phrase, word_of}
use Rattle.hera_shapes.proofs.Adding.{variable_at}
use Rattle.hera_shapes.proofs.typed.visit_over.Goals as goal

pub returns : goal.returns
returns c = record {
  variable = variable_at (env_of c.args.globals.now) (word_of c.args.name.now) c.args.at (expr_phrase c.args.over.now) c.in_ok-variable.variable c.in_ok-names.ensures.locals c.in_ok-names.ensures.next c.in_ok-variable.ensures.variable;
  gathers_is = c.in_ok-gathers.ensures;
}
