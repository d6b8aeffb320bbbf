use Rattle.std.proofs.Common.{◌∙◌, arith}
use Rattle.hera_rules.specs.Environments.{env_of}
use Rattle.hera_rules.specs.Read.{expr_phrase, word_of}
use Rattle.hera_shapes.proofs.Adding.{variable_so}
use Rattle.hera_shapes.proofs.typed.variable_of.Goals as goal

pub returns-clause-variable : goal.returns-clause-variable
returns-clause-variable c =
    let k = c.in_ok-slot.ensures in
    let of = c.in_ok-of.ensures in
    variable_so (env_of c.args.globals.now) c.args.names.now.locals.items c.args.names.now.next (word_of c.args.name.now) c.args.at (expr_phrase c.args.over.now) c.in_ok-local.local c.in_ok-of.of
    k.keeps.locals k.keeps.next k.slot of.keeps.locals of.typed c.in_ok-local.ensures

pub returns-clause-keeps : goal.returns-clause-keeps
returns-clause-keeps c =
    let k = c.in_ok-slot.ensures.keeps in
    let of = c.in_ok-of.ensures.keeps in
    record { locals = of.locals ∙ k.locals; next = omega (arith, k.next, of.next) }
