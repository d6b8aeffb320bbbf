use Rattle.std.proofs.Common.{◌∙◌, arith}
use Rattle.hera_meaning.specs.Shapes.{body_types}
use Rattle.hera_rules.specs.Environments.{env_of}
use Rattle.hera_rules.specs.Read.{expr_phrase, word_of}
use Rattle.hera_rules.specs.ReadActs.{type_phrase}
use Rattle.hera_shapes.proofs.Adding.{declare_whole, declared_so}
use Rattle.hera_shapes.proofs.acts.declare.Goals as goal

pub returns-clause-found : goal.returns-clause-found
returns-clause-found c =
    let k = c.in_ok-slot.ensures.keeps in
    declare_whole (env_of c.args.globals.now) c.args.scope.now.locals.items c.args.scope.now.next (type_phrase c.args.type_tree.now) (word_of c.args.name.now) (expr_phrase c.args.value.now) c.in_ok-shape.shape
    (body_types c.args.shapes.now) (body_types c.add_slot.new.shapes) (body_types c.expression.new.shapes) c.in_ok-shape.ensures c.in_ok-copy.ensures c.in_ok-add_slot.ensures k.locals k.next c.in_ok-expression.ensures.found

pub returns-clause-next : goal.returns-clause-next
returns-clause-next c = omega (arith, c.in_ok-slot.ensures.keeps.next, c.in_ok-expression.ensures.keeps.next, c.in_ok-push_local.ensures.next)

pub returns-clause-locals : goal.returns-clause-locals
returns-clause-locals c =
    let k = c.in_ok-slot.ensures in
    declared_so (env_of c.args.globals.now) c.args.scope.now.locals.items c.args.scope.now.next (type_phrase c.args.type_tree.now) (word_of c.args.name.now) (expr_phrase c.args.value.now) c.in_ok-shape.ensures c.in_ok-name.ensures k.slot
    (c.in_ok-expression.ensures.keeps.locals ∙ k.keeps.locals) c.in_ok-push_local.ensures.locals
