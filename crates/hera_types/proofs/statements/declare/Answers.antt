use Rattle.std.proofs.Common.{◌≡◌, ◌∙◌, ◌+◌, ◌++◌, ◌∷◌, [], ap, sym}
use Rattle.std.specs.Prelude.{Ok}
use Rattle.hera_meaning.specs.declared.trees.Stmt.TheVariants.{Set}
use Rattle.hera_meaning.specs.Trees.{set_slot}
use Rattle.hera_meaning.specs.Plain.{command_of, expr_of}
use Rattle.hera_meaning.proofs.PlainLaws.{command_of-Set}
use Rattle.hera_rules.specs.declared.env.Typed.{Typed}
use Rattle.hera_rules.specs.Agrees.{typing_of}
use Rattle.hera_rules.specs.Checked.{check}
use Rattle.hera_rules.specs.Commands.{declare_local, done, type_row}
use Rattle.hera_rules.specs.Environments.{env_of}
use Rattle.hera_rules.specs.Read.{expr_phrase, word_of}
use Rattle.hera_rules.specs.ReadActs.{type_phrase}
use Rattle.hera_types.proofs.Block_lemmas.{declare_done}
use Rattle.hera_types.proofs.statements.declare.Goals as goal

pub returns-clause-checks : goal.returns-clause-checks
returns-clause-checks c =
    let g = env_of c.args.globals.now in
    let ls = c.args.scope.now.locals.items in
    let n = c.args.scope.now.next in
    let w = word_of c.args.name.now in
    let p = expr_phrase c.args.value.now in
    let given = c.in_ok-given.given in
    let local = c.in_ok-local.local in
    let slot = c.in_ok-slot.slot in
    let shaped : type_row g.relations (type_phrase c.args.type_tree.now) ≡ Ok c.in_ok-shape.shape =
    ap (λ rs. type_row rs (type_phrase c.args.type_tree.now)) (sym c.relations.ensures) ∙ c.in_ok-shape.ensures in
    let same = c.in_ok-given.ensures.keeps.locals ∙ c.in_ok-slot.ensures.keeps.locals in
    let typed : check g ls (n + 1) p ≡ Ok (typing_of given) =
    ap (λ ls. check g ls (n + 1) p) (sym c.in_ok-slot.ensures.keeps.locals) ∙ ap (λ m. check g c.take_slot.new.self.locals.items m p) (sym c.in_ok-slot.ensures.keeps.next) ∙ c.in_ok-given.ensures.checks in
    let made : declare_local g ls w n c.in_ok-shape.shape given.shape ≡ Ok local =
    ap (λ ls. declare_local g ls w n c.in_ok-shape.shape given.shape) (sym same)
    ∙ ap (λ i. declare_local g c.expr.new.scope.locals.items w i c.in_ok-shape.shape given.shape) (sym c.in_ok-slot.ensures.slot) ∙ c.in_ok-local.ensures in
    let pushed : ls ++ local ∷ [] ≡ c.push_local.new.self.locals.items = ap (λ ls. ls ++ local ∷ []) (sym same) ∙ sym c.in_ok-push_local.ensures.locals in
    let core : set_slot n (expr_of given.core) ≡ command_of (Set slot c.into_core.result) =
    ap (λ i. set_slot i (expr_of given.core)) (sym c.in_ok-slot.ensures.slot)
    ∙ ap (λ e. set_slot slot (expr_of e)) (sym (c.into_core.ensures ∙ ap (λ (v : Typed). v.core) c.into_typed-typed.ensures)) ∙ sym (command_of-Set slot c.into_core.result) in
    declare_done g c.args.returned.now ls n (type_phrase c.args.type_tree.now) w p shaped typed made
    ∙ ap (λ ls. Ok (done ls (set_slot n (expr_of given.core)))) pushed ∙ ap (λ s. Ok (done c.push_local.new.self.locals.items s)) core
