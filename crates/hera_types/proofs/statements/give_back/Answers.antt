use Rattle.std.proofs.Common.{◌≡◌, ◌+◌, ap, sym, refl, subst, arith}
use Rattle.std.specs.Prelude.{OnOk}
use Rattle.hera_rules.specs.CheckedActs.{check_act}
use Rattle.hera_rules.specs.Commands.{return_row}
use Rattle.hera_rules.specs.Environments.{env_of}
use Rattle.hera_rules.specs.ReadActs.{return_act}
use Rattle.hera_rules.specs.Statements.{slots_of_act}
use Rattle.hera_types_parts.proofs.Giving.{on_ok}
use Rattle.hera_types.proofs.Block_lemmas.{act_as, act_row}
use Rattle.hera_types.proofs.statements.give_back.Goals as goal

pub returns-in-None-clause-checks : goal.returns-in-None-clause-checks
returns-in-None-clause-checks c =
    let g = env_of c.args.globals.now in
    let r = c.args.returned.now in
    let ls = c.args.scope.now.locals.items in
    let n = c.args.scope.now.next in
    let w = c.args.word.now in
    act_row g r ls n ls c.check_return.result (return_act w c.args.value.now) (return_row r w.at) (ap (λ v. check_act g r ls n (return_act w v)) c.in-None.is) refl c.check_return.ensures

pub returns-in-None-clause-next : goal.returns-in-None-clause-next
returns-in-None-clause-next c =
    let n = c.args.scope.now.next in
    let same : n ≡ n + slots_of_act (return_act c.args.word.now c.args.value.now) = omega (arith, ap (λ v. slots_of_act (return_act c.args.word.now v)) c.in-None.is) in
    on_ok _ same

pub returns-in-Some-clause-checks : goal.returns-in-Some-clause-checks
returns-in-Some-clause-checks c =
    act_as (env_of c.args.globals.now) c.args.returned.now c.args.scope.now.locals.items c.args.scope.now.next c.give_value.new.scope.locals.items c.give_value.result
    (ap (λ v. return_act c.args.word.now v) c.in-Some.is) c.give_value.ensures.checks

pub returns-in-Some-clause-next : goal.returns-in-Some-clause-next
returns-in-Some-clause-next c =
    subst (λ a. OnOk c.give_value.result (c.give_value.new.scope.next ≡ c.args.scope.now.next + slots_of_act a)) (sym (ap (λ v. return_act c.args.word.now v) c.in-Some.is)) c.give_value.ensures.next
