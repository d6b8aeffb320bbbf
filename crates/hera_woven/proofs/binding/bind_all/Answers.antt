use Rattle.std.proofs.Common.{◌∙◌, ◌++◌, ◌∷◌, [], List, map, sym, subst}
use Rattle.std.proofs.lemmas.Iterator.Adapters.{YieldsList-from_vec}
use Rattle.std.proofs.lemmas.Iterator.Consumers.{YieldsList-so_far, YieldsList-turn, YieldsList-end}
use Rattle.hera_meaning.specs.Plain.{program_of}
use Rattle.hera_meaning.specs.declared.trees.Program.{Program}
use Rattle.hera_outcome.specs.declared.answer.Stop.TheVariants.{Memory}
use Rattle.hera_run.proofs.Results.{err_is}
use Rattle.hera_woven.specs.Binding.{IsUnbound, short}
use Rattle.hera_woven.specs.Weaving.{relations_of}
use Rattle.hera_woven.proofs.Sessions.{AreBound, bound_more, unbound_within, sound_all}
use Rattle.hera_woven.proofs.binding.bind_all.Goals as goal

pub returns-in_err-next-clause-unbound : goal.returns-in_err-next-clause-unbound
returns-in_err-next-clause-unbound c =
    let given = c.into_iter-program-iterator.ensures.into_iter_gives in
    let gives = YieldsList-from_vec {s = c.into_iter-program-iterator.result} c.args.programs.items given.0 (given.1 ∙ c.args.programs.ok.0) in
    let so_far = YieldsList-so_far gives c.loop-program.yielded _ c.loop-program.yielded_by in
    let turn = YieldsList-turn gives c.loop-program.yielded _ c.loop-program.yielded_by c.next.result c.next.new.self c.in-Some.program c.in-Some.is c.next.ensures.steps in
    err_is (IsUnbound c.args.catalogue.now (relations_of (map program_of c.args.programs.items))) c.from_residual.result c.in_err-next.field-0.0 c.from_residual.ensures.1
    (unbound_within c.args.catalogue.now c.loop-program.yielded c.loop-program.all.items c.args.programs.items c.in-Some.program c.in_err-next.field-0.0 c.loop-program.invariant so_far turn.0 turn.1 c.in_err-next.ensures.unbound)

pub loop-program-preserved : goal.loop-program-preserved
loop-program-preserved c =
    subst (λ (l : List Program). AreBound c.args.catalogue.now (c.loop-program.yielded ++ c.in-Some.program ∷ []) l) (sym c.in_ok-put.ensures)
    (bound_more c.args.catalogue.now c.loop-program.yielded c.loop-program.all.items c.in-Some.program c.in_ok-next.next c.loop-program.invariant c.in_ok-next.ensures.bound c.in_ok-next.ensures.has c.in_ok-next.ensures.sound)

pub returns-in_err-put-clause-unbound : goal.returns-in_err-put-clause-unbound
returns-in_err-put-clause-unbound c =
    err_is (IsUnbound c.args.catalogue.now (relations_of (map program_of c.args.programs.items))) c.from_residual-in_err-put.result Memory c.from_residual-in_err-put.ensures.1 short

pub returns-clause-sound : goal.returns-clause-sound
returns-clause-sound c = λ hosts are.
    let given = c.into_iter-program-iterator.ensures.into_iter_gives in
    let gives = YieldsList-from_vec {s = c.into_iter-program-iterator.result} c.args.programs.items given.0 (given.1 ∙ c.args.programs.ok.0) in
    let all = YieldsList-end gives c.loop-program.yielded _ c.loop-program.yielded_by c.next.result c.next.new.self c.in-None.is c.next.ensures.steps in
    sound_all hosts c.args.catalogue.now c.loop-program.yielded c.loop-program.all.items c.args.programs.items c.loop-program.invariant all.0 are
