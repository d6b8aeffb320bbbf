use Rattle.std.proofs.Common.{◌∙◌, ap, sym, subst, slice_get, w64, rules}
use Rattle.std.proofs.lemmas.Int.{to_z-of_z}
use Rattle.hera_meaning.specs.Values.{int_value}
use Rattle.hera_machine.specs.Pairs.{ahead}
use Rattle.hera_machine.specs.Standing.{GoesOn}
use Rattle.hera_steps.specs.Working.{Work, machine_at}
use Rattle.hera_machine.proofs.Quietly.{goes_on, load_on}
use Rattle.hera_machine.proofs.pairs.loaded_int.Goals as goal

pub returns-in-Some-clause-goes : goal.returns-in-Some-clause-goes
returns-in-Some-clause-goes c = λ rels hosts s h.
    let code = c.args.code.now in
    let m = machine_at s c.args.work.now in
    let p = machine_at s c.go_on_with.new.work in
    let there = sym (ap (λ (w : Work). slice_get w.locals c.args.i) c.work.view_is) ∙ c.in-Some.ensures.int in
    goes_on code rels hosts s 1 0 m (ahead 1 (int_value c.in-Some.n) m) p (load_on code rels hosts s m c.args.i (int_value c.in-Some.n) c.requires there)
    (subst (λ n. GoesOn 0 code rels hosts s (ahead 1 (int_value n) m) p) (to_z-of_z w64 c.in-Some.n (search rules)) (c.go_on_with.ensures.goes rels hosts s h))
