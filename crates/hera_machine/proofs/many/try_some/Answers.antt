use Rattle.std.proofs.Common.{◌≡◌, ◌<◌, ◌∙◌, sym, ap, subst, Some, length, arith}
use Rattle.std.specs.Prelude.{slice_get, Ok}
use Rattle.hera_steps.specs.declared.events.Told.TheVariants.{Quiet}
use Rattle.hera_code.specs.Machine.{quiet, act}
use Rattle.hera_steps.specs.Working.{Work, machine_at}
use Rattle.hera_steps.proofs.Nearing.{here_taken, here_within}
use Rattle.hera_machine.proofs.Quietly.{one_on}
use Rattle.hera_machine.proofs.many.try_some.Goals as goal

pub try_fused-requires : goal.try_fused-requires
try_fused-requires c = sym (sym c.in-Some.ensures ∙ ap (slice_get c.args.code.now.instrs) (ap (λ (w : Work). w.at) c.work.view_is))

pub try_one-requires : goal.try_one-requires
try_one-requires c =
    let same = ap (λ (w : Work). w.at) (c.try_fused.ensures.kept c.if-try_fused.false) in
    let before = ap (λ (w : Work). w.at) c.work.view_is in
    let within : c.work.inside.at < length c.args.code.now.instrs = here_within c.args.code.now c.work.inside.at c.in-Some.instr.now (sym c.in-Some.ensures) in
    omega (arith, same, before, within, c.len-len.ensures, c.len-len.type_inv)

pub returns-then-try_fused-clause-goes : goal.returns-then-try_fused-clause-goes
returns-then-try_fused-clause-goes c = λ rels hosts done. c.try_fused.ensures.goes rels hosts c.args.stored.now.state done

pub returns-else-try_fused-clause-goes : goal.returns-else-try_fused-clause-goes
returns-else-try_fused-clause-goes c = λ rels hosts done.
    let code = c.args.code.now in
    let s = c.args.stored.now.state in
    let old = c.args.work.now in
    let here = sym c.in-Some.ensures ∙ ap (slice_get code.instrs) (ap (λ (w : Work). w.at) c.work.view_is) in
    let act = subst (λ (w : Work). quiet (machine_at s c.try_one.new.self) ≡ act code rels hosts (Some c.in-Some.instr.now) s (machine_at s w)) (c.try_fused.ensures.kept c.if-try_fused.false) (c.try_one.ensures.act rels hosts done) in
    one_on code rels hosts s (machine_at s old) (machine_at s c.try_one.new.self) (here_taken code rels hosts s old c.try_one.new.self (Ok Quiet) c.in-Some.instr.now here act)
