use Rattle.std.proofs.Common.{◌<◌, ◌∙◌, sym, ap, length, arith}
use Rattle.std.specs.Prelude.{slice_get, Ok}
use Rattle.std.specs.Option.{option_copied}
use Rattle.hera_steps.specs.declared.events.Told.TheVariants.{Quiet}
use Rattle.hera_steps.specs.Working.{Work, machine_at}
use Rattle.hera_steps.proofs.Nearing.{here_taken, here_within}
use Rattle.hera_machine.proofs.Quietly.{one_on}
use Rattle.hera_machine.proofs.many.try_far.Goals as goal

pub try_one-requires : goal.try_one-requires
try_one-requires c =
    let before = ap (λ (w : Work). w.at) c.work.view_is in
    let within : c.work.inside.at < length c.args.code.now.instrs = here_within c.args.code.now c.work.inside.at c.in-Some.instr.now (ap option_copied (sym c.in-Some.is) ∙ c.get.ensures) in
    omega (arith, before, within, c.len-len.ensures, c.len-len.type_inv)

pub returns-in-Some-clause-goes : goal.returns-in-Some-clause-goes
returns-in-Some-clause-goes c = λ rels hosts done.
    let code = c.args.code.now in
    let s = c.args.stored.now.state in
    let old = c.args.work.now in
    let here = ap option_copied (sym c.in-Some.is) ∙ c.get.ensures ∙ ap (slice_get code.instrs) (ap (λ (w : Work). w.at) c.work.view_is) in
    one_on code rels hosts s (machine_at s old) (machine_at s c.try_one.new.self) (here_taken code rels hosts s old c.try_one.new.self (Ok Quiet) c.in-Some.instr.now here (c.try_one.ensures.act rels hosts done))
