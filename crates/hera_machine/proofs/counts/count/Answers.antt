use Rattle.std.proofs.Common.{◌≡◌, ◌<◌, ◌≤◌, ◌∙◌, [], refl, sym, ap, subst, Some, length, arith}
use Rattle.std.specs.Prelude.{slice_get, Ok}
use Rattle.std.specs.Option.{option_copied}
use Rattle.hera_code.specs.declared.instrs.Instr.TheVariants.{Prim}
use Rattle.hera_code.specs.Machine.{quiet, act}
use Rattle.hera_steps.specs.Descends.{left}
use Rattle.hera_steps.specs.declared.events.Told.TheVariants.{Quiet}
use Rattle.hera_steps.specs.Working.{Work, machine_at}
use Rattle.hera_steps.proofs.Nearing.{result_nearer, here_taken, here_within}
use Rattle.hera_machine.proofs.Quietly.{by_answer, quietly_none, quietly_more}
use Rattle.hera_machine.proofs.counts.count.Goals as goal

pub count_newest-counted-requires-clause-next : goal.count_newest-counted-requires-clause-next
count_newest-counted-requires-clause-next c =
    let same = ap (λ (w : Work). w.at) c.work.view_is in
    let within : c.work.inside.at < length c.args.code.now.instrs = here_within c.args.code.now c.work.inside.at c.in-Some-Prim-Count-default.field-0.now (ap option_copied (sym c.in-Some-Prim-Count-default.is) ∙ c.get.ensures) in
    omega (arith, same, within, c.len-len.ensures, c.len-len.type_inv)

pub returns-clause-quietly : goal.returns-clause-quietly
returns-clause-quietly c = λ rels hosts.
    let code = c.args.code.now in
    let s = c.args.stored.now.state in
    let old = c.args.work.now in
    let new = c.count_newest-counted.new.work in
    let k = c.in-Some-Prim-Count-default in
    let here = ap option_copied (sym k.is) ∙ c.get.ensures ∙ ap (slice_get code.instrs) (ap (λ (w : Work). w.at) c.work.view_is) in
    by_answer c.count_newest-counted.result
    (λ counted.
    let done : quiet (machine_at s new) ≡ act code rels hosts (Some k.field-0.now) s (machine_at s old) =
    c.count_newest-counted.ensures.done counted ∙ sym (ap (λ i. act code rels hosts (Some i) s (machine_at s old)) (k.field-0-is ∙ ap (λ op. Prim op k.at) k.field-0-0-is)) in
    quietly_more code rels hosts s (machine_at s old) (machine_at s old) (machine_at s new) (quietly_none code rels hosts s (machine_at s old) (machine_at s old) refl)
    (here_taken code rels hosts s old new (Ok Quiet) k.field-0.now here done))
    (λ none. quietly_none code rels hosts s (machine_at s old) (machine_at s new) (ap (machine_at s) (sym (c.count_newest-counted.ensures.kept none))))

pub returns-clause-less : goal.returns-clause-less
returns-clause-less c = λ forward.
    let code = c.args.code.now in
    let s = c.args.stored.now.state in
    let old = c.args.work.now in
    let new = c.count_newest-counted.new.work in
    let k = c.in-Some-Prim-Count-default in
    let here = ap (slice_get code.instrs) (sym (ap (λ (w : Work). w.at) c.work.view_is)) ∙ sym (ap option_copied (sym k.is) ∙ c.get.ensures) in
    by_answer c.count_newest-counted.result
    (λ counted.
    let done : quiet (machine_at s new) ≡ act code [] [] (Some k.field-0.now) s (machine_at s old) =
    c.count_newest-counted.ensures.done counted ∙ sym (ap (λ i. act code [] [] (Some i) s (machine_at s old)) (k.field-0-is ∙ ap (λ op. Prim op k.at) k.field-0-0-is)) in
    let lower = result_nearer code [] [] s old new (Ok Quiet) (Some k.field-0.now) here done forward in
    let less = lower.less_left in
    omega (arith, less))
    (λ none. subst (λ (w : Work). left (length code.instrs) (machine_at [] w) ≤ left (length code.instrs) (machine_at [] old)) (sym (c.count_newest-counted.ensures.kept none)) (omega arith))
