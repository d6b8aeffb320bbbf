use Rattle.std.proofs.Common.{◌≡◌, ◌∙◌, false, sym, ap, subst, Option}
use Rattle.std.specs.Prelude.{slice_get}
use Rattle.std.specs.Option.{option_copied}
use Rattle.hera_meaning.specs.Deltas.{is_fail}
use Rattle.hera_code.specs.declared.instrs.Instr.{Instr}
use Rattle.hera_code.specs.Machine.{Step, act}
use Rattle.hera_reads.specs.Branched.{pending_of}
use Rattle.hera_machine.specs.Counted.{AreCountsBehind}
use Rattle.hera_steps.specs.Working.{Work, machine_at}
use Rattle.hera_steps.proofs.Nearing.{here_none}
use Rattle.hera_machine.proofs.Counted.{behind_other, behind_rollback, behind_apply}
use Rattle.hera_machine.proofs.counts.foresee.Goals as goal

pub returns-in_default : goal.returns-in_default
returns-in_default c = λ rels hosts.
    let here = ap option_copied (sym c.in_default.is) ∙ c.get.ensures ∙ ap (slice_get c.args.code.now.instrs) (ap (λ (w : Work). w.at) c.work.view_is) in
    subst (λ (t : Step). AreCountsBehind c.args.stored.now.state c.args.counts.now t) (here_none c.args.code.now rels hosts c.args.stored.now.state c.args.work.now here) tt

pub returns-then-is_apply : goal.returns-then-is_apply
returns-then-is_apply c = λ rels hosts.
    let code = c.args.code.now in
    let s = c.args.stored.now.state in
    let m = machine_at s c.args.work.now in
    let ns = c.foresee_apply.new.counts in
    let here = ap option_copied (sym c.in-Some.is) ∙ c.get.ensures ∙ ap (slice_get code.instrs) (ap (λ (w : Work). w.at) c.work.view_is) in
    let proper = subst (λ (w : Work). is_fail (pending_of w.layers) ≡ false) c.work.view_is c.len-count.ensures.known in
    subst (λ (o : Option Instr). AreCountsBehind s ns (act code rels hosts o s m)) here (behind_apply code rels hosts s ns m c.in-Some.instr.now (sym c.is_apply.ensures ∙ c.if-is_apply.true) proper c.foresee_apply.ensures)

pub returns-then-is_rollback : goal.returns-then-is_rollback
returns-then-is_rollback c = λ rels hosts.
    let code = c.args.code.now in
    let s = c.args.stored.now.state in
    let m = machine_at s c.args.work.now in
    let ns = c.forget.new.self in
    let here = ap option_copied (sym c.in-Some.is) ∙ c.get.ensures ∙ ap (slice_get code.instrs) (ap (λ (w : Work). w.at) c.work.view_is) in
    subst (λ (o : Option Instr). AreCountsBehind s ns (act code rels hosts o s m)) here (behind_rollback code rels hosts s ns m c.in-Some.instr.now (sym c.is_rollback.ensures ∙ c.if-is_rollback.true) c.forget.ensures)

pub returns : goal.returns
returns c = λ rels hosts.
    let code = c.args.code.now in
    let s = c.args.stored.now.state in
    let m = machine_at s c.args.work.now in
    let ns = c.args.counts.now in
    let here = ap option_copied (sym c.in-Some.is) ∙ c.get.ensures ∙ ap (slice_get code.instrs) (ap (λ (w : Work). w.at) c.work.view_is) in
    let proper = subst (λ (w : Work). is_fail (pending_of w.layers) ≡ false) c.work.view_is c.len-count.ensures.known in
    subst (λ (o : Option Instr). AreCountsBehind s ns (act code rels hosts o s m)) here
    (behind_other code rels hosts s ns m c.in-Some.instr.now (sym c.is_apply.ensures ∙ c.if-is_apply.false) (sym c.is_rollback.ensures ∙ c.if-is_rollback.false) proper c.requires)
