use Rattle.std.proofs.Common.{◌≡◌, true, ◌+◌, ◌<◌, ◌^◌, sym, subst, Some}
use Rattle.std.specs.Prelude.{IfOk, IsOk}
use Rattle.hera_code.specs.Machine.{act}
use Rattle.hera_host.specs.Tables.{specs_of}
use Rattle.hera_steps.specs.Sparing.{is_sparing}
use Rattle.hera_steps.specs.Telling.{step_at}
use Rattle.hera_steps.specs.Working.{Work, machine_at}
use Rattle.hera_steps.proofs.running.Running.execute.Goals as goal

pub act_and_release-requires : goal.act_and_release-requires
act_and_release-requires g c = record { next = subst (λ (w : Work). w.at + 1 < 2 ^ 64) (sym (c.try_one.ensures.kept c.if-try_one.false)) c.requires.next }

pub returns-then-try_one-clause-act : goal.returns-then-try_one-clause-act
returns-then-try_one-clause-act g c = c.try_one.ensures.act c.args.self.now.relations (specs_of c.args.hosts.now.names) c.if-try_one.true

pub returns-clause-act : goal.returns-clause-act
returns-clause-act g c =
    let s = c.args.stored.now.state in
    let out = c.act_and_release.result in
    subst (λ (w : Work). IfOk out (λ told. step_at s told c.act_and_release.new.self ≡ act c.args.code.now w.relations (specs_of c.args.hosts.now.names) (Some c.args.instr.now) s (machine_at s w))) (c.try_one.ensures.kept c.if-try_one.false)
    c.act_and_release.ensures.act

pub returns-clause-no_copy : goal.returns-clause-no_copy
returns-clause-no_copy g c =
    subst (λ (w : Work). is_sparing w.spare (Some c.args.instr.now) ≡ true → IsOk c.act_and_release.result) (c.try_one.ensures.kept c.if-try_one.false) c.act_and_release.ensures.no_copy
