use Rattle.std.proofs.Common.{◌≡◌, true, ◌<◌, ◌∙◌, sym, ap, subst, Some, length, arith}
use Rattle.hera_meaning.specs.Fits.{is_delta_of}
use Rattle.hera_reads.specs.Branched.{pending_of}
use Rattle.std.specs.Prelude.{slice_get}
use Rattle.std.specs.Option.{option_copied}
use Rattle.hera_host.specs.Tables.{specs_of}
use Rattle.hera_steps.specs.Working.{Work}
use Rattle.hera_steps.proofs.Nearing.{result_nearer, result_known, here_taken, here_none, here_within}
use Rattle.hera_steps.proofs.running.Running.one.Goals as goal

pub execute-requires : goal.execute-requires
execute-requires g c =
    let same = ap (λ (w : Work). w.at) c.self.view_is in
    let within : c.self.inside.at < length c.args.code.now.instrs = here_within c.args.code.now c.self.inside.at c.in-Some.instr.now (ap option_copied (sym c.in-Some.is) ∙ c.get.ensures) in
    omega (arith, same, within, c.len-len.ensures, c.len-len.type_inv)

pub returns-in-None-clause-steps : goal.returns-in-None-clause-steps
returns-in-None-clause-steps g c =
    here_none c.args.code.now c.args.self.now.relations (specs_of c.args.hosts.now.names) c.args.stored.now.state c.args.self.now
    (ap option_copied (sym c.in-None.is) ∙ c.get.ensures ∙ ap (slice_get c.args.code.now.instrs) (ap (λ (w : Work). w.at) c.self.view_is))

pub returns-in-Some-clause-steps : goal.returns-in-Some-clause-steps
returns-in-Some-clause-steps g c =
    here_taken c.args.code.now c.args.self.now.relations (specs_of c.args.hosts.now.names) c.args.stored.now.state c.args.self.now c.execute.new.self c.execute.result c.in-Some.instr.now
    (ap option_copied (sym c.in-Some.is) ∙ c.get.ensures ∙ ap (slice_get c.args.code.now.instrs) (ap (λ (w : Work). w.at) c.self.view_is)) c.execute.ensures.act

pub returns-in-Some-clause-nearer : goal.returns-in-Some-clause-nearer
returns-in-Some-clause-nearer g c =
    let s = c.args.stored.now.state in
    result_nearer c.args.code.now c.args.self.now.relations (specs_of c.args.hosts.now.names) s c.args.self.now c.execute.new.self c.execute.result (Some c.in-Some.instr.now)
    (ap (slice_get c.args.code.now.instrs) (sym (ap (λ (w : Work). w.at) c.self.view_is)) ∙ sym (ap option_copied (sym c.in-Some.is) ∙ c.get.ensures)) c.execute.ensures.act

pub returns-in-Some-clause-known : goal.returns-in-Some-clause-known
returns-in-Some-clause-known g c =
    result_known c.args.code.now c.args.self.now.relations (specs_of c.args.hosts.now.names) c.in-Some.instr.now c.args.stored.now.state c.execute.result c.args.self.now c.execute.new.self c.execute.ensures.act
    (subst (λ (w : Work). is_delta_of w.relations (pending_of w.layers) ≡ true) c.self.view_is c.len-count.ensures.of)
