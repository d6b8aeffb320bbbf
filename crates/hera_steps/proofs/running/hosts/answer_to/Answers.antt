use Rattle.std.proofs.Common.{◌∙◌, sym, ap, arith}
use Rattle.hera_meaning.specs.Scalars.{is_kind}
use Rattle.hera_steps.proofs.Answering.{past_hosts, other_kind, own_kind}
use Rattle.hera_steps.proofs.running.hosts.answer_to.Goals as goal

pub returns-then-h-len : goal.returns-then-h-len
returns-then-h-len g c = past_hosts c.args.hosts.now.names c.args.h c.args.scalar.now (omega (arith, c.if-h-len.true, c.len.ensures.count))

pub returns-then-not-is_kind : goal.returns-then-not-is_kind
returns-then-not-is_kind g c =
    other_kind c.args.hosts.now.names c.args.h c.args.scalar.now (omega (arith, c.if-h-len.false, c.len.ensures.count))
    (ap (λ k. is_kind k c.args.scalar.now) (sym c.param.ensures) ∙ sym c.is_kind.ensures ∙ c.if-not-is_kind.true)

pub returns : goal.returns
returns g c =
    own_kind c.args.hosts.now.names c.args.h c.args.scalar.now c.call.result (omega (arith, c.if-h-len.false, c.len.ensures.count))
    (ap (λ k. is_kind k c.args.scalar.now) (sym c.param.ensures) ∙ sym c.is_kind.ensures ∙ c.if-not-is_kind.false) c.call.ensures.answer
