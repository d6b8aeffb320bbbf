use Rattle.std.proofs.Common.{ap, Some, refl, arith}
use Rattle.hera_stacks.specs.declared.forms.FlatForm.TheVariants as flat
use Rattle.hera_effects.proofs.Declared.{host_past, host_there}
use Rattle.hera_effects.proofs.plain.host.Goals as goal

pub returns-then-h-len : goal.returns-then-h-len
returns-then-h-len g c code rels notes k = host_past c.args.hosts.now.names c.args.h c.args.a (omega (arith, c.if-h-len.true, c.len.ensures.count))

pub returns : goal.returns
returns g c code rels notes k =
    host_there c.args.hosts.now.names c.args.h c.args.a _ (omega (arith, c.if-h-len.false, c.len.ensures.count)) (ap (λ x. Some (flat.Scalar x)) c.param.ensures) (ap (λ x. Some (flat.Scalar x)) c.result.ensures) refl
