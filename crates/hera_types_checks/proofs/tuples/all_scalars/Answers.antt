use Rattle.std.proofs.Common.{◌∙◌, sym}
use Rattle.hera_rules.specs.Rules.{Typing, is_scalar}
use Rattle.hera_rules.specs.Agrees.{typing_of, typings_of}
use Rattle.hera_types_parts.proofs.Equal.{all_map}
use Rattle.hera_types_checks.proofs.tuples.all_scalars.Goals as goal

pub returns : goal.returns
returns c = c.each_scalar.ensures ∙ sym (all_map typing_of (λ (v : Typing). is_scalar v.type) c.args.values.now) ∙ sym (all_map (λ (v : Typing). v.type) is_scalar (typings_of c.args.values.now))
