use Rattle.std.proofs.Common.{ap, ◌∙◌}
use Rattle.hera_meaning.specs.Wider.{is_prefix}
use Rattle.hera_meaning.proofs.WiderLaws.{prefix_more, is_prefix-append}
use Rattle.hera_meaning.proofs.laws.a_prefix_is_followed_by_more.Goals as goal

pub returns : goal.returns
returns c = λ old new. (prefix_more old new, λ more. ap (is_prefix old) more.1 ∙ is_prefix-append old more.0)
