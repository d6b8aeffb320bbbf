use Rattle.rel_format.proofs.Longest.{damage}
use Rattle.rel_format.proofs.laws.damage_ends_the_longest_good_prefix.Goals as goal

pub returns : goal.returns
returns c = λ f bytes at stops. damage f bytes at stops
