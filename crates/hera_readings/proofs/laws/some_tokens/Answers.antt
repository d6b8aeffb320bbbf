use Rattle.hera_readings.proofs.Tokens.{tokens_or_place, no_more_than_bytes}
use Rattle.hera_readings.proofs.laws.some_tokens.Goals as goal

pub returns-clause-some : goal.returns-clause-some
returns-clause-some c = tokens_or_place

pub returns-clause-few : goal.returns-clause-few
returns-clause-few c = no_more_than_bytes
