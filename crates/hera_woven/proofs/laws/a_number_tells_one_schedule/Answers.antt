use Rattle.hera_woven.proofs.Schedules.{some_whole, one_whole}
use Rattle.hera_woven.proofs.laws.a_number_tells_one_schedule.Goals as goal

pub returns-clause-there : goal.returns-clause-there
returns-clause-there c = some_whole

pub returns-clause-one : goal.returns-clause-one
returns-clause-one c = one_whole
