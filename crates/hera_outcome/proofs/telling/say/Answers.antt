use Rattle.hera_outcome.proofs.Passing.{says_whole, says_part}
use Rattle.hera_outcome.proofs.telling.say.Goals as goal

pub returns-in-Ok : goal.returns-in-Ok
returns-in-Ok g c =
    let (n, takes, said) = c.in-Ok.ensures.first in
    record { said = says_whole _ _ c.args.text.now n takes.whole said c.in-Ok.ensures.cause.still (record { files = c.say.ensures.files; device = c.say.ensures.device }) c.say.ensures.any_moment }

pub returns-in-Err : goal.returns-in-Err
returns-in-Err g c =
    let (n, takes, said) = c.in-Err.ensures.first in
    record { said = says_part _ c.args.text.now n said (record { later = c.in-Err.ensures.cause.later; rose = c.in-Err.ensures.cause.failed }) (record { files = c.say.ensures.files; device = c.say.ensures.device }) c.say.ensures.any_moment }
