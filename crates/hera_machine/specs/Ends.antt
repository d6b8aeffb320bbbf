-- What the ends of runs print.
use Rattle.std.specs.Prelude.{ℕ, List, []}
use Rattle.hera_meaning.specs.Run.{printed}
use Rattle.hera_code.specs.Reached.{with_line}
use Rattle.hera_steps.specs.declared.events.End.{End}
use Rattle.hera_steps.specs.Telling.{stop_of}

-- the last line of a run that ends so; that of a run that is done is empty
abbrev pub last_text : End → List ℕ
last_text end = printed (with_line [] (stop_of end))
