use Rattle.std.specs.Prelude.{◌≡◌, ◌++◌}
use Rattle.rel_format.specs.Pages.{zeros}
use Rattle.half_writer.proofs.pages.push_zeros.Given as goal

abbrev pub invariant-loop : goal.invariant-loop
invariant-loop l = l.bytes.items ≡ l.fn.bytes.items ++ zeros l.counter
