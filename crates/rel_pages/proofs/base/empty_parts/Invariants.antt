use Rattle.std.specs.Prelude.{◌≡◌, replicate}
use Rattle.rel_pages.proofs.base.empty_parts.Given as goal

abbrev pub invariant-loop : goal.invariant-loop
invariant-loop l = l.parts.items ≡ replicate l.counter (record { at = l.at; len = 0 })
