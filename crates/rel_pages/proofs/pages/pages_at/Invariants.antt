use Rattle.std.specs.Prelude.{◌≡◌, ◌≤◌, ◌-◌, ℕ, length, get_or, All, IfSome}
use Rattle.std.specs.Option.{option_map}
use Rattle.rel_format.specs.Pages.{Format}
use Rattle.rel_format.specs.Table.{at_rels}
use Rattle.rel_format.specs.Places.{Reaches}
use Rattle.rel_pages.specs.Reading.{told}
use Rattle.rel_pages.specs.Starts.{IsRead}
use Rattle.rel_pages.proofs.PageSteps.{PagesOn}
use Rattle.rel_pages.proofs.pages.pages_at.Given as goal

abbrev pub invariant-loop : goal.invariant-loop
invariant-loop l = record {
  within : l.at ≤ length l.bytes;
  few : (i : ℕ) → get_or l.lens.items i 0 ≤ l.at;
  size : length l.lens.items ≡ length l.rels;
  last : IfSome l.last (λ end. end.used ≤ l.page);
  starts : All (IsRead l.rels l.bytes) l.starts.items;
  read : (f : Format) → f.page ≡ l.page → Reaches f l.bytes l.fn.at (at_rels l.rels 0) → PagesOn f l.bytes l.page l.at l.rels (option_map told l.last) l.lens.items (l.count - l.counter);
}
