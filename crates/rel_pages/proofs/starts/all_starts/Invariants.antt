use Rattle.std.specs.Prelude.{◌≡◌, length, All}
use Rattle.rel_pages.specs.Starts.{AreStarts, IsRead}
use Rattle.rel_pages.proofs.starts.all_starts.Given as goal

abbrev pub invariant-loop-number : goal.invariant-loop-number
invariant-loop-number l = record {
  count : length l.lists.items ≡ l.number;
  starts : AreStarts l.page l.catalogue l.parts l.bytes l.lists.items;
  read : All (IsRead l.catalogue l.bytes) l.rest;
}
