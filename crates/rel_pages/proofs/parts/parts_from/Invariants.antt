use Rattle.std.specs.Prelude.{◌≡◌, ◌≤◌, ◌+◌, ◌++◌, drop}
use Rattle.rel_pages.specs.Parts.{parts_from, total}
use Rattle.rel_pages.proofs.parts.parts_from.Given as goal

abbrev pub invariant-loop-len : goal.invariant-loop-len
invariant-loop-len l = record {
  parts_are : l.parts.items ++ parts_from l.at (drop l.len-index l.lens) ≡ parts_from l.fn.at l.lens;
  fits : l.at + total (drop l.len-index l.lens) ≤ 18446744073709551615;
}
