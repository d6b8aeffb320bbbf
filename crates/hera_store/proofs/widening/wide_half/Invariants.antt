use Rattle.std.specs.Prelude.{◌≡◌, ◌≤◌, ◌⊎◌, take}
use Rattle.hera_meaning.specs.Commits.{after_all}
use Rattle.hera_meaning.specs.Wider.{widen_of}
use Rattle.rel_format.specs.Pages.{format_two}
use Rattle.half_writer.specs.Written.{written_of, need_of}
use Rattle.hera_store.proofs.widening.wide_half.Given as goal

abbrev pub invariant-loop-number : goal.invariant-loop-number
invariant-loop-number l = record {
  written : l.writer ≡ written_of format_two l.catalogue l.limit (take l.number (widen_of l.base.catalogue (after_all l.base.state l.commits) l.catalogue));
  room : (l.number ≡ 0) ⊎ (need_of l.writer ≤ l.limit);
}
