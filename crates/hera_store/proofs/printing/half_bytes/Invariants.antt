use Rattle.std.specs.Prelude.{◌≡◌, ◌≤◌, ◌⊎◌, take}
use Rattle.hera_meaning.specs.Commits.{after_all}
use Rattle.rel_format.specs.Pages.{format_two}
use Rattle.half_writer.specs.Written.{written_of, need_of}
use Rattle.hera_store.proofs.printing.half_bytes.Given as goal

abbrev pub invariant-loop-number : goal.invariant-loop-number
invariant-loop-number l = record {
  written : l.writer ≡ written_of format_two l.base.catalogue l.limit (take l.number (after_all l.base.state l.commits));
  room : (l.number ≡ 0) ⊎ (need_of l.writer ≤ l.limit);
}
