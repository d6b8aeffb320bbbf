use Rattle.std.specs.Prelude.{◌≡◌, ◌++◌, take, length}
use Rattle.std.specs.List.{flat_map}
use Rattle.std.specs.Int.{to_be_bytes, w16}
use Rattle.rel_format.specs.Pages.{decl_bytes}
use Rattle.rel_format.proofs.writing.header_bytes.Given as goal

abbrev pub invariant-loop-number : goal.invariant-loop-number
invariant-loop-number l = l.bytes.items ≡ l.magic ++ to_be_bytes w16 (length l.rels) ++ flat_map decl_bytes (take l.number l.rels)
