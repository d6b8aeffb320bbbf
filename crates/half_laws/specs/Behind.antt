-- What breaks behind a printed header.
use Rattle.std.specs.Prelude.{ℕ, List, length}
use Rattle.hera_meaning.specs.declared.schemas.RelDecl.{RelDecl}
use Rattle.rel_format.specs.Pages.{Format, header_of}
use Rattle.rel_format.specs.Walk.{StopsBy}
use Rattle.rel_format.specs.Table.{at_rels, is_whole, next}

-- the fields behind the header of these relations go as far as this place, where one breaks its rule before the first gate
abbrev pub StopsBehindHeader : Format → List ℕ → List RelDecl → ℕ → Type 0
StopsBehindHeader f bytes rels at = StopsBy (next f) is_whole bytes (length (header_of f rels), at_rels rels 0) at
