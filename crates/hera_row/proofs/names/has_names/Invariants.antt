use Rattle.std.proofs.Common.{All, take}
use Rattle.hera_meaning.specs.Schemas.{names_of}
use Rattle.hera_meaning.specs.Identifiers.{IsIdentifier}
use Rattle.hera_row.proofs.names.has_names.Given as goal

-- the names up to this place
abbrev pub invariant-loop-i : goal.invariant-loop-i
invariant-loop-i l = All IsIdentifier (names_of (take l.i l.schema))
