-- The two formats of a half.
use Rattle.std.specs.Prelude.{Bool, true, false, ℕ, List, cond, take}
use Rattle.hera_sets.specs.Rows.{is_same}
use Rattle.hera_meaning.specs.declared.schemas.RelDecl.{RelDecl}
use Rattle.hera_meaning.specs.Deltas.{State}
use Rattle.rel_format.specs.declared.version.TheConstants.{MAGIC_LEN}
use Rattle.rel_format.specs.declared.version.Version.{Version}
use Rattle.rel_format.specs.declared.version.Version.TheVariants.{One, Two}
use Rattle.rel_format.specs.Pages.{Format, format_one, format_two}
use Rattle.rel_format.specs.Journal.{IsHalf}

abbrev pub format_of : Version → Format
format_of One = format_one
format_of Two = format_two

-- the first is read and never written
abbrev pub is_old : Version → Bool
is_old One = true
is_old Two = false

-- the format of a half's bytes: the second where they begin with its magic, else the first
abbrev pub version_in : List ℕ → Version
version_in bytes = cond (is_same (take MAGIC_LEN bytes) format_two.magic) Two One

-- the bytes are a half with this catalogue and state, in one of the formats
abbrev pub IsHalfOf : List ℕ → List RelDecl → State → Type 0
IsHalfOf bytes rels state = (v : Version) × IsHalf (format_of v) bytes rels state
