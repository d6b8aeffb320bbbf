-- Attributes of two schemas that are joined.
use Rattle.std.specs.Prelude.{Bool, not, ◌||◌}
use Rattle.hera_sets.specs.Rows.{is_same}
use Rattle.hera_meaning.specs.declared.schemas.Attr.{Attr}
use Rattle.hera_meaning.specs.Scalars.{is_same_kind}

-- they have different names, or one kind
abbrev pub goes_with : Attr → Attr → Bool
goes_with a b = not (is_same a.name b.name) || is_same_kind a.kind b.kind
