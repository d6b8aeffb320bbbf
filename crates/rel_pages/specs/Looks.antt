-- What a look at a row and at the rows beside it tells.
use Rattle.std.specs.Prelude.{◌≡◌, ◌++◌, List, Some}
use Rattle.std.specs.List.{find}
use Rattle.hera_sets.specs.Rows.{Row, IsAscending}
use Rattle.rel_pages.specs.declared.page_rel.Bound.{Bound}
use Rattle.rel_pages.specs.declared.near.Look.{Look}
use Rattle.rel_pages.specs.declared.near.Look.TheVariants.{Found, First, Behind, Nothing}
use Rattle.rel_pages.specs.Rels.{passes}

-- wherever a page's rows stand among the others, the first row that is looked for is this one of the page,
-- or it is the page's first and no row stands before the page, or it is the first of those behind the page
abbrev pub Tells : Bound → List Row → Look → Type 0
Tells bound rows (Found number row) = (before behind : List Row) → IsAscending (before ++ rows ++ behind) → find (passes bound) (before ++ rows ++ behind) ≡ Some row.now
Tells bound rows (First row) = (behind : List Row) → find (passes bound) (rows ++ behind) ≡ Some row.now
Tells bound rows Behind = (before behind : List Row) → IsAscending (before ++ rows ++ behind) → find (passes bound) (before ++ rows ++ behind) ≡ find (passes bound) behind
Tells bound rows Nothing = Unit {0}
