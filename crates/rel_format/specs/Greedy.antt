-- When lists of rows are the pages of a relation.
use Rattle.std.specs.Prelude.{◌≤◌, ◌<◌, ℕ, ◌+◌, List, [], ◌∷◌, length}
use Rattle.std.specs.List.{flat_map}
use Rattle.hera_sets.specs.Rows.{Row}
use Rattle.rel_format.specs.Pages.{page_head, joined}

abbrev pub all_rows : List (List Row) → List Row
all_rows pages = flat_map (λ p. p) pages

-- behind so many bytes of an open page come these pages, each of which has rows, and none of whose
-- first rows would have stood in the page before
abbrev pub Follow : ℕ → ℕ → List (List Row) → Type 0
Follow page used [] = Unit {0}
Follow page used ([] ∷ pages) = ⊥
Follow page used ((r ∷ rows) ∷ pages) = (page < used + length r) × (page_head + length (joined (r ∷ rows)) ≤ page) × Follow page (page_head + length (joined (r ∷ rows))) pages

-- the pages of a relation
abbrev pub ArePages : ℕ → List (List Row) → Type 0
ArePages page [] = Unit {0}
ArePages page ([] ∷ pages) = ⊥
ArePages page ((r ∷ rows) ∷ pages) = (page_head + length (joined (r ∷ rows)) ≤ page) × Follow page (page_head + length (joined (r ∷ rows))) pages
