-- What stands in front of the parts of a list.
use Rattle.std.specs.Prelude.{ℕ, zero, suc, List, [], codes}

-- a comma and a blank, but nothing in front of the first
abbrev pub comma_before : ℕ → List ℕ
comma_before zero = []
comma_before (suc i) = codes ", "
