-- The drill: a script made from a number.
use Rattle.std.specs.Prelude.{ℕ, List, ◌++◌, codes}
use Rattle.hera_meaning.specs.Printed.{number_text}

-- its turns
abbrev pub drill_turns : ℕ
drill_turns = 1000000

-- rows are stored
abbrev pub drill_start : List ℕ
drill_start = codes "relation P(k int, v int);\nmain {\n  int i = 0;\n  while (i < "

-- a change removes some of them, and one adds as many more
abbrev pub drill_changes : List ℕ
drill_changes = codes ") { apply {+P(i, i * 7 % 11)}; i = i + 1; }\n  commit;\n  delta low = bulk(-P, select(t in P : t.v < 5));\n  delta add = bulk(+P, map(t in P : [k = t.k + "

-- what holds now, and what would hold after these changes
abbrev pub drill_prints : List ℕ
drill_prints = codes ", v = t.v]));\n  print count(P);\n  print sum(P, v);\n  print count(P) when low;\n  print count(P) when low ! add;\n  print count(P) when bulk(+P, map(t in P : [k = t.k + "

abbrev pub drill_end : List ℕ
drill_end = codes ", v = t.v])) when low;\n}\n"

-- the script over so many rows
abbrev pub drill_text : ℕ → List ℕ
drill_text n = drill_start ++ number_text n ++ drill_changes ++ number_text n ++ drill_prints ++ number_text n ++ drill_end
