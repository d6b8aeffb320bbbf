-- The numbers of the command line.
use Rattle.std.specs.Prelude.{ℕ, ◌^◌, ◌&&◌, Bool, true, false, List, Option, Some, None, length, nat_lt, nat_le, if◌then◌else◌}
use Rattle.std.specs.List.{list_all}
use Rattle.std.specs.Char.{is_ascii_digit}
use Rattle.std.specs.Str.Parse.{digits_value}
use Rattle.hera_words.specs.declared.form.Number.{Number}
use Rattle.hera_words.specs.declared.form.Number.TheVariants.{Absent, Turns, Rows}

-- a number of turns: one to twenty ASCII digits with a value below 2^64
abbrev pub turns_of : List ℕ → Option ℕ
turns_of word =
    if nat_lt 0 (length word) && nat_le (length word) 20 && list_all is_ascii_digit word && nat_lt (digits_value 10 word) (2 ^ 64)
    then Some (digits_value 10 word) else None

-- a number of rows: from 1 to 1000
abbrev pub rows_of : Option ℕ → Option ℕ
rows_of None = None
rows_of (Some n) = if nat_le 1 n && nat_le n 1000 then Some n else None

-- how many words a number takes
abbrev pub width_of : Number → ℕ
width_of Absent = 0
width_of Turns = 1
width_of Rows = 1

-- the number that a word gives, 0 where no word does
abbrev pub number_in : Number → List ℕ → Option ℕ
number_in Absent word = Some 0
number_in Turns word = turns_of word
number_in Rows word = rows_of (turns_of word)

-- the number of an order that a word gives, written as turns are, 0 where no word does
abbrev pub order_in : Bool → List ℕ → Option ℕ
order_in true word = turns_of word
order_in false word = Some 0
