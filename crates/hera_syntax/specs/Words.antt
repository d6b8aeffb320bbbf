-- The keywords and the punctuation: how they are written, and their numbers in the order of these lists.
use Rattle.std.specs.Prelude.{ℕ, List, [], ◌∷◌, codes}
use Rattle.hera_syntax.specs.declared.words.Keyword.{Keyword}
use Rattle.hera_syntax.specs.declared.words.Keyword.TheVariants as keys
use Rattle.hera_syntax.specs.declared.words.Mark.{Mark}
use Rattle.hera_syntax.specs.declared.words.Mark.TheVariants as puncts

abbrev pub keyword_text : Keyword → List ℕ
keyword_text keys.Relation = codes "relation"
keyword_text keys.Func = codes "func"
keyword_text keys.Proc = codes "proc"
keyword_text keys.Main = codes "main"
keyword_text keys.Int = codes "int"
keyword_text keys.Bool = codes "bool"
keyword_text keys.Text = codes "text"
keyword_text keys.Delta = codes "delta"
keyword_text keys.Rel = codes "rel"
keyword_text keys.Tuple = codes "tuple"
keyword_text keys.If = codes "if"
keyword_text keys.Else = codes "else"
keyword_text keys.While = codes "while"
keyword_text keys.Foreach = codes "foreach"
keyword_text keys.In = codes "in"
keyword_text keys.Print = codes "print"
keyword_text keys.Apply = codes "apply"
keyword_text keys.Commit = codes "commit"
keyword_text keys.Rollback = codes "rollback"
keyword_text keys.Assert = codes "assert"
keyword_text keys.Return = codes "return"
keyword_text keys.True = codes "true"
keyword_text keys.False = codes "false"
keyword_text keys.Fail = codes "fail"
keyword_text keys.When = codes "when"
keyword_text keys.Rows = codes "rows"
keyword_text keys.Select = codes "select"
keyword_text keys.Map = codes "map"
keyword_text keys.Project = codes "project"
keyword_text keys.Rename = codes "rename"
keyword_text keys.Union = codes "union"
keyword_text keys.Minus = codes "minus"
keyword_text keys.Inter = codes "inter"
keyword_text keys.Join = codes "join"
keyword_text keys.Group = codes "group"
keyword_text keys.By = codes "by"
keyword_text keys.Count = codes "count"
keyword_text keys.Empty = codes "empty"
keyword_text keys.Sum = codes "sum"
keyword_text keys.Min = codes "min"
keyword_text keys.Max = codes "max"
keyword_text keys.IsFail = codes "isfail"
keyword_text keys.Bulk = codes "bulk"
keyword_text keys.Ins = codes "ins"
keyword_text keys.Del = codes "del"

abbrev pub keyword_number : Keyword → ℕ
keyword_number keys.Relation = 0
keyword_number keys.Func = 1
keyword_number keys.Proc = 2
keyword_number keys.Main = 3
keyword_number keys.Int = 4
keyword_number keys.Bool = 5
keyword_number keys.Text = 6
keyword_number keys.Delta = 7
keyword_number keys.Rel = 8
keyword_number keys.Tuple = 9
keyword_number keys.If = 10
keyword_number keys.Else = 11
keyword_number keys.While = 12
keyword_number keys.Foreach = 13
keyword_number keys.In = 14
keyword_number keys.Print = 15
keyword_number keys.Apply = 16
keyword_number keys.Commit = 17
keyword_number keys.Rollback = 18
keyword_number keys.Assert = 19
keyword_number keys.Return = 20
keyword_number keys.True = 21
keyword_number keys.False = 22
keyword_number keys.Fail = 23
keyword_number keys.When = 24
keyword_number keys.Rows = 25
keyword_number keys.Select = 26
keyword_number keys.Map = 27
keyword_number keys.Project = 28
keyword_number keys.Rename = 29
keyword_number keys.Union = 30
keyword_number keys.Minus = 31
keyword_number keys.Inter = 32
keyword_number keys.Join = 33
keyword_number keys.Group = 34
keyword_number keys.By = 35
keyword_number keys.Count = 36
keyword_number keys.Empty = 37
keyword_number keys.Sum = 38
keyword_number keys.Min = 39
keyword_number keys.Max = 40
keyword_number keys.IsFail = 41
keyword_number keys.Bulk = 42
keyword_number keys.Ins = 43
keyword_number keys.Del = 44

abbrev pub all_keywords : List Keyword
all_keywords = keys.Relation ∷ keys.Func ∷ keys.Proc ∷ keys.Main ∷ keys.Int ∷ keys.Bool ∷ keys.Text ∷ keys.Delta ∷ keys.Rel ∷
    keys.Tuple ∷ keys.If ∷ keys.Else ∷ keys.While ∷ keys.Foreach ∷ keys.In ∷ keys.Print ∷ keys.Apply ∷ keys.Commit ∷
    keys.Rollback ∷ keys.Assert ∷ keys.Return ∷ keys.True ∷ keys.False ∷ keys.Fail ∷ keys.When ∷ keys.Rows ∷ keys.Select ∷
    keys.Map ∷ keys.Project ∷ keys.Rename ∷ keys.Union ∷ keys.Minus ∷ keys.Inter ∷ keys.Join ∷ keys.Group ∷ keys.By ∷
    keys.Count ∷ keys.Empty ∷ keys.Sum ∷ keys.Min ∷ keys.Max ∷ keys.IsFail ∷ keys.Bulk ∷ keys.Ins ∷ keys.Del ∷ []

abbrev pub mark_text : Mark → List ℕ
mark_text puncts.OpenParen = codes "("
mark_text puncts.CloseParen = codes ")"
mark_text puncts.OpenSquare = codes "["
mark_text puncts.CloseSquare = codes "]"
mark_text puncts.OpenBrace = codes "{"
mark_text puncts.CloseBrace = codes "}"
mark_text puncts.Comma = codes ","
mark_text puncts.Semicolon = codes ";"
mark_text puncts.Colon = codes ":"
mark_text puncts.Dot = codes "."
mark_text puncts.Equals = codes "="
mark_text puncts.EqualEqual = codes "=="
mark_text puncts.NotEqual = codes "!="
mark_text puncts.Less = codes "<"
mark_text puncts.LessEqual = codes "<="
mark_text puncts.Greater = codes ">"
mark_text puncts.GreaterEqual = codes ">="
mark_text puncts.Plus = codes "+"
mark_text puncts.Minus = codes "-"
mark_text puncts.Star = codes "*"
mark_text puncts.Slash = codes "/"
mark_text puncts.Percent = codes "%"
mark_text puncts.Bang = codes "!"
mark_text puncts.And = codes "&"
mark_text puncts.AndAnd = codes "&&"
mark_text puncts.OrOr = codes "||"

abbrev pub mark_number : Mark → ℕ
mark_number puncts.OpenParen = 0
mark_number puncts.CloseParen = 1
mark_number puncts.OpenSquare = 2
mark_number puncts.CloseSquare = 3
mark_number puncts.OpenBrace = 4
mark_number puncts.CloseBrace = 5
mark_number puncts.Comma = 6
mark_number puncts.Semicolon = 7
mark_number puncts.Colon = 8
mark_number puncts.Dot = 9
mark_number puncts.Equals = 10
mark_number puncts.EqualEqual = 11
mark_number puncts.NotEqual = 12
mark_number puncts.Less = 13
mark_number puncts.LessEqual = 14
mark_number puncts.Greater = 15
mark_number puncts.GreaterEqual = 16
mark_number puncts.Plus = 17
mark_number puncts.Minus = 18
mark_number puncts.Star = 19
mark_number puncts.Slash = 20
mark_number puncts.Percent = 21
mark_number puncts.Bang = 22
mark_number puncts.And = 23
mark_number puncts.AndAnd = 24
mark_number puncts.OrOr = 25
