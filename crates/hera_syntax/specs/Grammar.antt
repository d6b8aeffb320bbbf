-- The grammar, as data: each production's alternatives, as lists of parts.
use Rattle.std.specs.Prelude.{ℕ, List, [], ◌∷◌, Bool, true, false, IsTrue, nat_eq, slice_index_or}
use Rattle.std.specs.List.{list_any}
use Rattle.hera_syntax.specs.declared.words.Keyword.TheVariants as keys
use Rattle.hera_syntax.specs.declared.words.Mark.TheVariants as puncts
use Rattle.hera_syntax.specs.declared.words.Keyword.{Keyword}
use Rattle.hera_syntax.specs.declared.words.Mark.{Mark}
use Rattle.hera_syntax.specs.Words.{keyword_number, mark_number}
use Rattle.hera_syntax.specs.declared.token.Terminal.{Terminal}
use Rattle.hera_syntax.specs.declared.token.Terminal.TheVariants as terminals
use Rattle.hera_syntax.specs.declared.token.TokenKind.{TokenKind}
use Rattle.hera_syntax.specs.declared.token.TokenKind.TheVariants as kinds
use Rattle.hera_syntax.specs.declared.token.Token.{Token}

-- what a token is, without its value
abbrev pub terminal_of : TokenKind → Terminal
terminal_of (kinds.Ident name) = terminals.Name
terminal_of (kinds.Int n) = terminals.Int
terminal_of (kinds.Text text) = terminals.Text
terminal_of (kinds.Key k) = terminals.Key k
terminal_of (kinds.Punct p) = terminals.Punct p

-- whether two terminals are one
abbrev pub same_terminal : Terminal → Terminal → Bool
same_terminal terminals.Name terminals.Name = true
same_terminal terminals.Int terminals.Int = true
same_terminal terminals.Text terminals.Text = true
same_terminal (terminals.Key j) (terminals.Key k) = nat_eq (keyword_number j) (keyword_number k)
same_terminal (terminals.Punct p) (terminals.Punct q) = nat_eq (mark_number p) (mark_number q)
same_terminal _ _ = false

-- whether a terminal is one of these
abbrev pub is_one_of : List Terminal → Terminal → Bool
is_one_of ts t = list_any (λ d. same_terminal d t) ts

-- the token's terminal is one of these
abbrev pub Allows : List Terminal → Token → Type 0
Allows ts t = IsTrue (is_one_of ts (terminal_of t.kind))

abbrev pub word : Keyword → Terminal
word k = terminals.Key k

abbrev pub mark : Mark → Terminal
mark p = terminals.Punct p

-- the brackets, the marks and the words that stand in many productions
abbrev pub name : List Terminal
name = terminals.Name ∷ []

abbrev pub paren : List Terminal
paren = mark puncts.OpenParen ∷ []

abbrev pub close_paren : Terminal
close_paren = mark puncts.CloseParen

abbrev pub square : List Terminal
square = mark puncts.OpenSquare ∷ []

abbrev pub close_square : Terminal
close_square = mark puncts.CloseSquare

abbrev pub brace : List Terminal
brace = mark puncts.OpenBrace ∷ []

abbrev pub close_brace : Terminal
close_brace = mark puncts.CloseBrace

abbrev pub comma : Terminal
comma = mark puncts.Comma

abbrev pub semicolon : Terminal
semicolon = mark puncts.Semicolon

abbrev pub colon : Terminal
colon = mark puncts.Colon

abbrev pub dot : Terminal
dot = mark puncts.Dot

abbrev pub equals : Terminal
equals = mark puncts.Equals

abbrev pub in_word : Terminal
in_word = word keys.In

abbrev pub else_word : Terminal
else_word = word keys.Else

abbrev pub by_word : Terminal
by_word = word keys.By

-- `int`, `bool`, `text`
abbrev pub kind_words : List Terminal
kind_words = word keys.Int ∷ word keys.Bool ∷ word keys.Text ∷ []

-- `==`, `!=`, `<`, `<=`, `>`, `>=`, `in`
abbrev pub cmp_ops : List Terminal
cmp_ops = mark puncts.EqualEqual ∷ mark puncts.NotEqual ∷ mark puncts.Less ∷ mark puncts.LessEqual ∷ mark puncts.Greater ∷ mark puncts.GreaterEqual ∷ word keys.In ∷ []

-- `-`, `!`
abbrev pub prefix_ops : List Terminal
prefix_ops = mark puncts.Minus ∷ mark puncts.Bang ∷ []

-- `+`, `-`
abbrev pub signs : List Terminal
signs = mark puncts.Plus ∷ mark puncts.Minus ∷ []

-- `select`, `map`
abbrev pub walk_words : List Terminal
walk_words = word keys.Select ∷ word keys.Map ∷ []

-- `union`, `minus`, `inter`, `join`
abbrev pub pair_words : List Terminal
pair_words = word keys.Union ∷ word keys.Minus ∷ word keys.Inter ∷ word keys.Join ∷ []

-- `count`, `empty`, `isfail`
abbrev pub measure_words : List Terminal
measure_words = word keys.Count ∷ word keys.Empty ∷ word keys.IsFail ∷ []

-- `sum`, `min`, `max`
abbrev pub fold_words : List Terminal
fold_words = word keys.Sum ∷ word keys.Min ∷ word keys.Max ∷ []

-- `ins`, `del`
abbrev pub part_words : List Terminal
part_words = word keys.Ins ∷ word keys.Del ∷ []

-- the levels whose operators may stand in a row, from the loosest
pub data Level : Type 0 where
  whens : Level
  ors : Level
  ands : Level
  sums : Level
  terms : Level
  smashes : Level
  merges : Level

-- `when`; `||`; `&&`; `+`, `-`; `*`, `/`, `%`; `!`; `&`
abbrev pub ops : Level → List Terminal
ops whens = word keys.When ∷ []
ops ors = mark puncts.OrOr ∷ []
ops ands = mark puncts.AndAnd ∷ []
ops sums = mark puncts.Plus ∷ mark puncts.Minus ∷ []
ops terms = mark puncts.Star ∷ mark puncts.Slash ∷ mark puncts.Percent ∷ []
ops smashes = mark puncts.Bang ∷ []
ops merges = mark puncts.And ∷ []

-- The productions. A repetition, an option and the rest of a choice that begins with one token have
-- one of their own, so that the next token always tells the alternative.
pub data Production : Type 0 where
  program : Production
  relations : Production
  funcs : Production
  procs : Production
  last_main : Production
  relation : Production
  attrs : Production
  more_attrs : Production
  attr : Production
  kind : Production
  type_tree : Production
  schema : Production
  func : Production
  proc : Production
  some_params : Production
  params : Production
  more_params : Production
  param : Production
  main : Production
  block : Production
  stmts : Production
  stmt : Production
  named : Production
  else_part : Production
  after_else : Production
  some_value : Production
  some_text : Production
  some_args : Production
  args : Production
  more_args : Production
  level : Level → Production
  more : Level → Production
  cmp : Production
  more_cmp : Production
  prefix : Production
  post : Production
  field : Production
  prime : Production
  call : Production
  bindings : Production
  more_bindings : Production
  binding : Production
  some_atoms : Production
  atoms : Production
  more_atoms : Production
  atom : Production
  some_lines : Production
  lines : Production
  more_lines : Production
  line : Production
  names : Production
  more_names : Production
  renamings : Production
  more_renamings : Production
  renaming : Production
  aggs : Production
  more_aggs : Production
  named_agg : Production
  agg : Production

-- the operand of a level
abbrev pub below : Level → Production
below whens = level ors
below ors = level ands
below ands = cmp
below sums = level terms
below terms = level smashes
below smashes = level merges
below merges = prefix

abbrev pub expr : Production
expr = level whens

-- A part of an alternative: one of some terminals, whose token the tree keeps; a terminal that it does
-- not keep; a phrase of a production.
pub data Part : Type 0 where
  keep : List Terminal → Part
  leave : Terminal → Part
  phrase : Production → Part

-- the alternatives of each production
abbrev pub alternatives : Production → List (List Part)
alternatives program = (phrase relations ∷ phrase funcs ∷ phrase procs ∷ phrase last_main ∷ []) ∷ []
alternatives relations = (phrase relation ∷ phrase relations ∷ []) ∷ [] ∷ []
alternatives funcs = (phrase func ∷ phrase funcs ∷ []) ∷ [] ∷ []
alternatives procs = (phrase proc ∷ phrase procs ∷ []) ∷ [] ∷ []
alternatives last_main = (phrase main ∷ []) ∷ [] ∷ []
alternatives relation = (keep (word keys.Relation ∷ []) ∷ keep name ∷ keep paren ∷ phrase attrs ∷ leave close_paren ∷ leave semicolon ∷ []) ∷ []
alternatives attrs = (phrase attr ∷ phrase more_attrs ∷ []) ∷ []
alternatives more_attrs = (leave comma ∷ phrase attr ∷ phrase more_attrs ∷ []) ∷ [] ∷ []
alternatives attr = (keep name ∷ phrase kind ∷ []) ∷ []
alternatives kind = (keep kind_words ∷ []) ∷ []
alternatives type_tree =
    (phrase kind ∷ [])
    ∷ (keep (word keys.Delta ∷ []) ∷ [])
    ∷ (keep (word keys.Rel ∷ []) ∷ phrase schema ∷ [])
    ∷ (keep (word keys.Tuple ∷ []) ∷ phrase schema ∷ [])
    ∷ []
alternatives schema = (keep name ∷ []) ∷ (keep paren ∷ phrase attrs ∷ leave close_paren ∷ []) ∷ []
alternatives func = (keep (word keys.Func ∷ []) ∷ phrase type_tree ∷ keep name ∷ keep paren ∷ phrase some_params ∷ leave close_paren ∷ phrase block ∷ []) ∷ []
alternatives proc = (keep (word keys.Proc ∷ []) ∷ keep name ∷ keep paren ∷ phrase some_params ∷ leave close_paren ∷ phrase block ∷ []) ∷ []
alternatives some_params = (phrase params ∷ []) ∷ [] ∷ []
alternatives params = (phrase param ∷ phrase more_params ∷ []) ∷ []
alternatives more_params = (leave comma ∷ phrase param ∷ phrase more_params ∷ []) ∷ [] ∷ []
alternatives param = (phrase type_tree ∷ keep name ∷ []) ∷ []
alternatives main = (keep (word keys.Main ∷ []) ∷ phrase block ∷ []) ∷ []
alternatives block = (keep brace ∷ phrase stmts ∷ leave close_brace ∷ []) ∷ []
alternatives stmts = (phrase stmt ∷ phrase stmts ∷ []) ∷ [] ∷ []
alternatives stmt =
    (phrase type_tree ∷ keep name ∷ leave equals ∷ phrase expr ∷ leave semicolon ∷ [])
    ∷ (keep name ∷ phrase named ∷ [])
    ∷ (keep (word keys.If ∷ []) ∷ keep paren ∷ phrase expr ∷ leave close_paren ∷ phrase block ∷ phrase else_part ∷ [])
    ∷ (keep (word keys.While ∷ []) ∷ keep paren ∷ phrase expr ∷ leave close_paren ∷ phrase block ∷ [])
    ∷ (keep (word keys.Foreach ∷ []) ∷ keep paren ∷ keep name ∷ leave in_word ∷ phrase expr ∷ leave close_paren ∷ phrase block ∷ [])
    ∷ (keep (word keys.Print ∷ []) ∷ phrase expr ∷ leave semicolon ∷ [])
    ∷ (keep (word keys.Apply ∷ []) ∷ phrase expr ∷ leave semicolon ∷ [])
    ∷ (keep (word keys.Assert ∷ []) ∷ phrase expr ∷ leave semicolon ∷ [])
    ∷ (keep (word keys.Commit ∷ []) ∷ phrase some_text ∷ leave semicolon ∷ [])
    ∷ (keep (word keys.Rollback ∷ []) ∷ leave semicolon ∷ [])
    ∷ (keep (word keys.Return ∷ []) ∷ phrase some_value ∷ leave semicolon ∷ [])
    ∷ []
alternatives named =
    (leave equals ∷ phrase expr ∷ leave semicolon ∷ [])
    ∷ (keep paren ∷ phrase some_args ∷ leave close_paren ∷ leave semicolon ∷ [])
    ∷ []
alternatives else_part = (leave else_word ∷ phrase after_else ∷ []) ∷ [] ∷ []
alternatives after_else =
    (keep (word keys.If ∷ []) ∷ keep paren ∷ phrase expr ∷ leave close_paren ∷ phrase block ∷ phrase else_part ∷ [])
    ∷ (phrase block ∷ [])
    ∷ []
alternatives some_value = (phrase expr ∷ []) ∷ [] ∷ []
alternatives some_text = (keep (terminals.Text ∷ []) ∷ []) ∷ [] ∷ []
alternatives some_args = (phrase args ∷ []) ∷ [] ∷ []
alternatives args = (phrase expr ∷ phrase more_args ∷ []) ∷ []
alternatives more_args = (leave comma ∷ phrase expr ∷ phrase more_args ∷ []) ∷ [] ∷ []
alternatives (level l) = (phrase (below l) ∷ phrase (more l) ∷ []) ∷ []
alternatives (more l) = (keep (ops l) ∷ phrase (below l) ∷ phrase (more l) ∷ []) ∷ [] ∷ []
alternatives cmp = (phrase (level sums) ∷ phrase more_cmp ∷ []) ∷ []
alternatives more_cmp = (keep cmp_ops ∷ phrase (level sums) ∷ []) ∷ [] ∷ []
alternatives prefix = (keep prefix_ops ∷ phrase post ∷ []) ∷ (phrase post ∷ []) ∷ []
alternatives post = (phrase prime ∷ phrase field ∷ []) ∷ []
alternatives field = (leave dot ∷ keep name ∷ []) ∷ [] ∷ []
alternatives prime =
    (keep (terminals.Int ∷ []) ∷ [])
    ∷ (keep (terminals.Text ∷ []) ∷ [])
    ∷ (keep (word keys.True ∷ []) ∷ [])
    ∷ (keep (word keys.False ∷ []) ∷ [])
    ∷ (keep (word keys.Fail ∷ []) ∷ [])
    ∷ (keep name ∷ phrase call ∷ [])
    ∷ (keep paren ∷ phrase expr ∷ leave close_paren ∷ [])
    ∷ (keep square ∷ phrase bindings ∷ leave close_square ∷ [])
    ∷ (keep brace ∷ phrase some_atoms ∷ leave close_brace ∷ [])
    ∷ (keep (word keys.Rows ∷ []) ∷ keep paren ∷ keep name ∷ leave close_paren ∷ keep brace ∷ phrase some_lines ∷ leave close_brace ∷ [])
    ∷ (keep walk_words ∷ keep paren ∷ keep name ∷ leave in_word ∷ phrase expr ∷ leave colon ∷ phrase expr ∷ leave close_paren ∷ [])
    ∷ (keep (word keys.Project ∷ []) ∷ keep paren ∷ phrase expr ∷ leave semicolon ∷ phrase names ∷ leave close_paren ∷ [])
    ∷ (keep (word keys.Rename ∷ []) ∷ keep paren ∷ phrase expr ∷ leave semicolon ∷ phrase renamings ∷ leave close_paren ∷ [])
    ∷ (keep pair_words ∷ keep paren ∷ phrase expr ∷ leave comma ∷ phrase expr ∷ leave close_paren ∷ [])
    ∷ (keep (word keys.Group ∷ []) ∷ keep paren ∷ phrase expr ∷ leave semicolon ∷ leave by_word ∷ phrase names ∷ leave semicolon ∷ phrase aggs ∷ leave close_paren ∷ [])
    ∷ (keep measure_words ∷ keep paren ∷ phrase expr ∷ leave close_paren ∷ [])
    ∷ (keep fold_words ∷ keep paren ∷ phrase expr ∷ leave comma ∷ keep name ∷ leave close_paren ∷ [])
    ∷ (keep (word keys.Bulk ∷ []) ∷ keep paren ∷ keep signs ∷ keep name ∷ leave comma ∷ phrase expr ∷ leave close_paren ∷ [])
    ∷ (keep part_words ∷ keep paren ∷ keep name ∷ leave comma ∷ phrase expr ∷ leave close_paren ∷ [])
    ∷ []
alternatives call = (keep paren ∷ phrase some_args ∷ leave close_paren ∷ []) ∷ [] ∷ []
alternatives bindings = (phrase binding ∷ phrase more_bindings ∷ []) ∷ []
alternatives more_bindings = (leave comma ∷ phrase binding ∷ phrase more_bindings ∷ []) ∷ [] ∷ []
alternatives binding = (keep name ∷ leave equals ∷ phrase expr ∷ []) ∷ []
alternatives some_atoms = (phrase atoms ∷ []) ∷ [] ∷ []
alternatives atoms = (phrase atom ∷ phrase more_atoms ∷ []) ∷ []
alternatives more_atoms = (leave comma ∷ phrase atom ∷ phrase more_atoms ∷ []) ∷ [] ∷ []
alternatives atom = (keep signs ∷ keep name ∷ keep paren ∷ phrase args ∷ leave close_paren ∷ []) ∷ []
alternatives some_lines = (phrase lines ∷ []) ∷ [] ∷ []
alternatives lines = (phrase line ∷ phrase more_lines ∷ []) ∷ []
alternatives more_lines = (leave comma ∷ phrase line ∷ phrase more_lines ∷ []) ∷ [] ∷ []
alternatives line = (keep paren ∷ phrase args ∷ leave close_paren ∷ []) ∷ []
alternatives names = (keep name ∷ phrase more_names ∷ []) ∷ []
alternatives more_names = (leave comma ∷ keep name ∷ phrase more_names ∷ []) ∷ [] ∷ []
alternatives renamings = (phrase renaming ∷ phrase more_renamings ∷ []) ∷ []
alternatives more_renamings = (leave comma ∷ phrase renaming ∷ phrase more_renamings ∷ []) ∷ [] ∷ []
alternatives renaming = (keep name ∷ leave equals ∷ keep name ∷ []) ∷ []
alternatives aggs = (phrase named_agg ∷ phrase more_aggs ∷ []) ∷ []
alternatives more_aggs = (leave comma ∷ phrase named_agg ∷ phrase more_aggs ∷ []) ∷ [] ∷ []
alternatives named_agg = (keep name ∷ leave equals ∷ phrase agg ∷ []) ∷ []
alternatives agg = (keep (word keys.Count ∷ []) ∷ []) ∷ (keep fold_words ∷ keep paren ∷ keep name ∷ leave close_paren ∷ []) ∷ []

-- the alternative of this number
abbrev pub alternative : Production → ℕ → List Part
alternative s k = slice_index_or (alternatives s) k []
