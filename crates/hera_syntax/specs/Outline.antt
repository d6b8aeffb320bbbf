-- The plain form of a tree: its outline. It has no pointer and no capacity.
--
-- An outline is the list of the tree's nodes and tokens, in their order. A node says its production and
-- which of the alternatives it is, a kept token stands whole, and of another token only its terminal.
use Rattle.std.specs.Prelude.{ℕ, List, [], ◌∷◌, ◌++◌, Option, Some, None}
use Rattle.std.specs.List.{flat_map}
use Rattle.hera_syntax.specs.declared.token.Token.{Token}
use Rattle.hera_syntax.specs.declared.token.Terminal.{Terminal}
use Rattle.hera_syntax.specs.Grammar as phrases
use Rattle.hera_syntax.specs.Grammar.{Production}
use Rattle.hera_syntax.specs.declared.expr.Names.{Names}
use Rattle.hera_syntax.specs.declared.expr.Renaming.{Renaming}
use Rattle.hera_syntax.specs.declared.expr.Renamings.{Renamings}
use Rattle.hera_syntax.specs.declared.expr.AggTree.{AggTree}
use Rattle.hera_syntax.specs.declared.expr.AggTree.TheVariants.{Count, Of}
use Rattle.hera_syntax.specs.declared.expr.NamedAgg.{NamedAgg}
use Rattle.hera_syntax.specs.declared.expr.NamedAggs.{NamedAggs}
use Rattle.hera_syntax.specs.declared.expr.ArgTrees.{ArgTrees, ArgTrees', Row_of-Expr, end_of-Expr, more_of-Expr}
use Rattle.hera_syntax.specs.declared.expr.Level.{Level}
use Rattle.hera_syntax.specs.declared.expr.Level.TheVariants as levels
use Rattle.hera_syntax.specs.declared.expr.Expr.{Expr, Expr', Row_of-Tail, end_of-Tail, more_of-Tail}
use Rattle.hera_syntax.specs.declared.expr.OperandTree.{OperandTree, Inner', Prefix'}
use Rattle.hera_syntax.specs.declared.expr.Tail.{Tail}
use Rattle.hera_syntax.specs.declared.expr.Bindings.{Bindings, Bindings', Row_of-Binding, end_of-Binding, more_of-Binding}
use Rattle.hera_syntax.specs.declared.expr.Atoms.{Atoms, Atoms', Row_of-Atom, end_of-Atom, more_of-Atom}
use Rattle.hera_syntax.specs.declared.expr.LineTrees.{LineTrees, LineTrees', Row_of-LineTree, end_of-LineTree, more_of-LineTree}
use Rattle.hera_syntax.specs.declared.expr.Binding.{Binding, Binding'}
use Rattle.hera_syntax.specs.declared.expr.Atom.{Atom, Atom'}
use Rattle.hera_syntax.specs.declared.expr.LineTree.{LineTree, LineTree'}
use Rattle.hera_syntax.specs.declared.expr.Prefix.{Prefix}
use Rattle.hera_syntax.specs.declared.expr.Post.{Post}
use Rattle.hera_syntax.specs.declared.expr.Prime.{Prime, Int, Text, True, False, Fail, Name, Call', Paren', Row', Delta', Rows', Walk', Project', Rename', Pair', Group', Measure', Fold', Bulk', Part', Held-Prime-Call-2, Prime-Call-2-None', Prime-Call-2-Some', Held-Prime-Delta-1, Prime-Delta-1-None', Prime-Delta-1-Some', Held-Prime-Rows-4, Prime-Rows-4-None', Prime-Rows-4-Some'}

-- what stands at one place of an outline
pub data Entry : Type 0 where
  -- here begins a phrase of this production, by the alternative of this number
  at_node : Production → ℕ → Entry
  -- a token that the tree keeps
  kept : Token → Entry
  -- a token that it does not keep
  left_out : Terminal → Entry

abbrev pub node : Production → ℕ → List Entry
node s k = at_node s k ∷ []

abbrev pub hold : Token → List Entry
hold t = kept t ∷ []

abbrev pub skip : Terminal → List Entry
skip t = left_out t ∷ []

abbrev pub name_row : Token → List Entry
name_row t = node phrases.more_names 0 ++ skip phrases.comma ++ hold t

abbrev pub names_outline : Names → List Entry
names_outline ns = node phrases.names 0 ++ hold ns.first ++ flat_map name_row ns.rest.items ++ node phrases.more_names 1

abbrev pub renaming_outline : Renaming → List Entry
renaming_outline r = node phrases.renaming 0 ++ hold r.new ++ skip phrases.equals ++ hold r.old

abbrev pub renaming_row : Renaming → List Entry
renaming_row r = node phrases.more_renamings 0 ++ skip phrases.comma ++ renaming_outline r

abbrev pub renamings_outline : Renamings → List Entry
renamings_outline rs = node phrases.renamings 0 ++ renaming_outline rs.first ++ flat_map renaming_row rs.rest.items ++ node phrases.more_renamings 1

abbrev pub agg_outline : AggTree → List Entry
agg_outline (Count t) = node phrases.agg 0 ++ hold t
agg_outline (Of w b n) = node phrases.agg 1 ++ hold w ++ hold b ++ hold n ++ skip phrases.close_paren

abbrev pub named_agg_outline : NamedAgg → List Entry
named_agg_outline a = node phrases.named_agg 0 ++ hold a.name ++ skip phrases.equals ++ agg_outline a.agg

abbrev pub agg_row : NamedAgg → List Entry
agg_row a = node phrases.more_aggs 0 ++ skip phrases.comma ++ named_agg_outline a

abbrev pub aggs_outline : NamedAggs → List Entry
aggs_outline aa = node phrases.aggs 0 ++ named_agg_outline aa.first ++ flat_map agg_row aa.rest.items ++ node phrases.more_aggs 1

-- what stands before a prefix's operand
abbrev pub prefix_start : Option Token → List Entry
prefix_start None = node phrases.prefix 1
prefix_start (Some t) = node phrases.prefix 0 ++ hold t

abbrev pub field_outline : Option Token → List Entry
field_outline None = node phrases.field 1
field_outline (Some t) = node phrases.field 0 ++ skip phrases.dot ++ hold t

-- the production of a chain of this level, and of what stands behind an operand of it
abbrev pub production_of : Level → Production
production_of levels.Whens = phrases.level phrases.whens
production_of levels.Ors = phrases.level phrases.ors
production_of levels.Ands = phrases.level phrases.ands
production_of levels.Comparisons = phrases.cmp
production_of levels.Sums = phrases.level phrases.sums
production_of levels.Terms = phrases.level phrases.terms
production_of levels.Smashes = phrases.level phrases.smashes
production_of levels.Merges = phrases.level phrases.merges

abbrev pub more_of : Level → Production
more_of levels.Whens = phrases.more phrases.whens
more_of levels.Ors = phrases.more phrases.ors
more_of levels.Ands = phrases.more phrases.ands
more_of levels.Comparisons = phrases.more_cmp
more_of levels.Sums = phrases.more phrases.sums
more_of levels.Terms = phrases.more phrases.terms
more_of levels.Smashes = phrases.more phrases.smashes
more_of levels.Merges = phrases.more phrases.merges

-- Which alternative a chain is, by the outlines of its tails. A comparison has at most one tail: one with more
-- is by none that there is.
abbrev pub alternative_of : Level → List (List Entry) → ℕ
alternative_of levels.Comparisons (tail ∷ other ∷ tails) = 1
alternative_of _ tails = 0

-- what stands behind the tails; behind the one of a comparison stands nothing
abbrev pub chain_end : Level → List (List Entry) → List Entry
chain_end levels.Comparisons (tail ∷ []) = []
chain_end level tails = node (more_of level) 1

-- a chain, by the outlines of its first operand and of its tails
abbrev pub chain : Level → List Entry → List (List Entry) → List Entry
chain level first tails = node (production_of level) (alternative_of level tails) ++ first ++ flat_map (λ tail. node (more_of level) 0 ++ tail) tails ++ chain_end level tails

abbrev mutual
  pub expr_outline : Expr → List Entry
  expr_outline (Expr' level first shape rest) = chain level (operand_outline first) (tails_outline rest)

  pub tails_outline : {m : _} → Row_of-Tail m → List (List Entry)
  tails_outline end_of-Tail = []
  tails_outline (more_of-Tail op operand rest) = (hold op ++ operand_outline operand) ∷ tails_outline rest

  pub operand_outline : OperandTree → List Entry
  operand_outline (Inner' p e) = expr_outline e
  operand_outline (Prefix' op p operand field) = prefix_start op ++ (node phrases.post 0 ++ prime_outline operand ++ field_outline field)

  pub args_outline : ArgTrees → List Entry
  args_outline (ArgTrees' first shape rest) = node phrases.args 0 ++ expr_outline first ++ args_rest rest ++ node phrases.more_args 1

  pub args_rest : {m : _} → Row_of-Expr m → List Entry
  args_rest end_of-Expr = []
  args_rest (more_of-Expr e rest) = (node phrases.more_args 0 ++ skip phrases.comma ++ expr_outline e) ++ args_rest rest

  pub bindings_outline : Bindings → List Entry
  bindings_outline (Bindings' first shape rest) = node phrases.bindings 0 ++ binding_outline first ++ bindings_rest rest ++ node phrases.more_bindings 1

  pub bindings_rest : {m : _} → Row_of-Binding m → List Entry
  bindings_rest end_of-Binding = []
  bindings_rest (more_of-Binding e rest) = (node phrases.more_bindings 0 ++ skip phrases.comma ++ binding_outline e) ++ bindings_rest rest

  pub atoms_outline : Atoms → List Entry
  atoms_outline (Atoms' first shape rest) = node phrases.atoms 0 ++ atom_outline first ++ atoms_rest rest ++ node phrases.more_atoms 1

  pub atoms_rest : {m : _} → Row_of-Atom m → List Entry
  atoms_rest end_of-Atom = []
  atoms_rest (more_of-Atom e rest) = (node phrases.more_atoms 0 ++ skip phrases.comma ++ atom_outline e) ++ atoms_rest rest

  pub lines_outline : LineTrees → List Entry
  lines_outline (LineTrees' first shape rest) = node phrases.lines 0 ++ line_outline first ++ lines_rest rest ++ node phrases.more_lines 1

  pub lines_rest : {m : _} → Row_of-LineTree m → List Entry
  lines_rest end_of-LineTree = []
  lines_rest (more_of-LineTree e rest) = (node phrases.more_lines 0 ++ skip phrases.comma ++ line_outline e) ++ lines_rest rest

  pub binding_outline : Binding → List Entry
  binding_outline (Binding' name value) = node phrases.binding 0 ++ hold name ++ skip phrases.equals ++ expr_outline value

  pub atom_outline : Atom → List Entry
  atom_outline (Atom' sign name bracket args) = node phrases.atom 0 ++ hold sign ++ hold name ++ hold bracket ++ args_outline args ++ skip phrases.close_paren

  pub line_outline : LineTree → List Entry
  line_outline (LineTree' bracket args) = node phrases.line 0 ++ hold bracket ++ args_outline args ++ skip phrases.close_paren

  pub call_args : Held-Prime-Call-2 → List Entry
  call_args Prime-Call-2-None' = node phrases.some_args 1
  call_args (Prime-Call-2-Some' p args) = node phrases.some_args 0 ++ args_outline args

  pub delta_atoms : Held-Prime-Delta-1 → List Entry
  delta_atoms Prime-Delta-1-None' = node phrases.some_atoms 1
  delta_atoms (Prime-Delta-1-Some' p atoms) = node phrases.some_atoms 0 ++ atoms_outline atoms

  pub rows_lines : Held-Prime-Rows-4 → List Entry
  rows_lines Prime-Rows-4-None' = node phrases.some_lines 1
  rows_lines (Prime-Rows-4-Some' p lines) = node phrases.some_lines 0 ++ lines_outline lines

  pub prime_outline : Prime → List Entry
  prime_outline (Int t) = node phrases.prime 0 ++ hold t
  prime_outline (Text t) = node phrases.prime 1 ++ hold t
  prime_outline (True t) = node phrases.prime 2 ++ hold t
  prime_outline (False t) = node phrases.prime 3 ++ hold t
  prime_outline (Fail t) = node phrases.prime 4 ++ hold t
  prime_outline (Name t) = node phrases.prime 5 ++ hold t ++ node phrases.call 1
  prime_outline (Call' n b args) = node phrases.prime 5 ++ hold n ++ node phrases.call 0 ++ hold b ++ call_args args ++ skip phrases.close_paren
  prime_outline (Paren' b p e) = node phrases.prime 6 ++ hold b ++ expr_outline e ++ skip phrases.close_paren
  prime_outline (Row' b p bindings) = node phrases.prime 7 ++ hold b ++ bindings_outline bindings ++ skip phrases.close_square
  prime_outline (Delta' b atoms) = node phrases.prime 8 ++ hold b ++ delta_atoms atoms ++ skip phrases.close_brace
  prime_outline (Rows' w b n c lines) = node phrases.prime 9 ++ hold w ++ hold b ++ hold n ++ skip phrases.close_paren ++ hold c ++ rows_lines lines ++ skip phrases.close_brace
  prime_outline (Walk' w b n p over q body) =
      node phrases.prime 10 ++ hold w ++ hold b ++ hold n ++ skip phrases.in_word ++ expr_outline over ++ skip phrases.colon ++ expr_outline body ++ skip phrases.close_paren
  prime_outline (Project' w b p over names) =
      node phrases.prime 11 ++ hold w ++ hold b ++ expr_outline over ++ skip phrases.semicolon ++ names_outline names ++ skip phrases.close_paren
  prime_outline (Rename' w b p over renamings) =
      node phrases.prime 12 ++ hold w ++ hold b ++ expr_outline over ++ skip phrases.semicolon ++ renamings_outline renamings ++ skip phrases.close_paren
  prime_outline (Pair' w b p left q right) =
      node phrases.prime 13 ++ hold w ++ hold b ++ expr_outline left ++ skip phrases.comma ++ expr_outline right ++ skip phrases.close_paren
  prime_outline (Group' w b p over names aggs) =
      node phrases.prime 14 ++ hold w ++ hold b ++ expr_outline over ++ skip phrases.semicolon ++ skip phrases.by_word ++ names_outline names ++ skip phrases.semicolon
      ++ aggs_outline aggs ++ skip phrases.close_paren
  prime_outline (Measure' w b p over) = node phrases.prime 15 ++ hold w ++ hold b ++ expr_outline over ++ skip phrases.close_paren
  prime_outline (Fold' w b p over n) = node phrases.prime 16 ++ hold w ++ hold b ++ expr_outline over ++ skip phrases.comma ++ hold n ++ skip phrases.close_paren
  prime_outline (Bulk' w b sign n p over) =
      node phrases.prime 17 ++ hold w ++ hold b ++ hold sign ++ hold n ++ skip phrases.comma ++ expr_outline over ++ skip phrases.close_paren
  prime_outline (Part' w b n p over) = node phrases.prime 18 ++ hold w ++ hold b ++ hold n ++ skip phrases.comma ++ expr_outline over ++ skip phrases.close_paren

abbrev pub post_outline : Post → List Entry
post_outline p = node phrases.post 0 ++ prime_outline p.operand.value ++ field_outline p.field

abbrev pub prefix_outline : Prefix → List Entry
prefix_outline p = prefix_start p.op ++ post_outline p.operand

abbrev pub tail_outline : Tail → List Entry
tail_outline t = hold t.op ++ operand_outline t.operand

-- one more operator of a chain, and its operand
abbrev pub tail_row : Level → Tail → List Entry
tail_row level t = node (more_of level) 0 ++ tail_outline t

-- what stands behind the first operand of a comparison
abbrev pub comparison_rest : List Tail → List Entry
comparison_rest [] = node phrases.more_cmp 1
comparison_rest (t ∷ ts) = node phrases.more_cmp 0 ++ tail_outline t

abbrev pub some_args_outline : Option ArgTrees → List Entry
some_args_outline None = node phrases.some_args 1
some_args_outline (Some args) = node phrases.some_args 0 ++ args_outline args

abbrev pub some_atoms_outline : Option Atoms → List Entry
some_atoms_outline None = node phrases.some_atoms 1
some_atoms_outline (Some atoms) = node phrases.some_atoms 0 ++ atoms_outline atoms

abbrev pub some_lines_outline : Option LineTrees → List Entry
some_lines_outline None = node phrases.some_lines 1
some_lines_outline (Some lines) = node phrases.some_lines 0 ++ lines_outline lines

-- one more item of a list
abbrev pub args_row : Expr → List Entry
args_row e = node phrases.more_args 0 ++ skip phrases.comma ++ expr_outline e

-- one more item of a list
abbrev pub bindings_row : Binding → List Entry
bindings_row e = node phrases.more_bindings 0 ++ skip phrases.comma ++ binding_outline e

-- one more item of a list
abbrev pub atoms_row : Atom → List Entry
atoms_row e = node phrases.more_atoms 0 ++ skip phrases.comma ++ atom_outline e

-- one more item of a list
abbrev pub lines_row : LineTree → List Entry
lines_row e = node phrases.more_lines 0 ++ skip phrases.comma ++ line_outline e
