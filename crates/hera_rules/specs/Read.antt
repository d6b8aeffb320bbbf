-- The phrase of a syntax tree.
use Rattle.std.specs.Prelude.{ℕ, List, [], ◌∷◌, map, Option, Some, None, ℤ, pos, true, false, Box}
use Rattle.std.specs.declared.alloc.Global.{Global}
use Rattle.hera_meaning.specs.declared.scalars.Kind.{Kind}
use Rattle.hera_meaning.specs.declared.scalars.Kind.TheVariants.{Int as int_kind, Bool as bool_kind, Text as text_kind}
use Rattle.hera_meaning.specs.declared.scalars.Sign.{Sign}
use Rattle.hera_meaning.specs.declared.scalars.Sign.TheVariants.{Plus, Minus}
use Rattle.hera_meaning.specs.declared.scalars.Scalar.TheVariants.{Int as int_scalar, Bool as bool_scalar, Text as text_scalar}
use Rattle.hera_meaning.specs.declared.trees.Op.TheVariants.{Add as add_op, Sub as sub_op, Mul as mul_op, Div as div_op, Rem as rem_op, Eq as eq_op, Ne as ne_op, Lt as lt_op, Le as le_op, Gt as gt_op, Ge as ge_op, Union as union_op, Minus as minus_op, Inter as inter_op, Smash as smash_op, Merge as merge_op}
use Rattle.hera_meaning.specs.declared.trees.Const.TheVariants.{Scalar as scalar, FailDelta as fail_delta}
use Rattle.hera_syntax.specs.declared.words.Keyword.TheVariants as keys
use Rattle.hera_syntax.specs.declared.words.Mark.TheVariants as puncts
use Rattle.hera_syntax.specs.declared.token.Token.{Token}
use Rattle.hera_syntax.specs.declared.token.TokenKind.{TokenKind}
use Rattle.hera_syntax.specs.declared.token.TokenKind.TheVariants.{Ident as ident_token, Int as int_token, Text as text_token, Key as key_token, Punct as punct_token}
use Rattle.hera_syntax.specs.declared.expr.Names.{Names}
use Rattle.hera_syntax.specs.declared.expr.Renaming.{Renaming}
use Rattle.hera_syntax.specs.declared.expr.Renamings.{Renamings}
use Rattle.hera_syntax.specs.declared.expr.AggTree.{AggTree}
use Rattle.hera_syntax.specs.declared.expr.AggTree.TheVariants.{Count, Of}
use Rattle.hera_syntax.specs.declared.expr.NamedAgg.{NamedAgg}
use Rattle.hera_syntax.specs.declared.expr.NamedAggs.{NamedAggs}
use Rattle.hera_syntax.specs.declared.expr.ArgTrees.{ArgTrees, ArgTrees', Row_of-Expr, end_of-Expr, more_of-Expr}
use Rattle.hera_syntax.specs.declared.expr.Level.{Level}
use Rattle.hera_syntax.specs.declared.expr.Level.TheVariants as levels
use Rattle.hera_syntax.specs.declared.expr.Expr.{Expr, Expr', Row_of-Tail, end_of-Tail, more_of-Tail}
use Rattle.hera_syntax.specs.declared.expr.OperandTree.{OperandTree, Inner', Prefix'}
use Rattle.hera_syntax.specs.declared.expr.Tail.{Tail}
use Rattle.hera_syntax.specs.declared.expr.Bindings.{Bindings, Bindings', Row_of-Binding, end_of-Binding, more_of-Binding}
use Rattle.hera_syntax.specs.declared.expr.Atoms.{Atoms, Atoms', Row_of-Atom, end_of-Atom, more_of-Atom}
use Rattle.hera_syntax.specs.declared.expr.LineTrees.{LineTrees, LineTrees', Row_of-LineTree, end_of-LineTree, more_of-LineTree}
use Rattle.hera_syntax.specs.declared.expr.Binding.{Binding, Binding'}
use Rattle.hera_syntax.specs.declared.expr.Atom.{Atom, Atom'}
use Rattle.hera_syntax.specs.declared.expr.LineTree.{LineTree, LineTree'}
use Rattle.hera_syntax.specs.declared.expr.Prefix.{Prefix}
use Rattle.hera_syntax.specs.declared.expr.Post.{Post}
use Rattle.hera_syntax.specs.declared.expr.Prime.{Prime, Int, Text, True, False, Fail, Name, Call', Paren', Row', Delta', Rows', Walk', Project', Rename', Pair', Group', Measure', Fold', Bulk', Part', Held-Prime-Call-2, Prime-Call-2-None', Prime-Call-2-Some', Held-Prime-Delta-1, Prime-Delta-1-None', Prime-Delta-1-Some', Held-Prime-Rows-4, Prime-Rows-4-None', Prime-Rows-4-Some'}
use Rattle.hera_rules.specs.declared.words.Word.{Word}
use Rattle.hera_rules.specs.declared.words.WalkKind.{WalkKind}
use Rattle.hera_rules.specs.declared.words.WalkKind.TheVariants.{Keeping, Mapping}
use Rattle.hera_rules.specs.declared.words.Pair.{Pair as Pair_kind}
use Rattle.hera_rules.specs.declared.words.Pair.TheVariants.{Sets, Join as as_join}
use Rattle.hera_rules.specs.declared.words.Fold.{Fold}
use Rattle.hera_rules.specs.declared.words.Fold.TheVariants.{Sum as sum_of, Least, Greatest}
use Rattle.hera_rules.specs.declared.words.Renamed.{Renamed}
use Rattle.hera_rules.specs.declared.words.Measured.{Measured}
use Rattle.hera_rules.specs.declared.words.Measured.TheVariants.{Count as counted, Of as folded}
use Rattle.hera_rules.specs.declared.words.Aggregate.{Aggregate}
use Rattle.hera_rules.specs.declared.words.Joint.{Joint}
use Rattle.hera_rules.specs.declared.words.Joint.TheVariants.{When as by_when, And as by_and, Or as by_or, Arithmetic, Equality, Order, Member, Deltas}
use Rattle.hera_rules.specs.declared.words.Prefix.{Prefix as Prefix_kind}
use Rattle.hera_rules.specs.declared.words.Prefix.TheVariants.{Minus as negated, Not as denied}
use Rattle.hera_rules.specs.declared.words.Test.{Test}
use Rattle.hera_rules.specs.declared.words.Test.TheVariants.{Count as count_test, Empty as empty_test, IsFail as is_fail_test}
use Rattle.hera_rules.specs.Phrases.{Phrase, literal, named, calling, operation, prefixed, attribute, row, atom, atoms, line, lines, walking, projecting, renaming, pairing, grouping, testing, folding, bulk, part, Phrases, no_phrase, phrase, Uses, no_use, uses}

-- ---- what a token says

-- the name of an identifier; no name of any other token
abbrev pub name_of : TokenKind → List ℕ
name_of (ident_token n) = n
name_of _ = []

abbrev pub word_of : Token → Word
word_of t = record { name = name_of t.kind; at = t.at }

abbrev pub int_of : TokenKind → ℤ
int_of (int_token z) = z
int_of _ = pos 0

abbrev pub text_of : TokenKind → List ℕ
text_of (text_token t) = t
text_of _ = []

-- the operator of a link; `in` is a keyword
abbrev pub joint_of : TokenKind → Joint
joint_of (punct_token puncts.EqualEqual) = Equality eq_op
joint_of (punct_token puncts.NotEqual) = Equality ne_op
joint_of (punct_token puncts.Less) = Order lt_op
joint_of (punct_token puncts.LessEqual) = Order le_op
joint_of (punct_token puncts.Greater) = Order gt_op
joint_of (punct_token puncts.GreaterEqual) = Order ge_op
joint_of (punct_token puncts.Plus) = Arithmetic add_op
joint_of (punct_token puncts.Minus) = Arithmetic sub_op
joint_of (punct_token puncts.Star) = Arithmetic mul_op
joint_of (punct_token puncts.Slash) = Arithmetic div_op
joint_of (punct_token puncts.Percent) = Arithmetic rem_op
joint_of (punct_token puncts.Bang) = Deltas smash_op
joint_of (punct_token _) = Deltas merge_op
joint_of _ = Member

-- the operator of a link of a chain of this level
abbrev pub joint_at : Level → TokenKind → Joint
joint_at levels.Whens t = by_when
joint_at levels.Ors t = by_or
joint_at levels.Ands t = by_and
joint_at _ t = joint_of t

-- `-`, `!`
abbrev pub prefix_of : TokenKind → Prefix_kind
prefix_of (punct_token puncts.Minus) = negated
prefix_of _ = denied

-- `+`, `-`
abbrev pub sign_of : TokenKind → Sign
sign_of (punct_token puncts.Plus) = Plus
sign_of _ = Minus

-- `ins`, `del`
abbrev pub part_of : TokenKind → Sign
part_of (key_token keys.Ins) = Plus
part_of _ = Minus

-- `select`, `map`
abbrev pub walk_of : TokenKind → WalkKind
walk_of (key_token keys.Select) = Keeping
walk_of _ = Mapping

-- `union`, `minus`, `inter`, `join`
abbrev pub pair_of : TokenKind → Pair_kind
pair_of (key_token keys.Union) = Sets union_op
pair_of (key_token keys.Minus) = Sets minus_op
pair_of (key_token keys.Inter) = Sets inter_op
pair_of _ = as_join

-- `count`, `empty`, `isfail`
abbrev pub test_of : TokenKind → Test
test_of (key_token keys.Count) = count_test
test_of (key_token keys.Empty) = empty_test
test_of _ = is_fail_test

-- `sum`, `min`, `max`
abbrev pub fold_of : TokenKind → Fold
fold_of (key_token keys.Sum) = sum_of
fold_of (key_token keys.Min) = Least
fold_of _ = Greatest

-- `int`, `bool`, `text`
abbrev pub kind_word : TokenKind → Kind
kind_word (key_token keys.Int) = int_kind
kind_word (key_token keys.Bool) = bool_kind
kind_word _ = text_kind

-- ---- lists of names

abbrev pub words_of : Names → List Word
words_of ns = word_of ns.first ∷ map word_of ns.rest.items

abbrev pub renamed_of : Renaming → Renamed
renamed_of r = record { new = word_of r.new; old = word_of r.old }

abbrev pub renamed_all : Renamings → List Renamed
renamed_all rs = renamed_of rs.first ∷ map renamed_of rs.rest.items

abbrev pub measured_of : AggTree → Measured
measured_of (Count t) = counted
measured_of (Of word bracket name) = folded (fold_of word.kind) (word_of name)

abbrev pub aggregate_of : NamedAgg → Aggregate
aggregate_of a = record { name = word_of a.name; of = measured_of a.agg }

abbrev pub aggregates_of : NamedAggs → List Aggregate
aggregates_of aa = aggregate_of aa.first ∷ map aggregate_of aa.rest.items

-- ---- expressions

-- a level without operators is its operand
abbrev pub chain_phrase : Phrase → Uses → Phrase
chain_phrase p no_use = p
chain_phrase p (uses op at q rest) = operation p (uses op at q rest)

abbrev pub prefix_phrase : Option Token → Phrase → Phrase
prefix_phrase None p = p
prefix_phrase (Some t) p = prefixed (prefix_of t.kind) t.at p

abbrev pub post_phrase : Phrase → Option Token → Phrase
post_phrase p None = p
post_phrase p (Some t) = attribute p (word_of t)

unfoldable mutual
  pub expr_phrase : Expr → Phrase
  expr_phrase (Expr' level first shape rest) = chain_phrase (operand_phrase first) (expr_uses level rest)

  pub expr_uses : {m : _} → Level → Row_of-Tail m → Uses
  expr_uses level end_of-Tail = no_use
  expr_uses level (more_of-Tail op operand rest) = uses (joint_at level op.kind) op.at (operand_phrase operand) (expr_uses level rest)

  pub operand_phrase : OperandTree → Phrase
  operand_phrase (Inner' p e) = expr_phrase e
  operand_phrase (Prefix' op p operand field) = prefix_phrase op (post_phrase (prime_phrase operand) field)

  pub args_phrases : ArgTrees → Phrases
  args_phrases (ArgTrees' first shape rest) = phrase (expr_phrase first) (args_rest rest)

  pub args_rest : {m : _} → Row_of-Expr m → Phrases
  args_rest end_of-Expr = no_phrase
  args_rest (more_of-Expr e rest) = phrase (expr_phrase e) (args_rest rest)

  -- the values of `[a = e]`, and the names
  pub bindings_phrases : Bindings → Phrases
  bindings_phrases (Bindings' first shape rest) = phrase (binding_phrase first) (bindings_rest rest)

  pub bindings_rest : {m : _} → Row_of-Binding m → Phrases
  bindings_rest end_of-Binding = no_phrase
  bindings_rest (more_of-Binding b rest) = phrase (binding_phrase b) (bindings_rest rest)

  pub binding_phrase : Binding → Phrase
  binding_phrase (Binding' name value) = expr_phrase value

  pub bindings_words : Bindings → List Word
  bindings_words (Bindings' first shape rest) = binding_word first ∷ binding_words rest

  pub binding_words : {m : _} → Row_of-Binding m → List Word
  binding_words end_of-Binding = []
  binding_words (more_of-Binding b rest) = binding_word b ∷ binding_words rest

  pub binding_word : Binding → Word
  binding_word (Binding' name value) = word_of name

  pub atoms_phrases : Atoms → Phrases
  atoms_phrases (Atoms' first shape rest) = phrase (atom_phrase first) (atoms_rest rest)

  pub atoms_rest : {m : _} → Row_of-Atom m → Phrases
  atoms_rest end_of-Atom = no_phrase
  atoms_rest (more_of-Atom a rest) = phrase (atom_phrase a) (atoms_rest rest)

  pub atom_phrase : Atom → Phrase
  atom_phrase (Atom' sign name bracket args) = atom (sign_of sign.kind) (word_of name) (args_phrases args)

  pub lines_phrases : Word → LineTrees → Phrases
  lines_phrases w (LineTrees' first shape rest) = phrase (line_phrase w first) (lines_rest w rest)

  pub lines_rest : {m : _} → Word → Row_of-LineTree m → Phrases
  lines_rest w end_of-LineTree = no_phrase
  lines_rest w (more_of-LineTree l rest) = phrase (line_phrase w l) (lines_rest w rest)

  pub line_phrase : Word → LineTree → Phrase
  line_phrase w (LineTree' bracket args) = line w bracket.at (args_phrases args)

  pub call_args : Held-Prime-Call-2 → Phrases
  call_args Prime-Call-2-None' = no_phrase
  call_args (Prime-Call-2-Some' p args) = args_phrases args

  pub delta_atoms : Held-Prime-Delta-1 → Phrases
  delta_atoms Prime-Delta-1-None' = no_phrase
  delta_atoms (Prime-Delta-1-Some' p all) = atoms_phrases all

  pub rows_lines : Word → Held-Prime-Rows-4 → Phrases
  rows_lines w Prime-Rows-4-None' = no_phrase
  rows_lines w (Prime-Rows-4-Some' p all) = lines_phrases w all

  pub prime_phrase : Prime → Phrase
  prime_phrase (Int t) = literal (scalar (int_scalar (int_of t.kind)))
  prime_phrase (Text t) = literal (scalar (text_scalar (text_of t.kind)))
  prime_phrase (True t) = literal (scalar (bool_scalar true))
  prime_phrase (False t) = literal (scalar (bool_scalar false))
  prime_phrase (Fail t) = literal fail_delta
  prime_phrase (Name t) = named (word_of t)
  prime_phrase (Call' name bracket args) = calling (word_of name) (call_args args)
  prime_phrase (Paren' bracket p e) = expr_phrase e
  prime_phrase (Row' bracket p bindings) = row bracket.at (bindings_words bindings) (bindings_phrases bindings)
  prime_phrase (Delta' bracket all) = atoms bracket.at (delta_atoms all)
  prime_phrase (Rows' word bracket name brace all) = lines (word_of name) word.at (rows_lines (word_of name) all)
  prime_phrase (Walk' word bracket var p of q body) = walking (walk_of word.kind) word.at (word_of var) (expr_phrase of) (expr_phrase body)
  prime_phrase (Project' word bracket p of names) = projecting word.at (expr_phrase of) (words_of names)
  prime_phrase (Rename' word bracket p of names) = renaming word.at (expr_phrase of) (renamed_all names)
  prime_phrase (Pair' word bracket p left q right) = pairing (pair_of word.kind) word.at (expr_phrase left) (expr_phrase right)
  prime_phrase (Group' word bracket p of names aggs) = grouping word.at (expr_phrase of) (words_of names) (aggregates_of aggs)
  prime_phrase (Measure' word bracket p of) = testing (test_of word.kind) word.at (expr_phrase of)
  prime_phrase (Fold' word bracket p of name) = folding (fold_of word.kind) word.at (expr_phrase of) (word_of name)
  prime_phrase (Bulk' word bracket sign name p of) = bulk (sign_of sign.kind) (word_of name) word.at (expr_phrase of)
  prime_phrase (Part' word bracket name p of) = part (part_of word.kind) (word_of name) word.at (expr_phrase of)

-- an operand with its attribute, and with its prefix
abbrev pub post_of : Post → Phrase
post_of p = post_phrase (prime_phrase p.operand.value) p.field

abbrev pub prefix_of_tree : Prefix → Phrase
prefix_of_tree p = prefix_phrase p.op (post_of p.operand)

-- ---- the rest of a chain or a list in a Vec

abbrev pub expr_use : Level → Tail → Uses → Uses
expr_use level t rest = uses (joint_at level t.op.kind) t.op.at (operand_phrase t.operand) rest

abbrev pub expr_uses_in : Level → List Tail → Uses
expr_uses_in level [] = no_use
expr_uses_in level (t ∷ ts) = expr_use level t (expr_uses_in level ts)

abbrev pub phrases_in : List Expr → Phrases
phrases_in [] = no_phrase
phrases_in (e ∷ es) = phrase (expr_phrase e) (phrases_in es)

abbrev pub bindings_in : List Binding → Phrases
bindings_in [] = no_phrase
bindings_in (b ∷ bs) = phrase (binding_phrase b) (bindings_in bs)

abbrev pub atoms_in : List Atom → Phrases
atoms_in [] = no_phrase
atoms_in (a ∷ rest) = phrase (atom_phrase a) (atoms_in rest)

abbrev pub lines_in : Word → List LineTree → Phrases
lines_in w [] = no_phrase
lines_in w (l ∷ ls) = phrase (line_phrase w l) (lines_in w ls)

abbrev pub args_in : Option (Box ArgTrees Global) → Phrases
args_in None = no_phrase
args_in (Some b) = args_phrases b.value

abbrev pub some_atoms : Option (Box Atoms Global) → Phrases
some_atoms None = no_phrase
some_atoms (Some b) = atoms_phrases b.value

abbrev pub some_lines : Word → Option (Box LineTrees Global) → Phrases
some_lines w None = no_phrase
some_lines w (Some b) = lines_phrases w b.value
