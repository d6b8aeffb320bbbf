-- The phrase of a tree that is read field by field.
use Rattle.std.proofs.Common.{◌≡◌, ◌∷◌, refl, ap, rules}
use Rattle.std.specs.Prelude.{Box, Option, Some, None, map}
use Rattle.std.specs.declared.alloc.Global.{Global}
use Rattle.hera_syntax.specs.declared.token.Token.{Token}
use Rattle.hera_syntax.specs.declared.expr.Names.{Names}
use Rattle.hera_syntax.specs.declared.expr.Renamings.{Renamings}
use Rattle.hera_syntax.specs.declared.expr.NamedAggs.{NamedAggs}
use Rattle.hera_syntax.specs.declared.expr.ArgTrees.{ArgTrees, ArgTrees', out-ArgTrees, Row_of-Expr, end_of-Expr, more_of-Expr, items-the_row-Expr}
use Rattle.hera_syntax.specs.declared.expr.Bindings.{Bindings, Bindings', out-Bindings, Row_of-Binding, end_of-Binding, more_of-Binding, items-the_row-Binding}
use Rattle.hera_syntax.specs.declared.expr.Binding.{Binding, Binding', out-Binding}
use Rattle.hera_syntax.specs.declared.expr.Atoms.{Atoms, Atoms', out-Atoms, Row_of-Atom, end_of-Atom, more_of-Atom, items-the_row-Atom}
use Rattle.hera_syntax.specs.declared.expr.Atom.{Atom, Atom', out-Atom}
use Rattle.hera_syntax.specs.declared.expr.LineTrees.{LineTrees, LineTrees', out-LineTrees, Row_of-LineTree, end_of-LineTree, more_of-LineTree, items-the_row-LineTree}
use Rattle.hera_syntax.specs.declared.expr.LineTree.{LineTree, LineTree', out-LineTree}
use Rattle.hera_syntax.specs.declared.expr.Level.{Level}
use Rattle.hera_syntax.specs.declared.expr.Expr.{Expr, Expr', out-Expr, Row_of-Tail, end_of-Tail, more_of-Tail, items-the_row-Tail}
use Rattle.hera_syntax.specs.declared.expr.Prefix.{Prefix}
use Rattle.hera_syntax.specs.declared.expr.OperandTree.TheViews as view
use Rattle.hera_syntax.specs.declared.expr.Prime.TheVariants as variant
use Rattle.hera_syntax.specs.declared.expr.OperandTree.TheViews.{the_lemmas}
use Rattle.hera_meaning.specs.declared.scalars.Scalar.TheVariants.{Int as int_scalar, Bool as bool_scalar, Text as text_scalar}
use Rattle.hera_meaning.specs.declared.trees.Const.TheVariants.{Scalar as scalar, FailDelta as fail_delta}
use Rattle.std.specs.Prelude.{true, false}
use Rattle.hera_rules.specs.declared.words.Word.{Word}
use Rattle.hera_rules.specs.Phrases.{literal, named, calling, row, atom, atoms, line, lines, walking, projecting, renaming, pairing, grouping, testing, folding, bulk, part, phrase, uses}
use Rattle.hera_rules.specs.Read.{word_of, int_of, text_of, joint_at, sign_of, part_of, walk_of, pair_of, test_of, fold_of, words_of, renamed_all, aggregates_of, chain_phrase, prefix_of_tree, expr_phrase, expr_uses, expr_uses_in, operand_phrase, prime_phrase, args_phrases, args_rest, phrases_in, args_in, bindings_phrases, bindings_rest, binding_phrase, bindings_words, binding_words, binding_word, bindings_in, atoms_phrases, atoms_rest, atom_phrase, atoms_in, some_atoms, lines_phrases, lines_rest, line_phrase, lines_in, some_lines}

expr_rows : (level : Level) (n : _) (k : Row_of-Tail n) → expr_uses level k ≡ expr_uses_in level (items-the_row-Tail n k)
unfolding expr_phrase
expr_rows level n end_of-Tail = refl
expr_rows level n (more_of-Tail op operand rest) = ap (λ us. uses (joint_at level op.kind) op.at (operand_phrase operand) us) (expr_rows level _ rest)

arg_rows : (n : _) (k : Row_of-Expr n) → args_rest k ≡ phrases_in (items-the_row-Expr n k)
unfolding expr_phrase
arg_rows n end_of-Expr = refl
arg_rows n (more_of-Expr e rest) = ap (λ us. phrase (expr_phrase e) us) (arg_rows _ rest)

binding_rows : (n : _) (k : Row_of-Binding n) → bindings_rest k ≡ bindings_in (items-the_row-Binding n k)
unfolding expr_phrase
binding_rows n end_of-Binding = refl
binding_rows n (more_of-Binding b rest) = ap (λ us. phrase (binding_phrase b) us) (binding_rows _ rest)

word_rows : (n : _) (k : Row_of-Binding n) → binding_words k ≡ map binding_word (items-the_row-Binding n k)
unfolding expr_phrase
word_rows n end_of-Binding = refl
word_rows n (more_of-Binding b rest) = ap (λ us. binding_word b ∷ us) (word_rows _ rest)

atom_rows : (n : _) (k : Row_of-Atom n) → atoms_rest k ≡ atoms_in (items-the_row-Atom n k)
unfolding expr_phrase
atom_rows n end_of-Atom = refl
atom_rows n (more_of-Atom a rest) = ap (λ us. phrase (atom_phrase a) us) (atom_rows _ rest)

line_rows : (w : Word) (n : _) (k : Row_of-LineTree n) → lines_rest w k ≡ lines_in w (items-the_row-LineTree n k)
unfolding expr_phrase
line_rows w n end_of-LineTree = refl
line_rows w n (more_of-LineTree l rest) = ap (λ us. phrase (line_phrase w l) us) (line_rows w _ rest)

pub expr_phrase-read : (e : Expr) → expr_phrase e ≡ chain_phrase (operand_phrase (out-Expr e).first) (expr_uses_in (out-Expr e).level (out-Expr e).rest.items)
unfolding expr_phrase
expr_phrase-read (Expr' level first shape rest) = search (rules, the_lemmas, expr_rows)

pub operand_phrase-Inner : (e : Box Expr Global) → operand_phrase (view.Inner e) ≡ expr_phrase e.value
unfolding expr_phrase
operand_phrase-Inner e = refl

pub operand_phrase-Prefix : (p : Prefix) → operand_phrase (view.Prefix p) ≡ prefix_of_tree p
unfolding expr_phrase
operand_phrase-Prefix p = refl

pub args_phrases-read : (a : ArgTrees) → args_phrases a ≡ phrase (expr_phrase (out-ArgTrees a).first) (phrases_in (out-ArgTrees a).rest.items)
unfolding expr_phrase
args_phrases-read (ArgTrees' first shape rest) = search (rules, the_lemmas, arg_rows)

pub bindings_phrases-read : (a : Bindings) → bindings_phrases a ≡ phrase (binding_phrase (out-Bindings a).first) (bindings_in (out-Bindings a).rest.items)
unfolding expr_phrase
bindings_phrases-read (Bindings' first shape rest) = search (rules, the_lemmas, binding_rows)

pub bindings_words-read : (a : Bindings) → bindings_words a ≡ binding_word (out-Bindings a).first ∷ map binding_word (out-Bindings a).rest.items
unfolding expr_phrase
bindings_words-read (Bindings' first shape rest) = search (rules, the_lemmas, word_rows)

pub binding_phrase-read : (b : Binding) → binding_phrase b ≡ expr_phrase (out-Binding b).value
unfolding expr_phrase out-Binding denote.Hole.Carrier.out
binding_phrase-read (Binding' name value) = refl

pub binding_word-read : (b : Binding) → binding_word b ≡ word_of (out-Binding b).name
unfolding expr_phrase out-Binding denote.Hole.Carrier.out
binding_word-read (Binding' name value) = refl

pub atoms_phrases-read : (a : Atoms) → atoms_phrases a ≡ phrase (atom_phrase (out-Atoms a).first) (atoms_in (out-Atoms a).rest.items)
unfolding expr_phrase
atoms_phrases-read (Atoms' first shape rest) = search (rules, the_lemmas, atom_rows)

pub atom_phrase-read : (a : Atom) → atom_phrase a ≡ atom (sign_of (out-Atom a).sign.kind) (word_of (out-Atom a).name) (args_phrases (out-Atom a).args)
unfolding expr_phrase out-Atom denote.Hole.Carrier.out
atom_phrase-read (Atom' sign name bracket args) = refl

pub lines_phrases-read : (w : Word) (a : LineTrees) → lines_phrases w a ≡ phrase (line_phrase w (out-LineTrees a).first) (lines_in w (out-LineTrees a).rest.items)
unfolding expr_phrase
lines_phrases-read w (LineTrees' first shape rest) = search (rules, the_lemmas, line_rows)

pub line_phrase-read : (w : Word) (l : LineTree) → line_phrase w l ≡ line w (out-LineTree l).bracket.at (args_phrases (out-LineTree l).args)
unfolding expr_phrase out-LineTree denote.Hole.Carrier.out
line_phrase-read w (LineTree' bracket args) = refl

pub prime_phrase-Int : (t : Token) → prime_phrase (variant.Int t) ≡ literal (scalar (int_scalar (int_of t.kind)))
unfolding expr_phrase
prime_phrase-Int t = refl

pub prime_phrase-Text : (t : Token) → prime_phrase (variant.Text t) ≡ literal (scalar (text_scalar (text_of t.kind)))
unfolding expr_phrase
prime_phrase-Text t = refl

pub prime_phrase-True : (t : Token) → prime_phrase (variant.True t) ≡ literal (scalar (bool_scalar true))
unfolding expr_phrase
prime_phrase-True t = refl

pub prime_phrase-False : (t : Token) → prime_phrase (variant.False t) ≡ literal (scalar (bool_scalar false))
unfolding expr_phrase
prime_phrase-False t = refl

pub prime_phrase-Fail : (t : Token) → prime_phrase (variant.Fail t) ≡ literal fail_delta
unfolding expr_phrase
prime_phrase-Fail t = refl

pub prime_phrase-Name : (t : Token) → prime_phrase (variant.Name t) ≡ named (word_of t)
unfolding expr_phrase
prime_phrase-Name t = refl

pub prime_phrase-Paren : (b : Token) (e : Box Expr Global) → prime_phrase (view.Paren b e) ≡ expr_phrase e.value
unfolding expr_phrase
prime_phrase-Paren b e = refl

pub prime_phrase-Row : (b : Token) (e : Box Bindings Global) → prime_phrase (view.Row b e) ≡ row b.at (bindings_words e.value) (bindings_phrases e.value)
unfolding expr_phrase
prime_phrase-Row b e = refl

pub prime_phrase-Walk : (w b v : Token) (of body : Box Expr Global) → prime_phrase (view.Walk w b v of body) ≡ walking (walk_of w.kind) w.at (word_of v) (expr_phrase of.value) (expr_phrase body.value)
unfolding expr_phrase
prime_phrase-Walk w b v of body = refl

pub prime_phrase-Project : (w b : Token) (of : Box Expr Global) (ns : Names) → prime_phrase (view.Project w b of ns) ≡ projecting w.at (expr_phrase of.value) (words_of ns)
unfolding expr_phrase
prime_phrase-Project w b of ns = refl

pub prime_phrase-Rename : (w b : Token) (of : Box Expr Global) (ns : Renamings) → prime_phrase (view.Rename w b of ns) ≡ renaming w.at (expr_phrase of.value) (renamed_all ns)
unfolding expr_phrase
prime_phrase-Rename w b of ns = refl

pub prime_phrase-Pair : (w b : Token) (l r : Box Expr Global) → prime_phrase (view.Pair w b l r) ≡ pairing (pair_of w.kind) w.at (expr_phrase l.value) (expr_phrase r.value)
unfolding expr_phrase
prime_phrase-Pair w b l r = refl

pub prime_phrase-Group : (w b : Token) (of : Box Expr Global) (ns : Names) (aggs : NamedAggs) → prime_phrase (view.Group w b of ns aggs) ≡ grouping w.at (expr_phrase of.value) (words_of ns) (aggregates_of aggs)
unfolding expr_phrase
prime_phrase-Group w b of ns aggs = refl

pub prime_phrase-Measure : (w b : Token) (of : Box Expr Global) → prime_phrase (view.Measure w b of) ≡ testing (test_of w.kind) w.at (expr_phrase of.value)
unfolding expr_phrase
prime_phrase-Measure w b of = refl

pub prime_phrase-Fold : (w b : Token) (of : Box Expr Global) (n : Token) → prime_phrase (view.Fold w b of n) ≡ folding (fold_of w.kind) w.at (expr_phrase of.value) (word_of n)
unfolding expr_phrase
prime_phrase-Fold w b of n = refl

pub prime_phrase-Bulk : (w b s n : Token) (of : Box Expr Global) → prime_phrase (view.Bulk w b s n of) ≡ bulk (sign_of s.kind) (word_of n) w.at (expr_phrase of.value)
unfolding expr_phrase
prime_phrase-Bulk w b s n of = refl

pub prime_phrase-Part : (w b n : Token) (of : Box Expr Global) → prime_phrase (view.Part w b n of) ≡ part (part_of w.kind) (word_of n) w.at (expr_phrase of.value)
unfolding expr_phrase
prime_phrase-Part w b n of = refl

pub prime_phrase-Call : (n b : Token) (args : Option (Box ArgTrees Global)) → prime_phrase (view.Call n b args) ≡ calling (word_of n) (args_in args)
unfolding expr_phrase
prime_phrase-Call n b None = refl
prime_phrase-Call n b (Some args) = refl

pub prime_phrase-Delta : (b : Token) (args : Option (Box Atoms Global)) → prime_phrase (view.Delta b args) ≡ atoms b.at (some_atoms args)
unfolding expr_phrase
prime_phrase-Delta b None = refl
prime_phrase-Delta b (Some args) = refl

pub prime_phrase-Rows : (w b n c : Token) (args : Option (Box LineTrees Global)) → prime_phrase (view.Rows w b n c args) ≡ lines (word_of n) w.at (some_lines (word_of n) args)
unfolding expr_phrase
prime_phrase-Rows w b n c None = refl
prime_phrase-Rows w b n c (Some args) = refl

pub ruleset read = (
  expr_phrase-read,
  operand_phrase-Inner,
  operand_phrase-Prefix,
  args_phrases-read,
  bindings_phrases-read,
  bindings_words-read,
  binding_phrase-read,
  binding_word-read,
  atoms_phrases-read,
  atom_phrase-read,
  lines_phrases-read,
  line_phrase-read,
  prime_phrase-Int,
  prime_phrase-Text,
  prime_phrase-True,
  prime_phrase-False,
  prime_phrase-Fail,
  prime_phrase-Name,
  prime_phrase-Paren,
  prime_phrase-Row,
  prime_phrase-Walk,
  prime_phrase-Project,
  prime_phrase-Rename,
  prime_phrase-Pair,
  prime_phrase-Group,
  prime_phrase-Measure,
  prime_phrase-Fold,
  prime_phrase-Bulk,
  prime_phrase-Part,
  prime_phrase-Call,
  prime_phrase-Delta,
  prime_phrase-Rows,
)
