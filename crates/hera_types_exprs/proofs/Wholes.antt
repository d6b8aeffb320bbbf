use Rattle.std.proofs.Common.{◌≡◌, sym, ap, ◌∙◌}
use Rattle.hera_syntax.specs.declared.expr.Expr.{Expr, out-Expr}
use Rattle.hera_syntax.specs.declared.expr.ArgTrees.{ArgTrees, out-ArgTrees}
use Rattle.hera_syntax.specs.declared.expr.Bindings.{Bindings, out-Bindings}
use Rattle.hera_syntax.specs.declared.expr.Binding.{out-Binding}
use Rattle.hera_syntax.specs.declared.expr.Atoms.{Atoms, out-Atoms}
use Rattle.hera_syntax.specs.declared.expr.LineTrees.{LineTrees, out-LineTrees}
use Rattle.hera_rules.specs.declared.words.Word.{Word}
use Rattle.hera_rules.specs.Phrases.{phrase}
use Rattle.hera_rules.specs.Read.{chain_phrase, expr_phrase, operand_phrase, expr_uses_in, args_phrases, phrases_in, bindings_phrases, bindings_in, atoms_phrases, atoms_in, atom_phrase, lines_phrases, lines_in, line_phrase}
use Rattle.hera_rules.proofs.ReadLaws.{expr_phrase-read, args_phrases-read, bindings_phrases-read, binding_phrase-read, atoms_phrases-read, lines_phrases-read}

pub expr_whole : (e : Expr) (ts : _) → ts ≡ (out-Expr e).rest.items → expr_phrase e ≡ chain_phrase (operand_phrase (out-Expr e).first) (expr_uses_in (out-Expr e).level ts)
expr_whole e ts d = expr_phrase-read e ∙ ap (λ ts. chain_phrase (operand_phrase (out-Expr e).first) (expr_uses_in (out-Expr e).level ts)) (sym d)

pub args_whole : (a : ArgTrees) (xs : _) → xs ≡ (out-ArgTrees a).rest.items → args_phrases a ≡ phrase (expr_phrase (out-ArgTrees a).first) (phrases_in xs)
args_whole a xs d = args_phrases-read a ∙ ap (λ xs. phrase (expr_phrase (out-ArgTrees a).first) (phrases_in xs)) (sym d)

pub bindings_whole : (a : Bindings) (xs : _) → xs ≡ (out-Bindings a).rest.items → bindings_phrases a ≡ phrase (expr_phrase (out-Binding (out-Bindings a).first).value) (bindings_in xs)
bindings_whole a xs d = bindings_phrases-read a ∙ ap (λ p. phrase p (bindings_in (out-Bindings a).rest.items)) (binding_phrase-read (out-Bindings a).first) ∙ ap (λ xs. phrase (expr_phrase (out-Binding (out-Bindings a).first).value) (bindings_in xs)) (sym d)

pub atoms_whole : (a : Atoms) (xs : _) → xs ≡ (out-Atoms a).rest.items → atoms_phrases a ≡ phrase (atom_phrase (out-Atoms a).first) (atoms_in xs)
atoms_whole a xs d = atoms_phrases-read a ∙ ap (λ xs. phrase (atom_phrase (out-Atoms a).first) (atoms_in xs)) (sym d)

pub lines_whole : (w : Word) (a : LineTrees) (xs : _) → xs ≡ (out-LineTrees a).rest.items → lines_phrases w a ≡ phrase (line_phrase w (out-LineTrees a).first) (lines_in w xs)
lines_whole w a xs d = lines_phrases-read w a ∙ ap (λ xs. phrase (line_phrase w (out-LineTrees a).first) (lines_in w xs)) (sym d)
