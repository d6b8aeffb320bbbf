use Rattle.std.proofs.Common.{ap, Err, refl}
use Rattle.std.proofs.lemmas.Result.{err_from_is_err_and}
use Rattle.hera_script.proofs.Refused.{lexing_refused, syntax_refused, typing_refused, same_fault}
use Rattle.hera_script.proofs.program.read_script.Goals as goal

pub returns-in_err-tokens-clause-refused : goal.returns-in_err-tokens-clause-refused
returns-in_err-tokens-clause-refused g c = λ cause at is.
    lexing_refused c.args.hosts.now.names c.args.script.now _ cause at c.requires c.in_err-tokens.ensures
    (same_fault c.from_residual.result _ _ (err_from_is_err_and c.from_residual.result c.from_residual.ensures.1) is)

pub returns-in_err-tree-clause-refused : goal.returns-in_err-tree-clause-refused
returns-in_err-tree-clause-refused g c = λ cause at is.
    syntax_refused c.args.hosts.now.names c.args.script.now c.in_ok-tokens.tokens.0 c.in_ok-tokens.tokens.1 cause at
    (record { short = c.requires; lexed = c.in_ok-tokens.ensures.0; shallow = c.in_ok-tokens.ensures.2 }) c.in_ok-tokens.ensures.1
    (c.in_err-tree.ensures.fault cause at
    (ap Err (same_fault c.from_residual-in_err-tree.result _ _ (err_from_is_err_and c.from_residual-in_err-tree.result c.from_residual-in_err-tree.ensures.1) is)))

pub returns-in_err-program-clause-refused : goal.returns-in_err-program-clause-refused
returns-in_err-program-clause-refused g c = λ cause at is.
    typing_refused c.args.hosts.now.names c.args.script.now c.in_ok-tokens.tokens.0 c.in_ok-tree.tree _ cause at
    (record { short = c.requires; lexed = c.in_ok-tokens.ensures.0; shallow = c.in_ok-tokens.ensures.2 }) c.in_ok-tree.ensures.tree
    (c.in_err-program.ensures.fault _ refl)
    (same_fault c.from_residual-in_err-program.result _ _ (err_from_is_err_and c.from_residual-in_err-program.result c.from_residual-in_err-program.ensures.1) is)

pub returns-clause-accepted : goal.returns-clause-accepted
returns-clause-accepted g c = record {
  tokens = c.in_ok-tokens.tokens.0;
  tree = c.in_ok-tree.tree;
  lexed = c.in_ok-tokens.ensures.0;
  shallow = c.in_ok-tokens.ensures.2;
  text = c.in_ok-tree.ensures.tree;
  typed = c.in_ok-program.ensures.typed;
}
