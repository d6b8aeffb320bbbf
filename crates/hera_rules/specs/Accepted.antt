-- Which scripts are accepted, and with which program.
use Rattle.std.specs.Prelude.{◌≡◌, ℕ, List, None}
use Rattle.hera_meaning.specs.Trees.{Program_tree}
use Rattle.hera_host.specs.Tables.{Host}
use Rattle.hera_syntax.specs.declared.token.Token.{Token}
use Rattle.hera_syntax.specs.declared.tree.Tree.{Tree}
use Rattle.hera_syntax.specs.Lex.{Lex}
use Rattle.hera_syntax.specs.Tokens.{deep_at}
use Rattle.hera_syntax.specs.Trees.{IsTextOf}
use Rattle.hera_rules.specs.ReadActs.{script_of}
use Rattle.hera_rules.specs.Programs.{ElabScript}

-- the bytes are a script that is accepted, and this is its program: they are cut into tokens, at most 64
-- brackets are open at once, the tokens are the text of a tree, and the tree is typed
pub record Accepted (bytes : List ℕ) (hosts : List Host) (p : Program_tree) : Type 0 where
  pub tokens : List Token
  pub tree : Tree
  pub lexed : Lex bytes tokens
  pub shallow : deep_at 0 tokens ≡ None
  pub text : IsTextOf tree tokens
  pub typed : ElabScript hosts (script_of tree) p
