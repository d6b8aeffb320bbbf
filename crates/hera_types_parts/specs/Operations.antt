-- The typing of an operation over operands with these cores.
use Rattle.std.specs.Prelude.{ℕ}
use Rattle.hera_meaning.specs.Trees.{Expr, prim}
use Rattle.hera_rules.specs.Rules.{Typing, typing, one_expr, two_exprs}
use Rattle.hera_types_parts.specs.declared.operations.Operation.{Operation}

abbrev pub over_one : Expr → ℕ → Operation → Typing
over_one e at o = typing o.shape (prim o.op (one_expr e) at)

abbrev pub over_two : Expr → Expr → ℕ → Operation → Typing
over_two e f at o = typing o.shape (prim o.op (two_exprs e f) at)
