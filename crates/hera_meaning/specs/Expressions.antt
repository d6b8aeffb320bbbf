-- What an expression gives.
use Rattle.std.specs.Prelude.{ℕ, true, false, cond, List, [], ◌∷◌, map}
use Rattle.hera_sets.specs.Rows.{Row, normal}
use Rattle.hera_meaning.specs.declared.trees.Const.{Const}
use Rattle.hera_meaning.specs.declared.trees.Const.TheVariants.{Scalar, EmptyDelta, FailDelta}
use Rattle.hera_meaning.specs.Deltas.{fail, atoms, State, rows_at}
use Rattle.hera_meaning.specs.Values.{Value, scalar, tuple, table, delta, bool_value, is_true, scalar_in, row_in, rows_in, delta_in, operand}
use Rattle.hera_meaning.specs.Hosts.{Hosts, host_value}
use Rattle.hera_meaning.specs.Primitives.{prim_of}
use Rattle.hera_meaning.specs.Trees.{Expr, constant, local, relation, prim, chain, and_all, or_any, when, select, map_each, call, host, Exprs, no_more, then_expr, Links, no_link, link, Hypos, no_hypo, hypo}
use Rattle.hera_meaning.specs.Worlds.{world_at, set_local, Ended, got, and_then, turn, answered, by, supposed, result_of, Calls}

abbrev pub const_value : Const → Value
const_value (Scalar s) = scalar s
const_value EmptyDelta = delta (atoms [])
const_value FailDelta = delta fail

-- the body's value for each row in order, a turn spent after each
abbrev pub for_rows : (Row → ℕ → Ended Value) → List Row → ℕ → Ended (List Value)
for_rows body [] n = got [] n
for_rows body (x ∷ xs) n = and_then (body x n) (λ v m. turn m (λ m. and_then (for_rows body xs m) (λ vs m. got (v ∷ vs) m)))

-- the rows whose value is true
abbrev pub chosen : List Row → List Value → List Row
chosen (x ∷ xs) (v ∷ vs) = cond (is_true v) (x ∷ chosen xs vs) (chosen xs vs)
chosen _ _ = []

module _ (hosts : Hosts) (calls : Calls) where
  abbrev mutual
    -- from the locals, the state and the turns left
    pub eval : Expr → List Value → State → ℕ → Ended Value
    eval (constant c) ls s n = got (const_value c) n
    eval (local i) ls s n = got (operand ls i) n
    eval (relation r) ls s n = got (table (rows_at s r)) n
    eval (prim op args at) ls s n = and_then (eval_all args ls s n) (λ vs m. answered at (prim_of op vs) m)
    eval (chain first links) ls s n = and_then (eval first ls s n) (λ v m. eval_links links v ls s m)
    eval (and_all args) ls s n = every args ls s n
    eval (or_any args) ls s n = some args ls s n
    eval (when body hypos) ls s n = and_then (suppose hypos ls s n) (λ s m. eval body ls s m)
    eval (select i of body) ls s n =
        and_then (eval of ls s n) (λ v m. and_then (for_rows (λ x m. eval body (set_local ls i (tuple x)) s m) (rows_in v) m) (λ vs m. got (table (chosen (rows_in v) vs)) m))
    eval (map_each i of body) ls s n =
        and_then (eval of ls s n) (λ v m. and_then (for_rows (λ x m. eval body (set_local ls i (tuple x)) s m) (rows_in v) m) (λ vs m. got (table (normal (map row_in vs))) m))
    eval (call k args) ls s n = and_then (eval_all args ls s n) (λ vs m. result_of (calls k vs (world_at s) m))
    eval (host h args) ls s n = and_then (eval_all args ls s n) (λ vs m. got (host_value hosts h (scalar_in (operand vs 0))) m)

    -- operands from the left
    pub eval_all : Exprs → List Value → State → ℕ → Ended (List Value)
    eval_all no_more ls s n = got [] n
    eval_all (then_expr e es) ls s n = and_then (eval e ls s n) (λ v m. and_then (eval_all es ls s m) (λ vs m. got (v ∷ vs) m))

    -- operands from the left up to the first false one, else the last one's value
    pub every : Exprs → List Value → State → ℕ → Ended Value
    every no_more ls s n = got (bool_value true) n
    every (then_expr e no_more) ls s n = eval e ls s n
    every (then_expr e (then_expr f fs)) ls s n = and_then (eval e ls s n) (λ v. by (is_true v) (λ m. every (then_expr f fs) ls s m) (λ m. got v m))

    -- operands from the left up to the first true one, else the last one's value
    pub some : Exprs → List Value → State → ℕ → Ended Value
    some no_more ls s n = got (bool_value false) n
    some (then_expr e no_more) ls s n = eval e ls s n
    some (then_expr e (then_expr f fs)) ls s n = and_then (eval e ls s n) (λ v. by (is_true v) (λ m. got v m) (λ m. some (then_expr f fs) ls s m))

    -- the links of a chain, from the value so far
    pub eval_links : Links → Value → List Value → State → ℕ → Ended Value
    eval_links no_link v ls s n = got v n
    eval_links (link op arg at rest) v ls s n =
        and_then (eval arg ls s n) (λ a m. and_then (answered at (prim_of op (v ∷ a ∷ [])) m) (λ v m. eval_links rest v ls s m))

    -- the state after the deltas, the last of them first, each evaluated in the state so far
    pub suppose : Hypos → List Value → State → ℕ → Ended State
    suppose no_hypo ls s n = got s n
    suppose (hypo d at rest) ls s n = and_then (suppose rest ls s n) (λ s m. and_then (eval d ls s m) (λ v m. supposed at s (delta_in v) m))
