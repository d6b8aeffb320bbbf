-- The turns left never grow.
use Rattle.std.proofs.Common.{ℕ, zero, suc, ◌≤◌, Bool, true, false, List, [], ◌∷◌, Some, None, arith}
use Rattle.hera_sets.specs.Rows.{Row}
use Rattle.hera_meaning.specs.declared.schemas.RelDecl.{RelDecl}
use Rattle.hera_meaning.specs.Deltas.{Delta, fail, atoms, State}
use Rattle.hera_meaning.specs.Values.{Value, tuple, rows_in, is_true, delta_in}
use Rattle.hera_meaning.specs.Hosts.{Hosts}
use Rattle.hera_meaning.specs.Primitives.{Answer, gives, refuses, prim_of}
use Rattle.hera_meaning.specs.Trees.{Expr, constant, local, relation, prim, chain, and_all, or_any, when, select, map_each, call, host, Exprs, no_more, then_expr, Links, no_link, link, Hypos, no_hypo, hypo, Command, set_slot, if_arms, while, foreach, print, apply, commit, rollback, assert, return, return_value, call_proc, Block, no_stmt, then_stmt, Arms, no_arm, arm, Program_tree}
use Rattle.hera_meaning.specs.Worlds.{World, world_at, set_local, locals_from, Ended, got, trapped, spent, and_then, turn, answered, by, supposed, Ending, goes_on, returned, traps, runs_out, then_do, with_value, turn_in, applied, result_of, resumed, Calls}
use Rattle.hera_meaning.specs.Expressions.{for_rows, eval, eval_all, every, some, eval_links, suppose}
use Rattle.hera_meaning.specs.Statements.{while_of, each_row, exec, exec_block, exec_arms}
use Rattle.hera_meaning.specs.Run.{body_at, calls_at}

-- at most this many turns are left
abbrev pub Within : {A : Type 0} → ℕ → Ended A → Type 0
Within n (got v m) = m ≤ n
Within n (trapped name at) = Unit {0}
Within n spent = Unit {0}

weaken : {A : Type 0} (m n : ℕ) (x : Ended A) → m ≤ n → Within m x → Within n x
weaken m n (got v k) le h = omega (arith, le, h)
weaken m n (trapped name at) le h = tt
weaken m n spent le h = tt

within_then : {A B : Type 0} (n : ℕ) (x : Ended A) (go : A → ℕ → Ended B) → Within n x → ((v : A) (m : ℕ) → m ≤ n → Within n (go v m)) → Within n (and_then x go)
within_then n (got v m) go h f = f v m h
within_then n (trapped name at) go h f = tt
within_then n spent go h f = tt

within_turn : {A : Type 0} (n m : ℕ) (go : ℕ → Ended A) → m ≤ n → ((k : ℕ) → k ≤ n → Within n (go k)) → Within n (turn m go)
within_turn n zero go le f = tt
within_turn n (suc m) go le f = f m (omega (arith, le))

within_by : {A : Type 0} (n : ℕ) (b : Bool) (go other : ℕ → Ended A) (m : ℕ) → Within n (go m) → Within n (other m) → Within n (by b go other m)
within_by n true go other m f g = f
within_by n false go other m f g = g

pub within_answered : (place : ℕ) (r : Answer) (m n : ℕ) → m ≤ n → Within n (answered place r m)
within_answered place (gives v) m n le = le
within_answered place (refuses name) m n le = tt

within_supposed : (n place : ℕ) (s : State) (d : Delta) (m : ℕ) → m ≤ n → Within n (supposed place s d m)
within_supposed n place s fail m le = tt
within_supposed n place s (atoms xs) m le = le

pub within_rows : (n : ℕ) (body : Row → ℕ → Ended Value) → ((x : Row) (m : ℕ) → Within m (body x m)) → (rows : List Row) (m : ℕ) → m ≤ n → Within n (for_rows body rows m)
within_rows n body f [] m le = le
within_rows n body f (x ∷ xs) m le =
    within_then n (body x m) _ (weaken m n (body x m) le (f x m)) (λ v k le. within_turn n k _ le (λ j le. within_then n (for_rows body xs j) _ (within_rows n body f xs j le) (λ vs i le. le)))

-- the same for a statement
abbrev pub IsWithin : ℕ → Ending → Type 0
IsWithin n (goes_on ls w m) = m ≤ n
IsWithin n (returned v w m) = m ≤ n
IsWithin n (traps name at es) = Unit {0}
IsWithin n (runs_out es) = Unit {0}

abbrev pub KeepWithin : Calls → Type 0
KeepWithin calls = (k : ℕ) (args : List Value) (w : World) (n : ℕ) → IsWithin n (calls k args w n)

within_result : (n : ℕ) (x : Ending) → IsWithin n x → Within n (result_of x)
within_result n (goes_on ls' w m) h = h
within_result n (returned None w m) h = h
within_result n (returned (Some v) w m) h = h
within_result n (traps name at es) h = tt
within_result n (runs_out es) h = tt

module _ (hosts : Hosts) (calls : Calls) (keep : KeepWithin calls) where
  mutual
    pub eval_within : (e : Expr) (ls : List Value) (s : State) (n : ℕ) → Within n (eval hosts calls e ls s n)
    eval_within (constant c) ls s n = omega arith
    eval_within (local i) ls s n = omega arith
    eval_within (relation r) ls s n = omega arith
    eval_within (prim op args place) ls s n = within_then n (eval_all hosts calls args ls s n) _ (all_within args ls s n) (λ vs m le. within_answered place (prim_of op vs) m n le)
    eval_within (chain first links) ls s n =
        within_then n (eval hosts calls first ls s n) _ (eval_within first ls s n) (λ v m le. weaken m n (eval_links hosts calls links v ls s m) le (links_within links v ls s m))
    eval_within (and_all args) ls s n = every_within args ls s n
    eval_within (or_any args) ls s n = some_within args ls s n
    eval_within (when body hypos) ls s n =
        within_then n (suppose hosts calls hypos ls s n) _ (suppose_within hypos ls s n) (λ s m le. weaken m n (eval hosts calls body ls s m) le (eval_within body ls s m))
    eval_within (select i of body) ls s n =
        within_then n (eval hosts calls of ls s n) _ (eval_within of ls s n) (λ v m le.
        within_then n (for_rows (λ x m. eval hosts calls body (set_local ls i (tuple x)) s m) (rows_in v) m) _ (within_rows n _ (λ x m. eval_within body (set_local ls i (tuple x)) s m) (rows_in v) m le) (λ vs k le. le))
    eval_within (map_each i of body) ls s n =
        within_then n (eval hosts calls of ls s n) _ (eval_within of ls s n) (λ v m le.
        within_then n (for_rows (λ x m. eval hosts calls body (set_local ls i (tuple x)) s m) (rows_in v) m) _ (within_rows n _ (λ x m. eval_within body (set_local ls i (tuple x)) s m) (rows_in v) m le) (λ vs k le. le))
    eval_within (call k args) ls s n =
        within_then n (eval_all hosts calls args ls s n) _ (all_within args ls s n)
        (λ vs m le. weaken m n (result_of (calls k vs (world_at s) m)) le (within_result m (calls k vs (world_at s) m) (keep k vs (world_at s) m)))
    eval_within (host h args) ls s n = within_then n (eval_all hosts calls args ls s n) _ (all_within args ls s n) (λ vs m le. le)

    pub all_within : (es : Exprs) (ls : List Value) (s : State) (n : ℕ) → Within n (eval_all hosts calls es ls s n)
    all_within no_more ls s n = omega arith
    all_within (then_expr e es) ls s n =
        within_then n (eval hosts calls e ls s n) _ (eval_within e ls s n) (λ v m le.
        within_then n (eval_all hosts calls es ls s m) _ (weaken m n (eval_all hosts calls es ls s m) le (all_within es ls s m)) (λ vs k le. le))

    pub every_within : (es : Exprs) (ls : List Value) (s : State) (n : ℕ) → Within n (every hosts calls es ls s n)
    every_within no_more ls s n = omega arith
    every_within (then_expr e no_more) ls s n = eval_within e ls s n
    every_within (then_expr e (then_expr f fs)) ls s n =
        within_then n (eval hosts calls e ls s n) _ (eval_within e ls s n) (λ v m le. within_by n (is_true v) _ _ m (weaken m n (every hosts calls (then_expr f fs) ls s m) le (every_within (then_expr f fs) ls s m)) le)

    pub some_within : (es : Exprs) (ls : List Value) (s : State) (n : ℕ) → Within n (some hosts calls es ls s n)
    some_within no_more ls s n = omega arith
    some_within (then_expr e no_more) ls s n = eval_within e ls s n
    some_within (then_expr e (then_expr f fs)) ls s n =
        within_then n (eval hosts calls e ls s n) _ (eval_within e ls s n) (λ v m le. within_by n (is_true v) _ _ m le (weaken m n (some hosts calls (then_expr f fs) ls s m) le (some_within (then_expr f fs) ls s m)))

    pub links_within : (links : Links) (v : Value) (ls : List Value) (s : State) (n : ℕ) → Within n (eval_links hosts calls links v ls s n)
    links_within no_link v ls s n = omega arith
    links_within (link op arg place rest) v ls s n =
        within_then n (eval hosts calls arg ls s n) _ (eval_within arg ls s n) (λ a m le.
        within_then n (answered place (prim_of op (v ∷ a ∷ [])) m) _ (within_answered place (prim_of op (v ∷ a ∷ [])) m n le)
        (λ v k le. weaken k n (eval_links hosts calls rest v ls s k) le (links_within rest v ls s k)))

    pub suppose_within : (hypos : Hypos) (ls : List Value) (s : State) (n : ℕ) → Within n (suppose hosts calls hypos ls s n)
    suppose_within no_hypo ls s n = omega arith
    suppose_within (hypo d place rest) ls s n =
        within_then n (suppose hosts calls rest ls s n) _ (suppose_within rest ls s n) (λ s m le.
        within_then n (eval hosts calls d ls s m) _ (weaken m n (eval hosts calls d ls s m) le (eval_within d ls s m)) (λ v k le. within_supposed n place s (delta_in v) k le))

pub weaken_in : (m n : ℕ) (x : Ending) → m ≤ n → IsWithin m x → IsWithin n x
weaken_in m n (goes_on ls w k) le h = omega (arith, le, h)
weaken_in m n (returned v w k) le h = omega (arith, le, h)
weaken_in m n (traps name at es) le h = tt
weaken_in m n (runs_out es) le h = tt

within_do : (n : ℕ) (x : Ending) (go : List Value → World → ℕ → Ending) → IsWithin n x → ((ls : List Value) (w : World) (m : ℕ) → m ≤ n → IsWithin n (go ls w m)) → IsWithin n (then_do x go)
within_do n (goes_on ls w m) go h f = f ls w m h
within_do n (returned v w m) go h f = h
within_do n (traps name at es) go h f = tt
within_do n (runs_out es) go h f = tt

within_value : {A : Type 0} (n : ℕ) (x : Ended A) (w : World) (go : A → ℕ → Ending) → Within n x → ((v : A) (m : ℕ) → m ≤ n → IsWithin n (go v m)) → IsWithin n (with_value x w go)
within_value n (got v m) w go h f = f v m h
within_value n (trapped name at) w go h f = tt
within_value n spent w go h f = tt

within_by_in : (n : ℕ) (b : Bool) (go other : ℕ → Ending) (m : ℕ) → IsWithin n (go m) → IsWithin n (other m) → IsWithin n (by b go other m)
within_by_in n true go other m f g = f
within_by_in n false go other m f g = g

within_turn_in : (n : ℕ) (w : World) (m : ℕ) (go : ℕ → Ending) → m ≤ n → ((k : ℕ) → k ≤ n → IsWithin n (go k)) → IsWithin n (turn_in w m go)
within_turn_in n w zero go le f = tt
within_turn_in n w (suc m) go le f = f m (omega (arith, le))

within_while : (n : ℕ) (test : List Value → World → ℕ → Ended Value) (body : List Value → World → ℕ → Ending) →
    ((ls : List Value) (w : World) (m : ℕ) → Within m (test ls w m)) → ((ls : List Value) (w : World) (m : ℕ) → IsWithin m (body ls w m)) →
    (limit : ℕ) (ls : List Value) (w : World) (m : ℕ) → m ≤ n → IsWithin n (while_of limit test body ls w m)
within_while n test body f g zero ls w m le = tt
within_while n test body f g (suc limit) ls w m le =
    within_value n (test ls w m) w _ (weaken m n (test ls w m) le (f ls w m)) (λ v k le. within_by_in n (is_true v) _ _ k
    (within_do n (body ls w k) _ (weaken_in k n (body ls w k) le (g ls w k)) (λ ls w j le. within_turn_in n w j _ le (λ i le. within_while n test body f g limit ls w i le))) le)

within_each : (n : ℕ) (body : Row → List Value → World → ℕ → Ending) → ((x : Row) (ls : List Value) (w : World) (m : ℕ) → IsWithin m (body x ls w m)) →
    (rows : List Row) (ls : List Value) (w : World) (m : ℕ) → m ≤ n → IsWithin n (each_row body rows ls w m)
within_each n body g [] ls w m le = le
within_each n body g (x ∷ xs) ls w m le =
    within_do n (body x ls w m) _ (weaken_in m n (body x ls w m) le (g x ls w m)) (λ ls w j le. within_turn_in n w j _ le (λ i le. within_each n body g xs ls w i le))

within_applied : (n place : ℕ) (d : Delta) (ls : List Value) (w : World) (m : ℕ) → m ≤ n → IsWithin n (applied place d ls w m)
within_applied n place fail ls w m le = tt
within_applied n place (atoms xs) ls w m le = le

within_resumed : (n : ℕ) (ls : List Value) (x : Ending) → IsWithin n x → IsWithin n (resumed ls x)
within_resumed n ls (goes_on ls' w m) h = h
within_resumed n ls (returned v w m) h = h
within_resumed n ls (traps name at es) h = tt
within_resumed n ls (runs_out es) h = tt

module _ (rels : List RelDecl) (hosts : Hosts) (calls : Calls) (keep : KeepWithin calls) where
  value_within : (e : Expr) (ls : List Value) (w : World) (n : ℕ) (go : Value → ℕ → Ending) → ((v : Value) (m : ℕ) → m ≤ n → IsWithin n (go v m)) → IsWithin n (with_value (eval hosts calls e ls w.state n) w go)
  value_within e ls w n go f = within_value n (eval hosts calls e ls w.state n) w go (eval_within hosts calls keep e ls w.state n) f

  mutual
    pub exec_within : (c : Command) (ls : List Value) (w : World) (n : ℕ) → IsWithin n (exec rels hosts calls c ls w n)
    exec_within (set_slot i e) ls w n = value_within e ls w n _ (λ v m le. le)
    exec_within (if_arms arms other) ls w n = arms_within arms _ ls w n (λ m. block_within other ls w m)
    exec_within (while c block) ls w n =
        let le : n ≤ n = omega arith in within_while n _ _ (λ ls w m. eval_within hosts calls keep c ls w.state m) (λ ls w m. block_within block ls w m) (suc n) ls w n le
    exec_within (foreach i of block) ls w n = value_within of ls w n _ (λ v m le. within_each n _ (λ x ls w m. block_within block (set_local ls i (tuple x)) w m) (rows_in v) ls w m le)
    exec_within (print e shape) ls w n = value_within e ls w n _ (λ v m le. le)
    exec_within (apply d place) ls w n = value_within d ls w n _ (λ v m le. within_applied n place (delta_in v) ls w m le)
    exec_within (commit label) ls w n = omega arith
    exec_within rollback ls w n = omega arith
    exec_within (assert c place) ls w n = value_within c ls w n _ (λ v m le. within_by_in n (is_true v) _ _ m le tt)
    exec_within return ls w n = omega arith
    exec_within (return_value e) ls w n = value_within e ls w n _ (λ v m le. le)
    exec_within (call_proc k args) ls w n =
        within_value n (eval_all hosts calls args ls w.state n) w _ (all_within hosts calls keep args ls w.state n)
        (λ vs m le. weaken_in m n (resumed ls (calls k vs w m)) le (within_resumed m ls (calls k vs w m) (keep k vs w m)))

    pub block_within : (b : Block) (ls : List Value) (w : World) (n : ℕ) → IsWithin n (exec_block rels hosts calls b ls w n)
    block_within no_stmt ls w n = omega arith
    block_within (then_stmt c rest) ls w n =
        within_do n (exec rels hosts calls c ls w n) _ (exec_within c ls w n) (λ ls w m le. weaken_in m n (exec_block rels hosts calls rest ls w m) le (block_within rest ls w m))

    arms_within : (arms : Arms) (other : ℕ → Ending) (ls : List Value) (w : World) (n : ℕ) → ((m : ℕ) → IsWithin m (other m)) → IsWithin n (exec_arms rels hosts calls arms other ls w n)
    arms_within no_arm other ls w n f = f n
    arms_within (arm c block rest) other ls w n f =
        value_within c ls w n _ (λ v m le. within_by_in n (is_true v) _ _ m (weaken_in m n (exec_block rels hosts calls block ls w m) le (block_within block ls w m)) (weaken_in m n (exec_arms rels hosts calls rest other ls w m) le (arms_within rest other ls w m f)))

-- calls spend turns
pub calls_within : (p : Program_tree) (hosts : Hosts) (depth : ℕ) → KeepWithin (calls_at p hosts depth)
calls_within p hosts zero k args w n = tt
calls_within p hosts (suc depth) k args w n =
    let le : n ≤ n = omega arith in
    within_turn_in n w n _ le (λ m le. weaken_in m n _ le (block_within p.relations hosts (calls_at p hosts depth) (calls_within p hosts depth) (body_at p.bodies k).block (locals_from (body_at p.bodies k).slots args) w m))
