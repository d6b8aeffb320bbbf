-- What a statement does.
use Rattle.std.specs.Prelude.{ℕ, zero, suc, List, [], ◌∷◌, Some, None}
use Rattle.hera_sets.specs.Rows.{Row}
use Rattle.hera_meaning.specs.declared.schemas.RelDecl.{RelDecl}
use Rattle.hera_meaning.specs.declared.trees.TrapName.TheVariants.{Assert}
use Rattle.hera_meaning.specs.Values.{Value, tuple, is_true, rows_in, delta_in}
use Rattle.hera_meaning.specs.Hosts.{Hosts}
use Rattle.hera_meaning.specs.Printed.{text_of}
use Rattle.hera_meaning.specs.Trees.{Command, set_slot, if_arms, while, foreach, print, apply, commit, rollback, assert, return, return_value, call_proc, Block, no_stmt, then_stmt, Arms, no_arm, arm}
use Rattle.hera_meaning.specs.Worlds.{out, World, with_event, committed, labelled, rolled_back, set_local, Ended, by, Ending, goes_on, returned, traps, runs_out, then_do, with_value, turn_in, applied, resumed, Calls}
use Rattle.hera_meaning.specs.Expressions.{eval, eval_all}

-- where the test is true the body, a turn, and again; else on; limit is more than the turns left
abbrev pub while_of : (limit : ℕ) → (List Value → World → ℕ → Ended Value) → (List Value → World → ℕ → Ending) → List Value → World → ℕ → Ending
while_of zero test body ls w n = runs_out w.events
while_of (suc limit) test body ls w n =
    with_value (test ls w n) w (λ v. by (is_true v) (λ m. then_do (body ls w m) (λ ls w m. turn_in w m (λ m. while_of limit test body ls w m))) (λ m. goes_on ls w m))

-- the body for each row in order, a turn spent after each
abbrev pub each_row : (Row → List Value → World → ℕ → Ending) → List Row → List Value → World → ℕ → Ending
each_row body [] ls w n = goes_on ls w n
each_row body (x ∷ xs) ls w n = then_do (body x ls w n) (λ ls w m. turn_in w m (λ m. each_row body xs ls w m))

module _ (rels : List RelDecl) (hosts : Hosts) (calls : Calls) where
  abbrev mutual
    -- from the locals, the world and the turns left
    pub exec : Command → List Value → World → ℕ → Ending
    exec (set_slot i e) ls w n = with_value (eval hosts calls e ls w.state n) w (λ v m. goes_on (set_local ls i v) w m)
    exec (if_arms arms other) ls w n = exec_arms arms (λ m. exec_block other ls w m) ls w n
    exec (while c block) ls w n = while_of (suc n) (λ ls w m. eval hosts calls c ls w.state m) (λ ls w m. exec_block block ls w m) ls w n
    exec (foreach i of block) ls w n =
        with_value (eval hosts calls of ls w.state n) w (λ v m. each_row (λ x ls w m. exec_block block (set_local ls i (tuple x)) w m) (rows_in v) ls w m)
    exec (print e shape) ls w n = with_value (eval hosts calls e ls w.state n) w (λ v m. goes_on ls (with_event (out (text_of shape v rels)) w) m)
    exec (apply d at) ls w n = with_value (eval hosts calls d ls w.state n) w (λ v m. applied at (delta_in v) ls w m)
    exec (commit label) ls w n = goes_on ls (labelled label (committed w)) n
    exec rollback ls w n = goes_on ls (rolled_back w) n
    exec (assert c at) ls w n = with_value (eval hosts calls c ls w.state n) w (λ v. by (is_true v) (λ m. goes_on ls w m) (λ m. traps Assert at w.events))
    exec return ls w n = returned None w n
    exec (return_value e) ls w n = with_value (eval hosts calls e ls w.state n) w (λ v m. returned (Some v) w m)
    exec (call_proc k args) ls w n = with_value (eval_all hosts calls args ls w.state n) w (λ vs m. resumed ls (calls k vs w m))

    pub exec_block : Block → List Value → World → ℕ → Ending
    exec_block no_stmt ls w n = goes_on ls w n
    exec_block (then_stmt c rest) ls w n = then_do (exec c ls w n) (λ ls w m. exec_block rest ls w m)

    -- the block of the first arm whose condition is true, else the other block
    pub exec_arms : Arms → (ℕ → Ending) → List Value → World → ℕ → Ending
    exec_arms no_arm other ls w n = other n
    exec_arms (arm c block rest) other ls w n =
        with_value (eval hosts calls c ls w.state n) w (λ v. by (is_true v) (λ m. exec_block block ls w m) (λ m. exec_arms rest other ls w m))
