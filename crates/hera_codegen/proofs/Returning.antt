-- A block that returns does not go on behind itself.
use Rattle.std.proofs.Common.{◌≡◌, ℕ, ◌<◌, Bool, true, false, List, arith}
use Rattle.std.proofs.lemmas.Bool.{and_parts}
use Rattle.hera_meaning.specs.declared.schemas.RelDecl.{RelDecl}
use Rattle.hera_meaning.specs.Values.{Value, is_true}
use Rattle.hera_meaning.specs.Hosts.{Hosts}
use Rattle.hera_meaning.specs.Trees.{Command, set_slot, if_arms, while, foreach, print, apply, commit, rollback, assert, return, return_value, call_proc, Block, no_stmt, then_stmt, Arms, no_arm, arm}
use Rattle.hera_meaning.specs.Worlds.{World, Ended, got, trapped, spent, by, Ending, goes_on, returned, traps, runs_out, then_do, with_value, Calls}
use Rattle.hera_meaning.specs.Expressions.{eval}
use Rattle.hera_meaning.specs.Statements.{exec, exec_block, exec_arms}
use Rattle.hera_meaning.specs.Addresses.{command_end, block_end, arms_end}
use Rattle.hera_meaning.specs.Sound.{returns, command_returns, arms_return}
use Rattle.hera_code.specs.Scheme.{in_main}
use Rattle.hera_codegen.proofs.Places.{expr_length, command_length, arms_length}

abbrev pub NotOn : Ending → Type 0
NotOn (goes_on ls w n) = ⊥
NotOn (returned v w n) = Unit {0}
NotOn (traps name at es) = Unit {0}
NotOn (runs_out es) = Unit {0}

not_after : (x : Ending) (go : List Value → World → ℕ → Ending) → NotOn x → NotOn (then_do x go)
not_after (goes_on ls w n) go h = absurd h
not_after (returned v w n) go h = tt
not_after (traps name at es) go h = tt
not_after (runs_out es) go h = tt

not_behind : (x : Ending) (go : List Value → World → ℕ → Ending) → ((ls : List Value) (w : World) (n : ℕ) → NotOn (go ls w n)) → NotOn (then_do x go)
not_behind (goes_on ls w n) go h = h ls w n
not_behind (returned v w n) go h = tt
not_behind (traps name at es) go h = tt
not_behind (runs_out es) go h = tt

not_with : (x : Ended Value) (w : World) (go : Value → ℕ → Ending) → ((v : Value) (n : ℕ) → NotOn (go v n)) → NotOn (with_value x w go)
not_with (got v n) w go h = h v n
not_with (trapped name at) w go h = tt
not_with spent w go h = tt

not_by : (b : Bool) (go other : ℕ → Ending) (n : ℕ) → NotOn (go n) → NotOn (other n) → NotOn (by b go other n)
not_by true go other n f g = f
not_by false go other n f g = g

module _ (rels : List RelDecl) (hosts : Hosts) (calls : Calls) where
  mutual
    pub block_not_on : (b : Block) (ls : List Value) (w : World) (n : ℕ) → returns b ≡ true → NotOn (exec_block rels hosts calls b ls w n)
    block_not_on no_stmt ls w n h = cc
    block_not_on (then_stmt c no_stmt) ls w n h = not_after (exec rels hosts calls c ls w n) _ (command_not_on c ls w n h)
    block_not_on (then_stmt c (then_stmt d rest)) ls w n h = not_behind (exec rels hosts calls c ls w n) _ (λ ls w n. block_not_on (then_stmt d rest) ls w n h)

    command_not_on : (c : Command) (ls : List Value) (w : World) (n : ℕ) → command_returns c ≡ true → NotOn (exec rels hosts calls c ls w n)
    command_not_on (set_slot i e) ls w n h = cc
    command_not_on (if_arms arms other) ls w n h =
        let k = and_parts (arms_return arms) (returns other) h in
        arms_not_on arms (λ m. exec_block rels hosts calls other ls w m) ls w n k.0 (λ m. block_not_on other ls w m k.1)
    command_not_on (while c block) ls w n h = cc
    command_not_on (foreach i of block) ls w n h = cc
    command_not_on (print e shape) ls w n h = cc
    command_not_on (apply d at) ls w n h = cc
    command_not_on (commit label) ls w n h = cc
    command_not_on rollback ls w n h = cc
    command_not_on (assert c at) ls w n h = cc
    command_not_on return ls w n h = cc
    command_not_on (return_value e) ls w n h = not_with (eval hosts calls e ls w.state n) w _ (λ v n. tt)
    command_not_on (call_proc k args) ls w n h = cc

    arms_not_on : (arms : Arms) (other : ℕ → Ending) (ls : List Value) (w : World) (n : ℕ) → arms_return arms ≡ true → ((m : ℕ) → NotOn (other m)) → NotOn (exec_arms rels hosts calls arms other ls w n)
    arms_not_on no_arm other ls w n h f = f n
    arms_not_on (arm c block rest) other ls w n h f =
        let k = and_parts (returns block) (arms_return rest) h in
        not_with (eval hosts calls c ls w.state n) w _ (λ v m. not_by (is_true v) _ _ m (block_not_on block ls w m k.0) (arms_not_on rest other ls w m k.1 f))

-- a block that returns has an instruction
mutual
  pub block_some : (b : Block) (a : ℕ) → returns b ≡ true → a < block_end b a
  block_some no_stmt a h = cc
  block_some (then_stmt c no_stmt) a h = command_some c a h
  block_some (then_stmt c (then_stmt d rest)) a h = omega (arith, block_some (then_stmt d rest) (command_end c a) h, command_length in_main c a)

  command_some : (c : Command) (a : ℕ) → command_returns c ≡ true → a < command_end c a
  command_some (set_slot i e) a h = cc
  command_some (if_arms arms other) a h =
      let k = and_parts (arms_return arms) (returns other) h in
      omega (arith, block_some other (arms_end arms a) k.1, arms_length in_main arms a 0)
  command_some (while c block) a h = cc
  command_some (foreach i of block) a h = cc
  command_some (print e shape) a h = cc
  command_some (apply d at) a h = cc
  command_some (commit label) a h = cc
  command_some rollback a h = cc
  command_some (assert c at) a h = cc
  command_some return a h = cc
  command_some (return_value e) a h = omega (arith, expr_length e a)
  command_some (call_proc k args) a h = cc
