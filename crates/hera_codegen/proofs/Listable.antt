-- The code of a sound program can be listed.
use Rattle.std.proofs.Common.{◌≡◌, ◌<◌, ◌≤◌, ℕ, zero, suc, ◌+◌, Bool, true, false, ◌&&◌, List, [], ◌∷◌, Some, slice_get, length, refl, arith}
use Rattle.hera_meaning.specs.declared.schemas.RelDecl.{RelDecl}
use Rattle.hera_meaning.specs.Hosts.{Hosts}
use Rattle.hera_meaning.specs.Trees.{Command, set_slot, if_arms, while, foreach, print, apply, commit, rollback, assert, return, return_value, call_proc, Block, no_stmt, then_stmt, Body_tree, Program_tree}
use Rattle.hera_meaning.specs.Addresses.{command_end, block_end, arms_end, body_end, bodies_end}
use Rattle.hera_meaning.specs.Sound.{returns, command_returns, arms_return, Sound}
use Rattle.hera_code.specs.Scheme.{in_main, info_of, infos_of, code_from, code_of}
use Rattle.hera_code.specs.Listing.{StartsFrom, IsListable}
use Rattle.hera_codegen.proofs.Places.{expr_length, command_length, block_length, arms_length}
use Rattle.hera_codegen.proofs.Bodies.{code_length}

right : (a b : Bool) → (a && b) ≡ true → b ≡ true
right true b h = h
right false b h = absurd cc

-- a block that returns has an instruction
mutual
  block_grows : (b : Block) (a : ℕ) → returns b ≡ true → a < block_end b a
  block_grows no_stmt a h = absurd cc
  block_grows (then_stmt c no_stmt) a h = command_grows c a h
  block_grows (then_stmt c (then_stmt d rest)) a h = omega (arith, command_length in_main c a, block_grows (then_stmt d rest) (command_end c a) h)

  command_grows : (c : Command) (a : ℕ) → command_returns c ≡ true → a < command_end c a
  command_grows (return_value e) a h = omega (arith, expr_length e a)
  command_grows (if_arms arms other) a h = omega (arith, arms_length in_main arms a 0, block_grows other (arms_end arms a) (right (arms_return arms) (returns other) h))
  command_grows (set_slot i e) a h = absurd cc
  command_grows (while c b) a h = absurd cc
  command_grows (foreach i e b) a h = absurd cc
  command_grows (print e s) a h = absurd cc
  command_grows (apply e at) a h = absurd cc
  command_grows (commit label) a h = absurd cc
  command_grows rollback a h = absurd cc
  command_grows (assert e at) a h = absurd cc
  command_grows return a h = absurd cc
  command_grows (call_proc k es) a h = absurd cc

-- the bodies of a list that are funcs return
abbrev AllReturn : List Body_tree → Type 0
AllReturn [] = Unit {0}
AllReturn (b ∷ bodies) = (b.func ≡ true → returns b.block ≡ true) × AllReturn bodies

body_grows : (func : Bool) (b : Block) (a : ℕ) → (func ≡ true → returns b ≡ true) → a < body_end func b a
body_grows true b a h = block_grows b a (h refl)
body_grows false b a h = omega (arith, block_length in_main b a)

bodies_rise : (bodies : List Body_tree) (a : ℕ) → AllReturn bodies → a ≤ bodies_end bodies a
bodies_rise [] a h = omega arith
bodies_rise (b ∷ bodies) a h = omega (arith, body_grows b.func b.block a h.0, bodies_rise bodies (body_end b.func b.block a) h.1)

starts_ascend : (bodies : List Body_tree) (from a end : ℕ) → AllReturn bodies → from ≤ a → bodies_end bodies a ≤ end → StartsFrom from (infos_of bodies a) end
starts_ascend [] from a end h below within = tt
starts_ascend (b ∷ bodies) from a end h below within =
    let next = body_end b.func b.block a in
    let grows : a < next = body_grows b.func b.block a h.0 in
    (below, omega (arith, grows, bodies_rise bodies next h.1), starts_ascend bodies (suc a) next end h.1 (omega arith) within)

returning : (bodies : List Body_tree) → ((k : ℕ) (b : Body_tree) → slice_get bodies k ≡ Some b → b.func ≡ true → returns b.block ≡ true) → AllReturn bodies
returning [] h = tt
returning (b ∷ bodies) h = (h 0 b refl, returning bodies (λ k c at. h (suc k) c at))

-- a place of one list is one of another of the same length
paired : {A B : Type 0} (xs : List A) (ys : List B) (k : ℕ) (x : A) → length ys ≡ length xs → slice_get xs k ≡ Some x → (y : B) × (slice_get ys k ≡ Some y)
paired [] ys k x e h = absurd cc
paired (z ∷ xs) [] k x e h = absurd (omega arith)
paired (z ∷ xs) (y ∷ ys) zero x e h = (y, refl)
paired (z ∷ xs) (y ∷ ys) (suc k) x e h = paired xs ys k x (omega arith) h

sound_returning : (p : Program_tree) (hosts : Hosts) → Sound p hosts → AllReturn p.bodies
sound_returning p hosts s =
    returning p.bodies (λ k b at func. (let own = paired p.bodies s.forms k b s.shaped.many at in (s.shaped.bodies k b own.0 at own.1).returning func))

listable_of : (rels : List RelDecl) (bodies : List Body_tree) (main : Body_tree) → slice_get bodies 0 ≡ Some main → AllReturn bodies → IsListable (code_from bodies)
listable_of rels [] main h all = absurd cc
listable_of rels (b ∷ bodies) main h all =
    let a = block_end b.block 0 + 1 in
    let size : length (code_from (b ∷ bodies)).instrs ≡ bodies_end bodies a = code_length rels (b ∷ bodies) in
    let rise : a ≤ bodies_end bodies a = bodies_rise bodies a all.1 in
    record {
      main = info_of b 0;
      first = refl;
      from_zero = refl;
      starts = (omega arith, omega (arith, size, rise), starts_ascend bodies 1 a (length (code_from (b ∷ bodies)).instrs) all.1 (omega arith) (omega (arith, size)));
    }

pub code_listable : (p : Program_tree) (hosts : Hosts) → Sound p hosts → IsListable (code_of p)
code_listable p hosts s = listable_of p.relations p.bodies s.shaped.main.body s.shaped.main.here (sound_returning p hosts s)
