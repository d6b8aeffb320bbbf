-- Calls, by the depth to which they nest; and the run of a program.
use Rattle.std.proofs.Common.{◌≡◌, ℕ, zero, suc, ◌+◌, ◌-◌, ◌<◌, ◌≤◌, ◌||◌, Bool, true, false, List, [], ◌∷◌, ◌++◌, length, take, replicate, Option, Some, None, refl, sym, ap, ◌∙◌, subst, arith, append_assoc, length-append, inl, inr}
use Rattle.std.specs.Prelude.{slice_get, nat_eq, pos}
use Rattle.std.specs.List.{AllByRecursion}
use Rattle.std.proofs.lemmas.Bool.{false≢true, or_from, eqb-true, ne_eqb, le-leb}
use Rattle.std.proofs.lemmas.List.Elements.{recursion_from_All}
use Rattle.hera_meaning.specs.declared.schemas.RelDecl.{RelDecl}
use Rattle.hera_meaning.specs.Deltas.{State}
use Rattle.hera_meaning.specs.Values.{Value, int_value}
use Rattle.hera_meaning.specs.Hosts.{Hosts}
use Rattle.hera_meaning.specs.Trees.{Block, Body_tree, Program_tree}
use Rattle.hera_meaning.specs.Worlds.{World, world_at, locals_from, Ending, goes_on, returned, traps, runs_out, result_of, resumed}
use Rattle.hera_meaning.specs.Statements.{exec_block}
use Rattle.hera_meaning.specs.Run.{body_at, calls_at, finished, out_of_turns}
use Rattle.hera_meaning.specs.Addresses.{block_end, body_end}
use Rattle.hera_meaning.specs.Forms.{Form}
use Rattle.hera_meaning.specs.Sound.{has_slot, first_slots, walks_of_block, Body_forms, Scope, IsBody, scope_of, Shaped}
use Rattle.hera_code.specs.declared.instrs.Code.{Code}
use Rattle.hera_code.specs.declared.instrs.Instr.{Instr}
use Rattle.hera_code.specs.declared.instrs.Instr.TheVariants.{Call, Ret, RetVal, Halt}
use Rattle.hera_code.specs.Scheme.{in_main, in_func, in_proc, role_of, block_code, body_code, info_of, bodies_code, infos_of, code_from, code_of}
use Rattle.hera_code.specs.Machine.{Frame, ended, Step, quiet, needs_that, on_some, spends, frame_of, calls_body, goes_back, act}
use Rattle.hera_code.specs.Reached.{Reached, over}
use Rattle.hera_codegen.proofs.HasForm.{HasForm, AllHave, IsStateIn}
use Rattle.hera_codegen.proofs.Facts.{Facts}
use Rattle.hera_codegen.proofs.Slots.{IsHeld, Agree}
use Rattle.hera_codegen.proofs.Turns.{calls_within}
use Rattle.hera_codegen.proofs.Places.{HasAt, has_front, all_behind, here_behind, in_here, block_length}
use Rattle.hera_codegen.proofs.Steps.{Setting, Around, machine_at, Stands, Named, onto, popped, EndsAt, Over, quiet_step, end_step, Then, FuncsRun}
use Rattle.hera_codegen.proofs.Proper.{Proper}
use Rattle.hera_codegen.proofs.Returning.{NotOn, block_not_on}
use Rattle.hera_codegen.proofs.Executes.{Clear, ThenDo, Behind, ProcsRun, do_map, block_runs}

-- ---- where bodies stand

get_front : (front : List Instr) (i : Instr) (is : List Instr) → slice_get (front ++ i ∷ is) (length front) ≡ Some i
get_front [] i is = refl
get_front (j ∷ front) i is = get_front front i is

has_behind : (front is : List Instr) → HasAt (front ++ is) (length front) is
has_behind front [] = tt
has_behind front (i ∷ is) =
    let e : length (front ++ i ∷ []) ≡ length front + 1 = length-append front (i ∷ []) in
    (get_front front i is, subst (λ n. HasAt (front ++ i ∷ is) n is) e (subst (λ code. HasAt code (length (front ++ i ∷ [])) is) (append_assoc front (i ∷ []) is) (has_behind (front ++ i ∷ []) is)))

pub has_self : (is : List Instr) → HasAt is 0 is
has_self is = has_behind [] is

-- a body of this code
pub record HasBody (code : Code) (k : ℕ) (b : Body_tree) : Type 0 where
  pub at : ℕ
  pub info_is : slice_get code.bodies k ≡ Some (info_of b at)
  pub has : HasAt code.instrs at (body_code (role_of b.func) b.block at)

body_length : (func : Bool) (b : Block) (a : ℕ) → a + length (body_code (role_of func) b a) ≡ body_end func b a
body_length true b a = omega (arith, block_length in_func b a, length-append (block_code in_func b a) [])
body_length false b a = omega (arith, block_length in_proc b a, length-append (block_code in_proc b a) (Ret ∷ []))

find_body : (code : List Instr) (bs : List Body_tree) (k : ℕ) (b : Body_tree) (a : ℕ) → slice_get bs k ≡ Some b → HasAt code a (bodies_code bs a) →
    (at : ℕ) × (slice_get (infos_of bs a) k ≡ Some (info_of b at)) × HasAt code at (body_code (role_of b.func) b.block at)
find_body code [] k b a e has = cc
find_body code (c ∷ bs) zero b a e has =
    let some_is : c ≡ b = cc in
    (a, ap (λ b. Some (info_of b a)) some_is, subst (λ b. HasAt code a (body_code (role_of b.func) b.block a)) some_is (has_front code a (body_code (role_of c.func) c.block a) (bodies_code bs (body_end c.func c.block a)) has))
find_body code (c ∷ bs) (suc k) b a e has =
    find_body code bs k b (body_end c.func c.block a) e (all_behind code a (body_code (role_of c.func) c.block a) (bodies_code bs (body_end c.func c.block a)) (body_end c.func c.block a) (body_length c.func c.block a) has)

pub bodies_there : (bodies : List Body_tree) (k : ℕ) (b : Body_tree) → 1 ≤ k → slice_get bodies k ≡ Some b → HasBody (code_from bodies) k b
bodies_there [] k b le e = cc
bodies_there (c ∷ bs) zero b le e = absurd (omega (arith, le))
bodies_there (c ∷ bs) (suc k) b le e =
    let a = block_end c.block 0 + 1 in
    let front = body_code in_main c.block 0 in
    let long : 0 + length front ≡ a = omega (arith, block_length in_main c.block 0, length-append (block_code in_main c.block 0) (Halt ∷ [])) in
    let code = front ++ bodies_code bs a in
    let q = find_body code bs k b a e (all_behind code 0 front (bodies_code bs a) a long (has_self code)) in
    record { at = q.0; info_is = q.1; has = q.2 }

pub main_there : (b : Body_tree) (bs : List Body_tree) → HasAt (code_from (b ∷ bs)).instrs 0 (body_code in_main b.block 0)
main_there b bs = has_front _ 0 (body_code in_main b.block 0) (bodies_code bs (block_end b.block 0 + 1)) (has_self (body_code in_main b.block 0 ++ bodies_code bs (block_end b.block 0 + 1)))

-- ---- how a body begins

first_below : (n i : ℕ) → has_slot (first_slots n) i ≡ true → i < n
first_below zero i h = absurd (false≢true h)
first_below (suc n) i h = by (nat_eq i n) refl h (λ k. omega (arith, first_below n i k))
  where
    by : (b : Bool) → nat_eq i n ≡ b → (b || has_slot (first_slots n) i) ≡ true → (has_slot (first_slots n) i ≡ true → i < suc n) → i < suc n
    by true e h f = let eq : i ≡ n = eqb-true i n e in omega (arith, eq)
    by false e h f = f h

first_none : (n i : ℕ) → n ≤ i → has_slot (first_slots n) i ≡ false
first_none zero i le = refl
first_none (suc n) i le = or_from (nat_eq i n) (has_slot (first_slots n) i) (ne_eqb i n (λ e. absurd (omega (arith, le, e)))) (first_none n i (omega (arith, le)))

each_at : (n : ℕ) (ws : List ℕ) → AllByRecursion (λ i. n ≤ i) ws → (i : ℕ) → has_slot ws i ≡ true → n ≤ i
each_at n [] h i e = absurd (false≢true e)
each_at n (j ∷ ws) h i e = by (nat_eq i j) refl e (λ k. each_at n ws h.1 i k)
  where
    by : (b : Bool) → nat_eq i j ≡ b → (b || has_slot ws i) ≡ true → (has_slot ws i ≡ true → n ≤ i) → n ≤ i
    by true q e f = let eq : i ≡ j = eqb-true i j q in subst (λ i. n ≤ i) (sym eq) h.0
    by false q e f = f e

pub clear_body : (sc : Scope) (b : Body_tree) → sc.walks ≡ walks_of_block b.block → IsBody sc b → Clear sc.walks (first_slots b.params) [] (walks_of_block b.block)
clear_body sc b e is = record {
  fresh = record { apart = is.walks_apart; new = λ i h. first_none b.params i (each_at b.params (walks_of_block b.block) (recursion_from_All (λ i. b.params ≤ i) (walks_of_block b.block) is.walks_new) i h) };
  fresh_in = record { apart = is.walks_apart; new = λ i h. refl };
  part = λ i h. ap (λ ws. has_slot ws i) e ∙ h;
}

args_held : (rels : List RelDecl) (n : ℕ) (slots : List Form) (vs rest : List Value) (i : ℕ) (f : Form) → AllHave rels (take n slots) vs → i < n → slice_get slots i ≡ Some f → IsHeld rels f i (vs ++ rest) (vs ++ rest)
args_held rels zero slots vs rest i f have lt e = absurd (omega (arith, lt))
args_held rels (suc n) [] vs rest i f have lt e = cc
args_held rels (suc n) (g ∷ slots) [] rest i f have lt e = absurd have
args_held rels (suc n) (g ∷ slots) (v ∷ vs) rest zero f have lt e =
    let some_is : g ≡ f = cc in record { value = v; here = refl; there = refl; has = subst (λ f. HasForm rels f v) some_is have.0 }
args_held rels (suc n) (g ∷ slots) (v ∷ vs) rest (suc i) f have lt e =
    let k = args_held rels n slots vs rest i f have.1 (omega (arith, lt)) e in record { value = k.value; here = k.here; there = k.there; has = k.has }

args_long : (rels : List RelDecl) (n : ℕ) (slots : List Form) (vs : List Value) → n ≤ length slots → AllHave rels (take n slots) vs → length vs ≡ n
args_long rels zero slots [] le have = refl
args_long rels zero slots (v ∷ vs) le have = absurd have
args_long rels (suc n) [] vs le have = absurd (omega (arith, le))
args_long rels (suc n) (g ∷ slots) [] le have = absurd have
args_long rels (suc n) (g ∷ slots) (v ∷ vs) le have = ap suc (args_long rels n slots vs (omega (arith, le)) have.1)

long_zeros : (n : ℕ) (v : Value) → length (replicate n v) ≡ n
long_zeros zero v = refl
long_zeros (suc n) v = ap suc (long_zeros n v)

pub agree_start : (rels : List RelDecl) (slots : List Form) (params : ℕ) (vs : List Value) → params ≤ length slots → AllHave rels (take params slots) vs →
    Agree rels slots (first_slots params) (locals_from (length slots) vs) (locals_from (length slots) vs)
agree_start rels slots params vs le have =
    let zeros = replicate (length slots - length vs) (int_value (pos 0)) in
    let long : length (vs ++ zeros) ≡ length slots =
    omega (arith, le, args_long rels params slots vs le have, length-append vs zeros, long_zeros (length slots - length vs) (int_value (pos 0))) in
    record { long = long; long' = long; held = λ i f h e. args_held rels params slots vs zeros i f have (first_below params i h) e }

pub body_is_at : (bs : List Body_tree) (k : ℕ) (b : Body_tree) → slice_get bs k ≡ Some b → body_at bs k ≡ b
body_is_at [] k b e = cc
body_is_at (c ∷ bs) zero b e = cc
body_is_at (c ∷ bs) (suc k) b e = body_is_at bs k b e

some_same : {A : Type 0} (a b : A) → Some a ≡ Some b → a ≡ b
some_same a b e = cc

module _ (p : Program_tree) (hosts : Hosts) (forms : List Body_forms) (shaped : Shaped p hosts forms) (O : Reached → Type 0) (facts : Facts p.relations hosts) where
  abbrev t : Setting
  t = record { code = code_of p; rels = p.relations; hosts = hosts }

  abbrev At : ℕ → List Value → List Value → World → ℕ → Around → Type 0
  At a st ls w n x = EndsAt t O a st ls w n x

  abbrev frame : ℕ → List Value → List Value → Around → Frame
  frame a st ls x = record { at = a + 1; operands = st; locals = ls; walks = x.walks; layers = x.layers; own = x.own }

  -- inside a call
  abbrev inner : ℕ → List Value → List Value → Around → Around
  inner a st ls x = record { walks = []; layers = x.layers; own = 0; callers = frame a st ls x ∷ x.callers }

  -- the call's step
  call_does : (k : ℕ) (b : Body_tree) (hb : HasBody (code_of p) k b) (vs : List Value) (a : ℕ) (st ls : List Value) (w : World) (n : ℕ) (x : Around) → length vs ≡ b.params → b.params ≤ b.slots →
      act (code_of p) p.relations hosts (Some (Call k)) w.stored (machine_at a (onto vs st) ls w n x)
      ≡ spends n (λ n. quiet (machine_at hb.at [] (locals_from b.slots vs) w n (inner a st ls x)))
  call_does k b hb vs a st ls w n x long le =
      let m = machine_at a (onto vs st) ls w n x in
      let go : List Value → List Value → Step = λ args vs. spends n (λ n. quiet (record m { at = hb.at; operands = []; locals = locals_from b.slots args; walks = []; own = 0; callers = frame_of vs m ∷ m.callers; turns = n })) in
      ap (λ o. calls_body o m) hb.info_is
      ∙ ap (λ c. needs_that c (on_some b.params (onto vs st) go)) (le-leb b.params b.slots le)
      ∙ ap (λ c. on_some c (onto vs st) go) (sym long) ∙ popped vs st go

  -- what a call needs of its body
  record Called (k : ℕ) (b : Body_tree) (own : Body_forms) (vs : List Value) : Type 0 where
    hb : HasBody (code_of p) k b
    long : length vs ≡ b.params
    le : b.params ≤ b.slots
    is : IsBody (scope_of p hosts forms b own) b
    agree : Agree p.relations own.slots (first_slots b.params) (locals_from b.slots vs) (locals_from b.slots vs)

  called : (k : ℕ) (func : Bool) (fs : List Form) (r : Option Form) (vs : List Value) (q : Named p.bodies forms k func fs r) → AllHave p.relations fs vs → Called k q.body q.own vs
  called k func fs r vs q have =
      let is = shaped.bodies k q.body q.own q.body_is q.forms_are in
      let le : q.body.params ≤ length q.own.slots = omega (arith, is.params, is.slots) in
      let have' = subst (λ fs. AllHave p.relations fs vs) q.params_are have in
      record {
        hb = bodies_there p.bodies k q.body q.behind_main q.body_is;
        long = args_long p.relations q.body.params q.own.slots vs le have';
        le = is.params;
        is = is;
        agree = subst (λ n. Agree p.relations q.own.slots (first_slots q.body.params) (locals_from n vs) (locals_from n vs)) is.slots (agree_start p.relations q.own.slots q.body.params vs le have');
      }

  -- where no turn is left
  no_turn : (k : ℕ) (b : Body_tree) (own : Body_forms) (vs : List Value) (a : ℕ) (st ls : List Value) (w : World) (x : Around) → Called k b own vs → slice_get (code_of p).instrs a ≡ Some (Call k) →
      Over t O w.events (ended out_of_turns) → At a (onto vs st) ls w 0 x
  no_turn k b own vs a st ls w x q here h =
      end_step t O (Call k) w.stored (machine_at a (onto vs st) ls w 0 x) w.events (ended out_of_turns) here (call_does k b q.hb vs a st ls w 0 x q.long q.le) h

  -- where a turn is left it goes on at the body
  some_turn : (k : ℕ) (b : Body_tree) (own : Body_forms) (vs : List Value) (a : ℕ) (st ls : List Value) (w : World) (n : ℕ) (x : Around) (q : Called k b own vs) → slice_get (code_of p).instrs a ≡ Some (Call k) →
      At q.hb.at [] (locals_from b.slots vs) w n (inner a st ls x) → At a (onto vs st) ls w (suc n) x
  some_turn k b own vs a st ls w n x q here h =
      quiet_step t O (Call k) w.stored (machine_at a (onto vs st) ls w (suc n) x) (machine_at q.hb.at [] (locals_from b.slots vs) w n (inner a st ls x)) w.events here
      (call_does k b q.hb vs a st ls w (suc n) x q.long q.le) h

  -- ---- a func's body

  abbrev scope : Body_tree → Body_forms → Scope
  scope b own = scope_of p hosts forms b own

  -- what the scope of a call of a proc has to say is the same in each body
  abbrev ProcsGo : ℕ → Type 0
  ProcsGo depth = ProcsRun (code_of p) (scope (body_at p.bodies 0) (record { slots = []; result = None })) O facts depth (calls_at p hosts depth)

  abbrev FuncsGo : ℕ → Type 0
  FuncsGo depth = FuncsRun t O p.bodies forms depth (calls_at p hosts depth)

  abbrev func_home : Form → (Value → ℕ → Type 0) → Option Value → World → ℕ → Type 0
  func_home f after None w n = Unit {0}
  func_home f after (Some v) w n = HasForm p.relations f v → after v n

  func_then : (b : Body_tree) (own : Body_forms) (w : World) (e : Ending) (f : Form) (P : List Value → World → ℕ → Type 0) (after : Value → ℕ → Type 0) → NotOn e →
      Then t O (result_of e) (λ v n. HasForm p.relations f v → after v n) w.events → ThenDo (code_of p) (scope b own) O facts (Some w) e P (func_home f after)
  func_then b own w (goes_on ls w' n) f P after never h = absurd never
  func_then b own w (returned None w' n) f P after never h = tt
  func_then b own w (returned (Some v) w' n) f P after never h = h
  func_then b own w (traps name at es) f P after never h = λ fine. h
  func_then b own w (runs_out es) f P after never h = λ fine. h

  func_turn : (depth : ℕ) → FuncsGo depth → ProcsGo depth → (k : ℕ) (fs : List Form) (f : Form) (vs : List Value) (a : ℕ) (st ls : List Value) (w : World) (s : State) (n : ℕ) (x : Around) → n ≤ depth →
      Named p.bodies forms k true fs (Some f) → AllHave p.relations fs vs → slice_get (code_of p).instrs a ≡ Some (Call k) → IsStateIn p.relations s → Stands w x s →
      Then t O (result_of (exec_block p.relations hosts (calls_at p hosts depth) (body_at p.bodies k).block (locals_from (body_at p.bodies k).slots vs) (world_at s) n)) (λ v n. HasForm p.relations f v → At (a + 1) (v ∷ st) ls w n x) w.events →
      At a (onto vs st) ls w (suc n) x
  func_turn depth funcs procs k fs f vs a st ls w s n x low q have here state stands h =
      let b = q.body in
      let c = called k true fs (Some f) vs q have in
      let has_func = subst (λ func. HasAt (code_of p).instrs c.hb.at (body_code (role_of func) b.block c.hb.at)) q.func_is c.hb.has in
      let after : Value → ℕ → Type 0 = λ v n. At (a + 1) (v ∷ st) ls w n x in
      let e = exec_block p.relations hosts (calls_at p hosts depth) b.block (locals_from b.slots vs) (world_at s) n in
      let h' = subst (λ b. Then t O (result_of (exec_block p.relations hosts (calls_at p hosts depth) b.block (locals_from b.slots vs) (world_at s) n)) (λ v n. HasForm p.relations f v → after v n) w.events) (body_is_at p.bodies k b q.body_is) h in
      some_turn k b q.own vs a st ls w n x c here
      (block_runs (code_of p) (scope b q.own) O facts (Some w) (λ not_func. absurd (false≢true (sym not_func ∙ q.func_is))) in_func [] (frame a st ls x ∷ x.callers) (func_home f after)
      (λ a' ls' w' n' x' cs not_func here' good home. absurd (false≢true (sym not_func ∙ q.func_is)))
      (λ v g a' ls' w' n' x' cs is_func result here' has_v good home.
      quiet_step t O RetVal w.stored (machine_at a' (v ∷ []) ls' w n' x') (machine_at (a + 1) (v ∷ st) ls w n' x) w.events here'
      (ap (λ fs. goes_back fs (v ∷ []) (machine_at a' (v ∷ []) ls' w n' x')) cs)
      (home (subst (λ g. HasForm p.relations g v) (some_same g f (sym result ∙ q.result_is)) has_v)))
      (calls_at p hosts depth) (calls_within p hosts depth) depth funcs procs
      b.block [] (first_slots b.params) [] c.hb.at (locals_from b.slots vs) (locals_from b.slots vs) (world_at s) n (inner a st ls x) refl low
      c.is.block (clear_body (scope b q.own) b refl c.is) (has_front (code_of p).instrs c.hb.at (block_code in_func b.block c.hb.at) [] has_func) (inr (c.is.returning q.func_is))
      (record { state_is = state; stands = stands }) c.agree
      (func_then b q.own w e f (Behind (code_of p) (scope b q.own) O facts (Some w) (first_slots b.params) (block_end b.block c.hb.at) [] (inner a st ls x)) after
      (block_not_on p.relations hosts (calls_at p hosts depth) b.block (locals_from b.slots vs) (world_at s) n (c.is.returning q.func_is)) h'))

  -- ---- a proc's body

  abbrev proc_home : (World → ℕ → Type 0) → Option Value → World → ℕ → Type 0
  proc_home after v w n = Proper p.relations w → after w n

  ret_step : (a : ℕ) (st ls : List Value) (x : Around) (a' : ℕ) (ls' : List Value) (w : World) (n : ℕ) (x' : Around) → x'.callers ≡ frame a st ls x ∷ x.callers → slice_get (code_of p).instrs a' ≡ Some Ret →
      At (a + 1) st ls w n x → At a' [] ls' w n x'
  ret_step a st ls x a' ls' w n x' cs here end =
      quiet_step t O Ret w.stored (machine_at a' [] ls' w n x') (machine_at (a + 1) st ls w n x) w.events here (ap (λ fs. goes_back fs [] (machine_at a' [] ls' w n x')) cs) end

  proc_then : (b : Body_tree) (own : Body_forms) (rs : List ℕ) (a : ℕ) (st l ls : List Value) (x : Around) (stop : ℕ) (e : Ending) → slice_get (code_of p).instrs stop ≡ Some Ret →
      ThenDo (code_of p) (scope b own) O facts None (resumed l e) (λ ls'' w m. Proper p.relations w → At (a + 1) st ls w m x) (λ v w m. Unit {0}) →
      ThenDo (code_of p) (scope b own) O facts None e (Behind (code_of p) (scope b own) O facts None rs stop [] (inner a st ls x)) (proc_home (λ w m. At (a + 1) st ls w m x))
  proc_then b own rs a st l ls x stop (goes_on l' w n) here h = λ good l3 ag. ret_step a st ls x stop l3 w n (inner a st ls x) refl here (h good.1)
  proc_then b own rs a st l ls x stop (returned v w n) here h = h
  proc_then b own rs a st l ls x stop (traps name at es) here h = h
  proc_then b own rs a st l ls x stop (runs_out es) here h = h

  proc_turn : (depth : ℕ) → FuncsGo depth → ProcsGo depth → (k : ℕ) (fs : List Form) (vs : List Value) (a : ℕ) (st l ls : List Value) (w : World) (n : ℕ) (x : Around) → n ≤ depth →
      Named p.bodies forms k false fs None → AllHave p.relations fs vs → slice_get (code_of p).instrs a ≡ Some (Call k) → x.layers ≡ [] → Proper p.relations w →
      ThenDo (code_of p) (scope (body_at p.bodies 0) (record { slots = []; result = None })) O facts None
      (resumed l (exec_block p.relations hosts (calls_at p hosts depth) (body_at p.bodies k).block (locals_from (body_at p.bodies k).slots vs) w n)) (λ ls'' w m. Proper p.relations w → At (a + 1) st ls w m x) (λ v w m. Unit {0}) →
      At a (onto vs st) ls w (suc n) x
  proc_turn depth funcs procs k fs vs a st l ls w n x low q have here bare proper h =
      let b = q.body in
      let c = called k false fs None vs q have in
      let has_proc = subst (λ func. HasAt (code_of p).instrs c.hb.at (body_code (role_of func) b.block c.hb.at)) q.func_is c.hb.has in
      let here_ret = here_behind (code_of p).instrs c.hb.at (block_code in_proc b.block c.hb.at) Ret [] (block_end b.block c.hb.at) (block_length in_proc b.block c.hb.at) has_proc in
      let e = exec_block p.relations hosts (calls_at p hosts depth) b.block (locals_from b.slots vs) w n in
      let h' = subst (λ b. ThenDo (code_of p) (scope q.body q.own) O facts None (resumed l (exec_block p.relations hosts (calls_at p hosts depth) b.block (locals_from b.slots vs) w n)) (λ ls'' w m. Proper p.relations w → At (a + 1) st ls w m x) (λ v w m. Unit {0})) (body_is_at p.bodies k b q.body_is) h in
      some_turn k b q.own vs a st ls w n x c here
      (block_runs (code_of p) (scope b q.own) O facts None (λ not_func. refl) in_proc [] (frame a st ls x ∷ x.callers) (proc_home (λ w m. At (a + 1) st ls w m x))
      (λ a' ls' w' n' x' cs not_func here' good home. ret_step a st ls x a' ls' w' n' x' cs here' (home good.1))
      (λ v g a' ls' w' n' x' cs is_func result here' has_v good home. absurd (false≢true (sym q.func_is ∙ is_func)))
      (calls_at p hosts depth) (calls_within p hosts depth) depth funcs procs
      b.block [] (first_slots b.params) [] c.hb.at (locals_from b.slots vs) (locals_from b.slots vs) w n (inner a st ls x) refl low
      c.is.block (clear_body (scope b q.own) b refl c.is) (has_front (code_of p).instrs c.hb.at (block_code in_proc b.block c.hb.at) (Ret ∷ []) has_proc) (inl (in_here (code_of p).instrs _ _ here_ret))
      (bare, proper) c.agree
      (proc_then b q.own (first_slots b.params) a st l ls x (block_end b.block c.hb.at) e here_ret h'))

  mutual
    pub funcs_run : (depth : ℕ) → FuncsGo depth
    funcs_run zero k fs f vs a st ls w s zero x low q have here state stands h = no_turn k q.body q.own vs a st ls w x (called k true fs (Some f) vs q have) here h
    funcs_run zero k fs f vs a st ls w s (suc n) x low q have here state stands h = absurd (omega (arith, low))
    funcs_run (suc depth) k fs f vs a st ls w s zero x low q have here state stands h = no_turn k q.body q.own vs a st ls w x (called k true fs (Some f) vs q have) here h
    funcs_run (suc depth) k fs f vs a st ls w s (suc n) x low q have here state stands h =
        func_turn depth (funcs_run depth) (procs_run depth) k fs f vs a st ls w s n x (omega (arith, low)) q have here state stands h

    pub procs_run : (depth : ℕ) → ProcsGo depth
    procs_run zero k fs vs a st l ls w zero x low q have here bare proper h = no_turn k q.body q.own vs a st ls w x (called k false fs None vs q have) here (h proper.fine)
    procs_run zero k fs vs a st l ls w (suc n) x low q have here bare proper h = absurd (omega (arith, low))
    procs_run (suc depth) k fs vs a st l ls w zero x low q have here bare proper h = no_turn k q.body q.own vs a st ls w x (called k false fs None vs q have) here (h proper.fine)
    procs_run (suc depth) k fs vs a st l ls w (suc n) x low q have here bare proper h =
        proc_turn depth (funcs_run depth) (procs_run depth) k fs vs a st l ls w n x (omega (arith, low)) q have here bare proper h

  -- ---- the run

  -- main is over
  abbrev pub Done : List Value → World → ℕ → Type 0
  Done ls w n = Proper p.relations w → O (over w.events (ended finished))

  abbrev pub Home : Option Value → World → ℕ → Type 0
  Home v w n = Proper p.relations w → O (over w.events (ended finished))

  abbrev pub outer : Around
  outer = record { walks = []; layers = []; own = 0; callers = [] }

  halt_step : (a : ℕ) (st ls : List Value) (w : World) (n : ℕ) (x : Around) → slice_get (code_of p).instrs a ≡ Some Halt → O (over w.events (ended finished)) → At a st ls w n x
  halt_step a st ls w n x here h = end_step t O Halt w.stored (machine_at a st ls w n x) w.events (ended finished) here refl h

  pub main_runs : (b : Body_tree) (own : Body_forms) (s : State) (n : ℕ) → slice_get p.bodies 0 ≡ Some b → slice_get forms 0 ≡ Some own → b.func ≡ false → b.params ≡ 0 → HasAt (code_of p).instrs 0 (body_code in_main b.block 0) → IsStateIn p.relations s → Proper p.relations (world_at s) →
      ThenDo (code_of p) (scope b own) O facts None (exec_block p.relations hosts (calls_at p hosts n) b.block (locals_from b.slots []) (world_at s) n) Done Home →
      At 0 [] (locals_from b.slots []) (world_at s) n outer
  main_runs b own s n here_b here_own not_func params has state proper h =
      let is = shaped.bodies 0 b own here_b here_own in
      let here_halt = here_behind (code_of p).instrs 0 (block_code in_main b.block 0) Halt [] (block_end b.block 0) (block_length in_main b.block 0) has in
      let none : AllHave p.relations (take b.params own.slots) [] = subst (λ n. AllHave p.relations (take n own.slots) []) (sym params) tt in
      let agree = subst (λ n. Agree p.relations own.slots (first_slots b.params) (locals_from n []) (locals_from n [])) is.slots (agree_start p.relations own.slots b.params [] (omega (arith, params)) none) in
      block_runs (code_of p) (scope b own) O facts None (λ e. refl) in_main [] [] Home
      (λ a' ls' w' n' x' cs e here' good home. halt_step a' [] ls' w' n' x' here' (home good.1))
      (λ v g a' ls' w' n' x' cs is_func result here' has_v good home. absurd (false≢true (sym not_func ∙ is_func)))
      (calls_at p hosts n) (calls_within p hosts n) n (funcs_run n) (procs_run n)
      b.block [] (first_slots b.params) [] 0 (locals_from b.slots []) (locals_from b.slots []) (world_at s) n outer refl (omega arith)
      is.block (clear_body (scope b own) b refl is) (has_front (code_of p).instrs 0 (block_code in_main b.block 0) (Halt ∷ []) has) (inl (in_here (code_of p).instrs _ _ here_halt))
      (refl, proper) agree
      (do_map (code_of p) (scope b own) O facts None (exec_block p.relations hosts (calls_at p hosts n) b.block (locals_from b.slots []) (world_at s) n) Done
      (Behind (code_of p) (scope b own) O facts None (first_slots b.params) (block_end b.block 0) [] outer) Home
      (λ ls w m done good l3 ag. halt_step (block_end b.block 0) [] l3 w m outer here_halt (done good.1)) h)
