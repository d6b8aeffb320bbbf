-- From a point the code ends so: one instruction, and what follows it.
use Rattle.std.proofs.Common.{◌≡◌, ℕ, suc, ◌+◌, ◌<◌, ◌≤◌, Bool, true, List, [], ◌∷◌, ◌++◌, length, Option, Some, sym, ap, ◌∙◌, subst, arith, append-nil, zero-add}
use Rattle.std.specs.Prelude.{slice_get, take}
use Rattle.std.proofs.lemmas.Bool.{lt-ltb}
use Rattle.hera_meaning.specs.declared.schemas.RelDecl.{RelDecl}
use Rattle.hera_meaning.specs.Deltas.{Delta, State, apply_of}
use Rattle.hera_meaning.specs.Values.{Value}
use Rattle.hera_meaning.specs.Hosts.{Hosts}
use Rattle.hera_meaning.specs.Trees.{Body_tree}
use Rattle.hera_meaning.specs.Worlds.{Event, out, store, World, world_at, Ended, got, trapped, spent, and_then, result_of, Calls}
use Rattle.hera_meaning.specs.Printed.{commit_text}
use Rattle.hera_meaning.specs.Run.{stopped, out_of_turns}
use Rattle.hera_meaning.specs.Forms.{Form}
use Rattle.hera_meaning.specs.Sound.{Body_forms}
use Rattle.hera_code.specs.declared.instrs.Code.{Code}
use Rattle.hera_code.specs.declared.instrs.Instr.{Instr}
use Rattle.hera_code.specs.declared.instrs.Instr.TheVariants.{Call}
use Rattle.hera_code.specs.Machine.{Walk, Frame, Machine, Stop, ended, Step, quiet, says, commits, ends, after_layers, needs, taken, on_some, needs_that, needs_address, act}
use Rattle.hera_code.specs.Reached.{Reached, over, with_line, stores, after_step, exec_code}
use Rattle.hera_codegen.proofs.HasForm.{HasForm, AllHave, IsStateIn}
use Rattle.hera_codegen.proofs.Turns.{Within}

-- the code, its relations and its hosts
pub record Setting : Type 0 where
  pub code : Code
  pub rels : List RelDecl
  pub hosts : Hosts

-- what stands around an evaluation
pub record Around : Type 0 where
  pub walks : List Walk
  pub layers : List Delta
  pub own : ℕ
  pub callers : List Frame

abbrev pub machine_at : ℕ → List Value → List Value → World → ℕ → Around → Machine
machine_at a st ls w n x = record {
  at = a;
  operands = st;
  locals = ls;
  walks = x.walks;
  layers = x.layers;
  own = x.own;
  callers = x.callers;
  pending = w.pending;
  turns = n;
}

-- the state that the machine stands in
abbrev pub Stands : World → Around → State → Type 0
Stands w x s = after_layers (apply_of w.stored w.pending) x.layers ≡ s

-- a body that may be called
pub record Named (bodies : List Body_tree) (forms : List Body_forms) (k : ℕ) (func : Bool) (params : List Form) (result : Option Form) : Type 0 where
  pub body : Body_tree
  pub own : Body_forms
  pub behind_main : 1 ≤ k
  pub body_is : slice_get bodies k ≡ Some body
  pub forms_are : slice_get forms k ≡ Some own
  pub func_is : body.func ≡ func
  pub params_are : params ≡ take body.params own.slots
  pub result_is : own.result ≡ result

-- operands in the order of a stack
abbrev pub onto : List Value → List Value → List Value
onto [] st = st
onto (v ∷ vs) st = onto vs (v ∷ st)

-- the operands are popped as they were pushed
some_taken : (n : ℕ) (vs rest st : List Value) → taken (length vs + n) rest (onto vs st) ≡ taken n (vs ++ rest) st
some_taken n [] rest st = ap (λ k. taken k rest st) (zero-add n)
some_taken n (v ∷ vs) rest st =
    let e : length (v ∷ vs) + n ≡ length vs + suc n = omega arith in
    ap (λ k. taken k rest (onto vs (v ∷ st))) e ∙ some_taken (suc n) vs rest (v ∷ st)

pub popped : (vs st : List Value) (go : List Value → List Value → Step) → on_some (length vs) (onto vs st) go ≡ go vs st
popped vs st go =
    let e : length vs ≡ length vs + 0 = omega arith in
    ap (λ k. on_some k (onto vs st) go) e ∙ ap (λ o. needs o (λ k. go k.args k.rest)) (some_taken 0 vs [] st) ∙ ap (λ l. go l st) (append-nil vs)

-- an address that is there
pub there : (code : Code) (a : ℕ) (step : Step) → a < length code.instrs → needs_address code a step ≡ step
there code a step lt = ap (λ b. needs_that b step) (lt-ltb a (length code.instrs) lt)

module _ (t : Setting) (O : Reached → Type 0) where
  -- from this point the code comes to an end with O
  pub record Ends (s : State) (m : Machine) (es : List Event) : Type 0 where
    pub steps : ℕ
    pub ends : O (exec_code t.code t.rels t.hosts steps s m es)

  -- from address a with these operands and locals
  abbrev pub EndsAt : ℕ → List Value → List Value → World → ℕ → Around → Type 0
  EndsAt a st ls w n x = Ends w.stored (machine_at a st ls w n x) w.events

  abbrev pub Over : List Event → Stop → Type 0
  Over es stop = O (over (with_line es stop) stop)

  pub quiet_step : (i : Instr) (s : State) (m m' : Machine) (es : List Event) →
      slice_get t.code.instrs m.at ≡ Some i → act t.code t.rels t.hosts (Some i) s m ≡ quiet m' → Ends s m' es → Ends s m es
  quiet_step i s m m' es here does end =
      let go : State → Machine → List Event → Reached = λ s m es. exec_code t.code t.rels t.hosts end.steps s m es in
      record {
        steps = suc end.steps;
        ends = subst O (sym (ap (λ i. after_step (act t.code t.rels t.hosts i s m) s es go) here ∙ ap (λ r. after_step r s es go) does)) end.ends;
      }

  pub says_step : (i : Instr) (s : State) (m m' : Machine) (es : List Event) (bytes : List ℕ) →
      slice_get t.code.instrs m.at ≡ Some i → act t.code t.rels t.hosts (Some i) s m ≡ says bytes m' → Ends s m' (es ++ out bytes ∷ []) → Ends s m es
  says_step i s m m' es bytes here does end =
      let go : State → Machine → List Event → Reached = λ s m es. exec_code t.code t.rels t.hosts end.steps s m es in
      record {
        steps = suc end.steps;
        ends = subst O (sym (ap (λ i. after_step (act t.code t.rels t.hosts i s m) s es go) here ∙ ap (λ r. after_step r s es go) does)) end.ends;
      }

  pub commit_step : (i : Instr) (s : State) (m m' : Machine) (es : List Event) (d : Delta) →
      slice_get t.code.instrs m.at ≡ Some i → act t.code t.rels t.hosts (Some i) s m ≡ commits d m' →
      Ends (apply_of s d) m' (es ++ store (apply_of s d) d ∷ out (commit_text (suc (stores es))) ∷ []) → Ends s m es
  commit_step i s m m' es d here does end =
      let go : State → Machine → List Event → Reached = λ s m es. exec_code t.code t.rels t.hosts end.steps s m es in
      record {
        steps = suc end.steps;
        ends = subst O (sym (ap (λ i. after_step (act t.code t.rels t.hosts i s m) s es go) here ∙ ap (λ r. after_step r s es go) does)) end.ends;
      }

  pub end_step : (i : Instr) (s : State) (m : Machine) (es : List Event) (stop : Stop) →
      slice_get t.code.instrs m.at ≡ Some i → act t.code t.rels t.hosts (Some i) s m ≡ ends stop → Over es stop → Ends s m es
  end_step i s m es stop here does h =
      let go : State → Machine → List Event → Reached = λ s m es. exec_code t.code t.rels t.hosts 0 s m es in
      record {
        steps = 1;
        ends = subst O (sym (ap (λ i. after_step (act t.code t.rels t.hosts i s m) s es go) here ∙ ap (λ r. after_step r s es go) does)) h;
      }

  -- the evaluation ends the run, or goes on with its value
  abbrev pub Then : {A : Type 0} → Ended A → (A → ℕ → Type 0) → List Event → Type 0
  Then (got v n) after es = after v n
  Then (trapped name at) after es = Over es (ended (stopped name at))
  Then spent after es = Over es (ended out_of_turns)

  pub then_map : {A : Type 0} (x : Ended A) (P Q : A → ℕ → Type 0) (es : List Event) → ((v : A) (n : ℕ) → P v n → Q v n) → Then x P es → Then x Q es
  then_map (got v n) P Q es f h = f v n h
  then_map (trapped name at) P Q es f h = h
  then_map spent P Q es f h = h

  pub then_after : {A B : Type 0} (k : ℕ) (x : Ended A) (go : A → ℕ → Ended B) (P : B → ℕ → Type 0) (Q : A → ℕ → Type 0) (es : List Event) → Within k x → ((v : A) (n : ℕ) → n ≤ k → Then (go v n) P es → Q v n) → Then (and_then x go) P es → Then x Q es
  then_after k (got v n) go P Q es le f h = f v n le h
  then_after k (trapped name at) go P Q es le f h = h
  then_after k spent go P Q es le f h = h

  -- how a call of a func ends, where at most this many turns are left
  abbrev pub FuncsRun : List Body_tree → List Body_forms → ℕ → Calls → Type 0
  FuncsRun bodies forms depth calls = (k : ℕ) (fs : List Form) (f : Form) (vs : List Value) (a : ℕ) (st ls : List Value) (w : World) (s : State) (n : ℕ) (x : Around) → n ≤ depth →
      Named bodies forms k true fs (Some f) → AllHave t.rels fs vs → slice_get t.code.instrs a ≡ Some (Call k) → IsStateIn t.rels s → Stands w x s →
      Then (result_of (calls k vs (world_at s) n)) (λ v n. HasForm t.rels f v → EndsAt (a + 1) (v ∷ st) ls w n x) w.events → EndsAt a (onto vs st) ls w n x
