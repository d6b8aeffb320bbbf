-- What a step leaves: of forward code less turns, frames or way to the code's end, and the pending delta unless it changes that.
use Rattle.std.proofs.Common.{◌≡◌, ℕ, zero, suc, ◌+◌, ◌*◌, ◌<◌, ◌≤◌, Bool, true, false, List, [], ◌∷◌, length, Option, Some, None, refl, ap, arith}
use Rattle.std.proofs.Math.Nat.{mul-le-mul_right}
use Rattle.std.specs.Prelude.{slice_get, nat_lt, nat_le}
use Rattle.std.proofs.lemmas.Option.{slice_get_within}
use Rattle.hera_sets.specs.Rows.{Row}
use Rattle.hera_meaning.specs.declared.schemas.RelDecl.{RelDecl}
use Rattle.hera_meaning.specs.declared.trees.TrapName.{TrapName}
use Rattle.hera_meaning.specs.declared.trees.TrapName.TheVariants.{WhenFail, ApplyFail}
use Rattle.hera_meaning.specs.Scalars.{is_kind}
use Rattle.hera_meaning.specs.Deltas.{State, Delta, atoms, is_fail}
use Rattle.hera_meaning.specs.Values.{Value}
use Rattle.hera_meaning.specs.Hosts.{Hosts, host_at, host_takes}
use Rattle.hera_meaning.specs.Fits.{arity, fits_of, is_delta_of, has_shape}
use Rattle.hera_meaning.specs.Primitives.{Answer, gives, refuses, given}
use Rattle.hera_code.specs.declared.instrs.Code.{Code}
use Rattle.hera_code.specs.declared.instrs.Instr.{Instr}
use Rattle.hera_code.specs.declared.instrs.Instr.TheVariants.{Push, Load, Store, Rel, Prim, Host, Jump, Unless, Back, Enter, Leave, Walk as walk_instr, Next, Keep, Gather, Yield, Drop, Call, Ret, RetVal, Print, Apply, Commit, Rollback, Assert, Halt}
use Rattle.hera_code.specs.Forward.{GoesForward, Forward}
use Rattle.hera_code.specs.Machine.{Walk, Frame, Machine, stuck, Step, quiet, says, commits, ends, current_state, needs, if_step, needs_that, as_scalar, as_bool, as_tuple, as_table, as_delta, on_top, on_walk, taken, spends, rows_value, answer_step, leaves_layer, next_row, goes_back, unless_fail, act}
use Rattle.hera_steps.specs.Descends.{Descends, fewer_turns, fewer_frames, nearer_end, left, IsLower}

-- an instruction that neither applies a delta nor rolls back
abbrev pub KeepsPending : Instr → Type 0
KeepsPending (Apply place) = ⊥
KeepsPending Rollback = ⊥
KeepsPending i = Unit {0}

-- what a step that goes on leaves: less of forward code of length l, and the pending delta where it is kept
pub record Leaves (forward kept : Type 0) (l : ℕ) (old new : Machine) : Type 0 where
  pub lower : forward → Descends l old new
  pub pending : kept → new.pending ≡ old.pending

-- and a step that stores a delta stores the pending one
abbrev pub Sinks : Type 0 → Type 0 → ℕ → Machine → Step → Type 0
Sinks forward kept l old (quiet m) = Leaves forward kept l old m
Sinks forward kept l old (says bs m) = Leaves forward kept l old m
Sinks forward kept l old (commits d m) = (d ≡ old.pending) × (m.pending ≡ atoms []) × (forward → Descends l old m)
Sinks forward kept l old (ends stop) = Unit {0}

module _ (code : Code) (rels : List RelDecl) (hosts : Hosts) (m : Machine) (forward kept : Type 0) (in_code : forward → m.at < length code.instrs) where
  abbrev L : ℕ
  L = length code.instrs

  abbrev Falls : Step → Type 0
  Falls t = Sinks forward kept L m t

  falls_needs : {A : Type 0} (o : Option A) (go : A → Step) → ((a : A) → Falls (go a)) → Falls (needs o go)
  falls_needs None go h = tt
  falls_needs (Some a) go h = h a

  falls_if : (b : Bool) (s t : Step) → Falls s → Falls t → Falls (if_step b s t)
  falls_if true s t g h = g
  falls_if false s t g h = h

  falls_that : (b : Bool) (s : Step) → Falls s → Falls (needs_that b s)
  falls_that b s h = falls_if b s (ends stuck) h tt

  falls_top : (vs : List Value) (go : Value → List Value → Step) → ((v : Value) (vs : List Value) → Falls (go v vs)) → Falls (on_top vs go)
  falls_top [] go h = tt
  falls_top (v ∷ vs) go h = h v vs

  falls_walk : (ws : List Walk) (go : Walk → List Walk → Step) → ((w : Walk) (ws : List Walk) → Falls (go w ws)) → Falls (on_walk ws go)
  falls_walk [] go h = tt
  falls_walk (w ∷ ws) go h = h w ws

  falls_spends : (turns : ℕ) (go : ℕ → Step) → turns ≡ m.turns → ((k : ℕ) → k < m.turns → Falls (go k)) → Falls (spends turns go)
  falls_spends zero go e h = tt
  falls_spends (suc k) go e h = h k (omega (arith, e))

  falls_back : (fs : List Frame) (vs : List Value) → fs ≡ m.callers → Falls (goes_back fs vs m)
  falls_back [] vs e = tt
  falls_back (f ∷ fs) vs e =
      let long : suc (length fs) ≡ length m.callers = ap (λ xs. length xs) e in
      record { lower = λ g. fewer_frames refl (omega (arith, long)); pending = λ k. refl }

  -- an instruction further, in the same frame
  further : (new : Machine) → new.turns ≡ m.turns → length new.callers ≡ length m.callers → new.at ≡ m.at + 1 → forward → Descends L m new
  further new t c e f = let here : m.at < L = in_code f in nearer_end t c (omega (arith, here, e))

  ahead : (new : Machine) → new.turns ≡ m.turns → length new.callers ≡ length m.callers → new.at ≡ m.at + 1 → new.pending ≡ m.pending → Leaves forward kept L m new
  ahead new t c e p = record { lower = further new t c e; pending = λ k. p }

  changed : (new : Machine) → new.turns ≡ m.turns → length new.callers ≡ length m.callers → new.at ≡ m.at + 1 → (kept → ⊥) → Leaves forward kept L m new
  changed new t c e none = record { lower = further new t c e; pending = λ k. absurd (none k) }

  landed : (new : Machine) (b : ℕ) → (forward → m.at < b) → new.turns ≡ m.turns → length new.callers ≡ length m.callers → new.at ≡ b → new.pending ≡ m.pending → Leaves forward kept L m new
  landed new b on t c e p = record {
    lower = λ f. let here : m.at < L = in_code f in let past : m.at < b = on f in nearer_end t c (omega (arith, here, past, e));
    pending = λ k. p;
  }

  turned : (new : Machine) → new.turns < m.turns → length new.callers ≤ length m.callers + 1 → new.pending ≡ m.pending → Leaves forward kept L m new
  turned new t c p = record { lower = λ f. fewer_turns t c; pending = λ k. p }

  falls_answer : (place : ℕ) (r : Answer) (vs : List Value) → Falls (answer_step place r vs m)
  falls_answer place (gives v) vs = ahead _ refl refl refl refl
  falls_answer place (refuses name) vs = tt

  falls_fail : (name : TrapName) (place : ℕ) (v : Value) (go : Delta → Step) → ((d : Delta) → Falls (go d)) → Falls (unless_fail rels name place v go)
  falls_fail name place v go h = falls_needs (as_delta v) _ (λ d. falls_if (is_fail d) _ _ tt (falls_that (is_delta_of rels d) (go d) (h d)))

  falls_leaves : (own : ℕ) (ds : List Delta) → Falls (leaves_layer own ds m)
  falls_leaves zero ds = tt
  falls_leaves (suc n) [] = tt
  falls_leaves (suc n) (d ∷ ds) = ahead _ refl refl refl refl

  falls_next : (i b : ℕ) (rows : List Row) (w : Walk) (ws : List Walk) → (forward → m.at < b) → Falls (next_row i b rows w ws m)
  falls_next i b [] w ws f = landed _ b f refl refl refl refl
  falls_next i b (x ∷ xs) w ws f = ahead _ refl refl refl refl

  sinks_by : (i : Instr) (s : State) → (forward → GoesForward m.at i) → (kept → KeepsPending i) → Sinks forward kept L m (act code rels hosts (Some i) s m)
  sinks_by (Push c) s f g = ahead _ refl refl refl refl
  sinks_by (Load i) s f g = falls_needs (slice_get m.locals i) _ (λ v. ahead _ refl refl refl refl)
  sinks_by (Store i) s f g = falls_top m.operands _ (λ v vs. falls_needs (slice_get m.locals i) _ (λ u. ahead _ refl refl refl refl))
  sinks_by (Rel r) s f g = falls_needs (rows_value (slice_get (current_state s m) r.0)) _ (λ v. ahead _ refl refl refl refl)
  sinks_by (Prim op place) s f g = falls_needs (taken (arity op) [] m.operands) _ (λ t. falls_that (fits_of op t.args) _ (falls_answer place (given op t.args) t.rest))
  sinks_by (Host h) s f g = falls_top m.operands _ (λ v vs. falls_needs (host_at hosts h) _ (λ spec. falls_needs (as_scalar v) _ (λ q. falls_that (is_kind (host_takes spec) q) _ (ahead _ refl refl refl refl))))
  sinks_by (Jump b) s f g = falls_that (nat_lt b L) _ (landed _ b f refl refl refl refl)
  sinks_by (Unless b) s f g = falls_top m.operands _ (λ v vs. falls_that (nat_lt b L) _ (falls_needs (as_bool v) _ (λ c. falls_if c _ _ (ahead _ refl refl refl refl) (landed _ b f refl refl refl refl))))
  sinks_by (Back b) s f g = falls_that (nat_lt b L) _ (falls_spends m.turns _ refl (λ n less. turned _ less (omega arith) refl))
  sinks_by (Enter place) s f g = falls_top m.operands _ (λ v vs. falls_fail WhenFail place v _ (λ d. ahead _ refl refl refl refl))
  sinks_by Leave s f g = falls_leaves m.own m.layers
  sinks_by walk_instr s f g = falls_top m.operands _ (λ v vs. falls_needs (as_table v) _ (λ rows. ahead _ refl refl refl refl))
  sinks_by (Next i b) s f g = falls_walk m.walks _ (λ w ws. falls_needs (slice_get m.locals i) _ (λ v. falls_that (nat_lt b L) _ (falls_next i b w.rows w ws f)))
  sinks_by Keep s f g = falls_walk m.walks _ (λ w ws. falls_top m.operands _ (λ v vs. falls_needs (as_bool v) _ (λ c. falls_if c _ _ (ahead _ refl refl refl refl) (ahead _ refl refl refl refl))))
  sinks_by Gather s f g = falls_walk m.walks _ (λ w ws. falls_top m.operands _ (λ v vs. falls_needs (as_tuple v) _ (λ x. ahead _ refl refl refl refl)))
  sinks_by Yield s f g = falls_walk m.walks _ (λ w ws. ahead _ refl refl refl refl)
  sinks_by Drop s f g = falls_walk m.walks _ (λ w ws. ahead _ refl refl refl refl)
  sinks_by (Call k) s f g =
      falls_needs (slice_get code.bodies k) _ (λ b. falls_that (nat_le b.params b.slots) _ (falls_needs (taken b.params [] m.operands) _ (λ t.
      falls_spends m.turns _ refl (λ n less. turned _ less (omega arith) refl))))
  sinks_by Ret s f g = falls_back m.callers [] refl
  sinks_by RetVal s f g = falls_top m.operands _ (λ v vs. falls_back m.callers (v ∷ []) refl)
  sinks_by (Print shape) s f g = falls_top m.operands _ (λ v vs. falls_that (has_shape rels shape v) _ (ahead _ refl refl refl refl))
  sinks_by (Apply place) s f g = falls_top m.operands _ (λ v vs. falls_fail ApplyFail place v _ (λ d. changed _ refl refl refl g))
  sinks_by Commit s f g = (refl, refl, further _ refl refl refl)
  sinks_by Rollback s f g = changed _ refl refl refl g
  sinks_by (Assert place) s f g = falls_top m.operands _ (λ v vs. falls_needs (as_bool v) _ (λ c. falls_if c _ _ (ahead _ refl refl refl refl) tt))
  sinks_by Halt s f g = tt

-- where the code goes forward at the instruction at hand
abbrev pub IsForward : ℕ → Machine → Instr → Type 0
IsForward l m i = (m.at < l) × GoesForward m.at i

pub sinks_act : (code : Code) (rels : List RelDecl) (hosts : Hosts) (i : Instr) (s : State) (m : Machine) → Sinks (IsForward (length code.instrs) m i) (KeepsPending i) (length code.instrs) m (act code rels hosts (Some i) s m)
sinks_act code rels hosts i s m = sinks_by code rels hosts m (IsForward (length code.instrs) m i) (KeepsPending i) (λ f. f.0) i s (λ f. f.1) (λ k. k)

-- what descends is less as a number, from an address of the code
pub descends_left : (l : ℕ) (old new : Machine) → old.at < l → Descends l old new → left l new < left l old
descends_left l old new in_code (fewer_turns t c) =
    let turns : suc new.turns * (l + l) ≤ old.turns * (l + l) = mul-le-mul_right (l + l) t in
    let frames : length new.callers * l ≤ suc (length old.callers) * l = let few : length new.callers ≤ suc (length old.callers) = omega (arith, c) in mul-le-mul_right l few in
    omega (arith, turns, frames, in_code)
descends_left l old new in_code (fewer_frames t c) =
    let frames : suc (length new.callers) * l ≤ length old.callers * l = mul-le-mul_right l c in
    let turns : new.turns * (l + l) ≡ old.turns * (l + l) = ap (λ n. n * (l + l)) t in
    omega (arith, turns, frames, in_code)
descends_left l old new in_code (nearer_end t c d) =
    let turns : new.turns * (l + l) ≡ old.turns * (l + l) = ap (λ n. n * (l + l)) t in
    let frames : length new.callers * l ≡ length old.callers * l = ap (λ n. n * l) c in
    omega (arith, turns, frames, d)

-- a step of forward code that does not end
abbrev pub Lowers : ℕ → Machine → Step → Type 0
Lowers l old (quiet m) = IsLower l old m
Lowers l old (says bs m) = IsLower l old m
Lowers l old (commits d m) = IsLower l old m
Lowers l old (ends stop) = Unit {0}

lower_by : (l : ℕ) (old new : Machine) → old.at < l → Descends l old new → IsLower l old new
lower_by l old new lt h = record { descends = h; less_left = descends_left l old new lt h }

lowers_by : (f k : Type 0) (l : ℕ) (old : Machine) (t : Step) → old.at < l → f → Sinks f k l old t → Lowers l old t
lowers_by f k l old (quiet m) lt p h = lower_by l old m lt (h.lower p)
lowers_by f k l old (says bs m) lt p h = lower_by l old m lt (h.lower p)
lowers_by f k l old (commits d m) lt p h = lower_by l old m lt (h.2 p)
lowers_by f k l old (ends stop) lt p h = tt

pub step_lowers : (code : Code) (rels : List RelDecl) (hosts : Hosts) → Forward code → (o : Option Instr) (s : State) (m : Machine) → slice_get code.instrs m.at ≡ o → Lowers (length code.instrs) m (act code rels hosts o s m)
step_lowers code rels hosts forward None s m e = tt
step_lowers code rels hosts forward (Some i) s m e =
    let lt : m.at < length code.instrs = slice_get_within code.instrs m.at i e in
    lowers_by (IsForward (length code.instrs) m i) (KeepsPending i) (length code.instrs) m (act code rels hosts (Some i) s m) lt (lt, forward m.at i e) (sinks_act code rels hosts i s m)
