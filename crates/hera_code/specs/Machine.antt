-- What a machine does with one instruction.
use Rattle.std.specs.Prelude.{ℕ, zero, suc, ◌+◌, Bool, true, false, List, [], ◌∷◌, ◌++◌, Option, Some, None, length, nat_lt, nat_le, slice_get}
use Rattle.hera_sets.specs.Rows.{Row, put}
use Rattle.hera_meaning.specs.declared.schemas.RelDecl.{RelDecl}
use Rattle.hera_meaning.specs.declared.scalars.Scalar.{Scalar}
use Rattle.hera_meaning.specs.declared.scalars.Scalar.TheVariants.{Int as int_scalar, Bool as bool_scalar, Text as text_scalar}
use Rattle.hera_meaning.specs.declared.hosts.HostSpec.{HostSpec}
use Rattle.hera_meaning.specs.declared.trees.Op.{Op}
use Rattle.hera_meaning.specs.declared.trees.Shape.{Shape}
use Rattle.hera_meaning.specs.declared.trees.TrapName.{TrapName}
use Rattle.hera_meaning.specs.declared.trees.TrapName.TheVariants.{ApplyFail, WhenFail, Assert as assert_trap}
use Rattle.hera_meaning.specs.Scalars.{is_kind}
use Rattle.hera_meaning.specs.Deltas.{Delta, atoms, is_fail, State, apply_of, smash_of}
use Rattle.hera_meaning.specs.Values.{Value, scalar, tuple, table, delta}
use Rattle.hera_meaning.specs.Hosts.{Hosts, host_at, host_of, host_takes, answer_value}
use Rattle.hera_meaning.specs.Fits.{arity, fits_of, is_delta_of, has_shape}
use Rattle.hera_meaning.specs.Primitives.{Answer, gives, refuses, given}
use Rattle.hera_meaning.specs.Printed.{text_of}
use Rattle.hera_meaning.specs.Worlds.{set_local, locals_from}
use Rattle.hera_meaning.specs.Expressions.{const_value}
use Rattle.hera_meaning.specs.Run.{Finish, finished, stopped, out_of_turns}
use Rattle.hera_code.specs.declared.instrs.Instr.{Instr}
use Rattle.hera_code.specs.declared.instrs.Instr.TheVariants.{Push, Load, Store, Rel, Prim, Host, Jump, Unless, Back, Enter, Leave, Walk as walk_instr, Next, Keep, Gather, Yield, Drop, Call, Ret, RetVal, Print, Apply, Commit, Rollback, Assert, Halt}
use Rattle.hera_code.specs.declared.instrs.BodyInfo.{BodyInfo}
use Rattle.hera_code.specs.declared.instrs.Code.{Code}

-- ---- the state of a machine

-- a walk: the rows to come, the row that the last Next stored, and the gathered set
pub record Walk : Type 0 where
  pub rows : List Row
  pub current : Option Row
  pub gathered : List Row

-- a frame that waits: where it goes on, its operands, locals and walks, and the layers at that time, of
-- which its own are the newest
pub record Frame : Type 0 where
  pub at : ℕ
  pub operands : List Value
  pub locals : List Value
  pub walks : List Walk
  pub layers : List Delta
  pub own : ℕ

-- the address; the operands, locals and walks of the running frame; all layers, and how many of them are
-- its own; the frames that wait; the pending delta; the turns left. In each list the newest stands first,
-- but locals stand by their slots.
pub record Machine : Type 0 where
  pub at : ℕ
  pub operands : List Value
  pub locals : List Value
  pub walks : List Walk
  pub layers : List Delta
  pub own : ℕ
  pub callers : List Frame
  pub pending : Delta
  pub turns : ℕ

-- why a run is over: it ended as a program does, or what an instruction needs was not there
pub data Stop : Type 0 where
  ended : Finish → Stop
  stuck : Stop

-- what an instruction gives: the new machine, with a printed text or a stored delta where there is one, or
-- the end, behind which the machine stays as it was
pub data Step : Type 0 where
  quiet : Machine → Step
  says : List ℕ → Machine → Step
  commits : Delta → Machine → Step
  ends : Stop → Step

-- the state after the layers, from the oldest to the newest
abbrev pub after_layers : State → List Delta → State
after_layers s [] = s
after_layers s (d ∷ ds) = apply_of (after_layers s ds) d

-- the committed state after the pending delta and then the layers
abbrev pub current_state : State → Machine → State
current_state s m = after_layers (apply_of s m.pending) m.layers

-- ---- what is needed, else the run is stuck

abbrev pub needs : {A : Type 0} → Option A → (A → Step) → Step
needs None go = ends stuck
needs (Some a) go = go a

abbrev pub if_step : Bool → Step → Step → Step
if_step true a b = a
if_step false a b = b

abbrev pub needs_that : Bool → Step → Step
needs_that b step = if_step b step (ends stuck)

-- what a value is
abbrev pub as_scalar : Value → Option Scalar
as_scalar (scalar s) = Some s
as_scalar (tuple r) = None
as_scalar (table rows) = None
as_scalar (delta d) = None

abbrev pub scalar_as_bool : Scalar → Option Bool
scalar_as_bool (int_scalar v) = None
scalar_as_bool (bool_scalar b) = Some b
scalar_as_bool (text_scalar t) = None

abbrev pub as_bool : Value → Option Bool
as_bool (scalar s) = scalar_as_bool s
as_bool (tuple r) = None
as_bool (table rows) = None
as_bool (delta d) = None

abbrev pub as_tuple : Value → Option Row
as_tuple (scalar s) = None
as_tuple (tuple r) = Some r
as_tuple (table rows) = None
as_tuple (delta d) = None

abbrev pub as_table : Value → Option (List Row)
as_table (scalar s) = None
as_table (tuple r) = None
as_table (table rows) = Some rows
as_table (delta d) = None

abbrev pub as_delta : Value → Option Delta
as_delta (scalar s) = None
as_delta (tuple r) = None
as_delta (table rows) = None
as_delta (delta d) = Some d

-- the newest operand, and the others
abbrev pub on_top : List Value → (Value → List Value → Step) → Step
on_top [] go = ends stuck
on_top (v ∷ vs) go = go v vs

-- the newest walk, and the others
abbrev pub on_walk : List Walk → (Walk → List Walk → Step) → Step
on_walk [] go = ends stuck
on_walk (w ∷ ws) go = go w ws

-- a number of operands in the order in which they were pushed, and the others
pub record Taken : Type 0 where
  pub args : List Value
  pub rest : List Value

abbrev pub taken : ℕ → List Value → List Value → Option Taken
taken zero args vs = Some (record { args = args; rest = vs })
taken (suc n) args [] = None
taken (suc n) args (v ∷ vs) = taken n (v ∷ args) vs

abbrev pub on_some : ℕ → List Value → (List Value → List Value → Step) → Step
on_some n vs go = needs (taken n [] vs) (λ t. go t.args t.rest)

-- a bool, by which it goes one way or the other
abbrev pub by_bool : Value → Step → Step → Step
by_bool v a b = needs (as_bool v) (λ t. if_step t a b)

-- an address of the code
abbrev pub needs_address : Code → ℕ → Step → Step
needs_address code a step = needs_that (nat_lt a (length code.instrs)) step

-- a slot of the frame
abbrev pub needs_slot : ℕ → Machine → Step → Step
needs_slot i m step = needs (slice_get m.locals i) (λ v. step)

-- spends a turn
abbrev pub spends : ℕ → (ℕ → Step) → Step
spends zero go = ends (ended out_of_turns)
spends (suc n) go = go n

-- a delta of the program's relations; it traps on `fail`
abbrev pub unless_fail : List RelDecl → TrapName → ℕ → Value → (Delta → Step) → Step
unless_fail rels name at v go =
    needs (as_delta v) (λ d. if_step (is_fail d) (ends (ended (stopped name at))) (needs_that (is_delta_of rels d) (go d)))

-- ---- what the instructions do

-- behind the instruction, with these operands
abbrev pub on_with : List Value → Machine → Machine
on_with vs m = record m { at = m.at + 1; operands = vs }

-- one more operand
abbrev pub pushes : Option Value → Machine → Step
pushes o m = needs o (λ v. quiet (on_with (v ∷ m.operands) m))

abbrev pub goes_to : Code → ℕ → Machine → Step
goes_to code a m = needs_address code a (quiet (record m { at = a }))

abbrev pub rows_value : Option (List Row) → Option Value
rows_value None = None
rows_value (Some rows) = Some (table rows)

abbrev pub answer_step : ℕ → Answer → List Value → Machine → Step
answer_step at (gives v) vs m = quiet (on_with (v ∷ vs) m)
answer_step at (refuses name) vs m = ends (ended (stopped name at))

-- an operation, whose operands have to fit
abbrev pub answers : ℕ → Op → List Value → List Value → Machine → Step
answers at op args vs m = needs_that (fits_of op args) (answer_step at (given op args) vs m)

-- a host function, whose argument has to be of the kind that it takes
abbrev pub asks_host : Option HostSpec → Value → List Value → Machine → Step
asks_host o v vs m =
    needs o (λ spec. needs (as_scalar v) (λ s. needs_that (is_kind (host_takes spec) s) (quiet (on_with (answer_value (host_of spec s) ∷ vs) m))))

abbrev pub enters : List RelDecl → ℕ → Value → List Value → Machine → Step
enters rels at v vs m =
    unless_fail rels WhenFail at v (λ d. quiet (record m { at = m.at + 1; operands = vs; layers = d ∷ m.layers; own = suc m.own }))

-- a layer of the frame's own
abbrev pub leaves_layer : ℕ → List Delta → Machine → Step
leaves_layer zero ds m = ends stuck
leaves_layer (suc n) [] m = ends stuck
leaves_layer (suc n) (d ∷ ds) m = quiet (record m { at = m.at + 1; layers = ds; own = n })

abbrev pub opens_walk : Value → List Value → Machine → Step
opens_walk v vs m =
    needs (as_table v) (λ rows. quiet (record m { at = m.at + 1; operands = vs; walks = record { rows = rows; current = None; gathered = [] } ∷ m.walks }))

abbrev pub next_row : ℕ → ℕ → List Row → Walk → List Walk → Machine → Step
next_row i a [] w ws m = quiet (record m { at = a; walks = record w { current = None } ∷ ws })
next_row i a (x ∷ xs) w ws m =
    quiet (record m { at = m.at + 1; locals = set_local m.locals i (tuple x); walks = record w { rows = xs; current = Some x } ∷ ws })

abbrev pub with_current : Option Row → List Row → List Row
with_current None set = set
with_current (Some x) set = put x set

abbrev pub keeps : Value → List Value → Walk → List Walk → Machine → Step
keeps v vs w ws m =
    by_bool v
    (quiet (record m { at = m.at + 1; operands = vs; walks = record w { gathered = with_current w.current w.gathered } ∷ ws }))
    (quiet (on_with vs m))

abbrev pub gathers : Value → List Value → Walk → List Walk → Machine → Step
gathers v vs w ws m =
    needs (as_tuple v) (λ x. quiet (record m { at = m.at + 1; operands = vs; walks = record w { gathered = put x w.gathered } ∷ ws }))

-- the running frame as one that waits, with these operands
abbrev pub frame_of : List Value → Machine → Frame
frame_of vs m = record { at = m.at + 1; operands = vs; locals = m.locals; walks = m.walks; layers = m.layers; own = m.own }

-- the body has to be there, and each parameter has to have its slot
abbrev pub calls_body : Option BodyInfo → Machine → Step
calls_body o m =
    needs o (λ b. needs_that (nat_le b.params b.slots) (on_some b.params m.operands (λ args vs. spends m.turns (λ n.
    quiet (record m { at = b.at; operands = []; locals = locals_from b.slots args; walks = []; own = 0; callers = frame_of vs m ∷ m.callers; turns = n })))))

-- back to the frame that waits, with these further operands
abbrev pub goes_back : List Frame → List Value → Machine → Step
goes_back [] vs m = ends stuck
goes_back (f ∷ fs) vs m =
    quiet (record m { at = f.at; operands = vs ++ f.operands; locals = f.locals; walks = f.walks; layers = f.layers; own = f.own; callers = fs })

-- the value has to have the shape
abbrev pub prints : List RelDecl → Value → List Value → Machine → Shape → Step
prints rels v vs m shape = needs_that (has_shape rels shape v) (says (text_of shape v rels) (on_with vs m))

abbrev pub applies : List RelDecl → ℕ → Value → List Value → Machine → Step
applies rels at v vs m =
    unless_fail rels ApplyFail at v (λ d. quiet (record m { at = m.at + 1; operands = vs; pending = smash_of m.pending d }))

module _ (code : Code) (rels : List RelDecl) (hosts : Hosts) where
  -- one instruction, or none where the address is not there, over the committed state
  abbrev pub act : Option Instr → State → Machine → Step
  act None s m = ends stuck
  act (Some (Push c)) s m = pushes (Some (const_value c)) m
  act (Some (Load i)) s m = pushes (slice_get m.locals i) m
  act (Some (Store i)) s m = on_top m.operands (λ v vs. needs_slot i m (quiet (record m { at = m.at + 1; operands = vs; locals = set_local m.locals i v })))
  act (Some (Rel r)) s m = pushes (rows_value (slice_get (current_state s m) r.0)) m
  act (Some (Prim op at)) s m = on_some (arity op) m.operands (λ args vs. answers at op args vs m)
  act (Some (Host h)) s m = on_top m.operands (λ v vs. asks_host (host_at hosts h) v vs m)
  act (Some (Jump a)) s m = goes_to code a m
  act (Some (Unless a)) s m = on_top m.operands (λ v vs. needs_address code a (by_bool v (quiet (on_with vs m)) (quiet (record m { at = a; operands = vs }))))
  act (Some (Back a)) s m = needs_address code a (spends m.turns (λ n. quiet (record m { at = a; turns = n })))
  act (Some (Enter at)) s m = on_top m.operands (λ v vs. enters rels at v vs m)
  act (Some Leave) s m = leaves_layer m.own m.layers m
  act (Some walk_instr) s m = on_top m.operands (λ v vs. opens_walk v vs m)
  act (Some (Next i a)) s m = on_walk m.walks (λ w ws. needs_slot i m (needs_address code a (next_row i a w.rows w ws m)))
  act (Some Keep) s m = on_walk m.walks (λ w ws. on_top m.operands (λ v vs. keeps v vs w ws m))
  act (Some Gather) s m = on_walk m.walks (λ w ws. on_top m.operands (λ v vs. gathers v vs w ws m))
  act (Some Yield) s m = on_walk m.walks (λ w ws. quiet (record m { at = m.at + 1; operands = table w.gathered ∷ m.operands; walks = ws }))
  act (Some Drop) s m = on_walk m.walks (λ w ws. quiet (record m { at = m.at + 1; walks = ws }))
  act (Some (Call k)) s m = calls_body (slice_get code.bodies k) m
  act (Some Ret) s m = goes_back m.callers [] m
  act (Some RetVal) s m = on_top m.operands (λ v vs. goes_back m.callers (v ∷ []) m)
  act (Some (Print shape)) s m = on_top m.operands (λ v vs. prints rels v vs m shape)
  act (Some (Apply at)) s m = on_top m.operands (λ v vs. applies rels at v vs m)
  act (Some Commit) s m = commits m.pending (record m { at = m.at + 1; pending = atoms [] })
  act (Some Rollback) s m = quiet (record m { at = m.at + 1; pending = atoms [] })
  act (Some (Assert at)) s m = on_top m.operands (λ v vs. by_bool v (quiet (on_with vs m)) (ends (ended (stopped assert_trap at))))
  act (Some Halt) s m = ends (ended finished)

  -- executes the instruction at the machine's address, over a committed state
  abbrev pub code_step : State → Machine → Step
  code_step s m = act (slice_get code.instrs m.at) s m
