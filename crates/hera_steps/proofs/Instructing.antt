-- What the instruction at hand tells.
use Rattle.std.proofs.Common.{◌≡◌, ℕ, suc, ◌+◌, ◌<◌, true, false, List, [], ◌∷◌, length, map, sym, ap, ◌∙◌, subst, refl}
use Rattle.std.specs.Prelude.{Result, IfOk, Option, Some, None, slice_get}
use Rattle.std.specs.declared.alloc.AllocError.{AllocError}
use Rattle.hera_meaning.specs.declared.schemas.RelDecl.{RelDecl}
use Rattle.hera_meaning.specs.Deltas.{State, apply_of, rows_at}
use Rattle.hera_meaning.specs.Values.{Value, table}
use Rattle.hera_meaning.specs.Deltas.{Delta, is_fail, smash_of}
use Rattle.hera_meaning.specs.Fits.{arity, fits_of, is_delta_of}
use Rattle.hera_meaning.specs.Primitives.{Answer, gives, refuses, given}
use Rattle.hera_meaning.specs.declared.trees.Op.{Op}
use Rattle.std.specs.Option.{option_map}
use Rattle.hera_meaning.specs.Run.{stopped}
use Rattle.hera_meaning.specs.declared.trees.TrapName.{TrapName}
use Rattle.hera_sets.proofs.Lists.{filter_past_none}
use Rattle.hera_meaning.specs.Hosts.{Hosts}
use Rattle.hera_code.specs.declared.instrs.Instr.{Instr}
use Rattle.hera_code.specs.declared.instrs.Code.{Code}
use Rattle.hera_code.specs.Machine as machine
use Rattle.hera_code.specs.Machine.{Machine, Step, Taken, quiet, says, commits, ends, ended, stuck, act, needs, taken, on_some, answer_step, answers, needs_that, if_step, as_delta, on_top, unless_fail, enters, applies, pushes, rows_value, current_state, opens_walk, goes_back}
use Rattle.hera_reads.specs.Branched.{under, pending_of, seen_at}
use Rattle.hera_frames.specs.Items.{Item, held, relation, value_at, operands_at}
use Rattle.hera_reads.specs.Walking.{Pace, named, walk_at}
use Rattle.hera_reads.proofs.Naming.{rows_there}
use Rattle.hera_steps.specs.declared.events.Told.{Told}
use Rattle.hera_steps.specs.declared.events.Told.TheVariants.{Quiet, Out, Commit, Ended}
use Rattle.hera_steps.specs.Working.{Work, machine_at}
use Rattle.hera_steps.specs.Telling.{step_at}

-- by what it is
pub told_by : (res : Result Told AllocError) (s : State) (code : Code) (rels : List RelDecl) (hosts : Hosts) (m : Machine) (new : Work) (i j : Instr) → i ≡ j →
    IfOk res (λ told. step_at s told new ≡ act code rels hosts (Some j) s m) → IfOk res (λ told. step_at s told new ≡ act code rels hosts (Some i) s m)
told_by res s code rels hosts m new i j it h = subst (λ k. IfOk res (λ told. step_at s told new ≡ act code rels hosts (Some k) s m)) (sym it) h

-- where another machine at work stands for the same machine of the code
pub told_same : (s : State) (told : Told) (new mid : Work) → ((t : State) → machine_at t new ≡ machine_at t mid) → step_at s told new ≡ step_at s told mid
told_same s Quiet new mid same = ap quiet (same s)
told_same s (Out line) new mid same = ap (says line) (same s)
told_same s (Commit d) new mid same = ap (commits d) (same (apply_of s d))
told_same s (Ended end) new mid same = refl

-- a relation that is named upon the operands
pub named_told : (s : State) (w old : Work) (tip r : ℕ) (ops : List Item) (spare : ℕ) → w ≡ old → tip ≡ w.tip → ops ≡ relation r tip ∷ w.operands → r < length (current_state s (machine_at s w)) →
    quiet (machine_at s (record w { at = w.at + 1; operands = ops; spare = spare })) ≡ pushes (rows_value (slice_get (current_state s (machine_at s old)) r)) (machine_at s old)
named_told s w old tip r ops spare same at is there =
    let m : Machine = machine_at s w in
    ap (λ xs. quiet (machine_at s (record w { at = w.at + 1; operands = xs; spare = spare }))) is
    ∙ ap (λ k. quiet (record m { at = w.at + 1; operands = table (rows_at (seen_at s w.layers k) r) ∷ m.operands })) at
    ∙ ap (λ o. pushes (rows_value o) m) (sym (rows_there (current_state s m) r there))
    ∙ ap (λ (x : Work). pushes (rows_value (slice_get (current_state s (machine_at s x)) r)) (machine_at s x)) same

-- a walk over a relation that is named
pub opened : (s : State) (w old : Work) (r tip spare : ℕ) (vs : List Item) (ws : List Pace) → w ≡ old → w.operands ≡ relation r tip ∷ vs → ws ≡ record { rest = named [] r tip; current = None; gathered = [] } ∷ w.walks →
    quiet (machine_at s (record w { at = w.at + 1; operands = vs; spare = spare; walks = ws })) ≡ on_top (machine_at s old).operands (λ v vs. opens_walk v vs (machine_at s old))
opened s w old r tip spare vs ws same top is =
    ap (λ xs. quiet (machine_at s (record w { at = w.at + 1; operands = vs; spare = spare; walks = xs }))) is
    ∙ ap (λ rows. quiet (record (machine_at s w) { at = w.at + 1; operands = operands_at s w.layers vs; walks = record { rows = rows; current = None; gathered = [] } ∷ map (walk_at s w.layers) w.walks }))
    (filter_past_none (rows_at (seen_at s w.layers tip) r))
    ∙ ap (λ items. on_top (operands_at s w.layers items) (λ v vs. opens_walk v vs (machine_at s w))) (sym top)
    ∙ ap (λ (x : Work). on_top (machine_at s x).operands (λ v vs. opens_walk v vs (machine_at s x))) same

-- ---- instructions that take a delta off the operands

-- a delta of the relations, and not `fail`
taken_delta : (rels : List RelDecl) (name : TrapName) (at : ℕ) (v : Value) (d : Delta) (go : Delta → Step) → as_delta v ≡ Some d → is_fail d ≡ false → is_delta_of rels d ≡ true → unless_fail rels name at v go ≡ go d
taken_delta rels name at v d go is known fits =
    ap (λ o. needs o (λ d. if_step (is_fail d) (ends (ended (stopped name at))) (needs_that (is_delta_of rels d) (go d)))) is
    ∙ ap (λ b. if_step b (ends (ended (stopped name at))) (needs_that (is_delta_of rels d) (go d))) known
    ∙ ap (λ b. needs_that b (go d)) fits

pub enter_told : (s : State) (rels : List RelDecl) (at spare : ℕ) (old here new : Work) (v : Item) (vs : List Item) (d : Delta) → here ≡ old → here.operands ≡ v ∷ vs → as_delta (value_at s here.layers v) ≡ Some d → is_fail d ≡ false → is_delta_of rels d ≡ true →
    machine_at s new ≡ record (machine_at s (record here { operands = vs; spare = spare })) { layers = d ∷ under here.layers here.tip; own = suc here.own } →
    quiet (record (machine_at s new) { at = new.at + 1 }) ≡ on_top (machine_at s old).operands (λ v vs. enters rels at v vs (machine_at s old))
enter_told s rels at spare old here new v vs d same top is known fits new_is =
    ap (λ (m : Machine). quiet (record m { at = m.at + 1 })) new_is
    ∙ sym (taken_delta rels _ at (value_at s here.layers v) d (λ d. quiet (record (machine_at s here) { at = here.at + 1; operands = operands_at s here.layers vs; layers = d ∷ under here.layers here.tip; own = suc here.own })) is known fits)
    ∙ ap (λ items. on_top (operands_at s here.layers items) (λ v vs. enters rels at v vs (machine_at s here))) (sym top)
    ∙ ap (λ (x : Work). on_top (machine_at s x).operands (λ v vs. enters rels at v vs (machine_at s x))) same

pub apply_told : (s : State) (rels : List RelDecl) (at spare : ℕ) (old here new : Work) (v : Item) (vs : List Item) (d : Delta) → here ≡ old → here.operands ≡ v ∷ vs → as_delta (value_at s here.layers v) ≡ Some d → is_fail d ≡ false → is_delta_of rels d ≡ true →
    machine_at s new ≡ record (machine_at s (record here { operands = vs; spare = spare })) { pending = smash_of (pending_of here.layers) d } →
    quiet (record (machine_at s new) { at = new.at + 1 }) ≡ on_top (machine_at s old).operands (λ v vs. applies rels at v vs (machine_at s old))
apply_told s rels at spare old here new v vs d same top is known fits new_is =
    ap (λ (m : Machine). quiet (record m { at = m.at + 1 })) new_is
    ∙ sym (taken_delta rels _ at (value_at s here.layers v) d (λ d. quiet (record (machine_at s here) { at = here.at + 1; operands = operands_at s here.layers vs; pending = smash_of (pending_of here.layers) d })) is known fits)
    ∙ ap (λ items. on_top (operands_at s here.layers items) (λ v vs. applies rels at v vs (machine_at s here))) (sym top)
    ∙ ap (λ (x : Work). on_top (machine_at s x).operands (λ v vs. applies rels at v vs (machine_at s x))) same

-- ---- a return with a value

abbrev quiet_of : Machine → Step → Machine
quiet_of b (quiet m) = m
quiet_of b (says line m) = m
quiet_of b (commits d m) = m
quiet_of b (ends stop) = b

back_more : (fs : List machine.Frame) (v : Value) (m b : Machine) → goes_back fs [] m ≡ quiet b → quiet (record b { operands = v ∷ b.operands }) ≡ goes_back fs (v ∷ []) m
back_more [] v m b e = cc
back_more (f ∷ fs) v m b e = ap (λ (x : Machine). quiet (record x { operands = v ∷ x.operands })) (sym (ap (quiet_of b) e))

-- the operands of the frame that is left don't matter
back_any : (fs : List machine.Frame) (more xs : List Value) (m : Machine) → goes_back fs more (record m { operands = xs }) ≡ goes_back fs more m
back_any [] more xs m = refl
back_any (f ∷ fs) more xs m = refl

pub returned : (s : State) (old here back : Work) (v : Value) (vs : List Item) (spare more : ℕ) (ops : List Item) → here ≡ old → operands_at s here.layers here.operands ≡ v ∷ operands_at s here.layers vs →
    goes_back (machine_at s (record here { operands = vs; spare = spare })).callers [] (machine_at s (record here { operands = vs; spare = spare })) ≡ quiet (machine_at s back) → ops ≡ held v ∷ back.operands →
    quiet (machine_at s (record back { operands = ops; spare = more })) ≡ on_top (machine_at s old).operands (λ v vs. goes_back (machine_at s old).callers (v ∷ []) (machine_at s old))
returned s old here back v vs spare more ops same top went is =
    ap (λ xs. quiet (machine_at s (record back { operands = xs; spare = more }))) is
    ∙ back_more (machine_at s here).callers v (machine_at s (record here { operands = vs; spare = spare })) (machine_at s back) went
    ∙ back_any (machine_at s here).callers (v ∷ []) (operands_at s here.layers vs) (machine_at s here)
    ∙ ap (λ xs. on_top xs (λ v vs. goes_back (machine_at s here).callers (v ∷ []) (machine_at s here))) (sym top)
    ∙ ap (λ (x : Work). on_top (machine_at s x).operands (λ v vs. goes_back (machine_at s x).callers (v ∷ []) (machine_at s x))) same

-- ---- instructions that take a number of operands off

-- what was taken, and what is left
abbrev pub taken_with : List Value → List Value → Taken
taken_with rest args = record { args = args; rest = rest }

-- the operands behind which an operation answers don't matter
answer_any : (at : ℕ) (a : Answer) (vs xs : List Value) (m : Machine) → answer_step at a vs (record m { operands = xs }) ≡ answer_step at a vs m
answer_any at (gives v) vs xs m = refl
answer_any at (refuses name) vs xs m = refl

-- what a step tells, by an equation
pub then_told : (res : Result Told AllocError) (s : State) (new : Work) (x y : Step) → IfOk res (λ told. step_at s told new ≡ x) → x ≡ y → IfOk res (λ told. step_at s told new ≡ y)
then_told res s new x y h e = subst (λ z. IfOk res (λ told. step_at s told new ≡ z)) e h

module _ (s : State) (op : Op) (at n spare : ℕ) (old here : Work) (vs : List Item) (r : Option (List Value)) (same : here ≡ old) (count : n ≡ arity op)
    (took : taken n [] (operands_at s here.layers here.operands) ≡ option_map (taken_with (operands_at s here.layers vs)) r) where
  pub few_told : r ≡ None → ends stuck ≡ on_some (arity op) (machine_at s old).operands (λ args vs. answers at op args vs (machine_at s old))
  few_told e =
      ap (λ o. needs o (λ t. answers at op t.args t.rest (machine_at s here))) (sym (took ∙ ap (option_map (taken_with (operands_at s here.layers vs))) e))
      ∙ ap (λ k. on_some k (operands_at s here.layers here.operands) (λ args vs. answers at op args vs (machine_at s here))) count
      ∙ ap (λ (x : Work). on_some (arity op) (machine_at s x).operands (λ args vs. answers at op args vs (machine_at s x))) same

  pub all_told : (args : List Value) → r ≡ Some args → answers at op args (operands_at s here.layers vs) (machine_at s (record here { operands = vs; spare = spare })) ≡ on_some (arity op) (machine_at s old).operands (λ args vs. answers at op args vs (machine_at s old))
  all_told args e =
      ap (needs_that (fits_of op args)) (answer_any at (given op args) (operands_at s here.layers vs) (operands_at s here.layers vs) (machine_at s here))
      ∙ ap (λ o. needs o (λ t. answers at op t.args t.rest (machine_at s here))) (sym (took ∙ ap (option_map (taken_with (operands_at s here.layers vs))) e))
      ∙ ap (λ k. on_some k (operands_at s here.layers here.operands) (λ args vs. answers at op args vs (machine_at s here))) count
      ∙ ap (λ (x : Work). on_some (arity op) (machine_at s x).operands (λ args vs. answers at op args vs (machine_at s x))) same
