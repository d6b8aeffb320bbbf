-- A smash or a merge, and the slot that takes what it gives.
use Rattle.std.proofs.Common.{◌≡◌, ℕ, zero, suc, ◌+◌, true, List, [], ◌∷◌, Option, None, Some, refl, sym, ap, ◌∙◌}
use Rattle.std.specs.Prelude.{slice_get}
use Rattle.std.specs.Option.{is_some}
use Rattle.hera_meaning.specs.declared.schemas.RelDecl.{RelDecl}
use Rattle.hera_meaning.specs.declared.trees.Op.{Op}
use Rattle.hera_meaning.specs.declared.trees.Op.TheVariants as ops
use Rattle.hera_meaning.specs.Deltas.{State, Delta, smash_of, merge_of}
use Rattle.hera_meaning.specs.Hosts.{Hosts}
use Rattle.hera_meaning.specs.Values.{Value, scalar, tuple, table, delta}
use Rattle.hera_meaning.specs.Worlds.{set_local}
use Rattle.hera_meaning.specs.Fits.{arity, fits_of}
use Rattle.hera_meaning.specs.Primitives.{gives, given}
use Rattle.hera_code.specs.declared.instrs.Code.{Code}
use Rattle.hera_code.specs.Machine.{Machine, Step, quiet, needs, needs_that, on_top, on_some, answers, answer_step, needs_slot, act, code_step}
use Rattle.hera_frames.specs.Items.{Item, held, relation, are_deltas, operands_at}
use Rattle.hera_steps.specs.declared.events.Told.{Told}
use Rattle.hera_steps.specs.declared.events.Told.TheVariants as told
use Rattle.hera_machine.specs.Pairs.{IsJoinAt, joins, behind, stored_in}
use Rattle.hera_machine.specs.Standing.{GoesOn}
use Rattle.hera_steps.specs.Telling.{step_at}
use Rattle.hera_steps.specs.Working.{Work, machine_at}
use Rattle.hera_machine.proofs.Quietly.{one_on, goes_on, fewer}

-- ---- what is joined

record Joined (op : Op) (a b : Delta) : Type 0 where
  value : Value
  takes : arity op ≡ 2
  fit : fits_of op (delta a ∷ delta b ∷ []) ≡ true
  answer : given op (delta a ∷ delta b ∷ []) ≡ gives value

joined : (op : Op) (a b : Delta) → joins op ≡ true → Joined op a b
joined ops.Smash a b h = record { value = delta (smash_of a b); takes = refl; fit = refl; answer = refl }
joined ops.Merge a b h = record { value = delta (merge_of a b); takes = refl; fit = refl; answer = refl }
joined op a b h = cc

record TwoDeltas (items : List Item) : Type 0 where
  before : Delta
  newest : Delta
  rest : List Item
  is : items ≡ held (delta newest) ∷ held (delta before) ∷ rest

two_deltas : (items : List Item) → are_deltas items ≡ true → TwoDeltas items
two_deltas (held (delta b) ∷ held (delta a) ∷ items) h = record { before = a; newest = b; rest = items; is = refl }
two_deltas [] h = cc
two_deltas (relation r k ∷ items) h = cc
two_deltas (held (scalar c) ∷ items) h = cc
two_deltas (held (tuple row) ∷ items) h = cc
two_deltas (held (table rows) ∷ items) h = cc
two_deltas (held (delta b) ∷ []) h = cc
two_deltas (held (delta b) ∷ relation r k ∷ items) h = cc
two_deltas (held (delta b) ∷ held (scalar c) ∷ items) h = cc
two_deltas (held (delta b) ∷ held (tuple row) ∷ items) h = cc
two_deltas (held (delta b) ∷ held (table rows) ∷ items) h = cc

-- a smash or a merge of two deltas is quiet
computes : (m : Machine) (op : Op) (at : ℕ) (a b : Delta) (vs : List Value) (g : Joined op a b) → m.operands ≡ delta b ∷ delta a ∷ vs →
    on_some (arity op) m.operands (λ args vs. answers at op args vs m) ≡ quiet (record m { at = m.at + 1; operands = g.value ∷ vs })
computes m op at a b vs g e =
    ap (λ xs. on_some (arity op) xs (λ args vs. answers at op args vs m)) e
    ∙ ap (λ n. on_some n (delta b ∷ delta a ∷ vs) (λ args vs. answers at op args vs m)) g.takes
    ∙ ap (λ t. needs_that t (answer_step at (given op (delta a ∷ delta b ∷ [])) vs m)) g.fit
    ∙ ap (λ r. answer_step at r vs m) g.answer

-- ---- slots

set_twice : (xs : List Value) (i : ℕ) (u v : Value) → set_local (set_local xs i u) i v ≡ set_local xs i v
set_twice [] i u v = refl
set_twice (x ∷ xs) zero u v = refl
set_twice (x ∷ xs) (suc i) u v = ap (λ ys. x ∷ ys) (set_twice xs i u v)

still_there : (xs : List Value) (i : ℕ) (u : Value) → is_some (slice_get xs i) ≡ true → is_some (slice_get (set_local xs i u) i) ≡ true
still_there [] i u h = h
still_there (x ∷ xs) zero u h = refl
still_there (x ∷ xs) (suc i) u h = still_there xs i u h

slot_needed : (o : Option Value) (t : Step) → is_some o ≡ true → needs o (λ v. t) ≡ t
slot_needed None t h = cc
slot_needed (Some v) t h = refl

-- ---- both

-- what told a quiet step
pub quietly_told : (s : State) (t : Told) (w : Work) (m : Machine) → step_at s t w ≡ quiet m → machine_at s w ≡ m
quietly_told s told.Quiet w m e = cc
quietly_told s (told.Out line) w m e = cc
quietly_told s (told.Commit d) w m e = cc
quietly_told s (told.Ended end) w m e = cc

-- the machine behind both, from that whose slot has another value first
stores : (m : Machine) (op : Op) (at i : ℕ) (u : Value) (a b : Delta) (vs : List Value) → joins op ≡ true → m.operands ≡ delta b ∷ delta a ∷ vs → is_some (slice_get m.locals i) ≡ true →
    behind (stored_in i) (on_some (arity op) m.operands (λ args vs. answers at op args vs (record m { locals = set_local m.locals i u }))) ≡ behind (stored_in i) (on_some (arity op) m.operands (λ args vs. answers at op args vs m))
stores m op at i u a b vs h e there =
    let g = joined op a b h in
    let n : Machine = record m { locals = set_local m.locals i u } in
    ap (behind (stored_in i)) (computes n op at a b vs g e)
    ∙ slot_needed (slice_get (set_local m.locals i u) i) _ (still_there m.locals i u there)
    ∙ ap (λ xs. quiet (record m { at = m.at + 1 + 1; operands = vs; locals = xs })) (set_twice m.locals i u g.value)
    ∙ sym (slot_needed (slice_get m.locals i) _ there)
    ∙ sym (ap (behind (stored_in i)) (computes m op at a b vs g e))

module _ (s : State) (op : Op) (at i : ℕ) (u : Value) (old here mid new : Work) (first second : Told) (same : here ≡ record old { locals = set_local old.locals i u })
    (computed : step_at s first mid ≡ on_some (arity op) (machine_at s here).operands (λ args vs. answers at op args vs (machine_at s here)))
    (stored : step_at s second new ≡ on_top (machine_at s mid).operands (λ v vs. needs_slot i (machine_at s mid) (quiet (record (machine_at s mid) { at = (machine_at s mid).at + 1; operands = vs; locals = set_local (machine_at s mid).locals i v })))) where
  pub joined_told : joins op ≡ true → are_deltas old.operands ≡ true → is_some (slice_get old.locals i) ≡ true →
      quiet (machine_at s new) ≡ behind (stored_in i) (on_some (arity op) (machine_at s old).operands (λ args vs. answers at op args vs (machine_at s old)))
  joined_told h deltas there =
      let two = two_deltas old.operands deltas in
      let vs : List Value = operands_at s old.layers two.rest in
      let g = joined op two.before two.newest h in
      let m : Machine = machine_at s old in
      let n : Machine = record m { locals = set_local m.locals i u } in
      let e : m.operands ≡ delta two.newest ∷ delta two.before ∷ vs = ap (operands_at s old.layers) two.is in
      let over : machine_at s here ≡ n = ap (machine_at s) same in
      let one : step_at s first mid ≡ quiet (record n { at = n.at + 1; operands = g.value ∷ vs }) =
      computed ∙ ap (λ (x : Machine). on_some (arity op) x.operands (λ args vs. answers at op args vs x)) over ∙ computes n op at two.before two.newest vs g e in
      let between : machine_at s mid ≡ record n { at = n.at + 1; operands = g.value ∷ vs } = quietly_told s first mid _ one in
      let two_told : step_at s second new ≡ behind (stored_in i) (quiet (record n { at = n.at + 1; operands = g.value ∷ vs })) = stored ∙ ap (λ (x : Machine). behind (stored_in i) (quiet x)) between in
      let stored_told : step_at s second new ≡ quiet (record m { at = m.at + 1 + 1; operands = vs; locals = set_local (set_local m.locals i u) i g.value }) =
      two_told ∙ slot_needed (slice_get (set_local m.locals i u) i) _ (still_there m.locals i u there) in
      ap quiet (quietly_told s second new _ stored_told)
      ∙ sym (slot_needed (slice_get (set_local m.locals i u) i) _ (still_there m.locals i u there))
      ∙ sym (ap (behind (stored_in i)) (computes n op at two.before two.newest vs g e))
      ∙ stores m op at i u two.before two.newest vs h e there

-- ---- two instructions of the code

module _ (code : Code) (rels : List RelDecl) (hosts : Hosts) (s : State) (old new : Work) (op : Op) (at i : ℕ) (a : IsJoinAt code old op at i)
    (done : quiet (machine_at s new) ≡ behind (stored_in i) (on_some (arity op) (machine_at s old).operands (λ args vs. answers at op args vs (machine_at s old)))) where
  abbrev m : Machine
  m = machine_at s old

  two : TwoDeltas old.operands
  two = two_deltas old.operands a.deltas

  g : Joined op two.before two.newest
  g = joined op two.before two.newest a.joins

  abbrev mid : Machine
  mid = record m { at = m.at + 1; operands = g.value ∷ operands_at s old.layers two.rest }

  first : quiet mid ≡ code_step code rels hosts s m
  first = sym (ap (λ o. act code rels hosts o s m) a.here ∙ computes m op at two.before two.newest (operands_at s old.layers two.rest) g (ap (operands_at s old.layers) two.is))

  second : quiet (machine_at s new) ≡ code_step code rels hosts s mid
  second = done ∙ ap (behind (stored_in i)) (computes m op at two.before two.newest (operands_at s old.layers two.rest) g (ap (operands_at s old.layers) two.is)) ∙ sym (ap (λ o. act code rels hosts o s mid) a.next)

  pub stored_on : GoesOn 0 code rels hosts s (machine_at s old) (machine_at s new)
  stored_on = fewer code rels hosts s 1 m (machine_at s new) (goes_on code rels hosts s 1 1 m mid (machine_at s new) (one_on code rels hosts s m mid first) (one_on code rels hosts s mid (machine_at s new) second))
