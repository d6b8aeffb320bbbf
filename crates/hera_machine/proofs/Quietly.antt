-- Instructions that are quiet.
use Rattle.std.proofs.Common.{Bool, true, false, Option, None, ◌≡◌, ℕ, ℤ, suc, ◌+◌, ◌≤◌, List, [], ◌∷◌, length, Some, refl, sym, ap, ◌∙◌, subst, arith, zero-add}
use Rattle.std.specs.Prelude.{slice_get}
use Rattle.hera_meaning.specs.declared.schemas.RelDecl.{RelDecl}
use Rattle.hera_meaning.specs.Deltas.{State}
use Rattle.hera_meaning.specs.Hosts.{Hosts}
use Rattle.hera_meaning.specs.declared.scalars.Scalar.TheVariants.{Int as int_scalar}
use Rattle.hera_meaning.specs.declared.trees.Const.TheVariants.{Scalar as scalar_const}
use Rattle.hera_meaning.specs.declared.trees.Op.{Op}
use Rattle.hera_meaning.specs.Values.{Value, int_value}
use Rattle.hera_code.specs.declared.instrs.Code.{Code}
use Rattle.hera_code.specs.declared.instrs.Instr.{Instr}
use Rattle.hera_code.specs.declared.instrs.Instr.TheVariants.{Push, Load, Prim}
use Rattle.hera_meaning.specs.Fits.{arity, fits_of}
use Rattle.hera_meaning.specs.Primitives.{Answer, gives, refuses, given}
use Rattle.hera_code.specs.Forward.{Forward}
use Rattle.hera_code.specs.Machine.{Machine, Step, quiet, says, commits, ends, Taken, taken, needs, needs_that, on_some, answers, answer_step, on_with, pushes, act, code_step}
use Rattle.hera_code.specs.Reached.{after_step, exec_code}
use Rattle.hera_flat.specs.declared.flat.Flat.{Flat}
use Rattle.hera_flat.specs.Flats.{flat_value, IsGiven}
use Rattle.hera_steps.specs.Descends.{left}
use Rattle.hera_machine.specs.Pairs.{with_value, ahead, behind}
use Rattle.hera_steps.specs.Working.{Work, machine_at}
use Rattle.hera_steps.proofs.Lowered.{Lowers, step_lowers}
use Rattle.hera_steps.proofs.Nearing.{left_over}
use Rattle.hera_machine.specs.Standing.{Standing, machine_over, GoesQuietly, GoesOn}

-- whatever was answered
pub by_answer : {A : Type 0} (answer : Bool) → (answer ≡ true → A) → (answer ≡ false → A) → A
by_answer true done kept = done refl
by_answer false done kept = kept refl

module _ (code : Code) (rels : List RelDecl) (hosts : Hosts) (s : State) where
  -- none leads nowhere else
  pub quietly_none : (m n : Machine) → m ≡ n → GoesQuietly code rels hosts s m n
  quietly_none m n same = (0, λ j es. ap (λ k. exec_code code rels hosts k s m es) (zero-add j) ∙ ap (λ x. exec_code code rels hosts j s x es) same)

  -- and one more
  pub quietly_more : (m n p : Machine) → GoesQuietly code rels hosts s m n → quiet p ≡ code_step code rels hosts s n → GoesQuietly code rels hosts s m p
  quietly_more m n p (k, go) step = (
    k + 1,
    λ j es.
        let more : (k + 1) + j ≡ k + suc j = omega arith in
        ap (λ i. exec_code code rels hosts i s m es) more ∙ go (suc j) es
        ∙ ap (λ (t : Step). after_step t s es (λ s m es. exec_code code rels hosts j s m es)) (sym step),
  )

  -- and more
  pub quietly_on : (m n p : Machine) → GoesQuietly code rels hosts s m n → GoesQuietly code rels hosts s n p → GoesQuietly code rels hosts s m p
  quietly_on m n p (k, go) (l, on) = (k + l, λ j es. let more : (k + l) + j ≡ k + (l + j) = omega arith in ap (λ i. exec_code code rels hosts i s m es) more ∙ go (l + j) es ∙ on j es)

  -- one of them
  pub one_on : (m n : Machine) → quiet n ≡ code_step code rels hosts s m → GoesOn 1 code rels hosts s m n
  one_on m n step = (
    quietly_more m m n (quietly_none m m refl) step,
    λ forward.
        let lower : Lowers (length code.instrs) m (quiet n) = subst (λ t. Lowers (length code.instrs) m t) (sym step) (step_lowers code rels hosts forward (slice_get code.instrs m.at) s m refl) in
        omega (arith, lower.less_left),
  )

  -- none, and some behind others
  pub stays : (m n : Machine) → m ≡ n → GoesOn 0 code rels hosts s m n
  stays m n same = (quietly_none m n same, λ forward. let e : left (length code.instrs) m ≡ left (length code.instrs) n = ap (left (length code.instrs)) same in omega (arith, e))

  pub goes_on : (c d : ℕ) (m n p : Machine) → GoesOn c code rels hosts s m n → GoesOn d code rels hosts s n p → GoesOn c code rels hosts s m p
  goes_on c d m n p first then = (quietly_on m n p (first.0) (then.0), λ forward. let a = first.1 forward in let b = then.1 forward in omega (arith, a, b))

  pub fewer : (d : ℕ) (m n : Machine) → GoesOn d code rels hosts s m n → GoesOn 0 code rels hosts s m n
  fewer d m n goes = (goes.0, λ forward. let a = goes.1 forward in omega (arith, a))

  pub less_over : (v w : Work) → GoesOn 0 code rels hosts s (machine_at s v) (machine_at s w) → Forward code → left (length code.instrs) (machine_at [] w) ≤ left (length code.instrs) (machine_at [] v)
  less_over v w goes forward = let a = goes.1 forward in omega (arith, a, left_over (length code.instrs) s [] v, left_over (length code.instrs) s [] w)

-- ---- two at once

module _ (code : Code) (rels : List RelDecl) (hosts : Hosts) (s : State) (m p : Machine) (op : Op) (place : ℕ) where
  -- a value is put up, and then the operation is done
  both_on : (i : Instr) (v : Value) → slice_get code.instrs m.at ≡ Some i → act code rels hosts (Some i) s m ≡ quiet (on_with (v ∷ m.operands) m) →
      slice_get code.instrs (m.at + 1) ≡ Some (Prim op place) → quiet p ≡ with_value place op v m → GoesOn 1 code rels hosts s m p
  both_on i v here puts next done =
      let n : Machine = on_with (v ∷ m.operands) m in
      goes_on code rels hosts s 1 1 m n p (one_on code rels hosts s m n (sym (ap (λ o. act code rels hosts o s m) here ∙ puts)))
      (one_on code rels hosts s n p (done ∙ sym (ap (λ o. act code rels hosts o s n) next)))

  pub loaded_on : (i : ℕ) (v : Value) → slice_get code.instrs m.at ≡ Some (Load i) → slice_get code.instrs (m.at + 1) ≡ Some (Prim op place) → slice_get m.locals i ≡ Some v →
      quiet p ≡ with_value place op v m → GoesOn 1 code rels hosts s m p
  loaded_on i v here next there done = both_on (Load i) v here (ap (λ o. pushes o m) there) next done

  pub pushed_on : (n : ℤ) → slice_get code.instrs m.at ≡ Some (Push (scalar_const (int_scalar n))) → slice_get code.instrs (m.at + 1) ≡ Some (Prim op place) →
      quiet p ≡ with_value place op (int_value n) m → GoesOn 1 code rels hosts s m p
  pushed_on n here next done = both_on (Push (scalar_const (int_scalar n))) (int_value n) here refl next done

-- ---- a third one, which takes what the operation gives

-- where a quiet step stands: an instruction further
abbrev StandsPast : Machine → Step → Type 0
StandsPast m (quiet n) = n.at ≡ m.at + 1
StandsPast m t = Unit {0}

stands_answer : (place : ℕ) (m : Machine) (r : Answer) (vs : List Value) → StandsPast m (answer_step place r vs m)
stands_answer place m (gives v) vs = refl
stands_answer place m (refuses name) vs = tt

stands_that : (m : Machine) (b : Bool) (t : Step) → StandsPast m t → StandsPast m (needs_that b t)
stands_that m true t h = h
stands_that m false t h = tt

stands_needs : (m : Machine) (o : Option Taken) (go : Taken → Step) → ((t : Taken) → StandsPast m (go t)) → StandsPast m (needs o go)
stands_needs m None go h = tt
stands_needs m (Some t) go h = h t

stands_computed : (place : ℕ) (op : Op) (m : Machine) → StandsPast m (on_some (arity op) m.operands (λ args vs. answers place op args vs m))
stands_computed place op m = stands_needs m (taken (arity op) [] m.operands) _ (λ t. stands_that m (fits_of op t.args) _ (stands_answer place m (given op t.args) t.rest))

abbrev IsQuiet : Step → Type 0
IsQuiet (quiet m) = Unit {0}
IsQuiet t = ⊥

-- the machine behind a quiet step, from which a further one is told
record Between (f : Machine → Step) (m p : Machine) (t : Step) : Type 0 where
  mid : Machine
  first : t ≡ quiet mid
  then : quiet p ≡ f mid
  past : mid.at ≡ m.at + 1

between : (f : Machine → Step) (m p : Machine) (t : Step) → StandsPast m t → quiet p ≡ behind f t → Between f m p t
between f m p (quiet n) past done = record { mid = n; first = refl; then = done; past = past }
between f m p (says bs n) past done = absurd (subst IsQuiet done tt)
between f m p (commits d n) past done = absurd (subst IsQuiet done tt)
between f m p (ends stop) past done = absurd (subst IsQuiet done tt)

module _ (code : Code) (rels : List RelDecl) (hosts : Hosts) (s : State) (m p : Machine) (op : Op) (place : ℕ) (z : ℤ) (i : Instr) (f : Machine → Step)
    (here : slice_get code.instrs m.at ≡ Some (Push (scalar_const (int_scalar z)))) (next : slice_get code.instrs (m.at + 1) ≡ Some (Prim op place)) (third : slice_get code.instrs (m.at + 2) ≡ Some i)
    (acts : (n : Machine) → f n ≡ act code rels hosts (Some i) s n) (done : quiet p ≡ behind f (with_value place op (int_value z) m)) where
  abbrev up : Machine
  up = on_with (int_value z ∷ m.operands) m

  middle : Between f up p (with_value place op (int_value z) m)
  middle = between f up p (with_value place op (int_value z) m) (stands_computed place op up) done

  at_third : slice_get code.instrs middle.mid.at ≡ Some i
  at_third = let two : m.at + 1 + 1 ≡ m.at + 2 = omega arith in ap (slice_get code.instrs) (middle.past ∙ two) ∙ third

  pub then_on : GoesOn 1 code rels hosts s m p
  then_on =
      goes_on code rels hosts s 1 1 m middle.mid p (pushed_on code rels hosts s m middle.mid op place z here next (sym middle.first))
      (one_on code rels hosts s middle.mid p (middle.then ∙ acts middle.mid ∙ sym (ap (λ o. act code rels hosts o s middle.mid) at_third)))

-- a slot is loaded
module _ (code : Code) (rels : List RelDecl) (hosts : Hosts) (s : State) (m : Machine) (i : ℕ) (v : Value) (here : slice_get code.instrs m.at ≡ Some (Load i)) (there : slice_get m.locals i ≡ Some v) where
  pub load_on : GoesOn 1 code rels hosts s m (ahead 1 v m)
  load_on = one_on code rels hosts s m (ahead 1 v m) (sym (ap (λ o. act code rels hosts o s m) here ∙ ap (λ o. pushes o m) there))

  -- and an operation done on it, which gives an int or a bool
  pub found_on : (op : Op) (place : ℕ) (f : Flat) → slice_get code.instrs (m.at + 1) ≡ Some (Prim op place) → IsGiven op (v ∷ []) f → GoesOn 1 code rels hosts s m (ahead 2 (flat_value f) m)
  found_on op place f next is =
      let up : Machine = on_with (v ∷ m.operands) m in
      let two : m.at + 1 + 1 ≡ m.at + 2 = omega arith in
      loaded_on code rels hosts s m (ahead 2 (flat_value f) m) op place i v here next there
      (sym
      (ap (λ n. on_some n (v ∷ m.operands) (λ args vs. answers place op args vs up)) is.0
      ∙ ap (λ b. needs_that b (answer_step place (given op (v ∷ [])) m.operands up)) is.1
      ∙ ap (λ r. answer_step place r m.operands up) is.2
      ∙ ap (λ a. quiet (record m { at = a; operands = flat_value f ∷ m.operands })) two))

-- from the machine that this is
pub quietly_of : (hosts : Hosts) (s : State) (m old : Standing) (n : Machine) → m ≡ old → GoesQuietly m.code m.relations hosts s (machine_over s m) n → GoesQuietly old.code old.relations hosts s (machine_over s old) n
quietly_of hosts s m old n same h = subst (λ (x : Standing). GoesQuietly x.code x.relations hosts s (machine_over s x) n) same h

-- one machine behind another
pub quietly_then : (hosts : Hosts) (s : State) (old mid new : Standing) → mid.code ≡ old.code → mid.relations ≡ old.relations → GoesQuietly old.code old.relations hosts s (machine_over s old) (machine_over s mid)
    → GoesQuietly mid.code mid.relations hosts s (machine_over s mid) (machine_over s new) → GoesQuietly old.code old.relations hosts s (machine_over s old) (machine_over s new)
quietly_then hosts s old mid new code rels first then =
    quietly_on old.code old.relations hosts s (machine_over s old) (machine_over s mid) (machine_over s new) first
    (subst (λ (c : Code). GoesQuietly c old.relations hosts s (machine_over s mid) (machine_over s new)) code
    (subst (λ (r : List RelDecl). GoesQuietly mid.code r hosts s (machine_over s mid) (machine_over s new)) rels then))
