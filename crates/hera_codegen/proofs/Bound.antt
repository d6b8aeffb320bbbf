-- Forward code is over in time, what is over stays so, and events are only added.
use Rattle.std.proofs.Common.{◌≡◌, ℕ, zero, suc, ◌+◌, ◌-◌, ◌*◌, ◌<◌, ◌≤◌, ◌⊎◌, Bool, true, false, List, [], ◌∷◌, ◌++◌, length, Option, Some, None, refl, sym, ap, ◌∙◌, subst, arith, inl, inr}
use Rattle.std.specs.Prelude.{slice_get, nat_lt, nat_le}
use Rattle.std.proofs.lemmas.Option.{slice_get_within}
use Rattle.hera_sets.specs.Rows.{Row}
use Rattle.hera_meaning.specs.declared.schemas.RelDecl.{RelDecl}
use Rattle.hera_meaning.specs.declared.trees.TrapName.{TrapName}
use Rattle.hera_meaning.specs.declared.trees.TrapName.TheVariants.{WhenFail, ApplyFail}
use Rattle.hera_meaning.specs.Scalars.{is_kind}
use Rattle.hera_meaning.specs.Deltas.{State, Delta, apply_of, is_fail}
use Rattle.hera_meaning.specs.Values.{Value}
use Rattle.hera_meaning.specs.Hosts.{Hosts, host_at, host_takes}
use Rattle.hera_meaning.specs.Fits.{arity, fits_of, is_delta_of, has_shape}
use Rattle.hera_meaning.specs.Primitives.{Answer, gives, refuses, given}
use Rattle.hera_meaning.specs.Printed.{commit_text}
use Rattle.hera_meaning.specs.Worlds.{Event, out, store}
use Rattle.hera_code.specs.declared.instrs.Code.{Code}
use Rattle.hera_code.specs.declared.instrs.Instr.{Instr}
use Rattle.hera_code.specs.declared.instrs.Instr.TheVariants.{Push, Load, Store, Rel, Prim, Host, Jump, Unless, Back, Enter, Leave, Walk as walk_instr, Next, Keep, Gather, Yield, Drop, Call, Ret, RetVal, Print, Apply, Commit, Rollback, Assert, Halt}
use Rattle.hera_code.specs.Forward.{GoesForward, Forward}
use Rattle.hera_code.specs.Machine.{Walk, Frame, Machine, ended, stuck, Step, quiet, says, commits, ends, current_state, needs, if_step, needs_that, as_scalar, as_bool, as_tuple, as_table, as_delta, on_top, on_walk, taken, spends, rows_value, answer_step, leaves_layer, next_row, goes_back, unless_fail, act, code_step}
use Rattle.hera_code.specs.Reached.{Reached, still, over, stores, after_step, exec_code}

-- what is left: two lengths of the code for each turn, one for each frame that waits, and the way to the code's end
abbrev pub left : ℕ → Machine → ℕ
left l m = m.turns * (l + l) + length m.callers * l + (l - m.at)

abbrev Lowers : ℕ → ℕ → Step → Type 0
Lowers l n (quiet m) = left l m < n
Lowers l n (says bs m) = left l m < n
Lowers l n (commits d m) = left l m < n
Lowers l n (ends f) = Unit {0}

-- the next address is nearer the end
nearer : (l a b n c : ℕ) → a < l → a < b → n * (l + l) + c * l + (l - b) < n * (l + l) + c * l + (l - a)
nearer l a b n c in_code ahead = omega (arith, in_code, ahead)

module _ (l n : ℕ) where
  low_needs : {A : Type 0} (o : Option A) (go : A → Step) → ((a : A) → Lowers l n (go a)) → Lowers l n (needs o go)
  low_needs None go h = tt
  low_needs (Some a) go h = h a

  low_if : (b : Bool) (s t : Step) → Lowers l n s → Lowers l n t → Lowers l n (if_step b s t)
  low_if true s t g h = g
  low_if false s t g h = h

  low_that : (b : Bool) (s : Step) → Lowers l n s → Lowers l n (needs_that b s)
  low_that b s h = low_if b s (ends stuck) h tt

  low_top : (vs : List Value) (go : Value → List Value → Step) → ((v : Value) (vs : List Value) → Lowers l n (go v vs)) → Lowers l n (on_top vs go)
  low_top [] go h = tt
  low_top (v ∷ vs) go h = h v vs

  low_walk : (ws : List Walk) (go : Walk → List Walk → Step) → ((w : Walk) (ws : List Walk) → Lowers l n (go w ws)) → Lowers l n (on_walk ws go)
  low_walk [] go h = tt
  low_walk (w ∷ ws) go h = h w ws

-- a turn is spent: two lengths are left for one more frame and the whole way
low_spends : (l a c : ℕ) (turns : ℕ) (go : ℕ → Step) → a < l → ((k : ℕ) → Lowers l (k * (l + l) + l + l + c * l + (l - a)) (go k)) → Lowers l (turns * (l + l) + c * l + (l - a)) (spends turns go)
low_spends l a c zero go in_code h = tt
low_spends l a c (suc k) go in_code h =
    let e : k * (l + l) + l + l + c * l + (l - a) ≡ suc k * (l + l) + c * l + (l - a) = omega arith in
    subst (λ q. Lowers l q (go k)) e (h k)

low_back : (l : ℕ) (fs : List Frame) (vs : List Value) (m : Machine) → m.at < l → fs ≡ m.callers → Lowers l (left l m) (goes_back fs vs m)
low_back l [] vs m h e = tt
low_back l (f ∷ fs) vs m h e =
    subst (λ cs. m.turns * (l + l) + length fs * l + (l - f.at) < m.turns * (l + l) + length cs * l + (l - m.at)) e (omega (arith, h))

module _ (l : ℕ) (m : Machine) (in_code : m.at < l) where
  -- behind the instruction
  ahead : left l (record m { at = m.at + 1 }) < left l m
  ahead = let lt : m.at < m.at + 1 = omega arith in nearer l m.at (m.at + 1) m.turns (length m.callers) in_code lt

  jumps : (b : ℕ) → m.at < b → left l (record m { at = b }) < left l m
  jumps b lt = nearer l m.at b m.turns (length m.callers) in_code lt

  low_answer : (place : ℕ) (r : Answer) (vs : List Value) → Lowers l (left l m) (answer_step place r vs m)
  low_answer place (gives v) vs = ahead
  low_answer place (refuses name) vs = tt

  low_fail : (rels : List RelDecl) (name : TrapName) (place : ℕ) (v : Value) (go : Delta → Step) → ((d : Delta) → Lowers l (left l m) (go d)) → Lowers l (left l m) (unless_fail rels name place v go)
  low_fail rels name place v go h = low_needs l (left l m) (as_delta v) _ (λ d. low_if l (left l m) (is_fail d) _ _ tt (low_that l (left l m) (is_delta_of rels d) (go d) (h d)))

  low_leaves : (own : ℕ) (ds : List Delta) → Lowers l (left l m) (leaves_layer own ds m)
  low_leaves zero ds = tt
  low_leaves (suc n) [] = tt
  low_leaves (suc n) (d ∷ ds) = ahead

  low_next : (i b : ℕ) (rows : List Row) (w : Walk) (ws : List Walk) → m.at < b → Lowers l (left l m) (next_row i b rows w ws m)
  low_next i b [] w ws lt = jumps b lt
  low_next i b (x ∷ xs) w ws lt = ahead

-- a run that is over, and one that is stuck
abbrev pub IsOver : Reached → Type 0
IsOver (still s m es) = ⊥
IsOver (over es stop) = Unit {0}

abbrev pub IsStuck : Reached → Type 0
IsStuck (still s m es) = ⊥
IsStuck (over es (ended f)) = ⊥
IsStuck (over es stuck) = Unit {0}

get_past : (is : List Instr) (a : ℕ) → length is ≤ a → slice_get is a ≡ None
get_past [] a le = refl
get_past (i ∷ is) zero le = absurd (omega (arith, le))
get_past (i ∷ is) (suc a) le = get_past is a (omega (arith, le))

module _ (code : Code) (rels : List RelDecl) (hosts : Hosts) where
  abbrev L : ℕ
  L = length code.instrs

  low_act : (i : Instr) (s : State) (m : Machine) → m.at < L → GoesForward m.at i → Lowers L (left L m) (act code rels hosts (Some i) s m)
  low_act (Push c) s m lt f = ahead L m lt
  low_act (Load i) s m lt f = low_needs L (left L m) (slice_get m.locals i) _ (λ v. ahead L m lt)
  low_act (Store i) s m lt f = low_top L (left L m) m.operands _ (λ v vs. low_needs L (left L m) (slice_get m.locals i) _ (λ u. ahead L m lt))
  low_act (Rel r) s m lt f = low_needs L (left L m) (rows_value (slice_get (current_state s m) r.0)) _ (λ v. ahead L m lt)
  low_act (Prim op place) s m lt f = low_needs L (left L m) (taken (arity op) [] m.operands) _ (λ t. low_that L (left L m) (fits_of op t.args) _ (low_answer L m lt place (given op t.args) t.rest))
  low_act (Host h) s m lt f = low_top L (left L m) m.operands _ (λ v vs. low_needs L (left L m) (host_at hosts h) _ (λ spec. low_needs L (left L m) (as_scalar v) _ (λ q. low_that L (left L m) (is_kind (host_takes spec) q) _ (ahead L m lt))))
  low_act (Jump b) s m lt f = low_that L (left L m) (nat_lt b L) _ (jumps L m lt b f)
  low_act (Unless b) s m lt f = low_top L (left L m) m.operands _ (λ v vs. low_that L (left L m) (nat_lt b L) _ (low_needs L (left L m) (as_bool v) _ (λ c. low_if L (left L m) c _ _ (ahead L m lt) (jumps L m lt b f))))
  low_act (Back b) s m lt f = low_that L (left L m) (nat_lt b L) _ (low_spends L m.at (length m.callers) m.turns _ lt (λ k. omega (arith, lt)))
  low_act (Enter place) s m lt f = low_top L (left L m) m.operands _ (λ v vs. low_fail L m lt rels WhenFail place v _ (λ d. ahead L m lt))
  low_act Leave s m lt f = low_leaves L m lt m.own m.layers
  low_act walk_instr s m lt f = low_top L (left L m) m.operands _ (λ v vs. low_needs L (left L m) (as_table v) _ (λ rows. ahead L m lt))
  low_act (Next i b) s m lt f = low_walk L (left L m) m.walks _ (λ w ws. low_needs L (left L m) (slice_get m.locals i) _ (λ v. low_that L (left L m) (nat_lt b L) _ (low_next L m lt i b w.rows w ws f)))
  low_act Keep s m lt f = low_walk L (left L m) m.walks _ (λ w ws. low_top L (left L m) m.operands _ (λ v vs. low_needs L (left L m) (as_bool v) _ (λ c. low_if L (left L m) c _ _ (ahead L m lt) (ahead L m lt))))
  low_act Gather s m lt f = low_walk L (left L m) m.walks _ (λ w ws. low_top L (left L m) m.operands _ (λ v vs. low_needs L (left L m) (as_tuple v) _ (λ x. ahead L m lt)))
  low_act Yield s m lt f = low_walk L (left L m) m.walks _ (λ w ws. ahead L m lt)
  low_act Drop s m lt f = low_walk L (left L m) m.walks _ (λ w ws. ahead L m lt)
  low_act (Call k) s m lt f =
      low_needs L (left L m) (slice_get code.bodies k) _ (λ b. low_that L (left L m) (nat_le b.params b.slots) _ (low_needs L (left L m) (taken b.params [] m.operands) _ (λ t.
      low_spends L m.at (length m.callers) m.turns _ lt (λ k. omega (arith, lt)))))
  low_act Ret s m lt f = low_back L m.callers [] m lt refl
  low_act RetVal s m lt f = low_top L (left L m) m.operands _ (λ v vs. low_back L m.callers (v ∷ []) m lt refl)
  low_act (Print shape) s m lt f = low_top L (left L m) m.operands _ (λ v vs. low_that L (left L m) (has_shape rels shape v) _ (ahead L m lt))
  low_act (Apply place) s m lt f = low_top L (left L m) m.operands _ (λ v vs. low_fail L m lt rels ApplyFail place v _ (λ d. ahead L m lt))
  low_act Commit s m lt f = ahead L m lt
  low_act Rollback s m lt f = ahead L m lt
  low_act (Assert place) s m lt f = low_top L (left L m) m.operands _ (λ v vs. low_needs L (left L m) (as_bool v) _ (λ c. low_if L (left L m) c _ _ (ahead L m lt) tt))
  low_act Halt s m lt f = tt

  module _ (forward : Forward code) where
    low_step : (o : Option Instr) (s : State) (m : Machine) → slice_get code.instrs m.at ≡ o → Lowers L (left L m) (act code rels hosts o s m)
    low_step None s m e = tt
    low_step (Some i) s m e = low_act i s m (slice_get_within code.instrs m.at i e) (forward m.at i e)

    -- forward code is over after as many instructions as are left, or stuck at the next
    pub stops : (k : ℕ) (s : State) (m : Machine) (es : List Event) → left L m ≤ k → IsOver (exec_code code rels hosts k s m es) ⊎ IsStuck (exec_code code rels hosts (suc k) s m es)
    stops zero s m es le =
        let past : L ≤ m.at = omega (arith, le) in
        inr (subst (λ o. IsStuck (after_step (act code rels hosts o s m) s es (λ s m es. exec_code code rels hosts 0 s m es))) (sym (get_past code.instrs m.at past)) tt)
    stops (suc k) s m es le = by (code_step code rels hosts s m) (low_step (slice_get code.instrs m.at) s m refl) (λ s m es le. stops k s m es le)
      where
        by : (t : Step) → Lowers L (left L m) t → ((s : State) (m : Machine) (es : List Event) → left L m ≤ k → IsOver (exec_code code rels hosts k s m es) ⊎ IsStuck (exec_code code rels hosts (suc k) s m es)) →
            IsOver (after_step t s es (λ s m es. exec_code code rels hosts k s m es)) ⊎ IsStuck (after_step t s es (λ s m es. exec_code code rels hosts (suc k) s m es))
        by (quiet m') low ih = ih s m' es (omega (arith, le, low))
        by (says bs m') low ih = ih s m' (es ++ out bs ∷ []) (omega (arith, le, low))
        by (commits d m') low ih = ih (apply_of s d) m' (es ++ store (apply_of s d) d ∷ out (commit_text (suc (stores es))) ∷ []) (omega (arith, le, low))
        by (ends stop) low ih = inl tt

  -- what is over stays so
  pub over_stays : (j i : ℕ) (s : State) (m : Machine) (es : List Event) → IsOver (exec_code code rels hosts j s m es) → exec_code code rels hosts (j + i) s m es ≡ exec_code code rels hosts j s m es
  over_stays zero i s m es h = absurd h
  over_stays (suc j) i s m es h =
      let e : suc j + i ≡ suc (j + i) = omega arith in
      ap (λ k. exec_code code rels hosts k s m es) e ∙ by (code_step code rels hosts s m) h (λ s m es h. over_stays j i s m es h)
    where
      by : (t : Step) → IsOver (after_step t s es (λ s m es. exec_code code rels hosts j s m es)) →
          ((s : State) (m : Machine) (es : List Event) → IsOver (exec_code code rels hosts j s m es) → exec_code code rels hosts (j + i) s m es ≡ exec_code code rels hosts j s m es) →
          after_step t s es (λ s m es. exec_code code rels hosts (j + i) s m es) ≡ after_step t s es (λ s m es. exec_code code rels hosts j s m es)
      by (quiet m') h ih = ih s m' es h
      by (says bs m') h ih = ih s m' (es ++ out bs ∷ []) h
      by (commits d m') h ih = ih (apply_of s d) m' (es ++ store (apply_of s d) d ∷ out (commit_text (suc (stores es))) ∷ []) h
      by (ends stop) h ih = refl

  -- so two ends are one
  pub one_end : (j i : ℕ) (s : State) (m : Machine) (es : List Event) → IsOver (exec_code code rels hosts j s m es) → IsOver (exec_code code rels hosts i s m es) → exec_code code rels hosts j s m es ≡ exec_code code rels hosts i s m es
  one_end j i s m es h g =
      let e : j + i ≡ i + j = omega arith in
      sym (over_stays j i s m es h) ∙ ap (λ k. exec_code code rels hosts k s m es) e ∙ over_stays i j s m es g
