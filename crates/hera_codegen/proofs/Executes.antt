-- The code of a statement does what the statement means.
use Rattle.std.proofs.Common.{◌≡◌, ℕ, zero, suc, ◌+◌, ◌<◌, ◌≤◌, ◌⊎◌, ◌||◌, ◌&&◌, not, Bool, true, false, cond, List, [], ◌∷◌, ◌++◌, length, Option, Some, None, refl, sym, ap, ◌∙◌, subst, arith, inl, inr}
use Rattle.std.specs.Prelude.{slice_get, nat_eq}
use Rattle.std.proofs.lemmas.Bool.{false≢true, and_parts, or_left, or_right}
use Rattle.hera_sets.specs.Rows.{Row}
use Rattle.hera_meaning.specs.declared.scalars.Kind.{Kind}
use Rattle.hera_meaning.specs.declared.schemas.RelDecl.{RelDecl}
use Rattle.hera_meaning.specs.declared.trees.Shape.{Shape}
use Rattle.hera_meaning.specs.declared.trees.TrapName.TheVariants.{ApplyFail, Assert as assert_trap}
use Rattle.hera_meaning.specs.declared.scalars.Scalar.TheVariants.{Text as text_scalar}
use Rattle.hera_meaning.specs.declared.trees.Const.TheVariants.{Scalar}
use Rattle.hera_meaning.specs.declared.trees.Shape.TheVariants.{Text as text_shape}
use Rattle.hera_meaning.specs.Texts.{is_text}
use Rattle.hera_meaning.specs.Deltas.{Delta, fail, atoms, apply_of}
use Rattle.hera_meaning.specs.Values.{Value, scalar, tuple, table, delta, bool_value, is_true, rows_in, delta_in}
use Rattle.hera_meaning.specs.Printed.{text_of, commit_text, label_text}
use Rattle.hera_meaning.specs.Trees.{Expr, Command, set_slot, if_arms, while, foreach, print, apply, commit, rollback, assert, return, return_value, call_proc, Block, no_stmt, then_stmt, Arms, no_arm, arm}
use Rattle.hera_meaning.specs.Worlds.{out, store, World, with_event, after_delta, committed, rolled_back, set_local, Ended, got, trapped, spent, by, Ending, goes_on, returned, traps, runs_out, then_do, with_value, turn_in, applied, resumed, Calls}
use Rattle.hera_meaning.specs.Expressions.{eval, eval_all}
use Rattle.hera_meaning.specs.Statements.{while_of, each_row, exec, exec_block, exec_arms}
use Rattle.hera_meaning.specs.Run.{stopped, out_of_turns}
use Rattle.hera_meaning.specs.Addresses.{expr_end, exprs_end, command_end, block_end, arms_end}
use Rattle.hera_meaning.specs.Forms.{Form, of_tuple, of_table, of_delta, bool_form, form_of}
use Rattle.hera_meaning.specs.Sound.{has_slot, walks_in, walks_in_all, walks_of, walks_of_block, walks_of_arms, sets_of, sets_of_block, sets_of_arms, readable_after, Scope, IsOf, IsSound, BlockIsSound, ArmsAreSound, returns, command_returns, arms_return}
use Rattle.hera_code.specs.declared.instrs.Code.{Code}
use Rattle.hera_code.specs.declared.instrs.Instr.{Instr}
use Rattle.hera_code.specs.declared.instrs.Instr.TheVariants.{Push, Store, Jump, Unless, Back, Walk as walk_instr, Next, Drop, Call, Print, Apply, Commit, Rollback, Assert}
use Rattle.hera_code.specs.Scheme.{expr_code, exprs_code, Role, return_code, command_code, block_code, arms_code}
use Rattle.hera_code.specs.Machine.{Frame, Stop, ended, quiet, says, ends, needs, needs_that}
use Rattle.hera_code.specs.Reached.{Reached, stores}
use Rattle.hera_codegen.proofs.HasForm.{HasForm, AllHave, AreRowsOf, IsDeltaIn}
use Rattle.hera_codegen.proofs.Facts.{Facts}
use Rattle.hera_codegen.proofs.Slots.{slot-append, Fresh, fresh_front, fresh_back, fresh_tail, fresh_walk, fresh_more, Agree, agree_less, slot_there, agree_set, within_there}
use Rattle.hera_codegen.proofs.Turns.{Within, KeepWithin, IsWithin, eval_within, all_within, exec_within, block_within}
use Rattle.hera_codegen.proofs.Places.{HasAt, has_front, all_behind, here_behind, in_here, expr_length, exprs_length, command_length, block_length, arms_length}
use Rattle.hera_codegen.proofs.Values_of.{rows_is, delta_is, bool_is}
use Rattle.hera_codegen.proofs.Steps.{Setting, Around, machine_at, Named, onto, there, Ends, EndsAt, Over, quiet_step, says_step, commit_step, end_step, Then, FuncsRun}
use Rattle.hera_codegen.proofs.Evaluates.{walking, jump_step, value_step, next_some, next_none, named, eval_runs, exprs_run}
use Rattle.hera_codegen.proofs.Proper.{Proper, proper_out, proper_after, proper_committed, proper_back, real, events_of, Fine, IsGood, good_here, good_around}
use Rattle.hera_codegen.proofs.Returning.{NotOn, block_not_on, block_some}

-- ---- the walks of a phrase: where these slots are readable, inside the Foreachs of those, in a body with those walks

pub record Clear (walks rs ins ws : List ℕ) : Type 0 where
  pub fresh : Fresh rs ws
  pub fresh_in : Fresh ins ws
  pub part : (i : ℕ) → has_slot ws i ≡ true → has_slot walks i ≡ true

module _ (walks : List ℕ) where
  pub clear_front : (rs ins xs ys : List ℕ) → Clear walks rs ins (xs ++ ys) → Clear walks rs ins xs
  clear_front rs ins xs ys h = record {
    fresh = fresh_front rs xs ys h.fresh;
    fresh_in = fresh_front ins xs ys h.fresh_in;
    part = λ i e. h.part i (slot-append xs ys i ∙ or_left (has_slot xs i) (has_slot ys i) e);
  }

  pub clear_back : (rs ins xs ys : List ℕ) → Clear walks rs ins (xs ++ ys) → Clear walks rs ins ys
  clear_back rs ins xs ys h = record {
    fresh = fresh_back rs xs ys h.fresh;
    fresh_in = fresh_back ins xs ys h.fresh_in;
    part = λ i e. h.part i (slot-append xs ys i ∙ or_right (has_slot xs i) (has_slot ys i) e);
  }

  pub clear_walk : (rs ins : List ℕ) (i : ℕ) (ws : List ℕ) → Clear walks rs ins (i ∷ ws) → Clear walks (i ∷ rs) (i ∷ ins) ws
  clear_walk rs ins i ws h = record {
    fresh = fresh_walk rs i ws h.fresh;
    fresh_in = fresh_walk ins i ws h.fresh_in;
    part = λ j e. h.part j (or_right (nat_eq j i) (has_slot ws j) e);
  }

-- a slot that is set is no walk of what follows
set_apart : (walks ins ws : List ℕ) (i : ℕ) → (not (has_slot walks i) || has_slot ins i) ≡ true → Fresh ins ws → ((j : ℕ) → has_slot ws j ≡ true → has_slot walks j ≡ true) → (b : Bool) → has_slot ws i ≡ b → has_slot ws i ≡ false
set_apart walks ins ws i may f part false e = e
set_apart walks ins ws i may f part true e =
    let in_walks : has_slot walks i ≡ true = part i e in
    let in_ins : has_slot ins i ≡ true = subst (λ b. (not b || has_slot ins i) ≡ true) in_walks may in
    absurd (false≢true (sym (f.new i e) ∙ in_ins))

clear_cond : (walks rs ins ws : List ℕ) (i : ℕ) (b : Bool) → has_slot ws i ≡ false → Clear walks rs ins ws → Clear walks (cond b rs (i ∷ rs)) ins ws
clear_cond walks rs ins ws i true apart h = h
clear_cond walks rs ins ws i false apart h = record { fresh = fresh_more rs i ws apart h.fresh; fresh_in = h.fresh_in; part = h.part }

clear_after : (sc : Scope) (seen rs ins : List ℕ) (c : Command) (ws : List ℕ) → IsSound sc seen rs ins c → Clear sc.walks rs ins (walks_of c ++ ws) → Clear sc.walks (readable_after seen rs c) ins ws
clear_after sc seen rs ins (set_slot i e) ws is h =
    let k = clear_back sc.walks rs ins (walks_in e) ws h in
    clear_cond sc.walks rs ins ws i (has_slot seen i) (set_apart sc.walks ins ws i is.3 k.fresh_in k.part (has_slot ws i) refl) k
clear_after sc seen rs ins (if_arms arms other) ws is h = clear_back sc.walks rs ins (walks_of_arms arms ++ walks_of_block other) ws h
clear_after sc seen rs ins (while c block) ws is h = clear_back sc.walks rs ins (walks_in c ++ walks_of_block block) ws h
clear_after sc seen rs ins (foreach i of block) ws is h = clear_back sc.walks rs ins (i ∷ (walks_in of ++ walks_of_block block)) ws h
clear_after sc seen rs ins (print e shape) ws is h = clear_back sc.walks rs ins (walks_in e) ws h
clear_after sc seen rs ins (apply d at) ws is h = clear_back sc.walks rs ins (walks_in d) ws h
clear_after sc seen rs ins (commit label) ws is h = h
clear_after sc seen rs ins rollback ws is h = h
clear_after sc seen rs ins (assert c at) ws is h = clear_back sc.walks rs ins (walks_in c) ws h
clear_after sc seen rs ins return ws is h = h
clear_after sc seen rs ins (return_value e) ws is h = clear_back sc.walks rs ins (walks_in e) ws h
clear_after sc seen rs ins (call_proc k args) ws is h = clear_back sc.walks rs ins (walks_in_all args) ws h

agree_cond : (rels : List RelDecl) (slots : List Form) (rs : List ℕ) (i : ℕ) (b : Bool) (ls ls' : List Value) → Agree rels slots (cond b rs (i ∷ rs)) ls ls' → Agree rels slots rs ls ls'
agree_cond rels slots rs i true ls ls' h = h
agree_cond rels slots rs i false ls ls' h = agree_less rels slots rs i ls ls' h

agree_more : (rels : List RelDecl) (slots : List Form) (rs : List ℕ) (i : ℕ) (b : Bool) (ls ls' : List Value) → Agree rels slots (i ∷ rs) ls ls' → Agree rels slots (cond b rs (i ∷ rs)) ls ls'
agree_more rels slots rs i true ls ls' h = agree_less rels slots rs i ls ls' h
agree_more rels slots rs i false ls ls' h = h

-- what is readable before a statement is so behind it
agree_after : (rels : List RelDecl) (slots : List Form) (seen rs : List ℕ) (c : Command) (ls ls' : List Value) → Agree rels slots (readable_after seen rs c) ls ls' → Agree rels slots rs ls ls'
agree_after rels slots seen rs (set_slot i e) ls ls' h = agree_cond rels slots rs i (has_slot seen i) ls ls' h
agree_after rels slots seen rs (if_arms arms other) ls ls' h = h
agree_after rels slots seen rs (while c block) ls ls' h = h
agree_after rels slots seen rs (foreach i of block) ls ls' h = h
agree_after rels slots seen rs (print e shape) ls ls' h = h
agree_after rels slots seen rs (apply d at) ls ls' h = h
agree_after rels slots seen rs (commit label) ls ls' h = h
agree_after rels slots seen rs rollback ls ls' h = h
agree_after rels slots seen rs (assert c at) ls ls' h = h
agree_after rels slots seen rs return ls ls' h = h
agree_after rels slots seen rs (return_value e) ls ls' h = h
agree_after rels slots seen rs (call_proc k args) ls ls' h = h

has_inside : (code : List Instr) (a : ℕ) (is : List Instr) → HasAt code a is → 0 < length is → a < length code
has_inside code a [] h lt = absurd (omega (arith, lt))
has_inside code a (i ∷ is) h lt = in_here code a i h.0

module _ (code : Code) (sc : Scope) (O : Reached → Type 0) (facts : Facts sc.rels sc.hosts) where
  abbrev t : Setting
  t = record { code = code; rels = sc.rels; hosts = sc.hosts }

  abbrev At : ℕ → List Value → List Value → World → ℕ → Around → Type 0
  At a st ls w n x = EndsAt t O a st ls w n x

  abbrev Agreed : List ℕ → List Value → List Value → Type 0
  Agreed rs ls ls' = Agree sc.rels sc.own.slots rs ls ls'

  -- the statement ends the run, goes on or returns
  abbrev pub ThenDo : Option World → Ending → (List Value → World → ℕ → Type 0) → (Option Value → World → ℕ → Type 0) → Type 0
  ThenDo base (goes_on ls w n) after home = after ls w n
  ThenDo base (returned v w n) after home = home v w n
  ThenDo base (traps name at es) after home = Fine sc.rels base es → Over t O (events_of base es) (ended (stopped name at))
  ThenDo base (runs_out es) after home = Fine sc.rels base es → Over t O (events_of base es) (ended out_of_turns)

  -- behind a statement
  abbrev pub Behind : Option World → List ℕ → ℕ → List Value → Around → List Value → World → ℕ → Type 0
  Behind base rs a st x ls w n = IsGood sc.rels base x w → (ls' : List Value) → Agree sc.rels sc.own.slots rs ls ls' → EndsAt t O a st ls' (real base w) n x

  pub do_map : (base : Option World) (e : Ending) (P Q : List Value → World → ℕ → Type 0) (home : Option Value → World → ℕ → Type 0) →
      ((ls : List Value) (w : World) (n : ℕ) → P ls w n → Q ls w n) → ThenDo base e P home → ThenDo base e Q home
  do_map base (goes_on ls w n) P Q home f h = f ls w n h
  do_map base (returned v w n) P Q home f h = h
  do_map base (traps name at es) P Q home f h = h
  do_map base (runs_out es) P Q home f h = h

  -- what never goes on may go on anyhow
  do_never : (base : Option World) (e : Ending) (P Q : List Value → World → ℕ → Type 0) (home : Option Value → World → ℕ → Type 0) → NotOn e → ThenDo base e P home → ThenDo base e Q home
  do_never base (goes_on ls w n) P Q home never h = absurd never
  do_never base (returned v w n) P Q home never h = h
  do_never base (traps name at es) P Q home never h = h
  do_never base (runs_out es) P Q home never h = h

  do_after : (base : Option World) (k : ℕ) (e : Ending) (go : List Value → World → ℕ → Ending) (P Q : List Value → World → ℕ → Type 0) (home : Option Value → World → ℕ → Type 0) →
      IsWithin k e → ((ls : List Value) (w : World) (n : ℕ) → n ≤ k → ThenDo base (go ls w n) P home → Q ls w n) → ThenDo base (then_do e go) P home → ThenDo base e Q home
  do_after base k (goes_on ls w n) go P Q home le f h = f ls w n le h
  do_after base k (returned v w n) go P Q home le f h = h
  do_after base k (traps name at es) go P Q home le f h = h
  do_after base k (runs_out es) go P Q home le f h = h

  over_good : (base : Option World) (x : Around) (w : World) (stop : Stop) → IsGood sc.rels base x w → (Fine sc.rels base w.events → Over t O (events_of base w.events) stop) → Over t O (real base w).events stop
  over_good None x w stop good h = h good.1.fine
  over_good (Some v) x w stop good h = h tt

  value_after : {A : Type 0} (base : Option World) (k : ℕ) (e : Ended A) (x : Around) (w : World) (go : A → ℕ → Ending) (P : List Value → World → ℕ → Type 0) (home : Option Value → World → ℕ → Type 0) (Q : A → ℕ → Type 0) →
      IsGood sc.rels base x w → Within k e → ((v : A) (n : ℕ) → n ≤ k → ThenDo base (go v n) P home → Q v n) → ThenDo base (with_value e w go) P home → Then t O e Q (real base w).events
  value_after base k (got v n) x w go P home Q good le f h = f v n le h
  value_after base k (trapped name at) x w go P home Q good le f h = over_good base x w (ended (stopped name at)) good h
  value_after base k spent x w go P home Q good le f h = over_good base x w (ended out_of_turns) good h

  -- the way back spends a turn
  back_do : (base : Option World) (top a : ℕ) (st ls' : List Value) (w : World) (n : ℕ) (x : Around) (go : ℕ → Ending) (P : List Value → World → ℕ → Type 0) (home : Option Value → World → ℕ → Type 0) →
      slice_get code.instrs a ≡ Some (Back top) → top < length code.instrs → IsGood sc.rels base x w →
      ((m : ℕ) → m < n → ThenDo base (go m) P home → At top st ls' (real base w) m x) →
      ThenDo base (turn_in w n go) P home → At a st ls' (real base w) n x
  back_do base top a st ls' w zero x go P home here inside good f h =
      end_step t O (Back top) (real base w).stored (machine_at a st ls' (real base w) 0 x) (real base w).events (ended out_of_turns) here (there code top (ends (ended out_of_turns)) inside) (over_good base x w (ended out_of_turns) good h)
  back_do base top a st ls' w (suc n) x go P home here inside good f h =
      quiet_step t O (Back top) (real base w).stored (machine_at a st ls' (real base w) (suc n) x) (machine_at top st ls' (real base w) n x) (real base w).events here
      (there code top (quiet (machine_at top st ls' (real base w) n x)) inside) (f n (omega arith) h)

  -- ---- single statements

  store_run : (i : ℕ) (u v : Value) (a : ℕ) (st ls : List Value) (w : World) (n : ℕ) (x : Around) → slice_get code.instrs a ≡ Some (Store i) → slice_get ls i ≡ Some u →
      At (a + 1) st (set_local ls i v) w n x → At a (v ∷ st) ls w n x
  store_run i u v a st ls w n x here slot end =
      quiet_step t O (Store i) w.stored (machine_at a (v ∷ st) ls w n x) (machine_at (a + 1) st (set_local ls i v) w n x) w.events here
      (ap (λ o. needs o (λ u. quiet (machine_at (a + 1) st (set_local ls i v) w n x))) slot) end

  assert_run : (base : Option World) (c : Bool) (place : ℕ) (a : ℕ) (st ls ls' : List Value) (w : World) (n : ℕ) (x : Around) (rs : List ℕ) (home : Option Value → World → ℕ → Type 0) →
      slice_get code.instrs a ≡ Some (Assert place) → IsGood sc.rels base x w → Agreed rs ls ls' →
      ThenDo base (by c (λ m. goes_on ls w m) (λ m. traps assert_trap place w.events) n) (Behind base rs (a + 1) st x) home → At a (bool_value c ∷ st) ls' (real base w) n x
  assert_run base true place a st ls ls' w n x rs home here good ag h =
      quiet_step t O (Assert place) (real base w).stored (machine_at a (bool_value true ∷ st) ls' (real base w) n x) (machine_at (a + 1) st ls' (real base w) n x) (real base w).events here refl (h good ls' ag)
  assert_run base false place a st ls ls' w n x rs home here good ag h =
      end_step t O (Assert place) (real base w).stored (machine_at a (bool_value false ∷ st) ls' (real base w) n x) (real base w).events (ended (stopped assert_trap place)) here refl
      (over_good base x w (ended (stopped assert_trap place)) good h)

  print_run : (base : Option World) → base ≡ None → (shape : Shape) (v : Value) (a : ℕ) (st ls ls' : List Value) (w : World) (n : ℕ) (x : Around) (rs : List ℕ) →
      slice_get code.instrs a ≡ Some (Print shape) → HasForm sc.rels (form_of shape) v → IsGood sc.rels base x w → Agreed rs ls ls' →
      Behind base rs (a + 1) st x ls (with_event (out (text_of shape v sc.rels)) w) n → At a (v ∷ st) ls' (real base w) n x
  print_run (Some u) e shape v a st ls ls' w n x rs here has good ag h = cc
  print_run None e shape v a st ls ls' w n x rs here has good ag h =
      says_step t O (Print shape) w.stored (machine_at a (v ∷ st) ls' w n x) (machine_at (a + 1) st ls' w n x) w.events (text_of shape v sc.rels) here
      (ap (λ b. needs_that b (says (text_of shape v sc.rels) (machine_at (a + 1) st ls' w n x))) (facts.shapes shape v has))
      (h (good.0, proper_out sc.rels sc.hosts facts (text_of shape v sc.rels) w good.1) ls' ag)

  apply_run : (base : Option World) → base ≡ None → (place : ℕ) (d : Delta) (a : ℕ) (st ls ls' : List Value) (w : World) (n : ℕ) (x : Around) (rs : List ℕ) (home : Option Value → World → ℕ → Type 0) →
      slice_get code.instrs a ≡ Some (Apply place) → IsDeltaIn sc.rels d → IsGood sc.rels base x w → Agreed rs ls ls' →
      ThenDo base (applied place d ls w n) (Behind base rs (a + 1) st x) home → At a (delta d ∷ st) ls' (real base w) n x
  apply_run (Some u) e place d a st ls ls' w n x rs home here has good ag h = cc
  apply_run None e place fail a st ls ls' w n x rs home here has good ag h =
      end_step t O (Apply place) w.stored (machine_at a (delta fail ∷ st) ls' w n x) w.events (ended (stopped ApplyFail place)) here refl (h good.1.fine)
  apply_run None e place (atoms xs) a st ls ls' w n x rs home here has good ag h =
      quiet_step t O (Apply place) w.stored (machine_at a (delta (atoms xs) ∷ st) ls' w n x) (machine_at (a + 1) st ls' (after_delta (atoms xs) w) n x) w.events here
      (ap (λ b. needs_that b (quiet (machine_at (a + 1) st ls' (after_delta (atoms xs) w) n x))) (facts.deltas (atoms xs) has))
      (h (good.0, proper_after sc.rels sc.hosts facts xs w has good.1) ls' ag)

  commit_run : (base : Option World) → base ≡ None → (a : ℕ) (st ls ls' : List Value) (w : World) (n : ℕ) (x : Around) (rs : List ℕ) →
      slice_get code.instrs a ≡ Some Commit → IsGood sc.rels base x w → Agreed rs ls ls' →
      Behind base rs (a + 1) st x ls (committed w) n → At a st ls' (real base w) n x
  commit_run (Some u) e a st ls ls' w n x rs here good ag h = cc
  commit_run None e a st ls ls' w n x rs here good ag h =
      let count : w.commits + 1 ≡ suc (stores w.events) = omega (arith, good.1.counted) in
      let end = h (good.0, proper_committed sc.rels sc.hosts facts w good.1) ls' ag in
      commit_step t O Commit w.stored (machine_at a st ls' w n x) (machine_at (a + 1) st ls' (committed w) n x) w.events w.pending here refl
      (subst (λ k. Ends t O (apply_of w.stored w.pending) (machine_at (a + 1) st ls' (committed w) n x) (w.events ++ store (apply_of w.stored w.pending) w.pending ∷ out (commit_text k) ∷ [])) count
      (subst (λ s. Ends t O s (machine_at (a + 1) st ls' (committed w) n x) (w.events ++ store s w.pending ∷ out (commit_text (w.commits + 1)) ∷ [])) (sym good.1.state_is) end))

  -- a label is printed as a text that is pushed
  label_run : (base : Option World) → base ≡ None → (label : List ℕ) → is_text label ≡ true → (a : ℕ) (st ls ls' : List Value) (w : World) (n : ℕ) (x : Around) (rs : List ℕ) →
      slice_get code.instrs a ≡ Some (Push (Scalar (text_scalar label))) → slice_get code.instrs (a + 1) ≡ Some (Print text_shape) → IsGood sc.rels base x w → Agreed rs ls ls' →
      Behind base rs (a + 1 + 1) st x ls (with_event (out (label_text label)) w) n → At a st ls' (real base w) n x
  unfolding text_of
  label_run base e label valid a st ls ls' w n x rs push prints good ag h =
      quiet_step t O (Push (Scalar (text_scalar label))) (real base w).stored (machine_at a st ls' (real base w) n x) (machine_at (a + 1) (scalar (text_scalar label) ∷ st) ls' (real base w) n x) (real base w).events push refl
      (print_run base e text_shape (scalar (text_scalar label)) (a + 1) st ls ls' w n x rs prints (refl, valid) good ag h)

  rollback_run : (base : Option World) → base ≡ None → (a : ℕ) (st ls ls' : List Value) (w : World) (n : ℕ) (x : Around) (rs : List ℕ) →
      slice_get code.instrs a ≡ Some Rollback → IsGood sc.rels base x w → Agreed rs ls ls' →
      Behind base rs (a + 1) st x ls (rolled_back w) n → At a st ls' (real base w) n x
  rollback_run (Some u) e a st ls ls' w n x rs here good ag h = cc
  rollback_run None e a st ls ls' w n x rs here good ag h =
      quiet_step t O Rollback w.stored (machine_at a st ls' w n x) (machine_at (a + 1) st ls' (rolled_back w) n x) w.events here refl (h (good.0, proper_back sc.rels sc.hosts facts w good.1) ls' ag)

  -- ---- statements in a body

  -- how a call of a proc ends, where at most this many turns are left
  abbrev pub ProcsRun : ℕ → Calls → Type 0
  ProcsRun depth calls = (k : ℕ) (fs : List Form) (vs : List Value) (a : ℕ) (st ls ls' : List Value) (w : World) (n : ℕ) (x : Around) → n ≤ depth →
      Named sc.bodies sc.forms k false fs None → AllHave sc.rels fs vs → slice_get code.instrs a ≡ Some (Call k) → x.layers ≡ [] → Proper sc.rels w →
      ThenDo None (resumed ls (calls k vs w n)) (λ ls'' w m. Proper sc.rels w → EndsAt t O (a + 1) st ls' w m x) (λ v w m. Unit {0}) → EndsAt t O a (onto vs st) ls' w n x

  resumed_map : (ls : List Value) (e : Ending) (P Q : List Value → World → ℕ → Type 0) (home : Option Value → World → ℕ → Type 0) →
      ((w : World) (n : ℕ) → P ls w n → Q ls w n) → ThenDo None (resumed ls e) P home → ThenDo None (resumed ls e) Q (λ v w m. Unit {0})
  resumed_map ls (goes_on ls' w n) P Q home f h = f w n h
  resumed_map ls (returned v w n) P Q home f h = f w n h
  resumed_map ls (traps name at es) P Q home f h = h
  resumed_map ls (runs_out es) P Q home f h = h

  call_run : (base : Option World) → base ≡ None → (calls : Calls) (depth : ℕ) → ProcsRun depth calls →
      (k : ℕ) (fs : List Form) (vs : List Value) (a : ℕ) (st ls ls' : List Value) (w : World) (n : ℕ) (x : Around) (rs : List ℕ) (home : Option Value → World → ℕ → Type 0) → n ≤ depth →
      Named sc.bodies sc.forms k false fs None → AllHave sc.rels fs vs → slice_get code.instrs a ≡ Some (Call k) → IsGood sc.rels base x w → Agreed rs ls ls' →
      ThenDo base (resumed ls (calls k vs w n)) (Behind base rs (a + 1) st x) home → At a (onto vs st) ls' (real base w) n x
  call_run (Some u) e calls depth procs k fs vs a st ls ls' w n x rs home low is have here good ag h = cc
  call_run None e calls depth procs k fs vs a st ls ls' w n x rs home low is have here good ag h =
      procs k fs vs a st ls ls' w n x low is have here good.0 good.1
      (resumed_map ls (calls k vs w n) (Behind None rs (a + 1) st x) (λ ls'' w m. Proper sc.rels w → EndsAt t O (a + 1) st ls' w m x) home (λ w m p proper. p (good.0, proper) ls' ag) h)

  -- the address is in the code, or what ends there returns
  abbrev pub EndsIn : ℕ → Bool → Type 0
  EndsIn a returning = (a < length code.instrs) ⊎ (returning ≡ true)

  inside_of : (a : ℕ) (b : Bool) → b ≡ false → EndsIn a b → a < length code.instrs
  inside_of a b e (inl h) = h
  inside_of a b e (inr h) = absurd (false≢true (sym e ∙ h))

  -- what precedes a block ends in the code, or is the last statement
  end_before : (p : Role) (c : Command) (rest : Block) (a : ℕ) → HasAt code.instrs (command_end c a) (block_code p rest (command_end c a)) → EndsIn (block_end rest (command_end c a)) (returns (then_stmt c rest)) → EndsIn (command_end c a) (command_returns c)
  end_before p c no_stmt a has (inl h) = inl h
  end_before p c no_stmt a has (inr h) = inr h
  end_before p c (then_stmt d rest) a has (inl h) = inl (omega (arith, h, block_length p (then_stmt d rest) (command_end c a)))
  end_before p c (then_stmt d rest) a has (inr h) =
      let lt : 0 < length (block_code p (then_stmt d rest) (command_end c a)) = omega (arith, block_some (then_stmt d rest) (command_end c a) h, block_length p (then_stmt d rest) (command_end c a)) in
      inl (has_inside code.instrs (command_end c a) (block_code p (then_stmt d rest) (command_end c a)) has lt)

  left_end : (a : ℕ) (b c : Bool) → EndsIn a (b && c) → EndsIn a b
  left_end a b c (inl h) = inl h
  left_end a b c (inr h) = inr (and_parts b c h).0

  right_end : (a : ℕ) (b c : Bool) → EndsIn a (b && c) → EndsIn a c
  right_end a b c (inl h) = inl h
  right_end a b c (inr h) = inr (and_parts b c h).1

  -- an else block begins in the code
  else_in : (p : Role) (other : Block) (b : Bool) (a : ℕ) → HasAt code.instrs a (block_code p other a) → EndsIn (block_end other a) (b && returns other) → a < length code.instrs
  else_in p other b a has (inl h) = omega (arith, h, block_length p other a)
  else_in p other b a has (inr h) =
      let lt : 0 < length (block_code p other a) = omega (arith, block_some other a (and_parts b (returns other) h).1, block_length p other a) in
      has_inside code.instrs a (block_code p other a) has lt

  -- behind an arm's block it jumps to the end, unless the block returns
  to_stop : (base : Option World) (rs : List ℕ) (b stop : ℕ) (st : List Value) (x : Around) (home : Option Value → World → ℕ → Type 0) (e : Ending) (returning : Bool) →
      slice_get code.instrs b ≡ Some (Jump stop) → EndsIn stop returning → (returning ≡ true → NotOn e) →
      ThenDo base e (Behind base rs stop st x) home → ThenDo base e (Behind base rs b st x) home
  to_stop base rs b stop st x home e returning here (inl inside) never h =
      do_map base e (Behind base rs stop st x) (Behind base rs b st x) home (λ ls w n k good l3 ag3. jump_step code sc O facts stop b st l3 (real base w) n x here inside (k good l3 ag3)) h
  to_stop base rs b stop st x home e returning here (inr is_returning) never h =
      do_never base e (Behind base rs stop st x) (Behind base rs b st x) home (never is_returning) h

  module _ (base : Option World) (plain : sc.func ≡ false → base ≡ None) (p : Role) (st : List Value) (callers : List Frame) (home : Option Value → World → ℕ → Type 0)
      (ret_none : (a : ℕ) (ls' : List Value) (w : World) (n : ℕ) (x : Around) → x.callers ≡ callers → sc.func ≡ false → slice_get code.instrs a ≡ Some (return_code p) → IsGood sc.rels base x w → home None w n → EndsAt t O a st ls' (real base w) n x)
      (ret_some : (v : Value) (f : Form) (a : ℕ) (ls' : List Value) (w : World) (n : ℕ) (x : Around) → x.callers ≡ callers → sc.func ≡ true → sc.own.result ≡ Some f → slice_get code.instrs a ≡ Some (return_code p) → HasForm sc.rels f v → IsGood sc.rels base x w →
      home (Some v) w n → EndsAt t O a (v ∷ st) ls' (real base w) n x)
      (calls : Calls) (keep_turns : KeepWithin calls) (depth : ℕ) (funcs : FuncsRun t O sc.bodies sc.forms depth calls) (procs : ProcsRun depth calls) where
    -- an expression of a statement, and what follows its value
    value_runs : (e : Expr) (f : Form) (rs : List ℕ) (a : ℕ) (ls ls' : List Value) (w : World) (n : ℕ) (x : Around) (go : Value → ℕ → Ending) (P : List Value → World → ℕ → Type 0) →
        n ≤ depth → IsOf sc rs e f → Fresh rs (walks_in e) → HasAt code.instrs a (expr_code e a) → expr_end e a < length code.instrs → IsGood sc.rels base x w → Agreed rs ls ls' →
        ((v : Value) (m : ℕ) → m ≤ n → HasForm sc.rels f v → (l3 : List Value) → Agreed rs ls l3 → ThenDo base (go v m) P home → At (expr_end e a) (v ∷ st) l3 (real base w) m x) →
        ThenDo base (with_value (eval sc.hosts calls e ls w.state n) w go) P home → At a st ls' (real base w) n x
    value_runs e f rs a ls ls' w n x go P low is fresh has inside good ag k h =
        eval_runs code sc O facts calls keep_turns depth funcs e f rs a st ls ls' (real base w) w.state n x low is fresh has inside (good_here sc.rels base x w good) ag
        (value_after base n (eval sc.hosts calls e ls w.state n) x w go P home _ good (eval_within sc.hosts calls keep_turns e ls w.state n) (λ v m le q has_v l3 ag3. k v m le has_v l3 ag3 q) h)

    -- a loop
    while_runs : (c : Expr) (rs : List ℕ) (a b : ℕ) (x : Around) (body : List Value → World → ℕ → Ending) →
        IsOf sc rs c bool_form → Fresh rs (walks_in c) → HasAt code.instrs a (expr_code c a) → slice_get code.instrs (expr_end c a) ≡ Some (Unless (b + 1)) → slice_get code.instrs b ≡ Some (Back a) → a < length code.instrs → b + 1 < length code.instrs →
        ((ls : List Value) (w : World) (n : ℕ) → IsWithin n (body ls w n)) →
        ((ls ls' : List Value) (w : World) (n : ℕ) → n ≤ depth → IsGood sc.rels base x w → Agreed rs ls ls' → ThenDo base (body ls w n) (Behind base rs b st x) home → At (expr_end c a + 1) st ls' (real base w) n x) →
        (limit n : ℕ) (ls ls' : List Value) (w : World) → n < limit → n ≤ depth → IsGood sc.rels base x w → Agreed rs ls ls' →
        ThenDo base (while_of limit (λ ls w m. eval sc.hosts calls c ls w.state m) body ls w n) (Behind base rs (b + 1) st x) home → At a st ls' (real base w) n x
    while_runs c rs a b x body is fresh has here_unless here_back in_a in_end within runs zero n ls ls' w lt low good ag h = absurd (omega (arith, lt))
    while_runs c rs a b x body is fresh has here_unless here_back in_a in_end within runs (suc limit) n ls ls' w lt low good ag h =
        value_runs c bool_form rs a ls ls' w n x _ (Behind base rs (b + 1) st x) low is fresh has (in_here code.instrs _ _ here_unless) good ag
        (λ v m le has_v l3 ag3 k. value_step code sc O facts v (b + 1) (expr_end c a) st l3 (real base w) m x here_unless in_end has_v
        (λ is_true_v. runs ls l3 w m (omega (arith, low, le)) good ag3
        (do_after base m (body ls w m) _ (Behind base rs (b + 1) st x) _ home (within ls w m)
        (λ ls4 w4 j le' q good4 l4 ag4. back_do base a b st l4 w4 j x _ (Behind base rs (b + 1) st x) home here_back in_a good4
        (λ i less q. while_runs c rs a b x body is fresh has here_unless here_back in_a in_end within runs limit i ls4 l4 w4 (omega (arith, lt, le, le', less)) (omega (arith, low, le, le', less)) good4 ag4 q) q)
        (subst (λ d. ThenDo base (by d (λ m. then_do (body ls w m) (λ ls w m. turn_in w m (λ m. while_of limit (λ ls w m. eval sc.hosts calls c ls w.state m) body ls w m))) (λ m. goes_on ls w m) m) (Behind base rs (b + 1) st x) home) is_true_v k)))
        (λ is_false_v. subst (λ d. ThenDo base (by d (λ m. then_do (body ls w m) (λ ls w m. turn_in w m (λ m. while_of limit (λ ls w m. eval sc.hosts calls c ls w.state m) body ls w m))) (λ m. goes_on ls w m) m) (Behind base rs (b + 1) st x) home) is_false_v k good l3 ag3))
        h

    -- a walk: top is the address of Next, b that of Back
    each_run : (i top b : ℕ) (ks : List Kind) (rs : List ℕ) (x : Around) (body : Row → List Value → World → ℕ → Ending) →
        slice_get sc.own.slots i ≡ Some (of_tuple ks) →
        slice_get code.instrs top ≡ Some (Next i (b + 1)) → slice_get code.instrs b ≡ Some (Back top) → slice_get code.instrs (b + 1) ≡ Some Drop →
        ((r : Row) (ls : List Value) (w : World) (n : ℕ) → IsWithin n (body r ls w n)) →
        ((r : Row) (rows : List Row) (ls ls' : List Value) (w : World) (n : ℕ) → n ≤ depth → IsGood sc.rels base x w → Agreed (i ∷ rs) (set_local ls i (tuple r)) ls' →
        ThenDo base (body r ls w n) (Behind base (i ∷ rs) b st (walking rows (Some r) [] x)) home → At (top + 1) st ls' (real base w) n (walking rows (Some r) [] x)) →
        (rows : List Row) → AreRowsOf ks rows → (cur : Option Row) (ls ls' : List Value) (w : World) (n : ℕ) → n ≤ depth → IsGood sc.rels base x w → Agreed rs ls ls' →
        ThenDo base (each_row body rows ls w n) (Behind base rs (b + 1 + 1) st x) home → At top st ls' (real base w) n (walking rows cur [] x)
    each_run i top b ks rs x body slot hn hb hd within runs [] are cur ls ls' w n low good ag h =
        let v = within_there ls' i (slot_there sc.rels sc.own.slots rs i (of_tuple ks) ls ls' slot ag) in
        next_none code sc O facts i (b + 1) top [] cur v.0 st ls' (real base w) n x hn v.1 (in_here code.instrs _ _ hd)
        (quiet_step t O Drop (real base w).stored (machine_at (b + 1) st ls' (real base w) n (walking [] None [] x)) (machine_at (b + 1 + 1) st ls' (real base w) n x) (real base w).events hd refl (h good ls' ag))
    each_run i top b ks rs x body slot hn hb hd within runs (r ∷ rows) are cur ls ls' w n low good ag h =
        let v = within_there ls' i (slot_there sc.rels sc.own.slots rs i (of_tuple ks) ls ls' slot ag) in
        next_some code sc O facts i (b + 1) top r rows [] cur v.0 st ls' (real base w) n x hn v.1 (in_here code.instrs _ _ hd)
        (runs r rows ls (set_local ls' i (tuple r)) w n low good (agree_set sc.rels sc.own.slots rs i (of_tuple ks) (tuple r) ls ls' slot are.0 ag)
        (do_after base n (body r ls w n) _ (Behind base rs (b + 1 + 1) st x) _ home (within r ls w n)
        (λ ls4 w4 j le q good4 l4 ag4.
        let good5 = good_around sc.rels base (walking rows (Some r) [] x) x w4 refl good4 in
        back_do base top b st l4 w4 j (walking rows (Some r) [] x) _ (Behind base rs (b + 1 + 1) st x) home hb (in_here code.instrs _ _ hn) good4
        (λ i' less q. each_run i top b ks rs x body slot hn hb hd within runs rows are.1 (Some r) ls4 l4 w4 i' (omega (arith, low, le, less)) good5 (agree_less sc.rels sc.own.slots rs i ls4 l4 ag4) q) q)
        h))

    mutual
      pub exec_runs : (c : Command) (seen rs ins : List ℕ) (a : ℕ) (ls ls' : List Value) (w : World) (n : ℕ) (x : Around) → x.callers ≡ callers → n ≤ depth →
          IsSound sc seen rs ins c → Clear sc.walks rs ins (walks_of c) → HasAt code.instrs a (command_code p c a) → EndsIn (command_end c a) (command_returns c) → IsGood sc.rels base x w → Agreed rs ls ls' →
          ThenDo base (exec sc.rels sc.hosts calls c ls w n) (Behind base (readable_after seen rs c) (command_end c a) st x) home → At a st ls' (real base w) n x
      exec_runs (set_slot i e) seen rs ins a ls ls' w n x cs low is clear has end good ag h =
          let here_store = here_behind code.instrs a (expr_code e a) (Store i) [] (expr_end e a) (expr_length e a) has in
          value_runs e is.0 rs a ls ls' w n x _ (Behind base (cond (has_slot seen i) rs (i ∷ rs)) (expr_end e a + 1) st x) low is.2 clear.fresh (has_front code.instrs a (expr_code e a) (Store i ∷ []) has) (in_here code.instrs _ _ here_store) good ag
          (λ v m le has_v l3 ag3 k.
          let u = within_there l3 i (slot_there sc.rels sc.own.slots rs i is.0 ls l3 is.1 ag3) in
          store_run i u.0 v (expr_end e a) st l3 (real base w) m x here_store u.1
          (k good (set_local l3 i v) (agree_more sc.rels sc.own.slots rs i (has_slot seen i) (set_local ls i v) (set_local l3 i v) (agree_set sc.rels sc.own.slots rs i is.0 v ls l3 is.1 has_v ag3)))) h
      exec_runs (if_arms arms other) seen rs ins a ls ls' w n x cs low is clear has end good ag h =
          let a' = arms_end arms a in
          let stop = block_end other a' in
          let ca = arms_code p arms a stop in
          let co = block_code p other a' in
          let has_other = all_behind code.instrs a ca co a' (arms_length p arms a stop) has in
          arms_run arms seen rs ins a stop (λ m. exec_block sc.rels sc.hosts calls other ls w m) ls ls' w n x cs low is.0 (clear_front sc.walks rs ins (walks_of_arms arms) (walks_of_block other) clear)
          (has_front code.instrs a ca co has) (left_end stop (arms_return arms) (returns other) end) (else_in p other (arms_return arms) a' has_other end) good ag
          (λ m le l3 ag3 k. block_runs other (seen ++ sets_of_arms arms) rs ins a' ls l3 w m x cs (omega (arith, low, le)) is.1 (clear_back sc.walks rs ins (walks_of_arms arms) (walks_of_block other) clear) has_other (right_end stop (arms_return arms) (returns other) end) good ag3 k)
          h
      exec_runs (while c block) seen rs ins a ls ls' w n x cs low is clear has end good ag h =
          let b = block_end block (expr_end c a + 1) in
          let cb = block_code p block (expr_end c a + 1) in
          let rest = all_behind code.instrs a (expr_code c a) (Unless (b + 1) ∷ (cb ++ Back a ∷ [])) (expr_end c a) (expr_length c a) has in
          let here_back = here_behind code.instrs (expr_end c a + 1) cb (Back a) [] b (block_length p block (expr_end c a + 1)) rest.1 in
          let inside = inside_of (b + 1) false refl end in
          while_runs c rs a b x (λ ls w m. exec_block sc.rels sc.hosts calls block ls w m) is.0 (clear_front sc.walks rs ins (walks_in c) (walks_of_block block) clear).fresh (has_front code.instrs a (expr_code c a) _ has) rest.0 here_back
          (omega (arith, inside, command_length p (while c block) a)) inside
          (λ ls w m. block_within sc.rels sc.hosts calls keep_turns block ls w m)
          (λ ls l3 w m low good ag k. block_runs block seen rs ins (expr_end c a + 1) ls l3 w m x cs low is.1 (clear_back sc.walks rs ins (walks_in c) (walks_of_block block) clear) (has_front code.instrs (expr_end c a + 1) cb (Back a ∷ []) rest.1)
          (inl (in_here code.instrs _ _ here_back)) good ag k)
          (suc n) n ls ls' w (omega arith) low good ag h
      exec_runs (foreach i of block) seen rs ins a ls ls' w n x cs low is clear has end good ag h =
          let top = expr_end of a + 1 in
          let b = block_end block (top + 1) in
          let cb = block_code p block (top + 1) in
          let tail = all_behind code.instrs a (expr_code of a) (walk_instr ∷ Next i (b + 1) ∷ (cb ++ Back top ∷ Drop ∷ [])) (expr_end of a) (expr_length of a) has in
          let last = all_behind code.instrs (top + 1) cb (Back top ∷ Drop ∷ []) b (block_length p block (top + 1)) tail.1.1 in
          let ws = walks_in of ++ walks_of_block block in
          value_runs of (of_table is.0) rs a ls ls' w n x _ (Behind base rs (b + 1 + 1) st x) low is.1 (fresh_front rs (walks_in of) (walks_of_block block) (fresh_tail rs i ws clear.fresh)) (has_front code.instrs a (expr_code of a) _ has) (in_here code.instrs _ _ tail.0) good ag
          (λ v m le has_v l3 ag3 k.
          let q = rows_is sc.rels is.0 v has_v in
          subst (λ v. At (expr_end of a) (v ∷ st) l3 (real base w) m x) (sym q.0)
          (quiet_step t O walk_instr (real base w).stored (machine_at (expr_end of a) (table (rows_in v) ∷ st) l3 (real base w) m x) (machine_at top st l3 (real base w) m (walking (rows_in v) None [] x)) (real base w).events tail.0 refl
          (each_run i top b is.0 rs x (λ r ls w m. exec_block sc.rels sc.hosts calls block (set_local ls i (tuple r)) w m) is.2 tail.1.0 last.0 last.1.0
          (λ r ls w m. block_within sc.rels sc.hosts calls keep_turns block (set_local ls i (tuple r)) w m)
          (λ r rows ls l4 w m low good ag k. block_runs block seen (i ∷ rs) (i ∷ ins) (top + 1) (set_local ls i (tuple r)) l4 w m (walking rows (Some r) [] x) cs low is.3
          (clear_back sc.walks (i ∷ rs) (i ∷ ins) (walks_in of) (walks_of_block block) (clear_walk sc.walks rs ins i ws clear)) (has_front code.instrs (top + 1) cb _ tail.1.1)
          (inl (in_here code.instrs _ _ last.0)) (good_around sc.rels base x (walking rows (Some r) [] x) w refl good) ag k)
          (rows_in v) q.1.rows_are None ls l3 w m (omega (arith, low, le)) good ag3 k)))
          h
      exec_runs (print e shape) seen rs ins a ls ls' w n x cs low is clear has end good ag h =
          let here_print = here_behind code.instrs a (expr_code e a) (Print shape) [] (expr_end e a) (expr_length e a) has in
          value_runs e (form_of shape) rs a ls ls' w n x _ (Behind base rs (expr_end e a + 1) st x) low is.0 clear.fresh (has_front code.instrs a (expr_code e a) (Print shape ∷ []) has) (in_here code.instrs _ _ here_print) good ag
          (λ v m le has_v l3 ag3 k. print_run base (plain is.1) shape v (expr_end e a) st ls l3 w m x rs here_print has_v good ag3 k) h
      exec_runs (apply d place) seen rs ins a ls ls' w n x cs low is clear has end good ag h =
          let here_apply = here_behind code.instrs a (expr_code d a) (Apply place) [] (expr_end d a) (expr_length d a) has in
          value_runs d of_delta rs a ls ls' w n x _ (Behind base rs (expr_end d a + 1) st x) low is.0 clear.fresh (has_front code.instrs a (expr_code d a) (Apply place ∷ []) has) (in_here code.instrs _ _ here_apply) good ag
          (λ v m le has_v l3 ag3 k.
          let q = delta_is sc.rels v has_v in
          subst (λ v. At (expr_end d a) (v ∷ st) l3 (real base w) m x) (sym q.0) (apply_run base (plain is.1) place (delta_in v) (expr_end d a) st ls l3 w m x rs home here_apply q.1 good ag3 k)) h
      exec_runs (commit None) seen rs ins a ls ls' w n x cs low is clear has end good ag h = commit_run base (plain is.1) a st ls ls' w n x rs has.0 good ag h
      exec_runs (commit (Some label)) seen rs ins a ls ls' w n x cs low is clear has end good ag h =
          commit_run base (plain is.1) a st ls ls' w n x rs has.0 good ag
          (λ good4 l4 ag4. label_run base (plain is.1) label is.0 (a + 1) st ls l4 (committed w) n x rs has.1.0 has.1.1.0 good4 ag4 h)
      exec_runs rollback seen rs ins a ls ls' w n x cs low is clear has end good ag h = rollback_run base (plain is) a st ls ls' w n x rs has.0 good ag h
      exec_runs (assert c place) seen rs ins a ls ls' w n x cs low is clear has end good ag h =
          let here_assert = here_behind code.instrs a (expr_code c a) (Assert place) [] (expr_end c a) (expr_length c a) has in
          value_runs c bool_form rs a ls ls' w n x _ (Behind base rs (expr_end c a + 1) st x) low is clear.fresh (has_front code.instrs a (expr_code c a) (Assert place ∷ []) has) (in_here code.instrs _ _ here_assert) good ag
          (λ v m le has_v l3 ag3 k.
          subst (λ v. At (expr_end c a) (v ∷ st) l3 (real base w) m x) (sym (bool_is sc.rels v has_v)) (assert_run base (is_true v) place (expr_end c a) st ls l3 w m x rs home here_assert good ag3 k)) h
      exec_runs return seen rs ins a ls ls' w n x cs low is clear has end good ag h = ret_none a ls' w n x cs is has.0 good h
      exec_runs (return_value e) seen rs ins a ls ls' w n x cs low is clear has end good ag h =
          let here_ret = here_behind code.instrs a (expr_code e a) (return_code p) [] (expr_end e a) (expr_length e a) has in
          value_runs e is.0 rs a ls ls' w n x _ (Behind base rs (expr_end e a + 1) st x) low is.1 clear.fresh (has_front code.instrs a (expr_code e a) (return_code p ∷ []) has) (in_here code.instrs _ _ here_ret) good ag
          (λ v m le has_v l3 ag3 k. ret_some v is.0 (expr_end e a) l3 w m x cs is.3 is.2 here_ret has_v good k) h
      exec_runs (call_proc k args) seen rs ins a ls ls' w n x cs low is clear has end good ag h =
          let here_call = here_behind code.instrs a (exprs_code args a) (Call k) [] (exprs_end args a) (exprs_length args a) has in
          exprs_run code sc O facts calls keep_turns depth funcs args is.0 rs a st ls ls' (real base w) w.state n x low is.1 clear.fresh (has_front code.instrs a (exprs_code args a) (Call k ∷ []) has) (in_here code.instrs _ _ here_call) (good_here sc.rels base x w good) ag
          (value_after base n (eval_all sc.hosts calls args ls w.state n) x w (λ vs m. resumed ls (calls k vs w m)) (Behind base rs (exprs_end args a + 1) st x) home _ good (all_within sc.hosts calls keep_turns args ls w.state n)
          (λ vs m le q have l3 ag3. call_run base (plain is.3) calls depth procs k is.0 vs (exprs_end args a) st ls l3 w m x rs home (omega (arith, low, le)) (named code sc O facts k false is.0 None is.2) have here_call good ag3 q)
          h)

      pub block_runs : (b : Block) (seen rs ins : List ℕ) (a : ℕ) (ls ls' : List Value) (w : World) (n : ℕ) (x : Around) → x.callers ≡ callers → n ≤ depth →
          BlockIsSound sc seen rs ins b → Clear sc.walks rs ins (walks_of_block b) → HasAt code.instrs a (block_code p b a) → EndsIn (block_end b a) (returns b) → IsGood sc.rels base x w → Agreed rs ls ls' →
          ThenDo base (exec_block sc.rels sc.hosts calls b ls w n) (Behind base rs (block_end b a) st x) home → At a st ls' (real base w) n x
      block_runs no_stmt seen rs ins a ls ls' w n x cs low is clear has end good ag h = h good ls' ag
      block_runs (then_stmt c no_stmt) seen rs ins a ls ls' w n x cs low is clear has end good ag h =
          exec_runs c seen rs ins a ls ls' w n x cs low is.0 (clear_front sc.walks rs ins (walks_of c) [] clear) (has_front code.instrs a (command_code p c a) [] has) end good ag
          (do_after base n (exec sc.rels sc.hosts calls c ls w n) _ (Behind base rs (command_end c a) st x) _ home (exec_within sc.rels sc.hosts calls keep_turns c ls w n)
          (λ ls4 w4 m le k good4 l4 ag4. k good4 l4 (agree_after sc.rels sc.own.slots seen rs c ls4 l4 ag4)) h)
      block_runs (then_stmt c (then_stmt d rest)) seen rs ins a ls ls' w n x cs low is clear has end good ag h =
          let a' = command_end c a in
          let behind = block_code p (then_stmt d rest) a' in
          let ws = walks_of_block (then_stmt d rest) in
          let has_rest = all_behind code.instrs a (command_code p c a) behind a' (command_length p c a) has in
          exec_runs c seen rs ins a ls ls' w n x cs low is.0 (clear_front sc.walks rs ins (walks_of c) ws clear) (has_front code.instrs a (command_code p c a) behind has) (end_before p c (then_stmt d rest) a has_rest end) good ag
          (do_after base n (exec sc.rels sc.hosts calls c ls w n) _ (Behind base rs (block_end (then_stmt d rest) a') st x) _ home (exec_within sc.rels sc.hosts calls keep_turns c ls w n)
          (λ ls4 w4 m le k good4 l4 ag4. block_runs (then_stmt d rest) (seen ++ sets_of c) (readable_after seen rs c) ins a' ls4 l4 w4 m x cs (omega (arith, low, le)) is.1 (clear_after sc seen rs ins c ws is.0 clear) has_rest end good4 ag4
          (do_map base (exec_block sc.rels sc.hosts calls (then_stmt d rest) ls4 w4 m) (Behind base rs (block_end (then_stmt d rest) a') st x) (Behind base (readable_after seen rs c) (block_end (then_stmt d rest) a') st x) home
          (λ ls5 w5 m5 k good5 l5 ag5. k good5 l5 (agree_after sc.rels sc.own.slots seen rs c ls5 l5 ag5)) k)) h)

      arms_run : (arms : Arms) (seen rs ins : List ℕ) (a stop : ℕ) (other : ℕ → Ending) (ls ls' : List Value) (w : World) (n : ℕ) (x : Around) → x.callers ≡ callers → n ≤ depth →
          ArmsAreSound sc seen rs ins arms → Clear sc.walks rs ins (walks_of_arms arms) → HasAt code.instrs a (arms_code p arms a stop) → EndsIn stop (arms_return arms) → arms_end arms a < length code.instrs → IsGood sc.rels base x w → Agreed rs ls ls' →
          ((m : ℕ) → m ≤ n → (l3 : List Value) → Agreed rs ls l3 → ThenDo base (other m) (Behind base rs stop st x) home → At (arms_end arms a) st l3 (real base w) m x) →
          ThenDo base (exec_arms sc.rels sc.hosts calls arms other ls w n) (Behind base rs stop st x) home → At a st ls' (real base w) n x
      arms_run no_arm seen rs ins a stop other ls ls' w n x cs low is clear has end inside good ag f h = f n (omega arith) ls' ag h
      arms_run (arm c block rest) seen rs ins a stop other ls ls' w n x cs low is clear has end inside good ag f h =
          let b = block_end block (expr_end c a + 1) in
          let cb = block_code p block (expr_end c a + 1) in
          let cr = arms_code p rest (b + 1) stop in
          let tail = all_behind code.instrs a (expr_code c a) (Unless (b + 1) ∷ (cb ++ Jump stop ∷ cr)) (expr_end c a) (expr_length c a) has in
          let has_rest = all_behind code.instrs (expr_end c a + 1) cb (Jump stop ∷ cr) b (block_length p block (expr_end c a + 1)) tail.1 in
          let clear' = clear_front sc.walks rs ins (walks_in c ++ walks_of_block block) (walks_of_arms rest) clear in
          value_runs c bool_form rs a ls ls' w n x _ (Behind base rs stop st x) low is.0 (clear_front sc.walks rs ins (walks_in c) (walks_of_block block) clear').fresh (has_front code.instrs a (expr_code c a) _ has) (in_here code.instrs _ _ tail.0) good ag
          (λ v m le has_v l3 ag3 k. value_step code sc O facts v (b + 1) (expr_end c a) st l3 (real base w) m x tail.0 (omega (arith, inside, arms_length p rest (b + 1) stop)) has_v
          (λ is_true_v. block_runs block seen rs ins (expr_end c a + 1) ls l3 w m x cs (omega (arith, low, le)) is.1 (clear_back sc.walks rs ins (walks_in c) (walks_of_block block) clear') (has_front code.instrs (expr_end c a + 1) cb (Jump stop ∷ cr) tail.1)
          (inl (in_here code.instrs _ _ has_rest.0)) good ag3
          (to_stop base rs b stop st x home (exec_block sc.rels sc.hosts calls block ls w m) (returns block) has_rest.0 (left_end stop (returns block) (arms_return rest) end) (λ e. block_not_on sc.rels sc.hosts calls block ls w m e)
          (subst (λ d. ThenDo base (by d (λ m. exec_block sc.rels sc.hosts calls block ls w m) (λ m. exec_arms sc.rels sc.hosts calls rest other ls w m) m) (Behind base rs stop st x) home) is_true_v k)))
          (λ is_false_v. arms_run rest (seen ++ sets_of_block block) rs ins (b + 1) stop other ls l3 w m x cs (omega (arith, low, le)) is.2 (clear_back sc.walks rs ins (walks_in c ++ walks_of_block block) (walks_of_arms rest) clear) has_rest.1 (right_end stop (returns block) (arms_return rest) end) inside good ag3
          (λ j le' l4 ag4 q. f j (omega (arith, le, le')) l4 ag4 q)
          (subst (λ d. ThenDo base (by d (λ m. exec_block sc.rels sc.hosts calls block ls w m) (λ m. exec_arms sc.rels sc.hosts calls rest other ls w m) m) (Behind base rs stop st x) home) is_false_v k)))
          h
