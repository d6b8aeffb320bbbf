-- The code of an expression gives what the expression means.
use Rattle.std.proofs.Common.{◌≡◌, ℕ, zero, suc, ◌+◌, ◌<◌, ◌≤◌, Bool, true, false, cond, List, [], ◌∷◌, ◌++◌, length, map, Option, Some, None, refl, sym, ap, ◌∙◌, subst, arith, append_assoc, append-nil}
use Rattle.std.specs.Prelude.{slice_get, pos}
use Rattle.hera_sets.specs.Rows.{Row, put, normal}
use Rattle.hera_sets.proofs.Members.{normal_ascending, normal-push}
use Rattle.hera_meaning.specs.declared.scalars.Kind.{Kind}
use Rattle.hera_meaning.specs.declared.hosts.HostSpec.{HostSpec}
use Rattle.hera_meaning.specs.declared.schemas.RelDecl.{RelDecl}
use Rattle.hera_meaning.specs.declared.trees.Op.{Op}
use Rattle.hera_meaning.specs.declared.trees.TrapName.TheVariants.{WhenFail}
use Rattle.hera_meaning.specs.Deltas.{Delta, fail, atoms, State, apply_of, rows_at}
use Rattle.hera_meaning.specs.Values.{Value, scalar, tuple, table, delta, int_value, bool_value, is_true, scalar_in, row_in, rows_in, delta_in, operand}
use Rattle.hera_meaning.specs.Hosts.{host_at, host_of, host_takes, host_gives, host_value, answer_by, answer_value}
use Rattle.hera_meaning.specs.Primitives.{Answer, gives, refuses, given, prim_of}
use Rattle.hera_meaning.specs.Trees.{Expr, constant, local, relation, prim, chain, and_all, or_any, when, select, map_each, call, host, Exprs, no_more, then_expr, Links, no_link, link, Hypos, no_hypo, hypo}
use Rattle.hera_meaning.specs.Worlds.{World, world_at, set_local, Ended, got, trapped, spent, and_then, turn, answered, by, supposed, result_of, Calls}
use Rattle.hera_meaning.specs.Expressions.{const_value, for_rows, chosen, eval, eval_all, every, some, eval_links, suppose}
use Rattle.hera_meaning.specs.Run.{stopped, out_of_turns}
use Rattle.hera_meaning.specs.Addresses.{expr_end, exprs_end, links_end, every_last, some_end, hypos_end, hypos_count}
use Rattle.hera_meaning.specs.Forms.{Form, of_scalar, of_tuple, of_table, of_delta, bool_form, OpIsOf}
use Rattle.hera_meaning.specs.Sound.{has_slot, walks_in, walks_in_all, walks_in_links, walks_in_hypos, Scope, IsCallee, IsNotNone, IsOf, AreOf, AreBools, LinksAreOf, AreDeltas}
use Rattle.hera_code.specs.declared.instrs.Code.{Code}
use Rattle.hera_code.specs.declared.instrs.Instr.{Instr}
use Rattle.hera_code.specs.declared.instrs.Instr.TheVariants.{Push, Load, Rel, Prim, Host, Jump, Unless, Back, Enter, Leave, Walk as walk_instr, Next, Keep, Gather, Yield, Call}
use Rattle.hera_code.specs.Scheme.{push_bool, leaves, expr_code, exprs_code, every_code, some_code, links_code, hypos_code}
use Rattle.hera_code.specs.Machine.{ended, quiet, ends, needs, needs_that, needs_address, on_some, pushes, rows_value, answers, answer_step, asks_host, act}
use Rattle.hera_code.specs.Reached.{Reached}
use Rattle.hera_codegen.proofs.Codec.{IsRowOf}
use Rattle.hera_codegen.proofs.HasForm.{HasForm, AllHave, AreRowsOf, IsDeltaIn, IsStateIn}
use Rattle.hera_codegen.proofs.Facts.{Facts, AnswerHas}
use Rattle.hera_codegen.proofs.Slots.{Fresh, fresh_front, fresh_back, fresh_tail, fresh_head, fresh_walk, Agree, slot_there, agree_set, agree_back, operand_there, within_there}
use Rattle.hera_codegen.proofs.Tables.{state_table, table_chosen, table_normal}
use Rattle.hera_codegen.proofs.Turns.{Within, KeepWithin, within_answered, eval_within, all_within, suppose_within}
use Rattle.hera_codegen.proofs.Places.{HasAt, has_front, all_behind, here_behind, in_here, expr_length, exprs_length, some_length, links_length, hypos_length}
use Rattle.hera_codegen.proofs.Values_of.{scalar_is, row_is, rows_is, delta_is, bool_is, const_has, fits_long}
use Rattle.hera_codegen.proofs.Steps.{Setting, Around, machine_at, Stands, Named, onto, popped, there, EndsAt, quiet_step, end_step, Then, then_map, then_after, FuncsRun}

-- the machine stands in this state, which is one
pub record Here (rels : List RelDecl) (w : World) (x : Around) (s : State) : Type 0 where
  pub state_is : IsStateIn rels s
  pub stands : Stands w x s

abbrev own_with : List Delta → ℕ → ℕ
own_with [] n = n
own_with (d ∷ ds) n = suc (own_with ds n)

-- around, with these layers on top
abbrev layered : List Delta → Around → Around
layered ds x = record x { layers = ds ++ x.layers; own = own_with ds x.own }

-- around, with a walk on top
abbrev pub walking : List Row → Option Row → List Row → Around → Around
walking rows cur set x = record x { walks = record { rows = rows; current = cur; gathered = set } ∷ x.walks }

module _ (code : Code) (sc : Scope) (O : Reached → Type 0) (facts : Facts sc.rels sc.hosts) where
  abbrev t : Setting
  t = record { code = code; rels = sc.rels; hosts = sc.hosts }

  abbrev Agreed : List ℕ → List Value → List Value → Type 0
  Agreed rs ls ls' = Agree sc.rels sc.own.slots rs ls ls'

  abbrev At : ℕ → List Value → List Value → World → ℕ → Around → Type 0
  At a st ls w n x = EndsAt t O a st ls w n x

  -- behind an expression: its value has its form, and the machine's locals agree
  abbrev pub After : Form → List ℕ → List Value → ℕ → List Value → World → Around → Value → ℕ → Type 0
  After f rs ls a st w x v n = HasForm sc.rels f v → (ls' : List Value) → Agree sc.rels sc.own.slots rs ls ls' → EndsAt t O a (v ∷ st) ls' w n x

  then_got : {A B : Type 0} (x : Ended A) (F : A → B) (P : B → ℕ → Type 0) (w : World) → Then t O (and_then x (λ v m. got (F v) m)) P w.events → Then t O x (λ v m. P (F v) m) w.events
  then_got (got v n) F P w h = h
  then_got (trapped name at) F P w h = h
  then_got spent F P w h = h

  push_step : (i : Instr) (v : Value) (a : ℕ) (st ls : List Value) (w : World) (n : ℕ) (x : Around) →
      slice_get code.instrs a ≡ Some i →
      act code sc.rels sc.hosts (Some i) w.stored (machine_at a st ls w n x) ≡ pushes (Some v) (machine_at a st ls w n x) →
      At (a + 1) (v ∷ st) ls w n x → At a st ls w n x
  push_step i v a st ls w n x here does end = quiet_step t O i w.stored (machine_at a st ls w n x) (machine_at (a + 1) (v ∷ st) ls w n x) w.events here does end

  -- ---- operations

  answer_run : (op : Op) (place : ℕ) (f : Form) (r : Answer) (args st ls : List Value) (a : ℕ) (w : World) (n : ℕ) (x : Around) →
      slice_get code.instrs a ≡ Some (Prim op place) →
      act code sc.rels sc.hosts (Some (Prim op place)) w.stored (machine_at a (onto args st) ls w n x) ≡ answer_step place r st (machine_at a (onto args st) ls w n x) →
      AnswerHas sc.rels f r →
      Then t O (answered place r n) (λ v n. HasForm sc.rels f v → At (a + 1) (v ∷ st) ls w n x) w.events → At a (onto args st) ls w n x
  answer_run op place f (gives v) args st ls a w n x here does has h =
      quiet_step t O (Prim op place) w.stored (machine_at a (onto args st) ls w n x) (machine_at (a + 1) (v ∷ st) ls w n x) w.events here does (h has)
  answer_run op place f (refuses name) args st ls a w n x here does has h =
      end_step t O (Prim op place) w.stored (machine_at a (onto args st) ls w n x) w.events (ended (stopped name place)) here does h

  prim_run : (op : Op) (place : ℕ) (fs : List Form) (f : Form) (args st ls : List Value) (a : ℕ) (w : World) (n : ℕ) (x : Around) →
      slice_get code.instrs a ≡ Some (Prim op place) → OpIsOf sc.rels op fs f → AllHave sc.rels fs args →
      Then t O (answered place (prim_of op args) n) (λ v n. HasForm sc.rels f v → At (a + 1) (v ∷ st) ls w n x) w.events → At a (onto args st) ls w n x
  prim_run op place fs f args st ls a w n x here is have h =
      let fine = facts.prims op fs f args is have in
      let m = machine_at a (onto args st) ls w n x in
      answer_run op place f (given op args) args st ls a w n x here
      (ap (λ k. on_some k (onto args st) (λ vs st. answers place op vs st m)) (sym (fits_long op args fine.0))
      ∙ popped args st (λ vs st. answers place op vs st m)
      ∙ ap (λ b. needs_that b (answer_step place (given op args) st m)) fine.0)
      fine.1
      (subst (λ r. Then t O (answered place r n) (λ v n. HasForm sc.rels f v → At (a + 1) (v ∷ st) ls w n x) w.events)
      (ap (λ b. cond b (given op args) (gives (int_value (pos 0)))) fine.0) h)

  -- ---- jumps

  pub jump_step : (b a : ℕ) (st ls : List Value) (w : World) (n : ℕ) (x : Around) →
      slice_get code.instrs a ≡ Some (Jump b) → b < length code.instrs → At b st ls w n x → At a st ls w n x
  jump_step b a st ls w n x here inside end =
      quiet_step t O (Jump b) w.stored (machine_at a st ls w n x) (machine_at b st ls w n x) w.events here (there code b (quiet (machine_at b st ls w n x)) inside) end

  -- a bool decides where it goes on
  unless_step : (c : Bool) (b a : ℕ) (st ls : List Value) (w : World) (n : ℕ) (x : Around) →
      slice_get code.instrs a ≡ Some (Unless b) → b < length code.instrs →
      (c ≡ true → At (a + 1) st ls w n x) → (c ≡ false → At b st ls w n x) → At a (bool_value c ∷ st) ls w n x
  unless_step true b a st ls w n x here inside f g =
      quiet_step t O (Unless b) w.stored (machine_at a (bool_value true ∷ st) ls w n x) (machine_at (a + 1) st ls w n x) w.events here (there code b (quiet (machine_at (a + 1) st ls w n x)) inside) (f refl)
  unless_step false b a st ls w n x here inside f g =
      quiet_step t O (Unless b) w.stored (machine_at a (bool_value false ∷ st) ls w n x) (machine_at b st ls w n x) w.events here (there code b (quiet (machine_at b st ls w n x)) inside) (g refl)

  -- the value of a condition decides where it goes on
  pub value_step : (v : Value) (b a : ℕ) (st ls : List Value) (w : World) (n : ℕ) (x : Around) →
      slice_get code.instrs a ≡ Some (Unless b) → b < length code.instrs → HasForm sc.rels bool_form v →
      (is_true v ≡ true → At (a + 1) st ls w n x) → (is_true v ≡ false → At b st ls w n x) → At a (v ∷ st) ls w n x
  value_step v b a st ls w n x here inside has f g =
      subst (λ v. At a (v ∷ st) ls w n x) (sym (bool_is sc.rels v has)) (unless_step (is_true v) b a st ls w n x here inside f g)

  -- the way back spends a turn
  back_step : {A : Type 0} (top a : ℕ) (st ls : List Value) (w : World) (n : ℕ) (x : Around) (go : ℕ → Ended A) (P : A → ℕ → Type 0) →
      slice_get code.instrs a ≡ Some (Back top) → top < length code.instrs →
      ((m : ℕ) → m < n → Then t O (go m) P w.events → At top st ls w m x) →
      Then t O (turn n go) P w.events → At a st ls w n x
  back_step top a st ls w zero x go P here inside f h =
      end_step t O (Back top) w.stored (machine_at a st ls w 0 x) w.events (ended out_of_turns) here (there code top (ends (ended out_of_turns)) inside) h
  back_step top a st ls w (suc n) x go P here inside f h =
      quiet_step t O (Back top) w.stored (machine_at a st ls w (suc n) x) (machine_at top st ls w n x) w.events here (there code top (quiet (machine_at top st ls w n x)) inside) (f n (omega arith) h)

  -- ---- layers

  leaves_run : (ds : List Delta) (a : ℕ) (st ls : List Value) (w : World) (n : ℕ) (x : Around) →
      HasAt code.instrs a (leaves (length ds)) → At (a + length ds) st ls w n x → At a st ls w n (layered ds x)
  leaves_run [] a st ls w n x has h = let e : a + 0 ≡ a = omega arith in subst (λ a. At a st ls w n x) e h
  leaves_run (d ∷ ds) a st ls w n x has h =
      let e : a + length (d ∷ ds) ≡ a + 1 + length ds = omega arith in
      quiet_step t O Leave w.stored (machine_at a st ls w n (layered (d ∷ ds) x)) (machine_at (a + 1) st ls w n (layered ds x)) w.events has.0 refl
      (leaves_run ds (a + 1) st ls w n x has.1 (subst (λ a. At a st ls w n x) e h))

  -- a delta as a layer
  enter_step : (place : ℕ) (d : Delta) (ds : List Delta) (a : ℕ) (st ls : List Value) (w : World) (s : State) (n : ℕ) (x : Around) →
      slice_get code.instrs a ≡ Some (Enter place) → IsDeltaIn sc.rels d → Here sc.rels w (layered ds x) s →
      Then t O (supposed place s d n) (λ s' n. (e : Delta) → Here sc.rels w (layered (e ∷ ds) x) s' → At (a + 1) st ls w n (layered (e ∷ ds) x)) w.events →
      At a (delta d ∷ st) ls w n (layered ds x)
  enter_step place fail ds a st ls w s n x at_a has here h =
      end_step t O (Enter place) w.stored (machine_at a (delta fail ∷ st) ls w n (layered ds x)) w.events (ended (stopped WhenFail place)) at_a refl h
  enter_step place (atoms xs) ds a st ls w s n x at_a has here h =
      quiet_step t O (Enter place) w.stored (machine_at a (delta (atoms xs) ∷ st) ls w n (layered ds x)) (machine_at (a + 1) st ls w n (layered (atoms xs ∷ ds) x)) w.events at_a
      (ap (λ b. needs_that b (quiet (machine_at (a + 1) st ls w n (layered (atoms xs ∷ ds) x)))) (facts.deltas (atoms xs) has))
      (h (atoms xs) (record { state_is = facts.applied s xs here.state_is has; stands = ap (λ s. apply_of s (atoms xs)) here.stands }))

  -- ---- walks

  -- a slot that the machine has
  slot_of : (rs : List ℕ) (i : ℕ) (f : Form) (ls ls' : List Value) → slice_get sc.own.slots i ≡ Some f → Agreed rs ls ls' → (v : Value) × (slice_get ls' i ≡ Some v)
  slot_of rs i f ls ls' e h = within_there ls' i (slot_there sc.rels sc.own.slots rs i f ls ls' e h)

  pub next_some : (i b top : ℕ) (r : Row) (rows set : List Row) (cur : Option Row) (v : Value) (st ls : List Value) (w : World) (n : ℕ) (x : Around) →
      slice_get code.instrs top ≡ Some (Next i b) → slice_get ls i ≡ Some v → b < length code.instrs →
      At (top + 1) st (set_local ls i (tuple r)) w n (walking rows (Some r) set x) → At top st ls w n (walking (r ∷ rows) cur set x)
  next_some i b top r rows set cur v st ls w n x here slot inside end =
      let m' = machine_at (top + 1) st (set_local ls i (tuple r)) w n (walking rows (Some r) set x) in
      quiet_step t O (Next i b) w.stored (machine_at top st ls w n (walking (r ∷ rows) cur set x)) m' w.events here
      (ap (λ o. needs o (λ v. needs_address code b (quiet m'))) slot ∙ there code b (quiet m') inside) end

  pub next_none : (i b top : ℕ) (set : List Row) (cur : Option Row) (v : Value) (st ls : List Value) (w : World) (n : ℕ) (x : Around) →
      slice_get code.instrs top ≡ Some (Next i b) → slice_get ls i ≡ Some v → b < length code.instrs →
      At b st ls w n (walking [] None set x) → At top st ls w n (walking [] cur set x)
  next_none i b top set cur v st ls w n x here slot inside end =
      let m' = machine_at b st ls w n (walking [] None set x) in
      quiet_step t O (Next i b) w.stored (machine_at top st ls w n (walking [] cur set x)) m' w.events here
      (ap (λ o. needs o (λ v. needs_address code b (quiet m'))) slot ∙ there code b (quiet m') inside) end

  -- a walk over rows: top is the address of Next, b that behind the body
  module _ (i top b : ℕ) (ks : List Kind) (rs : List ℕ) (ls st : List Value) (w : World) (x : Around) (depth : ℕ)
      (slot : slice_get sc.own.slots i ≡ Some (of_tuple ks)) (out : has_slot rs i ≡ false)
      (hn : slice_get code.instrs top ≡ Some (Next i (b + 1 + 1))) (hb : slice_get code.instrs (b + 1) ≡ Some (Back top)) (hy : slice_get code.instrs (b + 1 + 1) ≡ Some Yield)
      (body : Row → ℕ → Ended Value) (within : (r : Row) (m : ℕ) → Within m (body r m)) (g : Form)
      (runs : (r : Row) (rows set : List Row) (cur : Option Row) (ls' : List Value) (n : ℕ) → IsRowOf ks r → n ≤ depth → Agree sc.rels sc.own.slots (i ∷ rs) (set_local ls i (tuple r)) ls' →
      Then t O (body r n) (After g (i ∷ rs) (set_local ls i (tuple r)) b st w (walking rows cur set x)) w.events → EndsAt t O (top + 1) st ls' w n (walking rows cur set x)) where
    abbrev End : List Row → List Value → ℕ → Type 0
    End set ls' n = EndsAt t O (b + 1 + 1 + 1) (table set ∷ st) ls' w n x

    -- no row is left
    over_run : (set : List Row) (cur : Option Row) (ls' : List Value) (n : ℕ) → Agreed rs ls ls' → End set ls' n → At top st ls' w n (walking [] cur set x)
    over_run set cur ls' n ag end =
        let v = slot_of rs i (of_tuple ks) ls ls' slot ag in
        next_none i (b + 1 + 1) top set cur v.0 st ls' w n x hn v.1 (in_here code.instrs (b + 1 + 1) Yield hy)
        (quiet_step t O Yield w.stored (machine_at (b + 1 + 1) st ls' w n (walking [] None set x)) (machine_at (b + 1 + 1 + 1) (table set ∷ st) ls' w n x) w.events hy refl end)

    -- a row is there
    row_run : (r : Row) (rows set : List Row) (cur : Option Row) (ls' : List Value) (n : ℕ) → IsRowOf ks r → n ≤ depth → Agreed rs ls ls' →
        Then t O (body r n) (After g (i ∷ rs) (set_local ls i (tuple r)) b st w (walking rows (Some r) set x)) w.events → At top st ls' w n (walking (r ∷ rows) cur set x)
    row_run r rows set cur ls' n is low ag h =
        let v = slot_of rs i (of_tuple ks) ls ls' slot ag in
        next_some i (b + 1 + 1) top r rows set cur v.0 st ls' w n x hn v.1 (in_here code.instrs (b + 1 + 1) Yield hy)
        (runs r rows set (Some r) (set_local ls' i (tuple r)) n is low (agree_set sc.rels sc.own.slots rs i (of_tuple ks) (tuple r) ls ls' slot is ag) h)

    -- behind the body a turn is spent
    turn_run : {A : Type 0} (ls' : List Value) (n : ℕ) (y : Around) (go : ℕ → Ended A) (P : A → ℕ → Type 0) → ((m : ℕ) → m < n → Then t O (go m) P w.events → At top st ls' w m y) → Then t O (turn n go) P w.events → At (b + 1) st ls' w n y
    turn_run ls' n y go P f h = back_step top (b + 1) st ls' w n y go P hb (in_here code.instrs top (Next i (b + 1 + 1)) hn) f h

    -- the rows kept so far are those of done
    abbrev Chosen : List Row → List Row → List Value → ℕ → Type 0
    Chosen done rows vs n = (ls' : List Value) → Agree sc.rels sc.own.slots rs ls ls' → EndsAt t O (b + 1 + 1 + 1) (table (normal (done ++ chosen rows vs)) ∷ st) ls' w n x

    keep_run : (c : Bool) (r : Row) (rows done : List Row) (ls' : List Value) (n : ℕ) → slice_get code.instrs b ≡ Some Keep → n ≤ depth → Agreed rs ls ls' →
        ((done : List Row) (ls' : List Value) (m : ℕ) → m ≤ depth → Agreed rs ls ls' → Then t O (for_rows body rows m) (Chosen done rows) w.events → At top st ls' w m (walking rows (Some r) (normal done) x)) →
        Then t O (turn n (λ m. and_then (for_rows body rows m) (λ vs m. got (bool_value c ∷ vs) m))) (Chosen done (r ∷ rows)) w.events →
        At b (bool_value c ∷ st) ls' w n (walking rows (Some r) (normal done) x)
    keep_run true r rows done ls' n hk low ag ih h =
        quiet_step t O Keep w.stored (machine_at b (bool_value true ∷ st) ls' w n (walking rows (Some r) (normal done) x)) (machine_at (b + 1) st ls' w n (walking rows (Some r) (put r (normal done)) x)) w.events hk refl
        (turn_run ls' n (walking rows (Some r) (put r (normal done)) x) _ (Chosen done (r ∷ rows))
        (λ m less k. subst (λ set. At top st ls' w m (walking rows (Some r) set x)) (normal-push done r)
        (ih (done ++ r ∷ []) ls' m (omega (arith, low, less)) ag
        (then_map t O (for_rows body rows m) _ (Chosen (done ++ r ∷ []) rows) w.events
        (λ vs j p ls'' ag. subst (λ q. End (normal q) ls'' j) (sym (append_assoc done (r ∷ []) (chosen rows vs))) (p ls'' ag))
        (then_got (for_rows body rows m) (λ vs. bool_value true ∷ vs) (Chosen done (r ∷ rows)) w k))))
        h)
    keep_run false r rows done ls' n hk low ag ih h =
        quiet_step t O Keep w.stored (machine_at b (bool_value false ∷ st) ls' w n (walking rows (Some r) (normal done) x)) (machine_at (b + 1) st ls' w n (walking rows (Some r) (normal done) x)) w.events hk refl
        (turn_run ls' n (walking rows (Some r) (normal done) x) _ (Chosen done (r ∷ rows))
        (λ m less k. ih done ls' m (omega (arith, low, less)) ag
        (then_got (for_rows body rows m) (λ vs. bool_value false ∷ vs) (Chosen done (r ∷ rows)) w k))
        h)

    pub select_run : g ≡ bool_form → slice_get code.instrs b ≡ Some Keep → (rows : List Row) → AreRowsOf ks rows → (done : List Row) (cur : Option Row) (ls' : List Value) (n : ℕ) → n ≤ depth → Agreed rs ls ls' →
        Then t O (for_rows body rows n) (Chosen done rows) w.events → At top st ls' w n (walking rows cur (normal done) x)
    select_run is_bool hk [] are done cur ls' n low ag h =
        over_run (normal done) cur ls' n ag (subst (λ q. End (normal q) ls' n) (append-nil done) (h ls' ag))
    select_run is_bool hk (r ∷ rows) are done cur ls' n low ag h =
        row_run r rows (normal done) cur ls' n are.0 low ag
        (then_after t O n (body r n) _ (Chosen done (r ∷ rows)) _ w.events (within r n)
        (λ v m le k has ls'' ag'.
        let e = bool_is sc.rels v (subst (λ f. HasForm sc.rels f v) is_bool has) in
        subst (λ v. At b (v ∷ st) ls'' w m (walking rows (Some r) (normal done) x)) (sym e)
        (keep_run (is_true v) r rows done ls'' m hk (omega (arith, low, le)) (agree_back sc.rels sc.own.slots rs i (tuple r) ls ls'' out ag')
        (λ done ls' j low ag k. select_run is_bool hk rows are.1 done (Some r) ls' j low ag k)
        (subst (λ v. Then t O (turn m (λ m. and_then (for_rows body rows m) (λ vs m. got (v ∷ vs) m))) (Chosen done (r ∷ rows)) w.events) e k)))
        h)

    -- the rows gathered so far are those of done
    abbrev Mapped : List Kind → List Row → List Value → ℕ → Type 0
    Mapped ms done vs n = AreRowsOf ms (map row_in vs) → (ls' : List Value) → Agree sc.rels sc.own.slots rs ls ls' → EndsAt t O (b + 1 + 1 + 1) (table (normal (done ++ map row_in vs)) ∷ st) ls' w n x

    pub map_run : (ms : List Kind) → g ≡ of_tuple ms → slice_get code.instrs b ≡ Some Gather → (rows : List Row) → AreRowsOf ks rows → (done : List Row) (cur : Option Row) (ls' : List Value) (n : ℕ) → n ≤ depth → Agreed rs ls ls' →
        Then t O (for_rows body rows n) (Mapped ms done) w.events → At top st ls' w n (walking rows cur (normal done) x)
    map_run ms is_tuple hg [] are done cur ls' n low ag h =
        over_run (normal done) cur ls' n ag (subst (λ q. End (normal q) ls' n) (append-nil done) (h tt ls' ag))
    map_run ms is_tuple hg (r ∷ rows) are done cur ls' n low ag h =
        row_run r rows (normal done) cur ls' n are.0 low ag
        (then_after t O n (body r n) _ (Mapped ms done) _ w.events (within r n)
        (λ v m le k has ls'' ag'.
        let q = row_is sc.rels ms v (subst (λ f. HasForm sc.rels f v) is_tuple has) in
        subst (λ u. At b (u ∷ st) ls'' w m (walking rows (Some r) (normal done) x)) (sym q.0)
        (quiet_step t O Gather w.stored (machine_at b (tuple (row_in v) ∷ st) ls'' w m (walking rows (Some r) (normal done) x)) (machine_at (b + 1) st ls'' w m (walking rows (Some r) (put (row_in v) (normal done)) x)) w.events hg refl
        (turn_run ls'' m (walking rows (Some r) (put (row_in v) (normal done)) x) _ (Mapped ms done)
        (λ j less k. subst (λ set. At top st ls'' w j (walking rows (Some r) set x)) (normal-push done (row_in v))
        (map_run ms is_tuple hg rows are.1 (done ++ row_in v ∷ []) (Some r) ls'' j (omega (arith, low, le, less)) (agree_back sc.rels sc.own.slots rs i (tuple r) ls ls'' out ag')
        (then_map t O (for_rows body rows j) _ (Mapped ms (done ++ row_in v ∷ [])) w.events
        (λ vs i' p all ls3 ag3. subst (λ q. End (normal q) ls3 i') (sym (append_assoc done (row_in v ∷ []) (map row_in vs))) (p (q.1, all) ls3 ag3))
        (then_got (for_rows body rows j) (λ vs. v ∷ vs) (Mapped ms done) w k))))
        k)))
        h)

  -- ---- hosts

  host_step : (h : ℕ) (spec : HostSpec) (v : Value) (a : ℕ) (st ls : List Value) (w : World) (n : ℕ) (x : Around) →
      slice_get code.instrs a ≡ Some (Host h) → host_at sc.hosts h ≡ Some spec → HasForm sc.rels (of_scalar (host_takes spec)) v →
      At (a + 1) (answer_value (host_of spec (scalar_in v)) ∷ st) ls w n x → At a (v ∷ st) ls w n x
  host_step h spec v a st ls w n x here is has end =
      let q = scalar_is sc.rels (host_takes spec) v has in
      let m = machine_at a (scalar (scalar_in v) ∷ st) ls w n x in
      let m' = machine_at (a + 1) (answer_value (host_of spec (scalar_in v)) ∷ st) ls w n x in
      subst (λ v. At a (v ∷ st) ls w n x) (sym q.0)
      (quiet_step t O (Host h) w.stored m m' w.events here
      (ap (λ o. asks_host o (scalar (scalar_in v)) st m) is ∙ ap (λ b. needs_that b (quiet m')) q.1.0) end)

  host_run : (h : ℕ) (spec : HostSpec) (vs : List Value) (a : ℕ) (st ls : List Value) (w : World) (n : ℕ) (x : Around) →
      slice_get code.instrs a ≡ Some (Host h) → host_at sc.hosts h ≡ Some spec → AllHave sc.rels (of_scalar (host_takes spec) ∷ []) vs →
      (HasForm sc.rels (of_scalar (host_gives spec)) (host_value sc.hosts h (scalar_in (operand vs 0))) → At (a + 1) (host_value sc.hosts h (scalar_in (operand vs 0)) ∷ st) ls w n x) →
      At a (onto vs st) ls w n x
  host_run h spec [] a st ls w n x here is has f = absurd has
  host_run h spec (v ∷ u ∷ vs) a st ls w n x here is has f = absurd has.1
  host_run h spec (v ∷ []) a st ls w n x here is has f =
      let e : answer_value (host_of spec (scalar_in v)) ≡ host_value sc.hosts h (scalar_in v) = sym (ap (λ o. answer_by o (scalar_in v)) is) in
      let q = scalar_is sc.rels (host_takes spec) v has.0 in
      host_step h spec v a st ls w n x here is has.0
      (subst (λ u. At (a + 1) (u ∷ st) ls w n x) (sym e) (f (subst (λ u. HasForm sc.rels (of_scalar (host_gives spec)) u) e (facts.answers h spec (scalar_in v) is q.1))))

  pub named : (k : ℕ) (func : Bool) (fs : List Form) (r : Option Form) → IsCallee sc k func fs r → Named sc.bodies sc.forms k func fs r
  named k func fs r h = record {
    body = h.body;
    own = h.forms;
    behind_main = h.behind_main;
    body_is = h.body_is;
    forms_are = h.forms_are;
    func_is = h.func_is;
    params_are = h.params_are;
    result_is = h.result_is;
  }

  -- ---- `&&` and `||`

  -- the last instruction of `&&` pushes false
  every_false : (es : Exprs) (a last : ℕ) → IsNotNone es → every_last es a ≡ last → HasAt code.instrs a (every_code es a last) → slice_get code.instrs last ≡ Some (push_bool false)
  every_false no_more a last some_there e has = absurd some_there
  every_false (then_expr d no_more) a last some_there e has =
      subst (λ q. slice_get code.instrs q ≡ Some (push_bool false)) e
      (all_behind code.instrs a (expr_code d a) (Jump (last + 1) ∷ push_bool false ∷ []) (expr_end d a) (expr_length d a) has).1.0
  every_false (then_expr d (then_expr f fs)) a last some_there e has =
      every_false (then_expr f fs) (expr_end d a + 1) last tt e
      (all_behind code.instrs a (expr_code d a) (Unless last ∷ every_code (then_expr f fs) (expr_end d a + 1) last) (expr_end d a) (expr_length d a) has).1

  -- behind expressions: their values have their forms
  abbrev pub Args : List Form → List ℕ → List Value → ℕ → List Value → World → Around → List Value → ℕ → Type 0
  Args fs rs ls a st w x vs n = AllHave sc.rels fs vs → (ls' : List Value) → Agree sc.rels sc.own.slots rs ls ls' → EndsAt t O a (onto vs st) ls' w n x

  -- behind deltas: they are layers
  abbrev Layers : ℕ → List ℕ → List Value → ℕ → List Value → World → Around → State → ℕ → Type 0
  Layers count rs ls a st w x s n = (ds : List Delta) → length ds ≡ count → Here sc.rels w (layered ds x) s → (ls' : List Value) → Agree sc.rels sc.own.slots rs ls ls' → EndsAt t O a st ls' w n (layered ds x)

  module _ (calls : Calls) (keep_turns : KeepWithin calls) (depth : ℕ) (funcs : FuncsRun t O sc.bodies sc.forms depth calls) where
    mutual
      pub eval_runs : (e : Expr) (f : Form) (rs : List ℕ) (a : ℕ) (st ls ls' : List Value) (w : World) (s : State) (n : ℕ) (x : Around) → n ≤ depth →
          IsOf sc rs e f → Fresh rs (walks_in e) → HasAt code.instrs a (expr_code e a) → expr_end e a < length code.instrs → Here sc.rels w x s → Agree sc.rels sc.own.slots rs ls ls' →
          Then t O (eval sc.hosts calls e ls s n) (After f rs ls (expr_end e a) st w x) w.events → EndsAt t O a st ls' w n x
      eval_runs (constant c) f rs a st ls ls' w s n x low is fresh has inside here ag h =
          push_step (Push c) (const_value c) a st ls' w n x has.0 refl (h (const_has sc.rels c f is.0 is.1) ls' ag)
      eval_runs (local i) f rs a st ls ls' w s n x low is fresh has inside here ag h =
          let k = ag.held i f is.0 is.1 in
          let e : operand ls i ≡ k.value = operand_there ls i k.value k.here in
          push_step (Load i) k.value a st ls' w n x has.0 (ap (λ o. pushes o (machine_at a st ls' w n x)) k.there)
          (subst (λ v. At (a + 1) (v ∷ st) ls' w n x) e (h (subst (λ v. HasForm sc.rels f v) (sym e) k.has) ls' ag))
      eval_runs (relation r) f rs a st ls ls' w s n x low is fresh has inside here ag h =
          let k = state_table sc.rels s r here.state_is is.0 in
          push_step (Rel (record { 0 = r })) (table (rows_at s r)) a st ls' w n x has.0
          (ap (λ s. pushes (rows_value (slice_get s r)) (machine_at a st ls' w n x)) here.stands ∙ ap (λ o. pushes (rows_value o) (machine_at a st ls' w n x)) k.there)
          (h (subst (λ f. HasForm sc.rels f (table (rows_at s r))) is.1 k.table_is) ls' ag)
      eval_runs (prim op args place) f rs a st ls ls' w s n x low is fresh has inside here ag h =
          let here_prim = here_behind code.instrs a (exprs_code args a) (Prim op place) [] (exprs_end args a) (exprs_length args a) has in
          exprs_run args is.0 rs a st ls ls' w s n x low is.1 fresh (has_front code.instrs a (exprs_code args a) (Prim op place ∷ []) has) (in_here code.instrs _ _ here_prim) here ag
          (then_after t O n (eval_all sc.hosts calls args ls s n) _ (After f rs ls (exprs_end args a + 1) st w x) _ w.events (all_within sc.hosts calls keep_turns args ls s n)
          (λ vs m le k have ls'' ag''. prim_run op place is.0 f vs st ls'' (exprs_end args a) w m x here_prim is.2 have
          (then_map t O (answered place (prim_of op vs) m) _ _ w.events (λ v j p has_v. p has_v ls'' ag'') k))
          h)
      eval_runs (chain first links) f rs a st ls ls' w s n x low is fresh has inside here ag h =
          let cf = expr_code first a in
          let cl = links_code links (expr_end first a) in
          eval_runs first is.0 rs a st ls ls' w s n x low is.1 (fresh_front rs (walks_in first) (walks_in_links links) fresh) (has_front code.instrs a cf cl has) (omega (arith, inside, links_length links (expr_end first a))) here ag
          (then_after t O n (eval sc.hosts calls first ls s n) _ (After f rs ls (links_end links (expr_end first a)) st w x) _ w.events (eval_within sc.hosts calls keep_turns first ls s n)
          (λ v m le k has_v ls'' ag''. links_run links is.0 f rs (expr_end first a) v st ls ls'' w s m x (omega (arith, low, le)) is.2 (fresh_back rs (walks_in first) (walks_in_links links) fresh)
          (all_behind code.instrs a cf cl (expr_end first a) (expr_length first a) has) inside here has_v ag'' k)
          h)
      eval_runs (and_all args) f rs a st ls ls' w s n x low is fresh has inside here ag h =
          every_run args rs a (every_last args a) st ls ls' w s n x low is.0 is.1 fresh has (every_false args a (every_last args a) is.0 refl has) inside here ag
          (subst (λ f. Then t O (every sc.hosts calls args ls s n) (After f rs ls (every_last args a + 1) st w x) w.events) is.2 h)
      eval_runs (or_any args) f rs a st ls ls' w s n x low is fresh has inside here ag h =
          some_run args rs a (some_end args a) st ls ls' w s n x low is.0 is.1 fresh has refl inside here ag
          (subst (λ f. Then t O (some sc.hosts calls args ls s n) (After f rs ls (some_end args a) st w x) w.events) is.2 h)
      eval_runs (when body hypos) f rs a st ls ls' w s n x low is fresh has inside here ag h =
          let ch = hypos_code hypos a in
          let a' = hypos_end hypos a in
          let cb = expr_code body a' in
          let cl = leaves (hypos_count hypos) in
          let has_body = all_behind code.instrs a ch (cb ++ cl) a' (hypos_length hypos a) has in
          hypos_run hypos rs a st ls ls' w s n x low is.0 (fresh_back rs (walks_in body) (walks_in_hypos hypos) fresh) (has_front code.instrs a ch (cb ++ cl) has) here ag
          (then_after t O n (suppose sc.hosts calls hypos ls s n) _ (After f rs ls (expr_end body a' + hypos_count hypos) st w x) _ w.events (suppose_within sc.hosts calls keep_turns hypos ls s n)
          (λ s' m le k ds many here' ls'' ag''.
          eval_runs body f rs a' st ls ls'' w s' m (layered ds x) (omega (arith, low, le)) is.1 (fresh_front rs (walks_in body) (walks_in_hypos hypos) fresh) (has_front code.instrs a' cb cl has_body) (omega (arith, inside)) here' ag''
          (then_map t O (eval sc.hosts calls body ls s' m) _ (After f rs ls (expr_end body a') st w (layered ds x)) w.events
          (λ v j p has_v ls3 ag3. leaves_run ds (expr_end body a') (v ∷ st) ls3 w j x
          (subst (λ c. HasAt code.instrs (expr_end body a') (leaves c)) (sym many) (all_behind code.instrs a' cb cl (expr_end body a') (expr_length body a') has_body))
          (subst (λ c. At (expr_end body a' + c) (v ∷ st) ls3 w j x) (sym many) (p has_v ls3 ag3)))
          k))
          h)
      eval_runs (select i of body) f rs a st ls ls' w s n x low is fresh has inside here ag h =
          let top = expr_end of a + 1 in
          let b = expr_end body (top + 1) in
          let cb = expr_code body (top + 1) in
          let tail = all_behind code.instrs a (expr_code of a) (walk_instr ∷ Next i (b + 1 + 1) ∷ (cb ++ Keep ∷ Back top ∷ Yield ∷ [])) (expr_end of a) (expr_length of a) has in
          let last = all_behind code.instrs (top + 1) cb (Keep ∷ Back top ∷ Yield ∷ []) b (expr_length body (top + 1)) tail.1.1 in
          let fresh' = fresh_tail rs i (walks_in of ++ walks_in body) fresh in
          eval_runs of (of_table is.0) rs a st ls ls' w s n x low is.1 (fresh_front rs (walks_in of) (walks_in body) fresh') (has_front code.instrs a (expr_code of a) _ has) (in_here code.instrs _ _ tail.0) here ag
          (then_after t O n (eval sc.hosts calls of ls s n) _ (After f rs ls (b + 1 + 1 + 1) st w x) _ w.events (eval_within sc.hosts calls keep_turns of ls s n)
          (λ v m le k has_v ls'' ag''.
          let q = rows_is sc.rels is.0 v has_v in
          subst (λ v. At (expr_end of a) (v ∷ st) ls'' w m x) (sym q.0)
          (quiet_step t O walk_instr w.stored (machine_at (expr_end of a) (table (rows_in v) ∷ st) ls'' w m x) (machine_at top st ls'' w m (walking (rows_in v) None [] x)) w.events tail.0 refl
          (select_run i top b is.0 rs ls st w x depth is.2 (fresh_head rs i (walks_in of ++ walks_in body) fresh) tail.1.0 last.1.0 last.1.1.0
          (λ r m. eval sc.hosts calls body (set_local ls i (tuple r)) s m) (λ r m. eval_within sc.hosts calls keep_turns body (set_local ls i (tuple r)) s m) bool_form
          (λ r rows set cur l3 j is_row low3 ag3 k3.
          eval_runs body bool_form (i ∷ rs) (top + 1) st (set_local ls i (tuple r)) l3 w s j (walking rows cur set x) low3 is.3
          (fresh_back (i ∷ rs) (walks_in of) (walks_in body) (fresh_walk rs i (walks_in of ++ walks_in body) fresh)) (has_front code.instrs (top + 1) cb _ tail.1.1) (in_here code.instrs _ _ last.0)
          (record { state_is = here.state_is; stands = here.stands }) ag3 k3)
          refl last.0 (rows_in v) q.1.rows_are [] None ls'' m (omega (arith, low, le)) ag''
          (then_map t O (for_rows (λ r m. eval sc.hosts calls body (set_local ls i (tuple r)) s m) (rows_in v) m) _ _ w.events
          (λ vs j p l3 ag3.
          let is_table = table_chosen is.0 (rows_in v) vs q.1 in
          subst (λ q. At (b + 1 + 1 + 1) (table q ∷ st) l3 w j x) (sym (normal_ascending (chosen (rows_in v) vs) is_table.ascending))
          (p (subst (λ f. HasForm sc.rels f (table (chosen (rows_in v) vs))) (sym is.4) is_table) l3 ag3))
          (then_got (for_rows (λ r m. eval sc.hosts calls body (set_local ls i (tuple r)) s m) (rows_in v) m) (λ vs. table (chosen (rows_in v) vs)) (After f rs ls (b + 1 + 1 + 1) st w x) w k)))))
          h)
      eval_runs (map_each i of body) f rs a st ls ls' w s n x low is fresh has inside here ag h =
          let top = expr_end of a + 1 in
          let b = expr_end body (top + 1) in
          let cb = expr_code body (top + 1) in
          let tail = all_behind code.instrs a (expr_code of a) (walk_instr ∷ Next i (b + 1 + 1) ∷ (cb ++ Gather ∷ Back top ∷ Yield ∷ [])) (expr_end of a) (expr_length of a) has in
          let last = all_behind code.instrs (top + 1) cb (Gather ∷ Back top ∷ Yield ∷ []) b (expr_length body (top + 1)) tail.1.1 in
          let fresh' = fresh_tail rs i (walks_in of ++ walks_in body) fresh in
          eval_runs of (of_table is.0) rs a st ls ls' w s n x low is.2 (fresh_front rs (walks_in of) (walks_in body) fresh') (has_front code.instrs a (expr_code of a) _ has) (in_here code.instrs _ _ tail.0) here ag
          (then_after t O n (eval sc.hosts calls of ls s n) _ (After f rs ls (b + 1 + 1 + 1) st w x) _ w.events (eval_within sc.hosts calls keep_turns of ls s n)
          (λ v m le k has_v ls'' ag''.
          let q = rows_is sc.rels is.0 v has_v in
          subst (λ v. At (expr_end of a) (v ∷ st) ls'' w m x) (sym q.0)
          (quiet_step t O walk_instr w.stored (machine_at (expr_end of a) (table (rows_in v) ∷ st) ls'' w m x) (machine_at top st ls'' w m (walking (rows_in v) None [] x)) w.events tail.0 refl
          (map_run i top b is.0 rs ls st w x depth is.3 (fresh_head rs i (walks_in of ++ walks_in body) fresh) tail.1.0 last.1.0 last.1.1.0
          (λ r m. eval sc.hosts calls body (set_local ls i (tuple r)) s m) (λ r m. eval_within sc.hosts calls keep_turns body (set_local ls i (tuple r)) s m) (of_tuple is.1)
          (λ r rows set cur l3 j is_row low3 ag3 k3.
          eval_runs body (of_tuple is.1) (i ∷ rs) (top + 1) st (set_local ls i (tuple r)) l3 w s j (walking rows cur set x) low3 is.4
          (fresh_back (i ∷ rs) (walks_in of) (walks_in body) (fresh_walk rs i (walks_in of ++ walks_in body) fresh)) (has_front code.instrs (top + 1) cb _ tail.1.1) (in_here code.instrs _ _ last.0)
          (record { state_is = here.state_is; stands = here.stands }) ag3 k3)
          is.1 refl last.0 (rows_in v) q.1.rows_are [] None ls'' m (omega (arith, low, le)) ag''
          (then_map t O (for_rows (λ r m. eval sc.hosts calls body (set_local ls i (tuple r)) s m) (rows_in v) m) _ _ w.events
          (λ vs j p all l3 ag3.
          p (subst (λ f. HasForm sc.rels f (table (normal (map row_in vs)))) (sym is.5) (table_normal is.1 (map row_in vs) all)) l3 ag3)
          (then_got (for_rows (λ r m. eval sc.hosts calls body (set_local ls i (tuple r)) s m) (rows_in v) m) (λ vs. table (normal (map row_in vs))) (After f rs ls (b + 1 + 1 + 1) st w x) w k)))))
          h)
      eval_runs (call k args) f rs a st ls ls' w s n x low is fresh has inside here ag h =
          let here_call = here_behind code.instrs a (exprs_code args a) (Call k) [] (exprs_end args a) (exprs_length args a) has in
          exprs_run args is.0 rs a st ls ls' w s n x low is.1 fresh (has_front code.instrs a (exprs_code args a) (Call k ∷ []) has) (in_here code.instrs _ _ here_call) here ag
          (then_after t O n (eval_all sc.hosts calls args ls s n) _ (After f rs ls (exprs_end args a + 1) st w x) _ w.events (all_within sc.hosts calls keep_turns args ls s n)
          (λ vs m le j have ls'' ag''. funcs k is.0 f vs (exprs_end args a) st ls'' w s m x (omega (arith, low, le)) (named k true is.0 (Some f) is.2) have here_call here.state_is here.stands
          (then_map t O (result_of (calls k vs (world_at s) m)) _ _ w.events (λ v i p has_v. p has_v ls'' ag'') j))
          h)
      eval_runs (host k args) f rs a st ls ls' w s n x low is fresh has inside here ag h =
          let here_host = here_behind code.instrs a (exprs_code args a) (Host k) [] (exprs_end args a) (exprs_length args a) has in
          exprs_run args (of_scalar (host_takes is.0) ∷ []) rs a st ls ls' w s n x low is.2 fresh (has_front code.instrs a (exprs_code args a) (Host k ∷ []) has) (in_here code.instrs _ _ here_host) here ag
          (then_after t O n (eval_all sc.hosts calls args ls s n) _ (After f rs ls (exprs_end args a + 1) st w x) _ w.events (all_within sc.hosts calls keep_turns args ls s n)
          (λ vs m le j have ls'' ag''. host_run k is.0 vs (exprs_end args a) st ls'' w m x here_host is.1 have
          (λ has_v. j (subst (λ f. HasForm sc.rels f (host_value sc.hosts k (scalar_in (operand vs 0)))) (sym is.3) has_v) ls'' ag''))
          h)

      pub exprs_run : (es : Exprs) (fs : List Form) (rs : List ℕ) (a : ℕ) (st ls ls' : List Value) (w : World) (s : State) (n : ℕ) (x : Around) → n ≤ depth →
          AreOf sc rs es fs → Fresh rs (walks_in_all es) → HasAt code.instrs a (exprs_code es a) → exprs_end es a < length code.instrs → Here sc.rels w x s → Agree sc.rels sc.own.slots rs ls ls' →
          Then t O (eval_all sc.hosts calls es ls s n) (Args fs rs ls (exprs_end es a) st w x) w.events → EndsAt t O a st ls' w n x
      exprs_run no_more [] rs a st ls ls' w s n x low are fresh has inside here ag h = h tt ls' ag
      exprs_run no_more (f ∷ fs) rs a st ls ls' w s n x low are fresh has inside here ag h = absurd are
      exprs_run (then_expr e es) [] rs a st ls ls' w s n x low are fresh has inside here ag h = absurd are
      exprs_run (then_expr e es) (f ∷ fs) rs a st ls ls' w s n x low are fresh has inside here ag h =
          let ce = expr_code e a in
          let cs = exprs_code es (expr_end e a) in
          eval_runs e f rs a st ls ls' w s n x low are.0 (fresh_front rs (walks_in e) (walks_in_all es) fresh) (has_front code.instrs a ce cs has) (omega (arith, inside, exprs_length es (expr_end e a))) here ag
          (then_after t O n (eval sc.hosts calls e ls s n) _ (Args (f ∷ fs) rs ls (exprs_end es (expr_end e a)) st w x) _ w.events (eval_within sc.hosts calls keep_turns e ls s n)
          (λ v m le k has_v ls'' ag''.
          exprs_run es fs rs (expr_end e a) (v ∷ st) ls ls'' w s m x (omega (arith, low, le)) are.1 (fresh_back rs (walks_in e) (walks_in_all es) fresh) (all_behind code.instrs a ce cs (expr_end e a) (expr_length e a) has) inside here ag''
          (then_map t O (eval_all sc.hosts calls es ls s m) _ _ w.events (λ vs j p all l3 ag3. p (has_v, all) l3 ag3)
          (then_got (eval_all sc.hosts calls es ls s m) (λ vs. v ∷ vs) (Args (f ∷ fs) rs ls (exprs_end es (expr_end e a)) st w x) w k)))
          h)

      every_run : (es : Exprs) (rs : List ℕ) (a last : ℕ) (st ls ls' : List Value) (w : World) (s : State) (n : ℕ) (x : Around) → n ≤ depth →
          IsNotNone es → AreBools sc rs es → Fresh rs (walks_in_all es) → HasAt code.instrs a (every_code es a last) → slice_get code.instrs last ≡ Some (push_bool false) → last + 1 < length code.instrs →
          Here sc.rels w x s → Agree sc.rels sc.own.slots rs ls ls' →
          Then t O (every sc.hosts calls es ls s n) (After bool_form rs ls (last + 1) st w x) w.events → EndsAt t O a st ls' w n x
      every_run no_more rs a last st ls ls' w s n x low some_there are fresh has here_false inside here ag h = absurd some_there
      every_run (then_expr e no_more) rs a last st ls ls' w s n x low some_there are fresh has here_false inside here ag h =
          let ce = expr_code e a in
          let tail = all_behind code.instrs a ce (Jump (last + 1) ∷ push_bool false ∷ []) (expr_end e a) (expr_length e a) has in
          eval_runs e bool_form rs a st ls ls' w s n x low are.0 (fresh_front rs (walks_in e) [] fresh) (has_front code.instrs a ce _ has) (in_here code.instrs _ _ tail.0) here ag
          (then_map t O (eval sc.hosts calls e ls s n) _ _ w.events (λ v j p has_v l3 ag3. jump_step (last + 1) (expr_end e a) (v ∷ st) l3 w j x tail.0 inside (p has_v l3 ag3)) h)
      every_run (then_expr e (then_expr d ds)) rs a last st ls ls' w s n x low some_there are fresh has here_false inside here ag h =
          let ce = expr_code e a in
          let tail = all_behind code.instrs a ce (Unless last ∷ every_code (then_expr d ds) (expr_end e a + 1) last) (expr_end e a) (expr_length e a) has in
          eval_runs e bool_form rs a st ls ls' w s n x low are.0 (fresh_front rs (walks_in e) (walks_in_all (then_expr d ds)) fresh) (has_front code.instrs a ce _ has) (in_here code.instrs _ _ tail.0) here ag
          (then_after t O n (eval sc.hosts calls e ls s n) _ (After bool_form rs ls (last + 1) st w x) _ w.events (eval_within sc.hosts calls keep_turns e ls s n)
          (λ v m le k has_v l3 ag3. value_step v last (expr_end e a) st l3 w m x tail.0 (in_here code.instrs _ _ here_false) has_v
          (λ is_true_v. every_run (then_expr d ds) rs (expr_end e a + 1) last st ls l3 w s m x (omega (arith, low, le)) tt are.1 (fresh_back rs (walks_in e) (walks_in_all (then_expr d ds)) fresh) tail.1 here_false inside here ag3
          (subst (λ c. Then t O (by c (λ m. every sc.hosts calls (then_expr d ds) ls s m) (λ m. got v m) m) (After bool_form rs ls (last + 1) st w x) w.events) is_true_v k))
          (λ is_false_v.
          push_step (push_bool false) (bool_value false) last st l3 w m x here_false refl
          (subst (λ v. At (last + 1) (v ∷ st) l3 w m x) (bool_is sc.rels v has_v ∙ ap bool_value is_false_v)
          (subst (λ c. Then t O (by c (λ m. every sc.hosts calls (then_expr d ds) ls s m) (λ m. got v m) m) (After bool_form rs ls (last + 1) st w x) w.events) is_false_v k has_v l3 ag3))))
          h)

      some_run : (es : Exprs) (rs : List ℕ) (a end : ℕ) (st ls ls' : List Value) (w : World) (s : State) (n : ℕ) (x : Around) → n ≤ depth →
          IsNotNone es → AreBools sc rs es → Fresh rs (walks_in_all es) → HasAt code.instrs a (some_code es a end) → some_end es a ≡ end → end < length code.instrs →
          Here sc.rels w x s → Agree sc.rels sc.own.slots rs ls ls' →
          Then t O (some sc.hosts calls es ls s n) (After bool_form rs ls end st w x) w.events → EndsAt t O a st ls' w n x
      some_run no_more rs a end st ls ls' w s n x low some_there are fresh has ends_at inside here ag h = absurd some_there
      some_run (then_expr e no_more) rs a end st ls ls' w s n x low some_there are fresh has ends_at inside here ag h =
          eval_runs e bool_form rs a st ls ls' w s n x low are.0 (fresh_front rs (walks_in e) [] fresh) has (omega (arith, inside, ends_at)) here ag
          (subst (λ q. Then t O (eval sc.hosts calls e ls s n) (After bool_form rs ls q st w x) w.events) (sym ends_at) h)
      some_run (then_expr e (then_expr d ds)) rs a end st ls ls' w s n x low some_there are fresh has ends_at inside here ag h =
          let ce = expr_code e a in
          let next = expr_end e a + 1 + 1 + 1 in
          let tail = all_behind code.instrs a ce (Unless next ∷ push_bool true ∷ Jump end ∷ some_code (then_expr d ds) next end) (expr_end e a) (expr_length e a) has in
          eval_runs e bool_form rs a st ls ls' w s n x low are.0 (fresh_front rs (walks_in e) (walks_in_all (then_expr d ds)) fresh) (has_front code.instrs a ce _ has) (in_here code.instrs _ _ tail.0) here ag
          (then_after t O n (eval sc.hosts calls e ls s n) _ (After bool_form rs ls end st w x) _ w.events (eval_within sc.hosts calls keep_turns e ls s n)
          (λ v m le k has_v l3 ag3. value_step v next (expr_end e a) st l3 w m x tail.0 (omega (arith, inside, ends_at, some_length (then_expr d ds) next end)) has_v
          (λ is_true_v.
          push_step (push_bool true) (bool_value true) (expr_end e a + 1) st l3 w m x tail.1.0 refl
          (jump_step end (expr_end e a + 1 + 1) (bool_value true ∷ st) l3 w m x tail.1.1.0 inside
          (subst (λ v. At end (v ∷ st) l3 w m x) (bool_is sc.rels v has_v ∙ ap bool_value is_true_v)
          (subst (λ c. Then t O (by c (λ m. got v m) (λ m. some sc.hosts calls (then_expr d ds) ls s m) m) (After bool_form rs ls end st w x) w.events) is_true_v k has_v l3 ag3))))
          (λ is_false_v. some_run (then_expr d ds) rs next end st ls l3 w s m x (omega (arith, low, le)) tt are.1 (fresh_back rs (walks_in e) (walks_in_all (then_expr d ds)) fresh) tail.1.1.1 ends_at inside here ag3
          (subst (λ c. Then t O (by c (λ m. got v m) (λ m. some sc.hosts calls (then_expr d ds) ls s m) m) (After bool_form rs ls end st w x) w.events) is_false_v k)))
          h)

      links_run : (links : Links) (g f : Form) (rs : List ℕ) (a : ℕ) (v : Value) (st ls ls' : List Value) (w : World) (s : State) (n : ℕ) (x : Around) → n ≤ depth →
          LinksAreOf sc rs links g f → Fresh rs (walks_in_links links) → HasAt code.instrs a (links_code links a) → links_end links a < length code.instrs → Here sc.rels w x s → HasForm sc.rels g v → Agree sc.rels sc.own.slots rs ls ls' →
          Then t O (eval_links sc.hosts calls links v ls s n) (After f rs ls (links_end links a) st w x) w.events → EndsAt t O a (v ∷ st) ls' w n x
      links_run no_link g f rs a v st ls ls' w s n x low are fresh has inside here has_v ag h = h (subst (λ f. HasForm sc.rels f v) are has_v) ls' ag
      links_run (link op arg place rest) g f rs a v st ls ls' w s n x low are fresh has inside here has_v ag h =
          let ca = expr_code arg a in
          let tail = all_behind code.instrs a ca (Prim op place ∷ links_code rest (expr_end arg a + 1)) (expr_end arg a) (expr_length arg a) has in
          eval_runs arg are.0 rs a (v ∷ st) ls ls' w s n x low are.2 (fresh_front rs (walks_in arg) (walks_in_links rest) fresh) (has_front code.instrs a ca _ has) (in_here code.instrs _ _ tail.0) here ag
          (then_after t O n (eval sc.hosts calls arg ls s n) _ (After f rs ls (links_end rest (expr_end arg a + 1)) st w x) _ w.events (eval_within sc.hosts calls keep_turns arg ls s n)
          (λ b m le k has_b l3 ag3. prim_run op place (g ∷ are.0 ∷ []) are.1 (v ∷ b ∷ []) st l3 (expr_end arg a) w m x tail.0 are.3 (has_v, (has_b, tt))
          (then_after t O m (answered place (prim_of op (v ∷ b ∷ [])) m) _ (After f rs ls (links_end rest (expr_end arg a + 1)) st w x) _ w.events (within_answered place (prim_of op (v ∷ b ∷ [])) m m (omega arith))
          (λ c j le' k has_c. links_run rest are.1 f rs (expr_end arg a + 1) c st ls l3 w s j x (omega (arith, low, le, le')) are.4 (fresh_back rs (walks_in arg) (walks_in_links rest) fresh) tail.1 inside here has_c ag3 k)
          k))
          h)

      hypos_run : (hypos : Hypos) (rs : List ℕ) (a : ℕ) (st ls ls' : List Value) (w : World) (s : State) (n : ℕ) (x : Around) → n ≤ depth →
          AreDeltas sc rs hypos → Fresh rs (walks_in_hypos hypos) → HasAt code.instrs a (hypos_code hypos a) → Here sc.rels w x s → Agree sc.rels sc.own.slots rs ls ls' →
          Then t O (suppose sc.hosts calls hypos ls s n) (Layers (hypos_count hypos) rs ls (hypos_end hypos a) st w x) w.events → EndsAt t O a st ls' w n x
      hypos_run no_hypo rs a st ls ls' w s n x low are fresh has here ag h = h [] refl here ls' ag
      hypos_run (hypo d place rest) rs a st ls ls' w s n x low are fresh has here ag h =
          let cr = hypos_code rest a in
          let a' = hypos_end rest a in
          let cd = expr_code d a' in
          let has_d = all_behind code.instrs a cr (cd ++ Enter place ∷ []) a' (hypos_length rest a) has in
          let here_enter = here_behind code.instrs a' cd (Enter place) [] (expr_end d a') (expr_length d a') has_d in
          hypos_run rest rs a st ls ls' w s n x low are.1 (fresh_back rs (walks_in d) (walks_in_hypos rest) fresh) (has_front code.instrs a cr (cd ++ Enter place ∷ []) has) here ag
          (then_after t O n (suppose sc.hosts calls rest ls s n) _ (Layers (suc (hypos_count rest)) rs ls (expr_end d a' + 1) st w x) _ w.events (suppose_within sc.hosts calls keep_turns rest ls s n)
          (λ s' m le k ds many here' l3 ag3.
          eval_runs d of_delta rs a' st ls l3 w s' m (layered ds x) (omega (arith, low, le)) are.0 (fresh_front rs (walks_in d) (walks_in_hypos rest) fresh) (has_front code.instrs a' cd (Enter place ∷ []) has_d) (in_here code.instrs _ _ here_enter) here' ag3
          (then_after t O m (eval sc.hosts calls d ls s' m) _ (Layers (suc (hypos_count rest)) rs ls (expr_end d a' + 1) st w x) _ w.events (eval_within sc.hosts calls keep_turns d ls s' m)
          (λ v j le' k has_v l4 ag4.
          let q = delta_is sc.rels v has_v in
          subst (λ v. At (expr_end d a') (v ∷ st) l4 w j (layered ds x)) (sym q.0)
          (enter_step place (delta_in v) ds (expr_end d a') st l4 w s' j x here_enter q.1 here'
          (then_map t O (supposed place s' (delta_in v) j) _ _ w.events (λ s'' i p e here''. p (e ∷ ds) (ap suc many) here'' l4 ag4) k)))
          k))
          h)
