-- The code of sound statements meets the rules, at the points laid out for it.
use Rattle.std.proofs.Common.{◌≡◌, ℕ, suc, ◌+◌, ◌<◌, ◌≤◌, ◌&&◌, ◌||◌, Bool, true, false, cond, List, [], ◌∷◌, ◌++◌, length, Option, Some, None, refl, sym, ap, ◌∙◌, subst, arith, length-append, append_assoc}
use Rattle.std.specs.Prelude.{slice_get, nat_lt, nat_eq, not, is_some}
use Rattle.std.proofs.lemmas.Bool.{false≢true, and_from, or_left, or_right, lt-ltb, eqb-true, eq-eqb}
use Rattle.hera_meaning.specs.declared.scalars.Kind.{Kind}
use Rattle.hera_meaning.specs.declared.scalars.Scalar.TheVariants.{Text as text_scalar}
use Rattle.hera_meaning.specs.declared.trees.Const.TheVariants.{Scalar}
use Rattle.hera_meaning.specs.declared.trees.Shape.TheVariants.{Text as text_shape}
use Rattle.hera_meaning.specs.declared.schemas.RelDecl.{RelDecl}
use Rattle.hera_meaning.specs.Hosts.{Hosts}
use Rattle.hera_meaning.specs.Trees.{Expr, Command, set_slot, if_arms, while, foreach, print, apply, commit, rollback, assert, return, return_value, call_proc, Block, no_stmt, then_stmt, Arms, no_arm, arm}
use Rattle.hera_meaning.specs.Addresses.{expr_end, exprs_end, command_end, block_end, arms_end}
use Rattle.hera_meaning.specs.Forms.{Form, of_tuple, of_table, of_delta, bool_form, text_form, form_of}
use Rattle.hera_meaning.specs.Sound.{has_slot, Scope, IsOf, IsSound, BlockIsSound, ArmsAreSound, sets_of, sets_of_block, sets_of_arms, readable_after}
use Rattle.hera_code.specs.declared.instrs.Code.{Code}
use Rattle.hera_code.specs.declared.instrs.Instr.{Instr}
use Rattle.hera_code.specs.declared.instrs.Instr.TheVariants.{Push, Store, Jump, Unless, Back, Walk, Next, Drop, Call, Ret, RetVal, Print, Apply, Commit, Rollback, Assert, Halt}
use Rattle.hera_code.specs.Scheme.{expr_code, exprs_code, Role, in_main, in_func, in_proc, return_code, command_code, block_code, arms_code}
use Rattle.hera_codegen.proofs.Places.{HasAt, has_front, all_behind, here_behind, expr_length, exprs_length, command_length, block_length, arms_length}
use Rattle.hera_typed.specs.Points.{Seen, known, agrees, Point, with, when}
use Rattle.hera_typed.specs.Effects.{Slot_note, Body_note, Goal, goal, goes, ends_here, with_operands, takes_one, slot, result, is_set_at, effect, is_placed}
use Rattle.hera_typed.specs.Typed.{Points}
use Rattle.hera_typed.proofs.Asking.{some_is, none_is}
use Rattle.hera_noted.proofs.Seen_ops.{Below, below_agrees}
use Rattle.hera_noted.proofs.Expr_points.{kinds_in, push, pushed, walking, if_so, expr_seen, exprs_seen, after, expr_points, exprs_points, expr_many, exprs_many, Begins, begins_more, expr_begins, exprs_begin, Laid, laid_front, laid_behind, laid_first}
use Rattle.hera_noted.proofs.Expr_ends.{expr_up, exprs_up}
use Rattle.hera_noted.proofs.Expr_flows.{IsWalkNote, Noted, NotedAll, Fits, Covered, IsFine, Flows, Comes, Followed, AllGo, flows_more, fine, plain, seen_below, seen_all, expr_flows, exprs_flows, call_fine, unless_fine, unless_comes, jump_comes, walk_fine, next_fine, back_fine, drop_fine, covered, narrow}

-- ---- what goes on behind itself

abbrev mutual
  pub command_falls : Command → Bool
  command_falls return = false
  command_falls (return_value e) = false
  command_falls (if_arms arms other) = arms_fall arms || block_falls other
  command_falls _ = true

  pub block_falls : Block → Bool
  block_falls no_stmt = true
  block_falls (then_stmt c rest) = command_falls c && block_falls rest

  pub arms_fall : Arms → Bool
  arms_fall no_arm = false
  arms_fall (arm c block rest) = block_falls block || arms_fall rest

-- no points
abbrev pub nones : List (Option Point) → List (Option Point)
nones [] = []
nones (o ∷ os) = None ∷ nones os

abbrev pub reached_or : Bool → List (Option Point) → List (Option Point)
reached_or true os = os
reached_or false os = nones os

module _ (rels : List RelDecl) (hosts : Hosts) (notes : List Body_note) (k : ℕ) where
  abbrev ex : Expr → Point → List (Option Point)
  ex e p = expr_points rels hosts notes k e p

  abbrev aft : Expr → Point → Point
  aft e p = after rels hosts notes k e p

  abbrev walk_point : ℕ → Expr → Point → Point
  walk_point i of p = walking (expr_seen rels hosts notes k of) (kinds_in (slot notes k i)) p

  abbrev mutual
    -- one for each address of a statement's code, which is reached
    pub command_points : Command → Point → List (Option Point)
    command_points (set_slot i e) p = ex e p ++ Some (aft e p) ∷ []
    command_points (if_arms arms other) p = arms_points arms p ++ block_points other p
    command_points (while c block) p = ex c p ++ Some (aft c p) ∷ (block_points block p ++ if_so (block_falls block) p ∷ [])
    command_points (foreach i of block) p =
        let w = walk_point i of p in ex of p ++ Some (aft of p) ∷ Some w ∷ (block_points block w ++ if_so (block_falls block) w ∷ Some w ∷ [])
    command_points (print e shape) p = ex e p ++ Some (aft e p) ∷ []
    command_points (apply d at) p = ex d p ++ Some (aft d p) ∷ []
    command_points (commit None) p = Some p ∷ []
    command_points (commit (Some label)) p = Some p ∷ Some p ∷ Some (push (known text_form) p) ∷ []
    command_points rollback p = Some p ∷ []
    command_points (assert c at) p = ex c p ++ Some (aft c p) ∷ []
    command_points return p = Some p ∷ []
    command_points (return_value e) p = ex e p ++ Some (aft e p) ∷ []
    command_points (call_proc j args) p = exprs_points rels hosts notes k args p ++ Some (pushed (exprs_seen rels hosts notes k args) p) ∷ []

    pub block_points : Block → Point → List (Option Point)
    block_points no_stmt p = []
    block_points (then_stmt c rest) p = command_points c p ++ reached_or (command_falls c) (block_points rest p)

    pub arms_points : Arms → Point → List (Option Point)
    arms_points no_arm p = []
    arms_points (arm c block rest) p = ex c p ++ Some (aft c p) ∷ (block_points block p ++ if_so (block_falls block) p ∷ arms_points rest p)

  nones_many : (os : List (Option Point)) → length (nones os) ≡ length os
  nones_many [] = refl
  nones_many (o ∷ os) = ap suc (nones_many os)

  or_many : (b : Bool) (os : List (Option Point)) → length (reached_or b os) ≡ length os
  or_many true os = refl
  or_many false os = nones_many os

  em : (e : Expr) (p : Point) (a : ℕ) → a + length (ex e p) ≡ expr_end e a
  em e p a = expr_many rels hosts notes k e p a

  mutual
    pub command_many : (c : Command) (p : Point) (a : ℕ) → a + length (command_points c p) ≡ command_end c a
    command_many (set_slot i e) p a = omega (arith, em e p a, length-append (ex e p) (Some (aft e p) ∷ []))
    command_many (if_arms arms other) p a = omega (arith, arms_many arms p a, block_many other p (arms_end arms a), length-append (arms_points arms p) (block_points other p))
    command_many (while c block) p a =
        omega (arith, em c p a, block_many block p (expr_end c a + 1), length-append (ex c p) (Some (aft c p) ∷ (block_points block p ++ if_so (block_falls block) p ∷ [])), length-append (block_points block p) (if_so (block_falls block) p ∷ []))
    command_many (foreach i of block) p a =
        let w = walk_point i of p in
        omega (arith, em of p a, block_many block w (expr_end of a + 1 + 1), length-append (ex of p) (Some (aft of p) ∷ Some w ∷ (block_points block w ++ if_so (block_falls block) w ∷ Some w ∷ [])), length-append (block_points block w) (if_so (block_falls block) w ∷ Some w ∷ []))
    command_many (print e shape) p a = omega (arith, em e p a, length-append (ex e p) (Some (aft e p) ∷ []))
    command_many (apply d at) p a = omega (arith, em d p a, length-append (ex d p) (Some (aft d p) ∷ []))
    command_many (commit None) p a = refl
    command_many (commit (Some label)) p a = omega arith
    command_many rollback p a = refl
    command_many (assert c at) p a = omega (arith, em c p a, length-append (ex c p) (Some (aft c p) ∷ []))
    command_many return p a = refl
    command_many (return_value e) p a = omega (arith, em e p a, length-append (ex e p) (Some (aft e p) ∷ []))
    command_many (call_proc j args) p a = omega (arith, exprs_many rels hosts notes k args p a, length-append (exprs_points rels hosts notes k args p) (Some (pushed (exprs_seen rels hosts notes k args) p) ∷ []))

    pub block_many : (b : Block) (p : Point) (a : ℕ) → a + length (block_points b p) ≡ block_end b a
    block_many no_stmt p a = omega arith
    block_many (then_stmt c rest) p a =
        omega (arith, command_many c p a, block_many rest p (command_end c a), length-append (command_points c p) (reached_or (command_falls c) (block_points rest p)), or_many (command_falls c) (block_points rest p))

    pub arms_many : (arms : Arms) (p : Point) (a : ℕ) → a + length (arms_points arms p) ≡ arms_end arms a
    arms_many no_arm p a = omega arith
    arms_many (arm c block rest) p a =
        omega (
          arith,
          em c p a,
          block_many block p (expr_end c a + 1),
          arms_many rest p (block_end block (expr_end c a + 1) + 1),
          length-append (ex c p) (Some (aft c p) ∷ (block_points block p ++ if_so (block_falls block) p ∷ arms_points rest p)),
          length-append (block_points block p) (if_so (block_falls block) p ∷ arms_points rest p),
        )

module _ (code : Code) (sc : Scope) (notes : List Body_note) (k : ℕ) where
  abbrev rs' : List RelDecl
  rs' = sc.rels

  abbrev Cov : List ℕ → ℕ → ℕ → Type 0
  Cov rs a b = Covered code sc notes k rs a b

  -- the slot is set from here on
  abbrev pub IsSetFrom : ℕ → ℕ → ℕ → Type 0
  IsSetFrom i a z = (c : ℕ) (n : Slot_note) → slot notes k i ≡ Some n → a ≤ c → c < z → is_set_at code k i c n ≡ true

  -- a slot that is set for the first time is set up to the end of the block
  abbrev pub SetNoted : List ℕ → Command → (a z : ℕ) → Type 0
  SetNoted seen (set_slot i e) a z = has_slot seen i ≡ false → IsSetFrom i a z
  SetNoted seen _ a z = Unit {0}

  abbrev ExNoted : Expr → ℕ → Type 0
  ExNoted e a = Noted code sc notes k e a

  abbrev mutual
    pub NotedCommand : List ℕ → Command → ℕ → Type 0
    NotedCommand seen (set_slot i e) a = ExNoted e a
    NotedCommand seen (if_arms arms other) a = NotedArms seen arms a × NotedBlock (seen ++ sets_of_arms arms) other (arms_end arms a) (block_end other (arms_end arms a))
    NotedCommand seen (while c block) a = ExNoted c a × NotedBlock seen block (expr_end c a + 1) (block_end block (expr_end c a + 1))
    NotedCommand seen (foreach i of block) a =
        let b = expr_end of a + 1 + 1 in
        ExNoted of a × ((ks : List Kind) × (w : IsWalkNote code sc notes k i b (block_end block b) ks) × (w.note.form ≡ of_tuple ks)) × NotedBlock seen block b (block_end block b)
    NotedCommand seen (print e shape) a = ExNoted e a
    NotedCommand seen (apply d at) a = ExNoted d a
    NotedCommand seen (commit label) a = Unit {0}
    NotedCommand seen rollback a = Unit {0}
    NotedCommand seen (assert c at) a = ExNoted c a
    NotedCommand seen return a = Unit {0}
    NotedCommand seen (return_value e) a = ExNoted e a
    NotedCommand seen (call_proc j args) a = NotedAll code sc notes k args a

    pub NotedBlock : List ℕ → Block → (a z : ℕ) → Type 0
    NotedBlock seen no_stmt a z = Unit {0}
    NotedBlock seen (then_stmt c rest) a z = NotedCommand seen c a × SetNoted seen c (command_end c a) z × NotedBlock (seen ++ sets_of c) rest (command_end c a) z

    pub NotedArms : List ℕ → Arms → ℕ → Type 0
    NotedArms seen no_arm a = Unit {0}
    NotedArms seen (arm c block rest) a =
        let b = expr_end c a + 1 in
        ExNoted c a × NotedBlock seen block b (block_end block b) × NotedArms (seen ++ sets_of_block block) rest (block_end block b + 1)

  -- the body in which the statements stand
  abbrev pub RoleFits : Role → Type 0
  RoleFits in_main = (k ≡ 0) × (sc.func ≡ false)
  RoleFits in_func = (sc.func ≡ true) × ((f : Form) → sc.own.result ≡ Some f → result notes k ≡ Some f)
  RoleFits in_proc = (sc.func ≡ false) × (0 < k) × (result notes k ≡ None)

  -- ---- readable slots

  pub cover_set : (rs seen : List ℕ) (i m z : ℕ) → Cov rs m z → (has_slot seen i ≡ false → IsSetFrom i m z) → Cov (cond (has_slot seen i) rs (i ∷ rs)) m z
  cover_set rs seen i m z cov set = by (has_slot seen i) refl
    where
      new : has_slot seen i ≡ false → (j c : ℕ) (n : Slot_note) → slot notes k j ≡ Some n → m ≤ c → c < z → (u : Bool) → nat_eq j i ≡ u → (u || has_slot rs j) ≡ true → is_set_at code k j c n ≡ true
      new q j c n there low high true e r = let same = eqb-true j i e in subst (λ j. is_set_at code k j c n ≡ true) (sym same) (set q c n (subst (λ j. slot notes k j ≡ Some n) same there) low high)
      new q j c n there low high false e r = cov.set j c n r there low high

      by : (t : Bool) → has_slot seen i ≡ t → Cov (cond t rs (i ∷ rs)) m z
      by true q = cov
      by false q = record { set = λ j c n r there low high. new q j c n there low high (nat_eq j i) refl r }

  pub cover_after : (seen rs : List ℕ) (c : Command) (m z : ℕ) → Cov rs m z → SetNoted seen c m z → Cov (readable_after seen rs c) m z
  cover_after seen rs (set_slot i e) m z cov set = cover_set rs seen i m z cov set
  cover_after seen rs (if_arms arms other) m z cov set = cov
  cover_after seen rs (while c block) m z cov set = cov
  cover_after seen rs (foreach i of block) m z cov set = cov
  cover_after seen rs (print e shape) m z cov set = cov
  cover_after seen rs (apply d at) m z cov set = cov
  cover_after seen rs (commit label) m z cov set = cov
  cover_after seen rs rollback m z cov set = cov
  cover_after seen rs (assert c at) m z cov set = cov
  cover_after seen rs return m z cov set = cov
  cover_after seen rs (return_value e) m z cov set = cov
  cover_after seen rs (call_proc j args) m z cov set = cov

  module _ (P : Points) (lo hi : ℕ) where
    abbrev Ok : ℕ → Instr → Type 0
    Ok a i = IsFine code sc notes k P lo hi a i

    abbrev Fl : ℕ → List Instr → Type 0
    Fl a is = Flows code sc notes k P lo hi a is

    abbrev Co : ℕ → Type 0
    Co b = Comes code sc notes k P lo hi b

    -- what the rules ask of places alone
    abbrev pub AllPlaced : Type 0
    AllPlaced = (a : ℕ) (i : Instr) → slice_get code.instrs a ≡ Some i → lo ≤ a → a < hi → (is_placed code notes k a i ≡ true) × Followed code sc notes k a i

    module _ (fits : Fits code sc notes k) (pl : Role) (place : RoleFits pl) (all_placed : AllPlaced) where
      abbrev Pts : Command → Point → List (Option Point)
      Pts c p = command_points rs' sc.hosts notes k c p

      abbrev Bpts : Block → Point → List (Option Point)
      Bpts b p = block_points rs' sc.hosts notes k b p

      abbrev af : Expr → Point → Point
      af e p = aft rs' sc.hosts notes k e p

      abbrev exs : Expr → Point → List (Option Point)
      exs e p = ex rs' sc.hosts notes k e p

      many : (e : Expr) (p : Point) (a : ℕ) → a + length (exs e p) ≡ expr_end e a
      many e p a = expr_many rs' sc.hosts notes k e p a

      block_up : (b : Block) (a : ℕ) → a ≤ block_end b a
      block_up b a = omega (arith, block_length pl b a)

      -- ---- what isn't reached

      unreached : (is : List Instr) (os : List (Option Point)) (a b : ℕ) → HasAt code.instrs a is → Laid P a (nones os) → a + length is ≡ b → length os ≡ length is → lo ≤ a → b ≤ hi → ((q : Point) → P b ≡ Some q → Co b) → Fl a is
      unreached [] os a b has laid e long low high comes = tt
      unreached (i ∷ is) [] a b has laid e long low high comes = absurd (omega (arith, long))
      unreached (i ∷ is) (o ∷ os) a b has laid e long low high comes =
          let s = all_placed a i has.0 low (omega (arith, e, high)) in (
            record { placed = s.0; followed = s.1; goes = λ q at. none_is _ q (sym laid.0 ∙ at); next = λ q at. by is os laid.1 (omega (arith, e)) (omega (arith, long)) q at },
            unreached is os (a + 1) b has.1 laid.1 (omega (arith, e)) (omega (arith, long)) (omega (arith, low)) high comes,
          )
        where
          by : (is : List Instr) (os : List (Option Point)) → Laid P (a + 1) (nones os) → a + 1 + length is ≡ b → length os ≡ length is → (q : Point) → P (a + 1) ≡ Some q → Co (a + 1)
          by [] os laid e long q at = let same : a + 1 ≡ b = omega (arith, e) in subst (λ n. Co n) (sym same) (comes q (subst (λ n. P n ≡ Some q) same at))
          by (j ∷ is) [] laid e long q at = absurd (omega (arith, long))
          by (j ∷ is) (o ∷ os) laid e long q at = none_is (Co (a + 1)) q (sym laid.0 ∙ at)

      -- ---- the first point

      begins : (rs : List ℕ) (e : Expr) (f : Form) (p : Point) (t : List (Option Point)) → IsOf sc rs e f → Begins rs' sc.hosts notes k p (exs e p ++ t)
      begins rs e f p t is = begins_more rs' sc.hosts notes k p (exs e p) t (expr_begins rs' sc.hosts notes k sc rs e f p is)

      mutual
        command_begins : (seen rs inside : List ℕ) (c : Command) (p : Point) (t : List (Option Point)) → IsSound sc seen rs inside c → (command_falls c ≡ true → Begins rs' sc.hosts notes k p t) → Begins rs' sc.hosts notes k p (Pts c p ++ t)
        command_begins seen rs inside (set_slot i e) p t is h = begins_more rs' sc.hosts notes k p (Pts (set_slot i e) p) t (begins rs e is.0 p _ is.2)
        command_begins seen rs inside (if_arms arms other) p t is h =
            let ys = Bpts other p in
            let b = block_begins (seen ++ sets_of_arms arms) rs inside other p t is.1 (λ e. h (or_right (arms_fall arms) (block_falls other) e)) in
            let c = arms_begin seen rs inside arms p (ys ++ t) is.0 b in
            (c.0, append_assoc (arms_points rs' sc.hosts notes k arms p) ys t ∙ c.1)
        command_begins seen rs inside (while c block) p t is h = begins_more rs' sc.hosts notes k p (Pts (while c block) p) t (begins rs c bool_form p _ is.0)
        command_begins seen rs inside (foreach i of block) p t is h = begins_more rs' sc.hosts notes k p (Pts (foreach i of block) p) t (begins rs of (of_table is.0) p _ is.1)
        command_begins seen rs inside (print e shape) p t is h = begins_more rs' sc.hosts notes k p (Pts (print e shape) p) t (begins rs e (form_of shape) p _ is.0)
        command_begins seen rs inside (apply d at) p t is h = begins_more rs' sc.hosts notes k p (Pts (apply d at) p) t (begins rs d of_delta p _ is.0)
        command_begins seen rs inside (commit None) p t is h = (t, refl)
        command_begins seen rs inside (commit (Some label)) p t is h = (Some p ∷ Some (push (known text_form) p) ∷ t, refl)
        command_begins seen rs inside rollback p t is h = (t, refl)
        command_begins seen rs inside (assert c at) p t is h = begins_more rs' sc.hosts notes k p (Pts (assert c at) p) t (begins rs c bool_form p _ is)
        command_begins seen rs inside return p t is h = (t, refl)
        command_begins seen rs inside (return_value e) p t is h = begins_more rs' sc.hosts notes k p (Pts (return_value e) p) t (begins rs e is.0 p _ is.1)
        command_begins seen rs inside (call_proc j args) p t is h = begins_more rs' sc.hosts notes k p (Pts (call_proc j args) p) t (exprs_begin rs' sc.hosts notes k sc rs args is.0 p [] is.1)

        block_begins : (seen rs inside : List ℕ) (b : Block) (p : Point) (t : List (Option Point)) → BlockIsSound sc seen rs inside b → (block_falls b ≡ true → Begins rs' sc.hosts notes k p t) → Begins rs' sc.hosts notes k p (Bpts b p ++ t)
        block_begins seen rs inside no_stmt p t is h = h refl
        block_begins seen rs inside (then_stmt c rest) p t is h =
            let d = command_begins seen rs inside c p (reached_or (command_falls c) (Bpts rest p) ++ t) is.0 (λ e.
            (let r = block_begins (seen ++ sets_of c) (readable_after seen rs c) inside rest p t is.1 (λ f. h (and_from (command_falls c) (block_falls rest) e f)) in
            (r.0, ap (λ b. reached_or b (Bpts rest p) ++ t) e ∙ r.1))) in
            (d.0, append_assoc (Pts c p) (reached_or (command_falls c) (Bpts rest p)) t ∙ d.1)

        arms_begin : (seen rs inside : List ℕ) (arms : Arms) (p : Point) (t : List (Option Point)) → ArmsAreSound sc seen rs inside arms → Begins rs' sc.hosts notes k p t → Begins rs' sc.hosts notes k p (arms_points rs' sc.hosts notes k arms p ++ t)
        arms_begin seen rs inside no_arm p t is b = b
        arms_begin seen rs inside (arm c block rest) p t is b = begins_more rs' sc.hosts notes k p _ t (begins rs c bool_form p _ is.0)

      -- what stands at the end of a stretch
      laid_end : (os : List (Option Point)) (a b : ℕ) → Laid P a os → a + length os ≡ b → Laid P a (os ++ P b ∷ [])
      laid_end [] a b laid e = let same : a ≡ b = omega (arith, e) in (ap P same, tt)
      laid_end (o ∷ os) a b laid e = (laid.0, laid_end os (a + 1) b laid.1 (omega (arith, e)))

      -- the first point of a block
      pub block_at : (seen rs inside : List ℕ) (b : Block) (a z : ℕ) (p : Point) → BlockIsSound sc seen rs inside b → Laid P a (Bpts b p) → block_end b a ≡ z → (block_falls b ≡ true → P z ≡ Some p) → P a ≡ Some p
      block_at seen rs inside b a z p is laid e then =
          let q = block_begins seen rs inside b p (P z ∷ []) is (λ f. ([], ap (λ o. o ∷ []) (then f))) in
          laid_first P a (Bpts b p ++ P z ∷ []) p q.0 q.1 (laid_end (Bpts b p) a z laid (block_many rs' sc.hosts notes k b p a ∙ e))

      nones_at : (os : List (Option Point)) (a b : ℕ) → Laid P a (nones os) → a + length os ≡ b → ((q : Point) → P b ≡ Some q → Co b) → (q : Point) → P a ≡ Some q → Co a
      nones_at [] a b laid e comes q at = let same : a ≡ b = omega (arith, e) in subst (λ n. Co n) (sym same) (comes q (subst (λ n. P n ≡ Some q) same at))
      nones_at (o ∷ os) a b laid e comes q at = none_is (Co a) q (sym laid.0 ∙ at)

      -- ---- an expression and one instruction

      expr_then : (rs : List ℕ) (e : Expr) (f : Form) (a : ℕ) (p : Point) (i : Instr) → IsOf sc rs e f → ExNoted e a → HasAt code.instrs a (expr_code e a ++ i ∷ []) → Laid P a (exs e p ++ Some (af e p) ∷ []) → lo ≤ a → expr_end e a + 1 ≤ hi → Cov rs a (expr_end e a + 1) →
          (slice_get code.instrs (expr_end e a) ≡ Some i → P (expr_end e a) ≡ Some (af e p) → lo ≤ expr_end e a → Below (expr_seen rs' sc.hosts notes k e) f → Ok (expr_end e a) i) → Fl a (expr_code e a ++ i ∷ [])
      expr_then rs e f a p i is n has laid low high cov go =
          let m = expr_end e a in
          let at = laid_behind P a (exs e p) (Some (af e p) ∷ []) m (many e p a) laid in
          let up = expr_up e a in
          flows_more code sc notes k P lo hi a m (expr_code e a) (i ∷ []) (expr_length e a)
          (expr_flows code sc notes k P lo hi fits rs e f a p is n (has_front code.instrs a (expr_code e a) (i ∷ []) has) (laid_front P a (exs e p) _ laid) at.0 low (omega (arith, high)) (narrow code sc notes k P lo hi fits a m cov (omega arith) (omega arith)))
          (go (here_behind code.instrs a (expr_code e a) i [] m (expr_length e a) has) at.0 (omega (arith, low, up)) (seen_below code sc notes k P lo hi fits rs e f a is n), tt)

      -- ---- the way back of a loop, where it is reached

      loop_fine : (a b m x : ℕ) (s : Seen) (p : Point) (some : Bool) → b + 1 ≡ x → P b ≡ if_so some p → P a ≡ Some p → lo ≤ a → a ≤ hi → Co x → Ok b (Back a)
      loop_fine a b m x s p some last at top low high comes = record {
        placed = refl;
        followed = tt;
        goes = λ q e. by some q at e;
        next = λ r e. subst (λ n. Co n) (sym last) comes;
      }
        where
          by : (some : Bool) (q : Point) → P b ≡ if_so some p → P b ≡ Some q → (gs : List Goal) × (effect code rs' sc.hosts notes k b (Back a) q ≡ Some gs) × AllGo code sc notes k P lo hi gs
          by true q at e = (goal a q ∷ [], refl, ((low, high, q, refl, top ∙ sym at ∙ e), tt))
          by false q at e = none_is _ q (sym at ∙ e)

      -- a Jump to the end of an `if`, where it is reached
      skip_fine : (a x : ℕ) (p : Point) (some : Bool) → a < x → slice_get code.instrs a ≡ Some (Jump x) → P a ≡ if_so some p → (some ≡ true → P x ≡ Some p) → lo ≤ a → x ≤ hi → Co (a + 1) → Ok a (Jump x)
      skip_fine a x p some ahead here at then low high comes = record {
        placed = lt-ltb a x ahead;
        followed = tt;
        goes = λ q e. by some q at then e;
        next = λ r e. comes;
      }
        where
          by : (some : Bool) (q : Point) → P a ≡ if_so some p → (some ≡ true → P x ≡ Some p) → P a ≡ Some q → (gs : List Goal) × (effect code rs' sc.hosts notes k a (Jump x) q ≡ Some gs) × AllGo code sc notes k P lo hi gs
          by true q at then e = (goal x q ∷ [], refl, ((omega (arith, low, ahead), high, q, refl, then refl ∙ sym at ∙ e), tt))
          by false q at then e = none_is _ q (sym at ∙ e)

      -- ---- returns

      return_fine : (pl' : Role) → RoleFits pl' → (a : ℕ) (p : Point) → sc.func ≡ false → P a ≡ Some p → ((q : Point) → P (a + 1) ≡ Some q → Co (a + 1)) → Ok a (return_code pl')
      return_fine in_main h a p no_func at next = let e : nat_eq k 0 ≡ true = eq-eqb k 0 h.0 in fine code sc notes k P lo hi a Halt p [] at e tt (ap (λ t. when t ends_here) e) tt next
      return_fine in_func h a p no_func at next = absurd (false≢true (sym no_func ∙ h.0))
      return_fine in_proc h a p no_func at next =
          let e : (nat_lt 0 k && not (is_some (result notes k))) ≡ true = and_from (nat_lt 0 k) (not (is_some (result notes k))) (lt-ltb 0 k h.1) (ap (λ o. not (is_some o)) h.2) in
          fine code sc notes k P lo hi a Ret p [] at e tt (ap (λ t. when t ends_here) e) tt next

      value_fine : (pl' : Role) → RoleFits pl' → (a : ℕ) (s : Seen) (f : Form) (p : Point) → sc.func ≡ true → sc.own.result ≡ Some f → Below s f → P a ≡ Some (push s p) → ((q : Point) → P (a + 1) ≡ Some q → Co (a + 1)) → Ok a (return_code pl')
      value_fine in_main h a s f p func res below at next = absurd (false≢true (sym h.1 ∙ func))
      value_fine in_proc h a s f p func res below at next = absurd (false≢true (sym h.0 ∙ func))
      value_fine in_func h a s f p func res below at next =
          let r = h.1 f res in
          fine code sc notes k P lo hi a RetVal (push s p) [] at (ap is_some r) tt
          (ap (λ o. with o (λ f. takes_one f (push s p) (λ ss. ends_here))) r ∙ ap (λ t. when t ends_here) (below_agrees s f below)) tt next

      -- ---- statements

      abbrev Tail : Bool → ℕ → Point → Type 0
      Tail falls b p = falls ≡ true → P b ≡ Some p

      abbrev Other : Bool → ℕ → Type 0
      Other falls b = falls ≡ false → (q : Point) → P b ≡ Some q → Co b

      never : (falls : Bool) (b : ℕ) (p : Point) → P b ≡ if_so falls p → Other falls b
      never falls b p at e q f = none_is (Co b) q (sym (at ∙ ap (λ t. if_so t p) e) ∙ f)

      -- some block of an `if` goes on behind it
      arms_come : (arms : Arms) (a x : ℕ) (p : Point) → arms_end arms a ≤ x → HasAt code.instrs a (arms_code pl arms a x) → Laid P a (arms_points rs' sc.hosts notes k arms p) → arms_fall arms ≡ true → Co x
      arms_come no_arm a x p le has laid e = absurd (false≢true e)
      arms_come (arm c block rest) a x p le has laid e =
          let m = expr_end c a in
          let b = block_end block (m + 1) in
          let codes = all_behind code.instrs a (expr_code c a) _ m (expr_length c a) has in
          let ends = all_behind code.instrs (m + 1) (block_code pl block (m + 1)) (Jump x ∷ arms_code pl rest (b + 1) x) b (block_length pl block (m + 1)) codes.1 in
          let behind = laid_behind P a (exs c p) _ m (many c p a) laid in
          let last = laid_behind P (m + 1) (Bpts block p) _ b (block_many rs' sc.hosts notes k block p (m + 1)) behind.1 in
          let more : b + 1 ≤ arms_end rest (b + 1) = omega (arith, arms_length pl rest (b + 1) x) in
          by (block_falls block) last.0 e b (omega (arith, le, more)) ends.0 (λ f. arms_come rest (b + 1) x p le ends.1 last.1 f)
        where
          by : (t : Bool) {b' : ℕ} → P b' ≡ if_so t p → (t || arms_fall rest) ≡ true → (b : ℕ) → b' < x → slice_get code.instrs b' ≡ Some (Jump x) → (arms_fall rest ≡ true → Co x) → Co x
          by true at e b lt here ih = jump_comes code sc notes k P lo hi fits _ x p lt here at
          by false at e b lt here ih = ih e

      mutual
        pub command_flows : (seen rs inside : List ℕ) (c : Command) (a : ℕ) (p : Point) → IsSound sc seen rs inside c → NotedCommand seen c a → HasAt code.instrs a (command_code pl c a) → Laid P a (Pts c p) →
            Tail (command_falls c) (command_end c a) p → Other (command_falls c) (command_end c a) → lo ≤ a → command_end c a ≤ hi → Cov rs a (command_end c a) → Fl a (command_code pl c a)
        command_flows seen rs inside (set_slot i e) a p is n has laid then other low high cov =
            let s = fits.slots i is.0 is.1 in
            expr_then rs e is.0 a p (Store i) is.2 n has laid low high cov (λ here at low below.
            plain code sc notes k P lo hi (expr_end e a) (Store i) (af e p) p here at refl tt
            (ap (λ o. with o (λ n. takes_one n.form (af e p) (λ ss. goes (expr_end e a + 1) (with_operands ss p)))) s.1
            ∙ ap (λ t. when t (goes (expr_end e a + 1) p)) (ap (λ f. agrees (expr_seen rs' sc.hosts notes k e) f) s.2 ∙ below_agrees (expr_seen rs' sc.hosts notes k e) is.0 below))
            (then refl) low high)
        command_flows seen rs inside (if_arms arms other) a p is n has laid then rest low high cov =
            let m = arms_end arms a in
            let x = block_end other m in
            let behind = laid_behind P a (arms_points rs' sc.hosts notes k arms p) (Bpts other p) m (arms_many rs' sc.hosts notes k arms p a) laid in
            let front = laid_front P a (arms_points rs' sc.hosts notes k arms p) (Bpts other p) laid in
            let has_arms = has_front code.instrs a (arms_code pl arms a x) (block_code pl other m) has in
            let up : a ≤ m = omega (arith, arms_length pl arms a x) in
            let more = block_up other m in
            let others : Tail (block_falls other) x p = λ e. then (or_right (arms_fall arms) (block_falls other) e) in
            let at_m : P m ≡ Some p = block_at (seen ++ sets_of_arms arms) rs inside other m x p is.1 behind refl others in
            flows_more code sc notes k P lo hi a m (arms_code pl arms a x) (block_code pl other m) (arms_length pl arms a x)
            (arms_flows seen rs inside arms a x p is.0 n.0 has_arms front (λ e. then (or_left (arms_fall arms) (block_falls other) e)) at_m low more high (narrow code sc notes k P lo hi fits a m cov (omega arith) more))
            (block_flows (seen ++ sets_of_arms arms) rs inside other m x p is.1 n.1 refl (all_behind code.instrs a (arms_code pl arms a x) (block_code pl other m) m (arms_length pl arms a x) has) behind others
            (else_comes (arms_fall arms) (block_falls other) x (λ e. arms_come arms a x p more has_arms front e) rest) (omega (arith, low, up)) high (narrow code sc notes k P lo hi fits m x cov up (omega arith)))
          where
            else_comes : (t u : Bool) (x : ℕ) → (t ≡ true → Co x) → Other (t || u) x → Other u x
            else_comes true u x h rest e q at = h refl
            else_comes false u x h rest e q at = rest e q at
        command_flows seen rs inside (while c block) a p is n has laid then other low high cov =
            let m = expr_end c a in
            let b = block_end block (m + 1) in
            let x = b + 1 in
            let codes = all_behind code.instrs a (expr_code c a) (Unless x ∷ (block_code pl block (m + 1) ++ Back a ∷ [])) m (expr_length c a) has in
            let has_back = here_behind code.instrs (m + 1) (block_code pl block (m + 1)) (Back a) [] b (block_length pl block (m + 1)) codes.1 in
            let behind = laid_behind P a (exs c p) _ m (many c p a) laid in
            let last = laid_behind P (m + 1) (Bpts block p) (if_so (block_falls block) p ∷ []) b (block_many rs' sc.hosts notes k block p (m + 1)) behind.1 in
            let up = expr_up c a in
            let more = block_up block (m + 1) in
            let falls : Tail (block_falls block) b p = λ e. last.0 ∙ ap (λ t. if_so t p) e in
            let inner : P (m + 1) ≡ Some p = block_at seen rs inside block (m + 1) b p is.1 (laid_front P (m + 1) (Bpts block p) _ behind.1) refl falls in
            let bool = seen_below code sc notes k P lo hi fits rs c bool_form a is.0 n.0 in
            let ahead : m < x = omega (arith, more) in
            let first = begins rs c bool_form p _ is.0 in
            let at_a : P a ≡ Some p = laid_first P a (Pts (while c block) p) p first.0 first.1 laid in
            flows_more code sc notes k P lo hi a m (expr_code c a) _ (expr_length c a)
            (expr_flows code sc notes k P lo hi fits rs c bool_form a p is.0 n.0 (has_front code.instrs a (expr_code c a) _ has) (laid_front P a (exs c p) _ laid) behind.0 low (omega (arith, high, ahead)) (narrow code sc notes k P lo hi fits a m cov (omega arith) (omega (arith, ahead)))) (
              unless_fine code sc notes k P lo hi fits m x (expr_seen rs' sc.hosts notes k c) p bool ahead codes.0 behind.0 inner (then refl) (omega (arith, low, up)) high,
              flows_more code sc notes k P lo hi (m + 1) b (block_code pl block (m + 1)) (Back a ∷ []) (block_length pl block (m + 1))
                  (block_flows seen rs inside block (m + 1) b p is.1 n.1 refl (has_front code.instrs (m + 1) (block_code pl block (m + 1)) _ codes.1) (laid_front P (m + 1) (Bpts block p) _ behind.1) falls (never (block_falls block) b p last.0)
                  (omega (arith, low, up)) (omega (arith, high)) (narrow code sc notes k P lo hi fits (m + 1) b cov (omega (arith, up)) (omega arith)))
                  (loop_fine a b m x (expr_seen rs' sc.hosts notes k c) p (block_falls block) refl last.0 at_a low (omega (arith, up, high, ahead)) (unless_comes code sc notes k P lo hi fits m x (expr_seen rs' sc.hosts notes k c) p bool ahead codes.0 behind.0), tt),
            )
        command_flows seen rs inside (foreach i of block) a p is n has laid then other low high cov =
            let m = expr_end of a in
            let l = m + 1 in
            let b = block_end block (l + 1) in
            let x = b + 1 in
            let w = walk_point rs' sc.hosts notes k i of p in
            let below = seen_below code sc notes k P lo hi fits rs of (of_table is.0) a is.1 n.0 in
            let s = fits.slots i (of_tuple is.0) is.2 in
            let same : s.0 ≡ n.1.1.note = some_is s.0 n.1.1.note (sym s.1 ∙ n.1.1.there) in
            let form : n.1.1.note.form ≡ of_tuple is.0 = ap (λ (n : Slot_note). n.form) (sym same) ∙ s.2 in
            let codes = all_behind code.instrs a (expr_code of a) (Walk ∷ Next i x ∷ (block_code pl block (l + 1) ++ Back l ∷ Drop ∷ [])) m (expr_length of a) has in
            let ends = all_behind code.instrs (l + 1) (block_code pl block (l + 1)) (Back l ∷ Drop ∷ []) b (block_length pl block (l + 1)) codes.1.1 in
            let behind = laid_behind P a (exs of p) _ m (many of p a) laid in
            let last = laid_behind P (l + 1) (Bpts block w) (if_so (block_falls block) w ∷ Some w ∷ []) b (block_many rs' sc.hosts notes k block w (l + 1)) behind.1.1 in
            let up = expr_up of a in
            let more = block_up block (l + 1) in
            let ahead : l < x = omega (arith, more) in
            let falls : Tail (block_falls block) b w = λ e. last.0 ∙ ap (λ t. if_so t w) e in
            let inner : P (l + 1) ≡ Some w = block_at seen (i ∷ rs) (i ∷ inside) block (l + 1) b w is.3 (laid_front P (l + 1) (Bpts block w) _ behind.1.1) refl falls in
            flows_more code sc notes k P lo hi a m (expr_code of a) _ (expr_length of a)
            (expr_flows code sc notes k P lo hi fits rs of (of_table is.0) a p is.1 n.0 (has_front code.instrs a (expr_code of a) _ has) (laid_front P a (exs of p) _ laid) behind.0 low (omega (arith, high, more)) (narrow code sc notes k P lo hi fits a m cov (omega arith) (omega (arith, more)))) (
              walk_fine code sc notes k P lo hi fits rs i of is.0 n.1.0 a p b x n.1.1 form below ahead codes.0 codes.1.0 behind.0 behind.1.0 (omega (arith, low, up)) (omega (arith, high, more)),
              (
                next_fine code sc notes k P lo hi fits rs i of is.0 n.1.0 a p b x n.1.1 form below ahead codes.1.0 behind.1.0 inner last.1.0 (omega (arith, low, up)) (omega (arith, high)),
                flows_more code sc notes k P lo hi (l + 1) b (block_code pl block (l + 1)) (Back l ∷ Drop ∷ []) (block_length pl block (l + 1))
                    (block_flows seen (i ∷ rs) (i ∷ inside) block (l + 1) b w is.3 n.2 refl (has_front code.instrs (l + 1) (block_code pl block (l + 1)) _ codes.1.1) (laid_front P (l + 1) (Bpts block w) _ behind.1.1) falls (never (block_falls block) b w last.0)
                    (omega (arith, low, up)) (omega (arith, high)) (covered code sc notes k P lo hi fits rs i of is.0 n.1.0 a p b x n.1.1 form below ahead cov (omega arith))) (
                      back_fine code sc notes k P lo hi fits rs i of is.0 n.1.0 a p b x n.1.1 form below ahead b (block_falls block) refl codes.1.0 last.0 behind.1.0 (omega (arith, low, up)) (omega (arith, high)),
                      (drop_fine code sc notes k P lo hi fits rs i of is.0 n.1.0 a p b x n.1.1 form below ahead ends.1.0 last.1.0 (then refl) (omega (arith, low, up, more)) high, tt),
                    ),
              ),
            )
        command_flows seen rs inside (print e shape) a p is n has laid then other low high cov =
            expr_then rs e (form_of shape) a p (Print shape) is.0 n has laid low high cov (λ here at low below.
            plain code sc notes k P lo hi (expr_end e a) (Print shape) (af e p) p here at refl tt (ap (λ t. when t (goes (expr_end e a + 1) p)) (below_agrees (expr_seen rs' sc.hosts notes k e) (form_of shape) below)) (then refl) low high)
        command_flows seen rs inside (apply d place) a p is n has laid then other low high cov =
            expr_then rs d of_delta a p (Apply place) is.0 n has laid low high cov (λ here at low below.
            plain code sc notes k P lo hi (expr_end d a) (Apply place) (af d p) p here at refl tt (ap (λ t. when t (goes (expr_end d a + 1) p)) (below_agrees (expr_seen rs' sc.hosts notes k d) of_delta below)) (then refl) low high)
        command_flows seen rs inside (commit None) a p is n has laid then other low high cov = (plain code sc notes k P lo hi a Commit p p has.0 laid.0 refl tt refl (then refl) low high, tt)
        command_flows seen rs inside (commit (Some label)) a p is n has laid then other low high cov =
            let t = push (known text_form) p in (
              plain code sc notes k P lo hi a Commit p p has.0 laid.0 refl tt refl laid.1.0 low (omega (arith, high)),
              (
                plain code sc notes k P lo hi (a + 1) (Push (Scalar (text_scalar label))) p t has.1.0 laid.1.0 refl tt (ap (λ c. when c (goes (a + 1 + 1) t)) is.0) laid.1.1.0 (omega (arith, low)) (omega (arith, high)),
                (plain code sc notes k P lo hi (a + 1 + 1) (Print text_shape) t p has.1.1.0 laid.1.1.0 refl tt refl (then refl) (omega (arith, low)) high, tt),
              ),
            )
        command_flows seen rs inside rollback a p is n has laid then other low high cov = (plain code sc notes k P lo hi a Rollback p p has.0 laid.0 refl tt refl (then refl) low high, tt)
        command_flows seen rs inside (assert c place) a p is n has laid then other low high cov =
            expr_then rs c bool_form a p (Assert place) is n has laid low high cov (λ here at low below.
            plain code sc notes k P lo hi (expr_end c a) (Assert place) (af c p) p here at refl tt (ap (λ t. when t (goes (expr_end c a + 1) p)) (below_agrees (expr_seen rs' sc.hosts notes k c) bool_form below)) (then refl) low high)
        command_flows seen rs inside return a p is n has laid then other low high cov = (return_fine pl place a p is laid.0 (other refl), tt)
        command_flows seen rs inside (return_value e) a p is n has laid then other low high cov =
            expr_then rs e is.0 a p (return_code pl) is.1 n has laid low high cov (λ here at low below. value_fine pl place (expr_end e a) (expr_seen rs' sc.hosts notes k e) is.0 p is.3 is.2 below at (other refl))
        command_flows seen rs inside (call_proc j args) a p is n has laid then other low high cov =
            let m = exprs_end args a in
            let at = laid_behind P a (exprs_points rs' sc.hosts notes k args p) (Some (pushed (exprs_seen rs' sc.hosts notes k args) p) ∷ []) m (exprs_many rs' sc.hosts notes k args p a) laid in
            let up = exprs_up args a in
            flows_more code sc notes k P lo hi a m (exprs_code args a) (Call j ∷ []) (exprs_length args a)
            (exprs_flows code sc notes k P lo hi fits rs args is.0 a p is.1 n (has_front code.instrs a (exprs_code args a) (Call j ∷ []) has) laid low (omega (arith, high)) (narrow code sc notes k P lo hi fits a m cov (omega arith) (omega arith)))
            (call_fine code sc notes k P lo hi fits j (exprs_seen rs' sc.hosts notes k args) is.0 None m p (fits.calls j false is.0 None is.2) (seen_all code sc notes k P lo hi fits rs args is.0 a is.1 n) (here_behind code.instrs a (exprs_code args a) (Call j) [] m (exprs_length args a) has) at.0 (then refl) (omega (arith, low, up)) high, tt)

        pub block_flows : (seen rs inside : List ℕ) (b : Block) (a z : ℕ) (p : Point) → BlockIsSound sc seen rs inside b → NotedBlock seen b a z → block_end b a ≡ z → HasAt code.instrs a (block_code pl b a) → Laid P a (Bpts b p) →
            Tail (block_falls b) z p → Other (block_falls b) z → lo ≤ a → z ≤ hi → Cov rs a z → Fl a (block_code pl b a)
        block_flows seen rs inside no_stmt a z p is n end has laid then other low high cov = tt
        block_flows seen rs inside (then_stmt c rest) a z p is n end has laid then other low high cov =
            let m = command_end c a in
            let codes = all_behind code.instrs a (command_code pl c a) (block_code pl rest m) m (command_length pl c a) has in
            let behind = laid_behind P a (Pts c p) (reached_or (command_falls c) (Bpts rest p)) m (command_many rs' sc.hosts notes k c p a) laid in
            let up : a ≤ m = omega (arith, command_length pl c a) in
            let more : m ≤ z = omega (arith, block_up rest m, end) in
            let here : Tail (command_falls c) m p → Other (command_falls c) m → Fl a (command_code pl c a) = λ t o.
            command_flows seen rs inside c a p is.0 n.0 (has_front code.instrs a (command_code pl c a) _ has) (laid_front P a (Pts c p) _ laid) t o low (omega (arith, more, high)) (narrow code sc notes k P lo hi fits a m cov (omega arith) more) in
            let next : Laid P m (Bpts rest p) → Tail (block_falls rest) z p → Other (block_falls rest) z → Fl m (block_code pl rest m) = λ l t o.
            block_flows (seen ++ sets_of c) (readable_after seen rs c) inside rest m z p is.1 n.2 end codes l t o (omega (arith, low, up)) high (cover_after seen rs c m z (narrow code sc notes k P lo hi fits m z cov up (omega arith)) n.1) in
            flows_more code sc notes k P lo hi a m (command_code pl c a) (block_code pl rest m) (command_length pl c a)
            (here (λ e. block_at (seen ++ sets_of c) (readable_after seen rs c) inside rest m z p is.1 (subst (λ t. Laid P m (reached_or t (Bpts rest p))) e behind) end (λ f. then (and_from (command_falls c) (block_falls rest) e f)))
            (λ e q at. nones_at (Bpts rest p) m z (subst (λ t. Laid P m (reached_or t (Bpts rest p))) e behind) (block_many rs' sc.hosts notes k rest p m ∙ end) (other (ap (λ t. t && block_falls rest) e)) q at))
            (by (command_falls c) refl behind codes next (omega (arith, low, up)))
          where
            m' : ℕ
            m' = command_end c a

            by : (t : Bool) → command_falls c ≡ t → Laid P m' (reached_or t (Bpts rest p)) → HasAt code.instrs m' (block_code pl rest m') → (Laid P m' (Bpts rest p) → Tail (block_falls rest) z p → Other (block_falls rest) z → Fl m' (block_code pl rest m')) → lo ≤ m' → Fl m' (block_code pl rest m')
            by true e behind codes next low = next behind (λ f. then (and_from (command_falls c) (block_falls rest) e f)) (λ f q at. other (ap (λ t. t && block_falls rest) e ∙ f) q at)
            by false e behind codes next low =
                let codes_long = block_length pl rest m' in
                let points_long = block_many rs' sc.hosts notes k rest p m' in
                unreached (block_code pl rest m') (Bpts rest p) m' z codes behind (codes_long ∙ end) (omega (arith, codes_long, points_long)) low high (other (ap (λ t. t && block_falls rest) e))

        arms_flows : (seen rs inside : List ℕ) (arms : Arms) (a x : ℕ) (p : Point) → ArmsAreSound sc seen rs inside arms → NotedArms seen arms a → HasAt code.instrs a (arms_code pl arms a x) → Laid P a (arms_points rs' sc.hosts notes k arms p) →
            Tail (arms_fall arms) x p → P (arms_end arms a) ≡ Some p → lo ≤ a → arms_end arms a ≤ x → x ≤ hi → Cov rs a (arms_end arms a) → Fl a (arms_code pl arms a x)
        arms_flows seen rs inside no_arm a x p is n has laid then at_end low le high cov = tt
        arms_flows seen rs inside (arm c block rest) a x p is n has laid then at_end low le high cov =
            let m = expr_end c a in
            let b = block_end block (m + 1) in
            let t = b + 1 in
            let codes = all_behind code.instrs a (expr_code c a) (Unless t ∷ (block_code pl block (m + 1) ++ Jump x ∷ arms_code pl rest t x)) m (expr_length c a) has in
            let ends = all_behind code.instrs (m + 1) (block_code pl block (m + 1)) (Jump x ∷ arms_code pl rest t x) b (block_length pl block (m + 1)) codes.1 in
            let behind = laid_behind P a (exs c p) _ m (many c p a) laid in
            let last = laid_behind P (m + 1) (Bpts block p) (if_so (block_falls block) p ∷ arms_points rs' sc.hosts notes k rest p) b (block_many rs' sc.hosts notes k block p (m + 1)) behind.1 in
            let up = expr_up c a in
            let more = block_up block (m + 1) in
            let rest_up : t ≤ arms_end rest t = omega (arith, arms_length pl rest t x) in
            let falls : Tail (block_falls block) b p = λ e. last.0 ∙ ap (λ t. if_so t p) e in
            let inner : P (m + 1) ≡ Some p = block_at seen rs inside block (m + 1) b p is.1 (laid_front P (m + 1) (Bpts block p) _ behind.1) refl falls in
            let bool = seen_below code sc notes k P lo hi fits rs c bool_form a is.0 n.0 in
            let ahead : m < t = omega (arith, more) in
            let q = arms_begin (seen ++ sets_of_block block) rs inside rest p (P (arms_end rest t) ∷ []) is.2 ([], ap (λ o. o ∷ []) at_end) in
            let at_t : P t ≡ Some p = laid_first P t _ p q.0 q.1 (laid_end (arms_points rs' sc.hosts notes k rest p) t (arms_end rest t) last.1 (arms_many rs' sc.hosts notes k rest p t)) in
            flows_more code sc notes k P lo hi a m (expr_code c a) _ (expr_length c a)
            (expr_flows code sc notes k P lo hi fits rs c bool_form a p is.0 n.0 (has_front code.instrs a (expr_code c a) _ has) (laid_front P a (exs c p) _ laid) behind.0 low (omega (arith, high, le, rest_up, ahead)) (narrow code sc notes k P lo hi fits a m cov (omega arith) (omega (arith, rest_up, ahead)))) (
              unless_fine code sc notes k P lo hi fits m t (expr_seen rs' sc.hosts notes k c) p bool ahead codes.0 behind.0 inner at_t (omega (arith, low, up)) (omega (arith, high, le, rest_up)),
              flows_more code sc notes k P lo hi (m + 1) b (block_code pl block (m + 1)) (Jump x ∷ arms_code pl rest t x) (block_length pl block (m + 1))
                  (block_flows seen rs inside block (m + 1) b p is.1 n.1 refl (has_front code.instrs (m + 1) (block_code pl block (m + 1)) _ codes.1) (laid_front P (m + 1) (Bpts block p) _ behind.1) falls (never (block_falls block) b p last.0)
                  (omega (arith, low, up)) (omega (arith, high, le, rest_up)) (narrow code sc notes k P lo hi fits (m + 1) b cov (omega (arith, up)) (omega (arith, rest_up)))) (
                    skip_fine b x p (block_falls block) (omega (arith, le, rest_up)) ends.0 last.0 (λ e. then (or_left (block_falls block) (arms_fall rest) e)) (omega (arith, low, up, more)) high (unless_comes code sc notes k P lo hi fits m t (expr_seen rs' sc.hosts notes k c) p bool ahead codes.0 behind.0),
                    arms_flows (seen ++ sets_of_block block) rs inside rest t x p is.2 n.2 ends.1 last.1 (λ e. then (or_right (block_falls block) (arms_fall rest) e)) at_end (omega (arith, low, up, more)) le high (narrow code sc notes k P lo hi fits t (arms_end rest t) cov (omega (arith, up, more)) (omega arith)),
                  ),
            )
