-- The notes say of each walk, and of each slot that is set, what the law of expressions and statements asks.
use Rattle.std.proofs.Common.{◌≡◌, ℕ, ◌+◌, ◌<◌, ◌≤◌, ◌⊎◌, ◌&&◌, Bool, true, false, List, [], ◌∷◌, ◌++◌, length, Option, Some, None, refl, sym, ap, ◌∙◌, subst, arith, inl, inr}
use Rattle.std.specs.Prelude.{slice_get, nat_eq, nat_lt, nat_le, not}
use Rattle.std.proofs.lemmas.Bool.{false≢true, both_ways, or_left, or_right, or_cases, and_from, lt-ltb, le-leb, eqb-true, eq-eqb, cases_lt, cases_Bool}
use Rattle.hera_meaning.specs.declared.scalars.Kind.{Kind}
use Rattle.hera_meaning.specs.Trees.{Expr, constant, local, relation, prim, chain, and_all, or_any, when as when_expr, select, map_each, call, host, Exprs, no_more, then_expr, Links, no_link, link, Hypos, no_hypo, hypo, Command, set_slot, if_arms, while, foreach, print, apply, commit, rollback, assert, return, return_value, call_proc, Block, no_stmt, then_stmt, Arms, no_arm, arm}
use Rattle.hera_meaning.specs.Addresses.{expr_end, exprs_end, every_last, some_end, links_end, hypos_end, hypos_count, command_end, block_end, arms_end}
use Rattle.hera_meaning.specs.Forms.{of_tuple}
use Rattle.hera_meaning.specs.Sound.{has_slot, walks_in, walks_in_all, walks_in_links, walks_in_hypos, walks_of, walks_of_block, walks_of_arms, sets_of, sets_of_block, sets_of_arms, readable_after, Scope, IsOf, MaySet, IsSound, BlockIsSound, ArmsAreSound}
use Rattle.hera_code.specs.declared.instrs.Instr.{Instr}
use Rattle.hera_code.specs.declared.instrs.Instr.TheVariants.{Prim, Store, Jump, Unless, Back, Enter, Walk, Next, Keep, Gather, Yield, Drop, Call, Print, Apply, Assert}
use Rattle.hera_code.specs.declared.instrs.Code.{Code}
use Rattle.hera_code.specs.Scheme.{push_bool, leaves, expr_code, exprs_code, every_code, some_code, links_code, hypos_code, Role, return_code, command_code, block_code, arms_code}
use Rattle.hera_codegen.proofs.Places.{HasAt, has_front, all_behind, here_behind, expr_length, some_length, links_length, hypos_length, command_length, block_length, arms_length}
use Rattle.hera_codegen.proofs.Slots.{Fresh, fresh_front, fresh_back, fresh_tail, fresh_walk}
use Rattle.hera_typed.specs.Points.{Seen, known}
use Rattle.hera_typed.specs.Effects.{Slot_note, Body_note, slot, params, is_set_at}
use Rattle.hera_typed.specs.Typed.{Names}
use Rattle.hera_meaning.specs.Shapes.{GathersWalked, Gathers, GathersAll, GathersLinks, GathersHypos, CommandGathers, BlockGathers, ArmsGather}
use Rattle.hera_typed.proofs.Asking.{some_is}
use Rattle.hera_noted.specs.Spans.{target_of, is_writer, IsClosed, IsUnwritten, IsFirstWrite, IsRange}
use Rattle.hera_noted.proofs.Seen_ops.{Below, is_known}
use Rattle.hera_noted.proofs.Expr_points.{expr_seen}
use Rattle.hera_noted.proofs.Expr_ends.{expr_up, exprs_up}
use Rattle.hera_noted.proofs.Expr_flows.{IsWalkNote, Noted, NotedAll, NotedEvery, NotedSome, NotedLinks, NotedHypos, Fits, seen_below}
use Rattle.hera_noted.proofs.Block_flows.{IsSetFrom, SetNoted, NotedCommand, NotedBlock, NotedArms}
use Rattle.hera_noted.proofs.Ranges.{Mark, mark, AllMarks, SafeAt, expr_marks, exprs_marks, every_marks, some_marks, links_marks, hypos_marks}
use Rattle.hera_noted.proofs.Block_ranges.{set_mark, command_marks, block_marks, arms_marks}
use Rattle.hera_noted.proofs.Written.{has_left, has_right, has_neither, has_own, has_more, apart_both, WritesIn, writes_here, expr_writes, hypos_write, command_writes, block_writes, arms_write, May, may_in, command_may, block_may, arms_may}

-- ---- ranges

pub marks_front : (Q : Mark → Type 0) (ms ns : List Mark) → AllMarks Q (ms ++ ns) → AllMarks Q ms
marks_front Q [] ns h = tt
marks_front Q (m ∷ ms) ns h = (h.0, marks_front Q ms ns h.1)

pub marks_back : (Q : Mark → Type 0) (ms ns : List Mark) → AllMarks Q (ms ++ ns) → AllMarks Q ns
marks_back Q [] ns h = h
marks_back Q (m ∷ ms) ns h = marks_back Q ms ns h.1

pub names_target : (i : Instr) (d : ℕ) → target_of i ≡ Some d → Names i d
names_target (Jump b) d e = some_is b d e
names_target (Unless b) d e = some_is b d e
names_target (Back b) d e = some_is b d e
names_target (Next j b) d e = some_is b d e
names_target _ d e = cc

pub target_named : (i : Instr) (d : ℕ) → Names i d → target_of i ≡ Some d
target_named (Jump b) d e = ap (λ d. Some d) e
target_named (Unless b) d e = ap (λ d. Some d) e
target_named (Back b) d e = ap (λ d. Some d) e
target_named (Next j b) d e = ap (λ d. Some d) e
target_named _ d e = absurd e

-- into a range that the code from address a on enters from inside alone
pub safe_here : (m : Mark) (code is : List Instr) (a c b : ℕ) (i : Instr) → HasAt code a is → SafeAt m a is → slice_get code c ≡ Some i → a ≤ c → c < a + length is → target_of i ≡ Some b → m.from ≤ b → b < m.to → (m.from ≤ c) × (c < m.to)
safe_here m code [] a c b i has h e ge lt t from to = absurd (omega (arith, ge, lt))
safe_here m code (x ∷ is) a c b i has h e ge lt t from to = by (cases_lt a c) (λ more. safe_here m code is (a + 1) c b i has.1 h.1 e (omega (arith, more)) (omega (arith, lt)) t from to)
  where
    by : (a < c) ⊎ (c ≤ a) → (a < c → (m.from ≤ c) × (c < m.to)) → (m.from ≤ c) × (c < m.to)
    by (inl more) rest = rest more
    by (inr less) rest =
        let same : a ≡ c = omega (arith, less, ge) in
        let i_is : i ≡ x = some_is i x (sym e ∙ ap (slice_get code) (sym same) ∙ has.0) in
        let r = h.0 b (names_target x b (ap target_of (sym i_is) ∙ t)) from to in
        (omega (arith, r.0, same), omega (arith, r.1, same))

every_last_up : (es : Exprs) (a : ℕ) → a ≤ every_last es a
every_last_up no_more a = omega arith
every_last_up (then_expr e no_more) a = omega (arith, expr_up e a)
every_last_up (then_expr e (then_expr d es)) a = omega (arith, expr_up e a, every_last_up (then_expr d es) (expr_end e a + 1))

tuple_seen : (s : Seen) (ks : List Kind) → Below s (of_tuple ks) → s ≡ known (of_tuple ks)
tuple_seen _ ks is_known = refl

one_tuple : (s : Seen) (ks ls : List Kind) → Below s (of_tuple ks) → Below s (of_tuple ls) → ks ≡ ls
one_tuple s ks ls h g = let e = tuple_seen s ks h in let f = tuple_seen s ls g in cc

-- of a body: the code, its scope, its notes and what its walks gather, its number, and its addresses
module _ (code : Code) (sc : Scope) (notes : List Body_note) (gs : List (Option (List Kind))) (k lo hi : ℕ) where
  abbrev Unwritten : ℕ → ℕ → Type 0
  Unwritten i a = IsUnwritten code.instrs lo hi a i

  abbrev Closed : Mark → Type 0
  Closed m = IsClosed code.instrs lo hi m.from m.to

  -- what is known of the notes of the body
  pub record Tells : Type 0 where
    pub ranges : (i : ℕ) (n : Slot_note) → slot notes k i ≡ Some n → params code k ≤ i → IsRange code.instrs lo hi i n.from n.to
    pub gathers : (i : ℕ) (ks : List Kind) → slice_get gs i ≡ Some (Some ks) → (n : Slot_note) × (slot notes k i ≡ Some n) × (n.gathers ≡ Some ks)
    pub walks : (i : ℕ) → has_slot sc.walks i ≡ true → params code k ≤ i
    pub fits : Fits code sc notes k

  -- ---- stretches of code, and what they write

  -- what is written from address a up to before b
  pub record Only (Q : ℕ → Type 0) (a b : ℕ) : Type 0 where
    pub only : (c : ℕ) (i : Instr) (j : ℕ) → slice_get code.instrs c ≡ Some i → a ≤ c → c < b → is_writer i j ≡ true → Q j

  only_code : (Q : ℕ → Type 0) (a b : ℕ) (is : List Instr) → a + length is ≡ b → HasAt code.instrs a is → WritesIn Q is → Only Q a b
  only_code Q a b is long has w = record { only = λ c i j e ge lt h. writes_here Q code.instrs is a c i j has w e ge (omega (arith, lt, long)) h }

  only_next : (Q : ℕ → Type 0) (a m : ℕ) (i : Instr) → slice_get code.instrs m ≡ Some i → ((j : ℕ) → is_writer i j ≡ true → Q j) → Only Q a m → Only Q a (m + 1)
  only_next Q a m i here w h = record { only = λ c x j e ge lt v. by c x j e ge v (cases_lt c m) lt }
    where
      by : (c : ℕ) (x : Instr) (j : ℕ) → slice_get code.instrs c ≡ Some x → a ≤ c → is_writer x j ≡ true → (c < m) ⊎ (m ≤ c) → c < m + 1 → Q j
      by c x j e ge v (inl less) lt = h.only c x j e ge less v
      by c x j e ge v (inr more) lt =
          let same : c ≡ m = omega (arith, more, lt) in
          let x_is : x ≡ i = some_is x i (sym e ∙ ap (slice_get code.instrs) same ∙ here) in
          w j (ap (λ x. is_writer x j) (sym x_is) ∙ v)

  unwritten_on : (Q : ℕ → Type 0) (i a b : ℕ) → Unwritten i a → Only Q a b → (Q i → ⊥) → Unwritten i b
  unwritten_on Q i a b h o never c x ge lt e = by (cases_lt c a) (cases_Bool (is_writer x i))
    where
      by : (c < a) ⊎ (a ≤ c) → (is_writer x i ≡ true) ⊎ (is_writer x i ≡ false) → is_writer x i ≡ false
      by (inl less) q = h c x ge less e
      by (inr more) (inl it) = absurd (never (o.only c x i e more lt it))
      by (inr more) (inr un) = un

  -- ---- walks to come

  -- these are the walks of what begins at address a: known ones, apart from each other and from those around, and
  -- nothing has written their slots
  pub record Ready (inside ws : List ℕ) (a : ℕ) : Type 0 where
    pub walks : Fresh inside ws
    pub known : (i : ℕ) → has_slot ws i ≡ true → has_slot sc.walks i ≡ true
    pub unwritten : (i : ℕ) → has_slot ws i ≡ true → Unwritten i a

  ready_front : (inside us vs : List ℕ) (a : ℕ) → Ready inside (us ++ vs) a → Ready inside us a
  ready_front inside us vs a h = record { walks = fresh_front inside us vs h.walks; known = λ i e. h.known i (has_left us vs i e); unwritten = λ i e. h.unwritten i (has_left us vs i e) }

  ready_back : (inside us vs : List ℕ) (a : ℕ) → Ready inside (us ++ vs) a → Ready inside vs a
  ready_back inside us vs a h = record { walks = fresh_back inside us vs h.walks; known = λ i e. h.known i (has_right us vs i e); unwritten = λ i e. h.unwritten i (has_right us vs i e) }

  ready_on : (Q : ℕ → Type 0) (inside ws : List ℕ) (a b : ℕ) → Ready inside ws a → Only Q a b → ((i : ℕ) → has_slot ws i ≡ true → Q i → ⊥) → Ready inside ws b
  ready_on Q inside ws a b h o never = record { walks = h.walks; known = h.known; unwritten = λ i e. unwritten_on Q i a b (h.unwritten i e) o (never i e) }

  ready_tail : (inside : List ℕ) (i : ℕ) (ws : List ℕ) (a : ℕ) → Ready inside (i ∷ ws) a → Ready inside ws a
  ready_tail inside i ws a h = record { walks = fresh_tail inside i ws h.walks; known = λ j e. h.known j (has_more i ws j e); unwritten = λ j e. h.unwritten j (has_more i ws j e) }

  -- behind a phrase that has walks us, and sets only what it may
  abbrev Wrote : List ℕ → List ℕ → ℕ → Type 0
  Wrote us ss j = (has_slot us j ≡ true) ⊎ (has_slot ss j ≡ true)

  apart_from : (inside us vs ss : List ℕ) (a : ℕ) → Ready inside (us ++ vs) a → ((j : ℕ) → has_slot ss j ≡ true → May sc inside us j) → (i : ℕ) → has_slot vs i ≡ true → Wrote us ss i → ⊥
  apart_from inside us vs ss a h may i e (inl w) = apart_both us vs i h.walks.apart w e
  apart_from inside us vs ss a h may i e (inr w) = by (may i w)
    where
      by_may : (not (has_slot sc.walks i) ≡ true) ⊎ (has_slot inside i ≡ true) → ⊥
      by_may (inl q) = false≢true (sym (ap not (h.known i (has_right us vs i e))) ∙ q)
      by_may (inr q) = both_ways (has_slot inside i) (h.walks.new i (has_right us vs i e)) q

      by : May sc inside us i → ⊥
      by (inl q) = apart_both us vs i h.walks.apart q e
      by (inr q) = by_may (or_cases (not (has_slot sc.walks i)) (has_slot inside i) q)

  abbrev no_sets : (inside us : List ℕ) (j : ℕ) → has_slot [] j ≡ true → May sc inside us j
  no_sets inside us j e = absurd (false≢true e)

  ready_behind : (inside us vs ss : List ℕ) (a b : ℕ) → Ready inside (us ++ vs) a → ((j : ℕ) → has_slot ss j ≡ true → May sc inside us j) → Only (Wrote us ss) a b → Ready inside vs b
  ready_behind inside us vs ss a b h may o = ready_on (Wrote us ss) inside vs a b (ready_back inside us vs a h) o (λ i e w. apart_from inside us vs ss a h may i e w)

  -- what an expression writes
  expr_only : (e : Expr) (a : ℕ) → HasAt code.instrs a (expr_code e a) → Only (Wrote (walks_in e) []) a (expr_end e a)
  expr_only e a has = only_code (Wrote (walks_in e) []) a (expr_end e a) (expr_code e a) (expr_length e a) has (expr_writes (Wrote (walks_in e) []) e a (λ j q. inl q))

  hypos_only : (hs : Hypos) (a : ℕ) → HasAt code.instrs a (hypos_code hs a) → Only (Wrote (walks_in_hypos hs) []) a (hypos_end hs a)
  hypos_only hs a has = only_code (Wrote (walks_in_hypos hs) []) a (hypos_end hs a) (hypos_code hs a) (hypos_length hs a) has (hypos_write (Wrote (walks_in_hypos hs) []) hs a (λ j q. inl q))

  -- ---- the note of a walk

  -- Next stands at l, the body of the walk behind it, up to z
  walk_noted : (tells : Tells) (i l z x : ℕ) (ks : List Kind) → slice_get gs i ≡ Some (Some ks) → has_slot sc.walks i ≡ true → slice_get code.instrs l ≡ Some (Next i x) → Unwritten i l → lo ≤ l → l < hi → z ≤ hi → Closed (mark i (l + 1) z) → IsWalkNote code sc notes k i (l + 1) z ks
  walk_noted tells i l z x ks gathered walk here unwritten low high within closed =
      let g = tells.gathers i ks gathered in
      let range = tells.ranges i g.0 g.1 (tells.walks i walk) in
      let first : IsFirstWrite code.instrs lo hi i l = record { low = low; high = high; instr = Next i x; here = here; writes = eq-eqb i i refl; before = unwritten } in
      let w = range.written l first in
      let same : l + 1 ≡ g.0.from = sym w.0 in
      record {
        note = g.0;
        there = g.1;
        from_is = w.0;
        within = w.1.farthest z within (subst (λ f. IsClosed code.instrs lo hi f z) same closed);
        gathers_is = g.2;
      }

  -- us and vs, where the code of vs stands first
  ready_before : (inside us vs : List ℕ) (a b : ℕ) → Ready inside (us ++ vs) a → Only (Wrote vs []) a b → Ready inside us b
  ready_before inside us vs a b h o = ready_on (Wrote vs []) inside us a b (ready_front inside us vs a h) o never
    where
      never : (i : ℕ) → has_slot us i ≡ true → Wrote vs [] i → ⊥
      never i e (inl w) = apart_both us vs i h.walks.apart e w
      never i e (inr w) = false≢true w

  -- a walk: its operand, Walk and Next
  walk_only : (i : ℕ) (of : Expr) (a x : ℕ) (is : List Instr) → HasAt code.instrs a (expr_code of a ++ Walk ∷ Next i x ∷ is) → Only (Wrote (i ∷ walks_in of) []) a (expr_end of a + 1 + 1)
  walk_only i of a x is has =
      let m = expr_end of a in
      let Q = Wrote (i ∷ walks_in of) [] in
      let behind = all_behind code.instrs a (expr_code of a) (Walk ∷ Next i x ∷ is) m (expr_length of a) has in
      only_next Q a (m + 1) (Next i x) behind.1.0 (λ j w. inl (own j w))
      (only_next Q a m Walk behind.0 (λ j w. absurd (false≢true w))
      (only_code Q a m (expr_code of a) (expr_length of a) (has_front code.instrs a (expr_code of a) (Walk ∷ Next i x ∷ is) has) (expr_writes Q of a (λ j e. inl (has_more i (walks_in of) j e)))))
    where
      own : (j : ℕ) → nat_eq i j ≡ true → has_slot (i ∷ walks_in of) j ≡ true
      own j w = let same : i ≡ j = eqb-true i j w in subst (λ j. has_slot (i ∷ walks_in of) j ≡ true) same (has_own i (walks_in of))

  -- ---- expressions

  module _ (tells : Tells) where
    -- the note of a walk over an expression
    opened : (inside : List ℕ) (i : ℕ) (of : Expr) (ws : List ℕ) (a z x : ℕ) (is : List Instr) (ks : List Kind) → slice_get gs i ≡ Some (Some ks) → Ready inside (i ∷ (walks_in of ++ ws)) a → HasAt code.instrs a (expr_code of a ++ Walk ∷ Next i x ∷ is) → lo ≤ a → expr_end of a + 1 < hi → z ≤ hi → Closed (mark i (expr_end of a + 1 + 1) z) →
        IsWalkNote code sc notes k i (expr_end of a + 1 + 1) z ks
    opened inside i of ws a z x is ks gathered ready has low high within closed =
        let m = expr_end of a in
        let behind = all_behind code.instrs a (expr_code of a) (Walk ∷ Next i x ∷ is) m (expr_length of a) has in
        let front = expr_only of a (has_front code.instrs a (expr_code of a) (Walk ∷ Next i x ∷ is) has) in
        let o = only_next (Wrote (walks_in of) []) a m Walk behind.0 (λ j w. absurd (false≢true w)) front in
        let up = expr_up of a in
        walk_noted tells i (m + 1) z x ks gathered (ready.known i (has_own i (walks_in of ++ ws))) behind.1.0
        (unwritten_on (Wrote (walks_in of) []) i a (m + 1) (ready.unwritten i (has_own i (walks_in of ++ ws))) o never) (omega (arith, low, up)) high within closed
      where
        never : Wrote (walks_in of) [] i → ⊥
        never (inl e) = both_ways (has_slot (walks_in of) i) (has_neither (walks_in of) ws i ready.walks.apart.0).0 e
        never (inr e) = false≢true e

    -- of one that gathers what it walks
    chosen : (inside : List ℕ) (i : ℕ) (of : Expr) (ws : List ℕ) (a z x : ℕ) (is : List Instr) → GathersWalked sc gs i → Ready inside (i ∷ (walks_in of ++ ws)) a → HasAt code.instrs a (expr_code of a ++ Walk ∷ Next i x ∷ is) → lo ≤ a → expr_end of a + 1 < hi → z ≤ hi → Closed (mark i (expr_end of a + 1 + 1) z) →
        (ks : List Kind) × (w : IsWalkNote code sc notes k i (expr_end of a + 1 + 1) z ks) × (w.note.form ≡ of_tuple ks)
    chosen inside i of ws a z x is g ready has low high within closed =
        let w = opened inside i of ws a z x is g.0 g.2 ready has low high within closed in
        let s = tells.fits.slots i (of_tuple g.0) g.1 in
        let same : w.note ≡ s.0 = some_is w.note s.0 (sym w.there ∙ s.1) in
        (g.0, w, ap (λ (n : Slot_note). n.form) same ∙ s.2)

    made : (i : ℕ) (body : Expr) (b : ℕ) (ks : List Kind) (rs : List ℕ) → IsOf sc rs body (of_tuple ks) → Noted code sc notes k body b → (rs' : List ℕ) (ls : List Kind) → IsOf sc rs' body (of_tuple ls) → ls ≡ ks
    made i body b ks rs is n rs' ls is' =
        one_tuple (expr_seen sc.rels sc.hosts notes k body) ls ks (seen_below code sc notes k (λ c. None) 0 0 tells.fits rs' body (of_tuple ls) b is' n) (seen_below code sc notes k (λ c. None) 0 0 tells.fits rs body (of_tuple ks) b is n)

    abbrev Marked : List Mark → Type 0
    Marked ms = AllMarks Closed ms

    mutual
      pub expr_noted : (inside : List ℕ) (e : Expr) (a : ℕ) → Gathers sc gs e → Ready inside (walks_in e) a → Marked (expr_marks e a) → HasAt code.instrs a (expr_code e a) → lo ≤ a → expr_end e a ≤ hi → Noted code sc notes k e a
      expr_noted inside (constant c) a g ready marks has low high = tt
      expr_noted inside (local i) a g ready marks has low high = tt
      expr_noted inside (relation r) a g ready marks has low high = tt
      expr_noted inside (prim op args at) a g ready marks has low high =
          exprs_noted inside args a g ready (marks_front Closed (exprs_marks args a) [] marks) (has_front code.instrs a (exprs_code args a) (Prim op at ∷ []) has) low (omega (arith, high))
      expr_noted inside (chain first links) a g ready marks has low high =
          let m = expr_end first a in
          let us = walks_in first in
          let vs = walks_in_links links in
          let front = has_front code.instrs a (expr_code first a) (links_code links m) has in
          let up = expr_up first a in
          let more = links_length links m in (
            expr_noted inside first a g.0 (ready_front inside us vs a ready) (marks_front Closed (expr_marks first a) (links_marks links m) marks) front low (omega (arith, high, more)),
            links_noted inside links m g.1 (ready_behind inside us vs [] a m ready (no_sets inside us) (expr_only first a front)) (marks_back Closed (expr_marks first a) (links_marks links m) marks)
                (all_behind code.instrs a (expr_code first a) (links_code links m) m (expr_length first a) has) (omega (arith, low, up)) high,
          )
      expr_noted inside (and_all args) a g ready marks has low high = every_noted inside args a (every_last args a) g ready (marks_front Closed (every_marks args a) [] marks) has low high
      expr_noted inside (or_any args) a g ready marks has low high = some_noted inside args a (some_end args a) g ready marks has low high
      expr_noted inside (when_expr body hypos) a g ready marks has low high =
          let m = hypos_end hypos a in
          let n = hypos_count hypos in
          let us = walks_in body in
          let vs = walks_in_hypos hypos in
          let front = has_front code.instrs a (hypos_code hypos a) (expr_code body m ++ leaves n) has in
          let behind = all_behind code.instrs a (hypos_code hypos a) (expr_code body m ++ leaves n) m (hypos_length hypos a) has in
          let long = hypos_length hypos a in
          let more = expr_up body m in (
            hypos_noted inside hypos a g.1 (ready_back inside us vs a ready) (marks_front Closed (hypos_marks hypos a) (expr_marks body m ++ []) marks) front low (omega (arith, high, more)),
            expr_noted inside body m g.0 (ready_before inside us vs a m ready (hypos_only hypos a front)) (marks_front Closed (expr_marks body m) [] (marks_back Closed (hypos_marks hypos a) (expr_marks body m ++ []) marks))
                (has_front code.instrs m (expr_code body m) (leaves n) behind) (omega (arith, low, long)) (omega (arith, high)),
          )
      expr_noted inside (select i of body) a g ready marks has low high =
          let m = expr_end of a in
          let l = m + 1 in
          let z = expr_end body (l + 1) in
          let x = z + 1 + 1 in
          let is : List Instr = expr_code body (l + 1) ++ Keep ∷ Back l ∷ Yield ∷ [] in
          let own = marks_front Closed (mark i (l + 1) z ∷ ((expr_marks of a ++ []) ++ expr_marks body (l + 1))) [] marks in
          let behind = all_behind code.instrs a (expr_code of a) (Walk ∷ Next i x ∷ is) m (expr_length of a) has in
          let up = expr_up of a in
          let more = expr_up body (l + 1) in (
            expr_noted inside of a g.0 (ready_front inside (walks_in of) (walks_in body) a (ready_tail inside i (walks_in of ++ walks_in body) a ready))
                (marks_front Closed (expr_marks of a) [] (marks_front Closed (expr_marks of a ++ []) (expr_marks body (l + 1)) own.1)) (has_front code.instrs a (expr_code of a) (Walk ∷ Next i x ∷ is) has) low (omega (arith, high, more)),
            chosen inside i of (walks_in body) a z x is g.2 ready has low (omega (arith, high, more)) (omega (arith, high)) own.0,
            expr_noted inside body (l + 1) g.1 (ready_behind inside (i ∷ walks_in of) (walks_in body) [] a (l + 1) ready (no_sets inside (i ∷ walks_in of)) (walk_only i of a x is has)) (marks_back Closed (expr_marks of a ++ []) (expr_marks body (l + 1)) own.1)
                (has_front code.instrs (l + 1) (expr_code body (l + 1)) (Keep ∷ Back l ∷ Yield ∷ []) behind.1.1) (omega (arith, low, up)) (omega (arith, high)),
          )
      expr_noted inside (map_each i of body) a g ready marks has low high =
          let m = expr_end of a in
          let l = m + 1 in
          let z = expr_end body (l + 1) in
          let x = z + 1 + 1 in
          let is : List Instr = expr_code body (l + 1) ++ Gather ∷ Back l ∷ Yield ∷ [] in
          let own = marks_front Closed (mark i (l + 1) z ∷ ((expr_marks of a ++ []) ++ expr_marks body (l + 1))) [] marks in
          let behind = all_behind code.instrs a (expr_code of a) (Walk ∷ Next i x ∷ is) m (expr_length of a) has in
          let up = expr_up of a in
          let more = expr_up body (l + 1) in
          let in_body = expr_noted inside body (l + 1) g.1 (ready_behind inside (i ∷ walks_in of) (walks_in body) [] a (l + 1) ready (no_sets inside (i ∷ walks_in of)) (walk_only i of a x is has)) (marks_back Closed (expr_marks of a ++ []) (expr_marks body (l + 1)) own.1)
          (has_front code.instrs (l + 1) (expr_code body (l + 1)) (Gather ∷ Back l ∷ Yield ∷ []) behind.1.1) (omega (arith, low, up)) (omega (arith, high)) in (
            expr_noted inside of a g.0 (ready_front inside (walks_in of) (walks_in body) a (ready_tail inside i (walks_in of ++ walks_in body) a ready))
                (marks_front Closed (expr_marks of a) [] (marks_front Closed (expr_marks of a ++ []) (expr_marks body (l + 1)) own.1)) (has_front code.instrs a (expr_code of a) (Walk ∷ Next i x ∷ is) has) low (omega (arith, high, more)),
            (g.2.0, opened inside i of (walks_in body) a z x is g.2.0 g.2.3 ready has low (omega (arith, high, more)) (omega (arith, high)) own.0, made i body (l + 1) g.2.0 g.2.1 g.2.2 in_body),
            in_body,
          )
      expr_noted inside (call j args) a g ready marks has low high =
          exprs_noted inside args a g ready (marks_front Closed (exprs_marks args a) [] marks) (has_front code.instrs a (exprs_code args a) (Call j ∷ []) has) low (omega (arith, high))
      expr_noted inside (host h args) a g ready marks has low high =
          exprs_noted inside args a g ready (marks_front Closed (exprs_marks args a) [] marks) (has_front code.instrs a (exprs_code args a) _ has) low (omega (arith, high))

      pub exprs_noted : (inside : List ℕ) (es : Exprs) (a : ℕ) → GathersAll sc gs es → Ready inside (walks_in_all es) a → Marked (exprs_marks es a) → HasAt code.instrs a (exprs_code es a) → lo ≤ a → exprs_end es a ≤ hi → NotedAll code sc notes k es a
      exprs_noted inside no_more a g ready marks has low high = tt
      exprs_noted inside (then_expr e es) a g ready marks has low high =
          let m = expr_end e a in
          let us = walks_in e in
          let vs = walks_in_all es in
          let front = has_front code.instrs a (expr_code e a) (exprs_code es m) has in
          let up = expr_up e a in
          let more = exprs_up es m in (
            expr_noted inside e a g.0 (ready_front inside us vs a ready) (marks_front Closed (expr_marks e a) (exprs_marks es m) marks) front low (omega (arith, high, more)),
            exprs_noted inside es m g.1 (ready_behind inside us vs [] a m ready (no_sets inside us) (expr_only e a front)) (marks_back Closed (expr_marks e a) (exprs_marks es m) marks)
                (all_behind code.instrs a (expr_code e a) (exprs_code es m) m (expr_length e a) has) (omega (arith, low, up)) high,
          )

      every_noted : (inside : List ℕ) (es : Exprs) (a f : ℕ) → GathersAll sc gs es → Ready inside (walks_in_all es) a → Marked (every_marks es a) → HasAt code.instrs a (every_code es a f) → lo ≤ a → every_last es a + 1 ≤ hi → NotedEvery code sc notes k es a
      every_noted inside no_more a f g ready marks has low high = tt
      every_noted inside (then_expr e no_more) a f g ready marks has low high =
          (expr_noted inside e a g.0 (ready_front inside (walks_in e) [] a ready) (marks_front Closed (expr_marks e a) [] marks) (has_front code.instrs a (expr_code e a) (Jump (f + 1) ∷ push_bool false ∷ []) has) low (omega (arith, high)), tt)
      every_noted inside (then_expr e (then_expr d es)) a f g ready marks has low high =
          let m = expr_end e a in
          let us = walks_in e in
          let vs = walks_in_all (then_expr d es) in
          let front = has_front code.instrs a (expr_code e a) (Unless f ∷ every_code (then_expr d es) (m + 1) f) has in
          let behind = all_behind code.instrs a (expr_code e a) (Unless f ∷ every_code (then_expr d es) (m + 1) f) m (expr_length e a) has in
          let up = expr_up e a in
          let some = every_last_up (then_expr d es) (m + 1) in (
            expr_noted inside e a g.0 (ready_front inside us vs a ready) (marks_front Closed (expr_marks e a) (every_marks (then_expr d es) (m + 1)) marks) front low (omega (arith, high, some)),
            every_noted inside (then_expr d es) (m + 1) f g.1 (ready_behind inside us vs [] a (m + 1) ready (no_sets inside us) (only_next (Wrote us []) a m (Unless f) behind.0 (λ j w. absurd (false≢true w)) (expr_only e a front)))
                (marks_back Closed (expr_marks e a) (every_marks (then_expr d es) (m + 1)) marks) behind.1 (omega (arith, low, up)) high,
          )

      some_noted : (inside : List ℕ) (es : Exprs) (a x : ℕ) → GathersAll sc gs es → Ready inside (walks_in_all es) a → Marked (some_marks es a) → HasAt code.instrs a (some_code es a x) → lo ≤ a → some_end es a ≤ hi → NotedSome code sc notes k es a
      some_noted inside no_more a x g ready marks has low high = tt
      some_noted inside (then_expr e no_more) a x g ready marks has low high = (expr_noted inside e a g.0 (ready_front inside (walks_in e) [] a ready) marks has low high, tt)
      some_noted inside (then_expr e (then_expr d es)) a x g ready marks has low high =
          let m = expr_end e a in
          let n = m + 1 + 1 + 1 in
          let us = walks_in e in
          let vs = walks_in_all (then_expr d es) in
          let Q = Wrote us [] in
          let front = has_front code.instrs a (expr_code e a) (Unless n ∷ push_bool true ∷ Jump x ∷ some_code (then_expr d es) n x) has in
          let behind = all_behind code.instrs a (expr_code e a) (Unless n ∷ push_bool true ∷ Jump x ∷ some_code (then_expr d es) n x) m (expr_length e a) has in
          let up = expr_up e a in
          let more = some_length (then_expr d es) n x in (
            expr_noted inside e a g.0 (ready_front inside us vs a ready) (marks_front Closed (expr_marks e a) (some_marks (then_expr d es) n) marks) front low (omega (arith, high, more)),
            some_noted inside (then_expr d es) n x g.1
                (ready_behind inside us vs [] a n ready (no_sets inside us)
                (only_next Q a (m + 1 + 1) (Jump x) behind.1.1.0 (λ j w. absurd (false≢true w)) (only_next Q a (m + 1) (push_bool true) behind.1.0 (λ j w. absurd (false≢true w)) (only_next Q a m (Unless n) behind.0 (λ j w. absurd (false≢true w)) (expr_only e a front)))))
                (marks_back Closed (expr_marks e a) (some_marks (then_expr d es) n) marks) behind.1.1.1 (omega (arith, low, up)) high,
          )

      links_noted : (inside : List ℕ) (ls : Links) (a : ℕ) → GathersLinks sc gs ls → Ready inside (walks_in_links ls) a → Marked (links_marks ls a) → HasAt code.instrs a (links_code ls a) → lo ≤ a → links_end ls a ≤ hi → NotedLinks code sc notes k ls a
      links_noted inside no_link a g ready marks has low high = tt
      links_noted inside (link op arg at rest) a g ready marks has low high =
          let m = expr_end arg a in
          let us = walks_in arg in
          let vs = walks_in_links rest in
          let front = has_front code.instrs a (expr_code arg a) (Prim op at ∷ links_code rest (m + 1)) has in
          let behind = all_behind code.instrs a (expr_code arg a) (Prim op at ∷ links_code rest (m + 1)) m (expr_length arg a) has in
          let up = expr_up arg a in
          let more = links_length rest (m + 1) in (
            expr_noted inside arg a g.0 (ready_front inside us vs a ready) (marks_front Closed (expr_marks arg a) (links_marks rest (m + 1)) marks) front low (omega (arith, high, more)),
            links_noted inside rest (m + 1) g.1 (ready_behind inside us vs [] a (m + 1) ready (no_sets inside us) (only_next (Wrote us []) a m (Prim op at) behind.0 (λ j w. absurd (false≢true w)) (expr_only arg a front)))
                (marks_back Closed (expr_marks arg a) (links_marks rest (m + 1)) marks) behind.1 (omega (arith, low, up)) high,
          )

      hypos_noted : (inside : List ℕ) (hs : Hypos) (a : ℕ) → GathersHypos sc gs hs → Ready inside (walks_in_hypos hs) a → Marked (hypos_marks hs a) → HasAt code.instrs a (hypos_code hs a) → lo ≤ a → hypos_end hs a ≤ hi → NotedHypos code sc notes k hs a
      hypos_noted inside no_hypo a g ready marks has low high = tt
      hypos_noted inside (hypo d at rest) a g ready marks has low high =
          let m = hypos_end rest a in
          let us = walks_in d in
          let vs = walks_in_hypos rest in
          let front = has_front code.instrs a (hypos_code rest a) (expr_code d m ++ Enter at ∷ []) has in
          let behind = all_behind code.instrs a (hypos_code rest a) (expr_code d m ++ Enter at ∷ []) m (hypos_length rest a) has in
          let long = hypos_length rest a in
          let up = expr_up d m in (
            hypos_noted inside rest a g.1 (ready_back inside us vs a ready) (marks_front Closed (hypos_marks rest a) (expr_marks d m ++ []) marks) front low (omega (arith, high, up)),
            expr_noted inside d m g.0 (ready_before inside us vs a m ready (hypos_only rest a front)) (marks_front Closed (expr_marks d m) [] (marks_back Closed (hypos_marks rest a) (expr_marks d m ++ []) marks))
                (has_front code.instrs m (expr_code d m) (Enter at ∷ []) behind) (omega (arith, low, long)) (omega (arith, high)),
          )

    -- ---- statements

    only_seq : (Q : ℕ → Type 0) (a m b : ℕ) → Only Q a m → Only Q m b → Only Q a b
    only_seq Q a m b h g = record { only = λ c x j e ge lt v. by c x j e ge lt v (cases_lt c m) }
      where
        by : (c : ℕ) (x : Instr) (j : ℕ) → slice_get code.instrs c ≡ Some x → a ≤ c → c < b → is_writer x j ≡ true → (c < m) ⊎ (m ≤ c) → Q j
        by c x j e ge lt v (inl less) = h.only c x j e ge less v
        by c x j e ge lt v (inr more) = g.only c x j e more lt v

    -- slots that are neither walks nor seen are not written before this
    pub record Clear (seen : List ℕ) (a : ℕ) : Type 0 where
      pub unseen : (i : ℕ) → has_slot seen i ≡ false → has_slot sc.walks i ≡ false → Unwritten i a

    clear_on : (Q : ℕ → Type 0) (seen more : List ℕ) (a b : ℕ) → Clear seen a → Only Q a b → ((i : ℕ) → has_slot more i ≡ false → has_slot seen i ≡ false) → ((i : ℕ) → has_slot more i ≡ false → has_slot sc.walks i ≡ false → Q i → ⊥) → Clear more b
    clear_on Q seen more a b h o less never = record { unseen = λ i e w. unwritten_on Q i a b (h.unseen i (less i e) w) o (never i e w) }

    clear_past : (us seen : List ℕ) (a b : ℕ) → ((i : ℕ) → has_slot us i ≡ true → has_slot sc.walks i ≡ true) → Clear seen a → Only (Wrote us []) a b → Clear seen b
    clear_past us seen a b told h o = clear_on (Wrote us []) seen seen a b h o (λ i e. e) (λ i e w q. never i w q)
      where
        never : (i : ℕ) → has_slot sc.walks i ≡ false → Wrote us [] i → ⊥
        never i w (inl e) = both_ways (has_slot sc.walks i) w (told i e)
        never i w (inr e) = false≢true e

    clear_more : (us ss seen : List ℕ) (a b : ℕ) → ((i : ℕ) → has_slot us i ≡ true → has_slot sc.walks i ≡ true) → Clear seen a → Only (Wrote us ss) a b → Clear (seen ++ ss) b
    clear_more us ss seen a b told h o = clear_on (Wrote us ss) seen (seen ++ ss) a b h o (λ i e. (has_neither seen ss i e).0) (λ i e w q. never i (has_neither seen ss i e).1 w q)
      where
        never : (i : ℕ) → has_slot ss i ≡ false → has_slot sc.walks i ≡ false → Wrote us ss i → ⊥
        never i n w (inl e) = both_ways (has_slot sc.walks i) w (told i e)
        never i n w (inr e) = both_ways (has_slot ss i) n e

    -- the slots of the Foreachs around are set from here on
    pub record Around (inside : List ℕ) (a z : ℕ) : Type 0 where
      pub holds : (i : ℕ) (n : Slot_note) → has_slot inside i ≡ true → slot notes k i ≡ Some n → (n.from ≤ a) × (z ≤ n.to)

    around_in : (inside : List ℕ) (a b y z : ℕ) → a ≤ b → y ≤ z → Around inside a z → Around inside b y
    around_in inside a b y z le ge h = record { holds = λ i n e there. (let r = h.holds i n e there in (omega (arith, r.0, le), omega (arith, r.1, ge))) }

    around_walk : (inside : List ℕ) (i a b y z : ℕ) (ks : List Kind) → IsWalkNote code sc notes k i b y ks → a ≤ b → y ≤ z → Around inside a z → Around (i ∷ inside) b y
    around_walk inside i a b y z ks w le ge h = record { holds = λ j n e there. by j n there (or_cases (nat_eq j i) (has_slot inside j) e) }
      where
        by : (j : ℕ) (n : Slot_note) → slot notes k j ≡ Some n → (nat_eq j i ≡ true) ⊎ (has_slot inside j ≡ true) → (n.from ≤ b) × (y ≤ n.to)
        by j n there (inl q) =
            let e : w.note ≡ n = some_is w.note n (sym w.there ∙ ap (slot notes k) (sym (eqb-true j i q)) ∙ there) in
            let from : w.note.from ≡ n.from = ap (λ (n : Slot_note). n.from) e in
            let to : w.note.to ≡ n.to = ap (λ (n : Slot_note). n.to) e in
            let high = w.within in
            let low = w.from_is in
            (omega (arith, from, low), omega (arith, to, high))
        by j n there (inr q) = let r = h.holds j n q there in (omega (arith, r.0, le), omega (arith, r.1, ge))

    set_here : (i c : ℕ) (n : Slot_note) → n.from ≤ c → c < n.to → is_set_at code k i c n ≡ true
    set_here i c n from to = or_right (nat_lt i (params code k)) (nat_le n.from c && nat_lt c n.to) (and_from (nat_le n.from c) (nat_lt c n.to) (le-leb n.from c from) (lt-ltb c n.to to))

    -- a slot that is set for the first time
    first_set : (seen inside : List ℕ) (i : ℕ) (e : Expr) (a z : ℕ) → MaySet sc inside i → Ready inside (walks_in e) a → Clear seen a → Around inside a z → Closed (mark i (expr_end e a + 1) z) → HasAt code.instrs a (expr_code e a ++ Store i ∷ []) → lo ≤ a → expr_end e a + 1 ≤ z → z ≤ hi →
        has_slot seen i ≡ false → IsSetFrom code sc notes k i (expr_end e a + 1) z
    first_set seen inside i e a z may ready clear around closed has low le high unseen c n there ge lt = by (cases_lt i (params code k))
      where
        m : ℕ
        m = expr_end e a

        none : has_slot sc.walks i ≡ false → Wrote (walks_in e) [] i → ⊥
        none w (inl q) = both_ways (has_slot sc.walks i) w (ready.known i q)
        none w (inr q) = false≢true q

        own : params code k ≤ i → has_slot sc.walks i ≡ false → is_set_at code k i c n ≡ true
        own above w =
            let o = expr_only e a (has_front code.instrs a (expr_code e a) (Store i ∷ []) has) in
            let up = expr_up e a in
            let first : IsFirstWrite code.instrs lo hi i (expr_end e a) = record {
              low = omega (arith, low, up);
              high = omega (arith, le, high);
              instr = Store i;
              here = here_behind code.instrs a (expr_code e a) (Store i) [] (expr_end e a) (expr_length e a) has;
              writes = eq-eqb i i refl;
              before = unwritten_on (Wrote (walks_in e) []) i a (expr_end e a) (clear.unseen i unseen w) o (none w);
            } in
            let r = (tells.ranges i n there above).written (expr_end e a) first in
            let same : expr_end e a + 1 ≡ n.from = sym r.0 in
            let far : z ≤ n.to = r.1.farthest z high (subst (λ f. IsClosed code.instrs lo hi f z) same closed) in
            set_here i c n (omega (arith, ge, same)) (omega (arith, lt, far))

        walk_or : params code k ≤ i → (has_slot inside i ≡ true) ⊎ (has_slot inside i ≡ false) → is_set_at code k i c n ≡ true
        walk_or above (inl it) = let r = around.holds i n it there in let up = expr_up e a in set_here i c n (omega (arith, r.0, ge, up)) (omega (arith, r.1, lt))
        walk_or above (inr un) = own above (by_may (or_cases (not (has_slot sc.walks i)) (has_slot inside i) may))
          where
            negated : (t : Bool) → not t ≡ true → t ≡ false
            negated true q = sym q
            negated false q = refl

            by_may : (not (has_slot sc.walks i) ≡ true) ⊎ (has_slot inside i ≡ true) → has_slot sc.walks i ≡ false
            by_may (inl q) = negated (has_slot sc.walks i) q
            by_may (inr q) = absurd (both_ways (has_slot inside i) un q)

        by : (i < params code k) ⊎ (params code k ≤ i) → is_set_at code k i c n ≡ true
        by (inl below) = or_left (nat_lt i (params code k)) (nat_le n.from c && nat_lt c n.to) (lt-ltb i (params code k) below)
        by (inr above) = walk_or above (cases_Bool (has_slot inside i))

    module _ (pl : Role) where
      command_only : (c : Command) (a : ℕ) → HasAt code.instrs a (command_code pl c a) → Only (Wrote (walks_of c) (sets_of c)) a (command_end c a)
      command_only c a has = only_code (Wrote (walks_of c) (sets_of c)) a (command_end c a) (command_code pl c a) (command_length pl c a) has (command_writes (Wrote (walks_of c) (sets_of c)) pl c a (λ j q. inl q) (λ j q. inr q))

      arms_only : (arms : Arms) (a x : ℕ) → HasAt code.instrs a (arms_code pl arms a x) → Only (Wrote (walks_of_arms arms) (sets_of_arms arms)) a (arms_end arms a)
      arms_only arms a x has =
          only_code (Wrote (walks_of_arms arms) (sets_of_arms arms)) a (arms_end arms a) (arms_code pl arms a x) (arms_length pl arms a x) has (arms_write (Wrote (walks_of_arms arms) (sets_of_arms arms)) pl arms a x (λ j q. inl q) (λ j q. inr q))

      -- an arm, up to behind its Jump
      arm_only : (c : Expr) (block : Block) (a n x : ℕ) (is : List Instr) → HasAt code.instrs a (expr_code c a ++ Unless n ∷ (block_code pl block (expr_end c a + 1) ++ Jump x ∷ is)) →
          Only (Wrote (walks_in c ++ walks_of_block block) (sets_of_block block)) a (block_end block (expr_end c a + 1) + 1)
      arm_only c block a n x is has =
          let m = expr_end c a in
          let z = block_end block (m + 1) in
          let us = walks_in c in
          let vs = walks_of_block block in
          let Q = Wrote (us ++ vs) (sets_of_block block) in
          let rest : List Instr = Unless n ∷ (block_code pl block (m + 1) ++ Jump x ∷ is) in
          let behind = all_behind code.instrs a (expr_code c a) rest m (expr_length c a) has in
          let last = all_behind code.instrs (m + 1) (block_code pl block (m + 1)) (Jump x ∷ is) z (block_length pl block (m + 1)) behind.1 in
          only_next Q a z (Jump x) last.0 (λ j w. absurd (false≢true w))
          (only_seq Q a (m + 1) z
          (only_next Q a m (Unless n) behind.0 (λ j w. absurd (false≢true w)) (only_code Q a m (expr_code c a) (expr_length c a) (has_front code.instrs a (expr_code c a) rest has) (expr_writes Q c a (λ j q. inl (has_left us vs j q)))))
          (only_code Q (m + 1) z (block_code pl block (m + 1)) (block_length pl block (m + 1)) (has_front code.instrs (m + 1) (block_code pl block (m + 1)) (Jump x ∷ is) behind.1) (block_writes Q pl block (m + 1) (λ j q. inl (has_right us vs j q)) (λ j q. inr q))))

      sets_noted : (seen rs inside : List ℕ) (c : Command) (a z : ℕ) → IsSound sc seen rs inside c → Ready inside (walks_of c) a → Clear seen a → Around inside a z → Marked (set_mark c (command_end c a) z) → HasAt code.instrs a (command_code pl c a) → lo ≤ a → command_end c a ≤ z → z ≤ hi → SetNoted code sc notes k seen c (command_end c a) z
      sets_noted seen rs inside (set_slot i e) a z is ready clear around marks has low le high = first_set seen inside i e a z is.3 ready clear around marks.0 has low le high
      sets_noted seen rs inside (if_arms arms other) a z is ready clear around marks has low le high = tt
      sets_noted seen rs inside (while c block) a z is ready clear around marks has low le high = tt
      sets_noted seen rs inside (foreach i of block) a z is ready clear around marks has low le high = tt
      sets_noted seen rs inside (print e shape) a z is ready clear around marks has low le high = tt
      sets_noted seen rs inside (apply d at) a z is ready clear around marks has low le high = tt
      sets_noted seen rs inside (commit label) a z is ready clear around marks has low le high = tt
      sets_noted seen rs inside rollback a z is ready clear around marks has low le high = tt
      sets_noted seen rs inside (assert c at) a z is ready clear around marks has low le high = tt
      sets_noted seen rs inside return a z is ready clear around marks has low le high = tt
      sets_noted seen rs inside (return_value e) a z is ready clear around marks has low le high = tt
      sets_noted seen rs inside (call_proc j args) a z is ready clear around marks has low le high = tt

      mutual
        pub command_noted : (seen rs inside : List ℕ) (c : Command) (a : ℕ) → IsSound sc seen rs inside c → CommandGathers sc gs c → Ready inside (walks_of c) a → Clear seen a → Around inside a (command_end c a) → Marked (command_marks c a) → HasAt code.instrs a (command_code pl c a) → lo ≤ a → command_end c a ≤ hi → NotedCommand code sc notes k seen c a
        command_noted seen rs inside (set_slot i e) a is g ready clear around marks has low high = expr_noted inside e a g ready marks (has_front code.instrs a (expr_code e a) (Store i ∷ []) has) low (omega (arith, high))
        command_noted seen rs inside (if_arms arms other) a is g ready clear around marks has low high =
            let m = arms_end arms a in
            let x = block_end other m in
            let us = walks_of_arms arms in
            let vs = walks_of_block other in
            let front = has_front code.instrs a (arms_code pl arms a x) (block_code pl other m) has in
            let behind = all_behind code.instrs a (arms_code pl arms a x) (block_code pl other m) m (arms_length pl arms a x) has in
            let up = arms_length pl arms a x in
            let more = block_length pl other m in
            let first = ready_front inside us vs a ready in
            let o = arms_only arms a x front in (
              arms_noted seen rs inside arms a x is.0 g.0 first clear (around_in inside a a m x (omega arith) (omega (arith, more)) around) (marks_front Closed (arms_marks arms a) (block_marks other m x) marks) front low (omega (arith, high, more)),
              block_noted (seen ++ sets_of_arms arms) rs inside other m x refl is.1 g.1 (ready_behind inside us vs (sets_of_arms arms) a m ready (λ j q. arms_may sc seen rs inside arms is.0 j q) o) (clear_more us (sets_of_arms arms) seen a m first.known clear o)
                  (around_in inside a m x x (omega (arith, up)) (omega arith) around) (marks_back Closed (arms_marks arms a) (block_marks other m x) marks) behind (omega (arith, low, up)) high,
            )
        command_noted seen rs inside (while c block) a is g ready clear around marks has low high =
            let m = expr_end c a in
            let b = block_end block (m + 1) in
            let us = walks_in c in
            let vs = walks_of_block block in
            let rest : List Instr = Unless (b + 1) ∷ (block_code pl block (m + 1) ++ Back a ∷ []) in
            let front = has_front code.instrs a (expr_code c a) rest has in
            let behind = all_behind code.instrs a (expr_code c a) rest m (expr_length c a) has in
            let up = expr_up c a in
            let more = block_length pl block (m + 1) in
            let first = ready_front inside us vs a ready in
            let o = only_next (Wrote us []) a m (Unless (b + 1)) behind.0 (λ j w. absurd (false≢true w)) (expr_only c a front) in (
              expr_noted inside c a g.0 first (marks_front Closed (expr_marks c a) (block_marks block (m + 1) b ++ []) marks) front low (omega (arith, high, more)),
              block_noted seen rs inside block (m + 1) b refl is.1 g.1 (ready_behind inside us vs [] a (m + 1) ready (no_sets inside us) o) (clear_past us seen a (m + 1) first.known clear o)
                  (around_in inside a (m + 1) b (b + 1) (omega (arith, up)) (omega arith) around) (marks_front Closed (block_marks block (m + 1) b) [] (marks_back Closed (expr_marks c a) (block_marks block (m + 1) b ++ []) marks))
                  (has_front code.instrs (m + 1) (block_code pl block (m + 1)) (Back a ∷ []) behind.1) (omega (arith, low, up)) (omega (arith, high)),
            )
        command_noted seen rs inside (foreach i of block) a is g ready clear around marks has low high =
            let m = expr_end of a in
            let b = m + 1 + 1 in
            let z = block_end block b in
            let us = walks_in of in
            let vs = walks_of_block block in
            let rest : List Instr = block_code pl block b ++ Back (m + 1) ∷ Drop ∷ [] in
            let own = marks_front Closed (mark i b z ∷ ((expr_marks of a ++ []) ++ block_marks block b z)) [] marks in
            let behind = all_behind code.instrs a (expr_code of a) (Walk ∷ Next i (z + 1) ∷ rest) m (expr_length of a) has in
            let up = expr_up of a in
            let more = block_length pl block b in
            let o = walk_only i of a (z + 1) rest has in
            let r = ready_behind inside (i ∷ us) vs [] a b ready (no_sets inside (i ∷ us)) o in
            let ch = chosen inside i of vs a z (z + 1) rest g.2 ready has low (omega (arith, high, more)) (omega (arith, high)) own.0 in (
              expr_noted inside of a g.0 (ready_front inside us vs a (ready_tail inside i (us ++ vs) a ready)) (marks_front Closed (expr_marks of a) [] (marks_front Closed (expr_marks of a ++ []) (block_marks block b z) own.1))
                  (has_front code.instrs a (expr_code of a) (Walk ∷ Next i (z + 1) ∷ rest) has) low (omega (arith, high, more)),
              ch,
              block_noted seen (i ∷ rs) (i ∷ inside) block b z refl is.3 g.1 (record { walks = fresh_back (i ∷ inside) us vs (fresh_walk inside i (us ++ vs) ready.walks); known = r.known; unwritten = r.unwritten })
                  (clear_past (i ∷ us) seen a b (ready_front inside (i ∷ us) vs a ready).known clear o) (around_walk inside i a b z (z + 1 + 1) ch.0 ch.1 (omega (arith, up)) (omega arith) around) (marks_back Closed (expr_marks of a ++ []) (block_marks block b z) own.1)
                  (has_front code.instrs b (block_code pl block b) (Back (m + 1) ∷ Drop ∷ []) behind.1.1) (omega (arith, low, up)) (omega (arith, high)),
            )
        command_noted seen rs inside (print e shape) a is g ready clear around marks has low high = expr_noted inside e a g ready (marks_front Closed (expr_marks e a) [] marks) (has_front code.instrs a (expr_code e a) (Print shape ∷ []) has) low (omega (arith, high))
        command_noted seen rs inside (apply d at) a is g ready clear around marks has low high = expr_noted inside d a g ready (marks_front Closed (expr_marks d a) [] marks) (has_front code.instrs a (expr_code d a) (Apply at ∷ []) has) low (omega (arith, high))
        command_noted seen rs inside (commit label) a is g ready clear around marks has low high = tt
        command_noted seen rs inside rollback a is g ready clear around marks has low high = tt
        command_noted seen rs inside (assert c at) a is g ready clear around marks has low high = expr_noted inside c a g ready (marks_front Closed (expr_marks c a) [] marks) (has_front code.instrs a (expr_code c a) (Assert at ∷ []) has) low (omega (arith, high))
        command_noted seen rs inside return a is g ready clear around marks has low high = tt
        command_noted seen rs inside (return_value e) a is g ready clear around marks has low high = expr_noted inside e a g ready (marks_front Closed (expr_marks e a) [] marks) (has_front code.instrs a (expr_code e a) (return_code pl ∷ []) has) low (omega (arith, high))
        command_noted seen rs inside (call_proc j args) a is g ready clear around marks has low high = exprs_noted inside args a g ready (marks_front Closed (exprs_marks args a) [] marks) (has_front code.instrs a (exprs_code args a) (Call j ∷ []) has) low (omega (arith, high))

        pub block_noted : (seen rs inside : List ℕ) (b : Block) (a z : ℕ) → block_end b a ≡ z → BlockIsSound sc seen rs inside b → BlockGathers sc gs b → Ready inside (walks_of_block b) a → Clear seen a → Around inside a z → Marked (block_marks b a z) → HasAt code.instrs a (block_code pl b a) → lo ≤ a → z ≤ hi → NotedBlock code sc notes k seen b a z
        block_noted seen rs inside no_stmt a z end is g ready clear around marks has low high = tt
        block_noted seen rs inside (then_stmt c rest) a z end is g ready clear around marks has low high =
            let m = command_end c a in
            let us = walks_of c in
            let vs = walks_of_block rest in
            let front = has_front code.instrs a (command_code pl c a) (block_code pl rest m) has in
            let behind = all_behind code.instrs a (command_code pl c a) (block_code pl rest m) m (command_length pl c a) has in
            let up = command_length pl c a in
            let more = block_length pl rest m in
            let le : m ≤ z = omega (arith, more, end) in
            let first = ready_front inside us vs a ready in
            let inner = marks_back Closed (set_mark c m z) (command_marks c a ++ block_marks rest m z) marks in
            let o = command_only c a front in (
              command_noted seen rs inside c a is.0 g.0 first clear (around_in inside a a m z (omega arith) le around) (marks_front Closed (command_marks c a) (block_marks rest m z) inner) front low (omega (arith, le, high)),
              sets_noted seen rs inside c a z is.0 first clear around (marks_front Closed (set_mark c m z) (command_marks c a ++ block_marks rest m z) marks) front low le high,
              block_noted (seen ++ sets_of c) (readable_after seen rs c) inside rest m z end is.1 g.1 (ready_behind inside us vs (sets_of c) a m ready (λ j q. command_may sc seen rs inside c is.0 j q) o) (clear_more us (sets_of c) seen a m first.known clear o)
                  (around_in inside a m z z (omega (arith, up)) (omega arith) around) (marks_back Closed (command_marks c a) (block_marks rest m z) inner) behind (omega (arith, low, up)) high,
            )

        pub arms_noted : (seen rs inside : List ℕ) (arms : Arms) (a x : ℕ) → ArmsAreSound sc seen rs inside arms → ArmsGather sc gs arms → Ready inside (walks_of_arms arms) a → Clear seen a → Around inside a (arms_end arms a) → Marked (arms_marks arms a) → HasAt code.instrs a (arms_code pl arms a x) → lo ≤ a → arms_end arms a ≤ hi → NotedArms code sc notes k seen arms a
        arms_noted seen rs inside no_arm a x is g ready clear around marks has low high = tt
        arms_noted seen rs inside (arm c block rest) a x is g ready clear around marks has low high =
            let m = expr_end c a in
            let b = m + 1 in
            let z = block_end block b in
            let n = z + 1 in
            let us = walks_in c in
            let vs = walks_of_block block in
            let ws = walks_of_arms rest in
            let last : List Instr = Jump x ∷ arms_code pl rest n x in
            let codes : List Instr = Unless n ∷ (block_code pl block b ++ last) in
            let front = has_front code.instrs a (expr_code c a) codes has in
            let behind = all_behind code.instrs a (expr_code c a) codes m (expr_length c a) has in
            let ends = all_behind code.instrs b (block_code pl block b) last z (block_length pl block b) behind.1 in
            let up = expr_up c a in
            let more = block_length pl block b in
            let far = arms_length pl rest n x in
            let first = ready_front inside (us ++ vs) ws a ready in
            let in_cond = ready_front inside us vs a first in
            let o = only_next (Wrote us []) a m (Unless n) behind.0 (λ j w. absurd (false≢true w)) (expr_only c a front) in
            let whole = arm_only c block a n x (arms_code pl rest n x) has in
            let inner = marks_back Closed (expr_marks c a) (block_marks block b z ++ arms_marks rest n) marks in (
              expr_noted inside c a g.0 in_cond (marks_front Closed (expr_marks c a) (block_marks block b z ++ arms_marks rest n) marks) front low (omega (arith, high, more, far)),
              block_noted seen rs inside block b z refl is.1 g.1 (ready_behind inside us vs [] a b first (no_sets inside us) o) (clear_past us seen a b in_cond.known clear o) (around_in inside a b z (arms_end rest n) (omega (arith, up)) (omega (arith, far)) around)
                  (marks_front Closed (block_marks block b z) (arms_marks rest n) inner) (has_front code.instrs b (block_code pl block b) last behind.1) (omega (arith, low, up)) (omega (arith, high, far)),
              arms_noted (seen ++ sets_of_block block) rs inside rest n x is.2 g.2
                  (ready_behind inside (us ++ vs) ws (sets_of_block block) a n ready (λ j q. may_in sc inside vs (us ++ vs) j (λ e. has_right us vs j e) (block_may sc seen rs inside block is.1 j q)) whole) (clear_more (us ++ vs) (sets_of_block block) seen a n first.known clear whole)
                  (around_in inside a n (arms_end rest n) (arms_end rest n) (omega (arith, up, more)) (omega arith) around) (marks_back Closed (block_marks block b z) (arms_marks rest n) inner) ends.1 (omega (arith, low, up, more)) high,
            )
