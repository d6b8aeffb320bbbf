-- What a program reads decides what it means: of every program, sound or not.
use Rattle.std.proofs.Common.{◌≡◌, ℕ, zero, suc, ◌+◌, Bool, true, false, ◌||◌, List, [], ◌∷◌, ◌++◌, Option, Some, None, refl, sym, ap, ◌∙◌, subst, arith}
use Rattle.std.specs.Prelude.{nat_eq}
use Rattle.std.proofs.lemmas.Bool.{or_left, or_right, eq-eqb}
use Rattle.hera_sets.specs.Rows.{Row}
use Rattle.hera_meaning.specs.declared.schemas.RelDecl.{RelDecl}
use Rattle.hera_meaning.specs.declared.trees.TrapName.{TrapName}
use Rattle.hera_meaning.specs.declared.trees.TrapName.TheVariants.{Assert as assert_trap}
use Rattle.hera_meaning.specs.Deltas.{Delta, fail, atoms, State, apply_of, smash_of}
use Rattle.hera_meaning.specs.Values.{Value, tuple, table, is_true, rows_in, delta_in}
use Rattle.hera_meaning.specs.Hosts.{Hosts}
use Rattle.hera_meaning.specs.Primitives.{prim_of}
use Rattle.hera_meaning.specs.Printed.{text_of, commit_text, label_text, trap_line, spent_line}
use Rattle.hera_meaning.specs.Trees.{Expr, constant, local, relation, prim, chain, and_all, or_any, when, select, map_each, call, host, Exprs, no_more, then_expr, Links, no_link, link, Hypos, no_hypo, hypo, Command, set_slot, if_arms, while, foreach, print, apply, commit, rollback, assert, return, return_value, call_proc, Block, no_stmt, then_stmt, Arms, no_arm, arm, Body_tree, Program_tree}
use Rattle.hera_meaning.specs.Worlds.{Event, out, store, World, world_at, with_event, committed, rolled_back, set_local, locals_from, Ended, got, trapped, spent, and_then, turn, answered, by, supposed, Ending, goes_on, returned, traps, runs_out, then_do, with_value, turn_in, applied, result_of, resumed, Calls}
use Rattle.hera_meaning.specs.Expressions.{for_rows, eval, eval_all, every, some, eval_links, suppose}
use Rattle.hera_meaning.specs.Statements.{while_of, each_row, exec, exec_block, exec_arms}
use Rattle.hera_meaning.specs.Run.{body_at, calls_at, run_to, report_of, Report}
use Rattle.hera_sessions.specs.Reads.{reads_in, reads_in_all, reads_in_links, reads_in_hypos, reads_of_command, reads_of_block, reads_of_arms, reads_of_bodies, reads_of, is_among}
use Rattle.hera_sessions.specs.Agreeing.{without_states}
use Rattle.hera_sessions.proofs.Agreement.{AgreeFrom, agree_rows, agree_applied}
use Rattle.hera_sessions.proofs.Decides.{without-append, SameRun}

-- ---- what is read passes a test

abbrev pub AllPass : (ℕ → Bool) → List ℕ → Type 0
AllPass f [] = Unit {0}
AllPass f (r ∷ rs) = (f r ≡ true) × AllPass f rs

pass_front : (f : ℕ → Bool) (rs qs : List ℕ) → AllPass f (rs ++ qs) → AllPass f rs
pass_front f [] qs h = tt
pass_front f (r ∷ rs) qs h = (h.0, pass_front f rs qs h.1)

pass_back : (f : ℕ → Bool) (rs qs : List ℕ) → AllPass f (rs ++ qs) → AllPass f qs
pass_back f [] qs h = h
pass_back f (r ∷ rs) qs h = pass_back f rs qs h.1

pass_more : (rs : List ℕ) (f : ℕ → Bool) (q : ℕ) → AllPass f rs → AllPass (λ r. nat_eq r q || f r) rs
pass_more [] f q h = tt
pass_more (r ∷ rs) f q h = (or_right (nat_eq r q) (f r) h.0, pass_more rs f q h.1)

-- the relations of a list are among it
pass_own : (rs : List ℕ) → AllPass (is_among rs) rs
pass_own [] = tt
pass_own (r ∷ rs) = (or_left (nat_eq r r) (is_among rs r) (eq-eqb r r refl), pass_more rs (is_among rs) r (pass_own rs))

-- ---- evaluations that are one

then_inside : {A B : Type 0} (x : Ended A) (F G : A → ℕ → Ended B) → ((v : A) (m : ℕ) → F v m ≡ G v m) → and_then x F ≡ and_then x G
then_inside (got v m) F G k = k v m
then_inside (trapped name at) F G k = refl
then_inside spent F G k = refl

then_same : {A B : Type 0} (x y : Ended A) (F G : A → ℕ → Ended B) → x ≡ y → ((v : A) (m : ℕ) → F v m ≡ G v m) → and_then x F ≡ and_then y G
then_same {A} {B} x y F G e k = then_inside x F G k ∙ ap (λ (z : Ended A). and_then z G) e

by_same : {A : Type 0} (b : Bool) (F G F' G' : ℕ → A) (n : ℕ) → F n ≡ G n → F' n ≡ G' n → by b F F' n ≡ by b G G' n
by_same true F G F' G' n h k = h
by_same false F G F' G' n h k = k

turn_same : {A : Type 0} (n : ℕ) (F G : ℕ → Ended A) → ((m : ℕ) → F m ≡ G m) → turn n F ≡ turn n G
turn_same zero F G k = refl
turn_same (suc n) F G k = k n

rows_same : (F G : Row → ℕ → Ended Value) → ((x : Row) (m : ℕ) → F x m ≡ G x m) → (rows : List Row) (n : ℕ) → for_rows F rows n ≡ for_rows G rows n
rows_same F G k [] n = refl
rows_same F G k (x ∷ xs) n =
    then_same (F x n) (G x n) _ _ (k x n) (λ v m. turn_same m _ _ (λ j. then_same (for_rows F xs j) (for_rows G xs j) _ _ (rows_same F G k xs j) (λ vs i. refl)))

-- ---- states that agree

module _ (f : ℕ → Bool) where
  abbrev Agree : State → State → Type 0
  Agree s t = AgreeFrom 0 f s t

  -- evaluations of states
  data BothGot : Ended State → Ended State → Type 0 where
    both_got : (s t : State) (n : ℕ) → AgreeFrom 0 f s t → BothGot (got s n) (got t n)
    both_trapped : (name : TrapName) (at : ℕ) → BothGot (trapped name at) (trapped name at)
    both_spent : BothGot spent spent

  then_got : {B : Type 0} (x y : Ended State) (F G : State → ℕ → Ended B) → BothGot x y → ((s t : State) (n : ℕ) → Agree s t → F s n ≡ G t n) → and_then x F ≡ and_then y G
  then_got x y F G (both_got s t n h) k = k s t n h
  then_got x y F G (both_trapped name at) k = refl
  then_got x y F G both_spent k = refl

  then_both_got : (x y : Ended State) (F G : State → ℕ → Ended State) → BothGot x y → ((s t : State) (n : ℕ) → Agree s t → BothGot (F s n) (G t n)) → BothGot (and_then x F) (and_then y G)
  then_both_got x y F G (both_got s t n h) k = k s t n h
  then_both_got x y F G (both_trapped name at) k = both_trapped name at
  then_both_got x y F G both_spent k = both_spent

  value_inside_got : (x : Ended Value) (F G : Value → ℕ → Ended State) → ((v : Value) (n : ℕ) → BothGot (F v n) (G v n)) → BothGot (and_then x F) (and_then x G)
  value_inside_got (got v n) F G k = k v n
  value_inside_got (trapped name at) F G k = both_trapped name at
  value_inside_got spent F G k = both_spent

  value_both_got : (x y : Ended Value) (F G : Value → ℕ → Ended State) → x ≡ y → ((v : Value) (n : ℕ) → BothGot (F v n) (G v n)) → BothGot (and_then x F) (and_then y G)
  value_both_got x y F G e k = subst (λ (z : Ended Value). BothGot (and_then x F) (and_then z G)) e (value_inside_got x F G k)

  supposed_both : (at : ℕ) (s t : State) (d : Delta) (n : ℕ) → Agree s t → BothGot (supposed at s d n) (supposed at t d n)
  supposed_both at s t fail n h = both_trapped _ at
  supposed_both at s t (atoms xs) n h = both_got (apply_of s (atoms xs)) (apply_of t (atoms xs)) n (agree_applied f s t (atoms xs) h)

  -- worlds that differ in their states alone, and in what is not read there
  pub record BothWorlds (w v : World) : Type 0 where
    pub state : AgreeFrom 0 f w.state v.state
    pub stored : AgreeFrom 0 f w.stored v.stored
    pub pending : w.pending ≡ v.pending
    pub commits : w.commits ≡ v.commits
    pub events : without_states w.events ≡ without_states v.events

  -- statements that end alike in such worlds
  pub data Both : Ending → Ending → Type 0 where
    both_on : (ls : List Value) (w v : World) (n : ℕ) → BothWorlds w v → Both (goes_on ls w n) (goes_on ls v n)
    both_back : (a : Option Value) (w v : World) (n : ℕ) → BothWorlds w v → Both (returned a w n) (returned a v n)
    both_traps : (name : TrapName) (at : ℕ) (es fs : List Event) → without_states es ≡ without_states fs → Both (traps name at es) (traps name at fs)
    both_out : (es fs : List Event) → without_states es ≡ without_states fs → Both (runs_out es) (runs_out fs)

  then_both : (x y : Ending) (F G : List Value → World → ℕ → Ending) → Both x y → ((ls : List Value) (w v : World) (n : ℕ) → BothWorlds w v → Both (F ls w n) (G ls v n)) → Both (then_do x F) (then_do y G)
  then_both x y F G (both_on ls w v n h) k = k ls w v n h
  then_both x y F G (both_back a w v n h) k = both_back a w v n h
  then_both x y F G (both_traps name at es fs e) k = both_traps name at es fs e
  then_both x y F G (both_out es fs e) k = both_out es fs e

  value_inside : {A : Type 0} (x : Ended A) (w v : World) (F G : A → ℕ → Ending) → BothWorlds w v → ((a : A) (n : ℕ) → Both (F a n) (G a n)) → Both (with_value x w F) (with_value x v G)
  value_inside (got a n) w v F G h k = k a n
  value_inside (trapped name at) w v F G h k = both_traps name at w.events v.events h.events
  value_inside spent w v F G h k = both_out w.events v.events h.events

  value_both : {A : Type 0} (x y : Ended A) (w v : World) (F G : A → ℕ → Ending) → x ≡ y → BothWorlds w v → ((a : A) (n : ℕ) → Both (F a n) (G a n)) → Both (with_value x w F) (with_value y v G)
  value_both {A} x y w v F G e h k = subst (λ (z : Ended A). Both (with_value x w F) (with_value z v G)) e (value_inside x w v F G h k)

  turn_both : (w v : World) (n : ℕ) (F G : ℕ → Ending) → BothWorlds w v → ((m : ℕ) → Both (F m) (G m)) → Both (turn_in w n F) (turn_in v n G)
  turn_both w v zero F G h k = both_out w.events v.events h.events
  turn_both w v (suc n) F G h k = k n

  by_both : (b : Bool) (F G F' G' : ℕ → Ending) (n : ℕ) → Both (F n) (G n) → Both (F' n) (G' n) → Both (by b F F' n) (by b G G' n)
  by_both true F G F' G' n h k = h
  by_both false F G F' G' n h k = k

  events_both : (w v : World) (gs hs : List Event) → BothWorlds w v → without_states gs ≡ without_states hs → without_states (w.events ++ gs) ≡ without_states (v.events ++ hs)
  events_both w v gs hs h e = without-append w.events gs ∙ (λ i. h.events i ++ e i) ∙ sym (without-append v.events hs)

  event_both : (bytes : List ℕ) (w v : World) → BothWorlds w v → BothWorlds (with_event (out bytes) w) (with_event (out bytes) v)
  event_both bytes w v h = record { state = h.state; stored = h.stored; pending = h.pending; commits = h.commits; events = events_both w v (out bytes ∷ []) (out bytes ∷ []) h refl }

  committed_both : (w v : World) → BothWorlds w v → BothWorlds (committed w) (committed v)
  committed_both w v h = record {
    state = h.state;
    stored = h.state;
    pending = refl;
    commits = ap (λ (n : ℕ). n + 1) h.commits;
    events = events_both w v _ _ h (λ i. store [] (h.pending i) ∷ out (commit_text (h.commits i + 1)) ∷ []);
  }

  back_both : (w v : World) → BothWorlds w v → BothWorlds (rolled_back w) (rolled_back v)
  back_both w v h = record { state = h.stored; stored = h.stored; pending = refl; commits = h.commits; events = h.events }

  applied_both : (at : ℕ) (d : Delta) (ls : List Value) (w v : World) (n : ℕ) → BothWorlds w v → Both (applied at d ls w n) (applied at d ls v n)
  applied_both at fail ls w v n h = both_traps _ at w.events v.events h.events
  applied_both at (atoms xs) ls w v n h = both_on ls _ _ n (record {
    state = agree_applied f w.state v.state (atoms xs) h.state;
    stored = h.stored;
    pending = ap (λ (d : Delta). smash_of d (atoms xs)) h.pending;
    commits = h.commits;
    events = h.events;
  })

  result_both : (x y : Ending) → Both x y → result_of x ≡ result_of y
  result_both x y (both_on ls w v n h) = refl
  result_both x y (both_back None w v n h) = refl
  result_both x y (both_back (Some a) w v n h) = refl
  result_both x y (both_traps name at es fs e) = refl
  result_both x y (both_out es fs e) = refl

  resumed_both : (ls : List Value) (x y : Ending) → Both x y → Both (resumed ls x) (resumed ls y)
  resumed_both ls x y (both_on ls' w v n h) = both_on ls w v n h
  resumed_both ls x y (both_back a w v n h) = both_on ls w v n h
  resumed_both ls x y (both_traps name at es fs e) = both_traps name at es fs e
  resumed_both ls x y (both_out es fs e) = both_out es fs e

  while_both : (limit : ℕ) (t t' : List Value → World → ℕ → Ended Value) (b b' : List Value → World → ℕ → Ending)
      → ((ls : List Value) (w v : World) (m : ℕ) → BothWorlds w v → t ls w m ≡ t' ls v m) → ((ls : List Value) (w v : World) (m : ℕ) → BothWorlds w v → Both (b ls w m) (b' ls v m))
      → (ls : List Value) (w v : World) (n : ℕ) → BothWorlds w v → Both (while_of limit t b ls w n) (while_of limit t' b' ls v n)
  while_both zero t t' b b' F G ls w v n h = both_out w.events v.events h.events
  while_both (suc limit) t t' b b' F G ls w v n h =
      value_both (t ls w n) (t' ls v n) w v _ _ (F ls w v n h) h (λ a m.
      by_both (is_true a) _ _ _ _ m
      (then_both (b ls w m) (b' ls v m) _ _ (G ls w v m h) (λ ls w v j h. turn_both w v j _ _ h (λ i. while_both limit t t' b b' F G ls w v i h)))
      (both_on ls w v m h))

  each_both : (b b' : Row → List Value → World → ℕ → Ending) → ((x : Row) (ls : List Value) (w v : World) (m : ℕ) → BothWorlds w v → Both (b x ls w m) (b' x ls v m))
      → (rows : List Row) (ls : List Value) (w v : World) (n : ℕ) → BothWorlds w v → Both (each_row b rows ls w n) (each_row b' rows ls v n)
  each_both b b' F [] ls w v n h = both_on ls w v n h
  each_both b b' F (x ∷ xs) ls w v n h = then_both (b x ls w n) (b' x ls v n) _ _ (F x ls w v n h) (λ ls w v j h. turn_both w v j _ _ h (λ i. each_both b b' F xs ls w v i h))

  -- a call in worlds that differ so ends alike
  abbrev pub Keeps : Calls → Type 0
  Keeps calls = (k : ℕ) (vs : List Value) (w v : World) (n : ℕ) → BothWorlds w v → Both (calls k vs w n) (calls k vs v n)

  start_both : (s t : State) → Agree s t → BothWorlds (world_at s) (world_at t)
  start_both s t h = record { state = h; stored = h; pending = refl; commits = refl; events = refl }

  module _ (hosts : Hosts) (calls : Calls) (keeps : Keeps calls) where
    mutual
      eval_same : (e : Expr) (ls : List Value) (s t : State) (n : ℕ) → AllPass f (reads_in e) → Agree s t → eval hosts calls e ls s n ≡ eval hosts calls e ls t n
      eval_same (constant c) ls s t n p h = refl
      eval_same (local i) ls s t n p h = refl
      eval_same (relation r) ls s t n p h =
          let here : r ≡ 0 + r = omega arith in
          ap (λ (rows : List Row). got (table rows) n) (agree_rows 0 f s t r h (ap f (sym here) ∙ p.0))
      eval_same (prim op args at) ls s t n p h = then_same (eval_all hosts calls args ls s n) (eval_all hosts calls args ls t n) _ _ (all_same args ls s t n p h) (λ vs m. refl)
      eval_same (chain first links) ls s t n p h =
          then_same (eval hosts calls first ls s n) (eval hosts calls first ls t n) _ _ (eval_same first ls s t n (pass_front f (reads_in first) (reads_in_links links) p) h)
          (λ v m. links_same links v ls s t m (pass_back f (reads_in first) (reads_in_links links) p) h)
      eval_same (and_all args) ls s t n p h = every_same args ls s t n p h
      eval_same (or_any args) ls s t n p h = some_same args ls s t n p h
      eval_same (when body hypos) ls s t n p h =
          then_got (suppose hosts calls hypos ls s n) (suppose hosts calls hypos ls t n) _ _ (suppose_both hypos ls s t n (pass_front f (reads_in_hypos hypos) (reads_in body) p) h)
          (λ s t m h. eval_same body ls s t m (pass_back f (reads_in_hypos hypos) (reads_in body) p) h)
      eval_same (select i of body) ls s t n p h =
          then_same (eval hosts calls of ls s n) (eval hosts calls of ls t n) _ _ (eval_same of ls s t n (pass_front f (reads_in of) (reads_in body) p) h) (λ v m.
          then_same (for_rows (λ x m. eval hosts calls body (set_local ls i (tuple x)) s m) (rows_in v) m) (for_rows (λ x m. eval hosts calls body (set_local ls i (tuple x)) t m) (rows_in v) m) _ _
          (rows_same _ _ (λ x j. eval_same body (set_local ls i (tuple x)) s t j (pass_back f (reads_in of) (reads_in body) p) h) (rows_in v) m) (λ vs j. refl))
      eval_same (map_each i of body) ls s t n p h =
          then_same (eval hosts calls of ls s n) (eval hosts calls of ls t n) _ _ (eval_same of ls s t n (pass_front f (reads_in of) (reads_in body) p) h) (λ v m.
          then_same (for_rows (λ x m. eval hosts calls body (set_local ls i (tuple x)) s m) (rows_in v) m) (for_rows (λ x m. eval hosts calls body (set_local ls i (tuple x)) t m) (rows_in v) m) _ _
          (rows_same _ _ (λ x j. eval_same body (set_local ls i (tuple x)) s t j (pass_back f (reads_in of) (reads_in body) p) h) (rows_in v) m) (λ vs j. refl))
      eval_same (call k args) ls s t n p h =
          then_same (eval_all hosts calls args ls s n) (eval_all hosts calls args ls t n) _ _ (all_same args ls s t n p h) (λ vs m.
          result_both (calls k vs (world_at s) m) (calls k vs (world_at t) m) (keeps k vs (world_at s) (world_at t) m (start_both s t h)))
      eval_same (host i args) ls s t n p h = then_same (eval_all hosts calls args ls s n) (eval_all hosts calls args ls t n) _ _ (all_same args ls s t n p h) (λ vs m. refl)

      all_same : (es : Exprs) (ls : List Value) (s t : State) (n : ℕ) → AllPass f (reads_in_all es) → Agree s t → eval_all hosts calls es ls s n ≡ eval_all hosts calls es ls t n
      all_same no_more ls s t n p h = refl
      all_same (then_expr e es) ls s t n p h =
          then_same (eval hosts calls e ls s n) (eval hosts calls e ls t n) _ _ (eval_same e ls s t n (pass_front f (reads_in e) (reads_in_all es) p) h) (λ v m.
          then_same (eval_all hosts calls es ls s m) (eval_all hosts calls es ls t m) _ _ (all_same es ls s t m (pass_back f (reads_in e) (reads_in_all es) p) h) (λ vs j. refl))

      every_same : (es : Exprs) (ls : List Value) (s t : State) (n : ℕ) → AllPass f (reads_in_all es) → Agree s t → every hosts calls es ls s n ≡ every hosts calls es ls t n
      every_same no_more ls s t n p h = refl
      every_same (then_expr e no_more) ls s t n p h = eval_same e ls s t n (pass_front f (reads_in e) [] p) h
      every_same (then_expr e (then_expr d ds)) ls s t n p h =
          then_same (eval hosts calls e ls s n) (eval hosts calls e ls t n) _ _ (eval_same e ls s t n (pass_front f (reads_in e) (reads_in_all (then_expr d ds)) p) h) (λ v m.
          by_same (is_true v) _ _ _ _ m (every_same (then_expr d ds) ls s t m (pass_back f (reads_in e) (reads_in_all (then_expr d ds)) p) h) refl)

      some_same : (es : Exprs) (ls : List Value) (s t : State) (n : ℕ) → AllPass f (reads_in_all es) → Agree s t → some hosts calls es ls s n ≡ some hosts calls es ls t n
      some_same no_more ls s t n p h = refl
      some_same (then_expr e no_more) ls s t n p h = eval_same e ls s t n (pass_front f (reads_in e) [] p) h
      some_same (then_expr e (then_expr d ds)) ls s t n p h =
          then_same (eval hosts calls e ls s n) (eval hosts calls e ls t n) _ _ (eval_same e ls s t n (pass_front f (reads_in e) (reads_in_all (then_expr d ds)) p) h) (λ v m.
          by_same (is_true v) _ _ _ _ m refl (some_same (then_expr d ds) ls s t m (pass_back f (reads_in e) (reads_in_all (then_expr d ds)) p) h))

      links_same : (links : Links) (v : Value) (ls : List Value) (s t : State) (n : ℕ) → AllPass f (reads_in_links links) → Agree s t → eval_links hosts calls links v ls s n ≡ eval_links hosts calls links v ls t n
      links_same no_link v ls s t n p h = refl
      links_same (link op arg at rest) v ls s t n p h =
          then_same (eval hosts calls arg ls s n) (eval hosts calls arg ls t n) _ _ (eval_same arg ls s t n (pass_front f (reads_in arg) (reads_in_links rest) p) h) (λ a m.
          then_inside (answered at (prim_of op (v ∷ a ∷ [])) m) _ _ (λ v j. links_same rest v ls s t j (pass_back f (reads_in arg) (reads_in_links rest) p) h))

      suppose_both : (hypos : Hypos) (ls : List Value) (s t : State) (n : ℕ) → AllPass f (reads_in_hypos hypos) → Agree s t → BothGot (suppose hosts calls hypos ls s n) (suppose hosts calls hypos ls t n)
      suppose_both no_hypo ls s t n p h = both_got s t n h
      suppose_both (hypo d at rest) ls s t n p h =
          then_both_got (suppose hosts calls rest ls s n) (suppose hosts calls rest ls t n) _ _ (suppose_both rest ls s t n (pass_front f (reads_in_hypos rest) (reads_in d) p) h) (λ s t m h.
          value_both_got (eval hosts calls d ls s m) (eval hosts calls d ls t m) _ _ (eval_same d ls s t m (pass_back f (reads_in_hypos rest) (reads_in d) p) h) (λ v j. supposed_both at s t (delta_in v) j h))

    module _ (rels : List RelDecl) where
      mutual
        exec_both : (c : Command) (ls : List Value) (w v : World) (n : ℕ) → AllPass f (reads_of_command c) → BothWorlds w v → Both (exec rels hosts calls c ls w n) (exec rels hosts calls c ls v n)
        exec_both (set_slot i e) ls w v n p h =
            value_both (eval hosts calls e ls w.state n) (eval hosts calls e ls v.state n) w v _ _ (eval_same e ls w.state v.state n p h.state) h (λ a m. both_on (set_local ls i a) w v m h)
        exec_both (if_arms arms other) ls w v n p h =
            arms_both arms _ _ ls w v n (pass_front f (reads_of_arms arms) (reads_of_block other) p) h (λ m. block_both other ls w v m (pass_back f (reads_of_arms arms) (reads_of_block other) p) h)
        exec_both (while c block) ls w v n p h =
            while_both (suc n) _ _ _ _ (λ ls w v m h. eval_same c ls w.state v.state m (pass_front f (reads_in c) (reads_of_block block) p) h.state)
            (λ ls w v m h. block_both block ls w v m (pass_back f (reads_in c) (reads_of_block block) p) h) ls w v n h
        exec_both (foreach i of block) ls w v n p h =
            value_both (eval hosts calls of ls w.state n) (eval hosts calls of ls v.state n) w v _ _ (eval_same of ls w.state v.state n (pass_front f (reads_in of) (reads_of_block block) p) h.state) h (λ a m.
            each_both _ _ (λ x ls w v j h. block_both block (set_local ls i (tuple x)) w v j (pass_back f (reads_in of) (reads_of_block block) p) h) (rows_in a) ls w v m h)
        exec_both (print e shape) ls w v n p h =
            value_both (eval hosts calls e ls w.state n) (eval hosts calls e ls v.state n) w v _ _ (eval_same e ls w.state v.state n p h.state) h (λ a m. both_on ls _ _ m (event_both (text_of shape a rels) w v h))
        exec_both (apply d at) ls w v n p h =
            value_both (eval hosts calls d ls w.state n) (eval hosts calls d ls v.state n) w v _ _ (eval_same d ls w.state v.state n p h.state) h (λ a m. applied_both at (delta_in a) ls w v m h)
        exec_both (commit None) ls w v n p h = both_on ls _ _ n (committed_both w v h)
        exec_both (commit (Some label)) ls w v n p h = both_on ls _ _ n (event_both (label_text label) (committed w) (committed v) (committed_both w v h))
        exec_both rollback ls w v n p h = both_on ls _ _ n (back_both w v h)
        exec_both (assert c at) ls w v n p h =
            value_both (eval hosts calls c ls w.state n) (eval hosts calls c ls v.state n) w v _ _ (eval_same c ls w.state v.state n p h.state) h (λ a m.
            by_both (is_true a) _ _ _ _ m (both_on ls w v m h) (both_traps assert_trap at w.events v.events h.events))
        exec_both return ls w v n p h = both_back None w v n h
        exec_both (return_value e) ls w v n p h =
            value_both (eval hosts calls e ls w.state n) (eval hosts calls e ls v.state n) w v _ _ (eval_same e ls w.state v.state n p h.state) h (λ a m. both_back (Some a) w v m h)
        exec_both (call_proc k args) ls w v n p h =
            value_both (eval_all hosts calls args ls w.state n) (eval_all hosts calls args ls v.state n) w v _ _ (all_same args ls w.state v.state n p h.state) h (λ vs m.
            resumed_both ls (calls k vs w m) (calls k vs v m) (keeps k vs w v m h))

        block_both : (b : Block) (ls : List Value) (w v : World) (n : ℕ) → AllPass f (reads_of_block b) → BothWorlds w v → Both (exec_block rels hosts calls b ls w n) (exec_block rels hosts calls b ls v n)
        block_both no_stmt ls w v n p h = both_on ls w v n h
        block_both (then_stmt c rest) ls w v n p h =
            then_both (exec rels hosts calls c ls w n) (exec rels hosts calls c ls v n) _ _ (exec_both c ls w v n (pass_front f (reads_of_command c) (reads_of_block rest) p) h)
            (λ ls w v m h. block_both rest ls w v m (pass_back f (reads_of_command c) (reads_of_block rest) p) h)

        arms_both : (arms : Arms) (other other' : ℕ → Ending) (ls : List Value) (w v : World) (n : ℕ) → AllPass f (reads_of_arms arms) → BothWorlds w v → ((m : ℕ) → Both (other m) (other' m))
            → Both (exec_arms rels hosts calls arms other ls w n) (exec_arms rels hosts calls arms other' ls v n)
        arms_both no_arm other other' ls w v n p h k = k n
        arms_both (arm c block rest) other other' ls w v n p h k =
            let behind = pass_back f (reads_in c) (reads_of_block block ++ reads_of_arms rest) p in
            value_both (eval hosts calls c ls w.state n) (eval hosts calls c ls v.state n) w v _ _ (eval_same c ls w.state v.state n (pass_front f (reads_in c) (reads_of_block block ++ reads_of_arms rest) p) h.state) h (λ a m.
            by_both (is_true a) _ _ _ _ m (block_both block ls w v m (pass_front f (reads_of_block block) (reads_of_arms rest) behind) h)
            (arms_both rest other other' ls w v m (pass_back f (reads_of_block block) (reads_of_arms rest) behind) h k))

  body_pass : (bodies : List Body_tree) (k : ℕ) → AllPass f (reads_of_bodies bodies) → AllPass f (reads_of_block (body_at bodies k).block)
  body_pass [] k h = tt
  body_pass (b ∷ bodies) zero h = pass_front f (reads_of_block b.block) (reads_of_bodies bodies) h
  body_pass (b ∷ bodies) (suc k) h = body_pass bodies k (pass_back f (reads_of_block b.block) (reads_of_bodies bodies) h)

  calls_keep : (p : Program_tree) (hosts : Hosts) (depth : ℕ) → AllPass f (reads_of p) → Keeps (calls_at p hosts depth)
  calls_keep p hosts zero pass k vs w v n h = both_out w.events v.events h.events
  calls_keep p hosts (suc depth) pass k vs w v n h =
      turn_both w v n _ _ h (λ m. block_both hosts (calls_at p hosts depth) (calls_keep p hosts depth pass) p.relations (body_at p.bodies k).block (locals_from (body_at p.bodies k).slots vs) w v m (body_pass p.bodies k pass) h)

  run_both : (p : Program_tree) (hosts : Hosts) (n : ℕ) (s t : State) → AllPass f (reads_of p) → Agree s t → Both (run_to n p s hosts n) (run_to n p t hosts n)
  run_both p hosts n s t pass h =
      block_both hosts (calls_at p hosts n) (calls_keep p hosts n pass) p.relations (body_at p.bodies 0).block (locals_from (body_at p.bodies 0).slots []) (world_at s) (world_at t) n (body_pass p.bodies 0 pass) (start_both s t h)

  pub record SameReport (x y : Report) : Type 0 where
    pub events : without_states x.events ≡ without_states y.events
    pub finish : x.finish ≡ y.finish

  line_both : (es fs : List Event) (bytes : List ℕ) → without_states es ≡ without_states fs → without_states (es ++ out bytes ∷ []) ≡ without_states (fs ++ out bytes ∷ [])
  line_both es fs bytes e = without-append es (out bytes ∷ []) ∙ ap (λ (l : List Event). l ++ out bytes ∷ []) e ∙ sym (without-append fs (out bytes ∷ []))

  report_both : (x y : Ending) → Both x y → SameReport (report_of x) (report_of y)
  report_both x y (both_on ls w v n h) = record { events = h.events; finish = refl }
  report_both x y (both_back a w v n h) = record { events = h.events; finish = refl }
  report_both x y (both_traps name at es fs e) = record { events = line_both es fs (trap_line name at) e; finish = refl }
  report_both x y (both_out es fs e) = record { events = line_both es fs spent_line e; finish = refl }

-- what a program reads decides its run, whether it is sound or not
pub reads_decide_meaning : (p : Program_tree) (hosts : Hosts) (n : ℕ) (s t : State) → AgreeFrom 0 (is_among (reads_of p)) s t → SameRun p hosts n s t
reads_decide_meaning p hosts n s t h =
    let f : ℕ → Bool = is_among (reads_of p) in
    let same = report_both f (run_to n p s hosts n) (run_to n p t hosts n) (run_both f p hosts n s t (pass_own (reads_of p)) h) in
    record { events = same.events; finish = same.finish }
