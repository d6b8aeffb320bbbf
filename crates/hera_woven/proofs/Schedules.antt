-- A number tells one schedule at whose last step the last session closes.
use Rattle.std.proofs.Common.{◌≡◌, ℕ, zero, suc, ◌+◌, ◌-◌, ◌<◌, ◌≤◌, ◌%◌, true, ⊎_elim, List, [], ◌∷◌, ◌++◌, length, take, Option, Some, None, refl, sym, ap, subst, ◌∙◌, arith, append_assoc, append-nil}
use Rattle.std.specs.Prelude.{slice_get, get_or}
use Rattle.std.proofs.lemmas.Bool.{cases_lt, false≢true}
use Rattle.std.proofs.lemmas.List.{length-append, length-replicate, nil_from_length}
use Rattle.std.proofs.lemmas.Nat.{mod_below}
use Rattle.std.proofs.lemmas.Option.{none-some, slice_get-get_or}
use Rattle.hera_meaning.specs.Deltas.{Delta, State}
use Rattle.hera_meaning.specs.Commits.{after_all}
use Rattle.hera_meaning.specs.Hosts.{Hosts}
use Rattle.hera_meaning.specs.Worlds.{Event}
use Rattle.hera_meaning.specs.Run.{state_after}
use Rattle.hera_code.specs.Reached.{Reached, still, over, code_at, start_of}
use Rattle.hera_code.specs.Scheme.{code_of}
use Rattle.hera_codegen.proofs.Bound.{left, IsOver, IsStuck, stops, over_stays}
use Rattle.hera_codegen.proofs.Forwards.{code_forward}
use Rattle.hera_sessions.specs.Sessions.{Task}
use Rattle.hera_sessions.specs.Weaving.{Outcome, Stage, waiting, running, closed, is_open, set_stage, stage_by, Woven, woven, woven_from, woven_start, reach, told_by, told_next, step_by, step_of, closes_next, weave_of}
use Rattle.hera_sessions.specs.Turns.{open_from, next_number, IsOrderedFrom, IsOrdered}
use Rattle.hera_sessions.proofs.Growing.{weave_stays, weave_grows}
use Rattle.hera_weave.proofs.Turning.{due_is_open}
use Rattle.hera_woven.specs.Weaving.{IsWhole}
use Rattle.hera_woven.specs.Going.{closing}

-- ---- one schedule

same_some : (i j : ℕ) → Some i ≡ Some j → i ≡ j
same_some i j e = cc

module _ (tasks : List Task) (s0 : State) (hosts : Hosts) (order : ℕ) where
  -- steps in order are the first of a schedule that closes all
  prefix_from : (front all : List ℕ) (x : ℕ) (w : Woven) → IsOrderedFrom tasks s0 hosts order x w front → IsOrderedFrom tasks s0 hosts order x w all → open_from 0 (woven_from tasks s0 hosts w all).stages ≡ []
      → (rest : List ℕ) × (front ++ rest ≡ all)
  prefix_from [] all x w h g none = (all, refl)
  prefix_from (i ∷ front) [] x w h g none =
      absurd (none-some i (subst (λ (l : List ℕ). slice_get l (x % length l) ≡ Some i) none h.0))
  prefix_from (i ∷ front) (j ∷ all) x w h g none =
      let ones = open_from 0 w.stages in
      let same : i ≡ j = same_some i j (sym h.0 ∙ g.0) in
      let next = prefix_from front all (next_number order x (length ones)) (step_of tasks s0 hosts j w)
      (subst (λ (k : ℕ). IsOrderedFrom tasks s0 hosts order (next_number order x (length ones)) (step_of tasks s0 hosts k w) front) same h.1) g.1 none in
      (next.0, ap (λ (k : ℕ). k ∷ (front ++ next.0)) same ∙ ap (λ (l : List ℕ). j ∷ l) next.1)

  pub begins_whole : (front all : List ℕ) → IsOrdered tasks s0 hosts order front → IsWhole tasks s0 hosts order all → (rest : List ℕ) × (front ++ rest ≡ all)
  begins_whole front all h whole = prefix_from front all order (woven_start tasks s0 hosts) h whole.ordered whole.closed

  pub one_whole : (a b : List ℕ) → IsWhole tasks s0 hosts order a → IsWhole tasks s0 hosts order b → a ≡ b
  one_whole a b h g =
      let to = begins_whole a b h.ordered g in
      let back = begins_whole b a g.ordered h in
      let m : length a + length to.0 ≡ length b = sym (length-append a to.0) ∙ ap (λ (l : List ℕ). length l) to.1 in
      let n : length b + length back.0 ≡ length a = sym (length-append b back.0) ∙ ap (λ (l : List ℕ). length l) back.1 in
      let none : to.0 ≡ [] = nil_from_length to.0 (omega (arith, m, n)) in
      sym (append-nil a) ∙ ap (λ (l : List ℕ). a ++ l) (sym none) ∙ to.1

-- ---- sessions that close

-- so many steps are enough for a session
abbrev enough : Task → ℕ
enough t = suc (left (length (code_of t.program).instrs) (start_of (code_of t.program) t.turns))

stuck_over : (r : Reached) → IsStuck r → IsOver r
stuck_over (still s m es) h = h
stuck_over (over es stop) h = tt

over_after : (t : Task) (hosts : Hosts) (s : State) (k : ℕ) → enough t ≤ k → IsOver (code_at (code_of t.program) t.program.relations s hosts t.turns k)
over_after t hosts s k le =
    let code = code_of t.program in
    let rels = t.program.relations in
    let m = start_of code t.turns in
    let n = left (length code.instrs) m in
    let one : n + 1 ≡ suc n = omega arith in
    let first : IsOver (code_at code rels s hosts t.turns (suc n)) =
    ⊎_elim
    (λ h. subst IsOver (sym (ap (λ (j : ℕ). code_at code rels s hosts t.turns j) (sym one) ∙ over_stays code rels hosts n 1 s m [] h)) h)
    (λ h. stuck_over (code_at code rels s hosts t.turns (suc n)) h)
    (stops code rels hosts (code_forward t.program) n s m [] (omega arith)) in
    let more : suc n + (k - suc n) ≡ k = omega (arith, le) in
    subst IsOver (sym (ap (λ (j : ℕ). code_at code rels s hosts t.turns j) (sym more) ∙ over_stays code rels hosts (suc n) (k - suc n) s m [] first)) first

told_over : (t : Task) (commits : List Delta) (begun : ℕ) (r : Reached) → IsOver r → told_by t commits begun r ≡ None → ⊥
told_over t commits begun (still s m es) h e = h
told_over t commits begun (over es stop) h e = absurd cc

-- what is left of a session's steps, and of those of all
abbrev stage_left : Task → Stage → ℕ
stage_left t waiting = suc (suc (enough t))
stage_left t (running begun steps) = suc (enough t - steps)
stage_left t closed = 0

abbrev steps_left : List Task → List Stage → ℕ
steps_left [] stages = 0
steps_left (t ∷ ts) [] = 0
steps_left (t ∷ ts) (g ∷ gs) = stage_left t g + steps_left ts gs

left_set : (ts : List Task) (gs : List Stage) (i : ℕ) (t : Task) (g h : Stage) → slice_get ts i ≡ Some t → slice_get gs i ≡ Some g → stage_left t h < stage_left t g → steps_left ts (set_stage gs i h) < steps_left ts gs
left_set [] gs i t g h at there less = absurd (none-some t at)
left_set (u ∷ ts) [] i t g h at there less = absurd (none-some g there)
left_set (u ∷ ts) (f ∷ gs) zero t g h at there less =
    let same : u ≡ t = cc in
    let own : f ≡ g = cc in
    let here : stage_left u h < stage_left u f = subst (λ (x : Task). stage_left x h < stage_left x f) (sym same) (subst (λ (x : Stage). stage_left t h < stage_left t x) (sym own) less) in
    omega (arith, here)
left_set (u ∷ ts) (f ∷ gs) (suc i) t g h at there less = let r : steps_left ts (set_stage gs i h) < steps_left ts gs = left_set ts gs i t g h at there less in omega (arith, r)

set_long : (gs : List Stage) (i : ℕ) (g : Stage) → length (set_stage gs i g) ≡ length gs
set_long [] i g = refl
set_long (f ∷ gs) zero g = refl
set_long (f ∷ gs) (suc i) g = ap suc (set_long gs i g)

-- ---- a schedule that closes all

record IsAtOpen (tasks : List Task) (gs : List Stage) (i : ℕ) : Type 0 where
  pub task : Task
  pub stage : Stage
  pub there : slice_get tasks i ≡ Some task
  pub at : slice_get gs i ≡ Some stage
  pub opens : is_open (Some stage) ≡ true

at_open : (tasks : List Task) (gs : List Stage) (i : ℕ) → length gs ≡ length tasks → is_open (slice_get gs i) ≡ true → IsAtOpen tasks gs i
at_open tasks [] i long h = absurd (false≢true h)
at_open [] (g ∷ gs) i long h = let bad : suc (length gs) ≡ 0 = long in absurd (omega (arith, bad))
at_open (t ∷ ts) (g ∷ gs) zero long h = record { task = t; stage = g; there = refl; at = refl; opens = h }
at_open (t ∷ ts) (g ∷ gs) (suc i) long h =
    let same : suc (length gs) ≡ suc (length ts) = long in
    let rest = at_open ts gs i (omega (arith, same)) h in
    record { task = rest.task; stage = rest.stage; there = rest.there; at = rest.at; opens = rest.opens }

module _ (tasks : List Task) (s0 : State) (hosts : Hosts) where
  first_left : (t : Task) (begun : ℕ) (o : Option Outcome) → stage_left t (stage_by begun 1 o) < stage_left t waiting
  first_left t begun None = omega arith
  first_left t begun (Some o) = omega arith

  next_left : (t : Task) (w : Woven) (begun steps : ℕ) (o : Option Outcome) → told_next tasks s0 hosts t w.commits begun steps ≡ o → stage_left t (stage_by begun (suc steps) o) < stage_left t (running begun steps)
  next_left t w begun steps (Some o) e = omega arith
  next_left t w begun steps None e =
      ⊎_elim
      (λ (more : steps < enough t). omega (arith, more))
      (λ (past : enough t ≤ steps).
      absurd (told_over t w.commits begun (reach tasks s0 hosts t w.commits begun (suc steps)) (over_after t hosts (after_all s0 (take begun w.commits)) (suc steps) (omega (arith, past))) e))
      (cases_lt steps (enough t))

  step_long : (w : Woven) (i : ℕ) (o : Option Task) (g : Option Stage) → length (step_by tasks s0 hosts i o g w).stages ≡ length w.stages
  step_long w i None g = refl
  step_long w i (Some t) None = refl
  step_long w i (Some t) (Some waiting) = set_long w.stages i (stage_by (length w.commits) 1 (told_next tasks s0 hosts t w.commits (length w.commits) 0))
  step_long w i (Some t) (Some (running begun steps)) = set_long w.stages i (stage_by begun (suc steps) (told_next tasks s0 hosts t w.commits begun steps))
  step_long w i (Some t) (Some closed) = refl

  step_left : (w : Woven) (i : ℕ) (t : Task) (g : Stage) → slice_get tasks i ≡ Some t → slice_get w.stages i ≡ Some g → is_open (Some g) ≡ true
      → steps_left tasks (step_by tasks s0 hosts i (Some t) (Some g) w).stages < steps_left tasks w.stages
  step_left w i t waiting there at opens =
      left_set tasks w.stages i t waiting (stage_by (length w.commits) 1 (told_next tasks s0 hosts t w.commits (length w.commits) 0)) there at (first_left t (length w.commits) (told_next tasks s0 hosts t w.commits (length w.commits) 0))
  step_left w i t (running begun steps) there at opens =
      left_set tasks w.stages i t (running begun steps) (stage_by begun (suc steps) (told_next tasks s0 hosts t w.commits begun steps)) there at (next_left t w begun steps (told_next tasks s0 hosts t w.commits begun steps) refl)
  step_left w i t closed there at opens = absurd (false≢true opens)

  step_nearer : (w : Woven) (i : ℕ) → IsAtOpen tasks w.stages i → steps_left tasks (step_of tasks s0 hosts i w).stages < steps_left tasks w.stages
  step_nearer w i a =
      subst (λ (o : Option Task). steps_left tasks (step_by tasks s0 hosts i o (slice_get w.stages i) w).stages < steps_left tasks w.stages) (sym a.there)
      (subst (λ (g : Option Stage). steps_left tasks (step_by tasks s0 hosts i (Some a.task) g w).stages < steps_left tasks w.stages) (sym a.at) (step_left w i a.task a.stage a.there a.at a.opens))

  module _ (order : ℕ) where
    abbrev Closes : ℕ → Woven → Type 0
    Closes x w = (rest : List ℕ) × IsOrderedFrom tasks s0 hosts order x w rest × (open_from 0 (woven_from tasks s0 hosts w rest).stages ≡ [])

    abbrev Later : ℕ → Type 0
    Later n = (x : ℕ) (w : Woven) → length w.stages ≡ length tasks → steps_left tasks w.stages < n → Closes x w

    closes_by : (n x : ℕ) (w : Woven) (ones : List ℕ) → open_from 0 w.stages ≡ ones → length w.stages ≡ length tasks → steps_left tasks w.stages < suc n → Later n → Closes x w
    closes_by n x w [] e long less later = ([], tt, e)
    closes_by n x w (k ∷ ks) e long less later =
        let place : ℕ = x % length (k ∷ ks) in
        let some : 0 < length (k ∷ ks) = omega arith in
        let i : ℕ = get_or (k ∷ ks) place 0 in
        let found : slice_get (k ∷ ks) place ≡ Some i = slice_get-get_or (k ∷ ks) place 0 (mod_below x (length (k ∷ ks)) some) in
        let due : slice_get (open_from 0 w.stages) (x % length (open_from 0 w.stages)) ≡ Some i = subst (λ (l : List ℕ). slice_get l (x % length l) ≡ Some i) (sym e) found in
        let opens = at_open tasks w.stages i long (due_is_open w.stages (x % length (open_from 0 w.stages)) i due) in
        let nearer : steps_left tasks (step_of tasks s0 hosts i w).stages < steps_left tasks w.stages = step_nearer w i opens in
        let next = later (next_number order x (length (open_from 0 w.stages))) (step_of tasks s0 hosts i w) (step_long w i (slice_get tasks i) (slice_get w.stages i) ∙ long) (omega (arith, less, nearer)) in
        (i ∷ next.0, (due, next.1), next.2)

    closes_from : (n : ℕ) → Later n
    closes_from zero x w long less = absurd (omega (arith, less))
    closes_from (suc n) x w long less = closes_by n x w (open_from 0 w.stages) refl long less (closes_from n)

    pub some_whole : (schedule : List ℕ) × IsWhole tasks s0 hosts order schedule
    some_whole =
        let w = woven_start tasks s0 hosts in
        let all = closes_from (suc (steps_left tasks w.stages)) order w (length-replicate (length tasks) waiting) (omega arith) in
        (all.0, record { ordered = all.1; closed = all.2 })

  -- ---- what more steps add

  pub weave_next : (schedule : List ℕ) (i : ℕ) → weave_of tasks s0 (schedule ++ i ∷ []) hosts
      ≡ weave_of tasks s0 schedule hosts ++ closing (state_after s0 (weave_of tasks s0 schedule hosts)) i (closes_next tasks s0 hosts i (woven tasks s0 hosts schedule))
  weave_next schedule i = by (closes_next tasks s0 hosts i (woven tasks s0 hosts schedule)) refl
    where
      by : (o : Option Outcome) → closes_next tasks s0 hosts i (woven tasks s0 hosts schedule) ≡ o
          → weave_of tasks s0 (schedule ++ i ∷ []) hosts ≡ weave_of tasks s0 schedule hosts ++ closing (state_after s0 (weave_of tasks s0 schedule hosts)) i o
      by None e = weave_stays tasks s0 hosts schedule i e ∙ sym (append-nil (weave_of tasks s0 schedule hosts))
      by (Some o) e = weave_grows tasks s0 hosts schedule i o e

  pub weave_longer : (schedule rest : List ℕ) → (more : List Event) × (weave_of tasks s0 schedule hosts ++ more ≡ weave_of tasks s0 (schedule ++ rest) hosts)
  weave_longer schedule [] = ([], append-nil (weave_of tasks s0 schedule hosts) ∙ ap (λ (l : List ℕ). weave_of tasks s0 l hosts) (sym (append-nil schedule)))
  weave_longer schedule (i ∷ rest) =
      let next = weave_longer (schedule ++ i ∷ []) rest in
      let es = weave_of tasks s0 schedule hosts in
      let one = closing (state_after s0 es) i (closes_next tasks s0 hosts i (woven tasks s0 hosts schedule)) in (
        one ++ next.0,
        sym (append_assoc es one next.0) ∙ ap (λ (l : List Event). l ++ next.0) (sym (weave_next schedule i)) ∙ next.1 ∙ ap (λ (l : List ℕ). weave_of tasks s0 l hosts) (append_assoc schedule (i ∷ []) rest),
      )
