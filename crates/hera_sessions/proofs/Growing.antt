-- A weave with one step more, and where its sessions begin.
use Rattle.std.proofs.Common.{◌≡◌, ℕ, zero, suc, Bool, true, false, cond, ◌⊎◌, inl, inr, List, [], ◌∷◌, ◌++◌, length, Option, Some, None, refl, sym, ap, subst, ◌∙◌, append_assoc, append-nil}
use Rattle.std.specs.Prelude.{slice_get, nat_eq, replicate, ◌||◌}
use Rattle.std.proofs.lemmas.Bool.{cases_Bool, false≢true, eqb-true, eq-eqb, ne_eqb}
use Rattle.std.proofs.lemmas.Option.{none-some}
use Rattle.hera_meaning.specs.Deltas.{Delta, State}
use Rattle.hera_meaning.specs.Hosts.{Hosts}
use Rattle.hera_meaning.specs.Worlds.{Event, out, store}
use Rattle.hera_meaning.specs.Run.{state_after}
use Rattle.hera_sessions.specs.Agreeing.{deltas_of}
use Rattle.hera_meaning.specs.Commits.{after_all}
use Rattle.hera_sessions.specs.Sessions.{Task}
use Rattle.hera_sessions.specs.Weaving.{Outcome, committed, read, conflicted, Closing, Stage, waiting, running, closed, Woven, set_stage, stage_by, delta_stored, closings_by, told_next, step_by, step_of, closes_by, closes_next, woven_start, woven_from, woven, closing_events, closings_events, weave_of, is_open, AreClosed}
use Rattle.hera_sessions.specs.Beginnings.{begun_from, begun_of, has_closed, AreOnce}
use Rattle.hera_sessions.proofs.Decides.{state_after-append}
use Rattle.hera_sessions.proofs.Serially.{closing_state, deltas_closed}
use Rattle.hera_sessions.proofs.Closing.{closed_step}

-- ---- events

events_push : (s : State) (cs : List Closing) (c : Closing) → closings_events s (cs ++ c ∷ []) ≡ closings_events s cs ++ closing_events (state_after s (closings_events s cs)) c.session c.outcome
events_push s [] c = append-nil (closing_events s c.session c.outcome)
events_push s (d ∷ cs) c =
    let front : List Event = closing_events s d.session d.outcome in
    let next : State = after_all s (delta_stored d.outcome) in
    let rest : List Event = closings_events next cs in
    let here : state_after next rest ≡ state_after s (front ++ rest) = sym (state_after-append s front rest ∙ ap (λ (t : State). state_after t rest) (closing_state s d.session d.outcome)) in
    ap (λ (es : List Event). front ++ es) (events_push next cs c)
    ∙ sym (append_assoc front rest (closing_events (state_after next rest) c.session c.outcome))
    ∙ ap (λ (t : State). (front ++ rest) ++ closing_events t c.session c.outcome) here

deltas_of-append : (es fs : List Event) → deltas_of (es ++ fs) ≡ deltas_of es ++ deltas_of fs
deltas_of-append [] fs = refl
deltas_of-append (out bytes ∷ es) fs = deltas_of-append es fs
deltas_of-append (store s d ∷ es) fs = ap (λ (ds : List Delta). d ∷ ds) (deltas_of-append es fs)

closing_deltas : (s : State) (i : ℕ) (o : Outcome) → deltas_of (closing_events s i o) ≡ delta_stored o
closing_deltas s i (committed text d) = refl
closing_deltas s i (read text) = refl
closing_deltas s i (conflicted k) = refl

pub events_deltas : (s : State) (cs : List Closing) → deltas_of (closings_events s cs) ≡ deltas_closed cs
events_deltas s [] = refl
events_deltas s (c ∷ cs) =
    let next : State = after_all s (delta_stored c.outcome) in
    deltas_of-append (closing_events s c.session c.outcome) (closings_events next cs)
    ∙ ap (λ (ds : List Delta). ds ++ deltas_of (closings_events next cs)) (closing_deltas s c.session c.outcome)
    ∙ ap (λ (ds : List Delta). delta_stored c.outcome ++ ds) (events_deltas next cs)

-- ---- stages

stage_at : (stages : List Stage) (i : ℕ) (g h : Stage) → slice_get stages i ≡ Some h → slice_get (set_stage stages i g) i ≡ Some g
stage_at [] i g h at = absurd (none-some h at)
stage_at (k ∷ stages) zero g h at = refl
stage_at (k ∷ stages) (suc i) g h at = stage_at stages i g h at

stage_kept : (stages : List Stage) (i j : ℕ) (g : Stage) → (i ≡ j → ⊥) → slice_get (set_stage stages j g) i ≡ slice_get stages i
stage_kept [] i j g other = refl
stage_kept (k ∷ stages) zero zero g other = absurd (other refl)
stage_kept (k ∷ stages) zero (suc j) g other = refl
stage_kept (k ∷ stages) (suc i) zero g other = refl
stage_kept (k ∷ stages) (suc i) (suc j) g other = stage_kept stages i j g (λ e. other (ap suc e))

two : (i j : ℕ) → nat_eq i j ≡ false → i ≡ j → ⊥
two i j other e = false≢true (sym other ∙ eq-eqb i j e)

module _ (tasks : List Task) (s0 : State) (hosts : Hosts) where
  step_closings : (w : Woven) (i : ℕ) (o : Option Task) (g : Option Stage) → (step_by tasks s0 hosts i o g w).closings ≡ closings_by w.closings i (closes_by tasks s0 hosts o g w)
  step_closings w i None g = refl
  step_closings w i (Some t) None = refl
  step_closings w i (Some t) (Some waiting) = refl
  step_closings w i (Some t) (Some (running begun steps)) = refl
  step_closings w i (Some t) (Some closed) = refl

  woven_from-push : (schedule : List ℕ) (i : ℕ) (w : Woven) → woven_from tasks s0 hosts w (schedule ++ i ∷ []) ≡ step_of tasks s0 hosts i (woven_from tasks s0 hosts w schedule)
  woven_from-push [] i w = refl
  woven_from-push (j ∷ rest) i w = woven_from-push rest i (step_of tasks s0 hosts j w)

  -- a weave with a step more
  pub woven-push : (schedule : List ℕ) (i : ℕ) → woven tasks s0 hosts (schedule ++ i ∷ []) ≡ step_of tasks s0 hosts i (woven tasks s0 hosts schedule)
  woven-push schedule i = woven_from-push schedule i (woven_start tasks s0 hosts)

  closings_push : (schedule : List ℕ) (i : ℕ) → (woven tasks s0 hosts (schedule ++ i ∷ [])).closings ≡ closings_by (woven tasks s0 hosts schedule).closings i (closes_next tasks s0 hosts i (woven tasks s0 hosts schedule))
  closings_push schedule i =
      let w = woven tasks s0 hosts schedule in
      ap (λ (v : Woven). v.closings) (woven-push schedule i) ∙ step_closings w i (slice_get tasks i) (slice_get w.stages i)

  -- its events where the session does not close at that step, and where it does
  pub weave_stays : (schedule : List ℕ) (i : ℕ) → closes_next tasks s0 hosts i (woven tasks s0 hosts schedule) ≡ None → weave_of tasks s0 (schedule ++ i ∷ []) hosts ≡ weave_of tasks s0 schedule hosts
  weave_stays schedule i none =
      let w = woven tasks s0 hosts schedule in
      ap (closings_events s0) (closings_push schedule i ∙ ap (closings_by w.closings i) none)

  pub weave_grows : (schedule : List ℕ) (i : ℕ) (o : Outcome) → closes_next tasks s0 hosts i (woven tasks s0 hosts schedule) ≡ Some o
      → weave_of tasks s0 (schedule ++ i ∷ []) hosts ≡ weave_of tasks s0 schedule hosts ++ closing_events (state_after s0 (weave_of tasks s0 schedule hosts)) i o
  weave_grows schedule i o some =
      let w = woven tasks s0 hosts schedule in
      ap (closings_events s0) (closings_push schedule i ∙ ap (closings_by w.closings i) some)
      ∙ events_push s0 w.closings (record { session = i; outcome = o })

  -- ---- where a session begins

  step_stages : (w : Woven) (i j : ℕ) (o : Option Task) (g : Option Stage) → (i ≡ j → ⊥) → slice_get (step_by tasks s0 hosts j o g w).stages i ≡ slice_get w.stages i
  step_stages w i j None g other = refl
  step_stages w i j (Some t) None other = refl
  step_stages w i j (Some t) (Some waiting) other = stage_kept w.stages i j (stage_by (length w.commits) 1 (told_next tasks s0 hosts t w.commits (length w.commits) 0)) other
  step_stages w i j (Some t) (Some (running begun steps)) other = stage_kept w.stages i j (stage_by begun (suc steps) (told_next tasks s0 hosts t w.commits begun steps)) other
  step_stages w i j (Some t) (Some closed) other = refl

  -- a session that began behind so many commits and did not close
  abbrev BeganAt : ℕ → Option Stage → Type 0
  BeganAt b None = Unit {0}
  BeganAt b (Some waiting) = ⊥
  BeganAt b (Some (running begun steps)) = begun ≡ b
  BeganAt b (Some closed) = Unit {0}

  began_by : (b begun steps : ℕ) (o : Option Outcome) → begun ≡ b → BeganAt b (Some (stage_by begun steps o))
  began_by b begun steps None e = e
  began_by b begun steps (Some o) e = tt

  -- its own steps leave that as it is
  began_self : (w : Woven) (i b : ℕ) (o : Option Task) (g : Option Stage) → slice_get w.stages i ≡ g → BeganAt b g → BeganAt b (slice_get (step_by tasks s0 hosts i o g w).stages i)
  began_self w i b None g at h = subst (BeganAt b) (sym at) h
  began_self w i b (Some t) None at h = subst (BeganAt b) (sym at) h
  began_self w i b (Some t) (Some waiting) at h = absurd h
  began_self w i b (Some t) (Some (running begun steps)) at h =
      let o = told_next tasks s0 hosts t w.commits begun steps in
      subst (BeganAt b) (sym (stage_at w.stages i (stage_by begun (suc steps) o) (running begun steps) at)) (began_by b begun (suc steps) o h)
  began_self w i b (Some t) (Some closed) at h = subst (BeganAt b) (sym at) h

  -- and so does each other step
  began_step : (w : Woven) (i j b : ℕ) → BeganAt b (slice_get w.stages i) → BeganAt b (slice_get (step_of tasks s0 hosts j w).stages i)
  began_step w i j b h = elim (cases_Bool (nat_eq i j)) [
    | inl same ↦
        subst (λ (k : ℕ). BeganAt b (slice_get (step_of tasks s0 hosts k w).stages i)) (eqb-true i j same)
        (began_self w i b (slice_get tasks i) (slice_get w.stages i) refl h)
    | inr other ↦ subst (BeganAt b) (sym (step_stages w i j (slice_get tasks j) (slice_get w.stages j) (two i j other))) h
  ]

  began_from : (rest : List ℕ) (w : Woven) (i b : ℕ) → BeganAt b (slice_get w.stages i) → BeganAt b (slice_get (woven_from tasks s0 hosts w rest).stages i)
  began_from [] w i b h = h
  began_from (j ∷ rest) w i b h = began_from rest (step_of tasks s0 hosts j w) i b (began_step w i j b h)

  -- a session that made no step yet waits still, or began behind the commits that there were at its first step
  abbrev Begins : ℕ → Woven → (rest : List ℕ) → Type 0
  Begins i w rest =
      let v = woven_from tasks s0 hosts w rest in
      ((slice_get v.stages i ≡ Some waiting) × (begun_from tasks s0 hosts i w rest ≡ length v.commits)) ⊎ BeganAt (begun_from tasks s0 hosts i w rest) (slice_get v.stages i)

  begins_self : (w : Woven) (i : ℕ) (t : Task) → slice_get w.stages i ≡ Some waiting → BeganAt (length w.commits) (slice_get (step_by tasks s0 hosts i (Some t) (Some waiting) w).stages i)
  begins_self w i t at =
      let o = told_next tasks s0 hosts t w.commits (length w.commits) 0 in
      subst (BeganAt (length w.commits)) (sym (stage_at w.stages i (stage_by (length w.commits) 1 o) waiting at)) (began_by (length w.commits) (length w.commits) 1 o refl)

  begins : (rest : List ℕ) (w : Woven) (i : ℕ) (t : Task) → slice_get tasks i ≡ Some t → slice_get w.stages i ≡ Some waiting → Begins i w rest
  begins [] w i t there at = inl (at, refl)
  begins (j ∷ rest) w i t there at = by (nat_eq i j) refl (λ other. begins rest (step_of tasks s0 hosts j w) i t there (step_stages w i j (slice_get tasks j) (slice_get w.stages j) (two i j other) ∙ at))
    where
      next : Woven
      next = step_of tasks s0 hosts j w

      by : (b : Bool) → nat_eq i j ≡ b → (nat_eq i j ≡ false → Begins i next rest)
          → ((slice_get (woven_from tasks s0 hosts next rest).stages i ≡ Some waiting) × (cond b (length w.commits) (begun_from tasks s0 hosts i next rest) ≡ length (woven_from tasks s0 hosts next rest).commits))
          ⊎ BeganAt (cond b (length w.commits) (begun_from tasks s0 hosts i next rest)) (slice_get (woven_from tasks s0 hosts next rest).stages i)
      by true same again =
          let first : BeganAt (length w.commits) (slice_get (step_of tasks s0 hosts i w).stages i) =
          subst (λ (o : Option Task). BeganAt (length w.commits) (slice_get (step_by tasks s0 hosts i o (slice_get w.stages i) w).stages i)) (sym there)
          (subst (λ (g : Option Stage). BeganAt (length w.commits) (slice_get (step_by tasks s0 hosts i (Some t) g w).stages i)) (sym at) (begins_self w i t at)) in
          inr (began_from rest next i (length w.commits) (subst (λ (k : ℕ). BeganAt (length w.commits) (slice_get (step_of tasks s0 hosts k w).stages i)) (eqb-true i j same) first))
      by false other again = again other

  waits_first : (ts : List Task) (i : ℕ) (t : Task) → slice_get ts i ≡ Some t → slice_get (replicate (length ts) waiting) i ≡ Some waiting
  waits_first [] i t at = absurd (none-some t at)
  waits_first (u ∷ ts) zero t at = refl
  waits_first (u ∷ ts) (suc i) t at = waits_first ts i t at

  -- where a session closes at its next step, it does so from the commits that there were at its first one
  pub told_at : (schedule : List ℕ) (i : ℕ) (t : Task) (o : Outcome) → slice_get tasks i ≡ Some t → closes_next tasks s0 hosts i (woven tasks s0 hosts schedule) ≡ Some o
      → (steps : ℕ) × (told_next tasks s0 hosts t (woven tasks s0 hosts schedule).commits (begun_of tasks s0 hosts i schedule) steps ≡ Some o)
  told_at schedule i t o there closes =
      by (slice_get w.stages i) (subst (λ (u : Option Task). closes_by tasks s0 hosts u (slice_get w.stages i) w ≡ Some o) there closes)
      (begins schedule (woven_start tasks s0 hosts) i t there (waits_first tasks i t there))
    where
      w : Woven
      w = woven tasks s0 hosts schedule

      b : ℕ
      b = begun_of tasks s0 hosts i schedule

      by : (g : Option Stage) → closes_by tasks s0 hosts (Some t) g w ≡ Some o → ((g ≡ Some waiting) × (b ≡ length w.commits)) ⊎ BeganAt b g → (steps : ℕ) × (told_next tasks s0 hosts t w.commits b steps ≡ Some o)
      by None e h = absurd (none-some o e)
      by (Some waiting) e (inl h) = (0, ap (λ (n : ℕ). told_next tasks s0 hosts t w.commits n 0) h.1 ∙ e)
      by (Some waiting) e (inr h) = absurd h
      by (Some (running begun steps)) e (inl h) = absurd (let no : Some (running begun steps) ≡ Some waiting = h.0 in cc)
      by (Some (running begun steps)) e (inr h) = (steps, ap (λ (n : ℕ). told_next tasks s0 hosts t w.commits n steps) (sym h) ∙ e)
      by (Some closed) e h = absurd (none-some o e)

-- ---- a session closes once

closed_other : (stages : List Stage) (cs : List Closing) (i : ℕ) (g : Stage) → slice_get stages i ≡ Some g → is_open (Some g) ≡ true → AreClosed stages cs → has_closed i cs ≡ false
closed_other stages [] i g at opens are = refl
closed_other stages (c ∷ cs) i g at opens are = elim (cases_Bool (nat_eq i c.session)) [
  | inl same ↦
      let shut : Some g ≡ Some closed = sym at ∙ ap (slice_get stages) (eqb-true i c.session same) ∙ are.0 in
      absurd (false≢true (ap is_open (sym shut) ∙ opens))
  | inr other ↦ rw other (closed_other stages cs i g at opens are.1)
]

not_among : (i : ℕ) (cs : List Closing) (c : Closing) → nat_eq i c.session ≡ false → has_closed i cs ≡ false → has_closed i (cs ++ c ∷ []) ≡ false
not_among i [] c other h = rw other refl
not_among i (d ∷ cs) c other h = by (nat_eq i d.session) (λ g. not_among i cs c other g) h
  where
    by : (b : Bool) → (has_closed i cs ≡ false → has_closed i (cs ++ c ∷ []) ≡ false) → (b || has_closed i cs) ≡ false → (b || has_closed i (cs ++ c ∷ [])) ≡ false
    by true again g = absurd (false≢true (sym g))
    by false again g = again g

flipped : (i j : ℕ) → nat_eq i j ≡ false → nat_eq j i ≡ false
flipped i j e = ne_eqb j i (λ same. two i j e (sym same))

apart : (i : ℕ) (d : Closing) (cs : List Closing) → has_closed i (d ∷ cs) ≡ false → (nat_eq i d.session ≡ false) × (has_closed i cs ≡ false)
apart i d cs h = by (nat_eq i d.session) h
  where
    by : (b : Bool) → (b || has_closed i cs) ≡ false → (b ≡ false) × (has_closed i cs ≡ false)
    by true g = absurd (false≢true (sym g))
    by false g = (refl, g)

once_push : (cs : List Closing) (c : Closing) → has_closed c.session cs ≡ false → AreOnce cs → AreOnce (cs ++ c ∷ [])
once_push [] c none once = (refl, tt)
once_push (d ∷ cs) c none once =
    let p = apart c.session d cs none in
    (not_among d.session cs c (flipped c.session d.session p.0) once.0, once_push cs c p.1 once.1)

module _ (tasks : List Task) (s0 : State) (hosts : Hosts) where
  once_by : (w : Woven) (i : ℕ) (g : Stage) (o : Option Outcome) → slice_get w.stages i ≡ Some g → is_open (Some g) ≡ true → AreClosed w.stages w.closings → AreOnce w.closings → AreOnce (closings_by w.closings i o)
  once_by w i g None at opens are once = once
  once_by w i g (Some o) at opens are once = once_push w.closings (record { session = i; outcome = o }) (closed_other w.stages w.closings i g at opens are) once

  once_step : (w : Woven) (i : ℕ) (o : Option Task) (g : Option Stage) → slice_get w.stages i ≡ g → AreClosed w.stages w.closings → AreOnce w.closings → AreOnce (step_by tasks s0 hosts i o g w).closings
  once_step w i None g at are once = once
  once_step w i (Some t) None at are once = once
  once_step w i (Some t) (Some waiting) at are once = once_by w i waiting (told_next tasks s0 hosts t w.commits (length w.commits) 0) at refl are once
  once_step w i (Some t) (Some (running begun steps)) at are once = once_by w i (running begun steps) (told_next tasks s0 hosts t w.commits begun steps) at refl are once
  once_step w i (Some t) (Some closed) at are once = once

  once_from : (schedule : List ℕ) (w : Woven) → AreClosed w.stages w.closings → AreOnce w.closings → AreOnce (woven_from tasks s0 hosts w schedule).closings
  once_from [] w are once = once
  once_from (i ∷ rest) w are once =
      once_from rest (step_of tasks s0 hosts i w) (closed_step tasks s0 hosts w i (slice_get tasks i) (slice_get w.stages i) refl are)
      (once_step w i (slice_get tasks i) (slice_get w.stages i) refl are once)

  pub are_once : (schedule : List ℕ) → AreOnce (woven tasks s0 hosts schedule).closings
  are_once schedule = once_from schedule (woven_start tasks s0 hosts) tt tt
