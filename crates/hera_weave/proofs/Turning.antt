-- A rota goes with the weave.
use Rattle.std.proofs.Common.{◌≡◌, ℕ, zero, suc, ◌+◌, ◌≤◌, ◌<◌, ◌%◌, Bool, true, false, cond, List, [], ◌∷◌, ◌++◌, length, replicate, remove, Option, Some, None, is_some, refl, sym, ap, subst, ◌∙◌, arith, append_assoc, append-nil}
use Rattle.std.specs.Prelude.{slice_get, get_or}
use Rattle.std.proofs.lemmas.Option.{none-some, slice_get-get_or}
use Rattle.std.proofs.lemmas.Nat.{mod_below}
use Rattle.hera_meaning.specs.Deltas.{State}
use Rattle.hera_meaning.specs.Hosts.{Hosts}
use Rattle.hera_sessions.specs.Sessions.{Task}
use Rattle.hera_sessions.specs.Weaving.{Outcome, Stage, waiting, running, closed, is_open, set_stage, stage_by, Woven, woven, told_next, step_by, step_of, closes_by, closes_next}
use Rattle.hera_sessions.specs.Turns.{open_from, next_number, IsOrderedFrom, IsOrdered}
use Rattle.hera_sessions.proofs.Growing.{woven-push}
use Rattle.hera_weave.specs.Rotas.{Turn, IsDue}

-- ---- the sessions that have not closed

abbrev or_zero : Option ℕ → ℕ
or_zero None = 0
or_zero (Some n) = n

least : (stages : List Stage) (k p i : ℕ) → slice_get (open_from k stages) p ≡ Some i → k ≤ i
least [] k p i h = absurd (none-some i h)
least (waiting ∷ stages) k zero i h = let e : k ≡ i = ap or_zero h in omega (arith, e)
least (waiting ∷ stages) k (suc p) i h = let r : suc k ≤ i = least stages (suc k) p i h in omega (arith, r)
least (running b n ∷ stages) k zero i h = let e : k ≡ i = ap or_zero h in omega (arith, e)
least (running b n ∷ stages) k (suc p) i h = let r : suc k ≤ i = least stages (suc k) p i h in omega (arith, r)
least (closed ∷ stages) k p i h = let r : suc k ≤ i = least stages (suc k) p i h in omega (arith, r)

not_past : (stages : List Stage) (k p : ℕ) → slice_get (open_from (suc k) stages) p ≡ Some (k + 0) → ⊥
not_past stages k p h = let r : suc k ≤ k + 0 = least stages (suc k) p (k + 0) h in omega (arith, r)

not_first : (k j : ℕ) → Some k ≡ Some (k + suc j) → ⊥
not_first k j h = let e : k ≡ k + suc j = ap or_zero h in omega (arith, e)

on_next : (stages : List Stage) (k j p : ℕ) → slice_get (open_from (suc k) stages) p ≡ Some (k + suc j) → slice_get (open_from (suc k) stages) p ≡ Some (suc k + j)
on_next stages k j p h = let e : k + suc j ≡ suc k + j = omega arith in h ∙ ap (λ (n : ℕ). Some n) e

-- those are open
opens_are : (stages : List Stage) (k j p : ℕ) → slice_get (open_from k stages) p ≡ Some (k + j) → is_open (slice_get stages j) ≡ true
opens_are [] k j p h = absurd (none-some (k + j) h)
opens_are (waiting ∷ stages) k zero p h = refl
opens_are (waiting ∷ stages) k (suc j) zero h = absurd (not_first k j h)
opens_are (waiting ∷ stages) k (suc j) (suc p) h = opens_are stages (suc k) j p (on_next stages k j p h)
opens_are (running b n ∷ stages) k zero p h = refl
opens_are (running b n ∷ stages) k (suc j) zero h = absurd (not_first k j h)
opens_are (running b n ∷ stages) k (suc j) (suc p) h = opens_are stages (suc k) j p (on_next stages k j p h)
opens_are (closed ∷ stages) k zero p h = absurd (not_past stages k p h)
opens_are (closed ∷ stages) k (suc j) p h = opens_are stages (suc k) j p (on_next stages k j p h)

pub due_is_open : (stages : List Stage) (p i : ℕ) → slice_get (open_from 0 stages) p ≡ Some i → is_open (slice_get stages i) ≡ true
due_is_open stages p i h = opens_are stages 0 i p (let e : i ≡ 0 + i = omega arith in h ∙ ap (λ (n : ℕ). Some n) e)

-- where none is, all have closed
pub none_open : (stages : List Stage) (k j : ℕ) → open_from k stages ≡ [] → is_open (slice_get stages j) ≡ false
none_open [] k j h = refl
none_open (waiting ∷ stages) k j h = let e : suc (length (open_from (suc k) stages)) ≡ 0 = ap (λ (l : List ℕ). length l) h in absurd (omega (arith, e))
none_open (running b n ∷ stages) k j h = let e : suc (length (open_from (suc k) stages)) ≡ 0 = ap (λ (l : List ℕ). length l) h in absurd (omega (arith, e))
none_open (closed ∷ stages) k zero h = refl
none_open (closed ∷ stages) k (suc j) h = none_open stages (suc k) j h

-- one that closes is gone
gone : (stages : List Stage) (k j p : ℕ) → slice_get (open_from k stages) p ≡ Some (k + j) → open_from k (set_stage stages j closed) ≡ remove (open_from k stages) p
gone [] k j p h = absurd (none-some (k + j) h)
gone (waiting ∷ stages) k zero zero h = refl
gone (waiting ∷ stages) k zero (suc p) h = absurd (not_past stages k p h)
gone (waiting ∷ stages) k (suc j) zero h = absurd (not_first k j h)
gone (waiting ∷ stages) k (suc j) (suc p) h = ap (λ (l : List ℕ). k ∷ l) (gone stages (suc k) j p (on_next stages k j p h))
gone (running b n ∷ stages) k zero zero h = refl
gone (running b n ∷ stages) k zero (suc p) h = absurd (not_past stages k p h)
gone (running b n ∷ stages) k (suc j) zero h = absurd (not_first k j h)
gone (running b n ∷ stages) k (suc j) (suc p) h = ap (λ (l : List ℕ). k ∷ l) (gone stages (suc k) j p (on_next stages k j p h))
gone (closed ∷ stages) k zero p h = absurd (not_past stages k p h)
gone (closed ∷ stages) k (suc j) p h = gone stages (suc k) j p (on_next stages k j p h)

-- one that goes on stays
stays : (stages : List Stage) (k j p b n : ℕ) → slice_get (open_from k stages) p ≡ Some (k + j) → open_from k (set_stage stages j (running b n)) ≡ open_from k stages
stays [] k j p b n h = refl
stays (waiting ∷ stages) k zero p b n h = refl
stays (waiting ∷ stages) k (suc j) zero b n h = absurd (not_first k j h)
stays (waiting ∷ stages) k (suc j) (suc p) b n h = ap (λ (l : List ℕ). k ∷ l) (stays stages (suc k) j p b n (on_next stages k j p h))
stays (running c m ∷ stages) k zero p b n h = refl
stays (running c m ∷ stages) k (suc j) zero b n h = absurd (not_first k j h)
stays (running c m ∷ stages) k (suc j) (suc p) b n h = ap (λ (l : List ℕ). k ∷ l) (stays stages (suc k) j p b n (on_next stages k j p h))
stays (closed ∷ stages) k zero p b n h = absurd (not_past stages k p h)
stays (closed ∷ stages) k (suc j) p b n h = stays stages (suc k) j p b n (on_next stages k j p h)

open_push : (k n : ℕ) → open_from k (replicate (n + 1) waiting) ≡ open_from k (replicate n waiting) ++ (k + n) ∷ []
open_push k zero = let e : k ≡ k + 0 = omega arith in ap (λ (m : ℕ). m ∷ []) e
open_push k (suc n) =
    let more : suc n + 1 ≡ suc (n + 1) = omega arith in
    let last : suc k + n ≡ k + suc n = omega arith in
    ap (λ (m : ℕ). open_from k (replicate m waiting)) more ∙ ap (λ (l : List ℕ). k ∷ l) (open_push (suc k) n)
    ∙ ap (λ (m : ℕ). k ∷ (open_from (suc k) (replicate n waiting) ++ m ∷ [])) last

pub one_more : (n : ℕ) (ks : List ℕ) → ks ≡ open_from 0 (replicate n waiting) → ks ++ n ∷ [] ≡ open_from 0 (replicate (n + 1) waiting)
one_more n ks h = let e : n ≡ 0 + n = omega arith in ap (λ (l : List ℕ). l ++ n ∷ []) h ∙ ap (λ (m : ℕ). open_from 0 (replicate n waiting) ++ m ∷ []) e ∙ sym (open_push 0 n)

module _ (tasks : List Task) (s0 : State) (hosts : Hosts) where
  pub due_start : (order : ℕ) (r : Turn) (n : ℕ) → length tasks ≡ n → r.order ≡ order → r.number ≡ order → r.opens ≡ open_from 0 (replicate n waiting) → IsDue tasks s0 hosts [] r
  due_start order r n many own number opens = record {
    opens = opens ∙ ap (λ (k : ℕ). open_from 0 (replicate k waiting)) (sym many);
    ordered = λ rest h. subst (λ (k : ℕ). IsOrderedFrom tasks s0 hosts r.order k (woven tasks s0 hosts []) rest) (number ∙ sym own) h;
  }

  module _ (w : Woven) (i p : ℕ) (at : slice_get (open_from 0 w.stages) p ≡ Some i) where
    abbrev left_open : Bool → List ℕ
    left_open closes = cond closes (remove (open_from 0 w.stages) p) (open_from 0 w.stages)

    opens_told : (begun steps : ℕ) (c : Option Outcome) → open_from 0 (set_stage w.stages i (stage_by begun steps c)) ≡ left_open (is_some c)
    opens_told begun steps None = stays w.stages 0 i p begun steps (let e : i ≡ 0 + i = omega arith in at ∙ ap (λ (n : ℕ). Some n) e)
    opens_told begun steps (Some c) = gone w.stages 0 i p (let e : i ≡ 0 + i = omega arith in at ∙ ap (λ (n : ℕ). Some n) e)

    opens_by : (o : Option Task) (g : Option Stage) → open_from 0 (step_by tasks s0 hosts i o g w).stages ≡ left_open (is_some (closes_by tasks s0 hosts o g w))
    opens_by None g = refl
    opens_by (Some t) None = refl
    opens_by (Some t) (Some waiting) = opens_told (length w.commits) 1 (told_next tasks s0 hosts t w.commits (length w.commits) 0)
    opens_by (Some t) (Some (running begun steps)) = opens_told begun (suc steps) (told_next tasks s0 hosts t w.commits begun steps)
    opens_by (Some t) (Some closed) = refl

  -- a step of the session that is due
  pub due_step : (schedule : List ℕ) (i : ℕ) (closes : Bool) (r v : Turn) → IsDue tasks s0 hosts schedule r → slice_get r.opens (r.number % length r.opens) ≡ Some i → closes ≡ is_some (closes_next tasks s0 hosts i (woven tasks s0 hosts schedule))
      → v.order ≡ r.order → v.number ≡ next_number r.order r.number (length r.opens) → v.opens ≡ cond closes (remove r.opens (r.number % length r.opens)) r.opens → IsDue tasks s0 hosts (schedule ++ i ∷ []) v
  due_step schedule i closes r v due next told order number opens =
      let w = woven tasks s0 hosts schedule in
      let ones : List ℕ = open_from 0 w.stages in
      let place : ℕ = r.number % length ones in
      let at : slice_get ones place ≡ Some i = subst (λ (l : List ℕ). slice_get l (r.number % length l) ≡ Some i) due.opens next in
      record {
        opens = opens ∙ ap (λ (l : List ℕ). cond closes (remove l (r.number % length l)) l) due.opens ∙ ap (λ (b : Bool). cond b (remove ones place) ones) told
            ∙ sym (opens_by w i place at (slice_get tasks i) (slice_get w.stages i)) ∙ ap (λ (u : Woven). open_from 0 u.stages) (sym (woven-push tasks s0 hosts schedule i));
        ordered = λ rest h.
            let here : IsOrderedFrom tasks s0 hosts v.order v.number (step_of tasks s0 hosts i w) rest = subst (λ (u : Woven). IsOrderedFrom tasks s0 hosts v.order v.number u rest) (woven-push tasks s0 hosts schedule i) h in
            let from : IsOrderedFrom tasks s0 hosts r.order (next_number r.order r.number (length ones)) (step_of tasks s0 hosts i w) rest =
            subst (λ (n : ℕ). IsOrderedFrom tasks s0 hosts r.order n (step_of tasks s0 hosts i w) rest) (number ∙ ap (λ (l : List ℕ). next_number r.order r.number (length l)) due.opens)
            (subst (λ (n : ℕ). IsOrderedFrom tasks s0 hosts n v.number (step_of tasks s0 hosts i w) rest) order here) in
            subst (λ (l : List ℕ). IsOrdered tasks s0 hosts v.order l) (sym (append_assoc schedule (i ∷ []) rest))
            (subst (λ (n : ℕ). IsOrdered tasks s0 hosts n (schedule ++ i ∷ rest)) (sym order) (due.ordered (i ∷ rest) (at, from)));
      }

  pub due_ordered : (schedule : List ℕ) (r : Turn) → IsDue tasks s0 hosts schedule r → IsOrdered tasks s0 hosts r.order schedule
  due_ordered schedule r due = subst (λ (l : List ℕ). IsOrdered tasks s0 hosts r.order l) (append-nil schedule) (due.ordered [] tt)

-- where none is due, all have closed
empty_by : (xs : List ℕ) (n : ℕ) → slice_get xs (n % length xs) ≡ None → xs ≡ []
empty_by [] n h = refl
empty_by (x ∷ xs) n h =
    let some : 0 < length (x ∷ xs) = omega arith in
    absurd (none-some (get_or (x ∷ xs) (n % length (x ∷ xs)) 0) (sym h ∙ slice_get-get_or (x ∷ xs) (n % length (x ∷ xs)) 0 (mod_below n (length (x ∷ xs)) some)))

pub none_due : (tasks : List Task) (s : State) (hosts : Hosts) (schedule : List ℕ) (r : Turn) → IsDue tasks s hosts schedule r → slice_get r.opens (r.number % length r.opens) ≡ None → (i : ℕ) → is_open (slice_get (woven tasks s hosts schedule).stages i) ≡ false
none_due tasks s hosts schedule r due h i = none_open (woven tasks s hosts schedule).stages 0 i (sym due.opens ∙ empty_by r.opens r.number h)
