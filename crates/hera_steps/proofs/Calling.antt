-- Calls, of a machine at work.
use Rattle.std.proofs.Common.{◌≡◌, ℕ, zero, suc, ◌+◌, ◌<◌, ◌≤◌, Bool, true, false, List, [], ◌∷◌, drop, length, map, Option, Some, None, refl, sym, ap, ◌∙◌, subst, arith}
use Rattle.std.specs.Prelude.{nat_le}
use Rattle.std.proofs.lemmas.Bool.{le-leb}
use Rattle.std.proofs.lemmas.List.{length-map}
use Rattle.hera_meaning.specs.Deltas.{State}
use Rattle.hera_meaning.specs.Values.{Value}
use Rattle.hera_meaning.specs.Worlds.{locals_from}
use Rattle.hera_code.specs.declared.instrs.BodyInfo.{BodyInfo}
use Rattle.hera_meaning.specs.Run.{out_of_turns}
use Rattle.hera_code.specs.Machine.{Machine, Step, Taken, quiet, ends, ended, stuck, needs, needs_that, taken, on_some, spends, frame_of, calls_body}
use Rattle.hera_frames.specs.declared.frames.Frame.{Frame}
use Rattle.hera_frames.specs.declared.frames.Point.{Point}
use Rattle.hera_reads.specs.Branched.{Branches, under}
use Rattle.hera_frames.specs.Items.{Item, operands_at, AreHeld, reach}
use Rattle.hera_reads.specs.Walking.{Pace, walk_at, AreGiven}
use Rattle.hera_frames.specs.Waiting.{frame_at, NamesNone, IsUpheld}
use Rattle.hera_frames.specs.Calling.{IsCalled}
use Rattle.hera_frames.proofs.Settled.{reach_drop}
use Rattle.hera_frames.proofs.Upheld.{upheld_call}
use Rattle.hera_steps.specs.Working.{Work, machine_at}

-- ---- a call

-- the running frame as it waits
waiting : (s : State) (w : Work) (f : Frame) (p : Point) → f.point ≡ p → p.at ≡ w.at + 1 → p.tip ≡ w.tip → p.own ≡ w.own → f.locals ≡ w.locals → f.walks ≡ w.walks →
    frame_at s w.layers f ≡ frame_of (operands_at s w.layers f.operands.items) (machine_at s w)
waiting s w f p e at tip own locals walks = λ i. record {
  at = (ap (λ (q : Point). q.at) e ∙ at) i;
  operands = operands_at s w.layers f.operands.items;
  locals = locals i;
  walks = map (walk_at s w.layers) (walks i);
  layers = under w.layers ((ap (λ (q : Point). q.tip) e ∙ tip) i);
  own = (ap (λ (q : Point). q.own) e ∙ own) i;
}

abbrev after_call : BodyInfo → Machine → ℕ → List Value → List Value → Step
after_call b m n args vs =
    quiet (record m { at = b.at; operands = []; locals = locals_from b.slots args; walks = []; own = 0; callers = frame_of vs m ∷ m.callers; turns = n })

calls : (b : BodyInfo) (m : Machine) (n : ℕ) (args vs : List Value) → nat_le b.params b.slots ≡ true → m.turns ≡ suc n → taken b.params [] m.operands ≡ Some (record { args = args; rest = vs }) →
    after_call b m n args vs ≡ calls_body (Some b) m
calls b m n args vs fit turn took =
    ap (λ t. spends t (λ n. after_call b m n args vs)) (sym turn)
    ∙ ap (λ o. needs o (λ (t : Taken). spends m.turns (λ n. after_call b m n t.args t.rest))) (sym took)
    ∙ ap (λ c. needs_that c (on_some b.params m.operands (λ args vs. spends m.turns (λ n. after_call b m n args vs)))) (sym fit)

pub called : (s : State) (w old : Work) (b : BodyInfo) (p : Point) (items : List Item) (spare n : ℕ) (slots : List Value) (walks : List Pace) (fs : List Frame) → w ≡ old → b.params ≤ b.slots → w.turns ≡ suc n →
    p.at ≡ w.at + 1 → p.tip ≡ w.tip → p.own ≡ w.own → items ≡ [] → walks ≡ [] → IsCalled b p w.operands w.locals w.walks slots w.callers fs →
    quiet (machine_at s (record w { at = b.at; operands = items; spare = spare; locals = slots; walks = walks; own = 0; callers = fs; turns = n })) ≡ calls_body (Some b) (machine_at s old)
called s w old b p items spare n slots walks fs same fit turn at tip own no_items no_walks c =
    let m : Machine = machine_at s w in
    let vs : List Value = operands_at s w.layers c.frame.operands.items in
    ap (λ xs. quiet (machine_at s (record w { at = b.at; operands = xs; spare = spare; locals = slots; walks = walks; own = 0; callers = fs; turns = n }))) no_items
    ∙ ap (λ xs. quiet (machine_at s (record w { at = b.at; operands = []; spare = spare; locals = slots; walks = xs; own = 0; callers = fs; turns = n }))) no_walks
    ∙ ap (λ xs. quiet (record m { at = b.at; operands = []; locals = xs; walks = []; own = 0; callers = map (frame_at s w.layers) fs; turns = n })) c.begun.slots_are
    ∙ ap (λ xs. quiet (record m { at = b.at; operands = []; locals = locals_from b.slots c.begun.args; walks = []; own = 0; callers = map (frame_at s w.layers) xs; turns = n })) c.waits
    ∙ ap (λ f. quiet (record m { at = b.at; operands = []; locals = locals_from b.slots c.begun.args; walks = []; own = 0; callers = f ∷ m.callers; turns = n })) (waiting s w c.frame p c.point at tip own c.locals_are c.walks_are)
    ∙ calls b m n c.begun.args vs (le-leb b.params b.slots fit) turn (c.begun.arguments s w.layers)
    ∙ ap (λ (x : Work). calls_body (Some b) (machine_at s x)) same

drop_held : (n : ℕ) (items : List Item) → AreHeld items → AreHeld (drop n items)
drop_held zero items h = h
drop_held (suc n) [] h = tt
drop_held (suc n) (item ∷ items) h = drop_held n items h.1

pub upheld_called : (c : Branches) (own floor : ℕ) (items : List Item) (walks : List Pace) (names some : Bool) (old new : List Frame) (b : BodyInfo) (p : Point) (locals slots : List Value) →
    (count : ℕ) (none : List Item) (no_walks : List Pace) → count ≡ length c.layers → none ≡ [] → no_walks ≡ [] →
    p.tip ≡ c.tip → p.own ≡ own → p.floor ≡ floor → p.names_below ≡ names → (some ≡ false → names ≡ false) → (some ≡ false → AreHeld items) → (some ≡ false → AreGiven walks) →
    IsCalled b p items locals walks slots old new → IsUpheld c own floor items walks names old → IsUpheld c 0 count none no_walks some new
upheld_called c own floor items walks names some old new b p locals slots count none no_walks counted no_items no_paces tip owns floors below names_none items_held walks_given d u =
    let f : Frame = d.frame in
    let named : some ≡ false → NamesNone f = λ e. record {
      operands = subst AreHeld (sym d.begun.rest) (drop_held b.params items (items_held e));
      walks = subst AreGiven (sym d.walks_are) (walks_given e);
      below = ap (λ (q : Point). q.names_below) d.point ∙ below ∙ names_none e;
    } in
    let within : reach f.operands.items ≤ length c.layers =
    let e : reach f.operands.items ≡ reach (drop b.params items) = ap reach d.begun.rest in
    let h : reach (drop b.params items) ≤ reach items = reach_drop b.params items in
    let g : reach items ≤ length c.layers = u.operands in
    omega (arith, e, h, g)
    in
    subst (λ k. IsUpheld c 0 k none no_walks some new) (sym counted)
    (subst (λ xs. IsUpheld c 0 (length c.layers) xs no_walks some new) (sym no_items)
    (subst (λ ws. IsUpheld c 0 (length c.layers) [] ws some new) (sym no_paces)
    (subst (λ fs. IsUpheld c 0 (length c.layers) [] [] some fs) (sym d.waits)
    (upheld_call c own floor items walks names old f some (ap (λ (q : Point). q.tip) d.point ∙ tip) (ap (λ (q : Point). q.own) d.point ∙ owns) (ap (λ (q : Point). q.floor) d.point ∙ floors)
    (ap (λ (q : Point). q.names_below) d.point ∙ below) within d.walks_are named u))))

-- the same machine has as many operands
pub as_many : (s : State) (w v : Work) → machine_at s w ≡ machine_at s v → length w.operands ≡ length v.operands
as_many s w v e =
    let m : length (machine_at s w).operands ≡ length w.operands = length-map w.operands _ in
    let n : length (machine_at s v).operands ≡ length v.operands = length-map v.operands _ in
    sym m ∙ ap (λ (x : Machine). length x.operands) e ∙ n

-- too few operands
too_few : (n : ℕ) (args vs : List Value) → length vs < n → taken n args vs ≡ None
too_few zero args vs h = absurd (omega (arith, h))
too_few (suc n) args [] h = refl
too_few (suc n) args (v ∷ vs) h = too_few n (v ∷ args) vs (omega (arith, h))

-- and enough
taken_any : (n : ℕ) (args vs : List Value) (e : Step) → n ≤ length vs → e ≡ needs (taken n args vs) (λ (t : Taken). e)
taken_any zero args vs e h = refl
taken_any (suc n) args [] e h = absurd (omega (arith, h))
taken_any (suc n) args (v ∷ vs) e h = taken_any n (v ∷ args) vs e (omega (arith, h))

module _ (s : State) (w old : Work) (b : BodyInfo) (o : Option BodyInfo) (same : w ≡ old) (is : Some b ≡ o) (fit : b.params ≤ b.slots) where
  pub few_called : length w.operands < b.params → ends stuck ≡ calls_body o (machine_at s old)
  few_called h =
      let m : Machine = machine_at s w in
      let long : length m.operands ≡ length w.operands = length-map w.operands _ in
      ap (λ r. needs r (λ (t : Taken). spends m.turns (λ n. after_call b m n t.args t.rest))) (sym (too_few b.params [] m.operands (omega (arith, long, h))))
      ∙ ap (λ c. needs_that c (on_some b.params m.operands (λ args vs. spends m.turns (λ n. after_call b m n args vs)))) (sym (le-leb b.params b.slots fit))
      ∙ ap (λ x. calls_body x m) is ∙ ap (λ (x : Work). calls_body o (machine_at s x)) same

  pub spent_called : b.params ≤ length w.operands → w.turns ≡ 0 → ends (ended out_of_turns) ≡ calls_body o (machine_at s old)
  spent_called h none =
      let m : Machine = machine_at s w in
      let long : length m.operands ≡ length w.operands = length-map w.operands _ in
      taken_any b.params [] m.operands (ends (ended out_of_turns)) (omega (arith, long, h))
      ∙ ap (λ k. needs (taken b.params [] m.operands) (λ (t : Taken). spends k (λ n. after_call b m n t.args t.rest))) (sym none)
      ∙ ap (λ c. needs_that c (on_some b.params m.operands (λ args vs. spends m.turns (λ n. after_call b m n args vs)))) (sym (le-leb b.params b.slots fit))
      ∙ ap (λ x. calls_body x m) is ∙ ap (λ (x : Work). calls_body o (machine_at s x)) same
