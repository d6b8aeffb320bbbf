-- A step that was taken.
use Rattle.std.proofs.Common.{◌≡◌, ℕ, ◌+◌, ◌-◌, ◌*◌, ◌<◌, true, length, sym, ap, ◌∙◌, subst, refl, List, [], arith}
use Rattle.std.proofs.lemmas.List.{length-map}
use Rattle.std.specs.Prelude.{slice_get, Option, None, Some, Result, Ok, Err, IfOk}
use Rattle.std.specs.declared.alloc.AllocError.{AllocError}
use Rattle.std.proofs.lemmas.Option.{slice_get_within}
use Rattle.hera_meaning.specs.declared.schemas.RelDecl.{RelDecl}
use Rattle.hera_meaning.specs.Deltas.{State, apply_of}
use Rattle.hera_meaning.specs.Hosts.{Hosts}
use Rattle.hera_meaning.specs.Fits.{is_delta_of}
use Rattle.hera_code.specs.declared.instrs.Instr.{Instr}
use Rattle.hera_code.specs.declared.instrs.Code.{Code}
use Rattle.hera_code.specs.Forward.{Forward}
use Rattle.hera_code.specs.Machine.{Machine, stuck, ends, act, code_step}
use Rattle.hera_steps.specs.declared.events.Told.{Told}
use Rattle.hera_steps.specs.declared.events.Told.TheVariants.{Quiet, Out, Commit, Ended}
use Rattle.hera_reads.specs.Branched.{pending_of}
use Rattle.hera_frames.specs.Waiting.{frame_at}
use Rattle.hera_steps.specs.Descends.{Descends, fewer_turns, fewer_frames, nearer_end, left, IsLower}
use Rattle.hera_steps.specs.Working.{Work, machine_at}
use Rattle.hera_steps.specs.Telling.{step_at, TellsNearer, TellsKnown}
use Rattle.hera_steps.proofs.Lowered.{Lowers, step_lowers, Sinks, IsForward, KeepsPending, sinks_act}

-- ---- the committed state does not tell what is lowered

-- the same address, turns and number of frames
record AreLike (a b : Machine) : Type 0 where
  at : a.at ≡ b.at
  turns : a.turns ≡ b.turns
  callers : length a.callers ≡ length b.callers

like_descends : (l : ℕ) (a b c d : Machine) → AreLike a c → AreLike b d → Descends l a b → Descends l c d
like_descends l a b c d e f (fewer_turns less frames) = fewer_turns (omega (arith, less, e.turns, f.turns)) (omega (arith, frames, e.callers, f.callers))
like_descends l a b c d e f (fewer_frames same less) = fewer_frames (sym f.turns ∙ same ∙ e.turns) (omega (arith, less, e.callers, f.callers))
like_descends l a b c d e f (nearer_end same frames less) =
    nearer_end (sym f.turns ∙ same ∙ e.turns) (sym f.callers ∙ frames ∙ e.callers)
    (subst (λ n. l - n < l - c.at) f.at (subst (λ n. l - b.at < l - n) e.at less))

like_left : (l : ℕ) (a b : Machine) → AreLike a b → left l a ≡ left l b
like_left l a b e = λ i. e.turns i * (l + l) + e.callers i * l + (l - e.at i)

like_lower : (l : ℕ) (a b c d : Machine) → AreLike a c → AreLike b d → IsLower l a b → IsLower l c d
like_lower l a b c d e f h = record {
  descends = like_descends l a b c d e f h.descends;
  less_left = subst (λ n. n < left l c) (like_left l b d f) (subst (λ n. left l b < n) (like_left l a c e) h.less_left);
}

like_over : (s t : State) (w : Work) → AreLike (machine_at s w) (machine_at t w)
like_over s t w = record {
  at = refl;
  turns = refl;
  callers = length-map w.callers (frame_at s w.layers) ∙ sym (length-map w.callers (frame_at t w.layers));
}

pub left_over : (l : ℕ) (s t : State) (w : Work) → left l (machine_at s w) ≡ left l (machine_at t w)
left_over l s t w = like_left l (machine_at s w) (machine_at t w) (like_over s t w)

lower_over : (l : ℕ) (s t : State) (old new : Work) → IsLower l (machine_at s old) (machine_at t new) → IsLower l (machine_at [] old) (machine_at [] new)
lower_over l s t old new h = like_lower l (machine_at s old) (machine_at t new) (machine_at [] old) (machine_at [] new) (like_over s [] old) (like_over t [] new) h

-- ---- a step

tells_by : (l : ℕ) (s : State) (old new : Work) (told : Told) → Lowers l (machine_at s old) (step_at s told new) → TellsNearer l (machine_at [] old) (machine_at [] new) told
tells_by l s old new Quiet h = lower_over l s s old new h
tells_by l s old new (Out line) h = lower_over l s s old new h
tells_by l s old new (Commit d) h = lower_over l s (apply_of s d) old new h
tells_by l s old new (Ended end) h = tt

tells_nearer : (code : Code) (rels : List RelDecl) (hosts : Hosts) (s : State) (old new : Work) (told : Told) → Forward code →
    step_at s told new ≡ code_step code rels hosts s (machine_at s old) → TellsNearer (length code.instrs) (machine_at [] old) (machine_at [] new) told
tells_nearer code rels hosts s old new told forward e =
    tells_by (length code.instrs) s old new told
    (subst (λ t. Lowers (length code.instrs) (machine_at s old) t) (sym e) (step_lowers code rels hosts forward (slice_get code.instrs (machine_at s old).at) s (machine_at s old) refl))

pub result_nearer : (code : Code) (rels : List RelDecl) (hosts : Hosts) (s : State) (old new : Work) (r : Result Told AllocError) (o : Option Instr) → slice_get code.instrs (machine_at s old).at ≡ o →
    IfOk r (λ told. step_at s told new ≡ act code rels hosts o s (machine_at s old)) → Forward code → IfOk r (TellsNearer (length code.instrs) (machine_at [] old) (machine_at [] new))
result_nearer code rels hosts s old new (Ok told) o e h forward =
    tells_nearer code rels hosts s old new told forward (h ∙ ap (λ i. act code rels hosts i s (machine_at s old)) (sym e))
result_nearer code rels hosts s old new (Err a) o e h forward = tt

pub here_within : (code : Code) (a : ℕ) (i : Instr) → Some i ≡ slice_get code.instrs a → a < length code.instrs
here_within code a i e = slice_get_within code.instrs a i (sym e)

-- the instruction at hand is the one that is executed
pub here_taken : (code : Code) (rels : List RelDecl) (hosts : Hosts) (s : State) (old new : Work) (r : Result Told AllocError) (i : Instr) → Some i ≡ slice_get code.instrs old.at →
    IfOk r (λ told. step_at s told new ≡ act code rels hosts (Some i) s (machine_at s old)) → IfOk r (λ told. step_at s told new ≡ code_step code rels hosts s (machine_at s old))
here_taken code rels hosts s old new r i e h =
    subst (λ o. IfOk r (λ told. step_at s told new ≡ act code rels hosts o s (machine_at s old))) e h

pub here_none : (code : Code) (rels : List RelDecl) (hosts : Hosts) (s : State) (old : Work) → None ≡ slice_get code.instrs old.at → ends stuck ≡ code_step code rels hosts s (machine_at s old)
here_none code rels hosts s old e = ap (λ o. act code rels hosts o s (machine_at s old)) e

-- ---- a delta that is stored

known_by : (f k : Type 0) (rels : List RelDecl) (s : State) (l : ℕ) (t : Told) (old new : Work) → Sinks f k l (machine_at s old) (step_at s t new) → is_delta_of rels (pending_of old.layers) ≡ true → TellsKnown rels t
known_by f k rels s l (Commit d) old new h known = ap (is_delta_of rels) h.0 ∙ known
known_by f k rels s l told old new h known = tt

-- what a step tells is of the machine's relations
pub result_known : (code : Code) (rels : List RelDecl) (hosts : Hosts) (i : Instr) (s : State) (r : Result Told AllocError) (old new : Work) →
    IfOk r (λ t. step_at s t new ≡ act code rels hosts (Some i) s (machine_at s old)) → is_delta_of rels (pending_of old.layers) ≡ true → IfOk r (TellsKnown rels)
result_known code rels hosts i s (Ok t) old new h known =
    let m : Machine = machine_at s old in
    known_by (IsForward (length code.instrs) m i) (KeepsPending i) rels s (length code.instrs) t old new
    (subst (λ x. Sinks (IsForward (length code.instrs) m i) (KeepsPending i) (length code.instrs) m x) (sym h) (sinks_act code rels hosts i s m)) known
result_known code rels hosts i s (Err e) old new h known = tt
