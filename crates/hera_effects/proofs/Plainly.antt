-- What plain instructions do is their effect.
use Rattle.std.proofs.Common.{◌≡◌, ℕ, ◌+◌, Bool, true, false, not, ◌&&◌, List, [], ◌∷◌, length, Option, None, Some, is_some, refl, sym, subst}
use Rattle.std.specs.Prelude.{nat_lt, nat_eq, Result, IfOk}
use Rattle.std.proofs.lemmas.Bool.{both_ways}
use Rattle.hera_meaning.specs.declared.schemas.RelDecl.{RelDecl}
use Rattle.hera_meaning.specs.declared.hosts.HostSpec.{HostSpec}
use Rattle.hera_meaning.specs.Deltas.{schema_of}
use Rattle.hera_meaning.specs.Hosts.{Hosts, host_at, host_takes, host_gives}
use Rattle.hera_meaning.specs.Forms.{Form, of_scalar, of_table, of_delta, kinds_of, form_of, bool_form}
use Rattle.hera_meaning.specs.Sound.{const_form, is_const}
use Rattle.hera_code.specs.declared.instrs.Instr.{Instr}
use Rattle.hera_code.specs.declared.instrs.Instr.TheVariants as instrs
use Rattle.hera_code.specs.declared.instrs.Code.{Code}
use Rattle.hera_typed.specs.Points.{Seen, Point, with, when, first, agrees}
use Rattle.hera_typed.specs.Effects.{Body_note, Slot_note, Goal, with_operands, pushed_result, takes_one, goes, slot, result, is_set_at, effect}
use Rattle.hera_effects.specs.declared.plain.Plain.{Plain}
use Rattle.hera_stacks.specs.declared.stacks.Node.{Node}
use Rattle.hera_effects.specs.declared.spots.Ways.{Ways}
use Rattle.hera_effects.specs.Ways.{Both, AreWays, all_to}
use Rattle.hera_effects.specs.Plain.{Plain_effect, IsPlain, takes_on, gives_on, goes_on, taken, moved, plain, is_plain}

when_with : {A B : Type 0} (b : Bool) (x : A) (go : A → Option B) → when b (go x) ≡ with (when b (Some x)) go
when_with true x go = refl
when_with false x go = refl

-- an operand taken
takes_with : (f : Form) (ways : List ℕ) (given : Option Form) (p : Point) (ss : List Seen)
    → first ss (λ s rest. when (agrees s f) (Some (all_to ways (Some (with_operands (pushed_result given rest) p))))) ≡ with (taken (Some f) ss) (λ rest. Some (all_to ways (Some (with_operands (pushed_result given rest) p))))
takes_with f ways given p [] = refl
takes_with f ways given p (s ∷ ss) = when_with (agrees s f) ss (λ rest. Some (all_to ways (Some (with_operands (pushed_result given rest) p))))

module _ (code : Code) (rels : List RelDecl) (hosts : Hosts) (notes : List Body_note) where
  loads : (k a i : ℕ) (p : Point) (o : Option Slot_note)
      → with o (λ n. when (is_set_at code k i a n) (goes (a + 1) (with_operands (pushed_result (Some n.form) p.operands) p))) ≡ with (with o (λ n. when (is_set_at code k i a n) (Some (gives_on n.form (a + 1))))) (moved p)
  loads k a i p None = refl
  loads k a i p (Some n) = when_with (is_set_at code k i a n) (gives_on n.form (a + 1)) (moved p)

  stores : (a : ℕ) (p : Point) (o : Option Slot_note)
      → with o (λ n. takes_one n.form p (λ ss. goes (a + 1) (with_operands ss p))) ≡ with (with o (λ n. Some (takes_on n.form (a + 1)))) (moved p)
  stores a p None = refl
  stores a p (Some n) = takes_with n.form ((a + 1) ∷ []) None p p.operands

  asks : (a : ℕ) (p : Point) (o : Option HostSpec)
      → with o (λ spec. takes_one (of_scalar (host_takes spec)) p (λ ss. goes (a + 1) (with_operands (pushed_result (Some (of_scalar (host_gives spec))) ss) p)))
      ≡ with (with o (λ spec. Some (record { takes = Some (of_scalar (host_takes spec)); gives = Some (of_scalar (host_gives spec)); ways = (a + 1) ∷ [] }))) (moved p)
  asks a p None = refl
  asks a p (Some spec) = takes_with (of_scalar (host_takes spec)) ((a + 1) ∷ []) (Some (of_scalar (host_gives spec))) p p.operands

  returns : (p : Point) (o : Option Form) → with o (λ f. takes_one f p (λ ss. Some [])) ≡ with (with o (λ f. Some (record { takes = Some f; gives = None; ways = [] }))) (moved p)
  returns p None = refl
  returns p (Some f) = takes_with f [] None p p.operands

  pub plain_is : (k a : ℕ) (i : Instr) (p : Point) → is_plain i ≡ true → effect code rels hosts notes k a i p ≡ with (plain code rels hosts notes k a i) (moved p)
  plain_is k a (instrs.Push c) p h = when_with (is_const c) (gives_on (const_form c) (a + 1)) (moved p)
  plain_is k a (instrs.Load i) p h = loads k a i p (slot notes k i)
  plain_is k a (instrs.Store i) p h = stores a p (slot notes k i)
  plain_is k a (instrs.Rel r) p h = when_with (nat_lt r.0 (length rels)) (gives_on (of_table (kinds_of (schema_of rels r.0))) (a + 1)) (moved p)
  plain_is k a (instrs.Prim op at) p h = absurd (both_ways false refl h)
  plain_is k a (instrs.Host n) p h = asks a p (host_at hosts n)
  plain_is k a (instrs.Jump b) p h = refl
  plain_is k a (instrs.Unless b) p h = takes_with bool_form ((a + 1) ∷ b ∷ []) None p p.operands
  plain_is k a (instrs.Back b) p h = refl
  plain_is k a (instrs.Enter at) p h = absurd (both_ways false refl h)
  plain_is k a instrs.Leave p h = absurd (both_ways false refl h)
  plain_is k a instrs.Walk p h = absurd (both_ways false refl h)
  plain_is k a (instrs.Next i b) p h = absurd (both_ways false refl h)
  plain_is k a instrs.Keep p h = absurd (both_ways false refl h)
  plain_is k a instrs.Gather p h = absurd (both_ways false refl h)
  plain_is k a instrs.Yield p h = absurd (both_ways false refl h)
  plain_is k a instrs.Drop p h = absurd (both_ways false refl h)
  plain_is k a (instrs.Call j) p h = absurd (both_ways false refl h)
  plain_is k a instrs.Ret p h = when_with (nat_lt 0 k && not (is_some (result notes k))) (goes_on []) (moved p)
  plain_is k a instrs.RetVal p h = returns p (result notes k)
  plain_is k a (instrs.Print shape) p h = takes_with (form_of shape) ((a + 1) ∷ []) None p p.operands
  plain_is k a (instrs.Apply at) p h = takes_with of_delta ((a + 1) ∷ []) None p p.operands
  plain_is k a instrs.Commit p h = refl
  plain_is k a instrs.Rollback p h = refl
  plain_is k a (instrs.Assert at) p h = takes_with bool_form ((a + 1) ∷ []) None p p.operands
  plain_is k a instrs.Halt p h = when_with (nat_eq k 0) (goes_on []) (moved p)

-- by what it takes and gives
pub plainly_so : {E : Type 0} (r : Result (Option Ways) E) (nodes : List Node) (pl : Plain) (o : Option Plain_effect) (x : Option (List Goal)) (p : Point) → x ≡ with o (moved p) → Both IsPlain (Some pl) o
    → ((e : Plain_effect) → IsPlain pl e → IfOk r (λ w. Both (AreWays nodes) w (moved p e))) → IfOk r (λ w. Both (AreWays nodes) w x)
plainly_so r nodes pl None x p e h go = absurd h
plainly_so r nodes pl (Some own) x p e h go = subst (λ y. IfOk r (λ w. Both (AreWays nodes) w y)) (sym e) (go own h)
