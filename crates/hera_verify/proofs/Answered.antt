-- The least of three looks is the answer.
use Rattle.std.proofs.Common.{◌≡◌, ◌<◌, ◌≤◌, ◌⊎◌, inl, inr, ℕ, Bool, true, false, cond, List, Option, None, Some, length, refl, subst, arith}
use Rattle.std.specs.Prelude.{nat_lt}
use Rattle.std.proofs.lemmas.Bool.{ltb-true, ltb-false}
use Rattle.std.proofs.lemmas.Option.{none-some, same_Some}
use Rattle.hera_meaning.specs.declared.schemas.RelDecl.{RelDecl}
use Rattle.hera_meaning.specs.Hosts.{Hosts}
use Rattle.hera_code.specs.declared.instrs.Code.{Code}
use Rattle.hera_typed.specs.Effects.{Slot_note, Body_note}
use Rattle.hera_typed.specs.Typed.{Points, SlotIsFine, IsFlowTo, IsTypedTo}
use Rattle.hera_verify.specs.Rejected.{IsRejectedAt, Answers}
use Rattle.hera_verify.specs.Looks.{Finds, least, BodiesFineTo, SlotsFineTo, FlowsTo, FindsFlow}

-- ---- the lesser of two looks finds what both ask for

pub both_finds : (X Y : ℕ → Type 0) (a b : Option ℕ) → Finds X a → Finds Y b → Finds (λ n. X n × Y n) (least a b)
both_finds X Y None None h g = λ n. (h n, g n)
both_finds X Y None (Some b) h g = (λ p. g.0 p.1, λ n lt. (h n, g.1 n lt))
both_finds X Y (Some a) None h g = (λ p. h.0 p.0, λ n lt. (h.1 n lt, g n))
both_finds X Y (Some a) (Some b) h g = by (nat_lt b a) refl
  where
    by : (v : Bool) → nat_lt b a ≡ v → Finds (λ n. X n × Y n) (Some (cond v b a))
    by true e =
        let lt : b < a = ltb-true b a e in
        (λ p. g.0 p.1, λ n small. (h.1 n (omega (arith, small, lt)), g.1 n small))
    by false e =
        let le : a ≤ b = ltb-false b a e in
        (λ p. h.0 p.0, λ n small. (h.1 n small, g.1 n (omega (arith, small, le))))

module _ (code : Code) (rels : List RelDecl) (hosts : Hosts) (notes : List Body_note) where
  -- no rule on a slot speaks of points
  slot_again : (P Q : Points) (k i : ℕ) (s : Slot_note) → SlotIsFine code rels hosts notes P k i s → SlotIsFine code rels hosts notes Q k i s
  slot_again P Q k i s h = record { before = h.before; from_is = h.from_is; there = h.there; home_is = h.home_is; home_before = h.home_before; writer = h.writer; writer_is = h.writer_is; writes = h.writes; closed = h.closed }

  abbrev Fine : ℕ → Type 0
  Fine n = BodiesFineTo code rels hosts notes n × SlotsFineTo code rels hosts notes n

  typed_to : (n : ℕ) (P : Points) → 1 ≤ length code.instrs → 1 ≤ length code.bodies → Fine n → IsFlowTo code rels hosts notes P n → IsTypedTo code rels hosts notes P n
  typed_to n P some_instr some_body fine flow = record { some_instr = some_instr; some_body = some_body; bodies = λ k b at le. fine.0 P k b at le; slots = λ k i s at own some le. fine.1 P k i s at own some le; flow = flow }

  fine_of : (n : ℕ) (P : Points) → IsTypedTo code rels hosts notes P n → Fine n
  fine_of n P typed = (λ Q k b at le. typed.bodies k b at le, λ Q k i s at own some le. slot_again P Q k i s (typed.slots k i s at own some le))

  module _ (some_instr : 1 ≤ length code.instrs) (some_body : 1 ≤ length code.bodies) where
    flows_always : (o : Option ℕ) (P : Points) → ((n : ℕ) → IsFlowTo code rels hosts notes P n) → Finds Fine o → Answers code rels hosts notes (least o None)
    flows_always None P flow fine = (P, λ n. typed_to n P some_instr some_body (fine n) (flow n))
    flows_always (Some a) P flow fine = record { breaks = λ Q typed. fine.0 (fine_of a Q typed); met = λ n lt. (P, typed_to n P some_instr some_body (fine.1 n lt) (flow n)) }

    flows_up_to : (o : Option ℕ) (b : ℕ) → Finds (λ n. Fine n × FlowsTo code rels hosts notes n) o → o ≡ Some b → IsRejectedAt code rels hosts notes b
    flows_up_to None b h e = absurd (none-some b e)
    flows_up_to (Some a) b h e = subst (IsRejectedAt code rels hosts notes) (same_Some a b e) (record {
      breaks = λ Q typed. h.0 (fine_of a Q typed, (Q, typed.flow));
      met = λ n lt. let p = h.1 n lt in (p.1.0, typed_to n p.1.0 some_instr some_body p.0 p.1.1);
    })

    flows_to : (o : Option ℕ) (c : ℕ) → Finds Fine o → Finds (FlowsTo code rels hosts notes) (Some c) → Answers code rels hosts notes (least o (Some c))
    flows_to None c fine flow = flows_up_to (Some c) c (both_finds Fine (FlowsTo code rels hosts notes) None (Some c) fine flow) refl
    flows_to (Some a) c fine flow = flows_up_to (Some (cond (nat_lt c a) c a)) (cond (nat_lt c a) c a) (both_finds Fine (FlowsTo code rels hosts notes) (Some a) (Some c) fine flow) refl

    -- the least of the three is the answer
    pub answered : (b s f : Option ℕ) → Finds (BodiesFineTo code rels hosts notes) b → Finds (SlotsFineTo code rels hosts notes) s → FindsFlow code rels hosts notes f → Answers code rels hosts notes (least (least b s) f)
    answered b s None bodies slots flow = flows_always (least b s) flow.0 flow.1 (both_finds (BodiesFineTo code rels hosts notes) (SlotsFineTo code rels hosts notes) b s bodies slots)
    answered b s (Some c) bodies slots flow = flows_to (least b s) c (both_finds (BodiesFineTo code rels hosts notes) (SlotsFineTo code rels hosts notes) b s bodies slots) flow

  -- code without instructions or bodies is rejected at 0
  pub no_code : (length code.instrs ≡ 0) ⊎ (length code.bodies ≡ 0) → IsRejectedAt code rels hosts notes 0
  no_code none = record { breaks = λ P typed. by none typed; met = λ n lt. absurd (omega (arith, lt)) }
    where
      by : {P : Points} → (length code.instrs ≡ 0) ⊎ (length code.bodies ≡ 0) → IsTypedTo code rels hosts notes P 0 → ⊥
      by (inl e) typed = omega (arith, typed.some_instr, e)
      by (inr e) typed = omega (arith, typed.some_body, e)
