-- Looks at slots.
use Rattle.std.proofs.Common.{◌≡◌, ◌<◌, ◌≤◌, ◌⊎◌, inl, inr, ℕ, zero, suc, ◌+◌, Bool, true, false, cond, ◌&&◌, ◌||◌, List, [], ◌∷◌, map, length, Option, None, Some, refl, sym, ap, subst, ◌∙◌, arith}
use Rattle.std.specs.Prelude.{slice_get, nat_lt, nat_le, nat_eq}
use Rattle.std.proofs.lemmas.Bool.{cases_lt, ltb-true, ltb-false, leb-true, leb-false, le-leb, lt-ltb, eqb-true, eq-eqb, or_cases, and_parts, and_from}
use Rattle.std.proofs.lemmas.Option.{none-some, same_Some}
use Rattle.hera_meaning.specs.declared.schemas.RelDecl.{RelDecl}
use Rattle.hera_meaning.specs.Hosts.{Hosts}
use Rattle.hera_code.specs.declared.instrs.Instr.{Instr}
use Rattle.hera_code.specs.declared.instrs.Instr.TheVariants as instrs
use Rattle.hera_code.specs.declared.instrs.BodyInfo.{BodyInfo}
use Rattle.hera_code.specs.declared.instrs.Code.{Code}
use Rattle.hera_typed.specs.declared.notes.BodyNote.{BodyNote}
use Rattle.hera_typed.specs.Notes.{slot_note, body_note}
use Rattle.hera_typed.specs.Effects.{Slot_note, Body_note, slot, params, params_in}
use Rattle.hera_typed.specs.Typed.{Points, Names, SlotIsFine}
use Rattle.hera_verify.specs.declared.spans.Span.{Span}
use Rattle.hera_verify.specs.Looks.{Finds, least, SlotsFineTo}
use Rattle.hera_verify.specs.Spans.{named, Names_in, IsSpan, IsFar}
use Rattle.hera_verify.specs.Slots.{IsClosed, IsSlotFine, is_inside, is_before, lesser, size, is_of_width, NoteFineTo, FirstSlotsFineTo, BodySlotsFineTo, FirstBodiesFineTo, WidthFineTo, NarrowFineTo}
use Rattle.hera_verify.proofs.Answered.{both_finds}
use Rattle.hera_verify.proofs.Body_looks.{finds_map}
use Rattle.hera_verify.proofs.Spanning.{there}

-- ---- the address that an instruction names

pub names_named : (j : Instr) (b : ℕ) → Names j b → named j ≡ Some b
names_named (instrs.Jump c) b h = ap (λ n. Some n) h
names_named (instrs.Unless c) b h = ap (λ n. Some n) h
names_named (instrs.Back c) b h = ap (λ n. Some n) h
names_named (instrs.Next i c) b h = ap (λ n. Some n) h
names_named (instrs.Push c) b h = absurd h
names_named (instrs.Load i) b h = absurd h
names_named (instrs.Store i) b h = absurd h
names_named (instrs.Rel r) b h = absurd h
names_named (instrs.Prim op at) b h = absurd h
names_named (instrs.Host c) b h = absurd h
names_named (instrs.Enter at) b h = absurd h
names_named instrs.Leave b h = absurd h
names_named instrs.Walk b h = absurd h
names_named instrs.Keep b h = absurd h
names_named instrs.Gather b h = absurd h
names_named instrs.Yield b h = absurd h
names_named instrs.Drop b h = absurd h
names_named (instrs.Call c) b h = absurd h
names_named instrs.Ret b h = absurd h
names_named instrs.RetVal b h = absurd h
names_named (instrs.Print s) b h = absurd h
names_named (instrs.Apply at) b h = absurd h
names_named instrs.Commit b h = absurd h
names_named instrs.Rollback b h = absurd h
names_named (instrs.Assert at) b h = absurd h
names_named instrs.Halt b h = absurd h

pub named_names : (j : Instr) (b : ℕ) → named j ≡ Some b → Names j b
named_names (instrs.Jump c) b h = same_Some c b h
named_names (instrs.Unless c) b h = same_Some c b h
named_names (instrs.Back c) b h = same_Some c b h
named_names (instrs.Next i c) b h = same_Some c b h
named_names (instrs.Push c) b h = absurd (none-some b h)
named_names (instrs.Load i) b h = absurd (none-some b h)
named_names (instrs.Store i) b h = absurd (none-some b h)
named_names (instrs.Rel r) b h = absurd (none-some b h)
named_names (instrs.Prim op at) b h = absurd (none-some b h)
named_names (instrs.Host c) b h = absurd (none-some b h)
named_names (instrs.Enter at) b h = absurd (none-some b h)
named_names instrs.Leave b h = absurd (none-some b h)
named_names instrs.Walk b h = absurd (none-some b h)
named_names instrs.Keep b h = absurd (none-some b h)
named_names instrs.Gather b h = absurd (none-some b h)
named_names instrs.Yield b h = absurd (none-some b h)
named_names instrs.Drop b h = absurd (none-some b h)
named_names (instrs.Call c) b h = absurd (none-some b h)
named_names instrs.Ret b h = absurd (none-some b h)
named_names instrs.RetVal b h = absurd (none-some b h)
named_names (instrs.Print s) b h = absurd (none-some b h)
named_names (instrs.Apply at) b h = absurd (none-some b h)
named_names instrs.Commit b h = absurd (none-some b h)
named_names instrs.Rollback b h = absurd (none-some b h)
named_names (instrs.Assert at) b h = absurd (none-some b h)
named_names instrs.Halt b h = absurd (none-some b h)

-- ---- closed ranges

lesser_is : (x y : ℕ) → (lesser x y ≤ x) × (lesser x y ≤ y) × ((lesser x y ≡ x) ⊎ (lesser x y ≡ y))
lesser_is x y = by (nat_lt y x) refl
  where
    by : (v : Bool) → nat_lt y x ≡ v → (cond v y x ≤ x) × (cond v y x ≤ y) × ((cond v y x ≡ x) ⊎ (cond v y x ≡ y))
    by true v = let lt : y < x = ltb-true y x v in (omega (arith, lt), omega arith, inr refl)
    by false v = let le : x ≤ y = ltb-false y x v in (omega arith, le, inl refl)

pub lesser_past : (x y b : ℕ) → b < x → b < y → b < lesser x y
lesser_past x y b h g = elim (lesser_is x y).2 [
  | inl e ↦ omega (arith, e, h)
  | inr e ↦ omega (arith, e, g)
]

inside_to : (s : Span) (from to : ℕ) → is_inside (Some s) from to ≡ true → (from ≤ s.least) × (s.greatest < to)
inside_to s from to h =
    let both = and_parts (nat_le from s.least) (nat_lt s.greatest to) h in
    (leb-true from s.least both.0, ltb-true s.greatest to both.1)

inside_from : (s : Span) (from to : ℕ) → from ≤ s.least → s.greatest < to → is_inside (Some s) from to ≡ true
inside_from s from to h g = and_from (nat_le from s.least) (nat_lt s.greatest to) (le-leb from s.least h) (lt-ltb s.greatest to g)

module _ (code : Code) (from to : ℕ) (in' : from < length code.instrs) (some : from < to) where
  near : (o : Option Span) → IsSpan code.instrs (length code.instrs) from (lesser to (length code.instrs)) o → is_inside o from to ≡ true
      → (a b : ℕ) (j : Instr) → slice_get code.instrs a ≡ Some j → Names j b → from ≤ b → b < to → b < length code.instrs → (from ≤ a) × (a < to)
  near o h e a b j get names le lt short = by o h e
    where
      its : Names_in code.instrs (length code.instrs) from (lesser to (length code.instrs)) a
      its = record { instr = j; to = b; here = get; names = names_named j b names; below = there code.instrs a j get; from = le; upto = lesser_past to (length code.instrs) b lt short }

      by : (o : Option Span) → IsSpan code.instrs (length code.instrs) from (lesser to (length code.instrs)) o → is_inside o from to ≡ true → (from ≤ a) × (a < to)
      by None h e = absurd (h a its)
      by (Some s) h e =
          let both = inside_to s from to e in
          let low = both.0 in
          let high = both.1 in
          let within = h.2 a its in
          let least = within.0 in
          let greatest = within.1 in
          (omega (arith, low, least), omega (arith, high, greatest))

  beyond : (o : Option ℕ) → IsFar code.instrs from o → is_before o to ≡ true
      → (a b : ℕ) (j : Instr) → slice_get code.instrs a ≡ Some j → Names j b → b < to → length code.instrs ≤ b → (from ≤ a) × (a < to)
  beyond o h e a b j get names lt long = (below (cases_lt a from), let less = there code.instrs a j get in omega (arith, less, long, lt))
    where
      against : (o : Option ℕ) → IsFar code.instrs from o → is_before o to ≡ true → a < from → ⊥
      against None h e less = let near' = h a b j get (names_named j b names) less in omega (arith, near', long)
      against (Some f) h e less =
          let least = h.2 a b j get (names_named j b names) less long in
          let over : to ≤ f = leb-true to f e in
          omega (arith, least, over, lt)

      below : (a < from) ⊎ (from ≤ a) → from ≤ a
      below (inl less) = absurd (against o h e less)
      below (inr le) = le

  pub closed_to : (span : Option Span) (far : Option ℕ) → IsSpan code.instrs (length code.instrs) from (lesser to (length code.instrs)) span → IsFar code.instrs from far → is_inside span from to && is_before far to ≡ true → IsClosed code from to
  closed_to span far spans fars e a b j get names le lt = elim (cases_lt b (length code.instrs)) [
    | inl short ↦ near span spans (and_parts (is_inside span from to) (is_before far to) e).0 a b j get names le lt short
    | inr long ↦ beyond far fars (and_parts (is_inside span from to) (is_before far to) e).1 a b j get names lt long
  ]

  pub closed_inside : (o : Option Span) → IsSpan code.instrs (length code.instrs) from (lesser to (length code.instrs)) o → IsClosed code from to → is_inside o from to ≡ true
  closed_inside None h closed = refl
  closed_inside (Some s) h closed =
      let short = (lesser_is to (length code.instrs)).0 in
      let least = h.0 in
      let greatest = h.1 in
      let low = (closed s.least least.to least.instr least.here (named_names least.instr least.to least.names) least.from (let lt = least.upto in omega (arith, lt, short))).0 in
      let high = (closed s.greatest greatest.to greatest.instr greatest.here (named_names greatest.instr greatest.to greatest.names) greatest.from (let lt = greatest.upto in omega (arith, lt, short))).1 in
      inside_from s from to low high

  closed_before : (o : Option ℕ) → IsFar code.instrs from o → IsClosed code from to → is_before o to ≡ true
  closed_before None h closed = refl
  closed_before (Some f) h closed = by (nat_le to f) refl
    where
      by : (v : Bool) → nat_le to f ≡ v → v ≡ true
      by true v = refl
      by false v =
          let lt : f < to = leb-false to f v in
          let long = h.0 in
          let it = h.1 in
          let less = it.4 in
          let le = (closed it.0 f it.1 it.2 (named_names it.1 f it.3) (omega (arith, long, in')) lt).0 in
          absurd (omega (arith, le, less))

  pub closed_from : (span : Option Span) (far : Option ℕ) → IsSpan code.instrs (length code.instrs) from (lesser to (length code.instrs)) span → IsFar code.instrs from far → IsClosed code from to → is_inside span from to && is_before far to ≡ true
  closed_from span far spans fars closed = and_from (is_inside span from to) (is_before far to) (closed_inside span spans closed) (closed_before far fars closed)

-- ---- sizes

pub width_parts : (n width : ℕ) → is_of_width n width ≡ true → (n < width + width) × ((width ≡ 1) ⊎ (width ≤ n))
width_parts n width h =
    let both = and_parts (nat_lt n (width + width)) (nat_eq width 1 || nat_le width n) h in (
      ltb-true n (width + width) both.0,
      elim (or_cases (nat_eq width 1) (nat_le width n) both.1) [
        | inl e ↦ inl (eqb-true width 1 e)
        | inr e ↦ inr (leb-true width n e)
      ],
    )

or_right : (x y : Bool) → y ≡ true → (x || y) ≡ true
or_right true y h = refl
or_right false y h = h

pub width_whole : (n width : ℕ) → n < width + width → (width ≡ 1) ⊎ (width ≤ n) → is_of_width n width ≡ true
width_whole n width h (inl e) = and_from (nat_lt n (width + width)) (nat_eq width 1 || nat_le width n) (lt-ltb n (width + width) h) (ap (λ v. v || nat_le width n) (eq-eqb width 1 e))
width_whole n width h (inr le) = and_from (nat_lt n (width + width)) (nat_eq width 1 || nat_le width n) (lt-ltb n (width + width) h) (or_right (nat_eq width 1) (nat_le width n) (le-leb width n le))

-- a range of the width is covered by two spans of it
pub covered : (code : Code) (s : Slot_note) (width : ℕ) → s.from < s.to → s.from < length code.instrs → is_of_width (size code s) width ≡ true
    → (s.from + width ≤ lesser s.to (length code.instrs)) × (lesser s.to (length code.instrs) ≤ s.from + width + width)
covered code s width some there' h =
    let parts = width_parts (size code s) width h in
    let small = parts.0 in
    let long = lesser_past s.to (length code.instrs) s.from some there' in (
      elim parts.1 [
        | inl e ↦ omega (arith, e, long)
        | inr le ↦ omega (arith, le, long)
      ],
      omega (arith, small, long),
    )

-- ---- the slots of a body

pub slots_on : (code : Code) (width k first i : ℕ) (slots : List Slot_note) (s : Slot_note) (found one : Option ℕ) → first ≤ i → slice_get slots i ≡ Some s
    → Finds (FirstSlotsFineTo code width k first slots i) found → Finds (NoteFineTo code width k i s) one → Finds (FirstSlotsFineTo code width k first slots (i + 1)) (least found one)
slots_on code width k first i slots s found one le at h g = finds_map (λ n. FirstSlotsFineTo code width k first slots i n × NoteFineTo code width k i s n) (FirstSlotsFineTo code width k first slots (i + 1)) (least found one) joined parted (both_finds (FirstSlotsFineTo code width k first slots i) (NoteFineTo code width k i s) found one h g)
  where
    own : (n j : ℕ) (t : Slot_note) → i ≡ j → slice_get slots j ≡ Some t → NoteFineTo code width k i s n → NoteFineTo code width k j t n
    own n j t same get f = subst (λ (m : ℕ). NoteFineTo code width k m t n) same (subst (λ (x : Slot_note). NoteFineTo code width k i x n) (same_Some s t (sym at ∙ ap (slice_get slots) same ∙ get)) f)

    joined : (n : ℕ) → FirstSlotsFineTo code width k first slots i n × NoteFineTo code width k i s n → FirstSlotsFineTo code width k first slots (i + 1) n
    joined n p j t lt get low = elim (cases_lt j i) [
      | inl below ↦ p.0 j t below get low
      | inr above ↦ own n j t (omega (arith, above, lt)) get p.1
    ]

    parted : (n : ℕ) → FirstSlotsFineTo code width k first slots (i + 1) n → FirstSlotsFineTo code width k first slots i n × NoteFineTo code width k i s n
    parted n f = (λ j t lt get low. f j t (omega (arith, lt)) get low, f i s (omega arith) at le)

pub slots_end : (code : Code) (width k first i : ℕ) (slots : List Slot_note) (found : Option ℕ) → length slots ≤ i → first ≤ i
    → Finds (FirstSlotsFineTo code width k first slots i) found → Finds (FirstSlotsFineTo code width k first slots (length slots)) found
slots_end code width k first i slots found end le h = finds_map (FirstSlotsFineTo code width k first slots i) (FirstSlotsFineTo code width k first slots (length slots)) found
    (λ n f j t lt get low. f j t (omega (arith, lt, end)) get low)
    (λ n f j t lt get low. f j t (there slots j t get) get low) h

-- ---- all slots of a body

slot_in : (notes : List BodyNote) (k i : ℕ) (n : BodyNote) → slice_get notes k ≡ Some n → slot (map body_note notes) k i ≡ slice_get (map slot_note n.slots.items) i
slot_in [] k i n h = absurd (none-some n h)
slot_in (m ∷ notes) zero i n h = ap (λ (x : BodyNote). slice_get (map slot_note x.slots.items) i) (same_Some m n h)
slot_in (m ∷ notes) (suc k) i n h = slot_in notes k i n h

no_slot : (notes : List BodyNote) (k i : ℕ) → slice_get notes k ≡ None → slot (map body_note notes) k i ≡ None
no_slot [] k i h = refl
no_slot (m ∷ notes) zero i h = absurd (none-some m (sym h))
no_slot (m ∷ notes) (suc k) i h = no_slot notes k i h

no_slot_past : (notes : List BodyNote) (k i : ℕ) → length notes ≤ k → slot (map body_note notes) k i ≡ None
no_slot_past [] k i h = refl
no_slot_past (m ∷ notes) zero i h = absurd (omega (arith, h))
no_slot_past (m ∷ notes) (suc k) i h = no_slot_past notes k i (omega (arith, h))

pub body_slots : (code : Code) (notes : List BodyNote) (width k : ℕ) (b : BodyInfo) (n : BodyNote) (found : Option ℕ) → slice_get code.bodies k ≡ Some b → slice_get notes k ≡ Some n
    → Finds (FirstSlotsFineTo code width k b.params (map slot_note n.slots.items) (length (map slot_note n.slots.items))) found → Finds (BodySlotsFineTo code (map body_note notes) width k) found
body_slots code notes width k b n found at noted h = finds_map (FirstSlotsFineTo code width k b.params (map slot_note n.slots.items) (length (map slot_note n.slots.items))) (BodySlotsFineTo code (map body_note notes) width k) found
    (λ m f i s get low. let own = sym (slot_in notes k i n noted) ∙ get in f i s (there (map slot_note n.slots.items) i s own) own (subst (λ x. x ≤ i) few low))
    (λ m f i s lt get low. f i s (slot_in notes k i n noted ∙ get) (subst (λ x. x ≤ i) (sym few) low)) h
  where
    few : params code k ≡ b.params
    few = ap params_in at

pub no_body_slots : (code : Code) (notes : List BodyNote) (width k : ℕ) → slice_get notes k ≡ None → Finds (BodySlotsFineTo code (map body_note notes) width k) None
no_body_slots code notes width k none n i s get low = absurd (none-some s (sym (no_slot notes k i none) ∙ get))

-- ---- all bodies

pub bodies_on : (code : Code) (notes : List Body_note) (width k : ℕ) (found one : Option ℕ) → Finds (FirstBodiesFineTo code notes width k) found → Finds (BodySlotsFineTo code notes width k) one → Finds (FirstBodiesFineTo code notes width (k + 1)) (least found one)
bodies_on code notes width k found one h g = finds_map (λ n. FirstBodiesFineTo code notes width k n × BodySlotsFineTo code notes width k n) (FirstBodiesFineTo code notes width (k + 1)) (least found one) joined parted (both_finds (FirstBodiesFineTo code notes width k) (BodySlotsFineTo code notes width k) found one h g)
  where
    joined : (n : ℕ) → FirstBodiesFineTo code notes width k n × BodySlotsFineTo code notes width k n → FirstBodiesFineTo code notes width (k + 1) n
    joined n p j lt = elim (cases_lt j k) [
      | inl below ↦ p.0 j below
      | inr above ↦ let same : k ≡ j = omega (arith, above, lt) in subst (λ (m : ℕ). BodySlotsFineTo code notes width m n) same p.1
    ]

    parted : (n : ℕ) → FirstBodiesFineTo code notes width (k + 1) n → FirstBodiesFineTo code notes width k n × BodySlotsFineTo code notes width k n
    parted n f = (λ j lt. f j (omega (arith, lt)), f k (omega arith))

pub bodies_end : (code : Code) (notes : List BodyNote) (width k : ℕ) (found : Option ℕ) → length code.bodies ≤ k → length notes ≤ length code.bodies
    → Finds (FirstBodiesFineTo code (map body_note notes) width k) found → Finds (WidthFineTo code (map body_note notes) width) found
bodies_end code notes width k found end few h = finds_map (FirstBodiesFineTo code (map body_note notes) width k) (WidthFineTo code (map body_note notes) width) found
    (λ n f j i s get low. elim (cases_lt j k) [
      | inl below ↦ f j below i s get low
      | inr past ↦ absurd (none-some s (sym (no_slot_past notes j i (omega (arith, past, end, few))) ∙ get))
    ])
    (λ n f j lt. f j) h

-- ---- all widths

pub narrow_on : (code : Code) (notes : List Body_note) (width : ℕ) (found one : Option ℕ) → 1 ≤ width → Finds (NarrowFineTo code notes width) found → Finds (WidthFineTo code notes width) one → Finds (NarrowFineTo code notes (width + width)) (least found one)
narrow_on code notes width found one some h g = finds_map (λ n. NarrowFineTo code notes width n × WidthFineTo code notes width n) (NarrowFineTo code notes (width + width)) (least found one) joined parted (both_finds (NarrowFineTo code notes width) (WidthFineTo code notes width) found one h g)
  where
    joined : (n : ℕ) → NarrowFineTo code notes width n × WidthFineTo code notes width n → NarrowFineTo code notes (width + width) n
    joined n p k i s get low some' wide small le = elim (cases_lt 1 width) [
      | inl more ↦ elim (cases_lt (size code s) width) [
        | inl less ↦ p.0 k i s get low some' more less le
        | inr past ↦ p.1 k i s get low some' (width_whole (size code s) width small (inr past)) le
      ]
      | inr one' ↦ p.1 k i s get low some' (width_whole (size code s) width small (inl (omega (arith, one', some)))) le
    ]

    parted : (n : ℕ) → NarrowFineTo code notes (width + width) n → NarrowFineTo code notes width n × WidthFineTo code notes width n
    parted n f = (
      λ k i s get low some' wide small le. f k i s get low some' (omega (arith, wide)) (omega (arith, small)) le,
      λ k i s get low some' wide le. let parts = width_parts (size code s) width wide in let small = parts.0 in f k i s get low some' (omega (arith, some)) small le,
    )

module _ (code : Code) (rels : List RelDecl) (hosts : Hosts) (notes : List Body_note) where
  fine_to : (P : Points) (k i : ℕ) (s : Slot_note) → IsSlotFine code k i s → SlotIsFine code rels hosts notes P k i s
  fine_to P k i s h =
      let before = h.in_body in
      let writer = h.written in
      let same : before.0 ≡ writer.0 = omega (arith, before.1, writer.1) in
      record {
        before = before.0;
        from_is = before.1;
        there = h.there;
        home_is = before.3;
        home_before = before.2;
        writer = writer.2;
        writer_is = ap (slice_get code.instrs) same ∙ writer.3;
        writes = writer.4;
        closed = h.closed;
      }

  fine_from : (P : Points) (k i : ℕ) (s : Slot_note) → SlotIsFine code rels hosts notes P k i s → IsSlotFine code k i s
  fine_from P k i s h = record { there = h.there; in_body = (h.before, h.from_is, h.home_before, h.home_is); written = (h.before, h.from_is, h.writer, h.writer_is, h.writes); closed = h.closed }

  nowhere : Points
  nowhere n = None

  pub narrow_ends : (width : ℕ) (found : Option ℕ) → 1 < width → length code.instrs < width → Finds (NarrowFineTo code notes width) found → Finds (SlotsFineTo code rels hosts notes) found
  narrow_ends width found more long h = finds_map (NarrowFineTo code notes width) (SlotsFineTo code rels hosts notes) found
      (λ n f P k i s get low some le. fine_to P k i s (f k i s get low some more (short s) le))
      (λ n f k i s get low some wide small le. fine_from nowhere k i s (f nowhere k i s get low some le)) h
    where
      short : (s : Slot_note) → size code s < width
      short s = let few = (lesser_is s.to (length code.instrs)).1 in omega (arith, few, long)
