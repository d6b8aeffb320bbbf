-- What was read of a journal is spelled as it is printed, and its records are valid.
use Rattle.std.proofs.Common.{◌≡◌, ◌≢◌, ◌≤◌, ◌<◌, ℕ, zero, suc, ◌+◌, ◌-◌, Bool, true, false, cond, List, [], ◌∷◌, ◌++◌, length, take, drop, map, Option, Some, None, refl, sym, ap, subst, ◌∙◌, append_assoc, arith}
use Rattle.std.specs.Prelude.{◌==◌, ◌&&◌, nat_le, nat_lt, All}
use Rattle.std.specs.List.{flat_map}
use Rattle.std.specs.Option.{option_and_then}
use Rattle.std.specs.Int.{w16, w32, to_be_bytes, from_be_bytes}
use Rattle.std.proofs.Math.Seq.{take-add}
use Rattle.std.proofs.lemmas.Bool.{eqb-true, eqb-false, leb-true, ltb-true, and_parts}
use Rattle.std.proofs.lemmas.Option.{none-some, same_Some, cond_some}
use Rattle.std.proofs.lemmas.List.{length-append, length-take, append-nil, take-append-drop}
use Rattle.std.proofs.lemmas.List.Elements.{All-push}
use Rattle.std.proofs.lemmas.Nat.{be_bytes_2, be_bytes_4}
use Rattle.hera_sets.specs.Rows.{Row, IsAscending}
use Rattle.hera_meaning.specs.declared.scalars.Sign.{Sign}
use Rattle.hera_meaning.specs.declared.scalars.Sign.TheVariants.{Plus, Minus}
use Rattle.hera_meaning.specs.declared.schemas.Attr.{Attr}
use Rattle.hera_meaning.specs.declared.schemas.RelDecl.{RelDecl}
use Rattle.hera_meaning.specs.Rows.{IsRow}
use Rattle.hera_meaning.specs.Deltas.{Atom, Delta, atoms, keys_of, schema_of, IsAtomOf}
use Rattle.hera_row.specs.Reading.{row_len_of}
use Rattle.hera_row.proofs.RowLemmas.{row_len_some}
use Rattle.hera_row.proofs.FieldLemmas.{AreBytes, AreBytes-take, AreBytes-drop}
use Rattle.rel_format.specs.Fields.{number, first_byte, first_row}
use Rattle.rel_format.specs.Journal.{sign_byte, atom_bytes, sealed, IsRecordOf}
use Rattle.rel_format.proofs.Walks.{kept_by}
use Rattle.rel_format.proofs.Printed.{kept_is, one_more}
use Rattle.commit_journal.specs.Table.{JournalStand, Opened, at_gate, at_atom_count, at_sign, at_rel, at_row, at_end, behind_gate, behind_atom, opened, with_atom, atom_read, last_atom, sign_of, sign_field, follows, rel_field, row_keeps, row_field, field, long_field, next}
use Rattle.commit_journal.specs.Places.{Reaches, IsJournal}
use Rattle.commit_journal.proofs.Steps.{past_atom, ascending_behind}

-- ---- single fields

record FieldIs (A : Type 0) (n : ℕ) (behind : A → JournalStand) (o : Option A) (m : ℕ) (t : JournalStand) : Type 0 where
  value : A
  is : o ≡ Some value
  size : n ≡ m
  next : behind value ≡ t

abbrev pair : ℕ → JournalStand → ℕ × JournalStand
pair n t = (n, t)

field_is : {A : Type 0} (n : ℕ) (behind : A → JournalStand) (o : Option A) (m : ℕ) (t : JournalStand) → field n behind o ≡ Some (m, t) → FieldIs A n behind o m t
field_is n behind None m t e = absurd (none-some (m, t) e)
field_is n behind (Some x) m t e =
    let same = same_Some (pair n (behind x)) (pair m t) e in
    record { value = x; is = refl; size = ap (λ (z : ℕ × JournalStand). z.0) same; next = ap (λ (z : ℕ × JournalStand). z.1) same }

record LongIs (behind : List ℕ → JournalStand) (o : Option (List ℕ)) (m : ℕ) (t : JournalStand) : Type 0 where
  value : List ℕ
  is : o ≡ Some value
  size : length value ≡ m
  next : behind value ≡ t

long_is : (behind : List ℕ → JournalStand) (o : Option (List ℕ)) (m : ℕ) (t : JournalStand) → long_field behind o ≡ Some (m, t) → LongIs behind o m t
long_is behind None m t e = absurd (none-some (m, t) e)
long_is behind (Some x) m t e =
    let same = same_Some (pair (length x) (behind x)) (pair m t) e in
    record { value = x; is = refl; size = ap (λ (z : ℕ × JournalStand). z.0) same; next = ap (λ (z : ℕ × JournalStand). z.1) same }

byte_is : (rest : List ℕ) (b : ℕ) → first_byte rest ≡ Some b → take 1 rest ≡ b ∷ []
byte_is [] b e = absurd (none-some b e)
byte_is (c ∷ rest) b e = ap (λ x. x ∷ []) (same_Some c b e)

sign_back : (n : ℕ) (s : Sign) → sign_of n ≡ Some s → n ≡ sign_byte s
sign_back n s e = by (n == 1) (n == 2) refl refl e
  where
    by : (a b : Bool) → (n == 1) ≡ a → (n == 2) ≡ b → cond a (Some Plus) (cond b (Some Minus) None) ≡ Some s → n ≡ sign_byte s
    by true b p q h = eqb-true n 1 p ∙ ap sign_byte (same_Some Plus s h)
    by false true p q h = eqb-true n 2 q ∙ ap sign_byte (same_Some Minus s h)
    by false false p q h = absurd (none-some s h)

sign_is : (rest : List ℕ) (s : Sign) → sign_field rest ≡ Some s → take 1 rest ≡ sign_byte s ∷ []
sign_is [] s e = absurd (none-some s e)
sign_is (b ∷ rest) s e = ap (λ x. x ∷ []) (sign_back b s e)

number16 : (rest : List ℕ) (n : ℕ) → AreBytes rest → number w16 rest ≡ Some n → to_be_bytes w16 n ≡ take 2 rest
number16 rest n bytes e =
    let both = cond_some (nat_le 2 (length rest)) (from_be_bytes w16 (take 2 rest)) n e in
    let within = leb-true 2 (length rest) both.0 in
    be_bytes_2 (take 2 rest) n (omega (arith, length-take 2 rest, within)) (AreBytes-take 2 rest bytes) (sym both.1)

number32 : (rest : List ℕ) (n : ℕ) → AreBytes rest → number w32 rest ≡ Some n → to_be_bytes w32 n ≡ take 4 rest
number32 rest n bytes e =
    let both = cond_some (nat_le 4 (length rest)) (from_be_bytes w32 (take 4 rest)) n e in
    let within = leb-true 4 (length rest) both.0 in
    be_bytes_4 (take 4 rest) n (omega (arith, length-take 4 rest, within)) (AreBytes-take 4 rest bytes) (sym both.1)

four_bytes : (bs : List ℕ) → length bs ≡ 4 → AreBytes bs → from_be_bytes w32 bs ≤ 4294967295
four_bytes [] h bytes = absurd (omega (arith, h))
four_bytes (a ∷ []) h bytes = absurd (omega (arith, h))
four_bytes (a ∷ b ∷ []) h bytes = absurd (omega (arith, h))
four_bytes (a ∷ b ∷ c ∷ []) h bytes = absurd (omega (arith, h))
four_bytes (a ∷ b ∷ c ∷ d ∷ []) h bytes = omega (arith, bytes 0, bytes 1, bytes 2, bytes 3)
four_bytes (a ∷ b ∷ c ∷ d ∷ e ∷ bs) h bytes = absurd (omega (arith, h))

number32_small : (rest : List ℕ) (n : ℕ) → AreBytes rest → number w32 rest ≡ Some n → n ≤ 4294967295
number32_small rest n bytes e =
    let both = cond_some (nat_le 4 (length rest)) (from_be_bytes w32 (take 4 rest)) n e in
    let within = leb-true 4 (length rest) both.0 in
    let small = four_bytes (take 4 rest) (omega (arith, length-take 4 rest, within)) (AreBytes-take 4 rest bytes) in
    omega (arith, small, both.1)

-- the front of a list, taken by its own length
front_of : (n : ℕ) (xs : List ℕ) → take (length (take n xs)) xs ≡ take n xs
front_of zero xs = refl
front_of (suc n) [] = refl
front_of (suc n) (x ∷ xs) = ap (λ (t : List ℕ). x ∷ t) (front_of n xs)

front_row : (o : Option ℕ) (xs r : List ℕ) → option_and_then (λ n. Some (take n xs)) o ≡ Some r → r ≡ take (length r) xs
front_row None xs r e = absurd (none-some r e)
front_row (Some n) xs r e = let same = same_Some (take n xs) r e in sym same ∙ sym (front_of n xs) ∙ ap (λ (y : List ℕ). take (length y) xs) same

row_is : (schema : List Attr) (rest r : List ℕ) → AreBytes rest → first_row schema rest ≡ Some r → IsRow schema r
row_is schema rest r bytes e = by (row_len_of schema rest) refl e
  where
    by : (o : Option ℕ) → o ≡ row_len_of schema rest → option_and_then (λ n. Some (take n rest)) o ≡ Some r → IsRow schema r
    by None w h = absurd (none-some r h)
    by (Some n) w h = subst (IsRow schema) (same_Some (take n rest) r h) ((row_len_some schema rest (Some n) bytes w).1)

-- ---- what holds at a stand

record GoodOpen (rels : List RelDecl) (o : Opened) (more : ℕ) : Type 0 where
  before : All (IsRecordOf rels) o.before
  few : length o.atoms + more ≤ 4294967295
  ascending : IsAscending (keys_of o.atoms)
  known : All (IsAtomOf rels) o.atoms

record GoodRel (rels : List RelDecl) (o : Opened) (more rel : ℕ) : Type 0 where
  record_so_far : GoodOpen rels o more
  known : rel < length rels
  follows : follows (last_atom o.atoms) rel ≡ true

abbrev Good : List RelDecl → JournalStand → Type 0
Good rels (at_gate records) = All (IsRecordOf rels) records
Good rels (at_atom_count records) = All (IsRecordOf rels) records
Good rels (at_sign o more) = GoodOpen rels o (suc more)
Good rels (at_rel o more s) = GoodOpen rels o (suc more)
Good rels (at_row o more s rel) = GoodRel rels o (suc more) rel
Good rels (at_end records gate) = All (IsRecordOf rels) records × (gate ≢ 1)

good_behind_gate : (rels : List RelDecl) (records : List (List Atom)) (gate : ℕ) → All (IsRecordOf rels) records → Good rels (behind_gate records gate)
good_behind_gate rels records gate all = by (gate == 1) refl
  where
    by : (b : Bool) → (gate == 1) ≡ b → Good rels (cond b (at_atom_count records) (at_end records gate))
    by true e = all
    by false e = (all, eqb-false gate 1 e)

good_behind_atom : (rels : List RelDecl) (o : Opened) (n : ℕ) → GoodOpen rels o n → Good rels (behind_atom o n)
good_behind_atom rels o zero h = All-push (IsRecordOf rels) o.before o.atoms h.before (record { few = omega (arith, h.few); delta = h.ascending; known = h.known })
good_behind_atom rels o (suc n) h = h

none_of : (P : Atom → Type 0) → All P []
none_of P k d h = absurd (omega (arith, h))

good_step : (rels : List RelDecl) (s : JournalStand) (rest : List ℕ) (n : ℕ) (t : JournalStand) → AreBytes rest → Good rels s → next rels s rest ≡ Some (n, t) → Good rels t
good_step rels (at_gate records) rest n t bytes good e =
    let x = field_is 1 (behind_gate records) (first_byte rest) n t e in
    subst (Good rels) x.next (good_behind_gate rels records x.value good)
good_step rels (at_atom_count records) rest n t bytes good e =
    let x = field_is 4 (behind_atom (opened records [])) (number w32 rest) n t e in
    let small = number32_small rest x.value bytes x.is in
    subst (Good rels) x.next (good_behind_atom rels (opened records []) x.value (record { before = good; few = omega (arith, small); ascending = tt; known = none_of (IsAtomOf rels) }))
good_step rels (at_sign o more) rest n t bytes good e =
    subst (Good rels) (field_is 1 (at_rel o more) (sign_field rest) n t e).next good
good_step rels (at_rel o more s) rest n t bytes good e =
    let x = field_is 2 (at_row o more s) (rel_field (length rels) (last_atom o.atoms) rest) n t e in
    let k = kept_is (λ rel. nat_lt rel (length rels) && follows (last_atom o.atoms) rel) (number w16 rest) x.value x.is in
    let both = and_parts (nat_lt x.value (length rels)) (follows (last_atom o.atoms) x.value) k.1 in
    subst (Good rels) x.next (record { record_so_far = good; known = ltb-true x.value (length rels) both.0; follows = both.1 })
good_step rels (at_row o more s rel) rest n t bytes good e =
    let x = long_is (λ r. behind_atom (with_atom o (atom_read s rel r)) more) (row_field (schema_of rels rel) (last_atom o.atoms) rel rest) n t e in
    let k = kept_is (row_keeps (last_atom o.atoms) rel) (first_row (schema_of rels rel) rest) x.value x.is in
    let a = atom_read s rel x.value in
    let so_far = good.record_so_far in
    subst (Good rels) x.next (good_behind_atom rels (with_atom o a) more (record {
      before = so_far.before;
      few = omega (arith, so_far.few, length-append o.atoms (a ∷ []));
      ascending = ascending_behind o.atoms a so_far.ascending (past_atom (last_atom o.atoms) rel x.value good.follows k.1);
      known = All-push (IsAtomOf rels) o.atoms a so_far.known (record { known = good.known; row = row_is (schema_of rels rel) rest x.value bytes k.0 });
    }))
good_step rels (at_end records gate) rest n t bytes good e = absurd (none-some (n, t) e)

-- ---- the prints of stands

-- the records so far, and the next one up to these atoms, with so many to come
abbrev open_front : Opened → ℕ → List ℕ
open_front o more = flat_map sealed o.before ++ (1 ∷ (to_be_bytes w32 (length o.atoms + more) ++ flat_map atom_bytes o.atoms))

abbrev so_far : JournalStand → List ℕ
so_far (at_gate records) = flat_map sealed records
so_far (at_atom_count records) = flat_map sealed records ++ 1 ∷ []
so_far (at_sign o more) = open_front o (suc more)
so_far (at_rel o more s) = open_front o (suc more) ++ sign_byte s ∷ []
so_far (at_row o more s rel) = (open_front o (suc more) ++ sign_byte s ∷ []) ++ to_be_bytes w16 rel
so_far (at_end records gate) = flat_map sealed records ++ gate ∷ []

behind_print : (o : Opened) (n : ℕ) → so_far (behind_atom o n) ≡ open_front o n
behind_print o (suc n) = refl
behind_print o zero =
    let count : length o.atoms ≡ length o.atoms + 0 = omega arith in
    one_more sealed o.before o.atoms ∙ ap (λ (k : ℕ). flat_map sealed o.before ++ (1 ∷ (to_be_bytes w32 k ++ flat_map atom_bytes o.atoms))) count

gate_print : (records : List (List Atom)) (gate : ℕ) → so_far (behind_gate records gate) ≡ flat_map sealed records ++ gate ∷ []
gate_print records gate = by (gate == 1) refl
  where
    by : (b : Bool) → (gate == 1) ≡ b → so_far (cond b (at_atom_count records) (at_end records gate)) ≡ flat_map sealed records ++ gate ∷ []
    by true e = ap (λ (g : ℕ). flat_map sealed records ++ g ∷ []) (sym (eqb-true gate 1 e))
    by false e = refl

regrouped : (front count xs sign rel row : List ℕ) → front ++ (1 ∷ (count ++ (xs ++ (sign ++ (rel ++ row))))) ≡ ((((front ++ (1 ∷ (count ++ xs))) ++ sign) ++ rel) ++ row)
regrouped front count xs sign rel row = simp append_assoc

atom_print : (o : Opened) (more : ℕ) (s : Sign) (rel : ℕ) (r : Row) → open_front (with_atom o (atom_read s rel r)) more ≡ ((open_front o (suc more) ++ sign_byte s ∷ []) ++ to_be_bytes w16 rel) ++ r
atom_print o more s rel r =
    let a = atom_read s rel r in
    let front = flat_map sealed o.before in
    let count : length (o.atoms ++ a ∷ []) + more ≡ length o.atoms + suc more = omega (arith, length-append o.atoms (a ∷ [])) in
    ap (λ (k : ℕ). front ++ (1 ∷ (to_be_bytes w32 k ++ flat_map atom_bytes (o.atoms ++ a ∷ [])))) count
    ∙ ap (λ (t : List ℕ). front ++ (1 ∷ (to_be_bytes w32 (length o.atoms + suc more) ++ t))) (one_more atom_bytes o.atoms a)
    ∙ regrouped front (to_be_bytes w32 (length o.atoms + suc more)) (flat_map atom_bytes o.atoms) (sign_byte s ∷ []) (to_be_bytes w16 rel) r

print_step : (rels : List RelDecl) (s : JournalStand) (rest : List ℕ) (n : ℕ) (t : JournalStand) → AreBytes rest → next rels s rest ≡ Some (n, t) → so_far t ≡ so_far s ++ take n rest
print_step rels (at_gate records) rest n t bytes e =
    let x = field_is 1 (behind_gate records) (first_byte rest) n t e in
    ap so_far (sym x.next) ∙ gate_print records x.value ∙ ap (λ (l : List ℕ). flat_map sealed records ++ l) (sym (byte_is rest x.value x.is) ∙ ap (λ (m : ℕ). take m rest) x.size)
print_step rels (at_atom_count records) rest n t bytes e =
    let x = field_is 4 (behind_atom (opened records [])) (number w32 rest) n t e in
    let front = flat_map sealed records in
    let none : 0 + x.value ≡ x.value = omega arith in
    ap so_far (sym x.next) ∙ behind_print (opened records []) x.value
    ∙ ap (λ (k : ℕ). front ++ (1 ∷ (to_be_bytes w32 k ++ []))) none
    ∙ ap (λ (l : List ℕ). front ++ (1 ∷ l)) (append-nil (to_be_bytes w32 x.value) ∙ number32 rest x.value bytes x.is ∙ ap (λ (m : ℕ). take m rest) x.size)
    ∙ sym (append_assoc front (1 ∷ []) (take n rest))
print_step rels (at_sign o more) rest n t bytes e =
    let x = field_is 1 (at_rel o more) (sign_field rest) n t e in
    ap so_far (sym x.next) ∙ ap (λ (l : List ℕ). open_front o (suc more) ++ l) (sym (sign_is rest x.value x.is) ∙ ap (λ (m : ℕ). take m rest) x.size)
print_step rels (at_rel o more s) rest n t bytes e =
    let x = field_is 2 (at_row o more s) (rel_field (length rels) (last_atom o.atoms) rest) n t e in
    let k = kept_is (λ rel. nat_lt rel (length rels) && follows (last_atom o.atoms) rel) (number w16 rest) x.value x.is in
    ap so_far (sym x.next) ∙ ap (λ (l : List ℕ). (open_front o (suc more) ++ sign_byte s ∷ []) ++ l) (number16 rest x.value bytes k.0 ∙ ap (λ (m : ℕ). take m rest) x.size)
print_step rels (at_row o more s rel) rest n t bytes e =
    let x = long_is (λ r. behind_atom (with_atom o (atom_read s rel r)) more) (row_field (schema_of rels rel) (last_atom o.atoms) rel rest) n t e in
    let k = kept_is (row_keeps (last_atom o.atoms) rel) (first_row (schema_of rels rel) rest) x.value x.is in
    ap so_far (sym x.next) ∙ behind_print (with_atom o (atom_read s rel x.value)) more ∙ atom_print o more s rel x.value
    ∙ ap (λ (l : List ℕ). ((open_front o (suc more) ++ sign_byte s ∷ []) ++ to_be_bytes w16 rel) ++ l) (front_row (row_len_of (schema_of rels rel) rest) rest x.value k.0 ∙ ap (λ (m : ℕ). take m rest) x.size)
print_step rels (at_end records gate) rest n t bytes e = absurd (none-some (n, t) e)

-- ---- wherever a walk comes

record Printed (rels : List RelDecl) (bytes : List ℕ) (start at : ℕ) (s : JournalStand) : Type 0 where
  good : Good rels s
  printed : take at bytes ≡ take start bytes ++ so_far s

printed_walk : (rels : List RelDecl) (bytes : List ℕ) (start at : ℕ) (s : JournalStand) → AreBytes bytes → Reaches rels bytes start at s → Printed rels bytes start at s
printed_walk rels bytes start at s all reached =
    kept_by (next rels) bytes (start, at_gate []) (Printed rels bytes start)
    (record { good = none_read; printed = sym (append-nil (take start bytes)) })
    (λ place t n u h e. record {
      good = good_step rels t (drop place bytes) n u (AreBytes-drop place bytes all) h.good e;
      printed = take-add place n bytes ∙ ap (λ (l : List ℕ). l ++ take n (drop place bytes)) h.printed ∙ append_assoc (take start bytes) (so_far t) (take n (drop place bytes))
          ∙ ap (λ (l : List ℕ). take start bytes ++ l) (sym (print_step rels t (drop place bytes) n u (AreBytes-drop place bytes all) e));
    })
    reached.0 at s reached.1
  where
    none_read : All (IsRecordOf rels) []
    none_read k d h = absurd (omega (arith, h))

pub whole_journal : (rels : List RelDecl) (bytes : List ℕ) (start end : ℕ) (deltas : List Delta) (records : List (List Atom)) (gate : ℕ) → AreBytes bytes → start ≤ length bytes → end + 1 ≤ length bytes → deltas ≡ map atoms records →
    Reaches rels bytes start (end + 1) (at_end records gate) → IsJournal rels bytes start deltas end
whole_journal rels bytes start end deltas records gate all begins ends told reached =
    let p = printed_walk rels bytes start (end + 1) (at_end records gate) all reached in
    let middle = flat_map sealed records in
    let size = ap (λ (l : List ℕ). length l) p.printed in
    record {
      records = records;
      told = told;
      valid = p.good.0;
      gate = gate;
      closed = p.good.1;
      printed = sym (take-append-drop (end + 1) bytes) ∙ ap (λ (l : List ℕ). l ++ drop (end + 1) bytes) p.printed ∙ behind (take start bytes) middle (drop (end + 1) bytes);
      place = omega (arith, size, length-take (end + 1) bytes, length-take start bytes, length-append (take start bytes) (middle ++ gate ∷ []), length-append middle (gate ∷ []));
      reached = reached;
    }
  where
    behind : (a b d : List ℕ) → (a ++ (b ++ gate ∷ [])) ++ d ≡ a ++ b ++ gate ∷ d
    behind a b d = simp append_assoc
