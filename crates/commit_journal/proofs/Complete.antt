-- A journal that is printed is read.
use Rattle.std.proofs.Common.{◌≡◌, ◌≢◌, ◌≤◌, ◌<◌, ℕ, ◌+◌, Bool, true, cond, List, [], ◌∷◌, ◌++◌, length, take, drop, Option, Some, None, refl, sym, ap, subst, ◌∙◌, append_assoc, arith, inl, inr}
use Rattle.std.specs.Prelude.{◌&&◌, nat_lt, All}
use Rattle.std.specs.List.{flat_map}
use Rattle.std.specs.Option.{option_map, option_and_then}
use Rattle.std.specs.Int.{w16, w32, to_be_bytes, from_be_bytes}
use Rattle.std.proofs.lemmas.Bool.{eq-eqb, ne_eqb, le-leb, lt-ltb, both_ways, cases_order}
use Rattle.std.proofs.lemmas.List.{length-append, append-nil, drop-drop, take_at, drop_at}
use Rattle.std.proofs.lemmas.List.Elements.{All-head, All-tail}
use Rattle.std.proofs.lemmas.Nat.{from_be_bytes-to_be_bytes_2, from_be_bytes-to_be_bytes_4}
use Rattle.hera_sets.specs.Rows.{Row, is_below, is_past, IsAscending}
use Rattle.hera_sets.proofs.Order.{below_cons_less, below_cons_same, below_not}
use Rattle.hera_meaning.specs.declared.scalars.Sign.{Sign}
use Rattle.hera_meaning.specs.declared.scalars.Sign.TheVariants.{Plus, Minus}
use Rattle.hera_meaning.specs.declared.schemas.Attr.{Attr}
use Rattle.hera_meaning.specs.declared.schemas.RelDecl.{RelDecl}
use Rattle.hera_meaning.specs.Rows.{IsRow}
use Rattle.hera_meaning.specs.Deltas.{Atom, key_of, keys_of, schema_of, IsAtomOf}
use Rattle.hera_row.specs.Reading.{row_len_of}
use Rattle.hera_row.proofs.RowLemmas.{row_len_of-row_of}
use Rattle.rel_format.specs.Fields.{kept, number, first_byte}
use Rattle.rel_format.specs.Journal.{sign_byte, atom_bytes, record_of, sealed, IsRecordOf}
use Rattle.commit_journal.specs.Table.{Opened, at_gate, at_sign, at_end, behind_atom, opened, with_atom, last_atom, sign_field, follows, rel_field, row_keeps, row_field}
use Rattle.commit_journal.specs.Places.{Reaches}
use Rattle.commit_journal.proofs.Steps.{to_rel, to_row, behind_row, to_atoms, behind_open, behind_closed}

-- ---- the rules of an atom, from the order of atoms

order_kept : (o : Option Atom) (rel : ℕ) (r : Row) → is_past (option_map key_of o) (rel ∷ r) ≡ true → (follows o rel ≡ true) × (row_keeps o rel r ≡ true)
order_kept None rel r h = (refl, refl)
order_kept (Some b) rel r h = elim (cases_order b.rel rel) [
  | inl e ↦
      let below : is_below b.row r ≡ true = sym (below_cons_same b.rel b.row r) ∙ ap (λ (m : ℕ). is_below (b.rel ∷ b.row) (m ∷ r)) e ∙ h in
      (le-leb b.rel rel (omega (arith, e)), ap (λ (v : Bool). cond v (is_below b.row r) true) (eq-eqb b.rel rel e) ∙ below)
  | inr (inl lt) ↦ (le-leb b.rel rel (omega (arith, lt)), ap (λ (v : Bool). cond v (is_below b.row r) true) (ne_eqb b.rel rel (omega (arith, lt))))
  | inr (inr gt) ↦ absurd (both_ways _ (below_not (rel ∷ r) (b.rel ∷ b.row) (below_cons_less rel b.rel r b.row gt)) h)
]

after_last : (xs : List Atom) (y : Atom) (ys : List Atom) → IsAscending (keys_of (xs ++ y ∷ ys)) → is_past (option_map key_of (last_atom xs)) (key_of y) ≡ true
after_last [] y ys up = refl
after_last (x ∷ []) y ys up = up.0.0
after_last (x ∷ z ∷ xs) y ys up = after_last (z ∷ xs) y ys up.1

-- ---- single fields, printed

sign_printed : (s : Sign) (tail : List ℕ) → Some s ≡ sign_field (sign_byte s ∷ tail)
sign_printed Plus tail = refl
sign_printed Minus tail = refl

number16_printed : (n : ℕ) (tail : List ℕ) → n < 65536 → number w16 (to_be_bytes w16 n ++ tail) ≡ Some n
number16_printed n tail small =
    let fits : 2 ≤ length (to_be_bytes w16 n ++ tail) = omega (arith, length-append (to_be_bytes w16 n) tail) in
    ap (λ (v : Bool). cond v (Some (from_be_bytes w16 (take 2 (to_be_bytes w16 n ++ tail)))) None) (le-leb 2 (length (to_be_bytes w16 n ++ tail)) fits)
    ∙ ap (λ (l : List ℕ). Some (from_be_bytes w16 l)) (take_at (to_be_bytes w16 n) tail 2 refl) ∙ ap (λ (k : ℕ). Some k) (from_be_bytes-to_be_bytes_2 n small)

number32_printed : (n : ℕ) (tail : List ℕ) → n ≤ 4294967295 → number w32 (to_be_bytes w32 n ++ tail) ≡ Some n
number32_printed n tail small =
    let fits : 4 ≤ length (to_be_bytes w32 n ++ tail) = omega (arith, length-append (to_be_bytes w32 n) tail) in
    ap (λ (v : Bool). cond v (Some (from_be_bytes w32 (take 4 (to_be_bytes w32 n ++ tail)))) None) (le-leb 4 (length (to_be_bytes w32 n ++ tail)) fits)
    ∙ ap (λ (l : List ℕ). Some (from_be_bytes w32 l)) (take_at (to_be_bytes w32 n) tail 4 refl) ∙ ap (λ (k : ℕ). Some k) (from_be_bytes-to_be_bytes_4 n (omega (arith, small)))

rel_printed : (count : ℕ) (before : Option Atom) (n : ℕ) (tail : List ℕ) → n < count → count ≤ 65536 → follows before n ≡ true → Some n ≡ rel_field count before (to_be_bytes w16 n ++ tail)
rel_printed count before n tail known few after =
    sym (ap (kept (λ rel. nat_lt rel count && follows before rel)) (number16_printed n tail (omega (arith, known, few)))
    ∙ ap (λ (v : Bool). cond (v && follows before n) (Some n) None) (lt-ltb n count known) ∙ ap (λ (v : Bool). cond v (Some n) None) after)

row_in_front : (schema : List Attr) (r rest : List ℕ) → IsRow schema r → row_len_of schema (r ++ rest) ≡ Some (length r)
row_in_front schema r rest row =
    ap (λ (x : List ℕ). row_len_of schema (x ++ rest)) (sym row.2) ∙ row_len_of-row_of schema row.0 rest row.1 ∙ ap (λ (x : List ℕ). Some (length x)) row.2

row_printed : (schema : List Attr) (before : Option Atom) (rel : ℕ) (r tail : List ℕ) → IsRow schema r → row_keeps before rel r ≡ true → Some r ≡ row_field schema before rel (r ++ tail)
row_printed schema before rel r tail row keeps =
    sym (ap (λ (o : Option ℕ). kept (row_keeps before rel) (option_and_then (λ n. Some (take n (r ++ tail))) o)) (row_in_front schema r tail row)
    ∙ ap (λ (x : List ℕ). kept (row_keeps before rel) (Some x)) (take_at r tail (length r) refl)
    ∙ ap (λ (v : Bool). cond v (Some r) None) keeps)

-- ---- the walk over what is printed

module _ (rels : List RelDecl) (few : length rels ≤ 65536) (bytes : List ℕ) (start : ℕ) where
  -- behind a front the tail stands
  behind : (at n : ℕ) (front tail : List ℕ) → length front ≡ n → drop at bytes ≡ front ++ tail → drop (at + n) bytes ≡ tail
  behind at n front tail size e = sym (drop-drop n at bytes) ∙ ap (λ (l : List ℕ). drop n l) e ∙ drop_at front tail n size

  atom_printed : (at : ℕ) (o : Opened) (more : ℕ) (a : Atom) (tail : List ℕ) → is_past (option_map key_of (last_atom o.atoms)) (key_of a) ≡ true → IsAtomOf rels a → drop at bytes ≡ atom_bytes a ++ tail →
      Reaches rels bytes start at (at_sign o more) → Reaches rels bytes start (at + length (atom_bytes a)) (behind_atom (with_atom o a) more)
  atom_printed at o more a tail past known e r =
      let order = order_kept (last_atom o.atoms) a.rel a.row past in
      let rest = to_be_bytes w16 a.rel ++ (a.row ++ tail) in
      let first : drop at bytes ≡ sign_byte a.sign ∷ rest = e ∙ ap (λ (l : List ℕ). sign_byte a.sign ∷ l) (append_assoc (to_be_bytes w16 a.rel) a.row tail) in
      let second : drop (at + 1) bytes ≡ rest = behind at 1 (sign_byte a.sign ∷ []) rest refl first in
      let last : drop (at + 1 + 2) bytes ≡ a.row ++ tail = behind (at + 1) 2 (to_be_bytes w16 a.rel) (a.row ++ tail) refl second in
      let place : at + 1 + 2 + length a.row ≡ at + length (atom_bytes a) = omega (arith, length-append (to_be_bytes w16 a.rel) a.row) in
      let one = to_rel rels bytes start at o more a.sign (sign_printed a.sign rest ∙ ap sign_field (sym first)) r in
      let two = to_row rels bytes start (at + 1) (length rels) o more a.sign (last_atom o.atoms) a.rel refl refl (rel_printed (length rels) (last_atom o.atoms) a.rel (a.row ++ tail) known.known few order.0 ∙ ap (rel_field (length rels) (last_atom o.atoms)) (sym second)) one in
      let three = behind_row rels bytes start (at + 1 + 2) o more a.sign (last_atom o.atoms) (schema_of rels a.rel) a.rel a.row refl refl (row_printed (schema_of rels a.rel) (last_atom o.atoms) a.rel a.row tail known.row order.1 ∙ ap (row_field (schema_of rels a.rel) (last_atom o.atoms) a.rel) (sym last)) two in
      subst (λ (n : ℕ). Reaches rels bytes start n (behind_atom (with_atom o a) more)) place three

  atoms_printed : (at : ℕ) (records : List (List Atom)) (xs ys : List Atom) (tail : List ℕ) → IsAscending (keys_of (xs ++ ys)) → All (IsAtomOf rels) ys → drop at bytes ≡ flat_map atom_bytes ys ++ tail →
      Reaches rels bytes start at (behind_atom (opened records xs) (length ys)) → Reaches rels bytes start (at + length (flat_map atom_bytes ys)) (at_gate (records ++ (xs ++ ys) ∷ []))
  atoms_printed at records xs [] tail up known e r =
      let place : at ≡ at + 0 = omega arith in
      subst (λ (n : ℕ). Reaches rels bytes start n (at_gate (records ++ (xs ++ []) ∷ []))) place
      (subst (λ (l : List Atom). Reaches rels bytes start at (at_gate (records ++ l ∷ []))) (sym (append-nil xs)) r)
  atoms_printed at records xs (y ∷ ys) tail up known e r =
      let rest = flat_map atom_bytes ys ++ tail in
      let same : (xs ++ y ∷ []) ++ ys ≡ xs ++ y ∷ ys = append_assoc xs (y ∷ []) ys in
      let here : drop at bytes ≡ atom_bytes y ++ rest = e ∙ append_assoc (atom_bytes y) (flat_map atom_bytes ys) tail in
      let one = atom_printed at (opened records xs) (length ys) y rest (after_last xs y ys up) (All-head (IsAtomOf rels) y ys known) here r in
      let more = atoms_printed (at + length (atom_bytes y)) records (xs ++ y ∷ []) ys tail (subst (λ (l : List Atom). IsAscending (keys_of l)) (sym same) up) (All-tail (IsAtomOf rels) y ys known) (behind at (length (atom_bytes y)) (atom_bytes y) rest refl here) one in
      let place : at + length (atom_bytes y) + length (flat_map atom_bytes ys) ≡ at + length (atom_bytes y ++ flat_map atom_bytes ys) = omega (arith, length-append (atom_bytes y) (flat_map atom_bytes ys)) in
      subst (λ (n : ℕ). Reaches rels bytes start n (at_gate (records ++ (xs ++ y ∷ ys) ∷ []))) place
      (subst (λ (l : List Atom). Reaches rels bytes start (at + length (atom_bytes y) + length (flat_map atom_bytes ys)) (at_gate (records ++ l ∷ []))) same more)

  sealed_printed : (at : ℕ) (records : List (List Atom)) (xs : List Atom) (tail : List ℕ) → IsRecordOf rels xs → drop at bytes ≡ sealed xs ++ tail → Reaches rels bytes start at (at_gate records) → Reaches rels bytes start (at + length (sealed xs)) (at_gate (records ++ xs ∷ []))
  sealed_printed at records xs tail valid e r =
      let atoms_tail = flat_map atom_bytes xs ++ tail in
      let counted : drop (at + 1) bytes ≡ to_be_bytes w32 (length xs) ++ atoms_tail = behind at 1 (1 ∷ []) (record_of xs ++ tail) refl e ∙ append_assoc (to_be_bytes w32 (length xs)) (flat_map atom_bytes xs) tail in
      let body : drop (at + 1 + 4) bytes ≡ atoms_tail = behind (at + 1) 4 (to_be_bytes w32 (length xs)) atoms_tail refl counted in
      let one = behind_open rels bytes start at records 1 (sym (ap first_byte e)) refl r in
      let two = to_atoms rels bytes start (at + 1) records (length xs) (sym (ap (number w32) counted ∙ number32_printed (length xs) atoms_tail valid.few)) one in
      let three = atoms_printed (at + 1 + 4) records [] xs tail valid.delta valid.known body two in
      let place : at + 1 + 4 + length (flat_map atom_bytes xs) ≡ at + length (sealed xs) = omega (arith, length-append (to_be_bytes w32 (length xs)) (flat_map atom_bytes xs)) in
      subst (λ (n : ℕ). Reaches rels bytes start n (at_gate (records ++ xs ∷ []))) place three

  records_printed : (at : ℕ) (records more : List (List Atom)) (gate : ℕ) (rest : List ℕ) → All (IsRecordOf rels) more → gate ≢ 1 → drop at bytes ≡ flat_map sealed more ++ gate ∷ rest → Reaches rels bytes start at (at_gate records) →
      Reaches rels bytes start (at + length (flat_map sealed more) + 1) (at_end (records ++ more) gate)
  records_printed at records [] gate rest valid shut e r =
      let place : at + 1 ≡ at + 0 + 1 = omega arith in
      subst (λ (n : ℕ). Reaches rels bytes start n (at_end (records ++ []) gate)) place
      (subst (λ (l : List (List Atom)). Reaches rels bytes start (at + 1) (at_end l gate)) (sym (append-nil records)) (behind_closed rels bytes start at records gate (sym (ap first_byte e)) (ne_eqb gate 1 shut) r))
  records_printed at records (xs ∷ more) gate rest valid shut e r =
      let tail = flat_map sealed more ++ gate ∷ rest in
      let here : drop at bytes ≡ sealed xs ++ tail = e ∙ append_assoc (sealed xs) (flat_map sealed more) (gate ∷ rest) in
      let one = sealed_printed at records xs tail (All-head (IsRecordOf rels) xs more valid) here r in
      let later = records_printed (at + length (sealed xs)) (records ++ xs ∷ []) more gate rest (All-tail (IsRecordOf rels) xs more valid) shut (behind at (length (sealed xs)) (sealed xs) tail refl here) one in
      let place : at + length (sealed xs) + length (flat_map sealed more) + 1 ≡ at + length (sealed xs ++ flat_map sealed more) + 1 = omega (arith, length-append (sealed xs) (flat_map sealed more)) in
      subst (λ (n : ℕ). Reaches rels bytes start n (at_end (records ++ xs ∷ more) gate)) place
      (subst (λ (l : List (List Atom)). Reaches rels bytes start (at + length (sealed xs) + length (flat_map sealed more) + 1) (at_end l gate)) (append_assoc records (xs ∷ []) more) later)

  -- a journal that is printed is walked to its end
  pub journal_printed : (records : List (List Atom)) (gate : ℕ) (rest : List ℕ) → All (IsRecordOf rels) records → gate ≢ 1 → drop start bytes ≡ flat_map sealed records ++ gate ∷ rest →
      Reaches rels bytes start (start + length (flat_map sealed records) + 1) (at_end records gate)
  journal_printed records gate rest valid shut e = records_printed start [] records gate rest valid shut e (0, refl)
