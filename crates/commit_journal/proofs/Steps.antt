-- Walking on by the fields of a journal.
use Rattle.std.proofs.Common.{◌≡◌, ◌≤◌, ◌<◌, ℕ, zero, suc, ◌+◌, ◌-◌, Err, Bool, true, false, cond, List, [], ◌∷◌, ◌++◌, length, drop, map, Option, Some, None, refl, sym, ap, subst, ◌∙◌, arith}
use Rattle.std.specs.Prelude.{◌==◌, slice_get}
use Rattle.std.specs.Option.{option_map}
use Rattle.std.specs.Int.{w32}
use Rattle.std.proofs.lemmas.Bool.{eqb-true, eqb-false, leb-true}
use Rattle.std.proofs.lemmas.List.{map_push}
use Rattle.std.proofs.lemmas.Option.{none-some, same_Some}
use Rattle.hera_sets.specs.Rows.{Row, is_below, is_past, IsAscending}
use Rattle.hera_sets.proofs.Order.{below_cons_less, below_cons_same}
use Rattle.hera_sets.proofs.Lists.{all_below_trans}
use Rattle.hera_meaning.specs.declared.scalars.Sign.{Sign}
use Rattle.hera_meaning.specs.declared.schemas.Attr.{Attr}
use Rattle.hera_meaning.specs.declared.schemas.RelDecl.{RelDecl}
use Rattle.hera_meaning.specs.Deltas.{Atom, Delta, fail, atoms, key_of, keys_of, is_fail, IsDelta, schema_of}
use Rattle.delta_atoms.specs.declared.atom.AtomRef.{AtomRef}
use Rattle.delta_atoms.specs.Atoms.{atoms_in, with_last}
use Rattle.delta_atoms.specs.Refs.{atom_in, bound_of}
use Rattle.rel_format.specs.Fields.{number, first_byte}
use Rattle.rel_format.proofs.Walks.{step_by}
use Rattle.commit_journal.specs.declared.scanning.ScanFault.{ScanFault}
use Rattle.commit_journal.specs.declared.scanning.ScanFault.TheVariants.{Damaged, Memory}
use Rattle.commit_journal.specs.Table.{JournalStand, Opened, at_gate, at_atom_count, at_sign, at_rel, at_row, at_end, behind_gate, behind_atom, opened, with_atom, atom_read, last_atom, sign_field, follows, rel_field, row_keeps, row_field, field, long_field, next}
use Rattle.commit_journal.specs.Places.{Reaches, Stops, Reads, JournalIs}

-- ---- the order of atoms

-- an atom that keeps its rules lies past the one before it
pub past_atom : (o : Option Atom) (rel : ℕ) (r : Row) → follows o rel ≡ true → row_keeps o rel r ≡ true → is_past (option_map key_of o) (rel ∷ r) ≡ true
past_atom None rel r f k = refl
past_atom (Some a) rel r f k = by (a.rel == rel) refl k
  where
    by : (b : Bool) → (a.rel == rel) ≡ b → cond b (is_below a.row r) true ≡ true → is_below (a.rel ∷ a.row) (rel ∷ r) ≡ true
    by true e h =
        let same : a.rel ≡ rel = eqb-true a.rel rel e in
        ap (λ (m : ℕ). is_below (a.rel ∷ a.row) (m ∷ r)) (sym same) ∙ below_cons_same a.rel a.row r ∙ h
    by false e h =
        let ne : a.rel ≡ rel → ⊥ = eqb-false a.rel rel e in
        let le : a.rel ≤ rel = leb-true a.rel rel f in
        below_cons_less a.rel rel a.row r (omega (arith, ne, le))

last_key : (o : Option AtomRef) → option_map key_of (option_map atom_in o) ≡ bound_of o
last_key None = refl
last_key (Some a) = refl

pub past_before : (o : Option AtomRef) (rel : ℕ) (r : Row) → follows (option_map atom_in o) rel ≡ true → row_keeps (option_map atom_in o) rel r ≡ true → is_past (bound_of o) (rel ∷ r) ≡ true
past_before o rel r f k = ap (λ (b : Option Row). is_past b (rel ∷ r)) (sym (last_key o)) ∙ past_atom (option_map atom_in o) rel r f k

pub ascending_behind : (xs : List Atom) (a : Atom) → IsAscending (keys_of xs) → is_past (option_map key_of (last_atom xs)) (key_of a) ≡ true → IsAscending (keys_of (xs ++ a ∷ []))
ascending_behind [] a up h = (tt, tt)
ascending_behind (x ∷ []) a up h = ((h, tt), (tt, tt))
ascending_behind (x ∷ y ∷ xs) a up h =
    let rest = ascending_behind (y ∷ xs) a up.1 h in
    ((up.0.0, all_below_trans (key_of x) (key_of y) (keys_of (xs ++ a ∷ [])) up.0.0 rest.0), rest)

pub last_push : (xs : List Atom) (a : Atom) → last_atom (xs ++ a ∷ []) ≡ Some a
last_push [] a = refl
last_push (x ∷ []) a = refl
last_push (x ∷ y ∷ xs) a = last_push (y ∷ xs) a

-- it may be pushed behind the atoms of a delta
pub may_push : (d : Delta) (o : Option AtomRef) (a : Atom) → is_fail d ≡ false → IsDelta d → last_atom (atoms_in d) ≡ option_map atom_in o → is_past (bound_of o) (key_of a) ≡ true → IsDelta (with_last d a)
may_push fail o a k up e h = tt
may_push (atoms xs) o a k up e h =
    ascending_behind xs a up (ap (λ (b : Option Row). is_past b (key_of a)) (ap (λ (p : Option Atom). option_map key_of p) e ∙ last_key o) ∙ h)

pub pushed : (d : Delta) (a : Atom) → is_fail d ≡ false → atoms_in (with_last d a) ≡ atoms_in d ++ a ∷ []
pushed fail a k = cc
pushed (atoms xs) a k = refl

pub still_atoms : (d : Delta) (a : Atom) → is_fail d ≡ false → is_fail (with_last d a) ≡ false
still_atoms fail a k = k
still_atoms (atoms xs) a k = refl

-- ---- single fields

pub schema_here : (rels : List RelDecl) (n : ℕ) (d : RelDecl) → slice_get rels n ≡ Some d → schema_of rels n ≡ d.schema
schema_here [] n d e = absurd (none-some d e)
schema_here (x ∷ rels) zero d e = ap (λ (y : RelDecl). y.schema) (same_Some x d e)
schema_here (x ∷ rels) (suc n) d e = schema_here rels n d e

module _ (rels : List RelDecl) (bytes : List ℕ) (start : ℕ) where
  step : (at : ℕ) (s : JournalStand) (n : ℕ) (t : JournalStand) → Reaches rels bytes start at s → next rels s (drop at bytes) ≡ Some (n, t) → Reaches rels bytes start (at + n) t
  step at s n t r h = step_by (next rels) bytes (start, at_gate []) at s n t r h

  pub to_rel : (at : ℕ) (o : Opened) (more : ℕ) (s : Sign) → Some s ≡ sign_field (drop at bytes) → Reaches rels bytes start at (at_sign o more) → Reaches rels bytes start (at + 1) (at_rel o more s)
  to_rel at o more s e r = step at (at_sign o more) 1 (at_rel o more s) r (ap (field 1 (at_rel o more)) (sym e))

  pub no_sign : (at : ℕ) (o : Opened) (more : ℕ) → None ≡ sign_field (drop at bytes) → Reaches rels bytes start at (at_sign o more) → Stops rels bytes start at
  no_sign at o more e r = (at_sign o more, r, ap (field 1 (at_rel o more)) (sym e), refl)

  rel_same : (at n : ℕ) (o : Opened) (before : Option Atom) → n ≡ length rels → last_atom o.atoms ≡ before → rel_field (length rels) (last_atom o.atoms) (drop at bytes) ≡ rel_field n before (drop at bytes)
  rel_same at n o before count last = ap (λ (k : ℕ). rel_field k (last_atom o.atoms) (drop at bytes)) (sym count) ∙ ap (λ (p : Option Atom). rel_field n p (drop at bytes)) last

  pub to_row : (at n : ℕ) (o : Opened) (more : ℕ) (s : Sign) (before : Option Atom) (rel : ℕ) → n ≡ length rels → last_atom o.atoms ≡ before → Some rel ≡ rel_field n before (drop at bytes) → Reaches rels bytes start at (at_rel o more s) → Reaches rels bytes start (at + 2) (at_row o more s rel)
  to_row at n o more s before rel count last e r = step at (at_rel o more s) 2 (at_row o more s rel) r (ap (field 2 (at_row o more s)) (rel_same at n o before count last ∙ sym e))

  pub no_rel : (at n : ℕ) (o : Opened) (more : ℕ) (s : Sign) (before : Option Atom) → n ≡ length rels → last_atom o.atoms ≡ before → None ≡ rel_field n before (drop at bytes) → Reaches rels bytes start at (at_rel o more s) → Stops rels bytes start at
  no_rel at n o more s before count last e r = (at_rel o more s, r, ap (field 2 (at_row o more s)) (rel_same at n o before count last ∙ sym e), refl)

  row_same : (at : ℕ) (o : Opened) (before : Option Atom) (schema : List Attr) (rel : ℕ) → schema_of rels rel ≡ schema → last_atom o.atoms ≡ before → row_field (schema_of rels rel) (last_atom o.atoms) rel (drop at bytes) ≡ row_field schema before rel (drop at bytes)
  row_same at o before schema rel known last = ap (λ (s : List Attr). row_field s (last_atom o.atoms) rel (drop at bytes)) known ∙ ap (λ (p : Option Atom). row_field schema p rel (drop at bytes)) last

  pub behind_row : (at : ℕ) (o : Opened) (more : ℕ) (s : Sign) (before : Option Atom) (schema : List Attr) (rel : ℕ) (row : Row) → schema_of rels rel ≡ schema → last_atom o.atoms ≡ before → Some row ≡ row_field schema before rel (drop at bytes) → Reaches rels bytes start at (at_row o more s rel) →
      Reaches rels bytes start (at + length row) (behind_atom (with_atom o (atom_read s rel row)) more)
  behind_row at o more s before schema rel row known last e r =
      step at (at_row o more s rel) (length row) (behind_atom (with_atom o (atom_read s rel row)) more) r
      (ap (long_field (λ (x : Row). behind_atom (with_atom o (atom_read s rel x)) more)) (row_same at o before schema rel known last ∙ sym e))

  pub no_row : (at : ℕ) (o : Opened) (more : ℕ) (s : Sign) (before : Option Atom) (schema : List Attr) (rel : ℕ) → schema_of rels rel ≡ schema → last_atom o.atoms ≡ before → None ≡ row_field schema before rel (drop at bytes) → Reaches rels bytes start at (at_row o more s rel) → Stops rels bytes start at
  no_row at o more s before schema rel known last e r =
      (at_row o more s rel, r, ap (long_field (λ (x : Row). behind_atom (with_atom o (atom_read s rel x)) more)) (row_same at o before schema rel known last ∙ sym e), refl)

  -- the place of an atom's row
  pub third : (at : ℕ) (s : JournalStand) → Reaches rels bytes start (at + 1 + 2) s → Reaches rels bytes start (at + 3) s
  third at s r = let e : at + 1 + 2 ≡ at + 3 = omega arith in subst (λ (n : ℕ). Reaches rels bytes start n s) e r

  pub to_atoms : (at : ℕ) (records : List (List Atom)) (n : ℕ) → Some n ≡ number w32 (drop at bytes) → Reaches rels bytes start at (at_atom_count records) → Reaches rels bytes start (at + 4) (behind_atom (opened records []) n)
  to_atoms at records n e r = step at (at_atom_count records) 4 (behind_atom (opened records []) n) r (ap (field 4 (behind_atom (opened records []))) (sym e))

  pub no_count : (at : ℕ) (records : List (List Atom)) → None ≡ number w32 (drop at bytes) → Reaches rels bytes start at (at_atom_count records) → Stops rels bytes start at
  no_count at records e r = (at_atom_count records, r, ap (field 4 (behind_atom (opened records []))) (sym e), refl)

  pub no_gate : (at : ℕ) (records : List (List Atom)) → None ≡ first_byte (drop at bytes) → Reaches rels bytes start at (at_gate records) → Stops rels bytes start at
  no_gate at records e r = (at_gate records, r, ap (field 1 (behind_gate records)) (sym e), refl)

  pub behind_open : (at : ℕ) (records : List (List Atom)) (g : ℕ) → Some g ≡ first_byte (drop at bytes) → (g == 1) ≡ true → Reaches rels bytes start at (at_gate records) → Reaches rels bytes start (at + 1) (at_atom_count records)
  behind_open at records g e free r = subst (Reaches rels bytes start (at + 1)) (ap (λ (b : Bool). cond b (at_atom_count records) (at_end records g)) free) (step at (at_gate records) 1 (behind_gate records g) r (ap (field 1 (behind_gate records)) (sym e)))

  pub behind_closed : (at : ℕ) (records : List (List Atom)) (g : ℕ) → Some g ≡ first_byte (drop at bytes) → (g == 1) ≡ false → Reaches rels bytes start at (at_gate records) → Reaches rels bytes start (at + 1) (at_end records g)
  behind_closed at records g e shut r = subst (Reaches rels bytes start (at + 1)) (ap (λ (b : Bool). cond b (at_atom_count records) (at_end records g)) shut) (step at (at_gate records) 1 (behind_gate records g) r (ap (field 1 (behind_gate records)) (sym e)))

-- ---- reading on

-- a fault behind fields is a fault
pub fault_on : {A B : Type 0} (rels : List RelDecl) (bytes : List ℕ) (start at place : ℕ) (s t : JournalStand) (one : A → JournalStand) (all : B → JournalStand) (e : ScanFault) → (Reaches rels bytes start at s → Reaches rels bytes start place t) → Reads {A = A} rels bytes start place t one (Err e) → Reads {A = B} rels bytes start at s all (Err e)
fault_on rels bytes start at place s t one all (Damaged n) go h = λ r. h (go r)
fault_on rels bytes start at place s t one all Memory go h = tt

pub no_memory : {B : Type 0} (rels : List RelDecl) (bytes : List ℕ) (start at : ℕ) (s : JournalStand) (all : B → JournalStand) (e : ScanFault) → e ≡ Memory → Reads {A = B} rels bytes start at s all (Err e)
no_memory rels bytes start at s all e h = subst (λ (x : ScanFault). Reads rels bytes start at s all (Err x)) (sym h) tt

pub enter : (o : Opened) (n k : ℕ) → k < n → behind_atom o (n - k) ≡ at_sign o (n - (k + 1))
enter o n k h = let e : n - k ≡ suc (n - (k + 1)) = omega (arith, h) in ap (behind_atom o) e

pub leave : (o : Opened) (n k : ℕ) → n ≤ k → behind_atom o (n - k) ≡ behind_atom o 0
leave o n k h = let e : n - k ≡ 0 = omega (arith, h) in ap (behind_atom o) e

-- ---- the atoms of a record

module _ (rels : List RelDecl) (bytes : List ℕ) (start : ℕ) (records : List (List Atom)) where
  pub begun : (at n : ℕ) (d : Delta) → d ≡ atoms [] → Some n ≡ number w32 (drop at bytes) → Reaches rels bytes start at (at_atom_count records) → Reaches rels bytes start (at + 4) (behind_atom (opened records (atoms_in d)) (n - 0))
  begun at n d e h r =
      let all : n ≡ n - 0 = omega arith in
      let first = to_atoms rels bytes start at records n h r in
      subst (λ (m : ℕ). Reaches rels bytes start (at + 4) (behind_atom (opened records (atoms_in d)) m)) all
      (subst (λ (x : Delta). Reaches rels bytes start (at + 4) (behind_atom (opened records (atoms_in x)) n)) (sym e) first)

  pub next_atom : (at n k : ℕ) (xs : List Atom) → k < n → Reaches rels bytes start at (behind_atom (opened records xs) (n - k)) → Reaches rels bytes start at (at_sign (opened records xs) (n - (k + 1)))
  next_atom at n k xs lt r = subst (Reaches rels bytes start at) (enter (opened records xs) n k lt) r

  pub one_more : (place more : ℕ) (d e : Delta) (a : Atom) → is_fail d ≡ false → e ≡ with_last d a → Reaches rels bytes start place (behind_atom (with_atom (opened records (atoms_in d)) a) more) → Reaches rels bytes start place (behind_atom (opened records (atoms_in e)) more)
  one_more place more d e a k h r =
      let same : atoms_in d ++ a ∷ [] ≡ atoms_in e = sym (pushed d a k) ∙ ap atoms_in (sym h) in
      subst (λ (xs : List Atom). Reaches rels bytes start place (behind_atom (opened records xs) more)) same r

  pub all_read : (at n k : ℕ) (xs : List Atom) → n ≤ k → Reaches rels bytes start at (behind_atom (opened records xs) (n - k)) → Reaches rels bytes start at (at_gate (records ++ xs ∷ []))
  all_read at n k xs le r = subst (Reaches rels bytes start at) (leave (opened records xs) n k le) r

pub last_pushed : (d e : Delta) (a : Atom) → is_fail d ≡ false → e ≡ with_last d a → last_atom (atoms_in e) ≡ Some a
last_pushed d e a k h = ap (λ (x : Delta). last_atom (atoms_in x)) h ∙ ap last_atom (pushed d a k) ∙ last_push (atoms_in d) a

-- ---- the records of a journal

pub fault_is : {A : Type 0} (rels : List RelDecl) (bytes : List ℕ) (start place : ℕ) (s : JournalStand) (all : A → JournalStand) (e : ScanFault) → Reaches rels bytes start place s → Reads {A = A} rels bytes start place s all (Err e) → JournalIs rels bytes start (Err e)
fault_is rels bytes start place s all (Damaged n) r h = h r
fault_is rels bytes start place s all Memory r h = tt

has_atoms : (d : Delta) → is_fail d ≡ false → d ≡ atoms (atoms_in d)
has_atoms fail k = cc
has_atoms (atoms xs) k = refl

pub deltas_push : (old new : List Delta) (records : List (List Atom)) (d : Delta) → is_fail d ≡ false → old ≡ map atoms records → new ≡ old ++ d ∷ [] → new ≡ map atoms (records ++ atoms_in d ∷ [])
deltas_push old new records d k e h =
    h ∙ ap (λ (ds : List Delta). ds ++ d ∷ []) e ∙ ap (λ (x : Delta). map atoms records ++ x ∷ []) (has_atoms d k) ∙ sym (map_push atoms records (atoms_in d))
