-- Schemas of the same kinds, and the schemas of rows that deltas of a catalogue put in.
use Rattle.std.proofs.Common.{◌≡◌, ℕ, zero, suc, cond, ◌&&◌, ◌||◌, ◌++◌, Bool, true, false, List, [], ◌∷◌, length, drop, nat_eq, Option, None, Some, refl, sym, ap, subst, ◌∙◌}
use Rattle.std.specs.Prelude.{slice_index_or, slice_get, nat_lt, ◌<◌, ◌≤◌}
use Rattle.std.specs.List.{list_all}
use Rattle.std.specs.Option.{option_map}
use Rattle.std.proofs.lemmas.List.{drop_all}
use Rattle.std.proofs.lemmas.List.Sums.{list_all-from_AllPass}
use Rattle.std.proofs.lemmas.Bool.{and_parts, and_from, false≢true, or_left, or_right, eqb-true}
use Rattle.std.proofs.lemmas.Option.{none-some, same_Some}
use Rattle.hera_sets.specs.Rows.{Row, holds, is_same}
use Rattle.hera_sets.proofs.Order.{same_itself, same_true}
use Rattle.hera_sets.proofs.Members.{holds-normal, holds-append}
use Rattle.hera_meaning.specs.declared.scalars.Kind.{Kind}
use Rattle.hera_meaning.specs.declared.scalars.Kind.TheVariants.{Int as int_kind, Bool as bool_kind, Text as text_kind}
use Rattle.hera_meaning.specs.declared.scalars.Sign.TheVariants.{Plus}
use Rattle.hera_meaning.specs.declared.schemas.Attr.{Attr}
use Rattle.hera_meaning.specs.declared.schemas.RelDecl.{RelDecl}
use Rattle.hera_meaning.specs.Scalars.{is_scalar, is_same_kind}
use Rattle.hera_meaning.specs.Rows.{is_row, fields_of, row_of, scalar_of, first_piece}
use Rattle.hera_meaning.specs.Deltas.{Atom, Delta, fail, atoms, State, IsState, schema_of, rows_at, rows_named, plus_atoms, is_plus}
use Rattle.hera_meaning.specs.Fits.{is_atom_of, is_delta_of}
use Rattle.hera_meaning.proofs.RowsRead.{is_row-from_IsRow}
use Rattle.when_overlay.specs.declared.layers.Layer.{Layer}
use Rattle.when_overlay.specs.Layered.{AreLayers, layer_at, with_delta, path}
use Rattle.when_overlay.specs.Changed.{after_all, changed, rows_after}
use Rattle.when_overlay.proofs.Viewing.{rel_after}
use Rattle.when_overlay.specs.Seeking.{named_in, pluses}
use Rattle.hera_reads.specs.Kinds.{have_same_kinds}
use Rattle.hera_reads.specs.Branched.{AreKnown, IsTree, seen_at, pending_of}
use Rattle.hera_fits.proofs.Tested.{drop_item, schema_found}
use Rattle.hera_reads.proofs.Naming.{rows_got}
use Rattle.hera_reads.proofs.Branching.{read_state}
use Rattle.when_overlay.proofs.Meeting.{after_met}

-- ---- schemas of the same kinds have the same rows

same_kind : (k l : Kind) → is_same_kind k l ≡ true → k ≡ l
same_kind int_kind int_kind h = refl
same_kind bool_kind bool_kind h = refl
same_kind text_kind text_kind h = refl
same_kind k l h = cc

fields_alike : (s t : List Attr) (bytes : Row) → have_same_kinds s t ≡ true → fields_of s bytes ≡ fields_of t bytes
fields_alike [] [] bytes h = refl
fields_alike (a ∷ s) (b ∷ t) bytes h =
    let p = and_parts (is_same_kind a.kind b.kind) (have_same_kinds s t) h in
    let rest = λ (k : Kind). drop (length (first_piece k bytes)) bytes in
    ap (λ k. scalar_of k (first_piece k bytes) ∷ fields_of s (rest k)) (same_kind a.kind b.kind p.0)
    ∙ ap (λ xs. scalar_of b.kind (first_piece b.kind bytes) ∷ xs) (fields_alike s t (rest b.kind) p.1)
fields_alike s t bytes h = cc

row_alike : (s t : List Attr) (bytes : Row) → have_same_kinds s t ≡ true → is_row s bytes ≡ is_row t bytes
row_alike s t bytes h = ap (λ xs. list_all is_scalar xs && is_same (row_of xs) bytes) (fields_alike s t bytes h)

rows_alike : (s t : List Attr) (rows : List Row) → have_same_kinds s t ≡ true → list_all (is_row s) rows ≡ list_all (is_row t) rows
rows_alike s t [] h = refl
rows_alike s t (x ∷ rows) h = (λ i. row_alike s t x h i && rows_alike s t rows h i)

-- the kinds are compared one by one
pub kinds_unequal : (s t : List Attr) → (length s ≡ length t → ⊥) → false ≡ have_same_kinds s t
kinds_unequal [] [] h = absurd (h refl)
kinds_unequal [] (b ∷ t) h = refl
kinds_unequal (a ∷ s) [] h = refl
kinds_unequal (a ∷ s) (b ∷ t) h = unlike (is_same_kind a.kind b.kind) (kinds_unequal s t (λ e. h (ap suc e)))
  where
    unlike : (k : Bool) → false ≡ have_same_kinds s t → false ≡ (k && have_same_kinds s t)
    unlike true g = g
    unlike false g = refl

at_place : (s t : List Attr) (i : ℕ) (a b : Attr) → slice_get s i ≡ Some a → slice_get t i ≡ Some b → have_same_kinds (drop i s) (drop i t) ≡ (is_same_kind a.kind b.kind && have_same_kinds (drop (suc i) s) (drop (suc i) t))
at_place s t i a b e g = (λ j. have_same_kinds (drop_item s i a e j) (drop_item t i b g j))

pub kinds_step : (s t : List Attr) (i j : ℕ) (a b : Attr) → slice_get s i ≡ Some a → slice_get t i ≡ Some b → j ≡ suc i → is_same_kind a.kind b.kind ≡ true → have_same_kinds (drop j s) (drop j t) ≡ have_same_kinds (drop i s) (drop i t)
kinds_step s t i j a b e g n h =
    ap (λ k. have_same_kinds (drop k s) (drop k t)) n
    ∙ sym (at_place s t i a b e g ∙ ap (λ k. k && have_same_kinds (drop (suc i) s) (drop (suc i) t)) h)

pub kinds_stop : (s t : List Attr) (i : ℕ) (a b : Attr) → slice_get s i ≡ Some a → slice_get t i ≡ Some b → is_same_kind a.kind b.kind ≡ false → false ≡ have_same_kinds (drop i s) (drop i t)
kinds_stop s t i a b e g h = sym (at_place s t i a b e g ∙ ap (λ k. k && have_same_kinds (drop (suc i) s) (drop (suc i) t)) h)

pub kinds_end : (s t : List Attr) (i : ℕ) → length s ≤ i → length t ≤ i → true ≡ have_same_kinds (drop i s) (drop i t)
kinds_end s t i h g = sym (λ j. have_same_kinds (drop_all i s h j) (drop_all i t g j))

-- ---- a test of each row of a list, and of each member

member_passes : (p : Row → Bool) (xs : List Row) (q : Row) → list_all p xs ≡ true → holds xs q ≡ true → p q ≡ true
member_passes p [] q h m = absurd (false≢true m)
member_passes p (x ∷ xs) q h m =
    let parts = and_parts (p x) (list_all p xs) h in
    by (is_same q x) refl m parts.0 (λ rest. member_passes p xs q parts.1 rest)
  where
    by : (b : Bool) → is_same q x ≡ b → (b || holds xs q) ≡ true → p x ≡ true → (holds xs q ≡ true → p q ≡ true) → p q ≡ true
    by true e g first ih = ap p (same_true q x e) ∙ first
    by false e g first ih = ih g

all_pass : (p : Row → Bool) (xs : List Row) → ((q : Row) → holds xs q ≡ true → p q ≡ true) → list_all p xs ≡ true
all_pass p [] f = refl
all_pass p (x ∷ xs) f =
    and_from (p x) (list_all p xs) (f x (or_left (is_same x x) (holds xs x) (same_itself x)))
    (all_pass p xs (λ q m. f q (or_right (is_same q x) (holds xs q) m)))

-- ---- rows after deltas are among those that were there and those that deltas put in

pub after_of : (p : Row → Bool) (r : ℕ) (rows : List Row) (ds : List Delta) → list_all p rows ≡ true → list_all p (pluses r ds) ≡ true → list_all p (rows_after r rows ds) ≡ true
after_of p r rows ds old put_in = all_pass p (rows_after r rows ds) (λ q m. by q (holds rows q) refl (sym (holds-append rows (pluses r ds) q) ∙ sym (holds-normal (rows ++ pluses r ds) q) ∙ after_met r rows ds q m))
  where
    by : (q : Row) (b : Bool) → holds rows q ≡ b → (holds rows q || holds (pluses r ds) q) ≡ true → p q ≡ true
    by q true e g = member_passes p rows q old e
    by q false e g = member_passes p (pluses r ds) q put_in (sym (ap (λ b. b || holds (pluses r ds) q) e) ∙ g)

-- ---- what a delta of a catalogue puts into a relation is of its schema

atom_passes : (rels : List RelDecl) (a : Atom) (r : ℕ) → is_atom_of rels a ≡ true → nat_eq a.rel r ≡ true → is_row (schema_of rels r) a.row ≡ true
atom_passes rels a r h e = subst (λ n. is_row (schema_of rels n) a.row ≡ true) (eqb-true a.rel r e) (and_parts (nat_lt a.rel (length rels)) (is_row (schema_of rels a.rel) a.row) h).1

named_of : (rels : List RelDecl) (r : ℕ) (xs : List Atom) → list_all (is_atom_of rels) xs ≡ true → list_all (is_row (schema_of rels r)) (rows_named r (plus_atoms xs)) ≡ true
named_of rels r [] h = refl
named_of rels r (a ∷ xs) h =
    let parts = and_parts (is_atom_of rels a) (list_all (is_atom_of rels) xs) h in
    let ih = named_of rels r xs parts.1 in
    elim (is_plus a.sign) as (λ b. list_all (is_row (schema_of rels r)) (rows_named r (cond b (a ∷ plus_atoms xs) (plus_atoms xs))) ≡ true) [
      | true ↦ by (nat_eq a.rel r) refl parts.0 ih
      | false ↦ ih
    ]
  where
    by : (b : Bool) → nat_eq a.rel r ≡ b → is_atom_of rels a ≡ true → list_all (is_row (schema_of rels r)) (rows_named r (plus_atoms xs)) ≡ true → list_all (is_row (schema_of rels r)) (rows_named r (a ∷ plus_atoms xs)) ≡ true
    by true e first ih = rw e (and_from (is_row (schema_of rels r) a.row) _ (atom_passes rels a r first e) ih)
    by false e first ih = rw e ih

pub delta_puts : (rels : List RelDecl) (r : ℕ) (d : Delta) → is_delta_of rels d ≡ true → list_all (is_row (schema_of rels r)) (named_in r Plus d) ≡ true
delta_puts rels r fail h = refl
delta_puts rels r (atoms xs) h = named_of rels r xs h

all_append : {A : Type 0} (p : A → Bool) (xs ys : List A) → list_all p xs ≡ true → list_all p ys ≡ true → list_all p (xs ++ ys) ≡ true
all_append p [] ys h g = g
all_append p (x ∷ xs) ys h g =
    let parts = and_parts (p x) (list_all p xs) h in
    and_from (p x) (list_all p (xs ++ ys)) parts.0 (all_append p xs ys parts.1 g)

pub deltas_put : (rels : List RelDecl) (r : ℕ) (ds : List Delta) → list_all (is_delta_of rels) ds ≡ true → list_all (is_row (schema_of rels r)) (pluses r ds) ≡ true
deltas_put rels r [] h = refl
deltas_put rels r (d ∷ ds) h =
    let parts = and_parts (is_delta_of rels d) (list_all (is_delta_of rels) ds) h in
    all_append (is_row (schema_of rels r)) (named_in r Plus d) (pluses r ds) (delta_puts rels r d parts.0) (deltas_put rels r ds parts.1)

pub path_known : (rels : List RelDecl) (ls : List Layer) (tip : Option ℕ) → AreKnown rels ls → list_all (is_delta_of rels) (path ls tip) ≡ true
path_known rels [] tip h = refl
path_known rels (l ∷ ls) None h = refl
path_known rels (l ∷ ls) (Some i) h =
    elim (nat_eq i (length ls)) as (λ b. list_all (is_delta_of rels) (cond b (path ls l.parent ++ l.delta ∷ []) (path ls (Some i))) ≡ true) [
      | true ↦ all_append (is_delta_of rels) (path ls l.parent) (l.delta ∷ []) (path_known rels ls l.parent h.1) (and_from (is_delta_of rels l.delta) true h.0 refl)
      | false ↦ path_known rels ls (Some i) h.1
    ]

pub with_known : (rels : List RelDecl) (ls : List Layer) (i : ℕ) (d : Delta) → is_delta_of rels d ≡ true → AreKnown rels ls → AreKnown rels (with_delta ls i d)
with_known rels [] i d h valid = tt
with_known rels (l ∷ ls) i d h valid =
    elim (nat_eq i (length ls)) as (λ b. AreKnown rels (cond b (record { parent = l.parent; delta = d } ∷ ls) (l ∷ with_delta ls i d))) [
      | true ↦ (h, valid.1)
      | false ↦ (valid.0, with_known rels ls i d h valid.1)
    ]

pub known_at : (rels : List RelDecl) (ls : List Layer) (i : ℕ) (d : Delta) → AreKnown rels ls → option_map (λ (l : Layer). l.delta) (layer_at ls i) ≡ Some d → is_delta_of rels d ≡ true
known_at rels [] i d h e = absurd (none-some d e)
known_at rels (l ∷ ls) i d h e =
    elim (nat_eq i (length ls)) as (λ b. option_map (λ (l : Layer). l.delta) (cond b (Some l) (layer_at ls i)) ≡ Some d → is_delta_of rels d ≡ true) [
      | true ↦ λ g. subst (λ (x : Delta). is_delta_of rels x ≡ true) (same_Some l.delta d g) h.0
      | false ↦ λ g. known_at rels ls i d h.1 g
    ] e

pub pending_of_known : (rels : List RelDecl) (ls : List Layer) → AreKnown rels ls → is_delta_of rels (pending_of ls) ≡ true
pending_of_known rels [] h = refl
pending_of_known rels (l ∷ []) h = h.0
pending_of_known rels (l ∷ k ∷ ls) h = pending_of_known rels (k ∷ ls) h.1

-- ---- a schema of the same kinds as the catalogue's

-- all rows of one schema are of another with the same kinds
pub pass_alike : (s t : List Attr) (rows : List Row) → have_same_kinds s t ≡ true → list_all (is_row t) rows ≡ true → list_all (is_row s) rows ≡ true
pass_alike s t rows h g = rows_alike s t rows h ∙ g

pub rows_after-append : (r : ℕ) (rows : List Row) (ds es : List Delta) → rows_after r rows (ds ++ es) ≡ rows_after r (rows_after r rows ds) es
rows_after-append r rows [] es = refl
rows_after-append r rows (d ∷ ds) es = rows_after-append r (changed r rows d) ds es

-- the rows of a relation of a state are of its schema
pub state_rows : (rels : List RelDecl) (s : State) (r : ℕ) (rows : List Row) → IsState rels s → slice_get s r ≡ Some rows → list_all (is_row (schema_of rels r)) rows ≡ true
state_rows [] [] r rows h e = cc
state_rows (d ∷ rels) (x ∷ s) zero rows h e =
    subst (λ (xs : List Row). list_all (is_row d.schema) xs ≡ true) (same_Some x rows e) (list_all-from_AllPass (is_row d.schema) x (λ k o within. is_row-from_IsRow d.schema (slice_index_or x k o) (h.0.1 k o within)))
state_rows (d ∷ rels) (x ∷ s) (suc r) rows h e = state_rows rels s r rows h.1 e
state_rows rels s r rows h e = absurd h

pub committed_rows : (rels : List RelDecl) (s : State) (ds : List Delta) (r : ℕ) (rows : List Row) → IsState rels s → list_all (is_delta_of rels) ds ≡ true → slice_get s r ≡ Some rows → list_all (is_row (schema_of rels r)) (rows_after r rows ds) ≡ true
committed_rows rels s ds r rows h g e = after_of (is_row (schema_of rels r)) r rows ds (state_rows rels s r rows h e) (deltas_put rels r ds g)

-- ---- the rows of a relation under a layer

found_of : (rels : List RelDecl) (s : State) (r : ℕ) (d : RelDecl) → IsState rels s → slice_get rels r ≡ Some d → slice_get s r ≡ Some (rows_at s r)
found_of [] s r d h e = absurd (none-some d e)
found_of (x ∷ rels) [] r d h e = absurd h
found_of (x ∷ rels) (rows ∷ s) zero d h e = refl
found_of (x ∷ rels) (rows ∷ s) (suc r) d h e = found_of rels s r d h.1 e

-- where the schema of the base's relation and that of the layers' have the same kinds, each row is of it
pub seen_known : (rels own : List RelDecl) (s : State) (ds : List Delta) (ls : List Layer) (k r : ℕ) (d e : RelDecl) → IsState rels s → list_all (is_delta_of rels) ds ≡ true →
    IsTree ls → AreLayers ls → AreKnown own ls → k < length ls → slice_get rels r ≡ Some d → slice_get own r ≡ Some e → have_same_kinds d.schema e.schema ≡ true →
    list_all (is_row d.schema) (rows_at (seen_at (after_all s ds) ls k) r) ≡ true
seen_known rels own s ds ls k r d e state known tree layers upon within there other same =
    let rows = rows_at s r in
    let es = path ls (Some k) in
    let found = found_of rels s r d state there in
    let mine = schema_found rels r d there in
    let base = subst (λ (t : List Attr). list_all (is_row t) (rows_after r rows ds) ≡ true) (sym mine) (committed_rows rels s ds r rows state known found) in
    let puts = subst (λ (t : List Attr). list_all (is_row t) (pluses r es) ≡ true) (sym (schema_found own r e other)) (deltas_put own r es (path_known own ls (Some k) upon)) in
    let all = after_of (is_row d.schema) r (rows_after r rows ds) es base (pass_alike d.schema e.schema (pluses r es) same puts) in
    ap (list_all (is_row d.schema)) (ap (λ t. rows_at t r) (sym (read_state s ds ls k tree layers within)) ∙ rows_got _ r _ (rel_after r s (ds ++ es) rows found) ∙ rows_after-append r rows ds es) ∙ all
