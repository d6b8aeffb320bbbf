-- Relations found by name in the catalogue of a widened database, and their rows.
use Rattle.std.proofs.Common.{◌≡◌, ℕ, zero, suc, ◌+◌, ◌≤◌, Bool, true, false, cond, ◌||◌, List, [], ◌∷◌, ◌++◌, Option, None, Some, length, map, drop, refl, sym, ap, subst, ◌∙◌, arith, append_assoc, append-nil}
use Rattle.std.specs.Prelude.{All, slice_get}
use Rattle.std.specs.List.{position_from, filter, find}
use Rattle.std.specs.Option.{option_map}
use Rattle.std.proofs.lemmas.Option.{none-some, same_Some, slice_get-map}
use Rattle.std.proofs.lemmas.List.Elements.{All-head, All-tail}
use Rattle.hera_sets.specs.Rows.{Row, is_same, is_past, holds, IsAscending}
use Rattle.hera_sets.proofs.Order.{same_true, same_itself}
use Rattle.hera_sets.proofs.Lists.{filter_past_step, filter_none_found, ascending_front}
use Rattle.hera_meaning.specs.declared.schemas.Attr.{Attr}
use Rattle.hera_meaning.specs.declared.schemas.RelDecl.{RelDecl}
use Rattle.hera_meaning.specs.Schemas.{AreDistinct}
use Rattle.hera_meaning.specs.Catalogues.{IsCatalogue, decl_name}
use Rattle.hera_meaning.specs.Deltas.{State, IsState}
use Rattle.hera_meaning.specs.Rows.{IsRow, row_of}
use Rattle.hera_meaning.specs.Wider.{blanks, widened_row, widened_rows, keeps, Wider, first_narrowed, widen_of}
use Rattle.hera_meaning.proofs.WiderLaws.{none_narrowed}
use Rattle.hera_row.specs.Numbers.{number_named}
use Rattle.hera_row.proofs.Widened.{kept_found}
use Rattle.half_writer.specs.declared.pages.HalfFault.{HalfFault}
use Rattle.half_writer.specs.declared.pages.HalfFault.TheVariants.{Full, Memory}
use Rattle.hera_store.specs.Databases.{Database}
use Rattle.hera_store.specs.Widened.{BeginsAs}
use Rattle.hera_store.specs.Faults.{IsPrintRefusal, IsWidePrintRefusal, check_fault, widen_fault}

-- ---- names

-- what is found has the name, at a place of the list
record FoundAt (i : ℕ) (name : Row) (rels : List RelDecl) (k : ℕ) : Type 0 where
  pub place : ℕ
  pub decl : RelDecl
  pub at : k ≡ i + place
  pub here : slice_get rels place ≡ Some decl
  pub named : decl.name ≡ name

found_at : (i : ℕ) (name : Row) (rels : List RelDecl) (k : ℕ) → position_from (λ (d : RelDecl). is_same name d.name) i rels ≡ Some k → FoundAt i name rels k
found_at i name [] k e = absurd cc
found_at i name (x ∷ rels) k e = by (is_same name x.name) refl e (λ h. found_at (i + 1) name rels k h)
  where
    by : (b : Bool) → is_same name x.name ≡ b → cond b (Some i) (position_from (λ (d : RelDecl). is_same name d.name) (i + 1) rels) ≡ Some k →
        (position_from (λ (d : RelDecl). is_same name d.name) (i + 1) rels ≡ Some k → FoundAt (i + 1) name rels k) → FoundAt i name (x ∷ rels) k
    by true t e ih = let s : i ≡ k = cc in record { place = 0; decl = x; at = omega (arith, s); here = refl; named = sym (same_true name x.name t) }
    by false t e ih = let h = ih e in let a = h.at in record { place = suc h.place; decl = h.decl; at = omega (arith, a); here = h.here; named = h.named }

-- the number of a name is its place
pub record IsNamed (name : Row) (rels : List RelDecl) (k : ℕ) : Type 0 where
  pub decl : RelDecl
  pub here : slice_get rels k ≡ Some decl
  pub named : decl.name ≡ name

pub is_named : (name : Row) (rels : List RelDecl) (k : ℕ) → number_named name rels ≡ Some k → IsNamed name rels k
is_named name rels k e =
    let h = found_at 0 name rels k e in
    let a = h.at in
    let s : h.place ≡ k = omega (arith, a) in
    record { decl = h.decl; here = ap (λ z. slice_get rels z) (sym s) ∙ h.here; named = h.named }

named_within : (rels : List RelDecl) (k : ℕ) (e : RelDecl) (name : Row) → slice_get rels k ≡ Some e → e.name ≡ name → holds (map decl_name rels) name ≡ true
named_within [] k e name h n = absurd cc
named_within (d ∷ rels) zero e name h n =
    let s : d ≡ e = cc in
    let t : is_same name d.name ≡ true = ap (λ z. is_same name z) (ap (λ (x : RelDecl). x.name) s ∙ n) ∙ same_itself name in
    rw t refl
named_within (d ∷ rels) (suc k) e name h n = by (is_same name d.name) (named_within rels k e name h n)
  where
    by : (b : Bool) → holds (map decl_name rels) name ≡ true → (b || holds (map decl_name rels) name) ≡ true
    by true more = refl
    by false more = more

-- in a catalogue the relation of a name is found at its place
named_at : (i : ℕ) (rels : List RelDecl) (k : ℕ) (e : RelDecl) (name : Row) → AreDistinct (map decl_name rels) → slice_get rels k ≡ Some e → e.name ≡ name → position_from (λ (d : RelDecl). is_same name d.name) i rels ≡ Some (i + k)
named_at i [] k e name d h n = absurd cc
named_at i (x ∷ rels) zero e name d h n =
    let s : x ≡ e = cc in
    let t : is_same name x.name ≡ true = ap (λ z. is_same name z) (ap (λ (y : RelDecl). y.name) s ∙ n) ∙ same_itself name in
    rw t (ap (λ z. Some z) (let q : i ≡ i + 0 = omega arith in q))
named_at i (x ∷ rels) (suc k) e name d h n = by (is_same name x.name) refl (named_at (i + 1) rels k e name d.1 h n)
  where
    by : (b : Bool) → is_same name x.name ≡ b → position_from (λ (d : RelDecl). is_same name d.name) (i + 1) rels ≡ Some ((i + 1) + k) → cond b (Some i) (position_from (λ (d : RelDecl). is_same name d.name) (i + 1) rels) ≡ Some (i + suc k)
    by true t ih =
        let m : holds (map decl_name rels) x.name ≡ true = ap (λ z. holds (map decl_name rels) z) (sym (same_true name x.name t)) ∙ named_within rels k e name h n in
        let both : true ≡ false = sym m ∙ d.0 in absurd cc
    by false t ih = ih ∙ ap (λ z. Some z) (let q : (i + 1) + k ≡ i + suc k = omega arith in q)

all_at : {X : Type 0} (P : X → Type 0) (xs : List X) (i : ℕ) (x : X) → All P xs → slice_get xs i ≡ Some x → P x
all_at P [] i x all e = absurd (none-some x e)
all_at P (y ∷ xs) zero x all e = subst P (same_Some y x e) (All-head P y xs all)
all_at P (y ∷ xs) (suc i) x all e = all_at P xs i x (All-tail P y xs all) e

-- a relation of a wider catalogue begins as the one that had its name
pub begins_as : (old new : List RelDecl) (k : ℕ) (d : RelDecl) → IsCatalogue new → Wider old new → slice_get new k ≡ Some d → BeginsAs old d
begins_as old new k d catalogue wider here number o found held =
    let n = is_named d.name old number found in
    let same : n.decl ≡ o = same_Some n.decl o (sym n.here ∙ held) in
    let named : d.name ≡ o.name = sym n.named ∙ ap (λ (x : RelDecl). x.name) same in
    let zero_on : 0 + k ≡ k = omega arith in
    let at : number_named o.name new ≡ Some k = named_at 0 new k d o.name catalogue.distinct here named ∙ ap (λ z. Some z) zero_on in
    sym (kept_found new o k d at here) ∙ all_at (λ d. keeps new d ≡ true) old number o wider held

-- ---- the first relation that is narrowed

drop_at : {X : Type 0} (xs : List X) (i : ℕ) (x : X) → slice_get xs i ≡ Some x → drop i xs ≡ x ∷ drop (i + 1) xs
drop_at [] i x e = absurd (none-some x e)
drop_at (y ∷ xs) zero x e = ap (λ z. z ∷ xs) (same_Some y x e)
drop_at (y ∷ xs) (suc i) x e =
    let next : suc (i + 1) ≡ suc i + 1 = omega arith in
    drop_at xs i x e ∙ ap (λ k. x ∷ drop k (y ∷ xs)) next

drop_past : {X : Type 0} (xs : List X) (i : ℕ) → length xs ≤ i → drop i xs ≡ []
drop_past [] zero le = refl
drop_past [] (suc i) le = refl
drop_past (x ∷ xs) zero le = absurd (omega (arith, le))
drop_past (x ∷ xs) (suc i) le = drop_past xs i (omega (arith, le))

module _ (old new : List RelDecl) (i : ℕ) (so_far : first_narrowed old new ≡ first_narrowed (drop i old) new) where
  opened : (d : RelDecl) → slice_get old i ≡ Some d → first_narrowed old new ≡ cond (keeps new d) (first_narrowed (drop (i + 1) old) new) (Some d.name)
  opened d here = so_far ∙ ap (λ (rels : List RelDecl). first_narrowed rels new) (drop_at old i d here)

  pub narrowed_here : (d : RelDecl) → slice_get old i ≡ Some d → keeps new d ≡ false → first_narrowed old new ≡ Some d.name
  narrowed_here d here kept = opened d here ∙ ap (λ b. cond b (first_narrowed (drop (i + 1) old) new) (Some d.name)) kept

  pub kept_here : (d : RelDecl) → slice_get old i ≡ Some d → keeps new d ≡ true → first_narrowed old new ≡ first_narrowed (drop (i + 1) old) new
  kept_here d here kept = opened d here ∙ ap (λ b. cond b (first_narrowed (drop (i + 1) old) new) (Some d.name)) kept

  pub all_kept : length old ≤ i → Wider old new
  all_kept past = none_narrowed old new (so_far ∙ ap (λ (rels : List RelDecl). first_narrowed rels new) (drop_past old i past))

-- ---- rows widened one by one

pub found_holds : (P : Row → Type 0) (p : Row → Bool) (xs : List Row) (r : Row) → All P xs → find p xs ≡ Some r → P r
found_holds P p [] r all e = absurd (none-some r e)
found_holds P p (x ∷ xs) r all e = by (p x) e (λ g. found_holds P p xs r (All-tail P x xs all) g)
  where
    by : (b : Bool) → cond b (Some x) (find p xs) ≡ Some r → (find p xs ≡ Some r → P r) → P r
    by true e more = subst P (same_Some x r e) (All-head P x xs all)
    by false e more = more e

module _ (w : Row → Row) (done xs : List Row) (b : Option Row) (so_far : done ++ map w (filter (is_past b) xs) ≡ map w xs) where
  pub wide_step : (r : Row) → IsAscending xs → find (is_past b) xs ≡ Some r → (done ++ w r ∷ []) ++ map w (filter (is_past (Some r)) xs) ≡ map w xs
  wide_step r up h = append_assoc done (w r ∷ []) (map w (filter (is_past (Some r)) xs)) ∙ ap (λ t. done ++ map w t) (sym (filter_past_step b xs r up h)) ∙ so_far

  pub wide_push : (r : Row) → IsAscending xs → find (is_past b) xs ≡ Some r → IsAscending (map w xs) → IsAscending (done ++ w r ∷ [])
  wide_push r up h wide = ascending_front (done ++ w r ∷ []) (map w (filter (is_past (Some r)) xs)) (subst IsAscending (sym (wide_step r up h)) wide)

  pub wide_end : find (is_past b) xs ≡ None → done ≡ map w xs
  wide_end h = sym (append-nil done) ∙ ap (λ t. done ++ map w t) (sym (filter_none_found (is_past b) xs h)) ∙ so_far

-- where no attribute is added, the rows are the same
pub none_added : (old new : List Attr) (rows : List Row) → length new ≤ length old → map (widened_row old new) rows ≡ rows
none_added old new [] le = refl
none_added old new (r ∷ rows) le =
    let same : widened_row old new r ≡ r = ap (λ (attrs : List Attr). r ++ row_of (blanks attrs)) (drop_past new (length old) le) ∙ append-nil r in
    (λ i. same i ∷ none_added old new rows le i)

-- ---- states

pub rows_valid : (rels : List RelDecl) (s : State) (i : ℕ) (d : RelDecl) (rows : List Row) → IsState rels s → slice_get rels i ≡ Some d → slice_get s i ≡ Some rows → All (IsRow d.schema) rows
rows_valid [] s i d rows valid here held = absurd (none-some d here)
rows_valid (x ∷ rels) [] i d rows valid here held = absurd valid
rows_valid (x ∷ rels) (r ∷ s) zero d rows valid here held =
    subst (λ (d : RelDecl). All (IsRow d.schema) rows) (same_Some x d here) (subst (All (IsRow x.schema)) (same_Some r rows held) valid.0.1)
rows_valid (x ∷ rels) (r ∷ s) (suc i) d rows valid here held = rows_valid rels s i d rows valid.1 here held

-- what a widened state has at a number
pub widened_at : (old : List RelDecl) (s : State) (new : List RelDecl) (i : ℕ) (d : RelDecl) → slice_get new i ≡ Some d → slice_get (widen_of old s new) i ≡ Some (widened_rows d.name d.schema old s)
widened_at old s new i d here = slice_get-map (λ (d : RelDecl). widened_rows d.name d.schema old s) new i ∙ ap (option_map (λ (d : RelDecl). widened_rows d.name d.schema old s)) here

-- ---- refusals

pub print_widen : (db : Database) (limit : ℕ) (fault : HalfFault) → IsPrintRefusal db limit (check_fault fault) → IsWidePrintRefusal db limit (widen_fault fault)
print_widen db limit (Full need most) full = full
print_widen db limit Memory full = tt
