-- The newest walk goes on in its place.
use Rattle.std.proofs.Common.{◌≡◌, ℕ, ◌+◌, ◌<◌, true, List, [], ◌∷◌, Option, None, Some, length, map, is_some, refl, sym, ap, ◌∙◌, arith}
use Rattle.std.specs.Prelude.{slice_get}
use Rattle.std.proofs.lemmas.Bool.{lt-ltb, false≢true}
use Rattle.std.proofs.lemmas.Option.{none-some, same_Some}
use Rattle.hera_sets.specs.Rows.{Row}
use Rattle.hera_meaning.specs.Deltas.{State}
use Rattle.hera_meaning.specs.Values.{Value, tuple}
use Rattle.hera_meaning.specs.Worlds.{set_local}
use Rattle.when_overlay.specs.declared.layers.Layer.{Layer}
use Rattle.hera_code.specs.declared.instrs.Code.{Code}
use Rattle.hera_code.specs.Machine.{Machine, Walk, Step, quiet, needs, needs_that, needs_slot, needs_address, on_walk, next_row}
use Rattle.hera_reads.specs.Walking.{Pace, walk_at, on_newest, current_in, at_row, gone_on}
use Rattle.hera_steps.specs.Working.{Work, machine_at}

-- ---- what an instruction needs

slot_there : (o : Option Value) (t : Step) → is_some o ≡ true → t ≡ needs o (λ v. t)
slot_there None t h = absurd (false≢true h)
slot_there (Some v) t h = refl

address_there : (code : Code) (a : ℕ) (t : Step) → a < length code.instrs → t ≡ needs_address code a t
address_there code a t h = sym (ap (λ b. needs_that b t) (lt-ltb a (length code.instrs) h))

-- ---- a walk that goes on

abbrev current_at : List Walk → Option Row
current_at [] = None
current_at (w ∷ ws) = w.current

currents : (s : State) (ls : List Layer) (ws : List Pace) → current_in ws ≡ current_at (map (walk_at s ls) ws)
currents s ls [] = refl
currents s ls (w ∷ ws) = refl

some_map : {A B : Type 0} → (f : A → B) (xs : List A) → 0 < length xs → 0 < length (map f xs)
some_map f [] h = absurd (omega (arith, h))
some_map f (x ∷ xs) h = omega arith

at_end : (m : Machine) (i a : ℕ) (rows : List Row) (x : Walk) (xs : List Walk) → None ≡ (at_row rows x).current →
    quiet (record m { at = a; walks = at_row rows x ∷ xs }) ≡ next_row i a rows x xs m
at_end m i a [] x xs h = refl
at_end m i a (r ∷ rows) x xs h = absurd (none-some r h)

at_next : (m : Machine) (i a : ℕ) (rows : List Row) (x : Walk) (xs : List Walk) (r : Row) → Some r ≡ (at_row rows x).current →
    quiet (record m { at = m.at + 1; locals = set_local m.locals i (tuple r); walks = at_row rows x ∷ xs }) ≡ next_row i a rows x xs m
at_next m i a [] x xs r h = absurd (none-some r (sym h))
at_next m i a (y ∷ rows) x xs r h =
    ap (λ z. quiet (record m { at = m.at + 1; locals = set_local m.locals i (tuple z); walks = record x { rows = rows; current = Some y } ∷ xs })) (same_Some r y h)

-- what the instruction tells of a machine with these walks
abbrev pub next_told : Code → ℕ → ℕ → List Walk → Machine → Step
next_told code i a walks m = on_walk walks (λ w ws. needs_slot i m (needs_address code a (next_row i a w.rows w ws m)))

module _ (code : Code) (i a : ℕ) (m : Machine) (slot : is_some (slice_get m.locals i) ≡ true) (address : a < length code.instrs) where
  on_end : (olds news : List Walk) → news ≡ on_newest gone_on olds → 0 < length olds → None ≡ current_at news → quiet (record m { at = a; walks = news }) ≡ next_told code i a olds m
  on_end [] news e some none = absurd (omega (arith, some))
  on_end (x ∷ xs) news e some none =
      ap (λ ws. quiet (record m { at = a; walks = ws })) e
      ∙ at_end m i a x.rows x xs (none ∙ ap current_at e)
      ∙ address_there code a (next_row i a x.rows x xs m) address
      ∙ slot_there (slice_get m.locals i) (needs_address code a (next_row i a x.rows x xs m)) slot

  on_row : (olds news : List Walk) (r : Row) → news ≡ on_newest gone_on olds → 0 < length olds → Some r ≡ current_at news →
      quiet (record m { at = m.at + 1; locals = set_local m.locals i (tuple r); walks = news }) ≡ next_told code i a olds m
  on_row [] news r e some is = absurd (omega (arith, some))
  on_row (x ∷ xs) news r e some is =
      ap (λ ws. quiet (record m { at = m.at + 1; locals = set_local m.locals i (tuple r); walks = ws })) e
      ∙ at_next m i a x.rows x xs r (is ∙ ap current_at e)
      ∙ address_there code a (next_row i a x.rows x xs m) address
      ∙ slot_there (slice_get m.locals i) (needs_address code a (next_row i a x.rows x xs m)) slot

abbrev pub next_at : State → Code → ℕ → ℕ → Work → Step
next_at s code i a w = next_told code i a (machine_at s w).walks (machine_at s w)

module _ (s : State) (code : Code) (i a : ℕ) (w old : Work) (ws : List Pace) (same : w ≡ old) (slot : is_some (slice_get w.locals i) ≡ true) (address : a < length code.instrs) (some : 0 < length w.walks)
    (on : map (walk_at s w.layers) ws ≡ on_newest gone_on (map (walk_at s w.layers) w.walks)) where
  pub ended_told : None ≡ current_in ws → quiet (machine_at s (record w { at = a; walks = ws })) ≡ next_at s code i a old
  ended_told none =
      on_end code i a (machine_at s w) slot address (map (walk_at s w.layers) w.walks) (map (walk_at s w.layers) ws) on (some_map (walk_at s w.layers) w.walks some) (none ∙ currents s w.layers ws)
      ∙ ap (next_at s code i a) same

  pub moved_told : (r : Row) (locals : List Value) → Some r ≡ current_in ws → locals ≡ set_local w.locals i (tuple r) →
      quiet (machine_at s (record w { at = w.at + 1; locals = locals; walks = ws })) ≡ next_at s code i a old
  moved_told r locals is put =
      ap (λ ls. quiet (machine_at s (record w { at = w.at + 1; locals = ls; walks = ws }))) put
      ∙ on_row code i a (machine_at s w) slot address (map (walk_at s w.layers) w.walks) (map (walk_at s w.layers) ws) r on (some_map (walk_at s w.layers) w.walks some) (is ∙ currents s w.layers ws)
      ∙ ap (next_at s code i a) same
