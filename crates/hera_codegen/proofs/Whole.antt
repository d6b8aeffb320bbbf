-- The code of a sound program does what the program means.
use Rattle.std.proofs.Common.{◌≡◌, ℕ, suc, ◌+◌, ◌-◌, ◌*◌, ◌<◌, ◌≤◌, ◌&&◌, ◌⊎◌, true, List, [], ◌∷◌, length, Some, None, refl, sym, ap, ◌∙◌, subst, arith, inl, inr}
use Rattle.std.specs.Prelude.{slice_get}
use Rattle.std.specs.List.{AllByRecursion}
use Rattle.std.proofs.lemmas.Bool.{and_parts, and_from}
use Rattle.std.proofs.lemmas.List.Elements.{recursion_from_All, All-from_recursion}
use Rattle.hera_sets.specs.Rows.{Row}
use Rattle.hera_meaning.specs.declared.scalars.Scalar.{Scalar}
use Rattle.hera_meaning.specs.declared.schemas.Attr.{Attr}
use Rattle.hera_meaning.specs.declared.schemas.RelDecl.{RelDecl}
use Rattle.hera_meaning.specs.Scalars.{is_kind, is_scalar, is_tuple}
use Rattle.hera_meaning.specs.Rows.{IsRow}
use Rattle.hera_meaning.specs.Deltas.{Atom, Delta, fail, atoms, State, IsState, IsAtomOf, IsDelta, IsDeltaOf, schema_of}
use Rattle.hera_meaning.specs.Hosts.{Hosts}
use Rattle.hera_meaning.specs.Printed.{trap_line, spent_line}
use Rattle.hera_meaning.specs.Trees.{Body_tree, Program_tree}
use Rattle.hera_meaning.specs.Worlds.{Event, out, store, world_at, locals_from, Ending, goes_on, returned, traps, runs_out}
use Rattle.hera_meaning.specs.Run.{calls_at, report_of, run_to, run_of}
use Rattle.hera_meaning.specs.Statements.{exec_block}
use Rattle.hera_meaning.specs.Forms.{kinds_of}
use Rattle.hera_meaning.specs.Sound.{Body_forms, scope_of, Shaped, Sound}
use Rattle.hera_code.specs.Scheme.{in_main, body_code, code_from, code_of}
use Rattle.hera_code.specs.Machine.{Stop, ended}
use Rattle.hera_code.specs.Reached.{Reached, still, over, exec_code, main_slots, start_of, code_at}
use Rattle.hera_codegen.specs.Correct.{step_bound, events_in, IsPrefix, AreStoresOf}
use Rattle.hera_codegen.proofs.Codec.{IsTupleOf, IsRowOf}
use Rattle.hera_codegen.proofs.HasForm.{AreRowsOf, AreAtomsIn, IsDeltaIn, IsStateIn}
use Rattle.hera_codegen.proofs.Slots.{within_there, there_within}
use Rattle.hera_codegen.proofs.Places.{HasAt}
use Rattle.hera_codegen.proofs.Facts.{Facts}
use Rattle.hera_codegen.proofs.Operations.{all_facts}
use Rattle.hera_codegen.proofs.Steps.{Setting, Ends}
use Rattle.hera_codegen.proofs.Proper.{AreFine, fine_more, proper_start}
use Rattle.hera_codegen.proofs.Executes.{ThenDo}
use Rattle.hera_codegen.proofs.Depth.{main_there, body_is_at, Done, Home, main_runs}
use Rattle.hera_codegen.proofs.Bound.{left, IsOver, IsStuck, stops, over_stays, one_end}
use Rattle.hera_codegen.proofs.Forwards.{code_forward}
use Rattle.hera_codegen.proofs.Fronts.{fronts}

-- ---- rows, states and deltas, by schemas and by kinds

tuple_in : (schema : List Attr) (ss : List Scalar) → is_tuple schema ss ≡ true → IsTupleOf (kinds_of schema) ss
tuple_in [] [] h = tt
tuple_in [] (s ∷ ss) h = cc
tuple_in (a ∷ attrs) [] h = cc
tuple_in (a ∷ attrs) (s ∷ ss) h =
    let k = and_parts (is_kind a.kind s && is_scalar s) (is_tuple attrs ss) h in
    let q = and_parts (is_kind a.kind s) (is_scalar s) k.0 in
    ((q.0, q.1), tuple_in attrs ss k.1)

tuple_out : (schema : List Attr) (ss : List Scalar) → IsTupleOf (kinds_of schema) ss → is_tuple schema ss ≡ true
tuple_out [] [] h = refl
tuple_out [] (s ∷ ss) h = absurd h
tuple_out (a ∷ attrs) [] h = absurd h
tuple_out (a ∷ attrs) (s ∷ ss) h = and_from (is_kind a.kind s && is_scalar s) (is_tuple attrs ss) (and_from (is_kind a.kind s) (is_scalar s) h.0.0 h.0.1) (tuple_out attrs ss h.1)

row_in_kinds : (schema : List Attr) (r : Row) → IsRow schema r → IsRowOf (kinds_of schema) r
row_in_kinds schema r h = record { fields = h.0; fields_are = tuple_in schema h.0 h.1; row_is = h.2 }

row_of_schema : (schema : List Attr) (r : Row) → IsRowOf (kinds_of schema) r → IsRow schema r
row_of_schema schema r h = (h.fields, tuple_out schema h.fields h.fields_are, h.row_is)

rows_in_kinds : (schema : List Attr) (rows : List Row) → AllByRecursion (IsRow schema) rows → AreRowsOf (kinds_of schema) rows
rows_in_kinds schema [] h = tt
rows_in_kinds schema (r ∷ rows) h = (row_in_kinds schema r h.0, rows_in_kinds schema rows h.1)

rows_of_schema : (schema : List Attr) (rows : List Row) → AreRowsOf (kinds_of schema) rows → AllByRecursion (IsRow schema) rows
rows_of_schema schema [] h = tt
rows_of_schema schema (r ∷ rows) h = (row_of_schema schema r h.0, rows_of_schema schema rows h.1)

pub state_in_kinds : (rels : List RelDecl) (s : State) → IsState rels s → IsStateIn rels s
state_in_kinds [] [] h = tt
state_in_kinds [] (rows ∷ s) h = absurd h
state_in_kinds (d ∷ rels) [] h = absurd h
state_in_kinds (d ∷ rels) (rows ∷ s) h = (record { ascending = h.0.0; rows_are = rows_in_kinds d.schema rows (recursion_from_All (IsRow d.schema) rows h.0.1) }, state_in_kinds rels s h.1)

pub state_of_schemas : (rels : List RelDecl) (s : State) → IsStateIn rels s → IsState rels s
state_of_schemas [] [] h = tt
state_of_schemas [] (rows ∷ s) h = absurd h
state_of_schemas (d ∷ rels) [] h = absurd h
state_of_schemas (d ∷ rels) (rows ∷ s) h = ((h.0.ascending, All-from_recursion (IsRow d.schema) rows (rows_of_schema d.schema rows h.0.rows_are)), state_of_schemas rels s h.1)

atoms_of_schemas : (rels : List RelDecl) (xs : List Atom) → AreAtomsIn rels xs → AllByRecursion (IsAtomOf rels) xs
atoms_of_schemas rels [] h = tt
atoms_of_schemas rels (a ∷ xs) h = (record { known = h.0.known; row = row_of_schema (schema_of rels a.rel) a.row h.0.row_is }, atoms_of_schemas rels xs h.1)

delta_ordered : (rels : List RelDecl) (d : Delta) → IsDeltaIn rels d → IsDelta d
delta_ordered rels fail h = tt
delta_ordered rels (atoms xs) h = h.ascending

delta_of_schemas : (rels : List RelDecl) (d : Delta) → IsDeltaIn rels d → IsDeltaOf rels d
delta_of_schemas rels fail h = tt
delta_of_schemas rels (atoms xs) h = All-from_recursion (IsAtomOf rels) xs (atoms_of_schemas rels xs h.atoms_are)

pub stores_of_schemas : (rels : List RelDecl) (es : List Event) → AreFine rels es → AreStoresOf rels es
stores_of_schemas rels [] h = tt
stores_of_schemas rels (out bytes ∷ es) h = stores_of_schemas rels es h
stores_of_schemas rels (store s d ∷ es) h = ((state_of_schemas rels s h.0.0, delta_ordered rels d h.0.1, delta_of_schemas rels d h.0.1, h.0.2), stores_of_schemas rels es h.1)

-- ---- the end of main

-- the code ends as the meaning does, with stores of the relations
abbrev Goal : List RelDecl → Ending → Reached → Type 0
Goal rels e r = (r ≡ over (report_of e).events (ended (report_of e).finish)) × AreFine rels (report_of e).events

reaches : (p : Program_tree) (hosts : Hosts) (forms : List Body_forms) (shaped : Shaped p hosts forms) (facts : Facts p.relations hosts) (b : Body_tree) (own : Body_forms) (e : Ending) →
    ThenDo (code_of p) (scope_of p hosts forms b own) (Goal p.relations e) facts None e (Done p hosts forms shaped (Goal p.relations e) facts) (Home p hosts forms shaped (Goal p.relations e) facts)
reaches p hosts forms shaped facts b own (goes_on ls w n) = λ proper. (refl, proper.fine)
reaches p hosts forms shaped facts b own (returned v w n) = λ proper. (refl, proper.fine)
reaches p hosts forms shaped facts b own (traps name at es) = λ fine. (refl, fine_more p.relations es (out (trap_line name at) ∷ []) fine tt)
reaches p hosts forms shaped facts b own (runs_out es) = λ fine. (refl, fine_more p.relations es (out spent_line ∷ []) fine tt)

main_at : (bodies : List Body_tree) (b : Body_tree) → slice_get bodies 0 ≡ Some b → HasAt (code_from bodies).instrs 0 (body_code in_main b.block 0)
main_at [] b e = cc
main_at (c ∷ bs) b e = let some_is : c ≡ b = cc in subst (λ b. HasAt (code_from (c ∷ bs)).instrs 0 (body_code in_main b.block 0)) some_is (main_there c bs)

slots_at : (bodies : List Body_tree) (b : Body_tree) → slice_get bodies 0 ≡ Some b → main_slots (code_from bodies).bodies ≡ b.slots
slots_at [] b e = cc
slots_at (c ∷ bs) b e = let some_is : c ≡ b = cc in ap (λ (b : Body_tree). b.slots) some_is

module _ (p : Program_tree) (hosts : Hosts) (s : State) (n : ℕ) (sound : Sound p hosts) (state : IsState p.relations s) where
  abbrev t : Setting
  t = record { code = code_of p; rels = p.relations; hosts = hosts }

  facts : Facts p.relations hosts
  facts = all_facts p.relations hosts sound.shaped.specs

  -- the run of the code comes to the end of the meaning's
  ran : Ends t (Goal p.relations (run_to n p s hosts n)) s (start_of (code_of p) n) []
  ran =
      let shaped = sound.shaped in
      let b = shaped.main.body in
      let e0 : 0 < length p.bodies = there_within p.bodies 0 b shaped.main.here in
      let q = within_there sound.forms 0 (omega (arith, e0, shaped.many)) in
      let in_kinds = state_in_kinds p.relations s state in
      let e = exec_block p.relations hosts (calls_at p hosts n) b.block (locals_from b.slots []) (world_at s) n in
      let same : e ≡ run_to n p s hosts n = ap (λ (b : Body_tree). exec_block p.relations hosts (calls_at p hosts n) b.block (locals_from b.slots []) (world_at s) n) (sym (body_is_at p.bodies 0 b shaped.main.here)) in
      subst (λ e. Ends t (Goal p.relations e) s (start_of (code_of p) n) []) same
      (subst (λ k. Ends t (Goal p.relations e) s (record (start_of (code_of p) n) { locals = locals_from k [] }) []) (sym (slots_at p.bodies b shaped.main.here))
      (main_runs p hosts sound.forms shaped (Goal p.relations e) facts b q.0 s n shaped.main.here q.1 shaped.main.func shaped.main.params (main_at p.bodies b shaped.main.here) in_kinds
      (proper_start p.relations hosts facts s in_kinds) (reaches p hosts sound.forms shaped facts b q.0 e)))

  abbrev End : Reached
  End = over (run_of p s hosts n).events (ended (run_of p s hosts n).finish)

  ran_is : exec_code (code_of p) p.relations hosts ran.steps s (start_of (code_of p) n) [] ≡ End
  ran_is = ran.ends.0

  ran_over : IsOver (exec_code (code_of p) p.relations hosts ran.steps s (start_of (code_of p) n) [])
  ran_over = subst IsOver (sym ran_is) tt

  -- an end is that end
  pub only_end : (k : ℕ) → IsOver (code_at (code_of p) p.relations s hosts n k) → code_at (code_of p) p.relations s hosts n k ≡ End
  only_end k h = one_end (code_of p) p.relations hosts k ran.steps s (start_of (code_of p) n) [] h ran_over ∙ ran_is

  stuck_over : (r : Reached) → IsStuck r → IsOver r
  stuck_over (still s m es) h = absurd h
  stuck_over (over es stop) h = tt

  enough : left (length (code_of p).instrs) (start_of (code_of p) n) ≤ step_bound p n
  enough = bound n (length (code_of p).instrs)
    where
      bound : (n l : ℕ) → n * (l + l) + 0 * l + (l - 0) ≤ (n + 1) * (n + 1) * l
      bound n l = omega arith

  pub ends_so : code_at (code_of p) p.relations s hosts n (step_bound p n) ≡ End
  ends_so = by (stops (code_of p) p.relations hosts (code_forward p) (step_bound p n) s (start_of (code_of p) n) [] enough)
    where
      by : (IsOver (code_at (code_of p) p.relations s hosts n (step_bound p n)) ⊎ IsStuck (code_at (code_of p) p.relations s hosts n (suc (step_bound p n)))) → code_at (code_of p) p.relations s hosts n (step_bound p n) ≡ End
      by (inl h) = only_end (step_bound p n) h
      by (inr h) = absurd (subst IsStuck (only_end (suc (step_bound p n)) (stuck_over _ h)) h)

  pub stores_so : AreStoresOf p.relations (run_of p s hosts n).events
  stores_so = stores_of_schemas p.relations (run_of p s hosts n).events ran.ends.1

  -- it stays at that end
  later_end : (k : ℕ) → code_at (code_of p) p.relations s hosts n (step_bound p n + k) ≡ End
  later_end k =
      over_stays (code_of p) p.relations hosts (step_bound p n) k s (start_of (code_of p) n) [] (subst IsOver (sym ends_so) tt) ∙ ends_so

  pub prefixes_so : (k : ℕ) → IsPrefix (events_in (code_at (code_of p) p.relations s hosts n k)) (run_of p s hosts n).events
  prefixes_so k =
      subst (λ r. IsPrefix (events_in (code_at (code_of p) p.relations s hosts n k)) (events_in r)) (later_end k)
      (fronts (code_of p) p.relations hosts k (step_bound p n + k) s (start_of (code_of p) n) [] (omega arith))

  -- however many instructions it takes
  pub only_so : (k : ℕ) (events : List Event) (stop : Stop) → code_at (code_of p) p.relations s hosts n k ≡ over events stop → (events ≡ (run_of p s hosts n).events) × (stop ≡ ended (run_of p s hosts n).finish)
  only_so k events stop e = parts (sym e ∙ only_end k (subst IsOver (sym e) tt))
    where
      parts : over events stop ≡ over (run_of p s hosts n).events (ended (run_of p s hosts n).finish) → (events ≡ (run_of p s hosts n).events) × (stop ≡ ended (run_of p s hosts n).finish)
      parts q = (cc, cc)
