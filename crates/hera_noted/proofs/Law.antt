-- The law of notes: the code of a sound program, with its notes, is typed code.
use Rattle.std.proofs.Common.{◌≡◌, ℕ, zero, suc, ◌+◌, ◌<◌, ◌≤◌, ◌⊎◌, ◌&&◌, ◌||◌, Bool, true, false, cond, List, [], ◌∷◌, ◌++◌, map, length, take, drop, Option, Some, None, refl, sym, ap, ◌∙◌, subst, arith, inl, inr, length-append}
use Rattle.std.specs.Prelude.{slice_get, nat_eq, nat_lt, nat_le, not, is_some}
use Rattle.std.specs.List.{AllByRecursion}
use Rattle.std.proofs.lemmas.List.{length-take-le}
use Rattle.std.proofs.lemmas.List.Elements.{recursion_from_All}
use Rattle.std.proofs.lemmas.Option.{slice_get_within}
use Rattle.std.proofs.lemmas.Bool.{false≢true, and_parts, and_from, and_left, and_right, or_from, or_left, lt-ltb, eq-eqb, eqb-true, cases_lt, cases_order}
use Rattle.hera_meaning.specs.declared.scalars.Kind.{Kind}
use Rattle.hera_meaning.specs.Hosts.{Hosts}
use Rattle.hera_meaning.specs.Trees.{Command, set_slot, if_arms, while, foreach, print, apply, commit, rollback, assert, return, return_value, call_proc, Block, no_stmt, then_stmt, Arms, no_arm, arm, Body_tree, Program_tree}
use Rattle.hera_meaning.specs.Addresses.{block_end}
use Rattle.hera_meaning.specs.Forms.{Form}
use Rattle.hera_meaning.specs.Sound.{has_slot, first_slots, walks_of_block, Body_forms, Scope, IsCallee, returns, command_returns, arms_return, IsBody, scope_of}
use Rattle.hera_code.specs.declared.instrs.BodyInfo.{BodyInfo}
use Rattle.hera_code.specs.declared.instrs.Code.{Code}
use Rattle.hera_code.specs.declared.instrs.Instr.{Instr}
use Rattle.hera_code.specs.declared.instrs.Instr.TheVariants.{Store, Walk, Next, Ret, Halt}
use Rattle.hera_code.specs.Listing.{next_start, StartsFrom, IsListable}
use Rattle.hera_code.specs.Scheme.{Role, in_main, in_func, in_proc, block_code, last_code, body_code, info_of, code_of}
use Rattle.hera_code.proofs.Starts.{next_start_in_code}
use Rattle.hera_codegen.specs.Roles.{body_role}
use Rattle.hera_codegen.proofs.Places.{HasAt, has_front, all_behind, block_length}
use Rattle.hera_codegen.proofs.Bodies.{behind, body_length}
use Rattle.hera_codegen.proofs.Listable.{code_listable}
use Rattle.hera_codegen.proofs.Slots.{within_there}
use Rattle.hera_typed.specs.Points.{Point, nothing, with, when}
use Rattle.hera_typed.specs.Effects.{Slot_note, Body_note, Goal, ends_here, home, slot, result, params, params_in, slot_forms, effect}
use Rattle.hera_typed.specs.Typed.{Points, Names, Writes, Does, BodyIsFine, SlotIsFine, AllLead, IsReached, IsFlowTo, IsTyped}
use Rattle.hera_meaning.specs.Shapes.{Body_shapes, forms_of, IsShaped}
use Rattle.hera_typed.proofs.Asking.{some_is, none_is, with_there}
use Rattle.hera_noted.specs.Spans.{is_writer, end_of, IsClosed, IsRange}
use Rattle.hera_noted.proofs.Expr_points.{if_so, Laid, laid_front, laid_behind}
use Rattle.hera_noted.proofs.Expr_flows.{IsCalled, Fits, Covered, IsFine, Flows, Comes, AllGo, flows_more}
use Rattle.hera_noted.proofs.Block_flows.{command_falls, block_falls, arms_fall, block_points, block_many, RoleFits, NotedBlock, block_at, block_flows}
use Rattle.hera_noted.proofs.Ranges.{AllMarks, SafeAt, NamesIn, To, Tame, marks_map, no_label, seq, still, tame_none}
use Rattle.hera_noted.proofs.Block_ranges.{block_marks, block_tame}
use Rattle.hera_noted.proofs.Noting.{marks_front, target_named, safe_here, Tells, block_noted}
use Rattle.hera_noted.proofs.Placed.{laid_at, laid_itself, none_past, PlacedAt, PlacedIn, placed_more, block_placed}
use Rattle.hera_noted.proofs.Bodies_found.{Stretch, stretch, bodies_many, start_in, starts_rise, ends_before, home_in, home_of, end_is_next}

-- ---- small steps

pub get_mapped : {A B : Type 0} (f : A → B) (xs : List A) (k : ℕ) (x : A) → slice_get xs k ≡ Some x → slice_get (map f xs) k ≡ Some (f x)
get_mapped f [] k x e = none_is _ x e
get_mapped f (y ∷ xs) zero x e = ap (λ y. Some (f y)) (some_is y x e)
get_mapped f (y ∷ xs) (suc k) x e = get_mapped f xs k x e

pub mapped_from : {A B : Type 0} (f : A → B) (xs : List A) (k : ℕ) (y : B) → slice_get (map f xs) k ≡ Some y → (x : A) × (slice_get xs k ≡ Some x) × (f x ≡ y)
mapped_from f [] k y e = none_is _ y e
mapped_from f (x ∷ xs) zero y e = (x, refl, some_is (f x) y e)
mapped_from f (x ∷ xs) (suc k) y e = mapped_from f xs k y e

none_of : {A : Type 0} (o : Option A) → is_some o ≡ false → o ≡ None
none_of None e = refl
none_of (Some a) e = absurd (false≢true (sym e))

each_at : (n : ℕ) (ws : List ℕ) → AllByRecursion (λ i. n ≤ i) ws → (i : ℕ) → has_slot ws i ≡ true → n ≤ i
each_at n [] h i e = absurd (false≢true e)
each_at n (j ∷ ws) h i e = by (nat_eq i j) refl e (λ k. each_at n ws h.1 i k)
  where
    by : (b : Bool) → nat_eq i j ≡ b → (b || has_slot ws i) ≡ true → (has_slot ws i ≡ true → n ≤ i) → n ≤ i
    by true q e f = let eq : i ≡ j = eqb-true i j q in subst (λ i. n ≤ i) (sym eq) h.0
    by false q e f = f e

first_below : (n i : ℕ) → has_slot (first_slots n) i ≡ true → i < n
first_below zero i h = absurd (false≢true h)
first_below (suc n) i h = by (nat_eq i n) refl h (λ k. omega (arith, first_below n i k))
  where
    by : (b : Bool) → nat_eq i n ≡ b → (b || has_slot (first_slots n) i) ≡ true → (has_slot (first_slots n) i ≡ true → i < suc n) → i < suc n
    by true e h f = let eq : i ≡ n = eqb-true i n e in omega (arith, eq)
    by false e h f = f h

laid_within : (a c : ℕ) (os : List (Option Point)) (q : Point) → laid_at a os c ≡ Some q → (a ≤ c) × (c < a + length os)
laid_within a c [] q e = none_is _ q e
laid_within a c (o ∷ os) q e = by (nat_eq c a) refl e (λ r. laid_within (a + 1) c os q r)
  where
    by : (t : Bool) → nat_eq c a ≡ t → cond t o (laid_at (a + 1) os c) ≡ Some q → (laid_at (a + 1) os c ≡ Some q → (a + 1 ≤ c) × (c < a + 1 + length os)) → (a ≤ c) × (c < a + length (o ∷ os))
    by true r e ih = let same : c ≡ a = eqb-true c a r in (omega (arith, same), omega (arith, same))
    by false r e ih = let h = ih e in (omega (arith, h.0), omega (arith, h.1))

-- what stands in a stretch of code
flow_here : (code : Code) (sc : Scope) (notes : List Body_note) (k : ℕ) (P : Points) (lo hi a : ℕ) (is : List Instr) (c : ℕ) (i : Instr) → HasAt code.instrs a is → Flows code sc notes k P lo hi a is → slice_get code.instrs c ≡ Some i → a ≤ c → c < a + length is → IsFine code sc notes k P lo hi c i
flow_here code sc notes k P lo hi a [] c i has h e ge lt = absurd (omega (arith, ge, lt))
flow_here code sc notes k P lo hi a (x ∷ is) c i has h e ge lt = by (cases_lt a c) (λ more. flow_here code sc notes k P lo hi (a + 1) is c i has.1 h.1 e (omega (arith, more)) (omega (arith, lt)))
  where
    by : (a < c) ⊎ (c ≤ a) → (a < c → IsFine code sc notes k P lo hi c i) → IsFine code sc notes k P lo hi c i
    by (inl more) rest = rest more
    by (inr less) rest =
        let same : a ≡ c = omega (arith, less, ge) in
        let i_is : x ≡ i = some_is x i (sym has.0 ∙ ap (slice_get code.instrs) same ∙ e) in
        subst (λ c. IsFine code sc notes k P lo hi c i) same (subst (λ i. IsFine code sc notes k P lo hi a i) i_is h.0)

placed_here : (code : Code) (sc : Scope) (notes : List Body_note) (k a : ℕ) (is : List Instr) (c : ℕ) (i : Instr) → HasAt code.instrs a is → PlacedIn code sc notes k a is → slice_get code.instrs c ≡ Some i → a ≤ c → c < a + length is → PlacedAt code sc notes k c i
placed_here code sc notes k a [] c i has h e ge lt = absurd (omega (arith, ge, lt))
placed_here code sc notes k a (x ∷ is) c i has h e ge lt = by (cases_lt a c) (λ more. placed_here code sc notes k (a + 1) is c i has.1 h.1 e (omega (arith, more)) (omega (arith, lt)))
  where
    by : (a < c) ⊎ (c ≤ a) → (a < c → PlacedAt code sc notes k c i) → PlacedAt code sc notes k c i
    by (inl more) rest = rest more
    by (inr less) rest =
        let same : a ≡ c = omega (arith, less, ge) in
        let i_is : x ≡ i = some_is x i (sym has.0 ∙ ap (slice_get code.instrs) same ∙ e) in
        subst (λ c. PlacedAt code sc notes k c i) same (subst (λ i. PlacedAt code sc notes k a i) i_is h.0)

names_here : (Q : ℕ → Type 0) (code is : List Instr) (a c d : ℕ) (i : Instr) → HasAt code a is → NamesIn Q is → slice_get code c ≡ Some i → a ≤ c → c < a + length is → Names i d → Q d
names_here Q code [] a c d i has h e ge lt n = absurd (omega (arith, ge, lt))
names_here Q code (x ∷ is) a c d i has h e ge lt n = by (cases_lt a c) (λ more. names_here Q code is (a + 1) c d i has.1 h.1 e (omega (arith, more)) (omega (arith, lt)) n)
  where
    by : (a < c) ⊎ (c ≤ a) → (a < c → Q d) → Q d
    by (inl more) rest = rest more
    by (inr less) rest =
        let same : a ≡ c = omega (arith, less, ge) in
        let i_is : i ≡ x = some_is i x (sym e ∙ ap (slice_get code) (sym same) ∙ has.0) in
        h.0 d (subst (λ i. Names i d) i_is n)

-- the code has the instruction at each of its addresses
instr_there : (code : List Instr) (a : ℕ) → a < length code → (i : Instr) × (slice_get code a ≡ Some i)
instr_there code a lt = within_there code a lt

-- ---- a block that returns does not go on behind itself

mutual
  pub block_ends : (b : Block) → returns b ≡ true → block_falls b ≡ false
  block_ends no_stmt e = absurd (false≢true e)
  block_ends (then_stmt c no_stmt) e = and_left (command_falls c) true (command_ends c e)
  block_ends (then_stmt c (then_stmt d rest)) e = and_right (command_falls c) (block_falls (then_stmt d rest)) (block_ends (then_stmt d rest) e)

  command_ends : (c : Command) → command_returns c ≡ true → command_falls c ≡ false
  command_ends (set_slot i v) e = absurd (false≢true e)
  command_ends (if_arms arms other) e =
      let q = and_parts (arms_return arms) (returns other) e in or_from (arms_fall arms) (block_falls other) (arms_end_so arms q.0) (block_ends other q.1)
  command_ends (while c block) e = absurd (false≢true e)
  command_ends (foreach i of block) e = absurd (false≢true e)
  command_ends (print v shape) e = absurd (false≢true e)
  command_ends (apply d at) e = absurd (false≢true e)
  command_ends (commit label) e = absurd (false≢true e)
  command_ends rollback e = absurd (false≢true e)
  command_ends (assert c at) e = absurd (false≢true e)
  command_ends return e = absurd (false≢true e)
  command_ends (return_value v) e = refl
  command_ends (call_proc k args) e = absurd (false≢true e)

  arms_end_so : (arms : Arms) → arms_return arms ≡ true → arms_fall arms ≡ false
  arms_end_so no_arm e = refl
  arms_end_so (arm c block rest) e =
      let q = and_parts (returns block) (arms_return rest) e in or_from (block_falls block) (arms_fall rest) (block_ends block q.0) (arms_end_so rest q.1)

-- the points of what stands behind a body's block
abbrev last_pts : Role → Bool → List (Option Point)
last_pts in_main t = if_so t nothing ∷ []
last_pts in_func t = []
last_pts in_proc t = if_so t nothing ∷ []

writer_writes : (j : Instr) (i : ℕ) → is_writer j i ≡ true → Writes j i
writer_writes (Store s) i e = eqb-true s i e
writer_writes (Next s b) i e = eqb-true s i e
writer_writes _ i e = absurd (false≢true e)

-- ---- what the notes tell

-- the note of body k: its result, the forms of its slots, what its walks gather, and its ranges
pub record BodyTold (code : Code) (k : ℕ) (s : Body_shapes) (n : Body_note) : Type 0 where
  pub result : n.result ≡ s.result
  pub forms : slot_forms n.slots ≡ s.slots
  pub slots : (i : ℕ) (f : Form) → slice_get s.slots i ≡ Some f → (m : Slot_note) × (slice_get n.slots i ≡ Some m) × (m.form ≡ f)
  pub gathers : (i : ℕ) (ks : List Kind) → slice_get s.gathers i ≡ Some (Some ks) → (m : Slot_note) × (slice_get n.slots i ≡ Some m) × (m.gathers ≡ Some ks)
  pub ranges : (i : ℕ) (m : Slot_note) → slice_get n.slots i ≡ Some m → (info : BodyInfo) → slice_get code.bodies k ≡ Some info → IsRange code.instrs info.at (end_of code k) i m.from m.to

pub record AreTold (code : Code) (shapes : List Body_shapes) (notes : List Body_note) : Type 0 where
  pub bodies : (k : ℕ) (s : Body_shapes) → slice_get shapes k ≡ Some s → (n : Body_note) × (slice_get notes k ≡ Some n) × BodyTold code k s n
  pub only : (k : ℕ) (n : Body_note) → slice_get notes k ≡ Some n → (s : Body_shapes) × (slice_get shapes k ≡ Some s)

module _ (p : Program_tree) (hosts : Hosts) (shapes : List Body_shapes) (is : IsShaped p hosts shapes) (notes : List Body_note) (told : AreTold (code_of p) shapes notes) where
  abbrev code : Code
  code = code_of p

  abbrev end : ℕ
  end = length code.instrs

  abbrev forms : List Body_forms
  forms = map forms_of shapes

  many : length shapes ≡ length p.bodies
  many = sym (long shapes) ∙ is.shaped.many
    where
      long : (ss : List Body_shapes) → length (map forms_of ss) ≡ length ss
      long [] = refl
      long (s ∷ ss) = ap suc (long ss)

  listable : IsListable code
  listable = code_listable p hosts (record { forms = forms; shaped = is.shaped })

  starts : StartsFrom 0 code.bodies end
  starts = listable.starts

  -- what is there of body k
  pub record Own (k : ℕ) : Type 0 where
    pub tree : Body_tree
    pub tree_is : slice_get p.bodies k ≡ Some tree
    pub shape : Body_shapes
    pub shape_is : slice_get shapes k ≡ Some shape
    pub note : Body_note
    pub note_is : slice_get notes k ≡ Some note
    pub tells : BodyTold code k shape note
    pub place : Stretch code k tree

  own_of : (k : ℕ) (b : Body_tree) → slice_get p.bodies k ≡ Some b → Own k
  own_of k b e =
      let lt = slice_get_within p.bodies k b e in
      let s = within_there shapes k (omega (arith, lt, many)) in
      let n = told.bodies k s.0 s.1 in
      record { tree = b; tree_is = e; shape = s.0; shape_is = s.1; note = n.0; note_is = n.1; tells = n.2; place = stretch p.bodies k b e }

  own_at : (k : ℕ) → k < length code.bodies → Own k
  own_at k lt = let b = within_there p.bodies k (omega (arith, lt, bodies_many p.bodies)) in own_of k b.0 b.1

  info_own : (k : ℕ) (o : Own k) (c : BodyInfo) → slice_get code.bodies k ≡ Some c → info_of o.tree o.place.at ≡ c
  info_own k o c e = some_is (info_of o.tree o.place.at) c (sym o.place.info_is ∙ e)

  module _ (k : ℕ) (o : Own k) where
    abbrev b : Body_tree
    b = o.tree

    abbrev lo : ℕ
    lo = o.place.at

    abbrev pl : Role
    pl = body_role k b.func

    abbrev z : ℕ
    z = block_end b.block lo

    abbrev hi : ℕ
    hi = behind pl b.block lo

    abbrev sc : Scope
    sc = scope_of p hosts forms b (forms_of o.shape)

    abbrev gs : List (Option (List Kind))
    gs = o.shape.gathers

    body_is : IsBody sc b
    body_is = is.shaped.bodies k b (forms_of o.shape) o.tree_is (get_mapped forms_of shapes k o.shape o.shape_is)

    next_is : next_start (drop (suc k) code.bodies) end ≡ hi
    next_is = o.place.end_is

    in_code : hi ≤ end
    in_code = let h = next_start_in_code 0 end code.bodies (suc k) starts (omega arith) in omega (arith, h, next_is)

    block_in : z ≤ hi
    block_in = by pl
      where
        by : (pl' : Role) → z ≤ behind pl' b.block lo
        by in_main = omega arith
        by in_func = omega arith
        by in_proc = omega arith

    block_up : lo ≤ z
    block_up = omega (arith, block_length pl b.block lo)

    has_block : HasAt code.instrs lo (block_code pl b.block lo)
    has_block = has_front code.instrs lo (block_code pl b.block lo) (last_code pl) o.place.has

    has_last : HasAt code.instrs z (last_code pl)
    has_last = all_behind code.instrs lo (block_code pl b.block lo) (last_code pl) z (block_length pl b.block lo) o.place.has

    params_is : params code k ≡ b.params
    params_is = ap params_in o.place.info_is

    slot_is : (i : ℕ) → slot notes k i ≡ slice_get o.note.slots i
    slot_is i = ap (λ (m : Option Body_note). with m (λ n. slice_get n.slots i)) o.note_is

    result_is : result notes k ≡ o.shape.result
    result_is = ap (λ (m : Option Body_note). with m (λ n. n.result)) o.note_is ∙ o.tells.result

    walk_new : (i : ℕ) → has_slot sc.walks i ≡ true → params code k ≤ i
    walk_new i e =
        let h = each_at b.params (walks_of_block b.block) (recursion_from_All (λ i. b.params ≤ i) (walks_of_block b.block) body_is.walks_new) i e in
        omega (arith, h, params_is)

    calls : (j : ℕ) (func : Bool) (fs : List Form) (r : Option Form) → IsCallee sc j func fs r → IsCalled code sc notes k j fs r
    calls j func fs r c =
        let s = mapped_from forms_of shapes j c.forms c.forms_are in
        let n = told.bodies j s.0 s.1 in
        let q = stretch p.bodies j c.body c.body_is in
        let callee : IsBody (scope_of p hosts forms c.body c.forms) c.body = is.shaped.bodies j c.body c.forms c.body_is c.forms_are in
        let few = callee.params in
        let slots = callee.slots in
        let given : c.forms.slots ≡ slot_forms n.0.slots = ap (λ (f : Body_forms). f.slots) (sym s.2) ∙ sym n.2.forms in
        let le : c.body.params ≤ length c.forms.slots = omega (arith, few, slots) in
        record {
          info = info_of c.body q.at;
          info_is = q.info_is;
          note = n.0;
          note_is = n.1;
          behind_main = (let q = c.behind_main in omega (arith, q));
          long = ap length c.params_are ∙ length-take-le c.body.params c.forms.slots le;
          params_are = c.params_are ∙ ap (take c.body.params) given;
          result_is = n.2.result ∙ ap (λ (f : Body_forms). f.result) s.2 ∙ c.result_is;
        }

    fits : Fits code sc notes k
    fits = record {
      slots = λ i f e. (let m = o.tells.slots i f e in (m.0, slot_is i ∙ m.1, m.2));
      calls = λ j func fs r c. calls j func fs r c;
    }

    range_of : (i : ℕ) (m : Slot_note) → slot notes k i ≡ Some m → IsRange code.instrs lo hi i m.from m.to
    range_of i m e = subst (λ h. IsRange code.instrs lo h i m.from m.to) (end_is_next code k starts ∙ next_is) (o.tells.ranges i m (sym (slot_is i) ∙ e) (info_of b lo) o.place.info_is)

    tells : Tells code sc notes gs k lo hi
    tells = record {
      ranges = λ i m e low. range_of i m e;
      gathers = λ i ks e. (let m = o.tells.gathers i ks e in (m.0, slot_is i ∙ m.1, m.2));
      walks = λ i e. walk_new i e;
      fits = fits;
    }

    fit_place : (j : ℕ) (func : Bool) → j ≡ k → func ≡ b.func → RoleFits code sc notes k (body_role j func)
    fit_place zero func same f =
        let main = is.shaped.main in
        let tree : main.body ≡ b = some_is main.body b (sym main.here ∙ ap (slice_get p.bodies) same ∙ o.tree_is) in
        (sym same, ap (λ (b : Body_tree). b.func) (sym tree) ∙ main.func)
    fit_place (suc j) true same f = (sym f, λ f e. result_is ∙ e)
    fit_place (suc j) false same f =
        let some : is_some o.shape.result ≡ false = body_is.result ∙ sym f in
        (sym f, omega (arith, same), result_is ∙ none_of o.shape.result some)

    place_fits : RoleFits code sc notes k pl
    place_fits = fit_place k b.func refl refl

    -- ---- ranges

    last_tame : (pl' : Role) → Tame no_label z (behind pl' b.block lo) (last_code pl') []
    last_tame in_main = still z Halt (λ d n. n)
    last_tame in_func = tame_none no_label z
    last_tame in_proc = still z Ret (λ d n. n)

    body_tame : Tame no_label lo hi (body_code pl b.block lo) (block_marks b.block lo z ++ [])
    body_tame = seq lo z hi (block_code pl b.block lo) (last_code pl) (block_marks b.block lo z) [] (block_tame pl b.block lo z refl) (last_tame pl)

    whole_long : lo + length (body_code pl b.block lo) ≡ hi
    whole_long = body_length pl b.block lo

    marked : AllMarks (λ m. IsClosed code.instrs lo hi m.from m.to) (block_marks b.block lo z)
    marked = marks_front (λ m. IsClosed code.instrs lo hi m.from m.to) (block_marks b.block lo z) []
        (marks_map (λ m. SafeAt m lo (body_code pl b.block lo)) (λ m. IsClosed code.instrs lo hi m.from m.to) (block_marks b.block lo z ++ []) (λ m safe a d i low high e t from to.
        safe_here m code.instrs (body_code pl b.block lo) lo a d i o.place.has safe e low (omega (arith, high, whole_long)) t from to) body_tame.safe)

    -- what an instruction of the body names lies in it, or is its end
    names_in : (a d : ℕ) (i : Instr) → slice_get code.instrs a ≡ Some i → lo ≤ a → a < hi → Names i d → (lo ≤ d) × (d ≤ hi)
    names_in a d i e low high n = by (names_here (To no_label lo hi) code.instrs (body_code pl b.block lo) lo a d i o.place.has body_tame.names e low (omega (arith, high, whole_long)) n)
      where
        by : To no_label lo hi d → (lo ≤ d) × (d ≤ hi)
        by (inl q) = q
        by (inr l) = absurd l

    -- ---- points

    noted : NotedBlock code sc notes k [] b.block lo z
    noted = block_noted code sc notes gs k lo hi tells pl [] (first_slots b.params) [] b.block lo z refl body_is.block (is.gathers k b o.shape o.tree_is o.shape_is)
        (record { walks = record { apart = body_is.walks_apart; new = λ i e. refl }; known = λ i e. e; unwritten = λ i e c j ge lt here. absurd (omega (arith, ge, lt)) })
        (record { unseen = λ i e w c j ge lt here. absurd (omega (arith, ge, lt)) }) (record { holds = λ i n e there. absurd (false≢true e) }) marked has_block (omega arith) block_in

    cover : Covered code sc notes k (first_slots b.params) lo z
    cover = record { set = λ i c n e there low high. (let lt = first_below b.params i e in let le : i < params code k = omega (arith, lt, params_is) in or_left (nat_lt i (params code k)) (nat_le n.from c && nat_lt c n.to) (lt-ltb i (params code k) le)) }

    last_placed : (pl' : Role) → RoleFits code sc notes k pl' → PlacedIn code sc notes k z (last_code pl')
    last_placed in_main h = ((eq-eqb k 0 h.0, tt), tt)
    last_placed in_func h = tt
    last_placed in_proc h = ((and_from (nat_lt 0 k) (not (is_some (result notes k))) (lt-ltb 0 k h.1) (ap (λ o. not (is_some o)) h.2), tt), tt)

    all_placed : (a : ℕ) (i : Instr) → slice_get code.instrs a ≡ Some i → lo ≤ a → a < hi → PlacedAt code sc notes k a i
    all_placed a i e low high =
        placed_here code sc notes k lo (body_code pl b.block lo) a i o.place.has
        (placed_more code sc notes k lo z (block_code pl b.block lo) (last_code pl) (block_length pl b.block lo) (block_placed code sc notes k fits pl place_fits [] (first_slots b.params) [] b.block lo z refl body_is.block noted has_block cover) (last_placed pl place_fits))
        e low (omega (arith, high, whole_long))

    abbrev falls : Bool
    falls = block_falls b.block

    abbrev last_points : Role → List (Option Point)
    last_points pl' = last_pts pl' falls

    abbrev block_pts : List (Option Point)
    block_pts = block_points p.relations hosts notes k b.block nothing

    abbrev points_here : List (Option Point)
    points_here = block_pts ++ last_points pl

    abbrev P : Points
    P = laid_at lo points_here

    points_long : lo + length points_here ≡ hi
    points_long = by pl
      where
        by : (pl' : Role) → lo + length (block_pts ++ last_points pl') ≡ behind pl' b.block lo
        by in_main = omega (arith, block_many p.relations hosts notes k b.block nothing lo, length-append block_pts (last_points in_main))
        by in_func = omega (arith, block_many p.relations hosts notes k b.block nothing lo, length-append block_pts (last_points in_func))
        by in_proc = omega (arith, block_many p.relations hosts notes k b.block nothing lo, length-append block_pts (last_points in_proc))

    laid : Laid P lo points_here
    laid = laid_itself lo points_here

    laid_last : Laid P z (last_points pl)
    laid_last = laid_behind P lo block_pts (last_points pl) z (block_many p.relations hosts notes k b.block nothing lo) laid

    none_behind : P hi ≡ None
    none_behind = none_past lo hi points_here (omega (arith, points_long))

    func_ends : (j : ℕ) (func : Bool) → func ≡ b.func → body_role j func ≡ in_func → falls ≡ false
    func_ends zero func f e = absurd (main_no e)
      where
        main_no : in_main ≡ in_func → ⊥
        main_no e = cc
    func_ends (suc j) true f e = block_ends b.block (body_is.returning (sym f))
    func_ends (suc j) false f e = absurd (proc_no e)
      where
        proc_no : in_proc ≡ in_func → ⊥
        proc_no e = cc

    end_point : P z ≡ if_so falls nothing
    end_point = by pl refl laid_last
      where
        by : (pl' : Role) → pl' ≡ pl → Laid P z (last_points pl') → P z ≡ if_so falls nothing
        by in_main e l = l.0
        by in_func e l =
            let no = func_ends k b.func refl (sym e) in
            let same : hi ≡ z = ap (λ q. behind q b.block lo) (sym e) in
            ap P (sym same) ∙ none_behind ∙ sym (ap (λ t. if_so t nothing) no)
        by in_proc e l = l.0

    last_flows : (pl' : Role) → behind pl' b.block lo ≡ hi → RoleFits code sc notes k pl' → Flows code sc notes k P lo hi z (last_code pl')
    last_flows in_func same h = tt
    last_flows in_main same h = (record { placed = eq-eqb k 0 h.0; followed = tt; goes = λ q at. by falls q end_point at; next = λ q at. none_is _ q (sym none_behind ∙ ap P (sym same) ∙ at) }, tt)
      where
        by : (t : Bool) (q : Point) → P z ≡ if_so t nothing → P z ≡ Some q → (gs : List Goal) × (effect code p.relations hosts notes k z Halt q ≡ Some gs) × AllGo code sc notes k P lo hi gs
        by true q e at = ([], ap (λ t. when t ends_here) (eq-eqb k 0 h.0), tt)
        by false q e at = none_is _ q (sym e ∙ at)
    last_flows in_proc same h = (record { placed = ok; followed = tt; goes = λ q at. by falls q end_point at; next = λ q at. none_is _ q (sym none_behind ∙ ap P (sym same) ∙ at) }, tt)
      where
        ok : (nat_lt 0 k && not (is_some (result notes k))) ≡ true
        ok = and_from (nat_lt 0 k) (not (is_some (result notes k))) (lt-ltb 0 k h.1) (ap (λ o. not (is_some o)) h.2)

        by : (t : Bool) (q : Point) → P z ≡ if_so t nothing → P z ≡ Some q → (gs : List Goal) × (effect code p.relations hosts notes k z Ret q ≡ Some gs) × AllGo code sc notes k P lo hi gs
        by true q e at = ([], ap (λ t. when t ends_here) ok, tt)
        by false q e at = none_is _ q (sym e ∙ at)

    flows : Flows code sc notes k P lo hi lo (body_code pl b.block lo)
    flows =
        flows_more code sc notes k P lo hi lo z (block_code pl b.block lo) (last_code pl) (block_length pl b.block lo)
        (block_flows code sc notes k P lo hi fits pl place_fits all_placed [] (first_slots b.params) [] b.block lo z nothing body_is.block noted refl has_block (laid_front P lo block_pts (last_points pl) laid)
        (λ e. end_point ∙ ap (λ t. if_so t nothing) e) (λ e q at. none_is _ q (sym (end_point ∙ ap (λ t. if_so t nothing) e) ∙ at)) (omega arith) block_in cover)
        (last_flows pl refl place_fits)

    pub fine_at : (a : ℕ) (i : Instr) → slice_get code.instrs a ≡ Some i → lo ≤ a → a < hi → IsFine code sc notes k P lo hi a i
    fine_at a i e low high = flow_here code sc notes k P lo hi lo (body_code pl b.block lo) a i o.place.has flows e low (omega (arith, high, whole_long))

    point_in : (a : ℕ) (q : Point) → P a ≡ Some q → (lo ≤ a) × (a < hi)
    point_in a q e = let h = laid_within lo a points_here q e in (h.0, omega (arith, h.1, points_long))

    start_point : P lo ≡ Some nothing
    start_point =
        block_at code sc notes k P lo hi fits pl place_fits all_placed [] (first_slots b.params) [] b.block lo z nothing body_is.block (laid_front P lo block_pts (last_points pl) laid) refl (λ e. end_point ∙ ap (λ t. if_so t nothing) e)

    no_result : is_some o.shape.result ≡ b.func
    no_result = body_is.result

    few : b.params ≤ b.slots
    few = body_is.params

  -- ---- all bodies together

  first_of : (bs : List BodyInfo) (m : BodyInfo) → slice_get bs 0 ≡ Some m → bs ≡ m ∷ drop 1 bs
  first_of [] m e = none_is _ m e
  first_of (c ∷ bs) m e = ap (λ c. c ∷ bs) (some_is c m e)

  split : code.bodies ≡ listable.main ∷ drop 1 code.bodies
  split = first_of code.bodies listable.main listable.first

  abbrev InBody : ℕ → List BodyInfo → Type 0
  InBody a bs = (c : BodyInfo) × (slice_get bs (home code a) ≡ Some c) × (c.at ≤ a) × (a < next_start (drop (suc (home code a)) bs) end)

  in_body : (a : ℕ) → a < end → InBody a code.bodies
  in_body a lt = let zero_is = listable.from_zero in subst (λ bs. InBody a bs) (sym split) (home_in listable.main (drop 1 code.bodies) end a (omega (arith, zero_is)) lt)

  -- the body in which an address lies
  pub record HomeAt (a : ℕ) : Type 0 where
    pub own : Own (home code a)
    pub low : own.place.at ≤ a
    pub high : a < hi (home code a) own

  home_at : (a : ℕ) → a < end → HomeAt a
  home_at a lt =
      let r = in_body a lt in
      let o = own_at (home code a) (slice_get_within code.bodies (home code a) r.0 r.1) in
      let same : o.place.at ≡ r.0.at = ap (λ (c : BodyInfo). c.at) (info_own (home code a) o r.0 r.1) in
      let low = r.2 in
      let high = r.3 in
      let next = next_is (home code a) o in
      record { own = o; low = omega (arith, low, same); high = omega (arith, high, next) }

  home_is : (k : ℕ) (o : Own k) (a : ℕ) → o.place.at ≤ a → a < hi k o → home code a ≡ k
  home_is k o a low high =
      let next = next_is k o in
      home_of 0 listable.main (drop 1 code.bodies) end k (info_of o.tree o.place.at) a (subst (λ bs. StartsFrom 0 bs end) split starts) (subst (λ bs. slice_get bs k ≡ Some (info_of o.tree o.place.at)) split o.place.info_is) low
      (subst (λ bs. a < next_start (drop (suc k) bs) end) split (omega (arith, high, next)))

  -- ---- the points of the code

  abbrev points_of : ℕ → Points
  points_of k c = with (slice_get p.bodies k) (λ b. with (slice_get code.bodies k) (λ i. laid_at i.at (block_points p.relations hosts notes k b.block nothing ++ last_pts (body_role k b.func) (block_falls b.block)) c))

  abbrev pub all_points : Points
  all_points c = points_of (home code c) c

  points_own : (k : ℕ) (o : Own k) (c : ℕ) → points_of k c ≡ P k o c
  points_own k o c =
      ap (λ (t : Option Body_tree). with t (λ b. with (slice_get code.bodies k) (λ i. laid_at i.at (block_points p.relations hosts notes k b.block nothing ++ last_pts (body_role k b.func) (block_falls b.block)) c))) o.tree_is
      ∙ ap (λ (t : Option BodyInfo). with t (λ i. laid_at i.at (points_here k o) c)) o.place.info_is

  points_at : (k : ℕ) (o : Own k) (c : ℕ) → home code c ≡ k → all_points c ≡ P k o c
  points_at k o c e = ap (λ j. points_of j c) e ∙ points_own k o c

  -- a point of a body is one of the code
  point_of : (k : ℕ) (o : Own k) (c : ℕ) (q : Point) → P k o c ≡ Some q → (home code c ≡ k) × (all_points c ≡ Some q)
  point_of k o c q e = let r = point_in k o c q e in let h = home_is k o c r.0 r.1 in (h, points_at k o c h ∙ e)

  pub record PointAt (a : ℕ) (q : Point) : Type 0 where
    pub own : Own (home code a)
    pub low : own.place.at ≤ a
    pub high : a < hi (home code a) own
    pub point_is : P (home code a) own a ≡ Some q

  point_there : (a : ℕ) (q : Point) → all_points a ≡ Some q → PointAt a q
  point_there a q e =
      let r = with_there (slice_get p.bodies (home code a)) _ q e in
      let o = own_of (home code a) r.0 r.1 in
      let is = sym (points_own (home code a) o a) ∙ e in
      let h = point_in (home code a) o a q is in
      record { own = o; low = h.0; high = h.1; point_is = is }

  -- ---- the rules on instructions

  leads : (n a : ℕ) (o : Own (home code a)) (gs : List Goal) → AllGo code (sc (home code a) o) notes (home code a) (P (home code a) o) o.place.at (hi (home code a) o) gs → AllLead code p.relations hosts notes all_points n a gs
  leads n a o [] h = tt
  leads n a o (g ∷ gs) h =
      let k = home code a in
      let r = point_of k o g.to h.0.2 h.0.4 in
      let w = point_in k o g.to h.0.2 h.0.4 in
      let within = in_code k o in
      ((λ le. record { there = omega (arith, w.1, within); home_is = r.0; point = h.0.2; goal_is = h.0.3; point_is = r.1 }), leads n a o gs h.1)

  goes_so : (n a : ℕ) (q : Point) → all_points a ≡ Some q → (gs : List Goal) × Does code p.relations hosts notes a q gs × AllLead code p.relations hosts notes all_points n a gs
  goes_so n a q e =
      let r = point_there a q e in
      let high = r.high in
      let within = in_code (home code a) r.own in
      let i = instr_there code.instrs a (omega (arith, high, within)) in
      let g = (fine_at (home code a) r.own a i.0 i.1 r.low r.high).goes q r.point_is in
      (g.0, record { instr = i.0; here = i.1; does = g.1 }, leads n a r.own g.0 g.2)

  comes_so : (k : ℕ) (o : Own k) (a : ℕ) → Comes code (sc k o) notes k (P k o) o.place.at (hi k o) a → IsReached code p.relations hosts notes all_points a
  comes_so k o a c =
      let r = point_of k o c.from c.point c.point_is in
      inr (c.from, c.point, c.goals, c.lower, r.1, record { instr = c.instr; here = c.here; does = subst (λ j. effect code p.relations hosts notes j c.from c.instr c.point ≡ Some c.goals) (sym r.0) c.does }, c.comes)

  reached_so : (a : ℕ) (q : Point) → all_points a ≡ Some q → IsReached code p.relations hosts notes all_points a
  reached_so a q e = by (point_there a q e)
    where
      later : (k : ℕ) (o : Own k) (c : ℕ) → o.place.at < c → c < hi k o → P k o c ≡ Some q → IsReached code p.relations hosts notes all_points c
      later k o zero lt high at = absurd (omega (arith, lt))
      later k o (suc d) lt high at =
          let within = in_code k o in
          let i = instr_there code.instrs d (omega (arith, high, within)) in
          let f = fine_at k o d i.0 i.1 (omega (arith, lt)) (omega (arith, high)) in
          let next : d + 1 ≡ suc d = omega arith in
          subst (λ c. IsReached code p.relations hosts notes all_points c) next (comes_so k o (d + 1) (f.next q (ap (P k o) next ∙ at)))

      by_order : (r : PointAt a q) → (r.own.place.at < a) ⊎ (a ≤ r.own.place.at) → IsReached code p.relations hosts notes all_points a
      by_order r (inl lt) = later (home code a) r.own a lt r.high r.point_is
      by_order r (inr le) = let low = r.low in inl (home code a, info_of r.own.tree r.own.place.at, r.own.place.info_is, omega (arith, le, low))

      by : PointAt a q → IsReached code p.relations hosts notes all_points a
      by r = by_order r (cases_lt r.own.place.at a)

  starts_so : (k : ℕ) (c : BodyInfo) → slice_get code.bodies k ≡ Some c → all_points c.at ≡ Some nothing
  starts_so k c e =
      let o = own_at k (slice_get_within code.bodies k c e) in
      let same : o.place.at ≡ c.at = ap (λ (c : BodyInfo). c.at) (info_own k o c e) in
      subst (λ a. all_points a ≡ Some nothing) same (point_of k o o.place.at nothing (start_point k o)).1

  flow : (n : ℕ) → IsFlowTo code p.relations hosts notes all_points n
  flow n = record {
    placed = λ a i e le. (let h = home_at a (slice_get_within code.instrs a i e) in (fine_at (home code a) h.own a i e h.low h.high).placed);
    followed = λ a e le. (let h = home_at a (slice_get_within code.instrs a Walk e) in (fine_at (home code a) h.own a Walk e h.low h.high).followed);
    starts = λ k c e le lt. starts_so k c e;
    goes = λ a q e le. goes_so n a q e;
    reached = λ a q e le. reached_so a q e;
  }

  -- ---- the rules on bodies

  main_is : (o : Own 0) → is.shaped.main.body ≡ o.tree
  main_is o = some_is is.shaped.main.body o.tree (sym is.shaped.main.here ∙ o.tree_is)

  no_main_result : (o : Own 0) (n : Body_note) → slice_get notes 0 ≡ Some n → n.result ≡ None
  no_main_result o n e =
      let same : o.note ≡ n = some_is o.note n (sym o.note_is ∙ e) in
      let func : o.tree.func ≡ false = ap (λ (b : Body_tree). b.func) (sym (main_is o)) ∙ is.shaped.main.func in
      ap (λ (n : Body_note). n.result) (sym same) ∙ o.tells.result ∙ none_of o.shape.result (no_result 0 o ∙ func)

  fits_slots : (k : ℕ) (o : Own k) (c : BodyInfo) → slice_get code.bodies k ≡ Some c → c.params ≤ c.slots
  fits_slots k o c e = subst (λ (c : BodyInfo). c.params ≤ c.slots) (info_own k o c e) (few k o)

  body_fine : (k : ℕ) (c : BodyInfo) → slice_get code.bodies k ≡ Some c → BodyIsFine code p.relations hosts notes all_points k c
  body_fine zero c e =
      let o = own_at 0 (slice_get_within code.bodies 0 c e) in
      let info = info_own 0 o c e in
      let main : listable.main ≡ c = some_is listable.main c (sym listable.first ∙ e) in (
        (
          ap (λ (c : BodyInfo). c.at) (sym main) ∙ listable.from_zero,
          ap (λ (c : BodyInfo). c.params) (sym info) ∙ ap (λ (b : Body_tree). b.params) (sym (main_is o)) ∙ is.shaped.main.params,
          λ n f. no_main_result o n f,
        ),
        start_in 0 code.bodies end 0 c starts e,
        fits_slots 0 o c e,
      )
  body_fine (suc k) c e =
      let o = own_at (suc k) (slice_get_within code.bodies (suc k) c e) in
      ((λ d f. starts_rise 0 code.bodies end k d c starts f e), start_in 0 code.bodies end (suc k) c starts e, fits_slots (suc k) o c e)

  -- ---- the rules on slots

  slot_own : (k i : ℕ) (m : Slot_note) → slot notes k i ≡ Some m → Own k
  slot_own k i m e =
      let r = with_there (slice_get notes k) _ m e in
      let s = told.only k r.0 r.1 in
      let lt = slice_get_within shapes k s.0 s.1 in
      let b = within_there p.bodies k (omega (arith, lt, many)) in
      own_of k b.0 b.1

  slot_closed : (k : ℕ) (o : Own k) (from to : ℕ) → o.place.at < from → to ≤ hi k o → IsClosed code.instrs o.place.at (hi k o) from to → (a d : ℕ) (j : Instr) → slice_get code.instrs a ≡ Some j → Names j d → from ≤ d → d < to → (from ≤ a) × (a < to)
  slot_closed k o from to above within closed a d j e n low high = by (cases_order (home code a) k)
    where
      lt : a < end
      lt = slice_get_within code.instrs a j e

      same_body : home code a ≡ k → (from ≤ a) × (a < to)
      same_body h =
          let r = in_body a lt in
          let info = info_own k o r.0 (ap (slice_get code.bodies) (sym h) ∙ r.1) in
          let same : o.place.at ≡ r.0.at = ap (λ (c : BodyInfo). c.at) info in
          let here = r.2 in
          let next : a < next_start (drop (suc k) code.bodies) end = subst (λ k. a < next_start (drop (suc k) code.bodies) end) h r.3 in
          let last = next_is k o in
          closed a d j (omega (arith, here, same)) (omega (arith, next, last)) e (target_named j d n) low high

      other : (home code a < k) ⊎ (k < home code a) → (from ≤ a) × (a < to)
      other (inl less) =
          let h = home_at a lt in
          let r = names_in (home code a) h.own a d j e h.low h.high n in
          let before = ends_before 0 code.bodies end (home code a) k (info_of o.tree o.place.at) starts less o.place.info_is in
          let last = next_is (home code a) h.own in
          absurd (omega (arith, r.1, before, last, above, low))
      other (inr more) =
          let h = home_at a lt in
          let r = names_in (home code a) h.own a d j e h.low h.high n in
          let before = ends_before 0 code.bodies end k (home code a) (info_of h.own.tree h.own.place.at) starts more h.own.place.info_is in
          let last = next_is k o in
          absurd (omega (arith, r.0, before, last, within, high))

      by : (home code a ≡ k) ⊎ ((home code a < k) ⊎ (k < home code a)) → (from ≤ a) × (a < to)
      by (inl h) = same_body h
      by (inr h) = other h

  slot_fine : (k i : ℕ) (m : Slot_note) → slot notes k i ≡ Some m → m.from < m.to → SlotIsFine code p.relations hosts notes all_points k i m
  slot_fine k i m e lt =
      let o = slot_own k i m e in
      let range = range_of k o i m e in
      let src = range.source lt in
      let first = src.1 in
      let w = range.written src.0 first in
      let from = w.0 in
      let low = first.low in
      let high = first.high in
      let to = w.1.within in
      let inside = in_code k o in
      record {
        before = src.0;
        from_is = omega (arith, from);
        there = omega (arith, lt, to, inside);
        home_is = home_is k o m.from (omega (arith, from, low)) (omega (arith, lt, to));
        home_before = home_is k o src.0 low high;
        writer = first.instr;
        writer_is = first.here;
        writes = writer_writes first.instr i first.writes;
        closed = λ a d j f n ge less. slot_closed k o m.from m.to (omega (arith, from, low)) to w.1.closed a d j f n ge less;
      }

  pub typed : IsTyped code p.relations hosts notes all_points
  typed n = record {
    some_instr = (let lt = start_in 0 code.bodies end 0 listable.main starts listable.first in omega (arith, lt));
    some_body = (let lt = slice_get_within code.bodies 0 listable.main listable.first in omega (arith, lt));
    bodies = λ k c e le. body_fine k c e;
    slots = λ k i m e above lt le. slot_fine k i m e lt;
    flow = flow n;
  }
