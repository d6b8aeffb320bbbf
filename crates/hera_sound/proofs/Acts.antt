-- Typed statements keep what is promised.
use Rattle.std.proofs.Common.{◌≡◌, ℕ, ◌<◌, ◌≤◌, ◌+◌, ◌*◌, List, [], ◌∷◌, ◌++◌, length, refl, sym, ap, ◌∙◌, subst, arith, Bool, true, false, append_assoc, append-nil}
use Rattle.std.specs.Prelude.{Result, Ok, Err, Option, Some, None, ◌||◌, not, cond, is_some, nat_eq}
use Rattle.std.specs.Option.{option_map}
use Rattle.std.proofs.lemmas.Bool.{eq-eqb, ne_eqb}
use Rattle.hera_sets.specs.Rows.{is_same}
use Rattle.hera_meaning.specs.declared.schemas.Attr.{Attr}
use Rattle.hera_meaning.specs.declared.schemas.RelDecl.{RelDecl}
use Rattle.hera_meaning.specs.declared.trees.Shape.{Shape}
use Rattle.hera_meaning.specs.declared.trees.Shape.TheVariants.{Bool as bool, Tuple as tuple, Rel as rel, Delta as delta}
use Rattle.hera_meaning.specs.Schemas.{IsSchema}
use Rattle.hera_meaning.specs.Deltas.{schema_of}
use Rattle.hera_meaning.specs.Forms.{Form, of_tuple, bool_form, form_of, kinds_of}
use Rattle.hera_meaning.specs.Trees.{Expr, Command, set_slot, if_arms, while, foreach, print, apply, commit, rollback, assert, return, return_value, call_proc}
use Rattle.hera_meaning.specs.Sound.{IsOf, IsSlot, IsCallee, has_slot, walks_in, walks_of, walks_of_block, walks_of_arms, sets_of, sets_of_block, sets_of_arms, readable_after, MaySet, IsSound, BlockIsSound, ArmsAreSound}
use Rattle.hera_meaning.specs.Shapes.{IsGathered, Gathers, CommandGathers, BlockGathers, ArmsGather}
use Rattle.hera_rules.specs.declared.words.Word.{Word}
use Rattle.hera_rules.specs.declared.env.Local.{Local}
use Rattle.hera_rules.specs.declared.env.ProcSig.{ProcSig}
use Rattle.hera_rules.specs.declared.fault.TypeFault.{TypeFault}
use Rattle.hera_rules.specs.declared.fault.TypeFault.TheVariants.{Unknown as unknown, Repeated as repeated, Mismatch as mismatch, Impure as impure}
use Rattle.hera_rules.specs.Environments.{Env, local_named, proc_named, relation_named, is_taken}
use Rattle.hera_rules.specs.Phrases.{Type_phrase, kind_type as of_kind, delta_type, rel_type, tuple_type, Schema_phrase, of_relation, written, Act, Acts, Branches}
use Rattle.hera_rules.specs.Same.{same_shape, same_shapes}
use Rattle.hera_rules.specs.Rules.{Typing, given, kind_type, is_bool, is_delta, types_of, params_of, exprs_from}
use Rattle.hera_rules.specs.Typing.{slots_of, slots_of_all}
use Rattle.hera_rules.specs.Commands.{named_schema, schema_row, shape_with, type_row, Done, done, Armed, block_from, arms_from, declare_local, declare_row, assigned, assign_row, performed, perform_row, cond_row, effect_row, print_row, apply_row, assert_row, return_row, return_value_row}
use Rattle.hera_rules.specs.Statements.{slots_of_act, slots_of_acts, slots_of_branches, ElabAct, ElabActs, ElabBranches, declare_is, assign_is, print_is, apply_is, assert_is, return_value_is, commit_is, rollback_is, return_is, perform_is, choose_is, loop_is, visit_is, no_act_is, act_is, no_branch_is, branch_is}
use Rattle.hera_sound.proofs.Tests.{given_true, then_ok, cond_second, is_bool-true, is_delta-true, same_shape-true, same_shapes-true}
use Rattle.hera_sound.proofs.Schemas.{fields_schema}
use Rattle.hera_sound.specs.Types_found.{Slot, held, walked, attrs_of_tuple, slots, slots_all, slots_act, slots_acts, slots_branches}
use Rattle.hera_sound.proofs.Slots.{walk_places, Stand, stand_both, walk_places-append, walk_at}
use Rattle.hera_sound.proofs.Sizes.{bound, bound_command, bound_block, bound_arms}
use Rattle.hera_sound.proofs.Made.{TypeIsMade, SchemaIsMade, ActIsMade, ActsAreMade, BranchesAreMade, act_nodes, acts_nodes, branches_nodes, nodes, nodes_all, count_of}
use Rattle.hera_sound.proofs.Fine.{Inside, env_in, scope, gathers_in, IsGood, EnvIsGood, IsVisible, AllVisible, Fine, FineAll, forms_of, forms_in, params_forms, kind_good, slot_held, walk_gathers}
use Rattle.hera_sound.proofs.Rows_one.{walked_local, relation_in}
use Rattle.hera_sound.proofs.Exprs.{slots_many, all_many, together, fine, fine_all, fine_list, variable_visible}

-- ---- as many slots as statements declare

mutual
  pub act_many : {g : Env} {r : Option Shape} {ls : List Local} {n : ℕ} {a : Act} {d : Done} (e : ElabAct g r ls n a d) → length (slots_act e) ≡ slots_of_act a
  act_many (declare_is {t = t} k e row) = let h = slots_many e in omega (arith, h)
  act_many (assign_is e row) = slots_many e
  act_many (print_is e row) = slots_many e
  act_many (apply_is e row) = slots_many e
  act_many (assert_is e row) = slots_many e
  act_many (return_value_is e row) = slots_many e
  act_many (commit_is row) = refl
  act_many (rollback_is row) = refl
  act_many (return_is row) = refl
  act_many (perform_is e row) = all_many e
  act_many (choose_is {arms = arms} {last = last} b c) = together (slots_branches b) (slots_acts c) (slots_of_branches arms) (slots_of_acts last) (branches_many b) (acts_many c)
  act_many (loop_is {c = c} {block = block} e row b) = together (slots e) (slots_acts b) (slots_of c) (slots_of_acts block) (slots_many e) (acts_many b)
  act_many (visit_is {of = of} {block = block} e row b) = let h = together (slots e) (slots_acts b) (slots_of of) (slots_of_acts block) (slots_many e) (acts_many b) in omega (arith, h)

  pub acts_many : {g : Env} {r : Option Shape} {ls : List Local} {n : ℕ} {cs all : List Command} {ps : Acts} (e : ElabActs g r ls n cs ps all) → length (slots_acts e) ≡ slots_of_acts ps
  acts_many no_act_is = refl
  acts_many (act_is {a = a} {rest = rest} e es) = together (slots_act e) (slots_acts es) (slots_of_act a) (slots_of_acts rest) (act_many e) (acts_many es)

  pub branches_many : {g : Env} {r : Option Shape} {ls : List Local} {n : ℕ} {ready all : List Armed} {bs : Branches} (e : ElabBranches g r ls n ready bs all) → length (slots_branches e) ≡ slots_of_branches bs
  branches_many no_branch_is = refl
  branches_many (branch_is {c = c} {block = block} {rest = rest} e row b bs) =
      together (slots e ++ slots_acts b) (slots_branches bs) (slots_of c + slots_of_acts block) (slots_of_branches rest) (together (slots e) (slots_acts b) (slots_of c) (slots_of_acts block) (slots_many e) (acts_many b)) (branches_many bs)

-- ---- slots that were set

abbrev pub AllBelow : ℕ → List ℕ → Type 0
AllBelow n [] = Unit {0}
AllBelow n (i ∷ is) = (i < n) × AllBelow n is

pub below_weaker : (m n : ℕ) (is : List ℕ) → m ≤ n → AllBelow m is → AllBelow n is
below_weaker m n [] l h = tt
below_weaker m n (i ∷ is) l h = (let k = h.0 in omega (arith, k, l), below_weaker m n is l h.1)

pub below_append : (n : ℕ) (is js : List ℕ) → AllBelow n is → AllBelow n js → AllBelow n (is ++ js)
below_append n [] js h k = k
below_append n (i ∷ is) js h k = (h.0, below_append n is js h.1 k)

below_none : (n : ℕ) (is : List ℕ) → AllBelow n is → has_slot is n ≡ false
below_none n [] h = refl
below_none n (i ∷ is) h = ap (λ b. b || has_slot is n) (ne_eqb n i (λ e. absurd (let k = h.0 in omega (arith, e, k)))) ∙ below_none n is h.1

-- ---- locals in statements: visible, and set below their block's slots, where they may be

pub record IsSettable {g : Env} (x : Inside g) (rs inside : List ℕ) (n : ℕ) (l : Local) : Type 0 where
  pub visible : IsVisible x rs l
  pub may : MaySet (scope x) inside l.slot
  pub below : l.slot < n

abbrev pub AllSettable : {g : Env} → Inside g → (rs inside : List ℕ) → ℕ → List Local → Type 0
AllSettable x rs inside n [] = Unit {0}
AllSettable x rs inside n (l ∷ ls) = IsSettable x rs inside n l × AllSettable x rs inside n ls

all_visible : {g : Env} (x : Inside g) (rs inside : List ℕ) (n : ℕ) (ls : List Local) → AllSettable x rs inside n ls → AllVisible x rs ls
all_visible x rs inside n [] h = tt
all_visible x rs inside n (l ∷ ls) h = (h.0.visible, all_visible x rs inside n ls h.1)

settable_later : {g : Env} (x : Inside g) (rs inside : List ℕ) (m n : ℕ) (ls : List Local) → m ≤ n → AllSettable x rs inside m ls → AllSettable x rs inside n ls
settable_later x rs inside m n [] l h = tt
settable_later x rs inside m n (k ∷ ls) l h = (record { visible = h.0.visible; may = h.0.may; below = let b = h.0.below in omega (arith, b, l) }, settable_later x rs inside m n ls l h.1)

settable_push : {g : Env} (x : Inside g) (rs inside : List ℕ) (n : ℕ) (ls : List Local) (l : Local) → AllSettable x rs inside n ls → IsSettable x rs inside n l → AllSettable x rs inside n (ls ++ l ∷ [])
settable_push x rs inside n [] l h k = (k, tt)
settable_push x rs inside n (m ∷ ls) l h k = (h.0, settable_push x rs inside n ls l h.1 k)

or_more : (b c : Bool) → c ≡ true → (b || c) ≡ true
or_more true c e = refl
or_more false c e = e

or_wider : (a b c : Bool) → (a || c) ≡ true → (a || (b || c)) ≡ true
or_wider true b c e = refl
or_wider false b c e = or_more b c e

visible_wider : {g : Env} (x : Inside g) (rs : List ℕ) (i : ℕ) (l : Local) → IsVisible x rs l → IsVisible x (i ∷ rs) l
visible_wider x rs i l h = record { readable = or_more (nat_eq l.slot i) (has_slot rs l.slot) h.readable; slot = h.slot; good = h.good }

settable_read : {g : Env} (x : Inside g) (rs inside : List ℕ) (n i : ℕ) (ls : List Local) → AllSettable x rs inside n ls → AllSettable x (i ∷ rs) inside n ls
settable_read x rs inside n i [] h = tt
settable_read x rs inside n i (l ∷ ls) h = (record { visible = visible_wider x rs i l h.0.visible; may = h.0.may; below = h.0.below }, settable_read x rs inside n i ls h.1)

settable_inside : {g : Env} (x : Inside g) (rs inside : List ℕ) (n i : ℕ) (ls : List Local) → AllSettable x rs inside n ls → AllSettable x rs (i ∷ inside) n ls
settable_inside x rs inside n i [] h = tt
settable_inside x rs inside n i (l ∷ ls) h =
    (record { visible = h.0.visible; may = or_wider (not (has_slot (scope x).walks l.slot)) (nat_eq l.slot i) (has_slot inside l.slot) h.0.may; below = h.0.below }, settable_inside x rs inside n i ls h.1)

settable_after : {g : Env} (x : Inside g) (seen rs inside : List ℕ) (n i : ℕ) (c : Expr) (ls : List Local) → AllSettable x rs inside n ls → AllSettable x (readable_after seen rs (set_slot i c)) inside n ls
settable_after x seen rs inside n i c ls h = by (has_slot seen i)
  where
    by : (b : Bool) → AllSettable x (cond b rs (i ∷ rs)) inside n ls
    by true = h
    by false = settable_read x rs inside n i ls h

found_settable : {g : Env} (x : Inside g) (rs inside : List ℕ) (n : ℕ) (name : List ℕ) (ls : List Local) (l : Local) → AllSettable x rs inside n ls → local_named name ls ≡ Some l → IsSettable x rs inside n l
found_settable x rs inside n name [] l v e = absurd cc
found_settable x rs inside n name (k ∷ ls) l v e = by (is_same name k.name) e (λ h. found_settable x rs inside n name ls l v.1 h)
  where
    by : (b : Bool) → cond b (Some k) (local_named name ls) ≡ Some l → (local_named name ls ≡ Some l → IsSettable x rs inside n l) → IsSettable x rs inside n l
    by true e ih = let h : k ≡ l = cc in subst (λ (j : Local). IsSettable x rs inside n j) h v.0
    by false e ih = ih e

-- ---- what is promised

-- a body's kind and result are those that its statements are checked against
pub record BodyFits {g : Env} (x : Inside g) (r : Option Shape) : Type 0 where
  pub func : x.func ≡ is_some r
  pub result : x.result ≡ option_map form_of r

pub record FineAct {g : Env} (x : Inside g) (rs seen inside ws : List ℕ) (b m : ℕ) (d : Done) : Type 0 where
  pub sound : IsSound (scope x) seen rs inside d.core
  pub walks : walks_of d.core ≡ ws
  pub gathers : CommandGathers (scope x) (gathers_in x) d.core
  pub small : bound_command d.core ≤ b
  pub sets : AllBelow m (sets_of d.core)
  pub locals : AllSettable x (readable_after seen rs d.core) inside m d.locals

pub record FineActs {g : Env} (x : Inside g) (rs seen inside ws : List ℕ) (b m : ℕ) (cs all : List Command) : Type 0 where
  pub news : List Command
  pub all_is : all ≡ cs ++ news
  pub sound : BlockIsSound (scope x) seen rs inside (block_from news)
  pub walks : walks_of_block (block_from news) ≡ ws
  pub gathers : BlockGathers (scope x) (gathers_in x) (block_from news)
  pub small : bound_block (block_from news) ≤ b
  pub sets : AllBelow m (sets_of_block (block_from news))

pub record FineBranches {g : Env} (x : Inside g) (rs seen inside ws : List ℕ) (b m : ℕ) (ready all : List Armed) : Type 0 where
  pub news : List Armed
  pub all_is : all ≡ ready ++ news
  pub sound : ArmsAreSound (scope x) seen rs inside (arms_from news)
  pub walks : walks_of_arms (arms_from news) ≡ ws
  pub gathers : ArmsGather (scope x) (gathers_in x) (arms_from news)
  pub small : bound_arms (arms_from news) ≤ b
  pub sets : AllBelow m (sets_of_arms (arms_from news))

schema_good : (rels : List RelDecl) → ((r : ℕ) → r < length rels → IsSchema (schema_of rels r)) → (s : Schema_phrase) (a : List Attr) → SchemaIsMade s → schema_row rels s ≡ Ok a → IsSchema a
schema_good rels h (of_relation w) a m e = by (relation_named w.name rels) refl e
  where
    by : (o : Option ℕ) → relation_named w.name rels ≡ o → named_schema rels w.at o ≡ Ok a → IsSchema a
    by None k e = absurd cc
    by (Some r) k e = let j : schema_of rels r ≡ a = cc in subst (λ (z : List Attr). IsSchema z) j (h r (relation_in w.name rels r k))
schema_good rels h (written fields) a m e = fields_schema fields a m e

-- a type as written is good
pub type_good : (rels : List RelDecl) → ((r : ℕ) → r < length rels → IsSchema (schema_of rels r)) → (p : Type_phrase) (t : Shape) → TypeIsMade p → type_row rels p ≡ Ok t → IsGood t
type_good rels h (of_kind k) t m e = let s : kind_type k ≡ t = cc in subst (λ (u : Shape). IsGood u) s (kind_good k)
type_good rels h delta_type t m e = let s : delta ≡ t = cc in subst (λ (u : Shape). IsGood u) s tt
type_good rels h (rel_type s) t m e = by (schema_row rels s) refl e
  where
    by : (o : Result (List Attr) TypeFault) → schema_row rels s ≡ o → shape_with (λ s. rel s) o ≡ Ok t → IsGood t
    by (Err f) k e = absurd cc
    by (Ok a) k e = let j : rel a ≡ t = cc in subst (λ (u : Shape). IsGood u) j (schema_good rels h s a m k)
type_good rels h (tuple_type s) t m e = by (schema_row rels s) refl e
  where
    by : (o : Result (List Attr) TypeFault) → schema_row rels s ≡ o → shape_with (λ s. tuple s) o ≡ Ok t → IsGood t
    by (Err f) k e = absurd cc
    by (Ok a) k e = let j : tuple a ≡ t = cc in subst (λ (u : Shape). IsGood u) j (schema_good rels h s a m k)

-- ---- the rows of statements

effect_given : (b : Bool) (at : ℕ) (c d : Command) → effect_row b at c ≡ Ok d → (b ≡ false) × (c ≡ d)
effect_given true at c d e = absurd cc
effect_given false at c d e = (refl, cc)

module _ {g : Env} (x : Inside g) (rs seen inside : List ℕ) where
  -- another core that is the same
  same_core : (ws : List ℕ) (b m : ℕ) (ls : List Local) (c d : Command) → c ≡ d → FineAct x rs seen inside ws b m (done ls c) → FineAct x rs seen inside ws b m (done ls d)
  same_core ws b m ls c d e h = subst (λ (k : Command). FineAct x rs seen inside ws b m (done ls k)) e h

  declare_fine : (ws : List ℕ) (k n m : ℕ) (ls : List Local) (w : Word) (t : Shape) (v : Typing) (d : Done) → declare_row (env_in x) ls w n t v ≡ Ok d → IsGood t → IsSlot (scope x) n (form_of t) → has_slot (scope x).walks n ≡ false →
      n < m → AllSettable x rs inside m ls → AllBelow n seen → Fine x rs ws k v → FineAct x rs seen inside ws (k + 1) m d
  declare_fine ws k n m ls w t v d e g s u l vis below f =
      let a = then_ok (declare_local (env_in x) ls w n t v.type) (λ (l : Local). Ok (done (ls ++ l ∷ []) (set_slot n v.core))) d e in
      let c = cond_second (is_taken (env_in x) ls w.name) (repeated w.at) (given (same_shape t v.type) (mismatch w.at) (record { name = w.name; slot = n; shape = t })) a.0 a.1 in
      let o = given_true (same_shape t v.type) (mismatch w.at) (record { name = w.name; slot = n; shape = t }) a.0 c.1 in
      let same : t ≡ v.type = same_shape-true t v.type o.0 in
      let may : MaySet (scope x) inside n = ap (λ b. not b || has_slot inside n) u in
      let z = f.small in
      let local : Local = record { name = w.name; slot = n; shape = t } in
      let fresh : has_slot seen n ≡ false = below_none n seen below in
      let one : IsSettable x (n ∷ rs) inside m local = record { visible = record { readable = ap (λ b. b || has_slot rs n) (eq-eqb n n refl); slot = s; good = g }; may = may; below = l } in
      let end : done (ls ++ a.0 ∷ []) (set_slot n v.core) ≡ d = let q = a.2 in cc in
      subst (λ (d : Done). FineAct x rs seen inside ws (k + 1) m d) (ap (λ (l : Local). done (ls ++ l ∷ []) (set_slot n v.core)) o.1 ∙ end)
      (record {
        sound = (form_of t, s, subst (λ (y : Shape). IsOf (scope x) rs v.core (form_of y)) (sym same) f.of, may);
        walks = f.walks;
        gathers = f.gathers;
        small = omega (arith, z);
        sets = (l, tt);
        locals = subst (λ (b : Bool). AllSettable x (cond b rs (n ∷ rs)) inside m (ls ++ local ∷ [])) (sym fresh) (settable_push x (n ∷ rs) inside m ls local (settable_read x rs inside m n ls vis) one);
      })

  assign_fine : (ws : List ℕ) (k n m : ℕ) (ls : List Local) (w : Word) (v : Typing) (c : Command) → assign_row ls w v ≡ Ok c → n ≤ m → AllSettable x rs inside n ls → Fine x rs ws k v → FineAct x rs seen inside ws (k + 1) m (done ls c)
  assign_fine ws k n m ls w v c e l vis f = by (local_named w.name ls) refl e
    where
      by : (o : Option Local) → local_named w.name ls ≡ o → assigned w v o ≡ Ok c → FineAct x rs seen inside ws (k + 1) m (done ls c)
      by None j e = absurd cc
      by (Some y) j e =
          let o = given_true (same_shape y.shape v.type) (mismatch w.at) (set_slot y.slot v.core) c e in
          let h = found_settable x rs inside n w.name ls y vis j in
          let z = f.small in
          let q = h.below in
          same_core ws (k + 1) m ls (set_slot y.slot v.core) c o.1
          (record {
            sound = (form_of y.shape, h.visible.slot, subst (λ (u : Shape). IsOf (scope x) rs v.core (form_of u)) (sym (same_shape-true y.shape v.type o.0)) f.of, h.may);
            walks = f.walks;
            gathers = f.gathers;
            small = omega (arith, z);
            sets = (omega (arith, q, l), tt);
            locals = settable_after x seen rs inside m y.slot v.core ls (settable_later x rs inside n m ls l vis);
          })

  print_fine : (ws : List ℕ) (k m at : ℕ) (ls : List Local) (b : Bool) (v : Typing) (c : Command) → x.func ≡ b → print_row b at v ≡ Ok c → AllSettable x rs inside m ls → Fine x rs ws k v → FineAct x rs seen inside ws (k + 1) m (done ls c)
  print_fine ws k m at ls b v c fun e vis f =
      let o = effect_given b at (print v.core v.type) c e in
      let z = f.small in
      same_core ws (k + 1) m ls (print v.core v.type) c o.1 (record { sound = (f.of, fun ∙ o.0); walks = f.walks; gathers = f.gathers; small = omega (arith, z); sets = tt; locals = vis })

  apply_fine : (ws : List ℕ) (k m at : ℕ) (ls : List Local) (b : Bool) (v : Typing) (c : Command) → x.func ≡ b → apply_row b at v ≡ Ok c → AllSettable x rs inside m ls → Fine x rs ws k v → FineAct x rs seen inside ws (k + 1) m (done ls c)
  apply_fine ws k m at ls true v c fun e vis f = absurd cc
  apply_fine ws k m at ls false v c fun e vis f =
      let o = given_true (is_delta v.type) (mismatch at) (apply v.core at) c e in
      let z = f.small in
      same_core ws (k + 1) m ls (apply v.core at) c o.1
      (record { sound = (subst (λ (u : Shape). IsOf (scope x) rs v.core (form_of u)) (is_delta-true v.type o.0) f.of, fun); walks = f.walks; gathers = f.gathers; small = omega (arith, z); sets = tt; locals = vis })

  assert_fine : (ws : List ℕ) (k m at : ℕ) (ls : List Local) (v : Typing) (c : Command) → assert_row at v ≡ Ok c → AllSettable x rs inside m ls → Fine x rs ws k v → FineAct x rs seen inside ws (k + 1) m (done ls c)
  assert_fine ws k m at ls v c e vis f =
      let o = given_true (is_bool v.type) (mismatch at) (assert v.core at) c e in
      let z = f.small in
      same_core ws (k + 1) m ls (assert v.core at) c o.1
      (record { sound = subst (λ (u : Shape). IsOf (scope x) rs v.core (form_of u)) (is_bool-true v.type o.0) f.of; walks = f.walks; gathers = f.gathers; small = omega (arith, z); sets = tt; locals = vis })

  value_fine : (ws : List ℕ) (k m at : ℕ) (ls : List Local) (r : Option Shape) (v : Typing) (c : Command) → BodyFits x r → return_value_row r at v ≡ Ok c → AllSettable x rs inside m ls → Fine x rs ws k v → FineAct x rs seen inside ws (k + 1) m (done ls c)
  value_fine ws k m at ls None v c fits e vis f = absurd cc
  value_fine ws k m at ls (Some t) v c fits e vis f =
      let o = given_true (same_shape t v.type) (mismatch at) (return_value v.core) c e in
      let z = f.small in
      same_core ws (k + 1) m ls (return_value v.core) c o.1
      (record {
        sound = (form_of t, subst (λ (u : Shape). IsOf (scope x) rs v.core (form_of u)) (sym (same_shape-true t v.type o.0)) f.of, fits.result, fits.func);
        walks = f.walks;
        gathers = f.gathers;
        small = omega (arith, z);
        sets = tt;
        locals = vis;
      })

  return_fine : (m at : ℕ) (ls : List Local) (r : Option Shape) (c : Command) → BodyFits x r → return_row r at ≡ Ok c → AllSettable x rs inside m ls → FineAct x rs seen inside [] 10 m (done ls c)
  return_fine m at ls None c fits e vis = let h : return ≡ c = cc in same_core [] 10 m ls return c h (record { sound = fits.func; walks = refl; gathers = tt; small = omega arith; sets = tt; locals = vis })
  return_fine m at ls (Some t) c fits e vis = absurd cc

  perform_fine : (env : EnvIsGood x) (ws : List ℕ) (k m : ℕ) (ls : List Local) (b : Bool) (w : Word) (vs : List Typing) (c : Command) → x.func ≡ b → perform_row (env_in x) b w vs ≡ Ok c → AllSettable x rs inside m ls →
      FineAll x rs ws k vs → FineAct x rs seen inside ws (k + 1) m (done ls c)
  perform_fine env ws k m ls b w vs c fun e vis f = by (proc_named w.name (env_in x).procs) refl e
    where
      never : (b : Bool) → cond b (Err (mismatch w.at)) (Err (unknown w.at)) ≡ Ok c → FineAct x rs seen inside ws (k + 1) m (done ls c)
      never true e = absurd cc
      never false e = absurd cc

      by : (o : Option ProcSig) → proc_named w.name (env_in x).procs ≡ o → performed (env_in x) b w vs o ≡ Ok c → FineAct x rs seen inside ws (k + 1) m (done ls c)
      by None j e = never _ e
      by (Some p) j e =
          let q = cond_second b (impure w.at) (given (same_shapes (params_of p.params) (types_of vs)) (mismatch w.at) (call_proc p.number (exprs_from vs))) c e in
          let o = given_true (same_shapes (params_of p.params) (types_of vs)) (mismatch w.at) (call_proc p.number (exprs_from vs)) c q.1 in
          let fs : forms_of p.params ≡ forms_in (types_of vs) = params_forms p.params ∙ ap (λ (ts : List Shape). forms_in ts) (same_shapes-true (params_of p.params) (types_of vs) o.0) in
          let z = f.small in
          same_core ws (k + 1) m ls (call_proc p.number (exprs_from vs)) c o.1
          (record {
            sound = (forms_in (types_of vs), f.of, subst (λ (y : List Form). IsCallee (scope x) p.number false y None) fs (env.procs w.name p j), fun ∙ q.0);
            walks = f.walks;
            gathers = f.gathers;
            small = omega (arith, z);
            sets = tt;
            locals = vis;
          })

  effect_fine : (m at : ℕ) (ls : List Local) (b : Bool) (c d : Command) → x.func ≡ b → effect_row b at c ≡ Ok d → (x.func ≡ false → FineAct x rs seen inside [] 10 m (done ls c)) → FineAct x rs seen inside [] 10 m (done ls d)
  effect_fine m at ls b c d fun e h = let o = effect_given b at c d e in same_core [] 10 m ls c d o.1 (h (fun ∙ o.0))

cond_given : (at : ℕ) (v : Typing) (e : Expr) → cond_row at v ≡ Ok e → (v.type ≡ bool) × (v.core ≡ e)
cond_given at v e k = let o = given_true (is_bool v.type) (mismatch at) v.core e k in (is_bool-true v.type o.0, o.1)

-- more room, and other names of the walks
act_moved : {g : Env} (x : Inside g) (rs seen inside ws ws' : List ℕ) (b b' m : ℕ) (d : Done) → ws ≡ ws' → b ≤ b' → FineAct x rs seen inside ws b m d → FineAct x rs seen inside ws' b' m d
act_moved x rs seen inside ws ws' b b' m d e l h = let z = h.small in record { sound = h.sound; walks = h.walks ∙ e; gathers = h.gathers; small = omega (arith, z, l); sets = h.sets; locals = h.locals }

-- the condition of an `if` or a `while`
pub record IsCondition {g : Env} (x : Inside g) (rs ws : List ℕ) (b : ℕ) (e : Expr) : Type 0 where
  pub of : IsOf (scope x) rs e bool_form
  pub walks : walks_in e ≡ ws
  pub gathers : Gathers (scope x) (gathers_in x) e
  pub small : bound e + 3 ≤ b

condition : {g : Env} (x : Inside g) (rs ws : List ℕ) (b at : ℕ) (v : Typing) (e : Expr) → cond_row at v ≡ Ok e → Fine x rs ws b v → IsCondition x rs ws b e
condition x rs ws b at v e k f =
    let o = cond_given at v e k in
    subst (λ (e : Expr). IsCondition x rs ws b e) o.1 (record { of = subst (λ (u : Shape). IsOf (scope x) rs v.core (form_of u)) o.0 f.of; walks = f.walks; gathers = f.gathers; small = f.small })

mutual
  pub act_fine : {g : Env} (x : Inside g) (env : EnvIsGood x) (r : Option Shape) (fits : BodyFits x r) (rs seen inside : List ℕ) {ls : List Local} {n : ℕ} {a : Act} {d : Done} (e : ElabAct g r ls n a d) → ActIsMade a →
      AllSettable x rs inside n ls → AllBelow n seen → Stand x.slots n (slots_act e) → FineAct x rs seen inside (walk_places n (slots_act e)) (10 * act_nodes a) (n + slots_of_act a) d
  act_fine x env r fits rs seen inside (declare_is {ls = ls} {n = n} {type = type} {w = w} {p = p} {t = t} {v = v} {d = d} k e row) m vis below st =
      let slot : IsSlot (scope x) n (form_of t) = slot_held x n (held t) st.0 in
      let u : has_slot (scope x).walks n ≡ false = walk_at n x.slots (held t) st.0 in
      let f = fine x env rs e m.1 (all_visible x rs inside n ls vis) st.1 in
      act_moved x rs seen inside (walk_places (n + 1) (slots e)) (walk_places (n + 1) (slots e)) (10 * nodes p + 1) (10 * (1 + nodes p)) (n + (1 + slots_of p)) d refl (omega arith)
      (declare_fine x rs seen inside (walk_places (n + 1) (slots e)) (10 * nodes p) n (n + (1 + slots_of p)) ls w t v d row (type_good (env_in x).relations env.schemas type t m.0 k) slot u (omega arith)
      (settable_later x rs inside n (n + (1 + slots_of p)) ls (omega arith) vis) below f)
  act_fine x env r fits rs seen inside (assign_is {ls = ls} {n = n} {w = w} {p = p} {v = v} {c = c} e row) m vis below st =
      let f = fine x env rs e m (all_visible x rs inside n ls vis) st in
      act_moved x rs seen inside (walk_places n (slots e)) (walk_places n (slots e)) (10 * nodes p + 1) (10 * (1 + nodes p)) (n + slots_of p) (done ls c) refl (omega arith)
      (assign_fine x rs seen inside (walk_places n (slots e)) (10 * nodes p) n (n + slots_of p) ls w v c row (omega arith) vis f)
  act_fine x env r fits rs seen inside (print_is {ls = ls} {n = n} {at = at} {p = p} {v = v} {c = c} e row) m vis below st =
      let f = fine x env rs e m (all_visible x rs inside n ls vis) st in
      act_moved x rs seen inside (walk_places n (slots e)) (walk_places n (slots e)) (10 * nodes p + 1) (10 * (1 + nodes p)) (n + slots_of p) (done ls c) refl (omega arith)
      (print_fine x rs seen inside (walk_places n (slots e)) (10 * nodes p) (n + slots_of p) at ls (is_some r) v c fits.func row (settable_later x rs inside n (n + slots_of p) ls (omega arith) vis) f)
  act_fine x env r fits rs seen inside (apply_is {ls = ls} {n = n} {at = at} {p = p} {v = v} {c = c} e row) m vis below st =
      let f = fine x env rs e m (all_visible x rs inside n ls vis) st in
      act_moved x rs seen inside (walk_places n (slots e)) (walk_places n (slots e)) (10 * nodes p + 1) (10 * (1 + nodes p)) (n + slots_of p) (done ls c) refl (omega arith)
      (apply_fine x rs seen inside (walk_places n (slots e)) (10 * nodes p) (n + slots_of p) at ls (is_some r) v c fits.func row (settable_later x rs inside n (n + slots_of p) ls (omega arith) vis) f)
  act_fine x env r fits rs seen inside (assert_is {ls = ls} {n = n} {at = at} {p = p} {v = v} {c = c} e row) m vis below st =
      let f = fine x env rs e m (all_visible x rs inside n ls vis) st in
      act_moved x rs seen inside (walk_places n (slots e)) (walk_places n (slots e)) (10 * nodes p + 1) (10 * (1 + nodes p)) (n + slots_of p) (done ls c) refl (omega arith)
      (assert_fine x rs seen inside (walk_places n (slots e)) (10 * nodes p) (n + slots_of p) at ls v c row (settable_later x rs inside n (n + slots_of p) ls (omega arith) vis) f)
  act_fine x env r fits rs seen inside (return_value_is {ls = ls} {n = n} {at = at} {p = p} {v = v} {c = c} e row) m vis below st =
      let f = fine x env rs e m (all_visible x rs inside n ls vis) st in
      act_moved x rs seen inside (walk_places n (slots e)) (walk_places n (slots e)) (10 * nodes p + 1) (10 * (1 + nodes p)) (n + slots_of p) (done ls c) refl (omega arith)
      (value_fine x rs seen inside (walk_places n (slots e)) (10 * nodes p) (n + slots_of p) at ls r v c fits row (settable_later x rs inside n (n + slots_of p) ls (omega arith) vis) f)
  act_fine x env r fits rs seen inside (commit_is {ls = ls} {n = n} {at = at} {label = label} {c = c} row) m vis below st =
      effect_fine x rs seen inside (n + 0) at ls (is_some r) (commit label) c fits.func row (λ k. record { sound = (m, k); walks = refl; gathers = tt; small = omega arith; sets = tt; locals = settable_later x rs inside n (n + 0) ls (omega arith) vis })
  act_fine x env r fits rs seen inside (rollback_is {ls = ls} {n = n} {at = at} {c = c} row) m vis below st =
      effect_fine x rs seen inside (n + 0) at ls (is_some r) rollback c fits.func row (λ k. record { sound = k; walks = refl; gathers = tt; small = omega arith; sets = tt; locals = settable_later x rs inside n (n + 0) ls (omega arith) vis })
  act_fine x env r fits rs seen inside (return_is {ls = ls} {n = n} {at = at} {c = c} row) m vis below st =
      return_fine x rs seen inside (n + 0) at ls r c fits row (settable_later x rs inside n (n + 0) ls (omega arith) vis)
  act_fine x env r fits rs seen inside (perform_is {ls = ls} {n = n} {w = w} {args = args} {vs = vs} {c = c} e row) m vis below st =
      let h = fine_all x env rs e m (all_visible x rs inside n ls vis) st in
      act_moved x rs seen inside (walk_places n (slots_all e)) (walk_places n (slots_all e)) (10 * nodes_all args + 1) (10 * (1 + nodes_all args)) (n + slots_of_all args) (done ls c) refl (omega arith)
      (perform_fine x rs seen inside env (walk_places n (slots_all e)) (10 * nodes_all args) (n + slots_of_all args) ls (is_some r) w vs c fits.func row (settable_later x rs inside n (n + slots_of_all args) ls (omega arith) vis)
      (fine_list x rs (walk_places n (slots_all e)) (10 * nodes_all args) (count_of args) vs h))
  act_fine x env r fits rs seen inside (choose_is {ls = ls} {n = n} {arms = arms} {last = last} {all = all} {cs = cs} b c) m vis below st =
      let k = slots_of_branches arms in
      let s = stand_both x.slots n (slots_branches b) (slots_acts c) k (branches_many b) st in
      let h = branches_fine x env r fits rs seen inside b m.0 vis below s.0 in
      let seen' = seen ++ sets_of_arms (arms_from h.news) in
      let j = acts_fine x env r fits rs seen' inside c m.1 (settable_later x rs inside n (n + k) ls (omega arith) vis) (below_append (n + k) seen (sets_of_arms (arms_from h.news)) (below_weaker n (n + k) seen (omega arith) below) h.sets) s.1 in
      let p = h.small in
      let q = j.small in
      let body : FineAct x rs seen inside (walk_places n (slots_branches b ++ slots_acts c)) (10 * (branches_nodes arms + acts_nodes last)) (n + (k + slots_of_acts last)) (done ls (if_arms (arms_from h.news) (block_from j.news))) =
      record {
        sound = (h.sound, j.sound);
        walks = ap (λ zs. zs ++ walks_of_block (block_from j.news)) h.walks ∙ ap (λ zs. walk_places n (slots_branches b) ++ zs) j.walks ∙ sym (walk_places-append n (slots_branches b) (slots_acts c) k (branches_many b));
        gathers = (h.gathers, j.gathers);
        small = omega (arith, p, q);
        sets = below_append (n + (k + slots_of_acts last)) (sets_of_arms (arms_from h.news)) (sets_of_block (block_from j.news)) (below_weaker (n + k) (n + (k + slots_of_acts last)) (sets_of_arms (arms_from h.news)) (omega arith) h.sets)
            (below_weaker ((n + k) + slots_of_acts last) (n + (k + slots_of_acts last)) (sets_of_block (block_from j.news)) (omega arith) j.sets);
        locals = settable_later x rs inside n (n + (k + slots_of_acts last)) ls (omega arith) vis;
      } in
      subst (λ (z : List Armed). FineAct x rs seen inside (walk_places n (slots_branches b ++ slots_acts c)) (10 * (branches_nodes arms + acts_nodes last)) (n + (k + slots_of_acts last)) (done ls (if_arms (arms_from z) (block_from cs)))) (sym h.all_is)
      (subst (λ (z : List Command). FineAct x rs seen inside (walk_places n (slots_branches b ++ slots_acts c)) (10 * (branches_nodes arms + acts_nodes last)) (n + (k + slots_of_acts last)) (done ls (if_arms (arms_from h.news) (block_from z)))) (sym j.all_is) body)
  act_fine x env r fits rs seen inside (loop_is {ls = ls} {n = n} {at = at} {c = c} {block = block} {v = v} {e = e} {cs = cs} d row b) m vis below st =
      let k = slots_of c in
      let s = stand_both x.slots n (slots d) (slots_acts b) k (slots_many d) st in
      let h = condition x rs (walk_places n (slots d)) (10 * nodes c) at v e row (fine x env rs d m.0 (all_visible x rs inside n ls vis) s.0) in
      let j = acts_fine x env r fits rs seen inside b m.1 (settable_later x rs inside n (n + k) ls (omega arith) vis) (below_weaker n (n + k) seen (omega arith) below) s.1 in
      let p = h.small in
      let q = j.small in
      let body : FineAct x rs seen inside (walk_places n (slots d ++ slots_acts b)) (10 * (1 + nodes c + acts_nodes block)) (n + (k + slots_of_acts block)) (done ls (while e (block_from j.news))) =
      record {
        sound = (h.of, j.sound);
        walks = ap (λ zs. zs ++ walks_of_block (block_from j.news)) h.walks ∙ ap (λ zs. walk_places n (slots d) ++ zs) j.walks ∙ sym (walk_places-append n (slots d) (slots_acts b) k (slots_many d));
        gathers = (h.gathers, j.gathers);
        small = omega (arith, p, q);
        sets = below_weaker ((n + k) + slots_of_acts block) (n + (k + slots_of_acts block)) (sets_of_block (block_from j.news)) (omega arith) j.sets;
        locals = settable_later x rs inside n (n + (k + slots_of_acts block)) ls (omega arith) vis;
      } in
      subst (λ (z : List Command). FineAct x rs seen inside (walk_places n (slots d ++ slots_acts b)) (10 * (1 + nodes c + acts_nodes block)) (n + (k + slots_of_acts block)) (done ls (while e (block_from z)))) (sym j.all_is) body
  act_fine x env r fits rs seen inside (visit_is {ls = ls} {n = n} {at = at} {var = var} {of = of} {block = block} {v = v} {l = l} {cs = cs} d row b) m vis below st =
      let k = slots_of of in
      let s = stand_both x.slots (n + 1) (slots d) (slots_acts b) k (slots_many d) st.1 in
      let f = fine x env rs d m.0 (all_visible x rs inside n ls vis) s.0 in
      let w = walked_local (env_in x) ls var at n v.type l row in
      let its : Slot = walked l.shape (attrs_of_tuple l.shape) in
      let slot : IsSlot (scope x) n (form_of l.shape) = slot_held x n its st.0 in
      let one = variable_visible x rs n var v.type l w f.good slot in
      let here : (nat_eq l.slot n || has_slot inside l.slot) ≡ true = ap (λ z. z || has_slot inside l.slot) (eq-eqb l.slot n (sym w.slot_is)) in
      let mine : IsSettable x (n ∷ rs) (n ∷ inside) (n + 1 + k) l =
      record { visible = one; may = or_more (not (has_slot (scope x).walks l.slot)) (nat_eq l.slot n || has_slot inside l.slot) here; below = let z = w.slot_is in omega (arith, z) } in
      let vis' : AllSettable x (n ∷ rs) (n ∷ inside) (n + 1 + k) (ls ++ l ∷ []) =
      settable_push x (n ∷ rs) (n ∷ inside) (n + 1 + k) ls l (settable_inside x (n ∷ rs) inside (n + 1 + k) n ls (settable_read x rs inside (n + 1 + k) n ls (settable_later x rs inside n (n + 1 + k) ls (omega arith) vis))) mine in
      let j = acts_fine x env r fits (n ∷ rs) seen (n ∷ inside) b m.1 vis' (below_weaker n (n + 1 + k) seen (omega arith) below) s.1 in
      let p = f.small in
      let q = j.small in
      let slot' : IsSlot (scope x) n (of_tuple (kinds_of w.schema)) = subst (λ (u : Shape). IsSlot (scope x) n (form_of u)) (sym w.shape_is) slot in
      let gathers : IsGathered (scope x) (gathers_in x) n (kinds_of w.schema) =
      subst (λ (u : Shape). IsGathered (scope x) (gathers_in x) n (kinds_of (attrs_of_tuple u))) (sym w.shape_is) (walk_gathers x n its (attrs_of_tuple l.shape) st.0 refl) in
      let body : FineAct x rs seen inside (n ∷ walk_places (n + 1) (slots d ++ slots_acts b)) (10 * (1 + nodes of + acts_nodes block)) (n + (1 + k + slots_of_acts block)) (done ls (foreach n v.core (block_from j.news))) =
      record {
        sound = (kinds_of w.schema, subst (λ (u : Shape). IsOf (scope x) rs v.core (form_of u)) w.over_is f.of, slot', j.sound);
        walks = ap (λ zs. n ∷ zs) (ap (λ zs. zs ++ walks_of_block (block_from j.news)) f.walks ∙ ap (λ zs. walk_places (n + 1) (slots d) ++ zs) j.walks ∙ sym (walk_places-append (n + 1) (slots d) (slots_acts b) k (slots_many d)));
        gathers = (f.gathers, j.gathers, (kinds_of w.schema, slot', gathers));
        small = omega (arith, p, q);
        sets = below_weaker ((n + 1 + k) + slots_of_acts block) (n + (1 + k + slots_of_acts block)) (sets_of_block (block_from j.news)) (omega arith) j.sets;
        locals = settable_later x rs inside n (n + (1 + k + slots_of_acts block)) ls (omega arith) vis;
      } in
      subst (λ (z : List Command). FineAct x rs seen inside (n ∷ walk_places (n + 1) (slots d ++ slots_acts b)) (10 * (1 + nodes of + acts_nodes block)) (n + (1 + k + slots_of_acts block)) (done ls (foreach n v.core (block_from z)))) (sym j.all_is) body

  pub acts_fine : {g : Env} (x : Inside g) (env : EnvIsGood x) (r : Option Shape) (fits : BodyFits x r) (rs seen inside : List ℕ) {ls : List Local} {n : ℕ} {cs all : List Command} {ps : Acts} (e : ElabActs g r ls n cs ps all) → ActsAreMade ps →
      AllSettable x rs inside n ls → AllBelow n seen → Stand x.slots n (slots_acts e) → FineActs x rs seen inside (walk_places n (slots_acts e)) (10 * acts_nodes ps) (n + slots_of_acts ps) cs all
  acts_fine x env r fits rs seen inside (no_act_is {cs = cs}) m vis below st = record { news = []; all_is = sym (append-nil cs); sound = tt; walks = refl; gathers = tt; small = omega arith; sets = tt }
  acts_fine x env r fits rs seen inside (act_is {ls = ls} {n = n} {a = a} {rest = rest} {d = d} {cs = cs} e es) m vis below st =
      let k = slots_of_act a in
      let s = stand_both x.slots n (slots_act e) (slots_acts es) k (act_many e) st in
      let f = act_fine x env r fits rs seen inside e m.0 vis below s.0 in
      let j = acts_fine x env r fits (readable_after seen rs d.core) (seen ++ sets_of d.core) inside es m.1 f.locals (below_append (n + k) seen (sets_of d.core) (below_weaker n (n + k) seen (omega arith) below) f.sets) s.1 in
      let p = f.small in
      let q = j.small in
      record {
        news = d.core ∷ j.news;
        all_is = j.all_is ∙ append_assoc cs (d.core ∷ []) j.news;
        sound = (f.sound, j.sound);
        walks = ap (λ zs. zs ++ walks_of_block (block_from j.news)) f.walks ∙ ap (λ zs. walk_places n (slots_act e) ++ zs) j.walks ∙ sym (walk_places-append n (slots_act e) (slots_acts es) k (act_many e));
        gathers = (f.gathers, j.gathers);
        small = omega (arith, p, q);
        sets = below_append (n + (k + slots_of_acts rest)) (sets_of d.core) (sets_of_block (block_from j.news)) (below_weaker (n + k) (n + (k + slots_of_acts rest)) (sets_of d.core) (omega arith) f.sets)
            (below_weaker ((n + k) + slots_of_acts rest) (n + (k + slots_of_acts rest)) (sets_of_block (block_from j.news)) (omega arith) j.sets);
      }

  pub branches_fine : {g : Env} (x : Inside g) (env : EnvIsGood x) (r : Option Shape) (fits : BodyFits x r) (rs seen inside : List ℕ) {ls : List Local} {n : ℕ} {ready all : List Armed} {bs : Branches} (e : ElabBranches g r ls n ready bs all) → BranchesAreMade bs →
      AllSettable x rs inside n ls → AllBelow n seen → Stand x.slots n (slots_branches e) → FineBranches x rs seen inside (walk_places n (slots_branches e)) (10 * branches_nodes bs) (n + slots_of_branches bs) ready all
  branches_fine x env r fits rs seen inside (no_branch_is {ready = ready}) m vis below st = record { news = []; all_is = sym (append-nil ready); sound = tt; walks = refl; gathers = tt; small = omega arith; sets = tt }
  branches_fine x env r fits rs seen inside (branch_is {ls = ls} {n = n} {at = at} {c = c} {block = block} {rest = rest} {v = v} {e = e} {cs = cs} {ready = ready} d row b bs) m vis below st =
      let k = slots_of c in
      let i = slots_of_acts block in
      let both = together (slots d) (slots_acts b) k i (slots_many d) (acts_many b) in
      let outer = stand_both x.slots n (slots d ++ slots_acts b) (slots_branches bs) (k + i) both st in
      let s = stand_both x.slots n (slots d) (slots_acts b) k (slots_many d) outer.0 in
      let at_rest : (n + (k + i)) ≡ ((n + k) + i) = omega arith in
      let h = condition x rs (walk_places n (slots d)) (10 * nodes c) at v e row (fine x env rs d m.0 (all_visible x rs inside n ls vis) s.0) in
      let j = acts_fine x env r fits rs seen inside b m.1 (settable_later x rs inside n (n + k) ls (omega arith) vis) (below_weaker n (n + k) seen (omega arith) below) s.1 in
      let seen' = seen ++ sets_of_block (block_from j.news) in
      let o = branches_fine x env r fits rs seen' inside bs m.2 (settable_later x rs inside n ((n + k) + i) ls (omega arith) vis)
      (below_append ((n + k) + i) seen (sets_of_block (block_from j.news)) (below_weaker n ((n + k) + i) seen (omega arith) below) j.sets) (subst (λ z. Stand x.slots z (slots_branches bs)) at_rest outer.1) in
      let p = h.small in
      let q = j.small in
      let u = o.small in
      let block_is : cs ≡ j.news = j.all_is in
      let armed : Armed = record { cond = e; block = j.news } in
      let same : record { cond = e; block = cs } ≡ armed = ap (λ (z : List Command). let a : Armed = record { cond = e; block = z } in a) block_is in
      let rest_walks : walk_places ((n + k) + i) (slots_branches bs) ≡ walk_places (n + (k + i)) (slots_branches bs) = ap (λ z. walk_places z (slots_branches bs)) (sym at_rest) in
      record {
        news = armed ∷ o.news;
        all_is = o.all_is ∙ append_assoc ready (record { cond = e; block = cs } ∷ []) o.news ∙ ap (λ (z : Armed). ready ++ z ∷ o.news) same;
        sound = (h.of, j.sound, o.sound);
        walks = ap (λ zs. (zs ++ walks_of_block (block_from j.news)) ++ walks_of_arms (arms_from o.news)) h.walks ∙ ap (λ zs. (walk_places n (slots d) ++ zs) ++ walks_of_arms (arms_from o.news)) j.walks
            ∙ ap (λ zs. (walk_places n (slots d) ++ walk_places (n + k) (slots_acts b)) ++ zs) (o.walks ∙ rest_walks)
            ∙ ap (λ zs. zs ++ walk_places (n + (k + i)) (slots_branches bs)) (sym (walk_places-append n (slots d) (slots_acts b) k (slots_many d)))
            ∙ sym (walk_places-append n (slots d ++ slots_acts b) (slots_branches bs) (k + i) both);
        gathers = (h.gathers, j.gathers, o.gathers);
        small = omega (arith, p, q, u);
        sets = below_append (n + (k + i + slots_of_branches rest)) (sets_of_block (block_from j.news)) (sets_of_arms (arms_from o.news)) (below_weaker ((n + k) + i) (n + (k + i + slots_of_branches rest)) (sets_of_block (block_from j.news)) (omega arith) j.sets)
            (below_weaker (((n + k) + i) + slots_of_branches rest) (n + (k + i + slots_of_branches rest)) (sets_of_arms (arms_from o.news)) (omega arith) o.sets);
      }
