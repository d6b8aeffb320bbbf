-- What is promised of a typed phrase: its core is of its type's form, its type's schema is one, its walks
-- have their own slots and gather what is said of them, and its code is short.
use Rattle.std.proofs.Common.{◌≡◌, ℕ, ◌<◌, ◌≤◌, ◌+◌, List, [], ◌∷◌, ◌++◌, length, refl, ap, ◌∙◌, subst, arith, Bool, true, false, append-nil}
use Rattle.std.specs.Prelude.{Option, Some, None, map, slice_get}
use Rattle.std.proofs.lemmas.Option.{slice_get-map}
use Rattle.std.specs.Option.{option_map}
use Rattle.hera_meaning.specs.declared.scalars.Kind.{Kind}
use Rattle.hera_meaning.specs.declared.scalars.Kind.TheVariants.{Int as int_kind, Bool as bool_kind, Text as text_kind}
use Rattle.hera_meaning.specs.declared.schemas.Attr.{Attr}
use Rattle.hera_meaning.specs.declared.trees.Op.{Op}
use Rattle.hera_meaning.specs.declared.trees.Shape.{Shape}
use Rattle.hera_meaning.specs.declared.trees.Shape.TheVariants.{Tuple as tuple, Rel as rel}
use Rattle.hera_meaning.specs.Schemas.{IsSchema}
use Rattle.hera_meaning.specs.Deltas.{schema_of}
use Rattle.hera_meaning.specs.Trees.{prim, call, Body_tree}
use Rattle.hera_meaning.specs.Forms.{Form, of_scalar, form_of, kinds_of, OpIsOf}
use Rattle.hera_meaning.specs.Sound.{Scope, Body_forms, IsSlot, IsOf, AreOf, IsCallee, has_slot, walks_in, walks_in_all}
use Rattle.hera_meaning.specs.Shapes.{kinds_if, IsGathered, Gathers, GathersAll}
use Rattle.hera_host.specs.Tables.{specs_of}
use Rattle.hera_rules.specs.declared.env.Local.{Local}
use Rattle.hera_rules.specs.declared.env.FuncSig.{FuncSig}
use Rattle.hera_rules.specs.declared.env.ProcSig.{ProcSig}
use Rattle.hera_rules.specs.Environments.{Env, func_named, proc_named}
use Rattle.hera_rules.specs.Rules.{Typing, typing, kind_type, types_of, params_of, exprs_from, one_expr, two_exprs, kind_types}
use Rattle.hera_sound.specs.Types_found.{Slot}
use Rattle.hera_sound.proofs.Slots.{slot_forms, slot_gathers, walk_places}
use Rattle.hera_sound.proofs.Sizes.{bound, bound_all}

-- one body, where names mean this: the program's bodies with their forms, and the body's own slots and result
pub record Inside (g : Env) : Type 0 where
  pub bodies : List Body_tree
  pub forms : List Body_forms
  pub func : Bool
  pub slots : List Slot
  pub result : Option Form

abbrev pub env_in : {g : Env} → Inside g → Env
env_in {g} x = g

abbrev pub scope : {g : Env} → Inside g → Scope
scope x = record {
  rels = (env_in x).relations;
  hosts = specs_of (env_in x).hosts;
  bodies = x.bodies;
  forms = x.forms;
  func = x.func;
  own = record { slots = slot_forms x.slots; result = x.result };
  walks = walk_places 0 x.slots;
}

abbrev pub gathers_in : {g : Env} → Inside g → List (Option (List Kind))
gathers_in x = slot_gathers x.slots

-- the schema of a type is one
abbrev pub IsGood : Shape → Type 0
IsGood (tuple s) = IsSchema s
IsGood (rel s) = IsSchema s
IsGood _ = Unit {0}

abbrev pub forms_of : List Local → List Form
forms_of ls = map (λ l. form_of l.shape) ls

abbrev pub forms_in : List Shape → List Form
forms_in ts = map form_of ts

-- what names mean is sound
pub record EnvIsGood {g : Env} (x : Inside g) : Type 0 where
  pub schemas : (r : ℕ) → r < length (env_in x).relations → IsSchema (schema_of (env_in x).relations r)
  pub funcs : (name : List ℕ) (f : FuncSig) → func_named name (env_in x).funcs ≡ Some f → IsCallee (scope x) f.number true (forms_of f.params) (Some (form_of f.result)) × IsGood f.result
  pub procs : (name : List ℕ) (p : ProcSig) → proc_named name (env_in x).procs ≡ Some p → IsCallee (scope x) p.number false (forms_of p.params) None

-- a visible local is readable, its slot has its form, and its type is good
pub record IsVisible {g : Env} (x : Inside g) (rs : List ℕ) (l : Local) : Type 0 where
  pub readable : has_slot rs l.slot ≡ true
  pub slot : IsSlot (scope x) l.slot (form_of l.shape)
  pub good : IsGood l.shape

abbrev pub AllVisible : {g : Env} → Inside g → List ℕ → List Local → Type 0
AllVisible x rs [] = Unit {0}
AllVisible x rs (l ∷ ls) = IsVisible x rs l × AllVisible x rs ls

-- a typed phrase, the slots of its walks, and a bound of its code
pub record Fine {g : Env} (x : Inside g) (rs : List ℕ) (ws : List ℕ) (b : ℕ) (v : Typing) : Type 0 where
  pub of : IsOf (scope x) rs v.core (form_of v.type)
  pub good : IsGood v.type
  pub walks : walks_in v.core ≡ ws
  pub gathers : Gathers (scope x) (gathers_in x) v.core
  pub small : bound v.core + 3 ≤ b

-- typed phrases in a row
pub record FineAll {g : Env} (x : Inside g) (rs : List ℕ) (ws : List ℕ) (b : ℕ) (vs : List Typing) : Type 0 where
  pub of : AreOf (scope x) rs (exprs_from vs) (forms_in (types_of vs))
  pub walks : walks_in_all (exprs_from vs) ≡ ws
  pub gathers : GathersAll (scope x) (gathers_in x) (exprs_from vs)
  pub small : bound_all (exprs_from vs) ≤ b

pub slot_held : {g : Env} (x : Inside g) (i : ℕ) (s : Slot) → slice_get x.slots i ≡ Some s → IsSlot (scope x) i (form_of s.shape)
slot_held x i s e =
    let shapes : List Shape = map (λ (s : Slot). s.shape) x.slots in
    let here : slice_get shapes i ≡ Some s.shape = slice_get-map (λ (s : Slot). s.shape) x.slots i ∙ ap (λ (o : Option Slot). option_map (λ (s : Slot). s.shape) o) e in
    slice_get-map (λ (t : Shape). form_of t) shapes i ∙ ap (λ (o : Option Shape). option_map (λ (t : Shape). form_of t) o) here

-- what the walk into a slot gathers
pub walk_gathers : {g : Env} (x : Inside g) (i : ℕ) (s : Slot) (a : List Attr) → slice_get x.slots i ≡ Some s → s.gathers ≡ Some a → IsGathered (scope x) (gathers_in x) i (kinds_of a)
walk_gathers x i s a e k =
    let all : List (Option (List Attr)) = map (λ (s : Slot). s.gathers) x.slots in
    let here : slice_get all i ≡ Some (Some a) = slice_get-map (λ (s : Slot). s.gathers) x.slots i ∙ ap (λ (o : Option Slot). option_map (λ (s : Slot). s.gathers) o) e ∙ ap (λ (o : Option (List Attr)). Some o) k in
    slice_get-map (λ (o : Option (List Attr)). kinds_if o) all i ∙ ap (λ (o : Option (Option (List Attr))). option_map (λ (q : Option (List Attr)). kinds_if q) o) here

-- ---- forms of types

pub kind_form : (k : Kind) → form_of (kind_type k) ≡ of_scalar k
kind_form int_kind = refl
kind_form bool_kind = refl
kind_form text_kind = refl

pub kind_good : (k : Kind) → IsGood (kind_type k)
kind_good int_kind = tt
kind_good bool_kind = tt
kind_good text_kind = tt

pub kind_forms : (s : List Attr) → forms_in (kind_types s) ≡ map of_scalar (kinds_of s)
kind_forms [] = refl
kind_forms (a ∷ s) = ap (λ f. f ∷ forms_in (kind_types s)) (kind_form a.kind) ∙ ap (λ fs. of_scalar a.kind ∷ fs) (kind_forms s)

pub params_forms : (ls : List Local) → forms_of ls ≡ forms_in (params_of ls)
params_forms [] = refl
params_forms (l ∷ ls) = ap (λ fs. form_of l.shape ∷ fs) (params_forms ls)

module _ {g : Env} (x : Inside g) (rs : List ℕ) where
  pub into : (ws : List ℕ) (b : ℕ) (a r : Typing) → a ≡ r → Fine x rs ws b a → Fine x rs ws b r
  into ws b a r e h = subst (λ v. Fine x rs ws b v) e h

  -- other names of the walks, and more room
  pub moved : (ws ws' : List ℕ) (b b' : ℕ) (v : Typing) → ws ≡ ws' → b ≤ b' → Fine x rs ws b v → Fine x rs ws' b' v
  moved ws ws' b b' v e l h = let s = h.small in record { of = h.of; good = h.good; walks = h.walks ∙ e; gathers = h.gathers; small = omega (arith, l, s) }

  -- an operation of one operand
  pub one_prim : (ws : List ℕ) (b : ℕ) (v : Typing) (op : Op) (at : ℕ) (t : Shape) → OpIsOf (env_in x).relations op (form_of v.type ∷ []) (form_of t) → IsGood t →
      Fine x rs ws b v → Fine x rs ws (b + 4) (typing t (prim op (one_expr v.core) at))
  one_prim ws b v op at t o g h =
      let s = h.small in
      record { of = (form_of v.type ∷ [], (h.of, tt), o); good = g; walks = append-nil (walks_in v.core) ∙ h.walks; gathers = (h.gathers, tt); small = omega (arith, s) }

  -- an operation of two operands
  pub two_prim : (ws ws' : List ℕ) (b b' : ℕ) (v w : Typing) (op : Op) (at : ℕ) (t : Shape) → OpIsOf (env_in x).relations op (form_of v.type ∷ form_of w.type ∷ []) (form_of t) → IsGood t →
      Fine x rs ws b v → Fine x rs ws' b' w → Fine x rs (ws ++ ws') (b + b' + 4) (typing t (prim op (two_exprs v.core w.core) at))
  two_prim ws ws' b b' v w op at t o g h k =
      let s = h.small in
      let r = k.small in
      record {
        of = (form_of v.type ∷ form_of w.type ∷ [], (h.of, (k.of, tt)), o);
        good = g;
        walks = ap (λ zs. walks_in v.core ++ zs) (append-nil (walks_in w.core)) ∙ ap (λ zs. zs ++ walks_in w.core) h.walks ∙ ap (λ zs. ws ++ zs) k.walks;
        gathers = (h.gathers, (k.gathers, tt));
        small = omega (arith, s, r);
      }

  -- an operation of a list of operands
  pub all_prim : (ws : List ℕ) (b : ℕ) (vs : List Typing) (op : Op) (at : ℕ) (t : Shape) → OpIsOf (env_in x).relations op (forms_in (types_of vs)) (form_of t) → IsGood t →
      FineAll x rs ws b vs → Fine x rs ws (b + 4) (typing t (prim op (exprs_from vs) at))
  all_prim ws b vs op at t o g h = let s = h.small in record { of = (forms_in (types_of vs), h.of, o); good = g; walks = h.walks; gathers = h.gathers; small = omega (arith, s) }

  -- a call
  pub all_call : (ws : List ℕ) (b : ℕ) (vs : List Typing) (k : ℕ) (t : Shape) → IsCallee (scope x) k true (forms_in (types_of vs)) (Some (form_of t)) → IsGood t →
      FineAll x rs ws b vs → Fine x rs ws (b + 4) (typing t (call k (exprs_from vs)))
  all_call ws b vs k t o g h = let s = h.small in record { of = (forms_in (types_of vs), h.of, o); good = g; walks = h.walks; gathers = h.gathers; small = omega (arith, s) }
