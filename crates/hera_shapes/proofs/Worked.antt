-- More small codes beside those of hera_typed, of each further rule one that keeps it and one that breaks it, computed.
use Rattle.std.proofs.Common.{◌≡◌, ◌<◌, ℕ, true, false, List, [], ◌∷◌, Option, Some, None, refl, sym, ap, subst, arith, codes}
use Rattle.std.specs.Prelude.{pos, replicate}
use Rattle.hera_sets.specs.Rows.{is_same}
use Rattle.hera_meaning.specs.declared.scalars.Scalar.TheVariants.{Int as int_scalar, Bool as bool_scalar}
use Rattle.hera_meaning.specs.declared.scalars.Kind.{Kind}
use Rattle.hera_meaning.specs.declared.scalars.Kind.TheVariants.{Int as int_kind, Bool as bool_kind}
use Rattle.hera_meaning.specs.declared.schemas.Attr.{Attr}
use Rattle.hera_meaning.specs.declared.schemas.RelDecl.{RelDecl}
use Rattle.hera_meaning.specs.declared.trees.Const.TheVariants.{Scalar}
use Rattle.hera_meaning.specs.declared.trees.Op.TheVariants.{Field, MakeRow, Project, Join, Count, Sum}
use Rattle.hera_meaning.specs.declared.trees.Shape.TheVariants.{Int as int_shape}
use Rattle.hera_meaning.specs.Forms.{Form, of_tuple, int_form}
use Rattle.hera_code.specs.declared.instrs.BodyInfo.{BodyInfo}
use Rattle.hera_code.specs.declared.instrs.Code.{Code}
use Rattle.hera_code.specs.declared.instrs.Instr.{Instr}
use Rattle.hera_code.specs.declared.instrs.Instr.TheVariants.{Push, Load, Store, Rel, Prim, Jump, Back, Walk, Next, Keep, Yield, Call, Ret, RetVal, Print, Halt}
use Rattle.hera_typed.specs.Effects.{Slot_note, Body_note, home}
use Rattle.hera_typed.specs.Typed.{BodyIsFine, SlotIsFine}
use Rattle.hera_typed.specs.Pass.{Passed, stopped, through, pass}
use Rattle.hera_typed.proofs.Asking.{some_is, none_is}

-- where the pass stops, if it does
abbrev stop : Passed → Option ℕ
stop (stopped a) = Some a
stop (through f) = None

abbrev body : (at params slots : ℕ) → BodyInfo
body at params slots = record { at = at; params = params; slots = slots; func = false }

abbrev note : Option Form → List Slot_note → Body_note
note result slots = record { result = result; slots = slots }

abbrev one : ℕ → ℕ → List Slot_note
one from to = record { form = int_form; from = from; to = to; gathers = None } ∷ []

abbrev main_code : ℕ → List Instr → Code
main_code slots is = record { instrs = is; bodies = body 0 0 slots ∷ [] }

-- main alone, over relations
abbrev of_main : List RelDecl → List Slot_note → ℕ → List Instr → Option ℕ
of_main rels ss slots is = stop (pass (main_code slots is) rels [] (note None ss ∷ []))

-- main, and a body behind it that begins at an address
abbrev two_code : (at params slots : ℕ) → List Instr → Code
two_code at params slots is = record { instrs = is; bodies = body 0 0 0 ∷ body at params slots ∷ [] }

abbrev both_bodies : (at params slots : ℕ) → Option Form → List Slot_note → List Instr → Option ℕ
both_bodies at params slots result ss is = stop (pass (two_code at params slots is) [] [] (note None [] ∷ note result ss ∷ []))

abbrev int : ℕ → Instr
int n = Push (Scalar (int_scalar (pos n)))

abbrev bool : Instr
bool = Push (Scalar (bool_scalar true))

-- ---- what a Prim asks of its places and schemas

abbrev attr : Kind → Attr
attr k = record { name = codes "a"; kind = k }

abbrev ints : List Attr
ints = attr int_kind ∷ []

abbrev bools : List Attr
bools = attr bool_kind ∷ []

-- one name twice
abbrev twice : List Attr
twice = attr int_kind ∷ attr int_kind ∷ []

abbrev rel_of : List Attr → List RelDecl
rel_of schema = record { name = codes "R"; schema = schema } ∷ []

abbrev r : Instr
r = Rel (record { 0 = 0 })

abbrev field_at : ℕ → Option ℕ
field_at i = of_main [] [] 0 (int 1 ∷ Prim (MakeRow ints) 0 ∷ Prim (Field ints i) 0 ∷ Print int_shape ∷ Halt ∷ [])

reads_a_field : field_at 0 ≡ None
reads_a_field = refl

no_such_field : field_at 1 ≡ Some 2
no_such_field = refl

abbrev sum_of : List Attr → Option ℕ
sum_of schema = of_main (rel_of schema) [] 0 (r ∷ Prim (Sum schema 0) 0 ∷ Print int_shape ∷ Halt ∷ [])

sums_ints : sum_of ints ≡ None
sums_ints = refl

sums_bools : sum_of bools ≡ Some 1
sums_bools = refl

abbrev projected : List ℕ → Option ℕ
projected places = of_main (rel_of ints) [] 0 (r ∷ Prim (Project ints places) 0 ∷ Prim Count 0 ∷ Print int_shape ∷ Halt ∷ [])

-- a place may stand twice
projects_twice : projected (0 ∷ 0 ∷ []) ≡ None
projects_twice = refl

projects_nothing : projected [] ≡ Some 1
projects_nothing = refl

projects_17 : projected (replicate 17 0) ≡ Some 1
projects_17 = refl

abbrev joined : List Attr → Option ℕ
joined schema = of_main (rel_of schema) [] 0 (r ∷ r ∷ Prim (Join schema schema) 0 ∷ Prim Count 0 ∷ Print int_shape ∷ Halt ∷ [])

joins_apart : joined ints ≡ None
unfolding is_same
joins_apart = refl

joins_one_name_twice : joined twice ≡ Some 2
unfolding is_same
joins_one_name_twice = refl

-- ---- walks

abbrev walk_into : Form → Option (List Kind) → Option ℕ
walk_into form gathers =
    of_main (rel_of ints) (record { form = form; from = 3; to = 6; gathers = gathers } ∷ []) 1 (r ∷ Walk ∷ Next 0 6 ∷ bool ∷ Keep ∷ Back 2 ∷ Yield ∷ Prim Count 0 ∷ Print int_shape ∷ Halt ∷ [])

walks_its_tuples : walk_into (of_tuple (int_kind ∷ [])) (Some (int_kind ∷ [])) ≡ None
walks_its_tuples = refl

-- the slot of Next names no schema
gathers_nothing : walk_into (of_tuple (int_kind ∷ [])) None ≡ Some 2
gathers_nothing = refl

-- Next writes a tuple of another shape
walks_others : walk_into (of_tuple (bool_kind ∷ [])) (Some (int_kind ∷ [])) ≡ Some 2
walks_others = refl

-- ---- bodies

no_such_body : of_main [] [] 0 (Call 1 ∷ Halt ∷ []) ≡ Some 0
no_such_body = refl

calls_with_nothing : both_bodies 3 1 1 (Some int_form) (one 0 0) (Call 1 ∷ Print int_shape ∷ Halt ∷ Load 0 ∷ RetVal ∷ []) ≡ Some 0
calls_with_nothing = refl

no_value_to_return : both_bodies 1 0 0 None [] (Halt ∷ int 1 ∷ RetVal ∷ []) ≡ Some 2
no_value_to_return = refl

a_func_returns_a_value : both_bodies 1 0 0 (Some int_form) [] (Halt ∷ Ret ∷ []) ≡ Some 1
a_func_returns_a_value = refl

jumps_out : both_bodies 2 0 0 None [] (Jump 2 ∷ Halt ∷ Ret ∷ []) ≡ Some 2
jumps_out = refl

-- body k of a code, whose main has this result
abbrev Fine : Code → Option Form → ℕ → BodyInfo → Type 0
Fine code result k b = BodyIsFine code [] [] (note result [] ∷ note None [] ∷ []) (λ a. None) k b

main_is_fine : Fine (main_code 1 (Halt ∷ [])) None 0 (body 0 0 1)
main_is_fine = ((refl, refl, λ n e. same n e), omega arith, omega arith)
  where
    same : (n : Body_note) → Some (note None []) ≡ Some n → n.result ≡ None
    same n e = ap (λ (m : Body_note). m.result) (sym (some_is (note None []) n e))

main_with_a_parameter : Fine (record { instrs = Halt ∷ []; bodies = body 0 1 1 ∷ [] }) None 0 (body 0 1 1) → ⊥
main_with_a_parameter h = let e : 1 ≡ 0 = h.0.1 in omega (arith, e)

main_with_a_result : Fine (main_code 0 (Halt ∷ [])) (Some int_form) 0 (body 0 0 0) → ⊥
main_with_a_result h = let e : Some int_form ≡ None = h.0.2 (note (Some int_form) []) refl in none_is ⊥ int_form (sym e)

main_begins_late : Fine (record { instrs = Halt ∷ Halt ∷ []; bodies = body 1 0 0 ∷ [] }) None 0 (body 1 0 0) → ⊥
main_begins_late h = let e : 1 ≡ 0 = h.0.0 in omega (arith, e)

next_is_fine : Fine (two_code 1 1 2 (Halt ∷ Ret ∷ [])) None 1 (body 1 1 2)
next_is_fine = (λ c e. later c e, omega arith, omega arith)
  where
    later : (c : BodyInfo) → Some (body 0 0 0) ≡ Some c → c.at < 1
    later c e = let at : 0 ≡ c.at = ap (λ (b : BodyInfo). b.at) (some_is (body 0 0 0) c e) in omega (arith, at)

begins_behind_the_code : Fine (two_code 2 0 0 (Halt ∷ Ret ∷ [])) None 1 (body 2 0 0) → ⊥
begins_behind_the_code h = let lt = h.1 in omega (arith, lt)

more_params_than_slots : Fine (two_code 1 2 1 (Halt ∷ Ret ∷ [])) None 1 (body 1 2 1) → ⊥
more_params_than_slots h = let le = h.2 in omega (arith, le)

-- ---- ranges

-- slot 0 of body k, set from one address to another
abbrev Ranged : Code → ℕ → ℕ → ℕ → Type 0
Ranged code k from to = SlotIsFine code [] [] (note None [] ∷ note None [] ∷ []) (λ a. None) k 0 (record { form = int_form; from = from; to = to; gathers = None })

-- main's slot is set in the body behind main
set_in_another_body : Ranged (two_code 3 0 1 (int 1 ∷ Store 0 ∷ Halt ∷ int 1 ∷ Store 0 ∷ Ret ∷ [])) 0 5 6 → ⊥
set_in_another_body h = let e : 1 ≡ 0 = h.home_is in omega (arith, e)

-- a range that begins with its body, behind a Store of the body before
abbrev stored_before : Code
stored_before = two_code 3 0 1 (int 1 ∷ Halt ∷ Store 0 ∷ int 1 ∷ Ret ∷ [])

begins_with_its_body : Ranged stored_before 1 3 5 → ⊥
begins_with_its_body h =
    let from = h.from_is in
    let before : h.before ≡ 2 = omega (arith, from) in
    let e : 0 ≡ 1 = subst (λ a. home stored_before a ≡ 1) before h.home_before in
    omega (arith, e)
