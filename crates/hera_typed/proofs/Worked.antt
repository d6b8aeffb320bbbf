-- Small codes, of each rule one that keeps it and one that breaks it, computed.
use Rattle.std.proofs.Common.{◌≡◌, ◌<◌, ◌≤◌, ℕ, zero, suc, true, false, List, [], ◌∷◌, Option, Some, None, refl, sym, ap, ◌∙◌, subst, arith, codes}
use Rattle.std.specs.Prelude.{pos, slice_get}
use Rattle.std.proofs.lemmas.Option.{slice_get_within}
use Rattle.hera_meaning.specs.declared.scalars.Scalar.TheVariants.{Int as int_scalar, Bool as bool_scalar}
use Rattle.hera_meaning.specs.declared.scalars.Kind.{Kind}
use Rattle.hera_meaning.specs.declared.scalars.Kind.TheVariants.{Int as int_kind, Bool as bool_kind}
use Rattle.hera_meaning.specs.declared.schemas.RelDecl.{RelDecl}
use Rattle.hera_meaning.specs.declared.trees.Const.TheVariants.{Scalar, EmptyDelta}
use Rattle.hera_meaning.specs.declared.trees.Op.TheVariants.{Add, Mul, Not, MakeRel, Union, Count}
use Rattle.hera_meaning.specs.declared.trees.Shape.TheVariants.{Int as int_shape}
use Rattle.hera_meaning.specs.Forms.{Form, of_tuple, int_form}
use Rattle.hera_code.specs.declared.instrs.BodyInfo.{BodyInfo}
use Rattle.hera_code.specs.declared.instrs.Code.{Code}
use Rattle.hera_code.specs.declared.instrs.Instr.{Instr}
use Rattle.hera_code.specs.declared.instrs.Instr.TheVariants.{Push, Load, Store, Rel, Prim, Host, Jump, Unless, Back, Enter, Leave, Walk, Next, Keep, Yield, Drop, Call, Ret, RetVal, Print, Commit, Halt}
use Rattle.hera_typed.specs.Effects.{Slot_note, Body_note}
use Rattle.hera_typed.specs.Typed.{Names, Writes, BodyIsFine, SlotIsFine}
use Rattle.hera_typed.specs.Pass.{Passed, stopped, through, pass}
use Rattle.hera_typed.proofs.Asking.{some_is}

-- where the pass stops, if it does
abbrev stop : Passed → Option ℕ
stop (stopped a) = Some a
stop (through f) = None

abbrev body : (at params slots : ℕ) → BodyInfo
body at params slots = record { at = at; params = params; slots = slots; func = false }

abbrev note : Option Form → List Slot_note → Body_note
note result slots = record { result = result; slots = slots }

abbrev one : ℕ → ℕ → List Slot_note
one from to = record { form = int_form; from = from; to = to; gathers = None } ∷ []

abbrev main_code : ℕ → List Instr → Code
main_code slots is = record { instrs = is; bodies = body 0 0 slots ∷ [] }

-- main alone, over relations
abbrev of_main : List RelDecl → List Slot_note → ℕ → List Instr → Option ℕ
of_main rels ss slots is = stop (pass (main_code slots is) rels [] (note None ss ∷ []))

abbrev main : List Instr → Option ℕ
main is = of_main [] [] 0 is

-- main, and a body behind it that begins at an address
abbrev both_bodies : (at params slots : ℕ) → Option Form → List Slot_note → List Instr → Option ℕ
both_bodies at params slots result ss is = stop (pass (record { instrs = is; bodies = body 0 0 0 ∷ body at params slots ∷ [] }) [] [] (note None [] ∷ note result ss ∷ []))

abbrev int : ℕ → Instr
int n = Push (Scalar (int_scalar (pos n)))

abbrev bool : Instr
bool = Push (Scalar (bool_scalar true))

-- ---- operands

sum_passes : main (int 2 ∷ int 3 ∷ int 4 ∷ Prim Mul 19 ∷ Prim Add 15 ∷ Print int_shape ∷ Halt ∷ []) ≡ None
sum_passes = refl

-- `not` of an int
not_stops : main (int 2 ∷ int 3 ∷ int 4 ∷ Prim Not 19 ∷ Prim Add 15 ∷ Print int_shape ∷ Halt ∷ []) ≡ Some 3
not_stops = refl

none_to_print : main (Print int_shape ∷ Halt ∷ []) ≡ Some 0
none_to_print = refl

-- relations of no tuples agree with each other, and have no schema
empties_pass : main (Prim (MakeRel 0) 1 ∷ Prim (MakeRel 0) 2 ∷ Prim Union 3 ∷ Prim Count 4 ∷ Print int_shape ∷ Halt ∷ []) ≡ None
empties_pass = refl

-- ---- slots, relations, hosts, layers

read_in_range : of_main [] (one 2 4) 1 (int 2 ∷ Store 0 ∷ Load 0 ∷ Print int_shape ∷ Halt ∷ []) ≡ None
read_in_range = refl

read_behind : of_main [] (one 2 3) 1 (int 2 ∷ Store 0 ∷ Load 0 ∷ Load 0 ∷ Print int_shape ∷ Halt ∷ []) ≡ Some 3
read_behind = refl

-- where no way leads, too
read_unreached : of_main [] (one 2 3) 1 (int 2 ∷ Store 0 ∷ Halt ∷ Load 0 ∷ Halt ∷ []) ≡ Some 3
read_unreached = refl

stores_a_bool : of_main [] (one 2 4) 1 (bool ∷ Store 0 ∷ Load 0 ∷ Print int_shape ∷ Halt ∷ []) ≡ Some 1
stores_a_bool = refl

abbrev numbers : RelDecl
numbers = record { name = codes "R"; schema = record { name = codes "a"; kind = int_kind } ∷ [] }

counts_a_relation : of_main (numbers ∷ []) [] 0 (Rel (record { 0 = 0 }) ∷ Prim Count 0 ∷ Print int_shape ∷ Halt ∷ []) ≡ None
counts_a_relation = refl

no_relation : main (Rel (record { 0 = 0 }) ∷ Prim Count 0 ∷ Print int_shape ∷ Halt ∷ []) ≡ Some 0
no_relation = refl

no_host : main (int 1 ∷ Host 0 ∷ Print int_shape ∷ Halt ∷ []) ≡ Some 1
no_host = refl

leaves_its_layer : main (Push EmptyDelta ∷ Enter 0 ∷ Leave ∷ Halt ∷ []) ≡ None
leaves_its_layer = refl

leaves_no_layer : main (Leave ∷ Halt ∷ []) ≡ Some 0
leaves_no_layer = refl

-- ---- ways

jumps_on : main (Jump 1 ∷ Halt ∷ []) ≡ None
jumps_on = refl

jumps_back : main (Commit ∷ Jump 0 ∷ Halt ∷ []) ≡ Some 1
jumps_back = refl

ways_meet : main (bool ∷ Unless 4 ∷ int 1 ∷ Print int_shape ∷ Halt ∷ []) ≡ None
ways_meet = refl

ways_differ : main (bool ∷ Unless 3 ∷ int 1 ∷ Halt ∷ []) ≡ Some 3
ways_differ = refl

loop_stays : main (bool ∷ Unless 3 ∷ Back 0 ∷ Halt ∷ []) ≡ None
loop_stays = refl

loop_grows : main (bool ∷ Unless 4 ∷ int 1 ∷ Back 0 ∷ Halt ∷ []) ≡ Some 3
loop_grows = refl

-- ---- walks

abbrev walked : List Kind → List Slot_note
walked ks = record { form = of_tuple (int_kind ∷ []); from = 3; to = 6; gathers = Some ks } ∷ []

abbrev kept : List Kind → Option ℕ
kept ks = of_main (numbers ∷ []) (walked ks) 1 (Rel (record { 0 = 0 }) ∷ Walk ∷ Next 0 6 ∷ bool ∷ Keep ∷ Back 2 ∷ Yield ∷ Prim Count 0 ∷ Print int_shape ∷ Halt ∷ [])

keeps_what_it_walks : kept (int_kind ∷ []) ≡ None
keeps_what_it_walks = refl

keeps_another : kept (bool_kind ∷ []) ≡ Some 4
keeps_another = refl

walk_without_next : of_main (numbers ∷ []) [] 0 (Rel (record { 0 = 0 }) ∷ Walk ∷ Drop ∷ Halt ∷ []) ≡ Some 2
walk_without_next = refl

-- ---- bodies

each_its_own : both_bodies 1 0 0 None [] (Halt ∷ Ret ∷ []) ≡ None
each_its_own = refl

falls_into_the_next : both_bodies 1 0 0 None [] (Commit ∷ Ret ∷ []) ≡ Some 1
falls_into_the_next = refl

main_does_not_return : main (Ret ∷ []) ≡ Some 0
main_does_not_return = refl

only_main_halts : both_bodies 1 0 0 None [] (Halt ∷ Halt ∷ []) ≡ Some 1
only_main_halts = refl

calls_a_func : both_bodies 4 1 1 (Some int_form) (one 0 0) (int 1 ∷ Call 1 ∷ Print int_shape ∷ Halt ∷ Load 0 ∷ RetVal ∷ []) ≡ None
calls_a_func = refl

calls_with_a_bool : both_bodies 4 1 1 (Some int_form) (one 0 0) (bool ∷ Call 1 ∷ Print int_shape ∷ Halt ∷ Load 0 ∷ RetVal ∷ []) ≡ Some 1
calls_with_a_bool = refl

gives_a_bool : both_bodies 1 0 0 (Some int_form) [] (Halt ∷ bool ∷ RetVal ∷ []) ≡ Some 2
gives_a_bool = refl

calls_main : main (Call 0 ∷ Halt ∷ []) ≡ Some 0
calls_main = refl

-- two bodies with one start
one_start : BodyIsFine (record { instrs = Halt ∷ []; bodies = body 0 0 0 ∷ body 0 0 0 ∷ [] }) [] [] (note None [] ∷ note None [] ∷ []) (λ a. None) 1 (body 0 0 0) → ⊥
one_start h = let lt = h.0 (body 0 0 0) refl in omega (arith, lt)

-- a slot whose range begins at its Store, and not behind it
begins_at_its_store : SlotIsFine (main_code 1 (int 2 ∷ Store 0 ∷ Load 0 ∷ Print int_shape ∷ Halt ∷ [])) [] [] (note None (one 1 4) ∷ []) (λ a. None) 0 0 (record { form = int_form; from = 1; to = 4; gathers = None }) → ⊥
begins_at_its_store h =
    let from = h.from_is in
    let first : h.before ≡ 0 = omega (arith, from) in
    let is : int 2 ≡ h.writer = some_is (int 2) h.writer (ap (slice_get (int 2 ∷ Store 0 ∷ Load 0 ∷ Print int_shape ∷ Halt ∷ [])) (sym first) ∙ h.writer_is) in
    subst (λ w. Writes w 0) (sym is) h.writes

-- a range into which a loop goes back from behind it
entered_from_behind : SlotIsFine (main_code 1 (int 2 ∷ Store 0 ∷ Load 0 ∷ Print int_shape ∷ Back 2 ∷ [])) [] [] (note None (one 2 4) ∷ []) (λ a. None) 0 0 (record { form = int_form; from = 2; to = 4; gathers = None }) → ⊥
entered_from_behind h = let r = h.closed 4 2 (Back 2) refl refl (omega arith) (omega arith) in omega (arith, r.1)

-- and one that ends behind the loop
ends_behind_the_loop : SlotIsFine (main_code 1 (int 2 ∷ Store 0 ∷ Load 0 ∷ Print int_shape ∷ Back 2 ∷ [])) [] [] (note None (one 2 5) ∷ []) (λ a. None) 0 0 (record { form = int_form; from = 2; to = 5; gathers = None })
ends_behind_the_loop = record {
  before = 1;
  from_is = refl;
  there = omega arith;
  home_is = refl;
  home_before = refl;
  writer = Store 0;
  writer_is = refl;
  writes = refl;
  closed = λ a b j e n low high. (by_place a b j e n, less a j e);
}
  where
    less : (a : ℕ) (j : Instr) → slice_get (int 2 ∷ Store 0 ∷ Load 0 ∷ Print int_shape ∷ Back 2 ∷ []) a ≡ Some j → a < 5
    less a j e = slice_get_within (int 2 ∷ Store 0 ∷ Load 0 ∷ Print int_shape ∷ Back 2 ∷ []) a j e

    by_place : (a b : ℕ) (j : Instr) → slice_get (int 2 ∷ Store 0 ∷ Load 0 ∷ Print int_shape ∷ Back 2 ∷ []) a ≡ Some j → Names j b → 2 ≤ a
    by_place zero b j e n = absurd (subst (λ j. Names j b) (sym (some_is (int 2) j e)) n)
    by_place (suc zero) b j e n = absurd (subst (λ j. Names j b) (sym (some_is (Store 0) j e)) n)
    by_place (suc (suc a)) b j e n = omega arith
