-- Worked programs: their code does what they mean.
use Rattle.std.proofs.Common.{◌≡◌, ℕ, true, false, List, [], ◌∷◌, Some, None, refl, pos, codes}
use Rattle.hera_sets.specs.Rows.{is_below, is_same}
use Rattle.hera_meaning.specs.declared.hosts.HostSpec.TheVariants.{Clamp}
use Rattle.hera_meaning.specs.declared.scalars.Kind.TheVariants.{Int as int_kind}
use Rattle.hera_meaning.specs.declared.scalars.RelId.{RelId}
use Rattle.hera_meaning.specs.declared.scalars.Scalar.TheVariants.{Int as int_scalar, Bool as bool_scalar}
use Rattle.hera_meaning.specs.declared.scalars.Sign.TheVariants.{Plus, Minus as minus_sign}
use Rattle.hera_meaning.specs.declared.schemas.Attr.{Attr}
use Rattle.hera_meaning.specs.declared.schemas.RelDecl.{RelDecl}
use Rattle.hera_meaning.specs.declared.trees.Const.TheVariants.{Scalar, FailDelta}
use Rattle.hera_meaning.specs.declared.trees.Shape.TheVariants.{Int, Rel as rel_shape}
use Rattle.hera_meaning.specs.declared.trees.Op.TheVariants.{Add, Sub, Mul, Div, Lt, Field, MakeRow, Count, Atom, Merge}
use Rattle.hera_meaning.specs.Hosts.{Hosts}
use Rattle.hera_meaning.specs.Deltas.{State}
use Rattle.hera_meaning.specs.Trees.{Expr, constant, local, relation, prim, chain, and_all, or_any, when, select, map_each, call, host, Exprs, no_more, then_expr, no_link, link, no_hypo, hypo, Command, set_slot, if_arms, while, foreach, print, apply, commit, rollback, assert, return, return_value, call_proc, Block, no_stmt, then_stmt, no_arm, arm, Program_tree}
use Rattle.hera_meaning.specs.Printed.{text_of, spent_line}
use Rattle.hera_meaning.specs.Worlds.{out}
use Rattle.hera_meaning.specs.Run.{run_of, finished, out_of_turns}
use Rattle.hera_code.specs.declared.instrs.Instr.{Instr}
use Rattle.hera_code.specs.declared.instrs.Instr.TheVariants.{Push, Load, Store, Rel, Unless, Back, Enter, Call, Print, Halt}
use Rattle.hera_code.specs.declared.instrs.Code.{Code}
use Rattle.hera_code.specs.Scheme.{code_of}
use Rattle.hera_code.specs.Machine.{ended, stuck}
use Rattle.hera_code.specs.Reached.{Reached, over, code_at}

-- ---- how programs are written here

abbrev int : ℕ → Expr
int n = constant (Scalar (int_scalar (pos n)))

abbrev one : Expr → Exprs
one e = then_expr e no_more

abbrev two : Expr → Expr → Exprs
two e f = then_expr e (one f)

abbrev block : List Command → Block
block [] = no_stmt
block (c ∷ cs) = then_stmt c (block cs)

abbrev attr : List ℕ → Attr
attr name = record { name = name; kind = int_kind }

abbrev rel_id : ℕ → RelId
rel_id r = record { 0 = r }

-- relation R(a int); relation S(a int);
abbrev schema_a : List Attr
schema_a = attr (codes "a") ∷ []

abbrev rels_RS : List RelDecl
rels_RS = record { name = codes "R"; schema = schema_a } ∷ record { name = codes "S"; schema = schema_a } ∷ []

abbrev with_main : (slots : ℕ) → List Command → Program_tree
with_main slots cs = record { relations = rels_RS; bodies = record { params = 0; slots = slots; func = false; block = block cs } ∷ [] }

abbrev plus : ℕ → Expr → Expr
plus r e = prim (Atom Plus (rel_id r)) (one (prim (MakeRow schema_a) (one e) 0)) 0

abbrev minus : ℕ → Expr → Expr
minus r e = prim (Atom minus_sign (rel_id r)) (one (prim (MakeRow schema_a) (one e) 0)) 0

abbrev count : Expr → Expr
count e = prim Count (one e) 0

abbrev field_a : Expr → Expr
field_a e = prim (Field schema_a 0) (one e) 0

abbrev less : Expr → Expr → Expr
less e f = chain e (link Lt f 0 no_link)

abbrev sum_of : Expr → Expr → Expr
sum_of e f = chain e (link Add f 7 no_link)

-- after that many instructions of its code the program has the events and the end of its run
abbrev Follows : Program_tree → State → Hosts → (turns steps : ℕ) → Type 0
Follows p s hosts n k = code_at (code_of p) p.relations s hosts n k ≡ over (run_of p s hosts n).events (ended (run_of p s hosts n).finish)

abbrev none : State
none = [] ∷ [] ∷ []

-- ---- expressions

-- print 2 + 3 * 4;
product_first : Follows (with_main 0 (print (chain (int 2) (link Add (chain (int 3) (link Mul (int 4) 19 no_link)) 15 no_link)) Int ∷ [])) none [] 0 7
product_first = refl

-- print 9223372036854775807 + 1;
sum_overflows : Follows (with_main 0 (print (sum_of (int 9223372036854775807) (int 1)) Int ∷ [])) none [] 0 3
sum_overflows = refl

-- apply {+R(1)}; print count(R when {+R(2)} when {-R(1), +R(2)}); print count(R);
last_delta_first : Follows (with_main 0 (apply (plus 0 (int 1)) 0 ∷ print (count (when (relation 0) (hypo (plus 0 (int 2)) 0 (hypo (chain (minus 0 (int 1)) (link Merge (plus 0 (int 2)) 0 no_link)) 0 no_hypo)))) Int ∷ print (count (relation 0)) Int ∷ [])) none [] 0 100
unfolding is_below is_same
last_delta_first = refl

-- print count(R when fail);
when_fail_traps : Follows (with_main 0 (print (count (when (relation 0) (hypo (constant FailDelta) 9 no_hypo))) Int ∷ [])) none [] 0 100
when_fail_traps = refl

-- if (a && b && c) { print 1; } else { print 2; }, and the same with `||`
abbrev truth : Expr → Expr → Expr
truth e f = less e f

abbrev branches : Expr → Command
branches e = if_arms (arm e (block (print (int 1) Int ∷ [])) no_arm) (block (print (int 2) Int ∷ []))

abbrev three : Expr → Expr → Expr → Exprs
three e f g = then_expr e (two f g)

each_is_asked : Follows (with_main 0 (branches (and_all (three (truth (int 1) (int 2)) (truth (int 1) (int 2)) (truth (int 2) (int 1)))) ∷ branches (or_any (three (truth (int 2) (int 1)) (truth (int 2) (int 1)) (truth (int 1) (int 2)))) ∷ [])) none [] 0 100
each_is_asked = refl

-- 1 / 0 is not reached
first_decides : Follows (with_main 0 (branches (and_all (three (truth (int 1) (int 2)) (truth (int 2) (int 1)) (truth (chain (int 1) (link Div (int 0) 0 no_link)) (int 1)))) ∷ branches (or_any (three (truth (int 2) (int 1)) (truth (int 1) (int 2)) (truth (chain (int 1) (link Div (int 0) 0 no_link)) (int 1)))) ∷ [])) none [] 0 100
first_decides = refl

-- print select(t in R : t.a < 2); print map(t in R : [a = t.a + 1]); with R holding 1 and 2
abbrev both_walks : Program_tree
both_walks =
    with_main 2 (apply (chain (plus 0 (int 1)) (link Merge (plus 0 (int 2)) 0 no_link)) 0
    ∷ print (select 0 (relation 0) (less (field_a (local 0)) (int 2))) (rel_shape schema_a)
    ∷ print (map_each 1 (relation 0) (prim (MakeRow schema_a) (one (sum_of (field_a (local 1)) (int 1))) 0)) (rel_shape schema_a)
    ∷ [])

walks_spend_four_turns : Follows both_walks none [] 4 200
unfolding is_below is_same
walks_spend_four_turns = refl

three_turns_are_few : Follows both_walks none [] 3 200
unfolding is_below is_same
three_turns_are_few = refl

-- print clamp(250);
host_answers : Follows (with_main 0 (print (host 0 (one (int 250))) Int ∷ [])) none (Clamp (pos 0) (pos 100) ∷ []) 0 10
host_answers = refl

-- ---- statements

-- int i = 0; while (i < 3) { i = i + 1; } print i;
abbrev counting : Program_tree
counting = with_main 1 (set_slot 0 (int 0) ∷ while (less (local 0) (int 3)) (block (set_slot 0 (sum_of (local 0) (int 1)) ∷ [])) ∷ print (local 0) Int ∷ [])

three_rounds : Follows counting none [] 3 200
three_rounds = refl

two_turns_are_spent : Follows counting none [] 2 200
two_turns_are_spent = refl

-- apply {+R(1), +R(2)}; foreach (t in R) { apply {+R(t.a + 10)}; } print count(R);
walk_keeps_its_rows : Follows (with_main 1 (apply (chain (plus 0 (int 1)) (link Merge (plus 0 (int 2)) 0 no_link)) 0 ∷ foreach 0 (relation 0) (block (apply (plus 0 (sum_of (field_a (local 0)) (int 10))) 0 ∷ [])) ∷ print (count (relation 0)) Int ∷ [])) none [] 2 200
unfolding is_below is_same
walk_keeps_its_rows = refl

-- apply {+R(1)}; commit; apply {+R(2)}; rollback; apply {+S(3)}; commit "end"; assert count(R) < 1;
two_commits : Follows (with_main 0 (apply (plus 0 (int 1)) 0 ∷ commit None ∷ apply (plus 0 (int 2)) 0 ∷ rollback ∷ apply (plus 1 (int 3)) 0 ∷ commit (Some (codes "end")) ∷ assert (less (count (relation 0)) (int 1)) 5 ∷ [])) none [] 0 100
unfolding is_below is_same text_of
two_commits = refl

-- apply {+R(1)}; apply fail;
apply_fail_traps : Follows (with_main 0 (apply (plus 0 (int 1)) 0 ∷ apply (constant FailDelta) 60 ∷ [])) none [] 0 100
unfolding is_below is_same
apply_fail_traps = refl

-- ---- calls

-- func int f(int n) { if (n < 1) { return 0; } return n + f(n - 1); }
-- proc p(int n) { if (n < 1) { return; } else if (n < 2) { print f(n); } else { print n; } p(n - 1); }
-- main { p(2); print f(3); return; print 1; }
abbrev calling : Program_tree
calling = record {
  relations = [];
  bodies =
      record { params = 0; slots = 0; func = false; block = block (call_proc 2 (one (int 2)) ∷ print (call 1 (one (int 3))) Int ∷ return ∷ print (int 1) Int ∷ []) }
      ∷ record {
        params = 1;
        slots = 1;
        func = true;
        block =
            block (if_arms (arm (less (local 0) (int 1)) (block (return_value (int 0) ∷ [])) no_arm) no_stmt
            ∷ return_value (sum_of (local 0) (call 1 (one (chain (local 0) (link Sub (int 1) 0 no_link))))) ∷ []);
      }
      ∷ record {
        params = 1;
        slots = 1;
        func = false;
        block =
            block (if_arms (arm (less (local 0) (int 1)) (block (return ∷ [])) (arm (less (local 0) (int 2)) (block (print (call 1 (one (local 0))) Int ∷ [])) no_arm)) (block (print (local 0) Int ∷ []))
            ∷ call_proc 2 (one (chain (local 0) (link Sub (int 1) 0 no_link))) ∷ []);
      }
      ∷ [];
}

nine_calls : Follows calling [] [] 9 500
nine_calls = refl

eight_turns_are_spent : Follows calling [] [] 8 500
eight_turns_are_spent = refl

-- ---- code that no program has

abbrev with_instrs : List Instr → Code
with_instrs is = record { instrs = is; bodies = record { at = 0; params = 0; slots = 1; func = false } ∷ [] }

abbrev reaches : List Instr → (turns steps : ℕ) → Reached
reaches is n k = code_at (with_instrs is) rels_RS none [] n k

-- an address that is not there is stuck before the turn is missed
stuck_before_spent : reaches (Back 1 ∷ []) 0 1 ≡ over [] stuck
stuck_before_spent = refl

spent_where_the_address_is_there : reaches (Back 0 ∷ []) 0 1 ≡ over (out spent_line ∷ []) (ended out_of_turns)
spent_where_the_address_is_there = refl

-- a jump needs its address though it is not taken
untaken_jump_is_stuck : reaches (Push (Scalar (bool_scalar true)) ∷ Unless 9 ∷ Halt ∷ []) 0 3 ≡ over [] stuck
untaken_jump_is_stuck = refl

missing_operand_is_stuck : reaches (Store 0 ∷ []) 0 1 ≡ over [] stuck
missing_operand_is_stuck = refl

missing_slot_is_stuck : reaches (Load 1 ∷ []) 0 1 ≡ over [] stuck
missing_slot_is_stuck = refl

-- a relation is printed as an int
other_kind_is_stuck : reaches (Rel (rel_id 0) ∷ Print Int ∷ Halt ∷ []) 0 3 ≡ over [] stuck
other_kind_is_stuck = refl

-- an int is entered
delta_is_needed : reaches (Push (Scalar (int_scalar (pos 1))) ∷ Enter 4 ∷ Halt ∷ []) 0 3 ≡ over [] stuck
delta_is_needed = refl

-- a body with more parameters than slots is called
parameter_needs_its_slot : code_at (record { instrs = Push FailDelta ∷ Call 0 ∷ []; bodies = record { at = 0; params = 1; slots = 0; func = false } ∷ [] }) [] [] [] 5 2 ≡ over [] stuck
parameter_needs_its_slot = refl

-- a run that passes the last instruction is stuck at the next step
past_the_end : reaches [] 0 1 ≡ over [] stuck
past_the_end = refl

-- code without bodies has no slots, and runs
no_body : code_at (record { instrs = Halt ∷ []; bodies = [] }) [] [] [] 0 1 ≡ over [] (ended finished)
no_body = refl
