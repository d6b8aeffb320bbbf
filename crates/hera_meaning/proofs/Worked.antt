-- Worked programs, computed.
use Rattle.std.proofs.Common.{◌≡◌, ℕ, true, false, List, [], ◌∷◌, refl, pos, codes}
use Rattle.std.specs.Fmt.{digits}
use Rattle.hera_sets.specs.Rows.{is_below, is_same}
use Rattle.hera_meaning.specs.declared.scalars.Kind.TheVariants.{Int as int_kind}
use Rattle.hera_meaning.specs.declared.scalars.RelId.{RelId}
use Rattle.hera_meaning.specs.declared.scalars.Scalar.TheVariants.{Int as int_scalar}
use Rattle.hera_meaning.specs.declared.scalars.Sign.TheVariants.{Plus, Minus as minus_sign}
use Rattle.hera_meaning.specs.declared.schemas.Attr.{Attr}
use Rattle.hera_meaning.specs.declared.schemas.RelDecl.{RelDecl}
use Rattle.hera_meaning.specs.declared.trees.Const.TheVariants.{Scalar}
use Rattle.hera_meaning.specs.declared.trees.Shape.TheVariants.{Int, Delta as delta_shape}
use Rattle.hera_meaning.specs.declared.trees.Op.TheVariants.{Neg, Add, Sub, Mul, Div, Rem, Lt, Field, MakeRow, Count, Sum, Min, Atom, Bulk, Smash, Merge}
use Rattle.hera_meaning.specs.Printed.{text_of, trap_line, end_text, spent_line, delta_text, atom_text, tuple_text}
use Rattle.hera_meaning.specs.Trees.{Expr, constant, local, relation, prim, chain, when, call, Exprs, no_more, then_expr, no_link, link, no_hypo, hypo, set_slot, if_arms, while, foreach, print, apply, return_value, Block, no_stmt, then_stmt, no_arm, arm, Program_tree}
use Rattle.hera_meaning.specs.Run.{run_of, output_of}

-- ---- how programs are written here

abbrev pub int : ℕ → Expr
int n = constant (Scalar (int_scalar (pos n)))

abbrev pub one : Expr → Exprs
one e = then_expr e no_more

abbrev two : Expr → Expr → Exprs
two e f = then_expr e (one f)

abbrev pub main_of : List RelDecl → ℕ → Block → Program_tree
main_of rels slots b = record { relations = rels; bodies = record { params = 0; slots = slots; func = false; block = b } ∷ [] }

abbrev int_attr : List ℕ → Attr
int_attr name = record { name = name; kind = int_kind }

abbrev rel_id : ℕ → RelId
rel_id r = record { 0 = r }

-- relation R(a int); relation S(a int);
abbrev schema_a : List Attr
schema_a = int_attr (codes "a") ∷ []

abbrev rels_RS : List RelDecl
rels_RS = record { name = codes "R"; schema = schema_a } ∷ record { name = codes "S"; schema = schema_a } ∷ []

abbrev with_RS : Block → List ℕ
with_RS b = output_of (run_of (main_of rels_RS 1 b) ([] ∷ [] ∷ []) [] 100)

abbrev plus : ℕ → Expr → Expr
plus r e = prim (Atom Plus (rel_id r)) (one (prim (MakeRow schema_a) (one e) 0)) 0

abbrev minus : ℕ → Expr → Expr
minus r e = prim (Atom minus_sign (rel_id r)) (one (prim (MakeRow schema_a) (one e) 0)) 0

abbrev count_R : Expr
count_R = prim Count (one (relation 0)) 0

-- ---- operators

-- print 2 + 3 * 4;
product_first : output_of (run_of (main_of [] 0 (then_stmt (print (chain (int 2) (link Add (chain (int 3) (link Mul (int 4) 19 no_link)) 15 no_link)) Int) no_stmt)) [] [] 100) ≡ codes "14\n"
unfolding text_of digits
product_first = refl

-- print 9223372036854775807 + 1;
sum_overflows : output_of (run_of (main_of [] 0 (then_stmt (print (chain (int 9223372036854775807) (link Add (int 1) 33 no_link)) Int) no_stmt)) [] [] 100) ≡ codes "trap Overflow at 33\n"
unfolding text_of digits trap_line end_text
sum_overflows = refl

-- print -7 / 2; print -7 % 2;
quotient_toward_zero : output_of (run_of (main_of [] 0 (then_stmt (print (chain (prim Neg (one (int 7)) 0) (link Div (int 2) 0 no_link)) Int) (then_stmt (print (chain (prim Neg (one (int 7)) 0) (link Rem (int 2) 0 no_link)) Int) no_stmt))) [] [] 100) ≡ codes "-3\n-1\n"
unfolding text_of digits
quotient_toward_zero = refl

-- print (0 - 9223372036854775807 - 1) / -1;
least_by_minus_one : output_of (run_of (main_of [] 0 (then_stmt (print (chain (chain (int 0) (link Sub (int 9223372036854775807) 0 (link Sub (int 1) 0 no_link))) (link Div (prim Neg (one (int 1)) 0) 43 no_link)) Int) no_stmt)) [] [] 100) ≡ codes "trap Overflow at 43\n"
unfolding text_of digits trap_line end_text
least_by_minus_one = refl

-- ---- deltas

-- apply {+R(1)} ! {-R(1)}; print count(R);
second_delta_wins : with_RS (then_stmt (apply (chain (plus 0 (int 1)) (link Smash (minus 0 (int 1)) 0 no_link)) 0) (then_stmt (print count_R Int) no_stmt)) ≡ codes "0\n"
unfolding text_of digits is_below is_same
second_delta_wins = refl

-- print {+R(1)} & {-R(1)};
signs_clash : with_RS (then_stmt (print (chain (plus 0 (int 1)) (link Merge (minus 0 (int 1)) 0 no_link)) delta_shape) no_stmt) ≡ codes "fail\n"
unfolding text_of delta_text is_below is_same
signs_clash = refl

-- apply {+R(1)}; print count(R when {+R(1)}); print count(R);
when_keeps_the_state : with_RS (then_stmt (apply (plus 0 (int 1)) 0) (then_stmt (print (prim Count (one (when (relation 0) (hypo (plus 0 (int 1)) 0 no_hypo))) 0) Int) (then_stmt (print count_R Int) no_stmt))) ≡ codes "1\n1\n"
unfolding text_of digits is_below is_same
when_keeps_the_state = refl

-- print count(R when {-R(1)} when {+R(1)}); print count(R when {+R(1)} when {-R(1)});
last_delta_first : with_RS (then_stmt (print (prim Count (one (when (relation 0) (hypo (minus 0 (int 1)) 0 (hypo (plus 0 (int 1)) 0 no_hypo)))) 0) Int) (then_stmt (print (prim Count (one (when (relation 0) (hypo (plus 0 (int 1)) 0 (hypo (minus 0 (int 1)) 0 no_hypo)))) 0) Int) no_stmt)) ≡ codes "0\n1\n"
unfolding text_of digits is_below is_same
last_delta_first = refl

-- print (bulk(+S, R) when {+R(3)});
delta_of_a_view : with_RS (then_stmt (print (when (prim (Bulk Plus (rel_id 1)) (one (relation 0)) 0) (hypo (plus 0 (int 3)) 0 no_hypo)) delta_shape) no_stmt) ≡ codes "delta 1\n+S[3]\n"
unfolding text_of delta_text atom_text tuple_text digits is_below is_same
delta_of_a_view = refl

-- apply {+R(1), +R(2)}; foreach (t in R) { apply {+R(t.a + 10)}; } print count(R);
walk_keeps_its_rows : with_RS (then_stmt (apply (chain (plus 0 (int 1)) (link Merge (plus 0 (int 2)) 0 no_link)) 0) (then_stmt (foreach 0 (relation 0) (then_stmt (apply (plus 0 (chain (prim (Field schema_a 0) (one (local 0)) 0) (link Add (int 10) 0 no_link))) 0) no_stmt)) (then_stmt (print count_R Int) no_stmt))) ≡ codes "4\n"
unfolding text_of digits is_below is_same
walk_keeps_its_rows = refl

-- print min(R, a);
least_of_none : with_RS (then_stmt (print (prim (Min schema_a 0) (one (relation 0)) 51) Int) no_stmt) ≡ codes "trap EmptyMin at 51\n"
unfolding text_of digits trap_line end_text
least_of_none = refl

-- apply {+V(1, 9223372036854775807), +V(2, 1), +V(3, -1)}; print sum(V, v);
abbrev schema_kv : List Attr
schema_kv = int_attr (codes "k") ∷ int_attr (codes "v") ∷ []

abbrev plus_V : Expr → Expr → Expr
plus_V k v = prim (Atom Plus (rel_id 0)) (one (prim (MakeRow schema_kv) (two k v) 0)) 0

sum_is_exact : output_of (run_of (main_of (record { name = codes "V"; schema = schema_kv } ∷ []) 0 (then_stmt (apply (chain (plus_V (int 1) (int 9223372036854775807)) (link Merge (plus_V (int 2) (int 1)) 0 (link Merge (plus_V (int 3) (prim Neg (one (int 1)) 0)) 0 no_link))) 0) (then_stmt (print (prim (Sum schema_kv 1) (one (relation 0)) 0) Int) no_stmt))) ([] ∷ []) [] 100) ≡ codes "9223372036854775807\n"
unfolding text_of digits is_below is_same
sum_is_exact = refl

-- ---- turns

-- int i = 0; while (i < 3) { i = i + 1; } print i;
abbrev pub counting : Program_tree
counting = main_of [] 1 (then_stmt (set_slot 0 (int 0)) (then_stmt (while (chain (local 0) (link Lt (int 3) 0 no_link)) (then_stmt (set_slot 0 (chain (local 0) (link Add (int 1) 0 no_link))) no_stmt)) (then_stmt (print (local 0) Int) no_stmt)))

three_rounds : output_of (run_of counting [] [] 3) ≡ codes "3\n"
unfolding text_of digits
three_rounds = refl

two_turns_are_spent : output_of (run_of counting [] [] 2) ≡ codes "turns spent\n"
unfolding spent_line
two_turns_are_spent = refl

-- func int f(int n) { if (n < 1) { return 0; } return n + f(n - 1); } main { print f(3); }
abbrev pub summing : Program_tree
summing = record {
  relations = [];
  bodies =
      record { params = 0; slots = 0; func = false; block = then_stmt (print (call 1 (one (int 3))) Int) no_stmt }
      ∷ record {
        params = 1;
        slots = 1;
        func = true;
        block =
            then_stmt (if_arms (arm (chain (local 0) (link Lt (int 1) 0 no_link)) (then_stmt (return_value (int 0)) no_stmt) no_arm) no_stmt)
            (then_stmt (return_value (chain (local 0) (link Add (call 1 (one (chain (local 0) (link Sub (int 1) 0 no_link)))) 0 no_link))) no_stmt);
      }
      ∷ [];
}

four_calls : output_of (run_of summing [] [] 4) ≡ codes "6\n"
unfolding text_of digits
four_calls = refl

three_turns_are_spent : output_of (run_of summing [] [] 3) ≡ codes "turns spent\n"
unfolding spent_line
three_turns_are_spent = refl
