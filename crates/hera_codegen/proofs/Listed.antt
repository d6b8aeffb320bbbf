-- The listing of a program with each form of statement and expression, worked out by hand.
use Rattle.std.proofs.Common.{◌≡◌, ℕ, true, false, [], ◌∷◌, Some, None, refl, pos, codes}
use Rattle.std.specs.Fmt.{digits}
use Rattle.hera_meaning.specs.declared.scalars.Scalar.TheVariants.{Int as int_scalar, Bool as bool_scalar, Text as text_scalar}
use Rattle.hera_meaning.specs.declared.trees.Const.TheVariants.{Scalar, EmptyDelta, FailDelta}
use Rattle.hera_meaning.specs.declared.trees.Shape.TheVariants.{Int, Text}
use Rattle.hera_meaning.specs.declared.trees.Op.TheVariants.{Neg, Add}
use Rattle.hera_meaning.specs.Printed.{quoted_byte}
use Rattle.hera_meaning.specs.Trees.{Expr, constant, local, relation, prim, chain, and_all, or_any, when, select, map_each, call, host, Exprs, no_more, then_expr, no_link, link, no_hypo, hypo, Command, set_slot, if_arms, while, foreach, print, apply, commit, rollback, assert, return, return_value, call_proc, Block, no_stmt, then_stmt, no_arm, arm, Program_tree}
use Rattle.hera_code.specs.Scheme.{code_of}
use Rattle.hera_code.specs.Listing.{listing_of}

abbrev int : ℕ → Expr
int n = constant (Scalar (int_scalar (pos n)))

abbrev one : Expr → Exprs
one e = then_expr e no_more

abbrev two : Expr → Expr → Exprs
two e f = then_expr e (one f)

abbrev only : Command → Block
only c = then_stmt c no_stmt

abbrev both : Expr
both = and_all (two (local 0) (constant (Scalar (bool_scalar true))))

abbrev either : Expr
either = or_any (two (local 0) (constant (Scalar (bool_scalar false))))

-- if (x && true) { commit; } else if (x || false) { rollback; } else { assert x; }
-- while (x) { print R when {} when d; }
-- foreach (t in select(u in S : host(u))) { apply fail; }
-- p(map(u in R : u)); return;
abbrev main_block : Block
main_block =
    then_stmt (set_slot 0 (chain (int 2) (link Add (int 3) 15 no_link)))
    (then_stmt (if_arms (arm both (only (commit None)) (arm either (only rollback) no_arm)) (only (assert (local 0) 7)))
    (then_stmt (while (local 0) (only (print (when (relation 0) (hypo (constant EmptyDelta) 30 (hypo (local 1) 40 no_hypo))) Int)))
    (then_stmt (foreach 2 (select 3 (relation 1) (host 0 (one (local 3)))) (only (apply (constant FailDelta) 50)))
    (then_stmt (call_proc 2 (one (map_each 3 (relation 0) (local 3))))
    (only return)))))

-- func int f(int x) { return -x; } proc p(int x) { x = f(x); print "a\"b"; commit "done"; return; }
abbrev each_form : Program_tree
each_form = record {
  relations = [];
  bodies =
      record { params = 0; slots = 4; func = false; block = main_block }
      ∷ record { params = 1; slots = 1; func = true; block = only (return_value (prim Neg (one (local 0)) 60)) }
      ∷ record {
        params = 1;
        slots = 1;
        func = false;
        block = then_stmt (set_slot 0 (call 1 (one (local 0)))) (then_stmt (print (constant (Scalar (text_scalar (codes "a\"b")))) Text) (then_stmt (commit (Some (codes "done"))) (only return)));
      }
      ∷ [];
}

each_form_is_listed : listing_of (code_of each_form)
    ≡ codes "body 0 params 0 slots 4\n0 push 2\n1 push 3\n2 prim add at 15\n3 store 0\n4 load 0\n5 unless 8\n6 push true\n7 jump 9\n8 push false\n9 unless 12\n10 commit\n11 jump 22\n12 load 0\n13 unless 16\n14 push true\n15 jump 17\n16 push false\n17 unless 20\n18 rollback\n19 jump 22\n20 load 0\n21 assert at 7\n22 load 0\n23 unless 33\n24 load 1\n25 enter at 40\n26 push {}\n27 enter at 30\n28 rel 0\n29 leave\n30 leave\n31 print\n32 back 22\n33 rel 1\n34 walk\n35 next 3 40\n36 load 3\n37 host 0\n38 keep\n39 back 35\n40 yield\n41 walk\n42 next 2 46\n43 push fail\n44 apply at 50\n45 back 42\n46 drop\n47 rel 0\n48 walk\n49 next 3 53\n50 load 3\n51 gather\n52 back 49\n53 yield\n54 call 2\n55 halt\n56 halt\nbody 1 params 1 slots 1\n57 load 0\n58 prim neg at 60\n59 retval\nbody 2 params 1 slots 1\n60 load 0\n61 call 1\n62 store 0\n63 push \"a\\\"b\"\n64 print\n65 commit\n66 push \"done\"\n67 print\n68 ret\n69 ret\n"
unfolding digits quoted_byte
each_form_is_listed = refl
