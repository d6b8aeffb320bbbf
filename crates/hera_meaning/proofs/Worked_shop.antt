-- Orders of a shop, and groups: two longer programs, computed.
use Rattle.std.proofs.Common.{◌≡◌, ℕ, true, false, List, [], ◌∷◌, Some, None, refl, pos, codes}
use Rattle.std.specs.Fmt.{digits}
use Rattle.std.specs.Str.{is_utf8, chars}
use lib.Utf8.{encode}
use Rattle.hera_sets.specs.Rows.{is_below, is_same}
use Rattle.hera_meaning.specs.declared.scalars.Kind.TheVariants.{Int as int_kind, Text as text_kind}
use Rattle.hera_meaning.specs.declared.scalars.RelId.{RelId}
use Rattle.hera_meaning.specs.declared.scalars.Scalar.TheVariants.{Int as int_scalar, Text as text_scalar}
use Rattle.hera_meaning.specs.declared.scalars.Sign.TheVariants.{Plus}
use Rattle.hera_meaning.specs.declared.schemas.Attr.{Attr}
use Rattle.hera_meaning.specs.declared.schemas.Agg.TheVariants.{Count as count_agg, Sum as sum_agg, Min as min_agg, Max as max_agg}
use Rattle.hera_meaning.specs.declared.trees.Const.TheVariants.{Scalar}
use Rattle.hera_meaning.specs.declared.trees.Shape.TheVariants.{Int, Rel}
use Rattle.hera_meaning.specs.declared.trees.Op.TheVariants.{Mul, Lt, Field, MakeRow, Join, Group, Sum, Atom, Merge}
use Rattle.hera_meaning.specs.Printed.{text_of, spent_line, tuple_text, table_text, commit_text, quoted_byte}
use Rattle.hera_meaning.specs.Trees.{Expr, constant, local, relation, prim, chain, when, map_each, call, Exprs, no_more, then_expr, no_link, link, no_hypo, hypo, set_slot, if_arms, print, apply, commit, return_value, Block, no_stmt, then_stmt, no_arm, arm, Program_tree}
use Rattle.hera_meaning.specs.Run.{run_of, output_of}

abbrev int : ℕ → Expr
int n = constant (Scalar (int_scalar (pos n)))

abbrev text : List ℕ → Expr
text bytes = constant (Scalar (text_scalar bytes))

abbrev one : Expr → Exprs
one a = then_expr a no_more

abbrev two : Expr → Expr → Exprs
two a b = then_expr a (one b)

abbrev three : Expr → Expr → Expr → Exprs
three a b c = then_expr a (two b c)

abbrev int_attr : List ℕ → Attr
int_attr name = record { name = name; kind = int_kind }

abbrev text_attr : List ℕ → Attr
text_attr name = record { name = name; kind = text_kind }

abbrev rel_id : ℕ → RelId
rel_id r = record { 0 = r }

abbrev added : ℕ → List Attr → Exprs → Expr
added r schema args = prim (Atom Plus (rel_id r)) (one (prim (MakeRow schema) args 0)) 0

abbrev merged : Expr → Expr → Expr
merged a b = chain a (link Merge b 0 no_link)

abbrev field : List Attr → ℕ → Expr
field schema i = prim (Field schema i) (one (local 0)) 0

-- ---- a shop

abbrev stock : List Attr
stock = text_attr (codes "item") ∷ int_attr (codes "qty") ∷ []

abbrev offer : List Attr
offer = text_attr (codes "sup") ∷ text_attr (codes "item") ∷ int_attr (codes "price") ∷ []

abbrev orders : List Attr
orders = text_attr (codes "sup") ∷ text_attr (codes "item") ∷ int_attr (codes "n") ∷ []

abbrev priced : List Attr
priced = text_attr (codes "sup") ∷ text_attr (codes "item") ∷ int_attr (codes "n") ∷ int_attr (codes "price") ∷ []

abbrev costs : List Attr
costs = text_attr (codes "sup") ∷ text_attr (codes "item") ∷ int_attr (codes "c") ∷ []

-- sum(map(o in join(Orders, Offer) : [sup = o.sup, item = o.item, c = o.n * o.price]), c)
abbrev cost_body : Block
cost_body =
    then_stmt (return_value (prim (Sum costs 2) (one (map_each 0
    (prim (Join orders offer) (two (relation 2) (relation 1)) 0)
    (prim (MakeRow costs) (three (field priced 0) (field priced 1) (chain (field priced 2) (link Mul (field priced 3) 0 no_link))) 0))) 0)) no_stmt

abbrev order : List ℕ → ℕ → Expr
order sup n = added 2 orders (three (text sup) (text (codes "bolt")) (int n))

abbrev cost_when : ℕ → Expr
cost_when i = when (call 1 no_more) (hypo (local i) 0 no_hypo)

abbrev main_block : Block
main_block =
    then_stmt (apply (merged (added 1 offer (three (text (codes "Acme")) (text (codes "bolt")) (int 7))) (added 1 offer (three (text (codes "Bolts")) (text (codes "bolt")) (int 5)))) 0)
    (then_stmt (apply (merged (added 0 stock (two (text (codes "bolt")) (int 3))) (added 0 stock (two (text (codes "nut")) (int 40)))) 0)
    (then_stmt (commit (Some (codes "opened")))
    (then_stmt (set_slot 0 (order (codes "Acme") 100))
    (then_stmt (set_slot 1 (order (codes "Bolts") 100))
    (then_stmt (set_slot 2 (merged (order (codes "Acme") 60) (order (codes "Bolts") 40)))
    (then_stmt (set_slot 3 (cost_when 0))
    (then_stmt (set_slot 4 (cost_when 1))
    (then_stmt (set_slot 5 (cost_when 2))
    (then_stmt (print (local 3) Int)
    (then_stmt (print (local 4) Int)
    (then_stmt (print (local 5) Int)
    (then_stmt (if_arms (arm (chain (local 4) (link Lt (local 3) 0 no_link)) (then_stmt (apply (local 1) 0) no_stmt) no_arm) (then_stmt (apply (local 0) 0) no_stmt))
    (then_stmt (commit None)
    (then_stmt (print (relation 2) (Rel orders)) no_stmt))))))))))))))

abbrev shop : Program_tree
shop = record {
  relations = record { name = codes "Stock"; schema = stock } ∷ record { name = codes "Offer"; schema = offer } ∷ record { name = codes "Orders"; schema = orders } ∷ [];
  bodies = record { params = 0; slots = 6; func = false; block = main_block } ∷ record { params = 0; slots = 1; func = true; block = cost_body } ∷ [];
}

-- a call and one tuple for each of the first two prices, a call and two tuples for the third: 7 turns
cheaper_order : output_of (run_of shop ([] ∷ [] ∷ [] ∷ []) [] 7) ≡ codes "commit 1\nopened\n700\n500\n620\ncommit 2\nrows 1\n[\"Bolts\", \"bolt\", 100]\n"
unfolding text_of digits is_below is_same is_utf8 chars encode table_text tuple_text commit_text quoted_byte
cheaper_order = refl

six_turns_are_spent : output_of (run_of shop ([] ∷ [] ∷ [] ∷ []) [] 6) ≡ codes "commit 1\nopened\nturns spent\n"
unfolding is_below is_same is_utf8 chars encode commit_text digits spent_line
six_turns_are_spent = refl

-- ---- a group

abbrev schema_T : List Attr
schema_T = text_attr (codes "k") ∷ int_attr (codes "n") ∷ []

abbrev plus_T : List ℕ → ℕ → Expr
plus_T k n = added 0 schema_T (two (text k) (int n))

abbrev counts : List Attr
counts = text_attr (codes "k") ∷ int_attr (codes "c") ∷ int_attr (codes "s") ∷ int_attr (codes "lo") ∷ int_attr (codes "hi") ∷ []

-- group(T; by k; c = count, s = sum(n), lo = min(n), hi = max(n))
grouped : output_of (run_of (record {
  relations = record { name = codes "T"; schema = schema_T } ∷ [];
  bodies = record {
    params = 0;
    slots = 0;
    func = false;
    block =
        then_stmt (apply (chain (plus_T (codes "a") 1) (link Merge (plus_T (codes "a") 2) 0 (link Merge (plus_T (codes "b") 5) 0 no_link))) 0)
        (then_stmt (print (prim (Group schema_T (0 ∷ []) (count_agg ∷ sum_agg 1 ∷ min_agg 1 ∷ max_agg 1 ∷ [])) (one (relation 0)) 0) (Rel counts)) no_stmt);
  } ∷ [];
}) ([] ∷ []) [] 100)
    ≡ codes "rows 2\n[\"a\", 2, 3, 1, 2]\n[\"b\", 1, 5, 5, 5]\n"
unfolding text_of digits is_below is_same is_utf8 chars encode table_text tuple_text quoted_byte
grouped = refl
