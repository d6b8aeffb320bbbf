-- Operands of an expression on the stack, and where its code ends.
use Rattle.std.proofs.Common.{◌≡◌, ℕ, zero, suc, ◌+◌, ◌≤◌, true, List, [], ◌∷◌, ◌++◌, length, map, replicate, Some, refl, ap, ◌∙◌, arith, inl, inr, append-nil, zero-add}
use Rattle.hera_meaning.specs.declared.scalars.Kind.{Kind}
use Rattle.hera_meaning.specs.declared.schemas.RelDecl.{RelDecl}
use Rattle.hera_meaning.specs.declared.schemas.Attr.{Attr}
use Rattle.hera_meaning.specs.declared.trees.Op.{Op}
use Rattle.hera_meaning.specs.declared.trees.Op.TheVariants.{Neg, Not, Add, Sub, Mul, Div, Rem, Eq, Ne, Lt, Le, Gt, Ge, In, Field, MakeRow, MakeRel, Project, Union, Minus, Inter, Join, Group, Count, Empty, Sum, Min, Max, Atom as atom_op, Bulk, Ins, Del, IsFail, Smash, Merge}
use Rattle.hera_meaning.specs.Fits.{arity}
use Rattle.hera_meaning.specs.Trees.{Expr, Exprs, no_more, then_expr, Links, Hypos}
use Rattle.hera_meaning.specs.Addresses.{expr_end, exprs_end, links_end, every_last, some_end, hypos_end}
use Rattle.hera_meaning.specs.Forms.{Form, of_scalar, of_tuple, of_table, kinds_of, bool_form, OpForms}
use Rattle.hera_codegen.proofs.Places.{expr_length, exprs_length, some_length, links_length, hypos_length}
use Rattle.hera_typed.specs.Points.{Seen, known, Point, cut}
use Rattle.hera_typed.specs.Effects.{with_operands, is_relation}
use Rattle.hera_noted.proofs.Seen_ops.{Below, is_known, is_empty}
use Rattle.hera_noted.proofs.Expr_points.{push, pushed}

-- ---- operands on the stack

cut_pushed : (ss acc : List Seen) (n : ℕ) (p : Point) → cut (length ss + n) acc (pushed ss p).operands ≡ cut n (ss ++ acc) p.operands
cut_pushed [] acc n p = ap (λ m. cut m acc p.operands) (zero-add n)
cut_pushed (s ∷ ss) acc n p =
    let e : length (s ∷ ss) + n ≡ length ss + suc n = omega arith in
    ap (λ m. cut m acc (pushed ss (push s p)).operands) e ∙ cut_pushed ss acc (suc n) (push s p)

pub with_pushed : (ss os : List Seen) (p : Point) → with_operands os (pushed ss p) ≡ with_operands os p
with_pushed [] os p = refl
with_pushed (s ∷ ss) os p = with_pushed ss os (push s p)

pub cut_all : (ss : List Seen) (p : Point) → cut (length ss) [] (pushed ss p).operands ≡ Some (record { args = ss; rest = p.operands })
cut_all ss p =
    let e : length ss ≡ length ss + 0 = omega arith in
    ap (λ m. cut m [] (pushed ss p).operands) e ∙ cut_pushed ss [] 0 p ∙ ap (λ l. Some (record { args = l; rest = p.operands })) (append-nil ss)

pub bool_seen : (s : Seen) → Below s bool_form → s ≡ known bool_form
bool_seen _ is_known = refl

pub table_seen : (s : Seen) (ks : List Kind) → Below s (of_table ks) → is_relation s ≡ true
table_seen _ ks is_known = refl
table_seen _ ks is_empty = refl

pub tuple_is : (ks ls : List Kind) → of_tuple ks ≡ of_tuple ls → ks ≡ ls
tuple_is ks ls e = cc

map_long : (schema : List Attr) → length (map of_scalar (kinds_of schema)) ≡ length schema
map_long [] = refl
map_long (a ∷ attrs) = ap suc (map_long attrs)

same_long : (n : ℕ) (f : Form) → length (replicate n f) ≡ n
same_long zero f = refl
same_long (suc n) f = ap suc (same_long n f)

pub op_long : (rels : List RelDecl) (op : Op) (fs : List Form) (f : Form) → OpForms rels op fs f → length fs ≡ arity op
op_long rels Neg fs f e = ap length e.0
op_long rels Not fs f e = ap length e.0
op_long rels Add fs f e = ap length e.0
op_long rels Sub fs f e = ap length e.0
op_long rels Mul fs f e = ap length e.0
op_long rels Div fs f e = ap length e.0
op_long rels Rem fs f e = ap length e.0
op_long rels Eq fs f e = ap length e.1
op_long rels Ne fs f e = ap length e.1
op_long rels Lt fs f (inl e, q) = ap length e
op_long rels Lt fs f (inr e, q) = ap length e
op_long rels Le fs f (inl e, q) = ap length e
op_long rels Le fs f (inr e, q) = ap length e
op_long rels Gt fs f (inl e, q) = ap length e
op_long rels Gt fs f (inr e, q) = ap length e
op_long rels Ge fs f (inl e, q) = ap length e
op_long rels Ge fs f (inr e, q) = ap length e
op_long rels In fs f e = ap length e.1
op_long rels (Field schema i) fs f e = ap length e.0
op_long rels (MakeRow schema) fs f e = ap length e.0 ∙ map_long schema
op_long rels (MakeRel n) fs f e = ap length e.1 ∙ same_long n (of_tuple e.0)
op_long rels (Project schema places) fs f e = ap length e.0.0
op_long rels Union fs f e = ap length e.1
op_long rels Minus fs f e = ap length e.1
op_long rels Inter fs f e = ap length e.1
op_long rels (Join left right) fs f e = ap length e.0.0
op_long rels (Group schema keys aggs) fs f e = ap length e.0.0
op_long rels Count fs f e = ap length e.1
op_long rels Empty fs f e = ap length e.1
op_long rels (Sum schema i) fs f e = ap length e.0
op_long rels (Min schema i) fs f e = ap length e.0
op_long rels (Max schema i) fs f e = ap length e.0
op_long rels (atom_op sign r) fs f e = ap length e.0.0
op_long rels (Bulk sign r) fs f e = ap length e.0.0
op_long rels (Ins r) fs f e = ap length e.0.0
op_long rels (Del r) fs f e = ap length e.0.0
op_long rels IsFail fs f e = ap length e.0
op_long rels Smash fs f e = ap length e.0
op_long rels Merge fs f e = ap length e.0

-- ---- lengths

pub expr_up : (e : Expr) (a : ℕ) → a ≤ expr_end e a
expr_up e a = omega (arith, expr_length e a)

pub exprs_up : (es : Exprs) (a : ℕ) → a ≤ exprs_end es a
exprs_up es a = omega (arith, exprs_length es a)

pub links_up : (ls : Links) (a : ℕ) → a ≤ links_end ls a
links_up ls a = omega (arith, links_length ls a)

pub hypos_up : (hs : Hypos) (a : ℕ) → a ≤ hypos_end hs a
hypos_up hs a = omega (arith, hypos_length hs a)

pub some_up : (es : Exprs) (a : ℕ) → a ≤ some_end es a
some_up es a = omega (arith, some_length es a (some_end es a))

pub every_up : (es : Exprs) (a : ℕ) → a ≤ every_last es a
every_up no_more a = omega arith
every_up (then_expr e no_more) a = omega (arith, expr_up e a)
every_up (then_expr e (then_expr d es)) a = omega (arith, expr_up e a, every_up (then_expr d es) (expr_end e a + 1))
