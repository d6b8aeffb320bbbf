-- Operations on operands whose kinds are numbers do what they do on the operands.
use Rattle.std.proofs.Common.{◌≡◌, ◌&&◌, ◌||◌, Bool, true, false, List, [], ◌∷◌, map, length, replicate, Some, None, Option, refl, sym, ap, ◌∙◌}
use Rattle.std.specs.Prelude.{nat_eq, nat_lt}
use Rattle.std.specs.Option.{option_map}
use Rattle.std.proofs.lemmas.Bool.{eqb-true, eq-eqb}
use Rattle.hera_meaning.specs.declared.scalars.Kind.{Kind}
use Rattle.hera_meaning.specs.declared.schemas.RelDecl.{RelDecl}
use Rattle.hera_meaning.specs.declared.trees.Op.{Op}
use Rattle.hera_meaning.specs.declared.trees.Op.TheVariants.{Neg, Not, Add, Sub, Mul, Div, Rem, Eq, Ne, Lt, Le, Gt, Ge, In, Field, MakeRow, MakeRel, Project, Union, Minus, Inter, Join, Group, Count, Empty, Sum, Min, Max, Atom as atom_op, Bulk, Ins, Del, IsFail, Smash, Merge}
use Rattle.hera_meaning.specs.Schemas.{names_of}
use Rattle.hera_meaning.specs.Deltas.{schema_of}
use Rattle.hera_meaning.specs.Forms.{Form, of_scalar, of_tuple, of_table, of_delta, kinds_of, int_form, bool_form, text_form, both, kind_at, project_kinds, group_kinds, join_kinds}
use Rattle.hera_typed.specs.Points.{Seen, known, no_rows, same_kinds, same_form, is_table, agrees, all_agree, alike, with, when}
use Rattle.hera_typed.specs.Effects.{takes, compares, orders, counts, finds, combines, gathers_all, is_width, is_apart, seen_by}
use Rattle.hera_typed.proofs.Seen_values.{kinds_same as kinds_equal, kinds_itself}
use Rattle.hera_stacks.specs.declared.forms.FlatSeen.{FlatSeen}
use Rattle.hera_stacks.specs.declared.forms.FlatSeen.TheVariants as flat_seens
use Rattle.hera_stacks.specs.Flat.{numbered, flat_form, flat_seen, same_flat}
use Rattle.hera_effects.specs.Operations.{is_flat_table, flat_agrees, flat_all_agree, flat_alike, flat_tuples, flat_one, flat_two, flat_compares, flat_orders, flat_ordered, flat_counted, flat_found, flat_combined, flat_gathers, flat_takes, flat_seen_by, one_of, two_of}
use Rattle.hera_stacks.proofs.Flattened.{kinds_same}

-- two truths that follow from one another are the same
same_truth : (a b : Bool) → (a ≡ true → b ≡ true) → (b ≡ true → a ≡ true) → a ≡ b
same_truth true true f g = refl
same_truth true false f g = sym (f refl)
same_truth false true f g = g refl
same_truth false false f g = refl

kinds_by_number : (ks ls : List Kind) → nat_eq (numbered 0 ks) (numbered 0 ls) ≡ same_kinds ks ls
kinds_by_number ks ls = same_truth (nat_eq (numbered 0 ks) (numbered 0 ls)) (same_kinds ks ls)
    (λ e. ap (same_kinds ks) (sym (kinds_same ks ls (eqb-true (numbered 0 ks) (numbered 0 ls) e))) ∙ kinds_itself ks)
    (λ e. eq-eqb (numbered 0 ks) (numbered 0 ls) (ap (numbered 0) (kinds_equal ks ls e)))

pub same_is : (f g : Form) → same_flat (flat_form f) (flat_form g) ≡ same_form f g
same_is (of_scalar k) (of_scalar l) = refl
same_is (of_scalar k) (of_tuple ls) = refl
same_is (of_scalar k) (of_table ls) = refl
same_is (of_scalar k) of_delta = refl
same_is (of_tuple ks) (of_scalar l) = refl
same_is (of_tuple ks) (of_tuple ls) = kinds_by_number ks ls
same_is (of_tuple ks) (of_table ls) = refl
same_is (of_tuple ks) of_delta = refl
same_is (of_table ks) (of_scalar l) = refl
same_is (of_table ks) (of_tuple ls) = refl
same_is (of_table ks) (of_table ls) = kinds_by_number ks ls
same_is (of_table ks) of_delta = refl
same_is of_delta (of_scalar l) = refl
same_is of_delta (of_tuple ls) = refl
same_is of_delta (of_table ls) = refl
same_is of_delta of_delta = refl

table_is : (f : Form) → is_flat_table (flat_form f) ≡ is_table f
table_is (of_scalar k) = refl
table_is (of_tuple ks) = refl
table_is (of_table ks) = refl
table_is of_delta = refl

pub agrees_is : (s : Seen) (f : Form) → flat_agrees (flat_seen s) (flat_form f) ≡ agrees s f
agrees_is (known g) f = same_is g f
agrees_is no_rows f = table_is f

pub all_agree_is : (ss : List Seen) (fs : List Form) → flat_all_agree (map flat_seen ss) (map flat_form fs) ≡ all_agree ss fs
all_agree_is [] [] = refl
all_agree_is [] (f ∷ fs) = refl
all_agree_is (s ∷ ss) [] = refl
all_agree_is (s ∷ ss) (f ∷ fs) =
    let first = agrees_is s f in
    let rest = all_agree_is ss fs in
    (λ i. first i && rest i)

alike_is : (s t : Seen) → flat_alike (flat_seen s) (flat_seen t) ≡ alike s t
alike_is s (known f) = agrees_is s f
alike_is (known f) no_rows = table_is f
alike_is no_rows no_rows = refl

-- ---- answers

when_is : (a b : Bool) (f : Form) → a ≡ b → when a (Some (flat_seens.Known (flat_form f))) ≡ option_map flat_seen (when b (Some (known f)))
when_is a true f e = ap (λ v. when v (Some (flat_seens.Known (flat_form f)))) e
when_is a false f e = ap (λ v. when v (Some (flat_seens.Known (flat_form f)))) e

and_true : (b : Bool) → b ≡ b && true
and_true true = refl
and_true false = refl

and_false : (b : Bool) → false ≡ b && false
and_false true = refl
and_false false = refl

none_when : (b : Bool) (f : Form) → false ≡ b → None ≡ option_map flat_seen (when b (Some (known f)))
none_when b f e = ap (λ v. option_map flat_seen (when v (Some (known f)))) e

one_is : (f g : Form) (ss : List Seen) → flat_one (flat_form f) (flat_form g) (map flat_seen ss) ≡ option_map flat_seen (takes (f ∷ []) g ss)
one_is f g [] = refl
one_is f g (s ∷ []) = when_is (flat_agrees (flat_seen s) (flat_form f)) (agrees s f && true) g (agrees_is s f ∙ and_true (agrees s f))
one_is f g (s ∷ t ∷ ss) = none_when (agrees s f && false) g (and_false (agrees s f))

three_false : (a b : Bool) → false ≡ a && (b && false)
three_false true true = refl
three_false true false = refl
three_false false b = refl

two_is : (e f g : Form) (ss : List Seen) → flat_two (flat_form e) (flat_form f) (flat_form g) (map flat_seen ss) ≡ option_map flat_seen (takes (e ∷ f ∷ []) g ss)
two_is e f g [] = refl
two_is e f g (s ∷ []) = none_when (agrees s e && false) g (and_false (agrees s e))
two_is e f g (s ∷ t ∷ []) =
    let first = agrees_is s e in
    let second = agrees_is t f ∙ and_true (agrees t f) in
    when_is (flat_agrees (flat_seen s) (flat_form e) && flat_agrees (flat_seen t) (flat_form f)) (agrees s e && (agrees t f && true)) g (λ i. first i && second i)
two_is e f g (s ∷ t ∷ u ∷ ss) = none_when (agrees s e && (agrees t f && false)) g (three_false (agrees s e) (agrees t f))

compares_is : (ss : List Seen) → flat_compares (map flat_seen ss) ≡ option_map flat_seen (compares ss)
compares_is [] = refl
compares_is (s ∷ []) = refl
compares_is (s ∷ t ∷ []) = when_is (flat_alike (flat_seen s) (flat_seen t)) (alike s t) bool_form (alike_is s t)
compares_is (s ∷ t ∷ u ∷ ss) = refl

both_is : (s t : Seen) (f : Form) → flat_agrees (flat_seen s) (flat_form f) && flat_agrees (flat_seen t) (flat_form f) ≡ all_agree (s ∷ t ∷ []) (both f)
both_is s t f =
    let first = agrees_is s f in
    let second = agrees_is t f ∙ and_true (agrees t f) in
    (λ i. first i && second i)

orders_is : (ss : List Seen) → flat_orders (map flat_seen ss) ≡ option_map flat_seen (orders ss)
orders_is [] = refl
orders_is (s ∷ []) =
    let no-ints = and_false (agrees s int_form) in
    let no-texts = and_false (agrees s text_form) in
    none_when ((agrees s int_form && false) || (agrees s text_form && false)) bool_form (λ i. no-ints i || no-texts i)
orders_is (s ∷ t ∷ []) =
    let ints = both_is s t int_form in
    let texts = both_is s t text_form in
    when_is (flat_ordered (flat_seen s, flat_seen t)) (all_agree (s ∷ t ∷ []) (both int_form) || all_agree (s ∷ t ∷ []) (both text_form)) bool_form (λ i. ints i || texts i)
orders_is (s ∷ t ∷ u ∷ ss) =
    let no-ints = three_false (agrees s int_form) (agrees t int_form) in
    let no-texts = three_false (agrees s text_form) (agrees t text_form) in
    none_when ((agrees s int_form && (agrees t int_form && false)) || (agrees s text_form && (agrees t text_form && false))) bool_form (λ i. no-ints i || no-texts i)

counts_is : (f : Form) (ss : List Seen) → with (one_of (map flat_seen ss)) (flat_counted (flat_form f)) ≡ option_map flat_seen (counts f ss)
counts_is f [] = refl
counts_is f (known (of_scalar k) ∷ []) = refl
counts_is f (known (of_tuple ks) ∷ []) = refl
counts_is f (known (of_table ks) ∷ []) = refl
counts_is f (known of_delta ∷ []) = refl
counts_is f (no_rows ∷ []) = refl
counts_is f (known (of_scalar k) ∷ t ∷ ss) = refl
counts_is f (known (of_tuple ks) ∷ t ∷ ss) = refl
counts_is f (known (of_table ks) ∷ t ∷ ss) = refl
counts_is f (known of_delta ∷ t ∷ ss) = refl
counts_is f (no_rows ∷ t ∷ ss) = refl

finds_is : (ss : List Seen) → with (two_of (map flat_seen ss)) (λ p. flat_found p.0 p.1) ≡ option_map flat_seen (finds ss)
finds_is [] = refl
finds_is (known (of_scalar k) ∷ []) = refl
finds_is (known (of_tuple ks) ∷ []) = refl
finds_is (known (of_table ks) ∷ []) = refl
finds_is (known of_delta ∷ []) = refl
finds_is (no_rows ∷ []) = refl
finds_is (known (of_scalar k) ∷ t ∷ []) = refl
finds_is (known (of_tuple ks) ∷ t ∷ []) = when_is (flat_agrees (flat_seen t) (flat_form (of_table ks))) (agrees t (of_table ks)) bool_form (agrees_is t (of_table ks))
finds_is (known (of_table ks) ∷ t ∷ []) = refl
finds_is (known of_delta ∷ t ∷ []) = refl
finds_is (no_rows ∷ t ∷ []) = refl
finds_is (known (of_scalar k) ∷ t ∷ u ∷ ss) = refl
finds_is (known (of_tuple ks) ∷ t ∷ u ∷ ss) = refl
finds_is (known (of_table ks) ∷ t ∷ u ∷ ss) = refl
finds_is (known of_delta ∷ t ∷ u ∷ ss) = refl
finds_is (no_rows ∷ t ∷ u ∷ ss) = refl

combines_is : (ss : List Seen) → with (two_of (map flat_seen ss)) (λ p. flat_combined p.0 p.1) ≡ option_map flat_seen (combines ss)
combines_is [] = refl
combines_is (known (of_scalar k) ∷ []) = refl
combines_is (known (of_tuple ks) ∷ []) = refl
combines_is (known (of_table ks) ∷ []) = refl
combines_is (known of_delta ∷ []) = refl
combines_is (no_rows ∷ []) = refl
combines_is (known (of_scalar k) ∷ t ∷ []) = refl
combines_is (known (of_tuple ks) ∷ t ∷ []) = refl
combines_is (known (of_table ks) ∷ t ∷ []) = when_is (flat_agrees (flat_seen t) (flat_form (of_table ks))) (agrees t (of_table ks)) (of_table ks) (agrees_is t (of_table ks))
combines_is (known of_delta ∷ t ∷ []) = refl
combines_is (no_rows ∷ known (of_scalar k) ∷ []) = refl
combines_is (no_rows ∷ known (of_tuple ks) ∷ []) = refl
combines_is (no_rows ∷ known (of_table ks) ∷ []) = refl
combines_is (no_rows ∷ known of_delta ∷ []) = refl
combines_is (no_rows ∷ no_rows ∷ []) = refl
combines_is (known (of_scalar k) ∷ t ∷ u ∷ ss) = refl
combines_is (known (of_tuple ks) ∷ t ∷ u ∷ ss) = refl
combines_is (known (of_table ks) ∷ t ∷ u ∷ ss) = refl
combines_is (known of_delta ∷ t ∷ u ∷ ss) = refl
combines_is (no_rows ∷ known (of_scalar k) ∷ u ∷ ss) = refl
combines_is (no_rows ∷ known (of_tuple ks) ∷ u ∷ ss) = refl
combines_is (no_rows ∷ known (of_table ks) ∷ u ∷ ss) = refl
combines_is (no_rows ∷ known of_delta ∷ u ∷ ss) = refl
combines_is (no_rows ∷ no_rows ∷ u ∷ ss) = refl

tuples_is : (ss : List Seen) (f : Form) → flat_tuples (map flat_seen ss) (flat_form f) ≡ all_agree ss (replicate (length ss) f)
tuples_is [] f = refl
tuples_is (s ∷ ss) f =
    let first = agrees_is s f in
    let rest = tuples_is ss f in
    (λ i. first i && rest i)

gathers_is : (ss : List Seen) → flat_gathers (map flat_seen ss) ≡ option_map flat_seen (gathers_all ss)
gathers_is [] = refl
gathers_is (known (of_scalar k) ∷ ss) = refl
gathers_is (known (of_tuple ks) ∷ ss) =
    let first : flat_agrees (flat_seen (known (of_tuple ks))) (flat_form (of_tuple ks)) ≡ true = agrees_is (known (of_tuple ks)) (of_tuple ks) ∙ kinds_itself ks in
    let rest = tuples_is ss (of_tuple ks) in
    when_is (flat_agrees (flat_seen (known (of_tuple ks))) (flat_form (of_tuple ks)) && flat_tuples (map flat_seen ss) (flat_form (of_tuple ks))) (all_agree ss (replicate (length ss) (of_tuple ks))) (of_table ks) (λ i. first i && rest i)
gathers_is (known (of_table ks) ∷ ss) = refl
gathers_is (known of_delta ∷ ss) = refl
gathers_is (no_rows ∷ ss) = refl

takes_is : (fs : List Form) (g : Form) (ss : List Seen) → flat_takes (map flat_form fs) (flat_form g) (map flat_seen ss) ≡ option_map flat_seen (takes fs g ss)
takes_is fs g ss = when_is (flat_all_agree (map flat_seen ss) (map flat_form fs)) (all_agree ss fs) g (all_agree_is ss fs)

if_is : (b : Bool) (x : Option FlatSeen) (y : Option Seen) → x ≡ option_map flat_seen y → when b x ≡ option_map flat_seen (when b y)
if_is true x y e = e
if_is false x y e = refl

pub seen_by_is : (rels : List RelDecl) (op : Op) (ss : List Seen) → flat_seen_by rels op (map flat_seen ss) ≡ option_map flat_seen (seen_by rels op ss)
seen_by_is rels Neg ss = one_is int_form int_form ss
seen_by_is rels Not ss = one_is bool_form bool_form ss
seen_by_is rels Add ss = two_is int_form int_form int_form ss
seen_by_is rels Sub ss = two_is int_form int_form int_form ss
seen_by_is rels Mul ss = two_is int_form int_form int_form ss
seen_by_is rels Div ss = two_is int_form int_form int_form ss
seen_by_is rels Rem ss = two_is int_form int_form int_form ss
seen_by_is rels Eq ss = compares_is ss
seen_by_is rels Ne ss = compares_is ss
seen_by_is rels Lt ss = orders_is ss
seen_by_is rels Le ss = orders_is ss
seen_by_is rels Gt ss = orders_is ss
seen_by_is rels Ge ss = orders_is ss
seen_by_is rels In ss = finds_is ss
seen_by_is rels (Field schema i) ss = one_is (of_tuple (kinds_of schema)) (of_scalar (kind_at schema i)) ss
seen_by_is rels (MakeRow schema) ss = takes_is (map of_scalar (kinds_of schema)) (of_tuple (kinds_of schema)) ss
seen_by_is rels (MakeRel n) ss = gathers_is ss
seen_by_is rels (Project schema places) ss =
    if_is (is_width (project_kinds schema places)) _ _ (one_is (of_table (kinds_of schema)) (of_table (project_kinds schema places)) ss)
seen_by_is rels Union ss = combines_is ss
seen_by_is rels Minus ss = combines_is ss
seen_by_is rels Inter ss = combines_is ss
seen_by_is rels (Join left right) ss =
    if_is (is_apart (names_of right)) _ _ (two_is (of_table (kinds_of left)) (of_table (kinds_of right)) (of_table (join_kinds left right)) ss)
seen_by_is rels (Group schema by aggs) ss =
    if_is (is_width (group_kinds schema by aggs)) _ _ (one_is (of_table (kinds_of schema)) (of_table (group_kinds schema by aggs)) ss)
seen_by_is rels Count ss = counts_is int_form ss
seen_by_is rels Empty ss = counts_is bool_form ss
seen_by_is rels (Sum schema i) ss = one_is (of_table (kinds_of schema)) int_form ss
seen_by_is rels (Min schema i) ss = one_is (of_table (kinds_of schema)) (of_scalar (kind_at schema i)) ss
seen_by_is rels (Max schema i) ss = one_is (of_table (kinds_of schema)) (of_scalar (kind_at schema i)) ss
seen_by_is rels (atom_op sign r) ss = if_is (nat_lt r.0 (length rels)) _ _ (one_is (of_tuple (kinds_of (schema_of rels r.0))) of_delta ss)
seen_by_is rels (Bulk sign r) ss = if_is (nat_lt r.0 (length rels)) _ _ (one_is (of_table (kinds_of (schema_of rels r.0))) of_delta ss)
seen_by_is rels (Ins r) ss = if_is (nat_lt r.0 (length rels)) _ _ (one_is of_delta (of_table (kinds_of (schema_of rels r.0))) ss)
seen_by_is rels (Del r) ss = if_is (nat_lt r.0 (length rels)) _ _ (one_is of_delta (of_table (kinds_of (schema_of rels r.0))) ss)
seen_by_is rels IsFail ss = one_is of_delta bool_form ss
seen_by_is rels Smash ss = two_is of_delta of_delta of_delta ss
seen_by_is rels Merge ss = two_is of_delta of_delta of_delta ss
