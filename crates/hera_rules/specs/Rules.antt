-- The rows of the table of typing: what a phrase gives whose parts are typed, or how it breaks its rule.
--
-- Where a phrase breaks several rules, the order is Unknown, Repeated, Impure, TooMany, Mismatch; of one kind
-- the first in the text.
use Rattle.std.specs.Prelude.{ℕ, suc, find, filter, Bool, true, false, cond, not, List, [], ◌∷◌, ◌++◌, map, length, Option, Some, None, Result, Ok, Err, ◌&&◌, ◌||◌, nat_lt, is_some, ◌+◌}
use Rattle.std.specs.List.{list_all}
use Rattle.hera_sets.specs.Rows.{is_same, holds}
use Rattle.hera_meaning.specs.declared.scalars.Kind.{Kind}
use Rattle.hera_meaning.specs.declared.scalars.Kind.TheVariants.{Int as int_kind, Bool as bool_kind, Text as text_kind}
use Rattle.hera_meaning.specs.declared.scalars.Scalar.{Scalar}
use Rattle.hera_meaning.specs.declared.scalars.Scalar.TheVariants.{Int as int_scalar, Bool as bool_scalar, Text as text_scalar}
use Rattle.hera_meaning.specs.declared.scalars.Sign.{Sign}
use Rattle.hera_meaning.specs.declared.scalars.Sign.TheVariants.{Plus, Minus}
use Rattle.hera_meaning.specs.declared.scalars.RelId.{RelId}
use Rattle.hera_meaning.specs.declared.schemas.TheConstants.{ATTRS_LIMIT}
use Rattle.hera_meaning.specs.declared.schemas.Attr.{Attr}
use Rattle.hera_meaning.specs.declared.schemas.Agg.{Agg}
use Rattle.hera_meaning.specs.declared.schemas.Agg.TheVariants.{Count as count_agg, Sum as sum_agg, Min as min_agg, Max as max_agg}
use Rattle.hera_meaning.specs.declared.trees.Shape.{Shape}
use Rattle.hera_meaning.specs.declared.trees.Shape.TheVariants.{Int as int, Bool as bool, Text as text, Tuple as tuple, Rel as rel, Delta as delta}
use Rattle.hera_meaning.specs.declared.trees.Const.{Const}
use Rattle.hera_meaning.specs.declared.trees.Const.TheVariants.{Scalar as scalar, EmptyDelta as empty_delta, FailDelta as fail_delta}
use Rattle.hera_meaning.specs.declared.trees.Op.{Op}
use Rattle.hera_meaning.specs.declared.trees.Op.TheVariants.{Neg, Not, In, Field as field_op, MakeRow, MakeRel, Project, Join as join_op, Group, Count, Empty, Sum as sum_op, Min as min_op, Max as max_op, Atom as atom_op, Bulk, Ins, Del, IsFail, Merge}
use Rattle.hera_meaning.specs.Schemas.{place_named, names_of}
use Rattle.hera_meaning.specs.Scalars.{is_same_kind}
use Rattle.hera_meaning.specs.Deltas.{schema_of}
use Rattle.hera_meaning.specs.Relations.{lacking}
use Rattle.hera_meaning.specs.Forms.{kinds_of, kind_at, agg_kind}
use Rattle.hera_meaning.specs.Trees.{Expr, constant, local, relation, prim, chain, and_all, or_any, when, select, map_each, call, host, Exprs, no_more, then_expr, Links, no_link, link, Hypos, no_hypo, hypo}
use Rattle.hera_host.specs.Tables.{host_named, takes_at, gives_at}
use Rattle.hera_rules.specs.declared.words.Word.{Word}
use Rattle.hera_rules.specs.declared.words.WalkKind.{WalkKind}
use Rattle.hera_rules.specs.declared.words.WalkKind.TheVariants.{Keeping, Mapping}
use Rattle.hera_rules.specs.declared.words.Pair.{Pair}
use Rattle.hera_rules.specs.declared.words.Pair.TheVariants.{Sets, Join as as_join}
use Rattle.hera_rules.specs.declared.words.Fold.{Fold}
use Rattle.hera_rules.specs.declared.words.Fold.TheVariants.{Sum as sum_of, Least, Greatest}
use Rattle.hera_rules.specs.declared.words.Renamed.{Renamed}
use Rattle.hera_rules.specs.declared.words.Measured.{Measured}
use Rattle.hera_rules.specs.declared.words.Measured.TheVariants.{Count as counted, Of as folded}
use Rattle.hera_rules.specs.declared.words.Aggregate.{Aggregate}
use Rattle.hera_rules.specs.declared.words.Joint.{Joint}
use Rattle.hera_rules.specs.declared.words.Joint.TheVariants.{When as by_when, And as by_and, Or as by_or, Arithmetic, Equality, Order, Member, Deltas}
use Rattle.hera_rules.specs.declared.words.Prefix.{Prefix}
use Rattle.hera_rules.specs.declared.words.Prefix.TheVariants.{Minus as negated, Not as denied}
use Rattle.hera_rules.specs.declared.words.Test.{Test}
use Rattle.hera_rules.specs.declared.words.Test.TheVariants.{Count as count_test, Empty as empty_test, IsFail as is_fail_test}
use Rattle.hera_rules.specs.declared.env.Local.{Local}
use Rattle.hera_rules.specs.declared.env.FuncSig.{FuncSig}
use Rattle.hera_rules.specs.declared.fault.TypeFault.{TypeFault}
use Rattle.hera_rules.specs.declared.fault.TypeFault.TheVariants.{Unknown as unknown, Repeated as repeated, Mismatch as mismatch, TooMany as too_many}
use Rattle.hera_rules.specs.Environments.{Env, relation_named, func_named, local_named, is_global, is_taken}
use Rattle.hera_rules.specs.Same.{same_schema, same_shape, same_shapes, same_kinds}

-- a type, and the core of a phrase that has it
pub record Typing : Type 0 where
  pub type : Shape
  pub core : Expr

abbrev pub typing : Shape → Expr → Typing
typing t e = record { type = t; core = e }

-- one operand of a chain in the core
pub record Step : Type 0 where
  pub joint : Joint
  pub at : ℕ
  pub arg : Expr

-- ---- words of this file

-- what is given where the test holds, else the fault
abbrev pub given : {A : Type 0} → Bool → TypeFault → A → Result A TypeFault
given true f a = Ok a
given false f a = Err f

-- the first fault that is there, else what follows
abbrev pub unless : {A : Type 0} → Option TypeFault → Result A TypeFault → Result A TypeFault
unless None r = r
unless (Some f) r = Err f

-- the first of two that is there
abbrev pub either : {A : Type 0} → Option A → Option A → Option A
either (Some a) o = Some a
either None o = o

abbrev pub is_int : Shape → Bool
is_int int = true
is_int _ = false

abbrev pub is_bool : Shape → Bool
is_bool bool = true
is_bool _ = false

abbrev pub is_text : Shape → Bool
is_text text = true
is_text _ = false

abbrev pub is_delta : Shape → Bool
is_delta delta = true
is_delta _ = false

abbrev pub is_rel : Shape → Bool
is_rel (rel s) = true
is_rel _ = false

abbrev pub kind_type : Kind → Shape
kind_type int_kind = int
kind_type bool_kind = bool
kind_type text_kind = text

abbrev pub is_scalar : Shape → Bool
is_scalar int = true
is_scalar bool = true
is_scalar text = true
is_scalar _ = false

-- the kind of a scalar's type, int for other types
abbrev pub scalar_kind : Shape → Kind
scalar_kind bool = bool_kind
scalar_kind text = text_kind
scalar_kind _ = int_kind

abbrev pub types_of : List Typing → List Shape
types_of vs = map (λ v. v.type) vs

abbrev pub exprs_from : List Typing → Exprs
exprs_from [] = no_more
exprs_from (v ∷ vs) = then_expr v.core (exprs_from vs)

abbrev pub one_expr : Expr → Exprs
one_expr e = then_expr e no_more

abbrev pub two_exprs : Expr → Expr → Exprs
two_exprs e f = then_expr e (then_expr f no_more)

-- ---- literals and names

abbrev pub scalar_type : Scalar → Shape
scalar_type (int_scalar z) = int
scalar_type (bool_scalar b) = bool
scalar_type (text_scalar t) = text

abbrev pub const_type : Const → Shape
const_type (scalar s) = scalar_type s
const_type empty_delta = delta
const_type fail_delta = delta

abbrev pub literal_row : Const → Typing
literal_row c = typing (const_type c) (constant c)

abbrev pub relation_row : Env → ℕ → Option ℕ → Result Typing TypeFault
relation_row g at (Some r) = Ok (typing (rel (schema_of g.relations r)) (relation r))
relation_row g at None = Err (unknown at)

abbrev pub value_row : Env → Word → Option Local → Result Typing TypeFault
value_row g w (Some l) = Ok (typing l.shape (local l.slot))
value_row g w None = relation_row g w.at (relation_named w.name g.relations)

-- a name: a visible local, else a relation
abbrev pub name_row : Env → List Local → Word → Result Typing TypeFault
name_row g ls w = value_row g w (local_named w.name ls)

-- ---- calls

abbrev pub params_of : List Local → List Shape
params_of ps = map (λ p. p.shape) ps

abbrev pub host_row : Env → Word → List Typing → Option ℕ → Result Typing TypeFault
host_row g w vs None = Err (unknown w.at)
host_row g w vs (Some h) =
    given (same_shapes (kind_type (takes_at g.hosts h) ∷ []) (types_of vs)) (mismatch w.at) (typing (kind_type (gives_at g.hosts h)) (host h (exprs_from vs)))

abbrev pub call_of : Env → Word → List Typing → Option FuncSig → Result Typing TypeFault
call_of g w vs (Some f) = given (same_shapes (params_of f.params) (types_of vs)) (mismatch w.at) (typing f.result (call f.number (exprs_from vs)))
call_of g w vs None = cond (is_global g w.name) (Err (mismatch w.at)) (host_row g w vs (host_named w.name g.hosts))

-- a call in an expression: the func of that name, else a host where no global has it; exactly its types
abbrev pub call_row : Env → Word → List Typing → Result Typing TypeFault
call_row g w vs = call_of g w vs (func_named w.name g.funcs)

-- ---- operators

-- `-` of an int, `!` of a bool
abbrev pub prefix_row : Prefix → ℕ → Typing → Result Typing TypeFault
prefix_row negated at v = given (is_int v.type) (mismatch at) (typing int (prim Neg (one_expr v.core) at))
prefix_row denied at v = given (is_bool v.type) (mismatch at) (typing bool (prim Not (one_expr v.core) at))

-- a tuple and a rel of equal schemas
abbrev pub is_member : Shape → Shape → Bool
is_member (tuple s) (rel r) = same_schema s r
is_member _ _ = false

-- what joins two operands: the type on the left, the type on the right
abbrev pub joint_row : Joint → ℕ → Shape → Shape → Result Shape TypeFault
joint_row by_when at s t = given (is_delta t) (mismatch at) s
joint_row by_and at s t = given (is_bool s && is_bool t) (mismatch at) bool
joint_row by_or at s t = given (is_bool s && is_bool t) (mismatch at) bool
joint_row (Arithmetic op) at s t = given (is_int s && is_int t) (mismatch at) int
joint_row (Equality op) at s t = given (same_shape s t) (mismatch at) bool
joint_row (Order op) at s t = given ((is_int s && is_int t) || (is_text s && is_text t)) (mismatch at) bool
joint_row Member at s t = given (is_member s t) (mismatch at) bool
joint_row (Deltas op) at s t = given (is_delta s && is_delta t) (mismatch at) delta

-- the operation of an operator; `when`, `&&` and `||` have none
abbrev pub op_in : Joint → Op
op_in (Arithmetic op) = op
op_in (Equality op) = op
op_in (Order op) = op
op_in (Deltas op) = op
op_in _ = In

-- the core of a chain
abbrev pub links_from : List Step → Links
links_from [] = no_link
links_from (i ∷ is) = link (op_in i.joint) i.arg i.at (links_from is)

abbrev pub hypos_from : List Step → Hypos
hypos_from [] = no_hypo
hypos_from (i ∷ is) = hypo i.arg i.at (hypos_from is)

abbrev pub args_from : List Step → Exprs
args_from [] = no_more
args_from (i ∷ is) = then_expr i.arg (args_from is)

abbrev pub chain_by : Joint → Expr → List Step → Expr
chain_by by_when e is = when e (hypos_from is)
chain_by by_and e is = and_all (then_expr e (args_from is))
chain_by by_or e is = or_any (then_expr e (args_from is))
chain_by _ e is = chain e (links_from is)

-- the first operand where there is no other
abbrev pub chain_core : Expr → List Step → Expr
chain_core e [] = e
chain_core e (i ∷ is) = chain_by i.joint e (i ∷ is)

-- ---- attributes and rows

abbrev pub field_type : Word → Expr → List Attr → Option ℕ → Result Typing TypeFault
field_type w e s None = Err (unknown w.at)
field_type w e s (Some i) = Ok (typing (kind_type (kind_at s i)) (prim (field_op s i) (one_expr e) w.at))

abbrev pub field_of : Word → Expr → Shape → Result Typing TypeFault
field_of w e (tuple s) = field_type w e s (place_named w.name s)
field_of w e _ = Err (mismatch w.at)

-- `.a`: a tuple that has the attribute
abbrev pub field_row : Word → Typing → Result Typing TypeFault
field_row w v = field_of w v.core v.type

-- the first word whose name stands before
abbrev pub repeat_in : List (List ℕ) → List Word → Option TypeFault
repeat_in seen [] = None
repeat_in seen (w ∷ ws) = cond (holds seen w.name) (Some (repeated w.at)) (repeat_in (seen ++ w.name ∷ []) ws)

-- attributes of these names, and of the kinds of these values
abbrev pub attrs_of : List Word → List Typing → List Attr
attrs_of (w ∷ ws) (v ∷ vs) = record { name = w.name; kind = scalar_kind v.type } ∷ attrs_of ws vs
attrs_of _ _ = []

-- `[a = e]`: distinct names, at most 16, scalar values
abbrev pub row_row : ℕ → List Word → List Typing → Result Typing TypeFault
row_row at ws vs = unless (repeat_in [] ws) (cond (nat_lt ATTRS_LIMIT (length ws)) (Err (too_many at))
    (given (list_all is_scalar (types_of vs)) (mismatch at) (typing (tuple (attrs_of ws vs)) (prim (MakeRow (attrs_of ws vs)) (exprs_from vs) at))))

-- the types of a relation's kinds, in order
abbrev pub kind_types : List Attr → List Shape
kind_types s = map (λ a. kind_type a.kind) s

abbrev pub make_row : List Attr → List Typing → ℕ → Expr
make_row s vs at = prim (MakeRow s) (exprs_from vs) at

abbrev pub atom_of : Env → Sign → Word → List Typing → Option ℕ → Result Typing TypeFault
atom_of g sign w vs None = Err (unknown w.at)
atom_of g sign w vs (Some r) =
    given (same_shapes (kind_types (schema_of g.relations r)) (types_of vs)) (mismatch w.at)
    (typing delta (prim (atom_op sign (record { 0 = r })) (one_expr (make_row (schema_of g.relations r) vs w.at)) w.at))

-- `+R(..)`: the relation's kinds in order
abbrev pub atom_row : Env → Sign → Word → List Typing → Result Typing TypeFault
atom_row g sign w vs = atom_of g sign w vs (relation_named w.name g.relations)

-- several atoms are merged
abbrev pub merges_from : ℕ → List Typing → Links
merges_from at [] = no_link
merges_from at (v ∷ vs) = link Merge v.core at (merges_from at vs)

abbrev pub atoms_core : ℕ → List Typing → Expr
atoms_core at [] = constant empty_delta
atoms_core at (v ∷ []) = v.core
atoms_core at (v ∷ w ∷ vs) = chain v.core (merges_from at (w ∷ vs))

-- `{..}`
abbrev pub atoms_row : ℕ → List Typing → Typing
atoms_row at vs = typing delta (atoms_core at vs)

abbrev pub line_of : Env → Word → ℕ → List Typing → Option ℕ → Result Typing TypeFault
line_of g w at vs None = Err (unknown w.at)
line_of g w at vs (Some r) =
    given (same_shapes (kind_types (schema_of g.relations r)) (types_of vs)) (mismatch at)
    (typing (tuple (schema_of g.relations r)) (make_row (schema_of g.relations r) vs at))

-- a line of `rows`
abbrev pub line_row : Env → Word → ℕ → List Typing → Result Typing TypeFault
line_row g w at vs = line_of g w at vs (relation_named w.name g.relations)

abbrev pub lines_of : Env → Word → ℕ → List Typing → Option ℕ → Result Typing TypeFault
lines_of g w at vs None = Err (unknown w.at)
lines_of g w at vs (Some r) = Ok (typing (rel (schema_of g.relations r)) (prim (MakeRel (length vs)) (exprs_from vs) at))

-- `rows`
abbrev pub lines_row : Env → Word → ℕ → List Typing → Result Typing TypeFault
lines_row g w at vs = lines_of g w at vs (relation_named w.name g.relations)

-- ---- walks

abbrev pub over : Word → ℕ → ℕ → Shape → Result Local TypeFault
over var at n (rel s) = Ok (record { name = var.name; slot = n; shape = tuple s })
over var at n _ = Err (mismatch at)

-- the variable of a walk: not visible yet, over a rel
abbrev pub variable_row : Env → List Local → Word → ℕ → ℕ → Shape → Result Local TypeFault
variable_row g ls var at n t = cond (is_taken g ls var.name) (Err (repeated var.at)) (over var at n t)

abbrev pub image_row : ℕ → ℕ → Expr → Expr → Shape → Result Typing TypeFault
image_row at n of body (tuple s) = Ok (typing (rel s) (map_each n of body))
image_row at n of body _ = Err (mismatch at)

-- `select`: a bool, the rel's type; `map`: a tuple, a rel of its schema
abbrev pub walk_row : WalkKind → ℕ → ℕ → Typing → Typing → Result Typing TypeFault
walk_row Keeping at n of body = given (is_bool body.type) (mismatch at) (typing of.type (select n of.core body.core))
walk_row Mapping at n of body = image_row at n of.core body.core body.type

-- ---- set operators

-- the first word that is no attribute
abbrev pub stranger_in : List Attr → List Word → Option TypeFault
stranger_in s [] = None
stranger_in s (w ∷ ws) = cond (is_some (place_named w.name s)) (stranger_in s ws) (Some (unknown w.at))

-- the place of a name, 0 where there is none
abbrev pub place_or : Option ℕ → ℕ
place_or (Some i) = i
place_or None = 0

abbrev pub place_in : List Attr → List ℕ → ℕ
place_in s name = place_or (place_named name s)

abbrev pub places_in : List Attr → List Word → List ℕ
places_in s ws = map (λ w. place_in s w.name) ws

-- the attribute of a name, by its place
abbrev pub attr_in : List Attr → Word → Attr
attr_in s w = record { name = w.name; kind = kind_at s (place_in s w.name) }

abbrev pub attrs_in : List Attr → List Word → List Attr
attrs_in s ws = map (attr_in s) ws

abbrev pub project_type : ℕ → List Word → Expr → Shape → Result Typing TypeFault
project_type at ws e (rel s) =
    unless (stranger_in s ws) (unless (repeat_in [] ws) (Ok (typing (rel (attrs_in s ws)) (prim (Project s (places_in s ws)) (one_expr e) at))))
project_type at ws e _ = unless (repeat_in [] ws) (Err (mismatch at))

-- `project`: a rel, distinct names in it
abbrev pub project_row : ℕ → List Word → Typing → Result Typing TypeFault
project_row at ws v = project_type at ws v.core v.type

abbrev pub word_names : List Word → List (List ℕ)
word_names ws = map (λ w. w.name) ws

abbrev pub old_words : List Renamed → List Word
old_words rs = map (λ r. r.old) rs

abbrev pub old_names : List Renamed → List (List ℕ)
old_names rs = map (λ r. r.old.name) rs

-- the names of the attributes that are not renamed
abbrev pub kept_names : List Attr → List (List ℕ) → List (List ℕ)
kept_names s olds = filter (λ name. not (holds olds name)) (names_of s)

-- the first name of a `rename` that stands twice: a new one among the results so far, an old one among the old
-- ones so far
abbrev pub rename_repeat : (results olds : List (List ℕ)) → List Renamed → Option TypeFault
rename_repeat results olds [] = None
rename_repeat results olds (r ∷ rs) = cond (holds results r.new.name) (Some (repeated r.new.at))
    (cond (holds olds r.old.name) (Some (repeated r.old.at)) (rename_repeat (results ++ r.new.name ∷ []) (olds ++ r.old.name ∷ []) rs))

-- the new name of an attribute
abbrev pub renamed_to : List ℕ → Option Renamed → List ℕ
renamed_to name None = name
renamed_to name (Some r) = r.new.name

abbrev pub new_name : List Renamed → List ℕ → List ℕ
new_name rs name = renamed_to name (find (λ r. is_same name r.old.name) rs)

abbrev pub renamed_attr : List Renamed → Attr → Attr
renamed_attr rs a = record { name = new_name rs a.name; kind = a.kind }

abbrev pub rename_of : ℕ → List Renamed → Expr → Shape → Result Typing TypeFault
rename_of at rs e (rel s) =
    unless (stranger_in s (old_words rs)) (unless (rename_repeat (kept_names s (old_names rs)) [] rs) (Ok (typing (rel (map (renamed_attr rs) s)) e)))
rename_of at rs e _ = unless (rename_repeat [] [] rs) (Err (mismatch at))

-- `rename`: a rel, old names in it, each once, distinct results
abbrev pub rename_row : ℕ → List Renamed → Typing → Result Typing TypeFault
rename_row at rs v = rename_of at rs v.core v.type

abbrev pub sets_of : Op → ℕ → Expr → Expr → Shape → Shape → Result Typing TypeFault
sets_of op at e f (rel s) (rel t) = given (same_schema s t) (mismatch at) (typing (rel s) (prim op (two_exprs e f) at))
sets_of op at e f _ _ = Err (mismatch at)

-- common names have one kind
abbrev pub kinds_agree : List Attr → List Attr → Bool
kinds_agree left right = list_all (λ a. list_all (λ b. not (is_same a.name b.name) || is_same_kind a.kind b.kind) right) left

abbrev pub join_type : ℕ → Expr → Expr → Shape → Shape → Result Typing TypeFault
join_type at e f (rel s) (rel t) =
    cond (nat_lt (length s + length (lacking s t)) (suc ATTRS_LIMIT))
    (given (kinds_agree s t) (mismatch at) (typing (rel (s ++ lacking s t)) (prim (join_op s t) (two_exprs e f) at)))
    (Err (too_many at))
join_type at e f _ _ = Err (mismatch at)

-- `union`, `minus`, `inter`: rels of equal schemas; `join`: common names of one kind, at most 16 in all
abbrev pub pair_row : Pair → ℕ → Typing → Typing → Result Typing TypeFault
pair_row (Sets op) at v w = sets_of op at v.core w.core v.type w.type
pair_row as_join at v w = join_type at v.core w.core v.type w.type

abbrev pub measured_word : Measured → List Word
measured_word counted = []
measured_word (folded f w) = w ∷ []

-- the words of a group that have to be attributes, behind its keys
abbrev pub measured_words : List Aggregate → List Word
measured_words [] = []
measured_words (a ∷ aggs) = measured_word a.of ++ measured_words aggs

abbrev pub agg_words : List Aggregate → List Word
agg_words aggs = map (λ a. a.name) aggs

abbrev pub fold_agg : Fold → ℕ → Agg
fold_agg sum_of i = sum_agg i
fold_agg Least i = min_agg i
fold_agg Greatest i = max_agg i

abbrev pub agg_in : List Attr → Measured → Agg
agg_in s counted = count_agg
agg_in s (folded f w) = fold_agg f (place_in s w.name)

abbrev pub aggs_in : List Attr → List Aggregate → List Agg
aggs_in s aggs = map (λ a. agg_in s a.of) aggs

-- what is summed is an int
abbrev pub sums_int : List Attr → Measured → Bool
sums_int s (folded sum_of w) = is_same_kind (kind_at s (place_in s w.name)) int_kind
sums_int s _ = true

abbrev pub agg_attr : List Attr → Aggregate → Attr
agg_attr s a = record { name = a.name.name; kind = agg_kind s (agg_in s a.of) }

abbrev pub group_attrs : List Attr → List Word → List Aggregate → List Attr
group_attrs s by aggs = attrs_in s by ++ map (agg_attr s) aggs

-- the faults of the results: a name that stands before, more than 16
abbrev pub result_fault : ℕ → List Word → List Aggregate → Option TypeFault
result_fault at by aggs = either (repeat_in [] by) (either (repeat_in (word_names by) (agg_words aggs)) (cond (nat_lt ATTRS_LIMIT (length by + length aggs)) (Some (too_many at)) None))

abbrev pub group_type : ℕ → List Word → List Aggregate → Expr → Shape → Result Typing TypeFault
group_type at by aggs e (rel s) =
    unless (stranger_in s by) (unless (stranger_in s (measured_words aggs)) (unless (result_fault at by aggs)
    (given (list_all (λ a. sums_int s a.of) aggs) (mismatch at)
    (typing (rel (group_attrs s by aggs)) (prim (Group s (places_in s by) (aggs_in s aggs)) (one_expr e) at)))))
group_type at by aggs e _ = unless (result_fault at by aggs) (Err (mismatch at))

-- `group`: a rel, names in it, distinct results, at most 16, sums of ints
abbrev pub group_row : ℕ → List Word → List Aggregate → Typing → Result Typing TypeFault
group_row at by aggs v = group_type at by aggs v.core v.type

-- ---- measures

-- `count`, `empty`: a rel; `isfail`: a delta
abbrev pub test_row : Test → ℕ → Typing → Result Typing TypeFault
test_row count_test at v = given (is_rel v.type) (mismatch at) (typing int (prim Count (one_expr v.core) at))
test_row empty_test at v = given (is_rel v.type) (mismatch at) (typing bool (prim Empty (one_expr v.core) at))
test_row is_fail_test at v = given (is_delta v.type) (mismatch at) (typing bool (prim IsFail (one_expr v.core) at))

abbrev pub fold_at : Fold → ℕ → Expr → List Attr → ℕ → Option ℕ → Result Typing TypeFault
fold_at f at e s w None = Err (unknown w)
fold_at sum_of at e s w (Some i) = given (is_same_kind (kind_at s i) int_kind) (mismatch at) (typing int (prim (sum_op s i) (one_expr e) at))
fold_at Least at e s w (Some i) = Ok (typing (kind_type (kind_at s i)) (prim (min_op s i) (one_expr e) at))
fold_at Greatest at e s w (Some i) = Ok (typing (kind_type (kind_at s i)) (prim (max_op s i) (one_expr e) at))

abbrev pub fold_in : Fold → ℕ → Word → Expr → Shape → Result Typing TypeFault
fold_in f at w e (rel s) = fold_at f at e s w.at (place_named w.name s)
fold_in f at w e _ = Err (mismatch at)

-- `sum`, `min`, `max`: a rel, an attribute of it, an int for `sum`
abbrev pub fold_row : Fold → ℕ → Word → Typing → Result Typing TypeFault
fold_row f at w v = fold_in f at w v.core v.type

-- ---- deltas from relations, relations from deltas

abbrev pub has_kinds : List Kind → Shape → Bool
has_kinds ks (rel s) = same_kinds ks (kinds_of s)
has_kinds ks _ = false

abbrev pub bulk_of : Env → Sign → Word → ℕ → Typing → Option ℕ → Result Typing TypeFault
bulk_of g sign w at v None = Err (unknown w.at)
bulk_of g sign w at v (Some r) =
    given (has_kinds (kinds_of (schema_of g.relations r)) v.type) (mismatch at) (typing delta (prim (Bulk sign (record { 0 = r })) (one_expr v.core) at))

-- `bulk(+R, E)`: a rel of R's kinds in order
abbrev pub bulk_row : Env → Sign → Word → ℕ → Typing → Result Typing TypeFault
bulk_row g sign w at v = bulk_of g sign w at v (relation_named w.name g.relations)

abbrev pub part_op : Sign → RelId → Op
part_op Plus r = Ins r
part_op Minus r = Del r

abbrev pub part_of : Env → Sign → Word → ℕ → Typing → Option ℕ → Result Typing TypeFault
part_of g sign w at v None = Err (unknown w.at)
part_of g sign w at v (Some r) =
    given (is_delta v.type) (mismatch at) (typing (rel (schema_of g.relations r)) (prim (part_op sign (record { 0 = r })) (one_expr v.core) at))

-- `ins(R, D)`, `del(R, D)`: R a relation, D a delta
abbrev pub part_row : Env → Sign → Word → ℕ → Typing → Result Typing TypeFault
part_row g sign w at v = part_of g sign w at v (relation_named w.name g.relations)
