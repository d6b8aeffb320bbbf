-- No row of the table of typing gives want of memory.
use Rattle.std.proofs.Common.{ℕ, List, [], ◌∷◌, ◌++◌, Option, Some, None, Result, Ok, Err, Bool, true, false, cond, length, nat_lt, ◌+◌, is_some}
use Rattle.hera_sets.specs.Rows.{holds}
use Rattle.hera_meaning.specs.declared.schemas.Attr.{Attr}
use Rattle.hera_meaning.specs.declared.schemas.RelDecl.{RelDecl}
use Rattle.hera_meaning.specs.declared.scalars.Sign.{Sign}
use Rattle.hera_meaning.specs.declared.trees.Shape.{Shape}
use Rattle.hera_meaning.specs.declared.trees.Shape.TheVariants as shapes
use Rattle.hera_meaning.specs.Trees.{Expr, Command}
use Rattle.hera_host.specs.Tables.{host_named}
use Rattle.hera_meaning.specs.Schemas.{place_named, names_of}
use Rattle.hera_rules.specs.declared.words.Word.{Word}
use Rattle.hera_rules.specs.declared.words.Field.{Field}
use Rattle.hera_rules.specs.declared.words.WalkKind.{WalkKind}
use Rattle.hera_rules.specs.declared.words.WalkKind.TheVariants.{Keeping, Mapping}
use Rattle.hera_rules.specs.declared.words.Pair.{Pair}
use Rattle.hera_rules.specs.declared.words.Pair.TheVariants.{Sets, Join}
use Rattle.hera_rules.specs.declared.words.Fold.{Fold}
use Rattle.hera_rules.specs.declared.words.Fold.TheVariants.{Sum, Least, Greatest}
use Rattle.hera_rules.specs.declared.words.Renamed.{Renamed}
use Rattle.hera_rules.specs.declared.words.Aggregate.{Aggregate}
use Rattle.hera_rules.specs.declared.words.Joint.{Joint}
use Rattle.hera_rules.specs.declared.words.Joint.TheVariants as joints
use Rattle.hera_rules.specs.declared.words.Prefix.{Prefix}
use Rattle.hera_rules.specs.declared.words.Prefix.TheVariants as prefixes
use Rattle.hera_rules.specs.declared.words.Test.{Test}
use Rattle.hera_rules.specs.declared.words.Test.TheVariants as tests
use Rattle.hera_rules.specs.declared.env.Local.{Local}
use Rattle.hera_rules.specs.declared.env.FuncSig.{FuncSig}
use Rattle.hera_rules.specs.declared.env.ProcSig.{ProcSig}
use Rattle.hera_rules.specs.declared.fault.TypeFault.{TypeFault}
use Rattle.hera_rules.specs.declared.fault.TypeFault.TheVariants.{Unknown, Repeated, Mismatch, Impure, NoReturn, TooMany, Memory}
use Rattle.hera_rules.specs.Environments.{Env, relation_named, func_named, proc_named, local_named, is_global, is_taken}
use Rattle.hera_rules.specs.Phrases.{Schema_phrase, of_relation, written, Type_phrase, kind_type as of_kind, delta_type, rel_type, tuple_type}
use Rattle.hera_rules.specs.Checked.{and_then}
use Rattle.hera_rules.specs.Rules.{Typing, given, unless, either, relation_row, value_row, name_row, host_row, call_of, call_row, prefix_row, joint_row, field_type, field_of, field_row as attribute_row, repeat_in, row_row, atom_of, atom_row, line_of, line_row, lines_of, lines_row, over, variable_row, image_row, walk_row, stranger_in, word_names, agg_words, measured_words, old_words, old_names, kept_names, project_type, project_row, rename_repeat, rename_of, rename_row, sets_of, join_type, pair_row, result_fault, group_type, group_row, test_row, fold_at, fold_in, fold_row, bulk_of, bulk_row, part_of, part_row}
use Rattle.hera_rules.specs.Commands.{named_schema, field_row, fields_row, schema_row, shape_with, type_row, declare_local, declare_row, assigned, assign_row, performed, perform_row, cond_row, effect_row, apply_row, assert_row, return_row, return_value_row}

-- a fault that has a place
abbrev pub Placed : TypeFault → Type 0
Placed (Unknown at) = Unit {0}
Placed (Repeated at) = Unit {0}
Placed (Mismatch at) = Unit {0}
Placed (Impure at) = Unit {0}
Placed (NoReturn at) = Unit {0}
Placed (TooMany at) = Unit {0}
Placed Memory = ⊥

-- what is given, or else the fault has a place
pub data IsPlaced {A : Type 0} : Result A TypeFault → Type 0 where
  fine : {a : A} → IsPlaced (Ok a)
  at_place : {f : TypeFault} → Placed f → IsPlaced (Err f)

pub place_of : {A : Type 0} {f : TypeFault} → IsPlaced {A = A} (Err f) → Placed f
place_of (at_place p) = p

data MayBePlaced : Option TypeFault → Type 0 where
  no_fault : MayBePlaced None
  a_fault : {f : TypeFault} → Placed f → MayBePlaced (Some f)

place_of_some : {f : TypeFault} → MayBePlaced (Some f) → Placed f
place_of_some (a_fault p) = p

-- ---- words of the rows

pub given_placed : {A : Type 0} (b : Bool) (f : TypeFault) (a : A) → Placed f → IsPlaced (given b f a)
given_placed true f a p = fine
given_placed false f a p = at_place p

pub cond_placed : {A : Type 0} (b : Bool) (x y : Result A TypeFault) → IsPlaced x → IsPlaced y → IsPlaced (cond b x y)
cond_placed true x y p q = p
cond_placed false x y p q = q

unless_placed : {A : Type 0} (o : Option TypeFault) (r : Result A TypeFault) → MayBePlaced o → IsPlaced r → IsPlaced (unless o r)
unless_placed None r m p = p
unless_placed (Some f) r m p = at_place (place_of_some m)

either_placed : (o q : Option TypeFault) → MayBePlaced o → MayBePlaced q → MayBePlaced (either o q)
either_placed None q m n = n
either_placed (Some f) q m n = m

cond_may : (b : Bool) (x y : Option TypeFault) → MayBePlaced x → MayBePlaced y → MayBePlaced (cond b x y)
cond_may true x y p q = p
cond_may false x y p q = q

pub then_placed : {A B : Type 0} (r : Result A TypeFault) (go : A → Result B TypeFault) → IsPlaced r → ((a : A) → IsPlaced (go a)) → IsPlaced (and_then r go)
then_placed (Ok a) go p q = q a
then_placed (Err f) go p q = at_place (place_of p)

-- ---- names and calls

pub name_placed : (g : Env) (ls : List Local) (w : Word) → IsPlaced (name_row g ls w)
name_placed g ls w = by (local_named w.name ls) where
  relation : (o : Option ℕ) → IsPlaced (relation_row g w.at o)
  relation None = at_place tt
  relation (Some r) = fine

  by : (o : Option Local) → IsPlaced (value_row g w o)
  by None = relation (relation_named w.name g.relations)
  by (Some l) = fine

pub call_placed : (g : Env) (w : Word) (vs : List Typing) → IsPlaced (call_row g w vs)
call_placed g w vs = by (func_named w.name g.funcs) where
  at_host : (o : Option ℕ) → IsPlaced (host_row g w vs o)
  at_host None = at_place tt
  at_host (Some h) = given_placed _ _ _ tt

  by : (o : Option FuncSig) → IsPlaced (call_of g w vs o)
  by None = cond_placed (is_global g w.name) (Err (Mismatch w.at)) (host_row g w vs (host_named w.name g.hosts)) (at_place tt) (at_host (host_named w.name g.hosts))
  by (Some f) = given_placed _ _ _ tt

-- ---- operators and attributes

pub prefix_placed : (op : Prefix) (at : ℕ) (v : Typing) → IsPlaced (prefix_row op at v)
prefix_placed prefixes.Minus at v = given_placed _ _ _ tt
prefix_placed prefixes.Not at v = given_placed _ _ _ tt

pub joint_placed : (op : Joint) (at : ℕ) (s t : Shape) → IsPlaced (joint_row op at s t)
joint_placed joints.When at s t = given_placed _ _ _ tt
joint_placed joints.And at s t = given_placed _ _ _ tt
joint_placed joints.Or at s t = given_placed _ _ _ tt
joint_placed (joints.Arithmetic op) at s t = given_placed _ _ _ tt
joint_placed (joints.Equality op) at s t = given_placed _ _ _ tt
joint_placed (joints.Order op) at s t = given_placed _ _ _ tt
joint_placed joints.Member at s t = given_placed _ _ _ tt
joint_placed (joints.Deltas op) at s t = given_placed _ _ _ tt

pub attribute_placed : (w : Word) (v : Typing) → IsPlaced (attribute_row w v)
attribute_placed w v = by v.type where
  field : (s : List Attr) (o : Option ℕ) → IsPlaced (field_type w v.core s o)
  field s None = at_place tt
  field s (Some i) = fine

  by : (t : Shape) → IsPlaced (field_of w v.core t)
  by shapes.Int = at_place tt
  by shapes.Bool = at_place tt
  by shapes.Text = at_place tt
  by (shapes.Tuple s) = field s (place_named w.name s)
  by (shapes.Rel s) = at_place tt
  by shapes.Delta = at_place tt

repeat_placed : (seen : List (List ℕ)) (ws : List Word) → MayBePlaced (repeat_in seen ws)
repeat_placed seen [] = no_fault
repeat_placed seen (w ∷ ws) = cond_may (holds seen w.name) (Some (Repeated w.at)) (repeat_in (seen ++ w.name ∷ []) ws) (a_fault tt) (repeat_placed (seen ++ w.name ∷ []) ws)

pub row_placed : (at : ℕ) (ws : List Word) (vs : List Typing) → IsPlaced (row_row at ws vs)
row_placed at ws vs = unless_placed (repeat_in [] ws) _ (repeat_placed [] ws) (cond_placed (nat_lt 16 (length ws)) (Err (TooMany at)) _ (at_place tt) (given_placed _ _ _ tt))

pub atom_placed : (g : Env) (sign : Sign) (w : Word) (vs : List Typing) → IsPlaced (atom_row g sign w vs)
atom_placed g sign w vs = by (relation_named w.name g.relations) where
  by : (o : Option ℕ) → IsPlaced (atom_of g sign w vs o)
  by None = at_place tt
  by (Some r) = given_placed _ _ _ tt

pub line_placed : (g : Env) (w : Word) (at : ℕ) (vs : List Typing) → IsPlaced (line_row g w at vs)
line_placed g w at vs = by (relation_named w.name g.relations) where
  by : (o : Option ℕ) → IsPlaced (line_of g w at vs o)
  by None = at_place tt
  by (Some r) = given_placed _ _ _ tt

pub lines_placed : (g : Env) (w : Word) (at : ℕ) (vs : List Typing) → IsPlaced (lines_row g w at vs)
lines_placed g w at vs = by (relation_named w.name g.relations) where
  by : (o : Option ℕ) → IsPlaced (lines_of g w at vs o)
  by None = at_place tt
  by (Some r) = fine

-- ---- walks

pub variable_placed : (g : Env) (ls : List Local) (var : Word) (at n : ℕ) (t : Shape) → IsPlaced (variable_row g ls var at n t)
variable_placed g ls var at n t = cond_placed (is_taken g ls var.name) (Err (Repeated var.at)) (over var at n t) (at_place tt) (by t) where
  by : (t : Shape) → IsPlaced (over var at n t)
  by shapes.Int = at_place tt
  by shapes.Bool = at_place tt
  by shapes.Text = at_place tt
  by (shapes.Tuple s) = at_place tt
  by (shapes.Rel s) = fine
  by shapes.Delta = at_place tt

image_placed : (at n : ℕ) (of body : Expr) (t : Shape) → IsPlaced (image_row at n of body t)
image_placed at n of body shapes.Int = at_place tt
image_placed at n of body shapes.Bool = at_place tt
image_placed at n of body shapes.Text = at_place tt
image_placed at n of body (shapes.Tuple s) = fine
image_placed at n of body (shapes.Rel s) = at_place tt
image_placed at n of body shapes.Delta = at_place tt

pub walk_placed : (walk : WalkKind) (at n : ℕ) (of body : Typing) → IsPlaced (walk_row walk at n of body)
walk_placed Keeping at n of body = given_placed _ _ _ tt
walk_placed Mapping at n of body = image_placed at n of.core body.core body.type

-- ---- set operators

stranger_placed : (s : List Attr) (ws : List Word) → MayBePlaced (stranger_in s ws)
stranger_placed s [] = no_fault
stranger_placed s (w ∷ ws) = cond_may (is_some (place_named w.name s)) (stranger_in s ws) (Some (Unknown w.at)) (stranger_placed s ws) (a_fault tt)

pub project_placed : (at : ℕ) (ws : List Word) (v : Typing) → IsPlaced (project_row at ws v)
project_placed at ws v = by v.type where
  by : (t : Shape) → IsPlaced (project_type at ws v.core t)
  by shapes.Int = unless_placed (repeat_in [] ws) _ (repeat_placed [] ws) (at_place tt)
  by shapes.Bool = unless_placed (repeat_in [] ws) _ (repeat_placed [] ws) (at_place tt)
  by shapes.Text = unless_placed (repeat_in [] ws) _ (repeat_placed [] ws) (at_place tt)
  by (shapes.Tuple s) = unless_placed (repeat_in [] ws) _ (repeat_placed [] ws) (at_place tt)
  by (shapes.Rel s) = unless_placed (stranger_in s ws) _ (stranger_placed s ws) (unless_placed (repeat_in [] ws) _ (repeat_placed [] ws) fine)
  by shapes.Delta = unless_placed (repeat_in [] ws) _ (repeat_placed [] ws) (at_place tt)

again_placed : (results olds : List (List ℕ)) (rs : List Renamed) → MayBePlaced (rename_repeat results olds rs)
again_placed results olds [] = no_fault
again_placed results olds (r ∷ rs) =
    cond_may (holds results r.new.name) (Some (Repeated r.new.at)) _ (a_fault tt)
    (cond_may (holds olds r.old.name) (Some (Repeated r.old.at)) (rename_repeat (results ++ r.new.name ∷ []) (olds ++ r.old.name ∷ []) rs) (a_fault tt) (again_placed (results ++ r.new.name ∷ []) (olds ++ r.old.name ∷ []) rs))

pub rename_placed : (at : ℕ) (rs : List Renamed) (v : Typing) → IsPlaced (rename_row at rs v)
rename_placed at rs v = by v.type where
  by : (t : Shape) → IsPlaced (rename_of at rs v.core t)
  by shapes.Int = unless_placed (rename_repeat [] [] rs) _ (again_placed [] [] rs) (at_place tt)
  by shapes.Bool = unless_placed (rename_repeat [] [] rs) _ (again_placed [] [] rs) (at_place tt)
  by shapes.Text = unless_placed (rename_repeat [] [] rs) _ (again_placed [] [] rs) (at_place tt)
  by (shapes.Tuple s) = unless_placed (rename_repeat [] [] rs) _ (again_placed [] [] rs) (at_place tt)
  by (shapes.Rel s) = unless_placed (stranger_in s (old_words rs)) _ (stranger_placed s (old_words rs)) (unless_placed (rename_repeat (kept_names s (old_names rs)) [] rs) _ (again_placed (kept_names s (old_names rs)) [] rs) fine)
  by shapes.Delta = unless_placed (rename_repeat [] [] rs) _ (again_placed [] [] rs) (at_place tt)

pub pair_placed : (pair : Pair) (at : ℕ) (v w : Typing) → IsPlaced (pair_row pair at v w)
pair_placed (Sets op) at v w = left v.type where
  right : (s : List Attr) (t : Shape) → IsPlaced (sets_of op at v.core w.core (shapes.Rel s) t)
  right s shapes.Int = at_place tt
  right s shapes.Bool = at_place tt
  right s shapes.Text = at_place tt
  right s (shapes.Tuple t) = at_place tt
  right s (shapes.Rel t) = given_placed _ _ _ tt
  right s shapes.Delta = at_place tt

  left : (t : Shape) → IsPlaced (sets_of op at v.core w.core t w.type)
  left shapes.Int = at_place tt
  left shapes.Bool = at_place tt
  left shapes.Text = at_place tt
  left (shapes.Tuple s) = at_place tt
  left (shapes.Rel s) = right s w.type
  left shapes.Delta = at_place tt
pair_placed Join at v w = left v.type where
  right : (s : List Attr) (t : Shape) → IsPlaced (join_type at v.core w.core (shapes.Rel s) t)
  right s shapes.Int = at_place tt
  right s shapes.Bool = at_place tt
  right s shapes.Text = at_place tt
  right s (shapes.Tuple t) = at_place tt
  right s (shapes.Rel t) = cond_placed _ _ _ (given_placed _ _ _ tt) (at_place tt)
  right s shapes.Delta = at_place tt

  left : (t : Shape) → IsPlaced (join_type at v.core w.core t w.type)
  left shapes.Int = at_place tt
  left shapes.Bool = at_place tt
  left shapes.Text = at_place tt
  left (shapes.Tuple s) = at_place tt
  left (shapes.Rel s) = right s w.type
  left shapes.Delta = at_place tt

results_placed : (at : ℕ) (by : List Word) (aggs : List Aggregate) → MayBePlaced (result_fault at by aggs)
results_placed at by aggs =
    either_placed (repeat_in [] by) _ (repeat_placed [] by)
    (either_placed (repeat_in (word_names by) (agg_words aggs)) _ (repeat_placed (word_names by) (agg_words aggs))
    (cond_may (nat_lt 16 (length by + length aggs)) (Some (TooMany at)) None (a_fault tt) no_fault))

pub group_placed : (at : ℕ) (by : List Word) (aggs : List Aggregate) (v : Typing) → IsPlaced (group_row at by aggs v)
group_placed at by aggs v = of v.type where
  of : (t : Shape) → IsPlaced (group_type at by aggs v.core t)
  of shapes.Int = unless_placed (result_fault at by aggs) _ (results_placed at by aggs) (at_place tt)
  of shapes.Bool = unless_placed (result_fault at by aggs) _ (results_placed at by aggs) (at_place tt)
  of shapes.Text = unless_placed (result_fault at by aggs) _ (results_placed at by aggs) (at_place tt)
  of (shapes.Tuple s) = unless_placed (result_fault at by aggs) _ (results_placed at by aggs) (at_place tt)
  of (shapes.Rel s) = unless_placed (stranger_in s by) _ (stranger_placed s by) (unless_placed (stranger_in s (measured_words aggs)) _ (stranger_placed s (measured_words aggs)) (unless_placed (result_fault at by aggs) _ (results_placed at by aggs) (given_placed _ _ _ tt)))
  of shapes.Delta = unless_placed (result_fault at by aggs) _ (results_placed at by aggs) (at_place tt)

-- ---- measures and deltas

pub test_placed : (test : Test) (at : ℕ) (v : Typing) → IsPlaced (test_row test at v)
test_placed tests.Count at v = given_placed _ _ _ tt
test_placed tests.Empty at v = given_placed _ _ _ tt
test_placed tests.IsFail at v = given_placed _ _ _ tt

pub fold_placed : (f : Fold) (at : ℕ) (w : Word) (v : Typing) → IsPlaced (fold_row f at w v)
fold_placed f at w v = by v.type where
  attribute : (f : Fold) (s : List Attr) (o : Option ℕ) → IsPlaced (fold_at f at v.core s w.at o)
  attribute Sum s None = at_place tt
  attribute Least s None = at_place tt
  attribute Greatest s None = at_place tt
  attribute Sum s (Some i) = given_placed _ _ _ tt
  attribute Least s (Some i) = fine
  attribute Greatest s (Some i) = fine

  by : (t : Shape) → IsPlaced (fold_in f at w v.core t)
  by shapes.Int = at_place tt
  by shapes.Bool = at_place tt
  by shapes.Text = at_place tt
  by (shapes.Tuple s) = at_place tt
  by (shapes.Rel s) = attribute f s (place_named w.name s)
  by shapes.Delta = at_place tt

pub bulk_placed : (g : Env) (sign : Sign) (w : Word) (at : ℕ) (v : Typing) → IsPlaced (bulk_row g sign w at v)
bulk_placed g sign w at v = by (relation_named w.name g.relations) where
  by : (o : Option ℕ) → IsPlaced (bulk_of g sign w at v o)
  by None = at_place tt
  by (Some r) = given_placed _ _ _ tt

pub part_placed : (g : Env) (sign : Sign) (w : Word) (at : ℕ) (v : Typing) → IsPlaced (part_row g sign w at v)
part_placed g sign w at v = by (relation_named w.name g.relations) where
  by : (o : Option ℕ) → IsPlaced (part_of g sign w at v o)
  by None = at_place tt
  by (Some r) = given_placed _ _ _ tt

-- ---- types as written

pub fields_placed : (seen : List Attr) (fs : List Field) → IsPlaced (fields_row seen fs)
fields_placed seen [] = fine
fields_placed seen (f ∷ fs) =
    then_placed (field_row seen f) (λ a. fields_row (seen ++ a ∷ []) fs) (cond_placed (holds (names_of seen) f.name.name) (Err (Repeated f.name.at)) _ (at_place tt) (cond_placed (nat_lt (length seen) 16) _ _ fine (at_place tt)))
    (λ a. fields_placed (seen ++ a ∷ []) fs)

schema_placed : (rels : List RelDecl) (s : Schema_phrase) → IsPlaced (schema_row rels s)
schema_placed rels (of_relation w) = by (relation_named w.name rels) where
  by : (o : Option ℕ) → IsPlaced (named_schema rels w.at o)
  by None = at_place tt
  by (Some r) = fine
schema_placed rels (written fields) = fields_placed [] fields

shape_placed : (as_shape : List Attr → Shape) (r : Result (List Attr) TypeFault) → IsPlaced r → IsPlaced (shape_with as_shape r)
shape_placed as_shape (Ok s) p = fine
shape_placed as_shape (Err f) p = at_place (place_of p)

pub type_placed : (rels : List RelDecl) (t : Type_phrase) → IsPlaced (type_row rels t)
type_placed rels (of_kind k) = fine
type_placed rels delta_type = fine
type_placed rels (rel_type s) = shape_placed (λ s. shapes.Rel s) (schema_row rels s) (schema_placed rels s)
type_placed rels (tuple_type s) = shape_placed (λ s. shapes.Tuple s) (schema_row rels s) (schema_placed rels s)

-- ---- statements

pub declare_placed : (g : Env) (ls : List Local) (w : Word) (n : ℕ) (t : Shape) (v : Typing) → IsPlaced (declare_row g ls w n t v)
declare_placed g ls w n t v = then_placed (declare_local g ls w n t v.type) _ (cond_placed (is_taken g ls w.name) (Err (Repeated w.at)) _ (at_place tt) (given_placed _ _ _ tt)) (λ l. fine)

pub assign_placed : (ls : List Local) (w : Word) (v : Typing) → IsPlaced (assign_row ls w v)
assign_placed ls w v = by (local_named w.name ls) where
  by : (o : Option Local) → IsPlaced (assigned w v o)
  by None = at_place tt
  by (Some l) = given_placed _ _ _ tt

pub perform_placed : (g : Env) (func : Bool) (w : Word) (vs : List Typing) → IsPlaced (perform_row g func w vs)
perform_placed g func w vs = by (proc_named w.name g.procs) where
  by : (o : Option ProcSig) → IsPlaced (performed g func w vs o)
  by None = cond_placed _ _ _ (at_place tt) (at_place tt)
  by (Some p) = cond_placed func (Err (Impure w.at)) _ (at_place tt) (given_placed _ _ _ tt)

pub cond_row_placed : (at : ℕ) (v : Typing) → IsPlaced (cond_row at v)
cond_row_placed at v = given_placed _ _ _ tt

pub effect_placed : (func : Bool) (at : ℕ) (c : Command) → IsPlaced (effect_row func at c)
effect_placed true at c = at_place tt
effect_placed false at c = fine

pub apply_placed : (func : Bool) (at : ℕ) (v : Typing) → IsPlaced (apply_row func at v)
apply_placed true at v = at_place tt
apply_placed false at v = given_placed _ _ _ tt

pub assert_placed : (at : ℕ) (v : Typing) → IsPlaced (assert_row at v)
assert_placed at v = given_placed _ _ _ tt

pub return_placed : (result : Option Shape) (at : ℕ) → IsPlaced (return_row result at)
return_placed None at = fine
return_placed (Some t) at = at_place tt

pub return_value_placed : (result : Option Shape) (at : ℕ) (v : Typing) → IsPlaced (return_value_row result at v)
return_value_placed None at v = at_place tt
return_value_placed (Some t) at v = given_placed _ _ _ tt
