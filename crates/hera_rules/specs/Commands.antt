-- The rows of the table of typing for types as written and for statements.
use Rattle.std.specs.Prelude.{ℕ, Bool, true, false, cond, List, [], ◌∷◌, ◌++◌, length, Option, Some, None, Result, Ok, Err, ◌||◌, nat_lt, is_some}
use Rattle.hera_sets.specs.Rows.{holds}
use Rattle.hera_meaning.specs.declared.schemas.TheConstants.{ATTRS_LIMIT}
use Rattle.hera_meaning.specs.declared.schemas.Attr.{Attr}
use Rattle.hera_meaning.specs.declared.schemas.RelDecl.{RelDecl}
use Rattle.hera_meaning.specs.declared.trees.Shape.{Shape}
use Rattle.hera_meaning.specs.declared.trees.Shape.TheVariants.{Tuple as tuple, Rel as rel, Delta as delta}
use Rattle.hera_meaning.specs.Schemas.{names_of}
use Rattle.hera_meaning.specs.Deltas.{schema_of}
use Rattle.hera_meaning.specs.Trees.{Expr, Command, set_slot, print, apply, assert, return, return_value, call_proc, Block, no_stmt, then_stmt, Arms, no_arm, arm}
use Rattle.hera_host.specs.Tables.{host_named}
use Rattle.hera_rules.specs.declared.words.Word.{Word}
use Rattle.hera_rules.specs.declared.words.Field.{Field}
use Rattle.hera_rules.specs.declared.env.Local.{Local}
use Rattle.hera_rules.specs.declared.env.ProcSig.{ProcSig}
use Rattle.hera_rules.specs.declared.fault.TypeFault.{TypeFault}
use Rattle.hera_rules.specs.declared.fault.TypeFault.TheVariants.{Unknown as unknown, Repeated as repeated, Mismatch as mismatch, Impure as impure, TooMany as too_many}
use Rattle.hera_rules.specs.Environments.{Env, relation_named, proc_named, local_named, is_global, is_taken}
use Rattle.hera_rules.specs.Same.{same_shape, same_shapes}
use Rattle.hera_rules.specs.Phrases.{Schema_phrase, of_relation, written, Type_phrase, kind_type as of_kind, delta_type, rel_type, tuple_type}
use Rattle.hera_rules.specs.Checked.{and_then}
use Rattle.hera_rules.specs.Rules.{Typing, given, is_bool, is_delta, kind_type, types_of, params_of, exprs_from}

-- ---- types as written

abbrev pub named_schema : List RelDecl → ℕ → Option ℕ → Result (List Attr) TypeFault
named_schema rels at (Some r) = Ok (schema_of rels r)
named_schema rels at None = Err (unknown at)

-- an attribute behind these: a name that stands before, then the 17th
abbrev pub field_row : List Attr → Field → Result Attr TypeFault
field_row seen f = cond (holds (names_of seen) f.name.name) (Err (repeated f.name.at))
    (cond (nat_lt (length seen) ATTRS_LIMIT) (Ok (record { name = f.name.name; kind = f.kind })) (Err (too_many f.name.at)))

-- attributes behind these, each a check of its own
abbrev pub fields_row : List Attr → List Field → Result (List Attr) TypeFault
fields_row seen [] = Ok seen
fields_row seen (f ∷ fs) = and_then (field_row seen f) (λ a. fields_row (seen ++ a ∷ []) fs)

abbrev pub schema_row : List RelDecl → Schema_phrase → Result (List Attr) TypeFault
schema_row rels (of_relation w) = named_schema rels w.at (relation_named w.name rels)
schema_row rels (written fields) = fields_row [] fields

abbrev pub shape_with : (List Attr → Shape) → Result (List Attr) TypeFault → Result Shape TypeFault
shape_with as_shape (Ok s) = Ok (as_shape s)
shape_with as_shape (Err f) = Err f

abbrev pub type_row : List RelDecl → Type_phrase → Result Shape TypeFault
type_row rels (of_kind k) = Ok (kind_type k)
type_row rels delta_type = Ok delta
type_row rels (rel_type s) = shape_with (λ s. rel s) (schema_row rels s)
type_row rels (tuple_type s) = shape_with (λ s. tuple s) (schema_row rels s)

-- ---- statements

-- a statement's core, and the locals that are visible behind it
pub record Done : Type 0 where
  pub locals : List Local
  pub core : Command

abbrev pub done : List Local → Command → Done
done ls c = record { locals = ls; core = c }

-- a condition and its block
pub record Armed : Type 0 where
  pub cond : Expr
  pub block : List Command

abbrev pub block_from : List Command → Block
block_from [] = no_stmt
block_from (c ∷ cs) = then_stmt c (block_from cs)

abbrev pub arms_from : List Armed → Arms
arms_from [] = no_arm
arms_from (a ∷ rest) = arm a.cond (block_from a.block) (arms_from rest)

-- the local of a declaration: a new name, a value of exactly the type
abbrev pub declare_local : Env → List Local → Word → ℕ → Shape → Shape → Result Local TypeFault
declare_local g ls w n t v = cond (is_taken g ls w.name) (Err (repeated w.at))
    (given (same_shape t v) (mismatch w.at) (record { name = w.name; slot = n; shape = t }))

abbrev pub declare_row : Env → List Local → Word → ℕ → Shape → Typing → Result Done TypeFault
declare_row g ls w n t v = and_then (declare_local g ls w n t v.type) (λ l. Ok (done (ls ++ l ∷ []) (set_slot n v.core)))

abbrev pub assigned : Word → Typing → Option Local → Result Command TypeFault
assigned w v None = Err (unknown w.at)
assigned w v (Some l) = given (same_shape l.shape v.type) (mismatch w.at) (set_slot l.slot v.core)

-- an assignment: a visible local, a value of exactly its type
abbrev pub assign_row : List Local → Word → Typing → Result Command TypeFault
assign_row ls w v = assigned w v (local_named w.name ls)

abbrev pub performed : Env → Bool → Word → List Typing → Option ProcSig → Result Command TypeFault
performed g func w vs (Some p) = cond func (Err (impure w.at)) (given (same_shapes (params_of p.params) (types_of vs)) (mismatch w.at) (call_proc p.number (exprs_from vs)))
performed g func w vs None = cond (is_global g w.name || is_some (host_named w.name g.hosts)) (Err (mismatch w.at)) (Err (unknown w.at))

-- a call statement: a proc, in no func, arguments of exactly its types
abbrev pub perform_row : Env → Bool → Word → List Typing → Result Command TypeFault
perform_row g func w vs = performed g func w vs (proc_named w.name g.procs)

-- a condition is a bool
abbrev pub cond_row : ℕ → Typing → Result Expr TypeFault
cond_row at v = given (is_bool v.type) (mismatch at) v.core

-- a func has no effect
abbrev pub effect_row : Bool → ℕ → Command → Result Command TypeFault
effect_row true at c = Err (impure at)
effect_row false at c = Ok c

abbrev pub print_row : Bool → ℕ → Typing → Result Command TypeFault
print_row func at v = effect_row func at (print v.core v.type)

abbrev pub apply_row : Bool → ℕ → Typing → Result Command TypeFault
apply_row true at v = Err (impure at)
apply_row false at v = given (is_delta v.type) (mismatch at) (apply v.core at)

abbrev pub assert_row : ℕ → Typing → Result Command TypeFault
assert_row at v = given (is_bool v.type) (mismatch at) (assert v.core at)

-- a `return`: in a func a value of its type, elsewhere none; result is what a func returns
abbrev pub return_row : (result : Option Shape) → ℕ → Result Command TypeFault
return_row None at = Ok return
return_row (Some t) at = Err (mismatch at)

abbrev pub return_value_row : (result : Option Shape) → ℕ → Typing → Result Command TypeFault
return_value_row None at v = Err (mismatch at)
return_value_row (Some t) at v = given (same_shape t v.type) (mismatch at) (return_value v.core)
