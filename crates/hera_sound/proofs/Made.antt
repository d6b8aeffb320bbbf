-- What a phrase keeps that stands for a syntax tree, and how many tokens it stands for at least.
use Rattle.std.specs.Prelude.{◌≡◌, ◌≤◌, ℕ, ◌+◌, Bool, true, false, List, [], ◌∷◌, length, All}
use Rattle.hera_meaning.specs.declared.trees.Op.{Op}
use Rattle.hera_meaning.specs.declared.trees.Op.TheVariants.{Add, Sub, Mul, Div, Rem, Eq, Ne, Lt, Le, Gt, Ge, Union, Minus, Inter, Smash, Merge}
use Rattle.hera_meaning.specs.Identifiers.{IsIdentifier}
use Rattle.hera_meaning.specs.Sound.{is_const, is_label}
use Rattle.hera_syntax.specs.Tokens.{script_limit}
use Rattle.hera_rules.specs.declared.words.Word.{Word}
use Rattle.hera_rules.specs.declared.words.Pair.{Pair}
use Rattle.hera_rules.specs.declared.words.Pair.TheVariants.{Sets, Join as as_join}
use Rattle.hera_rules.specs.declared.words.Joint.{Joint}
use Rattle.hera_rules.specs.declared.words.Joint.TheVariants.{When as by_when, And as by_and, Or as by_or, Arithmetic, Equality, Order, Deltas}
use Rattle.hera_rules.specs.Phrases.{Phrase, literal, named, calling, operation, prefixed, attribute, row, atom, atoms, line, lines, walking, projecting, renaming, pairing, grouping, testing, folding, bulk, part, Phrases, no_phrase, phrase, Uses, no_use, uses, Schema_phrase, of_relation, written, Type_phrase, kind_type, delta_type, rel_type, tuple_type, Act, declaring, assigning, performing, choosing, looping, visiting, printing, applying, asserting, committing, rolling_back, returning, returning_value, Acts, no_act, act, Branches, no_branch, branch, Relation_phrase, Param_phrase, Func_phrase, Proc_phrase, Script}
use Rattle.hera_sound.proofs.Schemas.{field_names}

-- ---- operations of a joint and of a pair

abbrev pub is_arithmetic : Op → Bool
is_arithmetic Add = true
is_arithmetic Sub = true
is_arithmetic Mul = true
is_arithmetic Div = true
is_arithmetic Rem = true
is_arithmetic _ = false

abbrev pub is_equality : Op → Bool
is_equality Eq = true
is_equality Ne = true
is_equality _ = false

abbrev pub is_order : Op → Bool
is_order Lt = true
is_order Le = true
is_order Gt = true
is_order Ge = true
is_order _ = false

abbrev pub is_of_deltas : Op → Bool
is_of_deltas Smash = true
is_of_deltas Merge = true
is_of_deltas _ = false

abbrev pub is_of_sets : Op → Bool
is_of_sets Union = true
is_of_sets Minus = true
is_of_sets Inter = true
is_of_sets _ = false

abbrev pub IsJoint : Joint → Type 0
IsJoint (Arithmetic op) = is_arithmetic op ≡ true
IsJoint (Equality op) = is_equality op ≡ true
IsJoint (Order op) = is_order op ≡ true
IsJoint (Deltas op) = is_of_deltas op ≡ true
IsJoint _ = Unit {0}

abbrev pub IsPair : Pair → Type 0
IsPair (Sets op) = is_of_sets op ≡ true
IsPair as_join = Unit {0}

-- the level of a joint: `when`, `&&`, `||`, or an operator with an operation
pub data Level : Type 0 where
  whens : Level
  ands : Level
  ors : Level
  chains : Level

abbrev pub level_of : Joint → Level
level_of by_when = whens
level_of by_and = ands
level_of by_or = ors
level_of _ = chains

-- ---- expressions

abbrev pub count_of : Phrases → ℕ
count_of no_phrase = 0
count_of (phrase p rest) = 1 + count_of rest

abbrev pub IsAtom : Phrase → Type 0
IsAtom (atom sign w args) = Unit {0}
IsAtom _ = ⊥

abbrev pub AreAtoms : Phrases → Type 0
AreAtoms no_phrase = Unit {0}
AreAtoms (phrase p rest) = IsAtom p × AreAtoms rest

abbrev pub IsLine : Word → Phrase → Type 0
IsLine w (line v at args) = v ≡ w
IsLine w _ = ⊥

abbrev pub AreLines : Word → Phrases → Type 0
AreLines w no_phrase = Unit {0}
AreLines w (phrase p rest) = IsLine w p × AreLines w rest

-- literals are constants, joints of a chain are of one level, and lists have the members that the grammar asks
abbrev mutual
  pub IsMade : Phrase → Type 0
  IsMade (literal c) = is_const c ≡ true
  IsMade (named w) = Unit {0}
  IsMade (calling w args) = AreMade args
  IsMade (operation first rest) = IsMade first × UsesAreMade rest × ((l : Level) × AreOfLevel l rest)
  IsMade (prefixed op at p) = IsMade p
  IsMade (attribute p w) = IsMade p
  IsMade (row at names values) = (1 ≤ length names) × (length names ≡ count_of values) × AreMade values
  IsMade (atom sign w args) = AreMade args
  IsMade (atoms at all) = AreAtoms all × AreMade all
  IsMade (line w at args) = AreMade args
  IsMade (lines w at all) = AreLines w all × AreMade all
  IsMade (walking walk at var of body) = IsMade of × IsMade body
  IsMade (projecting at p names) = (1 ≤ length names) × IsMade p
  IsMade (renaming at p names) = IsMade p
  IsMade (pairing pair at left right) = IsPair pair × IsMade left × IsMade right
  IsMade (grouping at p by aggs) = (1 ≤ length by) × IsMade p
  IsMade (testing test at p) = IsMade p
  IsMade (folding fold at p w) = IsMade p
  IsMade (bulk sign w at p) = IsMade p
  IsMade (part sign w at p) = IsMade p

  pub AreMade : Phrases → Type 0
  AreMade no_phrase = Unit {0}
  AreMade (phrase p rest) = IsMade p × AreMade rest

  pub UsesAreMade : Uses → Type 0
  UsesAreMade no_use = Unit {0}
  UsesAreMade (uses op at p rest) = IsJoint op × IsMade p × UsesAreMade rest

  pub AreOfLevel : Level → Uses → Type 0
  AreOfLevel l no_use = Unit {0}
  AreOfLevel l (uses op at p rest) = (level_of op ≡ l) × AreOfLevel l rest

-- each node stands for a token of its own
abbrev mutual
  pub nodes : Phrase → ℕ
  nodes (literal c) = 1
  nodes (named w) = 1
  nodes (calling w args) = 1 + nodes_all args
  nodes (operation first rest) = nodes first + nodes_uses rest
  nodes (prefixed op at p) = 1 + nodes p
  nodes (attribute p w) = 1 + nodes p
  nodes (row at names values) = 1 + nodes_all values
  nodes (atom sign w args) = 1 + nodes_all args
  nodes (atoms at all) = 1 + nodes_all all
  nodes (line w at args) = 1 + nodes_all args
  nodes (lines w at all) = 1 + nodes_all all
  nodes (walking walk at var of body) = 1 + nodes of + nodes body
  nodes (projecting at p names) = 1 + nodes p
  nodes (renaming at p names) = 1 + nodes p
  nodes (pairing pair at left right) = 1 + nodes left + nodes right
  nodes (grouping at p by aggs) = 1 + nodes p
  nodes (testing test at p) = 1 + nodes p
  nodes (folding fold at p w) = 1 + nodes p
  nodes (bulk sign w at p) = 1 + nodes p
  nodes (part sign w at p) = 1 + nodes p

  pub nodes_all : Phrases → ℕ
  nodes_all no_phrase = 0
  nodes_all (phrase p rest) = nodes p + nodes_all rest

  pub nodes_uses : Uses → ℕ
  nodes_uses no_use = 0
  nodes_uses (uses op at p rest) = 1 + nodes p + nodes_uses rest

-- ---- types and statements

-- a written schema has an attribute
abbrev pub SchemaIsMade : Schema_phrase → Type 0
SchemaIsMade (of_relation w) = Unit {0}
SchemaIsMade (written fields) = 1 ≤ length fields

abbrev pub TypeIsMade : Type_phrase → Type 0
TypeIsMade (kind_type k) = Unit {0}
TypeIsMade delta_type = Unit {0}
TypeIsMade (rel_type s) = SchemaIsMade s
TypeIsMade (tuple_type s) = SchemaIsMade s

abbrev mutual
  pub ActIsMade : Act → Type 0
  ActIsMade (declaring type w p) = TypeIsMade type × IsMade p
  ActIsMade (assigning w p) = IsMade p
  ActIsMade (performing w args) = AreMade args
  ActIsMade (choosing arms last) = BranchesAreMade arms × ActsAreMade last
  ActIsMade (looping at c block) = IsMade c × ActsAreMade block
  ActIsMade (visiting at var of block) = IsMade of × ActsAreMade block
  ActIsMade (printing at p) = IsMade p
  ActIsMade (applying at p) = IsMade p
  ActIsMade (asserting at p) = IsMade p
  ActIsMade (committing at label) = is_label label ≡ true
  ActIsMade (rolling_back at) = Unit {0}
  ActIsMade (returning at) = Unit {0}
  ActIsMade (returning_value at p) = IsMade p

  pub ActsAreMade : Acts → Type 0
  ActsAreMade no_act = Unit {0}
  ActsAreMade (act a rest) = ActIsMade a × ActsAreMade rest

  pub BranchesAreMade : Branches → Type 0
  BranchesAreMade no_branch = Unit {0}
  BranchesAreMade (branch at c block rest) = IsMade c × ActsAreMade block × BranchesAreMade rest

abbrev mutual
  pub act_nodes : Act → ℕ
  act_nodes (declaring type w p) = 1 + nodes p
  act_nodes (assigning w p) = 1 + nodes p
  act_nodes (performing w args) = 1 + nodes_all args
  act_nodes (choosing arms last) = branches_nodes arms + acts_nodes last
  act_nodes (looping at c block) = 1 + nodes c + acts_nodes block
  act_nodes (visiting at var of block) = 1 + nodes of + acts_nodes block
  act_nodes (printing at p) = 1 + nodes p
  act_nodes (applying at p) = 1 + nodes p
  act_nodes (asserting at p) = 1 + nodes p
  act_nodes (committing at label) = 1
  act_nodes (rolling_back at) = 1
  act_nodes (returning at) = 1
  act_nodes (returning_value at p) = 1 + nodes p

  pub acts_nodes : Acts → ℕ
  acts_nodes no_act = 0
  acts_nodes (act a rest) = act_nodes a + acts_nodes rest

  pub branches_nodes : Branches → ℕ
  branches_nodes no_branch = 0
  branches_nodes (branch at c block rest) = 1 + nodes c + acts_nodes block + branches_nodes rest

-- ---- scripts

pub record RelationIsMade (r : Relation_phrase) : Type 0 where
  pub some : 1 ≤ length r.attrs
  pub name : IsIdentifier r.name.name
  pub attrs : All IsIdentifier (field_names r.attrs)

abbrev pub RelationsAreMade : List Relation_phrase → Type 0
RelationsAreMade [] = Unit {0}
RelationsAreMade (r ∷ rs) = RelationIsMade r × RelationsAreMade rs

abbrev pub ParamsAreMade : List Param_phrase → Type 0
ParamsAreMade [] = Unit {0}
ParamsAreMade (p ∷ ps) = TypeIsMade p.type × ParamsAreMade ps

abbrev pub FuncsAreMade : List Func_phrase → Type 0
FuncsAreMade [] = Unit {0}
FuncsAreMade (f ∷ fs) = (TypeIsMade f.type × ParamsAreMade f.params × ActsAreMade f.block) × FuncsAreMade fs

abbrev pub ProcsAreMade : List Proc_phrase → Type 0
ProcsAreMade [] = Unit {0}
ProcsAreMade (p ∷ ps) = (ParamsAreMade p.params × ActsAreMade p.block) × ProcsAreMade ps

abbrev pub funcs_nodes : List Func_phrase → ℕ
funcs_nodes [] = 0
funcs_nodes (f ∷ fs) = 1 + acts_nodes f.block + funcs_nodes fs

abbrev pub procs_nodes : List Proc_phrase → ℕ
procs_nodes [] = 0
procs_nodes (p ∷ ps) = 1 + acts_nodes p.block + procs_nodes ps

-- a script of at most script_limit nodes, whose phrases are made as the grammar asks
pub record ScriptIsMade (s : Script) : Type 0 where
  pub relations : RelationsAreMade s.relations
  pub funcs : FuncsAreMade s.funcs
  pub procs : ProcsAreMade s.procs
  pub main : ActsAreMade s.main
  pub few : funcs_nodes s.funcs + procs_nodes s.procs + acts_nodes s.main ≤ script_limit
