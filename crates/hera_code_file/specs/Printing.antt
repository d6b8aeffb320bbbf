-- The bytes of a code file, part by part. Numbers are big-endian.
use Rattle.std.specs.Prelude.{ℕ, Bool, cond, List, [], ◌∷◌, ◌++◌, Option, None, Some, length}
use Rattle.std.specs.List.{flat_map}
use Rattle.std.specs.Int.{to_be_bytes, w16, w32, w64}
use Rattle.hera_meaning.specs.declared.scalars.RelId.{RelId}
use Rattle.hera_meaning.specs.declared.scalars.Sign.{Sign}
use Rattle.hera_meaning.specs.declared.scalars.Sign.TheVariants.{Plus, Minus}
use Rattle.hera_meaning.specs.declared.scalars.Scalar.{Scalar}
use Rattle.hera_meaning.specs.declared.scalars.Scalar.TheVariants as scalars
use Rattle.hera_meaning.specs.declared.schemas.Attr.{Attr}
use Rattle.hera_meaning.specs.declared.schemas.RelDecl.{RelDecl}
use Rattle.hera_meaning.specs.declared.schemas.Agg.{Agg}
use Rattle.hera_meaning.specs.declared.schemas.Agg.TheVariants as aggs
use Rattle.hera_meaning.specs.declared.trees.Shape.{Shape}
use Rattle.hera_meaning.specs.declared.trees.Shape.TheVariants as shapes
use Rattle.hera_meaning.specs.declared.trees.Const.{Const}
use Rattle.hera_meaning.specs.declared.trees.Const.TheVariants as consts
use Rattle.hera_meaning.specs.declared.trees.Op.{Op}
use Rattle.hera_meaning.specs.declared.trees.Op.TheVariants as ops
use Rattle.hera_meaning.specs.Rows.{shifted}
use Rattle.hera_code.specs.declared.instrs.Instr.{Instr}
use Rattle.hera_code.specs.declared.instrs.Instr.TheVariants as instrs
use Rattle.hera_typed.specs.declared.notes.SlotNote.{SlotNote}
use Rattle.rel_format.specs.Pages.{attr_bytes, decl_bytes}

-- ---- parts

-- four bytes
abbrev pub word : ℕ → List ℕ
word n = to_be_bytes w32 n

-- a byte, 1 for true
abbrev pub flag : Bool → List ℕ
flag b = cond b 1 0 ∷ []

-- a count of four bytes, and the members
abbrev pub list_bytes : {A : Type 0} → (A → List ℕ) → List A → List ℕ
list_bytes bytes xs = word (length xs) ++ flat_map bytes xs

-- 0, or 1 and what is there
abbrev pub option_bytes : {A : Type 0} → (A → List ℕ) → Option A → List ℕ
option_bytes bytes None = 0 ∷ []
option_bytes bytes (Some x) = 1 ∷ bytes x

-- a number of attributes, and each with its name's length, its name and its kind
abbrev pub schema_bytes : List Attr → List ℕ
schema_bytes schema = length schema ∷ flat_map attr_bytes schema

abbrev pub shape_bytes : Shape → List ℕ
shape_bytes shapes.Int = 0 ∷ []
shape_bytes shapes.Bool = 1 ∷ []
shape_bytes shapes.Text = 2 ∷ []
shape_bytes (shapes.Tuple schema) = 3 ∷ schema_bytes schema
shape_bytes (shapes.Rel schema) = 4 ∷ schema_bytes schema
shape_bytes shapes.Delta = 5 ∷ []

abbrev pub scalar_bytes : Scalar → List ℕ
scalar_bytes (scalars.Int v) = 0 ∷ to_be_bytes w64 (shifted v)
scalar_bytes (scalars.Bool b) = 1 ∷ flag b
scalar_bytes (scalars.Text t) = 2 ∷ to_be_bytes w16 (length t) ++ t

abbrev pub const_bytes : Const → List ℕ
const_bytes (consts.Scalar s) = scalar_bytes s
const_bytes consts.EmptyDelta = 3 ∷ []
const_bytes consts.FailDelta = 4 ∷ []

abbrev pub sign_bytes : Sign → List ℕ
sign_bytes Plus = 1 ∷ []
sign_bytes Minus = 2 ∷ []

abbrev pub relation_bytes : RelId → List ℕ
relation_bytes r = to_be_bytes w16 r.0

abbrev pub agg_bytes : Agg → List ℕ
agg_bytes aggs.Count = 0 ∷ []
agg_bytes (aggs.Sum i) = 1 ∷ word i
agg_bytes (aggs.Min i) = 2 ∷ word i
agg_bytes (aggs.Max i) = 3 ∷ word i

-- ---- operations and instructions

abbrev pub op_bytes : Op → List ℕ
op_bytes ops.Neg = 0 ∷ []
op_bytes ops.Not = 1 ∷ []
op_bytes ops.Add = 2 ∷ []
op_bytes ops.Sub = 3 ∷ []
op_bytes ops.Mul = 4 ∷ []
op_bytes ops.Div = 5 ∷ []
op_bytes ops.Rem = 6 ∷ []
op_bytes ops.Eq = 7 ∷ []
op_bytes ops.Ne = 8 ∷ []
op_bytes ops.Lt = 9 ∷ []
op_bytes ops.Le = 10 ∷ []
op_bytes ops.Gt = 11 ∷ []
op_bytes ops.Ge = 12 ∷ []
op_bytes ops.In = 13 ∷ []
op_bytes (ops.Field schema i) = 14 ∷ schema_bytes schema ++ word i
op_bytes (ops.MakeRow schema) = 15 ∷ schema_bytes schema
op_bytes (ops.MakeRel n) = 16 ∷ word n
op_bytes (ops.Project schema places) = 17 ∷ schema_bytes schema ++ list_bytes word places
op_bytes ops.Union = 18 ∷ []
op_bytes ops.Minus = 19 ∷ []
op_bytes ops.Inter = 20 ∷ []
op_bytes (ops.Join left right) = 21 ∷ schema_bytes left ++ schema_bytes right
op_bytes (ops.Group schema by aggs) = 22 ∷ schema_bytes schema ++ (list_bytes word by ++ list_bytes agg_bytes aggs)
op_bytes ops.Count = 23 ∷ []
op_bytes ops.Empty = 24 ∷ []
op_bytes (ops.Sum schema i) = 25 ∷ schema_bytes schema ++ word i
op_bytes (ops.Min schema i) = 26 ∷ schema_bytes schema ++ word i
op_bytes (ops.Max schema i) = 27 ∷ schema_bytes schema ++ word i
op_bytes (ops.Atom sign r) = 28 ∷ sign_bytes sign ++ relation_bytes r
op_bytes (ops.Bulk sign r) = 29 ∷ sign_bytes sign ++ relation_bytes r
op_bytes (ops.Ins r) = 30 ∷ relation_bytes r
op_bytes (ops.Del r) = 31 ∷ relation_bytes r
op_bytes ops.IsFail = 32 ∷ []
op_bytes ops.Smash = 33 ∷ []
op_bytes ops.Merge = 34 ∷ []

abbrev pub instr_bytes : Instr → List ℕ
instr_bytes (instrs.Push c) = 0 ∷ const_bytes c
instr_bytes (instrs.Load i) = 1 ∷ word i
instr_bytes (instrs.Store i) = 2 ∷ word i
instr_bytes (instrs.Rel r) = 3 ∷ relation_bytes r
instr_bytes (instrs.Prim op at) = 4 ∷ op_bytes op ++ word at
instr_bytes (instrs.Host h) = 5 ∷ word h
instr_bytes (instrs.Jump a) = 6 ∷ word a
instr_bytes (instrs.Unless a) = 7 ∷ word a
instr_bytes (instrs.Back a) = 8 ∷ word a
instr_bytes (instrs.Enter at) = 9 ∷ word at
instr_bytes instrs.Leave = 10 ∷ []
instr_bytes instrs.Walk = 11 ∷ []
instr_bytes (instrs.Next i a) = 12 ∷ word i ++ word a
instr_bytes instrs.Keep = 13 ∷ []
instr_bytes instrs.Gather = 14 ∷ []
instr_bytes instrs.Yield = 15 ∷ []
instr_bytes instrs.Drop = 16 ∷ []
instr_bytes (instrs.Call k) = 17 ∷ word k
instr_bytes instrs.Ret = 18 ∷ []
instr_bytes instrs.RetVal = 19 ∷ []
instr_bytes (instrs.Print shape) = 20 ∷ shape_bytes shape
instr_bytes (instrs.Apply at) = 21 ∷ word at
instr_bytes instrs.Commit = 22 ∷ []
instr_bytes instrs.Rollback = 23 ∷ []
instr_bytes (instrs.Assert at) = 24 ∷ word at
instr_bytes instrs.Halt = 25 ∷ []

-- ---- files

-- a slot: its shape, the addresses between which it is set, and what the walk into it gathers
abbrev pub slot_bytes : SlotNote → List ℕ
slot_bytes s = shape_bytes s.shape ++ (word s.from ++ (word s.to ++ option_bytes schema_bytes s.gathers))

-- a body with what is noted of it
pub record File_body : Type 0 where
  pub at : ℕ
  pub params : ℕ
  pub func : Bool
  pub result : Option Shape
  pub slots : List SlotNote

abbrev pub body_bytes : File_body → List ℕ
body_bytes b = word b.at ++ (word b.params ++ (flag b.func ++ (option_bytes shape_bytes b.result ++ list_bytes slot_bytes b.slots)))

-- what a file tells
pub record File : Type 0 where
  pub relations : List RelDecl
  pub bodies : List File_body
  pub instrs : List Instr

-- HERACODE
abbrev pub code_magic : List ℕ
code_magic = 72 ∷ 69 ∷ 82 ∷ 65 ∷ 67 ∷ 79 ∷ 68 ∷ 69 ∷ []

abbrev pub relations_bytes : List RelDecl → List ℕ
relations_bytes rels = to_be_bytes w16 (length rels) ++ flat_map decl_bytes rels

abbrev pub file_bytes : File → List ℕ
file_bytes f = code_magic ++ (relations_bytes f.relations ++ (list_bytes body_bytes f.bodies ++ list_bytes instr_bytes f.instrs))
