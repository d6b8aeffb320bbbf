-- What has a text: every number fits its bytes, every schema is one, and every name has an identifier's shape.
use Rattle.std.specs.Prelude.{◌≡◌, ◌<◌, ◌^◌, ℕ, true, List, length, All, IfSome}
use Rattle.std.specs.List.{AllByRecursion}
use Rattle.hera_meaning.specs.declared.scalars.RelId.{RelId}
use Rattle.hera_meaning.specs.declared.schemas.Attr.{Attr}
use Rattle.hera_meaning.specs.declared.schemas.Agg.{Agg}
use Rattle.hera_meaning.specs.declared.schemas.Agg.TheVariants as aggs
use Rattle.hera_meaning.specs.declared.trees.Shape.{Shape}
use Rattle.hera_meaning.specs.declared.trees.Shape.TheVariants as shapes
use Rattle.hera_meaning.specs.declared.trees.Const.{Const}
use Rattle.hera_meaning.specs.declared.trees.Const.TheVariants as consts
use Rattle.hera_meaning.specs.declared.trees.Op.{Op}
use Rattle.hera_meaning.specs.declared.trees.Op.TheVariants as ops
use Rattle.hera_meaning.specs.Identifiers.{IsIdentifier}
use Rattle.hera_meaning.specs.Schemas.{IsSchema, names_of}
use Rattle.hera_meaning.specs.Catalogues.{IsCatalogue}
use Rattle.hera_meaning.specs.Scalars.{is_scalar}
use Rattle.hera_code.specs.declared.instrs.Instr.{Instr}
use Rattle.hera_code.specs.declared.instrs.Instr.TheVariants as instrs
use Rattle.hera_typed.specs.declared.notes.SlotNote.{SlotNote}
use Rattle.hera_code_file.specs.Printing.{File_body, File}

-- it has four bytes
abbrev pub IsWord : ℕ → Type 0
IsWord n = n < 2 ^ 32

abbrev pub IsRelation : RelId → Type 0
IsRelation r = r.0 < 2 ^ 16

-- few enough to be counted, and each fits
abbrev pub Each : {A : Type 0} → (A → Type 0) → List A → Type 0
Each Fits xs = IsWord (length xs) × AllByRecursion Fits xs

-- a schema whose names have an identifier's shape
pub record IsNamed (schema : List Attr) : Type 0 where
  pub schema_is : IsSchema schema
  pub names : All IsIdentifier (names_of schema)

abbrev pub ShapeFits : Shape → Type 0
ShapeFits (shapes.Tuple schema) = IsNamed schema
ShapeFits (shapes.Rel schema) = IsNamed schema
ShapeFits _ = Unit {0}

abbrev pub ConstFits : Const → Type 0
ConstFits (consts.Scalar s) = is_scalar s ≡ true
ConstFits _ = Unit {0}

abbrev pub AggFits : Agg → Type 0
AggFits aggs.Count = Unit {0}
AggFits (aggs.Sum i) = IsWord i
AggFits (aggs.Min i) = IsWord i
AggFits (aggs.Max i) = IsWord i

abbrev pub OpFits : Op → Type 0
OpFits (ops.Field schema i) = IsNamed schema × IsWord i
OpFits (ops.MakeRow schema) = IsNamed schema
OpFits (ops.MakeRel n) = IsWord n
OpFits (ops.Project schema places) = IsNamed schema × Each IsWord places
OpFits (ops.Join left right) = IsNamed left × IsNamed right
OpFits (ops.Group schema by aggs) = IsNamed schema × Each IsWord by × Each AggFits aggs
OpFits (ops.Sum schema i) = IsNamed schema × IsWord i
OpFits (ops.Min schema i) = IsNamed schema × IsWord i
OpFits (ops.Max schema i) = IsNamed schema × IsWord i
OpFits (ops.Atom sign r) = IsRelation r
OpFits (ops.Bulk sign r) = IsRelation r
OpFits (ops.Ins r) = IsRelation r
OpFits (ops.Del r) = IsRelation r
OpFits _ = Unit {0}

abbrev pub InstrFits : Instr → Type 0
InstrFits (instrs.Push c) = ConstFits c
InstrFits (instrs.Load i) = IsWord i
InstrFits (instrs.Store i) = IsWord i
InstrFits (instrs.Rel r) = IsRelation r
InstrFits (instrs.Prim op at) = OpFits op × IsWord at
InstrFits (instrs.Host h) = IsWord h
InstrFits (instrs.Jump a) = IsWord a
InstrFits (instrs.Unless a) = IsWord a
InstrFits (instrs.Back a) = IsWord a
InstrFits (instrs.Enter at) = IsWord at
InstrFits (instrs.Next i a) = IsWord i × IsWord a
InstrFits (instrs.Call k) = IsWord k
InstrFits (instrs.Print shape) = ShapeFits shape
InstrFits (instrs.Apply at) = IsWord at
InstrFits (instrs.Assert at) = IsWord at
InstrFits _ = Unit {0}

pub record SlotFits (s : SlotNote) : Type 0 where
  pub shape : ShapeFits s.shape
  pub from : IsWord s.from
  pub to : IsWord s.to
  pub gathers : IfSome s.gathers IsNamed

pub record BodyFits (b : File_body) : Type 0 where
  pub at : IsWord b.at
  pub params : IsWord b.params
  pub result : IfSome b.result ShapeFits
  pub slots : Each SlotFits b.slots

pub record FileFits (f : File) : Type 0 where
  pub relations : IsCatalogue f.relations
  pub bodies : Each BodyFits f.bodies
  pub instrs : Each InstrFits f.instrs
