-- What a writer asks of a file: its relations are a catalogue, each name has an identifier's shape, and each place and
-- each length has four bytes. The other numbers fit their types anyway.
use Rattle.std.specs.Prelude.{List, All, IfSome}
use Rattle.hera_meaning.specs.declared.schemas.Attr.{Attr}
use Rattle.hera_meaning.specs.declared.trees.Shape.{Shape}
use Rattle.hera_meaning.specs.declared.trees.Shape.TheVariants as shapes
use Rattle.hera_meaning.specs.declared.trees.Op.{Op}
use Rattle.hera_meaning.specs.declared.trees.Op.TheVariants as ops
use Rattle.hera_meaning.specs.Identifiers.{IsIdentifier}
use Rattle.hera_meaning.specs.Schemas.{names_of}
use Rattle.hera_meaning.specs.Catalogues.{IsCatalogue}
use Rattle.hera_code.specs.declared.instrs.Instr.{Instr}
use Rattle.hera_code.specs.declared.instrs.Instr.TheVariants as instrs
use Rattle.hera_typed.specs.declared.notes.SlotNote.{SlotNote}
use Rattle.hera_code_file.specs.Printing.{File_body, File}
use Rattle.hera_code_file.specs.Fitting.{IsWord, Each, AggFits}

abbrev pub AreNames : List Attr → Type 0
AreNames schema = All IsIdentifier (names_of schema)

abbrev pub ShapeStands : Shape → Type 0
ShapeStands (shapes.Tuple schema) = AreNames schema
ShapeStands (shapes.Rel schema) = AreNames schema
ShapeStands _ = Unit {0}

abbrev pub OpStands : Op → Type 0
OpStands (ops.Field schema i) = AreNames schema × IsWord i
OpStands (ops.MakeRow schema) = AreNames schema
OpStands (ops.Project schema places) = AreNames schema × Each IsWord places
OpStands (ops.Join left right) = AreNames left × AreNames right
OpStands (ops.Group schema by aggs) = AreNames schema × Each IsWord by × Each AggFits aggs
OpStands (ops.Sum schema i) = AreNames schema × IsWord i
OpStands (ops.Min schema i) = AreNames schema × IsWord i
OpStands (ops.Max schema i) = AreNames schema × IsWord i
OpStands _ = Unit {0}

abbrev pub InstrStands : Instr → Type 0
InstrStands (instrs.Prim op at) = OpStands op
InstrStands (instrs.Print shape) = ShapeStands shape
InstrStands _ = Unit {0}

pub record SlotStands (s : SlotNote) : Type 0 where
  pub shape : ShapeStands s.shape
  pub gathers : IfSome s.gathers AreNames

pub record BodyStands (b : File_body) : Type 0 where
  pub result : IfSome b.result ShapeStands
  pub slots : Each SlotStands b.slots

pub record FileStands (f : File) : Type 0 where
  pub relations : IsCatalogue f.relations
  pub bodies : Each BodyStands f.bodies
  pub instrs : Each InstrStands f.instrs
