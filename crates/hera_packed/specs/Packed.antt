-- What the bytes of a code file tell, and which are a code file of a program.
use Rattle.std.specs.Prelude.{◌≡◌, ℕ, List, map, length}
use Rattle.hera_meaning.specs.declared.schemas.RelDecl.{RelDecl}
use Rattle.hera_meaning.specs.Hosts.{Hosts}
use Rattle.hera_meaning.specs.Shapes.{form_if}
use Rattle.hera_meaning.specs.Trees.{Program_tree}
use Rattle.hera_code.specs.declared.instrs.BodyInfo.{BodyInfo}
use Rattle.hera_code.specs.declared.instrs.Code.{Code}
use Rattle.hera_code.specs.Scheme.{code_of}
use Rattle.hera_code_file.specs.Printing.{File_body, File, file_bytes}
use Rattle.hera_code_file.specs.Fitting.{FileFits}
use Rattle.hera_typed.specs.Effects.{Body_note}
use Rattle.hera_typed.specs.Notes.{slot_note}
use Rattle.hera_verify.specs.Rejected.{IsVerified}

-- ---- what a file tells: code, and notes of it

abbrev pub info_in : File_body → BodyInfo
info_in b = record { at = b.at; params = b.params; slots = length b.slots; func = b.func }

abbrev pub code_in : File → Code
code_in f = record { instrs = f.instrs; bodies = map info_in f.bodies }

abbrev pub note_in : File_body → Body_note
note_in b = record { result = form_if b.result; slots = map slot_note b.slots }

abbrev pub notes_in : File → List Body_note
notes_in f = map note_in f.bodies

-- the bytes are those that are written of this file
pub record IsFileOf (bytes : List ℕ) (f : File) : Type 0 where
  pub fits : FileFits f
  pub text : bytes ≡ file_bytes f

-- ---- files of programs

-- a code file of a program: its relations and its code, with notes with which that is typed code
pub record IsPackOf (hosts : Hosts) (p : Program_tree) (bytes : List ℕ) : Type 0 where
  pub file : File
  pub is : IsFileOf bytes file
  pub relations : file.relations ≡ p.relations
  pub code : code_in file ≡ code_of p
  pub typed : IsVerified (code_in file) file.relations hosts (notes_in file)

-- the bytes are a code file of verified code over these relations, with these notes
pub record IsOpened (hosts : Hosts) (bytes : List ℕ) (rels : List RelDecl) (code : Code) (notes : List Body_note) : Type 0 where
  pub file : File
  pub is : IsFileOf bytes file
  pub relations : file.relations ≡ rels
  pub code_is : code_in file ≡ code
  pub notes_are : notes_in file ≡ notes
  pub verified : IsVerified (code_in file) file.relations hosts (notes_in file)
