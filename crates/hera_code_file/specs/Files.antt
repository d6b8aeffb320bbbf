-- Code files as plain values.
use Rattle.std.specs.Prelude.{◌≡◌, ◌-◌, ℕ, List, [], ◌∷◌, Result, Ok, Err, length}
use Rattle.hera_meaning.specs.declared.schemas.RelDecl.{RelDecl}
use Rattle.hera_code.specs.declared.instrs.BodyInfo.{BodyInfo}
use Rattle.hera_code.specs.declared.instrs.Code.{Code}
use Rattle.hera_typed.specs.declared.notes.BodyNote.{BodyNote}
use Rattle.hera_typed.specs.declared.notes.Notes.{Notes}
use Rattle.hera_code_file.specs.declared.file.CodeFile.{CodeFile}
use Rattle.hera_code_file.specs.declared.file.CodeFault.{CodeFault}
use Rattle.hera_code_file.specs.declared.file.CodeFault.TheVariants.{BadCode, Memory}
use Rattle.hera_code_file.specs.Printing.{File_body, File}
use Rattle.hera_code_file.specs.Reading.{file_at}

-- a body and its note
abbrev pub file_body : BodyInfo → BodyNote → File_body
file_body b n = record { at = b.at; params = b.params; func = b.func; result = n.result; slots = n.slots.items }

abbrev pub file_bodies : List BodyInfo → List BodyNote → List File_body
file_bodies (b ∷ bs) (n ∷ ns) = file_body b n ∷ file_bodies bs ns
file_bodies _ _ = []

-- what the file of code and its notes tells
abbrev pub file_of : List RelDecl → Code → Notes → File
file_of rels code notes = record { relations = rels; bodies = file_bodies code.bodies notes.bodies.items; instrs = code.instrs }

-- a note for each body, with as many slots as the body has
abbrev pub AreNoted : List BodyInfo → List BodyNote → Type 0
AreNoted [] [] = Unit {0}
AreNoted (b ∷ bs) (n ∷ ns) = (length n.slots.items ≡ b.slots) × AreNoted bs ns
AreNoted _ _ = ⊥

-- this file was read, or memory ran out
abbrev pub Reads : File → Result CodeFile CodeFault → Type 0
Reads f (Ok read) = file_of read.relations.items read.code read.notes ≡ f
Reads f (Err (BadCode at)) = ⊥
Reads f (Err Memory) = Unit {0}

-- the first field that breaks its rule begins here, or the first byte behind the last instruction stands here
pub record IsBadAt (bytes : List ℕ) (at : ℕ) : Type 0 where
  pub left : ℕ
  pub breaks : file_at bytes ≡ Err left
  pub here : at ≡ length bytes - left
