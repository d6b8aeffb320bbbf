-- Code and its notes in a file.
use Rattle.std.proofs.Common.{◌≡◌, ◌∙◌, ℕ, suc, List, [], ◌∷◌, length, map, Some, refl, sym, ap, subst, arith}
use Rattle.std.specs.List.{slice_get, AllByRecursion}
use Rattle.std.proofs.lemmas.List.{length-map}
use Rattle.hera_meaning.specs.declared.schemas.RelDecl.{RelDecl}
use Rattle.hera_code.specs.declared.instrs.BodyInfo.{BodyInfo}
use Rattle.hera_code.specs.declared.instrs.Code.{Code}
use Rattle.hera_code_file.specs.Files.{file_body, file_bodies, file_of, AreNoted}
use Rattle.hera_code_file.specs.Fitting.{IsWord, Each}
use Rattle.hera_code_writer.specs.Writable.{BodyStands}
use Rattle.hera_typed.specs.declared.notes.BodyNote.{BodyNote}
use Rattle.hera_typed.specs.declared.notes.Notes.{Notes}
use Rattle.hera_typed.specs.Effects.{Body_note}
use Rattle.hera_typed.specs.Notes.{slot_note, body_note, notes_of}
use Rattle.hera_typed.specs.Typed.{NotesFit}
use Rattle.hera_packed.specs.Packed.{info_in, code_in, note_in, notes_in}
use Rattle.hera_packed.specs.Writing.{NoteStands}

-- notes that fit are one for each body, with as many slots
are_noted : (bs : List BodyInfo) (ns : List BodyNote) → length (map body_note ns) ≡ length bs
    → ((k : ℕ) (b : BodyInfo) (n : Body_note) → slice_get bs k ≡ Some b → slice_get (map body_note ns) k ≡ Some n → length n.slots ≡ b.slots) → AreNoted bs ns
are_noted [] [] same slots = tt
are_noted [] (n ∷ ns) same slots = absurd (omega (arith, same))
are_noted (b ∷ bs) [] same slots = absurd (omega (arith, same))
are_noted (b ∷ bs) (n ∷ ns) same slots = (
  sym (length-map n.slots.items slot_note) ∙ slots 0 b (body_note n) refl refl,
  are_noted bs ns (omega (arith, same)) (λ k c m here there. slots (suc k) c m here there),
)

pub fit_noted : (code : Code) (notes : Notes) → NotesFit code (notes_of notes) → AreNoted code.bodies notes.bodies.items
fit_noted code notes fit = are_noted code.bodies notes.bodies.items fit.bodies fit.slots

-- what a file tells is what it was made of
infos_back : (bs : List BodyInfo) (ns : List BodyNote) → AreNoted bs ns → map info_in (file_bodies bs ns) ≡ bs
infos_back [] [] noted = refl
infos_back [] (n ∷ ns) noted = absurd noted
infos_back (b ∷ bs) [] noted = absurd noted
infos_back (b ∷ bs) (n ∷ ns) noted =
    let first : info_in (file_body b n) ≡ b = ap (λ (k : ℕ). record { at = b.at; params = b.params; slots = k; func = b.func }) noted.0 in
    ap (λ (x : BodyInfo). x ∷ map info_in (file_bodies bs ns)) first ∙ ap (λ (xs : List BodyInfo). b ∷ xs) (infos_back bs ns noted.1)

notes_back : (bs : List BodyInfo) (ns : List BodyNote) → AreNoted bs ns → map note_in (file_bodies bs ns) ≡ map body_note ns
notes_back [] [] noted = refl
notes_back [] (n ∷ ns) noted = absurd noted
notes_back (b ∷ bs) [] noted = absurd noted
notes_back (b ∷ bs) (n ∷ ns) noted = ap (λ (xs : List Body_note). body_note n ∷ xs) (notes_back bs ns noted.1)

pub code_back : (rels : List RelDecl) (code : Code) (notes : Notes) → AreNoted code.bodies notes.bodies.items → code_in (file_of rels code notes) ≡ code
code_back rels code notes noted = ap (λ (bs : List BodyInfo). record { instrs = code.instrs; bodies = bs }) (infos_back code.bodies notes.bodies.items noted)

pub noted_back : (rels : List RelDecl) (code : Code) (notes : Notes) → AreNoted code.bodies notes.bodies.items → notes_in (file_of rels code notes) ≡ notes_of notes
noted_back rels code notes noted = notes_back code.bodies notes.bodies.items noted

-- notes that can be written are bodies that can be
bodies_stand : (bs : List BodyInfo) (ns : List BodyNote) → AllByRecursion NoteStands ns → AllByRecursion BodyStands (file_bodies bs ns)
bodies_stand [] ns all = tt
bodies_stand (b ∷ bs) [] all = tt
bodies_stand (b ∷ bs) (n ∷ ns) all = (record { result = all.0.result; slots = all.0.slots }, bodies_stand bs ns all.1)

bodies_as_notes : (bs : List BodyInfo) (ns : List BodyNote) → AreNoted bs ns → length (file_bodies bs ns) ≡ length ns
bodies_as_notes [] [] noted = refl
bodies_as_notes [] (n ∷ ns) noted = absurd noted
bodies_as_notes (b ∷ bs) [] noted = absurd noted
bodies_as_notes (b ∷ bs) (n ∷ ns) noted = ap suc (bodies_as_notes bs ns noted.1)

pub each_stands : (bs : List BodyInfo) (ns : List BodyNote) → AreNoted bs ns → Each NoteStands ns → Each BodyStands (file_bodies bs ns)
each_stands bs ns noted each = (subst IsWord (sym (bodies_as_notes bs ns noted)) each.0, bodies_stand bs ns each.1)
