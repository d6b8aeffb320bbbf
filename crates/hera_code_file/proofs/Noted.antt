-- Bodies beside their notes.
use Rattle.std.proofs.Common.{◌≡◌, List, [], ◌∷◌, ◌++◌, length, refl, ap}
use Rattle.hera_code.specs.declared.instrs.BodyInfo.{BodyInfo}
use Rattle.hera_typed.specs.declared.notes.BodyNote.{BodyNote}
use Rattle.hera_code_file.specs.Printing.{File_body}
use Rattle.hera_code_file.specs.Files.{file_body, file_bodies, AreNoted}

pub noted_push : (bs : List BodyInfo) (ns : List BodyNote) (b : BodyInfo) (n : BodyNote) → AreNoted bs ns → length n.slots.items ≡ b.slots → AreNoted (bs ++ b ∷ []) (ns ++ n ∷ [])
noted_push [] [] b n h e = (e, tt)
noted_push [] (m ∷ ns) b n h e = absurd h
noted_push (c ∷ bs) [] b n h e = absurd h
noted_push (c ∷ bs) (m ∷ ns) b n h e = (h.0, noted_push bs ns b n h.1 e)

pub bodies_push : (bs : List BodyInfo) (ns : List BodyNote) (b : BodyInfo) (n : BodyNote) → AreNoted bs ns → file_bodies (bs ++ b ∷ []) (ns ++ n ∷ []) ≡ file_bodies bs ns ++ file_body b n ∷ []
bodies_push [] [] b n h = refl
bodies_push [] (m ∷ ns) b n h = absurd h
bodies_push (c ∷ bs) [] b n h = absurd h
bodies_push (c ∷ bs) (m ∷ ns) b n h = ap (λ (t : List File_body). file_body c m ∷ t) (bodies_push bs ns b n h.1)
