-- Notes that were read fit the code; and what the answer says of a run.
use Rattle.std.proofs.Common.{◌≡◌, ◌<◌, ℕ, zero, suc, true, List, [], ◌∷◌, map, length, Some, refl, sym, ap, ◌∙◌, arith}
use Rattle.std.specs.Prelude.{slice_get, slice_index_or, All}
use Rattle.std.proofs.lemmas.Option.{none-some, same_Some}
use Rattle.hera_meaning.specs.declared.schemas.RelDecl.{RelDecl}
use Rattle.hera_meaning.specs.declared.hosts.HostSpec.{HostSpec}
use Rattle.hera_meaning.specs.Hosts.{Hosts}
use Rattle.hera_meaning.specs.Sound.{is_spec}
use Rattle.hera_host.specs.Tables.{Host, specs_of, AreHosts}
use Rattle.hera_code.specs.declared.instrs.BodyInfo.{BodyInfo}
use Rattle.hera_code.specs.declared.instrs.Code.{Code}
use Rattle.hera_typed.specs.declared.notes.BodyNote.{BodyNote}
use Rattle.hera_typed.specs.declared.notes.Notes.{Notes}
use Rattle.hera_typed.specs.Effects.{Body_note}
use Rattle.hera_typed.specs.Notes.{slot_note, body_note, notes_of}
use Rattle.hera_typed.specs.Typed.{Points, IsTypedTo, NotesFit}
use Rattle.hera_code_file.specs.Files.{AreNoted}
use Rattle.hera_verify.specs.Rejected.{IsRejectedAt}

long_map : {A B : Type 0} (f : A → B) (xs : List A) → length (map f xs) ≡ length xs
long_map f [] = refl
long_map f (x ∷ xs) = ap suc (long_map f xs)

pub noted_few : (bs : List BodyInfo) (ns : List BodyNote) → AreNoted bs ns → length ns ≡ length bs
noted_few [] [] h = refl
noted_few [] (n ∷ ns) h = absurd h
noted_few (b ∷ bs) [] h = absurd h
noted_few (b ∷ bs) (n ∷ ns) h = ap suc (noted_few bs ns h.1)

noted_slots : (bs : List BodyInfo) (ns : List BodyNote) (k : ℕ) (b : BodyInfo) (n : Body_note) → AreNoted bs ns → slice_get bs k ≡ Some b → slice_get (map body_note ns) k ≡ Some n → length n.slots ≡ b.slots
noted_slots [] ns k b n h at there = absurd (none-some b at)
noted_slots (c ∷ bs) [] k b n h at there = absurd h
noted_slots (c ∷ bs) (m ∷ ns) zero b n h at there =
    sym (ap (λ (x : Body_note). length x.slots) (same_Some (body_note m) n there)) ∙ long_map slot_note m.slots.items ∙ h.0 ∙ ap (λ (x : BodyInfo). x.slots) (same_Some c b at)
noted_slots (c ∷ bs) (m ∷ ns) (suc k) b n h at there = noted_slots bs ns k b n h.1 at there

pub noted_fit : (code : Code) (notes : Notes) → AreNoted code.bodies notes.bodies.items → NotesFit code (notes_of notes)
noted_fit code notes h = record {
  bodies = long_map body_note notes.bodies.items ∙ noted_few code.bodies notes.bodies.items h;
  slots = λ k b n at there. noted_slots code.bodies notes.bodies.items k b n h at there;
}

specs_at : (table : List Host) → ((k : ℕ) (d : Host) → k < length table → is_spec (slice_index_or table k d).spec ≡ true) → (k : ℕ) (d : HostSpec) → k < length (specs_of table) → is_spec (slice_index_or (specs_of table) k d) ≡ true
specs_at [] h k d lt = absurd (omega (arith, lt))
specs_at (x ∷ table) h zero d lt = h 0 x (omega arith)
specs_at (x ∷ table) h (suc k) d lt = specs_at table (λ j e less. h (suc j) e (omega (arith, less))) k d (omega (arith, lt))

pub specs_good : (table : List Host) → AreHosts table → All (λ spec. is_spec spec ≡ true) (specs_of table)
specs_good table h = specs_at table h

-- code without instructions, or without bodies, is rejected at its first address
module _ (code : Code) (rels : List RelDecl) (hosts : Hosts) (notes : List Body_note) where
  pub rejected_first : ((P : Points) → IsTypedTo code rels hosts notes P 0 → ⊥) → IsRejectedAt code rels hosts notes 0
  rejected_first h = record { breaks = h; met = λ n lt. absurd (omega (arith, lt)) }

  pub no_instrs : length code.instrs ≡ 0 → IsRejectedAt code rels hosts notes 0
  no_instrs e = rejected_first (λ P h. let some = h.some_instr in omega (arith, some, e))

  pub no_bodies : length code.bodies ≡ 0 → IsRejectedAt code rels hosts notes 0
  no_bodies e = rejected_first (λ P h. let some = h.some_body in omega (arith, some, e))
