-- Shapes that typing finds have an entry for each slot, and so do the notes made with them.
use Rattle.std.proofs.Common.{◌≡◌, ℕ, zero, suc, List, [], ◌∷◌, ◌++◌, map, length, Option, Some, None, refl, sym, ap, ◌∙◌, subst, arith}
use Rattle.std.specs.Prelude.{slice_get}
use Rattle.std.proofs.lemmas.List.{length-map}
use Rattle.std.proofs.lemmas.Option.{slice_get_within}
use Rattle.hera_meaning.specs.declared.shapes.BodyShapes.{BodyShapes}
use Rattle.hera_meaning.specs.declared.trees.Shape.{Shape}
use Rattle.hera_meaning.specs.Forms.{form_of}
use Rattle.hera_meaning.specs.Hosts.{Hosts}
use Rattle.hera_meaning.specs.Shapes.{Body_types, body_types, body_shapes, forms_of, IsShaped}
use Rattle.hera_meaning.specs.Trees.{Body_tree, Program_tree}
use Rattle.hera_code.specs.declared.instrs.BodyInfo.{BodyInfo}
use Rattle.hera_code.specs.declared.instrs.Code.{Code}
use Rattle.hera_code.specs.Scheme.{code_of, info_of}
use Rattle.hera_codegen.proofs.Slots.{within_there}
use Rattle.hera_host.specs.Tables.{Host}
use Rattle.hera_rules.specs.declared.env.FuncSig.{FuncSig}
use Rattle.hera_rules.specs.declared.env.Local.{Local}
use Rattle.hera_rules.specs.declared.env.ProcSig.{ProcSig}
use Rattle.hera_rules.specs.Environments.{Env}
use Rattle.hera_rules.specs.Phrases.{Func_phrase, Proc_phrase, Script}
use Rattle.hera_rules.specs.Programs.{ElabFuncs, no_func_is, no_func_left, func_is, ElabProcs, no_proc_is, no_proc_left, proc_is, ElabScript, script_is}
use Rattle.hera_sound.specs.Types_found.{Slot, param_slots, slots_acts, types_with, func_types, proc_types, types_found}
use Rattle.hera_typed.specs.declared.notes.Notes.{Notes}
use Rattle.hera_typed.specs.Effects.{Body_note}
use Rattle.hera_typed.specs.Notes.{slot_note, body_note, notes_of}
use Rattle.hera_typed.specs.Typed.{NotesFit}
use Rattle.hera_typed.proofs.Asking.{some_is, none_is}
use Rattle.hera_noted.specs.Given.{HasBodies, AreGiven}
use Rattle.hera_noted.proofs.Bodies_found.{stretch}
use Rattle.hera_noted.proofs.Law.{get_mapped, mapped_from}
use Rattle.hera_noted.proofs.Told.{bodies_of}

-- ---- as many gathered schemas as slots

abbrev IsEven : Body_types → Type 0
IsEven t = length t.gathers ≡ length t.slots

abbrev AreEven : List Body_types → Type 0
AreEven ts = (k : ℕ) (t : Body_types) → slice_get ts k ≡ Some t → IsEven t

even_with : (params : List Local) (declared : List Slot) (result : Option Shape) → IsEven (types_with params declared result)
even_with params declared result =
    let ss = param_slots params ++ declared in
    length-map ss (λ s. s.gathers) ∙ sym (length-map ss (λ s. s.shape))

even_none : AreEven []
even_none k t e = none_is (IsEven t) t e

even_more : (t : Body_types) (ts : List Body_types) → IsEven t → AreEven ts → AreEven (t ∷ ts)
even_more t ts h rest zero u e = subst IsEven (some_is t u e) h
even_more t ts h rest (suc k) u e = rest k u e

even_both : (ts us : List Body_types) → AreEven ts → AreEven us → AreEven (ts ++ us)
even_both [] us h rest = rest
even_both (t ∷ ts) us h rest = even_more t (ts ++ us) (h 0 t refl) (even_both ts us (λ k u e. h (suc k) u e) rest)

even_funcs : {g : Env} {bodies all : List Body_tree} {sigs : List FuncSig} {fs : List Func_phrase} (e : ElabFuncs g bodies sigs fs all) → AreEven (func_types e)
even_funcs no_func_is = even_none
even_funcs no_func_left = even_none
even_funcs (func_is {sig = sig} e r rest) = even_more _ _ (even_with sig.params (slots_acts e) (Some sig.result)) (even_funcs rest)

even_procs : {g : Env} {bodies all : List Body_tree} {sigs : List ProcSig} {ps : List Proc_phrase} (e : ElabProcs g bodies sigs ps all) → AreEven (proc_types e)
even_procs no_proc_is = even_none
even_procs no_proc_left = even_none
even_procs (proc_is {sig = sig} e rest) = even_more _ _ (even_with sig.params (slots_acts e) None) (even_procs rest)

even_found : {hosts : List Host} {s : Script} {p : Program_tree} (typed : ElabScript hosts s p) → AreEven (types_found typed)
even_found (script_is env ef ep em) = even_more _ _ (even_with [] (slots_acts em) None) (even_both (func_types ef) (proc_types ep) (even_funcs ef) (even_procs ep))

-- ---- an entry for each body, and for each of its slots

pub has_bodies : (p : Program_tree) (hosts : Hosts) (shapes : List BodyShapes) {table : List Host} {s : Script} (typed : ElabScript table s p) → map body_types shapes ≡ types_found typed →
    IsShaped p hosts (map body_shapes shapes) → HasBodies p.bodies shapes
has_bodies p hosts shapes typed found is = record {
  many = sym (length-map (map body_shapes shapes) forms_of ∙ length-map shapes body_shapes) ∙ is.shaped.many;
  slots = λ k b s e f. record { shapes = own k b s e f; gathers = even k s f ∙ own k b s e f };
}
  where
    own : (k : ℕ) (b : Body_tree) (s : BodyShapes) → slice_get p.bodies k ≡ Some b → slice_get shapes k ≡ Some s → length s.slots.items ≡ b.slots
    own k b s e f =
        let body = is.shaped.bodies k b (forms_of (body_shapes s)) e (get_mapped forms_of (map body_shapes shapes) k (body_shapes s) (get_mapped body_shapes shapes k s f)) in
        sym (length-map s.slots.items form_of) ∙ body.slots

    even : (k : ℕ) (s : BodyShapes) → slice_get shapes k ≡ Some s → length s.gathers.items ≡ length s.slots.items
    even k s f = even_found typed k (body_types s) (ap (λ ts. slice_get ts k) (sym found) ∙ get_mapped body_types shapes k s f)

-- ---- notes with these shapes

pub notes_fit : (p : Program_tree) (code : Code) (shapes : List BodyShapes) (n : Notes) → code ≡ code_of p → HasBodies p.bodies shapes → AreGiven shapes n → NotesFit code (notes_of n)
notes_fit p code shapes n made has given = record {
  bodies = length-map n.bodies.items body_note ∙ given.many ∙ bodies_of p code shapes made has;
  slots = λ k b m e f. each k b m e f;
}
  where
    as_many : length n.bodies.items ≡ length shapes
    as_many = given.many

    trees : length shapes ≡ length p.bodies
    trees = has.many

    each : (k : ℕ) (b : BodyInfo) (m : Body_note) → slice_get code.bodies k ≡ Some b → slice_get (notes_of n) k ≡ Some m → length m.slots ≡ b.slots
    each k b m e f =
        let x = mapped_from body_note n.bodies.items k m f in
        let lt = slice_get_within n.bodies.items k x.0 x.1 in
        let s = within_there shapes k (omega (arith, lt, as_many)) in
        let tree = within_there p.bodies k (omega (arith, lt, as_many, trees)) in
        let there = stretch p.bodies k tree.0 tree.1 in
        let info : info_of tree.0 there.at ≡ b = some_is (info_of tree.0 there.at) b (sym there.info_is ∙ ap (λ (c : Code). slice_get c.bodies k) (sym made) ∙ e) in
        ap (λ (m : Body_note). length m.slots) (sym x.2) ∙ length-map x.0.slots.items slot_note ∙ (given.bodies k x.0 s.0 x.1 s.1).many
        ∙ (has.slots k tree.0 s.0 tree.1 s.1).shapes ∙ ap (λ (b : BodyInfo). b.slots) info
