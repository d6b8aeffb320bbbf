-- Files that are read are those that are written.
use Rattle.std.proofs.Common.{◌≡◌, ℕ, List, [], ◌∷◌, ◌++◌, Option, Result, Ok, Err, refl, sym, ap, subst, ◌∙◌, append_assoc}
use Rattle.std.specs.Prelude.{IfSome}
use Rattle.std.proofs.lemmas.List.{append-nil}
use Rattle.hera_sets.specs.Rows.{is_same}
use Rattle.hera_sets.proofs.Order.{same_itself, same_true}
use Rattle.hera_meaning.specs.declared.schemas.Attr.{Attr}
use Rattle.hera_meaning.specs.declared.trees.Shape.{Shape}
use Rattle.hera_meaning.specs.Catalogues.{IsCatalogue}
use Rattle.hera_typed.specs.declared.notes.SlotNote.{SlotNote}
use Rattle.hera_row.proofs.FieldLemmas.{AreBytes}
use Rattle.rel_format.specs.Fields.{kept, piece, magic_field}
use Rattle.rel_format.proofs.Printed.{kept_is}
use Rattle.hera_code_file.specs.Printing.{word, flag, list_bytes, option_bytes, schema_bytes, shape_bytes, instr_bytes, slot_bytes, File_body, body_bytes, File, code_magic, relations_bytes, file_bytes}
use Rattle.hera_code_file.specs.Fitting.{IsWord, Each, IsNamed, ShapeFits, InstrFits, SlotFits, BodyFits, FileFits}
use Rattle.hera_code_file.specs.Reading.{◌>>=◌, Reader, word_at, flag_at, option_at, schema_at, shape_at, relations_at, instrs_at, slot_at, slots_at, body_at, bodies_at, magic_at, parts_at, ends, file_at}
use Rattle.hera_code_file.proofs.Laws.{bind_ok, ok_is, Taken, then, Law, field_ok, word_law, list_law}
use Rattle.rel_format.proofs.Printed.{piece_is}
use Rattle.rel_format.proofs.Printing.{kept_pass, piece_printed}
use Rattle.hera_code_file.proofs.Schema_law.{field_taken, field_again, schema_law, relations_law}
use Rattle.hera_code_file.proofs.Part_laws.{flag_law, option_law, shape_law}
use Rattle.hera_code_file.proofs.Instr_laws.{instrs_law}

gathers_law : Law (Option (List Attr)) (option_at schema_at) (option_bytes schema_bytes) (λ o. IfSome o IsNamed)
gathers_law = option_law schema_at schema_bytes IsNamed schema_law

result_law : Law (Option Shape) (option_at shape_at) (option_bytes shape_bytes) (λ o. IfSome o ShapeFits)
result_law = option_law shape_at shape_bytes ShapeFits shape_law

-- the next part, where it stands behind others
pub next : {A B : Type 0} (read : Reader A) (text : A → List ℕ) (Fits : A → Type 0) → Law A read text Fits → (go : A × List ℕ → Result B ℕ) (a : A) (rest : List ℕ) → Fits a → (read (text a ++ rest) >>= go) ≡ go (a, rest)
next {A} read text Fits law go a rest f = ap (λ (r : Result (A × List ℕ) ℕ). r >>= go) (law.again a rest f)

pub slot_law : Law SlotNote slot_at slot_bytes SlotFits
unfolding slot_at
slot_law = record { takes = takes; again = again }
  where
    takes : (bytes : List ℕ) (s : SlotNote) (rest : List ℕ) → AreBytes bytes → slot_at bytes ≡ Ok (s, rest) → Taken bytes (slot_bytes s) rest × SlotFits s
    takes bytes s rest are e =
        let a = bind_ok (shape_at bytes) (λ shape. word_at shape.1 >>= λ from. word_at from.1 >>= λ to. option_at schema_at to.1 >>= λ gathers. Ok (record { shape = shape.0; from = from.0; to = to.0; gathers = gathers.0 }, gathers.1)) (s, rest) e in
        let b = bind_ok (word_at a.0.1) (λ from. word_at from.1 >>= λ to. option_at schema_at to.1 >>= λ gathers. Ok (record { shape = a.0.0; from = from.0; to = to.0; gathers = gathers.0 }, gathers.1)) (s, rest) a.2 in
        let c = bind_ok (word_at b.0.1) (λ to. option_at schema_at to.1 >>= λ gathers. Ok (record { shape = a.0.0; from = b.0.0; to = to.0; gathers = gathers.0 }, gathers.1)) (s, rest) b.2 in
        let d = bind_ok (option_at schema_at c.0.1) (λ gathers. Ok (record { shape = a.0.0; from = b.0.0; to = c.0.0; gathers = gathers.0 }, gathers.1)) (s, rest) c.2 in
        let t0 = shape_law.takes bytes a.0.0 a.0.1 are a.1 in
        let t1 = word_law.takes a.0.1 b.0.0 b.0.1 t0.0.fits b.1 in
        let t2 = word_law.takes b.0.1 c.0.0 c.0.1 t1.0.fits c.1 in
        let t3 = gathers_law.takes c.0.1 d.0.0 d.0.1 t2.0.fits d.1 in
        let made : SlotNote = record { shape = a.0.0; from = b.0.0; to = c.0.0; gathers = d.0.0 } in
        let text : Taken bytes (slot_bytes made) d.0.1 =
        then bytes (shape_bytes a.0.0) a.0.1 (word b.0.0 ++ (word c.0.0 ++ option_bytes schema_bytes d.0.0)) d.0.1 t0.0
        (then a.0.1 (word b.0.0) b.0.1 (word c.0.0 ++ option_bytes schema_bytes d.0.0) d.0.1 t1.0
        (then b.0.1 (word c.0.0) c.0.1 (option_bytes schema_bytes d.0.0) d.0.1 t2.0 t3.0)) in
        subst (λ (z : SlotNote × List ℕ). Taken bytes (slot_bytes z.0) z.1 × SlotFits z.0) (ok_is {A = SlotNote × List ℕ} (made, d.0.1) (s, rest) d.2) (text, record { shape = t0.1; from = t1.1; to = t2.1; gathers = t3.1 })

    again : (s : SlotNote) (rest : List ℕ) → SlotFits s → slot_at (slot_bytes s ++ rest) ≡ Ok (s, rest)
    again s rest h =
        let end = option_bytes schema_bytes s.gathers in
        ap slot_at (append_assoc (shape_bytes s.shape) (word s.from ++ (word s.to ++ end)) rest ∙ ap (λ (t : List ℕ). shape_bytes s.shape ++ t) (append_assoc (word s.from) (word s.to ++ end) rest ∙ ap (λ (t : List ℕ). word s.from ++ t) (append_assoc (word s.to) end rest)))
        ∙ next shape_at shape_bytes ShapeFits shape_law (λ shape. word_at shape.1 >>= λ from. word_at from.1 >>= λ to. option_at schema_at to.1 >>= λ gathers. Ok (record { shape = shape.0; from = from.0; to = to.0; gathers = gathers.0 }, gathers.1)) s.shape (word s.from ++ (word s.to ++ (end ++ rest))) h.shape
        ∙ next word_at word IsWord word_law (λ from. word_at from.1 >>= λ to. option_at schema_at to.1 >>= λ gathers. Ok (record { shape = s.shape; from = from.0; to = to.0; gathers = gathers.0 }, gathers.1)) s.from (word s.to ++ (end ++ rest)) h.from
        ∙ next word_at word IsWord word_law (λ to. option_at schema_at to.1 >>= λ gathers. Ok (record { shape = s.shape; from = s.from; to = to.0; gathers = gathers.0 }, gathers.1)) s.to (end ++ rest) h.to
        ∙ next (option_at schema_at) (option_bytes schema_bytes) (λ o. IfSome o IsNamed) gathers_law (λ gathers. Ok (record { shape = s.shape; from = s.from; to = s.to; gathers = gathers.0 }, gathers.1)) s.gathers rest h.gathers

slots_law : Law (List SlotNote) slots_at (list_bytes slot_bytes) (Each SlotFits)
unfolding slots_at
slots_law = list_law slot_at slot_bytes SlotFits slot_law

pub body_law : Law File_body body_at body_bytes BodyFits
unfolding body_at
body_law = record { takes = takes; again = again }
  where
    takes : (bytes : List ℕ) (x : File_body) (rest : List ℕ) → AreBytes bytes → body_at bytes ≡ Ok (x, rest) → Taken bytes (body_bytes x) rest × BodyFits x
    takes bytes x rest are e =
        let a = bind_ok (word_at bytes) (λ at. word_at at.1 >>= λ params. flag_at params.1 >>= λ func. option_at shape_at func.1 >>= λ result. slots_at result.1 >>= λ slots. Ok (record { at = at.0; params = params.0; func = func.0; result = result.0; slots = slots.0 }, slots.1)) (x, rest) e in
        let b = bind_ok (word_at a.0.1) (λ params. flag_at params.1 >>= λ func. option_at shape_at func.1 >>= λ result. slots_at result.1 >>= λ slots. Ok (record { at = a.0.0; params = params.0; func = func.0; result = result.0; slots = slots.0 }, slots.1)) (x, rest) a.2 in
        let c = bind_ok (flag_at b.0.1) (λ func. option_at shape_at func.1 >>= λ result. slots_at result.1 >>= λ slots. Ok (record { at = a.0.0; params = b.0.0; func = func.0; result = result.0; slots = slots.0 }, slots.1)) (x, rest) b.2 in
        let d = bind_ok (option_at shape_at c.0.1) (λ result. slots_at result.1 >>= λ slots. Ok (record { at = a.0.0; params = b.0.0; func = c.0.0; result = result.0; slots = slots.0 }, slots.1)) (x, rest) c.2 in
        let s = bind_ok (slots_at d.0.1) (λ slots. Ok (record { at = a.0.0; params = b.0.0; func = c.0.0; result = d.0.0; slots = slots.0 }, slots.1)) (x, rest) d.2 in
        let t0 = word_law.takes bytes a.0.0 a.0.1 are a.1 in
        let t1 = word_law.takes a.0.1 b.0.0 b.0.1 t0.0.fits b.1 in
        let t2 = flag_law.takes b.0.1 c.0.0 c.0.1 t1.0.fits c.1 in
        let t3 = result_law.takes c.0.1 d.0.0 d.0.1 t2.0.fits d.1 in
        let t4 = slots_law.takes d.0.1 s.0.0 s.0.1 t3.0.fits s.1 in
        let made : File_body = record { at = a.0.0; params = b.0.0; func = c.0.0; result = d.0.0; slots = s.0.0 } in
        let e4 = list_bytes slot_bytes s.0.0 in
        let e3 = option_bytes shape_bytes d.0.0 in
        let text : Taken bytes (body_bytes made) s.0.1 =
        then bytes (word a.0.0) a.0.1 (word b.0.0 ++ (flag c.0.0 ++ (e3 ++ e4))) s.0.1 t0.0
        (then a.0.1 (word b.0.0) b.0.1 (flag c.0.0 ++ (e3 ++ e4)) s.0.1 t1.0
        (then b.0.1 (flag c.0.0) c.0.1 (e3 ++ e4) s.0.1 t2.0
        (then c.0.1 e3 d.0.1 e4 s.0.1 t3.0 t4.0))) in
        subst (λ (z : File_body × List ℕ). Taken bytes (body_bytes z.0) z.1 × BodyFits z.0) (ok_is {A = File_body × List ℕ} (made, s.0.1) (x, rest) s.2) (text, record { at = t0.1; params = t1.1; result = t3.1; slots = t4.1 })

    again : (x : File_body) (rest : List ℕ) → BodyFits x → body_at (body_bytes x ++ rest) ≡ Ok (x, rest)
    again x rest h =
        let e4 = list_bytes slot_bytes x.slots in
        let e3 = option_bytes shape_bytes x.result in
        let e2 = flag x.func in
        let regrouped : body_bytes x ++ rest ≡ word x.at ++ (word x.params ++ (e2 ++ (e3 ++ (e4 ++ rest)))) =
        append_assoc (word x.at) (word x.params ++ (e2 ++ (e3 ++ e4))) rest ∙ ap (λ (t : List ℕ). word x.at ++ t)
        (append_assoc (word x.params) (e2 ++ (e3 ++ e4)) rest ∙ ap (λ (t : List ℕ). word x.params ++ t)
        (append_assoc e2 (e3 ++ e4) rest ∙ ap (λ (t : List ℕ). e2 ++ t) (append_assoc e3 e4 rest))) in
        ap body_at regrouped
        ∙ next word_at word IsWord word_law (λ at. word_at at.1 >>= λ params. flag_at params.1 >>= λ func. option_at shape_at func.1 >>= λ result. slots_at result.1 >>= λ slots. Ok (record { at = at.0; params = params.0; func = func.0; result = result.0; slots = slots.0 }, slots.1)) x.at (word x.params ++ (e2 ++ (e3 ++ (e4 ++ rest)))) h.at
        ∙ next word_at word IsWord word_law (λ params. flag_at params.1 >>= λ func. option_at shape_at func.1 >>= λ result. slots_at result.1 >>= λ slots. Ok (record { at = x.at; params = params.0; func = func.0; result = result.0; slots = slots.0 }, slots.1)) x.params (e2 ++ (e3 ++ (e4 ++ rest))) h.params
        ∙ next flag_at flag (λ b. Unit {0}) flag_law (λ func. option_at shape_at func.1 >>= λ result. slots_at result.1 >>= λ slots. Ok (record { at = x.at; params = x.params; func = func.0; result = result.0; slots = slots.0 }, slots.1)) x.func (e3 ++ (e4 ++ rest)) tt
        ∙ next (option_at shape_at) (option_bytes shape_bytes) (λ o. IfSome o ShapeFits) result_law (λ result. slots_at result.1 >>= λ slots. Ok (record { at = x.at; params = x.params; func = x.func; result = result.0; slots = slots.0 }, slots.1)) x.result (e4 ++ rest) h.result
        ∙ next slots_at (list_bytes slot_bytes) (Each SlotFits) slots_law (λ slots. Ok (record { at = x.at; params = x.params; func = x.func; result = x.result; slots = slots.0 }, slots.1)) x.slots rest h.slots

bodies_law : Law (List File_body) bodies_at (list_bytes body_bytes) (Each BodyFits)
unfolding bodies_at
bodies_law = list_law body_at body_bytes BodyFits body_law

-- ---- the magic

magic_takes : (bytes m rest : List ℕ) → AreBytes bytes → magic_at bytes ≡ Ok (m, rest) → Taken bytes code_magic rest
unfolding magic_at
magic_takes bytes m rest are e =
    let f = field_ok 8 (magic_field code_magic bytes) bytes m rest e in
    let k = kept_is (λ (x : List ℕ). is_same x code_magic) (piece 8 bytes) m f.0 in
    let p = piece_is 8 bytes m k.0 in
    field_taken 8 (magic_field code_magic bytes) bytes m rest code_magic are e (p.0 ∙ same_true m code_magic k.1)

magic_again : (rest : List ℕ) → magic_at (code_magic ++ rest) ≡ Ok (code_magic, rest)
unfolding magic_at
magic_again rest = field_again 8 (magic_field code_magic (code_magic ++ rest)) code_magic code_magic rest (ap (kept (λ (x : List ℕ). is_same x code_magic)) (piece_printed code_magic rest 8 refl) ∙ kept_pass (λ (x : List ℕ). is_same x code_magic) code_magic (same_itself code_magic)) refl

-- ---- whole files

parts_takes : (bytes : List ℕ) (f : File) (rest : List ℕ) → AreBytes bytes → parts_at bytes ≡ Ok (f, rest) → Taken bytes (file_bytes f) rest × FileFits f
unfolding parts_at
parts_takes bytes f rest are e =
    let m = bind_ok (magic_at bytes) (λ magic. relations_at magic.1 >>= λ relations. bodies_at relations.1 >>= λ bodies. instrs_at bodies.1 >>= λ instrs. Ok (record { relations = relations.0; bodies = bodies.0; instrs = instrs.0 }, instrs.1)) (f, rest) e in
    let r = bind_ok (relations_at m.0.1) (λ relations. bodies_at relations.1 >>= λ bodies. instrs_at bodies.1 >>= λ instrs. Ok (record { relations = relations.0; bodies = bodies.0; instrs = instrs.0 }, instrs.1)) (f, rest) m.2 in
    let b = bind_ok (bodies_at r.0.1) (λ bodies. instrs_at bodies.1 >>= λ instrs. Ok (record { relations = r.0.0; bodies = bodies.0; instrs = instrs.0 }, instrs.1)) (f, rest) r.2 in
    let i = bind_ok (instrs_at b.0.1) (λ instrs. Ok (record { relations = r.0.0; bodies = b.0.0; instrs = instrs.0 }, instrs.1)) (f, rest) b.2 in
    let t0 = magic_takes bytes m.0.0 m.0.1 are m.1 in
    let t1 = relations_law.takes m.0.1 r.0.0 r.0.1 t0.fits r.1 in
    let t2 = bodies_law.takes r.0.1 b.0.0 b.0.1 t1.0.fits b.1 in
    let t3 = instrs_law.takes b.0.1 i.0.0 i.0.1 t2.0.fits i.1 in
    let made : File = record { relations = r.0.0; bodies = b.0.0; instrs = i.0.0 } in
    let e1 = relations_bytes r.0.0 in
    let e2 = list_bytes body_bytes b.0.0 in
    let e3 = list_bytes instr_bytes i.0.0 in
    let text : Taken bytes (file_bytes made) i.0.1 = then bytes code_magic m.0.1 (e1 ++ (e2 ++ e3)) i.0.1 t0 (then m.0.1 e1 r.0.1 (e2 ++ e3) i.0.1 t1.0 (then r.0.1 e2 b.0.1 e3 i.0.1 t2.0 t3.0)) in
    subst (λ (z : File × List ℕ). Taken bytes (file_bytes z.0) z.1 × FileFits z.0) (ok_is {A = File × List ℕ} (made, i.0.1) (f, rest) i.2) (text, record { relations = t1.1; bodies = t2.1; instrs = t3.1 })

parts_again : (f : File) (rest : List ℕ) → FileFits f → parts_at (file_bytes f ++ rest) ≡ Ok (f, rest)
unfolding parts_at
parts_again f rest h =
    let e1 = relations_bytes f.relations in
    let e2 = list_bytes body_bytes f.bodies in
    let e3 = list_bytes instr_bytes f.instrs in
    let regrouped : file_bytes f ++ rest ≡ code_magic ++ (e1 ++ (e2 ++ (e3 ++ rest))) =
    append_assoc code_magic (e1 ++ (e2 ++ e3)) rest ∙ ap (λ (t : List ℕ). code_magic ++ t) (append_assoc e1 (e2 ++ e3) rest ∙ ap (λ (t : List ℕ). e1 ++ t) (append_assoc e2 e3 rest)) in
    ap parts_at regrouped
    ∙ ap (λ (r : Result (List ℕ × List ℕ) ℕ). r >>= λ magic. relations_at magic.1 >>= λ relations. bodies_at relations.1 >>= λ bodies. instrs_at bodies.1 >>= λ instrs. Ok (record { relations = relations.0; bodies = bodies.0; instrs = instrs.0 }, instrs.1)) (magic_again (e1 ++ (e2 ++ (e3 ++ rest))))
    ∙ next relations_at relations_bytes IsCatalogue relations_law (λ relations. bodies_at relations.1 >>= λ bodies. instrs_at bodies.1 >>= λ instrs. Ok (record { relations = relations.0; bodies = bodies.0; instrs = instrs.0 }, instrs.1)) f.relations (e2 ++ (e3 ++ rest)) h.relations
    ∙ next bodies_at (list_bytes body_bytes) (Each BodyFits) bodies_law (λ bodies. instrs_at bodies.1 >>= λ instrs. Ok (record { relations = f.relations; bodies = bodies.0; instrs = instrs.0 }, instrs.1)) f.bodies (e3 ++ rest) h.bodies
    ∙ next instrs_at (list_bytes instr_bytes) (Each InstrFits) instrs_law (λ instrs. Ok (record { relations = f.relations; bodies = f.bodies; instrs = instrs.0 }, instrs.1)) f.instrs rest h.instrs

ends_is : (f g : File) (rest : List ℕ) → ends (f, rest) ≡ Ok g → (f ≡ g) × (rest ≡ [])
ends_is f g [] e = (ok_is f g e, refl)
ends_is f g (b ∷ rest) e = absurd cc

-- what is read of a whole file is what was written
pub file_takes : (bytes : List ℕ) (f : File) → AreBytes bytes → file_at bytes ≡ Ok f → (bytes ≡ file_bytes f) × FileFits f
unfolding file_at
file_takes bytes f are e =
    let p = bind_ok (parts_at bytes) ends f e in
    let t = parts_takes bytes p.0.0 p.0.1 are p.1 in
    let n = ends_is p.0.0 f p.0.1 p.2 in
    (subst (λ (g : File). bytes ≡ file_bytes g) n.0 (t.0.parts ∙ ap (λ (rest : List ℕ). file_bytes p.0.0 ++ rest) n.1 ∙ append-nil (file_bytes p.0.0)), subst FileFits n.0 t.1)

-- and what was written is read
pub file_again : (f : File) → FileFits f → file_at (file_bytes f) ≡ Ok f
unfolding file_at
file_again f h = ap (λ (bytes : List ℕ). parts_at bytes >>= ends) (sym (append-nil (file_bytes f))) ∙ ap (λ (r : Result (File × List ℕ) ℕ). r >>= ends) (parts_again f [] h)

pub never_bad : (f : File) (left : ℕ) → Ok f ≡ Err left → ⊥
never_bad f left e = cc
