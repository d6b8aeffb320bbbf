-- Schemas and relations that are read are those that are written.
use Rattle.std.proofs.Common.{◌≡◌, ◌≤◌, ◌<◌, ℕ, ◌+◌, Bool, true, false, not, List, [], ◌∷◌, ◌++◌, length, map, take, drop, Option, Some, Result, Ok, refl, sym, ap, subst, ◌∙◌, append_assoc, arith, All}
use Rattle.std.specs.Prelude.{◌&&◌, nat_le, nat_lt}
use Rattle.std.specs.List.{flat_map}
use Rattle.std.specs.Int.{w16, to_be_bytes}
use Rattle.std.proofs.lemmas.Bool.{leb-true, ltb-true, le-leb, lt-ltb, and_parts, and_from}
use Rattle.std.proofs.lemmas.List.{take-append-drop, drop_at, append-nil, map-append}
use Rattle.std.proofs.lemmas.List.Elements.{All-head, All-tail, All-cons, All-nil}
use Rattle.hera_sets.specs.Rows.{holds}
use Rattle.hera_meaning.specs.declared.scalars.Kind.{Kind}
use Rattle.hera_meaning.specs.declared.schemas.Attr.{Attr}
use Rattle.hera_meaning.specs.declared.schemas.RelDecl.{RelDecl}
use Rattle.hera_meaning.specs.Identifiers.{IsIdentifier}
use Rattle.hera_meaning.specs.Schemas.{AreDistinct, names_of, attr_name}
use Rattle.hera_meaning.specs.Catalogues.{decl_name, IsDecl, IsCatalogue}
use Rattle.hera_meaning.proofs.Names.{distinct_push}
use Rattle.hera_row.proofs.FieldLemmas.{AreBytes, AreBytes-drop}
use Rattle.rel_format.specs.Pages.{kind_byte, attr_bytes, decl_bytes}
use Rattle.rel_format.specs.Fields.{kept, piece, number, first_byte, is_identifier, name_field, new_name, length_field, width_field, count_field, kind_field}
use Rattle.rel_format.proofs.Names.{identifier_true, identifier_passes}
use Rattle.rel_format.proofs.Headers.{apart}
use Rattle.rel_format.proofs.Printed.{kept_is, byte_is, piece_is, kind_is}
use Rattle.rel_format.proofs.Printing.{kind_printed, kept_pass, piece_printed, name_some}
use Rattle.hera_code_file.specs.Printing.{schema_bytes, relations_bytes}
use Rattle.hera_code_file.specs.Fitting.{IsNamed}
use Rattle.hera_code_file.specs.Reading.{◌>>=◌, field, many, attr_at, schema_at, relation_at, relations_at}
use Rattle.hera_code_file.proofs.Laws.{bind_ok, ok_is, Taken, then, Law, Step, AllBehind, many_takes, many_again, field_ok, half_law}

-- ---- single fields

-- a field taken from the front
pub field_taken : {A : Type 0} (n : ℕ) (o : Option A) (bytes : List ℕ) (x : A) (rest text : List ℕ) → AreBytes bytes → field n o bytes ≡ Ok (x, rest) → take n bytes ≡ text → Taken bytes text rest
field_taken n o bytes x rest text are e same =
    let f = field_ok n o bytes x rest e in
    record { parts = sym (take-append-drop n bytes) ∙ ap (λ (t : List ℕ). t ++ drop n bytes) same ∙ ap (λ (t : List ℕ). text ++ t) f.1; fits = subst AreBytes f.1 (AreBytes-drop n bytes are) }

-- a field that stands in front
pub field_again : {A : Type 0} (n : ℕ) (o : Option A) (x : A) (text rest : List ℕ) → o ≡ Some x → length text ≡ n → field n o (text ++ rest) ≡ Ok (x, rest)
field_again {A} n o x text rest h size = ap (λ (v : Option A). field n v (text ++ rest)) h ∙ ap (λ (t : List ℕ). Ok (x, t)) (drop_at text rest n size)

-- ---- names

record NameTaken (names : List (List ℕ)) (n : ℕ) (bytes name rest : List ℕ) : Type 0 where
  pub taken : Taken bytes name rest
  pub size : n ≡ length name
  pub word : IsIdentifier name
  pub new : holds names name ≡ false

new_from : (b : Bool) → not b ≡ true → b ≡ false
new_from true h = absurd cc
new_from false h = refl

name_takes : (names : List (List ℕ)) (n : ℕ) (bytes name rest : List ℕ) → AreBytes bytes → field n (new_name names n bytes) bytes ≡ Ok (name, rest) → NameTaken names n bytes name rest
name_takes names n bytes name rest are e =
    let f = field_ok n (new_name names n bytes) bytes name rest e in
    let k = kept_is (λ (x : List ℕ). not (holds names x)) (name_field n bytes) name f.0 in
    let w = kept_is is_identifier (piece n bytes) name k.0 in
    let p = piece_is n bytes name w.0 in
    record { taken = field_taken n (new_name names n bytes) bytes name rest name are e p.0; size = p.1; word = identifier_true name w.1; new = new_from (holds names name) k.1 }

name_again : (names : List (List ℕ)) (name rest : List ℕ) → IsIdentifier name → holds names name ≡ false → field (length name) (new_name names (length name) (name ++ rest)) (name ++ rest) ≡ Ok (name, rest)
name_again names name rest word new =
    field_again (length name) (new_name names (length name) (name ++ rest)) name name rest
    (ap (λ (o : Option (List ℕ)). kept (λ (x : List ℕ). not (holds names x)) (kept is_identifier o)) (piece_printed name rest (length name) refl)
    ∙ ap (kept (λ (x : List ℕ). not (holds names x))) (kept_pass is_identifier name (identifier_passes name word))
    ∙ kept_pass (λ (x : List ℕ). not (holds names x)) name (ap not new))
    refl

length_takes : (bytes : List ℕ) (n : ℕ) (rest : List ℕ) → AreBytes bytes → field 1 (length_field bytes) bytes ≡ Ok (n, rest) → Taken bytes (n ∷ []) rest
length_takes bytes n rest are e =
    let f = field_ok 1 (length_field bytes) bytes n rest e in
    field_taken 1 (length_field bytes) bytes n rest (n ∷ []) are e (byte_is bytes n (kept_is (nat_lt 0) (first_byte bytes) n f.0).0)

length_again : (n : ℕ) (rest : List ℕ) → 1 ≤ n → field 1 (length_field (n ∷ rest)) (n ∷ rest) ≡ Ok (n, rest)
length_again n rest some = ap (λ (o : Option ℕ). field 1 o (n ∷ rest)) (kept_pass (nat_lt 0) n (lt-ltb 0 n (omega (arith, some))))

-- ---- attributes

pub record AttrFits (before : List Attr) (a : Attr) : Type 0 where
  pub word : IsIdentifier a.name
  pub new : holds (names_of before) a.name ≡ false

attr_takes : (before : List Attr) (bytes : List ℕ) (a : Attr) (rest : List ℕ) → AreBytes bytes → attr_at before bytes ≡ Ok (a, rest) → Taken bytes (attr_bytes a) rest × AttrFits before a
unfolding attr_at
attr_takes before bytes a rest are e =
    let n = bind_ok (field 1 (length_field bytes) bytes) (λ n. field n.0 (new_name (names_of before) n.0 n.1) n.1 >>= λ name. field 1 (kind_field name.1) name.1 >>= λ kind. Ok (record { name = name.0; kind = kind.0 }, kind.1)) (a, rest) e in
    let name = bind_ok (field n.0.0 (new_name (names_of before) n.0.0 n.0.1) n.0.1) (λ name. field 1 (kind_field name.1) name.1 >>= λ kind. Ok (record { name = name.0; kind = kind.0 }, kind.1)) (a, rest) n.2 in
    let kind = bind_ok (field 1 (kind_field name.0.1) name.0.1) (λ kind. Ok (record { name = name.0.0; kind = kind.0 }, kind.1)) (a, rest) name.2 in
    let t0 = length_takes bytes n.0.0 n.0.1 are n.1 in
    let t1 = name_takes (names_of before) n.0.0 n.0.1 name.0.0 name.0.1 t0.fits name.1 in
    let kf = field_ok 1 (kind_field name.0.1) name.0.1 kind.0.0 kind.0.1 kind.1 in
    let t2 = field_taken 1 (kind_field name.0.1) name.0.1 kind.0.0 kind.0.1 (kind_byte kind.0.0 ∷ []) t1.taken.fits kind.1 (kind_is name.0.1 kind.0.0 kf.0) in
    let made : Attr = record { name = name.0.0; kind = kind.0.0 } in
    let all = then bytes (n.0.0 ∷ []) n.0.1 (name.0.0 ++ kind_byte kind.0.0 ∷ []) kind.0.1 t0 (then n.0.1 name.0.0 name.0.1 (kind_byte kind.0.0 ∷ []) kind.0.1 t1.taken t2) in
    let text : Taken bytes (attr_bytes made) kind.0.1 = subst (λ (k : ℕ). Taken bytes (k ∷ (name.0.0 ++ kind_byte kind.0.0 ∷ [])) kind.0.1) t1.size all in
    subst (λ (z : Attr × List ℕ). Taken bytes (attr_bytes z.0) z.1 × AttrFits before z.0) (ok_is {A = Attr × List ℕ} (made, kind.0.1) (a, rest) kind.2) (text, record { word = t1.word; new = t1.new })

attr_again : (before : List Attr) (a : Attr) (rest : List ℕ) → AttrFits before a → attr_at before (attr_bytes a ++ rest) ≡ Ok (a, rest)
unfolding attr_at
attr_again before a rest fits =
    let tail : List ℕ = kind_byte a.kind ∷ rest in
    let regrouped : attr_bytes a ++ rest ≡ length a.name ∷ (a.name ++ tail) = ap (λ (t : List ℕ). length a.name ∷ t) (append_assoc a.name (kind_byte a.kind ∷ []) rest) in
    ap (attr_at before) regrouped
    ∙ ap (λ (r : Result (ℕ × List ℕ) ℕ). r >>= λ n. field n.0 (new_name (names_of before) n.0 n.1) n.1 >>= λ name. field 1 (kind_field name.1) name.1 >>= λ kind. Ok (record { name = name.0; kind = kind.0 }, kind.1)) (length_again (length a.name) (a.name ++ tail) (name_some a.name fits.word))
    ∙ ap (λ (r : Result (List ℕ × List ℕ) ℕ). r >>= λ name. field 1 (kind_field name.1) name.1 >>= λ kind. Ok (record { name = name.0; kind = kind.0 }, kind.1)) (name_again (names_of before) a.name tail fits.word fits.new)
    ∙ ap (λ (o : Option Kind). field 1 o tail >>= λ kind. Ok (record { name = a.name; kind = kind.0 }, kind.1)) (kind_printed a.kind rest)

attr_step : Step Attr attr_at attr_bytes AttrFits
attr_step = record { takes = attr_takes; again = attr_again }

-- ---- distinct names

attrs_named : (before attrs : List Attr) → AreDistinct (names_of before) → AllBehind AttrFits before attrs → AreDistinct (names_of (before ++ attrs)) × All IsIdentifier (names_of attrs)
attrs_named before [] h fits = (subst (λ (l : List Attr). AreDistinct (names_of l)) (sym (append-nil before)) h, All-nil IsIdentifier)
attrs_named before (a ∷ attrs) h fits =
    let next : AreDistinct (names_of (before ++ a ∷ [])) = subst AreDistinct (sym (map-append attr_name before (a ∷ []))) (distinct_push (names_of before) a.name h fits.0.new) in
    let more = attrs_named (before ++ a ∷ []) attrs next fits.1 in
    (subst (λ (l : List Attr). AreDistinct (names_of l)) (append_assoc before (a ∷ []) attrs) more.0, All-cons IsIdentifier a.name (names_of attrs) fits.0.word more.1)

named_attrs : (before attrs : List Attr) → AreDistinct (names_of (before ++ attrs)) → All IsIdentifier (names_of attrs) → AllBehind AttrFits before attrs
named_attrs before [] h words = tt
named_attrs before (a ∷ attrs) h words = (
  record { word = All-head IsIdentifier a.name (names_of attrs) words; new = apart (names_of before) a.name (names_of attrs) (subst AreDistinct (map-append attr_name before (a ∷ attrs)) h) },
  named_attrs (before ++ a ∷ []) attrs (subst (λ (l : List Attr). AreDistinct (names_of l)) (sym (append_assoc before (a ∷ []) attrs)) h) (All-tail IsIdentifier a.name (names_of attrs) words),
)

-- ---- schemas

width_is : (bytes : List ℕ) (n : ℕ) → width_field bytes ≡ Some n → (take 1 bytes ≡ n ∷ []) × (1 ≤ n) × (n ≤ 16)
width_is bytes n e =
    let k = kept_is (λ (w : ℕ). nat_lt 0 w && nat_le w 16) (first_byte bytes) n e in
    let p = and_parts (nat_lt 0 n) (nat_le n 16) k.1 in
    let some = ltb-true 0 n p.0 in
    (byte_is bytes n k.0, omega (arith, some), leb-true n 16 p.1)

-- what is read behind a width is a schema
pub attrs_taken : (bytes tail : List ℕ) (n : ℕ) (attrs : List Attr) (rest : List ℕ) → AreBytes tail → field 1 (width_field bytes) bytes ≡ Ok (n, tail) → many attr_at n [] tail ≡ Ok (attrs, rest) → (length attrs ≡ n) × Taken tail (flat_map attr_bytes attrs) rest × IsNamed attrs
attrs_taken bytes tail n attrs rest are e f =
    let w = width_is bytes n (field_ok 1 (width_field bytes) bytes n tail e).0 in
    let m = many_takes attr_at attr_bytes AttrFits attr_step n [] tail attrs rest are f in
    let named = attrs_named [] m.read tt m.fits in
    let size = m.count in
    let whole : (length m.read ≡ n) × Taken tail (flat_map attr_bytes m.read) rest × IsNamed m.read =
    (m.count, m.taken, record { schema_is = record { some = omega (arith, size, w.1); few = omega (arith, size, w.2); distinct = named.0 }; names = named.1 }) in
    subst (λ (l : List Attr). (length l ≡ n) × Taken tail (flat_map attr_bytes l) rest × IsNamed l) (sym m.all_is) whole

pub width_behind : (bytes : List ℕ) (n : ℕ) (rest : List ℕ) → AreBytes bytes → field 1 (width_field bytes) bytes ≡ Ok (n, rest) → AreBytes rest
width_behind bytes n rest are e = (field_taken 1 (width_field bytes) bytes n rest (n ∷ []) are e (width_is bytes n (field_ok 1 (width_field bytes) bytes n rest e).0).0).fits

pub schema_law : Law (List Attr) schema_at schema_bytes IsNamed
unfolding schema_at
schema_law = record { takes = takes; again = again }
  where
    takes : (bytes : List ℕ) (schema : List Attr) (rest : List ℕ) → AreBytes bytes → schema_at bytes ≡ Ok (schema, rest) → Taken bytes (schema_bytes schema) rest × IsNamed schema
    takes bytes schema rest are e =
        let n = bind_ok (field 1 (width_field bytes) bytes) (λ n. many attr_at n.0 [] n.1) (schema, rest) e in
        let w = width_is bytes n.0.0 (field_ok 1 (width_field bytes) bytes n.0.0 n.0.1 n.1).0 in
        let t0 = field_taken 1 (width_field bytes) bytes n.0.0 n.0.1 (n.0.0 ∷ []) are n.1 w.0 in
        let a = attrs_taken bytes n.0.1 n.0.0 schema rest t0.fits n.1 n.2 in
        (subst (λ (k : ℕ). Taken bytes (k ∷ flat_map attr_bytes schema) rest) (sym a.0) (then bytes (n.0.0 ∷ []) n.0.1 (flat_map attr_bytes schema) rest t0 a.1), a.2)

    again : (schema : List Attr) (rest : List ℕ) → IsNamed schema → schema_at (schema_bytes schema ++ rest) ≡ Ok (schema, rest)
    again schema rest named =
        let width : width_field (length schema ∷ (flat_map attr_bytes schema ++ rest)) ≡ Some (length schema) =
        kept_pass (λ (k : ℕ). nat_lt 0 k && nat_le k 16) (length schema) (and_from (nat_lt 0 (length schema)) (nat_le (length schema) 16) (lt-ltb 0 (length schema) (omega (arith, named.schema_is.some))) (le-leb (length schema) 16 named.schema_is.few)) in
        ap (λ (o : Option ℕ). field 1 o (length schema ∷ (flat_map attr_bytes schema ++ rest)) >>= λ n. many attr_at n.0 [] n.1) width
        ∙ many_again attr_at attr_bytes AttrFits attr_step [] schema rest (named_attrs [] schema named.schema_is.distinct named.names)

-- ---- relations

pub record DeclFits (before : List RelDecl) (d : RelDecl) : Type 0 where
  pub decl : IsDecl d
  pub new : holds (map decl_name before) d.name ≡ false

relation_takes : (before : List RelDecl) (bytes : List ℕ) (d : RelDecl) (rest : List ℕ) → AreBytes bytes → relation_at before bytes ≡ Ok (d, rest) → Taken bytes (decl_bytes d) rest × DeclFits before d
unfolding relation_at
relation_takes before bytes d rest are e =
    let n = bind_ok (field 1 (length_field bytes) bytes) (λ n. field n.0 (new_name (map decl_name before) n.0 n.1) n.1 >>= λ name. schema_at name.1 >>= λ schema. Ok (record { name = name.0; schema = schema.0 }, schema.1)) (d, rest) e in
    let name = bind_ok (field n.0.0 (new_name (map decl_name before) n.0.0 n.0.1) n.0.1) (λ name. schema_at name.1 >>= λ schema. Ok (record { name = name.0; schema = schema.0 }, schema.1)) (d, rest) n.2 in
    let schema = bind_ok (schema_at name.0.1) (λ schema. Ok (record { name = name.0.0; schema = schema.0 }, schema.1)) (d, rest) name.2 in
    let t0 = length_takes bytes n.0.0 n.0.1 are n.1 in
    let t1 = name_takes (map decl_name before) n.0.0 n.0.1 name.0.0 name.0.1 t0.fits name.1 in
    let t2 = schema_law.takes name.0.1 schema.0.0 schema.0.1 t1.taken.fits schema.1 in
    let made : RelDecl = record { name = name.0.0; schema = schema.0.0 } in
    let all = then bytes (n.0.0 ∷ []) n.0.1 (name.0.0 ++ schema_bytes schema.0.0) schema.0.1 t0 (then n.0.1 name.0.0 name.0.1 (schema_bytes schema.0.0) schema.0.1 t1.taken t2.0) in
    let text : Taken bytes (decl_bytes made) schema.0.1 = subst (λ (k : ℕ). Taken bytes (k ∷ (name.0.0 ++ schema_bytes schema.0.0)) schema.0.1) t1.size all in
    subst (λ (z : RelDecl × List ℕ). Taken bytes (decl_bytes z.0) z.1 × DeclFits before z.0) (ok_is {A = RelDecl × List ℕ} (made, schema.0.1) (d, rest) schema.2)
    (text, record { decl = record { name = t1.word; schema = t2.1.schema_is; attrs = t2.1.names }; new = t1.new })

relation_again : (before : List RelDecl) (d : RelDecl) (rest : List ℕ) → DeclFits before d → relation_at before (decl_bytes d ++ rest) ≡ Ok (d, rest)
unfolding relation_at
relation_again before d rest fits =
    let tail : List ℕ = schema_bytes d.schema ++ rest in
    let regrouped : decl_bytes d ++ rest ≡ length d.name ∷ (d.name ++ tail) = ap (λ (t : List ℕ). length d.name ∷ t) (append_assoc d.name (schema_bytes d.schema) rest) in
    ap (relation_at before) regrouped
    ∙ ap (λ (r : Result (ℕ × List ℕ) ℕ). r >>= λ n. field n.0 (new_name (map decl_name before) n.0 n.1) n.1 >>= λ name. schema_at name.1 >>= λ schema. Ok (record { name = name.0; schema = schema.0 }, schema.1)) (length_again (length d.name) (d.name ++ tail) (name_some d.name fits.decl.name))
    ∙ ap (λ (r : Result (List ℕ × List ℕ) ℕ). r >>= λ name. schema_at name.1 >>= λ schema. Ok (record { name = name.0; schema = schema.0 }, schema.1)) (name_again (map decl_name before) d.name tail fits.decl.name fits.new)
    ∙ ap (λ (r : Result (List Attr × List ℕ) ℕ). r >>= λ schema. Ok (record { name = d.name; schema = schema.0 }, schema.1)) (schema_law.again d.schema rest (record { schema_is = fits.decl.schema; names = fits.decl.attrs }))

relation_step : Step RelDecl relation_at decl_bytes DeclFits
relation_step = record { takes = relation_takes; again = relation_again }

decls_named : (before decls : List RelDecl) → AreDistinct (map decl_name before) → AllBehind DeclFits before decls → AreDistinct (map decl_name (before ++ decls)) × All IsDecl decls
decls_named before [] h fits = (subst (λ (l : List RelDecl). AreDistinct (map decl_name l)) (sym (append-nil before)) h, All-nil IsDecl)
decls_named before (a ∷ decls) h fits =
    let next : AreDistinct (map decl_name (before ++ a ∷ [])) = subst AreDistinct (sym (map-append decl_name before (a ∷ []))) (distinct_push (map decl_name before) a.name h fits.0.new) in
    let more = decls_named (before ++ a ∷ []) decls next fits.1 in
    (subst (λ (l : List RelDecl). AreDistinct (map decl_name l)) (append_assoc before (a ∷ []) decls) more.0, All-cons IsDecl a decls fits.0.decl more.1)

named_decls : (before decls : List RelDecl) → AreDistinct (map decl_name (before ++ decls)) → All IsDecl decls → AllBehind DeclFits before decls
named_decls before [] h all = tt
named_decls before (a ∷ decls) h all = (
  record { decl = All-head IsDecl a decls all; new = apart (map decl_name before) a.name (map decl_name decls) (subst AreDistinct (map-append decl_name before (a ∷ decls)) h) },
  named_decls (before ++ a ∷ []) decls (subst (λ (l : List RelDecl). AreDistinct (map decl_name l)) (sym (append_assoc before (a ∷ []) decls)) h) (All-tail IsDecl a decls all),
)

count_takes : (bytes : List ℕ) (n : ℕ) (rest : List ℕ) → AreBytes bytes → field 2 (count_field bytes) bytes ≡ Ok (n, rest) → Taken bytes (to_be_bytes w16 n) rest × (n ≤ 256)
count_takes bytes n rest are e =
    let f = field_ok 2 (count_field bytes) bytes n rest e in
    let k = kept_is (λ (m : ℕ). nat_le m 256) (number w16 bytes) n f.0 in
    let same : field 2 (number w16 bytes) bytes ≡ Ok (n, rest) = ap (λ (o : Option ℕ). field 2 o bytes) k.0 ∙ ap (λ (t : List ℕ). Ok (n, t)) f.1 in
    ((half_law.takes bytes n rest are same).0, leb-true n 256 k.1)

count_again : (n : ℕ) (rest : List ℕ) → n ≤ 256 → field 2 (count_field (to_be_bytes w16 n ++ rest)) (to_be_bytes w16 n ++ rest) ≡ Ok (n, rest)
count_again n rest few =
    let f = field_ok 2 (number w16 (to_be_bytes w16 n ++ rest)) (to_be_bytes w16 n ++ rest) n rest (half_law.again n rest (omega (arith, few))) in
    field_again 2 (count_field (to_be_bytes w16 n ++ rest)) n (to_be_bytes w16 n) rest (ap (kept (λ (k : ℕ). nat_le k 256)) f.0 ∙ kept_pass (λ (k : ℕ). nat_le k 256) n (le-leb n 256 few)) refl

pub relations_law : Law (List RelDecl) relations_at relations_bytes IsCatalogue
unfolding relations_at
relations_law = record { takes = takes; again = again }
  where
    takes : (bytes : List ℕ) (rels : List RelDecl) (rest : List ℕ) → AreBytes bytes → relations_at bytes ≡ Ok (rels, rest) → Taken bytes (relations_bytes rels) rest × IsCatalogue rels
    takes bytes rels rest are e =
        let n = bind_ok (field 2 (count_field bytes) bytes) (λ n. many relation_at n.0 [] n.1) (rels, rest) e in
        let c = count_takes bytes n.0.0 n.0.1 are n.1 in
        let m = many_takes relation_at decl_bytes DeclFits relation_step n.0.0 [] n.0.1 rels rest c.0.fits n.2 in
        let named = decls_named [] m.read tt m.fits in
        let size = m.count in
        let text : Taken bytes (relations_bytes m.read) rest = subst (λ (k : ℕ). Taken bytes (to_be_bytes w16 k ++ flat_map decl_bytes m.read) rest) (sym m.count) (then bytes (to_be_bytes w16 n.0.0) n.0.1 (flat_map decl_bytes m.read) rest c.0 m.taken) in
        let good : IsCatalogue m.read = record { few = omega (arith, size, c.1); distinct = named.0; decls = named.1 } in
        subst (λ (l : List RelDecl). Taken bytes (relations_bytes l) rest × IsCatalogue l) (sym m.all_is) (text, good)

    again : (rels : List RelDecl) (rest : List ℕ) → IsCatalogue rels → relations_at (relations_bytes rels ++ rest) ≡ Ok (rels, rest)
    again rels rest good =
        ap relations_at (append_assoc (to_be_bytes w16 (length rels)) (flat_map decl_bytes rels) rest)
        ∙ ap (λ (r : Result (ℕ × List ℕ) ℕ). r >>= λ n. many relation_at n.0 [] n.1) (count_again (length rels) (flat_map decl_bytes rels ++ rest) good.few)
        ∙ many_again relation_at decl_bytes DeclFits relation_step [] rels rest (named_decls [] rels good.distinct good.decls)
