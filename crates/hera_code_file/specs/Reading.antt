-- A code file read from the left: what each part gives, and the bytes behind it. Where a field breaks its rule, or
-- does not lie wholly in the file, the answer is how many bytes are left from that field's first one on.
use Rattle.std.specs.Prelude.{◌≡◌, ℕ, zero, suc, ◌^◌, Bool, not, List, [], ◌∷◌, ◌++◌, length, map, drop, Option, Some, None, Result, Ok, Err, pos, ◌-ℤ◌, nat_lt, nat_le}
use Rattle.std.specs.Option.{option_and_then}
use Rattle.std.specs.Int.{Width, w16, w32, w64, byte_len}
use Rattle.hera_meaning.specs.declared.scalars.RelId.{RelId}
use Rattle.hera_meaning.specs.declared.scalars.Sign.{Sign}
use Rattle.hera_meaning.specs.declared.scalars.Sign.TheVariants.{Plus, Minus}
use Rattle.hera_meaning.specs.declared.scalars.TheConstants.{TEXT_LIMIT}
use Rattle.hera_meaning.specs.declared.scalars.Scalar.TheVariants as scalars
use Rattle.hera_meaning.specs.declared.schemas.Attr.{Attr}
use Rattle.hera_meaning.specs.declared.schemas.RelDecl.{RelDecl}
use Rattle.hera_meaning.specs.declared.schemas.Agg.{Agg}
use Rattle.hera_meaning.specs.declared.schemas.Agg.TheVariants as aggs
use Rattle.hera_meaning.specs.declared.trees.Shape.{Shape}
use Rattle.hera_meaning.specs.declared.trees.Shape.TheVariants as shapes
use Rattle.hera_meaning.specs.declared.trees.Const.{Const}
use Rattle.hera_meaning.specs.declared.trees.Const.TheVariants as consts
use Rattle.hera_meaning.specs.declared.trees.Op.{Op}
use Rattle.hera_meaning.specs.declared.trees.Op.TheVariants as ops
use Rattle.hera_meaning.specs.Texts.{is_text}
use Rattle.hera_meaning.specs.Schemas.{names_of}
use Rattle.hera_meaning.specs.Catalogues.{decl_name}
use Rattle.hera_code.specs.declared.instrs.Instr.{Instr}
use Rattle.hera_code.specs.declared.instrs.Instr.TheVariants as instrs
use Rattle.hera_typed.specs.declared.notes.SlotNote.{SlotNote}
use Rattle.rel_format.specs.Fields.{kept, piece, number, first_byte, length_field, width_field, count_field, kind_field, new_name, magic_field}
use Rattle.hera_code_file.specs.Printing.{File_body, File, code_magic}
use Rattle.hera_code_file.specs.declared.stop.Stop.{Stop}
use Rattle.hera_code_file.specs.declared.stop.Stop.TheVariants as stops

infixl 10 ◌>>=◌
abbrev pub ◌>>=◌ : {A B : Type 0} → Result A ℕ → (A → Result B ℕ) → Result B ℕ
(Ok x) >>= f = f x
(Err n) >>= f = Err n

-- what a call answers, seen by view, is what reading gives, unless memory ran out
abbrev pub Fails : {Y : Type 0} → Stop → Result Y ℕ → Type 0
Fails stops.Memory read = Unit {0}
Fails (stops.Bad left) read = read ≡ Err left

abbrev pub Gives : {X Y : Type 0} → (X → Y) → Result X Stop → Result Y ℕ → Type 0
Gives view (Ok x) read = read ≡ Ok (view x)
Gives view (Err e) read = Fails e read

-- ---- forms of parts

-- from bytes the value with which they begin, and the bytes behind it
abbrev pub Reader : Type 0 → Type 0
Reader A = List ℕ → Result (A × List ℕ) ℕ

-- a field of so many bytes, where it keeps its rule
abbrev pub field : {A : Type 0} → ℕ → Option A → Reader A
field n None bytes = Err (length bytes)
field n (Some x) bytes = Ok (x, drop n bytes)

-- no bytes
abbrev pub bare : {A : Type 0} → A → Reader A
bare x bytes = Ok (x, bytes)

-- what is made of one part, of two and of three
abbrev pub one : {A B : Type 0} → (A → B) → Reader A → Reader B
one make first bytes = first bytes >>= λ x. Ok (make x.0, x.1)

abbrev pub two : {A B C : Type 0} → (A → B → C) → Reader A → Reader B → Reader C
two make first second bytes = first bytes >>= λ x. second x.1 >>= λ y. Ok (make x.0 y.0, y.1)

abbrev pub three : {A B C D : Type 0} → (A → B → C → D) → Reader A → Reader B → Reader C → Reader D
three make first second third bytes = first bytes >>= λ x. second x.1 >>= λ y. third y.1 >>= λ z. Ok (make x.0 y.0 z.0, z.1)

-- the reader at a place
abbrev pub at_place : {A : Type 0} → List (Reader A) → ℕ → Reader A
at_place [] n bytes = Err (length bytes)
at_place (r ∷ readers) zero bytes = r bytes
at_place (r ∷ readers) (suc n) bytes = at_place readers n bytes

-- a byte below a limit
abbrev pub small : ℕ → Reader ℕ
small limit bytes = field 1 (kept (λ n. nat_lt n limit) (first_byte bytes)) bytes

-- a byte that is the number of one of these, and what that one reads
abbrev pub numbered : {A : Type 0} → List (Reader A) → Reader A
numbered readers bytes = small (length readers) bytes >>= λ n. at_place readers n.0 n.1

-- so many more behind those that were read
abbrev pub many : {A : Type 0} → (List A → Reader A) → ℕ → List A → Reader (List A)
many read zero before bytes = Ok (before, bytes)
many read (suc n) before bytes = read before bytes >>= λ x. many read n (before ++ x.0 ∷ []) x.1

abbrev pub number_at : Width → Reader ℕ
number_at w bytes = field (byte_len w) (number w bytes) bytes

-- four bytes
abbrev pub word_at : Reader ℕ
word_at bytes = number_at w32 bytes

-- a count of four bytes, and the members
abbrev pub list_at : {A : Type 0} → Reader A → Reader (List A)
list_at read bytes = word_at bytes >>= λ n. many (λ before. read) n.0 [] n.1

abbrev pub flag_at : Reader Bool
flag_at bytes = one (nat_lt 0) (small 2) bytes

abbrev pub option_at : {A : Type 0} → Reader A → Reader (Option A)
option_at read bytes = numbered (bare None ∷ one Some read ∷ []) bytes

-- ---- schemas

-- an attribute behind others
unfoldable pub attr_at : List Attr → Reader Attr
attr_at before bytes = field 1 (length_field bytes) bytes >>= λ n. field n.0 (new_name (names_of before) n.0 n.1) n.1 >>= λ name. field 1 (kind_field name.1) name.1 >>= λ kind. Ok (record { name = name.0; kind = kind.0 }, kind.1)

unfoldable pub schema_at : Reader (List Attr)
schema_at bytes = field 1 (width_field bytes) bytes >>= λ n. many attr_at n.0 [] n.1

-- a relation behind others
unfoldable pub relation_at : List RelDecl → Reader RelDecl
relation_at before bytes = field 1 (length_field bytes) bytes >>= λ n. field n.0 (new_name (map decl_name before) n.0 n.1) n.1 >>= λ name. schema_at name.1 >>= λ schema. Ok (record { name = name.0; schema = schema.0 }, schema.1)

unfoldable pub relations_at : Reader (List RelDecl)
relations_at bytes = field 2 (count_field bytes) bytes >>= λ n. many relation_at n.0 [] n.1

-- ---- parts of instructions

abbrev pub shape_readers : List (Reader Shape)
shape_readers = bare shapes.Int ∷ bare shapes.Bool ∷ bare shapes.Text ∷ one shapes.Tuple schema_at ∷ one shapes.Rel schema_at ∷ bare shapes.Delta ∷ []

unfoldable pub shape_at : Reader Shape
shape_at bytes = numbered shape_readers bytes

-- a length of two bytes, and the bytes of a text
abbrev pub text_len_at : Reader ℕ
text_len_at bytes = field 2 (kept (λ n. nat_le n TEXT_LIMIT) (number w16 bytes)) bytes

abbrev pub text_piece : ℕ → Reader (List ℕ)
text_piece n bytes = field n (kept is_text (piece n bytes)) bytes

unfoldable pub text_at : Reader (List ℕ)
text_at bytes = text_len_at bytes >>= λ n. text_piece n.0 n.1

-- the int that is kept with 2^63 added
abbrev pub int_const : ℕ → Const
int_const n = consts.Scalar (scalars.Int (pos n -ℤ pos (2 ^ 63)))

abbrev pub bool_const : Bool → Const
bool_const b = consts.Scalar (scalars.Bool b)

abbrev pub text_const : List ℕ → Const
text_const t = consts.Scalar (scalars.Text t)

abbrev pub const_readers : List (Reader Const)
const_readers = one int_const (number_at w64) ∷ one bool_const flag_at ∷ one text_const text_at ∷ bare consts.EmptyDelta ∷ bare consts.FailDelta ∷ []

unfoldable pub const_at : Reader Const
const_at bytes = numbered const_readers bytes

-- 1 is plus and 2 is minus
abbrev pub sign_of : ℕ → Option Sign
sign_of zero = None
sign_of (suc zero) = Some Plus
sign_of (suc (suc zero)) = Some Minus
sign_of _ = None

abbrev pub sign_at : Reader Sign
sign_at bytes = field 1 (option_and_then sign_of (first_byte bytes)) bytes

abbrev pub relation_id : ℕ → RelId
relation_id n = record { 0 = n }

abbrev pub relation_id_at : Reader RelId
relation_id_at bytes = one relation_id (number_at w16) bytes

abbrev pub agg_readers : List (Reader Agg)
agg_readers = bare aggs.Count ∷ one aggs.Sum word_at ∷ one aggs.Min word_at ∷ one aggs.Max word_at ∷ []

unfoldable pub agg_at : Reader Agg
agg_at bytes = numbered agg_readers bytes

unfoldable pub places_at : Reader (List ℕ)
places_at bytes = list_at word_at bytes

unfoldable pub aggs_at : Reader (List Agg)
aggs_at bytes = list_at agg_at bytes

-- by the numbers of operations
abbrev pub op_readers : List (Reader Op)
op_readers =
    bare ops.Neg ∷ bare ops.Not ∷ bare ops.Add ∷ bare ops.Sub ∷ bare ops.Mul ∷ bare ops.Div ∷ bare ops.Rem
    ∷ bare ops.Eq ∷ bare ops.Ne ∷ bare ops.Lt ∷ bare ops.Le ∷ bare ops.Gt ∷ bare ops.Ge ∷ bare ops.In
    ∷ two ops.Field schema_at word_at ∷ one ops.MakeRow schema_at ∷ one ops.MakeRel word_at ∷ two ops.Project schema_at places_at
    ∷ bare ops.Union ∷ bare ops.Minus ∷ bare ops.Inter ∷ two ops.Join schema_at schema_at ∷ three ops.Group schema_at places_at aggs_at
    ∷ bare ops.Count ∷ bare ops.Empty ∷ two ops.Sum schema_at word_at ∷ two ops.Min schema_at word_at ∷ two ops.Max schema_at word_at
    ∷ two ops.Atom sign_at relation_id_at ∷ two ops.Bulk sign_at relation_id_at ∷ one ops.Ins relation_id_at ∷ one ops.Del relation_id_at
    ∷ bare ops.IsFail ∷ bare ops.Smash ∷ bare ops.Merge ∷ []

unfoldable pub op_at : Reader Op
op_at bytes = numbered op_readers bytes

-- by the numbers of instructions
abbrev pub instr_readers : List (Reader Instr)
instr_readers =
    one instrs.Push const_at ∷ one instrs.Load word_at ∷ one instrs.Store word_at ∷ one instrs.Rel relation_id_at ∷ two instrs.Prim op_at word_at
    ∷ one instrs.Host word_at ∷ one instrs.Jump word_at ∷ one instrs.Unless word_at ∷ one instrs.Back word_at ∷ one instrs.Enter word_at
    ∷ bare instrs.Leave ∷ bare instrs.Walk ∷ two instrs.Next word_at word_at ∷ bare instrs.Keep ∷ bare instrs.Gather ∷ bare instrs.Yield
    ∷ bare instrs.Drop ∷ one instrs.Call word_at ∷ bare instrs.Ret ∷ bare instrs.RetVal ∷ one instrs.Print shape_at ∷ one instrs.Apply word_at
    ∷ bare instrs.Commit ∷ bare instrs.Rollback ∷ one instrs.Assert word_at ∷ bare instrs.Halt ∷ []

unfoldable pub instr_at : Reader Instr
instr_at bytes = numbered instr_readers bytes

unfoldable pub instrs_at : Reader (List Instr)
instrs_at bytes = list_at instr_at bytes

-- ---- files

unfoldable pub slot_at : Reader SlotNote
slot_at bytes = shape_at bytes >>= λ shape. word_at shape.1 >>= λ from. word_at from.1 >>= λ to. option_at schema_at to.1 >>= λ gathers. Ok (record { shape = shape.0; from = from.0; to = to.0; gathers = gathers.0 }, gathers.1)

unfoldable pub slots_at : Reader (List SlotNote)
slots_at bytes = list_at slot_at bytes

unfoldable pub body_at : Reader File_body
body_at bytes = word_at bytes >>= λ at. word_at at.1 >>= λ params. flag_at params.1 >>= λ func. option_at shape_at func.1 >>= λ result. slots_at result.1 >>= λ slots.
    Ok (record { at = at.0; params = params.0; func = func.0; result = result.0; slots = slots.0 }, slots.1)

unfoldable pub bodies_at : Reader (List File_body)
bodies_at bytes = list_at body_at bytes

unfoldable pub magic_at : Reader (List ℕ)
magic_at bytes = field 8 (magic_field code_magic bytes) bytes

unfoldable pub parts_at : Reader File
parts_at bytes = magic_at bytes >>= λ magic. relations_at magic.1 >>= λ relations. bodies_at relations.1 >>= λ bodies. instrs_at bodies.1 >>= λ instrs.
    Ok (record { relations = relations.0; bodies = bodies.0; instrs = instrs.0 }, instrs.1)

-- nothing follows
abbrev pub ends : {A : Type 0} → A × List ℕ → Result A ℕ
ends (x, []) = Ok x
ends (x, b ∷ bytes) = Err (length (b ∷ bytes))

-- a whole file
unfoldable pub file_at : List ℕ → Result File ℕ
file_at bytes = parts_at bytes >>= ends
