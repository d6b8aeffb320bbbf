-- What was read can be written.
use Rattle.std.proofs.Common.{◌≡◌, ◌<◌, ◌≤◌, ℕ, zero, suc, ◌+◌, List, [], ◌∷◌, length, take, get_or, Option, Some, None, sym, ap, subst, ◌∙◌, add-one}
use Rattle.std.specs.Prelude.{IfSome}
use Rattle.std.specs.List.{AllByRecursion, slice_get}
use Rattle.std.proofs.lemmas.List.{take_all}
use Rattle.std.proofs.lemmas.Option.{none-some, same_Some, slice_get-get_or}
use Rattle.hera_meaning.specs.declared.trees.Shape.{Shape}
use Rattle.hera_meaning.specs.declared.trees.Shape.TheVariants as shapes
use Rattle.hera_meaning.specs.declared.trees.Op.{Op}
use Rattle.hera_meaning.specs.declared.trees.Op.TheVariants as ops
use Rattle.hera_code.specs.declared.instrs.Instr.{Instr}
use Rattle.hera_code.specs.declared.instrs.Instr.TheVariants as instrs
use Rattle.hera_typed.specs.declared.notes.SlotNote.{SlotNote}
use Rattle.hera_code_file.specs.Printing.{File_body, File}
use Rattle.hera_code_file.specs.Fitting.{IsNamed, ShapeFits, OpFits, InstrFits, SlotFits, BodyFits, FileFits}
use Rattle.hera_code_writer.specs.Writable.{AreNames, ShapeStands, OpStands, InstrStands, SlotStands, BodyStands, FileStands}

-- one of a list more
pub all_suc : {A : Type 0} (P : A → Type 0) (xs : List A) (i : ℕ) (x : A) → slice_get xs i ≡ Some x → AllByRecursion P (take i xs) → P x → AllByRecursion P (take (suc i) xs)
all_suc P [] i x h all here = absurd (none-some x h)
all_suc P (y ∷ xs) zero x h all here = (subst P (sym (same_Some y x h)) here, tt)
all_suc P (y ∷ xs) (suc i) x h all here = (all.0, all_suc P xs i x h all.1 here)

pub all_at : {A : Type 0} (P : A → Type 0) (xs : List A) (i : ℕ) (x : A) → slice_get xs i ≡ Some x → AllByRecursion P (take i xs) → P x → AllByRecursion P (take (i + 1) xs)
all_at P xs i x h all here = subst (λ n. AllByRecursion P (take n xs)) (sym (add-one i)) (all_suc P xs i x h all here)

pub all_more : {A : Type 0} (P : A → Type 0) (xs : List A) (i : ℕ) (x : A) → i < length xs → x ≡ get_or xs i x → AllByRecursion P (take i xs) → P x → AllByRecursion P (take (i + 1) xs)
all_more P xs i x lt same all here = all_at P xs i x (slice_get-get_or xs i x lt ∙ ap (λ y. Some y) (sym same)) all here

pub there : {A : Type 0} (xs : List A) (i : ℕ) (x : A) → i < length xs → x ≡ get_or xs i x → slice_get xs i ≡ Some x
there xs i x lt same = slice_get-get_or xs i x lt ∙ ap (λ y. Some y) (sym same)

pub all_done : {A : Type 0} (P : A → Type 0) (xs : List A) (i : ℕ) → length xs ≤ i → AllByRecursion P (take i xs) → AllByRecursion P xs
all_done P xs i le all = subst (AllByRecursion P) (take_all i xs le) all

each_stands : {A : Type 0} (P Q : A → Type 0) → ((x : A) → P x → Q x) → (xs : List A) → AllByRecursion P xs → AllByRecursion Q xs
each_stands P Q f [] h = tt
each_stands P Q f (x ∷ xs) h = (f x h.0, each_stands P Q f xs h.1)

if_stands : {A : Type 0} (P Q : A → Type 0) → ((x : A) → P x → Q x) → (o : Option A) → IfSome o P → IfSome o Q
if_stands P Q f None h = tt
if_stands P Q f (Some x) h = f x h

shape_stands : (s : Shape) → ShapeFits s → ShapeStands s
shape_stands (shapes.Tuple schema) h = h.names
shape_stands (shapes.Rel schema) h = h.names
shape_stands _ h = tt

op_stands : (op : Op) → OpFits op → OpStands op
op_stands (ops.Field schema i) h = (h.0.names, h.1)
op_stands (ops.MakeRow schema) h = h.names
op_stands (ops.Project schema places) h = (h.0.names, h.1)
op_stands (ops.Join left right) h = (h.0.names, h.1.names)
op_stands (ops.Group schema by aggs) h = (h.0.names, h.1, h.2)
op_stands (ops.Sum schema i) h = (h.0.names, h.1)
op_stands (ops.Min schema i) h = (h.0.names, h.1)
op_stands (ops.Max schema i) h = (h.0.names, h.1)
op_stands _ h = tt

instr_stands : (i : Instr) → InstrFits i → InstrStands i
instr_stands (instrs.Prim op at) h = op_stands op h.0
instr_stands (instrs.Print shape) h = shape_stands shape h
instr_stands _ h = tt

slot_stands : (s : SlotNote) → SlotFits s → SlotStands s
slot_stands s h = record { shape = shape_stands s.shape h.shape; gathers = if_stands IsNamed AreNames (λ schema n. n.names) s.gathers h.gathers }

body_stands : (b : File_body) → BodyFits b → BodyStands b
body_stands b h = record { result = if_stands ShapeFits ShapeStands shape_stands b.result h.result; slots = (h.slots.0, each_stands SlotFits SlotStands slot_stands b.slots h.slots.1) }

pub file_stands : (f : File) → FileFits f → FileStands f
file_stands f h = record {
  relations = h.relations;
  bodies = (h.bodies.0, each_stands BodyFits BodyStands body_stands f.bodies h.bodies.1);
  instrs = (h.instrs.0, each_stands InstrFits InstrStands instr_stands f.instrs h.instrs.1);
}
