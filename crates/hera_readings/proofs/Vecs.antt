-- A `Vec` of any list that is short enough, and what a `Box` in a tree keeps beside its value.
use Rattle.std.proofs.Common.{◌≡◌, ◌<◌, ◌^◌, ℕ, zero, suc, List, [], ◌∷◌, length, refl, ap, le_refl, Vec, Global}
use Rattle.std.specs.Prelude.{Box}
use Rattle.std_alloc.specs.contracts.vec.Vec as vecs
use Rattle.std_alloc.specs.contracts.boxed.Box as boxes
use Rattle.std_alloc.specs.formers.vec.Vec.{holding}
use Rattle.std_heap.specs.contracts.Global as heaps
use Rattle.core.specs.contracts.rt.Memory as memories
use Rattle.core.specs.declared.alloc.Allocator.{Ghosts}
use denote.RawPtr.{null_ptr}
use denote.Plain.{Nothing}
use base.Fml.{ftrue}

-- an allocator; no outline sees which
pub heap : Global
heap = heaps.struct.make (memories.struct.make (tt, tt) tt, tt) tt

-- of its blocks nothing is said
abbrev pub ghosts : Ghosts Global
ghosts = record { dealloc_token = λ a t p. ftrue }

-- what a box in a tree keeps, but for its value
pub box : Box (Unit {0}) Global
box = (boxes.struct Nothing heaps.the_row ghosts).make (null_ptr, (heap, tt)) (tt, tt)

abbrev pub units : ℕ → List (Unit {0})
units zero = []
units (suc n) = tt ∷ units n

pub long_units : (n : ℕ) → n ≡ length (units n)
long_units zero = refl
long_units (suc n) = ap suc (long_units n)

-- a `Vec` of this many units
abbrev pub room : (n : ℕ) → n < 2 ^ 63 → Vec (Unit {0}) Global
room n short = (vecs.struct Nothing heaps.the_row ghosts).make (null_ptr, (n, (n, (heap, tt)))) (units n, ((long_units n, le_refl n), (short, tt)))

-- these items in a `Vec`
abbrev pub vec_of : {A : Type 0} (xs : List A) → length xs < 2 ^ 63 → Vec A Global
vec_of xs short = holding (room (length xs) short) xs (refl, le_refl (length xs))
