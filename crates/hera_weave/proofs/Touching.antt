-- Whether code touches a delta, an instruction at a time.
use Rattle.std.proofs.Common.{◌≡◌, ℕ, ◌+◌, Bool, true, false, List, [], ◌∷◌, drop, Some, sym, ap, ◌∙◌, append-nil}
use Rattle.std.specs.Prelude.{slice_get, ◌||◌}
use Rattle.std.specs.List.{list_any}
use Rattle.std.proofs.lemmas.Bool.{false≢true}
use Rattle.std.proofs.lemmas.List.{drop_more}
use Rattle.std.proofs.lemmas.List.Folds.{list_any-append}
use Rattle.std.proofs.lemmas.Option.{get_or_from_slice_get, slice_get_within}
use Rattle.hera_meaning.specs.Deltas.{Delta, fail, atoms}
use Rattle.hera_code.specs.declared.instrs.Instr.{Instr}
use Rattle.hera_sessions.specs.Reads.{is_named, touches}
use Rattle.hera_sessions.specs.Scanning.{rel_of, scanned}

drop_here : (is : List Instr) (at : ℕ) (x : Instr) → slice_get is at ≡ Some x → drop at is ≡ x ∷ drop (at + 1) is
drop_here is at x here = drop_more is at x (slice_get_within is at x here) ∙ ap (λ (y : Instr). y ∷ drop (at + 1) is) (get_or_from_slice_get is at x x here)

-- one that touches nothing is left behind
pub touched_on : (is : List Instr) (at : ℕ) (x : Instr) (d : Delta) (all : Bool) → slice_get is at ≡ Some x → touches (scanned (x ∷ [])) d ≡ false → touches (scanned (drop at is)) d ≡ all → touches (scanned (drop (at + 1) is)) d ≡ all
touched_on is at x fail all here clean h = h
touched_on is at x (atoms xs) all here clean h =
    let rest = drop (at + 1) is in
    let p : ℕ → Bool = λ r. is_named xs r in
    let none : list_any p (rel_of x) ≡ false = ap (list_any p) (sym (append-nil (rel_of x))) ∙ clean in
    sym (ap (λ (b : Bool). b || list_any p (scanned rest)) none) ∙ sym (list_any-append p (rel_of x) (scanned rest)) ∙ ap (λ (js : List Instr). list_any p (scanned js)) (sym (drop_here is at x here)) ∙ h

-- one that touches the delta decides
pub touched_here : (is : List Instr) (at : ℕ) (x : Instr) (d : Delta) (all : Bool) → slice_get is at ≡ Some x → touches (scanned (x ∷ [])) d ≡ true → touches (scanned (drop at is)) d ≡ all → true ≡ all
touched_here is at x fail all here hit h = absurd (false≢true hit)
touched_here is at x (atoms xs) all here hit h =
    let rest = drop (at + 1) is in
    let p : ℕ → Bool = λ r. is_named xs r in
    let some : list_any p (rel_of x) ≡ true = ap (list_any p) (sym (append-nil (rel_of x))) ∙ hit in
    sym (ap (λ (b : Bool). b || list_any p (scanned rest)) some) ∙ sym (list_any-append p (rel_of x) (scanned rest)) ∙ ap (λ (js : List Instr). list_any p (scanned js)) (sym (drop_here is at x here)) ∙ h
