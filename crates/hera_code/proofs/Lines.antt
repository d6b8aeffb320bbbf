-- The lines of instructions, one by one.
use Rattle.std.proofs.Common.{◌≡◌, ◌<◌, ℕ, suc, ◌+◌, ◌-◌, List, ◌∷◌, ◌++◌, take, drop, Some, sym, ap, ◌∙◌, slice_get, append_assoc, add-one, arith}
use Rattle.std.specs.Prelude.{slice_range}
use Rattle.std.proofs.lemmas.List.{drop_more}
use Rattle.std.proofs.lemmas.Option.{get_or_from_slice_get, slice_get_within}
use Rattle.hera_code.specs.declared.instrs.Instr.{Instr}
use Rattle.hera_code.specs.Listing.{instr_line, instr_lines}

-- the first of a range
range_here : (is : List Instr) (at end : ℕ) (x : Instr) → at < end → slice_get is at ≡ Some x → slice_range is at end ≡ x ∷ slice_range is (at + 1) end
range_here is at end x lt here =
    let long : end - at ≡ suc (end - (at + 1)) = omega arith in
    let from : drop at is ≡ x ∷ drop (at + 1) is = drop_more is at x (slice_get_within is at x here) ∙ ap (λ (y : Instr). y ∷ drop (at + 1) is) (get_or_from_slice_get is at x x here) in
    (λ t. take (long t) (from t))

pub lines_on : (out out' all : List ℕ) (is : List Instr) (at end : ℕ) (x : Instr) → at < end → slice_get is at ≡ Some x → out' ≡ out ++ instr_line at x → out ++ instr_lines at (slice_range is at end) ≡ all → out' ++ instr_lines (at + 1) (slice_range is (at + 1) end) ≡ all
lines_on out out' all is at end x lt here e h =
    let rest = slice_range is (at + 1) end in
    let cons : slice_range is at end ≡ x ∷ rest = range_here is at end x lt here in
    let line : instr_lines at (x ∷ rest) ≡ instr_line at x ++ instr_lines (at + 1) rest = ap (λ n. instr_line at x ++ instr_lines n rest) (sym (add-one at)) in
    ap (λ o. o ++ instr_lines (at + 1) rest) e ∙ append_assoc out (instr_line at x) (instr_lines (at + 1) rest) ∙ ap (λ t. out ++ t) (sym (ap (instr_lines at) cons ∙ line)) ∙ h
