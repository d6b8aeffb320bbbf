-- Instructions that are kept by the numbers of their kinds.
use Rattle.std.proofs.Common.{Bor, ◌≡◌, ◌<◌, ℕ, zero, suc, List, [], ◌∷◌, ◌++◌, length, get_or, Option, Some, None, refl, sym, ap, ◌∙◌, slice_get, append_assoc, arith}
use Rattle.std.specs.Prelude.{is_some, nat_lt, IfSome}
use Rattle.std.proofs.lemmas.Bool.{ltb-true}
use Rattle.std.proofs.lemmas.List.{map-append, append-nil, get_or_append_left}
use Rattle.std.proofs.lemmas.List.Elements.{All-head, All-tail}
use Rattle.std.proofs.lemmas.Option.{none-some, get_or_from_slice_get, slice_get_read}
use Rattle.hera_code.specs.declared.instrs.Instr.{Instr}
use Rattle.hera_code.specs.declared.instrs.Instr.TheVariants.{Halt}
use Rattle.hera_code.specs.Numbered.{numbered, AreKinds, HasMore}

-- the kinds of numbers stay where more kinds come
same_with_more : (kinds more : List Instr) (numbers : List ℕ) → AreKinds kinds numbers → numbered (kinds ++ more) numbers ≡ numbered kinds numbers
same_with_more kinds more [] h = refl
same_with_more kinds more (k ∷ ks) h =
    ap (λ (x : Instr). x ∷ numbered (kinds ++ more) ks) (get_or_append_left kinds more Halt k (All-head (λ (n : ℕ). n < length kinds) k ks h))
    ∙ ap (λ (is : List Instr). get_or kinds k Halt ∷ is) (same_with_more kinds more ks (All-tail (λ (n : ℕ). n < length kinds) k ks h))

same_view : (row before after : List Instr) (numbers : List ℕ) → HasMore before after → AreKinds before numbers → row ++ numbered after numbers ≡ row ++ numbered before numbers
same_view row before after numbers more h =
    ap (λ (is : List Instr). row ++ is) (ap (λ (ks : List Instr). numbered ks numbers) more.is ∙ same_with_more before more.more numbers h)

-- one more by its number
numbered_more : (kinds : List Instr) (numbers : List ℕ) (k : ℕ) (x : Instr) → slice_get kinds k ≡ Some x → numbered kinds (numbers ++ k ∷ []) ≡ numbered kinds numbers ++ x ∷ []
numbered_more kinds numbers k x h =
    map-append (λ (n : ℕ). get_or kinds n Halt) numbers (k ∷ []) ∙ ap (λ (y : Instr). numbered kinds numbers ++ y ∷ []) (get_or_from_slice_get kinds k x Halt h)

pub view_more : (row before after : List Instr) (numbers numbers' : List ℕ) (k : ℕ) (x : Instr) → HasMore before after → AreKinds before numbers → slice_get after k ≡ Some x → numbers' ≡ numbers ++ k ∷ [] → row ++ numbered after numbers' ≡ (row ++ numbered before numbers) ++ x ∷ []
view_more row before after numbers numbers' k x more h here e =
    ap (λ ns. row ++ numbered after ns) e
    ∙ ap (λ (is : List Instr). row ++ is) (numbered_more after numbers k x here)
    ∙ sym (append_assoc row (numbered after numbers) (x ∷ []))
    ∙ ap (λ (is : List Instr). is ++ x ∷ []) (same_view row before after numbers more h)

-- one more in the row, while nothing stands behind it
pub row_more : (row row' kinds : List Instr) (numbers : List ℕ) (x : Instr) → length numbers ≡ 0 → row' ≡ row ++ x ∷ [] → row' ++ numbered kinds numbers ≡ (row ++ numbered kinds numbers) ++ x ∷ []
row_more row row' kinds [] x h e = ap (λ is. is ++ []) e ∙ append-nil (row ++ x ∷ []) ∙ ap (λ is. is ++ x ∷ []) (sym (append-nil row))
row_more row row' kinds (n ∷ numbers) x h e = absurd (omega arith)

-- what stands at a place of the row stands there among all
near_here : (row more : List Instr) (at : ℕ) (x : Instr) → slice_get row at ≡ Some x → slice_get (row ++ more) at ≡ Some x
near_here [] more at x h = absurd (none-some x h)
near_here (y ∷ row) more zero x h = h
near_here (y ∷ row) more (suc at) x h = near_here row more at x h

pub near_row : (row more : List Instr) (at : ℕ) (r : Option (Bor Instr)) → is_some r ≡ nat_lt at (length row) → IfSome r (λ x. x.now ≡ get_or row at x.now) → IfSome r (λ x. slice_get (row ++ more) at ≡ Some x.now)
near_row row more at None is h = tt
near_row row more at (Some x) is h = near_here row more at x.now (slice_get_read row (length row) at x.now refl (ltb-true at (length row) (sym is)) h)
