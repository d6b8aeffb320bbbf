-- Which instructions name addresses of a stretch.
use Rattle.std.specs.Prelude.{◌≡◌, ◌<◌, ◌≤◌, ℕ, ◌+◌, cond, nat_lt, nat_le, ◌||◌, List, Option, None, Some, length, slice_get, slice_set, slice_index_or}
use Rattle.hera_code.specs.declared.instrs.Instr.{Instr}
use Rattle.hera_code.specs.declared.instrs.Instr.TheVariants.{Jump, Unless, Back, Next}
use Rattle.hera_verify.specs.declared.spans.Span.{Span}

-- the address that an instruction names
abbrev pub named : Instr → Option ℕ
named (Jump b) = Some b
named (Unless b) = Some b
named (Back b) = Some b
named (Next i b) = Some b
named _ = None

-- the lesser of the least, and the greater of the greatest
abbrev pub spanned : Span → Span → Span
spanned s t = record { least = cond (nat_lt t.least s.least) t.least s.least; greatest = cond (nat_lt s.greatest t.greatest) t.greatest s.greatest }

abbrev pub joined : Option Span → Option Span → Option Span
joined None t = t
joined (Some s) None = Some s
joined (Some s) (Some t) = Some (spanned s t)

-- the instruction at `source` names this address of the code, where it names one
abbrev pub noted : List (Option Span) → Option ℕ → ℕ → List (Option Span)
noted spans None source = spans
noted spans (Some b) source = cond (nat_lt b (length spans)) (slice_set spans b (joined (slice_index_or spans b None) (Some (record { least = source; greatest = source })))) spans

-- the lesser of an address behind the code, which is so long, and what is named
abbrev pub farther : Option ℕ → Option ℕ → ℕ → Option ℕ
farther far None len = far
farther None (Some b) len = cond (nat_lt b len) None (Some b)
farther (Some far) (Some b) len = Some (cond (nat_lt b len || nat_le far b) far b)

module _ (instrs : List Instr) where
  -- below `count` the instruction at a names an address from lo up to before hi
  pub record Names_in (count lo hi a : ℕ) : Type 0 where
    pub instr : Instr
    pub to : ℕ
    pub here : slice_get instrs a ≡ Some instr
    pub names : named instr ≡ Some to
    pub below : a < count
    pub from : lo ≤ to
    pub upto : to < hi

  -- the least and the greatest address of those that do, where one does
  abbrev pub IsSpan : ℕ → ℕ → ℕ → Option Span → Type 0
  IsSpan count lo hi None = (a : ℕ) → Names_in count lo hi a → ⊥
  IsSpan count lo hi (Some s) = Names_in count lo hi s.least × Names_in count lo hi s.greatest × ((a : ℕ) → Names_in count lo hi a → (s.least ≤ a) × (a ≤ s.greatest))

  -- for each address the span of so many addresses from it on, of the first instructions
  pub record AreSpans (count width : ℕ) (spans : List (Option Span)) : Type 0 where
    pub long : length spans ≡ length instrs
    pub covers : (b : ℕ) (o : Option Span) → slice_get spans b ≡ Some o → b + width ≤ length instrs → IsSpan count b (b + width) o

  -- the least address behind the code that one of the first instructions names
  abbrev pub IsFar : ℕ → Option ℕ → Type 0
  IsFar count None = (a b : ℕ) (i : Instr) → slice_get instrs a ≡ Some i → named i ≡ Some b → a < count → b < length instrs
  IsFar count (Some far) = (length instrs ≤ far) × ((a : ℕ) × (i : Instr) × (slice_get instrs a ≡ Some i) × (named i ≡ Some far) × (a < count)) × ((a b : ℕ) (i : Instr) → slice_get instrs a ≡ Some i → named i ≡ Some b → a < count → length instrs ≤ b → far ≤ b)

  -- for each address that of the instructions before it
  pub record AreFar (fars : List (Option ℕ)) : Type 0 where
    pub long : length fars ≡ length instrs
    pub far : (a : ℕ) (o : Option ℕ) → slice_get fars a ≡ Some o → IsFar a o
