-- A source that tells what it has left tells the whole text.
use Rattle.std.proofs.Common.{◌≡◌, ℕ, ◌<◌, ◌≤◌, ◌⊎◌, ⊎_elim, List, [], ◌++◌, length, Option, Some, None, sym, ap, ◌∙◌, subst, arith, length-append, append-nil}
use Rattle.std.specs.Io.KnownBytes.{Consumes, IsAtEnd}
use Rattle.hera_host.specs.Tables.{Host}
use Rattle.hera_words.specs.declared.command.Command.{Command}
use Rattle.hera_script.specs.Refusing.{IsRefused, too_long, bad_utf8, bad_token, too_deep, syntax, types}
use Rattle.hera_syntax.specs.Tokens.{script_limit}
use Rattle.hera_outcome.specs.Outcomes.{Outcome}
use Rattle.hera_outcome.specs.Passages.{Start}
use Rattle.hera_top.specs.Commands.{ComesToFor, refuses, performs}
use Rattle.hera_top.specs.Sources.{Seen, IsRead}
use Rattle.hera_script.specs.declared.cause.Cause.{Cause}

-- bytes beyond the limit are refused, whatever follows them
beyond_refused : (hosts : List Host) (script bytes left : List ℕ) (cause : Cause) (at : ℕ) → script ≡ bytes ++ left → script_limit < length bytes → IsRefused hosts bytes cause at → IsRefused hosts script cause at
beyond_refused hosts script bytes left _ _ is long (too_long more) = too_long (let both = ap length is ∙ length-append bytes left in omega arith)
beyond_refused hosts script bytes left _ _ is long (bad_utf8 short bad) = absurd (omega arith)
beyond_refused hosts script bytes left _ _ is long (bad_token short fails) = absurd (omega arith)
beyond_refused hosts script bytes left _ _ is long (too_deep short lexed deep) = absurd (omega arith)
beyond_refused hosts script bytes left _ _ is long (syntax has fault) = absurd (let short = has.short in omega arith)
beyond_refused hosts script bytes left _ _ is long (types has text first is_fault) = absurd (let short = has.short in omega arith)

too_long_whole : (hosts : List Host) (command : Command) (script bytes left : List ℕ) (s : Start) (outcome : Outcome) → script ≡ bytes ++ left → script_limit < length bytes → ComesToFor hosts bytes s command outcome → ComesToFor hosts script s command outcome
too_long_whole hosts command script bytes left s _ is long (refuses refused) = refuses (beyond_refused hosts script bytes left _ _ is long refused)
too_long_whole hosts command script bytes left s _ is long (performs short accepted done) = absurd (omega arith)

told_for : (hosts : List Host) (command : Command) (script bytes : List ℕ) (left : Option (List ℕ)) (s : Start) (outcome : Outcome) → Consumes (Some script) left bytes → IsAtEnd left ⊎ (script_limit < length bytes) → ComesToFor hosts bytes s command outcome → ComesToFor hosts script s command outcome
told_for hosts command script bytes None s outcome consumed ended comes = absurd consumed
told_for hosts command script bytes (Some left) s outcome consumed ended comes =
    ⊎_elim
    (λ (at_end : left ≡ []). subst (λ (l : List ℕ). ComesToFor hosts l s command outcome) (sym (consumed ∙ ap (λ (l : List ℕ). bytes ++ l) at_end ∙ append-nil bytes)) comes)
    (λ (long : script_limit < length bytes). too_long_whole hosts command script bytes left s outcome consumed long comes) ended

pub told_outcome : (hosts : List Host) (command : Command) (script bytes : List ℕ) (before now : Seen) (s : Start) (outcome : Outcome) → before.left ≡ Some script → IsRead script_limit before now bytes → ComesToFor hosts bytes s command outcome → ComesToFor hosts script s command outcome
told_outcome hosts command script bytes before now s outcome is read comes = told_for hosts command script bytes now.left s outcome (subst (λ (l : Option (List ℕ)). Consumes l now.left bytes) is read.consumed) read.ended comes

-- ---- files

whole_or_long : (limit : ℕ) (text bytes : List ℕ) (left : Option (List ℕ)) → Consumes (Some text) left bytes → IsAtEnd left ⊎ (limit < length bytes) → length bytes ≤ limit → text ≡ bytes
whole_or_long limit text bytes None consumed ended short = absurd consumed
whole_or_long limit text bytes (Some left) consumed ended short =
    ⊎_elim (λ (at_end : left ≡ []). consumed ∙ ap (λ (l : List ℕ). bytes ++ l) at_end ∙ append-nil bytes) (λ (long : limit < length bytes). absurd (omega (arith, long, short))) ended

longer : (limit : ℕ) (text bytes : List ℕ) (left : Option (List ℕ)) → Consumes (Some text) left bytes → limit < length bytes → limit < length text
longer limit text bytes None consumed long = absurd consumed
longer limit text bytes (Some left) consumed long = let both = ap length consumed ∙ length-append bytes left in omega (arith, both, long)

-- what came within the limit is the whole text, and past it the text is longer too
pub whole_text : (limit : ℕ) (text bytes : List ℕ) (before now : Seen) → before.left ≡ Some text → IsRead limit before now bytes → length bytes ≤ limit → text ≡ bytes
whole_text limit text bytes before now is read short = whole_or_long limit text bytes now.left (subst (λ (l : Option (List ℕ)). Consumes l now.left bytes) is read.consumed) read.ended short

pub long_text : (limit : ℕ) (text bytes : List ℕ) (before now : Seen) → before.left ≡ Some text → IsRead limit before now bytes → limit < length bytes → limit < length text
long_text limit text bytes before now is read long = longer limit text bytes now.left (subst (λ (l : Option (List ℕ)). Consumes l now.left bytes) is read.consumed) long
