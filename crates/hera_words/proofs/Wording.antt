-- The words at places.
use Rattle.std.proofs.Common.{◌≡◌, ◌<◌, ◌≤◌, ◌+◌, arith, ◌∙◌, ap, sym, ℕ, zero, suc, List, [], ◌∷◌, length, refl, Option, None, Some}
use Rattle.std.specs.Prelude.{String, string_bytes, get_or, IfSome}
use Rattle.std.proofs.lemmas.Bool.Decides.{nat_tests}
use Rattle.hera_words.specs.declared.command.Command.{Command}
use Rattle.std.specs.declared.alloc.Global.{Global}
use Rattle.hera_words.specs.Words.{words_of, word_at, numbered_by, form_of, files_place, with_words, command_by}

pub word_within : (words : List (String Global)) (i : ℕ) (w : String Global) → i < length words → w ≡ get_or words i w → string_bytes w ≡ word_at i (words_of words)
word_within [] i w lt is = absurd (omega (arith, lt))
word_within (x ∷ xs) zero w lt is = ap string_bytes is
word_within (x ∷ xs) (suc i) w lt is = word_within xs i w (omega (arith, lt)) is

pub word_past : (words : List (String Global)) (i : ℕ) → length words ≤ i → word_at i (words_of words) ≡ []
word_past [] i le = refl
word_past (x ∷ xs) zero le = absurd (omega (arith, le))
word_past (x ∷ xs) (suc i) le = word_past xs i (omega (arith, le))

length-words_of : (words : List (String Global)) → length (words_of words) ≡ length words
length-words_of [] = refl
length-words_of (w ∷ words) = ap suc (length-words_of words)

of_another_length : (count : ℕ) (command : Command) → (count ≡ files_place (form_of command) + (form_of command).files → ⊥) → with_words count (Some command) ≡ None
of_another_length count command other = grind (arith, nat_tests, other)

-- a command that has another number of words is none
pub none_by_length : (first : Option Command) (name : List ℕ) (words : List (String Global)) (command : Command)
    → IfSome first (λ f. Some command ≡ numbered_by (form_of f) name (words_of words))
    → (length words ≡ files_place (form_of command) + (form_of command).files → ⊥) → None ≡ command_by first name (words_of words)
none_by_length None name words command is other = refl
none_by_length (Some f) name words command is other =
    sym (ap (with_words (length (words_of words))) (sym is) ∙ of_another_length (length (words_of words)) command (λ e. other (sym (length-words_of words) ∙ e)))

some_is_none : (command : Command) → Some command ≡ None → ⊥
some_is_none command is = cc (is)

of_this_length : (count : ℕ) (command : Command) → count ≡ files_place (form_of command) + (form_of command).files → with_words count (Some command) ≡ Some command
of_this_length count command same = grind (arith, nat_tests, same)

-- and one that has as many is it
pub some_by_length : (first : Option Command) (name : List ℕ) (words : List (String Global)) (command : Command) → (first ≡ None → Some command ≡ None)
    → IfSome first (λ f. Some command ≡ numbered_by (form_of f) name (words_of words))
    → length words ≡ files_place (form_of command) + (form_of command).files → Some command ≡ command_by first name (words_of words)
some_by_length None name words command unknown is same = absurd (some_is_none command (unknown refl))
some_by_length (Some f) name words command unknown is same =
    sym (ap (with_words (length (words_of words))) (sym is) ∙ of_this_length (length (words_of words)) command (length-words_of words ∙ same))
