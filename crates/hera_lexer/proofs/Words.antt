-- How far a word goes.
use Rattle.std.proofs.Common.{◌≡◌, ℕ, ◌+◌, List, [], ◌∷◌, ◌++◌, length, true, false, IsUtf8, ap, ◌∙◌}
use Rattle.std.proofs.lemmas.Str.{chars_past_char}
use Rattle.std.proofs.lemmas.List.Sums.{take_while-cons}
use Rattle.std.proofs.lemmas.List.{length-append}
use Rattle.std.proofs.lemmas.Bool.{cond-true, cond-false}
use Rattle.std.specs.List.{take_while}
use Rattle.std.specs.Str.{encode_utf8_all, chars}
use Rattle.std.proofs.Math.Utf8.{encode}
use Rattle.unicode_ident.specs.Ident.{is_xid_continue}
use Rattle.hera_lexer.specs.Scan.{word_len}

-- one character more
pub word_step : (bs rest : List ℕ) (c : ℕ) → IsUtf8 bs → bs ≡ encode c ++ rest → is_xid_continue c ≡ true → word_len bs ≡ length (encode c) + word_len rest
word_step bs rest c u e h =
    let front : take_while is_xid_continue (chars bs) ≡ c ∷ take_while is_xid_continue (chars rest) =
    ap (take_while is_xid_continue) (chars_past_char bs rest c u e) ∙ take_while-cons is_xid_continue c (chars rest) ∙ cond-true _ _ _ h in
    ap (λ cs. length (encode_utf8_all cs)) front ∙ length-append (encode c) (encode_utf8_all (take_while is_xid_continue (chars rest)))

pub word_end : (bs rest : List ℕ) (c : ℕ) → IsUtf8 bs → bs ≡ encode c ++ rest → is_xid_continue c ≡ false → word_len bs ≡ 0
word_end bs rest c u e h =
    let front : take_while is_xid_continue (chars bs) ≡ [] =
    ap (take_while is_xid_continue) (chars_past_char bs rest c u e) ∙ take_while-cons is_xid_continue c (chars rest) ∙ cond-false _ _ _ h in
    ap (λ cs. length (encode_utf8_all cs)) front
