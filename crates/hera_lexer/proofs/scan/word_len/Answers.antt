use Rattle.std.proofs.Common.{◌≡◌, ◌+◌, ◌++◌, true, length, sym, ◌∙◌, ap, arith}
use Rattle.std.proofs.lemmas.Str.{length-encode, IsUtf8-past_char}
use Rattle.std.proofs.lemmas.List.{length-append}
use Rattle.std.proofs.Math.Utf8.{encode}
use Rattle.unicode_ident.specs.Ident.{is_xid_continue}
use Rattle.hera_lexer.proofs.Words.{word_step}
use Rattle.hera_lexer.proofs.scan.word_len.Goals as goal

-- a character more in the word
pub loop-c-preserved : goal.loop-c-preserved
loop-c-preserved c =
    let e : c.loop-c.rest.rest.now ≡ encode c.in-Some.c ++ c.next.new.self.rest.now = c.in-Some.ensures.steps.0 in
    let h : is_xid_continue c.in-Some.c ≡ true = sym c.is_xid_continue.ensures.value ∙ c.if-not-is_xid_continue.false in
    let step = word_step _ _ _ c.loop-c.invariant.3 e h in
    let size : c.len_utf8-len.result ≡ length (encode c.in-Some.c) = c.len_utf8-len.ensures.value ∙ sym (length-encode c.in-Some.c) in
    let long : length c.loop-c.rest.rest.now ≡ length (encode c.in-Some.c) + length c.next.new.self.rest.now = ap length e ∙ length-append (encode c.in-Some.c) c.next.new.self.rest.now in
    let words = c.loop-c.invariant.2 in
    let lengths = c.loop-c.invariant.4 in
    (tt, tt, omega arith, IsUtf8-past_char _ _ _ c.loop-c.invariant.3 e, omega arith)
