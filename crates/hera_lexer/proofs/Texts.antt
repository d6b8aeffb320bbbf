-- What `Text::new` asks of a literal's value and of a name: UTF-8 with no U+0000.
use Rattle.std.proofs.Common.{◌≡◌, ℕ, List, [], ◌∷◌, ◌++◌, Bool, true, not, refl, ap, ◌∙◌, ⊎_elim, arith, IsUtf8}
use Rattle.std.specs.Prelude.{◌==◌}
use Rattle.std.specs.List.{list_all}
use Rattle.std.proofs.Math.Utf8.{encode, encodes, scalar, scalars}
use Rattle.std.proofs.lemmas.Str.{encode_ascii}
use Rattle.std.proofs.lemmas.Bool.{cases_lt, and_parts, and_from, or_parts, not-true, ne_eqb}
use Rattle.std.specs.Prelude.{◌≢◌, ◌≤◌, length, All, false}
use Rattle.std.specs.Str.{chars}
use Rattle.std.proofs.Common.{sym, subst}
use Rattle.std.proofs.lemmas.Str.{encodes-chars, scalars-chars}
use Rattle.std.proofs.lemmas.List.Elements.{All-cons, All-nil}
use Rattle.std.proofs.lemmas.Bool.{eq-eqb}
use Rattle.unicode_ident.specs.Ident.{is_xid_continue}
use Rattle.unicode_ident.proofs.IdentLemmas.{is_xid_continue-ascii}
use Rattle.hera_meaning.specs.Texts.{text_limit}
use Rattle.hera_meaning.specs.Identifiers.{identifier_limit}
use Rattle.hera_syntax.specs.declared.token.PieceShape.TheVariants as shapes
use Rattle.hera_syntax.specs.Lexemes.{Spells, nothing, plain, escaped, IsPiece, word}
use Rattle.hera_meaning.specs.Identifiers.{begins_word}
use Rattle.hera_meaning.specs.Texts.{IsText}
use Rattle.hera_lexer.proofs.Classes.{word_continues}
use Rattle.hera_lexer.specs.Read.{value_of}
use Rattle.hera_lexer.proofs.Walk.{scalars_front}
use Rattle.hera_lexer.proofs.Bytes.{AllHigh, encode_high, not_at}
use Rattle.hera_lexer.proofs.Values.{escapes, scalar_low, is_quoted, value_spells}

-- the value of a literal is characters again
pub spells_scalars : (body value : List ℕ) → Spells body value → scalars body ≡ true → scalars value ≡ true
spells_scalars _ _ nothing s = refl
spells_scalars _ _ (plain {c} {body} {value} h t) s = let both = and_parts (scalar c) (scalars body) s in and_from (scalar c) (scalars value) both.0 (spells_scalars body value t both.1)
spells_scalars _ _ (escaped {c} {d} {body} {value} h t) s =
    let rest = and_parts (scalar c) (scalars body) (and_parts (scalar 92) (scalars (c ∷ body)) s).1 in
    and_from (scalar d) (scalars value) (scalar_low d (escapes c d h).low) (spells_scalars body value t rest.1)

pub value_utf8 : (body value : List ℕ) → Spells body value → scalars body ≡ true → IsUtf8 (encodes value)
value_utf8 body value h s = (value, (spells_scalars body value h s, refl))

abbrev pub no_zero : List ℕ → Bool
no_zero cs = list_all (λ c. not (c == 0)) cs

pub spells_no_zero : (body value : List ℕ) → Spells body value → no_zero value ≡ true
spells_no_zero _ _ nothing = refl
spells_no_zero _ _ (plain {c} {body} {value} h t) = and_from (not (c == 0)) (no_zero value) (ap not (or_parts _ (c == 0) (not-true _ h)).1) (spells_no_zero body value t)
spells_no_zero _ _ (escaped {c} {d} {body} {value} h t) = and_from (not (d == 0)) (no_zero value) (ap not (ne_eqb d 0 (λ e. absurd (let some = (escapes c d h).some in omega arith)))) (spells_no_zero body value t)

zero_high : (bs hs : List ℕ) → AllHigh hs → no_zero bs ≡ true → no_zero (hs ++ bs) ≡ true
zero_high bs [] high h = h
zero_high bs (b ∷ hs) high h = and_from (not (b == 0)) (no_zero (hs ++ bs)) (ap not (not_at b 0 high.0 (omega arith))) (zero_high bs hs high.1 h)

-- so are its bytes
pub bytes_no_zero : (cs : List ℕ) → no_zero cs ≡ true → no_zero (encodes cs) ≡ true
bytes_no_zero [] h = refl
bytes_no_zero (c ∷ cs) h =
    let both = and_parts (not (c == 0)) (no_zero cs) h in
    let rest = bytes_no_zero cs both.1 in
    ⊎_elim
    (λ low. ap (λ x. no_zero (x ++ encodes cs)) (encode_ascii c low) ∙ and_from (not (c == 0)) (no_zero (encodes cs)) both.0 rest)
    (λ high. zero_high (encodes cs) (encode c) (encode_high c high) rest)
    (cases_lt c 128)

zero_continues : is_xid_continue 0 ≡ false
zero_continues = is_xid_continue-ascii 0 (omega arith)

continues_nonzero : (c : ℕ) → is_xid_continue c ≡ true → (c == 0) ≡ false
continues_nonzero c h = ne_eqb c 0 (λ e. let both : true ≡ false = sym h ∙ ap is_xid_continue e ∙ zero_continues in cc)

continues_no_zero : (cs : List ℕ) → list_all is_xid_continue cs ≡ true → no_zero cs ≡ true
continues_no_zero [] h = refl
continues_no_zero (c ∷ cs) h =
    let both = and_parts (is_xid_continue c) (list_all is_xid_continue cs) h in
    and_from (not (c == 0)) (no_zero cs) (ap not (continues_nonzero c both.0)) (continues_no_zero cs both.1)

word_no_zero : (cs : List ℕ) → IsPiece shapes.Word cs → no_zero cs ≡ true
word_no_zero _ (word {c = d} {cs = ds} w) =
    let both = and_parts (begins_word d) (list_all is_xid_continue ds) w in
    and_from (not (d == 0)) (no_zero ds) (ap not (continues_nonzero d (word_continues d both.0))) (continues_no_zero ds both.1)

nonzero : (bs : List ℕ) → no_zero bs ≡ true → All (λ b. b ≢ 0) bs
nonzero [] h = All-nil (λ b. b ≢ 0)
nonzero (b ∷ bs) h =
    let both = and_parts (not (b == 0)) (no_zero bs) h in
    All-cons (λ x. x ≢ 0) b bs (λ e. let same : true ≡ false = sym both.0 ∙ ap not (eq-eqb b 0 e) in cc) (nonzero bs both.1)

-- an identifier is a text
pub word_text : (w : List ℕ) → IsUtf8 w → IsPiece shapes.Word (chars w) → length w ≤ identifier_limit → IsText w
word_text w u h short = record {
  utf8 = u;
  nonzero = nonzero w (subst (λ z. no_zero z ≡ true) (encodes-chars w u) (bytes_no_zero (chars w) (word_no_zero (chars w) h)));
  short = omega (arith, short);
}

-- what a literal spells is a text
pub text_value : (body value : List ℕ) → Spells body value → scalars body ≡ true → length (encodes value) ≤ text_limit → IsText (encodes value)
text_value body value h s short = record {
  utf8 = value_utf8 body value h s;
  nonzero = nonzero (encodes value) (bytes_no_zero value (spells_no_zero body value h));
  short = short;
}

-- the value of a literal is a text
pub quoted_value : (bs v : List ℕ) → IsUtf8 bs → (h : IsPiece shapes.Quoted (chars bs)) → v ≡ value_of false (encodes (is_quoted (chars bs) h).body) → length v ≤ text_limit → IsText v
quoted_value bs v u h e short =
    let is = is_quoted (chars bs) h in
    let same : v ≡ encodes is.value = e ∙ value_spells is.body is.value is.spells in
    let body : scalars is.body ≡ true = scalars_front is.body (34 ∷ []) (and_parts (scalar 34) (scalars (is.body ++ 34 ∷ [])) (subst (λ z. scalars z ≡ true) is.whole (scalars-chars bs u))).1 in
    record {
      utf8 = subst IsUtf8 (sym same) (value_utf8 is.body is.value is.spells body);
      nonzero = subst (All (λ b. b ≢ 0)) (sym same) (nonzero (encodes is.value) (bytes_no_zero is.value (spells_no_zero is.body is.value is.spells)));
      short = short;
    }
