-- Words: their first character, and all of them.
use Rattle.std.proofs.Common.{◌≡◌, ◌≤◌, ℕ, Bool, true, false, ◌&&◌, ◌==◌, List, [], ◌∷◌, Some, length, refl, sym, ap, subst, ◌∙◌, slice_get, inl, inr, arith}
use Rattle.std.specs.List.{list_all}
use Rattle.std.specs.Str.{IsUtf8, chars}
use Rattle.std.proofs.lemmas.Bool.{or_cases, eqb-true}
use Rattle.std.proofs.lemmas.Option.{none-some, same_Some}
use Rattle.std.proofs.lemmas.Str.{chars_from_encodes, encodes-chars, scalars-chars}
use Rattle.unicode_ident.specs.Ident.{is_xid_start, is_xid_continue}
use Rattle.unicode_ident.proofs.IdentLemmas.{is_xid_continue-ascii, is_xid_start-is_xid_continue}
use Rattle.hera_meaning.specs.Identifiers.{IsIdentifier, begins_word, is_word, identifier_limit}

-- a character that may begin a word may also go on with one
pub word_continues : (c : ℕ) → begins_word c ≡ true → is_xid_continue c ≡ true
word_continues c h =
    elim (or_cases (c == 95) (is_xid_start c) h) [
      | inl e ↦ ap is_xid_continue (eqb-true c 95 e) ∙ is_xid_continue-ascii 95 (omega arith)
      | inr s ↦ is_xid_start-is_xid_continue c s
    ]

pub word_from : (cs : List ℕ) (c : ℕ) (v : Bool) → slice_get cs 0 ≡ Some c → begins_word c ≡ true → v ≡ list_all is_xid_continue cs → v ≡ is_word cs
word_from [] c v h b e = absurd (none-some c h)
word_from (d ∷ ds) c v h b e =
    let same : d ≡ c = same_Some d c h in
    rw (subst (λ x. begins_word x ≡ true) (sym same) b)
    (e ∙ ap (λ x. x && list_all is_xid_continue ds) (ap is_xid_continue same ∙ word_continues c b))

pub no_word : (cs : List ℕ) (c : ℕ) → slice_get cs 0 ≡ Some c → begins_word c ≡ false → is_word cs ≡ false
no_word [] c h b = refl
no_word (d ∷ ds) c h b = rw (subst (λ x. begins_word x ≡ false) (sym (same_Some d c h)) b) refl

-- the test and the shape
pub identifier_from : (bytes : List ℕ) → IsUtf8 bytes → length bytes ≤ identifier_limit → is_word (chars bytes) ≡ true → IsIdentifier bytes
identifier_from bytes utf8 short word =
    record {
      chars = chars bytes;
      scalars = scalars-chars bytes utf8;
      word = word;
      spelled = encodes-chars bytes utf8;
      short = short;
    }

pub identifier_utf8 : (bytes : List ℕ) → IsIdentifier bytes → IsUtf8 bytes
identifier_utf8 bytes h = (h.chars, (h.scalars, h.spelled))

pub identifier_word : (bytes : List ℕ) → IsIdentifier bytes → is_word (chars bytes) ≡ true
identifier_word bytes h = ap is_word (sym (chars_from_encodes h.chars bytes (h.chars, (h.scalars, h.spelled)) h.spelled)) ∙ h.word
