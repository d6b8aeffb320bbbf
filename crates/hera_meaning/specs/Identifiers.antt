-- The shape of an identifier.
use Rattle.std.specs.Prelude.{◌≡◌, ◌≤◌, ℕ, Bool, true, false, ◌&&◌, ◌||◌, ◌==◌, List, [], ◌∷◌, length}
use Rattle.std.specs.List.{list_all}
use Rattle.std.specs.Str.{encode_utf8_all, all_scalars}
use Rattle.hera_meaning.specs.declared.scalars.TheConstants.{NAME_LIMIT}
use Rattle.unicode_ident.specs.Ident.{is_xid_start, is_xid_continue}

-- what may begin a word: `_` or a character with XID_Start
abbrev pub begins_word : ℕ → Bool
begins_word c = (c == 95) || is_xid_start c

-- the characters of a word: one that may begin it, then characters with XID_Continue
abbrev pub is_word : List ℕ → Bool
is_word [] = false
is_word (c ∷ cs) = begins_word c && list_all is_xid_continue cs

-- the most bytes of an identifier
abbrev pub identifier_limit : ℕ
identifier_limit = NAME_LIMIT

-- the bytes are the UTF-8 of a word, and at most 255
pub record IsIdentifier (bytes : List ℕ) : Type 0 where
  pub chars : List ℕ
  pub scalars : all_scalars chars ≡ true
  pub word : is_word chars ≡ true
  pub spelled : encode_utf8_all chars ≡ bytes
  pub short : length bytes ≤ identifier_limit
