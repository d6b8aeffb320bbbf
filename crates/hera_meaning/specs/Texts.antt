-- The bytes of texts.
use Rattle.std.specs.Prelude.{ℕ, ◌≤◌, ◌≢◌, Bool, ◌&&◌, List, length, nat_lt, nat_le, All, IsUtf8}
use Rattle.std.specs.List.{list_all}
use Rattle.std.specs.Str.{is_utf8}
use Rattle.hera_meaning.specs.declared.scalars.TheConstants.{TEXT_LIMIT}

-- the most bytes of a text
abbrev pub text_limit : ℕ
text_limit = TEXT_LIMIT

-- UTF-8 of at most 1,023 bytes without a zero byte
pub record IsText (bytes : List ℕ) : Type 0 where
  pub utf8 : IsUtf8 bytes
  pub nonzero : All (λ b. b ≢ 0) bytes
  pub short : length bytes ≤ text_limit

-- the same as a test
abbrev pub is_text : List ℕ → Bool
is_text bytes = nat_le (length bytes) text_limit && list_all (λ b. nat_lt 0 b) bytes && is_utf8 bytes
