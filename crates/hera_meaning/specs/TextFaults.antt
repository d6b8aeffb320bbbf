-- Why bytes are no text.
use Rattle.std.specs.Prelude.{ℕ, ◌<◌, ◌≢◌, List, length, All, Contains, IsUtf8}
use Rattle.hera_meaning.specs.declared.scalars.TextFault.{TextFault}
use Rattle.hera_meaning.specs.declared.scalars.TextFault.TheVariants.{BadUtf8, HasZero, TooLong, Memory}
use Rattle.hera_meaning.specs.Texts.{IsText, text_limit}

-- the first rule that the bytes break; none of them where memory is wanting
abbrev pub IsTextFault : List ℕ → TextFault → Type 0
IsTextFault bytes BadUtf8 = ¬ (IsUtf8 bytes)
IsTextFault bytes HasZero = IsUtf8 bytes × Contains bytes 0
IsTextFault bytes TooLong = IsUtf8 bytes × All (λ b. b ≢ 0) bytes × (text_limit < length bytes)
IsTextFault bytes Memory = IsText bytes
