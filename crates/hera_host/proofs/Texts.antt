-- The bytes of a text pass the tests of one.
use Rattle.std.proofs.Common.{◌≡◌, ◌≢◌, ℕ, ◌<◌, true, List, [], ◌∷◌, length, refl, arith, nat_lt, All}
use Rattle.std.specs.List.{list_all}
use Rattle.std.proofs.lemmas.Bool.{le-leb, lt-ltb, and_from}
use Rattle.std.proofs.lemmas.List.Elements.{All-head, All-tail}
use Rattle.std.proofs.lemmas.Str.{is_utf8-from_IsUtf8}
use Rattle.hera_meaning.specs.Texts.{IsText, is_text, text_limit}

no_zero-from_All : (t : List ℕ) → All (λ b. b ≢ 0) t → list_all (λ b. nat_lt 0 b) t ≡ true
no_zero-from_All [] h = refl
no_zero-from_All (x ∷ xs) h =
    rw (lt-ltb 0 x (omega (arith, All-head (λ b. b ≢ 0) x xs h))) (no_zero-from_All xs (All-tail (λ b. b ≢ 0) x xs h))

pub is_text-from_IsText : (t : List ℕ) → IsText t → is_text t ≡ true
is_text-from_IsText t h =
    and_from _ _ (and_from _ _ (le-leb (length t) text_limit h.short) (no_zero-from_All t h.nonzero)) (is_utf8-from_IsUtf8 t h.utf8)
