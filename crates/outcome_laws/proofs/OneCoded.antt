-- A run of a code file comes to one outcome, and a pack to one up to its notes.
use Rattle.std.proofs.Common.{◌≡◌, ◌≢◌, ◌∙◌, ℕ, List, length, refl, sym, ap, subst, arith}
use Rattle.hera_meaning.specs.Hosts.{Hosts}
use Rattle.hera_host.specs.Tables.{Host, specs_of}
use Rattle.hera_outcome.specs.declared.refusal.Refusal.TheVariants.{Unread}
use Rattle.hera_outcome.specs.Outcomes.{Outcome, refused}
use Rattle.hera_packed.specs.Executed.{code_limit, ExecutesTo}
use Rattle.hera_top.specs.Coding.{OfCode, no_code, too_much_code, has_code}
use Rattle.hera_top.specs.Sources.{Seen}
use Rattle.hera_top.specs.Told.{HaveLeft}
use Rattle.outcome_laws.proofs.OneOutcome.{first_text, told_text}
use Rattle.outcome_laws.proofs.Wholes.{whole_text, long_text}

-- the bytes of a code file come to one outcome
abbrev pub OneExecuted : Type 0
OneExecuted = (hosts : Hosts) (turns : ℕ) (bytes : List ℕ) (a b : Outcome) → ExecutesTo hosts turns bytes a → ExecutesTo hosts turns bytes b → a ≡ b

pub one_of_code : OneExecuted → (hosts : List Host) (turns : ℕ) (texts : List (List ℕ)) (before now later after : List Seen) (a b : Outcome) → HaveLeft texts before → HaveLeft texts later → OfCode hosts turns before now a → OfCode hosts turns later after b → a ≢ refused Unread → b ≢ refused Unread → a ≡ b
one_of_code one hosts turns texts _ _ _ _ _ b x y (no_code is) second_one not_a not_b = absurd (not_a refl)
one_of_code one hosts turns texts _ _ _ _ _ _ x y (too_much_code file read long) (no_code is) not_a not_b = absurd (not_b refl)
one_of_code one hosts turns texts _ _ _ _ _ _ x y (too_much_code file read long) (too_much_code other_file also_read past) not_a not_b = refl
one_of_code one hosts turns texts _ _ _ _ _ _ x y (too_much_code {b = p} {n = q} file read long) (has_code {b = m} {n = k} other_file also_read short came) not_a not_b =
    let over = long_text code_limit (first_text texts) file p q (told_text p texts x) read long in
    let whole = ap length (whole_text code_limit (first_text texts) other_file m k (told_text m texts y) also_read short) in
    absurd (omega (arith, over, whole, short))
one_of_code one hosts turns texts _ _ _ _ a _ x y (has_code file read short came) (no_code is) not_a not_b = absurd (not_b refl)
one_of_code one hosts turns texts _ _ _ _ a _ x y (has_code {b = p} {n = q} file read short came) (too_much_code {b = m} {n = k} other_file also_read long) not_a not_b =
    let over = long_text code_limit (first_text texts) other_file m k (told_text m texts y) also_read long in
    let whole = ap length (whole_text code_limit (first_text texts) file p q (told_text p texts x) read short) in
    absurd (omega (arith, over, whole, short))
one_of_code one hosts turns texts _ _ _ _ a b x y (has_code {b = p} {n = q} file read short came) (has_code {b = m} {n = k} other_file also_read fits too) not_a not_b =
    let here = whole_text code_limit (first_text texts) file p q (told_text p texts x) read short in
    let there = whole_text code_limit (first_text texts) other_file m k (told_text m texts y) also_read fits in
    one (specs_of hosts) turns file a b came (subst (λ (l : List ℕ). ExecutesTo (specs_of hosts) turns l b) (sym there ∙ here) too)
