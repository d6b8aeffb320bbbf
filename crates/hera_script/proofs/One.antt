-- A script is refused in one way at most, and then it is not accepted.
use Rattle.std.proofs.Common.{◌≡◌, ℕ, ◌<◌, ◌≤◌, ◌⊎◌, ⊎_elim, List, [], length, Ok, Err, refl, sym, ap, ◌∙◌, subst, arith}
use Rattle.std.specs.Prelude.{slice_get, Result}
use Rattle.hera_meaning.specs.Trees.{Program_tree}
use Rattle.hera_syntax.specs.declared.token.Token.{Token}
use Rattle.hera_syntax.specs.declared.tree.Tree.{Tree}
use Rattle.hera_syntax.specs.Trees.{IsTextOf, IsFaultAt}
use Rattle.hera_lexer.specs.declared.script.LexFault.{LexFault}
use Rattle.hera_lexer.specs.declared.script.LexFault.TheVariants as lexing
use Rattle.hera_lexer.specs.Answers as lexer
use Rattle.hera_host.specs.Tables.{Host}
use Rattle.hera_rules.specs.declared.fault.TypeFault.{TypeFault}
use Rattle.hera_rules.specs.ReadActs.{script_of}
use Rattle.hera_rules.specs.Phrases.{Script}
use Rattle.hera_rules.specs.Programs.{FirstFault}
use Rattle.hera_rules.specs.Accepted.{Accepted}
use Rattle.hera_rules.specs.Exactness.{ScriptsAreDecided}
use Rattle.hera_script.specs.declared.cause.Cause.{Cause}
use Rattle.hera_script.specs.declared.cause.Cause.TheVariants.{TooLong, Syntax}
use Rattle.hera_script.specs.declared.program.ScriptFault.{ScriptFault}
use Rattle.hera_script.specs.declared.program.ScriptFault.TheVariants.{Refused, Memory}
use Rattle.hera_script.specs.Refusing.{HasTokens, IsRefused, IsTypeFault, unknown, repeated, mismatch, impure, no_return, too_many, too_long, bad_utf8, bad_token, too_deep, syntax, types, offset_or}
use Rattle.hera_syntax.specs.Tokens.{script_limit}
use Rattle.hera_script.specs.Faults.{of_lexing, of_typing}

-- ---- the stage that refuses

data Found (hosts : List Host) (script : List ℕ) : Cause → ℕ → Type 0 where
  by_length : script_limit < length script → Found hosts script TooLong script_limit
  by_lexing : {c : Cause} {a : ℕ} (fault : LexFault) → length script ≤ script_limit → lexer.Answers script (Err fault) → of_lexing fault ≡ Refused c a → Found hosts script c a
  by_syntax : {tokens : List Token} {place : ℕ} → HasTokens script tokens → IsFaultAt tokens place → Found hosts script Syntax (offset_or (slice_get tokens place) (length script))
  by_types : {tokens : List Token} {tree : Tree} {c : Cause} {a : ℕ} (fault : TypeFault) → HasTokens script tokens → IsTextOf tree tokens
      → FirstFault hosts (script_of tree) fault → of_typing fault ≡ Refused c a → Found hosts script c a

typed_as : (fault : TypeFault) (c : Cause) (a : ℕ) → IsTypeFault fault c a → of_typing fault ≡ Refused c a
typed_as _ _ _ unknown = refl
typed_as _ _ _ repeated = refl
typed_as _ _ _ mismatch = refl
typed_as _ _ _ impure = refl
typed_as _ _ _ no_return = refl
typed_as _ _ _ too_many = refl

found : (hosts : List Host) (script : List ℕ) (c : Cause) (a : ℕ) → IsRefused hosts script c a → Found hosts script c a
found hosts script _ _ (too_long long) = by_length long
found hosts script _ _ (bad_utf8 short bad) = by_lexing (lexing.BadUtf8 _) short (bad, refl) refl
found hosts script _ _ (bad_token {at} short fails) = by_lexing (lexing.BadToken at) short fails refl
found hosts script _ _ (too_deep {at} {tokens} short lexed deep) = by_lexing (lexing.TooDeep at) short (tokens, lexed, deep) refl
found hosts script _ _ (syntax has fault) = by_syntax has fault
found hosts script _ _ (types {fault = fault} has text first is) = by_types fault has text first (typed_as fault _ _ is)

-- ---- one refusal

SameRefusal : (c d : Cause) (a b : ℕ) → Type 0
SameRefusal c d a b = (c ≡ d) × (a ≡ b)

abbrev cause_in : Cause → ScriptFault → Cause
cause_in d (Refused c a) = c
cause_in d Memory = d

abbrev offset_in : ScriptFault → ℕ
offset_in (Refused c a) = a
offset_in Memory = 0

abbrev same_parts : (c d : Cause) (a b : ℕ) → Refused c a ≡ Refused d b → (c ≡ d) × (a ≡ b)
same_parts c d a b is = (ap (cause_in c) is, ap offset_in is)

abbrev tokens_in : Result (List Token × ℕ) LexFault → List Token
tokens_in (Ok tokens) = tokens.0
tokens_in (Err fault) = []

abbrev failed : LexFault → Result (List Token × ℕ) LexFault
failed fault = Err fault

abbrev fault_in : Result (List Token × ℕ) LexFault → LexFault
fault_in (Ok tokens) = lexing.Memory
fault_in (Err fault) = fault

module _ (hosts : List Host) (script : List ℕ)
    (one : (r s : Result (List Token × ℕ) LexFault) → lexer.Answers script r → lexer.Answers script s → (r ≡ s) ⊎ (r ≡ Err lexing.Memory) ⊎ (s ≡ Err lexing.Memory))
    (one_place : (tokens : List Token) (place other : ℕ) → IsFaultAt tokens place → IsFaultAt tokens other → place ≡ other)
    (one_script : (tree other : Tree) → (tokens : List Token) → IsTextOf tree tokens → IsTextOf other tokens → script_of tree ≡ script_of other)
    (decided : ScriptsAreDecided)
  where
    answer_of : (tokens : List Token) → HasTokens script tokens → lexer.Answers script (Ok (tokens, length script))
    answer_of tokens has = (has.lexed, refl, has.shallow)

    no_memory : (fault : LexFault) (c : Cause) (a : ℕ) → of_lexing fault ≡ Refused c a → failed fault ≡ failed lexing.Memory → ⊥
    no_memory fault c a is memory = let same : of_lexing lexing.Memory ≡ Refused c a = ap of_lexing (sym (ap fault_in memory)) ∙ is in cc (same)

    same_tokens : (ts us : List Token) → HasTokens script ts → HasTokens script us → ts ≡ us
    same_tokens ts us t u =
        ⊎_elim (λ (same : Ok (ts, length script) ≡ Ok (us, length script)). ap tokens_in same)
        (λ bad. absurd (⊎_elim (λ (m : Ok (ts, length script) ≡ Err lexing.Memory). cc (m)) (λ (m : Ok (us, length script) ≡ Err lexing.Memory). cc (m)) bad))
        (one (Ok (ts, length script)) (Ok (us, length script)) (answer_of ts t) (answer_of us u))

    not_both : (fault : LexFault) (c : Cause) (a : ℕ) (ts : List Token) → lexer.Answers script (Err fault) → of_lexing fault ≡ Refused c a → HasTokens script ts → ⊥
    not_both fault c a ts fails is has =
        ⊎_elim (λ (same : Err fault ≡ Ok (ts, length script)). cc (same))
        (λ bad. ⊎_elim (λ (m : failed fault ≡ failed lexing.Memory). no_memory fault c a is m) (λ (m : Ok (ts, length script) ≡ Err lexing.Memory). cc (m)) bad)
        (one (Err fault) (Ok (ts, length script)) fails (answer_of ts has))

    same_lexing : (f g : LexFault) (c d : Cause) (a b : ℕ) → lexer.Answers script (Err f) → lexer.Answers script (Err g) → of_lexing f ≡ Refused c a → of_lexing g ≡ Refused d b → (c ≡ d) × (a ≡ b)
    same_lexing f g c d a b x y is js =
        ⊎_elim (λ (same : failed f ≡ failed g). same_parts c d a b (sym is ∙ ap of_lexing (ap fault_in same) ∙ js))
        (λ bad. absurd (⊎_elim (λ (m : failed f ≡ failed lexing.Memory). no_memory f c a is m) (λ (m : failed g ≡ failed lexing.Memory). no_memory g d b js m) bad))
        (one (Err f) (Err g) x y)

    same_syntax : (ts us : List Token) (p q : ℕ) → HasTokens script ts → HasTokens script us → IsFaultAt ts p → IsFaultAt us q
        → offset_or (slice_get ts p) (length script) ≡ offset_or (slice_get us q) (length script)
    same_syntax ts us p q t u f g =
        let same : ts ≡ us = same_tokens ts us t u in
        let place : p ≡ q = one_place us p q (subst (λ (l : List Token). IsFaultAt l p) same f) g in
        ap (λ (l : List Token). offset_or (slice_get l p) (length script)) same ∙ ap (λ (n : ℕ). offset_or (slice_get us n) (length script)) place

    no_text : (ts us : List Token) (p : ℕ) (tree : Tree) → HasTokens script ts → HasTokens script us → IsFaultAt ts p → IsTextOf tree us → ⊥
    no_text ts us p tree t u f text = f.no_tree tree (subst (λ (l : List Token). IsTextOf tree l) (sym (same_tokens ts us t u)) text)

    same_script : (ts us : List Token) (tree other : Tree) → HasTokens script ts → HasTokens script us → IsTextOf tree ts → IsTextOf other us → script_of tree ≡ script_of other
    same_script ts us tree other t u x y = one_script tree other us (subst (λ (l : List Token). IsTextOf tree l) (same_tokens ts us t u) x) y

    same_types : (s t : Script) (f g : TypeFault) (c d : Cause) (a b : ℕ) → s ≡ t → FirstFault hosts s f → FirstFault hosts t g → of_typing f ≡ Refused c a → of_typing g ≡ Refused d b → (c ≡ d) × (a ≡ b)
    same_types s t f g c d a b same x y is js =
        let fault : f ≡ g = decided.one_fault hosts t f g (subst (λ (z : Script). FirstFault hosts z f) same x) y in
        same_parts c d a b (sym is ∙ ap of_typing fault ∙ js)

    one_found : (c d : Cause) (a b : ℕ) → Found hosts script c a → Found hosts script d b → (c ≡ d) × (a ≡ b)
    one_found _ _ _ _ (by_length long) (by_length more) = (refl, refl)
    one_found _ _ _ _ (by_length long) (by_lexing g short y js) = absurd (omega arith)
    one_found _ _ _ _ (by_length long) (by_syntax u g) = absurd (let short = u.short in omega arith)
    one_found _ _ _ _ (by_length long) (by_types g u text first js) = absurd (let short = u.short in omega arith)
    one_found _ _ _ _ (by_lexing f short x is) (by_length more) = absurd (omega arith)
    one_found _ _ _ _ (by_lexing f short x is) (by_lexing g also y js) = same_lexing f g _ _ _ _ x y is js
    one_found _ _ _ _ (by_lexing f short x is) (by_syntax u g) = absurd (not_both f _ _ _ x is u)
    one_found _ _ _ _ (by_lexing f short x is) (by_types g u text first js) = absurd (not_both f _ _ _ x is u)
    one_found _ _ _ _ (by_syntax t f) (by_length more) = absurd (let short = t.short in omega arith)
    one_found _ _ _ _ (by_syntax t f) (by_lexing g also y js) = absurd (not_both g _ _ _ y js t)
    one_found _ _ _ _ (by_syntax t f) (by_syntax u g) = (refl, same_syntax _ _ _ _ t u f g)
    one_found _ _ _ _ (by_syntax t f) (by_types g u text first js) = absurd (no_text _ _ _ _ t u f text)
    one_found _ _ _ _ (by_types f t text first is) (by_length more) = absurd (let short = t.short in omega arith)
    one_found _ _ _ _ (by_types f t text first is) (by_lexing g also y js) = absurd (not_both g _ _ _ y js t)
    one_found _ _ _ _ (by_types f t text first is) (by_syntax u g) = absurd (no_text _ _ _ _ u t g text)
    one_found _ _ _ _ (by_types f t text first is) (by_types g u other then js) = same_types _ _ f g _ _ _ _ (same_script _ _ _ _ t u text other) first then is js

    pub one_refusal : (c d : Cause) (a b : ℕ) → IsRefused hosts script c a → IsRefused hosts script d b → (c ≡ d) × (a ≡ b)
    one_refusal c d a b x y = one_found c d a b (found hosts script c a x) (found hosts script d b y)

    tokens_of : (p : Program_tree) → length script ≤ script_limit → (acc : Accepted script hosts p) → HasTokens script acc.tokens
    tokens_of p short acc = record { short = short; lexed = acc.lexed; shallow = acc.shallow }

    not_accepted : (p : Program_tree) (c : Cause) (a : ℕ) → length script ≤ script_limit → Accepted script hosts p → Found hosts script c a → ⊥
    not_accepted p _ _ short acc (by_length long) = omega arith
    not_accepted p _ _ short acc (by_lexing f also x is) = not_both f _ _ _ x is (tokens_of p short acc)
    not_accepted p _ _ short acc (by_syntax t f) = no_text _ _ _ _ t (tokens_of p short acc) f acc.text
    not_accepted p _ _ short acc (by_types f t text first is) =
        decided.never_both hosts _ p f acc.typed (subst (λ (z : Script). FirstFault hosts z f) (same_script _ _ _ _ t (tokens_of p short acc) text acc.text) first)

    pub never_both : (p : Program_tree) (c : Cause) (a : ℕ) → length script ≤ script_limit → Accepted script hosts p → IsRefused hosts script c a → ⊥
    never_both p c a short acc x = not_accepted p c a short acc (found hosts script c a x)
