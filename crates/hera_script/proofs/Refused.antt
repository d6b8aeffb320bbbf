-- The cause and the offset of a script that is refused.
use Rattle.std.proofs.Common.{◌≡◌, ℕ, ◌≤◌, ◌⊎◌, ⊎_elim, List, length, Ok, Err, refl, sym, ap, ◌∙◌, subst}
use Rattle.std.specs.Prelude.{slice_get, Result}
use Rattle.hera_syntax.specs.declared.token.Token.{Token}
use Rattle.hera_syntax.specs.declared.tree.Tree.{Tree}
use Rattle.hera_syntax.specs.Trees.{IsTextOf, IsFaultAt}
use Rattle.hera_lexer.specs.declared.script.LexFault.{LexFault}
use Rattle.hera_lexer.specs.declared.script.LexFault.TheVariants as lexing
use Rattle.hera_lexer.specs.Answers as lexer
use Rattle.hera_host.specs.Tables.{Host}
use Rattle.hera_rules.specs.declared.fault.TypeFault.{TypeFault}
use Rattle.hera_rules.specs.declared.fault.TypeFault.TheVariants as typing
use Rattle.hera_rules.specs.ReadActs.{script_of}
use Rattle.hera_rules.specs.Programs.{FirstFault}
use Rattle.hera_script.specs.declared.cause.Cause.{Cause}
use Rattle.hera_script.specs.declared.cause.Cause.TheVariants.{BadUtf8, Syntax}
use Rattle.hera_script.specs.declared.program.ScriptFault.{ScriptFault}
use Rattle.hera_script.specs.declared.program.ScriptFault.TheVariants.{Refused, Memory}
use Rattle.hera_script.specs.Refusing.{HasTokens, IsRefused, IsTypeFault, unknown, repeated, mismatch, impure, no_return, too_many, bad_utf8, bad_token, too_deep, syntax, types, offset_or}
use Rattle.hera_syntax.specs.Tokens.{script_limit}
use Rattle.hera_script.specs.Faults.{of_lexing, of_typing, IsUnreadable, unreadable}

-- ---- one refusal

abbrev cause_in : Cause → ScriptFault → Cause
cause_in d (Refused c a) = c
cause_in d Memory = d

abbrev offset_in : ScriptFault → ℕ
offset_in (Refused c a) = a
offset_in Memory = 0

abbrev fault_in : {T : Type 0} → Result T ScriptFault → ScriptFault
fault_in (Ok value) = Memory
fault_in (Err fault) = fault

-- what holds of a refusal holds of one that is the same
same_refusal : (P : Cause → ℕ → Type 0) (c d : Cause) (a b : ℕ) → Refused c a ≡ Refused d b → P c a → P d b
same_refusal P c d a b is h = subst (λ (x : Cause). P x b) (ap (cause_in c) is) (subst (λ (n : ℕ). P c n) (ap offset_in is) h)

-- the fault behind a `?`
pub same_fault : {T : Type 0} (r : Result T ScriptFault) (fault given : ScriptFault) → ((e : ScriptFault) × (r ≡ Err e) × (e ≡ given)) → r ≡ Err fault → given ≡ fault
same_fault r fault given (e, is, e_is) told = sym e_is ∙ ap fault_in (sym is ∙ told)

pub same_err : {T : Type 0} (a b : ScriptFault) → ◌≡◌ {A = Result T ScriptFault} (Err a) (Err b) → a ≡ b
same_err a b is = ap fault_in is

-- ---- each stage

-- a fault of the tokens
pub lexing_refused : (hosts : List Host) (script : List ℕ) (fault : LexFault) (cause : Cause) (at : ℕ) → length script ≤ script_limit → lexer.Answers script (Err fault)
    → of_lexing fault ≡ Refused cause at → IsRefused hosts script cause at
lexing_refused hosts script (lexing.BadUtf8 place) cause at short (bad, here) is =
    same_refusal (IsRefused hosts script) BadUtf8 cause place at is (subst (λ (n : ℕ). IsRefused hosts script BadUtf8 n) (sym here) (bad_utf8 short bad))
lexing_refused hosts script (lexing.BadToken place) cause at short fails is = same_refusal (IsRefused hosts script) _ cause place at is (bad_token short fails)
lexing_refused hosts script (lexing.TooDeep place) cause at short (tokens, lexed, deep) is = same_refusal (IsRefused hosts script) _ cause place at is (too_deep short lexed deep)
lexing_refused hosts script lexing.Memory cause at short any is = absurd (cc (is))

-- tokens that are no program
pub unreadable_at : (tokens : List Token × ℕ) (place offset : ℕ) (cause : Cause) (at : ℕ) → IsFaultAt tokens.0 place → offset ≡ offset_or (slice_get tokens.0 place) tokens.1
    → Refused Syntax offset ≡ Refused cause at → IsUnreadable tokens cause at
unreadable_at tokens place offset cause at fault here is =
    same_refusal (IsUnreadable tokens) Syntax cause offset at is (subst (λ (n : ℕ). IsUnreadable tokens Syntax n) (sym here) (unreadable fault))

pub syntax_refused : (hosts : List Host) (script : List ℕ) (tokens : List Token) (end : ℕ) (cause : Cause) (at : ℕ) → HasTokens script tokens → end ≡ length script
    → IsUnreadable (tokens, end) cause at → IsRefused hosts script cause at
syntax_refused hosts script tokens end _ _ has is (unreadable {place} fault) =
    subst (λ (n : ℕ). IsRefused hosts script Syntax (offset_or (slice_get tokens place) n)) (sym is) (syntax has fault)

type_fault : (fault : TypeFault) (cause : Cause) (at : ℕ) → of_typing fault ≡ Refused cause at → IsTypeFault fault cause at
type_fault (typing.Unknown place) cause at is = same_refusal (IsTypeFault (typing.Unknown place)) _ cause place at is unknown
type_fault (typing.Repeated place) cause at is = same_refusal (IsTypeFault (typing.Repeated place)) _ cause place at is repeated
type_fault (typing.Mismatch place) cause at is = same_refusal (IsTypeFault (typing.Mismatch place)) _ cause place at is mismatch
type_fault (typing.Impure place) cause at is = same_refusal (IsTypeFault (typing.Impure place)) _ cause place at is impure
type_fault (typing.NoReturn place) cause at is = same_refusal (IsTypeFault (typing.NoReturn place)) _ cause place at is no_return
type_fault (typing.TooMany place) cause at is = same_refusal (IsTypeFault (typing.TooMany place)) _ cause place at is too_many
type_fault typing.Memory cause at is = absurd (cc (is))

memory_is_no_refusal : (fault : TypeFault) (cause : Cause) (at : ℕ) → fault ≡ typing.Memory → of_typing fault ≡ Refused cause at → ⊥
memory_is_no_refusal _ cause at refl is = cc (is)

-- a fault of types
pub typing_refused : (hosts : List Host) (script : List ℕ) (tokens : List Token) (tree : Tree) (fault : TypeFault) (cause : Cause) (at : ℕ) → HasTokens script tokens → IsTextOf tree tokens
    → (fault ≡ typing.Memory) ⊎ FirstFault hosts (script_of tree) fault → of_typing fault ≡ Refused cause at → IsRefused hosts script cause at
typing_refused hosts script tokens tree fault cause at has text first is =
    ⊎_elim (λ (memory : fault ≡ typing.Memory). absurd (memory_is_no_refusal fault cause at memory is))
    (λ (f : FirstFault hosts (script_of tree) fault). types has text f (type_fault fault cause at is)) first
