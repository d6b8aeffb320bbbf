use Rattle.std.proofs.Common.{◌≡◌, ℕ, List, length, refl, sym, subst, ap, Ok, Result, inl, inr}
use Rattle.hera_syntax.specs.declared.token.Token.{Token}
use Rattle.hera_syntax.specs.Trees.{IsTextOf}
use Rattle.hera_lexer.specs.declared.script.LexFault.{LexFault}
use Rattle.hera_rules.specs.ReadActs.{script_of}
use Rattle.hera_rules.specs.Phrases.{Script}
use Rattle.hera_rules.specs.Programs.{ElabScript}
use Rattle.hera_script.proofs.accepted.a_script_has_one_program.Goals as goal

same_tokens : (xs ys : List Token × ℕ) (r s : Result (List Token × ℕ) LexFault) → r ≡ Ok xs → s ≡ Ok ys → r ≡ s → ys.0 ≡ xs.0
same_tokens xs ys r s f g e = let h : xs ≡ ys = cc in sym (ap (λ (p : List Token × ℕ). p.0) h)

pub returns-clause-script : goal.returns-clause-script
returns-clause-script c = λ tree other tokens text also. c.outlines_tell_scripts.ensures tree other (c.one_tree.ensures tree other tokens text also)

pub returns-clause-program : goal.returns-clause-program
returns-clause-program c = λ bytes hosts p q a b.
    let r : Result (List Token × ℕ) LexFault = Ok (a.tokens, length bytes) in
    let s : Result (List Token × ℕ) LexFault = Ok (b.tokens, length bytes) in
    let one = c.one_answer.ensures bytes r s (a.lexed, refl, a.shallow) (b.lexed, refl, b.shallow) in
    let tokens : b.tokens ≡ a.tokens = elim one [ inl e ↦ same_tokens (a.tokens, length bytes) (b.tokens, length bytes) r s refl refl e | inr w ↦ elim w [ inl e ↦ absurd cc | inr e ↦ absurd cc ] ] in
    let text : IsTextOf b.tree a.tokens = subst (λ (ts : List Token). IsTextOf b.tree ts) tokens b.text in
    let script : script_of b.tree ≡ script_of a.tree = c.outlines_tell_scripts.ensures b.tree a.tree (c.one_tree.ensures b.tree a.tree a.tokens text a.text) in
    let typed : ElabScript hosts (script_of a.tree) q = subst (λ (z : Script). ElabScript hosts z q) script b.typed in
    c.typing_is_exact.ensures.scripts.one_program hosts (script_of a.tree) p q a.typed typed
