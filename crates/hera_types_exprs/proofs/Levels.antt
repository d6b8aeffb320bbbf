-- The steps of a level of the grammar: what each return and each turn of its loop needs.
use Rattle.std.proofs.Common.{◌≡◌, ℕ, ◌+◌, ◌<◌, ◌≤◌, List, [], ◌∷◌, ◌++◌, length, get_or, drop, take, refl, ap, ◌∙◌, subst, arith}
use Rattle.std.proofs.Math.Seq.{take-append_seam}
use Rattle.std.proofs.Math.ListN.{drop_of_length-le}
use Rattle.std.specs.Prelude.{Result, Ok, Err}
use Rattle.hera_meaning.specs.declared.trees.Shape.{Shape}
use Rattle.hera_syntax.specs.declared.expr.Level.{Level}
use Rattle.hera_syntax.specs.declared.expr.Tail.{Tail}
use Rattle.hera_syntax.specs.declared.expr.Expr.{Expr}
use Rattle.hera_syntax.specs.declared.expr.Binding.{Binding, out-Binding}
use Rattle.hera_syntax.specs.declared.expr.Atom.{Atom}
use Rattle.hera_syntax.specs.declared.expr.LineTree.{LineTree}
use Rattle.hera_rules.specs.declared.words.Word.{Word}
use Rattle.hera_rules.specs.declared.words.Joint.{Joint}
use Rattle.hera_rules.specs.declared.env.Local.{Local}
use Rattle.hera_rules.specs.declared.fault.TypeFault.{TypeFault}
use Rattle.hera_rules.specs.Environments.{Env}
use Rattle.hera_rules.specs.Phrases.{Phrase, Phrases, no_phrase, phrase, Uses, no_use, uses}
use Rattle.hera_rules.specs.Read.{chain_phrase, joint_at, expr_uses_in, phrases_in, bindings_in, atoms_in, lines_in, expr_phrase, operand_phrase, atom_phrase, line_phrase}
use Rattle.hera_rules.specs.Rules.{Typing, typing, Step, joint_row, chain_core}
use Rattle.hera_rules.specs.Typing.{slots_of, slots_of_uses}
use Rattle.hera_rules.specs.Checked.{Chained, and_then, check, check_all, check_uses}
use Rattle.hera_rules.proofs.ReadLaws.{binding_phrase-read}
use Rattle.hera_rules.specs.declared.env.Typed.{Typed}
use Rattle.hera_rules.specs.Agrees.{typing_of, typings_of}
use Rattle.hera_types_parts.proofs.Giving.{next_at, none_at}
use Rattle.hera_types_parts.proofs.Snocs.{typings_of-more}

-- a level without operators is its operand, in the function of typing too
unchained : (r : Result Typing TypeFault) → r ≡ and_then r (λ v. Ok (typing v.type (chain_core v.core [])))
unchained (Ok v) = refl
unchained (Err f) = refl

pub check-chain : (g : Env) (ls : List Local) (n : ℕ) (p : Phrase) (us : Uses) →
    check g ls n (chain_phrase p us) ≡ and_then (check g ls n p) (λ v. and_then (check_uses g ls (n + slots_of p) v.type [] us) (λ u. Ok (typing u.type (chain_core v.core u.steps))))
check-chain g ls n p no_use = unchained (check g ls n p)
check-chain g ls n p (uses op at q rest) = refl

pub slots_of-chain : (p : Phrase) (us : Uses) → slots_of (chain_phrase p us) ≡ slots_of p + slots_of_uses us
slots_of-chain p no_use = omega arith
slots_of-chain p (uses op at q rest) = refl

-- the first operand breaks
pub level_first : (g : Env) (ls : List Local) (n : ℕ) (p : Phrase) (us : Uses) {whole : Phrase} {f : TypeFault} → whole ≡ chain_phrase p us → check g ls n p ≡ Err f → check g ls n whole ≡ Err f
level_first g ls n p us w e = ap (λ q. check g ls n q) w ∙ check-chain g ls n p us ∙ rw e refl

-- what comes behind the first operand decides
pub level_rest : (g : Env) (ls : List Local) (n m : ℕ) (p : Phrase) (us : Uses) {whole : Phrase} {v : Typing} → whole ≡ chain_phrase p us → check g ls n p ≡ Ok v → m ≡ n + slots_of p →
    check g ls n whole ≡ and_then (check_uses g ls m v.type [] us) (λ u. Ok (typing u.type (chain_core v.core u.steps)))
level_rest g ls n m p us {v = v} w e k =
    ap (λ q. check g ls n q) w ∙ check-chain g ls n p us ∙ rw (e, ← k) refl

pub level_done : (g : Env) (ls : List Local) (n m n' : ℕ) (p : Phrase) (us us' : Uses) (t' : Shape) (is : List Step) {whole : Phrase} {v : Typing} →
    whole ≡ chain_phrase p us → check g ls n p ≡ Ok v → m ≡ n + slots_of p → check_uses g ls m v.type [] us ≡ check_uses g ls n' t' is us' → us' ≡ no_use →
    check g ls n whole ≡ Ok (typing t' (chain_core v.core is))
level_done g ls n m n' p us us' t' is {v = v} w e k h d =
    level_rest g ls n m p us w e k ∙ ap (λ r. and_then r (λ (u : Chained). Ok (typing u.type (chain_core v.core u.steps)))) (h ∙ ap (λ us. check_uses g ls n' t' is us) d)

pub level_breaks : (g : Env) (ls : List Local) (n m n' : ℕ) (p : Phrase) (us us' : Uses) (t' : Shape) (is : List Step) {whole : Phrase} {v : Typing} {f : TypeFault} →
    whole ≡ chain_phrase p us → check g ls n p ≡ Ok v → m ≡ n + slots_of p → check_uses g ls m v.type [] us ≡ check_uses g ls n' t' is us' → check_uses g ls n' t' is us' ≡ Err f →
    check g ls n whole ≡ Err f
level_breaks g ls n m n' p us us' t' is {v = v} w e k h d = level_rest g ls n m p us w e k ∙ ap (λ r. and_then r (λ (u : Chained). Ok (typing u.type (chain_core v.core u.steps)))) (h ∙ d)

-- one operand more; it breaks; its operator breaks
pub uses_step : (g : Env) (ls : List Local) (n n' : ℕ) (t : Shape) (is : List Step) {t' : Shape} {is' : List Step} {op : Joint} {at : ℕ} {p : Phrase} {us rest : Uses} {v : Typing} →
    us ≡ uses op at p rest → check g ls n p ≡ Ok v → joint_row op at t v.type ≡ Ok t' → n' ≡ n + slots_of p → is' ≡ is ++ (record { joint = op; at = at; arg = v.core } ∷ []) →
    check_uses g ls n t is us ≡ check_uses g ls n' t' is' rest
uses_step g ls n n' t is u e j k i = ap (λ us. check_uses g ls n t is us) u ∙ rw (e, j, ← k, ← i) refl

pub uses_operand : (g : Env) (ls : List Local) (n : ℕ) (t : Shape) (is : List Step) {op : Joint} {at : ℕ} {p : Phrase} {us rest : Uses} {f : TypeFault} →
    us ≡ uses op at p rest → check g ls n p ≡ Err f → check_uses g ls n t is us ≡ Err f
uses_operand g ls n t is u e = ap (λ us. check_uses g ls n t is us) u ∙ rw e refl

pub uses_break : (g : Env) (ls : List Local) (n : ℕ) (t : Shape) (is : List Step) {op : Joint} {at : ℕ} {p : Phrase} {us rest : Uses} {v : Typing} {f : TypeFault} →
    us ≡ uses op at p rest → check g ls n p ≡ Ok v → joint_row op at t v.type ≡ Err f → check_uses g ls n t is us ≡ Err f
uses_break g ls n t is u e j = ap (λ us. check_uses g ls n t is us) u ∙ rw (e, j) refl

-- ---- what is left of a level's operands: one more, or none

pub expr_more : (level : Level) (ts : List Tail) (i : ℕ) (x : Tail) → i < length ts → x ≡ get_or ts i x →
    expr_uses_in level (drop i ts) ≡ uses (joint_at level x.op.kind) x.op.at (operand_phrase x.operand) (expr_uses_in level (drop (i + 1) ts))
expr_more level ts i x h e = ap (expr_uses_in level) (next_at ts i x h e)

pub expr_none : (level : Level) (ts : List Tail) (i : ℕ) → length ts ≤ i → expr_uses_in level (drop i ts) ≡ no_use
expr_none level ts i h = ap (expr_uses_in level) (drop_of_length-le ts h)

-- ---- phrases from the left

pub all_first : (g : Env) (ls : List Local) (n : ℕ) {whole ps : Phrases} {p : Phrase} {f : TypeFault} → whole ≡ phrase p ps → check g ls n p ≡ Err f → check_all g ls n [] whole ≡ Err f
all_first g ls n w e = ap (λ ps. check_all g ls n [] ps) w ∙ rw e refl

pub all_rest : (g : Env) (ls : List Local) (n m : ℕ) {whole ps : Phrases} {p : Phrase} {v : Typing} {vs : List Typing} → whole ≡ phrase p ps → check g ls n p ≡ Ok v → m ≡ n + slots_of p → vs ≡ v ∷ [] →
    check_all g ls n [] whole ≡ check_all g ls m vs ps
all_rest g ls n m w e k i = ap (λ ps. check_all g ls n [] ps) w ∙ rw (e, ← k, ← i) refl

pub all_step : (g : Env) (ls : List Local) (n n' : ℕ) (vs : List Typing) {vs' : List Typing} {us rest : Phrases} {p : Phrase} {v : Typing} →
    us ≡ phrase p rest → check g ls n p ≡ Ok v → n' ≡ n + slots_of p → vs' ≡ vs ++ v ∷ [] → check_all g ls n vs us ≡ check_all g ls n' vs' rest
all_step g ls n n' vs u e k i = ap (λ us. check_all g ls n vs us) u ∙ rw (e, ← k, ← i) refl

pub all_break : (g : Env) (ls : List Local) (n : ℕ) (vs : List Typing) {us rest : Phrases} {p : Phrase} {f : TypeFault} → us ≡ phrase p rest → check g ls n p ≡ Err f → check_all g ls n vs us ≡ Err f
all_break g ls n vs u e = ap (λ us. check_all g ls n vs us) u ∙ rw e refl

pub all_end : (g : Env) (ls : List Local) (n : ℕ) (vs : List Typing) {us : Phrases} → us ≡ no_phrase → check_all g ls n vs us ≡ Ok vs
all_end g ls n vs u = ap (λ us. check_all g ls n vs us) u

-- a value more
pub put_more : (vs : List Typed) (v : Typed) {vs' : List Typed} → vs' ≡ vs ++ v ∷ [] → typings_of vs' ≡ typings_of vs ++ typing_of v ∷ []
put_more vs v e = ap typings_of e ∙ typings_of-more vs v

pub put_first : (v : Typed) {vs vs' : List Typed} → vs' ≡ vs ++ v ∷ [] → vs ≡ [] → typings_of vs' ≡ typing_of v ∷ []
put_first v e k = ap typings_of (e ∙ ap (λ vs. vs ++ v ∷ []) k)

pub args_more : (es : List Expr) (i : ℕ) (x : Expr) → i < length es → x ≡ get_or es i x → phrases_in (drop i es) ≡ phrase (expr_phrase x) (phrases_in (drop (i + 1) es))
args_more es i x h e = ap phrases_in (next_at es i x h e)

pub args_none : (es : List Expr) (i : ℕ) → length es ≤ i → phrases_in (drop i es) ≡ no_phrase
args_none es i h = ap phrases_in (none_at es i h)

pub bindings_more : (bs : List Binding) (i : ℕ) (x : Binding) → i < length bs → x ≡ get_or bs i x → bindings_in (drop i bs) ≡ phrase (expr_phrase (out-Binding x).value) (bindings_in (drop (i + 1) bs))
bindings_more bs i x h e = ap bindings_in (next_at bs i x h e) ∙ ap (λ p. phrase p (bindings_in (drop (i + 1) bs))) (binding_phrase-read x)

pub bindings_none : (bs : List Binding) (i : ℕ) → length bs ≤ i → bindings_in (drop i bs) ≡ no_phrase
bindings_none bs i h = ap bindings_in (none_at bs i h)

pub atoms_more : (xs : List Atom) (i : ℕ) (x : Atom) → i < length xs → x ≡ get_or xs i x → atoms_in (drop i xs) ≡ phrase (atom_phrase x) (atoms_in (drop (i + 1) xs))
atoms_more xs i x h e = ap atoms_in (next_at xs i x h e)

pub atoms_none : (xs : List Atom) (i : ℕ) → length xs ≤ i → atoms_in (drop i xs) ≡ no_phrase
atoms_none xs i h = ap atoms_in (none_at xs i h)

pub lines_more : (w : Word) (xs : List LineTree) (i : ℕ) (x : LineTree) → i < length xs → x ≡ get_or xs i x → lines_in w (drop i xs) ≡ phrase (line_phrase w x) (lines_in w (drop (i + 1) xs))
lines_more w xs i x h e = ap (lines_in w) (next_at xs i x h e)

pub lines_none : (w : Word) (xs : List LineTree) (i : ℕ) → length xs ≤ i → lines_in w (drop i xs) ≡ no_phrase
lines_none w xs i h = ap (lines_in w) (none_at xs i h)

pub at_locals : (g : Env) (n : ℕ) (p : Phrase) {ls ls' : List Local} {r : Result Typing TypeFault} → ls ≡ ls' → check g ls n p ≡ r → check g ls' n p ≡ r
at_locals g n p {r = r} e h = subst (λ ls. check g ls n p ≡ r) e h

-- the locals once a walk's variable is left
pub left_behind : (ls : List Local) (l : Local) (d : ℕ) {xs : List Local} → xs ≡ ls ++ l ∷ [] → d ≡ length ls → take d xs ≡ ls
left_behind ls l d e m = ap (λ xs. take d xs) e ∙ ap (λ d. take d (ls ++ l ∷ [])) m ∙ take-append_seam ls (l ∷ [])
