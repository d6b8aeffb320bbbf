-- Slots that are added one after the other, as the walk over a tree adds them.
use Rattle.std.proofs.Common.{◌≡◌, ℕ, ◌+◌, List, [], ◌∷◌, ◌++◌, refl, sym, ap, ◌∙◌, append_assoc, append-nil, arith}
use Rattle.std.proofs.lemmas.List.{map-append}
use Rattle.std.specs.Prelude.{Result, Ok, Err, Option, Some, None, map}
use Rattle.hera_meaning.specs.declared.schemas.Attr.{Attr}
use Rattle.hera_meaning.specs.declared.trees.Shape.{Shape}
use Rattle.hera_meaning.specs.Shapes.{Body_types}
use Rattle.hera_rules.specs.declared.words.Word.{Word}
use Rattle.hera_rules.specs.declared.words.Joint.{Joint}
use Rattle.hera_rules.specs.declared.words.WalkKind.{WalkKind}
use Rattle.hera_rules.specs.declared.env.Local.{Local}
use Rattle.hera_rules.specs.Environments.{Env}
use Rattle.hera_rules.specs.Phrases.{Phrase, walking, Phrases, no_phrase, phrase, Uses, no_use, uses, Act, declaring, assigning, performing, choosing, looping, visiting, printing, applying, asserting, committing, rolling_back, returning, returning_value, Type_phrase, Acts, no_act, act, Branches, no_branch, branch}
use Rattle.hera_syntax.specs.declared.expr.Atom.{Atom, out-Atom}
use Rattle.hera_syntax.specs.declared.expr.LineTree.{LineTree, out-LineTree}
use Rattle.hera_rules.specs.Read.{chain_phrase, args_phrases, atom_phrase, line_phrase}
use Rattle.hera_rules.proofs.ReadLaws.{atom_phrase-read, line_phrase-read}
use Rattle.hera_rules.specs.declared.fault.TypeFault.{TypeFault}
use Rattle.hera_rules.specs.Commands.{type_row}
use Rattle.hera_rules.specs.Rules.{Typing, variable_row}
use Rattle.hera_types.specs.Scopes.{Extends}
use Rattle.hera_types.proofs.Block_lemmas.{extends_none, extends_one}
use Rattle.hera_rules.specs.Typing.{slots_of, slots_of_all}
use Rattle.hera_rules.specs.Checked.{check}
use Rattle.hera_rules.specs.Statements.{slots_of_act, slots_of_acts, slots_of_branches}
use Rattle.hera_sound.specs.Types_found.{Slot, held, walked, attrs_of_tuple, gathered}
use Rattle.hera_shapes.specs.Found.{where_typed, with_slots, IsTyped, IsVariable, IsWalk, IsVisit, found, found_all, found_uses, locals_with, locals_behind, found_act, found_acts, found_branches}

abbrev types : List Shape → List (Option (List Attr)) → Option Shape → Body_types
types slots gathers result = record { slots = slots; gathers = gathers; result = result }

pub with_none : (t : Body_types) → with_slots t [] ≡ t
with_none t = ap (λ ss. types ss (t.gathers ++ []) t.result) (append-nil t.slots) ∙ ap (λ gs. types t.slots gs t.result) (append-nil t.gathers)

pub with_both : (t : Body_types) (ys bs : List Slot) → with_slots (with_slots t ys) bs ≡ with_slots t (ys ++ bs)
with_both t ys bs =
    let shape : Slot → Shape = λ s. s.shape in
    let gathers : Slot → Option (List Attr) = λ s. s.gathers in
    let one : (t.slots ++ map shape ys) ++ map shape bs ≡ t.slots ++ map shape (ys ++ bs) = append_assoc t.slots (map shape ys) (map shape bs) ∙ ap (λ ss. t.slots ++ ss) (sym (map-append shape ys bs)) in
    let two : (t.gathers ++ map gathers ys) ++ map gathers bs ≡ t.gathers ++ map gathers (ys ++ bs) = append_assoc t.gathers (map gathers ys) (map gathers bs) ∙ ap (λ gs. t.gathers ++ gs) (sym (map-append gathers ys bs)) in
    ap (λ ss. types ss ((t.gathers ++ map gathers ys) ++ map gathers bs) t.result) one ∙ ap (λ gs. types (t.slots ++ map shape (ys ++ bs)) gs t.result) two

-- two steps
and_more : (t t' t'' : Body_types) (ys bs : List Slot) → t' ≡ with_slots t ys → t'' ≡ with_slots t' bs → t'' ≡ with_slots t (ys ++ bs)
and_more t t' t'' ys bs e f = f ∙ ap (λ u. with_slots u bs) e ∙ with_both t ys bs

pub found_chain : (g : Env) (ls : List Local) (n : ℕ) (p : Phrase) (us : Uses) → found g ls n (chain_phrase p us) ≡ found g ls n p ++ found_uses g ls (n + slots_of p) us
found_chain g ls n p no_use = sym (append-nil (found g ls n p))
found_chain g ls n p (uses op at q rest) = refl

-- one phrase more of a list, and of a chain
pub all_step : (g : Env) (ls : List Local) (n n' : ℕ) (t t' : Body_types) {ps rest : Phrases} {p : Phrase} → ps ≡ phrase p rest → n' ≡ n + slots_of p → t' ≡ with_slots t (found g ls n p) →
    with_slots t' (found_all g ls n' rest) ≡ with_slots t (found_all g ls n ps)
all_step g ls n n' t t' {ps = ps} {rest = rest} {p = p} e k f =
    ap (λ m. with_slots t' (found_all g ls m rest)) k ∙ ap (λ u. with_slots u (found_all g ls (n + slots_of p) rest)) f
    ∙ with_both t (found g ls n p) (found_all g ls (n + slots_of p) rest) ∙ ap (λ qs. with_slots t (found_all g ls n qs)) (sym e)

pub uses_step : (g : Env) (ls : List Local) (n n' : ℕ) (t t' : Body_types) {us rest : Uses} {op : Joint} {at : ℕ} {p : Phrase} → us ≡ uses op at p rest → n' ≡ n + slots_of p → t' ≡ with_slots t (found g ls n p) →
    with_slots t' (found_uses g ls n' rest) ≡ with_slots t (found_uses g ls n us)
uses_step g ls n n' t t' {us = us} {rest = rest} {p = p} e k f =
    ap (λ m. with_slots t' (found_uses g ls m rest)) k ∙ ap (λ u. with_slots u (found_uses g ls (n + slots_of p) rest)) f
    ∙ with_both t (found g ls n p) (found_uses g ls (n + slots_of p) rest) ∙ ap (λ vs. with_slots t (found_uses g ls n vs)) (sym e)

-- none is left
pub all_end : (g : Env) (ls : List Local) (n : ℕ) (t : Body_types) {ps : Phrases} → ps ≡ no_phrase → with_slots t (found_all g ls n ps) ≡ t
all_end g ls n t e = ap (λ qs. with_slots t (found_all g ls n qs)) e ∙ with_none t

pub uses_end : (g : Env) (ls : List Local) (n : ℕ) (t : Body_types) {us : Uses} → us ≡ no_use → with_slots t (found_uses g ls n us) ≡ t
uses_end g ls n t e = ap (λ vs. with_slots t (found_uses g ls n vs)) e ∙ with_none t

-- a whole list and a whole chain, of which this is the first phrase
pub all_whole : (g : Env) (ls : List Local) (n m : ℕ) (t t' t'' : Body_types) {whole ps : Phrases} {p : Phrase} → whole ≡ phrase p ps → m ≡ n + slots_of p → t' ≡ with_slots t (found g ls n p) → t'' ≡ with_slots t' (found_all g ls m ps) →
    t'' ≡ with_slots t (found_all g ls n whole)
all_whole g ls n m t t' t'' w k f e = e ∙ all_step g ls n m t t' w k f

pub chain_whole : (g : Env) (ls : List Local) (n m : ℕ) (t t' t'' : Body_types) (p : Phrase) (us : Uses) {whole : Phrase} → whole ≡ chain_phrase p us → m ≡ n + slots_of p → t' ≡ with_slots t (found g ls n p) → t'' ≡ with_slots t' (found_uses g ls m us) →
    t'' ≡ with_slots t (found g ls n whole)
chain_whole g ls n m t t' t'' p us w k f e =
    e ∙ ap (λ i. with_slots t' (found_uses g ls i us)) k ∙ ap (λ u. with_slots u (found_uses g ls (n + slots_of p) us)) f
    ∙ with_both t (found g ls n p) (found_uses g ls (n + slots_of p) us) ∙ ap (λ ss. with_slots t ss) (sym (found_chain g ls n p us)) ∙ ap (λ q. with_slots t (found g ls n q)) (sym w)

-- a walk: its own slot, those of its operand, those of its body
abbrev walk_rest : (g : Env) (ls : List Local) (n : ℕ) (l : Local) (of body : Phrase) → List Slot
walk_rest g ls n l of body = found g ls (n + 1) of ++ found g (ls ++ l ∷ []) (n + 1 + slots_of of) body

pub walk_found : {g : Env} {ls : List Local} {n at : ℕ} {walk : WalkKind} {var : Word} {of body : Phrase} {l : Local} {gathers : List Attr} → IsWalk g ls n walk at var of body l gathers →
    found g ls n (walking walk at var of body) ≡ walked l.shape gathers ∷ walk_rest g ls n l of body
walk_found {g = g} {ls = ls} {n = n} {at = at} {walk = walk} {var = var} {of = of} {body = body} {l = l} w =
    let v = w.variable in
    let rest : Local → List Slot = λ l. walk_rest g ls n l of body in
    let last : Local → Typing → List Slot = λ l b. walked l.shape (gathered walk l.shape b.type) ∷ rest l in
    let inner : Local → List Slot = λ l. where_typed (check g (ls ++ l ∷ []) (n + 1 + slots_of of) body) (last l) in
    let over : Typing → List Slot = λ v. where_typed (variable_row g ls var at n v.type) inner in
    ap (λ x. where_typed x over) v.checked
    ∙ ap (λ x. where_typed x inner) v.variable
    ∙ ap (λ x. where_typed x (last l)) w.typed.checked
    ∙ ap (λ t. walked l.shape (gathered walk l.shape t) ∷ rest l) w.typed.type_is
    ∙ ap (λ s. walked l.shape s ∷ rest l) (sym w.gathers_is)

-- a slot of its own, whose shape was copied
pub own_slot : (t t' : Body_types) (gs : Option (List Attr)) {s s' : Shape} → s ≡ s' → t' ≡ with_slots t (record { shape = s; gathers = gs } ∷ []) → t' ≡ with_slots t (record { shape = s'; gathers = gs } ∷ [])
own_slot t t' gs e h = h ∙ ap (λ s. with_slots t (record { shape = s; gathers = gs } ∷ [])) e

-- a `foreach`: its own slot, those of its operand, those of its block
abbrev visit_rest : (g : Env) (ls : List Local) (n : ℕ) (l : Local) (of : Phrase) (block : Acts) → List Slot
visit_rest g ls n l of block = found g ls (n + 1) of ++ found_acts g (ls ++ l ∷ []) (n + 1 + slots_of of) block

pub visit_found : {g : Env} {ls : List Local} {n at : ℕ} {var : Word} {of : Phrase} {l : Local} {gathers : List Attr} (block : Acts) → IsVisit g ls n at var of l gathers →
    found_act g ls n (visiting at var of block) ≡ walked l.shape gathers ∷ visit_rest g ls n l of block
visit_found {g = g} {ls = ls} {n = n} {at = at} {var = var} {of = of} {l = l} block w =
    let v = w.variable in
    let inner : Local → List Slot = λ l. walked l.shape (attrs_of_tuple l.shape) ∷ visit_rest g ls n l of block in
    let over : Typing → List Slot = λ v. where_typed (variable_row g ls var at n v.type) inner in
    ap (λ x. where_typed x over) v.checked
    ∙ ap (λ x. where_typed x inner) v.variable
    ∙ ap (λ s. walked l.shape s ∷ visit_rest g ls n l of block) (sym w.gathers_is)

-- three steps: a slot, what an operand has, what a body or a block has
three_steps : (t u v z : Body_types) (own : Slot) (ys bs : List Slot) {whole : List Slot} → whole ≡ own ∷ (ys ++ bs) → u ≡ with_slots t (own ∷ []) → v ≡ with_slots u ys → z ≡ with_slots v bs → z ≡ with_slots t whole
three_steps t u v z own ys bs e a b c = and_more t u z (own ∷ []) (ys ++ bs) a (and_more u v z ys bs b c) ∙ ap (λ ss. with_slots t ss) (sym e)

-- the same at locals that are the same
pub at_locals : (g : Env) (n : ℕ) (p : Phrase) (t t' : Body_types) {ls ls' : List Local} → ls ≡ ls' → t' ≡ with_slots t (found g ls n p) → t' ≡ with_slots t (found g ls' n p)
at_locals g n p t t' e h = h ∙ ap (λ ls. with_slots t (found g ls n p)) e

-- the arguments of an atom or a line are all that it has
pub atom_args : (g : Env) (ls : List Local) (n : ℕ) (t t' : Body_types) (a : Atom) → t' ≡ with_slots t (found_all g ls n (args_phrases (out-Atom a).args)) → t' ≡ with_slots t (found g ls n (atom_phrase a))
atom_args g ls n t t' a h = h ∙ ap (λ p. with_slots t (found g ls n p)) (sym (atom_phrase-read a))

pub atom_slots : (a : Atom) → slots_of (atom_phrase a) ≡ slots_of_all (args_phrases (out-Atom a).args)
atom_slots a = ap slots_of (atom_phrase-read a)

pub line_args : (g : Env) (ls : List Local) (n : ℕ) (t t' : Body_types) (w : Word) (a : LineTree) → t' ≡ with_slots t (found_all g ls n (args_phrases (out-LineTree a).args)) → t' ≡ with_slots t (found g ls n (line_phrase w a))
line_args g ls n t t' w a h = h ∙ ap (λ p. with_slots t (found g ls n p)) (sym (line_phrase-read w a))

pub line_slots : (w : Word) (a : LineTree) → slots_of (line_phrase w a) ≡ slots_of_all (args_phrases (out-LineTree a).args)
line_slots w a = ap slots_of (line_phrase-read w a)

-- ---- what typing was asked

pub typed_at : (g : Env) (p : Phrase) (t : Shape) {ls ls' : List Local} {n n' : ℕ} → ls ≡ ls' → n ≡ n' → IsTyped g ls n p t → IsTyped g ls' n' p t
typed_at g p t {ls' = ls'} {n = n} l k h = record {
  typing = h.typing;
  checked = ap (λ n. check g ls' n p) (sym k) ∙ ap (λ ls. check g ls n p) (sym l) ∙ h.checked;
  type_is = h.type_is;
}

pub variable_at : (g : Env) (var : Word) (at : ℕ) (of : Phrase) (v : Local) {ls ls' : List Local} {n n' : ℕ} → ls ≡ ls' → n ≡ n' → IsVariable g ls n var at of v → IsVariable g ls' n' var at of v
variable_at g var at of v {ls' = ls'} {n = n} l k h = record {
  typing = h.typing;
  checked = ap (λ n. check g ls' (n + 1) of) (sym k) ∙ ap (λ ls. check g ls (n + 1) of) (sym l) ∙ h.checked;
  variable = ap (λ n. variable_row g ls' var at n h.typing.type) (sym k) ∙ ap (λ ls. variable_row g ls var at n h.typing.type) (sym l) ∙ h.variable;
}

-- a slot was taken, and then the operand was typed
pub variable_so : (g : Env) (ls : List Local) (n : ℕ) (var : Word) (at : ℕ) (of : Phrase) (v : Local) (t : Shape) {ls' ls'' : List Local} {m slot : ℕ} → ls' ≡ ls → m ≡ n + 1 → slot ≡ n → ls'' ≡ ls' →
    IsTyped g ls' m of t → variable_row g ls'' var at slot t ≡ Ok v → IsVariable g ls n var at of v
variable_so g ls n var at of v t {slot = slot} l k s l' h r =
    let x = typed_at g of t l k h in
    record {
      typing = x.typing;
      checked = x.checked;
      variable = ap (λ t. variable_row g ls var at n t) x.type_is ∙ ap (λ n. variable_row g ls var at n t) (sym s) ∙ ap (λ ls. variable_row g ls var at slot t) (sym (l' ∙ l)) ∙ r;
    }

-- ---- statements

-- one statement more of a block, and the end of a block
pub acts_step : (g : Env) (ls ls' : List Local) (n n' : ℕ) (t t' : Body_types) {us rest : Acts} {a : Act} → us ≡ act a rest → ls' ≡ locals_behind g ls n a → n' ≡ n + slots_of_act a → t' ≡ with_slots t (found_act g ls n a) →
    with_slots t' (found_acts g ls' n' rest) ≡ with_slots t (found_acts g ls n us)
acts_step g ls ls' n n' t t' {us = us} {rest = rest} {a = a} e l k f =
    ap (λ ls. with_slots t' (found_acts g ls n' rest)) l ∙ ap (λ m. with_slots t' (found_acts g (locals_behind g ls n a) m rest)) k
    ∙ ap (λ u. with_slots u (found_acts g (locals_behind g ls n a) (n + slots_of_act a) rest)) f
    ∙ with_both t (found_act g ls n a) (found_acts g (locals_behind g ls n a) (n + slots_of_act a) rest) ∙ ap (λ us. with_slots t (found_acts g ls n us)) (sym e)

pub acts_end : (g : Env) (ls : List Local) (n : ℕ) (t : Body_types) {us : Acts} → us ≡ no_act → with_slots t (found_acts g ls n us) ≡ t
acts_end g ls n t e = ap (λ us. with_slots t (found_acts g ls n us)) e ∙ with_none t

-- one arm more of an `if`, and the end of its arms
pub branches_step : (g : Env) (ls : List Local) (n n' : ℕ) (t t' : Body_types) {bs rest : Branches} {at : ℕ} {c : Phrase} {block : Acts} → bs ≡ branch at c block rest → n' ≡ n + (slots_of c + slots_of_acts block) →
    t' ≡ with_slots t (found g ls n c ++ found_acts g ls (n + slots_of c) block) → with_slots t' (found_branches g ls n' rest) ≡ with_slots t (found_branches g ls n bs)
branches_step g ls n n' t t' {rest = rest} {c = c} {block = block} e k f =
    let m : n' ≡ n + slots_of c + slots_of_acts block = omega (arith, k) in
    ap (λ m. with_slots t' (found_branches g ls m rest)) m
    ∙ ap (λ u. with_slots u (found_branches g ls (n + slots_of c + slots_of_acts block) rest)) f
    ∙ with_both t (found g ls n c ++ found_acts g ls (n + slots_of c) block) (found_branches g ls (n + slots_of c + slots_of_acts block) rest) ∙ ap (λ bs. with_slots t (found_branches g ls n bs)) (sym e)

pub branches_end : (g : Env) (ls : List Local) (n : ℕ) (t : Body_types) {bs : Branches} → bs ≡ no_branch → with_slots t (found_branches g ls n bs) ≡ t
branches_end g ls n t e = ap (λ bs. with_slots t (found_branches g ls n bs)) e ∙ with_none t

-- a declaration: its own slot, those of its value, and the local that is visible behind it
pub declare_found : (g : Env) (ls : List Local) (n : ℕ) (type : Type_phrase) (w : Word) (p : Phrase) {s : Shape} → type_row g.relations type ≡ Ok s →
    found_act g ls n (declaring type w p) ≡ held s ∷ found g ls (n + 1) p
declare_found g ls n type w p e = ap (λ x. where_typed x (λ t. held t ∷ found g ls (n + 1) p)) e

pub declare_behind : (g : Env) (ls : List Local) (n : ℕ) (type : Type_phrase) (w : Word) (p : Phrase) {s : Shape} → type_row g.relations type ≡ Ok s →
    locals_behind g ls n (declaring type w p) ≡ ls ++ record { name = w.name; slot = n; shape = s } ∷ []
declare_behind g ls n type w p e = ap (λ x. locals_with ls w n x) e

-- the same at another place that is the same
pub acts_at : (g : Env) (block : Acts) (t t' : Body_types) {ls ls' : List Local} {n n' : ℕ} → ls ≡ ls' → n ≡ n' → t' ≡ with_slots t (found_acts g ls n block) → t' ≡ with_slots t (found_acts g ls' n' block)
acts_at g block t t' {ls' = ls'} {n = n} l k h = h ∙ ap (λ ls. with_slots t (found_acts g ls n block)) l ∙ ap (λ n. with_slots t (found_acts g ls' n block)) k

pub found_at : (g : Env) (p : Phrase) (t t' : Body_types) {ls ls' : List Local} {n n' : ℕ} → ls ≡ ls' → n ≡ n' → t' ≡ with_slots t (found g ls n p) → t' ≡ with_slots t (found g ls' n' p)
found_at g p t t' {ls' = ls'} {n = n} l k h = h ∙ ap (λ ls. with_slots t (found g ls n p)) l ∙ ap (λ n. with_slots t (found g ls' n p)) k

-- ---- visible locals

-- behind a statement the locals go on from those before it
pub extends_behind : (g : Env) (ls : List Local) (n : ℕ) (a : Act) {ms : List Local} → ms ≡ locals_behind g ls n a → Extends ls ms
extends_behind g ls n (declaring type w p) {ms = ms} e = by (type_row g.relations type) e
  where
    by : (x : Result Shape TypeFault) → ms ≡ locals_with ls w n x → Extends ls ms
    by (Ok t) e = extends_one (record { name = w.name; slot = n; shape = t }) e
    by (Err f) e = extends_none e
extends_behind g ls n (assigning w p) e = extends_none e
extends_behind g ls n (performing w args) e = extends_none e
extends_behind g ls n (choosing arms last) e = extends_none e
extends_behind g ls n (looping at c block) e = extends_none e
extends_behind g ls n (visiting at var of block) e = extends_none e
extends_behind g ls n (printing at p) e = extends_none e
extends_behind g ls n (applying at p) e = extends_none e
extends_behind g ls n (asserting at p) e = extends_none e
extends_behind g ls n (committing at label) e = extends_none e
extends_behind g ls n (rolling_back at) e = extends_none e
extends_behind g ls n (returning at) e = extends_none e
extends_behind g ls n (returning_value at p) e = extends_none e

-- the local that a declaration makes visible
pub declared_so : (g : Env) (ls : List Local) (n : ℕ) (type : Type_phrase) (w : Word) (p : Phrase) {s : Shape} {name : List ℕ} {slot : ℕ} {before after : List Local} → type_row g.relations type ≡ Ok s → name ≡ w.name → slot ≡ n →
    before ≡ ls → after ≡ before ++ record { name = name; slot = slot; shape = s } ∷ [] → after ≡ locals_behind g ls n (declaring type w p)
declared_so g ls n type w p {s = s} {name = name} {slot = slot} e a b c d =
    d ∙ ap (λ ms. ms ++ record { name = name; slot = slot; shape = s } ∷ []) c ∙ ap (λ name. ls ++ record { name = name; slot = slot; shape = s } ∷ []) a ∙ ap (λ slot. ls ++ record { name = w.name; slot = slot; shape = s } ∷ []) b
    ∙ sym (declare_behind g ls n type w p e)

-- a condition and its block at locals that are the same
pub arm_at : (g : Env) (n m : ℕ) (p : Phrase) (block : Acts) (t t' : Body_types) {ls ls' : List Local} → ls ≡ ls' → t' ≡ with_slots t (found g ls n p ++ found_acts g ls m block) → t' ≡ with_slots t (found g ls' n p ++ found_acts g ls' m block)
arm_at g n m p block t t' e h = h ∙ ap (λ ls. with_slots t (found g ls n p ++ found_acts g ls m block)) e

-- ---- what a function has walked through, whole

-- two expressions
pub pair_whole : (g : Env) (ls : List Local) (n : ℕ) (p q : Phrase) (t t' t'' : Body_types) {ls' : List Local} {n' : ℕ} → t' ≡ with_slots t (found g ls n p) → ls' ≡ ls → n' ≡ n + slots_of p → t'' ≡ with_slots t' (found g ls' n' q) →
    t'' ≡ with_slots t (found g ls n p ++ found g ls (n + slots_of p) q)
pair_whole g ls n p q t t' t'' e l k f = and_more t t' t'' (found g ls n p) (found g ls (n + slots_of p) q) e (found_at g q t' t'' l k f)

-- a condition and its block
pub arm_whole : (g : Env) (ls : List Local) (n : ℕ) (p : Phrase) (block : Acts) (t t' t'' : Body_types) {ls' : List Local} {n' : ℕ} → t' ≡ with_slots t (found g ls n p) → ls' ≡ ls → n' ≡ n + slots_of p → t'' ≡ with_slots t' (found_acts g ls' n' block) →
    t'' ≡ with_slots t (found g ls n p ++ found_acts g ls (n + slots_of p) block)
arm_whole g ls n p block t t' t'' e l k f = and_more t t' t'' (found g ls n p) (found_acts g ls (n + slots_of p) block) e (acts_at g block t' t'' l k f)

-- the arms of an `if` and its last block
pub choose_whole : (g : Env) (ls : List Local) (n : ℕ) (arms : Branches) (last : Acts) (t t' t'' : Body_types) {ls' : List Local} {n' : ℕ} → t' ≡ with_slots t (found_branches g ls n arms) → ls' ≡ ls → n' ≡ n + slots_of_branches arms →
    t'' ≡ with_slots t' (found_acts g ls' n' last) → t'' ≡ with_slots t (found_act g ls n (choosing arms last))
choose_whole g ls n arms last t t' t'' e l k f = and_more t t' t'' (found_branches g ls n arms) (found_acts g ls (n + slots_of_branches arms) last) e (acts_at g last t' t'' l k f)

-- a walk: its own slot, its operand, and its body with the variable
pub walk_whole : (g : Env) (ls : List Local) (n at : ℕ) (walk : WalkKind) (var : Word) (of body : Phrase) (l : Local) (gathers : List Attr) (t t' t'' u : Body_types) {s : Shape} {ls' ls'' : List Local} {n' n'' : ℕ} →
    IsWalk g ls n walk at var of body l gathers → s ≡ l.shape → t' ≡ with_slots t (record { shape = s; gathers = Some gathers } ∷ []) → ls' ≡ ls → n' ≡ n + 1 → t'' ≡ with_slots t' (found g ls' n' of) →
    ls'' ≡ ls ++ l ∷ [] → n'' ≡ n + 1 + slots_of of → u ≡ with_slots t'' (found g ls'' n'' body) → u ≡ with_slots t (found g ls n (walking walk at var of body))
walk_whole g ls n at walk var of body l gathers t t' t'' u w s a l1 k1 b l2 k2 c =
    three_steps t t' t'' u (walked l.shape gathers) (found g ls (n + 1) of) (found g (ls ++ l ∷ []) (n + 1 + slots_of of) body) (walk_found w) (own_slot t t' (Some gathers) s a) (found_at g of t' t'' l1 k1 b) (found_at g body t'' u l2 k2 c)

-- a `foreach`: its own slot, its operand, and its block with the variable
pub visit_whole : (g : Env) (ls : List Local) (n at : ℕ) (var : Word) (of : Phrase) (block : Acts) (l : Local) (gathers : List Attr) (t t' t'' u : Body_types) {s : Shape} {ls' ls'' : List Local} {n' n'' : ℕ} →
    IsVisit g ls n at var of l gathers → s ≡ l.shape → t' ≡ with_slots t (record { shape = s; gathers = Some gathers } ∷ []) → ls' ≡ ls → n' ≡ n + 1 → t'' ≡ with_slots t' (found g ls' n' of) →
    ls'' ≡ ls ++ l ∷ [] → n'' ≡ n + 1 + slots_of of → u ≡ with_slots t'' (found_acts g ls'' n'' block) → u ≡ with_slots t (found_act g ls n (visiting at var of block))
visit_whole g ls n at var of block l gathers t t' t'' u w s a l1 k1 b l2 k2 c =
    three_steps t t' t'' u (walked l.shape gathers) (found g ls (n + 1) of) (found_acts g (ls ++ l ∷ []) (n + 1 + slots_of of) block) (visit_found block w) (own_slot t t' (Some gathers) s a) (found_at g of t' t'' l1 k1 b) (acts_at g block t'' u l2 k2 c)

-- a declaration: its own slot, and its value
pub declare_whole : (g : Env) (ls : List Local) (n : ℕ) (type : Type_phrase) (w : Word) (p : Phrase) (shape : Shape) (t t' t'' : Body_types) {s : Shape} {ls' : List Local} {n' : ℕ} → type_row g.relations type ≡ Ok shape → s ≡ shape →
    t' ≡ with_slots t (record { shape = s; gathers = None } ∷ []) → ls' ≡ ls → n' ≡ n + 1 → t'' ≡ with_slots t' (found g ls' n' p) → t'' ≡ with_slots t (found_act g ls n (declaring type w p))
declare_whole g ls n type w p shape t t' t'' e s a l k b =
    and_more t t' t'' (held shape ∷ []) (found g ls (n + 1) p) (own_slot t t' None s a) (found_at g p t' t'' l k b) ∙ ap (λ ss. with_slots t ss) (sym (declare_found g ls n type w p e))

-- a statement that is read field by field
pub same_act : (g : Env) (ls : List Local) (n : ℕ) (t t' : Body_types) {a b : Act} → a ≡ b → t' ≡ with_slots t (found_act g ls n b) → t' ≡ with_slots t (found_act g ls n a)
same_act g ls n t t' e h = h ∙ ap (λ a. with_slots t (found_act g ls n a)) (sym e)

-- an expression that is read field by field
pub same_phrase : (g : Env) (ls : List Local) (n : ℕ) (t t' : Body_types) {a b : Phrase} → a ≡ b → t' ≡ with_slots t (found g ls n b) → t' ≡ with_slots t (found g ls n a)
same_phrase g ls n t t' e h = h ∙ ap (λ a. with_slots t (found g ls n a)) (sym e)
