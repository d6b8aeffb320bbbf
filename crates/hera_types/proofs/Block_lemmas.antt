-- The turns of blocks and of the arms of an `if`.
use Rattle.std.proofs.Common.{◌≡◌, ◌≢◌, ℕ, ◌+◌, ◌<◌, ◌≤◌, List, [], ◌∷◌, ◌++◌, length, get_or, drop, take, refl, sym, ap, ◌∙◌, append_assoc, arith, subst}
use Rattle.std.proofs.lemmas.List.{append-nil}
use Rattle.std.specs.Prelude.{Option, Result, Ok, Err, IsErrAnd}
use Rattle.hera_rules.specs.declared.fault.TypeFault.TheVariants.{Memory as memory}
use Rattle.std.proofs.lemmas.List.{map-append}
use Rattle.hera_meaning.specs.declared.trees.Shape.{Shape}
use Rattle.hera_meaning.specs.declared.trees.Stmt.{Stmt}
use Rattle.hera_meaning.specs.declared.trees.Arm.{Arm}
use Rattle.hera_meaning.specs.Trees.{Expr, Command, set_slot, if_arms, while, foreach, then_stmt, arm}
use Rattle.hera_meaning.specs.Plain.{command_of, expr_of, block_in, arms_in}
use Rattle.hera_syntax.specs.declared.tree.StmtTree.{StmtTree}
use Rattle.hera_syntax.specs.declared.tree.ElseIf.{ElseIf}
use Rattle.hera_rules.specs.declared.words.Word.{Word}
use Rattle.hera_rules.specs.declared.env.Local.{Local}
use Rattle.hera_rules.specs.declared.fault.TypeFault.{TypeFault}
use Rattle.hera_rules.specs.Environments.{Env}
use Rattle.hera_rules.specs.Phrases.{Phrase, Type_phrase, Act, declaring, Acts, no_act, act, Branches, no_branch, branch, choosing, looping, visiting}
use Rattle.hera_rules.specs.Read.{expr_phrase}
use Rattle.hera_rules.specs.ReadActs.{act_of, acts_in, block_acts, branches_in}
use Rattle.hera_rules.specs.Rules.{Typing, variable_row}
use Rattle.hera_rules.specs.Typing.{slots_of}
use Rattle.hera_rules.specs.Checked.{and_then, check}
use Rattle.hera_rules.specs.Commands.{type_row, declare_local, done, Armed, block_from, arms_from, cond_row}
use Rattle.hera_rules.specs.Statements.{slots_of_act, slots_of_acts, slots_of_branches}
use Rattle.hera_rules.specs.CheckedActs.{stays, check_act, check_acts, check_branches}
use Rattle.hera_rules.specs.Agrees.{Gives}
use Rattle.hera_types_parts.proofs.Giving.{next_at, none_at}
use Rattle.hera_types.specs.Scopes.{ActGives, Extends, commands_in, armed_of, armed_in, arm_row}

-- ---- locals

pub extends_none : {ls ms : List Local} → ms ≡ ls → Extends ls ms
extends_none {ls = ls} {ms = ms} e = record { more = []; is = e ∙ sym (append-nil ls) }

pub extends_one : {ls ms : List Local} (l : Local) → ms ≡ ls ++ l ∷ [] → Extends ls ms
extends_one l e = record { more = l ∷ []; is = e }

pub extends_on : {ls ms ns : List Local} → Extends ls ms → Extends ms ns → Extends ls ns
extends_on {ls = ls} e f = record { more = e.more ++ f.more; is = f.is ∙ ap (λ r. r ++ f.more) e.is ∙ append_assoc ls e.more f.more }

take_front : {A : Type 0} (xs ys : List A) → take (length xs) (xs ++ ys) ≡ xs
take_front [] ys = refl
take_front (x ∷ xs) ys = ap (λ r. x ∷ r) (take_front xs ys)

pub cut_back : {ls ms : List Local} {d : ℕ} → Extends ls ms → d ≡ length ls → take d ms ≡ ls
cut_back {ls = ls} e k = rw (k, e.is) (take_front ls e.more)

-- ---- plain lists

pub block_of_commands : (ss : List Stmt) → block_in ss ≡ block_from (commands_in ss)
block_of_commands [] = refl
block_of_commands (s ∷ ss) = ap (λ b. then_stmt (command_of s) b) (block_of_commands ss)

pub arms_of_armed : (xs : List Arm) → arms_in xs ≡ arms_from (armed_in xs)
arms_of_armed [] = refl
arms_of_armed (a ∷ xs) = ap (λ b. arm (expr_of a.cond) b (arms_in xs)) (block_of_commands a.block.items) ∙ ap (λ r. arm (expr_of a.cond) (block_from (commands_in a.block.items)) r) (arms_of_armed xs)

-- ---- what is left of a list: one more, or none

pub acts_more : (xs : List StmtTree) (i : ℕ) (x : StmtTree) → i < length xs → x ≡ get_or xs i x → acts_in (drop i xs) ≡ act (act_of x) (acts_in (drop (i + 1) xs))
acts_more xs i x h e = ap acts_in (next_at xs i x h e)

pub acts_none : (xs : List StmtTree) (i : ℕ) → length xs ≤ i → acts_in (drop i xs) ≡ no_act
acts_none xs i h = ap acts_in (none_at xs i h)

pub branches_more : (xs : List ElseIf) (i : ℕ) (x : ElseIf) → i < length xs → x ≡ get_or xs i x →
    branches_in (drop i xs) ≡ branch x.word.at (expr_phrase x.condition) (block_acts x.block) (branches_in (drop (i + 1) xs))
branches_more xs i x h e = ap branches_in (next_at xs i x h e)

pub branches_none : (xs : List ElseIf) (i : ℕ) → length xs ≤ i → branches_in (drop i xs) ≡ no_branch
branches_none xs i h = ap branches_in (none_at xs i h)

pub commands_more : (ss : List Stmt) (s : Stmt) {ss' : List Stmt} → ss' ≡ ss ++ s ∷ [] → commands_in ss' ≡ commands_in ss ++ command_of s ∷ []
commands_more ss s e = ap commands_in e ∙ map-append command_of ss (s ∷ [])

pub armed_more : (xs : List Arm) (a : Arm) {xs' : List Arm} → xs' ≡ xs ++ a ∷ [] → armed_in xs' ≡ armed_in xs ++ armed_of a ∷ []
armed_more xs a e = ap armed_in e ∙ map-append armed_of xs (a ∷ [])

-- ---- statements

abbrev armed_with : Expr → List Command → Armed
armed_with e cs = record { cond = e; block = cs }

-- three steps and what follows, or three steps that are made into one thing, and what follows
last_of : {C D E : Type 0} (x : Result C TypeFault) (make : C → D) (k : D → Result E TypeFault) → and_then x (λ c. k (make c)) ≡ and_then (and_then x (λ c. Ok (make c))) k
last_of (Ok c) make k = refl
last_of (Err f) make k = refl

two_of : {B C D E : Type 0} (w : Result B TypeFault) (h : B → Result C TypeFault) (make : B → C → D) (k : D → Result E TypeFault) →
    and_then w (λ b. and_then (h b) (λ c. k (make b c))) ≡ and_then (and_then w (λ b. and_then (h b) (λ c. Ok (make b c)))) k
two_of (Ok b) h make k = last_of (h b) (make b) k
two_of (Err f) h make k = refl

nested : {A B C D E : Type 0} (v : Result A TypeFault) (f : A → Result B TypeFault) (h : B → Result C TypeFault) (make : B → C → D) (k : D → Result E TypeFault) →
    and_then v (λ a. and_then (f a) (λ b. and_then (h b) (λ c. k (make b c)))) ≡ and_then (and_then v (λ a. and_then (f a) (λ b. and_then (h b) (λ c. Ok (make b c))))) k
nested (Ok a) f h make k = two_of (f a) h make k
nested (Err e) f h make k = refl

module _ (g : Env) (r : Option Shape) where
  pub acts_turn : (ls : List Local) (n : ℕ) (cs : List Command) {ls' : List Local} {n' : ℕ} {cs' : List Command} {us rest : Acts} {a : Act} {c : Command} →
      us ≡ act a rest → check_act g r ls n a ≡ Ok (done ls' c) → n' ≡ n + slots_of_act a → cs' ≡ cs ++ c ∷ [] → check_acts g r ls n cs us ≡ check_acts g r ls' n' cs' rest
  acts_turn ls n cs u e k i = ap (λ us. check_acts g r ls n cs us) u ∙ rw (e, ← k, ← i) refl

  pub acts_stop : (ls : List Local) (n : ℕ) (cs : List Command) {us rest : Acts} {a : Act} {f : TypeFault} → us ≡ act a rest → check_act g r ls n a ≡ Err f → check_acts g r ls n cs us ≡ Err f
  acts_stop ls n cs u e = ap (λ us. check_acts g r ls n cs us) u ∙ rw e refl

  pub acts_end : (ls : List Local) (n : ℕ) (cs : List Command) {us : Acts} → us ≡ no_act → check_acts g r ls n cs us ≡ Ok cs
  acts_end ls n cs u = ap (λ us. check_acts g r ls n cs us) u

  -- a declaration
  pub declare_done : (ls : List Local) (n : ℕ) (type : Type_phrase) (w : Word) (p : Phrase) {t : Shape} {v : Typing} {l : Local} →
      type_row g.relations type ≡ Ok t → check g ls (n + 1) p ≡ Ok v → declare_local g ls w n t v.type ≡ Ok l → check_act g r ls n (declaring type w p) ≡ Ok (done (ls ++ l ∷ []) (set_slot n v.core))
  declare_done ls n type w p e k d = rw (e, k, d) refl

  -- a `foreach`
  pub visit_operand : (ls : List Local) (n : ℕ) {at : ℕ} {a : Act} {var : Word} {of : Phrase} {block : Acts} {f : TypeFault} →
      a ≡ visiting at var of block → check g ls (n + 1) of ≡ Err f → check_act g r ls n a ≡ Err f
  visit_operand ls n e k = ap (λ a. check_act g r ls n a) e ∙ rw k refl

  pub visit_variable : (ls : List Local) (n : ℕ) {at : ℕ} {a : Act} {var : Word} {of : Phrase} {block : Acts} {v : Typing} {f : TypeFault} →
      a ≡ visiting at var of block → check g ls (n + 1) of ≡ Ok v → variable_row g ls var at n v.type ≡ Err f → check_act g r ls n a ≡ Err f
  visit_variable ls n e k d = ap (λ a. check_act g r ls n a) e ∙ rw (k, d) refl

  pub visit_body : (ls : List Local) (n : ℕ) {m at : ℕ} {a : Act} {var : Word} {of : Phrase} {block : Acts} {v : Typing} {l : Local} {f : TypeFault} →
      a ≡ visiting at var of block → check g ls (n + 1) of ≡ Ok v → variable_row g ls var at n v.type ≡ Ok l → m ≡ n + 1 + slots_of of →
      check_acts g r (ls ++ l ∷ []) m [] block ≡ Err f → check_act g r ls n a ≡ Err f
  visit_body ls n e k d i h = ap (λ a. check_act g r ls n a) e ∙ rw (k, d, ← i, h) refl

  pub visit_done : (ls : List Local) (n : ℕ) {m at : ℕ} {a : Act} {var : Word} {of : Phrase} {block : Acts} {v : Typing} {l : Local} {cs : List Command} →
      a ≡ visiting at var of block → check g ls (n + 1) of ≡ Ok v → variable_row g ls var at n v.type ≡ Ok l → m ≡ n + 1 + slots_of of →
      check_acts g r (ls ++ l ∷ []) m [] block ≡ Ok cs → check_act g r ls n a ≡ Ok (done ls (foreach n v.core (block_from cs)))
  visit_done ls n e k d i h = ap (λ a. check_act g r ls n a) e ∙ rw (k, d, ← i, h) refl

  -- the arms of an `if`
  branch_first : (ls : List Local) (n : ℕ) (ready : List Armed) (at : ℕ) (c : Phrase) (block : Acts) (rest : Branches) →
      check_branches g r ls n ready (branch at c block rest) ≡ and_then (arm_row g r ls n at c block) (λ a. check_branches g r ls (n + slots_of c + slots_of_acts block) (ready ++ a ∷ []) rest)
  branch_first ls n ready at c block rest =
      nested (check g ls n c) (λ v. cond_row at v) (λ e. check_acts g r ls (n + slots_of c) [] block) armed_with (λ a. check_branches g r ls (n + slots_of c + slots_of_acts block) (ready ++ a ∷ []) rest)

  pub branches_turn : (ls : List Local) (n : ℕ) (ready : List Armed) {n' at : ℕ} {ready' : List Armed} {us rest : Branches} {c : Phrase} {block : Acts} {a : Armed} →
      us ≡ branch at c block rest → arm_row g r ls n at c block ≡ Ok a → n' ≡ n + (slots_of c + slots_of_acts block) → ready' ≡ ready ++ a ∷ [] → check_branches g r ls n ready us ≡ check_branches g r ls n' ready' rest
  branches_turn ls n ready {n' = n'} {at = at} {rest = rest} {c = c} {block = block} {a = a} u e k i =
      let m : n + slots_of c + slots_of_acts block ≡ n' = omega (arith, k) in
      ap (λ us. check_branches g r ls n ready us) u ∙ branch_first ls n ready at c block rest
      ∙ ap (λ v. and_then v (λ a. check_branches g r ls (n + slots_of c + slots_of_acts block) (ready ++ a ∷ []) rest)) e
      ∙ ap (λ m. check_branches g r ls m (ready ++ a ∷ []) rest) m ∙ ap (λ s. check_branches g r ls n' s rest) (sym i)

  pub branches_stop : (ls : List Local) (n : ℕ) (ready : List Armed) {at : ℕ} {us rest : Branches} {c : Phrase} {block : Acts} {f : TypeFault} →
      us ≡ branch at c block rest → arm_row g r ls n at c block ≡ Err f → check_branches g r ls n ready us ≡ Err f
  branches_stop ls n ready {at = at} {rest = rest} {c = c} {block = block} u e =
      ap (λ us. check_branches g r ls n ready us) u ∙ branch_first ls n ready at c block rest
      ∙ ap (λ v. and_then v (λ a. check_branches g r ls (n + slots_of c + slots_of_acts block) (ready ++ a ∷ []) rest)) e

  pub branches_end : (ls : List Local) (n : ℕ) (ready : List Armed) {us : Branches} → us ≡ no_branch → check_branches g r ls n ready us ≡ Ok ready
  branches_end ls n ready u = ap (λ us. check_branches g r ls n ready us) u

  -- an `if` whose arms are read
  pub choose_done : (ls : List Local) (n : ℕ) {n' : ℕ} {a : Act} {arms : Branches} {last : Acts} {all : List Armed} {cs : List Command} →
      a ≡ choosing arms last → check_branches g r ls n [] arms ≡ Ok all → n' ≡ n + slots_of_branches arms → check_acts g r ls n' [] last ≡ Ok cs →
      check_act g r ls n a ≡ Ok (done ls (if_arms (arms_from all) (block_from cs)))
  choose_done ls n u e k h = ap (λ a. check_act g r ls n a) u ∙ rw (e, ← k, h) refl

  pub choose_arm_breaks : (ls : List Local) (n : ℕ) {a : Act} {arms : Branches} {last : Acts} {f : TypeFault} →
      a ≡ choosing arms last → check_branches g r ls n [] arms ≡ Err f → check_act g r ls n a ≡ Err f
  choose_arm_breaks ls n u e = ap (λ a. check_act g r ls n a) u ∙ rw e refl

  pub choose_last_breaks : (ls : List Local) (n : ℕ) {n' : ℕ} {a : Act} {arms : Branches} {last : Acts} {all : List Armed} {f : TypeFault} →
      a ≡ choosing arms last → check_branches g r ls n [] arms ≡ Ok all → n' ≡ n + slots_of_branches arms → check_acts g r ls n' [] last ≡ Err f → check_act g r ls n a ≡ Err f
  choose_last_breaks ls n u e k h = ap (λ a. check_act g r ls n a) u ∙ rw (e, ← k, h) refl

  -- a `while`
  loop_first : (ls : List Local) (n at : ℕ) (c : Phrase) (block : Acts) →
      check_act g r ls n (looping at c block) ≡ and_then (arm_row g r ls n at c block) (λ a. Ok (done ls (while a.cond (block_from a.block))))
  loop_first ls n at c block =
      nested (check g ls n c) (λ v. cond_row at v) (λ e. check_acts g r ls (n + slots_of c) [] block) armed_with (λ a. Ok (done ls (while a.cond (block_from a.block))))

  pub loop_done : (ls : List Local) (n : ℕ) {at : ℕ} {a : Act} {c : Phrase} {block : Acts} {b : Armed} → a ≡ looping at c block → arm_row g r ls n at c block ≡ Ok b →
      check_act g r ls n a ≡ Ok (done ls (while b.cond (block_from b.block)))
  loop_done ls n {at = at} {c = c} {block = block} u e = ap (λ a. check_act g r ls n a) u ∙ loop_first ls n at c block ∙ ap (λ v. and_then v (λ (a : Armed). Ok (done ls (while a.cond (block_from a.block))))) e

  pub loop_breaks : (ls : List Local) (n : ℕ) {at : ℕ} {a : Act} {c : Phrase} {block : Acts} {f : TypeFault} → a ≡ looping at c block → arm_row g r ls n at c block ≡ Err f → check_act g r ls n a ≡ Err f
  loop_breaks ls n {at = at} {c = c} {block = block} u e = ap (λ a. check_act g r ls n a) u ∙ loop_first ls n at c block ∙ ap (λ v. and_then v (λ (a : Armed). Ok (done ls (while a.cond (block_from a.block))))) e

-- ---- answers of the code

-- an error of a statement that is handed on
pub act_err : (g : Env) (r : Option Shape) (ls : List Local) (n : ℕ) (a : Act) (now : List Local) (v : Result Stmt TypeFault) {f : TypeFault} →
    IsErrAnd v (λ e. e ≡ f) → (f ≢ memory → check_act g r ls n a ≡ Err f) → ActGives v now g r ls n a
act_err g r ls n a now (Ok s) h k = elim h [ ]
act_err g r ls n a now (Err e) h k = λ ne. k (λ z. ne (h ∙ z)) ∙ ap (λ f. Err f) (sym h)

-- the first of the commands, or of the arms
pub armed_first : (a : Arm) {xs xs' : List Arm} → xs' ≡ xs ++ a ∷ [] → xs ≡ [] → armed_in xs' ≡ armed_of a ∷ []
armed_first a e k = ap armed_in (e ∙ ap (λ xs. xs ++ a ∷ []) k)

-- an arm that is checked, in equal locals
pub arm_at : (g : Env) (r : Option Shape) (n at : ℕ) (c : Phrase) (block : Acts) {ls ls' : List Local} {v : Result Armed TypeFault} → ls ≡ ls' → arm_row g r ls n at c block ≡ v → arm_row g r ls' n at c block ≡ v
arm_at g r n at c block {v = v} e h = subst (λ ls. arm_row g r ls n at c block ≡ v) e h

-- the core of an `if`
pub if_core : (arms : List Arm) (other : List Stmt) → if_arms (arms_in arms) (block_in other) ≡ if_arms (arms_from (armed_in arms)) (block_from (commands_in other))
if_core arms other = ap (λ a. if_arms a (block_in other)) (arms_of_armed arms) ∙ ap (λ b. if_arms (arms_from (armed_in arms)) b) (block_of_commands other)

-- a statement that is read field by field
pub act_as : (g : Env) (r : Option Shape) (ls : List Local) (n : ℕ) (now : List Local) (v : Result Stmt TypeFault) {a b : Act} → b ≡ a → ActGives v now g r ls n a → ActGives v now g r ls n b
act_as g r ls n now v e h = subst (λ a. ActGives v now g r ls n a) (sym e) h

-- a statement that a row gives, whose error says something but where memory is short
pub act_row : (g : Env) (r : Option Shape) (ls : List Local) (n : ℕ) (now : List Local) (v : Result Stmt TypeFault) (a : Act) (row : Result Command TypeFault) →
    check_act g r ls n a ≡ stays ls row → now ≡ ls → Gives command_of v row → ActGives v now g r ls n a
act_row g r ls n now (Ok s) a row w k h = w ∙ ap (λ x. stays ls x) h ∙ ap (λ ls. Ok (done ls (command_of s))) (sym k)
act_row g r ls n now (Err f) a row w k h = λ ne. w ∙ ap (λ x. stays ls x) (h ne)

-- ---- an `if`, read part by part

module _ (g : Env) (r : Option Shape) (ls : List Local) (n : ℕ) where
  -- the arms that are read, and those that are left
  pub arms_begin : (at : ℕ) (c : Phrase) (block : Acts) (rest : Branches) (front : Arm) {m : ℕ} {none some : List Arm} → arm_row g r ls n at c block ≡ Ok (armed_of front) →
      m ≡ n + (slots_of c + slots_of_acts block) → none ≡ [] → some ≡ none ++ front ∷ [] →
      check_branches g r ls n [] (branch at c block rest) ≡ check_branches g r ls m (armed_in some) rest
  arms_begin at c block rest front e k z s =
      let whole : branch at c block rest ≡ branch at c block rest = refl in
      branches_turn g r ls n [] whole e k (armed_first front s z)

  pub if_done : {m : ℕ} {a : Act} {arms : Branches} {last : Acts} (all : List Arm) (other : List Stmt) (now : List Local) (s : Stmt) →
      a ≡ choosing arms last → check_branches g r ls n [] arms ≡ Ok (armed_in all) → m ≡ n + slots_of_branches arms → check_acts g r ls m [] last ≡ Ok (commands_in other) →
      now ≡ ls → command_of s ≡ if_arms (arms_in all) (block_in other) → check_act g r ls n a ≡ Ok (done now (command_of s))
  if_done all other now s e k i h l c =
      choose_done g r ls n e k i h ∙ ap (λ ls. Ok (done ls (if_arms (arms_from (armed_in all)) (block_from (commands_in other))))) (sym l)
      ∙ ap (λ c. Ok (done now c)) (sym (c ∙ if_core all other))

  pub while_done : {at : ℕ} {a : Act} {c : Phrase} {block : Acts} (b : Arm) (now : List Local) (s : Stmt) → a ≡ looping at c block → arm_row g r ls n at c block ≡ Ok (armed_of b) →
      now ≡ ls → command_of s ≡ while (expr_of b.cond) (block_in b.block.items) → check_act g r ls n a ≡ Ok (done now (command_of s))
  while_done b now s e k l c =
      loop_done g r ls n e k ∙ ap (λ ls. Ok (done ls (while (expr_of b.cond) (block_from (commands_in b.block.items))))) (sym l)
      ∙ ap (λ c. Ok (done now c)) (sym (c ∙ ap (λ b'. while (expr_of b.cond) b') (block_of_commands b.block.items)))
