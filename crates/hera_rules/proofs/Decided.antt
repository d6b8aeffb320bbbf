-- Each phrase is typed or has a first fault, and the function says which.
use Rattle.std.proofs.Common.{◌≡◌, ℕ, ◌+◌, List, [], ◌∷◌, ◌++◌, refl, inl, inr}
use Rattle.std.specs.Prelude.{Result, Ok, Err, ◌⊎◌}
use Rattle.hera_meaning.specs.declared.trees.Shape.{Shape}
use Rattle.hera_rules.specs.declared.env.Local.{Local}
use Rattle.hera_rules.specs.declared.fault.TypeFault.{TypeFault}
use Rattle.hera_rules.specs.Environments.{Env}
use Rattle.hera_rules.specs.Phrases.{Phrase, literal, named, calling, operation, prefixed, attribute, row, atom, atoms, line, lines, walking, projecting, renaming, pairing, grouping, testing, folding, bulk, part, Phrases, no_phrase, phrase, Uses, no_use, uses}
use Rattle.hera_rules.specs.Rules.{Typing, typing, Step, name_row, call_row, joint_row, chain_core, prefix_row, field_row, row_row, atom_row, atoms_row, line_row, lines_row, variable_row, walk_row, project_row, rename_row, pair_row, group_row, test_row, fold_row, bulk_row, part_row}
use Rattle.hera_rules.specs.Typing.{slots_of, Elab, ElabAll, ElabUses, Broken, First, FirstAll, FirstUses, literal_is, name_is, operation_is, atoms_are, pair_is, walk_is, none_are, more_are, no_use_is, use_is, name_breaks, pair_breaks, variable_breaks, walk_breaks, here, in_first, in_rest, in_atoms, in_left, in_right, in_range, in_body, in_this, in_others, in_operand, use_breaks, in_later, prefix_is, prefix_breaks, in_prefix, field_is, field_breaks, in_field, project_is, project_breaks, in_project, rename_is, rename_breaks, in_rename, group_is, group_breaks, in_group, test_is, test_breaks, in_test, fold_is, fold_breaks, in_fold, bulk_is, bulk_breaks, in_bulk, part_is, part_breaks, in_part, call_is, call_breaks, in_call, row_is, row_breaks, in_row, atom_is, atom_breaks, in_atom, line_is, line_breaks, in_line, lines_is, lines_breaks, in_lines}
use Rattle.hera_rules.specs.Checked.{Chained, and_then, check, check_all, check_uses}

abbrev pub Says : {A : Type 0} → Result A TypeFault → (A → Type 0) → (TypeFault → Type 0) → Type 0
Says (Ok a) P F = P a
Says (Err f) P F = F f

pub after : {A B : Type 0} {P : A → Type 0} {F : TypeFault → Type 0} (Q : B → Type 0) (G : TypeFault → Type 0) (r : Result A TypeFault) (go : A → Result B TypeFault) →
    Says r P F → ((a : A) → P a → Says (go a) Q G) → ((f : TypeFault) → F f → G f) → Says (and_then r go) Q G
after Q G (Ok a) go d ok err = ok a d
after Q G (Err f) go d ok err = err f d

pub after_row : {A B : Type 0} (Q : B → Type 0) (G : TypeFault → Type 0) (r : Result A TypeFault) (go : A → Result B TypeFault) →
    ((a : A) → r ≡ Ok a → Says (go a) Q G) → ((f : TypeFault) → r ≡ Err f → G f) → Says (and_then r go) Q G
after_row Q G (Ok a) go ok err = ok a refl
after_row Q G (Err f) go ok err = err f refl

pub row_says : {B : Type 0} (Q : B → Type 0) (G : TypeFault → Type 0) (r : Result B TypeFault) → ((b : B) → r ≡ Ok b → Q b) → ((f : TypeFault) → r ≡ Err f → G f) → Says r Q G
row_says Q G (Ok a) ok err = ok a refl
row_says Q G (Err f) ok err = err f refl

pub handed : {A : Type 0} {P : A → Type 0} {F : TypeFault → Type 0} (Q : A → Type 0) (G : TypeFault → Type 0) (r : Result A TypeFault) → Says r P F → ((a : A) → P a → Q a) → ((f : TypeFault) → F f → G f) → Says r Q G
handed Q G (Ok a) d ok err = ok a d
handed Q G (Err f) d ok err = err f d

-- what is decided of a phrase, of phrases, of the rest of a chain
abbrev pub Decided : Env → List Local → ℕ → Phrase → Type 0
Decided g ls n p = Says (check g ls n p) (λ v. Elab g ls n p v) (λ f. First g ls n p f)

abbrev pub DecidedAll : Env → List Local → ℕ → List Typing → Phrases → Type 0
DecidedAll g ls n vs ps = Says (check_all g ls n vs ps) (λ all. ElabAll g ls n vs ps all) (λ f. FirstAll g ls n vs ps f)

abbrev pub DecidedUses : Env → List Local → ℕ → Shape → List Step → Uses → Type 0
DecidedUses g ls n t is us = Says (check_uses g ls n t is us) (λ u. ElabUses g ls n t is us u.type u.steps) (λ f. FirstUses g ls n t is us f)

-- behind a phrase
pub behind : {B : Type 0} (Q : B → Type 0) (G : TypeFault → Type 0) (g : Env) (ls : List Local) (n : ℕ) (p : Phrase) (go : Typing → Result B TypeFault) →
    Decided g ls n p → ((v : Typing) → Elab g ls n p v → Says (go v) Q G) → ((f : TypeFault) → First g ls n p f → G f) → Says (and_then (check g ls n p) go) Q G
behind Q G g ls n p go d ok err = after {P = λ v. Elab g ls n p v} {F = λ f. First g ls n p f} Q G (check g ls n p) go d ok err

pub behind_all : {B : Type 0} (Q : B → Type 0) (G : TypeFault → Type 0) (g : Env) (ls : List Local) (n : ℕ) (vs : List Typing) (ps : Phrases) (go : List Typing → Result B TypeFault) →
    DecidedAll g ls n vs ps → ((all : List Typing) → ElabAll g ls n vs ps all → Says (go all) Q G) → ((f : TypeFault) → FirstAll g ls n vs ps f → G f) → Says (and_then (check_all g ls n vs ps) go) Q G
behind_all Q G g ls n vs ps go d ok err = after {P = λ all. ElabAll g ls n vs ps all} {F = λ f. FirstAll g ls n vs ps f} Q G (check_all g ls n vs ps) go d ok err

-- a phrase q with one part p, and with a list of parts
single : (g : Env) (ls : List Local) (n : ℕ) (p q : Phrase) (go : Typing → Result Typing TypeFault) → Decided g ls n p →
    ((v r : Typing) → Elab g ls n p v → go v ≡ Ok r → Elab g ls n q r) → ((v : Typing) (f : TypeFault) → Elab g ls n p v → go v ≡ Err f → Broken g ls n q f) →
    ((f : TypeFault) → First g ls n p f → First g ls n q f) → Says (and_then (check g ls n p) go) (λ v. Elab g ls n q v) (λ f. First g ls n q f)
single g ls n p q go d ok breaks err =
    behind (λ v. Elab g ls n q v) (λ f. First g ls n q f) g ls n p go d
    (λ v e. row_says (λ v. Elab g ls n q v) (λ f. First g ls n q f) (go v) (λ r h. ok v r e h) (λ f h. here (breaks v f e h))) err

several : (g : Env) (ls : List Local) (n : ℕ) (ps : Phrases) (q : Phrase) (go : List Typing → Result Typing TypeFault) → DecidedAll g ls n [] ps →
    ((vs : List Typing) (r : Typing) → ElabAll g ls n [] ps vs → go vs ≡ Ok r → Elab g ls n q r) → ((vs : List Typing) (f : TypeFault) → ElabAll g ls n [] ps vs → go vs ≡ Err f → Broken g ls n q f) →
    ((f : TypeFault) → FirstAll g ls n [] ps f → First g ls n q f) → Says (and_then (check_all g ls n [] ps) go) (λ v. Elab g ls n q v) (λ f. First g ls n q f)
several g ls n ps q go d ok breaks err =
    behind_all (λ v. Elab g ls n q v) (λ f. First g ls n q f) g ls n [] ps go d
    (λ vs e. row_says (λ v. Elab g ls n q v) (λ f. First g ls n q f) (go vs) (λ r h. ok vs r e h) (λ f h. here (breaks vs f e h))) err

mutual
  pub decided : (g : Env) (ls : List Local) (n : ℕ) (p : Phrase) → Decided g ls n p
  decided g ls n (literal c) = literal_is
  decided g ls n (named w) = row_says (λ v. Elab g ls n (named w) v) (λ f. First g ls n (named w) f) (name_row g ls w) (λ v h. name_is h) (λ f h. here (name_breaks h))
  decided g ls n (prefixed op at p) = single g ls n p (prefixed op at p) (λ v. prefix_row op at v) (decided g ls n p) (λ v r e h. prefix_is e h) (λ v f e h. prefix_breaks e h) (λ f d. in_prefix d)
  decided g ls n (attribute p w) = single g ls n p (attribute p w) (λ v. field_row w v) (decided g ls n p) (λ v r e h. field_is e h) (λ v f e h. field_breaks e h) (λ f d. in_field d)
  decided g ls n (projecting at p names) = single g ls n p (projecting at p names) (λ v. project_row at names v) (decided g ls n p) (λ v r e h. project_is e h) (λ v f e h. project_breaks e h) (λ f d. in_project d)
  decided g ls n (renaming at p names) = single g ls n p (renaming at p names) (λ v. rename_row at names v) (decided g ls n p) (λ v r e h. rename_is e h) (λ v f e h. rename_breaks e h) (λ f d. in_rename d)
  decided g ls n (grouping at p by aggs) = single g ls n p (grouping at p by aggs) (λ v. group_row at by aggs v) (decided g ls n p) (λ v r e h. group_is e h) (λ v f e h. group_breaks e h) (λ f d. in_group d)
  decided g ls n (testing test at p) = single g ls n p (testing test at p) (λ v. test_row test at v) (decided g ls n p) (λ v r e h. test_is e h) (λ v f e h. test_breaks e h) (λ f d. in_test d)
  decided g ls n (folding fold at p w) = single g ls n p (folding fold at p w) (λ v. fold_row fold at w v) (decided g ls n p) (λ v r e h. fold_is e h) (λ v f e h. fold_breaks e h) (λ f d. in_fold d)
  decided g ls n (bulk sign w at p) = single g ls n p (bulk sign w at p) (λ v. bulk_row g sign w at v) (decided g ls n p) (λ v r e h. bulk_is e h) (λ v f e h. bulk_breaks e h) (λ f d. in_bulk d)
  decided g ls n (part sign w at p) = single g ls n p (part sign w at p) (λ v. part_row g sign w at v) (decided g ls n p) (λ v r e h. part_is e h) (λ v f e h. part_breaks e h) (λ f d. in_part d)
  decided g ls n (calling w args) = several g ls n args (calling w args) (λ vs. call_row g w vs) (decided_all g ls n [] args) (λ vs r e h. call_is e h) (λ vs f e h. call_breaks e h) (λ f d. in_call d)
  decided g ls n (row at names args) = several g ls n args (row at names args) (λ vs. row_row at names vs) (decided_all g ls n [] args) (λ vs r e h. row_is e h) (λ vs f e h. row_breaks e h) (λ f d. in_row d)
  decided g ls n (atom sign w args) = several g ls n args (atom sign w args) (λ vs. atom_row g sign w vs) (decided_all g ls n [] args) (λ vs r e h. atom_is e h) (λ vs f e h. atom_breaks e h) (λ f d. in_atom d)
  decided g ls n (line w at args) = several g ls n args (line w at args) (λ vs. line_row g w at vs) (decided_all g ls n [] args) (λ vs r e h. line_is e h) (λ vs f e h. line_breaks e h) (λ f d. in_line d)
  decided g ls n (lines w at args) = several g ls n args (lines w at args) (λ vs. lines_row g w at vs) (decided_all g ls n [] args) (λ vs r e h. lines_is e h) (λ vs f e h. lines_breaks e h) (λ f d. in_lines d)
  decided g ls n (atoms at all) =
      behind_all (λ v. Elab g ls n (atoms at all) v) (λ f. First g ls n (atoms at all) f) g ls n [] all (λ vs. Ok (atoms_row at vs)) (decided_all g ls n [] all)
      (λ vs e. atoms_are e) (λ f d. in_atoms d)
  decided g ls n (operation p rest) =
      let Q : Typing → Type 0 = λ v. Elab g ls n (operation p rest) v in
      let G : TypeFault → Type 0 = λ f. First g ls n (operation p rest) f in
      behind Q G g ls n p (λ v. and_then (check_uses g ls (n + slots_of p) v.type [] rest) (λ u. Ok (typing u.type (chain_core v.core u.steps)))) (decided g ls n p)
      (λ v e. after {P = λ u. ElabUses g ls (n + slots_of p) v.type [] rest u.type u.steps} {F = λ f. FirstUses g ls (n + slots_of p) v.type [] rest f} Q G
      (check_uses g ls (n + slots_of p) v.type [] rest) (λ (u : Chained). Ok (typing u.type (chain_core v.core u.steps)))
      (decided_uses g ls (n + slots_of p) v.type [] rest) (λ u k. operation_is e k) (λ f d. in_rest e d)) (λ f d. in_first d)
  decided g ls n (pairing pair at p q) =
      let Q : Typing → Type 0 = λ v. Elab g ls n (pairing pair at p q) v in
      let G : TypeFault → Type 0 = λ f. First g ls n (pairing pair at p q) f in
      behind Q G g ls n p (λ v. and_then (check g ls (n + slots_of p) q) (λ w. pair_row pair at v w)) (decided g ls n p)
      (λ v e. behind Q G g ls (n + slots_of p) q (λ w. pair_row pair at v w) (decided g ls (n + slots_of p) q)
      (λ w d. row_says Q G (pair_row pair at v w) (λ r h. pair_is e d h) (λ f h. here (pair_breaks e d h))) (λ f d. in_right e d)) (λ f d. in_left d)
  decided g ls n (walking walk at var of body) =
      let Q : Typing → Type 0 = λ v. Elab g ls n (walking walk at var of body) v in
      let G : TypeFault → Type 0 = λ f. First g ls n (walking walk at var of body) f in
      behind Q G g ls (n + 1) of
      (λ v. and_then (variable_row g ls var at n v.type) (λ l. and_then (check g (ls ++ l ∷ []) (n + 1 + slots_of of) body) (λ b. walk_row walk at n v b))) (decided g ls (n + 1) of)
      (λ v e. after_row Q G (variable_row g ls var at n v.type) (λ l. and_then (check g (ls ++ l ∷ []) (n + 1 + slots_of of) body) (λ b. walk_row walk at n v b))
      (λ l j. behind Q G g (ls ++ l ∷ []) (n + 1 + slots_of of) body (λ b. walk_row walk at n v b) (decided g (ls ++ l ∷ []) (n + 1 + slots_of of) body)
      (λ b k. row_says Q G (walk_row walk at n v b) (λ r h. walk_is e j k h) (λ f h. here (walk_breaks e j k h))) (λ f d. in_body e j d))
      (λ f j. here (variable_breaks e j)))
      (λ f d. in_range d)

  pub decided_all : (g : Env) (ls : List Local) (n : ℕ) (vs : List Typing) (ps : Phrases) → DecidedAll g ls n vs ps
  decided_all g ls n vs no_phrase = none_are
  decided_all g ls n vs (phrase p rest) =
      let Q : List Typing → Type 0 = λ all. ElabAll g ls n vs (phrase p rest) all in
      let G : TypeFault → Type 0 = λ f. FirstAll g ls n vs (phrase p rest) f in
      behind Q G g ls n p (λ v. check_all g ls (n + slots_of p) (vs ++ v ∷ []) rest) (decided g ls n p)
      (λ v e. handed {P = λ all. ElabAll g ls (n + slots_of p) (vs ++ v ∷ []) rest all} {F = λ f. FirstAll g ls (n + slots_of p) (vs ++ v ∷ []) rest f} Q G (check_all g ls (n + slots_of p) (vs ++ v ∷ []) rest) (decided_all g ls (n + slots_of p) (vs ++ v ∷ []) rest) (λ all k. more_are e k) (λ f d. in_others e d)) (λ f d. in_this d)

  pub decided_uses : (g : Env) (ls : List Local) (n : ℕ) (t : Shape) (is : List Step) (us : Uses) → DecidedUses g ls n t is us
  decided_uses g ls n t is no_use = no_use_is
  decided_uses g ls n t is (uses op at p rest) =
      let Q : Chained → Type 0 = λ u. ElabUses g ls n t is (uses op at p rest) u.type u.steps in
      let G : TypeFault → Type 0 = λ f. FirstUses g ls n t is (uses op at p rest) f in
      behind Q G g ls n p (λ v. and_then (joint_row op at t v.type) (λ r. check_uses g ls (n + slots_of p) r (is ++ record { joint = op; at = at; arg = v.core } ∷ []) rest)) (decided g ls n p)
      (λ v e. after_row Q G (joint_row op at t v.type) (λ r. check_uses g ls (n + slots_of p) r (is ++ record { joint = op; at = at; arg = v.core } ∷ []) rest)
      (λ r j. handed {P = λ u. ElabUses g ls (n + slots_of p) r (is ++ record { joint = op; at = at; arg = v.core } ∷ []) rest u.type u.steps}
      {F = λ f. FirstUses g ls (n + slots_of p) r (is ++ record { joint = op; at = at; arg = v.core } ∷ []) rest f} Q G
      (check_uses g ls (n + slots_of p) r (is ++ record { joint = op; at = at; arg = v.core } ∷ []) rest)
      (decided_uses g ls (n + slots_of p) r (is ++ record { joint = op; at = at; arg = v.core } ∷ []) rest) (λ u k. use_is e j k) (λ f d. in_later e j d))
      (λ f j. use_breaks e j)) (λ f d. in_operand d)

said : {A : Type 0} {P : A → Type 0} {F : TypeFault → Type 0} (r : Result A TypeFault) → Says r P F → ((a : A) × P a) ⊎ ((f : TypeFault) × F f)
said (Ok a) h = inl (a, h)
said (Err f) h = inr (f, h)

pub always_one : (g : Env) (ls : List Local) (n : ℕ) (p : Phrase) → ((v : Typing) × Elab g ls n p v) ⊎ ((f : TypeFault) × First g ls n p f)
always_one g ls n p = said {P = λ v. Elab g ls n p v} {F = λ f. First g ls n p f} (check g ls n p) (decided g ls n p)
