-- The slots that typing finds, as one function beside the function of typing: what `shapes` does, in its order.
use Rattle.std.specs.Prelude.{◌≡◌, ℕ, List, [], ◌∷◌, ◌++◌, ◌+◌, length, map, Option, Some, None, Result, Ok, Err}
use Rattle.hera_meaning.specs.declared.schemas.Attr.{Attr}
use Rattle.hera_meaning.specs.declared.trees.Shape.{Shape}
use Rattle.hera_meaning.specs.Shapes.{Body_types}
use Rattle.hera_host.specs.Tables.{Host}
use Rattle.hera_rules.specs.declared.words.Word.{Word}
use Rattle.hera_rules.specs.declared.words.WalkKind.{WalkKind}
use Rattle.hera_rules.specs.declared.env.Local.{Local}
use Rattle.hera_rules.specs.declared.env.FuncSig.{FuncSig}
use Rattle.hera_rules.specs.declared.env.ProcSig.{ProcSig}
use Rattle.hera_rules.specs.declared.fault.TypeFault.{TypeFault}
use Rattle.hera_rules.specs.Environments.{Env}
use Rattle.hera_rules.specs.Phrases.{Phrase, literal, named, calling, operation, prefixed, attribute, row, atom, atoms, line, lines, walking, projecting, renaming, pairing, grouping, testing, folding, bulk, part, Phrases, no_phrase, phrase, Uses, no_use, uses, Act, declaring, assigning, performing, choosing, looping, visiting, printing, applying, asserting, committing, rolling_back, returning, returning_value, Acts, no_act, act, Branches, no_branch, branch, Func_phrase, Proc_phrase, Script}
use Rattle.hera_rules.specs.Rules.{Typing, variable_row}
use Rattle.hera_rules.specs.Typing.{slots_of}
use Rattle.hera_rules.specs.Checked.{check}
use Rattle.hera_rules.specs.Commands.{type_row}
use Rattle.hera_rules.specs.Statements.{slots_of_act, slots_of_acts, slots_of_branches}
use Rattle.hera_rules.specs.Programs.{env_row}
use Rattle.hera_sound.specs.Types_found.{Slot, held, walked, attrs_of_tuple, gathered, types_with}

-- what is found where this is typed; nothing where it isn't
abbrev pub where_typed : {A B : Type 0} → Result A TypeFault → (A → List B) → List B
where_typed (Ok a) go = go a
where_typed (Err f) go = []

-- these slots more
abbrev pub with_slots : Body_types → List Slot → Body_types
with_slots t ss = record { slots = t.slots ++ map (λ s. s.shape) ss; gathers = t.gathers ++ map (λ s. s.gathers) ss; result = t.result }

-- the phrase is typed, and has this type
pub record IsTyped (g : Env) (ls : List Local) (n : ℕ) (p : Phrase) (t : Shape) : Type 0 where
  pub typing : Typing
  pub checked : check g ls n p ≡ Ok typing
  pub type_is : typing.type ≡ t

-- the local of the variable of a walk over a phrase, whose slot is this one
pub record IsVariable (g : Env) (ls : List Local) (n : ℕ) (var : Word) (at : ℕ) (of : Phrase) (l : Local) : Type 0 where
  pub typing : Typing
  pub checked : check g ls (n + 1) of ≡ Ok typing
  pub variable : variable_row g ls var at n typing.type ≡ Ok l

-- the variable of a `select` or a `map`, and what it gathers
pub record IsWalk (g : Env) (ls : List Local) (n : ℕ) (walk : WalkKind) (at : ℕ) (var : Word) (of body : Phrase) (l : Local) (gathers : List Attr) : Type 0 where
  pub variable : IsVariable g ls n var at of l
  pub made : Shape
  pub typed : IsTyped g (ls ++ l ∷ []) (n + 1 + slots_of of) body made
  pub gathers_is : gathers ≡ gathered walk l.shape made

-- the variable of a `foreach`, and what it gathers
pub record IsVisit (g : Env) (ls : List Local) (n : ℕ) (at : ℕ) (var : Word) (of : Phrase) (l : Local) (gathers : List Attr) : Type 0 where
  pub variable : IsVariable g ls n var at of l
  pub gathers_is : gathers ≡ attrs_of_tuple l.shape

-- ---- phrases

abbrev mutual
  pub found : Env → List Local → ℕ → Phrase → List Slot
  found g ls n (literal c) = []
  found g ls n (named w) = []
  found g ls n (operation p rest) = found g ls n p ++ found_uses g ls (n + slots_of p) rest
  found g ls n (prefixed op at p) = found g ls n p
  found g ls n (attribute p w) = found g ls n p
  found g ls n (projecting at p names) = found g ls n p
  found g ls n (renaming at p names) = found g ls n p
  found g ls n (grouping at p by aggs) = found g ls n p
  found g ls n (testing test at p) = found g ls n p
  found g ls n (folding fold at p w) = found g ls n p
  found g ls n (bulk sign w at p) = found g ls n p
  found g ls n (part sign w at p) = found g ls n p
  found g ls n (calling w args) = found_all g ls n args
  found g ls n (row at names args) = found_all g ls n args
  found g ls n (atom sign w args) = found_all g ls n args
  found g ls n (line w at args) = found_all g ls n args
  found g ls n (lines w at all) = found_all g ls n all
  found g ls n (atoms at all) = found_all g ls n all
  found g ls n (pairing pair at p q) = found g ls n p ++ found g ls (n + slots_of p) q
  found g ls n (walking walk at var of body) =
      where_typed (check g ls (n + 1) of) (λ v. where_typed (variable_row g ls var at n v.type) (λ l. where_typed (check g (ls ++ l ∷ []) (n + 1 + slots_of of) body) (λ b.
      walked l.shape (gathered walk l.shape b.type) ∷ (found g ls (n + 1) of ++ found g (ls ++ l ∷ []) (n + 1 + slots_of of) body))))

  pub found_all : Env → List Local → ℕ → Phrases → List Slot
  found_all g ls n no_phrase = []
  found_all g ls n (phrase p rest) = found g ls n p ++ found_all g ls (n + slots_of p) rest

  pub found_uses : Env → List Local → ℕ → Uses → List Slot
  found_uses g ls n no_use = []
  found_uses g ls n (uses op at p rest) = found g ls n p ++ found_uses g ls (n + slots_of p) rest

-- ---- statements

-- the locals behind a statement
abbrev pub locals_with : List Local → Word → ℕ → Result Shape TypeFault → List Local
locals_with ls w n (Ok t) = ls ++ record { name = w.name; slot = n; shape = t } ∷ []
locals_with ls w n (Err f) = ls

abbrev pub locals_behind : Env → List Local → ℕ → Act → List Local
locals_behind g ls n (declaring type w p) = locals_with ls w n (type_row g.relations type)
locals_behind g ls n _ = ls

abbrev mutual
  pub found_act : Env → List Local → ℕ → Act → List Slot
  found_act g ls n (declaring type w p) = where_typed (type_row g.relations type) (λ t. held t ∷ found g ls (n + 1) p)
  found_act g ls n (assigning w p) = found g ls n p
  found_act g ls n (printing at p) = found g ls n p
  found_act g ls n (applying at p) = found g ls n p
  found_act g ls n (asserting at p) = found g ls n p
  found_act g ls n (returning_value at p) = found g ls n p
  found_act g ls n (committing at label) = []
  found_act g ls n (rolling_back at) = []
  found_act g ls n (returning at) = []
  found_act g ls n (performing w args) = found_all g ls n args
  found_act g ls n (choosing arms last) = found_branches g ls n arms ++ found_acts g ls (n + slots_of_branches arms) last
  found_act g ls n (looping at c block) = found g ls n c ++ found_acts g ls (n + slots_of c) block
  found_act g ls n (visiting at var of block) =
      where_typed (check g ls (n + 1) of) (λ v. where_typed (variable_row g ls var at n v.type) (λ l.
      walked l.shape (attrs_of_tuple l.shape) ∷ (found g ls (n + 1) of ++ found_acts g (ls ++ l ∷ []) (n + 1 + slots_of of) block)))

  pub found_acts : Env → List Local → ℕ → Acts → List Slot
  found_acts g ls n no_act = []
  found_acts g ls n (act a rest) = found_act g ls n a ++ found_acts g (locals_behind g ls n a) (n + slots_of_act a) rest

  pub found_branches : Env → List Local → ℕ → Branches → List Slot
  found_branches g ls n no_branch = []
  found_branches g ls n (branch at c block rest) = (found g ls n c ++ found_acts g ls (n + slots_of c) block) ++ found_branches g ls (n + slots_of c + slots_of_acts block) rest

-- ---- bodies and scripts

abbrev pub body_found : Env → List Local → Option Shape → ℕ → Acts → Body_types
body_found g params result n block = types_with params (found_acts g params n block) result

-- the bodies with these signatures, one for each
abbrev pub funcs_found : Env → List FuncSig → List Func_phrase → List Body_types
funcs_found g [] fs = []
funcs_found g (sig ∷ sigs) [] = []
funcs_found g (sig ∷ sigs) (f ∷ fs) = body_found g sig.params (Some sig.result) (length sig.params) f.block ∷ funcs_found g sigs fs

abbrev pub procs_found : Env → List ProcSig → List Proc_phrase → List Body_types
procs_found g [] ps = []
procs_found g (sig ∷ sigs) [] = []
procs_found g (sig ∷ sigs) (p ∷ ps) = body_found g sig.params None (length sig.params) p.block ∷ procs_found g sigs ps

-- main, the funcs, the procs
abbrev pub script_found : List Host → Script → List Body_types
script_found hosts s = where_typed (env_row hosts s) (λ g. body_found g [] None 0 s.main ∷ (funcs_found g g.funcs s.funcs ++ procs_found g g.procs s.procs))
