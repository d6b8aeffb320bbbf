-- Typing: one case for each form of phrase; and the first fault of a phrase that is not typed.
use Rattle.std.specs.Prelude.{◌≡◌, ℕ, List, [], ◌∷◌, ◌++◌, ◌+◌, Ok, Err}
use Rattle.hera_meaning.specs.declared.scalars.Sign.{Sign}
use Rattle.hera_meaning.specs.declared.trees.Const.{Const}
use Rattle.hera_meaning.specs.declared.trees.Shape.{Shape}
use Rattle.hera_rules.specs.declared.words.Prefix.{Prefix}
use Rattle.hera_rules.specs.declared.words.Test.{Test}
use Rattle.hera_rules.specs.declared.words.Word.{Word}
use Rattle.hera_rules.specs.declared.words.WalkKind.{WalkKind}
use Rattle.hera_rules.specs.declared.words.Pair.{Pair}
use Rattle.hera_rules.specs.declared.words.Fold.{Fold}
use Rattle.hera_rules.specs.declared.words.Renamed.{Renamed}
use Rattle.hera_rules.specs.declared.words.Aggregate.{Aggregate}
use Rattle.hera_rules.specs.declared.words.Joint.{Joint}
use Rattle.hera_rules.specs.declared.env.Local.{Local}
use Rattle.hera_rules.specs.declared.fault.TypeFault.{TypeFault}
use Rattle.hera_rules.specs.Environments.{Env}
use Rattle.hera_rules.specs.Phrases.{Phrase, literal, named, calling, operation, prefixed, attribute, row, atom, atoms, line, lines, walking, projecting, renaming, pairing, grouping, testing, folding, bulk, part, Phrases, no_phrase, phrase, Uses, no_use, uses}
use Rattle.hera_rules.specs.Rules.{Typing, typing, Step, literal_row, name_row, call_row, joint_row, chain_core, prefix_row, field_row, row_row, atom_row, atoms_row, line_row, lines_row, variable_row, walk_row, project_row, rename_row, pair_row, group_row, test_row, fold_row, bulk_row, part_row}

-- the number of names that a phrase declares, each of which takes a slot
abbrev mutual
  pub slots_of : Phrase → ℕ
  slots_of (literal c) = 0
  slots_of (named w) = 0
  slots_of (calling w args) = slots_of_all args
  slots_of (operation first rest) = slots_of first + slots_of_uses rest
  slots_of (prefixed op at p) = slots_of p
  slots_of (attribute p w) = slots_of p
  slots_of (row at names values) = slots_of_all values
  slots_of (atom sign w args) = slots_of_all args
  slots_of (atoms at all) = slots_of_all all
  slots_of (line w at args) = slots_of_all args
  slots_of (lines w at all) = slots_of_all all
  slots_of (walking walk at var of body) = 1 + slots_of of + slots_of body
  slots_of (projecting at p names) = slots_of p
  slots_of (renaming at p names) = slots_of p
  slots_of (pairing pair at left right) = slots_of left + slots_of right
  slots_of (grouping at p by aggs) = slots_of p
  slots_of (testing test at p) = slots_of p
  slots_of (folding fold at p w) = slots_of p
  slots_of (bulk sign w at p) = slots_of p
  slots_of (part sign w at p) = slots_of p

  pub slots_of_all : Phrases → ℕ
  slots_of_all no_phrase = 0
  slots_of_all (phrase p rest) = slots_of p + slots_of_all rest

  pub slots_of_uses : Uses → ℕ
  slots_of_uses no_use = 0
  slots_of_uses (uses op at p rest) = slots_of p + slots_of_uses rest

mutual
  -- with these visible locals, and from this slot on, the phrase has this type and core
  pub data Elab (g : Env) : List Local → ℕ → Phrase → Typing → Type 0 where
    literal_is : {ls : List Local} {n : ℕ} {c : Const} → Elab g ls n (literal c) (literal_row c)
    name_is : {ls : List Local} {n : ℕ} {w : Word} {v : Typing} → name_row g ls w ≡ Ok v → Elab g ls n (named w) v
    operation_is : {ls : List Local} {n : ℕ} {p : Phrase} {rest : Uses} {v : Typing} {t : Shape} {is : List Step} →
        Elab g ls n p v → ElabUses g ls (n + slots_of p) v.type [] rest t is → Elab g ls n (operation p rest) (typing t (chain_core v.core is))
    prefix_is : {ls : List Local} {n : ℕ} {op : Prefix} {at : ℕ} {p : Phrase} {v r : Typing} → Elab g ls n p v → prefix_row op at v ≡ Ok r → Elab g ls n (prefixed op at p) r
    field_is : {ls : List Local} {n : ℕ} {p : Phrase} {w : Word} {v r : Typing} → Elab g ls n p v → field_row w v ≡ Ok r → Elab g ls n (attribute p w) r
    project_is : {ls : List Local} {n : ℕ} {at : ℕ} {p : Phrase} {names : List Word} {v r : Typing} → Elab g ls n p v → project_row at names v ≡ Ok r → Elab g ls n (projecting at p names) r
    rename_is : {ls : List Local} {n : ℕ} {at : ℕ} {p : Phrase} {names : List Renamed} {v r : Typing} → Elab g ls n p v → rename_row at names v ≡ Ok r → Elab g ls n (renaming at p names) r
    group_is : {ls : List Local} {n : ℕ} {at : ℕ} {p : Phrase} {by : List Word} {aggs : List Aggregate} {v r : Typing} → Elab g ls n p v → group_row at by aggs v ≡ Ok r → Elab g ls n (grouping at p by aggs) r
    test_is : {ls : List Local} {n : ℕ} {test : Test} {at : ℕ} {p : Phrase} {v r : Typing} → Elab g ls n p v → test_row test at v ≡ Ok r → Elab g ls n (testing test at p) r
    fold_is : {ls : List Local} {n : ℕ} {fold : Fold} {at : ℕ} {p : Phrase} {w : Word} {v r : Typing} → Elab g ls n p v → fold_row fold at w v ≡ Ok r → Elab g ls n (folding fold at p w) r
    bulk_is : {ls : List Local} {n : ℕ} {sign : Sign} {w : Word} {at : ℕ} {p : Phrase} {v r : Typing} → Elab g ls n p v → bulk_row g sign w at v ≡ Ok r → Elab g ls n (bulk sign w at p) r
    part_is : {ls : List Local} {n : ℕ} {sign : Sign} {w : Word} {at : ℕ} {p : Phrase} {v r : Typing} → Elab g ls n p v → part_row g sign w at v ≡ Ok r → Elab g ls n (part sign w at p) r
    call_is : {ls : List Local} {n : ℕ} {w : Word} {args : Phrases} {vs : List Typing} {r : Typing} → ElabAll g ls n [] args vs → call_row g w vs ≡ Ok r → Elab g ls n (calling w args) r
    row_is : {ls : List Local} {n : ℕ} {at : ℕ} {names : List Word} {args : Phrases} {vs : List Typing} {r : Typing} → ElabAll g ls n [] args vs → row_row at names vs ≡ Ok r → Elab g ls n (row at names args) r
    atom_is : {ls : List Local} {n : ℕ} {sign : Sign} {w : Word} {args : Phrases} {vs : List Typing} {r : Typing} → ElabAll g ls n [] args vs → atom_row g sign w vs ≡ Ok r → Elab g ls n (atom sign w args) r
    line_is : {ls : List Local} {n : ℕ} {w : Word} {at : ℕ} {args : Phrases} {vs : List Typing} {r : Typing} → ElabAll g ls n [] args vs → line_row g w at vs ≡ Ok r → Elab g ls n (line w at args) r
    lines_is : {ls : List Local} {n : ℕ} {w : Word} {at : ℕ} {args : Phrases} {vs : List Typing} {r : Typing} → ElabAll g ls n [] args vs → lines_row g w at vs ≡ Ok r → Elab g ls n (lines w at args) r
    atoms_are : {ls : List Local} {n at : ℕ} {all : Phrases} {vs : List Typing} → ElabAll g ls n [] all vs → Elab g ls n (atoms at all) (atoms_row at vs)
    pair_is : {ls : List Local} {n at : ℕ} {pair : Pair} {p q : Phrase} {v w r : Typing} →
        Elab g ls n p v → Elab g ls (n + slots_of p) q w → pair_row pair at v w ≡ Ok r → Elab g ls n (pairing pair at p q) r
    walk_is : {ls : List Local} {n : ℕ} {walk : WalkKind} {at : ℕ} {var : Word} {of body : Phrase} {v b r : Typing} {l : Local} →
        Elab g ls (n + 1) of v → variable_row g ls var at n v.type ≡ Ok l →
        Elab g (ls ++ l ∷ []) (n + 1 + slots_of of) body b → walk_row walk at n v b ≡ Ok r → Elab g ls n (walking walk at var of body) r

  -- phrases from the left, behind these that are typed already
  pub data ElabAll (g : Env) : List Local → ℕ → List Typing → Phrases → List Typing → Type 0 where
    none_are : {ls : List Local} {n : ℕ} {vs : List Typing} → ElabAll g ls n vs no_phrase vs
    more_are : {ls : List Local} {n : ℕ} {p : Phrase} {rest : Phrases} {v : Typing} {vs all : List Typing} →
        Elab g ls n p v → ElabAll g ls (n + slots_of p) (vs ++ v ∷ []) rest all → ElabAll g ls n vs (phrase p rest) all

  -- behind operands of this type, which are these, the uses give that type, and those operands
  pub data ElabUses (g : Env) : List Local → ℕ → Shape → List Step → Uses → Shape → List Step → Type 0 where
    no_use_is : {ls : List Local} {n : ℕ} {t : Shape} {is : List Step} → ElabUses g ls n t is no_use t is
    use_is : {ls : List Local} {n at : ℕ} {t r t' : Shape} {op : Joint} {p : Phrase} {rest : Uses} {v : Typing} {is all : List Step} →
        Elab g ls n p v → joint_row op at t v.type ≡ Ok r →
        ElabUses g ls (n + slots_of p) r (is ++ record { joint = op; at = at; arg = v.core } ∷ []) rest t' all → ElabUses g ls n t is (uses op at p rest) t' all

-- the parts of the phrase that are checked before are typed, and it breaks its own rule with this fault. (A chain
-- breaks the rule of one of its operators: that is a case of its uses, below.)
pub data Broken (g : Env) : List Local → ℕ → Phrase → TypeFault → Type 0 where
  name_breaks : {ls : List Local} {n : ℕ} {w : Word} {f : TypeFault} → name_row g ls w ≡ Err f → Broken g ls n (named w) f
  prefix_breaks : {ls : List Local} {n : ℕ} {op : Prefix} {at : ℕ} {p : Phrase} {v : Typing} {f : TypeFault} → Elab g ls n p v → prefix_row op at v ≡ Err f → Broken g ls n (prefixed op at p) f
  field_breaks : {ls : List Local} {n : ℕ} {p : Phrase} {w : Word} {v : Typing} {f : TypeFault} → Elab g ls n p v → field_row w v ≡ Err f → Broken g ls n (attribute p w) f
  project_breaks : {ls : List Local} {n : ℕ} {at : ℕ} {p : Phrase} {names : List Word} {v : Typing} {f : TypeFault} → Elab g ls n p v → project_row at names v ≡ Err f → Broken g ls n (projecting at p names) f
  rename_breaks : {ls : List Local} {n : ℕ} {at : ℕ} {p : Phrase} {names : List Renamed} {v : Typing} {f : TypeFault} → Elab g ls n p v → rename_row at names v ≡ Err f → Broken g ls n (renaming at p names) f
  group_breaks : {ls : List Local} {n : ℕ} {at : ℕ} {p : Phrase} {by : List Word} {aggs : List Aggregate} {v : Typing} {f : TypeFault} → Elab g ls n p v → group_row at by aggs v ≡ Err f → Broken g ls n (grouping at p by aggs) f
  test_breaks : {ls : List Local} {n : ℕ} {test : Test} {at : ℕ} {p : Phrase} {v : Typing} {f : TypeFault} → Elab g ls n p v → test_row test at v ≡ Err f → Broken g ls n (testing test at p) f
  fold_breaks : {ls : List Local} {n : ℕ} {fold : Fold} {at : ℕ} {p : Phrase} {w : Word} {v : Typing} {f : TypeFault} → Elab g ls n p v → fold_row fold at w v ≡ Err f → Broken g ls n (folding fold at p w) f
  bulk_breaks : {ls : List Local} {n : ℕ} {sign : Sign} {w : Word} {at : ℕ} {p : Phrase} {v : Typing} {f : TypeFault} → Elab g ls n p v → bulk_row g sign w at v ≡ Err f → Broken g ls n (bulk sign w at p) f
  part_breaks : {ls : List Local} {n : ℕ} {sign : Sign} {w : Word} {at : ℕ} {p : Phrase} {v : Typing} {f : TypeFault} → Elab g ls n p v → part_row g sign w at v ≡ Err f → Broken g ls n (part sign w at p) f
  call_breaks : {ls : List Local} {n : ℕ} {w : Word} {args : Phrases} {vs : List Typing} {f : TypeFault} → ElabAll g ls n [] args vs → call_row g w vs ≡ Err f → Broken g ls n (calling w args) f
  row_breaks : {ls : List Local} {n : ℕ} {at : ℕ} {names : List Word} {args : Phrases} {vs : List Typing} {f : TypeFault} → ElabAll g ls n [] args vs → row_row at names vs ≡ Err f → Broken g ls n (row at names args) f
  atom_breaks : {ls : List Local} {n : ℕ} {sign : Sign} {w : Word} {args : Phrases} {vs : List Typing} {f : TypeFault} → ElabAll g ls n [] args vs → atom_row g sign w vs ≡ Err f → Broken g ls n (atom sign w args) f
  line_breaks : {ls : List Local} {n : ℕ} {w : Word} {at : ℕ} {args : Phrases} {vs : List Typing} {f : TypeFault} → ElabAll g ls n [] args vs → line_row g w at vs ≡ Err f → Broken g ls n (line w at args) f
  lines_breaks : {ls : List Local} {n : ℕ} {w : Word} {at : ℕ} {args : Phrases} {vs : List Typing} {f : TypeFault} → ElabAll g ls n [] args vs → lines_row g w at vs ≡ Err f → Broken g ls n (lines w at args) f
  pair_breaks : {ls : List Local} {n at : ℕ} {pair : Pair} {p q : Phrase} {v w : Typing} {f : TypeFault} →
      Elab g ls n p v → Elab g ls (n + slots_of p) q w → pair_row pair at v w ≡ Err f → Broken g ls n (pairing pair at p q) f
  -- the variable of a walk is checked before its body
  variable_breaks : {ls : List Local} {n : ℕ} {walk : WalkKind} {at : ℕ} {var : Word} {of body : Phrase} {v : Typing} {f : TypeFault} →
      Elab g ls (n + 1) of v → variable_row g ls var at n v.type ≡ Err f → Broken g ls n (walking walk at var of body) f
  walk_breaks : {ls : List Local} {n : ℕ} {walk : WalkKind} {at : ℕ} {var : Word} {of body : Phrase} {v b : Typing} {l : Local} {f : TypeFault} →
      Elab g ls (n + 1) of v → variable_row g ls var at n v.type ≡ Ok l →
      Elab g (ls ++ l ∷ []) (n + 1 + slots_of of) body b → walk_row walk at n v b ≡ Err f → Broken g ls n (walking walk at var of body) f

mutual
  -- the first fault of a phrase: of its first part that has one, where the parts before are typed; else its own
  pub data First (g : Env) : List Local → ℕ → Phrase → TypeFault → Type 0 where
    here : {ls : List Local} {n : ℕ} {p : Phrase} {f : TypeFault} → Broken g ls n p f → First g ls n p f
    in_first : {ls : List Local} {n : ℕ} {p : Phrase} {rest : Uses} {f : TypeFault} → First g ls n p f → First g ls n (operation p rest) f
    in_rest : {ls : List Local} {n : ℕ} {p : Phrase} {rest : Uses} {v : Typing} {f : TypeFault} →
        Elab g ls n p v → FirstUses g ls (n + slots_of p) v.type [] rest f → First g ls n (operation p rest) f
    in_prefix : {ls : List Local} {n : ℕ} {op : Prefix} {at : ℕ} {p : Phrase} {f : TypeFault} → First g ls n p f → First g ls n (prefixed op at p) f
    in_field : {ls : List Local} {n : ℕ} {p : Phrase} {w : Word} {f : TypeFault} → First g ls n p f → First g ls n (attribute p w) f
    in_project : {ls : List Local} {n : ℕ} {at : ℕ} {p : Phrase} {names : List Word} {f : TypeFault} → First g ls n p f → First g ls n (projecting at p names) f
    in_rename : {ls : List Local} {n : ℕ} {at : ℕ} {p : Phrase} {names : List Renamed} {f : TypeFault} → First g ls n p f → First g ls n (renaming at p names) f
    in_group : {ls : List Local} {n : ℕ} {at : ℕ} {p : Phrase} {by : List Word} {aggs : List Aggregate} {f : TypeFault} → First g ls n p f → First g ls n (grouping at p by aggs) f
    in_test : {ls : List Local} {n : ℕ} {test : Test} {at : ℕ} {p : Phrase} {f : TypeFault} → First g ls n p f → First g ls n (testing test at p) f
    in_fold : {ls : List Local} {n : ℕ} {fold : Fold} {at : ℕ} {p : Phrase} {w : Word} {f : TypeFault} → First g ls n p f → First g ls n (folding fold at p w) f
    in_bulk : {ls : List Local} {n : ℕ} {sign : Sign} {w : Word} {at : ℕ} {p : Phrase} {f : TypeFault} → First g ls n p f → First g ls n (bulk sign w at p) f
    in_part : {ls : List Local} {n : ℕ} {sign : Sign} {w : Word} {at : ℕ} {p : Phrase} {f : TypeFault} → First g ls n p f → First g ls n (part sign w at p) f
    in_call : {ls : List Local} {n : ℕ} {w : Word} {args : Phrases} {f : TypeFault} → FirstAll g ls n [] args f → First g ls n (calling w args) f
    in_row : {ls : List Local} {n : ℕ} {at : ℕ} {names : List Word} {args : Phrases} {f : TypeFault} → FirstAll g ls n [] args f → First g ls n (row at names args) f
    in_atom : {ls : List Local} {n : ℕ} {sign : Sign} {w : Word} {args : Phrases} {f : TypeFault} → FirstAll g ls n [] args f → First g ls n (atom sign w args) f
    in_line : {ls : List Local} {n : ℕ} {w : Word} {at : ℕ} {args : Phrases} {f : TypeFault} → FirstAll g ls n [] args f → First g ls n (line w at args) f
    in_lines : {ls : List Local} {n : ℕ} {w : Word} {at : ℕ} {args : Phrases} {f : TypeFault} → FirstAll g ls n [] args f → First g ls n (lines w at args) f
    in_atoms : {ls : List Local} {n at : ℕ} {all : Phrases} {f : TypeFault} → FirstAll g ls n [] all f → First g ls n (atoms at all) f
    in_left : {ls : List Local} {n at : ℕ} {pair : Pair} {p q : Phrase} {f : TypeFault} → First g ls n p f → First g ls n (pairing pair at p q) f
    in_right : {ls : List Local} {n at : ℕ} {pair : Pair} {p q : Phrase} {v : Typing} {f : TypeFault} →
        Elab g ls n p v → First g ls (n + slots_of p) q f → First g ls n (pairing pair at p q) f
    in_range : {ls : List Local} {n : ℕ} {walk : WalkKind} {at : ℕ} {var : Word} {of body : Phrase} {f : TypeFault} →
        First g ls (n + 1) of f → First g ls n (walking walk at var of body) f
    in_body : {ls : List Local} {n : ℕ} {walk : WalkKind} {at : ℕ} {var : Word} {of body : Phrase} {v : Typing} {l : Local} {f : TypeFault} →
        Elab g ls (n + 1) of v → variable_row g ls var at n v.type ≡ Ok l →
        First g (ls ++ l ∷ []) (n + 1 + slots_of of) body f → First g ls n (walking walk at var of body) f

  pub data FirstAll (g : Env) : List Local → ℕ → List Typing → Phrases → TypeFault → Type 0 where
    in_this : {ls : List Local} {n : ℕ} {p : Phrase} {rest : Phrases} {vs : List Typing} {f : TypeFault} → First g ls n p f → FirstAll g ls n vs (phrase p rest) f
    in_others : {ls : List Local} {n : ℕ} {p : Phrase} {rest : Phrases} {v : Typing} {vs : List Typing} {f : TypeFault} →
        Elab g ls n p v → FirstAll g ls (n + slots_of p) (vs ++ v ∷ []) rest f → FirstAll g ls n vs (phrase p rest) f

  -- in a chain each operator is checked behind its right operand
  pub data FirstUses (g : Env) : List Local → ℕ → Shape → List Step → Uses → TypeFault → Type 0 where
    in_operand : {ls : List Local} {n at : ℕ} {t : Shape} {op : Joint} {p : Phrase} {rest : Uses} {is : List Step} {f : TypeFault} →
        First g ls n p f → FirstUses g ls n t is (uses op at p rest) f
    use_breaks : {ls : List Local} {n at : ℕ} {t : Shape} {op : Joint} {p : Phrase} {rest : Uses} {is : List Step} {v : Typing} {f : TypeFault} →
        Elab g ls n p v → joint_row op at t v.type ≡ Err f → FirstUses g ls n t is (uses op at p rest) f
    in_later : {ls : List Local} {n at : ℕ} {t r : Shape} {op : Joint} {p : Phrase} {rest : Uses} {is : List Step} {v : Typing} {f : TypeFault} →
        Elab g ls n p v → joint_row op at t v.type ≡ Ok r →
        FirstUses g ls (n + slots_of p) r (is ++ record { joint = op; at = at; arg = v.core } ∷ []) rest f → FirstUses g ls n t is (uses op at p rest) f
