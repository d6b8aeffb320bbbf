-- Typing of expressions as one function, in the order of work. For expressions and statements the relations are the
-- definition; the functions are for the clauses of the private calls that do the work, and one theorem says that both
-- agree. The first three passes over a script are defined as functions.
use Rattle.std.specs.Prelude.{ℕ, List, [], ◌∷◌, ◌++◌, ◌+◌, Result, Ok, Err}
use Rattle.hera_meaning.specs.declared.trees.Shape.{Shape}
use Rattle.hera_rules.specs.declared.env.Local.{Local}
use Rattle.hera_rules.specs.declared.fault.TypeFault.{TypeFault}
use Rattle.hera_rules.specs.Environments.{Env}
use Rattle.hera_rules.specs.Phrases.{Phrase, literal, named, calling, operation, prefixed, attribute, row, atom, atoms, line, lines, walking, projecting, renaming, pairing, grouping, testing, folding, bulk, part, Phrases, no_phrase, phrase, Uses, no_use, uses}
use Rattle.hera_rules.specs.Rules.{Typing, typing, Step, literal_row, name_row, call_row, joint_row, chain_core, prefix_row, field_row, row_row, atom_row, atoms_row, line_row, lines_row, variable_row, walk_row, project_row, rename_row, pair_row, group_row, test_row, fold_row, bulk_row, part_row}
use Rattle.hera_rules.specs.Typing.{slots_of}

-- the type of a chain, and its operands behind the first
pub record Chained : Type 0 where
  pub type : Shape
  pub steps : List Step

abbrev pub and_then : {A B : Type 0} → Result A TypeFault → (A → Result B TypeFault) → Result B TypeFault
and_then (Ok a) go = go a
and_then (Err f) go = Err f

abbrev mutual
  pub check : Env → List Local → ℕ → Phrase → Result Typing TypeFault
  check g ls n (literal c) = Ok (literal_row c)
  check g ls n (named w) = name_row g ls w
  check g ls n (operation p rest) =
      and_then (check g ls n p) (λ v. and_then (check_uses g ls (n + slots_of p) v.type [] rest) (λ u. Ok (typing u.type (chain_core v.core u.steps))))
  check g ls n (prefixed op at p) = and_then (check g ls n p) (λ v. prefix_row op at v)
  check g ls n (attribute p w) = and_then (check g ls n p) (λ v. field_row w v)
  check g ls n (projecting at p names) = and_then (check g ls n p) (λ v. project_row at names v)
  check g ls n (renaming at p names) = and_then (check g ls n p) (λ v. rename_row at names v)
  check g ls n (grouping at p by aggs) = and_then (check g ls n p) (λ v. group_row at by aggs v)
  check g ls n (testing test at p) = and_then (check g ls n p) (λ v. test_row test at v)
  check g ls n (folding fold at p w) = and_then (check g ls n p) (λ v. fold_row fold at w v)
  check g ls n (bulk sign w at p) = and_then (check g ls n p) (λ v. bulk_row g sign w at v)
  check g ls n (part sign w at p) = and_then (check g ls n p) (λ v. part_row g sign w at v)
  check g ls n (calling w args) = and_then (check_all g ls n [] args) (λ vs. call_row g w vs)
  check g ls n (row at names args) = and_then (check_all g ls n [] args) (λ vs. row_row at names vs)
  check g ls n (atom sign w args) = and_then (check_all g ls n [] args) (λ vs. atom_row g sign w vs)
  check g ls n (line w at args) = and_then (check_all g ls n [] args) (λ vs. line_row g w at vs)
  check g ls n (lines w at args) = and_then (check_all g ls n [] args) (λ vs. lines_row g w at vs)
  check g ls n (atoms at all) = and_then (check_all g ls n [] all) (λ vs. Ok (atoms_row at vs))
  check g ls n (pairing pair at p q) = and_then (check g ls n p) (λ v. and_then (check g ls (n + slots_of p) q) (λ w. pair_row pair at v w))
  check g ls n (walking walk at var of body) = and_then (check g ls (n + 1) of) (λ v. and_then (variable_row g ls var at n v.type) (λ l.
      and_then (check g (ls ++ l ∷ []) (n + 1 + slots_of of) body) (λ b. walk_row walk at n v b)))

  pub check_all : Env → List Local → ℕ → List Typing → Phrases → Result (List Typing) TypeFault
  check_all g ls n vs no_phrase = Ok vs
  check_all g ls n vs (phrase p rest) = and_then (check g ls n p) (λ v. check_all g ls (n + slots_of p) (vs ++ v ∷ []) rest)

  pub check_uses : Env → List Local → ℕ → Shape → List Step → Uses → Result Chained TypeFault
  check_uses g ls n t is no_use = Ok (record { type = t; steps = is })
  check_uses g ls n t is (uses op at p rest) = and_then (check g ls n p) (λ v. and_then (joint_row op at t v.type) (λ r.
      check_uses g ls (n + slots_of p) r (is ++ record { joint = op; at = at; arg = v.core } ∷ []) rest))
