-- The relations that a program reads.
use Rattle.std.specs.Prelude.{ℕ, Bool, false, List, [], ◌∷◌, ◌++◌, nat_eq}
use Rattle.std.specs.List.{list_any}
use Rattle.hera_meaning.specs.Deltas.{Atom, Delta, fail, atoms}
use Rattle.hera_meaning.specs.Trees.{Expr, constant, local, relation, prim, chain, and_all, or_any, when, select, map_each, call, host, Exprs, no_more, then_expr, Links, no_link, link, Hypos, no_hypo, hypo, Command, set_slot, if_arms, while, foreach, print, apply, commit, rollback, assert, return, return_value, call_proc, Block, no_stmt, then_stmt, Arms, no_arm, arm, Body_tree, Program_tree}

-- the relations that a phrase names as values, in the order of its code; an atom, `bulk`, `ins` and `del` name one
-- without reading it
abbrev mutual
  pub reads_in : Expr → List ℕ
  reads_in (constant c) = []
  reads_in (local i) = []
  reads_in (relation r) = r ∷ []
  reads_in (prim op args at) = reads_in_all args
  reads_in (chain first links) = reads_in first ++ reads_in_links links
  reads_in (and_all args) = reads_in_all args
  reads_in (or_any args) = reads_in_all args
  reads_in (when body hypos) = reads_in_hypos hypos ++ reads_in body
  reads_in (select i of body) = reads_in of ++ reads_in body
  reads_in (map_each i of body) = reads_in of ++ reads_in body
  reads_in (call k args) = reads_in_all args
  reads_in (host h args) = reads_in_all args

  pub reads_in_all : Exprs → List ℕ
  reads_in_all no_more = []
  reads_in_all (then_expr e es) = reads_in e ++ reads_in_all es

  pub reads_in_links : Links → List ℕ
  reads_in_links no_link = []
  reads_in_links (link op arg at rest) = reads_in arg ++ reads_in_links rest

  pub reads_in_hypos : Hypos → List ℕ
  reads_in_hypos no_hypo = []
  reads_in_hypos (hypo d at rest) = reads_in_hypos rest ++ reads_in d

abbrev mutual
  pub reads_of_command : Command → List ℕ
  reads_of_command (set_slot i e) = reads_in e
  reads_of_command (if_arms arms other) = reads_of_arms arms ++ reads_of_block other
  reads_of_command (while c block) = reads_in c ++ reads_of_block block
  reads_of_command (foreach i of block) = reads_in of ++ reads_of_block block
  reads_of_command (print e shape) = reads_in e
  reads_of_command (apply d at) = reads_in d
  reads_of_command (commit label) = []
  reads_of_command rollback = []
  reads_of_command (assert c at) = reads_in c
  reads_of_command return = []
  reads_of_command (return_value e) = reads_in e
  reads_of_command (call_proc k args) = reads_in_all args

  pub reads_of_block : Block → List ℕ
  reads_of_block no_stmt = []
  reads_of_block (then_stmt c rest) = reads_of_command c ++ reads_of_block rest

  pub reads_of_arms : Arms → List ℕ
  reads_of_arms no_arm = []
  reads_of_arms (arm c block rest) = reads_in c ++ (reads_of_block block ++ reads_of_arms rest)

abbrev pub reads_of_bodies : List Body_tree → List ℕ
reads_of_bodies [] = []
reads_of_bodies (b ∷ bodies) = reads_of_block b.block ++ reads_of_bodies bodies

-- the relations that the program reads, in bodies that are never called too
abbrev pub reads_of : Program_tree → List ℕ
reads_of p = reads_of_bodies p.bodies

-- the relation is one of these
abbrev pub is_among : List ℕ → ℕ → Bool
is_among rs r = list_any (nat_eq r) rs

-- an atom is of the relation
abbrev pub is_named : List Atom → ℕ → Bool
is_named xs r = list_any (λ a. nat_eq a.rel r) xs

-- the delta has an atom of one of these relations
abbrev pub touches : List ℕ → Delta → Bool
touches rs fail = false
touches rs (atoms xs) = list_any (λ r. is_named xs r) rs
