-- Outlines with what stands behind them: the same marks, without a join of lists to be regrouped.
use Rattle.std.proofs.Common.{◌≡◌, List, [], ◌∷◌, ◌++◌, refl, ap, ◌∙◌, append_assoc}
use Rattle.hera_syntax.specs.declared.expr.ArgTrees.{ArgTrees, ArgTrees', Row_of-Expr, end_of-Expr, more_of-Expr}
use Rattle.hera_syntax.specs.declared.expr.Expr.{Expr, Expr', Row_of-Tail, end_of-Tail, more_of-Tail}
use Rattle.hera_syntax.specs.declared.expr.OperandTree.{OperandTree, Inner', Prefix'}
use Rattle.hera_syntax.specs.declared.expr.Bindings.{Bindings, Bindings', Row_of-Binding, end_of-Binding, more_of-Binding}
use Rattle.hera_syntax.specs.declared.expr.Atoms.{Atoms, Atoms', Row_of-Atom, end_of-Atom, more_of-Atom}
use Rattle.hera_syntax.specs.declared.expr.LineTrees.{LineTrees, LineTrees', Row_of-LineTree, end_of-LineTree, more_of-LineTree}
use Rattle.hera_syntax.specs.declared.expr.Binding.{Binding, Binding'}
use Rattle.hera_syntax.specs.declared.expr.Atom.{Atom, Atom'}
use Rattle.hera_syntax.specs.declared.expr.LineTree.{LineTree, LineTree'}
use Rattle.hera_syntax.specs.declared.expr.Prime.{Prime, Int, Text, True, False, Fail, Name, Call', Paren', Row', Delta', Rows', Walk', Project', Rename', Pair', Group', Measure', Fold', Bulk', Part', Held-Prime-Call-2, Prime-Call-2-None', Prime-Call-2-Some', Held-Prime-Delta-1, Prime-Delta-1-None', Prime-Delta-1-Some', Held-Prime-Rows-4, Prime-Rows-4-None', Prime-Rows-4-Some'}
use Rattle.std.specs.List.{flat_map}
use Rattle.hera_syntax.specs.Grammar as phrases
use Rattle.hera_syntax.specs.Grammar.{Production}
use Rattle.hera_syntax.specs.Outline.{Entry, at_node, kept, left_out, node, production_of, more_of, alternative_of, chain_end, names_outline, renamings_outline, aggs_outline, prefix_start, field_outline, expr_outline, tails_outline, operand_outline, args_outline, args_rest, bindings_outline, bindings_rest, atoms_outline, atoms_rest, lines_outline, lines_rest, binding_outline, atom_outline, line_outline, call_args, delta_atoms, rows_lines, prime_outline}

abbrev mutual
  pub expr_out : Expr → List Entry → List Entry
  expr_out (Expr' level first shape rest) r = at_node (production_of level) (alternative_of level (tails_outline rest)) ∷ operand_out first (tails_out (more_of level) rest (chain_end level (tails_outline rest) ++ r))

  pub tails_out : {m : _} → Production → Row_of-Tail m → List Entry → List Entry
  tails_out s end_of-Tail r = r
  tails_out s (more_of-Tail op operand rest) r = at_node s 0 ∷ kept op ∷ operand_out operand (tails_out s rest r)

  pub operand_out : OperandTree → List Entry → List Entry
  operand_out (Inner' p e) r = expr_out e r
  operand_out (Prefix' op p operand field) r = prefix_start op ++ (at_node phrases.post 0 ∷ prime_out operand (field_outline field ++ r))

  pub args_out : ArgTrees → List Entry → List Entry
  args_out (ArgTrees' first shape rest) r = at_node phrases.args 0 ∷ expr_out first (args_more rest (at_node phrases.more_args 1 ∷ r))

  pub args_more : {m : _} → Row_of-Expr m → List Entry → List Entry
  args_more end_of-Expr r = r
  args_more (more_of-Expr e rest) r = at_node phrases.more_args 0 ∷ left_out phrases.comma ∷ expr_out e (args_more rest r)

  pub bindings_out : Bindings → List Entry → List Entry
  bindings_out (Bindings' first shape rest) r = at_node phrases.bindings 0 ∷ binding_out first (bindings_more rest (at_node phrases.more_bindings 1 ∷ r))

  pub bindings_more : {m : _} → Row_of-Binding m → List Entry → List Entry
  bindings_more end_of-Binding r = r
  bindings_more (more_of-Binding e rest) r = at_node phrases.more_bindings 0 ∷ left_out phrases.comma ∷ binding_out e (bindings_more rest r)

  pub atoms_out : Atoms → List Entry → List Entry
  atoms_out (Atoms' first shape rest) r = at_node phrases.atoms 0 ∷ atom_out first (atoms_more rest (at_node phrases.more_atoms 1 ∷ r))

  pub atoms_more : {m : _} → Row_of-Atom m → List Entry → List Entry
  atoms_more end_of-Atom r = r
  atoms_more (more_of-Atom e rest) r = at_node phrases.more_atoms 0 ∷ left_out phrases.comma ∷ atom_out e (atoms_more rest r)

  pub lines_out : LineTrees → List Entry → List Entry
  lines_out (LineTrees' first shape rest) r = at_node phrases.lines 0 ∷ line_out first (lines_more rest (at_node phrases.more_lines 1 ∷ r))

  pub lines_more : {m : _} → Row_of-LineTree m → List Entry → List Entry
  lines_more end_of-LineTree r = r
  lines_more (more_of-LineTree e rest) r = at_node phrases.more_lines 0 ∷ left_out phrases.comma ∷ line_out e (lines_more rest r)

  pub binding_out : Binding → List Entry → List Entry
  binding_out (Binding' name value) r = at_node phrases.binding 0 ∷ kept name ∷ left_out phrases.equals ∷ expr_out value r

  pub atom_out : Atom → List Entry → List Entry
  atom_out (Atom' sign name bracket args) r = at_node phrases.atom 0 ∷ kept sign ∷ kept name ∷ kept bracket ∷ args_out args (left_out phrases.close_paren ∷ r)

  pub line_out : LineTree → List Entry → List Entry
  line_out (LineTree' bracket args) r = at_node phrases.line 0 ∷ kept bracket ∷ args_out args (left_out phrases.close_paren ∷ r)

  pub call_out : Held-Prime-Call-2 → List Entry → List Entry
  call_out Prime-Call-2-None' r = at_node phrases.some_args 1 ∷ r
  call_out (Prime-Call-2-Some' p args) r = at_node phrases.some_args 0 ∷ args_out args r

  pub delta_out : Held-Prime-Delta-1 → List Entry → List Entry
  delta_out Prime-Delta-1-None' r = at_node phrases.some_atoms 1 ∷ r
  delta_out (Prime-Delta-1-Some' p all) r = at_node phrases.some_atoms 0 ∷ atoms_out all r

  pub rows_out : Held-Prime-Rows-4 → List Entry → List Entry
  rows_out Prime-Rows-4-None' r = at_node phrases.some_lines 1 ∷ r
  rows_out (Prime-Rows-4-Some' p all) r = at_node phrases.some_lines 0 ∷ lines_out all r

  pub prime_out : Prime → List Entry → List Entry
  prime_out (Int t) r = at_node phrases.prime 0 ∷ kept t ∷ r
  prime_out (Text t) r = at_node phrases.prime 1 ∷ kept t ∷ r
  prime_out (True t) r = at_node phrases.prime 2 ∷ kept t ∷ r
  prime_out (False t) r = at_node phrases.prime 3 ∷ kept t ∷ r
  prime_out (Fail t) r = at_node phrases.prime 4 ∷ kept t ∷ r
  prime_out (Name t) r = at_node phrases.prime 5 ∷ kept t ∷ at_node phrases.call 1 ∷ r
  prime_out (Call' n b args) r = at_node phrases.prime 5 ∷ kept n ∷ at_node phrases.call 0 ∷ kept b ∷ call_out args (left_out phrases.close_paren ∷ r)
  prime_out (Paren' b p e) r = at_node phrases.prime 6 ∷ kept b ∷ expr_out e (left_out phrases.close_paren ∷ r)
  prime_out (Row' b p bs) r = at_node phrases.prime 7 ∷ kept b ∷ bindings_out bs (left_out phrases.close_square ∷ r)
  prime_out (Delta' b ats) r = at_node phrases.prime 8 ∷ kept b ∷ delta_out ats (left_out phrases.close_brace ∷ r)
  prime_out (Rows' w b n c ls) r = at_node phrases.prime 9 ∷ kept w ∷ kept b ∷ kept n ∷ left_out phrases.close_paren ∷ kept c ∷ rows_out ls (left_out phrases.close_brace ∷ r)
  prime_out (Walk' w b n p over q body) r = at_node phrases.prime 10 ∷ kept w ∷ kept b ∷ kept n ∷ left_out phrases.in_word ∷ expr_out over (left_out phrases.colon ∷ expr_out body (left_out phrases.close_paren ∷ r))
  prime_out (Project' w b p over ns) r = at_node phrases.prime 11 ∷ kept w ∷ kept b ∷ expr_out over (left_out phrases.semicolon ∷ (names_outline ns ++ (left_out phrases.close_paren ∷ r)))
  prime_out (Rename' w b p over ns) r = at_node phrases.prime 12 ∷ kept w ∷ kept b ∷ expr_out over (left_out phrases.semicolon ∷ (renamings_outline ns ++ (left_out phrases.close_paren ∷ r)))
  prime_out (Pair' w b p left q right) r = at_node phrases.prime 13 ∷ kept w ∷ kept b ∷ expr_out left (left_out phrases.comma ∷ expr_out right (left_out phrases.close_paren ∷ r))
  prime_out (Group' w b p over ns aa) r = at_node phrases.prime 14 ∷ kept w ∷ kept b ∷ expr_out over (left_out phrases.semicolon ∷ left_out phrases.by_word ∷ (names_outline ns ++ (left_out phrases.semicolon ∷ (aggs_outline aa ++ (left_out phrases.close_paren ∷ r)))))
  prime_out (Measure' w b p over) r = at_node phrases.prime 15 ∷ kept w ∷ kept b ∷ expr_out over (left_out phrases.close_paren ∷ r)
  prime_out (Fold' w b p over n) r = at_node phrases.prime 16 ∷ kept w ∷ kept b ∷ expr_out over (left_out phrases.comma ∷ kept n ∷ left_out phrases.close_paren ∷ r)
  prime_out (Bulk' w b sign n p over) r = at_node phrases.prime 17 ∷ kept w ∷ kept b ∷ kept sign ∷ kept n ∷ left_out phrases.comma ∷ expr_out over (left_out phrases.close_paren ∷ r)
  prime_out (Part' w b n p over) r = at_node phrases.prime 18 ∷ kept w ∷ kept b ∷ kept n ∷ left_out phrases.comma ∷ expr_out over (left_out phrases.close_paren ∷ r)

two_parts : (e n : List Entry) (s t : Entry) (r : List Entry) → (((e ++ s ∷ []) ++ n) ++ t ∷ []) ++ r ≡ e ++ (s ∷ (n ++ (t ∷ r)))
two_parts e n s t r = simp append_assoc

three_parts : (e n a : List Entry) (s u v t : Entry) (r : List Entry) → ((((((e ++ s ∷ []) ++ u ∷ []) ++ n) ++ v ∷ []) ++ a) ++ t ∷ []) ++ r ≡ e ++ (s ∷ u ∷ (n ++ (v ∷ (a ++ (t ∷ r)))))
three_parts e n a s u v t r = simp append_assoc

mutual
  pub expr_law : (e : Expr) (r : List Entry) → expr_outline e ++ r ≡ expr_out e r
  expr_law (Expr' level first shape rest) r =
      simp append_assoc (rw (tails_law (more_of level) rest (chain_end level (tails_outline rest) ++ r), operand_law first (tails_out (more_of level) rest (chain_end level (tails_outline rest) ++ r))) refl)

  tails_law : {m : _} (s : Production) (k : Row_of-Tail m) (r : List Entry) → flat_map (λ tail. node s 0 ++ tail) (tails_outline k) ++ r ≡ tails_out s k r
  tails_law s end_of-Tail r = refl
  tails_law s (more_of-Tail op operand rest) r = simp append_assoc (rw (tails_law s rest r, operand_law operand (tails_out s rest r)) refl)

  pub operand_law : (e : OperandTree) (r : List Entry) → operand_outline e ++ r ≡ operand_out e r
  operand_law (Inner' p e) r = expr_law e r
  operand_law (Prefix' op p operand field) r = simp append_assoc (rw (prime_law operand (field_outline field ++ r)) refl)

  pub args_law : (e : ArgTrees) (r : List Entry) → args_outline e ++ r ≡ args_out e r
  args_law (ArgTrees' first shape rest) r = simp append_assoc (rw (args_more_law rest (at_node phrases.more_args 1 ∷ r), expr_law first (args_more rest (at_node phrases.more_args 1 ∷ r))) refl)

  args_more_law : {m : _} (k : Row_of-Expr m) (r : List Entry) → args_rest k ++ r ≡ args_more k r
  args_more_law end_of-Expr r = refl
  args_more_law (more_of-Expr e rest) r = simp append_assoc (rw (args_more_law rest r, expr_law e (args_more rest r)) refl)

  bindings_law : (e : Bindings) (r : List Entry) → bindings_outline e ++ r ≡ bindings_out e r
  bindings_law (Bindings' first shape rest) r = simp append_assoc (rw (bindings_more_law rest (at_node phrases.more_bindings 1 ∷ r), binding_law first (bindings_more rest (at_node phrases.more_bindings 1 ∷ r))) refl)

  bindings_more_law : {m : _} (k : Row_of-Binding m) (r : List Entry) → bindings_rest k ++ r ≡ bindings_more k r
  bindings_more_law end_of-Binding r = refl
  bindings_more_law (more_of-Binding e rest) r = simp append_assoc (rw (bindings_more_law rest r, binding_law e (bindings_more rest r)) refl)

  atoms_law : (e : Atoms) (r : List Entry) → atoms_outline e ++ r ≡ atoms_out e r
  atoms_law (Atoms' first shape rest) r = simp append_assoc (rw (atoms_more_law rest (at_node phrases.more_atoms 1 ∷ r), atom_law first (atoms_more rest (at_node phrases.more_atoms 1 ∷ r))) refl)

  atoms_more_law : {m : _} (k : Row_of-Atom m) (r : List Entry) → atoms_rest k ++ r ≡ atoms_more k r
  atoms_more_law end_of-Atom r = refl
  atoms_more_law (more_of-Atom e rest) r = simp append_assoc (rw (atoms_more_law rest r, atom_law e (atoms_more rest r)) refl)

  lines_law : (e : LineTrees) (r : List Entry) → lines_outline e ++ r ≡ lines_out e r
  lines_law (LineTrees' first shape rest) r = simp append_assoc (rw (lines_more_law rest (at_node phrases.more_lines 1 ∷ r), line_law first (lines_more rest (at_node phrases.more_lines 1 ∷ r))) refl)

  lines_more_law : {m : _} (k : Row_of-LineTree m) (r : List Entry) → lines_rest k ++ r ≡ lines_more k r
  lines_more_law end_of-LineTree r = refl
  lines_more_law (more_of-LineTree e rest) r = simp append_assoc (rw (lines_more_law rest r, line_law e (lines_more rest r)) refl)

  binding_law : (e : Binding) (r : List Entry) → binding_outline e ++ r ≡ binding_out e r
  binding_law (Binding' name value) r = ap (λ ms. at_node phrases.binding 0 ∷ kept name ∷ left_out phrases.equals ∷ ms) (expr_law value r)

  atom_law : (e : Atom) (r : List Entry) → atom_outline e ++ r ≡ atom_out e r
  atom_law (Atom' sign name bracket args) r = simp append_assoc (rw (args_law args (left_out phrases.close_paren ∷ r)) refl)

  line_law : (e : LineTree) (r : List Entry) → line_outline e ++ r ≡ line_out e r
  line_law (LineTree' bracket args) r = simp append_assoc (rw (args_law args (left_out phrases.close_paren ∷ r)) refl)

  call_law : (k : Held-Prime-Call-2) (r : List Entry) → call_args k ++ r ≡ call_out k r
  call_law Prime-Call-2-None' r = refl
  call_law (Prime-Call-2-Some' p args) r = ap (λ ms. at_node phrases.some_args 0 ∷ ms) (args_law args r)

  delta_law : (k : Held-Prime-Delta-1) (r : List Entry) → delta_atoms k ++ r ≡ delta_out k r
  delta_law Prime-Delta-1-None' r = refl
  delta_law (Prime-Delta-1-Some' p all) r = ap (λ ms. at_node phrases.some_atoms 0 ∷ ms) (atoms_law all r)

  rows_law : (k : Held-Prime-Rows-4) (r : List Entry) → rows_lines k ++ r ≡ rows_out k r
  rows_law Prime-Rows-4-None' r = refl
  rows_law (Prime-Rows-4-Some' p all) r = ap (λ ms. at_node phrases.some_lines 0 ∷ ms) (lines_law all r)

  prime_law : (e : Prime) (r : List Entry) → prime_outline e ++ r ≡ prime_out e r
  prime_law (Int t) r = refl
  prime_law (Text t) r = refl
  prime_law (True t) r = refl
  prime_law (False t) r = refl
  prime_law (Fail t) r = refl
  prime_law (Name t) r = refl
  prime_law (Call' n b args) r = simp append_assoc (rw (call_law args (left_out phrases.close_paren ∷ r)) refl)
  prime_law (Paren' b p e) r = simp append_assoc (rw (expr_law e (left_out phrases.close_paren ∷ r)) refl)
  prime_law (Row' b p bs) r = simp append_assoc (rw (bindings_law bs (left_out phrases.close_square ∷ r)) refl)
  prime_law (Delta' b ats) r = simp append_assoc (rw (delta_law ats (left_out phrases.close_brace ∷ r)) refl)
  prime_law (Rows' w b n c ls) r = simp append_assoc (rw (rows_law ls (left_out phrases.close_brace ∷ r)) refl)
  prime_law (Walk' w b n p over q body) r = simp append_assoc (rw (expr_law body (left_out phrases.close_paren ∷ r), expr_law over (left_out phrases.colon ∷ expr_out body (left_out phrases.close_paren ∷ r))) refl)
  prime_law (Project' w b p over ns) r = ap (λ ms. at_node phrases.prime 11 ∷ kept w ∷ kept b ∷ ms) (two_parts (expr_outline over) (names_outline ns) (left_out phrases.semicolon) (left_out phrases.close_paren) r ∙ expr_law over (left_out phrases.semicolon ∷ (names_outline ns ++ (left_out phrases.close_paren ∷ r))))
  prime_law (Rename' w b p over ns) r = ap (λ ms. at_node phrases.prime 12 ∷ kept w ∷ kept b ∷ ms) (two_parts (expr_outline over) (renamings_outline ns) (left_out phrases.semicolon) (left_out phrases.close_paren) r ∙ expr_law over (left_out phrases.semicolon ∷ (renamings_outline ns ++ (left_out phrases.close_paren ∷ r))))
  prime_law (Pair' w b p left q right) r = simp append_assoc (rw (expr_law right (left_out phrases.close_paren ∷ r), expr_law left (left_out phrases.comma ∷ expr_out right (left_out phrases.close_paren ∷ r))) refl)
  prime_law (Group' w b p over ns aa) r = ap (λ ms. at_node phrases.prime 14 ∷ kept w ∷ kept b ∷ ms) (three_parts (expr_outline over) (names_outline ns) (aggs_outline aa) (left_out phrases.semicolon) (left_out phrases.by_word) (left_out phrases.semicolon) (left_out phrases.close_paren) r ∙ expr_law over (left_out phrases.semicolon ∷ left_out phrases.by_word ∷ (names_outline ns ++ (left_out phrases.semicolon ∷ (aggs_outline aa ++ (left_out phrases.close_paren ∷ r))))))
  prime_law (Measure' w b p over) r = simp append_assoc (rw (expr_law over (left_out phrases.close_paren ∷ r)) refl)
  prime_law (Fold' w b p over n) r = simp append_assoc (rw (expr_law over (left_out phrases.comma ∷ kept n ∷ left_out phrases.close_paren ∷ r)) refl)
  prime_law (Bulk' w b sign n p over) r = simp append_assoc (rw (expr_law over (left_out phrases.close_paren ∷ r)) refl)
  prime_law (Part' w b n p over) r = simp append_assoc (rw (expr_law over (left_out phrases.close_paren ∷ r)) refl)
