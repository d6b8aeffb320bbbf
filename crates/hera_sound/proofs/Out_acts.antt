-- Outlines of statements with what stands behind them.
use Rattle.std.proofs.Common.{◌≡◌, List, [], ◌∷◌, ◌++◌, refl, ap, ◌∙◌, append_assoc}
use Rattle.std.specs.Prelude.{Option, Some, None}
use Rattle.hera_syntax.specs.declared.token.Token.{Token}
use Rattle.hera_syntax.specs.declared.expr.Expr.{Expr}
use Rattle.hera_syntax.specs.declared.expr.ArgTrees.{ArgTrees}
use Rattle.hera_syntax.specs.declared.tree.StmtTree.{StmtTree, Declare, Assign, Call, If', While', Foreach', Print, Apply, Assert, Commit, Rollback, Return, Row_of-StmtTree, end_of-StmtTree, more_of-StmtTree, Row_of-ElseIf, end_of-ElseIf, more_of-ElseIf, Held-StmtTree-If-5, None', Some'}
use Rattle.hera_syntax.specs.Grammar as phrases
use Rattle.hera_syntax.specs.Outline.{Entry, at_node, kept, left_out, expr_outline, some_args_outline}
use Rattle.hera_syntax.specs.Programs.{type_outline, some_value_outline, stmt_outline, stmts_rest, elses_rest, last_outline}
use Rattle.hera_sound.proofs.Out.{expr_out, args_out, expr_law, args_law}

abbrev pub some_args_out : Option ArgTrees → List Entry → List Entry
some_args_out None r = at_node phrases.some_args 1 ∷ r
some_args_out (Some args) r = at_node phrases.some_args 0 ∷ args_out args r

abbrev pub text_out : Option Token → List Entry → List Entry
text_out None r = at_node phrases.some_text 1 ∷ r
text_out (Some t) r = at_node phrases.some_text 0 ∷ kept t ∷ r

abbrev pub value_out : Option Expr → List Entry → List Entry
value_out None r = at_node phrases.some_value 1 ∷ r
value_out (Some e) r = at_node phrases.some_value 0 ∷ expr_out e r

some_args_law : (k : Option ArgTrees) (r : List Entry) → some_args_outline k ++ r ≡ some_args_out k r
some_args_law None r = refl
some_args_law (Some args) r = ap (λ ms. at_node phrases.some_args 0 ∷ ms) (args_law args r)

value_law : (k : Option Expr) (r : List Entry) → some_value_outline k ++ r ≡ value_out k r
value_law None r = refl
value_law (Some e) r = ap (λ ms. at_node phrases.some_value 0 ∷ ms) (expr_law e r)

abbrev mutual
  pub stmt_out : StmtTree → List Entry → List Entry
  stmt_out (Declare t n e) r = at_node phrases.stmt 0 ∷ (type_outline t ++ (kept n ∷ left_out phrases.equals ∷ expr_out e (left_out phrases.semicolon ∷ r)))
  stmt_out (Assign n e) r = at_node phrases.stmt 1 ∷ kept n ∷ at_node phrases.named 0 ∷ left_out phrases.equals ∷ expr_out e (left_out phrases.semicolon ∷ r)
  stmt_out (Call n b args) r = at_node phrases.stmt 1 ∷ kept n ∷ at_node phrases.named 1 ∷ kept b ∷ some_args_out args (left_out phrases.close_paren ∷ left_out phrases.semicolon ∷ r)
  stmt_out (If' w b e c shape stmts shape' elses last) r =
      at_node phrases.stmt 2 ∷ kept w ∷ kept b ∷ expr_out e (left_out phrases.close_paren ∷ at_node phrases.block 0 ∷ kept c ∷ stmts_out stmts (at_node phrases.stmts 1 ∷ left_out phrases.close_brace ∷ elses_out elses (last_out last r)))
  stmt_out (While' w b e c shape stmts) r =
      at_node phrases.stmt 3 ∷ kept w ∷ kept b ∷ expr_out e (left_out phrases.close_paren ∷ at_node phrases.block 0 ∷ kept c ∷ stmts_out stmts (at_node phrases.stmts 1 ∷ left_out phrases.close_brace ∷ r))
  stmt_out (Foreach' w b n e c shape stmts) r =
      at_node phrases.stmt 4 ∷ kept w ∷ kept b ∷ kept n ∷ left_out phrases.in_word ∷ expr_out e (left_out phrases.close_paren ∷ at_node phrases.block 0 ∷ kept c ∷ stmts_out stmts (at_node phrases.stmts 1 ∷ left_out phrases.close_brace ∷ r))
  stmt_out (Print w e) r = at_node phrases.stmt 5 ∷ kept w ∷ expr_out e (left_out phrases.semicolon ∷ r)
  stmt_out (Apply w e) r = at_node phrases.stmt 6 ∷ kept w ∷ expr_out e (left_out phrases.semicolon ∷ r)
  stmt_out (Assert w e) r = at_node phrases.stmt 7 ∷ kept w ∷ expr_out e (left_out phrases.semicolon ∷ r)
  stmt_out (Commit w label) r = at_node phrases.stmt 8 ∷ kept w ∷ text_out label (left_out phrases.semicolon ∷ r)
  stmt_out (Rollback w) r = at_node phrases.stmt 9 ∷ kept w ∷ left_out phrases.semicolon ∷ r
  stmt_out (Return w e) r = at_node phrases.stmt 10 ∷ kept w ∷ value_out e (left_out phrases.semicolon ∷ r)

  pub stmts_out : {m : _} → Row_of-StmtTree m → List Entry → List Entry
  stmts_out end_of-StmtTree r = r
  stmts_out (more_of-StmtTree s rest) r = at_node phrases.stmts 0 ∷ stmt_out s (stmts_out rest r)

  pub elses_out : {m : _} → Row_of-ElseIf m → List Entry → List Entry
  elses_out end_of-ElseIf r = r
  elses_out (more_of-ElseIf w b e c shape stmts rest) r =
      at_node phrases.else_part 0 ∷ left_out phrases.else_word ∷ at_node phrases.after_else 0 ∷ kept w ∷ kept b ∷ expr_out e (left_out phrases.close_paren ∷ at_node phrases.block 0 ∷ kept c
      ∷ stmts_out stmts (at_node phrases.stmts 1 ∷ left_out phrases.close_brace ∷ elses_out rest r))

  pub last_out : Held-StmtTree-If-5 → List Entry → List Entry
  last_out None' r = at_node phrases.else_part 1 ∷ r
  last_out (Some' c shape stmts) r =
      at_node phrases.else_part 0 ∷ left_out phrases.else_word ∷ at_node phrases.after_else 1 ∷ at_node phrases.block 0 ∷ kept c ∷ stmts_out stmts (at_node phrases.stmts 1 ∷ left_out phrases.close_brace ∷ r)

last_parts : (s : List Entry) (d e : Entry) (r : List Entry) → ((s ++ d ∷ []) ++ e ∷ []) ++ r ≡ s ++ (d ∷ e ∷ r)
last_parts s d e r = simp append_assoc

block_parts : (x s : List Entry) (a b c d e : Entry) (r : List Entry) → ((x ++ a ∷ []) ++ (b ∷ c ∷ ((s ++ d ∷ []) ++ e ∷ []))) ++ r ≡ x ++ (a ∷ b ∷ c ∷ (s ++ (d ∷ e ∷ r)))
block_parts x s a b c d e r = simp append_assoc

else_parts : (x s l : List Entry) (a b c d e : Entry) (r : List Entry) → (((x ++ a ∷ []) ++ (b ∷ c ∷ ((s ++ d ∷ []) ++ e ∷ []))) ++ l) ++ r ≡ x ++ (a ∷ b ∷ c ∷ (s ++ (d ∷ e ∷ (l ++ r))))
else_parts x s l a b c d e r = simp append_assoc

if_parts : (x s l m : List Entry) (a b c d e : Entry) (r : List Entry) → ((((x ++ a ∷ []) ++ (b ∷ c ∷ ((s ++ d ∷ []) ++ e ∷ []))) ++ l) ++ m) ++ r ≡ x ++ (a ∷ b ∷ c ∷ (s ++ (d ∷ e ∷ (l ++ (m ++ r)))))
if_parts x s l m a b c d e r = simp append_assoc

mutual
  pub stmt_law : (s : StmtTree) (r : List Entry) → stmt_outline s ++ r ≡ stmt_out s r
  stmt_law (Declare t n e) r = simp append_assoc (rw (expr_law e (left_out phrases.semicolon ∷ r)) refl)
  stmt_law (Assign n e) r = simp append_assoc (rw (expr_law e (left_out phrases.semicolon ∷ r)) refl)
  stmt_law (Call n b args) r = simp append_assoc (rw (some_args_law args (left_out phrases.close_paren ∷ left_out phrases.semicolon ∷ r)) refl)
  stmt_law (If' w b e c shape stmts shape' elses last) r =
      let end : List Entry → List Entry = λ ms. at_node phrases.stmts 1 ∷ left_out phrases.close_brace ∷ ms in
      let start : List Entry → List Entry = λ ms. left_out phrases.close_paren ∷ at_node phrases.block 0 ∷ kept c ∷ ms in
      ap (λ ms. at_node phrases.stmt 2 ∷ kept w ∷ kept b ∷ ms)
      (if_parts (expr_outline e) (stmts_rest stmts) (elses_rest elses) (last_outline last) (left_out phrases.close_paren) (at_node phrases.block 0) (kept c) (at_node phrases.stmts 1) (left_out phrases.close_brace) r
      ∙ ap (λ ms. expr_outline e ++ start (stmts_rest stmts ++ end (elses_rest elses ++ ms))) (last_law last r) ∙ ap (λ ms. expr_outline e ++ start (stmts_rest stmts ++ end ms)) (elses_law elses (last_out last r))
      ∙ ap (λ ms. expr_outline e ++ start ms) (stmts_law stmts (end (elses_out elses (last_out last r)))) ∙ expr_law e (start (stmts_out stmts (end (elses_out elses (last_out last r))))))
  stmt_law (While' w b e c shape stmts) r =
      let end : List Entry → List Entry = λ ms. at_node phrases.stmts 1 ∷ left_out phrases.close_brace ∷ ms in
      let start : List Entry → List Entry = λ ms. left_out phrases.close_paren ∷ at_node phrases.block 0 ∷ kept c ∷ ms in
      ap (λ ms. at_node phrases.stmt 3 ∷ kept w ∷ kept b ∷ ms)
      (block_parts (expr_outline e) (stmts_rest stmts) (left_out phrases.close_paren) (at_node phrases.block 0) (kept c) (at_node phrases.stmts 1) (left_out phrases.close_brace) r
      ∙ ap (λ ms. expr_outline e ++ start ms) (stmts_law stmts (end r)) ∙ expr_law e (start (stmts_out stmts (end r))))
  stmt_law (Foreach' w b n e c shape stmts) r =
      let end : List Entry → List Entry = λ ms. at_node phrases.stmts 1 ∷ left_out phrases.close_brace ∷ ms in
      let start : List Entry → List Entry = λ ms. left_out phrases.close_paren ∷ at_node phrases.block 0 ∷ kept c ∷ ms in
      ap (λ ms. at_node phrases.stmt 4 ∷ kept w ∷ kept b ∷ kept n ∷ left_out phrases.in_word ∷ ms)
      (block_parts (expr_outline e) (stmts_rest stmts) (left_out phrases.close_paren) (at_node phrases.block 0) (kept c) (at_node phrases.stmts 1) (left_out phrases.close_brace) r
      ∙ ap (λ ms. expr_outline e ++ start ms) (stmts_law stmts (end r)) ∙ expr_law e (start (stmts_out stmts (end r))))
  stmt_law (Print w e) r = simp append_assoc (rw (expr_law e (left_out phrases.semicolon ∷ r)) refl)
  stmt_law (Apply w e) r = simp append_assoc (rw (expr_law e (left_out phrases.semicolon ∷ r)) refl)
  stmt_law (Assert w e) r = simp append_assoc (rw (expr_law e (left_out phrases.semicolon ∷ r)) refl)
  stmt_law (Commit w None) r = refl
  stmt_law (Commit w (Some t)) r = refl
  stmt_law (Rollback w) r = refl
  stmt_law (Return w e) r = simp append_assoc (rw (value_law e (left_out phrases.semicolon ∷ r)) refl)

  stmts_law : {m : _} (k : Row_of-StmtTree m) (r : List Entry) → stmts_rest k ++ r ≡ stmts_out k r
  stmts_law end_of-StmtTree r = refl
  stmts_law (more_of-StmtTree s rest) r = simp append_assoc (rw (stmts_law rest r, stmt_law s (stmts_out rest r)) refl)

  elses_law : {m : _} (k : Row_of-ElseIf m) (r : List Entry) → elses_rest k ++ r ≡ elses_out k r
  elses_law end_of-ElseIf r = refl
  elses_law (more_of-ElseIf w b e c shape stmts rest) r =
      let end : List Entry → List Entry = λ ms. at_node phrases.stmts 1 ∷ left_out phrases.close_brace ∷ ms in
      let start : List Entry → List Entry = λ ms. left_out phrases.close_paren ∷ at_node phrases.block 0 ∷ kept c ∷ ms in
      ap (λ ms. at_node phrases.else_part 0 ∷ left_out phrases.else_word ∷ at_node phrases.after_else 0 ∷ kept w ∷ kept b ∷ ms)
      (else_parts (expr_outline e) (stmts_rest stmts) (elses_rest rest) (left_out phrases.close_paren) (at_node phrases.block 0) (kept c) (at_node phrases.stmts 1) (left_out phrases.close_brace) r
      ∙ ap (λ ms. expr_outline e ++ start (stmts_rest stmts ++ end ms)) (elses_law rest r) ∙ ap (λ ms. expr_outline e ++ start ms) (stmts_law stmts (end (elses_out rest r))) ∙ expr_law e (start (stmts_out stmts (end (elses_out rest r)))))

  last_law : (k : Held-StmtTree-If-5) (r : List Entry) → last_outline k ++ r ≡ last_out k r
  last_law None' r = refl
  last_law (Some' c shape stmts) r =
      ap (λ ms. at_node phrases.else_part 0 ∷ left_out phrases.else_word ∷ at_node phrases.after_else 1 ∷ at_node phrases.block 0 ∷ kept c ∷ ms)
      (last_parts (stmts_rest stmts) (at_node phrases.stmts 1) (left_out phrases.close_brace) r ∙ stmts_law stmts (at_node phrases.stmts 1 ∷ left_out phrases.close_brace ∷ r))
