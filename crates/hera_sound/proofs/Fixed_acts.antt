-- Trees of one outline have one phrase: types, statements and scripts.
use Rattle.std.proofs.Common.{◌≡◌, List, [], ◌∷◌, ◌++◌, refl, ap, ◌∙◌, sym, arith, append_assoc, append-nil}
use Rattle.std.specs.Prelude.{Option, Some, None, map}
use Rattle.std.specs.List.{flat_map}
use Rattle.hera_syntax.specs.declared.token.Token.{Token}
use Rattle.hera_syntax.specs.declared.expr.Expr.{Expr}
use Rattle.hera_syntax.specs.declared.expr.ArgTrees.{ArgTrees}
use Rattle.hera_syntax.specs.declared.tree.AttrTree.{AttrTree}
use Rattle.hera_syntax.specs.declared.tree.Attrs.{Attrs}
use Rattle.hera_syntax.specs.declared.tree.SchemaTree.{SchemaTree}
use Rattle.hera_syntax.specs.declared.tree.SchemaTree.TheVariants.{Name, Written}
use Rattle.hera_syntax.specs.declared.tree.TypeTree.{TypeTree}
use Rattle.hera_syntax.specs.declared.tree.TypeTree.TheVariants.{Kind, Delta, Rel, Tuple}
use Rattle.hera_syntax.specs.declared.tree.Param.{Param}
use Rattle.hera_syntax.specs.declared.tree.Params.{Params}
use Rattle.hera_syntax.specs.declared.tree.Block.{Block}
use Rattle.hera_syntax.specs.declared.tree.StmtTree.{StmtTree, Declare, Assign, Call, If', While', Foreach', Print, Apply, Assert, Commit, Rollback, Return, Row_of-StmtTree, end_of-StmtTree, more_of-StmtTree, Row_of-ElseIf, end_of-ElseIf, more_of-ElseIf, Held-StmtTree-If-5, None', Some'}
use Rattle.hera_syntax.specs.declared.tree.Relation.{Relation}
use Rattle.hera_syntax.specs.declared.tree.Func.{Func}
use Rattle.hera_syntax.specs.declared.tree.Proc.{Proc}
use Rattle.hera_syntax.specs.declared.tree.Main.{Main}
use Rattle.hera_syntax.specs.declared.tree.Tree.{Tree}
use Rattle.hera_syntax.specs.Grammar as phrases
use Rattle.hera_syntax.specs.Outline.{Entry, at_node, kept, left_out}
use Rattle.hera_syntax.specs.Programs.{attr_outline, attr_row, attrs_outline, schema_outline, type_outline, param_outline, param_row, params_outline, some_params_outline, stmt_row, block_outline, last_main_outline, relation_row, func_row, proc_row, outline}
use Rattle.hera_rules.specs.declared.words.Field.{Field}
use Rattle.hera_rules.specs.Phrases.{of_relation, written, Type_phrase, kind_type, rel_type, tuple_type, Act, declaring, assigning, performing, choosing, looping, visiting, printing, applying, asserting, committing, rolling_back, returning_value, Acts, no_act, act, branch, Relation_phrase, Param_phrase, Func_phrase, Proc_phrase, Script}
use Rattle.hera_rules.specs.Read.{word_of, kind_word, expr_phrase}
use Rattle.hera_rules.specs.ReadActs.{field_of, fields_of, schema_phrase, type_phrase, some_args, return_act, label_of, act_of, acts_of, branches_of, last_acts, acts_in, block_acts, relation_phrase, param_phrase, params_phrase, some_params, func_phrase, proc_phrase, main_acts, script_of}
use Rattle.hera_sound.proofs.Out.{expr_out}
use Rattle.hera_sound.proofs.Out_acts.{some_args_out, text_out, value_out, stmt_out, stmts_out, elses_out, last_out, stmt_law}
use Rattle.hera_sound.proofs.Fixed.{Same, tail_same, kept_same, numbers_same, rows_fixed, expr_fixed, args_fixed}

attr_fixed : (a b : AttrTree) (r s : List Entry) → attr_outline a ++ r ≡ attr_outline b ++ s → Same (field_of a) (field_of b) r s
attr_fixed a b r s h =
    let k = kept_same (tail_same h) in
    let j = kept_same (tail_same k.rest) in
    record {
      same = ap (λ (t : Token). let x : Field = record { name = word_of t; kind = kind_word a.kind.word.kind } in x) k.same ∙ ap (λ (t : Token). let x : Field = record { name = word_of b.name; kind = kind_word t.kind } in x) j.same;
      rest = j.rest;
    }

attr_row_fixed : (a b : AttrTree) (r s : List Entry) → attr_row a ++ r ≡ attr_row b ++ s → Same (field_of a) (field_of b) r s
attr_row_fixed a b r s h = attr_fixed a b r s (tail_same (tail_same h))

attrs_fixed : (a b : Attrs) (r s : List Entry) → attrs_outline a ++ r ≡ attrs_outline b ++ s → Same (fields_of a) (fields_of b) r s
attrs_fixed a b r s h =
    let k = attr_fixed a.first b.first ((flat_map attr_row a.rest.items ++ at_node phrases.more_attrs 1 ∷ []) ++ r) ((flat_map attr_row b.rest.items ++ at_node phrases.more_attrs 1 ∷ []) ++ s) (tail_same h) in
    let j = rows_fixed attr_row field_of (at_node phrases.more_attrs 1) attr_row_fixed (λ t r s e. absurd cc) a.rest.items b.rest.items r s k.rest in
    record { same = ap (λ (x : Field). x ∷ map field_of a.rest.items) k.same ∙ ap (λ xs. field_of b.first ∷ xs) j.same; rest = j.rest }

schema_fixed : (a b : SchemaTree) (r s : List Entry) → schema_outline a ++ r ≡ schema_outline b ++ s → Same (schema_phrase a) (schema_phrase b) r s
schema_fixed (Name t) (Name u) r s h = let k = kept_same (tail_same h) in record { same = ap (λ (t : Token). of_relation (word_of t)) k.same; rest = k.rest }
schema_fixed (Written x f) (Written y g) r s h =
    let k = kept_same (tail_same h) in
    let e : attrs_outline f ++ (left_out phrases.close_paren ∷ r) ≡ attrs_outline g ++ (left_out phrases.close_paren ∷ s) = sym (append_assoc (attrs_outline f) (left_out phrases.close_paren ∷ []) r) ∙ k.rest ∙ append_assoc (attrs_outline g) (left_out phrases.close_paren ∷ []) s in
    let j = attrs_fixed f g (left_out phrases.close_paren ∷ r) (left_out phrases.close_paren ∷ s) e in
    record { same = ap (λ fs. written fs) j.same; rest = tail_same j.rest }
schema_fixed (Name t) (Written y g) r s h = absurd cc
schema_fixed (Written x f) (Name u) r s h = absurd cc

pub type_fixed : (a b : TypeTree) (r s : List Entry) → type_outline a ++ r ≡ type_outline b ++ s → Same (type_phrase a) (type_phrase b) r s
type_fixed (Kind k) (Kind j) r s h = let i = kept_same (tail_same (tail_same h)) in record { same = ap (λ (t : Token). kind_type (kind_word t.kind)) i.same; rest = i.rest }
type_fixed (Delta t) (Delta u) r s h = record { same = refl; rest = (kept_same (tail_same h)).rest }
type_fixed (Rel w f) (Rel v g) r s h = let k = kept_same (tail_same h) in let j = schema_fixed f g r s k.rest in record { same = ap (λ z. rel_type z) j.same; rest = j.rest }
type_fixed (Tuple w f) (Tuple v g) r s h = let k = kept_same (tail_same h) in let j = schema_fixed f g r s k.rest in record { same = ap (λ z. tuple_type z) j.same; rest = j.rest }
type_fixed _ _ r s h = absurd cc

some_args_fixed : (k j : Option ArgTrees) (r s : List Entry) → some_args_out k r ≡ some_args_out j s → Same (some_args k) (some_args j) r s
some_args_fixed None None r s h = record { same = refl; rest = tail_same h }
some_args_fixed (Some a) (Some b) r s h = args_fixed a b r s (tail_same h)
some_args_fixed None (Some b) r s h = absurd cc
some_args_fixed (Some a) None r s h = absurd cc

value_fixed : (w : Token) (k j : Option Expr) (r s : List Entry) → value_out k r ≡ value_out j s → Same (return_act w k) (return_act w j) r s
value_fixed w None None r s h = record { same = refl; rest = tail_same h }
value_fixed w (Some a) (Some b) r s h = let k = expr_fixed a b r s (tail_same h) in record { same = ap (λ p. returning_value w.at p) k.same; rest = k.rest }
value_fixed w None (Some b) r s h = absurd cc
value_fixed w (Some a) None r s h = absurd cc

label_fixed : (w : Token) (k j : Option Token) (r s : List Entry) → text_out k r ≡ text_out j s → Same (committing w.at (label_of k)) (committing w.at (label_of j)) r s
label_fixed w None None r s h = record { same = refl; rest = tail_same h }
label_fixed w (Some t) (Some u) r s h = let i = kept_same (tail_same h) in record { same = ap (λ (q : Token). committing w.at (label_of (Some q))) i.same; rest = i.rest }
label_fixed w None (Some u) r s h = absurd cc
label_fixed w (Some t) None r s h = absurd cc

abbrev acts_from : List Act → Acts
acts_from [] = no_act
acts_from (a ∷ rest) = act a (acts_from rest)

mutual
  unfolding act_of

  pub stmt_fixed : (a b : StmtTree) (r s : List Entry) → stmt_out a r ≡ stmt_out b s → Same (act_of a) (act_of b) r s
  stmt_fixed (Declare t n e) (Declare t' n' e') r s h =
      let k = type_fixed t t' (kept n ∷ left_out phrases.equals ∷ expr_out e (left_out phrases.semicolon ∷ r)) (kept n' ∷ left_out phrases.equals ∷ expr_out e' (left_out phrases.semicolon ∷ s)) (tail_same h) in
      let o = kept_same k.rest in
      let j = expr_fixed e e' (left_out phrases.semicolon ∷ r) (left_out phrases.semicolon ∷ s) (tail_same o.rest) in
      record { same = ap (λ q. declaring q (word_of n) (expr_phrase e)) k.same ∙ ap (λ (q : Token). declaring (type_phrase t') (word_of q) (expr_phrase e)) o.same ∙ ap (λ q. declaring (type_phrase t') (word_of n') q) j.same; rest = tail_same j.rest }
  stmt_fixed (Assign n e) (Assign n' e') r s h =
      let o = kept_same (tail_same h) in
      let j = expr_fixed e e' (left_out phrases.semicolon ∷ r) (left_out phrases.semicolon ∷ s) (tail_same (tail_same o.rest)) in
      record { same = ap (λ (q : Token). assigning (word_of q) (expr_phrase e)) o.same ∙ ap (λ q. assigning (word_of n') q) j.same; rest = tail_same j.rest }
  stmt_fixed (Call n x args) (Call n' x' args') r s h =
      let o = kept_same (tail_same h) in
      let i = kept_same (tail_same o.rest) in
      let j = some_args_fixed args args' (left_out phrases.close_paren ∷ left_out phrases.semicolon ∷ r) (left_out phrases.close_paren ∷ left_out phrases.semicolon ∷ s) i.rest in
      record { same = ap (λ (q : Token). performing (word_of q) (some_args args)) o.same ∙ ap (λ q. performing (word_of n') q) j.same; rest = tail_same (tail_same j.rest) }
  stmt_fixed (If' w x e c shape k shape1 els last) (If' w' x' e' c' shape2 k' shape3 els' last') r s h =
      let o = kept_same (tail_same h) in
      let i = kept_same o.rest in
      let j = expr_fixed e e' (left_out phrases.close_paren ∷ at_node phrases.block 0 ∷ kept c ∷ stmts_out k (at_node phrases.stmts 1 ∷ left_out phrases.close_brace ∷ elses_out els (last_out last r)))
      (left_out phrases.close_paren ∷ at_node phrases.block 0 ∷ kept c' ∷ stmts_out k' (at_node phrases.stmts 1 ∷ left_out phrases.close_brace ∷ elses_out els' (last_out last' s))) i.rest in
      let z = kept_same (tail_same (tail_same j.rest)) in
      let b = stmts_fixed k k' (left_out phrases.close_brace ∷ elses_out els (last_out last r)) (left_out phrases.close_brace ∷ elses_out els' (last_out last' s)) z.rest in
      let d = elses_fixed els els' last last' r s (tail_same b.rest) in
      let f = last_fixed last last' r s d.rest in
      record {
        same = ap (λ (q : Token). choosing (branch q.at (expr_phrase e) (acts_of k) (branches_of els)) (last_acts last)) o.same ∙ ap (λ q. choosing (branch w'.at q (acts_of k) (branches_of els)) (last_acts last)) j.same
            ∙ ap (λ q. choosing (branch w'.at (expr_phrase e') q (branches_of els)) (last_acts last)) b.same ∙ ap (λ q. choosing (branch w'.at (expr_phrase e') (acts_of k') q) (last_acts last)) d.same
            ∙ ap (λ q. choosing (branch w'.at (expr_phrase e') (acts_of k') (branches_of els')) q) f.same;
        rest = f.rest;
      }
  stmt_fixed (While' w x e c shape k) (While' w' x' e' c' shape' k') r s h =
      let o = kept_same (tail_same h) in
      let i = kept_same o.rest in
      let j = expr_fixed e e' (left_out phrases.close_paren ∷ at_node phrases.block 0 ∷ kept c ∷ stmts_out k (at_node phrases.stmts 1 ∷ left_out phrases.close_brace ∷ r))
      (left_out phrases.close_paren ∷ at_node phrases.block 0 ∷ kept c' ∷ stmts_out k' (at_node phrases.stmts 1 ∷ left_out phrases.close_brace ∷ s)) i.rest in
      let z = kept_same (tail_same (tail_same j.rest)) in
      let b = stmts_fixed k k' (left_out phrases.close_brace ∷ r) (left_out phrases.close_brace ∷ s) z.rest in
      record { same = ap (λ (q : Token). looping q.at (expr_phrase e) (acts_of k)) o.same ∙ ap (λ q. looping w'.at q (acts_of k)) j.same ∙ ap (λ q. looping w'.at (expr_phrase e') q) b.same; rest = tail_same b.rest }
  stmt_fixed (Foreach' w x n e c shape k) (Foreach' w' x' n' e' c' shape' k') r s h =
      let o = kept_same (tail_same h) in
      let i = kept_same o.rest in
      let u = kept_same i.rest in
      let j = expr_fixed e e' (left_out phrases.close_paren ∷ at_node phrases.block 0 ∷ kept c ∷ stmts_out k (at_node phrases.stmts 1 ∷ left_out phrases.close_brace ∷ r))
      (left_out phrases.close_paren ∷ at_node phrases.block 0 ∷ kept c' ∷ stmts_out k' (at_node phrases.stmts 1 ∷ left_out phrases.close_brace ∷ s)) (tail_same u.rest) in
      let z = kept_same (tail_same (tail_same j.rest)) in
      let b = stmts_fixed k k' (left_out phrases.close_brace ∷ r) (left_out phrases.close_brace ∷ s) z.rest in
      record {
        same = ap (λ (q : Token). visiting q.at (word_of n) (expr_phrase e) (acts_of k)) o.same ∙ ap (λ (q : Token). visiting w'.at (word_of q) (expr_phrase e) (acts_of k)) u.same
            ∙ ap (λ q. visiting w'.at (word_of n') q (acts_of k)) j.same ∙ ap (λ q. visiting w'.at (word_of n') (expr_phrase e') q) b.same;
        rest = tail_same b.rest;
      }
  stmt_fixed (Print w e) (Print w' e') r s h =
      let o = kept_same (tail_same h) in
      let j = expr_fixed e e' (left_out phrases.semicolon ∷ r) (left_out phrases.semicolon ∷ s) o.rest in
      record { same = ap (λ (q : Token). printing q.at (expr_phrase e)) o.same ∙ ap (λ q. printing w'.at q) j.same; rest = tail_same j.rest }
  stmt_fixed (Apply w e) (Apply w' e') r s h =
      let o = kept_same (tail_same h) in
      let j = expr_fixed e e' (left_out phrases.semicolon ∷ r) (left_out phrases.semicolon ∷ s) o.rest in
      record { same = ap (λ (q : Token). applying q.at (expr_phrase e)) o.same ∙ ap (λ q. applying w'.at q) j.same; rest = tail_same j.rest }
  stmt_fixed (Assert w e) (Assert w' e') r s h =
      let o = kept_same (tail_same h) in
      let j = expr_fixed e e' (left_out phrases.semicolon ∷ r) (left_out phrases.semicolon ∷ s) o.rest in
      record { same = ap (λ (q : Token). asserting q.at (expr_phrase e)) o.same ∙ ap (λ q. asserting w'.at q) j.same; rest = tail_same j.rest }
  stmt_fixed (Commit w k) (Commit w' k') r s h =
      let o = kept_same (tail_same h) in
      let j = label_fixed w' k k' (left_out phrases.semicolon ∷ r) (left_out phrases.semicolon ∷ s) o.rest in
      record { same = ap (λ (q : Token). committing q.at (label_of k)) o.same ∙ j.same; rest = tail_same j.rest }
  stmt_fixed (Rollback w) (Rollback w') r s h = let o = kept_same (tail_same h) in record { same = ap (λ (q : Token). rolling_back q.at) o.same; rest = tail_same o.rest }
  stmt_fixed (Return w e) (Return w' e') r s h =
      let o = kept_same (tail_same h) in
      let j = value_fixed w' e e' (left_out phrases.semicolon ∷ r) (left_out phrases.semicolon ∷ s) o.rest in
      record { same = ap (λ (q : Token). return_act q e) o.same ∙ j.same; rest = tail_same j.rest }
  stmt_fixed (Assign n e) (Call n' x' args') r s h = let i = numbers_same (kept_same (tail_same h)).rest in absurd (omega (arith, i))
  stmt_fixed (Call n x args) (Assign n' e') r s h = let i = numbers_same (kept_same (tail_same h)).rest in absurd (omega (arith, i))
  stmt_fixed _ _ r s h = let i = numbers_same h in absurd (omega (arith, i))

  pub stmts_fixed : {m : _} {m' : _} (k : Row_of-StmtTree m) (j : Row_of-StmtTree m') (r s : List Entry) → stmts_out k (at_node phrases.stmts 1 ∷ r) ≡ stmts_out j (at_node phrases.stmts 1 ∷ s) → Same (acts_of k) (acts_of j) r s
  stmts_fixed end_of-StmtTree end_of-StmtTree r s h = record { same = refl; rest = tail_same h }
  stmts_fixed end_of-StmtTree (more_of-StmtTree b j) r s h = absurd cc
  stmts_fixed (more_of-StmtTree a k) end_of-StmtTree r s h = absurd cc
  stmts_fixed (more_of-StmtTree a k) (more_of-StmtTree b j) r s h =
      let o = stmt_fixed a b (stmts_out k (at_node phrases.stmts 1 ∷ r)) (stmts_out j (at_node phrases.stmts 1 ∷ s)) (tail_same h) in
      let i = stmts_fixed k j r s o.rest in
      record { same = ap (λ q. act q (acts_of k)) o.same ∙ ap (λ q. act (act_of b) q) i.same; rest = i.rest }

  elses_fixed : {m : _} {m' : _} (k : Row_of-ElseIf m) (j : Row_of-ElseIf m') (l d : Held-StmtTree-If-5) (r s : List Entry) → elses_out k (last_out l r) ≡ elses_out j (last_out d s) → Same (branches_of k) (branches_of j) (last_out l r) (last_out d s)
  elses_fixed end_of-ElseIf end_of-ElseIf l d r s h = record { same = refl; rest = h }
  elses_fixed end_of-ElseIf (more_of-ElseIf w' x' e' c' shape' k' j) None' d r s h = absurd cc
  elses_fixed end_of-ElseIf (more_of-ElseIf w' x' e' c' shape' k' j) (Some' c shape k) d r s h = absurd cc
  elses_fixed (more_of-ElseIf w x e c shape b k) end_of-ElseIf l None' r s h = absurd cc
  elses_fixed (more_of-ElseIf w x e c shape b k) end_of-ElseIf l (Some' c' shape' k') r s h = absurd cc
  elses_fixed (more_of-ElseIf w x e c shape b k) (more_of-ElseIf w' x' e' c' shape' b' j) l d r s h =
      let o = kept_same (tail_same (tail_same (tail_same h))) in
      let i = kept_same o.rest in
      let y = expr_fixed e e' (left_out phrases.close_paren ∷ at_node phrases.block 0 ∷ kept c ∷ stmts_out b (at_node phrases.stmts 1 ∷ left_out phrases.close_brace ∷ elses_out k (last_out l r)))
      (left_out phrases.close_paren ∷ at_node phrases.block 0 ∷ kept c' ∷ stmts_out b' (at_node phrases.stmts 1 ∷ left_out phrases.close_brace ∷ elses_out j (last_out d s))) i.rest in
      let z = kept_same (tail_same (tail_same y.rest)) in
      let u = stmts_fixed b b' (left_out phrases.close_brace ∷ elses_out k (last_out l r)) (left_out phrases.close_brace ∷ elses_out j (last_out d s)) z.rest in
      let v = elses_fixed k j l d r s (tail_same u.rest) in
      record {
        same = ap (λ (q : Token). branch q.at (expr_phrase e) (acts_of b) (branches_of k)) o.same ∙ ap (λ q. branch w'.at q (acts_of b) (branches_of k)) y.same
            ∙ ap (λ q. branch w'.at (expr_phrase e') q (branches_of k)) u.same ∙ ap (λ q. branch w'.at (expr_phrase e') (acts_of b') q) v.same;
        rest = v.rest;
      }

  last_fixed : (k j : Held-StmtTree-If-5) (r s : List Entry) → last_out k r ≡ last_out j s → Same (last_acts k) (last_acts j) r s
  last_fixed None' None' r s h = record { same = refl; rest = tail_same h }
  last_fixed None' (Some' c' shape' k') r s h = absurd cc
  last_fixed (Some' c shape k) None' r s h = absurd cc
  last_fixed (Some' c shape k) (Some' c' shape' k') r s h =
      let o = kept_same (tail_same (tail_same (tail_same (tail_same h)))) in
      let i = stmts_fixed k k' (left_out phrases.close_brace ∷ r) (left_out phrases.close_brace ∷ s) o.rest in
      record { same = i.same; rest = tail_same i.rest }

-- ---- declarations

in_acts : (xs : List StmtTree) → acts_in xs ≡ acts_from (map act_of xs)
in_acts [] = refl
in_acts (x ∷ xs) = ap (λ q. act (act_of x) q) (in_acts xs)

stmt_row_fixed : (a b : StmtTree) (r s : List Entry) → stmt_row a ++ r ≡ stmt_row b ++ s → Same (act_of a) (act_of b) r s
stmt_row_fixed a b r s h = stmt_fixed a b r s (sym (stmt_law a r) ∙ tail_same h ∙ stmt_law b s)

block_fixed : (a b : Block) (r s : List Entry) → block_outline a ++ r ≡ block_outline b ++ s → Same (block_acts a) (block_acts b) r s
block_fixed a b r s h =
    let k = kept_same (tail_same h) in
    let e : (flat_map stmt_row a.stmts.items ++ at_node phrases.stmts 1 ∷ []) ++ (left_out phrases.close_brace ∷ r) ≡ (flat_map stmt_row b.stmts.items ++ at_node phrases.stmts 1 ∷ []) ++ (left_out phrases.close_brace ∷ s) =
    sym (append_assoc (flat_map stmt_row a.stmts.items ++ at_node phrases.stmts 1 ∷ []) (left_out phrases.close_brace ∷ []) r) ∙ k.rest ∙ append_assoc (flat_map stmt_row b.stmts.items ++ at_node phrases.stmts 1 ∷ []) (left_out phrases.close_brace ∷ []) s in
    let j = rows_fixed stmt_row act_of (at_node phrases.stmts 1) stmt_row_fixed (λ t r s e. absurd cc) a.stmts.items b.stmts.items (left_out phrases.close_brace ∷ r) (left_out phrases.close_brace ∷ s) e in
    record { same = in_acts a.stmts.items ∙ ap acts_from j.same ∙ sym (in_acts b.stmts.items); rest = tail_same j.rest }

param_fixed : (a b : Param) (r s : List Entry) → param_outline a ++ r ≡ param_outline b ++ s → Same (param_phrase a) (param_phrase b) r s
param_fixed a b r s h =
    let e : type_outline a.type_tree ++ (kept a.name ∷ r) ≡ type_outline b.type_tree ++ (kept b.name ∷ s) = sym (append_assoc (type_outline a.type_tree) (kept a.name ∷ []) r) ∙ tail_same h ∙ append_assoc (type_outline b.type_tree) (kept b.name ∷ []) s in
    let k = type_fixed a.type_tree b.type_tree (kept a.name ∷ r) (kept b.name ∷ s) e in
    let j = kept_same k.rest in
    record { same = ap (λ (t : Type_phrase). let x : Param_phrase = record { type = t; name = word_of a.name } in x) k.same ∙ ap (λ (t : Token). let x : Param_phrase = record { type = type_phrase b.type_tree; name = word_of t } in x) j.same; rest = j.rest }

param_row_fixed : (a b : Param) (r s : List Entry) → param_row a ++ r ≡ param_row b ++ s → Same (param_phrase a) (param_phrase b) r s
param_row_fixed a b r s h = param_fixed a b r s (tail_same (tail_same h))

params_fixed : (a b : Params) (r s : List Entry) → params_outline a ++ r ≡ params_outline b ++ s → Same (params_phrase a) (params_phrase b) r s
params_fixed a b r s h =
    let k = param_fixed a.first b.first ((flat_map param_row a.rest.items ++ at_node phrases.more_params 1 ∷ []) ++ r) ((flat_map param_row b.rest.items ++ at_node phrases.more_params 1 ∷ []) ++ s)
    (sym (regroup (param_outline a.first) (flat_map param_row a.rest.items) r) ∙ tail_same h ∙ regroup (param_outline b.first) (flat_map param_row b.rest.items) s) in
    let j = rows_fixed param_row param_phrase (at_node phrases.more_params 1) param_row_fixed (λ t r s e. absurd cc) a.rest.items b.rest.items r s k.rest in
    record { same = ap (λ (x : Param_phrase). x ∷ map param_phrase a.rest.items) k.same ∙ ap (λ xs. param_phrase b.first ∷ xs) j.same; rest = j.rest }
  where
    regroup : (xs ys : List Entry) (r : List Entry) → ((xs ++ ys) ++ at_node phrases.more_params 1 ∷ []) ++ r ≡ xs ++ ((ys ++ at_node phrases.more_params 1 ∷ []) ++ r)
    regroup xs ys r = simp append_assoc

some_params_fixed : (a b : Option Params) (r s : List Entry) → some_params_outline a ++ r ≡ some_params_outline b ++ s → Same (some_params a) (some_params b) r s
some_params_fixed None None r s h = record { same = refl; rest = tail_same h }
some_params_fixed (Some a) (Some b) r s h = params_fixed a b r s (tail_same h)
some_params_fixed None (Some b) r s h = absurd cc
some_params_fixed (Some a) None r s h = absurd cc

relation_fixed : (a b : Relation) (r s : List Entry) → relation_row a ++ r ≡ relation_row b ++ s → Same (relation_phrase a) (relation_phrase b) r s
relation_fixed a b r s h =
    let o = kept_same (tail_same (tail_same h)) in
    let n = kept_same o.rest in
    let x = kept_same n.rest in
    let j = attrs_fixed a.attrs b.attrs (left_out phrases.close_paren ∷ left_out phrases.semicolon ∷ r) (left_out phrases.close_paren ∷ left_out phrases.semicolon ∷ s) (sym (regroup (attrs_outline a.attrs) r) ∙ x.rest ∙ regroup (attrs_outline b.attrs) s) in
    record {
      same = ap (λ (t : Token). let x : Relation_phrase = record { name = word_of t; attrs = fields_of a.attrs } in x) n.same ∙ ap (λ (fs : List Field). let x : Relation_phrase = record { name = word_of b.name; attrs = fs } in x) j.same;
      rest = tail_same (tail_same j.rest);
    }
  where
    regroup : (xs : List Entry) (r : List Entry) → ((xs ++ left_out phrases.close_paren ∷ []) ++ left_out phrases.semicolon ∷ []) ++ r ≡ xs ++ (left_out phrases.close_paren ∷ left_out phrases.semicolon ∷ r)
    regroup xs r = simp append_assoc

-- a signature's end and the block behind it
regrouped : (xs ys r : List Entry) → ((xs ++ left_out phrases.close_paren ∷ []) ++ ys) ++ r ≡ xs ++ (left_out phrases.close_paren ∷ (ys ++ r))
regrouped xs ys r = simp append_assoc

func_fixed : (a b : Func) (r s : List Entry) → func_row a ++ r ≡ func_row b ++ s → Same (func_phrase a) (func_phrase b) r s
func_fixed a b r s h =
    let o = kept_same (tail_same (tail_same h)) in
    let t = type_fixed a.type_tree b.type_tree (kept a.name ∷ kept a.bracket ∷ (some_params_outline a.params ++ (left_out phrases.close_paren ∷ (block_outline a.block ++ r))))
    (kept b.name ∷ kept b.bracket ∷ (some_params_outline b.params ++ (left_out phrases.close_paren ∷ (block_outline b.block ++ s))))
    (sym (regroup (type_outline a.type_tree) a.name a.bracket (some_params_outline a.params) (block_outline a.block) r) ∙ o.rest ∙ regroup (type_outline b.type_tree) b.name b.bracket (some_params_outline b.params) (block_outline b.block) s) in
    let n = kept_same t.rest in
    let x = kept_same n.rest in
    let p = some_params_fixed a.params b.params (left_out phrases.close_paren ∷ (block_outline a.block ++ r)) (left_out phrases.close_paren ∷ (block_outline b.block ++ s)) x.rest in
    let k = block_fixed a.block b.block r s (tail_same p.rest) in
    let make : Type_phrase → Token → List Param_phrase → Acts → Func_phrase = λ t n ps b. record { type = t; name = word_of n; params = ps; block = b } in
    record {
      same = ap (λ q. make q a.name (some_params a.params) (block_acts a.block)) t.same ∙ ap (λ q. make (type_phrase b.type_tree) q (some_params a.params) (block_acts a.block)) n.same
          ∙ ap (λ q. make (type_phrase b.type_tree) b.name q (block_acts a.block)) p.same ∙ ap (λ q. make (type_phrase b.type_tree) b.name (some_params b.params) q) k.same;
      rest = k.rest;
    }
  where
    regroup : (ts : List Entry) (n x : Token) (ps bs r : List Entry) → ((((((ts ++ kept n ∷ []) ++ kept x ∷ []) ++ ps) ++ left_out phrases.close_paren ∷ []) ++ bs) ++ r) ≡ ts ++ (kept n ∷ kept x ∷ (ps ++ (left_out phrases.close_paren ∷ (bs ++ r))))
    regroup ts n x ps bs r = simp append_assoc

proc_fixed : (a b : Proc) (r s : List Entry) → proc_row a ++ r ≡ proc_row b ++ s → Same (proc_phrase a) (proc_phrase b) r s
proc_fixed a b r s h =
    let o = kept_same (tail_same (tail_same h)) in
    let n = kept_same o.rest in
    let x = kept_same n.rest in
    let p = some_params_fixed a.params b.params (left_out phrases.close_paren ∷ (block_outline a.block ++ r)) (left_out phrases.close_paren ∷ (block_outline b.block ++ s))
    (sym (regrouped (some_params_outline a.params) (block_outline a.block) r) ∙ x.rest ∙ regrouped (some_params_outline b.params) (block_outline b.block) s) in
    let k = block_fixed a.block b.block r s (tail_same p.rest) in
    let make : Token → List Param_phrase → Acts → Proc_phrase = λ n ps b. record { name = word_of n; params = ps; block = b } in
    record {
      same = ap (λ q. make q (some_params a.params) (block_acts a.block)) n.same ∙ ap (λ q. make b.name q (block_acts a.block)) p.same ∙ ap (λ q. make b.name (some_params b.params) q) k.same;
      rest = k.rest;
    }

main_fixed : (a b : Option Main) (r s : List Entry) → last_main_outline a ++ r ≡ last_main_outline b ++ s → Same (main_acts a) (main_acts b) r s
main_fixed None None r s h = record { same = refl; rest = tail_same h }
main_fixed (Some a) (Some b) r s h = block_fixed a.block b.block r s (kept_same (tail_same (tail_same h))).rest
main_fixed None (Some b) r s h = absurd cc
main_fixed (Some a) None r s h = absurd cc

-- two trees of one outline have one script
pub one_script : (a b : Tree) → outline a ≡ outline b → script_of a ≡ script_of b
one_script a b h =
    let fa : List Entry = (flat_map func_row a.funcs.items ++ at_node phrases.funcs 1 ∷ []) ++ ((flat_map proc_row a.procs.items ++ at_node phrases.procs 1 ∷ []) ++ (last_main_outline a.main ++ [])) in
    let fb : List Entry = (flat_map func_row b.funcs.items ++ at_node phrases.funcs 1 ∷ []) ++ ((flat_map proc_row b.procs.items ++ at_node phrases.procs 1 ∷ []) ++ (last_main_outline b.main ++ [])) in
    let pa : List Entry = (flat_map proc_row a.procs.items ++ at_node phrases.procs 1 ∷ []) ++ (last_main_outline a.main ++ []) in
    let pb : List Entry = (flat_map proc_row b.procs.items ++ at_node phrases.procs 1 ∷ []) ++ (last_main_outline b.main ++ []) in
    let rels = rows_fixed relation_row relation_phrase (at_node phrases.relations 1) relation_fixed (λ t r s e. absurd cc) a.relations.items b.relations.items fa fb
    (sym (regroup (flat_map relation_row a.relations.items) (flat_map func_row a.funcs.items) (flat_map proc_row a.procs.items) (last_main_outline a.main)) ∙ tail_same h
    ∙ regroup (flat_map relation_row b.relations.items) (flat_map func_row b.funcs.items) (flat_map proc_row b.procs.items) (last_main_outline b.main)) in
    let funcs = rows_fixed func_row func_phrase (at_node phrases.funcs 1) func_fixed (λ t r s e. absurd cc) a.funcs.items b.funcs.items pa pb rels.rest in
    let procs = rows_fixed proc_row proc_phrase (at_node phrases.procs 1) proc_fixed (λ t r s e. absurd cc) a.procs.items b.procs.items (last_main_outline a.main ++ []) (last_main_outline b.main ++ []) funcs.rest in
    let main = main_fixed a.main b.main [] [] procs.rest in
    let make : List Relation_phrase → List Func_phrase → List Proc_phrase → Acts → Script = λ rs fs ps m. record { relations = rs; funcs = fs; procs = ps; main = m } in
    ap (λ q. make q (map func_phrase a.funcs.items) (map proc_phrase a.procs.items) (main_acts a.main)) rels.same ∙ ap (λ q. make (map relation_phrase b.relations.items) q (map proc_phrase a.procs.items) (main_acts a.main)) funcs.same
    ∙ ap (λ q. make (map relation_phrase b.relations.items) (map func_phrase b.funcs.items) q (main_acts a.main)) procs.same ∙ ap (λ q. make (map relation_phrase b.relations.items) (map func_phrase b.funcs.items) (map proc_phrase b.procs.items) q) main.same
  where
    regroup : (rs fs ps ms : List Entry) → (((((rs ++ at_node phrases.relations 1 ∷ []) ++ fs) ++ at_node phrases.funcs 1 ∷ []) ++ ps) ++ at_node phrases.procs 1 ∷ []) ++ ms ≡
        (rs ++ at_node phrases.relations 1 ∷ []) ++ ((fs ++ at_node phrases.funcs 1 ∷ []) ++ ((ps ++ at_node phrases.procs 1 ∷ []) ++ (ms ++ [])))
    regroup rs fs ps ms = simp (append_assoc, append-nil)
