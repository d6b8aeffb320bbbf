-- The phrases of a tree whose tokens have their values are made as the grammar asks: statements and scripts.
use Rattle.std.proofs.Common.{◌≡◌, ℕ, ◌≤◌, ◌+◌, length, List, [], ◌∷◌, ◌++◌, refl, ap, ◌∙◌, subst, arith, append_assoc, append-nil}
use Rattle.std.specs.Prelude.{Option, Some, None, map, All}
use Rattle.std.specs.List.{flat_map}
use Rattle.std.proofs.lemmas.List.Elements.{All-cons, All-nil}
use Rattle.hera_meaning.specs.Identifiers.{IsIdentifier}
use Rattle.hera_syntax.specs.declared.token.TokenKind.{TokenKind}
use Rattle.hera_syntax.specs.declared.token.TokenKind.TheVariants.{Ident as ident_token, Int as int_token, Text as text_token, Key as key_token, Punct as punct_token}
use Rattle.hera_syntax.specs.declared.token.Token.{Token}
use Rattle.hera_syntax.specs.declared.expr.Expr.{Expr}
use Rattle.hera_syntax.specs.declared.expr.ArgTrees.{ArgTrees}
use Rattle.hera_syntax.specs.declared.tree.AttrTree.{AttrTree}
use Rattle.hera_syntax.specs.declared.tree.SchemaTree.{SchemaTree}
use Rattle.hera_syntax.specs.declared.tree.SchemaTree.TheVariants.{Name, Written}
use Rattle.hera_syntax.specs.declared.tree.TypeTree.{TypeTree}
use Rattle.hera_syntax.specs.declared.tree.TypeTree.TheVariants.{Kind, Delta, Rel, Tuple}
use Rattle.hera_syntax.specs.declared.tree.Param.{Param}
use Rattle.hera_syntax.specs.declared.tree.Params.{Params}
use Rattle.hera_syntax.specs.declared.tree.Block.{Block}
use Rattle.hera_syntax.specs.declared.tree.StmtTree.{StmtTree, Declare, Assign, Call, If', While', Foreach', Print, Apply, Assert, Commit, Rollback, Return, Row_of-StmtTree, end_of-StmtTree, more_of-StmtTree, Row_of-ElseIf, end_of-ElseIf, more_of-ElseIf, Held-StmtTree-If-5, None', Some'}
use Rattle.hera_syntax.specs.declared.tree.Relation.{Relation}
use Rattle.hera_syntax.specs.declared.tree.Func.{Func}
use Rattle.hera_syntax.specs.declared.tree.Proc.{Proc}
use Rattle.hera_syntax.specs.declared.tree.Main.{Main}
use Rattle.hera_syntax.specs.declared.tree.Tree.{Tree}
use Rattle.hera_syntax.specs.Grammar as phrases
use Rattle.hera_syntax.specs.Tokens.{HasValue, HaveValues, script_limit}
use Rattle.hera_syntax.specs.Grammar.{Allows, Part, keep, leave, phrase, alternative, Production}
use Rattle.hera_syntax.specs.declared.token.Terminal.{Terminal}
use Rattle.hera_syntax.specs.Trees.{IsTextOf, Obeys, keeps, leaves, produces}
use Rattle.hera_syntax.specs.Outline.{Entry, at_node, kept, left_out}
use Rattle.hera_syntax.specs.Programs.{attr_row, type_outline, some_params_outline, stmt_row, block_outline, last_main_outline, relation_row, func_row, proc_row, outline}
use Rattle.hera_rules.specs.declared.words.Field.{Field}
use Rattle.hera_rules.specs.Phrases.{Act, Acts, Branches, Relation_phrase, Func_phrase, Proc_phrase}
use Rattle.hera_rules.specs.Read.{name_of}
use Rattle.hera_rules.specs.ReadActs.{field_of, schema_phrase, type_phrase, some_args, return_act, act_of, acts_of, branches_of, last_acts, acts_in, block_acts, relation_phrase, param_phrase, some_params, func_phrase, proc_phrase, main_acts, script_of}
use Rattle.hera_sound.proofs.Schemas.{field_names}
use Rattle.hera_sound.proofs.Made.{SchemaIsMade, TypeIsMade, ActIsMade, ActsAreMade, BranchesAreMade, act_nodes, acts_nodes, branches_nodes, RelationsAreMade, ParamsAreMade, FuncsAreMade, ProcsAreMade, funcs_nodes, procs_nodes, ScriptIsMade}
use Rattle.hera_sound.proofs.Out.{expr_out}
use Rattle.hera_sound.proofs.Out_acts.{some_args_out, value_out, stmt_out, stmts_out, elses_out, last_out, stmt_law}
use Rattle.hera_sound.proofs.Read_made.{GoodMarks, tokens_in, good_marks, many_tokens, marks_back, tokens_back, ReadAll, text_made, expr_read, args_read}

pub record ReadAct (a : Act) (r out : List Entry) : Type 0 where
  pub made : ActIsMade a
  pub rest : GoodMarks r
  pub few : act_nodes a + tokens_in r ≤ tokens_in out

pub record ReadActs (bs : Acts) (r out : List Entry) : Type 0 where
  pub made : ActsAreMade bs
  pub rest : GoodMarks r
  pub few : acts_nodes bs + tokens_in r ≤ tokens_in out

pub record ReadBranches (bs : Branches) (r out : List Entry) : Type 0 where
  pub made : BranchesAreMade bs
  pub rest : GoodMarks r
  pub few : branches_nodes bs + tokens_in r ≤ tokens_in out

-- ---- types

schema_made : (s : SchemaTree) → SchemaIsMade (schema_phrase s)
schema_made (Name t) = tt
schema_made (Written x f) = omega arith

pub type_made : (t : TypeTree) → TypeIsMade (type_phrase t)
type_made (Kind k) = tt
type_made (Delta t) = tt
type_made (Rel w s) = schema_made s
type_made (Tuple w s) = schema_made s

-- ---- statements

some_args_read : (k : Option ArgTrees) (r : List Entry) → GoodMarks (some_args_out k r) → ReadAll (some_args k) r (some_args_out k r)
some_args_read None r g = record { made = tt; rest = g; few = omega arith }
some_args_read (Some a) r g = let k = args_read a r g in record { made = k.made; rest = k.rest; few = k.few }

value_read : (w : Token) (k : Option Expr) (r : List Entry) → GoodMarks (value_out k r) → ReadAct (return_act w k) r (kept w ∷ value_out k r)
value_read w None r g = record { made = tt; rest = g; few = omega arith }
value_read w (Some e) r g = let k = expr_read e r g in let y = k.few in record { made = k.made; rest = k.rest; few = omega (arith, y) }

mutual
  unfolding act_of

  pub stmt_read : (s : StmtTree) (r : List Entry) → GoodMarks (stmt_out s r) → ReadAct (act_of s) r (stmt_out s r)
  stmt_read (Declare t n e) r g =
      let after : List Entry = kept n ∷ left_out phrases.equals ∷ expr_out e (left_out phrases.semicolon ∷ r) in
      let h = marks_back (type_outline t) after g in
      let k = expr_read e (left_out phrases.semicolon ∷ r) h.1 in
      let y = k.few in
      let z = tokens_back (type_outline t) after in
      record { made = (type_made t, k.made); rest = k.rest; few = omega (arith, y, z) }
  stmt_read (Assign n e) r g = let k = expr_read e (left_out phrases.semicolon ∷ r) g.1 in let y = k.few in record { made = k.made; rest = k.rest; few = omega (arith, y) }
  stmt_read (Call n x args) r g = let k = some_args_read args (left_out phrases.close_paren ∷ left_out phrases.semicolon ∷ r) g.1.1 in let y = k.few in record { made = k.made; rest = k.rest; few = omega (arith, y) }
  stmt_read (If' w x e c shape b shape1 els last) r g =
      let k = expr_read e (left_out phrases.close_paren ∷ at_node phrases.block 0 ∷ kept c ∷ stmts_out b (at_node phrases.stmts 1 ∷ left_out phrases.close_brace ∷ elses_out els (last_out last r))) g.1.1 in
      let j = stmts_read b (at_node phrases.stmts 1 ∷ left_out phrases.close_brace ∷ elses_out els (last_out last r)) k.rest.1 in
      let i = elses_read els (last_out last r) j.rest in
      let h = last_read last r i.rest in
      let y = k.few in
      let z = j.few in
      let u = i.few in
      let v = h.few in
      record { made = ((k.made, j.made, i.made), h.made); rest = h.rest; few = omega (arith, y, z, u, v) }
  stmt_read (While' w x e c shape b) r g =
      let k = expr_read e (left_out phrases.close_paren ∷ at_node phrases.block 0 ∷ kept c ∷ stmts_out b (at_node phrases.stmts 1 ∷ left_out phrases.close_brace ∷ r)) g.1.1 in
      let j = stmts_read b (at_node phrases.stmts 1 ∷ left_out phrases.close_brace ∷ r) k.rest.1 in
      let y = k.few in
      let z = j.few in
      record { made = (k.made, j.made); rest = j.rest; few = omega (arith, y, z) }
  stmt_read (Foreach' w x n e c shape b) r g =
      let k = expr_read e (left_out phrases.close_paren ∷ at_node phrases.block 0 ∷ kept c ∷ stmts_out b (at_node phrases.stmts 1 ∷ left_out phrases.close_brace ∷ r)) g.1.1.1 in
      let j = stmts_read b (at_node phrases.stmts 1 ∷ left_out phrases.close_brace ∷ r) k.rest.1 in
      let y = k.few in
      let z = j.few in
      record { made = (k.made, j.made); rest = j.rest; few = omega (arith, y, z) }
  stmt_read (Print w e) r g = let k = expr_read e (left_out phrases.semicolon ∷ r) g.1 in let y = k.few in record { made = k.made; rest = k.rest; few = omega (arith, y) }
  stmt_read (Apply w e) r g = let k = expr_read e (left_out phrases.semicolon ∷ r) g.1 in let y = k.few in record { made = k.made; rest = k.rest; few = omega (arith, y) }
  stmt_read (Assert w e) r g = let k = expr_read e (left_out phrases.semicolon ∷ r) g.1 in let y = k.few in record { made = k.made; rest = k.rest; few = omega (arith, y) }
  stmt_read (Commit w None) r g = record { made = refl; rest = g.1; few = omega arith }
  stmt_read (Commit w (Some t)) r g = record { made = text_made t.kind g.1.0; rest = g.1.1; few = omega arith }
  stmt_read (Rollback w) r g = record { made = tt; rest = g.1; few = omega arith }
  stmt_read (Return w e) r g = let k = value_read w e (left_out phrases.semicolon ∷ r) g.1 in let y = k.few in record { made = k.made; rest = k.rest; few = omega (arith, y) }

  pub stmts_read : {m : _} (k : Row_of-StmtTree m) (r : List Entry) → GoodMarks (stmts_out k r) → ReadActs (acts_of k) r (stmts_out k r)
  stmts_read end_of-StmtTree r g = record { made = tt; rest = g; few = omega arith }
  stmts_read (more_of-StmtTree s k) r g =
      let a = stmt_read s (stmts_out k r) g in
      let b = stmts_read k r a.rest in
      let x = a.few in
      let y = b.few in
      record { made = (a.made, b.made); rest = b.rest; few = omega (arith, x, y) }

  elses_read : {m : _} (k : Row_of-ElseIf m) (r : List Entry) → GoodMarks (elses_out k r) → ReadBranches (branches_of k) r (elses_out k r)
  elses_read end_of-ElseIf r g = record { made = tt; rest = g; few = omega arith }
  elses_read (more_of-ElseIf w x e c shape b k) r g =
      let a = expr_read e (left_out phrases.close_paren ∷ at_node phrases.block 0 ∷ kept c ∷ stmts_out b (at_node phrases.stmts 1 ∷ left_out phrases.close_brace ∷ elses_out k r)) g.1.1 in
      let j = stmts_read b (at_node phrases.stmts 1 ∷ left_out phrases.close_brace ∷ elses_out k r) a.rest.1 in
      let i = elses_read k r j.rest in
      let y = a.few in
      let z = j.few in
      let u = i.few in
      record { made = (a.made, j.made, i.made); rest = i.rest; few = omega (arith, y, z, u) }

  last_read : (k : Held-StmtTree-If-5) (r : List Entry) → GoodMarks (last_out k r) → ReadActs (last_acts k) r (last_out k r)
  last_read None' r g = record { made = tt; rest = g; few = omega arith }
  last_read (Some' c shape b) r g =
      let j = stmts_read b (at_node phrases.stmts 1 ∷ left_out phrases.close_brace ∷ r) g.1 in
      let z = j.few in
      record { made = j.made; rest = j.rest; few = omega (arith, z) }

-- ---- blocks

rows_read : (xs : List StmtTree) (r : List Entry) → GoodMarks (flat_map stmt_row xs ++ r) → ReadActs (acts_in xs) r (flat_map stmt_row xs ++ r)
rows_read [] r g = record { made = tt; rest = g; few = omega arith }
rows_read (s ∷ xs) r g =
    let rest : List Entry = flat_map stmt_row xs ++ r in
    let e : (stmt_row s ++ flat_map stmt_row xs) ++ r ≡ at_node phrases.stmts 0 ∷ stmt_out s rest = append_assoc (stmt_row s) (flat_map stmt_row xs) r ∙ ap (λ ms. at_node phrases.stmts 0 ∷ ms) (stmt_law s rest) in
    let a = stmt_read s rest (subst (λ (ms : List Entry). GoodMarks ms) e g) in
    let b = rows_read xs r a.rest in
    let x = a.few in
    let y = b.few in
    let z = ap tokens_in e in
    record { made = (a.made, b.made); rest = b.rest; few = omega (arith, x, y, z) }

block_read : (b : Block) (r : List Entry) → GoodMarks (block_outline b ++ r) → ReadActs (block_acts b) r (block_outline b ++ r)
block_read b r g =
    let last : List Entry = at_node phrases.stmts 1 ∷ left_out phrases.close_brace ∷ r in
    let e : block_outline b ++ r ≡ at_node phrases.block 0 ∷ kept b.bracket ∷ (flat_map stmt_row b.stmts.items ++ last) = simp append_assoc in
    let g' : GoodMarks (at_node phrases.block 0 ∷ kept b.bracket ∷ (flat_map stmt_row b.stmts.items ++ last)) = subst (λ (ms : List Entry). GoodMarks ms) e g in
    let a = rows_read b.stmts.items last g'.1 in
    let x = a.few in
    let z = ap tokens_in e in
    record { made = a.made; rest = a.rest; few = omega (arith, x, z) }

-- ---- declarations

params_made : (ps : List Param) → ParamsAreMade (map param_phrase ps)
params_made [] = tt
params_made (p ∷ ps) = (type_made p.type_tree, params_made ps)

some_params_made : (k : Option Params) → ParamsAreMade (some_params k)
some_params_made None = tt
some_params_made (Some ps) = (type_made ps.first.type_tree, params_made ps.rest.items)

pub record ReadFuncs (fs : List Func_phrase) (r out : List Entry) : Type 0 where
  pub made : FuncsAreMade fs
  pub rest : GoodMarks r
  pub few : funcs_nodes fs + tokens_in r ≤ tokens_in out

pub record ReadProcs (ps : List Proc_phrase) (r out : List Entry) : Type 0 where
  pub made : ProcsAreMade ps
  pub rest : GoodMarks r
  pub few : procs_nodes ps + tokens_in r ≤ tokens_in out

func_parts : (ts : List Entry) (n x : Token) (ps bs fs r : List Entry) → (((((((ts ++ kept n ∷ []) ++ kept x ∷ []) ++ ps) ++ left_out phrases.close_paren ∷ []) ++ bs) ++ fs) ++ r) ≡ (ts ++ kept n ∷ kept x ∷ (ps ++ left_out phrases.close_paren ∷ [])) ++ (bs ++ (fs ++ r))
func_parts ts n x ps bs fs r = simp append_assoc

proc_parts : (ps bs fs r : List Entry) → ((((ps ++ left_out phrases.close_paren ∷ []) ++ bs) ++ fs) ++ r) ≡ (ps ++ left_out phrases.close_paren ∷ []) ++ (bs ++ (fs ++ r))
proc_parts ps bs fs r = simp append_assoc

funcs_read : (fs : List Func) (r : List Entry) → GoodMarks (flat_map func_row fs ++ r) → ReadFuncs (map func_phrase fs) r (flat_map func_row fs ++ r)
funcs_read [] r g = record { made = tt; rest = g; few = omega arith }
funcs_read (f ∷ fs) r g =
    let rest : List Entry = flat_map func_row fs ++ r in
    let head : List Entry = type_outline f.type_tree ++ kept f.name ∷ kept f.bracket ∷ (some_params_outline f.params ++ left_out phrases.close_paren ∷ []) in
    let e : (func_row f ++ flat_map func_row fs) ++ r ≡ at_node phrases.funcs 0 ∷ at_node phrases.func 0 ∷ kept f.word ∷ (head ++ (block_outline f.block ++ rest)) =
    ap (λ ms. at_node phrases.funcs 0 ∷ at_node phrases.func 0 ∷ kept f.word ∷ ms) (func_parts (type_outline f.type_tree) f.name f.bracket (some_params_outline f.params) (block_outline f.block) (flat_map func_row fs) r) in
    let g' : GoodMarks (at_node phrases.funcs 0 ∷ at_node phrases.func 0 ∷ kept f.word ∷ (head ++ (block_outline f.block ++ rest))) = subst (λ (ms : List Entry). GoodMarks ms) e g in
    let a = block_read f.block rest (marks_back head (block_outline f.block ++ rest) g'.1) in
    let b = funcs_read fs r a.rest in
    let x = a.few in
    let y = b.few in
    let u = tokens_back head (block_outline f.block ++ rest) in
    let z = ap tokens_in e in
    record { made = ((type_made f.type_tree, some_params_made f.params, a.made), b.made); rest = b.rest; few = omega (arith, x, y, u, z) }

procs_read : (ps : List Proc) (r : List Entry) → GoodMarks (flat_map proc_row ps ++ r) → ReadProcs (map proc_phrase ps) r (flat_map proc_row ps ++ r)
procs_read [] r g = record { made = tt; rest = g; few = omega arith }
procs_read (p ∷ ps) r g =
    let rest : List Entry = flat_map proc_row ps ++ r in
    let head : List Entry = kept p.name ∷ kept p.bracket ∷ (some_params_outline p.params ++ left_out phrases.close_paren ∷ []) in
    let e : (proc_row p ++ flat_map proc_row ps) ++ r ≡ at_node phrases.procs 0 ∷ at_node phrases.proc 0 ∷ kept p.word ∷ (head ++ (block_outline p.block ++ rest)) =
    ap (λ ms. at_node phrases.procs 0 ∷ at_node phrases.proc 0 ∷ kept p.word ∷ kept p.name ∷ kept p.bracket ∷ ms) (proc_parts (some_params_outline p.params) (block_outline p.block) (flat_map proc_row ps) r) in
    let g' : GoodMarks (at_node phrases.procs 0 ∷ at_node phrases.proc 0 ∷ kept p.word ∷ (head ++ (block_outline p.block ++ rest))) = subst (λ (ms : List Entry). GoodMarks ms) e g in
    let a = block_read p.block rest (marks_back head (block_outline p.block ++ rest) g'.1) in
    let b = procs_read ps r a.rest in
    let x = a.few in
    let y = b.few in
    let u = tokens_back head (block_outline p.block ++ rest) in
    let z = ap tokens_in e in
    record { made = ((some_params_made p.params, a.made), b.made); rest = b.rest; few = omega (arith, x, y, u, z) }

main_read : (m : Option Main) (r : List Entry) → GoodMarks (last_main_outline m ++ r) → ReadActs (main_acts m) r (last_main_outline m ++ r)
main_read None r g = record { made = tt; rest = g; few = omega arith }
main_read (Some m) r g = let a = block_read m.block r g.1 in let x = a.few in record { made = a.made; rest = a.rest; few = omega (arith, x) }

-- ---- relations: their names are identifiers, since the grammar asks it

-- what stands behind a mark obeys the parts that are left
behind_kept : {ts : List Terminal} {ps : List Part} {t : Token} {ms : List Entry} → Obeys (keep ts ∷ ps) (kept t ∷ ms) → Allows ts t × Obeys ps ms
behind_kept (keeps a o) = (a, o)

behind_left : {c : Terminal} {ps : List Part} {d : Terminal} {ms : List Entry} → Obeys (leave c ∷ ps) (left_out d ∷ ms) → Obeys ps ms
behind_left (leaves o) = o

behind_node : {s : Production} {ps : List Part} {t : Production} {k : ℕ} {ms : List Entry} → Obeys (phrase s ∷ ps) (at_node t k ∷ ms) → Obeys (alternative s k ++ ps) ms
behind_node (produces l o) = o

name_is : (k : TokenKind) (at : ℕ) → HasValue k → Allows phrases.name (record { kind = k; at = at }) → IsIdentifier (name_of k)
name_is (ident_token n) at h a = h
name_is (int_token z) at h a = absurd cc
name_is (text_token t) at h a = absurd cc
name_is (key_token k) at h a = absurd cc
name_is (punct_token m) at h a = absurd cc

identifier : (t : Token) → HasValue t.kind → Allows phrases.name t → IsIdentifier (name_of t.kind)
identifier t h a = name_is t.kind t.at h a

pub record ReadNames (fs : List Field) (ps : List Part) (r : List Entry) : Type 0 where
  pub names : All IsIdentifier (field_names fs)
  pub rest : GoodMarks r
  pub obeys : Obeys ps r

attrs_rows : (xs : List AttrTree) (ps : List Part) (r : List Entry) → GoodMarks (flat_map attr_row xs ++ at_node phrases.more_attrs 1 ∷ r) → Obeys (phrase phrases.more_attrs ∷ ps) (flat_map attr_row xs ++ at_node phrases.more_attrs 1 ∷ r) →
    ReadNames (map field_of xs) ps r
attrs_rows [] ps r g o = record { names = All-nil IsIdentifier; rest = g; obeys = behind_node o }
attrs_rows (x ∷ xs) ps r g o =
    let rest : List Entry = flat_map attr_row xs ++ at_node phrases.more_attrs 1 ∷ r in
    let e : (attr_row x ++ flat_map attr_row xs) ++ at_node phrases.more_attrs 1 ∷ r ≡ at_node phrases.more_attrs 0 ∷ left_out phrases.comma ∷ at_node phrases.attr 0 ∷ kept x.name ∷ at_node phrases.kind 0 ∷ kept x.kind.word ∷ rest = refl in
    let n = behind_kept (behind_node (behind_left (behind_node o))) in
    let k = behind_kept (behind_node n.1) in
    let h = attrs_rows xs ps r g.1.1 k.1 in
    record { names = All-cons IsIdentifier (name_of x.name.kind) (field_names (map field_of xs)) (identifier x.name g.0 n.0) h.names; rest = h.rest; obeys = h.obeys }

pub record ReadRelations (rs : List Relation_phrase) (r : List Entry) : Type 0 where
  pub made : RelationsAreMade rs
  pub rest : GoodMarks r

relations_read : (rels : List Relation) (ps : List Part) (r : List Entry) → GoodMarks (flat_map relation_row rels ++ r) → Obeys (phrase phrases.relations ∷ ps) (flat_map relation_row rels ++ r) → ReadRelations (map relation_phrase rels) r
relations_read [] ps r g o = record { made = tt; rest = g }
relations_read (x ∷ rels) ps r g o =
    let rest : List Entry = flat_map relation_row rels ++ r in
    let a = x.attrs in
    let behind : List Entry = left_out phrases.close_paren ∷ left_out phrases.semicolon ∷ rest in
    let e : (relation_row x ++ flat_map relation_row rels) ++ r
    ≡ at_node phrases.relations 0 ∷ at_node phrases.relation 0 ∷ kept x.word ∷ kept x.name ∷ kept x.bracket ∷ at_node phrases.attrs 0 ∷ at_node phrases.attr 0 ∷ kept a.first.name ∷ at_node phrases.kind 0 ∷ kept a.first.kind.word
    ∷ (flat_map attr_row a.rest.items ++ at_node phrases.more_attrs 1 ∷ behind) = simp append_assoc in
    let marks : List Entry = at_node phrases.relations 0 ∷ at_node phrases.relation 0 ∷ kept x.word ∷ kept x.name ∷ kept x.bracket ∷ at_node phrases.attrs 0 ∷ at_node phrases.attr 0 ∷ kept a.first.name ∷ at_node phrases.kind 0 ∷ kept a.first.kind.word
    ∷ (flat_map attr_row a.rest.items ++ at_node phrases.more_attrs 1 ∷ behind) in
    let g' : GoodMarks marks = subst (λ (ms : List Entry). GoodMarks ms) e g in
    let o' : Obeys (phrase phrases.relations ∷ ps) marks = subst (λ (ms : List Entry). Obeys (phrase phrases.relations ∷ ps) ms) e o in
    let w = behind_kept (behind_node (behind_node o')) in
    let n = behind_kept w.1 in
    let b = behind_kept n.1 in
    let f = behind_kept (behind_node (behind_node b.1)) in
    let k = behind_kept (behind_node f.1) in
    let h = attrs_rows a.rest.items (leave phrases.close_paren ∷ leave phrases.semicolon ∷ phrase phrases.relations ∷ ps) behind g'.1.1.1.1.1 k.1 in
    let j = relations_read rels ps r h.rest (behind_left (behind_left h.obeys)) in
    record {
      made = (
        record {
          some = omega arith;
          name = identifier x.name g'.1.0 n.0;
          attrs = All-cons IsIdentifier (name_of a.first.name.kind) (field_names (map field_of a.rest.items)) (identifier a.first.name g'.1.1.1.0 f.0) h.names;
        },
        j.made,
      );
      rest = j.rest;
    }

-- the script of a text is made as the grammar asks
pub script_made : (tree : Tree) (tokens : List Token) → IsTextOf tree tokens → length tokens ≤ script_limit → HaveValues tokens → ScriptIsMade (script_of tree)
script_made tree tokens t few values =
    let fs : List Entry = flat_map func_row tree.funcs.items in
    let ps : List Entry = flat_map proc_row tree.procs.items in
    let ms : List Entry = last_main_outline tree.main in
    let e : outline tree ≡ at_node phrases.program 0 ∷ (flat_map relation_row tree.relations.items ++ (at_node phrases.relations 1 ∷ (fs ++ (at_node phrases.funcs 1 ∷ (ps ++ (at_node phrases.procs 1 ∷ (ms ++ []))))))) = simp (append_assoc, append-nil) in
    let g : GoodMarks (outline tree) = good_marks (outline tree) tokens t.printed values in
    let g' : GoodMarks (flat_map relation_row tree.relations.items ++ (at_node phrases.relations 1 ∷ (fs ++ (at_node phrases.funcs 1 ∷ (ps ++ (at_node phrases.procs 1 ∷ (ms ++ []))))))) = subst (λ (ms : List Entry). GoodMarks ms) e g in
    let o : Obeys (phrase phrases.program ∷ []) (at_node phrases.program 0 ∷ (flat_map relation_row tree.relations.items ++ (at_node phrases.relations 1 ∷ (fs ++ (at_node phrases.funcs 1 ∷ (ps ++ (at_node phrases.procs 1 ∷ (ms ++ [])))))))) =
    subst (λ (ms : List Entry). Obeys (phrase phrases.program ∷ []) ms) e t.levels in
    let rels = relations_read tree.relations.items (phrase phrases.funcs ∷ phrase phrases.procs ∷ phrase phrases.last_main ∷ []) (at_node phrases.relations 1 ∷ (fs ++ (at_node phrases.funcs 1 ∷ (ps ++ (at_node phrases.procs 1 ∷ (ms ++ [])))))) g' (behind_node o) in
    let funcs = funcs_read tree.funcs.items (at_node phrases.funcs 1 ∷ (ps ++ (at_node phrases.procs 1 ∷ (ms ++ [])))) rels.rest in
    let procs = procs_read tree.procs.items (at_node phrases.procs 1 ∷ (ms ++ [])) funcs.rest in
    let main = main_read tree.main [] procs.rest in
    let a = ap tokens_in e in
    let b = many_tokens (outline tree) tokens t.printed in
    let c = tokens_back (flat_map relation_row tree.relations.items) (at_node phrases.relations 1 ∷ (fs ++ (at_node phrases.funcs 1 ∷ (ps ++ (at_node phrases.procs 1 ∷ (ms ++ [])))))) in
    let x = funcs.few in
    let y = procs.few in
    let z = main.few in
    record { relations = rels.made; funcs = funcs.made; procs = procs.made; main = main.made; few = omega (arith, a, b, c, x, y, z, few) }
