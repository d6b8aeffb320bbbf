-- The productions of declarations, statements and the whole program make trees of their parts.
use Rattle.std.proofs.Common.{◌≡◌, List, [], ◌∷◌, ◌++◌, Option, Some, None, ◌⊎◌, inl, inr, refl, ap, ◌∙◌, append_assoc, zero-lt-suc}
use Rattle.std.specs.List.{flat_map}
use Rattle.hera_syntax.specs.declared.token.Token.{Token}
use Rattle.hera_syntax.specs.declared.expr.ArgTrees.{ArgTrees}
use Rattle.hera_syntax.specs.declared.expr.Expr.{Expr}
use Rattle.hera_syntax.specs.declared.tree.SchemaTree.TheVariants.{Name, Written}
use Rattle.hera_syntax.specs.declared.tree.TypeTree.TheVariants.{Kind, Delta, Rel, Tuple}
use Rattle.hera_syntax.specs.declared.tree.Block.{Block}
use Rattle.hera_syntax.specs.declared.tree.ElseIf.{ElseIf}
use Rattle.hera_syntax.specs.declared.tree.Relation.{Relation}
use Rattle.hera_syntax.specs.declared.tree.Func.{Func}
use Rattle.hera_syntax.specs.declared.tree.Proc.{Proc}
use Rattle.hera_syntax.specs.declared.tree.Main.{Main}
use Rattle.hera_syntax.specs.declared.tree.StmtTree.{Declare, Assign, Call, Print, Apply, Assert, Commit, Rollback, Return}
use Rattle.hera_syntax.specs.declared.tree.StmtTree.TheVariants as acts
use Rattle.hera_syntax.specs.Grammar.{alternatives}
use Rattle.hera_syntax.specs.Grammar as phrases
use Rattle.hera_syntax.specs.Outline.{Entry, node, hold, skip, expr_outline}
use Rattle.hera_syntax.specs.Programs.{attr_outline, attr_row, block_outline, else_if_row, func_row, last_else, last_main_outline, param_outline, param_row, proc_row, relation_row, stmt_row}
use Rattle.hera_syntax.proofs.Rows.{block_rows, else_ifs_rows, all_three, last_rows}
use Rattle.hera_readings.proofs.Vecs.{vec_of}
use Rattle.hera_readings.proofs.Nodes.{Elses, after_else_outline, elses_outline, named_outline}
use Rattle.hera_readings.proofs.Fits.{Short, fits, shorter, stmt_prints}
use Rattle.hera_readings.proofs.Makes.{Made, Makes, row_more}

-- ---- types and parameters

pub makes_kind : Makes phrases.kind 0 (alternatives phrases.kind)
makes_kind = (λ (t, _) short. (record { word = t }, refl), tt)

pub makes_attr : Makes phrases.attr 0 (alternatives phrases.attr)
makes_attr = (λ (t, (k, _)) short. (record { name = t; kind = k }, refl), tt)

pub makes_attrs : Makes phrases.attrs 0 (alternatives phrases.attrs)
makes_attrs = (
  λ (a, (xs, _)) short.
      let few = fits attr_row (λ x. zero-lt-suc _) (node phrases.attrs 0 ++ attr_outline a) xs (node phrases.more_attrs 1) short in
      (record { first = a; rest = vec_of xs few }, append_assoc (node phrases.attrs 0 ++ attr_outline a) (flat_map attr_row xs) (node phrases.more_attrs 1)),
  tt,
)

pub makes_more_attrs : Makes phrases.more_attrs 0 (alternatives phrases.more_attrs)
makes_more_attrs = (λ (a, (xs, _)) short. (a ∷ xs, row_more attr_row a xs (node phrases.more_attrs 1)), (λ _ short. ([], refl), tt))

pub makes_schema : Makes phrases.schema 0 (alternatives phrases.schema)
makes_schema = (λ (t, _) short. (Name t, refl), (λ (b, (attrs, _)) short. (Written b attrs, refl), tt))

pub makes_type_tree : Makes phrases.type_tree 0 (alternatives phrases.type_tree)
makes_type_tree = (λ (k, _) short. (Kind k, refl), (λ (t, _) short. (Delta t, refl), (λ (w, (s, _)) short. (Rel w s, refl), (λ (w, (s, _)) short. (Tuple w s, refl), tt))))

pub makes_param : Makes phrases.param 0 (alternatives phrases.param)
makes_param = (λ (t, (n, _)) short. (record { type_tree = t; name = n }, refl), tt)

pub makes_params : Makes phrases.params 0 (alternatives phrases.params)
makes_params = (
  λ (p, (xs, _)) short.
      let few = fits param_row (λ x. zero-lt-suc _) (node phrases.params 0 ++ param_outline p) xs (node phrases.more_params 1) short in
      (record { first = p; rest = vec_of xs few }, append_assoc (node phrases.params 0 ++ param_outline p) (flat_map param_row xs) (node phrases.more_params 1)),
  tt,
)

pub makes_more_params : Makes phrases.more_params 0 (alternatives phrases.more_params)
makes_more_params = (λ (p, (xs, _)) short. (p ∷ xs, row_more param_row p xs (node phrases.more_params 1)), (λ _ short. ([], refl), tt))

pub makes_some_params : Makes phrases.some_params 0 (alternatives phrases.some_params)
makes_some_params = (λ (p, _) short. (Some p, refl), (λ _ short. (None, refl), tt))

-- ---- statements

pub makes_block : Makes phrases.block 0 (alternatives phrases.block)
makes_block = (
  λ (b, (xs, _)) short.
      let front : List Entry = node phrases.block 0 ++ hold b in
      let few = fits stmt_row stmt_prints front xs (node phrases.stmts 1) (shorter (front ++ (flat_map stmt_row xs ++ node phrases.stmts 1)) (skip phrases.close_brace) short) in
      (record { bracket = b; stmts = vec_of xs few }, ap (λ r. r ++ skip phrases.close_brace) (append_assoc front (flat_map stmt_row xs) (node phrases.stmts 1))),
  tt,
)

pub makes_stmts : Makes phrases.stmts 0 (alternatives phrases.stmts)
makes_stmts = (λ (s, (xs, _)) short. (s ∷ xs, row_more stmt_row s xs (node phrases.stmts 1)), (λ _ short. ([], refl), tt))

pub makes_some_value : Makes phrases.some_value 0 (alternatives phrases.some_value)
makes_some_value = (λ (e, _) short. (Some e, refl), (λ _ short. (None, refl), tt))

pub makes_some_text : Makes phrases.some_text 0 (alternatives phrases.some_text)
makes_some_text = (λ (t, _) short. (Some t, refl), (λ _ short. (None, refl), tt))

pub makes_named : Makes phrases.named 0 (alternatives phrases.named)
makes_named = (λ (e, _) short. (inl e, refl), (λ (b, (args, _)) short. (inr (b, args), refl), tt))

assign_or_call : (n : Token) (x : Expr ⊎ (Token × Option ArgTrees)) → Made phrases.stmt (node phrases.stmt 1 ++ hold n ++ named_outline x)
assign_or_call n (inl e) = (Assign n e, refl)
assign_or_call n (inr (b, args)) = (Call n b args, refl)

branch : (w b : Token) (e : Expr) (block : Block) (more : Elses)
    → Short (node phrases.stmt 2 ++ hold w ++ hold b ++ expr_outline e ++ skip phrases.close_paren ++ block_outline block ++ elses_outline more)
    → Made phrases.stmt (node phrases.stmt 2 ++ hold w ++ hold b ++ expr_outline e ++ skip phrases.close_paren ++ block_outline block ++ elses_outline more)
branch w b e block (es, last) short =
    let front : List Entry = node phrases.stmt 2 ++ hold w ++ hold b ++ expr_outline e ++ skip phrases.close_paren ++ block_outline block in
    let few = fits else_if_row (λ x. zero-lt-suc _) front es (last_else last) short in (
      acts.If w b e block (vec_of es few) last,
      all_three (λ x y z. node phrases.stmt 2 ++ hold w ++ hold b ++ expr_outline e ++ skip phrases.close_paren
          ++ (node phrases.block 0 ++ hold block.bracket ++ x ++ node phrases.stmts 1 ++ skip phrases.close_brace) ++ y ++ z)
          (block_rows block) (else_ifs_rows (vec_of es few)) (last_rows last)
          ∙ append_assoc front (flat_map else_if_row es) (last_else last),
    )

repeat : (w b : Token) (e : Expr) (block : Block) → Made phrases.stmt (node phrases.stmt 3 ++ hold w ++ hold b ++ expr_outline e ++ skip phrases.close_paren ++ block_outline block)
repeat w b e block = (
  acts.While w b e block,
  ap (λ x. node phrases.stmt 3 ++ hold w ++ hold b ++ expr_outline e ++ skip phrases.close_paren ++ (node phrases.block 0 ++ hold block.bracket ++ x ++ node phrases.stmts 1 ++ skip phrases.close_brace)) (block_rows block),
)

walk : (w b n : Token) (e : Expr) (block : Block)
    → Made phrases.stmt (node phrases.stmt 4 ++ hold w ++ hold b ++ hold n ++ skip phrases.in_word ++ expr_outline e ++ skip phrases.close_paren ++ block_outline block)
walk w b n e block = (
  acts.Foreach w b n e block,
  ap (λ x. node phrases.stmt 4 ++ hold w ++ hold b ++ hold n ++ skip phrases.in_word ++ expr_outline e ++ skip phrases.close_paren
      ++ (node phrases.block 0 ++ hold block.bracket ++ x ++ node phrases.stmts 1 ++ skip phrases.close_brace)) (block_rows block),
)

pub makes_stmt : Makes phrases.stmt 0 (alternatives phrases.stmt)
makes_stmt = (
  λ (t, (n, (e, _))) short. (Declare t n e, refl),
  (
    λ (n, (x, _)) short. assign_or_call n x,
    (
      λ (w, (b, (e, (block, (more, _))))) short. branch w b e block more short,
      (
        λ (w, (b, (e, (block, _)))) short. repeat w b e block,
        (
          λ (w, (b, (n, (e, (block, _))))) short. walk w b n e block,
          (
            λ (w, (e, _)) short. (Print w e, refl),
            (
              λ (w, (e, _)) short. (Apply w e, refl),
              (
                λ (w, (e, _)) short. (Assert w e, refl),
                (
                  λ (w, (label, _)) short. (Commit w label, refl),
                  (
                    λ (w, _) short. (Rollback w, refl),
                    (
                      λ (w, (e, _)) short. (Return w e, refl),
                      tt,
                    ),
                  ),
                ),
              ),
            ),
          ),
        ),
      ),
    ),
  ),
)

else_more : (x : (ElseIf × Elses) ⊎ Block) → Made phrases.else_part (node phrases.else_part 0 ++ skip phrases.else_word ++ after_else_outline x)
else_more (inl (e, (es, last))) = ((e ∷ es, last), append_assoc (else_if_row e) (flat_map else_if_row es) (last_else last))
else_more (inr b) = (([], Some b), refl)

pub makes_else_part : Makes phrases.else_part 0 (alternatives phrases.else_part)
makes_else_part = (λ (x, _) short. else_more x, (λ _ short. (([], None), refl), tt))

pub makes_after_else : Makes phrases.after_else 0 (alternatives phrases.after_else)
makes_after_else = (λ (w, (b, (e, (block, (more, _))))) short. (inl (record { word = w; bracket = b; condition = e; block = block }, more), refl), (λ (block, _) short. (inr block, refl), tt))

-- ---- declarations and the whole

pub makes_relation : Makes phrases.relation 0 (alternatives phrases.relation)
makes_relation = (λ (w, (n, (b, (attrs, _)))) short. (record { word = w; name = n; bracket = b; attrs = attrs }, refl), tt)

pub makes_func : Makes phrases.func 0 (alternatives phrases.func)
makes_func = (λ (w, (t, (n, (b, (ps, (block, _)))))) short. (record { word = w; type_tree = t; name = n; bracket = b; params = ps; block = block }, refl), tt)

pub makes_proc : Makes phrases.proc 0 (alternatives phrases.proc)
makes_proc = (λ (w, (n, (b, (ps, (block, _))))) short. (record { word = w; name = n; bracket = b; params = ps; block = block }, refl), tt)

pub makes_main : Makes phrases.main 0 (alternatives phrases.main)
makes_main = (λ (w, (block, _)) short. (record { word = w; block = block }, refl), tt)

pub makes_relations : Makes phrases.relations 0 (alternatives phrases.relations)
makes_relations = (λ (r, (xs, _)) short. (r ∷ xs, row_more relation_row r xs (node phrases.relations 1)), (λ _ short. ([], refl), tt))

pub makes_funcs : Makes phrases.funcs 0 (alternatives phrases.funcs)
makes_funcs = (λ (f, (xs, _)) short. (f ∷ xs, row_more func_row f xs (node phrases.funcs 1)), (λ _ short. ([], refl), tt))

pub makes_procs : Makes phrases.procs 0 (alternatives phrases.procs)
makes_procs = (λ (p, (xs, _)) short. (p ∷ xs, row_more proc_row p xs (node phrases.procs 1)), (λ _ short. ([], refl), tt))

pub makes_last_main : Makes phrases.last_main 0 (alternatives phrases.last_main)
makes_last_main = (λ (m, _) short. (Some m, refl), (λ _ short. (None, refl), tt))

regroup : (n r a f b p c l : List Entry) → n ++ r ++ a ++ f ++ b ++ p ++ c ++ l ≡ n ++ (r ++ a) ++ (f ++ b) ++ (p ++ c) ++ l
regroup n r a f b p c l =
    ap (λ x. x ++ f ++ b ++ p ++ c ++ l) (append_assoc n r a)
    ∙ (ap (λ x. x ++ p ++ c ++ l) (append_assoc (n ++ (r ++ a)) f b) ∙ ap (λ x. x ++ l) (append_assoc (n ++ (r ++ a) ++ (f ++ b)) p c))

whole : (rs : List Relation) (fs : List Func) (ps : List Proc) (m : Option Main)
    → Short (node phrases.program 0 ++ (flat_map relation_row rs ++ node phrases.relations 1) ++ (flat_map func_row fs ++ node phrases.funcs 1) ++ (flat_map proc_row ps ++ node phrases.procs 1) ++ last_main_outline m)
    → Made phrases.program (node phrases.program 0 ++ (flat_map relation_row rs ++ node phrases.relations 1) ++ (flat_map func_row fs ++ node phrases.funcs 1) ++ (flat_map proc_row ps ++ node phrases.procs 1) ++ last_main_outline m)
whole rs fs ps m short =
    let one : List Entry = node phrases.program 0 ++ (flat_map relation_row rs ++ node phrases.relations 1) in
    let two : List Entry = one ++ (flat_map func_row fs ++ node phrases.funcs 1) in
    let three : List Entry = two ++ (flat_map proc_row ps ++ node phrases.procs 1) in
    let in_three = shorter three (last_main_outline m) short in
    let in_two = shorter two (flat_map proc_row ps ++ node phrases.procs 1) in_three in
    let in_one = shorter one (flat_map func_row fs ++ node phrases.funcs 1) in_two in
    let few_rs = fits relation_row (λ x. zero-lt-suc _) (node phrases.program 0) rs (node phrases.relations 1) in_one in
    let few_fs = fits func_row (λ x. zero-lt-suc _) one fs (node phrases.funcs 1) in_two in
    let few_ps = fits proc_row (λ x. zero-lt-suc _) two ps (node phrases.procs 1) in_three in (
      record { relations = vec_of rs few_rs; funcs = vec_of fs few_fs; procs = vec_of ps few_ps; main = m },
      regroup (node phrases.program 0) (flat_map relation_row rs) (node phrases.relations 1) (flat_map func_row fs) (node phrases.funcs 1) (flat_map proc_row ps) (node phrases.procs 1) (last_main_outline m),
    )

pub makes_program : Makes phrases.program 0 (alternatives phrases.program)
makes_program = (λ (rs, (fs, (ps, (m, _)))) short. whole rs fs ps m short, tt)
