-- The productions of expressions make trees of their parts.
use Rattle.std.proofs.Common.{◌≡◌, List, [], ◌∷◌, ◌++◌, Option, Some, None, refl, ◌∙◌, append_assoc, arith, zero-lt-suc}
use Rattle.std.specs.List.{flat_map}
use Rattle.hera_syntax.specs.declared.token.Token.{Token}
use Rattle.hera_syntax.specs.declared.expr.Expr.{Expr}
use Rattle.hera_syntax.specs.declared.expr.Level.{Level}
use Rattle.hera_syntax.specs.declared.expr.Level.TheVariants as levels
use Rattle.hera_syntax.specs.declared.expr.OperandTree.{OperandTree, Inner', Prefix'}
use Rattle.hera_syntax.specs.declared.expr.Tail.{Tail}
use Rattle.hera_syntax.specs.declared.expr.ArgTrees.{ArgTrees}
use Rattle.hera_syntax.specs.declared.expr.Binding.{Binding'}
use Rattle.hera_syntax.specs.declared.expr.Atom.{Atom'}
use Rattle.hera_syntax.specs.declared.expr.LineTree.{LineTree'}
use Rattle.hera_syntax.specs.declared.expr.Atoms.{Atoms}
use Rattle.hera_syntax.specs.declared.expr.LineTrees.{LineTrees}
use Rattle.hera_syntax.specs.declared.expr.AggTree.TheVariants.{Count, Of}
use Rattle.hera_syntax.specs.declared.expr.Prime.{Int, Text, True, False, Fail, Name, Call', Paren', Row', Delta', Rows', Walk', Project', Rename', Pair', Group', Measure', Fold', Bulk', Part', Prime-Call-2-None', Prime-Call-2-Some', Prime-Delta-1-None', Prime-Delta-1-Some', Prime-Rows-4-None', Prime-Rows-4-Some'}
use Rattle.hera_syntax.specs.Grammar.{Part, alternatives}
use Rattle.hera_syntax.specs.Grammar as phrases
use Rattle.hera_syntax.specs.Outline.{node, hold, skip, agg_row, args_row, atoms_row, bindings_row, atom_outline, binding_outline, expr_outline, line_outline, lines_row, more_of, named_agg_outline, renaming_outline, some_atoms_outline, some_lines_outline, tail_row, name_row, operand_outline, production_of, renaming_row}
use Rattle.hera_readings.proofs.Vecs.{box, vec_of}
use Rattle.hera_readings.proofs.Nodes.{Node, call_outline, level_row, more_cmp_outline}
use Rattle.hera_readings.proofs.Fits.{Short, fits}
use Rattle.hera_readings.proofs.Chains.{expr_of, chain_of, comparison_of, args_of, args_are, bindings_of, bindings_are, atoms_of, atoms_are, lines_of, lines_are}
use Rattle.hera_readings.proofs.Makes.{Made, Makes, row_more}

-- ---- names, renamings and aggregates

pub makes_names : Makes phrases.names 0 (alternatives phrases.names)
makes_names = (
  λ (t, (xs, _)) short.
      let few = fits name_row (λ x. zero-lt-suc _) (node phrases.names 0 ++ hold t) xs (node phrases.more_names 1) short in
      (record { first = t; rest = vec_of xs few }, append_assoc (node phrases.names 0 ++ hold t) (flat_map name_row xs) (node phrases.more_names 1)),
  tt,
)

pub makes_more_names : Makes phrases.more_names 0 (alternatives phrases.more_names)
makes_more_names = (λ (t, (xs, _)) short. (t ∷ xs, row_more name_row t xs (node phrases.more_names 1)), (λ _ short. ([], refl), tt))

pub makes_renamings : Makes phrases.renamings 0 (alternatives phrases.renamings)
makes_renamings = (
  λ (r, (xs, _)) short.
      let few = fits renaming_row (λ x. zero-lt-suc _) (node phrases.renamings 0 ++ renaming_outline r) xs (node phrases.more_renamings 1) short in
      (record { first = r; rest = vec_of xs few }, append_assoc (node phrases.renamings 0 ++ renaming_outline r) (flat_map renaming_row xs) (node phrases.more_renamings 1)),
  tt,
)

pub makes_more_renamings : Makes phrases.more_renamings 0 (alternatives phrases.more_renamings)
makes_more_renamings = (λ (r, (xs, _)) short. (r ∷ xs, row_more renaming_row r xs (node phrases.more_renamings 1)), (λ _ short. ([], refl), tt))

pub makes_renaming : Makes phrases.renaming 0 (alternatives phrases.renaming)
makes_renaming = (λ (t, (u, _)) short. (record { new = t; old = u }, refl), tt)

pub makes_aggs : Makes phrases.aggs 0 (alternatives phrases.aggs)
makes_aggs = (
  λ (a, (xs, _)) short.
      let few = fits agg_row (λ x. zero-lt-suc _) (node phrases.aggs 0 ++ named_agg_outline a) xs (node phrases.more_aggs 1) short in
      (record { first = a; rest = vec_of xs few }, append_assoc (node phrases.aggs 0 ++ named_agg_outline a) (flat_map agg_row xs) (node phrases.more_aggs 1)),
  tt,
)

pub makes_more_aggs : Makes phrases.more_aggs 0 (alternatives phrases.more_aggs)
makes_more_aggs = (λ (a, (xs, _)) short. (a ∷ xs, row_more agg_row a xs (node phrases.more_aggs 1)), (λ _ short. ([], refl), tt))

pub makes_named_agg : Makes phrases.named_agg 0 (alternatives phrases.named_agg)
makes_named_agg = (λ (t, (a, _)) short. (record { name = t; agg = a }, refl), tt)

pub makes_agg : Makes phrases.agg 0 (alternatives phrases.agg)
makes_agg = (λ (t, _) short. (Count t, refl), (λ (w, (b, (n, _))) short. (Of w b n, refl), tt))

-- ---- lists within expressions

pub makes_some_args : Makes phrases.some_args 0 (alternatives phrases.some_args)
makes_some_args = (λ (a, _) short. (Some a, refl), (λ _ short. (None, refl), tt))

pub makes_args : Makes phrases.args 0 (alternatives phrases.args)
makes_args = (
  λ (first, (xs, _)) short.
      let few = fits args_row (λ x. zero-lt-suc _) (node phrases.args 0 ++ expr_outline first) xs (node phrases.more_args 1) short in
      (args_of first (vec_of xs few), args_are first (vec_of xs few) ∙ append_assoc (node phrases.args 0 ++ expr_outline first) (flat_map args_row xs) (node phrases.more_args 1)),
  tt,
)

pub makes_more_args : Makes phrases.more_args 0 (alternatives phrases.more_args)
makes_more_args = (λ (e, (xs, _)) short. (e ∷ xs, row_more args_row e xs (node phrases.more_args 1)), (λ _ short. ([], refl), tt))

pub makes_bindings : Makes phrases.bindings 0 (alternatives phrases.bindings)
makes_bindings = (
  λ (first, (xs, _)) short.
      let few = fits bindings_row (λ x. zero-lt-suc _) (node phrases.bindings 0 ++ binding_outline first) xs (node phrases.more_bindings 1) short in
      (bindings_of first (vec_of xs few), bindings_are first (vec_of xs few) ∙ append_assoc (node phrases.bindings 0 ++ binding_outline first) (flat_map bindings_row xs) (node phrases.more_bindings 1)),
  tt,
)

pub makes_more_bindings : Makes phrases.more_bindings 0 (alternatives phrases.more_bindings)
makes_more_bindings = (λ (e, (xs, _)) short. (e ∷ xs, row_more bindings_row e xs (node phrases.more_bindings 1)), (λ _ short. ([], refl), tt))

pub makes_binding : Makes phrases.binding 0 (alternatives phrases.binding)
makes_binding = (λ (t, (e, _)) short. (Binding' t e, refl), tt)

pub makes_some_atoms : Makes phrases.some_atoms 0 (alternatives phrases.some_atoms)
makes_some_atoms = (λ (a, _) short. (Some a, refl), (λ _ short. (None, refl), tt))

pub makes_atoms : Makes phrases.atoms 0 (alternatives phrases.atoms)
makes_atoms = (
  λ (first, (xs, _)) short.
      let few = fits atoms_row (λ x. zero-lt-suc _) (node phrases.atoms 0 ++ atom_outline first) xs (node phrases.more_atoms 1) short in
      (atoms_of first (vec_of xs few), atoms_are first (vec_of xs few) ∙ append_assoc (node phrases.atoms 0 ++ atom_outline first) (flat_map atoms_row xs) (node phrases.more_atoms 1)),
  tt,
)

pub makes_more_atoms : Makes phrases.more_atoms 0 (alternatives phrases.more_atoms)
makes_more_atoms = (λ (e, (xs, _)) short. (e ∷ xs, row_more atoms_row e xs (node phrases.more_atoms 1)), (λ _ short. ([], refl), tt))

pub makes_atom : Makes phrases.atom 0 (alternatives phrases.atom)
makes_atom = (λ (sign, (name, (b, (args, _)))) short. (Atom' sign name b args, refl), tt)

pub makes_some_lines : Makes phrases.some_lines 0 (alternatives phrases.some_lines)
makes_some_lines = (λ (a, _) short. (Some a, refl), (λ _ short. (None, refl), tt))

pub makes_lines : Makes phrases.lines 0 (alternatives phrases.lines)
makes_lines = (
  λ (first, (xs, _)) short.
      let few = fits lines_row (λ x. zero-lt-suc _) (node phrases.lines 0 ++ line_outline first) xs (node phrases.more_lines 1) short in
      (lines_of first (vec_of xs few), lines_are first (vec_of xs few) ∙ append_assoc (node phrases.lines 0 ++ line_outline first) (flat_map lines_row xs) (node phrases.more_lines 1)),
  tt,
)

pub makes_more_lines : Makes phrases.more_lines 0 (alternatives phrases.more_lines)
makes_more_lines = (λ (e, (xs, _)) short. (e ∷ xs, row_more lines_row e xs (node phrases.more_lines 1)), (λ _ short. ([], refl), tt))

pub makes_line : Makes phrases.line 0 (alternatives phrases.line)
makes_line = (λ (b, (args, _)) short. (LineTree' b args, refl), tt)

-- ---- what no operator splits

name_or_call : (n : Token) (c : Option (Token × Option ArgTrees)) → Made phrases.prime (node phrases.prime 5 ++ hold n ++ call_outline c)
name_or_call n None = (Name n, refl)
name_or_call n (Some (b, None)) = (Call' n b Prime-Call-2-None', refl)
name_or_call n (Some (b, Some args)) = (Call' n b (Prime-Call-2-Some' box args), refl)

delta : (b : Token) (o : Option Atoms) → Made phrases.prime (node phrases.prime 8 ++ hold b ++ some_atoms_outline o ++ skip phrases.close_brace)
delta b None = (Delta' b Prime-Delta-1-None', refl)
delta b (Some atoms) = (Delta' b (Prime-Delta-1-Some' box atoms), refl)

rows : (w b n c : Token) (o : Option LineTrees) → Made phrases.prime (node phrases.prime 9 ++ hold w ++ hold b ++ hold n ++ skip phrases.close_paren ++ hold c ++ some_lines_outline o ++ skip phrases.close_brace)
rows w b n c None = (Rows' w b n c Prime-Rows-4-None', refl)
rows w b n c (Some lines) = (Rows' w b n c (Prime-Rows-4-Some' box lines), refl)

pub makes_call : Makes phrases.call 0 (alternatives phrases.call)
makes_call = (λ (b, (args, _)) short. (Some (b, args), refl), (λ _ short. (None, refl), tt))

pub makes_prime : Makes phrases.prime 0 (alternatives phrases.prime)
makes_prime = (
  λ (t, _) short. (Int t, refl),
  (
    λ (t, _) short. (Text t, refl),
    (
      λ (t, _) short. (True t, refl),
      (
        λ (t, _) short. (False t, refl),
        (
          λ (t, _) short. (Fail t, refl),
          (
            λ (n, (c, _)) short. name_or_call n c,
            (
              λ (b, (e, _)) short. (Paren' b box e, refl),
              (
                λ (b, (bindings, _)) short. (Row' b box bindings, refl),
                (
                  λ (b, (o, _)) short. delta b o,
                  (
                    λ (w, (b, (n, (c, (o, _))))) short. rows w b n c o,
                    (
                      λ (w, (b, (n, (over, (body, _))))) short. (Walk' w b n box over box body, refl),
                      (
                        λ (w, (b, (e, (names, _)))) short. (Project' w b box e names, refl),
                        (
                          λ (w, (b, (e, (renamings, _)))) short. (Rename' w b box e renamings, refl),
                          (
                            λ (w, (b, (e, (f, _)))) short. (Pair' w b box e box f, refl),
                            (
                              λ (w, (b, (e, (names, (aggs, _))))) short. (Group' w b box e names aggs, refl),
                              (
                                λ (w, (b, (e, _))) short. (Measure' w b box e, refl),
                                (
                                  λ (w, (b, (e, (n, _)))) short. (Fold' w b box e n, refl),
                                  (
                                    λ (w, (b, (sign, (n, (e, _))))) short. (Bulk' w b sign n box e, refl),
                                    (
                                      λ (w, (b, (n, (e, _)))) short. (Part' w b n box e, refl),
                                      tt,
                                    ),
                                  ),
                                ),
                              ),
                            ),
                          ),
                        ),
                      ),
                    ),
                  ),
                ),
              ),
            ),
          ),
        ),
      ),
    ),
  ),
)

pub makes_field : Makes phrases.field 0 (alternatives phrases.field)
makes_field = (λ (t, _) short. (Some t, refl), (λ _ short. (None, refl), tt))

pub makes_post : Makes phrases.post 0 (alternatives phrases.post)
makes_post = (λ (p, (f, _)) short. ((p, f), refl), tt)

pub makes_prefix : Makes phrases.prefix 0 (alternatives phrases.prefix)
makes_prefix = (λ (t, (p, _)) short. ((Some t, p), refl), (λ (p, _) short. ((None, p), refl), tt))

-- ---- operators

-- the operand of a prefix's value
abbrev operand_of_prefix : Node phrases.prefix → OperandTree
operand_of_prefix (op, (p, field)) = Prefix' op box p field

chained : (level : Level) (first : OperandTree) (ts : List Tail) → ¬ (level ≡ levels.Comparisons)
    → Short (node (production_of level) 0 ++ operand_outline first ++ (flat_map (tail_row level) ts ++ node (more_of level) 1))
    → (e : Expr) × (expr_outline e ≡ node (production_of level) 0 ++ operand_outline first ++ (flat_map (tail_row level) ts ++ node (more_of level) 1))
chained level first ts other short =
    let few = fits (tail_row level) (λ x. zero-lt-suc _) (node (production_of level) 0 ++ operand_outline first) ts (node (more_of level) 1) short in
    (expr_of level first (vec_of ts few), chain_of level first (vec_of ts few) other ∙ append_assoc (node (production_of level) 0 ++ operand_outline first) (flat_map (tail_row level) ts) (node (more_of level) 1))

pub makes_level : (l : phrases.Level) → Makes (phrases.level l) 0 (alternatives (phrases.level l))
makes_level phrases.whens = (λ (e, (ts, _)) short. chained levels.Whens (Inner' box e) ts (λ h. cc) short, tt)
makes_level phrases.ors = (λ (e, (ts, _)) short. chained levels.Ors (Inner' box e) ts (λ h. cc) short, tt)
makes_level phrases.ands = (λ (e, (ts, _)) short. chained levels.Ands (Inner' box e) ts (λ h. cc) short, tt)
makes_level phrases.sums = (λ (e, (ts, _)) short. chained levels.Sums (Inner' box e) ts (λ h. cc) short, tt)
makes_level phrases.terms = (λ (e, (ts, _)) short. chained levels.Terms (Inner' box e) ts (λ h. cc) short, tt)
makes_level phrases.smashes = (λ (e, (ts, _)) short. chained levels.Smashes (Inner' box e) ts (λ h. cc) short, tt)
makes_level phrases.merges = (λ (p, (ts, _)) short. chained levels.Merges (operand_of_prefix p) ts (λ h. cc) short, tt)

one_more : (l : phrases.Level) (op : Token) (operand : OperandTree) (ts : List Tail)
    → Made (phrases.more l) (node (phrases.more l) 0 ++ hold op ++ operand_outline operand ++ (flat_map (level_row l) ts ++ node (phrases.more l) 1))
one_more l op operand ts = let t : Tail = record { op = op; operand = operand } in (t ∷ ts, row_more (level_row l) t ts (node (phrases.more l) 1))

pub makes_more : (l : phrases.Level) → Makes (phrases.more l) 0 (alternatives (phrases.more l))
makes_more phrases.whens = (λ (t, (e, (ts, _))) short. one_more phrases.whens t (Inner' box e) ts, (λ _ short. ([], refl), tt))
makes_more phrases.ors = (λ (t, (e, (ts, _))) short. one_more phrases.ors t (Inner' box e) ts, (λ _ short. ([], refl), tt))
makes_more phrases.ands = (λ (t, (e, (ts, _))) short. one_more phrases.ands t (Inner' box e) ts, (λ _ short. ([], refl), tt))
makes_more phrases.sums = (λ (t, (e, (ts, _))) short. one_more phrases.sums t (Inner' box e) ts, (λ _ short. ([], refl), tt))
makes_more phrases.terms = (λ (t, (e, (ts, _))) short. one_more phrases.terms t (Inner' box e) ts, (λ _ short. ([], refl), tt))
makes_more phrases.smashes = (λ (t, (e, (ts, _))) short. one_more phrases.smashes t (Inner' box e) ts, (λ _ short. ([], refl), tt))
makes_more phrases.merges = (λ (t, (p, (ts, _))) short. one_more phrases.merges t (operand_of_prefix p) ts, (λ _ short. ([], refl), tt))

compared : (e : Expr) (o : Option Tail) → Made phrases.cmp (node phrases.cmp 0 ++ expr_outline e ++ more_cmp_outline o)
compared e None = (expr_of levels.Comparisons (Inner' box e) (vec_of [] (omega arith)), comparison_of (Inner' box e) (vec_of [] (omega arith)) (omega arith))
compared e (Some t) = (expr_of levels.Comparisons (Inner' box e) (vec_of (t ∷ []) (omega arith)), comparison_of (Inner' box e) (vec_of (t ∷ []) (omega arith)) (omega arith))

pub makes_cmp : Makes phrases.cmp 0 (alternatives phrases.cmp)
makes_cmp = (λ (e, (o, _)) short. compared e o, tt)

pub makes_more_cmp : Makes phrases.more_cmp 0 (alternatives phrases.more_cmp)
makes_more_cmp = (λ (t, (e, _)) short. (Some (record { op = t; operand = Inner' box e }), refl), (λ _ short. (None, refl), tt))
