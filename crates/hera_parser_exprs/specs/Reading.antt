-- How the parser reads tokens from the left, and how far it gets.
use Rattle.std.specs.Prelude.{◌≡◌, ℕ, suc, List, [], ◌∷◌, ◌++◌, Option, Some, None, Bool, true, false, if◌then◌else◌}
use Rattle.hera_syntax.specs.declared.words.Keyword.TheVariants as keys
use Rattle.hera_syntax.specs.declared.words.Mark.TheVariants as puncts
use Rattle.hera_syntax.specs.declared.token.Token.{Token}
use Rattle.hera_syntax.specs.declared.token.Terminal.{Terminal}
use Rattle.hera_syntax.specs.declared.token.Terminal.TheVariants as terminals
use Rattle.hera_syntax.specs.Grammar.{Allows, terminal_of, is_one_of, word, mark, name, paren, brace, comma, dot, kind_words, cmp_ops, prefix_ops, signs, walk_words, pair_words, measure_words, fold_words, part_words, ops, Production, Part, keep, leave, phrase, alternatives, alternative}
use Rattle.hera_syntax.specs.Grammar as phrases
use Rattle.hera_syntax.specs.Outline.{Entry, at_node, kept, left_out}

-- what a type begins with
abbrev pub type_starts : List Terminal
type_starts = kind_words ++ word keys.Delta ∷ word keys.Rel ∷ word keys.Tuple ∷ []

-- what an expression that no operator splits begins with
abbrev pub prime_starts : List Terminal
prime_starts = (terminals.Int ∷ terminals.Text ∷ word keys.True ∷ word keys.False ∷ word keys.Fail ∷ terminals.Name ∷ mark puncts.OpenParen ∷ mark puncts.OpenSquare ∷ mark puncts.OpenBrace ∷ word keys.Rows ∷ [])
    ++ walk_words ++ (word keys.Project ∷ word keys.Rename ∷ []) ++ pair_words ++ (word keys.Group ∷ []) ++ measure_words ++ fold_words ++ (word keys.Bulk ∷ []) ++ part_words

abbrev pub expr_starts : List Terminal
expr_starts = prefix_ops ++ prime_starts

abbrev pub stmt_starts : List Terminal
stmt_starts = type_starts ++ (terminals.Name ∷ word keys.If ∷ word keys.While ∷ word keys.Foreach ∷ word keys.Print ∷ word keys.Apply ∷ word keys.Assert ∷ word keys.Commit ∷ word keys.Rollback ∷ word keys.Return ∷ [])

-- what a phrase of a production begins with
abbrev pub firsts : Production → List Terminal
firsts phrases.program = word keys.Relation ∷ word keys.Func ∷ word keys.Proc ∷ word keys.Main ∷ []
firsts phrases.relations = word keys.Relation ∷ []
firsts phrases.funcs = word keys.Func ∷ []
firsts phrases.procs = word keys.Proc ∷ []
firsts phrases.last_main = word keys.Main ∷ []
firsts phrases.relation = word keys.Relation ∷ []
firsts phrases.attrs = name
firsts phrases.more_attrs = comma ∷ []
firsts phrases.attr = name
firsts phrases.kind = kind_words
firsts phrases.type_tree = type_starts
firsts phrases.schema = terminals.Name ∷ mark puncts.OpenParen ∷ []
firsts phrases.func = word keys.Func ∷ []
firsts phrases.proc = word keys.Proc ∷ []
firsts phrases.some_params = type_starts
firsts phrases.params = type_starts
firsts phrases.more_params = comma ∷ []
firsts phrases.param = type_starts
firsts phrases.main = word keys.Main ∷ []
firsts phrases.block = brace
firsts phrases.stmts = stmt_starts
firsts phrases.stmt = stmt_starts
firsts phrases.named = mark puncts.Equals ∷ mark puncts.OpenParen ∷ []
firsts phrases.else_part = word keys.Else ∷ []
firsts phrases.after_else = word keys.If ∷ mark puncts.OpenBrace ∷ []
firsts phrases.some_value = expr_starts
firsts phrases.some_text = terminals.Text ∷ []
firsts phrases.some_args = expr_starts
firsts phrases.args = expr_starts
firsts phrases.more_args = comma ∷ []
firsts (phrases.level l) = expr_starts
firsts (phrases.more l) = ops l
firsts phrases.cmp = expr_starts
firsts phrases.more_cmp = cmp_ops
firsts phrases.prefix = expr_starts
firsts phrases.post = prime_starts
firsts phrases.field = dot ∷ []
firsts phrases.prime = prime_starts
firsts phrases.call = paren
firsts phrases.bindings = name
firsts phrases.more_bindings = comma ∷ []
firsts phrases.binding = name
firsts phrases.some_atoms = signs
firsts phrases.atoms = signs
firsts phrases.more_atoms = comma ∷ []
firsts phrases.atom = signs
firsts phrases.some_lines = paren
firsts phrases.lines = paren
firsts phrases.more_lines = comma ∷ []
firsts phrases.line = paren
firsts phrases.names = name
firsts phrases.more_names = comma ∷ []
firsts phrases.renamings = name
firsts phrases.more_renamings = comma ∷ []
firsts phrases.renaming = name
firsts phrases.aggs = name
firsts phrases.more_aggs = comma ∷ []
firsts phrases.named_agg = name
firsts phrases.agg = word keys.Count ∷ fold_words

-- whether it may be empty
abbrev pub nullable : Production → Bool
nullable phrases.program = true
nullable phrases.relations = true
nullable phrases.funcs = true
nullable phrases.procs = true
nullable phrases.last_main = true
nullable phrases.relation = false
nullable phrases.attrs = false
nullable phrases.more_attrs = true
nullable phrases.attr = false
nullable phrases.kind = false
nullable phrases.type_tree = false
nullable phrases.schema = false
nullable phrases.func = false
nullable phrases.proc = false
nullable phrases.some_params = true
nullable phrases.params = false
nullable phrases.more_params = true
nullable phrases.param = false
nullable phrases.main = false
nullable phrases.block = false
nullable phrases.stmts = true
nullable phrases.stmt = false
nullable phrases.named = false
nullable phrases.else_part = true
nullable phrases.after_else = false
nullable phrases.some_value = true
nullable phrases.some_text = true
nullable phrases.some_args = true
nullable phrases.args = false
nullable phrases.more_args = true
nullable (phrases.level l) = false
nullable (phrases.more l) = true
nullable phrases.cmp = false
nullable phrases.more_cmp = true
nullable phrases.prefix = false
nullable phrases.post = false
nullable phrases.field = true
nullable phrases.prime = false
nullable phrases.call = true
nullable phrases.bindings = false
nullable phrases.more_bindings = true
nullable phrases.binding = false
nullable phrases.some_atoms = true
nullable phrases.atoms = false
nullable phrases.more_atoms = true
nullable phrases.atom = false
nullable phrases.some_lines = true
nullable phrases.lines = false
nullable phrases.more_lines = true
nullable phrases.line = false
nullable phrases.names = false
nullable phrases.more_names = true
nullable phrases.renamings = false
nullable phrases.more_renamings = true
nullable phrases.renaming = false
nullable phrases.aggs = false
nullable phrases.more_aggs = true
nullable phrases.named_agg = false
nullable phrases.agg = false

-- what some parts begin with
abbrev pub starts : List Part → List Terminal
starts [] = []
starts (keep ts ∷ ps) = ts
starts (leave t ∷ ps) = t ∷ []
starts (phrase s ∷ ps) = firsts s ++ (if nullable s then starts ps else [])

abbrev pub next_terminal : List Token → Option Terminal
next_terminal [] = None
next_terminal (t ∷ ts) = Some (terminal_of t.kind)

-- whether the next terminal is one of these
abbrev pub stands : List Terminal → Option Terminal → Bool
stands ts None = false
stands ts (Some t) = is_one_of ts t

-- the number of the first alternative that begins with the terminal, or of the last one
abbrev pub pick_from : List Part → List (List Part) → Option Terminal → ℕ
pick_from q [] t = 0
pick_from q (r ∷ qs) t = if stands (starts q) t then 0 else suc (pick_from r qs t)

abbrev pub pick : List (List Part) → Option Terminal → ℕ
pick [] t = 0
pick (q ∷ qs) t = pick_from q qs t

-- the alternative that the next terminal tells
abbrev pub choice : Production → Option Terminal → ℕ
choice s t = pick (alternatives s) t

-- how the reading ends: all tokens are read, or these are left, the first of which cannot stand there
pub data End : Type 0 where
  accept : End
  stuck : List Token → End

-- these parts are read from these tokens, which gives an outline so far, up to an end
pub data Runs : List Part → List Token → List Entry → End → Type 0 where
  finished : Runs [] [] [] accept
  left_over : {t : Token} {ts : List Token} → Runs [] (t ∷ ts) [] (stuck (t ∷ ts))
  kept_one : {codes : List Terminal} {ps : List Part} {t : Token} {ts : List Token} {ms : List Entry} {e : End}
      → Allows codes t → Runs ps ts ms e → Runs (keep codes ∷ ps) (t ∷ ts) (kept t ∷ ms) e
  kept_missed : {codes : List Terminal} {ps : List Part} {t : Token} {ts : List Token}
      → is_one_of codes (terminal_of t.kind) ≡ false → Runs (keep codes ∷ ps) (t ∷ ts) [] (stuck (t ∷ ts))
  kept_ended : {codes : List Terminal} {ps : List Part} → Runs (keep codes ∷ ps) [] [] (stuck [])
  left_one : {c : Terminal} {ps : List Part} {t : Token} {ts : List Token} {ms : List Entry} {e : End}
      → Allows (c ∷ []) t → Runs ps ts ms e → Runs (leave c ∷ ps) (t ∷ ts) (left_out c ∷ ms) e
  left_missed : {c : Terminal} {ps : List Part} {t : Token} {ts : List Token}
      → is_one_of (c ∷ []) (terminal_of t.kind) ≡ false → Runs (leave c ∷ ps) (t ∷ ts) [] (stuck (t ∷ ts))
  left_ended : {c : Terminal} {ps : List Part} → Runs (leave c ∷ ps) [] [] (stuck [])
  chosen : {s : Production} {ps : List Part} {ts : List Token} {ms : List Entry} {e : End}
      → (k : ℕ) → choice s (next_terminal ts) ≡ k → Runs (alternative s k ++ ps) ts ms e → Runs (phrase s ∷ ps) ts (at_node s k ∷ ms) e

-- the next of these tokens tells this alternative of the production
pub record Tells (s : Production) (k : ℕ) (tokens : List Token) : Type 0 where
  pub number : choice s (next_terminal tokens) ≡ k

-- the next of these tokens begins none of these alternatives
abbrev pub BeginsNone : List (List Part) → List Token → Type 0
BeginsNone [] tokens = Unit {0}
BeginsNone (q ∷ qs) tokens = (stands (starts q) (next_terminal tokens) ≡ false) × BeginsNone qs tokens

-- Reading ps from old is as reading qs from new, whatever follows, and what lies between has this outline.
pub record Gives (ps : List Part) (old : List Token) (ms : List Entry) (qs : List Part) (new : List Token) : Type 0 where
  pub goes : (rest : List Part) (ns : List Entry) (e : End) → Runs (qs ++ rest) new ns e → Runs (ps ++ rest) old (ms ++ ns) e

-- Reading ps from old, whatever follows, gets as far as new and no further.
pub record Sticks (ps : List Part) (old new : List Token) : Type 0 where
  pub marks : List Entry
  pub sticks : (rest : List Part) → Runs (ps ++ rest) old marks (stuck new)
