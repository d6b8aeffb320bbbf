-- The phrases of a tree whose tokens have their values are made as the grammar asks: expressions.
use Rattle.std.proofs.Common.{◌≡◌, ◌≢◌, ℕ, ◌≤◌, ◌+◌, List, [], ◌∷◌, ◌++◌, length, refl, sym, subst, arith, true}
use Rattle.std.specs.Prelude.{Option, Some, None, nat_lt, All}
use Rattle.std.specs.List.{list_all}
use Rattle.std.proofs.lemmas.Bool.{le-leb, lt-ltb, and_from}
use Rattle.std.proofs.lemmas.List.Elements.{All-nil, All-head, All-tail}
use Rattle.std.proofs.lemmas.Str.{is_utf8-from_IsUtf8}
use Rattle.hera_meaning.specs.Texts.{IsText, is_text, text_limit}
use Rattle.hera_meaning.specs.Sound.{is_const}
use Rattle.hera_meaning.specs.declared.scalars.Scalar.TheVariants.{Int as int_scalar, Text as text_scalar}
use Rattle.hera_meaning.specs.declared.trees.Const.TheVariants.{Scalar as scalar}
use Rattle.hera_syntax.specs.declared.words.Keyword.TheVariants as keys
use Rattle.hera_syntax.specs.declared.words.Mark.TheVariants as puncts
use Rattle.hera_syntax.specs.declared.token.TokenKind.{TokenKind}
use Rattle.hera_syntax.specs.declared.token.TokenKind.TheVariants.{Ident as ident_token, Int as int_token, Text as text_token, Key as key_token, Punct as punct_token}
use Rattle.hera_syntax.specs.declared.token.Token.{Token}
use Rattle.hera_syntax.specs.declared.expr.ArgTrees.{ArgTrees, ArgTrees', Row_of-Expr, end_of-Expr, more_of-Expr}
use Rattle.hera_syntax.specs.declared.expr.Level.{Level as Chain_level}
use Rattle.hera_syntax.specs.declared.expr.Level.TheVariants as levels
use Rattle.hera_syntax.specs.declared.expr.Expr.{Expr, Expr', Row_of-Tail, end_of-Tail, more_of-Tail}
use Rattle.hera_syntax.specs.declared.expr.OperandTree.{OperandTree, Inner', Prefix'}
use Rattle.hera_syntax.specs.declared.expr.Bindings.{Bindings, Bindings', Row_of-Binding, end_of-Binding, more_of-Binding}
use Rattle.hera_syntax.specs.declared.expr.Atoms.{Atoms, Atoms', Row_of-Atom, end_of-Atom, more_of-Atom}
use Rattle.hera_syntax.specs.declared.expr.LineTrees.{LineTrees, LineTrees', Row_of-LineTree, end_of-LineTree, more_of-LineTree}
use Rattle.hera_syntax.specs.declared.expr.Binding.{Binding'}
use Rattle.hera_syntax.specs.declared.expr.Atom.{Atom, Atom'}
use Rattle.hera_syntax.specs.declared.expr.LineTree.{LineTree, LineTree'}
use Rattle.hera_syntax.specs.declared.expr.Prime.{Prime, Int, Text, True, False, Fail, Name, Call', Paren', Row', Delta', Rows', Walk', Project', Rename', Pair', Group', Measure', Fold', Bulk', Part', Held-Prime-Call-2, Prime-Call-2-None', Prime-Call-2-Some', Held-Prime-Delta-1, Prime-Delta-1-None', Prime-Delta-1-Some', Held-Prime-Rows-4, Prime-Rows-4-None', Prime-Rows-4-Some'}
use Rattle.hera_syntax.specs.Grammar as phrases
use Rattle.hera_syntax.specs.Grammar.{Production}
use Rattle.hera_syntax.specs.Tokens.{HasValue, HaveValues}
use Rattle.hera_syntax.specs.Trees.{printed, Agree, at_end, one_more}
use Rattle.hera_syntax.specs.Outline.{Entry, at_node, kept, left_out, more_of, chain_end, tails_outline, names_outline, renamings_outline, aggs_outline, prefix_start, field_outline}
use Rattle.hera_rules.specs.declared.words.Word.{Word}
use Rattle.hera_rules.specs.declared.words.Joint.{Joint}
use Rattle.hera_rules.specs.Phrases.{Phrase, Phrases, Uses, no_use, uses}
use Rattle.hera_rules.specs.Read.{word_of, int_of, text_of, joint_of, joint_at, pair_of, chain_phrase, prefix_phrase, post_phrase, expr_phrase, expr_uses, operand_phrase, args_phrases, args_rest, bindings_phrases, bindings_rest, bindings_words, binding_words, atoms_phrases, atoms_rest, atom_phrase, lines_phrases, lines_rest, line_phrase, call_args, delta_atoms, rows_lines, prime_phrase}
use Rattle.hera_sound.proofs.Made.{IsJoint, IsPair, Level, whens, ands, ors, chains, level_of, IsMade, AreMade, UsesAreMade, AreOfLevel, IsAtom, AreAtoms, IsLine, AreLines, count_of, nodes, nodes_all, nodes_uses}
use Rattle.hera_sound.proofs.Out.{expr_out, tails_out, operand_out, args_out, args_more, bindings_out, bindings_more, atoms_out, atoms_more, lines_out, lines_more, atom_out, line_out, call_out, delta_out, rows_out, prime_out}

-- ---- marks of a text

-- the tokens kept have their values
abbrev pub GoodMarks : List Entry → Type 0
GoodMarks [] = Unit {0}
GoodMarks (at_node s k ∷ ms) = GoodMarks ms
GoodMarks (left_out t ∷ ms) = GoodMarks ms
GoodMarks (kept t ∷ ms) = HasValue t.kind × GoodMarks ms

abbrev pub tokens_in : List Entry → ℕ
tokens_in [] = 0
tokens_in (at_node s k ∷ ms) = tokens_in ms
tokens_in (left_out t ∷ ms) = 1 + tokens_in ms
tokens_in (kept t ∷ ms) = 1 + tokens_in ms

pub good_marks : (ms : List Entry) (ts : List Token) → Agree (printed ms) ts → HaveValues ts → GoodMarks ms
good_marks [] ts a v = tt
good_marks (at_node s k ∷ ms) ts a v = good_marks ms ts a v
good_marks (left_out t ∷ ms) _ (one_more {ts = us} a more) v = good_marks ms us more v.1
good_marks (kept t ∷ ms) _ (one_more {ts = us} a more) v = (subst (λ (u : Token). HasValue u.kind) (sym a) v.0, good_marks ms us more v.1)

pub many_tokens : (ms : List Entry) (ts : List Token) → Agree (printed ms) ts → tokens_in ms ≡ length ts
many_tokens [] _ at_end = refl
many_tokens (at_node s k ∷ ms) ts a = many_tokens ms ts a
many_tokens (left_out t ∷ ms) _ (one_more {ts = us} a more) = let h = many_tokens ms us more in omega (arith, h)
many_tokens (kept t ∷ ms) _ (one_more {ts = us} a more) = let h = many_tokens ms us more in omega (arith, h)

pub marks_back : (xs r : List Entry) → GoodMarks (xs ++ r) → GoodMarks r
marks_back [] r h = h
marks_back (at_node s k ∷ xs) r h = marks_back xs r h
marks_back (left_out t ∷ xs) r h = marks_back xs r h
marks_back (kept t ∷ xs) r h = marks_back xs r h.1

pub tokens_back : (xs r : List Entry) → tokens_in r ≤ tokens_in (xs ++ r)
tokens_back [] r = omega arith
tokens_back (at_node s k ∷ xs) r = tokens_back xs r
tokens_back (left_out t ∷ xs) r = let h = tokens_back xs r in omega (arith, h)
tokens_back (kept t ∷ xs) r = let h = tokens_back xs r in omega (arith, h)

-- ---- tokens

no_zero : (t : List ℕ) → All (λ b. b ≢ 0) t → list_all (λ b. nat_lt 0 b) t ≡ true
no_zero [] h = refl
no_zero (x ∷ xs) h = rw (lt-ltb 0 x (omega (arith, All-head (λ b. b ≢ 0) x xs h))) (no_zero xs (All-tail (λ b. b ≢ 0) x xs h))

text_tested : (t : List ℕ) → IsText t → is_text t ≡ true
text_tested t h = and_from _ _ (and_from _ _ (le-leb (length t) text_limit h.short) (no_zero t h.nonzero)) (is_utf8-from_IsUtf8 t h.utf8)

int_made : (k : TokenKind) → HasValue k → is_const (scalar (int_scalar (int_of k))) ≡ true
int_made (int_token z) h = h
int_made (ident_token n) h = refl
int_made (text_token t) h = refl
int_made (key_token i) h = refl
int_made (punct_token i) h = refl

empty_text : is_text [] ≡ true
empty_text = text_tested [] (record { utf8 = ([], (refl, refl)); nonzero = All-nil (λ b. b ≢ 0); short = omega arith })

pub text_made : (k : TokenKind) → HasValue k → is_const (scalar (text_scalar (text_of k))) ≡ true
text_made (text_token t) h = text_tested t h
text_made (ident_token n) h = empty_text
text_made (int_token z) h = empty_text
text_made (key_token i) h = empty_text
text_made (punct_token i) h = empty_text

abbrev IsOperator : Joint → Type 0
IsOperator j = IsJoint j × (level_of j ≡ chains)

operator : (k : TokenKind) → IsOperator (joint_of k)
operator (punct_token puncts.OpenParen) = (refl, refl)
operator (punct_token puncts.CloseParen) = (refl, refl)
operator (punct_token puncts.OpenSquare) = (refl, refl)
operator (punct_token puncts.CloseSquare) = (refl, refl)
operator (punct_token puncts.OpenBrace) = (refl, refl)
operator (punct_token puncts.CloseBrace) = (refl, refl)
operator (punct_token puncts.Comma) = (refl, refl)
operator (punct_token puncts.Semicolon) = (refl, refl)
operator (punct_token puncts.Colon) = (refl, refl)
operator (punct_token puncts.Dot) = (refl, refl)
operator (punct_token puncts.Equals) = (refl, refl)
operator (punct_token puncts.EqualEqual) = (refl, refl)
operator (punct_token puncts.NotEqual) = (refl, refl)
operator (punct_token puncts.Less) = (refl, refl)
operator (punct_token puncts.LessEqual) = (refl, refl)
operator (punct_token puncts.Greater) = (refl, refl)
operator (punct_token puncts.GreaterEqual) = (refl, refl)
operator (punct_token puncts.Plus) = (refl, refl)
operator (punct_token puncts.Minus) = (refl, refl)
operator (punct_token puncts.Star) = (refl, refl)
operator (punct_token puncts.Slash) = (refl, refl)
operator (punct_token puncts.Percent) = (refl, refl)
operator (punct_token puncts.Bang) = (refl, refl)
operator (punct_token puncts.And) = (refl, refl)
operator (punct_token puncts.AndAnd) = (refl, refl)
operator (punct_token puncts.OrOr) = (refl, refl)
operator (ident_token n) = (tt, refl)
operator (int_token z) = (tt, refl)
operator (text_token t) = (tt, refl)
operator (key_token i) = (tt, refl)

-- what a chain's level says of its joints
abbrev joints_of : Chain_level → Level
joints_of levels.Whens = whens
joints_of levels.Ors = ors
joints_of levels.Ands = ands
joints_of _ = chains

abbrev IsOperatorAt : Chain_level → Joint → Type 0
IsOperatorAt l j = IsJoint j × (level_of j ≡ joints_of l)

operator_at : (l : Chain_level) (k : TokenKind) → IsOperatorAt l (joint_at l k)
operator_at levels.Whens k = (tt, refl)
operator_at levels.Ors k = (tt, refl)
operator_at levels.Ands k = (tt, refl)
operator_at levels.Comparisons k = operator k
operator_at levels.Sums k = operator k
operator_at levels.Terms k = operator k
operator_at levels.Smashes k = operator k
operator_at levels.Merges k = operator k

pair_made : (k : TokenKind) → IsPair (pair_of k)
pair_made (key_token keys.Union) = refl
pair_made (key_token keys.Minus) = refl
pair_made (key_token keys.Inter) = refl
pair_made _ = tt

-- ---- what is read from marks

pub record ReadPhrase (p : Phrase) (r out : List Entry) : Type 0 where
  pub made : IsMade p
  pub rest : GoodMarks r
  pub few : nodes p + tokens_in r ≤ tokens_in out

pub record ReadAll (ps : Phrases) (r out : List Entry) : Type 0 where
  pub made : AreMade ps
  pub rest : GoodMarks r
  pub few : nodes_all ps + tokens_in r ≤ tokens_in out

pub record ReadUses (l : Level) (us : Uses) (r out : List Entry) : Type 0 where
  pub made : UsesAreMade us
  pub level : AreOfLevel l us
  pub rest : GoodMarks r
  pub few : nodes_uses us + tokens_in r ≤ tokens_in out

pub record ReadRow (ws : List Word) (ps : Phrases) (r out : List Entry) : Type 0 where
  pub made : AreMade ps
  pub many : length ws ≡ count_of ps
  pub rest : GoodMarks r
  pub few : nodes_all ps + tokens_in r ≤ tokens_in out

pub record ReadAtoms (ps : Phrases) (r out : List Entry) : Type 0 where
  pub made : AreMade ps
  pub atoms : AreAtoms ps
  pub rest : GoodMarks r
  pub few : nodes_all ps + tokens_in r ≤ tokens_in out

pub record ReadLines (w : Word) (ps : Phrases) (r out : List Entry) : Type 0 where
  pub made : AreMade ps
  pub lines : AreLines w ps
  pub rest : GoodMarks r
  pub few : nodes_all ps + tokens_in r ≤ tokens_in out

pub record ReadAtom (p : Phrase) (r out : List Entry) : Type 0 where
  pub made : IsMade p
  pub is : IsAtom p
  pub rest : GoodMarks r
  pub few : nodes p + tokens_in r ≤ tokens_in out

pub record ReadLine (w : Word) (p : Phrase) (r out : List Entry) : Type 0 where
  pub made : IsMade p
  pub is : IsLine w p
  pub rest : GoodMarks r
  pub few : nodes p + tokens_in r ≤ tokens_in out

-- a tuple has an attribute
row_some : (e : Bindings) → 1 ≤ length (bindings_words e)
unfolding expr_phrase
row_some (Bindings' (Binding' t f) shape k) = omega arith

chain_made : (l : Level) (p : Phrase) (us : Uses) → IsMade p → UsesAreMade us → AreOfLevel l us → IsMade (chain_phrase p us)
chain_made l p no_use m u k = m
chain_made l p (uses op at q rest) m u k = (m, u, (l, k))

chain_few : (p : Phrase) (us : Uses) → nodes (chain_phrase p us) ≤ nodes p + nodes_uses us
chain_few p no_use = omega arith
chain_few p (uses op at q rest) = omega arith

prefix_made : (op : Option Token) (p : Phrase) → IsMade p → IsMade (prefix_phrase op p)
prefix_made None p m = m
prefix_made (Some t) p m = m

prefix_few : (op : Option Token) (p : Phrase) (r : List Entry) → nodes (prefix_phrase op p) + tokens_in r ≤ nodes p + tokens_in (prefix_start op ++ r)
prefix_few None p r = omega arith
prefix_few (Some t) p r = omega arith

post_made : (p : Phrase) (f : Option Token) → IsMade p → IsMade (post_phrase p f)
post_made p None m = m
post_made p (Some t) m = m

post_few : (p : Phrase) (f : Option Token) (r : List Entry) → nodes (post_phrase p f) + tokens_in r ≤ nodes p + tokens_in (field_outline f ++ r)
post_few p None r = omega arith
post_few p (Some t) r = omega arith

mutual
  unfolding expr_phrase

  pub expr_read : (e : Expr) (r : List Entry) → GoodMarks (expr_out e r) → ReadPhrase (expr_phrase e) r (expr_out e r)
  expr_read (Expr' l f shape k) r g =
      let close : List Entry = chain_end l (tails_outline k) in
      let last : List Entry = close ++ r in
      let a = operand_read f (tails_out (more_of l) k last) g in
      let b = tails_read l (more_of l) k last a.rest in
      let x = a.few in
      let y = b.few in
      let z = chain_few (operand_phrase f) (expr_uses l k) in
      let n = tokens_back close r in
      record { made = chain_made (joints_of l) (operand_phrase f) (expr_uses l k) a.made b.made b.level; rest = marks_back close r b.rest; few = omega (arith, x, y, z, n) }

  tails_read : (l : Chain_level) (s : Production) {m : _} (k : Row_of-Tail m) (r : List Entry) → GoodMarks (tails_out s k r) → ReadUses (joints_of l) (expr_uses l k) r (tails_out s k r)
  tails_read l s end_of-Tail r g = record { made = tt; level = tt; rest = g; few = omega arith }
  tails_read l s (more_of-Tail w p k) r g =
      let a = operand_read p (tails_out s k r) g.1 in
      let b = tails_read l s k r a.rest in
      let x = a.few in
      let y = b.few in
      let o = operator_at l w.kind in
      record { made = (o.0, a.made, b.made); level = (o.1, b.level); rest = b.rest; few = omega (arith, x, y) }

  pub operand_read : (e : OperandTree) (r : List Entry) → GoodMarks (operand_out e r) → ReadPhrase (operand_phrase e) r (operand_out e r)
  operand_read (Inner' p e) r g = expr_read e r g
  operand_read (Prefix' op held f field) r g =
      let a = prime_read f (field_outline field ++ r) (marks_back (prefix_start op) (at_node phrases.post 0 ∷ prime_out f (field_outline field ++ r)) g) in
      let p : Phrase = post_phrase (prime_phrase f) field in
      let v = post_few (prime_phrase f) field r in
      let u = prefix_few op p (at_node phrases.post 0 ∷ prime_out f (field_outline field ++ r)) in
      let x = a.few in
      record { made = prefix_made op p (post_made (prime_phrase f) field a.made); rest = marks_back (field_outline field) r a.rest; few = omega (arith, u, v, x) }

  pub args_read : (e : ArgTrees) (r : List Entry) → GoodMarks (args_out e r) → ReadAll (args_phrases e) r (args_out e r)
  args_read (ArgTrees' f shape k) r g =
      let a = expr_read f (args_more k (at_node phrases.more_args 1 ∷ r)) g in
      let b = args_more_read k (at_node phrases.more_args 1 ∷ r) a.rest in
      let x = a.few in
      let y = b.few in
      record { made = (a.made, b.made); rest = b.rest; few = omega (arith, x, y) }

  args_more_read : {m : _} (k : Row_of-Expr m) (r : List Entry) → GoodMarks (args_more k r) → ReadAll (args_rest k) r (args_more k r)
  args_more_read end_of-Expr r g = record { made = tt; rest = g; few = omega arith }
  args_more_read (more_of-Expr f k) r g =
      let a = expr_read f (args_more k r) g in
      let b = args_more_read k r a.rest in
      let x = a.few in
      let y = b.few in
      record { made = (a.made, b.made); rest = b.rest; few = omega (arith, x, y) }

  atoms_read : (e : Atoms) (r : List Entry) → GoodMarks (atoms_out e r) → ReadAtoms (atoms_phrases e) r (atoms_out e r)
  atoms_read (Atoms' f shape k) r g =
      let a = atom_read f (atoms_more k (at_node phrases.more_atoms 1 ∷ r)) g in
      let b = atoms_more_read k (at_node phrases.more_atoms 1 ∷ r) a.rest in
      let x = a.few in
      let y = b.few in
      record { made = (a.made, b.made); atoms = (a.is, b.atoms); rest = b.rest; few = omega (arith, x, y) }

  atoms_more_read : {m : _} (k : Row_of-Atom m) (r : List Entry) → GoodMarks (atoms_more k r) → ReadAtoms (atoms_rest k) r (atoms_more k r)
  atoms_more_read end_of-Atom r g = record { made = tt; atoms = tt; rest = g; few = omega arith }
  atoms_more_read (more_of-Atom f k) r g =
      let a = atom_read f (atoms_more k r) g in
      let b = atoms_more_read k r a.rest in
      let x = a.few in
      let y = b.few in
      record { made = (a.made, b.made); atoms = (a.is, b.atoms); rest = b.rest; few = omega (arith, x, y) }

  lines_read : (w : Word) (e : LineTrees) (r : List Entry) → GoodMarks (lines_out e r) → ReadLines w (lines_phrases w e) r (lines_out e r)
  lines_read w (LineTrees' f shape k) r g =
      let a = line_read w f (lines_more k (at_node phrases.more_lines 1 ∷ r)) g in
      let b = lines_more_read w k (at_node phrases.more_lines 1 ∷ r) a.rest in
      let x = a.few in
      let y = b.few in
      record { made = (a.made, b.made); lines = (a.is, b.lines); rest = b.rest; few = omega (arith, x, y) }

  lines_more_read : (w : Word) {m : _} (k : Row_of-LineTree m) (r : List Entry) → GoodMarks (lines_more k r) → ReadLines w (lines_rest w k) r (lines_more k r)
  lines_more_read w end_of-LineTree r g = record { made = tt; lines = tt; rest = g; few = omega arith }
  lines_more_read w (more_of-LineTree f k) r g =
      let a = line_read w f (lines_more k r) g in
      let b = lines_more_read w k r a.rest in
      let x = a.few in
      let y = b.few in
      record { made = (a.made, b.made); lines = (a.is, b.lines); rest = b.rest; few = omega (arith, x, y) }

  bindings_read : (e : Bindings) (r : List Entry) → GoodMarks (bindings_out e r) → ReadRow (bindings_words e) (bindings_phrases e) r (bindings_out e r)
  bindings_read (Bindings' (Binding' t f) shape k) r g =
      let a = expr_read f (bindings_more k (at_node phrases.more_bindings 1 ∷ r)) g.1 in
      let b = bindings_more_read k (at_node phrases.more_bindings 1 ∷ r) a.rest in
      let x = a.few in
      let y = b.few in
      let z = b.many in
      record { made = (a.made, b.made); many = omega (arith, z); rest = b.rest; few = omega (arith, x, y) }

  bindings_more_read : {m : _} (k : Row_of-Binding m) (r : List Entry) → GoodMarks (bindings_more k r) → ReadRow (binding_words k) (bindings_rest k) r (bindings_more k r)
  bindings_more_read end_of-Binding r g = record { made = tt; many = refl; rest = g; few = omega arith }
  bindings_more_read (more_of-Binding (Binding' t f) k) r g =
      let a = expr_read f (bindings_more k r) g.1 in
      let b = bindings_more_read k r a.rest in
      let x = a.few in
      let y = b.few in
      let z = b.many in
      record { made = (a.made, b.made); many = omega (arith, z); rest = b.rest; few = omega (arith, x, y) }

  atom_read : (e : Atom) (r : List Entry) → GoodMarks (atom_out e r) → ReadAtom (atom_phrase e) r (atom_out e r)
  atom_read (Atom' w t x f) r g =
      let a = args_read f (left_out phrases.close_paren ∷ r) g.1.1.1 in
      let y = a.few in
      record { made = a.made; is = tt; rest = a.rest; few = omega (arith, y) }

  line_read : (w : Word) (e : LineTree) (r : List Entry) → GoodMarks (line_out e r) → ReadLine w (line_phrase w e) r (line_out e r)
  line_read w (LineTree' x f) r g =
      let a = args_read f (left_out phrases.close_paren ∷ r) g.1 in
      let y = a.few in
      record { made = a.made; is = refl; rest = a.rest; few = omega (arith, y) }

  call_read : (k : Held-Prime-Call-2) (r : List Entry) → GoodMarks (call_out k r) → ReadAll (call_args k) r (call_out k r)
  call_read Prime-Call-2-None' r g = record { made = tt; rest = g; few = omega arith }
  call_read (Prime-Call-2-Some' p f) r g = let a = args_read f r g in record { made = a.made; rest = a.rest; few = a.few }

  delta_read : (k : Held-Prime-Delta-1) (r : List Entry) → GoodMarks (delta_out k r) → ReadAtoms (delta_atoms k) r (delta_out k r)
  delta_read Prime-Delta-1-None' r g = record { made = tt; atoms = tt; rest = g; few = omega arith }
  delta_read (Prime-Delta-1-Some' p f) r g = let a = atoms_read f r g in record { made = a.made; atoms = a.atoms; rest = a.rest; few = a.few }

  rows_read : (w : Word) (k : Held-Prime-Rows-4) (r : List Entry) → GoodMarks (rows_out k r) → ReadLines w (rows_lines w k) r (rows_out k r)
  rows_read w Prime-Rows-4-None' r g = record { made = tt; lines = tt; rest = g; few = omega arith }
  rows_read w (Prime-Rows-4-Some' p f) r g = let a = lines_read w f r g in record { made = a.made; lines = a.lines; rest = a.rest; few = a.few }

  prime_read : (e : Prime) (r : List Entry) → GoodMarks (prime_out e r) → ReadPhrase (prime_phrase e) r (prime_out e r)
  prime_read (Int t) r g =
      record { made = int_made t.kind g.0; rest = g.1; few = omega arith }
  prime_read (Text t) r g =
      record { made = text_made t.kind g.0; rest = g.1; few = omega arith }
  prime_read (True t) r g =
      record { made = refl; rest = g.1; few = omega arith }
  prime_read (False t) r g =
      record { made = refl; rest = g.1; few = omega arith }
  prime_read (Fail t) r g =
      record { made = refl; rest = g.1; few = omega arith }
  prime_read (Name t) r g =
      record { made = tt; rest = g.1; few = omega arith }
  prime_read (Call' n b args) r g =
      let z3 = call_read args (left_out phrases.close_paren ∷ r) g.1.1 in
      let y3 = z3.few in
      record { made = z3.made; rest = z3.rest; few = omega (arith, y3) }
  prime_read (Paren' b p e) r g =
      let z1 = expr_read e (left_out phrases.close_paren ∷ r) g.1 in
      let y1 = z1.few in
      record { made = z1.made; rest = z1.rest; few = omega (arith, y1) }
  prime_read (Row' b p bs) r g =
      let z1 = bindings_read bs (left_out phrases.close_square ∷ r) g.1 in
      let y1 = z1.few in
      let some = row_some bs in
      record { made = (some, z1.many, z1.made); rest = z1.rest; few = omega (arith, y1) }
  prime_read (Delta' b ats) r g =
      let z1 = delta_read ats (left_out phrases.close_brace ∷ r) g.1 in
      let y1 = z1.few in
      record { made = (z1.atoms, z1.made); rest = z1.rest; few = omega (arith, y1) }
  prime_read (Rows' w b n c ls) r g =
      let z5 = rows_read (word_of n) ls (left_out phrases.close_brace ∷ r) g.1.1.1.1 in
      let y5 = z5.few in
      record { made = (z5.lines, z5.made); rest = z5.rest; few = omega (arith, y5) }
  prime_read (Walk' w b n p over q body) r g =
      let z4 = expr_read over (left_out phrases.colon ∷ expr_out body (left_out phrases.close_paren ∷ r)) g.1.1.1 in
      let y4 = z4.few in
      let z6 = expr_read body (left_out phrases.close_paren ∷ r) z4.rest in
      let y6 = z6.few in
      record { made = (z4.made, z6.made); rest = z6.rest; few = omega (arith, y4, y6) }
  prime_read (Project' w b p over ns) r g =
      let z2 = expr_read over (left_out phrases.semicolon ∷ (names_outline ns ++ (left_out phrases.close_paren ∷ r))) g.1.1 in
      let y2 = z2.few in
      let z4 = marks_back (names_outline ns) (left_out phrases.close_paren ∷ r) z2.rest in
      let y4 = tokens_back (names_outline ns) (left_out phrases.close_paren ∷ r) in
      record { made = (omega arith, z2.made); rest = z4; few = omega (arith, y2, y4) }
  prime_read (Rename' w b p over ns) r g =
      let z2 = expr_read over (left_out phrases.semicolon ∷ (renamings_outline ns ++ (left_out phrases.close_paren ∷ r))) g.1.1 in
      let y2 = z2.few in
      let z4 = marks_back (renamings_outline ns) (left_out phrases.close_paren ∷ r) z2.rest in
      let y4 = tokens_back (renamings_outline ns) (left_out phrases.close_paren ∷ r) in
      record { made = z2.made; rest = z4; few = omega (arith, y2, y4) }
  prime_read (Pair' w b p left q right) r g =
      let z2 = expr_read left (left_out phrases.comma ∷ expr_out right (left_out phrases.close_paren ∷ r)) g.1.1 in
      let y2 = z2.few in
      let z4 = expr_read right (left_out phrases.close_paren ∷ r) z2.rest in
      let y4 = z4.few in
      record { made = (pair_made w.kind, z2.made, z4.made); rest = z4.rest; few = omega (arith, y2, y4) }
  prime_read (Group' w b p over ns aa) r g =
      let z2 = expr_read over (left_out phrases.semicolon ∷ left_out phrases.by_word ∷ (names_outline ns ++ (left_out phrases.semicolon ∷ (aggs_outline aa ++ (left_out phrases.close_paren ∷ r))))) g.1.1 in
      let y2 = z2.few in
      let z5 = marks_back (names_outline ns) (left_out phrases.semicolon ∷ (aggs_outline aa ++ (left_out phrases.close_paren ∷ r))) z2.rest in
      let y5 = tokens_back (names_outline ns) (left_out phrases.semicolon ∷ (aggs_outline aa ++ (left_out phrases.close_paren ∷ r))) in
      let z7 = marks_back (aggs_outline aa) (left_out phrases.close_paren ∷ r) z5 in
      let y7 = tokens_back (aggs_outline aa) (left_out phrases.close_paren ∷ r) in
      record { made = (omega arith, z2.made); rest = z7; few = omega (arith, y2, y5, y7) }
  prime_read (Measure' w b p over) r g =
      let z2 = expr_read over (left_out phrases.close_paren ∷ r) g.1.1 in
      let y2 = z2.few in
      record { made = z2.made; rest = z2.rest; few = omega (arith, y2) }
  prime_read (Fold' w b p over n) r g =
      let z2 = expr_read over (left_out phrases.comma ∷ kept n ∷ left_out phrases.close_paren ∷ r) g.1.1 in
      let y2 = z2.few in
      record { made = z2.made; rest = z2.rest.1; few = omega (arith, y2) }
  prime_read (Bulk' w b sign n p over) r g =
      let z5 = expr_read over (left_out phrases.close_paren ∷ r) g.1.1.1.1 in
      let y5 = z5.few in
      record { made = z5.made; rest = z5.rest; few = omega (arith, y5) }
  prime_read (Part' w b n p over) r g =
      let z4 = expr_read over (left_out phrases.close_paren ∷ r) g.1.1.1 in
      let y4 = z4.few in
      record { made = z4.made; rest = z4.rest; few = omega (arith, y4) }
