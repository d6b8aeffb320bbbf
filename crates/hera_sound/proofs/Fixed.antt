-- Trees of one outline have one phrase: expressions.
use Rattle.std.proofs.Common.{◌≡◌, ℕ, ◌+◌, ◌<◌, subst, List, [], ◌∷◌, ◌++◌, refl, ap, ◌∙◌, sym, arith, append_assoc}
use Rattle.std.specs.Prelude.{Option, Some, None, map}
use Rattle.std.specs.List.{flat_map}
use Rattle.hera_syntax.specs.declared.token.Token.{Token}
use Rattle.hera_syntax.specs.declared.expr.Names.{Names}
use Rattle.hera_syntax.specs.declared.expr.Renaming.{Renaming}
use Rattle.hera_syntax.specs.declared.expr.Renamings.{Renamings}
use Rattle.hera_syntax.specs.declared.expr.AggTree.{AggTree}
use Rattle.hera_syntax.specs.declared.expr.AggTree.TheVariants.{Count, Of}
use Rattle.hera_syntax.specs.declared.expr.NamedAgg.{NamedAgg}
use Rattle.hera_syntax.specs.declared.expr.NamedAggs.{NamedAggs}
use Rattle.hera_syntax.specs.declared.expr.ArgTrees.{ArgTrees, ArgTrees', Row_of-Expr, end_of-Expr, more_of-Expr}
use Rattle.hera_syntax.specs.declared.expr.Level.{Level}
use Rattle.hera_syntax.specs.declared.expr.Level.TheVariants as levels
use Rattle.hera_syntax.specs.declared.expr.Expr.{Expr, Expr', Row_of-Tail, end_of-Tail, more_of-Tail}
use Rattle.hera_syntax.specs.declared.expr.OperandTree.{OperandTree, Inner', Prefix'}
use Rattle.hera_syntax.specs.declared.expr.Bindings.{Bindings, Bindings', Row_of-Binding, end_of-Binding, more_of-Binding}
use Rattle.hera_syntax.specs.declared.expr.Atoms.{Atoms, Atoms', Row_of-Atom, end_of-Atom, more_of-Atom}
use Rattle.hera_syntax.specs.declared.expr.LineTrees.{LineTrees, LineTrees', Row_of-LineTree, end_of-LineTree, more_of-LineTree}
use Rattle.hera_syntax.specs.declared.expr.Binding.{Binding'}
use Rattle.hera_syntax.specs.declared.expr.Atom.{Atom, Atom'}
use Rattle.hera_syntax.specs.declared.expr.LineTree.{LineTree, LineTree'}
use Rattle.hera_syntax.specs.declared.expr.Prime.{Prime, Int, Text, True, False, Fail, Name, Call', Paren', Row', Delta', Rows', Walk', Project', Rename', Pair', Group', Measure', Fold', Bulk', Part', Held-Prime-Call-2, Prime-Call-2-None', Prime-Call-2-Some', Held-Prime-Delta-1, Prime-Delta-1-None', Prime-Delta-1-Some', Held-Prime-Rows-4, Prime-Rows-4-None', Prime-Rows-4-Some'}
use Rattle.hera_syntax.specs.Grammar as phrases
use Rattle.hera_syntax.specs.Grammar.{Production}
use Rattle.hera_syntax.specs.Outline.{Entry, at_node, kept, left_out, production_of, more_of, alternative_of, chain_end, tails_outline, name_row, names_outline, renaming_outline, renaming_row, renamings_outline, agg_outline, named_agg_outline, agg_row, aggs_outline, prefix_start, field_outline}
use Rattle.hera_rules.specs.declared.words.Word.{Word}
use Rattle.hera_rules.specs.declared.words.Renamed.{Renamed}
use Rattle.hera_rules.specs.declared.words.Measured.{Measured}
use Rattle.hera_rules.specs.declared.words.Measured.TheVariants.{Of as folded}
use Rattle.hera_rules.specs.declared.words.Aggregate.{Aggregate}
use Rattle.hera_meaning.specs.declared.scalars.Scalar.TheVariants.{Int as int_scalar, Text as text_scalar}
use Rattle.hera_meaning.specs.declared.trees.Const.TheVariants.{Scalar as scalar}
use Rattle.hera_rules.specs.Phrases.{literal, named, calling, row, atom, atoms, line, lines, walking, projecting, renaming, pairing, grouping, testing, folding, bulk, part, Phrases, phrase, Uses, uses}
use Rattle.hera_rules.specs.Read.{word_of, int_of, text_of, joint_at, sign_of, part_of, walk_of, pair_of, test_of, fold_of, words_of, renamed_of, renamed_all, measured_of, aggregate_of, aggregates_of, chain_phrase, prefix_phrase, post_phrase, expr_phrase, expr_uses, operand_phrase, args_phrases, args_rest, bindings_phrases, bindings_rest, bindings_words, binding_words, atoms_phrases, atoms_rest, atom_phrase, lines_phrases, lines_rest, line_phrase, call_args, delta_atoms, rows_lines, prime_phrase}
use Rattle.hera_sound.proofs.Out.{expr_out, tails_out, operand_out, args_out, args_more, bindings_out, bindings_more, atoms_out, atoms_more, lines_out, lines_more, atom_out, line_out, call_out, delta_out, rows_out, prime_out}

-- two readings from one list of marks: what was read is one, and what is left is one
pub record Same {A : Type 0} (a b : A) (r s : List Entry) : Type 0 where
  pub same : a ≡ b
  pub rest : r ≡ s

pub record SameRow (a b : List Word) (p q : Phrases) (r s : List Entry) : Type 0 where
  pub words : a ≡ b
  pub values : p ≡ q
  pub rest : r ≡ s

pub tail_same : {x y : Entry} {xs ys : List Entry} → x ∷ xs ≡ y ∷ ys → xs ≡ ys
tail_same h = cc

-- two nodes that begin one list are by one alternative
pub numbers_same : {s t : Production} {k j : ℕ} {xs ys : List Entry} → at_node s k ∷ xs ≡ at_node t j ∷ ys → k ≡ j
numbers_same h = cc

pub kept_same : {t u : Token} {xs ys : List Entry} → kept t ∷ xs ≡ kept u ∷ ys → Same t u xs ys
kept_same h = record { same = cc; rest = cc }

-- ---- prefixes, attributes, lists of names

prefix_fixed : (p q : Option Token) (r s : List Entry) → prefix_start p ++ r ≡ prefix_start q ++ s → Same p q r s
prefix_fixed None None r s h = record { same = refl; rest = tail_same h }
prefix_fixed (Some t) (Some u) r s h = let k = kept_same (tail_same h) in record { same = ap (λ (t : Token). Some t) k.same; rest = k.rest }
prefix_fixed None (Some u) r s h = absurd cc
prefix_fixed (Some t) None r s h = absurd cc

field_fixed : (p q : Option Token) (r s : List Entry) → field_outline p ++ r ≡ field_outline q ++ s → Same p q r s
field_fixed None None r s h = record { same = refl; rest = tail_same h }
field_fixed (Some t) (Some u) r s h = let k = kept_same (tail_same (tail_same h)) in record { same = ap (λ (t : Token). Some t) k.same; rest = k.rest }
field_fixed None (Some u) r s h = absurd cc
field_fixed (Some t) None r s h = absurd cc

-- rows of a list, each behind a mark that is not the one behind the last
module _ {A B : Type 0} (one : A → List Entry) (read : A → B) (end : Entry) (each : (a b : A) (r s : List Entry) → one a ++ r ≡ one b ++ s → Same (read a) (read b) r s)
    (apart : (a : A) (r s : List Entry) → one a ++ r ≡ end ∷ s → ⊥) where
  pub rows_fixed : (xs ys : List A) (r s : List Entry) → (flat_map one xs ++ end ∷ []) ++ r ≡ (flat_map one ys ++ end ∷ []) ++ s → Same (map read xs) (map read ys) r s
  rows_fixed [] [] r s h = record { same = refl; rest = tail_same h }
  rows_fixed [] (y ∷ ys) r s h = absurd (apart y ((flat_map one ys ++ end ∷ []) ++ s) r (sym (h ∙ regroup y ys s)))
    where
      regroup : (a : A) (xs : List A) (r : List Entry) → ((one a ++ flat_map one xs) ++ end ∷ []) ++ r ≡ one a ++ ((flat_map one xs ++ end ∷ []) ++ r)
      regroup a xs r = simp append_assoc
  rows_fixed (x ∷ xs) [] r s h = absurd (apart x ((flat_map one xs ++ end ∷ []) ++ r) s (sym (regroup x xs r) ∙ h))
    where
      regroup : (a : A) (xs : List A) (r : List Entry) → ((one a ++ flat_map one xs) ++ end ∷ []) ++ r ≡ one a ++ ((flat_map one xs ++ end ∷ []) ++ r)
      regroup a xs r = simp append_assoc
  rows_fixed (x ∷ xs) (y ∷ ys) r s h =
      let k = each x y ((flat_map one xs ++ end ∷ []) ++ r) ((flat_map one ys ++ end ∷ []) ++ s) (sym (regroup x xs r) ∙ h ∙ regroup y ys s) in
      let j = rows_fixed xs ys r s k.rest in
      record { same = ap (λ b. b ∷ map read xs) k.same ∙ ap (λ bs. read y ∷ bs) j.same; rest = j.rest }
    where
      regroup : (a : A) (xs : List A) (r : List Entry) → ((one a ++ flat_map one xs) ++ end ∷ []) ++ r ≡ one a ++ ((flat_map one xs ++ end ∷ []) ++ r)
      regroup a xs r = simp append_assoc

name_row_fixed : (t u : Token) (r s : List Entry) → name_row t ++ r ≡ name_row u ++ s → Same (word_of t) (word_of u) r s
name_row_fixed t u r s h = let k = kept_same (tail_same (tail_same h)) in record { same = ap word_of k.same; rest = k.rest }

names_fixed : (a b : Names) (r s : List Entry) → names_outline a ++ r ≡ names_outline b ++ s → Same (words_of a) (words_of b) r s
names_fixed a b r s h =
    let k = kept_same (tail_same h) in
    let j = rows_fixed name_row word_of (at_node phrases.more_names 1) name_row_fixed (λ t r s e. absurd cc) a.rest.items b.rest.items r s k.rest in
    record { same = ap (λ (t : Token). word_of t ∷ map word_of a.rest.items) k.same ∙ ap (λ ws. word_of b.first ∷ ws) j.same; rest = j.rest }

renaming_fixed : (a b : Renaming) (r s : List Entry) → renaming_outline a ++ r ≡ renaming_outline b ++ s → Same (renamed_of a) (renamed_of b) r s
renaming_fixed a b r s h =
    let k = kept_same (tail_same h) in
    let j = kept_same (tail_same k.rest) in
    record { same = ap (λ (t : Token). let x : Renamed = record { new = word_of t; old = word_of a.old } in x) k.same ∙ ap (λ (t : Token). let x : Renamed = record { new = word_of b.new; old = word_of t } in x) j.same; rest = j.rest }

renaming_row_fixed : (a b : Renaming) (r s : List Entry) → renaming_row a ++ r ≡ renaming_row b ++ s → Same (renamed_of a) (renamed_of b) r s
renaming_row_fixed a b r s h = renaming_fixed a b r s (tail_same (tail_same h))

renamings_fixed : (a b : Renamings) (r s : List Entry) → renamings_outline a ++ r ≡ renamings_outline b ++ s → Same (renamed_all a) (renamed_all b) r s
renamings_fixed a b r s h =
    let k = renaming_fixed a.first b.first ((flat_map renaming_row a.rest.items ++ at_node phrases.more_renamings 1 ∷ []) ++ r) ((flat_map renaming_row b.rest.items ++ at_node phrases.more_renamings 1 ∷ []) ++ s) (tail_same h) in
    let j = rows_fixed renaming_row renamed_of (at_node phrases.more_renamings 1) renaming_row_fixed (λ t r s e. absurd cc) a.rest.items b.rest.items r s k.rest in
    record { same = ap (λ (x : Renamed). x ∷ map renamed_of a.rest.items) k.same ∙ ap (λ ws. renamed_of b.first ∷ ws) j.same; rest = j.rest }

agg_fixed : (a b : AggTree) (r s : List Entry) → agg_outline a ++ r ≡ agg_outline b ++ s → Same (measured_of a) (measured_of b) r s
agg_fixed (Count t) (Count u) r s h = record { same = refl; rest = (kept_same (tail_same h)).rest }
agg_fixed (Of w x n) (Of v y m) r s h =
    let k = kept_same (tail_same h) in
    let j = kept_same k.rest in
    let i = kept_same j.rest in
    record { same = ap (λ (t : Token). folded (fold_of t.kind) (word_of n)) k.same ∙ ap (λ (t : Token). folded (fold_of v.kind) (word_of t)) i.same; rest = tail_same i.rest }
agg_fixed (Count t) (Of v y m) r s h = absurd cc
agg_fixed (Of w x n) (Count u) r s h = absurd cc

named_agg_fixed : (a b : NamedAgg) (r s : List Entry) → named_agg_outline a ++ r ≡ named_agg_outline b ++ s → Same (aggregate_of a) (aggregate_of b) r s
named_agg_fixed a b r s h =
    let k = kept_same (tail_same h) in
    let j = agg_fixed a.agg b.agg r s (tail_same k.rest) in
    record { same = ap (λ (t : Token). let x : Aggregate = record { name = word_of t; of = measured_of a.agg } in x) k.same ∙ ap (λ (m : Measured). let x : Aggregate = record { name = word_of b.name; of = m } in x) j.same; rest = j.rest }

agg_row_fixed : (a b : NamedAgg) (r s : List Entry) → agg_row a ++ r ≡ agg_row b ++ s → Same (aggregate_of a) (aggregate_of b) r s
agg_row_fixed a b r s h = named_agg_fixed a b r s (tail_same (tail_same h))

aggs_fixed : (a b : NamedAggs) (r s : List Entry) → aggs_outline a ++ r ≡ aggs_outline b ++ s → Same (aggregates_of a) (aggregates_of b) r s
aggs_fixed a b r s h =
    let k = named_agg_fixed a.first b.first ((flat_map agg_row a.rest.items ++ at_node phrases.more_aggs 1 ∷ []) ++ r) ((flat_map agg_row b.rest.items ++ at_node phrases.more_aggs 1 ∷ []) ++ s)
    (sym (regroup (named_agg_outline a.first) (flat_map agg_row a.rest.items) r) ∙ tail_same h ∙ regroup (named_agg_outline b.first) (flat_map agg_row b.rest.items) s) in
    let j = rows_fixed agg_row aggregate_of (at_node phrases.more_aggs 1) agg_row_fixed (λ t r s e. absurd cc) a.rest.items b.rest.items r s k.rest in
    record { same = ap (λ (x : Aggregate). x ∷ map aggregate_of a.rest.items) k.same ∙ ap (λ ws. aggregate_of b.first ∷ ws) j.same; rest = j.rest }
  where
    regroup : (xs ys : List Entry) (r : List Entry) → ((xs ++ ys) ++ at_node phrases.more_aggs 1 ∷ []) ++ r ≡ xs ++ ((ys ++ at_node phrases.more_aggs 1 ∷ []) ++ r)
    regroup xs ys r = simp append_assoc

-- ---- expressions

-- the level of a chain by its production
level_told : Production → Level
level_told (phrases.level phrases.whens) = levels.Whens
level_told (phrases.level phrases.ors) = levels.Ors
level_told (phrases.level phrases.ands) = levels.Ands
level_told (phrases.level phrases.sums) = levels.Sums
level_told (phrases.level phrases.terms) = levels.Terms
level_told (phrases.level phrases.smashes) = levels.Smashes
level_told (phrases.level phrases.merges) = levels.Merges
level_told _ = levels.Comparisons

told : (level : Level) → level_told (production_of level) ≡ level
unfolding level_told
told levels.Whens = refl
told levels.Ors = refl
told levels.Ands = refl
told levels.Sums = refl
told levels.Terms = refl
told levels.Smashes = refl
told levels.Merges = refl
told levels.Comparisons = refl

productions_same : {s t : Production} {k j : ℕ} {xs ys : List Entry} → at_node s k ∷ xs ≡ at_node t j ∷ ys → s ≡ t
productions_same h = cc

-- a chain is no prefix
no_prefix : (level : Level) {k j : ℕ} {xs ys : List Entry} → at_node (production_of level) k ∷ xs ≡ at_node phrases.prefix j ∷ ys → ⊥
no_prefix levels.Whens h = absurd cc
no_prefix levels.Ors h = absurd cc
no_prefix levels.Ands h = absurd cc
no_prefix levels.Sums h = absurd cc
no_prefix levels.Terms h = absurd cc
no_prefix levels.Smashes h = absurd cc
no_prefix levels.Merges h = absurd cc
no_prefix levels.Comparisons h = absurd cc

-- how many tails there are
abbrev many : {m : _} → Row_of-Tail m → ℕ
many end_of-Tail = 0
many (more_of-Tail op operand rest) = 1 + many rest

-- the end of a chain with what stands behind it
abbrev end_out : {m : _} → Level → Row_of-Tail m → List Entry → List Entry
end_out level rest r = chain_end level (tails_outline rest) ++ r

-- no further tail begins the marks
abbrev Closed : Production → List Entry → Type 0
Closed t xs = (ys : List Entry) → xs ≡ at_node t 0 ∷ ys → ⊥

-- where one chain has fewer tails, its end is not the beginning of a further one
record Fit (t : Production) (a b : ℕ) (x y : List Entry) : Type 0 where
  left : a < b → Closed t x
  right : b < a → Closed t y

end_closed : (t : Production) (r : List Entry) → Closed t (at_node t 1 ∷ r)
end_closed t r ys h = let e = numbers_same h in absurd (omega (arith, e))

fit_closed : (t : Production) {a b : ℕ} (r s : List Entry) → Fit t a b (at_node t 1 ∷ r) (at_node t 1 ∷ s)
fit_closed t r s = record { left = λ h. end_closed t r; right = λ h. end_closed t s }

fits : (l : Level) {m : _} {m' : _} (k : Row_of-Tail m) (j : Row_of-Tail m') (r s : List Entry) → alternative_of l (tails_outline k) ≡ alternative_of l (tails_outline j) → Fit (more_of l) (many k) (many j) (end_out l k r) (end_out l j s)
fits levels.Whens k j r s n = fit_closed (phrases.more phrases.whens) r s
fits levels.Ors k j r s n = fit_closed (phrases.more phrases.ors) r s
fits levels.Ands k j r s n = fit_closed (phrases.more phrases.ands) r s
fits levels.Sums k j r s n = fit_closed (phrases.more phrases.sums) r s
fits levels.Terms k j r s n = fit_closed (phrases.more phrases.terms) r s
fits levels.Smashes k j r s n = fit_closed (phrases.more phrases.smashes) r s
fits levels.Merges k j r s n = fit_closed (phrases.more phrases.merges) r s
fits levels.Comparisons end_of-Tail end_of-Tail r s n = fit_closed phrases.more_cmp r s
fits levels.Comparisons end_of-Tail (more_of-Tail v q end_of-Tail) r s n = record { left = λ h. end_closed phrases.more_cmp r; right = λ h. absurd (omega (arith, h)) }
fits levels.Comparisons end_of-Tail (more_of-Tail v q (more_of-Tail v2 q2 j)) r s n = absurd (omega (arith, n))
fits levels.Comparisons (more_of-Tail w p end_of-Tail) end_of-Tail r s n = record { left = λ h. absurd (omega (arith, h)); right = λ h. end_closed phrases.more_cmp s }
fits levels.Comparisons (more_of-Tail w p end_of-Tail) (more_of-Tail v q end_of-Tail) r s n = record { left = λ h. absurd (omega (arith, h)); right = λ h. absurd (omega (arith, h)) }
fits levels.Comparisons (more_of-Tail w p end_of-Tail) (more_of-Tail v q (more_of-Tail v2 q2 j)) r s n = absurd (omega (arith, n))
fits levels.Comparisons (more_of-Tail w p (more_of-Tail w2 p2 k)) end_of-Tail r s n = absurd (omega (arith, n))
fits levels.Comparisons (more_of-Tail w p (more_of-Tail w2 p2 k)) (more_of-Tail v q end_of-Tail) r s n = absurd (omega (arith, n))
fits levels.Comparisons (more_of-Tail w p (more_of-Tail w2 p2 k)) (more_of-Tail v q (more_of-Tail v2 q2 j)) r s n = fit_closed phrases.more_cmp r s

ends_same : (l : Level) {m : _} {m' : _} (k : Row_of-Tail m) (j : Row_of-Tail m') (r s : List Entry) → many k ≡ many j → end_out l k r ≡ end_out l j s → r ≡ s
ends_same levels.Whens k j r s n h = tail_same h
ends_same levels.Ors k j r s n h = tail_same h
ends_same levels.Ands k j r s n h = tail_same h
ends_same levels.Sums k j r s n h = tail_same h
ends_same levels.Terms k j r s n h = tail_same h
ends_same levels.Smashes k j r s n h = tail_same h
ends_same levels.Merges k j r s n h = tail_same h
ends_same levels.Comparisons end_of-Tail end_of-Tail r s n h = tail_same h
ends_same levels.Comparisons end_of-Tail (more_of-Tail v q j) r s n h = absurd (omega (arith, n))
ends_same levels.Comparisons (more_of-Tail w p k) end_of-Tail r s n h = absurd (omega (arith, n))
ends_same levels.Comparisons (more_of-Tail w p end_of-Tail) (more_of-Tail v q end_of-Tail) r s n h = h
ends_same levels.Comparisons (more_of-Tail w p end_of-Tail) (more_of-Tail v q (more_of-Tail v2 q2 j)) r s n h = absurd (omega (arith, n))
ends_same levels.Comparisons (more_of-Tail w p (more_of-Tail w2 p2 k)) (more_of-Tail v q end_of-Tail) r s n h = absurd (omega (arith, n))
ends_same levels.Comparisons (more_of-Tail w p (more_of-Tail w2 p2 k)) (more_of-Tail v q (more_of-Tail v2 q2 j)) r s n h = tail_same h

record SameTails (us vs : Uses) (a b : ℕ) (r s : List Entry) : Type 0 where
  same : us ≡ vs
  number : a ≡ b
  rest : r ≡ s

mutual
  unfolding expr_phrase

  pub expr_fixed : (a b : Expr) (r s : List Entry) → expr_out a r ≡ expr_out b s → Same (expr_phrase a) (expr_phrase b) r s
  expr_fixed (Expr' l f shape k) (Expr' l' g shape' j) r s h =
      let e : l ≡ l' = sym (told l) ∙ ap level_told (productions_same h) ∙ told l' in
      let a = operand_fixed f g (tails_out (more_of l) k (end_out l k r)) (tails_out (more_of l') j (end_out l' j s)) (tail_same h) in
      let n = subst (λ x. alternative_of l (tails_outline k) ≡ alternative_of x (tails_outline j)) (sym e) (numbers_same h) in
      let b = tails_fixed l (more_of l) k j (end_out l k r) (end_out l j s) (fits l k j r s n) (subst (λ x. tails_out (more_of l) k (end_out l k r) ≡ tails_out (more_of x) j (end_out x j s)) (sym e) a.rest) in
      record { same = ap (λ p. chain_phrase p (expr_uses l k)) a.same ∙ ap (λ us. chain_phrase (operand_phrase g) us) b.same ∙ ap (λ x. chain_phrase (operand_phrase g) (expr_uses x j)) e; rest = ends_same l k j r s b.number b.rest }

  tails_fixed : (l : Level) (t : Production) {m : _} {m' : _} (k : Row_of-Tail m) (j : Row_of-Tail m') (x y : List Entry) → Fit t (many k) (many j) x y → tails_out t k x ≡ tails_out t j y → SameTails (expr_uses l k) (expr_uses l j) (many k) (many j) x y
  tails_fixed l t end_of-Tail end_of-Tail x y c h = record { same = refl; number = refl; rest = h }
  tails_fixed l t end_of-Tail (more_of-Tail v q j) x y c h = absurd (c.left (omega arith) _ h)
  tails_fixed l t (more_of-Tail w p k) end_of-Tail x y c h = absurd (c.right (omega arith) _ (sym h))
  tails_fixed l t (more_of-Tail w p k) (more_of-Tail v q j) x y c h =
      let o = kept_same (tail_same h) in
      let a = operand_fixed p q (tails_out t k x) (tails_out t j y) o.rest in
      let b = tails_fixed l t k j x y (record { left = λ d. c.left (omega (arith, d)); right = λ d. c.right (omega (arith, d)) }) a.rest in
      record {
        same = ap (λ (x : Token). uses (joint_at l x.kind) x.at (operand_phrase p) (expr_uses l k)) o.same ∙ ap (λ e. uses (joint_at l v.kind) v.at e (expr_uses l k)) a.same ∙ ap (λ us. uses (joint_at l v.kind) v.at (operand_phrase q) us) b.same;
        number = ap (λ n. 1 + n) b.number;
        rest = b.rest;
      }

  pub operand_fixed : (a b : OperandTree) (r s : List Entry) → operand_out a r ≡ operand_out b s → Same (operand_phrase a) (operand_phrase b) r s
  operand_fixed (Inner' p e) (Inner' q f) r s h = expr_fixed e f r s h
  operand_fixed (Inner' p (Expr' l f shape k)) (Prefix' None q g field) r s h = absurd (no_prefix l h)
  operand_fixed (Inner' p (Expr' l f shape k)) (Prefix' (Some t) q g field) r s h = absurd (no_prefix l h)
  operand_fixed (Prefix' None p f field) (Inner' q (Expr' l g shape k)) r s h = absurd (no_prefix l (sym h))
  operand_fixed (Prefix' (Some t) p f field) (Inner' q (Expr' l g shape k)) r s h = absurd (no_prefix l (sym h))
  operand_fixed (Prefix' op held f field) (Prefix' op' held' g field') r s h =
      let o = prefix_fixed op op' (at_node phrases.post 0 ∷ prime_out f (field_outline field ++ r)) (at_node phrases.post 0 ∷ prime_out g (field_outline field' ++ s)) h in
      let a = prime_fixed f g (field_outline field ++ r) (field_outline field' ++ s) (tail_same o.rest) in
      let i = field_fixed field field' r s a.rest in
      record {
        same = ap (λ (x : Option Token). prefix_phrase x (post_phrase (prime_phrase f) field)) o.same ∙ ap (λ e. prefix_phrase op' (post_phrase e field)) a.same
            ∙ ap (λ (x : Option Token). prefix_phrase op' (post_phrase (prime_phrase g) x)) i.same;
        rest = i.rest;
      }

  pub args_fixed : (a b : ArgTrees) (r s : List Entry) → args_out a r ≡ args_out b s → Same (args_phrases a) (args_phrases b) r s
  args_fixed (ArgTrees' f shape k) (ArgTrees' g shape' j) r s h =
      let a = expr_fixed f g (args_more k (at_node phrases.more_args 1 ∷ r)) (args_more j (at_node phrases.more_args 1 ∷ s)) (tail_same h) in
      let b = args_more_fixed k j r s a.rest in
      record { same = ap (λ p. phrase p (args_rest k)) a.same ∙ ap (λ ps. phrase (expr_phrase g) ps) b.same; rest = b.rest }

  args_more_fixed : {m : _} {m' : _} (k : Row_of-Expr m) (j : Row_of-Expr m') (r s : List Entry) → args_more k (at_node phrases.more_args 1 ∷ r) ≡ args_more j (at_node phrases.more_args 1 ∷ s) → Same (args_rest k) (args_rest j) r s
  args_more_fixed end_of-Expr end_of-Expr r s h = record { same = refl; rest = tail_same h }
  args_more_fixed end_of-Expr (more_of-Expr g j) r s h = absurd cc
  args_more_fixed (more_of-Expr f k) end_of-Expr r s h = absurd cc
  args_more_fixed (more_of-Expr f k) (more_of-Expr g j) r s h =
      let a = expr_fixed f g (args_more k (at_node phrases.more_args 1 ∷ r)) (args_more j (at_node phrases.more_args 1 ∷ s)) (tail_same (tail_same h)) in
      let b = args_more_fixed k j r s a.rest in
      record { same = ap (λ p. phrase p (args_rest k)) a.same ∙ ap (λ ps. phrase (expr_phrase g) ps) b.same; rest = b.rest }

  atoms_fixed : (a b : Atoms) (r s : List Entry) → atoms_out a r ≡ atoms_out b s → Same (atoms_phrases a) (atoms_phrases b) r s
  atoms_fixed (Atoms' f shape k) (Atoms' g shape' j) r s h =
      let a = atom_fixed f g (atoms_more k (at_node phrases.more_atoms 1 ∷ r)) (atoms_more j (at_node phrases.more_atoms 1 ∷ s)) (tail_same h) in
      let b = atoms_more_fixed k j r s a.rest in
      record { same = ap (λ p. phrase p (atoms_rest k)) a.same ∙ ap (λ ps. phrase (atom_phrase g) ps) b.same; rest = b.rest }

  atoms_more_fixed : {m : _} {m' : _} (k : Row_of-Atom m) (j : Row_of-Atom m') (r s : List Entry) → atoms_more k (at_node phrases.more_atoms 1 ∷ r) ≡ atoms_more j (at_node phrases.more_atoms 1 ∷ s) → Same (atoms_rest k) (atoms_rest j) r s
  atoms_more_fixed end_of-Atom end_of-Atom r s h = record { same = refl; rest = tail_same h }
  atoms_more_fixed end_of-Atom (more_of-Atom g j) r s h = absurd cc
  atoms_more_fixed (more_of-Atom f k) end_of-Atom r s h = absurd cc
  atoms_more_fixed (more_of-Atom f k) (more_of-Atom g j) r s h =
      let a = atom_fixed f g (atoms_more k (at_node phrases.more_atoms 1 ∷ r)) (atoms_more j (at_node phrases.more_atoms 1 ∷ s)) (tail_same (tail_same h)) in
      let b = atoms_more_fixed k j r s a.rest in
      record { same = ap (λ p. phrase p (atoms_rest k)) a.same ∙ ap (λ ps. phrase (atom_phrase g) ps) b.same; rest = b.rest }

  lines_fixed : (w : Word) (a b : LineTrees) (r s : List Entry) → lines_out a r ≡ lines_out b s → Same (lines_phrases w a) (lines_phrases w b) r s
  lines_fixed w (LineTrees' f shape k) (LineTrees' g shape' j) r s h =
      let a = line_fixed w f g (lines_more k (at_node phrases.more_lines 1 ∷ r)) (lines_more j (at_node phrases.more_lines 1 ∷ s)) (tail_same h) in
      let b = lines_more_fixed w k j r s a.rest in
      record { same = ap (λ p. phrase p (lines_rest w k)) a.same ∙ ap (λ ps. phrase (line_phrase w g) ps) b.same; rest = b.rest }

  lines_more_fixed : (w : Word) {m : _} {m' : _} (k : Row_of-LineTree m) (j : Row_of-LineTree m') (r s : List Entry) → lines_more k (at_node phrases.more_lines 1 ∷ r) ≡ lines_more j (at_node phrases.more_lines 1 ∷ s) → Same (lines_rest w k) (lines_rest w j) r s
  lines_more_fixed w end_of-LineTree end_of-LineTree r s h = record { same = refl; rest = tail_same h }
  lines_more_fixed w end_of-LineTree (more_of-LineTree g j) r s h = absurd cc
  lines_more_fixed w (more_of-LineTree f k) end_of-LineTree r s h = absurd cc
  lines_more_fixed w (more_of-LineTree f k) (more_of-LineTree g j) r s h =
      let a = line_fixed w f g (lines_more k (at_node phrases.more_lines 1 ∷ r)) (lines_more j (at_node phrases.more_lines 1 ∷ s)) (tail_same (tail_same h)) in
      let b = lines_more_fixed w k j r s a.rest in
      record { same = ap (λ p. phrase p (lines_rest w k)) a.same ∙ ap (λ ps. phrase (line_phrase w g) ps) b.same; rest = b.rest }

  bindings_fixed : (a b : Bindings) (r s : List Entry) → bindings_out a r ≡ bindings_out b s → SameRow (bindings_words a) (bindings_words b) (bindings_phrases a) (bindings_phrases b) r s
  bindings_fixed (Bindings' (Binding' t f) shape k) (Bindings' (Binding' u g) shape' j) r s h =
      let o = kept_same (tail_same (tail_same h)) in
      let a = expr_fixed f g (bindings_more k (at_node phrases.more_bindings 1 ∷ r)) (bindings_more j (at_node phrases.more_bindings 1 ∷ s)) (tail_same o.rest) in
      let b = bindings_more_fixed k j r s a.rest in
      record {
        words = ap (λ (x : Token). word_of x ∷ binding_words k) o.same ∙ ap (λ ws. word_of u ∷ ws) b.words;
        values = ap (λ p. phrase p (bindings_rest k)) a.same ∙ ap (λ ps. phrase (expr_phrase g) ps) b.values;
        rest = b.rest;
      }

  bindings_more_fixed : {m : _} {m' : _} (k : Row_of-Binding m) (j : Row_of-Binding m') (r s : List Entry) → bindings_more k (at_node phrases.more_bindings 1 ∷ r) ≡ bindings_more j (at_node phrases.more_bindings 1 ∷ s) → SameRow (binding_words k) (binding_words j) (bindings_rest k) (bindings_rest j) r s
  bindings_more_fixed end_of-Binding end_of-Binding r s h = record { words = refl; values = refl; rest = tail_same h }
  bindings_more_fixed end_of-Binding (more_of-Binding (Binding' u g) j) r s h = absurd cc
  bindings_more_fixed (more_of-Binding (Binding' t f) k) end_of-Binding r s h = absurd cc
  bindings_more_fixed (more_of-Binding (Binding' t f) k) (more_of-Binding (Binding' u g) j) r s h =
      let o = kept_same (tail_same (tail_same (tail_same h))) in
      let a = expr_fixed f g (bindings_more k (at_node phrases.more_bindings 1 ∷ r)) (bindings_more j (at_node phrases.more_bindings 1 ∷ s)) (tail_same o.rest) in
      let b = bindings_more_fixed k j r s a.rest in
      record {
        words = ap (λ (x : Token). word_of x ∷ binding_words k) o.same ∙ ap (λ ws. word_of u ∷ ws) b.words;
        values = ap (λ p. phrase p (bindings_rest k)) a.same ∙ ap (λ ps. phrase (expr_phrase g) ps) b.values;
        rest = b.rest;
      }

  atom_fixed : (a b : Atom) (r s : List Entry) → atom_out a r ≡ atom_out b s → Same (atom_phrase a) (atom_phrase b) r s
  atom_fixed (Atom' w t x f) (Atom' v u y g) r s h =
      let o = kept_same (tail_same h) in
      let i = kept_same o.rest in
      let z = kept_same i.rest in
      let a = args_fixed f g (left_out phrases.close_paren ∷ r) (left_out phrases.close_paren ∷ s) z.rest in
      record {
        same = ap (λ (x : Token). atom (sign_of x.kind) (word_of t) (args_phrases f)) o.same ∙ ap (λ (x : Token). atom (sign_of v.kind) (word_of x) (args_phrases f)) i.same ∙ ap (λ ps. atom (sign_of v.kind) (word_of u) ps) a.same;
        rest = tail_same a.rest;
      }

  line_fixed : (w : Word) (a b : LineTree) (r s : List Entry) → line_out a r ≡ line_out b s → Same (line_phrase w a) (line_phrase w b) r s
  line_fixed w (LineTree' x f) (LineTree' y g) r s h =
      let o = kept_same (tail_same h) in
      let a = args_fixed f g (left_out phrases.close_paren ∷ r) (left_out phrases.close_paren ∷ s) o.rest in
      record { same = ap (λ (t : Token). line w t.at (args_phrases f)) o.same ∙ ap (λ ps. line w y.at ps) a.same; rest = tail_same a.rest }

  call_fixed : (k j : Held-Prime-Call-2) (r s : List Entry) → call_out k r ≡ call_out j s → Same (call_args k) (call_args j) r s
  call_fixed Prime-Call-2-None' Prime-Call-2-None' r s h = record { same = refl; rest = tail_same h }
  call_fixed Prime-Call-2-None' (Prime-Call-2-Some' q g) r s h = absurd cc
  call_fixed (Prime-Call-2-Some' p f) Prime-Call-2-None' r s h = absurd cc
  call_fixed (Prime-Call-2-Some' p f) (Prime-Call-2-Some' q g) r s h = args_fixed f g r s (tail_same h)

  delta_fixed : (k j : Held-Prime-Delta-1) (r s : List Entry) → delta_out k r ≡ delta_out j s → Same (delta_atoms k) (delta_atoms j) r s
  delta_fixed Prime-Delta-1-None' Prime-Delta-1-None' r s h = record { same = refl; rest = tail_same h }
  delta_fixed Prime-Delta-1-None' (Prime-Delta-1-Some' q g) r s h = absurd cc
  delta_fixed (Prime-Delta-1-Some' p f) Prime-Delta-1-None' r s h = absurd cc
  delta_fixed (Prime-Delta-1-Some' p f) (Prime-Delta-1-Some' q g) r s h = atoms_fixed f g r s (tail_same h)

  rows_lines_fixed : (w : Word) (k j : Held-Prime-Rows-4) (r s : List Entry) → rows_out k r ≡ rows_out j s → Same (rows_lines w k) (rows_lines w j) r s
  rows_lines_fixed w Prime-Rows-4-None' Prime-Rows-4-None' r s h = record { same = refl; rest = tail_same h }
  rows_lines_fixed w Prime-Rows-4-None' (Prime-Rows-4-Some' q g) r s h = absurd cc
  rows_lines_fixed w (Prime-Rows-4-Some' p f) Prime-Rows-4-None' r s h = absurd cc
  rows_lines_fixed w (Prime-Rows-4-Some' p f) (Prime-Rows-4-Some' q g) r s h = lines_fixed w f g r s (tail_same h)

  prime_fixed : (a b : Prime) (r s : List Entry) → prime_out a r ≡ prime_out b s → Same (prime_phrase a) (prime_phrase b) r s
  prime_fixed (Int t) (Int t') r s h =
      let z0 = kept_same (tail_same h) in
      record { same = ap (λ (q : Token). literal (scalar (int_scalar (int_of q.kind)))) z0.same; rest = z0.rest }
  prime_fixed (Text t) (Text t') r s h =
      let z0 = kept_same (tail_same h) in
      record { same = ap (λ (q : Token). literal (scalar (text_scalar (text_of q.kind)))) z0.same; rest = z0.rest }
  prime_fixed (True t) (True t') r s h =
      let z0 = kept_same (tail_same h) in
      record { same = refl; rest = z0.rest }
  prime_fixed (False t) (False t') r s h =
      let z0 = kept_same (tail_same h) in
      record { same = refl; rest = z0.rest }
  prime_fixed (Fail t) (Fail t') r s h =
      let z0 = kept_same (tail_same h) in
      record { same = refl; rest = z0.rest }
  prime_fixed (Name t) (Name t') r s h =
      let z0 = kept_same (tail_same h) in
      record { same = ap (λ (q : Token). named (word_of q)) z0.same; rest = (tail_same z0.rest) }
  prime_fixed (Call' n b args) (Call' n' b' args') r s h =
      let z0 = kept_same (tail_same h) in
      let z2 = kept_same (tail_same z0.rest) in
      let z3 = call_fixed args args' (left_out phrases.close_paren ∷ r) (left_out phrases.close_paren ∷ s) z2.rest in
      record { same = ap (λ (q : Token). calling (word_of q) (call_args args)) z0.same ∙ ap (λ q. calling (word_of n') q) z3.same; rest = (tail_same z3.rest) }
  prime_fixed (Paren' b p e) (Paren' b' p' e') r s h =
      let z0 = kept_same (tail_same h) in
      let z1 = expr_fixed e e' (left_out phrases.close_paren ∷ r) (left_out phrases.close_paren ∷ s) z0.rest in
      record { same = ap (λ q. q) z1.same; rest = (tail_same z1.rest) }
  prime_fixed (Row' b p bs) (Row' b' p' bs') r s h =
      let z0 = kept_same (tail_same h) in
      let z1 = bindings_fixed bs bs' (left_out phrases.close_square ∷ r) (left_out phrases.close_square ∷ s) z0.rest in
      record { same = ap (λ (q : Token). row q.at (bindings_words bs) (bindings_phrases bs)) z0.same ∙ ap (λ q. row b'.at q (bindings_phrases bs)) z1.words ∙ ap (λ q. row b'.at (bindings_words bs') q) z1.values; rest = (tail_same z1.rest) }
  prime_fixed (Delta' b ats) (Delta' b' ats') r s h =
      let z0 = kept_same (tail_same h) in
      let z1 = delta_fixed ats ats' (left_out phrases.close_brace ∷ r) (left_out phrases.close_brace ∷ s) z0.rest in
      record { same = ap (λ (q : Token). atoms q.at (delta_atoms ats)) z0.same ∙ ap (λ q. atoms b'.at q) z1.same; rest = (tail_same z1.rest) }
  prime_fixed (Rows' w b n c ls) (Rows' w' b' n' c' ls') r s h =
      let z0 = kept_same (tail_same h) in
      let z1 = kept_same z0.rest in
      let z2 = kept_same z1.rest in
      let z4 = kept_same (tail_same z2.rest) in
      let z5 = rows_lines_fixed (word_of n') ls ls' (left_out phrases.close_brace ∷ r) (left_out phrases.close_brace ∷ s) z4.rest in
      record { same = ap (λ (q : Token). lines (word_of n) q.at (rows_lines (word_of n) ls)) z0.same ∙ ap (λ (q : Token). lines (word_of q) w'.at (rows_lines (word_of q) ls)) z2.same ∙ ap (λ q. lines (word_of n') w'.at q) z5.same; rest = (tail_same z5.rest) }
  prime_fixed (Walk' w b n p over q body) (Walk' w' b' n' p' over' q' body') r s h =
      let z0 = kept_same (tail_same h) in
      let z1 = kept_same z0.rest in
      let z2 = kept_same z1.rest in
      let z4 = expr_fixed over over' (left_out phrases.colon ∷ expr_out body (left_out phrases.close_paren ∷ r)) (left_out phrases.colon ∷ expr_out body' (left_out phrases.close_paren ∷ s)) (tail_same z2.rest) in
      let z6 = expr_fixed body body' (left_out phrases.close_paren ∷ r) (left_out phrases.close_paren ∷ s) (tail_same z4.rest) in
      record { same = ap (λ (q : Token). walking (walk_of q.kind) q.at (word_of n) (expr_phrase over) (expr_phrase body)) z0.same ∙ ap (λ (q : Token). walking (walk_of w'.kind) w'.at (word_of q) (expr_phrase over) (expr_phrase body)) z2.same ∙ ap (λ q. walking (walk_of w'.kind) w'.at (word_of n') q (expr_phrase body)) z4.same ∙ ap (λ q. walking (walk_of w'.kind) w'.at (word_of n') (expr_phrase over') q) z6.same; rest = (tail_same z6.rest) }
  prime_fixed (Project' w b p over ns) (Project' w' b' p' over' ns') r s h =
      let z0 = kept_same (tail_same h) in
      let z1 = kept_same z0.rest in
      let z2 = expr_fixed over over' (left_out phrases.semicolon ∷ (names_outline ns ++ (left_out phrases.close_paren ∷ r))) (left_out phrases.semicolon ∷ (names_outline ns' ++ (left_out phrases.close_paren ∷ s))) z1.rest in
      let z4 = names_fixed ns ns' (left_out phrases.close_paren ∷ r) (left_out phrases.close_paren ∷ s) (tail_same z2.rest) in
      record { same = ap (λ (q : Token). projecting q.at (expr_phrase over) (words_of ns)) z0.same ∙ ap (λ q. projecting w'.at q (words_of ns)) z2.same ∙ ap (λ q. projecting w'.at (expr_phrase over') q) z4.same; rest = (tail_same z4.rest) }
  prime_fixed (Rename' w b p over ns) (Rename' w' b' p' over' ns') r s h =
      let z0 = kept_same (tail_same h) in
      let z1 = kept_same z0.rest in
      let z2 = expr_fixed over over' (left_out phrases.semicolon ∷ (renamings_outline ns ++ (left_out phrases.close_paren ∷ r))) (left_out phrases.semicolon ∷ (renamings_outline ns' ++ (left_out phrases.close_paren ∷ s))) z1.rest in
      let z4 = renamings_fixed ns ns' (left_out phrases.close_paren ∷ r) (left_out phrases.close_paren ∷ s) (tail_same z2.rest) in
      record { same = ap (λ (q : Token). renaming q.at (expr_phrase over) (renamed_all ns)) z0.same ∙ ap (λ q. renaming w'.at q (renamed_all ns)) z2.same ∙ ap (λ q. renaming w'.at (expr_phrase over') q) z4.same; rest = (tail_same z4.rest) }
  prime_fixed (Pair' w b p left q right) (Pair' w' b' p' left' q' right') r s h =
      let z0 = kept_same (tail_same h) in
      let z1 = kept_same z0.rest in
      let z2 = expr_fixed left left' (left_out phrases.comma ∷ expr_out right (left_out phrases.close_paren ∷ r)) (left_out phrases.comma ∷ expr_out right' (left_out phrases.close_paren ∷ s)) z1.rest in
      let z4 = expr_fixed right right' (left_out phrases.close_paren ∷ r) (left_out phrases.close_paren ∷ s) (tail_same z2.rest) in
      record { same = ap (λ (q : Token). pairing (pair_of q.kind) q.at (expr_phrase left) (expr_phrase right)) z0.same ∙ ap (λ q. pairing (pair_of w'.kind) w'.at q (expr_phrase right)) z2.same ∙ ap (λ q. pairing (pair_of w'.kind) w'.at (expr_phrase left') q) z4.same; rest = (tail_same z4.rest) }
  prime_fixed (Group' w b p over ns aa) (Group' w' b' p' over' ns' aa') r s h =
      let z0 = kept_same (tail_same h) in
      let z1 = kept_same z0.rest in
      let z2 = expr_fixed over over' (left_out phrases.semicolon ∷ left_out phrases.by_word ∷ (names_outline ns ++ (left_out phrases.semicolon ∷ (aggs_outline aa ++ (left_out phrases.close_paren ∷ r))))) (left_out phrases.semicolon ∷ left_out phrases.by_word ∷ (names_outline ns' ++ (left_out phrases.semicolon ∷ (aggs_outline aa' ++ (left_out phrases.close_paren ∷ s))))) z1.rest in
      let z5 = names_fixed ns ns' (left_out phrases.semicolon ∷ (aggs_outline aa ++ (left_out phrases.close_paren ∷ r))) (left_out phrases.semicolon ∷ (aggs_outline aa' ++ (left_out phrases.close_paren ∷ s))) (tail_same (tail_same z2.rest)) in
      let z7 = aggs_fixed aa aa' (left_out phrases.close_paren ∷ r) (left_out phrases.close_paren ∷ s) (tail_same z5.rest) in
      record { same = ap (λ (q : Token). grouping q.at (expr_phrase over) (words_of ns) (aggregates_of aa)) z0.same ∙ ap (λ q. grouping w'.at q (words_of ns) (aggregates_of aa)) z2.same ∙ ap (λ q. grouping w'.at (expr_phrase over') q (aggregates_of aa)) z5.same ∙ ap (λ q. grouping w'.at (expr_phrase over') (words_of ns') q) z7.same; rest = (tail_same z7.rest) }
  prime_fixed (Measure' w b p over) (Measure' w' b' p' over') r s h =
      let z0 = kept_same (tail_same h) in
      let z1 = kept_same z0.rest in
      let z2 = expr_fixed over over' (left_out phrases.close_paren ∷ r) (left_out phrases.close_paren ∷ s) z1.rest in
      record { same = ap (λ (q : Token). testing (test_of q.kind) q.at (expr_phrase over)) z0.same ∙ ap (λ q. testing (test_of w'.kind) w'.at q) z2.same; rest = (tail_same z2.rest) }
  prime_fixed (Fold' w b p over n) (Fold' w' b' p' over' n') r s h =
      let z0 = kept_same (tail_same h) in
      let z1 = kept_same z0.rest in
      let z2 = expr_fixed over over' (left_out phrases.comma ∷ kept n ∷ left_out phrases.close_paren ∷ r) (left_out phrases.comma ∷ kept n' ∷ left_out phrases.close_paren ∷ s) z1.rest in
      let z4 = kept_same (tail_same z2.rest) in
      record { same = ap (λ (q : Token). folding (fold_of q.kind) q.at (expr_phrase over) (word_of n)) z0.same ∙ ap (λ q. folding (fold_of w'.kind) w'.at q (word_of n)) z2.same ∙ ap (λ (q : Token). folding (fold_of w'.kind) w'.at (expr_phrase over') (word_of q)) z4.same; rest = (tail_same z4.rest) }
  prime_fixed (Bulk' w b sign n p over) (Bulk' w' b' sign' n' p' over') r s h =
      let z0 = kept_same (tail_same h) in
      let z1 = kept_same z0.rest in
      let z2 = kept_same z1.rest in
      let z3 = kept_same z2.rest in
      let z5 = expr_fixed over over' (left_out phrases.close_paren ∷ r) (left_out phrases.close_paren ∷ s) (tail_same z3.rest) in
      record { same = ap (λ (q : Token). bulk (sign_of sign.kind) (word_of n) q.at (expr_phrase over)) z0.same ∙ ap (λ (q : Token). bulk (sign_of q.kind) (word_of n) w'.at (expr_phrase over)) z2.same ∙ ap (λ (q : Token). bulk (sign_of sign'.kind) (word_of q) w'.at (expr_phrase over)) z3.same ∙ ap (λ q. bulk (sign_of sign'.kind) (word_of n') w'.at q) z5.same; rest = (tail_same z5.rest) }
  prime_fixed (Part' w b n p over) (Part' w' b' n' p' over') r s h =
      let z0 = kept_same (tail_same h) in
      let z1 = kept_same z0.rest in
      let z2 = kept_same z1.rest in
      let z4 = expr_fixed over over' (left_out phrases.close_paren ∷ r) (left_out phrases.close_paren ∷ s) (tail_same z2.rest) in
      record { same = ap (λ (q : Token). part (part_of q.kind) (word_of n) q.at (expr_phrase over)) z0.same ∙ ap (λ (q : Token). part (part_of w'.kind) (word_of q) w'.at (expr_phrase over)) z2.same ∙ ap (λ q. part (part_of w'.kind) (word_of n') w'.at q) z4.same; rest = (tail_same z4.rest) }
  prime_fixed (Name t) (Call' n b args) r s h = let e = numbers_same (kept_same (tail_same h)).rest in absurd (omega (arith, e))
  prime_fixed (Call' n b args) (Name t) r s h = let e = numbers_same (kept_same (tail_same h)).rest in absurd (omega (arith, e))
  prime_fixed _ _ r s h = let e = numbers_same h in absurd (omega (arith, e))
