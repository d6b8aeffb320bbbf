-- The reading of tokens by the table always comes to an end.
use Rattle.std.proofs.Common.{◌≡◌, ◌<◌, ◌+◌, ℕ, zero, suc, List, [], ◌∷◌, ◌++◌, Bool, true, false, refl, ap, ◌∙◌, ◌⊎◌, inl, inr, if◌then◌else◌, ◌&&◌, nat_lt, length, arith, ltb-true}
use Rattle.std.specs.Prelude.{slice_index_or}
use Rattle.std.specs.List.{list_all}
use Rattle.std.proofs.lemmas.Bool.{and_parts}
use Rattle.hera_syntax.specs.declared.token.Token.{Token}
use Rattle.hera_syntax.specs.declared.token.Terminal.{Terminal}
use Rattle.hera_syntax.specs.Grammar.{terminal_of, is_one_of, Production, Part, keep, leave, phrase, alternatives, alternative}
use Rattle.hera_syntax.specs.Grammar as phrases
use Rattle.hera_syntax.specs.Outline.{Entry, at_node, kept, left_out}
use Rattle.hera_parser_exprs.specs.Reading.{nullable, next_terminal, choice, End, accept, stuck, Runs, finished, left_over, kept_one, kept_missed, kept_ended, left_one, left_missed, left_ended, chosen}
use Rattle.hera_parser_exprs.proofs.Tests.{bool_cases}
use Rattle.hera_parser_exprs.proofs.Tables.{all_nullable, empty_alternative, choice_within}

-- how many productions at most are chosen one after the other before a token of a phrase is looked at
abbrev pub rank : Production → ℕ
rank phrases.program = 9
rank phrases.relations = 2
rank phrases.funcs = 2
rank phrases.procs = 2
rank phrases.last_main = 2
rank phrases.relation = 1
rank phrases.attrs = 2
rank phrases.more_attrs = 1
rank phrases.attr = 1
rank phrases.kind = 1
rank phrases.type_tree = 2
rank phrases.schema = 1
rank phrases.func = 1
rank phrases.proc = 1
rank phrases.some_params = 5
rank phrases.params = 4
rank phrases.more_params = 1
rank phrases.param = 3
rank phrases.main = 1
rank phrases.block = 1
rank phrases.stmts = 4
rank phrases.stmt = 3
rank phrases.named = 1
rank phrases.else_part = 1
rank phrases.after_else = 2
rank phrases.some_value = 12
rank phrases.some_text = 1
rank phrases.some_args = 13
rank phrases.args = 12
rank phrases.more_args = 1
rank (phrases.level phrases.whens) = 11
rank (phrases.level phrases.ors) = 10
rank (phrases.level phrases.ands) = 9
rank (phrases.level phrases.sums) = 7
rank (phrases.level phrases.terms) = 6
rank (phrases.level phrases.smashes) = 5
rank (phrases.level phrases.merges) = 4
rank (phrases.more l) = 1
rank phrases.cmp = 8
rank phrases.more_cmp = 1
rank phrases.prefix = 3
rank phrases.post = 2
rank phrases.field = 1
rank phrases.prime = 1
rank phrases.call = 1
rank phrases.bindings = 2
rank phrases.more_bindings = 1
rank phrases.binding = 1
rank phrases.some_atoms = 3
rank phrases.atoms = 2
rank phrases.more_atoms = 1
rank phrases.atom = 1
rank phrases.some_lines = 3
rank phrases.lines = 2
rank phrases.more_lines = 1
rank phrases.line = 1
rank phrases.names = 1
rank phrases.more_names = 1
rank phrases.renamings = 2
rank phrases.more_renamings = 1
rank phrases.renaming = 1
rank phrases.aggs = 2
rank phrases.more_aggs = 1
rank phrases.named_agg = 1
rank phrases.agg = 1

-- the same for some parts
abbrev pub cost : List Part → ℕ
cost [] = 0
cost (keep ts ∷ ps) = 0
cost (leave t ∷ ps) = 0
cost (phrase s ∷ ps) = rank s + (if nullable s then cost ps else 0)

abbrev cheap : Production → Bool
cheap s = list_all (λ q. nat_lt (cost q) (rank s)) (alternatives s)

-- each alternative costs less than its production
all_cheap : (s : Production) → cheap s ≡ true
all_cheap phrases.program = refl
all_cheap phrases.relations = refl
all_cheap phrases.funcs = refl
all_cheap phrases.procs = refl
all_cheap phrases.last_main = refl
all_cheap phrases.relation = refl
all_cheap phrases.attrs = refl
all_cheap phrases.more_attrs = refl
all_cheap phrases.attr = refl
all_cheap phrases.kind = refl
all_cheap phrases.type_tree = refl
all_cheap phrases.schema = refl
all_cheap phrases.func = refl
all_cheap phrases.proc = refl
all_cheap phrases.some_params = refl
all_cheap phrases.params = refl
all_cheap phrases.more_params = refl
all_cheap phrases.param = refl
all_cheap phrases.main = refl
all_cheap phrases.block = refl
all_cheap phrases.stmts = refl
all_cheap phrases.stmt = refl
all_cheap phrases.named = refl
all_cheap phrases.else_part = refl
all_cheap phrases.after_else = refl
all_cheap phrases.some_value = refl
all_cheap phrases.some_text = refl
all_cheap phrases.some_args = refl
all_cheap phrases.args = refl
all_cheap phrases.more_args = refl
all_cheap (phrases.level phrases.whens) = refl
all_cheap (phrases.level phrases.ors) = refl
all_cheap (phrases.level phrases.ands) = refl
all_cheap (phrases.level phrases.sums) = refl
all_cheap (phrases.level phrases.terms) = refl
all_cheap (phrases.level phrases.smashes) = refl
all_cheap (phrases.level phrases.merges) = refl
all_cheap (phrases.more l) = refl
all_cheap phrases.cmp = refl
all_cheap phrases.more_cmp = refl
all_cheap phrases.prefix = refl
all_cheap phrases.post = refl
all_cheap phrases.field = refl
all_cheap phrases.prime = refl
all_cheap phrases.call = refl
all_cheap phrases.bindings = refl
all_cheap phrases.more_bindings = refl
all_cheap phrases.binding = refl
all_cheap phrases.some_atoms = refl
all_cheap phrases.atoms = refl
all_cheap phrases.more_atoms = refl
all_cheap phrases.atom = refl
all_cheap phrases.some_lines = refl
all_cheap phrases.lines = refl
all_cheap phrases.more_lines = refl
all_cheap phrases.line = refl
all_cheap phrases.names = refl
all_cheap phrases.more_names = refl
all_cheap phrases.renamings = refl
all_cheap phrases.more_renamings = refl
all_cheap phrases.renaming = refl
all_cheap phrases.aggs = refl
all_cheap phrases.more_aggs = refl
all_cheap phrases.named_agg = refl
all_cheap phrases.agg = refl

alternative_cost : (s : Production) (k : ℕ) → k < length (alternatives s) → cost (alternative s k) < rank s
alternative_cost s k l = ltb-true _ _ (all_within (alternatives s) k (all_cheap s) l) where
  all_within : (qs : List (List Part)) (j : ℕ) → list_all (λ q. nat_lt (cost q) (rank s)) qs ≡ true → j < length qs → nat_lt (cost (slice_index_or qs j [])) (rank s) ≡ true
  all_within [] j h m = absurd (omega arith)
  all_within (q ∷ qs) zero h m = (and_parts (nat_lt (cost q) (rank s)) _ h).0
  all_within (q ∷ qs) (suc j) h m = all_within qs j (and_parts (nat_lt (cost q) (rank s)) _ h).1 (omega arith)

-- the cost of some parts and then others
cost_append : (q ps : List Part) → cost (q ++ ps) ≡ cost q + (if all_nullable q then cost ps else 0)
cost_append [] ps = omega arith
cost_append (keep ts ∷ q) ps = refl
cost_append (leave t ∷ q) ps = refl
cost_append (phrase s ∷ q) ps = by (nullable s) (cost_append q ps) where
  by : (b : Bool) → cost (q ++ ps) ≡ cost q + (if all_nullable q then cost ps else 0)
      → rank s + (if b then cost (q ++ ps) else 0) ≡ rank s + (if b then cost q else 0) + (if (b && all_nullable q) then cost ps else 0)
  by true e = omega (arith, e)
  by false e = omega arith

-- an alternative in the place of its production costs less
descends : (s : Production) (k : ℕ) (ps : List Part) → k < length (alternatives s) → cost (alternative s k ++ ps) < cost (phrase s ∷ ps)
descends s k ps l = by (bool_cases (all_nullable (alternative s k))) where
  by : (all_nullable (alternative s k) ≡ true) ⊎ (all_nullable (alternative s k) ≡ false) → cost (alternative s k ++ ps) < cost (phrase s ∷ ps)
  by (inl e) =
      let less = alternative_cost s k l in
      let all = cost_append (alternative s k) ps ∙ ap (λ b. cost (alternative s k) + (if b then cost ps else 0)) e in
      let whole : cost (phrase s ∷ ps) ≡ rank s + cost ps = ap (λ b. rank s + (if b then cost ps else 0)) (empty_alternative s k l e) in
      omega (arith, less, all, whole)
  by (inr e) =
      let less = alternative_cost s k l in
      let all = cost_append (alternative s k) ps ∙ ap (λ b. cost (alternative s k) + (if b then cost ps else 0)) e in
      omega (arith, less, all)

pub record Ended (ps : List Part) (ts : List Token) : Type 0 where
  pub marks : List Entry
  pub end : End
  pub runs : Runs ps ts marks end

abbrev Ender : ℕ → Type 0
Ender n = (ps : List Part) (ts : List Token) → length ts < n → Ended ps ts

-- a token that is kept or left out, or is not the one that stands there
keeps : (n : ℕ) → Ender n → (codes : List Terminal) (ps : List Part) (t : Token) (ts : List Token) → length ts < n → (is_one_of codes (terminal_of t.kind) ≡ true) ⊎ (is_one_of codes (terminal_of t.kind) ≡ false) → Ended (keep codes ∷ ps) (t ∷ ts)
keeps n later codes ps t ts l (inl h) = let r = later ps ts l in record { marks = kept t ∷ r.marks; end = r.end; runs = kept_one h r.runs }
keeps n later codes ps t ts l (inr h) = record { marks = []; end = stuck (t ∷ ts); runs = kept_missed h }

leaves : (n : ℕ) → Ender n → (c : Terminal) (ps : List Part) (t : Token) (ts : List Token) → length ts < n → (is_one_of (c ∷ []) (terminal_of t.kind) ≡ true) ⊎ (is_one_of (c ∷ []) (terminal_of t.kind) ≡ false) → Ended (leave c ∷ ps) (t ∷ ts)
leaves n later c ps t ts l (inl h) = let r = later ps ts l in record { marks = left_out c ∷ r.marks; end = r.end; runs = left_one h r.runs }
leaves n later c ps t ts l (inr h) = record { marks = []; end = stuck (t ∷ ts); runs = left_missed h }

within : (n : ℕ) → Ender n → (c : ℕ) (ps : List Part) (ts : List Token) → length ts < suc n → cost ps < c → Ended ps ts
within n later zero ps ts l w = absurd (omega (arith, w))
within n later (suc c) [] [] l w = record { marks = []; end = accept; runs = finished }
within n later (suc c) [] (t ∷ ts) l w = record { marks = []; end = stuck (t ∷ ts); runs = left_over }
within n later (suc c) (keep codes ∷ ps) [] l w = record { marks = []; end = stuck []; runs = kept_ended }
within n later (suc c) (keep codes ∷ ps) (t ∷ ts) l w = keeps n later codes ps t ts (omega (arith, l)) (bool_cases (is_one_of codes (terminal_of t.kind)))
within n later (suc c) (leave d ∷ ps) [] l w = record { marks = []; end = stuck []; runs = left_ended }
within n later (suc c) (leave d ∷ ps) (t ∷ ts) l w = leaves n later d ps t ts (omega (arith, l)) (bool_cases (is_one_of (d ∷ []) (terminal_of t.kind)))
within n later (suc c) (phrase s ∷ ps) ts l w =
    let k : ℕ = choice s (next_terminal ts) in
    let less = descends s k ps (choice_within s (next_terminal ts)) in
    let r = within n later c (alternative s k ++ ps) ts l (omega (arith, less, w)) in
    record { marks = at_node s k ∷ r.marks; end = r.end; runs = chosen k refl r.runs }

ender : (n : ℕ) → Ender n
ender zero ps ts l = absurd (omega (arith, l))
ender (suc n) ps ts l = within n (ender n) (suc (cost ps)) ps ts l (omega arith)

-- the reading of any parts from any tokens ends
pub ended : (ps : List Part) (ts : List Token) → Ended ps ts
ended ps ts = ender (suc (length ts)) ps ts (omega arith)
