-- The tables of what productions begin with are right, and the next terminal tells the alternative.
use Rattle.std.proofs.Common.{◌≡◌, ◌<◌, ℕ, zero, suc, List, [], ◌∷◌, ◌++◌, Option, Some, None, Bool, true, false, refl, sym, ap, subst, ◌∙◌, ◌⊎◌, inl, inr, if◌then◌else◌, not, ◌&&◌, ◌||◌, append_assoc, length, arith}
use Rattle.std.specs.Prelude.{slice_index_or}
use Rattle.std.specs.List.{list_any, list_all}
use Rattle.hera_syntax.specs.declared.token.Terminal.TheVariants as terminals
use Rattle.hera_syntax.specs.declared.words.Keyword.TheVariants as keys
use Rattle.hera_syntax.specs.declared.token.Token.{Token}
use Rattle.hera_syntax.specs.declared.token.Terminal.{Terminal}
use Rattle.hera_syntax.specs.Grammar.{terminal_of, is_one_of, word, comma, dot, paren, cmp_ops, signs, ops, Level, whens, ors, ands, sums, terms, smashes, merges, Production, Part, keep, leave, phrase, alternatives, alternative}
use Rattle.hera_syntax.specs.Grammar as phrases
use Rattle.hera_syntax.specs.Trees.{Begins, begins_kept, begins_left, begins_phrase}
use Rattle.hera_parser_exprs.specs.Reading.{firsts, nullable, starts, stands, pick_from, pick, choice, type_starts, expr_starts, stmt_starts}
use Rattle.hera_parser_exprs.proofs.Tests.{bool_cases, and_left, and_right, and_both, or_not, not_true_false, is_false, true_not_false, among, one_of_left, one_of_right, one_of_either, self_one}

abbrev pub post_extends : List Terminal
post_extends = dot ∷ paren

-- the levels from this one inwards
abbrev pub level_extends : Level → List Terminal
level_extends merges = ops merges ++ post_extends
level_extends smashes = ops smashes ++ (ops merges ++ post_extends)
level_extends terms = ops terms ++ (ops smashes ++ (ops merges ++ post_extends))
level_extends sums = ops sums ++ (ops terms ++ (ops smashes ++ (ops merges ++ post_extends)))
level_extends ands = ops ands ++ (cmp_ops ++ (ops sums ++ (ops terms ++ (ops smashes ++ (ops merges ++ post_extends)))))
level_extends ors = ops ors ++ (ops ands ++ (cmp_ops ++ (ops sums ++ (ops terms ++ (ops smashes ++ (ops merges ++ post_extends))))))
level_extends whens = ops whens ++ (ops ors ++ (ops ands ++ (cmp_ops ++ (ops sums ++ (ops terms ++ (ops smashes ++ (ops merges ++ post_extends)))))))

-- the terminals that would make a phrase of a production go on
abbrev pub extends : Production → List Terminal
extends phrases.program = word keys.Relation ∷ word keys.Func ∷ word keys.Proc ∷ word keys.Main ∷ []
extends phrases.relations = word keys.Relation ∷ []
extends phrases.funcs = word keys.Func ∷ []
extends phrases.procs = word keys.Proc ∷ []
extends phrases.last_main = word keys.Main ∷ []
extends phrases.relation = []
extends phrases.attrs = comma ∷ []
extends phrases.more_attrs = comma ∷ []
extends phrases.attr = []
extends phrases.kind = []
extends phrases.type_tree = []
extends phrases.schema = []
extends phrases.func = []
extends phrases.proc = []
extends phrases.some_params = comma ∷ type_starts
extends phrases.params = comma ∷ []
extends phrases.more_params = comma ∷ []
extends phrases.param = []
extends phrases.main = []
extends phrases.block = []
extends phrases.stmts = word keys.Else ∷ stmt_starts
extends phrases.stmt = word keys.Else ∷ []
extends phrases.named = []
extends phrases.else_part = word keys.Else ∷ []
extends phrases.after_else = word keys.Else ∷ []
extends phrases.some_value = expr_starts ++ level_extends whens
extends phrases.some_text = terminals.Text ∷ []
extends phrases.some_args = comma ∷ (expr_starts ++ level_extends whens)
extends phrases.args = comma ∷ level_extends whens
extends phrases.more_args = comma ∷ level_extends whens
extends (phrases.level l) = level_extends l
extends (phrases.more l) = level_extends l
extends phrases.cmp = cmp_ops ++ level_extends sums
extends phrases.more_cmp = cmp_ops ++ level_extends sums
extends phrases.prefix = post_extends
extends phrases.post = post_extends
extends phrases.field = dot ∷ []
extends phrases.prime = paren
extends phrases.call = paren
extends phrases.bindings = comma ∷ level_extends whens
extends phrases.more_bindings = comma ∷ level_extends whens
extends phrases.binding = level_extends whens
extends phrases.some_atoms = comma ∷ signs
extends phrases.atoms = comma ∷ []
extends phrases.more_atoms = comma ∷ []
extends phrases.atom = []
extends phrases.some_lines = comma ∷ paren
extends phrases.lines = comma ∷ []
extends phrases.more_lines = comma ∷ []
extends phrases.line = []
extends phrases.names = comma ∷ []
extends phrases.more_names = comma ∷ []
extends phrases.renamings = comma ∷ []
extends phrases.more_renamings = comma ∷ []
extends phrases.renaming = []
extends phrases.aggs = comma ∷ []
extends phrases.more_aggs = comma ∷ []
extends phrases.named_agg = []
extends phrases.agg = []

abbrev pub all_nullable : List Part → Bool
all_nullable [] = true
all_nullable (keep ts ∷ ps) = false
all_nullable (leave t ∷ ps) = false
all_nullable (phrase s ∷ ps) = nullable s && all_nullable ps

-- each phrase ends where what follows it begins
abbrev pub suffixes_fine : Production → List Part → Bool
suffixes_fine s [] = true
suffixes_fine s (keep ts ∷ q) = suffixes_fine s q
suffixes_fine s (leave t ∷ q) = suffixes_fine s q
suffixes_fine s (phrase p ∷ q) = list_all (λ c. not (is_one_of (extends p) c)) (starts q) && ((not (all_nullable q) || list_all (is_one_of (extends s)) (extends p)) && suffixes_fine s q)

abbrev pub fine : Production → List Part → Bool
fine s q = list_all (is_one_of (firsts s)) (starts q) && ((not (all_nullable q) || nullable s) && suffixes_fine s q)

-- the alternatives begin apart, and only the last may be empty, where the others' beginnings make it go on
abbrev pub apart_from : List Terminal → List Part → List (List Part) → Bool
apart_from ext q [] = true
apart_from ext q (r ∷ qs) =
    not (all_nullable q) && (list_all (λ x. list_all (λ c. not (is_one_of (starts x) c)) (starts q)) (r ∷ qs)
    && ((not (list_any all_nullable (r ∷ qs)) || list_all (is_one_of ext) (starts q)) && apart_from ext r qs))

abbrev pub told_apart : List Terminal → List (List Part) → Bool
told_apart ext [] = false
told_apart ext (q ∷ qs) = apart_from ext q qs

abbrev pub tested : Production → Bool
tested s = list_all (fine s) (alternatives s) && told_apart (extends s) (alternatives s)

-- the test of the whole grammar
pub grammar_fine : (s : Production) → tested s ≡ true
grammar_fine phrases.program = refl
grammar_fine phrases.relations = refl
grammar_fine phrases.funcs = refl
grammar_fine phrases.procs = refl
grammar_fine phrases.last_main = refl
grammar_fine phrases.relation = refl
grammar_fine phrases.attrs = refl
grammar_fine phrases.more_attrs = refl
grammar_fine phrases.attr = refl
grammar_fine phrases.kind = refl
grammar_fine phrases.type_tree = refl
grammar_fine phrases.schema = refl
grammar_fine phrases.func = refl
grammar_fine phrases.proc = refl
grammar_fine phrases.some_params = refl
grammar_fine phrases.params = refl
grammar_fine phrases.more_params = refl
grammar_fine phrases.param = refl
grammar_fine phrases.main = refl
grammar_fine phrases.block = refl
grammar_fine phrases.stmts = refl
grammar_fine phrases.stmt = refl
grammar_fine phrases.named = refl
grammar_fine phrases.else_part = refl
grammar_fine phrases.after_else = refl
grammar_fine phrases.some_value = refl
grammar_fine phrases.some_text = refl
grammar_fine phrases.some_args = refl
grammar_fine phrases.args = refl
grammar_fine phrases.more_args = refl
grammar_fine (phrases.level whens) = refl
grammar_fine (phrases.level ors) = refl
grammar_fine (phrases.level ands) = refl
grammar_fine (phrases.level sums) = refl
grammar_fine (phrases.level terms) = refl
grammar_fine (phrases.level smashes) = refl
grammar_fine (phrases.level merges) = refl
grammar_fine (phrases.more whens) = refl
grammar_fine (phrases.more ors) = refl
grammar_fine (phrases.more ands) = refl
grammar_fine (phrases.more sums) = refl
grammar_fine (phrases.more terms) = refl
grammar_fine (phrases.more smashes) = refl
grammar_fine (phrases.more merges) = refl
grammar_fine phrases.cmp = refl
grammar_fine phrases.more_cmp = refl
grammar_fine phrases.prefix = refl
grammar_fine phrases.post = refl
grammar_fine phrases.field = refl
grammar_fine phrases.prime = refl
grammar_fine phrases.call = refl
grammar_fine phrases.bindings = refl
grammar_fine phrases.more_bindings = refl
grammar_fine phrases.binding = refl
grammar_fine phrases.some_atoms = refl
grammar_fine phrases.atoms = refl
grammar_fine phrases.more_atoms = refl
grammar_fine phrases.atom = refl
grammar_fine phrases.some_lines = refl
grammar_fine phrases.lines = refl
grammar_fine phrases.more_lines = refl
grammar_fine phrases.line = refl
grammar_fine phrases.names = refl
grammar_fine phrases.more_names = refl
grammar_fine phrases.renamings = refl
grammar_fine phrases.more_renamings = refl
grammar_fine phrases.renaming = refl
grammar_fine phrases.aggs = refl
grammar_fine phrases.more_aggs = refl
grammar_fine phrases.named_agg = refl
grammar_fine phrases.agg = refl

-- what holds of each of a list holds at each place
all_at : {A : Type 0} (p : A → Bool) (xs : List A) (d : A) (k : ℕ) → list_all p xs ≡ true → k < length xs → p (slice_index_or xs k d) ≡ true
all_at p [] d k h l = absurd (omega arith)
all_at p (x ∷ xs) d zero h l = and_left (p x) (list_all p xs) h
all_at p (x ∷ xs) d (suc k) h l = all_at p xs d k (and_right (p x) (list_all p xs) h) (omega arith)

any_at : {A : Type 0} (p : A → Bool) (xs : List A) (d : A) (k : ℕ) → k < length xs → p (slice_index_or xs k d) ≡ true → list_any p xs ≡ true
any_at p [] d k l h = absurd (omega arith)
any_at p (x ∷ xs) d zero l h = one (p x) (list_any p xs) h where
  one : (a b : Bool) → a ≡ true → (a || b) ≡ true
  one true b e = refl
  one false b e = cc
any_at p (x ∷ xs) d (suc k) l h = two (p x) (list_any p xs) (any_at p xs d k (omega arith) h) where
  two : (a b : Bool) → b ≡ true → (a || b) ≡ true
  two true b e = refl
  two false b e = e

fine_here : (s : Production) (k : ℕ) → k < length (alternatives s) → fine s (alternative s k) ≡ true
fine_here s k l = all_at (fine s) (alternatives s) [] k (and_left (list_all (fine s) (alternatives s)) (told_apart (extends s) (alternatives s)) (grammar_fine s)) l

-- the number that is picked is that of the alternative which begins with the terminal
pick_told : (ext : List Terminal) (q : List Part) (qs : List (List Part)) (t : Terminal) (k : ℕ) → apart_from ext q qs ≡ true → k < length (q ∷ qs) →
    (is_one_of (starts (slice_index_or (q ∷ qs) k [])) t ≡ true) ⊎ ((all_nullable (slice_index_or (q ∷ qs) k []) ≡ true) × (is_one_of ext t ≡ false)) →
    pick_from q qs (Some t) ≡ k
pick_told ext q [] t zero h l w = refl
pick_told ext q [] t (suc k) h l w = absurd (omega arith)
pick_told ext q (r ∷ qs) t zero h l (inl w) = ap (λ b. if b then 0 else suc (pick_from r qs (Some t))) w
pick_told ext q (r ∷ qs) t zero h l (inr w) = absurd (true_not_false w.0 (not_true_false (all_nullable q) (and_left (not (all_nullable q)) _ h)))
pick_told ext q (r ∷ qs) t (suc k) h l w =
    let rest1 = and_right (not (all_nullable q)) _ h in
    let others = list_all (λ x. list_all (λ c. not (is_one_of (starts x) c)) (starts q)) (r ∷ qs) in
    let empty = not (list_any all_nullable (r ∷ qs)) || list_all (is_one_of ext) (starts q) in
    let h1 : others ≡ true = and_left others (empty && apart_from ext r qs) rest1 in
    let h2 : (empty && apart_from ext r qs) ≡ true = and_right others (empty && apart_from ext r qs) rest1 in
    let h3 : empty ≡ true = and_left empty (apart_from ext r qs) h2 in
    let h4 : apart_from ext r qs ≡ true = and_right empty (apart_from ext r qs) h2 in
    let l' : k < length (r ∷ qs) = omega arith in
    let none : is_one_of (starts q) t ≡ false = is_false (is_one_of (starts q) t) (λ y. elim w [
      | inl x ↦ true_not_false x (not_true_false (is_one_of (starts (slice_index_or (r ∷ qs) k [])) t)
          (among (λ c. not (is_one_of (starts (slice_index_or (r ∷ qs) k [])) c)) (starts q) t
          (all_at (λ x. list_all (λ c. not (is_one_of (starts x) c)) (starts q)) (r ∷ qs) [] k h1 l') y))
      | inr x ↦ true_not_false
          (among (is_one_of ext) (starts q) t (or_not (list_any all_nullable (r ∷ qs)) (list_all (is_one_of ext) (starts q)) h3 (any_at all_nullable (r ∷ qs) [] k l' x.0)) y) x.1
    ]) in
    ap (λ b. if b then 0 else suc (pick_from r qs (Some t))) none ∙ ap suc (pick_told ext r qs t k h4 l' w)

pick_at_end : (ext : List Terminal) (q : List Part) (qs : List (List Part)) (k : ℕ) → apart_from ext q qs ≡ true → k < length (q ∷ qs) →
    all_nullable (slice_index_or (q ∷ qs) k []) ≡ true → pick_from q qs None ≡ k
pick_at_end ext q [] zero h l w = refl
pick_at_end ext q [] (suc k) h l w = absurd (omega arith)
pick_at_end ext q (r ∷ qs) zero h l w = absurd (true_not_false w (not_true_false (all_nullable q) (and_left (not (all_nullable q)) _ h)))
pick_at_end ext q (r ∷ qs) (suc k) h l w =
    let others = list_all (λ x. list_all (λ c. not (is_one_of (starts x) c)) (starts q)) (r ∷ qs) in
    let empty = not (list_any all_nullable (r ∷ qs)) || list_all (is_one_of ext) (starts q) in
    let rest1 = and_right (not (all_nullable q)) (others && (empty && apart_from ext r qs)) h in
    let h2 : (empty && apart_from ext r qs) ≡ true = and_right others (empty && apart_from ext r qs) rest1 in
    ap suc (pick_at_end ext r qs k (and_right empty (apart_from ext r qs) h2) (omega arith) w)

choice_list : (ext : List Terminal) (qs : List (List Part)) (t : Terminal) (k : ℕ) → told_apart ext qs ≡ true → k < length qs →
    (is_one_of (starts (slice_index_or qs k [])) t ≡ true) ⊎ ((all_nullable (slice_index_or qs k []) ≡ true) × (is_one_of ext t ≡ false)) → pick qs (Some t) ≡ k
choice_list ext [] t k h l w = absurd (omega arith)
choice_list ext (q ∷ qs) t k h l w = pick_told ext q qs t k h l w

choice_list_end : (ext : List Terminal) (qs : List (List Part)) (k : ℕ) → told_apart ext qs ≡ true → k < length qs → all_nullable (slice_index_or qs k []) ≡ true → pick qs None ≡ k
choice_list_end ext [] k h l w = absurd (omega arith)
choice_list_end ext (q ∷ qs) k h l w = pick_at_end ext q qs k h l w

pub choice_told : (s : Production) (k : ℕ) (t : Terminal) → k < length (alternatives s) →
    (is_one_of (starts (alternative s k)) t ≡ true) ⊎ ((all_nullable (alternative s k) ≡ true) × (is_one_of (extends s) t ≡ false)) → choice s (Some t) ≡ k
choice_told s k t l w =
    choice_list (extends s) (alternatives s) t k (and_right (list_all (fine s) (alternatives s)) (told_apart (extends s) (alternatives s)) (grammar_fine s)) l w

pub choice_at_end : (s : Production) (k : ℕ) → k < length (alternatives s) → all_nullable (alternative s k) ≡ true → choice s None ≡ k
choice_at_end s k l w =
    choice_list_end (extends s) (alternatives s) k (and_right (list_all (fine s) (alternatives s)) (told_apart (extends s) (alternatives s)) (grammar_fine s)) l w

pick_within : (q : List Part) (qs : List (List Part)) (t : Option Terminal) → pick_from q qs t < length (q ∷ qs)
pick_within q [] t = omega arith
pick_within q (r ∷ qs) t =
    elim (bool_cases (stands (starts q) t)) [
      | inl y ↦ let e : pick_from q (r ∷ qs) t ≡ 0 = ap (λ b. if b then 0 else suc (pick_from r qs t)) y in omega arith
      | inr n ↦
          let e : pick_from q (r ∷ qs) t ≡ suc (pick_from r qs t) = ap (λ b. if b then 0 else suc (pick_from r qs t)) n in
          let within = pick_within r qs t in omega arith
    ]

some_told : (ext : List Terminal) (qs : List (List Part)) (t : Option Terminal) → told_apart ext qs ≡ true → pick qs t < length qs
some_told ext [] t h = cc
some_told ext (q ∷ qs) t h = pick_within q qs t

-- the choice is an alternative of the grammar
pub choice_within : (s : Production) (t : Option Terminal) → choice s t < length (alternatives s)
choice_within s t = some_told (extends s) (alternatives s) t (and_right (list_all (fine s) (alternatives s)) (told_apart (extends s) (alternatives s)) (grammar_fine s))

-- what starts q and then r starts q, or q may be empty and it starts r
starts_append : (q r : List Part) (c : Terminal) → is_one_of (starts (q ++ r)) c ≡ true → (is_one_of (starts q) c ≡ true) ⊎ ((all_nullable q ≡ true) × (is_one_of (starts r) c ≡ true))
starts_append [] r c h = inr (refl, h)
starts_append (keep ts ∷ q) r c h = inl h
starts_append (leave t ∷ q) r c h = inl h
starts_append (phrase s ∷ q) r c h =
    elim (bool_cases (nullable s)) [
      | inl n ↦
          let h' : is_one_of (firsts s ++ starts (q ++ r)) c ≡ true = subst (λ v. is_one_of (firsts s ++ (if v then starts (q ++ r) else [])) c ≡ true) n h in
          elim (one_of_either (firsts s) (starts (q ++ r)) c h') [
            | inl a ↦ inl (one_of_left (firsts s) (if nullable s then starts q else []) c a)
            | inr b ↦ elim (starts_append q r c b) [
              | inl x ↦ inl (one_of_right (firsts s) (if nullable s then starts q else []) c (subst (λ v. is_one_of (if v then starts q else []) c ≡ true) (sym n) x))
              | inr y ↦ inr (subst (λ v. (v && all_nullable q) ≡ true) (sym n) y.0, y.1)
            ]
          ]
      | inr n ↦
          let h' : is_one_of (firsts s ++ []) c ≡ true = subst (λ v. is_one_of (firsts s ++ (if v then starts (q ++ r) else [])) c ≡ true) n h in
          elim (one_of_either (firsts s) [] c h') [
            | inl a ↦ inl (one_of_left (firsts s) (if nullable s then starts q else []) c a)
            | inr b ↦ absurd (cc (b))
          ]
    ]

pub all_nullable_append : (q r : List Part) → all_nullable (q ++ r) ≡ true → (all_nullable q ≡ true) × (all_nullable r ≡ true)
all_nullable_append [] r h = (refl, h)
all_nullable_append (keep ts ∷ q) r h = absurd (cc (h))
all_nullable_append (leave t ∷ q) r h = absurd (cc (h))
all_nullable_append (phrase s ∷ q) r h =
    let k = all_nullable_append q r (and_right (nullable s) (all_nullable (q ++ r)) h) in
    (and_both (nullable s) (all_nullable q) (and_left (nullable s) (all_nullable (q ++ r)) h) k.0, k.1)

-- a fine alternative starts as its production does, and where it may be empty the production may be
first_of_alternative : (s : Production) (k : ℕ) (c : Terminal) → k < length (alternatives s) → is_one_of (starts (alternative s k)) c ≡ true → is_one_of (firsts s) c ≡ true
first_of_alternative s k c l h =
    let q = alternative s k in
    among (is_one_of (firsts s)) (starts q) c (and_left (list_all (is_one_of (firsts s)) (starts q)) ((not (all_nullable q) || nullable s) && suffixes_fine s q) (fine_here s k l)) h

tail_fine : (s : Production) (k : ℕ) → k < length (alternatives s) → ((not (all_nullable (alternative s k)) || nullable s) && suffixes_fine s (alternative s k)) ≡ true
tail_fine s k l =
    let q = alternative s k in
    and_right (list_all (is_one_of (firsts s)) (starts q)) ((not (all_nullable q) || nullable s) && suffixes_fine s q) (fine_here s k l)

pub empty_alternative : (s : Production) (k : ℕ) → k < length (alternatives s) → all_nullable (alternative s k) ≡ true → nullable s ≡ true
empty_alternative s k l n =
    let q = alternative s k in
    or_not (all_nullable q) (nullable s) (and_left (not (all_nullable q) || nullable s) (suffixes_fine s q) (tail_fine s k l)) n

-- Where q and then ps begin with a token, q starts with it, or q may be empty and ps begin with it.
pub Begins_split : (q ps : List Part) {r : List Part} {t : Token} {ts : List Token} → Begins r (t ∷ ts) → r ≡ q ++ ps →
    (is_one_of (starts q) (terminal_of t.kind) ≡ true) ⊎ ((all_nullable q ≡ true) × Begins ps (t ∷ ts))
Begins_split [] ps {t = t} {ts = ts} b e = inr (refl, subst (λ x. Begins x (t ∷ ts)) e b)
Begins_split (keep codes ∷ q) ps (begins_kept {ts = ds} {t = t} h b) e =
    let same : ds ≡ codes = cc in
    inl (subst (λ x. is_one_of x (terminal_of t.kind) ≡ true) same h)
Begins_split (keep codes ∷ q) ps (begins_left h b) e = absurd (cc (e))
Begins_split (keep codes ∷ q) ps (begins_phrase k l b) e = absurd (cc (e))
Begins_split (leave c ∷ q) ps (begins_left {t = d} {u = u} h b) e =
    let same : d ≡ c = cc in
    inl (subst (λ x. is_one_of (c ∷ []) x ≡ true) (sym same ∙ h) (self_one c))
Begins_split (leave c ∷ q) ps (begins_kept h b) e = absurd (cc (e))
Begins_split (leave c ∷ q) ps (begins_phrase k l b) e = absurd (cc (e))
Begins_split (phrase s ∷ q) ps (begins_kept h b) e = absurd (cc (e))
Begins_split (phrase s ∷ q) ps (begins_left h b) e = absurd (cc (e))
Begins_split (phrase s ∷ q) ps {t = t} {ts = ts} (begins_phrase {s = s'} {ps = rs} k l b) e =
    let same : s' ≡ s = cc in
    let rest : rs ≡ q ++ ps = cc in
    let l' : k < length (alternatives s) = subst (λ x. k < length (alternatives x)) same l in
    let m = Begins_split (alternative s k ++ q) ps b (ap (λ x. alternative x k ++ rs) same ∙ (ap (λ x. alternative s k ++ x) rest ∙ sym (append_assoc (alternative s k) q ps))) in
    elim m [
      | inl x ↦ elim (starts_append (alternative s k) q (terminal_of t.kind) x) [
        | inl y ↦ inl (one_of_left (firsts s) (if nullable s then starts q else []) (terminal_of t.kind) (first_of_alternative s k (terminal_of t.kind) l' y))
        | inr y ↦ inl (one_of_right (firsts s) (if nullable s then starts q else []) (terminal_of t.kind)
            (subst (λ v. is_one_of (if v then starts q else []) (terminal_of t.kind) ≡ true) (sym (empty_alternative s k l' y.0)) y.1))
      ]
      | inr x ↦
          let n = all_nullable_append (alternative s k) q x.0 in
          inr (and_both (nullable s) (all_nullable q) (empty_alternative s k l' n.0) n.1, x.1)
    ]

-- whatever begins ps does not make s go on
pub record Ends (s : Production) (ps : List Part) : Type 0 where
  pub ends : (t : Token) (ts : List Token) → Begins ps (t ∷ ts) → is_one_of (extends s) (terminal_of t.kind) ≡ false

-- each production in the stack ends where what follows it begins
abbrev pub Good : List Part → Type 0
Good [] = Unit {0}
Good (keep ts ∷ ps) = Good ps
Good (leave t ∷ ps) = Good ps
Good (phrase s ∷ ps) = Ends s ps × Good ps

good_suffix : (s : Production) (q ps : List Part) → suffixes_fine s q ≡ true → Ends s ps → Good ps → Good (q ++ ps)
good_suffix s [] ps h e g = g
good_suffix s (keep ts ∷ q) ps h e g = good_suffix s q ps h e g
good_suffix s (leave t ∷ q) ps h e g = good_suffix s q ps h e g
good_suffix s (phrase p ∷ q) ps h e g =
    let apart = list_all (λ c. not (is_one_of (extends p) c)) (starts q) in
    let within = not (all_nullable q) || list_all (is_one_of (extends s)) (extends p) in
    let h1 : apart ≡ true = and_left apart (within && suffixes_fine s q) h in
    let h2 : (within && suffixes_fine s q) ≡ true = and_right apart (within && suffixes_fine s q) h in
    let h3 : within ≡ true = and_left within (suffixes_fine s q) h2 in
    let h4 : suffixes_fine s q ≡ true = and_right within (suffixes_fine s q) h2 in (
      record {
        ends = λ t ts b. elim (Begins_split q ps b refl) [
          | inl x ↦ not_true_false (is_one_of (extends p) (terminal_of t.kind)) (among (λ c. not (is_one_of (extends p) c)) (starts q) (terminal_of t.kind) h1 x)
          | inr x ↦ is_false (is_one_of (extends p) (terminal_of t.kind)) (λ y.
              true_not_false
              (among (is_one_of (extends s)) (extends p) (terminal_of t.kind) (or_not (all_nullable q) (list_all (is_one_of (extends s)) (extends p)) h3 x.0) y)
              (e.ends t ts x.1))
        ];
      },
      good_suffix s q ps h4 e g,
    )

-- the invariant of a run: it is kept where a production is replaced by an alternative
pub good_chosen : (s : Production) (k : ℕ) (ps : List Part) → k < length (alternatives s) → Good (phrase s ∷ ps) → Good (alternative s k ++ ps)
good_chosen s k ps l g =
    let q = alternative s k in
    good_suffix s q ps (and_right (not (all_nullable q) || nullable s) (suffixes_fine s q) (tail_fine s k l)) g.0 g.1

-- a phrase alone: nothing follows it
pub alone : (s : Production) → Good (phrase s ∷ [])
alone s = (record { ends = λ t ts b. elim b [ ] }, tt)

-- the next token tells the alternative that the tokens begin
pub told_by_token : (s : Production) (k : ℕ) (ps : List Part) (t : Token) (ts : List Token) → k < length (alternatives s) → Good (phrase s ∷ ps) →
    Begins (alternative s k ++ ps) (t ∷ ts) → choice s (Some (terminal_of t.kind)) ≡ k
told_by_token s k ps t ts l g b =
    choice_told s k (terminal_of t.kind) l (elim (Begins_split (alternative s k) ps b refl) [ inl x ↦ inl x | inr x ↦ inr (x.0, g.0.ends t ts x.1) ])
