-- One step of the reading after the other.
use Rattle.std.proofs.Common.{◌≡◌, ℕ, List, [], ◌∷◌, ◌++◌, true, false, refl, sym, ap, subst, ◌∙◌, append_assoc, ◌<◌, ◌+◌, length, drop, get_or, ⊎_elim, add-one}
use Rattle.std.proofs.Math.Seq.{drop-cons}
use Rattle.std.proofs.lemmas.List.{drop_all}
use Rattle.std.proofs.lemmas.Bool.{cases_lt}
use Rattle.std.specs.List.{flat_map}
use Rattle.hera_syntax.specs.declared.token.Token.{Token}
use Rattle.hera_syntax.specs.declared.token.Terminal.{Terminal}
use Rattle.hera_syntax.specs.Grammar.{Allows, Production, Part, keep, leave, phrase, alternative}
use Rattle.hera_syntax.specs.Outline.{Entry, kept, left_out, node, hold, skip}
use Rattle.hera_parser_exprs.specs.Reading.{next_terminal, stands, stuck, Runs, kept_one, kept_missed, kept_ended, left_one, left_missed, left_ended, chosen, Tells, Gives, Sticks}

-- a token that is kept
pub gives_kept : (codes : List Terminal) {a b : List Token} {t : Token} → a ≡ t ∷ b → Allows codes t → Gives (keep codes ∷ []) a (hold t) [] b
gives_kept codes {a} {b} {t} e h = record { goes = λ rest ns end r. subst (λ x. Runs (keep codes ∷ rest) x (kept t ∷ ns) end) (sym e) (kept_one h r) }

pub gives_left : (c : Terminal) {a b : List Token} {t : Token} → a ≡ t ∷ b → Allows (c ∷ []) t → Gives (leave c ∷ []) a (skip c) [] b
gives_left c {a} {b} {t} e h = record { goes = λ rest ns end r. subst (λ x. Runs (leave c ∷ rest) x (left_out c ∷ ns) end) (sym e) (left_one h r) }

kept_here : (codes : List Terminal) (a : List Token) → stands codes (next_terminal a) ≡ false → Sticks (keep codes ∷ []) a a
kept_here codes [] f = record { marks = []; sticks = λ rest. kept_ended }
kept_here codes (t ∷ ts) f = record { marks = []; sticks = λ rest. kept_missed f }

pub sticks_kept : (codes : List Terminal) {a b : List Token} → b ≡ a → stands codes (next_terminal a) ≡ false → Sticks (keep codes ∷ []) a b
sticks_kept codes {a} e f = subst (Sticks (keep codes ∷ []) a) (sym e) (kept_here codes a f)

left_here : (c : Terminal) (a : List Token) → stands (c ∷ []) (next_terminal a) ≡ false → Sticks (leave c ∷ []) a a
left_here c [] f = record { marks = []; sticks = λ rest. left_ended }
left_here c (t ∷ ts) f = record { marks = []; sticks = λ rest. left_missed f }

pub sticks_left : (c : Terminal) {a b : List Token} → b ≡ a → stands (c ∷ []) (next_terminal a) ≡ false → Sticks (leave c ∷ []) a b
sticks_left c {a} e f = subst (Sticks (leave c ∷ []) a) (sym e) (left_here c a f)

-- the next terminal tells the alternative
pub choose : (s : Production) (k : ℕ) {a : List Token} → Tells s k a → Gives (phrase s ∷ []) a (node s k) (alternative s k) a
choose s k h = record { goes = λ rest ns end r. chosen k h.number r }

-- one thing after the other
pub join : {ps qs rs : List Part} {a b c : List Token} {ms ns : List Entry} → Gives ps a ms qs b → Gives qs b ns rs c → Gives ps a (ms ++ ns) rs c
join {ps = ps} {a = a} {ms = ms} {ns = ns} g h = record {
  goes = λ rest ks e r. subst (λ x. Runs (ps ++ rest) a x e) (sym (append_assoc ms ns ks)) (g.goes rest (ns ++ ks) e (h.goes rest ks e r));
}

-- what is read in front of more
pub before : (qs : List Part) {ps : List Part} {a b : List Token} {ms : List Entry} → Gives ps a ms [] b → Gives (ps ++ qs) a ms qs b
before qs {ps = ps} {a = a} {ms = ms} g = record {
  goes = λ rest ns e r. subst (λ x. Runs x a (ms ++ ns) e) (sym (append_assoc ps qs rest)) (g.goes (qs ++ rest) ns e r);
}

-- the next part
pub next : {P qs : List Part} {p : Part} {a b c : List Token} {ms ns : List Entry} → Gives P a ms (p ∷ qs) b → Gives (p ∷ []) b ns [] c → Gives P a (ms ++ ns) qs c
next {qs = qs} g h = join g (before qs h)

-- the next part is a phrase, of this alternative
pub next_choose : {P qs : List Part} {s : Production} {a b : List Token} {ms : List Entry} (k : ℕ) → Gives P a ms (phrase s ∷ qs) b → Tells s k b →
    Gives P a (ms ++ node s k) (alternative s k ++ qs) b
next_choose {qs = qs} {s = s} {b = b} k g h = join g (record { goes = λ rest ns end r. chosen k h.number (subst (λ x. Runs x b ns end) (append_assoc (alternative s k) qs rest) r) })

-- where the next part gets stuck
pub stops : {P qs : List Part} {p : Part} {a b c : List Token} {ms : List Entry} → Gives P a ms (p ∷ qs) b → Sticks (p ∷ []) b c → Sticks P a c
stops {qs = qs} {ms = ms} g s = record { marks = ms ++ s.marks; sticks = λ rest. g.goes rest s.marks (stuck _) (s.sticks (qs ++ rest)) }

-- the same under other names
pub as_marks : {P qs : List Part} {a b : List Token} {ms ns : List Entry} → ns ≡ ms → Gives P a ms qs b → Gives P a ns qs b
as_marks {P} {qs} {a} {b} e g = subst (λ x. Gives P a x qs b) (sym e) g

-- rows of a chain or a list
append_none : {A : Type 0} (xs : List A) → xs ++ [] ≡ xs
append_none [] = refl
append_none (x ∷ xs) = ap (λ r. x ∷ r) (append_none xs)

flat_map_last : {A : Type 0} (f : A → List Entry) (xs : List A) (x : A) → flat_map f (xs ++ x ∷ []) ≡ flat_map f xs ++ f x
flat_map_last f [] x = append_none (f x)
flat_map_last f (y ∷ ys) x = ap (λ r. f y ++ r) (flat_map_last f ys x) ∙ sym (append_assoc (f y) (flat_map f ys) (f x))

pub rows_start : {A : Type 0} (f : A → List Entry) {P qs : List Part} {a b : List Token} {ms : List Entry} {xs : List A} → Gives P a ms qs b → xs ≡ [] →
    Gives P a (ms ++ flat_map f xs) qs b
rows_start f {ms = ms} g e = as_marks (ap (λ r. ms ++ flat_map f r) e ∙ append_none ms) g

pub rows_more : {A : Type 0} (f : A → List Entry) (ms : List Entry) (xs : List A) (x : A) {P qs rs : List Part} {a b c : List Token} {ys : List A} →
    Gives P a (ms ++ flat_map f xs) qs b → Gives qs b (f x) rs c → ys ≡ xs ++ x ∷ [] → Gives P a (ms ++ flat_map f ys) rs c
rows_more f ms xs x g h e =
    as_marks (ap (λ r. ms ++ flat_map f r) e ∙ (ap (λ r. ms ++ r) (flat_map_last f xs x) ∙ sym (append_assoc ms (flat_map f xs) (f x)))) (join g h)

-- the items of a list that is read: its first one, and those behind it
pub items_start : {A T : Type 0} (g : A → List Entry) (f : T → List Entry) (m : List Entry) {P qs : List Part} {a b : List Token} {first given : A} {xs : List T} →
    Gives P a (m ++ g first) qs b → given ≡ first → xs ≡ [] → Gives P a (m ++ g given ++ flat_map f xs) qs b
items_start g f m {xs = xs} r e k = as_marks (ap (λ x. m ++ g x ++ flat_map f xs) e) (rows_start f r k)

pub items_more : {A T : Type 0} (g : A → List Entry) (f : T → List Entry) (m : List Entry) (xs : List T) (x : T) {P qs rs : List Part} {a b c : List Token} {first given : A} {ys : List T} →
    Gives P a (m ++ g first ++ flat_map f xs) qs b → Gives qs b (f x) rs c → given ≡ first → ys ≡ xs ++ x ∷ [] → Gives P a (m ++ g given ++ flat_map f ys) rs c
items_more g f m xs x {first = first} {ys = ys} r h e k = as_marks (ap (λ y. m ++ g y ++ flat_map f ys) e) (rows_more f (m ++ g first) xs x r h k)

-- the parser's place moves past a token
there : (codes : List Terminal) (ts : List Token) (i : ℕ) → stands codes (next_terminal (drop i ts)) ≡ true → i < length ts
there codes ts i h = ⊎_elim (λ l. l) (λ g. absurd (let none : stands codes (next_terminal (drop i ts)) ≡ false = ap (λ x. stands codes (next_terminal x)) (drop_all i ts g) in cc)) (cases_lt i (length ts))

past : (ts : List Token) (i : ℕ) (d : Token) → i < length ts → drop i ts ≡ get_or ts i d ∷ drop (i + 1) ts
past ts i d l = drop-cons ts i d l ∙ ap (λ j. get_or ts i d ∷ drop j ts) (sym (add-one i))

pub expect_reads : (codes : List Terminal) (ts : List Token) (i : ℕ) (d : Token) → stands codes (next_terminal (drop i ts)) ≡ true →
    Gives (keep codes ∷ []) (drop i ts) (hold (get_or ts i d)) [] (drop (i + 1) ts)
expect_reads codes ts i d h =
    let e = past ts i d (there codes ts i h) in
    gives_kept codes e (subst (λ x. stands codes (next_terminal x) ≡ true) e h)

pub skip_reads : (c : Terminal) (ts : List Token) (i : ℕ) → stands (c ∷ []) (next_terminal (drop i ts)) ≡ true → Gives (leave c ∷ []) (drop i ts) (skip c) [] (drop (i + 1) ts)
skip_reads c ts i h = one (drop i ts) refl where
  one : (a : List Token) → a ≡ drop i ts → Gives (leave c ∷ []) (drop i ts) (skip c) [] (drop (i + 1) ts)
  one [] e = absurd (let none : stands (c ∷ []) (next_terminal (drop i ts)) ≡ false = ap (λ x. stands (c ∷ []) (next_terminal x)) (sym e) in cc)
  one (t ∷ a) e =
      let e' = past ts i t (there (c ∷ []) ts i h) in
      gives_left c e' (subst (λ x. stands (c ∷ []) (next_terminal x) ≡ true) e' h)

-- nothing is read
pub idle : {ps : List Part} {a : List Token} → Gives ps a [] ps a
idle = record { goes = λ rest ns e r. r }

-- where some parts in front of more get stuck
pub stops_list : (qs : List Part) {P ps : List Part} {a b c : List Token} {ms : List Entry} → Gives P a ms (ps ++ qs) b → Sticks ps b c → Sticks P a c
stops_list qs {P = P} {ps = ps} {a = a} {b = b} {c = c} {ms = ms} g s = record {
  marks = ms ++ s.marks;
  sticks = λ rest. g.goes rest s.marks (stuck c) (subst (λ x. Runs x b s.marks (stuck c)) (sym (append_assoc ps qs rest)) (s.sticks (qs ++ rest)));
}

pub rows_first : {A : Type 0} (f : A → List Entry) {ps : List Part} {a : List Token} {xs : List A} → xs ≡ [] → Gives ps a (flat_map f xs) ps a
rows_first f e = as_marks (ap (flat_map f) e) idle

pub regroup : (n r a f b p c l : List Entry) → n ++ r ++ a ++ f ++ b ++ p ++ c ++ l ≡ n ++ (r ++ a) ++ (f ++ b) ++ (p ++ c) ++ l
regroup n r a f b p c l =
    ap (λ x. x ++ f ++ b ++ p ++ c ++ l) (append_assoc n r a)
    ∙ (ap (λ x. x ++ p ++ c ++ l) (append_assoc (n ++ (r ++ a)) f b) ∙ ap (λ x. x ++ l) (append_assoc (n ++ (r ++ a) ++ (f ++ b)) p c))
