-- The beginnings of a production, by cases.
use Rattle.std.proofs.Common.{◌≡◌, ◌<◌, ℕ, List, [], ◌∷◌, ◌++◌, ◌⊎◌, inl, inr, refl, sym, ap, subst, ◌∙◌, length, append_assoc}
use Rattle.hera_syntax.specs.declared.token.Token.{Token}
use Rattle.hera_syntax.specs.Grammar.{Allows, Production, Part, keep, leave, phrase, alternatives, alternative}
use Rattle.hera_syntax.specs.Outline.{Entry, at_node, kept, left_out}
use Rattle.hera_syntax.specs.Trees.{Obeys, no_part, keeps, leaves, produces, Agree, at_end, one_more, printed, Begins, so_far, begins_kept, begins_left, begins_phrase}
use Rattle.hera_parser.specs.Beginnings.{ArePhrases, BeginsNext, BeginsByCases}
use Rattle.hera_parser.proofs.Exact.{text_begins}

append_none : {A : Type 0} (xs : List A) → xs ++ [] ≡ xs
append_none [] = refl
append_none (x ∷ xs) = ap (λ r. x ∷ r) (append_none xs)

no_phrases : ArePhrases [] []
no_phrases = record { marks = []; obeys = no_part; agrees = at_end }

-- a place in one list before another lies in the first or in the second
pub data Lies (alt ps first : List Part) (part : Part) (more : List Part) : Type 0 where
  within_first : (m : List Part) → alt ≡ first ++ part ∷ m → Lies alt ps first part more
  within_second : (b : List Part) → first ≡ alt ++ b → ps ≡ b ++ part ∷ more → Lies alt ps first part more

farther : {a x : Part} {alt ps first more : List Part} {part : Part} → x ≡ a → Lies alt ps first part more → Lies (a ∷ alt) ps (x ∷ first) part more
farther {x = x} {alt = alt} e (within_first m h) = within_first m (ap (λ y. y ∷ alt) (sym e) ∙ ap (λ r. x ∷ r) h)
farther {a = a} {first = first} e (within_second b h k) = within_second b (ap (λ y. y ∷ first) e ∙ ap (λ r. a ∷ r) h) k

lies : (alt ps first : List Part) (part : Part) (more : List Part) → first ++ part ∷ more ≡ alt ++ ps → Lies alt ps first part more
lies [] ps first part more e = within_second first refl (sym e)
lies (a ∷ alt) ps [] part more e = let same : part ≡ a = cc in within_first alt (ap (λ y. y ∷ alt) (sym same))
lies (a ∷ alt) ps (x ∷ first) part more e =
    let same : x ≡ a = cc in
    let rest : first ++ part ∷ more ≡ alt ++ ps = cc in
    farther same (lies alt ps first part more rest)

-- tokens that begin some parts begin them before others too
pub begins_more : {ps : List Part} {ts : List Token} → Begins ps ts → (qs : List Part) → Begins (ps ++ qs) ts
begins_more so_far qs = so_far
begins_more (begins_kept h b) qs = begins_kept h (begins_more b qs)
begins_more (begins_left e b) qs = begins_left e (begins_more b qs)
begins_more (begins_phrase {s = s} {ps = ps} {us = us} k l b) qs = begins_phrase k l (subst (λ x. Begins x us) (append_assoc (alternative s k) ps qs) (begins_more b qs))

-- whole phrases and then a beginning begin
pub whole_then : {ps : List Part} {ms : List Entry} → Obeys ps ms → (front : List Token) → Agree (printed ms) front → (qs : List Part) (rest : List Token) → Begins qs rest → Begins (ps ++ qs) (front ++ rest)
whole_then no_part _ at_end qs rest b = b
whole_then (keeps {ts = codes} h o) _ (one_more {ts = us} a more) qs rest b = begins_kept (subst (λ x. Allows codes x) a h) (whole_then o us more qs rest b)
whole_then (leaves o) _ (one_more {ts = us} a more) qs rest b = begins_left a (whole_then o us more qs rest b)
whole_then (produces {s = s} {k = k} {ps = ps} l o) front a qs rest b =
    begins_phrase k l (subst (λ x. Begins x (front ++ rest)) (append_assoc (alternative s k) ps qs) (whole_then o front a qs rest b))

next_phrase : (s : Production) (k : ℕ) (ps : List Part) (ts : List Token) → k < length (alternatives s) → BeginsNext (alternative s k ++ ps) ts → BeginsNext (phrase s ∷ ps) ts
next_phrase s k ps ts l n = by (lies (alternative s k) ps n.first n.part n.more (sym n.is)) where
  by : Lies (alternative s k) ps n.first n.part n.more → BeginsNext (phrase s ∷ ps) ts
  by (within_first m e) = record {
    first = [];
    part = phrase s;
    more = ps;
    is = refl;
    front = [];
    rest = ts;
    cut = refl;
    phrases = no_phrases;
    begins = begins_phrase k l (begins_more (subst (λ x. Begins x ts) (sym e) (subst (Begins (n.first ++ n.part ∷ m)) (sym n.cut)
        (whole_then n.phrases.obeys n.front n.phrases.agrees (n.part ∷ m) n.rest (begins_more n.begins m)))) []);
  }
  by (within_second f e h) = record {
    first = phrase s ∷ f;
    part = n.part;
    more = n.more;
    is = ap (λ r. phrase s ∷ r) h;
    front = n.front;
    rest = n.rest;
    cut = n.cut;
    phrases = record { marks = at_node s k ∷ n.phrases.marks; obeys = produces l (subst (λ x. Obeys x n.phrases.marks) e n.phrases.obeys); agrees = n.phrases.agrees };
    begins = n.begins;
  }

-- what begins some parts is whole phrases of them, or stops within one
begin_cases : {ps : List Part} {ts : List Token} → Begins ps ts → ArePhrases ps ts ⊎ BeginsNext ps ts
begin_cases {ps = []} so_far = inl no_phrases
begin_cases {ps = p ∷ ps} so_far = inr (record { first = []; part = p; more = ps; is = refl; front = []; rest = []; cut = refl; phrases = no_phrases; begins = so_far })
begin_cases (begins_kept {ts = codes} {ps = ps} {t = t} {us = us} h b) = kept_cases (begin_cases b) where
  kept_cases : ArePhrases ps us ⊎ BeginsNext ps us → ArePhrases (keep codes ∷ ps) (t ∷ us) ⊎ BeginsNext (keep codes ∷ ps) (t ∷ us)
  kept_cases (inl w) = inl (record { marks = kept t ∷ w.marks; obeys = keeps h w.obeys; agrees = one_more refl w.agrees })
  kept_cases (inr n) = inr (record {
    first = keep codes ∷ n.first;
    part = n.part;
    more = n.more;
    is = ap (λ r. keep codes ∷ r) n.is;
    front = t ∷ n.front;
    rest = n.rest;
    cut = ap (λ r. t ∷ r) n.cut;
    phrases = record { marks = kept t ∷ n.phrases.marks; obeys = keeps h n.phrases.obeys; agrees = one_more refl n.phrases.agrees };
    begins = n.begins;
  })
begin_cases (begins_left {t = c} {ps = ps} {u = u} {us = us} e b) = left_cases (begin_cases b) where
  left_cases : ArePhrases ps us ⊎ BeginsNext ps us → ArePhrases (leave c ∷ ps) (u ∷ us) ⊎ BeginsNext (leave c ∷ ps) (u ∷ us)
  left_cases (inl w) = inl (record { marks = left_out c ∷ w.marks; obeys = leaves w.obeys; agrees = one_more e w.agrees })
  left_cases (inr n) = inr (record {
    first = leave c ∷ n.first;
    part = n.part;
    more = n.more;
    is = ap (λ r. leave c ∷ r) n.is;
    front = u ∷ n.front;
    rest = n.rest;
    cut = ap (λ r. u ∷ r) n.cut;
    phrases = record { marks = left_out c ∷ n.phrases.marks; obeys = leaves n.phrases.obeys; agrees = one_more e n.phrases.agrees };
    begins = n.begins;
  })
begin_cases (begins_phrase {s = s} {ps = ps} {us = us} k l b) = phrase_cases (begin_cases b) where
  phrase_cases : ArePhrases (alternative s k ++ ps) us ⊎ BeginsNext (alternative s k ++ ps) us → ArePhrases (phrase s ∷ ps) us ⊎ BeginsNext (phrase s ∷ ps) us
  phrase_cases (inl w) = inl (record { marks = at_node s k ∷ w.marks; obeys = produces l w.obeys; agrees = w.agrees })
  phrase_cases (inr n) = inr (next_phrase s k ps us l n)

pub by_cases : (s : Production) (ts : List Token) → Begins (phrase s ∷ []) ts → BeginsByCases s ts
by_cases s _ so_far = inl refl
by_cases s ts (begins_phrase k l b) = cases (begin_cases b) where
  cases : ArePhrases (alternative s k ++ []) ts ⊎ BeginsNext (alternative s k ++ []) ts → BeginsByCases s ts
  cases (inl w) = inr (inl (record { marks = at_node s k ∷ w.marks; obeys = produces l w.obeys; agrees = w.agrees }))
  cases (inr n) = inr (inr (k, l, subst (λ x. BeginsNext x ts) (append_none (alternative s k)) n))

pub from_cases : (s : Production) (ts : List Token) → BeginsByCases s ts → Begins (phrase s ∷ []) ts
from_cases s ts (inl e) = subst (Begins (phrase s ∷ [])) (sym e) so_far
from_cases s ts (inr (inl w)) = text_begins w.obeys ts w.agrees
from_cases s ts (inr (inr c)) =
    let n = c.2 in
    begins_phrase c.0 c.1 (begins_more (subst (λ x. Begins x ts) (sym n.is) (subst (Begins (n.first ++ n.part ∷ n.more)) (sym n.cut)
    (whole_then n.phrases.obeys n.front n.phrases.agrees (n.part ∷ n.more) n.rest (begins_more n.begins n.more)))) [])
