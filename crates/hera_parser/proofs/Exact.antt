-- What is accepted is a tree's text, and where the reading is stuck is the first token that cannot stand there.
use Rattle.std.proofs.Common.{◌≡◌, ◌<◌, ◌≤◌, ℕ, List, [], ◌∷◌, ◌++◌, Option, Some, true, false, refl, sym, ap, subst, ◌∙◌, length, arith, length-append, append_assoc}
use Rattle.hera_syntax.specs.declared.token.Token.{Token}
use Rattle.hera_syntax.specs.declared.token.Terminal.{Terminal}
use Rattle.hera_syntax.specs.Grammar.{Allows, terminal_of, is_one_of, Production, Part, keep, leave, phrase, alternatives, alternative}
use Rattle.hera_syntax.specs.Outline.{Entry, at_node, kept, left_out}
use Rattle.hera_syntax.specs.Trees.{printed, Agree, at_end, one_more, Obeys, no_part, keeps, leaves, produces, Begins, so_far, begins_kept, begins_left, begins_phrase}
use Rattle.hera_parser_exprs.specs.Reading.{next_terminal, nullable, choice, accept, stuck, Runs, finished, left_over, kept_one, kept_missed, kept_ended, left_one, left_missed, left_ended, chosen}
use Rattle.hera_parser_exprs.proofs.Tests.{true_not_false, and_both, one_same, self_one}
use Rattle.hera_parser_exprs.proofs.Tables.{Good, good_chosen, told_by_token, choice_at_end, choice_within, all_nullable, all_nullable_append, empty_alternative}

within : (s : Production) (k : ℕ) (t : Option Terminal) → choice s t ≡ k → k < length (alternatives s)
within s k t e = subst (λ x. x < length (alternatives s)) e (choice_within s t)

-- what is accepted obeys the grammar, and its tokens are the printed ones
pub accepted_obeys : {ps : List Part} {ts : List Token} {ms : List Entry} → Runs ps ts ms accept → Obeys ps ms
accepted_obeys finished = no_part
accepted_obeys (kept_one h r) = keeps h (accepted_obeys r)
accepted_obeys (left_one h r) = leaves (accepted_obeys r)
accepted_obeys (chosen {s = s} {ts = ts} k e r) = produces (within s k (next_terminal ts) e) (accepted_obeys r)

pub accepted_agrees : {ps : List Part} {ts : List Token} {ms : List Entry} → Runs ps ts ms accept → Agree (printed ms) ts
accepted_agrees finished = at_end
accepted_agrees (kept_one h r) = one_more refl (accepted_agrees r)
accepted_agrees (left_one {c = c} {t = t} h r) = one_more (one_same c (terminal_of t.kind) h) (accepted_agrees r)
accepted_agrees (chosen k e r) = accepted_agrees r

-- a text begins with each front of it
pub text_begins : {ps : List Part} {ms : List Entry} → Obeys ps ms → (ts : List Token) → Agree (printed ms) ts → Begins ps ts
text_begins no_part _ at_end = so_far
text_begins (keeps {ts = codes} h o) _ (one_more {ts = us} a more) = begins_kept (subst (Allows codes) a h) (text_begins o us more)
text_begins (leaves o) _ (one_more {ts = us} a more) = begins_left a (text_begins o us more)
text_begins (produces {k = k} l o) ts a = begins_phrase k l (text_begins o ts a)

-- what has no token may be empty
text_nullable : (q ps : List Part) {r : List Part} {ms : List Entry} → Obeys r ms → Agree (printed ms) [] → r ≡ q ++ ps → all_nullable q ≡ true
text_nullable [] ps o a e = refl
text_nullable (keep codes ∷ q) ps no_part a e = absurd (cc (e))
text_nullable (keep codes ∷ q) ps (keeps h o) a e = elim a [ ]
text_nullable (keep codes ∷ q) ps (leaves o) a e = elim a [ ]
text_nullable (keep codes ∷ q) ps (produces l o) a e = absurd (cc (e))
text_nullable (leave c ∷ q) ps no_part a e = absurd (cc (e))
text_nullable (leave c ∷ q) ps (keeps h o) a e = elim a [ ]
text_nullable (leave c ∷ q) ps (leaves o) a e = elim a [ ]
text_nullable (leave c ∷ q) ps (produces l o) a e = absurd (cc (e))
text_nullable (phrase s ∷ q) ps no_part a e = absurd (cc (e))
text_nullable (phrase s ∷ q) ps (keeps h o) a e = elim a [ ]
text_nullable (phrase s ∷ q) ps (leaves o) a e = elim a [ ]
text_nullable (phrase s ∷ q) ps (produces {s = s'} {k = k} {ps = rs} {ms = ms} l o) a e =
    let same : s' ≡ s = cc in
    let rest : rs ≡ q ++ ps = cc in
    let l' : k < length (alternatives s) = subst (λ x. k < length (alternatives x)) same l in
    let n = all_nullable_append (alternative s k) q
    (text_nullable (alternative s k ++ q) ps o a (ap (λ x. alternative x k ++ rs) same ∙ (ap (λ x. alternative s k ++ x) rest ∙ sym (append_assoc (alternative s k) q ps)))) in
    and_both (nullable s) (all_nullable q) (empty_alternative s k l' n.0) n.1

-- the tokens tell the alternative
told : (s : Production) (k : ℕ) (ps : List Part) (ms : List Entry) (ts : List Token) → k < length (alternatives s) → Good (phrase s ∷ ps) → Obeys (alternative s k ++ ps) ms →
    Agree (printed ms) ts → choice s (next_terminal ts) ≡ k
told s k ps ms [] l g o a = choice_at_end s k l (text_nullable (alternative s k) ps o a refl)
told s k ps ms (t ∷ ts) l g o a = told_by_token s k ps t ts l g (text_begins o (t ∷ ts) a)

-- the tokens before the place begin the parts
pub stuck_begins : {ps : List Part} {ts rest : List Token} {ks : List Entry} → Runs ps ts ks (stuck rest) → (front : List Token) × (ts ≡ front ++ rest) × Begins ps front
stuck_begins left_over = ([], refl, so_far)
stuck_begins (kept_one {t = t} h r) = let k = stuck_begins r in (t ∷ k.0, ap (λ x. t ∷ x) k.1, begins_kept h k.2)
stuck_begins (kept_missed f) = ([], refl, so_far)
stuck_begins kept_ended = ([], refl, so_far)
stuck_begins (left_one {c = c} {t = t} h r) = let k = stuck_begins r in (t ∷ k.0, ap (λ x. t ∷ x) k.1, begins_left (one_same c (terminal_of t.kind) h) k.2)
stuck_begins (left_missed f) = ([], refl, so_far)
stuck_begins left_ended = ([], refl, so_far)
stuck_begins (chosen {s = s} {ts = ts} n e r) = let k = stuck_begins r in (k.0, k.1, begins_phrase n (within s n (next_terminal ts) e) k.2)

pub stuck_length : {ps : List Part} {ts rest : List Token} {ks : List Entry} → Runs ps ts ks (stuck rest) → length rest ≤ length ts
stuck_length left_over = omega arith
stuck_length (kept_one {ts = us} h r) = let k = stuck_length r in omega (arith, k)
stuck_length (kept_missed f) = omega arith
stuck_length kept_ended = omega arith
stuck_length (left_one {ts = us} h r) = let k = stuck_length r in omega (arith, k)
stuck_length (left_missed f) = omega arith
stuck_length left_ended = omega arith
stuck_length (chosen n e r) = stuck_length r

Begins_kept : {codes : List Terminal} {ps : List Part} {x : Token} {xs : List Token} → Begins (keep codes ∷ ps) (x ∷ xs) → Allows codes x × Begins ps xs
Begins_kept (begins_kept h b) = (h, b)

Begins_left : {c : Terminal} {ps : List Part} {x : Token} {xs : List Token} → Begins (leave c ∷ ps) (x ∷ xs) → (c ≡ terminal_of x.kind) × Begins ps xs
Begins_left (begins_left h b) = (h, b)

pub record Chooses (s : Production) (ps : List Part) (ts : List Token) : Type 0 where
  pub number : ℕ
  pub within : number < length (alternatives s)
  pub begins : Begins (alternative s number ++ ps) ts

Begins_phrase : {s : Production} {ps : List Part} {x : Token} {xs : List Token} → Begins (phrase s ∷ ps) (x ∷ xs) → Chooses s ps (x ∷ xs)
Begins_phrase (begins_phrase k l b) = record { number = k; within = l; begins = b }

-- with the token at the place they do not
pub stuck_no_more : {ps : List Part} {ts rest : List Token} {ks : List Entry} → Runs ps ts ks (stuck rest) → Good ps →
    (a : List Token) (t : Token) (later : List Token) → ts ≡ a ++ (t ∷ later) → rest ≡ t ∷ later → Begins ps (a ++ (t ∷ [])) → ⊥
stuck_no_more left_over g [] t later e f b = elim b [ ]
stuck_no_more left_over g (x ∷ a) t later e f b = elim b [ ]
stuck_no_more (kept_one {t = u} {ts = us} h r) g [] t later e f b =
    let k = stuck_length r in let n = ap length f in let m = ap length e in absurd (omega (arith, k, n, m))
stuck_no_more (kept_one {t = u} {ts = us} h r) g (x ∷ a) t later e f b =
    let rest_is : us ≡ a ++ (t ∷ later) = cc in
    stuck_no_more r g a t later rest_is f (Begins_kept b).1
stuck_no_more (kept_missed {codes = codes} {t = u} h) g [] t later e f b =
    let same : u ≡ t = cc in
    true_not_false (Begins_kept b).0 (subst (λ (y : Token). is_one_of codes (terminal_of y.kind) ≡ false) same h)
stuck_no_more (kept_missed {ts = us} h) g (x ∷ a) t later e f b =
    let n = ap length f in let m = ap length e ∙ length-append (x ∷ a) (t ∷ later) in absurd (omega (arith, n, m))
stuck_no_more kept_ended g a t later e f b = absurd (cc (f))
stuck_no_more (left_one {t = u} {ts = us} h r) g [] t later e f b =
    let k = stuck_length r in let n = ap length f in let m = ap length e in absurd (omega (arith, k, n, m))
stuck_no_more (left_one {t = u} {ts = us} h r) g (x ∷ a) t later e f b =
    let rest_is : us ≡ a ++ (t ∷ later) = cc in
    stuck_no_more r g a t later rest_is f (Begins_left b).1
stuck_no_more (left_missed {c = c} {t = u} h) g [] t later e f b =
    let same : u ≡ t = cc in
    true_not_false (subst (λ x. is_one_of (c ∷ []) x ≡ true) (Begins_left b).0 (self_one c)) (subst (λ (y : Token). is_one_of (c ∷ []) (terminal_of y.kind) ≡ false) same h)
stuck_no_more (left_missed {ts = us} h) g (x ∷ a) t later e f b =
    let n = ap length f in let m = ap length e ∙ length-append (x ∷ a) (t ∷ later) in absurd (omega (arith, n, m))
stuck_no_more left_ended g a t later e f b = absurd (cc (f))
stuck_no_more (chosen {s = s} {ps = ps} {ts = ts} n e' r) g [] t later e f b =
    let k = Begins_phrase b in
    let p : choice s (Some (terminal_of t.kind)) ≡ k.number = told_by_token s k.number ps t [] k.within g k.begins in
    let q : choice s (Some (terminal_of t.kind)) ≡ n = subst (λ x. choice s (next_terminal x) ≡ n) e e' in
    let same : k.number ≡ n = sym p ∙ q in
    stuck_no_more r (good_chosen s n ps (within s n (next_terminal ts) e') g) [] t later e f (subst (λ x. Begins (alternative s x ++ ps) (t ∷ [])) same k.begins)
stuck_no_more (chosen {s = s} {ps = ps} {ts = ts} n e' r) g (x ∷ a) t later e f b =
    let k = Begins_phrase b in
    let p : choice s (Some (terminal_of x.kind)) ≡ k.number = told_by_token s k.number ps x (a ++ (t ∷ [])) k.within g k.begins in
    let q : choice s (Some (terminal_of x.kind)) ≡ n = subst (λ y. choice s (next_terminal y) ≡ n) e e' in
    let same : k.number ≡ n = sym p ∙ q in
    stuck_no_more r (good_chosen s n ps (within s n (next_terminal ts) e') g) (x ∷ a) t later e f (subst (λ y. Begins (alternative s y ++ ps) (x ∷ (a ++ (t ∷ [])))) same k.begins)

-- and the tokens are no text
pub stuck_no_text : {ps : List Part} {ts rest : List Token} {ks : List Entry} → Runs ps ts ks (stuck rest) → Good ps → (ms : List Entry) → Obeys ps ms → Agree (printed ms) ts → ⊥
stuck_no_text left_over g _ no_part a = elim a [ ]
stuck_no_text (kept_one h r) g _ (keeps {ms = ms} h' o) (one_more b a) = stuck_no_text r g ms o a
stuck_no_text (kept_missed {codes = codes} f) g _ (keeps h' o) (one_more b a) =
    true_not_false h' (subst (λ (y : Token). is_one_of codes (terminal_of y.kind) ≡ false) (sym b) f)
stuck_no_text kept_ended g _ (keeps h' o) a = elim a [ ]
stuck_no_text (left_one h r) g _ (leaves {ms = ms} o) (one_more b a) = stuck_no_text r g ms o a
stuck_no_text (left_missed {c = c} f) g _ (leaves o) (one_more b a) = true_not_false (subst (λ x. is_one_of (c ∷ []) x ≡ true) b (self_one c)) f
stuck_no_text left_ended g _ (leaves o) a = elim a [ ]
stuck_no_text (chosen {s = s} {ps = ps} {ts = ts} n e r) g _ (produces {k = k} {ms = ms} l o) a =
    let same : k ≡ n = sym (told s k ps ms ts l g o a) ∙ e in
    stuck_no_text r (good_chosen s n ps (within s n (next_terminal ts) e) g) ms (subst (λ x. Obeys (alternative s x ++ ps) ms) same o) a

-- a list of tokens is the text of one outline
pub one_outline : {ps : List Part} {ms : List Entry} → Obeys ps ms → Good ps → (ts : List Token) → Agree (printed ms) ts → (ns : List Entry) → Obeys ps ns → Agree (printed ns) ts → ms ≡ ns
one_outline no_part g _ at_end _ no_part b = refl
one_outline (keeps {t = t} {ms = ms} h o) g _ (one_more {ts = us} e a) _ (keeps {t = t'} {ms = ns} h' o') (one_more e' b) =
    let same : t ≡ t' = e ∙ sym e' in
    ap (λ x. kept x ∷ ms) same ∙ ap (λ x. kept t' ∷ x) (one_outline o g us a ns o' b)
one_outline (leaves {t = t} o) g _ (one_more {ts = us} e a) _ (leaves {ms = ns} o') (one_more e' b) = ap (λ x. left_out t ∷ x) (one_outline o g us a ns o' b)
one_outline (produces {s = s} {k = k} {ps = ps} {ms = ms} l o) g ts a _ (produces {k = j} {ms = ns} l' o') b =
    let same : k ≡ j = sym (told s k ps ms ts l g o a) ∙ told s j ps ns ts l' g o' b in
    ap (λ x. at_node s k ∷ x) (one_outline o (good_chosen s k ps l g) ts a ns (subst (λ x. Obeys (alternative s x ++ ps) ns) (sym same) o') b)
    ∙ ap (λ x. at_node s x ∷ ns) same
