-- From where the addresses of a stretch are named.
use Rattle.std.proofs.Common.{◌≡◌, ◌≢◌, ◌<◌, ◌≤◌, ◌⊎◌, inl, inr, ℕ, zero, suc, ◌+◌, ◌-◌, Bool, true, false, cond, ◌||◌, List, map, [], ◌∷◌, ◌++◌, length, Option, None, Some, refl, sym, ap, subst, ◌∙◌, arith}
use Rattle.std.specs.Prelude.{replicate, slice_get, slice_set, slice_index_or, nat_lt, nat_le}
use Rattle.std.proofs.lemmas.Bool.{cases_lt, ltb-true, ltb-false, leb-true, leb-false, or_cases, both_ways}
use Rattle.std.proofs.lemmas.Option.{none-some, same_Some}
use Rattle.hera_code.specs.declared.instrs.Instr.{Instr}
use Rattle.hera_verify.specs.declared.spans.Span.{Span}
use Rattle.hera_verify.specs.Spans.{named, spanned, joined, noted, farther, Names_in, IsSpan, AreSpans, IsFar, AreFar}

-- ---- lists

pub set_same : {A : Type 0} (xs : List A) (i : ℕ) (x : A) → i < length xs → slice_get (slice_set xs i x) i ≡ Some x
set_same [] i x lt = absurd (omega (arith, lt))
set_same (y ∷ xs) zero x lt = refl
set_same (y ∷ xs) (suc i) x lt = set_same xs i x (omega (arith, lt))

pub set_other : {A : Type 0} (xs : List A) (i j : ℕ) (x : A) → i ≢ j → slice_get (slice_set xs i x) j ≡ slice_get xs j
set_other [] i j x apart = refl
set_other (y ∷ xs) zero zero x apart = absurd (apart refl)
set_other (y ∷ xs) zero (suc j) x apart = refl
set_other (y ∷ xs) (suc i) zero x apart = refl
set_other (y ∷ xs) (suc i) (suc j) x apart = set_other xs i j x (λ e. apart (ap suc e))

pub set_long : {A : Type 0} (xs : List A) (i : ℕ) (x : A) → length (slice_set xs i x) ≡ length xs
set_long [] i x = refl
set_long (y ∷ xs) zero x = refl
set_long (y ∷ xs) (suc i) x = ap suc (set_long xs i x)

pub there : {A : Type 0} (xs : List A) (i : ℕ) (x : A) → slice_get xs i ≡ Some x → i < length xs
there [] i x h = absurd (none-some x h)
there (y ∷ xs) zero x h = omega arith
there (y ∷ xs) (suc i) x h = let more = there xs i x h in omega (arith, more)

pub read : {A : Type 0} (xs : List A) (i : ℕ) (d : A) → i < length xs → slice_get xs i ≡ Some (slice_index_or xs i d)
read [] i d lt = absurd (omega (arith, lt))
read (y ∷ xs) zero d lt = refl
read (y ∷ xs) (suc i) d lt = read xs i d (omega (arith, lt))

pub at_index : {A : Type 0} (xs : List A) (i : ℕ) (x : A) → i < length xs → x ≡ slice_index_or xs i x → slice_get xs i ≡ Some x
at_index xs i x lt e = read xs i x lt ∙ ap (λ y. Some y) (sym e)

pub map_at : {A B : Type 0} (f : A → B) (xs : List A) (i : ℕ) (x : A) → slice_get xs i ≡ Some x → slice_get (map f xs) i ≡ Some (f x)
map_at f [] i x h = absurd (none-some x h)
map_at f (y ∷ xs) zero x h = ap (λ z. Some (f z)) (same_Some y x h)
map_at f (y ∷ xs) (suc i) x h = map_at f xs i x h

pub map_long : {A B : Type 0} (f : A → B) (xs : List A) → length (map f xs) ≡ length xs
map_long f [] = refl
map_long f (x ∷ xs) = ap suc (map_long f xs)

past_get : {A : Type 0} (xs : List A) (k : ℕ) → length xs ≤ k → slice_get xs k ≡ None
past_get [] k h = refl
past_get (x ∷ xs) zero h = absurd (omega (arith, h))
past_get (x ∷ xs) (suc k) h = past_get xs k (omega (arith, h))

pub none_past : {A : Type 0} (xs seen : List A) (k : ℕ) → seen ≡ xs → false ≡ nat_lt k (length seen) → slice_get xs k ≡ None
none_past xs seen k own h = subst (λ l. slice_get l k ≡ None) own (past_get seen k (ltb-false k (length seen) (sym h)))

pub push_cases : {A : Type 0} (xs : List A) (y : A) (i : ℕ) (x : A) → slice_get (xs ++ y ∷ []) i ≡ Some x → (slice_get xs i ≡ Some x) ⊎ ((i ≡ length xs) × (y ≡ x))
push_cases [] y zero x h = inr (refl, same_Some y x h)
push_cases [] y (suc i) x h = absurd (none-some x h)
push_cases (z ∷ xs) y zero x h = inl h
push_cases (z ∷ xs) y (suc i) x h = elim (push_cases xs y i x h) [
  | inl below ↦ inl below
  | inr last ↦ inr (ap suc last.0, last.1)
]

pub push_long : {A : Type 0} (xs : List A) (y : A) → length (xs ++ y ∷ []) ≡ length xs + 1
push_long [] y = refl
push_long (x ∷ xs) y = let more = push_long xs y in omega (arith, more)

abbrev no_span : Option Span
no_span = None

replicate_long : (n : ℕ) → length (replicate n no_span) ≡ n
replicate_long zero = refl
replicate_long (suc n) = ap suc (replicate_long n)

replicate_none : (n b : ℕ) (o : Option Span) → slice_get (replicate n no_span) b ≡ Some o → o ≡ None
replicate_none zero b o h = absurd (none-some o h)
replicate_none (suc n) zero o h = sym (same_Some None o h)
replicate_none (suc n) (suc b) o h = replicate_none n b o h

or_none : (x y : Bool) → (x || y) ≡ false → (x ≡ false) × (y ≡ false)
or_none true y h = absurd (both_ways true h refl)
or_none false y h = (refl, h)

module _ (instrs : List Instr) where
  wider : (count more lo hi down up a : ℕ) → count ≤ more → down ≤ lo → hi ≤ up → Names_in instrs count lo hi a → Names_in instrs more down up a
  wider count more lo hi down up a le low high n = record { instr = n.instr; to = n.to; here = n.here; names = n.names; below = (let lt = n.below in omega (arith, lt, le)); from = (let lt = n.from in omega (arith, lt, low)); upto = (let lt = n.upto in omega (arith, lt, high)) }

  -- in one of two stretches that leave nothing out
  in_one : (count lo mid on hi a : ℕ) → on ≤ mid → Names_in instrs count lo hi a → Names_in instrs count lo mid a ⊎ Names_in instrs count on hi a
  in_one count lo mid on hi a over n = elim (cases_lt n.to mid) [
    | inl below ↦ inl (record { instr = n.instr; to = n.to; here = n.here; names = n.names; below = n.below; from = n.from; upto = below })
    | inr past ↦ inr (record { instr = n.instr; to = n.to; here = n.here; names = n.names; below = n.below; from = omega (arith, past, over); upto = n.upto })
  ]

  least_of : (v : Bool) (s t : Span) (N : ℕ → Type 0) → N s.least → N t.least → N (cond v t.least s.least)
  least_of true s t N n m = m
  least_of false s t N n m = n

  greatest_of : (v : Bool) (s t : Span) (N : ℕ → Type 0) → N s.greatest → N t.greatest → N (cond v t.greatest s.greatest)
  greatest_of true s t N n m = m
  greatest_of false s t N n m = n

  least_is : (v : Bool) (s t : Span) → nat_lt t.least s.least ≡ v → (cond v t.least s.least ≤ s.least) × (cond v t.least s.least ≤ t.least)
  least_is true s t e = let lt : t.least < s.least = ltb-true t.least s.least e in (omega (arith, lt), omega arith)
  least_is false s t e = let le : s.least ≤ t.least = ltb-false t.least s.least e in (omega arith, omega (arith, le))

  greatest_is : (v : Bool) (s t : Span) → nat_lt s.greatest t.greatest ≡ v → (s.greatest ≤ cond v t.greatest s.greatest) × (t.greatest ≤ cond v t.greatest s.greatest)
  greatest_is true s t e = let lt : s.greatest < t.greatest = ltb-true s.greatest t.greatest e in (omega (arith, lt), omega arith)
  greatest_is false s t e = let le : t.greatest ≤ s.greatest = ltb-false s.greatest t.greatest e in (omega arith, omega (arith, le))

  within_left : (s t : Span) (a : ℕ) → (s.least ≤ a) × (a ≤ s.greatest) → ((spanned s t).least ≤ a) × (a ≤ (spanned s t).greatest)
  within_left s t a h =
      let l = (least_is (nat_lt t.least s.least) s t refl).0 in
      let g = (greatest_is (nat_lt s.greatest t.greatest) s t refl).0 in
      let low = h.0 in
      let high = h.1 in
      (omega (arith, l, low), omega (arith, g, high))

  within_right : (s t : Span) (a : ℕ) → (t.least ≤ a) × (a ≤ t.greatest) → ((spanned s t).least ≤ a) × (a ≤ (spanned s t).greatest)
  within_right s t a h =
      let l = (least_is (nat_lt t.least s.least) s t refl).1 in
      let g = (greatest_is (nat_lt s.greatest t.greatest) s t refl).1 in
      let low = h.0 in
      let high = h.1 in
      (omega (arith, l, low), omega (arith, g, high))

  -- the span of two stretches that leave nothing out
  pub joins : (count lo mid on hi : ℕ) (x y : Option Span) → lo ≤ on → on ≤ mid → mid ≤ hi → IsSpan instrs count lo mid x → IsSpan instrs count on hi y → IsSpan instrs count lo hi (joined x y)
  joins count lo mid on hi None None low over high p q = λ a n. elim (in_one count lo mid on hi a over n) [
    | inl m ↦ p a m
    | inr m ↦ q a m
  ]
  joins count lo mid on hi None (Some t) low over high p q = (
    wider count count on hi lo hi t.least (omega arith) low (omega arith) q.0,
    wider count count on hi lo hi t.greatest (omega arith) low (omega arith) q.1,
    λ a n. elim (in_one count lo mid on hi a over n) [
      | inl m ↦ absurd (p a m)
      | inr m ↦ q.2 a m
    ],
  )
  joins count lo mid on hi (Some s) None low over high p q = (
    wider count count lo mid lo hi s.least (omega arith) (omega arith) high p.0,
    wider count count lo mid lo hi s.greatest (omega arith) (omega arith) high p.1,
    λ a n. elim (in_one count lo mid on hi a over n) [
      | inl m ↦ p.2 a m
      | inr m ↦ absurd (q a m)
    ],
  )
  joins count lo mid on hi (Some s) (Some t) low over high p q = (
    least_of (nat_lt t.least s.least) s t (Names_in instrs count lo hi)
        (wider count count lo mid lo hi s.least (omega arith) (omega arith) high p.0)
        (wider count count on hi lo hi t.least (omega arith) low (omega arith) q.0),
    greatest_of (nat_lt s.greatest t.greatest) s t (Names_in instrs count lo hi)
        (wider count count lo mid lo hi s.greatest (omega arith) (omega arith) high p.1)
        (wider count count on hi lo hi t.greatest (omega arith) low (omega arith) q.1),
    λ a n. elim (in_one count lo mid on hi a over n) [
      | inl m ↦ within_left s t a (p.2 a m)
      | inr m ↦ within_right s t a (q.2 a m)
    ],
  )

  -- ---- one instruction more

  -- of those below the next address, one is below this one or stands here
  one_less : (a lo hi x : ℕ) → Names_in instrs (a + 1) lo hi x → Names_in instrs a lo hi x ⊎ (x ≡ a)
  one_less a lo hi x n = elim (cases_lt x a) [
    | inl below ↦ inl (record { instr = n.instr; to = n.to; here = n.here; names = n.names; below = below; from = n.from; upto = n.upto })
    | inr past ↦ inr (let lt = n.below in omega (arith, past, lt))
  ]

  -- the instruction here names this address
  here_names : (a : ℕ) (i : Instr) (x lo hi : ℕ) → slice_get instrs a ≡ Some i → x ≡ a → (n : Names_in instrs (a + 1) lo hi x) → named i ≡ Some n.to
  here_names a i x lo hi at e n = ap named (same_Some i n.instr (sym at ∙ ap (slice_get instrs) (sym e) ∙ n.here)) ∙ n.names

  one_more : (a lo hi x : ℕ) → Names_in instrs a lo hi x → Names_in instrs (a + 1) lo hi x
  one_more a lo hi x n = wider a (a + 1) lo hi lo hi x (omega arith) (omega arith) (omega arith) n

  -- the instruction here names no address of the stretch
  pub stays : (a lo hi : ℕ) (i : Instr) (o : Option Span) → slice_get instrs a ≡ Some i → ((t : ℕ) → named i ≡ Some t → lo ≤ t → t < hi → ⊥) → IsSpan instrs a lo hi o → IsSpan instrs (a + 1) lo hi o
  stays a lo hi i None at never h = λ x n. elim (one_less a lo hi x n) [
    | inl m ↦ h x m
    | inr e ↦ never n.to (here_names a i x lo hi at e n) n.from n.upto
  ]
  stays a lo hi i (Some s) at never h = (
    one_more a lo hi s.least h.0,
    one_more a lo hi s.greatest h.1,
    λ x n. elim (one_less a lo hi x n) [
      | inl m ↦ h.2 x m
      | inr e ↦ absurd (never n.to (here_names a i x lo hi at e n) n.from n.upto)
    ],
  )

  -- it names one
  pub adds : (a lo hi t : ℕ) (i : Instr) (o : Option Span) → slice_get instrs a ≡ Some i → named i ≡ Some t → lo ≤ t → t < hi → IsSpan instrs a lo hi o → IsSpan instrs (a + 1) lo hi (joined o (Some (record { least = a; greatest = a })))
  adds a lo hi t i o at e low high h = by o h
    where
      one : Span
      one = record { least = a; greatest = a }

      here : Names_in instrs (a + 1) lo hi a
      here = record { instr = i; to = t; here = at; names = e; below = omega arith; from = low; upto = high }

      by : (o : Option Span) → IsSpan instrs a lo hi o → IsSpan instrs (a + 1) lo hi (joined o (Some one))
      by None h = (
        here,
        here,
        λ x n. elim (one_less a lo hi x n) [
          | inl m ↦ absurd (h x m)
          | inr same ↦ (omega (arith, same), omega (arith, same))
        ],
      )
      by (Some s) h = (
        least_of (nat_lt a s.least) s one (Names_in instrs (a + 1) lo hi) (one_more a lo hi s.least h.0) here,
        greatest_of (nat_lt s.greatest a) s one (Names_in instrs (a + 1) lo hi) (one_more a lo hi s.greatest h.1) here,
        λ x n. elim (one_less a lo hi x n) [
          | inl m ↦ within_left s one x (h.2 x m)
          | inr same ↦ within_right s one x (omega (arith, same), omega (arith, same))
        ],
      )

  pub more_noted : (a : ℕ) (i : Instr) (spans : List (Option Span)) → slice_get instrs a ≡ Some i → AreSpans instrs a 1 spans → AreSpans instrs (a + 1) 1 (noted spans (named i) a)
  more_noted a i spans at h = by (named i) refl
    where
      past : (t : ℕ) → named i ≡ Some t → length spans ≤ t → AreSpans instrs (a + 1) 1 spans
      past t e le = record { long = h.long; covers = λ b o get in'. stays a b (b + 1) i o at (λ u f low high. let same : t ≡ u = same_Some t u (sym e ∙ f) in let long = h.long in omega (arith, same, le, low, high, in', long)) (h.covers b o get in') }

      here : (t : ℕ) → named i ≡ Some t → t < length spans → AreSpans instrs (a + 1) 1 (slice_set spans t (joined (slice_index_or spans t None) (Some (record { least = a; greatest = a }))))
      here t e lt = record {
        long = set_long spans t _ ∙ h.long;
        covers = λ b o get in'. elim (cases_lt b t) [
          | inl below ↦ other b o get in' (λ same. omega (arith, below, same))
          | inr above ↦ elim (cases_lt t b) [
            | inl below ↦ other b o get in' (λ same. omega (arith, below, same))
            | inr le ↦ own b o (omega (arith, above, le)) get in'
          ]
        ];
      }
        where
          new : Option Span
          new = joined (slice_index_or spans t None) (Some (record { least = a; greatest = a }))

          other : (b : ℕ) (o : Option Span) → slice_get (slice_set spans t new) b ≡ Some o → b + 1 ≤ length instrs → t ≢ b → IsSpan instrs (a + 1) b (b + 1) o
          other b o get in' apart = stays a b (b + 1) i o at (λ u f low high. apart (let same : t ≡ u = same_Some t u (sym e ∙ f) in omega (arith, same, low, high))) (h.covers b o (sym (set_other spans t b new apart) ∙ get) in')

          own : (b : ℕ) (o : Option Span) → t ≡ b → slice_get (slice_set spans t new) b ≡ Some o → b + 1 ≤ length instrs → IsSpan instrs (a + 1) b (b + 1) o
          own b o same get in' =
              let is : new ≡ o = same_Some new o (sym (set_same spans t new lt) ∙ ap (slice_get (slice_set spans t new)) same ∙ get) in
              let old : IsSpan instrs a b (b + 1) (slice_index_or spans t None) = h.covers b (slice_index_or spans t None) (ap (slice_get spans) (sym same) ∙ read spans t None lt) in' in
              subst (IsSpan instrs (a + 1) b (b + 1)) is (adds a b (b + 1) t i (slice_index_or spans t None) at e (omega (arith, same)) (omega (arith, same)) old)

      some : (t : ℕ) (v : Bool) → named i ≡ Some t → nat_lt t (length spans) ≡ v → AreSpans instrs (a + 1) 1 (cond v (slice_set spans t (joined (slice_index_or spans t None) (Some (record { least = a; greatest = a })))) spans)
      some t true e v = here t e (ltb-true t (length spans) v)
      some t false e v = past t e (ltb-false t (length spans) v)

      by : (o : Option ℕ) → named i ≡ o → AreSpans instrs (a + 1) 1 (noted spans o a)
      by None e = record { long = h.long; covers = λ b o get in'. stays a b (b + 1) i o at (λ u f low high. none-some u (sym e ∙ f)) (h.covers b o get in') }
      by (Some t) e = some t (nat_lt t (length spans)) e refl

  -- ---- twice as wide

  -- those before b are of twice as many addresses
  pub record Widened (count width b : ℕ) (spans : List (Option Span)) : Type 0 where
    pub long : length spans ≡ length instrs
    pub done : (c : ℕ) (o : Option Span) → slice_get spans c ≡ Some o → c < b → c + (width + width) ≤ length instrs → IsSpan instrs count c (c + (width + width)) o
    pub left : (c : ℕ) (o : Option Span) → slice_get spans c ≡ Some o → b ≤ c → c + width ≤ length instrs → IsSpan instrs count c (c + width) o

  pub widen_begins : (count width : ℕ) (spans : List (Option Span)) → AreSpans instrs count width spans → Widened count width 0 spans
  widen_begins count width spans h = record { long = h.long; done = λ c o get lt in'. absurd (omega (arith, lt)); left = λ c o get le in'. h.covers c o get in' }

  pub widen_on : (count width b : ℕ) (spans : List (Option Span)) (x y : Option Span) → 1 ≤ width → slice_get spans b ≡ Some x → slice_get spans (b + width) ≡ Some y → Widened count width b spans → Widened count width (b + 1) (slice_set spans b (joined x y))
  widen_on count width b spans x y some at behind h = record {
    long = set_long spans b (joined x y) ∙ h.long;
    done = λ c o get lt in'. elim (cases_lt c b) [
      | inl below ↦ h.done c o (sym (set_other spans b c (joined x y) (λ same. omega (arith, below, same))) ∙ get) below in'
      | inr above ↦ own c o (omega (arith, above, lt)) get in'
    ];
    left = λ c o get le in'. h.left c o (sym (set_other spans b c (joined x y) (λ same. omega (arith, le, same))) ∙ get) (omega (arith, le)) in';
  }
    where
      own : (c : ℕ) (o : Option Span) → b ≡ c → slice_get (slice_set spans b (joined x y)) c ≡ Some o → c + (width + width) ≤ length instrs → IsSpan instrs count c (c + (width + width)) o
      own c o same get in' =
          let is : joined x y ≡ o = same_Some (joined x y) o (sym (set_same spans b (joined x y) (there spans b x at)) ∙ ap (slice_get (slice_set spans b (joined x y))) same ∙ get) in
          let first : IsSpan instrs count c (c + width) x = h.left c x (ap (slice_get spans) (sym same) ∙ at) (omega (arith, same)) (omega (arith, in')) in
          let second : IsSpan instrs count (c + width) (c + width + width) y = h.left (c + width) y (ap (slice_get spans) (omega (arith, same)) ∙ behind) (omega (arith, same)) (omega (arith, in')) in
          let end : c + width + width ≡ c + (width + width) = omega arith in
          let all : IsSpan instrs count c (c + width + width) (joined x y) = joins count c (c + width) (c + width) (c + width + width) x y (omega arith) (omega arith) (omega arith) first second in
          subst (IsSpan instrs count c (c + (width + width))) is (subst (λ (z : ℕ). IsSpan instrs count c z (joined x y)) end all)

  pub widen_ends : (count width b : ℕ) (spans : List (Option Span)) → 1 ≤ width → length instrs ≤ b + width → Widened count width b spans → AreSpans instrs count (width + width) spans
  widen_ends count width b spans some end h = record { long = h.long; covers = λ c o get in'. h.done c o get (omega (arith, some, end, in')) in' }

  -- ---- a stretch

  pub spans_over : (count width from end : ℕ) (spans : List (Option Span)) (x y : Option Span) → 1 ≤ width → from + width ≤ end → end ≤ length spans → end ≤ from + width + width → slice_get spans from ≡ Some x → slice_get spans (end - width) ≡ Some y → AreSpans instrs count width spans → IsSpan instrs count from end (joined x y)
  spans_over count width from end spans x y some long within over at behind h =
      let size = h.long in
      let back : end - width + width ≡ end = omega (arith, long) in
      let first : IsSpan instrs count from (from + width) x = h.covers from x at (omega (arith, long, within, size)) in
      let second : IsSpan instrs count (end - width) (end - width + width) y = h.covers (end - width) y behind (omega (arith, back, within, size)) in
      joins count from (from + width) (end - width) end x y (omega (arith, long)) (omega (arith, over)) long first (subst (λ (z : ℕ). IsSpan instrs count (end - width) z y) back second)

  -- ---- no spans yet

  pub none_yet : (spans : List (Option Span)) → length spans ≡ length instrs → ((b : ℕ) (o : Option Span) → slice_get spans b ≡ Some o → o ≡ None) → AreSpans instrs 0 1 spans
  none_yet spans long none = record { long = long; covers = λ b o get in'. subst (IsSpan instrs 0 b (b + 1)) (sym (none b o get)) (λ a n. let lt = n.below in omega (arith, lt)) }

  pub none_long : (count : ℕ) → length instrs ≡ count → AreSpans instrs 0 1 (replicate count no_span)
  none_long count e = none_yet (replicate count no_span) (replicate_long count ∙ sym e) (replicate_none count)

  -- ---- addresses behind the code

  pub far_more : (a : ℕ) (i : Instr) (far : Option ℕ) → slice_get instrs a ≡ Some i → IsFar instrs a far → IsFar instrs (a + 1) (farther far (named i) (length instrs))
  far_more a i far at h = by far (named i) refl h
    where
      here : (x t b : ℕ) (j : Instr) → named i ≡ Some t → slice_get instrs x ≡ Some j → named j ≡ Some b → x ≡ a → t ≡ b
      here x t b j e get names same = same_Some t b (sym e ∙ ap named (same_Some i j (sym at ∙ ap (slice_get instrs) (sym same) ∙ get)) ∙ names)

      silent : (x b : ℕ) (j : Instr) → named i ≡ None → slice_get instrs x ≡ Some j → named j ≡ Some b → x ≡ a → ⊥
      silent x b j e get names same = none-some b (sym e ∙ ap named (same_Some i j (sym at ∙ ap (slice_get instrs) (sym same) ∙ get)) ∙ names)

      first : (t : ℕ) (v : Bool) → named i ≡ Some t → nat_lt t (length instrs) ≡ v → IsFar instrs a None → IsFar instrs (a + 1) (cond v None (Some t))
      first t true e v h = λ x b j get names lt. elim (cases_lt x a) [
        | inl below ↦ h x b j get names below
        | inr past ↦ let same : t ≡ b = here x t b j e get names (omega (arith, past, lt)) in let near : t < length instrs = ltb-true t (length instrs) v in omega (arith, same, near)
      ]
      first t false e v h = (
        ltb-false t (length instrs) v,
        (a, i, at, e, omega arith),
        λ x b j get names lt le. elim (cases_lt x a) [
          | inl below ↦ let near = h x b j get names below in absurd (omega (arith, near, le))
          | inr past ↦ let same : t ≡ b = here x t b j e get names (omega (arith, past, lt)) in omega (arith, same)
        ],
      )

      near_or_less : (t f b : ℕ) → (nat_lt t (length instrs) || nat_le f t) ≡ true → t ≡ b → length instrs ≤ b → f ≤ b
      near_or_less t f b v same le = elim (or_cases (nat_lt t (length instrs)) (nat_le f t) v) [
        | inl e ↦ let lt : t < length instrs = ltb-true t (length instrs) e in absurd (omega (arith, lt, same, le))
        | inr e ↦ let ge : f ≤ t = leb-true f t e in omega (arith, ge, same)
      ]

      far_and_less : (t f : ℕ) → (nat_lt t (length instrs) || nat_le f t) ≡ false → (length instrs ≤ t) × (t ≤ f)
      far_and_less t f v = let both = or_none (nat_lt t (length instrs)) (nat_le f t) v in (ltb-false t (length instrs) both.0, (let lt : t < f = leb-false f t both.1 in omega (arith, lt)))

      again : (f t : ℕ) (v : Bool) → named i ≡ Some t → (nat_lt t (length instrs) || nat_le f t) ≡ v → IsFar instrs a (Some f) → IsFar instrs (a + 1) (Some (cond v f t))
      again f t true e v h = (
        h.0,
        (h.1.0, h.1.1, h.1.2, h.1.3, (let lt = h.1.4 in omega (arith, lt))),
        λ x b j get names lt le. elim (cases_lt x a) [
          | inl below ↦ h.2 x b j get names below le
          | inr past ↦ near_or_less t f b v (here x t b j e get names (omega (arith, past, lt))) le
        ],
      )
      again f t false e v h =
          let both = far_and_less t f v in (
            both.0,
            (a, i, at, e, omega arith),
            λ x b j get names lt le. elim (cases_lt x a) [
              | inl below ↦ let less = h.2 x b j get names below le in let over = both.1 in omega (arith, less, over)
              | inr past ↦ let same : t ≡ b = here x t b j e get names (omega (arith, past, lt)) in omega (arith, same)
            ],
          )

      by : (far o : Option ℕ) → named i ≡ o → IsFar instrs a far → IsFar instrs (a + 1) (farther far o (length instrs))
      by None None e h = λ x b j get names lt. elim (cases_lt x a) [
        | inl below ↦ h x b j get names below
        | inr past ↦ absurd (silent x b j e get names (omega (arith, past, lt)))
      ]
      by (Some f) None e h = (
        h.0,
        (h.1.0, h.1.1, h.1.2, h.1.3, (let lt = h.1.4 in omega (arith, lt))),
        λ x b j get names lt le. elim (cases_lt x a) [
          | inl below ↦ h.2 x b j get names below le
          | inr past ↦ absurd (silent x b j e get names (omega (arith, past, lt)))
        ],
      )
      by None (Some t) e h = first t (nat_lt t (length instrs)) e refl h
      by (Some f) (Some t) e h = again f t (nat_lt t (length instrs) || nat_le f t) e refl h

  -- so far
  pub record FarTo (a : ℕ) (fars : List (Option ℕ)) (far : Option ℕ) : Type 0 where
    pub long : length fars ≡ a
    pub each : (c : ℕ) (o : Option ℕ) → slice_get fars c ≡ Some o → IsFar instrs c o
    pub last : IsFar instrs a far

  pub far_begins : FarTo 0 [] None
  far_begins = record { long = refl; each = λ c o get. absurd (none-some o get); last = λ a b i get names lt. absurd (omega (arith, lt)) }

  pub far_on : (a : ℕ) (i : Instr) (fars : List (Option ℕ)) (far : Option ℕ) → slice_get instrs a ≡ Some i → FarTo a fars far → FarTo (a + 1) (fars ++ far ∷ []) (farther far (named i) (length instrs))
  far_on a i fars far at h = record {
    long = push_long fars far ∙ ap (λ n. n + 1) h.long;
    each = λ c o get. elim (push_cases fars far c o get) [
      | inl below ↦ h.each c o below
      | inr last ↦ subst (IsFar instrs c) last.1 (subst (λ n. IsFar instrs n far) (sym (last.0 ∙ h.long)) h.last)
    ];
    last = far_more a i far at h.last;
  }

  pub far_ends : (a : ℕ) (fars : List (Option ℕ)) (far : Option ℕ) → a ≡ length instrs → FarTo a fars far → AreFar instrs fars
  far_ends a fars far end h = record { long = h.long ∙ end; far = h.each }
