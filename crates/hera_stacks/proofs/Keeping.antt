-- How lists are kept: each is found where it is, also when others come.
use Rattle.std.proofs.Common.{◌≡◌, ◌≢◌, ◌<◌, ◌⊎◌, inl, inr, Bool, true, false, cond, ◌&&◌, ℕ, zero, suc, List, [], ◌∷◌, ◌++◌, length, Option, None, Some, refl, sym, ap, subst, ◌∙◌, append-nil, arith}
use Rattle.std.specs.Prelude.{slice_get, slice_set, nat_eq}
use Rattle.std.specs.BTreeMap.{BTreeMap, is_at, get, Updates}
use Rattle.std.specs.Map.{lookup}
use Rattle.std.specs.declared.cmp.Ordering.{Ordering}
use Rattle.std.specs.declared.cmp.Ordering.TheVariants.{Less, Equal, Greater}
use Rattle.std.specs.Ordering.{nat_cmp, is_eq}
use Rattle.std.proofs.lemmas.Bool.{both_ways, eqb-true, eq-eqb, and_parts}
use Rattle.std.proofs.lemmas.Map.Lookups.{exact_pairs, exact_unsigned}
use Rattle.std.proofs.lemmas.Option.{none-some, same_Some, slice_get_within}
use Rattle.hera_stacks.specs.declared.entries.Entry.{Entry}
use Rattle.hera_stacks.specs.declared.entries.Entries.{Entries}
use Rattle.hera_stacks.specs.declared.lists.Cell.{Cell}
use Rattle.hera_stacks.specs.declared.lists.Lists.{Lists}
use Rattle.hera_stacks.specs.declared.stacks.Node.{Node}
use Rattle.hera_stacks.specs.Stacked.{node_at, IsShared, Grows}
use Rattle.hera_stacks.specs.Kept.{order, numbers_of, AreFound, cell_at, is_cell, list_on, list_of, ArePlaced, Adds, node_with, node_of, nodes_of, AreKept}

-- ---- items of lists

pub get_on : {A : Type 0} (xs ys : List A) (i : ℕ) (x : A) → slice_get xs i ≡ Some x → slice_get (xs ++ ys) i ≡ Some x
get_on [] ys i x h = absurd (none-some x h)
get_on (z ∷ xs) ys zero x h = h
get_on (z ∷ xs) ys (suc i) x h = get_on xs ys i x h

push_cases : {A : Type 0} (xs : List A) (y : A) (i : ℕ) (x : A) → slice_get (xs ++ y ∷ []) i ≡ Some x → (slice_get xs i ≡ Some x) ⊎ ((i ≡ length xs) × (y ≡ x))
push_cases [] y zero x h = inr (refl, same_Some y x h)
push_cases [] y (suc i) x h = absurd (none-some x h)
push_cases (z ∷ xs) y zero x h = inl h
push_cases (z ∷ xs) y (suc i) x h = elim (push_cases xs y i x h) [
  | inl below ↦ inl below
  | inr last ↦ inr (ap suc last.0, last.1)
]

get_last : {A : Type 0} (xs : List A) (y : A) → slice_get (xs ++ y ∷ []) (length xs) ≡ Some y
get_last [] y = refl
get_last (x ∷ xs) y = get_last xs y

there : {A : Type 0} (xs : List A) (i : ℕ) → i < length xs → (x : A) × (slice_get xs i ≡ Some x)
there [] i h = absurd (omega (arith, h))
there (x ∷ xs) zero h = (x, refl)
there (x ∷ xs) (suc i) h = there xs i (omega (arith, h))

set_same : {A : Type 0} (xs : List A) (i : ℕ) (x : A) → i < length xs → slice_get (slice_set xs i x) i ≡ Some x
set_same [] i x h = absurd (omega (arith, h))
set_same (y ∷ xs) zero x h = refl
set_same (y ∷ xs) (suc i) x h = set_same xs i x (omega (arith, h))

set_other : {A : Type 0} (xs : List A) (i j : ℕ) (x : A) → i ≢ j → slice_get (slice_set xs i x) j ≡ slice_get xs j
set_other [] i j x h = refl
set_other (y ∷ xs) zero zero x h = absurd (h refl)
set_other (y ∷ xs) zero (suc j) x h = refl
set_other (y ∷ xs) (suc i) zero x h = refl
set_other (y ∷ xs) (suc i) (suc j) x h = set_other xs i j x (λ e. h (ap suc e))

-- ---- what maps tell

exact : (x y : ℕ × ℕ) → order x y ≡ Equal → x ≡ y
exact x y e = exact_pairs nat_cmp nat_cmp exact_unsigned exact_unsigned x y e

is_equal : (o : Ordering) → is_eq o ≡ true → o ≡ Equal
is_equal Less e = absurd (both_ways (is_eq Less) refl e)
is_equal Equal e = refl
is_equal Greater e = absurd (both_ways (is_eq Greater) refl e)

other_key : (before after : BTreeMap (ℕ × ℕ) ℕ) (x y : ℕ × ℕ) (v : ℕ) → Updates order before after x (Some v) → (x ≡ y → ⊥) → get order after y ≡ get order before y
other_key before after x y v put apart = by (is_at (order x) y) refl
  where
    by : (b : Bool) → is_at (order x) y ≡ b → get order after y ≡ get order before y
    by true e = absurd (apart (exact x y (is_equal (order x y) e)))
    by false e = put.0 y ∙ ap (λ b. cond b (Some v) (get order before y)) e

-- ---- an entry more

module _ (entries : List Entry) (before after : BTreeMap (ℕ × ℕ) ℕ) (e : Entry) where
  pub found_put : AreFound entries before → get order before (numbers_of e) ≡ None → Updates order before after (numbers_of e) (Some (length entries)) → AreFound entries after
  found_put h none put i m at = other_key before after (numbers_of e) (numbers_of m) (length entries) put (λ same. none-some i (sym none ∙ ap (get order before) same ∙ h i m at)) ∙ h i m at

  pub found_push : AreFound entries before → get order before (numbers_of e) ≡ None → Updates order before after (numbers_of e) (Some (length entries)) → AreFound (entries ++ e ∷ []) after
  found_push h none put i m at = elim (push_cases entries e i m at) [
    | inl below ↦ found_put h none put i m below
    | inr last ↦ subst (λ (x : Entry). get order after (numbers_of x) ≡ Some i) last.1 (put.1 ∙ ap (λ (j : ℕ). Some j) (sym last.0))
  ]

pub pushed_at : {A : Type 0} (xs : List A) (y : A) (place : ℕ) → place ≡ length xs → slice_get (xs ++ y ∷ []) place ≡ Some y
pushed_at xs y place e = ap (slice_get (xs ++ y ∷ [])) e ∙ get_last xs y

-- ---- cells

same_cell : (d c : Cell) → is_cell (Some d) c ≡ true → d ≡ c
same_cell d c e =
    let both = and_parts (nat_eq d.entry c.entry) (nat_eq d.below c.below) e in
    let entry = eqb-true d.entry c.entry both.0 in
    let below = eqb-true d.below c.below both.1 in
    (λ t. record { entry = entry t; below = below t })

cell_same : (c : Cell) → is_cell (Some c) c ≡ true
cell_same c = λ t. eq-eqb c.entry c.entry refl t && eq-eqb c.below c.below refl t

not_cell : (d c : Cell) → (d ≡ c → ⊥) → is_cell (Some d) c ≡ false
not_cell d c apart = by (is_cell (Some d) c) refl
  where
    by : (v : Bool) → is_cell (Some d) c ≡ v → is_cell (Some d) c ≡ false
    by true e = absurd (apart (same_cell d c e))
    by false e = e

abbrev key_of : Cell → ℕ × ℕ
key_of c = (c.entry, c.below)

key_same : (d c : Cell) → key_of d ≡ key_of c → d ≡ c
key_same d c e = λ t. record { entry = (e t).0; below = (e t).1 }

-- another cell behind the others
stays : (cells : List Cell) (c d : Cell) (t : ℕ) → (c ≡ d → ⊥) → is_cell (slice_get (cells ++ c ∷ []) t) d ≡ is_cell (slice_get cells t) d
stays [] c d zero apart = not_cell c d apart
stays [] c d (suc t) apart = refl
stays (x ∷ cells) c d zero apart = refl
stays (x ∷ cells) c d (suc t) apart = stays cells c d t apart

still_on : (cells : List Cell) (others : BTreeMap (ℕ × ℕ) ℕ) (c d : Cell) (o : Option ℕ) → (c ≡ d → ⊥) → list_on (cells ++ c ∷ []) others o d ≡ list_on cells others o d
still_on cells others c d None apart = refl
still_on cells others c d (Some zero) apart = refl
still_on cells others c d (Some (suc t)) apart = ap (λ v. cond v (Some (suc t)) (get order others (d.entry, d.below))) (stays cells c d t apart)

-- ---- lists keep their numbers

module _ (cells : List Cell) (tops : List ℕ) (others : BTreeMap (ℕ × ℕ) ℕ) where
  pub placed_begun : ArePlaced cells tops others → ArePlaced cells (tops ++ 0 ∷ []) others
  placed_begun h i d at = by (slice_get tops d.below) refl (h i d at)
    where
      by : (o : Option ℕ) → slice_get tops d.below ≡ o → list_on cells others o d ≡ Some (suc i) → list_of cells (tops ++ 0 ∷ []) others d ≡ Some (suc i)
      by None e g = absurd (none-some (suc i) g)
      by (Some t) e g = ap (λ o. list_on cells others o d) (get_on tops (0 ∷ []) d.below t e) ∙ g

  pub placed_still : (after : BTreeMap (ℕ × ℕ) ℕ) → after.entries ≡ others.entries → ArePlaced cells tops others → ArePlaced cells tops after
  placed_still after e h i d at = told (slice_get tops d.below) ∙ h i d at
    where
      told : (o : Option ℕ) → list_on cells after o d ≡ list_on cells others o d
      told None = refl
      told (Some zero) = refl
      told (Some (suc t)) = ap (λ es. cond (is_cell (slice_get cells t) d) (Some (suc t)) (lookup (is_at (order (d.entry, d.below))) es)) e

  placed_same : (i j : ℕ) (c : Cell) → ArePlaced cells tops others → slice_get cells i ≡ Some c → slice_get cells j ≡ Some c → i ≡ j
  placed_same i j c h e g = let same = same_Some (suc i) (suc j) (sym (h i c e) ∙ h j c g) in omega (arith, same)

  -- the first list on its rest
  pub placed_first : (c : Cell) (list : ℕ) → list ≡ suc (length cells) → slice_get tops c.below ≡ Some 0 → ArePlaced cells tops others → ArePlaced (cells ++ c ∷ []) (slice_set tops c.below list) others
  placed_first c list is bare h i d at = elim (push_cases cells c i d at) [
    | inl own ↦ old own
    | inr last ↦ subst (λ (x : Cell). list_of (cells ++ c ∷ []) (slice_set tops c.below list) others x ≡ Some (suc i)) last.1 (new ∙ ap (λ (n : ℕ). Some (suc n)) (sym last.0))
  ]
    where
      old : slice_get cells i ≡ Some d → list_of (cells ++ c ∷ []) (slice_set tops c.below list) others d ≡ Some (suc i)
      old own =
          let apart : c.below ≢ d.below = λ same. none-some (suc i) (sym (ap (λ o. list_on cells others o d) (ap (slice_get tops) (sym same) ∙ bare)) ∙ h i d own) in
          ap (λ o. list_on (cells ++ c ∷ []) others o d) (set_other tops c.below d.below list apart) ∙ still_on cells others c d (slice_get tops d.below) (λ e. apart (ap (λ (x : Cell). x.below) e)) ∙ h i d own

      new : list_of (cells ++ c ∷ []) (slice_set tops c.below list) others c ≡ Some (suc (length cells))
      new =
          ap (λ o. list_on (cells ++ c ∷ []) others o c) (set_same tops c.below list (slice_get_within tops c.below 0 bare) ∙ ap (λ (n : ℕ). Some n) is)
          ∙ ap (λ o. cond (is_cell o c) (Some (suc (length cells))) (get order others (c.entry, c.below))) (get_last cells c)
          ∙ ap (λ v. cond v (Some (suc (length cells))) (get order others (c.entry, c.below))) (cell_same c)

  -- another one on its rest
  module _ (after : BTreeMap (ℕ × ℕ) ℕ) (c first : Cell) (t list : ℕ) (top : slice_get tops c.below ≡ Some (suc t)) (first-is : slice_get cells t ≡ Some first) (apart : first ≡ c → ⊥) (none : get order others (c.entry, c.below) ≡ None) (put : Updates order others after (c.entry, c.below) (Some list)) where
    absent : list_of cells tops others c ≡ None
    absent =
        ap (λ o. list_on cells others o c) top
        ∙ ap (λ o. cond (is_cell o c) (Some (suc t)) (get order others (c.entry, c.below))) first-is
        ∙ ap (λ v. cond v (Some (suc t)) (get order others (c.entry, c.below))) (not_cell first c apart)
        ∙ none

    differs : (i : ℕ) (d : Cell) → ArePlaced cells tops others → slice_get cells i ≡ Some d → c ≡ d → ⊥
    differs i d h own e = none-some (suc i) (sym absent ∙ ap (list_of cells tops others) e ∙ h i d own)

    told : (d : Cell) (o : Option ℕ) → (c ≡ d → ⊥) → list_on cells after o d ≡ list_on cells others o d
    told d None other = refl
    told d (Some zero) other = refl
    told d (Some (suc s)) other = ap (λ g. cond (is_cell (slice_get cells s) d) (Some (suc s)) g) (other_key others after (c.entry, c.below) (d.entry, d.below) list put (λ e. other (key_same c d e)))

    pub placed_put : ArePlaced cells tops others → ArePlaced cells tops after
    placed_put h i d own = told d (slice_get tops d.below) (differs i d h own) ∙ h i d own

    pub placed_other : list ≡ suc (length cells) → ArePlaced cells tops others → ArePlaced (cells ++ c ∷ []) tops after
    placed_other is h i d at = elim (push_cases cells c i d at) [
      | inl own ↦ still_on cells after c d (slice_get tops d.below) (differs i d h own) ∙ placed_put h i d own
      | inr last ↦ subst (λ (x : Cell). list_of (cells ++ c ∷ []) tops after x ≡ Some (suc i)) last.1 (new ∙ ap (λ (n : ℕ). Some (suc n)) (sym last.0))
    ]
      where
        new : list_of (cells ++ c ∷ []) tops after c ≡ Some (suc (length cells))
        new =
            ap (λ o. list_on (cells ++ c ∷ []) after o c) top
            ∙ ap (λ o. cond (is_cell o c) (Some (suc t)) (get order after (c.entry, c.below))) (get_on cells (c ∷ []) t first first-is)
            ∙ ap (λ v. cond v (Some (suc t)) (get order after (c.entry, c.below))) (not_cell first c apart)
            ∙ put.1
            ∙ ap (λ (n : ℕ). Some n) is

pub newest_at : (cells : List Cell) (c : Cell) (list : ℕ) → list ≡ suc (length cells) → cell_at (cells ++ c ∷ []) list ≡ Some c
newest_at cells c list e = ap (cell_at (cells ++ c ∷ [])) e ∙ get_last cells c

-- ---- what stands first in lists

node_is : (entries : List Entry) (c : Cell) (e : Entry) → slice_get entries c.entry ≡ Some e → node_of entries c ≡ record { seen = e.seen; gathers = e.gathers; below = c.below }
node_is entries c e h = ap (λ o. node_with o c.below) h

pub cell_node : (entries : List Entry) (cells : List Cell) (i : ℕ) (c : Cell) → slice_get cells i ≡ Some c → slice_get (nodes_of entries cells) i ≡ Some (node_of entries c)
cell_node entries [] i c h = absurd (none-some c h)
cell_node entries (d ∷ cells) zero c h = ap (λ (x : Cell). Some (node_of entries x)) (same_Some d c h)
cell_node entries (d ∷ cells) (suc i) c h = cell_node entries cells i c h

node_cell : (entries : List Entry) (cells : List Cell) (i : ℕ) (n : Node) → slice_get (nodes_of entries cells) i ≡ Some n → (c : Cell) × (slice_get cells i ≡ Some c) × (node_of entries c ≡ n)
node_cell entries [] i n h = absurd (none-some n h)
node_cell entries (d ∷ cells) zero n h = (d, refl, same_Some (node_of entries d) n h)
node_cell entries (d ∷ cells) (suc i) n h = node_cell entries cells i n h

pub list_node : (entries : List Entry) (cells : List Cell) (list : ℕ) (c : Cell) (e : Entry) → cell_at cells list ≡ Some c → slice_get entries c.entry ≡ Some e → node_at (nodes_of entries cells) list ≡ Some (record { seen = e.seen; gathers = e.gathers; below = c.below })
list_node entries cells zero c e h at = absurd (none-some c h)
list_node entries cells (suc i) c e h at = cell_node entries cells i c h ∙ ap (λ (n : Node). Some n) (node_is entries c e at)

pub kept_shared : (e : Entries) (l : Lists) → AreKept e l → IsShared (nodes_of e.all.items l.cells.items)
kept_shared e l h i j n own other =
    let entries = e.all.items in
    let a = node_cell entries l.cells.items i n own in
    let b = node_cell entries l.cells.items j n other in
    let x = there entries a.0.entry (h.there i a.0 a.1) in
    let y = there entries b.0.entry (h.there j b.0 b.1) in
    let node = sym (node_is entries a.0 x.0 x.1) ∙ a.2 ∙ sym b.2 ∙ node_is entries b.0 y.0 y.1 in
    let entry : x.0 ≡ y.0 = (λ t. record { seen = (node t).seen; gathers = (node t).gathers }) in
    let place = same_Some a.0.entry b.0.entry (sym (h.found a.0.entry x.0 x.1) ∙ ap (λ (z : Entry). get order e.places (numbers_of z)) entry ∙ h.found b.0.entry y.0 y.1) in
    let cell : a.0 ≡ b.0 = (λ t. record { entry = place t; below = (node t).below }) in
    placed_same l.cells.items l.tops.items l.others i j b.0 h.placed (a.1 ∙ ap (λ (c : Cell). Some c) cell) b.1

-- ---- more entries and more lists

nodes_stay : (entries more : List Entry) (cells : List Cell) → ((i : ℕ) (c : Cell) → slice_get cells i ≡ Some c → c.entry < length entries) → nodes_of (entries ++ more) cells ≡ nodes_of entries cells
nodes_stay entries more [] h = refl
nodes_stay entries more (c ∷ cells) h =
    let e = there entries c.entry (h 0 c refl) in
    let first : node_of (entries ++ more) c ≡ node_of entries c = ap (λ o. node_with o c.below) (get_on entries more c.entry e.0 e.1 ∙ sym e.1) in
    let rest = nodes_stay entries more cells (λ i d at. h (suc i) d at) in
    (λ t. first t ∷ rest t)

nodes_push : (entries : List Entry) (cells : List Cell) (c : Cell) → nodes_of entries (cells ++ c ∷ []) ≡ nodes_of entries cells ++ node_of entries c ∷ []
nodes_push entries [] c = refl
nodes_push entries (d ∷ cells) c = ap (λ ns. node_of entries d ∷ ns) (nodes_push entries cells c)

length_more : {A : Type 0} (xs ys : List A) (n : ℕ) → n < length xs → n < length (xs ++ ys)
length_more [] ys n h = absurd (omega (arith, h))
length_more (x ∷ xs) ys zero h = omega arith
length_more (x ∷ xs) ys (suc n) h = let more = length_more xs ys n (omega (arith, h)) in omega (arith, more)

module _ (entries after : List Entry) (cells lists : List Cell) (more : (xs : List Entry) × (after ≡ entries ++ xs)) (h : (i : ℕ) (c : Cell) → slice_get cells i ≡ Some c → c.entry < length entries) where
  same_nodes : nodes_of after cells ≡ nodes_of entries cells
  same_nodes = ap (λ xs. nodes_of xs cells) more.1 ∙ nodes_stay entries more.0 cells h

  pub entries_grow : Grows (nodes_of entries cells) (nodes_of after cells)
  entries_grow = ([], same_nodes ∙ sym (append-nil (nodes_of entries cells)))

  pub entries_there : (i : ℕ) (c : Cell) → slice_get cells i ≡ Some c → c.entry < length after
  entries_there i c at = subst (λ xs. c.entry < length xs) (sym more.1) (length_more entries more.0 c.entry (h i c at))

  pub lists_grow : (c : Cell) → Adds cells lists c → Grows (nodes_of entries cells) (nodes_of after lists)
  lists_grow c (inl same) = ([], ap (nodes_of after) same ∙ same_nodes ∙ sym (append-nil (nodes_of entries cells)))
  lists_grow c (inr behind) = (node_of after c ∷ [], ap (nodes_of after) behind ∙ nodes_push after cells c ∙ ap (λ ns. ns ++ node_of after c ∷ []) same_nodes)

  pub lists_there : (c : Cell) → Adds cells lists c → c.entry < length after → (i : ℕ) (d : Cell) → slice_get lists i ≡ Some d → d.entry < length after
  lists_there c (inl same) own i d at = entries_there i d (sym (ap (λ xs. slice_get xs i) same) ∙ at)
  lists_there c (inr behind) own i d at = elim (push_cases cells c i d (sym (ap (λ xs. slice_get xs i) behind) ∙ at)) [
    | inl old ↦ entries_there i d old
    | inr last ↦ subst (λ (x : Cell). x.entry < length after) last.1 own
  ]
