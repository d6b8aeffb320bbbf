-- What was read is spelled as it is printed.
use Rattle.std.proofs.Common.{◌≡◌, ◌≤◌, ◌<◌, ℕ, zero, suc, ◌+◌, ◌-◌, Bool, true, false, cond, not, List, [], ◌∷◌, ◌++◌, length, take, drop, map, Option, Some, None, refl, sym, ap, subst, ◌∙◌, append_assoc, arith, inl, inr, ◌⊎◌}
use Rattle.std.specs.Prelude.{◌==◌, ◌&&◌, nat_le, nat_lt}
use Rattle.std.specs.List.{flat_map, list_all}
use Rattle.std.specs.Option.{option_and_then}
use Rattle.std.specs.Int.{w16, w32, to_be_bytes, from_be_bytes}
use Rattle.std.proofs.lemmas.Bool.{eqb-true, leb-true, ltb-true, and_parts}
use Rattle.std.proofs.lemmas.Option.{none-some, same_Some, cond_some}
use Rattle.std.proofs.lemmas.List.{length-append, length-take, append-nil}
use Rattle.std.proofs.lemmas.List.Concat.{flat_map-append}
use Rattle.std.proofs.lemmas.Nat.{be_bytes_2, be_bytes_4}
use Rattle.hera_sets.specs.Rows.{Row, is_same, holds}
use Rattle.hera_sets.proofs.Order.{same_true}
use Rattle.hera_meaning.specs.declared.scalars.Kind.{Kind}
use Rattle.hera_meaning.specs.declared.scalars.Kind.TheVariants.{Int as int_kind, Bool as bool_kind, Text as text_kind}
use Rattle.hera_meaning.specs.declared.schemas.Attr.{Attr}
use Rattle.hera_meaning.specs.declared.schemas.RelDecl.{RelDecl}
use Rattle.hera_meaning.specs.Schemas.{names_of}
use Rattle.hera_meaning.specs.Catalogues.{decl_name}
use Rattle.hera_meaning.specs.Rows.{IsRow}
use Rattle.hera_meaning.specs.Deltas.{schema_of}
use Rattle.hera_row.specs.Reading.{row_len_of}
use Rattle.hera_row.proofs.RowLemmas.{row_len_some}
use Rattle.hera_row.proofs.FieldLemmas.{AreBytes, AreBytes-take, AreBytes-drop}
use Rattle.rel_format.specs.Pages.{Format, name_bytes, kind_byte, attr_bytes, decl_bytes, header_of, joined, zeros, page_bytes, used_by}
use Rattle.rel_format.specs.Fields.{kept, piece, number, first_byte, kind_of, is_identifier, name_field, new_name, length_field, width_field, count_field, kind_field, magic_field, follows, rel_field, row_count_field, row_keeps, first_row, fill_field}
use Rattle.rel_format.specs.Table.{Stand, RelationSoFar, at_magic, at_count, at_rels, at_name, at_width, at_attr, at_attr_name, at_kind, at_page, at_row_count, at_row, at_fill, behind_attr, with_attr, Book, Page, no_pages, add_page, with_page, with_row_in, behind_row, page_before, row_before, used_before, row_in, next, field, long_field}
use Rattle.rel_format.specs.Places.{Reaches}
use Rattle.rel_format.specs.SoFar.{rels_front, part_front, groups_bytes, pages_counted, book_front, open_page, so_far}
use Rattle.rel_format.proofs.Walks.{kept_by}
use Rattle.rel_format.proofs.Good.{GoodBook, GoodPage, group_at, group_no_pages, good_no_pages, groups_length, none_behind, page_more, page_closed}

-- ---- single fields

pub record FieldIs (A : Type 0) (n : ℕ) (behind : A → Stand) (o : Option A) (m : ℕ) (t : Stand) : Type 0 where
  pub value : A
  pub is : o ≡ Some value
  pub size : n ≡ m
  pub next : behind value ≡ t

abbrev pair : ℕ → Stand → ℕ × Stand
pair n t = (n, t)

field_is : {A : Type 0} (n : ℕ) (behind : A → Stand) (o : Option A) (m : ℕ) (t : Stand) → field n behind o ≡ Some (m, t) → FieldIs A n behind o m t
field_is n behind None m t e = absurd (none-some (m, t) e)
field_is n behind (Some x) m t e =
    let same = same_Some (pair n (behind x)) (pair m t) e in
    record { value = x; is = refl; size = ap (λ (z : ℕ × Stand). z.0) same; next = ap (λ (z : ℕ × Stand). z.1) same }

pub kept_is : {A : Type 0} (rule : A → Bool) (o : Option A) (x : A) → kept rule o ≡ Some x → (o ≡ Some x) × (rule x ≡ true)
kept_is rule None x e = absurd (none-some x e)
kept_is rule (Some y) x e =
    let both = cond_some (rule y) y x e in
    (ap (λ z. Some z) both.1, ap rule (sym both.1) ∙ both.0)

pub byte_is : (rest : List ℕ) (b : ℕ) → first_byte rest ≡ Some b → take 1 rest ≡ b ∷ []
byte_is [] b e = absurd (none-some b e)
byte_is (c ∷ rest) b e = ap (λ x. x ∷ []) (same_Some c b e)

pub piece_is : (n : ℕ) (rest name : List ℕ) → piece n rest ≡ Some name → (take n rest ≡ name) × (n ≡ length name)
piece_is n rest name e =
    let both = cond_some (nat_le n (length rest)) (take n rest) name e in
    let len = ap (λ (x : List ℕ). length x) both.1 in
    let within = leb-true n (length rest) both.0 in
    (both.1, omega (arith, len, length-take n rest, within))

name_is : (names : List (List ℕ)) (n : ℕ) (rest name : List ℕ) → new_name names n rest ≡ Some name → (take n rest ≡ name) × (n ≡ length name)
name_is names n rest name e =
    piece_is n rest name ((kept_is is_identifier (piece n rest) name ((kept_is (λ x. not (holds names x)) (name_field n rest) name e).0)).0)

count_is : (rest : List ℕ) (n : ℕ) → AreBytes rest → count_field rest ≡ Some n → to_be_bytes w16 n ≡ take 2 rest
count_is rest n bytes e =
    let both = cond_some (nat_le 2 (length rest)) (from_be_bytes w16 (take 2 rest)) n ((kept_is (λ k. nat_le k 256) (number w16 rest) n e).0) in
    let within = leb-true 2 (length rest) both.0 in
    be_bytes_2 (take 2 rest) n (omega (arith, length-take 2 rest, within)) (AreBytes-take 2 rest bytes) (sym both.1)

chosen : {A : Type 0} (b : Bool) (x y z : A) → cond b x y ≡ z → ((b ≡ true) × (x ≡ z)) ⊎ ((b ≡ false) × (y ≡ z))
chosen true x y z e = inl (refl, e)
chosen false x y z e = inr (refl, e)

kind_back : (n : ℕ) (kind : Kind) → kind_of n ≡ Some kind → n ≡ kind_byte kind
kind_back n kind e =
    elim (chosen (n == 1) (Some int_kind) (cond (n == 2) (Some bool_kind) (cond (n == 3) (Some text_kind) None)) (Some kind) e) [
      | inl h ↦ eqb-true n 1 h.0 ∙ ap kind_byte (same_Some int_kind kind h.1)
      | inr h ↦ elim (chosen (n == 2) (Some bool_kind) (cond (n == 3) (Some text_kind) None) (Some kind) h.1) [
        | inl g ↦ eqb-true n 2 g.0 ∙ ap kind_byte (same_Some bool_kind kind g.1)
        | inr g ↦ elim (chosen (n == 3) (Some text_kind) None (Some kind) g.1) [
          | inl k ↦ eqb-true n 3 k.0 ∙ ap kind_byte (same_Some text_kind kind k.1)
          | inr k ↦ absurd (none-some kind k.1)
        ]
      ]
    ]

pub kind_is : (rest : List ℕ) (kind : Kind) → kind_field rest ≡ Some kind → take 1 rest ≡ kind_byte kind ∷ []
kind_is [] kind e = absurd (none-some kind e)
kind_is (b ∷ rest) kind e = ap (λ x. x ∷ []) (kind_back b kind e)

-- ---- the prints of stands

pub one_more : {A : Type 0} (f : A → List ℕ) (xs : List A) (x : A) → flat_map f (xs ++ x ∷ []) ≡ flat_map f xs ++ f x
one_more f xs x = flat_map-append f xs (x ∷ []) ∙ ap (λ (t : List ℕ). flat_map f xs ++ t) (append-nil (f x))

-- behind an attribute the print is that of the part
behind_print : (f : Format) (p : RelationSoFar) (n : ℕ) → so_far f (behind_attr p n) ≡ part_front f p (length p.attrs + n)
behind_print f p (suc n) = refl
behind_print f p zero =
    let d : RelDecl = record { name = p.name; schema = p.attrs } in
    let count : length (p.rels ++ d ∷ []) + p.left ≡ length p.rels + suc p.left = omega (arith, length-append p.rels (d ∷ [])) in
    let width : length p.attrs ≡ length p.attrs + 0 = omega arith in
    let number = to_be_bytes w16 (length p.rels + suc p.left) in
    ap (λ (k : ℕ). f.magic ++ to_be_bytes w16 k ++ flat_map decl_bytes (p.rels ++ d ∷ [])) count
    ∙ ap (λ (t : List ℕ). f.magic ++ number ++ t) (one_more decl_bytes p.rels d)
    ∙ ap (λ (k : ℕ). f.magic ++ number ++ (flat_map decl_bytes p.rels ++ (name_bytes p.name ++ k ∷ flat_map attr_bytes p.attrs))) width
    ∙ sym (append_assoc (f.magic ++ number) (flat_map decl_bytes p.rels) (name_bytes p.name ++ (length p.attrs + 0) ∷ flat_map attr_bytes p.attrs))

named : (front name rest : List ℕ) (n : ℕ) → n ≡ length name → take n rest ≡ name → front ++ name_bytes name ≡ (front ++ n ∷ []) ++ take n rest
named front name rest n len e =
    ap (λ (k : ℕ). front ++ (k ∷ name)) (sym len) ∙ ap (λ (t : List ℕ). front ++ (n ∷ t)) (sym e) ∙ sym (append_assoc front (n ∷ []) (take n rest))

with_kind : (f : Format) (p : RelationSoFar) (more : ℕ) (name : List ℕ) (kind : Kind) →
    part_front f (with_attr p (record { name = name; kind = kind })) (length (p.attrs ++ record { name = name; kind = kind } ∷ []) + more)
    ≡ (part_front f p (length p.attrs + suc more) ++ name_bytes name) ++ kind_byte kind ∷ []
with_kind f p more name kind =
    let a : Attr = record { name = name; kind = kind } in
    let front = rels_front f p.rels (suc p.left) in
    let width : length (p.attrs ++ a ∷ []) + more ≡ length p.attrs + suc more = omega (arith, length-append p.attrs (a ∷ [])) in
    let w = length p.attrs + suc more in
    ap (λ (k : ℕ). front ++ (name_bytes p.name ++ k ∷ flat_map attr_bytes (p.attrs ++ a ∷ []))) width
    ∙ ap (λ (t : List ℕ). front ++ (name_bytes p.name ++ w ∷ t)) (one_more attr_bytes p.attrs a)
    ∙ ap (λ (t : List ℕ). front ++ t) (sym (append_assoc (name_bytes p.name) (w ∷ flat_map attr_bytes p.attrs) (name_bytes name ++ kind_byte kind ∷ [])))
    ∙ sym (append_assoc front (name_bytes p.name ++ w ∷ flat_map attr_bytes p.attrs) (name_bytes name ++ kind_byte kind ∷ []))
    ∙ sym (append_assoc (part_front f p w) (name_bytes name) (kind_byte kind ∷ []))

number16 : (rest : List ℕ) (n : ℕ) → AreBytes rest → number w16 rest ≡ Some n → to_be_bytes w16 n ≡ take 2 rest
number16 rest n bytes e =
    let both = cond_some (nat_le 2 (length rest)) (from_be_bytes w16 (take 2 rest)) n e in
    let within = leb-true 2 (length rest) both.0 in
    be_bytes_2 (take 2 rest) n (omega (arith, length-take 2 rest, within)) (AreBytes-take 2 rest bytes) (sym both.1)

number32 : (rest : List ℕ) (n : ℕ) → AreBytes rest → number w32 rest ≡ Some n → to_be_bytes w32 n ≡ take 4 rest
number32 rest n bytes e =
    let both = cond_some (nat_le 4 (length rest)) (from_be_bytes w32 (take 4 rest)) n e in
    let within = leb-true 4 (length rest) both.0 in
    be_bytes_4 (take 4 rest) n (omega (arith, length-take 4 rest, within)) (AreBytes-take 4 rest bytes) (sym both.1)

two_bytes : (bs : List ℕ) → length bs ≡ 2 → AreBytes bs → from_be_bytes w16 bs < 65536
two_bytes [] h bytes = absurd (omega (arith, h))
two_bytes (a ∷ []) h bytes = absurd (omega (arith, h))
two_bytes (a ∷ b ∷ []) h bytes = omega (arith, bytes 0, bytes 1)
two_bytes (a ∷ b ∷ c ∷ bs) h bytes = absurd (omega (arith, h))

pub number16_small : (rest : List ℕ) (n : ℕ) → AreBytes rest → number w16 rest ≡ Some n → n < 65536
number16_small rest n bytes e =
    let both = cond_some (nat_le 2 (length rest)) (from_be_bytes w16 (take 2 rest)) n e in
    let within = leb-true 2 (length rest) both.0 in
    let small = two_bytes (take 2 rest) (omega (arith, length-take 2 rest, within)) (AreBytes-take 2 rest bytes) in
    omega (arith, small, both.1)

-- the front of a list, taken by its own length
front_of : (n : ℕ) (xs : List ℕ) → take (length (take n xs)) xs ≡ take n xs
front_of zero xs = refl
front_of (suc n) [] = refl
front_of (suc n) (x ∷ xs) = ap (λ (t : List ℕ). x ∷ t) (front_of n xs)

front_row : (o : Option ℕ) (xs r : List ℕ) → option_and_then (λ n. Some (take n xs)) o ≡ Some r → r ≡ take (length r) xs
front_row None xs r e = absurd (none-some r e)
front_row (Some n) xs r e = let same = same_Some (take n xs) r e in sym same ∙ sym (front_of n xs) ∙ ap (λ (y : List ℕ). take (length y) xs) same

all_zero : (xs : List ℕ) → list_all (λ x. x == 0) xs ≡ true → xs ≡ zeros (length xs)
all_zero [] h = refl
all_zero (x ∷ xs) h =
    let both = and_parts (x == 0) (list_all (λ y. y == 0) xs) h in
    ap (λ (y : ℕ). y ∷ xs) (eqb-true x 0 both.0) ∙ ap (λ (t : List ℕ). 0 ∷ t) (all_zero xs both.1)

pub record LongIs (behind : List ℕ → Stand) (o : Option (List ℕ)) (m : ℕ) (t : Stand) : Type 0 where
  pub value : List ℕ
  pub is : o ≡ Some value
  pub size : length value ≡ m
  pub next : behind value ≡ t

long_is : (behind : List ℕ → Stand) (o : Option (List ℕ)) (m : ℕ) (t : Stand) → long_field behind o ≡ Some (m, t) → LongIs behind o m t
long_is behind None m t e = absurd (none-some (m, t) e)
long_is behind (Some x) m t e =
    let same = same_Some (pair (length x) (behind x)) (pair m t) e in
    record { value = x; is = refl; size = ap (λ (z : ℕ × Stand). z.0) same; next = ap (λ (z : ℕ × Stand). z.1) same }

behind_row_print : (f : Format) (b : Book) (left : ℕ) (p : Page) (n : ℕ) → so_far f (behind_row b left p n) ≡ open_page f b left p n
behind_row_print f b left p zero = refl
behind_row_print f b left p (suc n) = refl

-- ---- the prints of pages

groups_none : (page n : ℕ) (gs : List (List (List Row))) → ((r : ℕ) → group_at gs r ≡ []) → groups_bytes page n gs ≡ []
groups_none page n [] h = refl
groups_none page n (g ∷ gs) h = ap (λ (x : List (List Row)). flat_map (page_bytes page n) x ++ groups_bytes page (suc n) gs) (h 0) ∙ groups_none page (suc n) gs (λ r. h (suc r))

groups_add_print : (page n : ℕ) (gs : List (List (List Row))) (rel : ℕ) (rows : List Row) → rel < length gs → ((r : ℕ) → rel < r → group_at gs r ≡ []) → groups_bytes page n (add_page gs rel rows) ≡ groups_bytes page n gs ++ page_bytes page (n + rel) rows
groups_add_print page n [] rel rows lt none = absurd (omega (arith, lt))
groups_add_print page n (g ∷ gs) zero rows lt none =
    let pb = page_bytes page n in
    let over : groups_bytes page (suc n) gs ≡ [] = groups_none page (suc n) gs (λ r. none (suc r) (omega arith)) in
    let here : n ≡ n + 0 = omega arith in
    ap (λ (t : List ℕ). flat_map pb (g ++ rows ∷ []) ++ t) over ∙ append-nil (flat_map pb (g ++ rows ∷ [])) ∙ one_more pb g rows
    ∙ ap (λ (t : List ℕ). t ++ pb rows) (sym (append-nil (flat_map pb g)) ∙ ap (λ (t : List ℕ). flat_map pb g ++ t) (sym over))
    ∙ ap (λ (m : ℕ). (flat_map pb g ++ groups_bytes page (suc n) gs) ++ page_bytes page m rows) here
groups_add_print page n (g ∷ gs) (suc rel) rows lt none =
    let here : suc n + rel ≡ n + suc rel = omega arith in
    ap (λ (t : List ℕ). flat_map (page_bytes page n) g ++ t) (groups_add_print page (suc n) gs rel rows (omega (arith, lt)) (λ r after. none (suc r) (omega (arith, after))))
    ∙ sym (append_assoc (flat_map (page_bytes page n) g) (groups_bytes page (suc n) gs) (page_bytes page (suc n + rel) rows))
    ∙ ap (λ (m : ℕ). (flat_map (page_bytes page n) g ++ groups_bytes page (suc n) gs) ++ page_bytes page m rows) here

counted_add : (gs : List (List (List Row))) (rel : ℕ) (rows : List Row) → rel < length gs → pages_counted (add_page gs rel rows) ≡ suc (pages_counted gs)
counted_add [] rel rows lt = absurd (omega (arith, lt))
counted_add (g ∷ gs) zero rows lt = omega (arith, length-append g (rows ∷ []))
counted_add (g ∷ gs) (suc rel) rows lt = let more = counted_add gs rel rows (omega (arith, lt)) in omega (arith, more)

pub counted_none : (rels : List RelDecl) → pages_counted (map (λ (d : RelDecl). []) rels) ≡ 0
counted_none [] = refl
counted_none (d ∷ rels) = let more = counted_none rels in omega (arith, more)

-- ---- what holds at a stand

pub record GoodRow (f : Format) (b : Book) (p : Page) (more : ℕ) : Type 0 where
  pub page : GoodPage f b p
  pub few : length p.rows + more < 65536

abbrev pub Good : Format → Stand → Type 0
Good f (at_page b left) = GoodBook f b
Good f (at_row_count b left rel) = GoodPage f b (record { rel = rel; rows = [] })
Good f (at_row b left p more) = GoodRow f b p (suc more)
Good f (at_fill b left p) = GoodRow f b p 0 × (1 ≤ length p.rows)
Good f _ = Unit {0}

row_is : (schema : List Attr) (rest r : List ℕ) → AreBytes rest → first_row schema rest ≡ Some r → IsRow schema r
row_is schema rest r bytes e = by (row_len_of schema rest) refl e
  where
    by : (o : Option ℕ) → o ≡ row_len_of schema rest → option_and_then (λ n. Some (take n rest)) o ≡ Some r → IsRow schema r
    by None w h = absurd (none-some r h)
    by (Some n) w h = subst (IsRow schema) (same_Some (take n rest) r h) ((row_len_some schema rest (Some n) bytes w).1)

good_behind_row : (f : Format) (b : Book) (left : ℕ) (p : Page) (n : ℕ) → GoodRow f b p n → 1 ≤ length p.rows → Good f (behind_row b left p n)
good_behind_row f b left p zero h some = (h, some)
good_behind_row f b left p (suc n) h some = h

good_first_row : (f : Format) (b : Book) (left : ℕ) (p : Page) (n : ℕ) → GoodRow f b p n → 1 ≤ n → Good f (behind_row b left p n)
good_first_row f b left p zero h some = absurd (omega (arith, some))
good_first_row f b left p (suc n) h some = h

good_behind_attr : (f : Format) (p : RelationSoFar) (n : ℕ) → Good f (behind_attr p n)
good_behind_attr f p zero = tt
good_behind_attr f p (suc n) = tt

good_step : (f : Format) (s : Stand) (rest : List ℕ) (n : ℕ) (t : Stand) → AreBytes rest → Good f s → next f s rest ≡ Some (n, t) → Good f t
good_step f at_magic rest n t bytes good e = subst (Good f) (field_is 8 (λ m. at_count) (magic_field f.magic rest) n t e).next tt
good_step f at_count rest n t bytes good e = subst (Good f) (field_is 2 (at_rels []) (count_field rest) n t e).next tt
good_step f (at_rels rels zero) rest n t bytes good e = subst (Good f) (field_is 4 (at_page (no_pages rels)) (number w32 rest) n t e).next (good_no_pages f rels)
good_step f (at_rels rels (suc left)) rest n t bytes good e = subst (Good f) (field_is 1 (at_name rels left) (length_field rest) n t e).next tt
good_step f (at_name rels left k) rest n t bytes good e = subst (Good f) (field_is k (at_width rels left) (new_name (map decl_name rels) k rest) n t e).next tt
good_step f (at_width rels left name) rest n t bytes good e =
    let p : RelationSoFar = record { rels = rels; left = left; name = name; attrs = [] } in
    let x = field_is 1 (behind_attr p) (width_field rest) n t e in
    subst (Good f) x.next (good_behind_attr f p x.value)
good_step f (at_attr p more) rest n t bytes good e = subst (Good f) (field_is 1 (at_attr_name p more) (length_field rest) n t e).next tt
good_step f (at_attr_name p more k) rest n t bytes good e = subst (Good f) (field_is k (at_kind p more) (new_name (names_of p.attrs) k rest) n t e).next tt
good_step f (at_kind p more name) rest n t bytes good e =
    let x = field_is 1 (λ kind. behind_attr (with_attr p (record { name = name; kind = kind })) more) (kind_field rest) n t e in
    subst (Good f) x.next (good_behind_attr f (with_attr p (record { name = name; kind = x.value })) more)
good_step f (at_page b zero) rest n t bytes good e = absurd (none-some (n, t) e)
good_step f (at_page b (suc left)) rest n t bytes good e =
    let x = field_is 2 (at_row_count b left) (rel_field (length b.rels) b.last rest) n t e in
    let k = kept_is (λ rel. nat_lt rel (length b.rels) && follows b.last rel) (number w16 rest) x.value x.is in
    let both = and_parts (nat_lt x.value (length b.rels)) (follows b.last x.value) k.1 in
    subst (Good f) x.next (record { book = good; known = ltb-true x.value (length b.rels) both.0; follows = both.1; rows = tt })
good_step f (at_row_count b left rel) rest n t bytes good e =
    let p : Page = record { rel = rel; rows = [] } in
    let x = field_is 2 (behind_row b left p) (row_count_field rest) n t e in
    let k = kept_is (nat_lt 0) (number w16 rest) x.value x.is in
    let small = number16_small rest x.value bytes k.0 in
    let some = ltb-true 0 x.value k.1 in
    subst (Good f) x.next (good_first_row f b left p x.value (record { page = good; few = omega (arith, small) }) (omega (arith, some)))
good_step f (at_row b left p more) rest n t bytes good e =
    let x = long_is (λ r. behind_row b left (with_row_in p r) more) (row_in f b p rest) n t e in
    let k = kept_is (row_keeps f.page (used_by p.rows) (row_before p.rows (page_before b.last p.rel)) (used_before p.rows (page_before b.last p.rel))) (first_row (schema_of b.rels p.rel) rest) x.value x.is in
    let size = length-append p.rows (x.value ∷ []) in
    subst (Good f) x.next (good_behind_row f b left (with_row_in p x.value) more
    (record { page = page_more f b p x.value good.page k.1 (row_is (schema_of b.rels p.rel) rest x.value bytes k.0); few = omega (arith, size, good.few) }) (omega (arith, size)))
good_step f (at_fill b left p) rest n t bytes good e =
    let x = long_is (λ z. at_page (with_page b p) left) (fill_field (f.page - used_by p.rows) rest) n t e in
    subst (Good f) x.next (page_closed f b p good.0.page good.1 (omega (arith, good.0.few)))

-- ---- one field more

print_step : (f : Format) (s : Stand) (rest : List ℕ) (n : ℕ) (t : Stand) → AreBytes rest → Good f s → next f s rest ≡ Some (n, t) → so_far f t ≡ so_far f s ++ take n rest
print_step f at_magic rest n t bytes good e =
    let x = field_is 8 (λ m. at_count) (magic_field f.magic rest) n t e in
    let k = kept_is (λ m. is_same m f.magic) (piece 8 rest) x.value x.is in
    ap (so_far f) (sym x.next) ∙ sym (same_true x.value f.magic k.1) ∙ sym ((piece_is 8 rest x.value k.0).0) ∙ ap (λ (m : ℕ). take m rest) x.size
print_step f at_count rest n t bytes good e =
    let x = field_is 2 (at_rels []) (count_field rest) n t e in
    let zero_more : 0 + x.value ≡ x.value = omega arith in
    ap (so_far f) (sym x.next) ∙ ap (λ (m : ℕ). f.magic ++ to_be_bytes w16 m ++ []) zero_more
    ∙ append-nil (f.magic ++ to_be_bytes w16 x.value)
    ∙ ap (λ (u : List ℕ). f.magic ++ u) (count_is rest x.value bytes x.is ∙ ap (λ (m : ℕ). take m rest) x.size)
print_step f (at_rels rels (suc left)) rest n t bytes good e =
    let x = field_is 1 (at_name rels left) (length_field rest) n t e in
    ap (so_far f) (sym x.next) ∙ ap (λ (u : List ℕ). rels_front f rels (suc left) ++ u) (sym (byte_is rest x.value ((kept_is (nat_lt 0) (first_byte rest) x.value x.is).0)) ∙ ap (λ (m : ℕ). take m rest) x.size)
print_step f (at_name rels left k) rest n t bytes good e =
    let x = field_is k (at_width rels left) (new_name (map decl_name rels) k rest) n t e in
    let name = name_is (map decl_name rels) k rest x.value x.is in
    ap (so_far f) (sym x.next) ∙ named (rels_front f rels (suc left)) x.value rest k name.1 name.0 ∙ ap (λ (m : ℕ). (rels_front f rels (suc left) ++ k ∷ []) ++ take m rest) x.size
print_step f (at_width rels left name) rest n t bytes good e =
    let p : RelationSoFar = record { rels = rels; left = left; name = name; attrs = [] } in
    let x = field_is 1 (behind_attr p) (width_field rest) n t e in
    let zero_more : 0 + x.value ≡ x.value = omega arith in
    let front = rels_front f rels (suc left) in
    ap (so_far f) (sym x.next) ∙ behind_print f p x.value ∙ ap (λ (m : ℕ). front ++ (name_bytes name ++ m ∷ [])) zero_more
    ∙ sym (append_assoc front (name_bytes name) (x.value ∷ []))
    ∙ ap (λ (u : List ℕ). (front ++ name_bytes name) ++ u) (sym (byte_is rest x.value ((kept_is (λ w. nat_lt 0 w && nat_le w 16) (first_byte rest) x.value x.is).0)) ∙ ap (λ (m : ℕ). take m rest) x.size)
print_step f (at_attr p more) rest n t bytes good e =
    let x = field_is 1 (at_attr_name p more) (length_field rest) n t e in
    ap (so_far f) (sym x.next) ∙ ap (λ (u : List ℕ). part_front f p (length p.attrs + suc more) ++ u) (sym (byte_is rest x.value ((kept_is (nat_lt 0) (first_byte rest) x.value x.is).0)) ∙ ap (λ (m : ℕ). take m rest) x.size)
print_step f (at_attr_name p more k) rest n t bytes good e =
    let x = field_is k (at_kind p more) (new_name (names_of p.attrs) k rest) n t e in
    let name = name_is (names_of p.attrs) k rest x.value x.is in
    let front = part_front f p (length p.attrs + suc more) in
    ap (so_far f) (sym x.next) ∙ named front x.value rest k name.1 name.0 ∙ ap (λ (m : ℕ). (front ++ k ∷ []) ++ take m rest) x.size
print_step f (at_kind p more name) rest n t bytes good e =
    let x = field_is 1 (λ kind. behind_attr (with_attr p (record { name = name; kind = kind })) more) (kind_field rest) n t e in
    let a : Attr = record { name = name; kind = x.value } in
    ap (so_far f) (sym x.next) ∙ behind_print f (with_attr p a) more ∙ with_kind f p more name x.value
    ∙ ap (λ (u : List ℕ). (part_front f p (length p.attrs + suc more) ++ name_bytes name) ++ u) (sym (kind_is rest x.value x.is) ∙ ap (λ (m : ℕ). take m rest) x.size)
print_step f (at_rels rels zero) rest n t bytes good e =
    let x = field_is 4 (at_page (no_pages rels)) (number w32 rest) n t e in
    let none_more : length rels ≡ length rels + 0 = omega arith in
    let count : pages_counted (no_pages rels).pages + x.value ≡ x.value = omega (arith, counted_none rels) in
    let front = rels_front f rels 0 in
    ap (so_far f) (sym x.next)
    ∙ ap (λ (m : ℕ). (f.magic ++ to_be_bytes w16 m ++ flat_map decl_bytes rels) ++ to_be_bytes w32 (pages_counted (no_pages rels).pages + x.value) ++ groups_bytes f.page 0 (no_pages rels).pages) none_more
    ∙ ap (λ (m : ℕ). front ++ to_be_bytes w32 m ++ groups_bytes f.page 0 (no_pages rels).pages) count
    ∙ ap (λ (u : List ℕ). front ++ to_be_bytes w32 x.value ++ u) (groups_none f.page 0 (no_pages rels).pages (group_no_pages rels))
    ∙ append-nil (front ++ to_be_bytes w32 x.value)
    ∙ ap (λ (u : List ℕ). front ++ u) (number32 rest x.value bytes x.is ∙ ap (λ (m : ℕ). take m rest) x.size)
print_step f (at_page b zero) rest n t bytes good e = absurd (none-some (n, t) e)
print_step f (at_page b (suc left)) rest n t bytes good e =
    let x = field_is 2 (at_row_count b left) (rel_field (length b.rels) b.last rest) n t e in
    let k = kept_is (λ rel. nat_lt rel (length b.rels) && follows b.last rel) (number w16 rest) x.value x.is in
    ap (so_far f) (sym x.next) ∙ ap (λ (u : List ℕ). book_front f b (suc left) ++ u) (number16 rest x.value bytes k.0 ∙ ap (λ (m : ℕ). take m rest) x.size)
print_step f (at_row_count b left rel) rest n t bytes good e =
    let p : Page = record { rel = rel; rows = [] } in
    let x = field_is 2 (behind_row b left p) (row_count_field rest) n t e in
    let k = kept_is (nat_lt 0) (number w16 rest) x.value x.is in
    let zero_more : 0 + x.value ≡ x.value = omega arith in
    let front = book_front f b (suc left) in
    ap (so_far f) (sym x.next) ∙ behind_row_print f b left p x.value
    ∙ ap (λ (m : ℕ). front ++ (to_be_bytes w16 rel ++ to_be_bytes w16 m ++ [])) zero_more
    ∙ ap (λ (u : List ℕ). front ++ u) (append-nil (to_be_bytes w16 rel ++ to_be_bytes w16 x.value))
    ∙ sym (append_assoc front (to_be_bytes w16 rel) (to_be_bytes w16 x.value))
    ∙ ap (λ (u : List ℕ). (front ++ to_be_bytes w16 rel) ++ u) (number16 rest x.value bytes k.0 ∙ ap (λ (m : ℕ). take m rest) x.size)
print_step f (at_row b left p more) rest n t bytes good e =
    let x = long_is (λ r. behind_row b left (with_row_in p r) more) (row_in f b p rest) n t e in
    let k = kept_is (row_keeps f.page (used_by p.rows) (row_before p.rows (page_before b.last p.rel)) (used_before p.rows (page_before b.last p.rel))) (first_row (schema_of b.rels p.rel) rest) x.value x.is in
    let r = x.value in
    let front = book_front f b (suc left) in
    let head = to_be_bytes w16 p.rel in
    let count : length (p.rows ++ r ∷ []) + more ≡ length p.rows + suc more = omega (arith, length-append p.rows (r ∷ [])) in
    let number_is = to_be_bytes w16 (length p.rows + suc more) in
    ap (so_far f) (sym x.next) ∙ behind_row_print f b left (with_row_in p r) more
    ∙ ap (λ (m : ℕ). front ++ (head ++ to_be_bytes w16 m ++ joined (p.rows ++ r ∷ []))) count
    ∙ ap (λ (u : List ℕ). front ++ (head ++ number_is ++ u)) (one_more (λ (y : List ℕ). y) p.rows r)
    ∙ ap (λ (u : List ℕ). front ++ u) (sym (append_assoc (head ++ number_is) (joined p.rows) r))
    ∙ sym (append_assoc front (head ++ number_is ++ joined p.rows) r)
    ∙ ap (λ (u : List ℕ). open_page f b left p (suc more) ++ u) (front_row (row_len_of (schema_of b.rels p.rel) rest) rest r k.0 ∙ ap (λ (m : ℕ). take m rest) x.size)
print_step f (at_fill b left p) rest n t bytes good e =
    let fill = f.page - used_by p.rows in
    let x = long_is (λ z. at_page (with_page b p) left) (fill_field fill rest) n t e in
    let k = kept_is (list_all (λ y. y == 0)) (piece fill rest) x.value x.is in
    let cut = cond_some (nat_le fill (length rest)) (take fill rest) x.value k.0 in
    let within = leb-true fill (length rest) cut.0 in
    let size : length x.value ≡ fill = sym (ap (λ (y : List ℕ). length y) cut.1) ∙ omega (arith, length-take fill rest, within) in
    let lt : p.rel < length b.pages = omega (arith, good.0.page.known, groups_length f.page b.rels b.pages good.0.page.book.groups) in
    let count : pages_counted (add_page b.pages p.rel p.rows) + left ≡ pages_counted b.pages + suc left = omega (arith, counted_add b.pages p.rel p.rows lt) in
    let front = header_of f b.rels ++ to_be_bytes w32 (pages_counted b.pages + suc left) in
    let zero_fill : zeros fill ≡ take n rest = ap zeros (sym size) ∙ sym (all_zero x.value k.1) ∙ sym cut.1 ∙ ap (λ (m : ℕ). take m rest) (sym size ∙ x.size) in
    let same_rel : 0 + p.rel ≡ p.rel = omega arith in
    let none_more : length p.rows ≡ length p.rows + 0 = omega arith in
    ap (so_far f) (sym x.next)
    ∙ ap (λ (m : ℕ). header_of f b.rels ++ to_be_bytes w32 m ++ groups_bytes f.page 0 (add_page b.pages p.rel p.rows)) count
    ∙ ap (λ (u : List ℕ). front ++ u) (groups_add_print f.page 0 b.pages p.rel p.rows lt (none_behind b.last b.pages p.rel good.0.page.book.last good.0.page.follows) ∙ ap (λ (m : ℕ). groups_bytes f.page 0 b.pages ++ page_bytes f.page m p.rows) same_rel)
    ∙ sym (append_assoc front (groups_bytes f.page 0 b.pages) (page_bytes f.page p.rel p.rows))
    ∙ ap (λ (m : ℕ). book_front f b (suc left) ++ (to_be_bytes w16 p.rel ++ to_be_bytes w16 m ++ joined p.rows ++ zeros fill)) none_more
    ∙ sym (append_assoc (book_front f b (suc left)) (to_be_bytes w16 p.rel ++ to_be_bytes w16 (length p.rows + 0) ++ joined p.rows) (zeros fill))
    ∙ ap (λ (u : List ℕ). open_page f b left p 0 ++ u) zero_fill

-- ---- all fields so far

abbrev none_at_all : List ℕ
none_at_all = []

pub take_both : (n m : ℕ) (xs : List ℕ) → take (n + m) xs ≡ take n xs ++ take m (drop n xs)
take_both zero m xs = let same : 0 + m ≡ m = omega arith in ap (λ (k : ℕ). take k xs) same
take_both (suc n) m [] = let same : suc n + m ≡ suc (n + m) = omega arith in ap (λ (k : ℕ). take k none_at_all) same ∙ sym (nothing m)
  where
    nothing : (k : ℕ) → take k none_at_all ≡ none_at_all
    nothing zero = refl
    nothing (suc k) = refl
take_both (suc n) m (x ∷ xs) = let same : suc n + m ≡ suc (n + m) = omega arith in ap (λ (k : ℕ). take k (x ∷ xs)) same ∙ ap (λ (t : List ℕ). x ∷ t) (take_both n m xs)

-- what is read is good, and spelled as it is printed
pub record ReadWell (f : Format) (bytes : List ℕ) (at : ℕ) (s : Stand) : Type 0 where
  pub good : Good f s
  pub printed : take at bytes ≡ so_far f s

well_step : (f : Format) (bytes : List ℕ) → AreBytes bytes → (at : ℕ) (s : Stand) (n : ℕ) (t : Stand) → ReadWell f bytes at s → next f s (drop at bytes) ≡ Some (n, t) → ReadWell f bytes (at + n) t
well_step f bytes all at s n t h e = record {
  good = good_step f s (drop at bytes) n t (AreBytes-drop at bytes all) h.good e;
  printed = take_both at n bytes ∙ ap (λ (u : List ℕ). u ++ take n (drop at bytes)) h.printed ∙ sym (print_step f s (drop at bytes) n t (AreBytes-drop at bytes all) h.good e);
}

pub read_well : (f : Format) (bytes : List ℕ) (at : ℕ) (s : Stand) → AreBytes bytes → Reaches f bytes at s → ReadWell f bytes at s
read_well f bytes at s all r = kept_by (next f) bytes (0, at_magic) (ReadWell f bytes) (record { good = tt; printed = refl }) (well_step f bytes all) r.0 at s r.1

pub header_printed : (f : Format) (bytes : List ℕ) (at : ℕ) (rels : List RelDecl) → AreBytes bytes → Reaches f bytes at (at_rels rels 0) → take at bytes ≡ header_of f rels
header_printed f bytes at rels all r =
    let none_left : length rels + 0 ≡ length rels = omega arith in
    (read_well f bytes at (at_rels rels 0) all r).printed ∙ ap (λ (n : ℕ). f.magic ++ to_be_bytes w16 n ++ flat_map decl_bytes rels) none_left
