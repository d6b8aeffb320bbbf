-- Each field of a half takes a byte or makes its stand lighter.
use Rattle.std.proofs.Common.{◌≡◌, ◌≤◌, inl, inr, ℕ, zero, suc, ◌-◌, not, List, [], ◌∷◌, length, take, map, Option, Some, None, refl, sym, ap, subst, ◌∙◌, arith}
use Rattle.std.specs.Prelude.{◌==◌, ◌&&◌, nat_le, nat_lt}
use Rattle.std.specs.List.{list_all}
use Rattle.std.specs.Option.{option_and_then}
use Rattle.std.specs.Int.{Width, w16, w32, byte_len, from_be_bytes}
use Rattle.std.proofs.lemmas.Bool.{leb-true}
use Rattle.std.proofs.lemmas.Option.{none-some, same_Some, cond_some}
use Rattle.std.proofs.lemmas.List.{length-take}
use Rattle.hera_sets.specs.Rows.{is_same, holds}
use Rattle.hera_meaning.specs.declared.schemas.Attr.{Attr}
use Rattle.hera_meaning.specs.declared.schemas.TheConstants.{ATTRS_LIMIT, RELATIONS_LIMIT}
use Rattle.hera_meaning.specs.declared.schemas.RelDecl.{RelDecl}
use Rattle.hera_meaning.specs.Schemas.{names_of}
use Rattle.hera_meaning.specs.Catalogues.{decl_name}
use Rattle.hera_meaning.specs.Deltas.{schema_of}
use Rattle.hera_row.specs.Reading.{row_len_of}
use Rattle.rel_format.specs.Pages.{Format, used_by}
use Rattle.rel_format.specs.Fields.{piece, number, first_byte, kind_of, is_identifier, name_field, new_name, length_field, width_field, count_field, kind_field, magic_field, follows, rel_field, row_count_field, row_keeps, first_row, fill_field}
use Rattle.rel_format.specs.Table.{Stand, Book, Page, at_magic, at_count, at_rels, at_name, at_width, at_attr, at_attr_name, at_kind, at_page, at_row_count, at_row, at_fill, behind_attr, with_attr, no_pages, with_page, with_row_in, behind_row, page_before, row_before, used_before, row_in, next as next_in_pages, field, long_field}
use Rattle.rel_format.proofs.Printed.{kept_is}
use Rattle.commit_journal.specs.Table.{JournalStand, Opened, at_gate, at_atom_count, at_sign, at_rel, at_end, behind_gate, behind_atom, opened, with_atom, atom_read, last_atom, sign_of, sign_field, next as next_in_journal}
use Rattle.commit_journal.specs.Table as journal
use Rattle.commit_journal.specs.Halves.{HalfStand, in_pages, in_journal, entered, onto, next_in_half}
use Rattle.store_laws.proofs.Ends.{Moves, AllMove}

-- ---- single fields

-- the bytes go as far as the field
piece_within : (n : ℕ) (rest x : List ℕ) → piece n rest ≡ Some x → n ≤ length rest
piece_within n rest x e = leb-true n (length rest) (cond_some (nat_le n (length rest)) (take n rest) x e).0

number_within : (w : Width) (rest : List ℕ) (x : ℕ) → number w rest ≡ Some x → byte_len w ≤ length rest
number_within w rest x e = leb-true (byte_len w) (length rest) (cond_some (nat_le (byte_len w) (length rest)) (from_be_bytes w (take (byte_len w) rest)) x e).0

byte_within : (rest : List ℕ) (b : ℕ) → first_byte rest ≡ Some b → 1 ≤ length rest
byte_within [] b e = absurd (none-some b e)
byte_within (c ∷ rest) b e = omega arith

then_within : {A : Type 0} (f : ℕ → Option A) (rest : List ℕ) (x : A) → option_and_then f (first_byte rest) ≡ Some x → 1 ≤ length rest
then_within f [] x e = absurd (none-some x e)
then_within f (c ∷ rest) x e = omega arith

name_within : (names : List (List ℕ)) (n : ℕ) (rest name : List ℕ) → new_name names n rest ≡ Some name → n ≤ length rest
name_within names n rest name e =
    piece_within n rest name ((kept_is is_identifier (piece n rest) name ((kept_is (λ x. not (holds names x)) (name_field n rest) name e).0)).0)

row_within : (schema : List Attr) (rest r : List ℕ) → first_row schema rest ≡ Some r → length r ≤ length rest
row_within schema rest r e = by (row_len_of schema rest) e
  where
    by : (o : Option ℕ) → option_and_then (λ n. Some (take n rest)) o ≡ Some r → length r ≤ length rest
    by None h = absurd (none-some r h)
    by (Some n) h = let size = ap (λ (l : List ℕ). length l) (same_Some (take n rest) r h) in omega (arith, size, length-take n rest)

-- ---- the fields of the pages

abbrev pair : {S : Type 0} → ℕ → S → ℕ × S
pair n t = (n, t)

pub record FieldIs (A : Type 0) (n : ℕ) (behind : A → Stand) (o : Option A) (m : ℕ) (t : Stand) : Type 0 where
  pub value : A
  pub is : o ≡ Some value
  pub size : n ≡ m
  pub next : behind value ≡ t

pub field_is : {A : Type 0} (n : ℕ) (behind : A → Stand) (o : Option A) (m : ℕ) (t : Stand) → field n behind o ≡ Some (m, t) → FieldIs A n behind o m t
field_is n behind None m t e = absurd (none-some (m, t) e)
field_is n behind (Some x) m t e =
    let same = same_Some (pair n (behind x)) (pair m t) e in
    record { value = x; is = refl; size = ap (λ (z : ℕ × Stand). z.0) same; next = ap (λ (z : ℕ × Stand). z.1) same }

pub record LongIs (behind : List ℕ → Stand) (o : Option (List ℕ)) (m : ℕ) (t : Stand) : Type 0 where
  pub value : List ℕ
  pub is : o ≡ Some value
  pub size : length value ≡ m
  pub next : behind value ≡ t

pub long_is : (behind : List ℕ → Stand) (o : Option (List ℕ)) (m : ℕ) (t : Stand) → long_field behind o ≡ Some (m, t) → LongIs behind o m t
long_is behind None m t e = absurd (none-some (m, t) e)
long_is behind (Some x) m t e =
    let same = same_Some (pair (length x) (behind x)) (pair m t) e in
    record { value = x; is = refl; size = ap (λ (z : ℕ × Stand). z.0) same; next = ap (λ (z : ℕ × Stand). z.1) same }

abbrev pub weight : Stand → ℕ
weight (at_name rels left n) = 1
weight (at_attr_name p more n) = 1
weight (at_row b left p more) = suc (suc more)
weight (at_fill b left p) = 1
weight _ = 0

weight_behind_row : (b : Book) (left : ℕ) (p : Page) (n : ℕ) → weight (behind_row b left p n) ≡ suc n
weight_behind_row b left p zero = refl
weight_behind_row b left p (suc n) = refl

-- so many bytes of the field are there, and it has some
some_bytes : (n size after before : ℕ) → n ≤ size → 1 ≤ n → Moves n size after before
some_bytes n size after before within some = record { within = within; onward = inl some }

pub all_pages_move : (f : Format) → AllMove (next_in_pages f) weight
all_pages_move f at_magic rest n t e =
    let x = field_is 8 (λ m. at_count) (magic_field f.magic rest) n t e in
    let h = piece_within 8 rest x.value ((kept_is (λ m. is_same m f.magic) (piece 8 rest) x.value x.is).0) in
    some_bytes _ _ _ _ (omega (arith, h, x.size)) (omega (arith, x.size))
all_pages_move f at_count rest n t e =
    let x = field_is 2 (at_rels []) (count_field rest) n t e in
    let h = number_within w16 rest x.value ((kept_is (λ k. nat_le k RELATIONS_LIMIT) (number w16 rest) x.value x.is).0) in
    some_bytes _ _ _ _ (omega (arith, h, x.size)) (omega (arith, x.size))
all_pages_move f (at_rels rels zero) rest n t e =
    let x = field_is 4 (at_page (no_pages rels)) (number w32 rest) n t e in
    let h = number_within w32 rest x.value x.is in
    some_bytes _ _ _ _ (omega (arith, h, x.size)) (omega (arith, x.size))
all_pages_move f (at_rels rels (suc left)) rest n t e =
    let x = field_is 1 (at_name rels left) (length_field rest) n t e in
    let h = byte_within rest x.value ((kept_is (nat_lt 0) (first_byte rest) x.value x.is).0) in
    some_bytes _ _ _ _ (omega (arith, h, x.size)) (omega (arith, x.size))
all_pages_move f (at_name rels left k) rest n t e =
    let x = field_is k (at_width rels left) (new_name (map decl_name rels) k rest) n t e in
    let h = name_within (map decl_name rels) k rest x.value x.is in
    let lighter = ap weight (sym x.next) in
    record { within = omega (arith, h, x.size); onward = inr (omega (arith, lighter)) }
all_pages_move f (at_width rels left name) rest n t e =
    let x = field_is 1 (behind_attr (record { rels = rels; left = left; name = name; attrs = [] })) (width_field rest) n t e in
    let h = byte_within rest x.value ((kept_is (λ k. nat_lt 0 k && nat_le k ATTRS_LIMIT) (first_byte rest) x.value x.is).0) in
    some_bytes _ _ _ _ (omega (arith, h, x.size)) (omega (arith, x.size))
all_pages_move f (at_attr p more) rest n t e =
    let x = field_is 1 (at_attr_name p more) (length_field rest) n t e in
    let h = byte_within rest x.value ((kept_is (nat_lt 0) (first_byte rest) x.value x.is).0) in
    some_bytes _ _ _ _ (omega (arith, h, x.size)) (omega (arith, x.size))
all_pages_move f (at_attr_name p more k) rest n t e =
    let x = field_is k (at_kind p more) (new_name (names_of p.attrs) k rest) n t e in
    let h = name_within (names_of p.attrs) k rest x.value x.is in
    let lighter = ap weight (sym x.next) in
    record { within = omega (arith, h, x.size); onward = inr (omega (arith, lighter)) }
all_pages_move f (at_kind p more name) rest n t e =
    let x = field_is 1 (λ kind. behind_attr (with_attr p (record { name = name; kind = kind })) more) (kind_field rest) n t e in
    let h = then_within kind_of rest x.value x.is in
    some_bytes _ _ _ _ (omega (arith, h, x.size)) (omega (arith, x.size))
all_pages_move f (at_page b zero) rest n t e = absurd (none-some (n, t) e)
all_pages_move f (at_page b (suc left)) rest n t e =
    let x = field_is 2 (at_row_count b left) (rel_field (length b.rels) b.last rest) n t e in
    let h = number_within w16 rest x.value ((kept_is (λ rel. nat_lt rel (length b.rels) && follows b.last rel) (number w16 rest) x.value x.is).0) in
    some_bytes _ _ _ _ (omega (arith, h, x.size)) (omega (arith, x.size))
all_pages_move f (at_row_count b left rel) rest n t e =
    let x = field_is 2 (behind_row b left (record { rel = rel; rows = [] })) (row_count_field rest) n t e in
    let h = number_within w16 rest x.value ((kept_is (nat_lt 0) (number w16 rest) x.value x.is).0) in
    some_bytes _ _ _ _ (omega (arith, h, x.size)) (omega (arith, x.size))
all_pages_move f (at_row b left p more) rest n t e =
    let x = long_is (λ r. behind_row b left (with_row_in p r) more) (row_in f b p rest) n t e in
    let k = kept_is (row_keeps f.page (used_by p.rows) (row_before p.rows (page_before b.last p.rel)) (used_before p.rows (page_before b.last p.rel))) (first_row (schema_of b.rels p.rel) rest) x.value x.is in
    let h = row_within (schema_of b.rels p.rel) rest x.value k.0 in
    let lighter = ap weight (sym x.next) ∙ weight_behind_row b left (with_row_in p x.value) more in
    record { within = omega (arith, h, x.size); onward = inr (omega (arith, lighter)) }
all_pages_move f (at_fill b left p) rest n t e =
    let x = long_is (λ z. at_page (with_page b p) left) (fill_field (f.page - used_by p.rows) rest) n t e in
    let k = kept_is (list_all (λ b. b == 0)) (piece (f.page - used_by p.rows) rest) x.value x.is in
    let same = ap (λ (l : List ℕ). length l) (cond_some (nat_le (f.page - used_by p.rows) (length rest)) (take (f.page - used_by p.rows) rest) x.value k.0).1 in
    let lighter = ap weight (sym x.next) in
    record { within = omega (arith, same, length-take (f.page - used_by p.rows) rest, x.size); onward = inr (omega (arith, lighter)) }

-- ---- the fields of the journal

abbrev journal_weight : JournalStand → ℕ
journal_weight (journal.at_row o more s rel) = 1
journal_weight _ = 0

weight_behind_atom : (o : Opened) (n : ℕ) → journal_weight (behind_atom o n) ≡ 0
weight_behind_atom o zero = refl
weight_behind_atom o (suc n) = refl

record JournalFieldIs (A : Type 0) (n : ℕ) (behind : A → JournalStand) (o : Option A) (m : ℕ) (t : JournalStand) : Type 0 where
  value : A
  is : o ≡ Some value
  size : n ≡ m
  next : behind value ≡ t

journal_field_is : {A : Type 0} (n : ℕ) (behind : A → JournalStand) (o : Option A) (m : ℕ) (t : JournalStand) → journal.field n behind o ≡ Some (m, t) → JournalFieldIs A n behind o m t
journal_field_is n behind None m t e = absurd (none-some (m, t) e)
journal_field_is n behind (Some x) m t e =
    let same = same_Some (pair n (behind x)) (pair m t) e in
    record { value = x; is = refl; size = ap (λ (z : ℕ × JournalStand). z.0) same; next = ap (λ (z : ℕ × JournalStand). z.1) same }

record JournalLongIs (behind : List ℕ → JournalStand) (o : Option (List ℕ)) (m : ℕ) (t : JournalStand) : Type 0 where
  value : List ℕ
  is : o ≡ Some value
  size : length value ≡ m
  next : behind value ≡ t

journal_long_is : (behind : List ℕ → JournalStand) (o : Option (List ℕ)) (m : ℕ) (t : JournalStand) → journal.long_field behind o ≡ Some (m, t) → JournalLongIs behind o m t
journal_long_is behind None m t e = absurd (none-some (m, t) e)
journal_long_is behind (Some x) m t e =
    let same = same_Some (pair (length x) (behind x)) (pair m t) e in
    record { value = x; is = refl; size = ap (λ (z : ℕ × JournalStand). z.0) same; next = ap (λ (z : ℕ × JournalStand). z.1) same }

all_journal_moves : (rels : List RelDecl) → AllMove (next_in_journal rels) journal_weight
all_journal_moves rels (at_gate records) rest n t e =
    let x = journal_field_is 1 (behind_gate records) (first_byte rest) n t e in
    let h = byte_within rest x.value x.is in
    some_bytes _ _ _ _ (omega (arith, h, x.size)) (omega (arith, x.size))
all_journal_moves rels (at_atom_count records) rest n t e =
    let x = journal_field_is 4 (behind_atom (opened records [])) (number w32 rest) n t e in
    let h = number_within w32 rest x.value x.is in
    some_bytes _ _ _ _ (omega (arith, h, x.size)) (omega (arith, x.size))
all_journal_moves rels (at_sign o more) rest n t e =
    let x = journal_field_is 1 (at_rel o more) (sign_field rest) n t e in
    let h = then_within sign_of rest x.value x.is in
    some_bytes _ _ _ _ (omega (arith, h, x.size)) (omega (arith, x.size))
all_journal_moves rels (at_rel o more s) rest n t e =
    let x = journal_field_is 2 (journal.at_row o more s) (journal.rel_field (length rels) (last_atom o.atoms) rest) n t e in
    let h = number_within w16 rest x.value ((kept_is (λ rel. nat_lt rel (length rels) && journal.follows (last_atom o.atoms) rel) (number w16 rest) x.value x.is).0) in
    some_bytes _ _ _ _ (omega (arith, h, x.size)) (omega (arith, x.size))
all_journal_moves rels (journal.at_row o more s rel) rest n t e =
    let x = journal_long_is (λ r. behind_atom (with_atom o (atom_read s rel r)) more) (journal.row_field (schema_of rels rel) (last_atom o.atoms) rel rest) n t e in
    let k = kept_is (journal.row_keeps (last_atom o.atoms) rel) (first_row (schema_of rels rel) rest) x.value x.is in
    let h = row_within (schema_of rels rel) rest x.value k.0 in
    let lighter = ap journal_weight (sym x.next) ∙ weight_behind_atom (with_atom o (atom_read s rel x.value)) more in
    record { within = omega (arith, h, x.size); onward = inr (omega (arith, lighter)) }
all_journal_moves rels (at_end records gate) rest n t e = absurd (none-some (n, t) e)

-- ---- the fields of the half

abbrev pub half_weight : HalfStand → ℕ
half_weight (in_pages s) = weight s
half_weight (in_journal rels s) = journal_weight s

-- the journal is no heavier than the end of the pages
weight_entered : (s : Stand) → half_weight (entered s) ≡ weight s
weight_entered at_magic = refl
weight_entered at_count = refl
weight_entered (at_rels rels left) = refl
weight_entered (at_name rels left n) = refl
weight_entered (at_width rels left name) = refl
weight_entered (at_attr p more) = refl
weight_entered (at_attr_name p more n) = refl
weight_entered (at_kind p more name) = refl
weight_entered (at_page b zero) = refl
weight_entered (at_page b (suc left)) = refl
weight_entered (at_row_count b left rel) = refl
weight_entered (at_row b left p more) = refl
weight_entered (at_fill b left p) = refl

-- what the field was in its own part
pub record PartIs {S : Type 0} (behind : S → HalfStand) (o : Option (ℕ × S)) (n : ℕ) (t : HalfStand) : Type 0 where
  pub stand : S
  pub read : o ≡ Some (n, stand)
  pub next : behind stand ≡ t

pub part_is : {S : Type 0} (behind : S → HalfStand) (o : Option (ℕ × S)) (n : ℕ) (t : HalfStand) → onto behind o ≡ Some (n, t) → PartIs behind o n t
part_is behind None n t e = absurd (none-some (n, t) e)
part_is {S} behind (Some y) n t e =
    let same = same_Some (pair y.0 (behind y.1)) (pair n t) e in
    record { stand = y.1; read = ap (λ (m : ℕ). Some (pair m y.1)) (ap (λ (z : ℕ × HalfStand). z.0) same); next = ap (λ (z : ℕ × HalfStand). z.1) same }

pub all_move : (f : Format) → AllMove (next_in_half f) half_weight
all_move f (in_pages s) rest n t e =
    let p = part_is entered (next_in_pages f s rest) n t e in
    let m = all_pages_move f s rest n p.stand p.read in
    subst (λ (w : ℕ). Moves n (length rest) w (weight s)) (sym (weight_entered p.stand) ∙ ap half_weight p.next) m
all_move f (in_journal rels s) rest n t e =
    let p = part_is (in_journal rels) (next_in_journal rels s rest) n t e in
    let m = all_journal_moves rels s rest n p.stand p.read in
    subst (λ (w : ℕ). Moves n (length rest) w (journal_weight s)) (ap half_weight p.next) m
