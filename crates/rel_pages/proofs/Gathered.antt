-- Where rows begin that were read.
use Rattle.std.proofs.Common.{◌≡◌, ◌≤◌, ◌<◌, inl, inr, ℕ, zero, suc, ◌+◌, ◌-◌, ◌*◌, ◌/◌, List, [], ◌∷◌, ◌++◌, length, take, drop, length-drop, Option, Some, None, refl, sym, ap, subst, ◌∙◌, append_assoc, All, arith}
use Rattle.std.specs.Prelude.{IfSome}
use Rattle.std.specs.List.{slice_get}
use Rattle.std.specs.Option.{option_and_then}
use Rattle.std.proofs.lemmas.Option.{none-some, same_Some}
use Rattle.std.proofs.lemmas.List.{append-nil, drop-drop, drop-append-le, length-take, take-append-drop, take_at, drop_at}
use Rattle.std.proofs.lemmas.List.Elements.{All-nil, All-cons, All-append, All-weaker}
use Rattle.hera_sets.specs.Rows.{Row}
use Rattle.hera_meaning.specs.declared.schemas.Attr.{Attr}
use Rattle.hera_meaning.specs.declared.schemas.RelDecl.{RelDecl}
use Rattle.hera_row.specs.Reading.{row_len_of}
use Rattle.hera_row.proofs.FieldLemmas.{AreBytes, AreBytes-drop, AreBytes-take}
use Rattle.hera_row.proofs.RowLemmas.{row_len_some}
use Rattle.rel_format.specs.Fields.{first_row, row_field, row_keeps}
use Rattle.rel_format.proofs.Lengths.{row_in_front}
use Rattle.rel_format.proofs.Printed.{kept_is}
use Rattle.rel_pages.specs.declared.parts.RelationPages.{RelationPages}
use Rattle.rel_pages.specs.declared.starts.ReadStart.{ReadStart}
use Rattle.rel_pages.specs.declared.starts.RowStart.{RowStart}
use Rattle.rel_pages.specs.Parts.{part_bytes}
use Rattle.rel_pages.specs.Rels.{cut, leading, rows_from, rows_counted, IsRun, IsPaged}
use Rattle.rel_pages.specs.Starts.{page_of, passed, listed, IsStart, IsRead, IsReadAt, IsOneMore, AreMoreRead}
use Rattle.rel_pages.proofs.Nears.{page_in}

-- ---- rows passed one by one

passed_more : (schema : List Attr) (k : ℕ) (bytes : List ℕ) → passed schema (suc k) bytes ≡ passed schema k bytes + length (leading schema (drop (passed schema k bytes) bytes))
passed_more schema zero bytes = omega arith
passed_more schema (suc k) bytes =
    let first : ℕ = length (leading schema bytes) in
    let rest : List ℕ = drop first bytes in
    let more = passed_more schema k rest in
    let place : length (leading schema (drop (passed schema k rest) rest)) ≡ length (leading schema (drop (first + passed schema k rest) bytes)) = ap (λ (x : List ℕ). length (leading schema x)) (drop-drop (passed schema k rest) first bytes) in
    omega (arith, more, place)

lead_is : (o : Option ℕ) (bytes : List ℕ) (r : Row) → option_and_then (λ n. Some (take n bytes)) o ≡ Some r → cut o bytes ≡ r
lead_is None bytes r e = absurd (none-some r e)
lead_is (Some n) bytes r e = same_Some (take n bytes) r e

-- the row that was read is passed
pub passed_read : (schema : List Attr) (page used : ℕ) (before : Option Row) (full : Option ℕ) (bytes : List ℕ) (rows at k : ℕ) (r : Row) → Some r ≡ row_field page schema used before full (drop at bytes) → at ≡ rows + passed schema k (drop rows bytes) → at + length r ≡ rows + passed schema (k + 1) (drop rows bytes)
passed_read schema page used before full bytes rows at k r e here =
    let lead : leading schema (drop at bytes) ≡ r = lead_is (row_len_of schema (drop at bytes)) (drop at bytes) r ((kept_is (row_keeps page used before full) (first_row schema (drop at bytes)) r (sym e)).0) in
    let more = passed_more schema k (drop rows bytes) in
    let same : drop (passed schema k (drop rows bytes)) (drop rows bytes) ≡ drop at bytes = drop-drop (passed schema k (drop rows bytes)) rows bytes ∙ ap (λ (n : ℕ). drop n bytes) (sym here) in
    let size : length (leading schema (drop (passed schema k (drop rows bytes)) (drop rows bytes))) ≡ length r = ap (λ (x : List ℕ). length (leading schema x)) same ∙ ap (λ (x : List ℕ). length x) lead in
    let next : suc k ≡ k + 1 = omega arith in
    let goes : passed schema (suc k) (drop rows bytes) ≡ passed schema (k + 1) (drop rows bytes) = ap (λ (n : ℕ). passed schema n (drop rows bytes)) next in
    omega (arith, more, size, here, goes)

-- the first rows have so many bytes whatever stands behind
passed_front : (schema : List Attr) (n k : ℕ) (front rest : List ℕ) → AreBytes front → k ≤ n → IsRun schema n front → passed schema k (front ++ rest) ≡ passed schema k front
passed_front schema n zero front rest all le run = refl
passed_front schema zero (suc k) front rest all le run = absurd (omega (arith, le))
passed_front schema (suc n) (suc k) front rest all le run =
    let len : ℕ = run.0 in
    let row = row_len_some schema front (Some len) all (sym run.1) in
    let r : List ℕ = take len front in
    let more : List ℕ = drop len front ++ rest in
    let size : length r ≡ len = omega (arith, length-take len front, row.0) in
    let split : front ++ rest ≡ r ++ more = ap (λ (x : List ℕ). x ++ rest) (sym (take-append-drop len front)) ∙ append_assoc r (drop len front) rest in
    let lead_all : leading schema (front ++ rest) ≡ r = ap (leading schema) split ∙ ap (λ (o : Option ℕ). cut o (r ++ more)) (row_in_front schema r more row.1) ∙ take_at r more (length r) refl in
    let lead_front : leading schema front ≡ r = ap (λ (o : Option ℕ). cut o front) run.1 in
    let behind_all : drop (length r) (front ++ rest) ≡ more = ap (drop (length r)) split ∙ drop_at r more (length r) refl in
    let behind_front : drop (length r) front ≡ drop len front = ap (λ (m : ℕ). drop m front) size in
    let again = passed_front schema n k (drop len front) rest (AreBytes-drop len front all) (omega (arith, le)) run.2 in
    ap (λ (x : List ℕ). length x + passed schema k (drop (length x) (front ++ rest))) lead_all
    ∙ ap (λ (x : List ℕ). length r + passed schema k x) behind_all
    ∙ ap (λ (m : ℕ). length r + m) again
    ∙ ap (λ (x : List ℕ). length r + passed schema k x) (sym behind_front)
    ∙ ap (λ (x : List ℕ). length x + passed schema k (drop (length x) front)) (sym lead_front)

-- the rows behind the first ones
record Behind (schema : List Attr) (n k : ℕ) (bytes : List ℕ) : Type 0 where
  within : passed schema k bytes ≤ length bytes
  run : IsRun schema (n - k) (drop (passed schema k bytes) bytes)
  rows : rows_from schema n bytes ≡ rows_from schema k bytes ++ rows_from schema (n - k) (drop (passed schema k bytes) bytes)

behind : (schema : List Attr) (n k : ℕ) (bytes : List ℕ) → AreBytes bytes → k ≤ n → IsRun schema n bytes → Behind schema n k bytes
behind schema n zero bytes all le run =
    let whole : n ≡ n - 0 = omega arith in
    record {
      within = omega arith;
      run = subst (λ (m : ℕ). IsRun schema m bytes) whole run;
      rows = ap (λ (m : ℕ). rows_from schema m bytes) whole;
    }
behind schema zero (suc k) bytes all le run = absurd (omega (arith, le))
behind schema (suc n) (suc k) bytes all le run =
    let first : ℕ = length (leading schema bytes) in
    let inside = (row_len_some schema bytes (Some run.0) all (sym run.1)).0 in
    let size : first ≡ run.0 = ap (λ (o : Option ℕ). length (cut o bytes)) run.1 ∙ omega (arith, length-take run.0 bytes, inside) in
    let rest : List ℕ = drop first bytes in
    let more = behind schema n k rest (AreBytes-drop first bytes all) (omega (arith, le)) (subst (λ (m : ℕ). IsRun schema n (drop m bytes)) (sym size) run.2) in
    let place : drop (passed schema k rest) rest ≡ drop (first + passed schema k rest) bytes = drop-drop (passed schema k rest) first bytes in
    let count : n - k ≡ suc n - suc k = omega arith in
    record {
      within = omega (arith, more.within, length-drop first bytes, size, inside);
      run = subst (λ (m : ℕ). IsRun schema m (drop (first + passed schema k rest) bytes)) count (subst (IsRun schema (n - k)) place more.run);
      rows = ap (λ (t : List Row). leading schema bytes ∷ t) more.rows
          ∙ ap (λ (x : List ℕ). rows_from schema (suc k) bytes ++ rows_from schema (n - k) x) place
          ∙ ap (λ (m : ℕ). rows_from schema (suc k) bytes ++ rows_from schema m (drop (first + passed schema k rest) bytes)) count;
    }

-- ---- a row that was read, in the part of its relation

-- the bytes behind the head of a page, which others follow
page_there : (page : ℕ) (bytes : List ℕ) (part : RelationPages) (number rows : ℕ) → number * page ≤ length (part_bytes bytes part) → 4 ≤ length (page_of page (part_bytes bytes part) number) → rows ≡ part.at + number * page + 4 →
    (rest : List ℕ) × (drop rows bytes ≡ drop 4 (page_of page (part_bytes bytes part) number) ++ rest)
page_there page bytes part number rows within head e =
    let pages : List ℕ = part_bytes bytes part in
    let from : List ℕ = drop (number * page) pages in
    let one : List ℕ = take page from in
    let after : List ℕ = drop part.len (drop part.at bytes) in
    let rest : List ℕ = drop page from ++ after in
    let whole : drop part.at bytes ≡ pages ++ after = sym (take-append-drop part.len (drop part.at bytes)) in
    let here : drop (number * page) (drop part.at bytes) ≡ one ++ rest =
    ap (drop (number * page)) whole ∙ drop-append-le (number * page) pages after within ∙ ap (λ (x : List ℕ). x ++ after) (sym (take-append-drop page from)) ∙ append_assoc one (drop page from) after in (
      rest,
      ap (λ (n : ℕ). drop n bytes) e ∙ sym (drop-drop 4 (part.at + number * page) bytes) ∙ ap (drop 4) (sym (drop-drop (number * page) part.at bytes) ∙ here) ∙ drop-append-le 4 one rest head,
    )

pub start_there : (schema : List Attr) (page : ℕ) (bytes : List ℕ) (part : RelationPages) (r : ReadStart) (number : ℕ) → AreBytes bytes → IsPaged schema page (part_bytes bytes part) → number < length (part_bytes bytes part) / page → r.rows ≡ part.at + number * page + 4 →
    r.row < rows_counted (page_of page (part_bytes bytes part) number) → IsReadAt schema bytes r → IsStart schema page (part_bytes bytes part) (record { page = number; row = r.row; at = r.at + 4 })
start_there schema page bytes part r number all paged lt place few read =
    let pages : List ℕ = part_bytes bytes part in
    let one : List ℕ = page_of page pages number in
    let front : List ℕ = drop 4 one in
    let count : ℕ = rows_counted one in
    let inside = page_in schema page (length pages / page) number pages lt paged.pages in
    let after = page_there page bytes part number r.rows inside.within inside.one.head place in
    let bytes_in : AreBytes front = AreBytes-drop 4 one (AreBytes-take page (drop (number * page) pages) (AreBytes-drop (number * page) pages (AreBytes-take part.len (drop part.at bytes) (AreBytes-drop part.at bytes all)))) in
    let le : r.row ≤ count = omega (arith, few) in
    let at : r.at ≡ passed schema r.row front = read ∙ ap (passed schema r.row) after.1 ∙ passed_front schema count r.row front after.0 bytes_in le inside.one.run in
    let on = behind schema count r.row front bytes_in le inside.one.run in
    let left : drop (passed schema r.row front) front ≡ drop (r.at + 4) one =
    ap (λ (n : ℕ). drop n front) (sym at) ∙ drop-drop r.at 4 one ∙ ap (λ (n : ℕ). drop n one) (omega arith) in
    let head = inside.one.head in
    let size = length-drop 4 one in
    let fits = on.within in
    record {
      there = lt;
      within = omega (arith, at, fits, size, head);
      row = few;
      run = subst (IsRun schema (count - r.row)) left on.run;
      before = rows_from schema r.row front;
      rows = on.rows ∙ ap (λ (x : List ℕ). rows_from schema r.row front ++ rows_from schema (count - r.row) x) left;
    }

-- ---- lists of what was read

pub more_none : (schema : List Attr) (rel : ℕ) (bytes : List ℕ) (xs : List ReadStart) → AreMoreRead schema rel bytes xs xs
more_none schema rel bytes xs = ([], sym (append-nil xs), All-nil (λ (r : ReadStart). (r.rel ≡ rel) × IsReadAt schema bytes r))

pub more_one : (schema : List Attr) (rel : ℕ) (bytes : List ℕ) (xs ys zs : List ReadStart) (r : ReadStart) → AreMoreRead schema rel bytes xs ys → IsOneMore ys r zs → r.rel ≡ rel → IsReadAt schema bytes r → AreMoreRead schema rel bytes xs zs
more_one schema rel bytes xs ys zs r more (inl e) own is = subst (AreMoreRead schema rel bytes xs) (sym e) more
more_one schema rel bytes xs ys zs r more (inr e) own is =
    let P : ReadStart → Type 0 = λ (x : ReadStart). (x.rel ≡ rel) × IsReadAt schema bytes x in (
      more.0 ++ r ∷ [],
      e ∙ ap (λ (l : List ReadStart). l ++ r ∷ []) more.1 ∙ append_assoc xs more.0 (r ∷ []),
      All-append P more.0 (r ∷ []) more.2 (All-cons P r [] (own, is) (All-nil P)),
    )

pub all_read_on : (rels : List RelDecl) (rel : ℕ) (bytes : List ℕ) (d : RelDecl) (xs ys : List ReadStart) → slice_get rels rel ≡ Some d → All (IsRead rels bytes) xs → AreMoreRead d.schema rel bytes xs ys → All (IsRead rels bytes) ys
all_read_on rels rel bytes d xs ys there all more =
    subst (All (IsRead rels bytes)) (sym more.1)
    (All-append (IsRead rels bytes) xs more.0 all (All-weaker (λ (r : ReadStart). (r.rel ≡ rel) × IsReadAt d.schema bytes r) (IsRead rels bytes) is_read more.0 more.2))
  where
    is_read : (r : ReadStart) → (r.rel ≡ rel) × IsReadAt d.schema bytes r → IsRead rels bytes r
    is_read r h x e = subst (λ (y : RelDecl). IsReadAt y.schema bytes r) (same_Some d x (sym there ∙ ap (slice_get rels) (sym h.0) ∙ e)) h.1

-- those of one relation are of its schema
pub own_read : (rels : List RelDecl) (rel : ℕ) (bytes : List ℕ) (d : RelDecl) (xs : List ReadStart) → slice_get rels rel ≡ Some d → All (IsRead rels bytes) xs → All (λ r. r.rel ≡ rel → IsReadAt d.schema bytes r) xs
own_read rels rel bytes d xs there all = All-weaker (IsRead rels bytes) (λ (r : ReadStart). r.rel ≡ rel → IsReadAt d.schema bytes r) (λ r h e. h d (ap (slice_get rels) e ∙ there)) xs all

pub keep_found : (P : RowStart → Type 0) (xs ys : List RowStart) (found : Option RowStart) → ys ≡ xs ++ listed found → IfSome found P → All P xs → All P ys
keep_found P xs ys None e is all = subst (All P) (sym (e ∙ append-nil xs)) all
keep_found P xs ys (Some s) e is all = subst (All P) (sym e) (All-append P xs (s ∷ []) all (All-cons P s [] is (All-nil P)))
