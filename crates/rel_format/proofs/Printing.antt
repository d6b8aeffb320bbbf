-- Single fields as they are printed, read.
use Rattle.std.proofs.Common.{◌≡◌, ◌≤◌, ◌<◌, ℕ, zero, suc, ◌+◌, Bool, true, false, cond, not, List, [], ◌∷◌, ◌++◌, length, take, drop, Option, Some, None, refl, sym, ap, ◌∙◌, arith}
use Rattle.std.specs.Prelude.{◌==◌, ◌&&◌, nat_le, nat_lt}
use Rattle.std.specs.List.{list_all}
use Rattle.std.specs.Option.{option_and_then}
use Rattle.std.specs.Int.{w16, w32, to_be_bytes, from_be_bytes}
use Rattle.std.proofs.lemmas.Bool.{le-leb, lt-ltb, and_from, false≢true}
use Rattle.std.proofs.lemmas.List.{length-append, drop-drop, take_at, drop_at}
use Rattle.std.proofs.lemmas.Nat.{from_be_bytes-to_be_bytes_2, from_be_bytes-to_be_bytes_4}
use Rattle.std.proofs.lemmas.Str.{length-le-encodes}
use Rattle.hera_sets.specs.Rows.{Row, is_same, holds}
use Rattle.hera_sets.proofs.Order.{same_itself}
use Rattle.hera_meaning.specs.declared.scalars.Kind.{Kind}
use Rattle.hera_meaning.specs.declared.scalars.Kind.TheVariants.{Int as int_kind, Bool as bool_kind, Text as text_kind}
use Rattle.hera_meaning.specs.declared.schemas.Attr.{Attr}
use Rattle.hera_meaning.specs.Identifiers.{IsIdentifier, is_word}
use Rattle.hera_meaning.specs.Rows.{IsRow}
use Rattle.rel_format.specs.Pages.{kind_byte, zeros}
use Rattle.rel_format.specs.Fields.{PageEnd, kept, piece, number, is_identifier, new_name, magic_field, length_field, width_field, count_field, kind_field, follows, rel_field, row_count_field, row_keeps, row_field, fill_field}
use Rattle.rel_format.proofs.Names.{identifier_passes}
use Rattle.rel_format.proofs.Lengths.{row_in_front}

-- behind a front the tail stands
pub behind : (bytes : List ℕ) (at n : ℕ) (front tail : List ℕ) → length front ≡ n → drop at bytes ≡ front ++ tail → drop (at + n) bytes ≡ tail
behind bytes at n front tail size e = sym (drop-drop n at bytes) ∙ ap (λ (l : List ℕ). drop n l) e ∙ drop_at front tail n size

pub kept_pass : {A : Type 0} (rule : A → Bool) (x : A) → rule x ≡ true → kept rule (Some x) ≡ Some x
kept_pass {A} rule x h = ap (λ (v : Bool). cond v (Some x) None) h

pub piece_printed : (xs tail : List ℕ) (n : ℕ) → length xs ≡ n → piece n (xs ++ tail) ≡ Some xs
piece_printed xs tail n size =
    let fits : n ≤ length (xs ++ tail) = omega (arith, size, length-append xs tail) in
    ap (λ (v : Bool). cond v (Some (take n (xs ++ tail))) None) (le-leb n (length (xs ++ tail)) fits) ∙ ap (λ (l : List ℕ). Some l) (take_at xs tail n size)

pub number16_printed : (n : ℕ) (tail : List ℕ) → n < 65536 → number w16 (to_be_bytes w16 n ++ tail) ≡ Some n
number16_printed n tail small =
    let fits : 2 ≤ length (to_be_bytes w16 n ++ tail) = omega (arith, length-append (to_be_bytes w16 n) tail) in
    ap (λ (v : Bool). cond v (Some (from_be_bytes w16 (take 2 (to_be_bytes w16 n ++ tail)))) None) (le-leb 2 (length (to_be_bytes w16 n ++ tail)) fits)
    ∙ ap (λ (l : List ℕ). Some (from_be_bytes w16 l)) (take_at (to_be_bytes w16 n) tail 2 refl) ∙ ap (λ (k : ℕ). Some k) (from_be_bytes-to_be_bytes_2 n small)

pub number32_printed : (n : ℕ) (tail : List ℕ) → n ≤ 4294967295 → number w32 (to_be_bytes w32 n ++ tail) ≡ Some n
number32_printed n tail small =
    let fits : 4 ≤ length (to_be_bytes w32 n ++ tail) = omega (arith, length-append (to_be_bytes w32 n) tail) in
    ap (λ (v : Bool). cond v (Some (from_be_bytes w32 (take 4 (to_be_bytes w32 n ++ tail)))) None) (le-leb 4 (length (to_be_bytes w32 n ++ tail)) fits)
    ∙ ap (λ (l : List ℕ). Some (from_be_bytes w32 l)) (take_at (to_be_bytes w32 n) tail 4 refl) ∙ ap (λ (k : ℕ). Some k) (from_be_bytes-to_be_bytes_4 n (omega (arith, small)))

-- ---- the fields of the header

pub magic_printed : (magic tail : List ℕ) → length magic ≡ 8 → magic_field magic (magic ++ tail) ≡ Some magic
magic_printed magic tail size = ap (kept (λ (m : List ℕ). is_same m magic)) (piece_printed magic tail 8 size) ∙ kept_pass (λ (m : List ℕ). is_same m magic) magic (same_itself magic)

pub count_printed : (n : ℕ) (tail : List ℕ) → n ≤ 256 → count_field (to_be_bytes w16 n ++ tail) ≡ Some n
count_printed n tail few = ap (kept (λ (k : ℕ). nat_le k 256)) (number16_printed n tail (omega (arith, few))) ∙ kept_pass (λ (k : ℕ). nat_le k 256) n (le-leb n 256 few)

pub length_printed : (n : ℕ) (tail : List ℕ) → 1 ≤ n → length_field (n ∷ tail) ≡ Some n
length_printed n tail some = kept_pass (nat_lt 0) n (lt-ltb 0 n (omega (arith, some)))

pub width_printed : (n : ℕ) (tail : List ℕ) → 1 ≤ n → n ≤ 16 → width_field (n ∷ tail) ≡ Some n
width_printed n tail some few = kept_pass (λ (k : ℕ). nat_lt 0 k && nat_le k 16) n (and_from (nat_lt 0 n) (nat_le n 16) (lt-ltb 0 n (omega (arith, some))) (le-leb n 16 few))

pub name_printed : (names : List (List ℕ)) (name tail : List ℕ) → IsIdentifier name → holds names name ≡ false → new_name names (length name) (name ++ tail) ≡ Some name
name_printed names name tail word new =
    ap (λ (o : Option (List ℕ)). kept (λ (x : List ℕ). not (holds names x)) (kept is_identifier o)) (piece_printed name tail (length name) refl)
    ∙ ap (kept (λ (x : List ℕ). not (holds names x))) (kept_pass is_identifier name (identifier_passes name word))
    ∙ kept_pass (λ (x : List ℕ). not (holds names x)) name (ap not new)

pub kind_printed : (kind : Kind) (tail : List ℕ) → kind_field (kind_byte kind ∷ tail) ≡ Some kind
kind_printed int_kind tail = refl
kind_printed bool_kind tail = refl
kind_printed text_kind tail = refl

chars_some : (chars : List ℕ) → is_word chars ≡ true → 1 ≤ length chars
chars_some [] h = absurd (false≢true h)
chars_some (c ∷ cs) h = omega arith

pub name_some : (name : List ℕ) → IsIdentifier name → 1 ≤ length name
name_some name word =
    let size = ap (λ (l : List ℕ). length l) word.spelled in
    let some = chars_some word.chars word.word in
    let long = length-le-encodes word.chars in
    omega (arith, size, some, long)

-- ---- the fields of pages

pub rel_printed : (count : ℕ) (last : Option PageEnd) (n : ℕ) (tail : List ℕ) → n < count → count ≤ 65536 → follows last n ≡ true → rel_field count last (to_be_bytes w16 n ++ tail) ≡ Some n
rel_printed count last n tail known few after =
    ap (kept (λ (rel : ℕ). nat_lt rel count && follows last rel)) (number16_printed n tail (omega (arith, known, few)))
    ∙ kept_pass (λ (rel : ℕ). nat_lt rel count && follows last rel) n (and_from (nat_lt n count) (follows last n) (lt-ltb n count known) after)

pub row_count_printed : (n : ℕ) (tail : List ℕ) → 1 ≤ n → n < 65536 → row_count_field (to_be_bytes w16 n ++ tail) ≡ Some n
row_count_printed n tail some few = ap (kept (nat_lt 0)) (number16_printed n tail few) ∙ kept_pass (nat_lt 0) n (lt-ltb 0 n (omega (arith, some)))

pub row_printed : (page : ℕ) (schema : List Attr) (used : ℕ) (before : Option Row) (full : Option ℕ) (r tail : List ℕ) → IsRow schema r → row_keeps page used before full r ≡ true → row_field page schema used before full (r ++ tail) ≡ Some r
row_printed page schema used before full r tail row keeps =
    ap (λ (o : Option ℕ). kept (row_keeps page used before full) (option_and_then (λ n. Some (take n (r ++ tail))) o)) (row_in_front schema r tail row)
    ∙ ap (λ (x : List ℕ). kept (row_keeps page used before full) (Some x)) (take_at r tail (length r) refl)
    ∙ kept_pass (row_keeps page used before full) r keeps

pub length-zeros : (n : ℕ) → length (zeros n) ≡ n
length-zeros zero = refl
length-zeros (suc n) = let more = length-zeros n in omega (arith, more)

all_zeros : (n : ℕ) → list_all (λ x. x == 0) (zeros n) ≡ true
all_zeros zero = refl
all_zeros (suc n) = all_zeros n

pub fill_printed : (n : ℕ) (tail : List ℕ) → fill_field n (zeros n ++ tail) ≡ Some (zeros n)
fill_printed n tail = ap (kept (list_all (λ x. x == 0))) (piece_printed (zeros n) tail n (length-zeros n)) ∙ kept_pass (list_all (λ x. x == 0)) (zeros n) (all_zeros n)
