-- The pieces of a row, one after another.
use Rattle.std.proofs.Common.{◌≡◌, ℕ, zero, suc, ◌+◌, ◌-◌, ◌<◌, ◌≤◌, List, [], ◌∷◌, Some, length, take, drop, refl, sym, ap, ◌∙◌, arith}
use Rattle.std.specs.List.{slice_get}
use Rattle.hera_meaning.specs.declared.scalars.Kind.{Kind}
use Rattle.hera_meaning.specs.declared.scalars.Kind.TheVariants.{Int as int_kind, Bool as bool_kind, Text as text_kind}
use Rattle.hera_meaning.specs.declared.schemas.Attr.{Attr}
use Rattle.hera_meaning.specs.Rows.{first_piece, pieces}
use Rattle.hera_meaning.specs.Relations.{piece_at}
use Rattle.hera_row.proofs.RowLemmas.{drop_attr}
use Rattle.hera_row.proofs.Zeros.{zero_place, through_zero-take}

take_whole : (n : ℕ) (xs : List ℕ) → take (length (take n xs)) xs ≡ take n xs
take_whole zero xs = refl
take_whole (suc n) [] = refl
take_whole (suc n) (x ∷ xs) = ap (λ t. x ∷ t) (take_whole n xs)

-- the piece that stands first is a front
pub first_piece_front : (k : Kind) (bytes : List ℕ) → take (length (first_piece k bytes)) bytes ≡ first_piece k bytes
first_piece_front int_kind bytes = take_whole 8 bytes
first_piece_front bool_kind bytes = take_whole 1 bytes
first_piece_front text_kind bytes =
    ap (λ t. take (length t) bytes) (through_zero-take bytes)
    ∙ take_whole (zero_place bytes + 1) bytes
    ∙ sym (through_zero-take bytes)

-- the field sought is one of the pieces of what is left
pub record IsBefore (schema : List Attr) (row : List ℕ) (i place : ℕ) (rest : List ℕ) : Type 0 where
  pub before : place ≤ i
  pub same : piece_at (pieces (drop place schema) rest) (i - place) ≡ piece_at (pieces schema row) i

pub before_start : (schema : List Attr) (row : List ℕ) (i : ℕ) → IsBefore schema row i 0 row
before_start schema row i = record { before = omega arith; same = ap (piece_at (pieces schema row)) whole }
  where
    whole : i - 0 ≡ i
    whole = omega arith

pub before_here : (schema : List Attr) (row : List ℕ) (i place : ℕ) (a : Attr) (rest front : List ℕ) (n : ℕ) → slice_get schema place ≡ Some a → place ≡ i → n ≡ length (first_piece a.kind rest) → front ≡ take n rest → IsBefore schema row i place rest → front ≡ piece_at (pieces schema row) i
before_here schema row i place a rest front n at here size cut l =
    let none : 0 ≡ i - place = omega (arith, here) in
    cut
    ∙ ap (λ k. take k rest) size
    ∙ first_piece_front a.kind rest
    ∙ ap (piece_at (first_piece a.kind rest ∷ pieces (drop (place + 1) schema) (drop (length (first_piece a.kind rest)) rest))) none
    ∙ ap (λ attrs. piece_at (pieces attrs rest) (i - place)) (sym (drop_attr schema place a at))
    ∙ l.same

pub before_step : (schema : List Attr) (row : List ℕ) (i place : ℕ) (a : Attr) (rest after : List ℕ) (n : ℕ) → slice_get schema place ≡ Some a → place < i → n ≡ length (first_piece a.kind rest) → after ≡ drop n rest → IsBefore schema row i place rest → IsBefore schema row i (place + 1) after
before_step schema row i place a rest after n at h size moved l =
    let turn : suc (i - (place + 1)) ≡ i - place = omega arith in
    record {
      before = omega (arith, h);
      same =
          ap (λ bytes. piece_at (pieces (drop (place + 1) schema) bytes) (i - (place + 1))) (moved ∙ ap (λ k. drop k rest) size)
          ∙ ap (piece_at (first_piece a.kind rest ∷ pieces (drop (place + 1) schema) (drop (length (first_piece a.kind rest)) rest))) turn
          ∙ ap (λ attrs. piece_at (pieces attrs rest) (i - place)) (sym (drop_attr schema place a at))
          ∙ l.same;
    }
