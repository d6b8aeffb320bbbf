-- How far a text has been cut.
use Rattle.std.proofs.Common.{◌≡◌, ℕ, ◌+◌, ◌-◌, ◌<◌, ◌≤◌, List, [], ◌∷◌, ◌++◌, length, take, drop, Some, None, true, sym, refl, ap, ◌∙◌, subst, append_assoc, arith, IsUtf8}
use Rattle.std.specs.Str.{chars, IsCharBoundary}
use Rattle.std.proofs.lemmas.List.{append-nil, append_cancel_left, length-append, take_at, drop_at}
use Rattle.std.proofs.lemmas.Str.{chars-nil, chars-encodes, encodes-chars, scalars-chars, encodes-append, length-le-encodes, IsCharBoundary-at_seam}
use Rattle.std.proofs.Math.Utf8.{encodes, scalar, scalars}
use Rattle.hera_syntax.specs.declared.words.Mark.{Mark}
use Rattle.hera_syntax.specs.declared.words.Mark.TheVariants as puncts
use Rattle.hera_syntax.specs.Words.{mark_text}
use Rattle.hera_syntax.specs.declared.token.PieceShape.{PieceShape}
use Rattle.hera_syntax.specs.declared.token.TokenKind.{TokenKind}
use Rattle.hera_syntax.specs.declared.token.Token.{Token}
use Rattle.hera_syntax.specs.Lexemes.{IsPiece, IsLongest, IsToken, IsBetween, blank, line_comment, comment, open_comment, word, digits, quoted, punct}
use Rattle.hera_syntax.specs.Lex.{size, Cuts, Fails, IsStuck, Lex, LexFails, done, skip, keep, here}
use Rattle.hera_lexer.specs.Scan.{scan_of}
use Rattle.hera_lexer.proofs.Shapes.{one_shape}
use Rattle.std.proofs.lemmas.Bool.{and_parts, and_from}
use Rattle.hera_lexer.proofs.Longest.{Found, NoPiece}
use Rattle.hera_lexer.proofs.Scans.{Says, scan_says}

-- the tokens of the text's front are these, and rest is left
pub record Walks (text : List ℕ) (tokens : List Token) (rest : List ℕ) : Type 0 where
  pub utf8 : IsUtf8 rest
  pub short : length rest ≤ length text
  -- what cuts the rest cuts the whole, with these tokens in front
  pub cuts : (more : List Token) → Cuts (length text - length rest) (chars rest) more → Cuts 0 (chars text) (tokens ++ more)
  -- where the cut of the rest gets stuck, so does that of the whole
  pub fails : (at : ℕ) → Fails (length text - length rest) (chars rest) at → Fails 0 (chars text) at

pub walks_none : (text : List ℕ) → IsUtf8 text → Walks text [] text
walks_none text u =
    let none : length text - length text ≡ 0 = omega arith in
    record {
      utf8 = u;
      short = omega arith;
      cuts = λ more c. subst (λ n. Cuts n (chars text) more) none c;
      fails = λ at f. subst (λ n. Fails n (chars text) at) none f;
    }

-- the longest piece at a place is one
pub record Same (k j : PieceShape) (p q x y : List ℕ) : Type 0 where
  pub shape : k ≡ j
  pub piece : p ≡ q
  pub more : x ≡ y

pub one_longest : (k j : PieceShape) (p q x y : List ℕ) → IsLongest k p x → IsLongest j q y → p ++ x ≡ q ++ y → Same k j p q x y
one_longest k j p q x y h g e =
    let a = h.longest j q y g.looks (sym e) in
    let b = g.longest k p x h.looks e in
    let long : length p ≡ length q = omega arith in
    let piece : p ≡ q = sym (take_at p x (length p) refl) ∙ ap (take (length p)) e ∙ ap (λ n. take n (q ++ y)) long ∙ take_at q y (length q) refl in
    record {
      shape = one_shape k j p h.looks (subst (IsPiece j) (sym piece) g.looks);
      piece = piece;
      more = append_cancel_left p x y (e ∙ ap (λ z. z ++ y) (sym piece));
    }

-- a place that no cut leaves
stuck_none : (cs : List ℕ) → (cs ≡ [] → ⊥) → NoPiece cs → IsStuck cs
stuck_none cs some h = record { some = some; none = λ k p more e l. absurd (h k p more l.looks (sym e)) }

stuck_refused : (k : PieceShape) (p more : List ℕ) → (p ++ more ≡ [] → ⊥) → IsLongest k p more → (IsBetween k → ⊥) → ((kind : TokenKind) → IsToken k p kind → ⊥) → IsStuck (p ++ more)
stuck_refused k p more some l between token = record {
  some = some;
  none = λ j q rest e g. let same = one_longest k j p q more rest l g e in (
    λ b. between (subst IsBetween (sym same.shape) b),
    λ kind t. token kind (subst (λ z. IsToken z p kind) (sym same.shape) (subst (λ z. IsToken j z kind) (sym same.piece) t)),
  );
}

-- the text's bytes at a place
pub scalars_front : (xs ys : List ℕ) → scalars (xs ++ ys) ≡ true → scalars xs ≡ true
scalars_front [] ys h = refl
scalars_front (x ∷ xs) ys h = let both = and_parts (scalar x) (scalars (xs ++ ys)) h in and_from (scalar x) (scalars xs) both.0 (scalars_front xs ys both.1)

pub scalars_back : (xs ys : List ℕ) → scalars (xs ++ ys) ≡ true → scalars ys ≡ true
scalars_back [] ys h = h
scalars_back (x ∷ xs) ys h = scalars_back xs ys (and_parts (scalar x) (scalars (xs ++ ys)) h).1

mark_some : (m : Mark) → 0 < length (mark_text m)
mark_some puncts.OpenParen = omega arith
mark_some puncts.CloseParen = omega arith
mark_some puncts.OpenSquare = omega arith
mark_some puncts.CloseSquare = omega arith
mark_some puncts.OpenBrace = omega arith
mark_some puncts.CloseBrace = omega arith
mark_some puncts.Comma = omega arith
mark_some puncts.Semicolon = omega arith
mark_some puncts.Colon = omega arith
mark_some puncts.Dot = omega arith
mark_some puncts.Equals = omega arith
mark_some puncts.EqualEqual = omega arith
mark_some puncts.NotEqual = omega arith
mark_some puncts.Less = omega arith
mark_some puncts.LessEqual = omega arith
mark_some puncts.Greater = omega arith
mark_some puncts.GreaterEqual = omega arith
mark_some puncts.Plus = omega arith
mark_some puncts.Minus = omega arith
mark_some puncts.Star = omega arith
mark_some puncts.Slash = omega arith
mark_some puncts.Percent = omega arith
mark_some puncts.Bang = omega arith
mark_some puncts.And = omega arith
mark_some puncts.AndAnd = omega arith
mark_some puncts.OrOr = omega arith

pub piece_some : (k : PieceShape) (p : List ℕ) → IsPiece k p → 0 < length p
piece_some _ _ (blank h) = omega arith
piece_some _ _ (line_comment h) = omega arith
piece_some _ _ (comment h) = omega arith
piece_some _ _ (open_comment h) = omega arith
piece_some _ _ (word w) = omega arith
piece_some _ _ (digits h r) = omega arith
piece_some _ _ (quoted h) = omega arith
piece_some _ _ (punct {m} {cs} h) = subst (λ z. 0 < length z) h (mark_some m)

says : (cs rest : List ℕ) → scalars cs ≡ true → encodes cs ≡ rest → 0 < length rest → Says cs (scan_of rest)
says [] rest s e some = absurd (omega (arith, ap length e))
says (c ∷ cs) rest s e some = subst (λ bs. Says (c ∷ cs) (scan_of bs)) e (scan_says c cs s)

chars_some : (rest : List ℕ) → IsUtf8 rest → 0 < length rest → chars rest ≡ [] → ⊥
chars_some rest u some e = let none = ap length (sym (encodes-chars rest u) ∙ ap encodes e) in absurd (omega arith)

-- the bytes of the longest piece, and those behind it
pub record Step (rest front back : List ℕ) (k : PieceShape) : Type 0 where
  pub piece : List ℕ
  pub more : List ℕ
  pub cut : chars rest ≡ piece ++ more
  pub front_is : chars front ≡ piece
  pub back_is : chars back ≡ more
  pub utf8 : IsUtf8 back
  pub longest : IsLongest k piece more
  pub long : length rest ≡ size piece + length back
  pub some : 0 < size piece

pub record Seam (rest : List ℕ) (k : PieceShape) (n : ℕ) : Type 0 where
  pub boundary : IsCharBoundary rest n
  pub step : Step rest (take n rest) (drop n rest) k

seam : (cs rest : List ℕ) (k : PieceShape) (n : ℕ) → scalars cs ≡ true → encodes cs ≡ rest → chars rest ≡ cs → Found cs k n → Seam rest k n
seam cs rest k n s e is found =
    let piece : List ℕ = found.piece in
    let more : List ℕ = found.more in
    let bytes : rest ≡ encodes piece ++ encodes more = sym e ∙ ap encodes found.cut ∙ encodes-append piece more in
    let all : scalars (piece ++ more) ≡ true = ap scalars (sym found.cut) ∙ s in
    let sback = scalars_back piece more all in
    let back : drop n rest ≡ encodes more = ap (drop n) bytes ∙ drop_at (encodes piece) (encodes more) n (sym found.bytes) in
    let front : take n rest ≡ encodes piece = ap (take n) bytes ∙ take_at (encodes piece) (encodes more) n (sym found.bytes) in
    let u : IsUtf8 (encodes more) = (more, (sback, refl)) in
    record {
      boundary = subst (IsCharBoundary rest) (sym found.bytes) (IsCharBoundary-at_seam rest (encodes piece) (encodes more) bytes u);
      step = record {
        piece = piece;
        more = more;
        cut = is ∙ found.cut;
        front_is = ap chars front ∙ chars-encodes piece (scalars_front piece more all);
        back_is = ap chars back ∙ chars-encodes more sback;
        utf8 = subst IsUtf8 (sym back) u;
        longest = found.longest;
        long = ap length bytes ∙ length-append (encodes piece) (encodes more) ∙ ap (λ x. size piece + length x) (sym back);
        some = omega (arith, length-le-encodes piece, piece_some k piece found.longest.looks);
      };
    }

pub seam_found : (rest : List ℕ) (k : PieceShape) (n : ℕ) → IsUtf8 rest → 0 < length rest → scan_of rest ≡ Some (k, n) → Seam rest k n
seam_found rest k n u some e =
    let say = says (chars rest) rest (scalars-chars rest u) (encodes-chars rest u) some in
    seam (chars rest) rest k n (scalars-chars rest u) (encodes-chars rest u) refl (subst (Says (chars rest)) e say)

-- the step to what was split off
pub step_of : (rest front back : List ℕ) (k : PieceShape) (n : ℕ) → Seam rest k n → front ≡ take n rest → back ≡ drop n rest → Step rest front back k
step_of rest front back k n at f b = subst (λ x. Step rest x back k) (sym f) (subst (λ y. Step rest (take n rest) y k) (sym b) at.step)

pub step_piece : (rest front back : List ℕ) (k : PieceShape) → Step rest front back k → IsPiece k (chars front)
step_piece rest front back k at = subst (IsPiece k) (sym at.front_is) at.longest.looks

pub step_less : (rest front back : List ℕ) (k : PieceShape) → Step rest front back k → length back < length rest
step_less rest front back k at = omega (arith, at.long, at.some)

is_empty : (xs : List ℕ) → length xs ≡ 0 → xs ≡ []
is_empty [] e = refl
is_empty (x ∷ xs) e = absurd (omega arith)

module _ {text : List ℕ} {tokens : List Token} {rest : List ℕ} (w : Walks text tokens rest) where
  -- nothing is in front
  pub walks_stuck : IsUtf8 text → IsStuck (chars rest) → LexFails text (length text - length rest)
  walks_stuck u stuck = (chars text, scalars-chars text u, encodes-chars text u, w.fails _ (here stuck))

  pub walks_no_piece : IsUtf8 text → 0 < length rest → scan_of rest ≡ None → LexFails text (length text - length rest)
  walks_no_piece u some e =
      let say = says (chars rest) rest (scalars-chars rest w.utf8) (encodes-chars rest w.utf8) some in
      walks_stuck u (stuck_none (chars rest) (chars_some rest w.utf8 some) (subst (Says (chars rest)) e say))

  pub walks_done : IsUtf8 text → length rest ≡ 0 → Lex text tokens
  walks_done u none = (
    chars text,
    scalars-chars text u,
    encodes-chars text u,
    let empty : rest ≡ [] = is_empty rest none in
        let chars_empty : chars rest ≡ [] = ap chars empty ∙ chars-nil in
        subst (Cuts 0 (chars text)) (append-nil tokens) (w.cuts [] (subst (λ z. Cuts (length text - length rest) z []) (sym chars_empty) done)),
  )

  module _ {front back : List ℕ} {k : PieceShape} (at : Step rest front back k) where
    moved : length text - length rest + size at.piece ≡ length text - length back
    moved = omega (arith, w.short, at.long)

    pub walks_between : IsBetween k → Walks text tokens back
    walks_between between = record {
      utf8 = at.utf8;
      short = omega (arith, w.short, at.long);
      cuts = λ more c. w.cuts more (subst (λ z. Cuts (length text - length rest) z more) (sym at.cut)
          (skip at.longest between (subst (λ n. Cuts n at.more more) (sym moved) (subst (λ z. Cuts (length text - length back) z more) at.back_is c))));
      fails = λ place f. w.fails place (subst (λ z. Fails (length text - length rest) z place) (sym at.cut)
          (skip at.longest between (subst (λ n. Fails n at.more place) (sym moved) (subst (λ z. Fails (length text - length back) z place) at.back_is f))));
    }

    pub walks_kept : (kind : TokenKind) → IsToken k (chars front) kind → Walks text (tokens ++ record { kind = kind; at = length text - length rest } ∷ []) back
    walks_kept kind is =
        let token : IsToken k at.piece kind = subst (λ z. IsToken k z kind) at.front_is is in
        let t : Token = record { kind = kind; at = length text - length rest } in
        record {
          utf8 = at.utf8;
          short = omega (arith, w.short, at.long);
          cuts = λ more c. subst (Cuts 0 (chars text)) (sym (append_assoc tokens (t ∷ []) more)) (w.cuts (t ∷ more) (subst (λ z. Cuts (length text - length rest) z (t ∷ more)) (sym at.cut)
              (keep at.longest token (subst (λ n. Cuts n at.more more) (sym moved) (subst (λ z. Cuts (length text - length back) z more) at.back_is c)))));
          fails = λ place f. w.fails place (subst (λ z. Fails (length text - length rest) z place) (sym at.cut)
              (keep at.longest token (subst (λ n. Fails n at.more place) (sym moved) (subst (λ z. Fails (length text - length back) z place) at.back_is f))));
        }

    pub walks_refused : IsUtf8 text → 0 < length rest → (IsBetween k → ⊥) → ((kind : TokenKind) → IsToken k (chars front) kind → ⊥) → LexFails text (length text - length rest)
    walks_refused u some between token =
        walks_stuck u (subst IsStuck (sym at.cut)
        (stuck_refused k at.piece at.more (λ e. chars_some rest w.utf8 some (at.cut ∙ e)) at.longest between (λ kind t. token kind (subst (λ z. IsToken k z kind) (sym at.front_is) t))))
