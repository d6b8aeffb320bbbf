-- A text has one cut, and is stuck at one place or at none.
use Rattle.std.proofs.Common.{◌≡◌, ℕ, ◌+◌, List, [], ◌∷◌, ◌++◌, sym, refl, ap, ◌∙◌, subst, arith}
use Rattle.std.proofs.lemmas.Option.{same_Some}
use Rattle.std.proofs.Math.Utf8.{encodes}
use Rattle.hera_syntax.specs.declared.words.Keyword.{Keyword}
use Rattle.hera_syntax.specs.declared.words.Mark.{Mark}
use Rattle.hera_syntax.specs.Words.{keyword_text}
use Rattle.hera_syntax.specs.declared.token.PieceShape.{PieceShape}
use Rattle.hera_syntax.specs.declared.token.PieceShape.TheVariants as shapes
use Rattle.hera_syntax.specs.declared.token.TokenKind.{TokenKind}
use Rattle.hera_syntax.specs.declared.token.TokenKind.TheVariants as kinds
use Rattle.hera_syntax.specs.declared.token.Token.{Token}
use Rattle.hera_syntax.specs.Lexemes.{IsLongest, IsToken, IsBetween, ident, key, int, text, punct, Spells}
use Rattle.hera_syntax.specs.Lex.{size, Cuts, Fails, done, skip, keep, here}
use Rattle.hera_lexer.specs.Read.{keyword_of}
use Rattle.hera_lexer.proofs.Values.{keyword_known, one_value}
use Rattle.hera_lexer.proofs.Walk.{one_longest, piece_some}

one_key : (j k : Keyword) (w : List ℕ) → keyword_text j ≡ w → keyword_text k ≡ w → j ≡ k
one_key j k w h g = same_Some _ _ (sym (keyword_known j) ∙ ap keyword_of (h ∙ sym g) ∙ keyword_known k)

-- the kind of a token, by what else it may be
record Kind (k : PieceShape) (cs : List ℕ) (kind : TokenKind) : Type 0 where
  same : (other : TokenKind) → IsToken k cs other → kind ≡ other

same_word : (cs : List ℕ) (kind other : TokenKind) → IsToken shapes.Word cs kind → IsToken shapes.Word cs other → kind ≡ other
same_word cs _ _ (ident h l) (ident g m) = refl
same_word cs _ _ (ident h l) (key {k} g) = absurd (h k g)
same_word cs _ _ (key {k} h) (ident g m) = absurd (g k h)
same_word cs _ _ (key {k = j} h) (key {k} g) = ap kinds.Key (one_key j k cs h g)

same_int : (cs : List ℕ) (kind other : TokenKind) → IsToken shapes.Digits cs kind → IsToken shapes.Digits cs other → kind ≡ other
same_int cs _ _ (int h) (int g) = refl

same_punct : (i : Mark) (cs : List ℕ) (kind other : TokenKind) → IsToken (shapes.Punct i) cs kind → IsToken (shapes.Punct i) cs other → kind ≡ other
same_punct i cs _ _ punct punct = refl

same_text_at : (body value cs : List ℕ) (other : TokenKind) → Spells body value → 34 ∷ (body ++ 34 ∷ []) ≡ cs → IsToken shapes.Quoted cs other → kinds.Text (encodes value) ≡ other
same_text_at body value _ _ s e (text {body = b} {value = v} t l) = let tails : body ++ 34 ∷ [] ≡ b ++ 34 ∷ [] = cc in ap kinds.Text (one_value body value b v s t tails)

pub one_kind : (k : PieceShape) (cs : List ℕ) (kind other : TokenKind) → IsToken k cs kind → IsToken k cs other → kind ≡ other
one_kind _ cs _ other (ident h l) t = same_word cs _ other (ident h l) t
one_kind _ cs _ other (key h) t = same_word cs _ other (key h) t
one_kind _ cs _ other (int h) t = same_int cs _ other (int h) t
one_kind _ _ _ other (text {body} {value} s l) t = same_text_at body value _ other s refl t
one_kind _ cs _ other (punct {m}) t = same_punct m cs _ other punct t

-- a token's shape does not stand between tokens
token_no_between : (k : PieceShape) (cs : List ℕ) (kind : TokenKind) → IsToken k cs kind → IsBetween k → ⊥
token_no_between _ cs _ (ident h l) b = elim b [ ]
token_no_between _ cs _ (key h) b = elim b [ ]
token_no_between _ cs _ (int h) b = elim b [ ]
token_no_between _ _ _ (text s l) b = elim b [ ]
token_no_between _ cs _ punct b = elim b [ ]

-- a piece in front of nothing
no_piece_of_nothing : (k : PieceShape) (p more : List ℕ) → IsLongest k p more → p ++ more ≡ [] → ⊥
no_piece_of_nothing k [] more l e = let some = piece_some k [] l.looks in absurd (omega arith)
no_piece_of_nothing k (c ∷ p) more l e = cc

-- two cuts of one text are one: what follows is told from what is in front
pub one_cut : (at : ℕ) (cs : List ℕ) (ts : List Token) → Cuts at cs ts → (ds : List ℕ) (us : List Token) → cs ≡ ds → Cuts at ds us → ts ≡ us
one_cut at _ _ done _ _ e done = refl
one_cut at _ _ done _ _ e (skip {shape = k} {piece = p} {more = x} l b c) = absurd (no_piece_of_nothing k p x l (sym e))
one_cut at _ _ done _ _ e (keep {shape = k} {piece = p} {more = x} l t c) = absurd (no_piece_of_nothing k p x l (sym e))
one_cut at _ _ (skip {shape = k} {piece = p} {more = x} l b c) _ _ e done = absurd (no_piece_of_nothing k p x l e)
one_cut at _ _ (skip {shape = k} {piece = p} {more = x} {tokens = ts} l b c) _ _ e (skip {shape = j} {piece = q} {more = y} {tokens = us} m a d) =
    let same = one_longest k j p q x y l m e in
    one_cut (at + size p) x ts c y us same.more (subst (λ z. Cuts (at + size z) y us) (sym same.piece) d)
one_cut at _ _ (skip {shape = k} {piece = p} {more = x} l b c) _ _ e (keep {shape = j} {piece = q} {more = y} {kind} m t d) =
    let same = one_longest k j p q x y l m e in absurd (token_no_between j q kind t (subst IsBetween same.shape b))
one_cut at _ _ (keep {shape = k} {piece = p} {more = x} l t c) _ _ e done = absurd (no_piece_of_nothing k p x l e)
one_cut at _ _ (keep {shape = k} {piece = p} {more = x} {kind} l t c) _ _ e (skip {shape = j} {piece = q} {more = y} m b d) =
    let same = one_longest k j p q x y l m e in absurd (token_no_between k p kind t (subst IsBetween (sym same.shape) b))
one_cut at _ _ (keep {shape = k} {piece = p} {more = x} {kind} {tokens = ts} l t c) _ _ e (keep {shape = j} {piece = q} {more = y} {kind = other} {tokens = us} m u d) =
    let same = one_longest k j p q x y l m e in
    let rest : ts ≡ us = one_cut (at + size p) x ts c y us same.more (subst (λ z. Cuts (at + size z) y us) (sym same.piece) d) in
    let one : kind ≡ other = one_kind k p kind other t (subst (λ z. IsToken z p other) (sym same.shape) (subst (λ z. IsToken j z other) (sym same.piece) u)) in
    ap (λ z. record { kind = z; at = at } ∷ ts) one ∙ ap (λ z. record { kind = other; at = at } ∷ z) rest

-- what is cut is not stuck
pub no_fail : (at : ℕ) (cs : List ℕ) (ts : List Token) → Cuts at cs ts → (ds : List ℕ) (place : ℕ) → cs ≡ ds → Fails at ds place → ⊥
no_fail at _ _ done _ _ e (here stuck) = stuck.some (sym e)
no_fail at _ _ done _ _ e (skip {shape = k} {piece = p} {more = x} l b f) = no_piece_of_nothing k p x l (sym e)
no_fail at _ _ done _ _ e (keep {shape = k} {piece = p} {more = x} l t f) = no_piece_of_nothing k p x l (sym e)
no_fail at _ _ (skip {shape = k} {piece = p} {more = x} l b c) _ _ e (here stuck) = (stuck.none k p x (sym e) l).0 b
no_fail at _ _ (skip {shape = k} {piece = p} {more = x} {tokens = ts} l b c) _ _ e (skip {place} {shape = j} {piece = q} {more = y} m a f) =
    let same = one_longest k j p q x y l m e in
    no_fail (at + size p) x ts c y place same.more (subst (λ z. Fails (at + size z) y place) (sym same.piece) f)
no_fail at _ _ (skip {shape = k} {piece = p} {more = x} l b c) _ _ e (keep {shape = j} {piece = q} {more = y} {kind} m t f) =
    let same = one_longest k j p q x y l m e in token_no_between j q kind t (subst IsBetween same.shape b)
no_fail at _ _ (keep {shape = k} {piece = p} {more = x} {kind} l t c) _ _ e (here stuck) = (stuck.none k p x (sym e) l).1 kind t
no_fail at _ _ (keep {shape = k} {piece = p} {more = x} {kind} l t c) _ _ e (skip {shape = j} {piece = q} {more = y} m b f) =
    let same = one_longest k j p q x y l m e in token_no_between k p kind t (subst IsBetween (sym same.shape) b)
no_fail at _ _ (keep {shape = k} {piece = p} {more = x} {tokens = ts} l t c) _ _ e (keep {place} {shape = j} {piece = q} {more = y} m u f) =
    let same = one_longest k j p q x y l m e in
    no_fail (at + size p) x ts c y place same.more (subst (λ z. Fails (at + size z) y place) (sym same.piece) f)

-- two places where a cut is stuck are one
pub one_fail : (at : ℕ) (cs : List ℕ) (a : ℕ) → Fails at cs a → (ds : List ℕ) (b : ℕ) → cs ≡ ds → Fails at ds b → a ≡ b
one_fail at _ _ (here stuck) _ _ e (here other) = refl
one_fail at _ _ (here stuck) _ _ e (skip {shape = k} {piece = p} {more = x} l b f) = absurd ((stuck.none k p x e l).0 b)
one_fail at _ _ (here stuck) _ _ e (keep {shape = k} {piece = p} {more = x} {kind} l t f) = absurd ((stuck.none k p x e l).1 kind t)
one_fail at _ _ (skip {shape = k} {piece = p} {more = x} l b f) _ _ e (here stuck) = absurd ((stuck.none k p x (sym e) l).0 b)
one_fail at _ _ (skip {place = u} {shape = k} {piece = p} {more = x} l b f) _ _ e (skip {place = v} {shape = j} {piece = q} {more = y} m a g) =
    let same = one_longest k j p q x y l m e in one_fail (at + size p) x u f y v same.more (subst (λ z. Fails (at + size z) y v) (sym same.piece) g)
one_fail at _ _ (skip {shape = k} {piece = p} {more = x} l b f) _ _ e (keep {shape = j} {piece = q} {more = y} {kind} m t g) =
    let same = one_longest k j p q x y l m e in absurd (token_no_between j q kind t (subst IsBetween same.shape b))
one_fail at _ _ (keep {shape = k} {piece = p} {more = x} {kind} l t f) _ _ e (here stuck) = absurd ((stuck.none k p x (sym e) l).1 kind t)
one_fail at _ _ (keep {shape = k} {piece = p} {more = x} {kind} l t f) _ _ e (skip {shape = j} {piece = q} {more = y} m b g) =
    let same = one_longest k j p q x y l m e in absurd (token_no_between k p kind t (subst IsBetween (sym same.shape) b))
one_fail at _ _ (keep {place = u} {shape = k} {piece = p} {more = x} l t f) _ _ e (keep {place = v} {shape = j} {piece = q} {more = y} m s g) =
    let same = one_longest k j p q x y l m e in one_fail (at + size p) x u f y v same.more (subst (λ z. Fails (at + size z) y v) (sym same.piece) g)
