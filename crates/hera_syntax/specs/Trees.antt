-- What the text of a tree is, and what begins one.
use Rattle.std.specs.Prelude.{◌≡◌, ◌<◌, ℕ, List, [], ◌∷◌, ◌++◌, length}
use Rattle.hera_syntax.specs.declared.token.Token.{Token}
use Rattle.hera_syntax.specs.declared.token.Terminal.{Terminal}
use Rattle.hera_syntax.specs.declared.tree.Tree.{Tree}
use Rattle.hera_syntax.specs.Grammar.{Allows, terminal_of, Production, Part, keep, leave, phrase, alternatives, alternative, program}
use Rattle.hera_syntax.specs.Outline.{Entry, at_node, kept, left_out}
use Rattle.hera_syntax.specs.Programs.{outline}

-- what a tree prints for one token: the token that it keeps, or the kind alone
pub data Printed : Type 0 where
  whole : Token → Printed
  kind_alone : Terminal → Printed

-- an outline without its nodes
abbrev pub printed : List Entry → List Printed
printed [] = []
printed (at_node s k ∷ ms) = printed ms
printed (kept t ∷ ms) = whole t ∷ printed ms
printed (left_out t ∷ ms) = kind_alone t ∷ printed ms

-- a tree, printed as its tokens
abbrev pub tokens_of : Tree → List Printed
tokens_of tree = printed (outline tree)

-- the token is the printed one: with its offset where the tree keeps it, else by its kind
abbrev pub Agrees : Printed → Token → Type 0
Agrees (whole t) u = t ≡ u
Agrees (kind_alone t) u = t ≡ terminal_of u.kind

-- the tokens are the printed ones, one by one
pub data Agree : List Printed → List Token → Type 0 where
  at_end : Agree [] []
  one_more : {p : Printed} {ps : List Printed} {t : Token} {ts : List Token} → Agrees p t → Agree ps ts → Agree (p ∷ ps) (t ∷ ts)

-- the outline is of these parts, one after the other, and each of its nodes obeys its production
pub data Obeys : List Part → List Entry → Type 0 where
  no_part : Obeys [] []
  keeps : {ts : List Terminal} {ps : List Part} {t : Token} {ms : List Entry} → Allows ts t → Obeys ps ms → Obeys (keep ts ∷ ps) (kept t ∷ ms)
  leaves : {t : Terminal} {ps : List Part} {ms : List Entry} → Obeys ps ms → Obeys (leave t ∷ ps) (left_out t ∷ ms)
  produces : {s : Production} {k : ℕ} {ps : List Part} {ms : List Entry}
      → k < length (alternatives s) → Obeys (alternative s k ++ ps) ms → Obeys (phrase s ∷ ps) (at_node s k ∷ ms)

-- each node of the tree obeys its production
abbrev pub Levels : Tree → Type 0
Levels tree = Obeys (phrase program ∷ []) (outline tree)

-- the tokens are the text of the tree
pub record IsTextOf (tree : Tree) (tokens : List Token) : Type 0 where
  pub levels : Levels tree
  pub printed : Agree (tokens_of tree) tokens

-- The tokens begin phrases of these parts, one after the other: they may end at any place.
pub data Begins : List Part → List Token → Type 0 where
  so_far : {ps : List Part} → Begins ps []
  begins_kept : {ts : List Terminal} {ps : List Part} {t : Token} {us : List Token} → Allows ts t → Begins ps us → Begins (keep ts ∷ ps) (t ∷ us)
  begins_left : {t : Terminal} {ps : List Part} {u : Token} {us : List Token} → t ≡ terminal_of u.kind → Begins ps us → Begins (leave t ∷ ps) (u ∷ us)
  begins_phrase : {s : Production} {ps : List Part} {us : List Token}
      (k : ℕ) → k < length (alternatives s) → Begins (alternative s k ++ ps) us → Begins (phrase s ∷ ps) us

-- the tokens begin a program
abbrev pub BeginsProgram : List Token → Type 0
BeginsProgram tokens = Begins (phrase program ∷ []) tokens

-- The tokens are the text of no tree, and this is the place: those before it begin a program, and with
-- the one at the place they do not. It is their number where all of them begin a program.
pub record IsFaultAt (tokens : List Token) (place : ℕ) : Type 0 where
  pub front : List Token
  pub rest : List Token
  pub cut : tokens ≡ front ++ rest
  pub here : place ≡ length front
  pub begins : BeginsProgram front
  pub no_more : (t : Token) (later : List Token) → rest ≡ t ∷ later → ¬ BeginsProgram (front ++ t ∷ [])
  pub no_tree : (tree : Tree) → ¬ IsTextOf tree tokens
