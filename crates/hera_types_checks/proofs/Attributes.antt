-- Lists of attributes and of values, one item more.
use Rattle.std.proofs.Common.{◌≡◌, ℕ, ◌+◌, ◌<◌, List, [], ◌∷◌, ◌++◌, length, get_or, take, refl, sym, ap, ◌∙◌, add-one, arith}
use Rattle.std.specs.Prelude.{remove, false, true, nat_lt, None, Ok}
use Rattle.std.specs.List.{list_all}
use Rattle.hera_meaning.specs.declared.schemas.Attr.{Attr}
use Rattle.hera_meaning.specs.declared.scalars.Kind.{Kind}
use Rattle.hera_meaning.specs.declared.trees.Shape.TheVariants.{Delta as delta, Tuple as tuple}
use Rattle.hera_meaning.specs.declared.trees.Const.TheVariants.{EmptyDelta as empty_delta}
use Rattle.hera_meaning.specs.Plain.{expr_of}
use Rattle.hera_meaning.specs.Trees.{chain, constant}
use Rattle.hera_rules.specs.declared.words.Word.{Word}
use Rattle.hera_rules.specs.declared.env.Typed.{Typed}
use Rattle.hera_rules.specs.Agrees.{typings_of}
use Rattle.hera_rules.specs.Rules.{Typing, atoms_row, merges_from, typing, attrs_of, scalar_kind, is_scalar, make_row, repeat_in, row_row, types_of}
use Rattle.hera_types_parts.proofs.Equal.{attrs_more}

-- the attributes of a row
pub attrs_turn : (ws : List Word) (vs : List Typed) (i : ℕ) (w : Word) (v : Typed) {n : List ℕ} {k : Kind} {attrs attrs' : List Attr} → i < length ws → w ≡ get_or ws i w → i < length vs → v ≡ get_or vs i v →
    n ≡ w.name → k ≡ scalar_kind v.shape → attrs' ≡ attrs ++ (record { name = n; kind = k }) ∷ [] → attrs ≡ attrs_of (take i ws) (take i (typings_of vs)) →
    attrs' ≡ attrs_of (take (i + 1) ws) (take (i + 1) (typings_of vs))
attrs_turn ws vs i w v {n = n} {k = k} {attrs = attrs} h e d f g j s t =
    s ∙ ap (λ n. attrs ++ (record { name = n; kind = k }) ∷ []) g ∙ ap (λ k. attrs ++ (record { name = w.name; kind = k }) ∷ []) j
    ∙ ap (λ r. r ++ (record { name = w.name; kind = scalar_kind v.shape }) ∷ []) t ∙ rw add-one (sym (attrs_more ws vs i w v h e d f))

-- a row that breaks no rule
pub row_done : (at : ℕ) (ws : List Word) (vs : List Typing) → repeat_in [] ws ≡ None → nat_lt 16 (length ws) ≡ false → list_all is_scalar (types_of vs) ≡ true →
    row_row at ws vs ≡ Ok (typing (tuple (attrs_of ws vs)) (make_row (attrs_of ws vs) vs at))
row_done at ws vs e k h = rw (e, k, h) refl

-- a delta literal, by how many atoms it has
pub head_rest : {A : Type 0} (xs ys : List A) (x : A) → 0 < length xs → x ≡ get_or xs 0 x → ys ≡ remove xs 0 → xs ≡ x ∷ ys
head_rest [] ys x h e k = absurd (omega arith)
head_rest (z ∷ xs) ys x h e k = ap (λ y. y ∷ xs) (sym e) ∙ ap (λ r. x ∷ r) (sym k)

pub no_atom : (at : ℕ) (vs : List Typed) → length vs ≡ 0 → atoms_row at (typings_of vs) ≡ typing delta (constant empty_delta)
no_atom at [] h = refl
no_atom at (v ∷ vs) h = absurd (omega arith)

pub more_atoms : (at : ℕ) (vs rest : List Typed) (v : Typed) → vs ≡ v ∷ rest → 0 < length rest → atoms_row at (typings_of vs) ≡ typing delta (chain (expr_of v.core) (merges_from at (typings_of rest)))
more_atoms at vs [] v e h = absurd (omega arith)
more_atoms at vs (w ∷ rest) v e h = ap (λ vs. atoms_row at (typings_of vs)) e
