-- One relation more of a catalogue.
use Rattle.std.proofs.Common.{◌≡◌, ℕ, ◌+◌, ◌<◌, false, List, [], ◌∷◌, ◌++◌, length, map, drop, get_or, refl, sym, ap, subst, ◌∙◌}
use Rattle.std.proofs.lemmas.Bool.{false_from_ne_true, or_parts, or_from, both_ways}
use Rattle.std.proofs.lemmas.List.{map-append, drop_more}
use Rattle.hera_sets.specs.Rows.{Row, is_same, holds}
use Rattle.hera_sets.proofs.Order.{same_true, same_itself}
use Rattle.hera_sets.proofs.Members.{holds-append}
use Rattle.hera_meaning.specs.declared.schemas.RelDecl.{RelDecl}
use Rattle.hera_meaning.specs.Schemas.{AreDistinct}
use Rattle.hera_meaning.specs.Catalogues.{IsCatalogue, decl_name}

not_same : (a b : Row) → is_same a b ≡ false → is_same b a ≡ false
not_same a b h = false_from_ne_true (is_same b a) (λ g. both_ways _ h (ap (is_same a) (same_true b a g) ∙ same_itself a))

-- no name stands before itself
fresh_name : (front : List Row) (x : Row) (rest : List Row) → AreDistinct (front ++ x ∷ rest) → holds front x ≡ false
fresh_name [] x rest d = refl
fresh_name (y ∷ ys) x rest d =
    let apart = or_parts (holds ys y) (holds (x ∷ rest) y) (sym (holds-append ys (x ∷ rest) y) ∙ d.0) in
    let other = or_parts (is_same y x) (holds rest y) apart.1 in
    or_from _ _ (not_same y x other.0) (fresh_name ys x rest d.1)

-- with the relations up to one put in, the next is new
pub next_is_new : (added rels : List RelDecl) (i : ℕ) (x : RelDecl) → IsCatalogue rels → added ++ drop i rels ≡ rels → i < length rels → holds (map decl_name added) (get_or rels i x).name ≡ false
next_is_new added rels i x c is here =
    let cut : added ++ get_or rels i x ∷ drop (i + 1) rels ≡ rels = ap (λ (l : List RelDecl). added ++ l) (sym (drop_more rels i x here)) ∙ is in
    let names : map decl_name added ++ map decl_name (get_or rels i x ∷ drop (i + 1) rels) ≡ map decl_name rels = sym (map-append decl_name added (get_or rels i x ∷ drop (i + 1) rels)) ∙ ap (map decl_name) cut in
    fresh_name (map decl_name added) (get_or rels i x).name (map decl_name (drop (i + 1) rels)) (subst AreDistinct (sym names) c.distinct)
