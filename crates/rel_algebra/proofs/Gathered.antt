-- Images of rows, put into a set one after another.
use Rattle.std.proofs.Common.{◌≡◌, List, [], ◌∷◌, ◌++◌, map, sym, ap, ◌∙◌}
use Rattle.std.proofs.lemmas.List.{map_push}
use Rattle.hera_sets.specs.Rows.{Row, put, normal}
use Rattle.hera_sets.proofs.Members.{normal-push}

-- one image more
pub image_more : (image : Row → Row) (done : List Row) (row bytes : Row) (set new : List Row) → bytes ≡ image row → set ≡ normal (map image done) → new ≡ put bytes set → new ≡ normal (map image (done ++ row ∷ []))
image_more image done row bytes set new e r g =
    g ∙ (λ i. put (e i) (r i)) ∙ sym (ap normal (map_push image done row) ∙ normal-push (map image done) (image row))
