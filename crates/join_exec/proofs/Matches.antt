-- The pairs of rows that agree, row by row.
use Rattle.std.proofs.Common.{◌≡◌, ℕ, Bool, true, false, cond, ◌&&◌, ◌||◌, List, [], ◌∷◌, ◌++◌, map, length, drop, refl, sym, ap, ◌∙◌, subst, append_assoc}
use Rattle.std.specs.List.{filter}
use Rattle.std.proofs.lemmas.Bool.{both_ways}
use Rattle.std.proofs.lemmas.List.{append-nil, map-append}
use Rattle.std.proofs.lemmas.List.Elements.{filter-append}
use Rattle.std.proofs.lemmas.Grind.{flat_map-append}
use Rattle.hera_sets.specs.Rows.{Row, is_same, IsAscending, holds, put, normal}
use Rattle.hera_sets.proofs.Order.{same_true, same_itself}
use Rattle.hera_sets.proofs.Lists.{ascending_filter}
use Rattle.hera_sets.proofs.Members.{same_rows, ascending_normal, holds-normal, holds-filter, normal-push}
use Rattle.hera_meaning.specs.declared.schemas.Attr.{Attr}
use Rattle.hera_meaning.specs.Relations.{agree, joined, pairs}
use Rattle.rel_algebra.specs.Fronts.{begins, begun_of, rows_behind}
use Rattle.rel_algebra.proofs.FrontLemmas.{ascending_behind, holds-behind}
use Rattle.join_exec.specs.Leading.{shared_of, keyed_of}
use Rattle.join_exec.proofs.PairLemmas.{agree_shared}

-- the joined rows of one left row
abbrev pub matches_of : List Attr → List Attr → Row → List Row → List Row
matches_of left right x ys = map (joined left right) (filter (agree left right) (map (λ y. (x, y)) ys))

-- the joined rows of all left rows, in the order of the pairs
abbrev pub all_matches : List Attr → List Attr → List Row → List Row → List Row
all_matches left right xs ys = map (joined left right) (filter (agree left right) (pairs xs ys))

matches_of-append : (left right : List Attr) (x : Row) (ys zs : List Row) → matches_of left right x (ys ++ zs) ≡ matches_of left right x ys ++ matches_of left right x zs
matches_of-append left right x ys zs =
    ap (λ ps. map (joined left right) (filter (agree left right) ps)) (map-append (λ y. (x, y)) ys zs)
    ∙ ap (map (joined left right)) (filter-append (agree left right) (map (λ y. (x, y)) ys) (map (λ y. (x, y)) zs))
    ∙ map-append (joined left right) (filter (agree left right) (map (λ y. (x, y)) ys)) (filter (agree left right) (map (λ y. (x, y)) zs))

pub matches_of-push : (left right : List Attr) (x : Row) (old done : List Row) (y both : Row) (rows after : List Row) → agree left right (x, y) ≡ true → both ≡ joined left right (x, y) → rows ≡ old ++ matches_of left right x done → after ≡ rows ++ both ∷ [] → after ≡ old ++ matches_of left right x (done ++ y ∷ [])
matches_of-push left right x old done y both rows after h e r g =
    g ∙ (λ i. r i ++ e i ∷ [])
    ∙ append_assoc old (matches_of left right x done) (joined left right (x, y) ∷ [])
    ∙ ap (λ t. old ++ t) (sym (matches_of-append left right x done (y ∷ []) ∙ ap (λ t. matches_of left right x done ++ t) one))
  where
    one : matches_of left right x (y ∷ []) ≡ joined left right (x, y) ∷ []
    one = rw h refl

pub matches_of-skip : (left right : List Attr) (x : Row) (old done : List Row) (y : Row) (rows : List Row) → agree left right (x, y) ≡ false → rows ≡ old ++ matches_of left right x done → rows ≡ old ++ matches_of left right x (done ++ y ∷ [])
matches_of-skip left right x old done y rows h r =
    r ∙ ap (λ t. old ++ t) (sym (matches_of-append left right x done (y ∷ []) ∙ ap (λ t. matches_of left right x done ++ t) one ∙ append-nil (matches_of left right x done)))
  where
    one : matches_of left right x (y ∷ []) ≡ []
    one = rw h refl

-- no match is left out where only the rows are tried that begin with a front which all matches have
pub matches_of-begun : (left right : List Attr) (x front : Row) (ys : List Row) → ((y : Row) → agree left right (x, y) ≡ true → begins front y ≡ true) → matches_of left right x (begun_of front ys) ≡ matches_of left right x ys
matches_of-begun left right x front [] h = refl
matches_of-begun left right x front (y ∷ ys) h = by (matches_of-begun left right x front ys h) (begins front y) (agree left right (x, y)) refl refl
  where
    by : matches_of left right x (begun_of front ys) ≡ matches_of left right x ys → (v w : Bool) → begins front y ≡ v → agree left right (x, y) ≡ w → matches_of left right x (begun_of front (y ∷ ys)) ≡ matches_of left right x (y ∷ ys)
    by more true true e g = rw (e, g) (ap (λ t. joined left right (x, y) ∷ t) more)
    by more true false e g = rw (e, g) more
    by more false true e g = absurd (both_ways _ e (h y g))
    by more false false e g = rw (e, g) more

pub all_matches-push : (left right : List Attr) (xs ys : List Row) (x : Row) → all_matches left right (xs ++ x ∷ []) ys ≡ all_matches left right xs ys ++ matches_of left right x ys
all_matches-push left right xs ys x =
    ap (λ ps. map (joined left right) (filter (agree left right) ps)) (flat_map-append (λ z. map (λ y. (z, y)) ys) xs (x ∷ []) ∙ ap (λ t. pairs xs ys ++ t) (append-nil (map (λ y. (x, y)) ys)))
    ∙ ap (map (joined left right)) (filter-append (agree left right) (pairs xs ys) (map (λ y. (x, y)) ys))
    ∙ map-append (joined left right) (filter (agree left right) (pairs xs ys)) (filter (agree left right) (map (λ y. (x, y)) ys))

-- ---- into a set, pair by pair

pub pair_more : (left right : List Attr) (x : Row) (old done : List Row) (y : Row) (set new : List Row) → set ≡ normal (old ++ matches_of left right x done) → new ≡ cond (agree left right (x, y)) (put (joined left right (x, y)) set) set → new ≡ normal (old ++ matches_of left right x (done ++ y ∷ []))
pair_more left right x old done y set new r g = by (agree left right (x, y)) refl
  where
    before : List Row
    before = old ++ matches_of left right x done

    by : (v : Bool) → agree left right (x, y) ≡ v → new ≡ normal (old ++ matches_of left right x (done ++ y ∷ []))
    by true h =
        g ∙ ap (λ w. cond w (put (joined left right (x, y)) set) set) h
        ∙ ap (put (joined left right (x, y))) r
        ∙ sym (normal-push before (joined left right (x, y)))
        ∙ ap normal (matches_of-push left right x old done y (joined left right (x, y)) before (before ++ joined left right (x, y) ∷ []) h refl refl refl)
    by false h =
        g ∙ ap (λ w. cond w (put (joined left right (x, y)) set) set) h
        ∙ r
        ∙ ap normal (matches_of-skip left right x old done y before h refl)

-- the held ones among the rows behind a front, one more
held_push : (ys : List Row) (skip : ℕ) (done : List Row) (k : Row) → filter (holds ys) (rows_behind skip (done ++ k ∷ [])) ≡ filter (holds ys) (rows_behind skip done) ++ cond (holds ys (drop skip k)) (drop skip k ∷ []) []
held_push ys skip done k =
    ap (filter (holds ys)) (map-append (drop skip) done (k ∷ []))
    ∙ filter-append (holds ys) (rows_behind skip done) (drop skip k ∷ [])

pub held_more : (left right : List Attr) (x : Row) (old ys : List Row) (skip : ℕ) (done : List Row) (k y : Row) (set new : List Row) → y ≡ drop skip k → set ≡ normal (old ++ matches_of left right x (filter (holds ys) (rows_behind skip done)))
    → new ≡ cond (holds ys y) (cond (agree left right (x, y)) (put (joined left right (x, y)) set) set) set → new ≡ normal (old ++ matches_of left right x (filter (holds ys) (rows_behind skip (done ++ k ∷ []))))
held_more left right x old ys skip done k y set new e r g = by (holds ys y) refl
  where
    all : filter (holds ys) (rows_behind skip (done ++ k ∷ [])) ≡ filter (holds ys) (rows_behind skip done) ++ cond (holds ys y) (y ∷ []) []
    all = held_push ys skip done k ∙ ap (λ (z : Row). filter (holds ys) (rows_behind skip done) ++ cond (holds ys z) (z ∷ []) []) (sym e)

    by : (v : Bool) → holds ys y ≡ v → new ≡ normal (old ++ matches_of left right x (filter (holds ys) (rows_behind skip (done ++ k ∷ []))))
    by true h =
        pair_more left right x old (filter (holds ys) (rows_behind skip done)) y set new r (g ∙ ap (λ w. cond w (cond (agree left right (x, y)) (put (joined left right (x, y)) set) set) set) h)
        ∙ ap (λ (t : List Row). normal (old ++ matches_of left right x t)) (sym (all ∙ ap (λ w. filter (holds ys) (rows_behind skip done) ++ cond w (y ∷ []) []) h))
    by false h =
        g ∙ ap (λ w. cond w (cond (agree left right (x, y)) (put (joined left right (x, y)) set) set) set) h
        ∙ r
        ∙ ap (λ (t : List Row). normal (old ++ matches_of left right x t)) (sym (all ∙ ap (λ w. filter (holds ys) (rows_behind skip done) ++ cond w (y ∷ []) []) h ∙ append-nil (filter (holds ys) (rows_behind skip done))))

-- ---- no match is left out where the rows behind the common fields are tried

matches_flat : (left right : List Attr) (x : Row) (ys : List Row) → matches_of left right x ys ≡ map (λ y. joined left right (x, y)) (filter (λ y. agree left right (x, y)) ys)
matches_flat left right x [] = refl
matches_flat left right x (y ∷ ys) = by (matches_flat left right x ys) (agree left right (x, y)) refl
  where
    by : matches_of left right x ys ≡ map (λ z. joined left right (x, z)) (filter (λ z. agree left right (x, z)) ys)
        → (v : Bool) → agree left right (x, y) ≡ v → matches_of left right x (y ∷ ys) ≡ map (λ z. joined left right (x, z)) (filter (λ z. agree left right (x, z)) (y ∷ ys))
    by more true h = rw h (ap (λ t. joined left right (x, y) ∷ t) more)
    by more false h = rw h more

holds_image : (f : Row → Row) (ys : List Row) (q : Row) → holds ys q ≡ true → holds (map f ys) (f q) ≡ true
holds_image f [] q h = h
holds_image f (y ∷ ys) q h = by (holds_image f ys q) (is_same q y) refl
  where
    by : (holds ys q ≡ true → holds (map f ys) (f q) ≡ true) → (v : Bool) → is_same q y ≡ v → holds (map f (y ∷ ys)) (f q) ≡ true
    by more true e = rw (ap (λ z. is_same (f q) (f z)) (sym (same_true q y e)) ∙ same_itself (f q)) refl
    by more false e = elim (is_same (f q) (f y)) as (λ w. (w || holds (map f ys) (f q)) ≡ true) [ true ↦ refl | false ↦ more (rw e at h) ]

pub matches_of-keyed : (left right : List Attr) (x front : Row) (ys keyed : List Row) → IsAscending ys → front ≡ shared_of left right left x → keyed ≡ normal (map (keyed_of left right) ys)
    → matches_of left right x (filter (holds ys) (rows_behind (length front) (begun_of front keyed))) ≡ matches_of left right x ys
matches_of-keyed left right x front ys keyed up f k =
    matches_flat left right x (filter (holds ys) tried)
    ∙ ap (map (λ y. joined left right (x, y))) (same_rows (filter goes (filter (holds ys) tried)) (filter goes ys)
    (ascending_filter goes (filter (holds ys) tried) (ascending_filter (holds ys) tried (ascending_behind front keyed (subst IsAscending (sym k) (ascending_normal (map (keyed_of left right) ys))))))
    (ascending_filter goes ys up)
    (λ q. holds-filter goes (filter (holds ys) tried) q ∙ ap (λ v. goes q && v) (holds-filter (holds ys) tried q) ∙ by q (goes q) refl (holds ys q) refl ∙ sym (holds-filter goes ys q)))
    ∙ sym (matches_flat left right x ys)
  where
    goes : Row → Bool
    goes y = agree left right (x, y)

    tried : List Row
    tried = rows_behind (length front) (begun_of front keyed)

    there : (q : Row) → agree left right (x, q) ≡ true → holds ys q ≡ true → holds tried q ≡ true
    there q g h =
        let key : keyed_of left right q ≡ front ++ q = ap (λ (t : Row). t ++ q) (sym (f ∙ agree_shared left right x q g)) in
        holds-behind front q keyed
        ∙ ap (λ (t : List Row). holds t (front ++ q)) k
        ∙ holds-normal (map (keyed_of left right) ys) (front ++ q)
        ∙ ap (holds (map (keyed_of left right) ys)) (sym key)
        ∙ holds_image (keyed_of left right) ys q h

    by : (q : Row) (v : Bool) → agree left right (x, q) ≡ v → (w : Bool) → holds ys q ≡ w → (agree left right (x, q) && (holds ys q && holds tried q)) ≡ (agree left right (x, q) && holds ys q)
    by q true g true h = rw (g, h) (there q g h)
    by q true g false h = rw (g, h) refl
    by q false g w h = rw g refl
