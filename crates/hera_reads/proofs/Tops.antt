-- The newest item of a stack, which its list has at the end.
use Rattle.std.proofs.Common.{◌≡◌, ℕ, zero, suc, ◌+◌, ◌<◌, ◌≤◌, List, [], ◌∷◌, ◌++◌, length, map, drop, get_or, None, refl, sym, ap, ◌∙◌, subst, arith}
use Rattle.std.proofs.lemmas.List.{map-append}
use Rattle.std.specs.Prelude.{slice_set}
use Rattle.hera_fits.specs.Newest.{newest}
use Rattle.hera_fits.proofs.Stacks.{newest_length}
use Rattle.hera_reads.specs.Walking.{Pace, coming_in, current_in, rest_reach, walks_reach, on_newest}

-- what stands behind the first element stays behind it when the list is longer
drop_front : {A : Type 0} → (xs ys : List A) → 0 < length xs → drop 1 (xs ++ ys) ≡ drop 1 xs ++ ys
drop_front [] ys h = absurd (omega (arith, h))
drop_front (x ∷ xs) ys h = refl

newest_some : {A B : Type 0} → (f : A → B) (x : A) (xs : List A) → 0 < length (newest f (x ∷ xs))
newest_some f x xs = let long : length (newest f (x ∷ xs)) ≡ length (x ∷ xs) = newest_length f (x ∷ xs) in omega (arith, long)

pub newest_at_end : {A B : Type 0} → (f : A → B) (xs : List A) (i : ℕ) (d : A) → i + 1 ≡ length xs → d ≡ get_or xs i d → newest f xs ≡ f d ∷ drop 1 (newest f xs)
newest_at_end f [] i d e g = absurd (omega (arith, e))
newest_at_end f (x ∷ []) zero d e g = ap (λ y. f y ∷ []) (sym g)
newest_at_end f (x ∷ []) (suc i) d e g = absurd (omega (arith, e))
newest_at_end f (x ∷ y ∷ ys) zero d e g = absurd (omega (arith, e))
newest_at_end f (x ∷ y ∷ ys) (suc i) d e g =
    ap (λ zs. zs ++ f x ∷ []) (newest_at_end f (y ∷ ys) i d (omega (arith, e)) g)
    ∙ ap (λ zs. f d ∷ zs) (sym (drop_front (newest f (y ∷ ys)) (f x ∷ []) (newest_some f y ys)))

pub newest_set_end : {A B : Type 0} → (f : A → B) (xs : List A) (i : ℕ) (w : A) → i + 1 ≡ length xs → newest f (slice_set xs i w) ≡ f w ∷ drop 1 (newest f xs)
newest_set_end f [] i w e = absurd (omega (arith, e))
newest_set_end f (x ∷ []) zero w e = refl
newest_set_end f (x ∷ []) (suc i) w e = absurd (omega (arith, e))
newest_set_end f (x ∷ y ∷ ys) zero w e = absurd (omega (arith, e))
newest_set_end f (x ∷ y ∷ ys) (suc i) w e =
    ap (λ zs. zs ++ f x ∷ []) (newest_set_end f (y ∷ ys) i w (omega (arith, e)))
    ∙ ap (λ zs. f w ∷ zs) (sym (drop_front (newest f (y ∷ ys)) (f x ∷ []) (newest_some f y ys)))

-- what is put in the newest item's place
pub put_last : {A B : Type 0} → (f : A → B) (xs : List A) (i : ℕ) (w : A) (b : B) → i + 1 ≡ length xs → f w ≡ b → newest f (slice_set xs i w) ≡ b ∷ drop 1 (newest f xs)
put_last f xs i w b e h = newest_set_end f xs i w e ∙ ap (λ y. y ∷ drop 1 (newest f xs)) h

pub newest_map : {A B : Type 0} → (f : A → B) (xs : List A) → map f (newest (λ x. x) xs) ≡ newest f xs
newest_map f [] = refl
newest_map f (x ∷ xs) = map-append f (newest (λ x. x) xs) (x ∷ []) ∙ ap (λ ys. ys ++ f x ∷ []) (newest_map f xs)

-- the newest item is changed in its place
pub changed : {A : Type 0} → (change : A → A) (xs : List A) (i : ℕ) (d w : A) → i + 1 ≡ length xs → d ≡ get_or xs i d → w ≡ change d →
    newest (λ x. x) (slice_set xs i w) ≡ on_newest change (newest (λ x. x) xs)
changed change xs i d w e g h =
    newest_set_end (λ x. x) xs i w e ∙ ap (λ x. x ∷ drop 1 (newest (λ x. x) xs)) h
    ∙ sym (ap (on_newest change) (newest_at_end (λ x. x) xs i d e g))

pub changed_at : {A B : Type 0} → (f : A → B) (change : B → B) (xs : List A) (i : ℕ) (d w : A) → i + 1 ≡ length xs → d ≡ get_or xs i d → f w ≡ change (f d) →
    map f (newest (λ x. x) (slice_set xs i w)) ≡ on_newest change (map f (newest (λ x. x) xs))
changed_at f change xs i d w e g h =
    newest_map f (slice_set xs i w)
    ∙ newest_set_end f xs i w e ∙ ap (λ y. y ∷ drop 1 (newest f xs)) h
    ∙ sym (ap (on_newest change) (newest_map f xs ∙ newest_at_end f xs i d e g))

pub changed_reach : (xs : List Pace) (i : ℕ) (d w : Pace) → i + 1 ≡ length xs → d ≡ get_or xs i d → rest_reach w.rest ≤ rest_reach d.rest →
    walks_reach (newest (λ x. x) (slice_set xs i w)) ≤ walks_reach (newest (λ x. x) xs)
changed_reach xs i d w e g h =
    subst (λ ws. walks_reach (newest (λ x. x) (slice_set xs i w)) ≤ walks_reach ws) (sym (newest_at_end (λ x. x) xs i d e g))
    (subst (λ vs. walks_reach vs ≤ walks_reach (d ∷ drop 1 (newest (λ x. x) xs))) (sym (newest_set_end (λ x. x) xs i w e)) (omega (arith, h)))

-- an item that is as it was
pub same_set : {A : Type 0} → (xs : List A) (i : ℕ) (d w : A) → i + 1 ≡ length xs → d ≡ get_or xs i d → w ≡ d → newest (λ x. x) (slice_set xs i w) ≡ newest (λ x. x) xs
same_set xs i d w e g h =
    newest_set_end (λ x. x) xs i w e ∙ ap (λ x. x ∷ drop 1 (newest (λ x. x) xs)) h ∙ sym (newest_at_end (λ x. x) xs i d e g)

-- where there is no item
pub none_coming : (xs : List Pace) → length xs ≡ 0 → None ≡ coming_in (newest (λ x. x) xs)
none_coming [] e = refl
none_coming (x ∷ xs) e = absurd (omega (arith, e))

pub none_current : (xs : List Pace) → length xs ≡ 0 → None ≡ current_in (newest (λ x. x) xs)
none_current [] e = refl
none_current (x ∷ xs) e = absurd (omega (arith, e))

pub none_changed : {A : Type 0} → (change : A → A) (xs : List A) → length xs ≡ 0 → newest (λ x. x) xs ≡ on_newest change (newest (λ x. x) xs)
none_changed change [] e = refl
none_changed change (x ∷ xs) e = absurd (omega (arith, e))

pub none_changed_at : {A B : Type 0} → (f : A → B) (change : B → B) (xs : List A) → length xs ≡ 0 → map f (newest (λ x. x) xs) ≡ on_newest change (map f (newest (λ x. x) xs))
none_changed_at f change [] e = refl
none_changed_at f change (x ∷ xs) e = absurd (omega (arith, e))

pub ruleset tops = (none_coming, none_current, none_changed, none_changed_at, changed, changed_at, changed_reach, same_set)

pub ruleset lasts = (put_last, newest_length)
