-- The first repeat of a `rename`.
use Rattle.std.proofs.Common.{◌≡◌, ◌≤◌, inr, ℕ, ◌+◌, List, [], ◌∷◌, ◌++◌, refl, sym, ap, ◌∙◌, subst, arith, Bool, true, false, append-nil, append_assoc}
use Rattle.std.specs.Prelude.{Option, Some, None, cond}
use Rattle.hera_sets.specs.Rows.{holds}
use Rattle.hera_rules.specs.declared.words.Renamed.{Renamed}
use Rattle.hera_rules.specs.declared.fault.TypeFault.{TypeFault}
use Rattle.hera_rules.specs.declared.fault.TypeFault.TheVariants as faults
use Rattle.hera_rules.specs.Rules.{rename_repeat, old_names, old_words}
use Rattle.hera_faults.specs.Least.{IsFirst}
use Rattle.hera_faults.specs.Broken.{InOrder, PairsInOrder, IsRenameRepeat, new_again, old_again, new_names}
use Rattle.hera_faults.proofs.First.{First, none, some}
use Rattle.hera_faults.proofs.Words.{first_is, later_is, nothing_there, true_or_false}

abbrev Names : Type 0
Names = List (List ℕ)

pairs_later : (n : ℕ) (front back : List Renamed) (q : Renamed) → PairsInOrder n (front ++ q ∷ back) → (n ≤ q.new.at) × (n ≤ q.old.at)
pairs_later n [] back q o = let k = o.0 in let l = o.1 in (k, omega (arith, k, l))
pairs_later n (x ∷ front) back q o =
    let l = pairs_later (x.old.at + 1) front back q o.2 in
    let k = o.0 in
    let m = o.1 in
    let a = l.0 in
    let b = l.1 in
    (omega (arith, k, m, a), omega (arith, k, m, b))

-- the old words stand in text order too
pub old_in_order : (n : ℕ) (rs : List Renamed) → PairsInOrder n rs → InOrder n (old_words rs)
old_in_order n [] o = tt
old_in_order n (r ∷ rs) o = (let k = o.0 in let l = o.1 in omega (arith, k, l), old_in_order (r.old.at + 1) rs o.2)

no_repeat : {results olds : Names} {g : TypeFault} → IsRenameRepeat results olds [] g → ⊥
no_repeat (new_again front back r e k) = nothing_there front back r e
no_repeat (old_again front back r e k) = nothing_there front back r e

push : (seen more : Names) (z u : List ℕ) → holds (seen ++ z ∷ more) u ≡ holds ((seen ++ z ∷ []) ++ more) u
push seen more z u = ap (λ (zs : Names). holds zs u) (sym (append_assoc seen (z ∷ []) more))

nil : (seen : Names) (u : List ℕ) → holds (seen ++ []) u ≡ holds seen u
nil seen u = ap (λ (zs : Names). holds zs u) (append-nil seen)

behind : {results olds : Names} {r : Renamed} {rs : List Renamed} {g : TypeFault}
    → IsRenameRepeat (results ++ r.new.name ∷ []) (olds ++ r.old.name ∷ []) rs g → IsRenameRepeat results olds (r ∷ rs) g
behind {results = results} {r = r} (new_again front back q e k) =
    new_again (r ∷ front) back q (ap (λ zs. r ∷ zs) e) (push results (new_names front) r.new.name q.new.name ∙ k)
behind {olds = olds} {r = r} (old_again front back q e k) =
    old_again (r ∷ front) back q (ap (λ zs. r ∷ zs) e) (push olds (old_names front) r.old.name q.old.name ∙ k)

later : {results olds : Names} {r : Renamed} {rs : List Renamed} {g : TypeFault} → holds results r.new.name ≡ false → holds olds r.old.name ≡ false
    → IsRenameRepeat results olds (r ∷ rs) g → IsRenameRepeat (results ++ r.new.name ∷ []) (olds ++ r.old.name ∷ []) rs g
later {results = results} {r = r} h j (new_again [] back q e k) =
    true_or_false (holds results r.new.name) (sym (nil results r.new.name) ∙ ap (λ (z : Renamed). holds (results ++ []) z.new.name) (first_is e) ∙ k) h
later {results = results} {r = r} h j (new_again (x ∷ front) back q e k) =
    new_again front back q (later_is e)
    (sym (push results (new_names front) r.new.name q.new.name) ∙ ap (λ (z : Renamed). holds (results ++ z.new.name ∷ new_names front) q.new.name) (first_is e) ∙ k)
later {olds = olds} {r = r} h j (old_again [] back q e k) =
    true_or_false (holds olds r.old.name) (sym (nil olds r.old.name) ∙ ap (λ (z : Renamed). holds (olds ++ []) z.old.name) (first_is e) ∙ k) j
later {olds = olds} {r = r} h j (old_again (x ∷ front) back q e k) =
    old_again front back q (later_is e)
    (sym (push olds (old_names front) r.old.name q.old.name) ∙ ap (λ (z : Renamed). holds (olds ++ z.old.name ∷ old_names front) q.old.name) (first_is e) ∙ k)

-- the first pair's new name stands before all, and its old name before all but that
behind_first : (n : ℕ) (r : Renamed) (rs : List Renamed) → PairsInOrder n (r ∷ rs) → (front back : List Renamed) (x q : Renamed) → r ∷ rs ≡ (x ∷ front) ++ q ∷ back
    → (r.old.at ≤ q.new.at) × (r.old.at ≤ q.old.at)
behind_first n r rs o front back x q e =
    let l = pairs_later (r.old.at + 1) front back q (subst (λ (zs : List Renamed). PairsInOrder (r.old.at + 1) zs) (later_is e) o.2) in
    let a = l.0 in
    let b = l.1 in
    (omega (arith, a), omega (arith, b))

new_least : {results olds : Names} {g : TypeFault} (n : ℕ) (r : Renamed) (rs : List Renamed) → PairsInOrder n (r ∷ rs) → IsRenameRepeat results olds (r ∷ rs) g → IsFirst (faults.Repeated r.new.at) g
new_least n r rs o (new_again [] back q e k) = inr (refl, subst (λ (z : Renamed). r.new.at ≤ z.new.at) (first_is e) (omega arith))
new_least n r rs o (new_again (x ∷ front) back q e k) =
    let l = (behind_first n r rs o front back x q e).0 in
    let m = o.1 in
    inr (refl, omega (arith, l, m))
new_least n r rs o (old_again [] back q e k) = let m = o.1 in inr (refl, subst (λ (z : Renamed). r.new.at ≤ z.old.at) (first_is e) (omega (arith, m)))
new_least n r rs o (old_again (x ∷ front) back q e k) =
    let l = (behind_first n r rs o front back x q e).1 in
    let m = o.1 in
    inr (refl, omega (arith, l, m))

old_least : {results olds : Names} {g : TypeFault} (n : ℕ) (r : Renamed) (rs : List Renamed) → PairsInOrder n (r ∷ rs) → holds results r.new.name ≡ false
    → IsRenameRepeat results olds (r ∷ rs) g → IsFirst (faults.Repeated r.old.at) g
old_least {results = results} n r rs o h (new_again [] back q e k) =
    true_or_false (holds results r.new.name) (sym (nil results r.new.name) ∙ ap (λ (z : Renamed). holds (results ++ []) z.new.name) (first_is e) ∙ k) h
old_least n r rs o h (new_again (x ∷ front) back q e k) = inr (refl, (behind_first n r rs o front back x q e).0)
old_least n r rs o h (old_again [] back q e k) = inr (refl, subst (λ (z : Renamed). r.old.at ≤ z.old.at) (first_is e) (omega arith))
old_least n r rs o h (old_again (x ∷ front) back q e k) = inr (refl, (behind_first n r rs o front back x q e).1)

pub first_rename_repeat : (results olds : Names) (n : ℕ) (rs : List Renamed) → PairsInOrder n rs → First (IsRenameRepeat results olds rs) (rename_repeat results olds rs)
first_rename_repeat results olds n [] o = none (λ g h. no_repeat h)
first_rename_repeat results olds n (r ∷ rs) o =
    by (holds results r.new.name) refl (holds olds r.old.name) refl (rename_repeat (results ++ r.new.name ∷ []) (olds ++ r.old.name ∷ []) rs)
    (first_rename_repeat (results ++ r.new.name ∷ []) (olds ++ r.old.name ∷ []) (r.old.at + 1) rs o.2)
  where
    by : (b : Bool) → holds results r.new.name ≡ b → (c : Bool) → holds olds r.old.name ≡ c → (p : Option TypeFault)
        → First (IsRenameRepeat (results ++ r.new.name ∷ []) (olds ++ r.old.name ∷ []) rs) p
        → First (IsRenameRepeat results olds (r ∷ rs)) (cond b (Some (faults.Repeated r.new.at)) (cond c (Some (faults.Repeated r.old.at)) p))
    by true k c j p ih = some (new_again [] rs r refl (nil results r.new.name ∙ k)) (λ g h. new_least n r rs o h)
    by false k true j p ih = some (old_again [] rs r refl (nil olds r.old.name ∙ j)) (λ g h. old_least n r rs o k h)
    by false k false j None (none h) = none (λ g x. h g (later k j x))
    by false k false j (Some f) (some x least) = some (behind x) (λ g y. least g (later k j y))
