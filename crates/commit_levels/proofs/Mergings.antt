-- Merging the newest deltas.
use Rattle.std.proofs.Common.{◌≡◌, ℕ, zero, suc, ◌+◌, ◌≤◌, ◌<◌, Bool, true, false, not, List, [], ◌∷◌, ◌++◌, take, length, Some, refl, sym, ap, subst, ◌∙◌, add-one, arith}
use Rattle.std.specs.Prelude.{slice_get, slice_set, ◌^◌, ◌*◌}
use Rattle.std.specs.List.{list_all}
use Rattle.std.proofs.lemmas.Bool.{and_parts, and_from, false≢true}
use Rattle.std.proofs.lemmas.Option.{none-some, same_Some}
use Rattle.std.proofs.Math.Nat.{pow-suc}
use Rattle.hera_meaning.specs.declared.schemas.RelDecl.{RelDecl}
use Rattle.hera_meaning.specs.Deltas.{Delta, State, fail, atoms, apply_of, is_fail, smash_of}
use Rattle.hera_meaning.specs.Fits.{is_delta_of}
use Rattle.hera_meaning.proofs.DeltaLaws.{apply_of-smash_of}
use Rattle.when_overlay.specs.Changed.{after_all}
use Rattle.commit_levels.specs.Merging.{IsMerged, IsJoined, is_proper, AreFalling, size}
use Rattle.commit_levels.proofs.Smashed.{smash_known}

take_all : (ds : List Delta) → take (length ds) ds ≡ ds
take_all [] = refl
take_all (d ∷ ds) = ap (λ xs. d ∷ xs) (take_all ds)

-- one delta more
pub after_take : (s : State) (ds : List Delta) (i : ℕ) (d : Delta) → slice_get ds i ≡ Some d → after_all s (take (suc i) ds) ≡ apply_of (after_all s (take i ds)) d
after_take s [] i d e = absurd (none-some d e)
after_take s (x ∷ ds) zero d e = ap (apply_of s) (same_Some x d e)
after_take s (x ∷ ds) (suc i) d e = after_take (apply_of s x) ds i d e

pub after_push : (s : State) (ds : List Delta) (d : Delta) → after_all s (ds ++ d ∷ []) ≡ apply_of (after_all s ds) d
after_push s [] d = refl
after_push s (x ∷ ds) d = after_push (apply_of s x) ds d

pub all_take : (p : Delta → Bool) (ds : List Delta) (n : ℕ) → list_all p ds ≡ true → list_all p (take n ds) ≡ true
all_take p ds zero h = refl
all_take p [] (suc n) h = refl
all_take p (d ∷ ds) (suc n) h =
    let parts = and_parts (p d) (list_all p ds) h in
    and_from (p d) (list_all p (take n ds)) parts.0 (all_take p ds n parts.1)

pub all_push : (p : Delta → Bool) (ds : List Delta) (d : Delta) → list_all p ds ≡ true → p d ≡ true → list_all p (ds ++ d ∷ []) ≡ true
all_push p [] d h g = and_from (p d) true g refl
all_push p (x ∷ ds) d h g =
    let parts = and_parts (p x) (list_all p ds) h in
    and_from (p x) (list_all p (ds ++ d ∷ [])) parts.0 (all_push p ds d parts.1 g)

pub all_at : (p : Delta → Bool) (ds : List Delta) (i : ℕ) (d : Delta) → list_all p ds ≡ true → slice_get ds i ≡ Some d → p d ≡ true
all_at p [] i d h e = absurd (none-some d e)
all_at p (x ∷ ds) zero d h e = subst (λ (y : Delta). p y ≡ true) (same_Some x d e) (and_parts (p x) (list_all p ds) h).0
all_at p (x ∷ ds) (suc i) d h e = all_at p ds i d (and_parts (p x) (list_all p ds) h).1 e

smash_proper : (a b : Delta) → is_fail a ≡ false → is_fail b ≡ false → is_fail (smash_of a b) ≡ false
smash_proper fail b h g = cc
smash_proper (atoms xs) fail h g = cc
smash_proper (atoms xs) (atoms ys) h g = refl

pub proper_is : (d : Delta) → is_fail d ≡ false → is_proper d ≡ true
proper_is d h = ap not h

pub merged_none : (ds : List Delta) (d newest : Delta) (keep : ℕ) → keep ≡ length ds → newest ≡ d → is_fail d ≡ false → IsMerged ds d keep newest
merged_none ds d newest keep long same proper = record {
  within = omega (arith, long);
  proper = ap is_fail same ∙ proper;
  same = λ s. (λ i. apply_of (after_all s (take (long i) ds)) (same i)) ∙ ap (λ xs. apply_of (after_all s xs) d) (take_all ds);
  known = λ rels all own. ap (is_delta_of rels) same ∙ own;
}

pub merged_more : (ds : List Delta) (d newest both : Delta) (keep i j : ℕ) → IsMerged ds d keep newest → keep ≡ suc i → j ≡ i → IsJoined ds i newest (Some both) → IsMerged ds d j both
merged_more ds d newest both keep i j m e f (older, got, proper, is) = record {
  within = let w : keep ≤ length ds = m.within in omega (arith, w, e, f);
  proper = ap is_fail is ∙ smash_proper older newest proper m.proper;
  same = λ s.
      (λ k. apply_of (after_all s (take (f k) ds)) (is k))
      ∙ apply_of-smash_of (after_all s (take i ds)) older newest proper m.proper
      ∙ ap (λ t. apply_of t newest) (sym (after_take s ds i older got))
      ∙ ap (λ n. apply_of (after_all s (take n ds)) newest) (sym e)
      ∙ m.same s;
  known = λ rels all own. ap (is_delta_of rels) is ∙ smash_known rels older newest (all_at (is_delta_of rels) ds i older all got) (m.known rels all own);
}

-- what comes behind a place gives way to one delta
take_put : (ds : List Delta) (i : ℕ) (d : Delta) → i < length ds → take (suc i) (slice_set ds i d) ≡ take i ds ++ d ∷ []
take_put [] i d h = absurd (omega (arith, h))
take_put (x ∷ ds) zero d h = refl
take_put (x ∷ ds) (suc i) d h = ap (λ xs. x ∷ xs) (take_put ds i d (omega (arith, h)))

pub take_set : (ds : List Delta) (i : ℕ) (d : Delta) → i < length ds → take (i + 1) (slice_set ds i d) ≡ take i ds ++ d ∷ []
take_set ds i d h = ap (λ n. take n (slice_set ds i d)) (add-one i) ∙ take_put ds i d h

pub take_whole : (ds : List Delta) (n : ℕ) → length ds ≤ n → take n ds ≡ ds
take_whole [] zero h = refl
take_whole [] (suc n) h = refl
take_whole (d ∷ ds) zero h = absurd (omega (arith, h))
take_whole (d ∷ ds) (suc n) h = ap (λ xs. d ∷ xs) (take_whole ds n (omega (arith, h)))

-- what is seen of the levels, once the merged delta stands behind those that are left
module _ (old new : List Delta) (d newest : Delta) (keep : ℕ) (m : IsMerged old d keep newest) (is : new ≡ take keep old ++ newest ∷ []) where
  pub does_pushed : (s : State) → after_all s new ≡ apply_of (after_all s old) d
  does_pushed s = ap (after_all s) is ∙ after_push s (take keep old) newest ∙ m.same s

  pub known_pushed : (rels : List RelDecl) → list_all (is_delta_of rels) old ≡ true → is_delta_of rels d ≡ true → list_all (is_delta_of rels) new ≡ true
  known_pushed rels all own = ap (list_all (is_delta_of rels)) is ∙ all_push (is_delta_of rels) (take keep old) newest (all_take (is_delta_of rels) old keep all) (m.known rels all own)

  pub proper_pushed : list_all is_proper old ≡ true → list_all is_proper new ≡ true
  proper_pushed all = ap (list_all is_proper) is ∙ all_push is_proper (take keep old) newest (all_take is_proper old keep all) (proper_is newest m.proper)

-- ---- few levels

pub falls_one : (ds : List Delta) (i j : ℕ) (older newest : Delta) → j ≡ suc i → AreFalling ds → slice_get ds i ≡ Some older → 2 * size newest < size older → AreFalling (take j ds ++ newest ∷ [])
falls_one ds i j older newest f falls e less = subst (λ n. AreFalling (take n ds ++ newest ∷ [])) (sym f) (go ds i falls e)
  where
    go : (ds : List Delta) (i : ℕ) → AreFalling ds → slice_get ds i ≡ Some older → AreFalling (take (suc i) ds ++ newest ∷ [])
    go [] i h e = absurd (none-some older e)
    go (x ∷ ds) zero h e = (subst (λ (d : Delta). 2 * size newest < size d) (sym (same_Some x older e)) less, tt)
    go (x ∷ []) (suc i) h e = absurd (none-some older e)
    go (x ∷ y ∷ ds) (suc i) h e = (h.0, go (y ∷ ds) i h.1 e)

pub falls_none : (ds : List Delta) (j : ℕ) (newest : Delta) → j ≡ 0 → AreFalling (take j ds ++ newest ∷ [])
falls_none ds j newest f = subst (λ n. AreFalling (take n ds ++ newest ∷ [])) (sym f) tt

few_behind : (d : Delta) (ds : List Delta) → AreFalling (d ∷ ds) → 2 ^ length ds ≤ size d + 1
few_behind d [] h = omega arith
few_behind d (e ∷ ds) h =
    let ih : 2 ^ length ds ≤ size e + 1 = few_behind e ds h.1 in
    let more : 2 ^ suc (length ds) ≡ 2 ^ length ds * 2 = pow-suc 2 (length ds) in
    let less : 2 * size e < size d = h.0 in
    omega (arith, ih, more, less)

pub few_levels : (ds : List Delta) (first : Delta) → AreFalling ds → slice_get ds 0 ≡ Some first → 2 ^ length ds ≤ 2 * (size first + 1)
few_levels [] first h e = absurd (none-some first e)
few_levels (d ∷ ds) first h e =
    let behind : 2 ^ length ds ≤ size first + 1 = subst (λ (x : Delta). 2 ^ length ds ≤ size x + 1) (same_Some d first e) (few_behind d ds h) in
    let more : 2 ^ suc (length ds) ≡ 2 ^ length ds * 2 = pow-suc 2 (length ds) in
    omega (arith, behind, more)

not_fail : (b : Bool) → not b ≡ true → b ≡ false
not_fail true h = absurd (false≢true h)
not_fail false h = refl

-- no level is `fail`
pub level_proper : (ds : List Delta) (i : ℕ) (d : Delta) → list_all is_proper ds ≡ true → slice_get ds i ≡ Some d → is_fail d ≡ false
level_proper ds i d h e = not_fail (is_fail d) (all_at is_proper ds i d h e)
