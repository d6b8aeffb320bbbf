-- What a crash may leave of a file after one change.
use Rattle.std.proofs.Common.{◌≡◌, inl, inr, ℕ, ◌+◌, ◌-◌, ◌<◌, ◌≤◌, min, max, List, ◌++◌, length, get_or, take, drop, refl, sym, ap, subst, ◌∙◌, arith, length-take, length-drop, length-append}
use Rattle.std.proofs.lemmas.List.{ext_get_or, get_or-take, get_or-drop, get_or_append_left, get_or-append_right}
use Rattle.std.proofs.lemmas.Bool.{cases_lt}
use Rattle.hera_volume.specs.Disk.{Disk, IsIn, IsOutside, IsImage, IsSettled, IsSound, Within, after_write, after_cut, after_sync, bounded, splice}

-- a settled file has one image
pub image-settled : (d : Disk) (c : List ℕ) → IsSettled d → IsImage d c → c ≡ d.bytes
image-settled d c at_rest image =
    ext_get_or 0 c d.bytes (omega (arith, at_rest.floor, at_rest.ceiling, image.no_shorter, image.no_longer))
    (λ k lt. image.kept k (omega (arith, at_rest.floor, at_rest.ceiling, image.no_longer, lt)) (subst (IsOutside k) (sym at_rest.written) tt))

-- an image after one write: the same outside the range
pub record IsTorn (at n : ℕ) (old new : List ℕ) : Type 0 where
  pub before : take at new ≡ take at old
  pub after : drop (at + n) new ≡ drop (at + n) old
  pub no_shorter : length old ≤ length new
  pub no_longer : length new ≤ max (length old) (at + n)

pub length-splice : (bytes : List ℕ) (at : ℕ) (piece : List ℕ) → at ≤ length bytes → length (splice bytes at piece) ≡ max (length bytes) (at + length piece)
length-splice bytes at piece fits =
    omega (arith, length-append (take at bytes ++ piece) (drop (at + length piece) bytes), length-append (take at bytes) piece, length-drop (at + length piece) bytes, length-take at bytes)

pub splice-before : (bytes : List ℕ) (at : ℕ) (piece : List ℕ) (k : ℕ) → at ≤ length bytes → k < at → get_or (splice bytes at piece) k 0 ≡ get_or bytes k 0
splice-before bytes at piece k fits lt =
    let first : k < length (take at bytes) = omega (arith, length-take at bytes) in
    get_or_append_left (take at bytes ++ piece) (drop (at + length piece) bytes) 0 k (omega (arith, length-append (take at bytes) piece))
    ∙ get_or_append_left (take at bytes) piece 0 k first ∙ get_or-take at bytes k 0 lt

pub splice-after : (bytes : List ℕ) (at : ℕ) (piece : List ℕ) (k : ℕ) → at ≤ length bytes → at + length piece ≤ k → get_or (splice bytes at piece) k 0 ≡ get_or bytes k 0
splice-after bytes at piece k fits le =
    let front : length (take at bytes ++ piece) ≡ at + length piece = omega (arith, length-append (take at bytes) piece, length-take at bytes) in
    let same : at + length piece + (k - (at + length piece)) ≡ k = omega arith in
    get_or-append_right (take at bytes ++ piece) (drop (at + length piece) bytes) (at + length piece) k 0 front le
    ∙ get_or-drop (at + length piece) bytes (k - (at + length piece)) 0 ∙ ap (λ i. get_or bytes i 0) same

-- outside the range a write changes nothing
pub splice-outside : (bytes : List ℕ) (at : ℕ) (piece : List ℕ) (k : ℕ) → at ≤ length bytes → ¬ IsIn k (at, length piece) → get_or (splice bytes at piece) k 0 ≡ get_or bytes k 0
splice-outside bytes at piece k fits out = elim (cases_lt k at) [
  | inl lt ↦ splice-before bytes at piece k fits lt
  | inr le ↦ splice-after bytes at piece k fits (elim (cases_lt k (at + length piece)) [ inl lt ↦ absurd (out (le, lt)) | inr past ↦ past ])
]

module _ (d : Disk) (at : ℕ) (piece c : List ℕ) (fits : at ≤ length d.bytes) (image : IsImage (after_write d at piece) c) where
  -- outside the range and what was written before it, the old bytes stand
  pub written-keeps : (k : ℕ) → k < d.floor → ¬ IsIn k (at, length piece) → IsOutside k d.written → get_or c k 0 ≡ get_or d.bytes k 0
  written-keeps k lt out clean = image.kept k lt (out, clean) ∙ splice-outside d.bytes at piece k fits out

  -- after one write to a settled file
  pub image-written : IsSettled d → IsTorn at (length piece) d.bytes c
  image-written at_rest = record {
    before = ext_get_or 0 (take at c) (take at d.bytes) (omega (arith, length-take at c, length-take at d.bytes, no_shorter))
        (λ k lt.
        let below : k < at = omega (arith, length-take at c) in
        get_or-take at c k 0 below ∙ same k (omega (arith, below, fits)) (λ within. omega (arith, below, within.0)) ∙ sym (get_or-take at d.bytes k 0 below));
    after = ext_get_or 0 (drop (at + length piece) c) (drop (at + length piece) d.bytes)
        (omega (arith, length-drop (at + length piece) c, length-drop (at + length piece) d.bytes, no_shorter, no_longer))
        (λ k lt.
        let past : at + length piece + k < length c = omega (arith, length-drop (at + length piece) c, lt) in
        get_or-drop (at + length piece) c k 0 ∙ same (at + length piece + k) (omega (arith, past, no_longer)) (λ within. omega (arith, within.1)) ∙ sym (get_or-drop (at + length piece) d.bytes k 0));
    no_shorter = no_shorter;
    no_longer = no_longer;
  }
    where
      no_shorter : length d.bytes ≤ length c
      no_shorter = omega (arith, at_rest.floor, image.no_shorter)

      no_longer : length c ≤ max (length d.bytes) (at + length piece)
      no_longer = omega (arith, at_rest.ceiling, image.no_longer)

      same : (k : ℕ) → k < length d.bytes → ¬ IsIn k (at, length piece) → get_or c k 0 ≡ get_or d.bytes k 0
      same k lt out = written-keeps k (omega (arith, at_rest.floor, lt)) out (subst (IsOutside k) (sym at_rest.written) tt)

-- what a crash might have left before a write, it may leave during it
pub write-keeps : (d : Disk) (at : ℕ) (piece : List ℕ) → at ≤ length d.bytes → Within d (after_write d at piece)
write-keeps d at piece fits c image = record {
  no_shorter = image.no_shorter;
  no_longer = omega (arith, image.no_longer);
  kept = λ k lt (out, clean). image.kept k lt clean ∙ sym (splice-outside d.bytes at piece k fits out);
}

-- a place below the new length stands after a cut
pub image-cut : (d : Disk) (n : ℕ) (c : List ℕ) → IsSettled d → n ≤ length d.bytes → IsImage (after_cut d n) c → take n c ≡ take n d.bytes
image-cut d n c at_rest fits image = ext_get_or 0 (take n c) (take n d.bytes)
    (omega (arith, length-take n c, length-take n d.bytes, image.no_shorter, at_rest.floor))
    (λ k lt.
    let below : k < n = omega (arith, length-take n c, lt) in
    get_or-take n c k 0 below ∙ image.kept k (omega (arith, at_rest.floor, below, fits)) (subst (IsOutside k) (sym at_rest.written) tt))

pub cut-keeps : (d : Disk) (n : ℕ) → Within d (after_cut d n)
cut-keeps d n c image = record {
  no_shorter = omega (arith, image.no_shorter);
  no_longer = image.no_longer;
  kept = λ k lt clean. image.kept k (omega (arith, lt)) clean ∙ sym (get_or-take n d.bytes k 0 (omega (arith, lt)));
}

-- a successful sync settles a file
pub settled-after_sync : (d : Disk) → IsSettled (after_sync d)
settled-after_sync d = record { floor = refl; ceiling = refl; written = refl }

-- a file as it reads is one of its images
pub image-reads : (d : Disk) → IsSound d → IsImage d d.bytes
image-reads d sound = record { no_shorter = sound.floor; no_longer = sound.ceiling; kept = λ k lt clean. refl }

pub sound-write : (d : Disk) (at : ℕ) (piece : List ℕ) → at ≤ length d.bytes → IsSound d → IsSound (after_write d at piece)
sound-write d at piece fits sound = record {
  floor = omega (arith, sound.floor, length-splice d.bytes at piece fits);
  ceiling = omega (arith, sound.ceiling, length-splice d.bytes at piece fits);
}

pub sound-cut : (d : Disk) (n : ℕ) → n ≤ length d.bytes → IsSound d → IsSound (after_cut d n)
sound-cut d n fits sound = record {
  floor = omega (arith, sound.floor, length-take n d.bytes);
  ceiling = omega (arith, sound.ceiling, length-take n d.bytes);
}

-- within its bounds a file is as it is
pub bounded-sound : (d : Disk) → IsSound d → bounded d ≡ d
bounded-sound d sound =
    let low : min d.floor (length d.bytes) ≡ d.floor = omega (arith, sound.floor) in
    let high : max d.ceiling (length d.bytes) ≡ d.ceiling = omega (arith, sound.ceiling) in
    λ i. record { bytes = d.bytes; floor = low i; ceiling = high i; written = d.written }

pub sound-bounded : (d : Disk) → IsSound (bounded d)
sound-bounded d = record { floor = omega arith; ceiling = omega arith }

pub sound-synced : (d : Disk) → IsSound (after_sync d)
sound-synced d = record { floor = omega arith; ceiling = omega arith }

-- a sync leaves one of the images that were possible
pub synced-within : (d : Disk) → IsSound d → Within (after_sync d) d
synced-within d sound c image = subst (IsImage d) (sym (image-settled (after_sync d) c (settled-after_sync d) image)) (image-reads d sound)
