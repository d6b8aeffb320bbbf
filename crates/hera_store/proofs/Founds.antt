-- What is found in files is one thing.
use Rattle.std.proofs.Common.{◌≡◌, inl, inr, ℕ, List, [], ◌∷◌, length, refl, sym, ap, subst, ◌∙◌, arith}
use Rattle.hera_volume.specs.declared.file_id.FileId.{FileId}
use Rattle.hera_volume.specs.declared.file_id.FileId.TheVariants.{Select}
use Rattle.rel_format.specs.Versions.{IsHalfOf}
use Rattle.half_laws.proofs.Halves.{one_content_of, damaged_is_none_of}
use Rattle.hera_store.specs.Databases.{Database, half_named, Names, Holds, IsDamagedHalf, IsDamaged, FilesFound, absent, spoilt, held, IsFound}

-- one half is named
named_one : (bytes : List ℕ) (x : ℕ) (half : FileId) → bytes ≡ x ∷ [] → Names bytes half → half_named x ≡ half
named_one bytes x half is named =
    let same : named.0 ≡ x = let e = sym named.1 ∙ is in cc in
    ap half_named (sym same) ∙ named.2

names_one : (bytes : List ℕ) (a b : FileId) → Names bytes a → Names bytes b → a ≡ b
names_one bytes a b first second = sym first.2 ∙ named_one bytes first.0 b first.1 second

holds_same : (files : FileId → List ℕ) (a b : Database) (h : Holds files a) (g : Holds files b) → a ≡ b
holds_same files a b h g =
    let half : half_named g.byte ≡ half_named h.byte = named_one (files Select) g.byte (half_named h.byte) g.selects (h.byte, h.selects, refl) in
    let other = subst (λ (f : FileId). IsHalfOf (files f) b.catalogue b.state) half g.half in
    let same = one_content_of (files (half_named h.byte)) a.catalogue b.catalogue a.state b.state h.half other in
    let catalogue = same.0 in
    let state = same.1 in
    λ i. record { catalogue = catalogue i; state = state i }

-- ---- nothing else is found

absent_named : (bytes : List ℕ) (half : FileId) → bytes ≡ [] → Names bytes half → ⊥
absent_named bytes half none named = absurd (omega (arith, ap length none, ap length named.1))

absent_damaged : (files : FileId → List ℕ) (file : FileId) (at : ℕ) → files Select ≡ [] → IsDamaged files file at → ⊥
absent_damaged files file at none (inl long) = absurd (omega (arith, ap length none, long.0))
absent_damaged files file at none (inr half) = absent_named (files Select) file none half.0

absent_held : (files : FileId → List ℕ) (db : Database) → files Select ≡ [] → Holds files db → ⊥
absent_held files db none h = absurd (omega (arith, ap length none, ap length h.selects))

no_half : (bytes : List ℕ) (db : Database) (at : ℕ) → IsDamagedHalf bytes at → IsHalfOf bytes db.catalogue db.state → ⊥
no_half bytes db at (inl long) half = absurd (omega (arith, long.0, half.1.short))
no_half bytes db at (inr damage) half = damaged_is_none_of bytes db.catalogue db.state at damage.1 half

pub damaged_held : (files : FileId → List ℕ) (file : FileId) (at : ℕ) (db : Database) → IsDamaged files file at → Holds files db → ⊥
damaged_held files file at db (inl long) h = absurd (omega (arith, long.0, ap length h.selects))
damaged_held files file at db (inr half) h =
    no_half (files file) db at half.1 (subst (λ (f : FileId). IsHalfOf (files f) db.catalogue db.state) (named_one (files Select) h.byte file h.selects half.0) h.half)

damaged_half_one : (bytes : List ℕ) (a b : ℕ) → IsDamagedHalf bytes a → IsDamagedHalf bytes b → a ≡ b
damaged_half_one bytes a b (inl x) (inl y) = x.1 ∙ sym y.1
damaged_half_one bytes a b (inl x) (inr y) = absurd (omega (arith, x.0, y.0))
damaged_half_one bytes a b (inr x) (inl y) = absurd (omega (arith, x.0, y.0))
damaged_half_one bytes a b (inr x) (inr y) =
    let up = y.1.longest a x.1.good in
    let down = x.1.longest b y.1.good in
    omega (arith, up, down)

damaged_one : (files : FileId → List ℕ) (f g : FileId) (a b : ℕ) → IsDamaged files f a → IsDamaged files g b → spoilt f a ≡ spoilt g b
damaged_one files f g a b (inl x) (inl y) =
    let file : f ≡ g = x.1 ∙ sym y.1 in
    let place : a ≡ b = x.2 ∙ sym y.2 in
    ap (λ (h : FileId). spoilt h a) file ∙ ap (spoilt g) place
damaged_one files f g a b (inl x) (inr y) = absurd (omega (arith, x.0, ap length y.0.1))
damaged_one files f g a b (inr x) (inl y) = absurd (omega (arith, y.0, ap length x.0.1))
damaged_one files f g a b (inr x) (inr y) =
    let file : f ≡ g = names_one (files Select) f g x.0 y.0 in
    let place : a ≡ b = damaged_half_one (files g) a b (subst (λ (h : FileId). IsDamagedHalf (files h) a) file x.1) y.1 in
    ap (λ (h : FileId). spoilt h a) file ∙ ap (spoilt g) place

pub found_one : (files : FileId → List ℕ) (x y : FilesFound) → IsFound files x → IsFound files y → x ≡ y
found_one files absent absent p q = refl
found_one files absent (spoilt f a) p q = absurd (absent_damaged files f a p q)
found_one files absent (held db) p q = absurd (absent_held files db p q)
found_one files (spoilt f a) absent p q = absurd (absent_damaged files f a q p)
found_one files (spoilt f a) (spoilt g b) p q = damaged_one files f g a b p q
found_one files (spoilt f a) (held db) p q = absurd (damaged_held files f a db p q)
found_one files (held db) absent p q = absurd (absent_held files db q p)
found_one files (held db) (spoilt f a) p q = absurd (damaged_held files f a db q p)
found_one files (held a) (held b) p q = ap held (holds_same files a b p q)
