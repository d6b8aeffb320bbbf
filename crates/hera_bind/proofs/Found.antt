-- The catalogue's relation of a name, and the first one that it lacks.
use Rattle.std.proofs.Common.{◌≡◌, ℕ, zero, suc, ◌<◌, ◌+◌, List, [], ◌∷◌, ◌++◌, length, take, refl, sym, ap, ◌∙◌, subst, arith, Bool, true, false, cond, ⊎_elim}
use Rattle.std.proofs.lemmas.Bool.{cases_lt}
use Rattle.std.proofs.lemmas.List.{take_more}
use Rattle.std.proofs.lemmas.Option.{slice_get_within, get_or_from_slice_get}
use Rattle.std.specs.Prelude.{Some, None, map, slice_get}
use Rattle.std.specs.List.{position_from}
use Rattle.hera_sets.specs.Rows.{Row, is_same}
use Rattle.hera_sets.proofs.Order.{same_true}
use Rattle.hera_meaning.specs.declared.schemas.RelDecl.{RelDecl}
use Rattle.hera_meaning.specs.Schemas.{AreDistinct}
use Rattle.hera_meaning.specs.Catalogues.{IsCatalogue, decl_name}
use Rattle.hera_rules.specs.Environments.{relation_named}
use Rattle.hera_rules.specs.Bound.{name_at, Has, Lacks, Differs, differs_here, differs_later}
use Rattle.hera_bind.specs.Having.{AllHas, IsFirstMissing}
use Rattle.hera_bind.proofs.Kept.{named_at}

pub name_here : (rels : List RelDecl) (r : ℕ) (d : RelDecl) → slice_get rels r ≡ Some d → d.name ≡ name_at rels r
name_here [] r d e = absurd cc
name_here (x ∷ rels) zero d e = let s : x ≡ d = cc in ap (λ (y : RelDecl). y.name) (sym s)
name_here (x ∷ rels) (suc r) d e = name_here rels r d e

pub no_name : (rels : List RelDecl) (r : ℕ) → slice_get rels r ≡ None → [] ≡ name_at rels r
no_name [] r e = refl
no_name (x ∷ rels) zero e = absurd cc
no_name (x ∷ rels) (suc r) e = no_name rels r e

-- what is found has the name, at a place of the list
record FoundAt (i : ℕ) (name : Row) (rels : List RelDecl) (k : ℕ) : Type 0 where
  pub place : ℕ
  pub decl : RelDecl
  pub at : k ≡ i + place
  pub here : slice_get rels place ≡ Some decl
  pub named : decl.name ≡ name

found_at : (i : ℕ) (name : Row) (rels : List RelDecl) (k : ℕ) → position_from (λ (d : RelDecl). is_same name d.name) i rels ≡ Some k → FoundAt i name rels k
found_at i name [] k e = absurd cc
found_at i name (x ∷ rels) k e = by (is_same name x.name) refl e (λ h. found_at (i + 1) name rels k h)
  where
    by : (b : Bool) → is_same name x.name ≡ b → cond b (Some i) (position_from (λ (d : RelDecl). is_same name d.name) (i + 1) rels) ≡ Some k →
        (position_from (λ (d : RelDecl). is_same name d.name) (i + 1) rels ≡ Some k → FoundAt (i + 1) name rels k) → FoundAt i name (x ∷ rels) k
    by true t e ih = let s : i ≡ k = cc in record { place = 0; decl = x; at = omega (arith, s); here = refl; named = sym (same_true name x.name t) }
    by false t e ih = let h = ih e in let a = h.at in record { place = suc h.place; decl = h.decl; at = omega (arith, a); here = h.here; named = h.named }

-- the number of a name is its place
pub record IsNamed (name : Row) (rels : List RelDecl) (k : ℕ) : Type 0 where
  pub decl : RelDecl
  pub here : slice_get rels k ≡ Some decl
  pub named : decl.name ≡ name

pub is_named : (name : Row) (rels : List RelDecl) (k : ℕ) → relation_named name rels ≡ Some k → IsNamed name rels k
is_named name rels k e =
    let h = found_at 0 name rels k e in
    let a = h.at in
    let s : h.place ≡ k = omega (arith, a) in
    record { decl = h.decl; here = ap (λ z. slice_get rels z) (sym s) ∙ h.here; named = h.named }

same_decl : (rels : List RelDecl) (r k : ℕ) (d e : RelDecl) (name : Row) → AreDistinct (map decl_name rels) → slice_get rels r ≡ Some d → slice_get rels k ≡ Some e → d.name ≡ name → e.name ≡ name → d ≡ e
same_decl rels r k d e name a h j n m =
    let p : Some (0 + r) ≡ Some (0 + k) = sym (named_at 0 rels r d name a h n) ∙ named_at 0 rels k e name a j m in
    let q : 0 + r ≡ 0 + k = cc in
    let z : r ≡ k = omega (arith, q) in
    let o : Some d ≡ Some e = sym h ∙ ap (λ x. slice_get rels x) z ∙ j in cc

-- the relation that is found decides
pub has_found : (catalogue : List RelDecl) (d e : RelDecl) (k : ℕ) → IsCatalogue catalogue → relation_named d.name catalogue ≡ Some k → slice_get catalogue k ≡ Some e → e.schema ≡ d.schema → Has catalogue d
has_found catalogue d e k c f h s =
    let n = is_named d.name catalogue k f in
    let o : Some e ≡ Some n.decl = sym h ∙ n.here in
    let same : e ≡ n.decl = cc in
    (k, e, h, ap (λ (x : RelDecl). x.name) same ∙ n.named, s)

pub found_same : (catalogue : List RelDecl) (d e : RelDecl) (k : ℕ) → IsCatalogue catalogue → relation_named d.name catalogue ≡ Some k → slice_get catalogue k ≡ Some e → Has catalogue d → e.schema ≡ d.schema
found_same catalogue d e k c f h g =
    let n = is_named d.name catalogue k f in
    let o : Some e ≡ Some n.decl = sym h ∙ n.here in
    let same : e ≡ n.decl = cc in
    let q : g.1 ≡ e = same_decl catalogue g.0 k g.1 e d.name c.distinct g.2 h g.3 (ap (λ (y : RelDecl). y.name) same ∙ n.named) in
    ap (λ (y : RelDecl). y.schema) (sym q) ∙ g.4

pub lacks_none : (catalogue : List RelDecl) (d : RelDecl) → IsCatalogue catalogue → relation_named d.name catalogue ≡ None → Lacks catalogue d
lacks_none catalogue d c f = λ r x there name schema. (let p : None ≡ Some (0 + r) = sym f ∙ named_at 0 catalogue r x d.name c.distinct there name in absurd cc)

pub lacks_not : (catalogue : List RelDecl) (d : RelDecl) → (Has catalogue d → ⊥) → Lacks catalogue d
lacks_not catalogue d h = λ r e there name schema. h (r, e, there, name, schema)

pub has_lacks : (catalogue : List RelDecl) (d : RelDecl) → Has catalogue d → Lacks catalogue d → ⊥
has_lacks catalogue d h l = l h.0 h.1 h.2 h.3 h.4

pub missing_within : (catalogue own : List RelDecl) (i : ℕ) → IsFirstMissing catalogue own i → i < length own
missing_within catalogue [] i m = absurd m
missing_within catalogue (x ∷ own) zero m = omega arith
missing_within catalogue (x ∷ own) (suc i) m = let l = missing_within catalogue own i m.1 in omega (arith, l)

-- the first missing relation is the one that differs
pub missing_differs : (catalogue own : List RelDecl) (i : ℕ) (d : RelDecl) → IsFirstMissing catalogue own i → slice_get own i ≡ Some d → Differs catalogue own d.name
missing_differs catalogue [] i d m e = absurd m
missing_differs catalogue (x ∷ own) zero d m e = let s : x ≡ d = cc in subst (λ (y : RelDecl). Differs catalogue (x ∷ own) y.name) s (differs_here m)
missing_differs catalogue (x ∷ own) (suc i) d m e = differs_later m.0 (missing_differs catalogue own i d m.1 e)

first_same : (catalogue : List RelDecl) (d : RelDecl) (rels names : List RelDecl) (n : Row) → Differs catalogue names n → names ≡ d ∷ rels → Lacks catalogue d → d.name ≡ n
first_same catalogue d rels _ _ (differs_here {d = e} {rels = more} m) q l = let s : e ≡ d = cc in ap (λ (y : RelDecl). y.name) (sym s)
first_same catalogue d rels _ n (differs_later {d = e} {rels = more} h m) q l = let s : e ≡ d = cc in absurd (has_lacks catalogue d (subst (λ (y : RelDecl). Has catalogue y) s h) l)

later_same : (catalogue : List RelDecl) (d : RelDecl) (rels names : List RelDecl) (m n : Row) → Differs catalogue names n → names ≡ d ∷ rels → Has catalogue d → (Differs catalogue rels n → m ≡ n) → m ≡ n
later_same catalogue d rels _ m _ (differs_here {d = e} {rels = more} l) q h ih = let s : e ≡ d = cc in absurd (has_lacks catalogue d h (subst (λ (y : RelDecl). Lacks catalogue y) s l))
later_same catalogue d rels _ m n (differs_later {d = e} {rels = more} g l) q h ih = let s : more ≡ rels = cc in ih (subst (λ (ys : List RelDecl). Differs catalogue ys n) s l)

-- the name of the first missing relation is one
pub one_difference : (catalogue own : List RelDecl) (m n : Row) → Differs catalogue own m → Differs catalogue own n → m ≡ n
one_difference catalogue _ _ n (differs_here {d = d} {rels = rels} l) k = first_same catalogue d rels (d ∷ rels) n k refl l
one_difference catalogue _ m n (differs_later {d = d} {rels = rels} h l) k = later_same catalogue d rels (d ∷ rels) m n k refl h (λ j. one_difference catalogue rels m n l j)

pub all_no_difference : (catalogue own : List RelDecl) (n : Row) → AllHas catalogue own → Differs catalogue own n → ⊥
all_no_difference catalogue _ _ h (differs_here {d = d} l) = has_lacks catalogue d h.0 l
all_no_difference catalogue _ n h (differs_later {rels = rels} g l) = all_no_difference catalogue rels n h.1 l

-- relations up to a place that the catalogue has
abbrev pub HasUpTo : (catalogue own : List RelDecl) → ℕ → Type 0
HasUpTo catalogue own i = (k : ℕ) (d : RelDecl) → k < i → slice_get own k ≡ Some d → Has catalogue d

pub all_has : (catalogue own : List RelDecl) → HasUpTo catalogue own (length own) → AllHas catalogue own
all_has catalogue [] h = tt
all_has catalogue (d ∷ own) h = (h 0 d (omega arith) refl, all_has catalogue own (λ k e l g. h (suc k) e (omega (arith, l)) g))

pub first_missing_at : (catalogue own : List RelDecl) (i : ℕ) (d : RelDecl) → HasUpTo catalogue own i → slice_get own i ≡ Some d → Lacks catalogue d → IsFirstMissing catalogue own i
first_missing_at catalogue [] i d h e l = absurd cc
first_missing_at catalogue (x ∷ own) zero d h e l = let s : x ≡ d = cc in subst (λ (y : RelDecl). Lacks catalogue y) (sym s) l
first_missing_at catalogue (x ∷ own) (suc i) d h e l = (h 0 x (omega arith) refl, first_missing_at catalogue own i d (λ k f m g. h (suc k) f (omega (arith, m)) g) e l)

pub up_to_more : (catalogue own : List RelDecl) (i : ℕ) (d : RelDecl) → HasUpTo catalogue own i → slice_get own i ≡ Some d → Has catalogue d → HasUpTo catalogue own (i + 1)
up_to_more catalogue own i d h e g = λ k f l m. ⊎_elim (λ lt. h k f lt m) (λ ge. (let s : k ≡ i = omega (arith, l, ge) in let o : Some d ≡ Some f = sym e ∙ ap (λ z. slice_get own z) (sym s) ∙ m in let q : d ≡ f = cc in subst (λ (y : RelDecl). Has catalogue y) q g)) (cases_lt k i)

-- one more item of a list
pub take_one : {A : Type 0} (xs : List A) (i : ℕ) (x : A) → slice_get xs i ≡ Some x → take (i + 1) xs ≡ take i xs ++ x ∷ []
take_one xs i x e = take_more xs i x (slice_get_within xs i x e) ∙ ap (λ y. take i xs ++ y ∷ []) (get_or_from_slice_get xs i x x e)
