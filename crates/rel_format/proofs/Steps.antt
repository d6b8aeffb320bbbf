-- Walking on by a field.
use Rattle.std.proofs.Common.{◌≡◌, ◌≤◌, ◌<◌, ℕ, suc, ◌+◌, ◌-◌, Err, List, [], ◌∷◌, ◌++◌, false, length, take, drop, map, Some, None, refl, sym, ap, subst, ◌∙◌, arith}
use Rattle.std.proofs.lemmas.List.{length-take, map_push}
use Rattle.hera_meaning.specs.declared.scalars.Kind.{Kind}
use Rattle.hera_meaning.specs.declared.schemas.Attr.{Attr}
use Rattle.hera_meaning.specs.declared.schemas.RelDecl.{RelDecl}
use Rattle.hera_meaning.specs.Schemas.{names_of, attr_name}
use Rattle.hera_meaning.specs.Catalogues.{decl_name}
use Rattle.rel_format.specs.Pages.{Format}
use Rattle.rel_format.specs.Fields.{length_field, width_field, kind_field, count_field, magic_field, new_name}
use Rattle.rel_format.specs.Table.{Stand, RelationSoFar, at_magic, at_count, at_rels, at_name, at_width, at_attr, at_attr_name, at_kind, behind_attr, with_attr, is_whole, next, field}
use Rattle.rel_format.specs.declared.header.PageFault.{PageFault}
use Rattle.rel_format.specs.declared.header.PageFault.TheVariants.{Damaged, Memory}
use Rattle.rel_format.specs.Walk.{forward, onward}
use Rattle.rel_format.specs.Places.{Reaches, Reads, Stops}

pub step : (f : Format) (bytes : List ℕ) (at : ℕ) (s : Stand) (n : ℕ) (t : Stand) → Reaches f bytes at s → next f s (drop at bytes) ≡ Some (n, t) → Reaches f bytes (at + n) t
step f bytes at s n t r h = (suc r.0, ap (forward (next f) bytes) r.1 ∙ ap (onward at) h)

pub stop : (f : Format) (bytes : List ℕ) (at : ℕ) (s : Stand) → Reaches f bytes at s → next f s (drop at bytes) ≡ None → is_whole s ≡ false → Stops f bytes at
stop f bytes at s r h o = (s, r, h, o)

-- a name taken from the front has its length
pub name_length : (name bytes : List ℕ) (n : ℕ) → name ≡ take n bytes → n ≤ length bytes → n ≡ length name
name_length name bytes n e h = let same = ap (λ (x : List ℕ). length x) e in omega (arith, same, length-take n bytes, h)

-- ---- the fields of an attribute

pub to_attr_name : (f : Format) (bytes : List ℕ) (at : ℕ) (p : RelationSoFar) (more n : ℕ) → Reaches f bytes at (at_attr p more) → Some n ≡ length_field (drop at bytes) → Reaches f bytes (at + 1) (at_attr_name p more n)
to_attr_name f bytes at p more n r e = step f bytes at (at_attr p more) 1 (at_attr_name p more n) r (ap (field 1 (at_attr_name p more)) (sym e))

pub no_attr : (f : Format) (bytes : List ℕ) (at : ℕ) (p : RelationSoFar) (more : ℕ) → Reaches f bytes at (at_attr p more) → None ≡ length_field (drop at bytes) → Stops f bytes at
no_attr f bytes at p more r e = stop f bytes at (at_attr p more) r (ap (field 1 (at_attr_name p more)) (sym e)) refl

pub to_kind : (f : Format) (bytes : List ℕ) (at : ℕ) (p : RelationSoFar) (more n m : ℕ) (attrs : List Attr) (name : List ℕ) → p.attrs ≡ attrs → n ≡ m → Reaches f bytes at (at_attr_name p more n) → Some name ≡ new_name (names_of attrs) n (drop at bytes) → Reaches f bytes (at + m) (at_kind p more name)
to_kind f bytes at p more n m attrs name same len r e =
    subst (λ (k : ℕ). Reaches f bytes (at + k) (at_kind p more name)) len
    (step f bytes at (at_attr_name p more n) n (at_kind p more name) r (ap (λ (xs : List Attr). field n (at_kind p more) (new_name (names_of xs) n (drop at bytes))) same ∙ ap (field n (at_kind p more)) (sym e)))

pub no_attr_name : (f : Format) (bytes : List ℕ) (at : ℕ) (p : RelationSoFar) (more n : ℕ) (attrs : List Attr) → p.attrs ≡ attrs → Reaches f bytes at (at_attr_name p more n) → None ≡ new_name (names_of attrs) n (drop at bytes) → Stops f bytes at
no_attr_name f bytes at p more n attrs same r e =
    stop f bytes at (at_attr_name p more n) r (ap (λ (xs : List Attr). field n (at_kind p more) (new_name (names_of xs) n (drop at bytes))) same ∙ ap (field n (at_kind p more)) (sym e)) refl

pub behind_kind : (f : Format) (bytes : List ℕ) (at : ℕ) (p : RelationSoFar) (more : ℕ) (name : List ℕ) (kind : Kind) → Reaches f bytes at (at_kind p more name) → Some kind ≡ kind_field (drop at bytes) → Reaches f bytes (at + 1) (behind_attr (with_attr p (record { name = name; kind = kind })) more)
behind_kind f bytes at p more name kind r e =
    step f bytes at (at_kind p more name) 1 (behind_attr (with_attr p (record { name = name; kind = kind })) more) r (ap (field 1 (λ k. behind_attr (with_attr p (record { name = name; kind = k })) more)) (sym e))

pub no_kind : (f : Format) (bytes : List ℕ) (at : ℕ) (p : RelationSoFar) (more : ℕ) (name : List ℕ) → Reaches f bytes at (at_kind p more name) → None ≡ kind_field (drop at bytes) → Stops f bytes at
no_kind f bytes at p more name r e =
    stop f bytes at (at_kind p more name) r (ap (field 1 (λ k. behind_attr (with_attr p (record { name = name; kind = k })) more)) (sym e)) refl

-- ---- the fields of a relation before its attributes

pub to_name : (f : Format) (bytes : List ℕ) (at : ℕ) (rels : List RelDecl) (left n : ℕ) → Reaches f bytes at (at_rels rels (suc left)) → Some n ≡ length_field (drop at bytes) → Reaches f bytes (at + 1) (at_name rels left n)
to_name f bytes at rels left n r e = step f bytes at (at_rels rels (suc left)) 1 (at_name rels left n) r (ap (field 1 (at_name rels left)) (sym e))

pub no_rel : (f : Format) (bytes : List ℕ) (at : ℕ) (rels : List RelDecl) (left : ℕ) → Reaches f bytes at (at_rels rels (suc left)) → None ≡ length_field (drop at bytes) → Stops f bytes at
no_rel f bytes at rels left r e = stop f bytes at (at_rels rels (suc left)) r (ap (field 1 (at_name rels left)) (sym e)) refl

pub to_width : (f : Format) (bytes : List ℕ) (at : ℕ) (rels : List RelDecl) (left n m : ℕ) (name : List ℕ) → n ≡ m → Reaches f bytes at (at_name rels left n) → Some name ≡ new_name (map decl_name rels) n (drop at bytes) → Reaches f bytes (at + m) (at_width rels left name)
to_width f bytes at rels left n m name len r e =
    subst (λ (k : ℕ). Reaches f bytes (at + k) (at_width rels left name)) len
    (step f bytes at (at_name rels left n) n (at_width rels left name) r (ap (field n (at_width rels left)) (sym e)))

pub no_name : (f : Format) (bytes : List ℕ) (at : ℕ) (rels : List RelDecl) (left n : ℕ) → Reaches f bytes at (at_name rels left n) → None ≡ new_name (map decl_name rels) n (drop at bytes) → Stops f bytes at
no_name f bytes at rels left n r e = stop f bytes at (at_name rels left n) r (ap (field n (at_width rels left)) (sym e)) refl

abbrev pub opened : List RelDecl → ℕ → List ℕ → RelationSoFar
opened rels left name = record { rels = rels; left = left; name = name; attrs = [] }

pub to_attrs : (f : Format) (bytes : List ℕ) (at : ℕ) (rels : List RelDecl) (left : ℕ) (name : List ℕ) (n : ℕ) → Reaches f bytes at (at_width rels left name) → Some n ≡ width_field (drop at bytes) → Reaches f bytes (at + 1) (behind_attr (opened rels left name) n)
to_attrs f bytes at rels left name n r e = step f bytes at (at_width rels left name) 1 (behind_attr (opened rels left name) n) r (ap (field 1 (behind_attr (opened rels left name))) (sym e))

pub no_width : (f : Format) (bytes : List ℕ) (at : ℕ) (rels : List RelDecl) (left : ℕ) (name : List ℕ) → Reaches f bytes at (at_width rels left name) → None ≡ width_field (drop at bytes) → Stops f bytes at
no_width f bytes at rels left name r e = stop f bytes at (at_width rels left name) r (ap (field 1 (behind_attr (opened rels left name))) (sym e)) refl

-- ---- the first two fields

pub start : (f : Format) (bytes : List ℕ) → Reaches f bytes 0 at_magic
start f bytes = (0, refl)

pub to_count : (f : Format) (bytes magic m : List ℕ) → f.magic ≡ magic → Some m ≡ magic_field magic bytes → Reaches f bytes 8 at_count
to_count f bytes magic m same e = step f bytes 0 at_magic 8 at_count (start f bytes) (ap (λ (x : List ℕ). field 8 (λ (y : List ℕ). at_count) (magic_field x bytes)) same ∙ ap (field 8 (λ (y : List ℕ). at_count)) (sym e))

pub no_magic : (f : Format) (bytes magic : List ℕ) → f.magic ≡ magic → None ≡ magic_field magic bytes → Stops f bytes 0
no_magic f bytes magic same e = stop f bytes 0 at_magic (start f bytes) (ap (λ (x : List ℕ). field 8 (λ (y : List ℕ). at_count) (magic_field x bytes)) same ∙ ap (field 8 (λ (y : List ℕ). at_count)) (sym e)) refl

pub to_rels : (f : Format) (bytes : List ℕ) (at n : ℕ) → Reaches f bytes at at_count → Some n ≡ count_field (drop at bytes) → Reaches f bytes (at + 2) (at_rels [] n)
to_rels f bytes at n r e = step f bytes at at_count 2 (at_rels [] n) r (ap (field 2 (at_rels [])) (sym e))

pub no_count : (f : Format) (bytes : List ℕ) (at : ℕ) → Reaches f bytes at at_count → None ≡ count_field (drop at bytes) → Stops f bytes at
no_count f bytes at r e = stop f bytes at at_count r (ap (field 2 (at_rels [])) (sym e)) refl

-- ---- reading on

-- a fault behind fields is a fault
pub fault_on : {A B : Type 0} (f : Format) (bytes : List ℕ) (at place : ℕ) (s t : Stand) (one : A → Stand) (all : B → Stand) (e : PageFault) → (Reaches f bytes at s → Reaches f bytes place t) → Reads f bytes place t one (Err e) → Reads f bytes at s all (Err e)
fault_on f bytes at place s t one all (Damaged n) go h = λ r. h (go r)
fault_on f bytes at place s t one all Memory go h = tt

pub enter : (q : RelationSoFar) (w k : ℕ) → k < w → behind_attr q (w - k) ≡ at_attr q (w - (k + 1))
enter q w k h = let e : w - k ≡ suc (w - (k + 1)) = omega (arith, h) in ap (behind_attr q) e

pub leave : (q : RelationSoFar) (w k : ℕ) → w ≤ k → behind_attr q (w - k) ≡ behind_attr q 0
leave q w k h = let e : w - k ≡ 0 = omega (arith, h) in ap (behind_attr q) e

pub names_push : (attrs : List Attr) (a : Attr) → names_of (attrs ++ a ∷ []) ≡ names_of attrs ++ a.name ∷ []
names_push attrs a = map_push attr_name attrs a

pub enter_rels : (rels : List RelDecl) (n k : ℕ) → k < n → at_rels rels (n - k) ≡ at_rels rels (suc (n - (k + 1)))
enter_rels rels n k h = let e : n - k ≡ suc (n - (k + 1)) = omega (arith, h) in ap (at_rels rels) e

pub leave_rels : (rels : List RelDecl) (n k : ℕ) → n ≤ k → at_rels rels (n - k) ≡ at_rels rels 0
leave_rels rels n k h = let e : n - k ≡ 0 = omega (arith, h) in ap (at_rels rels) e
