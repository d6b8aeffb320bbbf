-- The relations that a walk has read are a catalogue.
use Rattle.std.proofs.Common.{◌≡◌, ◌≤◌, ℕ, zero, suc, ◌+◌, Bool, true, false, not, List, [], ◌∷◌, length, drop, map, ◌-◌, Some, refl, sym, subst, arith}
use Rattle.std.specs.Prelude.{◌&&◌, nat_le, nat_lt, All}
use Rattle.std.specs.Int.{w16, w32}
use Rattle.std.proofs.lemmas.Bool.{leb-true, ltb-true, and_parts}
use Rattle.std.proofs.lemmas.Option.{none-some}
use Rattle.std.proofs.lemmas.List.{length-append, map-append}
use Rattle.std.proofs.lemmas.List.Elements.{All-nil, All-push}
use Rattle.hera_sets.specs.Rows.{holds}
use Rattle.hera_meaning.specs.declared.schemas.Attr.{Attr}
use Rattle.hera_meaning.specs.declared.schemas.RelDecl.{RelDecl}
use Rattle.hera_meaning.specs.declared.schemas.TheConstants.{ATTRS_LIMIT, RELATIONS_LIMIT}
use Rattle.hera_meaning.specs.Identifiers.{IsIdentifier}
use Rattle.hera_meaning.specs.Schemas.{AreDistinct, attr_name, names_of}
use Rattle.hera_meaning.specs.Catalogues.{decl_name, IsDecl, IsCatalogue}
use Rattle.hera_meaning.proofs.Names.{distinct_push}
use Rattle.rel_format.specs.Pages.{Format, used_by}
use Rattle.rel_format.specs.Fields.{piece, number, first_byte, is_identifier, name_field, new_name, length_field, width_field, count_field, kind_field, magic_field, rel_field, row_count_field, fill_field}
use Rattle.rel_format.specs.Table.{Stand, RelationSoFar, Book, Page, at_magic, at_count, at_rels, at_name, at_width, at_attr, at_attr_name, at_kind, at_page, at_row_count, at_row, at_fill, behind_attr, with_attr, no_pages, with_page, with_row_in, behind_row, row_in, next}
use Rattle.rel_format.specs.Places.{Reaches}
use Rattle.rel_format.proofs.Names.{identifier_true}
use Rattle.rel_format.proofs.Walks.{kept_by}
use Rattle.rel_format.proofs.Printed.{kept_is}
use Rattle.store_laws.proofs.Moves.{field_is, long_is}

-- ---- what holds of the relations read so far

-- with so many to come they may be a catalogue
record Front (rels : List RelDecl) (left : ℕ) : Type 0 where
  few : length rels + left ≤ RELATIONS_LIMIT
  distinct : AreDistinct (map decl_name rels)
  decls : All IsDecl rels

-- a name that may stand behind these
record NewName (names : List (List ℕ)) (name : List ℕ) : Type 0 where
  word : IsIdentifier name
  new : holds names name ≡ false

-- with so many attributes to come the relation may be one of a catalogue
record Part (p : RelationSoFar) (more : ℕ) : Type 0 where
  front : Front p.rels (suc p.left)
  name : NewName (map decl_name p.rels) p.name
  some : 1 ≤ length p.attrs + more
  few : length p.attrs + more ≤ ATTRS_LIMIT
  distinct : AreDistinct (names_of p.attrs)
  words : All IsIdentifier (names_of p.attrs)

abbrev Declared : Stand → Type 0
Declared at_magic = Unit {0}
Declared at_count = Unit {0}
Declared (at_rels rels left) = Front rels left
Declared (at_name rels left n) = Front rels (suc left)
Declared (at_width rels left name) = Front rels (suc left) × NewName (map decl_name rels) name
Declared (at_attr p more) = Part p (suc more)
Declared (at_attr_name p more n) = Part p (suc more)
Declared (at_kind p more name) = Part p (suc more) × NewName (names_of p.attrs) name
Declared (at_page b left) = Front b.rels 0
Declared (at_row_count b left rel) = Front b.rels 0
Declared (at_row b left p more) = Front b.rels 0
Declared (at_fill b left p) = Front b.rels 0

-- ---- one field more

not_true : (b : Bool) → not b ≡ true → b ≡ false
not_true true h = cc
not_true false h = refl

name_new : (names : List (List ℕ)) (n : ℕ) (rest name : List ℕ) → new_name names n rest ≡ Some name → NewName names name
name_new names n rest name e =
    let new = kept_is (λ x. not (holds names x)) (name_field n rest) name e in
    let word = kept_is is_identifier (piece n rest) name new.0 in
    record { word = identifier_true name word.1; new = not_true (holds names name) new.1 }

declared_behind_attr : (p : RelationSoFar) (n : ℕ) → Part p n → Declared (behind_attr p n)
declared_behind_attr p (suc n) h = h
declared_behind_attr p zero h =
    let d : RelDecl = record { name = p.name; schema = p.attrs } in
    record {
      few = omega (arith, h.front.few, length-append p.rels (d ∷ []));
      distinct = subst AreDistinct (sym (map-append decl_name p.rels (d ∷ []))) (distinct_push (map decl_name p.rels) p.name h.front.distinct h.name.new);
      decls = All-push IsDecl p.rels d h.front.decls (record {
        name = h.name.word;
        schema = record { some = omega (arith, h.some); few = omega (arith, h.few); distinct = h.distinct };
        attrs = h.words;
      });
    }

declared_behind_row : (b : Book) (left : ℕ) (p : Page) (n : ℕ) → Front b.rels 0 → Declared (behind_row b left p n)
declared_behind_row b left p zero h = h
declared_behind_row b left p (suc n) h = h

part_more : (p : RelationSoFar) (more : ℕ) (a : Attr) → Part p (suc more) → NewName (names_of p.attrs) a.name → Part (with_attr p a) more
part_more p more a h name =
    let size = length-append p.attrs (a ∷ []) in
    let names = map-append attr_name p.attrs (a ∷ []) in
    record {
      front = h.front;
      name = h.name;
      some = omega (arith, size);
      few = omega (arith, size, h.few);
      distinct = subst AreDistinct (sym names) (distinct_push (names_of p.attrs) a.name h.distinct name.new);
      words = subst (All IsIdentifier) (sym names) (All-push IsIdentifier (names_of p.attrs) a.name h.words name.word);
    }

declared_step : (f : Format) (s : Stand) (rest : List ℕ) (n : ℕ) (t : Stand) → Declared s → next f s rest ≡ Some (n, t) → Declared t
declared_step f at_magic rest n t h e = subst Declared (field_is 8 (λ m. at_count) (magic_field f.magic rest) n t e).next tt
declared_step f at_count rest n t h e =
    let x = field_is 2 (at_rels []) (count_field rest) n t e in
    let k = kept_is (λ c. nat_le c RELATIONS_LIMIT) (number w16 rest) x.value x.is in
    let few = leb-true x.value RELATIONS_LIMIT k.1 in
    subst Declared x.next (record { few = omega (arith, few); distinct = tt; decls = All-nil IsDecl })
declared_step f (at_rels rels zero) rest n t h e = subst Declared (field_is 4 (at_page (no_pages rels)) (number w32 rest) n t e).next h
declared_step f (at_rels rels (suc left)) rest n t h e = subst Declared (field_is 1 (at_name rels left) (length_field rest) n t e).next h
declared_step f (at_name rels left k) rest n t h e =
    let x = field_is k (at_width rels left) (new_name (map decl_name rels) k rest) n t e in
    subst Declared x.next (h, name_new (map decl_name rels) k rest x.value x.is)
declared_step f (at_width rels left name) rest n t h e =
    let p : RelationSoFar = record { rels = rels; left = left; name = name; attrs = [] } in
    let x = field_is 1 (behind_attr p) (width_field rest) n t e in
    let k = kept_is (λ w. nat_lt 0 w && nat_le w ATTRS_LIMIT) (first_byte rest) x.value x.is in
    let both = and_parts (nat_lt 0 x.value) (nat_le x.value ATTRS_LIMIT) k.1 in
    let some = ltb-true 0 x.value both.0 in
    let few = leb-true x.value ATTRS_LIMIT both.1 in
    subst Declared x.next (declared_behind_attr p x.value (record { front = h.0; name = h.1; some = omega (arith, some); few = omega (arith, few); distinct = tt; words = All-nil IsIdentifier }))
declared_step f (at_attr p more) rest n t h e = subst Declared (field_is 1 (at_attr_name p more) (length_field rest) n t e).next h
declared_step f (at_attr_name p more k) rest n t h e =
    let x = field_is k (at_kind p more) (new_name (names_of p.attrs) k rest) n t e in
    subst Declared x.next (h, name_new (names_of p.attrs) k rest x.value x.is)
declared_step f (at_kind p more name) rest n t h e =
    let x = field_is 1 (λ kind. behind_attr (with_attr p (record { name = name; kind = kind })) more) (kind_field rest) n t e in
    let a : Attr = record { name = name; kind = x.value } in
    subst Declared x.next (declared_behind_attr (with_attr p a) more (part_more p more a h.0 h.1))
declared_step f (at_page b zero) rest n t h e = absurd (none-some (n, t) e)
declared_step f (at_page b (suc left)) rest n t h e = subst Declared (field_is 2 (at_row_count b left) (rel_field (length b.rels) b.last rest) n t e).next h
declared_step f (at_row_count b left rel) rest n t h e =
    let p : Page = record { rel = rel; rows = [] } in
    let x = field_is 2 (behind_row b left p) (row_count_field rest) n t e in
    subst Declared x.next (declared_behind_row b left p x.value h)
declared_step f (at_row b left p more) rest n t h e =
    let x = long_is (λ r. behind_row b left (with_row_in p r) more) (row_in f b p rest) n t e in
    subst Declared x.next (declared_behind_row b left (with_row_in p x.value) more h)
declared_step f (at_fill b left p) rest n t h e = subst Declared (long_is (λ z. at_page (with_page b p) left) (fill_field (f.page - used_by p.rows) rest) n t e).next h

-- ---- where the pages are whole

pub catalogue_read : (f : Format) (bytes : List ℕ) (at left : ℕ) (b : Book) → Reaches f bytes at (at_page b left) → IsCatalogue b.rels
catalogue_read f bytes at left b reached =
    let front = kept_by (next f) bytes (0, at_magic) (λ (place : ℕ) (s : Stand). Declared s) tt (λ place s n t h e. declared_step f s (drop place bytes) n t h e) reached.0 at (at_page b left) reached.1 in
    record { few = omega (arith, front.few); distinct = front.distinct; decls = front.decls }
