-- What reading a half to its first gate tells.
use Rattle.std.proofs.Common.{◌≡◌, ◌≤◌, ℕ, zero, suc, ◌+◌, List, [], ◌∷◌, ◌++◌, length, map, take, drop, length-drop, Some, Err, refl, sym, ap, subst, ◌∙◌, append_assoc, arith}
use Rattle.std.specs.Prelude.{slice_get, All}
use Rattle.std.specs.List.{flat_map}
use Rattle.std.specs.Int.{w32, to_be_bytes}
use Rattle.std.proofs.lemmas.List.{length-append, length-take, take_at, drop_at, drop-drop, take-append-drop}
use Rattle.std.proofs.lemmas.List.Elements.{All-nil, All-cons, All-append}
use Rattle.std.proofs.lemmas.Option.{none-some, same_Some}
use Rattle.hera_sets.specs.Rows.{Row}
use Rattle.hera_meaning.specs.declared.schemas.RelDecl.{RelDecl}
use Rattle.hera_meaning.specs.Catalogues.{IsCatalogue}
use Rattle.hera_meaning.specs.Deltas.{State, IsState}
use Rattle.hera_row.proofs.FieldLemmas.{AreBytes}
use Rattle.rel_format.specs.Pages.{Format, page_head, FitsIn, Fit, joined, header_of, pages_of, page_bytes, rels_bytes, page_count}
use Rattle.rel_format.specs.Greedy.{all_rows, Follow, ArePages}
use Rattle.rel_format.specs.declared.header.PageFault.{PageFault}
use Rattle.rel_format.specs.declared.header.PageFault.TheVariants.{Damaged, Memory}
use Rattle.std.specs.Prelude.{Vec}
use Rattle.std.specs.Global.{Global}
use Rattle.rel_format.specs.Table.{Book, Stand, at_page, at_rels}
use Rattle.rel_format.specs.SoFar.{groups_bytes, pages_counted}
use Rattle.rel_format.specs.Places.{Reaches, Finds, IsHeader, HeaderIs}
use Rattle.rel_format.proofs.Longest.{damage}
use Rattle.rel_pages.specs.Halves.{HalfParts}
use Rattle.rel_format.proofs.Greedy.{paged_again}
use Rattle.rel_format.proofs.Good.{GoodGroups}
use Rattle.rel_format.proofs.Printed.{read_well}
use Rattle.rel_pages.specs.declared.parts.RelationPages.{RelationPages}
use Rattle.rel_pages.specs.Reading.{pages_len, PagesTo}
use Rattle.rel_pages.specs.Rels.{IsPaged, rows_in}
use Rattle.rel_pages.specs.Parts.{part_bytes, state_of, AreParts, parts_from, total, IsBase}
use Rattle.rel_pages.proofs.Prints.{group_paged}

-- ---- the parts of pages that are there

pub record PartsAre (page n : ℕ) (rels : List RelDecl) (gs : List (List (List Row))) (parts : List RelationPages) (bytes : List ℕ) : Type 0 where
  pub are : AreParts page rels parts bytes
  pub state : state_of page rels parts bytes ≡ map all_rows gs

pub parts_there : (page n at : ℕ) (rels : List RelDecl) (gs : List (List (List Row))) (bytes rest : List ℕ) → 1 ≤ page → GoodGroups page rels gs → at ≤ length bytes → drop at bytes ≡ groups_bytes page n gs ++ rest → PartsAre page n rels gs (parts_from at (map (pages_len page) gs)) bytes
parts_there page n at [] [] bytes rest some good inside e = record { are = tt; state = refl }
parts_there page n at [] (g ∷ gs) bytes rest some good inside e = absurd good
parts_there page n at (d ∷ rels) [] bytes rest some good inside e = absurd good
parts_there page n at (d ∷ rels) (g ∷ gs) bytes rest some good inside e =
    let here = flat_map (page_bytes page n) g in
    let is = group_paged d.schema page n g some good.0 good.1 in
    let tail = groups_bytes page (suc n) gs ++ rest in
    let split : drop at bytes ≡ here ++ tail = e ∙ append_assoc here (groups_bytes page (suc n) gs) rest in
    let whole = ap (λ (t : List ℕ). length t) split in
    let front : take (pages_len page g) (drop at bytes) ≡ here = ap (take (pages_len page g)) split ∙ take_at here tail (pages_len page g) is.size in
    let back : drop (at + pages_len page g) bytes ≡ tail = sym (drop-drop (pages_len page g) at bytes) ∙ ap (drop (pages_len page g)) split ∙ drop_at here tail (pages_len page g) is.size in
    let within : at + pages_len page g ≤ length bytes = omega (arith, whole, length-append here tail, is.size, length-drop at bytes, inside) in
    let more = parts_there page (suc n) (at + pages_len page g) rels gs bytes rest some good.2 within back in
    record {
      are = (within, subst (IsPaged d.schema page) (sym front) is.paged, more.are);
      state = ap (λ (t : List Row). t ∷ state_of page rels (parts_from (at + pages_len page g) (map (pages_len page) gs)) bytes) (ap (rows_in d.schema page) front ∙ is.rows_are)
          ∙ ap (λ (s : State). all_rows g ∷ s) more.state;
    }

groups_size : (page n : ℕ) (rels : List RelDecl) (gs : List (List (List Row))) → 1 ≤ page → GoodGroups page rels gs → length (groups_bytes page n gs) ≡ total (map (pages_len page) gs)
groups_size page n [] [] some good = refl
groups_size page n [] (g ∷ gs) some good = absurd good
groups_size page n (d ∷ rels) [] some good = absurd good
groups_size page n (d ∷ rels) (g ∷ gs) some good =
    let is = group_paged d.schema page n g some good.0 good.1 in
    let more = groups_size page (suc n) rels gs some good.2 in
    omega (arith, length-append (flat_map (page_bytes page n) g) (groups_bytes page (suc n) gs), is.size, more)

-- ---- the pages of a state

pub groups_print : (page n : ℕ) (rels : List RelDecl) (gs : List (List (List Row))) → GoodGroups page rels gs → rels_bytes page n (map all_rows gs) ≡ groups_bytes page n gs
groups_print page n [] [] good = refl
groups_print page n [] (g ∷ gs) good = absurd good
groups_print page n (d ∷ rels) [] good = absurd good
groups_print page n (d ∷ rels) (g ∷ gs) good =
    ap (λ (t : List ℕ). t ++ rels_bytes page (suc n) (map all_rows gs)) (ap (flat_map (page_bytes page n)) (paged_again page g good.0.pages))
    ∙ ap (λ (t : List ℕ). flat_map (page_bytes page n) g ++ t) (groups_print page (suc n) rels gs good.2)

pub groups_count : (page : ℕ) (rels : List RelDecl) (gs : List (List (List Row))) → GoodGroups page rels gs → page_count page (map all_rows gs) ≡ pages_counted gs
groups_count page [] [] good = refl
groups_count page [] (g ∷ gs) good = absurd good
groups_count page (d ∷ rels) [] good = absurd good
groups_count page (d ∷ rels) (g ∷ gs) good =
    let here = ap (λ (t : List (List Row)). length t) (paged_again page g good.0.pages) in
    let more = groups_count page rels gs good.2 in
    omega (arith, here, more)

-- each row lies in a page, so pages have room for it
page_fits : (page : ℕ) (rows : List Row) → page_head + length (joined rows) ≤ page → All (FitsIn page) rows
page_fits page [] h = All-nil (FitsIn page)
page_fits page (r ∷ rows) h =
    let size = length-append r (joined rows) in
    All-cons (FitsIn page) r rows (omega (arith, h, size)) (page_fits page rows (omega (arith, h, size)))

follow_fits : (page used : ℕ) (pages : List (List Row)) → Follow page used pages → All (FitsIn page) (all_rows pages)
follow_fits page used [] h = All-nil (FitsIn page)
follow_fits page used ([] ∷ pages) h = absurd h
follow_fits page used ((r ∷ rows) ∷ pages) h =
    All-append (FitsIn page) (r ∷ rows) (all_rows pages) (page_fits page (r ∷ rows) h.1) (follow_fits page (page_head + length (joined (r ∷ rows))) pages h.2)

pages_fit : (page : ℕ) (pages : List (List Row)) → ArePages page pages → All (FitsIn page) (all_rows pages)
pages_fit page [] h = All-nil (FitsIn page)
pages_fit page ([] ∷ pages) h = absurd h
pages_fit page ((r ∷ rows) ∷ pages) h =
    All-append (FitsIn page) (r ∷ rows) (all_rows pages) (page_fits page (r ∷ rows) h.0) (follow_fits page (page_head + length (joined (r ∷ rows))) pages h.1)

groups_fit : (page : ℕ) (rels : List RelDecl) (gs : List (List (List Row))) → GoodGroups page rels gs → Fit page (map all_rows gs)
groups_fit page [] [] good = tt
groups_fit page [] (g ∷ gs) good = absurd good
groups_fit page (d ∷ rels) [] good = absurd good
groups_fit page (d ∷ rels) (g ∷ gs) good = (pages_fit page g good.0.pages, groups_fit page rels gs good.2)

-- ---- a half up to its first gate

pub record AllRead (f : Format) (bytes : List ℕ) (at end : ℕ) (rels : List RelDecl) (lens : List ℕ) : Type 0 where
  pub fits : at + 4 + total lens ≡ end
  pub base : IsBase f rels (parts_from (at + 4) lens) bytes end

length-four : (n : ℕ) → length (to_be_bytes w32 n) ≡ 4
length-four n = refl

pub all_read_is : (f : Format) (bytes : List ℕ) (at end : ℕ) (rels : List RelDecl) (lens : List ℕ) (b : Book) → AreBytes bytes → 1 ≤ f.page → IsCatalogue rels → at ≤ length bytes → end ≤ length bytes → take at bytes ≡ header_of f rels → b.rels ≡ rels → lens ≡ map (pages_len f.page) b.pages → Reaches f bytes end (at_page b 0) → AllRead f bytes at end rels lens
all_read_is f bytes at end rels lens b all some catalogue here within header own told reached =
    let well = read_well f bytes end (at_page b 0) all reached in
    let good : GoodGroups f.page rels b.pages = subst (λ (r : List RelDecl). GoodGroups f.page r b.pages) own well.good.groups in
    let groups = groups_bytes f.page 0 b.pages in
    let number = to_be_bytes w32 (pages_counted b.pages) in
    let front = header_of f rels ++ number in
    let none_more : pages_counted b.pages + 0 ≡ pages_counted b.pages = omega arith in
    let print : take end bytes ≡ front ++ groups =
    well.printed ∙ ap (λ (r : List RelDecl). header_of f r ++ to_be_bytes w32 (pages_counted b.pages + 0) ++ groups) own
    ∙ ap (λ (n : ℕ). header_of f rels ++ to_be_bytes w32 n ++ groups) none_more in
    let head_size : length (header_of f rels) ≡ at = sym (ap (λ (t : List ℕ). length t) header) ∙ omega (arith, length-take at bytes, here) in
    let front_size : length front ≡ at + 4 = omega (arith, length-append (header_of f rels) number, head_size, length-four (pages_counted b.pages)) in
    let groups_len : length groups ≡ total lens = groups_size f.page 0 rels b.pages some good ∙ ap total (sym told) in
    let whole = ap (λ (t : List ℕ). length t) print in
    let end_is : at + 4 + total lens ≡ end = omega (arith, whole, length-take end bytes, within, length-append front groups, front_size, groups_len) in
    let rest = drop end bytes in
    let split : bytes ≡ front ++ (groups ++ rest) = sym (take-append-drop end bytes) ∙ ap (λ (t : List ℕ). t ++ rest) print ∙ append_assoc front groups rest in
    let behind : drop (at + 4) bytes ≡ groups ++ rest = ap (drop (at + 4)) split ∙ drop_at front (groups ++ rest) (at + 4) front_size in
    let parts = parts_there f.page 0 (at + 4) rels b.pages bytes rest some good (omega (arith, end_is, within)) behind in
    let same : parts_from (at + 4) (map (pages_len f.page) b.pages) ≡ parts_from (at + 4) lens = ap (parts_from (at + 4)) (sym told) in
    let state : state_of f.page rels (parts_from (at + 4) lens) bytes ≡ map all_rows b.pages = ap (λ (ps : List RelationPages). state_of f.page rels ps bytes) (sym same) ∙ parts.state in
    record {
      fits = end_is;
      base = record {
        catalogue = catalogue;
        parts_are = subst (λ (ps : List RelationPages). AreParts f.page rels ps bytes) same parts.are;
        within = within;
        fit = subst (Fit f.page) (sym state) (groups_fit f.page rels b.pages good);
        printed = print ∙ ap (λ (t : List ℕ). front ++ t) (sym (groups_print f.page 0 rels b.pages good))
            ∙ ap (λ (n : ℕ). header_of f rels ++ to_be_bytes w32 n ++ rels_bytes f.page 0 (map all_rows b.pages)) (sym (groups_count f.page rels b.pages good))
            ∙ ap (pages_of f rels) (sym state);
      };
    }

-- ---- what a base's parts are

pub state_is : (page : ℕ) (rels : List RelDecl) (parts : List RelationPages) (bytes : List ℕ) → AreParts page rels parts bytes → IsState rels (state_of page rels parts bytes)
state_is page [] [] bytes h = tt
state_is page [] (p ∷ parts) bytes h = absurd h
state_is page (d ∷ rels) [] bytes h = absurd h
state_is page (d ∷ rels) (p ∷ parts) bytes h = ((h.1.ascending, h.1.rows), state_is page rels parts bytes h.2)

pub record PartHere (page : ℕ) (rels : List RelDecl) (parts : List RelationPages) (bytes : List ℕ) (rel : ℕ) (d : RelDecl) (p : RelationPages) : Type 0 where
  pub within : p.at + p.len ≤ length bytes
  pub paged : IsPaged d.schema page (part_bytes bytes p)
  pub rows_are : slice_get (state_of page rels parts bytes) rel ≡ Some (rows_in d.schema page (part_bytes bytes p))

pub part_here : (page : ℕ) (rels : List RelDecl) (parts : List RelationPages) (bytes : List ℕ) (rel : ℕ) (d : RelDecl) (p : RelationPages) → AreParts page rels parts bytes → slice_get rels rel ≡ Some d → slice_get parts rel ≡ Some p → PartHere page rels parts bytes rel d p
part_here page [] parts bytes rel d p h e g = absurd (none-some d e)
part_here page (x ∷ rels) [] bytes rel d p h e g = absurd h
part_here page (x ∷ rels) (y ∷ parts) bytes zero d p h e g =
    subst (λ (z : RelDecl). PartHere page (x ∷ rels) (y ∷ parts) bytes 0 z p) (same_Some x d e)
    (subst (λ (z : RelationPages). PartHere page (x ∷ rels) (y ∷ parts) bytes 0 x z) (same_Some y p g) (record { within = h.0; paged = h.1; rows_are = refl }))
part_here page (x ∷ rels) (y ∷ parts) bytes (suc rel) d p h e g =
    let more = part_here page rels parts bytes rel d p h.2 e g in
    record { within = more.within; paged = more.paged; rows_are = more.rows_are }

pub parts_length : (page : ℕ) (rels : List RelDecl) (parts : List RelationPages) (bytes : List ℕ) → AreParts page rels parts bytes → length parts ≡ length rels
parts_length page [] [] bytes h = refl
parts_length page [] (p ∷ parts) bytes h = absurd h
parts_length page (d ∷ rels) [] bytes h = absurd h
parts_length page (d ∷ rels) (p ∷ parts) bytes h = ap suc (parts_length page rels parts bytes h.2)

pub found_is : (f : Format) (bytes : List ℕ) (page at end : ℕ) (rels : List RelDecl) (lens : List ℕ) → AreBytes bytes → f.page ≡ page → 1 ≤ page → IsHeader f bytes rels at → at ≤ length bytes → end ≤ length bytes → (t : Stand) × PagesTo page rels lens t × Reaches f bytes end t → AllRead f bytes at end rels lens
found_is f bytes page at end rels lens all same some header here within found =
    let to = found.1 in
    all_read_is f bytes at end rels lens to.book all (omega (arith, same, some)) header.catalogue here within header.printed to.own
    (to.told ∙ ap (λ (n : ℕ). map (pages_len n) to.book.pages) (sym same)) (subst (Reaches f bytes end) to.stand found.2)

pub header_fault : (f : Format) (bytes : List ℕ) (e : PageFault) → HeaderIs f bytes (Err e) → HalfParts f bytes (Err e)
header_fault f bytes (Damaged at) h = damage f bytes at h
header_fault f bytes Memory h = tt

pub pages_fault : (f : Format) (bytes : List ℕ) (page at : ℕ) (rels : List RelDecl) (e : PageFault) → Reaches f bytes at (at_rels rels 0) → Finds {A = Vec ℕ Global} f bytes at (at_rels rels 0) (λ lens. PagesTo page rels lens.items) (Err e) → HalfParts f bytes (Err e)
pages_fault f bytes page at rels (Damaged n) r h = damage f bytes n (h r)
pages_fault f bytes page at rels Memory r h = tt
