-- Where rows begin in the pages of a relation.
use Rattle.std.proofs.Common.{◌≡◌, ◌≤◌, ◌<◌, ◌⊎◌, inl, inr, ℕ, zero, suc, ◌+◌, ◌-◌, ◌*◌, ◌/◌, true, false, List, [], ◌∷◌, ◌++◌, length, drop, length-drop, Some, refl, sym, ap, subst, ◌∙◌, append_assoc, All, Vec, arith}
use Rattle.std.specs.Prelude.{is_some, get_or, nat_lt}
use Rattle.std.specs.List.{find, slice_get}
use Rattle.std.specs.Global.{Global}
use Rattle.std.proofs.lemmas.Bool.{ltb-true}
use Rattle.std.proofs.lemmas.Option.{none-some, same_Some, slice_get_read}
use Rattle.std.proofs.lemmas.List.{drop-drop, drop_at, length-append}
use Rattle.std.proofs.lemmas.List.Elements.{All-nil}
use Rattle.hera_sets.specs.Rows.{Row, IsAscending}
use Rattle.hera_meaning.specs.declared.schemas.Attr.{Attr}
use Rattle.hera_meaning.specs.declared.schemas.RelDecl.{RelDecl}
use Rattle.hera_row.specs.Reading.{row_len_of}
use Rattle.rel_pages.specs.declared.page_rel.Bound.{Bound}
use Rattle.rel_pages.specs.declared.parts.RelationPages.{RelationPages}
use Rattle.rel_pages.specs.declared.starts.RowStart.{RowStart}
use Rattle.rel_pages.specs.Rels.{rows_from, rows_counted, page_rows, pages_rows, rows_in, passes, IsRun, ArePagesOf}
use Rattle.rel_pages.specs.Parts.{part_bytes, AreParts}
use Rattle.rel_pages.specs.Starts.{page_of, start_bytes, start_row, rows_left, IsStart, AreStartsOf, AreStarts}
use Rattle.rel_pages.proofs.Runs.{find_none, run_on}
use Rattle.rel_pages.proofs.Searches.{none_before, ascending_back}
use Rattle.rel_pages.proofs.Nears.{page_in}

-- ---- a row that begins there

abbrev some_left : (a b : ℕ) → b < a → a - b ≡ suc (a - b - 1)
some_left a b lt = omega (arith, lt)

pub leads_there : (schema : List Attr) (page : ℕ) (bytes : List ℕ) (s : RowStart) → IsStart schema page bytes s → is_some (row_len_of schema (start_bytes page bytes s)) ≡ true
leads_there schema page bytes s start =
    let run = subst (λ (n : ℕ). IsRun schema n (start_bytes page bytes s)) (some_left (rows_counted (page_of page bytes s.page)) s.row start.row) start.run in
    ap is_some run.1

-- all rows: those before the one that begins there, it and those behind it on its page, and those of the pages behind
pub record Around (schema : List Attr) (page : ℕ) (bytes : List ℕ) (s : RowStart) : Type 0 where
  pub front : List Row
  pub here : List Row
  pub row : rows_from schema (rows_left page bytes s) (start_bytes page bytes s) ≡ start_row schema page bytes s ∷ here
  pub rows : rows_in schema page bytes ≡ front ++ (rows_from schema (rows_left page bytes s) (start_bytes page bytes s) ++ pages_rows schema page (length bytes / page - s.page - 1) (drop page (drop (s.page * page) bytes)))

pub around : (schema : List Attr) (page : ℕ) (bytes : List ℕ) (s : RowStart) → ArePagesOf schema page (length bytes / page) bytes → IsStart schema page bytes s → Around schema page bytes s
around schema page bytes s pages start =
    let inside = page_in schema page (length bytes / page) s.page bytes start.there pages in
    let before : List Row = pages_rows schema page s.page bytes in
    let left : List Row = rows_from schema (rows_left page bytes s) (start_bytes page bytes s) in
    let behind : List Row = pages_rows schema page (length bytes / page - s.page - 1) (drop page (drop (s.page * page) bytes)) in
    record {
      front = before ++ start.before;
      here = rows_from schema (rows_left page bytes s - 1) (drop (length (start_row schema page bytes s)) (start_bytes page bytes s));
      row = ap (λ (n : ℕ). rows_from schema n (start_bytes page bytes s)) (some_left (rows_counted (page_of page bytes s.page)) s.row start.row);
      rows = inside.rows ∙ ap (λ (t : List Row). before ++ t ++ behind) start.rows
          ∙ ap (λ (t : List Row). t ++ behind) (sym (append_assoc before start.before left))
          ∙ append_assoc (before ++ start.before) left behind;
    }

-- where that row is not looked for, none before it is
pub found_behind : (schema : List Attr) (page : ℕ) (bytes : List ℕ) (s : RowStart) (bound : Bound) → ArePagesOf schema page (length bytes / page) bytes → IsAscending (rows_in schema page bytes) → IsStart schema page bytes s → passes bound (start_row schema page bytes s) ≡ false →
    find (passes bound) (rows_in schema page bytes) ≡ find (passes bound) (rows_from schema (rows_left page bytes s) (start_bytes page bytes s) ++ pages_rows schema page (length bytes / page - s.page - 1) (drop page (drop (s.page * page) bytes)))
found_behind schema page bytes s bound pages up start out =
    let all = around schema page bytes s pages start in
    let p = passes bound in
    let behind : List Row = pages_rows schema page (length bytes / page - s.page - 1) (drop page (drop (s.page * page) bytes)) in
    let rest : List Row = rows_from schema (rows_left page bytes s) (start_bytes page bytes s) ++ behind in
    let whole : rows_in schema page bytes ≡ all.front ++ start_row schema page bytes s ∷ (all.here ++ behind) =
    all.rows ∙ ap (λ (t : List Row). all.front ++ (t ++ behind)) all.row in
    ap (find p) all.rows
    ∙ find_none p all.front rest (none_before bound all.front (start_row schema page bytes s) (all.here ++ behind) (subst IsAscending whole up) out)

pub behind_up : (schema : List Attr) (page : ℕ) (bytes : List ℕ) (s : RowStart) → ArePagesOf schema page (length bytes / page) bytes → IsAscending (rows_in schema page bytes) → IsStart schema page bytes s →
    IsAscending (pages_rows schema page (length bytes / page - s.page - 1) (drop page (drop (s.page * page) bytes)))
behind_up schema page bytes s pages up start =
    let all = around schema page bytes s pages start in
    let left : List Row = rows_from schema (rows_left page bytes s) (start_bytes page bytes s) in
    let behind : List Row = pages_rows schema page (length bytes / page - s.page - 1) (drop page (drop (s.page * page) bytes)) in
    ascending_back left behind (ascending_back all.front (left ++ behind) (subst IsAscending all.rows up))

-- ---- a page read from its head

-- so many rows of a page were passed, and the rest of it is left
pub record OnPage (schema : List Attr) (one : List ℕ) (row : ℕ) (left : List ℕ) : Type 0 where
  pub within : length left ≤ length one
  pub at : left ≡ drop (length one - length left) one
  pub run : IsRun schema (rows_counted one - row) left
  pub before : List Row
  pub rows : page_rows schema one ≡ before ++ rows_from schema (rows_counted one - row) left

pub on_next : (schema : List Attr) (one : List ℕ) (k : ℕ) (left row rest : List ℕ) → k < rows_counted one → OnPage schema one k left → row_len_of schema left ≡ Some (length row) → row ++ rest ≡ left → OnPage schema one (k + 1) rest
on_next schema one k left row rest lt on e parts =
    let goes = run_on schema (rows_counted one) k left row rest lt on.run e parts in
    let size : length left ≡ length row + length rest = ap (λ (x : List ℕ). length x) (sym parts) ∙ length-append row rest in
    let within = on.within in
    let behind : rest ≡ drop (length row) left = sym (ap (drop (length row)) (sym parts) ∙ drop_at row rest (length row) refl) in
    let more : List Row = rows_from schema (rows_counted one - (k + 1)) rest in
    let place : length one - length left + length row ≡ length one - length rest = omega (arith, size, within) in
    record {
      within = omega (arith, size, within);
      at = behind ∙ ap (drop (length row)) on.at ∙ drop-drop (length row) (length one - length left) one ∙ ap (λ (n : ℕ). drop n one) place;
      run = goes.run;
      before = on.before ++ row ∷ [];
      rows = on.rows ∙ ap (λ (t : List Row). on.before ++ t) goes.rows ∙ sym (append_assoc on.before (row ∷ []) more);
    }

-- the rows before one that begins there were passed
pub on_start : (schema : List Attr) (page : ℕ) (bytes : List ℕ) (s : RowStart) → IsStart schema page bytes s → OnPage schema (page_of page bytes s.page) s.row (start_bytes page bytes s)
on_start schema page bytes s start =
    let one : List ℕ = page_of page bytes s.page in
    let size = length-drop s.at one in
    let within = start.within in
    let place : s.at ≡ length one - length (drop s.at one) = omega (arith, size, within) in
    record {
      within = omega (arith, size);
      at = ap (λ (n : ℕ). drop n one) place;
      run = start.run;
      before = start.before;
      rows = start.rows;
    }

start_here : (schema : List Attr) (page : ℕ) (bytes : List ℕ) (number row : ℕ) (left : List ℕ) → number < length bytes / page → row < rows_counted (page_of page bytes number) → OnPage schema (page_of page bytes number) row left →
    IsStart schema page bytes (record { page = number; row = row; at = length (page_of page bytes number) - length left })
start_here schema page bytes number row left there lt on =
    let one : List ℕ = page_of page bytes number in
    record {
      there = there;
      within = omega arith;
      row = lt;
      run = subst (IsRun schema (rows_counted one - row)) on.at on.run;
      before = on.before;
      rows = on.rows ∙ ap (λ (x : List ℕ). on.before ++ rows_from schema (rows_counted one - row) x) on.at;
    }

pub starts_here : (schema : List Attr) (page : ℕ) (bytes one : List ℕ) (number row : ℕ) (left : List ℕ) → one ≡ page_of page bytes number → number < length bytes / page → row < rows_counted one → OnPage schema one row left →
    IsStart schema page bytes (record { page = number; row = row; at = length one - length left })
starts_here schema page bytes one number row left e there =
    subst (λ (x : List ℕ). row < rows_counted x → OnPage schema x row left → IsStart schema page bytes (record { page = number; row = row; at = length x - length left })) (sym e)
    (start_here schema page bytes number row left there)

-- ---- the lists of all relations

-- rows of one relation begin at these, which the base finds by its number
pub of_part : (page : ℕ) (rels : List RelDecl) (parts : List RelationPages) (bytes : List ℕ) (rel : ℕ) (d : RelDecl) (p : RelationPages) (starts : List RowStart) → slice_get rels rel ≡ Some d → slice_get parts rel ≡ Some p →
    All (IsStart d.schema page (part_bytes bytes p)) starts → AreStartsOf page rels parts bytes rel starts
of_part page rels parts bytes rel d p starts e g all x y h k =
    subst (λ (z : RelDecl). All (IsStart z.schema page (part_bytes bytes y)) starts) (same_Some d x (sym e ∙ h))
    (subst (λ (z : RelationPages). All (IsStart d.schema page (part_bytes bytes z)) starts) (same_Some p y (sym g ∙ k)) all)

pub no_lists : (page : ℕ) (rels : List RelDecl) (parts : List RelationPages) (bytes : List ℕ) (lists : List (Vec RowStart Global)) → lists ≡ [] → AreStarts page rels parts bytes lists
no_lists page rels parts bytes lists none rel starts e = absurd (none-some starts (ap (λ (xs : List (Vec RowStart Global)). slice_get xs rel) (sym none) ∙ e))

here_or_last : (xs : List (Vec RowStart Global)) (x y : Vec RowStart Global) (i : ℕ) → slice_get (xs ++ x ∷ []) i ≡ Some y → (slice_get xs i ≡ Some y) ⊎ ((i ≡ length xs) × (x ≡ y))
here_or_last [] x y zero e = inr (refl, same_Some x y e)
here_or_last [] x y (suc i) e = absurd (none-some y e)
here_or_last (z ∷ xs) x y zero e = inl e
here_or_last (z ∷ xs) x y (suc i) e = next (here_or_last xs x y i e)
  where
    next : (slice_get xs i ≡ Some y) ⊎ ((i ≡ length xs) × (x ≡ y)) → (slice_get xs i ≡ Some y) ⊎ ((suc i ≡ suc (length xs)) × (x ≡ y))
    next (inl h) = inl h
    next (inr h) = inr (ap suc h.0, h.1)

pub next_list : (page : ℕ) (rels : List RelDecl) (parts : List RelationPages) (bytes : List ℕ) (lists : List (Vec RowStart Global)) (list : Vec RowStart Global) (n : ℕ) → length lists ≡ n → AreStarts page rels parts bytes lists → AreStartsOf page rels parts bytes n list.items → AreStarts page rels parts bytes (lists ++ list ∷ [])
next_list page rels parts bytes lists list n count all own rel starts e = by (here_or_last lists list starts rel e)
  where
    by : (slice_get lists rel ≡ Some starts) ⊎ ((rel ≡ length lists) × (list ≡ starts)) → AreStartsOf page rels parts bytes rel starts.items
    by (inl h) = all rel starts h
    by (inr h) = subst (λ (i : ℕ). AreStartsOf page rels parts bytes i starts.items) (sym (h.0 ∙ count)) (subst (λ (l : Vec RowStart Global). AreStartsOf page rels parts bytes n l.items) h.1 own)

pub parts_same : (page n : ℕ) (rels : List RelDecl) (parts ps : List RelationPages) (bytes xs : List ℕ) → page ≡ n → parts ≡ ps → bytes ≡ xs → AreParts page rels parts bytes → AreParts n rels ps xs
parts_same page n rels parts ps bytes xs e g h are =
    subst (λ (m : ℕ). AreParts m rels ps xs) e (subst (λ (l : List RelationPages). AreParts page rels l xs) g (subst (λ (l : List ℕ). AreParts page rels parts l) h are))

pub starts_same : (page n : ℕ) (rels : List RelDecl) (parts ps : List RelationPages) (bytes xs : List ℕ) (lists : List (Vec RowStart Global)) → page ≡ n → parts ≡ ps → bytes ≡ xs → AreStarts page rels parts bytes lists → AreStarts n rels ps xs lists
starts_same page n rels parts ps bytes xs lists e g h are =
    subst (λ (m : ℕ). AreStarts m rels ps xs lists) e (subst (λ (l : List RelationPages). AreStarts page rels l xs lists) g (subst (λ (l : List ℕ). AreStarts page rels parts l lists) h are))

pub part_there : (ps parts : List RelationPages) (rel : ℕ) (p : RelationPages) → ps ≡ parts → true ≡ nat_lt rel (length ps) → p ≡ get_or ps rel p → slice_get parts rel ≡ Some p
part_there ps parts rel p same lt here =
    subst (λ (xs : List RelationPages). slice_get xs rel ≡ Some p) same (slice_get_read ps (length ps) rel p refl (ltb-true rel (length ps) (sym lt)) here)

pub list_there : (lists : List (Vec RowStart Global)) (rel : ℕ) (list : Vec RowStart Global) → true ≡ nat_lt rel (length lists) → list ≡ get_or lists rel list → slice_get lists rel ≡ Some list
list_there lists rel list lt here = slice_get_read lists (length lists) rel list refl (ltb-true rel (length lists) (sym lt)) here

pub rel_starts : (page : ℕ) (rels : List RelDecl) (parts : List RelationPages) (bytes : List ℕ) (lists ls : List (Vec RowStart Global)) (rel : ℕ) (d : RelDecl) (p : RelationPages) (xs : List RowStart) → AreStarts page rels parts bytes lists → slice_get rels rel ≡ Some d → slice_get parts rel ≡ Some p → ls ≡ lists →
    (xs ≡ []) ⊎ ((list : Vec RowStart Global) × (slice_get ls rel ≡ Some list) × (xs ≡ list.items)) → All (IsStart d.schema page (part_bytes bytes p)) xs
rel_starts page rels parts bytes lists ls rel d p xs are e g same (inl none) = subst (All (IsStart d.schema page (part_bytes bytes p))) (sym none) (All-nil (IsStart d.schema page (part_bytes bytes p)))
rel_starts page rels parts bytes lists ls rel d p xs are e g same (inr h) =
    subst (All (IsStart d.schema page (part_bytes bytes p))) (sym h.2)
    (are rel h.0 (ap (λ (l : List (Vec RowStart Global)). slice_get l rel) (sym same) ∙ h.1) d p e g)
