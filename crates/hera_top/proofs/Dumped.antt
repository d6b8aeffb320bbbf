-- The text of a database is that of its relations, one behind another.
use Rattle.std.proofs.Common.{◌≡◌, ℕ, zero, suc, ◌+◌, ◌<◌, true, List, [], ◌∷◌, ◌++◌, length, drop, Some, refl, sym, ap, ◌∙◌, subst, arith, append_assoc, append-nil}
use Rattle.std.specs.Prelude.{slice_get, All}
use Rattle.std.specs.List.{list_all}
use Rattle.std.proofs.lemmas.Bool.{and_from}
use Rattle.std.proofs.lemmas.List.Elements.{All-head, All-tail}
use Rattle.hera_meaning.specs.Commits.{after_all}
use Rattle.hera_sets.specs.Rows.{Row}
use Rattle.hera_meaning.specs.declared.schemas.Attr.{Attr}
use Rattle.hera_meaning.specs.declared.schemas.RelDecl.{RelDecl}
use Rattle.hera_meaning.specs.Deltas.{Delta, State, IsState, apply_of}
use Rattle.hera_meaning.specs.Printed.{decl_text, table_text}
use Rattle.hera_meaning.specs.Rows.{IsRow, is_row}
use Rattle.hera_meaning.proofs.RowsRead.{is_row-from_IsRow}
use Rattle.when_overlay.specs.Changed.{after_all as seen_after}
use Rattle.hera_top.specs.Dumping.{relation_text}
use Rattle.hera_top.specs.Commands.{tables_text}

-- two ways to say what commits do to a state
pub same_after : (s : State) (ds : List Delta) → seen_after s ds ≡ after_all s ds
same_after s [] = refl
same_after s (d ∷ ds) = same_after (apply_of s d) ds

pub after_commits : (s : State) (ds : List Delta) → seen_after s (ds ++ []) ≡ after_all s ds
after_commits s ds = ap (seen_after s) (append-nil ds) ∙ same_after s ds

-- the text from one relation on
pub next_relation : (rels : List RelDecl) (s : State) (r : ℕ) → IsState rels s → r < length rels
    → tables_text (drop r rels) (drop r s) ≡ relation_text rels s r ++ tables_text (drop (suc r) rels) (drop (suc r) s)
next_relation [] s r valid lt = absurd (omega (arith, lt))
next_relation (d ∷ rels) [] r valid lt = absurd valid
next_relation (d ∷ rels) (rows ∷ s) zero valid lt = refl
next_relation (d ∷ rels) (rows ∷ s) (suc r) valid lt = next_relation rels s r valid.1 (omega (arith, lt))

-- past the last there is none
pub past_relations : (rels : List RelDecl) (s : State) (r : ℕ) → IsState rels s → length rels ≡ r → tables_text (drop r rels) (drop r s) ≡ []
past_relations [] s zero valid is = refl
past_relations [] s (suc r) valid is = absurd (omega (arith, is))
past_relations (d ∷ rels) [] r valid is = absurd valid
past_relations (d ∷ rels) (rows ∷ s) zero valid is = absurd (omega (arith, is))
past_relations (d ∷ rels) (rows ∷ s) (suc r) valid is = past_relations rels s r valid.1 (omega (arith, is))

pub one_more : (rels : List RelDecl) (s : State) (r : ℕ) (old new all : List ℕ) → IsState rels s → r < length rels → new ≡ old ++ relation_text rels s r → old ++ tables_text (drop r rels) (drop r s) ≡ all
    → new ++ tables_text (drop (r + 1) rels) (drop (r + 1) s) ≡ all
one_more rels s r old new all valid lt more so_far =
    let next : suc r ≡ r + 1 = omega arith in
    let rest : List ℕ = tables_text (drop (suc r) rels) (drop (suc r) s) in
    let here : new ++ rest ≡ all =
    ap (λ (l : List ℕ). l ++ rest) more ∙ append_assoc old (relation_text rels s r) rest ∙ ap (λ (l : List ℕ). old ++ l) (sym (next_relation rels s r valid lt)) ∙ so_far in
    subst (λ (k : ℕ). new ++ tables_text (drop k rels) (drop k s) ≡ all) next here

pub all_of_them : (rels : List RelDecl) (s : State) (r : ℕ) (text all : List ℕ) → IsState rels s → length rels ≡ r → text ++ tables_text (drop r rels) (drop r s) ≡ all → text ≡ all
all_of_them rels s r text all valid is so_far = sym (append-nil text) ∙ ap (λ (l : List ℕ). text ++ l) (sym (past_relations rels s r valid is)) ∙ so_far

pub relation_is : (rels : List RelDecl) (s : State) (r : ℕ) (d : RelDecl) (rows : List Row) → slice_get rels r ≡ Some d → slice_get s r ≡ Some rows → relation_text rels s r ≡ decl_text d ++ table_text d.schema rows
relation_is [] s r d rows decl has = cc (decl)
relation_is (e ∷ rels) [] r d rows decl has = cc (has)
relation_is (e ∷ rels) (xs ∷ s) zero d rows decl has =
    let same : e ≡ d = cc (decl) in
    let also : xs ≡ rows = cc (has) in
    ap (λ (x : RelDecl). decl_text x ++ table_text x.schema xs) same ∙ ap (λ (l : List Row). decl_text d ++ table_text d.schema l) also
relation_is (e ∷ rels) (xs ∷ s) (suc r) d rows decl has = relation_is rels s r d rows decl has

-- two lines were put
pub put_is : (rels : List RelDecl) (s : State) (r : ℕ) (d : RelDecl) (rows : List Row) (old mid new : List ℕ) → slice_get rels r ≡ Some d → slice_get s r ≡ Some rows
    → mid ≡ old ++ decl_text d → new ≡ mid ++ table_text d.schema rows → new ≡ old ++ relation_text rels s r
put_is rels s r d rows old mid new decl has first second =
    second ∙ ap (λ (l : List ℕ). l ++ table_text d.schema rows) first ∙ append_assoc old (decl_text d) (table_text d.schema rows)
    ∙ ap (λ (l : List ℕ). old ++ l) (sym (relation_is rels s r d rows decl has))

all_true : (schema : List Attr) (rows : List Row) → All (IsRow schema) rows → list_all (is_row schema) rows ≡ true
all_true schema [] all = refl
all_true schema (x ∷ rows) all = and_from (is_row schema x) (list_all (is_row schema) rows) (is_row-from_IsRow schema x (All-head (IsRow schema) x rows all)) (all_true schema rows (All-tail (IsRow schema) x rows all))

pub rows_fit : (rels : List RelDecl) (s : State) (r : ℕ) (d : RelDecl) (rows : List Row) → IsState rels s → slice_get rels r ≡ Some d → slice_get s r ≡ Some rows → list_all (is_row d.schema) rows ≡ true
rows_fit [] s r d rows valid decl has = cc (decl)
rows_fit (e ∷ rels) [] r d rows valid decl has = cc (has)
rows_fit (e ∷ rels) (xs ∷ s) zero d rows valid decl has =
    let same : e ≡ d = cc (decl) in
    let also : xs ≡ rows = cc (has) in
    subst (λ (l : List Row). list_all (is_row d.schema) l ≡ true) also (subst (λ (x : RelDecl). list_all (is_row x.schema) xs ≡ true) same (all_true e.schema xs valid.0.1))
rows_fit (e ∷ rels) (xs ∷ s) (suc r) d rows valid decl has = rows_fit rels s r d rows valid.1 decl has
