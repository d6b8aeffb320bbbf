-- Relations by their names and numbers.
use Rattle.std.proofs.Common.{◌≡◌, ◌<◌, ◌∙◌, ℕ, zero, suc, List, [], ◌∷◌, length, Option, None, Some, refl, sym, ap, subst}
use Rattle.std.specs.Prelude.{slice_get, All, option_map, IfSome}
use Rattle.std.proofs.lemmas.Option.{none-some, same_Some, slice_get_within}
use Rattle.hera_sets.specs.Rows.{Row}
use Rattle.hera_meaning.specs.declared.scalars.RelId.{RelId}
use Rattle.hera_meaning.specs.declared.schemas.RelDecl.{RelDecl}
use Rattle.hera_meaning.specs.Deltas.{State, IsState, schema_of, rows_at}
use Rattle.hera_meaning.specs.Rows.{IsRow}
use Rattle.hera_row.specs.Numbers.{number_named}
use Rattle.hera_bind.proofs.Found.{is_named}
use Rattle.hera_meaning.specs.Commits.{after_all}
use Rattle.hera_meaning.specs.Deltas.{Delta, apply_of}
use Rattle.rel_pages.specs.Stored.{Stored}
use Rattle.when_overlay.specs.Changed.{after_all as seen_after}

-- a relation that is found is one of the catalogue
pub named_within : (name : List ℕ) (rels : List RelDecl) (rel : ℕ) → number_named name rels ≡ Some rel → rel < length rels
named_within name rels rel is = let n = is_named name rels rel is in slice_get_within rels rel n.decl n.here

pub within_if : (o : Option RelId) (name : List ℕ) (seen rels : List RelDecl) → option_map (λ (r : RelId). r.0) o ≡ number_named name seen → seen ≡ rels → IfSome o (λ rel. rel.0 < length rels)
within_if None name seen rels is same = tt
within_if (Some rel) name seen rels is same = named_within name rels rel.0 (ap (number_named name) (sym same) ∙ sym is)

-- one number has one relation
pub one_number : (name : List ℕ) (rels : List RelDecl) (a b : ℕ) → number_named name rels ≡ Some a → number_named name rels ≡ Some b → a ≡ b
one_number name rels a b first second = same_Some a b (sym first ∙ second)

pub schema_found : (rels : List RelDecl) (r : ℕ) (d : RelDecl) → slice_get rels r ≡ Some d → d.schema ≡ schema_of rels r
schema_found [] r d h = absurd (none-some d h)
schema_found (e ∷ rels) zero d h = ap (λ (x : RelDecl). x.schema) (sym (same_Some e d h))
schema_found (e ∷ rels) (suc r) d h = schema_found rels r d h

pub rows_found : (s : State) (r : ℕ) (rows : List Row) → slice_get s r ≡ Some rows → rows_at s r ≡ rows
rows_found [] r rows h = absurd (none-some rows h)
rows_found (xs ∷ s) zero rows h = same_Some xs rows h
rows_found (xs ∷ s) (suc r) rows h = rows_found s r rows h

-- the rows of a relation are of its schema
pub rows_are : (rels : List RelDecl) (s : State) (r : ℕ) (rows : List Row) → IsState rels s → slice_get s r ≡ Some rows → All (IsRow (schema_of rels r)) rows
rows_are rels [] r rows valid h = absurd (none-some rows h)
rows_are [] (xs ∷ s) r rows valid h = absurd valid
rows_are (d ∷ rels) (xs ∷ s) zero rows valid h = subst (All (IsRow d.schema)) (same_Some xs rows h) valid.0.1
rows_are (d ∷ rels) (xs ∷ s) (suc r) rows valid h = rows_are rels s r rows valid.1 h

-- two ways to say what commits do to a state
same_after : (s : State) (ds : List Delta) → seen_after s ds ≡ after_all s ds
same_after s [] = refl
same_after s (d ∷ ds) = same_after (apply_of s d) ds

-- the rows that are seen behind deltas are those behind the commits, where they are these
pub seen_over : (base from : Stored) (commits given : List Delta) (r : ℕ) (rows : List Row) → slice_get (seen_after from.state given) r ≡ Some rows → from ≡ base → given ≡ commits → slice_get (after_all base.state commits) r ≡ Some rows
seen_over base from commits given r rows seen same also =
    subst (λ (s : State). slice_get s r ≡ Some rows) (same_after base.state commits)
    (subst (λ (b : Stored). slice_get (seen_after b.state commits) r ≡ Some rows) same
    (subst (λ (ds : List Delta). slice_get (seen_after from.state ds) r ≡ Some rows) also seen))
