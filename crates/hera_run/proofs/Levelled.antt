-- Few deltas in the place of a store's commits.
use Rattle.std.proofs.Common.{◌≡◌, true, List, [], ◌∷◌, ◌++◌, length, refl, sym, ap, ◌∙◌}
use Rattle.std.specs.Prelude.{All, slice_index_or, nat_lt}
use Rattle.std.specs.List.{list_all}
use Rattle.std.proofs.lemmas.List.Sums.{list_all-from_AllPass}
use Rattle.std.proofs.lemmas.Bool.{and_from, lt-ltb}
use Rattle.hera_meaning.specs.declared.schemas.RelDecl.{RelDecl}
use Rattle.hera_meaning.specs.Rows.{is_row}
use Rattle.hera_meaning.specs.Deltas.{Atom, Delta, fail, atoms, State, apply_of, schema_of, IsAtomOf, IsDeltaOf}
use Rattle.hera_meaning.specs.Fits.{is_atom_of, is_delta_of}
use Rattle.hera_meaning.proofs.RowsRead.{is_row-from_IsRow}
use Rattle.when_overlay.specs.Changed.{after_all}
use Rattle.rel_pages.specs.Stored.{Stored}
use Rattle.hera_meaning.specs.Commits.{after_all as after_commits, IsCommitOf}
use Rattle.hera_store.specs.Standing.{Standing}
use Rattle.hera_meaning.proofs.CommitLaws.{state_push}
use Rattle.hera_run.specs.Keeping.{IsLevelled}
use Rattle.hera_run.proofs.Images.{with_over}

-- ---- deltas of a catalogue, as a test tells

atom_known : (rels : List RelDecl) (a : Atom) → IsAtomOf rels a → is_atom_of rels a ≡ true
atom_known rels a h = and_from (nat_lt a.rel (length rels)) (is_row (schema_of rels a.rel) a.row) (lt-ltb a.rel (length rels) h.known) (is_row-from_IsRow (schema_of rels a.rel) a.row h.row)

pub delta_known : (rels : List RelDecl) (d : Delta) → IsDeltaOf rels d → is_delta_of rels d ≡ true
delta_known rels fail h = refl
delta_known rels (atoms xs) h = list_all-from_AllPass (is_atom_of rels) xs (λ k d within. atom_known rels (slice_index_or xs k d) (h k d within))

commits_known : (rels : List RelDecl) (ds : List Delta) → All (IsCommitOf rels) ds → list_all (is_delta_of rels) ds ≡ true
commits_known rels ds h = list_all-from_AllPass (is_delta_of rels) ds (λ k d within. delta_known rels (slice_index_or ds k d) (h k d within).known)

-- ---- the levels do what the commits of a store do, and are of its catalogue

pub levelled_start : (levels commits : List Delta) (s : Standing) → commits ≡ s.commits → All (IsCommitOf s.base.catalogue) s.commits
    → after_all s.base.state levels ≡ after_all s.base.state commits → (list_all (is_delta_of s.base.catalogue) commits ≡ true → list_all (is_delta_of s.base.catalogue) levels ≡ true) → IsLevelled levels s
levelled_start levels commits s given proper does known = record {
  same = does ∙ ap (after_all s.base.state) given ∙ sym (with_over s.base.state s.commits);
  of = known (ap (list_all (is_delta_of s.base.catalogue)) given ∙ commits_known s.base.catalogue s.commits proper);
}

pub levelled_more : (levels more : List Delta) (old now : Standing) (d : Delta) → now.base ≡ old.base → now.commits ≡ old.commits ++ d ∷ [] → IsLevelled levels old
    → after_all old.base.state more ≡ apply_of (after_all old.base.state levels) d → IsDeltaOf old.base.catalogue d
    → (list_all (is_delta_of old.base.catalogue) levels ≡ true → is_delta_of old.base.catalogue d ≡ true → list_all (is_delta_of old.base.catalogue) more ≡ true) → IsLevelled more now
levelled_more levels more old now d base longer h does own known = record {
  same = ap (λ (b : Stored). after_all b.state more) base ∙ does ∙ ap (λ (s : State). apply_of s d) h.same ∙ sym (state_push old.base.state old.commits d)
      ∙ sym (ap (λ (b : Stored). after_commits b.state now.commits) base ∙ ap (after_commits old.base.state) longer);
  of = ap (λ (b : Stored). list_all (is_delta_of b.catalogue) more) base ∙ known h.of (delta_known old.base.catalogue d own);
}
