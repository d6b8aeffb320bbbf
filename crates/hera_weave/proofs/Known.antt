-- Commits are deltas of a catalogue, as a test tells.
use Rattle.std.proofs.Common.{◌≡◌, ℕ, true, false, List, take, drop, length, refl, sym, subst}
use Rattle.std.specs.Prelude.{All, slice_index_or, nat_lt}
use Rattle.std.specs.List.{list_all}
use Rattle.std.proofs.lemmas.List.Sums.{list_all-from_AllPass}
use Rattle.std.proofs.lemmas.List.Elements.{All-take, All-drop}
use Rattle.std.proofs.lemmas.Bool.{and_from, lt-ltb}
use Rattle.hera_meaning.specs.declared.schemas.RelDecl.{RelDecl}
use Rattle.hera_meaning.specs.Rows.{is_row}
use Rattle.hera_meaning.specs.Deltas.{Atom, Delta, fail, atoms, is_fail, schema_of, IsAtomOf, IsDeltaOf}
use Rattle.hera_meaning.specs.Fits.{is_atom_of, is_delta_of}
use Rattle.hera_meaning.proofs.RowsRead.{is_row-from_IsRow}
use Rattle.hera_meaning.specs.Commits.{IsCommitOf}

atom_known : (rels : List RelDecl) (a : Atom) → IsAtomOf rels a → is_atom_of rels a ≡ true
atom_known rels a h = and_from (nat_lt a.rel (length rels)) (is_row (schema_of rels a.rel) a.row) (lt-ltb a.rel (length rels) h.known) (is_row-from_IsRow (schema_of rels a.rel) a.row h.row)

delta_known : (rels : List RelDecl) (d : Delta) → IsDeltaOf rels d → is_delta_of rels d ≡ true
delta_known rels fail h = refl
delta_known rels (atoms xs) h = list_all-from_AllPass (is_atom_of rels) xs (λ k d within. atom_known rels (slice_index_or xs k d) (h k d within))

commits_known : (rels : List RelDecl) (ds : List Delta) → All (IsCommitOf rels) ds → list_all (is_delta_of rels) ds ≡ true
commits_known rels ds h = list_all-from_AllPass (is_delta_of rels) ds (λ k d within. delta_known rels (slice_index_or ds k d) (h k d within).known)

pub front_known : (rels : List RelDecl) (n : ℕ) (ds front : List Delta) → All (IsCommitOf rels) ds → front ≡ take n ds → list_all (is_delta_of rels) front ≡ true
front_known rels n ds front h is = commits_known rels front (subst (λ (l : List Delta). All (IsCommitOf rels) l) (sym is) (All-take (IsCommitOf rels) n ds h))

pub rest_proper : (rels : List RelDecl) (n : ℕ) (ds rest : List Delta) → All (IsCommitOf rels) ds → rest ≡ drop n ds → All (λ d. is_fail d ≡ false) rest
rest_proper rels n ds rest h is = subst (λ (l : List Delta). All (λ d. is_fail d ≡ false) l) (sym is) (λ k d within. (All-drop (IsCommitOf rels) n ds h k d within).proper)
