-- Deltas that do what the commits of a store do, as commits of its catalogue.
use Rattle.std.proofs.Common.{◌≡◌, ℕ, ◌+◌, ◌<◌, Bool, true, false, List, [], ◌∷◌, ◌++◌, take, length, refl, sym, ap, ◌∙◌, subst}
use Rattle.std.specs.Prelude.{All, get_or, slice_index_or, nat_lt}
use Rattle.std.specs.List.{list_all}
use Rattle.std.proofs.lemmas.Bool.{and_parts, ltb-true}
use Rattle.std.proofs.lemmas.List.{take_more}
use Rattle.std.proofs.lemmas.List.Elements.{All-push}
use Rattle.std.proofs.lemmas.List.Sums.{AllPass-from_list_all}
use Rattle.hera_meaning.specs.declared.schemas.RelDecl.{RelDecl}
use Rattle.hera_meaning.specs.Commits.{IsCommitOf}
use Rattle.hera_meaning.specs.Deltas.{Atom, Delta, fail, atoms, State, apply_of, is_fail, schema_of, IsAtomOf, IsDeltaOf}
use Rattle.hera_meaning.specs.Fits.{is_atom_of, is_delta_of}
use Rattle.hera_meaning.specs.Rows.{is_row}
use Rattle.hera_meaning.proofs.RowsRead.{is_row-true}
use Rattle.hera_machine.specs.Over.{state_over}
use Rattle.hera_machine.proofs.Along.{state_over-push}

atom_known : (rels : List RelDecl) (a : Atom) → is_atom_of rels a ≡ true → IsAtomOf rels a
atom_known rels a h =
    let parts = and_parts (nat_lt a.rel (length rels)) (is_row (schema_of rels a.rel) a.row) h in
    record { known = ltb-true a.rel (length rels) parts.0; row = is_row-true (schema_of rels a.rel) a.row parts.1 }

delta_known : (rels : List RelDecl) (d : Delta) → is_delta_of rels d ≡ true → IsDeltaOf rels d
delta_known rels fail h = tt
delta_known rels (atoms xs) h = let each = AllPass-from_list_all (is_atom_of rels) xs h in λ k d within. atom_known rels (slice_index_or xs k d) (each k d within)

known_at : (rels : List RelDecl) (ds : List Delta) (k : ℕ) (x : Delta) → k < length ds → x ≡ get_or ds k x → list_all (is_delta_of rels) ds ≡ true → is_delta_of rels x ≡ true
known_at rels ds k x within at h = ap (is_delta_of rels) at ∙ AllPass-from_list_all (is_delta_of rels) ds h k x within

-- some of the first deltas do what all of them do, and are commits where all are of the relations
pub record AreCopied (deltas : List Delta) (k : ℕ) (copies : List Delta) : Type 0 where
  pub does : (s : State) → state_over s copies ≡ state_over s (take k deltas)
  pub proper : (rels : List RelDecl) → list_all (is_delta_of rels) deltas ≡ true → All (IsCommitOf rels) copies

longer : (s : State) (ds : List Delta) (k : ℕ) (x : Delta) → k < length ds → x ≡ get_or ds k x → state_over s (take (k + 1) ds) ≡ apply_of (state_over s (take k ds)) x
longer s ds k x within at = ap (state_over s) (take_more ds k x within ∙ ap (λ (y : Delta). take k ds ++ y ∷ []) (sym at)) ∙ state_over-push s (take k ds) x

copied_more : (ds : List Delta) (k : ℕ) (copies : List Delta) (x : Delta) → k < length ds → x ≡ get_or ds k x → is_fail x ≡ false → AreCopied ds k copies → AreCopied ds (k + 1) (copies ++ x ∷ [])
copied_more ds k copies x within at proper h = record {
  does = λ s. state_over-push s copies x ∙ ap (λ (t : State). apply_of t x) (h.does s) ∙ sym (longer s ds k x within at);
  proper = λ rels known. All-push (IsCommitOf rels) copies x (h.proper rels known) (record { proper = proper; known = delta_known rels x (known_at rels ds k x within at known) });
}

fails_alone : (s : State) (x : Delta) → is_fail x ≡ true → apply_of s x ≡ s
fails_alone s fail h = refl
fails_alone s (atoms xs) h = absurd (cc (h))

copied_same : (ds : List Delta) (k : ℕ) (copies : List Delta) (x : Delta) → k < length ds → x ≡ get_or ds k x → is_fail x ≡ true → AreCopied ds k copies → AreCopied ds (k + 1) copies
copied_same ds k copies x within at bad h = record {
  does = λ s. h.does s ∙ sym (longer s ds k x within at ∙ fails_alone (state_over s (take k ds)) x bad);
  proper = h.proper;
}

pub copied_next : (ds : List Delta) (k : ℕ) (copies next : List Delta) (x : Delta) → k < length ds → x ≡ get_or ds k x → (is_fail x ≡ true → next ≡ copies) → (is_fail x ≡ false → next ≡ copies ++ x ∷ []) → AreCopied ds k copies → AreCopied ds (k + 1) next
copied_next ds k copies next x within at same more h = by (is_fail x) refl
  where
    by : (b : Bool) → is_fail x ≡ b → AreCopied ds (k + 1) next
    by true e = subst (AreCopied ds (k + 1)) (sym (same e)) (copied_same ds k copies x within at e h)
    by false e = subst (AreCopied ds (k + 1)) (sym (more e)) (copied_more ds k copies x within at e h)
