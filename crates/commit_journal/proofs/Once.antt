-- A walk has one end, so a journal is read in one way.
use Rattle.std.proofs.Common.{◌≡◌, ◌≢◌, ◌≤◌, ◌<◌, ℕ, zero, suc, ◌+◌, ◌-◌, List, [], ◌∷◌, ◌++◌, length, drop, map, Some, None, refl, sym, ap, ◌∙◌, arith, inl, inr}
use Rattle.std.specs.Prelude.{All}
use Rattle.std.specs.List.{flat_map}
use Rattle.std.proofs.lemmas.Bool.{both_ways, cases_order}
use Rattle.std.proofs.lemmas.Option.{none-some, same_Some}
use Rattle.hera_meaning.specs.declared.schemas.RelDecl.{RelDecl}
use Rattle.hera_meaning.specs.Deltas.{Atom, Delta, atoms}
use Rattle.rel_format.specs.Journal.{sealed, IsRecordOf}
use Rattle.rel_format.specs.Walk.{Table, forward, onward, walk_by, ReachesBy}
use Rattle.commit_journal.specs.Table.{JournalStand, at_gate, at_end, next, is_whole}
use Rattle.commit_journal.specs.Places.{Stops, IsJournal}
use Rattle.commit_journal.proofs.Complete.{journal_printed}

abbrev spot : {S : Type 0} → ℕ → S → ℕ × S
spot n t = (n, t)

-- behind its end the walk goes nowhere
ended : {S : Type 0} (next : Table S) (bytes : List ℕ) (start : ℕ × S) (k : ℕ) (s : S) (at j : ℕ) → walk_by next bytes start k ≡ Some (at, s) → next s (drop at bytes) ≡ None → walk_by next bytes start (suc (j + k)) ≡ None
ended next bytes start k s at zero e h = let same : 0 + k ≡ k = omega arith in ap (λ (m : ℕ). forward next bytes (walk_by next bytes start m)) same ∙ ap (forward next bytes) e ∙ ap (onward at) h
ended next bytes start k s at (suc j) e h = let same : suc j + k ≡ suc (j + k) = omega arith in ap (λ (m : ℕ). forward next bytes (walk_by next bytes start m)) same ∙ ap (forward next bytes) (ended next bytes start k s at j e h)

no_farther : {S : Type 0} (next : Table S) (bytes : List ℕ) (start : ℕ × S) (k j : ℕ) (s t : S) (at place : ℕ) → k < j → walk_by next bytes start k ≡ Some (at, s) → next s (drop at bytes) ≡ None → walk_by next bytes start j ≡ Some (place, t) → ⊥
no_farther next bytes start k j s t at place lt e h g =
    let same : suc ((j - (k + 1)) + k) ≡ j = omega (arith, lt) in
    none-some (place, t) (sym (ap (walk_by next bytes start) (sym same) ∙ ended next bytes start k s at (j - (k + 1)) e h) ∙ g)

one_end : {S : Type 0} (next : Table S) (bytes : List ℕ) (start : ℕ × S) (at place : ℕ) (s t : S) → ReachesBy next bytes start at s → next s (drop at bytes) ≡ None → ReachesBy next bytes start place t → next t (drop place bytes) ≡ None → spot at s ≡ spot place t
one_end next bytes start at place s t r h q g = elim (cases_order r.0 q.0) [
  | inl e ↦ same_Some (spot at s) (spot place t) (sym r.1 ∙ ap (walk_by next bytes start) e ∙ q.1)
  | inr (inl lt) ↦ absurd (no_farther next bytes start r.0 q.0 s t at place lt r.1 h q.1)
  | inr (inr gt) ↦ absurd (no_farther next bytes start q.0 r.0 t s place at gt q.1 g r.1)
]

abbrev records_at : List (List Atom) → JournalStand → List (List Atom)
records_at default (at_end records gate) = records
records_at default _ = default

module _ (rels : List RelDecl) (few : length rels ≤ 65536) (bytes : List ℕ) (start : ℕ) (records : List (List Atom)) (gate : ℕ) (rest : List ℕ) (valid : All (IsRecordOf rels) records) (shut : gate ≢ 1) (printed : drop start bytes ≡ flat_map sealed records ++ gate ∷ rest) where
  -- a printed journal is not damaged
  pub printed_whole : (at : ℕ) → Stops rels bytes start at → ⊥
  printed_whole at stops =
      let same = one_end (next rels) bytes (start, at_gate []) at (start + length (flat_map sealed records) + 1) stops.0 (at_end records gate) stops.1 stops.2 (journal_printed rels few bytes start records gate rest valid shut printed) refl in
      both_ways _ stops.3 (ap (λ (z : ℕ × JournalStand). is_whole z.1) same)

  -- and what is read of it was printed
  pub printed_once : (deltas : List Delta) (end : ℕ) → IsJournal rels bytes start deltas end → (deltas ≡ map atoms records) × (end ≡ start + length (flat_map sealed records))
  printed_once deltas end journal =
      let same = one_end (next rels) bytes (start, at_gate []) (end + 1) (start + length (flat_map sealed records) + 1) (at_end journal.records journal.gate) (at_end records gate) journal.reached refl (journal_printed rels few bytes start records gate rest valid shut printed) refl in
      let place : end + 1 ≡ start + length (flat_map sealed records) + 1 = ap (λ (z : ℕ × JournalStand). z.0) same in
      (journal.told ∙ ap (map atoms) (ap (λ (z : ℕ × JournalStand). records_at [] z.1) same), omega (arith, place))

-- a journal is read in one way
pub read_once : (rels : List RelDecl) (bytes : List ℕ) (start : ℕ) (deltas more : List Delta) (end other : ℕ) → IsJournal rels bytes start deltas end → IsJournal rels bytes start more other → (deltas ≡ more) × (end ≡ other)
read_once rels bytes start deltas more end other x y =
    let same = one_end (next rels) bytes (start, at_gate []) (end + 1) (other + 1) (at_end x.records x.gate) (at_end y.records y.gate) x.reached refl y.reached refl in
    let place : end + 1 ≡ other + 1 = ap (λ (z : ℕ × JournalStand). z.0) same in
    (x.told ∙ ap (map atoms) (ap (λ (z : ℕ × JournalStand). records_at [] z.1) same) ∙ sym y.told, omega (arith, place))

-- and what is read is not damaged
pub read_whole : (rels : List RelDecl) (bytes : List ℕ) (start : ℕ) (deltas : List Delta) (end at : ℕ) → IsJournal rels bytes start deltas end → Stops rels bytes start at → ⊥
read_whole rels bytes start deltas end at journal stops =
    let same = one_end (next rels) bytes (start, at_gate []) at (end + 1) stops.0 (at_end journal.records journal.gate) stops.1 stops.2 journal.reached refl in
    both_ways _ stops.3 (ap (λ (z : ℕ × JournalStand). is_whole z.1) same)
