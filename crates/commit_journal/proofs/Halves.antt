-- A half after its journal was scanned, and after a record was sealed.
use Rattle.std.proofs.Common.{◌≡◌, ◌≤◌, ◌<◌, ◌⊎◌, inl, inr, ℕ, ◌+◌, ◌-◌, List, [], ◌∷◌, ◌++◌, length, take, drop, map, get_or, refl, sym, ap, ◌∙◌, append_assoc, arith}
use Rattle.std.specs.Prelude.{false}
use Rattle.std.specs.List.{flat_map}
use Rattle.std.proofs.lemmas.List.{length-append, length-take, take_at, drop_at, get_or-append_right}
use Rattle.std.proofs.lemmas.List.Elements.{All-push}
use Rattle.hera_meaning.specs.Commits.{after_all}
use Rattle.hera_meaning.specs.declared.schemas.RelDecl.{RelDecl}
use Rattle.hera_meaning.specs.Deltas.{State, Atom, Delta, fail, atoms, apply_of, is_fail, IsDelta, IsDeltaOf}
use Rattle.delta_atoms.specs.Atoms.{atoms_in}
use Rattle.rel_format.specs.Pages.{Format, pages_of}
use Rattle.rel_format.specs.Journal.{record_of, sealed, IsRecordOf, IsHalf, half_limit}
use Rattle.rel_format.proofs.Printed.{one_more}
use Rattle.hera_volume.specs.Disk.{Disk, IsSettled}
use Rattle.commit_journal.specs.Gate.{IsWithout, IsWith, IsEither, IsReady}
use Rattle.commit_journal.specs.Prepare.{need_of}
use Rattle.commit_journal.specs.Places.{IsJournal, Stops}
use Rattle.commit_journal.specs.Halves.{HasPages, IsHalfTo}
use Rattle.commit_journal.proofs.Once.{printed_whole}
use Rattle.commit_journal.proofs.Records.{few_atoms, length_record}

-- ---- a journal behind its pages

pub half_read : (f : Format) (bytes : List ℕ) (rels : List RelDecl) (state : State) (at : ℕ) (deltas : List Delta) (end : ℕ) → HasPages f bytes rels state at → IsJournal rels bytes at deltas end → IsHalfTo f bytes rels (after_all state deltas) end
half_read f bytes rels state at deltas end pages journal =
    let size = ap (λ (l : List ℕ). length l) pages.printed in
    let front = pages_of f rels state in
    let middle = flat_map sealed journal.records in
    record {
      half = record {
        short = pages.short;
        catalogue = pages.catalogue;
        paged = state;
        valid = pages.valid;
        fit = pages.fit;
        deltas = journal.records;
        records = journal.valid;
        gate = journal.gate;
        closed = journal.closed;
        rest = drop (end + 1) bytes;
        printed = journal.printed ∙ ap (λ (l : List ℕ). l ++ middle ++ journal.gate ∷ drop (end + 1) bytes) pages.printed;
        behind = ap (after_all state) journal.told;
      };
      place = omega (arith, journal.place, size, pages.within, length-take at bytes, length-append front middle);
    }

-- the journal of a half stands behind its pages, and is not damaged
pub journal_undamaged : (f : Format) (bytes : List ℕ) (rels : List RelDecl) (state : State) (at place : ℕ) (h : IsHalf f bytes rels state) → length (pages_of f rels h.paged) ≡ at → Stops rels bytes at place → ⊥
journal_undamaged f bytes rels state at place h size =
    let journal = flat_map sealed h.deltas ++ h.gate ∷ h.rest in
    let behind : drop at bytes ≡ journal = ap (λ (l : List ℕ). drop at l) (h.printed ∙ append_assoc (pages_of f rels h.paged) (flat_map sealed h.deltas) (h.gate ∷ h.rest)) ∙ drop_at (pages_of f rels h.paged) journal at size in
    printed_whole rels (omega (arith, h.catalogue.few)) bytes at h.deltas h.gate h.rest h.records h.closed behind place

-- ---- a record behind the last gate

-- what stands before the last gate
front_of : (f : Format) (bytes : List ℕ) (rels : List RelDecl) (state : State) (end : ℕ) (h : IsHalfTo f bytes rels state end) → take end bytes ≡ pages_of f rels h.half.paged ++ flat_map sealed h.half.deltas
front_of f bytes rels state end h =
    let front = pages_of f rels h.half.paged ++ flat_map sealed h.half.deltas in
    ap (λ (l : List ℕ). take end l) h.half.printed ∙ take_at front (h.half.gate ∷ h.half.rest) end (sym h.place)

-- a torn body behind a closed gate leaves the half as it was
pub half_without : (f : Format) (old new : List ℕ) (rels : List RelDecl) (state : State) (end : ℕ) → IsHalfTo f old rels state end → IsWithout (take end old) new → length new ≤ half_limit → IsHalfTo f new rels state end
half_without f old new rels state end h without short = record {
  half = record {
    short = short;
    catalogue = h.half.catalogue;
    paged = h.half.paged;
    valid = h.half.valid;
    fit = h.half.fit;
    deltas = h.half.deltas;
    records = h.half.records;
    gate = without.gate;
    closed = without.shut;
    rest = without.rest;
    printed = without.is ∙ ap (λ (l : List ℕ). l ++ (without.gate ∷ without.rest)) (front_of f old rels state end h);
    behind = h.half.behind;
  };
  place = h.place;
}

state_push : (s : State) (records : List (List Atom)) (xs : List Atom) → apply_of (after_all s (map atoms records)) (atoms xs) ≡ after_all s (map atoms (records ++ xs ∷ []))
state_push s [] xs = refl
state_push s (r ∷ records) xs = state_push (apply_of s (atoms r)) records xs

regroup : (a b body rest : List ℕ) → (a ++ b) ++ (1 ∷ (body ++ (0 ∷ rest))) ≡ (a ++ (b ++ (1 ∷ body))) ++ (0 ∷ rest)
regroup a b body rest = simp append_assoc

-- a record sealed behind the last gate makes the half with its delta
pub half_with : (f : Format) (old new : List ℕ) (rels : List RelDecl) (state : State) (end : ℕ) (xs : List Atom) → IsHalfTo f old rels state end → IsRecordOf rels xs → IsWith (take end old) (record_of xs) new → length new ≤ half_limit →
    IsHalfTo f new rels (apply_of state (atoms xs)) (end + length (record_of xs) + 1)
half_with f old new rels state end xs h valid sealed_in short =
    let front = pages_of f rels h.half.paged in
    let middle = flat_map sealed h.half.deltas in
    let more = one_more sealed h.half.deltas xs in
    record {
      half = record {
        short = short;
        catalogue = h.half.catalogue;
        paged = h.half.paged;
        valid = h.half.valid;
        fit = h.half.fit;
        deltas = h.half.deltas ++ xs ∷ [];
        records = All-push (IsRecordOf rels) h.half.deltas xs h.half.records valid;
        gate = 0;
        closed = λ (e : 0 ≡ 1). absurd (omega (arith, e));
        rest = sealed_in.rest;
        printed = sealed_in.is ∙ ap (λ (l : List ℕ). l ++ (1 ∷ (record_of xs ++ (0 ∷ sealed_in.rest)))) (front_of f old rels state end h)
            ∙ regroup front middle (record_of xs) sealed_in.rest ∙ ap (λ (l : List ℕ). (front ++ l) ++ (0 ∷ sealed_in.rest)) (sym more);
        behind = ap (λ (s : State). apply_of s (atoms xs)) h.half.behind ∙ state_push h.half.paged h.half.deltas xs;
      };
      place =
          let longer = ap (λ (l : List ℕ). length l) more in
          omega (arith, h.place, longer, length-append front middle, length-append front (flat_map sealed (h.half.deltas ++ xs ∷ [])), length-append middle (sealed xs));
    }

-- the half is within the limit in each outcome of a record that is
pub half_either : (f : Format) (old new : List ℕ) (rels : List RelDecl) (state : State) (end : ℕ) (xs : List Atom) → IsHalfTo f old rels state end → IsRecordOf rels xs → IsEither (take end old) (record_of xs) old new → need_of xs end ≤ half_limit →
    IsHalfTo f new rels state end ⊎ IsHalfTo f new rels (apply_of state (atoms xs)) (end + length (record_of xs) + 1)
half_either f old new rels state end xs h valid either fits =
    let short : length new ≤ half_limit = omega (arith, either.no_longer, h.half.short, fits, length-take end old) in
    elim either.journal [
      | inl without ↦ inl (half_without f old new rels state end h without short)
      | inr sealed_in ↦ inr (half_with f old new rels state end xs h valid sealed_in short)
    ]

-- ---- what sealing asks for

pub half_ready : (f : Format) (d : Disk) (rels : List RelDecl) (state : State) (end : ℕ) → IsHalfTo f d.bytes rels state end → IsSettled d → IsReady d end
half_ready f d rels state end h settled =
    let front = pages_of f rels h.half.paged ++ flat_map sealed h.half.deltas in
    let size = ap (λ (l : List ℕ). length l) h.half.printed in
    let here : end - length front ≡ 0 = omega (arith, h.place) in
    let gate : get_or d.bytes end 0 ≡ h.half.gate = ap (λ (l : List ℕ). get_or l end 0) h.half.printed ∙ get_or-append_right front (h.half.gate ∷ h.half.rest) (length front) end 0 refl (omega (arith, h.place)) ∙ ap (λ (i : ℕ). get_or (h.half.gate ∷ h.half.rest) i 0) here in
    record {
      settled = settled;
      within = omega (arith, h.place, size, length-append front (h.half.gate ∷ h.half.rest));
      shut = λ e. h.half.closed (sym gate ∙ e);
    }

-- a delta whose record is within a limit has a record
pub has_record : (rels : List RelDecl) (d : Delta) (end : ℕ) → is_fail d ≡ false → IsDelta d → IsDeltaOf rels d → need_of (atoms_in d) end ≤ half_limit → IsRecordOf rels (atoms_in d)
has_record rels fail end k valid known fits = cc
has_record rels (atoms xs) end k valid known fits = record { few = omega (arith, fits, few_atoms xs, length_record xs); delta = valid; known = known }
