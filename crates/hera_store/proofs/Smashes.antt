-- The commits of a journal, as one.
use Rattle.std.proofs.Common.{◌≡◌, inl, inr, ℕ, List, [], ◌∷◌, map, refl, sym, ap, subst, ◌∙◌}
use Rattle.std.specs.Prelude.{All}
use Rattle.std.proofs.lemmas.List.Elements.{All-nil, All-cons, All-head, All-tail}
use Rattle.hera_meaning.specs.Commits.{after_all, IsCommitOf, IsSmashOf}
use Rattle.hera_meaning.specs.declared.schemas.RelDecl.{RelDecl}
use Rattle.hera_meaning.specs.Deltas.{Atom, Delta, State, atoms}
use Rattle.rel_format.specs.Journal.{IsRecordOf}
use Rattle.rel_format.specs.Pages.{Format}
use Rattle.rel_format.specs.Versions.{format_of, version_in}
use Rattle.rel_pages.specs.Stored.{Stored}
use Rattle.rel_pages.specs.Halves.{IsPages, IsDamagedAt}
use Rattle.commit_journal.specs.Halves.{HasPages, IsHalfTo}
use Rattle.commit_journal.specs.Places.{IsJournal}
use Rattle.commit_journal.proofs.Halves.{half_read}
use Rattle.commit_journal.proofs.Wholes.{pages_damaged}
use Rattle.hera_store.specs.Databases.{IsDamagedHalf}
use Rattle.hera_store.specs.Standing.{AreAsGood}

pub as_good_none : (rels : List RelDecl) (deltas commits : List Delta) → deltas ≡ [] → commits ≡ [] → AreAsGood rels deltas commits
as_good_none rels deltas commits none empty = record {
  proper = subst (All (IsCommitOf rels)) (sym empty) (All-nil (IsCommitOf rels));
  same = λ s valid. ap (after_all s) (empty ∙ sym none);
}

pub as_good_one : (rels : List RelDecl) (deltas commits : List Delta) (all : Delta) → IsSmashOf rels deltas all → commits ≡ all ∷ [] → AreAsGood rels deltas commits
as_good_one rels deltas commits all one is = record {
  proper = subst (All (IsCommitOf rels)) (sym is) (All-cons (IsCommitOf rels) all [] one.proper (All-nil (IsCommitOf rels)));
  same = λ s valid. ap (after_all s) is ∙ one.same s valid;
}

-- the deltas of a journal's records are commits
pub records_are_commits : (rels : List RelDecl) (records : List (List Atom)) → All (IsRecordOf rels) records → All (IsCommitOf rels) (map atoms records)
records_are_commits rels [] all = All-nil (IsCommitOf rels)
records_are_commits rels (xs ∷ records) all =
    let one = All-head (IsRecordOf rels) xs records all in
    All-cons (IsCommitOf rels) (atoms xs) (map atoms records) (record { proper = refl; known = one.known }) (records_are_commits rels records (All-tail (IsRecordOf rels) xs records all))

-- ---- pages

pub pages_are : (bytes : List ℕ) (base : Stored) → IsPages bytes base → HasPages (format_of base.version) bytes base.catalogue base.state base.journal
pages_are bytes base pages = record {
  short = pages.short;
  catalogue = pages.catalogue;
  valid = pages.state;
  fit = pages.fit;
  within = pages.within;
  printed = pages.printed;
  ends = pages.ends;
}

pub half_is_damaged : (bytes : List ℕ) (at : ℕ) → IsDamagedAt bytes at → IsDamagedHalf bytes at
half_is_damaged bytes at (inl long) = inl long
half_is_damaged bytes at (inr damage) = inr (damage.0, pages_damaged (format_of (version_in bytes)) bytes at damage.1.stops)

-- ---- the journal

all_commits : (rels : List RelDecl) (bytes : List ℕ) (at end : ℕ) (deltas : List Delta) → IsJournal rels bytes at deltas end → All (IsCommitOf rels) deltas
all_commits rels bytes at end deltas journal = subst (All (IsCommitOf rels)) (sym journal.told) (records_are_commits rels journal.records journal.valid)

module _ (f : Format) (rels : List RelDecl) (bytes : List ℕ) (at end : ℕ) (deltas commits : List Delta) (journal : IsJournal rels bytes at deltas end) (as_good : All (IsCommitOf rels) deltas → AreAsGood rels deltas commits) where
  good : AreAsGood rels deltas commits
  good = as_good (all_commits rels bytes at end deltas journal)

  pub journal_proper : All (IsCommitOf rels) commits
  journal_proper = good.proper

  pub journal_held : (state : State) → HasPages f bytes rels state at → IsHalfTo f bytes rels (after_all state commits) end
  journal_held state pages = subst (λ (s : State). IsHalfTo f bytes rels s end) (sym (good.same state pages.valid)) (half_read f bytes rels state at deltas end pages journal)
