-- A store of which a row breaks a guard: its line is printed alone.
use Rattle.std.proofs.Common.{ℕ, inl, inr, List, [], ◌∷◌, Result, Ok, Err, refl, sym, ap, subst, append-nil, take}
use Rattle.std.specs.Io.KnownBytes.{Appends}
use Rattle.hera_causes.specs.declared.traits.Output as output
use Rattle.hera_meaning.specs.Worlds.{Event, out}
use Rattle.hera_volume.specs.Time.{Image, IsImageAmid, LeavesOnly}
use Rattle.hera_volume.specs.declared.outside.Outside as files
use Rattle.hera_volume.proofs.Moments.{leaves-weaker}
use Rattle.hera_store.specs.Standing.{Standing, database_of}
use Rattle.hera_store.proofs.Commits.{stands_holds}
use Rattle.hera_outcome.specs.declared.answer.Stop.{Stop}
use Rattle.hera_outcome.specs.Answers.{number_of_stop, IsFault}
use Rattle.hera_outcome.specs.Cut.{IsCut, HoldsWith}
use Rattle.hera_outcome.specs.Outcomes.{Outcome, broken, carried}
use Rattle.hera_outcome.specs.Passages.{passage, Passage, ReadsAmong}
use Rattle.hera_outcome.specs.Told.{Says, IsToldBehind}
use Rattle.hera_run.specs.Keeping.{finds_settled}
use Rattle.hera_run.specs.Opening.{IsOpen}
use Rattle.hera_run.proofs.Images.{cut-said, stands-kept}

module _ {D : Type 0} (q : output.Ghosts D) (w : files.Ghosts D) (a b : D) (s : Standing) (line : List ℕ) (opens : IsOpen s (passage q w a a)) where
  abbrev v : Passage
  v = passage q w a b

  abbrev events : List Event
  events = out line ∷ []

  abbrev pub ours : Outcome
  ours = carried (database_of s) events broken

  said_cut : (t : w.told) (c : Image) → IsImageAmid (w.disk a) (q.emitted a) line c → IsCut events (database_of s) (q.emitted a) c
  said_cut t c image = cut-said (HoldsWith (database_of s)) (w.disk a) (database_of s).state (λ files left. finds_settled (w.disk a) s files (opens.stands t) left) (q.emitted a) c line image

  pub moments_said : {T : Type 0} (r : Result T Stop) → Says line r v → w.told → LeavesOnly w.moment w.left_since a b (IsCut events (database_of s) (q.emitted a))
  moments_said r says t = leaves-weaker w.moment w.left_since (says.moments t) (said_cut t)

  -- the line was said
  pub said_whole : {T : Type 0} (x : T) → Says {T = T} line (Ok x) v → IsToldBehind ours 11 v
  said_whole x says = record {
    ending = inl (record {
      own_status = refl;
      whole_text = subst (λ (l : List ℕ). Appends (q.emitted a) (q.emitted b) l) (sym (append-nil line)) says.whole.0;
      files = λ t. let still = stands-kept (w.disk a) (w.disk b) s (says.keeps.files t) (opens.stands t) in record { settled = still.settled; holds = stands_holds (w.disk b) s still };
      output = says.whole.1;
      device = says.keeps.device;
    });
    moments = λ t. moments_said (Ok x) says t;
  }

  -- the output failed behind a prefix of it
  pub said_part : {T : Type 0} (stop : Stop) → (w.told → LeavesOnly w.moment w.left_since a b (IsCut events (database_of s) (q.emitted a)) → ReadsAmong (IsCut events (database_of s) (q.emitted a)) v) → Says {T = T} line (Err stop) v → IsToldBehind ours (number_of_stop stop) v
  said_part {T} stop reads says = record {
    ending = inr (record {
      cause = inr (inl (ap number_of_stop says.fault, says.part.1, says.keeps.device));
      front = (let (n, said) = says.part.0 in (n, subst (λ (l : List ℕ). Appends (q.emitted a) (q.emitted b) (take n l)) (sym (append-nil line)) said));
      files = λ t. reads t (moments_said {T = T} (Err stop) says t);
    });
    moments = λ t. moments_said {T = T} (Err stop) says t;
  }

  pub said_fault : {T : Type 0} (stop : Stop) → Says {T = T} line (Err stop) v → IsFault stop
  said_fault stop says = subst IsFault (sym says.fault) tt
