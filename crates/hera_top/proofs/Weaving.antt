-- Scripts read from sources, one after another.
use Rattle.std.proofs.Common.{◌≡◌, ◌<◌, ◌≤◌, ◌+◌, arith, ◌∙◌, ℕ, zero, suc, inl, inr, ⊎_elim, ◌⊎◌, List, [], ◌∷◌, ◌++◌, length, map, Option, Some, Result, Err, refl, sym, ap, subst}
use Rattle.std.specs.Prelude.{get_or, slice_set}
use Rattle.hera_causes.specs.declared.traits.Output as output
use Rattle.hera_volume.specs.declared.outside.Outside as files_of
use Rattle.hera_meaning.specs.Hosts.{Hosts}
use Rattle.hera_meaning.specs.Sound.{Sound}
use Rattle.hera_meaning.specs.Trees.{Program_tree}
use Rattle.hera_meaning.specs.declared.trees.Program.{Program}
use Rattle.hera_meaning.specs.Plain.{program_of}
use Rattle.hera_host.specs.Tables.{Host, specs_of}
use Rattle.hera_outcome.specs.declared.answer.Stop.{Stop}
use Rattle.hera_outcome.specs.declared.answer.Stop.TheVariants.{Refused, Device, Output, Memory, Full}
use Rattle.hera_outcome.specs.declared.refusal.Refusal.{Refusal}
use Rattle.hera_outcome.specs.declared.refusal.Refusal.TheVariants.{Unread}
use Rattle.hera_outcome.specs.declared.answer.Ending.{Ending}
use Rattle.hera_outcome.specs.Passages.{Passage, passage, start_of}
use Rattle.hera_outcome.specs.Told.{Answered}
use Rattle.hera_outcome.proofs.Passing.{answered_weaker, pending_none, given_up_none}
use Rattle.hera_woven.specs.Binding.{AreSound}
use Rattle.hera_woven.specs.Weaving.{WeavesTo}
use Rattle.hera_words.specs.declared.command.Command.{Command}
use Rattle.hera_words.specs.declared.command.Command.TheVariants.{Weave}
use Rattle.hera_words.specs.Words.{form_of, files_in}
use Rattle.hera_top.specs.Commands.{are_refused, are_woven, IsAnswered}
use Rattle.hera_top.specs.Scripts.{IsAccepting, AreAccepting, none_left, one_more, AreRefused, fails_first, refuses_first, refuses_later}
use Rattle.hera_top.specs.Sources.{Seen, seen, seen_of, AreStill, AreLater, OneFailed, this_failed, later_failed}
use Rattle.hera_top.specs.Stopping.{IsStopped, fails, refuses, lacks_memory, AreStopped}
use Rattle.hera_top.proofs.Answering.{still_itself, later_itself}

-- the first i sources gave scripts with these sound programs, and the others are as they were
abbrev pub AreReadTo : (hosts : List Host) (i : ℕ) (before now : List Seen) → List Program_tree → Type 0
AreReadTo hosts zero before now ps = (now ≡ before) × (ps ≡ [])
AreReadTo hosts (suc i) [] now ps = ⊥
AreReadTo hosts (suc i) (b ∷ before) [] ps = ⊥
AreReadTo hosts (suc i) (b ∷ before) (n ∷ now) [] = ⊥
AreReadTo hosts (suc i) (b ∷ before) (n ∷ now) (p ∷ ps) = IsAccepting hosts b n p × AreReadTo hosts i before now ps

module _ (hosts : List Host) where
  read_next : (i : ℕ) (before now : List Seen) (ps : List Program_tree) (b n : Seen) (p : Program_tree) → AreReadTo hosts i before now ps → i < length now → b ≡ get_or now i b → IsAccepting hosts b n p → AreReadTo hosts (suc i) before (slice_set now i n) (ps ++ p ∷ [])
  read_next zero before [] ps b n p (same, none) here is one = absurd (omega (arith, here))
  read_next zero before (m ∷ now) ps b n p (same, none) here is one =
      subst (λ (l : List Seen). AreReadTo hosts (suc zero) l (n ∷ now) (ps ++ p ∷ [])) same
      (subst (λ (l : List Program_tree). AreReadTo hosts (suc zero) (m ∷ now) (n ∷ now) (l ++ p ∷ [])) (sym none) (subst (λ (x : Seen). IsAccepting hosts x n p) is one, (refl, refl)))
  read_next (suc i) [] now ps b n p read here is one = absurd read
  read_next (suc i) (x ∷ before) [] ps b n p read here is one = absurd read
  read_next (suc i) (x ∷ before) (m ∷ now) [] b n p read here is one = absurd read
  read_next (suc i) (x ∷ before) (m ∷ now) (q ∷ ps) b n p (first, read) here is one = (first, read_next i before now ps b n p read (omega (arith, here)) is one)

  read_to_end : (i : ℕ) (before now : List Seen) (ps : List Program_tree) → AreReadTo hosts i before now ps → length now ≤ i → AreAccepting hosts before now ps
  read_to_end zero before [] ps (same, none) end = subst (λ (l : List Seen). AreAccepting hosts l [] ps) same (subst (AreAccepting hosts [] []) (sym none) none_left)
  read_to_end zero before (m ∷ now) ps (same, none) end = absurd (omega (arith, end))
  read_to_end (suc i) [] now ps read end = absurd read
  read_to_end (suc i) (x ∷ before) [] ps read end = absurd read
  read_to_end (suc i) (x ∷ before) (m ∷ now) [] read end = absurd read
  read_to_end (suc i) (x ∷ before) (m ∷ now) (q ∷ ps) (first, read) end = one_more first (read_to_end i before now ps read (omega (arith, end)))

  refused_here : (b n : Seen) (later : List Seen) (stop : Stop) → IsStopped hosts b n stop → AreStopped hosts (b ∷ later) (n ∷ later) stop
  refused_here b n later _ (fails is) = fails_first is
  refused_here b n later _ (refuses script read is) = refuses_first script read is
  refused_here b n later _ (lacks_memory is) = (is, still_itself later)

  stopped_later : (b n : Seen) (p : Program_tree) (before now : List Seen) (stop : Stop) → IsAccepting hosts b n p → AreStopped hosts before now stop → AreStopped hosts (b ∷ before) (n ∷ now) stop
  stopped_later b n p before now (Refused refusal) first is = refuses_later first is
  stopped_later b n p before now Device first is = is
  stopped_later b n p before now Output first is = is
  stopped_later b n p before now Memory first is = (first.read.still, is)
  stopped_later b n p before now Full first is = is

  stopped_at : (i : ℕ) (before now : List Seen) (ps : List Program_tree) (b n : Seen) (stop : Stop) → AreReadTo hosts i before now ps → i < length now → b ≡ get_or now i b → IsStopped hosts b n stop → AreStopped hosts before (slice_set now i n) stop
  stopped_at zero before [] ps b n stop (same, none) here is one = absurd (omega (arith, here))
  stopped_at zero before (m ∷ now) ps b n stop (same, none) here is one =
      subst (λ (l : List Seen). AreStopped hosts l (n ∷ now) stop) same (refused_here m n now stop (subst (λ (x : Seen). IsStopped hosts x n stop) is one))
  stopped_at (suc i) [] now ps b n stop read here is one = absurd read
  stopped_at (suc i) (x ∷ before) [] ps b n stop read here is one = absurd read
  stopped_at (suc i) (x ∷ before) (m ∷ now) [] b n stop read here is one = absurd read
  stopped_at (suc i) (x ∷ before) (m ∷ now) (q ∷ ps) b n stop (first, read) here is one = stopped_later x m q before (slice_set now i n) stop first (stopped_at i before now ps b n stop read (omega (arith, here)) is one)

  still_to : (i : ℕ) (before now : List Seen) (ps : List Program_tree) → AreReadTo hosts i before now ps → AreStill before now
  still_to zero before now ps (same, none) = subst (λ (l : List Seen). AreStill l now) same (still_itself now)
  still_to (suc i) [] now ps read = absurd read
  still_to (suc i) (x ∷ before) [] ps read = absurd read
  still_to (suc i) (x ∷ before) (m ∷ now) [] read = absurd read
  still_to (suc i) (x ∷ before) (m ∷ now) (q ∷ ps) (first, read) = (first.read.still, still_to i before now ps read)

  later_next : (i : ℕ) (before now : List Seen) (ps : List Program_tree) (b n : Seen) → AreReadTo hosts i before now ps → i < length now → b ≡ get_or now i b → b.faults ≤ n.faults → AreLater before (slice_set now i n)
  later_next zero before [] ps b n (same, none) here is later = absurd (omega (arith, here))
  later_next zero before (m ∷ now) ps b n (same, none) here is later = subst (λ (l : List Seen). AreLater l (n ∷ now)) same (subst (λ (x : Seen). x.faults ≤ n.faults) is later, later_itself now)
  later_next (suc i) [] now ps b n read here is later = absurd read
  later_next (suc i) (x ∷ before) [] ps b n read here is later = absurd read
  later_next (suc i) (x ∷ before) (m ∷ now) [] b n read here is later = absurd read
  later_next (suc i) (x ∷ before) (m ∷ now) (q ∷ ps) b n (first, read) here is later = ((let same = first.read.still in omega (arith, same)), later_next i before now ps b n read (omega (arith, here)) is later)

later_still : (before now : List Seen) → AreStill before now → AreLater before now
later_still [] [] still = tt
later_still [] (n ∷ now) still = still
later_still (b ∷ before) [] still = still
later_still (b ∷ before) (n ∷ now) (first, more) = ((let is = first in omega (arith, is)), later_still before now more)

-- ---- sources

seen_at : {S : Type 0} (left : S → Option (List ℕ)) (faults : S → ℕ) (items : List S) (i : ℕ) (source : S) → i < length items → source ≡ get_or items i source → seen left faults source ≡ get_or (seen_of left faults items) i (seen left faults source)
seen_at left faults [] i source here is = absurd (omega (arith, here))
seen_at {S} left faults (x ∷ items) zero source here is = ap (λ (y : S). seen left faults y) is
seen_at left faults (x ∷ items) (suc i) source here is = seen_at left faults items i source (omega (arith, here)) is

seen_put : {S : Type 0} (left : S → Option (List ℕ)) (faults : S → ℕ) (items : List S) (i : ℕ) (source : S) → seen_of left faults (slice_set items i source) ≡ slice_set (seen_of left faults items) i (seen left faults source)
seen_put left faults [] i source = refl
seen_put left faults (x ∷ items) zero source = refl
seen_put left faults (x ∷ items) (suc i) source = ap (λ (l : List Seen). seen left faults x ∷ l) (seen_put left faults items i source)

seen_long : {S : Type 0} (left : S → Option (List ℕ)) (faults : S → ℕ) (items : List S) → length (seen_of left faults items) ≡ length items
seen_long left faults [] = refl
seen_long left faults (x ∷ items) = ap suc (seen_long left faults items)

programs_push : (programs : List Program) (p : Program) → map program_of (programs ++ p ∷ []) ≡ map program_of programs ++ program_of p ∷ []
programs_push [] p = refl
programs_push (q ∷ programs) p = ap (λ (l : List Program_tree). program_of q ∷ l) (programs_push programs p)

sound_push : (hosts : Hosts) (ps : List Program_tree) (p : Program_tree) → AreSound hosts ps → Sound p hosts → AreSound hosts (ps ++ p ∷ [])
sound_push hosts [] p h is = (is, tt)
sound_push hosts (x ∷ ps) p h is = (h.0, sound_push hosts ps p h.1 is)

module _ {S : Type 0} (left : S → Option (List ℕ)) (faults : S → ℕ) (hosts : List Host) (first : List S) where
  -- what a loop over them knows
  pub record IsOnTheWay (i : ℕ) (items : List S) (programs : List Program) : Type 0 where
    pub long : length items ≡ length first
    pub read : AreReadTo hosts i (seen_of left faults first) (seen_of left faults items) (map program_of programs)
    pub sound : AreSound (specs_of hosts) (map program_of programs)

  pub at_first : IsOnTheWay 0 first []
  at_first = record { long = refl; read = (refl, refl); sound = tt }

  set_long : (items : List S) (i : ℕ) (x : S) → length (slice_set items i x) ≡ length items
  set_long [] i x = refl
  set_long (y ∷ items) zero x = refl
  set_long (y ∷ items) (suc i) x = ap suc (set_long items i x)

  pub one_on : (i : ℕ) (items : List S) (programs all : List Program) (old new : S) (p : Program) → IsOnTheWay i items programs → i < length first → old ≡ get_or items i old
      → IsAccepting hosts (seen left faults old) (seen left faults new) (program_of p) → Sound (program_of p) (specs_of hosts) → all ≡ programs ++ p ∷ [] → IsOnTheWay (i + 1) (slice_set items i new) all
  one_on i items programs all old new p way here is one sound are = record {
    long = set_long items i new ∙ way.long;
    read = subst (λ (n : ℕ). AreReadTo hosts n (seen_of left faults first) (seen_of left faults (slice_set items i new)) (map program_of all)) (let e : suc i ≡ i + 1 = omega arith in e) (subst (λ (l : List Seen). AreReadTo hosts (suc i) (seen_of left faults first) l (map program_of all)) (sym (seen_put left faults items i new))
        (subst (λ (l : List Program_tree). AreReadTo hosts (suc i) (seen_of left faults first) (slice_set (seen_of left faults items) i (seen left faults new)) l) (sym (ap (map program_of) are ∙ programs_push programs p))
        (read_next hosts i (seen_of left faults first) (seen_of left faults items) (map program_of programs) (seen left faults old) (seen left faults new) (program_of p) way.read
        (let long = seen_long left faults items in let same = way.long in omega (arith, long, same, here)) (seen_at left faults items i old (let same = way.long in omega (arith, same, here)) is) one)));
    sound = subst (AreSound (specs_of hosts)) (sym (ap (map program_of) are ∙ programs_push programs p)) (sound_push (specs_of hosts) (map program_of programs) (program_of p) way.sound sound);
  }

  pub at_end : (i : ℕ) (items : List S) (programs : List Program) → IsOnTheWay i items programs → length first ≤ i → AreAccepting hosts (seen_of left faults first) (seen_of left faults items) (map program_of programs)
  at_end i items programs way end =
      read_to_end hosts i (seen_of left faults first) (seen_of left faults items) (map program_of programs) way.read (let long = seen_long left faults items in let same = way.long in omega (arith, long, same, end))

  pub stops_at : (i : ℕ) (items : List S) (programs : List Program) (old new : S) (stop : Stop) → IsOnTheWay i items programs → i < length first → old ≡ get_or items i old
      → IsStopped hosts (seen left faults old) (seen left faults new) stop → AreStopped hosts (seen_of left faults first) (seen_of left faults (slice_set items i new)) stop
  stops_at i items programs old new stop way here is one =
      subst (λ (l : List Seen). AreStopped hosts (seen_of left faults first) l stop) (sym (seen_put left faults items i new))
      (stopped_at hosts i (seen_of left faults first) (seen_of left faults items) (map program_of programs) (seen left faults old) (seen left faults new) stop way.read
      (let long = seen_long left faults items in let same = way.long in omega (arith, long, same, here)) (seen_at left faults items i old (let same = way.long in omega (arith, same, here)) is) one)

  -- the script was read, and there was no memory for its program
  pub short_at : (i : ℕ) (items : List S) (programs : List Program) (old new : S) (p : Program) → IsOnTheWay i items programs → i < length first → old ≡ get_or items i old
      → IsAccepting hosts (seen left faults old) (seen left faults new) (program_of p) → AreStopped hosts (seen_of left faults first) (seen_of left faults (slice_set items i new)) Memory
  short_at i items programs old new p way here is one = stops_at i items programs old new Memory way here is (lacks_memory one.read.still)

  pub later_at : (i : ℕ) (items : List S) (programs : List Program) (old new : S) → IsOnTheWay i items programs → i < length first → old ≡ get_or items i old → faults old ≤ faults new
      → AreLater (seen_of left faults first) (seen_of left faults (slice_set items i new))
  later_at i items programs old new way here is later =
      subst (λ (l : List Seen). AreLater (seen_of left faults first) l) (sym (seen_put left faults items i new))
      (later_next hosts i (seen_of left faults first) (seen_of left faults items) (map program_of programs) (seen left faults old) (seen left faults new) way.read
      (let long = seen_long left faults items in let same = way.long in omega (arith, long, same, here)) (seen_at left faults items i old (let same = way.long in omega (arith, same, here)) is) later)

  pub later_end : (i : ℕ) (items : List S) (programs : List Program) → IsOnTheWay i items programs → AreLater (seen_of left faults first) (seen_of left faults items)
  later_end i items programs way = later_still (seen_of left faults first) (seen_of left faults items) (still_to hosts i (seen_of left faults first) (seen_of left faults items) (map program_of programs) way.read)

-- ---- what is answered

accepting_still : (hosts : List Host) (before now : List Seen) (ps : List Program_tree) → AreAccepting hosts before now ps → AreStill before now
accepting_still hosts _ _ _ none_left = tt
accepting_still hosts _ _ _ (one_more {before = before} {now = now} {ps = ps} first more) = (first.read.still, accepting_still hosts before now ps more)

refused_still : (hosts : List Host) (before now : List Seen) (refusal : Refusal) → AreRefused hosts before now refusal → AreStill before now ⊎ ((refusal ≡ Unread) × OneFailed before now)
refused_still hosts _ _ _ (fails_first is) = inr (refl, this_failed is.rose)
refused_still hosts _ _ _ (refuses_first {later = later} script read is) = inl (read.still, still_itself later)
refused_still hosts _ _ _ (refuses_later {before = before} {now = now} {refusal = refusal} first more) =
    ⊎_elim (λ still. inl (first.read.still, still)) (λ (is, failed). inr (is, later_failed failed)) (refused_still hosts before now refusal more)

module _ (hosts : List Host) (name : List ℕ) (turns order files : ℕ) (before now : List Seen) where
  pub weave_answered : (ps : List Program_tree) (r : Result Ending Stop) (v : Passage) → AreAccepting hosts before now ps → Answered (WeavesTo hosts turns order ps (start_of v)) r v → IsAnswered hosts name (Weave turns order files) before now r v
  weave_answered ps r v are answered = record {
    answered = answered_weaker _ _ r v (λ o comes. are_woven are comes) answered;
    still = inl (accepting_still hosts before now ps are);
    later = later_still before now (accepting_still hosts before now ps are);
  }

  pub stop_answered : {D : Type 0} (q : output.Ghosts D) (w : files_of.Ghosts D) (a : D) (stop : Stop) → AreStopped hosts before now stop → AreLater before now → IsAnswered hosts name (Weave turns order files) before now (Err stop) (passage q w a a)
  stop_answered q w a (Refused refusal) stopped later = record {
    answered = (are_refused stopped, pending_none q w a);
    still = ⊎_elim (λ still. inl still) (λ (is, failed). inr (ap (λ (x : Refusal). Err (Refused x)) is, failed)) (refused_still hosts before now refusal stopped);
    later = later;
  }
  stop_answered q w a Device stopped later = absurd stopped
  stop_answered q w a Output stopped later = absurd stopped
  stop_answered q w a Memory stopped later = record { answered = inr (given_up_none q w a); still = inl stopped; later = later }
  stop_answered q w a Full stopped later = absurd stopped

pub same_weave : (hosts : List Host) (name : List ℕ) (turns order files : ℕ) (command : Command) (before now : List Seen) (r : Result Ending Stop) (v : Passage) → Weave turns order files ≡ command
    → ((files : ℕ) → IsAnswered hosts name (Weave turns order files) before now r v) → IsAnswered hosts name command before now r v
same_weave hosts name turns order files command before now r v is answered = subst (λ (x : Command). IsAnswered hosts name x before now r v) is (answered files)

none_here : (turns order files n : ℕ) → files ≡ 0 → n + (files_in (Some (Weave turns order files))).0 ≡ (files_in (Some (Weave turns order files))).1 → n ≡ 0
none_here turns order files n none given =
    let here : n + (files_in (Some (Weave turns order 0))).0 ≡ (files_in (Some (Weave turns order 0))).1 = subst (λ (k : ℕ). n + (files_in (Some (Weave turns order k))).0 ≡ (files_in (Some (Weave turns order k))).1) none given in
    omega (arith, here)

pub none_to_weave : (turns order files : ℕ) (command : Command) (n : ℕ) → Weave turns order files ≡ command → (form_of command).files ≡ 0 → n + (files_in (Some command)).0 ≡ (files_in (Some command)).1 → n ≡ 0
none_to_weave turns order files command n is none given =
    none_here turns order files n (subst (λ (x : Command). (form_of x).files ≡ 0) (sym is) none) (subst (λ (x : Command). n + (files_in (Some x)).0 ≡ (files_in (Some x)).1) (sym is) given)
