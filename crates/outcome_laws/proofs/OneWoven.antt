-- A weave comes to one outcome for its texts and what the files hold.
use Rattle.std.proofs.Common.{◌≡◌, ◌≢◌, ◌≤◌, ℕ, List, [], ◌∷◌, codes, length, Some, refl, sym, ap, ◌∙◌, subst}
use Rattle.hera_meaning.specs.Deltas.{State}
use Rattle.hera_meaning.specs.Hosts.{Hosts}
use Rattle.hera_meaning.specs.Trees.{Program_tree}
use Rattle.hera_host.specs.Tables.{Host, specs_of}
use Rattle.hera_rules.specs.Accepted.{Accepted}
use Rattle.hera_rules.specs.Bound.{Differs}
use Rattle.hera_bind.specs.Having.{AllHas}
use Rattle.hera_script.specs.declared.cause.Cause.{Cause}
use Rattle.hera_script.specs.Refusing.{IsRefused}
use Rattle.hera_sessions.specs.Sessions.{Task}
use Rattle.hera_syntax.specs.Tokens.{script_limit}
use Rattle.hera_volume.specs.declared.file_id.FileId.{FileId}
use Rattle.hera_store.specs.Databases.{Database, held}
use Rattle.hera_outcome.specs.declared.refusal.Refusal.{Refusal}
use Rattle.hera_outcome.specs.declared.refusal.Refusal.TheVariants.{Unread, Script, Differing}
use Rattle.hera_outcome.specs.Outcomes.{Outcome, refused, prints, too_long}
use Rattle.hera_outcome.specs.Passages.{Start}
use Rattle.hera_run.specs.Folder.{IsThere, StartsAt, outcome_from}
use Rattle.hera_woven.specs.Weaving.{relations_of, all_bound, tasks_of, IsWhole, report_of, WeavesTo, closed, differs, overflows, weaves}
use Rattle.hera_words.specs.declared.command.Command.TheVariants.{Check}
use Rattle.hera_top.specs.Commands.{checks, ComesToFor, refuses, performs, OfScripts, are_refused, are_woven}
use Rattle.hera_top.specs.Scripts.{IsAccepting, AreAccepting, none_left, one_more, AreRefused, fails_first, refuses_first, refuses_later}
use Rattle.hera_top.specs.Sources.{Seen, IsRead}
use Rattle.hera_top.specs.Told.{HaveLeft}
use Rattle.outcome_laws.proofs.OneOutcome.{OneRefusal, NeverBoth, OneProgram, OneFound, OneEnd, OneVersion, differs_one, lacks_none, gate_same, full_or_starts, one_apart, same_db, one_closed, closed_or_held, held_or_closed, starts_first, starts_second, full_first, full_second}
use Rattle.outcome_laws.proofs.Wholes.{told_outcome, whole_text}

-- a number tells one schedule
abbrev pub OneSchedule : Type 0
OneSchedule = (tasks : List Task) (s : State) (hosts : Hosts) (order : ℕ) (a b : List ℕ) → IsWhole tasks s hosts order a → IsWhole tasks s hosts order b → a ≡ b

-- ---- texts

module _ (one : OneRefusal) (never : NeverBoth) (program : OneProgram) (hosts : List Host) (s t : Start) where
  accepted_text : (text : List ℕ) (b n : Seen) (p : Program_tree) → b.left ≡ Some text → IsAccepting hosts b n p → (length text ≤ script_limit) × Accepted text hosts p
  accepted_text text b n p is first =
      let whole : text ≡ first.script = whole_text script_limit text first.script b n is first.read first.short in
      (subst (λ (l : List ℕ). length l ≤ script_limit) (sym whole) first.short, subst (λ (l : List ℕ). Accepted l hosts p) (sym whole) first.accepted)

  refused_text : (text script : List ℕ) (u : Start) (b n : Seen) (c : Cause) (at : ℕ) → b.left ≡ Some text → IsRead script_limit b n script → IsRefused hosts script c at → ComesToFor hosts text u Check (refused (Script c at))
  refused_text text script u b n c at is read bad = told_outcome hosts Check text script b n u (refused (Script c at)) is read (refuses bad)

  one_program : (text : List ℕ) (b n d m : Seen) (p q : Program_tree) → b.left ≡ Some text → d.left ≡ Some text → IsAccepting hosts b n p → IsAccepting hosts d m q → p ≡ q
  one_program text b n d m p q x y first other = program hosts text p q (accepted_text text b n p x first).1 (accepted_text text d m q y other).1

  never_text : (text script : List ℕ) (b n d m : Seen) (p : Program_tree) (c : Cause) (at : ℕ) → b.left ≡ Some text → d.left ≡ Some text → IsAccepting hosts b n p → IsRead script_limit d m script → IsRefused hosts script c at → ⊥
  never_text text script b n d m p c at x y first read bad =
      let both = accepted_text text b n p x first in
      let same : prints (codes "accepted\n") ≡ refused (Script c at) = one_apart one never program hosts Check text s t (prints (codes "accepted\n")) (refused (Script c at)) refl (performs both.0 both.1 checks) (refused_text text script t d m c at y read bad) in
      cc (same)

  both_cons : (p q : Program_tree) (ps qs : List Program_tree) → p ≡ q → ps ≡ qs → p ∷ ps ≡ q ∷ qs
  both_cons p q ps qs head tail = ap (λ (x : Program_tree). x ∷ ps) head ∙ ap (λ (l : List Program_tree). q ∷ l) tail

  one_list : (texts : List (List ℕ)) (before now later after : List Seen) (ps qs : List Program_tree) → HaveLeft texts before → HaveLeft texts later → AreAccepting hosts before now ps → AreAccepting hosts later after qs → ps ≡ qs
  one_list [] _ _ _ _ _ _ x y none_left none_left = refl
  one_list [] _ _ _ _ _ _ x y none_left (one_more also more) = absurd y
  one_list [] _ _ _ _ _ _ x y (one_more first rest) other = absurd x
  one_list (text ∷ texts) _ _ _ _ _ _ x y none_left other = absurd x
  one_list (text ∷ texts) _ _ _ _ _ _ x y (one_more first rest) none_left = absurd y
  one_list (text ∷ texts) _ _ _ _ _ _ x y (one_more {b = b} {n = n} {before = before} {now = now} {p = p} {ps = ps} first rest) (one_more {b = d} {n = m} {before = later} {now = after} {p = q} {ps = qs} also more) =
      both_cons p q ps qs (one_program text b n d m p q x.0 y.0 first also) (one_list texts before now later after ps qs x.1 y.1 rest more)

  one_refused : (texts : List (List ℕ)) (before now later after : List Seen) (r q : Refusal) → HaveLeft texts before → HaveLeft texts later → AreRefused hosts before now r → AreRefused hosts later after q → r ≢ Unread → q ≢ Unread → refused r ≡ refused q
  one_refused texts _ _ _ _ _ q x y (fails_first is) other not_a not_b = absurd (not_a refl)
  one_refused texts _ _ _ _ _ _ x y (refuses_first script read bad) (fails_first is) not_a not_b = absurd (not_b refl)
  one_refused texts _ _ _ _ r _ x y (refuses_later first rest) (fails_first is) not_a not_b = absurd (not_b refl)
  one_refused [] _ _ _ _ _ _ x y (refuses_first script read bad) (refuses_first others also worse) not_a not_b = absurd x
  one_refused [] _ _ _ _ _ q x y (refuses_first script read bad) (refuses_later first rest) not_a not_b = absurd x
  one_refused [] _ _ _ _ r _ x y (refuses_later first rest) (refuses_first script read bad) not_a not_b = absurd x
  one_refused [] _ _ _ _ r q x y (refuses_later first rest) (refuses_later also more) not_a not_b = absurd x
  one_refused (text ∷ texts) _ _ _ _ _ _ x y (refuses_first {b = b} {n = n} {cause = c} {at = i} script read bad) (refuses_first {b = d} {n = m} {cause = e} {at = j} others also worse) not_a not_b =
      one_apart one never program hosts Check text s t (refused (Script c i)) (refused (Script e j)) refl (refused_text text script s b n c i x.0 read bad) (refused_text text others t d m e j y.0 also worse)
  one_refused (text ∷ texts) _ _ _ _ _ q x y (refuses_first {b = b} {n = n} {cause = c} {at = i} script read bad) (refuses_later {b = d} {n = m} {p = p} first rest) not_a not_b = absurd (never_text text script d m b n p c i y.0 x.0 first read bad)
  one_refused (text ∷ texts) _ _ _ _ r _ x y (refuses_later {b = d} {n = m} {p = p} first rest) (refuses_first {b = b} {n = n} {cause = c} {at = i} script read bad) not_a not_b = absurd (never_text text script d m b n p c i x.0 y.0 first read bad)
  one_refused (text ∷ texts) _ _ _ _ r q x y (refuses_later {before = before} {now = now} first rest) (refuses_later {before = later} {now = after} also more) not_a not_b = one_refused texts before now later after r q x.1 y.1 rest more not_a not_b

  never_list : (texts : List (List ℕ)) (before now later after : List Seen) (ps : List Program_tree) (r : Refusal) → HaveLeft texts before → HaveLeft texts later → AreAccepting hosts before now ps → AreRefused hosts later after r → r ≢ Unread → ⊥
  never_list texts _ _ _ _ ps _ x y are (fails_first is) not_it = not_it refl
  never_list [] _ _ _ _ ps _ x y are (refuses_first script read bad) not_it = y
  never_list [] _ _ _ _ ps r x y are (refuses_later first rest) not_it = y
  never_list (text ∷ texts) _ _ _ _ _ _ x y none_left (refuses_first script read bad) not_it = x
  never_list (text ∷ texts) _ _ _ _ _ r x y none_left (refuses_later first rest) not_it = x
  never_list (text ∷ texts) _ _ _ _ _ _ x y (one_more {b = b} {n = n} {p = p} first rest) (refuses_first {b = d} {n = m} {cause = c} {at = i} script read bad) not_it = never_text text script b n d m p c i x.0 y.0 first read bad
  never_list (text ∷ texts) _ _ _ _ _ r x y (one_more {before = before} {now = now} {ps = ps} first rest) (refuses_later {before = later} {now = after} also more) not_it = never_list texts before now later after ps r x.1 y.1 rest more not_it

-- ---- folders

module _ (found : OneFound) (end : OneEnd) (version : OneVersion) (files : FileId → List ℕ) (s t : Start) (told : s.told) (also : t.told) (first : (f : FileId) → (s.disks f).bytes ≡ files f) (second : (f : FileId) → (t.disks f).bytes ≡ files f)
    (schedules : OneSchedule) (hosts : List Host) (turns order : ℕ) where
  same : (db other : Database) → IsThere s (held db) → IsThere t (held other) → db ≡ other
  same db other x y = same_db found end version files s t told also first second db other x y

  module _ (ps : List Program_tree) where
    abbrev tasks : Database → List Task
    tasks db = tasks_of turns (all_bound db.catalogue ps)

    same_weave : (db other : Database) (gate next : ℕ) (a b : List ℕ) → db ≡ other → gate ≡ next → a ≡ b
        → outcome_from db gate (report_of (tasks db) db.state a (specs_of hosts)) ≡ outcome_from other next (report_of (tasks other) other.state b (specs_of hosts))
    same_weave db other gate next a b is place steps =
        ap (λ (x : Database). outcome_from x gate (report_of (tasks x) x.state a (specs_of hosts))) is
        ∙ ap (λ (n : ℕ). outcome_from other n (report_of (tasks other) other.state a (specs_of hosts))) place
        ∙ ap (λ (l : List ℕ). outcome_from other next (report_of (tasks other) other.state l (specs_of hosts))) steps

    lacks_or_has : (db other : Database) (name : List ℕ) → db ≡ other → Differs db.catalogue (relations_of ps) name → AllHas other.catalogue (relations_of ps) → ⊥
    lacks_or_has db other name is bad has = lacks_none db.catalogue (relations_of ps) name bad (subst (λ (d : Database). AllHas d.catalogue (relations_of ps)) (sym is) has)

    one_woven : (a b : Outcome) → WeavesTo hosts turns order ps s a → WeavesTo hosts turns order ps t b → a ≡ b
    one_woven _ _ (closed {refusal = r} x) (closed {refusal = q} y) = one_closed found end version files s t told also first second r q x y
    one_woven _ _ (closed {refusal = r} x) (differs {db = db} y bad) = absurd (closed_or_held found end version files s t told also first second r db x y)
    one_woven _ _ (closed {refusal = r} x) (overflows {db = db} y over has) = absurd (closed_or_held found end version files s t told also first second r db x y)
    one_woven _ _ (closed {refusal = r} x) (weaves {db = db} y ends has whole) = absurd (closed_or_held found end version files s t told also first second r db x y)
    one_woven _ _ (differs {db = db} x bad) (closed {refusal = r} y) = absurd (held_or_closed found end version files s t told also first second db r x y)
    one_woven _ _ (differs {db = db} {name = m} x bad) (differs {db = other} {name = n} y worse) =
        ap (λ (l : List ℕ). refused (Differing l)) (differs_one db.catalogue (relations_of ps) m n bad (subst (λ (d : Database). Differs d.catalogue (relations_of ps) n) (sym (same db other x y)) worse))
    one_woven _ _ (differs {db = db} {name = m} x bad) (overflows {db = other} y over has) = absurd (lacks_or_has db other m (same db other x y) bad has)
    one_woven _ _ (differs {db = db} {name = m} x bad) (weaves {db = other} y ends has whole) = absurd (lacks_or_has db other m (same db other x y) bad has)
    one_woven _ _ (overflows {db = db} x over has) (closed {refusal = r} y) = absurd (held_or_closed found end version files s t told also first second db r x y)
    one_woven _ _ (overflows {db = db} x over has) (differs {db = other} {name = n} y bad) = absurd (lacks_or_has other db n (sym (same db other x y)) bad has)
    one_woven _ _ (overflows {db = db} x over has) (overflows {db = other} y past too) = ap too_long (same db other x y)
    one_woven _ _ (overflows {db = db} x over has) (weaves {db = other} {gate = n} y ends too whole) =
        absurd (full_or_starts end version files db n (full_first found end version files s t told also first second db over) (subst (λ (d : Database). StartsAt files d n) (sym (same db other x y)) (starts_second found end version files s t told also first second other n ends)))
    one_woven _ _ (weaves {db = db} x starts has whole) (closed {refusal = r} y) = absurd (held_or_closed found end version files s t told also first second db r x y)
    one_woven _ _ (weaves {db = db} x starts has whole) (differs {db = other} {name = n} y bad) = absurd (lacks_or_has other db n (sym (same db other x y)) bad has)
    one_woven _ _ (weaves {db = db} {gate = n} x starts has whole) (overflows {db = other} y past too) =
        absurd (full_or_starts end version files other n (full_second found end version files s t told also first second other past) (subst (λ (d : Database). StartsAt files d n) (same db other x y) (starts_first found end version files s t told also first second db n starts)))
    one_woven _ _ (weaves {db = db} {gate = n} {schedule = a} x starts has whole) (weaves {db = other} {gate = m} {schedule = b} y ends too wholly) =
        let is = same db other x y in
        same_weave db other n m a b is
        (gate_same end version files db n m (starts_first found end version files s t told also first second db n starts) (subst (λ (d : Database). StartsAt files d m) (sym is) (starts_second found end version files s t told also first second other m ends)))
        (schedules (tasks db) db.state (specs_of hosts) order a b whole (subst (λ (d : Database). IsWhole (tasks d) d.state (specs_of hosts) order b) (sym is) wholly))

  not_unread : (r : Refusal) → refused r ≢ refused Unread → r ≢ Unread
  not_unread r other = λ is. other (ap refused is)

  pub one_of_scripts : OneRefusal → NeverBoth → OneProgram → (texts : List (List ℕ)) (before now later after : List Seen) (a b : Outcome)
      → HaveLeft texts before → HaveLeft texts later → OfScripts hosts turns order s before now a → OfScripts hosts turns order t later after b → a ≢ refused Unread → b ≢ refused Unread → a ≡ b
  one_of_scripts one never program texts before now later after _ _ x y (are_refused {refusal = r} bad) (are_refused {refusal = q} worse) not_a not_b =
      one_refused one never program hosts s t texts before now later after r q x y bad worse (not_unread r not_a) (not_unread q not_b)
  one_of_scripts one never program texts before now later after _ b x y (are_refused {refusal = r} bad) (are_woven {ps = qs} are came) not_a not_b =
      absurd (never_list one never program hosts s t texts later after before now qs r y x are bad (not_unread r not_a))
  one_of_scripts one never program texts before now later after a _ x y (are_woven {ps = ps} are came) (are_refused {refusal = q} bad) not_a not_b =
      absurd (never_list one never program hosts s t texts before now later after ps q x y are bad (not_unread q not_b))
  one_of_scripts one never program texts before now later after a b x y (are_woven {ps = ps} are came) (are_woven {ps = qs} also_are too) not_a not_b =
      one_woven ps a b came (subst (λ (l : List Program_tree). WeavesTo hosts turns order l t b) (sym (one_list one never program hosts s t texts before now later after ps qs x y are also_are)) too)
