-- What the statuses tell.
use Rattle.std.proofs.Common.{◌≡◌, ◌≤◌, ℕ, Bool, true, false, cond, ⊎_elim, inl, inr, ◌⊎◌, List, Some, refl, sym, ◌∙◌, arith}
use Rattle.hera_causes.specs.Causes.{Rose}
use Rattle.hera_meaning.specs.Run.{Finish, finished, stopped, out_of_turns}
use Rattle.hera_meaning.specs.Trees.{Program_tree}
use Rattle.hera_host.specs.Tables.{Host, specs_of}
use Rattle.hera_outcome.specs.Outcomes.{Outcome, refused, Ended, ends, full, broken, status_of_finish, status_of_ended, status_of_outcome}
use Rattle.hera_outcome.specs.Passages.{Passage, Start, start_of}
use Rattle.hera_outcome.specs.Told.{IsTold}
use Rattle.hera_run.specs.Folder.{finds_none, finds_damage, RunsTo, closed as run_closed, differs, overflows as run_overflows, runs as run_runs}
use Rattle.hera_run.specs.Fitting.{all_fit}
use Rattle.hera_transfer.specs.Transfers.{ExportsTo, shut, unknown, writes, import_of, ImportsTo, closed as import_closed, lacks, refuses as import_refuses, overflows as import_overflows, imports}
use Rattle.hera_guard_lines.specs.declared.lines.GuardLine.{GuardLine}
use Rattle.hera_guarded.specs.Guarding.{GuardsTo, barred, closed as guarded_closed, unfit, differs as guarded_differs, unknown as guarded_unknown, mismatched, overflows as guarded_overflows, runs as guarded_runs}
use Rattle.hera_outcome.specs.declared.refusal.Refusal.{Refusal}
use Rattle.hera_woven.specs.Weaving.{WeavesTo, closed as woven_closed, differs as woven_differs, overflows as woven_overflows, weaves}
use Rattle.hera_words.specs.declared.command.Command.{Command}
use Rattle.hera_words.specs.declared.command.Command.TheVariants.{Check, List as list_command, Eval, Pack, Exec, Drill, Init, Run, Dump, Checkpoint, Widen, Import, Export, Guard, Weave}
use Rattle.hera_top.specs.Commands.{Performs, checks, lists, evaluates, makes, widens, runs, is_made, is_taken, is_shut, is_narrowed, is_wide, is_too_wide, ComesToFor, refuses, performs, Finds, closed, dumps, renews, overflows, OfScript, unread, reads, OfFile, misses, is_too_much, takes, ComesTo, Answers, tells, fails, OfScripts, are_refused, are_woven}
use Rattle.hera_packed.specs.Executed.{ExecutesTo, is_bad, is_rejected, is_run}
use Rattle.hera_meaning.specs.Hosts.{Hosts}
use Rattle.hera_top.specs.Coding.{prints_pack, PacksTo, refuses_pack, packs, OfPack, no_script, has_script, OfCode, no_code, too_much_code, has_code}
use Rattle.hera_top.specs.Drill.{drill_text, drill_turns}
use Rattle.hera_top.specs.Scripts.{AreRefused, fails_first, refuses_first, refuses_later}
use Rattle.hera_top.specs.Guarding.{misses_rules, refuses_rules, GuardsFor, refuses as guards_refuse, performs as guards_perform, misses_script, reads_script, OfRules, no_lines, has_lines}
use Rattle.hera_top.specs.Sources.{Seen, OneFailed, this_failed, later_failed}

-- the statuses of words, of files, of a source and of the output
abbrev IsOdd : ℕ → Type 0
IsOdd n = (n ≡ 2) ⊎ (n ≡ 6) ⊎ (n ≡ 7) ⊎ (n ≡ 8)

plain : (n : ℕ) → (n ≡ 2 → ⊥) → (n ≡ 6 → ⊥) → (n ≡ 7 → ⊥) → (n ≡ 8 → ⊥) → IsOdd n → ⊥
plain n two six seven eight odd = ⊎_elim two (λ more. ⊎_elim six (λ last. ⊎_elim seven eight last) more) odd

plain_0 : IsOdd 0 → ⊥
plain_0 odd = plain 0 (λ h. cc (h)) (λ h. cc (h)) (λ h. cc (h)) (λ h. cc (h)) odd

plain_3 : IsOdd 3 → ⊥
plain_3 odd = plain 3 (λ h. cc (h)) (λ h. cc (h)) (λ h. cc (h)) (λ h. cc (h)) odd

plain_5 : IsOdd 5 → ⊥
plain_5 odd = plain 5 (λ h. cc (h)) (λ h. cc (h)) (λ h. cc (h)) (λ h. cc (h)) odd

plain_10 : IsOdd 10 → ⊥
plain_10 odd = plain 10 (λ h. cc (h)) (λ h. cc (h)) (λ h. cc (h)) (λ h. cc (h)) odd

finish_plain : (f : Finish) → IsOdd (status_of_finish f) → ⊥
finish_plain finished odd = plain_0 odd
finish_plain (stopped name at) odd = plain 1 (λ h. cc (h)) (λ h. cc (h)) (λ h. cc (h)) (λ h. cc (h)) odd
finish_plain out_of_turns odd = plain 4 (λ h. cc (h)) (λ h. cc (h)) (λ h. cc (h)) (λ h. cc (h)) odd

ended_plain : (e : Ended) → IsOdd (status_of_ended e) → ⊥
ended_plain (ends f) odd = finish_plain f odd
ended_plain full odd = plain_10 odd
ended_plain broken odd = plain 11 (λ h. cc (h)) (λ h. cc (h)) (λ h. cc (h)) (λ h. cc (h)) odd

-- ---- outcomes

run_plain : (hosts : List Host) (turns : ℕ) (p : Program_tree) (s : Start) (o : Outcome) → RunsTo hosts turns p s o → IsOdd (status_of_outcome o) → ⊥
run_plain hosts turns p s _ (run_closed (finds_none there)) odd = plain_5 odd
run_plain hosts turns p s _ (run_closed (finds_damage there)) odd = plain_5 odd
run_plain hosts turns p s _ (differs there first_one) odd = plain_5 odd
run_plain hosts turns p s _ (run_overflows there over has) odd = plain_10 odd
run_plain hosts turns p s _ (run_runs there starts has) odd = ended_plain _ odd

performed_plain : (hosts : List Host) (p : Program_tree) (s : Start) (command : Command) (o : Outcome) → Performs hosts p s command o → IsOdd (status_of_outcome o) → ⊥
performed_plain hosts p s _ _ checks odd = plain_0 odd
performed_plain hosts p s _ _ lists odd = plain_0 odd
performed_plain hosts p s _ _ evaluates odd = finish_plain _ odd
performed_plain hosts p s _ _ (makes (is_made vacant)) odd = plain_0 odd
performed_plain hosts p s _ _ (makes (is_taken taken)) odd = plain_5 odd
performed_plain hosts p s _ _ (widens (is_shut (finds_none there))) odd = plain_5 odd
performed_plain hosts p s _ _ (widens (is_shut (finds_damage there))) odd = plain_5 odd
performed_plain hosts p s _ _ (widens (is_narrowed there first)) odd = plain_5 odd
performed_plain hosts p s _ _ (widens (is_wide there wider short)) odd = plain_0 odd
performed_plain hosts p s _ _ (widens (is_too_wide there wider long)) odd = plain_10 odd
performed_plain hosts p s _ _ (runs {turns} {outcome} came) odd = run_plain hosts turns p s outcome came odd

script_plain : (hosts : List Host) (script : List ℕ) (s : Start) (command : Command) (o : Outcome) → ComesToFor hosts script s command o → IsOdd (status_of_outcome o) → ⊥
script_plain hosts script s command _ (refuses refusal) odd = plain 3 (λ h. cc (h)) (λ h. cc (h)) (λ h. cc (h)) (λ h. cc (h)) odd
script_plain hosts script s command o (performs {p} short accepted done) odd = performed_plain hosts p s command o done odd

found_plain : (s : Start) (command : Command) (o : Outcome) → Finds s command o → IsOdd (status_of_outcome o) → ⊥
found_plain s _ _ (closed (finds_none there)) odd = plain_5 odd
found_plain s _ _ (closed (finds_damage there)) odd = plain_5 odd
found_plain s _ _ (dumps there) odd = plain_0 odd
found_plain s _ _ (renews there short) odd = plain_0 odd
found_plain s _ _ (overflows there long) odd = plain_10 odd

exported_plain : (name : List ℕ) (s : Start) (o : Outcome) → ExportsTo name s o → IsOdd (status_of_outcome o) → ⊥
exported_plain name s _ (shut (finds_none there)) odd = plain_5 odd
exported_plain name s _ (shut (finds_damage there)) odd = plain_5 odd
exported_plain name s _ (unknown there none) odd = plain_5 odd
exported_plain name s _ (writes there named) odd = plain_0 odd

by_fit_plain : (b : Bool) → IsOdd (status_of_ended (cond b (ends finished) full)) → ⊥
by_fit_plain true odd = plain_0 odd
by_fit_plain false odd = plain_10 odd

import_plain : (name file : List ℕ) (s : Start) (o : Outcome) → ImportsTo name file s o → IsOdd (status_of_outcome o) → ⊥
import_plain name file s _ (import_closed (finds_none there)) odd = plain_5 odd
import_plain name file s _ (import_closed (finds_damage there)) odd = plain_5 odd
import_plain name file s _ (lacks there none) odd = plain_5 odd
import_plain name file s _ (import_refuses there named bad) odd = plain 3 (λ h. cc (h)) (λ h. cc (h)) (λ h. cc (h)) (λ h. cc (h)) odd
import_plain name file s _ (import_overflows there good over) odd = plain_10 odd
import_plain name file s _ (imports {db} {rel} {gate} there good starts) odd = by_fit_plain (all_fit (Some gate) (import_of db rel file).events) odd

guarded_plain : (hosts : List Host) (lines : List GuardLine) (turns : ℕ) (p : Program_tree) (s : Start) (o : Outcome) → GuardsTo hosts lines turns p s o → IsOdd (status_of_outcome o) → ⊥
guarded_plain hosts lines turns p s _ (barred (guarded_closed (finds_none there))) odd = plain_5 odd
guarded_plain hosts lines turns p s _ (barred (guarded_closed (finds_damage there))) odd = plain_5 odd
guarded_plain hosts lines turns p s _ (barred (unfit there (guarded_differs first_one))) odd = plain_5 odd
guarded_plain hosts lines turns p s _ (barred (unfit there (guarded_unknown has first))) odd = plain_3 odd
guarded_plain hosts lines turns p s _ (barred (unfit there (mismatched has first))) odd = plain_3 odd
guarded_plain hosts lines turns p s _ (guarded_overflows there over has mean) odd = plain_10 odd
guarded_plain hosts lines turns p s _ (guarded_runs there starts has mean) odd = ended_plain _ odd

guards_plain : (hosts : List Host) (lines : List GuardLine) (turns : ℕ) (script : List ℕ) (s : Start) (o : Outcome) → GuardsFor hosts lines turns script s o → IsOdd (status_of_outcome o) → ⊥
guards_plain hosts lines turns script s _ (guards_refuse refusal) odd = plain_3 odd
guards_plain hosts lines turns script s o (guards_perform {p = p} short accepted came) odd = guarded_plain hosts lines turns p s o came odd

woven_plain : (hosts : List Host) (turns order : ℕ) (ps : List Program_tree) (s : Start) (o : Outcome) → WeavesTo hosts turns order ps s o → IsOdd (status_of_outcome o) → ⊥
woven_plain hosts turns order ps s _ (woven_closed (finds_none there)) odd = plain_5 odd
woven_plain hosts turns order ps s _ (woven_closed (finds_damage there)) odd = plain_5 odd
woven_plain hosts turns order ps s _ (woven_differs there first_one) odd = plain_5 odd
woven_plain hosts turns order ps s _ (woven_overflows there over has) odd = plain_10 odd
woven_plain hosts turns order ps s _ (weaves there starts has whole) odd = ended_plain _ odd

packed_plain : (hosts : List Host) (script : List ℕ) (o : Outcome) → PacksTo hosts script o → IsOdd (status_of_outcome o) → ⊥
packed_plain hosts script _ (refuses_pack refusal) odd = plain_3 odd
packed_plain hosts script _ (packs short accepted (prints_pack is)) odd = plain_0 odd

executed_plain : (hosts : Hosts) (turns : ℕ) (file : List ℕ) (o : Outcome) → ExecutesTo hosts turns file o → IsOdd (status_of_outcome o) → ⊥
executed_plain hosts turns file _ (is_bad bad) odd = plain_3 odd
executed_plain hosts turns file _ (is_rejected is bad) odd = plain_3 odd
executed_plain hosts turns file _ (is_run {report = report} is verified run) odd = finish_plain report.finish odd

-- an outcome of such a status is that a source failed
abbrev IsFailure : (before now : List Seen) → Outcome → Type 0
IsFailure before now o = (status_of_outcome o ≡ 7) × OneFailed before now

script_odd : (hosts : List Host) (command : Command) (s : Start) (before now : List Seen) (o : Outcome) → OfScript hosts command s before now o → IsOdd (status_of_outcome o) → IsFailure before now o
script_odd hosts command s _ _ _ (unread is) odd = (refl, this_failed is.rose)
script_odd hosts command s _ _ o (reads script read came) odd = absurd (script_plain hosts script s command o came odd)

file_odd : (name : List ℕ) (s : Start) (before now : List Seen) (o : Outcome) → OfFile name s before now o → IsOdd (status_of_outcome o) → IsFailure before now o
file_odd name s _ _ _ (misses is) odd = (refl, this_failed is.rose)
file_odd name s _ _ _ (is_too_much file read long) odd = absurd (plain 3 (λ h. cc (h)) (λ h. cc (h)) (λ h. cc (h)) (λ h. cc (h)) odd)
file_odd name s _ _ o (takes file read short came) odd = absurd (import_plain name file s o came odd)

pack_odd : (hosts : List Host) (before now : List Seen) (o : Outcome) → OfPack hosts before now o → IsOdd (status_of_outcome o) → IsFailure before now o
pack_odd hosts _ _ _ (no_script is) odd = (refl, this_failed is.rose)
pack_odd hosts _ _ o (has_script script read came) odd = absurd (packed_plain hosts script o came odd)

code_odd : (hosts : List Host) (turns : ℕ) (before now : List Seen) (o : Outcome) → OfCode hosts turns before now o → IsOdd (status_of_outcome o) → IsFailure before now o
code_odd hosts turns _ _ _ (no_code is) odd = (refl, this_failed is.rose)
code_odd hosts turns _ _ _ (too_much_code file read long) odd = absurd (plain_3 odd)
code_odd hosts turns _ _ o (has_code file read short came) odd = absurd (executed_plain (specs_of hosts) turns file o came odd)

rules_odd : (hosts : List Host) (turns : ℕ) (s : Start) (before now : List Seen) (o : Outcome) → OfRules hosts turns s before now o → IsOdd (status_of_outcome o) → IsFailure before now o
rules_odd hosts turns s _ _ _ (no_lines (misses_rules is)) odd = (refl, this_failed is.rose)
rules_odd hosts turns s _ _ _ (no_lines (refuses_rules rules read refusal)) odd = absurd (plain_3 odd)
rules_odd hosts turns s _ _ _ (has_lines are (misses_script is)) odd = (refl, later_failed (this_failed is.rose))
rules_odd hosts turns s _ _ o (has_lines {lines = lines} are (reads_script script read came)) odd = absurd (guards_plain hosts lines turns script s o came odd)

refused_odd : (hosts : List Host) (before now : List Seen) (refusal : Refusal) → AreRefused hosts before now refusal → IsOdd (status_of_outcome (refused refusal)) → IsFailure before now (refused refusal)
refused_odd hosts _ _ _ (fails_first is) odd = (refl, this_failed is.rose)
refused_odd hosts _ _ _ (refuses_first script read bad) odd = absurd (plain_3 odd)
refused_odd hosts _ _ _ (refuses_later {before = before} {now = now} {refusal = refusal} first rest) odd = (let (seven, failed) = refused_odd hosts before now refusal rest odd in (seven, later_failed failed))

scripts_odd : (hosts : List Host) (turns order : ℕ) (s : Start) (before now : List Seen) (o : Outcome) → OfScripts hosts turns order s before now o → IsOdd (status_of_outcome o) → IsFailure before now o
scripts_odd hosts turns order s before now _ (are_refused {refusal = refusal} bad) odd = refused_odd hosts before now refusal bad odd
scripts_odd hosts turns order s before now o (are_woven {ps = ps} are came) odd = absurd (woven_plain hosts turns order ps s o came odd)

pub comes_odd : (hosts : List Host) (name : List ℕ) (before now : List Seen) (s : Start) (command : Command) (o : Outcome) → ComesTo hosts name before now s command o → IsOdd (status_of_outcome o) → IsFailure before now o
comes_odd hosts name before now s Check o came odd = script_odd hosts Check s before now o came odd
comes_odd hosts name before now s list_command o came odd = script_odd hosts list_command s before now o came odd
comes_odd hosts name before now s (Eval turns) o came odd = script_odd hosts (Eval turns) s before now o came odd
comes_odd hosts name before now s Pack o came odd = pack_odd hosts before now o came odd
comes_odd hosts name before now s (Exec turns) o came odd = code_odd hosts turns before now o came odd
comes_odd hosts name before now s (Drill rows) o came odd = absurd (script_plain hosts (drill_text rows) s (Eval drill_turns) o came odd)
comes_odd hosts name before now s Init o came odd = script_odd hosts Init s before now o came odd
comes_odd hosts name before now s (Run turns) o came odd = script_odd hosts (Run turns) s before now o came odd
comes_odd hosts name before now s Dump o came odd = absurd (found_plain s Dump o came odd)
comes_odd hosts name before now s Checkpoint o came odd = absurd (found_plain s Checkpoint o came odd)
comes_odd hosts name before now s Widen o came odd = script_odd hosts Widen s before now o came odd
comes_odd hosts name before now s Import o came odd = file_odd name s before now o came odd
comes_odd hosts name before now s Export o came odd = absurd (exported_plain name s o came odd)
comes_odd hosts name before now s (Guard turns) o came odd = rules_odd hosts turns s before now o came odd
comes_odd hosts name before now s (Weave turns order files) o came odd = scripts_odd hosts turns order s before now o came odd

-- ---- answers

module _ (hosts : List Host) (name : List ℕ) (before now : List Seen) (command : Command) (status : ℕ) (v : Passage) where
  pub no_usage : Answers hosts name command before now status v → status ≡ 2 → ⊥
  no_usage (tells {outcome} comes told) is =
      ⊎_elim
      (λ done. let seven = (comes_odd hosts name before now (start_of v) command outcome comes (inl (sym done.own_status ∙ is))).0 in let bad : 2 ≡ 7 = sym is ∙ done.own_status ∙ seven in cc (bad))
      (λ cut.
      ⊎_elim (λ six. let bad : 2 ≡ 6 = sym is ∙ six.0 in cc (bad)) (λ later. ⊎_elim (λ eight. let bad : 2 ≡ 8 = sym is ∙ eight.0 in cc (bad)) (λ nine. let bad : 2 ≡ 9 = sym is ∙ nine.0 in cc (bad)) later) cut.cause)
      told.ending
  no_usage (fails still up) is = ⊎_elim (λ six. let bad : 2 ≡ 6 = sym is ∙ six.0 in cc (bad)) (λ nine. let bad : 2 ≡ 9 = sym is ∙ nine.0 in cc (bad)) up.cause

  pub device_rose : Answers hosts name command before now status v → status ≡ 6 → Rose v.device_before v.device_now
  device_rose (tells {outcome} comes told) is =
      ⊎_elim
      (λ done. let seven = (comes_odd hosts name before now (start_of v) command outcome comes (inr (inl (sym done.own_status ∙ is)))).0 in let bad : 6 ≡ 7 = sym is ∙ done.own_status ∙ seven in absurd (cc (bad)))
      (λ cut.
      ⊎_elim (λ six. six.1.rose) (λ later. ⊎_elim (λ eight. let bad : 6 ≡ 8 = sym is ∙ eight.0 in absurd (cc (bad))) (λ nine. let bad : 6 ≡ 9 = sym is ∙ nine.0 in absurd (cc (bad))) later) cut.cause)
      told.ending
  device_rose (fails still up) is = ⊎_elim (λ six. six.1.rose) (λ nine. let bad : 6 ≡ 9 = sym is ∙ nine.0 in absurd (cc (bad))) up.cause

  pub output_rose : Answers hosts name command before now status v → status ≡ 8 → Rose v.output_before v.output_now
  output_rose (tells {outcome} comes told) is =
      ⊎_elim
      (λ done. let seven = (comes_odd hosts name before now (start_of v) command outcome comes (inr (inr (inr (sym done.own_status ∙ is))))).0 in let bad : 8 ≡ 7 = sym is ∙ done.own_status ∙ seven in absurd (cc (bad)))
      (λ cut.
      ⊎_elim (λ six. let bad : 8 ≡ 6 = sym is ∙ six.0 in absurd (cc (bad))) (λ later. ⊎_elim (λ eight. eight.1.rose) (λ nine. let bad : 8 ≡ 9 = sym is ∙ nine.0 in absurd (cc (bad))) later) cut.cause)
      told.ending
  output_rose (fails still up) is = ⊎_elim (λ six. let bad : 8 ≡ 6 = sym is ∙ six.0 in absurd (cc (bad))) (λ nine. let bad : 8 ≡ 9 = sym is ∙ nine.0 in absurd (cc (bad))) up.cause

  pub source_rose : Answers hosts name command before now status v → status ≡ 7 → OneFailed before now
  source_rose (tells {outcome} comes told) is =
      ⊎_elim
      (λ done. (comes_odd hosts name before now (start_of v) command outcome comes (inr (inr (inl (sym done.own_status ∙ is))))).1)
      (λ cut.
      ⊎_elim (λ six. let bad : 7 ≡ 6 = sym is ∙ six.0 in absurd (cc (bad))) (λ later. ⊎_elim (λ eight. let bad : 7 ≡ 8 = sym is ∙ eight.0 in absurd (cc (bad))) (λ nine. let bad : 7 ≡ 9 = sym is ∙ nine.0 in absurd (cc (bad))) later) cut.cause)
      told.ending
  source_rose (fails still up) is = ⊎_elim (λ six. let bad : 7 ≡ 6 = sym is ∙ six.0 in absurd (cc (bad))) (λ nine. let bad : 7 ≡ 9 = sym is ∙ nine.0 in absurd (cc (bad))) up.cause

told_device_later : (o : Outcome) (status : ℕ) (v : Passage) → IsTold o status v → v.device_before ≤ v.device_now
told_device_later o status v told =
    ⊎_elim (λ done. let is = done.device in omega (arith, is))
    (λ cut. ⊎_elim (λ six. six.1.later) (λ later. ⊎_elim (λ eight. let is = eight.2 in omega (arith, is)) (λ nine. let is = nine.2 in omega (arith, is)) later) cut.cause) told.ending

pub told_output_later : (o : Outcome) (status : ℕ) (v : Passage) → IsTold o status v → v.output_before ≤ v.output_now
told_output_later o status v told =
    ⊎_elim (λ done. let is = done.output in omega (arith, is))
    (λ cut. ⊎_elim (λ six. let is = six.2 in omega (arith, is)) (λ later. ⊎_elim (λ eight. eight.1.later) (λ nine. let is = nine.1 in omega (arith, is)) later) cut.cause) told.ending

pub device_later : (hosts : List Host) (name : List ℕ) (before now : List Seen) (command : Command) (status : ℕ) (v : Passage) → Answers hosts name command before now status v → v.device_before ≤ v.device_now
device_later hosts name before now command status v (tells {outcome} comes told) = told_device_later outcome status v told
device_later hosts name before now command status v (fails still up) = ⊎_elim (λ six. six.1.later) (λ nine. let is = nine.1 in omega (arith, is)) up.cause

pub output_later : (hosts : List Host) (name : List ℕ) (before now : List Seen) (command : Command) (status : ℕ) (v : Passage) → Answers hosts name command before now status v → v.output_before ≤ v.output_now
output_later hosts name before now command status v (tells {outcome} comes told) = told_output_later outcome status v told
output_later hosts name before now command status v (fails still up) = let is = up.unseen.output in omega (arith, is)

-- the words are refused
pub usage_output_rose : (o : Outcome) (status : ℕ) (v : Passage) → status_of_outcome o ≡ 2 → IsTold o status v → status ≡ 8 → Rose v.output_before v.output_now
usage_output_rose o status v own told is =
    ⊎_elim (λ done. let bad : 8 ≡ 2 = sym is ∙ done.own_status ∙ own in absurd (cc (bad)))
    (λ cut. ⊎_elim (λ six. let bad : 8 ≡ 6 = sym is ∙ six.0 in absurd (cc (bad))) (λ later. ⊎_elim (λ eight. eight.1.rose) (λ nine. let bad : 8 ≡ 9 = sym is ∙ nine.0 in absurd (cc (bad))) later) cut.cause) told.ending

pub usage_not_seven : (o : Outcome) (status : ℕ) (v : Passage) → status_of_outcome o ≡ 2 → IsTold o status v → status ≡ 7 → ⊥
usage_not_seven o status v own told is =
    ⊎_elim (λ done. let bad : 7 ≡ 2 = sym is ∙ done.own_status ∙ own in cc (bad))
    (λ cut. ⊎_elim (λ six. let bad : 7 ≡ 6 = sym is ∙ six.0 in cc (bad)) (λ later. ⊎_elim (λ eight. let bad : 7 ≡ 8 = sym is ∙ eight.0 in cc (bad)) (λ nine. let bad : 7 ≡ 9 = sym is ∙ nine.0 in cc (bad)) later) cut.cause) told.ending

pub usage_device_later : (o : Outcome) (status : ℕ) (v : Passage) → IsTold o status v → v.device_before ≤ v.device_now
usage_device_later o status v told = told_device_later o status v told
