-- A guarded run comes to one outcome for its two texts and what the files hold.
use Rattle.std.proofs.Common.{◌≡◌, ◌≢◌, ◌≤◌, ◌<◌, ⊎_elim, ℕ, List, [], ◌∷◌, length, Some, refl, sym, ap, ◌∙◌, subst, arith}
use Rattle.std.proofs.lemmas.Bool.{cases_lt}
use Rattle.hera_meaning.specs.declared.schemas.RelDecl.{RelDecl}
use Rattle.hera_meaning.specs.Trees.{Program_tree}
use Rattle.hera_host.specs.Tables.{Host}
use Rattle.hera_rules.specs.Bound.{bound}
use Rattle.hera_bind.specs.Having.{AllHas}
use Rattle.hera_script.specs.declared.cause.Cause.{Cause}
use Rattle.hera_script.specs.declared.cause.Cause.TheVariants.{Unknown, Mismatch}
use Rattle.hera_script.specs.Refusing.{IsRefused, too_long as long_script, bad_utf8 as script_utf8, bad_token as script_token, too_deep as script_deep, syntax as script_syntax, types}
use Rattle.hera_syntax.specs.Tokens.{script_limit}
use Rattle.hera_volume.specs.declared.file_id.FileId.{FileId}
use Rattle.hera_store.specs.Databases.{Database, held}
use Rattle.hera_guard.specs.declared.table.Guard.{Guard}
use Rattle.hera_guard.specs.Guarded.{guarded_of}
use Rattle.hera_guard_lines.specs.declared.lines.GuardLine.{GuardLine}
use Rattle.hera_guard_lines.specs.declared.naming.NameFault.{NameFault}
use Rattle.hera_guard_lines.specs.declared.naming.NameFault.TheVariants as faults
use Rattle.hera_guard_lines.specs.Naming.{Mean}
use Rattle.hera_guarded.specs.Guarding.{IsUnfit, differs, unknown, mismatched, IsBarred, closed, unfit, guarded_outcome, GuardsTo, barred, overflows, runs}
use Rattle.hera_guarded.specs.Reading.{IsWritten, IsRulesRefused, too_long, bad_utf8, bad_token, too_deep, syntax}
use Rattle.hera_guarded.proofs.Named.{one_mean, one_fault, never_unfit}
use Rattle.hera_outcome.specs.declared.refusal.Refusal.{Refusal}
use Rattle.hera_outcome.specs.declared.refusal.Refusal.TheVariants.{Unread, Script, Differing}
use Rattle.hera_outcome.specs.Outcomes.{Outcome, refused, too_long as too_long_half}
use Rattle.hera_outcome.specs.Passages.{Start}
use Rattle.hera_run.specs.Folder.{IsThere, StartsAt}
use Rattle.hera_top.specs.Guarding.{AreLinesOf, misses_rules, refuses_rules, GuardsFor, refuses, performs, misses_script, reads_script, OfRules, no_lines, has_lines}
use Rattle.hera_top.specs.Sources.{Seen, IsRead}
use Rattle.hera_top.specs.Told.{HaveLeft}
use Rattle.outcome_laws.proofs.OneOutcome.{OneFound, OneEnd, OneVersion, OneRefusal, NeverBoth, OneProgram, same_refusal, first_text, differs_one, lacks_none, full_or_starts, gate_same, same_db, one_closed, closed_or_held, held_or_closed, starts_first, starts_second, full_first, full_second}
use Rattle.outcome_laws.proofs.Wholes.{whole_text, long_text}

-- RULES is refused once
abbrev pub OneRules : Type 0
OneRules = (script : List ℕ) (c d : Cause) (a b : ℕ) → IsRulesRefused script c a → IsRulesRefused script d b → (c ≡ d) × (a ≡ b)

-- or writes one list of lines
abbrev pub OneLines : Type 0
OneLines = (script : List ℕ) (x y : List GuardLine) → IsWritten script x → IsWritten script y → x ≡ y

-- and never both
abbrev pub NeverRules : Type 0
NeverRules = (script : List ℕ) (lines : List GuardLine) (c : Cause) (a : ℕ) → IsWritten script lines → IsRulesRefused script c a → ⊥

-- ---- sources

abbrev second_text : List (List ℕ) → List ℕ
second_text [] = []
second_text (text ∷ texts) = first_text texts

told_both : (b f : Seen) (texts : List (List ℕ)) → HaveLeft texts (b ∷ f ∷ []) → (b.left ≡ Some (first_text texts)) × (f.left ≡ Some (second_text texts))
told_both b f [] told = absurd told
told_both b f (rules ∷ []) told = absurd told.1
told_both b f (rules ∷ script ∷ more) told = (told.0, told.1.0)

long_rules : (rules bytes : List ℕ) (cause : Cause) (at : ℕ) → script_limit < length bytes → script_limit < length rules → IsRulesRefused bytes cause at → IsRulesRefused rules cause at
long_rules rules bytes _ _ long more (too_long over) = too_long more
long_rules rules bytes _ _ long more (bad_utf8 short bad) = absurd (omega (arith, long, short))
long_rules rules bytes _ _ long more (bad_token short fails) = absurd (omega (arith, long, short))
long_rules rules bytes _ _ long more (too_deep short lexed deep) = absurd (omega (arith, long, short))
long_rules rules bytes _ _ long more (syntax has fault) = absurd (let short = has.short in omega (arith, long, short))

-- what is told of the bytes that came holds of all
told_refusal : (rules bytes : List ℕ) (b n : Seen) (cause : Cause) (at : ℕ) → b.left ≡ Some rules → IsRead script_limit b n bytes → IsRulesRefused bytes cause at → IsRulesRefused rules cause at
told_refusal rules bytes b n cause at is read refusal =
    ⊎_elim (λ (long : script_limit < length bytes). long_rules rules bytes cause at long (long_text script_limit rules bytes b n is read long) refusal)
    (λ (short : length bytes ≤ script_limit). subst (λ (l : List ℕ). IsRulesRefused l cause at) (sym (whole_text script_limit rules bytes b n is read short)) refusal) (cases_lt script_limit (length bytes))

told_lines : (rules : List ℕ) (b n : Seen) (lines : List GuardLine) → b.left ≡ Some rules → AreLinesOf b n lines → IsWritten rules lines
told_lines rules b n lines is are = subst (λ (l : List ℕ). IsWritten l lines) (sym (whole_text script_limit rules are.rules b n is are.read are.written.has.short)) are.written

long_refused : (hosts : List Host) (script bytes : List ℕ) (cause : Cause) (at : ℕ) → script_limit < length bytes → script_limit < length script → IsRefused hosts bytes cause at → IsRefused hosts script cause at
long_refused hosts script bytes _ _ long more (long_script over) = long_script more
long_refused hosts script bytes _ _ long more (script_utf8 short bad) = absurd (omega (arith, long, short))
long_refused hosts script bytes _ _ long more (script_token short fails) = absurd (omega (arith, long, short))
long_refused hosts script bytes _ _ long more (script_deep short lexed deep) = absurd (omega (arith, long, short))
long_refused hosts script bytes _ _ long more (script_syntax has fault) = absurd (let short = has.short in omega (arith, long, short))
long_refused hosts script bytes _ _ long more (types has text first is) = absurd (let short = has.short in omega (arith, long, short))

module _ (hosts : List Host) (lines : List GuardLine) (turns : ℕ) (s : Start) where
  long_guards : (script bytes : List ℕ) (o : Outcome) → script_limit < length bytes → script_limit < length script → GuardsFor hosts lines turns bytes s o → GuardsFor hosts lines turns script s o
  long_guards script bytes _ long more (refuses {cause = cause} {at = at} refusal) = refuses (long_refused hosts script bytes cause at long more refusal)
  long_guards script bytes o long more (performs short accepted came) = absurd (omega (arith, long, short))

  told_guards : (script bytes : List ℕ) (b n : Seen) (o : Outcome) → b.left ≡ Some script → IsRead script_limit b n bytes → GuardsFor hosts lines turns bytes s o → GuardsFor hosts lines turns script s o
  told_guards script bytes b n o is read came =
      ⊎_elim (λ (long : script_limit < length bytes). long_guards script bytes o long (long_text script_limit script bytes b n is read long) came)
      (λ (short : length bytes ≤ script_limit). subst (λ (l : List ℕ). GuardsFor hosts lines turns l s o) (sym (whole_text script_limit script bytes b n is read short)) came) (cases_lt script_limit (length bytes))

-- ---- folders

abbrev place_of : NameFault → ℕ
place_of (faults.Unknown at) = at
place_of (faults.Mismatch at) = at
place_of faults.Memory = 0

module _ (hosts : List Host) (lines : List GuardLine) (own catalogue : List RelDecl) where
  -- what does not fit is one thing
  one_unfit : (a b : Refusal) → IsUnfit hosts lines own catalogue a → IsUnfit hosts lines own catalogue b → refused a ≡ refused b
  one_unfit _ _ (differs {name = m} x) (differs {name = n} y) = ap (λ (l : List ℕ). refused (Differing l)) (differs_one catalogue own m n x y)
  one_unfit _ _ (differs {name = m} x) (unknown has y) = absurd (lacks_none catalogue own m x has)
  one_unfit _ _ (differs {name = m} x) (mismatched has y) = absurd (lacks_none catalogue own m x has)
  one_unfit _ _ (unknown has x) (differs {name = n} y) = absurd (lacks_none catalogue own n y has)
  one_unfit _ _ (unknown {at = m} has x) (unknown {at = n} also y) = ap (λ (k : ℕ). refused (Script Unknown k)) (ap place_of (one_fault catalogue hosts lines (faults.Unknown m) (faults.Unknown n) x y))
  one_unfit _ _ (unknown {at = m} has x) (mismatched {at = n} also y) = (let bad : faults.Unknown m ≡ faults.Mismatch n = one_fault catalogue hosts lines (faults.Unknown m) (faults.Mismatch n) x y in absurd (cc (bad)))
  one_unfit _ _ (mismatched has x) (differs {name = n} y) = absurd (lacks_none catalogue own n y has)
  one_unfit _ _ (mismatched {at = m} has x) (unknown {at = n} also y) = (let bad : faults.Mismatch m ≡ faults.Unknown n = one_fault catalogue hosts lines (faults.Mismatch m) (faults.Unknown n) x y in absurd (cc (bad)))
  one_unfit _ _ (mismatched {at = m} has x) (mismatched {at = n} also y) = ap (λ (k : ℕ). refused (Script Mismatch k)) (ap place_of (one_fault catalogue hosts lines (faults.Mismatch m) (faults.Mismatch n) x y))

module _ (found : OneFound) (end : OneEnd) (version : OneVersion) (files : FileId → List ℕ) (s t : Start) (told : s.told) (also : t.told) (first : (f : FileId) → (s.disks f).bytes ≡ files f) (second : (f : FileId) → (t.disks f).bytes ≡ files f) where
  same : (db other : Database) → IsThere s (held db) → IsThere t (held other) → db ≡ other
  same db other x y = same_db found end version files s t told also first second db other x y

  module _ (hosts : List Host) (lines : List GuardLine) (turns : ℕ) (p : Program_tree) where
    unfit_or_fits : (db other : Database) (guards : List Guard) (r : Refusal) → db ≡ other → IsUnfit hosts lines p.relations db.catalogue r → AllHas other.catalogue p.relations → Mean other.catalogue hosts lines guards → ⊥
    unfit_or_fits db other guards r is bad has mean = never_unfit hosts lines p.relations other.catalogue guards r has mean (subst (λ (d : Database). IsUnfit hosts lines p.relations d.catalogue r) is bad)

    one_barred : (a b : Refusal) → IsBarred hosts lines p.relations s a → IsBarred hosts lines p.relations t b → refused a ≡ refused b
    one_barred a b (closed x) (closed y) = one_closed found end version files s t told also first second a b x y
    one_barred a b (closed x) (unfit {db = db} y bad) = absurd (closed_or_held found end version files s t told also first second a db x y)
    one_barred a b (unfit {db = db} x bad) (closed y) = absurd (held_or_closed found end version files s t told also first second db b x y)
    one_barred a b (unfit {db = db} x bad) (unfit {db = other} y worse) =
        one_unfit hosts lines p.relations db.catalogue a b bad (subst (λ (d : Database). IsUnfit hosts lines p.relations d.catalogue b) (sym (same db other x y)) worse)

    barred_or_fits : (r : Refusal) (other : Database) (guards : List Guard) → IsBarred hosts lines p.relations s r → IsThere t (held other) → AllHas other.catalogue p.relations → Mean other.catalogue hosts lines guards → ⊥
    barred_or_fits r other guards (closed x) y has mean = closed_or_held found end version files s t told also first second r other x y
    barred_or_fits r other guards (unfit {db = db} x bad) y has mean = unfit_or_fits db other guards r (same db other x y) bad has mean

    fits_or_barred : (db : Database) (r : Refusal) (guards : List Guard) → IsThere s (held db) → AllHas db.catalogue p.relations → Mean db.catalogue hosts lines guards → IsBarred hosts lines p.relations t r → ⊥
    fits_or_barred db r guards x has mean (closed y) = held_or_closed found end version files s t told also first second db r x y
    fits_or_barred db r guards x has mean (unfit {db = other} y bad) = unfit_or_fits other db guards r (sym (same db other x y)) bad has mean

    same_run : (db other : Database) (gate next : ℕ) (guards more : List Guard) → db ≡ other → gate ≡ next → guards ≡ more
        → guarded_outcome db gate (guarded_of (bound p db.catalogue) db.state hosts turns guards) ≡ guarded_outcome other next (guarded_of (bound p other.catalogue) other.state hosts turns more)
    same_run db other gate next guards more is place lines_mean =
        ap (λ (x : Database). guarded_outcome x gate (guarded_of (bound p x.catalogue) x.state hosts turns guards)) is
        ∙ ap (λ (n : ℕ). guarded_outcome other n (guarded_of (bound p other.catalogue) other.state hosts turns guards)) place
        ∙ ap (λ (gs : List Guard). guarded_outcome other next (guarded_of (bound p other.catalogue) other.state hosts turns gs)) lines_mean

    one_guarded : (a b : Outcome) → GuardsTo hosts lines turns p s a → GuardsTo hosts lines turns p t b → a ≡ b
    one_guarded _ _ (barred {refusal = r} x) (barred {refusal = q} y) = one_barred r q x y
    one_guarded _ _ (barred {refusal = r} x) (overflows {db = db} {guards = gs} y over has mean) = absurd (barred_or_fits r db gs x y has mean)
    one_guarded _ _ (barred {refusal = r} x) (runs {db = db} {guards = gs} y ends has mean) = absurd (barred_or_fits r db gs x y has mean)
    one_guarded _ _ (overflows {db = db} {guards = gs} x over has mean) (barred {refusal = r} y) = absurd (fits_or_barred db r gs x has mean y)
    one_guarded _ _ (overflows {db = db} x over has mean) (overflows {db = other} y past too means) = ap too_long_half (same db other x y)
    one_guarded _ _ (overflows {db = db} x over has mean) (runs {db = other} {gate = n} y ends too means) =
        absurd (full_or_starts end version files db n (full_first found end version files s t told also first second db over) (subst (λ (d : Database). StartsAt files d n) (sym (same db other x y)) (starts_second found end version files s t told also first second other n ends)))
    one_guarded _ _ (runs {db = db} {guards = gs} x starts has mean) (barred {refusal = r} y) = absurd (fits_or_barred db r gs x has mean y)
    one_guarded _ _ (runs {db = db} {gate = n} x starts has mean) (overflows {db = other} y past too means) =
        absurd (full_or_starts end version files other n (full_second found end version files s t told also first second other past) (subst (λ (d : Database). StartsAt files d n) (same db other x y) (starts_first found end version files s t told also first second db n starts)))
    one_guarded _ _ (runs {db = db} {gate = n} {guards = gs} x starts has mean) (runs {db = other} {gate = m} {guards = hs} y ends too means) =
        let is = same db other x y in
        same_run db other n m gs hs is
        (gate_same end version files db n m (starts_first found end version files s t told also first second db n starts) (subst (λ (d : Database). StartsAt files d m) (sym is) (starts_second found end version files s t told also first second other m ends)))
        (one_mean db.catalogue hosts lines gs hs mean (subst (λ (d : Database). Mean d.catalogue hosts lines hs) (sym is) means))

  -- ---- texts

  module _ (refusal : OneRefusal) (never : NeverBoth) (program : OneProgram) (hosts : List Host) (turns : ℕ) where
    one_guards : (lines : List GuardLine) (script : List ℕ) (a b : Outcome) → GuardsFor hosts lines turns script s a → GuardsFor hosts lines turns script t b → a ≡ b
    one_guards lines script _ _ (refuses {cause = c} {at = m} x) (refuses {cause = d} {at = n} y) = same_refusal c d m n (refusal hosts script c d m n x y)
    one_guards lines script _ _ (refuses {cause = c} {at = m} x) (performs {p = p} short accepted came) = absurd (never hosts script p c m short accepted x)
    one_guards lines script _ _ (performs {p = p} short accepted came) (refuses {cause = c} {at = m} x) = absurd (never hosts script p c m short accepted x)
    one_guards lines script a b (performs {p = p} short accepted came) (performs {p = q} fits other too) =
        one_guarded hosts lines turns p a b came (subst (λ (r : Program_tree). GuardsTo hosts lines turns r t b) (sym (program hosts script p q accepted other)) too)

    same_lines : (script : List ℕ) (x y : List GuardLine) (a b : Outcome) → x ≡ y → GuardsFor hosts x turns script s a → GuardsFor hosts y turns script t b → a ≡ b
    same_lines script x y a b is came too = one_guards x script a b came (subst (λ (l : List GuardLine). GuardsFor hosts l turns script t b) (sym is) too)

    pub one_of_rules : OneRules → OneLines → NeverRules → (texts : List (List ℕ)) (before now later after : List Seen) (a b : Outcome)
        → HaveLeft texts before → HaveLeft texts later → OfRules hosts turns s before now a → OfRules hosts turns t later after b → a ≢ refused Unread → b ≢ refused Unread → a ≡ b
    one_of_rules rules line_lists both texts _ _ _ _ _ b x y (no_lines (misses_rules is)) second_one not_a not_b = absurd (not_a refl)
    one_of_rules rules line_lists both texts _ _ _ _ _ b x y (has_lines are (misses_script is)) second_one not_a not_b = absurd (not_a refl)
    one_of_rules rules line_lists both texts _ _ _ _ _ _ x y (no_lines (refuses_rules bytes read bad)) (no_lines (misses_rules is)) not_a not_b = absurd (not_b refl)
    one_of_rules rules line_lists both texts _ _ _ _ _ _ x y (no_lines (refuses_rules bytes read bad)) (has_lines are (misses_script is)) not_a not_b = absurd (not_b refl)
    one_of_rules rules line_lists both texts _ _ _ _ _ _ x y (no_lines {b = p} {n = q} {file = f} (refuses_rules {cause = c} {at = i} bytes read bad)) (no_lines {b = m} {n = k} {file = g} (refuses_rules {cause = d} {at = j} others also_read worse)) not_a not_b =
        same_refusal c d i j
        (rules (first_text texts) c d i j (told_refusal (first_text texts) bytes p q c i (told_both p f texts x).0 read bad) (told_refusal (first_text texts) others m k d j (told_both m g texts y).0 also_read worse))
    one_of_rules rules line_lists both texts _ _ _ _ _ b x y (no_lines {b = p} {n = q} {file = f} (refuses_rules {cause = c} {at = i} bytes read bad)) (has_lines {b = m} {n = k} {file_before = g} {lines = ls} are (reads_script script also_read came)) not_a not_b =
        absurd (both (first_text texts) ls c i (told_lines (first_text texts) m k ls (told_both m g texts y).0 are) (told_refusal (first_text texts) bytes p q c i (told_both p f texts x).0 read bad))
    one_of_rules rules line_lists both texts _ _ _ _ a _ x y (has_lines are (reads_script script read came)) (no_lines (misses_rules is)) not_a not_b = absurd (not_b refl)
    one_of_rules rules line_lists both texts _ _ _ _ a _ x y (has_lines are (reads_script script read came)) (has_lines also (misses_script is)) not_a not_b = absurd (not_b refl)
    one_of_rules rules line_lists both texts _ _ _ _ a _ x y (has_lines {b = p} {n = q} {file_before = f} {lines = ls} are (reads_script script read came)) (no_lines {b = m} {n = k} {file = g} (refuses_rules {cause = c} {at = i} bytes also_read bad)) not_a not_b =
        absurd (both (first_text texts) ls c i (told_lines (first_text texts) p q ls (told_both p f texts x).0 are) (told_refusal (first_text texts) bytes m k c i (told_both m g texts y).0 also_read bad))
    one_of_rules rules line_lists both texts _ _ _ _ a b x y (has_lines {b = p} {n = q} {file_before = f} {file_now = e} {lines = ls} are (reads_script script read came)) (has_lines {b = m} {n = k} {file_before = g} {file_now = h} {lines = ms} also (reads_script others also_read too)) not_a not_b =
        same_lines (second_text texts) ls ms a b
        (line_lists (first_text texts) ls ms (told_lines (first_text texts) p q ls (told_both p f texts x).0 are) (told_lines (first_text texts) m k ms (told_both m g texts y).0 also))
        (told_guards hosts ls turns s (second_text texts) script f e a (told_both p f texts x).1 read came) (told_guards hosts ms turns t (second_text texts) others g h b (told_both m g texts y).1 also_read too)
