-- A command comes to one outcome for a script and what the files hold.
use Rattle.std.proofs.Common.{◌≡◌, ◌≢◌, ◌≤◌, ◌<◌, ◌⊎◌, inl, inr, ℕ, Bool, true, false, List, [], ◌∷◌, length, Some, None, refl, sym, ap, ◌∙◌, subst, arith}
use Rattle.hera_meaning.specs.declared.schemas.RelDecl.{RelDecl}
use Rattle.hera_meaning.specs.Deltas.{State}
use Rattle.hera_meaning.specs.Run.{run_of}
use Rattle.hera_meaning.specs.Trees.{Program_tree}
use Rattle.hera_host.specs.Tables.{Host, specs_of}
use Rattle.hera_rules.specs.Accepted.{Accepted}
use Rattle.hera_rules.specs.Bound.{bound, Differs, differs_here, differs_later}
use Rattle.hera_bind.specs.Having.{AllHas}
use Rattle.hera_script.specs.declared.cause.Cause.{Cause}
use Rattle.hera_script.specs.Refusing.{IsRefused}
use Rattle.hera_syntax.specs.Tokens.{script_limit}
use Rattle.hera_volume.specs.declared.file_id.FileId.{FileId}
use Rattle.hera_volume.specs.declared.file_id.FileId.TheVariants.{Select}
use Rattle.rel_format.specs.declared.version.Version.{Version}
use Rattle.rel_format.specs.declared.version.Version.TheVariants.{One, Two}
use Rattle.rel_format.specs.Journal.{IsHalf, half_limit}
use Rattle.rel_format.specs.Versions.{format_of, version_in}
use Rattle.commit_journal.specs.Halves.{IsHalfTo}
use Rattle.hera_store.specs.Databases.{Database, half_named, Names, FilesFound, absent, spoilt, held, IsFound}
use Rattle.hera_store.specs.Faults.{half_with}
use Rattle.hera_store.specs.Widened.{widened as widened_to}
use Rattle.hera_meaning.specs.Wider.{Wider, first_narrowed}
use Rattle.hera_meaning.proofs.WiderLaws.{wider_narrows_none}
use Rattle.std.proofs.lemmas.Option.{none-some, same_Some}
use Rattle.hera_outcome.specs.declared.refusal.Refusal.{Refusal}
use Rattle.hera_outcome.specs.declared.refusal.Refusal.TheVariants.{Unread, Script, Damaged, Differing, Narrows, Record as bad_record}
use Rattle.hera_outcome.specs.Outcomes.{Outcome, refused, prints, renewed, widened, too_long}
use Rattle.hera_outcome.specs.Passages.{Start}
use Rattle.hera_run.specs.Folder.{IsThere, IsClosed, finds_none, finds_damage, IsReplaced, StartsAt, Overfills, IsStarting, IsOverfull, outcome_from, RunsTo, closed as run_closed, differs, overflows as run_overflows, runs as run_runs}
use Rattle.hera_row.specs.Numbers.{number_named}
use Rattle.hera_csv.specs.Records.{records_of, bad_in}
use Rattle.hera_csv.specs.Writers.{csv_of}
use Rattle.hera_meaning.specs.Deltas.{schema_of, rows_at}
use Rattle.hera_transfer.specs.Transfers.{data_limit, ExportsTo, shut, unknown, writes, IsGood, import_of, ImportsTo, closed as import_closed, lacks as import_lacks, refuses as import_refuses, overflows as import_overflows, imports}
use Rattle.hera_words.specs.declared.command.Command.{Command}
use Rattle.hera_words.specs.Words.{form_of}
use Rattle.hera_top.specs.Commands.{Performs, checks, lists, evaluates, makes, widens, runs, IsVacant, IsTaken, IsMade, is_made, is_taken, IsWidened, is_shut, is_narrowed, is_wide, is_too_wide, ComesToFor, refuses, performs, Finds, closed, dumps, renews, overflows, tables_text, OfScript, unread, reads, OfFile, misses, is_too_much, takes}
use Rattle.hera_top.specs.Sources.{Seen}
use Rattle.hera_top.specs.Told.{HaveLeft}
use Rattle.outcome_laws.proofs.Wholes.{told_outcome, whole_text, long_text}

-- files hold one thing
abbrev pub OneFound : Type 0
OneFound = (files : FileId → List ℕ) (x y : FilesFound) → IsFound files x → IsFound files y → x ≡ y

-- a half has one last gate
abbrev pub OneEnd : Type 0
OneEnd = (v w : Version) (bytes : List ℕ) (rels rels2 : List RelDecl) (state state2 : State) (end end2 : ℕ) → IsHalfTo (format_of v) bytes rels state end → IsHalfTo (format_of w) bytes rels2 state2 end2 → end ≡ end2

-- and one format
abbrev pub OneVersion : Type 0
OneVersion = (v : Version) (bytes : List ℕ) (rels : List RelDecl) (state : State) → IsHalf (format_of v) bytes rels state → version_in bytes ≡ v

-- ---- the binding

-- the first relation that a catalogue lacks is one
pub differs_one : (catalogue own : List RelDecl) (a b : List ℕ) → Differs catalogue own a → Differs catalogue own b → a ≡ b
differs_one catalogue _ _ _ (differs_here lacks) (differs_here also) = refl
differs_one catalogue _ _ _ (differs_here lacks) (differs_later has rest) = absurd (lacks has.0 has.1 has.2 has.3 has.4)
differs_one catalogue _ _ _ (differs_later has rest) (differs_here lacks) = absurd (lacks has.0 has.1 has.2 has.3 has.4)
differs_one catalogue _ _ _ (differs_later has first) (differs_later also second) = differs_one catalogue _ _ _ first second

-- a catalogue that has all lacks none
pub lacks_none : (catalogue own : List RelDecl) (name : List ℕ) → Differs catalogue own name → AllHas catalogue own → ⊥
lacks_none catalogue _ _ (differs_here lacks) given = let has = given.0 in lacks has.0 has.1 has.2 has.3 has.4
lacks_none catalogue _ _ (differs_later has rest) given = lacks_none catalogue _ _ rest given.1

-- ---- the place where the journal ends

names_one : (bytes : List ℕ) (a b : FileId) → Names bytes a → Names bytes b → a ≡ b
names_one bytes a b first second =
    let same : first.0 ≡ second.0 = let e = sym first.1 ∙ second.1 in cc in
    sym first.2 ∙ ap half_named same ∙ second.2

never_both : OneVersion → (bytes : List ℕ) (rels rels2 : List RelDecl) (state state2 : State) → IsHalf (format_of One) bytes rels state → IsHalf (format_of Two) bytes rels2 state2 → ⊥
never_both version bytes rels rels2 state state2 first second = let is : One ≡ Two = sym (version One bytes rels state first) ∙ version Two bytes rels2 state2 second in cc (is)

module _ (one : OneEnd) (version : OneVersion) (files : FileId → List ℕ) (db : Database) where
  gate_from : (gate next : ℕ) (first : StartsAt files db gate) → IsHalfTo (format_of Two) (files first.half) db.catalogue db.state next ⊎ IsReplaced (files first.half) db next → gate ≡ next
  gate_from gate next first second = by first.starts second
    where
      by : IsHalfTo (format_of Two) (files first.half) db.catalogue db.state gate ⊎ IsReplaced (files first.half) db gate → IsHalfTo (format_of Two) (files first.half) db.catalogue db.state next ⊎ IsReplaced (files first.half) db next → gate ≡ next
      by (inl a) (inl b) = one Two Two (files first.half) db.catalogue db.catalogue db.state db.state gate next a b
      by (inl a) (inr b) = absurd (never_both version (files first.half) db.catalogue db.catalogue db.state db.state b.old a.half)
      by (inr a) (inl b) = absurd (never_both version (files first.half) db.catalogue db.catalogue db.state db.state a.old b.half)
      by (inr a) (inr b) = omega (arith, a.place, b.place)

  pub gate_same : (gate next : ℕ) → StartsAt files db gate → StartsAt files db next → gate ≡ next
  gate_same gate next first second =
      let half : second.half ≡ first.half = names_one (files Select) second.half first.half second.named first.named in
      gate_from gate next first (subst (λ (f : FileId). IsHalfTo (format_of Two) (files f) db.catalogue db.state next ⊎ IsReplaced (files f) db next) half second.starts)

  -- a half that has no room for its database is none behind whose gate a run's records stand
  full_from : (gate : ℕ) (first : StartsAt files db gate) → IsHalf (format_of One) (files first.half) db.catalogue db.state → half_limit < length (half_with db) → ⊥
  full_from gate first old past = by first.starts
    where
      by : IsHalfTo (format_of Two) (files first.half) db.catalogue db.state gate ⊎ IsReplaced (files first.half) db gate → ⊥
      by (inl a) = never_both version (files first.half) db.catalogue db.catalogue db.state db.state old a.half
      by (inr a) = omega (arith, a.fits, past)

  pub full_or_starts : (gate : ℕ) → Overfills files db → StartsAt files db gate → ⊥
  full_or_starts gate over starts =
      let half : over.half ≡ starts.half = names_one (files Select) over.half starts.half over.named starts.named in
      full_from gate starts (subst (λ (f : FileId). IsHalf (format_of One) (files f) db.catalogue db.state) half over.old) over.past

-- ---- scripts

abbrev pub OneRefusal : Type 0
OneRefusal = (hosts : List Host) (script : List ℕ) (c d : Cause) (a b : ℕ) → IsRefused hosts script c a → IsRefused hosts script d b → (c ≡ d) × (a ≡ b)

abbrev pub NeverBoth : Type 0
NeverBoth = (hosts : List Host) (script : List ℕ) (p : Program_tree) (c : Cause) (a : ℕ) → length script ≤ script_limit → Accepted script hosts p → IsRefused hosts script c a → ⊥

abbrev pub OneProgram : Type 0
OneProgram = (hosts : List Host) (script : List ℕ) (p q : Program_tree) → Accepted script hosts p → Accepted script hosts q → p ≡ q

pub same_refusal : (c d : Cause) (a b : ℕ) → (c ≡ d) × (a ≡ b) → refused (Script c a) ≡ refused (Script d b)
same_refusal c d a b (cause, at) = ap (λ (x : Cause). refused (Script x a)) cause ∙ ap (λ (n : ℕ). refused (Script d n)) at

-- what is done with a program decides
module _ (one : OneRefusal) (never : NeverBoth) (program : OneProgram) (hosts : List Host) (command : Command) (script : List ℕ) (s t : Start)
    (done : (p : Program_tree) (a b : Outcome) → Performs hosts p s command a → Performs hosts p t command b → a ≡ b) where
  pub one_for : (a b : Outcome) → ComesToFor hosts script s command a → ComesToFor hosts script t command b → a ≡ b
  one_for _ _ (refuses {cause = c} {at = m} x) (refuses {cause = d} {at = n} y) = same_refusal c d m n (one hosts script c d m n x y)
  one_for _ _ (refuses {cause = c} {at = m} x) (performs {p} short acc did) = absurd (never hosts script p c m short acc x)
  one_for _ _ (performs {p} short acc did) (refuses {cause = c} {at = m} x) = absurd (never hosts script p c m short acc x)
  one_for a b (performs {p} short acc did) (performs {p = q} also other too) =
      done p a b did (subst (λ (r : Program_tree). Performs hosts r t command b) (sym (program hosts script p q acc other)) too)

no_folder : (b : Bool) → b ≡ true → b ≡ false → ⊥
no_folder b some none = (let bad : true ≡ false = sym some ∙ none in cc (bad))

-- a command without a folder
done_apart : (hosts : List Host) (p : Program_tree) (s t : Start) (command : Command) → (form_of command).folder ≡ false → (a b : Outcome) → Performs hosts p s command a → Performs hosts p t command b → a ≡ b
done_apart hosts p s t _ none _ _ checks checks = refl
done_apart hosts p s t _ none _ _ lists lists = refl
done_apart hosts p s t _ none _ _ evaluates evaluates = refl
done_apart hosts p s t _ none _ _ (makes x) (makes y) = absurd (no_folder true refl none)
done_apart hosts p s t _ none _ _ (widens x) (widens y) = absurd (no_folder true refl none)
done_apart hosts p s t _ none _ _ (runs x) (runs y) = absurd (no_folder true refl none)

pub one_apart : OneRefusal → NeverBoth → OneProgram → (hosts : List Host) (command : Command) (script : List ℕ) (s t : Start) (a b : Outcome) → (form_of command).folder ≡ false
    → ComesToFor hosts script s command a → ComesToFor hosts script t command b → a ≡ b
one_apart one never program hosts command script s t a b none x y = one_for one never program hosts command script s t (λ p. done_apart hosts p s t command none) a b x y

-- ---- texts

-- the text of the first source
abbrev pub first_text : List (List ℕ) → List ℕ
first_text [] = []
first_text (text ∷ texts) = text

pub told_text : (b : Seen) (texts : List (List ℕ)) → HaveLeft texts (b ∷ []) → b.left ≡ Some (first_text texts)
told_text b [] told = absurd told
told_text b (text ∷ texts) told = told.0

-- ---- folders

module _ (one : OneFound) (end : OneEnd) (version : OneVersion) (files : FileId → List ℕ) (s t : Start) (told : s.told) (also : t.told) (first : (f : FileId) → (s.disks f).bytes ≡ files f) (second : (f : FileId) → (t.disks f).bytes ≡ files f) where
  abbrev read_first : (λ (f : FileId). (s.disks f).bytes) ≡ files
  read_first = λ i f. first f i

  abbrev read_second : (λ (f : FileId). (t.disks f).bytes) ≡ files
  read_second = λ i f. second f i

  both : (x y : FilesFound) → IsThere s x → IsThere t y → x ≡ y
  both x y here there = one files x y (subst (λ (g : FileId → List ℕ). IsFound g x) read_first (here told)) (subst (λ (g : FileId → List ℕ). IsFound g y) read_second (there also))

  pub same_db : (db other : Database) → IsThere s (held db) → IsThere t (held other) → db ≡ other
  same_db db other x y = let is = both (held db) (held other) x y in cc (is)

  same_damage : (f g : FileId) (a b : ℕ) → spoilt f a ≡ spoilt g b → refused (Damaged f a) ≡ refused (Damaged g b)
  same_damage f g a b is =
      let file : f ≡ g = cc (is) in
      let place : a ≡ b = cc (is) in
      ap (λ (h : FileId). refused (Damaged h a)) file ∙ ap (λ (n : ℕ). refused (Damaged g n)) place

  pub one_closed : (a b : Refusal) → IsClosed s a → IsClosed t b → refused a ≡ refused b
  one_closed _ _ (finds_none x) (finds_none y) = refl
  one_closed _ _ (finds_none x) (finds_damage {file = f} {at = n} y) = let is = both absent (spoilt f n) x y in absurd (cc (is))
  one_closed _ _ (finds_damage {file = f} {at = n} x) (finds_none y) = let is = both (spoilt f n) absent x y in absurd (cc (is))
  one_closed _ _ (finds_damage {file = f} {at = n} x) (finds_damage {file = g} {at = m} y) = same_damage f g n m (both (spoilt f n) (spoilt g m) x y)

  pub closed_or_held : (r : Refusal) (db : Database) → IsClosed s r → IsThere t (held db) → ⊥
  closed_or_held _ db (finds_none x) y = let is = both absent (held db) x y in cc (is)
  closed_or_held _ db (finds_damage {file = f} {at = n} x) y = let is = both (spoilt f n) (held db) x y in cc (is)

  pub held_or_closed : (db : Database) (r : Refusal) → IsThere s (held db) → IsClosed t r → ⊥
  held_or_closed db _ x (finds_none y) = let is = both (held db) absent x y in cc (is)
  held_or_closed db _ x (finds_damage {file = f} {at = n} y) = let is = both (held db) (spoilt f n) x y in cc (is)

  pub starts_first : (db : Database) (gate : ℕ) → IsStarting s db gate → StartsAt files db gate
  starts_first db gate starts = subst (λ (g : FileId → List ℕ). StartsAt g db gate) read_first (starts told)

  pub starts_second : (db : Database) (gate : ℕ) → IsStarting t db gate → StartsAt files db gate
  starts_second db gate starts = subst (λ (g : FileId → List ℕ). StartsAt g db gate) read_second (starts also)

  pub full_first : (db : Database) → IsOverfull s db → Overfills files db
  full_first db over = subst (λ (g : FileId → List ℕ). Overfills g db) read_first (over told)

  pub full_second : (db : Database) → IsOverfull t db → Overfills files db
  full_second db over = subst (λ (g : FileId → List ℕ). Overfills g db) read_second (over also)

  module _ (hosts : List Host) (turns : ℕ) (p : Program_tree) where
    same_run : (db other : Database) (gate next : ℕ) → db ≡ other → gate ≡ next
        → outcome_from db gate (run_of (bound p db.catalogue) db.state (specs_of hosts) turns) ≡ outcome_from other next (run_of (bound p other.catalogue) other.state (specs_of hosts) turns)
    same_run db other gate next same place =
        ap (λ (x : Database). outcome_from x gate (run_of (bound p x.catalogue) x.state (specs_of hosts) turns)) same
        ∙ ap (λ (n : ℕ). outcome_from other n (run_of (bound p other.catalogue) other.state (specs_of hosts) turns)) place

    one_run : (a b : Outcome) → RunsTo hosts turns p s a → RunsTo hosts turns p t b → a ≡ b
    one_run _ _ (run_closed {refusal = r} x) (run_closed {refusal = q} y) = one_closed r q x y
    one_run _ _ (run_closed {refusal = r} x) (differs {db = db} y bad) = absurd (closed_or_held r db x y)
    one_run _ _ (run_closed {refusal = r} x) (run_overflows {db = db} y o h) = absurd (closed_or_held r db x y)
    one_run _ _ (run_closed {refusal = r} x) (run_runs {db = db} y e h) = absurd (closed_or_held r db x y)
    one_run _ _ (differs {db = db} x bad) (run_closed {refusal = r} y) = absurd (held_or_closed db r x y)
    one_run _ _ (differs {db = db} {name = m} x bad) (differs {db = other} {name = n} y worse) =
        ap (λ (l : List ℕ). refused (Differing l)) (differs_one db.catalogue p.relations m n bad (subst (λ (d : Database). Differs d.catalogue p.relations n) (sym (same_db db other x y)) worse))
    one_run _ _ (differs {db = db} {name = m} x bad) (run_overflows {db = other} y o h) =
        absurd (lacks_none db.catalogue p.relations m bad (subst (λ (d : Database). AllHas d.catalogue p.relations) (sym (same_db db other x y)) h))
    one_run _ _ (differs {db = db} {name = m} x bad) (run_runs {db = other} y e h) =
        absurd (lacks_none db.catalogue p.relations m bad (subst (λ (d : Database). AllHas d.catalogue p.relations) (sym (same_db db other x y)) h))
    one_run _ _ (run_overflows {db = db} x o h) (run_closed {refusal = r} y) = absurd (held_or_closed db r x y)
    one_run _ _ (run_overflows {db = db} x o h) (differs {db = other} {name = m} y bad) =
        absurd (lacks_none other.catalogue p.relations m bad (subst (λ (d : Database). AllHas d.catalogue p.relations) (same_db db other x y) h))
    one_run _ _ (run_overflows {db = db} x o h) (run_overflows {db = other} y q g) = ap too_long (same_db db other x y)
    one_run _ _ (run_overflows {db = db} x o h) (run_runs {db = other} {gate = m} y f g) =
        absurd (full_or_starts end version files db m (full_first db o) (subst (λ (d : Database). StartsAt files d m) (sym (same_db db other x y)) (starts_second other m f)))
    one_run _ _ (run_runs {db = db} x e h) (run_closed {refusal = r} y) = absurd (held_or_closed db r x y)
    one_run _ _ (run_runs {db = db} x e h) (differs {db = other} {name = m} y bad) =
        absurd (lacks_none other.catalogue p.relations m bad (subst (λ (d : Database). AllHas d.catalogue p.relations) (same_db db other x y) h))
    one_run _ _ (run_runs {db = db} {gate = n} x e h) (run_overflows {db = other} y q g) =
        absurd (full_or_starts end version files other n (full_second other q) (subst (λ (d : Database). StartsAt files d n) (same_db db other x y) (starts_first db n e)))
    one_run _ _ (run_runs {db = db} {gate = n} x e h) (run_runs {db = other} {gate = m} y f g) =
        let same = same_db db other x y in
        same_run db other n m same (gate_same end version files db n m (starts_first db n e) (subst (λ (d : Database). StartsAt files d m) (sym same) (starts_second other m f)))

  vacant_or_taken : IsVacant s → IsTaken t → ⊥
  vacant_or_taken vacant taken = taken also (second Select ∙ sym (first Select) ∙ vacant told)

  taken_or_vacant : IsTaken s → IsVacant t → ⊥
  taken_or_vacant taken vacant = taken told (first Select ∙ sym (second Select) ∙ vacant also)

  one_made : (rels : List RelDecl) (a b : Outcome) → IsMade rels s a → IsMade rels t b → a ≡ b
  one_made rels _ _ (is_made x) (is_made y) = refl
  one_made rels _ _ (is_made x) (is_taken y) = absurd (vacant_or_taken x y)
  one_made rels _ _ (is_taken x) (is_made y) = absurd (taken_or_vacant x y)
  one_made rels _ _ (is_taken x) (is_taken y) = refl

  module _ (rels : List RelDecl) where
    narrow_or_wide : (db : Database) (name : List ℕ) → first_narrowed db.catalogue rels ≡ Some name → Wider db.catalogue rels → ⊥
    narrow_or_wide db name first wider = none-some name (sym (wider_narrows_none db.catalogue rels wider) ∙ first)

    same_wider : (db other : Database) → db ≡ other → Wider other.catalogue rels → Wider db.catalogue rels
    same_wider db other same wider = subst (λ (d : Database). Wider d.catalogue rels) (sym same) wider

    wide_or_long : (db other : Database) → db ≡ other → length (half_with (widened_to db rels)) ≤ half_limit → half_limit < length (half_with (widened_to other rels)) → ⊥
    wide_or_long db other same short long =
        let here : half_limit < length (half_with (widened_to db rels)) = subst (λ (d : Database). half_limit < length (half_with (widened_to d rels))) (sym same) long in
        omega (arith, short, here)

    one_widened : (a b : Outcome) → IsWidened rels s a → IsWidened rels t b → a ≡ b
    one_widened _ _ (is_shut {refusal = r} x) (is_shut {refusal = q} y) = one_closed r q x y
    one_widened _ _ (is_shut {refusal = r} x) (is_narrowed {db = db} y first_one) = absurd (closed_or_held r db x y)
    one_widened _ _ (is_shut {refusal = r} x) (is_wide {db = db} y wider short) = absurd (closed_or_held r db x y)
    one_widened _ _ (is_shut {refusal = r} x) (is_too_wide {db = db} y wider long) = absurd (closed_or_held r db x y)
    one_widened _ _ (is_narrowed {db = db} x first_one) (is_shut {refusal = r} y) = absurd (held_or_closed db r x y)
    one_widened _ _ (is_narrowed {db = db} {relation = m} x first_one) (is_narrowed {db = other} {relation = n} y next_one) =
        ap (λ (l : List ℕ). refused (Narrows l)) (same_Some m n (sym first_one ∙ subst (λ (d : Database). first_narrowed d.catalogue rels ≡ Some n) (sym (same_db db other x y)) next_one))
    one_widened _ _ (is_narrowed {db = db} {relation = m} x first_one) (is_wide {db = other} y wider short) = absurd (narrow_or_wide db m first_one (same_wider db other (same_db db other x y) wider))
    one_widened _ _ (is_narrowed {db = db} {relation = m} x first_one) (is_too_wide {db = other} y wider long) = absurd (narrow_or_wide db m first_one (same_wider db other (same_db db other x y) wider))
    one_widened _ _ (is_wide {db = db} x wider short) (is_shut {refusal = r} y) = absurd (held_or_closed db r x y)
    one_widened _ _ (is_wide {db = db} x wider short) (is_narrowed {db = other} {relation = n} y first_one) = absurd (narrow_or_wide other n first_one (same_wider other db (sym (same_db db other x y)) wider))
    one_widened _ _ (is_wide {db = db} x wider short) (is_wide {db = other} y too fits) = ap (λ (d : Database). widened d (widened_to d rels)) (same_db db other x y)
    one_widened _ _ (is_wide {db = db} x wider short) (is_too_wide {db = other} y too long) = absurd (wide_or_long db other (same_db db other x y) short long)
    one_widened _ _ (is_too_wide {db = db} x wider long) (is_shut {refusal = r} y) = absurd (held_or_closed db r x y)
    one_widened _ _ (is_too_wide {db = db} x wider long) (is_narrowed {db = other} {relation = n} y first_one) = absurd (narrow_or_wide other n first_one (same_wider other db (sym (same_db db other x y)) wider))
    one_widened _ _ (is_too_wide {db = db} x wider long) (is_wide {db = other} y too short) = absurd (wide_or_long other db (sym (same_db db other x y)) short long)
    one_widened _ _ (is_too_wide {db = db} x wider long) (is_too_wide {db = other} y too past) = ap too_long (same_db db other x y)

  one_done : (hosts : List Host) (command : Command) (p : Program_tree) (a b : Outcome) → Performs hosts p s command a → Performs hosts p t command b → a ≡ b
  one_done hosts _ p _ _ checks checks = refl
  one_done hosts _ p _ _ lists lists = refl
  one_done hosts _ p _ _ evaluates evaluates = refl
  one_done hosts _ p _ _ (makes {outcome = a} x) (makes {outcome = b} y) = one_made p.relations a b x y
  one_done hosts _ p _ _ (widens {outcome = a} x) (widens {outcome = b} y) = one_widened p.relations a b x y
  one_done hosts _ p _ _ (runs {turns} {outcome = a} x) (runs {outcome = b} y) = one_run hosts turns p a b x y

  fits_or_not : (db other : Database) → db ≡ other → length (half_with db) ≤ half_limit → half_limit < length (half_with other) → ⊥
  fits_or_not db other same short long =
      let here : half_limit < length (half_with db) = subst (λ (d : Database). half_limit < length (half_with d)) (sym same) long in
      omega arith

  -- ---- relations by their names

  module _ (name : List ℕ) where
    named_or_none : (db other : Database) (rel : ℕ) → db ≡ other → number_named name db.catalogue ≡ Some rel → number_named name other.catalogue ≡ None → ⊥
    named_or_none db other rel same named none = none-some rel (sym none ∙ subst (λ (d : Database). number_named name d.catalogue ≡ Some rel) same named)

    same_number : (db other : Database) (rel number : ℕ) → db ≡ other → number_named name db.catalogue ≡ Some rel → number_named name other.catalogue ≡ Some number → rel ≡ number
    same_number db other rel number same named also = same_Some rel number (sym (subst (λ (d : Database). number_named name d.catalogue ≡ Some rel) same named) ∙ also)

    same_text : (db other : Database) (rel number : ℕ) → db ≡ other → rel ≡ number → prints (csv_of (schema_of db.catalogue rel) (rows_at db.state rel)) ≡ prints (csv_of (schema_of other.catalogue number) (rows_at other.state number))
    same_text db other rel number same is =
        ap (λ (d : Database). prints (csv_of (schema_of d.catalogue rel) (rows_at d.state rel))) same ∙ ap (λ (n : ℕ). prints (csv_of (schema_of other.catalogue n) (rows_at other.state n))) is

    pub one_exported : (a b : Outcome) → ExportsTo name s a → ExportsTo name t b → a ≡ b
    one_exported _ _ (shut {refusal = r} x) (shut {refusal = q} y) = one_closed r q x y
    one_exported _ _ (shut {refusal = r} x) (unknown {db = db} y none) = absurd (closed_or_held r db x y)
    one_exported _ _ (shut {refusal = r} x) (writes {db = db} y named) = absurd (closed_or_held r db x y)
    one_exported _ _ (unknown {db = db} x none) (shut {refusal = r} y) = absurd (held_or_closed db r x y)
    one_exported _ _ (unknown {db = db} x none) (unknown {db = other} y nothing) = refl
    one_exported _ _ (unknown {db = db} x none) (writes {db = other} {rel = n} y named) = absurd (named_or_none other db n (sym (same_db db other x y)) named none)
    one_exported _ _ (writes {db = db} {rel = m} x named) (shut {refusal = r} y) = absurd (held_or_closed db r x y)
    one_exported _ _ (writes {db = db} {rel = m} x named) (unknown {db = other} y none) = absurd (named_or_none db other m (same_db db other x y) named none)
    one_exported _ _ (writes {db = db} {rel = m} x named) (writes {db = other} {rel = n} y also) =
        let same = same_db db other x y in
        same_text db other m n same (same_number db other m n same named also)

    module _ (file : List ℕ) where
      same_bad : (db other : Database) (rel number : ℕ) → db ≡ other → number_named name db.catalogue ≡ Some rel → number_named name other.catalogue ≡ Some number → bad_in (schema_of db.catalogue rel) (records_of file) ≡ bad_in (schema_of other.catalogue number) (records_of file)
      same_bad db other rel number same named also =
          ap (λ (d : Database). bad_in (schema_of d.catalogue rel) (records_of file)) same
          ∙ ap (λ (n : ℕ). bad_in (schema_of other.catalogue n) (records_of file)) (same_number db other rel number same named also)

      bad_or_good : (db other : Database) (rel number at : ℕ) → db ≡ other → number_named name db.catalogue ≡ Some rel → bad_in (schema_of db.catalogue rel) (records_of file) ≡ Some at → IsGood other name file number → ⊥
      bad_or_good db other rel number at same named bad good = none-some at (sym good.good ∙ sym (same_bad db other rel number same named good.named) ∙ bad)

      same_import : (db other : Database) (rel number gate next : ℕ) → db ≡ other → rel ≡ number → gate ≡ next → outcome_from db gate (import_of db rel file) ≡ outcome_from other next (import_of other number file)
      same_import db other rel number gate next same is place =
          ap (λ (d : Database). outcome_from d gate (import_of d rel file)) same
          ∙ ap (λ (n : ℕ). outcome_from other gate (import_of other n file)) is
          ∙ ap (λ (n : ℕ). outcome_from other n (import_of other number file)) place

      one_imported : (a b : Outcome) → ImportsTo name file s a → ImportsTo name file t b → a ≡ b
      one_imported _ _ (import_closed {refusal = r} x) (import_closed {refusal = q} y) = one_closed r q x y
      one_imported _ _ (import_closed {refusal = r} x) (import_lacks {db = other} y nothing) = absurd (closed_or_held r other x y)
      one_imported _ _ (import_closed {refusal = r} x) (import_refuses {db = other} {rel = n} {number = j} y also worse) = absurd (closed_or_held r other x y)
      one_imported _ _ (import_closed {refusal = r} x) (import_overflows {db = other} {rel = n} y fine over) = absurd (closed_or_held r other x y)
      one_imported _ _ (import_closed {refusal = r} x) (imports {db = other} {rel = n} {gate = h} y fine ends) = absurd (closed_or_held r other x y)
      one_imported _ _ (import_lacks {db = db} x none) (import_closed {refusal = q} y) = absurd (held_or_closed db q x y)
      one_imported _ _ (import_lacks {db = db} x none) (import_lacks {db = other} y nothing) = refl
      one_imported _ _ (import_lacks {db = db} x none) (import_refuses {db = other} {rel = n} {number = j} y also worse) = absurd (named_or_none other db n (sym (same_db db other x y)) also none)
      one_imported _ _ (import_lacks {db = db} x none) (import_overflows {db = other} {rel = n} y fine over) = absurd (named_or_none other db n (sym (same_db db other x y)) fine.named none)
      one_imported _ _ (import_lacks {db = db} x none) (imports {db = other} {rel = n} {gate = h} y fine ends) = absurd (named_or_none other db n (sym (same_db db other x y)) fine.named none)
      one_imported _ _ (import_refuses {db = db} {rel = m} {number = i} x named bad) (import_closed {refusal = q} y) = absurd (held_or_closed db q x y)
      one_imported _ _ (import_refuses {db = db} {rel = m} {number = i} x named bad) (import_lacks {db = other} y nothing) = absurd (named_or_none db other m (same_db db other x y) named nothing)
      one_imported _ _ (import_refuses {db = db} {rel = m} {number = i} x named bad) (import_refuses {db = other} {rel = n} {number = j} y also worse) = ap (λ (k : ℕ). refused (bad_record k)) (same_Some i j (sym bad ∙ same_bad db other m n (same_db db other x y) named also ∙ worse))
      one_imported _ _ (import_refuses {db = db} {rel = m} {number = i} x named bad) (import_overflows {db = other} {rel = n} y fine over) = absurd (bad_or_good db other m n i (same_db db other x y) named bad fine)
      one_imported _ _ (import_refuses {db = db} {rel = m} {number = i} x named bad) (imports {db = other} {rel = n} {gate = h} y fine ends) = absurd (bad_or_good db other m n i (same_db db other x y) named bad fine)
      one_imported _ _ (import_overflows {db = db} {rel = m} x good past) (import_closed {refusal = q} y) = absurd (held_or_closed db q x y)
      one_imported _ _ (import_overflows {db = db} {rel = m} x good past) (import_lacks {db = other} y nothing) = absurd (named_or_none db other m (same_db db other x y) good.named nothing)
      one_imported _ _ (import_overflows {db = db} {rel = m} x good past) (import_refuses {db = other} {rel = n} {number = j} y also worse) = absurd (bad_or_good other db n m j (sym (same_db db other x y)) also worse good)
      one_imported _ _ (import_overflows {db = db} {rel = m} x good past) (import_overflows {db = other} {rel = n} y fine over) = ap too_long (same_db db other x y)
      one_imported _ _ (import_overflows {db = db} {rel = m} x good past) (imports {db = other} {rel = n} {gate = h} y fine ends) = absurd (full_or_starts end version files db h (full_first db past) (subst (λ (d : Database). StartsAt files d h) (sym (same_db db other x y)) (starts_second other h ends)))
      one_imported _ _ (imports {db = db} {rel = m} {gate = g} x good starts) (import_closed {refusal = q} y) = absurd (held_or_closed db q x y)
      one_imported _ _ (imports {db = db} {rel = m} {gate = g} x good starts) (import_lacks {db = other} y nothing) = absurd (named_or_none db other m (same_db db other x y) good.named nothing)
      one_imported _ _ (imports {db = db} {rel = m} {gate = g} x good starts) (import_refuses {db = other} {rel = n} {number = j} y also worse) = absurd (bad_or_good other db n m j (sym (same_db db other x y)) also worse good)
      one_imported _ _ (imports {db = db} {rel = m} {gate = g} x good starts) (import_overflows {db = other} {rel = n} y fine over) = absurd (full_or_starts end version files other g (full_second other over) (subst (λ (d : Database). StartsAt files d g) (same_db db other x y) (starts_first db g starts)))
      one_imported _ _ (imports {db = db} {rel = m} {gate = g} x good starts) (imports {db = other} {rel = n} {gate = h} y fine ends) = let same = same_db db other x y in same_import db other m n g h same (same_number db other m n same good.named fine.named) (gate_same end version files db g h (starts_first db g starts) (subst (λ (d : Database). StartsAt files d h) (sym same) (starts_second other h ends)))

  pub one_found : (command : Command) (a b : Outcome) → Finds s command a → Finds t command b → a ≡ b
  one_found command _ _ (closed {refusal = r} x) (closed {refusal = q} y) = one_closed r q x y
  one_found _ _ _ (closed {refusal = r} x) (dumps {db = db} y) = absurd (closed_or_held r db x y)
  one_found _ _ _ (closed {refusal = r} x) (renews {db = db} y short) = absurd (closed_or_held r db x y)
  one_found _ _ _ (closed {refusal = r} x) (overflows {db = db} y long) = absurd (closed_or_held r db x y)
  one_found _ _ _ (dumps {db = db} x) (closed {refusal = r} y) = absurd (held_or_closed db r x y)
  one_found _ _ _ (dumps {db = db} x) (dumps {db = other} y) = ap (λ (d : Database). prints (tables_text d.catalogue d.state)) (same_db db other x y)
  one_found _ _ _ (renews {db = db} x short) (closed {refusal = r} y) = absurd (held_or_closed db r x y)
  one_found _ _ _ (renews {db = db} x short) (renews {db = other} y too) = ap renewed (same_db db other x y)
  one_found _ _ _ (renews {db = db} x short) (overflows {db = other} y long) = absurd (fits_or_not db other (same_db db other x y) short long)
  one_found _ _ _ (overflows {db = db} x long) (closed {refusal = r} y) = absurd (held_or_closed db r x y)
  one_found _ _ _ (overflows {db = db} x long) (renews {db = other} y short) = absurd (fits_or_not other db (sym (same_db db other x y)) short long)
  one_found _ _ _ (overflows {db = db} x long) (overflows {db = other} y too) = ap too_long (same_db db other x y)

  -- ---- sources

  pub one_of_file : (name : List ℕ) (texts : List (List ℕ)) (before now later after : List Seen) (a b : Outcome) → HaveLeft texts before → HaveLeft texts later → OfFile name s before now a → OfFile name t later after b → a ≢ refused Unread → b ≢ refused Unread → a ≡ b
  one_of_file name texts _ _ _ _ _ b x y (misses is) second_one not_a not_b = absurd (not_a refl)
  one_of_file name texts _ _ _ _ _ _ x y (is_too_much file read long) (misses is) not_a not_b = absurd (not_b refl)
  one_of_file name texts _ _ _ _ _ _ x y (is_too_much file read long) (is_too_much other_file also_read past) not_a not_b = refl
  one_of_file name texts _ _ _ _ _ _ x y (is_too_much {b = p} {n = q} file read long) (takes {b = m} {n = k} other_file also_read short came) not_a not_b =
      let over = long_text data_limit (first_text texts) file p q (told_text p texts x) read long in
      let whole = ap length (whole_text data_limit (first_text texts) other_file m k (told_text m texts y) also_read short) in
      absurd (omega (arith, over, whole, short))
  one_of_file name texts _ _ _ _ a _ x y (takes file read short came) (misses is) not_a not_b = absurd (not_b refl)
  one_of_file name texts _ _ _ _ a _ x y (takes {b = p} {n = q} file read short came) (is_too_much {b = m} {n = k} other_file also_read long) not_a not_b =
      let over = long_text data_limit (first_text texts) other_file m k (told_text m texts y) also_read long in
      let whole = ap length (whole_text data_limit (first_text texts) file p q (told_text p texts x) read short) in
      absurd (omega (arith, over, whole, short))
  one_of_file name texts _ _ _ _ a b x y (takes {b = p} {n = q} file read short came) (takes {b = m} {n = k} other_file also_read fits too) not_a not_b =
      let here = whole_text data_limit (first_text texts) file p q (told_text p texts x) read short in
      let there = whole_text data_limit (first_text texts) other_file m k (told_text m texts y) also_read fits in
      one_imported name file a b came (subst (λ (l : List ℕ). ImportsTo name l t b) (sym there ∙ here) too)

  pub one_of_script : OneRefusal → NeverBoth → OneProgram → (hosts : List Host) (command : Command) (texts : List (List ℕ)) (before now later after : List Seen) (a b : Outcome)
      → HaveLeft texts before → HaveLeft texts later → OfScript hosts command s before now a → OfScript hosts command t later after b → a ≢ refused Unread → b ≢ refused Unread → a ≡ b
  one_of_script refusal never program hosts command texts _ _ _ _ _ b x y (unread is) second_one not_a not_b = absurd (not_a refl)
  one_of_script refusal never program hosts command texts _ _ _ _ a _ x y (reads script read came) (unread is) not_a not_b = absurd (not_b refl)
  one_of_script refusal never program hosts command texts _ _ _ _ a b x y (reads {b = p} {n = q} script read came) (reads {b = m} {n = k} other_script also_read too) not_a not_b =
      one_for refusal never program hosts command (first_text texts) s t (one_done hosts command) a b
      (told_outcome hosts command (first_text texts) script p q s a (told_text p texts x) read came) (told_outcome hosts command (first_text texts) other_script m k t b (told_text m texts y) also_read too)
