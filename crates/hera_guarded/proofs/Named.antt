-- The hosts of guards have the names that their lines give, and lines that mean guards have no fault.
use Rattle.std.proofs.Common.{◌≡◌, ◌⊎◌, ⊎_elim, ℕ, zero, suc, ◌+◌, ◌<◌, Bool, true, false, cond, List, [], ◌∷◌, Option, None, Some, refl, sym, ap, ◌∙◌, subst, length, arith, slice_get}
use Rattle.std.specs.List.{position_from}
use Rattle.std.proofs.lemmas.Option.{none-some, same_Some}
use Rattle.hera_sets.specs.Rows.{is_same}
use Rattle.hera_sets.proofs.Order.{same_true}
use Rattle.hera_meaning.specs.declared.schemas.RelDecl.{RelDecl}
use Rattle.hera_meaning.specs.Schemas.{place_named}
use Rattle.hera_meaning.specs.Deltas.{schema_of}
use Rattle.hera_row.specs.Numbers.{number_named}
use Rattle.hera_host.specs.Tables.{Host, host_named}
use Rattle.hera_bind.specs.Having.{AllHas, IsFirstMissing}
use Rattle.hera_bind.proofs.Found.{all_no_difference, missing_differs}
use Rattle.hera_guard.specs.declared.table.Guard.{Guard}
use Rattle.hera_guard.specs.Guarded.{host_name, guard_name}
use Rattle.hera_guard_lines.specs.declared.lines.GuardLine.{GuardLine}
use Rattle.hera_guard_lines.specs.declared.naming.NameFault.{NameFault}
use Rattle.hera_guard_lines.specs.declared.naming.NameFault.TheVariants.{Unknown, Mismatch, Memory}
use Rattle.hera_guard_lines.specs.Naming.{Meaning, means, faulty, fits, by_host, by_attribute, by_relation, meaning_of, Mean, none, one_more, FirstFault, here, later}
use Rattle.hera_script.specs.declared.cause.Cause.TheVariants as causes
use Rattle.hera_outcome.specs.declared.answer.Stop.{Stop}
use Rattle.hera_outcome.specs.declared.answer.Stop.TheVariants as stops
use Rattle.hera_outcome.specs.declared.refusal.Refusal.{Refusal}
use Rattle.hera_outcome.specs.declared.refusal.Refusal.TheVariants.{Differing, Script}
use Rattle.hera_guarded.specs.Guarding.{IsUnfit, differs, unknown, mismatched, IsUnruled}

-- ---- names

-- a host that is found by a name has it
abbrev Found : List ℕ → List Host → ℕ → ℕ → Type 0
Found name hosts i k = (j : ℕ) × (k ≡ i + j) × (host_name hosts j ≡ name)

one_found : (name : List ℕ) (x : Host) (hosts : List Host) (i k : ℕ) (b : Bool) (others : Option ℕ) → is_same name x.name ≡ b → (others ≡ Some k → Found name hosts (i + 1) k) → cond b (Some i) others ≡ Some k → Found name (x ∷ hosts) i k
one_found name x hosts i k true others same next e = let at = same_Some i k e in (0, omega (arith, at), sym (same_true name x.name same))
one_found name x hosts i k false others other next e = let (j, at, is) = next e in (suc j, omega (arith, at), is)

name_found : (name : List ℕ) (hosts : List Host) (i k : ℕ) → position_from (λ (h : Host). is_same name h.name) i hosts ≡ Some k → Found name hosts i k
name_found name [] i k e = absurd (none-some k e)
name_found name (x ∷ hosts) i k e = one_found name x hosts i k (is_same name x.name) (position_from (λ (h : Host). is_same name h.name) (i + 1) hosts) refl (name_found name hosts (i + 1) k) e

pub named_host : (name : List ℕ) (hosts : List Host) (h : ℕ) → host_named name hosts ≡ Some h → host_name hosts h ≡ name
named_host name hosts h e =
    let (j, at, is) = name_found name hosts 0 h e in
    let same : h ≡ j = omega (arith, at) in
    ap (host_name hosts) same ∙ is

-- the host of what a line means, 0 where that is a fault
host_in : Meaning → ℕ
host_in (means g) = g.host
host_in (faulty fault) = 0

faulty_is_not_meant : (fault : NameFault) (g : Guard) → faulty fault ≡ means g → ⊥
faulty_is_not_meant fault g e = cc (e)

module _ (rels : List RelDecl) (hosts : List Host) (l : GuardLine) (g : Guard) where
  meant_host : (r place h : ℕ) (b : Bool) → host_named l.host.name hosts ≡ Some h → cond b (means (record { rel = record { 0 = r }; place = place; host = h })) (faulty (Mismatch l.host.at)) ≡ means g → host_name hosts g.host ≡ l.host.name
  unfolding host_in
  meant_host r place h true is e = ap (host_name hosts) (sym (ap host_in e)) ∙ named_host l.host.name hosts h is
  meant_host r place h false is e = absurd (faulty_is_not_meant _ g e)

  at_host : (r place : ℕ) (o : Option ℕ) → host_named l.host.name hosts ≡ o → by_host rels hosts l r place o ≡ means g → host_name hosts g.host ≡ l.host.name
  at_host r place None is e = absurd (faulty_is_not_meant _ g e)
  at_host r place (Some h) is e = meant_host r place h (fits (schema_of rels r) place hosts h) is e

  at_attribute : (r : ℕ) (o : Option ℕ) → by_attribute rels hosts l r o ≡ means g → host_name hosts g.host ≡ l.host.name
  at_attribute r None e = absurd (faulty_is_not_meant _ g e)
  at_attribute r (Some place) e = at_host r place (host_named l.host.name hosts) refl e

  at_relation : (o : Option ℕ) → by_relation rels hosts l o ≡ means g → host_name hosts g.host ≡ l.host.name
  at_relation None e = absurd (faulty_is_not_meant _ g e)
  at_relation (Some r) e = at_attribute r (place_named l.attribute.name (schema_of rels r)) e

  line_host : meaning_of rels hosts l ≡ means g → host_name hosts g.host ≡ l.host.name
  line_host e = at_relation (number_named l.relation.name rels) e

-- the host of each guard has the name that its line gives
pub mean_name : (rels : List RelDecl) (hosts : List Host) (lines : List GuardLine) (guards : List Guard) (n : ℕ) (l : GuardLine) → Mean rels hosts lines guards → slice_get lines n ≡ Some l → l.host.name ≡ guard_name hosts guards n
mean_name rels hosts _ _ n l none e = absurd (none-some l e)
mean_name rels hosts _ _ zero l (one_more {l = first} {g = g} means_it rest) e = ap (λ (x : GuardLine). x.host.name) (sym (same_Some first l e)) ∙ sym (line_host rels hosts first g means_it)
mean_name rels hosts _ _ (suc n) l (one_more {lines = lines} {guards = guards} means_it rest) e = mean_name rels hosts lines guards n l rest e

pub mean_length : (rels : List RelDecl) (hosts : List Host) (lines : List GuardLine) (guards : List Guard) → Mean rels hosts lines guards → length lines ≡ length guards
mean_length rels hosts _ _ none = refl
mean_length rels hosts _ _ (one_more {lines = lines} {guards = guards} means_it rest) = ap suc (mean_length rels hosts lines guards rest)

-- ---- faults

no_fault : (rels : List RelDecl) (hosts : List Host) (lines : List GuardLine) (guards : List Guard) (fault : NameFault) → Mean rels hosts lines guards → FirstFault rels hosts lines fault → ⊥
no_fault rels hosts _ _ fault none x = elim x [ ]
no_fault rels hosts _ _ fault (one_more {g = g} is rest) (here e) = faulty_is_not_meant fault g (sym e ∙ is)
no_fault rels hosts _ _ fault (one_more {lines = lines} {guards = guards} is rest) (later e first) = no_fault rels hosts lines guards fault rest first

abbrev meant_in : Guard → Meaning → Guard
meant_in d (means g) = g
meant_in d (faulty fault) = d

abbrev fault_in : NameFault → Meaning → NameFault
fault_in d (means g) = d
fault_in d (faulty fault) = fault

-- lines mean one list of guards
pub one_mean : (rels : List RelDecl) (hosts : List Host) (lines : List GuardLine) (guards more : List Guard) → Mean rels hosts lines guards → Mean rels hosts lines more → guards ≡ more
one_mean rels hosts _ _ _ none none = refl
one_mean rels hosts _ _ _ (one_more {g = g} {lines = lines} {guards = guards} is rest) (one_more {g = h} {guards = more} too others) =
    let same : g ≡ h = ap (meant_in g) (sym is ∙ too) in
    ap (λ (x : Guard). x ∷ guards) same ∙ ap (λ (xs : List Guard). h ∷ xs) (one_mean rels hosts lines guards more rest others)

-- or have one first fault
pub one_fault : (rels : List RelDecl) (hosts : List Host) (lines : List GuardLine) (fault other : NameFault) → FirstFault rels hosts lines fault → FirstFault rels hosts lines other → fault ≡ other
one_fault rels hosts _ fault other (here e) (here d) = ap (fault_in fault) (sym e ∙ d)
one_fault rels hosts _ fault other (here e) (later {g = g} d rest) = absurd (faulty_is_not_meant fault g (sym e ∙ d))
one_fault rels hosts _ fault other (later {g = g} e rest) (here d) = absurd (faulty_is_not_meant other g (sym d ∙ e))
one_fault rels hosts _ fault other (later {lines = lines} e first) (later d second) = one_fault rels hosts lines fault other first second

-- what fits the program and the lines is not refused
pub never_unfit : (hosts : List Host) (lines : List GuardLine) (own rels : List RelDecl) (guards : List Guard) (refusal : Refusal) → AllHas rels own → Mean rels hosts lines guards → IsUnfit hosts lines own rels refusal → ⊥
never_unfit hosts lines own rels guards _ has mean (differs {name = name} d) = all_no_difference rels own name has d
never_unfit hosts lines own rels guards _ has mean (unknown {at = at} all first) = no_fault rels hosts lines guards (Unknown at) mean first
never_unfit hosts lines own rels guards _ has mean (mismatched {at = at} all first) = no_fault rels hosts lines guards (Mismatch at) mean first

-- there is an element at each place before the end
pub there_is : {A : Type 0} (xs : List A) (n : ℕ) → n < length xs → (x : A) × (slice_get xs n ≡ Some x)
there_is [] n h = absurd (omega (arith, h))
there_is (x ∷ xs) zero h = (x, refl)
there_is (x ∷ xs) (suc n) h = there_is xs n (omega (arith, h))

-- ---- stops

own_fault : (rels : List RelDecl) (hosts : List Host) (lines : List GuardLine) (fault own : NameFault) → (fault ≡ Memory) ⊎ FirstFault rels hosts lines fault → fault ≡ own → (own ≡ Memory → ⊥) → FirstFault rels hosts lines own
own_fault rels hosts lines fault own first is other = ⊎_elim (λ memory. absurd (other (sym is ∙ memory))) (λ found. subst (FirstFault rels hosts lines) is found) first

pub unknown_unruled : (hosts : List Host) (lines : List GuardLine) (own rels : List RelDecl) (fault : NameFault) (at : ℕ) (stop : Stop) → AllHas rels own → (fault ≡ Memory) ⊎ FirstFault rels hosts lines fault → fault ≡ Unknown at
    → stop ≡ stops.Refused (Script causes.Unknown at) → IsUnruled hosts lines own rels stop
unknown_unruled hosts lines own rels fault at stop has first is told = subst (IsUnruled hosts lines own rels) (sym told) (unknown has (own_fault rels hosts lines fault (Unknown at) first is (λ h. cc (h))))

pub mismatched_unruled : (hosts : List Host) (lines : List GuardLine) (own rels : List RelDecl) (fault : NameFault) (at : ℕ) (stop : Stop) → AllHas rels own → (fault ≡ Memory) ⊎ FirstFault rels hosts lines fault → fault ≡ Mismatch at
    → stop ≡ stops.Refused (Script causes.Mismatch at) → IsUnruled hosts lines own rels stop
mismatched_unruled hosts lines own rels fault at stop has first is told = subst (IsUnruled hosts lines own rels) (sym told) (mismatched has (own_fault rels hosts lines fault (Mismatch at) first is (λ h. cc (h))))

pub differing_unruled : (hosts : List Host) (lines : List GuardLine) (own rels : List RelDecl) (place : ℕ) (d : RelDecl) (stop : Stop) → IsFirstMissing rels own place → slice_get own place ≡ Some d
    → (stop ≡ stops.Memory) ⊎ (stop ≡ stops.Refused (Differing d.name)) → IsUnruled hosts lines own rels stop
differing_unruled hosts lines own rels place d stop missing at told =
    ⊎_elim (λ memory. subst (IsUnruled hosts lines own rels) (sym memory) tt) (λ refused. subst (IsUnruled hosts lines own rels) (sym refused) (differs (missing_differs rels own place d missing at))) told
