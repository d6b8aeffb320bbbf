-- What the names of a line mean, step by step.
use Rattle.std.proofs.Common.{◌≡◌, ℕ, zero, suc, ◌+◌, ◌<◌, Bool, true, false, cond, List, [], ◌∷◌, ◌++◌, Some, None, refl, sym, ap, ◌∙◌, subst, length, drop, get_or, drop-cons, add-one, append_assoc, append-nil, arith, slice_get}
use Rattle.std.specs.List.{position_from}
use Rattle.std.proofs.lemmas.Option.{none-some, same_Some, slice_get_within}
use Rattle.std.proofs.lemmas.Bool.{and_parts}
use Rattle.hera_meaning.specs.declared.scalars.Kind.{Kind}
use Rattle.hera_meaning.specs.declared.scalars.Kind.TheVariants.{Int as int_kind, Bool as bool_kind, Text as text_kind}
use Rattle.hera_meaning.specs.declared.schemas.Attr.{Attr}
use Rattle.hera_meaning.specs.Scalars.{is_same_kind}
use Rattle.hera_meaning.specs.Forms.{kind_at}
use Rattle.hera_guard.specs.Guards.{Suits, IsGuard}
use Rattle.hera_meaning.specs.declared.schemas.RelDecl.{RelDecl}
use Rattle.hera_meaning.specs.Schemas.{place_named}
use Rattle.hera_meaning.specs.Deltas.{schema_of}
use Rattle.hera_row.specs.Numbers.{number_named}
use Rattle.hera_host.specs.Tables.{Host, host_named, takes_at, gives_at}
use Rattle.hera_guard.specs.declared.table.Guard.{Guard}
use Rattle.hera_guard_lines.specs.declared.lines.GuardLine.{GuardLine}
use Rattle.hera_guard_lines.specs.declared.naming.NameFault.{NameFault}
use Rattle.hera_guard_lines.specs.declared.naming.NameFault.TheVariants.{Unknown, Mismatch}
use Rattle.hera_guard_lines.specs.Naming.{means, faulty, fits, by_host, by_attribute, by_relation, meaning_of, Mean, none, one_more, FirstFault, here, later}

-- a place that is found is there
pub found_within : {A : Type 0} (test : A → Bool) (i : ℕ) (xs : List A) (k : ℕ) → position_from test i xs ≡ Some k → k < i + length xs
found_within test i [] k e = absurd (none-some k e)
found_within test i (x ∷ xs) k e =
    elim (test x) as (λ v. cond v (Some i) (position_from test (i + 1) xs) ≡ Some k → k < i + length (x ∷ xs)) [
      | true ↦ λ g. let same = same_Some i k g in omega (arith, same)
      | false ↦ λ g. let h = found_within test (i + 1) xs k g in omega (arith, h)
    ] e

-- the schema of a declared relation
pub schema_found : (rels : List RelDecl) (r : ℕ) (d : RelDecl) → slice_get rels r ≡ Some d → schema_of rels r ≡ d.schema
schema_found [] r d e = absurd (none-some d e)
schema_found (x ∷ rels) zero d e = ap (λ (y : RelDecl). y.schema) (same_Some x d e)
schema_found (x ∷ rels) (suc r) d e = schema_found rels r d e

-- the kind of the attribute at a place
pub kind_found : (schema : List Attr) (i : ℕ) (a : Attr) → slice_get schema i ≡ Some a → kind_at schema i ≡ a.kind
kind_found [] i a e = absurd (none-some a e)
kind_found (x ∷ schema) zero a e = ap (λ (y : Attr). y.kind) (same_Some x a e)
kind_found (x ∷ schema) (suc i) a e = kind_found schema i a e

kind_same : (a b : Kind) → is_same_kind a b ≡ true → a ≡ b
kind_same int_kind int_kind e = refl
kind_same bool_kind bool_kind e = refl
kind_same text_kind text_kind e = refl
kind_same _ _ e = cc

-- a host that fits makes a guard
pub guard_suits : (rels : List RelDecl) (hosts : List Host) (r place h : ℕ) (d : RelDecl) → slice_get rels r ≡ Some d → place < length d.schema → h < length hosts → fits d.schema place hosts h ≡ true → IsGuard rels hosts (record { rel = record { 0 = r }; place = place; host = h })
guard_suits rels hosts r place h d there within named fit =
    let g : Guard = record { rel = record { 0 = r }; place = place; host = h } in
    let both = and_parts (is_same_kind bool_kind (gives_at hosts h)) (is_same_kind (kind_at d.schema place) (takes_at hosts h)) fit in
    let suits : Suits d.schema hosts g = record { place = within; host = named; answer = sym (kind_same bool_kind (gives_at hosts h) both.0); argument = sym (kind_same (kind_at d.schema place) (takes_at hosts h) both.1) } in
    record { relation = slice_get_within rels r d there; suits = subst (λ (s : List Attr). Suits s hosts g) (sym (schema_found rels r d there)) suits }

module _ (rels : List RelDecl) (hosts : List Host) (l : GuardLine) where
  -- the relation is not there
  pub no_relation : (name : List ℕ) → name ≡ l.relation.name → number_named name rels ≡ None → meaning_of rels hosts l ≡ faulty (Unknown l.relation.at)
  no_relation name same missing = ap (λ n. by_relation rels hosts l (number_named n rels)) (sym same) ∙ ap (by_relation rels hosts l) missing

  with_relation : (name : List ℕ) (r : ℕ) (d : RelDecl) → name ≡ l.relation.name → number_named name rels ≡ Some r → slice_get rels r ≡ Some d → meaning_of rels hosts l ≡ by_attribute rels hosts l r (place_named l.attribute.name d.schema)
  with_relation name r d same found there =
      ap (λ n. by_relation rels hosts l (number_named n rels)) (sym same) ∙ ap (by_relation rels hosts l) found ∙ ap (λ s. by_attribute rels hosts l r (place_named l.attribute.name s)) (schema_found rels r d there)

  -- the attribute is not there
  pub no_attribute : (name attr : List ℕ) (r : ℕ) (d : RelDecl) → name ≡ l.relation.name → number_named name rels ≡ Some r → slice_get rels r ≡ Some d → attr ≡ l.attribute.name → place_named attr d.schema ≡ None → meaning_of rels hosts l ≡ faulty (Unknown l.attribute.at)
  no_attribute name attr r d same found there same_attr missing =
      with_relation name r d same found there ∙ ap (λ n. by_attribute rels hosts l r (place_named n d.schema)) (sym same_attr) ∙ ap (by_attribute rels hosts l r) missing

  with_attribute : (name attr : List ℕ) (r place : ℕ) (d : RelDecl) → name ≡ l.relation.name → number_named name rels ≡ Some r → slice_get rels r ≡ Some d → attr ≡ l.attribute.name → place_named attr d.schema ≡ Some place → meaning_of rels hosts l ≡ by_host rels hosts l r place (host_named l.host.name hosts)
  with_attribute name attr r place d same found there same_attr at =
      with_relation name r d same found there ∙ ap (λ n. by_attribute rels hosts l r (place_named n d.schema)) (sym same_attr) ∙ ap (by_attribute rels hosts l r) at

  -- the host is not there
  pub no_host : (name attr host : List ℕ) (r place : ℕ) (d : RelDecl) → name ≡ l.relation.name → number_named name rels ≡ Some r → slice_get rels r ≡ Some d → attr ≡ l.attribute.name → place_named attr d.schema ≡ Some place → host ≡ l.host.name → host_named host hosts ≡ None →
      meaning_of rels hosts l ≡ faulty (Unknown l.host.at)
  no_host name attr host r place d same found there same_attr at same_host missing =
      with_attribute name attr r place d same found there same_attr at ∙ ap (λ n. by_host rels hosts l r place (host_named n hosts)) (sym same_host) ∙ ap (by_host rels hosts l r place) missing

  -- the host is there, and fits or not
  pub with_host : (name attr host : List ℕ) (r place h : ℕ) (d : RelDecl) (b : Bool) → name ≡ l.relation.name → number_named name rels ≡ Some r → slice_get rels r ≡ Some d → attr ≡ l.attribute.name → place_named attr d.schema ≡ Some place → host ≡ l.host.name → host_named host hosts ≡ Some h → fits d.schema place hosts h ≡ b →
      meaning_of rels hosts l ≡ cond b (means (record { rel = record { 0 = r }; place = place; host = h })) (faulty (Mismatch l.host.at))
  with_host name attr host r place h d b same found there same_attr at same_host named fit =
      with_attribute name attr r place d same found there same_attr at ∙ ap (λ n. by_host rels hosts l r place (host_named n hosts)) (sym same_host) ∙ ap (by_host rels hosts l r place) named
      ∙ ap (λ s. cond (fits s place hosts h) (means (record { rel = record { 0 = r }; place = place; host = h })) (faulty (Mismatch l.host.at))) (schema_found rels r d there)
      ∙ ap (λ v. cond v (means (record { rel = record { 0 = r }; place = place; host = h })) (faulty (Mismatch l.host.at))) fit

-- ---- line after line

-- the items from a place on begin with the one there
pub item_here : {A : Type 0} (xs : List A) (i : ℕ) (x : A) → i < length xs → x ≡ get_or xs i x → drop i xs ≡ x ∷ drop (i + 1) xs
item_here xs i x h e = drop-cons xs i x h ∙ (λ k. sym e k ∷ drop (sym (add-one i) k) xs)

module _ (rels : List RelDecl) (hosts : List Host) where
  pub mean_more : (all now after : List GuardLine) (l : GuardLine) (done next : List Guard) (g : Guard) → now ≡ l ∷ after → meaning_of rels hosts l ≡ means g → next ≡ done ++ g ∷ [] →
      ((more : List Guard) → Mean rels hosts now more → Mean rels hosts all (done ++ more)) → (more : List Guard) → Mean rels hosts after more → Mean rels hosts all (next ++ more)
  mean_more all now after l done next g is meaning pushed before more m =
      subst (λ gs. Mean rels hosts all gs) (sym (ap (λ gs. gs ++ more) pushed ∙ append_assoc done (g ∷ []) more)) (before (g ∷ more) (subst (λ ls. Mean rels hosts ls (g ∷ more)) (sym is) (one_more meaning m)))

  pub fault_more : (all now after : List GuardLine) (l : GuardLine) (g : Guard) → now ≡ l ∷ after → meaning_of rels hosts l ≡ means g →
      ((f : NameFault) → FirstFault rels hosts now f → FirstFault rels hosts all f) → (f : NameFault) → FirstFault rels hosts after f → FirstFault rels hosts all f
  fault_more all now after l g is meaning before f h = before f (subst (λ ls. FirstFault rels hosts ls f) (sym is) (later meaning h))

  pub fault_here : (all now after : List GuardLine) (l : GuardLine) (f : NameFault) → now ≡ l ∷ after → meaning_of rels hosts l ≡ faulty f →
      ((f : NameFault) → FirstFault rels hosts now f → FirstFault rels hosts all f) → FirstFault rels hosts all f
  fault_here all now after l f is meaning before = before f (subst (λ ls. FirstFault rels hosts ls f) (sym is) (here meaning))

  -- with no line left, the guards are all
  pub mean_end : (all now : List GuardLine) (done : List Guard) → now ≡ [] → ((more : List Guard) → Mean rels hosts now more → Mean rels hosts all (done ++ more)) → Mean rels hosts all done
  mean_end all now done e before = subst (λ gs. Mean rels hosts all gs) (append-nil done) (before [] (subst (λ ls. Mean rels hosts ls []) (sym e) none))
